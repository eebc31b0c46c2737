-- What the theorems about a run require of a configuration and a token that were read: the home domain and the token are of one line each, each peer has a number and an address of its
-- own, and the branches that the server draws are read as they are written.
use Rattle.std.proofs.Common.{◌≡◌, ◌==◌, ◌<◌, true, ℕ, List, [], ◌∷◌, refl, length, Result, Ok, Err, arith}
use Rattle.std.proofs.lemmas.Bool.Decides.{nat_tests}
use Rattle.std.specs.Prelude.{IfOk}
use Rattle.std.specs.List.{list_all}
use Rattle.mmtel_call_theorems.specs.NoInjection.Messages.{HasNoInjection}
use Rattle.mmtel_directory.specs.Directory.{directory_of}
use Rattle.mmtel_directory.specs.declared.directories.Directory.{Directory}
use Rattle.mmtel_message.specs.Headers.{is_value_byte}
use Rattle.mmtel_run_theorems.specs.NoInjection.{HomesHaveNoInjection}
use Rattle.mmtel_run_theorems.specs.SentBytes.{PeersAreApart}
use Rattle.mmtel_run_theorems.specs.Noninterference.{BranchesAreRead, ConfigurationsAreRead}
use Rattle.mmtel_base.proofs.Runs.{and_true}
use Rattle.mmtel_trust.specs.Peers.{are_apart}
use Rattle.mmtel_words.specs.CommandLine.{is_hex, is_token}
use Rattle.mmtel_cli.specs.ReportsDue.{IsWellFormed}

-- ---- the token

digit_has_no_injection : (b : ℕ) → is_hex b ≡ true → is_value_byte b ≡ true
digit_has_no_injection b is = grind (arith, nat_tests, is)

digits_have_no_injection : (s : List ℕ) → list_all is_hex s ≡ true → HasNoInjection s
digits_have_no_injection [] all = refl
digits_have_no_injection (b ∷ s) all =
    let each = and_true (is_hex b) (list_all is_hex s) all in
    rw (digit_has_no_injection b each.0, digits_have_no_injection s each.1) refl

pub token_has_no_injection : (token : List ℕ) → is_token token ≡ true → HasNoInjection token
token_has_no_injection token is = digits_have_no_injection token (and_true (length token == 16) (list_all is_hex token) is).1

sixteen : (s : List ℕ) → (length s == 16) ≡ true → 0 < length s
sixteen s is = grind (arith, nat_tests, is)

-- ---- the configuration

-- what holds for one that was read
pub record Suits (directory : Directory) : Type 0 where
  pub home : HasNoInjection directory.home
  pub apart : are_apart directory.peers.known ≡ true
  pub branches : (token : List ℕ) → is_token token ≡ true → BranchesAreRead directory token

module _ (homes : HomesHaveNoInjection) (apart : PeersAreApart) (reads : ConfigurationsAreRead) (text : List ℕ) where
  suits : (directory : Directory) → directory_of text ≡ Ok directory → Suits directory
  suits directory is = record {
    home = homes text directory is;
    apart = apart text directory is;
    branches = λ token. λ right.
        let both = and_true (length token == 16) (list_all is_hex token) right in
        reads text directory token is (sixteen token both.0) both.1;
  }

  suits_as : (read : Result Directory ℕ) → directory_of text ≡ read → IfOk read Suits
  suits_as (Ok directory) is = suits directory is
  suits_as (Err line) is = tt

  pub directory_suits : IfOk (directory_of text) Suits
  directory_suits = suits_as (directory_of text) refl

-- so it can be served
pub well_formed : (directory : Directory) (token : List ℕ) → Suits directory → is_token token ≡ true → IsWellFormed directory token
well_formed directory token suits right = record {
  home = suits.home;
  no_injection = token_has_no_injection token right;
  distinct_peers = suits.apart;
  branches = suits.branches token right;
}
