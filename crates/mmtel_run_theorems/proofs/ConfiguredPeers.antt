-- In a configuration each number and each address of a peer occurs once.
use Rattle.std.proofs.Common.{◌≡◌, ◌+◌, ℕ, List, [], ◌∷◌, ◌++◌, length, refl, sym, ap, ◌∙◌, subst, append-nil, true, not, Option, Some, None, Result, Ok, Err, inl, inr}
use Rattle.std.specs.Prelude.{if◌then◌else◌}
use Rattle.std.specs.List.{flat_map}
use Rattle.std.proofs.lemmas.Bool.{cases_Bool}
use Rattle.std.proofs.lemmas.Grind.{flat_map-append}
use Rattle.std.proofs.lemmas.Option.{none-some}
use Rattle.mmtel_directory.specs.Directory.{directory_by, directory_from, directory_of, first_value, home_in, line_of, may_follow, next_config_line, peer_in, sip_in, table_of}
use Rattle.mmtel_directory.specs.Lines.{and_then, lines_by, lines_of}
use Rattle.mmtel_directory.specs.declared.config_lines.Line.{Line}
use Rattle.mmtel_directory.specs.declared.config_lines.Line.TheVariants as line
use Rattle.mmtel_directory.specs.declared.directories.Directory.{Directory}
use Rattle.mmtel_base.proofs.Runs.{and_true}
use Rattle.mmtel_base.specs.Chain.{◌>>=◌}
use Rattle.mmtel_trust.specs.Peers.{Peers, are_apart, has_addr, has_number}
use Rattle.mmtel_trust.specs.declared.known_peers.KnownPeer.{KnownPeer}
use Rattle.mmtel_types.specs.declared.addrs.Addr.{Addr}
use Rattle.mmtel_run_theorems.proofs.DistinctPeers.{apart_more, not_true, some_is}
use Rattle.mmtel_run_theorems.specs.SentBytes.{PeersAreApart}

-- the peers that these lines name have numbers and addresses of their own
abbrev Apart : List Line → Type 0
Apart said = are_apart (flat_map peer_in said) ≡ true

-- ---- one more line

one_more : (said : List Line) (x : Line) → flat_map peer_in (said ++ x ∷ []) ≡ flat_map peer_in said ++ peer_in x
one_more said x = flat_map-append peer_in said (x ∷ []) ∙ ap (λ (ks : List KnownPeer). flat_map peer_in said ++ ks) (append-nil (peer_in x))

none_more : (said : List Line) (x : Line) → peer_in x ≡ [] → Apart said → Apart (said ++ x ∷ [])
none_more said x none apart =
    subst (λ (ks : List KnownPeer). are_apart ks ≡ true)
    (sym (one_more said x ∙ (ap (λ (ks : List KnownPeer). flat_map peer_in said ++ ks) none ∙ append-nil (flat_map peer_in said)))) apart

line_more : (said : List Line) (x : Line) → may_follow said x ≡ true → Apart said → Apart (said ++ x ∷ [])
line_more said line.Comment may apart = none_more said line.Comment refl apart
line_more said (line.Sip addr) may apart = none_more said (line.Sip addr) refl apart
line_more said (line.Web addr) may apart = none_more said (line.Web addr) refl apart
line_more said (line.Home name) may apart = none_more said (line.Home name) refl apart
line_more said (line.Peer peer) may apart =
    let ks : List KnownPeer = flat_map peer_in said in
    let both = and_true (not (has_number peer.peer ks)) (not (has_addr peer.addr ks)) may in
    subst (λ (xs : List KnownPeer). are_apart xs ≡ true) (sym (one_more said (line.Peer peer)))
    (apart_more ks peer apart (not_true (has_number peer.peer ks) both.0) (not_true (has_addr peer.addr ks) both.1))
line_more said (line.Route route) may apart = none_more said (line.Route route) refl apart
line_more said (line.Account account uris) may apart = none_more said (line.Account account uris) refl apart
line_more said (line.Operator uri) may apart = none_more said (line.Operator uri) refl apart
line_more said (line.Factory uri) may apart = none_more said (line.Factory uri) refl apart
line_more said (line.Bound n) may apart = none_more said (line.Bound n) refl apart
line_more said (line.Country digits) may apart = none_more said (line.Country digits) refl apart
line_more said (line.Extension which) may apart = none_more said (line.Extension which) refl apart
line_more said (line.Mixer mixer) may apart = none_more said (line.Mixer mixer) refl apart
line_more said (line.Store name) may apart = none_more said (line.Store name) refl apart

-- ---- all lines

ok_is : {A : Type 0} (result : Result A ℕ) (x y : A) → result ≡ Ok x → result ≡ Ok y → x ≡ y
ok_is result x y e f = cc

stood : (said : List Line) (o : Option Line) (x : Line) → (o >>= (λ (y : Line). if may_follow said y then Some y else None)) ≡ Some x → may_follow said x ≡ true
stood said None x e = absurd (none-some x e)
stood said (Some y) x e =
    elim (cases_Bool (may_follow said y)) [
      | inl may ↦ subst (λ (z : Line). may_follow said z ≡ true) (some_is y x (rw may at e)) may
      | inr not ↦ absurd (none-some x (rw not at e))
    ]

line_then : (number : ℕ) (said : List Line) (texts : List (List ℕ)) (whole : List Line) (o : Option Line) → ((x : Line) → o ≡ Some x → may_follow said x ≡ true)
    → ((x : Line) → Apart (said ++ x ∷ []) → lines_by next_config_line (number + 1) (said ++ x ∷ []) texts ≡ Ok whole → Apart whole)
    → Apart said → and_then number o (λ (x : Line). lines_by next_config_line (number + 1) (said ++ x ∷ []) texts) ≡ Ok whole → Apart whole
line_then number said texts whole None may more apart e = absurd cc
line_then number said texts whole (Some x) may more apart e = more x (line_more said x (may x refl) apart) e

all_apart : (texts : List (List ℕ)) (number : ℕ) (said whole : List Line) → Apart said → lines_by next_config_line number said texts ≡ Ok whole → Apart whole
all_apart [] number said whole apart e = subst Apart (ok_is (Ok said) said whole refl e) apart
all_apart (text ∷ texts) number said whole apart e =
    line_then number said texts whole (next_config_line said text) (λ x is. stood said (line_of text) x is) (λ x. all_apart texts (number + 1) (said ++ x ∷ []) whole) apart e

-- ---- the directory

by_said : (last : ℕ) (sip : Option Addr) (home : Option (List ℕ)) (said : List Line) (d : Directory) → directory_by last sip home said ≡ Ok d → table_of said ≡ d.peers
by_said last None home said d e = absurd cc
by_said last (Some sip) None said d e = absurd cc
by_said last (Some sip) (Some home) said d e = ap (λ (x : Directory). x.peers) (ok_is (directory_by last (Some sip) (Some home) said) _ d refl e)

from_said : (last : ℕ) (result : Result (List Line) ℕ) (d : Directory) → ((whole : List Line) → result ≡ Ok whole → Apart whole) → directory_from last result ≡ Ok d
    → are_apart d.peers.known ≡ true
from_said last (Err number) d each e = absurd cc
from_said last (Ok whole) d each e =
    subst (λ (t : Peers). are_apart t.known ≡ true) (by_said last (first_value sip_in whole) (first_value home_in whole) whole d e) (each whole refl)

pub peers_apart : PeersAreApart
unfolding directory_of
peers_apart text d e =
    from_said (length (lines_of text) + 1) (lines_by next_config_line 1 [] (lines_of text)) d (λ whole is. all_apart (lines_of text) 1 [] whole refl is) e
