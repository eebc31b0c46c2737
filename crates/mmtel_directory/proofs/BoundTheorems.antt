-- The bound on diversions of a configuration is at most 16.
use Rattle.std.proofs.Common.{◌≡◌, ◌≤◌, Bool, true, false, cond, ℕ, ◌+◌, List, [], ◌∷◌, ◌++◌, Option, Some, None, Result, Ok, Err, refl, subst, arith}
use Rattle.std.specs.Prelude.{IfSome, IfOk, unwrap_or}
use Rattle.std.specs.List.{flat_map}
use Rattle.mmtel_lex.specs.Reading.{uri_of}
use Rattle.mmtel_base.specs.Chain.{◌>>=◌}
use Rattle.mmtel_base.specs.Numbers.{has_leading_zero, number_of, plain_number}
use Rattle.mmtel_base.specs.Scanning.{split_once_at}
use Rattle.mmtel_base.proofs.ChainTheorems.{unless_some}
use Rattle.mmtel_base.proofs.NumberTheorems.{number_takes}
use Rattle.mmtel_types.specs.declared.addrs.Addr.{Addr}
use Rattle.mmtel_directory.specs.declared.config_lines.Line.{Line}
use Rattle.mmtel_directory.specs.declared.config_lines.Line.TheVariants as line
use Rattle.mmtel_directory.specs.declared.config_lines.LineKind.{LineKind}
use Rattle.mmtel_directory.specs.declared.config_lines.LineKind.TheVariants as kind
use Rattle.mmtel_directory.specs.declared.directories.Directory.{Directory}
use Rattle.mmtel_directory.specs.declared.directories.DirectoryFault.{DirectoryFault}
use Rattle.mmtel_directory.specs.Lines.{lines_of, is_comment, number_from, and_then, lines_by}
use Rattle.mmtel_directory.specs.Directory.{ip_of, addr_of, is_host, trust_of, peer_of, readable, identities_of, is_country, extension_of}
use Rattle.mmtel_directory.specs.Directory.{is_store_name, route_words, account_words, kind_and_rest, line_of_words, line_of_kind, line_of}
use Rattle.mmtel_directory.specs.Directory.{bound_in, may_follow, next_config_line, first_of, first_value, directory_by, directory_from, directory_of, default_bound, sip_in, home_in, ReadsDirectory}
use Rattle.mmtel_directory.proofs.DraftTheorems.{one_more}

abbrev IsInRange : ℕ → Type 0
IsInRange n = n ≤ 16

-- the bound of the line, where it sets one
abbrev IsSmall : Line → Type 0
IsSmall l = IfSome (first_of (bound_in l)) IsInRange

-- the bound of the lines, where one of them sets one
abbrev AreSmall : List Line → Type 0
AreSmall said = IfSome (first_value bound_in said) IsInRange

-- ---- one line

number_within : (most : ℕ) (s : List ℕ) (read : Option ℕ) → plain_number most s ≡ read → IfSome read (λ n. n ≤ most)
number_within most s None e = tt
number_within most s (Some n) e = (number_takes most s n (unless_some (has_leading_zero s) (number_of most s) n e).1).1

-- the result for each value that may have been read
of_each : {A : Type 0} (read : Option A) (next : A → Option Line) → ((x : A) → IfSome (next x) IsSmall) → IfSome (read >>= next) IsSmall
of_each None next each = tt
of_each (Some x) next each = each x

-- the same, where something is known of what was read
of_known : {A : Type 0} {P : A → Type 0} (read : Option A) (next : A → Option Line) → IfSome read P → ((x : A) → P x → IfSome (next x) IsSmall) → IfSome (read >>= next) IsSmall
of_known None next known each = tt
of_known (Some x) next known each = each x known

of_either : (test : Bool) (one other : Option Line) → IfSome one IsSmall → IfSome other IsSmall → IfSome (cond test one other) IsSmall
of_either true one other is otherwise = is
of_either false one other is otherwise = otherwise

small_kind : (k : LineKind) (s : List ℕ) → IfSome (line_of_kind k s) IsSmall
small_kind kind.Sip s = of_each (addr_of s) _ (λ addr. tt)
small_kind kind.Web s = of_each (addr_of s) _ (λ addr. tt)
small_kind kind.Home s = of_either (is_host s) _ _ tt tt
small_kind kind.Peer s = of_each (split_once_at 32 s) _ (λ n. of_each (split_once_at 32 n.1) _ (λ a. of_each (peer_of n.0) _ (λ peer. of_each (addr_of a.0) _ (λ addr. of_each (trust_of a.1) _ (λ trusted. tt)))))
small_kind kind.Route s = of_each (route_words s) _ (λ words. tt)
small_kind kind.Account s = of_each (account_words s) _ (λ words. of_each (identities_of words.1) _ (λ uris. tt))
small_kind kind.Operator s = of_each (readable (uri_of s)) _ (λ uri. tt)
small_kind kind.Factory s = of_each (readable (uri_of s)) _ (λ uri. tt)
small_kind kind.Bound s = of_known (plain_number 16 s) _ (number_within 16 s (plain_number 16 s) refl) (λ n is. is)
small_kind kind.Country s = of_either (is_country s) _ _ tt tt
small_kind kind.Extension s = of_each (extension_of s) _ (λ which. tt)
small_kind kind.Mixer s = of_each (split_once_at 32 s) _ (λ x. of_each (ip_of x.0) _ (λ ip. of_each (number_from 1 65535 x.1) _ (λ port. tt)))
small_kind kind.Store s = of_either (is_store_name s) _ _ tt tt

small_line : (text : List ℕ) → IfSome (line_of text) IsSmall
unfolding line_of
small_line text = of_either (is_comment text) (Some line.Comment) (line_of_words text) tt (of_each (kind_and_rest text) _ (λ x. small_kind x.0 x.1))

-- ---- all lines

small_next : (said : List Line) (text : List ℕ) → IfSome (next_config_line said text) IsSmall
small_next said text = of_known (line_of text) _ (small_line text) (λ l is. of_either (may_follow said l) (Some l) None is tt)

first_joined : (xs ys : List ℕ) → IfSome (first_of xs) IsInRange → IfSome (first_of ys) IsInRange → IfSome (first_of (xs ++ ys)) IsInRange
first_joined [] ys one more = more
first_joined (x ∷ xs) ys one more = one

small_more : (said : List Line) (l : Line) → AreSmall said → IsSmall l → AreSmall (said ++ l ∷ [])
small_more said l are is = rw (one_more bound_in said l) (first_joined (flat_map bound_in said) (bound_in l) are is)

then_small : (number : ℕ) (read : Option Line) (more : Line → Result (List Line) ℕ) → IfSome read IsSmall → ((l : Line) → IsSmall l → IfOk (more l) AreSmall) → IfOk (and_then number read more) AreSmall
then_small number None more is each = tt
then_small number (Some l) more is each = each l is

lines_are_small : (number : ℕ) (said : List Line) (texts : List (List ℕ)) → AreSmall said → IfOk (lines_by next_config_line number said texts) AreSmall
lines_are_small number said [] are = are
lines_are_small number said (text ∷ texts) are = then_small number (next_config_line said text) _ (small_next said text) (λ l is. lines_are_small (number + 1) (said ++ l ∷ []) texts (small_more said l are is))

-- ---- configurations

abbrev IsBounded : Directory → Type 0
IsBounded directory = directory.bound ≤ 16

default_is_small : (bound : Option ℕ) → IfSome bound IsInRange → unwrap_or bound default_bound ≤ 16
default_is_small None is = omega arith
default_is_small (Some n) is = is

bounded_by : (last : ℕ) (sip : Option Addr) (home : Option (List ℕ)) (said : List Line) → AreSmall said → IfOk (directory_by last sip home said) IsBounded
bounded_by last None home said are = tt
bounded_by last (Some sip) None said are = tt
bounded_by last (Some sip) (Some home) said are = default_is_small (first_value bound_in said) are

bounded_from : (last : ℕ) (said : Result (List Line) ℕ) → IfOk said AreSmall → IfOk (directory_from last said) IsBounded
bounded_from last (Ok said) are = bounded_by last (first_value sip_in said) (first_value home_in said) said are
bounded_from last (Err number) are = tt

bounded_of : (text : List ℕ) → IfOk (directory_of text) IsBounded
unfolding directory_of
bounded_of text = bounded_from _ (lines_by next_config_line 1 [] (lines_of text)) (lines_are_small 1 [] (lines_of text) tt)

bounded_as : (answer : Result Directory DirectoryFault) (due : Result Directory ℕ) → ReadsDirectory answer due → IfOk due IsBounded → IfOk answer IsBounded
bounded_as (Ok directory) due is bounded = subst (λ (due : Result Directory ℕ). IfOk due IsBounded) is bounded
bounded_as (Err e) due is bounded = tt

-- the directory in a result for a text
pub result_is_bounded : (text : List ℕ) (answer : Result Directory DirectoryFault) → ReadsDirectory answer (directory_of text) → IfOk answer IsBounded
result_is_bounded text answer is = bounded_as answer (directory_of text) is (bounded_of text)
