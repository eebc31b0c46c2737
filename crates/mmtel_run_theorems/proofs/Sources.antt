-- The address of a server whose configuration was read is one that messages come from, and so its branches are read as they are written.
use Rattle.std.proofs.Common.{◌≡◌, ◌≤◌, ◌<◌, ◌^◌, Bool, true, false, cond, ℕ, zero, suc, ◌+◌, List, [], ◌∷◌, ◌++◌, Option, Some, None, Result, Ok, Err, refl, subst, arith, get_or, nat_lt}
use Rattle.std.specs.Prelude.{IfOk, IfSome}
use Rattle.std.specs.List.{flat_map, list_all}
use Rattle.std.proofs.lemmas.Bool.Decides.{nat_tests}
use Rattle.mmtel_directory.specs.Directory.{account_words, addr_of, directory_by, directory_from, directory_of, extension_of, first_of, first_value, home_in, identities_of, ip_of, is_country, is_host}
use Rattle.mmtel_directory.specs.Directory.{is_store_name, kind_and_rest, line_of, line_of_kind, line_of_words, may_follow, next_config_line, peer_of, readable, route_words, sip_in, trust_of}
use Rattle.mmtel_directory.specs.Lines.{and_then, is_comment, lines_by, lines_of, number_from}
use Rattle.mmtel_directory.specs.declared.config_lines.Line.{Line}
use Rattle.mmtel_directory.specs.declared.config_lines.Line.TheVariants as line
use Rattle.mmtel_directory.specs.declared.config_lines.LineKind.{LineKind}
use Rattle.mmtel_directory.specs.declared.config_lines.LineKind.TheVariants as kind
use Rattle.mmtel_directory.specs.declared.directories.Directory.{Directory}
use Rattle.mmtel_directory.proofs.DraftTheorems.{one_more}
use Rattle.mmtel_lex.specs.Reading.{uri_of}
use Rattle.mmtel_message.specs.Vias.{IsSource}
use Rattle.mmtel_base.specs.Chain.{◌>>=◌}
use Rattle.mmtel_base.specs.Classes.{IsAll, in_class}
use Rattle.mmtel_base.specs.Numbers.{has_leading_zero, number_of, plain_number}
use Rattle.mmtel_base.specs.Scanning.{split_once_at}
use Rattle.mmtel_base.specs.declared.classes.Class.TheVariants.{Token}
use Rattle.mmtel_base.proofs.ChainTheorems.{unless_some}
use Rattle.mmtel_base.proofs.NumberTheorems.{number_takes}
use Rattle.mmtel_base.proofs.Runs.{and_true}
use Rattle.mmtel_types.specs.declared.addrs.Addr.{Addr}
use Rattle.mmtel_run_theorems.specs.Noninterference.{ConfigurationsAreRead, is_hex_digit}

-- ---- tokens

hex_token : (b : ℕ) → is_hex_digit b ≡ true → in_class Token b ≡ true
unfolding in_class
hex_token b e = grind (arith, nat_tests)

hex_all : (token : List ℕ) → list_all is_hex_digit token ≡ true → IsAll Token token
hex_all [] e = refl
hex_all (b ∷ token) e =
    let both = and_true (is_hex_digit b) (list_all is_hex_digit token) e in
    rw (hex_token b both.0) (hex_all token both.1)

-- ---- one line

abbrev IsFine : Addr → Type 0
IsFine addr = IsSource addr × (0 < addr.port)

-- the address that a line sets, where it sets one
abbrev IsFineLine : Line → Type 0
IsFineLine l = IfSome (first_of (sip_in l)) IsFine

abbrev AreFine : List Line → Type 0
AreFine said = IfSome (first_value sip_in said) IsFine

number_within : (most : ℕ) (s : List ℕ) (read : Option ℕ) → plain_number most s ≡ read → IfSome read (λ n. n ≤ most)
number_within most s None e = tt
number_within most s (Some n) e = (number_takes most s n (unless_some (has_leading_zero s) (number_of most s) n e).1).1

-- what is made of each thing that may have been read
of_each : {A B : Type 0} (P : B → Type 0) (read : Option A) (next : A → Option B) → ((x : A) → IfSome (next x) P) → IfSome (read >>= next) P
of_each P None next each = tt
of_each P (Some x) next each = each x

-- the same, where something is known of what was read
of_known : {A B : Type 0} (P : B → Type 0) (K : A → Type 0) (read : Option A) (next : A → Option B) → IfSome read K → ((x : A) → K x → IfSome (next x) P) → IfSome (read >>= next) P
of_known P K None next known each = tt
of_known P K (Some x) next known each = each x known

of_either : {B : Type 0} (P : B → Type 0) (test : Bool) (one other : Option B) → IfSome one P → IfSome other P → IfSome (cond test one other) P
of_either P true one other is otherwise = is
of_either P false one other is otherwise = otherwise

abbrev IsByte : ℕ → Type 0
IsByte n = n ≤ 255

abbrev AreBytes : List ℕ → Type 0
AreBytes ip = (i : ℕ) → get_or ip i 0 < 2 ^ 8

four_bytes : (a b c d : ℕ) → IsByte a → IsByte b → IsByte c → IsByte d → AreBytes (a ∷ b ∷ c ∷ d ∷ [])
four_bytes a b c d x y z w zero = omega (arith, x)
four_bytes a b c d x y z w (suc zero) = omega (arith, y)
four_bytes a b c d x y z w (suc (suc zero)) = omega (arith, z)
four_bytes a b c d x y z w (suc (suc (suc zero))) = omega (arith, w)
four_bytes a b c d x y z w (suc (suc (suc (suc i)))) = omega arith

byte_of : (s : List ℕ) → IfSome (plain_number 255 s) IsByte
byte_of s = number_within 255 s (plain_number 255 s) refl

ip_fine : (s : List ℕ) → IfSome (ip_of s) AreBytes
ip_fine s =
    of_each AreBytes (split_once_at 46 s) _ (λ a. of_each AreBytes (split_once_at 46 a.1) _ (λ b. of_each AreBytes (split_once_at 46 b.1) _ (λ c.
    of_known AreBytes IsByte (plain_number 255 a.0) _ (byte_of a.0) (λ first x.
    of_known AreBytes IsByte (plain_number 255 b.0) _ (byte_of b.0) (λ second y.
    of_known AreBytes IsByte (plain_number 255 c.0) _ (byte_of c.0) (λ third z.
    of_known AreBytes IsByte (plain_number 255 c.1) _ (byte_of c.1) (λ fourth w. four_bytes first second third fourth x y z w)))))))

abbrev IsPort : ℕ → Type 0
IsPort n = (1 ≤ n) × (n ≤ 65535)

port_by : (small : Bool) (n : ℕ) → nat_lt n 1 ≡ small → n ≤ 65535 → IfSome (cond small None (Some n)) IsPort
port_by true n e most = tt
port_by false n e most = (grind (arith, nat_tests, e), most)

port_fine : (s : List ℕ) → IfSome (number_from 1 65535 s) IsPort
port_fine s = of_known IsPort (λ n. n ≤ 65535) (plain_number 65535 s) _ (number_within 65535 s (plain_number 65535 s) refl) (λ n most. port_by (nat_lt n 1) n refl most)

addr_fine : (s : List ℕ) → IfSome (addr_of s) IsFine
addr_fine s =
    of_each IsFine (split_once_at 58 s) _ (λ x. of_known IsFine AreBytes (ip_of x.0) _ (ip_fine x.0) (λ ip bytes.
    of_known IsFine IsPort (number_from 1 65535 x.1) _ (port_fine x.1) (λ port within.
    let low = within.0 in
    let high = within.1 in
    (record { bytes = bytes; port = omega (arith, high) }, omega (arith, low)))))

fine_kind : (k : LineKind) (s : List ℕ) → IfSome (line_of_kind k s) IsFineLine
fine_kind kind.Sip s = of_known IsFineLine IsFine (addr_of s) _ (addr_fine s) (λ addr is. is)
fine_kind kind.Web s = of_each IsFineLine (addr_of s) _ (λ addr. tt)
fine_kind kind.Home s = of_either IsFineLine (is_host s) _ _ tt tt
fine_kind kind.Peer s = of_each IsFineLine (split_once_at 32 s) _
    (λ n. of_each IsFineLine (split_once_at 32 n.1) _ (λ a. of_each IsFineLine (peer_of n.0) _ (λ peer. of_each IsFineLine (addr_of a.0) _ (λ addr. of_each IsFineLine (trust_of a.1) _ (λ trusted. tt)))))
fine_kind kind.Route s = of_each IsFineLine (route_words s) _ (λ words. tt)
fine_kind kind.Account s = of_each IsFineLine (account_words s) _ (λ words. of_each IsFineLine (identities_of words.1) _ (λ uris. tt))
fine_kind kind.Operator s = of_each IsFineLine (readable (uri_of s)) _ (λ uri. tt)
fine_kind kind.Factory s = of_each IsFineLine (readable (uri_of s)) _ (λ uri. tt)
fine_kind kind.Bound s = of_each IsFineLine (plain_number 16 s) _ (λ n. tt)
fine_kind kind.Country s = of_either IsFineLine (is_country s) _ _ tt tt
fine_kind kind.Extension s = of_each IsFineLine (extension_of s) _ (λ which. tt)
fine_kind kind.Mixer s = of_each IsFineLine (split_once_at 32 s) _ (λ x. of_each IsFineLine (ip_of x.0) _ (λ ip. of_each IsFineLine (number_from 1 65535 x.1) _ (λ port. tt)))
fine_kind kind.Store s = of_either IsFineLine (is_store_name s) _ _ tt tt

fine_line : (text : List ℕ) → IfSome (line_of text) IsFineLine
unfolding line_of
fine_line text = of_either IsFineLine (is_comment text) (Some line.Comment) (line_of_words text) tt (of_each IsFineLine (kind_and_rest text) _ (λ x. fine_kind x.0 x.1))

-- ---- all lines

fine_next : (said : List Line) (text : List ℕ) → IfSome (next_config_line said text) IsFineLine
fine_next said text = of_known IsFineLine IsFineLine (line_of text) _ (fine_line text) (λ l is. of_either IsFineLine (may_follow said l) (Some l) None is tt)

first_joined : (xs ys : List Addr) → IfSome (first_of xs) IsFine → IfSome (first_of ys) IsFine → IfSome (first_of (xs ++ ys)) IsFine
first_joined [] ys one more = more
first_joined (x ∷ xs) ys one more = one

fine_more : (said : List Line) (l : Line) → AreFine said → IsFineLine l → AreFine (said ++ l ∷ [])
fine_more said l are is = rw (one_more sip_in said l) (first_joined (flat_map sip_in said) (sip_in l) are is)

then_fine : (number : ℕ) (read : Option Line) (more : Line → Result (List Line) ℕ) → IfSome read IsFineLine → ((l : Line) → IsFineLine l → IfOk (more l) AreFine) → IfOk (and_then number read more) AreFine
then_fine number None more is each = tt
then_fine number (Some l) more is each = each l is

fine_said : (number : ℕ) (said : List Line) (texts : List (List ℕ)) → AreFine said → IfOk (lines_by next_config_line number said texts) AreFine
fine_said number said [] are = are
fine_said number said (text ∷ texts) are = then_fine number (next_config_line said text) _ (fine_next said text) (λ l is. fine_said (number + 1) (said ++ l ∷ []) texts (fine_more said l are is))

-- ---- configurations

abbrev HasSource : Directory → Type 0
HasSource directory = IsFine directory.sip

source_by : (last : ℕ) (sip : Option Addr) (home : Option (List ℕ)) (said : List Line) → IfSome sip IsFine → IfOk (directory_by last sip home said) HasSource
source_by last None home said is = tt
source_by last (Some sip) None said is = tt
source_by last (Some sip) (Some home) said is = is

source_from : (last : ℕ) (said : Result (List Line) ℕ) → IfOk said AreFine → IfOk (directory_from last said) HasSource
source_from last (Ok said) are = source_by last (first_value sip_in said) (first_value home_in said) said are
source_from last (Err number) are = tt

source_of : (text : List ℕ) → IfOk (directory_of text) HasSource
unfolding directory_of
source_of text = source_from _ (lines_by next_config_line 1 [] (lines_of text)) (fine_said 1 [] (lines_of text) tt)

pub configurations_are_read : ConfigurationsAreRead
configurations_are_read text directory token read filled hex =
    let source : IsFine directory.sip = subst (λ (r : Result Directory ℕ). IfOk r HasSource) read (source_of text) in
    record { text = record { filled = filled; each = hex_all token hex }; source = source.0; port = source.1 }
