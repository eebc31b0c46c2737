-- A Via value that is completed is read as the original Via, with the port and the address.
use Rattle.std.proofs.Common.{◌≡◌, ◌==◌, ◌&&◌, ◌<◌, ◌-◌, ◌^◌, not, nat_lt, Bool, true, false, ℕ, List, [], ◌∷◌, ◌++◌, length, take, get_or}
use Rattle.std.proofs.Common.{reverse, Option, Some, None, refl, sym, ap, subst, ◌∙◌, inl, inr, arith, append-nil, append_assoc, codes, decimal}
use Rattle.std.specs.Prelude.{IfSome, is_none}
use Rattle.std.proofs.lemmas.Bool.{cases_Bool}
use Rattle.std.proofs.lemmas.Bool.Decides.{nat_tests}
use Rattle.std.proofs.lemmas.Grind.{flat_map-append}
use Rattle.std.proofs.lemmas.List.{drop_at, length-append, length-reverse, reverse-append, take_at}
use Rattle.std.proofs.lemmas.Slice.Eq.{bytes_eq-Decides}
use Rattle.std.specs.List.{flat_map, list_all}
use Rattle.std.specs.Str.{bytes_eq, str_eq_ignore_ascii_case, str_to_ascii_lowercase}
use Rattle.mmtel_base.specs.Chain.{◌>>=◌}
use Rattle.mmtel_base.specs.Classes.{IsAll, IsOneOrMore, Stops, in_class}
use Rattle.mmtel_base.specs.Numbers.{number_of}
use Rattle.mmtel_base.specs.Scanning.{after_byte, after_run, after_text, is_quoted_content, leading_run, without_trailing}
use Rattle.mmtel_base.specs.declared.classes.Class.{Class}
use Rattle.mmtel_base.specs.declared.classes.Class.TheVariants.{Blank, Digit, Host, Token}
use Rattle.mmtel_base.proofs.ChainTheorems.{after_byte_whole, bind_some, filled_test, some_is, unless_some}
use Rattle.mmtel_base.proofs.Numerals.{decimal_writes}
use Rattle.mmtel_base.proofs.NumberTheorems.{number_again}
use Rattle.mmtel_base.proofs.Runs.{after_run_again, and_true, run_again, run_each, run_whole, wider}
use Rattle.mmtel_base.proofs.Trims.{all_append, trimmed_again}
use Rattle.mmtel_lex.specs.Grammar.{AreParams, IsParam, IsQuoted, IsToken, IsValue, param_text, params_text, value_text}
use Rattle.mmtel_lex.specs.Params.{param_value}
use Rattle.mmtel_lex.specs.Reading.{all_params_at, host_at, port_at, port_from, port_number, token_at}
use Rattle.mmtel_lex.specs.declared.values.Param.{Param}
use Rattle.mmtel_lex.proofs.ParamTheorems.{all_params_alone, all_params_takes, token_again, token_takes}
use Rattle.mmtel_lex.proofs.SipTheorems.{host_again, host_takes}
use Rattle.mmtel_types.specs.declared.addrs.Addr.{Addr}
use Rattle.mmtel_message.specs.Addresses.{ip_text}
use Rattle.mmtel_message.specs.Fields.{after_blanks, before_rest, first_part, if_end, via_at, via_by}
use Rattle.mmtel_message.specs.Headers.{trim}
use Rattle.mmtel_message.specs.Values.{is_separator, mode_after, next_separator}
use Rattle.mmtel_message.specs.Vias.{IsSource, asks_port, completed_value, completed_via, is_from, is_received, received_param}
use Rattle.mmtel_message.specs.Vias.{sourced_via, sourced_param, sourced_params, sourced_param_text, sourced_text, via_value, with_port}
use Rattle.mmtel_message.specs.declared.fields.Via.{Via}
use Rattle.mmtel_message.specs.declared.values.Mode.{Mode}
use Rattle.mmtel_message.specs.declared.values.Mode.TheVariants.{Escaped, Plain, Quoted}
use Rattle.mmtel_message.proofs.CommaTheorems.{parts_none}
use Rattle.mmtel_message.proofs.ExpansionTheorems.{line_named}
use Rattle.mmtel_message.proofs.LineTheorems.{unmapped}
use Rattle.mmtel_message.proofs.StartTheorems.{after_text_whole}
use Rattle.mmtel_message.proofs.ValueTheorems.{ends, ends_more}

-- ---- what is written

texts_are : (port : ℕ) (ps : List Param) → params_text (flat_map (sourced_param port) ps) ≡ flat_map (sourced_param_text port) ps
texts_are port [] = refl
texts_are port (p ∷ ps) =
    elim (cases_Bool (is_received p)) [
      | inl y ↦ rw y (texts_are port ps)
      | inr n ↦ rw (n, texts_are port ps) refl
    ]

tail_is : (source : Addr) (ps : List Param) → params_text (sourced_params source ps) ≡ flat_map (sourced_param_text source.port) ps ++ (codes ";received=" ++ ip_text source.ip)
tail_is source ps =
    let last : params_text (received_param source ∷ []) ≡ codes ";received=" ++ ip_text source.ip = append-nil (codes ";received=" ++ ip_text source.ip) in
    flat_map-append param_text (flat_map (sourced_param source.port) ps) (received_param source ∷ []) ∙ rw (texts_are source.port ps, last) refl

pub sourced_is : (source : Addr) (via : Via) → sourced_text source via ≡ via_value (sourced_via source via)
sourced_is source via =
    ap (λ (x : List ℕ). codes "SIP/2.0/" ++ (via.transport ++ (32 ∷ (via.sent_by ++ x)))) (sym (tail_is source via.params))

-- ---- the parameters that are written are parameters

digit_token : (b : ℕ) → in_class Digit b ≡ true → in_class Token b ≡ true
unfolding in_class
digit_token b e = grind (arith, nat_tests)

dot_token : in_class Token 46 ≡ true
unfolding in_class
dot_token = refl

-- numbers and addresses are of each class that has the digits and the dot
abbrev HasDigits : Class → Type 0
HasDigits k = (b : ℕ) → in_class Digit b ≡ true → in_class k b ≡ true

decimal_in : (k : Class) → HasDigits k → (n : ℕ) → n < 2 ^ 16 → IsOneOrMore k (decimal n)
decimal_in k has n small =
    let digits = (decimal_writes n (omega arith)).digits in
    record { filled = digits.filled; each = wider Digit k has (decimal n) digits.each }

dotted_in : (k : Class) → in_class k 46 ≡ true → (a b : List ℕ) → IsOneOrMore k a → IsOneOrMore k b → IsOneOrMore k (a ++ 46 ∷ b)
dotted_in k dot a b x y =
    let behind : IsAll k (46 ∷ b) = rw (dot, y.each) refl in
    record { filled = omega (arith, length-append a (46 ∷ b)); each = all_append k a (46 ∷ b) x.each behind }

pub ip_in : (k : Class) → ((b : ℕ) → in_class Digit b ≡ true → in_class k b ≡ true) → in_class k 46 ≡ true → (source : Addr) → IsSource source → IsOneOrMore k (ip_text source.ip)
ip_in k has dot source is =
    let d : ℕ → List ℕ = λ i. decimal (get_or source.ip i 0) in
    let byte : (i : ℕ) → IsOneOrMore k (decimal (get_or source.ip i 0)) = λ i. (let lt = is.bytes i in decimal_in k has (get_or source.ip i 0) (omega (arith, lt))) in
    dotted_in k dot (d 0) (d 1 ++ 46 ∷ (d 2 ++ 46 ∷ d 3)) (byte 0) (dotted_in k dot (d 1) (d 2 ++ 46 ∷ d 3) (byte 1) (dotted_in k dot (d 2) (d 3) (byte 2) (byte 3)))

port_param : (port : ℕ) (p : Param) → port < 2 ^ 16 → IsParam p → IsParam (with_port port p)
port_param port p small is =
    elim (cases_Bool (asks_port p)) [
      | inl y ↦ rw y (record { name = is.name; value = inl (decimal_in Token digit_token port small) })
      | inr n ↦ rw n is
    ]

received_token : IsToken (codes "received")
unfolding in_class
received_token = record { filled = omega arith; each = refl }

are_sourced : (source : Addr) (ps : List Param) → IsSource source → AreParams ps → AreParams (sourced_params source ps)
are_sourced source [] is are = (record { name = received_token; value = inl (ip_in Token digit_token dot_token source is) }, tt)
are_sourced source (p ∷ ps) is are =
    let more : AreParams (sourced_params source ps) = are_sourced source ps is are.1 in
    elim (cases_Bool (is_received p)) [
      | inl y ↦ rw y more
      | inr n ↦ rw n (port_param source.port p is.port are.0, more)
    ]

-- ---- bytes that neither separate values nor open quotes or brackets

abbrev is_plain : ℕ → Bool
is_plain b = not (b == 44) && (not (b == 34) && not (b == 60))

token_plain : (b : ℕ) → in_class Token b ≡ true → is_plain b ≡ true
unfolding in_class
token_plain b e = grind (arith, nat_tests)

host_plain : (b : ℕ) → in_class Host b ≡ true → is_plain b ≡ true
unfolding in_class
host_plain b e = grind (arith, nat_tests)

digit_plain : (b : ℕ) → in_class Digit b ≡ true → is_plain b ≡ true
unfolding in_class
digit_plain b e = grind (arith, nat_tests)

blank_plain : (b : ℕ) → in_class Blank b ≡ true → is_plain b ≡ true
unfolding in_class
blank_plain b e = grind (arith, nat_tests)

plain_by : (k : Class) → ((b : ℕ) → in_class k b ≡ true → is_plain b ≡ true) → (s : List ℕ) → IsAll k s → list_all is_plain s ≡ true
plain_by k more [] each = refl
plain_by k more (b ∷ s) each =
    let both = and_true (in_class k b) (list_all (in_class k) s) each in
    rw (more b both.0, plain_by k more s both.1) refl

-- one value, after which another may begin
abbrev IsClosed : List ℕ → Type 0
IsClosed s = (next_separator Plain s ≡ None) × (ends Plain s ≡ Plain)

separator_both : (m : Mode) (a b : List ℕ) → next_separator m a ≡ None → next_separator (ends m a) b ≡ None → next_separator m (a ++ b) ≡ None
unfolding next_separator
separator_both m [] b e f = f
separator_both m (x ∷ a) b e f =
    elim (cases_Bool (is_separator m x)) [
      | inl y ↦ let g = rw y at e in absurd cc
      | inr n ↦ rw (n, separator_both (mode_after m x) a b (unmapped (next_separator (mode_after m x) a) (rw n at e)) f) refl
    ]

closed_both : (a b : List ℕ) → IsClosed a → IsClosed b → IsClosed (a ++ b)
closed_both a b x y = (
  separator_both Plain a b x.0 (rw x.1 y.0),
  ends_more Plain a b ∙ rw x.1 y.1,
)

not_so : (b : Bool) → not b ≡ true → b ≡ false
not_so true e = absurd cc
not_so false e = refl

closed_plain : (s : List ℕ) → list_all is_plain s ≡ true → IsClosed s
unfolding next_separator
closed_plain [] each = (refl, refl)
closed_plain (b ∷ s) each =
    let both = and_true (is_plain b) (list_all is_plain s) each in
    let first = and_true (not (b == 44)) (not (b == 34) && not (b == 60)) both.0 in
    let rest = and_true (not (b == 34)) (not (b == 60)) first.1 in
    let more = closed_plain s both.1 in
    (rw (not_so (b == 44) first.0, not_so (b == 34) rest.0, not_so (b == 60) rest.1, more.0) refl, rw (not_so (b == 34) rest.0, not_so (b == 60) rest.1) more.1)

-- where a byte is that comes between quotes
abbrev mode_of : Bool → Mode
mode_of true = Escaped
mode_of false = Quoted

abbrev IsClosing : Mode → List ℕ → Type 0
IsClosing m s = (next_separator m s ≡ None) × (ends m s ≡ Plain)

closing_more : (m : Mode) (b : ℕ) (s : List ℕ) → is_separator m b ≡ false → IsClosing (mode_after m b) s → IsClosing m (b ∷ s)
unfolding next_separator
closing_more m b s e f = (rw (e, f.0) refl, f.1)

escaped_is : (b : ℕ) → (b == 34) ≡ false → mode_after Quoted b ≡ mode_of (b == 92)
escaped_is b e = elim (cases_Bool (b == 92)) [ inl y ↦ rw (e, y) refl | inr n ↦ rw (e, n) refl ]

closes_quotes : (escaped : Bool) (s : List ℕ) → is_quoted_content escaped s ≡ true → IsClosing (mode_of escaped) (s ++ 34 ∷ [])
unfolding next_separator
closes_quotes true [] e = absurd cc
closes_quotes false [] e = (refl, refl)
closes_quotes true (b ∷ s) e = closing_more Escaped b (s ++ 34 ∷ []) refl (closes_quotes false s e)
closes_quotes false (b ∷ s) e =
    let both = and_true (not (b == 34)) (is_quoted_content (b == 92) s) e in
    let more : IsClosing (mode_of (b == 92)) (s ++ 34 ∷ []) = closes_quotes (b == 92) s both.1 in
    closing_more Quoted b (s ++ 34 ∷ []) refl (subst (λ (m : Mode). IsClosing m (s ++ 34 ∷ [])) (sym (escaped_is b (not_so (b == 34) both.0))) more)

closed_quoted : (s : List ℕ) → IsQuoted s → IsClosed s
closed_quoted s is = rw is.whole (closing_more Plain 34 (is.inner ++ 34 ∷ []) refl (closes_quotes false is.inner is.inner_in))

closed_token : (s : List ℕ) → IsAll Token s → IsClosed s
closed_token s each = closed_plain s (plain_by Token token_plain s each)

closed_value : (v : Option (List ℕ)) → IfSome v IsValue → IsClosed (value_text v)
closed_value None is = closed_plain [] refl
closed_value (Some v) (inl is) = closed_both (61 ∷ []) v (closed_plain (61 ∷ []) refl) (closed_token v is.each)
closed_value (Some v) (inr is) = closed_both (61 ∷ []) v (closed_plain (61 ∷ []) refl) (closed_quoted v is)

closed_param : (p : Param) → IsParam p → IsClosed (param_text p)
closed_param p is =
    closed_both (59 ∷ []) (p.name ++ value_text p.value) (closed_plain (59 ∷ []) refl) (closed_both p.name (value_text p.value) (closed_token p.name is.name.each) (closed_value p.value is.value))

closed_params : (ps : List Param) → AreParams ps → IsClosed (params_text ps)
closed_params [] are = closed_plain [] refl
closed_params (p ∷ ps) are = closed_both (param_text p) (params_text ps) (closed_param p are.0) (closed_params ps are.1)

-- ---- no blank at the end

abbrev IsEnded : List ℕ → Type 0
IsEnded s = (0 < length s) × Stops Blank (reverse s)

stops_longer : (a x : List ℕ) → 0 < length a → Stops Blank a → Stops Blank (a ++ x)
stops_longer [] x filled stops = absurd (omega arith)
stops_longer (b ∷ a) x filled stops = stops

ended_more : (a x : List ℕ) → IsEnded x → IsEnded (a ++ x)
ended_more a x is = (
  omega (arith, is.0, length-append a x),
  subst (λ (l : List ℕ). Stops Blank l) (sym (reverse-append a x)) (stops_longer (reverse x) (reverse a) (omega (arith, is.0, length-reverse x)) is.1),
)

ended_one : (b : ℕ) → in_class Blank b ≡ false → IsEnded (b ∷ [])
ended_one b e = (omega arith, e)

ended_class : (k : Class) → ((b : ℕ) → in_class k b ≡ true → in_class Blank b ≡ false) → (s : List ℕ) → IsOneOrMore k s → IsEnded s
ended_class k dark [] is = absurd (omega (arith, is.filled))
ended_class k dark (b ∷ []) is = ended_one b (dark b (and_true (in_class k b) true is.each).0)
ended_class k dark (b ∷ c ∷ s) is =
    let both = and_true (in_class k b) (list_all (in_class k) (c ∷ s)) is.each in
    ended_more (b ∷ []) (c ∷ s) (ended_class k dark (c ∷ s) (record { filled = omega arith; each = both.1 }))

pub token_dark : (b : ℕ) → in_class Token b ≡ true → in_class Blank b ≡ false
unfolding in_class
token_dark b e = grind (arith, nat_tests)

host_dark : (b : ℕ) → in_class Host b ≡ true → in_class Blank b ≡ false
unfolding in_class
host_dark b e = grind (arith, nat_tests)

digit_dark : (b : ℕ) → in_class Digit b ≡ true → in_class Blank b ≡ false
unfolding in_class
digit_dark b e = grind (arith, nat_tests)

quote_dark : in_class Blank 34 ≡ false
unfolding in_class
quote_dark = refl

ended_value : (a : List ℕ) (v : Option (List ℕ)) → IsEnded a → IfSome v IsValue → IsEnded (a ++ value_text v)
ended_value a None is of = subst (λ (l : List ℕ). IsEnded l) (sym (append-nil a)) is
ended_value a (Some v) is (inl of) = ended_more a (61 ∷ v) (ended_more (61 ∷ []) v (ended_class Token token_dark v of))
ended_value a (Some v) is (inr of) =
    let quoted : IsEnded v = rw of.whole (ended_more (34 ∷ of.inner) (34 ∷ []) (ended_one 34 quote_dark)) in
    ended_more a (61 ∷ v) (ended_more (61 ∷ []) v quoted)

ended_param : (p : Param) → IsParam p → IsEnded (param_text p)
ended_param p is = ended_more (59 ∷ []) (p.name ++ value_text p.value) (ended_value p.name p.value (ended_class Token token_dark p.name is.name) is.value)

ended_params : (a : List ℕ) (ps : List Param) → IsEnded a → AreParams ps → IsEnded (a ++ params_text ps)
ended_params a [] is are = subst (λ (l : List ℕ). IsEnded l) (sym (append-nil a)) is
ended_params a (p ∷ ps) is are =
    subst (λ (l : List ℕ). IsEnded l) (append_assoc a (param_text p) (params_text ps)) (ended_params (a ++ param_text p) ps (ended_more a (param_text p) (ended_param p are.0)) are.1)

bare_is : (s : List ℕ) → Stops Blank s → Stops Blank (reverse s) → trim s ≡ s
bare_is s starts stops =
    let front : after_run Blank s ≡ s = after_run_again Blank [] s refl starts in
    let back : without_trailing Blank s ≡ s = ap (λ (l : List ℕ). without_trailing Blank l) (sym (append-nil s)) ∙ trimmed_again Blank s [] refl stops in
    rw front back

-- ---- a port

-- the text that a port was read from, or none
record PortText (p : Option ℕ) : Type 0 where
  text : List ℕ
  plain : list_all is_plain text ≡ true
  stops : (r : List ℕ) → Stops Host r → Stops Host (text ++ r)
  ended : (a : List ℕ) → IsEnded a → IsEnded (a ++ text)
  again : (r : List ℕ) → Stops Digit r → after_byte 58 r ≡ None → port_at (text ++ r) ≡ Some (p, r)

abbrev TakesPort : List ℕ → Option ℕ × List ℕ → Type 0
TakesPort s x = (p : PortText x.0) × (s ≡ p.text ++ x.1)

no_port : (r : List ℕ) → after_byte 58 r ≡ None → port_at r ≡ Some (None, r)
unfolding port_at
no_port r colon = rw colon refl

a_port : (ds : List ℕ) (n : ℕ) (r : List ℕ) → IsAll Digit ds → port_number ds ≡ Some n → Stops Digit r → port_at (58 ∷ (ds ++ r)) ≡ Some (Some n, r)
unfolding port_at
a_port ds n r each e stops = rw (run_again Digit ds r each stops, after_run_again Digit ds r each stops, e) refl

port_filled : (ds : List ℕ) (n : ℕ) → port_number ds ≡ Some n → 0 < length ds
unfolding port_number number_of
port_filled [] n e = absurd cc
port_filled (b ∷ ds) n e = omega arith

colon_stops : (s : List ℕ) → Stops Host (58 ∷ s)
unfolding in_class
colon_stops s = refl

port_text : (ds : List ℕ) (n : ℕ) → IsAll Digit ds → port_number ds ≡ Some n → PortText (Some n)
port_text ds n each e = record {
  text = 58 ∷ ds;
  plain = rw (plain_by Digit digit_plain ds each) refl;
  stops = λ r stops. colon_stops (ds ++ r);
  ended = λ a is. ended_more a (58 ∷ ds) (ended_more (58 ∷ []) ds (ended_class Digit digit_dark ds (record { filled = port_filled ds n e; each = each })));
  again = λ r stops colon. a_port ds n r each e stops;
}

port_by : (s : List ℕ) (o : Option (List ℕ)) (x : Option ℕ × List ℕ) → after_byte 58 s ≡ o → port_from o s ≡ Some x → TakesPort s x
unfolding port_text
port_by s None x e h =
    let none : PortText None = record {
      text = [];
      plain = refl;
      stops = λ r stops. stops;
      ended = λ a is. subst (λ (l : List ℕ). IsEnded l) (sym (append-nil a)) is;
      again = λ r stops colon. no_port r colon;
    } in
    subst (λ (y : Option ℕ × List ℕ). TakesPort s y) (some_is (None, s) x h) (none, refl)
port_by s (Some t) x e h =
    let b = bind_some (port_number (leading_run Digit t)) (λ n. Some (Some n, after_run Digit t)) x h in
    let whole : s ≡ (58 ∷ leading_run Digit t) ++ after_run Digit t = after_byte_whole 58 s t e ∙ ap (λ (l : List ℕ). 58 ∷ l) (run_whole Digit t) in
    subst (λ (y : Option ℕ × List ℕ). TakesPort s y) (some_is (Some b.0, after_run Digit t) x b.2) (port_text (leading_run Digit t) b.0 (run_each Digit t) b.1, whole)

port_takes : (s : List ℕ) (x : Option ℕ × List ℕ) → port_at s ≡ Some x → TakesPort s x
unfolding port_at
port_takes s x e = port_by s (after_byte 58 s) x refl e

-- ---- the parts of a Via value

-- sent-by and parameters
record ByParts (transport b : List ℕ) (v : Via) : Type 0 where
  same : v.transport ≡ transport
  port : PortText v.port
  sent_by : v.sent_by ≡ v.host ++ port.text
  whole : b ≡ v.sent_by ++ params_text v.params
  host_in : IsOneOrMore Host v.host
  fits : length v.host < 256
  params_in : AreParams v.params

before_again : (a x : List ℕ) → before_rest (a ++ x) x ≡ a
before_again a x = take_at a x (length (a ++ x) - length x) (omega (arith, length-append a x))

ended_by : {A : Type 0} (x : A) (s : List ℕ) (y : A) → if_end x s ≡ Some y → (s ≡ []) × (x ≡ y)
ended_by x [] y e = (refl, some_is x y e)
ended_by x (b ∷ s) y e = absurd cc

abbrev made : List ℕ → List ℕ → List ℕ × List ℕ → Option ℕ × List ℕ → List Param → Via
made transport b h n ps = record { transport = transport; sent_by = before_rest b n.1; host = h.0; port = n.0; params = ps }

by_takes : (transport b : List ℕ) (v : Via) → via_by transport b ≡ Some v → ByParts transport b v
by_takes transport b v e =
    let h = bind_some (host_at b) (λ h. port_at h.1 >>= λ n. all_params_at n.1 >>= λ ps. if_end (made transport b h n ps.0) ps.1) v e in
    let n = bind_some (port_at h.0.1) (λ n. all_params_at n.1 >>= λ ps. if_end (made transport b h.0 n ps.0) ps.1) v h.2 in
    let ps = bind_some (all_params_at n.0.1) (λ ps. if_end (made transport b h.0 n.0 ps.0) ps.1) v n.2 in
    let done = ended_by (made transport b h.0 n.0 ps.0.0) ps.0.1 v ps.2 in
    let host = host_takes b h.0 h.1 in
    let port = port_takes h.0.1 n.0 n.1 in
    let params = all_params_takes n.0.1 ps.0 ps.1 in
    let sent : List ℕ = h.0.0 ++ port.0.text in
    let tail : n.0.1 ≡ params_text ps.0.0 = params.0 ∙ (ap (λ (l : List ℕ). params_text ps.0.0 ++ l) done.0 ∙ append-nil (params_text ps.0.0)) in
    let all : b ≡ sent ++ n.0.1 = host.0 ∙ (ap (λ (l : List ℕ). h.0.0 ++ l) port.1 ∙ sym (append_assoc h.0.0 port.0.text n.0.1)) in
    let before : before_rest b n.0.1 ≡ sent = ap (λ (l : List ℕ). before_rest l n.0.1) all ∙ before_again sent n.0.1 in
    let whole : b ≡ before_rest b n.0.1 ++ params_text ps.0.0 = all ∙ (ap (λ (l : List ℕ). l ++ n.0.1) (sym before) ∙ ap (λ (l : List ℕ). before_rest b n.0.1 ++ l) tail) in
    subst (λ (x : Via). ByParts transport b x) done.1
    (record { same = refl; port = port.0; sent_by = before; whole = whole; host_in = host.1; fits = host.2; params_in = params.1 })

record ViaParts (s : List ℕ) (v : Via) : Type 0 where
  blanks : List ℕ
  blanks_in : IsAll Blank blanks
  by : ByParts v.transport (v.sent_by ++ params_text v.params) v
  transport_in : IsToken v.transport
  whole : s ≡ codes "SIP/2.0/" ++ (v.transport ++ (blanks ++ (v.sent_by ++ params_text v.params)))

via_takes : (s : List ℕ) (v : Via) → via_at s ≡ Some v → ViaParts s v
unfolding via_at
via_takes s v e =
    let t = bind_some (after_text (codes "SIP/2.0/") s) (λ t. token_at t >>= λ p. after_blanks p.1 >>= λ b. via_by p.0 b) v e in
    let p = bind_some (token_at t.0) (λ p. after_blanks p.1 >>= λ b. via_by p.0 b) v t.2 in
    let b = bind_some (after_blanks p.0.1) (λ b. via_by p.0.0 b) v p.2 in
    let u = unless_some (length (leading_run Blank p.0.1) == 0) (Some (after_run Blank p.0.1)) b.0 b.1 in
    let rest : after_run Blank p.0.1 ≡ b.0 = some_is (after_run Blank p.0.1) b.0 u.1 in
    let tok = token_takes t.0 p.0 p.1 in
    let by = by_takes p.0.0 b.0 v b.2 in
    let blanks : List ℕ = leading_run Blank p.0.1 in
    let behind : p.0.1 ≡ blanks ++ (v.sent_by ++ params_text v.params) = run_whole Blank p.0.1 ∙ ap (λ (l : List ℕ). blanks ++ l) (rest ∙ by.whole) in
    let named : t.0 ≡ v.transport ++ (blanks ++ (v.sent_by ++ params_text v.params)) = tok.0 ∙ (ap (λ (l : List ℕ). l ++ p.0.1) (sym by.same) ∙ ap (λ (l : List ℕ). v.transport ++ l) behind) in
    record {
      blanks = blanks;
      blanks_in = run_each Blank p.0.1;
      by = record { same = refl; port = by.port; sent_by = by.sent_by; whole = refl; host_in = by.host_in; fits = by.fits; params_in = by.params_in };
      transport_in = subst (λ (l : List ℕ). IsToken l) (sym by.same) tok.1;
      whole = after_text_whole (codes "SIP/2.0/") s t.0 t.1 ∙ ap (λ (l : List ℕ). codes "SIP/2.0/" ++ l) named;
    }

-- ---- a Via value is one value, without blanks around it

via_starts : (s : List ℕ) → Stops Blank (codes "SIP/2.0/" ++ s)
unfolding in_class
via_starts s = refl

pub via_is_one : (s : List ℕ) (v : Via) → via_at s ≡ Some v → first_part s ≡ s
via_is_one s v e =
    let is = via_takes s v e in
    let by = is.by in
    let sent : List ℕ = v.host ++ by.port.text in
    let host : IsClosed v.host = closed_plain v.host (plain_by Host host_plain v.host by.host_in.each) in
    let sent_closed : IsClosed v.sent_by = subst (λ (l : List ℕ). IsClosed l) (sym by.sent_by) (closed_both v.host by.port.text host (closed_plain by.port.text by.port.plain)) in
    let sent_ended : IsEnded v.sent_by = subst (λ (l : List ℕ). IsEnded l) (sym by.sent_by) (by.port.ended v.host (ended_class Host host_dark v.host by.host_in)) in
    let tail : List ℕ = v.sent_by ++ params_text v.params in
    let tail_closed : IsClosed tail = closed_both v.sent_by (params_text v.params) sent_closed (closed_params v.params by.params_in) in
    let tail_ended : IsEnded tail = ended_params v.sent_by v.params sent_ended by.params_in in
    let blanks_closed : IsClosed (is.blanks ++ tail) = closed_both is.blanks tail (closed_plain is.blanks (plain_by Blank blank_plain is.blanks is.blanks_in)) tail_closed in
    let closed : IsClosed (codes "SIP/2.0/" ++ (v.transport ++ (is.blanks ++ tail))) = closed_both (codes "SIP/2.0/") (v.transport ++ (is.blanks ++ tail)) (closed_plain (codes "SIP/2.0/") refl)
    (closed_both v.transport (is.blanks ++ tail) (closed_token v.transport is.transport_in.each) blanks_closed) in
    let ended : IsEnded (codes "SIP/2.0/" ++ (v.transport ++ (is.blanks ++ tail))) =
    ended_more (codes "SIP/2.0/") (v.transport ++ (is.blanks ++ tail)) (ended_more v.transport (is.blanks ++ tail) (ended_more is.blanks tail tail_ended)) in
    let whole_closed : IsClosed s = subst (λ (l : List ℕ). IsClosed l) (sym is.whole) closed in
    let whole_ended : IsEnded s = subst (λ (l : List ℕ). IsEnded l) (sym is.whole) ended in
    let starts : Stops Blank s = subst (λ (l : List ℕ). Stops Blank l) (sym is.whole) (via_starts (v.transport ++ (is.blanks ++ tail))) in
    rw (parts_none Plain s whole_closed.0) (bare_is s starts whole_ended.1)

-- ---- what is written of a Via with other parameters is read

behind_front : (front rest : List ℕ) → after_text front (front ++ rest) ≡ Some rest
behind_front front rest =
    let long : nat_lt (length (front ++ rest)) (length front) ≡ false = (let sum = length-append front rest in grind (arith, nat_tests)) in
    let same : bytes_eq (take (length front) (front ++ rest)) front ≡ true = (bytes_eq-Decides (take (length front) (front ++ rest)) front).1 (take_at front rest (length front) refl) in
    rw (long, same, drop_at front rest (length front) refl) refl

one_blank : IsAll Blank (32 ∷ [])
unfolding in_class
one_blank = refl

pub behind_blank : (s : List ℕ) → Stops Blank s → after_blanks (32 ∷ s) ≡ Some s
behind_blank s stops =
    let ran : leading_run Blank (32 ∷ s) ≡ 32 ∷ [] = run_again Blank (32 ∷ []) s one_blank stops in
    let rest : after_run Blank (32 ∷ s) ≡ s = after_run_again Blank (32 ∷ []) s one_blank stops in
    rw (ran, rest) refl

blank_no_token : (s : List ℕ) → Stops Token (32 ∷ s)
unfolding in_class
blank_no_token s = refl

host_first : (a x : List ℕ) → IsOneOrMore Host a → Stops Blank (a ++ x)
host_first [] x is = absurd (omega (arith, is.filled))
host_first (b ∷ a) x is = host_dark b (and_true (in_class Host b) (list_all (in_class Host) a) is.each).0

params_no_host : (ps : List Param) → Stops Host (params_text ps)
unfolding in_class
params_no_host [] = tt
params_no_host (p ∷ ps) = refl

params_no_digit : (ps : List Param) → Stops Digit (params_text ps)
unfolding in_class
params_no_digit [] = tt
params_no_digit (p ∷ ps) = refl

params_no_colon : (ps : List Param) → after_byte 58 (params_text ps) ≡ None
params_no_colon [] = refl
params_no_colon (p ∷ ps) = refl

via_reads : (s : List ℕ) (v : Via) (qs : List Param) → ViaParts s v → AreParams qs → via_at (via_value (record v { params = qs })) ≡ Some (record v { params = qs })
unfolding via_at
via_reads s v qs is are =
    let b = is.by in
    let by : List ℕ = v.sent_by ++ params_text qs in
    let rest : List ℕ = b.port.text ++ params_text qs in
    let split : by ≡ v.host ++ rest = ap (λ (l : List ℕ). l ++ params_text qs) b.sent_by ∙ append_assoc v.host b.port.text (params_text qs) in
    let one : after_text (codes "SIP/2.0/") (codes "SIP/2.0/" ++ (v.transport ++ 32 ∷ by)) ≡ Some (v.transport ++ 32 ∷ by) = behind_front (codes "SIP/2.0/") (v.transport ++ 32 ∷ by) in
    let two : token_at (v.transport ++ 32 ∷ by) ≡ Some (v.transport, 32 ∷ by) = token_again v.transport (32 ∷ by) is.transport_in (blank_no_token by) in
    let starts : Stops Blank by = subst (λ (l : List ℕ). Stops Blank l) (sym split) (host_first v.host rest b.host_in) in
    let three : after_blanks (32 ∷ by) ≡ Some by = behind_blank by starts in
    let four : host_at by ≡ Some (v.host, rest) = ap host_at split ∙ host_again v.host rest b.host_in b.fits (b.port.stops (params_text qs) (params_no_host qs)) in
    let five : port_at rest ≡ Some (v.port, params_text qs) = b.port.again (params_text qs) (params_no_digit qs) (params_no_colon qs) in
    let six : all_params_at (params_text qs) ≡ Some (qs, []) = all_params_alone qs are in
    let seven : before_rest by (params_text qs) ≡ v.sent_by = before_again v.sent_by (params_text qs) in
    rw (one, two, three, four, five, six, seven) refl

-- a Via that is written with a port is read
port_writes : (n : ℕ) → 0 < n → n < 2 ^ 16 → port_number (decimal n) ≡ Some n
unfolding port_number
port_writes n low high = rw (number_again 65535 (decimal n) n (decimal_writes n (omega arith)) (omega arith), filled_test n low) refl

abbrev pub at_port : List ℕ → List ℕ → ℕ → List Param → Via
at_port transport host port ps = record { transport = transport; sent_by = host ++ 58 ∷ decimal port; host = host; port = Some port; params = ps }

pub written_reads : (transport host : List ℕ) (port : ℕ) (ps : List Param) → IsToken transport → IsOneOrMore Host host → length host < 256 → 0 < port → port < 2 ^ 16 → AreParams ps →
    via_at (via_value (at_port transport host port ps)) ≡ Some (at_port transport host port ps)
unfolding port_text
written_reads transport host port ps token is fits low high are =
    let v : Via = at_port transport host port ps in
    let digits = (decimal_writes port (omega arith)).digits in
    let port_is : PortText (Some port) = port_text (decimal port) port digits.each (port_writes port low high) in
    let by : ByParts transport (v.sent_by ++ params_text ps) v = record { same = refl; port = port_is; sent_by = refl; whole = refl; host_in = is; fits = fits; params_in = are } in
    let parts : ViaParts (via_value v) v = record { blanks = 32 ∷ []; blanks_in = one_blank; by = by; transport_in = token; whole = refl } in
    via_reads (via_value v) v ps parts are

pub completed_reads : (source : Addr) (value : List ℕ) (via : Via) → IsSource source → via_at value ≡ Some via → via_at (completed_value source value) ≡ Some (completed_via source via)
unfolding completed_value
completed_reads source value via is e =
    let parts = via_takes value via e in
    let again : via_at (via_value (sourced_via source via)) ≡ Some (sourced_via source via) = via_reads value via (sourced_params source via.params) parts (are_sourced source via.params is parts.by.params_in) in
    elim (cases_Bool (is_from source via)) [
      | inl y ↦ rw (e, y) e
      | inr n ↦ rw (e, n) again
    ]

-- ---- what identifies the transaction stays

branch_kept : (source : Addr) (ps : List Param) → param_value (codes "branch") (sourced_params source ps) ≡ param_value (codes "branch") ps
branch_kept source [] = refl
branch_kept source (p ∷ ps) =
    let more : param_value (codes "branch") (sourced_params source ps) ≡ param_value (codes "branch") ps = branch_kept source ps in
    elim (cases_Bool (is_received p)) [
      | inl y ↦
          let q : str_to_ascii_lowercase p.name ≡ codes "received" = line_named (codes "received") (p.name, []) y in
          let other : str_eq_ignore_ascii_case p.name (codes "branch") ≡ false = rw q refl in
          rw (y, other) more
      | inr n ↦ elim (cases_Bool (asks_port p)) [
        | inl a ↦
            let q : str_to_ascii_lowercase p.name ≡ codes "rport" = line_named (codes "rport") (p.name, []) (and_true (str_eq_ignore_ascii_case p.name (codes "rport")) (is_none p.value) a).0 in
            let other : str_eq_ignore_ascii_case p.name (codes "branch") ≡ false = rw q refl in
            rw (n, a, other) more
        | inr na ↦ rw (n, na, more) refl
      ]
    ]

pub same_branch : (source : Addr) (via : Via) → param_value (codes "branch") (completed_via source via).params ≡ param_value (codes "branch") via.params
same_branch source via =
    elim (cases_Bool (is_from source via)) [
      | inl y ↦ rw y refl
      | inr n ↦ rw n (branch_kept source via.params)
    ]

pub same_sent_by : (source : Addr) (via : Via) → (completed_via source via).sent_by ≡ via.sent_by
same_sent_by source via =
    elim (cases_Bool (is_from source via)) [
      | inl y ↦ rw y refl
      | inr n ↦ rw n refl
    ]

pub completed_is_one : (source : Addr) (value : List ℕ) (via : Via) → IsSource source → via_at value ≡ Some via → first_part (completed_value source value) ≡ completed_value source value
completed_is_one source value via is e = via_is_one (completed_value source value) (completed_via source via) (completed_reads source value via is e)
