-- A header line as it is scanned: the name, the blanks, the colon, and the place of the value.
use Rattle.std.proofs.Common.{◌≡◌, ◌==◌, ◌&&◌, ◌||◌, not, Bool, true, false, ℕ, suc, ◌-◌, ◌<◌, List, [], ◌∷◌, length, take, drop, get_or, Option, Some, None, refl, sym, ap, inl, inr, ◌∙◌, arith}
use Rattle.std.proofs.lemmas.Bool.{cases_Bool}
use Rattle.std.proofs.lemmas.List.{take_rest}
use Rattle.std.proofs.lemmas.List.Folds.{list_all_at}
use Rattle.memchr.specs.Find.{Nowhere, Passes, is_byte3}
use Rattle.std.specs.List.{list_all}
use Rattle.mmtel_base.specs.Scanning.{leading_run, after_run, after_byte}
use Rattle.mmtel_base.specs.declared.classes.Class.TheVariants.{Blank, Token}
use Rattle.mmtel_message.specs.Names.{long_name}
use Rattle.mmtel_message.specs.Headers.{header_at, header_of, is_value_byte, trim}
use Rattle.mmtel_message.proofs.SpanTheorems.{Ends, ends_at, ends_behind, ends_byte, ends_run}

-- ---- the bytes of a value

neither : (a b c : Bool) → (not a && not b && not c) ≡ not (a || b || c)
neither true b c = refl
neither false true c = refl
neither false false c = refl

byte_by : (x : ℕ) (found : Bool) → is_byte3 0 13 10 x ≡ found → is_value_byte x ≡ not found
byte_by x found e = neither (x == 0) (x == 13) (x == 10) ∙ ap (λ (b : Bool). not b) e

all_good : (s : List ℕ) → ((k : ℕ) → k < length s → is_byte3 0 13 10 (get_or s k 0) ≡ false) → list_all is_value_byte s ≡ true
all_good [] other = refl
all_good (b ∷ t) other =
    let here : is_value_byte b ≡ true = byte_by b false (other 0 (omega arith)) in
    let later : (k : ℕ) → k < length t → is_byte3 0 13 10 (get_or t k 0) ≡ false = λ k less. other (suc k) (omega (arith, less)) in
    rw (here, all_good t later) refl

lacks_bytes : (s : List ℕ) → Nowhere (Passes (is_byte3 0 13 10) s) 0 (length s) → (k : ℕ) → k < length s → is_byte3 0 13 10 (get_or s k 0) ≡ false
lacks_bytes s none k less =
    elim (cases_Bool (is_byte3 0 13 10 (get_or s k 0))) [
      | inl y ↦ absurd (none k (omega arith) less y)
      | inr n ↦ n
    ]

pub good_bytes : (s : List ℕ) → Nowhere (Passes (is_byte3 0 13 10) s) 0 (length s) → list_all is_value_byte s ≡ true
good_bytes s none = all_good s (lacks_bytes s none)

pub bad_byte : (s : List ℕ) (k : ℕ) → k < length s → Passes (is_byte3 0 13 10) s k → list_all is_value_byte s ≡ false
bad_byte s k less here = list_all_at is_value_byte s k 0 less (byte_by (get_or s k 0) true here)

-- ---- the value of a header line

-- what follows the colon begins as many bytes before the end as it is long
behind_colon : (line name rest tail : List ℕ) → name ≡ after_run Token line → rest ≡ after_run Blank name → Some tail ≡ after_byte 58 rest → drop (length line - length tail) line ≡ tail
behind_colon line name rest tail name_is rest_is colon =
    let named : Ends line name = rw name_is (ends_run Token line) in
    let blanks : Ends name rest = rw rest_is (ends_run Blank name) in
    ends_at line tail (ends_behind line rest tail (ends_behind line name rest named blanks) (ends_byte 58 rest tail (sym colon)))

pub value_there : (line behind rest tail value : List ℕ) → behind ≡ after_run Token line → rest ≡ after_run Blank behind → Some tail ≡ after_byte 58 rest →
    value ≡ trim (take (length line - (length line - length tail)) (drop (length line - length tail) line)) → value ≡ trim tail
value_there line behind rest tail value behind_is rest_is colon value_is =
    value_is ∙ ap (λ (l : List ℕ). trim l) (take_rest line (length line - length tail) ∙ behind_colon line behind rest tail behind_is rest_is colon)

-- ---- what is scanned is what the definition says

pub scanned : (line name behind rest : List ℕ) → name ≡ leading_run Token line → behind ≡ after_run Token line → rest ≡ after_run Blank behind → (length name == 0) ≡ false →
    header_at line ≡ header_of name (after_byte 58 rest)
unfolding header_at
scanned line name behind rest name_is behind_is rest_is filled =
    let some : (length (leading_run Token line) == 0) ≡ false = rw name_is at filled in
    rw (rest_is, behind_is, name_is, some) refl

pub unnamed : (line name : List ℕ) → name ≡ leading_run Token line → length name ≡ 0 → None ≡ header_at line
unfolding header_at
unnamed line name name_is none =
    let empty : length (leading_run Token line) ≡ 0 = rw name_is at none in
    rw empty refl

pub no_colon : (line name rest : List ℕ) → header_at line ≡ header_of name (after_byte 58 rest) → None ≡ after_byte 58 rest → None ≡ header_at line
no_colon line name rest is none = sym (is ∙ ap (λ (o : Option (List ℕ)). header_of name o) (sym none))

pub bad_value : (line name rest tail value : List ℕ) → header_at line ≡ header_of name (after_byte 58 rest) → Some tail ≡ after_byte 58 rest → value ≡ trim tail →
    list_all is_value_byte value ≡ false → None ≡ header_at line
bad_value line name rest tail value is colon value_is other =
    let bad : list_all is_value_byte (trim tail) ≡ false = rw value_is at other in
    let known : header_of name (Some tail) ≡ None = rw bad refl in
    sym (is ∙ ap (λ (o : Option (List ℕ)). header_of name o) (sym colon) ∙ known)

pub good_value : (line name rest tail value : List ℕ) → header_at line ≡ header_of name (after_byte 58 rest) → Some tail ≡ after_byte 58 rest → value ≡ trim tail →
    list_all is_value_byte value ≡ true → Some (long_name name, value) ≡ header_at line
good_value line name rest tail value is colon value_is fine =
    let good : list_all is_value_byte (trim tail) ≡ true = rw value_is at fine in
    let known : header_of name (Some tail) ≡ Some (long_name name, trim tail) = rw good refl in
    rw value_is (sym (is ∙ ap (λ (o : Option (List ℕ)). header_of name o) (sym colon) ∙ known))
