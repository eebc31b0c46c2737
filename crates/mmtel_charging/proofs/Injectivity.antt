-- The row is determined by its fields.
use Rattle.std.proofs.Common.{◌≡◌, ℕ, ◌<◌, ◌^◌, List, [], ◌∷◌, refl, ap, sym, ◌∙◌, decimal, codes, get_or, arith, length, Option, Some, None, IfSome, if◌then◌else◌}
use Rattle.std.proofs.lemmas.Fmt.{decimal_is_IsNumeral, decimal_nonempty}
use Rattle.std.specs.Str.{bytes_eq}
use Rattle.std.specs.Str.Parse.{digits_value}
use Rattle.mmtel_types.specs.Causes.{AreDistinguished}
use Rattle.mmtel_charging.specs.declared.rows.Kind.{Kind}
use Rattle.mmtel_charging.specs.declared.rows.Kind.TheVariants.{Origin, Terminating, Diversion, Participant}
use Rattle.mmtel_charging.specs.declared.rows.Row.{Row}
use Rattle.mmtel_charging.specs.Rows.{fields_of, moment_field, word_of}
use Rattle.mmtel_charging.specs.Writing.{InRange}

pub number-again : (m n : ℕ) → m < 2 ^ 64 → n < 2 ^ 64 → decimal m ≡ decimal n → m ≡ n
number-again m n h k e = sym (decimal_is_IsNumeral m h).1 ∙ ap (digits_value 10) e ∙ (decimal_is_IsNumeral n k).1

-- the digits of a moment, parsed; an empty text is no moment
abbrev moment_of : List ℕ → Option ℕ
moment_of [] = None
moment_of (b ∷ s) = Some (digits_value 10 (b ∷ s))

abbrev kind_of : List ℕ → Kind
kind_of word =
    if bytes_eq word (codes "origin") then Origin else
    if bytes_eq word (codes "terminating") then Terminating else
    if bytes_eq word (codes "diversion") then Diversion else Participant

kind_of-word : (k : Kind) → kind_of (word_of k) ≡ k
kind_of-word Origin = refl
kind_of-word Terminating = refl
kind_of-word Diversion = refl
kind_of-word Participant = refl

pub kind-again : (a b : Kind) → word_of a ≡ word_of b → a ≡ b
kind-again a b e = sym (kind_of-word a) ∙ ap kind_of e ∙ kind_of-word b

from-digits : (digits : List ℕ) (n : ℕ) → 0 < length digits → digits_value 10 digits ≡ n → moment_of digits ≡ Some n
from-digits [] n filled e = absurd (omega arith)
from-digits (b ∷ s) n filled e = ap Some e

moment_of-field : (m : Option ℕ) → IfSome m (λ moment. moment < 2 ^ 64) → moment_of (moment_field m) ≡ m
moment_of-field None h = refl
moment_of-field (Some moment) h = let filled = decimal_nonempty moment h in from-digits (decimal moment) moment filled (decimal_is_IsNumeral moment h).1

moment-again : (a b : Option ℕ) → IfSome a (λ moment. moment < 2 ^ 64) → IfSome b (λ moment. moment < 2 ^ 64) → moment_field a ≡ moment_field b → a ≡ b
moment-again a b h k e = sym (moment_of-field a h) ∙ ap moment_of e ∙ moment_of-field b k

-- rows are equal where each field is
same-row : (a b : Row) → a.kind ≡ b.kind → a.account.0 ≡ b.account.0 → a.call.0 ≡ b.call.0 → a.began ≡ b.began → a.answered ≡ b.answered → a.ended ≡ b.ended → a.holds ≡ b.holds
    → a.cause ≡ b.cause → a ≡ b
same-row a b kind account call began answered ended holds cause =
    λ i. record { kind = kind i; account = record { 0 = account i }; call = record { 0 = call i }; began = began i; answered = answered i; ended = ended i; holds = holds i; cause = cause i }

-- rows with equal fields are equal
pub row-again : AreDistinguished → (a b : Row) → InRange a → InRange b → fields_of a ≡ fields_of b → a ≡ b
row-again apart a b h k e =
    let nth : (i : ℕ) → get_or (fields_of a) i [] ≡ get_or (fields_of b) i [] = λ i. ap (λ fields. get_or fields i []) e in
    same-row a b (kind-again _ _ (nth 0)) (number-again _ _ h.account k.account (nth 1)) (number-again _ _ h.call k.call (nth 2)) (number-again _ _ h.began k.began (nth 3))
    (moment-again _ _ h.answered k.answered (nth 4)) (number-again _ _ h.ended k.ended (nth 5)) (number-again _ _ h.holds k.holds (nth 6))
    (apart _ _ (nth 7) (number-again _ _ h.status k.status (nth 8)))
