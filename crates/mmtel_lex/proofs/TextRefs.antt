-- A quoted string as a prefix of the bytes, its quotes included; a number as one.
use Rattle.std.proofs.Common.{◌≡◌, ℕ, zero, suc, ◌+◌, List, [], ◌∷◌, ◌++◌, take, drop, Option, Some, None, true, false, ◌-◌, length, refl, sym, ap, ◌∙◌, add-one, arith}
use Rattle.std.proofs.lemmas.List.{drop_at, length-append, take_at}
use Rattle.std.specs.List.{list_any}
use Rattle.mmtel_base.specs.Classes.{in_class}
use Rattle.mmtel_base.specs.Scanning.{after_byte, after_run, closing_quote_from, IsClosedAt, leading_run}
use Rattle.mmtel_base.specs.declared.classes.Class.TheVariants.{Digit, Phone}
use Rattle.mmtel_base.proofs.ChainTheorems.{after_byte_whole}
use Rattle.mmtel_base.proofs.Runs.{run_whole}
use Rattle.mmtel_lex.specs.Reading.{number_at, sign_from, sign_of, text_from}

quote_taken : (n : ℕ) (t : List ℕ) → t ≡ take n t ++ 34 ∷ drop (suc n) t → take (suc n) t ≡ take n t ++ 34 ∷ []
quote_taken zero [] e = absurd cc
quote_taken zero (b ∷ t) e = cc
quote_taken (suc n) [] e = absurd cc
quote_taken (suc n) (b ∷ t) e = ap (λ (l : List ℕ). b ∷ l) (quote_taken n t (ap (λ (l : List ℕ). drop 1 l) e))

pub text_taken : (s t : List ℕ) (n k : ℕ) → after_byte 34 s ≡ Some t → closing_quote_from false t ≡ Some n → IsClosedAt t n → k ≡ suc (suc n) → Some (take k s, drop k s) ≡ text_from (after_byte 34 s) s
text_taken s t n k e closed is k_is = rw (k_is, after_byte_whole 34 s t e, closed, quote_taken n t is.whole, add-one) refl

-- a number and what follows it are all of the bytes

number_from : (s : List ℕ) (o : Option (List ℕ)) → after_byte 43 s ≡ o → s ≡ ((sign_from o s).0 ++ leading_run Phone (sign_from o s).1) ++ after_run Phone (sign_from o s).1
number_from s None e = run_whole Phone s
number_from s (Some t) e = after_byte_whole 43 s t e ∙ ap (λ (l : List ℕ). 43 ∷ l) (run_whole Phone t)

front_taken : (s front rest : List ℕ) (k : ℕ) → s ≡ front ++ rest → k ≡ length s - length rest → ◌≡◌ {A = List ℕ × List ℕ} (take k s, drop k s) (front, rest)
front_taken s front rest k whole k_is =
    let at : length front ≡ k = omega (arith, k_is, ap (λ (l : List ℕ). length l) whole, length-append front rest) in
    rw (whole, take_at front rest k at, drop_at front rest k at) refl

taken_at : (s : List ℕ) (k : ℕ) → k ≡ length s - length (after_run Phone (sign_of s).1) → list_any (in_class Digit) (leading_run Phone (sign_of s).1) ≡ true → Some (take k s, drop k s) ≡ number_at s
unfolding number_at
taken_at s k k_is any = rw any (ap (λ (x : List ℕ × List ℕ). Some x) (front_taken s ((sign_of s).0 ++ leading_run Phone (sign_of s).1) (after_run Phone (sign_of s).1) k (number_from s (after_byte 43 s) refl) k_is))

pub number_taken : (s tail marks rest : List ℕ) (k : ℕ) → tail ≡ (sign_of s).1 → marks ≡ leading_run Phone tail → rest ≡ after_run Phone tail → list_any (in_class Digit) marks ≡ true →
    k ≡ length s - length rest → Some (take k s, drop k s) ≡ number_at s
number_taken s tail marks rest k tail_is marks_is rest_is any k_is =
    let all : marks ≡ leading_run Phone (sign_of s).1 = marks_is ∙ ap (λ (l : List ℕ). leading_run Phone l) tail_is in
    let after : rest ≡ after_run Phone (sign_of s).1 = rest_is ∙ ap (λ (l : List ℕ). after_run Phone l) tail_is in
    taken_at s k (k_is ∙ ap (λ (l : List ℕ). length s - length l) after) (ap (λ (l : List ℕ). list_any (in_class Digit) l) (sym all) ∙ any)
