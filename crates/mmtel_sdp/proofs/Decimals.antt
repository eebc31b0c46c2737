-- Numbers in decimal digits are words of an m line.
use Rattle.std.proofs.Common.{◌≡◌, ◌==◌, ◌+◌, ◌/◌, ◌%◌, ◌<◌, true, false, nat_lt, ℕ, zero, suc, List, [], ◌∷◌, refl, inl, inr, arith}
use Rattle.std.specs.Prelude.{decimal}
use Rattle.std.specs.Fmt.{digits, digits_onto, digit_glyph}
use Rattle.std.specs.List.{list_all}
use Rattle.std.proofs.lemmas.Bool.{cases_Bool}
use Rattle.std.proofs.lemmas.Bool.Decides.{nat_tests}
use Rattle.mmtel_sdp.specs.Sdp.{is_filled}
use Rattle.mmtel_sdp.proofs.Plain.{both_true}
use Rattle.mmtel_sdp.proofs.Soundness.{word_byte, is_word}

digit_is : (d : ℕ) → d < 10 → word_byte (48 + d) ≡ true
digit_is d lt = grind (arith, nat_tests)

glyph_is : (n : ℕ) → word_byte (digit_glyph false (n % 10)) ≡ true
glyph_is n =
    let lt : n % 10 < 10 = omega arith in
    let digit : nat_lt (n % 10) 10 ≡ true = grind (arith, nat_tests) in
    rw digit (digit_is (n % 10) lt)

onto_words : (k n : ℕ) (more : List ℕ) → list_all word_byte more ≡ true → list_all word_byte (digits_onto k 10 false n more) ≡ true
onto_words zero n more all = all
onto_words (suc k) n more all =
    let next : list_all word_byte (digit_glyph false (n % 10) ∷ more) ≡ true = both_true (word_byte (digit_glyph false (n % 10))) (list_all word_byte more) (glyph_is n) all in
    elim (cases_Bool (n / 10 == 0)) [
      | inl y ↦ rw y next
      | inr m ↦ rw m (onto_words k (n / 10) (digit_glyph false (n % 10) ∷ more) next)
    ]

cons_filled : (b : ℕ) (s : List ℕ) → is_filled (b ∷ s) ≡ true
cons_filled b s = grind (arith, nat_tests)

onto_filled : (k n : ℕ) (more : List ℕ) → is_filled more ≡ true → is_filled (digits_onto k 10 false n more) ≡ true
onto_filled zero n more filled = filled
onto_filled (suc k) n more filled =
    elim (cases_Bool (n / 10 == 0)) [
      | inl y ↦ rw y (cons_filled (digit_glyph false (n % 10)) more)
      | inr m ↦ rw m (onto_filled k (n / 10) (digit_glyph false (n % 10) ∷ more) (cons_filled (digit_glyph false (n % 10)) more))
    ]

begins_filled : (k n : ℕ) → is_filled (digits_onto (suc k) 10 false n []) ≡ true
begins_filled k n =
    elim (cases_Bool (n / 10 == 0)) [
      | inl y ↦ rw y (cons_filled (digit_glyph false (n % 10)) [])
      | inr m ↦ rw m (onto_filled k (n / 10) (digit_glyph false (n % 10) ∷ []) (cons_filled (digit_glyph false (n % 10)) []))
    ]

pub decimal_word : (n : ℕ) → is_word (decimal n) ≡ true
unfolding digits
decimal_word n = both_true (is_filled (digits_onto 64 10 false n [])) (list_all word_byte (digits_onto 64 10 false n [])) (begins_filled 63 n) (onto_words 64 n [] refl)
