-- The longest prefix of a number, found byte by byte: what is found by the prefixes of up to some length is the longest of these.
use Rattle.std.proofs.Common.{Bor, suc, ◌≡◌, ◌==◌, ℕ, ◌≤◌, nat_lt, nat_le, Bool, true, false, not, ◌&&◌, List, [], ◌∷◌, ◌++◌, length}
use Rattle.std.proofs.Common.{Option, Some, None, refl, sym, ap, ap₂, subst, ◌∙◌, arith, inl, inr, cond, append_assoc, append-nil, add-one}
use Rattle.std.specs.Prelude.{find, filter}
use Rattle.std.specs.List.{list_all}
use Rattle.std.specs.Option.{option_copied, option_or}
use Rattle.std.specs.Str.{str_to_ascii_lowercase}
use Rattle.std.specs.Char.{to_ascii_lowercase}
use Rattle.std.proofs.lemmas.Bool.{cases_Bool}
use Rattle.std.proofs.lemmas.Bool.Decides.{nat_tests}
use Rattle.std.proofs.lemmas.List.{length_push}
use Rattle.mmtel_base.proofs.Runs.{and_true}
use Rattle.mmtel_base.specs.Classes.{in_class}
use Rattle.mmtel_base.specs.declared.classes.Class.TheVariants.{Digit}
use Rattle.mmtel_trust.specs.declared.known_peers.Route.{Route}
use Rattle.mmtel_lex.specs.Identity.{is_visual_separator, without_separators}
use Rattle.mmtel_trust.specs.Hashes.{hash_with, mixed_hash, name_hash}
use Rattle.mmtel_trust.specs.HashIndex.{Covers, IsIndex}
use Rattle.mmtel_trust.proofs.HashTheorems.{hashed_more}
use Rattle.mmtel_trust.proofs.Lookups.{covered}
use Rattle.mmtel_trust.specs.Indexes.{are_within, matches_with_length}
use Rattle.mmtel_trust.specs.Peers.{begins_with, is_prefix, longer, longest, matches_number, or_route}

-- ---- a prefix of a number has the hash of the number's first bytes

same_byte : (b c : ℕ) → (b == c) ≡ true → b ≡ c
same_byte b c e = grind (arith, nat_tests)

lower_digit : (b : ℕ) → in_class Digit b ≡ true → to_ascii_lowercase b ≡ b
unfolding in_class
lower_digit b e =
    let parts = and_true (nat_le 48 b) (nat_le b 57) e in
    let less : nat_lt b 65 ≡ true = let high : nat_le b 57 ≡ true = parts.1 in grind (arith, nat_tests) in
    rw less refl

lower_digits : (s : List ℕ) → list_all (in_class Digit) s ≡ true → str_to_ascii_lowercase s ≡ s
lower_digits [] e = refl
lower_digits (b ∷ s) e = let parts = and_true (in_class Digit b) (list_all (in_class Digit) s) e in ap₂ (λ x xs. x ∷ xs) (lower_digit b parts.0) (lower_digits s parts.1)

lower_prefix : (name : List ℕ) → is_prefix name ≡ true → str_to_ascii_lowercase name ≡ name
lower_prefix [] e = absurd cc
lower_prefix (b ∷ s) e =
    let parts = and_true (b == 43) (not (length s == 0) && list_all (in_class Digit) s) e in
    let rest = and_true (not (length s == 0)) (list_all (in_class Digit) s) parts.1 in
    let plus : to_ascii_lowercase b ≡ b = rw (same_byte b 43 parts.0) refl in
    ap₂ (λ x xs. x ∷ xs) plus (lower_digits s rest.1)

-- a prefix of a text is its first bytes
front_is : (front rest name : List ℕ) → begins_with (front ++ rest) name ≡ true → length name ≡ length front → name ≡ front
front_is [] rest [] e same = refl
front_is [] rest (p ∷ ps) e same = absurd (omega (arith, same))
front_is (b ∷ s) rest [] e same = absurd (omega (arith, same))
front_is (b ∷ s) rest (p ∷ ps) e same =
    let parts = and_true (b == p) (begins_with (s ++ rest) ps) e in
    let less : length ps ≡ length s = omega (arith, same) in
    ap₂ (λ x xs. x ∷ xs) (sym (same_byte b p parts.0)) (front_is s rest ps parts.1 less)

is_length : (m n : ℕ) → (m == n) ≡ true → m ≡ n
is_length m n e = grind (arith, nat_tests)

pub prefix_share : (number front rest : List ℕ) (n : ℕ) (r : Route) → number ≡ front ++ rest → length front ≡ n → matches_with_length number n r ≡ true → name_hash r.name ≡ hash_with 1 front
prefix_share number front rest n r whole size e =
    let parts = and_true (matches_number number r) (length r.name == n) e in
    let inner = and_true (is_prefix r.name) (begins_with number r.name) parts.0 in
    let begins : begins_with (front ++ rest) r.name ≡ true = ap (λ s. begins_with s r.name) (sym whole) ∙ inner.1 in
    let name : r.name ≡ front = front_is front rest r.name begins (is_length (length r.name) n parts.1 ∙ sym size) in
    ap (hash_with 1) (lower_prefix r.name inner.0 ∙ name)

-- ---- the longest of up to some length

abbrev pub up_to : List ℕ → ℕ → Route → Bool
up_to number n r = matches_number number r && nat_le (length r.name) n

abbrev pub best_up_to : List ℕ → ℕ → List Route → Option Route
best_up_to number n rs = longest (filter (up_to number n) rs)

-- what is found is no longer
no_longer : (number : List ℕ) (n : ℕ) (rs : List Route) (s : Route) → best_up_to number n rs ≡ Some s → length s.name ≤ n
no_longer number n [] s e = absurd cc
no_longer number n (r ∷ rs) s e = elim (cases_Bool (up_to number n r)) [
  | inl y ↦
      let fits : length r.name ≤ n = let test : nat_le (length r.name) n ≡ true = (and_true (matches_number number r) (nat_le (length r.name) n) y).1 in grind (arith, nat_tests) in
      let is : longer r (best_up_to number n rs) ≡ Some s = rw y at e in
      either r (best_up_to number n rs) fits (no_longer number n rs) is
  | inr no_more ↦ let is : best_up_to number n rs ≡ Some s = rw no_more at e in no_longer number n rs s is
]
  where
    one : (r q : Route) → Some r ≡ Some q → r ≡ q
    one r q e = cc

    either : (r : Route) (o : Option Route) → length r.name ≤ n → ((q : Route) → o ≡ Some q → length q.name ≤ n) → longer r o ≡ Some s → length s.name ≤ n
    either r None fits each e = subst (λ (x : Route). length x.name ≤ n) (one r s e) fits
    either r (Some q) fits each e = elim (cases_Bool (nat_lt (length r.name) (length q.name))) [
      | inl y ↦ let is : Some q ≡ Some s = rw y at e in each s is
      | inr no_more ↦ let is : Some r ≡ Some s = rw no_more at e in subst (λ (x : Route). length x.name ≤ n) (one r s is) fits
    ]

found_is : (number : List ℕ) (n : ℕ) (rs : List Route) (s : Route) → find (matches_with_length number n) rs ≡ Some s → length s.name ≡ n
found_is number n [] s e = absurd cc
found_is number n (r ∷ rs) s e = elim (cases_Bool (matches_with_length number n r)) [
  | inl y ↦
      let is : Some r ≡ Some s = rw y at e in
      let same : r ≡ s = cc in
      subst (λ (x : Route). length x.name ≡ n) same (is_length (length r.name) n (and_true (matches_number number r) (length r.name == n) y).1)
  | inr no_more ↦ let is : find (matches_with_length number n) rs ≡ Some s = rw no_more at e in found_is number n rs s is
]

-- the longest of all
longest_one : (r : Route) (o : Option Route) (n : ℕ) → length r.name ≡ n → ((s : Route) → o ≡ Some s → length s.name ≤ n) → longer r o ≡ Some r
longest_one r None n size each = refl
longest_one r (Some s) n size each =
    let bound : length s.name ≤ n = each s refl in
    let less : nat_lt (length r.name) (length s.name) ≡ false = grind (arith, nat_tests, bound, size) in
    rw less refl

-- one that is shorter than the one found
shorter : (r : Route) (found before : Option Route) (n : ℕ) → length r.name ≤ n → ((s : Route) → found ≡ Some s → length s.name ≡ suc n) → longer r (or_route found before) ≡ or_route found (longer r before)
shorter r None before n fits each = refl
shorter r (Some s) before n fits each =
    let size : length s.name ≡ suc n = each s refl in
    let less : nat_lt (length r.name) (length s.name) ≡ true = grind (arith, nat_tests, fits, size) in
    rw less refl

pub one_longer : (number : List ℕ) (n : ℕ) (rs : List Route) → best_up_to number (suc n) rs ≡ or_route (find (matches_with_length number (suc n)) rs) (best_up_to number n rs)
one_longer number n [] = refl
one_longer number n (r ∷ rs) = elim (cases_Bool (matches_number number r)) [
  | inl y ↦ elim (cases_Bool (length r.name == suc n)) [
    | inl just ↦
        let size : length r.name ≡ suc n = is_length (length r.name) (suc n) just in
        let fits : nat_le (length r.name) (suc n) ≡ true = grind (arith, nat_tests, size) in
        rw (y, just, fits) (longest_one r (best_up_to number (suc n) rs) (suc n) size (no_longer number (suc n) rs))
    | inr other ↦ elim (cases_Bool (nat_le (length r.name) n)) [
      | inl small ↦
          let fits : nat_le (length r.name) (suc n) ≡ true = grind (arith, nat_tests, small) in
          let less : length r.name ≤ n = grind (arith, nat_tests, small) in
          rw (y, other, small, fits) (ap (longer r) (one_longer number n rs) ∙ shorter r (find (matches_with_length number (suc n)) rs) (best_up_to number n rs) n less (found_is number (suc n) rs))
      | inr great ↦
          let far : nat_le (length r.name) (suc n) ≡ false = grind (arith, nat_tests, great, other) in
          rw (y, other, great, far) (one_longer number n rs)
    ]
  ]
  | inr away ↦ rw away (one_longer number n rs)
]

-- ---- the first and the last step

no_matter : (x : Bool) → (x && false) ≡ false
no_matter true = refl
no_matter false = refl

never : (number name : List ℕ) → (is_prefix name && begins_with number name && nat_le (length name) 0) ≡ false
never number [] = refl
never number (b ∷ s) = let far : nat_le (length (b ∷ s)) 0 ≡ false = grind (arith, nat_tests) in rw far (no_matter (is_prefix (b ∷ s) && begins_with number (b ∷ s)))

pub none_yet : (number : List ℕ) (rs : List Route) → best_up_to number 0 rs ≡ None
none_yet number [] = refl
none_yet number (r ∷ rs) = rw (never number r.name) (none_yet number rs)

-- where no matching route is longer, that is all of them
whole : (number : List ℕ) (n : ℕ) (rs : List Route) → are_within n rs ≡ true → filter (up_to number n) rs ≡ filter (matches_number number) rs
whole number n [] e = refl
whole number n (r ∷ rs) e =
    let parts = and_true (nat_le (length r.name) n) (are_within n rs) e in
    rw (parts.0, with_true (matches_number number r)) (ap (λ xs. cond (matches_number number r) (r ∷ xs) xs) (whole number n rs parts.1))
  where
    with_true : (x : Bool) → (x && true) ≡ x
    with_true true = refl
    with_true false = refl

pub wider_all : (m n : ℕ) (rs : List Route) → m ≤ n → are_within m rs ≡ true → are_within n rs ≡ true
wider_all m n [] less e = refl
wider_all m n (r ∷ rs) less e =
    let parts = and_true (nat_le (length r.name) m) (are_within m rs) e in
    let fits : nat_le (length r.name) n ≡ true = let test : nat_le (length r.name) m ≡ true = parts.0 in grind (arith, nat_tests, less) in
    rw (fits, wider_all m n rs less parts.1) refl

pub past_bound : (number : List ℕ) (bound n : ℕ) (rs : List Route) → are_within bound rs ≡ true → bound ≤ n → best_up_to number n rs ≡ longest (filter (matches_number number) rs)
past_bound number bound n rs e less = ap longest (whole number n rs (wider_all bound n rs less e))

-- a name with which a text begins is no longer than it
front_fits : (s name : List ℕ) → begins_with s name ≡ true → length name ≤ length s
front_fits s [] e = omega arith
front_fits [] (p ∷ ps) e = absurd cc
front_fits (b ∷ s) (p ∷ ps) e = let less : length ps ≤ length s = front_fits s ps (and_true (b == p) (begins_with s ps) e).1 in omega (arith, less)

pub past_number : (number : List ℕ) (n : ℕ) (rs : List Route) → length number ≤ n → best_up_to number n rs ≡ longest (filter (matches_number number) rs)
past_number number n rs less = ap longest (same rs)
  where
    test : (r : Route) → up_to number n r ≡ matches_number number r
    test r = elim (cases_Bool (matches_number number r)) [
      | inl y ↦
          let begins = (and_true (is_prefix r.name) (begins_with number r.name) y).1 in
          let front : length r.name ≤ length number = front_fits number r.name begins in
          let fits : nat_le (length r.name) n ≡ true = grind (arith, nat_tests, front, less) in
          rw (y, fits) refl
      | inr away ↦ rw away refl
    ]

    same : (rs : List Route) → filter (up_to number n) rs ≡ filter (matches_number number) rs
    same [] = refl
    same (r ∷ rs) = rw (test r) (ap (λ xs. cond (matches_number number r) (r ∷ xs) xs) (same rs))

-- ---- the walk over a number

-- all of the number except the rest was read: so many bytes, of this hash, and what was found by them
pub record IsWalked (number rest : List ℕ) (n h : ℕ) (found : Option Route) (rs : List Route) : Type 0 where
  pub front : List ℕ
  pub whole : without_separators number ≡ front ++ without_separators rest
  pub size : length front ≡ n
  pub hash : hash_with 1 front ≡ h
  pub best : found ≡ best_up_to (without_separators number) n rs

pub begins : (number : List ℕ) (rs : List Route) → IsWalked number number 0 1 None rs
begins number rs = record { front = []; whole = refl; size = refl; hash = refl; best = sym (none_yet (without_separators number) rs) }

pub past_mark : (number : List ℕ) (b : ℕ) (rest : List ℕ) (n h : ℕ) (found : Option Route) (rs : List Route) → IsWalked number (b ∷ rest) n h found rs → is_visual_separator b ≡ true → IsWalked number rest n h found rs
past_mark number b rest n h found rs w mark =
    let less : without_separators (b ∷ rest) ≡ without_separators rest = rw mark refl in
    record { front = w.front; whole = w.whole ∙ ap (λ s. w.front ++ s) less; size = w.size; hash = w.hash; best = w.best }

abbrev with_byte : List ℕ → ℕ → List ℕ
with_byte front b = front ++ b ∷ []

one_more : (number : List ℕ) (b : ℕ) (rest : List ℕ) (n h : ℕ) (found : Option Route) (rs : List Route) → (w : IsWalked number (b ∷ rest) n h found rs) → is_visual_separator b ≡ false →
    without_separators number ≡ with_byte w.front b ++ without_separators rest
one_more number b rest n h found rs w kept =
    let first : without_separators (b ∷ rest) ≡ b ∷ without_separators rest = rw kept refl in
    w.whole ∙ (ap (λ s. w.front ++ s) first ∙ sym (append_assoc w.front (b ∷ []) (without_separators rest)))

longer_by_one : (front : List ℕ) (b n : ℕ) → length front ≡ n → length (with_byte front b) ≡ suc n
longer_by_one front b n e = length_push front b ∙ (add-one (length front) ∙ ap (λ k. suc k) e)

-- what has the hash of the bytes up to this one
pub byte_covers : (number : List ℕ) (b : ℕ) (rest : List ℕ) (n h m k : ℕ) (found : Option Route) (rs : List Route) (pairs : List (ℕ × ℕ)) → IsWalked number (b ∷ rest) n h found rs → is_visual_separator b ≡ false →
    m ≡ suc n → k ≡ mixed_hash h b → IsIndex (λ r. name_hash r.name) rs pairs → Covers (matches_with_length (without_separators number) m) k rs pairs
byte_covers number b rest n h m k found rs pairs w kept one more index =
    covered (matches_with_length (without_separators number) m) (λ r. name_hash r.name) k rs pairs index (λ r e.
    prefix_share (without_separators number) (with_byte w.front b) (without_separators rest) m r (one_more number b rest n h found rs w kept) (longer_by_one w.front b n w.size ∙ sym one) e
    ∙ (hashed_more 1 w.front b ∙ (ap (λ x. mixed_hash x b) w.hash ∙ sym more)))

pub past_byte : (number : List ℕ) (b : ℕ) (rest : List ℕ) (n h m k : ℕ) (found more : Option Route) (rs : List Route) → IsWalked number (b ∷ rest) n h found rs → is_visual_separator b ≡ false →
    m ≡ suc n → k ≡ mixed_hash h b → more ≡ find (matches_with_length (without_separators number) m) rs → IsWalked number rest m k (or_route more found) rs
past_byte number b rest n h m k found more rs w kept one stir is = record {
  front = with_byte w.front b;
  whole = one_more number b rest n h found rs w kept;
  size = longer_by_one w.front b n w.size ∙ sym one;
  hash = hashed_more 1 w.front b ∙ (ap (λ x. mixed_hash x b) w.hash ∙ sym stir);
  best =
      ap₂ or_route is w.best
      ∙ (ap (λ x. or_route (find (matches_with_length (without_separators number) x) rs) (best_up_to (without_separators number) n rs)) one
      ∙ (sym (one_longer (without_separators number) n rs) ∙ ap (λ x. best_up_to (without_separators number) x rs) (sym one)));
}

-- the same walk, in other terms
pub moved : (number rest other : List ℕ) (n m h k : ℕ) (found more : Option Route) (rs : List Route) → IsWalked number rest n h found rs → rest ≡ other → n ≡ m → h ≡ k → found ≡ more →
    IsWalked number other m k more rs
moved number rest other n m h k found more rs w a b c d =
    subst (λ o. IsWalked number other m k o rs) d (subst (λ x. IsWalked number other m x found rs) c (subst (λ x. IsWalked number other x h found rs) b (subst (λ s. IsWalked number s n h found rs) a w)))

pub copied_or : (a b : Option (Bor Route)) → option_copied (option_or a b) ≡ or_route (option_copied a) (option_copied b)
copied_or None b = refl
copied_or (Some x) b = refl

pub at_bound : (number rest : List ℕ) (n h bound : ℕ) (found : Option Route) (rs : List Route) → IsWalked number rest n h found rs → are_within bound rs ≡ true → bound ≤ n →
    found ≡ longest (filter (matches_number (without_separators number)) rs)
at_bound number rest n h bound found rs w within less = w.best ∙ past_bound (without_separators number) bound n rs within less

pub at_end : (number : List ℕ) (n h : ℕ) (found : Option Route) (rs : List Route) → IsWalked number [] n h found rs → found ≡ longest (filter (matches_number (without_separators number)) rs)
at_end number n h found rs w =
    let size : length (without_separators number) ≡ n = ap length (w.whole ∙ append-nil w.front) ∙ w.size in
    w.best ∙ past_number (without_separators number) n rs (omega (arith, size))

-- ---- one more route

pub within_more : (bound more : ℕ) (rs : List Route) (r : Route) → are_within bound rs ≡ true → bound ≤ more → length r.name ≤ more → are_within more (rs ++ r ∷ []) ≡ true
within_more bound more [] r e less fits = let test : nat_le (length r.name) more ≡ true = grind (arith, nat_tests, fits) in rw test refl
within_more bound more (x ∷ xs) r e less fits =
    let parts = and_true (nat_le (length x.name) bound) (are_within bound xs) e in
    let test : nat_le (length x.name) more ≡ true = let before : nat_le (length x.name) bound ≡ true = parts.0 in grind (arith, nat_tests, less) in
    rw (test, within_more bound more xs r parts.1 less fits) refl
