-- Clean texts and header fields, joined and split.
use Rattle.std.proofs.Common.{◌≡◌, ◌==◌, Bool, true, false, ◌&&◌, ℕ, zero, suc, ◌+◌, ◌≤◌, ◌/◌, ◌%◌, List, [], ◌∷◌, ◌++◌, take, drop, map, refl, arith, nat_lt}
use Rattle.std.specs.Prelude.{codes, decimal, filter, if◌then◌else◌}
use Rattle.std.specs.List.{list_all, flat_map}
use Rattle.std.proofs.lemmas.Bool.Decides.{nat_tests}
use Rattle.std.specs.Fmt.{digit_glyph, digits, digits_onto}
use Rattle.mmtel_base.proofs.Runs.{and_true}
use Rattle.mmtel_message.specs.Headers.{is_value_byte}
use Rattle.mmtel_message.specs.Message.{Line}
use Rattle.mmtel_message.specs.Texts.{start_text}
use Rattle.mmtel_message.specs.declared.messages.Start.{Start}
use Rattle.mmtel_message.specs.declared.messages.Start.TheVariants.{Request, Status}
use Rattle.mmtel_call_theorems.specs.NoInjection.Messages.{HasNoInjection, StartHasNoInjection, line_has_no_injection, written_line}

-- ---- what holds of each item

pub both : (a b : Bool) → a ≡ true → b ≡ true → (a && b) ≡ true
both true true e f = refl
both true false e f = f
both false b e f = e

module _ {A : Type 0} (p : A → Bool) where
  pub all_append : (xs ys : List A) → list_all p xs ≡ true → list_all p ys ≡ true → list_all p (xs ++ ys) ≡ true
  all_append [] ys e f = f
  all_append (x ∷ xs) ys e f =
      let parts = and_true (p x) (list_all p xs) e in
      both (p x) (list_all p (xs ++ ys)) parts.0 (all_append xs ys parts.1 f)

  pub all_parts : (xs ys : List A) → list_all p (xs ++ ys) ≡ true → (list_all p xs ≡ true) × (list_all p ys ≡ true)
  all_parts [] ys e = (refl, e)
  all_parts (x ∷ xs) ys e =
      let parts = and_true (p x) (list_all p (xs ++ ys)) e in
      let rest = all_parts xs ys parts.1 in
      (both (p x) (list_all p xs) parts.0 rest.0, rest.1)

  pub all_cons : (x : A) (xs : List A) → p x ≡ true → list_all p xs ≡ true → list_all p (x ∷ xs) ≡ true
  all_cons x xs e f = both (p x) (list_all p xs) e f

  pub all_head : (x : A) (xs : List A) → list_all p (x ∷ xs) ≡ true → (p x ≡ true) × (list_all p xs ≡ true)
  all_head x xs e = and_true (p x) (list_all p xs) e

  pub all_filter : (q : A → Bool) (xs : List A) → list_all p xs ≡ true → list_all p (filter q xs) ≡ true
  all_filter q [] e = refl
  all_filter q (x ∷ xs) e =
      let parts = and_true (p x) (list_all p xs) e in
      by (q x) parts.0 (all_filter q xs parts.1)
    where
      by : (b : Bool) → p x ≡ true → list_all p (filter q xs) ≡ true → list_all p (if b then x ∷ filter q xs else filter q xs) ≡ true
      by true f g = both (p x) (list_all p (filter q xs)) f g
      by false f g = g

  pub all_take : (n : ℕ) (xs : List A) → list_all p xs ≡ true → list_all p (take n xs) ≡ true
  all_take zero xs e = refl
  all_take (suc n) [] e = refl
  all_take (suc n) (x ∷ xs) e = let parts = and_true (p x) (list_all p xs) e in both (p x) (list_all p (take n xs)) parts.0 (all_take n xs parts.1)

  pub all_drop : (n : ℕ) (xs : List A) → list_all p xs ≡ true → list_all p (drop n xs) ≡ true
  all_drop zero xs e = e
  all_drop (suc n) [] e = refl
  all_drop (suc n) (x ∷ xs) e = all_drop n xs (and_true (p x) (list_all p xs) e).1

pub all_map : {A B : Type 0} (p : A → Bool) (q : B → Bool) (f : A → B) → ((x : A) → p x ≡ true → q (f x) ≡ true) → (xs : List A) → list_all p xs ≡ true → list_all q (map f xs) ≡ true
all_map p q f each [] e = refl
all_map p q f each (x ∷ xs) e =
    let parts = and_true (p x) (list_all p xs) e in
    both (q (f x)) (list_all q (map f xs)) (each x parts.0) (all_map p q f each xs parts.1)

pub all_flat : {A B : Type 0} (p : A → Bool) (q : B → Bool) (f : A → List B) → ((x : A) → p x ≡ true → list_all q (f x) ≡ true) → (xs : List A) → list_all p xs ≡ true → list_all q (flat_map f xs) ≡ true
all_flat p q f each [] e = refl
all_flat p q f each (x ∷ xs) e =
    let parts = and_true (p x) (list_all p xs) e in
    all_append q (f x) (flat_map f xs) (each x parts.0) (all_flat p q f each xs parts.1)

-- ---- texts

pub joined : (a b : List ℕ) → HasNoInjection a → HasNoInjection b → HasNoInjection (a ++ b)
joined a b e f = all_append is_value_byte a b e f

pub parted : (a b : List ℕ) → HasNoInjection (a ++ b) → HasNoInjection a × HasNoInjection b
parted a b e = all_parts is_value_byte a b e

-- ---- numbers

high_byte : (b : ℕ) → 48 ≤ b → is_value_byte b ≡ true
high_byte b le = grind (arith, nat_tests, le)

glyph_no_injection : (d : ℕ) → is_value_byte (digit_glyph false d) ≡ true
glyph_no_injection d = by (nat_lt d 10)
  where
    by : (b : Bool) → is_value_byte (if b then 48 + d else 87 + d) ≡ true
    by true = high_byte (48 + d) (omega arith)
    by false = high_byte (87 + d) (omega arith)

onto_no_injection : (k n : ℕ) (acc : List ℕ) → HasNoInjection acc → HasNoInjection (digits_onto k 10 false n acc)
onto_no_injection zero n acc e = e
onto_no_injection (suc k) n acc e =
    let more : HasNoInjection (digit_glyph false (n % 10) ∷ acc) = all_cons is_value_byte (digit_glyph false (n % 10)) acc (glyph_no_injection (n % 10)) e in
    by (n / 10 == 0) more (onto_no_injection k (n / 10) (digit_glyph false (n % 10) ∷ acc) more)
  where
    by : (b : Bool) → HasNoInjection (digit_glyph false (n % 10) ∷ acc) → HasNoInjection (digits_onto k 10 false (n / 10) (digit_glyph false (n % 10) ∷ acc)) →
        HasNoInjection (if b then digit_glyph false (n % 10) ∷ acc else digits_onto k 10 false (n / 10) (digit_glyph false (n % 10) ∷ acc))
    by true f g = f
    by false f g = g

pub decimal_no_injection : (n : ℕ) → HasNoInjection (decimal n)
unfolding digits
decimal_no_injection n = onto_no_injection 64 n [] refl

-- ---- header fields

pub line_no_injection : (name value : List ℕ) → HasNoInjection name → HasNoInjection value → line_has_no_injection (name, value) ≡ true
line_no_injection name value e f = both (list_all is_value_byte name) (list_all is_value_byte value) e f

pub line_parts : (l : Line) → line_has_no_injection l ≡ true → HasNoInjection l.0 × HasNoInjection l.1
line_parts l e = and_true (list_all is_value_byte l.0) (list_all is_value_byte l.1) e

pub written_no_injection : (l : Line) → line_has_no_injection l ≡ true → HasNoInjection (written_line l)
written_no_injection l e = let parts = line_parts l e in joined l.0 (codes ": " ++ l.1) parts.0 (joined (codes ": ") l.1 refl parts.1)

pub start_no_injection : (s : Start) → StartHasNoInjection s → HasNoInjection (start_text s)
start_no_injection (Request method uri) e = joined method (codes " " ++ (uri ++ codes " SIP/2.0")) e.0 (joined (codes " ") (uri ++ codes " SIP/2.0") refl (joined uri (codes " SIP/2.0") e.1 refl))
start_no_injection (Status code phrase) e =
    joined (codes "SIP/2.0 ") (decimal code ++ (codes " " ++ phrase)) refl (joined (decimal code) (codes " " ++ phrase) (decimal_no_injection code) (joined (codes " ") phrase refl e))
