-- To what a text with escaped bytes decodes.
use Rattle.std.proofs.Common.{◌≡◌, ◌==◌, ◌&&◌, ◌⊎◌, true, false, Bool, ℕ, ◌+◌, ◌*◌, List, [], ◌∷◌, ◌++◌, drop, Option, Some, None, refl, sym, ap, subst, ◌∙◌, arith, inl, inr, nat_lt, append-nil}
use Rattle.std.specs.Prelude.{is_some, ◌↔◌}
use Rattle.std.specs.Option.{option_map}
use Rattle.std.specs.List.{onto_first}
use Rattle.std.proofs.lemmas.Bool.{cases_Bool}
use Rattle.std.proofs.lemmas.Bool.Decides.{nat_tests}
use Rattle.mmtel_base.specs.Chain.{◌>>=◌}
use Rattle.mmtel_base.specs.Scanning.{IsFree}
use Rattle.mmtel_lex.specs.Percent.{IsBroken, begins_hex, decoded_parts, hex_value, percent_decoded_text, unescaped_part, unescaped_parts}
use Rattle.mmtel_lex.specs.UriParts.{parts}
use Rattle.mmtel_lex.proofs.UriPartTheorems.{Filled, free_parts, parts_filled, parts_more}

-- ---- to what each byte decodes

pub plain : (s : List ℕ) → IsFree 37 s → percent_decoded_text s ≡ Some s
unfolding percent_decoded_text
plain s free = rw (free_parts 37 s free) (ap (λ (l : List ℕ). Some l) (append-nil s))

front_more : (b : ℕ) (p : List ℕ) (o : Option (List ℕ)) → option_map (λ t. (b ∷ p) ++ t) o ≡ option_map (λ t. b ∷ t) (option_map (λ t. p ++ t) o)
front_more b p None = refl
front_more b p (Some t) = refl

onto_decoded : (b : ℕ) (ps : List (List ℕ)) → Filled ps → decoded_parts (onto_first b ps) ≡ option_map (λ t. b ∷ t) (decoded_parts ps)
onto_decoded b ps is = rw is.2 (front_more b is.0 (unescaped_parts is.1))

pub other : (b : ℕ) (s : List ℕ) → (b == 37) ≡ false → percent_decoded_text (b ∷ s) ≡ option_map (λ t. b ∷ t) (percent_decoded_text s)
unfolding percent_decoded_text
other b s differs = rw differs (onto_decoded b (parts 37 s) (parts_filled 37 s))

some_percent : (b : ℕ) → (b == 37) ≡ true → is_some (hex_value b) ≡ false
some_percent b e =
    let low : nat_lt b 48 ≡ true = grind (arith, nat_tests, e) in
    rw low refl

no_percent : (b n : ℕ) → hex_value b ≡ Some n → (b == 37) ≡ false
no_percent b n e =
    elim (cases_Bool (b == 37)) [
      | inl y ↦ absurd (let f : is_some (hex_value b) ≡ false = some_percent b y in let g : is_some (hex_value b) ≡ true = ap (λ (o : Option ℕ). is_some o) e in cc)
      | inr m ↦ m
    ]

byte_first : (n : ℕ) (p : List ℕ) (o : Option (List ℕ)) → option_map (λ t. [] ++ t) (o >>= λ more. Some ((n ∷ p) ++ more)) ≡ option_map (λ t. n ∷ t) (option_map (λ t. p ++ t) o)
byte_first n p None = refl
byte_first n p (Some t) = refl

two_digits : (a b high low : ℕ) (rest : List ℕ) → hex_value a ≡ Some high → hex_value b ≡ Some low → unescaped_part (a ∷ b ∷ rest) ≡ Some ((high * 16 + low) ∷ rest)
two_digits a b high low rest e f = rw (e, f) refl

escaped_by : (a b high low : ℕ) (ps : List (List ℕ)) → Filled ps → hex_value a ≡ Some high → hex_value b ≡ Some low →
    decoded_parts ([] ∷ onto_first a (onto_first b ps)) ≡ option_map (λ t. (high * 16 + low) ∷ t) (decoded_parts ps)
escaped_by a b high low ps is e f = rw (is.2, two_digits a b high low is.0 e f) (byte_first (high * 16 + low) is.0 (unescaped_parts is.1))

pub escaped : (a b high low : ℕ) (s : List ℕ) → hex_value a ≡ Some high → hex_value b ≡ Some low → percent_decoded_text (37 ∷ a ∷ b ∷ s) ≡ option_map (λ t. (high * 16 + low) ∷ t) (percent_decoded_text s)
unfolding percent_decoded_text
escaped a b high low s e f = rw (no_percent a high e, no_percent b low f) (escaped_by a b high low (parts 37 s) (parts_filled 37 s) e f)

-- ---- where a text decodes to nothing

abbrev front_of : List (List ℕ) → List ℕ
front_of [] = []
front_of (p ∷ ps) = p

and_false : (x : Bool) → (x && false) ≡ false
and_false true = refl
and_false false = refl

onto_two : (a b : ℕ) (ps : List (List ℕ)) → Filled ps → begins_hex (front_of (onto_first a (onto_first b ps))) ≡ (is_some (hex_value a) && is_some (hex_value b))
onto_two a b ps is = rw is.2 refl

begins_front : (s : List ℕ) → begins_hex (front_of (parts 37 s)) ≡ begins_hex s
begins_front [] = refl
begins_front (a ∷ []) =
    elim (cases_Bool (a == 37)) [
      | inl y ↦ rw y refl
      | inr n ↦ rw n refl
    ]
begins_front (a ∷ b ∷ s) =
    elim (cases_Bool (a == 37)) [
      | inl y ↦ rw (y, some_percent a y) refl
      | inr n ↦
          elim (cases_Bool (b == 37)) [
            | inl y ↦ rw (n, y, some_percent b y) (sym (and_false (is_some (hex_value a))))
            | inr m ↦ rw (n, m) (onto_two a b (parts 37 s) (parts_filled 37 s))
          ]
    ]

none_by : (x y : Option ℕ) (rest : List ℕ) → (is_some x && is_some y) ≡ false → (x >>= λ high. y >>= λ low. Some ((high * 16 + low) ∷ rest)) ≡ None
none_by None y rest e = refl
none_by (Some h) None rest e = refl
none_by (Some h) (Some l) rest e = absurd cc

unescaped_none : (p : List ℕ) → begins_hex p ≡ false → unescaped_part p ≡ None
unescaped_none [] e = refl
unescaped_none (a ∷ []) e = refl
unescaped_none (a ∷ b ∷ rest) e = none_by (hex_value a) (hex_value b) rest e

by_none : (x y : Option ℕ) (rest : List ℕ) → (x >>= λ high. y >>= λ low. Some ((high * 16 + low) ∷ rest)) ≡ None → (is_some x && is_some y) ≡ false
by_none None y rest e = refl
by_none (Some h) None rest e = refl
by_none (Some h) (Some l) rest e = absurd cc

none_unescaped : (p : List ℕ) → unescaped_part p ≡ None → begins_hex p ≡ false
none_unescaped [] e = refl
none_unescaped (a ∷ []) e = refl
none_unescaped (a ∷ b ∷ rest) e = by_none (hex_value a) (hex_value b) rest e

either_none : (o m : Option (List ℕ)) → (o >>= λ here. m >>= λ more. Some (here ++ more)) ≡ None → (o ≡ None) ⊎ (m ≡ None)
either_none None m e = inl refl
either_none (Some h) None e = inr refl
either_none (Some h) (Some t) e = absurd cc

first_or_more : (ps : List (List ℕ)) → unescaped_parts ps ≡ None → (unescaped_part (front_of ps) ≡ None) ⊎ (unescaped_parts (drop 1 ps) ≡ None)
first_or_more [] e = absurd cc
first_or_more (p ∷ ps) e = either_none (unescaped_part p) (unescaped_parts ps) e

further : (x : ℕ) (s : List ℕ) → IsBroken s → IsBroken (x ∷ s)
further x s is = record { before = x ∷ is.before; rest = is.rest; whole = ap (λ (l : List ℕ). x ∷ l) is.whole; digits = is.digits }

at_front : (x : ℕ) (s : List ℕ) → (x == 37) ≡ true → begins_hex s ≡ false → IsBroken (x ∷ s)
at_front x s y e =
    let same : x ≡ 37 = grind (arith, nat_tests, y) in
    record { before = []; rest = s; whole = ap (λ (b : ℕ). b ∷ s) same; digits = e }

drop_onto : (x : ℕ) (ps : List (List ℕ)) → Filled ps → drop 1 (onto_first x ps) ≡ drop 1 ps
drop_onto x ps is = rw is.2 refl

broken : (s : List ℕ) → unescaped_parts (drop 1 (parts 37 s)) ≡ None → IsBroken s
broken [] e = absurd cc
broken (x ∷ s) e =
    elim (cases_Bool (x == 37)) [
      | inl y ↦
          elim (first_or_more (parts 37 s) (rw y at e)) [
            | inl none ↦ at_front x s y (sym (begins_front s) ∙ none_unescaped (front_of (parts 37 s)) none)
            | inr none ↦ further x s (broken s none)
          ]
      | inr n ↦ further x s (broken s (ap (λ (ps : List (List ℕ)). unescaped_parts ps) (sym (drop_onto x (parts 37 s) (parts_filled 37 s))) ∙ (rw n at e)))
    ]

mapped_none : (p : List ℕ) (o : Option (List ℕ)) → option_map (λ t. p ++ t) o ≡ None → o ≡ None
mapped_none p None e = refl
mapped_none p (Some t) e = absurd cc

decoded_none : (ps : List (List ℕ)) → decoded_parts ps ≡ None → unescaped_parts (drop 1 ps) ≡ None
decoded_none [] e = absurd cc
decoded_none (p ∷ ps) e = mapped_none p (unescaped_parts ps) e

bind_none : (o : Option (List ℕ)) (m : Option (List ℕ)) → m ≡ None → (o >>= λ here. m >>= λ more. Some (here ++ more)) ≡ None
bind_none None m e = refl
bind_none (Some h) m e = rw e refl

none_behind : (ps qs : List (List ℕ)) → unescaped_parts qs ≡ None → unescaped_parts (ps ++ qs) ≡ None
none_behind [] qs e = e
none_behind (p ∷ ps) qs e = bind_none (unescaped_part p) (unescaped_parts (ps ++ qs)) (none_behind ps qs e)

none_first : (ps : List (List ℕ)) → Filled ps → unescaped_part (front_of ps) ≡ None → unescaped_parts ps ≡ None
none_first [] is e = absurd (let f = is.2 in cc)
none_first (p ∷ ps) is e = rw e refl

none_decoded : (ps qs : List (List ℕ)) → Filled ps → unescaped_parts qs ≡ None → decoded_parts (ps ++ qs) ≡ None
none_decoded ps qs is e = rw (is.2, none_behind is.1 qs e) refl

none_at : (front rest : List ℕ) → begins_hex rest ≡ false → percent_decoded_text (front ++ 37 ∷ rest) ≡ None
unfolding percent_decoded_text
none_at front rest e =
    let first : unescaped_part (front_of (parts 37 rest)) ≡ None = unescaped_none (front_of (parts 37 rest)) (begins_front rest ∙ e) in
    rw (parts_more 37 front rest) (none_decoded (parts 37 front) (parts 37 rest) (parts_filled 37 front) (none_first (parts 37 rest) (parts_filled 37 rest) first))

-- a text decodes to nothing exactly where it is broken
pub decides : (s : List ℕ) → (percent_decoded_text s ≡ None) ↔ IsBroken s
unfolding percent_decoded_text
decides s = (λ none. broken s (decoded_none (parts 37 s) none), λ is. subst (λ (l : List ℕ). percent_decoded_text l ≡ None) (sym is.whole) (none_at is.before is.rest is.digits))

pub broken_by : (s : List ℕ) (o : Option (List ℕ)) → o ≡ percent_decoded_text s → (o ≡ None) ↔ IsBroken s
broken_by s o e = subst (λ (t : Option (List ℕ)). (t ≡ None) ↔ IsBroken s) (sym e) (decides s)
