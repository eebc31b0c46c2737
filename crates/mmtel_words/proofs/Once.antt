-- Entries of which each name comes once.
use Rattle.std.proofs.Common.{◌≡◌, ◌∙◌, ◌≤◌, ◌||◌, cond, true, false, refl, sym, ap, subst, List, [], ◌∷◌, ◌++◌, Bool, Some, None, Option, length, length-append, find, option_and_then, slice_get, arith}
use Rattle.std.proofs.lemmas.List.{append_assoc, append-nil}
use Rattle.std.specs.List.{list_all}
use Rattle.std.specs.Str.{bytes_eq}
use Rattle.clap.specs.Words.{Text, Row, first_of}
use Rattle.clap.specs.Walk.{has_row}
use Rattle.mmtel_words.proofs.Reader.{Entry}
use Rattle.mmtel_words.proofs.Auto.{row, rows, puts}
use Rattle.mmtel_words.proofs.Forms.{equal, equal_self}

-- the values of that name
abbrev pub entries : Text → List Entry → List Text
entries k [] = []
entries k (e ∷ es) = cond (bytes_eq e.0 k) (e.1 ∷ entries k es) (entries k es)

abbrev pub filled : List Text → Bool
filled [] = false
filled (v ∷ vs) = true

abbrev pub first : List Text → Option Text
first [] = None
first (v ∷ vs) = Some v

pub has_is : (k : Text) (E : List Entry) → has_row k (rows E) ≡ filled (entries k E)
has_is k [] = refl
has_is k (e ∷ es) = by (bytes_eq e.0 k) (has_is k es)
  where
    by : (b : Bool) → has_row k (rows es) ≡ filled (entries k es) → (b || has_row k (rows es)) ≡ filled (cond b (e.1 ∷ entries k es) (entries k es))
    by true h = refl
    by false h = h

pub first_is : (k : Text) (E : List Entry) → first_of k (rows E) ≡ first (entries k E)
first_is k [] = refl
first_is k (e ∷ es) = by (bytes_eq e.0 k) (first_is k es)
  where
    by : (b : Bool) → first_of k (rows es) ≡ first (entries k es)
        → option_and_then (λ (r : Row). slice_get r.values 0) (cond b (Some (row e)) (find (λ (r : Row). bytes_eq r.id k) (rows es))) ≡ first (cond b (e.1 ∷ entries k es) (entries k es))
    by true h = refl
    by false h = h

pub entries_append : (k : Text) (E F : List Entry) → entries k (E ++ F) ≡ entries k E ++ entries k F
entries_append k [] F = refl
entries_append k (e ∷ es) F = by (bytes_eq e.0 k) (entries_append k es F)
  where
    by : (b : Bool) → entries k (es ++ F) ≡ entries k es ++ entries k F → cond b (e.1 ∷ entries k (es ++ F)) (entries k (es ++ F)) ≡ cond b (e.1 ∷ entries k es) (entries k es) ++ entries k F
    by true h = ap (λ l. e.1 ∷ l) h
    by false h = h

not_filled : (vs : List Text) → filled vs ≡ false → vs ≡ []
not_filled [] e = refl
not_filled (v ∷ vs) e = absurd cc

-- one entry more of a new name
one_more : (k : Text) (F : List Entry) (e : Entry) → has_row e.0 (rows F) ≡ false → length (entries k F) ≤ 1 → length (entries k (F ++ e ∷ [])) ≤ 1
one_more k F e new le = by (bytes_eq e.0 k) refl (entries_append k F (e ∷ []))
  where
    by : (b : Bool) → bytes_eq e.0 k ≡ b → entries k (F ++ e ∷ []) ≡ entries k F ++ cond b (e.1 ∷ []) [] → length (entries k (F ++ e ∷ [])) ≤ 1
    by false other is = let n : length (entries k (F ++ e ∷ [])) ≡ length (entries k F) = ap length (is ∙ append-nil (entries k F)) in omega arith
    by true same is =
        let none : entries k F ≡ [] = not_filled (entries k F) (sym (has_is k F) ∙ ap (λ i. has_row i (rows F)) (sym (equal e.0 k same)) ∙ new) in
        let n : length (entries k (F ++ e ∷ [])) ≡ 1 = ap length (is ∙ ap (λ l. l ++ e.1 ∷ []) none) in
        omega arith

-- what is put is after what was there, and no name comes twice
pub record Put (F es : List Entry) (R : List Row) : Type 0 where
  pub are : R ≡ rows (F ++ es)
  pub once : (k : Text) → length (entries k F) ≤ 1 → length (entries k (F ++ es)) ≤ 1

pub put_is : (keys : List Text) (es F : List Entry) (R : List Row) → puts keys F es ≡ Some R → Put F es R
put_is keys [] F R e = by (list_all (λ k. has_row k (rows F)) keys) e
  where
    by : (b : Bool) → cond b (Some (rows F)) None ≡ Some R → Put F [] R
    by false e = absurd cc
    by true e = record { are = let is : rows F ≡ R = cc in sym is ∙ ap rows (sym (append-nil F)); once = λ k le. subst (λ l. length (entries k l) ≤ 1) (sym (append-nil F)) le }
put_is keys (e ∷ es) F R h = by (has_row e.0 (rows F)) refl h (put_is keys es (F ++ e ∷ []) R)
  where
    by : (b : Bool) → has_row e.0 (rows F) ≡ b → cond b None (puts keys (F ++ e ∷ []) es) ≡ Some R → (puts keys (F ++ e ∷ []) es ≡ Some R → Put (F ++ e ∷ []) es R) → Put F (e ∷ es) R
    by true old h rest = absurd cc
    by false new h rest =
        let p = rest h in
        let same : (F ++ e ∷ []) ++ es ≡ F ++ e ∷ es = append_assoc F (e ∷ []) es in
        record { are = p.are ∙ ap rows same; once = λ k le. subst (λ l. length (entries k l) ≤ 1) same (p.once k (one_more k F e new le)) }

one_of_first : (vs : List Text) (v : Text) → length vs ≤ 1 → first vs ≡ Some v → vs ≡ v ∷ []
one_of_first [] v le e = absurd cc
one_of_first (w ∷ []) v le e = cc
one_of_first (w ∷ x ∷ vs) v le e = absurd (omega arith)

pub once_is : (keys : List Text) (es : List Entry) (R : List Row) → puts keys [] es ≡ Some R → (k v : Text) → first_of k R ≡ Some v → entries k es ≡ v ∷ []
once_is keys es R h k v e =
    let p = put_is keys es [] R h in
    one_of_first (entries k es) v (p.once k (omega arith)) (sym (first_is k es) ∙ ap (first_of k) (sym p.are) ∙ e)

-- and back
old_twice : (F es : List Entry) (e : Entry) → has_row e.0 (rows F) ≡ true → length (entries e.0 (F ++ e ∷ es)) ≤ 1 → ⊥
old_twice F es e old le =
    let here : entries e.0 (e ∷ es) ≡ e.1 ∷ entries e.0 es = ap (λ b. cond b (e.1 ∷ entries e.0 es) (entries e.0 es)) (equal_self e.0) in
    let all : entries e.0 (F ++ e ∷ es) ≡ entries e.0 F ++ e.1 ∷ entries e.0 es = entries_append e.0 F (e ∷ es) ∙ ap (λ l. entries e.0 F ++ l) here in
    by (entries e.0 F) (sym (has_is e.0 F) ∙ old) (subst (λ l. length l ≤ 1) all le)
  where
    by : (vs : List Text) → filled vs ≡ true → length (vs ++ e.1 ∷ entries e.0 es) ≤ 1 → ⊥
    by [] e le = cc
    by (v ∷ vs) f le = omega (arith, length-append vs (e.1 ∷ entries e.0 es))

pub puts_all : (keys : List Text) (es F : List Entry) → ((k : Text) → length (entries k (F ++ es)) ≤ 1) → list_all (λ k. has_row k (rows (F ++ es))) keys ≡ true → puts keys F es ≡ Some (rows (F ++ es))
puts_all keys [] F once all =
    let same = append-nil F in
    ap (λ b. cond b (Some (rows F)) None) (ap (λ l. list_all (λ k. has_row k (rows l)) keys) (sym same) ∙ all) ∙ ap (λ l. Some (rows l)) (sym same)
puts_all keys (e ∷ es) F once all =
    let same : (F ++ e ∷ []) ++ es ≡ F ++ e ∷ es = append_assoc F (e ∷ []) es in
    by (has_row e.0 (rows F)) refl
    (puts_all keys es (F ++ e ∷ []) (λ k. subst (λ l. length (entries k l) ≤ 1) (sym same) (once k)) (ap (λ l. list_all (λ k. has_row k (rows l)) keys) same ∙ all) ∙ ap (λ l. Some (rows l)) same)
  where
    by : (b : Bool) → has_row e.0 (rows F) ≡ b → puts keys (F ++ e ∷ []) es ≡ Some (rows (F ++ e ∷ es)) → cond b None (puts keys (F ++ e ∷ []) es) ≡ Some (rows (F ++ e ∷ es))
    by true old rest = absurd (old_twice F es e old (once e.0))
    by false new rest = rest
