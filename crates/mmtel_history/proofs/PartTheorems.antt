-- A text split at escaped semicolons: the first part and the parts of what follows it.
use Rattle.std.proofs.Common.{◌≡◌, true, false, ℕ, zero, suc, ◌+◌, ◌≤◌, ◌<◌, List, [], ◌∷◌, ◌++◌, length, take, drop, get_or, refl, sym, ap, subst, ◌∙◌, arith, inl, inr, nat_lt, min, append_assoc, add-one, drop-cons}
use Rattle.std.specs.List.{onto_first}
use Rattle.std.proofs.lemmas.Bool.{cases_Bool, ltb-true}
use Rattle.std.proofs.lemmas.List.{drop_all, append-nil, take_all}
use Rattle.std.proofs.Math.Seq.{take-suc}
use Rattle.mmtel_lex.proofs.UriPartTheorems.{Filled, filled_first}
use Rattle.mmtel_history.specs.EntryUri.{begins_escape, escaped_from, escaped_parts}

abbrev pub onto_front : List ℕ → List (List ℕ) → List (List ℕ)
onto_front a [] = a ∷ []
onto_front a (p ∷ ps) = (a ++ p) ∷ ps

abbrev pub Reads : ℕ → List ℕ → Type 0
Reads i s = escaped_parts s ≡ onto_front (take i s) (escaped_parts (drop i s))

onto_first_front : (x : ℕ) (ps : List (List ℕ)) → onto_first x ps ≡ onto_front (x ∷ []) ps
onto_first_front x [] = refl
onto_first_front x (p ∷ ps) = refl

onto_twice : (a : List ℕ) (x : ℕ) (ps : List (List ℕ)) → onto_front a (onto_first x ps) ≡ onto_front (a ++ x ∷ []) ps
onto_twice a x [] = refl
onto_twice a x (p ∷ ps) = ap (λ (l : List ℕ). l ∷ ps) (sym (append_assoc a (x ∷ []) p))

filled : (n : ℕ) (s : List ℕ) → Filled (escaped_from n s)
filled zero [] = ([], [], refl)
filled (suc n) [] = ([], [], refl)
filled zero (x ∷ s) =
    elim (cases_Bool (begins_escape (x ∷ s))) [
      | inl y ↦ rw y ([], escaped_from 2 s, refl)
      | inr n ↦ rw n (filled_first x (escaped_from 0 s))
    ]
filled (suc n) (x ∷ s) = filled n s

onto_nothing : (ps : List (List ℕ)) → Filled ps → ps ≡ onto_front [] ps
onto_nothing ps is = rw is.2 refl

pub reads_start : (s : List ℕ) → Reads 0 s
reads_start s = onto_nothing (escaped_parts s) (filled 0 s)

passed : (n : ℕ) (s : List ℕ) → escaped_from n s ≡ escaped_parts (drop n s)
passed zero s = refl
passed (suc n) [] = refl
passed (suc n) (x ∷ s) = passed n s

pub reads_on : (i : ℕ) (s : List ℕ) → i < length s → begins_escape (drop i s) ≡ false → Reads i s → Reads (i + 1) s
reads_on i s lt ends so_far =
    let one : drop i s ≡ get_or s i 0 ∷ drop (suc i) s = drop-cons s i 0 lt in
    let here : begins_escape (get_or s i 0 ∷ drop (suc i) s) ≡ false = subst (λ (l : List ℕ). begins_escape l ≡ false) one ends in
    let step : escaped_parts (get_or s i 0 ∷ drop (suc i) s) ≡ onto_first (get_or s i 0) (escaped_parts (drop (suc i) s)) = rw here refl in
    let front : take (suc i) s ≡ take i s ++ get_or s i 0 ∷ [] = take-suc s i 0 lt in
    rw (add-one, front)
    (so_far ∙ ap (λ (l : List ℕ). onto_front (take i s) (escaped_parts l)) one ∙ ap (λ (l : List (List ℕ)). onto_front (take i s) l) step ∙ onto_twice (take i s) (get_or s i 0) (escaped_parts (drop (suc i) s)))

drop_min : (n : ℕ) (s : List ℕ) → drop (min (length s) n) s ≡ drop n s
drop_min n s =
    elim (cases_Bool (nat_lt n (length s))) [
      | inl y ↦ let lt : n < length s = ltb-true _ _ y in let e : min (length s) n ≡ n = omega arith in rw e refl
      | inr m ↦
          let le : length s ≤ n = grind (arith, m) in
          let e : min (length s) n ≡ length s = omega arith in
          rw (e, drop_all n s le) (drop_all (length s) s (omega arith))
    ]

pub reads_escape : (i : ℕ) (s : List ℕ) → i < length s → begins_escape (drop i s) ≡ true → Reads i s → escaped_parts s ≡ take i s ∷ escaped_parts (drop (min (length (drop i s)) 3) (drop i s))
reads_escape i s lt begins so_far =
    let one : drop i s ≡ get_or s i 0 ∷ drop (suc i) s = drop-cons s i 0 lt in
    let here : begins_escape (get_or s i 0 ∷ drop (suc i) s) ≡ true = subst (λ (l : List ℕ). begins_escape l ≡ true) one begins in
    let step : escaped_parts (get_or s i 0 ∷ drop (suc i) s) ≡ [] ∷ escaped_from 2 (drop (suc i) s) = rw here refl in
    let more : escaped_from 2 (drop (suc i) s) ≡ escaped_parts (drop 3 (drop i s)) = passed 2 (drop (suc i) s) ∙ ap (λ (l : List ℕ). escaped_parts (drop 3 l)) (sym one) in
    rw (drop_min 3 (drop i s))
    (so_far ∙ ap (λ (l : List ℕ). onto_front (take i s) (escaped_parts l)) one ∙ ap (λ (l : List (List ℕ)). onto_front (take i s) l) step
    ∙ ap (λ (l : List ℕ). l ∷ escaped_from 2 (drop (suc i) s)) (append-nil (take i s)) ∙ ap (λ (l : List (List ℕ)). take i s ∷ l) more)

pub reads_all : (i : ℕ) (s : List ℕ) → i ≡ length s → Reads i s → escaped_parts s ≡ s ∷ []
reads_all i s e so_far =
    let none : drop i s ≡ [] = drop_all i s (omega arith) in
    let all : take i s ≡ s = take_all i s (omega arith) in
    so_far ∙ ap (λ (l : List ℕ). onto_front (take i s) (escaped_parts l)) none ∙ ap (λ (l : List ℕ). l ∷ []) (append-nil (take i s) ∙ all)
