-- The values read so far.
use Rattle.std.proofs.Common.{◌≡◌, true, false, ℕ, zero, suc, ◌+◌, ◌≤◌, ◌<◌, List, [], ◌∷◌, ◌++◌, length, take, get_or, Some, None, Ok, Err, refl, sym, ap, ◌∙◌, arith, nat_lt, add-one, ◌⊎◌, inl, inr, below_more}
use Rattle.std.specs.Prelude.{position}
use Rattle.std.proofs.lemmas.List.{length-append, length-take, get_or-take, take_all}
use Rattle.std.proofs.lemmas.Grind.{flat_map-append}
use Rattle.std.proofs.Math.Seq.{take-suc}
use Rattle.std.proofs.lemmas.Bool.Decides.{nat_tests}
use Rattle.mmtel_history.specs.HistoryInfo.{entry_of, entries_of, is_unreadable, entries_result}
use Rattle.mmtel_history.specs.declared.entries.Entry.{Entry}
use Rattle.mmtel_history.proofs.Finding.{position_here, position_none}

pub record ReadSoFar (vs : List (List ℕ)) (i : ℕ) (es : List Entry) : Type 0 where
  pub few : i ≤ 32
  pub count : length es ≡ i
  pub are : es ≡ entries_of (take i vs)
  pub readable : (k : ℕ) → k < i → is_unreadable (get_or vs k []) ≡ false

pub begins : (vs : List (List ℕ)) → ReadSoFar vs 0 []
begins vs = record { few = omega arith; count = refl; are = refl; readable = λ k l. absurd (omega arith) }

more_of : (vs : List (List ℕ)) (i : ℕ) (e : Entry) → i < length vs → entry_of (get_or vs i []) ≡ Some e → entries_of (take (suc i) vs) ≡ entries_of (take i vs) ++ e ∷ []
more_of vs i e lt read =
    rw (take-suc vs i [] lt, flat_map-append, read) refl

pub goes_on : (vs : List (List ℕ)) (i : ℕ) (es : List Entry) (e : Entry) → i < length vs → i < 32 → entry_of (get_or vs i []) ≡ Some e → ReadSoFar vs i es → ReadSoFar vs (i + 1) (es ++ e ∷ [])
goes_on vs i es e lt few read so_far =
    let here : is_unreadable (get_or vs i []) ≡ false = rw read refl in
    record {
      few = omega arith;
      count = omega (arith, length-append es (e ∷ []), so_far.count);
      are = rw (add-one, more_of vs i e lt read) (ap (λ (l : List Entry). l ++ e ∷ []) so_far.are);
      readable = below_more _ _ so_far.readable here;
    }

same_position : (vs : List (List ℕ)) (k : ℕ) → k < 32 → get_or (take 32 vs) k [] ≡ get_or vs k []
same_position vs k lt = get_or-take 32 vs k [] lt

pub stops : (vs : List (List ℕ)) (i : ℕ) (es : List Entry) → i < length vs → i < 32 → entry_of (get_or vs i []) ≡ None → ReadSoFar vs i es → entries_result vs ≡ Err i
unfolding entries_result
stops vs i es lt few read so_far =
    let here : is_unreadable (get_or (take 32 vs) i []) ≡ true = rw (same_position vs i few, read) refl in
    let others : (k : ℕ) → k < i → is_unreadable (get_or (take 32 vs) k []) ≡ false = λ k l. let less : k < 32 = omega arith in rw (same_position vs k less) (so_far.readable k l) in
    let within : i < length (take 32 vs) = omega (arith, length-take 32 vs) in
    rw (position_here is_unreadable (take 32 vs) i [] within others here) refl

none_before : (vs : List (List ℕ)) (i : ℕ) → (length vs ≤ i) ⊎ (i ≡ 32) → ((k : ℕ) → k < i → is_unreadable (get_or vs k []) ≡ false) → position is_unreadable (take 32 vs) ≡ None
none_before vs i covers readable =
    position_none is_unreadable (take 32 vs) []
    (λ k l.
    let less : k < 32 = omega (arith, length-take 32 vs) in
    let below : k < i = elim covers [ inl c ↦ omega (arith, length-take 32 vs) | inr c ↦ omega arith ] in
    rw (same_position vs k less) (readable k below))

pub too_many : (vs : List (List ℕ)) (i : ℕ) (es : List Entry) → i < length vs → 32 ≤ i → ReadSoFar vs i es → entries_result vs ≡ Err 32
unfolding entries_result
too_many vs i es lt many so_far =
    let last : i ≡ 32 = omega (arith, so_far.few) in
    let over : nat_lt 32 (length vs) ≡ true = grind (arith, nat_tests) in
    rw (none_before vs i (inr last) so_far.readable, over) refl

pub all_read : (vs : List (List ℕ)) (i : ℕ) (es : List Entry) → length vs ≤ i → ReadSoFar vs i es → entries_result vs ≡ Ok es
unfolding entries_result
all_read vs i es le so_far =
    let fits : nat_lt 32 (length vs) ≡ false = grind (arith, nat_tests, so_far.few) in
    let whole : es ≡ entries_of vs = so_far.are ∙ ap (λ (l : List (List ℕ)). entries_of l) (take_all i vs le) in
    rw (none_before vs i (inl le) so_far.readable, fits) (ap (λ (l : List Entry). Ok l) (sym whole))

pub any_default : (vs : List (List ℕ)) (i : ℕ) (d e : List ℕ) → i < length vs → get_or vs i d ≡ get_or vs i e
any_default [] i d e lt = absurd (omega arith)
any_default (v ∷ vs) zero d e lt = refl
any_default (v ∷ vs) (suc i) d e lt = any_default vs i d e (omega arith)
