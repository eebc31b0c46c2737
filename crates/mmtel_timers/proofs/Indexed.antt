-- The items of the elements of a list, as elements are added and removed.
use Rattle.std.proofs.Common.{◌≡◌, ℕ, List, sym, ap, ◌∙◌, subst, ◌⊎◌, inl, inr, Some, None, Option, insert, remove}
use Rattle.std.specs.Prelude.{slice_get}
use Rattle.std.specs.Cmp.{IsTotalOrder}
use Rattle.std.specs.declared.cmp.Ordering.{Ordering}
use Rattle.std.proofs.lemmas.Option.{none-some, same_Some}
use Rattle.mmtel_timers.specs.Shelves.{Has, IsIndex}
use Rattle.mmtel_timers.proofs.Ordered.{ascends_in, ascends_out, gone, has_in, has_in_back, has_new, has_out, has_out_back, Place}

-- one element more
pub record Gains {E : Type 0} (new : E) (es fs : List E) : Type 0 where
  pub kept : (e : E) → Has e es → Has e fs
  pub added : Has new fs
  pub back : (e : E) → Has e fs → (e ≡ new) ⊎ Has e es

-- one element less
pub record Loses {E : Type 0} (old : E) (es fs : List E) : Type 0 where
  pub kept : (e : E) → Has e es → (e ≡ old) ⊎ Has e fs
  pub there : Has old es
  pub back : (e : E) → Has e fs → Has e es
  pub gone : (e : E) → Has e fs → e ≡ old → ⊥

-- elements change, and their items do not
pub record Matches {E X : Type 0} (item : E → Option X) (es fs : List E) : Type 0 where
  pub there : (e : E) → Has e es → (d : E) × Has d fs × (item d ≡ item e)
  pub back : (d : E) → Has d fs → (e : E) × Has e es × (item d ≡ item e)

module _ {E X : Type 0} (item : E → Option X) (R : X → X → Ordering) (o : IsTotalOrder R) where
  pub index_in : (new : E) (x : X) (es fs : List E) (xs : List X) (p : ℕ) → IsIndex item R es xs → Gains new es fs → item new ≡ Some x → Place R o p x xs → IsIndex item R fs (insert xs p x)
  index_in new x es fs xs p i g q at = record {
    ascends = ascends_in R o p x xs i.ascends at;
    all = λ e y h s. elim (g.back e h) [
      | inl w ↦ subst (λ (z : X). Has z (insert xs p x)) (same_Some x y (sym q ∙ (ap item (sym w) ∙ s))) (has_new p x xs)
      | inr k ↦ has_in p x xs y (i.all e y k s)
    ];
    only = λ y h. elim (has_in_back p x xs y h) [
      | inl w ↦ (new, g.added, q ∙ ap Some (sym w))
      | inr k ↦ let u = i.only y k in (u.0, g.kept u.0 u.1, u.2)
    ];
  }

  pub index_past : (new : E) (es fs : List E) (xs : List X) → IsIndex item R es xs → Gains new es fs → item new ≡ None → IsIndex item R fs xs
  index_past new es fs xs i g q = record {
    ascends = i.ascends;
    all = λ e y h s. elim (g.back e h) [
      | inl w ↦ absurd (none-some y (sym q ∙ (ap item (sym w) ∙ s)))
      | inr k ↦ i.all e y k s
    ];
    only = λ y h. let u = i.only y h in (u.0, g.kept u.0 u.1, u.2);
  }

  pub index_out : (old : E) (x : X) (es fs : List E) (xs : List X) (p : ℕ) → IsIndex item R es xs → Loses old es fs → item old ≡ Some x → ((e : E) → Has e es → item e ≡ Some x → e ≡ old) →
      slice_get xs p ≡ Some x → IsIndex item R fs (remove xs p)
  index_out old x es fs xs p i l q alone at = record {
    ascends = ascends_out R o p xs i.ascends;
    all = λ e y h s. elim (has_out p xs x y at (i.all e y (l.back e h) s)) [
      | inl w ↦ absurd (l.gone e h (alone e (l.back e h) (s ∙ ap Some w)))
      | inr k ↦ k
    ];
    only = λ y h.
        let u = i.only y (has_out_back p xs y h) in
        elim (l.kept u.0 u.1) [
          | inl w ↦ absurd (gone R o p xs x y i.ascends at h (same_Some y x (sym u.2 ∙ (ap item w ∙ q))))
          | inr k ↦ (u.0, k, u.2)
        ];
  }

  pub index_without : (old : E) (es fs : List E) (xs : List X) → IsIndex item R es xs → Loses old es fs → item old ≡ None → IsIndex item R fs xs
  index_without old es fs xs i l q = record {
    ascends = i.ascends;
    all = λ e y h s. i.all e y (l.back e h) s;
    only = λ y h.
        let u = i.only y h in
        elim (l.kept u.0 u.1) [
          | inl w ↦ absurd (none-some y (sym q ∙ (ap item (sym w) ∙ u.2)))
          | inr k ↦ (u.0, k, u.2)
        ];
  }

  pub index_same : (es fs : List E) (xs : List X) → IsIndex item R es xs → Matches item es fs → IsIndex item R fs xs
  index_same es fs xs i m = record {
    ascends = i.ascends;
    all = λ d y h s. let u = m.back d h in i.all u.0 y u.1 (sym u.2 ∙ s);
    only = λ y h. let u = i.only y h in let v = m.there u.0 u.1 in (v.0, v.1, v.2 ∙ u.2);
  }
