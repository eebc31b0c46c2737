-- The ledger of a step: entries follow one another, among other meters that run.
use Rattle.std.proofs.Common.{◌≡◌, ℕ, zero, suc, List, [], ◌∷◌, ◌++◌, Option, Some, None, ◌∙◌, refl, sym, ap, subst, append_assoc}
use Rattle.std.specs.Prelude.{IfSome, slice_get, slice_set}
use Rattle.std.specs.List.{flat_map, remove}
use Rattle.std.proofs.lemmas.List.{append-nil}
use Rattle.std.proofs.lemmas.Grind.{flat_map-append}
use Rattle.mmtel_charging.specs.Meters.{MeterView}
use Rattle.mmtel_charging.specs.declared.rows.Row.{Row}
use Rattle.mmtel_base.proofs.ChainTheorems.{some_is}
use Rattle.mmtel_focus_theorems.specs.Charging.{BookEntry, Follows, IsBooked, IsStarted, among, rows_of_closed}

-- ---- entries one after another

pub booked_same : (at : ℕ) (before after : List MeterView) → after ≡ before → IsBooked at before after []
booked_same at before after e = record { entries = []; follows = (e, refl) }

follows_then : (at : ℕ) (a b c : List MeterView) (entries : List BookEntry) (r q : List Row) → Follows at a entries b r → IsBooked at b c q → IsBooked at a c (r ++ q)
follows_then at a b c [] r q f g = subst (λ x. IsBooked at a c (x ++ q)) (sym f.1) (subst (λ x. IsBooked at x c q) f.0 g)
follows_then at a b c (e ∷ entries) r q f g =
    let rest = follows_then at (among e.front e.started e.back) b c entries f.0 q f.4 g in
    record {
      entries = e ∷ rest.entries;
      follows = (f.0 ++ q, ap (λ x. x ++ q) f.1 ∙ append_assoc (rows_of_closed at e.closed) f.0 q, f.2, f.3, rest.follows);
    }

pub booked_then : (at : ℕ) (a b c : List MeterView) (r q : List Row) → IsBooked at a b r → IsBooked at b c q → IsBooked at a c (r ++ q)
booked_then at a b c r q f g = follows_then at a b c f.entries r q f.follows g

-- ---- entries among others

pub beside : (f k front back : List MeterView) (meter : Option MeterView) → f ++ (among front meter back ++ k) ≡ among (f ++ front) meter (back ++ k)
beside f k front back meter = simp append_assoc refl

follows_within : (at : ℕ) (f k a b : List MeterView) (entries : List BookEntry) (r : List Row) → Follows at a entries b r → IsBooked at (f ++ (a ++ k)) (f ++ (b ++ k)) r
follows_within at f k a b [] r e = record { entries = []; follows = (ap (λ x. f ++ (x ++ k)) e.0, e.1) }
follows_within at f k a b (e ∷ entries) r g =
    let rest = follows_within at f k (among e.front e.started e.back) b entries g.0 g.4 in
    record {
      entries = record { front = f ++ e.front; closed = e.closed; started = e.started; back = e.back ++ k } ∷ rest.entries;
      follows = (
        g.0,
        g.1,
        ap (λ x. f ++ (x ++ k)) g.2 ∙ beside f k e.front e.back e.closed,
        g.3,
        subst (λ x. Follows at x rest.entries (f ++ (b ++ k)) g.0) (beside f k e.front e.back e.started) rest.follows,
      );
    }

pub booked_within : (at : ℕ) (f k a b : List MeterView) (r : List Row) → IsBooked at a b r → IsBooked at (f ++ (a ++ k)) (f ++ (b ++ k)) r
booked_within at f k a b r e = follows_within at f k a b e.entries r e.follows

-- ---- one entry

pub booked_closed : (at : ℕ) (front back : List MeterView) (meter : Option MeterView) → IsBooked at (among front meter back) (front ++ back) (rows_of_closed at meter)
booked_closed at front back meter = record {
  entries = record { front = front; closed = meter; started = None; back = back } ∷ [];
  follows = ([], sym (append-nil (rows_of_closed at meter)), refl, tt, (refl, refl));
}

pub booked_begun : (at : ℕ) (front back : List MeterView) (meter : Option MeterView) → IfSome meter (IsStarted at) → IsBooked at (front ++ back) (among front meter back) []
booked_begun at front back meter is = record {
  entries = record { front = front; closed = None; started = meter; back = back } ∷ [];
  follows = ([], refl, refl, is, (refl, refl));
}

-- ---- an item of a list, and the items before and after it

pub record IsAt {A : Type 0} (items : List A) (place : ℕ) (item : A) : Type 0 where
  pub front : List A
  pub back : List A
  pub whole : items ≡ front ++ item ∷ back
  pub put : (x : A) → slice_set items place x ≡ front ++ x ∷ back
  pub removed : remove items place ≡ front ++ back
  pub put_removed : (x : A) → remove (slice_set items place x) place ≡ front ++ back

pub stands : {A : Type 0} (items : List A) (place : ℕ) (item : A) → slice_get items place ≡ Some item → IsAt items place item
stands [] place item e = absurd cc
stands (x ∷ items) zero item e = record { front = []; back = items; whole = ap (λ y. y ∷ items) (some_is x item e); put = λ y. refl; removed = refl; put_removed = λ y. refl }
stands (x ∷ items) (suc place) item e =
    let rest = stands items place item e in
    record {
      front = x ∷ rest.front;
      back = rest.back;
      whole = ap (λ xs. x ∷ xs) rest.whole;
      put = λ y. ap (λ xs. x ∷ xs) (rest.put y);
      removed = ap (λ xs. x ∷ xs) rest.removed;
      put_removed = λ y. ap (λ xs. x ∷ xs) (rest.put_removed y);
    }

-- what runs in a list, with an item at its place
pub flat_among : {A B : Type 0} (f : A → List B) (front : List A) (item : A) (back : List A) → flat_map f (front ++ item ∷ back) ≡ flat_map f front ++ (f item ++ flat_map f back)
flat_among f front item back = flat_map-append f front (item ∷ back)

pub flat_without : {A B : Type 0} (f : A → List B) (front back : List A) → flat_map f (front ++ back) ≡ flat_map f front ++ flat_map f back
flat_without f front back = flat_map-append f front back
