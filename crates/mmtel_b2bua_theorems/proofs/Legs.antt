-- A leg that was detached from a call may be put back where it was, and then the calls are as they were before.
use Rattle.std.proofs.Common.{◌≡◌, ℕ, zero, suc, ◌==◌, true, List, [], ◌∷◌, Option, Some, None, length, cond, refl, ap, sym, subst, ◌∙◌}
use Rattle.std.proofs.Math.Seq.{lt-length-set}
use Rattle.std.proofs.lemmas.List.{get_or-set_same, length-set}
use Rattle.std.proofs.lemmas.List.Folds.{position_or_len-set}
use Rattle.std.proofs.lemmas.Option.{get_or_from_slice_get, none-some, slice_get-get_or, slice_get_within}
use Rattle.std.specs.Prelude.{Bool, nat_lt, slice_get, slice_set}
use Rattle.std.specs.List.{position_or_len}
use Rattle.mmtel_leg.specs.declared.legs.Released.{Released}
use Rattle.mmtel_leg.specs.declared.legs.Released.TheVariants as released_as
use Rattle.mmtel_types.specs.declared.sides.Side.{Side}
use Rattle.mmtel_types.specs.declared.sides.Side.TheVariants.{Caller, Callee}
use Rattle.mmtel_call.specs.Detaching.{detached_in, fits_in, removed_leg_in, with_leg_restored, with_meter}
use Rattle.mmtel_call.specs.declared.calls.Call.{Call}
use Rattle.mmtel_call.specs.declared.calls.Phase.TheVariants.{Detached, Established, Offered, Over}
use Rattle.mmtel_call.specs.declared.calls.Phase.{Phase}
use Rattle.mmtel_call.specs.declared.calls.Stage.TheVariants.{Answered, Departing, Reinviting, Stable}
use Rattle.mmtel_b2bua.specs.Entries.{is_numbered}
use Rattle.mmtel_b2bua.specs.Detaching.{can_restore, entries_after_release, entries_after_restore, entry_after_release, entry_at}
use Rattle.mmtel_b2bua.specs.Detaching.{entry_of, leg_in_entry, place_of, released_at, released_where, restored_at, restored_where}
use Rattle.mmtel_b2bua.specs.declared.entries.Entry.{Entry}
use Rattle.mmtel_b2bua_theorems.specs.Legs.{LegsGoBack}

-- ---- of one call

-- the leg fits, and the call is as before
abbrev GoesBack : Phase → Side → Call → Released → Type 0
GoesBack phase side c leg =
    let d : Call = detached_in phase side (record c { phase = phase }) in
    (fits_in d.phase leg ≡ true) × (with_leg_restored d.phase leg d ≡ record c { phase = phase })

goes_back : (phase : Phase) (side : Side) (c : Call) (leg : Released) → removed_leg_in phase side ≡ Some leg → GoesBack phase side c leg
goes_back (Offered x) side c leg h = absurd (none-some leg h)
goes_back (Established x (Answered waiting success)) side c leg h = absurd (none-some leg h)
goes_back (Established x (Departing waiting success)) side c leg h = absurd (none-some leg h)
goes_back (Established x Stable) Caller c leg h =
    let same : released_as.Caller (with_meter None x.caller) ≡ leg = cc in
    subst (GoesBack (Established x Stable) Caller c) same (refl, refl)
goes_back (Established x Stable) Callee c leg h =
    let same : released_as.Callee (with_meter None x.callee) ≡ leg = cc in
    subst (GoesBack (Established x Stable) Callee c) same (refl, refl)
goes_back (Established x (Reinviting asking q)) side c leg h = absurd (none-some leg h)
goes_back (Detached detached) side c leg h = absurd (none-some leg h)
goes_back (Over cause) side c leg h = absurd (none-some leg h)

same_number : (phase : Phase) (side : Side) (c : Call) → (detached_in phase side c).opening.number.0 ≡ c.opening.number.0
same_number (Offered x) side c = refl
same_number (Established x (Answered waiting success)) side c = refl
same_number (Established x (Departing waiting success)) side c = refl
same_number (Established x Stable) side c = refl
same_number (Established x (Reinviting asking q)) side c = refl
same_number (Detached detached) side c = refl
same_number (Over cause) side c = refl

detached_number : (number : ℕ) (side : Side) (e : Entry) → is_numbered number (entry_after_release side e) ≡ is_numbered number e
unfolding is_numbered
detached_number number side e = ap (λ n. n == number) (same_number e.call.phase side e.call)

-- ---- a call of a list, at its index

found_stays : (p : Entry → Bool) (es : List Entry) (k : ℕ) (e y : Entry) → slice_get es k ≡ Some e → p y ≡ p e →
    cond (nat_lt (position_or_len p (slice_set es k y)) (length (slice_set es k y))) (Some (position_or_len p (slice_set es k y))) None
    ≡ cond (nat_lt (position_or_len p es) (length es)) (Some (position_or_len p es)) None
found_stays p es k e y is same =
    let at : position_or_len p (slice_set es k y) ≡ position_or_len p es = position_or_len-set p es k y e (same ∙ ap p (sym (get_or_from_slice_get es k e e is))) in
    ap (λ n. cond (nat_lt n (length (slice_set es k y))) (Some n) None) at
    ∙ ap (λ m. cond (nat_lt (position_or_len p es) m) (Some (position_or_len p es)) None) (length-set es k y)

written : (es : List Entry) (k : ℕ) (e y : Entry) → slice_get es k ≡ Some e → slice_get (slice_set es k y) k ≡ Some y
written es k e y is =
    slice_get-get_or (slice_set es k y) k y (lt-length-set es k y (slice_get_within es k e is)) ∙ ap Some (get_or-set_same es k y y (slice_get_within es k e is))

twice : (es : List Entry) (k : ℕ) (y z : Entry) → slice_set (slice_set es k y) k z ≡ slice_set es k z
twice [] k y z = refl
twice (x ∷ es) zero y z = refl
twice (x ∷ es) (suc k) y z = ap (λ l. x ∷ l) (twice es k y z)

as_it_was : (es : List Entry) (k : ℕ) (e : Entry) → slice_get es k ≡ Some e → slice_set es k e ≡ es
as_it_was [] k e is = absurd (none-some e is)
as_it_was (x ∷ es) zero e is = let same : x ≡ e = cc in ap (λ z. z ∷ es) (sym same)
as_it_was (x ∷ es) (suc k) e is = ap (λ l. x ∷ l) (as_it_was es k e is)

-- ---- of the table

abbrev AreBack : (number : ℕ) → Released → (now es : List Entry) → Type 0
AreBack number leg now es = (can_restore leg (entry_of number now) ≡ true) × (entries_after_restore number leg now ≡ es)

back_at : (number : ℕ) (side : Side) (es : List Entry) (leg : Released) (k : ℕ) → place_of number es ≡ Some k → (o : Option Entry) → slice_get es k ≡ o →
    leg_in_entry side o ≡ Some leg → AreBack number leg (released_at side k o es) es
unfolding entries_after_restore
back_at number side es leg k at None is h = absurd (none-some leg h)
back_at number side es leg k at (Some e) is h =
    let y : Entry = entry_after_release side e in
    let now : List Entry = slice_set es k y in
    let place : place_of number now ≡ Some k = found_stays (is_numbered number) es k e y is (detached_number number side e) ∙ at in
    let found : slice_get now k ≡ Some y = written es k e y is in
    let (fits, back) = goes_back e.call.phase side e.call leg h in (
      ap (λ o. can_restore leg (entry_at o now)) place ∙ ap (can_restore leg) found ∙ fits,
      ap (λ o. restored_where leg o now) place
          ∙ ap (λ o. restored_at leg k o now) found
          ∙ ap (λ (c : Call). slice_set now k (record e { call = c })) back
          ∙ twice es k y e
          ∙ as_it_was es k e is,
    )

back_by : (number : ℕ) (side : Side) (es : List Entry) (leg : Released) (o : Option ℕ) → place_of number es ≡ o → leg_in_entry side (entry_at o es) ≡ Some leg →
    AreBack number leg (released_where side o es) es
back_by number side es leg None at h = absurd (none-some leg h)
back_by number side es leg (Some k) at h = back_at number side es leg k at (slice_get es k) refl h

pub legs_back : LegsGoBack
unfolding entries_after_release
legs_back number side es leg h = back_by number side es leg (place_of number es) refl h
