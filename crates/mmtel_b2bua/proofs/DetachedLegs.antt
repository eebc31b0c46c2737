-- A leg that was detached from a call has no meter, and fits into the call again, which is unchanged otherwise.
use Rattle.std.proofs.Common.{◌≡◌, ℕ, ◌+◌, Bool, true, List, Option, Some, None, Ok, Err, Result, length, refl, sym, ap, cond, not, ◌∙◌, ◌==◌}
use Rattle.std.proofs.Math.Seq.{lt-length-set}
use Rattle.std.proofs.lemmas.List.{length-set, get_or-set_same}
use Rattle.std.proofs.lemmas.List.Folds.{position_or_len-set}
use Rattle.std.proofs.lemmas.Option.{get_or_from_slice_get, none-some, slice_get-get_or, slice_get_within}
use Rattle.std.specs.Prelude.{IfOk, MatchResult, nat_lt, slice_get, slice_set}
use Rattle.std.specs.List.{position_or_len}
use Rattle.mmtel_call.specs.declared.calls.Call.{Call}
use Rattle.mmtel_call.specs.declared.calls.Phase.TheVariants.{Detached, Established, Offered, Over}
use Rattle.mmtel_call.specs.declared.calls.Phase.{Phase}
use Rattle.mmtel_call.specs.declared.calls.Stage.TheVariants.{Answered, Departing, Reinviting, Stable}
use Rattle.mmtel_call.specs.Detaching.{call_finish, detached_in, finish_of_phase, fits, fits_in, is_detached, remaining_leg, removed_leg_in, with_leg_restored}
use Rattle.mmtel_call.specs.Settled.{is_over_in}
use Rattle.mmtel_call_services.specs.CallConfig.{CallConfigView}
use Rattle.mmtel_output.specs.declared.outputs.StepOutput.{StepOutput}
use Rattle.mmtel_charging.specs.Meters.{MeterView}
use Rattle.mmtel_leg.specs.Releases.{released_leg}
use Rattle.mmtel_leg.specs.declared.legs.Released.{Released}
use Rattle.mmtel_leg.specs.declared.legs.Released.TheVariants as legs
use Rattle.mmtel_types.specs.declared.sides.Side.{Side}
use Rattle.mmtel_types.specs.declared.sides.Side.TheVariants.{Caller, Callee}
use Rattle.mmtel_types.specs.declared.numbers.Account.{Account}
use Rattle.mmtel_b2bua.specs.Entries.{is_live, is_numbered, origin_in, origin_of, served_in, served_of}
use Rattle.mmtel_b2bua.specs.Invariant.{account_count, busy_count}
use Rattle.mmtel_b2bua.specs.Detaching.{can_restore, entries_after_release, entry_after_release, entry_after_restore, entry_at, entry_of}
use Rattle.mmtel_b2bua.specs.Detaching.{has_detached_leg, leg_in_entry, place_of, released_at, released_leg_of, released_where}
use Rattle.mmtel_b2bua.specs.declared.entries.Entry.{Entry}

-- ---- of one call

abbrev in_place : (left : Released) → Option Released → Bool
in_place left None = true
in_place left (Some leg) = fits leg left

released_leg_fits : (phase : Phase) (side : Side) (c : Call) (leg : Released) → removed_leg_in phase side ≡ Some leg → fits_in (detached_in phase side c).phase leg ≡ true
released_leg_fits (Offered x) side c leg h = absurd (none-some leg h)
released_leg_fits (Established x (Answered waiting success)) side c leg h = absurd (none-some leg h)
released_leg_fits (Established x (Departing waiting success)) side c leg h = absurd (none-some leg h)
released_leg_fits (Established x Stable) Caller c leg h = ap (in_place (remaining_leg Caller x)) (sym h)
released_leg_fits (Established x Stable) Callee c leg h = ap (in_place (remaining_leg Callee x)) (sym h)
released_leg_fits (Established x (Reinviting asking q)) side c leg h = absurd (none-some leg h)
released_leg_fits (Detached detached) side c leg h = absurd (none-some leg h)
released_leg_fits (Over cause) side c leg h = absurd (none-some leg h)

released_is_detached : (phase : Phase) (side : Side) (c : Call) (leg : Released) → removed_leg_in phase side ≡ Some leg → is_detached (detached_in phase side c).phase ≡ true
released_is_detached (Offered x) side c leg h = absurd (none-some leg h)
released_is_detached (Established x (Answered waiting success)) side c leg h = absurd (none-some leg h)
released_is_detached (Established x (Departing waiting success)) side c leg h = absurd (none-some leg h)
released_is_detached (Established x Stable) side c leg h = refl
released_is_detached (Established x (Reinviting asking q)) side c leg h = absurd (none-some leg h)
released_is_detached (Detached detached) side c leg h = absurd (none-some leg h)
released_is_detached (Over cause) side c leg h = absurd (none-some leg h)

abbrev meter_of : Option Released → Option MeterView
meter_of None = None
meter_of (Some leg) = (released_leg leg).meter

released_meter : (phase : Phase) (side : Side) (leg : Released) → removed_leg_in phase side ≡ Some leg → (released_leg leg).meter ≡ None
released_meter (Offered x) side leg h = absurd (none-some leg h)
released_meter (Established x (Answered waiting success)) side leg h = absurd (none-some leg h)
released_meter (Established x (Departing waiting success)) side leg h = absurd (none-some leg h)
released_meter (Established x Stable) Caller leg h = sym (ap meter_of h)
released_meter (Established x Stable) Callee leg h = sym (ap meter_of h)
released_meter (Established x (Reinviting asking q)) side leg h = absurd (none-some leg h)
released_meter (Detached detached) side leg h = absurd (none-some leg h)
released_meter (Over cause) side leg h = absurd (none-some leg h)

pub same_number : (phase : Phase) (side : Side) (c : Call) → (detached_in phase side c).opening.number.0 ≡ c.opening.number.0
same_number (Offered x) side c = refl
same_number (Established x (Answered waiting success)) side c = refl
same_number (Established x (Departing waiting success)) side c = refl
same_number (Established x Stable) side c = refl
same_number (Established x (Reinviting asking q)) side c = refl
same_number (Detached detached) side c = refl
same_number (Over cause) side c = refl

-- put back, or ended without it, the call has its number too
pub number_after_restore : (phase : Phase) (leg : Released) (c : Call) → (with_leg_restored phase leg c).opening.number.0 ≡ c.opening.number.0
number_after_restore (Offered x) leg c = refl
number_after_restore (Established x stage) leg c = refl
number_after_restore (Detached detached) leg c = refl
number_after_restore (Over cause) leg c = refl

number_over : (phase : Phase) (config : CallConfigView) (at : ℕ) (c : Call) (output : StepOutput) → (finish_of_phase phase config at c output).call.opening.number.0 ≡ c.opening.number.0
number_over (Offered x) config at c output = refl
number_over (Established x stage) config at c output = refl
number_over (Detached detached) config at c output = refl
number_over (Over cause) config at c output = refl

pub number_ended : (config : CallConfigView) (at : ℕ) (c : Call) (output : StepOutput) → (call_finish config at c output).call.opening.number.0 ≡ c.opening.number.0
unfolding call_finish
number_ended config at c output = number_over c.phase config at c output

-- whether it is live does not change either
is_live_after_release : (phase : Phase) (side : Side) (c : Call) → c.phase ≡ phase → is_over_in (detached_in phase side c).phase ≡ is_over_in c.phase
is_live_after_release (Offered x) side c h = refl
is_live_after_release (Established x (Answered waiting success)) side c h = refl
is_live_after_release (Established x (Departing waiting success)) side c h = refl
is_live_after_release (Established x Stable) side c h = sym (ap is_over_in h)
is_live_after_release (Established x (Reinviting asking q)) side c h = refl
is_live_after_release (Detached detached) side c h = refl
is_live_after_release (Over cause) side c h = refl

is_live_after_restore : (phase : Phase) (leg : Released) (c : Call) → c.phase ≡ phase → is_over_in (with_leg_restored phase leg c).phase ≡ is_over_in c.phase
is_live_after_restore (Offered x) leg c h = refl
is_live_after_restore (Established x stage) leg c h = refl
is_live_after_restore (Detached detached) leg c h = sym (ap is_over_in h)
is_live_after_restore (Over cause) leg c h = refl

pub live_after_release : (side : Side) (e : Entry) → is_live (entry_after_release side e) ≡ is_live e
unfolding is_live
live_after_release side e = ap not (is_live_after_release e.call.phase side e.call refl)

pub live_after_restore : (away : Released) (e : Entry) → is_live (entry_after_restore away e) ≡ is_live e
unfolding is_live
live_after_restore away e = ap not (is_live_after_restore e.call.phase away e.call refl)

-- nor do the accounts that it keeps busy
origin_after_release : (phase : Phase) (side : Side) (c : Call) → c.phase ≡ phase → origin_in (detached_in phase side c).phase (detached_in phase side c).opening.served.origin ≡ origin_in c.phase c.opening.served.origin
origin_after_release (Offered x) side c h = refl
origin_after_release (Established x (Answered waiting success)) side c h = refl
origin_after_release (Established x (Departing waiting success)) side c h = refl
origin_after_release (Established x Stable) side c h = sym (ap (λ (p : Phase). origin_in p c.opening.served.origin) h)
origin_after_release (Established x (Reinviting asking q)) side c h = refl
origin_after_release (Detached detached) side c h = refl
origin_after_release (Over cause) side c h = refl

served_after_release : (phase : Phase) (side : Side) (c : Call) → c.phase ≡ phase → served_in (detached_in phase side c).phase ≡ served_in c.phase
served_after_release (Offered x) side c h = refl
served_after_release (Established x (Answered waiting success)) side c h = refl
served_after_release (Established x (Departing waiting success)) side c h = refl
served_after_release (Established x Stable) side c h = sym (ap served_in h)
served_after_release (Established x (Reinviting asking q)) side c h = refl
served_after_release (Detached detached) side c h = refl
served_after_release (Over cause) side c h = refl

origin_after_restore : (phase : Phase) (leg : Released) (c : Call) → c.phase ≡ phase →
    origin_in (with_leg_restored phase leg c).phase (with_leg_restored phase leg c).opening.served.origin ≡ origin_in c.phase c.opening.served.origin
origin_after_restore (Offered x) leg c h = refl
origin_after_restore (Established x stage) leg c h = refl
origin_after_restore (Detached detached) leg c h = sym (ap (λ (p : Phase). origin_in p c.opening.served.origin) h)
origin_after_restore (Over cause) leg c h = refl

served_after_restore : (phase : Phase) (leg : Released) (c : Call) → c.phase ≡ phase → served_in (with_leg_restored phase leg c).phase ≡ served_in c.phase
served_after_restore (Offered x) leg c h = refl
served_after_restore (Established x stage) leg c h = refl
served_after_restore (Detached detached) (legs.Caller leg) c h = sym (ap served_in h)
served_after_restore (Detached detached) (legs.Callee leg) c h = sym (ap served_in h)
served_after_restore (Over cause) leg c h = refl

pub busy_after_release : (n : ℕ) (side : Side) (e : Entry) → busy_count n (entry_after_release side e) ≡ busy_count n e
unfolding origin_of served_of
busy_after_release n side e =
    ap (λ (o : Option Account). account_count o n + account_count (served_in (entry_after_release side e).call.phase) n) (origin_after_release e.call.phase side e.call refl)
    ∙ ap (λ (o : Option Account). account_count (origin_in e.call.phase e.call.opening.served.origin) n + account_count o n) (served_after_release e.call.phase side e.call refl)

pub busy_after_restore : (n : ℕ) (away : Released) (e : Entry) → busy_count n (entry_after_restore away e) ≡ busy_count n e
unfolding origin_of served_of
busy_after_restore n away e =
    ap (λ (o : Option Account). account_count o n + account_count (served_in (entry_after_restore away e).call.phase) n) (origin_after_restore e.call.phase away e.call refl)
    ∙ ap (λ (o : Option Account). account_count (origin_in e.call.phase e.call.opening.served.origin) n + account_count o n) (served_after_restore e.call.phase away e.call refl)

-- ---- of the table

place_stays : (p : Entry → Bool) (es : List Entry) (k : ℕ) (e y : Entry) → slice_get es k ≡ Some e → p y ≡ p e → position_or_len p (slice_set es k y) ≡ position_or_len p es
place_stays p es k e y is same = position_or_len-set p es k y e (same ∙ ap p (sym (get_or_from_slice_get es k e e is)))

found_stays : (number : ℕ) (es : List Entry) (k : ℕ) (e y : Entry) → slice_get es k ≡ Some e → is_numbered number y ≡ is_numbered number e → place_of number (slice_set es k y) ≡ place_of number es
found_stays number es k e y is same =
    ap (λ n. cond (nat_lt n (length (slice_set es k y))) (Some n) None) (place_stays (is_numbered number) es k e y is same)
    ∙ ap (λ m. cond (nat_lt (position_or_len (is_numbered number) es) m) (Some (position_or_len (is_numbered number) es)) None) (length-set es k y)

pub written : (es : List Entry) (k : ℕ) (e y : Entry) → slice_get es k ≡ Some e → slice_get (slice_set es k y) k ≡ Some y
written es k e y is = slice_get-get_or (slice_set es k y) k y (lt-length-set es k y (slice_get_within es k e is)) ∙ ap Some (get_or-set_same es k y y (slice_get_within es k e is))

entry_stays : (number : ℕ) (es : List Entry) (k : ℕ) (e y : Entry) → place_of number es ≡ Some k → slice_get es k ≡ Some e → is_numbered number y ≡ is_numbered number e → entry_of number (slice_set es k y) ≡ Some y
entry_stays number es k e y at is same = ap (λ o. entry_at o (slice_set es k y)) (found_stays number es k e y is same ∙ at) ∙ written es k e y is

number_after_release : (number : ℕ) (side : Side) (e : Entry) → is_numbered number (entry_after_release side e) ≡ is_numbered number e
unfolding is_numbered
number_after_release number side e = ap (λ n. n == number) (same_number e.call.phase side e.call)

passes_at : (test : Option Entry → Bool) (number : ℕ) (side : Side) (es : List Entry) (leg : Released) →
    ((e : Entry) → removed_leg_in e.call.phase side ≡ Some leg → test (Some (entry_after_release side e)) ≡ true) → (k : ℕ) → place_of number es ≡ Some k → (o : Option Entry) → slice_get es k ≡ o →
    leg_in_entry side o ≡ Some leg → test (entry_of number (released_at side k o es)) ≡ true
passes_at test number side es leg all k at None is h = absurd (none-some leg h)
passes_at test number side es leg all k at (Some e) is h = ap test (entry_stays number es k e (entry_after_release side e) at is (number_after_release number side e)) ∙ all e h

passes_by : (test : Option Entry → Bool) (number : ℕ) (side : Side) (es : List Entry) (leg : Released) →
    ((e : Entry) → removed_leg_in e.call.phase side ≡ Some leg → test (Some (entry_after_release side e)) ≡ true) → (o : Option ℕ) → place_of number es ≡ o →
    leg_in_entry side (entry_at o es) ≡ Some leg → test (entry_of number (released_where side o es)) ≡ true
passes_by test number side es leg all None at h = absurd (none-some leg h)
passes_by test number side es leg all (Some k) at h = passes_at test number side es leg all k at (slice_get es k) refl h

pub fits_again : (number : ℕ) (side : Side) (es : List Entry) (leg : Released) → released_leg_of number side es ≡ Some leg → can_restore leg (entry_of number (entries_after_release number side es)) ≡ true
unfolding entries_after_release
fits_again number side es leg h = passes_by (can_restore leg) number side es leg (λ e taken. released_leg_fits e.call.phase side e.call leg taken) (place_of number es) refl h

pub becomes_detached : (number : ℕ) (side : Side) (es : List Entry) (leg : Released) → released_leg_of number side es ≡ Some leg → has_detached_leg (entry_of number (entries_after_release number side es)) ≡ true
unfolding entries_after_release
becomes_detached number side es leg h = passes_by has_detached_leg number side es leg (λ e taken. released_is_detached e.call.phase side e.call leg taken) (place_of number es) refl h

no_meter : (side : Side) (o : Option Entry) (leg : Released) → leg_in_entry side o ≡ Some leg → (released_leg leg).meter ≡ None
no_meter side None leg h = absurd (none-some leg h)
no_meter side (Some e) leg h = released_meter e.call.phase side leg h

pub without_meter : (number : ℕ) (side : Side) (es : List Entry) (leg : Released) → released_leg_of number side es ≡ Some leg → (released_leg leg).meter ≡ None
without_meter number side es leg h = no_meter side (entry_of number es) leg h

-- ---- as a result of the function

pub fits_after : {E : Type 0} (number : ℕ) (side : Side) (es now : List Entry) (r : Result Released E) (Q : E → Type 0) → now ≡ entries_after_release number side es →
    MatchResult r (λ leg. released_leg_of number side es ≡ Some leg) Q → IfOk r (λ leg. can_restore leg (entry_of number now) ≡ true)
fits_after number side es now (Ok leg) Q e h = ap (λ xs. can_restore leg (entry_of number xs)) e ∙ fits_again number side es leg h
fits_after number side es now (Err x) Q e h = tt

pub detached_after_release : {E : Type 0} (number : ℕ) (side : Side) (es now : List Entry) (r : Result Released E) (Q : E → Type 0) → now ≡ entries_after_release number side es →
    MatchResult r (λ leg. released_leg_of number side es ≡ Some leg) Q → IfOk r (λ leg. has_detached_leg (entry_of number now) ≡ true)
detached_after_release number side es now (Ok leg) Q e h = ap (λ xs. has_detached_leg (entry_of number xs)) e ∙ becomes_detached number side es leg h
detached_after_release number side es now (Err x) Q e h = tt
