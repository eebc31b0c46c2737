-- The result on a signal is the result of the parts of its meaning.
use Rattle.std.proofs.Common.{◌≡◌, ◌<◌, ◌∷◌, [], ℕ, Bool, true, false, List, Some, length, position, refl, subst, sym}
use Rattle.std.proofs.lemmas.List.Quantifiers.{position-Some}
use Rattle.std.proofs.lemmas.Option.{none-some}
use Rattle.mmtel_call_services.specs.CallConfig.{CallConfigView}
use Rattle.mmtel_call_services.specs.declared.openings.Arrival.{Arrival}
use Rattle.mmtel_call.specs.declared.signals.Signal as calls
use Rattle.mmtel_output.specs.ResponseMatching.{awaited_request_branch, timed_out_branch}
use Rattle.mmtel_output.specs.declared.outputs.StepOutput.{StepOutput}
use Rattle.mmtel_sheet_values.specs.View.{SheetsInForce}
use Rattle.mmtel_b2bua.specs.Entries.{has_received_key, has_sent_branch, is_numbered}
use Rattle.mmtel_b2bua.specs.Dispatches.{dispatch_of, invites_of, place_of, step_of_dispatch}
use Rattle.mmtel_b2bua.specs.Tables.{is_opening, step_of_signal}
use Rattle.mmtel_b2bua.specs.declared.entries.Entry.{Entry}
use Rattle.mmtel_b2bua.specs.declared.dispatch.Dispatch.{Dispatch}
use Rattle.mmtel_b2bua.specs.declared.dispatch.Dispatch.TheVariants.{Opens, Receives}
use Rattle.mmtel_b2bua.specs.declared.signals.Signal.{Signal}
use Rattle.mmtel_b2bua.specs.declared.signals.Signal.TheVariants as signal

pub step_by_dispatch : (config : CallConfigView) (at : ℕ) (view : SheetsInForce) (number : ℕ) (s : Signal) (es : List Entry) (output : StepOutput) →
    step_of_signal config at view number s es output ≡ step_of_dispatch config at view (dispatch_of number s) (invites_of s) (place_of s es) es output
unfolding step_of_signal
step_by_dispatch config at view number (signal.Arrived key invite served registration identities) es output = refl
step_by_dispatch config at view number (signal.Request call side key request) es output = refl
step_by_dispatch config at view number (signal.Ack call side ack) es output = refl
step_by_dispatch config at view number (signal.Cancel call key cancel invite) es output = refl
step_by_dispatch config at view number (signal.Answer key response) es output = refl
step_by_dispatch config at view number (signal.Silent branch method) es output = refl
step_by_dispatch config at view number (signal.Due call what) es output = refl
step_by_dispatch config at view number (signal.Over key) es output = refl

-- ---- the index is one of the calls

within : (p : Entry → Bool) (es : List Entry) (n : ℕ) → position p es ≡ Some n → n < length es
within p [] n is = absurd (none-some n is)
within p (e ∷ es) n is = (position-Some p (e ∷ es) n e is).0

pub place_within : (s : Signal) (es : List Entry) (n : ℕ) → place_of s es ≡ Some n → n < length es
place_within (signal.Arrived key invite served registration identities) es n is = absurd (none-some n is)
place_within (signal.Request call side key request) es n is = within (is_numbered call.0) es n is
place_within (signal.Ack call side ack) es n is = within (is_numbered call.0) es n is
place_within (signal.Cancel call key cancel invite) es n is = within (is_numbered call.0) es n is
place_within (signal.Answer key response) es n is = within (has_sent_branch (awaited_request_branch response)) es n is
place_within (signal.Silent branch method) es n is = within (has_sent_branch (timed_out_branch branch method)) es n is
place_within (signal.Due call what) es n is = within (is_numbered call.0) es n is
place_within (signal.Over key) es n is = within (has_received_key key) es n is

-- ---- what opens a call, and what one receives

abbrev IsOf : ℕ → Signal → Dispatch → Type 0
IsOf number s (Opens a) = (a.number.0 ≡ number) × (is_opening s ≡ true)
IsOf number s (Receives received) = is_opening s ≡ false

is_of : (number : ℕ) (s : Signal) → IsOf number s (dispatch_of number s)
is_of number (signal.Arrived key invite served registration identities) = (refl, refl)
is_of number (signal.Request call side key request) = refl
is_of number (signal.Ack call side ack) = refl
is_of number (signal.Cancel call key cancel invite) = refl
is_of number (signal.Answer key response) = refl
is_of number (signal.Silent branch method) = refl
is_of number (signal.Due call what) = refl
is_of number (signal.Over key) = refl

pub opens : (number : ℕ) (s : Signal) (a : Arrival) → Opens a ≡ dispatch_of number s → (a.number.0 ≡ number) × (is_opening s ≡ true)
opens number s a is = subst (IsOf number s) (sym is) (is_of number s)

pub receives : (number : ℕ) (s : Signal) (received : calls.Signal) → Receives received ≡ dispatch_of number s → is_opening s ≡ false
receives number s received is = subst (IsOf number s) (sym is) (is_of number s)
