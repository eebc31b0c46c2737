-- The transitions of an answered call on each signal, by its stage.
use Rattle.std.specs.Prelude.{ℕ, ◌==◌, not, Bool, false, if◌then◌else◌, Result, Ok, Err}
use Rattle.mmtel_compose.specs.ReceivedMessages.{MessageView, status_of}
use Rattle.mmtel_output.specs.declared.outputs.StepOutput.{StepOutput}
use Rattle.mmtel_leg.specs.declared.dialogues.DialogueFault.{DialogueFault}
use Rattle.mmtel_leg.specs.declared.dialogues.InFlight.{InFlight}
use Rattle.mmtel_leg.specs.declared.dialogues.InFlight.TheVariants as in_flight
use Rattle.mmtel_transaction.specs.declared.words.DueWord.{DueWord}
use Rattle.mmtel_transaction.specs.declared.words.TKey.{TKey}
use Rattle.mmtel_types.specs.declared.sides.Side.{Side}
use Rattle.mmtel_call_services.specs.Requests.{is_same_side}
use Rattle.mmtel_call_services.specs.CallConfig.{CallConfigView}
use Rattle.mmtel_call.specs.Answered.{acknowledges, after_ack_across, after_ack_timeout, after_bye_across}
use Rattle.mmtel_call.specs.Answered.{after_bye_before_ack, after_departure, at_stage, is_due, leg_of, with_leg}
use Rattle.mmtel_call.specs.Calls.{Answered, Call, Departing, EstablishedLegs, Reinviting, Stable, Stage}
use Rattle.mmtel_call.specs.Closing.{StepResult, established_call_end, step_result}
use Rattle.mmtel_call.specs.Expiring.{after_expiry, after_expiry_reinviting, is_expiry}
use Rattle.mmtel_call.specs.Reinvites.{on_bye_reinviting, on_cancel_across, on_reinvite, on_response_across, on_timeout_across}
use Rattle.mmtel_call.specs.Reliable.{on_refused_prack}
use Rattle.mmtel_call.specs.Requests.{is_bye, is_invite, is_prack, is_update, leg_after_receiving, request_check, with_refused_request, with_unlisted_response}
use Rattle.mmtel_call.specs.Sending.{with_status_to}
use Rattle.mmtel_call.specs.Updates.{on_update_at}

-- ---- requests

-- which INVITE is pending when a side sends one: the server's own, while an ACK is due or its INVITE to that side is in flight, or that of the side itself, while it has no final
-- response (§14.2)
abbrev pub busy_in : Stage → Side → InFlight
busy_in (Answered waiting success) side = in_flight.Own
busy_in (Departing waiting success) side = in_flight.Own
busy_in Stable side = in_flight.None
busy_in (Reinviting asking q) side = if is_same_side asking side then in_flight.Theirs else in_flight.Own

-- an INVITE is accepted in a stable call alone
abbrev pub on_invite : Stage → CallConfigView → EstablishedLegs → Side → TKey → MessageView → Call → StepOutput → StepResult
on_invite (Answered waiting success) config x side key m c output = step_result c output
on_invite (Departing waiting success) config x side key m c output = step_result c output
on_invite Stable config x side key m c output = on_reinvite config x side key m c output
on_invite (Reinviting asking q) config x side key m c output = step_result c output

-- the BYE of a side got its 200
abbrev pub after_bye_at : Stage → CallConfigView → (at : ℕ) → EstablishedLegs → Side → MessageView → Call → StepOutput → StepResult
after_bye_at (Answered waiting success) config at x side m c output = after_bye_before_ack config at x waiting success side c output
after_bye_at (Departing waiting success) config at x side m c output = established_call_end at x c output
after_bye_at Stable config at x side m c output = after_bye_across config at x side m c output
after_bye_at (Reinviting asking q) config at x side m c output = on_bye_reinviting config at x asking q side c output

-- a departing call ends with the side that remains; the other one has no dialog any more
abbrev pub has_departed : Stage → Side → Bool
has_departed (Answered waiting success) side = false
has_departed (Departing waiting success) side = not (is_same_side waiting side)
has_departed Stable side = false
has_departed (Reinviting asking q) side = false

abbrev pub on_bye : Stage → CallConfigView → (at : ℕ) → EstablishedLegs → Side → TKey → MessageView → Call → StepOutput → StepResult
on_bye stage config at x side key m c output =
    if has_departed stage side then step_result c (with_status_to config c key m 481 output) else after_bye_at stage config at x side m c (with_status_to config c key m 200 output)

-- a PRACK, which acknowledges nothing here, and requests for which there is no transition
abbrev pub on_other_at : CallConfigView → TKey → MessageView → Call → StepOutput → StepResult
on_other_at config key m c output = if is_prack m then on_refused_prack config key m c output else step_result c (with_unlisted_response config c key m output)

abbrev pub on_valid_request_at : Stage → CallConfigView → (at : ℕ) → EstablishedLegs → Side → TKey → MessageView → Call → StepOutput → StepResult
on_valid_request_at stage config at x side key m c output =
    if is_invite m then on_invite stage config x side key m c output
    else if is_bye m then on_bye stage config at x side key m c output
    else if is_update m then on_update_at stage config x side key m c output
    else on_other_at config key m c output

abbrev pub on_request_at_if : Result (Unit {0}) DialogueFault → Stage → CallConfigView → (at : ℕ) → EstablishedLegs → Side → TKey → MessageView → Call → StepOutput → StepResult
on_request_at_if (Ok received) stage config at x side key m c output =
    on_valid_request_at stage config at (with_leg side (leg_after_receiving (leg_of side x) m) x) side key m
    (at_stage (with_leg side (leg_after_receiving (leg_of side x) m) x) stage c) output
on_request_at_if (Err fault) stage config at x side key m c output = step_result c (with_refused_request config c key m fault output)

abbrev pub on_request_at : Stage → CallConfigView → (at : ℕ) → EstablishedLegs → Side → TKey → MessageView → Call → StepOutput → StepResult
on_request_at stage config at x side key m c output = on_request_at_if (request_check (leg_of side x) m (busy_in stage side)) stage config at x side key m c output

-- ---- ACK

-- whether it is the ACK of the 2xx that waits for it
abbrev pub is_ack_at : Stage → Side → MessageView → Bool
is_ack_at (Answered waiting success) side m = acknowledges waiting success side m
is_ack_at (Departing waiting success) side m = acknowledges waiting success side m
is_ack_at Stable side m = false
is_ack_at (Reinviting asking q) side m = false

abbrev pub after_ack_at : Stage → CallConfigView → (at : ℕ) → EstablishedLegs → Side → MessageView → Call → StepOutput → StepResult
after_ack_at (Answered waiting success) config at x side m c output = after_ack_across config x side success m c output
after_ack_at (Departing waiting success) config at x side m c output = after_departure config at x side c output
after_ack_at Stable config at x side m c output = step_result c output
after_ack_at (Reinviting asking q) config at x side m c output = step_result c output

abbrev pub on_ack_at : Stage → CallConfigView → (at : ℕ) → EstablishedLegs → Side → MessageView → Call → StepOutput → StepResult
on_ack_at stage config at x side m c output = if is_ack_at stage side m then after_ack_at stage config at x side m c output else step_result c output

-- ---- CANCEL: a CANCEL of an INVITE that has its final response only gets its 200

abbrev pub on_cancel_at : Stage → CallConfigView → EstablishedLegs → (invite : TKey) → Call → StepOutput → StepResult
on_cancel_at (Answered waiting success) config x invite c output = step_result c output
on_cancel_at (Departing waiting success) config x invite c output = step_result c output
on_cancel_at Stable config x invite c output = step_result c output
on_cancel_at (Reinviting asking q) config x invite c output = if invite.0 == q.key.0 then on_cancel_across config x asking q c output else step_result c output

-- ---- responses to the INVITE that was relayed, and its timeout

abbrev pub on_response_at : Stage → CallConfigView → (at : ℕ) → EstablishedLegs → TKey → MessageView → Call → StepOutput → StepResult
on_response_at (Answered waiting success) config at x key m c output = step_result c output
on_response_at (Departing waiting success) config at x key m c output = step_result c output
on_response_at Stable config at x key m c output = step_result c output
on_response_at (Reinviting asking q) config at x key m c output = on_response_across config at x asking q key m (status_of m.parsed.start) c output

abbrev pub on_timeout_at : Stage → CallConfigView → (at : ℕ) → EstablishedLegs → Call → StepOutput → StepResult
on_timeout_at (Answered waiting success) config at x c output = step_result c output
on_timeout_at (Departing waiting success) config at x c output = step_result c output
on_timeout_at Stable config at x c output = step_result c output
on_timeout_at (Reinviting asking q) config at x c output = on_timeout_across config at x q c output

-- ---- deadlines

-- whether the deadline is that of the 2xx which waits for its ACK, or the expiry of the session, by the number of 2xx that were relayed to a side
abbrev pub is_due_at : Stage → (successes : ℕ) → DueWord → Bool
is_due_at (Answered waiting success) successes what = is_due success what
is_due_at (Departing waiting success) successes what = is_due success what
is_due_at Stable successes what = is_expiry successes what
is_due_at (Reinviting asking q) successes what = is_expiry successes what

abbrev pub after_timer_at : Stage → CallConfigView → (at : ℕ) → EstablishedLegs → Call → StepOutput → StepResult
after_timer_at (Answered waiting success) config at x c output = after_ack_timeout config at x waiting c output
after_timer_at (Departing waiting success) config at x c output = after_departure config at x waiting c output
after_timer_at Stable config at x c output = after_expiry config at x c output
after_timer_at (Reinviting asking q) config at x c output = after_expiry_reinviting config at x asking q c output

abbrev pub on_due_at : Stage → CallConfigView → (at : ℕ) → EstablishedLegs → DueWord → Call → StepOutput → StepResult
on_due_at stage config at x what c output = if is_due_at stage c.successes what then after_timer_at stage config at x c output else step_result c output
