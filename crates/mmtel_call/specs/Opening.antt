-- How a call opens: 100 is sent to its caller, and it reaches its first target or is refused (RFC 3261 §12.1.1, RFC 3323 §4.2, RFC 5502 §4, TS 24.611 §4.5.2).
use Rattle.std.specs.Prelude.{ℕ, Option, Some, None, []}
use Rattle.std.specs.Option.{unwrap_or}
use Rattle.mmtel_compose.specs.ReceivedMessages.{number_of}
use Rattle.mmtel_charging.specs.declared.rows.Kind.TheVariants.{Origin}
use Rattle.mmtel_output.specs.Outputs.{after_draw, token}
use Rattle.mmtel_output.specs.declared.outputs.StepOutput.{StepOutput}
use Rattle.mmtel_leg.specs.Dialogues.{caller_dialogue_with_remote as opened_dialog}
use Rattle.mmtel_leg.specs.Legs.{Leg}
use Rattle.mmtel_precedence.specs.Calls.{SnapshotView}
use Rattle.mmtel_reliable.specs.Acks.{no_responses}
use Rattle.mmtel_types.specs.declared.causes.Cause.{Cause}
use Rattle.mmtel_types.specs.declared.causes.Cause.TheVariants.{Ended}
use Rattle.mmtel_waiting.specs.Hold.{no_hold}
use Rattle.mmtel_call_services.specs.Opening.{initial_diversions, initial_target, opening_of, opening_refusal, received_history}
use Rattle.mmtel_call_services.specs.CallConfig.{CallConfigView}
use Rattle.mmtel_call_services.specs.declared.openings.Arrival.{Arrival}
use Rattle.mmtel_call.specs.Calls.{Call, Opening, Over}
use Rattle.mmtel_call.specs.Closing.{StepResult, meter_of}
use Rattle.mmtel_call.specs.Diverting.{call_refusal, reach}
use Rattle.mmtel_call.specs.Sending.{with_status_to_caller}

-- ---- the call as it opens

abbrev pub new_call : CallConfigView → Opening → Call
new_call config o = record {
  opening = o;
  diversions = initial_diversions config.bound (received_history o.invite);
  hold = no_hold;
  answered = None;
  attempts = 0;
  successes = 0;
  acks = no_responses (unwrap_or (number_of o.invite) 0);
  relayed = [];
  past = [];
  abandoned = [];
  answered_invites = [];
  phase = Over Ended;
}

-- the caller's leg is confirmed from the opening on; it has the meter of the account that is served as the caller
abbrev pub caller_of : (at : ℕ) → Call → Leg
caller_of at c = record {
  dialogue = opened_dialog c.opening.invite.peer c.opening.invite.parsed.lines c.opening.tag;
  meter = meter_of Origin c at c.opening.served.origin;
}

abbrev pub unless_refused : Option Cause → CallConfigView → SnapshotView → Leg → Call → StepOutput → StepResult
unless_refused None config now caller c output = reach config now caller None (initial_target c.opening) c output
unless_refused (Some cause) config now caller c output = call_refusal config now.at caller cause c output

-- an INVITE opens a call: 100; a 181 for each diversion that is made; the INVITE to the target, or the final response
abbrev pub opening_step : CallConfigView → SnapshotView → Call → StepOutput → StepResult
opening_step config now c output = unless_refused (opening_refusal config now.at c.opening) config now (caller_of now.at c) c (with_status_to_caller config c 100 output)

unfoldable pub call_after_opening : CallConfigView → SnapshotView → Arrival → StepOutput → StepResult
call_after_opening config now a output = opening_step config now (new_call config (opening_of config now (token output) a)) (after_draw output)
