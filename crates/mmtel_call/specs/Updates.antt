-- UPDATE of either side (RFC 3311): it is relayed to the other side while the call rings in an early dialog, and while it is stable; one at a time.
use Rattle.std.specs.Prelude.{◌&&◌, Bool, if◌then◌else◌, Option, Some, None, codes}
use Rattle.mmtel_compose.specs.Responses.{retry_after_lines}
use Rattle.mmtel_compose.specs.ReceivedMessages.{MessageView}
use Rattle.mmtel_output.specs.Sending.{with_relayed_request}
use Rattle.mmtel_output.specs.declared.outputs.StepOutput.{StepOutput}
use Rattle.mmtel_leg.specs.Legs.{Leg}
use Rattle.mmtel_transaction.specs.declared.words.TKey.{TKey}
use Rattle.mmtel_types.specs.Sides.{other_side}
use Rattle.mmtel_types.specs.declared.sides.Side.{Side}
use Rattle.mmtel_types.specs.declared.sides.Side.TheVariants.{Caller, Callee}
use Rattle.mmtel_call_services.specs.Requests.{is_same_side}
use Rattle.mmtel_call_services.specs.CopiedHeaders.{copied_lines}
use Rattle.mmtel_call_services.specs.CallConfig.{CallConfigView}
use Rattle.mmtel_call.specs.Answered.{at_stage, leg_of, with_leg}
use Rattle.mmtel_call.specs.Calls.{Answered, Call, Departing, EstablishedLegs, Offered, OfferedAttempt, Reinviting, Service, Stable, Stage, Update}
use Rattle.mmtel_call.specs.Closing.{StepResult, step_result}
use Rattle.mmtel_call.specs.RelayedTransactions.{leg_after_request, relayed_transaction_of, updating_side, with_transaction}
use Rattle.mmtel_call.specs.Reliable.{attempt_after_early_request}
use Rattle.mmtel_call.specs.Requests.{with_response_to}
use Rattle.mmtel_call.specs.Sending.{with_status_to}

-- ---- responses of the server's own (§5.2)

-- the UPDATE may be repeated later
abbrev pub on_early_retry : CallConfigView → TKey → MessageView → Call → StepOutput → StepResult
on_early_retry config key m c output = step_result c (with_response_to config c key m 500 retry_after_lines output)

-- it crosses a request that the other side, or the server, has pending
abbrev pub on_glare : CallConfigView → TKey → MessageView → Call → StepOutput → StepResult
on_glare config key m c output = step_result c (with_status_to config c key m 491 output)

-- while one is in flight: an UPDATE of the side that sent it, and one of the other side
abbrev pub unless_updating : Option Side → (across : Call → StepOutput → StepResult) → CallConfigView → Side → TKey → MessageView → Call → StepOutput → StepResult
unless_updating None across config side key m c output = across c output
unless_updating (Some other) across config side key m c output = if is_same_side other side then on_early_retry config key m c output else on_glare config key m c output

-- ---- it is relayed to the other side

abbrev pub after_update_relay : CallConfigView → Option Service → Side → Leg → TKey → MessageView → Call → StepOutput → StepResult
after_update_relay config service side leg key m c output = record {
  call = with_transaction (relayed_transaction_of Update side key m (leg_after_request (codes "UPDATE") leg) output) c;
  output = with_relayed_request config.sip (codes "UPDATE") leg.dialogue (copied_lines config c.opening c.diversions service side leg.dialogue.peer m) m.parsed output;
}

-- of an offered call
abbrev pub other_leg : Side → OfferedAttempt → Leg
other_leg Caller x = x.callee.leg
other_leg Callee x = x.caller

abbrev pub attempt_after_update : Side → OfferedAttempt → OfferedAttempt
attempt_after_update Caller x = attempt_after_early_request (codes "UPDATE") x
attempt_after_update Callee x = record x { caller = leg_after_request (codes "UPDATE") x.caller }

abbrev pub on_early_update : CallConfigView → OfferedAttempt → Side → TKey → MessageView → Call → StepOutput → StepResult
on_early_update config x side key m c output = after_update_relay config x.attempt.service side (other_leg side x) key m
    (record c { phase = Offered (attempt_after_update side x) }) output

-- of a stable one
abbrev pub on_stable_update : CallConfigView → EstablishedLegs → Side → TKey → MessageView → Call → StepOutput → StepResult
on_stable_update config x side key m c output =
    after_update_relay config x.service side (leg_of (other_side side) x) key m
    (at_stage (with_leg (other_side side) (leg_after_request (codes "UPDATE") (leg_of (other_side side) x)) x) Stable c) output

-- ---- by phase

-- whether it rings, and the target has an early dialog
abbrev pub accepts_updates : OfferedAttempt → Bool
accepts_updates x = x.attempt.rang && x.callee.is_early

abbrev pub on_update : CallConfigView → OfferedAttempt → Side → TKey → MessageView → Call → StepOutput → StepResult
on_update config x side key m c output =
    if accepts_updates x then unless_updating (updating_side c.relayed) (on_early_update config x side key m) config side key m c output
    else on_early_retry config key m c output

abbrev pub on_update_at : Stage → CallConfigView → EstablishedLegs → Side → TKey → MessageView → Call → StepOutput → StepResult
on_update_at (Answered waiting success) config x side key m c output = on_glare config key m c output
on_update_at (Departing waiting success) config x side key m c output = on_glare config key m c output
on_update_at Stable config x side key m c output = unless_updating (updating_side c.relayed) (on_stable_update config x side key m) config side key m c output
on_update_at (Reinviting asking q) config x side key m c output = on_glare config key m c output
