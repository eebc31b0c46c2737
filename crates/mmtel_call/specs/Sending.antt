-- What a call sends: which header fields of a side's message are copied to the other side (RFC 3325 §5 and §7, RFC 3323 §5.1), and the responses to the caller (RFC 3261 §8.2.6, TS
-- 24.604 §4.5.2.6).
use Rattle.std.specs.Prelude.{ℕ, Option, []}
use Rattle.mmtel_compose.specs.ReceivedMessages.{MessageView}
use Rattle.mmtel_output.specs.declared.outputs.StepOutput.{StepOutput}
use Rattle.mmtel_output.specs.Sending.{with_relayed_response, with_response, with_status_response}
use Rattle.mmtel_transaction.specs.declared.words.TKey.{TKey}
use Rattle.mmtel_trust.specs.HeaderTable.{history_lines}
use Rattle.mmtel_types.specs.declared.sides.Side.TheVariants.{Callee}
use Rattle.mmtel_call_services.specs.CopiedHeaders.{copied_lines, masks_all, notified_history}
use Rattle.mmtel_call_services.specs.CallConfig.{CallConfigView, trusts}
use Rattle.mmtel_call.specs.Calls.{Call, Service}

-- ---- responses

-- to a request of a side, with the server's tag of the caller's dialog if the request has no To tag
abbrev pub with_status_to : CallConfigView → Call → TKey → MessageView → (code : ℕ) → StepOutput → StepOutput
with_status_to config c key m code output = with_status_response config.sip key m c.opening.tag code output

-- to the INVITE that opened the call
abbrev pub with_status_to_caller : CallConfigView → Call → (code : ℕ) → StepOutput → StepOutput
with_status_to_caller config c code output = with_status_to config c c.opening.key c.opening.invite code output

-- the 181 for a diversion
abbrev pub with_diversion_notification : CallConfigView → Call → StepOutput → StepOutput
with_diversion_notification config c output =
    with_response config.sip c.opening.key c.opening.invite c.opening.tag 181
    (history_lines (masks_all c.opening) (trusts config c.opening.invite.peer) (notified_history c.diversions)) [] [] output

-- a response of the target to which the call is offered
abbrev pub with_relay_to_caller : CallConfigView → Call → Option Service → MessageView → StepOutput → StepOutput
with_relay_to_caller config c service m output =
    with_relayed_response config.sip c.opening.key c.opening.invite c.opening.tag (copied_lines config c.opening c.diversions service Callee c.opening.invite.peer m) m output
