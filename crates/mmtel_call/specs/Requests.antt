-- Requests of a side in its dialog: which are accepted (RFC 3261 §12.2.2, §14.2), and the responses to those that are not, and to those for which the step table has no transition.
use Rattle.std.specs.Prelude.{ℕ, Bool, if◌then◌else◌, List, [], Result, codes}
use Rattle.mmtel_compose.specs.Responses.{allow_lines, retry_after_lines}
use Rattle.mmtel_compose.specs.ReceivedMessages.{MessageView}
use Rattle.mmtel_output.specs.Sending.{with_response}
use Rattle.mmtel_output.specs.declared.outputs.StepOutput.{StepOutput}
use Rattle.mmtel_leg.specs.Dialogues.{last_after, unless_busy, unless_old}
use Rattle.mmtel_leg.specs.Legs.{Leg, with_dialogue}
use Rattle.mmtel_leg.specs.declared.dialogues.DialogueFault.{DialogueFault}
use Rattle.mmtel_leg.specs.declared.dialogues.DialogueFault.TheVariants.{OldCSeq, Pending, Unfinished}
use Rattle.mmtel_leg.specs.declared.dialogues.InFlight.{InFlight}
use Rattle.mmtel_message.specs.Faults.{is_method}
use Rattle.mmtel_message.specs.Message.{Line}
use Rattle.mmtel_transaction.specs.declared.words.TKey.{TKey}
use Rattle.mmtel_call_services.specs.Requests.{number_of}
use Rattle.mmtel_call_services.specs.CallConfig.{CallConfigView, further_methods}
use Rattle.mmtel_call.specs.Calls.{Call}
use Rattle.mmtel_call.specs.Sending.{with_status_to}

abbrev pub is_bye : MessageView → Bool
is_bye m = is_method (codes "BYE") m.parsed.start

abbrev pub is_prack : MessageView → Bool
is_prack m = is_method (codes "PRACK") m.parsed.start

abbrev pub is_update : MessageView → Bool
is_update m = is_method (codes "UPDATE") m.parsed.start

abbrev pub is_invite : MessageView → Bool
is_invite m = is_method (codes "INVITE") m.parsed.start

-- ---- whether it is accepted

-- the result of a leg's check of it, where an INVITE of this kind is in flight
abbrev pub request_check : Leg → MessageView → InFlight → Result (Unit {0}) DialogueFault
request_check leg m busy = unless_old (number_of m) leg.dialogue.remote_cseq (unless_busy (is_invite m) busy)

-- the leg after it accepted the request
abbrev pub leg_after_receiving : Leg → MessageView → Leg
leg_after_receiving leg m = with_dialogue leg (record leg.dialogue { remote_cseq = last_after (number_of m) leg.dialogue.remote_cseq })

-- ---- responses

-- with these further header fields
abbrev pub with_response_to : CallConfigView → Call → TKey → MessageView → (code : ℕ) → (named : List Line) → StepOutput → StepOutput
with_response_to config c key m code named output = with_response config.sip key m c.opening.tag code [] named [] output

-- to a request that is out of order, or crosses an INVITE
abbrev pub with_refused_request : CallConfigView → Call → TKey → MessageView → DialogueFault → StepOutput → StepOutput
with_refused_request config c key m (OldCSeq last) output = with_status_to config c key m 500 output
with_refused_request config c key m Pending output = with_status_to config c key m 491 output
with_refused_request config c key m Unfinished output = with_response_to config c key m 500 retry_after_lines output

-- to OPTIONS (§11.2), to REFER, which only a conference accepts, and to a request for which this is the wrong state
abbrev pub with_unlisted_response : CallConfigView → Call → TKey → MessageView → StepOutput → StepOutput
with_unlisted_response config c key m output =
    if is_method (codes "OPTIONS") m.parsed.start then with_response_to config c key m 200 (allow_lines (further_methods config)) output
    else if is_method (codes "REFER") m.parsed.start then with_status_to config c key m 403 output
    else with_status_to config c key m 481 output
