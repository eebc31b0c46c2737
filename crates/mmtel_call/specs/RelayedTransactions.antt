-- Requests of a side that were relayed to the other one and wait for their final response: an INVITE (RFC 3261 §14), and, in flight beside everything else, PRACK (RFC 3262 §4) and
-- UPDATE (RFC 3311 §5.1).
use Rattle.std.specs.Prelude.{ℕ, not, nat_lt, Bool, true, false, if◌then◌else◌, Option, Some, None, List, [], ◌∷◌, ◌++◌, slice_get}
use Rattle.std.specs.List.{filter, find}
use Rattle.std.specs.Option.{option_map}
use Rattle.std.specs.Str.{bytes_eq}
use Rattle.mmtel_compose.specs.ReceivedMessages.{MessageView, status_of}
use Rattle.mmtel_output.specs.Outputs.{token, with_emit}
use Rattle.mmtel_output.specs.SentInvites.{sent_invite, without_at}
use Rattle.mmtel_output.specs.Sending.{with_relayed_response}
use Rattle.mmtel_output.specs.declared.outputs.StepOutput.{StepOutput}
use Rattle.mmtel_output.specs.declared.sent_invites.SentInvite.{SentInvite}
use Rattle.mmtel_leg.specs.Dialogues.{after_request}
use Rattle.mmtel_leg.specs.Legs.{Leg, with_dialogue}
use Rattle.mmtel_leg.specs.declared.dialogues.Dialogue.{Dialogue}
use Rattle.mmtel_sdp.specs.Offers.{direction_in_body}
use Rattle.mmtel_sdp.specs.declared.values.Direction.{Direction}
use Rattle.mmtel_sip_rules.specs.Statuses.{is_success}
use Rattle.mmtel_transaction.specs.declared.words.Emit.TheVariants as emit
use Rattle.mmtel_transaction.specs.declared.words.TKey.{TKey}
use Rattle.mmtel_types.specs.Sides.{other_side}
use Rattle.mmtel_types.specs.declared.sides.Side.{Side}
use Rattle.mmtel_waiting.specs.Hold.{state_after_note}
use Rattle.mmtel_waiting.specs.declared.hold.HoldState.{HoldState}
use Rattle.mmtel_call_services.specs.CopiedHeaders.{copied_lines}
use Rattle.mmtel_call_services.specs.CallConfig.{CallConfigView}
use Rattle.mmtel_call.specs.Awaiting.{next_success, with_expiry_timer}
use Rattle.mmtel_call.specs.Calls.{Call, Detached, Established, Offered, Over, Phase, Prack, Reinvite, RelayedKind, RelayedTransaction, Service, Update}
use Rattle.mmtel_call.specs.Closing.{StepResult, step_result}
use Rattle.mmtel_call.specs.Sending.{with_status_to}

-- ---- a request as it was relayed

-- the request as it was sent in this dialog
abbrev pub invite_sent_in : Dialogue → (branch : List ℕ) → SentInvite
invite_sent_in d branch = sent_invite d d.local_cseq branch

-- here the leg is already the one after the request was sent
abbrev pub reinvite_of : TKey → MessageView → Leg → StepOutput → Reinvite
reinvite_of key m leg output = record { key = key; request = m; invite = invite_sent_in leg.dialogue (token output); cancel_due = false }

-- the leg after a request of this method was sent in its dialog
abbrev pub leg_after_request : List ℕ → Leg → Leg
leg_after_request method leg = with_dialogue leg (after_request leg.dialogue method)

-- the hold state after an offer of a side with this direction
abbrev pub hold_after : Side → Option Direction → HoldState → HoldState
hold_after side None hold = hold
hold_after side (Some direction) hold = state_after_note hold side direction

-- ---- what is in flight

abbrev pub relayed_transaction_of : RelayedKind → Side → TKey → MessageView → Leg → StepOutput → RelayedTransaction
relayed_transaction_of kind side key m leg output = record { kind = kind; side = side; exchange = reinvite_of key m leg output }

abbrev pub with_transaction : RelayedTransaction → Call → Call
with_transaction flight c = record c { relayed = c.relayed ++ flight ∷ [] }

abbrev pub without_transaction : (place : ℕ) → Call → Call
without_transaction place c = record c { relayed = without_at place c.relayed }

-- whether it was sent with this branch
abbrev pub is_in_flight : (branch : List ℕ) → RelayedTransaction → Bool
is_in_flight branch flight = bytes_eq flight.exchange.invite.branch branch

abbrev pub is_update_of : RelayedKind → Bool
is_update_of Prack = false
is_update_of Update = true

abbrev pub is_updating : RelayedTransaction → Bool
is_updating flight = is_update_of flight.kind

-- the side whose UPDATE is in flight; there is one at most (RFC 3311 §5.2)
abbrev pub updating_side : List RelayedTransaction → Option Side
updating_side flights = option_map (λ flight. flight.side) (find is_updating flights)

-- ---- the final response is relayed back

-- the account that is served as the target
abbrev pub service_in : Phase → Option Service
service_in (Offered x) = x.attempt.service
service_in (Established x stage) = x.service
service_in (Detached detached) = detached.service
service_in (Over cause) = None

abbrev pub with_response_back : CallConfigView → RelayedTransaction → MessageView → Call → StepOutput → StepOutput
with_response_back config flight m c output =
    with_relayed_response config.sip flight.exchange.key flight.exchange.request c.opening.tag
    (copied_lines config c.opening c.diversions (service_in c.phase) (other_side flight.side) flight.exchange.request.peer m) m output

-- after a 2xx to an UPDATE its offer is in effect (RFC 3311 §5.1, TS 24.610 §4.5.2.1), and the session expires at the interval of that 2xx (RFC 4028 §7.2)
abbrev pub call_after_update : Side → MessageView → Call → Call
call_after_update side request c = record c { successes = next_success c; hold = hold_after side (direction_in_body request.parsed.body) c.hold }

abbrev pub on_accepted_in_flight : RelayedKind → CallConfigView → (at : ℕ) → Side → (request response : MessageView) → Call → StepOutput → StepResult
on_accepted_in_flight Prack config at side request response c output = step_result c output
on_accepted_in_flight Update config at side request response c output = step_result (call_after_update side request c) (with_expiry_timer config at response c output)

-- a final response is relayed to the side that sent the request, even if it means that the dialog has ended; a provisional response is not relayed
abbrev pub on_final_relayed : CallConfigView → (at : ℕ) → RelayedTransaction → MessageView → (code : ℕ) → Call → StepOutput → StepResult
on_final_relayed config at flight m code c output =
    if is_success code then on_accepted_in_flight flight.kind config at flight.side flight.exchange.request m c (with_response_back config flight m c output)
    else step_result c (with_response_back config flight m c output)

abbrev pub on_response_relayed : CallConfigView → (at : ℕ) → MessageView → (code : ℕ) → (place : ℕ) → Option RelayedTransaction → Call → StepOutput → StepResult
on_response_relayed config at m code place None c output = step_result c output
on_response_relayed config at m code place (Some flight) c output =
    if nat_lt code 200 then step_result c output else on_final_relayed config at flight m code (without_transaction place c) output

abbrev pub on_response_in_flight : CallConfigView → (at : ℕ) → MessageView → Option ℕ → Call → StepOutput → StepResult
on_response_in_flight config at m None c output = step_result c output
on_response_in_flight config at m (Some place) c output = on_response_relayed config at m (status_of m.parsed.start) place (slice_get c.relayed place) c output

-- a timeout has the same effect as a 408, which here is the server's own
abbrev pub on_timeout_relayed : CallConfigView → (place : ℕ) → Option RelayedTransaction → Call → StepOutput → StepResult
on_timeout_relayed config place None c output = step_result c output
on_timeout_relayed config place (Some flight) c output = step_result (without_transaction place c) (with_status_to config c flight.exchange.key flight.exchange.request 408 output)

abbrev pub on_timeout_in_flight : CallConfigView → Option ℕ → Call → StepOutput → StepResult
on_timeout_in_flight config None c output = step_result c output
on_timeout_in_flight config (Some place) c output = on_timeout_relayed config place (slice_get c.relayed place) c output

-- ---- an attempt ended without a 2xx, or the call is over: nothing of it gets a response any more

abbrev pub dismissal_of : RelayedKind → ℕ
dismissal_of Prack = 481
dismissal_of Update = 487

abbrev pub with_dismissal : CallConfigView → Call → RelayedTransaction → StepOutput → StepOutput
with_dismissal config c flight output = with_status_to config c flight.exchange.key flight.exchange.request (dismissal_of flight.kind) output

abbrev pub with_dismissals : CallConfigView → Call → List RelayedTransaction → StepOutput → StepOutput
with_dismissals config c [] output = output
with_dismissals config c (flight ∷ flights) output = with_dismissals config c flights (with_dismissal config c flight output)

-- first the PRACKs, in the order in which they were relayed, then the UPDATE
abbrev pub with_all_dismissals : CallConfigView → Call → StepOutput → StepOutput
with_all_dismissals config c output =
    with_dismissals config c (filter is_updating c.relayed) (with_dismissals config c (filter (λ flight. not (is_updating flight)) c.relayed) output)

-- the reliable responses that the caller has not acknowledged are not retransmitted to it any more: the one of this number, or all
abbrev pub with_settled : CallConfigView → (own : Option ℕ) → Call → StepOutput → StepOutput
with_settled config own c output = if config.reliable then with_emit (emit.Settled c.opening.key own) output else output

abbrev pub with_settled_in : Phase → CallConfigView → Call → StepOutput → StepOutput
with_settled_in (Offered x) config c output = with_settled config None c output
with_settled_in (Established x stage) config c output = output
with_settled_in (Detached detached) config c output = output
with_settled_in (Over cause) config c output = output

abbrev pub without_in_flight : Call → Call
without_in_flight c = record c { relayed = [] }

abbrev pub output_after_dismissal : CallConfigView → Call → StepOutput → StepOutput
output_after_dismissal config c output = with_settled_in c.phase config c (with_all_dismissals config c output)
