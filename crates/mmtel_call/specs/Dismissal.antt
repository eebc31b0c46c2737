-- Which signals end the attempt of an offered call without a 2xx, or end a call that was answered: in such a step each request that is in flight first gets its final response
-- (RFC 3262 §3, RFC 3311 §5.2).
use Rattle.std.specs.Prelude.{ℕ, ◌==◌, ◌&&◌, not, nat_lt, Bool, true, false, is_ok}
use Rattle.mmtel_compose.specs.ReceivedMessages.{MessageView}
use Rattle.mmtel_leg.specs.Dialogues.{unless_busy, unless_old}
use Rattle.mmtel_leg.specs.declared.dialogues.Dialogue.{Dialogue}
use Rattle.mmtel_leg.specs.declared.dialogues.InFlight.TheVariants as in_flight
use Rattle.mmtel_reliable.specs.Acks.{has_own}
use Rattle.mmtel_transaction.specs.declared.words.DueWord.{DueWord}
use Rattle.mmtel_transaction.specs.declared.words.DueWord.TheVariants as due
use Rattle.mmtel_transaction.specs.declared.words.TKey.{TKey}
use Rattle.mmtel_types.specs.declared.sides.Side.{Side}
use Rattle.mmtel_types.specs.declared.sides.Side.TheVariants.{Caller, Callee}
use Rattle.mmtel_call_services.specs.Requests.{is_same_side, number_of}
use Rattle.mmtel_call.specs.Answered.{acknowledges, leg_of}
use Rattle.mmtel_call.specs.Calls.{Answered, Call, Departing, Detached, Established, EstablishedLegs, Offered, OfferedAttempt, Over, Phase, Reinviting, Stable, Stage}
use Rattle.mmtel_call.specs.Reinvites.{ends_dialog}
use Rattle.mmtel_call.specs.Requests.{is_bye}
use Rattle.mmtel_call.specs.Stages.{is_due_at}

-- ---- a response with this status to the INVITE for which the call waits, and its timeout

abbrev pub leaves_on_status_at : Stage → ℕ → Bool
leaves_on_status_at (Answered waiting success) code = false
leaves_on_status_at (Departing waiting success) code = false
leaves_on_status_at Stable code = false
leaves_on_status_at (Reinviting asking q) code = ends_dialog code

abbrev pub leaves_on_status : ℕ → Phase → Bool
leaves_on_status code (Offered x) = not (nat_lt code 300)
leaves_on_status code (Established x stage) = leaves_on_status_at stage code
leaves_on_status code (Detached detached) = false
leaves_on_status code (Over cause) = false

abbrev pub leaves_on_timeout_at : Stage → Bool
leaves_on_timeout_at (Answered waiting success) = false
leaves_on_timeout_at (Departing waiting success) = false
leaves_on_timeout_at Stable = false
leaves_on_timeout_at (Reinviting asking q) = true

abbrev pub leaves_on_timeout : Phase → Bool
leaves_on_timeout (Offered x) = not x.attempt.rang
leaves_on_timeout (Established x stage) = leaves_on_timeout_at stage
leaves_on_timeout (Detached detached) = false
leaves_on_timeout (Over cause) = false

-- ---- a BYE that is accepted: of the caller of an offered call; of a side of an answered one, where no side remains to which an ACK, or the BYE, is owed

-- whether a request is not older than the last one that was received in its dialog (RFC 3261 §12.2.2)
abbrev pub is_in_order : Dialogue → MessageView → Bool
is_in_order d m = is_ok (unless_old (number_of m) d.remote_cseq (unless_busy false in_flight.None))

abbrev pub is_bye_in : Dialogue → MessageView → Bool
is_bye_in d m = is_bye m && is_in_order d m

abbrev pub ends_by_bye : Stage → Side → Bool
ends_by_bye (Answered waiting success) side = is_same_side waiting side
ends_by_bye (Departing waiting success) side = is_same_side waiting side
ends_by_bye Stable side = true
ends_by_bye (Reinviting asking q) side = true

abbrev pub leaves_by_bye : OfferedAttempt → Side → MessageView → Bool
leaves_by_bye x Caller m = is_bye_in x.caller.dialogue m
leaves_by_bye x Callee m = false

abbrev pub leaves_by_bye_at : Stage → EstablishedLegs → Side → MessageView → Bool
leaves_by_bye_at stage x side m = is_bye_in (leg_of side x).dialogue m && ends_by_bye stage side

abbrev pub leaves_on_request : Phase → Side → MessageView → Bool
leaves_on_request (Offered x) side m = leaves_by_bye x side m
leaves_on_request (Established x stage) side m = leaves_by_bye_at stage x side m
leaves_on_request (Detached detached) side m = false
leaves_on_request (Over cause) side m = false

-- ---- the ACK for which a departing call waits

abbrev pub leaves_on_ack_at : Stage → Side → MessageView → Bool
leaves_on_ack_at (Answered waiting success) side m = false
leaves_on_ack_at (Departing waiting success) side m = acknowledges waiting success side m
leaves_on_ack_at Stable side m = false
leaves_on_ack_at (Reinviting asking q) side m = false

abbrev pub leaves_on_ack : Phase → Side → MessageView → Bool
leaves_on_ack (Offered x) side m = false
leaves_on_ack (Established x stage) side m = leaves_on_ack_at stage side m
leaves_on_ack (Detached detached) side m = false
leaves_on_ack (Over cause) side m = false

-- ---- CANCEL of the INVITE that opened the call, while it is offered

abbrev pub leaves_on_cancel : Phase → (invite : TKey) → Call → Bool
leaves_on_cancel (Offered x) invite c = invite.0 == c.opening.key.0
leaves_on_cancel (Established x stage) invite c = false
leaves_on_cancel (Detached detached) invite c = false
leaves_on_cancel (Over cause) invite c = false

-- ---- deadlines

abbrev pub leaves_on_timer : OfferedAttempt → DueWord → Call → Bool
leaves_on_timer x (due.NoReply number) c = number == x.attempt.number
leaves_on_timer x (due.NoPrack own) c = has_own own c.acks.waiting
leaves_on_timer x (due.Cap number) c = number == x.attempt.number
leaves_on_timer x (due.NoAck number) c = false
leaves_on_timer x (due.Expired number) c = false

abbrev pub leaves_on_due : Phase → DueWord → Call → Bool
leaves_on_due (Offered x) what c = leaves_on_timer x what c
leaves_on_due (Established x stage) what c = is_due_at stage c.successes what
leaves_on_due (Detached detached) what c = false
leaves_on_due (Over cause) what c = false
