-- The state of a run, and what each operation adds to it: the operations on calls, conferences and mailboxes, with timers, messages, web requests and CDRs.
use Rattle.std.specs.Prelude.{ℕ, ◌+◌, Bool, true, false, List, [], ◌∷◌, ◌++◌, length, Option, Some, None, Result, Ok, Err, if◌then◌else◌}
use Rattle.mmtel_compose.specs.ReceivedMessages.{MessageView}
use Rattle.mmtel_b2bua.specs.Operations as histories
use Rattle.mmtel_b2bua.specs.Operations.{Drops, Finishes, Receives, Releases, Restores, TableOp, step_on_finish, step_on_receive_after}
use Rattle.mmtel_b2bua.specs.Detaching.{released_leg_of}
use Rattle.mmtel_b2bua.specs.Queries.{party}
use Rattle.mmtel_b2bua.specs.declared.entries.Entry.{Entry}
use Rattle.mmtel_b2bua.specs.declared.signals.Signal.{Signal}
use Rattle.mmtel_b2bua.specs.declared.signals.Signal.TheVariants as signal
use Rattle.mmtel_output.specs.ResponseMatching.{awaited_request_branch, behind_cookie, branch_in, timed_out_branch}
use Rattle.mmtel_charging.specs.declared.rows.Row.{Row}
use Rattle.mmtel_output.specs.declared.outputs.StepOutput.{StepOutput}
use Rattle.mmtel_directory.specs.declared.directories.Directory.{Directory}
use Rattle.mmtel_focus.specs.Operations as rooms
use Rattle.mmtel_focus.specs.Operations.{effects_after, join_request}
use Rattle.mmtel_focus.specs.Conferences.{Conference}
use Rattle.mmtel_focus.specs.Table.{access, is_table_full}
use Rattle.mmtel_focus.specs.declared.faults.RoomFault.{RoomFault}
use Rattle.mmtel_focus.specs.declared.referrals.Replaces.{Replaces}
use Rattle.mmtel_focus.specs.declared.signals.RoomSignal.{RoomSignal}
use Rattle.mmtel_focus.specs.declared.signals.RoomSignal.TheVariants as of_room
use Rattle.mmtel_http.specs.Requests.{ParsedRequestView}
use Rattle.mmtel_leg.specs.declared.legs.Released.{Released}
use Rattle.mmtel_leg.specs.declared.legs.Released.TheVariants as released
use Rattle.mmtel_environment.specs.declared.events.Offer.TheVariants as offer
use Rattle.mmtel_transaction.specs.Results.{next_due, after_hear, hear_result, after_firing, due_result, is_merged}
use Rattle.mmtel_transaction.specs.Operations.{DidBegin, live}
use Rattle.mmtel_transaction.specs.Tokens.{TokensView}
use Rattle.mmtel_transaction.specs.declared.words.Due.{Due}
use Rattle.mmtel_transaction.specs.declared.words.Due.TheVariants as due
use Rattle.mmtel_transaction.specs.declared.words.Emit.TheVariants as emit
use Rattle.mmtel_transaction.specs.declared.words.Heard as transaction
use Rattle.mmtel_transaction.specs.declared.words.Heard.TheVariants as heard
use Rattle.mmtel_transaction.specs.declared.words.TKey.{TKey}
use Rattle.mmtel_trust.specs.ParsedMessage.{caller_account}
use Rattle.mmtel_types.specs.Sides.{other_side}
use Rattle.mmtel_types.specs.declared.numbers.Account.{Account}
use Rattle.mmtel_types.specs.declared.numbers.CallNo.{CallNo}
use Rattle.mmtel_types.specs.declared.numbers.Peer.{Peer}
use Rattle.mmtel_types.specs.declared.numbers.RoomNo.{RoomNo}
use Rattle.mmtel_types.specs.declared.sides.Side.{Side}
use Rattle.mmtel_web.specs.Handling.{KeeperOutcomeView, web_reply}
use Rattle.mmtel_records_in_force.specs.Texts.{put_stored}
use Rattle.mmtel_web.specs.Uploads.{counts_put_in, stored_upload, upload_in}
use Rattle.mmtel_run_definitions.specs.OwnResponses.{plain_response, response_to}
use Rattle.mmtel_run_definitions.specs.Calls.{are_full, arrival_signal, call_config, call_of_invite}
use Rattle.mmtel_run_definitions.specs.Deadlines.{Deadline, OfCall, OfParticipant, OfServiceTimer, OfSubscription, OfTransaction, PendingTimer, ServiceTimer}
use Rattle.mmtel_run_definitions.specs.Events.{ParsedEvent, Nothing, Refused, Received, WebRequested, message_in}
use Rattle.mmtel_run_definitions.specs.Records.{in_force, until_of}
use Rattle.mmtel_run_definitions.specs.Refusals.{Disposition, Respond, Enter, EnterConference, OpenCall, OpenConference}
use Rattle.mmtel_run_definitions.specs.Refusals.{JoinConference, Register, Subscribe, EnterSubscription, disposition}
use Rattle.mmtel_run_definitions.specs.Ownership.{DialogOwner, InCall, InConference, InSubscription, OfSubscriptions, OfCalls, OfConferences}
use Rattle.mmtel_run_definitions.specs.Ownership.{Owner, account_of_side, dialog_owner_of, is_of_peer, leg_by, replacement_in}
use Rattle.mmtel_run_definitions.specs.Ownership.{conference_config, owner_of_branch, owner_of_key, replaced_side, status_of_fault}
use Rattle.mmtel_mwi.specs.Boxes as mailboxes
use Rattle.mmtel_compose.specs.ReceivedMessages.{status_of}
pub use Rattle.mmtel_run_definitions.specs.RunState.{RunState, calls_in, dialog_owner_in, initial_state, is_registered_in, next_tag}
pub use Rattle.mmtel_run_definitions.specs.RunState.{subscriptions_in, with_action, with_draws, with_emit, with_emits, with_offers, with_timer}
pub use Rattle.mmtel_run_definitions.specs.RunState.{conferences_in, record_in_force, to_peer, tokens_now, with_refusal_of_bytes, with_response, with_stateless_response}
use Rattle.mmtel_run_definitions.specs.Subscriptions.{after_expiry, after_mailbox_upload, after_notify_response, after_subscribe, after_subscription_request}

-- ---- operations on the calls

-- this operation on the calls, with this output: the CDRs that it closed are removed from them at once, and wait with all others
abbrev pub with_call_output : ℕ → TableOp → StepOutput → RunState → RunState
with_call_output at op output state =
    with_emits at output.out (record state { call_ops = Drops (length output.rows) ∷ op ∷ state.call_ops; drawn = output.tokens.drawn; waiting = state.waiting ++ output.rows })

-- a signal as it is received now, with what is in force and how many numbers were drawn
abbrev pub received_now : (token : List ℕ) → ℕ → Signal → RunState → histories.ReceivedSignal
received_now token at signal state = record { at = at; view = in_force state.texts state.registrations; tokens = tokens_now token state; signal = signal }

-- the calls receive it
abbrev pub after_call_signal : Directory → (token : List ℕ) → ℕ → Signal → RunState → RunState
after_call_signal directory token at signal state =
    with_call_output at (Receives (received_now token at signal state))
    (step_on_receive_after (call_config directory) state.call_ops (received_now token at signal state)).output state

-- a leg is taken out of a call, or put back: nothing is output
abbrev pub with_call_op : TableOp → RunState → RunState
with_call_op op state = record state { call_ops = op ∷ state.call_ops }

-- the call ends without that leg
abbrev pub after_call_end : Directory → (token : List ℕ) → ℕ → CallNo → RunState → RunState
after_call_end directory token at call state =
    with_call_output at (Finishes call.0 at (tokens_now token state))
    (step_on_finish (call_config directory) call.0 at (tokens_now token state) (calls_in directory state)).output state

-- ---- operations on the conferences

-- this operation on the conferences, which draws no number, with this output
abbrev pub with_conference_output : ℕ → rooms.TableOp → StepOutput → RunState → RunState
with_conference_output at op output state = with_emits at output.out
    (record state { conference_ops = rooms.Drops (length output.rows) ∷ op ∷ state.conference_ops; waiting = state.waiting ++ output.rows })

-- one that draws numbers: their count is that of the output
abbrev pub with_conference_draws : ℕ → rooms.TableOp → StepOutput → RunState → RunState
with_conference_draws at op output state = with_conference_output at op output (record state { drawn = output.tokens.drawn })

-- its output, in the current state of the conferences
abbrev pub output_of_conference_op : Directory → rooms.TableOp → RunState → StepOutput
output_of_conference_op directory op state = (effects_after (conference_config directory) state.conference_ops op).output

abbrev pub after_conference_op : Directory → ℕ → rooms.TableOp → RunState → RunState
after_conference_op directory at op state = with_conference_draws at op (output_of_conference_op directory op state) state

-- the conferences receive a signal
abbrev pub conference_signal_op : (token : List ℕ) → ℕ → RoomSignal → RunState → rooms.TableOp
conference_signal_op token at signal state = rooms.Receives (record { at = at; tokens = tokens_now token state; signal = signal })

abbrev pub after_conference_signal : Directory → (token : List ℕ) → ℕ → RoomSignal → RunState → RunState
after_conference_signal directory token at signal state = after_conference_op directory at (conference_signal_op token at signal state) state

-- a participant is notified of a status (RFC 3515 §2.4.4)
abbrev pub after_refer_notify : Directory → (token : List ℕ) → ℕ → RoomNo → (seat code : ℕ) → RunState → RunState
after_refer_notify directory token at room seat code state = after_conference_op directory at (rooms.Notifies room.0 seat code (tokens_now token state)) state

-- ---- timers

-- a step begins: timers that are armed in it carry its number
abbrev pub with_next_step : RunState → RunState
with_next_step state = record state { steps = state.steps + 1; actions = DidBegin state.steps ∷ state.actions }

-- a request has timed out, or a transaction has ended: whoever sent the request receives that
abbrev pub after_request_timeout : Directory → (token : List ℕ) → ℕ → (branch method : List ℕ) → Owner → RunState → RunState
after_request_timeout directory token at branch method OfCalls state = after_call_signal directory token at (signal.Silent branch method) state
after_request_timeout directory token at branch method OfSubscriptions state = after_notify_response (behind_cookie branch) 408 state
after_request_timeout directory token at branch method OfConferences state = after_conference_signal directory token at (of_room.Silent branch method) state

abbrev pub after_transaction_end : Directory → (token : List ℕ) → ℕ → TKey → Owner → RunState → RunState
after_transaction_end directory token at key OfCalls state = after_call_signal directory token at (signal.Over key) state
after_transaction_end directory token at key OfSubscriptions state = state
after_transaction_end directory token at key OfConferences state = after_conference_signal directory token at (of_room.Over key) state

-- what a timer of a transaction does: it retransmits the same bytes; or a request times out, or a transaction ends
abbrev pub after_due : Directory → (token : List ℕ) → Due → RunState → RunState
after_due directory token (due.Again peer at text) state = with_offers (offer.To peer at text ∷ []) state
after_due directory token (due.Silent key branch method at) state =
    after_request_timeout directory token at branch method
    (owner_of_branch (timed_out_branch branch method) (behind_cookie branch) (calls_in directory state).entries (subscriptions_in state)) state
after_due directory token (due.Over key at) state = after_transaction_end directory token at key (owner_of_key key (calls_in directory state).entries) state
after_due directory token due.Nothing state = state

-- the first timer of the transactions that is due fires
abbrev pub after_transaction_timer : Directory → (token : List ℕ) → ℕ → RunState → RunState
after_transaction_timer directory token now state = after_due directory token (due_result (next_due now (live state.actions)))
    (record state { actions = after_firing state.actions (next_due now (live state.actions)) })

-- one of a call, of a participant or of a subscription fires
abbrev pub after_service_timer : Directory → (token : List ℕ) → ℕ → ServiceTimer → RunState → RunState
after_service_timer directory token at (OfCall call what) state = after_call_signal directory token at (signal.Due call what) state
after_service_timer directory token at (OfParticipant room seat what) state = after_conference_signal directory token at (of_room.Due room seat what) state
after_service_timer directory token at (OfSubscription sub set) state = after_expiry directory token at sub set state

abbrev pub after_first_service_timer : Directory → (token : List ℕ) → PendingTimer → (others : List PendingTimer) → RunState → RunState
after_first_service_timer directory token armed others state = after_service_timer directory token armed.at armed.timer (record state { pending_timers = others })

-- the first of all timers fires
abbrev pub after_deadline : Directory → (token : List ℕ) → ℕ → Deadline → RunState → RunState
after_deadline directory token now OfTransaction state = after_transaction_timer directory token now (with_next_step state)
after_deadline directory token now (OfServiceTimer armed others) state = after_first_service_timer directory token armed others (with_next_step state)

-- ---- registrations

-- the account is registered until this moment
abbrev pub with_registration : Account → (until : ℕ) → RunState → RunState
with_registration account until state = record state { registrations = (account, until) ∷ state.registrations }

-- and the request gets its response
abbrev pub after_register : Directory → (token : List ℕ) → ℕ → TKey → MessageView → Account → (seconds : ℕ) → RunState → RunState
after_register directory token at key message account seconds state =
    with_response directory token at key message (plain_response 200) (with_registration account (until_of at seconds) state)

-- ---- web requests

-- what was stored is in force from then on
abbrev pub with_upload : Option (Account × List ℕ) → RunState → RunState
with_upload upload state = record state { texts = put_stored upload state.texts }

-- the reply to a request, by what was in force before it
abbrev pub after_web_reply : Directory → ℕ → ParsedRequestView → KeeperOutcomeView → List Row → RunState → RunState
after_web_reply directory at request kept rows state =
    with_offers (offer.Web at (web_reply directory.names state.texts request kept rows) ∷ []) (with_upload (stored_upload kept (upload_in directory.names request)) state)

-- and after it the NOTIFYs that an upload to a mailbox causes
abbrev pub after_web_request : Directory → (token : List ℕ) → ℕ → ParsedRequestView → KeeperOutcomeView → List Row → RunState → RunState
after_web_request directory token at request kept rows state = after_mailbox_upload directory token at
    (counts_put_in directory.names request kept) (after_web_reply directory at request kept rows state)

-- ---- who joins a conference (RFC 4579 §5.1, §5.4): a tag is drawn for the response, a refusal too

-- the party cannot join
abbrev pub after_newcomer_refusal : Directory → ℕ → TKey → MessageView → (tag : List ℕ) → (code : ℕ) → RunState → RunState
after_newcomer_refusal directory at key message tag code state = with_emits at (emit.Reply key (response_to directory.sip tag message (plain_response code)) ∷ []) state

-- the account of the party that joins is that of the caller
abbrev pub opening_op : Directory → ℕ → TKey → MessageView → (tag : List ℕ) → rooms.TableOp
opening_op directory at key message tag = rooms.Opens (join_request at (leg_by tag message) (caller_account directory.names.accounts message.parsed) key message)

-- a conference of its own, unless as many are live as may
abbrev pub after_opening_if : Directory → ℕ → TKey → MessageView → (tag : List ℕ) → (is_full : Bool) → RunState → RunState
after_opening_if directory at key message tag true state = after_newcomer_refusal directory at key message tag 503 state
after_opening_if directory at key message tag false state = with_conference_output at (opening_op directory at key message tag)
    (output_of_conference_op directory (opening_op directory at key message tag) state) state

abbrev pub after_factory_invite : Directory → (token : List ℕ) → ℕ → TKey → MessageView → RunState → RunState
after_factory_invite directory token at key message state = after_opening_if directory at key message (next_tag token state)
    (is_table_full (conferences_in directory state).live) (with_draws 1 state)

abbrev pub join_op : Directory → ℕ → TKey → MessageView → RoomNo → (tag : List ℕ) → TokensView → rooms.TableOp
join_op directory at key message room tag tokens = rooms.Joins room.0 (record {
  at = at;
  tokens = tokens;
  leg = released.Caller (leg_by tag message);
  account = caller_account directory.names.accounts message.parsed;
  key = key;
  invite = message;
})

-- a participant, where the conference is live and has a free place
abbrev pub after_join_if : Directory → (token : List ℕ) → ℕ → TKey → MessageView → RoomNo → (tag : List ℕ) → Result ℕ RoomFault → RunState → RunState
after_join_if directory token at key message room tag (Err fault) state = after_newcomer_refusal directory at key message tag (status_of_fault fault) state
after_join_if directory token at key message room tag (Ok place) state = after_conference_op directory at (join_op directory at key message room tag (tokens_now token state)) state

abbrev pub after_conference_invite : Directory → (token : List ℕ) → ℕ → TKey → MessageView → RoomNo → RunState → RunState
after_conference_invite directory token at key message room state =
    after_join_if directory token at key message room (next_tag token state) (access room.0 (conferences_in directory state).live) (with_draws 1 state)

-- ---- a REFER of a participant with Replaces (RFC 3891 §3, RFC 4579 §5.6): the other leg of the call becomes a participant in the place of the dialog, and the call ends

-- a leg, with its account, is moved into the conference by the REFER of a participant
abbrev pub adoption_op : (token : List ℕ) → ℕ → RoomNo → (seat : ℕ) → Released → Option Account → RunState → rooms.TableOp
adoption_op token at room seat leg account state = rooms.Adopts room.0 (record { at = at; tokens = tokens_now token state; leg = leg; account = account; by = seat })

-- it becomes a participant, and its call ends; or no place is free, and the leg is put back
abbrev pub after_adoption_if : Directory → (token : List ℕ) → ℕ → RoomNo → (seat : ℕ) → CallNo → Released → Option Account → Result ℕ RoomFault → RunState → RunState
after_adoption_if directory token at room seat call leg account (Ok place) state =
    after_call_end directory token at call (after_conference_op directory at (adoption_op token at room seat leg account state) state)
after_adoption_if directory token at room seat call leg account (Err fault) state = after_refer_notify directory token at room seat 503 (with_call_op (Restores call.0 leg) state)

-- the leg is taken out of its call, where that is stable
abbrev pub after_detach : Directory → (token : List ℕ) → ℕ → RoomNo → (seat : ℕ) → CallNo → Side → Option Account → Option Released → RunState → RunState
after_detach directory token at room seat call side account None state = after_refer_notify directory token at room seat 491 state
after_detach directory token at room seat call side account (Some leg) state =
    after_adoption_if directory token at room seat call leg account (access room.0 (conferences_in directory state).live) (with_call_op (Releases call.0 side) state)

-- the leg across from the one that is named, which has to be with the peer that asks
abbrev pub after_replacing_side : Directory → (token : List ℕ) → ℕ → RoomNo → (seat : ℕ) → CallNo → Side → (is_its : Bool) → RunState → RunState
after_replacing_side directory token at room seat call side false state = after_refer_notify directory token at room seat 481 state
after_replacing_side directory token at room seat call side true state =
    after_detach directory token at room seat call (other_side side) (account_of_side call (other_side side) (calls_in directory state).entries)
    (released_leg_of call.0 (other_side side) (calls_in directory state).entries) state

abbrev pub after_replacing_named : Directory → (token : List ℕ) → ℕ → Peer → RoomNo → (seat : ℕ) → Option (CallNo × Side) → RunState → RunState
after_replacing_named directory token at peer room seat None state = after_refer_notify directory token at room seat 481 state
after_replacing_named directory token at peer room seat (Some named) state =
    after_replacing_side directory token at room seat named.0 named.1 (is_of_peer peer (party named.0.0 named.1 (calls_in directory state).entries)) state

abbrev pub after_replacing : Directory → (token : List ℕ) → ℕ → Peer → RoomNo → (seat : ℕ) → Replaces → RunState → RunState
after_replacing directory token at peer room seat replaces state =
    after_replacing_named directory token at peer room seat (replaced_side replaces (calls_in directory state).entries) state

-- the participant is notified of 100 (Trying), and then of the outcome
abbrev pub after_replaces : Directory → (token : List ℕ) → ℕ → Peer → RoomNo → (seat : ℕ) → Option Replaces → RunState → RunState
after_replaces directory token at peer room seat None state = state
after_replaces directory token at peer room seat (Some replaces) state =
    after_replacing directory token at peer room seat replaces (after_refer_notify directory token at room seat 100 state)

-- a request of a participant, and what follows from it where it was accepted
abbrev pub after_participant_request : Directory → (token : List ℕ) → ℕ → TKey → MessageView → RoomNo → (seat : ℕ) → RunState → RunState
after_participant_request directory token at key message room seat state =
    after_replaces directory token at message.peer room seat
    (replacement_in message.parsed (output_of_conference_op directory (conference_signal_op token at (of_room.Request room seat key message) state) state).out)
    (after_conference_signal directory token at (of_room.Request room seat key message) state)

-- ---- messages

abbrev pub after_disposition : Directory → (token : List ℕ) → ℕ → TKey → MessageView → Disposition → RunState → RunState
after_disposition directory token at key message (Respond answer) state = with_response directory token at key message answer state
after_disposition directory token at key message (Enter call side) state = after_call_signal directory token at (signal.Request call side key message) state
after_disposition directory token at key message (EnterConference room seat) state = after_participant_request directory token at key message room seat state
after_disposition directory token at key message OpenCall state = after_call_signal directory token at (arrival_signal directory.names.accounts key message) state
after_disposition directory token at key message OpenConference state = after_factory_invite directory token at key message state
after_disposition directory token at key message (JoinConference room) state = after_conference_invite directory token at key message room state
after_disposition directory token at key message (Register account seconds) state = after_register directory token at key message account seconds state
after_disposition directory token at key message Subscribe state = after_subscribe directory token at key message state
after_disposition directory token at key message (EnterSubscription sub) state = after_subscription_request directory token at key message sub state

-- a request that opened a transaction, in this state of the calls, the conferences and the mailboxes
abbrev pub after_new_request_among : Directory → (token : List ℕ) → ℕ → TKey → MessageView → List Entry → List Conference → mailboxes.Table → RunState → RunState
after_new_request_among directory token at key message entries live_rooms table state =
    after_disposition directory token at key message (disposition directory (is_merged key.0 (live state.actions)) (are_full entries)
    (dialog_owner_of message.parsed entries live_rooms table) message.parsed) state

abbrev pub after_new_request : Directory → (token : List ℕ) → ℕ → TKey → MessageView → RunState → RunState
after_new_request directory token at key message state =
    after_new_request_among directory token at key message (calls_in directory state).entries (conferences_in directory state).live (subscriptions_in state) state

-- what was sent is retransmitted, to the peer to which it was sent
abbrev pub with_retransmission : ℕ → Option (Peer × List ℕ) → RunState → RunState
with_retransmission at None state = state
with_retransmission at (Some sent) state = with_emits at (emit.Plain sent.0 sent.1 ∷ []) state

-- a CANCEL of the INVITE of a live call is received by that call; of another INVITE it only gets its response: that of a participant has had its final response
abbrev pub after_cancel_of : Directory → (token : List ℕ) → ℕ → TKey → MessageView → (invite : TKey) → Option (CallNo × Side) → RunState → RunState
after_cancel_of directory token at key message invite None state = with_response directory token at key message (plain_response 200) state
after_cancel_of directory token at key message invite (Some asked) state = after_call_signal directory token at (signal.Cancel asked.0 key message invite) state

-- a CANCEL, by the live INVITE transaction that it cancels, if there is one (§9.2)
abbrev pub after_cancel : Directory → (token : List ℕ) → ℕ → TKey → MessageView → (invite : Option TKey) → RunState → RunState
after_cancel directory token at key message None state = with_response directory token at key message (plain_response 481) state
after_cancel directory token at key message (Some invite) state =
    after_cancel_of directory token at key message invite (call_of_invite invite (calls_in directory state).entries) state

-- an ACK of a 2xx belongs to the dialog that it names
abbrev pub after_ack_by : Directory → (token : List ℕ) → ℕ → MessageView → Option DialogOwner → RunState → RunState
after_ack_by directory token at message None state = state
after_ack_by directory token at message (Some (InCall call side)) state = after_call_signal directory token at (signal.Ack call side message) state
after_ack_by directory token at message (Some (InConference room seat)) state = after_conference_signal directory token at (of_room.Ack room seat message) state
after_ack_by directory token at message (Some (InSubscription sub)) state = state

abbrev pub after_ack : Directory → (token : List ℕ) → ℕ → MessageView → RunState → RunState
after_ack directory token at message state = after_ack_by directory token at message (dialog_owner_in directory message.parsed state) state

-- a response goes to whoever sent its request: to the calls where an INVITE of one has its branch, to the subscriptions where a NOTIFY of one has it, and else to the
-- conferences
abbrev pub after_response_to : Directory → (token : List ℕ) → ℕ → TKey → MessageView → Owner → RunState → RunState
after_response_to directory token at key message OfCalls state = after_call_signal directory token at (signal.Answer key message) state
after_response_to directory token at key message OfSubscriptions state = after_notify_response (branch_in message.parsed.vias) (status_of message.parsed.start) state
after_response_to directory token at key message OfConferences state = after_conference_signal directory token at (of_room.Answer key message) state

abbrev pub after_response : Directory → (token : List ℕ) → ℕ → TKey → MessageView → RunState → RunState
after_response directory token at key message state =
    after_response_to directory token at key message
    (owner_of_branch (awaited_request_branch message) (branch_in message.parsed.vias) (calls_in directory state).entries (subscriptions_in state)) state

-- what is done with a message, by how the transactions classify it; None where too many of them are live
abbrev pub after_classified_message : Directory → (token : List ℕ) → ℕ → MessageView → Option transaction.Heard → RunState → RunState
after_classified_message directory token at received None state = with_stateless_response directory token at received (plain_response 503) state
after_classified_message directory token at received (Some (heard.Fresh key message)) state = after_new_request directory token at key received state
after_classified_message directory token at received (Some (heard.Answer key message)) state = after_response directory token at key received state
after_classified_message directory token at received (Some (heard.Repeat sent)) state = with_retransmission at sent state
after_classified_message directory token at received (Some (heard.Acked key)) state = state
after_classified_message directory token at received (Some (heard.Cancel key invite message)) state = after_cancel directory token at key received invite state
after_classified_message directory token at received (Some (heard.AckOf2xx message)) state = after_ack directory token at received state
after_classified_message directory token at received (Some heard.Stray) state = state

-- a message beyond the capacity of the transactions is no operation on them
abbrev pub with_received_action : ℕ → MessageView → Option transaction.Heard → RunState → RunState
with_received_action at message None state = state
with_received_action at message (Some classified) state = record state { actions = after_hear state.actions message.peer (message_in message.parsed) at }

abbrev pub after_message_as : Directory → (token : List ℕ) → ℕ → MessageView → Option transaction.Heard → RunState → RunState
after_message_as directory token at message classified state = after_classified_message directory token at message classified (with_received_action at message classified state)

abbrev pub after_message : Directory → (token : List ℕ) → ℕ → MessageView → RunState → RunState
after_message directory token at message state = after_message_as directory token at message (hear_result state.actions message.peer (message_in message.parsed)) state

-- ---- CDRs

-- the keeper accepted these CDRs: they no longer wait
abbrev pub with_filed_rows : List Row → RunState → RunState
with_filed_rows rows state = record state { waiting = []; filed = state.filed ++ rows }

-- where some wait they are handed to the keeper, which accepts all of them or none
abbrev pub after_handover : (took : Bool) → List Row → RunState → RunState
after_handover took [] state = state
after_handover took (row ∷ rows) state = if took then with_filed_rows (row ∷ rows) state else state

-- ---- events

abbrev pub after_parsed_event : Directory → (token : List ℕ) → ℕ → ParsedEvent → RunState → RunState
after_parsed_event directory token at Nothing state = state
after_parsed_event directory token at (Refused peer source reply) state = with_refusal_of_bytes token at peer source reply state
after_parsed_event directory token at (Received message) state = after_message directory token at message state
after_parsed_event directory token at (WebRequested request kept rows) state = after_web_request directory token at request kept rows state

-- at the end of an event the CDRs that wait are handed over
abbrev pub after_event_end : (took : Bool) → RunState → RunState
after_event_end took state = after_handover took state.waiting state

-- an event comes at a moment of the clock
abbrev pub after_event : Directory → (token : List ℕ) → ℕ → ParsedEvent → (took : Bool) → RunState → RunState
after_event directory token at parsed_input took state = after_event_end took (after_parsed_event directory token at parsed_input (record (with_next_step state) { clock = at }))
