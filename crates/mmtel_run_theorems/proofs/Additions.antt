-- A run only appends to the outputs before.
use Rattle.std.proofs.Common.{◌≡◌, ℕ, zero, suc, List, [], ◌∷◌, ◌++◌, length, refl, sym, ap, ◌∙◌, Bool, true, false, Option, Some, None, Result, Ok, Err, codes, append_assoc, append-nil}
use Rattle.std.specs.Prelude.{◌==◌, if◌then◌else◌}
use Rattle.mmtel_compose.specs.ReceivedMessages.{MessageView, status_of}
use Rattle.mmtel_b2bua.specs.Operations.{Drops, Finishes, Receives, Releases, Restores, TableOp, step_on_finish, step_on_receive_after}
use Rattle.mmtel_b2bua.specs.Detaching.{released_leg_of}
use Rattle.mmtel_b2bua.specs.Queries.{party}
use Rattle.mmtel_b2bua.specs.declared.signals.Signal.{Signal}
use Rattle.mmtel_b2bua.specs.declared.signals.Signal.TheVariants as signal
use Rattle.mmtel_output.specs.ResponseMatching.{awaited_request_branch, behind_cookie, branch_in, timed_out_branch}
use Rattle.mmtel_charging.specs.declared.rows.Row.{Row}
use Rattle.mmtel_output.specs.declared.outputs.StepOutput.{StepOutput}
use Rattle.mmtel_directory.specs.declared.directories.Directory.{Directory}
use Rattle.mmtel_focus.specs.Operations as rooms
use Rattle.mmtel_focus.specs.Table.{access, is_table_full}
use Rattle.mmtel_focus.specs.declared.faults.RoomFault.{RoomFault}
use Rattle.mmtel_focus.specs.declared.referrals.Replaces.{Replaces}
use Rattle.mmtel_focus.specs.declared.signals.RoomSignal.{RoomSignal}
use Rattle.mmtel_focus.specs.declared.signals.RoomSignal.TheVariants as of_room
use Rattle.mmtel_http.specs.Requests.{ParsedRequestView}
use Rattle.mmtel_leg.specs.declared.dialogues.DialogueFault.{DialogueFault}
use Rattle.mmtel_leg.specs.declared.legs.Released.{Released}
use Rattle.mmtel_message.specs.Faults.{is_method}
use Rattle.mmtel_message.specs.Message.{Message}
use Rattle.mmtel_message.specs.Texts.{message_text}
use Rattle.mmtel_message.specs.declared.messages.Start.{Start}
use Rattle.mmtel_mwi.specs.Boxes.{is_full, next_sub, notify_request, peer_of, request_check, set_by, subscribers_of}
use Rattle.mmtel_mwi.specs.Operations as mailboxes
use Rattle.mmtel_mwi.specs.Operations.{Ends, Notifies, Puts, Refreshes, Subscribes}
use Rattle.mmtel_mwi.specs.Subscribing.{granted_seconds, refusal}
use Rattle.mmtel_mwi.specs.declared.counts.Counts.{Counts}
use Rattle.mmtel_environment.specs.declared.events.Offer.{Offer}
use Rattle.mmtel_environment.specs.declared.events.Offer.TheVariants as offer
use Rattle.mmtel_transaction.specs.Results.{after_firing, due_result, hear_result, is_merged, next_due}
use Rattle.mmtel_transaction.specs.Operations.{live}
use Rattle.mmtel_transaction.specs.declared.words.Due.{Due}
use Rattle.mmtel_transaction.specs.declared.words.Due.TheVariants as due
use Rattle.mmtel_transaction.specs.declared.words.Emit.{Emit}
use Rattle.mmtel_transaction.specs.declared.words.Emit.TheVariants as emit
use Rattle.mmtel_transaction.specs.declared.words.Heard as transaction
use Rattle.mmtel_transaction.specs.declared.words.Heard.TheVariants as heard
use Rattle.mmtel_transaction.specs.declared.words.TKey.{TKey}
use Rattle.mmtel_types.specs.Sides.{other_side}
use Rattle.mmtel_types.specs.declared.addrs.Addr.{Addr}
use Rattle.mmtel_types.specs.declared.numbers.Account.{Account}
use Rattle.mmtel_types.specs.declared.numbers.CallNo.{CallNo}
use Rattle.mmtel_types.specs.declared.numbers.Peer.{Peer}
use Rattle.mmtel_types.specs.declared.numbers.RoomNo.{RoomNo}
use Rattle.mmtel_types.specs.declared.numbers.SubNo.{SubNo}
use Rattle.mmtel_types.specs.declared.sides.Side.{Side}
use Rattle.mmtel_web.specs.Handling.{KeeperOutcomeView, web_reply}
use Rattle.mmtel_web.specs.Uploads.{counts_put_in, stored_upload, upload_in}
use Rattle.mmtel_run_definitions.specs.OwnResponses.{StatusResponse, completed_reply, plain_response, response_to, tag_for, tags_due, to_tag_in}
use Rattle.mmtel_run_definitions.specs.Calls.{are_full, arrival_signal, call_config, call_of_invite}
use Rattle.mmtel_run_definitions.specs.Deadlines.{Deadline, OfCall, OfParticipant, OfServiceTimer, OfSubscription, OfTransaction, ServiceTimer}
use Rattle.mmtel_run_definitions.specs.Events.{ParsedEvent, Nothing, Refused, Received, WebRequested, EventRecord, TimedEvent, message_in, timed_event_of, timed_events}
use Rattle.mmtel_run_definitions.specs.Records.{until_of}
use Rattle.mmtel_run_definitions.specs.Refusals.{Disposition, Respond, Enter, EnterConference, OpenCall, OpenConference, JoinConference, Register, Subscribe, EnterSubscription, disposition}
use Rattle.mmtel_run_definitions.specs.Ownership.{DialogOwner, InSubscription, InCall, InConference, OfSubscriptions, OfCalls, OfConferences, Owner, account_of_side}
use Rattle.mmtel_run_definitions.specs.Ownership.{leg_by, owner_of_key, owner_of_branch, is_of_peer, replacement_in, replaced_side, status_of_fault}
use Rattle.mmtel_run_definitions.specs.Run.{after_deadline_if, after_due_deadlines, after_event_in_order, after_events, after_one_deadline, clock_at, first_due_deadline, state_after}
use Rattle.mmtel_run_definitions.specs.Subscriptions.{after_checked_request, after_expiry, after_notify_response, after_request_in_order, after_subscription, after_subscription_for}
use Rattle.mmtel_run_definitions.specs.Subscriptions.{after_subscription_request, grant_response, is_last_set, named_mailbox, notify_emits, subscribe_request_of, with_expiry_timer, with_mailbox_op}
use Rattle.mmtel_run_definitions.specs.Subscriptions.{after_activation, after_last_notify, after_mailbox_upload, after_notify, after_notify_to_each}
use Rattle.mmtel_run_definitions.specs.Subscriptions.{after_notify_to_peer, after_refresh_by, after_subscribe, after_subscribe_by, other_response, refusal_response}
use Rattle.mmtel_run_definitions.specs.Transitions.{RunState, after_ack_by, after_adoption_if, adoption_op, after_service_timer, after_classified_message, initial_state, with_next_step}
use Rattle.mmtel_run_definitions.specs.Transitions.{subscriptions_in, with_call_output, calls_in, after_event, after_cancel, after_cancel_of, output_of_conference_op, with_draws, with_emit}
use Rattle.mmtel_run_definitions.specs.Transitions.{with_emits, after_event_end, after_transaction_end, after_participant_request, after_call_end, after_deadline, after_handover}
use Rattle.mmtel_run_definitions.specs.Transitions.{conference_signal_op, received_now, with_received_action, dialog_owner_in, after_conference_op, join_op, after_conference_invite, with_upload}
use Rattle.mmtel_run_definitions.specs.Transitions.{with_call_op, with_conference_output, after_parsed_event, next_tag, after_refer_notify, with_offers, opening_op, after_factory_invite}
use Rattle.mmtel_run_definitions.specs.Transitions.{with_refusal_of_bytes, with_registration, with_retransmission, after_replacing, after_replacing_named, after_replacing_side, after_replaces}
use Rattle.mmtel_run_definitions.specs.Transitions.{with_response, with_stateless_response, after_response_to, after_join_if, after_opening_if, conferences_in, after_due, after_conference_signal}
use Rattle.mmtel_run_definitions.specs.Transitions.{after_web_reply, after_call_signal, after_request_timeout, after_detach, after_disposition, after_message, tokens_now, after_newcomer_refusal}
use Rattle.mmtel_run_theorems.specs.Additions.{DeadlinesAdd, EventsAdd, RunsAdd, with_earlier_offers, without_offers}

-- an operation appends its outputs to those before
abbrev Adds : (RunState → RunState) → Type 0
Adds f = (b : List Offer) (w : RunState) → f (with_earlier_offers b w) ≡ with_earlier_offers b (f w)

with_offers_adds : (xs : List Offer) → Adds (with_offers xs)
with_offers_adds xs b w = ap (λ (os : List Offer). record w { offers = os }) (append_assoc b w.offers xs)

emit_adds : (at : ℕ) (x : Emit) → Adds (with_emit at x)
emit_adds at (emit.Ask peer message) b w = ap (λ (os : List Offer). record (with_emit at (emit.Ask peer message) w) { offers = os }) (append_assoc b w.offers _)
emit_adds at (emit.Reply key message) b w = ap (λ (os : List Offer). record (with_emit at (emit.Reply key message) w) { offers = os }) (append_assoc b w.offers _)
emit_adds at (emit.Plain peer text) b w = ap (λ (os : List Offer). record (with_emit at (emit.Plain peer text) w) { offers = os }) (append_assoc b w.offers _)
emit_adds at (emit.Ack key message) b w = ap (λ (os : List Offer). record (with_emit at (emit.Ack key message) w) { offers = os }) (append_assoc b w.offers _)
emit_adds at (emit.Settled key own) b w = refl
emit_adds at (emit.Arm call what when) b w = refl
emit_adds at (emit.ArmSeat room seat what when) b w = refl

with_emits_adds : (at : ℕ) (xs : List Emit) → Adds (with_emits at xs)
with_emits_adds at [] b w = refl
with_emits_adds at (x ∷ xs) b w = ap (with_emits at xs) (emit_adds at x b w) ∙ with_emits_adds at xs b (with_emit at x w)

-- ---- operations on calls and conferences

with_call_output_adds : (at : ℕ) (op : TableOp) (output : StepOutput) → Adds (with_call_output at op output)
with_call_output_adds at op output b w =
    with_emits_adds at output.out b (record w { call_ops = Drops (length output.rows) ∷ op ∷ w.call_ops; drawn = output.tokens.drawn; waiting = w.waiting ++ output.rows })

with_conference_output_adds : (at : ℕ) (op : rooms.TableOp) (output : StepOutput) → Adds (with_conference_output at op output)
with_conference_output_adds at op output b w = with_emits_adds at output.out b (record w { conference_ops = rooms.Drops (length output.rows) ∷ op ∷ w.conference_ops; waiting = w.waiting ++ output.rows })

module _ (d : Directory) where
  after_conference_op_adds : (at : ℕ) (op : rooms.TableOp) → Adds (after_conference_op d at op)
  after_conference_op_adds at op b w = with_conference_output_adds at op (output_of_conference_op d op w) b (record w { drawn = (output_of_conference_op d op w).tokens.drawn })

  after_newcomer_refusal_adds : (at : ℕ) (key : TKey) (s : MessageView) (tag : List ℕ) (code : ℕ) → Adds (after_newcomer_refusal d at key s tag code)
  after_newcomer_refusal_adds at key s tag code b w = with_emits_adds at (emit.Reply key (response_to d.sip tag s (plain_response code)) ∷ []) b w

  after_web_reply_adds : (at : ℕ) (request : ParsedRequestView) (kept : KeeperOutcomeView) (rows : List Row) → Adds (after_web_reply d at request kept rows)
  after_web_reply_adds at request kept rows b w =
      with_offers_adds (offer.Web at (web_reply d.names w.texts request kept rows) ∷ []) b (with_upload (stored_upload kept (upload_in d.names request)) w)

module _ (d : Directory) (token : List ℕ) where
  after_call_signal_adds : (at : ℕ) (x : Signal) → Adds (after_call_signal d token at x)
  after_call_signal_adds at x b w = with_call_output_adds at (Receives (received_now token at x w)) (step_on_receive_after (call_config d) w.call_ops (received_now token at x w)).output b w

  after_call_end_adds : (at : ℕ) (call : CallNo) → Adds (after_call_end d token at call)
  after_call_end_adds at call b w = with_call_output_adds at (Finishes call.0 at (tokens_now token w)) (step_on_finish (call_config d) call.0 at (tokens_now token w) (calls_in d w)).output b w

  after_conference_signal_adds : (at : ℕ) (x : RoomSignal) → Adds (after_conference_signal d token at x)
  after_conference_signal_adds at x b w = after_conference_op_adds d at (conference_signal_op token at x w) b w

  after_refer_notify_adds : (at : ℕ) (room : RoomNo) (seat code : ℕ) → Adds (after_refer_notify d token at room seat code)
  after_refer_notify_adds at room seat code b w = after_conference_op_adds d at (rooms.Notifies room.0 seat code (tokens_now token w)) b w

  -- ---- responses

  with_response_adds : (at : ℕ) (key : TKey) (s : MessageView) (answer : StatusResponse) → Adds (with_response d token at key s answer)
  with_response_adds at key s answer b w =
      with_emits_adds at (emit.Reply key (response_to d.sip (tag_for token w.drawn s.parsed.to_tag) s answer) ∷ []) b (with_draws (tags_due s.parsed.to_tag) w)

  with_stateless_response_adds : (at : ℕ) (s : MessageView) (answer : StatusResponse) → Adds (with_stateless_response d token at s answer)
  with_stateless_response_adds at s answer b w =
      with_emits_adds at (emit.Plain s.peer (message_text (response_to d.sip (tag_for token w.drawn s.parsed.to_tag) s answer)) ∷ []) b (with_draws (tags_due s.parsed.to_tag) w)

  with_refusal_of_bytes_adds : (at : ℕ) (peer : Peer) (source : Addr) (reply : Message Start) → Adds (with_refusal_of_bytes token at peer source reply)
  with_refusal_of_bytes_adds at peer source reply b w =
      with_emits_adds at (emit.Plain peer (message_text (completed_reply (tag_for token w.drawn (to_tag_in reply.lines)) source reply)) ∷ []) b (with_draws (tags_due (to_tag_in reply.lines)) w)

  -- ---- mailboxes

  either_adds : (c : Bool) (f g : RunState → RunState) → Adds f → Adds g → Adds (λ w. if c then f w else g w)
  either_adds true f g one other = one
  either_adds false f g one other = other

  after_notify_to_peer_adds : (at : ℕ) (sub : SubNo) (last : Bool) (o : Option Peer) → Adds (after_notify_to_peer d token at sub last o)
  after_notify_to_peer_adds at sub last None b w = refl
  after_notify_to_peer_adds at sub last (Some peer) b w =
      with_emits_adds at (notify_emits peer (notify_request d.sip sub last (next_tag token w) at (subscriptions_in w))) b (with_mailbox_op (Notifies sub (next_tag token w)) (with_draws 1 w))

  after_notify_adds : (at : ℕ) (sub : SubNo) (last : Bool) → Adds (after_notify d token at sub last)
  after_notify_adds at sub last b w = after_notify_to_peer_adds at sub last (peer_of sub (subscriptions_in w)) b w

  after_last_notify_adds : (at : ℕ) (sub : SubNo) → Adds (after_last_notify d token at sub)
  after_last_notify_adds at sub b w = ap (with_mailbox_op (Ends sub)) (after_notify_adds at sub true b w)

  with_expiry_timer_adds : (sub : SubNo) (set : Option ℕ) (until : ℕ) → Adds (with_expiry_timer sub set until)
  with_expiry_timer_adds sub None until b w = refl
  with_expiry_timer_adds sub (Some set) until b w = refl

  after_activation_adds : (at : ℕ) (sub : SubNo) (seconds : ℕ) → Adds (after_activation d token at sub seconds)
  after_activation_adds at sub seconds b w =
      let set : Option ℕ = set_by sub (subscriptions_in w) in
      either_adds (seconds == 0) (after_last_notify d token at sub) (λ v. with_expiry_timer sub set (until_of at seconds) (after_notify d token at sub false v)) (after_last_notify_adds at sub)
      (λ c v. ap (with_expiry_timer sub set (until_of at seconds)) (after_notify_adds at sub false c v) ∙ with_expiry_timer_adds sub set (until_of at seconds) c (after_notify d token at sub false v)) b w

  after_subscription_adds : (at : ℕ) (key : TKey) (s : MessageView) (account : Account) (seconds : ℕ) → Adds (after_subscription d token at key s account seconds)
  after_subscription_adds at key s account seconds b w =
      let tag : List ℕ = next_tag token w in
      let noted : RunState = with_mailbox_op (Subscribes account (leg_by tag s) (until_of at seconds)) (with_draws 1 w) in
      let replies : List Emit = emit.Reply key (response_to d.sip tag s (grant_response seconds)) ∷ [] in
      ap (after_activation d token at (next_sub (subscriptions_in w)) seconds) (with_emits_adds at replies b noted) ∙ after_activation_adds at (next_sub (subscriptions_in w)) seconds b (with_emits at replies noted)

  after_subscription_for_adds : (at : ℕ) (key : TKey) (s : MessageView) (o : Option Account) → Adds (after_subscription_for d token at key s o)
  after_subscription_for_adds at key s None b w = with_response_adds at key s (plain_response 403) b w
  after_subscription_for_adds at key s (Some account) b w =
      either_adds (is_full (subscriptions_in w)) (with_response d token at key s (plain_response 503)) (after_subscription d token at key s account (granted_seconds s.parsed.expires))
      (with_response_adds at key s (plain_response 503))
      (after_subscription_adds at key s account (granted_seconds s.parsed.expires)) b w

  after_subscribe_by_adds : (at : ℕ) (key : TKey) (s : MessageView) (o : Option ℕ) → Adds (after_subscribe_by d token at key s o)
  after_subscribe_by_adds at key s None b w = after_subscription_for_adds at key s (named_mailbox d s.parsed) b w
  after_subscribe_by_adds at key s (Some code) b w = with_response_adds at key s (refusal_response code) b w

  after_subscribe_adds : (at : ℕ) (key : TKey) (s : MessageView) → Adds (after_subscribe d token at key s)
  after_subscribe_adds at key s b w = after_subscribe_by_adds at key s (refusal (subscribe_request_of d false s.parsed)) b w

  refreshing_adds : (at : ℕ) (key : TKey) (s : MessageView) (sub : SubNo) (o : Option ℕ) → Adds (after_refresh_by d token at key s sub o)
  refreshing_adds at key s sub (Some code) b w = with_response_adds at key s (refusal_response code) b w
  refreshing_adds at key s sub None b w =
      let seconds : ℕ = granted_seconds s.parsed.expires in
      let noted : RunState = with_mailbox_op (Refreshes sub (until_of at seconds)) w in
      ap (after_activation d token at sub seconds) (with_response_adds at key s (grant_response seconds) b noted) ∙ after_activation_adds at sub seconds b (with_response d token at key s (grant_response seconds) noted)

  entered_adds : (at : ℕ) (key : TKey) (s : MessageView) (sub : SubNo) → Adds (after_request_in_order d token at key s sub)
  entered_adds at key s sub b w =
      let code : Option ℕ = refusal (subscribe_request_of d true s.parsed) in
      either_adds (is_method (codes "SUBSCRIBE") s.parsed.start) (after_refresh_by d token at key s sub code) (with_response d token at key s (other_response d s.parsed)) (refreshing_adds at key s sub code)
      (with_response_adds at key s (other_response d s.parsed)) b w

  after_checked_request_adds : (at : ℕ) (key : TKey) (s : MessageView) (sub : SubNo) (r : Result (Unit {0}) DialogueFault) → Adds (after_checked_request d token at key s sub r)
  after_checked_request_adds at key s sub (Err fault) b w = with_response_adds at key s (plain_response 500) b w
  after_checked_request_adds at key s sub (Ok done) b w = entered_adds at key s sub b (with_mailbox_op (mailboxes.Receives sub (message_in s.parsed)) w)

  after_subscription_request_adds : (at : ℕ) (key : TKey) (s : MessageView) (sub : SubNo) → Adds (after_subscription_request d token at key s sub)
  after_subscription_request_adds at key s sub b w = after_checked_request_adds at key s sub (request_check sub (message_in s.parsed) (subscriptions_in w)) b w

  after_notify_to_each_adds : (at : ℕ) (subs : List SubNo) → Adds (after_notify_to_each d token at subs)
  after_notify_to_each_adds at [] b w = refl
  after_notify_to_each_adds at (sub ∷ subs) b w = ap (after_notify_to_each d token at subs) (after_notify_adds at sub false b w) ∙ after_notify_to_each_adds at subs b (after_notify d token at sub false w)

  after_mailbox_upload_adds : (at : ℕ) (o : Option (Account × Counts)) → Adds (after_mailbox_upload d token at o)
  after_mailbox_upload_adds at None b w = refl
  after_mailbox_upload_adds at (Some put) b w = after_notify_to_each_adds at (subscribers_of put.0 (subscriptions_in w)) b (with_mailbox_op (Puts put.0 put.1) w)

  after_expiry_adds : (at : ℕ) (sub : SubNo) (set : ℕ) → Adds (after_expiry d token at sub set)
  after_expiry_adds at sub set b w =
      either_adds (is_last_set set (set_by sub (subscriptions_in w))) (after_last_notify d token at sub) (λ v. v) (after_last_notify_adds at sub) (λ c v. refl) b w

  after_notify_response_adds : (branch : Option (List ℕ)) (code : ℕ) → Adds (after_notify_response branch code)
  after_notify_response_adds None code b w = refl
  after_notify_response_adds (Some branch) code b w = refl

  -- ---- timers

  after_request_timeout_adds : (at : ℕ) (branch method : List ℕ) (whose : Owner) → Adds (after_request_timeout d token at branch method whose)
  after_request_timeout_adds at branch method OfCalls b w = after_call_signal_adds at (signal.Silent branch method) b w
  after_request_timeout_adds at branch method OfSubscriptions b w = after_notify_response_adds (behind_cookie branch) 408 b w
  after_request_timeout_adds at branch method OfConferences b w = after_conference_signal_adds at (of_room.Silent branch method) b w

  after_transaction_end_adds : (at : ℕ) (key : TKey) (whose : Owner) → Adds (after_transaction_end d token at key whose)
  after_transaction_end_adds at key OfCalls b w = after_call_signal_adds at (signal.Over key) b w
  after_transaction_end_adds at key OfSubscriptions b w = refl
  after_transaction_end_adds at key OfConferences b w = after_conference_signal_adds at (of_room.Over key) b w

  after_due_adds : (x : Due) → Adds (after_due d token x)
  after_due_adds (due.Again peer at text) b w = with_offers_adds (offer.To peer at text ∷ []) b w
  after_due_adds (due.Silent key branch method at) b w =
      after_request_timeout_adds at branch method (owner_of_branch (timed_out_branch branch method) (behind_cookie branch) (calls_in d w).entries (subscriptions_in w)) b w
  after_due_adds (due.Over key at) b w = after_transaction_end_adds at key (owner_of_key key (calls_in d w).entries) b w
  after_due_adds due.Nothing b w = refl

  after_service_timer_adds : (at : ℕ) (x : ServiceTimer) → Adds (after_service_timer d token at x)
  after_service_timer_adds at (OfCall call what) b w = after_call_signal_adds at (signal.Due call what) b w
  after_service_timer_adds at (OfParticipant room seat what) b w = after_conference_signal_adds at (of_room.Due room seat what) b w
  after_service_timer_adds at (OfSubscription sub set) b w = after_expiry_adds at sub set b w

  after_deadline_adds : (now : ℕ) (x : Deadline) → Adds (after_deadline d token now x)
  after_deadline_adds now OfTransaction b w = after_due_adds (due_result (next_due now (live (with_next_step w).actions))) b
      (record (with_next_step w) { actions = after_firing (with_next_step w).actions (next_due now (live (with_next_step w).actions)) })
  after_deadline_adds now (OfServiceTimer armed others) b w = after_service_timer_adds armed.at armed.timer b (record (with_next_step w) { pending_timers = others })

  if_fired_adds : (now : ℕ) (o : Option Deadline) → Adds (after_deadline_if d token now o)
  if_fired_adds now None b w = refl
  if_fired_adds now (Some x) b w = after_deadline_adds now x b w

  after_due_deadlines_adds : (fuel now : ℕ) → Adds (after_due_deadlines d token fuel now)
  after_due_deadlines_adds zero now b w = refl
  after_due_deadlines_adds (suc fuel) now b w = ap (after_due_deadlines d token fuel now) (if_fired_adds now (first_due_deadline now w) b w) ∙ after_due_deadlines_adds fuel now b (after_one_deadline d token now w)

  module _ (at : ℕ) where
    -- ---- a REFER with Replaces

    adopting_adds : (room : RoomNo) (seat : ℕ) (call : CallNo) (leg : Released) (account : Option Account) (found : Result ℕ RoomFault) → Adds (after_adoption_if d token at room seat call leg account found)
    adopting_adds room seat call leg account (Ok place) b w =
        let op : rooms.TableOp = adoption_op token at room seat leg account w in
        ap (after_call_end d token at call) (after_conference_op_adds d at op b w) ∙ after_call_end_adds at call b (after_conference_op d at op w)
    adopting_adds room seat call leg account (Err fault) b w = after_refer_notify_adds at room seat 503 b (with_call_op (Restores call.0 leg) w)

    taken_out_adds : (room : RoomNo) (seat : ℕ) (call : CallNo) (side : Side) (account : Option Account) (leg : Option Released) → Adds (after_detach d token at room seat call side account leg)
    taken_out_adds room seat call side account None b w = after_refer_notify_adds at room seat 491 b w
    taken_out_adds room seat call side account (Some leg) b w =
        adopting_adds room seat call leg account (access room.0 (conferences_in d w).live) b (with_call_op (Releases call.0 side) w)

    replaced_with_adds : (room : RoomNo) (seat : ℕ) (call : CallNo) (side : Side) (is_its : Bool) → Adds (after_replacing_side d token at room seat call side is_its)
    replaced_with_adds room seat call side false b w = after_refer_notify_adds at room seat 481 b w
    replaced_with_adds room seat call side true b w =
        taken_out_adds room seat call (other_side side) (account_of_side call (other_side side) (calls_in d w).entries) (released_leg_of call.0 (other_side side) (calls_in d w).entries) b w

    replaced_by_adds : (peer : Peer) (room : RoomNo) (seat : ℕ) (named : Option (CallNo × Side)) → Adds (after_replacing_named d token at peer room seat named)
    replaced_by_adds peer room seat None b w = after_refer_notify_adds at room seat 481 b w
    replaced_by_adds peer room seat (Some named) b w =
        replaced_with_adds room seat named.0 named.1 (is_of_peer peer (party named.0.0 named.1 (calls_in d w).entries)) b w

    replaced_adds : (peer : Peer) (room : RoomNo) (seat : ℕ) (x : Replaces) → Adds (after_replacing d token at peer room seat x)
    replaced_adds peer room seat x b w = replaced_by_adds peer room seat (replaced_side x (calls_in d w).entries) b w

    replacing_adds : (peer : Peer) (room : RoomNo) (seat : ℕ) (x : Option Replaces) → Adds (after_replaces d token at peer room seat x)
    replacing_adds peer room seat None b w = refl
    replacing_adds peer room seat (Some x) b w =
        ap (after_replacing d token at peer room seat x) (after_refer_notify_adds at room seat 100 b w) ∙ replaced_adds peer room seat x b (after_refer_notify d token at room seat 100 w)

  module _ (at : ℕ) (s : MessageView) where
    -- ---- who joins a conference

    room_opened_adds : (key : TKey) (tag : List ℕ) (full : Bool) → Adds (after_opening_if d at key s tag full)
    room_opened_adds key tag true b w = after_newcomer_refusal_adds d at key s tag 503 b w
    room_opened_adds key tag false b w = with_conference_output_adds at (opening_op d at key s tag) (output_of_conference_op d (opening_op d at key s tag) w) b w

    opening_room_adds : (key : TKey) → Adds (after_factory_invite d token at key s)
    opening_room_adds key b w = room_opened_adds key (next_tag token w) (is_table_full (conferences_in d w).live) b (with_draws 1 w)

    room_joined_adds : (key : TKey) (room : RoomNo) (tag : List ℕ) (found : Result ℕ RoomFault) → Adds (after_join_if d token at key s room tag found)
    room_joined_adds key room tag (Err fault) b w = after_newcomer_refusal_adds d at key s tag (status_of_fault fault) b w
    room_joined_adds key room tag (Ok place) b w = after_conference_op_adds d at (join_op d at key s room tag (tokens_now token w)) b w

    joining_room_adds : (key : TKey) (room : RoomNo) → Adds (after_conference_invite d token at key s room)
    joining_room_adds key room b w = room_joined_adds key room (next_tag token w) (access room.0 (conferences_in d w).live) b (with_draws 1 w)

    entering_room_adds : (key : TKey) (room : RoomNo) (seat : ℕ) → Adds (after_participant_request d token at key s room seat)
    entering_room_adds key room seat b w =
        let x : RoomSignal = of_room.Request room seat key s in
        let asked : Option Replaces = replacement_in s.parsed (output_of_conference_op d (conference_signal_op token at x w) w).out in
        ap (after_replaces d token at s.peer room seat asked) (after_conference_signal_adds at x b w) ∙ replacing_adds at s.peer room seat asked b (after_conference_signal d token at x w)

    -- ---- messages

    taking_adds : (key : TKey) (c : Disposition) → Adds (after_disposition d token at key s c)
    taking_adds key (Respond answer) b w = with_response_adds at key s answer b w
    taking_adds key (Enter call side) b w = after_call_signal_adds at (signal.Request call side key s) b w
    taking_adds key (EnterConference room seat) b w = entering_room_adds key room seat b w
    taking_adds key OpenCall b w = after_call_signal_adds at (arrival_signal d.names.accounts key s) b w
    taking_adds key OpenConference b w = opening_room_adds key b w
    taking_adds key (JoinConference room) b w = joining_room_adds key room b w
    taking_adds key (Register account seconds) b w = with_response_adds at key s (plain_response 200) b (with_registration account (until_of at seconds) w)
    taking_adds key Subscribe b w = after_subscribe_adds at key s b w
    taking_adds key (EnterSubscription sub) b w = after_subscription_request_adds at key s sub b w

    repeating_adds : (o : Option (Peer × List ℕ)) → Adds (with_retransmission at o)
    repeating_adds None b w = refl
    repeating_adds (Some sent) b w = with_emits_adds at (emit.Plain sent.0 sent.1 ∷ []) b w

    cancelling_call_adds : (key invite : TKey) (o : Option (CallNo × Side)) → Adds (after_cancel_of d token at key s invite o)
    cancelling_call_adds key invite None b w = with_response_adds at key s (plain_response 200) b w
    cancelling_call_adds key invite (Some asked) b w = after_call_signal_adds at (signal.Cancel asked.0 key s invite) b w

    cancelling_adds : (key : TKey) (invite : Option TKey) → Adds (after_cancel d token at key s invite)
    cancelling_adds key None b w = with_response_adds at key s (plain_response 481) b w
    cancelling_adds key (Some invite) b w = cancelling_call_adds key invite (call_of_invite invite (calls_in d w).entries) b w

    acknowledging_adds : (o : Option DialogOwner) → Adds (after_ack_by d token at s o)
    acknowledging_adds None b w = refl
    acknowledging_adds (Some (InCall call side)) b w = after_call_signal_adds at (signal.Ack call side s) b w
    acknowledging_adds (Some (InConference room seat)) b w = after_conference_signal_adds at (of_room.Ack room seat s) b w
    acknowledging_adds (Some (InSubscription sub)) b w = refl

    responding_adds : (key : TKey) (whose : Owner) → Adds (after_response_to d token at key s whose)
    responding_adds key OfCalls b w = after_call_signal_adds at (signal.Answer key s) b w
    responding_adds key OfSubscriptions b w = after_notify_response_adds (branch_in s.parsed.vias) (status_of s.parsed.start) b w
    responding_adds key OfConferences b w = after_conference_signal_adds at (of_room.Answer key s) b w

    answering_adds : (o : Option transaction.Heard) → Adds (after_classified_message d token at s o)
    answering_adds None b w = with_stateless_response_adds at s (plain_response 503) b w
    answering_adds (Some (heard.Fresh key message)) b w =
        taking_adds key (disposition d (is_merged key.0 (live w.actions)) (are_full (calls_in d w).entries) (dialog_owner_in d s.parsed w) s.parsed) b w
    answering_adds (Some (heard.Answer key message)) b w = responding_adds key (owner_of_branch (awaited_request_branch s) (branch_in s.parsed.vias) (calls_in d w).entries (subscriptions_in w)) b w
    answering_adds (Some (heard.Repeat sent)) b w = repeating_adds sent b w
    answering_adds (Some (heard.Acked key)) b w = refl
    answering_adds (Some (heard.Cancel key invite message)) b w = cancelling_adds key invite b w
    answering_adds (Some (heard.AckOf2xx message)) b w = acknowledging_adds (dialog_owner_in d s.parsed w) b w
    answering_adds (Some heard.Stray) b w = refl

    receiving_adds : (o : Option transaction.Heard) → Adds (with_received_action at s o)
    receiving_adds None b w = refl
    receiving_adds (Some taken) b w = refl

    after_message_adds : Adds (after_message d token at s)
    after_message_adds b w =
        let said = hear_result w.actions s.peer (message_in s.parsed) in
        ap (after_classified_message d token at s said) (receiving_adds said b w) ∙ answering_adds said b (with_received_action at s said w)

  -- ---- events

  after_parsed_event_adds : (at : ℕ) (x : ParsedEvent) → Adds (after_parsed_event d token at x)
  after_parsed_event_adds at Nothing b w = refl
  after_parsed_event_adds at (Refused peer source reply) b w = with_refusal_of_bytes_adds at peer source reply b w
  after_parsed_event_adds at (Received said) b w = after_message_adds at said b w
  after_parsed_event_adds at (WebRequested request kept rows) b w =
      let put : Option (Account × Counts) = counts_put_in d.names request kept in
      ap (after_mailbox_upload d token at put) (after_web_reply_adds d at request kept rows b w) ∙ after_mailbox_upload_adds at put b (after_web_reply d at request kept rows w)

  after_handover_adds : (took : Bool) (rows : List Row) → Adds (after_handover took rows)
  after_handover_adds took [] b w = refl
  after_handover_adds false (row ∷ rows) b w = refl
  after_handover_adds true (row ∷ rows) b w = refl

  after_event_adds : (at : ℕ) (x : ParsedEvent) (took : Bool) → Adds (after_event d token at x took)
  after_event_adds at x took b w =
      let start : RunState = record (with_next_step w) { clock = at } in
      let done : RunState = after_parsed_event d token at x start in
      ap (after_event_end took) (after_parsed_event_adds at x b start) ∙ after_handover_adds took done.waiting b done

  one_adds : (fuel : ℕ) (x : TimedEvent) → Adds (after_event_in_order d token fuel x)
  one_adds fuel x b w =
      ap (after_event d token (clock_at w x.at) x.parsed x.accepted) (after_due_deadlines_adds fuel (clock_at w x.at) b w)
      ∙ after_event_adds (clock_at w x.at) x.parsed x.accepted b (after_due_deadlines d token fuel (clock_at w x.at) w)

  after_events_adds : (fuel : ℕ) (xs : List TimedEvent) → Adds (after_events d token fuel xs)
  after_events_adds fuel [] b w = refl
  after_events_adds fuel (x ∷ xs) b w = ap (after_events d token fuel xs) (one_adds fuel x b w) ∙ after_events_adds fuel xs b (after_event_in_order d token fuel x w)

  after_events_parts : (fuel : ℕ) (earlier recorded : List EventRecord) (w : RunState) →
      after_events d token fuel (timed_events d (earlier ++ recorded)) w ≡ after_events d token fuel (timed_events d recorded) (after_events d token fuel (timed_events d earlier) w)
  after_events_parts fuel [] recorded w = refl
  after_events_parts fuel (one ∷ earlier) recorded w = after_events_parts fuel earlier recorded (after_event_in_order d token fuel (timed_event_of d one) w)

pub events_add : EventsAdd
events_add d token fuel notice before state = one_adds d token fuel notice before state

pub deadlines_add : DeadlinesAdd
deadlines_add d token fuel now before state = after_due_deadlines_adds d token fuel now before state

pub runs_add : RunsAdd
runs_add d token loaded fuel earlier recorded =
    let w : RunState = state_after d token loaded fuel earlier in
    ap (λ (u : RunState). u.offers) (after_events_parts d token fuel earlier recorded (initial_state loaded)
    ∙ (ap (λ (os : List Offer). after_events d token fuel (timed_events d recorded) (record w { offers = os })) (sym (append-nil w.offers))
    ∙ after_events_adds d token fuel (timed_events d recorded) w.offers (without_offers w)))
