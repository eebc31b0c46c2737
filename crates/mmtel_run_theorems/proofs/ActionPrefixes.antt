-- What holds for all operations on the transactions held for those before: operations only add to that list.
use Rattle.std.proofs.Common.{ℕ, zero, suc, List, [], ◌∷◌, ◌++◌, length, Bool, true, false, Option, Some, None, Result, Ok, Err}
use Rattle.mmtel_compose.specs.ReceivedMessages.{MessageView, status_of}
use Rattle.mmtel_b2bua.specs.Operations.{Drops, Finishes, Receives, Releases, Restores, TableOp, step_on_finish, step_on_receive_after}
use Rattle.mmtel_b2bua.specs.Detaching.{released_leg_of}
use Rattle.mmtel_b2bua.specs.Queries.{party}
use Rattle.mmtel_b2bua.specs.declared.signals.Signal.{Signal}
use Rattle.mmtel_b2bua.specs.declared.signals.Signal.TheVariants as signal
use Rattle.mmtel_charging.specs.declared.rows.Row.{Row}
use Rattle.mmtel_output.specs.declared.outputs.StepOutput.{StepOutput}
use Rattle.mmtel_directory.specs.declared.directories.Directory.{Directory}
use Rattle.mmtel_focus.specs.Operations as rooms
use Rattle.mmtel_focus.specs.Table.{access, is_table_full}
use Rattle.mmtel_focus.specs.declared.faults.RoomFault.{RoomFault}
use Rattle.mmtel_focus.specs.declared.referrals.Replaces.{Replaces}
use Rattle.mmtel_focus.specs.declared.signals.RoomSignal.{RoomSignal}
use Rattle.mmtel_focus.specs.declared.signals.RoomSignal.TheVariants as of_room
use Rattle.mmtel_leg.specs.declared.legs.Released.{Released}
use Rattle.mmtel_output.specs.ResponseMatching.{awaited_request_branch, behind_cookie, branch_in, timed_out_branch}
use Rattle.mmtel_transaction.specs.Results.{DueEntryView, after_firing, class_of, due_result, hear_result, is_merged, next_due}
use Rattle.mmtel_transaction.specs.Operations.{DidAck, DidAsk, DidBegin, DidFire, DidSettle, DidHear, DidReply, TransactionOp, live}
use Rattle.mmtel_transaction.specs.Heads.{head_of}
use Rattle.mmtel_transaction.specs.declared.words.Due.{Due}
use Rattle.mmtel_transaction.specs.declared.words.Due.TheVariants as due
use Rattle.mmtel_transaction.specs.declared.words.Emit.{Emit}
use Rattle.mmtel_transaction.specs.declared.words.Emit.TheVariants as emit
use Rattle.mmtel_transaction.specs.declared.words.Heard as transaction
use Rattle.mmtel_transaction.specs.declared.words.Heard.TheVariants as heard
use Rattle.mmtel_transaction.specs.declared.words.TKey.{TKey}
use Rattle.mmtel_types.specs.Sides.{other_side}
use Rattle.mmtel_types.specs.declared.numbers.Account.{Account}
use Rattle.mmtel_types.specs.declared.numbers.CallNo.{CallNo}
use Rattle.mmtel_types.specs.declared.numbers.Peer.{Peer}
use Rattle.mmtel_types.specs.declared.numbers.RoomNo.{RoomNo}
use Rattle.mmtel_types.specs.declared.sides.Side.{Side}
use Rattle.mmtel_run_definitions.specs.OwnResponses.{StatusResponse, plain_response, response_to, tag_for}
use Rattle.mmtel_run_definitions.specs.Calls.{are_full, arrival_signal, call_config, call_of_invite}
use Rattle.mmtel_run_definitions.specs.Deadlines.{Deadline, OfCall, OfParticipant, OfServiceTimer, OfSubscription, OfTransaction, ServiceTimer}
use Rattle.mmtel_run_definitions.specs.Events.{ParsedEvent, Nothing, Refused, Received, WebRequested, TimedEvent, message_in}
use Rattle.mmtel_run_definitions.specs.Records.{until_of}
use Rattle.mmtel_run_definitions.specs.Refusals.{Disposition, Respond, Enter, EnterConference, OpenCall, OpenConference, JoinConference, Register, Subscribe, EnterSubscription, disposition}
use Rattle.mmtel_run_definitions.specs.Ownership.{DialogOwner, InSubscription, InCall, InConference, OfSubscriptions, OfCalls, OfConferences, Owner}
use Rattle.mmtel_run_definitions.specs.Ownership.{account_of_side, owner_of_branch, owner_of_key, is_of_peer, replacement_in, replaced_side, status_of_fault}
use Rattle.mmtel_run_definitions.specs.Run.{after_deadline_if, after_due_deadlines, after_event_in_order, after_events, after_one_deadline, clock_at, first_due_deadline}
use Rattle.mmtel_web.specs.Uploads.{counts_put_in}
use Rattle.mmtel_run_definitions.specs.Subscriptions.{grant_response, other_response, refusal_response, with_mailbox_op}
use Rattle.mmtel_run_definitions.proofs.MailboxSteps as mailing
use Rattle.mmtel_run_definitions.proofs.MailboxSteps.{AreResponses, AreSteps, tells_in}
use Rattle.mmtel_run_definitions.specs.Transitions.{RunState, subscriptions_in, after_web_reply, after_ack_by, after_adoption_if, adoption_op, after_service_timer, after_classified_message}
use Rattle.mmtel_run_definitions.specs.Transitions.{with_next_step, with_call_output, calls_in, after_event, after_cancel, after_cancel_of, output_of_conference_op, with_draws, with_emit}
use Rattle.mmtel_run_definitions.specs.Transitions.{with_emits, after_transaction_end, after_participant_request, after_deadline, after_call_end, after_handover, conference_signal_op, received_now}
use Rattle.mmtel_run_definitions.specs.Transitions.{with_received_action, dialog_owner_in, after_conference_op, join_op, after_conference_invite, with_call_op, with_conference_output}
use Rattle.mmtel_run_definitions.specs.Transitions.{after_parsed_event, next_tag, after_refer_notify, opening_op, after_factory_invite, with_registration, with_retransmission, after_replacing}
use Rattle.mmtel_run_definitions.specs.Transitions.{after_replacing_named, after_replacing_side, after_replaces, with_response, after_response_to, after_join_if, after_opening_if, conferences_in}
use Rattle.mmtel_run_definitions.specs.Transitions.{after_due, after_conference_signal, after_call_signal, after_request_timeout, after_detach, after_disposition, after_message, tokens_now}

-- P holds for all operations, and for all before
-- whatever is requested, and whatever refuses it
abbrev pub Anyhow : (within : Bool) → Option ℕ → Type 0
Anyhow within o = Unit {0}

module _ (P : List TransactionOp → Type 0) (older : (x : TransactionOp) (h : List TransactionOp) → P (x ∷ h) → P h) where
  abbrev AllTrue : RunState → Type 0
  AllTrue w = P w.actions

  pub emit_before : (at : ℕ) (x : Emit) (w : RunState) → AllTrue (with_emit at x w) → AllTrue w
  emit_before at (emit.Ask peer message) w e = older (DidAsk peer message at) w.actions e
  emit_before at (emit.Reply key message) w e = older (DidReply key.0 message at) w.actions e
  emit_before at (emit.Plain peer text) w e = e
  emit_before at (emit.Ack key message) w e = older (DidAck key.0 message) w.actions e
  emit_before at (emit.Settled key own) w e = older (DidSettle key.0 own) w.actions e
  emit_before at (emit.Arm call what when) w e = e
  emit_before at (emit.ArmSeat room seat what when) w e = e

  pub with_emits_before : (at : ℕ) (xs : List Emit) (w : RunState) → AllTrue (with_emits at xs w) → AllTrue w
  with_emits_before at [] w e = e
  with_emits_before at (x ∷ xs) w e = emit_before at x w (with_emits_before at xs (with_emit at x w) e)

  after_firing_before : (o : Option DueEntryView) (h : List TransactionOp) → P (after_firing h o) → P h
  after_firing_before None h e = e
  after_firing_before (Some n) h e = older (DidFire n.entry.key) h e

  pub with_next_step_before : (w : RunState) → AllTrue (with_next_step w) → AllTrue w
  with_next_step_before w e = older (DidBegin w.steps) w.actions e

  with_response_before : (d : Directory) (token : List ℕ) (at : ℕ) (key : TKey) (s : MessageView) (answer : StatusResponse) (w : RunState) → AllTrue (with_response d token at key s answer w) → AllTrue w
  with_response_before d token at key s answer w e = older (DidReply key.0 (response_to d.sip (tag_for token w.drawn s.parsed.to_tag) s answer) at) w.actions e

  -- from a later state to an earlier one
  abbrev Back : RunState → RunState → Type 0
  Back w v = AllTrue v → AllTrue w

  then_back : (u v w : RunState) → Back u v → Back v w → Back u w
  then_back u v w first second e = first (second e)

  pub after_handover_before : (took : Bool) (rows : List Row) (w : RunState) → AllTrue (after_handover took rows w) → AllTrue w
  after_handover_before took [] w e = e
  after_handover_before false (row ∷ rows) w e = e
  after_handover_before true (row ∷ rows) w e = e

  module _ (d : Directory) (token : List ℕ) where
    bringing_before : (at : ℕ) (op : TableOp) (output : StepOutput) (w : RunState) → AllTrue (with_call_output at op output w) → AllTrue w
    bringing_before at op output w e =
        with_emits_before at output.out (record w { call_ops = Drops (length output.rows) ∷ op ∷ w.call_ops; drawn = output.tokens.drawn; waiting = w.waiting ++ output.rows }) e

    lodging_before : (at : ℕ) (op : rooms.TableOp) (output : StepOutput) (w : RunState) → AllTrue (with_conference_output at op output w) → AllTrue w
    lodging_before at op output w e = with_emits_before at output.out (record w { conference_ops = rooms.Drops (length output.rows) ∷ op ∷ w.conference_ops; waiting = w.waiting ++ output.rows }) e

    pub signalled_before : (at : ℕ) (x : Signal) (w : RunState) → AllTrue (after_call_signal d token at x w) → AllTrue w
    signalled_before at x w e = bringing_before at (Receives (received_now token at x w)) (step_on_receive_after (call_config d) w.call_ops (received_now token at x w)).output w e

    pub finishing_before : (at : ℕ) (call : CallNo) (w : RunState) → AllTrue (after_call_end d token at call w) → AllTrue w
    finishing_before at call w e = bringing_before at (Finishes call.0 at (tokens_now token w)) (step_on_finish (call_config d) call.0 at (tokens_now token w) (calls_in d w)).output w e

    pub housed_before : (at : ℕ) (op : rooms.TableOp) (w : RunState) → AllTrue (after_conference_op d at op w) → AllTrue w
    housed_before at op w e = lodging_before at op (output_of_conference_op d op w) (record w { drawn = (output_of_conference_op d op w).tokens.drawn }) e

    pub seated_before : (at : ℕ) (x : RoomSignal) (w : RunState) → AllTrue (after_conference_signal d token at x w) → AllTrue w
    seated_before at x w e = housed_before at (conference_signal_op token at x w) w e

    pub noticed_before : (at : ℕ) (room : RoomNo) (seat code : ℕ) (w : RunState) → AllTrue (after_refer_notify d token at room seat code w) → AllTrue w
    noticed_before at room seat code w e = housed_before at (rooms.Notifies room.0 seat code (tokens_now token w)) w e

    -- ---- mailboxes

    box_steps : (at : ℕ) → AreSteps d token at Back
    box_steps at = record {
      same = λ w e. e;
      next = then_back;
      notes = λ op w none e. e;
      draws = λ w e. e;
      arms = λ armed w e. e;
      asks = λ sub last peer message w lives is. with_emits_before at (emit.Ask peer message ∷ []) (tells_in token sub w);
    }

    box_answers : (at : ℕ) (key : TKey) (s : MessageView) → AreResponses d token at Back key s Anyhow
    box_answers at key s = record {
      reads = λ within. tt;
      subscribes = λ account until w may e. e;
      grants = λ op seconds w may. with_emits_before at (emit.Reply key (response_to d.sip (next_tag token w) s (grant_response seconds)) ∷ []) (with_mailbox_op op (with_draws 1 w));
      renews = λ seconds w may. with_response_before d token at key s (grant_response seconds) w;
      refuses = λ within code w may. with_response_before d token at key s (refusal_response code) w;
      denies = λ code w is. with_response_before d token at key s (plain_response code) w;
      others = λ w is. with_response_before d token at key s (other_response d s.parsed) w;
    }

    -- ---- timers

    silenced_before : (at : ℕ) (branch method : List ℕ) (whose : Owner) (w : RunState) → AllTrue (after_request_timeout d token at branch method whose w) → AllTrue w
    silenced_before at branch method OfCalls w e = signalled_before at (signal.Silent branch method) w e
    silenced_before at branch method OfSubscriptions w e = mailing.answered Back (λ v e. e) (λ op v none e. e) (behind_cookie branch) 408 w e
    silenced_before at branch method OfConferences w e = seated_before at (of_room.Silent branch method) w e

    ended_of_before : (at : ℕ) (key : TKey) (whose : Owner) (w : RunState) → AllTrue (after_transaction_end d token at key whose w) → AllTrue w
    ended_of_before at key OfCalls w e = signalled_before at (signal.Over key) w e
    ended_of_before at key OfSubscriptions w e = e
    ended_of_before at key OfConferences w e = seated_before at (of_room.Over key) w e

    rung_before : (x : Due) (w : RunState) → AllTrue (after_due d token x w) → AllTrue w
    rung_before (due.Again peer at text) w e = e
    rung_before (due.Silent key branch method at) w e = silenced_before at branch method (owner_of_branch (timed_out_branch branch method) (behind_cookie branch) (calls_in d w).entries (subscriptions_in w)) w e
    rung_before (due.Over key at) w e = ended_of_before at key (owner_of_key key (calls_in d w).entries) w e
    rung_before due.Nothing w e = e

    alarmed_before : (at : ℕ) (x : ServiceTimer) (w : RunState) → AllTrue (after_service_timer d token at x w) → AllTrue w
    alarmed_before at (OfCall call what) w e = signalled_before at (signal.Due call what) w e
    alarmed_before at (OfParticipant room seat what) w e = seated_before at (of_room.Due room seat what) w e
    alarmed_before at (OfSubscription sub set) w e = mailing.ends d token at Back (box_steps at) sub set w e

    fired_before : (now : ℕ) (x : Deadline) (w : RunState) → AllTrue (after_deadline d token now x w) → AllTrue w
    fired_before now OfTransaction w e =
        with_next_step_before w (after_firing_before (next_due now (live (with_next_step w).actions)) (with_next_step w).actions
        (rung_before (due_result (next_due now (live (with_next_step w).actions))) (record (with_next_step w) { actions = after_firing (with_next_step w).actions (next_due now (live (with_next_step w).actions)) }) e))
    fired_before now (OfServiceTimer armed others) w e = with_next_step_before w (alarmed_before armed.at armed.timer (record (with_next_step w) { pending_timers = others }) e)

    if_fired_before : (now : ℕ) (o : Option Deadline) (w : RunState) → AllTrue (after_deadline_if d token now o w) → AllTrue w
    if_fired_before now None w e = e
    if_fired_before now (Some x) w e = fired_before now x w e

    pub settled_before : (fuel now : ℕ) (w : RunState) → AllTrue (after_due_deadlines d token fuel now w) → AllTrue w
    settled_before zero now w e = e
    settled_before (suc fuel) now w e = if_fired_before now (first_due_deadline now w) w (settled_before fuel now (after_one_deadline d token now w) e)

    module _ (at : ℕ) where
      pub adopting_before : (room : RoomNo) (seat : ℕ) (call : CallNo) (leg : Released) (account : Option Account) (r : Result ℕ RoomFault) (w : RunState) →
          AllTrue (after_adoption_if d token at room seat call leg account r w) → AllTrue w
      adopting_before room seat call leg account (Ok place) w e =
          let op : rooms.TableOp = adoption_op token at room seat leg account w in
          housed_before at op w (finishing_before at call (after_conference_op d at op w) e)
      adopting_before room seat call leg account (Err fault) w e = noticed_before at room seat 503 (with_call_op (Restores call.0 leg) w) e

      pub taken_out_before : (room : RoomNo) (seat : ℕ) (call : CallNo) (side : Side) (account : Option Account) (leg : Option Released) (w : RunState) →
          AllTrue (after_detach d token at room seat call side account leg w) → AllTrue w
      taken_out_before room seat call side account None w e = noticed_before at room seat 491 w e
      taken_out_before room seat call side account (Some leg) w e =
          adopting_before room seat call leg account (access room.0 (conferences_in d w).live) (with_call_op (Releases call.0 side) w) e

      pub replaced_with_before : (room : RoomNo) (seat : ℕ) (call : CallNo) (side : Side) (is_its : Bool) (w : RunState) →
          AllTrue (after_replacing_side d token at room seat call side is_its w) → AllTrue w
      replaced_with_before room seat call side false w e = noticed_before at room seat 481 w e
      replaced_with_before room seat call side true w e =
          taken_out_before room seat call (other_side side) (account_of_side call (other_side side) (calls_in d w).entries) (released_leg_of call.0 (other_side side) (calls_in d w).entries) w e

      pub replaced_by_before : (peer : Peer) (room : RoomNo) (seat : ℕ) (o : Option (CallNo × Side)) (w : RunState) → AllTrue (after_replacing_named d token at peer room seat o w) → AllTrue w
      replaced_by_before peer room seat None w e = noticed_before at room seat 481 w e
      replaced_by_before peer room seat (Some named) w e = replaced_with_before room seat named.0 named.1 (is_of_peer peer (party named.0.0 named.1 (calls_in d w).entries)) w e

      pub replaced_before : (peer : Peer) (room : RoomNo) (seat : ℕ) (replaces : Replaces) (w : RunState) → AllTrue (after_replacing d token at peer room seat replaces w) → AllTrue w
      replaced_before peer room seat replaces w e = replaced_by_before peer room seat (replaced_side replaces (calls_in d w).entries) w e

      pub replacing_before : (peer : Peer) (room : RoomNo) (seat : ℕ) (o : Option Replaces) (w : RunState) → AllTrue (after_replaces d token at peer room seat o w) → AllTrue w
      replacing_before peer room seat None w e = e
      replacing_before peer room seat (Some replaces) w e = noticed_before at room seat 100 w (replaced_before peer room seat replaces (after_refer_notify d token at room seat 100 w) e)

    module _ (at : ℕ) (s : MessageView) where
      -- ---- conferences

      opened_before : (key : TKey) (tag : List ℕ) (is_full : Bool) (w : RunState) → AllTrue (after_opening_if d at key s tag is_full w) → AllTrue w
      opened_before key tag true w e = older (DidReply key.0 (response_to d.sip tag s (plain_response 503)) at) w.actions e
      opened_before key tag false w e = lodging_before at (opening_op d at key s tag) (output_of_conference_op d (opening_op d at key s tag) w) w e

      opening_room_before : (key : TKey) (w : RunState) → AllTrue (after_factory_invite d token at key s w) → AllTrue w
      opening_room_before key w e = opened_before key (next_tag token w) (is_table_full (conferences_in d w).live) (with_draws 1 w) e

      joined_before : (key : TKey) (room : RoomNo) (tag : List ℕ) (r : Result ℕ RoomFault) (w : RunState) → AllTrue (after_join_if d token at key s room tag r w) → AllTrue w
      joined_before key room tag (Err fault) w e = older (DidReply key.0 (response_to d.sip tag s (plain_response (status_of_fault fault))) at) w.actions e
      joined_before key room tag (Ok place) w e = housed_before at (join_op d at key s room tag (tokens_now token w)) w e

      joining_room_before : (key : TKey) (room : RoomNo) (w : RunState) → AllTrue (after_conference_invite d token at key s room w) → AllTrue w
      joining_room_before key room w e = joined_before key room (next_tag token w) (access room.0 (conferences_in d w).live) (with_draws 1 w) e

      entering_room_before : (key : TKey) (room : RoomNo) (seat : ℕ) (w : RunState) → AllTrue (after_participant_request d token at key s room seat w) → AllTrue w
      entering_room_before key room seat w e =
          let x : RoomSignal = of_room.Request room seat key s in
          seated_before at x w (replacing_before at s.peer room seat (replacement_in s.parsed (output_of_conference_op d (conference_signal_op token at x w) w).out) (after_conference_signal d token at x w) e)

      -- ---- messages

      pub taking_before : (key : TKey) (c : Disposition) (w : RunState) → AllTrue (after_disposition d token at key s c w) → AllTrue w
      taking_before key (Respond answer) w e = with_response_before d token at key s answer w e
      taking_before key (Enter call side) w e = signalled_before at (signal.Request call side key s) w e
      taking_before key (EnterConference room seat) w e = entering_room_before key room seat w e
      taking_before key OpenCall w e = signalled_before at (arrival_signal d.names.accounts key s) w e
      taking_before key OpenConference w e = opening_room_before key w e
      taking_before key (JoinConference room) w e = joining_room_before key room w e
      taking_before key (Register account seconds) w e = with_response_before d token at key s (plain_response 200) (with_registration account (until_of at seconds) w) e
      taking_before key Subscribe w e = mailing.subscribes d token at Back (box_steps at) key s Anyhow (box_answers at key s) w e
      taking_before key (EnterSubscription sub) w e = mailing.enters d token at Back (box_steps at) key s Anyhow (box_answers at key s) sub w e

      repeating_before : (o : Option (Peer × List ℕ)) (w : RunState) → AllTrue (with_retransmission at o w) → AllTrue w
      repeating_before None w e = e
      repeating_before (Some sent) w e = e

      cancelling_call_before : (key invite : TKey) (o : Option (CallNo × Side)) (w : RunState) → AllTrue (after_cancel_of d token at key s invite o w) → AllTrue w
      cancelling_call_before key invite None w e = with_response_before d token at key s (plain_response 200) w e
      cancelling_call_before key invite (Some asked) w e = signalled_before at (signal.Cancel asked.0 key s invite) w e

      cancelling_before : (key : TKey) (invite : Option TKey) (w : RunState) → AllTrue (after_cancel d token at key s invite w) → AllTrue w
      cancelling_before key None w e = with_response_before d token at key s (plain_response 481) w e
      cancelling_before key (Some invite) w e = cancelling_call_before key invite (call_of_invite invite (calls_in d w).entries) w e

      acknowledging_by_before : (o : Option DialogOwner) (w : RunState) → AllTrue (after_ack_by d token at s o w) → AllTrue w
      acknowledging_by_before None w e = e
      acknowledging_by_before (Some (InCall call side)) w e = signalled_before at (signal.Ack call side s) w e
      acknowledging_by_before (Some (InConference room seat)) w e = seated_before at (of_room.Ack room seat s) w e
      acknowledging_by_before (Some (InSubscription sub)) w e = e

      responding_to_before : (key : TKey) (whose : Owner) (w : RunState) → AllTrue (after_response_to d token at key s whose w) → AllTrue w
      responding_to_before key OfCalls w e = signalled_before at (signal.Answer key s) w e
      responding_to_before key OfSubscriptions w e = mailing.answered Back (λ v e. e) (λ op v none e. e) (branch_in s.parsed.vias) (status_of s.parsed.start) w e
      responding_to_before key OfConferences w e = seated_before at (of_room.Answer key s) w e

      pub answering_before : (o : Option transaction.Heard) (w : RunState) → AllTrue (after_classified_message d token at s o w) → AllTrue w
      answering_before None w e = e
      answering_before (Some (heard.Fresh key message)) w e = taking_before key (disposition d (is_merged key.0 (live w.actions)) (are_full (calls_in d w).entries) (dialog_owner_in d s.parsed w) s.parsed) w e
      answering_before (Some (heard.Answer key message)) w e = responding_to_before key (owner_of_branch (awaited_request_branch s) (branch_in s.parsed.vias) (calls_in d w).entries (subscriptions_in w)) w e
      answering_before (Some (heard.Repeat sent)) w e = repeating_before sent w e
      answering_before (Some (heard.Acked key)) w e = e
      answering_before (Some (heard.Cancel key invite message)) w e = cancelling_before key invite w e
      answering_before (Some (heard.AckOf2xx message)) w e = acknowledging_by_before (dialog_owner_in d s.parsed w) w e
      answering_before (Some heard.Stray) w e = e

      pub receiving_before : (o : Option transaction.Heard) (w : RunState) → AllTrue (with_received_action at s o w) → AllTrue w
      receiving_before None w e = e
      receiving_before (Some taken) w e = older (DidHear s.peer (message_in s.parsed) at (class_of (head_of (message_in s.parsed)) (live w.actions))) w.actions e

      pub after_message_before : (w : RunState) → AllTrue (after_message d token at s w) → AllTrue w
      after_message_before w e =
          let said = hear_result w.actions s.peer (message_in s.parsed) in
          receiving_before said w (answering_before said (with_received_action at s said w) e)

    pub met_before : (at : ℕ) (x : ParsedEvent) (w : RunState) → AllTrue (after_parsed_event d token at x w) → AllTrue w
    met_before at Nothing w e = e
    met_before at (Refused peer source reply) w e = e
    met_before at (Received said) w e = after_message_before at said w e
    met_before at (WebRequested request kept rows) w e = mailing.puts d token at Back (box_steps at) (λ account counts v f. f) (counts_put_in d.names request kept) (after_web_reply d at request kept rows w) e

    pub came_before : (at : ℕ) (x : ParsedEvent) (took : Bool) (w : RunState) → AllTrue (after_event d token at x took w) → AllTrue w
    came_before at x took w e =
        let left : RunState = after_parsed_event d token at x (record (with_next_step w) { clock = at }) in
        with_next_step_before w (met_before at x (record (with_next_step w) { clock = at }) (after_handover_before took left.waiting left e))

    pub one_before : (fuel : ℕ) (x : TimedEvent) (w : RunState) → AllTrue (after_event_in_order d token fuel x w) → AllTrue w
    one_before fuel x w e = settled_before fuel (clock_at w x.at) w (came_before (clock_at w x.at) x.parsed x.accepted (after_due_deadlines d token fuel (clock_at w x.at) w) e)

    pub after_before : (fuel : ℕ) (xs : List TimedEvent) (w : RunState) → AllTrue (after_events d token fuel xs w) → AllTrue w
    after_before fuel [] w e = e
    after_before fuel (x ∷ xs) w e = one_before fuel x w (after_before fuel xs (after_event_in_order d token fuel x w) e)
