-- The texts of a run are those that were loaded, overridden by those that were stored; and the last one counts.
use Rattle.std.proofs.Common.{◌≡◌, ℕ, zero, suc, List, [], ◌∷◌, ◌++◌, length, refl, sym, ap, ◌∙◌, Bool, true, false, Option, Some, None, Result, Ok, Err, inl, inr, subst}
use Rattle.std.specs.Prelude.{◌==◌, ◌≢◌, cond}
use Rattle.std.specs.Cmp.{nat_cmp_total, tied_itself}
use Rattle.std.specs.FinMap.{FinMap, empty, get, get-empty, get-insert, insert, nat_cmp-IsAntisymmetric}
use Rattle.std.specs.Ordering.{is_eq, nat_cmp}
use Rattle.std.specs.declared.cmp.Ordering.{Ordering}
use Rattle.std.specs.declared.cmp.Ordering.TheVariants.{Less, Equal, Greater}
use Rattle.std.specs.Option.{option_map, option_to_list}
use Rattle.std.proofs.lemmas.Bool.{cases_Bool, eqb-true, eqb-false}
use Rattle.mmtel_compose.specs.ReceivedMessages.{MessageView, status_of}
use Rattle.mmtel_directory.specs.declared.directories.Directory.{Directory}
use Rattle.mmtel_directory.specs.declared.directories.WebDirectory.{WebDirectory}
use Rattle.mmtel_charging.specs.declared.rows.Row.{Row}
use Rattle.mmtel_b2bua.specs.Operations.{Drops, Finishes, Receives, Releases, Restores, TableOp, step_on_finish, step_on_receive_after}
use Rattle.mmtel_b2bua.specs.Detaching.{released_leg_of}
use Rattle.mmtel_b2bua.specs.Queries.{party}
use Rattle.mmtel_b2bua.specs.declared.signals.Signal.{Signal}
use Rattle.mmtel_b2bua.specs.declared.signals.Signal.TheVariants as signal
use Rattle.mmtel_output.specs.ResponseMatching.{awaited_request_branch, behind_cookie, branch_in, timed_out_branch}
use Rattle.mmtel_output.specs.declared.outputs.StepOutput.{StepOutput}
use Rattle.mmtel_focus.specs.Operations as rooms
use Rattle.mmtel_focus.specs.Table.{access, is_table_full}
use Rattle.mmtel_focus.specs.declared.faults.RoomFault.{RoomFault}
use Rattle.mmtel_focus.specs.declared.referrals.Replaces.{Replaces}
use Rattle.mmtel_focus.specs.declared.signals.RoomSignal.{RoomSignal}
use Rattle.mmtel_focus.specs.declared.signals.RoomSignal.TheVariants as of_room
use Rattle.mmtel_leg.specs.declared.legs.Released.{Released}
use Rattle.mmtel_message.specs.Message.{Message}
use Rattle.mmtel_message.specs.Reads.{Read, read_result}
use Rattle.mmtel_message.specs.declared.messages.Start.{Start}
use Rattle.mmtel_message.specs.declared.reading.ReadFault.TheVariants as fault
use Rattle.mmtel_environment.specs.declared.events.Event.{Event}
use Rattle.mmtel_environment.specs.declared.events.Event.TheVariants as event
use Rattle.mmtel_sheet_texts.specs.Texts.{put, text_at}
use Rattle.mmtel_transaction.specs.Results.{after_firing, due_result, hear_result, is_merged, next_due}
use Rattle.mmtel_transaction.specs.Operations.{live}
use Rattle.mmtel_transaction.specs.declared.words.Due.{Due}
use Rattle.mmtel_transaction.specs.declared.words.Due.TheVariants as due
use Rattle.mmtel_transaction.specs.declared.words.Emit.{Emit}
use Rattle.mmtel_transaction.specs.declared.words.Emit.TheVariants as emit
use Rattle.mmtel_transaction.specs.declared.words.Heard as transaction
use Rattle.mmtel_transaction.specs.declared.words.Heard.TheVariants as heard
use Rattle.mmtel_transaction.specs.declared.words.TKey.{TKey}
use Rattle.mmtel_trust.specs.Peers.{peer_at}
use Rattle.mmtel_types.specs.Sides.{other_side}
use Rattle.mmtel_types.specs.declared.addrs.Addr.{Addr}
use Rattle.mmtel_types.specs.declared.numbers.Account.{Account}
use Rattle.mmtel_types.specs.declared.numbers.CallNo.{CallNo}
use Rattle.mmtel_types.specs.declared.numbers.Peer.{Peer}
use Rattle.mmtel_types.specs.declared.numbers.RoomNo.{RoomNo}
use Rattle.mmtel_types.specs.declared.sides.Side.{Side}
use Rattle.mmtel_web.specs.Handling.{KeeperOutcomeView}
use Rattle.mmtel_records_in_force.specs.Texts.{Registrations, Texts, put_each, put_stored, registration_end_at}
use Rattle.mmtel_sheet_grammar.specs.Texts.{stored_sheet}
use Rattle.mmtel_sheet_values.specs.View.{SheetsInForce, no_sheets, registration_end_in, sheet_in}
use Rattle.mmtel_sheet_values.specs.declared.values.Sheet.{Sheet}
use Rattle.mmtel_web.specs.Uploads.{counts_put_in, stored_upload, upload_in}
use Rattle.mmtel_run_definitions.specs.Calls.{are_full, arrival_signal, call_config, call_of_invite}
use Rattle.mmtel_run_definitions.specs.Deadlines.{Deadline, OfCall, OfParticipant, OfServiceTimer, OfSubscription, OfTransaction, ServiceTimer}
use Rattle.mmtel_run_definitions.specs.Events.{ParsedEvent, Nothing, Refused, Received, WebRequested, EventRecord, TimedEvent, parsed_datagram}
use Rattle.mmtel_run_definitions.specs.Events.{parsed_event, parsed_from, parsed_result, message_in, timed_event_of, timed_events, parsed_refusal}
use Rattle.mmtel_run_definitions.specs.InForce.{CallsSeeWhatIsInForce, LastIsInForce, TextsAreThoseKept, last_of, last_or, text_for, upload_at, uploads_of}
use Rattle.mmtel_run_definitions.specs.Records.{with_ends, with_records}
use Rattle.mmtel_run_definitions.specs.Refusals.{Disposition, Respond, Enter, EnterConference, OpenCall, OpenConference, JoinConference, Register, Subscribe, EnterSubscription, disposition}
use Rattle.mmtel_run_definitions.specs.Ownership.{DialogOwner, InCall, InSubscription, InConference, OfSubscriptions, OfCalls, OfConferences}
use Rattle.mmtel_run_definitions.specs.Ownership.{Owner, account_of_side, owner_of_key, owner_of_branch, is_of_peer, replacement_in, replaced_side}
use Rattle.mmtel_run_definitions.specs.Run.{after_deadline_if, after_due_deadlines, after_event_in_order, after_events, after_one_deadline, clock_at, first_due_deadline}
use Rattle.mmtel_run_definitions.proofs.MailboxFrames.{after_mailbox_upload_stays, after_subscribe_stays, answered_stays, due_stays, entering_stays}
use Rattle.mmtel_run_definitions.specs.Transitions.{RunState, subscriptions_in, after_web_reply, after_ack_by, after_adoption_if, adoption_op, after_service_timer, after_classified_message, initial_state}
use Rattle.mmtel_run_definitions.specs.Transitions.{with_next_step, with_call_output, calls_in, after_event, after_cancel, after_cancel_of, output_of_conference_op, with_draws, with_emit, with_emits}
use Rattle.mmtel_run_definitions.specs.Transitions.{after_transaction_end, after_participant_request, after_call_end, after_deadline, after_handover, conference_signal_op, received_now, with_received_action}
use Rattle.mmtel_run_definitions.specs.Transitions.{dialog_owner_in, after_conference_op, join_op, with_call_op, with_conference_output, after_parsed_event, next_tag, after_refer_notify, opening_op}
use Rattle.mmtel_run_definitions.specs.Transitions.{with_retransmission, after_replacing_named, after_replacing_side, after_replaces, after_response_to, after_join_if, after_opening_if, conferences_in}
use Rattle.mmtel_run_definitions.specs.Transitions.{after_due, after_conference_signal, after_call_signal, after_request_timeout, after_detach, after_disposition, tokens_now, after_message}

-- ---- the last one counts

abbrev pub PutsItsOwn : Type 0
PutsItsOwn = (a : Account) (text : List ℕ) (s : Texts) → text_at (put a text s) a ≡ Some text

abbrev pub PutsNoOther : Type 0
PutsNoOther = (a b : Account) (text : List ℕ) (s : Texts) → a.0 ≢ b.0 → text_at (put a text s) b ≡ text_at s b

last_or_next : (p q r : Option (List ℕ)) → last_or p (last_or q r) ≡ last_or (last_or p q) r
last_or_next (Some text) q r = refl
last_or_next None q r = refl

module _ (its : PutsItsOwn) (others : PutsNoOther) where
  -- an account is its number
  of_number : (x : Account × List ℕ) (t : Texts) (a : Account) → x.0.0 ≡ a.0 → text_at (put x.0 x.1 t) a ≡ Some x.1
  of_number x t a same = let P : ℕ → Type 0 = λ n. text_at (put x.0 x.1 t) (record { 0 = n }) ≡ Some x.1 in subst P same (its x.0 x.1 t)

  put_one : (x : Account × List ℕ) (t : Texts) (a : Account) → text_at (put x.0 x.1 t) a ≡ last_or (text_for a x) (text_at t a)
  put_one x t a = elim (cases_Bool (x.0.0 == a.0)) [
    | inl y ↦ rw y (of_number x t a (eqb-true x.0.0 a.0 y))
    | inr n ↦ rw n (others x.0 a x.1 t (eqb-false x.0.0 a.0 n))
  ]

  put_last : (xs t : Texts) (a : Account) → text_at (put_each xs t) a ≡ last_or (last_of xs a) (text_at t a)
  put_last [] t a = refl
  put_last (x ∷ xs) t a =
      put_last xs (put x.0 x.1 t) a
      ∙ (ap (last_or (last_of xs a)) (put_one x t a)
      ∙ last_or_next (last_of xs a) (text_for a x) (text_at t a))

  or_none : (p : Option (List ℕ)) → last_or p None ≡ p
  or_none (Some text) = refl
  or_none None = refl

  pub last_is_in_force : LastIsInForce
  last_is_in_force texts account = put_last texts [] account ∙ or_none (last_of texts account)

-- ---- the effect of each operation

emit_texts : (at : ℕ) (x : Emit) (w : RunState) → (with_emit at x w).texts ≡ w.texts
emit_texts at (emit.Ask peer message) w = refl
emit_texts at (emit.Reply key message) w = refl
emit_texts at (emit.Plain peer text) w = refl
emit_texts at (emit.Ack key message) w = refl
emit_texts at (emit.Settled key own) w = refl
emit_texts at (emit.Arm call what when) w = refl
emit_texts at (emit.ArmSeat room seat what when) w = refl

with_emits_texts : (at : ℕ) (xs : List Emit) (w : RunState) → (with_emits at xs w).texts ≡ w.texts
with_emits_texts at [] w = refl
with_emits_texts at (x ∷ xs) w = with_emits_texts at xs (with_emit at x w) ∙ emit_texts at x w

after_handover_texts : (took : Bool) (rows : List Row) (w : RunState) → (after_handover took rows w).texts ≡ w.texts
after_handover_texts took [] w = refl
after_handover_texts true (row ∷ rows) w = refl
after_handover_texts false (row ∷ rows) w = refl

with_call_output_texts : (at : ℕ) (op : TableOp) (output : StepOutput) (w : RunState) → (with_call_output at op output w).texts ≡ w.texts
with_call_output_texts at op output w = with_emits_texts at output.out (record w { call_ops = Drops (length output.rows) ∷ op ∷ w.call_ops; drawn = output.tokens.drawn; waiting = w.waiting ++ output.rows })

with_conference_output_texts : (at : ℕ) (op : rooms.TableOp) (output : StepOutput) (w : RunState) → (with_conference_output at op output w).texts ≡ w.texts
with_conference_output_texts at op output w = with_emits_texts at output.out (record w { conference_ops = rooms.Drops (length output.rows) ∷ op ∷ w.conference_ops; waiting = w.waiting ++ output.rows })

after_conference_op_texts : (d : Directory) (at : ℕ) (op : rooms.TableOp) (w : RunState) → (after_conference_op d at op w).texts ≡ w.texts
after_conference_op_texts d at op w = with_conference_output_texts at op (output_of_conference_op d op w) (record w { drawn = (output_of_conference_op d op w).tokens.drawn })

module _ (d : Directory) (token : List ℕ) where
  after_call_signal_texts : (at : ℕ) (x : Signal) (w : RunState) → (after_call_signal d token at x w).texts ≡ w.texts
  after_call_signal_texts at x w = with_call_output_texts at (Receives (received_now token at x w)) (step_on_receive_after (call_config d) w.call_ops (received_now token at x w)).output w

  after_call_end_texts : (at : ℕ) (call : CallNo) (w : RunState) → (after_call_end d token at call w).texts ≡ w.texts
  after_call_end_texts at call w = with_call_output_texts at (Finishes call.0 at (tokens_now token w)) (step_on_finish (call_config d) call.0 at (tokens_now token w) (calls_in d w)).output w

  after_conference_signal_texts : (at : ℕ) (x : RoomSignal) (w : RunState) → (after_conference_signal d token at x w).texts ≡ w.texts
  after_conference_signal_texts at x w = after_conference_op_texts d at (conference_signal_op token at x w) w

  after_refer_notify_texts : (at : ℕ) (room : RoomNo) (seat code : ℕ) (w : RunState) → (after_refer_notify d token at room seat code w).texts ≡ w.texts
  after_refer_notify_texts at room seat code w = after_conference_op_texts d at (rooms.Notifies room.0 seat code (tokens_now token w)) w

  after_request_timeout_texts : (at : ℕ) (branch method : List ℕ) (whose : Owner) (w : RunState) → (after_request_timeout d token at branch method whose w).texts ≡ w.texts
  after_request_timeout_texts at branch method OfCalls w = after_call_signal_texts at (signal.Silent branch method) w
  after_request_timeout_texts at branch method OfSubscriptions w = (answered_stays (behind_cookie branch) 408 w).texts
  after_request_timeout_texts at branch method OfConferences w = after_conference_signal_texts at (of_room.Silent branch method) w

  ended_texts : (at : ℕ) (key : TKey) (whose : Owner) (w : RunState) → (after_transaction_end d token at key whose w).texts ≡ w.texts
  ended_texts at key OfCalls w = after_call_signal_texts at (signal.Over key) w
  ended_texts at key OfSubscriptions w = refl
  ended_texts at key OfConferences w = after_conference_signal_texts at (of_room.Over key) w

  after_due_texts : (x : Due) (w : RunState) → (after_due d token x w).texts ≡ w.texts
  after_due_texts (due.Again peer at text) w = refl
  after_due_texts (due.Silent key branch method at) w = after_request_timeout_texts at branch method (owner_of_branch (timed_out_branch branch method) (behind_cookie branch) (calls_in d w).entries (subscriptions_in w)) w
  after_due_texts (due.Over key at) w = ended_texts at key (owner_of_key key (calls_in d w).entries) w
  after_due_texts due.Nothing w = refl

  after_service_timer_texts : (at : ℕ) (x : ServiceTimer) (w : RunState) → (after_service_timer d token at x w).texts ≡ w.texts
  after_service_timer_texts at (OfCall call what) w = after_call_signal_texts at (signal.Due call what) w
  after_service_timer_texts at (OfParticipant room seat what) w = after_conference_signal_texts at (of_room.Due room seat what) w
  after_service_timer_texts at (OfSubscription sub set) w = (due_stays d token at sub set w).texts

  after_deadline_texts : (now : ℕ) (x : Deadline) (w : RunState) → (after_deadline d token now x w).texts ≡ w.texts
  after_deadline_texts now OfTransaction w = after_due_texts (due_result (next_due now (live (with_next_step w).actions)))
      (record (with_next_step w) { actions = after_firing (with_next_step w).actions (next_due now (live (with_next_step w).actions)) })
  after_deadline_texts now (OfServiceTimer armed others) w = after_service_timer_texts armed.at armed.timer (record (with_next_step w) { pending_timers = others })

  if_fired_texts : (now : ℕ) (o : Option Deadline) (w : RunState) → (after_deadline_if d token now o w).texts ≡ w.texts
  if_fired_texts now None w = refl
  if_fired_texts now (Some x) w = after_deadline_texts now x w

  after_due_deadlines_texts : (fuel now : ℕ) (w : RunState) → (after_due_deadlines d token fuel now w).texts ≡ w.texts
  after_due_deadlines_texts zero now w = refl
  after_due_deadlines_texts (suc fuel) now w = after_due_deadlines_texts fuel now (after_one_deadline d token now w) ∙ if_fired_texts now (first_due_deadline now w) w

module _ (d : Directory) (token : List ℕ) (at : ℕ) (s : MessageView) where
  opened_texts : (key : TKey) (tag : List ℕ) (b : Bool) (w : RunState) → (after_opening_if d at key s tag b w).texts ≡ w.texts
  opened_texts key tag true w = refl
  opened_texts key tag false w = with_conference_output_texts at (opening_op d at key s tag) (output_of_conference_op d (opening_op d at key s tag) w) w

  joined_texts : (key : TKey) (room : RoomNo) (tag : List ℕ) (r : Result ℕ RoomFault) (w : RunState) → (after_join_if d token at key s room tag r w).texts ≡ w.texts
  joined_texts key room tag (Err fault) w = refl
  joined_texts key room tag (Ok place) w = after_conference_op_texts d at (join_op d at key s room tag (tokens_now token w)) w

  after_adoption_if_texts : (room : RoomNo) (seat : ℕ) (call : CallNo) (leg : Released) (account : Option Account) (r : Result ℕ RoomFault) (w : RunState) →
      (after_adoption_if d token at room seat call leg account r w).texts ≡ w.texts
  after_adoption_if_texts room seat call leg account (Ok place) w =
      after_call_end_texts d token at call (after_conference_op d at (adoption_op token at room seat leg account w) w) ∙ after_conference_op_texts d at (adoption_op token at room seat leg account w) w
  after_adoption_if_texts room seat call leg account (Err fault) w = after_refer_notify_texts d token at room seat 503 (with_call_op (Restores call.0 leg) w)

  taken_texts : (room : RoomNo) (seat : ℕ) (call : CallNo) (side : Side) (account : Option Account) (o : Option Released) (w : RunState) → (after_detach d token at room seat call side account o w).texts ≡ w.texts
  taken_texts room seat call side account None w = after_refer_notify_texts d token at room seat 491 w
  taken_texts room seat call side account (Some leg) w = after_adoption_if_texts room seat call leg account (access room.0 (conferences_in d w).live) (with_call_op (Releases call.0 side) w)

  with_texts : (room : RoomNo) (seat : ℕ) (call : CallNo) (side : Side) (b : Bool) (w : RunState) → (after_replacing_side d token at room seat call side b w).texts ≡ w.texts
  with_texts room seat call side false w = after_refer_notify_texts d token at room seat 481 w
  with_texts room seat call side true w =
      taken_texts room seat call (other_side side) (account_of_side call (other_side side) (calls_in d w).entries) (released_leg_of call.0 (other_side side) (calls_in d w).entries) w

  by_texts : (peer : Peer) (room : RoomNo) (seat : ℕ) (o : Option (CallNo × Side)) (w : RunState) → (after_replacing_named d token at peer room seat o w).texts ≡ w.texts
  by_texts peer room seat None w = after_refer_notify_texts d token at room seat 481 w
  by_texts peer room seat (Some named) w = with_texts room seat named.0 named.1 (is_of_peer peer (party named.0.0 named.1 (calls_in d w).entries)) w

  after_replaces_texts : (peer : Peer) (room : RoomNo) (seat : ℕ) (o : Option Replaces) (w : RunState) → (after_replaces d token at peer room seat o w).texts ≡ w.texts
  after_replaces_texts peer room seat None w = refl
  after_replaces_texts peer room seat (Some r) w =
      by_texts peer room seat (replaced_side r (calls_in d (after_refer_notify d token at room seat 100 w)).entries) (after_refer_notify d token at room seat 100 w) ∙ after_refer_notify_texts d token at room seat 100 w

  entering_texts : (key : TKey) (room : RoomNo) (seat : ℕ) (w : RunState) → (after_participant_request d token at key s room seat w).texts ≡ w.texts
  entering_texts key room seat w =
      after_replaces_texts s.peer room seat (replacement_in s.parsed (output_of_conference_op d (conference_signal_op token at (of_room.Request room seat key s) w) w).out)
      (after_conference_signal d token at (of_room.Request room seat key s) w)
      ∙ after_conference_signal_texts d token at (of_room.Request room seat key s) w

  after_disposition_texts : (key : TKey) (c : Disposition) (w : RunState) → (after_disposition d token at key s c w).texts ≡ w.texts
  after_disposition_texts key (Respond answer) w = refl
  after_disposition_texts key (Enter call side) w = after_call_signal_texts d token at (signal.Request call side key s) w
  after_disposition_texts key (EnterConference room seat) w = entering_texts key room seat w
  after_disposition_texts key OpenCall w = after_call_signal_texts d token at (arrival_signal d.names.accounts key s) w
  after_disposition_texts key OpenConference w = opened_texts key (next_tag token w) (is_table_full (conferences_in d w).live) (with_draws 1 w)
  after_disposition_texts key (JoinConference room) w = joined_texts key room (next_tag token w) (access room.0 (conferences_in d w).live) (with_draws 1 w)
  after_disposition_texts key (Register account seconds) w = refl
  after_disposition_texts key Subscribe w = (after_subscribe_stays d token at key s w).texts
  after_disposition_texts key (EnterSubscription sub) w = (entering_stays d token at key s sub w).texts

  with_retransmission_texts : (o : Option (Peer × List ℕ)) (w : RunState) → (with_retransmission at o w).texts ≡ w.texts
  with_retransmission_texts None w = refl
  with_retransmission_texts (Some sent) w = refl

  after_cancel_of_texts : (key invite : TKey) (o : Option (CallNo × Side)) (w : RunState) → (after_cancel_of d token at key s invite o w).texts ≡ w.texts
  after_cancel_of_texts key invite None w = refl
  after_cancel_of_texts key invite (Some asked) w = after_call_signal_texts d token at (signal.Cancel asked.0 key s invite) w

  after_cancel_texts : (key : TKey) (invite : Option TKey) (w : RunState) → (after_cancel d token at key s invite w).texts ≡ w.texts
  after_cancel_texts key None w = refl
  after_cancel_texts key (Some invite) w = after_cancel_of_texts key invite (call_of_invite invite (calls_in d w).entries) w

  acknowledging_texts : (o : Option DialogOwner) (w : RunState) → (after_ack_by d token at s o w).texts ≡ w.texts
  acknowledging_texts None w = refl
  acknowledging_texts (Some (InCall call side)) w = after_call_signal_texts d token at (signal.Ack call side s) w
  acknowledging_texts (Some (InConference room seat)) w = after_conference_signal_texts d token at (of_room.Ack room seat s) w
  acknowledging_texts (Some (InSubscription sub)) w = refl

  responding_texts : (key : TKey) (whose : Owner) (w : RunState) → (after_response_to d token at key s whose w).texts ≡ w.texts
  responding_texts key OfCalls w = after_call_signal_texts d token at (signal.Answer key s) w
  responding_texts key OfSubscriptions w = (answered_stays (branch_in s.parsed.vias) (status_of s.parsed.start) w).texts
  responding_texts key OfConferences w = after_conference_signal_texts d token at (of_room.Answer key s) w

  after_classified_message_texts : (o : Option transaction.Heard) (w : RunState) → (after_classified_message d token at s o w).texts ≡ w.texts
  after_classified_message_texts None w = refl
  after_classified_message_texts (Some (heard.Fresh key message)) w =
      after_disposition_texts key (disposition d (is_merged key.0 (live w.actions)) (are_full (calls_in d w).entries) (dialog_owner_in d s.parsed w) s.parsed) w
  after_classified_message_texts (Some (heard.Answer key message)) w = responding_texts key (owner_of_branch (awaited_request_branch s) (branch_in s.parsed.vias) (calls_in d w).entries (subscriptions_in w)) w
  after_classified_message_texts (Some (heard.Repeat sent)) w = with_retransmission_texts sent w
  after_classified_message_texts (Some (heard.Acked key)) w = refl
  after_classified_message_texts (Some (heard.Cancel key invite message)) w = after_cancel_texts key invite w
  after_classified_message_texts (Some (heard.AckOf2xx message)) w = acknowledging_texts (dialog_owner_in d s.parsed w) w
  after_classified_message_texts (Some heard.Stray) w = refl

  with_received_action_texts : (o : Option transaction.Heard) (w : RunState) → (with_received_action at s o w).texts ≡ w.texts
  with_received_action_texts None w = refl
  with_received_action_texts (Some taken) w = refl

  after_message_texts : (w : RunState) → (after_message d token at s w).texts ≡ w.texts
  after_message_texts w =
      let said = hear_result w.actions s.peer (message_in s.parsed) in
      after_classified_message_texts said (with_received_action at s said w) ∙ with_received_action_texts said w

-- what was stored, by a parsed event
abbrev kept_in : WebDirectory → ParsedEvent → Option (Account × List ℕ)
kept_in names Nothing = None
kept_in names (Refused peer source reply) = None
kept_in names (Received said) = None
kept_in names (WebRequested request kept rows) = stored_upload kept (upload_in names request)

module _ (d : Directory) (token : List ℕ) where
  after_parsed_event_texts : (at : ℕ) (x : ParsedEvent) (w : RunState) → (after_parsed_event d token at x w).texts ≡ put_stored (kept_in d.names x) w.texts
  after_parsed_event_texts at Nothing w = refl
  after_parsed_event_texts at (Refused peer source reply) w = refl
  after_parsed_event_texts at (Received said) w = after_message_texts d token at said w
  after_parsed_event_texts at (WebRequested request kept rows) w = (after_mailbox_upload_stays d token at (counts_put_in d.names request kept) (after_web_reply d at request kept rows w)).texts

  after_event_texts : (at : ℕ) (x : ParsedEvent) (took : Bool) (w : RunState) → (after_event d token at x took w).texts ≡ put_stored (kept_in d.names x) w.texts
  after_event_texts at x took w =
      let left : RunState = after_parsed_event d token at x (record (with_next_step w) { clock = at }) in
      after_handover_texts took left.waiting left ∙ after_parsed_event_texts at x (record (with_next_step w) { clock = at })

  more_texts : (fuel : ℕ) (x : TimedEvent) (w : RunState) → (after_event_in_order d token fuel x w).texts ≡ put_stored (kept_in d.names x.parsed) w.texts
  more_texts fuel x w =
      after_event_texts (clock_at w x.at) x.parsed x.accepted (after_due_deadlines d token fuel (clock_at w x.at) w)
      ∙ ap (put_stored (kept_in d.names x.parsed)) (after_due_deadlines_texts d token fuel (clock_at w x.at) w)

  -- nothing is stored for a datagram
  refused_keeps : (peer : Peer) (source : Addr) (o : Option (Message Start)) → kept_in d.names (parsed_refusal peer source o) ≡ None
  refused_keeps peer source None = refl
  refused_keeps peer source (Some reply) = refl

  read_keeps : (peer : Peer) (source : Addr) (r : Read) → kept_in d.names (parsed_result d.peers peer source r) ≡ None
  read_keeps peer source (Ok message) = refl
  read_keeps peer source (Err (fault.TooLarge reply)) = refused_keeps peer source reply
  read_keeps peer source (Err fault.NotSip) = refl
  read_keeps peer source (Err (fault.TooMany reply)) = refused_keeps peer source reply
  read_keeps peer source (Err (fault.Bad at reply)) = refused_keeps peer source reply
  read_keeps peer source (Err fault.NoMemory) = refl

  from_keeps : (from : Addr) (bytes : List ℕ) (o : Option Peer) → kept_in d.names (parsed_from d.peers from bytes o) ≡ None
  from_keeps from bytes None = refl
  from_keeps from bytes (Some peer) = read_keeps peer from (read_result bytes)

  datagram_keeps : (from : Addr) (bytes : List ℕ) → kept_in d.names (parsed_datagram d from bytes) ≡ None
  unfolding parsed_datagram
  datagram_keeps from bytes = from_keeps from bytes (peer_at from d.peers.known)

  -- for the record of an event
  event_keeps : (e : Event) (k : KeeperOutcomeView) (rows : List Row) → kept_in d.names (parsed_event d e k rows) ≡ upload_at d.names e k
  event_keeps (event.Datagram from at bytes) k rows = datagram_keeps from bytes
  event_keeps (event.Web at bytes) k rows = refl
  event_keeps (event.Quiet at) k rows = refl

  each_text : (o : Option (Account × List ℕ)) (xs t : Texts) → put_each (option_to_list o ++ xs) t ≡ put_each xs (put_stored o t)
  each_text None xs t = refl
  each_text (Some x) xs t = refl

  after_events_texts : (fuel : ℕ) (hs : List EventRecord) (w : RunState) → (after_events d token fuel (timed_events d hs) w).texts ≡ put_each (uploads_of d.names hs) w.texts
  after_events_texts fuel [] w = refl
  after_events_texts fuel (h ∷ hs) w =
      after_events_texts fuel hs _
      ∙ (ap (put_each (uploads_of d.names hs)) (more_texts fuel (timed_event_of d h) w)
      ∙ (ap (λ (o : Option (Account × List ℕ)). put_each (uploads_of d.names hs) (put_stored o w.texts)) (event_keeps h.event h.outcome h.rows)
      ∙ sym (each_text (upload_at d.names h.event h.outcome) (uploads_of d.names hs) w.texts)))

each_append : (xs ys t : Texts) → put_each (xs ++ ys) t ≡ put_each ys (put_each xs t)
each_append [] ys t = refl
each_append (x ∷ xs) ys t = each_append xs ys (put x.0 x.1 t)

pub texts_are_those_kept : TextsAreThoseKept
texts_are_those_kept d token loaded fuel recorded =
    after_events_texts d token fuel recorded (initial_state loaded) ∙ sym (each_append loaded (uploads_of d.names recorded) [])

-- ---- what calls get

-- in a map of numbers: what was put is found, and nothing else changes
put_found : {X : Type 0} (m : FinMap nat_cmp X) (a b : ℕ) (x : X) → a ≡ b → get (insert m a x) b ≡ Some x
put_found {X} m a b x same =
    let P : ℕ → Type 0 = λ n. get (insert m a x) n ≡ Some x in
    subst P same (get-insert nat_cmp_total m a x a ∙ ap (λ (r : Ordering). cond (is_eq r) (Some x) (get m a)) (tied_itself nat_cmp_total a))

put_apart : {X : Type 0} (m : FinMap nat_cmp X) (a b : ℕ) (x : X) → a ≢ b → get (insert m a x) b ≡ get m b
put_apart {X} m a b x apart =
    get-insert nat_cmp_total m a x b
    ∙ elim (nat_cmp b a) as (λ r. nat_cmp b a ≡ r → cond (is_eq r) (Some x) (get m b) ≡ get m b) [
      | Less ↦ λ e. refl
      | Equal ↦ λ e. absurd (apart (sym (nat_cmp-IsAntisymmetric b a e)))
      | Greater ↦ λ e. refl
    ] refl

sheets_stay : (rs : Registrations) (v : SheetsInForce) → (with_ends rs v).sheets ≡ v.sheets
sheets_stay [] v = refl
sheets_stay (r ∷ rs) v = sheets_stay rs v

none_ends : (ts : Texts) → (with_records ts no_sheets).registration_ends ≡ empty
none_ends [] = refl
none_ends (t ∷ ts) = none_ends ts

after_message_sheet : (ts : Texts) (a : Account) → sheet_in (with_records ts no_sheets) a.0 ≡ option_map stored_sheet (text_at ts a)
after_message_sheet [] a = get-empty nat_cmp a.0
after_message_sheet (t ∷ ts) a = elim (cases_Bool (t.0.0 == a.0)) [
  | inl y ↦ rw y (put_found (with_records ts no_sheets).sheets t.0.0 a.0 (stored_sheet t.1) (eqb-true t.0.0 a.0 y))
  | inr n ↦ rw n (put_apart (with_records ts no_sheets).sheets t.0.0 a.0 (stored_sheet t.1) (eqb-false t.0.0 a.0 n) ∙ after_message_sheet ts a)
]

after_message_end : (rs : Registrations) (v : SheetsInForce) (a : Account) → v.registration_ends ≡ empty → registration_end_in (with_ends rs v) a.0 ≡ registration_end_at rs a
after_message_end [] v a none = ap (λ (m : FinMap nat_cmp ℕ). get m a.0) none ∙ get-empty nat_cmp a.0
after_message_end (r ∷ rs) v a none = elim (cases_Bool (r.0.0 == a.0)) [
  | inl y ↦ rw y (put_found (with_ends rs v).registration_ends r.0.0 a.0 r.1 (eqb-true r.0.0 a.0 y))
  | inr n ↦ rw n (put_apart (with_ends rs v).registration_ends r.0.0 a.0 r.1 (eqb-false r.0.0 a.0 n) ∙ after_message_end rs v a none)
]

pub after_message_what_is_in_force : CallsSeeWhatIsInForce
after_message_what_is_in_force texts registrations account = record {
  sheet = ap (λ (m : FinMap nat_cmp Sheet). get m account.0) (sheets_stay registrations (with_records texts no_sheets)) ∙ after_message_sheet texts account;
  ends = after_message_end registrations (with_records texts no_sheets) account (none_ends texts);
}
