-- The CDRs of a run are those of its calls and of its conferences, in the order of its steps: each was accepted by the keeper, or waits.
use Rattle.std.proofs.Common.{◌≡◌, ℕ, zero, suc, List, [], ◌∷◌, ◌++◌, length, map, refl, sym, ap, ◌∙◌, Bool, true, false, Option, Some, None, Result, Ok, Err, append_assoc, append-nil, drop}
use Rattle.std.proofs.Math.Seq.{drop-append_seam}
use Rattle.std.specs.Prelude.{if◌then◌else◌}
use Rattle.mmtel_compose.specs.ReceivedMessages.{MessageView, status_of}
use Rattle.mmtel_b2bua.specs.Operations.{Drops, Finishes, Receives, Releases, Restores, TableOp, step_on_finish, step_on_receive_after}
use Rattle.mmtel_b2bua.specs.Detaching.{released_leg_of}
use Rattle.mmtel_b2bua.specs.Queries.{party}
use Rattle.mmtel_b2bua.specs.declared.signals.Signal.{Signal}
use Rattle.mmtel_b2bua.specs.declared.signals.Signal.TheVariants as signal
use Rattle.mmtel_output.specs.ResponseMatching.{awaited_request_branch, behind_cookie, branch_in, timed_out_branch}
use Rattle.mmtel_charging.specs.declared.rows.Row.{Row}
use Rattle.mmtel_output.specs.declared.outputs.StepOutput.{StepOutput}
use Rattle.mmtel_directory.specs.declared.directories.Directory.{Directory}
use Rattle.mmtel_focus.specs.Operations as rooms
use Rattle.mmtel_focus.specs.Table.{access, is_table_full}
use Rattle.mmtel_focus.specs.declared.faults.RoomFault.{RoomFault}
use Rattle.mmtel_focus.specs.declared.referrals.Replaces.{Replaces}
use Rattle.mmtel_focus.specs.declared.signals.RoomSignal.{RoomSignal}
use Rattle.mmtel_focus.specs.declared.signals.RoomSignal.TheVariants as of_room
use Rattle.mmtel_leg.specs.declared.legs.Released.{Released}
use Rattle.mmtel_transaction.specs.Results.{after_firing, due_result, hear_result, is_merged, next_due}
use Rattle.mmtel_transaction.specs.Operations.{live}
use Rattle.mmtel_transaction.specs.declared.words.Due.{Due}
use Rattle.mmtel_transaction.specs.declared.words.Due.TheVariants as due
use Rattle.mmtel_transaction.specs.declared.words.Emit.{Emit}
use Rattle.mmtel_transaction.specs.declared.words.Emit.TheVariants as emit
use Rattle.mmtel_transaction.specs.declared.words.Heard as transaction
use Rattle.mmtel_transaction.specs.declared.words.Heard.TheVariants as heard
use Rattle.mmtel_transaction.specs.declared.words.TKey.{TKey}
use Rattle.mmtel_types.specs.Sides.{other_side}
use Rattle.mmtel_types.specs.declared.numbers.Account.{Account}
use Rattle.mmtel_types.specs.declared.numbers.CallNo.{CallNo}
use Rattle.mmtel_types.specs.declared.numbers.Peer.{Peer}
use Rattle.mmtel_types.specs.declared.numbers.RoomNo.{RoomNo}
use Rattle.mmtel_types.specs.declared.sides.Side.{Side}
use Rattle.mmtel_run_definitions.specs.Calls.{are_full, arrival_signal, call_config, call_of_invite}
use Rattle.mmtel_run_definitions.specs.Deadlines.{Deadline, OfCall, OfParticipant, OfServiceTimer, OfSubscription, OfTransaction, ServiceTimer}
use Rattle.mmtel_run_definitions.specs.Events.{ParsedEvent, Nothing, Refused, Received, WebRequested, TimedEvent, message_in, timed_events}
use Rattle.mmtel_run_definitions.specs.ChargingRows.{AreFiled, ClosedRow, NoneWaits, RowsAreFiled, RowsAreInOrder, rows_closed, rows_in, rows_of_calls}
use Rattle.mmtel_run_definitions.specs.ChargingRows.{rows_of_conferences, rows_of_departed, rows_of_step, rows_of_steps, states_of_deadlines, states_of_steps}
use Rattle.mmtel_run_definitions.specs.Refusals.{Disposition, Respond, Enter, EnterConference, OpenCall, OpenConference, JoinConference, Register, Subscribe, EnterSubscription, disposition}
use Rattle.mmtel_run_definitions.specs.Ownership.{DialogOwner, InCall, InSubscription, InConference, OfSubscriptions, OfCalls, OfConferences, Owner}
use Rattle.mmtel_run_definitions.specs.Ownership.{account_of_side, owner_of_key, owner_of_branch, is_of_peer, replacement_in, conference_config, replaced_side}
use Rattle.mmtel_run_definitions.specs.Run.{after_deadline_if, after_due_deadlines, after_event_in_order, after_events, after_one_deadline, clock_at, first_due_deadline}
use Rattle.mmtel_web.specs.Uploads.{counts_put_in}
use Rattle.mmtel_run_definitions.proofs.MailboxFrames.{Stays, after_mailbox_upload_stays, after_subscribe_stays, answered_stays, due_stays, entering_stays}
use Rattle.mmtel_run_definitions.specs.Transitions.{RunState, subscriptions_in, after_web_reply, after_ack_by, after_adoption_if, adoption_op, after_service_timer, after_classified_message, initial_state}
use Rattle.mmtel_run_definitions.specs.Transitions.{with_next_step, with_call_output, calls_in, after_event, after_cancel, after_cancel_of, output_of_conference_op, with_draws, with_emit, with_emits}
use Rattle.mmtel_run_definitions.specs.Transitions.{after_transaction_end, after_participant_request, after_call_end, after_deadline, after_handover, conference_signal_op, received_now, with_received_action}
use Rattle.mmtel_run_definitions.specs.Transitions.{dialog_owner_in, after_conference_op, join_op, with_call_op, with_conference_output, after_parsed_event, next_tag, after_refer_notify, opening_op}
use Rattle.mmtel_run_definitions.specs.Transitions.{with_retransmission, after_replacing_named, after_replacing_side, after_replaces, after_response_to, after_join_if, after_opening_if, conferences_in}
use Rattle.mmtel_run_definitions.specs.Transitions.{after_due, after_conference_signal, after_call_signal, after_request_timeout, after_detach, after_disposition, tokens_now, after_message}

-- ---- CDRs that are one list after another

abbrev marked : Bool → List Row → List ClosedRow
marked b rows = map (λ row. record { of_calls = b; row = row }) rows

rows_marked : (b : Bool) (rows : List Row) → rows_in (marked b rows) ≡ rows
rows_marked b [] = refl
rows_marked b (row ∷ rows) = ap (λ (xs : List Row). row ∷ xs) (rows_marked b rows)

rows_behind : (xs ys : List ClosedRow) → rows_in (xs ++ ys) ≡ rows_in xs ++ rows_in ys
rows_behind [] ys = refl
rows_behind (x ∷ xs) ys = ap (λ (rows : List Row). x.row ∷ rows) (rows_behind xs ys)

calls_one : (b : Bool) (row : Row) (xs ys : List Row) → (if b then row ∷ (xs ++ ys) else xs ++ ys) ≡ (if b then row ∷ xs else xs) ++ ys
calls_one true row xs ys = refl
calls_one false row xs ys = refl

rooms_one : (b : Bool) (row : Row) (xs ys : List Row) → (if b then xs ++ ys else row ∷ (xs ++ ys)) ≡ (if b then xs else row ∷ xs) ++ ys
rooms_one true row xs ys = refl
rooms_one false row xs ys = refl

calls_behind : (xs ys : List ClosedRow) → rows_of_calls (xs ++ ys) ≡ rows_of_calls xs ++ rows_of_calls ys
calls_behind [] ys = refl
calls_behind (x ∷ xs) ys = ap (λ (rows : List Row). if x.of_calls then x.row ∷ rows else rows) (calls_behind xs ys) ∙ calls_one x.of_calls x.row (rows_of_calls xs) (rows_of_calls ys)

rooms_behind : (xs ys : List ClosedRow) → rows_of_conferences (xs ++ ys) ≡ rows_of_conferences xs ++ rows_of_conferences ys
rooms_behind [] ys = refl
rooms_behind (x ∷ xs) ys = ap (λ (rows : List Row). if x.of_calls then rows else x.row ∷ rows) (rooms_behind xs ys) ∙ rooms_one x.of_calls x.row (rows_of_conferences xs) (rows_of_conferences ys)

calls_of_calls : (rows : List Row) → rows_of_calls (marked true rows) ≡ rows
calls_of_calls [] = refl
calls_of_calls (row ∷ rows) = ap (λ (xs : List Row). row ∷ xs) (calls_of_calls rows)

calls_of_rooms : (rows : List Row) → rows_of_calls (marked false rows) ≡ []
calls_of_rooms [] = refl
calls_of_rooms (row ∷ rows) = calls_of_rooms rows

rooms_of_rooms : (rows : List Row) → rows_of_conferences (marked false rows) ≡ rows
rooms_of_rooms [] = refl
rooms_of_rooms (row ∷ rows) = ap (λ (xs : List Row). row ∷ xs) (rooms_of_rooms rows)

rooms_of_calls : (rows : List Row) → rows_of_conferences (marked true rows) ≡ []
rooms_of_calls [] = refl
rooms_of_calls (row ∷ rows) = rooms_of_calls rows

-- ---- what a step adds, from one state on: CDRs of participants, and then CDRs of calls

pub record Adds (d : Directory) (o w : RunState) : Type 0 where
  pub participants : List Row
  pub calls : List Row
  pub departed : rows_of_departed (conference_config d) w.conference_ops ≡ rows_of_departed (conference_config d) o.conference_ops ++ participants
  pub closed : rows_closed (call_config d) w.call_ops ≡ rows_closed (call_config d) o.call_ops ++ calls
  pub all : w.filed ++ w.waiting ≡ (o.filed ++ o.waiting) ++ (participants ++ calls)

-- as long as no call has ended in it
record AddsParticipants (d : Directory) (o w : RunState) : Type 0 where
  pub participants : List Row
  pub departed : rows_of_departed (conference_config d) w.conference_ops ≡ rows_of_departed (conference_config d) o.conference_ops ++ participants
  pub closed : rows_closed (call_config d) w.call_ops ≡ rows_closed (call_config d) o.call_ops
  pub all : w.filed ++ w.waiting ≡ (o.filed ++ o.waiting) ++ participants

no_calls : (d : Directory) (o w : RunState) → AddsParticipants d o w → Adds d o w
no_calls d o w e = record {
  participants = e.participants;
  calls = [];
  departed = e.departed;
  closed = e.closed ∙ sym (append-nil (rows_closed (call_config d) o.call_ops));
  all = e.all ∙ ap (λ (rows : List Row). (o.filed ++ o.waiting) ++ rows) (sym (append-nil e.participants));
}

-- no operation was done yet
begins : (d : Directory) (o : RunState) → AddsParticipants d o o
begins d o = record { participants = []; departed = sym (append-nil (rows_of_departed (conference_config d) o.conference_ops)); closed = refl; all = sym (append-nil (o.filed ++ o.waiting)) }

-- ---- commands, and operations on calls and conferences

-- two states with the same CDRs, and the same operations
record IsSame (v w : RunState) : Type 0 where
  pub rows : v.filed ++ v.waiting ≡ w.filed ++ w.waiting
  pub call_ops : v.call_ops ≡ w.call_ops
  pub conference_ops : v.conference_ops ≡ w.conference_ops

same_adds : (d : Directory) (o v w : RunState) → IsSame v w → Adds d o w → Adds d o v
same_adds d o v w same e = record {
  participants = e.participants;
  calls = e.calls;
  departed = ap (rows_of_departed (conference_config d)) same.conference_ops ∙ e.departed;
  closed = ap (rows_closed (call_config d)) same.call_ops ∙ e.closed;
  all = same.rows ∙ e.all;
}

same_seats : (d : Directory) (o v w : RunState) → IsSame v w → AddsParticipants d o w → AddsParticipants d o v
same_seats d o v w same e = record {
  participants = e.participants;
  departed = ap (rows_of_departed (conference_config d)) same.conference_ops ∙ e.departed;
  closed = ap (rows_closed (call_config d)) same.call_ops ∙ e.closed;
  all = same.rows ∙ e.all;
}

-- a command does not change CDRs
emit_same : (at : ℕ) (x : Emit) (w : RunState) → IsSame (with_emit at x w) w
emit_same at (emit.Ask peer message) w = record { rows = refl; call_ops = refl; conference_ops = refl }
emit_same at (emit.Reply key message) w = record { rows = refl; call_ops = refl; conference_ops = refl }
emit_same at (emit.Plain peer text) w = record { rows = refl; call_ops = refl; conference_ops = refl }
emit_same at (emit.Ack key message) w = record { rows = refl; call_ops = refl; conference_ops = refl }
emit_same at (emit.Settled key own) w = record { rows = refl; call_ops = refl; conference_ops = refl }
emit_same at (emit.Arm call what when) w = record { rows = refl; call_ops = refl; conference_ops = refl }
emit_same at (emit.ArmSeat room seat what when) w = record { rows = refl; call_ops = refl; conference_ops = refl }

with_emits_same : (at : ℕ) (xs : List Emit) (w : RunState) → IsSame (with_emits at xs w) w
with_emits_same at [] w = record { rows = refl; call_ops = refl; conference_ops = refl }
with_emits_same at (x ∷ xs) w =
    let later = with_emits_same at xs (with_emit at x w) in
    let first = emit_same at x w in
    record { rows = later.rows ∙ first.rows; call_ops = later.call_ops ∙ first.call_ops; conference_ops = later.conference_ops ∙ first.conference_ops }

-- ---- elementary operations

module _ (d : Directory) (o : RunState) where
  -- an operation on the calls that closes these CDRs
  with_call_output_adds : (at : ℕ) (op : TableOp) (output : StepOutput) (w : RunState) → rows_closed (call_config d) (op ∷ w.call_ops) ≡ rows_closed (call_config d) w.call_ops ++ output.rows →
      AddsParticipants d o w → Adds d o (with_call_output at op output w)
  with_call_output_adds at op output w closes e =
      let done : RunState = record w { call_ops = Drops (length output.rows) ∷ op ∷ w.call_ops; drawn = output.tokens.drawn; waiting = w.waiting ++ output.rows } in
      same_adds d o (with_call_output at op output w) done (with_emits_same at output.out done) (record {
        participants = e.participants;
        calls = output.rows;
        departed = e.departed;
        closed = append-nil (rows_closed (call_config d) (op ∷ w.call_ops)) ∙ (closes ∙ ap (λ (rows : List Row). rows ++ output.rows) e.closed);
        all =
            sym (append_assoc w.filed w.waiting output.rows)
            ∙ (ap (λ (rows : List Row). rows ++ output.rows) e.all
            ∙ append_assoc (o.filed ++ o.waiting) e.participants output.rows);
      })

  -- one on the conferences
  with_conference_output_adds : (at : ℕ) (op : rooms.TableOp) (output : StepOutput) (w : RunState) → (rooms.effects_after (conference_config d) w.conference_ops op).output.rows ≡ output.rows →
      AddsParticipants d o w → AddsParticipants d o (with_conference_output at op output w)
  with_conference_output_adds at op output w closes e =
      let done : RunState = record w { conference_ops = rooms.Drops (length output.rows) ∷ op ∷ w.conference_ops; waiting = w.waiting ++ output.rows } in
      same_seats d o (with_conference_output at op output w) done (with_emits_same at output.out done) (record {
        participants = e.participants ++ output.rows;
        departed =
            append-nil (rows_of_departed (conference_config d) (op ∷ w.conference_ops))
            ∙ (ap (λ (rows : List Row). rows_of_departed (conference_config d) w.conference_ops ++ rows) closes
            ∙ (ap (λ (rows : List Row). rows ++ output.rows) e.departed
            ∙ append_assoc (rows_of_departed (conference_config d) o.conference_ops) e.participants output.rows));
        closed = e.closed;
        all =
            sym (append_assoc w.filed w.waiting output.rows)
            ∙ (ap (λ (rows : List Row). rows ++ output.rows) e.all
            ∙ append_assoc (o.filed ++ o.waiting) e.participants output.rows);
      })

  after_conference_op_adds : (at : ℕ) (op : rooms.TableOp) (w : RunState) → AddsParticipants d o w → AddsParticipants d o (after_conference_op d at op w)
  after_conference_op_adds at op w e =
      let v : RunState = record w { drawn = (output_of_conference_op d op w).tokens.drawn } in
      with_conference_output_adds at op (output_of_conference_op d op w) v refl (same_seats d o v w (record { rows = refl; call_ops = refl; conference_ops = refl }) e)

  with_call_op_nothing : (op : TableOp) (w : RunState) → rows_closed (call_config d) (op ∷ w.call_ops) ≡ rows_closed (call_config d) w.call_ops → AddsParticipants d o w → AddsParticipants d o (with_call_op op w)
  with_call_op_nothing op w none e = record { participants = e.participants; departed = e.departed; closed = none ∙ e.closed; all = e.all }

module _ (d : Directory) (token : List ℕ) (start : RunState) where
  -- a state with the same CDRs, and the same operations
  unmoved : (v w : RunState) → v.filed ++ v.waiting ≡ w.filed ++ w.waiting → v.call_ops ≡ w.call_ops → v.conference_ops ≡ w.conference_ops → AddsParticipants d start w → AddsParticipants d start v
  unmoved v w rows ops rooms e = same_seats d start v w (record { rows = rows; call_ops = ops; conference_ops = rooms }) e

  alone : (w : RunState) → AddsParticipants d start w → Adds d start w
  alone w e = no_calls d start w e

  -- nor where message waiting did something
  beside : (v w : RunState) → Stays v w → AddsParticipants d start w → Adds d start v
  beside v w stays e = alone v (unmoved v w (λ i. stays.filed i ++ stays.waiting i) stays.call_ops stays.conference_ops e)

  after_call_signal_adds : (at : ℕ) (x : Signal) (w : RunState) → AddsParticipants d start w → Adds d start (after_call_signal d token at x w)
  after_call_signal_adds at x w e = with_call_output_adds d start at (Receives (received_now token at x w)) (step_on_receive_after (call_config d) w.call_ops (received_now token at x w)).output w refl e

  after_call_end_adds : (at : ℕ) (call : CallNo) (w : RunState) → AddsParticipants d start w → Adds d start (after_call_end d token at call w)
  after_call_end_adds at call w e =
      with_call_output_adds d start at (Finishes call.0 at (tokens_now token w)) (step_on_finish (call_config d) call.0 at (tokens_now token w) (calls_in d w)).output w refl e

  after_conference_signal_adds : (at : ℕ) (x : RoomSignal) (w : RunState) → AddsParticipants d start w → AddsParticipants d start (after_conference_signal d token at x w)
  after_conference_signal_adds at x w e = after_conference_op_adds d start at (conference_signal_op token at x w) w e

  after_refer_notify_adds : (at : ℕ) (room : RoomNo) (seat code : ℕ) (w : RunState) → AddsParticipants d start w → AddsParticipants d start (after_refer_notify d token at room seat code w)
  after_refer_notify_adds at room seat code w e = after_conference_op_adds d start at (rooms.Notifies room.0 seat code (tokens_now token w)) w e

  releases_adds : (number : ℕ) (side : Side) (w : RunState) → AddsParticipants d start w → AddsParticipants d start (with_call_op (Releases number side) w)
  releases_adds number side w e = with_call_op_nothing d start (Releases number side) w (append-nil (rows_closed (call_config d) w.call_ops)) e

  restores_adds : (number : ℕ) (away : Released) (w : RunState) → AddsParticipants d start w → AddsParticipants d start (with_call_op (Restores number away) w)
  restores_adds number away w e = with_call_op_nothing d start (Restores number away) w (append-nil (rows_closed (call_config d) w.call_ops)) e

  -- ---- timers

  after_request_timeout_adds : (at : ℕ) (branch method : List ℕ) (whose : Owner) (w : RunState) → AddsParticipants d start w → Adds d start (after_request_timeout d token at branch method whose w)
  after_request_timeout_adds at branch method OfCalls w e = after_call_signal_adds at (signal.Silent branch method) w e
  after_request_timeout_adds at branch method OfSubscriptions w e = beside _ w (answered_stays (behind_cookie branch) 408 w) e
  after_request_timeout_adds at branch method OfConferences w e = alone _ (after_conference_signal_adds at (of_room.Silent branch method) w e)

  ended_adds : (at : ℕ) (key : TKey) (whose : Owner) (w : RunState) → AddsParticipants d start w → Adds d start (after_transaction_end d token at key whose w)
  ended_adds at key OfCalls w e = after_call_signal_adds at (signal.Over key) w e
  ended_adds at key OfSubscriptions w e = alone w e
  ended_adds at key OfConferences w e = alone _ (after_conference_signal_adds at (of_room.Over key) w e)

  after_due_adds : (x : Due) (w : RunState) → AddsParticipants d start w → Adds d start (after_due d token x w)
  after_due_adds (due.Again peer at text) w e = alone _ (unmoved _ w refl refl refl e)
  after_due_adds (due.Silent key branch method at) w e =
      after_request_timeout_adds at branch method (owner_of_branch (timed_out_branch branch method) (behind_cookie branch) (calls_in d w).entries (subscriptions_in w)) w e
  after_due_adds (due.Over key at) w e = ended_adds at key (owner_of_key key (calls_in d w).entries) w e
  after_due_adds due.Nothing w e = alone w e

  after_service_timer_adds : (at : ℕ) (x : ServiceTimer) (w : RunState) → AddsParticipants d start w → Adds d start (after_service_timer d token at x w)
  after_service_timer_adds at (OfCall call what) w e = after_call_signal_adds at (signal.Due call what) w e
  after_service_timer_adds at (OfParticipant room seat what) w e = alone _ (after_conference_signal_adds at (of_room.Due room seat what) w e)
  after_service_timer_adds at (OfSubscription sub set) w e = beside _ w (due_stays d token at sub set w) e

  after_deadline_adds : (now : ℕ) (x : Deadline) (w : RunState) → AddsParticipants d start w → Adds d start (after_deadline d token now x w)
  after_deadline_adds now OfTransaction w e =
      let v : RunState = record (with_next_step w) { actions = after_firing (with_next_step w).actions (next_due now (live (with_next_step w).actions)) } in
      after_due_adds (due_result (next_due now (live (with_next_step w).actions))) v (unmoved v w refl refl refl e)
  after_deadline_adds now (OfServiceTimer armed others) w e =
      let v : RunState = record (with_next_step w) { pending_timers = others } in
      after_service_timer_adds armed.at armed.timer v (unmoved v w refl refl refl e)

  if_fired_adds : (now : ℕ) (o : Option Deadline) (w : RunState) → AddsParticipants d start w → Adds d start (after_deadline_if d token now o w)
  if_fired_adds now None w e = alone w e
  if_fired_adds now (Some x) w e = after_deadline_adds now x w e

  fire_adds : (now : ℕ) → Adds d start (after_one_deadline d token now start)
  fire_adds now = if_fired_adds now (first_due_deadline now start) start (begins d start)

  -- ---- messages

  module _ (at : ℕ) (s : MessageView) where
    opened_adds : (key : TKey) (tag : List ℕ) (b : Bool) (w : RunState) → AddsParticipants d start w → Adds d start (after_opening_if d at key s tag b w)
    opened_adds key tag true w e = alone _ (unmoved _ w refl refl refl e)
    opened_adds key tag false w e = alone _ (with_conference_output_adds d start at (opening_op d at key s tag) (output_of_conference_op d (opening_op d at key s tag) w) w refl e)

    joined_adds : (key : TKey) (room : RoomNo) (tag : List ℕ) (r : Result ℕ RoomFault) (w : RunState) → AddsParticipants d start w → Adds d start (after_join_if d token at key s room tag r w)
    joined_adds key room tag (Err fault) w e = alone _ (unmoved _ w refl refl refl e)
    joined_adds key room tag (Ok place) w e = alone _ (after_conference_op_adds d start at (join_op d at key s room tag (tokens_now token w)) w e)

    adopting_adds : (room : RoomNo) (seat : ℕ) (call : CallNo) (leg : Released) (account : Option Account) (r : Result ℕ RoomFault) (w : RunState) →
        AddsParticipants d start w → Adds d start (after_adoption_if d token at room seat call leg account r w)
    adopting_adds room seat call leg account (Ok place) w e =
        let adopted : RunState = after_conference_op d at (adoption_op token at room seat leg account w) w in
        after_call_end_adds at call adopted (after_conference_op_adds d start at (adoption_op token at room seat leg account w) w e)
    adopting_adds room seat call leg account (Err fault) w e = alone _ (after_refer_notify_adds at room seat 503 (with_call_op (Restores call.0 leg) w) (restores_adds call.0 leg w e))

    taken_adds : (room : RoomNo) (seat : ℕ) (call : CallNo) (side : Side) (account : Option Account) (o : Option Released) (w : RunState) →
        AddsParticipants d start w → Adds d start (after_detach d token at room seat call side account o w)
    taken_adds room seat call side account None w e = alone _ (after_refer_notify_adds at room seat 491 w e)
    taken_adds room seat call side account (Some leg) w e =
        adopting_adds room seat call leg account (access room.0 (conferences_in d w).live) (with_call_op (Releases call.0 side) w) (releases_adds call.0 side w e)

    with_adds : (room : RoomNo) (seat : ℕ) (call : CallNo) (side : Side) (b : Bool) (w : RunState) → AddsParticipants d start w → Adds d start (after_replacing_side d token at room seat call side b w)
    with_adds room seat call side false w e = alone _ (after_refer_notify_adds at room seat 481 w e)
    with_adds room seat call side true w e =
        taken_adds room seat call (other_side side) (account_of_side call (other_side side) (calls_in d w).entries) (released_leg_of call.0 (other_side side) (calls_in d w).entries) w e

    by_adds : (peer : Peer) (room : RoomNo) (seat : ℕ) (o : Option (CallNo × Side)) (w : RunState) → AddsParticipants d start w → Adds d start (after_replacing_named d token at peer room seat o w)
    by_adds peer room seat None w e = alone _ (after_refer_notify_adds at room seat 481 w e)
    by_adds peer room seat (Some named) w e = with_adds room seat named.0 named.1 (is_of_peer peer (party named.0.0 named.1 (calls_in d w).entries)) w e

    replacing_adds : (peer : Peer) (room : RoomNo) (seat : ℕ) (o : Option Replaces) (w : RunState) → AddsParticipants d start w → Adds d start (after_replaces d token at peer room seat o w)
    replacing_adds peer room seat None w e = alone w e
    replacing_adds peer room seat (Some r) w e =
        let v : RunState = after_refer_notify d token at room seat 100 w in
        by_adds peer room seat (replaced_side r (calls_in d v).entries) v (after_refer_notify_adds at room seat 100 w e)

    entering_adds : (key : TKey) (room : RoomNo) (seat : ℕ) (w : RunState) → AddsParticipants d start w → Adds d start (after_participant_request d token at key s room seat w)
    entering_adds key room seat w e =
        replacing_adds s.peer room seat (replacement_in s.parsed (output_of_conference_op d (conference_signal_op token at (of_room.Request room seat key s) w) w).out)
        (after_conference_signal d token at (of_room.Request room seat key s) w) (after_conference_signal_adds at (of_room.Request room seat key s) w e)

    taking_adds : (key : TKey) (c : Disposition) (w : RunState) → AddsParticipants d start w → Adds d start (after_disposition d token at key s c w)
    taking_adds key (Respond answer) w e = alone _ (unmoved _ w refl refl refl e)
    taking_adds key (Enter call side) w e = after_call_signal_adds at (signal.Request call side key s) w e
    taking_adds key (EnterConference room seat) w e = entering_adds key room seat w e
    taking_adds key OpenCall w e = after_call_signal_adds at (arrival_signal d.names.accounts key s) w e
    taking_adds key OpenConference w e = opened_adds key (next_tag token w) (is_table_full (conferences_in d w).live) (with_draws 1 w) (unmoved _ w refl refl refl e)
    taking_adds key (JoinConference room) w e = joined_adds key room (next_tag token w) (access room.0 (conferences_in d w).live) (with_draws 1 w) (unmoved _ w refl refl refl e)
    taking_adds key (Register account seconds) w e = alone _ (unmoved _ w refl refl refl e)
    taking_adds key Subscribe w e = beside _ w (after_subscribe_stays d token at key s w) e
    taking_adds key (EnterSubscription sub) w e = beside _ w (entering_stays d token at key s sub w) e

    repeating_adds : (o : Option (Peer × List ℕ)) (w : RunState) → AddsParticipants d start w → Adds d start (with_retransmission at o w)
    repeating_adds None w e = alone w e
    repeating_adds (Some sent) w e = alone _ (unmoved _ w refl refl refl e)

    cancelling_call_adds : (key invite : TKey) (o : Option (CallNo × Side)) (w : RunState) → AddsParticipants d start w → Adds d start (after_cancel_of d token at key s invite o w)
    cancelling_call_adds key invite None w e = alone _ (unmoved _ w refl refl refl e)
    cancelling_call_adds key invite (Some asked) w e = after_call_signal_adds at (signal.Cancel asked.0 key s invite) w e

    cancelling_adds : (key : TKey) (invite : Option TKey) (w : RunState) → AddsParticipants d start w → Adds d start (after_cancel d token at key s invite w)
    cancelling_adds key None w e = alone _ (unmoved _ w refl refl refl e)
    cancelling_adds key (Some invite) w e = cancelling_call_adds key invite (call_of_invite invite (calls_in d w).entries) w e

    acknowledging_adds : (o : Option DialogOwner) (w : RunState) → AddsParticipants d start w → Adds d start (after_ack_by d token at s o w)
    acknowledging_adds None w e = alone w e
    acknowledging_adds (Some (InCall call side)) w e = after_call_signal_adds at (signal.Ack call side s) w e
    acknowledging_adds (Some (InConference room seat)) w e = alone _ (after_conference_signal_adds at (of_room.Ack room seat s) w e)
    acknowledging_adds (Some (InSubscription sub)) w e = alone w e

    responding_adds : (key : TKey) (whose : Owner) (w : RunState) → AddsParticipants d start w → Adds d start (after_response_to d token at key s whose w)
    responding_adds key OfCalls w e = after_call_signal_adds at (signal.Answer key s) w e
    responding_adds key OfSubscriptions w e = beside _ w (answered_stays (branch_in s.parsed.vias) (status_of s.parsed.start) w) e
    responding_adds key OfConferences w e = alone _ (after_conference_signal_adds at (of_room.Answer key s) w e)

    answering_adds : (o : Option transaction.Heard) (w : RunState) → AddsParticipants d start w → Adds d start (after_classified_message d token at s o w)
    answering_adds None w e = alone _ (unmoved _ w refl refl refl e)
    answering_adds (Some (heard.Fresh key message)) w e =
        taking_adds key (disposition d (is_merged key.0 (live w.actions)) (are_full (calls_in d w).entries) (dialog_owner_in d s.parsed w) s.parsed) w e
    answering_adds (Some (heard.Answer key message)) w e = responding_adds key (owner_of_branch (awaited_request_branch s) (branch_in s.parsed.vias) (calls_in d w).entries (subscriptions_in w)) w e
    answering_adds (Some (heard.Repeat sent)) w e = repeating_adds sent w e
    answering_adds (Some (heard.Acked key)) w e = alone w e
    answering_adds (Some (heard.Cancel key invite message)) w e = cancelling_adds key invite w e
    answering_adds (Some (heard.AckOf2xx message)) w e = acknowledging_adds (dialog_owner_in d s.parsed w) w e
    answering_adds (Some heard.Stray) w e = alone w e

    receiving_adds : (o : Option transaction.Heard) (w : RunState) → AddsParticipants d start w → AddsParticipants d start (with_received_action at s o w)
    receiving_adds None w e = e
    receiving_adds (Some taken) w e = unmoved _ w refl refl refl e

    after_message_adds : (w : RunState) → AddsParticipants d start w → Adds d start (after_message d token at s w)
    after_message_adds w e =
        let said = hear_result w.actions s.peer (message_in s.parsed) in
        answering_adds said (with_received_action at s said w) (receiving_adds said w e)

  after_parsed_event_adds : (at : ℕ) (x : ParsedEvent) (w : RunState) → AddsParticipants d start w → Adds d start (after_parsed_event d token at x w)
  after_parsed_event_adds at Nothing w e = alone w e
  after_parsed_event_adds at (Refused peer source reply) w e = alone _ (unmoved _ w refl refl refl e)
  after_parsed_event_adds at (Received said) w e = after_message_adds at said w e
  after_parsed_event_adds at (WebRequested request kept rows) w e =
      beside _ (after_web_reply d at request kept rows w) (after_mailbox_upload_stays d token at (counts_put_in d.names request kept) (after_web_reply d at request kept rows w)) (unmoved _ w refl refl refl e)

  -- what the keeper accepted comes after what it accepted before, and nothing waits
  after_handover_adds : (took : Bool) (rows : List Row) (w : RunState) → w.waiting ≡ rows → Adds d start w → Adds d start (after_handover took rows w)
  after_handover_adds took [] w same e = e
  after_handover_adds false (row ∷ rows) w same e = e
  after_handover_adds true (row ∷ rows) w same e = record {
    participants = e.participants;
    calls = e.calls;
    departed = e.departed;
    closed = e.closed;
    all = append-nil (w.filed ++ (row ∷ rows)) ∙ (ap (λ (waiting : List Row). w.filed ++ waiting) (sym same) ∙ e.all);
  }

  after_event_adds : (at : ℕ) (x : ParsedEvent) (took : Bool) → Adds d start (after_event d token at x took start)
  after_event_adds at x took =
      let there : RunState = record (with_next_step start) { clock = at } in
      let left : RunState = after_parsed_event d token at x there in
      after_handover_adds took left.waiting left refl (after_parsed_event_adds at x there (unmoved there start refl refl refl (begins d start)))

-- ---- steps, one after another

-- the CDRs that a step closed are those that it adds
step_rows : (d : Directory) (o w : RunState) → (e : Adds d o w) → rows_of_step d o w ≡ e.participants ++ e.calls
step_rows d o w e =
    let seats : drop (length (rows_of_departed (conference_config d) o.conference_ops)) (rows_of_departed (conference_config d) w.conference_ops) ≡ e.participants =
    ap (drop (length (rows_of_departed (conference_config d) o.conference_ops))) e.departed ∙ drop-append_seam (rows_of_departed (conference_config d) o.conference_ops) e.participants in
    let calls : drop (length (rows_closed (call_config d) o.call_ops)) (rows_closed (call_config d) w.call_ops) ≡ e.calls =
    ap (drop (length (rows_closed (call_config d) o.call_ops))) e.closed ∙ drop-append_seam (rows_closed (call_config d) o.call_ops) e.calls in
    λ i. seats i ++ calls i

-- from one state on by these steps
abbrev LeadTo : (d : Directory) (o : RunState) → List RunState → (w : RunState) → Type 0
LeadTo d o steps w = w.filed ++ w.waiting ≡ (o.filed ++ o.waiting) ++ rows_of_steps d o steps

one_step : (d : Directory) (o v w : RunState) (steps : List RunState) → Adds d o v → LeadTo d v steps w → LeadTo d o (v ∷ steps) w
one_step d o v w steps e later =
    later
    ∙ (ap (λ (rows : List Row). rows ++ rows_of_steps d v steps) (e.all ∙ ap (λ (rows : List Row). (o.filed ++ o.waiting) ++ rows) (sym (step_rows d o v e)))
    ∙ append_assoc (o.filed ++ o.waiting) (rows_of_step d o v) (rows_of_steps d v steps))

module _ (d : Directory) (token : List ℕ) (fuel : ℕ) where
  states_of_deadlines_leads : (n now : ℕ) (o w : RunState) (steps : List RunState) → LeadTo d (after_due_deadlines d token n now o) steps w → LeadTo d o (states_of_deadlines d token n now o ++ steps) w
  states_of_deadlines_leads zero now o w steps later = later
  states_of_deadlines_leads (suc n) now o w steps later =
      let v : RunState = after_one_deadline d token now o in
      one_step d o v w (states_of_deadlines d token n now v ++ steps) (fire_adds d token o now) (states_of_deadlines_leads n now v w steps later)

  steps_lead : (xs : List TimedEvent) (o : RunState) → LeadTo d o (states_of_steps d token fuel xs o) (after_events d token fuel xs o)
  steps_lead [] o = sym (append-nil (o.filed ++ o.waiting))
  steps_lead (x ∷ xs) o =
      let now : ℕ = clock_at o x.at in
      let v : RunState = after_due_deadlines d token fuel now o in
      let w : RunState = after_event_in_order d token fuel x o in
      states_of_deadlines_leads fuel now o (after_events d token fuel xs w) (w ∷ states_of_steps d token fuel xs w)
      (one_step d v w (after_events d token fuel xs w) (states_of_steps d token fuel xs w) (after_event_adds d token v now x.parsed x.accepted) (steps_lead xs w))

pub rows_in_order : RowsAreInOrder
rows_in_order d token loaded fuel recorded = steps_lead d token fuel (timed_events d recorded) (initial_state loaded)

-- ---- those of calls and those of participants, each in their order

module _ (d : Directory) (o w : RunState) (adds : Adds d o w) where
  step_filed : AreFiled d o → AreFiled d w
  step_filed e = record {
    closed = e.closed ++ (marked false adds.participants ++ marked true adds.calls);
    all =
        rows_behind e.closed (marked false adds.participants ++ marked true adds.calls)
        ∙ ((λ i. e.all i ++ (rows_behind (marked false adds.participants) (marked true adds.calls) ∙ (λ i. rows_marked false adds.participants i ++ rows_marked true adds.calls i)) i)
        ∙ sym adds.all);
    calls =
        calls_behind e.closed (marked false adds.participants ++ marked true adds.calls)
        ∙ ((λ i. e.calls i ++ (calls_behind (marked false adds.participants) (marked true adds.calls) ∙ (λ i. calls_of_rooms adds.participants i ++ calls_of_calls adds.calls i)) i)
        ∙ sym adds.closed);
    participants =
        rooms_behind e.closed (marked false adds.participants ++ marked true adds.calls)
        ∙ ((λ i. e.participants i ++ (rooms_behind (marked false adds.participants) (marked true adds.calls)
        ∙ ((λ i. rooms_of_rooms adds.participants i ++ rooms_of_calls adds.calls i) ∙ append-nil adds.participants)) i)
        ∙ sym adds.departed);
  }

module _ (d : Directory) (token : List ℕ) where
  after_due_deadlines_filed : (fuel now : ℕ) (w : RunState) → AreFiled d w → AreFiled d (after_due_deadlines d token fuel now w)
  after_due_deadlines_filed zero now w e = e
  after_due_deadlines_filed (suc fuel) now w e = let v : RunState = after_one_deadline d token now w in after_due_deadlines_filed fuel now v (step_filed d w v (fire_adds d token w now) e)

  after_events_filed : (fuel : ℕ) (xs : List TimedEvent) (w : RunState) → AreFiled d w → AreFiled d (after_events d token fuel xs w)
  after_events_filed fuel [] w e = e
  after_events_filed fuel (x ∷ xs) w e =
      let now : ℕ = clock_at w x.at in
      let v : RunState = after_due_deadlines d token fuel now w in
      after_events_filed fuel xs (after_event_in_order d token fuel x w)
      (step_filed d v (after_event_in_order d token fuel x w) (after_event_adds d token v now x.parsed x.accepted) (after_due_deadlines_filed fuel now w e))

pub rows_are_filed : RowsAreFiled
rows_are_filed d token loaded fuel recorded = after_events_filed d token fuel (timed_events d recorded) (initial_state loaded) (record { closed = []; all = refl; calls = refl; participants = refl })

none_waits_by : (rows : List Row) (w : RunState) → w.waiting ≡ rows → (after_handover true rows w).waiting ≡ []
none_waits_by [] w same = same
none_waits_by (row ∷ rows) w same = refl

pub none_waits : NoneWaits
none_waits d token at parsed_input state =
    let left : RunState = after_parsed_event d token at parsed_input (record (with_next_step state) { clock = at }) in
    none_waits_by left.waiting left refl
