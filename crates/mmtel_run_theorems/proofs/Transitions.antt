-- The definitions of a run, traversed once for every relation between two states that is transitive: what it requires is stated of elementary operations.
use Rattle.std.proofs.Common.{◌≡◌, ℕ, List, [], ◌∷◌, refl, sym, ap, ◌∙◌, subst, Bool, true, false, Option, Some, None, Result, Ok, Err}
use Rattle.std.specs.Prelude.{if◌then◌else◌, is_some}
use Rattle.std.proofs.lemmas.Option.{none-some}
use Rattle.mmtel_compose.specs.ReceivedMessages.{MessageView, status_of}
use Rattle.mmtel_b2bua.specs.Operations.{Finishes, Receives, Releases, Restores, TableOp, step_on_finish, step_on_receive_after}
use Rattle.mmtel_b2bua.specs.Detaching.{released_leg_of}
use Rattle.mmtel_b2bua.specs.Queries.{party}
use Rattle.mmtel_b2bua.specs.declared.signals.Signal.{Signal}
use Rattle.mmtel_b2bua.specs.declared.signals.Signal.TheVariants as signal
use Rattle.mmtel_b2bua_theorems.specs.TracesOfTables.{out_by}
use Rattle.mmtel_output.specs.ResponseMatching.{awaited_request_branch, behind_cookie, branch_in, timed_out_branch}
use Rattle.mmtel_charging.specs.declared.rows.Row.{Row}
use Rattle.mmtel_output.specs.declared.outputs.StepOutput.{StepOutput}
use Rattle.mmtel_directory.specs.declared.directories.Directory.{Directory}
use Rattle.mmtel_focus.specs.Operations as rooms
use Rattle.mmtel_focus.specs.Table.{access, is_table_full}
use Rattle.mmtel_focus.specs.declared.faults.RoomFault.{RoomFault}
use Rattle.mmtel_focus.specs.declared.referrals.Replaces.{Replaces}
use Rattle.mmtel_focus.specs.declared.signals.RoomSignal.{RoomSignal}
use Rattle.mmtel_focus.specs.declared.signals.RoomSignal.TheVariants as of_room
use Rattle.mmtel_http.specs.Requests.{ParsedRequestView}
use Rattle.mmtel_leg.specs.declared.legs.Released.{Released}
use Rattle.mmtel_message.specs.Message.{Message}
use Rattle.mmtel_message.specs.Texts.{message_text}
use Rattle.mmtel_message.specs.declared.messages.Start.{Start}
use Rattle.mmtel_mwi.specs.Operations as boxes
use Rattle.mmtel_environment.specs.declared.events.Offer.{Offer}
use Rattle.mmtel_environment.specs.declared.events.Offer.TheVariants as offer
use Rattle.mmtel_transaction.specs.Results.{DueEntryView, after_firing, class_of, due_result, hear_result, is_merged, next_due, retransmitted_text, tkey}
use Rattle.mmtel_transaction.specs.Operations.{TransactionOp, DidAck, DidAsk, DidBegin, DidFire, DidSettle, DidHear, DidReply, live}
use Rattle.mmtel_transaction.specs.Deadlines.{is_ending, retransmission_at}
use Rattle.mmtel_transaction.specs.Heads.{head_of}
use Rattle.mmtel_transaction.specs.Firings.{BeginsChangeNothing}
use Rattle.mmtel_transaction.specs.declared.words.Due.{Due}
use Rattle.mmtel_transaction.specs.declared.words.Due.TheVariants as due
use Rattle.mmtel_transaction.specs.declared.words.Emit.{Emit}
use Rattle.mmtel_transaction.specs.declared.words.Emit.TheVariants as emit
use Rattle.mmtel_transaction.specs.declared.words.Heard as transaction
use Rattle.mmtel_transaction.specs.declared.words.Heard.TheVariants as heard
use Rattle.mmtel_transaction.specs.declared.words.TKey.{TKey}
use Rattle.mmtel_types.specs.Sides.{other_side}
use Rattle.mmtel_types.specs.declared.addrs.Addr.{Addr}
use Rattle.mmtel_types.specs.declared.numbers.Account.{Account}
use Rattle.mmtel_types.specs.declared.numbers.CallNo.{CallNo}
use Rattle.mmtel_types.specs.declared.numbers.Peer.{Peer}
use Rattle.mmtel_types.specs.declared.numbers.RoomNo.{RoomNo}
use Rattle.mmtel_types.specs.declared.sides.Side.{Side}
use Rattle.mmtel_web.specs.Handling.{KeeperOutcomeView, web_reply}
use Rattle.mmtel_web.specs.Uploads.{counts_put_in, stored_upload, upload_in}
use Rattle.mmtel_run_definitions.specs.OwnResponses.{StatusResponse, completed_reply, plain_response, response_to, tag_for, tags_due, to_tag_in}
use Rattle.mmtel_run_definitions.specs.Calls.{are_full, arrival_signal, call_config, call_of_invite}
use Rattle.mmtel_run_definitions.specs.Deadlines.{Deadline, FirstTimer, OfCall, OfParticipant, OfServiceTimer, OfSubscription, OfTransaction, PendingTimer, ServiceTimer, first_deadline, first_due_timer}
use Rattle.mmtel_run_definitions.specs.Events.{ParsedEvent, Nothing, Refused, Received, WebRequested, message_in}
use Rattle.mmtel_run_definitions.specs.Records.{until_of}
use Rattle.mmtel_run_definitions.specs.Refusals.{Disposition, Respond, Enter, EnterConference, OpenCall, OpenConference, JoinConference, Register, Subscribe, EnterSubscription, disposition}
use Rattle.mmtel_run_definitions.specs.Ownership.{DialogOwner, InSubscription, InCall, InConference, OfSubscriptions, OfCalls, OfConferences, Owner, account_of_side}
use Rattle.mmtel_run_definitions.specs.Ownership.{owner_of_key, owner_of_branch, is_of_peer, replacement_in, replaced_side, leg_by, status_of_fault}
use Rattle.mmtel_run_definitions.specs.Run.{after_deadline_if, after_one_deadline, first_due_deadline}
use Rattle.mmtel_run_definitions.specs.Subscriptions.{grant_response, other_response, refusal_response, with_mailbox_op}
use Rattle.mmtel_run_definitions.proofs.MailboxSteps as mailing
use Rattle.mmtel_run_definitions.proofs.MailboxSteps.{AreResponses, AreSteps, tells_in}
use Rattle.mmtel_run_definitions.specs.Transitions.{RunState, subscriptions_in, after_web_request, after_ack_by, after_adoption_if, adoption_op, after_service_timer, after_classified_message, with_timer}
use Rattle.mmtel_run_definitions.specs.Transitions.{with_next_step, with_call_output, calls_in, after_event, after_cancel, after_cancel_of, output_of_conference_op, with_draws, with_emit, with_emits}
use Rattle.mmtel_run_definitions.specs.Transitions.{after_transaction_end, after_participant_request, after_call_end, after_deadline, after_handover, conference_signal_op, received_now, with_received_action}
use Rattle.mmtel_run_definitions.specs.Transitions.{dialog_owner_in, after_conference_op, with_upload, join_op, with_call_op, with_conference_output, after_parsed_event, next_tag, after_refer_notify}
use Rattle.mmtel_run_definitions.specs.Transitions.{with_offers, opening_op, with_refusal_of_bytes, with_registration, with_retransmission, after_replacing, after_replacing_named, after_replacing_side}
use Rattle.mmtel_run_definitions.specs.Transitions.{after_replaces, with_response, with_stateless_response, after_response_to, after_join_if, after_opening_if, conferences_in, after_due, after_conference_signal}
use Rattle.mmtel_run_definitions.specs.Transitions.{after_web_reply, after_call_signal, after_request_timeout, after_detach, after_disposition, after_message, tokens_now, after_newcomer_refusal}
use Rattle.mmtel_run_theorems.proofs.ActionPrefixes.{Anyhow}
use Rattle.mmtel_run_theorems.specs.StepMoments.{IsCallOpAt, IsConferenceOpAt, IsOfferAt, moment_due, moment_if}

-- an operation on the transactions by which nothing is sent
abbrev pub IsUnsent : TransactionOp → Type 0
IsUnsent (DidBegin step) = Unit {0}
IsUnsent (DidHear peer message now taken) = Unit {0}
IsUnsent (DidAsk peer message now) = ⊥
IsUnsent (DidReply key message now) = ⊥
IsUnsent (DidAck key message) = ⊥
IsUnsent (DidFire key) = Unit {0}
IsUnsent (DidSettle key own) = Unit {0}

-- what is required of a relation between the states before and after, at a moment
pub record IsWalked (d : Directory) (R : ℕ → RunState → RunState → Type 0) : Type 0 where
  -- nothing is done on the layers, and nothing is output
  pub quiet : (at : ℕ) (w v : RunState) → v.call_ops ≡ w.call_ops → v.conference_ops ≡ w.conference_ops → v.actions ≡ w.actions → v.offers ≡ w.offers → R at w v
  -- one after another
  pub next : (at : ℕ) (u v w : RunState) → R at u v → R at v w → R at u w
  -- an operation by which nothing is sent is done on the transactions, or something is output, and no more
  pub acting : (at : ℕ) (x : TransactionOp) (w v : RunState) → IsUnsent x → v.call_ops ≡ w.call_ops → v.conference_ops ≡ w.conference_ops → v.actions ≡ x ∷ w.actions → v.offers ≡ w.offers → R at w v
  pub offers : (at : ℕ) (x : Offer) (w : RunState) → IsOfferAt at x → R at w (with_offers (x ∷ []) w)
  pub emit : (at : ℕ) (x : Emit) (w : RunState) → R at w (with_emit at x w)
  -- an operation on calls without output, one with output, and one on conferences
  pub lends : (at : ℕ) (op : TableOp) (w : RunState) → IsCallOpAt at op → out_by (call_config d) op (calls_in d w) ≡ [] → R at w (with_call_op op w)
  pub brings : (at : ℕ) (op : TableOp) (output : StepOutput) (w : RunState) → IsCallOpAt at op → output.out ≡ out_by (call_config d) op (calls_in d w) → R at w (with_call_output at op output w)
  pub lodges : (at : ℕ) (op : rooms.TableOp) (output : StepOutput) (w : RunState) → IsConferenceOpAt at op → R at w (with_conference_output at op output w)

module _ (d : Directory) (token : List ℕ) (R : ℕ → RunState → RunState → Type 0) (k : IsWalked d R) where
  -- this holds for this definition
  abbrev Walks : ℕ → (RunState → RunState) → Type 0
  Walks at f = (w : RunState) → R at w (f w)

  still : (at : ℕ) (w : RunState) → R at w w
  still at w = k.quiet at w w refl refl refl refl

  same : (at : ℕ) (w v : RunState) → v.call_ops ≡ w.call_ops → v.conference_ops ≡ w.conference_ops → v.actions ≡ w.actions → v.offers ≡ w.offers → R at w v
  same at w v ops seats acts offers = k.quiet at w v ops seats acts offers

  with_emits_at : (at : ℕ) (xs : List Emit) → Walks at (with_emits at xs)
  with_emits_at at [] w = still at w
  with_emits_at at (x ∷ xs) w = k.next at w (with_emit at x w) (with_emits at xs (with_emit at x w)) (k.emit at x w) (with_emits_at at xs (with_emit at x w))

  -- a step begins
  with_next_step_at : (at : ℕ) (w v : RunState) → v.call_ops ≡ w.call_ops → v.conference_ops ≡ w.conference_ops → v.actions ≡ DidBegin w.steps ∷ w.actions → v.offers ≡ w.offers → R at w v
  with_next_step_at at w v ops seats acts offers = k.acting at (DidBegin w.steps) w v tt ops seats acts offers

  after_conference_op_at : (at : ℕ) (op : rooms.TableOp) → IsConferenceOpAt at op → Walks at (after_conference_op d at op)
  after_conference_op_at at op is w =
      let v : RunState = record w { drawn = (output_of_conference_op d op w).tokens.drawn } in
      k.next at w v (after_conference_op d at op w) (same at w v refl refl refl refl) (k.lodges at op (output_of_conference_op d op w) v is)

  after_newcomer_refusal_at : (at : ℕ) (key : TKey) (s : MessageView) (tag : List ℕ) (code : ℕ) → Walks at (after_newcomer_refusal d at key s tag code)
  after_newcomer_refusal_at at key s tag code w = with_emits_at at (emit.Reply key (response_to d.sip tag s (plain_response code)) ∷ []) w

  after_call_signal_at : (at : ℕ) (x : Signal) → Walks at (after_call_signal d token at x)
  after_call_signal_at at x w = k.brings at (Receives (received_now token at x w)) (step_on_receive_after (call_config d) w.call_ops (received_now token at x w)).output w refl refl

  after_call_end_at : (at : ℕ) (call : CallNo) → Walks at (after_call_end d token at call)
  after_call_end_at at call w = k.brings at (Finishes call.0 at (tokens_now token w)) (step_on_finish (call_config d) call.0 at (tokens_now token w) (calls_in d w)).output w refl refl

  after_conference_signal_at : (at : ℕ) (x : RoomSignal) → Walks at (after_conference_signal d token at x)
  after_conference_signal_at at x w = after_conference_op_at at (conference_signal_op token at x w) refl w

  after_refer_notify_at : (at : ℕ) (room : RoomNo) (seat code : ℕ) → Walks at (after_refer_notify d token at room seat code)
  after_refer_notify_at at room seat code w = after_conference_op_at at (rooms.Notifies room.0 seat code (tokens_now token w)) tt w

  -- ---- responses

  -- more tokens are drawn
  drawn_at : (at count : ℕ) (xs : List Emit) → Walks at (λ w. with_emits at xs (with_draws count w))
  drawn_at at count xs w = k.next at w (with_draws count w) (with_emits at xs (with_draws count w)) (same at w (with_draws count w) refl refl refl refl) (with_emits_at at xs (with_draws count w))

  with_response_at : (at : ℕ) (key : TKey) (s : MessageView) (answer : StatusResponse) → Walks at (with_response d token at key s answer)
  with_response_at at key s answer w =
      drawn_at at (tags_due s.parsed.to_tag) (emit.Reply key (response_to d.sip (tag_for token w.drawn s.parsed.to_tag) s answer) ∷ []) w

  with_stateless_response_at : (at : ℕ) (s : MessageView) (answer : StatusResponse) → Walks at (with_stateless_response d token at s answer)
  with_stateless_response_at at s answer w =
      drawn_at at (tags_due s.parsed.to_tag) (emit.Plain s.peer (message_text (response_to d.sip (tag_for token w.drawn s.parsed.to_tag) s answer)) ∷ []) w

  with_refusal_of_bytes_at : (at : ℕ) (peer : Peer) (source : Addr) (reply : Message Start) → Walks at (with_refusal_of_bytes token at peer source reply)
  with_refusal_of_bytes_at at peer source reply w =
      drawn_at at (tags_due (to_tag_in reply.lines)) (emit.Plain peer (message_text (completed_reply (tag_for token w.drawn (to_tag_in reply.lines)) source reply)) ∷ []) w

  -- ---- mailboxes

  with_mailbox_op_at : (at : ℕ) (op : boxes.TableOp) → Walks at (with_mailbox_op op)
  with_mailbox_op_at at op w = same at w (with_mailbox_op op w) refl refl refl refl

  box_steps : (at : ℕ) → AreSteps d token at (R at)
  box_steps at = record {
    same = still at;
    next = k.next at;
    notes = λ op w none. with_mailbox_op_at at op w;
    draws = λ w. same at w (with_draws 1 w) refl refl refl refl;
    arms = λ armed w. same at w (with_timer armed w) refl refl refl refl;
    asks = λ sub last peer message w lives is. with_emits_at at (emit.Ask peer message ∷ []) (tells_in token sub w);
  }

  box_answers : (at : ℕ) (key : TKey) (s : MessageView) → AreResponses d token at (R at) key s Anyhow
  box_answers at key s = record {
    reads = λ within. tt;
    subscribes = λ account until w may. with_mailbox_op_at at (boxes.Subscribes account (leg_by (next_tag token w) s) until) (with_draws 1 w);
    grants = λ op seconds w may. with_emits_at at (emit.Reply key (response_to d.sip (next_tag token w) s (grant_response seconds)) ∷ []) (with_mailbox_op op (with_draws 1 w));
    renews = λ seconds w may. with_response_at at key s (grant_response seconds) w;
    refuses = λ within code w may. with_response_at at key s (refusal_response code) w;
    denies = λ code w is. with_response_at at key s (plain_response code) w;
    others = λ w is. with_response_at at key s (other_response d s.parsed) w;
  }

  -- ---- timers

  after_request_timeout_at : (at : ℕ) (branch method : List ℕ) (whose : Owner) → Walks at (after_request_timeout d token at branch method whose)
  after_request_timeout_at at branch method OfCalls w = after_call_signal_at at (signal.Silent branch method) w
  after_request_timeout_at at branch method OfSubscriptions w = mailing.answered (R at) (still at) (λ op v none. with_mailbox_op_at at op v) (behind_cookie branch) 408 w
  after_request_timeout_at at branch method OfConferences w = after_conference_signal_at at (of_room.Silent branch method) w

  after_transaction_end_at : (at : ℕ) (key : TKey) (whose : Owner) → Walks at (after_transaction_end d token at key whose)
  after_transaction_end_at at key OfCalls w = after_call_signal_at at (signal.Over key) w
  after_transaction_end_at at key OfSubscriptions w = still at w
  after_transaction_end_at at key OfConferences w = after_conference_signal_at at (of_room.Over key) w

  -- what one of a transaction causes has its moment
  abbrev IsDueAt : ℕ → Due → Type 0
  IsDueAt at (due.Again peer moment text) = moment ≡ at
  IsDueAt at (due.Silent key branch method moment) = moment ≡ at
  IsDueAt at (due.Over key moment) = moment ≡ at
  IsDueAt at due.Nothing = Unit {0}

  says_at : (n : DueEntryView) → IsDueAt n.at (due_result (Some n))
  says_at n = go (is_some (retransmission_at n.entry)) (is_ending n.entry.state)
    where
      go : (b c : Bool) →
          IsDueAt n.at (if b then due.Again n.entry.peer n.at (retransmitted_text n.entry) else if c then due.Over (tkey n.entry.key) n.at else due.Silent (tkey n.entry.key) n.entry.head.branch n.entry.head.method n.at)
      go true c = refl
      go false true = refl
      go false false = refl

  after_due_at : (at : ℕ) (x : Due) → IsDueAt at x → Walks at (after_due d token x)
  after_due_at at (due.Again peer moment text) is w = k.offers at (offer.To peer moment text) w is
  after_due_at at (due.Silent key branch method moment) is w =
      subst (λ at. R at w (after_request_timeout d token moment branch method (owner_of_branch (timed_out_branch branch method) (behind_cookie branch) (calls_in d w).entries (subscriptions_in w)) w)) is
      (after_request_timeout_at moment branch method (owner_of_branch (timed_out_branch branch method) (behind_cookie branch) (calls_in d w).entries (subscriptions_in w)) w)
  after_due_at at (due.Over key moment) is w =
      subst (λ at. R at w (after_transaction_end d token moment key (owner_of_key key (calls_in d w).entries) w)) is
      (after_transaction_end_at moment key (owner_of_key key (calls_in d w).entries) w)
  after_due_at at due.Nothing is w = still at w

  after_service_timer_at : (at : ℕ) (x : ServiceTimer) → Walks at (after_service_timer d token at x)
  after_service_timer_at at (OfCall call what) w = after_call_signal_at at (signal.Due call what) w
  after_service_timer_at at (OfParticipant room seat what) w = after_conference_signal_at at (of_room.Due room seat what) w
  after_service_timer_at at (OfSubscription sub set) w = mailing.ends d token at (R at) (box_steps at) sub set w

  -- one of a transaction is the one that was due before its step began
  after_deadline_at : (at : ℕ) (o : Option DueEntryView) (w : RunState) → R at w (record w { actions = after_firing w.actions o })
  after_deadline_at at None w = same at w _ refl refl refl refl
  after_deadline_at at (Some next) w = k.acting at (DidFire next.entry.key) w _ tt refl refl refl refl

  message_at : BeginsChangeNothing → (now : ℕ) (w : RunState) (next : DueEntryView) → next_due now (live w.actions) ≡ Some next → R next.at w (after_deadline d token now OfTransaction w)
  message_at begins now w next is =
      let same : next_due now (live (with_next_step w).actions) ≡ Some next = ap (next_due now) (begins w.actions w.steps) ∙ is in
      let v : RunState = record (with_next_step w) { actions = after_firing (with_next_step w).actions (next_due now (live (with_next_step w).actions)) } in
      k.next next.at w (with_next_step w) (after_deadline d token now OfTransaction w) (with_next_step_at next.at w (with_next_step w) refl refl refl refl)
      (k.next next.at (with_next_step w) v (after_deadline d token now OfTransaction w) (after_deadline_at next.at (next_due now (live (with_next_step w).actions)) (with_next_step w))
      (after_due_at next.at (due_result (next_due now (live (with_next_step w).actions))) (subst (λ o. IsDueAt next.at (due_result o)) (sym same) (says_at next)) v))

  alarm_at : (now : ℕ) (armed : PendingTimer) (others : List PendingTimer) → Walks armed.at (after_deadline d token now (OfServiceTimer armed others))
  alarm_at now armed others w =
      let v : RunState = record (with_next_step w) { pending_timers = others } in
      k.next armed.at w v (after_deadline d token now (OfServiceTimer armed others) w) (with_next_step_at armed.at w v refl refl refl refl) (after_service_timer_at armed.at armed.timer v)

  -- none is of a transaction where none of these is due
  not_of_message : (chosen : Option FirstTimer) → first_deadline None chosen ≡ Some OfTransaction → ⊥
  not_of_message None is = none-some OfTransaction is
  not_of_message (Some call) is = let f : Some (OfServiceTimer call.first call.others) ≡ Some OfTransaction = is in cc

  -- a timer fires at its moment; where none is due nothing is done
  abbrev pub FiresBy : Option ℕ → (before after : RunState) → Type 0
  FiresBy None before after = after ≡ before
  FiresBy (Some at) before after = R at before after

  pub after_firing_at : BeginsChangeNothing → (now : ℕ) (w : RunState) → FiresBy (moment_due now w) w (after_one_deadline d token now w)
  after_firing_at begins now w = go (first_due_deadline now w) (next_due now (live w.actions)) refl refl
    where
      go : (o : Option Deadline) (next : Option DueEntryView) → first_due_deadline now w ≡ o → next_due now (live w.actions) ≡ next → FiresBy (moment_if next o) w (after_deadline_if d token now o w)
      go None next due is = refl
      go (Some OfTransaction) (Some next) due is = message_at begins now w next is
      go (Some OfTransaction) None due is =
          absurd (not_of_message (first_due_timer now w.pending_timers) (ap (λ next. first_deadline next (first_due_timer now w.pending_timers)) (sym is) ∙ due))
      go (Some (OfServiceTimer armed others)) next due is = alarm_at now armed others w

  module _ (at : ℕ) where
    -- ---- a REFER with Replaces

    adopting_at : (room : RoomNo) (seat : ℕ) (call : CallNo) (leg : Released) (account : Option Account) (found : Result ℕ RoomFault) → Walks at (after_adoption_if d token at room seat call leg account found)
    adopting_at room seat call leg account (Ok place) w =
        let op : rooms.TableOp = adoption_op token at room seat leg account w in
        k.next at w (after_conference_op d at op w) (after_call_end d token at call (after_conference_op d at op w)) (after_conference_op_at at op refl w) (after_call_end_at at call (after_conference_op d at op w))
    adopting_at room seat call leg account (Err fault) w =
        let v : RunState = with_call_op (Restores call.0 leg) w in
        k.next at w v (after_refer_notify d token at room seat 503 v) (k.lends at (Restores call.0 leg) w tt refl) (after_refer_notify_at at room seat 503 v)

    taken_out_at : (room : RoomNo) (seat : ℕ) (call : CallNo) (side : Side) (account : Option Account) (leg : Option Released) → Walks at (after_detach d token at room seat call side account leg)
    taken_out_at room seat call side account None w = after_refer_notify_at at room seat 491 w
    taken_out_at room seat call side account (Some leg) w =
        let v : RunState = with_call_op (Releases call.0 side) w in
        let found : Result ℕ RoomFault = access room.0 (conferences_in d w).live in
        k.next at w v (after_adoption_if d token at room seat call leg account found v) (k.lends at (Releases call.0 side) w tt refl) (adopting_at room seat call leg account found v)

    replaced_with_at : (room : RoomNo) (seat : ℕ) (call : CallNo) (side : Side) (is_its : Bool) → Walks at (after_replacing_side d token at room seat call side is_its)
    replaced_with_at room seat call side false w = after_refer_notify_at at room seat 481 w
    replaced_with_at room seat call side true w =
        taken_out_at room seat call (other_side side) (account_of_side call (other_side side) (calls_in d w).entries) (released_leg_of call.0 (other_side side) (calls_in d w).entries) w

    replaced_by_at : (peer : Peer) (room : RoomNo) (seat : ℕ) (named : Option (CallNo × Side)) → Walks at (after_replacing_named d token at peer room seat named)
    replaced_by_at peer room seat None w = after_refer_notify_at at room seat 481 w
    replaced_by_at peer room seat (Some named) w =
        replaced_with_at room seat named.0 named.1 (is_of_peer peer (party named.0.0 named.1 (calls_in d w).entries)) w

    replacing_at : (peer : Peer) (room : RoomNo) (seat : ℕ) (x : Option Replaces) → Walks at (after_replaces d token at peer room seat x)
    replacing_at peer room seat None w = still at w
    replacing_at peer room seat (Some x) w =
        let v : RunState = after_refer_notify d token at room seat 100 w in
        k.next at w v (after_replacing d token at peer room seat x v) (after_refer_notify_at at room seat 100 w) (replaced_by_at peer room seat (replaced_side x (calls_in d v).entries) v)

  module _ (at : ℕ) (s : MessageView) where
    -- ---- who joins a conference

    room_opened_at : (key : TKey) (tag : List ℕ) (full : Bool) → Walks at (after_opening_if d at key s tag full)
    room_opened_at key tag true w = after_newcomer_refusal_at at key s tag 503 w
    room_opened_at key tag false w = k.lodges at (opening_op d at key s tag) (output_of_conference_op d (opening_op d at key s tag) w) w refl

    room_joined_at : (key : TKey) (room : RoomNo) (tag : List ℕ) (found : Result ℕ RoomFault) → Walks at (after_join_if d token at key s room tag found)
    room_joined_at key room tag (Err fault) w = after_newcomer_refusal_at at key s tag (status_of_fault fault) w
    room_joined_at key room tag (Ok place) w = after_conference_op_at at (join_op d at key s room tag (tokens_now token w)) refl w

    entering_room_at : (key : TKey) (room : RoomNo) (seat : ℕ) → Walks at (after_participant_request d token at key s room seat)
    entering_room_at key room seat w =
        let x : RoomSignal = of_room.Request room seat key s in
        let asked : Option Replaces = replacement_in s.parsed (output_of_conference_op d (conference_signal_op token at x w) w).out in
        let v : RunState = after_conference_signal d token at x w in
        k.next at w v (after_replaces d token at s.peer room seat asked v) (after_conference_signal_at at x w) (replacing_at at s.peer room seat asked v)

    -- ---- messages

    taking_at : (key : TKey) (c : Disposition) → Walks at (after_disposition d token at key s c)
    taking_at key (Respond answer) w = with_response_at at key s answer w
    taking_at key (Enter call side) w = after_call_signal_at at (signal.Request call side key s) w
    taking_at key (EnterConference room seat) w = entering_room_at key room seat w
    taking_at key OpenCall w = after_call_signal_at at (arrival_signal d.names.accounts key s) w
    taking_at key OpenConference w =
        let v : RunState = with_draws 1 w in
        let full : Bool = is_table_full (conferences_in d w).live in
        k.next at w v (after_opening_if d at key s (next_tag token w) full v) (same at w v refl refl refl refl) (room_opened_at key (next_tag token w) full v)
    taking_at key (JoinConference room) w =
        let v : RunState = with_draws 1 w in
        let found : Result ℕ RoomFault = access room.0 (conferences_in d w).live in
        k.next at w v (after_join_if d token at key s room (next_tag token w) found v) (same at w v refl refl refl refl) (room_joined_at key room (next_tag token w) found v)
    taking_at key (Register account seconds) w =
        let v : RunState = with_registration account (until_of at seconds) w in
        k.next at w v (with_response d token at key s (plain_response 200) v) (same at w v refl refl refl refl) (with_response_at at key s (plain_response 200) v)
    taking_at key Subscribe w = mailing.subscribes d token at (R at) (box_steps at) key s Anyhow (box_answers at key s) w
    taking_at key (EnterSubscription sub) w = mailing.enters d token at (R at) (box_steps at) key s Anyhow (box_answers at key s) sub w

    repeating_at : (o : Option (Peer × List ℕ)) → Walks at (with_retransmission at o)
    repeating_at None w = still at w
    repeating_at (Some sent) w = with_emits_at at (emit.Plain sent.0 sent.1 ∷ []) w

    cancelling_call_at : (key invite : TKey) (o : Option (CallNo × Side)) → Walks at (after_cancel_of d token at key s invite o)
    cancelling_call_at key invite None w = with_response_at at key s (plain_response 200) w
    cancelling_call_at key invite (Some asked) w = after_call_signal_at at (signal.Cancel asked.0 key s invite) w

    cancelling_at : (key : TKey) (invite : Option TKey) → Walks at (after_cancel d token at key s invite)
    cancelling_at key None w = with_response_at at key s (plain_response 481) w
    cancelling_at key (Some invite) w = cancelling_call_at key invite (call_of_invite invite (calls_in d w).entries) w

    acknowledging_at : (o : Option DialogOwner) → Walks at (after_ack_by d token at s o)
    acknowledging_at None w = still at w
    acknowledging_at (Some (InCall call side)) w = after_call_signal_at at (signal.Ack call side s) w
    acknowledging_at (Some (InConference room seat)) w = after_conference_signal_at at (of_room.Ack room seat s) w
    acknowledging_at (Some (InSubscription sub)) w = still at w

    responding_at : (key : TKey) (whose : Owner) → Walks at (after_response_to d token at key s whose)
    responding_at key OfCalls w = after_call_signal_at at (signal.Answer key s) w
    responding_at key OfSubscriptions w = mailing.answered (R at) (still at) (λ op v none. with_mailbox_op_at at op v) (branch_in s.parsed.vias) (status_of s.parsed.start) w
    responding_at key OfConferences w = after_conference_signal_at at (of_room.Answer key s) w

    answering_at : (o : Option transaction.Heard) → Walks at (after_classified_message d token at s o)
    answering_at None w = with_stateless_response_at at s (plain_response 503) w
    answering_at (Some (heard.Fresh key message)) w =
        taking_at key (disposition d (is_merged key.0 (live w.actions)) (are_full (calls_in d w).entries) (dialog_owner_in d s.parsed w) s.parsed) w
    answering_at (Some (heard.Answer key message)) w = responding_at key (owner_of_branch (awaited_request_branch s) (branch_in s.parsed.vias) (calls_in d w).entries (subscriptions_in w)) w
    answering_at (Some (heard.Repeat sent)) w = repeating_at sent w
    answering_at (Some (heard.Acked key)) w = still at w
    answering_at (Some (heard.Cancel key invite message)) w = cancelling_at key invite w
    answering_at (Some (heard.AckOf2xx message)) w = acknowledging_at (dialog_owner_in d s.parsed w) w
    answering_at (Some heard.Stray) w = still at w

    receiving_at : (o : Option transaction.Heard) → Walks at (with_received_action at s o)
    receiving_at None w = still at w
    receiving_at (Some taken) w = k.acting at (DidHear s.peer (message_in s.parsed) at (class_of (head_of (message_in s.parsed)) (live w.actions))) w _ tt refl refl refl refl

    after_message_at : Walks at (after_message d token at s)
    after_message_at w =
        let said = hear_result w.actions s.peer (message_in s.parsed) in
        k.next at w (with_received_action at s said w) (after_message d token at s w) (receiving_at said w) (answering_at said (with_received_action at s said w))

  -- ---- events

  after_web_reply_at : (at : ℕ) (request : ParsedRequestView) (kept : KeeperOutcomeView) (rows : List Row) → Walks at (after_web_reply d at request kept rows)
  after_web_reply_at at request kept rows w =
      let v : RunState = with_upload (stored_upload kept (upload_in d.names request)) w in
      k.next at w v (after_web_reply d at request kept rows w) (same at w v refl refl refl refl) (k.offers at (offer.Web at (web_reply d.names w.texts request kept rows)) v refl)

  after_web_request_at : (at : ℕ) (request : ParsedRequestView) (kept : KeeperOutcomeView) (rows : List Row) → Walks at (after_web_request d token at request kept rows)
  after_web_request_at at request kept rows w =
      let v : RunState = after_web_reply d at request kept rows w in
      k.next at w v (after_web_request d token at request kept rows w) (after_web_reply_at at request kept rows w)
      (mailing.puts d token at (R at) (box_steps at) (λ account counts u. with_mailbox_op_at at (boxes.Puts account counts) u) (counts_put_in d.names request kept) v)

  after_parsed_event_at : (at : ℕ) (x : ParsedEvent) → Walks at (after_parsed_event d token at x)
  after_parsed_event_at at Nothing w = still at w
  after_parsed_event_at at (Refused peer source reply) w = with_refusal_of_bytes_at at peer source reply w
  after_parsed_event_at at (Received said) w = after_message_at at said w
  after_parsed_event_at at (WebRequested request kept rows) w = after_web_request_at at request kept rows w

  after_handover_at : (at : ℕ) (took : Bool) (rows : List Row) → Walks at (after_handover took rows)
  after_handover_at at took [] w = still at w
  after_handover_at at false (row ∷ rows) w = still at w
  after_handover_at at true (row ∷ rows) w = same at w _ refl refl refl refl

  pub after_event_at : (at : ℕ) (x : ParsedEvent) (took : Bool) → Walks at (after_event d token at x took)
  after_event_at at x took w =
      let start : RunState = record (with_next_step w) { clock = at } in
      let done : RunState = after_parsed_event d token at x start in
      k.next at w start (after_event d token at x took w) (with_next_step_at at w start refl refl refl refl)
      (k.next at start done (after_handover took done.waiting done) (after_parsed_event_at at x start) (after_handover_at at took done.waiting done))
