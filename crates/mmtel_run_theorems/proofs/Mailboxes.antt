-- Whom the server notifies of a mailbox, and with which content; and that a SUBSCRIBE of a peer that is not trusted is refused.
use Rattle.std.proofs.Common.{◌≡◌, ℕ, zero, suc, List, [], ◌∷◌, ◌++◌, length, refl, sym, ap, ◌∙◌, subst, Bool, true, false, not, ◌&&◌, Option, Some, None, Result, Ok, Err}
use Rattle.std.proofs.Common.{codes, inl, inr, append_assoc, append-nil}
use Rattle.std.specs.Prelude.{IfSome, if◌then◌else◌, is_some, nat_le}
use Rattle.std.specs.Option.{option_map, option_to_list}
use Rattle.std.specs.Str.{bytes_eq}
use Rattle.std.proofs.lemmas.Slice.Eq.{bytes_eq-Decides}
use Rattle.mmtel_compose.specs.ReceivedMessages.{MessageView, status_of}
use Rattle.mmtel_b2bua.specs.Operations as calls
use Rattle.mmtel_b2bua.specs.Operations.{Drops, Finishes, Receives, Releases, Restores, step_on_finish, step_on_receive_after}
use Rattle.mmtel_b2bua.specs.Detaching.{released_leg_of}
use Rattle.mmtel_b2bua.specs.Queries.{party}
use Rattle.mmtel_b2bua.specs.declared.signals.Signal.{Signal}
use Rattle.mmtel_b2bua.specs.declared.signals.Signal.TheVariants as signal
use Rattle.mmtel_b2bua_theorems.specs.TracesOfTables.{out_by}
use Rattle.mmtel_call_theorems.specs.NoInjection.Emits.{Each}
use Rattle.mmtel_call_theorems.proofs.NoInjection.Sending.{each_append}
use Rattle.mmtel_charging.specs.declared.rows.Row.{Row}
use Rattle.mmtel_output.specs.ResponseMatching.{awaited_request_branch, behind_cookie, branch_in, timed_out_branch}
use Rattle.mmtel_output.specs.declared.outputs.StepOutput.{StepOutput}
use Rattle.mmtel_directory.specs.declared.directories.Directory.{Directory}
use Rattle.mmtel_focus.specs.Operations as rooms
use Rattle.mmtel_focus.specs.Table.{access, is_table_full}
use Rattle.mmtel_focus.specs.declared.faults.RoomFault.{RoomFault}
use Rattle.mmtel_focus.specs.declared.referrals.Replaces.{Replaces}
use Rattle.mmtel_focus.specs.declared.signals.RoomSignal.{RoomSignal}
use Rattle.mmtel_focus.specs.declared.signals.RoomSignal.TheVariants as of_room
use Rattle.mmtel_records_in_force.specs.Texts.{Texts}
use Rattle.mmtel_leg.specs.declared.dialogues.DialogueFault.{DialogueFault}
use Rattle.mmtel_leg.specs.declared.legs.Released.{Released}
use Rattle.mmtel_message.specs.Faults.{is_method}
use Rattle.mmtel_message.specs.Message.{Message}
use Rattle.mmtel_message.specs.Reads.{Read, read_result}
use Rattle.mmtel_message.specs.declared.messages.Start.{Start}
use Rattle.mmtel_message.specs.declared.messages.Start.TheVariants as start
use Rattle.mmtel_message.specs.declared.reading.ReadFault.TheVariants as fault
use Rattle.mmtel_mwi.specs.Boxes.{Table, changed, counts_in, is_final, is_numbered, next_sub, notify_request_of, renewed_subscription, request_check}
use Rattle.mmtel_mwi.specs.Boxes.{subscription_after_notify, subscription_after_request, subscription_numbered, subscription_refused_by, table_after_end_if}
use Rattle.mmtel_mwi.specs.Boxes.{subscribers_of, subscription, without, without_pending as settled_in}
use Rattle.mmtel_mwi.specs.Operations as boxes
use Rattle.mmtel_mwi.specs.Operations.{last_counts, table_after, table_after_op}
use Rattle.mmtel_mwi.specs.Notifies.{notify_request_in, remaining_seconds}
use Rattle.mmtel_mwi.specs.Subscribing.{SubscribeRequestView, is_authorized, is_summary, refusal}
use Rattle.mmtel_mwi.specs.declared.counts.Counts.{Counts}
use Rattle.mmtel_mwi.specs.declared.subscriptions.Subscription.{Subscription}
use Rattle.mmtel_environment.specs.declared.events.Event.{Event}
use Rattle.mmtel_environment.specs.declared.events.Event.TheVariants as event
use Rattle.mmtel_transaction.specs.Results.{DueEntryView, after_firing, due_result, hear_result, is_merged, next_due}
use Rattle.mmtel_transaction.specs.Operations.{TransactionOp, DidAck, DidAsk, DidBegin, DidFire, DidHear, DidReply, DidSettle, live}
use Rattle.mmtel_transaction.specs.declared.words.Due.{Due}
use Rattle.mmtel_transaction.specs.declared.words.Due.TheVariants as due
use Rattle.mmtel_transaction.specs.declared.words.Emit.{Emit}
use Rattle.mmtel_transaction.specs.declared.words.Emit.TheVariants as emit
use Rattle.mmtel_transaction.specs.declared.words.Heard as transaction
use Rattle.mmtel_transaction.specs.declared.words.Heard.TheVariants as heard
use Rattle.mmtel_transaction.specs.declared.words.TKey.{TKey}
use Rattle.mmtel_trust.specs.ParsedMessage.{ParsedMessage}
use Rattle.mmtel_trust.specs.MaskedMessages.{public_part}
use Rattle.mmtel_trust.specs.Members.{IsIn}
use Rattle.mmtel_trust.specs.Peers.{is_trusted, peer_at}
use Rattle.mmtel_types.specs.Sides.{other_side}
use Rattle.mmtel_types.specs.declared.addrs.Addr.{Addr}
use Rattle.mmtel_types.specs.declared.numbers.Account.{Account}
use Rattle.mmtel_types.specs.declared.numbers.CallNo.{CallNo}
use Rattle.mmtel_types.specs.declared.numbers.Peer.{Peer}
use Rattle.mmtel_types.specs.declared.numbers.RoomNo.{RoomNo}
use Rattle.mmtel_types.specs.declared.numbers.SubNo.{SubNo}
use Rattle.mmtel_types.specs.declared.sides.Side.{Side}
use Rattle.mmtel_web.specs.Handling.{KeeperOutcomeView}
use Rattle.mmtel_web.specs.Uploads.{counts_put_in}
use Rattle.mmtel_run_definitions.proofs.MailboxSteps as steps
use Rattle.mmtel_run_definitions.proofs.MailboxSteps.{AreResponses, AreSteps, IsRefusal, MakesNone}
use Rattle.mmtel_run_definitions.specs.OwnResponses.{StatusResponse, plain_response, response_with_allow}
use Rattle.mmtel_run_definitions.specs.Calls.{are_full, arrival_signal, call_config, call_of_invite}
use Rattle.mmtel_run_definitions.specs.Deadlines.{Deadline, OfCall, OfParticipant, OfServiceTimer, OfSubscription, OfTransaction, ServiceTimer}
use Rattle.mmtel_run_definitions.specs.Events as events
use Rattle.mmtel_run_definitions.specs.Events.{EventRecord, ParsedEvent, TimedEvent, message_in, parsed_datagram, parsed_event, parsed_from}
use Rattle.mmtel_run_definitions.specs.Events.{parsed_refusal as refused_as, parsed_result, timed_event_of as notice_at, timed_events}
use Rattle.mmtel_run_definitions.specs.Records.{until_of}
use Rattle.mmtel_run_definitions.specs.Refusals.{Disposition, Enter, EnterConference, EnterSubscription, JoinConference, OpenCall, OpenConference, Register, Respond}
use Rattle.mmtel_run_definitions.specs.Refusals.{Subscribe, disposition, disposition_by, disposition_by_method, disposition_in, first_that_applies, in_dialog_disposition}
use Rattle.mmtel_run_definitions.specs.Refusals.{invite_disposition, is_register, refusals, registration_disposition}
use Rattle.mmtel_run_definitions.specs.Ownership.{DialogOwner, InCall, InConference, InSubscription, OfCalls, OfConferences, OfSubscriptions, Owner, account_of_side}
use Rattle.mmtel_run_definitions.specs.Ownership.{is_of_peer, leg_by, owner_of_branch, owner_of_key, replaced_side, replacement_in, status_of_fault}
use Rattle.mmtel_run_definitions.specs.Run.{after_deadline_if, after_due_deadlines, after_event_in_order, after_events, after_one_deadline, clock_at, first_due_deadline, state_after}
use Rattle.mmtel_run_definitions.specs.Subscriptions.{after_checked_request, after_mailbox_upload, after_notify_response, after_refresh_by, after_subscribe_by}
use Rattle.mmtel_run_definitions.specs.Subscriptions.{grant_response, other_response, refusal_response, subscribe_request_of, with_mailbox_op}
use Rattle.mmtel_run_definitions.specs.Transitions.{RunState, adoption_op, after_ack_by, after_adoption_if, after_classified_message, after_service_timer, initial_state, subscriptions_in, with_next_step}
use Rattle.mmtel_run_definitions.specs.Transitions.{after_cancel, after_cancel_of, after_event, calls_in, output_of_conference_op, with_call_output, with_draws, with_emit, with_emits}
use Rattle.mmtel_run_definitions.specs.Transitions.{after_call_end, after_deadline, after_handover, after_participant_request, after_transaction_end}
use Rattle.mmtel_run_definitions.specs.Transitions.{conference_signal_op, dialog_owner_in, received_now, with_received_action}
use Rattle.mmtel_run_definitions.specs.Transitions.{after_conference_op, after_parsed_event, after_refer_notify, join_op, next_tag, opening_op, with_call_op, with_conference_output, with_registration}
use Rattle.mmtel_run_definitions.specs.Transitions.{after_call_signal, after_conference_signal, after_detach, after_due, after_join_if, after_opening_if, after_replaces, after_replacing_named}
use Rattle.mmtel_run_definitions.specs.Transitions.{after_replacing_side, after_request_timeout, after_response_to, after_web_reply, conferences_in, with_response, with_retransmission}
use Rattle.mmtel_run_definitions.specs.Transitions.{after_disposition, after_message, after_newcomer_refusal, tokens_now}
use Rattle.mmtel_run_theorems.specs.Mailboxes.{IsNotify, IsOfCalls, IsOfConferences, IsOfOwner, IsOfTrusted, RequestIsOfOwner}
use Rattle.mmtel_run_theorems.specs.Mailboxes.{IsRefused, RunNotifiesSubscribers, SubscribersAreNotified, UntrustedAreRefused, mailbox_upload_at, mailbox_uploads_in}
use Rattle.mmtel_run_theorems.specs.Mailboxes.{mailbox_uploads_of}
use Rattle.mmtel_run_theorems.proofs.ClientTransactions.{each_found}
use Rattle.mmtel_run_theorems.proofs.RoleBounds.{true_false}

-- ---- lists

each_on : {A : Type 0} (P Q : A → Type 0) (xs : List A) → ((x : A) → P x → Q x) → Each P xs → Each Q xs
each_on P Q [] f e = tt
each_on P Q (x ∷ xs) f e = (f x e.0, each_on P Q xs f e.1)

each_of : {A : Type 0} (P : A → Type 0) (xs : List A) → ((x : A) → IsIn x xs → P x) → Each P xs
each_of P [] f = tt
each_of P (x ∷ xs) f = (f x (inl refl), each_of P xs (λ y is. f y (inr is)))

-- the first with a property, where it is changed or removed
each_changed : {A : Type 0} (P : A → Type 0) (is : A → Bool) (change : A → A) (xs : List A) → ((x : A) → P x → P (change x)) → Each P xs → Each P (changed is change xs)
each_changed P is change [] f e = tt
each_changed P is change (x ∷ xs) f e = go (is x) (each_changed P is change xs f e.1)
  where
    go : (b : Bool) → Each P (changed is change xs) → Each P (if b then change x ∷ xs else x ∷ changed is change xs)
    go true others = (f x e.0, e.1)
    go false others = (e.0, others)

each_without : {A : Type 0} (P : A → Type 0) (is : A → Bool) (xs : List A) → Each P xs → Each P (without is xs)
each_without P is [] e = tt
each_without P is (x ∷ xs) e = go (is x) (each_without P is xs e.1)
  where
    go : (b : Bool) → Each P (without is xs) → Each P (if b then xs else x ∷ without is xs)
    go true others = e.1
    go false others = (e.0, others)

module _ (d : Directory) where
  -- ---- each subscriber is trusted

  -- the subscriber by this operation, if there is one, is trusted
  abbrev IsByTrusted : boxes.TableOp → Type 0
  IsByTrusted (boxes.Puts account counts) = Unit {0}
  IsByTrusted (boxes.Subscribes account leg until) = is_trusted leg.dialogue.peer d.peers.known ≡ true
  IsByTrusted (boxes.Refreshes sub until) = Unit {0}
  IsByTrusted (boxes.Receives sub request) = Unit {0}
  IsByTrusted (boxes.Notifies sub branch) = Unit {0}
  IsByTrusted (boxes.Ends sub) = Unit {0}
  IsByTrusted (boxes.Responds branch code) = Unit {0}

  by_none : (op : boxes.TableOp) → MakesNone op → IsByTrusted op
  by_none (boxes.Puts account counts) none = tt
  by_none (boxes.Subscribes account leg until) none = absurd none
  by_none (boxes.Refreshes sub until) none = tt
  by_none (boxes.Receives sub request) none = tt
  by_none (boxes.Notifies sub branch) none = tt
  by_none (boxes.Ends sub) none = tt
  by_none (boxes.Responds branch code) none = tt

  abbrev AllTrusted : Table → Type 0
  AllTrusted t = Each (IsOfTrusted d) t.live

  ended_trusted : (o : Option SubNo) (t : Table) → AllTrusted t → AllTrusted (table_after_end_if o t)
  ended_trusted None t e = e
  ended_trusted (Some sub) t e = each_without (IsOfTrusted d) (is_numbered sub) t.live e

  answered_trusted : (branch : List ℕ) (code : ℕ) (b : Bool) (t : Table) → AllTrusted t → AllTrusted (if b then settled_in branch (table_after_end_if (subscription_refused_by branch code t) t) else t)
  answered_trusted branch code true t e = ended_trusted (subscription_refused_by branch code t) t e
  answered_trusted branch code false t e = e

  table_after_op_trusted : (op : boxes.TableOp) (t : Table) → IsByTrusted op → AllTrusted t → AllTrusted (table_after_op op t)
  table_after_op_trusted (boxes.Puts account counts) t by e = e
  table_after_op_trusted (boxes.Subscribes account leg until) t by e = each_append (IsOfTrusted d) t.live (subscription (next_sub t) account leg until ∷ []) e (by, tt)
  table_after_op_trusted (boxes.Refreshes sub until) t by e = each_changed (IsOfTrusted d) (is_numbered sub) (renewed_subscription until) t.live (λ s is. is) e
  table_after_op_trusted (boxes.Receives sub request) t by e = each_changed (IsOfTrusted d) (is_numbered sub) (subscription_after_request request) t.live (λ s is. is) e
  table_after_op_trusted (boxes.Notifies sub branch) t by e = each_changed (IsOfTrusted d) (is_numbered sub) subscription_after_notify t.live (λ s is. is) e
  table_after_op_trusted (boxes.Ends sub) t by e = each_without (IsOfTrusted d) (is_numbered sub) t.live e
  table_after_op_trusted (boxes.Responds branch code) t by e = answered_trusted branch code (is_final code) t e

  all_trusted : (ops : List boxes.TableOp) → Each IsByTrusted ops → AllTrusted (table_after ops)
  all_trusted [] e = tt
  all_trusted (op ∷ ops) e = table_after_op_trusted op (table_after ops) e.0 (all_trusted ops e.1)

  -- ---- what was requested is so after further operations

  calls_more : (op : calls.TableOp) (ops : List calls.TableOp) (x : Emit) → IsOfCalls d ops x → IsOfCalls d (op ∷ ops) x
  calls_more op ops x o = record { newer = op ∷ o.newer; older = o.older; operation = o.operation; done = ap (λ (l : List calls.TableOp). op ∷ l) o.done; out = o.out }

  rooms_more : (op : rooms.TableOp) (ops : List rooms.TableOp) (x : Emit) → IsOfConferences d ops x → IsOfConferences d (op ∷ ops) x
  rooms_more op ops x o = record { newer = op ∷ o.newer; older = o.older; operation = o.operation; done = ap (λ (l : List rooms.TableOp). op ∷ l) o.done; out = o.out }

  notice_more : (op : boxes.TableOp) (ops : List boxes.TableOp) (peer : Peer) (message : Message Start) (at : ℕ) → IsNotify d ops peer message at → IsNotify d (op ∷ ops) peer message at
  notice_more op ops peer message at n = record {
    newer = op ∷ n.newer;
    older = n.older;
    sub = n.sub;
    branch = n.branch;
    done = ap (λ (l : List boxes.TableOp). op ∷ l) n.done;
    subscription = n.subscription;
    active = n.active;
    to = n.to;
    trusted = n.trusted;
    last = n.last;
    is = n.is;
  }

  module _ (c : List calls.TableOp) (r : List rooms.TableOp) (b : List boxes.TableOp) where
    calls_on : (op : calls.TableOp) (x : TransactionOp) → RequestIsOfOwner d c r b x → RequestIsOfOwner d (op ∷ c) r b x
    calls_on op (DidBegin step) a = tt
    calls_on op (DidHear peer message at taken) a = tt
    calls_on op (DidAsk peer message at) (inl a) = inl (calls_more op c (emit.Ask peer message) a)
    calls_on op (DidAsk peer message at) (inr a) = inr a
    calls_on op (DidReply key message at) a = tt
    calls_on op (DidAck key message) a = tt
    calls_on op (DidFire key) a = tt
    calls_on op (DidSettle key own) a = tt

    rooms_on : (op : rooms.TableOp) (x : TransactionOp) → RequestIsOfOwner d c r b x → RequestIsOfOwner d c (op ∷ r) b x
    rooms_on op (DidBegin step) a = tt
    rooms_on op (DidHear peer message at taken) a = tt
    rooms_on op (DidAsk peer message at) (inl a) = inl a
    rooms_on op (DidAsk peer message at) (inr (inl a)) = inr (inl (rooms_more op r (emit.Ask peer message) a))
    rooms_on op (DidAsk peer message at) (inr (inr a)) = inr (inr a)
    rooms_on op (DidReply key message at) a = tt
    rooms_on op (DidAck key message) a = tt
    rooms_on op (DidFire key) a = tt
    rooms_on op (DidSettle key own) a = tt

    boxes_on : (op : boxes.TableOp) (x : TransactionOp) → RequestIsOfOwner d c r b x → RequestIsOfOwner d c r (op ∷ b) x
    boxes_on op (DidBegin step) a = tt
    boxes_on op (DidHear peer message at taken) a = tt
    boxes_on op (DidAsk peer message at) (inl a) = inl a
    boxes_on op (DidAsk peer message at) (inr (inl a)) = inr (inl a)
    boxes_on op (DidAsk peer message at) (inr (inr a)) = inr (inr (notice_more op b peer message at a))
    boxes_on op (DidReply key message at) a = tt
    boxes_on op (DidAck key message) a = tt
    boxes_on op (DidFire key) a = tt
    boxes_on op (DidSettle key own) a = tt

  -- ---- what holds for a state in which these counts of mailboxes were set

  record Sound (said : List (Account × Counts)) (w : RunState) : Type 0 where
    puts : mailbox_uploads_in w.mailbox_ops ≡ said
    by : Each IsByTrusted w.mailbox_ops
    asks : Each (RequestIsOfOwner d w.call_ops w.conference_ops w.mailbox_ops) w.actions

  -- it sets no counts
  none_put : (op : boxes.TableOp) (ops : List boxes.TableOp) → MakesNone op → mailbox_uploads_in (op ∷ ops) ≡ mailbox_uploads_in ops
  none_put (boxes.Puts account counts) ops none = absurd none
  none_put (boxes.Subscribes account leg until) ops none = refl
  none_put (boxes.Refreshes sub until) ops none = refl
  none_put (boxes.Receives sub request) ops none = refl
  none_put (boxes.Notifies sub branch) ops none = refl
  none_put (boxes.Ends sub) ops none = refl
  none_put (boxes.Responds branch code) ops none = refl

  -- one that is sent then is of one of these
  abbrev GoesSo : List calls.TableOp → List rooms.TableOp → List boxes.TableOp → (at : ℕ) → Emit → Type 0
  GoesSo c r b at (emit.Ask peer message) = IsOfOwner d c r b peer message at
  GoesSo c r b at (emit.Reply key message) = Unit {0}
  GoesSo c r b at (emit.Plain peer text) = Unit {0}
  GoesSo c r b at (emit.Ack key message) = Unit {0}
  GoesSo c r b at (emit.Settled key own) = Unit {0}
  GoesSo c r b at (emit.Arm call what when) = Unit {0}
  GoesSo c r b at (emit.ArmSeat room seat what when) = Unit {0}

  module _ (said : List (Account × Counts)) where
    emitted_sound : (at : ℕ) (xs : List Emit) (w : RunState) → Each (GoesSo w.call_ops w.conference_ops w.mailbox_ops at) xs → Sound said w → Sound said (with_emits at xs w)
    emitted_sound at [] w e g = g
    emitted_sound at (emit.Ask peer message ∷ xs) w e g = emitted_sound at xs (with_emit at (emit.Ask peer message) w) e.1 (record { puts = g.puts; by = g.by; asks = (e.0, g.asks) })
    emitted_sound at (emit.Reply key message ∷ xs) w e g = emitted_sound at xs (with_emit at (emit.Reply key message) w) e.1 (record { puts = g.puts; by = g.by; asks = (tt, g.asks) })
    emitted_sound at (emit.Plain peer text ∷ xs) w e g = emitted_sound at xs (with_emit at (emit.Plain peer text) w) e.1 (record { puts = g.puts; by = g.by; asks = g.asks })
    emitted_sound at (emit.Ack key message ∷ xs) w e g = emitted_sound at xs (with_emit at (emit.Ack key message) w) e.1 (record { puts = g.puts; by = g.by; asks = (tt, g.asks) })
    emitted_sound at (emit.Settled key own ∷ xs) w e g = emitted_sound at xs (with_emit at (emit.Settled key own) w) e.1 (record { puts = g.puts; by = g.by; asks = (tt, g.asks) })
    emitted_sound at (emit.Arm call what when ∷ xs) w e g = emitted_sound at xs (with_emit at (emit.Arm call what when) w) e.1 (record { puts = g.puts; by = g.by; asks = g.asks })
    emitted_sound at (emit.ArmSeat room seat what when ∷ xs) w e g =
        emitted_sound at xs (with_emit at (emit.ArmSeat room seat what when) w) e.1 (record { puts = g.puts; by = g.by; asks = g.asks })

    -- ---- an operation on calls, and one on conferences

    lending_sound : (op : calls.TableOp) (w : RunState) → Sound said w → Sound said (with_call_op op w)
    lending_sound op w g = record {
      puts = g.puts;
      by = g.by;
      asks = each_on (RequestIsOfOwner d w.call_ops w.conference_ops w.mailbox_ops) (RequestIsOfOwner d (op ∷ w.call_ops) w.conference_ops w.mailbox_ops) w.actions
          (calls_on w.call_ops w.conference_ops w.mailbox_ops op) g.asks;
    }

    of_calls : (at : ℕ) (op last : calls.TableOp) (w : RunState) (x : Emit) → IsIn x (out_by (call_config d) op (calls_in d w)) → GoesSo (last ∷ op ∷ w.call_ops) w.conference_ops w.mailbox_ops at x
    of_calls at op last w (emit.Ask peer message) is = inl (record { newer = last ∷ []; older = w.call_ops; operation = op; done = refl; out = is })
    of_calls at op last w (emit.Reply key message) is = tt
    of_calls at op last w (emit.Plain peer text) is = tt
    of_calls at op last w (emit.Ack key message) is = tt
    of_calls at op last w (emit.Settled key own) is = tt
    of_calls at op last w (emit.Arm call what when) is = tt
    of_calls at op last w (emit.ArmSeat room seat what when) is = tt

    bringing_sound : (at : ℕ) (op : calls.TableOp) (output : StepOutput) (w : RunState) → output.out ≡ out_by (call_config d) op (calls_in d w) → Sound said w → Sound said (with_call_output at op output w)
    bringing_sound at op output w out g =
        let last : calls.TableOp = Drops (length output.rows) in
        let v : RunState = record w { call_ops = last ∷ op ∷ w.call_ops; drawn = output.tokens.drawn; waiting = w.waiting ++ output.rows } in
        let done : Sound said (with_call_op last (with_call_op op w)) = lending_sound last (with_call_op op w) (lending_sound op w g) in
        emitted_sound at output.out v
        (each_of (GoesSo (last ∷ op ∷ w.call_ops) w.conference_ops w.mailbox_ops at) output.out (λ x is. of_calls at op last w x (subst (λ (xs : List Emit). IsIn x xs) out is)))
        (record { puts = done.puts; by = done.by; asks = done.asks })

    of_rooms : (at : ℕ) (op last : rooms.TableOp) (w : RunState) (x : Emit) → IsIn x (output_of_conference_op d op w).out → GoesSo w.call_ops (last ∷ op ∷ w.conference_ops) w.mailbox_ops at x
    of_rooms at op last w (emit.Ask peer message) is = inr (inl (record { newer = last ∷ []; older = w.conference_ops; operation = op; done = refl; out = is }))
    of_rooms at op last w (emit.Reply key message) is = tt
    of_rooms at op last w (emit.Plain peer text) is = tt
    of_rooms at op last w (emit.Ack key message) is = tt
    of_rooms at op last w (emit.Settled key own) is = tt
    of_rooms at op last w (emit.Arm call what when) is = tt
    of_rooms at op last w (emit.ArmSeat room seat what when) is = tt

    housing_sound : (op : rooms.TableOp) (w : RunState) → Sound said w → Sound said (record w { conference_ops = op ∷ w.conference_ops })
    housing_sound op w g = record {
      puts = g.puts;
      by = g.by;
      asks = each_on (RequestIsOfOwner d w.call_ops w.conference_ops w.mailbox_ops) (RequestIsOfOwner d w.call_ops (op ∷ w.conference_ops) w.mailbox_ops) w.actions
          (rooms_on w.call_ops w.conference_ops w.mailbox_ops op) g.asks;
    }

    lodging_sound : (at : ℕ) (op : rooms.TableOp) (w : RunState) → Sound said w → Sound said (with_conference_output at op (output_of_conference_op d op w) w)
    lodging_sound at op w g =
        let output : StepOutput = output_of_conference_op d op w in
        let last : rooms.TableOp = rooms.Drops (length output.rows) in
        let v : RunState = record w { conference_ops = last ∷ op ∷ w.conference_ops; waiting = w.waiting ++ output.rows } in
        let one : RunState = record w { conference_ops = op ∷ w.conference_ops } in
        let done : Sound said (record one { conference_ops = last ∷ one.conference_ops }) = housing_sound last one (housing_sound op w g) in
        emitted_sound at output.out v (each_of (GoesSo w.call_ops (last ∷ op ∷ w.conference_ops) w.mailbox_ops at) output.out (of_rooms at op last w)) (record { puts = done.puts; by = done.by; asks = done.asks })

    housed_sound : (at : ℕ) (op : rooms.TableOp) (w : RunState) → Sound said w → Sound said (after_conference_op d at op w)
    housed_sound at op w g = lodging_sound at op (record w { drawn = (output_of_conference_op d op w).tokens.drawn }) (record { puts = g.puts; by = g.by; asks = g.asks })

    -- ---- an operation on mailboxes

    noting_sound : (op : boxes.TableOp) (w : RunState) → MakesNone op → Sound said w → Sound said (with_mailbox_op op w)
    noting_sound op w none g = record {
      puts = none_put op w.mailbox_ops none ∙ g.puts;
      by = (by_none op none, g.by);
      asks = each_on (RequestIsOfOwner d w.call_ops w.conference_ops w.mailbox_ops) (RequestIsOfOwner d w.call_ops w.conference_ops (op ∷ w.mailbox_ops)) w.actions
          (boxes_on w.call_ops w.conference_ops w.mailbox_ops op) g.asks;
    }

    module _ (token : List ℕ) (counts : (ops : List boxes.TableOp) (account : Account) → counts_in account (table_after ops) ≡ last_counts ops account) where
      signalled_sound : (at : ℕ) (x : Signal) (w : RunState) → Sound said w → Sound said (after_call_signal d token at x w)
      signalled_sound at x w g = bringing_sound at (Receives (received_now token at x w)) (step_on_receive_after (call_config d) w.call_ops (received_now token at x w)).output w refl g

      finishing_sound : (at : ℕ) (call : CallNo) (w : RunState) → Sound said w → Sound said (after_call_end d token at call w)
      finishing_sound at call w g = bringing_sound at (Finishes call.0 at (tokens_now token w)) (step_on_finish (call_config d) call.0 at (tokens_now token w) (calls_in d w)).output w refl g

      seated_sound : (at : ℕ) (x : RoomSignal) (w : RunState) → Sound said w → Sound said (after_conference_signal d token at x w)
      seated_sound at x w g = housed_sound at (conference_signal_op token at x w) w g

      noticed_sound : (at : ℕ) (room : RoomNo) (seat code : ℕ) (w : RunState) → Sound said w → Sound said (after_refer_notify d token at room seat code w)
      noticed_sound at room seat code w g = housed_sound at (rooms.Notifies room.0 seat code (tokens_now token w)) w g

      replying_sound : (at : ℕ) (key : TKey) (s : MessageView) (answer : StatusResponse) (w : RunState) → Sound said w → Sound said (with_response d token at key s answer w)
      replying_sound at key s answer w g = record { puts = g.puts; by = g.by; asks = (tt, g.asks) }

      -- ---- a NOTIFY

      notice_so : (at : ℕ) (sub : SubNo) (last : Bool) (peer : Peer) (message : Message Start) (w : RunState) (o : Option Subscription) → subscription_numbered sub (subscriptions_in w) ≡ o →
          Each IsByTrusted w.mailbox_ops →
          option_map (λ (s : Subscription). s.leg.dialogue.peer) o ≡ Some peer → option_map (notify_request_of d.sip last (next_tag token w) at (subscriptions_in w)) o ≡ Some message →
          IsNotify d (boxes.Notifies sub (next_tag token w) ∷ w.mailbox_ops) peer message at
      notice_so at sub last peer message w None e by to is = absurd (let none : None ≡ Some peer = to in cc)
      notice_so at sub last peer message w (Some s) e by to is =
          let its : s.leg.dialogue.peer ≡ peer = cc in
          let same : notify_request_of d.sip last (next_tag token w) at (subscriptions_in w) s ≡ message = cc in
          record {
            newer = [];
            older = w.mailbox_ops;
            sub = sub;
            branch = next_tag token w;
            done = refl;
            subscription = s;
            active = e;
            to = sym its;
            trusted = (each_found (IsOfTrusted d) (is_numbered sub) (subscriptions_in w).live s (all_trusted w.mailbox_ops by) e).0;
            last = last;
            is = sym same ∙ ap (notify_request_in d.sip s.leg.dialogue (next_tag token w) last (remaining_seconds s.until at)) (counts w.mailbox_ops s.account);
          }

      are_steps : (at : ℕ) → AreSteps d token at (λ w v. Sound said w → Sound said v)
      are_steps at = record {
        same = λ w g. g;
        next = λ u v w f h g. h (f g);
        notes = λ op w none g. noting_sound op w none g;
        draws = λ w g. record { puts = g.puts; by = g.by; asks = g.asks };
        arms = λ armed w g. record { puts = g.puts; by = g.by; asks = g.asks };
        asks = λ sub last peer message w lives is g.
            record { puts = g.puts; by = g.by; asks = (inr (inr (notice_so at sub last peer message w (subscription_numbered sub (subscriptions_in w)) refl g.by.1 lives is)), g.asks) };
      }

      -- ---- timers

      answered_sound : (branch : Option (List ℕ)) (code : ℕ) (w : RunState) → Sound said w → Sound said (after_notify_response branch code w)
      answered_sound = steps.answered (λ w v. Sound said w → Sound said v) (λ w g. g) (λ op w none g. noting_sound op w none g)

      silenced_sound : (at : ℕ) (branch method : List ℕ) (whose : Owner) (w : RunState) → Sound said w → Sound said (after_request_timeout d token at branch method whose w)
      silenced_sound at branch method OfCalls w g = signalled_sound at (signal.Silent branch method) w g
      silenced_sound at branch method OfSubscriptions w g = answered_sound (behind_cookie branch) 408 w g
      silenced_sound at branch method OfConferences w g = seated_sound at (of_room.Silent branch method) w g

      over_sound : (at : ℕ) (key : TKey) (whose : Owner) (w : RunState) → Sound said w → Sound said (after_transaction_end d token at key whose w)
      over_sound at key OfCalls w g = signalled_sound at (signal.Over key) w g
      over_sound at key OfSubscriptions w g = g
      over_sound at key OfConferences w g = seated_sound at (of_room.Over key) w g

      rung_sound : (x : Due) (w : RunState) → Sound said w → Sound said (after_due d token x w)
      rung_sound (due.Again peer at text) w g = record { puts = g.puts; by = g.by; asks = g.asks }
      rung_sound (due.Silent key branch method at) w g =
          silenced_sound at branch method (owner_of_branch (timed_out_branch branch method) (behind_cookie branch) (calls_in d w).entries (subscriptions_in w)) w g
      rung_sound (due.Over key at) w g = over_sound at key (owner_of_key key (calls_in d w).entries) w g
      rung_sound due.Nothing w g = g

      begun_sound : (w : RunState) → Sound said w → Sound said (with_next_step w)
      begun_sound w g = record { puts = g.puts; by = g.by; asks = (tt, g.asks) }

      fires_sound : (o : Option DueEntryView) (w : RunState) → Sound said w → Sound said (record w { actions = after_firing w.actions o })
      fires_sound None w g = g
      fires_sound (Some next) w g = record { puts = g.puts; by = g.by; asks = (tt, g.asks) }

      alarmed_sound : (at : ℕ) (x : ServiceTimer) (w : RunState) → Sound said w → Sound said (after_service_timer d token at x w)
      alarmed_sound at (OfCall call what) w g = signalled_sound at (signal.Due call what) w g
      alarmed_sound at (OfParticipant room seat what) w g = seated_sound at (of_room.Due room seat what) w g
      alarmed_sound at (OfSubscription sub set) w g = steps.ends d token at (λ w v. Sound said w → Sound said v) (are_steps at) sub set w g

      fired_sound : (now : ℕ) (x : Deadline) (w : RunState) → Sound said w → Sound said (after_deadline d token now x w)
      fired_sound now OfTransaction w g =
          let next : Option DueEntryView = next_due now (live (with_next_step w).actions) in
          rung_sound (due_result next) (record (with_next_step w) { actions = after_firing (with_next_step w).actions next }) (fires_sound next (with_next_step w) (begun_sound w g))
      fired_sound now (OfServiceTimer armed others) w g =
          alarmed_sound armed.at armed.timer (record (with_next_step w) { pending_timers = others }) (let b : Sound said (with_next_step w) = begun_sound w g in record { puts = b.puts; by = b.by; asks = b.asks })

      if_fired_sound : (now : ℕ) (o : Option Deadline) (w : RunState) → Sound said w → Sound said (after_deadline_if d token now o w)
      if_fired_sound now None w g = g
      if_fired_sound now (Some x) w g = fired_sound now x w g

      settled_sound : (fuel now : ℕ) (w : RunState) → Sound said w → Sound said (after_due_deadlines d token fuel now w)
      settled_sound zero now w g = g
      settled_sound (suc fuel) now w g = settled_sound fuel now (after_one_deadline d token now w) (if_fired_sound now (first_due_deadline now w) w g)

      -- ---- messages

      module _ (at : ℕ) (s : MessageView) (trust : s.parsed.trusted ≡ is_trusted s.peer d.peers.known) where
        turned_away_sound : (key : TKey) (tag : List ℕ) (code : ℕ) (w : RunState) → Sound said w → Sound said (after_newcomer_refusal d at key s tag code w)
        turned_away_sound key tag code w g = record { puts = g.puts; by = g.by; asks = (tt, g.asks) }

        room_opened_sound : (key : TKey) (tag : List ℕ) (b : Bool) (w : RunState) → Sound said w → Sound said (after_opening_if d at key s tag b w)
        room_opened_sound key tag true w g = turned_away_sound key tag 503 w g
        room_opened_sound key tag false w g = lodging_sound at (opening_op d at key s tag) w g

        room_joined_sound : (key : TKey) (room : RoomNo) (tag : List ℕ) (r : Result ℕ RoomFault) (w : RunState) → Sound said w → Sound said (after_join_if d token at key s room tag r w)
        room_joined_sound key room tag (Err fault) w g = turned_away_sound key tag (status_of_fault fault) w g
        room_joined_sound key room tag (Ok place) w g = housed_sound at (join_op d at key s room tag (tokens_now token w)) w g

        adopting_sound : (room : RoomNo) (seat : ℕ) (call : CallNo) (leg : Released) (account : Option Account) (r : Result ℕ RoomFault) (w : RunState) → Sound said w →
            Sound said (after_adoption_if d token at room seat call leg account r w)
        adopting_sound room seat call leg account (Ok place) w g =
            let op : rooms.TableOp = adoption_op token at room seat leg account w in
            finishing_sound at call (after_conference_op d at op w) (housed_sound at op w g)
        adopting_sound room seat call leg account (Err fault) w g = noticed_sound at room seat 503 (with_call_op (Restores call.0 leg) w) (lending_sound (Restores call.0 leg) w g)

        taken_out_sound : (room : RoomNo) (seat : ℕ) (call : CallNo) (side : Side) (account : Option Account) (o : Option Released) (w : RunState) → Sound said w →
            Sound said (after_detach d token at room seat call side account o w)
        taken_out_sound room seat call side account None w g = noticed_sound at room seat 491 w g
        taken_out_sound room seat call side account (Some leg) w g =
            adopting_sound room seat call leg account (access room.0 (conferences_in d w).live) (with_call_op (Releases call.0 side) w) (lending_sound (Releases call.0 side) w g)

        with_sound : (room : RoomNo) (seat : ℕ) (call : CallNo) (side : Side) (b : Bool) (w : RunState) → Sound said w → Sound said (after_replacing_side d token at room seat call side b w)
        with_sound room seat call side false w g = noticed_sound at room seat 481 w g
        with_sound room seat call side true w g =
            taken_out_sound room seat call (other_side side) (account_of_side call (other_side side) (calls_in d w).entries) (released_leg_of call.0 (other_side side) (calls_in d w).entries) w g

        by_sound : (peer : Peer) (room : RoomNo) (seat : ℕ) (o : Option (CallNo × Side)) (w : RunState) → Sound said w → Sound said (after_replacing_named d token at peer room seat o w)
        by_sound peer room seat None w g = noticed_sound at room seat 481 w g
        by_sound peer room seat (Some named) w g = with_sound room seat named.0 named.1 (is_of_peer peer (party named.0.0 named.1 (calls_in d w).entries)) w g

        replacing_sound : (peer : Peer) (room : RoomNo) (seat : ℕ) (o : Option Replaces) (w : RunState) → Sound said w → Sound said (after_replaces d token at peer room seat o w)
        replacing_sound peer room seat None w g = g
        replacing_sound peer room seat (Some r) w g =
            let v : RunState = after_refer_notify d token at room seat 100 w in
            by_sound peer room seat (replaced_side r (calls_in d v).entries) v (noticed_sound at room seat 100 w g)

        entering_sound : (key : TKey) (room : RoomNo) (seat : ℕ) (w : RunState) → Sound said w → Sound said (after_participant_request d token at key s room seat w)
        entering_sound key room seat w g =
            let x : RoomSignal = of_room.Request room seat key s in
            replacing_sound s.peer room seat (replacement_in s.parsed (output_of_conference_op d (conference_signal_op token at x w) w).out) (after_conference_signal d token at x w) (seated_sound at x w g)

        -- a SUBSCRIBE that nothing refuses is of a trusted peer
        may_trust : (b : Bool) (other : Option ℕ) → (if not b then Some 403 else other) ≡ None → b ≡ true
        may_trust true other e = refl
        may_trust false other e = absurd (let none : Some 403 ≡ None = e in cc)

        are_answers : (key : TKey) → AreResponses d token at (λ w v. Sound said w → Sound said v) key s (IsRefusal d s)
        are_answers key = record {
          reads = λ within. refl;
          subscribes = λ account until w may g. record {
            puts = g.puts;
            by = (sym trust ∙ may_trust s.parsed.trusted _ may, g.by);
            asks = each_on (RequestIsOfOwner d w.call_ops w.conference_ops w.mailbox_ops)
                (RequestIsOfOwner d w.call_ops w.conference_ops (boxes.Subscribes account (leg_by (next_tag token w) s) until ∷ w.mailbox_ops)) w.actions
                (boxes_on w.call_ops w.conference_ops w.mailbox_ops (boxes.Subscribes account (leg_by (next_tag token w) s) until)) g.asks;
          };
          grants = λ op seconds w may g. record { puts = g.puts; by = g.by; asks = (tt, g.asks) };
          renews = λ seconds w may g. replying_sound at key s (grant_response seconds) w g;
          refuses = λ within code w may g. replying_sound at key s (refusal_response code) w g;
          denies = λ code w above g. replying_sound at key s (plain_response code) w g;
          others = λ w no g. replying_sound at key s (other_response d s.parsed) w g;
        }

        taking_sound : (key : TKey) (c : Disposition) (w : RunState) → Sound said w → Sound said (after_disposition d token at key s c w)
        taking_sound key (Respond answer) w g = replying_sound at key s answer w g
        taking_sound key (Enter call side) w g = signalled_sound at (signal.Request call side key s) w g
        taking_sound key (EnterConference room seat) w g = entering_sound key room seat w g
        taking_sound key OpenCall w g = signalled_sound at (arrival_signal d.names.accounts key s) w g
        taking_sound key OpenConference w g =
            room_opened_sound key (next_tag token w) (is_table_full (conferences_in d w).live) (with_draws 1 w) (record { puts = g.puts; by = g.by; asks = g.asks })
        taking_sound key (JoinConference room) w g =
            room_joined_sound key room (next_tag token w) (access room.0 (conferences_in d w).live) (with_draws 1 w) (record { puts = g.puts; by = g.by; asks = g.asks })
        taking_sound key (Register account seconds) w g =
            replying_sound at key s (plain_response 200) (with_registration account (until_of at seconds) w) (record { puts = g.puts; by = g.by; asks = g.asks })
        taking_sound key Subscribe w g = steps.subscribes d token at (λ w v. Sound said w → Sound said v) (are_steps at) key s (IsRefusal d s) (are_answers key) w g
        taking_sound key (EnterSubscription sub) w g = steps.enters d token at (λ w v. Sound said w → Sound said v) (are_steps at) key s (IsRefusal d s) (are_answers key) sub w g

        repeating_sound : (o : Option (Peer × List ℕ)) (w : RunState) → Sound said w → Sound said (with_retransmission at o w)
        repeating_sound None w g = g
        repeating_sound (Some sent) w g = record { puts = g.puts; by = g.by; asks = g.asks }

        cancelling_call_sound : (key invite : TKey) (o : Option (CallNo × Side)) (w : RunState) → Sound said w → Sound said (after_cancel_of d token at key s invite o w)
        cancelling_call_sound key invite None w g = replying_sound at key s (plain_response 200) w g
        cancelling_call_sound key invite (Some asked) w g = signalled_sound at (signal.Cancel asked.0 key s invite) w g

        cancelling_sound : (key : TKey) (invite : Option TKey) (w : RunState) → Sound said w → Sound said (after_cancel d token at key s invite w)
        cancelling_sound key None w g = replying_sound at key s (plain_response 481) w g
        cancelling_sound key (Some invite) w g = cancelling_call_sound key invite (call_of_invite invite (calls_in d w).entries) w g

        acknowledging_sound : (o : Option DialogOwner) (w : RunState) → Sound said w → Sound said (after_ack_by d token at s o w)
        acknowledging_sound None w g = g
        acknowledging_sound (Some (InCall call side)) w g = signalled_sound at (signal.Ack call side s) w g
        acknowledging_sound (Some (InConference room seat)) w g = seated_sound at (of_room.Ack room seat s) w g
        acknowledging_sound (Some (InSubscription sub)) w g = g

        responding_sound : (key : TKey) (whose : Owner) (w : RunState) → Sound said w → Sound said (after_response_to d token at key s whose w)
        responding_sound key OfCalls w g = signalled_sound at (signal.Answer key s) w g
        responding_sound key OfSubscriptions w g = answered_sound (branch_in s.parsed.vias) (status_of s.parsed.start) w g
        responding_sound key OfConferences w g = seated_sound at (of_room.Answer key s) w g

        answering_sound : (o : Option transaction.Heard) (w : RunState) → Sound said w → Sound said (after_classified_message d token at s o w)
        answering_sound None w g = record { puts = g.puts; by = g.by; asks = g.asks }
        answering_sound (Some (heard.Fresh key message)) w g =
            taking_sound key (disposition d (is_merged key.0 (live w.actions)) (are_full (calls_in d w).entries) (dialog_owner_in d s.parsed w) s.parsed) w g
        answering_sound (Some (heard.Answer key message)) w g =
            responding_sound key (owner_of_branch (awaited_request_branch s) (branch_in s.parsed.vias) (calls_in d w).entries (subscriptions_in w)) w g
        answering_sound (Some (heard.Repeat sent)) w g = repeating_sound sent w g
        answering_sound (Some (heard.Acked key)) w g = g
        answering_sound (Some (heard.Cancel key invite message)) w g = cancelling_sound key invite w g
        answering_sound (Some (heard.AckOf2xx message)) w g = acknowledging_sound (dialog_owner_in d s.parsed w) w g
        answering_sound (Some heard.Stray) w g = g

        receiving_sound : (o : Option transaction.Heard) (w : RunState) → Sound said w → Sound said (with_received_action at s o w)
        receiving_sound None w g = g
        receiving_sound (Some taken) w g = record { puts = g.puts; by = g.by; asks = (tt, g.asks) }

        after_message_sound : (w : RunState) → Sound said w → Sound said (after_message d token at s w)
        after_message_sound w g =
            let taken = hear_result w.actions s.peer (message_in s.parsed) in
            answering_sound taken (with_received_action at s taken w) (receiving_sound taken w g)

      handing_sound : (took : Bool) (rows : List Row) (w : RunState) → Sound said w → Sound said (after_handover took rows w)
      handing_sound took [] w g = g
      handing_sound false (row ∷ rows) w g = g
      handing_sound true (row ∷ rows) w g = record { puts = g.puts; by = g.by; asks = g.asks }

  -- ---- events

  -- the message is marked as that of a trusted peer exactly where its peer is trusted
  abbrev IsOwnTrust : ParsedEvent → Type 0
  IsOwnTrust events.Nothing = Unit {0}
  IsOwnTrust (events.Refused peer source reply) = Unit {0}
  IsOwnTrust (events.Received s) = s.parsed.trusted ≡ is_trusted s.peer d.peers.known
  IsOwnTrust (events.WebRequested request kept rows) = Unit {0}

  -- the upload to a mailbox that was accepted in it
  abbrev put_by : ParsedEvent → Option (Account × Counts)
  put_by events.Nothing = None
  put_by (events.Refused peer source reply) = None
  put_by (events.Received s) = None
  put_by (events.WebRequested request kept rows) = counts_put_in d.names request kept

  -- the counts that are set then
  abbrev also : List (Account × Counts) → Option (Account × Counts) → List (Account × Counts)
  also said None = said
  also said (Some put) = said ++ put ∷ []

  module _ (token : List ℕ) (counts : (ops : List boxes.TableOp) (account : Account) → counts_in account (table_after ops) ≡ last_counts ops account) where
    putting_sound : (said : List (Account × Counts)) (at : ℕ) (o : Option (Account × Counts)) (w : RunState) → Sound said w → Sound (also said o) (after_mailbox_upload d token at o w)
    putting_sound said at None w g = g
    putting_sound said at (Some put) w g =
        let op : boxes.TableOp = boxes.Puts put.0 put.1 in
        let more : List (Account × Counts) = said ++ put ∷ [] in
        steps.tells_each d token at (λ w v. Sound more w → Sound more v) (are_steps more token counts at) (subscribers_of put.0 (subscriptions_in w)) (with_mailbox_op op w) (record {
          puts = ap (λ (l : List (Account × Counts)). l ++ put ∷ []) g.puts;
          by = (tt, g.by);
          asks = each_on (RequestIsOfOwner d w.call_ops w.conference_ops w.mailbox_ops) (RequestIsOfOwner d w.call_ops w.conference_ops (op ∷ w.mailbox_ops)) w.actions
              (boxes_on w.call_ops w.conference_ops w.mailbox_ops op) g.asks;
        })

    met_sound : (said : List (Account × Counts)) (at : ℕ) (x : ParsedEvent) (w : RunState) → IsOwnTrust x → Sound said w → Sound (also said (put_by x)) (after_parsed_event d token at x w)
    met_sound said at events.Nothing w own g = g
    met_sound said at (events.Refused peer source reply) w own g = record { puts = g.puts; by = g.by; asks = g.asks }
    met_sound said at (events.Received s) w own g = after_message_sound said token counts at s own w g
    met_sound said at (events.WebRequested request kept rows) w own g =
        putting_sound said at (counts_put_in d.names request kept) (after_web_reply d at request kept rows w) (record { puts = g.puts; by = g.by; asks = g.asks })

    came_sound : (said : List (Account × Counts)) (at : ℕ) (x : ParsedEvent) (took : Bool) (w : RunState) → IsOwnTrust x → Sound said w → Sound (also said (put_by x)) (after_event d token at x took w)
    came_sound said at x took w own g =
        let begins : RunState = record (with_next_step w) { clock = at } in
        let left : RunState = after_parsed_event d token at x begins in
        let b : Sound said (with_next_step w) = begun_sound said token counts w g in
        handing_sound (also said (put_by x)) token counts took left.waiting left (met_sound said at x begins own (record { puts = b.puts; by = b.by; asks = b.asks }))

    -- ---- what is read of an event

    refused_own : (peer : Peer) (source : Addr) (o : Option (Message Start)) → IsOwnTrust (refused_as peer source o)
    refused_own peer source None = tt
    refused_own peer source (Some reply) = tt

    refused_put : (peer : Peer) (source : Addr) (o : Option (Message Start)) → put_by (refused_as peer source o) ≡ None
    refused_put peer source None = refl
    refused_put peer source (Some reply) = refl

    read_own : (peer : Peer) (source : Addr) (r : Read) → IsOwnTrust (parsed_result d.peers peer source r)
    read_own peer source (Ok message) = refl
    read_own peer source (Err (fault.TooLarge reply)) = refused_own peer source reply
    read_own peer source (Err fault.NotSip) = tt
    read_own peer source (Err (fault.TooMany reply)) = refused_own peer source reply
    read_own peer source (Err (fault.Bad at reply)) = refused_own peer source reply
    read_own peer source (Err fault.NoMemory) = tt

    read_put : (peer : Peer) (source : Addr) (r : Read) → put_by (parsed_result d.peers peer source r) ≡ None
    read_put peer source (Ok message) = refl
    read_put peer source (Err (fault.TooLarge reply)) = refused_put peer source reply
    read_put peer source (Err fault.NotSip) = refl
    read_put peer source (Err (fault.TooMany reply)) = refused_put peer source reply
    read_put peer source (Err (fault.Bad at reply)) = refused_put peer source reply
    read_put peer source (Err fault.NoMemory) = refl

    from_own : (source : Addr) (bytes : List ℕ) (o : Option Peer) → IsOwnTrust (parsed_from d.peers source bytes o)
    from_own source bytes None = tt
    from_own source bytes (Some peer) = read_own peer source (read_result bytes)

    from_put : (source : Addr) (bytes : List ℕ) (o : Option Peer) → put_by (parsed_from d.peers source bytes o) ≡ None
    from_put source bytes None = refl
    from_put source bytes (Some peer) = read_put peer source (read_result bytes)

    datagram_own : (source : Addr) (bytes : List ℕ) → IsOwnTrust (parsed_datagram d source bytes)
    unfolding parsed_datagram
    datagram_own source bytes = from_own source bytes (peer_at source d.peers.known)

    datagram_put : (source : Addr) (bytes : List ℕ) → put_by (parsed_datagram d source bytes) ≡ None
    unfolding parsed_datagram
    datagram_put source bytes = from_put source bytes (peer_at source d.peers.known)

    event_own : (e : Event) (kept : KeeperOutcomeView) (rows : List Row) → IsOwnTrust (parsed_event d e kept rows)
    event_own (event.Datagram from at bytes) kept rows = datagram_own from bytes
    event_own (event.Web at bytes) kept rows = tt
    event_own (event.Quiet at) kept rows = tt

    event_put : (e : Event) (kept : KeeperOutcomeView) (rows : List Row) → put_by (parsed_event d e kept rows) ≡ mailbox_upload_at d.names e kept
    event_put (event.Datagram from at bytes) kept rows = datagram_put from bytes
    event_put (event.Web at bytes) kept rows = refl
    event_put (event.Quiet at) kept rows = refl

    -- ---- a run

    also_more : (said more : List (Account × Counts)) (o : Option (Account × Counts)) → also said o ++ more ≡ said ++ (option_to_list o ++ more)
    also_more said more None = refl
    also_more said more (Some put) = append_assoc said (put ∷ []) more

    after_sound : (fuel : ℕ) (recorded : List EventRecord) (said : List (Account × Counts)) (w : RunState) → Sound said w →
        Sound (said ++ mailbox_uploads_of d.names recorded) (after_events d token fuel (timed_events d recorded) w)
    after_sound fuel [] said w g = subst (λ (l : List (Account × Counts)). Sound l w) (sym (append-nil said)) g
    after_sound fuel (x ∷ recorded) said w g =
        let n : TimedEvent = notice_at d x in
        let now : ℕ = clock_at w n.at in
        let one : RunState = after_due_deadlines d token fuel now w in
        let came_so : Sound (also said (put_by n.parsed)) (after_event_in_order d token fuel n w) =
        came_sound said now n.parsed n.accepted one (event_own x.event x.outcome x.rows) (settled_sound said token counts fuel now w g) in
        let o : Option (Account × Counts) = mailbox_upload_at d.names x.event x.outcome in
        let same : also said (put_by n.parsed) ≡ also said o = ap (also said) (event_put x.event x.outcome x.rows) in
        subst (λ (l : List (Account × Counts)). Sound l (after_events d token fuel (timed_events d (x ∷ recorded)) w)) (also_more said (mailbox_uploads_of d.names recorded) o)
        (after_sound fuel recorded (also said o) (after_event_in_order d token fuel n w) (subst (λ (l : List (Account × Counts)). Sound l (after_event_in_order d token fuel n w)) same came_so))

    pub notified_so : (loaded : Texts) (fuel : ℕ) (recorded : List EventRecord) → RunNotifiesSubscribers d token loaded fuel recorded
    notified_so loaded fuel recorded =
        let w : RunState = state_after d token loaded fuel recorded in
        let g : Sound (mailbox_uploads_of d.names recorded) w = after_sound fuel recorded [] (initial_state loaded) (record { puts = refl; by = tt; asks = tt }) in
        record { puts = g.puts; subscribers = all_trusted w.mailbox_ops g.by; asks = g.asks }

-- ---- a SUBSCRIBE of a peer that is not trusted

-- it is refused, or belongs to a subscription
abbrev IsRefusalOrSubscription : Disposition → Type 0
IsRefusalOrSubscription (Respond answer) = nat_le 300 answer.code ≡ true
IsRefusalOrSubscription (Enter call side) = ⊥
IsRefusalOrSubscription (EnterConference room seat) = ⊥
IsRefusalOrSubscription OpenCall = ⊥
IsRefusalOrSubscription OpenConference = ⊥
IsRefusalOrSubscription (JoinConference room) = ⊥
IsRefusalOrSubscription (Register account seconds) = ⊥
IsRefusalOrSubscription Subscribe = Unit {0}
IsRefusalOrSubscription (EnterSubscription sub) = Unit {0}

-- one method is not another
other_method : (line : Start) (name : List ℕ) → bytes_eq (codes "SUBSCRIBE") name ≡ false → is_method (codes "SUBSCRIBE") line ≡ true → is_method name line ≡ false
other_method (start.Request method uri) name other e = subst (λ (b : List ℕ). bytes_eq b name ≡ false) (sym ((bytes_eq-Decides method (codes "SUBSCRIBE")).0 e)) other
other_method (start.Status code phrase) name other e = refl

due_if : (b : Bool) (one two : Disposition) → b ≡ false → IsRefusalOrSubscription two → IsRefusalOrSubscription (if b then one else two)
due_if true one two e f = absurd (true_false e)
due_if false one two e f = f

module _ (d : Directory) (m : ParsedMessage) (is : is_method (codes "SUBSCRIBE") m.start ≡ true) where
  method_due : (full : Bool) → IsRefusalOrSubscription (disposition_by_method d full m)
  method_due full =
      due_if (is_method (codes "OPTIONS") m.start) (Respond (response_with_allow d 200)) _ (other_method m.start (codes "OPTIONS") refl is)
      (due_if (is_method (codes "REFER") m.start) (Respond (plain_response 403)) _ (other_method m.start (codes "REFER") refl is)
      (due_if (is_method (codes "INVITE") m.start) (invite_disposition d full m) _ (other_method m.start (codes "INVITE") refl is)
      (due_if (is_register m) (registration_disposition d.names.accounts m) _ (other_method m.start (codes "REGISTER") refl is)
      (subst (λ (b : Bool). IsRefusalOrSubscription (if b then Subscribe else Respond (plain_response 481))) (sym is) tt))))

  in_dialog_disposition_due : (owner : DialogOwner) → IsRefusalOrSubscription (in_dialog_disposition owner m)
  in_dialog_disposition_due (InCall call side) = subst (λ (b : Bool). IsRefusalOrSubscription (if b && true then Respond (plain_response 481) else Enter call side)) (sym is) refl
  in_dialog_disposition_due (InConference room seat) = subst (λ (b : Bool). IsRefusalOrSubscription (if b && true then Respond (plain_response 481) else EnterConference room seat)) (sym is) refl
  in_dialog_disposition_due (InSubscription sub) = subst (λ (b : Bool). IsRefusalOrSubscription (if b && false then Respond (plain_response 481) else EnterSubscription sub)) (sym is) tt

  in_due : (full : Bool) (named : Option DialogOwner) → IsRefusalOrSubscription (disposition_in d full named m)
  in_due full None = method_due full
  in_due full (Some owner) = in_dialog_disposition_due owner

  by_due : (full : Bool) (named : Option DialogOwner) (o : Option StatusResponse) → IfSome o (λ answer. nat_le 300 answer.code ≡ true) → IsRefusalOrSubscription (disposition_by d full named m o)
  by_due full named None h = in_due full named
  by_due full named (Some answer) h = h

first_due : (rs : List (Bool × StatusResponse)) → Each (λ r. nat_le 300 r.1.code ≡ true) rs → IfSome (first_that_applies rs) (λ answer. nat_le 300 answer.code ≡ true)
first_due [] h = tt
first_due (r ∷ rs) h = go r.0 (first_due rs h.1)
  where
    go : (b : Bool) → IfSome (first_that_applies rs) (λ answer. nat_le 300 answer.code ≡ true) → IfSome (if b then Some r.1 else first_that_applies rs) (λ answer. nat_le 300 answer.code ≡ true)
    go true others = h.0
    go false others = others

disposition_due : (d : Directory) (merged full : Bool) (named : Option DialogOwner) (m : ParsedMessage) → is_method (codes "SUBSCRIBE") m.start ≡ true → IsRefusalOrSubscription (disposition d merged full named m)
unfolding disposition
disposition_due d merged full named m is =
    by_due d (public_part m) is full named (first_that_applies (refusals d merged (is_some named) (public_part m)))
    (first_due (refusals d merged (is_some named) (public_part m)) (refl, (refl, (refl, (refl, (refl, (refl, (refl, (refl, tt)))))))))

untrusted_refusal : (a : SubscribeRequestView) → a.trusted ≡ false → refusal a ≡ Some 403
untrusted_refusal a e =
    ap (λ (b : Bool). if not b then Some 403 else if not (is_authorized a) then Some 403 else if not (is_summary a.event) then Some 489 else if not a.has_contact then Some 400 else None) e

module _ (d : Directory) (token : List ℕ) (at : ℕ) (key : TKey) (s : MessageView) (is : is_method (codes "SUBSCRIBE") s.parsed.start ≡ true) (untrusted : s.parsed.trusted ≡ false) where
  entered_refused : (sub : SubNo) (r : Result (Unit {0}) DialogueFault) (w : RunState) → IsRefused d token at key s w (after_checked_request d token at key s sub r w)
  entered_refused sub (Err fault) w = record { response = plain_response 500; code = refl; received = w; alone = inl refl; is = refl }
  entered_refused sub (Ok done) w =
      let noted : RunState = with_mailbox_op (boxes.Receives sub (message_in s.parsed)) w in
      record {
        response = refusal_response 403;
        code = refl;
        received = noted;
        alone = inr (sub, refl);
        is =
            ap (λ (b : Bool). if b then after_refresh_by d token at key s sub (refusal (subscribe_request_of d true s.parsed)) noted else with_response d token at key s (other_response d s.parsed) noted) is
            ∙ ap (λ (o : Option ℕ). after_refresh_by d token at key s sub o noted) (untrusted_refusal (subscribe_request_of d true s.parsed) untrusted);
      }

  taken_refused : (c : Disposition) (w : RunState) → IsRefusalOrSubscription c → IsRefused d token at key s w (after_disposition d token at key s c w)
  taken_refused (Respond answer) w code = record { response = answer; code = code; received = w; alone = inl refl; is = refl }
  taken_refused (Enter call side) w code = absurd code
  taken_refused (EnterConference room seat) w code = absurd code
  taken_refused OpenCall w code = absurd code
  taken_refused OpenConference w code = absurd code
  taken_refused (JoinConference room) w code = absurd code
  taken_refused (Register account seconds) w code = absurd code
  taken_refused Subscribe w code = record {
    response = refusal_response 403;
    code = refl;
    received = w;
    alone = inl refl;
    is = ap (λ (o : Option ℕ). after_subscribe_by d token at key s o w) (untrusted_refusal (subscribe_request_of d false s.parsed) untrusted);
  }
  taken_refused (EnterSubscription sub) w code = entered_refused sub (request_check sub (message_in s.parsed) (subscriptions_in w)) w

untrusted_are_refused : UntrustedAreRefused
untrusted_are_refused d token at key s w is untrusted =
    taken_refused d token at key s is untrusted (disposition d (is_merged key.0 (live w.actions)) (are_full (calls_in d w).entries) (dialog_owner_in d s.parsed w) s.parsed) w
    (disposition_due d (is_merged key.0 (live w.actions)) (are_full (calls_in d w).entries) (dialog_owner_in d s.parsed w) s.parsed is)

pub subscribers_are_notified : ((ops : List boxes.TableOp) (account : Account) → counts_in account (table_after ops) ≡ last_counts ops account) → SubscribersAreNotified
subscribers_are_notified counts = record {
  notified = λ d token loaded fuel recorded. notified_so d token counts loaded fuel recorded;
  refused = untrusted_are_refused;
}
