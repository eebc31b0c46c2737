-- Each message that is built in a run has no injected header fields, and each text that is sent to a peer is that of such a message.
use Rattle.std.proofs.Common.{◌≡◌, ℕ, zero, suc, List, [], ◌∷◌, ◌++◌, length, refl, sym, subst, Bool, true, false, Option, Some, None, ◌⊎◌, inl, inr, ◌∙◌, append_assoc, IfSome, Result, Ok, Err}
use Rattle.std.specs.Prelude.{option_map, codes}
use Rattle.std.specs.List.{find}
use Rattle.std.specs.Option.{option_map as map_some}
use Rattle.mmtel_compose.specs.ReceivedMessages.{MessageView, status_of}
use Rattle.mmtel_b2bua.specs.Operations.{Drops, Finishes, Receives, Releases, Restores, TableOp, step_on_finish, step_on_receive_after}
use Rattle.mmtel_b2bua.specs.Detaching.{entry_of, released_leg_of}
use Rattle.mmtel_b2bua.specs.Queries.{party}
use Rattle.mmtel_b2bua.specs.declared.signals.Signal.{Signal}
use Rattle.mmtel_b2bua.specs.declared.signals.Signal.TheVariants as signal
use Rattle.mmtel_b2bua_theorems.specs.Acks.{acked_after, acked_by, acked_of}
use Rattle.mmtel_call_theorems.specs.NoInjection.Acks.{ReceivedAck}
use Rattle.mmtel_message.specs.Faults.{is_method}
use Rattle.mmtel_b2bua_theorems.specs.NoInjection.{OpAndLegHaveNoInjection, OperationsSendNoInjection, ReceivedHasNoInjection, RecordsHaveNoInjection, ReleasedLegsHaveNoInjection, SignalHasNoInjection}
use Rattle.mmtel_output.specs.ResponseMatching.{awaited_request_branch, behind_cookie, branch_in, timed_out_branch}
use Rattle.mmtel_call_theorems.specs.NoInjection.Messages.{HasNoInjection, HasOwnFields, MessageHasNoInjection}
use Rattle.mmtel_call_theorems.specs.NoInjection.Emits.{Each, EmitHasNoInjection}
use Rattle.mmtel_call_theorems.specs.NoInjection.Inputs.{SheetHasNoInjection}
use Rattle.mmtel_call_theorems.specs.NoInjection.CallState.{LegHasNoInjection}
use Rattle.mmtel_call_theorems.specs.NoInjection.ReadMessages.{ReadingHasNoInjection}
use Rattle.mmtel_call_theorems.proofs.NoInjection.Sending.{each_append, opened_no_injection}
use Rattle.mmtel_charging.specs.declared.rows.Row.{Row}
use Rattle.mmtel_output.specs.declared.outputs.StepOutput.{StepOutput}
use Rattle.mmtel_directory.specs.declared.directories.Directory.{Directory}
use Rattle.mmtel_focus.specs.Operations as rooms
use Rattle.mmtel_focus.specs.Table.{access, is_table_full}
use Rattle.mmtel_focus.specs.declared.faults.RoomFault.{RoomFault}
use Rattle.mmtel_focus.specs.declared.referrals.Replaces.{Replaces}
use Rattle.mmtel_focus.specs.declared.signals.RoomSignal.{RoomSignal}
use Rattle.mmtel_focus.specs.declared.signals.RoomSignal.TheVariants as of_room
use Rattle.mmtel_focus_theorems.specs.NoInjection as heads
use Rattle.mmtel_focus_theorems.specs.NoInjection.{EmitsHaveNoInjection}
use Rattle.mmtel_records_in_force.specs.Texts.{Registrations, Texts}
use Rattle.mmtel_leg.specs.declared.legs.Released.{Released}
use Rattle.mmtel_leg.specs.declared.legs.Released.TheVariants as released
use Rattle.mmtel_message.specs.Message.{Message}
use Rattle.mmtel_message.specs.Reads.{Read, read_result}
use Rattle.mmtel_message.specs.Texts.{message_text}
use Rattle.mmtel_message.specs.declared.messages.Start.{Start}
use Rattle.mmtel_message.specs.declared.reading.ReadFault.TheVariants as fault
use Rattle.mmtel_environment.specs.declared.events.Event.{Event}
use Rattle.mmtel_environment.specs.declared.events.Event.TheVariants as event
use Rattle.mmtel_environment.specs.declared.events.Offer.{Offer}
use Rattle.mmtel_environment.specs.declared.events.Offer.TheVariants as offer
use Rattle.mmtel_sheet_grammar.specs.Texts.{stored_sheet}
use Rattle.mmtel_sheet_texts.specs.Texts.{text_at}
use Rattle.mmtel_sheet_values.specs.declared.values.Sheet.{Sheet}
use Rattle.mmtel_transaction.specs.Results.{DueEntryView, after_firing, class_of, class_result, due_result, is_invite_of, is_merged, key_of, next_due, opening_result, peer_of, tkey}
use Rattle.mmtel_transaction.specs.Operations.{DidAck, DidAsk, DidBegin, DidFire, DidSettle, DidHear, DidReply, TransactionOp, live, openings}
use Rattle.mmtel_transaction.specs.Heads.{head_of, is_cancel}
use Rattle.mmtel_transaction.specs.declared.message_class.MessageClass.{MessageClass}
use Rattle.mmtel_transaction.specs.declared.message_class.MessageClass.TheVariants as part
use Rattle.mmtel_transaction.specs.declared.words.Due.{Due}
use Rattle.mmtel_transaction.specs.declared.words.Due.TheVariants as due
use Rattle.mmtel_transaction.specs.declared.words.Emit.{Emit}
use Rattle.mmtel_transaction.specs.declared.words.Emit.TheVariants as emit
use Rattle.mmtel_transaction.specs.declared.words.Heard as transaction
use Rattle.mmtel_transaction.specs.declared.words.TKey.{TKey}
use Rattle.mmtel_trust.specs.Peers.{is_trusted, peer_at}
use Rattle.mmtel_types.specs.Sides.{other_side}
use Rattle.mmtel_types.specs.declared.addrs.Addr.{Addr}
use Rattle.mmtel_types.specs.declared.numbers.Account.{Account}
use Rattle.mmtel_types.specs.declared.numbers.CallNo.{CallNo}
use Rattle.mmtel_types.specs.declared.numbers.Peer.{Peer}
use Rattle.mmtel_types.specs.declared.numbers.RoomNo.{RoomNo}
use Rattle.mmtel_types.specs.declared.sides.Side.{Side}
use Rattle.mmtel_web.specs.Handling.{KeeperOutcomeView}
use Rattle.mmtel_web.specs.Uploads.{counts_put_in}
use Rattle.mmtel_mwi.specs.Operations as boxes
use Rattle.mmtel_run_definitions.specs.OwnResponses.{StatusResponse, completed_reply, plain_response, response_to, tag_for, tags_due, to_tag_in}
use Rattle.mmtel_run_definitions.specs.Calls.{are_full, arrival_signal, call_config, call_of_invite}
use Rattle.mmtel_run_definitions.specs.Deadlines.{Deadline, OfCall, OfParticipant, OfServiceTimer, OfSubscription, OfTransaction, ServiceTimer}
use Rattle.mmtel_run_definitions.specs.Events.{EventRecord, ParsedEvent, TimedEvent, message_in, parsed_datagram, parsed_event, parsed_from, parsed_result, timed_event_of, timed_events}
use Rattle.mmtel_run_definitions.specs.Events as events
use Rattle.mmtel_run_definitions.specs.InForce.{CallsSeeWhatIsInForce}
use Rattle.mmtel_run_definitions.specs.Records.{in_force}
use Rattle.mmtel_run_definitions.specs.Refusals.{Disposition, Respond, Enter, EnterConference, OpenCall, OpenConference, JoinConference, Register, Subscribe, EnterSubscription, disposition}
use Rattle.mmtel_run_definitions.specs.Ownership.{DialogOwner, InSubscription, InCall, InConference, OfSubscriptions, OfCalls, OfConferences, Owner, account_of_side}
use Rattle.mmtel_run_definitions.specs.Ownership.{owner_of_key, owner_of_branch, is_of_peer, leg_by, replacement_in, conference_config, replaced_side, status_of_fault}
use Rattle.mmtel_run_definitions.specs.Run.{after_deadline_if, after_due_deadlines, after_event_in_order, after_events, after_one_deadline, clock_at, first_due_deadline, state_after}
use Rattle.mmtel_run_definitions.specs.Subscriptions.{after_notify_response, grant_response, other_response, refusal_response, with_mailbox_op}
use Rattle.mmtel_run_definitions.specs.Transitions.{RunState, after_ack_by, with_action, after_adoption_if, adoption_op, after_service_timer, after_classified_message, with_timer, initial_state}
use Rattle.mmtel_run_definitions.specs.Transitions.{with_next_step, with_call_output, calls_in, after_event, after_cancel, after_cancel_of, output_of_conference_op, with_draws, with_emit}
use Rattle.mmtel_run_definitions.specs.Transitions.{with_emits, after_transaction_end, after_participant_request, after_call_end, after_deadline, after_handover, conference_signal_op, received_now}
use Rattle.mmtel_run_definitions.specs.Transitions.{with_received_action, dialog_owner_in, after_conference_op, join_op, with_call_op, with_conference_output, after_parsed_event, next_tag}
use Rattle.mmtel_run_definitions.specs.Transitions.{after_refer_notify, with_offers, opening_op, with_registration, with_retransmission, after_replacing_named, after_replacing_side, after_replaces}
use Rattle.mmtel_run_definitions.specs.Transitions.{with_response, with_stateless_response, after_response_to, after_join_if, after_opening_if, conferences_in, after_due, after_conference_signal}
use Rattle.mmtel_run_definitions.specs.Transitions.{after_web_reply, after_call_signal, after_request_timeout, after_detach, after_disposition, to_peer, tokens_now, after_message, subscriptions_in}
use Rattle.mmtel_run_theorems.specs.NoInjection.{ActionHasOwnFields, Builds, IsOwnAck, IsOwnOffer, IsOwnReply, IsReceivedIn, IsSentIn, RunHasNoInjection, stateless_reply}
use Rattle.mmtel_run_theorems.proofs.Acks.{AreAcksOfEvents, IsAckOfEvent, ack_still, acks_received, emits_more, is_ack_received, own_ack}
use Rattle.mmtel_run_definitions.proofs.MailboxSteps as steps
use Rattle.mmtel_run_definitions.proofs.MailboxSteps.{AreResponses, AreSteps, tells_in}
use Rattle.mmtel_run_theorems.proofs.NoInjectionOfNotifies.{OpHasNoInjection as MailboxOpHasNoInjection, grant_response_no_injection}
use Rattle.mmtel_run_theorems.proofs.NoInjectionOfNotifies.{none_no_injection, notify_request_no_injection, other_no_injection, refusing_no_injection}
use Rattle.mmtel_run_theorems.proofs.Dispositions.{DispositionHasNoInjection, IsReadWithFields, ResponseHasNoInjection, answer_no_injection}
use Rattle.mmtel_run_theorems.proofs.Dispositions.{disposition_no_injection, message_view_well, reply_no_injection, tag_no_injection}
use Rattle.mmtel_run_theorems.proofs.Received.{ReadResultHasNoInjection, read_result_no_injection}
use Rattle.mmtel_run_theorems.proofs.Sheets.{kept_no_injection}
use Rattle.mmtel_run_theorems.proofs.TransactionTexts.{AreGoodActions, IsGoodAction, IsOwnDue, due_own, repeat_own, same_again, sent_still}

-- ---- what calls get of records

after_message-no_injection : (o : Option (List ℕ)) → IfSome (map_some stored_sheet o) SheetHasNoInjection
after_message-no_injection None = tt
after_message-no_injection (Some text) = kept_no_injection text

records_no_injection : CallsSeeWhatIsInForce → (texts : Texts) (registrations : Registrations) → RecordsHaveNoInjection (in_force texts registrations)
records_no_injection law texts registrations number =
    subst (λ (o : Option Sheet). IfSome o SheetHasNoInjection) (sym (law texts registrations (record { 0 = number })).sheet) (after_message-no_injection (text_at texts (record { 0 = number })))

-- ---- the invariant of a state

module _ (d : Directory) (whole : List EventRecord) where
  record Good (w : RunState) : Type 0 where
    ops : Each OpAndLegHaveNoInjection w.call_ops
    acked : AreAcksOfEvents d whole (acked_after (call_config d) w.call_ops)
    conferences : Each heads.OpHasNoInjection w.conference_ops
    boxes : Each MailboxOpHasNoInjection w.mailbox_ops
    acts : AreGoodActions w.actions
    offers : Each (IsOwnOffer d whole w.actions w.call_ops) w.offers

  -- what was output before one more operation on the transactions
  offer_still : (c : TransactionOp) (acts : List TransactionOp) (ops : List TableOp) (x : Offer) → IsOwnOffer d whole acts ops x → IsOwnOffer d whole (c ∷ acts) ops x
  offer_still c acts ops (offer.To peer at text) (inl sent) = inl (sent_still c acts text sent)
  offer_still c acts ops (offer.To peer at text) (inr plain) = inr plain
  offer_still c acts ops (offer.Web at text) o = tt

  offers_still : (c : TransactionOp) (acts : List TransactionOp) (ops : List TableOp) (xs : List Offer) → Each (IsOwnOffer d whole acts ops) xs → Each (IsOwnOffer d whole (c ∷ acts) ops) xs
  offers_still c acts ops [] o = tt
  offers_still c acts ops (x ∷ xs) o = (offer_still c acts ops x o.0, offers_still c acts ops xs o.1)

  -- and before one more operation on calls
  offer_kept : (op : TableOp) (acts : List TransactionOp) (ops : List TableOp) (x : Offer) → IsOwnOffer d whole acts ops x → IsOwnOffer d whole acts (op ∷ ops) x
  offer_kept op acts ops (offer.To peer at text) (inl sent) = inl sent
  offer_kept op acts ops (offer.To peer at text) (inr (inl ack)) = inr (inl (ack_still d whole ops op text ack))
  offer_kept op acts ops (offer.To peer at text) (inr (inr reply)) = inr (inr reply)
  offer_kept op acts ops (offer.Web at text) o = tt

  offers_kept : (op : TableOp) (acts : List TransactionOp) (ops : List TableOp) (xs : List Offer) → Each (IsOwnOffer d whole acts ops) xs → Each (IsOwnOffer d whole acts (op ∷ ops)) xs
  offers_kept op acts ops [] o = tt
  offers_kept op acts ops (x ∷ xs) o = (offer_kept op acts ops x o.0, offers_kept op acts ops xs o.1)

  -- the message that one more operation builds is sent
  with_action_good : (c : TransactionOp) (w : RunState) (offers : List Offer) → IsGoodAction c w.actions → Each (IsOwnOffer d whole (c ∷ w.actions) w.call_ops) offers → Good w →
      Good (with_offers offers (with_action c w))
  with_action_good c w offers good own g = record {
    ops = g.ops;
    acked = g.acked;
    conferences = g.conferences;
    boxes = g.boxes;
    acts = (good, g.acts);
    offers = each_append (IsOwnOffer d whole (c ∷ w.actions) w.call_ops) w.offers offers (offers_still c w.actions w.call_ops w.offers g.offers) own;
  }

  -- the same operations on calls and transactions, and the same outputs
  alike : (w v : RunState) → v.call_ops ≡ w.call_ops → v.conference_ops ≡ w.conference_ops → v.mailbox_ops ≡ w.mailbox_ops → v.actions ≡ w.actions → v.offers ≡ w.offers → Good w → Good v
  alike w v ops seats mailboxes acts offers g = record {
    ops = subst (Each OpAndLegHaveNoInjection) (sym ops) g.ops;
    acked = subst (λ (h : List TableOp). AreAcksOfEvents d whole (acked_after (call_config d) h)) (sym ops) g.acked;
    conferences = subst (Each heads.OpHasNoInjection) (sym seats) g.conferences;
    boxes = subst (Each MailboxOpHasNoInjection) (sym mailboxes) g.boxes;
    acts = subst AreGoodActions (sym acts) g.acts;
    offers =
        subst (λ (h : List TableOp). Each (IsOwnOffer d whole v.actions h) v.offers) (sym ops)
        (subst (λ (h : List TransactionOp). Each (IsOwnOffer d whole h w.call_ops) v.offers) (sym acts) (subst (Each (IsOwnOffer d whole w.actions w.call_ops)) (sym offers) g.offers));
  }

  -- nothing is sent
  silent_good : (c : TransactionOp) (w v : RunState) → IsGoodAction c w.actions → v.call_ops ≡ w.call_ops → v.conference_ops ≡ w.conference_ops → v.mailbox_ops ≡ w.mailbox_ops →
      v.actions ≡ c ∷ w.actions → v.offers ≡ w.offers → Good w → Good v
  silent_good c w v good ops seats mailboxes acts offers g =
      alike (with_action c w) v ops seats mailboxes acts offers
      (record { ops = g.ops; acked = g.acked; conferences = g.conferences; boxes = g.boxes; acts = (good, g.acts); offers = offers_still c w.actions w.call_ops w.offers g.offers })

  -- a text is sent to a peer by no transaction
  abbrev IsOwnText : List TransactionOp → List TableOp → List ℕ → Type 0
  IsOwnText acts ops text = IsSentIn acts text ⊎ (IsOwnAck d whole ops text ⊎ IsOwnReply d whole text)

  plain_good : (at : ℕ) (peer : Peer) (text : List ℕ) (w : RunState) → IsOwnText w.actions w.call_ops text → Good w → Good (with_offers (offer.To peer at text ∷ []) w)
  plain_good at peer text w t g = record {
    ops = g.ops;
    acked = g.acked;
    conferences = g.conferences;
    boxes = g.boxes;
    acts = g.acts;
    offers = each_append (IsOwnOffer d whole w.actions w.call_ops) w.offers (offer.To peer at text ∷ []) g.offers (t, tt);
  }

module _ (d : Directory) (whole : List EventRecord) (own_law : (m : Message Start) → MessageHasNoInjection m → HasOwnFields m) where
  -- to the peer of a transaction
  peer_own : (c : TransactionOp) (acts : List TransactionOp) (ops : List TableOp) (m : Message Start) (at : ℕ) (o : Option Peer) → Builds c m →
      Each (IsOwnOffer d whole (c ∷ acts) ops) (to_peer at (message_text m) o)
  peer_own c acts ops m at None b = tt
  peer_own c acts ops m at (Some peer) b = (inl (record { message = m; built = inl b; is = refl }), tt)

  -- the output has no injected header fields, and each ACK of a 2xx relays what is relayed of an ACK of these operations
  abbrev IsCleanAfter : List TableOp → Emit → Type 0
  IsCleanAfter ops x = EmitHasNoInjection (acked_after (call_config d) ops) x

  emit_good : (at : ℕ) (x : Emit) (w : RunState) → IsCleanAfter w.call_ops x → Good d whole w → Good d whole (with_emit at x w)
  emit_good at (emit.Ask peer message) w c g =
      with_action_good d whole (DidAsk peer message at) w (offer.To peer at (message_text message) ∷ []) c (inl (record { message = message; built = inl refl; is = refl }), tt) g
  emit_good at (emit.Reply key message) w c g =
      with_action_good d whole (DidReply key.0 message at) w (to_peer at (message_text message) (peer_of key.0 (live w.actions))) c
      (peer_own (DidReply key.0 message at) w.actions w.call_ops message at (peer_of key.0 (live w.actions)) refl) g
  emit_good at (emit.Plain peer text) w c g = plain_good d whole at peer text w (inr (inl (own_ack d whole own_law w.call_ops text g.acked c))) g
  emit_good at (emit.Ack key message) w c g =
      with_action_good d whole (DidAck key.0 message) w (to_peer at (message_text message) (peer_of key.0 (live w.actions))) c
      (peer_own (DidAck key.0 message) w.actions w.call_ops message at (peer_of key.0 (live w.actions)) refl) g
  emit_good at (emit.Settled key own) w c g = silent_good d whole (DidSettle key.0 own) w (with_emit at (emit.Settled key own) w) tt refl refl refl refl refl g
  emit_good at (emit.Arm call what when) w c g = record { ops = g.ops; acked = g.acked; conferences = g.conferences; boxes = g.boxes; acts = g.acts; offers = g.offers }
  emit_good at (emit.ArmSeat room seat what when) w c g = record { ops = g.ops; acked = g.acked; conferences = g.conferences; boxes = g.boxes; acts = g.acts; offers = g.offers }

  same_ops : (at : ℕ) (x : Emit) (w : RunState) → (with_emit at x w).call_ops ≡ w.call_ops
  same_ops at (emit.Ask peer message) w = refl
  same_ops at (emit.Reply key message) w = refl
  same_ops at (emit.Plain peer text) w = refl
  same_ops at (emit.Ack key message) w = refl
  same_ops at (emit.Settled key own) w = refl
  same_ops at (emit.Arm call what when) w = refl
  same_ops at (emit.ArmSeat room seat what when) w = refl

  with_emits_good : (at : ℕ) (xs : List Emit) (w : RunState) → Each (IsCleanAfter w.call_ops) xs → Good d whole w → Good d whole (with_emits at xs w)
  with_emits_good at [] w c g = g
  with_emits_good at (x ∷ xs) w c g =
      with_emits_good at xs (with_emit at x w) (subst (λ (ops : List TableOp). Each (IsCleanAfter ops) xs) (sym (same_ops at x w)) c.1) (emit_good at x w c.0 g)

  module _ (sends : OperationsSendNoInjection) (legs : ReleasedLegsHaveNoInjection) (seats_send : EmitsHaveNoInjection) (views : CallsSeeWhatIsInForce) (read : ReadingHasNoInjection)
      (token : List ℕ) (home : HasNoInjection d.home) (clean_token : HasNoInjection token) where
    -- this was read of an event of the run: whatever response no transaction sends to it, where it has no injected header fields, is the response to this event
    record IsMet (x : ParsedEvent) : Type 0 where
      own : (tag : List ℕ) (m : Message Start) → stateless_reply d tag x ≡ Some m → MessageHasNoInjection m → IsOwnReply d whole (message_text m)
      received : (said : MessageView) → x ≡ events.Received said → IsReceivedIn d whole said

    came_in : (earlier : List EventRecord) (event : EventRecord) (later : List EventRecord) → whole ≡ earlier ++ event ∷ later → IsMet (events.parsed_record d event)
    came_in earlier event later is = record {
      own = λ tag m replies clean. record { earlier = earlier; event = event; later = later; in_order = is; tag = tag; message = m; replies = replies; lines = own_law m clean; is = refl };
      received = λ said parsed_input. record { earlier = earlier; event = event; later = later; in_order = is; is = parsed_input };
    }

    -- ---- an operation on calls

    -- the ACKs that calls receive by an operation
    abbrev acks_of : TableOp → RunState → List ReceivedAck
    acks_of op w = acked_by (call_config d) op (calls_in d w).entries

    bringing_good : (at : ℕ) (op : TableOp) (output : StepOutput) (w : RunState) → Each (IsCleanAfter (op ∷ w.call_ops)) output.out → OpAndLegHaveNoInjection op → AreAcksOfEvents d whole (acks_of op w) →
        Good d whole w → Good d whole (with_call_output at op output w)
    bringing_good at op output w out c acked g =
        with_emits_good at output.out (record w { call_ops = Drops (length output.rows) ∷ op ∷ w.call_ops; drawn = output.tokens.drawn; waiting = w.waiting ++ output.rows }) out
        (record {
          ops = (tt, (c, g.ops));
          acked = each_append (λ (x : ReceivedAck). IsAckOfEvent d whole x.ack) (acks_of op w) (acked_after (call_config d) w.call_ops) acked g.acked;
          conferences = g.conferences;
          boxes = g.boxes;
          acts = g.acts;
          offers = offers_kept d whole (Drops (length output.rows)) w.actions (op ∷ w.call_ops) w.offers (offers_kept d whole op w.actions w.call_ops w.offers g.offers);
        })

    receiving_clean : (at : ℕ) (x : Signal) (w : RunState) → SignalHasNoInjection x → ReceivedHasNoInjection (received_now token at x w)
    receiving_clean at x w c = record { records = records_no_injection views w.texts w.registrations; signal = c; token = clean_token }

    signalled_good : (at : ℕ) (x : Signal) (w : RunState) → SignalHasNoInjection x → AreAcksOfEvents d whole (acked_of (call_config d) x (calls_in d w).entries) → Good d whole w →
        Good d whole (after_call_signal d token at x w)
    signalled_good at x w c acked g =
        let is : ReceivedHasNoInjection (received_now token at x w) = receiving_clean at x w c in
        bringing_good at (Receives (received_now token at x w)) (step_on_receive_after (call_config d) w.call_ops (received_now token at x w)).output w
        (sends (call_config d) w.call_ops (Receives (received_now token at x w)) home (is, g.ops)) is acked g

    finishing_good : (at : ℕ) (call : CallNo) (w : RunState) → Good d whole w → Good d whole (after_call_end d token at call w)
    finishing_good at call w g =
        bringing_good at (Finishes call.0 at (tokens_now token w)) (step_on_finish (call_config d) call.0 at (tokens_now token w) (calls_in d w)).output w
        (sends (call_config d) w.call_ops (Finishes call.0 at (tokens_now token w)) home (clean_token, g.ops)) clean_token tt g

    lending_good : (op : TableOp) (w : RunState) → OpAndLegHaveNoInjection op → AreAcksOfEvents d whole (acks_of op w) → Good d whole w → Good d whole (with_call_op op w)
    lending_good op w c acked g = record {
      ops = (c, g.ops);
      acked = each_append (λ (x : ReceivedAck). IsAckOfEvent d whole x.ack) (acks_of op w) (acked_after (call_config d) w.call_ops) acked g.acked;
      conferences = g.conferences;
      boxes = g.boxes;
      acts = g.acts;
      offers = offers_kept d whole op w.actions w.call_ops w.offers g.offers;
    }

    -- ---- an operation on conferences

    lodging_good : (at : ℕ) (op : rooms.TableOp) (output : StepOutput) (w : RunState) → Each (EmitHasNoInjection []) output.out → heads.OpHasNoInjection op → Good d whole w →
        Good d whole (with_conference_output at op output w)
    lodging_good at op output w out c g =
        with_emits_good at output.out (record w { conference_ops = rooms.Drops (length output.rows) ∷ op ∷ w.conference_ops; waiting = w.waiting ++ output.rows })
        (emits_more (acked_after (call_config d) w.call_ops) output.out out) (record { ops = g.ops; acked = g.acked; conferences = (tt, (c, g.conferences)); boxes = g.boxes; acts = g.acts; offers = g.offers })

    housed_good : (at : ℕ) (op : rooms.TableOp) (w : RunState) → heads.OpHasNoInjection op → Good d whole w → Good d whole (after_conference_op d at op w)
    housed_good at op w c g =
        let v : RunState = record w { drawn = (output_of_conference_op d op w).tokens.drawn } in
        lodging_good at op (output_of_conference_op d op w) v (seats_send (conference_config d) w.conference_ops op (c, g.conferences)) c (alike d whole w v refl refl refl refl refl g)

    seated_good : (at : ℕ) (x : RoomSignal) (w : RunState) → heads.SignalHasNoInjection x → Good d whole w → Good d whole (after_conference_signal d token at x w)
    seated_good at x w c g = housed_good at (conference_signal_op token at x w) w (record { token = clean_token; signal = c }) g

    noticed_good : (at : ℕ) (room : RoomNo) (seat code : ℕ) (w : RunState) → Good d whole w → Good d whole (after_refer_notify d token at room seat code w)
    noticed_good at room seat code w g = housed_good at (rooms.Notifies room.0 seat code (tokens_now token w)) w clean_token g

    -- ---- an operation on mailboxes, and a NOTIFY

    noted_good : (op : boxes.TableOp) (w : RunState) → MailboxOpHasNoInjection op → Good d whole w → Good d whole (with_mailbox_op op w)
    noted_good op w c g = record { ops = g.ops; acked = g.acked; conferences = g.conferences; boxes = (c, g.boxes); acts = g.acts; offers = g.offers }

    abbrev StaysGood : RunState → RunState → Type 0
    StaysGood w v = Good d whole w → Good d whole v

    steps_good : (at : ℕ) → AreSteps d token at StaysGood
    steps_good at = record {
      same = λ w g. g;
      next = λ u v w f h g. h (f g);
      notes = λ op w none. noted_good op w (none_no_injection op none);
      draws = λ w. alike d whole w (with_draws 1 w) refl refl refl refl refl;
      arms = λ armed w. alike d whole w (with_timer armed w) refl refl refl refl refl;
      asks = λ sub last peer message w lives is g.
          emit_good at (emit.Ask peer message) (tells_in token sub w)
          (notify_request_no_injection d.sip sub last (next_tag token w) at w.mailbox_ops message g.boxes.1 (tag_no_injection token w.drawn None clean_token) is) g;
    }

    box_answered_good : (branch : Option (List ℕ)) (code : ℕ) (w : RunState) → Good d whole w → Good d whole (after_notify_response branch code w)
    box_answered_good = steps.answered StaysGood (λ w g. g) (λ op w none. noted_good op w (none_no_injection op none))

    -- ---- timers

    silenced_good : (at : ℕ) (branch method : List ℕ) (whose : Owner) (w : RunState) → Good d whole w → Good d whole (after_request_timeout d token at branch method whose w)
    silenced_good at branch method OfCalls w g = signalled_good at (signal.Silent branch method) w tt tt g
    silenced_good at branch method OfSubscriptions w g = box_answered_good (behind_cookie branch) 408 w g
    silenced_good at branch method OfConferences w g = seated_good at (of_room.Silent branch method) w tt g

    over_good : (at : ℕ) (key : TKey) (whose : Owner) (w : RunState) → Good d whole w → Good d whole (after_transaction_end d token at key whose w)
    over_good at key OfCalls w g = signalled_good at (signal.Over key) w tt tt g
    over_good at key OfSubscriptions w g = g
    over_good at key OfConferences w g = seated_good at (of_room.Over key) w tt g

    rung_good : (x : Due) (w : RunState) → IsOwnDue (IsSentIn w.actions) x → Good d whole w → Good d whole (after_due d token x w)
    rung_good (due.Again peer at text) w t g = plain_good d whole at peer text w (inl t) g
    rung_good (due.Silent key branch method at) w t g = silenced_good at branch method (owner_of_branch (timed_out_branch branch method) (behind_cookie branch) (calls_in d w).entries (subscriptions_in w)) w g
    rung_good (due.Over key at) w t g = over_good at key (owner_of_key key (calls_in d w).entries) w g
    rung_good due.Nothing w t g = g

    fires_good : (o : Option DueEntryView) (w : RunState) → Good d whole w → Good d whole (record w { actions = after_firing w.actions o })
    fires_good None w g = g
    fires_good (Some next) w g = silent_good d whole (DidFire next.entry.key) w (record w { actions = after_firing w.actions (Some next) }) tt refl refl refl refl refl g

    -- what is retransmitted then was sent before
    due_still : (o : Option DueEntryView) (acts : List TransactionOp) (x : Due) → IsOwnDue (IsSentIn acts) x → IsOwnDue (IsSentIn (after_firing acts o)) x
    due_still None acts x t = t
    due_still (Some next) acts (due.Again peer at text) t = sent_still (DidFire next.entry.key) acts text t
    due_still (Some next) acts (due.Silent key branch method at) t = tt
    due_still (Some next) acts (due.Over key at) t = tt
    due_still (Some next) acts due.Nothing t = tt

    begun_good : (w : RunState) → Good d whole w → Good d whole (with_next_step w)
    begun_good w g = silent_good d whole (DidBegin w.steps) w (with_next_step w) tt refl refl refl refl refl g

    alarmed_good : (at : ℕ) (x : ServiceTimer) (w : RunState) → Good d whole w → Good d whole (after_service_timer d token at x w)
    alarmed_good at (OfCall call what) w g = signalled_good at (signal.Due call what) w tt tt g
    alarmed_good at (OfParticipant room seat what) w g = seated_good at (of_room.Due room seat what) w tt g
    alarmed_good at (OfSubscription sub set) w g = steps.ends d token at StaysGood (steps_good at) sub set w g

    -- what a timer of a transaction causes is read of the operations on the transactions before it fires
    fired_good : (now : ℕ) (x : Deadline) (w : RunState) → Good d whole w → Good d whole (after_deadline d token now x w)
    fired_good now OfTransaction w g =
        let b : Good d whole (with_next_step w) = begun_good w g in
        let next : Option DueEntryView = next_due now (live (with_next_step w).actions) in
        rung_good (due_result next) (record (with_next_step w) { actions = after_firing (with_next_step w).actions next })
        (due_still next (with_next_step w).actions (due_result next) (due_own (with_next_step w).actions now b.acts)) (fires_good next (with_next_step w) b)
    fired_good now (OfServiceTimer armed others) w g =
        alarmed_good armed.at armed.timer (record (with_next_step w) { pending_timers = others })
        (alike d whole (with_next_step w) (record (with_next_step w) { pending_timers = others }) refl refl refl refl refl (begun_good w g))

    if_fired_good : (now : ℕ) (o : Option Deadline) (w : RunState) → Good d whole w → Good d whole (after_deadline_if d token now o w)
    if_fired_good now None w g = g
    if_fired_good now (Some x) w g = fired_good now x w g

    settled_good : (fuel now : ℕ) (w : RunState) → Good d whole w → Good d whole (after_due_deadlines d token fuel now w)
    settled_good zero now w g = g
    settled_good (suc fuel) now w g = settled_good fuel now (after_one_deadline d token now w) (if_fired_good now (first_due_deadline now w) w g)

    -- ---- messages

    module _ (at : ℕ) (s : MessageView) (well : IsReadWithFields s.parsed) (met : IsMet (events.Received s)) where
      -- a response with a tag of the server
      tagged_good : (key : TKey) (tag : List ℕ) (answer : StatusResponse) (w : RunState) → HasNoInjection tag → ResponseHasNoInjection answer → Good d whole w →
          Good d whole (with_emit at (emit.Reply key (response_to d.sip tag s answer)) w)
      tagged_good key tag answer w t a g = emit_good at (emit.Reply key (response_to d.sip tag s answer)) w (answer_no_injection d.sip tag s answer t well.lines_in a) g

      replying_good : (key : TKey) (answer : StatusResponse) (w : RunState) → ResponseHasNoInjection answer → Good d whole w → Good d whole (with_response d token at key s answer w)
      replying_good key answer w a g =
          tagged_good key (tag_for token w.drawn s.parsed.to_tag) answer (with_draws (tags_due s.parsed.to_tag) w) (tag_no_injection token w.drawn s.parsed.to_tag clean_token) a
          (alike d whole w (with_draws (tags_due s.parsed.to_tag) w) refl refl refl refl refl g)

      -- a message beyond the capacity
      too_many_good : (w : RunState) → Good d whole w → Good d whole (with_stateless_response d token at s (plain_response 503) w)
      too_many_good w g =
          let tag : List ℕ = tag_for token w.drawn s.parsed.to_tag in
          let said : Message Start = response_to d.sip tag s (plain_response 503) in
          plain_good d whole at s.peer (message_text said) (with_draws (tags_due s.parsed.to_tag) w)
          (inr (inr (met.own tag said refl (answer_no_injection d.sip tag s (plain_response 503) (tag_no_injection token w.drawn s.parsed.to_tag clean_token) well.lines_in refl))))
          (alike d whole w (with_draws (tags_due s.parsed.to_tag) w) refl refl refl refl refl g)

      -- the leg of the sender of the INVITE
      leg_clean : (tag : List ℕ) → HasNoInjection tag → LegHasNoInjection (released.Caller (leg_by tag s))
      leg_clean tag t = record { dialog = opened_no_injection s.peer s.parsed.lines tag well.lines_in t; tag = t }

      room_opened_good : (key : TKey) (tag : List ℕ) (b : Bool) (w : RunState) → HasNoInjection tag → Good d whole w → Good d whole (after_opening_if d at key s tag b w)
      room_opened_good key tag true w t g = tagged_good key tag (plain_response 503) w t refl g
      room_opened_good key tag false w t g =
          let c : heads.OpHasNoInjection (opening_op d at key s tag) = record { leg = leg_clean tag t; invite = well.of; token = refl } in
          lodging_good at (opening_op d at key s tag) (output_of_conference_op d (opening_op d at key s tag) w) w (seats_send (conference_config d) w.conference_ops (opening_op d at key s tag) (c, g.conferences)) c g

      room_joined_good : (key : TKey) (room : RoomNo) (tag : List ℕ) (r : Result ℕ RoomFault) (w : RunState) → HasNoInjection tag → Good d whole w → Good d whole (after_join_if d token at key s room tag r w)
      room_joined_good key room tag (Err fault) w t g = tagged_good key tag (plain_response (status_of_fault fault)) w t refl g
      room_joined_good key room tag (Ok place) w t g =
          housed_good at (join_op d at key s room tag (tokens_now token w)) w (record { leg = leg_clean tag t; invite = well.of; token = clean_token }) g

      adopting_good : (room : RoomNo) (seat : ℕ) (call : CallNo) (leg : Released) (account : Option Account) (r : Result ℕ RoomFault) (w : RunState) → LegHasNoInjection leg → Good d whole w →
          Good d whole (after_adoption_if d token at room seat call leg account r w)
      adopting_good room seat call leg account (Ok place) w c g =
          let adopted : RunState = after_conference_op d at (adoption_op token at room seat leg account w) w in
          finishing_good at call adopted (housed_good at (adoption_op token at room seat leg account w) w (record { leg = c; token = clean_token }) g)
      adopting_good room seat call leg account (Err fault) w c g = noticed_good at room seat 503 (with_call_op (Restores call.0 leg) w) (lending_good (Restores call.0 leg) w c tt g)

      taken_good : (room : RoomNo) (seat : ℕ) (call : CallNo) (side : Side) (account : Option Account) (o : Option Released) (w : RunState) → IfSome o LegHasNoInjection → Good d whole w →
          Good d whole (after_detach d token at room seat call side account o w)
      taken_good room seat call side account None w c g = noticed_good at room seat 491 w g
      taken_good room seat call side account (Some leg) w c g =
          adopting_good room seat call leg account (access room.0 (conferences_in d w).live) (with_call_op (Releases call.0 side) w) c (lending_good (Releases call.0 side) w tt tt g)

      with_good : (room : RoomNo) (seat : ℕ) (call : CallNo) (side : Side) (b : Bool) (w : RunState) → Good d whole w → Good d whole (after_replacing_side d token at room seat call side b w)
      with_good room seat call side false w g = noticed_good at room seat 481 w g
      with_good room seat call side true w g =
          taken_good room seat call (other_side side) (account_of_side call (other_side side) (calls_in d w).entries) (released_leg_of call.0 (other_side side) (calls_in d w).entries) w
          (legs (call_config d) w.call_ops call.0 (other_side side) home g.ops) g

      by_good : (peer : Peer) (room : RoomNo) (seat : ℕ) (o : Option (CallNo × Side)) (w : RunState) → Good d whole w → Good d whole (after_replacing_named d token at peer room seat o w)
      by_good peer room seat None w g = noticed_good at room seat 481 w g
      by_good peer room seat (Some named) w g = with_good room seat named.0 named.1 (is_of_peer peer (party named.0.0 named.1 (calls_in d w).entries)) w g

      replacing_good : (peer : Peer) (room : RoomNo) (seat : ℕ) (o : Option Replaces) (w : RunState) → Good d whole w → Good d whole (after_replaces d token at peer room seat o w)
      replacing_good peer room seat None w g = g
      replacing_good peer room seat (Some r) w g =
          let v : RunState = after_refer_notify d token at room seat 100 w in
          by_good peer room seat (replaced_side r (calls_in d v).entries) v (noticed_good at room seat 100 w g)

      entering_good : (key : TKey) (room : RoomNo) (seat : ℕ) (w : RunState) → Good d whole w → Good d whole (after_participant_request d token at key s room seat w)
      entering_good key room seat w g =
          replacing_good s.peer room seat (replacement_in s.parsed (output_of_conference_op d (conference_signal_op token at (of_room.Request room seat key s) w) w).out)
          (after_conference_signal d token at (of_room.Request room seat key s) w) (seated_good at (of_room.Request room seat key s) w well.of g)

      drawn_good : (w : RunState) → Good d whole w → Good d whole (with_draws 1 w)
      drawn_good w g = alike d whole w (with_draws 1 w) refl refl refl refl refl g

      -- a request for a mailbox
      abbrev Anyhow : (within : Bool) → Option ℕ → Type 0
      Anyhow within o = Unit {0}

      answers_good : (key : TKey) → AreResponses d token at StaysGood key s Anyhow
      answers_good key = record {
        reads = λ within. tt;
        subscribes = λ account until w may.
            noted_good (boxes.Subscribes account (leg_by (next_tag token w) s) until) (with_draws 1 w)
            (opened_no_injection s.peer s.parsed.lines (next_tag token w) well.lines_in (tag_no_injection token w.drawn None clean_token));
        grants = λ op seconds w may.
            tagged_good key (next_tag token w) (grant_response seconds) (with_mailbox_op op (with_draws 1 w)) (tag_no_injection token w.drawn None clean_token) (grant_response_no_injection seconds);
        renews = λ seconds w may. replying_good key (grant_response seconds) w (grant_response_no_injection seconds);
        refuses = λ within code w may. replying_good key (refusal_response code) w (refusing_no_injection code);
        denies = λ code w above. replying_good key (plain_response code) w refl;
        others = λ w no. replying_good key (other_response d s.parsed) w (other_no_injection d s.parsed);
      }

      taking_good : (key : TKey) (c : Disposition) (w : RunState) → DispositionHasNoInjection s.parsed.start c → Good d whole w → Good d whole (after_disposition d token at key s c w)
      taking_good key (Respond answer) w a g = replying_good key answer w a g
      taking_good key (Enter call side) w a g = signalled_good at (signal.Request call side key s) w well.of tt g
      taking_good key (EnterConference room seat) w a g = entering_good key room seat w g
      taking_good key OpenCall w a g = signalled_good at (arrival_signal d.names.accounts key s) w (well.of, a) tt g
      taking_good key OpenConference w a g = room_opened_good key (next_tag token w) (is_table_full (conferences_in d w).live) (with_draws 1 w) (tag_no_injection token w.drawn None clean_token) (drawn_good w g)
      taking_good key (JoinConference room) w a g =
          room_joined_good key room (next_tag token w) (access room.0 (conferences_in d w).live) (with_draws 1 w) (tag_no_injection token w.drawn None clean_token) (drawn_good w g)
      taking_good key (Register account seconds) w a g =
          let v : RunState = with_registration account _ w in replying_good key (plain_response 200) v refl (alike d whole w v refl refl refl refl refl g)
      taking_good key Subscribe w a g = steps.subscribes d token at StaysGood (steps_good at) key s Anyhow (answers_good key) w g
      taking_good key (EnterSubscription sub) w a g = steps.enters d token at StaysGood (steps_good at) key s Anyhow (answers_good key) sub w g

      cancelling_call_good : (key invite : TKey) (o : Option (CallNo × Side)) (w : RunState) → Good d whole w → Good d whole (after_cancel_of d token at key s invite o w)
      cancelling_call_good key invite None w g = replying_good key (plain_response 200) w refl g
      cancelling_call_good key invite (Some asked) w g = signalled_good at (signal.Cancel asked.0 key s invite) w well.of tt g

      cancelling_good : (key : TKey) (invite : Option TKey) (w : RunState) → Good d whole w → Good d whole (after_cancel d token at key s invite w)
      cancelling_good key None w g = replying_good key (plain_response 481) w refl g
      cancelling_good key (Some invite) w g = cancelling_call_good key invite (call_of_invite invite (calls_in d w).entries) w g

      acknowledging_good : (o : Option DialogOwner) (w : RunState) → is_method (codes "ACK") s.parsed.start ≡ true → Good d whole w → Good d whole (after_ack_by d token at s o w)
      acknowledging_good None w ack g = g
      acknowledging_good (Some (InCall call side)) w ack g =
          signalled_good at (signal.Ack call side s) w well.of
          (acks_received d whole (call_config d) side s (entry_of call.0 (calls_in d w).entries) (record { received = met.received s refl; is_ack = ack })) g
      acknowledging_good (Some (InConference room seat)) w ack g = seated_good at (of_room.Ack room seat s) w well.of g
      acknowledging_good (Some (InSubscription sub)) w ack g = g

      responding_good : (key : TKey) (whose : Owner) (w : RunState) → Good d whole w → Good d whole (after_response_to d token at key s whose w)
      responding_good key OfCalls w g = signalled_good at (signal.Answer key s) w well.of tt g
      responding_good key OfSubscriptions w g = box_answered_good (branch_in s.parsed.vias) (status_of s.parsed.start) w g
      responding_good key OfConferences w g = seated_good at (of_room.Answer key s) w well.of g

      opened_good : (is_cancel : Bool) (n : ℕ) (invited : Option TKey) (w : RunState) → Good d whole w →
          Good d whole (after_classified_message d token at s (Some (opening_result is_cancel n invited (message_in s.parsed))) w)
      opened_good true n invited w g = cancelling_good (tkey n) invited w g
      opened_good false n invited w g =
          taking_good (tkey n) (disposition d (is_merged n (live w.actions)) (are_full (calls_in d w).entries) (dialog_owner_in d s.parsed w) s.parsed) w
          (disposition_no_injection read d (is_merged n (live w.actions)) (are_full (calls_in d w).entries) (dialog_owner_in d s.parsed w) s.parsed well) g

      -- what was sent is retransmitted
      repeating_good : (o : Option (Peer × List ℕ)) (w : RunState) → IfSome o (λ sent. IsSentIn w.actions sent.1) → Good d whole w → Good d whole (with_retransmission at o w)
      repeating_good None w c g = g
      repeating_good (Some sent) w c g = plain_good d whole at sent.0 sent.1 w (inl c) g

      -- the message was classified as this
      abbrev received_as : MessageClass → RunState → RunState
      received_as p w = record w { actions = DidHear s.peer (message_in s.parsed) at p ∷ w.actions }

      abbrev receiving_as : MessageClass → Option transaction.Heard → RunState → RunState
      receiving_as p None w = w
      receiving_as p (Some said) w = received_as p w

      abbrev said_of : MessageClass → RunState → Option transaction.Heard
      said_of p w = class_result (length (openings w.actions)) (live w.actions) s.peer (message_in s.parsed) p

      abbrev Taken : MessageClass → RunState → Type 0
      Taken p w = p ≡ class_of (head_of (message_in s.parsed)) (live w.actions)

      received_good : (p : MessageClass) (w : RunState) → Taken p w → Good d whole w → Good d whole (received_as p w)
      received_good p w is g = silent_good d whole (DidHear s.peer (message_in s.parsed) at p) w (received_as p w) is refl refl refl refl refl g

      again_still : (p : MessageClass) (o : Option (Peer × List ℕ)) (w : RunState) → IfSome o (λ sent. IsSentIn w.actions sent.1) → IfSome o (λ sent. IsSentIn (received_as p w).actions sent.1)
      again_still p None w t = tt
      again_still p (Some sent) w t = sent_still (DidHear s.peer (message_in s.parsed) at p) w.actions sent.1 t

      said_good : (p : MessageClass) (w : RunState) → Taken p w → Good d whole w → Good d whole (after_classified_message d token at s (said_of p w) (receiving_as p (said_of p w) w))
      said_good part.Fresh w is g =
          opened_good (is_cancel (head_of (message_in s.parsed))) (length (openings w.actions)) (option_map key_of (find (is_invite_of (head_of (message_in s.parsed))) (live w.actions))) (received_as part.Fresh w)
          (received_good part.Fresh w is g)
      said_good part.Full w is g = too_many_good w g
      said_good (part.Repeat key) w is g = repeating_good _ (received_as (part.Repeat key) w) (again_still (part.Repeat key) _ w (repeat_own w.actions s.peer key g.acts)) (received_good (part.Repeat key) w is g)
      said_good (part.RepeatedFinal key) w is g =
          repeating_good _ (received_as (part.RepeatedFinal key) w) (again_still (part.RepeatedFinal key) _ w (same_again w.actions key g.acts)) (received_good (part.RepeatedFinal key) w is g)
      said_good (part.Answer key) w is g =
          responding_good (tkey key) (owner_of_branch (awaited_request_branch s) (branch_in s.parsed.vias) (calls_in d (received_as (part.Answer key) w)).entries (subscriptions_in w)) (received_as (part.Answer key) w)
          (received_good (part.Answer key) w is g)
      said_good (part.Acked key) w is g = received_good (part.Acked key) w is g
      said_good part.AckOf2xx w is g = acknowledging_good (dialog_owner_in d s.parsed (received_as part.AckOf2xx w)) (received_as part.AckOf2xx w)
          (is_ack_received (message_in s.parsed) (live w.actions) is) (received_good part.AckOf2xx w is g)
      said_good part.Stray w is g = received_good part.Stray w is g

      -- the transactions once it is received
      receiving_is : (o : Option transaction.Heard) (w : RunState) → with_received_action at s o w ≡ receiving_as (class_of (head_of (message_in s.parsed)) (live w.actions)) o w
      receiving_is None w = refl
      receiving_is (Some said) w = refl

      after_message_good : (w : RunState) → Good d whole w → Good d whole (after_message d token at s w)
      after_message_good w g =
          let p : MessageClass = class_of (head_of (message_in s.parsed)) (live w.actions) in
          subst (λ (v : RunState). Good d whole (after_classified_message d token at s (said_of p w) v)) (sym (receiving_is (said_of p w) w)) (said_good p w refl g)

    -- ---- events

    -- what is read of an event
    abbrev IsGoodParsedEvent : ParsedEvent → Type 0
    IsGoodParsedEvent events.Nothing = Unit {0}
    IsGoodParsedEvent (events.Refused peer source reply) = MessageHasNoInjection reply
    IsGoodParsedEvent (events.Received said) = IsReadWithFields said.parsed
    IsGoodParsedEvent (events.WebRequested request kept rows) = Unit {0}

    met_good : (at : ℕ) (x : ParsedEvent) (w : RunState) → IsGoodParsedEvent x → IsMet x → Good d whole w → Good d whole (after_parsed_event d token at x w)
    met_good at events.Nothing w c e g = g
    met_good at (events.Refused peer source reply) w c e g =
        let tag : List ℕ = tag_for token w.drawn (to_tag_in reply.lines) in
        let said : Message Start = completed_reply tag source reply in
        plain_good d whole at peer (message_text said) (with_draws (tags_due (to_tag_in reply.lines)) w)
        (inr (inr (e.own tag said refl (reply_no_injection tag source reply (tag_no_injection token w.drawn (to_tag_in reply.lines) clean_token) c))))
        (alike d whole w (with_draws (tags_due (to_tag_in reply.lines)) w) refl refl refl refl refl g)
    met_good at (events.Received said) w c e g = after_message_good at said c e w g
    met_good at (events.WebRequested request kept rows) w c e g =
        let replied : RunState = after_web_reply d at request kept rows w in
        steps.puts d token at StaysGood (steps_good at) (λ account counts v. noted_good (boxes.Puts account counts) v tt) (counts_put_in d.names request kept) replied (record {
          ops = g.ops;
          acked = g.acked;
          conferences = g.conferences;
          boxes = g.boxes;
          acts = g.acts;
          offers = each_append (IsOwnOffer d whole w.actions w.call_ops) w.offers (offer.Web at _ ∷ []) g.offers (tt, tt);
        })

    handing_good : (took : Bool) (rows : List Row) (w : RunState) → Good d whole w → Good d whole (after_handover took rows w)
    handing_good took [] w g = g
    handing_good false (row ∷ rows) w g = g
    handing_good true (row ∷ rows) w g = alike d whole w _ refl refl refl refl refl g

    came_good : (at : ℕ) (x : ParsedEvent) (took : Bool) (w : RunState) → IsGoodParsedEvent x → IsMet x → Good d whole w → Good d whole (after_event d token at x took w)
    came_good at x took w c e g =
        let begins : RunState = record (with_next_step w) { clock = at } in
        let left : RunState = after_parsed_event d token at x begins in
        handing_good took left.waiting left (met_good at x begins c e (alike d whole (with_next_step w) begins refl refl refl refl refl (begun_good w g)))

    abbrev AreGoodNotices : List TimedEvent → Type 0
    AreGoodNotices xs = Each (λ x. IsGoodParsedEvent x.parsed × IsMet x.parsed) xs

    after_good : (fuel : ℕ) (xs : List TimedEvent) (w : RunState) → AreGoodNotices xs → Good d whole w → Good d whole (after_events d token fuel xs w)
    after_good fuel [] w c g = g
    after_good fuel (x ∷ xs) w c g =
        let now : ℕ = clock_at w x.at in
        after_good fuel xs (after_event_in_order d token fuel x w) c.1 (came_good now x.parsed x.accepted (after_due_deadlines d token fuel now w) c.0.0 c.0.1 (settled_good fuel now w g))

    -- ---- what is read

    refused_good : (peer : Peer) (source : Addr) (o : Option (Message Start)) → IfSome o MessageHasNoInjection → IsGoodParsedEvent (events.parsed_refusal peer source o)
    refused_good peer source None c = tt
    refused_good peer source (Some reply) c = c

    read_good : (peer : Peer) (source : Addr) (r : Read) → ReadResultHasNoInjection r → IsGoodParsedEvent (parsed_result d.peers peer source r)
    read_good peer source (Ok m) c = message_view_well peer source (is_trusted peer d.peers.known) m c
    read_good peer source (Err (fault.TooLarge reply)) c = refused_good peer source reply c
    read_good peer source (Err fault.NotSip) c = tt
    read_good peer source (Err (fault.TooMany reply)) c = refused_good peer source reply c
    read_good peer source (Err (fault.Bad place reply)) c = refused_good peer source reply c
    read_good peer source (Err fault.NoMemory) c = tt

    from_good : (source : Addr) (bytes : List ℕ) (o : Option Peer) → IsGoodParsedEvent (parsed_from d.peers source bytes o)
    from_good source bytes None = tt
    from_good source bytes (Some peer) = read_good peer source (read_result bytes) (read_result_no_injection bytes)

    datagram_good : (source : Addr) (bytes : List ℕ) → IsGoodParsedEvent (parsed_datagram d source bytes)
    unfolding parsed_datagram
    datagram_good source bytes = from_good source bytes (peer_at source d.peers.known)

    event_good : (e : Event) (kept : KeeperOutcomeView) (rows : List Row) → IsGoodParsedEvent (parsed_event d e kept rows)
    event_good (event.Datagram from at bytes) kept rows = datagram_good from bytes
    event_good (event.Web at bytes) kept rows = tt
    event_good (event.Quiet at) kept rows = tt

    notices_good : (earlier recorded : List EventRecord) → whole ≡ earlier ++ recorded → AreGoodNotices (timed_events d recorded)
    notices_good earlier [] is = tt
    notices_good earlier (x ∷ recorded) is = (
      (event_good x.event x.outcome x.rows, came_in earlier x recorded is),
      notices_good (earlier ++ x ∷ []) recorded (is ∙ sym (append_assoc earlier (x ∷ []) recorded)),
    )

    abbrev after_all : (loaded : Texts) (fuel : ℕ) → RunState
    after_all loaded fuel = state_after d token loaded fuel whole

    own_acts : (acts : List TransactionOp) → AreGoodActions acts → Each ActionHasOwnFields acts
    own_acts [] g = tt
    own_acts (DidBegin step ∷ acts) g = (tt, own_acts acts g.1)
    own_acts (DidHear p m now taken ∷ acts) g = (tt, own_acts acts g.1)
    own_acts (DidAsk p m now ∷ acts) g = (own_law m g.0, own_acts acts g.1)
    own_acts (DidReply key m now ∷ acts) g = (own_law m g.0, own_acts acts g.1)
    own_acts (DidAck key m ∷ acts) g = (own_law m g.0, own_acts acts g.1)
    own_acts (DidFire key ∷ acts) g = (tt, own_acts acts g.1)
    own_acts (DidSettle key own ∷ acts) g = (tt, own_acts acts g.1)

    pub all_own : (loaded : Texts) (fuel : ℕ) → RunHasNoInjection d whole (after_all loaded fuel)
    all_own loaded fuel =
        let good : Good d whole (after_all loaded fuel) =
        after_good fuel (timed_events d whole) (initial_state loaded) (notices_good [] whole refl)
        (record { ops = tt; acked = tt; conferences = tt; boxes = tt; acts = tt; offers = tt }) in
        record { built = own_acts (after_all loaded fuel).actions good.acts; offered = good.offers }
