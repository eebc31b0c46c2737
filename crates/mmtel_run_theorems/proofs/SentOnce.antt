-- Through a run each INVITE of a call, and what is in flight, was sent to its peer, and each has a number of its own, as long as fewer than 2^60 numbers are drawn; and the count of drawn numbers never decreases.
use Rattle.std.proofs.Common.{codes, ◌≡◌, ◌<◌, ◌≤◌, ◌^◌, ◌+◌, ℕ, zero, suc, Bool, true, false, List, [], ◌∷◌, ◌++◌, take, drop, length, Option, Some, None, Result, Ok, Err, refl, sym, cond, subst, inl, arith, append-nil}
use Rattle.std.specs.Prelude.{position, remove, slice_get, slice_set}
use Rattle.std.specs.Option.{option_map}
use Rattle.mmtel_compose.specs.ReceivedMessages.{MessageView, status_of}
use Rattle.mmtel_b2bua.specs.Entries.{busy_beside, has_received_key, has_sent_branch, is_numbered, kept_entry}
use Rattle.mmtel_b2bua.specs.Operations as histories
use Rattle.mmtel_b2bua.specs.Operations.{Drops, Finishes, Receives, Releases, Restores, TableOp, step_on_finish, step_on_receive_after, table_after}
use Rattle.mmtel_b2bua.specs.Detaching.{entries_after_release, entries_after_restore, entry_after_release, entry_after_restore, finish_step, place_of, released_at}
use Rattle.mmtel_b2bua.specs.Detaching.{released_leg_of, released_where, restored_at, restored_where, step_of_finish, step_of_finish_at, step_of_finish_in}
use Rattle.mmtel_b2bua.specs.Queries.{party}
use Rattle.mmtel_b2bua.specs.Tables.{TableStep, busy_with, call_step, entry_for, invites_by, opening_step, put_at, snapshot_at, step_in}
use Rattle.mmtel_b2bua.specs.Tables.{step_of_arrival as opened_in, step_of_entry_at, step_of_receiver as received_in, step_of_signal}
use Rattle.mmtel_b2bua.specs.declared.entries.Entry.{Entry}
use Rattle.mmtel_b2bua.specs.declared.entries.InviteKey.{InviteKey}
use Rattle.mmtel_b2bua.specs.declared.signals.Signal.{Signal}
use Rattle.mmtel_b2bua.specs.declared.signals.Signal.TheVariants as signal
use Rattle.mmtel_output.specs.ResponseMatching.{awaited_request_branch, behind_cookie, branch_in, timed_out_branch}
use Rattle.mmtel_call_services.specs.CallConfig.{CallConfigView}
use Rattle.mmtel_call_services.specs.declared.openings.Arrival.{Arrival}
use Rattle.mmtel_call.specs.Closing.{StepResult}
use Rattle.mmtel_call.specs.Settled.{is_settled}
use Rattle.mmtel_call.specs.declared.signals.Signal as calls
use Rattle.mmtel_call.specs.declared.signals.Signal.TheVariants as of_call
use Rattle.mmtel_call_theorems.specs.Branches.Theorems.{DetachedCallsWereSent, EndsSendOnce, OpeningsSendOnce, RestoredCallsWereSent, SendsOnce, StepsSendOnce}
use Rattle.mmtel_call_theorems.specs.Branches.SentRequests.{AreNumbered, CallWasSent, Each, IsNotAwaited, RequestWasSent, SomeInviteWasSent, requests_in}
use Rattle.mmtel_call_theorems.proofs.Branches.Sending.{call_more, sent_before}
use Rattle.mmtel_charging.specs.declared.rows.Row.{Row}
use Rattle.mmtel_output.specs.Outputs.{empty_output}
use Rattle.mmtel_output.specs.declared.outputs.StepOutput.{StepOutput}
use Rattle.mmtel_directory.specs.declared.directories.Directory.{Directory}
use Rattle.mmtel_focus.specs.Operations as rooms
use Rattle.mmtel_focus.specs.Operations.{join_request}
use Rattle.mmtel_focus.specs.Joining.{after_join}
use Rattle.mmtel_focus.specs.Table.{access, is_table_full}
use Rattle.mmtel_focus.specs.declared.faults.RoomFault.{RoomFault}
use Rattle.mmtel_focus.specs.declared.referrals.Replaces.{Replaces}
use Rattle.mmtel_focus.specs.declared.signals.RoomSignal.{RoomSignal}
use Rattle.mmtel_focus.specs.declared.signals.RoomSignal.TheVariants as of_room
use Rattle.mmtel_records_in_force.specs.Texts.{Texts}
use Rattle.mmtel_leg.specs.declared.dialogues.Dialogue.{Dialogue}
use Rattle.mmtel_leg.specs.declared.legs.Released.{Released}
use Rattle.mmtel_message.specs.Message.{Message}
use Rattle.mmtel_message.specs.declared.messages.Start.{Start}
use Rattle.mmtel_mwi.specs.Boxes as mailboxes
use Rattle.mmtel_mwi.specs.Boxes.{counts_in, notify_request_of, subscription_numbered}
use Rattle.mmtel_mwi.specs.Operations as boxes
use Rattle.mmtel_mwi.specs.Notifies.{notify_request_in, remaining_seconds}
use Rattle.mmtel_mwi.specs.declared.counts.Counts.{Counts}
use Rattle.mmtel_mwi.specs.declared.subscriptions.Subscription.{Subscription}
use Rattle.mmtel_base.specs.Numbers.{next_number}
use Rattle.mmtel_sheet_values.specs.View.{SheetsInForce}
use Rattle.mmtel_transaction.specs.Results.{DueEntryView, after_firing, due_result, hear_result, is_merged, next_due}
use Rattle.mmtel_transaction.specs.Operations.{live}
use Rattle.mmtel_transaction.specs.Tokens.{TokensView}
use Rattle.mmtel_transaction.specs.declared.words.Due.{Due}
use Rattle.mmtel_transaction.specs.declared.words.Due.TheVariants as due
use Rattle.mmtel_transaction.specs.declared.words.Emit.{Emit}
use Rattle.mmtel_transaction.specs.declared.words.Emit.TheVariants as emit
use Rattle.mmtel_transaction.specs.declared.words.Heard as transaction
use Rattle.mmtel_transaction.specs.declared.words.Heard.TheVariants as heard
use Rattle.mmtel_transaction.specs.declared.words.TKey.{TKey}
use Rattle.mmtel_trust.specs.ParsedMessage.{caller_account}
use Rattle.mmtel_types.specs.Sides.{other_side}
use Rattle.mmtel_types.specs.declared.addrs.Addr.{Addr}
use Rattle.mmtel_types.specs.declared.numbers.Account.{Account}
use Rattle.mmtel_types.specs.declared.numbers.CallNo.{CallNo}
use Rattle.mmtel_types.specs.declared.numbers.Peer.{Peer}
use Rattle.mmtel_types.specs.declared.numbers.RoomNo.{RoomNo}
use Rattle.mmtel_types.specs.declared.sides.Side.{Side}
use Rattle.mmtel_web.specs.Uploads.{counts_put_in}
use Rattle.mmtel_run_definitions.specs.OwnResponses.{StatusResponse, plain_response, response_to, tags_due, to_tag_in}
use Rattle.mmtel_run_definitions.specs.Calls.{are_full, arrival_signal, call_config, call_of_invite}
use Rattle.mmtel_run_definitions.specs.Deadlines.{Deadline, OfCall, OfParticipant, OfServiceTimer, OfSubscription, OfTransaction, ServiceTimer}
use Rattle.mmtel_run_definitions.specs.Events.{WebRequested, ParsedEvent, Received, TimedEvent, Nothing, Refused, message_in}
use Rattle.mmtel_run_definitions.specs.Records.{until_of}
use Rattle.mmtel_run_definitions.specs.Refusals.{Disposition, Enter, EnterConference, EnterSubscription, JoinConference, OpenCall, OpenConference, Register, Respond, Subscribe, disposition}
use Rattle.mmtel_run_definitions.specs.Ownership.{DialogOwner, InSubscription, InCall, InConference, OfSubscriptions, OfCalls, OfConferences, Owner, account_of_side}
use Rattle.mmtel_run_definitions.specs.Ownership.{owner_of_key, owner_of_branch, is_of_peer, leg_by, replacement_in, conference_config, replaced_side, status_of_fault}
use Rattle.mmtel_run_definitions.specs.Run.{after_deadline_if, after_due_deadlines, after_event_in_order, after_events, after_one_deadline, clock_at, first_due_deadline}
use Rattle.mmtel_run_definitions.specs.ShortRuns.{tokens_of_op}
use Rattle.mmtel_run_definitions.specs.Subscriptions.{after_mailbox_upload, after_notify_response, grant_response, notify_emits, other_response, refusal_response, with_mailbox_op}
use Rattle.mmtel_run_definitions.specs.Transitions.{RunState, adoption_op, after_ack_by, after_adoption_if, after_call_end, after_call_signal, after_cancel, after_cancel_of, after_classified_message}
use Rattle.mmtel_run_definitions.specs.Transitions.{after_conference_invite, after_conference_op, after_conference_signal, after_deadline, after_detach, after_disposition, after_due, after_factory_invite}
use Rattle.mmtel_run_definitions.specs.Transitions.{after_handover, after_join_if, after_message, after_newcomer_refusal, after_opening_if, after_parsed_event, after_participant_request, after_refer_notify}
use Rattle.mmtel_run_definitions.specs.Transitions.{after_replaces, after_replacing, after_replacing_named, after_replacing_side, after_request_timeout, after_response_to, after_service_timer}
use Rattle.mmtel_run_definitions.specs.Transitions.{after_transaction_end, after_web_reply, after_web_request, calls_in, conference_signal_op, conferences_in, dialog_owner_in, initial_state, join_op}
use Rattle.mmtel_run_definitions.specs.Transitions.{next_tag, output_of_conference_op, received_now, subscriptions_in, tokens_now, with_call_op, with_call_output, with_conference_output, with_draws}
use Rattle.mmtel_run_definitions.specs.Transitions.{with_emit, with_emits, with_next_step, with_received_action, with_registration, with_response, with_retransmission, with_timer}
use Rattle.mmtel_run_definitions.proofs.MailboxSteps as mailing
use Rattle.mmtel_run_definitions.proofs.MailboxSteps.{AreResponses, AreSteps, tells_in}
use Rattle.mmtel_run_theorems.specs.EquivalentStates.{AllEarly, IsEarly}
use Rattle.mmtel_run_theorems.specs.SentInvites.{ConferenceWasSent, ConferencesSendOnce, OpSendsOnce, TableWasSent}
use Rattle.mmtel_run_theorems.specs.Mask.{state_at_event as coming_in}
use Rattle.mmtel_run_theorems.proofs.ActionPrefixes.{Anyhow}
use Rattle.mmtel_run_theorems.proofs.ConferenceInvites.{table_more}
use Rattle.mmtel_run_theorems.proofs.ClientTransactions.{Falls, asks_after, asks_of, each_append, each_same, falls_after, falls_more, numbers_on, sent_after, sent_parted}

abbrev SentRequests : Type 0
SentRequests = List (Peer × Message Start)

abbrev pub EntryWasSent : Addr → SentRequests → Entry → Type 0
EntryWasSent sip asks e = CallWasSent (RequestWasSent sip asks) e.call

-- what is proved of the INVITEs of calls and of conferences
pub record Once : Type 0 where
  pub steps : StepsSendOnce
  pub openings : OpeningsSendOnce
  pub ends : EndsSendOnce
  pub detached : DetachedCallsWereSent
  pub restored : RestoredCallsWereSent
  pub conferences : ConferencesSendOnce

-- ---- positions in a list

each_set : {A : Type 0} (P : A → Type 0) (xs : List A) (at : ℕ) (y : A) → P y → Each P xs → Each P (slice_set xs at y)
each_set P [] at y is e = tt
each_set P (x ∷ xs) zero y is e = (is, e.1)
each_set P (x ∷ xs) (suc at) y is e = (e.0, each_set P xs at y is e.1)

each_take : {A : Type 0} (P : A → Type 0) (n : ℕ) (xs : List A) → Each P xs → Each P (take n xs)
each_take P zero xs e = tt
each_take P (suc n) [] e = tt
each_take P (suc n) (x ∷ xs) e = (e.0, each_take P n xs e.1)

each_drop : {A : Type 0} (P : A → Type 0) (n : ℕ) (xs : List A) → Each P xs → Each P (drop n xs)
each_drop P zero xs e = e
each_drop P (suc n) [] e = tt
each_drop P (suc n) (x ∷ xs) e = each_drop P n xs e.1

each_removed : {A : Type 0} (P : A → Type 0) (xs : List A) (at : ℕ) → Each P xs → Each P (remove xs at)
each_removed P xs at e = each_append P (take at xs) (drop (suc at) xs) (each_take P at xs e) (each_drop P (suc at) xs e)

pub each_at : {A : Type 0} (P : A → Type 0) (xs : List A) (at : ℕ) (y : A) → Each P xs → slice_get xs at ≡ Some y → P y
each_at P [] at y e is = let none : None ≡ Some y = is in absurd cc
each_at P (x ∷ xs) zero y e is = let some : Some x ≡ Some y = is in let same : x ≡ y = cc in subst P same e.0
each_at P (x ∷ xs) (suc at) y e is = each_at P xs at y e.1 is

-- ---- the table of calls

module _ (steps : StepsSendOnce) (openings : OpeningsSendOnce) (config : CallConfigView) (before : SentRequests) (tokens : TokensView) where
  abbrev Sent : SentRequests → Entry → Type 0
  Sent asks = EntryWasSent config.sip asks

  record MovesWell (moved : TableStep) : Type 0 where
    pub calls_in : Each (Sent (before ++ requests_in moved.output.out)) moved.entries
    pub out_in : moved.output.tokens.drawn < 2 ^ 60 → AreNumbered config.sip tokens.token tokens.drawn moved.output.tokens.drawn moved.output.out
    pub text_in : moved.output.tokens.token ≡ tokens.token

  stays : (es : List Entry) → Each (Sent before) es → MovesWell (record { entries = es; output = empty_output tokens })
  stays es had = record {
    calls_in = subst (λ (asks : SentRequests). Each (Sent asks) es) (sym (append-nil before)) had;
    out_in = λ less. omega arith;
    text_in = refl;
  }

  more : (asks : SentRequests) (es : List Entry) → Each (Sent before) es → Each (Sent (before ++ asks)) es
  more asks es had = each_same (Sent before) (Sent (before ++ asks))
      (λ e is. call_more (RequestWasSent config.sip before) (RequestWasSent config.sip (before ++ asks)) (sent_before config.sip before asks) e.call is) es had

  put_if : (P : Entry → Type 0) (b : Bool) (at : ℕ) (es : List Entry) → Each P es → Each P (cond b (remove es at) es)
  put_if P true at es had = each_removed P es at had
  put_if P false at es had = had

  put_sent : (P : Entry → Type 0) (at : ℕ) (e : Entry) (es : List Entry) → P e → Each P es → Each P (put_at at e es)
  put_sent P at e es is had = put_if P (is_settled e.call) at (slice_set es at e) (each_set P es at e is had)

  kept_entry_if : (P : Entry → Type 0) (b : Bool) (e : Entry) → P e → Each P (cond b [] (e ∷ []))
  kept_entry_if P true e is = tt
  kept_entry_if P false e is = (is, tt)

  module _ (at : ℕ) (view : SheetsInForce) where
    step_sends : (busy : List Account) (x : calls.Signal) (e : Entry) → Sent before e → SendsOnce config.sip before tokens (call_step config at view busy x (empty_output tokens) e)
    unfolding call_step
    step_sends busy x e is = steps config (snapshot_at at view busy) x e.call before tokens is

    open_sends : (busy : List Account) (a : Arrival) → SendsOnce config.sip before tokens (opening_step config at view busy a (empty_output tokens))
    unfolding opening_step
    open_sends busy a = openings config (snapshot_at at view busy) a before tokens

    at_well : (x : calls.Signal) (invites : List InviteKey) (place : ℕ) (o : Option Entry) (es : List Entry) → slice_get es place ≡ o → Each (Sent before) es →
        MovesWell (step_of_entry_at config at view x invites place o es (empty_output tokens))
    at_well x invites place None es is had = stays es had
    at_well x invites place (Some e) es is had =
        let s : StepResult = call_step config at view (busy_beside e.call.opening.number.0 es) x (empty_output tokens) e in
        let sends : SendsOnce config.sip before tokens s = step_sends (busy_beside e.call.opening.number.0 es) x e (each_at (Sent before) es place e had is) in
        record {
          calls_in = put_sent (Sent (before ++ requests_in s.output.out)) place _ es sends.call_in (more (requests_in s.output.out) es had);
          out_in = sends.out_in;
          text_in = sends.text_in;
        }

    in_well : (x : calls.Signal) (invites : List InviteKey) (o : Option ℕ) (es : List Entry) → Each (Sent before) es → MovesWell (step_in config at view x invites o es (empty_output tokens))
    in_well x invites None es had = stays es had
    in_well x invites (Some place) es had = at_well x invites place (slice_get es place) es refl had

    received_well : (whose : Entry → Bool) (x : calls.Signal) (invites : List InviteKey) (es : List Entry) → Each (Sent before) es →
        MovesWell (received_in config at view whose x invites es (empty_output tokens))
    received_well whose x invites es had = in_well x invites (position whose es) es had

    opened_well : (a : Arrival) (es : List Entry) → Each (Sent before) es → MovesWell (opened_in config at view a es (empty_output tokens))
    opened_well a es had =
        let s : StepResult = opening_step config at view (busy_with a es) a (empty_output tokens) in
        let sends : SendsOnce config.sip before tokens s = open_sends (busy_with a es) a in
        let P : Entry → Type 0 = Sent (before ++ requests_in s.output.out) in
        record {
          calls_in = each_append P es (kept_entry (entry_for a.key s)) (more (requests_in s.output.out) es had) (kept_entry_if P (is_settled s.call) (entry_for a.key s) sends.call_in);
          out_in = sends.out_in;
          text_in = sends.text_in;
        }

    taken_well : (number : ℕ) (x : Signal) (es : List Entry) → Each (Sent before) es → MovesWell (step_of_signal config at view number x es (empty_output tokens))
    unfolding step_of_signal
    taken_well number (signal.Arrived key invite served registration identities) es had =
        opened_well (record { number = record { 0 = number }; key = key; invite = invite; served = served; registration = registration; identities = identities }) es had
    taken_well number (signal.Request call side key request) es had = received_well (is_numbered call.0) (of_call.Request side key request) (invites_by side key request) es had
    taken_well number (signal.Ack call side ack) es had = received_well (is_numbered call.0) (of_call.Ack side ack) [] es had
    taken_well number (signal.Cancel call key cancel invite) es had = received_well (is_numbered call.0) (of_call.Cancel key cancel invite) [] es had
    taken_well number (signal.Answer key response) es had = received_well (has_sent_branch (awaited_request_branch response)) (of_call.Answer key response) [] es had
    taken_well number (signal.Silent branch method) es had = received_well (has_sent_branch (timed_out_branch branch method)) (of_call.Silent branch method) [] es had
    taken_well number (signal.Due call what) es had = received_well (is_numbered call.0) (of_call.Due what) [] es had
    taken_well number (signal.Over key) es had = received_well (has_received_key key) (of_call.Ended key) [] es had

  -- a leg is taken out or put back, and a call ends without it
  module _ (others : Once) where
    released_at_sent : (side : Side) (place : ℕ) (o : Option Entry) (es : List Entry) → slice_get es place ≡ o → Each (Sent before) es → Each (Sent before) (released_at side place o es)
    released_at_sent side place None es is had = had
    released_at_sent side place (Some e) es is had = each_set (Sent before) es place (entry_after_release side e) (others.detached config.sip side e.call before (each_at (Sent before) es place e had is)) had

    released_by_sent : (side : Side) (o : Option ℕ) (es : List Entry) → Each (Sent before) es → Each (Sent before) (released_where side o es)
    released_by_sent side None es had = had
    released_by_sent side (Some place) es had = released_at_sent side place (slice_get es place) es refl had

    released_sent : (number : ℕ) (side : Side) (es : List Entry) → Each (Sent before) es → Each (Sent before) (entries_after_release number side es)
    unfolding entries_after_release
    released_sent number side es had = released_by_sent side (place_of number es) es had

    back_at_sent : (away : Released) (place : ℕ) (o : Option Entry) (es : List Entry) → slice_get es place ≡ o → Each (Sent before) es → Each (Sent before) (restored_at away place o es)
    back_at_sent away place None es is had = had
    back_at_sent away place (Some e) es is had = each_set (Sent before) es place (entry_after_restore away e) (others.restored config.sip away e.call before (each_at (Sent before) es place e had is)) had

    back_by_sent : (away : Released) (o : Option ℕ) (es : List Entry) → Each (Sent before) es → Each (Sent before) (restored_where away o es)
    back_by_sent away None es had = had
    back_by_sent away (Some place) es had = back_at_sent away place (slice_get es place) es refl had

    restored_sent : (number : ℕ) (away : Released) (es : List Entry) → Each (Sent before) es → Each (Sent before) (entries_after_restore number away es)
    unfolding entries_after_restore
    restored_sent number away es had = back_by_sent away (place_of number es) es had

    end_sends : (at : ℕ) (e : Entry) → Sent before e → SendsOnce config.sip before tokens (finish_step config at (empty_output tokens) e)
    unfolding finish_step
    end_sends at e is = others.ends config at e.call before tokens is

    ended_at_well : (at place : ℕ) (o : Option Entry) (es : List Entry) → slice_get es place ≡ o → Each (Sent before) es → MovesWell (step_of_finish_at config at place o es (empty_output tokens))
    ended_at_well at place None es is had = stays es had
    ended_at_well at place (Some e) es is had =
        let s : StepResult = finish_step config at (empty_output tokens) e in
        let sends : SendsOnce config.sip before tokens s = end_sends at e (each_at (Sent before) es place e had is) in
        record {
          calls_in = put_sent (Sent (before ++ requests_in s.output.out)) place _ es sends.call_in (more (requests_in s.output.out) es had);
          out_in = sends.out_in;
          text_in = sends.text_in;
        }

    ended_by_well : (at : ℕ) (o : Option ℕ) (es : List Entry) → Each (Sent before) es → MovesWell (step_of_finish_in config at o es (empty_output tokens))
    ended_by_well at None es had = stays es had
    ended_by_well at (Some place) es had = ended_at_well at place (slice_get es place) es refl had

    ended_well : (at number : ℕ) (es : List Entry) → Each (Sent before) es → MovesWell (step_of_finish config at number es (empty_output tokens))
    unfolding step_of_finish
    ended_well at number es had = ended_by_well at (place_of number es) es had

-- ---- the state

with_emits_asks : (at : ℕ) (out : List Emit) (w : RunState) → asks_of (with_emits at out w).actions ≡ asks_after out (asks_of w.actions)
with_emits_asks at [] w = refl
with_emits_asks at (emit.Ask peer m ∷ out) w = with_emits_asks at out (with_emit at (emit.Ask peer m) w)
with_emits_asks at (emit.Reply key m ∷ out) w = with_emits_asks at out (with_emit at (emit.Reply key m) w)
with_emits_asks at (emit.Plain peer text ∷ out) w = with_emits_asks at out (with_emit at (emit.Plain peer text) w)
with_emits_asks at (emit.Ack key m ∷ out) w = with_emits_asks at out (with_emit at (emit.Ack key m) w)
with_emits_asks at (emit.Settled key own ∷ out) w = with_emits_asks at out (with_emit at (emit.Settled key own) w)
with_emits_asks at (emit.Arm call what when ∷ out) w = with_emits_asks at out (with_emit at (emit.Arm call what when) w)
with_emits_asks at (emit.ArmSeat room seat what when ∷ out) w = with_emits_asks at out (with_emit at (emit.ArmSeat room seat what when) w)

with_emits_drawn : (at : ℕ) (out : List Emit) (w : RunState) → (with_emits at out w).drawn ≡ w.drawn
with_emits_drawn at [] w = refl
with_emits_drawn at (emit.Ask peer m ∷ out) w = with_emits_drawn at out (with_emit at (emit.Ask peer m) w)
with_emits_drawn at (emit.Reply key m ∷ out) w = with_emits_drawn at out (with_emit at (emit.Reply key m) w)
with_emits_drawn at (emit.Plain peer text ∷ out) w = with_emits_drawn at out (with_emit at (emit.Plain peer text) w)
with_emits_drawn at (emit.Ack key m ∷ out) w = with_emits_drawn at out (with_emit at (emit.Ack key m) w)
with_emits_drawn at (emit.Settled key own ∷ out) w = with_emits_drawn at out (with_emit at (emit.Settled key own) w)
with_emits_drawn at (emit.Arm call what when ∷ out) w = with_emits_drawn at out (with_emit at (emit.Arm call what when) w)
with_emits_drawn at (emit.ArmSeat room seat what when ∷ out) w = with_emits_drawn at out (with_emit at (emit.ArmSeat room seat what when) w)

with_emits_rooms : (at : ℕ) (out : List Emit) (w : RunState) → (with_emits at out w).conference_ops ≡ w.conference_ops
with_emits_rooms at [] w = refl
with_emits_rooms at (emit.Ask peer m ∷ out) w = with_emits_rooms at out (with_emit at (emit.Ask peer m) w)
with_emits_rooms at (emit.Reply key m ∷ out) w = with_emits_rooms at out (with_emit at (emit.Reply key m) w)
with_emits_rooms at (emit.Plain peer text ∷ out) w = with_emits_rooms at out (with_emit at (emit.Plain peer text) w)
with_emits_rooms at (emit.Ack key m ∷ out) w = with_emits_rooms at out (with_emit at (emit.Ack key m) w)
with_emits_rooms at (emit.Settled key own ∷ out) w = with_emits_rooms at out (with_emit at (emit.Settled key own) w)
with_emits_rooms at (emit.Arm call what when ∷ out) w = with_emits_rooms at out (with_emit at (emit.Arm call what when) w)
with_emits_rooms at (emit.ArmSeat room seat what when ∷ out) w = with_emits_rooms at out (with_emit at (emit.ArmSeat room seat what when) w)

with_emits_ops : (at : ℕ) (out : List Emit) (w : RunState) → (with_emits at out w).call_ops ≡ w.call_ops
with_emits_ops at [] w = refl
with_emits_ops at (emit.Ask peer m ∷ out) w = with_emits_ops at out (with_emit at (emit.Ask peer m) w)
with_emits_ops at (emit.Reply key m ∷ out) w = with_emits_ops at out (with_emit at (emit.Reply key m) w)
with_emits_ops at (emit.Plain peer text ∷ out) w = with_emits_ops at out (with_emit at (emit.Plain peer text) w)
with_emits_ops at (emit.Ack key m ∷ out) w = with_emits_ops at out (with_emit at (emit.Ack key m) w)
with_emits_ops at (emit.Settled key own ∷ out) w = with_emits_ops at out (with_emit at (emit.Settled key own) w)
with_emits_ops at (emit.Arm call what when ∷ out) w = with_emits_ops at out (with_emit at (emit.Arm call what when) w)
with_emits_ops at (emit.ArmSeat room seat what when ∷ out) w = with_emits_ops at out (with_emit at (emit.ArmSeat room seat what when) w)

module _ (d : Directory) (token : List ℕ) where
  -- each INVITE of a call and of a conference was sent to its peer; and INVITEs have numbers of their own
  pub record AreSent (asks : SentRequests) (drawn : ℕ) (ops : List TableOp) (houses : List rooms.TableOp) : Type 0 where
    pub calls_sent : Each (EntryWasSent d.sip asks) (table_after (call_config d) ops).entries
    pub conferences_sent : TableWasSent (SomeInviteWasSent d.sip asks) (rooms.table_after (conference_config d) houses)
    pub numbered : drawn < 2 ^ 60 → Falls d.sip token (suc drawn) asks

  abbrev pub Holds : RunState → Type 0
  Holds w = AreSent (asks_of w.actions) w.drawn w.call_ops w.conference_ops

  -- from one state to another
  pub record Goes (w v : RunState) : Type 0 where
    pub early : Holds w → IsEarly v → IsEarly w
    pub holds : Holds w → Holds v

  same_sent : (a b : SentRequests) (m n : ℕ) (x y : List TableOp) (s u : List rooms.TableOp) → a ≡ b → m ≡ n → x ≡ y → s ≡ u → AreSent a m x s → AreSent b n y u
  same_sent a b m n x y s u asks drawn ops houses had =
      subst (λ (z : SentRequests). AreSent z n y u) asks (subst (λ (z : ℕ). AreSent a z y u) drawn (subst (λ (z : List TableOp). AreSent a m z u) ops (subst (λ (z : List rooms.TableOp). AreSent a m x z) houses had)))

  pub same : (w : RunState) → Goes w w
  same w = record { early = λ had less. less; holds = λ had. had }

  pub then_goes : (w v u : RunState) → Goes w v → Goes v u → Goes w u
  then_goes w v u a b = record { early = λ had less. a.early had (b.early (a.holds had) less); holds = λ had. b.holds (a.holds had) }

  -- what draws no tag for a call, and sends no request
  drew_more : (w v : RunState) (count : ℕ) → asks_of v.actions ≡ asks_of w.actions → v.drawn ≡ w.drawn + count → v.call_ops ≡ w.call_ops → v.conference_ops ≡ w.conference_ops → Goes w v
  drew_more w v count asks drawn ops houses = record {
    early = λ had less. omega (arith, less, drawn);
    holds = λ had. same_sent (asks_of w.actions) (asks_of v.actions) v.drawn v.drawn w.call_ops v.call_ops w.conference_ops v.conference_ops (sym asks) refl (sym ops) (sym houses)
        (record {
          calls_sent = had.calls_sent;
          conferences_sent = had.conferences_sent;
          numbered = λ less. falls_more d.sip token (suc w.drawn) (suc v.drawn) (asks_of w.actions) (omega (arith, drawn)) (had.numbered (omega (arith, less, drawn)));
        });
  }

  -- what was requested before, and what is requested now
  sent_now : (asks : SentRequests) (out : List Emit) (method branch : List ℕ) (peer : Peer) → RequestWasSent d.sip (asks ++ requests_in out) method branch peer →
      RequestWasSent d.sip (asks_after out asks) method branch peer
  sent_now asks out method branch peer was = sent_after d.sip method branch peer out asks (sent_parted d.sip method branch peer asks (requests_in out) was)

  module _ (once : Once) where
    -- an operation on the calls, with this output
    record Brings (w : RunState) (op : TableOp) (output : StepOutput) : Type 0 where
      pub calls_in : Each (EntryWasSent d.sip (asks_of w.actions ++ requests_in output.out)) (table_after (call_config d) (op ∷ w.call_ops)).entries
      pub out_in : output.tokens.drawn < 2 ^ 60 → AreNumbered d.sip token w.drawn output.tokens.drawn output.out

    module _ (at : ℕ) (op : TableOp) (output : StepOutput) (w : RunState) (well : Holds w → Brings w op output) where
      abbrev asks : SentRequests
      asks = asks_of w.actions

      abbrev mid : RunState
      mid = record w { call_ops = Drops (length output.rows) ∷ op ∷ w.call_ops; drawn = output.tokens.drawn; waiting = w.waiting ++ output.rows }

      early_by : Holds w → IsEarly (with_call_output at op output w) → IsEarly w
      early_by had less =
          let small : output.tokens.drawn < 2 ^ 60 = subst (λ (n : ℕ). n < 2 ^ 60) (with_emits_drawn at output.out mid) less in
          let on : w.drawn ≤ output.tokens.drawn = numbers_on d.sip token w.drawn output.tokens.drawn output.out ((well had).out_in small) in
          omega (arith, on, small)

      now : Holds w → AreSent (asks_after output.out asks) output.tokens.drawn (Drops (length output.rows) ∷ op ∷ w.call_ops) w.conference_ops
      now had = record {
        calls_sent = each_same (EntryWasSent d.sip (asks ++ requests_in output.out)) (EntryWasSent d.sip (asks_after output.out asks))
            (λ e is. call_more (RequestWasSent d.sip (asks ++ requests_in output.out)) (RequestWasSent d.sip (asks_after output.out asks)) (sent_now asks output.out) e.call is)
            (table_after (call_config d) (op ∷ w.call_ops)).entries (well had).calls_in;
        conferences_sent = table_more (SomeInviteWasSent d.sip asks) (SomeInviteWasSent d.sip (asks_after output.out asks))
            (λ branch peer was. sent_now asks output.out (codes "INVITE") branch peer (sent_before d.sip asks (requests_in output.out) (codes "INVITE") branch peer was))
            (rooms.table_after (conference_config d) w.conference_ops) had.conferences_sent;
        numbered = λ less.
            let are = (well had).out_in less in
            let on : w.drawn ≤ output.tokens.drawn = numbers_on d.sip token w.drawn output.tokens.drawn output.out are in
            falls_after d.sip token w.drawn output.tokens.drawn output.out asks are (had.numbered (omega (arith, on, less)));
      }

      holds_by : Holds w → Holds (with_call_output at op output w)
      holds_by had =
          same_sent (asks_after output.out asks) (asks_of (with_emits at output.out mid).actions) output.tokens.drawn (with_emits at output.out mid).drawn
          (Drops (length output.rows) ∷ op ∷ w.call_ops) (with_emits at output.out mid).call_ops w.conference_ops (with_emits at output.out mid).conference_ops
          (sym (with_emits_asks at output.out mid)) (sym (with_emits_drawn at output.out mid)) (sym (with_emits_ops at output.out mid)) (sym (with_emits_rooms at output.out mid)) (now had)

      bringing_goes : Goes w (with_call_output at op output w)
      bringing_goes = record { early = early_by; holds = holds_by }

    pub signalled_goes : (at : ℕ) (x : Signal) (w : RunState) → Goes w (after_call_signal d token at x w)
    signalled_goes at x w =
        let h : histories.ReceivedSignal = received_now token at x w in
        bringing_goes at (Receives h) (step_on_receive_after (call_config d) w.call_ops h).output w (λ had.
        let well : MovesWell once.steps once.openings (call_config d) (asks_of w.actions) (tokens_now token w) (step_on_receive_after (call_config d) w.call_ops h) =
        taken_well once.steps once.openings (call_config d) (asks_of w.actions) (tokens_now token w) at h.view (next_number (calls_in d w).opened) x (calls_in d w).entries had.calls_sent in
        record { calls_in = well.calls_in; out_in = well.out_in })

    finishing_goes : (at : ℕ) (call : CallNo) (w : RunState) → Goes w (after_call_end d token at call w)
    finishing_goes at call w =
        bringing_goes at (Finishes call.0 at (tokens_now token w)) (step_on_finish (call_config d) call.0 at (tokens_now token w) (calls_in d w)).output w (λ had.
        let well : MovesWell once.steps once.openings (call_config d) (asks_of w.actions) (tokens_now token w) (step_on_finish (call_config d) call.0 at (tokens_now token w) (calls_in d w)) =
        ended_well once.steps once.openings (call_config d) (asks_of w.actions) (tokens_now token w) once at call.0 (calls_in d w).entries had.calls_sent in
        record { calls_in = well.calls_in; out_in = well.out_in })

    -- a leg is taken out, or put back
    lending_goes : (op : TableOp) (w : RunState) → (Holds w → Each (EntryWasSent d.sip (asks_of w.actions)) (table_after (call_config d) (op ∷ w.call_ops)).entries) → Goes w (with_call_op op w)
    lending_goes op w on = record { early = λ had less. less; holds = λ had. record { calls_sent = on had; conferences_sent = had.conferences_sent; numbered = had.numbered } }

    releasing_goes : (number : ℕ) (side : Side) (w : RunState) → Goes w (with_call_op (Releases number side) w)
    releasing_goes number side w =
        lending_goes (Releases number side) w (λ had. released_sent once.steps once.openings (call_config d) (asks_of w.actions) (tokens_now token w) once number side (calls_in d w).entries had.calls_sent)

    restoring_goes : (number : ℕ) (away : Released) (w : RunState) → Goes w (with_call_op (Restores number away) w)
    restoring_goes number away w =
        lending_goes (Restores number away) w (λ had. restored_sent once.steps once.openings (call_config d) (asks_of w.actions) (tokens_now token w) once number away (calls_in d w).entries had.calls_sent)

    -- an operation on the conferences
    module _ (at : ℕ) (op : rooms.TableOp) (w : RunState) (text : tokens_of_op op ≡ tokens_now token w) where
      abbrev conference_output : StepOutput
      conference_output = output_of_conference_op d op w

      abbrev room_asks : SentRequests
      room_asks = asks_of w.actions

      abbrev room_mid : RunState
      room_mid = record w { drawn = conference_output.tokens.drawn; conference_ops = rooms.Drops (length conference_output.rows) ∷ op ∷ w.conference_ops; waiting = w.waiting ++ conference_output.rows }

      sends : Holds w → OpSendsOnce d.sip room_asks (tokens_now token w) conference_output (rooms.table_after (conference_config d) (op ∷ w.conference_ops))
      sends had = subst (λ (t : TokensView). OpSendsOnce d.sip room_asks t conference_output (rooms.table_after (conference_config d) (op ∷ w.conference_ops))) text
          (once.conferences (conference_config d) w.conference_ops op room_asks had.conferences_sent)

      room_early : Holds w → IsEarly (after_conference_op d at op w) → IsEarly w
      room_early had less =
          let small : conference_output.tokens.drawn < 2 ^ 60 = subst (λ (n : ℕ). n < 2 ^ 60) (with_emits_drawn at conference_output.out room_mid) less in
          let on : w.drawn ≤ conference_output.tokens.drawn = numbers_on d.sip token w.drawn conference_output.tokens.drawn conference_output.out ((sends had).out_in small) in
          omega (arith, on, small)

      room_now : Holds w → AreSent (asks_after conference_output.out room_asks) conference_output.tokens.drawn w.call_ops (rooms.Drops (length conference_output.rows) ∷ op ∷ w.conference_ops)
      room_now had = record {
        calls_sent = each_same (EntryWasSent d.sip room_asks) (EntryWasSent d.sip (asks_after conference_output.out room_asks))
            (λ e is. call_more (RequestWasSent d.sip room_asks) (RequestWasSent d.sip (asks_after conference_output.out room_asks))
            (λ method branch peer was. sent_now room_asks conference_output.out method branch peer (sent_before d.sip room_asks (requests_in conference_output.out) method branch peer was)) e.call is)
            (calls_in d w).entries had.calls_sent;
        conferences_sent =
            let all = table_more (SomeInviteWasSent d.sip (room_asks ++ requests_in conference_output.out)) (SomeInviteWasSent d.sip (asks_after conference_output.out room_asks))
            (sent_now room_asks conference_output.out (codes "INVITE"))
            (rooms.table_after (conference_config d) (op ∷ w.conference_ops)) (sends had).conferences_in in
            record { live_in = all.live_in; abandoned_in = all.abandoned_in };
        numbered = λ less.
            let are = (sends had).out_in less in
            let on : w.drawn ≤ conference_output.tokens.drawn = numbers_on d.sip token w.drawn conference_output.tokens.drawn conference_output.out are in
            falls_after d.sip token w.drawn conference_output.tokens.drawn conference_output.out room_asks are (had.numbered (omega (arith, on, less)));
      }

      room_holds : Holds w → Holds (after_conference_op d at op w)
      room_holds had =
          same_sent (asks_after conference_output.out room_asks) (asks_of (with_emits at conference_output.out room_mid).actions) conference_output.tokens.drawn
          (with_emits at conference_output.out room_mid).drawn w.call_ops (with_emits at conference_output.out room_mid).call_ops
          (rooms.Drops (length conference_output.rows) ∷ op ∷ w.conference_ops) (with_emits at conference_output.out room_mid).conference_ops
          (sym (with_emits_asks at conference_output.out room_mid)) (sym (with_emits_drawn at conference_output.out room_mid)) (sym (with_emits_ops at conference_output.out room_mid))
          (sym (with_emits_rooms at conference_output.out room_mid)) (room_now had)

      housed_goes : Goes w (after_conference_op d at op w)
      housed_goes = record { early = room_early; holds = room_holds }

    seated_goes : (at : ℕ) (x : RoomSignal) (w : RunState) → Goes w (after_conference_signal d token at x w)
    seated_goes at x w = housed_goes at (conference_signal_op token at x w) w refl

    noticed_goes : (at : ℕ) (room : RoomNo) (seat code : ℕ) (w : RunState) → Goes w (after_refer_notify d token at room seat code w)
    noticed_goes at room seat code w = housed_goes at (rooms.Notifies room.0 seat code (tokens_now token w)) w refl

    -- a conference is opened: a response is sent, and no request
    module _ (at : ℕ) (c : rooms.JoinRequest) (w : RunState) where
      opens_quiet : asks_of (with_conference_output at (rooms.Opens c) (output_of_conference_op d (rooms.Opens c) w) w).actions ≡ asks_of w.actions
      unfolding after_join
      opens_quiet = refl

      opens_drawn : (with_conference_output at (rooms.Opens c) (output_of_conference_op d (rooms.Opens c) w) w).drawn ≡ w.drawn
      unfolding after_join
      opens_drawn = refl

      opens_ops : (with_conference_output at (rooms.Opens c) (output_of_conference_op d (rooms.Opens c) w) w).call_ops ≡ w.call_ops
      unfolding after_join
      opens_ops = refl

      opens_sent : TableWasSent (SomeInviteWasSent d.sip (asks_of w.actions)) (conferences_in d w) →
          TableWasSent (SomeInviteWasSent d.sip (asks_of w.actions)) (conferences_in d (with_conference_output at (rooms.Opens c) (output_of_conference_op d (rooms.Opens c) w) w))
      unfolding after_join
      opens_sent had = record { live_in = each_append (ConferenceWasSent (SomeInviteWasSent d.sip (asks_of w.actions))) (conferences_in d w).live _ had.live_in ((tt, tt), tt); abandoned_in = had.abandoned_in }

      opens_goes : Goes w (with_conference_output at (rooms.Opens c) (output_of_conference_op d (rooms.Opens c) w) w)
      opens_goes = record {
        early = λ had less. subst (λ (n : ℕ). n < 2 ^ 60) opens_drawn less;
        holds = λ had. same_sent (asks_of w.actions) _ w.drawn _ w.call_ops _ _ _ (sym opens_quiet) (sym opens_drawn) (sym opens_ops) refl
            (record { calls_sent = had.calls_sent; conferences_sent = opens_sent had.conferences_sent; numbered = had.numbered });
      }

    pub begun_goes : (w : RunState) → Goes w (with_next_step w)
    begun_goes w = drew_more w (with_next_step w) 0 refl (omega arith) refl refl

    replying_goes : (at : ℕ) (key : TKey) (s : MessageView) (answer : StatusResponse) (w : RunState) → Goes w (with_response d token at key s answer w)
    replying_goes at key s answer w = drew_more w (with_response d token at key s answer w) (tags_due s.parsed.to_tag) refl refl refl refl

    handing_goes : (took : Bool) (rows : List Row) (w : RunState) → Goes w (after_handover took rows w)
    handing_goes took [] w = same w
    handing_goes false (row ∷ rows) w = same w
    handing_goes true (row ∷ rows) w = record { early = λ had less. less; holds = λ had. record { calls_sent = had.calls_sent; conferences_sent = had.conferences_sent; numbered = had.numbered } }

    -- ---- mailboxes: the response to a NOTIFY is not awaited as that to an INVITE is

    notes_goes : (op : boxes.TableOp) (w : RunState) → Goes w (with_mailbox_op op w)
    notes_goes op w = drew_more w (with_mailbox_op op w) 0 refl (omega arith) refl refl

    -- what is sent without a number
    unnumbered_goes : (at : ℕ) (out : List Emit) (w : RunState) → AreNumbered d.sip token w.drawn w.drawn out → Goes w (with_emits at out w)
    unnumbered_goes at out w are =
        let known : SentRequests = asks_of w.actions in
        let v : RunState = with_emits at out w in
        record {
          early = λ had less. subst (λ (n : ℕ). n < 2 ^ 60) (with_emits_drawn at out w) less;
          holds = λ had. same_sent (asks_after out known) (asks_of v.actions) w.drawn v.drawn w.call_ops v.call_ops w.conference_ops v.conference_ops
              (sym (with_emits_asks at out w)) (sym (with_emits_drawn at out w)) (sym (with_emits_ops at out w)) (sym (with_emits_rooms at out w)) (record {
                calls_sent = each_same (EntryWasSent d.sip known) (EntryWasSent d.sip (asks_after out known))
                    (λ e is. call_more (RequestWasSent d.sip known) (RequestWasSent d.sip (asks_after out known)) (λ method branch peer was. sent_after d.sip method branch peer out known (inl was)) e.call is)
                    (table_after (call_config d) w.call_ops).entries had.calls_sent;
                conferences_sent = table_more (SomeInviteWasSent d.sip known) (SomeInviteWasSent d.sip (asks_after out known))
                    (λ branch peer was. sent_after d.sip (codes "INVITE") branch peer out known (inl was)) (rooms.table_after (conference_config d) w.conference_ops) had.conferences_sent;
                numbered = λ less. falls_after d.sip token w.drawn w.drawn out known are (had.numbered less);
              });
        }

    unawaited : (sip : Addr) (c : Dialogue) (branch : List ℕ) (last : Bool) (seconds : ℕ) (counts : Counts) → IsNotAwaited (notify_request_in sip c branch last seconds counts)
    unawaited sip c branch last seconds counts None = refl
    unawaited sip c branch last seconds counts (Some five) = refl

    notice_numbered : (low : ℕ) (peer : Peer) (last : Bool) (branch : List ℕ) (at : ℕ) (table : mailboxes.Table) (o : Option Subscription) →
        AreNumbered d.sip token low low (notify_emits peer (option_map (notify_request_of d.sip last branch at table) o))
    notice_numbered low peer last branch at table None = omega arith
    notice_numbered low peer last branch at table (Some s) = (low, inl (refl, unawaited d.sip s.leg.dialogue branch last (remaining_seconds s.until at) (counts_in s.account table)), omega arith)

    -- the steps of message waiting, and the effect of a request
    box_steps : (at : ℕ) → AreSteps d token at Goes
    box_steps at = record {
      same = same;
      next = then_goes;
      notes = λ op w none. notes_goes op w;
      draws = λ w. drew_more w (with_draws 1 w) 1 refl refl refl refl;
      arms = λ armed w. drew_more w (with_timer armed w) 0 refl (omega arith) refl refl;
      asks = λ sub last peer message w lives is.
          unnumbered_goes at (emit.Ask peer message ∷ []) (tells_in token sub w)
          (subst (λ (o : Option (Message Start)). AreNumbered d.sip token (w.drawn + 1) (w.drawn + 1) (notify_emits peer o)) is
          (notice_numbered (w.drawn + 1) peer last (next_tag token w) at (subscriptions_in w) (subscription_numbered sub (subscriptions_in w))));
    }

    box_answers : (at : ℕ) (key : TKey) (s : MessageView) → AreResponses d token at Goes key s Anyhow
    box_answers at key s = record {
      reads = λ within. tt;
      subscribes = λ account until w may. notes_goes (boxes.Subscribes account (leg_by (next_tag token w) s) until) (with_draws 1 w);
      grants = λ op seconds w may.
          let noted : RunState = with_mailbox_op op (with_draws 1 w) in
          drew_more noted (with_emits at (emit.Reply key (response_to d.sip (next_tag token w) s (grant_response seconds)) ∷ []) noted) 0 refl (omega arith) refl refl;
      renews = λ seconds w may. replying_goes at key s (grant_response seconds) w;
      refuses = λ within code w may. replying_goes at key s (refusal_response code) w;
      denies = λ code w is. replying_goes at key s (plain_response code) w;
      others = λ w is. replying_goes at key s (other_response d s.parsed) w;
    }

    putting_goes : (at : ℕ) (o : Option (Account × Counts)) (w : RunState) → Goes w (after_mailbox_upload d token at o w)
    putting_goes at o w = mailing.puts d token at Goes (box_steps at) (λ account counts v. notes_goes (boxes.Puts account counts) v) o w

    box_answered_goes : (branch : Option (List ℕ)) (code : ℕ) (w : RunState) → Goes w (after_notify_response branch code w)
    box_answered_goes branch code w = mailing.answered Goes same (λ op v none. notes_goes op v) branch code w

    -- ---- timers

    silenced_goes : (at : ℕ) (branch method : List ℕ) (whose : Owner) (w : RunState) → Goes w (after_request_timeout d token at branch method whose w)
    silenced_goes at branch method OfCalls w = signalled_goes at (signal.Silent branch method) w
    silenced_goes at branch method OfSubscriptions w = box_answered_goes (behind_cookie branch) 408 w
    silenced_goes at branch method OfConferences w = seated_goes at (of_room.Silent branch method) w

    ended_of_goes : (at : ℕ) (key : TKey) (whose : Owner) (w : RunState) → Goes w (after_transaction_end d token at key whose w)
    ended_of_goes at key OfCalls w = signalled_goes at (signal.Over key) w
    ended_of_goes at key OfSubscriptions w = same w
    ended_of_goes at key OfConferences w = seated_goes at (of_room.Over key) w

    alarmed_goes : (at : ℕ) (x : ServiceTimer) (w : RunState) → Goes w (after_service_timer d token at x w)
    alarmed_goes at (OfCall call what) w = signalled_goes at (signal.Due call what) w
    alarmed_goes at (OfParticipant room seat what) w = seated_goes at (of_room.Due room seat what) w
    alarmed_goes at (OfSubscription sub set) w = mailing.ends d token at Goes (box_steps at) sub set w

    rung_goes : (x : Due) (w : RunState) → Goes w (after_due d token x w)
    rung_goes (due.Again peer at text) w = drew_more w _ 0 refl (omega arith) refl refl
    rung_goes (due.Silent key branch method at) w = silenced_goes at branch method (owner_of_branch (timed_out_branch branch method) (behind_cookie branch) (calls_in d w).entries (subscriptions_in w)) w
    rung_goes (due.Over key at) w = ended_of_goes at key (owner_of_key key (calls_in d w).entries) w
    rung_goes due.Nothing w = same w

    fires_goes : (o : Option DueEntryView) (w : RunState) → Goes w (record w { actions = after_firing w.actions o })
    fires_goes None w = same w
    fires_goes (Some n) w = drew_more w (record w { actions = after_firing w.actions (Some n) }) 0 refl (omega arith) refl refl

    fired_goes : (now : ℕ) (x : Deadline) (w : RunState) → Goes w (after_deadline d token now x w)
    fired_goes now OfTransaction w =
        let o : Option DueEntryView = next_due now (live (with_next_step w).actions) in
        let v : RunState = record (with_next_step w) { actions = after_firing (with_next_step w).actions o } in
        then_goes w (with_next_step w) (after_due d token (due_result o) v) (begun_goes w)
        (then_goes (with_next_step w) v (after_due d token (due_result o) v) (fires_goes o (with_next_step w)) (rung_goes (due_result o) v))
    fired_goes now (OfServiceTimer armed others) w =
        let v : RunState = record (with_next_step w) { pending_timers = others } in
        then_goes w (with_next_step w) (after_service_timer d token armed.at armed.timer v) (begun_goes w)
        (then_goes (with_next_step w) v (after_service_timer d token armed.at armed.timer v) (drew_more (with_next_step w) v 0 refl (omega arith) refl refl) (alarmed_goes armed.at armed.timer v))

    if_fired_goes : (now : ℕ) (o : Option Deadline) (w : RunState) → Goes w (after_deadline_if d token now o w)
    if_fired_goes now None w = same w
    if_fired_goes now (Some x) w = fired_goes now x w

    pub settled_goes : (fuel now : ℕ) (w : RunState) → Goes w (after_due_deadlines d token fuel now w)
    settled_goes zero now w = same w
    settled_goes (suc fuel) now w = then_goes w (after_one_deadline d token now w) (after_due_deadlines d token fuel now (after_one_deadline d token now w))
        (if_fired_goes now (first_due_deadline now w) w) (settled_goes fuel now (after_one_deadline d token now w))

    -- ---- a REFER with Replaces

    module _ (at : ℕ) (room : RoomNo) (seat : ℕ) where
      adopting_goes : (call : CallNo) (leg : Released) (account : Option Account) (r : Result ℕ RoomFault) (w : RunState) → Goes w (after_adoption_if d token at room seat call leg account r w)
      adopting_goes call leg account (Ok place) w =
          let op : rooms.TableOp = adoption_op token at room seat leg account w in
          then_goes w (after_conference_op d at op w) (after_call_end d token at call (after_conference_op d at op w)) (housed_goes at op w refl) (finishing_goes at call (after_conference_op d at op w))
      adopting_goes call leg account (Err fault) w =
          let v : RunState = with_call_op (Restores call.0 leg) w in
          then_goes w v (after_refer_notify d token at room seat 503 v) (restoring_goes call.0 leg w) (noticed_goes at room seat 503 v)

      taken_out_goes : (call : CallNo) (side : Side) (account : Option Account) (leg : Option Released) (w : RunState) → Goes w (after_detach d token at room seat call side account leg w)
      taken_out_goes call side account None w = noticed_goes at room seat 491 w
      taken_out_goes call side account (Some leg) w =
          let v : RunState = with_call_op (Releases call.0 side) w in
          let r : Result ℕ RoomFault = access room.0 (conferences_in d w).live in
          then_goes w v (after_adoption_if d token at room seat call leg account r v) (releasing_goes call.0 side w) (adopting_goes call leg account r v)

      replaced_with_goes : (call : CallNo) (side : Side) (is_its : Bool) (w : RunState) → Goes w (after_replacing_side d token at room seat call side is_its w)
      replaced_with_goes call side false w = noticed_goes at room seat 481 w
      replaced_with_goes call side true w = taken_out_goes call (other_side side) (account_of_side call (other_side side) (calls_in d w).entries) (released_leg_of call.0 (other_side side) (calls_in d w).entries) w

      replaced_by_goes : (peer : Peer) (o : Option (CallNo × Side)) (w : RunState) → Goes w (after_replacing_named d token at peer room seat o w)
      replaced_by_goes peer None w = noticed_goes at room seat 481 w
      replaced_by_goes peer (Some named) w = replaced_with_goes named.0 named.1 (is_of_peer peer (party named.0.0 named.1 (calls_in d w).entries)) w

      replacing_goes : (peer : Peer) (o : Option Replaces) (w : RunState) → Goes w (after_replaces d token at peer room seat o w)
      replacing_goes peer None w = same w
      replacing_goes peer (Some replaces) w =
          let v : RunState = after_refer_notify d token at room seat 100 w in
          then_goes w v (after_replacing d token at peer room seat replaces v) (noticed_goes at room seat 100 w) (replaced_by_goes peer (replaced_side replaces (calls_in d v).entries) v)

    module _ (at : ℕ) (s : MessageView) where
      -- ---- who joins a conference

      turned_goes : (key : TKey) (tag : List ℕ) (code : ℕ) (w : RunState) → Goes w (after_newcomer_refusal d at key s tag code w)
      turned_goes key tag code w = drew_more w (after_newcomer_refusal d at key s tag code w) 0 refl (omega arith) refl refl

      drawing_goes : (w : RunState) → Goes w (with_draws 1 w)
      drawing_goes w = drew_more w (with_draws 1 w) 1 refl refl refl refl

      room_opened_goes : (key : TKey) (tag : List ℕ) (is_full : Bool) (w : RunState) → Goes w (after_opening_if d at key s tag is_full w)
      room_opened_goes key tag true w = turned_goes key tag 503 w
      room_opened_goes key tag false w = opens_goes at (join_request at (leg_by tag s) (caller_account d.names.accounts s.parsed) key s) w

      opening_room_goes : (key : TKey) (w : RunState) → Goes w (after_factory_invite d token at key s w)
      opening_room_goes key w = then_goes w (with_draws 1 w) (after_factory_invite d token at key s w) (drawing_goes w) (room_opened_goes key (next_tag token w) (is_table_full (conferences_in d w).live) (with_draws 1 w))

      room_joined_goes : (key : TKey) (room : RoomNo) (tag : List ℕ) (r : Result ℕ RoomFault) (w : RunState) → Goes w (after_join_if d token at key s room tag r w)
      room_joined_goes key room tag (Err fault) w = turned_goes key tag (status_of_fault fault) w
      room_joined_goes key room tag (Ok place) w = housed_goes at (join_op d at key s room tag (tokens_now token w)) w refl

      joining_room_goes : (key : TKey) (room : RoomNo) (w : RunState) → Goes w (after_conference_invite d token at key s room w)
      joining_room_goes key room w =
          then_goes w (with_draws 1 w) (after_conference_invite d token at key s room w) (drawing_goes w) (room_joined_goes key room (next_tag token w) (access room.0 (conferences_in d w).live) (with_draws 1 w))

      entering_room_goes : (key : TKey) (room : RoomNo) (seat : ℕ) (w : RunState) → Goes w (after_participant_request d token at key s room seat w)
      entering_room_goes key room seat w =
          let x : RoomSignal = of_room.Request room seat key s in
          let v : RunState = after_conference_signal d token at x w in
          then_goes w v (after_participant_request d token at key s room seat w) (seated_goes at x w)
          (replacing_goes at room seat s.peer (replacement_in s.parsed (output_of_conference_op d (conference_signal_op token at x w) w).out) v)

      -- ---- messages

      taking_goes : (key : TKey) (c : Disposition) (w : RunState) → Goes w (after_disposition d token at key s c w)
      taking_goes key (Respond answer) w = replying_goes at key s answer w
      taking_goes key (Enter call side) w = signalled_goes at (signal.Request call side key s) w
      taking_goes key (EnterConference room seat) w = entering_room_goes key room seat w
      taking_goes key OpenCall w = signalled_goes at (arrival_signal d.names.accounts key s) w
      taking_goes key OpenConference w = opening_room_goes key w
      taking_goes key (JoinConference room) w = joining_room_goes key room w
      taking_goes key (Register account seconds) w =
          let v : RunState = with_registration account (until_of at seconds) w in
          then_goes w v (with_response d token at key s (plain_response 200) v) (drew_more w v 0 refl (omega arith) refl refl) (replying_goes at key s (plain_response 200) v)
      taking_goes key Subscribe w = mailing.subscribes d token at Goes (box_steps at) key s Anyhow (box_answers at key s) w
      taking_goes key (EnterSubscription sub) w = mailing.enters d token at Goes (box_steps at) key s Anyhow (box_answers at key s) sub w

      repeating_goes : (o : Option (Peer × List ℕ)) (w : RunState) → Goes w (with_retransmission at o w)
      repeating_goes None w = same w
      repeating_goes (Some sent) w = drew_more w _ 0 refl (omega arith) refl refl

      cancelling_call_goes : (key invite : TKey) (o : Option (CallNo × Side)) (w : RunState) → Goes w (after_cancel_of d token at key s invite o w)
      cancelling_call_goes key invite None w = replying_goes at key s (plain_response 200) w
      cancelling_call_goes key invite (Some asked) w = signalled_goes at (signal.Cancel asked.0 key s invite) w

      cancelling_goes : (key : TKey) (invite : Option TKey) (w : RunState) → Goes w (after_cancel d token at key s invite w)
      cancelling_goes key None w = replying_goes at key s (plain_response 481) w
      cancelling_goes key (Some invite) w = cancelling_call_goes key invite (call_of_invite invite (calls_in d w).entries) w

      acknowledging_goes : (o : Option DialogOwner) (w : RunState) → Goes w (after_ack_by d token at s o w)
      acknowledging_goes None w = same w
      acknowledging_goes (Some (InCall call side)) w = signalled_goes at (signal.Ack call side s) w
      acknowledging_goes (Some (InConference room seat)) w = seated_goes at (of_room.Ack room seat s) w
      acknowledging_goes (Some (InSubscription sub)) w = same w

      responding_goes : (key : TKey) (whose : Owner) (w : RunState) → Goes w (after_response_to d token at key s whose w)
      responding_goes key OfCalls w = signalled_goes at (signal.Answer key s) w
      responding_goes key OfSubscriptions w = box_answered_goes (branch_in s.parsed.vias) (status_of s.parsed.start) w
      responding_goes key OfConferences w = seated_goes at (of_room.Answer key s) w

      answering_goes : (o : Option transaction.Heard) (w : RunState) → Goes w (after_classified_message d token at s o w)
      answering_goes None w = drew_more w _ (tags_due s.parsed.to_tag) refl refl refl refl
      answering_goes (Some (heard.Fresh key message)) w = taking_goes key (disposition d (is_merged key.0 (live w.actions)) (are_full (calls_in d w).entries) (dialog_owner_in d s.parsed w) s.parsed) w
      answering_goes (Some (heard.Answer key message)) w = responding_goes key (owner_of_branch (awaited_request_branch s) (branch_in s.parsed.vias) (calls_in d w).entries (subscriptions_in w)) w
      answering_goes (Some (heard.Repeat sent)) w = repeating_goes sent w
      answering_goes (Some (heard.Acked key)) w = same w
      answering_goes (Some (heard.Cancel key invite message)) w = cancelling_goes key invite w
      answering_goes (Some (heard.AckOf2xx message)) w = acknowledging_goes (dialog_owner_in d s.parsed w) w
      answering_goes (Some heard.Stray) w = same w

      receiving_goes : (o : Option transaction.Heard) (w : RunState) → Goes w (with_received_action at s o w)
      receiving_goes None w = same w
      receiving_goes (Some taken) w = drew_more w (with_received_action at s (Some taken) w) 0 refl (omega arith) refl refl

      after_message_goes : (w : RunState) → Goes w (after_message d token at s w)
      after_message_goes w =
          let said = hear_result w.actions s.peer (message_in s.parsed) in
          then_goes w (with_received_action at s said w) (after_classified_message d token at s said (with_received_action at s said w)) (receiving_goes said w) (answering_goes said (with_received_action at s said w))

    met_goes : (at : ℕ) (x : ParsedEvent) (w : RunState) → Goes w (after_parsed_event d token at x w)
    met_goes at Nothing w = same w
    met_goes at (Refused peer source reply) w = drew_more w _ (tags_due (to_tag_in reply.lines)) refl refl refl refl
    met_goes at (Received said) w = after_message_goes at said w
    met_goes at (WebRequested request kept rows) w =
        let v : RunState = after_web_reply d at request kept rows w in
        then_goes w v (after_web_request d token at request kept rows w) (drew_more w v 0 refl (omega arith) refl refl) (putting_goes at (counts_put_in d.names request kept) v)

    pub coming_goes : (fuel : ℕ) (x : TimedEvent) (w : RunState) → Goes w (coming_in d token fuel x w)
    coming_goes fuel x w =
        let v : RunState = after_due_deadlines d token fuel (clock_at w x.at) w in
        then_goes w v (coming_in d token fuel x w) (settled_goes fuel (clock_at w x.at) w)
        (then_goes v (with_next_step v) (coming_in d token fuel x w) (begun_goes v) (drew_more (with_next_step v) (coming_in d token fuel x w) 0 refl (omega arith) refl refl))

    pub comes_goes : (fuel : ℕ) (x : TimedEvent) (w : RunState) → Goes (coming_in d token fuel x w) (after_event_in_order d token fuel x w)
    comes_goes fuel x w =
        let v : RunState = coming_in d token fuel x w in
        let u : RunState = after_parsed_event d token (clock_at w x.at) x.parsed v in
        then_goes v u (after_event_in_order d token fuel x w) (met_goes (clock_at w x.at) x.parsed v) (handing_goes x.accepted u.waiting u)

    pub one_goes : (fuel : ℕ) (x : TimedEvent) (w : RunState) → Goes w (after_event_in_order d token fuel x w)
    one_goes fuel x w = then_goes w (coming_in d token fuel x w) (after_event_in_order d token fuel x w) (coming_goes fuel x w) (comes_goes fuel x w)

    pub after_goes : (fuel : ℕ) (xs : List TimedEvent) (w : RunState) → Goes w (after_events d token fuel xs w)
    after_goes fuel [] w = same w
    after_goes fuel (x ∷ xs) w = then_goes w (after_event_in_order d token fuel x w) (after_events d token fuel xs (after_event_in_order d token fuel x w)) (one_goes fuel x w)
        (after_goes fuel xs (after_event_in_order d token fuel x w))

    -- where so few numbers were drawn in the end, so few were drawn whenever an event came
    pub early_in : (fuel : ℕ) (xs : List TimedEvent) (w : RunState) → Holds w → IsEarly (after_events d token fuel xs w) → AllEarly d token fuel xs w
    early_in fuel [] w had less = tt
    early_in fuel (x ∷ xs) w had less =
        let v : RunState = coming_in d token fuel x w in
        let u : RunState = after_event_in_order d token fuel x w in
        let held : Holds v = (coming_goes fuel x w).holds had in
        let last : Holds u = (comes_goes fuel x w).holds held in
        ((comes_goes fuel x w).early held ((after_goes fuel xs u).early last less), early_in fuel xs u last less)

  pub begins : (loaded : Texts) → Holds (initial_state loaded)
  begins loaded = record { calls_sent = tt; conferences_sent = record { live_in = tt; abandoned_in = tt }; numbered = λ less. tt }
