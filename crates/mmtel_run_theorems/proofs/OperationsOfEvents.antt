-- The operations on calls and conferences in one event of a run: calls receive each signal with the records and registrations that were in force before it, and each request with a server transaction
-- of its own; a leg that is put back is of the side that is detached; and no participant leaves, and no conference closes, without a signal. Operations on mailboxes are none of these.
-- The definitions of a run are traversed once. A state is unchanged in this sense where nothing is done on calls and conferences, and after an operation on calls, and after one on conferences.
use Rattle.std.proofs.Common.{◌≡◌, ℕ, zero, suc, ◌+◌, List, [], ◌∷◌, ◌++◌, length, refl, sym, ap, ◌∙◌, subst, ◌≤◌, arith, le_refl, ◌==◌, inl, inr, Bool, true, false, Option, Some, None, IfSome, Result, Ok, Err}
use Rattle.std.specs.Prelude.{if◌then◌else◌, is_some, nat_le, option_map, slice_get}
use Rattle.std.specs.List.{find}
use Rattle.std.proofs.lemmas.Bool.{eq-eqb, eqb-true}
use Rattle.std.proofs.lemmas.Bool.Decides.{nat_tests}
use Rattle.std.proofs.lemmas.Option.{none-some}
use Rattle.mmtel_compose.specs.ReceivedMessages.{MessageView, status_of}
use Rattle.mmtel_b2bua.specs.Operations.{Drops, Finishes, Receives, Releases, Restores, TableOp, step_on_finish, step_on_receive_after, table_after}
use Rattle.mmtel_b2bua.specs.Detaching.{can_restore, entry_of, released_leg_of}
use Rattle.mmtel_b2bua.specs.Queries.{party}
use Rattle.mmtel_b2bua.specs.declared.signals.Signal.{Signal}
use Rattle.mmtel_b2bua.specs.declared.signals.Signal.TheVariants as signal
use Rattle.mmtel_b2bua_theorems.specs.TracesOfTables.{out_by}
use Rattle.mmtel_b2bua_theorems.specs.Legs.{LegsGoBack}
use Rattle.mmtel_output.specs.ResponseMatching.{awaited_request_branch, behind_cookie, branch_in, timed_out_branch}
use Rattle.mmtel_call_services.specs.CallConfig.{CallConfigView}
use Rattle.mmtel_call_theorems.specs.NoInjection.Emits.{Each}
use Rattle.mmtel_charging.specs.declared.rows.Row.{Row}
use Rattle.mmtel_output.specs.declared.outputs.StepOutput.{StepOutput}
use Rattle.mmtel_directory.specs.declared.directories.Directory.{Directory}
use Rattle.mmtel_focus.specs.Operations as rooms
use Rattle.mmtel_focus.specs.Table.{access, is_table_full}
use Rattle.mmtel_focus.specs.declared.faults.RoomFault.{RoomFault}
use Rattle.mmtel_focus.specs.declared.referrals.Replaces.{Replaces}
use Rattle.mmtel_focus.specs.declared.signals.RoomSignal.{RoomSignal}
use Rattle.mmtel_focus.specs.declared.signals.RoomSignal.TheVariants as of_room
use Rattle.mmtel_focus_theorems.specs.Replies.{ConferencesReplyInTheirOwn, OpIsOf, SignalIsOf}
use Rattle.mmtel_leg.specs.declared.legs.Released.{Released}
use Rattle.mmtel_sheet_values.specs.View.{SheetsInForce}
use Rattle.mmtel_transaction.specs.Results.{DueEntryView, after_firing, class_of, class_result, due_one, due_result, is_before, is_invite_of, is_merged, key_of, next_due, opening_result, retransmitted_text, sooner, tkey}
use Rattle.mmtel_transaction.specs.Operations.{TransactionOp, DidAck, DidAsk, DidBegin, DidFire, DidSettle, DidHear, DidReply, live, send_count, openings, opens, step_of}
use Rattle.mmtel_transaction.specs.Deadlines.{deadline, is_ending, retransmission_at}
use Rattle.mmtel_transaction.specs.Heads.{head_of, is_cancel}
use Rattle.mmtel_transaction.specs.Runs.{IsRun}
use Rattle.mmtel_transaction.specs.declared.entries.Entry.{Entry}
use Rattle.mmtel_transaction.specs.declared.message_class.MessageClass.{MessageClass}
use Rattle.mmtel_transaction.specs.declared.message_class.MessageClass.TheVariants as part
use Rattle.mmtel_transaction.specs.declared.words.Due.{Due}
use Rattle.mmtel_transaction.specs.declared.words.Due.TheVariants as due
use Rattle.mmtel_transaction.specs.declared.words.Emit.{Emit}
use Rattle.mmtel_transaction.specs.declared.words.Emit.TheVariants as emit
use Rattle.mmtel_transaction.specs.declared.words.Heard as transaction
use Rattle.mmtel_transaction.specs.declared.words.TKey.{TKey}
use Rattle.mmtel_types.specs.Sides.{other_side}
use Rattle.mmtel_types.specs.declared.numbers.Account.{Account}
use Rattle.mmtel_types.specs.declared.numbers.CallNo.{CallNo}
use Rattle.mmtel_types.specs.declared.numbers.Peer.{Peer}
use Rattle.mmtel_types.specs.declared.numbers.RoomNo.{RoomNo}
use Rattle.mmtel_types.specs.declared.numbers.SubNo.{SubNo}
use Rattle.mmtel_types.specs.declared.sides.Side.{Side}
use Rattle.mmtel_web.specs.Uploads.{counts_put_in}
use Rattle.mmtel_mwi.specs.Operations as boxes
use Rattle.mmtel_mwi.specs.declared.counts.Counts.{Counts}
use Rattle.mmtel_run_definitions.specs.OwnResponses.{StatusResponse, plain_response, response_to, tag_for}
use Rattle.mmtel_run_definitions.specs.Calls.{are_full, arrival_signal, call_config, call_of_invite}
use Rattle.mmtel_run_definitions.specs.Deadlines as deadlines
use Rattle.mmtel_run_definitions.specs.Deadlines.{Deadline, FirstTimer, OfCall, OfParticipant, OfServiceTimer, OfSubscription, OfTransaction, PendingTimer}
use Rattle.mmtel_run_definitions.specs.Deadlines.{ServiceTimer, comes_before, first_deadline, first_due_timer, first_timer, first_timer_if, is_sooner}
use Rattle.mmtel_run_definitions.specs.Events.{ParsedEvent, TimedEvent, message_in}
use Rattle.mmtel_run_definitions.specs.Events as events
use Rattle.mmtel_run_definitions.specs.Records.{in_force, until_of}
use Rattle.mmtel_run_definitions.specs.Refusals.{Disposition, Respond, Enter, EnterConference, OpenCall, OpenConference, JoinConference, Register, Subscribe, EnterSubscription, disposition}
use Rattle.mmtel_run_definitions.specs.Ownership.{DialogOwner, InSubscription, InCall, InConference, OfSubscriptions, OfCalls, OfConferences, Owner, account_of_side}
use Rattle.mmtel_run_definitions.specs.Ownership.{owner_of_key, owner_of_branch, is_of_peer, leg_by, replacement_in, conference_config, replaced_side, status_of_fault}
use Rattle.mmtel_run_definitions.specs.Run.{after_deadline_if, after_due_deadlines, after_event_in_order, after_one_deadline, clock_at, first_due_deadline}
use Rattle.mmtel_run_definitions.specs.Subscriptions.{after_expiry, after_mailbox_upload, after_notify_response, grant_response, other_response, refusal_response, with_mailbox_op}
use Rattle.mmtel_run_definitions.specs.Transitions.{RunState, after_ack_by, after_adoption_if, adoption_op, after_service_timer, after_classified_message, with_timer, with_next_step, with_call_output, calls_in}
use Rattle.mmtel_run_definitions.specs.Transitions.{after_event, after_cancel, after_cancel_of, output_of_conference_op, with_draws, with_emit, with_emits, after_transaction_end, after_participant_request}
use Rattle.mmtel_run_definitions.specs.Transitions.{after_call_end, after_deadline, after_handover, conference_signal_op, received_now, with_received_action, dialog_owner_in, after_conference_op, join_op}
use Rattle.mmtel_run_definitions.specs.Transitions.{with_call_op, with_conference_output, after_parsed_event, next_tag, after_refer_notify, opening_op, with_registration, with_retransmission}
use Rattle.mmtel_run_definitions.specs.Transitions.{after_replacing_named, after_replacing_side, after_replaces, with_response, after_response_to, after_join_if, after_opening_if, conferences_in, after_due}
use Rattle.mmtel_run_definitions.specs.Transitions.{after_conference_signal, after_web_reply, after_call_signal, after_request_timeout, after_detach, after_disposition, tokens_now, after_message, subscriptions_in}
use Rattle.mmtel_run_definitions.proofs.MailboxSteps as steps
use Rattle.mmtel_run_definitions.proofs.MailboxSteps.{AreResponses, AreSteps, tells_in}
use Rattle.mmtel_run_theorems.proofs.PendingFinals.{IsWaiting}
use Rattle.mmtel_run_theorems.proofs.CallKeys.{HasKey, HasNoKey, Keyed, all_other, ended_keyed, dropped_keyed, fresh_keyed, keys, keys_fresh, keys_grow, more_keyed, quiet_keyed, released_keyed, restored_keyed}
use Rattle.mmtel_run_theorems.proofs.Replies.{AllRepliesAllowed, HasReply, IsElsewhere, IsFrom, IsReplyAllowed, MayReply, RepliesSo, acts_later, key_from, no_from, replies_elsewhere, replies_more, replies_so}

-- ---- an operation that was received so, where these were done before

abbrev pub Sees : SheetsInForce → (now : ℕ) → TableOp → Type 0
Sees view now (Receives x) = (x.view ≡ view) × (x.at ≤ now)
Sees view now (Releases number side) = Unit {0}
Sees view now (Restores number away) = Unit {0}
Sees view now (Finishes number at tokens) = Unit {0}
Sees view now (Drops count) = Unit {0}

-- operations in which each leg that is taken out of a call is put back by the next one, and is of the detached side, or the call ends by the next one; where a leg of a call is `away`, the last of them took it out
abbrev pub IsWhole : CallConfigView → (away : Option ℕ) → List TableOp → Type 0
IsWhole config None [] = Unit {0}
IsWhole config None (Receives x ∷ older) = IsWhole config None older
IsWhole config None (Releases number side ∷ older) = ⊥
IsWhole config None (Restores number leg ∷ older) = (can_restore leg (entry_of number (table_after config older).entries) ≡ true) × IsWhole config (Some number) older
IsWhole config None (Finishes number at tokens ∷ older) = IsWhole config (Some number) older
IsWhole config None (Drops count ∷ older) = IsWhole config None older
IsWhole config (Some away) [] = ⊥
IsWhole config (Some away) (Receives x ∷ older) = ⊥
IsWhole config (Some away) (Releases number side ∷ older) =
    (away ≡ number) × ((leg : Released) × (released_leg_of number side (table_after config older).entries ≡ Some leg)) × IsWhole config None older
IsWhole config (Some away) (Restores number leg ∷ older) = ⊥
IsWhole config (Some away) (Finishes number at tokens ∷ older) = ⊥
IsWhole config (Some away) (Drops count ∷ older) = ⊥

-- the operations on conferences in a run
abbrev pub IsOfRun : rooms.TableOp → Type 0
IsOfRun (rooms.Opens coming) = Unit {0}
IsOfRun (rooms.Joins room coming) = Unit {0}
IsOfRun (rooms.Adopts room adoption) = Unit {0}
IsOfRun (rooms.Notifies room seat code tokens) = Unit {0}
IsOfRun (rooms.Receives received) = Unit {0}
IsOfRun (rooms.Leaves room seat) = ⊥
IsOfRun (rooms.Closes room) = ⊥
IsOfRun (rooms.Drops count) = Unit {0}

get-next : (xs : List Entry) (x : Entry) → slice_get (xs ++ x ∷ []) (length xs) ≡ Some x
get-next [] x = refl
get-next (y ∷ xs) x = get-next xs x

-- ---- the transactions of a run, and by which of them its calls were opened

-- more operations were done on the transactions, and what was opened stays
-- where these were done on the calls, what was replied is such as may be
record Grows (config : CallConfigView) (ops : List TableOp) (before after : List TransactionOp) : Type 0 where
  le : keys before ≤ keys after
  still : (n : ℕ) (e : Entry) → slice_get (openings before) n ≡ Some e → slice_get (openings after) n ≡ Some e
  run : IsRun before → IsRun after
  answered : AllRepliesAllowed config ops before → AllRepliesAllowed config ops after

grows_refl : {config : CallConfigView} {ops : List TableOp} (h : List TransactionOp) → Grows config ops h h
grows_refl h = record { le = le_refl (keys h); still = λ n e is. is; run = λ r. r; answered = λ a. a }

get-left : (xs ys : List Entry) (n : ℕ) (x : Entry) → slice_get xs n ≡ Some x → slice_get (xs ++ ys) n ≡ Some x
get-left [] ys n x h = absurd (none-some x h)
get-left (y ∷ xs) ys zero x h = h
get-left (y ∷ xs) ys (suc n) x h = get-left xs ys n x h

grows : {config : CallConfigView} {ops : List TableOp} (c : TransactionOp) (h : List TransactionOp) → (IsRun h → IsRun (c ∷ h)) → IsReplyAllowed config (keys h) ops c → Grows config ops h (c ∷ h)
grows {config} {ops} c h run so = record {
  le = keys_grow c h;
  still = λ n e is. get-left (openings h) (opens (step_of h) (send_count h) (length (openings h)) c) n e is;
  run = run;
  answered = λ a. (so, a);
}

-- an INVITE that opens a call opened this transaction, which awaits its final response
abbrev pub OpensAt : List TransactionOp → ℕ → Peer → Type 0
OpensAt h n p = (e : Entry) × (slice_get (openings h) n ≡ Some e) × IsWaiting p e

abbrev pub IsOpenedBy : List TransactionOp → Signal → Type 0
IsOpenedBy h (signal.Arrived key invite served registration identities) = OpensAt h key.0 invite.peer
IsOpenedBy h (signal.Request call side key request) = Unit {0}
IsOpenedBy h (signal.Ack call side ack) = Unit {0}
IsOpenedBy h (signal.Cancel call key cancel invite) = Unit {0}
IsOpenedBy h (signal.Answer key response) = Unit {0}
IsOpenedBy h (signal.Silent branch method) = Unit {0}
IsOpenedBy h (signal.Due call what) = Unit {0}
IsOpenedBy h (signal.Over key) = Unit {0}

abbrev pub HasOpenedRequest : List TransactionOp → TableOp → Type 0
HasOpenedRequest h (Receives x) = IsOpenedBy h x.signal
HasOpenedRequest h (Releases number side) = Unit {0}
HasOpenedRequest h (Restores number away) = Unit {0}
HasOpenedRequest h (Finishes number at tokens) = Unit {0}
HasOpenedRequest h (Drops count) = Unit {0}

openings-later : {config : CallConfigView} {ops : List TableOp} (g h : List TransactionOp) (s : Signal) → Grows config ops g h → IsOpenedBy g s → IsOpenedBy h s
openings-later g h (signal.Arrived key invite served registration identities) more (e, is, waits) = (e, more.still key.0 e is, waits)
openings-later g h (signal.Request call side key request) more o = tt
openings-later g h (signal.Ack call side ack) more o = tt
openings-later g h (signal.Cancel call key cancel invite) more o = tt
openings-later g h (signal.Answer key response) more o = tt
openings-later g h (signal.Silent branch method) more o = tt
openings-later g h (signal.Due call what) more o = tt
openings-later g h (signal.Over key) more o = tt

asked-later : {config : CallConfigView} {done : List TableOp} (g h : List TransactionOp) (op : TableOp) → Grows config done g h → HasOpenedRequest g op → HasOpenedRequest h op
asked-later g h (Receives x) more a = openings-later g h x.signal more a
asked-later g h (Releases number side) more a = tt
asked-later g h (Restores number away) more a = tt
asked-later g h (Finishes number at tokens) more a = tt
asked-later g h (Drops count) more a = tt

all-asked-later : {config : CallConfigView} {done : List TableOp} (g h : List TransactionOp) (ops : List TableOp) → Grows config done g h → Each (HasOpenedRequest g) ops → Each (HasOpenedRequest h) ops
all-asked-later g h [] more a = tt
all-asked-later g h (op ∷ ops) more a = (asked-later g h op more a.0, all-asked-later g h ops more a.1)

-- what is no request opens nothing
no-opening : (h : List TransactionOp) (s : Signal) → HasNoKey s → IsOpenedBy h s
no-opening h (signal.Arrived key invite served registration identities) none = absurd none
no-opening h (signal.Request call side key request) none = tt
no-opening h (signal.Ack call side ack) none = tt
no-opening h (signal.Cancel call key cancel invite) none = tt
no-opening h (signal.Answer key response) none = tt
no-opening h (signal.Silent branch method) none = tt
no-opening h (signal.Due call what) none = tt
no-opening h (signal.Over key) none = tt

-- and in a transaction by which a call was opened only the calls reply
pub record AreAwaited (d : Directory) (w : RunState) : Type 0 where
  pub run : IsRun w.actions
  pub requested : Each (HasOpenedRequest w.actions) w.call_ops
  pub answered : AllRepliesAllowed (call_config d) w.call_ops w.actions

-- ---- what one event adds to what was done before it

abbrev pub in_force_in : RunState → SheetsInForce
in_force_in w = in_force w.texts w.registrations

abbrev pub IsKeyed : Directory → RunState → Type 0
IsKeyed d w = Keyed (call_config d) (keys w.actions) w.call_ops

pub record Adds (d : Directory) (now : ℕ) (w0 : RunState) (away : Option ℕ) (w : RunState) : Type 0 where
  pub added : List TableOp
  pub is : w.call_ops ≡ added ++ w0.call_ops
  pub sees : Each (Sees (in_force_in w0) now) added
  pub keyed : IsKeyed d w
  pub whole : IsWhole (call_config d) away w.call_ops
  pub conferences : Each IsOfRun w.conference_ops
  pub awaited : AreAwaited d w

-- and the records and registrations are unchanged
record Still (d : Directory) (now : ℕ) (w0 : RunState) (away : Option ℕ) (w : RunState) : Type 0 where
  adds : Adds d now w0 away w
  texts : w.texts ≡ w0.texts
  registrations : w.registrations ≡ w0.registrations

-- ---- timers that fire at a moment are not later

abbrev NextBy : ℕ → Option DueEntryView → Type 0
NextBy now o = IfSome o (λ n. n.at ≤ now)

one-by : (now : ℕ) (e : Entry) (o : Option ℕ) → NextBy now (due_one now e o)
one-by now e None = tt
one-by now e (Some at) = go (nat_le at now) refl
  where
    go : (b : Bool) → nat_le at now ≡ b → NextBy now (if b then Some (record { at = at; entry = e }) else None)
    go true is = grind (arith, nat_tests, is)
    go false is = tt

sooner-by : (now : ℕ) (x y : Option DueEntryView) → NextBy now x → NextBy now y → NextBy now (sooner x y)
sooner-by now None y h g = g
sooner-by now (Some x) None h g = h
sooner-by now (Some x) (Some y) h g = go (is_before y.at y.entry x.at x.entry)
  where
    go : (b : Bool) → NextBy now (Some (if b then y else x))
    go true = g
    go false = h

next-by : (now : ℕ) (es : List Entry) → NextBy now (next_due now es)
next-by now [] = tt
next-by now (e ∷ es) = sooner-by now (due_one now e (deadline e)) (next_due now es) (one-by now e (deadline e)) (next-by now es)

-- the moment of one of a transaction
abbrev DueBy : ℕ → Due → Type 0
DueBy now (due.Again peer at text) = Unit {0}
DueBy now (due.Silent key branch method at) = at ≤ now
DueBy now (due.Over key at) = at ≤ now
DueBy now due.Nothing = Unit {0}

class_result-by : (now : ℕ) (o : Option DueEntryView) → NextBy now o → DueBy now (due_result o)
class_result-by now None h = tt
class_result-by now (Some n) h = go (is_some (retransmission_at n.entry)) (is_ending n.entry.state)
  where
    go : (b c : Bool) →
        DueBy now (if b then due.Again n.entry.peer n.at (retransmitted_text n.entry) else if c then due.Over (tkey n.entry.key) n.at else due.Silent (tkey n.entry.key) n.entry.head.branch n.entry.head.method n.at)
    go true c = tt
    go false true = h
    go false false = h

-- one of a call or of a participant
abbrev FirstTimerBy : ℕ → Option FirstTimer → Type 0
FirstTimerBy now o = IfSome o (λ c. c.first.at ≤ now)

sooner-armed : (now : ℕ) (armed : PendingTimer) (others : List PendingTimer) (behind : FirstTimer) → armed.at ≤ now → behind.first.at ≤ now → (deadlines.sooner_timer armed others behind).first.at ≤ now
sooner-armed now armed others behind h g = go (is_sooner behind.first armed)
  where
    go : (b : Bool) → (if b then first_timer behind.first (armed ∷ behind.others) else first_timer armed others).first.at ≤ now
    go true = g
    go false = h

first_timer_if-by : (now : ℕ) (armed : PendingTimer) (others : List PendingTimer) (b : Bool) (o : Option FirstTimer) → nat_le armed.at now ≡ b → FirstTimerBy now o → FirstTimerBy now (first_timer_if b armed others o)
first_timer_if-by now armed others false None is h = tt
first_timer_if-by now armed others false (Some behind) is h = h
first_timer_if-by now armed others true None is h = grind (arith, nat_tests, is)
first_timer_if-by now armed others true (Some behind) is h = let le : armed.at ≤ now = grind (arith, nat_tests, is) in sooner-armed now armed others behind le h

armed-by : (now : ℕ) (xs : List PendingTimer) → FirstTimerBy now (first_due_timer now xs)
armed-by now [] = tt
armed-by now (armed ∷ others) = first_timer_if-by now armed others (nat_le armed.at now) (first_due_timer now others) refl (armed-by now others)

-- whichever comes first
abbrev DeadlineBy : ℕ → Deadline → Type 0
DeadlineBy now OfTransaction = Unit {0}
DeadlineBy now (OfServiceTimer armed others) = armed.at ≤ now

first-by : (now : ℕ) (o : Option DueEntryView) (p : Option FirstTimer) → FirstTimerBy now p → IfSome (first_deadline o p) (DeadlineBy now)
first-by now None None h = tt
first-by now (Some next) None h = tt
first-by now None (Some call) h = h
first-by now (Some next) (Some call) h = go (comes_before next call.first)
  where
    go : (b : Bool) → IfSome (if b then Some OfTransaction else Some (OfServiceTimer call.first call.others)) (DeadlineBy now)
    go true = tt
    go false = h

due-by : (now : ℕ) (w : RunState) → IfSome (first_due_deadline now w) (DeadlineBy now)
due-by now w = first-by now (next_due now (live w.actions)) (first_due_timer now w.pending_timers) (armed-by now w.pending_timers)

-- ---- one event

-- so many transactions are still those of a state in which more operations are done on them
keyed-same : (d : Directory) (w v : RunState) → v.call_ops ≡ w.call_ops → keys w.actions ≤ keys v.actions → IsKeyed d w → IsKeyed d v
keyed-same d w v ops le k = subst (Keyed (call_config d) (keys v.actions)) (sym ops) (more_keyed (call_config d) (keys w.actions) (keys v.actions) w.call_ops le k)

module _ (d : Directory) (token : List ℕ) (back : LegsGoBack) (own_law : ConferencesReplyInTheirOwn) (w0 : RunState) (now : ℕ) where
  abbrev StillAt : (away : Option ℕ) → RunState → Type 0
  StillAt away w = Still d now w0 away w

  -- no leg is detached
  abbrev StillSo : RunState → Type 0
  StillSo w = Still d now w0 None w

  abbrev AddsSo : RunState → Type 0
  AddsSo w = Adds d now w0 None w

  -- ---- nothing is done on calls and conferences

  -- whatever happens to records and registrations
  alone : {away : Option ℕ} (w v : RunState) → v.call_ops ≡ w.call_ops → v.conference_ops ≡ w.conference_ops → Grows (call_config d) w.call_ops w.actions v.actions → Adds d now w0 away w → Adds d now w0 away v
  alone {away} w v ops seats more t = record {
    added = t.added;
    is = ops ∙ t.is;
    sees = t.sees;
    keyed = keyed-same d w v ops more.le t.keyed;
    whole = subst (IsWhole (call_config d) away) (sym ops) t.whole;
    conferences = subst (Each IsOfRun) (sym seats) t.conferences;
    awaited = record {
      run = more.run t.awaited.run;
      requested = subst (Each (HasOpenedRequest v.actions)) (sym ops) (all-asked-later w.actions v.actions w.call_ops more t.awaited.requested);
      answered = subst (λ (ops : List TableOp). AllRepliesAllowed (call_config d) ops v.actions) (sym ops) (more.answered t.awaited.answered);
    };
  }

  quiet : {away : Option ℕ} (w v : RunState) → v.call_ops ≡ w.call_ops → v.conference_ops ≡ w.conference_ops → v.texts ≡ w.texts → v.registrations ≡ w.registrations →
      Grows (call_config d) w.call_ops w.actions v.actions → StillAt away w → StillAt away v
  quiet w v ops seats texts registrations more t = record { adds = alone w v ops seats more t.adds; texts = texts ∙ t.texts; registrations = registrations ∙ t.registrations }

  -- it replies as may be
  abbrev MaySend : RunState → Emit → Type 0
  MaySend w x = RepliesSo (MayReply (call_config d) (keys w.actions) w.call_ops) x

  emit_still : {away : Option ℕ} (at : ℕ) (x : Emit) (w : RunState) → MaySend w x → StillAt away w → StillAt away (with_emit at x w)
  emit_still at (emit.Ask peer message) w so t = quiet w _ refl refl refl refl (grows (DidAsk peer message at) w.actions (λ r. r) tt) t
  emit_still at (emit.Reply key message) w so t = quiet w _ refl refl refl refl (grows (DidReply key.0 message at) w.actions (λ r. r) so) t
  emit_still at (emit.Plain peer text) w so t = quiet w _ refl refl refl refl (grows_refl w.actions) t
  emit_still at (emit.Ack key message) w so t = quiet w _ refl refl refl refl (grows (DidAck key.0 message) w.actions (λ r. r) tt) t
  emit_still at (emit.Settled key own) w so t = quiet w _ refl refl refl refl (grows (DidSettle key.0 own) w.actions (λ r. r) so) t
  emit_still at (emit.Arm call what when) w so t = quiet w _ refl refl refl refl (grows_refl w.actions) t
  emit_still at (emit.ArmSeat room seat what when) w so t = quiet w _ refl refl refl refl (grows_refl w.actions) t

  -- others may be sent after it
  emit_ops : (at : ℕ) (x : Emit) (w : RunState) → (with_emit at x w).call_ops ≡ w.call_ops
  emit_ops at (emit.Ask peer message) w = refl
  emit_ops at (emit.Reply key message) w = refl
  emit_ops at (emit.Plain peer text) w = refl
  emit_ops at (emit.Ack key message) w = refl
  emit_ops at (emit.Settled key own) w = refl
  emit_ops at (emit.Arm call what when) w = refl
  emit_ops at (emit.ArmSeat room seat what when) w = refl

  emit_keys : (at : ℕ) (x : Emit) (w : RunState) → keys w.actions ≤ keys (with_emit at x w).actions
  emit_keys at (emit.Ask peer message) w = keys_grow (DidAsk peer message at) w.actions
  emit_keys at (emit.Reply key message) w = keys_grow (DidReply key.0 message at) w.actions
  emit_keys at (emit.Plain peer text) w = le_refl (keys w.actions)
  emit_keys at (emit.Ack key message) w = keys_grow (DidAck key.0 message) w.actions
  emit_keys at (emit.Settled key own) w = keys_grow (DidSettle key.0 own) w.actions
  emit_keys at (emit.Arm call what when) w = le_refl (keys w.actions)
  emit_keys at (emit.ArmSeat room seat what when) w = le_refl (keys w.actions)

  sent_later : (w v : RunState) (xs : List Emit) → v.call_ops ≡ w.call_ops → keys w.actions ≤ keys v.actions → Each (MaySend w) xs → Each (MaySend v) xs
  sent_later w v [] ops le so = tt
  sent_later w v (x ∷ xs) ops le so = (
    subst (λ (ops : List TableOp). RepliesSo (MayReply (call_config d) (keys v.actions) ops) x) (sym ops) (replies_more (call_config d) (keys w.actions) (keys v.actions) w.call_ops x le so.0),
    sent_later w v xs ops le so.1,
  )

  with_emits_still : {away : Option ℕ} (at : ℕ) (xs : List Emit) (w : RunState) → Each (MaySend w) xs → StillAt away w → StillAt away (with_emits at xs w)
  with_emits_still at [] w so t = t
  with_emits_still at (x ∷ xs) w so t =
      with_emits_still at xs (with_emit at x w) (sent_later w (with_emit at x w) xs (emit_ops at x w) (emit_keys at x w) so.1) (emit_still at x w so.0 t)

  -- ---- an operation on calls

  -- what was replied before it is such as may be after it
  abbrev AnsweredBy : TableOp → RunState → Type 0
  AnsweredBy op w = AllRepliesAllowed (call_config d) (op ∷ w.call_ops) w.actions

  answered_by : {away : Option ℕ} (op : TableOp) (w : RunState) → IsFrom (keys w.actions) op → StillAt away w → AnsweredBy op w
  answered_by op w from t = acts_later (call_config d) (keys w.actions) op w.call_ops w.actions (le_refl (keys w.actions)) from t.adds.awaited.answered

  with_call_op_still : {before after : Option ℕ} (op : TableOp) (w : RunState) → Sees (in_force_in w0) now op → Keyed (call_config d) (keys w.actions) (op ∷ w.call_ops) → HasOpenedRequest w.actions op →
      AnsweredBy op w → IsWhole (call_config d) after (op ∷ w.call_ops) → StillAt before w → StillAt after (with_call_op op w)
  with_call_op_still op w sees keyed asked answered whole t = record {
    adds = record {
      added = op ∷ t.adds.added;
      is = ap (λ (ops : List TableOp). op ∷ ops) t.adds.is;
      sees = (sees, t.adds.sees);
      keyed = keyed;
      whole = whole;
      conferences = t.adds.conferences;
      awaited = record { run = t.adds.awaited.run; requested = (asked, t.adds.awaited.requested); answered = answered };
    };
    texts = t.texts;
    registrations = t.registrations;
  }

  with_call_output_still : {before : Option ℕ} (at : ℕ) (op : TableOp) (output : StepOutput) (w : RunState) → Sees (in_force_in w0) now op → Keyed (call_config d) (keys w.actions) (op ∷ w.call_ops) →
      HasOpenedRequest w.actions op → AnsweredBy op w → IsWhole (call_config d) None (op ∷ w.call_ops) → output.out ≡ out_by (call_config d) op (table_after (call_config d) w.call_ops) →
      StillAt before w → StillSo (with_call_output at op output w)
  with_call_output_still at op output w sees keyed asked answered whole out t =
      let done : RunState = with_call_op (Drops (length output.rows)) (with_call_op op w) in
      let brought : StillSo (with_call_op op w) = with_call_op_still op w sees keyed asked answered whole t in
      let still : StillSo done =
      with_call_op_still (Drops (length output.rows)) (with_call_op op w) tt (dropped_keyed (call_config d) (keys w.actions) (length output.rows) (op ∷ w.call_ops) keyed) tt
      (answered_by (Drops (length output.rows)) (with_call_op op w) tt brought) whole brought in
      let own : Each (MaySend done) output.out =
      replies_so output.out (MayReply (call_config d) (keys w.actions) (Drops (length output.rows) ∷ op ∷ w.call_ops)) (λ k m has.
      inl (record { newer = Drops (length output.rows) ∷ []; older = op ∷ w.call_ops; all = refl; brought = inl (subst (HasReply k m) out has); below = keyed.below })) in
      with_emits_still at output.out (record w { call_ops = Drops (length output.rows) ∷ op ∷ w.call_ops; drawn = output.tokens.drawn; waiting = w.waiting ++ output.rows }) own
      (quiet done _ refl refl refl refl (grows_refl w.actions) still)

  -- they receive a signal that is no request
  after_call_signal_still : (at : ℕ) (x : Signal) (w : RunState) → at ≤ now → HasNoKey x → StillSo w → StillSo (after_call_signal d token at x w)
  after_call_signal_still at x w le none t =
      with_call_output_still at (Receives (received_now token at x w)) (step_on_receive_after (call_config d) w.call_ops (received_now token at x w)).output w
      ((λ i. in_force (t.texts i) (t.registrations i)), le) (quiet_keyed (call_config d) (keys w.actions) w.call_ops (received_now token at x w) none t.adds.keyed) (no-opening w.actions x none)
      (answered_by (Receives (received_now token at x w)) w (no_from (keys w.actions) x none) t) t.adds.whole refl t

  -- the leg of a call is detached, and it ends
  after_call_end_still : (at : ℕ) (call : CallNo) (w : RunState) → StillAt (Some call.0) w → StillSo (after_call_end d token at call w)
  after_call_end_still at call w t =
      with_call_output_still at (Finishes call.0 at (tokens_now token w)) (step_on_finish (call_config d) call.0 at (tokens_now token w) (calls_in d w)).output w tt
      (ended_keyed (call_config d) (keys w.actions) call.0 at (tokens_now token w) w.call_ops t.adds.keyed) tt (answered_by (Finishes call.0 at (tokens_now token w)) w tt t) t.adds.whole refl t

  releasing_still : (number : ℕ) (side : Side) (leg : Released) (w : RunState) → released_leg_of number side (calls_in d w).entries ≡ Some leg → StillSo w → StillAt (Some number) (with_call_op (Releases number side) w)
  releasing_still number side leg w is t =
      with_call_op_still (Releases number side) w tt (released_keyed (call_config d) (keys w.actions) number side w.call_ops t.adds.keyed) tt (answered_by (Releases number side) w tt t)
      (refl, (leg, is), t.adds.whole) t

  restoring_still : (number : ℕ) (leg : Released) (w : RunState) → can_restore leg (entry_of number (calls_in d w).entries) ≡ true → StillAt (Some number) w → StillSo (with_call_op (Restores number leg) w)
  restoring_still number leg w fits t =
      with_call_op_still (Restores number leg) w tt (restored_keyed (call_config d) (keys w.actions) number leg w.call_ops t.adds.keyed) tt (answered_by (Restores number leg) w tt t) (fits, t.adds.whole) t

  -- ---- an operation on conferences

  with_conference_output_still : {away : Option ℕ} (at : ℕ) (op : rooms.TableOp) (output : StepOutput) (w : RunState) → IsOfRun op → Each (MaySend w) output.out → StillAt away w →
      StillAt away (with_conference_output at op output w)
  with_conference_output_still at op output w of_run own t =
      with_emits_still at output.out (record w { conference_ops = rooms.Drops (length output.rows) ∷ op ∷ w.conference_ops; waiting = w.waiting ++ output.rows }) own (record {
        adds = record {
          added = t.adds.added;
          is = t.adds.is;
          sees = t.adds.sees;
          keyed = t.adds.keyed;
          whole = t.adds.whole;
          conferences = (tt, (of_run, t.adds.conferences));
          awaited = record { run = t.adds.awaited.run; requested = t.adds.awaited.requested; answered = t.adds.awaited.answered };
        };
        texts = t.texts;
        registrations = t.registrations;
      })

  -- conferences reply in the transaction of the request that is received in the operation
  abbrev IsAway : RunState → ℕ → Type 0
  IsAway w k = IsElsewhere (keys w.actions) k w.call_ops

  away_own : (key : TKey) (w : RunState) → IsAway w key.0 → (k : ℕ) → (k == key.0) ≡ true → IsAway w k
  away_own key w away k is = subst (IsAway w) (sym (eqb-true k key.0 is)) away

  none_own : (w : RunState) (k : ℕ) → false ≡ true → IsAway w k
  none_own w k is = absurd (let f : false ≡ true = is in cc)

  comes_own : (own : ℕ → Bool) (op : rooms.TableOp) (w : RunState) → OpIsOf own op → ((k : ℕ) → own k ≡ true → IsAway w k) → Each (MaySend w) (output_of_conference_op d op w).out
  comes_own own op w is away =
      replies_elsewhere own (call_config d) (keys w.actions) w.call_ops (output_of_conference_op d op w).out away (own_law own (conference_config d) op (conferences_in d w) is)

  after_conference_op_still : {away : Option ℕ} (at : ℕ) (op : rooms.TableOp) (w : RunState) → IsOfRun op → Each (MaySend w) (output_of_conference_op d op w).out → StillAt away w →
      StillAt away (after_conference_op d at op w)
  after_conference_op_still at op w of_run own t =
      let v : RunState = record w { drawn = (output_of_conference_op d op w).tokens.drawn } in
      with_conference_output_still at op (output_of_conference_op d op w) v of_run own (quiet w v refl refl refl refl (grows_refl w.actions) t)

  -- they receive a signal that is no request
  after_conference_signal_still : (at : ℕ) (x : RoomSignal) (w : RunState) → SignalIsOf (λ k. false) x → StillSo w → StillSo (after_conference_signal d token at x w)
  after_conference_signal_still at x w none t = after_conference_op_still at (conference_signal_op token at x w) w tt (comes_own (λ k. false) (conference_signal_op token at x w) w none (none_own w)) t

  after_refer_notify_still : (at : ℕ) (room : RoomNo) (seat code : ℕ) (w : RunState) → StillSo w → StillSo (after_refer_notify d token at room seat code w)
  after_refer_notify_still at room seat code w t =
      let op : rooms.TableOp = rooms.Notifies room.0 seat code (tokens_now token w) in after_conference_op_still at op w tt (comes_own (λ k. false) op w tt (none_own w)) t

  -- ---- mailboxes: message waiting preserves whatever is preserved while calls and conferences, records and registrations are unchanged, and more operations are done on the transactions

  module _ (P : RunState → Type 0)
      (more : (w v : RunState) → v.call_ops ≡ w.call_ops → v.conference_ops ≡ w.conference_ops → v.texts ≡ w.texts → v.registrations ≡ w.registrations →
      Grows (call_config d) w.call_ops w.actions v.actions → P w → P v) where
    noted_left : (op : boxes.TableOp) (w : RunState) → P w → P (with_mailbox_op op w)
    noted_left op w = more w (with_mailbox_op op w) refl refl refl refl (grows_refl w.actions)

    steps_left : (at : ℕ) → AreSteps d token at (λ w v. P w → P v)
    steps_left at = record {
      same = λ w p. p;
      next = λ u v w f g p. g (f p);
      notes = λ op w none. noted_left op w;
      draws = λ w. more w (with_draws 1 w) refl refl refl refl (grows_refl w.actions);
      arms = λ armed w. more w (with_timer armed w) refl refl refl refl (grows_refl w.actions);
      asks = λ sub last peer message w lives is.
          let v : RunState = tells_in token sub w in
          more v (with_emit at (emit.Ask peer message) v) refl refl refl refl (grows (DidAsk peer message at) v.actions (λ r. r) tt);
    }

  still_more : (w v : RunState) → v.call_ops ≡ w.call_ops → v.conference_ops ≡ w.conference_ops → v.texts ≡ w.texts → v.registrations ≡ w.registrations →
      Grows (call_config d) w.call_ops w.actions v.actions → StillSo w → StillSo v
  still_more w v ops seats texts registrations g t = quiet w v ops seats texts registrations g t

  adds_more : (w v : RunState) → v.call_ops ≡ w.call_ops → v.conference_ops ≡ w.conference_ops → v.texts ≡ w.texts → v.registrations ≡ w.registrations →
      Grows (call_config d) w.call_ops w.actions v.actions → AddsSo w → AddsSo v
  adds_more w v ops seats texts registrations g t = alone w v ops seats g t

  after_notify_response_still : (branch : Option (List ℕ)) (code : ℕ) (w : RunState) → StillSo w → StillSo (after_notify_response branch code w)
  after_notify_response_still = steps.answered (λ w v. StillSo w → StillSo v) (λ w t. t) (λ op w none. noted_left StillSo still_more op w)

  after_expiry_still : (at : ℕ) (sub : SubNo) (set : ℕ) (w : RunState) → StillSo w → StillSo (after_expiry d token at sub set w)
  after_expiry_still at = steps.ends d token at (λ w v. StillSo w → StillSo v) (steps_left StillSo still_more at)

  after_mailbox_upload_adds : (put : Option (Account × Counts)) (w : RunState) → AddsSo w → AddsSo (after_mailbox_upload d token now put w)
  after_mailbox_upload_adds = steps.puts d token now (λ w v. AddsSo w → AddsSo v) (steps_left AddsSo adds_more now) (λ account counts w. noted_left AddsSo adds_more (boxes.Puts account counts) w)

  -- ---- timers

  after_request_timeout_still : (at : ℕ) (branch method : List ℕ) (whose : Owner) (w : RunState) → at ≤ now → StillSo w → StillSo (after_request_timeout d token at branch method whose w)
  after_request_timeout_still at branch method OfCalls w le t = after_call_signal_still at (signal.Silent branch method) w le tt t
  after_request_timeout_still at branch method OfSubscriptions w le t = after_notify_response_still (behind_cookie branch) 408 w t
  after_request_timeout_still at branch method OfConferences w le t = after_conference_signal_still at (of_room.Silent branch method) w tt t

  over_still : (at : ℕ) (key : TKey) (whose : Owner) (w : RunState) → at ≤ now → StillSo w → StillSo (after_transaction_end d token at key whose w)
  over_still at key OfCalls w le t = after_call_signal_still at (signal.Over key) w le tt t
  over_still at key OfSubscriptions w le t = t
  over_still at key OfConferences w le t = after_conference_signal_still at (of_room.Over key) w tt t

  after_due_still : (x : Due) (w : RunState) → DueBy now x → StillSo w → StillSo (after_due d token x w)
  after_due_still (due.Again peer at text) w le t = quiet w _ refl refl refl refl (grows_refl w.actions) t
  after_due_still (due.Silent key branch method at) w le t =
      after_request_timeout_still at branch method (owner_of_branch (timed_out_branch branch method) (behind_cookie branch) (calls_in d w).entries (subscriptions_in w)) w le t
  after_due_still (due.Over key at) w le t = over_still at key (owner_of_key key (calls_in d w).entries) w le t
  after_due_still due.Nothing w le t = t

  with_next_step_still : (w : RunState) → StillSo w → StillSo (with_next_step w)
  with_next_step_still w t = quiet w (with_next_step w) refl refl refl refl (grows (DidBegin w.steps) w.actions (λ r. r) tt) t

  after_firing_still : (o : Option DueEntryView) (w : RunState) → next_due now (live w.actions) ≡ o → StillSo w → StillSo (record w { actions = after_firing w.actions o })
  after_firing_still None w first t = quiet w _ refl refl refl refl (grows_refl w.actions) t
  after_firing_still (Some next) w first t =
      quiet w _ refl refl refl refl (grows (DidFire next.entry.key) w.actions (λ r. (record { now = now; next = next; first = first; same = refl }, r)) tt) t

  after_service_timer_still : (at : ℕ) (x : ServiceTimer) (w : RunState) → at ≤ now → StillSo w → StillSo (after_service_timer d token at x w)
  after_service_timer_still at (OfCall call what) w le t = after_call_signal_still at (signal.Due call what) w le tt t
  after_service_timer_still at (OfParticipant room seat what) w le t = after_conference_signal_still at (of_room.Due room seat what) w tt t
  after_service_timer_still at (OfSubscription sub set) w le t = after_expiry_still at sub set w t

  after_deadline_still : (x : Deadline) (w : RunState) → DeadlineBy now x → StillSo w → StillSo (after_deadline d token now x w)
  after_deadline_still OfTransaction w le t =
      let next : Option DueEntryView = next_due now (live (with_next_step w).actions) in
      after_due_still (due_result next) (record (with_next_step w) { actions = after_firing (with_next_step w).actions next })
      (class_result-by now next (next-by now (live (with_next_step w).actions))) (after_firing_still next (with_next_step w) refl (with_next_step_still w t))
  after_deadline_still (OfServiceTimer armed others) w le t =
      after_service_timer_still armed.at armed.timer (record (with_next_step w) { pending_timers = others }) le
      (quiet (with_next_step w) _ refl refl refl refl (grows_refl (with_next_step w).actions) (with_next_step_still w t))

  if_fired_still : (o : Option Deadline) (w : RunState) → IfSome o (DeadlineBy now) → StillSo w → StillSo (after_deadline_if d token now o w)
  if_fired_still None w le t = t
  if_fired_still (Some x) w le t = after_deadline_still x w le t

  after_due_deadlines_still : (fuel : ℕ) (w : RunState) → StillSo w → StillSo (after_due_deadlines d token fuel now w)
  after_due_deadlines_still zero w t = t
  after_due_deadlines_still (suc fuel) w t = after_due_deadlines_still fuel (after_one_deadline d token now w) (if_fired_still (first_due_deadline now w) w (due-by now w) t)

  -- ---- messages

  module _ (s : MessageView) where
    -- the server's own response
    replying_adds : (key : TKey) (answer : StatusResponse) (w : RunState) → IsAway w key.0 → AddsSo w → AddsSo (with_response d token now key s answer w)
    replying_adds key answer w away t =
        alone w _ refl refl (grows (DidReply key.0 (response_to d.sip (tag_for token w.drawn s.parsed.to_tag) s answer) now) w.actions (λ r. r) (inr away)) t

    -- a request for a mailbox: by its transaction no call was opened
    abbrev AddsAway : TKey → RunState → Type 0
    AddsAway key w = AddsSo w × IsAway w key.0

    away_more : (key : TKey) (w v : RunState) → v.call_ops ≡ w.call_ops → v.conference_ops ≡ w.conference_ops → v.texts ≡ w.texts → v.registrations ≡ w.registrations →
        Grows (call_config d) w.call_ops w.actions v.actions →
        AddsAway key w → AddsAway key v
    away_more key w v ops seats texts registrations g t = (
      alone w v ops seats g t.0,
      subst (IsElsewhere (keys v.actions) key.0) (sym ops) (record { below = omega (arith, g.le, t.1.below); other = t.1.other }),
    )

    replied_away : (key : TKey) (answer : StatusResponse) (w : RunState) → AddsAway key w → AddsAway key (with_response d token now key s answer w)
    replied_away key answer w t =
        away_more key w _ refl refl refl refl (grows (DidReply key.0 (response_to d.sip (tag_for token w.drawn s.parsed.to_tag) s answer) now) w.actions (λ r. r) (inr t.1)) t

    abbrev LeftAway : TKey → RunState → RunState → Type 0
    LeftAway key w v = AddsAway key w → AddsAway key v

    steps_away : (key : TKey) → AreSteps d token now (LeftAway key)
    steps_away key = steps_left (AddsAway key) (away_more key) now

    abbrev Anyhow : (within : Bool) → Option ℕ → Type 0
    Anyhow within o = Unit {0}

    answers_away : (key : TKey) → AreResponses d token now (LeftAway key) key s Anyhow
    answers_away key = record {
      reads = λ within. tt;
      subscribes = λ account until w may. noted_left (AddsAway key) (away_more key) (boxes.Subscribes account (leg_by (next_tag token w) s) until) (with_draws 1 w);
      grants = λ op seconds w may t.
          let v : RunState = with_mailbox_op op (with_draws 1 w) in
          away_more key v _ refl refl refl refl (grows (DidReply key.0 (response_to d.sip (next_tag token w) s (grant_response seconds)) now) v.actions (λ r. r) (inr t.1)) t;
      renews = λ seconds w may. replied_away key (grant_response seconds) w;
      refuses = λ within code w may. replied_away key (refusal_response code) w;
      denies = λ code w above. replied_away key (plain_response code) w;
      others = λ w no. replied_away key (other_response d s.parsed) w;
    }

    opened_still : (key : TKey) (tag : List ℕ) (b : Bool) (w : RunState) → IsAway w key.0 → StillSo w → StillSo (after_opening_if d now key s tag b w)
    opened_still key tag true w away t = emit_still now (emit.Reply key (response_to d.sip tag s (plain_response 503))) w (inr away) t
    opened_still key tag false w away t =
        let op : rooms.TableOp = opening_op d now key s tag in
        with_conference_output_still now op (output_of_conference_op d op w) w tt (comes_own (λ k. k == key.0) op w (eq-eqb key.0 key.0 refl) (away_own key w away)) t

    joined_still : (key : TKey) (room : RoomNo) (tag : List ℕ) (r : Result ℕ RoomFault) (w : RunState) → IsAway w key.0 → StillSo w → StillSo (after_join_if d token now key s room tag r w)
    joined_still key room tag (Err fault) w away t = emit_still now (emit.Reply key (response_to d.sip tag s (plain_response (status_of_fault fault)))) w (inr away) t
    joined_still key room tag (Ok place) w away t =
        let op : rooms.TableOp = join_op d now key s room tag (tokens_now token w) in
        after_conference_op_still now op w tt (comes_own (λ k. k == key.0) op w (eq-eqb key.0 key.0 refl) (away_own key w away)) t

    -- the leg is one that fits where it is put back
    adopting_still : (room : RoomNo) (seat : ℕ) (call : CallNo) (leg : Released) (account : Option Account) (r : Result ℕ RoomFault) (w : RunState) →
        can_restore leg (entry_of call.0 (calls_in d w).entries) ≡ true → StillAt (Some call.0) w → StillSo (after_adoption_if d token now room seat call leg account r w)
    adopting_still room seat call leg account (Ok place) w fits t =
        let op : rooms.TableOp = adoption_op token now room seat leg account w in
        after_call_end_still now call (after_conference_op d now op w) (after_conference_op_still now op w tt (comes_own (λ k. false) op w tt (none_own w)) t)
    adopting_still room seat call leg account (Err fault) w fits t = after_refer_notify_still now room seat 503 (with_call_op (Restores call.0 leg) w) (restoring_still call.0 leg w fits t)

    taken_still : (room : RoomNo) (seat : ℕ) (call : CallNo) (side : Side) (account : Option Account) (o : Option Released) (w : RunState) →
        released_leg_of call.0 side (calls_in d w).entries ≡ o → StillSo w → StillSo (after_detach d token now room seat call side account o w)
    taken_still room seat call side account None w is t = after_refer_notify_still now room seat 491 w t
    taken_still room seat call side account (Some leg) w is t =
        adopting_still room seat call leg account (access room.0 (conferences_in d w).live) (with_call_op (Releases call.0 side) w) (back call.0 side (calls_in d w).entries leg is).0
        (releasing_still call.0 side leg w is t)

    with_still : (room : RoomNo) (seat : ℕ) (call : CallNo) (side : Side) (b : Bool) (w : RunState) → StillSo w → StillSo (after_replacing_side d token now room seat call side b w)
    with_still room seat call side false w t = after_refer_notify_still now room seat 481 w t
    with_still room seat call side true w t =
        taken_still room seat call (other_side side) (account_of_side call (other_side side) (calls_in d w).entries) (released_leg_of call.0 (other_side side) (calls_in d w).entries) w refl t

    by_still : (peer : Peer) (room : RoomNo) (seat : ℕ) (o : Option (CallNo × Side)) (w : RunState) → StillSo w → StillSo (after_replacing_named d token now peer room seat o w)
    by_still peer room seat None w t = after_refer_notify_still now room seat 481 w t
    by_still peer room seat (Some named) w t = with_still room seat named.0 named.1 (is_of_peer peer (party named.0.0 named.1 (calls_in d w).entries)) w t

    replacing_still : (peer : Peer) (room : RoomNo) (seat : ℕ) (o : Option Replaces) (w : RunState) → StillSo w → StillSo (after_replaces d token now peer room seat o w)
    replacing_still peer room seat None w t = t
    replacing_still peer room seat (Some r) w t =
        let v : RunState = after_refer_notify d token now room seat 100 w in
        by_still peer room seat (replaced_side r (calls_in d v).entries) v (after_refer_notify_still now room seat 100 w t)

    entering_still : (key : TKey) (room : RoomNo) (seat : ℕ) (w : RunState) → IsAway w key.0 → StillSo w → StillSo (after_participant_request d token now key s room seat w)
    entering_still key room seat w away t =
        let op : rooms.TableOp = conference_signal_op token now (of_room.Request room seat key s) w in
        replacing_still s.peer room seat (replacement_in s.parsed (output_of_conference_op d op w).out) (after_conference_signal d token now (of_room.Request room seat key s) w)
        (after_conference_op_still now op w tt (comes_own (λ k. k == key.0) op w (eq-eqb key.0 key.0 refl) (away_own key w away)) t)

    -- a request of a new transaction, which is the one after so many
    module _ (n : ℕ) (w : RunState) (le : n + 1 ≤ keys w.actions) (k : Keyed (call_config d) n w.call_ops) (first : OpensAt w.actions n s.peer)
        (answered : (op : TableOp) → IsFrom n op → AllRepliesAllowed (call_config d) (op ∷ w.call_ops) w.actions) (t : StillSo w) where
      -- no call was opened by it
      its_own : IsAway w n
      its_own = record { below = omega (arith, le); other = all_other n (tkey n) w.call_ops refl k.below }

      asked_still : (x : Signal) → HasKey n x → IsOpenedBy w.actions x → StillSo (after_call_signal d token now x w)
      asked_still x key opens =
          with_call_output_still now (Receives (received_now token now x w)) (step_on_receive_after (call_config d) w.call_ops (received_now token now x w)).output w
          ((λ i. in_force (t.texts i) (t.registrations i)), le_refl now)
          (more_keyed (call_config d) (n + 1) (keys w.actions) (Receives (received_now token now x w) ∷ w.call_ops) le (fresh_keyed (call_config d) n w.call_ops (received_now token now x w) key k)) opens
          (answered (Receives (received_now token now x w)) (key_from n x key)) t.adds.whole refl t

      drawn_still : StillSo (with_draws 1 w)
      drawn_still = quiet w (with_draws 1 w) refl refl refl refl (grows_refl w.actions) t

      taking_adds : (c : Disposition) → AddsSo (after_disposition d token now (tkey n) s c w)
      taking_adds (Respond answer) = replying_adds (tkey n) answer w its_own t.adds
      taking_adds (Enter call side) = (asked_still (signal.Request call side (tkey n) s) refl tt).adds
      taking_adds (EnterConference room seat) = (entering_still (tkey n) room seat w its_own t).adds
      taking_adds OpenCall = (asked_still (arrival_signal d.names.accounts (tkey n) s) refl first).adds
      taking_adds OpenConference = (opened_still (tkey n) (next_tag token w) (is_table_full (conferences_in d w).live) (with_draws 1 w) its_own drawn_still).adds
      taking_adds (JoinConference room) = (joined_still (tkey n) room (next_tag token w) (access room.0 (conferences_in d w).live) (with_draws 1 w) its_own drawn_still).adds
      taking_adds (Register account seconds) =
          replying_adds (tkey n) (plain_response 200) (with_registration account (until_of now seconds) w) its_own (alone w (with_registration account (until_of now seconds) w) refl refl (grows_refl w.actions) t.adds)
      taking_adds Subscribe = (steps.subscribes d token now (LeftAway (tkey n)) (steps_away (tkey n)) (tkey n) s Anyhow (answers_away (tkey n)) w (t.adds, its_own)).0
      taking_adds (EnterSubscription sub) = (steps.enters d token now (LeftAway (tkey n)) (steps_away (tkey n)) (tkey n) s Anyhow (answers_away (tkey n)) sub w (t.adds, its_own)).0

      cancelling_call_adds : (invite : TKey) (o : Option (CallNo × Side)) → AddsSo (after_cancel_of d token now (tkey n) s invite o w)
      cancelling_call_adds invite None = replying_adds (tkey n) (plain_response 200) w its_own t.adds
      cancelling_call_adds invite (Some asked) = (asked_still (signal.Cancel asked.0 (tkey n) s invite) refl tt).adds

      cancelling_adds : (invite : Option TKey) → AddsSo (after_cancel d token now (tkey n) s invite w)
      cancelling_adds None = replying_adds (tkey n) (plain_response 481) w its_own t.adds
      cancelling_adds (Some invite) = cancelling_call_adds invite (call_of_invite invite (calls_in d w).entries)

      requested_adds : (is_cancel : Bool) (invited : Option TKey) → AddsSo (after_classified_message d token now s (Some (opening_result is_cancel n invited (message_in s.parsed))) w)
      requested_adds true invited = cancelling_adds invited
      requested_adds false invited = taking_adds (disposition d (is_merged n (live w.actions)) (are_full (calls_in d w).entries) (dialog_owner_in d s.parsed w) s.parsed)

    repeating_still : (o : Option (Peer × List ℕ)) (w : RunState) → StillSo w → StillSo (with_retransmission now o w)
    repeating_still None w t = t
    repeating_still (Some sent) w t = quiet w _ refl refl refl refl (grows_refl w.actions) t

    acknowledging_still : (o : Option DialogOwner) (w : RunState) → StillSo w → StillSo (after_ack_by d token now s o w)
    acknowledging_still None w t = t
    acknowledging_still (Some (InCall call side)) w t = after_call_signal_still now (signal.Ack call side s) w (le_refl now) tt t
    acknowledging_still (Some (InConference room seat)) w t = after_conference_signal_still now (of_room.Ack room seat s) w tt t
    acknowledging_still (Some (InSubscription sub)) w t = t

    responding_still : (key : TKey) (whose : Owner) (w : RunState) → StillSo w → StillSo (after_response_to d token now key s whose w)
    responding_still key OfCalls w t = after_call_signal_still now (signal.Answer key s) w (le_refl now) tt t
    responding_still key OfSubscriptions w t = after_notify_response_still (branch_in s.parsed.vias) (status_of s.parsed.start) w t
    responding_still key OfConferences w t = after_conference_signal_still now (of_room.Answer key s) w tt t

    -- the message was classified as this
    abbrev received_as : MessageClass → RunState → RunState
    received_as p w = record w { actions = DidHear s.peer (message_in s.parsed) now p ∷ w.actions }

    abbrev receiving_as : MessageClass → Option transaction.Heard → RunState → RunState
    receiving_as p None w = w
    receiving_as p (Some said) w = received_as p w

    abbrev said_of : MessageClass → RunState → Option transaction.Heard
    said_of p w = class_result (keys w.actions) (live w.actions) s.peer (message_in s.parsed) p

    received_still : (p : MessageClass) (w : RunState) → p ≡ class_of (head_of (message_in s.parsed)) (live w.actions) → StillSo w → StillSo (received_as p w)
    received_still p w taken t = quiet w (received_as p w) refl refl refl refl (grows (DidHear s.peer (message_in s.parsed) now p) w.actions (λ r. (taken, r)) tt) t

    said_adds : (p : MessageClass) (w : RunState) → p ≡ class_of (head_of (message_in s.parsed)) (live w.actions) → StillSo w →
        AddsSo (after_classified_message d token now s (said_of p w) (receiving_as p (said_of p w) w))
    said_adds part.Fresh w taken t =
        requested_adds (keys w.actions) (received_as part.Fresh w) (omega (arith, keys_fresh s.peer (message_in s.parsed) now w.actions)) t.adds.keyed
        (_, get-next (openings w.actions) _, record { server = refl; peer = refl; state = refl; done = refl; refused = refl; over = refl })
        (λ op from. (tt, acts_later (call_config d) (keys w.actions) op w.call_ops w.actions (le_refl (keys w.actions)) from t.adds.awaited.answered))
        (received_still part.Fresh w taken t)
        (is_cancel (head_of (message_in s.parsed))) (option_map key_of (find (is_invite_of (head_of (message_in s.parsed))) (live w.actions)))
    said_adds part.Full w taken t = alone w _ refl refl (grows_refl w.actions) t.adds
    said_adds (part.Repeat key) w taken t = (repeating_still _ (received_as (part.Repeat key) w) (received_still (part.Repeat key) w taken t)).adds
    said_adds (part.RepeatedFinal key) w taken t = (repeating_still _ (received_as (part.RepeatedFinal key) w) (received_still (part.RepeatedFinal key) w taken t)).adds
    said_adds (part.Answer key) w taken t =
        (responding_still (tkey key) (owner_of_branch (awaited_request_branch s) (branch_in s.parsed.vias) (calls_in d (received_as (part.Answer key) w)).entries (subscriptions_in w)) (received_as (part.Answer key) w)
        (received_still (part.Answer key) w taken t)).adds
    said_adds (part.Acked key) w taken t = (received_still (part.Acked key) w taken t).adds
    said_adds part.AckOf2xx w taken t = (acknowledging_still (dialog_owner_in d s.parsed (received_as part.AckOf2xx w)) (received_as part.AckOf2xx w) (received_still part.AckOf2xx w taken t)).adds
    said_adds part.Stray w taken t = (received_still part.Stray w taken t).adds

    -- the transactions once it is received
    receiving_is : (o : Option transaction.Heard) (w : RunState) → with_received_action now s o w ≡ receiving_as (class_of (head_of (message_in s.parsed)) (live w.actions)) o w
    receiving_is None w = refl
    receiving_is (Some said) w = refl

    after_message_adds : (w : RunState) → StillSo w → AddsSo (after_message d token now s w)
    after_message_adds w t =
        let p : MessageClass = class_of (head_of (message_in s.parsed)) (live w.actions) in
        subst (λ (v : RunState). AddsSo (after_classified_message d token now s (said_of p w) v)) (sym (receiving_is (said_of p w) w)) (said_adds p w refl t)

  -- ---- the event

  after_parsed_event_adds : (x : ParsedEvent) (w : RunState) → StillSo w → AddsSo (after_parsed_event d token now x w)
  after_parsed_event_adds events.Nothing w t = t.adds
  after_parsed_event_adds (events.Refused peer source reply) w t = alone w _ refl refl (grows_refl w.actions) t.adds
  after_parsed_event_adds (events.Received said) w t = after_message_adds said w t
  after_parsed_event_adds (events.WebRequested request kept rows) w t =
      let v : RunState = after_web_reply d now request kept rows w in after_mailbox_upload_adds (counts_put_in d.names request kept) v (alone w v refl refl (grows_refl w.actions) t.adds)

  after_handover_adds : (took : Bool) (rows : List Row) (w : RunState) → AddsSo w → AddsSo (after_handover took rows w)
  after_handover_adds took [] w t = t
  after_handover_adds false (row ∷ rows) w t = t
  after_handover_adds true (row ∷ rows) w t = alone w _ refl refl (grows_refl w.actions) t

  after_event_adds : (x : ParsedEvent) (took : Bool) (w : RunState) → StillSo w → AddsSo (after_event d token now x took w)
  after_event_adds x took w t =
      let begins : RunState = record (with_next_step w) { clock = now } in
      let left : RunState = after_parsed_event d token now x begins in
      after_handover_adds took left.waiting left (after_parsed_event_adds x begins (quiet (with_next_step w) begins refl refl refl refl (grows_refl (with_next_step w).actions) (with_next_step_still w t)))

-- one event, with the timers before it
pub event_adds : (d : Directory) (token : List ℕ) → LegsGoBack → ConferencesReplyInTheirOwn → (fuel : ℕ) (x : TimedEvent) (w : RunState) → IsKeyed d w → IsWhole (call_config d) None w.call_ops →
    Each IsOfRun w.conference_ops → AreAwaited d w →
    Adds d (clock_at w x.at) w None (after_event_in_order d token fuel x w)
event_adds d token back own_law fuel x w keyed whole of_run awaited =
    after_event_adds d token back own_law w (clock_at w x.at) x.parsed x.accepted (after_due_deadlines d token fuel (clock_at w x.at) w)
    (after_due_deadlines_still d token back own_law w (clock_at w x.at) fuel w
    (record { adds = record { added = []; is = refl; sees = tt; keyed = keyed; whole = whole; conferences = of_run; awaited = awaited }; texts = refl; registrations = refl }))
