-- Some number of timer firings is enough before each event, and more of them change nothing.
use Rattle.std.proofs.Common.{◌≡◌, ℕ, zero, suc, ◌+◌, ◌≤◌, List, [], ◌∷◌, ◌++◌, length, refl, sym, ap, ◌∙◌, Bool, true, false, Option, Some, None, inl, inr, arith, subst}
use Rattle.std.specs.Prelude.{◌⊎◌, ◌==◌, cond, nat_le, if◌then◌else◌}
use Rattle.std.specs.Option.{option_map}
use Rattle.mmtel_b2bua.specs.Operations.{Drops, Receives, TableOp, step_on_receive_after}
use Rattle.mmtel_b2bua.specs.Tables.{TableStep}
use Rattle.mmtel_b2bua.specs.declared.signals.Signal.{Signal}
use Rattle.mmtel_b2bua.specs.declared.signals.Signal.TheVariants as signal
use Rattle.mmtel_output.specs.ResponseMatching.{behind_cookie, timed_out_branch}
use Rattle.mmtel_output.specs.Outputs.{empty_output}
use Rattle.mmtel_directory.specs.declared.directories.Directory.{Directory}
use Rattle.mmtel_focus.specs.Operations as rooms
use Rattle.mmtel_focus.specs.Conferences.{no_effects}
use Rattle.mmtel_focus.specs.Table as tables
use Rattle.mmtel_focus.specs.declared.signals.RoomSignal.{RoomSignal}
use Rattle.mmtel_focus.specs.declared.signals.RoomSignal.TheVariants as of_room
use Rattle.mmtel_records_in_force.specs.Texts.{Texts}
use Rattle.mmtel_mwi.specs.Boxes.{notify_request, peer_of, subscription_numbered, table_after_end, table_after_notify}
use Rattle.mmtel_mwi.specs.Operations as boxes
use Rattle.mmtel_mwi.specs.Operations.{Ends, Notifies}
use Rattle.mmtel_mwi.specs.declared.subscriptions.Subscription.{Subscription}
use Rattle.mmtel_types.specs.declared.numbers.Peer.{Peer}
use Rattle.mmtel_types.specs.declared.numbers.SubNo.{SubNo}
use Rattle.mmtel_run_definitions.specs.Subscriptions.{after_expiry, after_last_notify, after_notify_response, after_notify_to_peer, is_last_set, notify_emits, with_mailbox_op}
use Rattle.mmtel_run_definitions.proofs.SubscriptionTermination.{last_fewer, table_after_response_fewer}
use Rattle.mmtel_base.specs.Numbers.{next_number}
use Rattle.mmtel_transaction.specs.Results.{DueEntryView, after_firing, due_result, next_due}
use Rattle.mmtel_transaction.specs.Operations.{TransactionOp, DidBegin, live}
use Rattle.mmtel_transaction.specs.Firings.{BeginsChangeNothing, FiringsUseUp, total_remaining}
use Rattle.mmtel_transaction.specs.declared.words.Due.{Due}
use Rattle.mmtel_transaction.specs.declared.words.Due.TheVariants as due
use Rattle.mmtel_transaction.specs.Tokens.{TokensView}
use Rattle.mmtel_transaction.specs.declared.words.Emit.{Emit}
use Rattle.mmtel_transaction.specs.declared.words.TKey.{TKey}
use Rattle.mmtel_run_definitions.specs.Calls.{call_config, calls_after}
use Rattle.mmtel_run_definitions.specs.Deadlines.{Deadline, FirstTimer, OfCall, OfParticipant, OfServiceTimer, OfSubscription, OfTransaction, PendingTimer}
use Rattle.mmtel_run_definitions.specs.Deadlines.{ServiceTimer, comes_before, first_deadline, first_due_timer, first_timer, first_timer_if, is_sooner}
use Rattle.mmtel_run_definitions.specs.Events.{EventRecord, TimedEvent, timed_events}
use Rattle.mmtel_run_definitions.specs.TopTheorem.{GivesAlways, GivesOnce, MoreChangesNothing}
use Rattle.mmtel_run_definitions.specs.Records.{in_force}
use Rattle.mmtel_run_definitions.specs.Ownership.{OfSubscriptions, OfCalls, OfConferences, Owner, owner_of_key, owner_of_branch, conferences_after, conference_config}
use Rattle.mmtel_run_definitions.specs.Run.{IsEnough, IsEnoughAfter, IsSettled, after_deadline_if, after_due_deadlines, after_event_in_order}
use Rattle.mmtel_run_definitions.specs.Run.{after_events, after_one_deadline, clock_at, first_due_deadline, offers_of_run, state_after}
use Rattle.mmtel_run_definitions.specs.Transitions.{RunState, subscriptions_in, with_draws, next_tag, after_service_timer, initial_state, with_next_step, calls_in, after_event, with_emits, after_transaction_end}
use Rattle.mmtel_run_definitions.specs.Transitions.{after_deadline, conference_signal_op, received_now, conferences_in, after_due, after_conference_signal, after_call_signal, after_request_timeout, tokens_now}
use Rattle.mmtel_run_definitions.proofs.EmitFrames.{with_emits_boxes, with_emits_ops, with_emits_rooms}
use Rattle.mmtel_run_definitions.proofs.ConferenceTermination.{all_seats, rooms_fade}
use Rattle.mmtel_run_definitions.proofs.ConferenceTermination.{is_rung as is_rung_there}
use Rattle.mmtel_run_definitions.proofs.CallTableTermination.{all_ways, fades, is_rung}

-- ---- the first timer of calls and participants

-- the others are one fewer
sooner_length : (b : Bool) (armed : PendingTimer) (others : List PendingTimer) (behind : FirstTimer) → suc (length behind.others) ≡ length others
    → suc (length (if b then first_timer behind.first (armed ∷ behind.others) else first_timer armed others).others) ≡ suc (length others)
sooner_length true armed others behind same = ap suc same
sooner_length false armed others behind same = refl

-- whatever is chosen
abbrev IsFewer : List PendingTimer → Option FirstTimer → Type 0
IsFewer armed None = Unit {0}
IsFewer armed (Some call) = suc (length call.others) ≡ length armed

first_timer_if_length : (b : Bool) (armed : PendingTimer) (others : List PendingTimer) (behind : Option FirstTimer) → IsFewer others behind → IsFewer (armed ∷ others) (first_timer_if b armed others behind)
first_timer_if_length false armed others None same = tt
first_timer_if_length false armed others (Some behind) same = ap suc same
first_timer_if_length true armed others None same = refl
first_timer_if_length true armed others (Some behind) same = sooner_length (is_sooner behind.first armed) armed others behind same

first_length : (now : ℕ) (armed : List PendingTimer) → IsFewer armed (first_due_timer now armed)
first_length now [] = tt
first_length now (x ∷ xs) = first_timer_if_length (nat_le x.at now) x xs (first_due_timer now xs) (first_length now xs)

-- ---- more changes nothing

module _ (d : Directory) (token : List ℕ) where
  done_stays : (more now : ℕ) (w : RunState) → first_due_deadline now w ≡ None → after_due_deadlines d token more now w ≡ w
  done_stays zero now w e = refl
  done_stays (suc more) now w e = ap (λ (o : Option Deadline). after_due_deadlines d token more now (after_deadline_if d token now o w)) e ∙ done_stays more now w e

  after_due_deadlines_more : (n more now : ℕ) (w : RunState) → IsSettled d token n now w → after_due_deadlines d token (n + more) now w ≡ after_due_deadlines d token n now w
  after_due_deadlines_more zero more now w e = let zero_more : zero + more ≡ more = omega arith in rw zero_more (done_stays more now w e)
  after_due_deadlines_more (suc n) more now w e = let one_further : suc n + more ≡ suc (n + more) = omega arith in rw one_further (after_due_deadlines_more n more now (after_one_deadline d token now w) e)

  -- ---- the effect of a timer

  -- the number of ways to proceed that the calls have, plus the numbers of participants and of live subscriptions; and what bounds the timers that output nothing
  abbrev ways_left : RunState → ℕ
  ways_left w = all_ways (calls_in d w).entries + all_seats (conferences_in d w).live + length (subscriptions_in w).live

  abbrev waits : RunState → ℕ
  waits w = total_remaining (live w.actions) + length w.pending_timers

  -- where calls or conferences receive a timer's signal, what waits and the ways are unchanged, or the ways are fewer
  abbrev Quietens : RunState → RunState → Type 0
  Quietens v w = ((waits v ≤ waits w) × (ways_left v ≤ ways_left w)) ⊎ (suc (ways_left v) ≤ ways_left w)

  -- the calls, and the state, once a signal was received and before any command is executed
  abbrev moved_by : ℕ → Signal → RunState → TableStep
  moved_by at x w = step_on_receive_after (call_config d) w.call_ops (received_now token at x w)

  abbrev received_in : ℕ → Signal → RunState → RunState
  received_in at x w = record w {
    call_ops = Drops (length (moved_by at x w).output.rows) ∷ Receives (received_now token at x w) ∷ w.call_ops;
    drawn = (moved_by at x w).output.tokens.drawn;
    waiting = w.waiting ++ (moved_by at x w).output.rows;
  }

  -- commands change neither
  with_emits_ways : (at : ℕ) (out : List Emit) (v : RunState) → ways_left (with_emits at out v) ≡ ways_left v
  with_emits_ways at out v =
      λ i. all_ways (calls_after d (with_emits_ops at out v i)).entries + all_seats (conferences_after d (with_emits_rooms at out v i)).live + length (boxes.table_after (with_emits_boxes at out v i)).live

  after_call_signal_quietens : (at : ℕ) (x : Signal) (w : RunState) → is_rung x ≡ true → Quietens (after_call_signal d token at x w) w
  after_call_signal_quietens at x w is =
      let view = in_force w.texts w.registrations in
      let drawn : TokensView = record { token = token; drawn = w.drawn } in
      let calls = calls_in d w in
      let left : ways_left (after_call_signal d token at x w) ≡ all_ways (moved_by at x w).entries + all_seats (conferences_in d w).live + length (subscriptions_in w).live =
      with_emits_ways at (moved_by at x w).output.out (received_in at x w) in
      elim (fades (call_config d) at view (next_number calls.opened) x calls.entries (empty_output drawn) is) [
        | inl quiet ↦
            let same : waits (after_call_signal d token at x w) ≡ waits w = ap (λ (out : List Emit). waits (with_emits at out (received_in at x w))) quiet.0 in
            let few : all_ways (moved_by at x w).entries ≤ all_ways calls.entries = quiet.1 in
            inl (omega (arith, same), omega (arith, left, few))
        | inr less ↦
            let few : suc (all_ways (moved_by at x w).entries) ≤ all_ways calls.entries = less in
            inr (omega (arith, left, few))
      ]

  -- the same for conferences
  abbrev room_moved : ℕ → RoomSignal → RunState → tables.TableStep
  room_moved at x w = tables.step_of_signal (conference_config d) at x (conferences_in d w).live (conferences_in d w).abandoned (no_effects (tokens_now token w))

  abbrev received_there : ℕ → RoomSignal → RunState → RunState
  received_there at x w = record w {
    conference_ops = rooms.Drops (length (room_moved at x w).effects.output.rows) ∷ conference_signal_op token at x w ∷ w.conference_ops;
    drawn = (room_moved at x w).effects.output.tokens.drawn;
    waiting = w.waiting ++ (room_moved at x w).effects.output.rows;
  }

  after_conference_signal_quietens : (at : ℕ) (x : RoomSignal) (w : RunState) → is_rung_there x ≡ true → Quietens (after_conference_signal d token at x w) w
  after_conference_signal_quietens at x w is =
      let held = conferences_in d w in
      let left : ways_left (after_conference_signal d token at x w) ≡ all_ways (calls_in d w).entries + all_seats (room_moved at x w).live + length (subscriptions_in w).live =
      with_emits_ways at (room_moved at x w).effects.output.out (received_there at x w) in
      elim (rooms_fade (conference_config d) at held.live held.abandoned (no_effects (tokens_now token w)) x is) [
        | inl quiet ↦
            let same : waits (after_conference_signal d token at x w) ≡ waits w = ap (λ (out : List Emit). waits (with_emits at out (received_there at x w))) quiet.0 in
            let few : all_seats (room_moved at x w).live ≤ all_seats held.live = quiet.1 in
            inl (omega (arith, same), omega (arith, left, few))
        | inr less ↦
            let few : suc (all_seats (room_moved at x w).live) ≤ all_seats held.live = less in
            inr (omega (arith, left, few))
      ]

  -- a NOTIFY without a response outputs nothing
  answered_quietens : (branch : Option (List ℕ)) (code : ℕ) (w : RunState) → Quietens (after_notify_response branch code w) w
  answered_quietens None code w = inl (omega arith, omega arith)
  answered_quietens (Some branch) code w =
      let fewer = table_after_response_fewer branch code (subscriptions_in w) in
      inl (omega arith, omega (arith, fewer))

  -- a subscriber that got its last NOTIFY is no longer subscribed
  table_after_notify_last_quietens : (at : ℕ) (sub : SubNo) (s : Subscription) (w : RunState) → subscription_numbered sub (subscriptions_in w) ≡ Some s → Quietens (after_last_notify d token at sub w) w
  table_after_notify_last_quietens at sub s w e =
      let u : RunState = with_mailbox_op (Notifies sub (next_tag token w)) (with_draws 1 w) in
      let some : peer_of sub (subscriptions_in w) ≡ Some s.leg.dialogue.peer = ap (option_map (λ (x : Subscription). x.leg.dialogue.peer)) e in
      let fewer : suc (length (table_after_end sub (table_after_notify sub (next_tag token w) (subscriptions_in w))).live) ≡ length (subscriptions_in w).live =
      last_fewer sub (next_tag token w) (subscriptions_in w) s e in
      let emits = notify_emits s.leg.dialogue.peer (notify_request d.sip sub true (next_tag token w) at (subscriptions_in w)) in
      let there : after_last_notify d token at sub w ≡ with_mailbox_op (Ends sub) (with_emits at emits u) = ap (λ (o : Option Peer). with_mailbox_op (Ends sub) (after_notify_to_peer d token at sub true o w)) some in
      let calls = with_emits_ops at emits u in
      let seats = with_emits_rooms at emits u in
      let subscribed = with_emits_boxes at emits u in
      let left : ways_left (after_last_notify d token at sub w)
      ≡ all_ways (calls_in d w).entries + all_seats (conferences_in d w).live + length (table_after_end sub (table_after_notify sub (next_tag token w) (subscriptions_in w))).live =
      ap (λ (v : RunState). ways_left v) there
      ∙ (λ i. all_ways (calls_after d (calls i)).entries + all_seats (conferences_after d (seats i)).live + length (table_after_end sub (boxes.table_after (subscribed i))).live) in
      inr (omega (arith, left, fewer))

  due_by_quietens : (at : ℕ) (sub : SubNo) (set : ℕ) (o : Option Subscription) (w : RunState) → subscription_numbered sub (subscriptions_in w) ≡ o
      → Quietens (cond (is_last_set set (option_map (λ (x : Subscription). x.set) o)) (after_last_notify d token at sub w) w) w
  due_by_quietens at sub set None w e = inl (omega arith, omega arith)
  due_by_quietens at sub set (Some s) w e = by (set == s.set)
    where
      by : (b : Bool) → Quietens (cond b (after_last_notify d token at sub w) w) w
      by true = table_after_notify_last_quietens at sub s w e
      by false = inl (omega arith, omega arith)

  box_quietens : (at : ℕ) (sub : SubNo) (set : ℕ) (w : RunState) → Quietens (after_expiry d token at sub set w) w
  box_quietens at sub set w = due_by_quietens at sub set (subscription_numbered sub (subscriptions_in w)) w refl

  after_request_timeout_quietens : (at : ℕ) (branch method : List ℕ) (whose : Owner) (w : RunState) → Quietens (after_request_timeout d token at branch method whose w) w
  after_request_timeout_quietens at branch method OfCalls w = after_call_signal_quietens at (signal.Silent branch method) w refl
  after_request_timeout_quietens at branch method OfSubscriptions w = answered_quietens (behind_cookie branch) 408 w
  after_request_timeout_quietens at branch method OfConferences w = after_conference_signal_quietens at (of_room.Silent branch method) w refl

  table_after_end_quietens : (at : ℕ) (key : TKey) (whose : Owner) (w : RunState) → Quietens (after_transaction_end d token at key whose w) w
  table_after_end_quietens at key OfCalls w = after_call_signal_quietens at (signal.Over key) w refl
  table_after_end_quietens at key OfSubscriptions w = inl (omega arith, omega arith)
  table_after_end_quietens at key OfConferences w = after_conference_signal_quietens at (of_room.Over key) w refl

  after_due_quietens : (x : Due) (w : RunState) → Quietens (after_due d token x w) w
  after_due_quietens (due.Again peer at text) w = inl (omega arith, omega arith)
  after_due_quietens (due.Silent key branch method at) w =
      after_request_timeout_quietens at branch method (owner_of_branch (timed_out_branch branch method) (behind_cookie branch) (calls_in d w).entries (subscriptions_in w)) w
  after_due_quietens (due.Over key at) w = table_after_end_quietens at key (owner_of_key key (calls_in d w).entries) w
  after_due_quietens due.Nothing w = inl (omega arith, omega arith)

  after_service_timer_quietens : (at : ℕ) (x : ServiceTimer) (w : RunState) → Quietens (after_service_timer d token at x w) w
  after_service_timer_quietens at (OfCall call what) w = after_call_signal_quietens at (signal.Due call what) w refl
  after_service_timer_quietens at (OfParticipant room seat what) w = after_conference_signal_quietens at (of_room.Due room seat what) w refl
  after_service_timer_quietens at (OfSubscription sub set) w = box_quietens at sub set w

  -- ---- the timer that fires

  -- fewer wait, or there are fewer ways
  abbrev Falls : RunState → RunState → Type 0
  Falls v w = ((suc (waits v) ≤ waits w) × (ways_left v ≤ ways_left w)) ⊎ (suc (ways_left v) ≤ ways_left w)

  falls_by : (v u w : RunState) → suc (waits u) ≤ waits w → ways_left u ≡ ways_left w → Quietens v u → Falls v w
  falls_by v u w less same (inl quiet) =
      let fewer : waits v ≤ waits u = quiet.0 in
      let few : ways_left v ≤ ways_left u = quiet.1 in
      inl (omega (arith, less, fewer), omega (arith, few, same))
  falls_by v u w less same (inr fewer) = let few : suc (ways_left v) ≤ ways_left u = fewer in inr (omega (arith, few, same))

  -- which one is first
  abbrev IsFirstOf : Option DueEntryView → Option FirstTimer → Option Deadline → Type 0
  IsFirstOf message call None = Unit {0}
  IsFirstOf message call (Some OfTransaction) = (next : DueEntryView) × (message ≡ Some next)
  IsFirstOf message call (Some (OfServiceTimer armed others)) = (first : FirstTimer) × (call ≡ Some first) × (others ≡ first.others)

  either_first : (b : Bool) (next : DueEntryView) (call : FirstTimer) → IsFirstOf (Some next) (Some call) (if b then Some OfTransaction else Some (OfServiceTimer call.first call.others))
  either_first true next call = (next, refl)
  either_first false next call = (call, refl, refl)

  is_first : (message : Option DueEntryView) (call : Option FirstTimer) → IsFirstOf message call (first_deadline message call)
  is_first None None = tt
  is_first (Some next) None = (next, refl)
  is_first None (Some call) = (call, refl, refl)
  is_first (Some next) (Some call) = either_first (comes_before next call.first) next call

  module _ (use_up : FiringsUseUp) (begins : BeginsChangeNothing) where
    begun_left : (w : RunState) → total_remaining (live (with_next_step w).actions) ≡ total_remaining (live w.actions)
    begun_left w = ap total_remaining (begins w.actions w.steps)

    -- a timer of a transaction
    message_falls : (now : ℕ) (w : RunState) (next : DueEntryView) → next_due now (live w.actions) ≡ Some next → Falls (after_deadline d token now OfTransaction w) w
    message_falls now w next is =
        let begun_acts : List TransactionOp = DidBegin w.steps ∷ w.actions in
        let u : RunState = record (with_next_step w) { actions = after_firing begun_acts (next_due now (live begun_acts)) } in
        let first : next_due now (live begun_acts) ≡ Some next = ap (next_due now) (begins w.actions w.steps) ∙ is in
        let fewer : suc (total_remaining (live (after_firing begun_acts (Some next)))) ≤ total_remaining (live begun_acts) = use_up begun_acts now next first in
        let there : total_remaining (live u.actions) ≡ total_remaining (live (after_firing begun_acts (Some next))) = ap (λ (o : Option DueEntryView). total_remaining (live (after_firing begun_acts o))) first in
        let same : total_remaining (live begun_acts) ≡ total_remaining (live w.actions) = begun_left w in
        falls_by (after_deadline d token now OfTransaction w) u w (omega (arith, fewer, there, same)) refl (after_due_quietens (due_result (next_due now (live begun_acts))) u)

    -- one of a call or of a participant
    alarm_falls : (now : ℕ) (armed : PendingTimer) (others : List PendingTimer) (w : RunState) → suc (length others) ≡ length w.pending_timers → Falls (after_deadline d token now (OfServiceTimer armed others) w) w
    alarm_falls now armed others w fewer =
        let u : RunState = record (with_next_step w) { pending_timers = others } in
        let same : total_remaining (live u.actions) ≡ total_remaining (live w.actions) = begun_left w in
        falls_by (after_deadline d token now (OfServiceTimer armed others) w) u w (omega (arith, fewer, same)) refl (after_service_timer_quietens armed.at armed.timer u)

    first_falls : (now : ℕ) (x : Deadline) (w : RunState) → IsFirstOf (next_due now (live w.actions)) (first_due_timer now w.pending_timers) (Some x) → Falls (after_deadline d token now x w) w
    first_falls now OfTransaction w is = message_falls now w is.0 is.1
    first_falls now (OfServiceTimer armed others) w is =
        let fewer : suc (length is.0.others) ≡ length w.pending_timers = subst (IsFewer w.pending_timers) is.1 (first_length now w.pending_timers) in
        alarm_falls now armed others w (ap (λ (l : List PendingTimer). suc (length l)) is.2 ∙ fewer)

    fired_falls : (now : ℕ) (x : Deadline) (w : RunState) → first_due_deadline now w ≡ Some x → Falls (after_deadline d token now x w) w
    fired_falls now x w e = first_falls now x w
        (subst (IsFirstOf (next_due now (live w.actions)) (first_due_timer now w.pending_timers)) e (is_first (next_due now (live w.actions)) (first_due_timer now w.pending_timers)))

    -- ---- enough

    abbrev Settles : ℕ → RunState → Type 0
    Settles now w = (fuel : ℕ) × IsSettled d token fuel now w

    one_more_settles : (now : ℕ) (x : Deadline) (w : RunState) → first_due_deadline now w ≡ Some x → Settles now (after_deadline d token now x w) → Settles now w
    one_more_settles now x w e rest = (suc rest.0, subst (λ (o : Option Deadline). first_due_deadline now (after_due_deadlines d token rest.0 now (after_deadline_if d token now o w)) ≡ None) (sym e) rest.1)

    module _ (most : ℕ) (fewer_settle : (now : ℕ) (w : RunState) → suc (ways_left w) ≤ most → Settles now w) where
      falls_settle : (n now : ℕ) (v w : RunState) → ((u : RunState) → ways_left u ≤ most → suc (waits u) ≤ n → Settles now u) → ways_left w ≤ most → waits w ≤ n → Falls v w → Settles now v
      falls_settle n now v w rest ways few (inl less) =
          let waiting : suc (waits v) ≤ waits w = less.0 in
          let left : ways_left v ≤ ways_left w = less.1 in
          rest v (omega (arith, left, ways)) (omega (arith, waiting, few))
      falls_settle n now v w rest ways few (inr less) = let left : suc (ways_left v) ≤ ways_left w = less in fewer_settle now v (omega (arith, left, ways))

      settles_at : (n now : ℕ) (w : RunState) (o : Option Deadline) → first_due_deadline now w ≡ o → ((u : RunState) → ways_left u ≤ most → suc (waits u) ≤ n → Settles now u) → ways_left w ≤ most →
          waits w ≤ n → Settles now w
      settles_at n now w None e rest ways few = (0, e)
      settles_at n now w (Some x) e rest ways few = one_more_settles now x w e (falls_settle n now (after_deadline d token now x w) w rest ways few (fired_falls now x w e))

      by_waits : (n now : ℕ) (w : RunState) → ways_left w ≤ most → waits w ≤ n → Settles now w
      by_waits zero now w ways few = settles_at zero now w (first_due_deadline now w) refl (λ u left none. absurd (omega (arith, none))) ways few
      by_waits (suc n) now w ways few = settles_at (suc n) now w (first_due_deadline now w) refl (λ u left less. by_waits n now u left (omega (arith, less))) ways few

    by_ways : (most now : ℕ) (w : RunState) → ways_left w ≤ most → Settles now w
    by_ways zero now w ways = by_waits zero (λ now w none. absurd (omega (arith, none))) (waits w) now w ways (omega arith)
    by_ways (suc most) now w ways = by_waits (suc most) (λ now w fewer. by_ways most now w (omega (arith, fewer))) (waits w) now w ways (omega arith)

    settles : (now : ℕ) (w : RunState) → Settles now w
    settles now w = by_ways (ways_left w) now w (omega arith)

  -- ---- whole runs

  more_one : (n more : ℕ) (x : TimedEvent) (w : RunState) → IsSettled d token n (clock_at w x.at) w → after_event_in_order d token (n + more) x w ≡ after_event_in_order d token n x w
  more_one n more x w e = ap (after_event d token (clock_at w x.at) x.parsed x.accepted) (after_due_deadlines_more n more (clock_at w x.at) w e)

  enough_more : (n more : ℕ) (xs : List TimedEvent) (w : RunState) → IsEnoughAfter d token n xs w → IsEnoughAfter d token (n + more) xs w
  enough_more n more [] w e = e
  enough_more n more (x ∷ xs) w e = (
    ap (first_due_deadline (clock_at w x.at)) (after_due_deadlines_more n more (clock_at w x.at) w e.0) ∙ e.0,
    subst (λ (u : RunState). IsEnoughAfter d token (n + more) xs u) (sym (more_one n more x w e.0)) (enough_more n more xs (after_event_in_order d token n x w) e.1),
  )

  after_events_more : (n more : ℕ) (xs : List TimedEvent) (w : RunState) → IsEnoughAfter d token n xs w → after_events d token (n + more) xs w ≡ after_events d token n xs w
  after_events_more n more [] w e = refl
  after_events_more n more (x ∷ xs) w e =
      ap (after_events d token (n + more) xs) (more_one n more x w e.0)
      ∙ after_events_more n more xs (after_event_in_order d token n x w) e.1

  module _ (use_up : FiringsUseUp) (begins : BeginsChangeNothing) where
    enough_after : (xs : List TimedEvent) (w : RunState) → (fuel : ℕ) × IsEnoughAfter d token fuel xs w
    enough_after [] w = (0, tt)
    enough_after (x ∷ xs) w =
        let some = settles use_up begins (clock_at w x.at) w in
        let n : ℕ = some.0 in
        let first : IsSettled d token n (clock_at w x.at) w = some.1 in
        let rest = enough_after xs (after_event_in_order d token n x w) in
        let turned : rest.0 + n ≡ n + rest.0 = omega arith in (
          n + rest.0,
          (
            ap (first_due_deadline (clock_at w x.at)) (after_due_deadlines_more n rest.0 (clock_at w x.at) w first) ∙ first,
            subst (λ (u : RunState). IsEnoughAfter d token (n + rest.0) xs u) (sym (more_one n rest.0 x w first))
                (subst (λ (k : ℕ). IsEnoughAfter d token k xs (after_event_in_order d token n x w)) turned (enough_more rest.0 n xs (after_event_in_order d token n x w) rest.1)),
          ),
        )

pub always : FiringsUseUp → BeginsChangeNothing → GivesAlways
always use_up begins d token loaded recorded = enough_after d token use_up begins (timed_events d recorded) (initial_state loaded)

-- more of them do not change what was done
pub same_world : (d : Directory) (token : List ℕ) (loaded : Texts) (recorded : List EventRecord) (fuel more : ℕ) → IsEnough d token loaded fuel recorded
    → state_after d token loaded (fuel + more) recorded ≡ state_after d token loaded fuel recorded
same_world d token loaded recorded fuel more e = after_events_more d token fuel more (timed_events d recorded) (initial_state loaded) e

pub more_changes_nothing : MoreChangesNothing
more_changes_nothing d token loaded recorded fuel more e = ap (λ (w : RunState). w.offers) (same_world d token loaded recorded fuel more e)

pub once : GivesOnce
once d token loaded recorded offers others g h =
    let turned : g.fuel + h.fuel ≡ h.fuel + g.fuel = omega arith in
    g.exact ∙ (sym (more_changes_nothing d token loaded recorded g.fuel h.fuel g.enough)
    ∙ (ap (λ (k : ℕ). offers_of_run d token loaded k recorded) turned
    ∙ (more_changes_nothing d token loaded recorded h.fuel g.fuel h.enough ∙ sym h.exact)))
