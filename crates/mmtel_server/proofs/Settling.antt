-- Timers that fire: how many firings are enough, and that firings only add.
use Rattle.std.proofs.Common.{◌≡◌, ℕ, zero, suc, ◌+◌, ◌≤◌, List, [], ◌∷◌, length, refl, sym, ap, ◌∙◌, arith, append-nil, Option, Some, None, subst}
use Rattle.mmtel_b2bua.specs.Operations.{Receives}
use Rattle.mmtel_b2bua.specs.declared.signals.Signal.{Signal}
use Rattle.mmtel_b2bua.specs.declared.signals.Signal.TheVariants as signal
use Rattle.mmtel_output.specs.ResponseMatching.{behind_cookie, timed_out_branch}
use Rattle.mmtel_directory.specs.declared.directories.Directory.{Directory}
use Rattle.mmtel_focus.specs.declared.signals.RoomSignal.{RoomSignal}
use Rattle.mmtel_focus.specs.declared.signals.RoomSignal.TheVariants as of_room
use Rattle.mmtel_environment.specs.declared.events.Offer.TheVariants as offer
use Rattle.mmtel_run_definitions.specs.Deadlines.{Deadline, OfCall, OfParticipant, OfServiceTimer, OfSubscription, OfTransaction, PendingTimer, ServiceTimer}
use Rattle.mmtel_run_definitions.specs.Ownership.{OfSubscriptions, OfCalls, OfConferences, Owner, owner_of_key, owner_of_branch}
use Rattle.mmtel_run_definitions.specs.Run.{IsSettled, after_deadline_if, after_due_deadlines, after_one_deadline, first_due_deadline}
use Rattle.mmtel_run_definitions.proofs.MailboxTransitions as boxes
use Rattle.mmtel_run_definitions.specs.Transitions.{RunState, subscriptions_in, after_service_timer, with_next_step, calls_in, output_of_conference_op, with_emit, with_emits, after_transaction_end, after_deadline}
use Rattle.mmtel_run_definitions.specs.Transitions.{after_transaction_timer, conference_signal_op, received_now, after_due, after_conference_signal, after_call_signal, after_request_timeout, after_first_service_timer}
use Rattle.mmtel_transaction.specs.Results.{DueEntryView, after_firing, due_result, next_due}
use Rattle.mmtel_transaction.specs.Operations.{TransactionOp, live}
use Rattle.mmtel_transaction.specs.declared.words.Due.{Due}
use Rattle.mmtel_transaction.specs.declared.words.Due.TheVariants as due
use Rattle.mmtel_transaction.specs.declared.words.Emit.{Emit}
use Rattle.mmtel_transaction.specs.declared.words.Emit.TheVariants as emit
use Rattle.mmtel_transaction.specs.declared.words.TKey.{TKey}
use Rattle.mmtel_server.proofs.Grows.{Grows, acts_more, adds, begins, draws, grows_on, grows_on_signal, grows_with_emits, grows_with_mailbox_op, grows_with_response, grows_with_timer, same, seats}
use Rattle.mmtel_server.specs.Follows.{NumbersNeverFall, after_call_operation, after_conference_draw, output_of_signal}

fires_more : (o : Option DueEntryView) (h : List TransactionOp) → length h ≤ length (after_firing h o)
fires_more None h = omega arith
fires_more (Some n) h = omega arith

-- ---- a firing is one step

emit_steps : (at : ℕ) (e : Emit) (w : RunState) → (with_emit at e w).steps ≡ w.steps
emit_steps at (emit.Ask peer m) w = refl
emit_steps at (emit.Reply key m) w = refl
emit_steps at (emit.Plain peer text) w = refl
emit_steps at (emit.Ack key m) w = refl
emit_steps at (emit.Settled key own) w = refl
emit_steps at (emit.Arm call what when) w = refl
emit_steps at (emit.ArmSeat room seat what when) w = refl

emits_steps : (at : ℕ) (es : List Emit) (w : RunState) → (with_emits at es w).steps ≡ w.steps
emits_steps at [] w = refl
emits_steps at (e ∷ es) w = emits_steps at es (with_emit at e w) ∙ emit_steps at e w

-- the count of steps is unchanged
abbrev StepsStay : RunState → RunState → Type 0
StepsStay v w = w.steps ≡ v.steps

then_steps : (u v w : RunState) → StepsStay u v → StepsStay v w → StepsStay u w
then_steps u v w a b = b ∙ a

module _ (d : Directory) (token : List ℕ) where
  signal_steps : (at : ℕ) (x : Signal) (w : RunState) → (after_call_signal d token at x w).steps ≡ w.steps
  signal_steps at x w = emits_steps at (output_of_signal d token at x w).out (after_call_operation (Receives (received_now token at x w)) (output_of_signal d token at x w) w)

  seat_steps : (at : ℕ) (x : RoomSignal) (w : RunState) → (after_conference_signal d token at x w).steps ≡ w.steps
  seat_steps at x w =
      let op = conference_signal_op token at x w in
      emits_steps at (output_of_conference_op d op w).out (after_conference_draw op (output_of_conference_op d op w) w)

  silenced_steps : (at : ℕ) (branch method : List ℕ) (whose : Owner) (w : RunState) → (after_request_timeout d token at branch method whose w).steps ≡ w.steps
  silenced_steps at branch method OfCalls w = signal_steps at (signal.Silent branch method) w
  silenced_steps at branch method OfSubscriptions w = boxes.answered StepsStay then_steps (λ v. refl) (λ op v. refl) (behind_cookie branch) 408 w
  silenced_steps at branch method OfConferences w = seat_steps at (of_room.Silent branch method) w

  ended_steps : (at : ℕ) (key : TKey) (whose : Owner) (w : RunState) → (after_transaction_end d token at key whose w).steps ≡ w.steps
  ended_steps at key OfCalls w = signal_steps at (signal.Over key) w
  ended_steps at key OfSubscriptions w = refl
  ended_steps at key OfConferences w = seat_steps at (of_room.Over key) w

  rung_steps : (x : Due) (w : RunState) → (after_due d token x w).steps ≡ w.steps
  rung_steps (due.Again peer at text) w = refl
  rung_steps (due.Silent key branch method at) w = silenced_steps at branch method (owner_of_branch (timed_out_branch branch method) (behind_cookie branch) (calls_in d w).entries (subscriptions_in w)) w
  rung_steps (due.Over key at) w = ended_steps at key (owner_of_key key (calls_in d w).entries) w
  rung_steps due.Nothing w = refl

  alarmed_steps : (at : ℕ) (x : ServiceTimer) (w : RunState) → (after_service_timer d token at x w).steps ≡ w.steps
  alarmed_steps at (OfCall call what) w = signal_steps at (signal.Due call what) w
  alarmed_steps at (OfParticipant room seat what) w = seat_steps at (of_room.Due room seat what) w
  alarmed_steps at (OfSubscription sub set) w =
      boxes.ends StepsStay then_steps (λ v. refl) (λ op v. refl) d token at (λ v. refl) (emits_steps at) (λ armed v. refl) (λ k m answer v. refl) sub set w

  pub fired_steps : (now : ℕ) (x : Deadline) (w : RunState) → (after_deadline d token now x w).steps ≡ w.steps + 1
  fired_steps now OfTransaction w =
      let next = next_due now (live (with_next_step w).actions) in
      rung_steps (due_result next) (record (with_next_step w) { actions = after_firing (with_next_step w).actions next })
  fired_steps now (OfServiceTimer armed others) w = alarmed_steps armed.at armed.timer (record (with_next_step w) { pending_timers = others })

  -- ---- so many are enough

  done_stays : (n now : ℕ) (w : RunState) → first_due_deadline now w ≡ None → after_due_deadlines d token n now w ≡ w
  done_stays zero now w e = refl
  done_stays (suc n) now w e = ap (λ (o : Option Deadline). after_due_deadlines d token n now (after_deadline_if d token now o w)) e ∙ done_stays n now w e

  -- two counts that are enough lead to the same state
  pub enough_same : (n m now : ℕ) (w : RunState) → IsSettled d token n now w → IsSettled d token m now w → after_due_deadlines d token n now w ≡ after_due_deadlines d token m now w
  enough_same zero m now w e f = sym (done_stays m now w e)
  enough_same (suc n) zero now w e f = done_stays (suc n) now w f
  enough_same (suc n) (suc m) now w e f = enough_same n m now (after_one_deadline d token now w) e f

  -- one firing more is the last one
  pub settled_last : (i now : ℕ) (w : RunState) → after_due_deadlines d token (i + 1) now w ≡ after_one_deadline d token now (after_due_deadlines d token i now w)
  settled_last zero now w = refl
  settled_last (suc i) now w = let e : suc i + 1 ≡ suc (i + 1) = omega arith in rw e (settled_last i now (after_one_deadline d token now w))

  -- ---- firings only add

  module _ (law : NumbersNeverFall) where
    pub silences : (at : ℕ) (branch method : List ℕ) (whose : Owner) (w : RunState) → Grows w (after_request_timeout d token at branch method whose w)
    silences at branch method OfCalls w = grows_on_signal law d token at (signal.Silent branch method) w
    silences at branch method OfSubscriptions w = boxes.answered Grows grows_on same grows_with_mailbox_op (behind_cookie branch) 408 w
    silences at branch method OfConferences w = seats law d token at (of_room.Silent branch method) w

    pub ends_one : (at : ℕ) (key : TKey) (whose : Owner) (w : RunState) → Grows w (after_transaction_end d token at key whose w)
    ends_one at key OfCalls w = grows_on_signal law d token at (signal.Over key) w
    ends_one at key OfSubscriptions w = same w
    ends_one at key OfConferences w = seats law d token at (of_room.Over key) w

    pub rings : (x : Due) (w : RunState) → Grows w (after_due d token x w)
    rings (due.Again peer at text) w = adds (offer.To peer at text ∷ []) w
    rings (due.Silent key branch method at) w = silences at branch method (owner_of_branch (timed_out_branch branch method) (behind_cookie branch) (calls_in d w).entries (subscriptions_in w)) w
    rings (due.Over key at) w = ends_one at key (owner_of_key key (calls_in d w).entries) w
    rings due.Nothing w = same w

    pub alarms : (at : ℕ) (x : ServiceTimer) (w : RunState) → Grows w (after_service_timer d token at x w)
    alarms at (OfCall call what) w = grows_on_signal law d token at (signal.Due call what) w
    alarms at (OfParticipant room seat what) w = seats law d token at (of_room.Due room seat what) w
    alarms at (OfSubscription sub set) w = boxes.ends Grows grows_on same grows_with_mailbox_op d token at (draws 1) (grows_with_emits at) grows_with_timer (grows_with_response d token at) sub set w

    pub fires_in : (now : ℕ) (w : RunState) → Grows w (after_transaction_timer d token now w)
    fires_in now w =
        let next = next_due now (live w.actions) in
        let fewer : RunState = record w { actions = after_firing w.actions next } in
        grows_on w fewer (after_transaction_timer d token now w) (acts_more (after_firing w.actions next) w (fires_more next w.actions)) (rings (due_result next) fewer)

    pub strikes : (armed : PendingTimer) (others : List PendingTimer) (w : RunState) → Grows w (after_first_service_timer d token armed others w)
    strikes armed others w =
        let fewer : RunState = record w { pending_timers = others } in
        let first : Grows w fewer = record { acts = omega arith; steps = omega arith; drawn = λ less. omega arith; front = ([], append-nil w.offers) } in
        grows_on w fewer (after_first_service_timer d token armed others w) first (alarms armed.at armed.timer fewer)

    pub fires_next : (now : ℕ) (x : Deadline) (w : RunState) → Grows w (after_deadline d token now x w)
    fires_next now OfTransaction w = grows_on w (with_next_step w) (after_deadline d token now OfTransaction w) (begins w) (fires_in now (with_next_step w))
    fires_next now (OfServiceTimer armed others) w = grows_on w (with_next_step w) (after_deadline d token now (OfServiceTimer armed others) w) (begins w) (strikes armed others (with_next_step w))

    fires_if : (now : ℕ) (o : Option Deadline) (w : RunState) → Grows w (after_deadline_if d token now o w)
    fires_if now None w = same w
    fires_if now (Some x) w = fires_next now x w

    pub settles : (n now : ℕ) (w : RunState) → Grows w (after_due_deadlines d token n now w)
    settles zero now w = same w
    settles (suc n) now w = grows_on w (after_one_deadline d token now w) (after_due_deadlines d token n now (after_one_deadline d token now w)) (fires_if now (first_due_deadline now w) w)
        (settles n now (after_one_deadline d token now w))

    -- no count is greater than one that is enough
    pub never_longer : (i fuel now : ℕ) (w : RunState) → IsSettled d token fuel now w → Grows (after_due_deadlines d token i now w) (after_due_deadlines d token fuel now w)
    never_longer zero fuel now w e = settles fuel now w
    never_longer (suc i) zero now w e = subst (λ (v : RunState). Grows v w) (sym (done_stays (suc i) now w e)) (same w)
    never_longer (suc i) (suc fuel) now w e = never_longer i fuel now (after_one_deadline d token now w) e
