-- A request that gets no response: for each peer, message and moment.
use Rattle.std.proofs.Common.{◌≡◌, ℕ, suc, ◌+◌, ◌≤◌, List, [], ◌∷◌, ◌++◌, length, map, refl, true, false, arith, Bool, sym, ap, ◌∙◌, cond}
use Rattle.std.specs.Prelude.{nat_le, Option, Some, None, is_some, option_map, slice_get}
use Rattle.std.specs.Option.{option_or}
use Rattle.std.proofs.lemmas.Bool.Decides.{nat_tests}
use Rattle.std.proofs.lemmas.Bool.{eq-eqb}
use Rattle.mmtel_types.specs.declared.numbers.Peer.{Peer}
use Rattle.mmtel_message.specs.Message.{Message}
use Rattle.mmtel_message.specs.Texts.{message_text}
use Rattle.mmtel_message.specs.declared.messages.Start.{Start}
use Rattle.mmtel_timers.specs.Schedules.{moments_of}
use Rattle.mmtel_timers.specs.declared.schedules.Schedule.TheVariants as schedule
use Rattle.mmtel_transaction.specs.Heads.{head_of, is_invite}
use Rattle.mmtel_transaction.specs.Deadlines.{scheduled_moment, retransmission_by, last_deadline_by, retransmission_at, deadline, is_ending, is_untimed}
use Rattle.mmtel_transaction.specs.Changes.{after_timer, new_client_entry}
use Rattle.mmtel_transaction.specs.Operations.{TransactionOp, DidAsk, DidFire, is_live, live, send_count, openings, step_of}
use Rattle.mmtel_transaction.specs.Results.{DueEntryView, next_due, due_one, sooner, due_result, after_firing, retransmitted_text, state_text, tkey}
use Rattle.mmtel_transaction.specs.Table.{table_after_change}
use Rattle.mmtel_transaction.specs.Theorems.{TimesOutAfter, results_in_turn, retransmission}
use Rattle.mmtel_transaction.specs.declared.entries.State.{State}
use Rattle.mmtel_transaction.specs.declared.entries.State.TheVariants.{Calling, Trying}
use Rattle.mmtel_transaction.specs.declared.entries.Entry.{Entry}
use Rattle.mmtel_transaction.specs.declared.words.Due.TheVariants as due
use Rattle.mmtel_transaction.proofs.Foremost.{after_state_timer_by, busy_fired, busy_resend, busy_text, fired_over}
use Rattle.mmtel_transaction.proofs.Representation.{live_hit, live_new}

only : (now at : ℕ) (e : Entry) → deadline e ≡ Some at → nat_le at now ≡ true → next_due now (e ∷ []) ≡ Some (record { at = at; entry = e })
only now at e d l = ap (λ o. sooner o None) (ap (due_one now e) d ∙ ap (λ b. cond b (Some (let r : DueEntryView = record { at = at; entry = e } in r)) None) l)

settle_one : (e x : Entry) (f : Entry → Entry) → f e ≡ x → is_live x ≡ true → table_after_change e.key f (e ∷ []) ≡ x ∷ []
settle_one e x f q l = rw (eq-eqb e.key e.key refl, q, l) refl

settle_gone : (e x : Entry) (f : Entry → Entry) → f e ≡ x → is_live x ≡ false → table_after_change e.key f (e ∷ []) ≡ []
settle_gone e x f q l = rw (eq-eqb e.key e.key refl, q, l) refl

-- one transaction alone, whose deadline is due
pub dues_one : (n now at : ℕ) (h : List TransactionOp) (e : Entry) → live h ≡ e ∷ [] → deadline e ≡ Some at → nat_le at now ≡ true →
    results_in_turn (suc n) now h ≡ due_result (Some (record { at = at; entry = e })) ∷ results_in_turn n now (DidFire e.key ∷ h)
unfolding results_in_turn
dues_one n now at h e l d p = ap (λ o. due_result o ∷ results_in_turn n now (after_firing h o)) (ap (next_due now) l ∙ only now at e d p)

-- nothing remains
dues_last : (now : ℕ) (h : List TransactionOp) → live h ≡ [] → results_in_turn 1 now h ≡ due.Nothing ∷ []
unfolding results_in_turn
dues_last now h l = ap (λ es. due_result (next_due now es) ∷ []) l

fired_live : (h : List TransactionOp) (e : Entry) → live h ≡ e ∷ [] → live (DidFire e.key ∷ h) ≡ table_after_change e.key (after_timer (step_of h)) (e ∷ [])
fired_live h e l = live_hit (DidFire e.key) h e.key (after_timer (step_of h)) (λ y. refl) refl ∙ ap (table_after_change e.key (after_timer (step_of h))) l

pub live_one : (h : List TransactionOp) (e x : Entry) → live h ≡ e ∷ [] → after_timer (step_of h) e ≡ x → is_live x ≡ true → live (DidFire e.key ∷ h) ≡ x ∷ []
live_one h e x l q v = fired_live h e l ∙ settle_one e x (after_timer (step_of h)) q v

pub live_none : (h : List TransactionOp) (e x : Entry) → live h ≡ e ∷ [] → after_timer (step_of h) e ≡ x → is_live x ≡ false → live (DidFire e.key ∷ h) ≡ []
live_none h e x l q v = fired_live h e l ∙ settle_gone e x (after_timer (step_of h)) q v

-- the result of a deadline, by whether the message is retransmitted
says_again : (n : DueEntryView) (x : ℕ) → is_untimed n.entry.state ≡ false → retransmission_at n.entry ≡ Some x → due_result (Some n) ≡ due.Again n.entry.peer n.at (state_text n.entry)
says_again n x b q =
    ap (λ o. cond (is_some o) (due.Again n.entry.peer n.at (retransmitted_text n.entry))
    (cond (is_ending n.entry.state) (due.Over (tkey n.entry.key) n.at) (due.Silent (tkey n.entry.key) n.entry.head.branch n.entry.head.method n.at))) q
    ∙ ap (due.Again n.entry.peer n.at) (busy_text n.entry b)

says_silent : (n : DueEntryView) → retransmission_at n.entry ≡ None → is_ending n.entry.state ≡ false → due_result (Some n) ≡ due.Silent (tkey n.entry.key) n.entry.head.branch n.entry.head.method n.at
says_silent n q e =
    ap (λ o. cond (is_some o) (due.Again n.entry.peer n.at (retransmitted_text n.entry))
    (cond (is_ending n.entry.state) (due.Over (tkey n.entry.key) n.at) (due.Silent (tkey n.entry.key) n.entry.head.branch n.entry.head.method n.at))) q
    ∙ ap (λ b. cond b (due.Over (tkey n.entry.key) n.at) (due.Silent (tkey n.entry.key) n.entry.head.branch n.entry.head.method n.at)) e

fired_again : (s x : ℕ) (e : Entry) → is_untimed e.state ≡ false → retransmission_at e ≡ Some x → after_timer s e ≡ record e { retransmissions = e.retransmissions + 1; step = s }
fired_again s x e b q = busy_fired e s b ∙ ap (λ o. after_state_timer_by o s e) (sym (busy_resend e b) ∙ q)

abbrev AreWithin : List ℕ → Type 0
AreWithin [] = Unit {0}
AreWithin (d ∷ ds) = (d ≤ 32000) × AreWithin ds

past : (a b c : ℕ) → a + 32000 ≤ c → b ≤ 32000 → nat_le (a + b) c ≡ true
past a b c l m = grind (arith, nat_tests)

-- a request that was sent, in this state, after so many times
abbrev waiting : ℕ → ℕ → ℕ → Peer → Message Start → ℕ → State → ℕ → Entry
waiting s i key p m t plan k = record (new_client_entry s i key p (head_of m) (message_text m) t) { state = plan; retransmissions = k }

module _ (step i key : ℕ) (p : Peer) (m : Message Start) (t now : ℕ) (plan : State) (moments : List ℕ) (l : t + 32000 ≤ now) (r : (k : ℕ) → retransmission_by plan t t k ≡ scheduled_moment t moments k)
    (z : last_deadline_by plan t t ≡ Some (t + 32000)) (g : is_ending plan ≡ false) (busy : is_untimed plan ≡ false) where
  resend : (k : ℕ) (o : Option ℕ) → slice_get moments k ≡ o → retransmission_at (waiting step i key p m t plan k) ≡ option_map (λ d. t + d) o
  resend k o q = busy_resend (waiting step i key p m t plan k) busy ∙ (r k ∙ ap (option_map (λ d. t + d)) q)

  due_then : (k : ℕ) (o : Option ℕ) → slice_get moments k ≡ o → deadline (waiting step i key p m t plan k) ≡ option_or (option_map (λ d. t + d) o) (Some (t + 32000))
  due_then k o q = ap (λ x. option_or x (last_deadline_by plan t t)) (resend k o q) ∙ ap (option_or (option_map (λ d. t + d) o)) z

  first_of : (k : ℕ) (ds : List ℕ) → ((j : ℕ) → slice_get moments (k + j) ≡ slice_get ds j) → slice_get moments k ≡ slice_get ds 0
  first_of k ds q = ap (slice_get moments) (let a : k ≡ k + 0 = omega arith in a) ∙ q 0

  pub rest : (k : ℕ) (ds : List ℕ) (h : List TransactionOp) → step_of h ≡ step → live h ≡ waiting step i key p m t plan k ∷ [] → ((j : ℕ) → slice_get moments (k + j) ≡ slice_get ds j) → AreWithin ds →
      results_in_turn (length ds + 2) now h ≡ map (retransmission p m t) ds ++ due.Silent (tkey key) (head_of m).branch (head_of m).method (t + 32000) ∷ due.Nothing ∷ []
  rest k [] h s e q w =
      dues_one 1 now (t + 32000) h (waiting step i key p m t plan k) e (due_then k None (first_of k [] q)) (past t 32000 now l (omega arith))
      ∙ (ap (λ x. x ∷ results_in_turn 1 now (DidFire key ∷ h)) (says_silent (record { at = t + 32000; entry = waiting step i key p m t plan k }) (resend k None (first_of k [] q)) g)
      ∙ ap (λ xs. due.Silent (tkey key) (head_of m).branch (head_of m).method (t + 32000) ∷ xs) (dues_last now (DidFire key ∷ h) (live_none h (waiting step i key p m t plan k)
      (record (waiting step i key p m t plan k) { is_terminated = true }) e (fired_over (waiting step i key p m t plan k) (step_of h) (resend k None (first_of k [] q))) refl)))
  rest k (d ∷ ds) h s e q w =
      ap (λ n. results_in_turn n now h) (let a : length (d ∷ ds) + 2 ≡ suc (length ds + 2) = omega arith in a)
      ∙ (dues_one (length ds + 2) now (t + d) h (waiting step i key p m t plan k) e (due_then k (Some d) (first_of k (d ∷ ds) q)) (past t d now l w.0)
      ∙ (ap (λ x. x ∷ results_in_turn (length ds + 2) now (DidFire key ∷ h)) (says_again (record { at = t + d; entry = waiting step i key p m t plan k }) (t + d) busy (resend k (Some d) (first_of k (d ∷ ds) q)))
      ∙ ap (λ xs. retransmission p m t d ∷ xs) (rest (k + 1) ds (DidFire key ∷ h) s
      (live_one h (waiting step i key p m t plan k) (waiting step i key p m t plan (k + 1)) e (fired_again (step_of h) (t + d) (waiting step i key p m t plan k) busy
      (resend k (Some d) (first_of k (d ∷ ds) q)) ∙ ap (λ x. let e : Entry = record (waiting step i key p m t plan (k + 1)) { step = x } in e) s) refl)
      (λ j. ap (slice_get moments) (let a : (k + 1) + j ≡ k + suc j = omega arith in a) ∙ q (suc j))
      w.1)))

-- it is sent where no transaction is live
asked_alone : (h : List TransactionOp) (p : Peer) (m : Message Start) (t : ℕ) (b : Bool) → live h ≡ [] → is_invite (head_of m) ≡ b →
    live (DidAsk p m t ∷ h) ≡ waiting (step_of h) (send_count h) (length (openings h)) p m t (cond b Calling Trying) 0 ∷ []
asked_alone h p m t b l q =
    let e : Entry = new_client_entry (step_of h) (send_count h) (length (openings h)) p (head_of m) (message_text m) t in
    live_new (DidAsk p m t) h (λ x. refl) ∙ (ap (λ xs. xs ++ e ∷ []) l ∙ ap (λ b. (let x : Entry = record e { state = cond b Calling Trying } in x) ∷ []) q)

pub invite_times_out : (p : Peer) (m : Message Start) (t : ℕ) → is_invite (head_of m) ≡ true → TimesOutAfter (moments_of schedule.Invite) p m t
invite_times_out p m t i h now l le =
    rest (step_of h) (send_count h) (length (openings h)) p m t now Calling (moments_of schedule.Invite) le (λ k. refl) refl refl refl 0 (moments_of schedule.Invite) (DidAsk p m t ∷ h) refl
    (asked_alone h p m t true l i)
    (λ j. ap (slice_get (moments_of schedule.Invite)) (let a : 0 + j ≡ j = omega arith in a))
    (omega arith, (omega arith, (omega arith, (omega arith, (omega arith, (omega arith, tt))))))

pub other_times_out : (p : Peer) (m : Message Start) (t : ℕ) → is_invite (head_of m) ≡ false → TimesOutAfter (moments_of schedule.Other) p m t
other_times_out p m t i h now l le =
    rest (step_of h) (send_count h) (length (openings h)) p m t now Trying (moments_of schedule.Other) le (λ k. refl) refl refl refl 0 (moments_of schedule.Other) (DidAsk p m t ∷ h) refl
    (asked_alone h p m t false l i)
    (λ j. ap (slice_get (moments_of schedule.Other)) (let a : 0 + j ≡ j = omega arith in a))
    (omega arith, (omega arith, (omega arith, (omega arith, (omega arith, (omega arith, (omega arith, (omega arith, (omega arith, (omega arith, tt))))))))))
