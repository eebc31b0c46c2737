-- One transaction among others follows its closed list of moments.
use Rattle.std.proofs.Common.{◌≡◌, ℕ, zero, suc, ◌+◌, ◌≤◌, ◌<◌, List, [], ◌∷◌, ◌++◌, length, map, refl, true, false, Bool, not, ◌&&◌, ◌⊎◌, inl, inr, sym, ap, ◌∙◌, arith, cond, subst}
use Rattle.std.specs.Prelude.{Option, Some, None, ◌==◌, is_some, option_map, slice_get}
use Rattle.std.specs.Option.{option_or}
use Rattle.std.specs.List.{find, list_any}
use Rattle.std.specs.Str.{bytes_eq}
use Rattle.std.proofs.lemmas.Bool.{both_ways, eq-eqb, eqb-false, eqb-true, false_from_ne_true, ne_eqb, not-true, or_parts}
use Rattle.std.proofs.lemmas.Option.{none-some, same_Some}
use Rattle.mmtel_types.specs.declared.numbers.Peer.{Peer}
use Rattle.mmtel_message.specs.Message.{Message}
use Rattle.mmtel_message.specs.Texts.{message_text}
use Rattle.mmtel_message.specs.declared.messages.Start.{Start}
use Rattle.mmtel_timers.specs.Schedules.{moments_of}
use Rattle.mmtel_timers.specs.declared.schedules.Schedule.TheVariants as schedule
use Rattle.mmtel_transaction.specs.declared.heads.Head.{Head}
use Rattle.mmtel_transaction.specs.declared.entries.Entry.{Entry}
use Rattle.mmtel_transaction.specs.declared.entries.State.TheVariants.{Proceeding, Calling, Trying, SlowProceeding, Completed, Absorbing}
use Rattle.mmtel_transaction.specs.declared.entries.ReliableResponse.{ReliableResponse}
use Rattle.mmtel_transaction.specs.declared.message_class.MessageClass.{MessageClass}
use Rattle.mmtel_transaction.specs.declared.message_class.MessageClass.TheVariants as part
use Rattle.mmtel_transaction.specs.declared.words.Due.{Due}
use Rattle.mmtel_transaction.specs.declared.words.Due.TheVariants as due
use Rattle.mmtel_transaction.specs.Heads.{head_of, is_success, is_ack, is_invite, is_provisional, is_refusal, is_same_call}
use Rattle.mmtel_transaction.specs.Deadlines.{deadline, is_ending, is_untimed, last_deadline, last_deadline_by, retransmission_at, retransmission_by, scheduled_moment, state_retransmission_at}
use Rattle.mmtel_transaction.specs.Changes.{after_failure_ack, after_final, after_reply, after_response, after_timer, change_of_key, new_client_entry, reliable_response_of, with_reliable_if}
use Rattle.mmtel_transaction.specs.Operations.{TransactionOp, DidBegin, DidHear, DidAsk, DidReply, DidAck, DidFire, DidSettle, change, is_live, live, send_count, openings, step_of}
use Rattle.mmtel_transaction.specs.Results.{DueEntryView, by_key, class_of, due_result, is_client_of, is_full, is_server_of, next_due, tkey}
use Rattle.mmtel_transaction.specs.Runs.{IsNextOf, IsRun}
use Rattle.mmtel_transaction.specs.Theorems.{retransmission}
use Rattle.mmtel_transaction.specs.Retransmissions.{AwaitsFinal, acknowledges, FinalsAwaitTheirAck, FollowsSchedule, RingingDoesNotTimeOut, UnansweredTimeOut}
use Rattle.mmtel_transaction.specs.Retransmissions.{is_response_class, is_ack_to, is_response_to, is_final_to, request_moments, final_results, request_results, times_fired}
use Rattle.mmtel_transaction.proofs.Lists.{Rising, keeps_change, rising}
use Rattle.mmtel_timers.specs.Shelves.{Has}
use Rattle.mmtel_transaction.proofs.Having.{at_key, found_in, has_live, has_more, has_more_back, has_new, of_key, run_before, same_entry}
use Rattle.mmtel_transaction.proofs.Foremost.{after_state_timer_by, busy_fired, busy_resend, busy_text}
use Rattle.mmtel_transaction.proofs.Order.{is_next, none_due}
use Rattle.mmtel_transaction.proofs.Unchanged.{any_reply_client, any_reply_done, settled_none}
use Rattle.mmtel_transaction.proofs.Ends.{more_opened, none_of, still_ended}
use Rattle.mmtel_transaction.proofs.Acks.{acked_is, final_done, sound}
use Rattle.mmtel_transaction.proofs.Repetition.{answer_if, no_response}
use Rattle.mmtel_transaction.proofs.Settle.{AreBelow, below_at, invites_below, others_below}

-- ---- closed lists

got : (ds : List ℕ) (n d : ℕ) → slice_get ds n ≡ Some d → n < length ds
got [] n d q = absurd (none-some d q)
got (x ∷ ds) zero d q = omega arith
got (x ∷ ds) (suc n) d q = omega (arith, got ds n d q)

not_got : (ds : List ℕ) (n : ℕ) → slice_get ds n ≡ None → length ds ≤ n
not_got [] n q = omega arith
not_got (x ∷ ds) zero q = absurd (none-some x (sym q))
not_got (x ∷ ds) (suc n) q = omega (arith, not_got ds n q)

next_at : (start : ℕ) (ds : List ℕ) (n : ℕ) → n ≤ length ds → Some (option_or (option_map (λ d. start + d) (slice_get ds n)) (Some (start + 32000))) ≡ option_map (λ d. Some (start + d)) (slice_get (ds ++ 32000 ∷ []) n)
next_at start [] zero l = refl
next_at start [] (suc n) l = absurd (omega (arith, l))
next_at start (x ∷ ds) zero l = refl
next_at start (x ∷ ds) (suc n) l = next_at start ds n (omega (arith, l))

past_at : (ds : List ℕ) (n : ℕ) → length ds < n → slice_get (ds ++ 32000 ∷ []) n ≡ None
past_at [] zero l = absurd (omega (arith, l))
past_at [] (suc n) l = refl
past_at (x ∷ ds) zero l = absurd (omega (arith, l))
past_at (x ∷ ds) (suc n) l = past_at ds n (omega (arith, l))

said_at : (f : ℕ → Due) (last : Due) (ds : List ℕ) (n d : ℕ) → slice_get ds n ≡ Some d → slice_get (map f ds ++ last ∷ []) n ≡ Some (f d)
said_at f last [] n d q = absurd (none-some d q)
said_at f last (x ∷ ds) zero d q = ap (λ y. Some (f y)) (same_Some x d q)
said_at f last (x ∷ ds) (suc n) d q = said_at f last ds n d q

said_last : (f : ℕ → Due) (last : Due) (ds : List ℕ) (n : ℕ) → n ≤ length ds → slice_get ds n ≡ None → slice_get (map f ds ++ last ∷ []) n ≡ Some last
said_last f last [] zero l q = refl
said_last f last [] (suc n) l q = absurd (omega (arith, l))
said_last f last (x ∷ ds) zero l q = absurd (none-some x (sym q))
said_last f last (x ∷ ds) (suc n) l q = said_last f last ds n (omega (arith, l)) q

pub run_end : (g h : List TransactionOp) → IsRun (g ++ h) → IsRun h
run_end [] h r = r
run_end (c ∷ g) h r = run_end g h (run_before c (g ++ h) r)

same_if : (b : Bool) (e : Entry) → cond b e e ≡ e
same_if true e = refl
same_if false e = refl

other_way : (j key : ℕ) → (j == key) ≡ false → (key == j) ≡ false
other_way j key q = ne_eqb key j (λ e. eqb-false j key q (sym e))

next_is : (n : DueEntryView) (a : ℕ) (e : Entry) → n.at ≡ a → n.entry ≡ e → n ≡ record { at = a; entry = e }
next_is n a e p q = ap (λ x. (let r : DueEntryView = record { at = x; entry = n.entry } in r)) p ∙ ap (λ x. (let r : DueEntryView = record { at = a; entry = x } in r)) q

top : (lo hi : ℕ) (es : List Entry) → Rising lo es hi → lo ≤ hi
top lo hi [] r = r
top lo hi (e ∷ es) r = omega (arith, r.0, top (suc e.key) hi es r.1)

below : (lo hi : ℕ) (es : List Entry) (e : Entry) → Rising lo es hi → Has e es → e.key < hi
below lo hi [] e r g = absurd g
below lo hi (y ∷ es) e r (inl q) = let k : e.key ≡ y.key = ap (λ (x : Entry). x.key) q in omega (arith, k, top (suc y.key) hi es r.1)
below lo hi (y ∷ es) e r (inr g) = below (suc y.key) hi es e r.1 g

pub live_below : (h : List TransactionOp) (e : Entry) → Has e (live h) → e.key < length (openings h)
live_below h e g = below 0 (length (openings h)) (live h) e (rising h) g

-- a transaction of which so many deadlines fired, the last one in a step
abbrev pub shot : Entry → ℕ → ℕ → Entry
shot b s n = record b { retransmissions = n; step = s }

-- the effect of a firing alone on a transaction
abbrev by_firing : ℕ → TransactionOp → Entry → Entry
by_firing s (DidBegin n) e = e
by_firing s (DidHear p m now t) e = e
by_firing s (DidAsk p m now) e = e
by_firing s (DidReply k m now) e = e
by_firing s (DidAck k m) e = e
by_firing s (DidFire k) e = change_of_key k (after_timer s) e
by_firing s (DidSettle k own) e = e

module _ (key : ℕ) (b : Entry) (moments : List ℕ) (at : b.key ≡ key) (alive : b.is_terminated ≡ false) (busy : is_untimed b.state ≡ false)
    (r : (s n : ℕ) → state_retransmission_at (shot b s n) ≡ scheduled_moment b.start moments n) (z : last_deadline b ≡ Some (b.start + 32000)) where
  -- it is live, and so many fired; or all of them did, and it is no longer live
  abbrev State : ℕ → List TransactionOp → Type 0
  State n h = ((n ≤ length moments) × ((s : ℕ) × Has (shot b s n) (live h))) ⊎ ((length moments < n) × (by_key key (live h) ≡ None))

  lives : (s n : ℕ) → is_live (shot b s n) ≡ true
  lives s n = ap not alive

  fires_again : (t s n d : ℕ) → slice_get moments n ≡ Some d → after_timer t (shot b s n) ≡ shot b t (suc n)
  fires_again t s n d q =
      let w : state_retransmission_at (shot b s n) ≡ Some (b.start + d) = r s n ∙ ap (option_map (λ x. b.start + x)) q in
      busy_fired (shot b s n) t busy ∙ (ap (λ o. after_state_timer_by o t (shot b s n)) w ∙ ap (shot b t) (let a : n + 1 ≡ suc n = omega arith in a))

  fires_last : (t s n : ℕ) → slice_get moments n ≡ None → is_live (after_timer t (shot b s n)) ≡ false
  fires_last t s n q =
      let w : state_retransmission_at (shot b s n) ≡ None = r s n ∙ ap (option_map (λ x. b.start + x)) q in
      ap is_live (busy_fired (shot b s n) t busy) ∙ ap (λ o. is_live (after_state_timer_by o t (shot b s n))) w

  stands : (c : TransactionOp) (h : List TransactionOp) (s t n m : ℕ) → Has (shot b s n) (live h) → change (step_of h) (send_count h) c (shot b s n) ≡ shot b t m → Has (shot b t m) (live (c ∷ h))
  stands c h s t n m g q = subst (λ e. Has e (live (c ∷ h))) q (has_more c h (shot b s n) g (ap is_live q ∙ lives t m))

  gone : (j : ℕ) (h : List TransactionOp) (s n : ℕ) → j ≡ key → Has (shot b s n) (live h) → slice_get moments n ≡ None → by_key key (live (DidFire j ∷ h)) ≡ None
  gone j h s n k g q = none_of (by_key key (live (DidFire j ∷ h))) (λ x f.
      let v = of_key (DidFire j ∷ h) key x f in
      elim (has_more_back (DidFire j) h x v.0) [
        | inl w ↦
            let y : Entry = w.0 in
            let ky : y.key ≡ key = sym ((keeps_change (step_of h) (send_count h) (DidFire j) y).key) ∙ (ap (λ (e : Entry). e.key) (sym w.2) ∙ v.1) in
            let same : y ≡ shot b s n = same_entry h y (shot b s n) w.1 g (ky ∙ sym at) in
            let hits : change_of_key j (after_timer (step_of h)) y ≡ after_timer (step_of h) y = ap (λ t. cond t (after_timer (step_of h) y) y) (eq-eqb y.key j (ky ∙ sym k)) in
            both_ways (is_live x) (ap is_live (w.2 ∙ hits) ∙ (ap (λ e. is_live (after_timer (step_of h) e)) same ∙ fires_last (step_of h) s n q)) (has_live (DidFire j ∷ h) x v.0)
        | inr f ↦ f
      ])

  -- one more deadline fires
  fire_at : (j : ℕ) (h : List TransactionOp) (s n : ℕ) (o : Option ℕ) → slice_get moments n ≡ o → n ≤ length moments → j ≡ key → Has (shot b s n) (live h) → State (suc n) (DidFire j ∷ h)
  fire_at j h s n None q l k g = inr (let w = not_got moments n q in omega (arith, w), gone j h s n k g q)
  fire_at j h s n (Some d) q l k g =
      let hits : change_of_key j (after_timer (step_of h)) (shot b s n) ≡ after_timer (step_of h) (shot b s n) = ap (λ t. cond t (after_timer (step_of h) (shot b s n)) (shot b s n)) (eq-eqb b.key j (at ∙ sym k)) in
      inl (got moments n d q, (step_of h, stands (DidFire j) h s (step_of h) n (suc n) g (hits ∙ fires_again (step_of h) s n d q)))

  fire_if : (t : Bool) (j : ℕ) (h : List TransactionOp) (s n : ℕ) → (j == key) ≡ t → n ≤ length moments → Has (shot b s n) (live h) → State (cond t (suc n) n) (DidFire j ∷ h)
  fire_if true j h s n e l g = fire_at j h s n (slice_get moments n) refl l (eqb-true j key e) g
  fire_if false j h s n e l g =
      let k : (b.key == j) ≡ false = ap (λ x. x == j) at ∙ other_way j key e in
      inl (l, (s, stands (DidFire j) h s s n n g (ap (λ t. cond t (after_timer (step_of h) (shot b s n)) (shot b s n)) k)))

  over_if : (t : Bool) (j n : ℕ) (h : List TransactionOp) → length moments < n → by_key key (live (DidFire j ∷ h)) ≡ None → State (cond t (suc n) n) (DidFire j ∷ h)
  over_if true j n h l q = inr (omega (arith, l), q)
  over_if false j n h l q = inr (l, q)

  -- an operation that changes nothing of it, except where its deadline fires
  abbrev Quiet : TransactionOp → List TransactionOp → Type 0
  Quiet c h = (s n : ℕ) → Has (shot b s n) (live h) → change (step_of h) (send_count h) c (shot b s n) ≡ by_firing (step_of h) c (shot b s n)

  other_more : (c : TransactionOp) (h : List TransactionOp) (n : ℕ) → key < length (openings h) →
      ((s : ℕ) → Has (shot b s n) (live h) → change (step_of h) (send_count h) c (shot b s n) ≡ shot b s n) → State n h → State n (c ∷ h)
  other_more c h n less q (inl w) = inl (w.0, (w.1.0, stands c h w.1.0 w.1.0 n n w.1.1 (q w.1.0 w.1.1)))
  other_more c h n less q (inr w) = inr (w.0, still_ended c h key less w.1)

  more : (c : TransactionOp) (g h : List TransactionOp) → key < length (openings (g ++ h)) → Quiet c (g ++ h) → State (times_fired key g) (g ++ h) → State (times_fired key (c ∷ g)) (c ∷ g ++ h)
  more (DidBegin m) g h less q w = other_more (DidBegin m) (g ++ h) (times_fired key g) less (λ s f. q s (times_fired key g) f) w
  more (DidHear p m now t) g h less q w = other_more (DidHear p m now t) (g ++ h) (times_fired key g) less (λ s f. q s (times_fired key g) f) w
  more (DidAsk p m now) g h less q w = other_more (DidAsk p m now) (g ++ h) (times_fired key g) less (λ s f. q s (times_fired key g) f) w
  more (DidReply j m now) g h less q w = other_more (DidReply j m now) (g ++ h) (times_fired key g) less (λ s f. q s (times_fired key g) f) w
  more (DidAck j m) g h less q w = other_more (DidAck j m) (g ++ h) (times_fired key g) less (λ s f. q s (times_fired key g) f) w
  more (DidSettle j own) g h less q w = other_more (DidSettle j own) (g ++ h) (times_fired key g) less (λ s f. q s (times_fired key g) f) w
  more (DidFire j) g h less q (inl w) = fire_if (j == key) j (g ++ h) w.1.0 (times_fired key g) refl w.0 w.1.1
  more (DidFire j) g h less q (inr w) = over_if (j == key) j (times_fired key g) (g ++ h) w.0 (still_ended (DidFire j) (g ++ h) key less w.1)

  tracked : (loud : TransactionOp → Bool) → ((c : TransactionOp) (h : List TransactionOp) → IsRun (c ∷ h) → loud c ≡ false → Quiet c h) → (g h : List TransactionOp) → IsRun (g ++ h) →
      list_any loud g ≡ false → key < length (openings h) → State 0 h → State (times_fired key g) (g ++ h)
  tracked loud f [] h run quiet less w = w
  tracked loud f (c ∷ g) h run quiet less w =
      let v = or_parts (loud c) (list_any loud g) quiet in
      more c g h (omega (arith, less, more_opened h g)) (f c (g ++ h) run v.0) (tracked loud f g h (run_before c (g ++ h) run) v.1 less w)

  -- so it follows its list
  found : (s n : ℕ) (h : List TransactionOp) → Has (shot b s n) (live h) → by_key key (live h) ≡ Some (shot b s n)
  found s n h g = subst (λ j. by_key j (live h) ≡ Some (shot b s n)) at (at_key h (shot b s n) g)

  deadline_key : (s n : ℕ) (o : Option ℕ) → slice_get moments n ≡ o → deadline (shot b s n) ≡ option_or (option_map (λ d. b.start + d) o) (Some (b.start + 32000))
  deadline_key s n o q = ap (λ x. option_or x (last_deadline b)) (busy_resend (shot b s n) busy ∙ (r s n ∙ ap (option_map (λ d. b.start + d)) q)) ∙ ap (option_or (option_map (λ d. b.start + d) o)) z

  next : (n : ℕ) (h : List TransactionOp) → State n h → option_map deadline (by_key key (live h)) ≡ option_map (λ d. Some (b.start + d)) (slice_get (moments ++ 32000 ∷ []) n)
  next n h (inl w) = ap (option_map deadline) (found w.1.0 n h w.1.1) ∙ (ap (λ x. Some x) (deadline_key w.1.0 n (slice_get moments n) refl) ∙ next_at b.start moments n w.0)
  next n h (inr w) = ap (option_map deadline) w.1 ∙ ap (option_map (λ d. Some (b.start + d))) (sym (past_at moments n w.0))

  module _ (low : AreBelow 32000 moments) where
    not_late : (s n a : ℕ) (o : Option ℕ) → slice_get moments n ≡ o → deadline (shot b s n) ≡ Some a → a ≤ b.start + 32000
    not_late s n a None q d = let w = same_Some (b.start + 32000) a (sym (deadline_key s n None q) ∙ d) in omega (arith, w)
    not_late s n a (Some x) q d = let w = same_Some (b.start + x) a (sym (deadline_key s n (Some x) q) ∙ d) in omega (arith, w, below_at 32000 moments low x n q)

    has_one : (s n : ℕ) (o : Option ℕ) → slice_get moments n ≡ o → (a : ℕ) × (deadline (shot b s n) ≡ Some a)
    has_one s n None q = (b.start + 32000, deadline_key s n None q)
    has_one s n (Some x) q = (b.start + x, deadline_key s n (Some x) q)

    over : (n : ℕ) (h : List TransactionOp) → State n h → (now : ℕ) → b.start + 32000 ≤ now → next_due now (live h) ≡ None → by_key key (live h) ≡ None
    over n h (inl w) now l q =
        let a = has_one w.1.0 n (slice_get moments n) refl in
        absurd (none_due now (live h) a.0 (shot b w.1.0 n) q a.1 (omega (arith, l, not_late w.1.0 n a.0 (slice_get moments n) refl a.1)) w.1.1)
    over n h (inr w) now l q = w.1

    module _ (f : ℕ → Due) (last : Due) (again : (s n d : ℕ) → slice_get moments n ≡ Some d → due_result (Some (record { at = b.start + d; entry = shot b s n })) ≡ f d)
        (ending : (s n : ℕ) → slice_get moments n ≡ None → due_result (Some (record { at = b.start + 32000; entry = shot b s n })) ≡ last) where
      says_at : (s n : ℕ) (o : Option ℕ) (x : DueEntryView) → slice_get moments n ≡ o → n ≤ length moments → x.entry ≡ shot b s n → deadline x.entry ≡ Some x.at →
          Some (due_result (Some x)) ≡ slice_get (map f moments ++ last ∷ []) n
      says_at s n None x q l e d =
          let a : x.at ≡ b.start + 32000 = same_Some x.at (b.start + 32000) (sym d ∙ (ap deadline e ∙ deadline_key s n None q)) in
          ap (λ y. Some (due_result (Some y))) (next_is x (b.start + 32000) (shot b s n) a e) ∙ (ap (λ y. Some y) (ending s n q) ∙ sym (said_last f last moments n l q))
      says_at s n (Some v) x q l e d =
          let a : x.at ≡ b.start + v = same_Some x.at (b.start + v) (sym d ∙ (ap deadline e ∙ deadline_key s n (Some v) q)) in
          ap (λ y. Some (due_result (Some y))) (next_is x (b.start + v) (shot b s n) a e) ∙ (ap (λ y. Some y) (again s n v q) ∙ sym (said_at f last moments n v q))

      class_result : (n : ℕ) (h : List TransactionOp) → State n h → (now : ℕ) (x : DueEntryView) → next_due now (live h) ≡ Some x → x.entry.key ≡ key →
          Some (due_result (Some x)) ≡ slice_get (map f moments ++ last ∷ []) n
      class_result n h (inl w) now x q k =
          let v = is_next now (live h) x q in
          says_at w.1.0 n (slice_get moments n) x refl w.0 (same_entry h x.entry (shot b w.1.0 n) v.stands w.1.1 (k ∙ sym at)) v.moment
      class_result n h (inr w) now x q k =
          let v = is_next now (live h) x q in
          absurd (none-some x.entry (sym w.1 ∙ subst (λ j. by_key j (live h) ≡ Some x.entry) k (at_key h x.entry v.stands)))

      pub goes : (n : ℕ) (h : List TransactionOp) → State n h → FollowsSchedule key b.start moments (map f moments ++ last ∷ []) n h
      goes n h w = record { next = next n h w; reports = class_result n h w; over = over n h w }

-- ---- a request that gets no response

resend_if : (i : Bool) (start opened n : ℕ) → retransmission_by (cond i Calling Trying) start opened n ≡ scheduled_moment start (moments_of (cond i schedule.Invite schedule.Other)) n
resend_if true start opened n = refl
resend_if false start opened n = refl

busy_if : (i : Bool) → is_untimed (cond i Calling Trying) ≡ false
busy_if true = refl
busy_if false = refl

last_if : (i : Bool) (start opened : ℕ) → last_deadline_by (cond i Calling Trying) start opened ≡ Some (start + 32000)
last_if true start opened = refl
last_if false start opened = refl

below_if : (i : Bool) → AreBelow 32000 (moments_of (cond i schedule.Invite schedule.Other))
below_if true = invites_below
below_if false = others_below

ends_if : (i : Bool) (key : ℕ) (m : Head) (at : ℕ) → cond (is_ending (cond i Calling Trying)) (due.Over (tkey key) at) (due.Silent (tkey key) m.branch m.method at) ≡ due.Silent (tkey key) m.branch m.method at
ends_if true key m at = refl
ends_if false key m at = refl

-- the result of a deadline, by when its message is retransmitted
says_again : (x : Option ℕ) (o : Option ℕ) (a b : Due) → x ≡ o → cond (is_some x) a b ≡ cond (is_some o) a b
says_again x o a b q = ap (λ y. cond (is_some y) a b) q

-- an ACK of a non-2xx final belongs to no transaction that has none
pub not_acked : (h : List TransactionOp) (m : Head) (j : ℕ) (e : Entry) → part.Acked j ≡ class_of m (live h) → Has e (live h) → e.is_refused ≡ false → (e.key == j) ≡ false
not_acked h m j e q g f = ne_eqb e.key j (λ k.
    let w = acked_is h m j q in
    let same : w.0 ≡ e = same_entry h w.0 e w.1 g (sym w.3 ∙ sym k) in
    both_ways e.is_refused f (ap (λ (x : Entry). x.is_refused) (sym same) ∙ w.2))

module _ (h : List TransactionOp) (p : Peer) (m : Message Start) (t : ℕ) where
  abbrev own_key : ℕ
  own_key = length (openings h)

  -- the transaction when it was opened
  abbrev first : Entry
  first = new_client_entry (step_of h) (send_count h) own_key p (head_of m) (message_text m) t

  hit_none : (j : ℕ) (x e : Entry) → (own_key == j) ≡ false → cond (own_key == j) x e ≡ e
  hit_none j x e q = ap (λ b. cond b x e) q

  heard_quiet : (g : List TransactionOp) (q : Peer) (n : Message Start) (now : ℕ) (taken : MessageClass) → taken ≡ class_of (head_of n) (live g) → is_response_class own_key taken ≡ false → (s k : ℕ) →
      Has (shot first s k) (live g) → change (step_of g) (send_count g) (DidHear q n now taken) (shot first s k) ≡ shot first s k
  heard_quiet g q n now part.Fresh r a s k f = refl
  heard_quiet g q n now part.Full r a s k f = refl
  heard_quiet g q n now (part.Repeat j) r a s k f = refl
  heard_quiet g q n now (part.RepeatedFinal j) r a s k f = refl
  heard_quiet g q n now (part.Answer j) r a s k f = hit_none j _ (shot first s k) (other_way j own_key a)
  heard_quiet g q n now (part.Acked j) r a s k f = hit_none j _ (shot first s k) (not_acked g (head_of n) j (shot first s k) r f refl)
  heard_quiet g q n now part.AckOf2xx r a s k f = refl
  heard_quiet g q n now part.Stray r a s k f = refl

  asked_quiet : (c : TransactionOp) (g : List TransactionOp) → IsRun (c ∷ g) → is_response_to own_key c ≡ false → (s k : ℕ) → Has (shot first s k) (live g) →
      change (step_of g) (send_count g) c (shot first s k) ≡ by_firing (step_of g) c (shot first s k)
  asked_quiet (DidBegin x) g r a s k f = refl
  asked_quiet (DidHear q n now taken) g r a s k f = heard_quiet g q n now taken r.0 a s k f
  asked_quiet (DidAsk q n now) g r a s k f = refl
  asked_quiet (DidReply j n now) g r a s k f = ap (λ x. cond (own_key == j) x (shot first s k)) (any_reply_client (step_of g) (send_count g) n now (shot first s k) refl) ∙ same_if (own_key == j) (shot first s k)
  asked_quiet (DidAck j n) g r a s k f = same_if (own_key == j) (shot first s k)
  asked_quiet (DidFire j) g r a s k f = refl
  asked_quiet (DidSettle j own) g r a s k f = ap (λ x. cond (own_key == j) x (shot first s k)) (settled_none own (shot first s k) refl) ∙ same_if (own_key == j) (shot first s k)

  abbrev its_moments : List ℕ
  its_moments = request_moments (head_of m)

  its_plan : (s n : ℕ) → state_retransmission_at (shot first s n) ≡ scheduled_moment t its_moments n
  its_plan s n = resend_if (is_invite (head_of m)) t t n

  its_busy : is_untimed first.state ≡ false
  its_busy = busy_if (is_invite (head_of m))

  its_resend : (s n : ℕ) → retransmission_at (shot first s n) ≡ scheduled_moment t its_moments n
  its_resend s n = busy_resend (shot first s n) its_busy ∙ its_plan s n

  abbrev AskedState : ℕ → List TransactionOp → Type 0
  AskedState n g = ((n ≤ length its_moments) × ((s : ℕ) × Has (shot first s n) (live g))) ⊎ ((length its_moments < n) × (by_key own_key (live g) ≡ None))

  asked_less : own_key < length (openings (DidAsk p m t ∷ h))
  asked_less = live_below (DidAsk p m t ∷ h) first (has_new (DidAsk p m t) h first (inl refl))

  asked_state : (g : List TransactionOp) → IsRun (g ++ DidAsk p m t ∷ h) → list_any (is_response_to own_key) g ≡ false → AskedState (times_fired own_key g) (g ++ DidAsk p m t ∷ h)
  asked_state g run quiet =
      tracked own_key first its_moments refl refl its_busy its_plan (last_if (is_invite (head_of m)) t t) (is_response_to own_key) asked_quiet g (DidAsk p m t ∷ h) run quiet asked_less
      (inl (omega arith, (step_of h, has_new (DidAsk p m t) h first (inl refl))))

  asked_again : (s n d : ℕ) → slice_get its_moments n ≡ Some d → due_result (Some (record { at = t + d; entry = shot first s n })) ≡ retransmission p m t d
  asked_again s n d q = says_again (retransmission_at (shot first s n)) (Some (t + d)) _ _ (its_resend s n ∙ ap (option_map (λ x. t + x)) q) ∙ ap (due.Again p (t + d)) (busy_text (shot first s n) its_busy)

  asked_last : (s n : ℕ) → slice_get its_moments n ≡ None → due_result (Some (record { at = t + 32000; entry = shot first s n })) ≡ due.Silent (tkey own_key) (head_of m).branch (head_of m).method (t + 32000)
  asked_last s n q = says_again (retransmission_at (shot first s n)) None _ _ (its_resend s n ∙ ap (option_map (λ x. t + x)) q) ∙ ends_if (is_invite (head_of m)) own_key (head_of m) (t + 32000)

  asked_goes : (g : List TransactionOp) → IsRun (g ++ DidAsk p m t ∷ h) → list_any (is_response_to own_key) g ≡ false →
      FollowsSchedule own_key t its_moments (request_results own_key p m t) (times_fired own_key g) (g ++ DidAsk p m t ∷ h)
  asked_goes g run quiet =
      goes own_key first its_moments refl refl its_busy its_plan (last_if (is_invite (head_of m)) t t) (below_if (is_invite (head_of m))) (retransmission p m t)
      (due.Silent (tkey own_key) (head_of m).branch (head_of m).method (t + 32000)) asked_again asked_last
      (times_fired own_key g) (g ++ DidAsk p m t ∷ h) (asked_state g run quiet)

pub unanswered : UnansweredTimeOut
unanswered h g p m t run quiet = asked_goes h p m t g run quiet

-- ---- an INVITE that had a provisional response

module _ (h : List TransactionOp) (p : Peer) (m : Message Start) (t at : ℕ) where
  -- the transaction after its first provisional response
  abbrev rung : ℕ → Entry
  rung s = record (first h p m t) { is_early = true; state = Proceeding; start = at; retransmissions = 0; step = s }

  rung_answered : (b : Bool) (s now : ℕ) (st step : ℕ) → (not (is_provisional st) && b) ≡ false → cond b (after_response step st now (rung s)) (rung s) ≡ rung s
  rung_answered false s now st step q = refl
  rung_answered true s now st step q = either (is_provisional st) q
    where
      either : (b : Bool) → (not b && true) ≡ false → cond b (rung s) (after_final step st now (rung s)) ≡ rung s
      either true f = refl
      either false f = absurd cc

  abbrev this_key : ℕ
  this_key = length (openings h)

  finals_if : (n : Head) (j : ℕ) → (not (is_provisional n.status) && (j == this_key)) ≡ false → (not (is_provisional n.status) && (this_key == j)) ≡ false
  finals_if n j q = either (j == this_key) refl q
    where
      either : (b : Bool) → (j == this_key) ≡ b → (not (is_provisional n.status) && b) ≡ false → (not (is_provisional n.status) && (this_key == j)) ≡ false
      either true e f = ap (λ b. not (is_provisional n.status) && b) (eq-eqb this_key j (sym (eqb-true j this_key e))) ∙ f
      either false e f = ap (λ b. not (is_provisional n.status) && b) (other_way j this_key e) ∙ f

  rung_heard : (g : List TransactionOp) (q : Peer) (n : Message Start) (now : ℕ) (taken : MessageClass) → taken ≡ class_of (head_of n) (live g) →
      (not (is_provisional (head_of n).status) && is_response_class this_key taken) ≡ false → (s : ℕ) → Has (rung s) (live g) →
      change (step_of g) (send_count g) (DidHear q n now taken) (rung s) ≡ rung s
  rung_heard g q n now part.Fresh r a s f = refl
  rung_heard g q n now part.Full r a s f = refl
  rung_heard g q n now (part.Repeat j) r a s f = refl
  rung_heard g q n now (part.RepeatedFinal j) r a s f = refl
  rung_heard g q n now (part.Answer j) r a s f = rung_answered (this_key == j) s now (head_of n).status (step_of g) (finals_if (head_of n) j a)
  rung_heard g q n now (part.Acked j) r a s f = ap (λ b. cond b (after_failure_ack (step_of g) now (rung s)) (rung s)) (not_acked g (head_of n) j (rung s) r f refl)
  rung_heard g q n now part.AckOf2xx r a s f = refl
  rung_heard g q n now part.Stray r a s f = refl

  not_next : (g : List TransactionOp) (j s : ℕ) → IsNextOf j g → Has (rung s) (live g) → (this_key == j) ≡ false
  not_next g j s r f = ne_eqb this_key j (λ k.
      let n : DueEntryView = r.next in
      let w = is_next r.now (live g) n r.first in
      let same : n.entry ≡ rung s = same_entry g n.entry (rung s) w.stands f (r.same ∙ sym k) in
      none-some n.at (sym (ap deadline same) ∙ w.moment))

  rung_quiet : (c : TransactionOp) (g : List TransactionOp) → IsRun (c ∷ g) → is_final_to this_key c ≡ false → (s : ℕ) → Has (rung s) (live g) → change (step_of g) (send_count g) c (rung s) ≡ rung s
  rung_quiet (DidBegin x) g r a s f = refl
  rung_quiet (DidHear q n now taken) g r a s f = rung_heard g q n now taken r.0 a s f
  rung_quiet (DidAsk q n now) g r a s f = refl
  rung_quiet (DidReply j n now) g r a s f = ap (λ x. cond (this_key == j) x (rung s)) (any_reply_client (step_of g) (send_count g) n now (rung s) refl) ∙ same_if (this_key == j) (rung s)
  rung_quiet (DidAck j n) g r a s f = same_if (this_key == j) (rung s)
  rung_quiet (DidFire j) g r a s f = ap (λ b. cond b (after_timer (step_of g) (rung s)) (rung s)) (not_next g j s r.0 f)
  rung_quiet (DidSettle j own) g r a s f = ap (λ x. cond (this_key == j) x (rung s)) (settled_none own (rung s) refl) ∙ same_if (this_key == j) (rung s)

  still_rung : (f g : List TransactionOp) (s : ℕ) → IsRun (f ++ g) → list_any (is_final_to this_key) f ≡ false → Has (rung s) (live g) → Has (rung s) (live (f ++ g))
  still_rung [] g s run quiet w = w
  still_rung (c ∷ f) g s run quiet w =
      let v = or_parts (is_final_to this_key c) (list_any (is_final_to this_key) f) quiet in
      let u = still_rung f g s (run_before c (f ++ g) run) v.1 w in
      let q = rung_quiet c (f ++ g) run v.0 s u in
      subst (λ e. Has e (live (c ∷ f ++ g))) q (has_more c (f ++ g) (rung s) u (ap is_live q))

  rings : (b i : Bool) (s n step : ℕ) (x : Entry) → b ≡ true → i ≡ true →
      cond b (record (shot (first h p m t) s n) { is_early = true; state = cond i Proceeding SlowProceeding; start = at; retransmissions = 0; step = step }) x ≡ rung step
  rings b i s n step x q r = rw (q, r) refl

  rung_first : (g : List TransactionOp) (q : Peer) (n : Message Start) (s k : ℕ) → is_invite (head_of m) ≡ true → is_provisional (head_of n).status ≡ true → Has (shot (first h p m t) s k) (live g) →
      Has (rung (step_of g)) (live (DidHear q n at (part.Answer this_key) ∷ g))
  rung_first g q n s k i pr f =
      let e : Entry = shot (first h p m t) s k in
      let same : change (step_of g) (send_count g) (DidHear q n at (part.Answer this_key)) e ≡ rung (step_of g) =
      ap (λ b. cond b (after_response (step_of g) (head_of n).status at e) e) (eq-eqb this_key this_key refl)
      ∙ rings (is_provisional (head_of n).status) (is_invite (head_of m)) s k (step_of g) (after_final (step_of g) (head_of n).status at e) pr i in
      subst (λ x. Has x (live (DidHear q n at (part.Answer this_key) ∷ g))) same (has_more (DidHear q n at (part.Answer this_key)) g e f (ap is_live same))

  -- what a response matches is live
  answered_live : (g : List TransactionOp) (n : Head) → part.Answer this_key ≡ class_of n (live g) → by_key this_key (live g) ≡ None → ⊥
  answered_live g n q none =
      let w = answer_if this_key n.is_request (is_ack n) (is_full (live g)) (find (is_server_of n) (live g)) (find (is_client_of n) (live g)) n q in
      let v = found_in (is_client_of n) w.0 (live g) w.1 in
      none-some w.0 (sym none ∙ subst (λ j. by_key j (live g) ≡ Some w.0) (sym w.2) (at_key g w.0 v.0))

  rings_on : (f g : List TransactionOp) (q : Peer) (n : Message Start) (k : ℕ) → IsRun (f ++ DidHear q n at (part.Answer this_key) ∷ g) →
      is_invite (head_of m) ≡ true → is_provisional (head_of n).status ≡ true → list_any (is_final_to this_key) f ≡ false → AskedState h p m t k g →
      option_map deadline (by_key this_key (live (f ++ DidHear q n at (part.Answer this_key) ∷ g))) ≡ Some None
  rings_on f g q n k run i pr quiet (inr w) = absurd (answered_live g (head_of n) (run_end f (DidHear q n at (part.Answer this_key) ∷ g) run).0 w.1)
  rings_on f g q n k run i pr quiet (inl w) =
      let L : List TransactionOp = f ++ DidHear q n at (part.Answer this_key) ∷ g in
      let u = still_rung f (DidHear q n at (part.Answer this_key) ∷ g) (step_of g) run quiet (rung_first g q n w.1.0 k i pr w.1.1) in
      ap (option_map deadline) (at_key L (rung (step_of g)) u)

pub ringing : RingingDoesNotTimeOut
ringing h g f p q m n t s run i pr quiet finals =
    rings_on h p m t s f (g ++ DidAsk p m t ∷ h) q n (times_fired (length (openings h)) g) run i pr finals
    (asked_state h p m t g (run_end f (DidHear q n s (part.Answer (length (openings h))) ∷ (g ++ DidAsk p m t ∷ h)) run).1 quiet)

-- ---- a final that waits for its ACK

ack_if : (i a b c : Bool) → i ≡ true → ((a && b) && c) ≡ false → (((((true && i) && a) && true) && b) && c) ≡ false
ack_if true true b c q r = r
ack_if true false b c q r = refl
ack_if false a b c q r = absurd cc

module _ (h : List TransactionOp) (key : ℕ) (e : Entry) (m : Message Start) (t : ℕ) (w : AwaitsFinal key e h) (pr : is_provisional (head_of m).status ≡ false) where
  -- the transaction with its final
  abbrev final : Entry
  final = record {
    key = key;
    is_server = true;
    at = e.at;
    peer = e.peer;
    head = e.head;
    request = e.request;
    state = Completed;
    start = t;
    retransmissions = 0;
    step = step_of h;
    order = send_count h;
    last = Some (message_text m);
    reliable = [];
    is_early = e.is_early;
    final_status = (head_of m).status;
    to_tag = (head_of m).to_tag;
    is_refused = is_refusal (head_of m).status;
    is_acked = false;
    is_terminated = false;
  }

  its_own : Has e (live h) × (e.key ≡ key)
  its_own = of_key h key e w.live

  not_yet : IsRun h → e.is_acked ≡ false
  not_yet run = false_from_ne_true e.is_acked (λ a. both_ways (e.final_status == 0) ((sound h run e its_own.0).done a) (eq-eqb e.final_status 0 w.undone))

  not_over : e.is_terminated ≡ false
  not_over = not-true e.is_terminated (has_live h e its_own.0)

  final_with : IsRun h → (o : Option ReliableResponse) → cond (e.key == key) (after_reply (step_of h) (send_count h) (head_of m).status (message_text m) (head_of m).to_tag t (with_reliable_if o e)) e ≡ final
  final_with run None = rw (its_own.1, eq-eqb key key refl, w.server, w.undone, pr, w.invite, not_yet run, not_over) refl
  final_with run (Some answer) = rw (its_own.1, eq-eqb key key refl, w.server, w.undone, pr, w.invite, not_yet run, not_over) refl

  final_is : IsRun h → change (step_of h) (send_count h) (DidReply key m t) e ≡ final
  final_is run = final_with run (reliable_response_of (step_of h) (send_count h) m (message_text m) t)

  final_first : IsRun h → Has (shot final (step_of h) 0) (live (DidReply key m t ∷ h))
  final_first run = subst (λ x. Has x (live (DidReply key m t ∷ h))) (final_is run) (has_more (DidReply key m t) h e its_own.0 (ap is_live (final_is run)))

  hit_not : (j : ℕ) (x y : Entry) → (key == j) ≡ false → cond (key == j) x y ≡ y
  hit_not j x y q = ap (λ b. cond b x y) q

  server_quiet : (g : List TransactionOp) (q : Peer) (n : Message Start) (now : ℕ) (taken : MessageClass) → taken ≡ class_of (head_of n) (live g) →
      acknowledges key e.head (head_of m) n taken ≡ false → (s k : ℕ) → Has (shot final s k) (live g) → change (step_of g) (send_count g) (DidHear q n now taken) (shot final s k) ≡ shot final s k
  server_quiet g q n now part.Fresh r a s k f = refl
  server_quiet g q n now part.Full r a s k f = refl
  server_quiet g q n now (part.Repeat j) r a s k f = refl
  server_quiet g q n now (part.RepeatedFinal j) r a s k f = refl
  server_quiet g q n now (part.Answer j) r a s k f = hit_not j _ (shot final s k) (ne_eqb key j (no_response g (head_of n) j (shot final s k) r f refl))
  server_quiet g q n now (part.Acked j) r a s k f = hit_not j _ (shot final s k) (other_way j key a)
  server_quiet g q n now part.AckOf2xx r a s k f = ap (λ b. cond b (record (shot final s k) { is_acked = true; state = Absorbing; step = step_of g }) (shot final s k))
      (ack_if (is_invite e.head) (is_success (head_of m).status) (is_same_call e.head (head_of n)) (bytes_eq (head_of m).to_tag (head_of n).to_tag) w.invite a)
  server_quiet g q n now part.Stray r a s k f = refl

  final_quiet : (c : TransactionOp) (g : List TransactionOp) → IsRun (c ∷ g) → is_ack_to key e.head (head_of m) c ≡ false → (s k : ℕ) → Has (shot final s k) (live g) →
      change (step_of g) (send_count g) c (shot final s k) ≡ by_firing (step_of g) c (shot final s k)
  final_quiet (DidBegin x) g r a s k f = refl
  final_quiet (DidHear q n now taken) g r a s k f = server_quiet g q n now taken r.0 a s k f
  final_quiet (DidAsk q n now) g r a s k f = refl
  final_quiet (DidReply j n now) g r a s k f =
      ap (λ x. cond (key == j) x (shot final s k)) (any_reply_done (step_of g) (send_count g) n now (shot final s k) (final_done (head_of m).status pr)) ∙ same_if (key == j) (shot final s k)
  final_quiet (DidAck j n) g r a s k f = same_if (key == j) (shot final s k)
  final_quiet (DidFire j) g r a s k f = refl
  final_quiet (DidSettle j own) g r a s k f = ap (λ x. cond (key == j) x (shot final s k)) (settled_none own (shot final s k) refl) ∙ same_if (key == j) (shot final s k)

  final_plan : (s n : ℕ) → state_retransmission_at (shot final s n) ≡ scheduled_moment t (moments_of schedule.Other) n
  final_plan s n = refl

  final_again : (s n d : ℕ) → slice_get (moments_of schedule.Other) n ≡ Some d → due_result (Some (record { at = t + d; entry = shot final s n })) ≡ retransmission e.peer m t d
  final_again s n d q = says_again (retransmission_at (shot final s n)) (Some (t + d)) _ _ (ap (option_map (λ x. t + x)) q)

  final_last : (s n : ℕ) → slice_get (moments_of schedule.Other) n ≡ None → due_result (Some (record { at = t + 32000; entry = shot final s n })) ≡ due.Over (tkey key) (t + 32000)
  final_last s n q = says_again (retransmission_at (shot final s n)) None _ _ (ap (option_map (λ x. t + x)) q)

  final_less : IsRun h → key < length (openings (DidReply key m t ∷ h))
  final_less run = live_below (DidReply key m t ∷ h) (shot final (step_of h) 0) (final_first run)

  final_goes : (g : List TransactionOp) → IsRun (g ++ DidReply key m t ∷ h) → list_any (is_ack_to key e.head (head_of m)) g ≡ false →
      FollowsSchedule key t (moments_of schedule.Other) (final_results key e.peer m t) (times_fired key g) (g ++ DidReply key m t ∷ h)
  final_goes g run quiet =
      let before : IsRun h = run_end g (DidReply key m t ∷ h) run in
      goes key final (moments_of schedule.Other) refl refl refl final_plan refl others_below (retransmission e.peer m t) (due.Over (tkey key) (t + 32000)) final_again final_last
      (times_fired key g) (g ++ DidReply key m t ∷ h)
      (tracked key final (moments_of schedule.Other) refl refl refl final_plan refl (is_ack_to key e.head (head_of m)) final_quiet g (DidReply key m t ∷ h) run quiet (final_less before)
      (inl (omega arith, (step_of h, final_first before))))

pub unacknowledged : FinalsAwaitTheirAck
unacknowledged h g key e m t w pr run quiet = final_goes h key e m t w pr g run quiet
