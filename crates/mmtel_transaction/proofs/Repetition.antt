-- A request that is received again opens nothing until the end of its transaction was reported.
use Rattle.std.proofs.Common.{◌≡◌, ℕ, ◌+◌, List, [], ◌∷◌, ◌++◌, length, refl, true, false, Bool, not, ◌&&◌, ◌||◌, ◌⊎◌, inl, inr, sym, ap, ◌∙◌, cond, subst, append-nil}
use Rattle.std.specs.Prelude.{Option, Some, None, ◌==◌, is_some, option_map}
use Rattle.std.specs.Option.{option_or}
use Rattle.std.specs.List.{find}
use Rattle.std.specs.Str.{bytes_eq}
use Rattle.std.proofs.lemmas.Bool.{and_parts, both_ways, eqb-true, ne_eqb, not-true}
use Rattle.std.proofs.lemmas.Option.{none-some}
use Rattle.mmtel_types.specs.declared.numbers.Peer.{Peer}
use Rattle.mmtel_message.specs.Message.{Message}
use Rattle.mmtel_message.specs.Texts.{message_text}
use Rattle.mmtel_message.specs.declared.messages.Start.{Start}
use Rattle.mmtel_transaction.specs.declared.heads.Head.{Head}
use Rattle.mmtel_transaction.specs.declared.entries.TransactionTimer.{TransactionTimer}
use Rattle.mmtel_transaction.specs.declared.entries.Entry.{Entry}
use Rattle.mmtel_transaction.specs.declared.entries.State.{State}
use Rattle.mmtel_transaction.specs.declared.entries.State.TheVariants.{Proceeding, Calling, Trying, SlowProceeding, Completed, Absorbing}
use Rattle.mmtel_transaction.specs.declared.entries.State.TheVariants as states
use Rattle.mmtel_transaction.specs.declared.entries.ReliableResponse.{ReliableResponse}
use Rattle.mmtel_transaction.specs.declared.message_class.MessageClass.{MessageClass}
use Rattle.mmtel_transaction.specs.declared.message_class.MessageClass.TheVariants as part
use Rattle.mmtel_transaction.specs.declared.words.Heard.TheVariants as heard
use Rattle.mmtel_transaction.specs.declared.words.Due.TheVariants as due
use Rattle.mmtel_transaction.specs.Heads.{head_of, invite, is_success, is_ack, is_invite, is_provisional, is_refusal}
use Rattle.mmtel_transaction.specs.Deadlines.{foremost_in, is_ending, last_deadline_by, retransmission_at, state_retransmission_at}
use Rattle.mmtel_transaction.specs.Changes.{after_any_reply, after_failure_ack, after_reply, after_response, after_settling, after_timer}
use Rattle.mmtel_transaction.specs.Changes.{after_timer_by, is_ack_of, new_server_entry, reliable_response_of, with_kept_ack, with_reliable_if}
use Rattle.mmtel_transaction.specs.Operations.{TransactionOp, DidBegin, DidHear, DidAsk, DidReply, DidAck, DidFire, DidSettle, change, is_live, live, send_count, openings, step_of}
use Rattle.mmtel_transaction.specs.Results.{DueEntryView, ack_class, after_firing, bind_entry, by_key, class_of, class_result, due_result, hear_result}
use Rattle.mmtel_transaction.specs.Results.{is_client_of, is_full, is_server_of, key_method, last_sent, request_class, response_class, retransmission_for, tkey}
use Rattle.mmtel_transaction.specs.Runs.{IsNextOf, IsRun}
use Rattle.mmtel_transaction.specs.Theorems.{EndWasReported, IsRetransmissionOf, OpensNothing, ReportsEnd}
use Rattle.mmtel_transaction.proofs.Lists.{Keeps, keeps_change}
use Rattle.mmtel_timers.specs.Shelves.{Has}
use Rattle.mmtel_transaction.proofs.Having.{at_key, finds, found_in, has_more, has_new, run_before, same_entry}
use Rattle.mmtel_transaction.proofs.Distinct.{apart, of_server, server_of}
use Rattle.mmtel_transaction.proofs.Order.{is_next}

-- how a server transaction may wait
abbrev is_servers : State → Bool
is_servers Proceeding = true
is_servers Calling = false
is_servers Trying = false
is_servers SlowProceeding = false
is_servers Completed = true
is_servers Absorbing = true
is_servers states.Confirmed = true

-- a live server transaction
record IsServing (e : Entry) : Type 0 where
  live : is_live e ≡ true
  state : is_servers e.state ≡ true

serving_if : (b : Bool) (e x : Entry) → IsServing e → IsServing x → IsServing (cond b e x)
serving_if true e x s t = s
serving_if false e x s t = t

final_state : (b : Bool) → is_servers (cond b Completed Absorbing) ≡ true
final_state true = refl
final_state false = refl

serving_with : (o : Option ReliableResponse) (e : Entry) → IsServing e → IsServing (with_reliable_if o e)
serving_with None e s = s
serving_with (Some answer) e s = serving_if (not e.is_server || not (e.final_status == 0)) e _ s (record { live = s.live; state = s.state })

serving_replied : (e : Entry) → IsServing e → (step i st : ℕ) (t g : List ℕ) (now : ℕ) → IsServing (after_reply step i st t g now e)
serving_replied e s step i st t g now = serving_if (not e.is_server || not (e.final_status == 0)) e _ s
    (serving_if (is_provisional st) _ _ (record { live = s.live; state = s.state }) (record { live = s.live; state = final_state (is_invite e.head) }))

serving_offered : (e : Entry) → IsServing e → (step i : ℕ) (m : Message Start) (now : ℕ) → IsServing (after_any_reply step i m now e)
serving_offered e s step i m now =
    let o = reliable_response_of step i m (message_text m) now in
    serving_replied (with_reliable_if o e) (serving_with o e s) step i (head_of m).status (message_text m) (head_of m).to_tag now

serving_settled : (own : Option ℕ) (e : Entry) → IsServing e → IsServing (after_settling own e)
serving_settled None e s = record { live = s.live; state = s.state }
serving_settled (Some own) e s = record { live = s.live; state = s.state }

-- for as long as a message of it is retransmitted
serving_fired : (o : Option (ℕ × TransactionTimer)) (step a : ℕ) (e : Entry) → IsServing e → option_or (option_map (λ (f : ℕ × TransactionTimer). f.1.at) o) (state_retransmission_at e) ≡ Some a →
    IsServing (after_timer_by o step e)
serving_fired (Some f) step a e s q = record { live = s.live; state = s.state }
serving_fired None step a e s q = subst (λ o. IsServing (cond (is_some o) (record e { retransmissions = e.retransmissions + 1; step = step }) (record e { is_terminated = true }))) (sym q)
    (record { live = s.live; state = s.state })

-- a response is classified as one to a client transaction
ack_no_answer : (j : ℕ) (o : Option Entry) → part.Answer j ≡ ack_class o → ⊥
ack_no_answer j None q = cc
ack_no_answer j (Some e) q = either e.is_refused q
  where
    either : (b : Bool) → part.Answer j ≡ cond b (part.Acked e.key) part.AckOf2xx → ⊥
    either true q = cc
    either false q = cc

request_no_answer : (j : ℕ) (full : Bool) (o : Option Entry) → part.Answer j ≡ request_class full o → ⊥
request_no_answer j true None q = cc
request_no_answer j false None q = cc
request_no_answer j full (Some e) q = cc

response_answer : (j : ℕ) (m : Head) (o : Option Entry) → part.Answer j ≡ response_class m o → (e : Entry) × (o ≡ Some e) × (j ≡ e.key)
response_answer j m None q = absurd cc
response_answer j m (Some e) q = (e, refl, either (is_invite e.head && e.is_refused && is_refusal m.status) q)
  where
    either : (b : Bool) → part.Answer j ≡ cond b (part.RepeatedFinal e.key) (part.Answer e.key) → j ≡ e.key
    either true q = absurd cc
    either false q = cc

pub answer_if : (j : ℕ) (r a full : Bool) (o x : Option Entry) (m : Head) → part.Answer j ≡ cond r (cond a (ack_class o) (request_class full o)) (response_class m x) → (e : Entry) × (x ≡ Some e) × (j ≡ e.key)
answer_if j true true full o x m q = absurd (ack_no_answer j o q)
answer_if j true false full o x m q = absurd (request_no_answer j full o q)
answer_if j false a full o x m q = response_answer j m x q

client_of : (m : Head) (e : Entry) → is_client_of m e ≡ true → e.is_server ≡ false
client_of m e q = not-true e.is_server (and_parts (not e.is_server) (bytes_eq e.head.branch m.branch) (and_parts (not e.is_server && bytes_eq e.head.branch m.branch) (bytes_eq e.head.method m.method) q).0).0

pub no_response : (h : List TransactionOp) (m : Head) (j : ℕ) (e : Entry) → part.Answer j ≡ class_of m (live h) → Has e (live h) → e.is_server ≡ true → e.key ≡ j → ⊥
no_response h m j e q g s k =
    let w = answer_if j m.is_request (is_ack m) (is_full (live h)) (find (is_server_of m) (live h)) (find (is_client_of m) (live h)) m q in
    let v = found_in (is_client_of m) w.0 (live h) w.1 in
    let x : Entry = w.0 in
    let y : x ≡ e = same_entry h x e v.0 g (sym w.2 ∙ sym k) in
    both_ways e.is_server (ap (λ (z : Entry). z.is_server) (sym y) ∙ client_of m x v.1) s

-- the last deadline of a server transaction reports its end
ends_if : (p : State) (start at a : ℕ) → is_servers p ≡ true → last_deadline_by p start at ≡ Some a → is_ending p ≡ true
ends_if Proceeding start at a s q = absurd (none-some a q)
ends_if Calling start at a s q = absurd cc
ends_if Trying start at a s q = absurd cc
ends_if SlowProceeding start at a s q = absurd cc
ends_if Completed start at a s q = refl
ends_if Absorbing start at a s q = refl
ends_if states.Confirmed start at a s q = refl

says_over : (n : DueEntryView) → retransmission_at n.entry ≡ None → is_ending n.entry.state ≡ true → due_result (Some n) ≡ due.Over (tkey n.entry.key) n.at
says_over n q e = rw (q, e) refl

gives_end : (h : List TransactionOp) (j : ℕ) (e : Entry) → IsNextOf j h → Has e (live h) → IsServing e → e.key ≡ j → retransmission_at e ≡ None → ReportsEnd e.key (DidFire j) h
gives_end h j e r g s k f =
    let n : DueEntryView = r.next in
    let w = is_next r.now (live h) n r.first in
    let same : n.entry ≡ e = same_entry h n.entry e w.stands g (r.same ∙ sym k) in
    let none : retransmission_at n.entry ≡ None = ap retransmission_at same ∙ f in
    let last : last_deadline_by n.entry.state n.entry.start n.entry.at ≡ Some n.at = ap (λ o. option_or o (last_deadline_by n.entry.state n.entry.start n.entry.at)) (sym none) ∙ w.moment in
    let over : is_ending n.entry.state ≡ true = ends_if n.entry.state n.entry.start n.entry.at n.at (ap (λ (x : Entry). is_servers x.state) same ∙ s.state) last in
    record {
      now = r.now;
      at = n.at;
      reports = ap due_result r.first ∙ (says_over n none over ∙ ap (λ (x : Entry). due.Over (tkey x.key) n.at) same);
      call = ap (after_firing h) r.first ∙ ap (λ i. DidFire i ∷ h) r.same;
    }

-- a server transaction after one more operation of a run: it continues, or its end was reported
module _ (h : List TransactionOp) (e : Entry) (g : Has e (live h)) (server : e.is_server ≡ true) (s : IsServing e) where
  fire_if : (t : Bool) (j : ℕ) → IsNextOf j h → (e.key == j) ≡ t → IsServing (cond t (after_timer (step_of h) e) e) ⊎ ReportsEnd e.key (DidFire j) h
  fire_if false j r k = inl s
  fire_if true j r k = either (retransmission_at e) refl
    where
      either : (o : Option ℕ) → retransmission_at e ≡ o → IsServing (after_timer (step_of h) e) ⊎ ReportsEnd e.key (DidFire j) h
      either None f = inr (gives_end h j e r g s (eqb-true e.key j k) f)
      either (Some a) f = inl (serving_fired (foremost_in e) (step_of h) a e s f)

  answer_hit : (t : Bool) (j : ℕ) (x : Entry) → (e.key == j) ≡ t → (e.key ≡ j → ⊥) → IsServing (cond t x e)
  answer_hit true j x k f = absurd (f (eqb-true e.key j k))
  answer_hit false j x k f = s

  heard_more : (p : Peer) (m : Message Start) (now : ℕ) (t : MessageClass) → t ≡ class_of (head_of m) (live h) → IsServing (change (step_of h) (send_count h) (DidHear p m now t) e)
  heard_more p m now part.Fresh q = s
  heard_more p m now part.Full q = s
  heard_more p m now (part.Repeat j) q = s
  heard_more p m now (part.RepeatedFinal j) q = s
  heard_more p m now (part.Answer j) q = answer_hit (e.key == j) j (after_response (step_of h) (head_of m).status now e) refl (no_response h (head_of m) j e q g server)
  heard_more p m now (part.Acked j) q = serving_if (e.key == j) (after_failure_ack (step_of h) now e) e (serving_if e.is_acked e _ s (record { live = s.live; state = refl })) s
  heard_more p m now part.AckOf2xx q = serving_if (is_ack_of (head_of m) e) _ e (record { live = s.live; state = refl }) s
  heard_more p m now part.Stray q = s

  serving_more : (c : TransactionOp) → IsRun (c ∷ h) → IsServing (change (step_of h) (send_count h) c e) ⊎ ReportsEnd e.key c h
  serving_more (DidBegin n) r = inl s
  serving_more (DidHear p m now t) r = inl (heard_more p m now t r.0)
  serving_more (DidAsk p m now) r = inl s
  serving_more (DidReply j m now) r = inl (serving_if (e.key == j) (after_any_reply (step_of h) (send_count h) m now e) e (serving_offered e s (step_of h) (send_count h) m now) s)
  serving_more (DidAck j m) r = inl (serving_if (e.key == j) (with_kept_ack (message_text m) e) e (serving_if (not e.is_server && e.is_refused) _ e (record { live = s.live; state = s.state }) s) s)
  serving_more (DidFire j) r = fire_if (e.key == j) j r.0 refl
  serving_more (DidSettle j own) r = inl (serving_if (e.key == j) (after_settling own e) e (serving_settled own e s) s)

-- the transaction that a request opened
record Tracks (k : ℕ) (p : Peer) (m : Head) (e : Entry) : Type 0 where
  key : e.key ≡ k
  server : e.is_server ≡ true
  peer : e.peer ≡ p
  head : e.head ≡ m
  serving : IsServing e

tracks_more : (k : ℕ) (p : Peer) (m : Head) (e x : Entry) → Keeps e x → IsServing x → Tracks k p m e → Tracks k p m x
tracks_more k p m e x w s t = record { key = w.key ∙ t.key; server = w.server ∙ t.server; peer = w.peer ∙ t.peer; head = w.head ∙ t.head; serving = s }

tracked : (k : ℕ) (p : Peer) (m : Head) (g h : List TransactionOp) (e : Entry) → IsRun (g ++ h) → Has e (live h) → Tracks k p m e → EndWasReported k g h ⊎ ((x : Entry) × Has x (live (g ++ h)) × Tracks k p m x)
tracked k p m [] h e r f t = inr (e, f, t)
tracked k p m (c ∷ g) h e r f t = elim (tracked k p m g h e (run_before c (g ++ h) r) f t) [
  | inl w ↦ inl (inr w)
  | inr w ↦ elim (serving_more (g ++ h) w.0 w.1 w.2.server w.2.serving c r) [
    | inl s ↦ inr (
      change (step_of (g ++ h)) (send_count (g ++ h)) c w.0,
      has_more c (g ++ h) w.0 w.1 s.live,
      tracks_more k p m w.0 (change (step_of (g ++ h)) (send_count (g ++ h)) c w.0) (keeps_change (step_of (g ++ h)) (send_count (g ++ h)) c w.0) s w.2,
    )
    | inr s ↦ inl (inl (subst (λ j. ReportsEnd j c (g ++ h)) w.2.key s))
  ]
]

tracked_since : (h g : List TransactionOp) (p : Peer) (m : Message Start) (t : ℕ) → IsRun (g ++ DidHear p m t part.Fresh ∷ h) →
    EndWasReported (length (openings h)) g (DidHear p m t part.Fresh ∷ h) ⊎ ((x : Entry) × Has x (live (g ++ DidHear p m t part.Fresh ∷ h)) × Tracks (length (openings h)) p (head_of m) x)
tracked_since h g p m t r =
    let e : Entry = new_server_entry (step_of h) (length (openings h)) p (head_of m) t in
    tracked (length (openings h)) p (head_of m) g (DidHear p m t part.Fresh ∷ h) e r
    (has_new (DidHear p m t part.Fresh) h e (inl refl))
    (record { key = refl; server = refl; peer = refl; head = refl; serving = record { live = refl; state = refl } })

repeat_if : (r a full : Bool) (o : Option Entry) (x : MessageClass) (e : Entry) → r ≡ true → a ≡ false → o ≡ Some e → cond r (cond a (ack_class o) (request_class full o)) x ≡ part.Repeat e.key
repeat_if r a full o x e p q f = rw (p, q, f) refl

-- a retransmission of its request belongs to it
module _ (h : List TransactionOp) (r : IsRun h) (k : ℕ) (p q : Peer) (m n : Message Start) (i : IsRetransmissionOf (head_of m) (head_of n)) (e : Entry) (g : Has e (live h)) (t : Tracks k p (head_of m) e) where
  is_its : is_server_of (head_of n) e ≡ true
  is_its =
      let key : key_method (head_of n) ≡ (head_of n).method = ap (λ b. cond b invite (head_of n).method) i.other in
      of_server (head_of n) e (record {
        server = t.server;
        branch = ap (λ (y : Head). y.branch) t.head ∙ i.branch;
        sent_by = ap (λ (y : Head). y.sent_by) t.head ∙ i.sent_by;
        method = ap (λ (y : Head). y.method) t.head ∙ (i.method ∙ sym key);
      })

  finds_it : find (is_server_of (head_of n)) (live h) ≡ Some e
  finds_it =
      let w = finds (is_server_of (head_of n)) e (live h) g is_its in
      let x : Entry = w.0 in
      let v = found_in (is_server_of (head_of n)) x (live h) w.1 in
      let a = server_of (head_of n) x v.1 in
      let b = server_of (head_of n) e is_its in
      w.1 ∙ ap Some (apart h r x e v.0 g (record { first = a.server; second = b.server; branch = a.branch ∙ sym b.branch; sent_by = a.sent_by ∙ sym b.sent_by; method = a.method ∙ sym b.method }))

  taken_again : class_of (head_of n) (live h) ≡ part.Repeat k
  taken_again = repeat_if (head_of n).is_request (is_ack (head_of n)) (is_full (live h)) (find (is_server_of (head_of n)) (live h))
      (response_class (head_of n) (find (is_client_of (head_of n)) (live h))) e i.request i.other finds_it ∙ ap part.Repeat t.key

  opens_nothing : OpensNothing k h q n
  opens_nothing = record {
    classified = taken_again;
    nothing = λ now. ap (λ x. openings (DidHear q n now x ∷ h)) taken_again ∙ append-nil (openings h);
  }

  none_if : (b c d : Bool) (o : Option (Peer × List ℕ)) → b ≡ false → cond (b && c && d) o None ≡ None
  none_if b c d o f = rw f refl

  stranger : (q.0 ≡ p.0 → ⊥) → hear_result h q n ≡ Some (heard.Repeat None)
  stranger d =
      let at : by_key k (live h) ≡ Some e = subst (λ j. by_key j (live h) ≡ Some e) t.key (at_key h e g) in
      let other : (q.0 == e.peer.0) ≡ false = ne_eqb q.0 e.peer.0 (λ f. d (f ∙ ap (λ (y : Peer). y.0) t.peer)) in
      let none : retransmission_for q e ≡ None = none_if (q.0 == e.peer.0) (not e.is_acked) (not (is_invite e.head && is_success e.final_status)) (last_sent e) other in
      ap (class_result (length (openings h)) (live h) q n) taken_again ∙ ap (λ x. Some (heard.Repeat x)) (ap (bind_entry (retransmission_for q)) at ∙ none)

pub retransmissions : (h g : List TransactionOp) (p q : Peer) (m n : Message Start) (t : ℕ) → IsRun (g ++ DidHear p m t part.Fresh ∷ h) → IsRetransmissionOf (head_of m) (head_of n) →
    EndWasReported (length (openings h)) g (DidHear p m t part.Fresh ∷ h) ⊎ OpensNothing (length (openings h)) (g ++ DidHear p m t part.Fresh ∷ h) q n
retransmissions h g p q m n t r i = elim (tracked_since h g p m t r) [
  | inl w ↦ inl w
  | inr w ↦ inr (opens_nothing (g ++ DidHear p m t part.Fresh ∷ h) r (length (openings h)) p q m n i w.0 w.1 w.2)
]

pub strangers : (h g : List TransactionOp) (p q : Peer) (m n : Message Start) (t : ℕ) → IsRun (g ++ DidHear p m t part.Fresh ∷ h) → IsRetransmissionOf (head_of m) (head_of n) → (q.0 ≡ p.0 → ⊥) →
    EndWasReported (length (openings h)) g (DidHear p m t part.Fresh ∷ h) ⊎ (hear_result (g ++ DidHear p m t part.Fresh ∷ h) q n ≡ Some (heard.Repeat None))
strangers h g p q m n t r i d = elim (tracked_since h g p m t r) [
  | inl w ↦ inl w
  | inr w ↦ inr (stranger (g ++ DidHear p m t part.Fresh ∷ h) r (length (openings h)) p q m n i w.0 w.1 w.2 d)
]
