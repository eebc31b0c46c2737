-- What the ACK of a final ends, and what is sent for retransmissions of a final.
use Rattle.std.proofs.Common.{◌≡◌, ℕ, ◌<◌, List, [], ◌∷◌, ◌++◌, length, refl, true, false, Bool, not, ◌&&◌, ◌||◌, inl, inr, sym, ap, ◌∙◌, arith, cond, subst}
use Rattle.std.specs.Prelude.{Option, Some, None, ◌==◌, is_some, option_map}
use Rattle.std.specs.List.{list_any}
use Rattle.std.proofs.lemmas.Bool.{and_from, eq-eqb, ne_eqb, or_parts, eqb-false}
use Rattle.std.proofs.lemmas.Option.{none-some, same_Some}
use Rattle.mmtel_types.specs.declared.numbers.Peer.{Peer}
use Rattle.mmtel_message.specs.Message.{Message}
use Rattle.mmtel_message.specs.Texts.{message_text}
use Rattle.mmtel_message.specs.declared.messages.Start.{Start}
use Rattle.mmtel_transaction.specs.declared.entries.TransactionTimer.{TransactionTimer}
use Rattle.mmtel_transaction.specs.declared.entries.Entry.{Entry}
use Rattle.mmtel_transaction.specs.declared.entries.State.TheVariants.{Absorbing}
use Rattle.mmtel_transaction.specs.declared.entries.ReliableResponse.{ReliableResponse}
use Rattle.mmtel_transaction.specs.declared.message_class.MessageClass.{MessageClass}
use Rattle.mmtel_transaction.specs.declared.message_class.MessageClass.TheVariants as part
use Rattle.mmtel_transaction.specs.declared.words.Heard.{Heard}
use Rattle.mmtel_transaction.specs.declared.words.Heard.TheVariants as heard
use Rattle.mmtel_transaction.specs.declared.words.TKey.{TKey}
use Rattle.mmtel_transaction.specs.Heads.{head_of, is_invite, is_provisional, is_refusal}
use Rattle.mmtel_transaction.specs.Deadlines.{deadline, foremost_in, retransmission_at, state_retransmission_at}
use Rattle.mmtel_transaction.specs.Changes.{after_any_reply, after_failure_ack, after_final, after_provisional, after_reply, after_response}
use Rattle.mmtel_transaction.specs.Changes.{after_settling, after_timer, after_timer_by, is_ack_of, reliable_response_of, with_kept_ack, with_reliable_if}
use Rattle.mmtel_transaction.specs.Operations.{TransactionOp, DidBegin, DidHear, DidAsk, DidReply, DidAck, DidFire, DidSettle, change, change_on_receipt, is_live, live, send_count, openings, step_of}
use Rattle.mmtel_transaction.specs.Results.{bind_entry, by_key, key_of, last_sent, tkey}
use Rattle.mmtel_transaction.specs.Matching.{is_repeated_final, matched_result, matching_entry, matching_key, response_result}
use Rattle.mmtel_transaction.specs.Runs.{IsRun}
use Rattle.mmtel_transaction.specs.Retransmissions.{AckedRetransmitsNothing, AcksOf2xxEndRetransmission, EndsSuccess, KeptAcksAreRetransmitted, ReceivedRefusal, is_ack_in}
use Rattle.mmtel_transaction.proofs.Lists.{Keeps, keeps_change}
use Rattle.mmtel_timers.specs.Shelves.{Has}
use Rattle.mmtel_transaction.proofs.Having.{at_key, has_live, has_more, has_more_back, of_key, same_entry}
use Rattle.mmtel_transaction.proofs.Acks.{acked_retransmits_none, sound}
use Rattle.mmtel_transaction.proofs.Among.{live_below, run_end}
use Rattle.mmtel_transaction.proofs.Matches.{hears_by_matching, owners_are_live}
use Rattle.mmtel_transaction.proofs.Ends.{more_opened, news_key}
use Rattle.mmtel_transaction.proofs.Unchanged.{any_reply_client}

-- ---- the ACK of a 2xx

module _ (h : List TransactionOp) (p : Peer) (m : Message Start) (now : ℕ) where
  abbrev call : TransactionOp
  call = DidHear p m now part.AckOf2xx

  abbrev ended : Entry → Entry
  ended e = record e { is_acked = true; state = Absorbing; step = step_of h }

  after : (e : Entry) → by_key e.key (live h) ≡ Some e → is_ack_of (head_of m) e ≡ true → by_key e.key (live (call ∷ h)) ≡ Some (ended e)
  after e q a =
      let g = of_key h e.key e q in
      let same : change (step_of h) (send_count h) call e ≡ ended e = ap (λ b. cond b (ended e) e) a in
      at_key (call ∷ h) (ended e) (subst (λ x. Has x (live (call ∷ h))) same (has_more call h e g.0 (ap is_live same ∙ has_live h e g.0)))

  other : (key : ℕ) (x : Entry) → by_key key (live h) ≡ Some x → is_ack_of (head_of m) x ≡ false → by_key key (live (call ∷ h)) ≡ Some x
  other key x q a =
      let g = of_key h key x q in
      let same : change (step_of h) (send_count h) call x ≡ x = ap (λ b. cond b (ended x) x) a in
      subst (λ j. by_key j (live (call ∷ h)) ≡ Some x) g.1 (at_key (call ∷ h) x (subst (λ y. Has y (live (call ∷ h))) same (has_more call h x g.0 (ap is_live same ∙ has_live h x g.0))))

  ends_success : (e : Entry) → by_key e.key (live h) ≡ Some e → is_ack_of (head_of m) e ≡ true → EndsSuccess e (head_of m) (live h) (live (call ∷ h))
  ends_success e q a = record {
    ended = ap (option_map retransmission_at) (after e q a);
    end = ap (option_map deadline) (after e q a);
    others = other;
  }

pub success : AcksOf2xxEndRetransmission
success h p m now e q a t = subst (λ x. EndsSuccess e (head_of m) (live h) (live (DidHear p m now x ∷ h))) (sym t) (ends_success h p m now e q a)

-- ---- what was acknowledged stays so

abbrev StaysAcked : Entry → Entry → Type 0
StaysAcked e x = e.is_acked ≡ true → x.is_acked ≡ true

module _ (s : ℕ) (e : Entry) where
  acked_if : (b : Bool) (x y : Entry) → StaysAcked e x → StaysAcked e y → StaysAcked e (cond b x y)
  acked_if true x y f g = f
  acked_if false x y f g = g

  acked_answered : (st now : ℕ) → StaysAcked e (after_response s st now e)
  acked_answered st now = acked_if (is_provisional st) (after_provisional s now e) (after_final s st now e)
      (acked_if (e.is_early || not (e.final_status == 0)) e _ (λ a. a) (λ a. a))
      (acked_if (not (is_invite e.head)) _ _ (λ a. a) (acked_if (not (e.final_status == 0)) _ _ (λ a. a) (λ a. a)))

  acked_hit : (k : ℕ) (x : Entry) → StaysAcked e x → StaysAcked e (cond (e.key == k) x e)
  acked_hit k x f = acked_if (e.key == k) x e f (λ a. a)

  acked_with : (o : Option ReliableResponse) → StaysAcked e (with_reliable_if o e)
  acked_with None = λ a. a
  acked_with (Some answer) = acked_if (not e.is_server || not (e.final_status == 0)) e _ (λ a. a) (λ a. a)

  acked_replied : (x : Entry) (i st : ℕ) (t g : List ℕ) (now : ℕ) → StaysAcked e x → StaysAcked e (after_reply s i st t g now x)
  acked_replied x i st t g now f = acked_if (not x.is_server || not (x.final_status == 0)) x _ f (acked_if (is_provisional st) _ _ f f)

  acked_offered : (i : ℕ) (m : Message Start) (now : ℕ) → StaysAcked e (after_any_reply s i m now e)
  acked_offered i m now =
      let o = reliable_response_of s i m (message_text m) now in
      acked_replied (with_reliable_if o e) i (head_of m).status (message_text m) (head_of m).to_tag now (acked_with o)

  acked_fired : (o : Option (ℕ × TransactionTimer)) → StaysAcked e (after_timer_by o s e)
  acked_fired (Some f) = λ a. a
  acked_fired None = acked_if (is_some (state_retransmission_at e)) _ _ (λ a. a) (λ a. a)

  acked_settled : (own : Option ℕ) → StaysAcked e (after_settling own e)
  acked_settled None = λ a. a
  acked_settled (Some own) = λ a. a

  acked_heard : (m : Message Start) (now : ℕ) (t : MessageClass) → StaysAcked e (change_on_receipt s m now t e)
  acked_heard m now part.Fresh a = a
  acked_heard m now part.Full a = a
  acked_heard m now (part.Repeat k) a = a
  acked_heard m now (part.RepeatedFinal k) a = a
  acked_heard m now (part.Answer k) a = acked_hit k (after_response s (head_of m).status now e) (acked_answered (head_of m).status now) a
  acked_heard m now (part.Acked k) a = acked_hit k (after_failure_ack s now e) (acked_if e.is_acked e _ (λ b. b) (λ b. refl)) a
  acked_heard m now part.AckOf2xx a = acked_if (is_ack_of (head_of m) e) _ e (λ b. refl) (λ b. b) a
  acked_heard m now part.Stray a = a

  acked_change : (i : ℕ) (c : TransactionOp) → StaysAcked e (change s i c e)
  acked_change i (DidBegin n) a = a
  acked_change i (DidHear p m now t) a = acked_heard m now t a
  acked_change i (DidAsk p m now) a = a
  acked_change i (DidReply k m now) a = acked_hit k (after_any_reply s i m now e) (acked_offered i m now) a
  acked_change i (DidAck k m) a = acked_hit k (with_kept_ack (message_text m) e) (acked_if (not e.is_server && e.is_refused) _ e (λ b. b) (λ b. b)) a
  acked_change i (DidFire k) a = acked_hit k (after_timer s e) (acked_fired (foremost_in e)) a
  acked_change i (DidSettle k own) a = acked_hit k (after_settling own e) (acked_settled own) a

-- what each operation preserves of a transaction holds of it for as long as it is live
module _ (P : Entry → Type 0) (key : ℕ) (loud : TransactionOp → Bool)
    (keep : (c : TransactionOp) (f : List TransactionOp) (e : Entry) → loud c ≡ false → e.key ≡ key → P e → P (change (step_of f) (send_count f) c e)) where
  kept_along : (g h : List TransactionOp) → list_any loud g ≡ false → key < length (openings h) → ((e : Entry) → by_key key (live h) ≡ Some e → P e) → (x : Entry) → by_key key (live (g ++ h)) ≡ Some x → P x
  kept_along [] h quiet less first x q = first x q
  kept_along (c ∷ g) h quiet less first x q =
      let f : List TransactionOp = g ++ h in
      let a = or_parts (loud c) (list_any loud g) quiet in
      let v = of_key (c ∷ f) key x q in
      elim (has_more_back c f x v.0) [
        | inl w ↦
            let y : Entry = w.0 in
            let k : y.key ≡ key = sym ((keeps_change (step_of f) (send_count f) c y).key) ∙ (ap (λ (z : Entry). z.key) (sym w.2) ∙ v.1) in
            let before : P y = kept_along g h a.1 less first y (subst (λ j. by_key j (live f) ≡ Some y) k (at_key f y w.1)) in
            subst P (sym w.2) (keep c f y a.0 k before)
        | inr n ↦ absurd (omega (arith, less, more_opened h g, v.1, news_key (step_of f) (send_count f) (length (openings f)) c x n))
      ]

never : (g : List TransactionOp) → list_any (λ c. false) g ≡ false
never [] = refl
never (c ∷ g) = never g

pub acked_retransmits_nothing : AckedRetransmitsNothing
acked_retransmits_nothing h g key e x run q a r =
    let first : (y : Entry) → by_key key (live h) ≡ Some y → y.is_acked ≡ true = λ y f. ap (λ (z : Entry). z.is_acked) (same_Some y e (sym f ∙ q)) ∙ a in
    let k : e.key ≡ key = (of_key h key e q).1 in
    let less : key < length (openings h) = subst (λ j. j < length (openings h)) k (live_below h e (of_key h key e q).0) in
    let kept = kept_along (λ y. y.is_acked ≡ true) key (λ c. false) (λ c f y l j b. acked_change (step_of f) y (send_count f) c b) g h (never g) less first x r in
    acked_retransmits_none x (sound (g ++ h) run x (of_key (g ++ h) key x r).0) kept

-- ---- the ACK that was sent

abbrev Holds : Entry → Entry → Type 0
Holds e x = (x.last ≡ e.last) × (e.is_refused ≡ true → x.is_refused ≡ true) × (x.final_status ≡ e.final_status)

module _ (s : ℕ) (e : Entry) (client : e.is_server ≡ false) (done : (e.final_status == 0) ≡ false) where
  holds_if : (b : Bool) (x y : Entry) → Holds e x → Holds e y → Holds e (cond b x y)
  holds_if true x y f g = f
  holds_if false x y f g = g

  as_it_is : Holds e e
  as_it_is = (refl, λ r. r, refl)

  holds_finished : (st now : ℕ) → Holds e (after_final s st now e)
  holds_finished st now =
      holds_if (not (is_invite e.head)) (record e { is_terminated = true }) _ (refl, λ r. r, refl)
      (subst (λ b. Holds e (cond (not b) (record e { is_refused = e.is_refused || is_refusal st })
      (record e { state = Absorbing; start = now; retransmissions = 0; step = s; final_status = st; is_refused = is_refusal st }))) (sym done) (refl, λ r. ap (λ b. b || is_refusal st) r, refl))

  holds_answered : (st now : ℕ) → Holds e (after_response s st now e)
  holds_answered st now = holds_if (is_provisional st) (after_provisional s now e) (after_final s st now e) (holds_if (e.is_early || not (e.final_status == 0)) e _ as_it_is (refl, λ r. r, refl)) (holds_finished st now)

  holds_hit : (k : ℕ) (x : Entry) → Holds e x → Holds e (cond (e.key == k) x e)
  holds_hit k x f = holds_if (e.key == k) x e f as_it_is

  holds_heard : (m : Message Start) (now : ℕ) (t : MessageClass) → Holds e (change_on_receipt s m now t e)
  holds_heard m now part.Fresh = as_it_is
  holds_heard m now part.Full = as_it_is
  holds_heard m now (part.Repeat k) = as_it_is
  holds_heard m now (part.RepeatedFinal k) = as_it_is
  holds_heard m now (part.Answer k) = holds_hit k (after_response s (head_of m).status now e) (holds_answered (head_of m).status now)
  holds_heard m now (part.Acked k) = holds_hit k (after_failure_ack s now e) (holds_if e.is_acked e _ as_it_is (refl, λ r. r, refl))
  holds_heard m now part.AckOf2xx = holds_if (is_ack_of (head_of m) e) _ e (refl, λ r. r, refl) as_it_is
  holds_heard m now part.Stray = as_it_is

  holds_offered : (i : ℕ) (m : Message Start) (now : ℕ) → Holds e (after_any_reply s i m now e)
  holds_offered i m now = subst (Holds e) (sym (any_reply_client s i m now e client)) as_it_is

  holds_fired : (o : Option (ℕ × TransactionTimer)) → Holds e (after_timer_by o s e)
  holds_fired (Some f) = (refl, λ r. r, refl)
  holds_fired None = holds_if (is_some (state_retransmission_at e)) _ _ (refl, λ r. r, refl) (refl, λ r. r, refl)

  holds_settled : (own : Option ℕ) → Holds e (after_settling own e)
  holds_settled None = (refl, λ r. r, refl)
  holds_settled (Some own) = (refl, λ r. r, refl)

  holds_change : (i : ℕ) (c : TransactionOp) → is_ack_in e.key c ≡ false → Holds e (change s i c e)
  holds_change i (DidBegin n) q = as_it_is
  holds_change i (DidHear p m now t) q = holds_heard m now t
  holds_change i (DidAsk p m now) q = as_it_is
  holds_change i (DidReply k m now) q = holds_hit k (after_any_reply s i m now e) (holds_offered i m now)
  holds_change i (DidAck k m) q = subst (λ b. Holds e (cond b (with_kept_ack (message_text m) e) e)) (sym (ne_eqb e.key k (λ f. eqb-false k e.key q (sym f)))) as_it_is
  holds_change i (DidFire k) q = holds_hit k (after_timer s e) (holds_fired (foremost_in e))
  holds_change i (DidSettle k own) q = holds_hit k (after_settling own e) (holds_settled own)

-- a client INVITE transaction with this ACK
record Keeping (p : Peer) (text : List ℕ) (e : Entry) : Type 0 where
  client : e.is_server ≡ false
  invite : is_invite e.head ≡ true
  refused : e.is_refused ≡ true
  done : (e.final_status == 0) ≡ false
  peer : e.peer ≡ p
  last : e.last ≡ Some text

keeping_more : (p : Peer) (text : List ℕ) (e x : Entry) → Keeps e x → Holds e x → Keeping p text e → Keeping p text x
keeping_more p text e x k w t = record {
  client = k.server ∙ t.client;
  invite = ap is_invite k.head ∙ t.invite;
  refused = w.1 t.refused;
  done = ap (λ (n : ℕ). n == 0) w.2 ∙ t.done;
  peer = k.peer ∙ t.peer;
  last = w.0 ∙ t.last;
}

keeps_it : (p : Peer) (text : List ℕ) (key : ℕ) (c : TransactionOp) (f : List TransactionOp) (e : Entry) → is_ack_in key c ≡ false → e.key ≡ key → Keeping p text e → Keeping p text (change (step_of f) (send_count f) c e)
keeps_it p text key c f e q k t = keeping_more p text e (change (step_of f) (send_count f) c e) (keeps_change (step_of f) (send_count f) c e)
    (holds_change (step_of f) e t.client t.done (send_count f) c (subst (λ j. is_ack_in j c ≡ false) (sym k) q)) t

module _ (h : List TransactionOp) (key : ℕ) (e : Entry) (m : Message Start) (run : IsRun h) (w : ReceivedRefusal key e h) where
  its : Has e (live h) × (e.key ≡ key)
  its = of_key h key e w.live

  keeps_text : change (step_of h) (send_count h) (DidAck key m) e ≡ record e { last = Some (message_text m) }
  keeps_text =
      ap (λ b. cond b (with_kept_ack (message_text m) e) e) (eq-eqb e.key key its.1)
      ∙ (ap (λ b. cond (not b && e.is_refused) (record e { last = Some (message_text m) }) e) w.client
      ∙ ap (λ b. cond b (record e { last = Some (message_text m) }) e) w.refused)

  kept_first : (x : Entry) → by_key key (live (DidAck key m ∷ h)) ≡ Some x → Keeping e.peer (message_text m) x
  kept_first x q =
      let y : Entry = record e { last = Some (message_text m) } in
      let g : Has y (live (DidAck key m ∷ h)) = subst (λ z. Has z (live (DidAck key m ∷ h))) keeps_text (has_more (DidAck key m) h e its.0 (ap is_live keeps_text ∙ has_live h e its.0)) in
      let v = of_key (DidAck key m ∷ h) key x q in
      subst (Keeping e.peer (message_text m)) (same_entry (DidAck key m ∷ h) y x g v.0 (its.1 ∙ sym v.1)) (record {
        client = w.client;
        invite = w.invite;
        refused = w.refused;
        done = (sound h run e its.0).refused w.refused;
        peer = refl;
        last = refl;
      })

  less_after : key < length (openings (DidAck key m ∷ h))
  less_after = omega (arith, subst (λ j. j < length (openings h)) its.1 (live_below h e its.0), more_opened h (DidAck key m ∷ []))

  keeping : (g : List TransactionOp) → list_any (is_ack_in key) g ≡ false → (x : Entry) → by_key key (live (g ++ DidAck key m ∷ h)) ≡ Some x → Keeping e.peer (message_text m) x
  keeping g quiet x q = kept_along (Keeping e.peer (message_text m)) key (is_ack_in key) (keeps_it e.peer (message_text m) key) g (DidAck key m ∷ h) quiet less_after kept_first x q

key_is : (o : Option Entry) (key : ℕ) → option_map key_of o ≡ Some (tkey key) → (x : Entry) × (o ≡ Some x) × (x.key ≡ key)
key_is None key q = absurd (none-some (tkey key) q)
key_is (Some x) key q = (x, refl, ap (λ (k : TKey). k.0) (same_Some (key_of x) (tkey key) q))

gives_text : (x : Entry) (p : Peer) (text : List ℕ) → Keeping p text x → last_sent x ≡ Some (p, text)
gives_text x p text k = ap (option_map (λ t. (x.peer, t))) k.last ∙ ap (λ (y : Peer). Some (y, text)) k.peer

module _ (L : List TransactionOp) (key : ℕ) (n : Message Start) (p q : Peer) (text : List ℕ) (b : matching_key L n ≡ Some (tkey key)) (keep : (x : Entry) → by_key key (live L) ≡ Some x → Keeping p text x) where
  response_is : (r : Bool) (o : Option Heard) → r ≡ false → cond (not r) (Some (response_result (live L) n (Some (tkey key)))) o ≡ Some (response_result (live L) n (Some (tkey key)))
  response_is r o f = ap (λ x. cond (not x) (Some (response_result (live L) n (Some (tkey key)))) o) f

  its_entry : (x : Entry) × (by_key key (live L) ≡ Some x)
  its_entry = let w = key_is (matching_entry (head_of n) (live L)) key b in (w.0, subst (λ j. by_key j (live L) ≡ Some w.0) w.2 (owners_are_live L n w.0 w.1))

  repeats : is_refusal (head_of n).status ≡ true → response_result (live L) n (Some (tkey key)) ≡ heard.Repeat (Some (p, text))
  repeats r =
      let x : Entry = its_entry.0 in
      let k = keep x its_entry.1 in
      ap (λ (o : Option Entry). cond (is_repeated_final (head_of n) o) (heard.Repeat (bind_entry last_sent o)) (heard.Answer (tkey key) n)) its_entry.1
      ∙ (ap (λ c. cond c (heard.Repeat (last_sent x)) (heard.Answer (tkey key) n)) (and_from _ _ (and_from _ _ k.invite k.refused) r)
      ∙ ap (λ (g : Option (Peer × List ℕ)). heard.Repeat g) (gives_text x p text k))

pub kept_acks_are_retransmitted : KeptAcksAreRetransmitted
kept_acks_are_retransmitted h g key e m n p run w quiet response refusal b =
    let L : List TransactionOp = g ++ DidAck key m ∷ h in
    hears_by_matching L p n
    ∙ (ap (matched_result L p n) b
    ∙ (response_is L key n e.peer p (message_text m) b (keeping h key e m (run_end g (DidAck key m ∷ h) run) w g quiet) (head_of n).is_request _ response
    ∙ ap (λ (x : Heard). Some x) (repeats L key n e.peer p (message_text m) b (keeping h key e m (run_end g (DidAck key m ∷ h) run) w g quiet) refusal)))
