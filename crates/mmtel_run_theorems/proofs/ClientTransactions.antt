-- The requests that were sent to peers in a run: each client transaction was opened by one, and requests whose response is awaited have numbers of their own, so one branch is of one peer (RFC 3261 §8.1.1.7, §17.1.3).
use Rattle.std.proofs.Common.{◌≡◌, ◌<◌, ◌≤◌, ◌+◌, ◌^◌, ◌==◌, ◌||◌, ◌&&◌, Bool, true, false, not, ℕ, suc, List, [], ◌∷◌, ◌++◌, length, map, Option, Some, None, refl, sym, ap, ◌∙◌, subst, inl, inr, arith, codes, nat_lt}
use Rattle.std.specs.Prelude.{◌⊎◌, if◌then◌else◌, filter, is_some}
use Rattle.std.specs.List.{find}
use Rattle.std.specs.Option.{option_map}
use Rattle.std.specs.Str.{bytes_eq}
use Rattle.std.proofs.lemmas.Bool.{cases_Bool}
use Rattle.std.proofs.lemmas.List.{append_cancel_left}
use Rattle.mmtel_call_theorems.specs.Branches.SentRequests.{AreNumbered, Each, IsAwaited, IsNotAwaited, IsNumbered, RequestWasSent, SomeInviteWasSent, requests_in}
use Rattle.mmtel_output.specs.ResponseMatching.{is_awaited_method}
use Rattle.mmtel_lex.specs.Grammar.{IsToken}
use Rattle.mmtel_message.specs.Fields.{five_at}
use Rattle.mmtel_message.specs.Message.{Message}
use Rattle.mmtel_message.specs.Texts.{message_text}
use Rattle.mmtel_message.specs.Vias.{IsSource}
use Rattle.mmtel_message.specs.declared.messages.Start.{Start}
use Rattle.mmtel_base.specs.Numbers.{token_text}
use Rattle.mmtel_base.proofs.Runs.{and_true}
use Rattle.mmtel_transaction.specs.Results.{ack_class, by_key, class_of, is_client_of, is_full, is_invite_of, is_server_of, peer_of, request_class, response_class}
use Rattle.mmtel_transaction.specs.Matching.{OwnersAreLive, if_refused}
use Rattle.mmtel_transaction.specs.Operations.{DidAck, DidAsk, DidBegin, DidFire, DidHear, DidReply, DidSettle, TransactionOp, change}
use Rattle.mmtel_transaction.specs.Operations.{change_on_receipt, entry_of, is_live, live, opened_on_receipt, openings, opens, send_count, step_of}
use Rattle.mmtel_transaction.specs.Changes.{after_ack_2xx, after_any_reply, after_failure_ack, after_final, after_provisional, after_reply, after_response}
use Rattle.mmtel_transaction.specs.Changes.{after_settling, after_timer, after_timer_by, change_of_key, is_ack_of, reliable_response_of, with_kept_ack, with_reliable_if}
use Rattle.mmtel_transaction.specs.Deadlines.{foremost_in, state_retransmission_at}
use Rattle.mmtel_transaction.specs.Heads.{head_of, is_ack, is_cancel, is_invite, is_provisional, is_refusal}
use Rattle.mmtel_transaction.specs.Theorems.{TokensDiffer}
use Rattle.mmtel_transaction.specs.declared.entries.TransactionTimer.{TransactionTimer}
use Rattle.mmtel_transaction.specs.declared.entries.Entry.{Entry}
use Rattle.mmtel_transaction.specs.declared.entries.ReliableResponse.{ReliableResponse}
use Rattle.mmtel_transaction.specs.declared.words.Emit.{Emit}
use Rattle.mmtel_transaction.specs.declared.words.Emit.TheVariants as emit
use Rattle.mmtel_transaction.specs.declared.heads.Head.{Head}
use Rattle.mmtel_transaction.specs.declared.message_class.MessageClass.{MessageClass}
use Rattle.mmtel_transaction.specs.declared.message_class.MessageClass.TheVariants as part
use Rattle.mmtel_types.specs.declared.addrs.Addr.{Addr}
use Rattle.mmtel_types.specs.declared.numbers.Peer.{Peer}
use Rattle.mmtel_run_theorems.proofs.Branches.{awaited_branch, branch_once, cookie, drawn_token, not_both, numbers_same, text_same}
use Rattle.mmtel_run_theorems.proofs.RoleBounds.{true_false}

-- ---- each of a list

pub each_append : {A : Type 0} (P : A → Type 0) (xs ys : List A) → Each P xs → Each P ys → Each P (xs ++ ys)
each_append P [] ys e f = f
each_append P (x ∷ xs) ys e f = (e.0, each_append P xs ys e.1 f)

pub each_same : {A : Type 0} (P Q : A → Type 0) → ((x : A) → P x → Q x) → (xs : List A) → Each P xs → Each Q xs
each_same P Q go [] e = tt
each_same P Q go (x ∷ xs) e = (go x e.0, each_same P Q go xs e.1)

each_map : {A : Type 0} (P : A → Type 0) (f : A → A) → ((x : A) → P x → P (f x)) → (xs : List A) → Each P xs → Each P (map f xs)
each_map P f go [] e = tt
each_map P f go (x ∷ xs) e = (go x e.0, each_map P f go xs e.1)

each_filter : {A : Type 0} (P : A → Type 0) (f : A → Bool) (xs : List A) → Each P xs → Each P (filter f xs)
each_filter P f [] e = tt
each_filter P f (x ∷ xs) e = elim (cases_Bool (f x)) [
  | inl y ↦ rw y (e.0, each_filter P f xs e.1)
  | inr n ↦ rw n (each_filter P f xs e.1)
]

pub each_found : {A : Type 0} (P : A → Type 0) (f : A → Bool) (xs : List A) (y : A) → Each P xs → find f xs ≡ Some y → P y × (f y ≡ true)
each_found P f [] y e is = let none : None ≡ Some y = is in absurd cc
each_found P f (x ∷ xs) y e is = elim (cases_Bool (f x)) [
  | inl z ↦
      let same : Some x ≡ Some y = sym (ap (λ b. if b then Some x else find f xs) z) ∙ is in
      let it : x ≡ y = cc in
      (subst P it e.0, subst (λ w. f w ≡ true) it z)
  | inr z ↦ each_found P f xs y e.1 (sym (ap (λ b. if b then Some x else find f xs) z) ∙ is)
]

-- ---- the requests that were sent, the newest first

abbrev pub asks_of : List TransactionOp → List (Peer × Message Start)
asks_of [] = []
asks_of (DidBegin step ∷ h) = asks_of h
asks_of (DidHear peer m now taken ∷ h) = asks_of h
asks_of (DidAsk peer m now ∷ h) = (peer, m) ∷ asks_of h
asks_of (DidReply key m now ∷ h) = asks_of h
asks_of (DidAck key m ∷ h) = asks_of h
asks_of (DidFire key ∷ h) = asks_of h
asks_of (DidSettle key own ∷ h) = asks_of h

-- once this was sent too
abbrev pub asks_after : List Emit → List (Peer × Message Start) → List (Peer × Message Start)
asks_after [] asks = asks
asks_after (emit.Ask peer m ∷ out) asks = asks_after out ((peer, m) ∷ asks)
asks_after (emit.Reply key m ∷ out) asks = asks_after out asks
asks_after (emit.Plain peer text ∷ out) asks = asks_after out asks
asks_after (emit.Ack key m ∷ out) asks = asks_after out asks
asks_after (emit.Settled key own ∷ out) asks = asks_after out asks
asks_after (emit.Arm call what at ∷ out) asks = asks_after out asks
asks_after (emit.ArmSeat room seat what at ∷ out) asks = asks_after out asks

-- a request that was sent before, or is among these, was sent then
module _ (sip : Addr) (method branch : List ℕ) (peer : Peer) where
  pub sent_after : (out : List Emit) (asks : List (Peer × Message Start)) → RequestWasSent sip asks method branch peer ⊎ RequestWasSent sip (requests_in out) method branch peer →
      RequestWasSent sip (asks_after out asks) method branch peer
  sent_after [] asks (inl is) = is
  sent_after [] asks (inr is) = absurd is
  sent_after (emit.Ask p m ∷ out) asks (inl is) = sent_after out ((p, m) ∷ asks) (inl (inr is))
  sent_after (emit.Ask p m ∷ out) asks (inr (inl here)) = sent_after out ((p, m) ∷ asks) (inl (inl here))
  sent_after (emit.Ask p m ∷ out) asks (inr (inr there)) = sent_after out ((p, m) ∷ asks) (inr there)
  sent_after (emit.Reply key m ∷ out) asks is = sent_after out asks is
  sent_after (emit.Plain p text ∷ out) asks is = sent_after out asks is
  sent_after (emit.Ack key m ∷ out) asks is = sent_after out asks is
  sent_after (emit.Settled key own ∷ out) asks is = sent_after out asks is
  sent_after (emit.Arm call what at ∷ out) asks is = sent_after out asks is
  sent_after (emit.ArmSeat room seat what at ∷ out) asks is = sent_after out asks is

  pub sent_parted : (asks others : List (Peer × Message Start)) → RequestWasSent sip (asks ++ others) method branch peer → RequestWasSent sip asks method branch peer ⊎ RequestWasSent sip others method branch peer
  sent_parted [] others is = inr is
  sent_parted (ask ∷ asks) others (inl here) = inl (inl here)
  sent_parted (ask ∷ asks) others (inr there) = part_of_rest (sent_parted asks others there)
    where
      part_of_rest : RequestWasSent sip asks method branch peer ⊎ RequestWasSent sip others method branch peer → RequestWasSent sip (ask ∷ asks) method branch peer ⊎ RequestWasSent sip others method branch peer
      part_of_rest (inl is) = inl (inr is)
      part_of_rest (inr is) = inr is

abbrev HasSentRequest : List (Peer × Message Start) → Peer → Message Start → Type 0
HasSentRequest [] peer m = ⊥
HasSentRequest (ask ∷ asks) peer m = ((ask.0 ≡ peer) × (ask.1 ≡ m)) ⊎ HasSentRequest asks peer m

-- ---- a client transaction was opened by a request that was sent, and keeps its peer and its request

record IsOfSentRequest (asks : List (Peer × Message Start)) (e : Entry) : Type 0 where
  client : e.is_server ≡ false → (m : Message Start) × HasSentRequest asks e.peer m × (e.head ≡ head_of m)

module _ (asks : List (Peer × Message Start)) where
  either : (b : Bool) (x y : Entry) → IsOfSentRequest asks x → IsOfSentRequest asks y → IsOfSentRequest asks (if b then x else y)
  either true x y e f = e
  either false x y e f = f

  change_of_key_asked : (key : ℕ) (f : Entry → Entry) (e : Entry) → IsOfSentRequest asks e → IsOfSentRequest asks (f e) → IsOfSentRequest asks (change_of_key key f e)
  change_of_key_asked key f e is after = either (e.key == key) (f e) e after is

  after_timer_by_asked : (first : Option (ℕ × TransactionTimer)) (step : ℕ) (e : Entry) → IsOfSentRequest asks e → IsOfSentRequest asks (after_timer_by first step e)
  after_timer_by_asked None step e is = either (is_some (state_retransmission_at e)) (record e { retransmissions = e.retransmissions + 1; step = step }) (record e { is_terminated = true })
      (record { client = is.client }) (record { client = is.client })
  after_timer_by_asked (Some first) step e is = record { client = is.client }

  after_timer_asked : (step : ℕ) (e : Entry) → IsOfSentRequest asks e → IsOfSentRequest asks (after_timer step e)
  after_timer_asked step e is = after_timer_by_asked (foremost_in e) step e is

  answers_asked : (answer : Option ReliableResponse) (e : Entry) → IsOfSentRequest asks e → IsOfSentRequest asks (with_reliable_if answer e)
  answers_asked None e is = is
  answers_asked (Some answer) e is =
      either (not e.is_server || not (e.final_status == 0)) e (record e { reliable = e.reliable ++ answer ∷ [] }) is (record { client = is.client })

  after_settling_asked : (own : Option ℕ) (e : Entry) → IsOfSentRequest asks e → IsOfSentRequest asks (after_settling own e)
  after_settling_asked None e is = record { client = is.client }
  after_settling_asked (Some own) e is = record { client = is.client }

  after_reply_asked : (step order status : ℕ) (text tag : List ℕ) (now : ℕ) (e : Entry) → IsOfSentRequest asks e → IsOfSentRequest asks (after_reply step order status text tag now e)
  after_reply_asked step order status text tag now e is = elim (cases_Bool (not e.is_server || not (e.final_status == 0))) [
    | inl y ↦ rw y is
    | inr n ↦ elim (cases_Bool (is_provisional status)) [
      | inl p ↦ rw (n, p) (record { client = is.client })
      | inr q ↦ rw (n, q) (record { client = is.client })
    ]
  ]

  after_any_reply_asked : (step order : ℕ) (m : Message Start) (now : ℕ) (e : Entry) → IsOfSentRequest asks e → IsOfSentRequest asks (after_any_reply step order m now e)
  after_any_reply_asked step order m now e is =
      after_reply_asked step order (head_of m).status (message_text m) (head_of m).to_tag now (with_reliable_if (reliable_response_of step order m (message_text m) now) e)
      (answers_asked (reliable_response_of step order m (message_text m) now) e is)

  after_provisional_asked : (step now : ℕ) (e : Entry) → IsOfSentRequest asks e → IsOfSentRequest asks (after_provisional step now e)
  after_provisional_asked step now e is = elim (cases_Bool (e.is_early || not (e.final_status == 0))) [
    | inl y ↦ rw y is
    | inr n ↦ rw n (record { client = is.client })
  ]

  after_final_asked : (step status now : ℕ) (e : Entry) → IsOfSentRequest asks e → IsOfSentRequest asks (after_final step status now e)
  after_final_asked step status now e is = elim (cases_Bool (not (is_invite e.head))) [
    | inl y ↦ rw y (record { client = is.client })
    | inr n ↦ elim (cases_Bool (not (e.final_status == 0))) [
      | inl p ↦ rw (n, p) (record { client = is.client })
      | inr q ↦ rw (n, q) (record { client = is.client })
    ]
  ]

  after_response_asked : (step status now : ℕ) (e : Entry) → IsOfSentRequest asks e → IsOfSentRequest asks (after_response step status now e)
  after_response_asked step status now e is = either (is_provisional status) (after_provisional step now e) (after_final step status now e) (after_provisional_asked step now e is) (after_final_asked step status now e is)

  after_failure_ack_asked : (step now : ℕ) (e : Entry) → IsOfSentRequest asks e → IsOfSentRequest asks (after_failure_ack step now e)
  after_failure_ack_asked step now e is = elim (cases_Bool (e.is_acked)) [
    | inl y ↦ rw y (record { client = is.client })
    | inr n ↦ rw n (record { client = is.client })
  ]

  with_kept_ack_asked : (text : List ℕ) (e : Entry) → IsOfSentRequest asks e → IsOfSentRequest asks (with_kept_ack text e)
  with_kept_ack_asked text e is = elim (cases_Bool (not e.is_server && e.is_refused)) [
    | inl y ↦ rw y (record { client = is.client })
    | inr n ↦ rw n is
  ]

  after_ack_2xx_asked : (step : ℕ) (m : Head) (e : Entry) → IsOfSentRequest asks e → IsOfSentRequest asks (after_ack_2xx step m e)
  after_ack_2xx_asked step m e is = elim (cases_Bool (is_ack_of m e)) [
    | inl y ↦ rw y (record { client = is.client })
    | inr n ↦ rw n is
  ]

  received_asked : (step : ℕ) (m : Message Start) (now : ℕ) (t : MessageClass) (e : Entry) → IsOfSentRequest asks e → IsOfSentRequest asks (change_on_receipt step m now t e)
  received_asked step m now part.Fresh e is = is
  received_asked step m now part.Full e is = is
  received_asked step m now (part.Repeat key) e is = is
  received_asked step m now (part.RepeatedFinal key) e is = is
  received_asked step m now (part.Answer key) e is = change_of_key_asked key (after_response step (head_of m).status now) e is (after_response_asked step (head_of m).status now e is)
  received_asked step m now (part.Acked key) e is = change_of_key_asked key (after_failure_ack step now) e is (after_failure_ack_asked step now e is)
  received_asked step m now part.AckOf2xx e is = after_ack_2xx_asked step (head_of m) e is
  received_asked step m now part.Stray e is = is

  change_asked : (step order : ℕ) (c : TransactionOp) (e : Entry) → IsOfSentRequest asks e → IsOfSentRequest asks (change step order c e)
  change_asked step order (DidBegin n) e is = is
  change_asked step order (DidHear p m now t) e is = received_asked step m now t e is
  change_asked step order (DidAsk p m now) e is = is
  change_asked step order (DidReply key m now) e is = change_of_key_asked key (after_any_reply step order m now) e is (after_any_reply_asked step order m now e is)
  change_asked step order (DidAck key m) e is = change_of_key_asked key (with_kept_ack (message_text m)) e is (with_kept_ack_asked (message_text m) e is)
  change_asked step order (DidFire key) e is = change_of_key_asked key (after_timer step) e is (after_timer_asked step e is)
  change_asked step order (DidSettle key own) e is = change_of_key_asked key (after_settling own) e is (after_settling_asked own e is)

  entry_asked : (h : List TransactionOp) (e : Entry) → IsOfSentRequest asks e → IsOfSentRequest asks (entry_of h e)
  entry_asked [] e is = is
  entry_asked (c ∷ h) e is = either (nat_lt e.key (length (openings h))) (change (step_of h) (send_count h) c (entry_of h e)) e (change_asked (step_of h) (send_count h) c (entry_of h e) (entry_asked h e is)) is

later : (c : TransactionOp) (h : List TransactionOp) (peer : Peer) (m : Message Start) → HasSentRequest (asks_of h) peer m → HasSentRequest (asks_of (c ∷ h)) peer m
later (DidBegin step) h peer m is = is
later (DidHear p n now taken) h peer m is = is
later (DidAsk p n now) h peer m is = inr is
later (DidReply key n now) h peer m is = is
later (DidAck key n) h peer m is = is
later (DidFire key) h peer m is = is
later (DidSettle key own) h peer m is = is

later_asked : (c : TransactionOp) (h : List TransactionOp) (e : Entry) → IsOfSentRequest (asks_of h) e → IsOfSentRequest (asks_of (c ∷ h)) e
later_asked c h e is = record { client = λ none. let x = is.client none in (x.0, later c h e.peer x.0 x.1, x.2) }

-- what an operation opens
received_new : (asks : List (Peer × Message Start)) (step key : ℕ) (p : Peer) (m : Message Start) (now : ℕ) (t : MessageClass) → Each (IsOfSentRequest asks) (opened_on_receipt step key p m now t)
received_new asks step key p m now part.Fresh = (record { client = λ none. absurd (true_false none) }, tt)
received_new asks step key p m now part.Full = tt
received_new asks step key p m now (part.Repeat k) = tt
received_new asks step key p m now (part.RepeatedFinal k) = tt
received_new asks step key p m now (part.Answer k) = tt
received_new asks step key p m now (part.Acked k) = tt
received_new asks step key p m now part.AckOf2xx = tt
received_new asks step key p m now part.Stray = tt

new_asked : (step order key : ℕ) (c : TransactionOp) (h : List TransactionOp) → Each (IsOfSentRequest (asks_of (c ∷ h))) (opens step order key c)
new_asked step order key (DidBegin n) h = tt
new_asked step order key (DidHear p m now t) h = received_new (asks_of h) step key p m now t
new_asked step order key (DidAsk p m now) h = (record { client = λ none. (m, inl (refl, refl), refl) }, tt)
new_asked step order key (DidReply k m now) h = tt
new_asked step order key (DidAck k m) h = tt
new_asked step order key (DidFire k) h = tt
new_asked step order key (DidSettle k own) h = tt

openings_asked : (h : List TransactionOp) → Each (IsOfSentRequest (asks_of h)) (openings h)
openings_asked [] = tt
openings_asked (c ∷ h) =
    each_append (IsOfSentRequest (asks_of (c ∷ h))) (openings h) (opens (step_of h) (send_count h) (length (openings h)) c)
    (each_same (IsOfSentRequest (asks_of h)) (IsOfSentRequest (asks_of (c ∷ h))) (later_asked c h) (openings h) (openings_asked h)) (new_asked (step_of h) (send_count h) (length (openings h)) c h)

live_asked : (h : List TransactionOp) → Each (IsOfSentRequest (asks_of h)) (live h)
live_asked h = each_filter (IsOfSentRequest (asks_of h)) is_live (map (entry_of h) (openings h)) (each_map (IsOfSentRequest (asks_of h)) (entry_of h) (entry_asked (asks_of h) h) (openings h) (openings_asked h))

-- ---- requests whose response is awaited have numbers of their own

module _ (sip : Addr) (text : List ℕ) where
  -- the numbers decrease from below this one
  abbrev pub Falls : (high : ℕ) → List (Peer × Message Start) → Type 0
  Falls high [] = Unit {0}
  Falls high (ask ∷ asks) = (IsNotAwaited ask.1 × Falls high asks) ⊎ ((n : ℕ) × (0 < n) × (n < high) × IsAwaited sip (token_text text n) ask.1 × Falls n asks)

  pub falls_more : (high higher : ℕ) (asks : List (Peer × Message Start)) → high ≤ higher → Falls high asks → Falls higher asks
  falls_more high higher [] le f = tt
  falls_more high higher (ask ∷ asks) le (inl none) = inl (none.0, falls_more high higher asks le none.1)
  falls_more high higher (ask ∷ asks) le (inr x) = let lt = x.2 in inr (x.0, x.1, omega (arith, lt, le), x.3, x.4)

  -- what is sent has greater ones
  number_on : (low next : ℕ) (e : Emit) → IsNumbered sip text low next e → low ≤ next
  number_on low next (emit.Ask peer m) (inl x) = let same = x.0 in omega (arith, same)
  number_on low next (emit.Ask peer m) (inr x) = let lt = x.0 in omega (arith, lt)
  number_on low next (emit.Reply key m) is = omega (arith, is)
  number_on low next (emit.Plain peer sample) is = omega (arith, is)
  number_on low next (emit.Ack key m) is = omega (arith, is)
  number_on low next (emit.Settled key own) is = omega (arith, is)
  number_on low next (emit.Arm call what at) is = omega (arith, is)
  number_on low next (emit.ArmSeat room seat what at) is = omega (arith, is)

  pub numbers_on : (low high : ℕ) (out : List Emit) → AreNumbered sip text low high out → low ≤ high
  numbers_on low high [] are = are
  numbers_on low high (e ∷ out) are =
      let first : low ≤ are.0 = number_on low are.0 e are.1 in
      let rest : are.0 ≤ high = numbers_on are.0 high out are.2 in
      omega (arith, first, rest)

  -- and comes first
  after_one : (low next high : ℕ) (e : Emit) (out : List Emit) (asks : List (Peer × Message Start)) → IsNumbered sip text low next e → Falls (suc low) asks →
      ((later : List (Peer × Message Start)) → Falls (suc next) later → Falls (suc high) (asks_after out later)) → Falls (suc high) (asks_after (e ∷ out) asks)
  after_one low next high (emit.Ask peer m) out asks (inl x) f rest = rest ((peer, m) ∷ asks) (inl (x.1, subst (λ (n : ℕ). Falls (suc n) asks) x.0 f))
  after_one low next high (emit.Ask peer m) out asks (inr x) f rest =
      let lt = x.0 in rest ((peer, m) ∷ asks) (inr (next, omega (arith, lt), omega arith, x.1, falls_more (suc low) next asks (omega (arith, lt)) f))
  after_one low next high (emit.Reply key m) out asks is f rest = rest asks (subst (λ (n : ℕ). Falls (suc n) asks) is f)
  after_one low next high (emit.Plain peer sample) out asks is f rest = rest asks (subst (λ (n : ℕ). Falls (suc n) asks) is f)
  after_one low next high (emit.Ack key m) out asks is f rest = rest asks (subst (λ (n : ℕ). Falls (suc n) asks) is f)
  after_one low next high (emit.Settled key own) out asks is f rest = rest asks (subst (λ (n : ℕ). Falls (suc n) asks) is f)
  after_one low next high (emit.Arm call what at) out asks is f rest = rest asks (subst (λ (n : ℕ). Falls (suc n) asks) is f)
  after_one low next high (emit.ArmSeat room seat what at) out asks is f rest = rest asks (subst (λ (n : ℕ). Falls (suc n) asks) is f)

  pub falls_after : (low high : ℕ) (out : List Emit) (asks : List (Peer × Message Start)) → AreNumbered sip text low high out → Falls (suc low) asks → Falls (suc high) (asks_after out asks)
  falls_after low high [] asks are f = falls_more (suc low) (suc high) asks (omega (arith, are)) f
  falls_after low high (e ∷ out) asks are f = after_one low are.0 high e out asks are.1 f (λ later g. falls_after are.0 high out later are.2 g)

  -- among the requests is one of this branch whose response is awaited, which was sent to this peer
  abbrev pub AwaitedWasSent : List (Peer × Message Start) → (branch : List ℕ) → Peer → Type 0
  AwaitedWasSent [] branch peer = ⊥
  AwaitedWasSent (ask ∷ asks) branch peer = ((ask.0 ≡ peer) × IsAwaited sip branch ask.1) ⊎ AwaitedWasSent asks branch peer

  -- where one of such a method is
  pub asked_awaited : (method : List ℕ) → is_awaited_method method ≡ true → (asks : List (Peer × Message Start)) (branch : List ℕ) (peer : Peer) → RequestWasSent sip asks method branch peer →
      AwaitedWasSent asks branch peer
  asked_awaited method waits [] branch peer is = absurd is
  asked_awaited method waits (ask ∷ asks) branch peer (inl here) = inl (here.0, record { method = method; awaited = waits; request = here.1 })
  asked_awaited method waits (ask ∷ asks) branch peer (inr there) = inr (asked_awaited method waits asks branch peer there)

  -- an INVITE
  pub invite_awaited : (asks : List (Peer × Message Start)) (branch : List ℕ) (peer : Peer) → SomeInviteWasSent sip asks branch peer → AwaitedWasSent asks branch peer
  invite_awaited = asked_awaited (codes "INVITE") refl

  sent_number : (high : ℕ) (asks : List (Peer × Message Start)) (branch : List ℕ) (peer : Peer) → Falls high asks → AwaitedWasSent asks branch peer → (n : ℕ) × (0 < n) × (n < high) × (branch ≡ token_text text n)
  sent_number high [] branch peer f is = absurd is
  sent_number high (ask ∷ asks) branch peer (inl none) (inl here) = absurd (not_both sip branch ask.1 none.0 here.1)
  sent_number high (ask ∷ asks) branch peer (inl none) (inr there) = sent_number high asks branch peer none.1 there
  sent_number high (ask ∷ asks) branch peer (inr x) (inl here) = (x.0, x.1, x.2, branch_once sip branch (token_text text x.0) ask.1 here.1 x.3)
  sent_number high (ask ∷ asks) branch peer (inr x) (inr there) =
      let y = sent_number x.0 asks branch peer x.4 there in
      let lt = x.2 in
      let less = y.2 in
      (y.0, y.1, omega (arith, lt, less), y.3)

  module _ (differ : TokensDiffer) where
    -- a number that comes after another one is not that
    apart : (n high : ℕ) (asks : List (Peer × Message Start)) (branch : List ℕ) (peer : Peer) → 0 < n → n < high → high ≤ 2 ^ 60 → branch ≡ token_text text n → Falls n asks → AwaitedWasSent asks branch peer → ⊥
    apart n high asks branch peer up lt top is f there =
        let y = sent_number n asks branch peer f there in
        let less = y.2 in
        let same : n ≡ y.0 = numbers_same differ text n y.0 up y.1 (omega (arith, lt, top)) (omega (arith, lt, top, less)) (sym is ∙ y.3) in
        omega (arith, same, less)

    pub sent_once : (high : ℕ) (asks : List (Peer × Message Start)) (branch : List ℕ) (one other : Peer) → high ≤ 2 ^ 60 → Falls high asks → AwaitedWasSent asks branch one → AwaitedWasSent asks branch other → one ≡ other
    sent_once high [] branch one other top f is too = absurd is
    sent_once high (ask ∷ asks) branch one other top f (inl here) (inl too) = sym here.0 ∙ too.0
    sent_once high (ask ∷ asks) branch one other top (inl none) (inl here) (inr there) = absurd (not_both sip branch ask.1 none.0 here.1)
    sent_once high (ask ∷ asks) branch one other top (inl none) (inr there) (inl here) = absurd (not_both sip branch ask.1 none.0 here.1)
    sent_once high (ask ∷ asks) branch one other top (inl none) (inr there) (inr too) = sent_once high asks branch one other top none.1 there too
    sent_once high (ask ∷ asks) branch one other top (inr x) (inl here) (inr there) =
        absurd (apart x.0 high asks branch other x.1 x.2 top (branch_once sip branch (token_text text x.0) ask.1 here.1 x.3) x.4 there)
    sent_once high (ask ∷ asks) branch one other top (inr x) (inr there) (inl here) =
        absurd (apart x.0 high asks branch one x.1 x.2 top (branch_once sip branch (token_text text x.0) ask.1 here.1 x.3) x.4 there)
    sent_once high (ask ∷ asks) branch one other top (inr x) (inr there) (inr too) =
        let lt = x.2 in sent_once x.0 asks branch one other (omega (arith, lt, top)) x.4 there too

  -- the request is one of these with a token, or none
  abbrev Kind : List (Peer × Message Start) → Peer → Message Start → Type 0
  Kind asks peer m = IsNotAwaited m ⊎ ((n : ℕ) × (n < 2 ^ 60) × IsAwaited sip (token_text text n) m × AwaitedWasSent asks (token_text text n) peer)

  kind_more : (ask : Peer × Message Start) (asks : List (Peer × Message Start)) (peer : Peer) (m : Message Start) → Kind asks peer m → Kind (ask ∷ asks) peer m
  kind_more ask asks peer m (inl none) = inl none
  kind_more ask asks peer m (inr x) = inr (x.0, x.1, x.2, inr x.3)

  kind_of : (high : ℕ) (asks : List (Peer × Message Start)) (peer : Peer) (m : Message Start) → high ≤ 2 ^ 60 → Falls high asks → HasSentRequest asks peer m → Kind asks peer m
  kind_of high [] peer m top f is = absurd is
  kind_of high (ask ∷ asks) peer m top (inl none) (inl here) = inl (subst IsNotAwaited here.1 none.0)
  kind_of high (ask ∷ asks) peer m top (inr x) (inl here) =
      let lt = x.2 in
      inr (x.0, omega (arith, lt, top), subst (IsAwaited sip (token_text text x.0)) here.1 x.3, inl (here.0, x.3))
  kind_of high (ask ∷ asks) peer m top (inl none) (inr there) = kind_more ask asks peer m (kind_of high asks peer m top none.1 there)
  kind_of high (ask ∷ asks) peer m top (inr x) (inr there) = let lt = x.2 in kind_more ask asks peer m (kind_of x.0 asks peer m (omega (arith, lt, top)) x.4 there)

  -- ---- the transaction of a response to such a request is with the peer to which that was sent

  module _ (is_source : IsSource sip) (port : 0 < sip.port) (is_token : IsToken text) where
    cookie_same : (one other : List ℕ) → cookie ++ one ≡ cookie ++ other → one ≡ other
    cookie_same one other e = append_cancel_left cookie one other e

    no_cookie : (branch : List ℕ) → [] ≡ cookie ++ branch → ⊥
    no_cookie branch e = absurd cc

    head_no : (m : Message Start) → IsNotAwaited m → is_awaited_method (head_of m).method ≡ false
    unfolding head_of
    head_no m none = none (five_at m.lines)

    by_kind : (asks : List (Peer × Message Start)) (peer : Peer) (m : Message Start) (branch : List ℕ) → Kind asks peer m → is_awaited_method (head_of m).method ≡ true →
        (head_of m).branch ≡ cookie ++ branch → AwaitedWasSent asks branch peer
    by_kind asks peer m branch (inl none) is_one same = absurd (true_false (sym is_one ∙ head_no m none))
    by_kind asks peer m branch (inr x) is_one same = read_back (awaited_branch m sip (token_text text x.0) is_source port (drawn_token text x.0 x.1 is_token) x.2)
      where
        read_back : ((head_of m).branch ≡ []) ⊎ ((head_of m).branch ≡ cookie ++ token_text text x.0) → AwaitedWasSent asks branch peer
        read_back (inl none) = absurd (no_cookie branch (sym none ∙ same))
        read_back (inr is) = subst (λ (b : List ℕ). AwaitedWasSent asks b peer) (cookie_same (token_text text x.0) branch (sym is ∙ same)) x.3

    found_sent : (high : ℕ) (h : List TransactionOp) (m : Head) (branch : List ℕ) (e : Entry) → high ≤ 2 ^ 60 → Falls high (asks_of h) → find (is_client_of m) (live h) ≡ Some e →
        m.branch ≡ cookie ++ branch → is_awaited_method m.method ≡ true
        → AwaitedWasSent (asks_of h) branch e.peer
    found_sent high h m branch e top f found same is_one =
        let it = each_found (IsOfSentRequest (asks_of h)) (is_client_of m) (live h) e (live_asked h) found in
        let tests = and_true (not e.is_server && bytes_eq e.head.branch m.branch) (bytes_eq e.head.method m.method) it.1 in
        let first = and_true (not e.is_server) (bytes_eq e.head.branch m.branch) tests.0 in
        let asked = it.0.client (client e.is_server first.0) in
        let method : e.head.method ≡ m.method = text_same e.head.method m.method tests.1 in
        let branch_is : e.head.branch ≡ m.branch = text_same e.head.branch m.branch first.1 in
        by_kind (asks_of h) e.peer asked.0 branch (kind_of high (asks_of h) e.peer asked.0 top f asked.1)
        (sym (ap (λ (x : Head). is_awaited_method x.method) asked.2) ∙ (ap is_awaited_method method ∙ is_one))
        (sym (ap (λ (x : Head). x.branch) asked.2) ∙ (branch_is ∙ same))
      where
        client : (b : Bool) → not b ≡ true → b ≡ false
        client true is = absurd (true_false (sym is))
        client false is = refl

    -- the transaction to which a response belongs
    abbrev key_in : MessageClass → ℕ
    key_in (part.Answer k) = k
    key_in part.Fresh = 0
    key_in part.Full = 0
    key_in (part.Repeat k) = 0
    key_in (part.RepeatedFinal k) = 0
    key_in (part.Acked k) = 0
    key_in part.AckOf2xx = 0
    key_in part.Stray = 0

    answered_by : (b : Bool) (e : Entry) (key : ℕ) → (if b then part.RepeatedFinal e.key else part.Answer e.key) ≡ part.Answer key → e.key ≡ key
    answered_by true e key is = let apart_is : part.RepeatedFinal e.key ≡ part.Answer key = is in absurd cc
    answered_by false e key is = ap key_in is

    answered_key : (m : Head) (o : Option Entry) (key : ℕ) → response_class m o ≡ part.Answer key → (e : Entry) × (o ≡ Some e) × (e.key ≡ key)
    answered_key m None key is = let apart_is : part.Stray ≡ part.Answer key = is in absurd cc
    answered_key m (Some e) key is = (e, refl, answered_by (is_invite e.head && e.is_refused && is_refusal m.status) e key is)

    response_part : (b c : Bool) (m : Head) (es : List Entry) (key : ℕ) → b ≡ false →
        (if b then (if c then ack_class (find (is_server_of m) es) else request_class (is_full es) (find (is_server_of m) es)) else response_class m (find (is_client_of m) es)) ≡ part.Answer key
        → response_class m (find (is_client_of m) es) ≡ part.Answer key
    response_part true c m es key is e = absurd (true_false is)
    response_part false c m es key is e = e

    owner_by : (b : Bool) (m : Head) (es : List Entry) (e : Entry) → b ≡ false → find (is_client_of m) es ≡ Some e →
        (if not b then find (is_client_of m) es else if is_ack m then if_refused (find (is_server_of m) es) else if is_cancel m then find (is_invite_of m) es else find (is_server_of m) es) ≡ Some e
    owner_by true m es e is found = absurd (true_false is)
    owner_by false m es e is found = found

    pub answer_sent : (owners : OwnersAreLive) (high : ℕ) (h : List TransactionOp) (m : Message Start) (branch : List ℕ) (key : ℕ) → high ≤ 2 ^ 60 → Falls high (asks_of h) →
        class_of (head_of m) (live h) ≡ part.Answer key
        → (head_of m).is_request ≡ false → (head_of m).branch ≡ cookie ++ branch → is_awaited_method (head_of m).method ≡ true → (q : Peer) × (peer_of key (live h) ≡ Some q) × AwaitedWasSent (asks_of h) branch q
    answer_sent owners high h m branch key top f part_is response same is_one =
        let n : Head = head_of m in
        let x = answered_key n (find (is_client_of n) (live h)) key (response_part n.is_request (is_ack n) n (live h) key response part_is) in
        let e : Entry = x.0 in
        let live_is : by_key e.key (live h) ≡ Some e = owners h m e (owner_by n.is_request n (live h) e response x.1) in
        (e.peer, sym (ap (λ (k : ℕ). peer_of k (live h)) x.2) ∙ ap (option_map (λ (y : Entry). y.peer)) live_is, found_sent high h n branch e top f x.1 same is_one)
