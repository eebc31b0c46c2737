-- The live transactions after one more operation are those before it, changed.
use Rattle.std.proofs.Common.{◌≡◌, ℕ, suc, ◌+◌, ◌≤◌, ◌<◌, List, [], ◌∷◌, ◌++◌, length, refl, true, false, Bool, not, ◌&&◌, ◌||◌, sym, ap, ◌∙◌, arith, map, cond, length-append, subst}
use Rattle.std.specs.Prelude.{nat_lt, ◌==◌, filter, is_some, Option, Some, None}
use Rattle.std.proofs.lemmas.List.{map-append}
use Rattle.std.proofs.lemmas.Bool.Decides.{nat_tests}
use Rattle.mmtel_types.specs.declared.numbers.Peer.{Peer}
use Rattle.mmtel_message.specs.Message.{Message}
use Rattle.mmtel_message.specs.Texts.{message_text}
use Rattle.mmtel_message.specs.declared.messages.Start.{Start}
use Rattle.mmtel_transaction.specs.Heads.{head_of, is_invite, is_provisional}
use Rattle.mmtel_transaction.specs.declared.heads.Head.{Head}
use Rattle.mmtel_transaction.specs.declared.entries.TransactionTimer.{TransactionTimer}
use Rattle.mmtel_transaction.specs.declared.entries.Entry.{Entry}
use Rattle.mmtel_transaction.specs.declared.entries.ReliableResponse.{ReliableResponse}
use Rattle.mmtel_transaction.specs.declared.message_class.MessageClass.{MessageClass}
use Rattle.mmtel_transaction.specs.declared.message_class.MessageClass.TheVariants as part
use Rattle.mmtel_transaction.specs.declared.entries.Change.{Change}
use Rattle.mmtel_transaction.specs.declared.entries.Change.TheVariants as change_kind
use Rattle.mmtel_transaction.specs.Table.{change_effect, table_after_change}
use Rattle.mmtel_transaction.specs.Deadlines.{foremost_in, state_retransmission_at}
use Rattle.mmtel_transaction.specs.Changes.{reliable_response_of, after_timer, after_timer_by, after_any_reply, after_state_timer, after_reply, after_provisional}
use Rattle.mmtel_transaction.specs.Changes.{after_final, after_response, after_failure_ack, after_ack_2xx, with_kept_ack, after_settling, with_reliable_if, change_of_key}
use Rattle.mmtel_transaction.specs.Operations.{TransactionOp, DidBegin, DidHear, DidAsk, DidReply, DidAck, DidFire, DidSettle, send_count}
use Rattle.mmtel_transaction.specs.Operations.{step_of, opens, opened_on_receipt, openings, entry_of, live, is_live, change, change_on_receipt}

-- keys rise
abbrev pub Rising : ℕ → List Entry → ℕ → Type 0
Rising lo [] hi = lo ≤ hi
Rising lo (e ∷ es) hi = (lo ≤ e.key) × Rising (suc e.key) es hi

rising_lower : (lo lower : ℕ) (es : List Entry) (hi : ℕ) → lower ≤ lo → Rising lo es hi → Rising lower es hi
rising_lower lo lower [] hi l r = omega (arith, r)
rising_lower lo lower (e ∷ es) hi l r = (omega (arith, r.0), r.1)

rising_append : (lo mid hi : ℕ) (es fs : List Entry) → Rising lo es mid → Rising mid fs hi → Rising lo (es ++ fs) hi
rising_append lo mid hi [] fs r q = rising_lower mid lo fs hi r q
rising_append lo mid hi (e ∷ es) fs r q = (r.0, rising_append (suc e.key) mid hi es fs r.1 q)

rising_heard : (s k : ℕ) (p : Peer) (now : ℕ) (m : Message Start) (t : MessageClass) → Rising k (opened_on_receipt s k p m now t) (k + length (opened_on_receipt s k p m now t))
rising_heard s k p now m part.Fresh = (omega arith, omega arith)
rising_heard s k p now m part.Full = omega arith
rising_heard s k p now m (part.Repeat j) = omega arith
rising_heard s k p now m (part.RepeatedFinal j) = omega arith
rising_heard s k p now m (part.Answer j) = omega arith
rising_heard s k p now m (part.Acked j) = omega arith
rising_heard s k p now m part.AckOf2xx = omega arith
rising_heard s k p now m part.Stray = omega arith

rising_opens : (s i k : ℕ) (c : TransactionOp) → Rising k (opens s i k c) (k + length (opens s i k c))
rising_opens s i k (DidBegin n) = omega arith
rising_opens s i k (DidHear p m now t) = rising_heard s k p now m t
rising_opens s i k (DidAsk p m now) = (omega arith, omega arith)
rising_opens s i k (DidReply j m now) = omega arith
rising_opens s i k (DidAck j m) = omega arith
rising_opens s i k (DidFire j) = omega arith
rising_opens s i k (DidSettle j own) = omega arith

pub rising_opened : (h : List TransactionOp) → Rising 0 (openings h) (length (openings h))
rising_opened [] = omega arith
rising_opened (c ∷ h) = subst (Rising 0 (openings (c ∷ h))) (sym (length-append (openings h) (opens (step_of h) (send_count h) (length (openings h)) c)))
    (rising_append 0 (length (openings h)) _ (openings h) (opens (step_of h) (send_count h) (length (openings h)) c) (rising_opened h) (rising_opens (step_of h) (send_count h) (length (openings h)) c))

-- keys that rise are less than the next one
rising_top : (lo hi : ℕ) (es : List Entry) → Rising lo es hi → lo ≤ hi
rising_top lo hi [] r = r
rising_top lo hi (e ∷ es) r = omega (arith, r.0, rising_top (suc e.key) hi es r.1)

later : (k hi : ℕ) → k < hi → nat_lt k hi ≡ true
later k hi l = grind (arith, nat_tests)

changed : (c : TransactionOp) (h : List TransactionOp) (lo : ℕ) (es : List Entry) → Rising lo es (length (openings h)) → map (entry_of (c ∷ h)) es ≡ map (change (step_of h) (send_count h) c) (map (entry_of h) es)
changed c h lo [] r = refl
changed c h lo (e ∷ es) r = rw (later e.key (length (openings h)) (omega (arith, rising_top (suc e.key) (length (openings h)) es r.1)), changed c h (suc e.key) es r.1) refl

-- a change keeps the key, the request, the peer, and that it has ended
pub record Keeps (e x : Entry) : Type 0 where
  pub key : x.key ≡ e.key
  pub server : x.is_server ≡ e.is_server
  pub head : x.head ≡ e.head
  pub peer : x.peer ≡ e.peer
  pub over : e.is_terminated ≡ true → x.is_terminated ≡ true

keeps_if : (b : Bool) (e x y : Entry) → Keeps e x → Keeps e y → Keeps e (cond b x y)
keeps_if true e x y a b = a
keeps_if false e x y a b = b

same : {A : Type 0} (x : A) → x ≡ x
same x = refl

keeps_then : (e x y : Entry) → Keeps e x → Keeps x y → Keeps e y
keeps_then e x y a b = record { key = b.key ∙ a.key; server = b.server ∙ a.server; head = b.head ∙ a.head; peer = b.peer ∙ a.peer; over = λ o. b.over (a.over o) }

keeps_planned : (s : ℕ) (e : Entry) → Keeps e (after_state_timer s e)
keeps_planned s e = keeps_if (is_some (state_retransmission_at e)) e (record e { retransmissions = e.retransmissions + 1; step = s }) (record e { is_terminated = true })
    (record { key = refl; server = refl; head = refl; peer = refl; over = λ o. o }) (record { key = refl; server = refl; head = refl; peer = refl; over = λ o. refl })

keeps_fired_by : (o : Option (ℕ × TransactionTimer)) (s : ℕ) (e : Entry) → Keeps e (after_timer_by o s e)
keeps_fired_by (Some first) s e = record { key = refl; server = refl; head = refl; peer = refl; over = λ o. o }
keeps_fired_by None s e = keeps_planned s e

pub keeps_fired : (s : ℕ) (e : Entry) → Keeps e (after_timer s e)
keeps_fired s e = keeps_fired_by (foremost_in e) s e

keeps_settled : (own : Option ℕ) (e : Entry) → Keeps e (after_settling own e)
keeps_settled None e = record { key = refl; server = refl; head = refl; peer = refl; over = λ o. o }
keeps_settled (Some own) e = record { key = refl; server = refl; head = refl; peer = refl; over = λ o. o }

pub keeps_with : (answer : Option ReliableResponse) (e : Entry) → Keeps e (with_reliable_if answer e)
keeps_with None e = record { key = refl; server = refl; head = refl; peer = refl; over = λ o. o }
keeps_with (Some answer) e = keeps_if (not e.is_server || not (e.final_status == 0)) e e _ (record { key = refl; server = refl; head = refl; peer = refl; over = λ o. o })
    (record { key = refl; server = refl; head = refl; peer = refl; over = λ o. o })

pub keeps_replied : (s i st : ℕ) (t g : List ℕ) (now : ℕ) (e : Entry) → Keeps e (after_reply s i st t g now e)
keeps_replied s i st t g now e = keeps_if (not e.is_server || not (e.final_status == 0)) e e _ (record { key = refl; server = refl; head = refl; peer = refl; over = λ o. o })
    (keeps_if (is_provisional st) e _ _ (record { key = refl; server = refl; head = refl; peer = refl; over = λ o. o }) (record { key = refl; server = refl; head = refl; peer = refl; over = λ o. o }))

keeps_offered : (s i : ℕ) (m : Message Start) (now : ℕ) (e : Entry) → Keeps e (after_any_reply s i m now e)
keeps_offered s i m now e =
    let x = with_reliable_if (reliable_response_of s i m (message_text m) now) e in
    keeps_then e x (after_any_reply s i m now e) (keeps_with (reliable_response_of s i m (message_text m) now) e) (keeps_replied s i (head_of m).status (message_text m) (head_of m).to_tag now x)

keeps_rang : (s now : ℕ) (e : Entry) → Keeps e (after_provisional s now e)
keeps_rang s now e = keeps_if (e.is_early || not (e.final_status == 0)) e _ _ (record { key = refl; server = refl; head = refl; peer = refl; over = λ o. o })
    (record { key = refl; server = refl; head = refl; peer = refl; over = λ o. o })

keeps_finished : (s st now : ℕ) (e : Entry) → Keeps e (after_final s st now e)
keeps_finished s st now e = keeps_if (not (is_invite e.head)) e (record e { is_terminated = true }) _ (record { key = refl; server = refl; head = refl; peer = refl; over = λ o. refl })
    (keeps_if (not (e.final_status == 0)) e _ _ (record { key = refl; server = refl; head = refl; peer = refl; over = λ o. o }) (record { key = refl; server = refl; head = refl; peer = refl; over = λ o. o }))

pub keeps_answered : (s st now : ℕ) (e : Entry) → Keeps e (after_response s st now e)
keeps_answered s st now e = keeps_if (is_provisional st) e (after_provisional s now e) (after_final s st now e) (keeps_rang s now e) (keeps_finished s st now e)

pub keeps_acked : (s now : ℕ) (e : Entry) → Keeps e (after_failure_ack s now e)
keeps_acked s now e = keeps_if _ e _ _ (record { key = refl; server = refl; head = refl; peer = refl; over = λ o. o }) (record { key = refl; server = refl; head = refl; peer = refl; over = λ o. o })

pub keeps_acked_2xx : (s : ℕ) (m : Head) (e : Entry) → Keeps e (after_ack_2xx s m e)
keeps_acked_2xx s m e = keeps_if _ e _ _ (record { key = refl; server = refl; head = refl; peer = refl; over = λ o. o }) (record { key = refl; server = refl; head = refl; peer = refl; over = λ o. o })

keeps_kept : (t : List ℕ) (e : Entry) → Keeps e (with_kept_ack t e)
keeps_kept t e = keeps_if (not e.is_server && e.is_refused) e _ _ (record { key = refl; server = refl; head = refl; peer = refl; over = λ o. o })
    (record { key = refl; server = refl; head = refl; peer = refl; over = λ o. o })

pub keeps_made : (c : Change) (e : Entry) → Keeps e (change_effect c e)
keeps_made (change_kind.Fire step) e = keeps_fired step e
keeps_made (change_kind.Reply step order status text to_tag now) e = keeps_replied step order status text to_tag now e
keeps_made (change_kind.Response step status now) e = keeps_answered step status now e
keeps_made (change_kind.Ack step now) e = keeps_acked step now e
keeps_made (change_kind.KeepAck text) e = keeps_kept text e
keeps_made (change_kind.Settle own) e = keeps_settled own e

pub keeps_hit : (k : ℕ) (f : Entry → Entry) (e : Entry) → Keeps e (f e) → Keeps e (change_of_key k f e)
keeps_hit k f e a = keeps_if (e.key == k) e _ _ a (record { key = refl; server = refl; head = refl; peer = refl; over = λ o. o })

keeps_heard : (s now : ℕ) (m : Message Start) (t : MessageClass) (e : Entry) → Keeps e (change_on_receipt s m now t e)
keeps_heard s now m part.Fresh e = record { key = refl; server = refl; head = refl; peer = refl; over = λ o. o }
keeps_heard s now m part.Full e = record { key = refl; server = refl; head = refl; peer = refl; over = λ o. o }
keeps_heard s now m (part.Repeat j) e = record { key = refl; server = refl; head = refl; peer = refl; over = λ o. o }
keeps_heard s now m (part.RepeatedFinal j) e = record { key = refl; server = refl; head = refl; peer = refl; over = λ o. o }
keeps_heard s now m (part.Answer j) e = keeps_hit j (after_response s (head_of m).status now) e (keeps_answered s (head_of m).status now e)
keeps_heard s now m (part.Acked j) e = keeps_hit j (after_failure_ack s now) e (keeps_acked s now e)
keeps_heard s now m part.AckOf2xx e = keeps_acked_2xx s (head_of m) e
keeps_heard s now m part.Stray e = record { key = refl; server = refl; head = refl; peer = refl; over = λ o. o }

pub keeps_change : (s i : ℕ) (c : TransactionOp) (e : Entry) → Keeps e (change s i c e)
keeps_change s i (DidBegin n) e = record { key = refl; server = refl; head = refl; peer = refl; over = λ o. o }
keeps_change s i (DidHear p m now t) e = keeps_heard s now m t e
keeps_change s i (DidAsk p m now) e = record { key = refl; server = refl; head = refl; peer = refl; over = λ o. o }
keeps_change s i (DidReply j m now) e = keeps_hit j (after_any_reply s i m now) e (keeps_offered s i m now e)
keeps_change s i (DidAck j m) e = keeps_hit j (with_kept_ack (message_text m)) e (keeps_kept (message_text m) e)
keeps_change s i (DidFire j) e = keeps_hit j (after_timer s) e (keeps_fired s e)
keeps_change s i (DidSettle j own) e = keeps_hit j (after_settling own) e (keeps_settled own e)

-- what ended may be left out before a change
not_live : (e x : Entry) → Keeps e x → is_live e ≡ false → is_live x ≡ false
not_live e x k n = rw (k.over (over_is e.is_terminated n)) refl
  where
    over_is : (b : Bool) → not b ≡ false → b ≡ true
    over_is true q = refl
    over_is false q = sym q

drop_if : (b : Bool) (f : Entry → Entry) (e : Entry) (xs ys : List Entry) → is_live e ≡ b → Keeps e (f e) → filter is_live (map f xs) ≡ ys →
    filter is_live (map f (cond b (e ∷ xs) xs)) ≡ cond (is_live (f e)) (f e ∷ ys) ys
drop_if true f e xs ys q k p = rw p refl
drop_if false f e xs ys q k p = rw (not_live e (f e) k q) p

pub filter_changed : (f : Entry → Entry) (es : List Entry) → ((e : Entry) → Keeps e (f e)) → filter is_live (map f (filter is_live es)) ≡ filter is_live (map f es)
filter_changed f [] k = refl
filter_changed f (e ∷ es) k = drop_if (is_live e) f e (filter is_live es) (filter is_live (map f es)) refl (k e) (filter_changed f es k)

filter_both : (xs ys : List Entry) → filter is_live (xs ++ ys) ≡ filter is_live xs ++ filter is_live ys
filter_both [] ys = refl
filter_both (x ∷ xs) ys = rw (filter_both xs ys) (push (is_live x) x (filter is_live xs) (filter is_live ys))
  where
    push : (b : Bool) (x : Entry) (xs ys : List Entry) → cond b (x ∷ (xs ++ ys)) (xs ++ ys) ≡ cond b (x ∷ xs) xs ++ ys
    push true x xs ys = refl
    push false x xs ys = refl

not_later : (i : ℕ) → nat_lt i i ≡ false
not_later i = grind (arith, nat_tests)

-- what is opened is live, and as it was opened
news_heard : (h : List TransactionOp) (c : TransactionOp) (s : ℕ) (p : Peer) (now : ℕ) (m : Message Start) (t : MessageClass) →
    filter is_live (map (entry_of (c ∷ h)) (opened_on_receipt s (length (openings h)) p m now t)) ≡ opened_on_receipt s (length (openings h)) p m now t
news_heard h c s p now m part.Fresh = rw (not_later (length (openings h))) refl
news_heard h c s p now m part.Full = refl
news_heard h c s p now m (part.Repeat j) = refl
news_heard h c s p now m (part.RepeatedFinal j) = refl
news_heard h c s p now m (part.Answer j) = refl
news_heard h c s p now m (part.Acked j) = refl
news_heard h c s p now m part.AckOf2xx = refl
news_heard h c s p now m part.Stray = refl

news : (h : List TransactionOp) (d : TransactionOp) (s i : ℕ) (c : TransactionOp) → filter is_live (map (entry_of (d ∷ h)) (opens s i (length (openings h)) c)) ≡ opens s i (length (openings h)) c
news h d s i (DidBegin n) = refl
news h d s i (DidHear p m now t) = news_heard h d s p now m t
news h d s i (DidAsk p m now) = rw (not_later (length (openings h))) refl
news h d s i (DidReply j m now) = refl
news h d s i (DidAck j m) = refl
news h d s i (DidFire j) = refl
news h d s i (DidSettle j own) = refl

-- the live transactions after one more operation
pub live_more : (c : TransactionOp) (h : List TransactionOp) → live (c ∷ h) ≡ filter is_live (map (change (step_of h) (send_count h) c) (live h)) ++ opens (step_of h) (send_count h) (length (openings h)) c
live_more c h =
    let f = change (step_of h) (send_count h) c in
    let new = opens (step_of h) (send_count h) (length (openings h)) c in
    ap (filter is_live) (map-append (entry_of (c ∷ h)) (openings h) new)
    ∙ (filter_both (map (entry_of (c ∷ h)) (openings h)) (map (entry_of (c ∷ h)) new)
    ∙ (ap (λ xs. filter is_live (map (entry_of (c ∷ h)) (openings h)) ++ xs) (news h c (step_of h) (send_count h) c)
    ∙ ap (λ xs. xs ++ new) (ap (filter is_live) (changed c h 0 (openings h) (rising_opened h)) ∙ sym (filter_changed f (map (entry_of h) (openings h)) (λ e. keeps_change (step_of h) (send_count h) c e)))))

rising_map : (f : Entry → Entry) (lo hi : ℕ) (es : List Entry) → ((e : Entry) → (f e).key ≡ e.key) → Rising lo es hi → Rising lo (map f es) hi
rising_map f lo hi [] k r = r
rising_map f lo hi (e ∷ es) k r = rw (k e) (r.0, rising_map f (suc e.key) hi es k r.1)

keeps_key : (h : List TransactionOp) (e : Entry) → (entry_of h e).key ≡ e.key
keeps_key [] e = refl
keeps_key (c ∷ h) e = either (nat_lt e.key (length (openings h))) ((keeps_change (step_of h) (send_count h) c (entry_of h e)).key ∙ keeps_key h e)
  where
    either : (b : Bool) → (change (step_of h) (send_count h) c (entry_of h e)).key ≡ e.key → (cond b (change (step_of h) (send_count h) c (entry_of h e)) e).key ≡ e.key
    either true q = q
    either false q = refl

rising_live : (lo hi : ℕ) (es : List Entry) → Rising lo es hi → Rising lo (filter is_live es) hi
rising_live lo hi [] r = r
rising_live lo hi (e ∷ es) r = either (is_live e) (rising_live (suc e.key) hi es r.1)
  where
    either : (b : Bool) → Rising (suc e.key) (filter is_live es) hi → Rising lo (cond b (e ∷ filter is_live es) (filter is_live es)) hi
    either true q = (r.0, q)
    either false q = rising_lower (suc e.key) lo (filter is_live es) hi (omega (arith, r.0)) q

pub rising : (h : List TransactionOp) → Rising 0 (live h) (length (openings h))
rising h = rising_live 0 (length (openings h)) (map (entry_of h) (openings h)) (rising_map (entry_of h) 0 (length (openings h)) (openings h) (keeps_key h) (rising_opened h))

abbrev pub AllLive : List Entry → Type 0
AllLive [] = Unit {0}
AllLive (e ∷ es) = (is_live e ≡ true) × AllLive es

all_live_if : (b : Bool) (e : Entry) (es : List Entry) → is_live e ≡ b → AllLive es → AllLive (cond b (e ∷ es) es)
all_live_if true e es q a = (q, a)
all_live_if false e es q a = a

pub all_live : (es : List Entry) → AllLive (filter is_live es)
all_live [] = tt
all_live (e ∷ es) = all_live_if (is_live e) e (filter is_live es) refl (all_live es)

-- one transaction is changed
no_hit : (k lo : ℕ) (f : Entry → Entry) (es : List Entry) (hi : ℕ) → k < lo → Rising lo es hi → AllLive es → filter is_live (map (change_of_key k f) es) ≡ es
no_hit k lo f [] hi l r a = refl
no_hit k lo f (e ∷ es) hi l r a =
    let n : (e.key == k) ≡ false = grind (arith, nat_tests, r.0) in
    rw (n, a.0, no_hit k (suc e.key) f es hi (omega (arith, r.0)) r.1 a.1) refl

settled_if : (k : ℕ) (f : Entry → Entry) (e : Entry) (es fs gs : List Entry) (b : Bool) → is_live e ≡ true → (b ≡ true → fs ≡ es) → (b ≡ false → fs ≡ gs) →
    cond (is_live (cond b (f e) e)) (cond b (f e) e ∷ fs) fs ≡ cond b (cond (is_live (f e)) (f e ∷ es) es) (e ∷ gs)
settled_if k f e es fs gs true l p q = rw (p refl) refl
settled_if k f e es fs gs false l p q = rw (l, q refl) refl

same_key : (e : Entry) (k : ℕ) → (e.key == k) ≡ true → e.key ≡ k
same_key e k q = grind (arith, nat_tests)

pub settles_one : (k lo : ℕ) (f : Entry → Entry) (es : List Entry) (hi : ℕ) → Rising lo es hi → AllLive es → filter is_live (map (change_of_key k f) es) ≡ table_after_change k f es
settles_one k lo f [] hi r a = refl
settles_one k lo f (e ∷ es) hi r a = settled_if k f e es (filter is_live (map (change_of_key k f) es)) (table_after_change k f es) (e.key == k) a.0
    (λ q. let w : e.key ≡ k = same_key e k q in no_hit k (suc e.key) f es hi (omega (arith, w)) r.1 a.1)
    (λ q. settles_one k (suc e.key) f es hi r.1 a.1)

-- one that changes twice, of those whose keys rise
none_of : (k lo : ℕ) (f : Entry → Entry) (es : List Entry) (hi : ℕ) → k < lo → Rising lo es hi → map (change_of_key k f) es ≡ es
none_of k lo f [] hi l r = refl
none_of k lo f (e ∷ es) hi l r =
    let n : (e.key == k) ≡ false = grind (arith, nat_tests, r.0) in
    rw (n, none_of k (suc e.key) f es hi (omega (arith, l, r.0)) r.1) refl

pub settled_twice : (k lo : ℕ) (f g : Entry → Entry) (es : List Entry) (hi : ℕ) → ((e : Entry) → (f e).key ≡ e.key) → Rising lo es hi →
    table_after_change k g (map (change_of_key k f) es) ≡ table_after_change k (λ e. g (f e)) es
settled_twice k lo f g [] hi keeps r = refl
settled_twice k lo f g (e ∷ es) hi keeps r = by_test (e.key == k) refl (settled_twice k (suc e.key) f g es hi keeps r.1)
  where
    by_test : (b : Bool) → (e.key == k) ≡ b → table_after_change k g (map (change_of_key k f) es) ≡ table_after_change k (λ x. g (f x)) es →
        table_after_change k g (cond b (f e) e ∷ map (change_of_key k f) es) ≡ cond b (cond (is_live (g (f e))) (g (f e) ∷ es) es) (e ∷ table_after_change k (λ x. g (f x)) es)
    by_test true t ih =
        let own : e.key ≡ k = same_key e k t in
        let kept : ((f e).key == k) ≡ true = ap (λ n. n == k) (keeps e) ∙ t in
        rw (kept, none_of k (suc e.key) f es hi (omega (arith, own)) r.1) refl
    by_test false t ih = rw (t, ih) refl
