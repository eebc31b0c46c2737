-- Which transactions of a run are with trusted peers is one function: of all that were ever opened.
use Rattle.std.proofs.Common.{◌≡◌, ℕ, ◌+◌, ◌<◌, ◌≤◌, Bool, true, false, not, List, [], ◌∷◌, ◌++◌, length, map, refl, sym, ap, ◌∙◌, Option, Some, None, subst, inl, inr, arith, length-append}
use Rattle.std.specs.Prelude.{if◌then◌else◌, ◌==◌, ◌||◌, nat_lt, filter}
use Rattle.std.specs.List.{find}
use Rattle.std.specs.Option.{option_map}
use Rattle.std.proofs.lemmas.Bool.{cases_Bool}
use Rattle.std.proofs.lemmas.Bool.Decides.{nat_tests}
use Rattle.mmtel_directory.specs.declared.directories.Directory.{Directory}
use Rattle.mmtel_message.specs.Message.{Message}
use Rattle.mmtel_message.specs.Texts.{message_text}
use Rattle.mmtel_message.specs.declared.messages.Start.{Start}
use Rattle.mmtel_transaction.specs.Results.{is_of, peer_of}
use Rattle.mmtel_transaction.specs.Operations.{DidAck, DidAsk, DidBegin, DidFire, DidHear, DidReply, DidSettle, TransactionOp, change}
use Rattle.mmtel_transaction.specs.Operations.{change_on_receipt, entry_of, is_live, live, opened_on_receipt, openings, opens, send_count, step_of}
use Rattle.mmtel_transaction.specs.Changes.{after_ack_2xx, after_any_reply, after_failure_ack, after_final, after_provisional, after_reply, after_response}
use Rattle.mmtel_transaction.specs.Changes.{after_settling, after_timer, after_timer_by, change_of_key, reliable_response_of, with_kept_ack, with_reliable_if}
use Rattle.mmtel_transaction.specs.Deadlines.{foremost_in}
use Rattle.mmtel_transaction.specs.Heads.{head_of, is_invite, is_provisional}
use Rattle.mmtel_transaction.specs.OnePeer.{KeepsPeers}
use Rattle.mmtel_transaction.specs.declared.entries.TransactionTimer.{TransactionTimer}
use Rattle.mmtel_transaction.specs.declared.entries.Entry.{Entry}
use Rattle.mmtel_transaction.specs.declared.entries.ReliableResponse.{ReliableResponse}
use Rattle.mmtel_transaction.specs.declared.heads.Head.{Head}
use Rattle.mmtel_transaction.specs.declared.message_class.MessageClass.{MessageClass}
use Rattle.mmtel_transaction.specs.declared.message_class.MessageClass.TheVariants as part
use Rattle.mmtel_transaction.specs.declared.words.TKey.{TKey}
use Rattle.mmtel_types.specs.declared.numbers.Peer.{Peer}
use Rattle.mmtel_run_definitions.specs.Equivalence.{trusts}
use Rattle.mmtel_run_theorems.proofs.EquivalentEmits.{Knows}

-- ---- a transaction keeps its number

if_key : (b : Bool) (x y : Entry) (n : ℕ) → x.key ≡ n → y.key ≡ n → (if b then x else y).key ≡ n
if_key true x y n e f = e
if_key false x y n e f = f

after_timer_by_key : (first : Option (ℕ × TransactionTimer)) (step : ℕ) (e : Entry) → (after_timer_by first step e).key ≡ e.key
after_timer_by_key None step e = if_key _ _ _ e.key refl refl
after_timer_by_key (Some first) step e = refl

after_timer_key : (step : ℕ) (e : Entry) → (after_timer step e).key ≡ e.key
after_timer_key step e = after_timer_by_key (foremost_in e) step e

after_reply_key : (step order status : ℕ) (text tag : List ℕ) (now : ℕ) (e : Entry) → (after_reply step order status text tag now e).key ≡ e.key
after_reply_key step order status text tag now e = elim (cases_Bool (not e.is_server || not (e.final_status == 0))) [
  | inl y ↦ rw y refl
  | inr n ↦ elim (cases_Bool (is_provisional status)) [
    | inl p ↦ rw (n, p) refl
    | inr q ↦ rw (n, q) refl
  ]
]

answers_key : (answer : Option ReliableResponse) (e : Entry) → (with_reliable_if answer e).key ≡ e.key
answers_key None e = refl
answers_key (Some answer) e = if_key (not e.is_server || not (e.final_status == 0)) e _ e.key refl refl

after_any_reply_key : (step order : ℕ) (m : Message Start) (now : ℕ) (e : Entry) → (after_any_reply step order m now e).key ≡ e.key
after_any_reply_key step order m now e =
    after_reply_key step order (head_of m).status (message_text m) (head_of m).to_tag now (with_reliable_if (reliable_response_of step order m (message_text m) now) e)
    ∙ answers_key (reliable_response_of step order m (message_text m) now) e

after_settling_key : (own : Option ℕ) (e : Entry) → (after_settling own e).key ≡ e.key
after_settling_key None e = refl
after_settling_key (Some own) e = refl

after_provisional_key : (step now : ℕ) (e : Entry) → (after_provisional step now e).key ≡ e.key
after_provisional_key step now e = if_key _ _ _ e.key refl refl

after_final_key : (step status now : ℕ) (e : Entry) → (after_final step status now e).key ≡ e.key
after_final_key step status now e = elim (cases_Bool (not (is_invite e.head))) [
  | inl y ↦ rw y refl
  | inr n ↦ elim (cases_Bool (not (e.final_status == 0))) [
    | inl p ↦ rw (n, p) refl
    | inr q ↦ rw (n, q) refl
  ]
]

after_response_key : (step status now : ℕ) (e : Entry) → (after_response step status now e).key ≡ e.key
after_response_key step status now e = if_key _ _ _ e.key (after_provisional_key step now e) (after_final_key step status now e)

after_failure_ack_key : (step now : ℕ) (e : Entry) → (after_failure_ack step now e).key ≡ e.key
after_failure_ack_key step now e = if_key _ _ _ e.key refl refl

with_kept_ack_key : (text : List ℕ) (e : Entry) → (with_kept_ack text e).key ≡ e.key
with_kept_ack_key text e = if_key _ _ _ e.key refl refl

after_ack_2xx_key : (step : ℕ) (m : Head) (e : Entry) → (after_ack_2xx step m e).key ≡ e.key
after_ack_2xx_key step m e = if_key _ _ _ e.key refl refl

change_of_key_key : (key : ℕ) (f : Entry → Entry) (e : Entry) → (f e).key ≡ e.key → (change_of_key key f e).key ≡ e.key
change_of_key_key key f e same = if_key (e.key == key) (f e) e e.key same refl

received_key : (step : ℕ) (m : Message Start) (now : ℕ) (t : MessageClass) (e : Entry) → (change_on_receipt step m now t e).key ≡ e.key
received_key step m now part.Fresh e = refl
received_key step m now part.Full e = refl
received_key step m now (part.Repeat key) e = refl
received_key step m now (part.RepeatedFinal key) e = refl
received_key step m now (part.Answer key) e = change_of_key_key key (after_response step (head_of m).status now) e (after_response_key step (head_of m).status now e)
received_key step m now (part.Acked key) e = change_of_key_key key (after_failure_ack step now) e (after_failure_ack_key step now e)
received_key step m now part.AckOf2xx e = after_ack_2xx_key step (head_of m) e
received_key step m now part.Stray e = refl

change_key : (step order : ℕ) (c : TransactionOp) (e : Entry) → (change step order c e).key ≡ e.key
change_key step order (DidBegin n) e = refl
change_key step order (DidHear p m now t) e = received_key step m now t e
change_key step order (DidAsk p m now) e = refl
change_key step order (DidReply key m now) e = change_of_key_key key (after_any_reply step order m now) e (after_any_reply_key step order m now e)
change_key step order (DidAck key m) e = change_of_key_key key (with_kept_ack (message_text m)) e (with_kept_ack_key (message_text m) e)
change_key step order (DidFire key) e = change_of_key_key key (after_timer step) e (after_timer_key step e)
change_key step order (DidSettle key own) e = change_of_key_key key (after_settling own) e (after_settling_key own e)

entry_key : (h : List TransactionOp) (e : Entry) → (entry_of h e).key ≡ e.key
entry_key [] e = refl
entry_key (c ∷ h) e = if_key (nat_lt e.key (length (openings h))) (change (step_of h) (send_count h) c (entry_of h e)) e e.key (change_key (step_of h) (send_count h) c (entry_of h e) ∙ entry_key h e) refl

-- ---- which is below the number of those that were opened

abbrev AllBelow : ℕ → List Entry → Type 0
AllBelow n [] = Unit {0}
AllBelow n (e ∷ es) = (e.key < n) × AllBelow n es

more : (n m : ℕ) (es : List Entry) → n ≤ m → AllBelow n es → AllBelow m es
more n m [] le b = tt
more n m (e ∷ es) le b = (let x = b.0 in omega (arith, x, le), more n m es le b.1)

joined : (n : ℕ) (es fs : List Entry) → AllBelow n es → AllBelow n fs → AllBelow n (es ++ fs)
joined n [] fs b c = c
joined n (e ∷ es) fs b c = (b.0, joined n es fs b.1 c)

-- what an operation opens has the next number, if it opens any
received_next : (step key : ℕ) (p : Peer) (m : Message Start) (now : ℕ) (t : MessageClass) → AllBelow (key + length (opened_on_receipt step key p m now t)) (opened_on_receipt step key p m now t)
received_next step key p m now part.Fresh = (omega arith, tt)
received_next step key p m now part.Full = tt
received_next step key p m now (part.Repeat k) = tt
received_next step key p m now (part.RepeatedFinal k) = tt
received_next step key p m now (part.Answer k) = tt
received_next step key p m now (part.Acked k) = tt
received_next step key p m now part.AckOf2xx = tt
received_next step key p m now part.Stray = tt

next_below : (step order key : ℕ) (c : TransactionOp) → AllBelow (key + length (opens step order key c)) (opens step order key c)
next_below step order key (DidBegin n) = tt
next_below step order key (DidHear p m now t) = received_next step key p m now t
next_below step order key (DidAsk p m now) = (omega arith, tt)
next_below step order key (DidReply k m now) = tt
next_below step order key (DidAck k m) = tt
next_below step order key (DidFire k) = tt
next_below step order key (DidSettle k own) = tt

openings_below : (h : List TransactionOp) → AllBelow (length (openings h)) (openings h)
openings_below [] = tt
openings_below (c ∷ h) =
    let new : List Entry = opens (step_of h) (send_count h) (length (openings h)) c in
    let count : length (openings h ++ new) ≡ length (openings h) + length new = length-append (openings h) new in
    subst (λ (n : ℕ). AllBelow n (openings h ++ new)) (sym count)
    (joined (length (openings h) + length new) (openings h) new (more (length (openings h)) (length (openings h) + length new) (openings h) (omega arith) (openings_below h))
    (next_below (step_of h) (send_count h) (length (openings h)) c))

changed_below : (h : List TransactionOp) (n : ℕ) (es : List Entry) → AllBelow n es → AllBelow n (map (entry_of h) es)
changed_below h n [] b = tt
changed_below h n (e ∷ es) b = (let x = b.0 in let k = entry_key h e in omega (arith, x, k), changed_below h n es b.1)

with_kept_ack_below : (f : Entry → Bool) (n : ℕ) (es : List Entry) → AllBelow n es → AllBelow n (filter f es)
with_kept_ack_below f n [] b = tt
with_kept_ack_below f n (e ∷ es) b = elim (cases_Bool (f e)) [
  | inl y ↦ rw y (b.0, with_kept_ack_below f n es b.1)
  | inr z ↦ rw z (with_kept_ack_below f n es b.1)
]

found_below : (key n : ℕ) (q : Peer) (es : List Entry) → AllBelow n es → option_map (λ (e : Entry). e.peer) (find (is_of key) es) ≡ Some q → key < n
found_below key n q [] b e = absurd (no_peer e)
  where
    no_peer : None ≡ Some q → ⊥
    no_peer x = cc
found_below key n q (x ∷ es) b e = elim (cases_Bool (x.key == key)) [
  | inl y ↦ let same : x.key ≡ key = grind (arith, nat_tests, y) in let lt = b.0 in omega (arith, same, lt)
  | inr z ↦ found_below key n q es b.1 (sym (ap (λ (b2 : Bool). option_map (λ (w : Entry). w.peer) (if b2 then Some x else find (is_of key) es)) z) ∙ e)
]

live_below : (h : List TransactionOp) (key : ℕ) (q : Peer) → peer_of key (live h) ≡ Some q → key < length (openings h)
live_below h key q e = found_below key (length (openings h)) q (live h)
    (with_kept_ack_below is_live (length (openings h)) (map (entry_of h) (openings h)) (changed_below h (length (openings h)) (openings h) (openings_below h))) e

-- ---- the peer of a transaction: the last one that it had as long as it was live

abbrev or_before : Option Peer → Option Peer → Option Peer
or_before (Some p) before = Some p
or_before None before = before

abbrev ever : (key : ℕ) → List TransactionOp → Option Peer
ever key [] = None
ever key (x ∷ h) = or_before (peer_of key (live (x ∷ h))) (ever key h)

ever_now : (key : ℕ) (q : Peer) (h : List TransactionOp) → peer_of key (live h) ≡ Some q → ever key h ≡ Some q
ever_now key q [] e = let n : None ≡ Some q = e in absurd cc
ever_now key q (x ∷ h) e = ap (λ (o : Option Peer). or_before o (ever key h)) e

abbrev trusts_one : Directory → Option Peer → Bool
trusts_one d None = false
trusts_one d (Some q) = trusts d q

abbrev pub keys_in : Directory → List TransactionOp → TKey → Bool
keys_in d final key = trusts_one d (ever key.0 final)

-- these are the last ones of all operations in the end
abbrev pub IsLast : (final : List TransactionOp) → List TransactionOp → Type 0
IsLast final h = (g : List TransactionOp) × (final ≡ g ++ h)

append_one : (x : TransactionOp) (g h : List TransactionOp) → (g ++ x ∷ []) ++ h ≡ g ++ x ∷ h
append_one x [] h = refl
append_one x (y ∷ g) h = ap (λ (l : List TransactionOp). y ∷ l) (append_one x g h)

pub older : (final : List TransactionOp) (x : TransactionOp) (h : List TransactionOp) → IsLast final (x ∷ h) → IsLast final h
older final x h k = (k.0 ++ x ∷ [], k.1 ∙ sym (append_one x k.0 h))

module _ (keeps : KeepsPeers) (key : ℕ) (q : Peer) (h : List TransactionOp) (is : peer_of key (live h) ≡ Some q) where
  now_or : (o : Option Peer) (before : Option Peer) → ((p : Peer) → o ≡ Some p → p ≡ q) → before ≡ Some q → or_before o before ≡ Some q
  now_or None before same e = e
  now_or (Some p) before same e = ap (λ (x : Peer). Some x) (same p refl)

  one_peer : (p : Peer) → peer_of key (live h) ≡ Some p → p ≡ q
  one_peer p e = let x : Some p ≡ Some q = sym e ∙ is in cc

  ever_later : (g : List TransactionOp) → ever key (g ++ h) ≡ Some q
  ever_later [] = ever_now key q h is
  ever_later (x ∷ g) = now_or (peer_of key (live (x ∷ g ++ h))) (ever key (g ++ h)) (λ p e. one_peer p (keeps h (x ∷ g) key p (live_below h key q is) e)) (ever_later g)

pub knows : KeepsPeers → (d : Directory) (final h : List TransactionOp) → IsLast final h → Knows d (keys_in d final) h
knows keeps d final h k key q is = ap (trusts_one d) (ap (ever key) k.1 ∙ ever_later keeps key q h is k.0)
