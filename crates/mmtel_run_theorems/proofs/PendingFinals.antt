-- A server transaction that was opened by a request stays live, with the peer that sent it, until a final response is sent in it.
use Rattle.std.proofs.Common.{◌≡◌, ◌<◌, ◌≤◌, le_refl, ℕ, zero, suc, ◌+◌, ◌==◌, Bool, true, false, not, ◌&&◌, ◌||◌, List, [], ◌∷◌, ◌++◌}
use Rattle.std.proofs.Common.{length, Option, Some, None, refl, sym, ap, ◌∙◌, subst, IfSome, map, cond, arith, append_assoc, length-append}
use Rattle.std.specs.Prelude.{if◌then◌else◌, nat_lt, nat_le, filter, find, is_some, option_map, slice_get}
use Rattle.std.specs.List.{list_any}
use Rattle.std.specs.Option.{option_or}
use Rattle.std.specs.Str.{bytes_eq}
use Rattle.std.proofs.lemmas.Bool.Decides.{nat_tests}
use Rattle.std.proofs.lemmas.Bool.{eqb-true, eq-eqb, ne_eqb}
use Rattle.std.proofs.lemmas.Option.{none-some, same_Some}
use Rattle.mmtel_call_theorems.specs.NoInjection.Emits.{Each}
use Rattle.mmtel_message.specs.Message.{Message}
use Rattle.mmtel_message.specs.Texts.{message_text}
use Rattle.mmtel_message.specs.declared.messages.Start.{Start}
use Rattle.mmtel_transaction.specs.Results.{DueEntryView, ack_class, class_of, due_one, is_before, is_client_of, is_full, is_of, is_server_of, next_due, peer_of, request_class, response_class, sooner}
use Rattle.mmtel_transaction.specs.Operations.{TransactionOp, DidAck, DidAsk, DidBegin, DidFire, DidSettle, DidHear, DidReply, change, entry_of}
use Rattle.mmtel_transaction.specs.Operations.{change_on_receipt, opened_on_receipt, is_live, live, send_count, openings, opens, step_of}
use Rattle.mmtel_transaction.specs.Changes.{after_any_reply, after_failure_ack, after_final, after_provisional, after_reply, after_response, after_settling}
use Rattle.mmtel_transaction.specs.Changes.{after_timer, after_timer_by, change_of_key, is_ack_of, reliable_response_of, with_kept_ack, with_reliable_if}
use Rattle.mmtel_transaction.specs.Deadlines.{deadline, foremost_in, last_deadline, last_deadline_by, retransmission_by, state_retransmission_at}
use Rattle.mmtel_transaction.specs.Heads.{head_of, is_success, is_ack, is_invite, is_provisional, is_refusal, is_same_call}
use Rattle.mmtel_transaction.specs.Runs.{IsNextOf, IsRun}
use Rattle.mmtel_transaction.specs.declared.entries.TransactionTimer.{TransactionTimer}
use Rattle.mmtel_transaction.specs.declared.entries.Entry.{Entry}
use Rattle.mmtel_transaction.specs.declared.entries.State.{State}
use Rattle.mmtel_transaction.specs.declared.entries.State.TheVariants.{Proceeding}
use Rattle.mmtel_transaction.specs.declared.entries.ReliableResponse.{ReliableResponse}
use Rattle.mmtel_transaction.specs.declared.heads.Head.{Head}
use Rattle.mmtel_transaction.specs.declared.message_class.MessageClass.{MessageClass}
use Rattle.mmtel_transaction.specs.declared.message_class.MessageClass.TheVariants as part
use Rattle.mmtel_types.specs.declared.numbers.Peer.{Peer}
use Rattle.mmtel_run_theorems.specs.PendingFinals.{is_final_in}

-- it awaits its final response
pub record IsWaiting (p : Peer) (x : Entry) : Type 0 where
  pub server : x.is_server ≡ true
  pub peer : x.peer ≡ p
  pub state : x.state ≡ Proceeding
  pub done : x.final_status ≡ 0
  pub refused : x.is_refused ≡ false
  pub over : x.is_terminated ≡ false

-- ---- numbers

-- an operation does not change the numbers
if-key : (b : Bool) (x y : Entry) (k : ℕ) → x.key ≡ k → y.key ≡ k → (if b then x else y).key ≡ k
if-key true x y k e f = e
if-key false x y k e f = f

after_response-key : (step status now : ℕ) (e : Entry) → (after_response step status now e).key ≡ e.key
after_response-key step status now e =
    if-key (is_provisional status) (after_provisional step now e) (after_final step status now e) e.key (if-key (e.is_early || not (e.final_status == 0)) e _ e.key refl refl)
    (if-key (not (is_invite e.head)) _ _ e.key refl (if-key (not (e.final_status == 0)) _ _ e.key refl refl))

after_reply-key : (step order status : ℕ) (text to_tag : List ℕ) (now : ℕ) (e : Entry) → (after_reply step order status text to_tag now e).key ≡ e.key
after_reply-key step order status text to_tag now e = if-key (not e.is_server || not (e.final_status == 0)) e _ e.key refl (if-key (is_provisional status) _ _ e.key refl refl)

answers-key : (answer : Option ReliableResponse) (e : Entry) → (with_reliable_if answer e).key ≡ e.key
answers-key None e = refl
answers-key (Some answer) e = if-key (not e.is_server || not (e.final_status == 0)) e _ e.key refl refl

after_timer-key : (first : Option (ℕ × TransactionTimer)) (step : ℕ) (e : Entry) → (after_timer_by first step e).key ≡ e.key
after_timer-key None step e = if-key (is_some (state_retransmission_at e)) _ _ e.key refl refl
after_timer-key (Some first) step e = refl

after_settling-key : (own : Option ℕ) (e : Entry) → (after_settling own e).key ≡ e.key
after_settling-key None e = refl
after_settling-key (Some own) e = refl

received-key : (step : ℕ) (m : Message Start) (now : ℕ) (taken : MessageClass) (e : Entry) → (change_on_receipt step m now taken e).key ≡ e.key
received-key step m now part.Fresh e = refl
received-key step m now part.Full e = refl
received-key step m now (part.Repeat key) e = refl
received-key step m now (part.RepeatedFinal key) e = refl
received-key step m now (part.Answer key) e = if-key (e.key == key) _ e e.key (after_response-key step (head_of m).status now e) refl
received-key step m now (part.Acked key) e = if-key (e.key == key) _ e e.key (if-key e.is_acked e _ e.key refl refl) refl
received-key step m now part.AckOf2xx e = if-key (is_ack_of (head_of m) e) _ e e.key refl refl
received-key step m now part.Stray e = refl

change-key : (step order : ℕ) (c : TransactionOp) (e : Entry) → (change step order c e).key ≡ e.key
change-key step order (DidBegin n) e = refl
change-key step order (DidHear p m now taken) e = received-key step m now taken e
change-key step order (DidAsk p m now) e = refl
change-key step order (DidReply key m now) e =
    let answer : Option ReliableResponse = reliable_response_of step order m (message_text m) now in
    if-key (e.key == key) _ e e.key (after_reply-key step order (head_of m).status (message_text m) (head_of m).to_tag now (with_reliable_if answer e) ∙ answers-key answer e) refl
change-key step order (DidAck key m) e = if-key (e.key == key) _ e e.key (if-key (not e.is_server && e.is_refused) _ e e.key refl refl) refl
change-key step order (DidFire key) e = if-key (e.key == key) _ e e.key (after_timer-key (foremost_in e) step e) refl
change-key step order (DidSettle key own) e = if-key (e.key == key) _ e e.key (after_settling-key own e) refl

entry-key : (h : List TransactionOp) (e : Entry) → (entry_of h e).key ≡ e.key
entry-key [] e = refl
entry-key (c ∷ h) e = if-key (nat_lt e.key (length (openings h))) (change (step_of h) (send_count h) c (entry_of h e)) e e.key (change-key (step_of h) (send_count h) c (entry_of h e) ∙ entry-key h e) refl

-- those from this number on, in order
abbrev Numbered : ℕ → List Entry → Type 0
Numbered k [] = Unit {0}
Numbered k (e ∷ es) = (e.key ≡ k) × Numbered (suc k) es

numbered-more : (k m : ℕ) (xs ys : List Entry) → m ≡ k + length xs → Numbered k xs → Numbered m ys → Numbered k (xs ++ ys)
numbered-more k m [] ys e f g = let same : m ≡ k = omega arith in subst (λ n. Numbered n ys) same g
numbered-more k m (x ∷ xs) ys e f g = let same : m ≡ suc k + length xs = omega arith in (f.0, numbered-more (suc k) m xs ys same f.1 g)

numbered-new : (step order key : ℕ) (c : TransactionOp) → Numbered key (opens step order key c)
numbered-new step order key (DidBegin n) = tt
numbered-new step order key (DidHear p m now taken) = go taken
  where
    go : (taken : MessageClass) → Numbered key (opened_on_receipt step key p m now taken)
    go part.Fresh = (refl, tt)
    go part.Full = tt
    go (part.Repeat k) = tt
    go (part.RepeatedFinal k) = tt
    go (part.Answer k) = tt
    go (part.Acked k) = tt
    go part.AckOf2xx = tt
    go part.Stray = tt
numbered-new step order key (DidAsk p m now) = (refl, tt)
numbered-new step order key (DidReply k m now) = tt
numbered-new step order key (DidAck k m) = tt
numbered-new step order key (DidFire k) = tt
numbered-new step order key (DidSettle k own) = tt

numbered : (h : List TransactionOp) → Numbered 0 (openings h)
numbered [] = tt
numbered (c ∷ h) =
    let n = length (openings h) in
    let at : n ≡ 0 + n = omega arith in
    numbered-more 0 n (openings h) (opens (step_of h) (send_count h) n c) at (numbered h) (numbered-new (step_of h) (send_count h) n c)

numbered-map : (k : ℕ) (f : Entry → Entry) (es : List Entry) → ((e : Entry) → (f e).key ≡ e.key) → Numbered k es → Numbered k (map f es)
numbered-map k f [] same g = tt
numbered-map k f (e ∷ es) same g = (same e ∙ g.0, numbered-map (suc k) f es same g.1)

-- ---- positions

at-key : (k n : ℕ) (es : List Entry) (e : Entry) → Numbered k es → slice_get es n ≡ Some e → e.key ≡ k + n
at-key k n [] e g is = absurd (none-some e is)
at-key k zero (x ∷ es) e g is = let same : x ≡ e = same_Some x e is in let key : x.key ≡ k = g.0 in ap (λ (x : Entry). x.key) (sym same) ∙ (let f : x.key ≡ k + 0 = omega arith in f)
at-key k (suc n) (x ∷ es) e g is = let later : e.key ≡ suc k + n = at-key (suc k) n es e g.1 is in omega arith

get-front : (xs ys : List Entry) (n : ℕ) → nat_lt n (length xs) ≡ true → slice_get (xs ++ ys) n ≡ slice_get xs n
get-front [] ys n h = absurd (let le : n < 0 = grind (arith, nat_tests, h) in omega arith)
get-front (x ∷ xs) ys zero h = refl
get-front (x ∷ xs) ys (suc n) h = get-front xs ys n (let le : suc n < suc (length xs) = grind (arith, nat_tests, h) in let less : n < length xs = omega arith in grind (arith, nat_tests, less))

get-map : (f : Entry → Entry) (es : List Entry) (n : ℕ) (e : Entry) → slice_get es n ≡ Some e → slice_get (map f es) n ≡ Some (f e)
get-map f [] n e is = absurd (none-some e is)
get-map f (x ∷ es) zero e is = ap (λ (x : Entry). Some (f x)) (same_Some x e is)
get-map f (x ∷ es) (suc n) e is = get-map f es n e is

-- among the live ones that of a number is the one at that position
other-key : (k n : ℕ) → (k == k + suc n) ≡ false
other-key k n = ne_eqb k (k + suc n) (λ e. omega (arith, e))

find-at : (k n : ℕ) (es : List Entry) (x : Entry) → Numbered k es → slice_get es n ≡ Some x → is_live x ≡ true → find (is_of (k + n)) (filter is_live es) ≡ Some x
find-at k n [] x g is lives = absurd (none-some x is)
find-at k zero (e ∷ es) x g is lives =
    let same : e ≡ x = same_Some e x is in
    let own : is_of (k + 0) e ≡ true = eq-eqb e.key (k + 0) (let f : e.key ≡ k = g.0 in omega arith) in
    ap (λ b. find (is_of (k + 0)) (cond b (e ∷ filter is_live es) (filter is_live es))) (ap is_live same ∙ lives)
    ∙ ap (λ b. cond b (Some e) (find (is_of (k + 0)) (filter is_live es))) own ∙ ap Some same
find-at k (suc n) (e ∷ es) x g is lives =
    let later : find (is_of (suc k + n)) (filter is_live es) ≡ Some x = find-at (suc k) n es x g.1 is lives in
    let same : suc k + n ≡ k + suc n = omega arith in
    let here : find (is_of (k + suc n)) (filter is_live es) ≡ Some x = subst (λ j. find (is_of j) (filter is_live es) ≡ Some x) same later in
    let other : is_of (k + suc n) e ≡ false = ap (λ j. j == k + suc n) g.0 ∙ other-key k n in
    go (is_live e) other here
  where
    go : (b : Bool) → is_of (k + suc n) e ≡ false → find (is_of (k + suc n)) (filter is_live es) ≡ Some x → find (is_of (k + suc n)) (cond b (e ∷ filter is_live es) (filter is_live es)) ≡ Some x
    go true other here = ap (λ b. cond b (Some e) (find (is_of (k + suc n)) (filter is_live es))) other ∙ here
    go false other here = here

-- each is at the position of its number
abbrev IsAt : List Entry → Entry → Type 0
IsAt all e = slice_get all e.key ≡ Some e

get-here : (before : List Entry) (e : Entry) (es : List Entry) → slice_get (before ++ e ∷ es) (length before) ≡ Some e
get-here [] e es = refl
get-here (x ∷ before) e es = get-here before e es

all-at : (before es : List Entry) → Numbered (length before) es → Each (IsAt (before ++ es)) es
all-at before [] g = tt
all-at before (e ∷ es) g = (
  subst (λ k. slice_get (before ++ e ∷ es) k ≡ Some e) (sym g.0) (get-here before e es),
  subst (λ all. Each (IsAt all) es) (append_assoc before (e ∷ []) es)
      (all-at (before ++ e ∷ []) es (subst (λ k. Numbered k es) (let f : suc (length before) ≡ length (before ++ e ∷ []) = omega (arith, length-append before (e ∷ [])) in f) g.1)),
)

filter-each : (P : Entry → Type 0) (p : Entry → Bool) (es : List Entry) → Each P es → Each P (filter p es)
filter-each P p [] k = tt
filter-each P p (e ∷ es) k = go (p e) (filter-each P p es k.1)
  where
    go : (b : Bool) → Each P (filter p es) → Each P (cond b (e ∷ filter p es) (filter p es))
    go true f = (k.0, f)
    go false f = f

find-each : (P : Entry → Type 0) (p : Entry → Bool) (es : List Entry) → Each P es → IfSome (find p es) (λ e. P e × (p e ≡ true))
find-each P p [] k = tt
find-each P p (e ∷ es) k = go (p e) refl (find-each P p es k.1)
  where
    go : (b : Bool) → p e ≡ b → IfSome (find p es) (λ e. P e × (p e ≡ true)) → IfSome (cond b (Some e) (find p es)) (λ e. P e × (p e ≡ true))
    go true is f = (k.0, is)
    go false is f = f

-- ---- what is received, and which timer fires

module _ (P : Entry → Type 0) where
  -- a response belongs to a client transaction, an ACK to a server transaction that refused
  abbrev IsTo : MessageClass → Type 0
  IsTo part.Fresh = Unit {0}
  IsTo part.Full = Unit {0}
  IsTo (part.Repeat key) = Unit {0}
  IsTo (part.RepeatedFinal key) = Unit {0}
  IsTo (part.Answer key) = (e : Entry) × P e × (e.key ≡ key) × (e.is_server ≡ false)
  IsTo (part.Acked key) = (e : Entry) × P e × (e.key ≡ key) × (e.is_refused ≡ true)
  IsTo part.AckOf2xx = Unit {0}
  IsTo part.Stray = Unit {0}

  to-if : (b : Bool) (x y : MessageClass) → IsTo x → IsTo y → IsTo (if b then x else y)
  to-if true x y h g = h
  to-if false x y h g = g

  ack-to : (o : Option Entry) (test : Entry → Bool) → IfSome o (λ e. P e × (test e ≡ true)) → IsTo (ack_class o)
  ack-to None test h = tt
  ack-to (Some e) test h = go e.is_refused refl
    where
      go : (b : Bool) → e.is_refused ≡ b → IsTo (if b then part.Acked e.key else part.AckOf2xx)
      go true is = (e, h.0, refl, is)
      go false is = tt

  request-to : (full : Bool) (o : Option Entry) → IsTo (request_class full o)
  request-to full (Some e) = tt
  request-to true None = tt
  request-to false None = tt

  is-client : (b c d : Bool) → (not b && c && d) ≡ true → b ≡ false
  is-client true c d e = absurd (let f : false ≡ true = e in cc)
  is-client false c d e = refl

  response-to : (m : Head) (o : Option Entry) → IfSome o (λ e. P e × (is_client_of m e ≡ true)) → IsTo (response_class m o)
  response-to m None h = tt
  response-to m (Some e) h =
      to-if (is_invite e.head && e.is_refused && is_refusal m.status) (part.RepeatedFinal e.key) (part.Answer e.key) tt
      (e, h.0, refl, is-client e.is_server (bytes_eq e.head.branch m.branch) (bytes_eq e.head.method m.method) h.1)

  taken-to : (m : Head) (es : List Entry) → Each P es → IsTo (class_of m es)
  taken-to m es k =
      to-if m.is_request _ _ (to-if (is_ack m) _ _ (ack-to (find (is_server_of m) es) (is_server_of m) (find-each P (is_server_of m) es k)) (request-to (is_full es) (find (is_server_of m) es)))
      (response-to m (find (is_client_of m) es) (find-each P (is_client_of m) es k))

  -- the next timer is one that a transaction has
  abbrev IsNext : Option DueEntryView → Type 0
  IsNext o = IfSome o (λ n. P n.entry × (deadline n.entry ≡ Some n.at))

  one-next : (now : ℕ) (e : Entry) (o : Option ℕ) → deadline e ≡ o → P e → IsNext (due_one now e o)
  one-next now e None is k = tt
  one-next now e (Some at) is k = go (nat_le at now)
    where
      go : (b : Bool) → IsNext (if b then Some (record { at = at; entry = e }) else None)
      go true = (k, is)
      go false = tt

  sooner-next : (x y : Option DueEntryView) → IsNext x → IsNext y → IsNext (sooner x y)
  sooner-next None y h g = g
  sooner-next (Some x) None h g = h
  sooner-next (Some x) (Some y) h g = go (is_before y.at y.entry x.at x.entry)
    where
      go : (b : Bool) → IsNext (Some (if b then y else x))
      go true = g
      go false = h

  next-is : (now : ℕ) (es : List Entry) → Each P es → IsNext (next_due now es)
  next-is now [] k = tt
  next-is now (e ∷ es) k = sooner-next (due_one now e (deadline e)) (next_due now es) (one-next now e (deadline e) refl k.0) (next-is now es k.1)

-- ---- one more operation leaves it waiting, unless it is a final response in it

abbrev now_all : List TransactionOp → List Entry
now_all h = map (entry_of h) (openings h)

live-at : (h : List TransactionOp) → Each (IsAt (now_all h)) (live h)
live-at h = filter-each (IsAt (now_all h)) is_live (now_all h) (all-at [] (now_all h) (numbered-map 0 (entry_of h) (openings h) (entry-key h) (numbered h)))

-- there is only one at a position
one-at : (all : List Entry) (n : ℕ) (e x : Entry) → IsAt all e → e.key ≡ n → slice_get all n ≡ Some x → e ≡ x
one-at all n e x at key is = same_Some e x (sym at ∙ ap (slice_get all) key ∙ is)

if-false : (b : Bool) (x y : Entry) → b ≡ false → (if b then x else y) ≡ y
if-false true x y e = absurd (let f : true ≡ false = e in cc)
if-false false x y e = refl

no-2xx : (a b c d e : Bool) → (a && b && false && c && d && e) ≡ false
no-2xx true true c d e = refl
no-2xx true false c d e = refl
no-2xx false b c d e = refl

provisional-waits : (b server undone : Bool) (p : Peer) (x y z : Entry) → server ≡ true → undone ≡ true → b ≡ true → IsWaiting p y → IsWaiting p (if not server || not undone then x else if b then y else z)
provisional-waits b server undone p x y z s u e w =
    subst (λ server. IsWaiting p (if not server || not undone then x else if b then y else z)) (sym s)
    (subst (λ undone. IsWaiting p (if not undone then x else if b then y else z)) (sym u) (subst (λ b. IsWaiting p (if b then y else z)) (sym e) w))

-- a reliable response that it sends, retransmits, or of which the retransmission is stopped, is no final response
answers-wait : (p : Peer) (answer : Option ReliableResponse) (e : Entry) → IsWaiting p e → IsWaiting p (with_reliable_if answer e)
answers-wait p None e w = w
answers-wait p (Some answer) e w = go (not e.is_server || not (e.final_status == 0))
  where
    go : (b : Bool) → IsWaiting p (if b then e else record e { reliable = e.reliable ++ answer ∷ [] })
    go true = w
    go false = record { server = w.server; peer = w.peer; state = w.state; done = w.done; refused = w.refused; over = w.over }

after_timer-waits : (p : Peer) (step : ℕ) (e : Entry) → IsWaiting p e → (first : Option (ℕ × TransactionTimer)) → (first ≡ None → ⊥) → IsWaiting p (after_timer_by first step e)
after_timer-waits p step e w None some = absurd (some refl)
after_timer-waits p step e w (Some first) some = record { server = w.server; peer = w.peer; state = w.state; done = w.done; refused = w.refused; over = w.over }

after_settling-waits : (p : Peer) (own : Option ℕ) (e : Entry) → IsWaiting p e → IsWaiting p (after_settling own e)
after_settling-waits p None e w = record { server = w.server; peer = w.peer; state = w.state; done = w.done; refused = w.refused; over = w.over }
after_settling-waits p (Some own) e w = record { server = w.server; peer = w.peer; state = w.state; done = w.done; refused = w.refused; over = w.over }

module _ (p : Peer) (h : List TransactionOp) (x : Entry) (n : ℕ) (key : x.key ≡ n) (at : slice_get (now_all h) n ≡ Some x) (w : IsWaiting p x) where
  -- an operation on another transaction, or none of this kind
  unless-hit : (k : ℕ) (f : Entry → Entry) → (k ≡ n → IsWaiting p (f x)) → IsWaiting p (change_of_key k f x)
  unless-hit k f each = go (x.key == k) refl
    where
      go : (b : Bool) → (x.key == k) ≡ b → IsWaiting p (if b then f x else x)
      go true is = each (sym (eqb-true x.key k is) ∙ key)
      go false is = w

  answer-none : (k : ℕ) → IsTo (IsAt (now_all h)) (part.Answer k) → k ≡ n → {A : Type 0} → A
  answer-none k to same {A} =
      let (e, is, own, client) = to in
      let one : e ≡ x = one-at (now_all h) n e x is (own ∙ same) at in
      absurd (let f : true ≡ false = sym w.server ∙ (ap (λ (e : Entry). e.is_server) (sym one) ∙ client) in cc)

  after_failure_ack-none : (k : ℕ) → IsTo (IsAt (now_all h)) (part.Acked k) → k ≡ n → {A : Type 0} → A
  after_failure_ack-none k to same {A} =
      let (e, is, own, refused) = to in
      let one : e ≡ x = one-at (now_all h) n e x is (own ∙ same) at in
      absurd (let f : false ≡ true = sym w.refused ∙ (ap (λ (e : Entry). e.is_refused) (sym one) ∙ refused) in cc)

  received-waits : (step : ℕ) (m : Message Start) (now : ℕ) (taken : MessageClass) → IsTo (IsAt (now_all h)) taken → IsWaiting p (change_on_receipt step m now taken x)
  received-waits step m now part.Fresh to = w
  received-waits step m now part.Full to = w
  received-waits step m now (part.Repeat k) to = w
  received-waits step m now (part.RepeatedFinal k) to = w
  received-waits step m now (part.Answer k) to = unless-hit k (after_response step (head_of m).status now) (λ same. answer-none k to same)
  received-waits step m now (part.Acked k) to = unless-hit k (after_failure_ack step now) (λ same. after_failure_ack-none k to same)
  received-waits step m now part.AckOf2xx to =
      let none : is_ack_of (head_of m) x ≡ false =
      ap (λ done. x.is_server && is_invite x.head && is_success done && not x.is_acked && is_same_call x.head (head_of m) && bytes_eq x.to_tag (head_of m).to_tag) w.done
      ∙ no-2xx x.is_server (is_invite x.head) (not x.is_acked) (is_same_call x.head (head_of m)) (bytes_eq x.to_tag (head_of m).to_tag) in
      subst (IsWaiting p) (sym (if-false (is_ack_of (head_of m) x) _ x none)) w
  received-waits step m now part.Stray to = w

  reply-waits : (step order : ℕ) (k : ℕ) (m : Message Start) (now : ℕ) → is_final_in n (DidReply k m now) ≡ false → IsWaiting p (change step order (DidReply k m now) x)
  reply-waits step order k m now none = unless-hit k (after_any_reply step order m now) (λ same.
      let test : (k == n) ≡ true = eq-eqb k n same in
      let provisional : is_provisional (head_of m).status ≡ true = not-final (k == n) (is_provisional (head_of m).status) test none in
      let e : Entry = with_reliable_if (reliable_response_of step order m (message_text m) now) x in
      let v : IsWaiting p e = answers-wait p (reliable_response_of step order m (message_text m) now) x w in
      provisional-waits (is_provisional (head_of m).status) e.is_server (e.final_status == 0) p e _ _ v.server (ap (λ done. done == 0) v.done) provisional
      (record { server = v.server; peer = v.peer; state = v.state; done = v.done; refused = v.refused; over = v.over }))
    where
      not-final : (b c : Bool) → b ≡ true → (b && not c) ≡ false → c ≡ true
      not-final true true e f = refl
      not-final true false e f = absurd (let g : true ≡ false = f in cc)
      not-final false c e f = absurd (let g : false ≡ true = e in cc)

  ack-waits : (step order : ℕ) (k : ℕ) (m : Message Start) → IsWaiting p (change step order (DidAck k m) x)
  ack-waits step order k m = unless-hit k (with_kept_ack (message_text m)) (λ same. subst (λ b. IsWaiting p (if not b && x.is_refused then record x { last = Some (message_text m) } else x)) (sym w.server) w)

  fire-waits : (step order : ℕ) (k : ℕ) → IsNextOf k h → IsWaiting p (change step order (DidFire k) x)
  fire-waits step order k first = unless-hit k (after_timer step) (λ same. after_timer-waits p step x w (foremost_in x) (λ none.
      let known = subst (IsNext (IsAt (now_all h))) first.first (next-is (IsAt (now_all h)) first.now (live h) (live-at h)) in
      let one : first.next.entry ≡ x = one-at (now_all h) n first.next.entry x known.0 (first.same ∙ same) at in
      let due : deadline x ≡ Some first.next.at = ap deadline (sym one) ∙ known.1 in
      let none_due : deadline x ≡ None = ap (λ (o : Option (ℕ × TransactionTimer)). option_or (option_or (option_map (λ (f : ℕ × TransactionTimer). f.1.at) o) (state_retransmission_at x)) (last_deadline x)) none
      ∙ ap (λ (plan : State). option_or (retransmission_by plan x.start x.at x.retransmissions) (last_deadline_by plan x.start x.at)) w.state in
      none-some first.next.at (sym none_due ∙ due)))

  change-waits : (c : TransactionOp) → IsRun (c ∷ h) → is_final_in n c ≡ false → IsWaiting p (change (step_of h) (send_count h) c x)
  change-waits (DidBegin step) run none = w
  change-waits (DidHear q m now taken) run none =
      received-waits (step_of h) m now taken (subst (IsTo (IsAt (now_all h))) (sym run.0) (taken-to (IsAt (now_all h)) (head_of m) (live h) (live-at h)))
  change-waits (DidAsk q m now) run none = w
  change-waits (DidReply k m now) run none = reply-waits (step_of h) (send_count h) k m now none
  change-waits (DidAck k m) run none = ack-waits (step_of h) (send_count h) k m
  change-waits (DidFire k) run none = fire-waits (step_of h) (send_count h) k run.0
  change-waits (DidSettle k own) run none = unless-hit k (after_settling own) (λ same. after_settling-waits p own x w)

-- ---- every run

pub run_before : (c : TransactionOp) (h : List TransactionOp) → IsRun (c ∷ h) → IsRun h
run_before (DidBegin n) h r = r
run_before (DidHear p m now taken) h r = r.1
run_before (DidAsk p m now) h r = r
run_before (DidReply key m now) h r = r
run_before (DidAck key m) h r = r
run_before (DidFire key) h r = r.1
run_before (DidSettle key own) h r = r

none-of : (b c : Bool) → (b || c) ≡ false → (b ≡ false) × (c ≡ false)
none-of true c e = absurd (let f : true ≡ false = e in cc)
none-of false c e = (refl, e)

waits : (p : Peer) (h : List TransactionOp) (n : ℕ) (e : Entry) → IsRun h → slice_get (openings h) n ≡ Some e → IsWaiting p e → list_any (is_final_in n) h ≡ false → IsWaiting p (entry_of h e)
waits p [] n e run is w none = absurd (none-some e is)
waits p (c ∷ h) n e run is w none =
    go (nat_lt e.key (length (openings h))) refl (λ old. waits p h n e (run_before c h run) old w (none-of (is_final_in n c) (list_any (is_final_in n) h) none).1)
  where
    key : e.key ≡ n
    key = let f : e.key ≡ 0 + n = at-key 0 n (openings (c ∷ h)) e (numbered (c ∷ h)) is in omega arith

    go : (b : Bool) → nat_lt e.key (length (openings h)) ≡ b → (slice_get (openings h) n ≡ Some e → IsWaiting p (entry_of h e)) → IsWaiting p (if b then change (step_of h) (send_count h) c (entry_of h e) else e)
    go true less before =
        let old : slice_get (openings h) n ≡ Some e =
        sym (get-front (openings h) (opens (step_of h) (send_count h) (length (openings h)) c) n (ap (λ k. nat_lt k (length (openings h))) (sym key) ∙ less)) ∙ is in
        change-waits p h (entry_of h e) n (entry-key h e ∙ key) (get-map (entry_of h) (openings h) n e old) (before old) c run (none-of (is_final_in n c) (list_any (is_final_in n) h) none).0
    go false less before = w

-- it is live, and with that peer
pub still_awaited : (p : Peer) (h : List TransactionOp) (n : ℕ) (e : Entry) → IsRun h → slice_get (openings h) n ≡ Some e → IsWaiting p e → list_any (is_final_in n) h ≡ false → peer_of n (live h) ≡ Some p
still_awaited p h n e run is w none =
    let x = entry_of h e in
    let now : IsWaiting p x = waits p h n e run is w none in
    let found : find (is_of (0 + n)) (live h) ≡ Some x =
    find-at 0 n (now_all h) x (numbered-map 0 (entry_of h) (openings h) (entry-key h) (numbered h)) (get-map (entry_of h) (openings h) n e is) (ap not now.over) in
    let same : 0 + n ≡ n = omega arith in
    ap (option_map (λ (e : Entry). e.peer)) (subst (λ k. find (is_of k) (live h) ≡ Some x) same found) ∙ ap Some now.peer

-- ---- as it was before

pub run_of : (newer older : List TransactionOp) → IsRun (newer ++ older) → IsRun older
run_of [] older run = run
run_of (c ∷ newer) older run = run_of newer older (run_before c (newer ++ older) run)

keys-of : (newer older : List TransactionOp) → length (openings older) ≤ length (openings (newer ++ older))
keys-of [] older = le_refl (length (openings older))
keys-of (c ∷ newer) older =
    let h = newer ++ older in
    omega (arith, keys-of newer older, length-append (openings h) (opens (step_of h) (send_count h) (length (openings h)) c))

openings-of : (newer older : List TransactionOp) (n : ℕ) → n < length (openings older) → slice_get (openings (newer ++ older)) n ≡ slice_get (openings older) n
openings-of [] older n less = refl
openings-of (c ∷ newer) older n less =
    let h = newer ++ older in
    let below : n < length (openings h) = omega (arith, less, keys-of newer older) in
    get-front (openings h) (opens (step_of h) (send_count h) (length (openings h)) c) n (grind (arith, nat_tests, below)) ∙ openings-of newer older n less

-- where it was opened by then, and no final response was sent in it
pub awaited_before : (p : Peer) (newer older : List TransactionOp) (n : ℕ) (e : Entry) → IsRun (newer ++ older) → slice_get (openings (newer ++ older)) n ≡ Some e → IsWaiting p e →
    n < length (openings older) → list_any (is_final_in n) older ≡ false → peer_of n (live older) ≡ Some p
awaited_before p newer older n e run is w less none = still_awaited p older n e (run_of newer older run) (sym (openings-of newer older n less) ∙ is) w none
