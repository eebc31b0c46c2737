-- No two live server transactions of a run have the same branch, sent-by and method.
use Rattle.std.proofs.Common.{◌≡◌, ℕ, List, [], ◌∷◌, length, refl, true, false, Bool, ◌&&◌, inl, inr, sym, ap, ◌∙◌, cond}
use Rattle.std.specs.Prelude.{Option, Some, None}
use Rattle.std.specs.List.{find}
use Rattle.std.specs.Str.{bytes_eq}
use Rattle.std.proofs.lemmas.Bool.{and_from, and_parts, both_ways}
use Rattle.std.proofs.lemmas.Slice.Eq.{bytes_eq-Decides}
use Rattle.mmtel_types.specs.declared.numbers.Peer.{Peer}
use Rattle.mmtel_message.specs.Message.{Message}
use Rattle.mmtel_message.specs.declared.messages.Start.{Start}
use Rattle.mmtel_transaction.specs.declared.heads.Head.{Head}
use Rattle.mmtel_transaction.specs.declared.entries.Entry.{Entry}
use Rattle.mmtel_transaction.specs.declared.message_class.MessageClass.{MessageClass}
use Rattle.mmtel_transaction.specs.declared.message_class.MessageClass.TheVariants as part
use Rattle.mmtel_transaction.specs.Heads.{head_of, invite, is_ack, is_invite, is_refusal}
use Rattle.mmtel_transaction.specs.Operations.{TransactionOp, DidBegin, DidHear, DidAsk, DidReply, DidAck, DidFire, DidSettle, change, opened_on_receipt, live, send_count, openings, opens, step_of}
use Rattle.mmtel_transaction.specs.Results.{ack_class, by_key, class_of, is_client_of, is_full, is_server_of, key_method, request_class, response_class}
use Rattle.mmtel_transaction.specs.Runs.{IsRun}
use Rattle.mmtel_transaction.specs.Theorems.{HaveOneKey}
use Rattle.mmtel_transaction.proofs.Lists.{keeps_change}
use Rattle.mmtel_timers.specs.Shelves.{Has}
use Rattle.mmtel_transaction.proofs.Having.{has_more_back, not_found, of_key, run_before}

-- the server transaction of a request, by its parts
pub record IsServerOf (m : Head) (e : Entry) : Type 0 where
  pub server : e.is_server ≡ true
  pub branch : e.head.branch ≡ m.branch
  pub sent_by : e.head.sent_by ≡ m.sent_by
  pub method : e.head.method ≡ key_method m

pub server_of : (m : Head) (e : Entry) → is_server_of m e ≡ true → IsServerOf m e
server_of m e q =
    let a = and_parts (e.is_server && bytes_eq e.head.branch m.branch && bytes_eq e.head.sent_by m.sent_by) (bytes_eq e.head.method (key_method m)) q in
    let b = and_parts (e.is_server && bytes_eq e.head.branch m.branch) (bytes_eq e.head.sent_by m.sent_by) a.0 in
    let c = and_parts e.is_server (bytes_eq e.head.branch m.branch) b.0 in
    record {
      server = c.0;
      branch = (bytes_eq-Decides e.head.branch m.branch).0 c.1;
      sent_by = (bytes_eq-Decides e.head.sent_by m.sent_by).0 b.1;
      method = (bytes_eq-Decides e.head.method (key_method m)).0 a.1;
    }

pub of_server : (m : Head) (e : Entry) → IsServerOf m e → is_server_of m e ≡ true
of_server m e s = and_from _ _ (and_from _ _ (and_from _ _ s.server ((bytes_eq-Decides e.head.branch m.branch).1 s.branch)) ((bytes_eq-Decides e.head.sent_by m.sent_by).1 s.sent_by))
    ((bytes_eq-Decides e.head.method (key_method m)).1 s.method)

-- what a new request is
ack_part : (o : Option Entry) → part.Fresh ≡ ack_class o → ⊥
ack_part None q = cc
ack_part (Some e) q = either e.is_refused q
  where
    either : (b : Bool) → part.Fresh ≡ cond b (part.Acked e.key) part.AckOf2xx → ⊥
    either true q = cc
    either false q = cc

response_part : (m : Head) (o : Option Entry) → part.Fresh ≡ response_class m o → ⊥
response_part m None q = cc
response_part m (Some e) q = either (is_invite e.head && e.is_refused && is_refusal m.status) q
  where
    either : (b : Bool) → part.Fresh ≡ cond b (part.RepeatedFinal e.key) (part.Answer e.key) → ⊥
    either true q = cc
    either false q = cc

request_part : (full : Bool) (o : Option Entry) → part.Fresh ≡ request_class full o → o ≡ None
request_part full None q = refl
request_part full (Some e) q = absurd cc

fresh_if : (r a full : Bool) (o x : Option Entry) (m : Head) → part.Fresh ≡ cond r (cond a (ack_class o) (request_class full o)) (response_class m x) → (r ≡ true) × (a ≡ false) × (o ≡ None)
fresh_if true false full o x m q = (refl, refl, request_part full o q)
fresh_if true true full o x m q = absurd (ack_part o q)
fresh_if false a full o x m q = absurd (response_part m x q)

pub fresh_is : (m : Head) (es : List Entry) → part.Fresh ≡ class_of m es → (m.is_request ≡ true) × (is_ack m ≡ false) × (find (is_server_of m) es ≡ None)
fresh_is m es q = fresh_if m.is_request (is_ack m) (is_full es) (find (is_server_of m) es) (find (is_client_of m) es) m q

-- one key is kept
before_key : (e x d y : Entry) → e.is_server ≡ d.is_server → e.head ≡ d.head → x.is_server ≡ y.is_server → x.head ≡ y.head → HaveOneKey e x → HaveOneKey d y
before_key e x d y s a t b k = record {
  first = sym s ∙ k.first;
  second = sym t ∙ k.second;
  branch = ap (λ (m : Head). m.branch) (sym a) ∙ (k.branch ∙ ap (λ (m : Head). m.branch) b);
  sent_by = ap (λ (m : Head). m.sent_by) (sym a) ∙ (k.sent_by ∙ ap (λ (m : Head). m.sent_by) b);
  method = ap (λ (m : Head). m.method) (sym a) ∙ (k.method ∙ ap (λ (m : Head). m.method) b);
}

turned : (e x : Entry) → HaveOneKey e x → HaveOneKey x e
turned e x k = record { first = k.second; second = k.first; branch = sym k.branch; sent_by = sym k.sent_by; method = sym k.method }

server_is : (e x : Entry) → e ≡ x → e.is_server ≡ x.is_server
server_is e x q = ap (λ (y : Entry). y.is_server) q

asked_is : (e x : Entry) → e ≡ x → e.head ≡ x.head
asked_is e x q = ap (λ (y : Entry). y.head) q

-- what is opened has another key than every live server transaction
news_apart : (c : TransactionOp) (h : List TransactionOp) → IsRun (c ∷ h) → (e x : Entry) → Has e (live h) → Has x (opens (step_of h) (send_count h) (length (openings h)) c) → HaveOneKey e x → ⊥
news_apart (DidBegin n) h r e x g f k = f
news_apart (DidHear p m now part.Fresh) h r e x g (inl q) k =
    let w = fresh_is (head_of m) (live h) r.0 in
    let key : key_method (head_of m) ≡ (head_of m).method = ap (λ b. cond b invite (head_of m).method) w.1 in
    let a : x.head ≡ head_of m = asked_is x _ q in
    let s : IsServerOf (head_of m) e = record {
      server = k.first;
      branch = k.branch ∙ ap (λ (y : Head). y.branch) a;
      sent_by = k.sent_by ∙ ap (λ (y : Head). y.sent_by) a;
      method = k.method ∙ (ap (λ (y : Head). y.method) a ∙ sym key);
    } in
    both_ways (is_server_of (head_of m) e) (not_found (is_server_of (head_of m)) e (live h) w.2 g) (of_server (head_of m) e s)
news_apart (DidHear p m now part.Fresh) h r e x g (inr f) k = f
news_apart (DidHear p m now part.Full) h r e x g f k = f
news_apart (DidHear p m now (part.Repeat j)) h r e x g f k = f
news_apart (DidHear p m now (part.RepeatedFinal j)) h r e x g f k = f
news_apart (DidHear p m now (part.Answer j)) h r e x g f k = f
news_apart (DidHear p m now (part.Acked j)) h r e x g f k = f
news_apart (DidHear p m now part.AckOf2xx) h r e x g f k = f
news_apart (DidHear p m now part.Stray) h r e x g f k = f
news_apart (DidAsk p m now) h r e x g (inl q) k = let w : true ≡ false = sym k.second ∙ server_is x _ q in cc
news_apart (DidAsk p m now) h r e x g (inr f) k = f
news_apart (DidReply j m now) h r e x g f k = f
news_apart (DidAck j m) h r e x g f k = f
news_apart (DidFire j) h r e x g f k = f
news_apart (DidSettle j own) h r e x g f k = f

heard_alone : (s k : ℕ) (p : Peer) (m : Message Start) (now : ℕ) (t : MessageClass) (e x : Entry) → Has e (opened_on_receipt s k p m now t) → Has x (opened_on_receipt s k p m now t) → e ≡ x
heard_alone s k p m now part.Fresh e x (inl a) (inl b) = a ∙ sym b
heard_alone s k p m now part.Fresh e x (inl a) (inr g) = absurd g
heard_alone s k p m now part.Fresh e x (inr f) g = absurd f
heard_alone s k p m now part.Full e x f g = absurd f
heard_alone s k p m now (part.Repeat j) e x f g = absurd f
heard_alone s k p m now (part.RepeatedFinal j) e x f g = absurd f
heard_alone s k p m now (part.Answer j) e x f g = absurd f
heard_alone s k p m now (part.Acked j) e x f g = absurd f
heard_alone s k p m now part.AckOf2xx e x f g = absurd f
heard_alone s k p m now part.Stray e x f g = absurd f

news_alone : (s i k : ℕ) (c : TransactionOp) (e x : Entry) → Has e (opens s i k c) → Has x (opens s i k c) → e ≡ x
news_alone s i k (DidBegin n) e x f g = absurd f
news_alone s i k (DidHear p m now t) e x f g = heard_alone s k p m now t e x f g
news_alone s i k (DidAsk p m now) e x (inl a) (inl b) = a ∙ sym b
news_alone s i k (DidAsk p m now) e x (inl a) (inr g) = absurd g
news_alone s i k (DidAsk p m now) e x (inr f) g = absurd f
news_alone s i k (DidReply j m now) e x f g = absurd f
news_alone s i k (DidAck j m) e x f g = absurd f
news_alone s i k (DidFire j) e x f g = absurd f
news_alone s i k (DidSettle j own) e x f g = absurd f

abbrev AreApart : List Entry → Type 0
AreApart es = (e x : Entry) → Has e es → Has x es → HaveOneKey e x → e ≡ x

module _ (c : TransactionOp) (h : List TransactionOp) (r : IsRun (c ∷ h)) (ih : AreApart (live h)) where
  was : (e d : Entry) → e ≡ change (step_of h) (send_count h) c d → (e.is_server ≡ d.is_server) × (e.head ≡ d.head)
  was e d q = let w = keeps_change (step_of h) (send_count h) c d in (server_is e _ q ∙ w.server, asked_is e _ q ∙ w.head)

  both_old : (e x d y : Entry) → Has d (live h) → Has y (live h) → e ≡ change (step_of h) (send_count h) c d → x ≡ change (step_of h) (send_count h) c y → HaveOneKey e x → e ≡ x
  both_old e x d y f g p q k =
      let a = was e d p in
      let b = was x y q in
      p ∙ (ap (change (step_of h) (send_count h) c) (ih d y f g (before_key e x d y a.0 a.1 b.0 b.1 k)) ∙ sym q)

  old_new : (e x d : Entry) → Has d (live h) → e ≡ change (step_of h) (send_count h) c d → Has x (opens (step_of h) (send_count h) (length (openings h)) c) → HaveOneKey e x → ⊥
  old_new e x d f p g k = let a = was e d p in news_apart c h r d x f g (before_key e x d x a.0 a.1 refl refl k)

  apart_more : AreApart (live (c ∷ h))
  apart_more e x f g k =
      elim (has_more_back c h e f) [
        | inl a ↦ elim (has_more_back c h x g) [
          | inl b ↦ both_old e x a.0 b.0 a.1 b.1 a.2 b.2 k
          | inr b ↦ absurd (old_new e x a.0 a.1 a.2 b k)
        ]
        | inr a ↦ elim (has_more_back c h x g) [
          | inl b ↦ absurd (old_new x e b.0 b.1 b.2 a (turned e x k))
          | inr b ↦ news_alone (step_of h) (send_count h) (length (openings h)) c e x a b
        ]
      ]

pub apart : (h : List TransactionOp) → IsRun h → AreApart (live h)
apart [] r e x f g k = absurd f
apart (c ∷ h) r e x f g k = apart_more c h r (apart h (run_before c h r)) e x f g k

pub own_keys : (h : List TransactionOp) → IsRun h → (j k : ℕ) (e x : Entry) → by_key j (live h) ≡ Some e → by_key k (live h) ≡ Some x → HaveOneKey e x → j ≡ k
own_keys h r j k e x p q o =
    let a = of_key h j e p in
    let b = of_key h k x q in
    sym a.1 ∙ (ap (λ (y : Entry). y.key) (apart h r e x a.0 b.0 o) ∙ b.1)
