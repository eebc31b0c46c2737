-- What `hear` returns is determined by the transaction to which the message belongs.
use Rattle.std.proofs.Common.{◌≡◌, List, length, refl, true, false, Bool, not, ◌&&◌, sym, ap, ◌∙◌, cond}
use Rattle.std.specs.Prelude.{Option, Some, None, option_map}
use Rattle.std.specs.List.{find}
use Rattle.std.proofs.lemmas.Option.{none-some}
use Rattle.mmtel_types.specs.declared.numbers.Peer.{Peer}
use Rattle.mmtel_message.specs.Message.{Message}
use Rattle.mmtel_message.specs.declared.messages.Start.{Start}
use Rattle.mmtel_transaction.specs.Heads.{head_of, is_ack, is_cancel, is_invite, is_refusal}
use Rattle.mmtel_transaction.specs.Operations.{TransactionOp, live, openings}
use Rattle.mmtel_transaction.specs.Results.{ack_class, bind_entry, by_key, class_result, is_client_of, is_full, is_invite_of, is_server_of, key_of, last_sent, opening_result, request_class, response_class, tkey}
use Rattle.mmtel_transaction.specs.Matching.{HearsByMatching, OwnersAreLive, ack_result, if_refused, is_repeated_final, request_result, response_result}
use Rattle.mmtel_transaction.specs.declared.entries.Entry.{Entry}
use Rattle.mmtel_transaction.specs.declared.message_class.MessageClass.{MessageClass}
use Rattle.mmtel_transaction.specs.declared.message_class.MessageClass.TheVariants as part
use Rattle.mmtel_transaction.specs.declared.words.Heard.{Heard}
use Rattle.mmtel_transaction.specs.declared.words.Heard.TheVariants as heard
use Rattle.mmtel_transaction.specs.declared.words.TKey.{TKey}
use Rattle.mmtel_transaction.proofs.Having.{at_key, found_in}

-- what is found is live
abbrev IsLive : List TransactionOp → Option Entry → Type 0
IsLive h o = (e : Entry) → o ≡ Some e → by_key e.key (live h) ≡ Some e

live_found : (h : List TransactionOp) (p : Entry → Bool) → IsLive h (find p (live h))
live_found h p e q = at_key h e (found_in p e (live h) q).0

live_if : (h : List TransactionOp) (b : Bool) (o x : Option Entry) → IsLive h o → IsLive h x → IsLive h (cond b o x)
live_if h true o x f g = f
live_if h false o x f g = g

live_refused : (h : List TransactionOp) (o : Option Entry) → IsLive h o → IsLive h (if_refused o)
live_refused h None f = λ e q. absurd (none-some e q)
live_refused h (Some x) f = live_if h x.is_refused (Some x) None f (λ e q. absurd (none-some e q))

module _ (h : List TransactionOp) (p : Peer) (m : Message Start) where
  abbrev said : MessageClass → Option Heard
  said t = class_result (length (openings h)) (live h) p m t

  abbrev invited : Option Entry
  invited = find (is_invite_of (head_of m)) (live h)

  abbrev next : TKey
  next = tkey (length (openings h))

  response_as : (o : Option Entry) → IsLive h o → said (response_class (head_of m) o) ≡ Some (response_result (live h) m (option_map key_of o))
  response_as None f = refl
  response_as (Some e) f =
      either (is_invite e.head && e.is_refused && is_refusal (head_of m).status)
      ∙ sym (ap (λ (o : Option Entry). Some (cond (is_repeated_final (head_of m) o) (heard.Repeat (bind_entry last_sent o)) (heard.Answer (tkey e.key) m))) (f e refl))
    where
      either : (b : Bool) → said (cond b (part.RepeatedFinal e.key) (part.Answer e.key)) ≡ Some (cond b (heard.Repeat (bind_entry last_sent (Some e))) (heard.Answer (tkey e.key) m))
      either true = ap (λ (o : Option Entry). Some (heard.Repeat (bind_entry last_sent o))) (f e refl)
      either false = refl

  ack_as : (o : Option Entry) → said (ack_class o) ≡ Some (ack_result m (option_map key_of (if_refused o)))
  ack_as None = refl
  ack_as (Some e) = either e.is_refused
    where
      either : (b : Bool) → said (cond b (part.Acked e.key) part.AckOf2xx) ≡ Some (ack_result m (option_map key_of (cond b (Some e) None)))
      either true = refl
      either false = refl

  fresh_as : (full c : Bool) → is_cancel (head_of m) ≡ c →
      said (cond full part.Full part.Fresh) ≡ cond c (cond full None (Some (heard.Cancel next (option_map key_of invited) m))) (cond full None (Some (heard.Fresh next m)))
  fresh_as true true q = refl
  fresh_as true false q = refl
  fresh_as false true q = ap (λ b. Some (opening_result b (length (openings h)) (option_map key_of invited) m)) q
  fresh_as false false q = ap (λ b. Some (opening_result b (length (openings h)) (option_map key_of invited) m)) q

  request_as : (c : Bool) (o : Option Entry) → is_cancel (head_of m) ≡ c →
      said (request_class (is_full (live h)) o) ≡ cond c (request_result (live h) p (option_map key_of o) (heard.Cancel next (option_map key_of (cond c invited o)) m))
      (request_result (live h) p (option_map key_of (cond c invited o)) (heard.Fresh next m))
  request_as true None q = fresh_as (is_full (live h)) true q
  request_as false None q = fresh_as (is_full (live h)) false q
  request_as true (Some e) q = refl
  request_as false (Some e) q = refl

  said_as : (r a c : Bool) (o x : Option Entry) → is_cancel (head_of m) ≡ c → IsLive h x
      → said (cond r (cond a (ack_class o) (request_class (is_full (live h)) o)) (response_class (head_of m) x))
      ≡ cond (not r) (Some (response_result (live h) m (option_map key_of (cond (not r) x (cond a (if_refused o) (cond c invited o))))))
      (cond a (Some (ack_result m (option_map key_of (cond (not r) x (cond a (if_refused o) (cond c invited o))))))
      (cond c (request_result (live h) p (option_map key_of o) (heard.Cancel next (option_map key_of (cond (not r) x (cond a (if_refused o) (cond c invited o)))) m))
      (request_result (live h) p (option_map key_of (cond (not r) x (cond a (if_refused o) (cond c invited o)))) (heard.Fresh next m))))
  said_as false a c o x q f = response_as x f
  said_as true true c o x q f = ack_as o
  said_as true false c o x q f = request_as c o q

pub hears_by_matching : HearsByMatching
hears_by_matching h p m = said_as h p m (head_of m).is_request (is_ack (head_of m)) (is_cancel (head_of m)) (find (is_server_of (head_of m)) (live h)) (find (is_client_of (head_of m)) (live h)) refl
    (live_found h (is_client_of (head_of m)))

pub owners_are_live : OwnersAreLive
owners_are_live h m =
    live_if h (not (head_of m).is_request) (find (is_client_of (head_of m)) (live h)) _ (live_found h (is_client_of (head_of m)))
    (live_if h (is_ack (head_of m)) (if_refused (find (is_server_of (head_of m)) (live h))) _ (live_refused h (find (is_server_of (head_of m)) (live h)) (live_found h (is_server_of (head_of m))))
    (live_if h (is_cancel (head_of m)) (find (is_invite_of (head_of m)) (live h)) (find (is_server_of (head_of m)) (live h)) (live_found h (is_invite_of (head_of m))) (live_found h (is_server_of (head_of m)))))
