-- What was passed, and what was passed in addition, is what is passed of both.
use Rattle.std.proofs.Common.{◌≡◌, Bool, true, false, inl, inr, ◌<◌, ◌+◌, ◌-◌, ℕ, List, [], ◌∷◌, ◌++◌, length, take, drop, map, refl, sym, ap}
use Rattle.std.proofs.Common.{◌∙◌, subst, Option, Some, None, Result, Ok, Err, append_assoc, append-nil, arith, get_or, add-one, drop-cons}
use Rattle.std.proofs.lemmas.List.{map-append, take-append-drop}
use Rattle.std.proofs.lemmas.Option.{none-some}
use Rattle.std.proofs.Math.Seq.{take-add}
use Rattle.std.specs.Prelude.{IsErr, IsErrOf}
use Rattle.mmtel_link.specs.LinkStates.{DeliversIfExposed, LinkOutput, with_reply}
use Rattle.mmtel_link.specs.declared.links.SendFault.{SendFault}
use Rattle.mmtel_link.specs.declared.links.SendFault.TheVariants as fault
use Rattle.mmtel_environment.specs.Counts.{Rose}
use Rattle.mmtel_environment.specs.declared.events.Offer.{Offer}
use Rattle.mmtel_environment.specs.declared.events.Offer.TheVariants as offer
use Rattle.mmtel_base.specs.declared.memory.NoMemory.{NoMemory}
use Rattle.mmtel_trust.specs.Peers.{addr_of}
use Rattle.mmtel_trust.specs.declared.known_peers.KnownPeer.{KnownPeer}
use Rattle.mmtel_types.specs.declared.addrs.Addr.{Addr}
use Rattle.mmtel_types.specs.declared.numbers.Peer.{Peer}
use Rattle.mmtel_delivery.specs.Delivery.{Delivered, DeliveredAll, DeliveredMore, LostOnlyWhereRose, RoseBy, losses_if_exposed, new_losses, replies_of, send_of, sends_of, text_of, with_send}

-- ---- one output

pub delivered_none : (known : List KnownPeer) (given : Option LinkOutput) → Delivered known [] given given
delivered_none known None = refl
delivered_none known (Some given) =
    record { sent = []; sends = sym (append-nil given.offers); sends_same = refl; sent_replies = []; replies = sym (append-nil given.replies); replies_same = refl }

-- to no peer
pub sent_nowhere : (known : List KnownPeer) (peer : Peer) (at : ℕ) (text : List ℕ) → addr_of peer known ≡ None → (given : Option LinkOutput)
    → Delivered known (offer.To peer at text ∷ []) given given
sent_nowhere known peer at text none None = refl
sent_nowhere known peer at text none (Some given) = record {
  sent = [];
  sends = sym (append-nil given.offers);
  sends_same = sym (ap (λ (o : Option Addr). with_send o text []) none);
  sent_replies = [];
  replies = sym (append-nil given.replies);
  replies_same = refl;
}

-- a reply, lost or not
reply_one : (known : List KnownPeer) (at : ℕ) (text : List ℕ) (lost : Bool) (given : LinkOutput) → DeliveredMore known (offer.Web at text ∷ []) given (with_reply text lost given)
reply_one known at text lost given = record {
  sent = [];
  sends = sym (append-nil given.offers);
  sends_same = refl;
  sent_replies = record { text = text; lost = lost } ∷ [];
  replies = refl;
  replies_same = refl;
}

pub replies_one_more : (known : List KnownPeer) (at : ℕ) (text : List ℕ) →
    (before after : Option LinkOutput) (result : Result (Unit {0}) SendFault) → DeliversIfExposed before after (with_reply text) result → (IsErrOf result fault.NoMemory → ⊥)
    → Delivered known (offer.Web at text ∷ []) before after
replies_one_more known at text None after result told not = told
replies_one_more known at text (Some given) after (Ok x) told not =
    subst (λ (o : Option LinkOutput). Delivered known (offer.Web at text ∷ []) (Some given) o) (sym told) (reply_one known at text false given)
replies_one_more known at text (Some given) after (Err fault.Failed) told not =
    subst (λ (o : Option LinkOutput). Delivered known (offer.Web at text ∷ []) (Some given) o) (sym told) (reply_one known at text true given)
replies_one_more known at text (Some given) after (Err fault.NoMemory) told not = absurd (not refl)

-- ---- one after others

sent_more : (o : Option Addr) (text : List ℕ) (xs ys : List (Addr × List ℕ)) → with_send o text (xs ++ ys) ≡ with_send o text xs ++ ys
sent_more None text xs ys = refl
sent_more (Some to) text xs ys = refl

sends_more : (known : List KnownPeer) (xs ys : List Offer) → sends_of known (xs ++ ys) ≡ sends_of known xs ++ sends_of known ys
sends_more known [] ys = refl
sends_more known (offer.To peer at text ∷ xs) ys =
    ap (with_send (addr_of peer known) text) (sends_more known xs ys) ∙ sent_more (addr_of peer known) text (sends_of known xs) (sends_of known ys)
sends_more known (offer.Web at text ∷ xs) ys = sends_more known xs ys

replies_more : (xs ys : List Offer) → replies_of (xs ++ ys) ≡ replies_of xs ++ replies_of ys
replies_more [] ys = refl
replies_more (offer.To peer at text ∷ xs) ys = replies_more xs ys
replies_more (offer.Web at text ∷ xs) ys = ap (λ (l : List (List ℕ)). text ∷ l) (replies_more xs ys)

delivered_both : (known : List KnownPeer) (xs ys : List Offer) (a b c : LinkOutput) → DeliveredMore known xs a b → DeliveredMore known ys b c → DeliveredMore known (xs ++ ys) a c
delivered_both known xs ys a b c one other = record {
  sent = one.sent ++ other.sent;
  sends = other.sends ∙ (ap (λ l. l ++ other.sent) one.sends ∙ append_assoc a.offers one.sent other.sent);
  sends_same = map-append send_of one.sent other.sent ∙ (ap (λ l. l ++ map send_of other.sent) one.sends_same ∙ (ap (λ l. sends_of known xs ++ l) other.sends_same ∙ sym (sends_more known xs ys)));
  sent_replies = one.sent_replies ++ other.sent_replies;
  replies = other.replies ∙ (ap (λ l. l ++ other.sent_replies) one.replies ∙ append_assoc a.replies one.sent_replies other.sent_replies);
  replies_same = map-append text_of one.sent_replies other.sent_replies ∙ (ap (λ l. l ++ map text_of other.sent_replies) one.replies_same ∙ (ap (λ l. replies_of xs ++ l) other.replies_same ∙ sym (replies_more xs ys)));
}

pub delivered_more : (known : List KnownPeer) (xs ys : List Offer) (a b c : Option LinkOutput) → Delivered known xs a b → Delivered known ys b c → Delivered known (xs ++ ys) a c
delivered_more known xs ys None None c one other = other
delivered_more known xs ys None (Some b) c one other = absurd (none-some b (sym one))
delivered_more known xs ys (Some a) None c one other = absurd one
delivered_more known xs ys (Some a) (Some b) None one other = absurd other
delivered_more known xs ys (Some a) (Some b) (Some c) one other = delivered_both known xs ys a b c one other

-- one more of a list of outputs
pub take_next : (i : ℕ) (es : List Offer) (e : Offer) → i < length es → e ≡ get_or es i e → take (i + 1) es ≡ take i es ++ e ∷ []
take_next i es e less is =
    let here : drop i es ≡ get_or es i e ∷ drop (i + 1) es = rw (add-one, drop-cons es i e) refl in
    take-add i 1 es ∙ ap (λ (l : List Offer). take i es ++ take 1 l) (here ∙ ap (λ (x : Offer). x ∷ drop (i + 1) es) (sym is))

-- and where memory ran out they are a prefix of them
pub delivered_prefix : (known : List KnownPeer) (i : ℕ) (es : List Offer) (a b : Option LinkOutput) (result : Result (Unit {0}) NoMemory) → IsErr result → Delivered known (take i es) a b
    → DeliveredAll known es a b result
delivered_prefix known i es a b (Ok x) is gave = absurd cc
delivered_prefix known i es a b (Err e) is gave = (take i es, drop i es, take-append-drop i es, gave)

-- ---- what was lost

pub lost_none : (given : Option LinkOutput) (giving : ℕ) → LostOnlyWhereRose given given giving giving
lost_none given giving = inl (refl, refl)

pub lost_then : (a b c : Option LinkOutput) (n m k : ℕ) → LostOnlyWhereRose a b n m → LostOnlyWhereRose b c m k → LostOnlyWhereRose a c n k
lost_then a b c n m k (inl one) (inl other) = inl (other.0 ∙ one.0, other.1 ∙ one.1)
lost_then a b c n m k (inl one) (inr rose) = inr (subst (λ (l : ℕ). Rose l k) one.1 rose)
lost_then a b c n m k (inr rose) (inl other) = inr (subst (λ (l : ℕ). Rose n l) (sym other.1) rose)
lost_then a b c n m k (inr rose) (inr more) = inr (omega (arith, rose, more))

-- and its count
pub counted_none : (given : Option LinkOutput) (giving : ℕ) → RoseBy (new_losses given given) giving giving
counted_none given giving = omega arith

counts_then : (x y z n m k : ℕ) → RoseBy (y - x) n m → RoseBy (z - y) m k → RoseBy (z - x) n k
counts_then x y z n m k one other = omega (arith, one, other)

pub counted_then : (a b c : Option LinkOutput) (n m k : ℕ) → RoseBy (new_losses a b) n m → RoseBy (new_losses b c) m k → RoseBy (new_losses a c) n k
counted_then a b c n m k one other = counts_then (losses_if_exposed a) (losses_if_exposed b) (losses_if_exposed c) n m k one other
