-- What is passed to a link of a server's outputs: each datagram with the address of its peer, and each reply on a web connection, in the order of the outputs.
use Rattle.std.specs.Prelude.{◌≡◌, ◌⊎◌, ◌≤◌, ℕ, ◌+◌, ◌-◌, ◌^◌, min, List, [], ◌∷◌, ◌++◌, if◌then◌else◌, map, filter, length, Option, Some, None, Result, Ok, Err}
use Rattle.std.specs.Option.{option_map}
use Rattle.mmtel_link.specs.LinkStates.{LinkCalls, LinkOutput}
use Rattle.mmtel_link.specs.declared.events.SentReply.{SentReply}
use Rattle.mmtel_link.specs.declared.events.SentDatagram.{SentDatagram}
use Rattle.mmtel_environment.specs.Counts.{Rose}
use Rattle.mmtel_environment.specs.declared.events.Offer.{Offer}
use Rattle.mmtel_environment.specs.declared.events.Offer.TheVariants as offer
use Rattle.mmtel_base.specs.declared.memory.NoMemory.{NoMemory}
use Rattle.mmtel_trust.specs.Peers.{addr_of}
use Rattle.mmtel_trust.specs.declared.known_peers.KnownPeer.{KnownPeer}
use Rattle.mmtel_types.specs.Addrs.{is_same_addr}
use Rattle.mmtel_types.specs.declared.addrs.Addr.{Addr}

-- ---- datagrams and replies

-- a datagram to that address, before others; an output to no peer of the configuration is sent nowhere
abbrev pub with_send : Option Addr → List ℕ → List (Addr × List ℕ) → List (Addr × List ℕ)
with_send None text sends = sends
with_send (Some to) text sends = (to, text) ∷ sends

-- the datagrams of these outputs, in order: each with the address of its peer
abbrev pub sends_of : List KnownPeer → List Offer → List (Addr × List ℕ)
sends_of known [] = []
sends_of known (offer.To peer at text ∷ offers) = with_send (addr_of peer known) text (sends_of known offers)
sends_of known (offer.Web at text ∷ offers) = sends_of known offers

-- the replies on web connections among them, in order
abbrev pub replies_of : List Offer → List (List ℕ)
replies_of [] = []
replies_of (offer.To peer at text ∷ offers) = replies_of offers
replies_of (offer.Web at text ∷ offers) = text ∷ replies_of offers

-- the bytes that are sent to one address, in order
abbrev pub bytes_to : Addr → List (Addr × List ℕ) → List (List ℕ)
bytes_to addr [] = []
bytes_to addr (send ∷ sends) = if is_same_addr send.0 addr then send.1 ∷ bytes_to addr sends else bytes_to addr sends

-- ---- what was passed to a link

-- a datagram or a reply that was passed to it, lost or not
abbrev pub send_of : SentDatagram → Addr × List ℕ
send_of sent = (sent.to, sent.text)

abbrev pub text_of : SentReply → List ℕ
text_of replied = replied.text

-- exactly the datagrams and the replies of these outputs were passed in addition, in their order
pub record DeliveredMore (known : List KnownPeer) (offers : List Offer) (before after : LinkOutput) : Type 0 where
  pub sent : List SentDatagram
  pub sends : after.offers ≡ before.offers ++ sent
  pub sends_same : map send_of sent ≡ sends_of known offers
  pub sent_replies : List SentReply
  pub replies : after.replies ≡ before.replies ++ sent_replies
  pub replies_same : map text_of sent_replies ≡ replies_of offers

-- where the link's outputs are known
abbrev pub Delivered : List KnownPeer → List Offer → Option LinkOutput → Option LinkOutput → Type 0
Delivered known offers None after = after ≡ None
Delivered known offers (Some before) None = ⊥
Delivered known offers (Some before) (Some after) = DeliveredMore known offers before after

-- all of them; or, where memory runs out, a prefix of them
abbrev pub DeliveredAll : List KnownPeer → List Offer → Option LinkOutput → Option LinkOutput → Result (Unit {0}) NoMemory → Type 0
DeliveredAll known offers before after (Ok x) = Delivered known offers before after
DeliveredAll known offers before after (Err e) = (front : List Offer) × (rest : List Offer) × (front ++ rest ≡ offers) × Delivered known front before after

-- ---- what was lost

-- how many of the outputs of the link
abbrev pub losses_in : LinkOutput → ℕ
losses_in given = length (filter (λ (sent : SentDatagram). sent.lost) given.offers) + length (filter (λ (replied : SentReply). replied.lost) given.replies)

-- how many of its outputs more than before, where they are known
abbrev pub losses_if_exposed : Option LinkOutput → ℕ
losses_if_exposed None = 0
losses_if_exposed (Some given) = losses_in given

abbrev pub new_losses : Option LinkOutput → Option LinkOutput → ℕ
new_losses before after = losses_if_exposed after - losses_if_exposed before

-- a count rose by at least so much, or is the greatest u64
abbrev pub RoseBy : (much before now : ℕ) → Type 0
RoseBy much before now = min (before + much) (2 ^ 64 - 1) ≤ now

-- where the outputs are known, no more than before
abbrev pub LostNoMore : Option LinkOutput → Option LinkOutput → Type 0
LostNoMore before after = option_map losses_in after ≡ option_map losses_in before

-- nothing more, and the count of delivery faults is unchanged; or that count rose
abbrev pub LostOnlyWhereRose : Option LinkOutput → Option LinkOutput → (giving gave : ℕ) → Type 0
LostOnlyWhereRose before after giving gave = (LostNoMore before after × (gave ≡ giving)) ⊎ Rose giving gave

-- ---- the bound addresses of the link

-- where its calls are known, the addresses that were bound last are as before
abbrev pub IsBoundStill : Option LinkCalls → Option LinkCalls → Type 0
IsBoundStill calls after = option_map (λ (c : LinkCalls). c.bound) after ≡ option_map (λ (c : LinkCalls). c.bound) calls
