-- What is sent to a peer's address is what the peer observes of the outputs, and noninterference holds for it.
use Rattle.std.proofs.Common.{◌≡◌, ◌==◌, ℕ, Bool, true, false, List, [], ◌∷◌, ◌++◌, map, refl, sym, ap, ◌∙◌, subst, Option, None, Some, inl, inr}
use Rattle.std.specs.Prelude.{if◌then◌else◌}
use Rattle.std.proofs.lemmas.Bool.{cases_Bool}
use Rattle.std.proofs.lemmas.List.{map-append}
use Rattle.mmtel_delivery.specs.Delivery.{Delivered, bytes_to, send_of, sends_of}
use Rattle.mmtel_link.specs.LinkStates.{LinkOutput}
use Rattle.mmtel_environment.specs.declared.events.Offer.{Offer}
use Rattle.mmtel_environment.specs.declared.events.Offer.TheVariants as offer
use Rattle.mmtel_run_definitions.specs.Events.{EventRecord}
use Rattle.mmtel_run_definitions.specs.TopTheorem.{Gives, GivesAlways}
use Rattle.mmtel_run_definitions.specs.Run.{IsEnough, offers_of_run}
use Rattle.mmtel_run_definitions.specs.ShortRuns.{IsShortRun}
use Rattle.mmtel_run_definitions.specs.View.{view}
use Rattle.mmtel_run_theorems.specs.SentBytes.{BytesAreSeen, texts_seen}
use Rattle.mmtel_run_theorems.specs.Noninterference.{OffersKeepNoninterference}
use Rattle.mmtel_server.specs.declared.servers.Server.{Server}
use Rattle.mmtel_trust.specs.declared.known_peers.KnownPeer.{KnownPeer}
use Rattle.mmtel_types.specs.Addrs.{is_same_addr}
use Rattle.mmtel_types.specs.declared.addrs.Addr.{Addr}
use Rattle.mmtel_types.specs.declared.numbers.Peer.{Peer}
use Rattle.mmtel_serve.specs.ServeEffects.{DeliveredOn, DeliveryAborted, KeepsNoninterference, KeepsNoninterferenceSoFar, SentTo}

one_more : (b : Bool) (text : List ℕ) (xs ys : List (List ℕ)) → (if b then text ∷ (xs ++ ys) else xs ++ ys) ≡ (if b then text ∷ xs else xs) ++ ys
one_more true text xs ys = refl
one_more false text xs ys = refl

bytes_then : (addr : Addr) (xs ys : List (Addr × List ℕ)) → bytes_to addr (xs ++ ys) ≡ bytes_to addr xs ++ bytes_to addr ys
bytes_then addr [] ys = refl
bytes_then addr (x ∷ xs) ys =
    ap (λ (l : List (List ℕ)). if is_same_addr x.0 addr then x.1 ∷ l else l) (bytes_then addr xs ys) ∙ one_more (is_same_addr x.0 addr) x.1 (bytes_to addr xs) (bytes_to addr ys)

-- what was sent to an address is what was output for its peer
sent_there : (known : List KnownPeer) (offers : List Offer) (given now : Option LinkOutput) (addr : Addr) (texts : List (List ℕ)) → Delivered known offers given now → bytes_to addr (sends_of known offers) ≡ texts
    → SentTo addr given now texts
sent_there known offers None now addr texts gave seen = tt
sent_there known offers (Some given) None addr texts gave seen = absurd gave
sent_there known offers (Some given) (Some now) addr texts gave seen =
    ap (λ l. bytes_to addr (map send_of l)) gave.sends
    ∙ (ap (bytes_to addr) (map-append send_of given.offers gave.sent)
    ∙ (bytes_then addr (map send_of given.offers) (map send_of gave.sent)
    ∙ ap (λ (l : List (List ℕ)). bytes_to addr (map send_of given.offers) ++ l) (ap (bytes_to addr) gave.sends_same ∙ seen)))

pub kept_of : OffersKeepNoninterference → GivesAlways → BytesAreSeen → (recorded : List EventRecord) (old : Server) (given now : Option LinkOutput) → DeliveredOn recorded old given now →
    KeepsNoninterference recorded old given now
kept_of keeps always bytes recorded old given now gave d token loaded serves short =
    let enough = always d token loaded recorded in
    let here = gave d token loaded [] enough.0 serves short enough.1 in
    let exact : Gives d token loaded recorded here.0 = record { fuel = enough.0; enough = enough.1; exact = sym here.1 } in (
      here.0,
      keeps d token loaded recorded here.0 exact,
      λ seer addr apart at. sent_there d.peers.known here.0 given now addr (texts_seen seer here.0) here.2 (bytes d.peers.known seer addr here.0 apart at),
    )

-- ---- where memory ran out

view_then : (p : Peer) (xs ys : List Offer) → view p (xs ++ ys) ≡ view p xs ++ view p ys
view_then p [] ys = refl
view_then p (offer.To peer at text ∷ xs) ys = elim (cases_Bool (peer.0 == p.0)) [
  | inl y ↦ rw y (ap (λ (l : List (ℕ × List ℕ)). (at, text) ∷ l) (view_then p xs ys))
  | inr n ↦ rw n (view_then p xs ys)
]
view_then p (offer.Web at text ∷ xs) ys = view_then p xs ys

seen_then : (p : Peer) (xs ys : List Offer) → texts_seen p (xs ++ ys) ≡ texts_seen p xs ++ texts_seen p ys
seen_then p xs ys = ap (map (λ (seen : ℕ × List ℕ). seen.1)) (view_then p xs ys) ∙ map-append (λ (seen : ℕ × List ℕ). seen.1) (view p xs) (view p ys)

-- what was passed is a prefix of the outputs of the run, so what was sent is a prefix of what is observed of these
pub front_of : OffersKeepNoninterference → GivesAlways → BytesAreSeen → (recorded : List EventRecord) (old : Server) (given now : Option LinkOutput) → DeliveryAborted recorded old given now
    → KeepsNoninterferenceSoFar recorded old given now
front_of keeps always bytes recorded old given now s d token loaded serves short =
    let enough = always d token loaded recorded in
    let few = subst (λ (l : List EventRecord). IsShortRun d token loaded l) s.parts short in
    let so_far = subst (λ (l : List EventRecord). IsEnough d token loaded enough.0 l) s.parts enough.1 in
    let here = s.delivered d token loaded [] enough.0 serves few so_far in
    let offers : List Offer = offers_of_run d token loaded enough.0 recorded in
    let front : here.0 ++ here.1.1.0 ≡ offers = here.1.1.1 ∙ ap (offers_of_run d token loaded enough.0) (sym s.parts) in
    let exact : Gives d token loaded recorded offers = record { fuel = enough.0; enough = enough.1; exact = refl } in (
      offers,
      keeps d token loaded recorded offers exact,
      λ seer addr apart at. (
        texts_seen seer here.0,
        texts_seen seer here.1.1.0,
        sym (seen_then seer here.0 here.1.1.0) ∙ ap (texts_seen seer) front,
        sent_there d.peers.known here.0 given now addr (texts_seen seer here.0) here.2 (bytes d.peers.known seer addr here.0 apart at),
      ),
    )
