-- What is passed to a link, event after event, is what they add to the outputs of the run.
use Rattle.std.proofs.Common.{◌≡◌, ◌≤◌, ℕ, List, [], ◌∷◌, ◌++◌, length, refl, sym, ap, ◌∙◌, subst, append-nil, append_assoc, Option, Err, arith}
use Rattle.mmtel_directory.specs.declared.directories.Directory.{Directory}
use Rattle.mmtel_delivery.specs.Delivery.{Delivered, DeliveredAll}
use Rattle.mmtel_delivery.specs.Theorems.{NothingIsDelivered, PartsAreDelivered}
use Rattle.mmtel_records_in_force.specs.Texts.{Texts}
use Rattle.mmtel_link.specs.LinkStates.{LinkOutput}
use Rattle.mmtel_environment.specs.declared.events.Offer.{Offer}
use Rattle.mmtel_run_definitions.specs.Events.{EventRecord}
use Rattle.mmtel_run_definitions.specs.TopTheorem.{GivesAlways}
use Rattle.mmtel_run_definitions.specs.Run.{IsEnough, offers_of_run}
use Rattle.mmtel_run_definitions.specs.ShortRuns.{IsShortRun}
use Rattle.mmtel_base.specs.declared.memory.NoMemory.{NoMemory}
use Rattle.mmtel_trust.specs.declared.known_peers.KnownPeer.{KnownPeer}
use Rattle.mmtel_server.specs.DriveEffects.{ContinuesServingBy}
use Rattle.mmtel_server.specs.Follows.{NumbersNeverFall}
use Rattle.mmtel_server.specs.Representation.{ContinuesServing, IsPrefixOf, RepresentsRun}
use Rattle.mmtel_server.specs.declared.servers.Server.{Server}
use Rattle.mmtel_server.proofs.Prefixes.{enough_of_front, gives_front}
use Rattle.mmtel_server.proofs.Effects.{few, few_first, there, whole}
use Rattle.mmtel_serve.specs.ServeEffects.{DeliveredOn, DeliveryAborted}
use Rattle.mmtel_serve.specs.Turns.{ArePeersOf}

-- there was no event, and nothing was passed
pub delivered_nothing : NothingIsDelivered → (s : Server) (given : Option LinkOutput) → DeliveredOn [] s given given
delivered_nothing none s given d token loaded es fuel serves short enough = (
  [],
  ap (λ (l : List EventRecord). offers_of_run d token loaded fuel l) (append-nil es) ∙ sym (append-nil (offers_of_run d token loaded fuel es)),
  none d.peers.known given,
)

module _ (law : NumbersNeverFall) (always : GivesAlways) (both : PartsAreDelivered) (xs : List EventRecord) (s t : Server) (first : ContinuesServingBy xs s t) (given between : Option LinkOutput)
    (gave : DeliveredOn xs s given between) where
  -- in a run of all these and then of more, by so many firings
  front : (ys : List EventRecord) (d : Directory) (token : List ℕ) (loaded : Texts) (es : List EventRecord) (fuel : ℕ) → RepresentsRun d token loaded es s → IsShortRun d token loaded (es ++ (xs ++ ys))
      → IsEnough d token loaded fuel (es ++ (xs ++ ys)) →
      (added : List Offer) × (offers_of_run d token loaded fuel (es ++ xs) ≡ offers_of_run d token loaded fuel es ++ added) × Delivered d.peers.known added given between
  front ys d token loaded es fuel serves short enough =
      gave d token loaded es fuel serves (few_first law always xs ys d token loaded es short)
      (enough_of_front d token loaded fuel (es ++ xs) ys (subst (λ (l : List EventRecord). IsEnough d token loaded fuel l) (whole law always xs ys es) enough))

  -- memory ran out in the event after, of which nothing was passed
  pub gave_still : (ys : List EventRecord) → length ys ≤ 1 → DeliveryAborted (xs ++ ys) s given between
  gave_still ys one = record {
    done = xs;
    last = ys;
    parts = refl;
    one = one;
    delivered = λ d token loaded es fuel serves short enough.
        let here = front ys d token loaded es fuel serves short enough in
        let more : IsPrefixOf (offers_of_run d token loaded fuel (es ++ xs)) (offers_of_run d token loaded fuel ((es ++ xs) ++ ys)) =
        gives_front d token loaded law (es ++ xs) ys fuel (subst (λ (l : List EventRecord). IsEnough d token loaded fuel l) (whole law always xs ys es) enough) in
        let after : IsPrefixOf (offers_of_run d token loaded fuel (es ++ xs)) (offers_of_run d token loaded fuel (es ++ (xs ++ ys))) =
        subst (λ (l : List EventRecord). IsPrefixOf (offers_of_run d token loaded fuel (es ++ xs)) (offers_of_run d token loaded fuel l)) (sym (whole law always xs ys es)) more in
        (here.0, (([], append-nil (offers_of_run d token loaded fuel (es ++ xs)) ∙ here.1), subst (λ (l : List Offer). IsPrefixOf l (offers_of_run d token loaded fuel (es ++ (xs ++ ys)))) here.1 after), here.2);
  }

  -- one more event, with these outputs
  module _ (one : EventRecord) (u : Server) (offers : List Offer) (adds : ContinuesServing t [] u offers one) (known : List KnownPeer) (peers : ArePeersOf known u) (now : Option LinkOutput) where
    -- its outputs
    abbrev Due : Directory → List ℕ → Texts → List EventRecord → ℕ → List Offer → Type 0
    Due d token loaded es fuel added = offers_of_run d token loaded fuel (es ++ (xs ++ one ∷ [])) ≡ offers_of_run d token loaded fuel es ++ (added ++ offers)

    due : (d : Directory) (token : List ℕ) (loaded : Texts) (es : List EventRecord) (fuel : ℕ) → RepresentsRun d token loaded es s → IsShortRun d token loaded (es ++ (xs ++ one ∷ []))
        → IsEnough d token loaded fuel (es ++ (xs ++ one ∷ [])) → (added : List Offer) → offers_of_run d token loaded fuel (es ++ xs) ≡ offers_of_run d token loaded fuel es ++ added
        → Due d token loaded es fuel added × (known ≡ d.peers.known)
    due d token loaded es fuel serves short enough added before =
        let more = adds d token loaded (es ++ xs) (there law always xs (one ∷ []) s t first d token loaded es serves short) (few law always xs (one ∷ []) d token loaded es short) in
        let last = more.1 fuel (subst (λ (l : List EventRecord). IsEnough d token loaded fuel l) (whole law always xs (one ∷ []) es) enough) in (
          ap (λ (l : List EventRecord). offers_of_run d token loaded fuel l) (whole law always xs (one ∷ []) es)
              ∙ (last.2
              ∙ (ap (λ (l : List Offer). l ++ last.0) before
              ∙ (append_assoc (offers_of_run d token loaded fuel es) added last.0
              ∙ ap (λ (l : List Offer). offers_of_run d token loaded fuel es ++ (added ++ l)) (sym last.1)))),
          peers d token loaded ((es ++ xs) ++ one ∷ []) more.0,
        )

    -- all of them were passed
    pub gave_then : Delivered known offers between now → DeliveredOn (xs ++ one ∷ []) s given now
    gave_then second d token loaded es fuel serves short enough =
        let here = front (one ∷ []) d token loaded es fuel serves short enough in
        let last = due d token loaded es fuel serves short enough here.0 here.1 in (
          here.0 ++ offers,
          last.0,
          both d.peers.known here.0 offers given between now here.2 (subst (λ (k : List KnownPeer). Delivered k offers between now) last.1 second),
        )

    -- or a prefix of them
    pub gave_part : (e : NoMemory) → DeliveredAll known offers between now (Err e) → DeliveryAborted (xs ++ one ∷ []) s given now
    gave_part e second = record {
      done = xs;
      last = one ∷ [];
      parts = refl;
      one = omega arith;
      delivered = λ d token loaded es fuel serves short enough.
          let here = front (one ∷ []) d token loaded es fuel serves short enough in
          let last = due d token loaded es fuel serves short enough here.0 here.1 in
          let begin : List Offer = offers_of_run d token loaded fuel es in
          let some : List Offer = here.0 ++ second.0 in (
            some,
            (
              (second.0, ap (λ (l : List Offer). l ++ second.0) here.1 ∙ append_assoc begin here.0 second.0),
              (
                second.1,
                append_assoc begin some second.1
                    ∙ (ap (λ (l : List Offer). begin ++ l) (append_assoc here.0 second.0 second.1 ∙ ap (λ (l : List Offer). here.0 ++ l) second.2)
                    ∙ sym last.0),
              ),
            ),
            both d.peers.known here.0 second.0 given between now here.2 (subst (λ (k : List KnownPeer). Delivered k second.0 between now) last.1 second.3),
          );
    }
