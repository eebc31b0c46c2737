-- Theorems about outputs that are passed in parts.
use Rattle.std.specs.Prelude.{List, [], ◌++◌, Option}
use Rattle.mmtel_link.specs.LinkStates.{LinkOutput}
use Rattle.mmtel_environment.specs.declared.events.Offer.{Offer}
use Rattle.mmtel_trust.specs.declared.known_peers.KnownPeer.{KnownPeer}
use Rattle.mmtel_delivery.specs.Delivery.{Delivered}

-- for no outputs nothing is passed
abbrev pub NothingIsDelivered : Type 0
NothingIsDelivered = (known : List KnownPeer) (given : Option LinkOutput) → Delivered known [] given given

-- what was passed for these outputs, and then for others, was passed for all of them
abbrev pub PartsAreDelivered : Type 0
PartsAreDelivered = (known : List KnownPeer) (offers others : List Offer) (before between after : Option LinkOutput) →
    Delivered known offers before between → Delivered known others between after → Delivered known (offers ++ others) before after
