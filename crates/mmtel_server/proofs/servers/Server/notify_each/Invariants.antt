use Rattle.std.proofs.Common.{◌≡◌, List, ℕ, drop}
use Rattle.mmtel_directory.specs.declared.directories.Directory.{Directory}
use Rattle.mmtel_environment.specs.declared.events.Offer.{Offer}
use Rattle.mmtel_run_definitions.specs.ShortRuns.{IsShort}
use Rattle.mmtel_run_definitions.specs.Subscriptions.{after_notify_to_each}
use Rattle.mmtel_run_definitions.specs.Transitions.{RunState}
use Rattle.mmtel_server.proofs.Grows.{Grows}
use Rattle.mmtel_server.proofs.servers.Server.notify_each.Given as goal
use Rattle.mmtel_server.specs.Representation.{RepresentsWithOffers}

-- those that were notified so far and those that are to be notified are all
abbrev pub invariant-loop-sub : goal.invariant-loop-sub
invariant-loop-sub g l = (d : Directory) (token : List ℕ) (before : List Offer) (w : RunState) → RepresentsWithOffers d token before l.fn.self l.fn.out w → IsShort (after_notify_to_each d token l.context.at l.subs w)
    → (v : RunState) × Grows w v × RepresentsWithOffers d token before l.self l.out v × (after_notify_to_each d token l.context.at (drop l.sub-index l.subs) v ≡ after_notify_to_each d token l.context.at l.subs w)
