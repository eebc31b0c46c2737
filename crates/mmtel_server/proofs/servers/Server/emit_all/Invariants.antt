use Rattle.std.proofs.Common.{◌≡◌, List, ℕ, drop}
use Rattle.mmtel_directory.specs.declared.directories.Directory.{Directory}
use Rattle.mmtel_environment.specs.declared.events.Offer.{Offer}
use Rattle.mmtel_run_definitions.specs.ShortRuns.{IsShort}
use Rattle.mmtel_run_definitions.specs.Transitions.{RunState, with_emits}
use Rattle.mmtel_server.proofs.Grows.{Grows}
use Rattle.mmtel_server.proofs.servers.Server.emit_all.Given as goal
use Rattle.mmtel_server.specs.Representation.{RepresentsWithOffers}

-- the calls are unchanged, and the commands that are executed and those that remain are all
abbrev pub invariant-loop-emit : goal.invariant-loop-emit
invariant-loop-emit g l = (l.self.calls ≡ l.fn.self.calls)
    × ((d : Directory) (token : List ℕ) (before : List Offer) (w : RunState) → RepresentsWithOffers d token before l.fn.self l.fn.out w → IsShort (with_emits l.context.at l.emits w)
    → (v : RunState) × Grows w v × RepresentsWithOffers d token before l.self l.out v × (with_emits l.context.at (drop l.emit-index l.emits) v ≡ with_emits l.context.at l.emits w))
