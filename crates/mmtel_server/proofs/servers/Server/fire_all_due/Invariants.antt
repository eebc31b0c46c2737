use Rattle.std.proofs.Common.{◌≡◌, ◌+◌, List, ℕ}
use Rattle.mmtel_directory.specs.declared.directories.Directory.{Directory}
use Rattle.mmtel_environment.specs.declared.events.Offer.{Offer}
use Rattle.mmtel_run_definitions.specs.Run.{IsSettled, after_due_deadlines}
use Rattle.mmtel_run_definitions.specs.ShortRuns.{IsShort}
use Rattle.mmtel_run_definitions.specs.Transitions.{RunState}
use Rattle.mmtel_server.specs.Representation.{RepresentsWithOffers}
use Rattle.mmtel_server.proofs.servers.Server.fire_all_due.Given as goal

-- so many timers fired
abbrev pub invariant-loop-i : goal.invariant-loop-i
invariant-loop-i g l =
    (fuel : ℕ) (d : Directory) (token : List ℕ) (before : List Offer) (w : RunState) → RepresentsWithOffers d token before l.fn.self l.fn.out w → IsSettled d token fuel l.now w →
    IsShort (after_due_deadlines d token fuel l.now w) →
    RepresentsWithOffers d token before l.self l.out (after_due_deadlines d token l.i l.now w) × ((after_due_deadlines d token l.i l.now w).steps ≡ w.steps + l.i)
