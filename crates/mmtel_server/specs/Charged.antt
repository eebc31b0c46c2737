-- All CDRs of a run: those that the keeper accepted, and those that wait for it (TS 32.260 §5).
use Rattle.std.specs.Prelude.{◌≡◌, ℕ, Bool, true, false, List, [], ◌∷◌, ◌++◌}
use Rattle.mmtel_directory.specs.declared.directories.Directory.{Directory}
use Rattle.mmtel_records_in_force.specs.Texts.{Texts}
use Rattle.mmtel_run_definitions.specs.Events.{EventRecord}
use Rattle.mmtel_run_definitions.specs.ChargingRows.{AreFiled}
use Rattle.mmtel_run_definitions.specs.Run.{IsEnough, state_after}
use Rattle.mmtel_run_definitions.specs.ShortRuns.{IsShortRun}
use Rattle.mmtel_run_definitions.specs.Transitions.{RunState}
use Rattle.mmtel_server.specs.Representation.{RepresentsRun}
use Rattle.mmtel_server.specs.declared.servers.Server.{Server}

-- whether the keeper accepted the CDRs that were handed to it at the end of the last of these events
abbrev pub accepted_last : List EventRecord → Bool
accepted_last [] = false
accepted_last (one ∷ []) = one.accepted
accepted_last (one ∷ other ∷ recorded) = accepted_last (other ∷ recorded)

-- for the state of a run after these events
pub record ChargesRows (directory : Directory) (state : RunState) (recorded : List EventRecord) : Type 0 where
  -- the CDRs that the keeper accepted in the whole run, and then those that wait, are all CDRs that its calls closed and all those of the participants that left, each
  -- in the order in which they were closed: none is lost, and none comes twice;
  pub all : AreFiled directory state
  -- and none waits after an event at whose end the keeper accepted what was handed to it
  pub none : accepted_last recorded ≡ true → state.waiting ≡ []

-- whatever run the server serves in, this holds for that run continued by these events
abbrev pub ChargesRun : List EventRecord → Server → Type 0
ChargesRun recorded old =
    (directory : Directory) (token : List ℕ) (loaded : Texts) (earlier : List EventRecord) (fuel : ℕ) →
    RepresentsRun directory token loaded earlier old → IsShortRun directory token loaded (earlier ++ recorded) →
    IsEnough directory token loaded fuel (earlier ++ recorded) →
    ChargesRows directory (state_after directory token loaded fuel (earlier ++ recorded)) recorded
