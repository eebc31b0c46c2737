-- The CDRs that wait at the end of a step, and the keeper to which they are handed (TS 32.260 §5).
use Rattle.std.specs.Prelude.{◌≡◌, ℕ, Bool, true, false, if◌then◌else◌, List, [], ◌∷◌, Option}
use Rattle.std.specs.Option.{option_map}
use Rattle.mmtel_charging.specs.declared.rows.Row.{Row}
use Rattle.mmtel_keeper.specs.Contents.{KeeperCalls, KeeperContents, with_rows}
use Rattle.mmtel_environment.specs.Counts.{Rose}
use Rattle.mmtel_web_service.specs.KeeperCalls.{MayBeCalled, WasCalled}

-- where none waits the keeper is not called; where some do it is called once, and holds all of them after the others, or none
abbrev pub HandsOver : (took : Bool) → List Row → Option KeeperContents → Option KeeperContents → Option KeeperCalls → Option KeeperCalls → Type 0
HandsOver took [] held later calls after = (took ≡ true) × ((later ≡ held) × (after ≡ calls))
HandsOver true (row ∷ rows) held later calls after = (later ≡ option_map (with_rows (row ∷ rows)) held) × WasCalled false calls after
HandsOver false (row ∷ rows) held later calls after = (later ≡ held) × WasCalled true calls after

-- its count of faults rose where it did not accept them, and is unchanged otherwise
abbrev pub HandoverFaults : (took : Bool) → ℕ → ℕ → Type 0
HandoverFaults true faults count = count ≡ faults
HandoverFaults false faults count = Rose faults count

-- memory ran out while they were handed over: they still wait, and nothing else changed
abbrev pub HandoverAborted : Option KeeperContents → Option KeeperContents → Option KeeperCalls → Option KeeperCalls → (faults count : ℕ) → Type 0
HandoverAborted held later calls after faults count = (later ≡ held) × (MayBeCalled calls after × (count ≡ faults))

-- of the CDRs that waited, those that were accepted, and those that still wait
abbrev pub accepted_rows : (took : Bool) → List Row → List Row
accepted_rows took waiting = if took then waiting else []

abbrev pub remaining_rows : (took : Bool) → List Row → List Row
remaining_rows took waiting = if took then [] else waiting
