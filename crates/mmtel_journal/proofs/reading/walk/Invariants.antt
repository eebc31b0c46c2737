use Rattle.std.proofs.Common.{◌≡◌, ◌++◌, List, ℕ, length}
use Rattle.mmtel_journal.specs.Journal.{encoded_records}
use Rattle.mmtel_journal.specs.Keepers.{no_contents}
use Rattle.mmtel_journal.specs.Payloads.{AddsAll}
use Rattle.mmtel_journal.proofs.reading.walk.Given as goal

abbrev pub invariant-loop-rest : goal.invariant-loop-rest
invariant-loop-rest l =
    (payloads : List (List ℕ)) × (l.bytes ≡ encoded_records payloads ++ l.rest) × AddsAll payloads no_contents (record { sheets = l.sheets.texts; rows = l.rows.items })

abbrev pub decreases-loop-rest : goal.decreases-loop-rest
decreases-loop-rest l = length l.rest
