-- The result of reading a journal.
use Rattle.std.specs.Prelude.{◌≡◌, ℕ}
use Rattle.mmtel_keeper.specs.Contents.{KeeperContents}
use Rattle.mmtel_journal.specs.declared.reading.ReadLog.{ReadLog}
use Rattle.mmtel_journal.specs.declared.reading.LogReadFault.{LogReadFault}
use Rattle.mmtel_journal.specs.declared.reading.LogReadFault.TheVariants.{Broken, NoMemory}

abbrev pub read_log_contents : ReadLog → KeeperContents
read_log_contents f = record { sheets = f.sheets.texts; rows = f.rows.items }

-- broken at such a position, if it is broken
abbrev pub OnBroken : (ℕ → Type 0) → LogReadFault → Type 0
OnBroken P (Broken at) = P at
OnBroken P NoMemory = Unit {0}

-- these are the contents, and the journal ends there
abbrev pub IsReadLogOf : ReadLog → ℕ → KeeperContents → Type 0
IsReadLogOf f gate held = (f.gate ≡ gate) × (read_log_contents f ≡ held)
