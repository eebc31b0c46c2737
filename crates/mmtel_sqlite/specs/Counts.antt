-- What is known of a keeper over a database: how many of its calls have failed so far.
use Rattle.std.specs.Prelude.{◌≡◌, ℕ}
use Rattle.mmtel_environment.specs.Counts.{Rose}
use Rattle.mmtel_keeper.specs.declared.keepers.KeepFault.{KeepFault}
use Rattle.mmtel_keeper.specs.declared.keepers.KeepFault.TheVariants.{Failed, NoMemory}
use Rattle.mmtel_sqlite.specs.declared.keepers.SqliteKeeper.{SqliteKeeper}

abbrev pub keep_faults : SqliteKeeper → ℕ
keep_faults keeper = keeper.faults

-- the count rose for a fault that is counted, and is as before where memory runs out
abbrev pub HasCounted : ℕ → ℕ → KeepFault → Type 0
HasCounted before now Failed = Rose before now
HasCounted before now NoMemory = now ≡ before
