-- The count of a keeper in memory, or over a journal or a database.
use Rattle.std.specs.Prelude.{ℕ}
use Rattle.mmtel_stored_keepers.specs.declared.keepers.StoreKeeper.{StoreKeeper}

abbrev pub store_faults : StoreKeeper → ℕ
store_faults keeper = keeper.faults
