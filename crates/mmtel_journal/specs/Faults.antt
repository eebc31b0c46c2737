-- The count of a disk's faults after a call, by its result, and which fault of a keeper a fault of its disk is.
use Rattle.std.specs.Prelude.{◌≡◌, ℕ, Ok, Err}
use Rattle.std.specs.declared.result.Result.{Result}
use Rattle.mmtel_environment.specs.Counts.{HasFaultCause}
use Rattle.mmtel_journal.specs.declared.disks.DiskFault.{DiskFault}
use Rattle.mmtel_journal.specs.declared.disks.DiskFault.TheVariants.{Failed, NoMemory}
use Rattle.mmtel_journal.specs.declared.opening.JournalFault.{JournalFault}
use Rattle.mmtel_journal.specs.declared.opening.JournalFault.TheVariants as journal
use Rattle.mmtel_journal.specs.declared.keepers.JournalKeeper.{JournalKeeper}
use Rattle.mmtel_keeper.specs.declared.keepers.KeepFault.{KeepFault}
use Rattle.mmtel_keeper.specs.declared.keepers.KeepFault.TheVariants as fault

-- the count rose at `Failed`, and is as before at every other result
abbrev pub HasDiskCause : {T : Type 0} → ℕ → ℕ → Result T DiskFault → Type 0
HasDiskCause before now result = HasFaultCause Failed NoMemory before now result

abbrev pub fault_of : DiskFault → KeepFault
fault_of Failed = fault.Failed
fault_of NoMemory = fault.NoMemory

-- the same of creating a journal
abbrev pub HasJournalCause : {T : Type 0} → ℕ → ℕ → Result T JournalFault → Type 0
HasJournalCause before now result = HasFaultCause journal.Failed journal.NoMemory before now result

-- and of opening one, which returns the disk
abbrev pub OpenedFrom : {D : Type 0} → (D → ℕ) → ℕ → Result (JournalKeeper D) (D × JournalFault) → Type 0
OpenedFrom faults before (Ok k) = faults k.log.disk ≡ before
OpenedFrom faults before (Err e) = HasFaultCause {T = Unit {0}} journal.Failed journal.NoMemory before (faults e.0) (Err e.1)

abbrev pub HasOpenCause : {D : Type 0} → (D → ℕ) → D → Result (JournalKeeper D) (D × JournalFault) → Type 0
HasOpenCause faults disk result = OpenedFrom faults (faults disk) result
