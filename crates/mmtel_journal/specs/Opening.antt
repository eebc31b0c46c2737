-- The results of creating and opening a journal.
use Rattle.std.specs.Prelude.{◌≡◌, ◌≢◌, ◌⊎◌, ℕ, List, Ok, Err}
use Rattle.std.specs.declared.result.Result.{Result}
use Rattle.mmtel_keeper.specs.Contents.{KeeperContents}
use Rattle.mmtel_journal.specs.JournalContents.{IsJournalOf}
use Rattle.mmtel_journal.specs.Keepers.{contents_of}
use Rattle.mmtel_journal.specs.declared.disks.DiskFault.{DiskFault}
use Rattle.mmtel_journal.specs.declared.disks.DiskFault.TheVariants as disk
use Rattle.mmtel_journal.specs.declared.opening.JournalFault.{JournalFault}
use Rattle.mmtel_journal.specs.declared.opening.JournalFault.TheVariants.{Failed, NotEmpty, Broken, NoMemory}
use Rattle.mmtel_journal.specs.declared.keepers.JournalKeeper.{JournalKeeper}

abbrev pub fault_of : DiskFault → JournalFault
fault_of disk.Failed = Failed
fault_of disk.NoMemory = NoMemory

-- the disk has so many bytes and is not empty, if that is the fault
abbrev pub OnNotEmpty : ℕ → JournalFault → Type 0
OnNotEmpty size (NotEmpty len) = (len ≡ size) × (len ≢ 0)
OnNotEmpty size Failed = Unit {0}
OnNotEmpty size (Broken at) = ⊥
OnNotEmpty size NoMemory = Unit {0}

-- broken at such a position, if that is the fault
abbrev pub OnBrokenAt : (ℕ → Type 0) → JournalFault → Type 0
OnBrokenAt P (Broken at) = P at
OnBrokenAt P Failed = Unit {0}
OnBrokenAt P (NotEmpty len) = ⊥
OnBrokenAt P NoMemory = Unit {0}

-- the contents have P, unless the disk failed or memory ran out
abbrev pub OpensAs : {D : Type 0} → (KeeperContents → Type 0) → Result (JournalKeeper D) (D × JournalFault) → Type 0
OpensAs P (Ok k) = P (contents_of k)
OpensAs P (Err e) = (e.1 ≡ Failed) ⊎ (e.1 ≡ NoMemory)

-- the bytes were opened: the result has their contents
abbrev pub IsOpening : {D : Type 0} → List ℕ → Result (JournalKeeper D) (D × JournalFault) → Type 0
IsOpening c result = (held : KeeperContents) → IsJournalOf held c → OpensAs (λ h. h ≡ held) result
