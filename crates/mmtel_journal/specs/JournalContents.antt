-- The contents of a disk's bytes: sheets and rows.
use Rattle.std.specs.Prelude.{◌≡◌, ◌⊎◌, ℕ, List}
use Rattle.mmtel_keeper.specs.Contents.{KeeperContents}
use Rattle.mmtel_journal.specs.Journal.{IsJournal, IsAmong}
use Rattle.mmtel_journal.specs.Payloads.{Adds, AddsAll}
use Rattle.mmtel_journal.specs.Keepers.{no_contents}

-- the bytes are a journal, and its payloads give these contents
abbrev pub IsJournalOf : KeeperContents → List ℕ → Type 0
IsJournalOf held c = (payloads : List (List ℕ)) × IsJournal payloads c × AddsAll payloads no_contents held

-- these contents, or those with one of the refused payloads added
abbrev pub ContentsOrMore : KeeperContents → List (List ℕ) → KeeperContents → Type 0
ContentsOrMore held refused found = (found ≡ held) ⊎ ((more : List ℕ) × IsAmong refused more × Adds more held found)

-- one of these is the content of the bytes
abbrev pub IsJournalOfOrMore : KeeperContents → List (List ℕ) → List ℕ → Type 0
IsJournalOfOrMore held refused c = (found : KeeperContents) × ContentsOrMore held refused found × IsJournalOf found c
