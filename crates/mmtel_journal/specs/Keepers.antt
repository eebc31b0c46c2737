-- A keeper over a journal, as contracts see it.
use Rattle.std.specs.Prelude.{ℕ, List, []}
use Rattle.mmtel_keeper.specs.Contents.{KeeperContents}
use Rattle.mmtel_journal.specs.Journal.{IsAmong}
use Rattle.mmtel_journal.specs.Logs.{LogRepresents}
use Rattle.mmtel_journal.specs.Payloads.{IsPayload, AddsAll}
use Rattle.mmtel_journal.specs.declared.keepers.JournalKeeper.{JournalKeeper}

-- its contents in memory
abbrev pub contents_of : {D : Type 0} → JournalKeeper D → KeeperContents
contents_of k = record { sheets = k.sheets.texts; rows = k.rows.items }

abbrev pub no_contents : KeeperContents
no_contents = record { sheets = []; rows = [] }

-- its journal on the disk has these payloads, and gives its contents; a stop may leave one more, of those that were refused
pub record KeeperRepresents {D : Type 0} (may_leave : D → List ℕ → Type 0) (payloads refused : List (List ℕ)) (k : JournalKeeper D) : Type 0 where
  pub log : LogRepresents may_leave payloads refused k.log
  pub forms : (payload : List ℕ) → IsAmong refused payload → IsPayload payload
  pub contents : AddsAll payloads no_contents (contents_of k)
