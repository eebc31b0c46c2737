-- What opening a journal found.
use Rattle.std.proofs.Common.{ℕ, List, Result, Ok, Err, sym, subst}
use Rattle.mmtel_keeper.specs.Contents.{KeeperContents}
use Rattle.mmtel_journal.specs.JournalContents.{ContentsOrMore, IsJournalOfOrMore}
use Rattle.mmtel_journal.specs.Opening.{OpensAs, IsOpening}
use Rattle.mmtel_journal.specs.declared.opening.JournalFault.{JournalFault}
use Rattle.mmtel_journal.specs.declared.keepers.JournalKeeper.{JournalKeeper}

pub opened_more : {D : Type 0} (held : KeeperContents) (refused : List (List ℕ)) (c : List ℕ) (opened : Result (JournalKeeper D) (D × JournalFault))
    → IsJournalOfOrMore held refused c → IsOpening c opened → OpensAs (ContentsOrMore held refused) opened
opened_more held refused c (Ok k) finds opening = subst (ContentsOrMore held refused) (sym (opening finds.0 finds.2)) finds.1
opened_more held refused c (Err e) finds opening = opening finds.0 finds.2
