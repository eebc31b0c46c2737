use Rattle.mmtel_journal.specs.JournalCalls.{possible_additions, refused_after_calls}
use Rattle.mmtel_journal.specs.Keepers.{contents_of}
use Rattle.mmtel_journal.proofs.KeptContents.{found_between, found_within}
use Rattle.mmtel_journal.proofs.OpenedJournals.{opened_more}
use Rattle.mmtel_journal.proofs.recovery.crash_images_are_opened.Goals as goal

pub returns-clause-between : goal.returns-clause-between
returns-clause-between g c = λ calls old new payloads refused f opened h keeps run left opening.
    opened_more (contents_of new) (refused_after_calls refused calls) f opened
    (found_between g.D.Disk.honest g.D.Disk.may_leave g.D.Disk.clock g.D.Disk.left_since calls old new payloads refused h keeps run f left) opening

pub returns-clause-within : goal.returns-clause-within
returns-clause-within g c = λ calls old mid new call payloads refused f opened h keeps run one left opening.
    opened_more (contents_of mid) (possible_additions (refused_after_calls refused calls) call) f opened
    ((found_within g.D.Disk.honest g.D.Disk.may_leave g.D.Disk.clock g.D.Disk.left_since calls old mid call new payloads refused h keeps run one).each f left) opening
