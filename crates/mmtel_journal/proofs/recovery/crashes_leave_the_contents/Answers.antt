use Rattle.mmtel_journal.proofs.KeptContents.{found_between, found_within}
use Rattle.mmtel_journal.proofs.recovery.crashes_leave_the_contents.Goals as goal

pub returns-clause-between : goal.returns-clause-between
returns-clause-between g c =
    λ calls old new payloads refused h keeps run. found_between g.D.Disk.honest g.D.Disk.may_leave g.D.Disk.clock g.D.Disk.left_since calls old new payloads refused h keeps run

pub returns-clause-within : goal.returns-clause-within
returns-clause-within g c =
    λ calls old mid new call payloads refused h keeps run one. found_within g.D.Disk.honest g.D.Disk.may_leave g.D.Disk.clock g.D.Disk.left_since calls old mid call new payloads
    refused h keeps run one
