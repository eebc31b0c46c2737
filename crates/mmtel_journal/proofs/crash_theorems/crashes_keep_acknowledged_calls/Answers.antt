use Rattle.mmtel_journal.proofs.JournalCalls.{between, within}
use Rattle.mmtel_journal.proofs.crash_theorems.crashes_keep_acknowledged_calls.Goals as goal

pub returns-clause-between : goal.returns-clause-between
returns-clause-between g c =
    λ calls old new payloads refused honest stands run. between g.D.Disk.honest g.D.Disk.may_leave g.D.Disk.clock g.D.Disk.left_since calls old new payloads refused honest
    stands run

pub returns-clause-within : goal.returns-clause-within
returns-clause-within g c =
    λ calls old mid new call payloads refused honest stands run one. within g.D.Disk.honest g.D.Disk.may_leave g.D.Disk.clock g.D.Disk.left_since calls old mid call new payloads
    refused honest stands run one
