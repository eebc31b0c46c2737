use Rattle.std.proofs.Common.{refl}
use Rattle.mmtel_journal.proofs.KeeperCalls.{untouched_kept}
use Rattle.mmtel_journal.proofs.keepers.JournalKeeperKeeper.rows.Goals as goal

pub returns-in_err-rows-clause-refused : goal.returns-in_err-rows-clause-refused
returns-in_err-rows-clause-refused g c = untouched_kept g.D.Disk.honest g.D.Disk.may_leave g.D.Disk.clock g.D.Disk.left_since _ _ g.met.D.Disk.only_now refl refl refl _
