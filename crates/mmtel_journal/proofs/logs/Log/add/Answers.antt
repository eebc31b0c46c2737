use Rattle.mmtel_journal.proofs.LogCalls.{add_done, add_refused}
use Rattle.mmtel_journal.proofs.logs.Log.add.Goals as goal

pub returns-clause-done : goal.returns-clause-done
returns-clause-done g c =
    λ more is. add_done g.D.Disk.honest g.D.Disk.may_leave g.D.Disk.clock g.D.Disk.left_since c.args.self.now c.write.new.self c.write.ensures.honest.0 more c.write.result
    (λ payloads refused h stands. c.write.ensures.ok payloads refused more h is stands)
    (λ payloads refused h stands. c.write.ensures.any_moment payloads refused more h is stands)

pub returns-clause-refused : goal.returns-clause-refused
returns-clause-refused g c =
    λ more is. add_refused g.D.Disk.honest g.D.Disk.may_leave g.D.Disk.clock g.D.Disk.left_since c.args.self.now c.write.new.self c.write.ensures.honest.0 more c.write.result
    (λ payloads refused h stands. c.write.ensures.err payloads refused more h is stands)
    (λ payloads refused h stands. c.write.ensures.any_moment payloads refused more h is stands)
