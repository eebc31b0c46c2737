use Rattle.mmtel_journal.proofs.LogCalls.{rest_done, rest_refused}
use Rattle.mmtel_journal.proofs.logs.Log.add_nothing.Goals as goal

pub returns-clause-done : goal.returns-clause-done
returns-clause-done g c =
    rest_done g.D.Disk.honest g.D.Disk.may_leave g.D.Disk.clock g.D.Disk.left_since c.args.self.now c.settle.new.self c.settle.ensures.honest.0 c.settle.result
    c.settle.ensures.ok c.settle.ensures.any_moment

pub returns-clause-refused : goal.returns-clause-refused
returns-clause-refused g c =
    rest_refused g.D.Disk.honest g.D.Disk.may_leave g.D.Disk.clock g.D.Disk.left_since c.args.self.now c.settle.new.self c.settle.ensures.honest.0 c.settle.result
    c.settle.ensures.err c.settle.ensures.any_moment
