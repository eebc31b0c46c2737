use Rattle.mmtel_b2bua.specs.Marks.{relayed_marks}
use Rattle.mmtel_output.proofs.Marking.{none_written, step_written}
use Rattle.mmtel_b2bua.proofs.marks.put_in_flight.Goals as goal

pub loop-relayed-init : goal.loop-relayed-init
loop-relayed-init c = none_written c.args.stays c.args.call.0 c.args.index.now

pub loop-relayed-preserved : goal.loop-relayed-preserved
loop-relayed-preserved c =
    step_written relayed_marks c.args.stays c.args.call.0 c.args.in_flight.now c.loop-relayed.relayed-index c.relayed-item.result c.args.index.now c.loop-relayed.index c.put_relayed.new.index
    c.loop-relayed-test.true c.relayed-item.is c.loop-relayed.invariant c.put_relayed.ensures
