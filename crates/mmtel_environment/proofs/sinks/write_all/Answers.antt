use Rattle.mmtel_environment.proofs.Appending.{Appends-both, take-next, next-le}
use Rattle.mmtel_environment.proofs.sinks.write_all.Goals as goal

pub loop-at-preserved : goal.loop-at-preserved
loop-at-preserved g c =
    let here = c.in_ok-at.ensures in
    let in_range = c.loop-at.invariant.in_range in
    let whole = Appends-both _ _ _ _ _ c.loop-at.invariant.taken here.appended in
    record {
      in_range = next-le c.args.text.now c.loop-at.at c.in_ok-at.field-0 in_range here.bound;
      taken = rw (← take-next c.args.text.now c.loop-at.at c.in_ok-at.field-0 in_range here.bound) whole;
      no_fault = cc here.cause.kept;
    }
