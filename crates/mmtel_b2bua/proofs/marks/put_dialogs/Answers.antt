use Rattle.std.proofs.Common.{subst, sym}
use Rattle.mmtel_call.specs.declared.calls.Phase.{Phase}
use Rattle.mmtel_b2bua.specs.Marks.{dialog_marks}
use Rattle.mmtel_output.specs.Marks.{MarkUpdate}
use Rattle.mmtel_output.proofs.Marking.{none_written}
use Rattle.mmtel_b2bua.proofs.marks.put_dialogs.Goals as goal

pub returns-in-Over : goal.returns-in-Over
returns-in-Over c =
    subst (λ (p : Phase). MarkUpdate c.args.stays c.args.call.0 (dialog_marks p) c.args.index.now c.args.index.now) (sym c.in-Over.is) (none_written c.args.stays c.args.call.0 c.args.index.now)
