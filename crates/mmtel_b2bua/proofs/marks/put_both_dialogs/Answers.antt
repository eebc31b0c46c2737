use Rattle.std.proofs.Common.{[], ◌∷◌}
use Rattle.mmtel_b2bua.specs.Marks.{dialog_mark}
use Rattle.mmtel_output.proofs.Marking.{joined}
use Rattle.mmtel_b2bua.proofs.marks.put_both_dialogs.Goals as goal

pub returns : goal.returns
returns c =
    joined c.args.stays c.args.call.0 (dialog_mark c.args.caller.now ∷ []) (dialog_mark c.args.callee.now ∷ []) c.args.index.now c.put_dialog.new.index c.put_dialog-2.new.index
    c.put_dialog.ensures c.put_dialog-2.ensures
