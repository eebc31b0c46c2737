use Rattle.std.proofs.Common.{Ok, Err, subst}
use Rattle.mmtel_directory.specs.Drafts.{Reads}
use Rattle.mmtel_directory.specs.Lines.{lines_of}
use Rattle.mmtel_directory.specs.declared.drafts.Draft.{Draft}
use Rattle.mmtel_directory.proofs.BoundTheorems.{result_is_bounded}
use Rattle.mmtel_directory.proofs.DraftTheorems.{draft_is_result, fault_is_result}
use Rattle.mmtel_directory.proofs.directories.read_directory.Goals as goal

pub returns-in-Ok : goal.returns-in-Ok
returns-in-Ok c =
    let read = subst (λ (d : Draft). Reads (Ok c.in-Ok.last) d (lines_of c.args.bytes.now) c.read_lines.new.draft) c.new-draft.ensures c.in-Ok.ensures in
    let answer = draft_is_result c.args.bytes.now c.in-Ok.last c.read_lines.new.draft c.finish.result read c.finish.ensures in
    record { exact = answer; bounded = result_is_bounded c.args.bytes.now c.finish.result answer }

pub returns-in-Err : goal.returns-in-Err
returns-in-Err c =
    let read = subst (λ (d : Draft). Reads (Err c.in-Err.fault) d (lines_of c.args.bytes.now) c.read_lines.new.draft) c.new-draft.ensures c.in-Err.ensures in
    record { exact = fault_is_result c.args.bytes.now c.in-Err.fault c.read_lines.new.draft read; bounded = tt }
