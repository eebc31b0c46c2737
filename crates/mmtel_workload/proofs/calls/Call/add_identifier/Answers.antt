use Rattle.std.proofs.Common.{◌∙◌, append_assoc}
use Rattle.mmtel_workload.proofs.CallAfter.{on_ok_by}
use Rattle.mmtel_workload.proofs.calls.Call.add_identifier.Goals as goal

pub returns : goal.returns
returns c = record {
  added = on_ok_by c.add_numbered.result c.add_numbered.ensures.added
      (λ e. e ∙ simp (c.in_ok-push.ensures.ok, c.from.ensures, append_assoc));
}
