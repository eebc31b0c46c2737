use Rattle.std.proofs.Common.{◌∙◌, append_assoc}
use Rattle.mmtel_workload.proofs.CallAfter.{on_ok_by}
use Rattle.mmtel_workload.proofs.calls.Call.add_from.Goals as goal

pub returns : goal.returns
returns c = record {
  added = on_ok_by c.push-2.result c.push-2.ensures.ok
      (λ e. e ∙ simp (c.in_ok-add_numbered-2.ensures.added, c.in_ok-add_numbered.ensures.added, c.in_ok-push.ensures.ok, c.from-number.ensures, append_assoc));
}
