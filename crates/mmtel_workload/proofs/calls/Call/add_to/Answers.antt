use Rattle.std.proofs.Common.{◌∙◌, append_assoc, inl, inr}
use Rattle.mmtel_workload.proofs.CallAfter.{on_ok_by}
use Rattle.mmtel_workload.proofs.calls.Call.add_to.Goals as goal

pub returns-in_ok-add_identifier-in-WithToTag : goal.returns-in_ok-add_identifier-in-WithToTag
returns-in_ok-add_identifier-in-WithToTag c = record {
  added = on_ok_by c.push-in-WithToTag.result c.push-in-WithToTag.ensures.ok (λ e. e ∙ elim c.in-WithToTag.is [
    | inl is ↦ simp (is, c.in_ok-add_identifier-in-WithToTag.ensures.added, c.in_ok-push-2.ensures.ok, c.in_ok-push.ensures.ok, c.callee.ensures.callee, append_assoc)
    | inr is ↦ simp (is, c.in_ok-add_identifier-in-WithToTag.ensures.added, c.in_ok-push-2.ensures.ok, c.in_ok-push.ensures.ok, c.callee.ensures.callee, append_assoc)
  ]);
}
