-- where the operation after the offer failed, the whole fails
use Rattle.std.proofs.Common.{Ok, Err, IsOk, OnOk, Result, refl, sym, true≢false}
use Rattle.mmtel_call.proofs.calls.Call.send_attempt_with.Goals as goal

passes : {T U E : Type 0} (r : Result T E) (after : Result U E) (P : Type 0) → (IsOk r → IsOk after) → OnOk after P → OnOk r P
passes (Ok x) (Ok y) P passed h = h
passes (Ok x) (Err e) P passed h = absurd (true≢false (sym (passed refl)))
passes (Err e) after P passed h = tt

pub returns-clause-done : goal.returns-clause-done
returns-clause-done c =
    passes c.unless_failed.result c.arm_cap.result _ c.unless_failed.ensures.passed (rw (c.in_ok-invitation.ensures.done, c.sip.ensures, c.items.ensures) at c.arm_cap.ensures)
