-- The arguments are those of the definition: the cause that refuses the call, its caller's leg, and the output with the 100.
use Rattle.mmtel_call.proofs.calls.Call.begin.Goals as goal

pub returns-in-Ok-clause-call : goal.returns-in-Ok-clause-call
returns-in-Ok-clause-call c =
    rw (c.in-Ok.ensures.refusal, c.in-Ok.ensures.caller, c.in-Ok.ensures.output) at c.reach_unless_refused.ensures.call

pub returns-in-Ok-clause-output : goal.returns-in-Ok-clause-output
returns-in-Ok-clause-output c =
    rw (c.in-Ok.ensures.refusal, c.in-Ok.ensures.caller, c.in-Ok.ensures.output) at c.reach_unless_refused.ensures.output
