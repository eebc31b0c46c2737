-- the side to which the BYE is sent last is unchanged, and so are both meters
use Rattle.std.proofs.Common.{◌≡◌, subst}
use Rattle.mmtel_types.specs.declared.sides.Side.{Side}
use Rattle.mmtel_call.specs.Answered.{leg_of}
use Rattle.mmtel_call.proofs.calls.Call.end_unacknowledged.Goals as goal

pub returns-clause-output : goal.returns-clause-output
returns-clause-output c =
    let leg : leg_of c.args.side c.acknowledge_and_leave-sent.new.self ≡ leg_of c.args.side c.args.legs =
    subst (λ (s : Side). leg_of s c.acknowledge_and_leave-sent.new.self ≡ leg_of s c.args.legs) c.other.ensures.back c.in_ok-sent.ensures.other in
    rw (c.in_ok-left_too.ensures.caller, c.in_ok-left_too.ensures.callee, c.in_ok-sent.ensures.caller, c.in_ok-sent.ensures.callee, c.in_ok-left_too.ensures.done, leg, c.in_ok-sent.ensures.done, c.other.ensures.across)
    at c.end_established-closed.ensures.output
