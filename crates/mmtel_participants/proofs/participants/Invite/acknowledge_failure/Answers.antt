-- the INVITE is the one without a final response
use Rattle.std.proofs.Common.{◌≡◌, Some, OnOk, subst, sym}
use Rattle.mmtel_participants.specs.Invites.{with_failure_ack}
use Rattle.mmtel_participants.specs.declared.participants.Invite.{Invite}
use Rattle.mmtel_participants.proofs.participants.Invite.acknowledge_failure.Goals as goal

pub returns-in-Outstanding : goal.returns-in-Outstanding
returns-in-Outstanding c =
    subst (λ (v : Invite). OnOk c.acknowledge_final.result (c.acknowledge_final.new.self ≡ with_failure_ack c.args.sip c.args.key c.args.response.now (Some v) c.args.output.now))
    (sym c.in-Outstanding.is) c.acknowledge_final.ensures.done
