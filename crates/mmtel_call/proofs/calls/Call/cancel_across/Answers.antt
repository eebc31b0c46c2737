-- the server's address is that of the configuration
use Rattle.std.proofs.Common.{◌≡◌, OnOk, subst}
use Rattle.mmtel_output.specs.Sending.{with_due_cancel}
use Rattle.mmtel_types.specs.declared.addrs.Addr.{Addr}
use Rattle.mmtel_call.proofs.calls.Call.cancel_across.Goals as goal

pub returns-clause-output : goal.returns-clause-output
returns-clause-output c =
    subst (λ (a : Addr). OnOk c.cancel-cancelled.result (c.cancel-cancelled.new.self ≡ with_due_cancel a c.args.relayed.invite.invite c.args.output.now))
    c.sip.ensures c.cancel-cancelled.ensures.done
