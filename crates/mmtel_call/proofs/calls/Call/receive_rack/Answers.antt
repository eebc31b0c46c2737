-- the response that the PRACK names is the one that it acknowledges to the target, and the other fields of the call make no difference to what is sent
use Rattle.std.proofs.Common.{◌∙◌, ◌++◌, ℕ, Option, Some, Result, Ok, Err, OnOk, ap, codes}
use Rattle.mmtel_output.specs.Sending.{with_relayed_request}
use Rattle.mmtel_types.specs.declared.sides.Side.TheVariants.{Caller}
use Rattle.mmtel_call_services.specs.Reliable.{rack_line}
use Rattle.mmtel_call_services.specs.CopiedHeaders.{copied_lines}
use Rattle.mmtel_call.specs.Calls.{Call, Offered}
use Rattle.mmtel_call.specs.RelayedTransactions.{with_settled}
use Rattle.mmtel_call.specs.Reliable.{on_named_prack}
use Rattle.mmtel_call.proofs.calls.Call.receive_rack.Goals as goal

always : {T E P : Type 0} (r : Result T E) → P → OnOk r P
always (Ok x) p = p
always (Err e) p = tt

pub returns-in-Ok-clause-output : goal.returns-in-Ok-clause-output
returns-in-Ok-clause-output c =
    always c.add_in_flight-flown.result
    (c.in-Ok.ensures.output
    ∙ (ap (λ (d : Call). with_relayed_request c.args.step.now.config.now.sip (codes "PRACK") c.args.offered.callee.leg.dialogue
    (copied_lines c.args.step.now.config.now d.opening d.diversions c.args.offered.attempt.service Caller c.args.offered.callee.leg.dialogue.peer c.args.request.message
    ++ rack_line c.in-Some.answer c.args.offered.attempt.invite.number)
    c.args.request.message.parsed (with_settled c.args.step.now.config.now (Some c.args.rack.now.answer) d c.args.output.now)) c.in-Some.ensures.call
    ∙ ap (λ (o : Option ℕ).
    (on_named_prack c.args.step.now.config.now c.args.offered c.args.request.key c.args.request.message c.args.rack.now o (record c.args.self.now { phase = Offered c.args.offered }) c.args.output.now).output)
    c.in-Some.ensures.check))
