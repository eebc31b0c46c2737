-- the INVITE that was removed is that at the index, and the server's address is that of the configuration
use Rattle.std.proofs.Common.{◌≡◌, ◌∙◌, List, [], ◌∷◌, ◌++◌, Option, Some, Result, Ok, Err, OnOk, ap, sym}
use Rattle.std.specs.Prelude.{option_to_list}
use Rattle.mmtel_output.specs.AbandonedInvites.{on_response}
use Rattle.mmtel_output.specs.declared.sent_invites.AbandonedInvite.{AbandonedInvite}
use Rattle.mmtel_call.specs.OtherRequests.{on_response_abandoned, without_at}
use Rattle.mmtel_types.specs.declared.addrs.Addr.{Addr}
use Rattle.mmtel_call.proofs.calls.Call.receive_abandoned_at.Goals as goal

always : {T E P : Type 0} (r : Result T E) → P → OnOk r P
always (Ok x) p = p
always (Err e) p = tt

pub returns-in-None-clause-output : goal.returns-in-None-clause-output
returns-in-None-clause-output c =
    c.in_ok-receive_abandoned.ensures.output
    ∙ (ap (λ (a : Addr). (on_response a c.args.key c.args.message.now.parsed c.remove-abandoned.result c.args.output.now).output) c.sip.ensures
    ∙ ap (λ (l : Option AbandonedInvite). (on_response_abandoned c.args.step.now.config.now c.args.key c.args.message.now c.args.at l c.args.self.now c.args.output.now).output)
    (sym c.remove-abandoned.ensures.handed_out))

pub returns-in-Some-clause-output : goal.returns-in-Some-clause-output
returns-in-Some-clause-output c =
    always c.push_item.result
    (c.in_ok-receive_abandoned.ensures.output
    ∙ (ap (λ (a : Addr). (on_response a c.args.key c.args.message.now.parsed c.remove-abandoned.result c.args.output.now).output) c.sip.ensures
    ∙ ap (λ (l : Option AbandonedInvite). (on_response_abandoned c.args.step.now.config.now c.args.key c.args.message.now c.args.at l c.args.self.now c.args.output.now).output)
    (sym c.remove-abandoned.ensures.handed_out)))

mapped : {T E P Q : Type 0} (r : Result T E) → (P → Q) → OnOk r P → OnOk r Q
mapped (Ok x) f p = f p
mapped (Err e) f p = tt

-- what remains of it is placed last
pub returns-in-Some-clause-call : goal.returns-in-Some-clause-call
returns-in-Some-clause-call c =
    let left : Some c.in-Some.remaining ≡ (on_response c.args.step.now.config.now.sip c.args.key c.args.message.now.parsed c.remove-abandoned.result c.args.output.now).remaining =
    sym c.in-Some.is
    ∙ (c.in_ok-receive_abandoned.ensures.remaining
    ∙ ap (λ (a : Addr). (on_response a c.args.key c.args.message.now.parsed c.remove-abandoned.result c.args.output.now).remaining) c.sip.ensures) in
    mapped c.push_item.result
    (λ filed. ap (λ (ls : List AbandonedInvite). record c.args.self.now { abandoned = ls })
    (filed
    ∙ (ap (λ (ls : List AbandonedInvite). ls ++ c.in-Some.remaining ∷ []) c.remove-abandoned.ensures.rest
    ∙ ap (λ (l : Option AbandonedInvite). without_at c.args.at c.args.self.now.abandoned ++ option_to_list l) left))
    ∙ ap (λ (l : Option AbandonedInvite). (on_response_abandoned c.args.step.now.config.now c.args.key c.args.message.now c.args.at l c.args.self.now c.args.output.now).call)
    (sym c.remove-abandoned.ensures.handed_out))
    c.push_item.ensures.filed
