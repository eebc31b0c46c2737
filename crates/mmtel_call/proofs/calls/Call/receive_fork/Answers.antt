-- the INVITE that was removed is that at the index, and the server's address is that of the configuration
use Rattle.std.proofs.Common.{◌≡◌, ◌∙◌, List, [], ◌∷◌, ◌++◌, Option, Some, Result, Ok, Err, OnOk, ap, slice_get, sym}
use Rattle.std.specs.Prelude.{option_to_list}
use Rattle.mmtel_output.specs.AbandonedInvites.{on_response}
use Rattle.mmtel_call.specs.Calls.{AnsweredInvite}
use Rattle.mmtel_output.specs.declared.sent_invites.AbandonedInvite.{AbandonedInvite}
use Rattle.mmtel_call.specs.OtherRequests.{answered_after, as_abandoned, without_at}
use Rattle.mmtel_types.specs.declared.addrs.Addr.{Addr}
use Rattle.mmtel_call.proofs.calls.Call.receive_fork.Goals as goal

always : {T E P : Type 0} (r : Result T E) → P → OnOk r P
always (Ok x) p = p
always (Err e) p = tt

same : (o : Option AnsweredInvite) (s t : AnsweredInvite) → o ≡ Some s → o ≡ Some t → s ≡ t
same o s t e f = cc

-- nothing remains of it
pub returns-in-None-clause-output : goal.returns-in-None-clause-output
returns-in-None-clause-output c = λ t is.
    c.in_ok-receive_abandoned.ensures.output
    ∙ (ap (λ (a : Addr). (on_response a c.args.key c.args.message.now.parsed (as_abandoned c.remove-sent_invite.result) c.args.output.now).output) c.sip.ensures
    ∙ ap (λ (u : AnsweredInvite). (on_response c.args.step.now.config.now.sip c.args.key c.args.message.now.parsed (as_abandoned u) c.args.output.now).output)
    (same (slice_get c.args.self.now.answered_invites c.args.at) c.remove-sent_invite.result t c.remove-sent_invite.ensures.handed_out is))

pub returns-in-Some-clause-output : goal.returns-in-Some-clause-output
returns-in-Some-clause-output c = λ t is.
    always c.push_item.result
    (c.in_ok-receive_abandoned.ensures.output
    ∙ (ap (λ (a : Addr). (on_response a c.args.key c.args.message.now.parsed (as_abandoned c.remove-sent_invite.result) c.args.output.now).output) c.sip.ensures
    ∙ ap (λ (u : AnsweredInvite). (on_response c.args.step.now.config.now.sip c.args.key c.args.message.now.parsed (as_abandoned u) c.args.output.now).output)
    (same (slice_get c.args.self.now.answered_invites c.args.at) c.remove-sent_invite.result t c.remove-sent_invite.ensures.handed_out is)))

mapped : {T E P Q : Type 0} (r : Result T E) → (P → Q) → OnOk r P → OnOk r Q
mapped (Ok x) f p = f p
mapped (Err e) f p = tt

-- what remains of it is placed last
pub returns-in-Some-clause-call : goal.returns-in-Some-clause-call
returns-in-Some-clause-call c = λ t is.
    let one : c.remove-sent_invite.result ≡ t = same (slice_get c.args.self.now.answered_invites c.args.at) c.remove-sent_invite.result t c.remove-sent_invite.ensures.handed_out is in
    let left : Some c.in-Some.remaining ≡ (on_response c.args.step.now.config.now.sip c.args.key c.args.message.now.parsed (as_abandoned t) c.args.output.now).remaining =
    sym c.in-Some.is
    ∙ (c.in_ok-receive_abandoned.ensures.remaining
    ∙ (ap (λ (a : Addr). (on_response a c.args.key c.args.message.now.parsed (as_abandoned c.remove-sent_invite.result) c.args.output.now).remaining) c.sip.ensures
    ∙ ap (λ (u : AnsweredInvite). (on_response c.args.step.now.config.now.sip c.args.key c.args.message.now.parsed (as_abandoned u) c.args.output.now).remaining) one)) in
    mapped c.push_item.result
    (λ filed. ap (λ (xs : List AnsweredInvite). record c.args.self.now { answered_invites = xs })
    (filed
    ∙ (ap (λ (xs : List AnsweredInvite). xs ++ record c.remove-sent_invite.result { invite = c.in-Some.remaining.invite } ∷ []) c.remove-sent_invite.ensures.rest
    ∙ (ap (λ (u : AnsweredInvite). without_at c.args.at c.args.self.now.answered_invites ++ record u { invite = c.in-Some.remaining.invite } ∷ []) one
    ∙ ap (λ (o : Option AbandonedInvite). without_at c.args.at c.args.self.now.answered_invites ++ option_to_list (answered_after t o)) left))))
    c.push_item.ensures.filed
