-- by the list in which the request of the branch is
use Rattle.std.proofs.Common.{◌≡◌, ℕ, Option, Some, None, OnOk, ap, ◌∙◌, position, rules, subst, sym}
use Rattle.mmtel_output.specs.AbandonedInvites.{is_of_branch}
use Rattle.mmtel_call.specs.RelayedTransactions.{is_in_flight, on_response_in_flight}
use Rattle.mmtel_call.specs.OtherRequests.{is_answered_invite, on_other_response, on_other_response_at, on_response_answered_at}
use Rattle.mmtel_call.proofs.calls.Call.receive_other.Goals as goal

pub returns-in-Some-clause-call : goal.returns-in-Some-clause-call
unfolding on_other_response
returns-in-Some-clause-call c =
    let place : position (is_of_branch c.args.branch.now) c.args.self.now.abandoned ≡ Some c.in-Some.at = search rules in
    subst (λ (o : Option ℕ). OnOk c.receive_abandoned_at.result (c.receive_abandoned_at.new.self
    ≡ (on_other_response_at c.args.step.now.config.now c.args.step.now.snapshot.at c.args.key c.args.message.now c.args.branch.now o c.args.self.now c.args.output.now).call))
    (sym place) c.receive_abandoned_at.ensures.call

pub returns-in-Some-answered_invite_at-clause-call : goal.returns-in-Some-answered_invite_at-clause-call
unfolding on_other_response
returns-in-Some-answered_invite_at-clause-call c =
    let place : position (is_of_branch c.args.branch.now) c.args.self.now.abandoned ≡ None = search rules in
    let other : position (is_answered_invite c.args.branch.now) c.args.self.now.answered_invites ≡ Some c.in-Some-answered_invite_at.at = search rules in
    subst (λ (o : Option ℕ). OnOk c.receive_answered_at.result (c.receive_answered_at.new.self
    ≡ (on_other_response_at c.args.step.now.config.now c.args.step.now.snapshot.at c.args.key c.args.message.now c.args.branch.now o c.args.self.now c.args.output.now).call)) (sym place)
    (subst (λ (o : Option ℕ). OnOk c.receive_answered_at.result (c.receive_answered_at.new.self
    ≡ (on_response_answered_at c.args.step.now.config.now c.args.step.now.snapshot.at c.args.key c.args.message.now c.args.branch.now o c.args.self.now c.args.output.now).call)) (sym other)
    c.receive_answered_at.ensures.call)

pub returns-in-None-relayed_at-clause-call : goal.returns-in-None-relayed_at-clause-call
unfolding on_other_response
returns-in-None-relayed_at-clause-call c =
    let place : position (is_of_branch c.args.branch.now) c.args.self.now.abandoned ≡ None = search rules in
    let other : position (is_answered_invite c.args.branch.now) c.args.self.now.answered_invites ≡ None = search rules in
    let flies : position (is_in_flight c.args.branch.now) c.args.self.now.relayed ≡ None = search rules in
    ap (λ (o : Option ℕ). (on_response_in_flight c.args.step.now.config.now c.args.step.now.snapshot.at c.args.message.now o c.args.self.now c.args.output.now).call) (sym flies)
    ∙ (ap (λ (o : Option ℕ). (on_response_answered_at c.args.step.now.config.now c.args.step.now.snapshot.at c.args.key c.args.message.now c.args.branch.now o c.args.self.now c.args.output.now).call) (sym other)
    ∙ ap (λ (o : Option ℕ). (on_other_response_at c.args.step.now.config.now c.args.step.now.snapshot.at c.args.key c.args.message.now c.args.branch.now o c.args.self.now c.args.output.now).call) (sym place))

pub returns-in-Some-relayed_at-clause-call : goal.returns-in-Some-relayed_at-clause-call
unfolding on_other_response
returns-in-Some-relayed_at-clause-call c =
    let place : position (is_of_branch c.args.branch.now) c.args.self.now.abandoned ≡ None = search rules in
    let other : position (is_answered_invite c.args.branch.now) c.args.self.now.answered_invites ≡ None = search rules in
    let flies : position (is_in_flight c.args.branch.now) c.args.self.now.relayed ≡ Some c.in-Some-relayed_at.at = search rules in
    subst (λ (o : Option ℕ). OnOk c.receive_in_flight.result (c.receive_in_flight.new.self
    ≡ (on_other_response_at c.args.step.now.config.now c.args.step.now.snapshot.at c.args.key c.args.message.now c.args.branch.now o c.args.self.now c.args.output.now).call)) (sym place)
    (subst (λ (o : Option ℕ). OnOk c.receive_in_flight.result (c.receive_in_flight.new.self
    ≡ (on_response_answered_at c.args.step.now.config.now c.args.step.now.snapshot.at c.args.key c.args.message.now c.args.branch.now o c.args.self.now c.args.output.now).call)) (sym other)
    (subst (λ (o : Option ℕ). OnOk c.receive_in_flight.result (c.receive_in_flight.new.self
    ≡ (on_response_in_flight c.args.step.now.config.now c.args.step.now.snapshot.at c.args.message.now o c.args.self.now c.args.output.now).call)) (sym flies)
    c.receive_in_flight.ensures.call))

pub returns-in-Some-clause-output : goal.returns-in-Some-clause-output
unfolding on_other_response
returns-in-Some-clause-output c =
    let place : position (is_of_branch c.args.branch.now) c.args.self.now.abandoned ≡ Some c.in-Some.at = search rules in
    subst (λ (o : Option ℕ). OnOk c.receive_abandoned_at.result (c.receive_abandoned_at.new.output
    ≡ (on_other_response_at c.args.step.now.config.now c.args.step.now.snapshot.at c.args.key c.args.message.now c.args.branch.now o c.args.self.now c.args.output.now).output))
    (sym place) c.receive_abandoned_at.ensures.output

pub returns-in-Some-answered_invite_at-clause-output : goal.returns-in-Some-answered_invite_at-clause-output
unfolding on_other_response
returns-in-Some-answered_invite_at-clause-output c =
    let place : position (is_of_branch c.args.branch.now) c.args.self.now.abandoned ≡ None = search rules in
    let other : position (is_answered_invite c.args.branch.now) c.args.self.now.answered_invites ≡ Some c.in-Some-answered_invite_at.at = search rules in
    subst (λ (o : Option ℕ). OnOk c.receive_answered_at.result (c.receive_answered_at.new.output
    ≡ (on_other_response_at c.args.step.now.config.now c.args.step.now.snapshot.at c.args.key c.args.message.now c.args.branch.now o c.args.self.now c.args.output.now).output)) (sym place)
    (subst (λ (o : Option ℕ). OnOk c.receive_answered_at.result (c.receive_answered_at.new.output
    ≡ (on_response_answered_at c.args.step.now.config.now c.args.step.now.snapshot.at c.args.key c.args.message.now c.args.branch.now o c.args.self.now c.args.output.now).output)) (sym other)
    c.receive_answered_at.ensures.output)

pub returns-in-None-relayed_at-clause-output : goal.returns-in-None-relayed_at-clause-output
unfolding on_other_response
returns-in-None-relayed_at-clause-output c =
    let place : position (is_of_branch c.args.branch.now) c.args.self.now.abandoned ≡ None = search rules in
    let other : position (is_answered_invite c.args.branch.now) c.args.self.now.answered_invites ≡ None = search rules in
    let flies : position (is_in_flight c.args.branch.now) c.args.self.now.relayed ≡ None = search rules in
    ap (λ (o : Option ℕ). (on_response_in_flight c.args.step.now.config.now c.args.step.now.snapshot.at c.args.message.now o c.args.self.now c.args.output.now).output) (sym flies)
    ∙ (ap (λ (o : Option ℕ). (on_response_answered_at c.args.step.now.config.now c.args.step.now.snapshot.at c.args.key c.args.message.now c.args.branch.now o c.args.self.now c.args.output.now).output) (sym other)
    ∙ ap (λ (o : Option ℕ). (on_other_response_at c.args.step.now.config.now c.args.step.now.snapshot.at c.args.key c.args.message.now c.args.branch.now o c.args.self.now c.args.output.now).output) (sym place))

pub returns-in-Some-relayed_at-clause-output : goal.returns-in-Some-relayed_at-clause-output
unfolding on_other_response
returns-in-Some-relayed_at-clause-output c =
    let place : position (is_of_branch c.args.branch.now) c.args.self.now.abandoned ≡ None = search rules in
    let other : position (is_answered_invite c.args.branch.now) c.args.self.now.answered_invites ≡ None = search rules in
    let flies : position (is_in_flight c.args.branch.now) c.args.self.now.relayed ≡ Some c.in-Some-relayed_at.at = search rules in
    subst (λ (o : Option ℕ). OnOk c.receive_in_flight.result (c.receive_in_flight.new.output
    ≡ (on_other_response_at c.args.step.now.config.now c.args.step.now.snapshot.at c.args.key c.args.message.now c.args.branch.now o c.args.self.now c.args.output.now).output)) (sym place)
    (subst (λ (o : Option ℕ). OnOk c.receive_in_flight.result (c.receive_in_flight.new.output
    ≡ (on_response_answered_at c.args.step.now.config.now c.args.step.now.snapshot.at c.args.key c.args.message.now c.args.branch.now o c.args.self.now c.args.output.now).output)) (sym other)
    (subst (λ (o : Option ℕ). OnOk c.receive_in_flight.result (c.receive_in_flight.new.output
    ≡ (on_response_in_flight c.args.step.now.config.now c.args.step.now.snapshot.at c.args.message.now o c.args.self.now c.args.output.now).output)) (sym flies)
    c.receive_in_flight.ensures.output))
