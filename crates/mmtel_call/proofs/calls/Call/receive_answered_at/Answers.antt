-- the effect of a response is determined by the INVITE at the index, by the status, and by whether the response is of another dialog
use Rattle.std.proofs.Common.{◌≡◌, ◌∙◌, ℕ, Bool, true, false, not, if◌then◌else◌, Option, Some, None, Result, Ok, Err, OnOk, ap, arith, rules}
use Rattle.std.proofs.Common.{slice_get, subst, sym}
use Rattle.std.proofs.lemmas.Grind.{common_steps}
use Rattle.std.proofs.lemmas.Option.{gets}
use Rattle.mmtel_compose.specs.ReceivedMessages.{MessageView, status_of}
use Rattle.mmtel_output.specs.declared.outputs.StepOutput.{StepOutput}
use Rattle.mmtel_transaction.specs.declared.words.TKey.{TKey}
use Rattle.mmtel_call_services.specs.CallConfig.{CallConfigView}
use Rattle.mmtel_call.specs.Calls.{AnsweredInvite, Call}
use Rattle.mmtel_call.specs.Closing.{StepResult, step_result}
use Rattle.mmtel_call.specs.OtherRequests.{is_fork, is_success, on_forked_response, on_response_answered, on_retransmitted_success}
use Rattle.mmtel_call.proofs.calls.Call.receive_answered_at.Goals.{In_default, Then-not-is_success, Else-branch}
use Rattle.mmtel_call.proofs.calls.Call.receive_answered_at.Goals as goal

always : {T E P : Type 0} (r : Result T E) → P → OnOk r P
always (Ok x) p = p
always (Err e) p = tt

abbrev by_dialog : (fork : Bool) → CallConfigView → TKey → MessageView → (at : ℕ) → AnsweredInvite → Call → StepOutput → StepResult
by_dialog fork config key m at t c output = if fork then on_forked_response config key m at t c output else on_retransmitted_success t c output

abbrev by_status : (success : Bool) → CallConfigView → TKey → MessageView → (at : ℕ) → AnsweredInvite → Call → StepOutput → StepResult
by_status success config key m at t c output = if not success then step_result c output else by_dialog (is_fork t m) config key m at t c output

nowhere : (config : CallConfigView) (key : TKey) (m : MessageView) (at : ℕ) (o : Option AnsweredInvite) (c : Call) (output : StepOutput) →
    o ≡ None → on_response_answered config key m at o c output ≡ step_result c output
nowhere config key m at o c output none = ap (λ (x : Option AnsweredInvite). on_response_answered config key m at x c output) none

late : (config : CallConfigView) (key : TKey) (m : MessageView) (at : ℕ) (o : Option AnsweredInvite) (t : AnsweredInvite) (c : Call) (output : StepOutput) →
    o ≡ Some t → is_success (status_of m.parsed.start) ≡ false → on_response_answered config key m at o c output ≡ step_result c output
late config key m at o t c output its status =
    ap (λ (x : Option AnsweredInvite). on_response_answered config key m at x c output) its
    ∙ ap (λ (b : Bool). by_status b config key m at t c output) status

again : (config : CallConfigView) (key : TKey) (m : MessageView) (at : ℕ) (o : Option AnsweredInvite) (t : AnsweredInvite) (c : Call) (output : StepOutput) →
    o ≡ Some t → is_success (status_of m.parsed.start) ≡ true → is_fork t m ≡ false → on_response_answered config key m at o c output ≡ on_retransmitted_success t c output
again config key m at o t c output its status fork =
    ap (λ (x : Option AnsweredInvite). on_response_answered config key m at x c output) its
    ∙ (ap (λ (b : Bool). by_status b config key m at t c output) status ∙ ap (λ (b : Bool). by_dialog b config key m at t c output) fork)

-- the result at each return
comes_to_nothing : (c : In_default) →
    on_response_answered c.args.step.now.config.now c.args.key c.args.message.now c.args.at (slice_get c.args.self.now.answered_invites c.args.at) c.args.self.now c.args.output.now
    ≡ step_result c.args.self.now c.args.output.now
comes_to_nothing c =
    let none : slice_get c.args.self.now.answered_invites c.args.at ≡ None = grind (arith, common_steps, gets) in
    nowhere c.args.step.now.config.now c.args.key c.args.message.now c.args.at (slice_get c.args.self.now.answered_invites c.args.at) c.args.self.now c.args.output.now none

comes_late : (c : Then-not-is_success) →
    on_response_answered c.args.step.now.config.now c.args.key c.args.message.now c.args.at (slice_get c.args.self.now.answered_invites c.args.at) c.args.self.now c.args.output.now
    ≡ step_result c.args.self.now c.args.output.now
comes_late c =
    let its : slice_get c.args.self.now.answered_invites c.args.at ≡ Some c.in-Some.answered_invite.now = grind (arith, common_steps, gets) in
    let status : is_success (status_of c.args.message.now.parsed.start) ≡ false = search rules in
    late c.args.step.now.config.now c.args.key c.args.message.now c.args.at (slice_get c.args.self.now.answered_invites c.args.at) c.in-Some.answered_invite.now c.args.self.now c.args.output.now its status

comes_again : (c : Else-branch) →
    on_response_answered c.args.step.now.config.now c.args.key c.args.message.now c.args.at (slice_get c.args.self.now.answered_invites c.args.at) c.args.self.now c.args.output.now
    ≡ on_retransmitted_success c.in-Some.answered_invite.now c.args.self.now c.args.output.now
comes_again c =
    let its : slice_get c.args.self.now.answered_invites c.args.at ≡ Some c.in-Some.answered_invite.now = grind (arith, common_steps, gets) in
    let status : is_success (status_of c.args.message.now.parsed.start) ≡ true = search rules in
    let fork : is_fork c.in-Some.answered_invite.now c.args.message.now ≡ false = search rules in
    again c.args.step.now.config.now c.args.key c.args.message.now c.args.at (slice_get c.args.self.now.answered_invites c.args.at) c.in-Some.answered_invite.now c.args.self.now c.args.output.now its status fork

pub returns-in_default-clause-call : goal.returns-in_default-clause-call
returns-in_default-clause-call c = ap (λ (s : StepResult). s.call) (sym (comes_to_nothing c))

pub returns-in_default-clause-output : goal.returns-in_default-clause-output
returns-in_default-clause-output c = ap (λ (s : StepResult). s.output) (sym (comes_to_nothing c))

pub returns-then-not-is_success-clause-call : goal.returns-then-not-is_success-clause-call
returns-then-not-is_success-clause-call c = ap (λ (s : StepResult). s.call) (sym (comes_late c))

pub returns-then-not-is_success-clause-output : goal.returns-then-not-is_success-clause-output
returns-then-not-is_success-clause-output c = ap (λ (s : StepResult). s.output) (sym (comes_late c))

pub returns-clause-call : goal.returns-clause-call
returns-clause-call c = always c.retransmit_ack.result (ap (λ (s : StepResult). s.call) (sym (comes_again (goal.at.returns-clause-call c).Else-branch)))

pub returns-clause-output : goal.returns-clause-output
returns-clause-output c =
    subst (λ (s : StepResult). OnOk c.retransmit_ack.result (c.retransmit_ack.new.output ≡ s.output)) (sym (comes_again (goal.at.returns-clause-output c).Else-branch)) c.retransmit_ack.ensures
