-- The values of the program as seen in contracts: accounts and targets, diversions, next steps and ends of attempts.
use Rattle.std.specs.Prelude.{ℕ, Some}
use Rattle.std.specs.Option.{option_map}
use Rattle.mmtel_sheet_values.specs.declared.values.Sheet.{Sheet}
use Rattle.mmtel_precedence.specs.declared.attempts.AttemptEnd.{AttemptEnd}
use Rattle.mmtel_precedence.specs.declared.attempts.AttemptEnd.TheVariants as ends
use Rattle.mmtel_precedence.specs.declared.attempts.AttemptTimeout.{AttemptTimeout}
use Rattle.mmtel_precedence.specs.declared.attempts.AttemptTimeout.TheVariants as timeouts
use Rattle.mmtel_precedence.specs.declared.attempts.Failure.{Failure}
use Rattle.mmtel_precedence.specs.declared.attempts.Failure.TheVariants as failures
use Rattle.mmtel_precedence.specs.declared.decisions.ArrivalDecision.{ArrivalDecision}
use Rattle.mmtel_precedence.specs.declared.decisions.ArrivalDecision.TheVariants as arrivals
use Rattle.mmtel_precedence.specs.declared.endings.CallFacts.{CallFacts}
use Rattle.mmtel_precedence.specs.declared.reached_targets.ReachedTarget.{ReachedTarget}
use Rattle.mmtel_precedence.specs.declared.reached_targets.ServedAccount.{ServedAccount}
use Rattle.mmtel_precedence.specs.declared.next_steps.StepAfterAttempt.{StepAfterAttempt}
use Rattle.mmtel_precedence.specs.declared.next_steps.StepAfterAttempt.TheVariants as afters
use Rattle.mmtel_precedence.specs.declared.next_steps.DueDiversion.{DueDiversion}
use Rattle.mmtel_precedence.specs.declared.next_steps.NextStep as program
use Rattle.mmtel_precedence.specs.declared.next_steps.NextStep.TheVariants as turns
use Rattle.mmtel_precedence.specs.Services.{DueDiversionView, ServedAccountView}
use Rattle.mmtel_precedence.specs.Attempts.{AttemptEvent, LongestTime, NoReplyTime, TransactionTimeout}
use Rattle.mmtel_precedence.specs.Calls.{AttemptEndView, UserBusy, NotReachable, NoReply, Deflection, Other, ReachedTargetView}
use Rattle.mmtel_precedence.specs.NextSteps.{NextStepView, StepOffer, StepDivert, StepRefuse, StepAfterAttemptView, EndDivert, EndRefuse}
use Rattle.mmtel_precedence.specs.Verdicts.{Decision, Ends, Forwards, Offers}

-- the account at this moment, with this record
abbrev pub called_account : CallFacts → Sheet → ServedAccountView
called_account c sheet = record { sheet = sheet; registered = c.registered; live = c.live }

-- the account that is served
abbrev pub served_account_view : ServedAccount → ServedAccountView
served_account_view a = record { sheet = a.sheet.now; registered = a.registered; live = a.live }

-- a target at this moment
abbrev pub reached_target_view : (now : ℕ) → ReachedTarget → ReachedTargetView
reached_target_view now r = record { at = now; served = option_map served_account_view r.served; is_unknown = r.is_unknown; peer = r.peer }

-- a diversion
abbrev pub due_diversion_view : DueDiversion → DueDiversionView
due_diversion_view d = record {
  forward = record {
    target = d.target.now;
    notify_caller = d.notify_caller;
    reveal_to_caller = d.reveal_to_caller;
    reveal_served_to_caller = d.reveal_served_to_caller;
    reveal_to_target = d.reveal_to_target;
  };
  cause = d.cause;
  bound = d.bound;
}

-- the next step at a target
abbrev pub next_step_view : program.NextStep → NextStepView
next_step_view (turns.Offer peer waiting) = StepOffer peer waiting
next_step_view (turns.Divert due) = StepDivert (due_diversion_view due)
next_step_view (turns.Refuse cause) = StepRefuse cause

-- and after an attempt
abbrev pub step_after_attempt_view : StepAfterAttempt → StepAfterAttemptView
step_after_attempt_view (afters.Divert due) = EndDivert (due_diversion_view due)
step_after_attempt_view (afters.Refuse cause) = EndRefuse cause

-- an attempt that failed
abbrev pub failure_view : Failure → AttemptEndView
failure_view (failures.UserBusy code) = UserBusy code
failure_view (failures.NotReachable code) = NotReachable code
failure_view failures.NoReply = NoReply
failure_view (failures.Other code) = Other code

-- the end of an attempt
abbrev pub attempt_end_view : AttemptEnd → AttemptEndView
attempt_end_view (ends.Failed failure) = failure_view failure
attempt_end_view (ends.Deflected target rang) = Deflection target.now rang

-- a time that passed
abbrev pub attempt_timeout_view : AttemptTimeout → AttemptEvent
attempt_timeout_view timeouts.TransactionTimeout = TransactionTimeout
attempt_timeout_view timeouts.NoReplyTime = NoReplyTime
attempt_timeout_view timeouts.LongestTime = LongestTime

-- ---- definitions that only private functions cite

-- what is decided on arrival
abbrev pub arrival_decision_view : ArrivalDecision → Decision
arrival_decision_view (arrivals.Offer waiting) = Offers waiting
arrival_decision_view (arrivals.Divert diversion) = Forwards (Some diversion.forward.now) diversion.cause
arrival_decision_view (arrivals.Refuse cause) = Ends cause
