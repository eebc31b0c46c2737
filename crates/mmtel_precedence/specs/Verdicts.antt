-- One decision: that of the services of an account on a call that reaches it, or on an attempt that ended (TS 24.604 §4.5.2.6, TS 24.611 §4.5.2, TS 24.615 §4.5.5); and what is
-- checked before each diversion.
use Rattle.std.specs.Prelude.{ℕ, ◌==◌, Bool, nat_lt, if◌then◌else◌, Option, Some, None}
use Rattle.std.specs.Option.{option_map}
use Rattle.mmtel_types.specs.declared.causes.Cause.{Cause}
use Rattle.mmtel_types.specs.declared.causes.Cause.TheVariants as causes
use Rattle.mmtel_sheet_values.specs.declared.values.Forward.{Forward}
use Rattle.mmtel_sheet_values.specs.declared.values.Sheet.{Sheet}
use Rattle.mmtel_rules.specs.Facts.{FactsView}
use Rattle.mmtel_rules.specs.declared.values.When.TheVariants as event
use Rattle.mmtel_diversion.specs.Bound.{is_within}
use Rattle.mmtel_diversion.specs.Diversion.{ChosenDiversion, deflection_of, diversion_of}
use Rattle.mmtel_precedence.specs.declared.attempts.Failure.{Failure}
use Rattle.mmtel_precedence.specs.declared.attempts.Failure.TheVariants as failures
use Rattle.mmtel_precedence.specs.declared.endings.Ending.{Ending}
use Rattle.mmtel_precedence.specs.declared.endings.Ending.TheVariants.{Arrived, UserBusy, NotReachable, NoReply, Deflected, Other}
use Rattle.mmtel_precedence.specs.declared.verdicts.Verdict.{Verdict}
use Rattle.mmtel_precedence.specs.declared.verdicts.Verdict.TheVariants as verdicts
use Rattle.mmtel_precedence.specs.Services.{ServedAccountView, DueDiversionView, ServiceDecision, Nothing, Refuses}
use Rattle.mmtel_precedence.specs.Services.{Diverts, bars_outgoing, bound_of, due_of, due_on, first_decision, own_bound}
use Rattle.mmtel_precedence.specs.Services.{services_on_arrival}

-- what is done with the call
pub data Decision : Type 0 where
  -- it is offered to the target
  Offers : (waiting : Bool) → Decision
  -- it is diverted; where there is no forward, to the target of the device's deflection
  Forwards : (forward : Option Forward) → (cause : ℕ) → Decision
  -- it is refused
  Ends : (cause : Cause) → Decision

-- a verdict of the program, as seen here
abbrev pub verdict_view : Verdict → Decision
verdict_view (verdicts.Offer waiting) = Offers waiting
verdict_view (verdicts.Divert None cause) = Forwards None cause
verdict_view (verdicts.Divert (Some forward) cause) = Forwards (Some forward.now) cause
verdict_view (verdicts.Refuse cause) = Ends cause

-- by the decision of the services; a call waits where the user has another one
abbrev pub decision_by : ServiceDecision → (live : ℕ) → Decision
decision_by Nothing live = Offers (nat_lt 0 live)
decision_by (Refuses cause) live = Ends cause
decision_by (Diverts due) live = Forwards (Some due.forward) due.cause

-- the diversion that the rules require, else the cause
abbrev pub forwards_or : Option DueDiversionView → Cause → Decision
forwards_or None cause = Ends cause
forwards_or (Some due) cause = Forwards (Some due.forward) due.cause

-- the deflection where it is allowed, else a 480
abbrev pub deflects_or : Option ℕ → Decision
deflects_or None = Ends (causes.Relayed 480)
deflects_or (Some cause) = Forwards None cause

-- the decision
abbrev pub verdict_of : FactsView → ServedAccountView → Ending → Decision
verdict_of c account Arrived = decision_by (first_decision (services_on_arrival c account)) account.live
verdict_of c account (UserBusy code) = forwards_or (due_on c event.Busy account.sheet) (causes.Relayed code)
verdict_of c account (NotReachable code) = forwards_or (due_on c event.NotReachable account.sheet) (causes.Unreachable code)
verdict_of c account NoReply = forwards_or (due_on c event.NoAnswer account.sheet) causes.NoReply
verdict_of c account (Deflected alerted) = deflects_or (deflection_of account.sheet alerted)
verdict_of c account (Other code) = Ends (causes.Relayed code)

-- ---- before a diversion

-- a diversion for which the bound is reached refuses the call, as busy where it is for a busy user (RFC 4458 §2)
abbrev pub too_many : (cause : ℕ) → Cause
too_many cause = causes.TooManyDiversions (cause == 486)

-- the refusal by the bound
abbrev pub refusal_at_bound : (received done bound cause : ℕ) → Option Cause
refusal_at_bound received done bound cause = if is_within received done bound then None else Some (too_many cause)

-- why a diversion is refused, if it is: first by the outgoing barring of the account that diverts, where the new target is the other party; then by the bound
abbrev pub go_on_of : FactsView → Sheet → (received done bound cause : ℕ) → Option Cause
go_on_of c sheet received done bound cause = if bars_outgoing c sheet then Some causes.OutgoingBarred else refusal_at_bound received done bound cause

-- the same of one that is due, by the record of the account that diverts, if one is served: its bound is the lesser of the configured one and that of the account
abbrev pub refusal_before_diversion : FactsView → Option Sheet → (received done configured : ℕ) → DueDiversionView → Option Cause
refusal_before_diversion c None received done configured due = refusal_at_bound received done (bound_of configured due.bound) due.cause
refusal_before_diversion c (Some sheet) received done configured due = go_on_of c sheet received done (bound_of configured due.bound) due.cause

-- ---- definitions that only private functions cite

-- the diversion that the rules require after an attempt that failed so
abbrev pub diversion_after : FactsView → Sheet → Failure → Option ChosenDiversion
diversion_after c sheet (failures.UserBusy code) = diversion_of c event.Busy sheet
diversion_after c sheet (failures.NotReachable code) = diversion_of c event.NotReachable sheet
diversion_after c sheet failures.NoReply = diversion_of c event.NoAnswer sheet
diversion_after c sheet (failures.Other code) = None

-- the cause by which the call is refused, where they require none
abbrev pub cause_of : Failure → Cause
cause_of (failures.UserBusy code) = causes.Relayed code
cause_of (failures.NotReachable code) = causes.Unreachable code
cause_of failures.NoReply = causes.NoReply
cause_of (failures.Other code) = causes.Relayed code

abbrev pub verdict_after : FactsView → Sheet → Failure → Decision
verdict_after c sheet failure = forwards_or (option_map (due_of (own_bound sheet)) (diversion_after c sheet failure)) (cause_of failure)
