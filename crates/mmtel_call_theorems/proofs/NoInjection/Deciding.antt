-- The URI to which a call is diverted is clean, if its records are: that of a forward of a record, or a URI that was read.
use Rattle.std.proofs.Common.{◌≡◌, ◌==◌, Bool, true, false, not, ℕ, zero, suc, List, [], ◌∷◌, ◌++◌, Option, Some, None, refl, nat_lt, ◌&&◌}
use Rattle.std.specs.Prelude.{IfSome, codes, if◌then◌else◌, slice_get, Result, Ok, Err}
use Rattle.std.specs.Option.{option_and_then, option_map, unwrap_or}
use Rattle.std.specs.List.{list_all}
use Rattle.mmtel_base.proofs.Runs.{and_true}
use Rattle.mmtel_diversion.specs.Diversion.{ChosenDiversion, cause_of, deflection_of, diversion_among, diversion_by, diversion_of, forward_of}
use Rattle.mmtel_lex.specs.Grammar.{params_text}
use Rattle.mmtel_lex.specs.Identity.{is_visual_separator, without_separators}
use Rattle.mmtel_lex.specs.Reading.{Refusal, uri_of}
use Rattle.mmtel_lex.specs.declared.values.Param.{Param}
use Rattle.mmtel_lex.specs.declared.values.Uri.{Uri}
use Rattle.mmtel_lex.specs.declared.values.Uri.TheVariants.{Sip, Tel}
use Rattle.mmtel_message.specs.Headers.{is_value_byte}
use Rattle.mmtel_precedence.specs.Attempts.{end_by_final, end_by_redirection, is_redirection, is_success, is_unreachable, is_user_busy}
use Rattle.mmtel_precedence.specs.Calls.{Answer, AttemptEndView, Cancel, Deflection, NoReply, NotReachable, Other, ReachedTargetView, SnapshotView, Unacknowledged, UserBusy, sheet_at}
use Rattle.mmtel_precedence.specs.Moves.{account_at}
use Rattle.mmtel_precedence.specs.Services.{Diverts, DueDiversionView, Nothing, Refuses, ServedAccountView, ServiceDecision, bars_incoming, diverts_by, due_of, due_on}
use Rattle.mmtel_precedence.specs.Services.{first_decision, own_bound, refuses_if, rejects_anonymous, services_after_barring, services_of_capacity, services_on_arrival}
use Rattle.mmtel_precedence.specs.Targets.{deflection_to}
use Rattle.mmtel_precedence.specs.NextSteps.{EndAnswered, EndDivert, EndRefuse, NextStepView, StepAfterAttemptView, StepDivert, StepOffer}
use Rattle.mmtel_precedence.specs.NextSteps.{StepRefuse, deflection_by, divert_or_refuse, next_step_at, next_step_by, offer_step, step_after_attempt}
use Rattle.mmtel_precedence.specs.Verdicts.{decision_by}
use Rattle.mmtel_rules.specs.Facts.{FactsView}
use Rattle.mmtel_rules.specs.Rules.{first_that_holds}
use Rattle.mmtel_rules.specs.declared.values.When.{When}
use Rattle.mmtel_rules.specs.declared.values.When.TheVariants as event
use Rattle.mmtel_sheet_values.specs.Sheets.{empty_sheet}
use Rattle.mmtel_sheet_values.specs.declared.values.Action.{Action}
use Rattle.mmtel_sheet_values.specs.declared.values.Action.TheVariants.{Allow, Forward as Forwarding}
use Rattle.mmtel_sheet_values.specs.declared.values.DiversionPart.{DiversionPart}
use Rattle.mmtel_sheet_values.specs.declared.values.Rule.{Rule}
use Rattle.mmtel_sheet_values.specs.declared.values.Sheet.{Sheet}
use Rattle.mmtel_served_user.specs.Targets.{first_target, is_global, new_target, phone_uri, requested_target, tel_target}
use Rattle.mmtel_served_user.specs.declared.targets.Target.{Target}
use Rattle.mmtel_trust.specs.Asserted.{or_no_uri}
use Rattle.mmtel_types.specs.declared.causes.Cause.{Cause}
use Rattle.mmtel_types.specs.declared.causes.Cause.TheVariants as causes
use Rattle.mmtel_types.specs.declared.numbers.Account.{Account}
use Rattle.mmtel_types.specs.declared.numbers.Peer.{Peer}
use Rattle.mmtel_waiting.specs.Waiting.{is_busy}
use Rattle.mmtel_call_theorems.specs.NoInjection.Messages.{HasNoInjection}
use Rattle.mmtel_call_theorems.specs.NoInjection.Inputs.{RulesHaveNoInjection, SheetHasNoInjection, SheetsHaveNoInjection, UriHasNoInjection, action_has_no_injection, rule_has_no_injection}
use Rattle.mmtel_call_theorems.proofs.NoInjection.Bytes.{all_filter, joined, parted as cut}
use Rattle.mmtel_call_theorems.proofs.NoInjection.ReceivedMessages.{read_uri_no_injection}

-- ---- what a record requires

abbrev pub DueHasNoInjection : DueDiversionView → Type 0
DueHasNoInjection due = UriHasNoInjection due.forward.target

abbrev ChosenHasNoInjection : ChosenDiversion → Type 0
ChosenHasNoInjection chosen = UriHasNoInjection chosen.forward.target

by_rule : (place : ℕ) (rule : Rule) → rule_has_no_injection rule ≡ true → IfSome (diversion_by place rule) ChosenHasNoInjection
by_rule place rule e = by rule.action e
  where
    by : (action : Action) → action_has_no_injection action ≡ true →
        IfSome (option_map (λ forward. record { rule = place; forward = forward; cause = cause_of rule.condition.event }) (forward_of action)) ChosenHasNoInjection
    by (Forwarding forward) f = f
    by (Allow allowed) f = tt

rule_at : (rules : List Rule) (place n : ℕ) → list_all rule_has_no_injection rules ≡ true → IfSome (option_and_then (diversion_by n) (slice_get rules place)) ChosenHasNoInjection
rule_at [] place n e = tt
rule_at (rule ∷ rules) zero n e = by_rule n rule (and_true (rule_has_no_injection rule) (list_all rule_has_no_injection rules) e).0
rule_at (rule ∷ rules) (suc place) n e = rule_at rules place n (and_true (rule_has_no_injection rule) (list_all rule_has_no_injection rules) e).1

among_no_injection : (rules : List Rule) (o : Option ℕ) → list_all rule_has_no_injection rules ≡ true →
    IfSome (option_and_then (λ place. option_and_then (diversion_by place) (slice_get rules place)) o) ChosenHasNoInjection
among_no_injection rules None e = tt
among_no_injection rules (Some place) e = rule_at rules place place e

chosen_no_injection : (k : FactsView) (when : When) (o : Option DiversionPart) → IfSome o RulesHaveNoInjection → IfSome (option_and_then (λ part. diversion_among k when part.rules) o) ChosenHasNoInjection
chosen_no_injection k when None e = tt
chosen_no_injection k when (Some part) e = among_no_injection part.rules (first_that_holds k when part.rules) e

due_option : (bound : Option ℕ) (o : Option ChosenDiversion) → IfSome o ChosenHasNoInjection → IfSome (option_map (due_of bound) o) DueHasNoInjection
due_option bound None e = tt
due_option bound (Some chosen) e = e

pub due_no_injection : (c : FactsView) (when : When) (sheet : Sheet) → SheetHasNoInjection sheet → IfSome (due_on c when sheet) DueHasNoInjection
due_no_injection c when sheet e = due_option (own_bound sheet) (diversion_of c when sheet) (chosen_no_injection c when sheet.diversion e)

-- ---- at a target

abbrev DecisionHasNoInjection : ServiceDecision → Type 0
DecisionHasNoInjection Nothing = Unit {0}
DecisionHasNoInjection (Refuses cause) = Unit {0}
DecisionHasNoInjection (Diverts due) = DueHasNoInjection due

refuses_no_injection : (b : Bool) (cause : Cause) → DecisionHasNoInjection (refuses_if b cause)
refuses_no_injection true cause = tt
refuses_no_injection false cause = tt

diverts_no_injection : (o : Option DueDiversionView) → IfSome o DueHasNoInjection → DecisionHasNoInjection (diverts_by o)
diverts_no_injection None e = tt
diverts_no_injection (Some due) e = e

said_first : (says : ServiceDecision) (later : List ServiceDecision) → DecisionHasNoInjection says → DecisionHasNoInjection (first_decision later) → DecisionHasNoInjection (first_decision (says ∷ later))
said_first Nothing later e f = f
said_first (Refuses cause) later e f = tt
said_first (Diverts due) later e f = e

if_due : (b : Bool) (o : Option DueDiversionView) → IfSome o DueHasNoInjection → IfSome (if b then o else None) DueHasNoInjection
if_due true o e = e
if_due false o e = tt

services_no_injection : (c : FactsView) (account : ServedAccountView) → SheetHasNoInjection account.sheet → DecisionHasNoInjection (first_decision (services_on_arrival c account))
services_no_injection c account e =
    let busy : Bool = is_busy account.live account.sheet in
    let capacity : DecisionHasNoInjection (first_decision (services_of_capacity c account)) =
    said_first (diverts_by (if busy then due_on c event.Busy account.sheet else None)) (refuses_if busy causes.NetworkBusy ∷ [])
    (diverts_no_injection (if busy then due_on c event.Busy account.sheet else None) (if_due busy (due_on c event.Busy account.sheet) (due_no_injection c event.Busy account.sheet e)))
    (said_first (refuses_if busy causes.NetworkBusy) [] (refuses_no_injection busy causes.NetworkBusy) tt) in
    let unregistered = refuses_if (not account.registered) causes.NotRegistered in
    let barring : DecisionHasNoInjection (first_decision (services_after_barring c account)) =
    said_first (diverts_by (due_on c (event.Arrival account.registered) account.sheet)) (unregistered ∷ services_of_capacity c account)
    (diverts_no_injection (due_on c (event.Arrival account.registered) account.sheet) (due_no_injection c (event.Arrival account.registered) account.sheet e))
    (said_first unregistered (services_of_capacity c account) (refuses_no_injection (not account.registered) causes.NotRegistered) capacity) in
    let barred = refuses_if (bars_incoming c account.sheet) causes.IncomingBarred in
    let anonymous = refuses_if (rejects_anonymous c account.sheet) causes.AnonymousRejected in
    said_first anonymous (barred ∷ services_after_barring c account) (refuses_no_injection (rejects_anonymous c account.sheet) causes.AnonymousRejected)
    (said_first barred (services_after_barring c account) (refuses_no_injection (bars_incoming c account.sheet) causes.IncomingBarred) barring)

abbrev pub NextStepHasNoInjection : NextStepView → Type 0
NextStepHasNoInjection (StepOffer peer waiting) = Unit {0}
NextStepHasNoInjection (StepDivert due) = DueHasNoInjection due
NextStepHasNoInjection (StepRefuse cause) = Unit {0}

offer_next_step_no_injection : (unknown : Bool) (peer : Option Peer) (waiting : Bool) → NextStepHasNoInjection (offer_step unknown peer waiting)
offer_next_step_no_injection true peer waiting = tt
offer_next_step_no_injection false None waiting = tt
offer_next_step_no_injection false (Some peer) waiting = tt

next_step_by_no_injection : (says : ServiceDecision) (live : ℕ) (bound : Option ℕ) (unknown : Bool) (peer : Option Peer) → DecisionHasNoInjection says →
    NextStepHasNoInjection (next_step_by (decision_by says live) bound unknown peer)
next_step_by_no_injection Nothing live bound unknown peer e = offer_next_step_no_injection unknown peer (nat_lt 0 live)
next_step_by_no_injection (Refuses cause) live bound unknown peer e = tt
next_step_by_no_injection (Diverts due) live bound unknown peer e = e

abbrev pub record_has_no_injection : ServedAccountView → Type 0
record_has_no_injection account = SheetHasNoInjection account.sheet

account_no_injection : (o : Option ServedAccountView) → IfSome o record_has_no_injection → SheetHasNoInjection (unwrap_or o (record { sheet = empty_sheet; registered = true; live = 0 })).sheet
account_no_injection None e = tt
account_no_injection (Some account) e = e

pub next_step_no_injection : (c : FactsView) (reach : ReachedTargetView) → IfSome reach.served record_has_no_injection → NextStepHasNoInjection (next_step_at c reach)
next_step_no_injection c reach e =
    next_step_by_no_injection (first_decision (services_on_arrival c (account_at reach))) (account_at reach).live (own_bound (account_at reach).sheet) reach.is_unknown reach.peer
    (services_no_injection c (account_at reach) (account_no_injection reach.served e))

-- ---- after an attempt

abbrev pub EndHasNoInjection : AttemptEndView → Type 0
EndHasNoInjection Answer = Unit {0}
EndHasNoInjection Cancel = Unit {0}
EndHasNoInjection Unacknowledged = Unit {0}
EndHasNoInjection (UserBusy code) = Unit {0}
EndHasNoInjection (NotReachable code) = Unit {0}
EndHasNoInjection NoReply = Unit {0}
EndHasNoInjection (Deflection target rang) = UriHasNoInjection target
EndHasNoInjection (Other code) = Unit {0}

redirection_no_injection : (code : ℕ) (target : Option Uri) (rang : Bool) → IfSome target UriHasNoInjection → EndHasNoInjection (end_by_redirection code target rang)
redirection_no_injection code None rang e = tt
redirection_no_injection code (Some target) rang e = by (code == 302)
  where
    by : (t : Bool) → EndHasNoInjection (if t then Deflection target rang else Other 480)
    by true = e
    by false = tt

pub final_no_injection : (code : ℕ) (target : Option Uri) (rang : Bool) → IfSome target UriHasNoInjection → EndHasNoInjection (end_by_final code target rang)
final_no_injection code target rang e = by (is_success code) (is_user_busy code) (is_unreachable code && not rang) (is_redirection code)
  where
    by : (a b c d : Bool) → EndHasNoInjection (if a then Answer else if b then UserBusy code else if c then NotReachable code else if d then end_by_redirection code target rang else Other code)
    by true b c d = tt
    by false true c d = tt
    by false false true d = tt
    by false false false true = redirection_no_injection code target rang e
    by false false false false = tt

abbrev pub AfterHasNoInjection : StepAfterAttemptView → Type 0
AfterHasNoInjection EndAnswered = Unit {0}
AfterHasNoInjection (EndDivert due) = DueHasNoInjection due
AfterHasNoInjection (EndRefuse cause) = Unit {0}

or_refuse_no_injection : (o : Option DueDiversionView) (cause : Cause) → IfSome o DueHasNoInjection → AfterHasNoInjection (divert_or_refuse o cause)
or_refuse_no_injection None cause e = tt
or_refuse_no_injection (Some due) cause e = e

asked_due : (c : FactsView) (when : When) (sheet : Option Sheet) → IfSome sheet SheetHasNoInjection → IfSome (option_and_then (due_on c when) sheet) DueHasNoInjection
asked_due c when None e = tt
asked_due c when (Some sheet) e = due_no_injection c when sheet e

deflected_due : (target : Uri) (bound o : Option ℕ) → UriHasNoInjection target → IfSome (option_map (deflection_to target bound) o) DueHasNoInjection
deflected_due target bound None e = tt
deflected_due target bound (Some cause) e = e

deflection_no_injection : (target : Uri) (rang : Bool) (sheet : Option Sheet) → UriHasNoInjection target → IfSome (option_and_then (deflection_by target rang) sheet) DueHasNoInjection
deflection_no_injection target rang None e = tt
deflection_no_injection target rang (Some sheet) e = deflected_due target (own_bound sheet) (deflection_of sheet rang) e

pub after_no_injection : (c : FactsView) (sheet : Option Sheet) (how : AttemptEndView) → IfSome sheet SheetHasNoInjection → EndHasNoInjection how → AfterHasNoInjection (step_after_attempt c sheet how)
after_no_injection c sheet Answer e f = tt
after_no_injection c sheet Cancel e f = tt
after_no_injection c sheet Unacknowledged e f = tt
after_no_injection c sheet (UserBusy code) e f = or_refuse_no_injection (option_and_then (due_on c event.Busy) sheet) (causes.Relayed code) (asked_due c event.Busy sheet e)
after_no_injection c sheet (NotReachable code) e f = or_refuse_no_injection (option_and_then (due_on c event.NotReachable) sheet) (causes.Unreachable code) (asked_due c event.NotReachable sheet e)
after_no_injection c sheet NoReply e f = or_refuse_no_injection (option_and_then (due_on c event.NoAnswer) sheet) causes.NoReply (asked_due c event.NoAnswer sheet e)
after_no_injection c sheet (Deflection target rang) e f = or_refuse_no_injection (option_and_then (deflection_by target rang) sheet) (causes.Relayed 480) (deflection_no_injection target rang sheet f)
after_no_injection c sheet (Other code) e f = tt

-- ---- the current records

sheet_or : (o : Option Sheet) → IfSome o SheetHasNoInjection → SheetHasNoInjection (unwrap_or o empty_sheet)
sheet_or None e = tt
sheet_or (Some sheet) e = e

pub sheet_no_injection : (now : SnapshotView) (account : Account) → SheetsHaveNoInjection now → SheetHasNoInjection (sheet_at now account)
sheet_no_injection now account e = sheet_or (now.sheets account.0) (e account.0)

-- ---- targets

pub first_target_no_injection : (uri : List ℕ) (other : Target) → UriHasNoInjection other.uri → UriHasNoInjection (unwrap_or (first_target uri) other).uri
first_target_no_injection uri other e = by (uri_of uri) (read_uri_no_injection uri)
  where
    by : (r : Result Uri Refusal) → IfSome (or_no_uri r) UriHasNoInjection → UriHasNoInjection (unwrap_or (requested_target r) other).uri
    by (Ok u) f = f
    by (Err refusal) f = e

reduced_no_injection : (number : List ℕ) → HasNoInjection number → HasNoInjection (without_separators number)
reduced_no_injection number e = all_filter is_value_byte (λ b. not (is_visual_separator b)) number e

phone_no_injection : (number home : List ℕ) → HasNoInjection number → HasNoInjection home → UriHasNoInjection (phone_uri number home)
phone_no_injection number home e f =
    joined (codes "sip:") ((number ++ 64 ∷ []) ++ (home ++ codes ";user=phone")) refl
    (joined (number ++ 64 ∷ []) (home ++ codes ";user=phone") (joined number (64 ∷ []) e refl) (joined home (codes ";user=phone") f refl))

tel_no_injection : (home number : List ℕ) (params : List Param) → HasNoInjection home → UriHasNoInjection (Tel number params) → UriHasNoInjection (tel_target home number params)
tel_no_injection home number params e f = by (is_global number)
  where
    by : (t : Bool) → UriHasNoInjection (if t then phone_uri (without_separators number) home else Tel number params)
    by true = phone_no_injection (without_separators number) home (reduced_no_injection number (cut number (params_text params) (cut (codes "tel:") (number ++ params_text params) f).1).0) e
    by false = f

pub new_target_no_injection : (home : List ℕ) (uri : Uri) → HasNoInjection home → UriHasNoInjection uri → UriHasNoInjection (new_target home uri)
new_target_no_injection home (Sip user host port params headers) e f = f
new_target_no_injection home (Tel number params) e f = tel_no_injection home number params e f
