-- A call that continues remains clean: it reaches one target after another until it is offered to one, or refused.
use Rattle.std.proofs.Common.{List, ◌+◌, Bool, not, ℕ, zero, suc, Option, Some, None, refl}
use Rattle.std.specs.Prelude.{IfSome}
use Rattle.std.specs.Option.{option_map}
use Rattle.mmtel_compose.specs.Attempts.{as_callee}
use Rattle.mmtel_compose.specs.ReceivedMessages.{MessageView, status_of as status_in}
use Rattle.mmtel_compose.specs.declared.attempts.Destination.{Destination}
use Rattle.mmtel_output.specs.Outputs.{after_draw}
use Rattle.mmtel_output.specs.Sending.{with_attempt_invite}
use Rattle.mmtel_output.specs.declared.outputs.StepOutput.{StepOutput}
use Rattle.mmtel_leg.specs.Dialogues.{request_uri}
use Rattle.mmtel_leg.specs.Legs.{Leg}
use Rattle.mmtel_leg.specs.declared.dialogues.Dialogue.{Dialogue}
use Rattle.mmtel_lex.specs.Grammar.{uri_text}
use Rattle.mmtel_precedence.specs.Calls.{AttemptEndView, SnapshotView}
use Rattle.mmtel_precedence.specs.Services.{DueDiversionView}
use Rattle.mmtel_precedence.specs.NextSteps.{EndAnswered, EndDivert, EndRefuse, NextStepView, StepAfterAttemptView, StepDivert, StepOffer, StepRefuse}
use Rattle.mmtel_precedence.specs.Verdicts.{too_many}
use Rattle.mmtel_served_user.specs.declared.served_user.RegistrationState.{RegistrationState}
use Rattle.mmtel_served_user.specs.declared.targets.Target.{Target}
use Rattle.mmtel_transaction.specs.declared.words.DueWord.TheVariants as due_word
use Rattle.mmtel_transaction.specs.declared.words.Emit.TheVariants as emit
use Rattle.mmtel_types.specs.Causes.{status_of}
use Rattle.mmtel_types.specs.declared.causes.Cause.{Cause}
use Rattle.mmtel_types.specs.declared.causes.Cause.TheVariants as causes
use Rattle.mmtel_types.specs.declared.numbers.Account.{Account}
use Rattle.mmtel_types.specs.declared.numbers.Peer.{Peer}
use Rattle.mmtel_call_services.specs.Decisions.{account_state, caller_facts, decision_after, decision_at, destination_of, diversion_target, is_status}
use Rattle.mmtel_call_services.specs.Decisions.{peer_for, reached_target, registration_at, relayed_status, served_at, service_at, service_of, service_sheet}
use Rattle.mmtel_call_services.specs.CopiedHeaders.{attempt_lines}
use Rattle.mmtel_call_services.specs.CallConfig.{CallConfigView}
use Rattle.mmtel_call_services.specs.declared.openings.Opening.{Opening}
use Rattle.mmtel_call_services.specs.declared.openings.Service.{Service}
use Rattle.mmtel_call.specs.declared.calls.Call.{Call}
use Rattle.mmtel_call.specs.declared.calls.OfferedAttempt.{OfferedAttempt}
use Rattle.mmtel_call.specs.Closing.{StepResult, call_end, with_past}
use Rattle.mmtel_call.specs.Diverting.{after_attempt, at_target, call_after_diversion, call_refusal, diversion_refusal, diversion_step, diversion_unless_refused}
use Rattle.mmtel_call.specs.Diverting.{divert, is_diverted, on_end, on_next_step, reach, relayed_refusal, with_notification_of, with_unoffered_meter}
use Rattle.mmtel_call.specs.AttemptStarts.{attempt_dialog_of, attempt_start, max_attempt_time, next_attempt}
use Rattle.mmtel_call.specs.Sending.{with_diversion_notification, with_relay_to_caller, with_status_to_caller}
use Rattle.mmtel_call_theorems.specs.NoInjection.Acks.{ReceivedAck}
use Rattle.mmtel_call_theorems.specs.NoInjection.Messages.{HasNoInjection}
use Rattle.mmtel_call_theorems.specs.NoInjection.Emits.{OutputHasNoInjection}
use Rattle.mmtel_call_theorems.specs.NoInjection.Inputs.{SheetHasNoInjection, SheetsHaveNoInjection, UriHasNoInjection}
use Rattle.mmtel_call_theorems.specs.NoInjection.CallState.{DialogueHasNoInjection}
use Rattle.mmtel_call_theorems.proofs.NoInjection.Deciding.{AfterHasNoInjection, DueHasNoInjection, EndHasNoInjection, NextStepHasNoInjection, after_no_injection}
use Rattle.mmtel_call_theorems.proofs.NoInjection.Deciding.{new_target_no_injection, next_step_no_injection, record_has_no_injection, sheet_no_injection}
use Rattle.mmtel_call_theorems.proofs.NoInjection.ReceivedMessages.{ParsedMessageHasNoInjection, appended_no_injection}
use Rattle.mmtel_call_theorems.proofs.NoInjection.CallState.{CallHasNoInjection, LegDialogHasNoInjection, OfferedHasNoInjection, OpeningHasNoInjection, Serves, StepHasNoInjection, if_step}
use Rattle.mmtel_call_theorems.proofs.NoInjection.CallState.{notification_no_injection, offered_to_no_injection, over_no_injection, relayed_to_caller_no_injection, status_to_caller_no_injection}
use Rattle.mmtel_call_theorems.proofs.NoInjection.Sending.{DestinationHasNoInjection, attempt_no_injection, diverted_dest_no_injection, emit_no_injection}
use Rattle.mmtel_call_theorems.proofs.NoInjection.Sending.{first_destination_no_injection, if_output, offered_no_injection, token_no_injection}

-- the input of a step
pub record IsGood (config : CallConfigView) (now : SnapshotView) : Type 0 where
  pub home_in : HasNoInjection config.home
  pub sheets_in : SheetsHaveNoInjection now

-- ---- final responses

pub refused_no_injection : (acks : List ReceivedAck) (config : CallConfigView) (at : ℕ) (caller : Leg) (cause : Cause) (c : Call) (output : StepOutput) → CallHasNoInjection acks c →
    OutputHasNoInjection acks output → StepHasNoInjection acks (call_refusal config at caller cause c output)
refused_no_injection acks config at caller cause c output k had =
    over_no_injection acks at cause caller.meter None c (with_status_to_caller config c (status_of cause) output) k (status_to_caller_no_injection acks config c (status_of cause) output k had)

abbrev pub message_has_no_injection : MessageView → Type 0
message_has_no_injection m = ParsedMessageHasNoInjection m.parsed

refused_by_no_injection : (acks : List ReceivedAck) (config : CallConfigView) (at : ℕ) (caller : Leg) (service : Option Service) (m : Option MessageView) (cause : Cause) (c : Call) (output : StepOutput) →
    IfSome m message_has_no_injection → CallHasNoInjection acks c → OutputHasNoInjection acks output → StepHasNoInjection acks (relayed_refusal config at caller service m cause c output)
refused_by_no_injection acks config at caller service None cause c output is k had = refused_no_injection acks config at caller cause c output k had
refused_by_no_injection acks config at caller service (Some m) cause c output is k had =
    if_step acks (is_status (status_in m.parsed.start) (relayed_status cause)) (call_end at cause caller.meter None c (with_relay_to_caller config c service m output)) (call_refusal config at caller cause c output)
    (over_no_injection acks at cause caller.meter None c (with_relay_to_caller config c service m output) k (relayed_to_caller_no_injection acks config c service m output k is had))
    (refused_no_injection acks config at caller cause c output k had)

-- ---- an offer

destination_no_injection : (o : Opening) (peer : Peer) (cause : Option ℕ) (target : Target) → OpeningHasNoInjection o → UriHasNoInjection target.uri → DestinationHasNoInjection (destination_of o peer cause target)
destination_no_injection o peer None target is e = first_destination_no_injection peer o.routes o.invite.parsed is.routes_in is.uri_in is.invite_in
destination_no_injection o peer (Some cause) target is e = diverted_dest_no_injection peer o.routes target.uri cause is.routes_in e

pub called_no_injection : (d : Dialogue) → DialogueHasNoInjection d → DialogueHasNoInjection (as_callee d)
called_no_injection d is = record { call_id_in = is.call_id_in; local_in = is.local_in; remote_in = is.remote_in; tag_in = is.tag_in; target_in = is.target_in; routes_in = refl }

offer_no_injection : (acks : List ReceivedAck) (config : CallConfigView) (at : ℕ) (caller : Leg) (service : Option Service) (waiting : Bool) (destination : Destination) (c : Call) (output : StepOutput) →
    DestinationHasNoInjection destination → LegDialogHasNoInjection caller.dialogue → Serves service → CallHasNoInjection acks c → OutputHasNoInjection acks output →
    StepHasNoInjection acks (attempt_start config at caller service waiting destination c output)
offer_no_injection acks config at caller service waiting destination c output is first serves k had =
    let invite = c.opening.invite in
    let dialog : DialogueHasNoInjection (attempt_dialog_of c.opening destination output) = attempt_no_injection acks destination invite.parsed c.opening.restricted output is k.opening_in.invite_in had in
    let shown = attempt_lines config c.opening c.diversions service destination.peer in
    let sent : OutputHasNoInjection acks (with_attempt_invite config.sip destination invite.parsed c.opening.restricted shown waiting output) =
    offered_no_injection acks config.sip destination invite.parsed c.opening.restricted shown waiting output is k.opening_in.invite_in
    (offered_to_no_injection config c.opening c.diversions service destination.peer k.history_in k.opening_in.invite_in) had in
    record {
      kept = k;
      phase = record {
        caller_in = first;
        callee_in = (called_no_injection (attempt_dialog_of c.opening destination output) dialog, token_no_injection acks (after_draw output) had);
        service_in = serves;
        sent_in = record { dialogue_in = dialog; branch_in = token_no_injection acks (after_draw (after_draw output)) had; ack_in = tt; forks_in = tt; early_in = tt };
      };
      output = emit_no_injection acks (emit.Arm c.opening.number (due_word.Cap (next_attempt c)) (at + max_attempt_time))
          (with_attempt_invite config.sip destination invite.parsed c.opening.restricted shown waiting output) tt sent;
    }

-- ---- at a target

-- whatever the result of a diversion is that is due where this many are left
abbrev DivertHasNoInjection : (acks : List ReceivedAck) → ℕ → CallConfigView → SnapshotView → Leg → Type 0
DivertHasNoInjection acks left config now caller = (service : Option Service) (due : DueDiversionView) (c : Call) (output : StepOutput) → Serves service → DueHasNoInjection due →
    CallHasNoInjection acks c → OutputHasNoInjection acks output → StepHasNoInjection acks (divert left config now caller service due c output)

on_next_step_no_injection : (acks : List ReceivedAck) (left : ℕ) (config : CallConfigView) (now : SnapshotView) (caller : Leg) → DivertHasNoInjection acks left config now caller →
    (service : Option Service) (cause : Option ℕ) (target : Target) (turn : NextStepView) (c : Call) (output : StepOutput) →
    UriHasNoInjection target.uri → LegDialogHasNoInjection caller.dialogue → Serves service → NextStepHasNoInjection turn → CallHasNoInjection acks c → OutputHasNoInjection acks output →
    StepHasNoInjection acks (on_next_step (divert left config now caller) config now.at caller service cause target turn c output)
on_next_step_no_injection acks left config now caller later service cause target (StepOffer peer waiting) c output e first serves turns k had =
    offer_no_injection acks config now.at caller service waiting (destination_of c.opening peer cause target) c output (destination_no_injection c.opening peer cause target k.opening_in e) first serves k had
on_next_step_no_injection acks left config now caller later service cause target (StepDivert due) c output e first serves turns k had = later service due (with_unoffered_meter now.at service c) output serves turns k had
on_next_step_no_injection acks left config now caller later service cause target (StepRefuse why) c output e first serves turns k had =
    refused_no_injection acks config now.at caller why (with_unoffered_meter now.at service c) output k had

service_no_injection : (now : SnapshotView) (account : Option Account) → SheetsHaveNoInjection now → Serves (option_map (service_of now) account)
service_no_injection now None e = tt
service_no_injection now (Some account) e = sheet_no_injection now account e

state_no_injection : (now : SnapshotView) (told : Option RegistrationState) (service : Option Service) → Serves service → IfSome (option_map (account_state now told) service) record_has_no_injection
state_no_injection now told None e = tt
state_no_injection now told (Some service) e = e

target_no_injection : (acks : List ReceivedAck) (left : ℕ) (config : CallConfigView) (now : SnapshotView) (caller : Leg) → DivertHasNoInjection acks left config now caller →
    (cause : Option ℕ) (target : Target) (c : Call) (output : StepOutput) →
    IsGood config now → UriHasNoInjection target.uri → LegDialogHasNoInjection caller.dialogue → CallHasNoInjection acks c → OutputHasNoInjection acks output →
    StepHasNoInjection acks (at_target (divert left config now caller) config now caller cause target c output)
target_no_injection acks left config now caller later cause target c output good e first k had =
    let service = service_at config now c.opening cause target in
    let peer = peer_for config c.opening target in
    let serves : Serves service = service_no_injection now (served_at config c.opening cause target) good.sheets_in in
    on_next_step_no_injection acks left config now caller later service cause target (decision_at config now c.opening (is_diverted c) cause target service peer) c output e first serves
    (next_step_no_injection (caller_facts c.opening now.at (is_diverted c)) (reached_target config now c.opening cause target service peer) (state_no_injection now (registration_at c.opening cause) service serves)) k had

-- ---- a diversion

diverted_kept : (acks : List ReceivedAck) (target : Target) (at left : ℕ) (service : Option Service) (due : DueDiversionView) (c : Call) → UriHasNoInjection target.uri → CallHasNoInjection acks c →
    CallHasNoInjection acks (call_after_diversion target at left service due c)
diverted_kept acks target at left service due c e k = record {
  opening_in = k.opening_in;
  history_in = appended_no_injection c.diversions.history (request_uri c.opening.invite.parsed.start) (uri_text target.uri) due.cause (not due.forward.reveal_to_target) k.history_in k.opening_in.uri_in e;
  abandoned_in = k.abandoned_in;
  answered_in = k.answered_in;
  in_flight_in = k.in_flight_in;
}

notification_of_no_injection : (acks : List ReceivedAck) (config : CallConfigView) (due : DueDiversionView) (c : Call) (output : StepOutput) → CallHasNoInjection acks c →
    OutputHasNoInjection acks output → OutputHasNoInjection acks (with_notification_of config due c output)
notification_of_no_injection acks config due c output k had = if_output acks due.forward.notify_caller (with_diversion_notification config c output) output (notification_no_injection acks config c output k had) had

unless_no_injection : (acks : List ReceivedAck) (refusal : Option Cause) (go : Call → StepOutput → StepResult) (config : CallConfigView) (at : ℕ) (caller : Leg) (c : Call) (output : StepOutput) →
    CallHasNoInjection acks c → OutputHasNoInjection acks output → StepHasNoInjection acks (go c output) →
    StepHasNoInjection acks (diversion_unless_refused refusal go config at caller c output)
unless_no_injection acks (Some why) go config at caller c output k had is = refused_no_injection acks config at caller why c output k had
unless_no_injection acks None go config at caller c output k had is = is

divert_no_injection : (acks : List ReceivedAck) (left : ℕ) (config : CallConfigView) (now : SnapshotView) (caller : Leg) → IsGood config now → LegDialogHasNoInjection caller.dialogue →
    DivertHasNoInjection acks left config now caller
unfolding divert
divert_no_injection acks zero config now caller good first service due c output serves e k had =
    unless_no_injection acks (diversion_refusal 0 config now.at service due c) (call_refusal config now.at caller (too_many due.cause)) config now.at caller c output k had
    (refused_no_injection acks config now.at caller (too_many due.cause) c output k had)
divert_no_injection acks (suc left) config now caller good first service due c output serves e k had =
    let target = diversion_target config due in
    let uri : UriHasNoInjection target.uri = new_target_no_injection config.home due.forward.target good.home_in e in
    let next = call_after_diversion target now.at left service due c in
    let kept : CallHasNoInjection acks next = diverted_kept acks target now.at left service due c uri k in
    let onward = diversion_step (at_target (divert left config now caller) config now caller (Some due.cause) target) config target now.at left service due in
    unless_no_injection acks (diversion_refusal (suc left) config now.at service due c) onward config now.at caller c output k had
    (target_no_injection acks left config now caller (divert_no_injection acks left config now caller good first) (Some due.cause) target next
    (with_notification_of config due next output) good uri first kept (notification_of_no_injection acks config due next output kept had))

pub reach_no_injection : (acks : List ReceivedAck) (config : CallConfigView) (now : SnapshotView) (caller : Leg) (cause : Option ℕ) (target : Target) (c : Call) (output : StepOutput) →
    IsGood config now → UriHasNoInjection target.uri → LegDialogHasNoInjection caller.dialogue → CallHasNoInjection acks c → OutputHasNoInjection acks output →
    StepHasNoInjection acks (reach config now caller cause target c output)
reach_no_injection acks config now caller cause target c output good e first k had =
    target_no_injection acks c.diversions.remaining config now caller (divert_no_injection acks c.diversions.remaining config now caller good first) cause target c output good e first k had

-- ---- after an attempt

on_end_no_injection : (acks : List ReceivedAck) (config : CallConfigView) (now : SnapshotView) (caller : Leg) (service : Option Service) (m : Option MessageView) (after : StepAfterAttemptView)
    (c : Call) (output : StepOutput) →
    IsGood config now → LegDialogHasNoInjection caller.dialogue → Serves service → IfSome m message_has_no_injection → AfterHasNoInjection after → CallHasNoInjection acks c →
    OutputHasNoInjection acks output → StepHasNoInjection acks (on_end config now caller service m after c output)
on_end_no_injection acks config now caller service m EndAnswered c output good first serves is e k had = over_no_injection acks now.at causes.Ended caller.meter None c output k had
on_end_no_injection acks config now caller service m (EndDivert due) c output good first serves is e k had =
    divert_no_injection acks c.diversions.remaining config now caller good first service due c output serves e k had
on_end_no_injection acks config now caller service m (EndRefuse cause) c output good first serves is e k had = refused_by_no_injection acks config now.at caller service m cause c output is k had

its_sheet_no_injection : (service : Option Service) → Serves service → IfSome (service_sheet service) SheetHasNoInjection
its_sheet_no_injection None e = tt
its_sheet_no_injection (Some service) e = e

pub goes_on_no_injection : (acks : List ReceivedAck) (config : CallConfigView) (now : SnapshotView) (x : OfferedAttempt) (how : AttemptEndView) (m : Option MessageView) (c : Call) (output : StepOutput) →
    IsGood config now → OfferedHasNoInjection acks x → EndHasNoInjection how → IfSome m message_has_no_injection → CallHasNoInjection acks c → OutputHasNoInjection acks output →
    StepHasNoInjection acks (after_attempt config now x how m c output)
goes_on_no_injection acks config now x how m c output good t e is k had =
    on_end_no_injection acks config now x.caller x.attempt.service m (decision_after c.opening now.at (is_diverted c) x.attempt.service how) (with_past x.callee.leg.meter c) output good t.caller_in t.service_in is
    (after_no_injection (caller_facts c.opening now.at (is_diverted c)) (service_sheet x.attempt.service) how (its_sheet_no_injection x.attempt.service t.service_in) e) k had
