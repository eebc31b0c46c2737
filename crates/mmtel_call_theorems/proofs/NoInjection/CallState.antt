-- What a call keeps is clean, and what is copied from what it keeps.
use Rattle.std.proofs.Common.{◌==◌, Bool, true, false, ℕ, List, [], ◌∷◌, Option, Some, None, refl}
use Rattle.std.specs.Option.{option_or}
use Rattle.std.specs.Prelude.{IfSome, codes, if◌then◌else◌}
use Rattle.mmtel_compose.specs.Responses.{allow_lines, method_names, retry_after_lines}
use Rattle.mmtel_compose.specs.ReceivedMessages.{MessageView, status_of}
use Rattle.mmtel_compose.specs.declared.responses.FurtherMethods.{FurtherMethods}
use Rattle.mmtel_charging.specs.Meters.{MeterView}
use Rattle.mmtel_output.specs.SentInvites.{invite_after_cancel, is_cancellable, with_early}
use Rattle.mmtel_output.specs.declared.outputs.StepOutput.{StepOutput}
use Rattle.mmtel_output.specs.declared.sent_invites.SentInvite.{SentInvite}
use Rattle.mmtel_output.specs.declared.sent_invites.AbandonedInvite.{AbandonedInvite}
use Rattle.mmtel_history.specs.declared.entries.Entry.{Entry}
use Rattle.mmtel_leg.specs.Dialogues.{request_uri}
use Rattle.mmtel_leg.specs.Releases.{released_leg}
use Rattle.mmtel_leg.specs.declared.dialogues.Dialogue.{Dialogue}
use Rattle.mmtel_leg.specs.declared.dialogues.DialogueFault.{DialogueFault}
use Rattle.mmtel_leg.specs.declared.dialogues.DialogueFault.TheVariants.{OldCSeq, Pending, Unfinished}
use Rattle.mmtel_leg.specs.declared.remotes.Remote.{Remote}
use Rattle.mmtel_message.specs.Faults.{is_method}
use Rattle.mmtel_message.specs.Message.{Line}
use Rattle.mmtel_transaction.specs.declared.words.TKey.{TKey}
use Rattle.mmtel_types.specs.declared.causes.Cause.{Cause}
use Rattle.mmtel_types.specs.declared.numbers.Peer.{Peer}
use Rattle.mmtel_types.specs.declared.sides.Side.{Side}
use Rattle.mmtel_types.specs.declared.sides.Side.TheVariants.{Callee}
use Rattle.mmtel_trust.specs.HeaderTable.{history_lines}
use Rattle.mmtel_call_services.specs.Diversions.{DiversionsView}
use Rattle.mmtel_call_services.specs.CopiedHeaders.{attempt_facing, attempt_lines, copied_lines, facing_at, history_for, masks_all, notified_history}
use Rattle.mmtel_call_services.specs.CallConfig.{CallConfigView, further_methods, trusts}
use Rattle.mmtel_call_services.specs.declared.openings.Opening.{Opening}
use Rattle.mmtel_call_services.specs.declared.openings.Service.{Service}
use Rattle.mmtel_call.specs.declared.calls.Stage.TheVariants.{Answered, Departing, Reinviting, Stable}
use Rattle.mmtel_call.specs.declared.calls.Call.{Call}
use Rattle.mmtel_call.specs.declared.calls.RelayedTransaction.{RelayedTransaction}
use Rattle.mmtel_call.specs.declared.calls.Phase.TheVariants.{Detached, Established, Offered, Over}
use Rattle.mmtel_call.specs.declared.calls.EstablishedLegs.{EstablishedLegs}
use Rattle.mmtel_call.specs.declared.calls.Phase.{Phase}
use Rattle.mmtel_call.specs.declared.calls.Reinvite.{Reinvite}
use Rattle.mmtel_call.specs.declared.calls.Stage.{Stage}
use Rattle.mmtel_call.specs.declared.calls.AnsweredInvite.{AnsweredInvite}
use Rattle.mmtel_call.specs.declared.calls.OfferedAttempt.{OfferedAttempt}
use Rattle.mmtel_call.specs.Closing.{StepResult, call_end, step_result}
use Rattle.mmtel_call.specs.Requests.{with_refused_request, with_response_to, with_unlisted_response}
use Rattle.mmtel_call.specs.Sending.{with_diversion_notification, with_relay_to_caller, with_status_to, with_status_to_caller}
use Rattle.mmtel_call_theorems.specs.NoInjection.Acks.{ReceivedAck}
use Rattle.mmtel_call_theorems.specs.NoInjection.Messages.{HasNoInjection, HaveNoInjection, LinesHaveNoInjection}
use Rattle.mmtel_call_theorems.specs.NoInjection.Emits.{Each, OutputHasNoInjection}
use Rattle.mmtel_call_theorems.specs.NoInjection.Inputs.{SheetHasNoInjection}
use Rattle.mmtel_call_theorems.specs.NoInjection.CallState.{DialogueHasNoInjection, EntriesHaveNoInjection}
use Rattle.mmtel_call_theorems.proofs.NoInjection.ReceivedMessages.{ParsedMessageHasNoInjection, copied_no_injection, history_lines_no_injection, notified_no_injection}
use Rattle.mmtel_call_theorems.proofs.NoInjection.Sending.{InvitationHasNoInjection, RemoteHasNoInjection, answered_no_injection, if_output, relayed_no_injection, replied_no_injection}

-- ---- what is kept

pub record OpeningHasNoInjection (o : Opening) : Type 0 where
  pub invite_in : ParsedMessageHasNoInjection o.invite.parsed
  pub uri_in : HasNoInjection (request_uri o.invite.parsed.start)
  pub tag_in : HasNoInjection o.tag
  pub routes_in : HaveNoInjection o.routes

abbrev pub AbandonedHasNoInjection : (acks : List ReceivedAck) → AbandonedInvite → Type 0
AbandonedHasNoInjection acks l = InvitationHasNoInjection acks l.invite

abbrev pub AnsweredHasNoInjection : (acks : List ReceivedAck) → AnsweredInvite → Type 0
AnsweredHasNoInjection acks t = InvitationHasNoInjection acks t.invite

-- requests in flight get responses with the header fields of the request
abbrev pub RelayedHasNoInjection : RelayedTransaction → Type 0
RelayedHasNoInjection flight = ParsedMessageHasNoInjection flight.exchange.request.parsed

-- of a call, except for its phase
pub record CallPartsHaveNoInjection (acks : List ReceivedAck) (o : Opening) (history : List Entry) (abandoned : List AbandonedInvite) (taken : List AnsweredInvite) (flights : List RelayedTransaction) : Type 0 where
  pub opening_in : OpeningHasNoInjection o
  pub history_in : EntriesHaveNoInjection history
  pub abandoned_in : Each (AbandonedHasNoInjection acks) abandoned
  pub answered_in : Each (AnsweredHasNoInjection acks) taken
  pub in_flight_in : Each RelayedHasNoInjection flights

abbrev pub CallHasNoInjection : (acks : List ReceivedAck) → Call → Type 0
CallHasNoInjection acks c = CallPartsHaveNoInjection acks c.opening c.diversions.history c.abandoned c.answered_invites c.relayed

pub with_in_flight : (acks : List ReceivedAck) (flights : List RelayedTransaction) (c : Call) → Each RelayedHasNoInjection flights → CallHasNoInjection acks c → CallHasNoInjection acks (record c { relayed = flights })
with_in_flight acks flights c all k = record { opening_in = k.opening_in; history_in = k.history_in; abandoned_in = k.abandoned_in; answered_in = k.answered_in; in_flight_in = all }

abbrev pub sheet_has_no_injection : Service → Type 0
sheet_has_no_injection service = SheetHasNoInjection service.sheet

abbrev pub Serves : Option Service → Type 0
Serves service = IfSome service sheet_has_no_injection

-- the dialog of a leg, with the server's tag in it
abbrev pub LegDialogHasNoInjection : Dialogue → Type 0
LegDialogHasNoInjection d = DialogueHasNoInjection d × HasNoInjection d.local_tag

pub record OfferedHasNoInjection (acks : List ReceivedAck) (x : OfferedAttempt) : Type 0 where
  pub caller_in : LegDialogHasNoInjection x.caller.dialogue
  pub callee_in : LegDialogHasNoInjection x.callee.leg.dialogue
  pub service_in : Serves x.attempt.service
  pub sent_in : InvitationHasNoInjection acks x.attempt.invite

pub record LegsHaveNoInjection (x : EstablishedLegs) : Type 0 where
  pub caller_in : LegDialogHasNoInjection x.caller.dialogue
  pub callee_in : LegDialogHasNoInjection x.callee.dialogue

pub record ReinviteHasNoInjection (acks : List ReceivedAck) (q : Reinvite) : Type 0 where
  pub request_in : ParsedMessageHasNoInjection q.request.parsed
  pub sent_in : InvitationHasNoInjection acks q.invite

abbrev pub StageHasNoInjection : (acks : List ReceivedAck) → Stage → Type 0
StageHasNoInjection acks (Answered side success) = Unit {0}
StageHasNoInjection acks (Departing side success) = Unit {0}
StageHasNoInjection acks Stable = Unit {0}
StageHasNoInjection acks (Reinviting side q) = ReinviteHasNoInjection acks q

pub record EstablishedHasNoInjection (acks : List ReceivedAck) (x : EstablishedLegs) (stage : Stage) : Type 0 where
  pub legs_in : LegsHaveNoInjection x
  pub stage_in : StageHasNoInjection acks stage

abbrev pub PhaseHasNoInjection : (acks : List ReceivedAck) → Phase → Type 0
PhaseHasNoInjection acks (Offered x) = OfferedHasNoInjection acks x
PhaseHasNoInjection acks (Established x stage) = EstablishedHasNoInjection acks x stage
PhaseHasNoInjection acks (Detached detached) = LegDialogHasNoInjection (released_leg detached.remaining).dialogue
PhaseHasNoInjection acks (Over cause) = Unit {0}

-- after a step the call and the output are clean
pub record StepHasNoInjection (acks : List ReceivedAck) (s : StepResult) : Type 0 where
  pub kept : CallHasNoInjection acks s.call
  pub phase : PhaseHasNoInjection acks s.call.phase
  pub output : OutputHasNoInjection acks s.output

pub onward_no_injection : (acks : List ReceivedAck) (c : Call) (output : StepOutput) → CallHasNoInjection acks c → PhaseHasNoInjection acks c.phase → OutputHasNoInjection acks output →
    StepHasNoInjection acks (step_result c output)
onward_no_injection acks c output k p had = record { kept = k; phase = p; output = had }

pub over_no_injection : (acks : List ReceivedAck) (at : ℕ) (cause : Cause) (first last : Option MeterView) (c : Call) (output : StepOutput) → CallHasNoInjection acks c →
    OutputHasNoInjection acks output → StepHasNoInjection acks (call_end at cause first last c output)
over_no_injection acks at cause first last c output k had = record { kept = with_in_flight acks [] c tt k; phase = tt; output = record { token_in = had.token_in; out_in = had.out_in } }

pub if_step : (acks : List ReceivedAck) (b : Bool) (one two : StepResult) → StepHasNoInjection acks one → StepHasNoInjection acks two → StepHasNoInjection acks (if b then one else two)
if_step acks true one two e f = e
if_step acks false one two e f = f

pub once_no_injection : (acks : List ReceivedAck) (i : SentInvite) → InvitationHasNoInjection acks i → InvitationHasNoInjection acks (invite_after_cancel i)
once_no_injection acks i is = by (is_cancellable i)
  where
    by : (t : Bool) → InvitationHasNoInjection acks (if t then record i { cancelled = true } else i)
    by true = is
    by false = is

pub early_no_injection : (acks : List ReceivedAck) (said : Option Remote) (i : SentInvite) → IfSome said RemoteHasNoInjection → InvitationHasNoInjection acks i → InvitationHasNoInjection acks (with_early said i)
early_no_injection acks said i e is = record { dialogue_in = is.dialogue_in; branch_in = is.branch_in; ack_in = is.ack_in; forks_in = is.forks_in; early_in = first i.early is.early_in }
  where
    first : (o : Option Remote) → IfSome o RemoteHasNoInjection → IfSome (option_or o said) RemoteHasNoInjection
    first None f = e
    first (Some remote) f = f

-- ---- what is copied

list_no_injection : (d : DiversionsView) (m : MessageView) → EntriesHaveNoInjection d.history → EntriesHaveNoInjection (history_for d m)
list_no_injection d m e = by (status_of m.parsed.start == 181)
  where
    by : (t : Bool) → EntriesHaveNoInjection (if t then notified_history d else d.history)
    by true = notified_no_injection d.hides_diverting d.hides_target d.history e
    by false = e

pub copied_to_no_injection : (config : CallConfigView) (o : Opening) (d : DiversionsView) (service : Option Service) (side : Side) (peer : Peer) (m : MessageView) → EntriesHaveNoInjection d.history →
    ParsedMessageHasNoInjection m.parsed → LinesHaveNoInjection (copied_lines config o d service side peer m)
unfolding copied_lines
copied_to_no_injection config o d service side peer m e is =
    copied_no_injection (facing_at config o service side m) (trusts config peer) (history_for d m) m.parsed.start m.parsed.lines (list_no_injection d m e) is.lines_in

pub offered_to_no_injection : (config : CallConfigView) (o : Opening) (d : DiversionsView) (service : Option Service) (peer : Peer) → EntriesHaveNoInjection d.history →
    ParsedMessageHasNoInjection o.invite.parsed → LinesHaveNoInjection (attempt_lines config o d service peer)
unfolding attempt_lines
offered_to_no_injection config o d service peer e is =
    copied_no_injection (attempt_facing config o service) (trusts config peer) (history_for d o.invite) o.invite.parsed.start o.invite.parsed.lines (list_no_injection d o.invite e) is.lines_in

-- ---- responses

pub replied_to_no_injection : (acks : List ReceivedAck) (config : CallConfigView) (c : Call) (key : TKey) (m : MessageView) (code : ℕ) (output : StepOutput) → CallHasNoInjection acks c →
    ParsedMessageHasNoInjection m.parsed → OutputHasNoInjection acks output → OutputHasNoInjection acks (with_status_to config c key m code output)
replied_to_no_injection acks config c key m code output k is had = replied_no_injection acks config.sip key m c.opening.tag code output is k.opening_in.tag_in had

pub status_to_caller_no_injection : (acks : List ReceivedAck) (config : CallConfigView) (c : Call) (code : ℕ) (output : StepOutput) → CallHasNoInjection acks c → OutputHasNoInjection acks output →
    OutputHasNoInjection acks (with_status_to_caller config c code output)
status_to_caller_no_injection acks config c code output k had = replied_to_no_injection acks config c c.opening.key c.opening.invite code output k k.opening_in.invite_in had

pub notification_no_injection : (acks : List ReceivedAck) (config : CallConfigView) (c : Call) (output : StepOutput) → CallHasNoInjection acks c → OutputHasNoInjection acks output →
    OutputHasNoInjection acks (with_diversion_notification config c output)
notification_no_injection acks config c output k had =
    let h : List Entry = notified_history c.diversions in
    let t : Bool = trusts config c.opening.invite.peer in
    answered_no_injection acks config.sip c.opening.key c.opening.invite c.opening.tag 181 (history_lines (masks_all c.opening) t h) [] [] output k.opening_in.invite_in k.opening_in.tag_in
    (history_lines_no_injection (masks_all c.opening) t h (notified_no_injection c.diversions.hides_diverting c.diversions.hides_target c.diversions.history k.history_in)) refl had

pub relayed_to_caller_no_injection : (acks : List ReceivedAck) (config : CallConfigView) (c : Call) (service : Option Service) (m : MessageView) (output : StepOutput) → CallHasNoInjection acks c →
    ParsedMessageHasNoInjection m.parsed → OutputHasNoInjection acks output → OutputHasNoInjection acks (with_relay_to_caller config c service m output)
relayed_to_caller_no_injection acks config c service m output k is had =
    relayed_no_injection acks config.sip c.opening.key c.opening.invite c.opening.tag (copied_lines config c.opening c.diversions service Callee c.opening.invite.peer m) m output
    k.opening_in.invite_in k.opening_in.tag_in (copied_to_no_injection config c.opening c.diversions service Callee c.opening.invite.peer m k.history_in is) is had

pub answered_to_no_injection : (acks : List ReceivedAck) (config : CallConfigView) (c : Call) (key : TKey) (m : MessageView) (code : ℕ) (named : List Line) (output : StepOutput) →
    CallHasNoInjection acks c → ParsedMessageHasNoInjection m.parsed → LinesHaveNoInjection named → OutputHasNoInjection acks output →
    OutputHasNoInjection acks (with_response_to config c key m code named output)
answered_to_no_injection acks config c key m code named output k is e had = answered_no_injection acks config.sip key m c.opening.tag code [] named [] output is k.opening_in.tag_in refl e had

-- the methods that a server lists, whichever it supports
allowed_by : (reliable mwi : Bool) → LinesHaveNoInjection ((codes "Allow", method_names reliable mwi) ∷ [])
allowed_by false false = refl
allowed_by true false = refl
allowed_by false true = refl
allowed_by true true = refl

pub allowed_no_injection : (methods : FurtherMethods) → LinesHaveNoInjection (allow_lines methods)
allowed_no_injection methods = allowed_by methods.reliable methods.mwi

pub refused_request_no_injection : (acks : List ReceivedAck) (config : CallConfigView) (c : Call) (key : TKey) (m : MessageView) (fault : DialogueFault) (output : StepOutput) →
    CallHasNoInjection acks c → ParsedMessageHasNoInjection m.parsed → OutputHasNoInjection acks output → OutputHasNoInjection acks (with_refused_request config c key m fault output)
refused_request_no_injection acks config c key m (OldCSeq last) output k is had = replied_to_no_injection acks config c key m 500 output k is had
refused_request_no_injection acks config c key m Pending output k is had = replied_to_no_injection acks config c key m 491 output k is had
refused_request_no_injection acks config c key m Unfinished output k is had = answered_to_no_injection acks config c key m 500 retry_after_lines output k is refl had

pub unlisted_no_injection : (acks : List ReceivedAck) (config : CallConfigView) (c : Call) (key : TKey) (m : MessageView) (output : StepOutput) → CallHasNoInjection acks c →
    ParsedMessageHasNoInjection m.parsed → OutputHasNoInjection acks output → OutputHasNoInjection acks (with_unlisted_response config c key m output)
unlisted_no_injection acks config c key m output k is had =
    if_output acks (is_method (codes "OPTIONS") m.parsed.start) (with_response_to config c key m 200 (allow_lines (further_methods config)) output)
    (if is_method (codes "REFER") m.parsed.start then with_status_to config c key m 403 output else with_status_to config c key m 481 output)
    (answered_to_no_injection acks config c key m 200 (allow_lines (further_methods config)) output k is (allowed_no_injection (further_methods config)) had)
    (if_output acks (is_method (codes "REFER") m.parsed.start) (with_status_to config c key m 403 output) (with_status_to config c key m 481 output)
    (replied_to_no_injection acks config c key m 403 output k is had) (replied_to_no_injection acks config c key m 481 output k is had))
