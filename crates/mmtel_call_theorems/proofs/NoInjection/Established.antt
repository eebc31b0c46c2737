-- An answered call remains clean, and sends what is clean.
use Rattle.std.proofs.Common.{◌==◌, inr, Bool, true, false, ℕ, List, [], ◌∷◌, Some, refl, nat_lt, Result, Ok, Err}
use Rattle.std.specs.Prelude.{codes, if◌then◌else◌}
use Rattle.std.specs.Str.{bytes_eq}
use Rattle.mmtel_compose.specs.ReceivedMessages.{MessageView, status_of}
use Rattle.mmtel_output.specs.Outputs.{token}
use Rattle.mmtel_output.specs.SentInvites.{invite_after_cancel, with_provisional}
use Rattle.mmtel_output.specs.Sending.{relayed_ack_text, with_ack, with_due_cancel, with_final_ack, with_relayed_request}
use Rattle.mmtel_output.specs.declared.outputs.StepOutput.{StepOutput}
use Rattle.mmtel_output.specs.declared.sent_invites.SentInvite.{SentInvite}
use Rattle.mmtel_leg.specs.Dialogues.{after_request}
use Rattle.mmtel_leg.specs.Legs.{Leg}
use Rattle.mmtel_leg.specs.declared.dialogues.Dialogue.{Dialogue}
use Rattle.mmtel_leg.specs.declared.dialogues.DialogueFault.{DialogueFault}
use Rattle.mmtel_transaction.specs.declared.words.DueWord.{DueWord}
use Rattle.mmtel_transaction.specs.declared.words.TKey.{TKey}
use Rattle.mmtel_types.specs.Sides.{other_side}
use Rattle.mmtel_types.specs.declared.causes.Cause.TheVariants as causes
use Rattle.mmtel_types.specs.declared.sides.Side.{Side}
use Rattle.mmtel_types.specs.declared.sides.Side.TheVariants.{Caller, Callee}
use Rattle.mmtel_call_services.specs.Requests.{is_same_side}
use Rattle.mmtel_call_services.specs.CopiedHeaders.{copied_lines, history_for}
use Rattle.mmtel_call_services.specs.CallConfig.{CallConfigView}
use Rattle.mmtel_call.specs.Answered.{acknowledges, after_ack_across, after_ack_timeout, after_bye_across, after_bye_before_ack}
use Rattle.mmtel_call.specs.Answered.{after_departure, at_stage, copied_across, leg_of, with_ack_and_bye, with_bye_to, with_kept_ack, with_leg}
use Rattle.mmtel_call.specs.declared.calls.Stage.TheVariants.{Answered, Departing, Reinviting, Stable}
use Rattle.mmtel_call.specs.declared.calls.Call.{Call}
use Rattle.mmtel_call.specs.declared.calls.EstablishedLegs.{EstablishedLegs}
use Rattle.mmtel_call.specs.declared.calls.Reinvite.{Reinvite}
use Rattle.mmtel_call.specs.declared.calls.Stage.{Stage}
use Rattle.mmtel_call.specs.declared.calls.Phase.TheVariants.{Established}
use Rattle.mmtel_call.specs.declared.calls.Success.{Success}
use Rattle.mmtel_call.specs.declared.calls.AnsweredInvite.{AnsweredInvite}
use Rattle.mmtel_call.specs.Closing.{StepResult, established_call_end, step_result}
use Rattle.mmtel_call.specs.Reinvites.{abandoned_across, after_invite_across, ended_dialogs, ends_dialog, leg_after_invite, on_accepted_reinvite, on_bye_reinviting, on_cancel_across, on_provisional_across}
use Rattle.mmtel_call.specs.Reinvites.{on_reinvite, on_response_across, on_timeout_across, reinvite_after_cancel, reinvite_after_provisional, with_byes, with_cancel_if_due, with_refusal_back, with_relayed_back}
use Rattle.mmtel_call.specs.RelayedTransactions.{leg_after_request, updating_side}
use Rattle.mmtel_call.specs.Reliable.{on_refused_prack}
use Rattle.mmtel_call.specs.Requests.{is_bye, is_invite, is_prack, is_update, leg_after_receiving, request_check, with_refused_request, with_unlisted_response}
use Rattle.mmtel_call.specs.Ringing.{new_answered_invite, with_abandoned, with_ack_timer}
use Rattle.mmtel_call.specs.Sending.{with_status_to}
use Rattle.mmtel_call.specs.Stages.{after_bye_at, after_timer_at, busy_in, has_departed, is_due_at, on_ack_at, on_bye, on_cancel_at}
use Rattle.mmtel_call.specs.Stages.{on_due_at, on_invite, on_request_at, on_request_at_if, on_response_at, on_timeout_at, on_valid_request_at}
use Rattle.mmtel_call.specs.Updates.{on_stable_update, on_update_at}
use Rattle.mmtel_call_theorems.specs.NoInjection.Traces.{AreAmong}
use Rattle.mmtel_compose.specs.Requests.{relayed_parts}
use Rattle.mmtel_trust.specs.Members.{IsIn}
use Rattle.mmtel_call_theorems.specs.NoInjection.Acks.{IsPassedTo, ReceivedAck, received_ack_across as received_across, received_acks_in}
use Rattle.mmtel_call_theorems.specs.NoInjection.Messages.{LinesHaveNoInjection}
use Rattle.mmtel_call_theorems.specs.NoInjection.Emits.{Each, IsTextOfAck, OutputHasNoInjection}
use Rattle.mmtel_call_theorems.specs.NoInjection.CallState.{DialogueHasNoInjection}
use Rattle.mmtel_call_theorems.proofs.NoInjection.RelayedRequests.{asked_on_no_injection, awaiting_no_injection, crossing_transition, expiry_no_injection, prack_refused_no_injection, unless_transition}
use Rattle.mmtel_call_theorems.proofs.NoInjection.ReceivedMessages.{ParsedMessageHasNoInjection}
use Rattle.mmtel_call_theorems.proofs.NoInjection.CallState.{AnsweredHasNoInjection, CallHasNoInjection, LegDialogHasNoInjection, LegsHaveNoInjection, ReinviteHasNoInjection}
use Rattle.mmtel_call_theorems.proofs.NoInjection.CallState.{StageHasNoInjection, StepHasNoInjection, copied_to_no_injection, if_step, once_no_injection, onward_no_injection}
use Rattle.mmtel_call_theorems.proofs.NoInjection.CallState.{over_no_injection, refused_request_no_injection, replied_to_no_injection, unlisted_no_injection}
use Rattle.mmtel_call_theorems.proofs.NoInjection.Ringing.{with_abandoned_kept}
use Rattle.mmtel_call_theorems.proofs.NoInjection.Sending.{InvitationHasNoInjection, acked_for_no_injection, acked_no_injection, asked_for_no_injection, bye_no_injection, cancelled_no_injection}
use Rattle.mmtel_call_theorems.proofs.NoInjection.Sending.{each_append, each_map, final_acked_no_injection, if_output, relayed_ack_no_injection, relayed_no_injection, token_no_injection}

-- ---- both sides

leg_here : (side : Side) (x : EstablishedLegs) → LegsHaveNoInjection x → LegDialogHasNoInjection (leg_of side x).dialogue
leg_here Caller x is = is.caller_in
leg_here Callee x is = is.callee_in

leg_no_injection : (side : Side) (x : EstablishedLegs) → LegsHaveNoInjection x → DialogueHasNoInjection (leg_of side x).dialogue
leg_no_injection side x is = (leg_here side x is).0

with_leg_no_injection : (side : Side) (leg : Leg) (x : EstablishedLegs) → LegDialogHasNoInjection leg.dialogue → LegsHaveNoInjection x → LegsHaveNoInjection (with_leg side leg x)
with_leg_no_injection Caller leg x e is = record { caller_in = e; callee_in = is.callee_in }
with_leg_no_injection Callee leg x e is = record { caller_in = is.caller_in; callee_in = e }

copied_across_no_injection : (acks : List ReceivedAck) (config : CallConfigView) (c : Call) (x : EstablishedLegs) (side : Side) (m : MessageView) → CallHasNoInjection acks c →
    ParsedMessageHasNoInjection m.parsed → LinesHaveNoInjection (copied_across config c x side m)
copied_across_no_injection acks config c x side m k is = copied_to_no_injection config c.opening c.diversions x.service side (leg_of (other_side side) x).dialogue.peer m k.history_in is

bye_to_no_injection : (acks : List ReceivedAck) (config : CallConfigView) (x : EstablishedLegs) (side : Side) (output : StepOutput) → LegsHaveNoInjection x → OutputHasNoInjection acks output →
    OutputHasNoInjection acks (with_bye_to config x side output)
bye_to_no_injection acks config x side output is had = bye_no_injection acks config.sip (leg_of side x).dialogue output (leg_no_injection side x is) had

acked_remaining_no_injection : (acks : List ReceivedAck) (config : CallConfigView) (x : EstablishedLegs) (side : Side) (output : StepOutput) → LegsHaveNoInjection x →
    OutputHasNoInjection acks output → OutputHasNoInjection acks (with_ack_and_bye config x side output)
acked_remaining_no_injection acks config x side output is had = bye_to_no_injection acks config x side (with_ack config.sip (leg_of side x).dialogue output) is
    (acked_no_injection acks config.sip (leg_of side x).dialogue output (leg_no_injection side x is) had)

over_established_no_injection : (acks : List ReceivedAck) (at : ℕ) (x : EstablishedLegs) (c : Call) (output : StepOutput) → CallHasNoInjection acks c → OutputHasNoInjection acks output →
    StepHasNoInjection acks (established_call_end at x c output)
over_established_no_injection acks at x c output k had = over_no_injection acks at causes.Ended x.caller.meter x.callee.meter c output k had

staged_no_injection : (acks : List ReceivedAck) (x : EstablishedLegs) (stage : Stage) (c : Call) (output : StepOutput) → LegsHaveNoInjection x → StageHasNoInjection acks stage →
    CallHasNoInjection acks c → OutputHasNoInjection acks output → StepHasNoInjection acks (step_result (at_stage x stage c) output)
staged_no_injection acks x stage c output is e k had = onward_no_injection acks (at_stage x stage c) output k (record { legs_in = is; stage_in = e }) had

-- ---- the ACK of a 2xx

with_ack_no_injection : (acks : List ReceivedAck) (branch text : List ℕ) → IsTextOfAck acks text → (t : AnsweredInvite) → AnsweredHasNoInjection acks t → AnsweredHasNoInjection acks (with_kept_ack branch text t)
with_ack_no_injection acks branch text e t is = by (bytes_eq t.invite.branch branch)
  where
    by : (b : Bool) → AnsweredHasNoInjection acks (if b then record t { invite = record t.invite { ack = Some text } } else t)
    by true = record { dialogue_in = is.dialogue_in; branch_in = is.branch_in; ack_in = e; forks_in = is.forks_in; early_in = is.early_in }
    by false = is

-- the ACK is relayed with the header fields that are copied to the other side
passes_across : (acks : List ReceivedAck) (config : CallConfigView) (c : Call) (x : EstablishedLegs) (side : Side) (m : MessageView) (branch : List ℕ) → IsIn (received_across config c x side m) acks →
    IsPassedTo acks (leg_of (other_side side) x).dialogue (relayed_parts config.sip branch (copied_across config c x side m) m.parsed)
unfolding copied_lines
passes_across acks config c x side m branch among =
    inr (record { received = received_across config c x side m; among = among; dialog = refl; history = history_for c.diversions m; is = refl })

acked_across_no_injection : (acks : List ReceivedAck) (config : CallConfigView) (x : EstablishedLegs) (side : Side) (success : Success) (m : MessageView) (c : Call) (output : StepOutput) →
    IsIn (received_across config c x side m) acks → ParsedMessageHasNoInjection m.parsed → LegsHaveNoInjection x → CallHasNoInjection acks c → OutputHasNoInjection acks output →
    StepHasNoInjection acks (after_ack_across config x side success m c output)
acked_across_no_injection acks config x side success m c output among received is k had =
    let d : Dialogue = (leg_of (other_side side) x).dialogue in
    let shown : LinesHaveNoInjection (copied_across config c x side m) = copied_across_no_injection acks config c x side m k received in
    let passes = passes_across acks config c x side m (token output) among in
    let text : IsTextOfAck acks (relayed_ack_text config.sip d (token output) (copied_across config c x side m) m.parsed) =
    relayed_ack_no_injection acks config.sip d (token output) (copied_across config c x side m) m.parsed passes (leg_no_injection (other_side side) x is) (token_no_injection acks output had) shown in
    record {
      kept = record {
        opening_in = k.opening_in;
        history_in = k.history_in;
        abandoned_in = k.abandoned_in;
        answered_in = each_map (AnsweredHasNoInjection acks) (AnsweredHasNoInjection acks) (with_kept_ack success.branch (relayed_ack_text config.sip d (token output) (copied_across config c x side m) m.parsed))
            (with_ack_no_injection acks success.branch (relayed_ack_text config.sip d (token output) (copied_across config c x side m) m.parsed) text) c.answered_invites k.answered_in;
        in_flight_in = k.in_flight_in;
      };
      phase = record { legs_in = is; stage_in = tt };
      output = acked_for_no_injection acks config.sip d (copied_across config c x side m) m.parsed output passes (leg_no_injection (other_side side) x is) shown had;
    }

parted_no_injection : (acks : List ReceivedAck) (config : CallConfigView) (at : ℕ) (x : EstablishedLegs) (side : Side) (c : Call) (output : StepOutput) → LegsHaveNoInjection x →
    CallHasNoInjection acks c → OutputHasNoInjection acks output → StepHasNoInjection acks (after_departure config at x side c output)
parted_no_injection acks config at x side c output is k had = over_established_no_injection acks at x c (with_bye_to config x side output) k (bye_to_no_injection acks config x side output is had)

unacknowledged_no_injection : (acks : List ReceivedAck) (config : CallConfigView) (at : ℕ) (x : EstablishedLegs) (side : Side) (c : Call) (output : StepOutput) → LegsHaveNoInjection x →
    CallHasNoInjection acks c → OutputHasNoInjection acks output → StepHasNoInjection acks (after_ack_timeout config at x side c output)
unacknowledged_no_injection acks config at x side c output is k had =
    over_established_no_injection acks at x c (with_bye_to config x side (with_ack_and_bye config x (other_side side) output)) k
    (bye_to_no_injection acks config x side (with_ack_and_bye config x (other_side side) output) is (acked_remaining_no_injection acks config x (other_side side) output is had))

-- ---- BYE

bye_before_no_injection : (acks : List ReceivedAck) (config : CallConfigView) (at : ℕ) (x : EstablishedLegs) (waiting : Side) (success : Success) (side : Side) (c : Call) (output : StepOutput) →
    LegsHaveNoInjection x → CallHasNoInjection acks c → OutputHasNoInjection acks output → StepHasNoInjection acks (after_bye_before_ack config at x waiting success side c output)
bye_before_no_injection acks config at x waiting success side c output is k had =
    if_step acks (is_same_side waiting side) (established_call_end at x c (with_ack_and_bye config x (other_side side) output)) (step_result (at_stage x (Departing waiting success) c) output)
    (over_established_no_injection acks at x c (with_ack_and_bye config x (other_side side) output) k (acked_remaining_no_injection acks config x (other_side side) output is had))
    (staged_no_injection acks x (Departing waiting success) c output is tt k had)

bye_across_no_injection : (acks : List ReceivedAck) (config : CallConfigView) (at : ℕ) (x : EstablishedLegs) (side : Side) (m : MessageView) (c : Call) (output : StepOutput) →
    ParsedMessageHasNoInjection m.parsed → LegsHaveNoInjection x → CallHasNoInjection acks c → OutputHasNoInjection acks output → StepHasNoInjection acks (after_bye_across config at x side m c output)
bye_across_no_injection acks config at x side m c output received is k had =
    let d : Dialogue = (leg_of (other_side side) x).dialogue in
    over_established_no_injection acks at x c (with_relayed_request config.sip (codes "BYE") d (copied_across config c x side m) m.parsed output) k
    (asked_for_no_injection acks config.sip (codes "BYE") d (copied_across config c x side m) m.parsed output (leg_no_injection (other_side side) x is) refl
    (copied_across_no_injection acks config c x side m k received) had)

-- ---- an INVITE is relayed

asked_across_no_injection : (acks : List ReceivedAck) (config : CallConfigView) (x : EstablishedLegs) (side : Side) (key : TKey) (m : MessageView) (c : Call) (output : StepOutput) →
    ParsedMessageHasNoInjection m.parsed → LegsHaveNoInjection x → CallHasNoInjection acks c → OutputHasNoInjection acks output →
    StepHasNoInjection acks (after_invite_across config x side key m c output)
asked_across_no_injection acks config x side key m c output received is k had =
    let other : Leg = leg_of (other_side side) x in
    let d : DialogueHasNoInjection other.dialogue = leg_no_injection (other_side side) x is in
    record {
      kept = k;
      phase = record {
        legs_in = with_leg_no_injection (other_side side) (leg_after_invite other) x (leg_here (other_side side) x is) is;
        stage_in = record { request_in = received; sent_in = record { dialogue_in = d; branch_in = token_no_injection acks output had; ack_in = tt; forks_in = tt; early_in = tt } };
      };
      output = asked_for_no_injection acks config.sip (codes "INVITE") other.dialogue (copied_across config c x side m) m.parsed output d refl (copied_across_no_injection acks config c x side m k received) had;
    }

invited_no_injection : (acks : List ReceivedAck) (config : CallConfigView) (x : EstablishedLegs) (side : Side) (key : TKey) (m : MessageView) (c : Call) (output : StepOutput) →
    ParsedMessageHasNoInjection m.parsed → LegsHaveNoInjection x → CallHasNoInjection acks c → OutputHasNoInjection acks output → StepHasNoInjection acks (on_reinvite config x side key m c output)
invited_no_injection acks config x side key m c output received is k had =
    asked_across_no_injection acks config x side key m c (with_status_to config c key m 100 output) received is k (replied_to_no_injection acks config c key m 100 output k received had)

-- ---- and the responses to it are relayed back

relayed_back_no_injection : (acks : List ReceivedAck) (config : CallConfigView) (x : EstablishedLegs) (side : Side) (q : Reinvite) (m : MessageView) (c : Call) (output : StepOutput) →
    ParsedMessageHasNoInjection m.parsed → ReinviteHasNoInjection acks q → CallHasNoInjection acks c → OutputHasNoInjection acks output →
    OutputHasNoInjection acks (with_relayed_back config x side q m c output)
relayed_back_no_injection acks config x side q m c output received e k had =
    let shown = copied_lines config c.opening c.diversions x.service (other_side side) q.request.peer m in
    relayed_no_injection acks config.sip q.key q.request c.opening.tag shown m output e.request_in k.opening_in.tag_in
    (copied_to_no_injection config c.opening c.diversions x.service (other_side side) q.request.peer m k.history_in received) received had

if_invitation : (acks : List ReceivedAck) (b : Bool) (one two : SentInvite) → InvitationHasNoInjection acks one → InvitationHasNoInjection acks two → InvitationHasNoInjection acks (if b then one else two)
if_invitation acks true one two e f = e
if_invitation acks false one two e f = f

proceeding_across_no_injection : (acks : List ReceivedAck) (config : CallConfigView) (x : EstablishedLegs) (side : Side) (q : Reinvite) (key : TKey) (c : Call) (output : StepOutput) →
    LegsHaveNoInjection x → ReinviteHasNoInjection acks q → CallHasNoInjection acks c → OutputHasNoInjection acks output → StepHasNoInjection acks (on_provisional_across config x side q key c output)
proceeding_across_no_injection acks config x side q key c output is e k had =
    staged_no_injection acks x (Reinviting side (reinvite_after_provisional key q)) c (with_cancel_if_due config key q output) is
    (record {
      request_in = e.request_in;
      sent_in = if_invitation acks q.cancel_due (invite_after_cancel (with_provisional key q.invite)) (with_provisional key q.invite) (once_no_injection acks (with_provisional key q.invite) e.sent_in) e.sent_in;
    })
    k (if_output acks q.cancel_due (with_due_cancel config.sip (with_provisional key q.invite) output) output (cancelled_no_injection acks config.sip (with_provisional key q.invite) output e.sent_in had) had)

agreed_no_injection : (acks : List ReceivedAck) (config : CallConfigView) (at : ℕ) (x : EstablishedLegs) (side : Side) (q : Reinvite) (key : TKey) (m : MessageView) (c : Call) (output : StepOutput) →
    ParsedMessageHasNoInjection m.parsed → LegsHaveNoInjection x → ReinviteHasNoInjection acks q → CallHasNoInjection acks c → OutputHasNoInjection acks output →
    StepHasNoInjection acks (on_accepted_reinvite config at x side q key m c output)
agreed_no_injection acks config at x side q key m c output received is e k had = record {
  kept = record {
    opening_in = k.opening_in;
    history_in = k.history_in;
    abandoned_in = k.abandoned_in;
    answered_in = each_append (AnsweredHasNoInjection acks) c.answered_invites (new_answered_invite key m true q.invite ∷ []) k.answered_in (e.sent_in, tt);
    in_flight_in = k.in_flight_in;
  };
  phase = record { legs_in = is; stage_in = tt };
  output =
      let back : StepOutput = with_relayed_back config x side q m c output in
      expiry_no_injection acks config at m c (with_ack_timer at c back) (awaiting_no_injection acks at c back (relayed_back_no_injection acks config x side q m c output received e k had));
}

refused_back_no_injection : (acks : List ReceivedAck) (config : CallConfigView) (x : EstablishedLegs) (side : Side) (q : Reinvite) (key : TKey) (m : MessageView) (c : Call) (output : StepOutput) →
    ParsedMessageHasNoInjection m.parsed → ReinviteHasNoInjection acks q → CallHasNoInjection acks c → OutputHasNoInjection acks output →
    OutputHasNoInjection acks (with_refusal_back config x side q key m c output)
refused_back_no_injection acks config x side q key m c output received e k had =
    relayed_back_no_injection acks config x side q m c (with_final_ack config.sip key q.invite m.parsed output) received e k (final_acked_no_injection acks config.sip key q.invite m.parsed output e.sent_in received had)

bye_both_no_injection : (acks : List ReceivedAck) (config : CallConfigView) (x : EstablishedLegs) (output : StepOutput) → LegsHaveNoInjection x → OutputHasNoInjection acks output →
    OutputHasNoInjection acks (with_byes config x output)
bye_both_no_injection acks config x output is had = bye_to_no_injection acks config x Callee (with_bye_to config x Caller output) is (bye_to_no_injection acks config x Caller output is had)

response_across_no_injection : (acks : List ReceivedAck) (config : CallConfigView) (at : ℕ) (x : EstablishedLegs) (side : Side) (q : Reinvite) (key : TKey) (m : MessageView) (code : ℕ) (c : Call) (output : StepOutput) →
    ParsedMessageHasNoInjection m.parsed → LegsHaveNoInjection x → ReinviteHasNoInjection acks q → CallHasNoInjection acks c → OutputHasNoInjection acks output →
    StepHasNoInjection acks (on_response_across config at x side q key m code c output)
response_across_no_injection acks config at x side q key m code c output received is e k had =
    let back : StepOutput = with_refusal_back config x side q key m c output in
    let sent : OutputHasNoInjection acks back = refused_back_no_injection acks config x side q key m c output received e k had in
    if_step acks (nat_lt code 200) (on_provisional_across config x side q key c output)
    (if nat_lt code 300 then on_accepted_reinvite config at x side q key m c output else if ends_dialog code then established_call_end at x c (with_byes config x back) else step_result (at_stage x Stable c) back)
    (proceeding_across_no_injection acks config x side q key c output is e k had)
    (if_step acks (nat_lt code 300) (on_accepted_reinvite config at x side q key m c output) (if ends_dialog code then established_call_end at x c (with_byes config x back) else step_result (at_stage x Stable c) back)
    (agreed_no_injection acks config at x side q key m c output received is e k had)
    (if_step acks (ends_dialog code) (established_call_end at x c (with_byes config x back)) (step_result (at_stage x Stable c) back)
    (over_established_no_injection acks at x c (with_byes config x back) k (bye_both_no_injection acks config x back is sent))
    (staged_no_injection acks x Stable c back is tt k sent)))

timed_out_no_injection : (acks : List ReceivedAck) (config : CallConfigView) (at : ℕ) (x : EstablishedLegs) (q : Reinvite) (c : Call) (output : StepOutput) → LegsHaveNoInjection x →
    ReinviteHasNoInjection acks q → CallHasNoInjection acks c → OutputHasNoInjection acks output → StepHasNoInjection acks (on_timeout_across config at x q c output)
timed_out_no_injection acks config at x q c output is e k had =
    over_established_no_injection acks at x c (with_byes config x (with_status_to config c q.key q.request 408 output)) k
    (bye_both_no_injection acks config x (with_status_to config c q.key q.request 408 output) is (replied_to_no_injection acks config c q.key q.request 408 output k e.request_in had))

cancelled_across_no_injection : (acks : List ReceivedAck) (config : CallConfigView) (x : EstablishedLegs) (side : Side) (q : Reinvite) (c : Call) (output : StepOutput) → LegsHaveNoInjection x →
    ReinviteHasNoInjection acks q → CallHasNoInjection acks c → OutputHasNoInjection acks output → StepHasNoInjection acks (on_cancel_across config x side q c output)
cancelled_across_no_injection acks config x side q c output is e k had =
    staged_no_injection acks x (Reinviting side (reinvite_after_cancel q)) c (with_due_cancel config.sip q.invite output) is
    (record { request_in = e.request_in; sent_in = once_no_injection acks q.invite e.sent_in }) k (cancelled_no_injection acks config.sip q.invite output e.sent_in had)

ended_dialogs_no_injection : (x : EstablishedLegs) (asking leaving : Side) → LegsHaveNoInjection x → Each DialogueHasNoInjection (ended_dialogs x asking leaving)
ended_dialogs_no_injection x asking leaving is = by (is_same_side asking leaving)
  where
    by : (t : Bool) → Each DialogueHasNoInjection (if t then after_request (leg_of (other_side asking) x).dialogue (codes "BYE") ∷ [] else [])
    by true = (leg_no_injection (other_side asking) x is, tt)
    by false = tt

bye_while_no_injection : (acks : List ReceivedAck) (config : CallConfigView) (at : ℕ) (x : EstablishedLegs) (asking : Side) (q : Reinvite) (leaving : Side) (c : Call) (output : StepOutput) →
    LegsHaveNoInjection x → ReinviteHasNoInjection acks q → CallHasNoInjection acks c → OutputHasNoInjection acks output →
    StepHasNoInjection acks (on_bye_reinviting config at x asking q leaving c output)
bye_while_no_injection acks config at x asking q leaving c output is e k had =
    over_established_no_injection acks at x (with_abandoned (abandoned_across x asking leaving q) c) (with_bye_to config x (other_side leaving) (with_status_to config c q.key q.request 487 output))
    (with_abandoned_kept acks (abandoned_across x asking leaving q) c
    (record { dialogue_in = e.sent_in.dialogue_in; branch_in = e.sent_in.branch_in; ack_in = e.sent_in.ack_in; forks_in = ended_dialogs_no_injection x asking leaving is; early_in = e.sent_in.early_in }) k)
    (bye_to_no_injection acks config x (other_side leaving) (with_status_to config c q.key q.request 487 output) is (replied_to_no_injection acks config c q.key q.request 487 output k e.request_in had))

-- ---- by stage

abbrev pub established : EstablishedLegs → Stage → Call → Call
established x stage c = record c { phase = Established x stage }

same_no_injection : (acks : List ReceivedAck) (x : EstablishedLegs) (stage : Stage) (c : Call) (output : StepOutput) → LegsHaveNoInjection x → StageHasNoInjection acks stage →
    CallHasNoInjection acks c → OutputHasNoInjection acks output → StepHasNoInjection acks (step_result (established x stage c) output)
same_no_injection acks x stage c output is e k had = staged_no_injection acks x stage c output is e k had

invite_transition : (acks : List ReceivedAck) (stage : Stage) (config : CallConfigView) (x : EstablishedLegs) (side : Side) (key : TKey) (m : MessageView) (c : Call) (output : StepOutput) →
    ParsedMessageHasNoInjection m.parsed → LegsHaveNoInjection x → StageHasNoInjection acks stage → CallHasNoInjection acks c → OutputHasNoInjection acks output →
    StepHasNoInjection acks (on_invite stage config x side key m (established x stage c) output)
invite_transition acks (Answered waiting success) config x side key m c output received is e k had = same_no_injection acks x (Answered waiting success) c output is e k had
invite_transition acks (Departing waiting success) config x side key m c output received is e k had = same_no_injection acks x (Departing waiting success) c output is e k had
invite_transition acks Stable config x side key m c output received is e k had = invited_no_injection acks config x side key m (established x Stable c) output received is k had
invite_transition acks (Reinviting asking q) config x side key m c output received is e k had = same_no_injection acks x (Reinviting asking q) c output is e k had

left_transition : (acks : List ReceivedAck) (stage : Stage) (config : CallConfigView) (at : ℕ) (x : EstablishedLegs) (side : Side) (m : MessageView) (c : Call) (output : StepOutput) →
    ParsedMessageHasNoInjection m.parsed → LegsHaveNoInjection x → StageHasNoInjection acks stage → CallHasNoInjection acks c → OutputHasNoInjection acks output →
    StepHasNoInjection acks (after_bye_at stage config at x side m c output)
left_transition acks (Answered waiting success) config at x side m c output received is e k had = bye_before_no_injection acks config at x waiting success side c output is k had
left_transition acks (Departing waiting success) config at x side m c output received is e k had = over_established_no_injection acks at x c output k had
left_transition acks Stable config at x side m c output received is e k had = bye_across_no_injection acks config at x side m c output received is k had
left_transition acks (Reinviting asking q) config at x side m c output received is e k had = bye_while_no_injection acks config at x asking q side c output is e k had

bye_transition : (acks : List ReceivedAck) (stage : Stage) (config : CallConfigView) (at : ℕ) (x : EstablishedLegs) (side : Side) (key : TKey) (m : MessageView) (c : Call) (output : StepOutput) →
    ParsedMessageHasNoInjection m.parsed → LegsHaveNoInjection x → StageHasNoInjection acks stage → CallHasNoInjection acks c → OutputHasNoInjection acks output →
    StepHasNoInjection acks (on_bye stage config at x side key m (established x stage c) output)
bye_transition acks stage config at x side key m c output received is e k had =
    if_step acks (has_departed stage side) (step_result (established x stage c) (with_status_to config (established x stage c) key m 481 output))
    (after_bye_at stage config at x side m (established x stage c) (with_status_to config (established x stage c) key m 200 output))
    (same_no_injection acks x stage c (with_status_to config (established x stage c) key m 481 output) is e k (replied_to_no_injection acks config (established x stage c) key m 481 output k received had))
    (left_transition acks stage config at x side m (established x stage c) (with_status_to config (established x stage c) key m 200 output) received is e k
    (replied_to_no_injection acks config (established x stage c) key m 200 output k received had))

update_transition : (acks : List ReceivedAck) (stage : Stage) (config : CallConfigView) (x : EstablishedLegs) (side : Side) (key : TKey) (m : MessageView) (c : Call) (output : StepOutput) →
    ParsedMessageHasNoInjection m.parsed → LegsHaveNoInjection x → StageHasNoInjection acks stage → CallHasNoInjection acks c → OutputHasNoInjection acks output →
    StepHasNoInjection acks (on_update_at stage config x side key m (established x stage c) output)
update_transition acks (Answered waiting success) config x side key m c output received is e k had =
    crossing_transition acks config key m (established x (Answered waiting success) c) output received k (record { legs_in = is; stage_in = e }) had
update_transition acks (Departing waiting success) config x side key m c output received is e k had =
    crossing_transition acks config key m (established x (Departing waiting success) c) output received k (record { legs_in = is; stage_in = e }) had
update_transition acks Stable config x side key m c output received is e k had =
    let other : Leg = leg_of (other_side side) x in
    let y : EstablishedLegs = with_leg (other_side side) (leg_after_request (codes "UPDATE") other) x in
    unless_transition acks (updating_side c.relayed) (on_stable_update config x side key m) config side key m (established x Stable c) output received k (record { legs_in = is; stage_in = tt }) had
    (asked_on_no_injection acks config x.service side other key m (established y Stable c) output received (leg_no_injection (other_side side) x is) k
    (record { legs_in = with_leg_no_injection (other_side side) (leg_after_request (codes "UPDATE") other) x (leg_here (other_side side) x is) is; stage_in = tt }) had)
update_transition acks (Reinviting asking q) config x side key m c output received is e k had =
    crossing_transition acks config key m (established x (Reinviting asking q) c) output received k (record { legs_in = is; stage_in = e }) had

received_at_transition : (acks : List ReceivedAck) (stage : Stage) (config : CallConfigView) (at : ℕ) (x : EstablishedLegs) (side : Side) (key : TKey) (m : MessageView) (c : Call) (output : StepOutput) →
    ParsedMessageHasNoInjection m.parsed → LegsHaveNoInjection x → StageHasNoInjection acks stage → CallHasNoInjection acks c → OutputHasNoInjection acks output →
    StepHasNoInjection acks (on_valid_request_at stage config at x side key m (established x stage c) output)
received_at_transition acks stage config at x side key m c output received is e k had =
    let now : Call = established x stage c in
    let rest : StepResult = if is_prack m then on_refused_prack config key m now output else step_result now (with_unlisted_response config now key m output) in
    if_step acks (is_invite m) (on_invite stage config x side key m now output)
    (if is_bye m then on_bye stage config at x side key m now output else if is_update m then on_update_at stage config x side key m now output else rest)
    (invite_transition acks stage config x side key m c output received is e k had)
    (if_step acks (is_bye m) (on_bye stage config at x side key m now output) (if is_update m then on_update_at stage config x side key m now output else rest)
    (bye_transition acks stage config at x side key m c output received is e k had)
    (if_step acks (is_update m) (on_update_at stage config x side key m now output) rest
    (update_transition acks stage config x side key m c output received is e k had)
    (if_step acks (is_prack m) (on_refused_prack config key m now output) (step_result now (with_unlisted_response config now key m output))
    (prack_refused_no_injection acks config key m now output received k (record { legs_in = is; stage_in = e }) had)
    (same_no_injection acks x stage c (with_unlisted_response config now key m output) is e k (unlisted_no_injection acks config now key m output k received had)))))

request_if_transition : (acks : List ReceivedAck) (r : Result (Unit {0}) DialogueFault) (stage : Stage) (config : CallConfigView) (at : ℕ) (x : EstablishedLegs) (side : Side) (key : TKey)
    (m : MessageView) (c : Call) (output : StepOutput) →
    ParsedMessageHasNoInjection m.parsed → LegsHaveNoInjection x → StageHasNoInjection acks stage → CallHasNoInjection acks c → OutputHasNoInjection acks output →
    StepHasNoInjection acks (on_request_at_if r stage config at x side key m (established x stage c) output)
request_if_transition acks (Ok has_received_it) stage config at x side key m c output received is e k had =
    let y : EstablishedLegs = with_leg side (leg_after_receiving (leg_of side x) m) x in
    received_at_transition acks stage config at y side key m c output received (with_leg_no_injection side (leg_after_receiving (leg_of side x) m) x (leg_here side x is) is) e k had
request_if_transition acks (Err fault) stage config at x side key m c output received is e k had = same_no_injection acks x stage c
    (with_refused_request config (established x stage c) key m fault output) is e k (refused_request_no_injection acks config (established x stage c) key m fault output k received had)

pub request_transition : (acks : List ReceivedAck) (stage : Stage) (config : CallConfigView) (at : ℕ) (x : EstablishedLegs) (side : Side) (key : TKey) (m : MessageView) (c : Call) (output : StepOutput) →
    ParsedMessageHasNoInjection m.parsed → LegsHaveNoInjection x → StageHasNoInjection acks stage → CallHasNoInjection acks c → OutputHasNoInjection acks output →
    StepHasNoInjection acks (on_request_at stage config at x side key m (established x stage c) output)
request_transition acks stage config at x side key m c output received is e k had =
    request_if_transition acks (request_check (leg_of side x) m (busy_in stage side)) stage config at x side key m c output received is e k had

pub ack_transition : (acks : List ReceivedAck) (stage : Stage) (config : CallConfigView) (at : ℕ) (x : EstablishedLegs) (side : Side) (m : MessageView) (c : Call) (output : StepOutput) →
    AreAmong (received_acks_in config (Established x stage) c side m) acks → ParsedMessageHasNoInjection m.parsed → LegsHaveNoInjection x → StageHasNoInjection acks stage → CallHasNoInjection acks c →
    OutputHasNoInjection acks output → StepHasNoInjection acks (on_ack_at stage config at x side m (established x stage c) output)
ack_transition acks (Answered waiting success) config at x side m c output among received is e k had =
    if_step acks (acknowledges waiting success side m) (after_ack_across config x side success m (established x (Answered waiting success) c) output) (step_result (established x (Answered waiting success) c) output)
    (acked_across_no_injection acks config x side success m (established x (Answered waiting success) c) output among.0 received is k had) (same_no_injection acks x (Answered waiting success) c output is e k had)
ack_transition acks (Departing waiting success) config at x side m c output among received is e k had =
    if_step acks (acknowledges waiting success side m) (after_departure config at x side (established x (Departing waiting success) c) output) (step_result (established x (Departing waiting success) c) output)
    (parted_no_injection acks config at x side (established x (Departing waiting success) c) output is k had) (same_no_injection acks x (Departing waiting success) c output is e k had)
ack_transition acks Stable config at x side m c output among received is e k had = same_no_injection acks x Stable c output is e k had
ack_transition acks (Reinviting asking q) config at x side m c output among received is e k had = same_no_injection acks x (Reinviting asking q) c output is e k had

pub cancel_transition : (acks : List ReceivedAck) (stage : Stage) (config : CallConfigView) (x : EstablishedLegs) (invite : TKey) (c : Call) (output : StepOutput) → LegsHaveNoInjection x →
    StageHasNoInjection acks stage → CallHasNoInjection acks c → OutputHasNoInjection acks output → StepHasNoInjection acks (on_cancel_at stage config x invite (established x stage c) output)
cancel_transition acks (Answered waiting success) config x invite c output is e k had = same_no_injection acks x (Answered waiting success) c output is e k had
cancel_transition acks (Departing waiting success) config x invite c output is e k had = same_no_injection acks x (Departing waiting success) c output is e k had
cancel_transition acks Stable config x invite c output is e k had = same_no_injection acks x Stable c output is e k had
cancel_transition acks (Reinviting asking q) config x invite c output is e k had =
    if_step acks (invite.0 == q.key.0) (on_cancel_across config x asking q (established x (Reinviting asking q) c) output) (step_result (established x (Reinviting asking q) c) output)
    (cancelled_across_no_injection acks config x asking q (established x (Reinviting asking q) c) output is e k had) (same_no_injection acks x (Reinviting asking q) c output is e k had)

pub response_transition : (acks : List ReceivedAck) (stage : Stage) (config : CallConfigView) (at : ℕ) (x : EstablishedLegs) (key : TKey) (m : MessageView) (c : Call) (output : StepOutput) →
    ParsedMessageHasNoInjection m.parsed → LegsHaveNoInjection x → StageHasNoInjection acks stage → CallHasNoInjection acks c → OutputHasNoInjection acks output →
    StepHasNoInjection acks (on_response_at stage config at x key m (established x stage c) output)
response_transition acks (Answered waiting success) config at x key m c output received is e k had = same_no_injection acks x (Answered waiting success) c output is e k had
response_transition acks (Departing waiting success) config at x key m c output received is e k had = same_no_injection acks x (Departing waiting success) c output is e k had
response_transition acks Stable config at x key m c output received is e k had = same_no_injection acks x Stable c output is e k had
response_transition acks (Reinviting asking q) config at x key m c output received is e k had =
    response_across_no_injection acks config at x asking q key m (status_of m.parsed.start) (established x (Reinviting asking q) c) output received is e k had

pub timeout_transition : (acks : List ReceivedAck) (stage : Stage) (config : CallConfigView) (at : ℕ) (x : EstablishedLegs) (c : Call) (output : StepOutput) → LegsHaveNoInjection x →
    StageHasNoInjection acks stage → CallHasNoInjection acks c → OutputHasNoInjection acks output → StepHasNoInjection acks (on_timeout_at stage config at x (established x stage c) output)
timeout_transition acks (Answered waiting success) config at x c output is e k had = same_no_injection acks x (Answered waiting success) c output is e k had
timeout_transition acks (Departing waiting success) config at x c output is e k had = same_no_injection acks x (Departing waiting success) c output is e k had
timeout_transition acks Stable config at x c output is e k had = same_no_injection acks x Stable c output is e k had
timeout_transition acks (Reinviting asking q) config at x c output is e k had = timed_out_no_injection acks config at x q (established x (Reinviting asking q) c) output is e k had

rung_transition : (acks : List ReceivedAck) (stage : Stage) (config : CallConfigView) (at : ℕ) (x : EstablishedLegs) (c : Call) (output : StepOutput) → LegsHaveNoInjection x →
    StageHasNoInjection acks stage → CallHasNoInjection acks c → OutputHasNoInjection acks output → StepHasNoInjection acks (after_timer_at stage config at x (established x stage c) output)
rung_transition acks (Answered waiting success) config at x c output is e k had = unacknowledged_no_injection acks config at x waiting (established x (Answered waiting success) c) output is k had
rung_transition acks (Departing waiting success) config at x c output is e k had = parted_no_injection acks config at x waiting (established x (Departing waiting success) c) output is k had
rung_transition acks Stable config at x c output is e k had = over_established_no_injection acks at x (established x Stable c) (with_byes config x output) k (bye_both_no_injection acks config x output is had)
rung_transition acks (Reinviting asking q) config at x c output is e k had =
    let now : Call = established x (Reinviting asking q) c in
    over_established_no_injection acks at x (with_abandoned (abandoned_across x asking asking q) now) (with_byes config x (with_status_to config now q.key q.request 487 output))
    (with_abandoned_kept acks (abandoned_across x asking asking q) now
    (record { dialogue_in = e.sent_in.dialogue_in; branch_in = e.sent_in.branch_in; ack_in = e.sent_in.ack_in; forks_in = ended_dialogs_no_injection x asking asking is; early_in = e.sent_in.early_in }) k)
    (bye_both_no_injection acks config x (with_status_to config now q.key q.request 487 output) is (replied_to_no_injection acks config now q.key q.request 487 output k e.request_in had))

pub due_transition : (acks : List ReceivedAck) (stage : Stage) (config : CallConfigView) (at : ℕ) (x : EstablishedLegs) (what : DueWord) (c : Call) (output : StepOutput) → LegsHaveNoInjection x →
    StageHasNoInjection acks stage → CallHasNoInjection acks c → OutputHasNoInjection acks output → StepHasNoInjection acks (on_due_at stage config at x what (established x stage c) output)
due_transition acks stage config at x what c output is e k had =
    if_step acks (is_due_at stage c.successes what) (after_timer_at stage config at x (established x stage c) output) (step_result (established x stage c) output)
    (rung_transition acks stage config at x c output is e k had) (same_no_injection acks x stage c output is e k had)
