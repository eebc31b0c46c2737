-- INVITEs for which a call does not wait remain clean, and what is sent for them is clean.
use Rattle.std.proofs.Common.{◌==◌, ◌||◌, Bool, true, false, not, ℕ, List, [], ◌∷◌, Option, Some, None, length, nat_lt}
use Rattle.std.specs.Prelude.{IfSome, codes, if◌then◌else◌, option_to_list, position, slice_get}
use Rattle.std.specs.Str.{bytes_eq}
use Rattle.mmtel_compose.specs.Attempts.{as_callee}
use Rattle.mmtel_compose.specs.ReceivedMessages.{MessageView, status_of}
use Rattle.mmtel_output.specs.SentInvites.{early_remote, with_key, with_provisional}
use Rattle.mmtel_output.specs.AbandonedInvites.{AfterResponse, after_ack_and_bye, after_due_cancel, after_provisional, dialogue_before, dialogue_of_success}
use Rattle.mmtel_output.specs.AbandonedInvites.{ended_dialog, fork_at, is_dialog_of_tag, is_of_branch, on_response, on_success, on_success_in, with_invite}
use Rattle.mmtel_output.specs.Sending.{with_ack, with_cancel, with_final_ack}
use Rattle.mmtel_output.specs.declared.outputs.StepOutput.{StepOutput}
use Rattle.mmtel_output.specs.declared.sent_invites.AbandonedInvite.{AbandonedInvite}
use Rattle.mmtel_leg.specs.Dialogues.{after_request, with_remote}
use Rattle.mmtel_leg.specs.Remotes.{remote_of}
use Rattle.mmtel_leg.specs.declared.dialogues.Dialogue.{Dialogue}
use Rattle.mmtel_leg.specs.declared.remotes.Remote.{Remote}
use Rattle.mmtel_transaction.specs.declared.words.Emit.TheVariants as emit
use Rattle.mmtel_transaction.specs.declared.words.TKey.{TKey}
use Rattle.mmtel_trust.specs.ParsedMessage.{ParsedMessage}
use Rattle.mmtel_types.specs.declared.addrs.Addr.{Addr}
use Rattle.mmtel_types.specs.declared.sides.Side.TheVariants.{Callee}
use Rattle.mmtel_call_services.specs.CallConfig.{CallConfigView}
use Rattle.mmtel_call.specs.declared.calls.Call.{Call}
use Rattle.mmtel_call.specs.declared.calls.AnsweredInvite.{AnsweredInvite}
use Rattle.mmtel_call.specs.Closing.{step_result}
use Rattle.mmtel_call.specs.RelayedTransactions.{is_in_flight}
use Rattle.mmtel_call.specs.OtherRequests.{answered_after, as_abandoned, is_abandoned_key, is_answered_invite, is_answered_key, is_fork, is_stable, is_success, on_forked_response}
use Rattle.mmtel_call.specs.OtherRequests.{on_other_response, on_other_response_at, on_other_timeout, on_other_timeout_at, on_response_abandoned, on_response_answered}
use Rattle.mmtel_call.specs.OtherRequests.{on_response_answered_at, on_retransmitted_success, with_abandoned_rest, with_retransmitted_ack, without, without_at, without_key}
use Rattle.mmtel_call_theorems.specs.NoInjection.Acks.{ReceivedAck}
use Rattle.mmtel_call_theorems.specs.NoInjection.Emits.{Each, IsTextOfAck, OutputHasNoInjection}
use Rattle.mmtel_call_theorems.specs.NoInjection.CallState.{DialogueHasNoInjection}
use Rattle.mmtel_call_theorems.proofs.NoInjection.RelayedRequests.{in_flight_transition, timed_out_in_flight_transition}
use Rattle.mmtel_call_theorems.proofs.NoInjection.Diversions.{called_no_injection}
use Rattle.mmtel_call_theorems.proofs.NoInjection.ReceivedMessages.{ParsedMessageHasNoInjection}
use Rattle.mmtel_call_theorems.proofs.NoInjection.CallState.{AbandonedHasNoInjection, AnsweredHasNoInjection, CallHasNoInjection, PhaseHasNoInjection, StepHasNoInjection, early_no_injection, if_step, onward_no_injection}
use Rattle.mmtel_call_theorems.proofs.NoInjection.Sending.{RemoteHasNoInjection, acked_no_injection, bye_no_injection, cancel_no_injection, each_append, each_get, each_option}
use Rattle.mmtel_call_theorems.proofs.NoInjection.Sending.{each_without, emit_no_injection, final_acked_no_injection, if_output, met_no_injection, remote_no_injection}

-- ---- positions in a list

without_no_injection : {A : Type 0} (P : A → Type 0) (o : Option ℕ) (items : List A) → Each P items → Each P (without o items)
without_no_injection P None items e = e
without_no_injection P (Some at) items e = each_without P at items e

-- ---- an abandoned INVITE

pub record RestHasNoInjection (acks : List ReceivedAck) (rest : AfterResponse) : Type 0 where
  pub remaining_in : IfSome rest.remaining (AbandonedHasNoInjection acks)
  pub output_in : OutputHasNoInjection acks rest.output

if_rest : (acks : List ReceivedAck) (b : Bool) (one two : AfterResponse) → RestHasNoInjection acks one → RestHasNoInjection acks two → RestHasNoInjection acks (if b then one else two)
if_rest acks true one two e f = e
if_rest acks false one two e f = f

late_no_injection : (acks : List ReceivedAck) (sip : Addr) (l : AbandonedInvite) (output : StepOutput) → AbandonedHasNoInjection acks l → OutputHasNoInjection acks output →
    RestHasNoInjection acks (after_due_cancel sip l output)
late_no_injection acks sip l output is had =
    if_rest acks l.invite.cancelled (record { remaining = Some l; output = output }) (record { remaining = Some (with_invite l (record l.invite { cancelled = true })); output = with_cancel sip l.invite output })
    (record { remaining_in = is; output_in = had }) (record { remaining_in = is; output_in = cancel_no_injection acks sip l.invite output is had })

begun_no_injection : (early : Option Remote) (asked : ℕ) (tag : List ℕ) (d : Dialogue) → IfSome early RemoteHasNoInjection → DialogueHasNoInjection d → DialogueHasNoInjection (dialogue_before early asked tag d)
begun_no_injection None asked tag d e is = is
begun_no_injection (Some said) asked tag d e is = by (bytes_eq said.tag tag)
  where
    by : (b : Bool) → DialogueHasNoInjection (if b then with_remote (record d { local_cseq = asked }) said else d)
    by true = met_no_injection (record d { local_cseq = asked }) said is e
    by false = is

made_no_injection : (within : Bool) (early : Option Remote) (asked : ℕ) (d : Dialogue) (remote : Remote) → IfSome early RemoteHasNoInjection → DialogueHasNoInjection d → RemoteHasNoInjection remote →
    DialogueHasNoInjection (dialogue_of_success within early asked d remote)
made_no_injection true early asked d remote e is had = is
made_no_injection false early asked d remote e is had =
    met_no_injection (dialogue_before early asked remote.tag (as_callee d)) remote (begun_no_injection early asked remote.tag (as_callee d) e (called_no_injection d is)) had

fork_no_injection : (forks : List Dialogue) (o : Option ℕ) → Each DialogueHasNoInjection forks → IfSome (fork_at forks o) DialogueHasNoInjection
fork_no_injection forks None e = tt
fork_no_injection forks (Some at) e = each_get DialogueHasNoInjection forks at e

ended_no_injection : (acks : List ReceivedAck) (sip : Addr) (l : AbandonedInvite) (d : Dialogue) (output : StepOutput) → AbandonedHasNoInjection acks l → DialogueHasNoInjection d →
    OutputHasNoInjection acks output → RestHasNoInjection acks (after_ack_and_bye sip l d output)
ended_no_injection acks sip l d output is e had = record {
  remaining_in = record {
    dialogue_in = is.dialogue_in;
    branch_in = is.branch_in;
    ack_in = is.ack_in;
    forks_in = each_append DialogueHasNoInjection l.invite.forks (after_request d (codes "BYE") ∷ []) is.forks_in (e, tt);
    early_in = is.early_in;
  };
  output_in = bye_no_injection acks sip d (with_ack sip d output) e (acked_no_injection acks sip d output e had);
}

success_in_no_injection : (acks : List ReceivedAck) (sip : Addr) (l : AbandonedInvite) (remote : Remote) (o : Option Dialogue) (output : StepOutput) → AbandonedHasNoInjection acks l →
    RemoteHasNoInjection remote → IfSome o DialogueHasNoInjection → OutputHasNoInjection acks output → RestHasNoInjection acks (on_success_in sip l remote o output)
success_in_no_injection acks sip l remote (Some d) output is had_remote e had = record { remaining_in = is; output_in = acked_no_injection acks sip d output e had }
success_in_no_injection acks sip l remote None output is had_remote e had =
    let i = l.invite in
    let d : Dialogue = dialogue_of_success l.in_dialog i.early i.early_cseq i.dialogue remote in
    ended_no_injection acks sip l d output is (made_no_injection l.in_dialog i.early i.early_cseq i.dialogue remote is.early_in is.dialogue_in had_remote) had

success_no_injection : (acks : List ReceivedAck) (sip : Addr) (l : AbandonedInvite) (remote : Remote) (output : StepOutput) → AbandonedHasNoInjection acks l → RemoteHasNoInjection remote →
    OutputHasNoInjection acks output → RestHasNoInjection acks (on_success sip l remote output)
success_no_injection acks sip l remote output is had_remote had =
    success_in_no_injection acks sip l remote (ended_dialog l remote.tag) output is had_remote (fork_no_injection l.invite.forks (position (is_dialog_of_tag l.in_dialog remote.tag) l.invite.forks) is.forks_in) had

provisional_no_injection : (b : Bool) (remote : Remote) → RemoteHasNoInjection remote → IfSome (if b then None else Some remote) RemoteHasNoInjection
provisional_no_injection true remote e = tt
provisional_no_injection false remote e = e

pub late_response_no_injection : (acks : List ReceivedAck) (sip : Addr) (key : TKey) (m : ParsedMessage) (l : AbandonedInvite) (output : StepOutput) → ParsedMessageHasNoInjection m →
    AbandonedHasNoInjection acks l → OutputHasNoInjection acks output → RestHasNoInjection acks (on_response sip key m l output)
late_response_no_injection acks sip key m l output received is had =
    let said = after_provisional key m l in
    let told : IfSome (early_remote (status_of m.start) (remote_of Callee m.lines)) RemoteHasNoInjection =
    provisional_no_injection (nat_lt (status_of m.start) 101 || length (remote_of Callee m.lines).tag == 0) (remote_of Callee m.lines) (remote_no_injection Callee m.lines received.lines_in) in
    let known = with_invite l (with_key key l.invite) in
    if_rest acks (nat_lt (status_of m.start) 200) (after_due_cancel sip said output)
    (if nat_lt (status_of m.start) 300 then on_success sip known (remote_of Callee m.lines) output else record { remaining = None; output = with_final_ack sip key l.invite m output })
    (late_no_injection acks sip said output (early_no_injection acks (early_remote (status_of m.start) (remote_of Callee m.lines)) (with_provisional key l.invite) told is) had)
    (if_rest acks (nat_lt (status_of m.start) 300) (on_success sip known (remote_of Callee m.lines) output) (record { remaining = None; output = with_final_ack sip key l.invite m output })
    (success_no_injection acks sip known (remote_of Callee m.lines) output is (remote_no_injection Callee m.lines received.lines_in) had)
    (record { remaining_in = tt; output_in = final_acked_no_injection acks sip key l.invite m output is received had }))

-- ---- in the call

rest_transition : (acks : List ReceivedAck) (at : ℕ) (rest : AfterResponse) (c : Call) → CallHasNoInjection acks c → PhaseHasNoInjection acks c.phase → RestHasNoInjection acks rest →
    StepHasNoInjection acks (with_abandoned_rest at rest c)
rest_transition acks at rest c k p is = record {
  kept = record {
    opening_in = k.opening_in;
    history_in = k.history_in;
    abandoned_in = each_append (AbandonedHasNoInjection acks) (without_at at c.abandoned) (option_to_list rest.remaining) (each_without (AbandonedHasNoInjection acks) at c.abandoned k.abandoned_in)
        (each_option (AbandonedHasNoInjection acks) rest.remaining is.remaining_in);
    answered_in = k.answered_in;
    in_flight_in = k.in_flight_in;
  };
  phase = p;
  output = is.output_in;
}

abandoned_transition : (acks : List ReceivedAck) (config : CallConfigView) (key : TKey) (m : MessageView) (at : ℕ) (o : Option AbandonedInvite) (c : Call) (output : StepOutput) →
    ParsedMessageHasNoInjection m.parsed → IfSome o (AbandonedHasNoInjection acks) → CallHasNoInjection acks c → PhaseHasNoInjection acks c.phase → OutputHasNoInjection acks output →
    StepHasNoInjection acks (on_response_abandoned config key m at o c output)
abandoned_transition acks config key m at None c output received e k p had = onward_no_injection acks c output k p had
abandoned_transition acks config key m at (Some l) c output received e k p had =
    rest_transition acks at (on_response config.sip key m.parsed l output) c k p (late_response_no_injection acks config.sip key m.parsed l output received e had)

again_no_injection : (acks : List ReceivedAck) (t : AnsweredInvite) (o : Option AbandonedInvite) → IfSome o (AbandonedHasNoInjection acks) → IfSome (answered_after t o) (AnsweredHasNoInjection acks)
again_no_injection acks t None e = tt
again_no_injection acks t (Some l) e = e

forked_transition : (acks : List ReceivedAck) (config : CallConfigView) (key : TKey) (m : MessageView) (at : ℕ) (t : AnsweredInvite) (c : Call) (output : StepOutput) →
    ParsedMessageHasNoInjection m.parsed → AnsweredHasNoInjection acks t → CallHasNoInjection acks c → PhaseHasNoInjection acks c.phase → OutputHasNoInjection acks output →
    StepHasNoInjection acks (on_forked_response config key m at t c output)
forked_transition acks config key m at t c output received e k p had =
    let rest = on_response config.sip key m.parsed (as_abandoned t) output in
    let is : RestHasNoInjection acks rest = late_response_no_injection acks config.sip key m.parsed (as_abandoned t) output received e had in
    record {
      kept = record {
        opening_in = k.opening_in;
        history_in = k.history_in;
        abandoned_in = k.abandoned_in;
        answered_in = each_append (AnsweredHasNoInjection acks) (without_at at c.answered_invites) (option_to_list (answered_after t rest.remaining))
            (each_without (AnsweredHasNoInjection acks) at c.answered_invites k.answered_in)
            (each_option (AnsweredHasNoInjection acks) (answered_after t rest.remaining) (again_no_injection acks t rest.remaining is.remaining_in));
        in_flight_in = k.in_flight_in;
      };
      phase = p;
      output = is.output_in;
    }

acked_again_no_injection : (acks : List ReceivedAck) (t : AnsweredInvite) (o : Option (List ℕ)) (output : StepOutput) → IfSome o (IsTextOfAck acks) → OutputHasNoInjection acks output →
    OutputHasNoInjection acks (with_retransmitted_ack t o output)
acked_again_no_injection acks t None output e had = had
acked_again_no_injection acks t (Some text) output e had = emit_no_injection acks (emit.Plain t.invite.dialogue.peer text) output e had

repeated_transition : (acks : List ReceivedAck) (t : AnsweredInvite) (c : Call) (output : StepOutput) → AnsweredHasNoInjection acks t → CallHasNoInjection acks c → PhaseHasNoInjection acks c.phase →
    OutputHasNoInjection acks output → StepHasNoInjection acks (on_retransmitted_success t c output)
repeated_transition acks t c output e k p had =
    onward_no_injection acks c (if is_stable c.phase then with_retransmitted_ack t t.invite.ack output else output) k p
    (if_output acks (is_stable c.phase) (with_retransmitted_ack t t.invite.ack output) output (acked_again_no_injection acks t t.invite.ack output e.ack_in had) had)

answered_transition : (acks : List ReceivedAck) (config : CallConfigView) (key : TKey) (m : MessageView) (at : ℕ) (o : Option AnsweredInvite) (c : Call) (output : StepOutput) →
    ParsedMessageHasNoInjection m.parsed → IfSome o (AnsweredHasNoInjection acks) → CallHasNoInjection acks c → PhaseHasNoInjection acks c.phase → OutputHasNoInjection acks output →
    StepHasNoInjection acks (on_response_answered config key m at o c output)
answered_transition acks config key m at None c output received e k p had = onward_no_injection acks c output k p had
answered_transition acks config key m at (Some t) c output received e k p had =
    if_step acks (not (is_success (status_of m.parsed.start))) (step_result c output) (if is_fork t m then on_forked_response config key m at t c output else on_retransmitted_success t c output)
    (onward_no_injection acks c output k p had)
    (if_step acks (is_fork t m) (on_forked_response config key m at t c output) (on_retransmitted_success t c output) (forked_transition acks config key m at t c output received e k p had)
    (repeated_transition acks t c output e k p had))

answered_at_transition : (acks : List ReceivedAck) (config : CallConfigView) (at : ℕ) (key : TKey) (m : MessageView) (branch : List ℕ) (o : Option ℕ) (c : Call) (output : StepOutput) →
    ParsedMessageHasNoInjection m.parsed → CallHasNoInjection acks c → PhaseHasNoInjection acks c.phase → OutputHasNoInjection acks output →
    StepHasNoInjection acks (on_response_answered_at config at key m branch o c output)
answered_at_transition acks config at key m branch None c output received k p had = in_flight_transition acks config at m (position (is_in_flight branch) c.relayed) c output received k p had
answered_at_transition acks config at key m branch (Some place) c output received k p had =
    answered_transition acks config key m place (slice_get c.answered_invites place) c output received (each_get (AnsweredHasNoInjection acks) c.answered_invites place k.answered_in) k p had

at_transition : (acks : List ReceivedAck) (config : CallConfigView) (at : ℕ) (key : TKey) (m : MessageView) (branch : List ℕ) (o : Option ℕ) (c : Call) (output : StepOutput) →
    ParsedMessageHasNoInjection m.parsed → CallHasNoInjection acks c → PhaseHasNoInjection acks c.phase → OutputHasNoInjection acks output →
    StepHasNoInjection acks (on_other_response_at config at key m branch o c output)
at_transition acks config at key m branch None c output received k p had = answered_at_transition acks config at key m branch (position (is_answered_invite branch) c.answered_invites) c output received k p had
at_transition acks config at key m branch (Some place) c output received k p had =
    abandoned_transition acks config key m place (slice_get c.abandoned place) c output received (each_get (AbandonedHasNoInjection acks) c.abandoned place k.abandoned_in) k p had

pub other_transition : (acks : List ReceivedAck) (config : CallConfigView) (at : ℕ) (key : TKey) (m : MessageView) (branch : List ℕ) (c : Call) (output : StepOutput) →
    ParsedMessageHasNoInjection m.parsed → CallHasNoInjection acks c → PhaseHasNoInjection acks c.phase → OutputHasNoInjection acks output → StepHasNoInjection acks (on_other_response config at key m branch c output)
unfolding on_other_response
other_transition acks config at key m branch c output received k p had = at_transition acks config at key m branch (position (is_of_branch branch) c.abandoned) c output received k p had

timed_out_at_transition : (acks : List ReceivedAck) (config : CallConfigView) (branch : List ℕ) (o : Option ℕ) (c : Call) (output : StepOutput) → CallHasNoInjection acks c →
    PhaseHasNoInjection acks c.phase → OutputHasNoInjection acks output →
    StepHasNoInjection acks (on_other_timeout_at config branch o c output)
timed_out_at_transition acks config branch None c output k p had = timed_out_in_flight_transition acks config (position (is_in_flight branch) c.relayed) c output k p had
timed_out_at_transition acks config branch (Some place) c output k p had = record {
  kept = record {
    opening_in = k.opening_in;
    history_in = k.history_in;
    abandoned_in = without_no_injection (AbandonedHasNoInjection acks) (position (is_of_branch branch) c.abandoned) c.abandoned k.abandoned_in;
    answered_in = k.answered_in;
    in_flight_in = k.in_flight_in;
  };
  phase = p;
  output = had;
}

pub timed_out_transition : (acks : List ReceivedAck) (config : CallConfigView) (branch : List ℕ) (c : Call) (output : StepOutput) → CallHasNoInjection acks c → PhaseHasNoInjection acks c.phase →
    OutputHasNoInjection acks output → StepHasNoInjection acks (on_other_timeout config branch c output)
timed_out_transition acks config branch c output k p had = timed_out_at_transition acks config branch (position (is_of_branch branch) c.abandoned) c output k p had

pub key_transition : (acks : List ReceivedAck) (key : TKey) (c : Call) (output : StepOutput) → CallHasNoInjection acks c → PhaseHasNoInjection acks c.phase → OutputHasNoInjection acks output →
    StepHasNoInjection acks (step_result (without_key key c) output)
key_transition acks key c output k p had = record {
  kept = record {
    opening_in = k.opening_in;
    history_in = k.history_in;
    abandoned_in = without_no_injection (AbandonedHasNoInjection acks) (position (is_abandoned_key key) c.abandoned) c.abandoned k.abandoned_in;
    answered_in = without_no_injection (AnsweredHasNoInjection acks) (position (is_answered_key key) c.answered_invites) c.answered_invites k.answered_in;
    in_flight_in = k.in_flight_in;
  };
  phase = p;
  output = had;
}
