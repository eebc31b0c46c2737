-- The requests in flight remain clean, and so do the requests and responses that are sent for them; and the deadline for a 2xx sends nothing.
use Rattle.std.proofs.Common.{◌+◌, Bool, true, false, not, ℕ, List, [], ◌∷◌, ◌++◌, Option, Some, None, refl, nat_lt, append-nil}
use Rattle.std.specs.Prelude.{IfSome, codes, decimal, if◌then◌else◌, slice_get}
use Rattle.std.specs.List.{filter}
use Rattle.mmtel_compose.specs.Responses.{retry_after_lines}
use Rattle.mmtel_compose.specs.ReceivedMessages.{MessageView, status_of}
use Rattle.mmtel_output.specs.Outputs.{with_emit}
use Rattle.mmtel_output.specs.declared.outputs.StepOutput.{StepOutput}
use Rattle.mmtel_leg.specs.Legs.{Leg}
use Rattle.mmtel_leg.specs.declared.dialogues.Dialogue.{Dialogue}
use Rattle.mmtel_message.specs.Headers.{is_value_byte}
use Rattle.mmtel_message.specs.Message.{Line}
use Rattle.mmtel_reliable.specs.declared.racks.Rack.{Rack}
use Rattle.mmtel_session.specs.Intervals.{expiry_interval_of}
use Rattle.mmtel_sip_rules.specs.Statuses.{is_success}
use Rattle.mmtel_transaction.specs.declared.words.DueWord.TheVariants as due
use Rattle.mmtel_transaction.specs.declared.words.Emit.TheVariants as emit
use Rattle.mmtel_transaction.specs.declared.words.TKey.{TKey}
use Rattle.mmtel_types.specs.Sides.{other_side}
use Rattle.mmtel_types.specs.declared.sides.Side.{Side}
use Rattle.mmtel_types.specs.declared.sides.Side.TheVariants.{Caller, Callee}
use Rattle.mmtel_call_services.specs.Reliable.{rack_line, reliable_lines}
use Rattle.mmtel_call_services.specs.Requests.{is_same_side}
use Rattle.mmtel_call_services.specs.CopiedHeaders.{copied_lines}
use Rattle.mmtel_call_services.specs.CallConfig.{CallConfigView}
use Rattle.mmtel_call_services.specs.declared.openings.Service.{Service}
use Rattle.mmtel_call.specs.Awaiting.{ack_time, expiry_in, next_success, with_ack_timer, with_expiry_timer}
use Rattle.mmtel_call.specs.Closing.{StepResult, step_result}
use Rattle.mmtel_call.specs.RelayedTransactions.{call_after_update, dismissal_of, is_updating, on_accepted_in_flight, on_final_relayed, on_response_in_flight, on_response_relayed}
use Rattle.mmtel_call.specs.RelayedTransactions.{on_timeout_in_flight, on_timeout_relayed, output_after_dismissal, service_in, updating_side, with_all_dismissals, with_dismissal}
use Rattle.mmtel_call.specs.RelayedTransactions.{with_dismissals, with_response_back, with_settled, with_settled_in, without_in_flight, without_transaction}
use Rattle.mmtel_call.specs.Reliable.{attempt_after_early_request, named_rseq, on_named_prack, on_rack, on_refused_prack, rack_in, status_of_refusal, with_reliable_response}
use Rattle.mmtel_call.specs.Requests.{is_prack, is_update, with_response_to, with_unlisted_response}
use Rattle.mmtel_call.specs.Ringing.{on_other, on_prack_of}
use Rattle.mmtel_call.specs.Sending.{with_status_to}
use Rattle.mmtel_call.specs.Updates.{accepts_updates, after_update_relay, attempt_after_update, on_early_retry, on_early_update, on_glare, on_update, other_leg, unless_updating}
use Rattle.mmtel_call.specs.declared.calls.Call.{Call}
use Rattle.mmtel_call.specs.declared.calls.RelayedTransaction.{RelayedTransaction}
use Rattle.mmtel_call.specs.declared.calls.RelayedKind.{RelayedKind}
use Rattle.mmtel_call.specs.declared.calls.RelayedKind.TheVariants.{Prack, Update}
use Rattle.mmtel_call.specs.declared.calls.Phase.{Phase}
use Rattle.mmtel_call.specs.declared.calls.Phase.TheVariants.{Detached, Established, Offered, Over}
use Rattle.mmtel_call.specs.declared.calls.OfferedAttempt.{OfferedAttempt}
use Rattle.mmtel_call_theorems.specs.NoInjection.Acks.{ReceivedAck}
use Rattle.mmtel_call_theorems.specs.NoInjection.Messages.{HasNoInjection, LinesHaveNoInjection, line_has_no_injection}
use Rattle.mmtel_call_theorems.specs.NoInjection.Emits.{Each, OutputHasNoInjection}
use Rattle.mmtel_call_theorems.specs.NoInjection.CallState.{DialogueHasNoInjection}
use Rattle.mmtel_call_theorems.proofs.NoInjection.Building.{lines_joined}
use Rattle.mmtel_call_theorems.proofs.NoInjection.Bytes.{all_cons, decimal_no_injection, joined, line_no_injection}
use Rattle.mmtel_call_theorems.proofs.NoInjection.ReceivedMessages.{ParsedMessageHasNoInjection}
use Rattle.mmtel_call_theorems.proofs.NoInjection.CallState.{CallHasNoInjection, OfferedHasNoInjection, PhaseHasNoInjection, RelayedHasNoInjection, StepHasNoInjection, answered_to_no_injection}
use Rattle.mmtel_call_theorems.proofs.NoInjection.CallState.{copied_to_no_injection, if_step, onward_no_injection, replied_to_no_injection, unlisted_no_injection, with_in_flight}
use Rattle.mmtel_call_theorems.proofs.NoInjection.Sending.{asked_for_no_injection, each_append, each_filter, each_get, each_without, emit_no_injection, if_output, relayed_no_injection}

-- ---- the deadline for a 2xx

pub awaiting_no_injection : (acks : List ReceivedAck) (at : ℕ) (c : Call) (output : StepOutput) → OutputHasNoInjection acks output → OutputHasNoInjection acks (with_ack_timer at c output)
awaiting_no_injection acks at c output had = emit_no_injection acks (emit.Arm c.opening.number (due.NoAck (next_success c)) (at + ack_time)) output tt had

expiries_no_injection : (acks : List ReceivedAck) (timer : Bool) (time : Option ℕ) (at : ℕ) (c : Call) (output : StepOutput) → OutputHasNoInjection acks output →
    OutputHasNoInjection acks (record output { out = output.out ++ (if timer then expiry_in time at c else []) })
expiries_no_injection acks true None at c output had = simp append-nil had
expiries_no_injection acks true (Some time) at c output had = emit_no_injection acks (emit.Arm c.opening.number (due.Expired (next_success c)) (at + time)) output tt had
expiries_no_injection acks false time at c output had = simp append-nil had

pub expiry_no_injection : (acks : List ReceivedAck) (config : CallConfigView) (at : ℕ) (m : MessageView) (c : Call) (output : StepOutput) → OutputHasNoInjection acks output →
    OutputHasNoInjection acks (with_expiry_timer config at m c output)
expiry_no_injection acks config at m c output had = expiries_no_injection acks config.timer (expiry_interval_of m.parsed.session) at c output had

-- ---- requests in flight are dismissed

settled_no_injection : (acks : List ReceivedAck) (config : CallConfigView) (own : Option ℕ) (c : Call) (output : StepOutput) → OutputHasNoInjection acks output →
    OutputHasNoInjection acks (with_settled config own c output)
settled_no_injection acks config own c output had = if_output acks config.reliable (with_emit (emit.Settled c.opening.key own) output) output (emit_no_injection acks (emit.Settled c.opening.key own) output tt had) had

settled_in_no_injection : (acks : List ReceivedAck) (phase : Phase) (config : CallConfigView) (c : Call) (output : StepOutput) → OutputHasNoInjection acks output →
    OutputHasNoInjection acks (with_settled_in phase config c output)
settled_in_no_injection acks (Offered x) config c output had = settled_no_injection acks config None c output had
settled_in_no_injection acks (Established x stage) config c output had = had
settled_in_no_injection acks (Detached detached) config c output had = had
settled_in_no_injection acks (Over cause) config c output had = had

each_dismissed : (acks : List ReceivedAck) (config : CallConfigView) (c : Call) (flights : List RelayedTransaction) (output : StepOutput) → Each RelayedHasNoInjection flights →
    CallHasNoInjection acks c → OutputHasNoInjection acks output →
    OutputHasNoInjection acks (with_dismissals config c flights output)
each_dismissed acks config c [] output all k had = had
each_dismissed acks config c (flight ∷ flights) output all k had =
    each_dismissed acks config c flights (with_dismissal config c flight output) all.1 k (replied_to_no_injection acks config c flight.exchange.key flight.exchange.request (dismissal_of flight.kind) output k all.0 had)

pub dismissing_no_injection : (acks : List ReceivedAck) (config : CallConfigView) (c : Call) (output : StepOutput) → CallHasNoInjection acks c → OutputHasNoInjection acks output →
    OutputHasNoInjection acks (output_after_dismissal config c output)
dismissing_no_injection acks config c output k had =
    let updates : List RelayedTransaction = filter is_updating c.relayed in
    let others : List RelayedTransaction = filter (λ flight. not (is_updating flight)) c.relayed in
    settled_in_no_injection acks c.phase config c (with_all_dismissals config c output)
    (each_dismissed acks config c updates (with_dismissals config c others output) (each_filter RelayedHasNoInjection is_updating c.relayed k.in_flight_in) k
    (each_dismissed acks config c others output (each_filter RelayedHasNoInjection (λ flight. not (is_updating flight)) c.relayed k.in_flight_in) k had))

pub dismissed_kept : (acks : List ReceivedAck) (c : Call) → CallHasNoInjection acks c → CallHasNoInjection acks (without_in_flight c)
dismissed_kept acks c k = with_in_flight acks [] c tt k

-- ---- the final response is relayed back

back_no_injection : (acks : List ReceivedAck) (config : CallConfigView) (flight : RelayedTransaction) (m : MessageView) (c : Call) (output : StepOutput) → ParsedMessageHasNoInjection m.parsed →
    RelayedHasNoInjection flight → CallHasNoInjection acks c → OutputHasNoInjection acks output →
    OutputHasNoInjection acks (with_response_back config flight m c output)
back_no_injection acks config flight m c output received is k had =
    let shown : List Line = copied_lines config c.opening c.diversions (service_in c.phase) (other_side flight.side) flight.exchange.request.peer m in
    relayed_no_injection acks config.sip flight.exchange.key flight.exchange.request c.opening.tag shown m output is k.opening_in.tag_in
    (copied_to_no_injection config c.opening c.diversions (service_in c.phase) (other_side flight.side) flight.exchange.request.peer m k.history_in received) received had

agreed_transition : (acks : List ReceivedAck) (kind : RelayedKind) (config : CallConfigView) (at : ℕ) (side : Side) (request response : MessageView) (c : Call) (output : StepOutput) →
    CallHasNoInjection acks c → PhaseHasNoInjection acks c.phase → OutputHasNoInjection acks output → StepHasNoInjection acks (on_accepted_in_flight kind config at side request response c output)
agreed_transition acks Prack config at side request response c output k p had = onward_no_injection acks c output k p had
agreed_transition acks Update config at side request response c output k p had =
    onward_no_injection acks (call_after_update side request c) (with_expiry_timer config at response c output) k p (expiry_no_injection acks config at response c output had)

final_transition : (acks : List ReceivedAck) (config : CallConfigView) (at : ℕ) (flight : RelayedTransaction) (m : MessageView) (code : ℕ) (c : Call) (output : StepOutput) →
    ParsedMessageHasNoInjection m.parsed → RelayedHasNoInjection flight → CallHasNoInjection acks c → PhaseHasNoInjection acks c.phase → OutputHasNoInjection acks output →
    StepHasNoInjection acks (on_final_relayed config at flight m code c output)
final_transition acks config at flight m code c output received is k p had =
    let back : StepOutput = with_response_back config flight m c output in
    let told : OutputHasNoInjection acks back = back_no_injection acks config flight m c output received is k had in
    if_step acks (is_success code) (on_accepted_in_flight flight.kind config at flight.side flight.exchange.request m c back) (step_result c back)
    (agreed_transition acks flight.kind config at flight.side flight.exchange.request m c back k p told) (onward_no_injection acks c back k p told)

without_kept : (acks : List ReceivedAck) (place : ℕ) (c : Call) → CallHasNoInjection acks c → CallHasNoInjection acks (without_transaction place c)
without_kept acks place c k = with_in_flight acks _ c (each_without RelayedHasNoInjection place c.relayed k.in_flight_in) k

relayed_transition : (acks : List ReceivedAck) (config : CallConfigView) (at : ℕ) (m : MessageView) (code place : ℕ) (o : Option RelayedTransaction) (c : Call) (output : StepOutput) →
    ParsedMessageHasNoInjection m.parsed → IfSome o RelayedHasNoInjection → CallHasNoInjection acks c → PhaseHasNoInjection acks c.phase → OutputHasNoInjection acks output →
    StepHasNoInjection acks (on_response_relayed config at m code place o c output)
relayed_transition acks config at m code place None c output received is k p had = onward_no_injection acks c output k p had
relayed_transition acks config at m code place (Some flight) c output received is k p had =
    if_step acks (nat_lt code 200) (step_result c output) (on_final_relayed config at flight m code (without_transaction place c) output)
    (onward_no_injection acks c output k p had) (final_transition acks config at flight m code (without_transaction place c) output received is (without_kept acks place c k) p had)

pub in_flight_transition : (acks : List ReceivedAck) (config : CallConfigView) (at : ℕ) (m : MessageView) (o : Option ℕ) (c : Call) (output : StepOutput) →
    ParsedMessageHasNoInjection m.parsed → CallHasNoInjection acks c → PhaseHasNoInjection acks c.phase → OutputHasNoInjection acks output → StepHasNoInjection acks (on_response_in_flight config at m o c output)
in_flight_transition acks config at m None c output received k p had = onward_no_injection acks c output k p had
in_flight_transition acks config at m (Some place) c output received k p had =
    relayed_transition acks config at m (status_of m.parsed.start) place (slice_get c.relayed place) c output received (each_get RelayedHasNoInjection c.relayed place k.in_flight_in) k p had

timed_out_relayed_transition : (acks : List ReceivedAck) (config : CallConfigView) (place : ℕ) (o : Option RelayedTransaction) (c : Call) (output : StepOutput) → IfSome o RelayedHasNoInjection →
    CallHasNoInjection acks c → PhaseHasNoInjection acks c.phase →
    OutputHasNoInjection acks output → StepHasNoInjection acks (on_timeout_relayed config place o c output)
timed_out_relayed_transition acks config place None c output is k p had = onward_no_injection acks c output k p had
timed_out_relayed_transition acks config place (Some flight) c output is k p had =
    onward_no_injection acks (without_transaction place c) (with_status_to config c flight.exchange.key flight.exchange.request 408 output) (without_kept acks place c k) p
    (replied_to_no_injection acks config c flight.exchange.key flight.exchange.request 408 output k is had)

pub timed_out_in_flight_transition : (acks : List ReceivedAck) (config : CallConfigView) (o : Option ℕ) (c : Call) (output : StepOutput) → CallHasNoInjection acks c →
    PhaseHasNoInjection acks c.phase → OutputHasNoInjection acks output → StepHasNoInjection acks (on_timeout_in_flight config o c output)
timed_out_in_flight_transition acks config None c output k p had = onward_no_injection acks c output k p had
timed_out_in_flight_transition acks config (Some place) c output k p had =
    timed_out_relayed_transition acks config place (slice_get c.relayed place) c output (each_get RelayedHasNoInjection c.relayed place k.in_flight_in) k p had

-- ---- a reliable response

reliable_no_injection : (own : ℕ) → LinesHaveNoInjection (reliable_lines own)
reliable_no_injection own =
    all_cons line_has_no_injection (codes "Require", codes "100rel") ((codes "RSeq", decimal own) ∷ []) refl
    (all_cons line_has_no_injection (codes "RSeq", decimal own) [] (line_no_injection (codes "RSeq") (decimal own) refl (decimal_no_injection own)) refl)

pub reliably_no_injection : (acks : List ReceivedAck) (config : CallConfigView) (c : Call) (service : Option Service) (own : ℕ) (m : MessageView) (output : StepOutput) → CallHasNoInjection acks c →
    ParsedMessageHasNoInjection m.parsed → OutputHasNoInjection acks output →
    OutputHasNoInjection acks (with_reliable_response config c service own m output)
reliably_no_injection acks config c service own m output k is had =
    let shown : List Line = copied_lines config c.opening c.diversions service Callee c.opening.invite.peer m in
    relayed_no_injection acks config.sip c.opening.key c.opening.invite c.opening.tag (shown ++ reliable_lines own) m output k.opening_in.invite_in k.opening_in.tag_in
    (lines_joined shown (reliable_lines own) (copied_to_no_injection config c.opening c.diversions service Callee c.opening.invite.peer m k.history_in is) (reliable_no_injection own)) is had

-- ---- a PRACK

rack_no_injection : (answer cseq : ℕ) → LinesHaveNoInjection (rack_line answer cseq)
rack_no_injection answer cseq =
    let value : List ℕ = decimal answer ++ 32 ∷ (decimal cseq ++ 32 ∷ codes "INVITE") in
    let clean : HasNoInjection value =
    joined (decimal answer) (32 ∷ (decimal cseq ++ 32 ∷ codes "INVITE")) (decimal_no_injection answer)
    (all_cons is_value_byte 32 (decimal cseq ++ 32 ∷ codes "INVITE") refl (joined (decimal cseq) (32 ∷ codes "INVITE") (decimal_no_injection cseq) refl)) in
    all_cons line_has_no_injection (codes "RAck", value) [] (line_no_injection (codes "RAck") value refl clean) refl

pub prack_refused_no_injection : (acks : List ReceivedAck) (config : CallConfigView) (key : TKey) (m : MessageView) (c : Call) (output : StepOutput) → ParsedMessageHasNoInjection m.parsed →
    CallHasNoInjection acks c → PhaseHasNoInjection acks c.phase →
    OutputHasNoInjection acks output → StepHasNoInjection acks (on_refused_prack config key m c output)
prack_refused_no_injection acks config key m c output is k p had =
    let code : ℕ = status_of_refusal (rack_in m) in onward_no_injection acks c (with_status_to config c key m code output) k p (replied_to_no_injection acks config c key m code output k is had)

-- its leg, and the INVITE, record that it was sent
asked_early_no_injection : (acks : List ReceivedAck) (method : List ℕ) (x : OfferedAttempt) → OfferedHasNoInjection acks x → OfferedHasNoInjection acks (attempt_after_early_request method x)
asked_early_no_injection acks method x t = record {
  caller_in = t.caller_in;
  callee_in = t.callee_in;
  service_in = t.service_in;
  sent_in = record { dialogue_in = t.sent_in.dialogue_in; branch_in = t.sent_in.branch_in; ack_in = t.sent_in.ack_in; forks_in = t.sent_in.forks_in; early_in = t.sent_in.early_in };
}

with_relayed_kept : (acks : List ReceivedAck) (flight : RelayedTransaction) (c : Call) → RelayedHasNoInjection flight → CallHasNoInjection acks c →
    CallHasNoInjection acks (record c { relayed = c.relayed ++ flight ∷ [] })
with_relayed_kept acks flight c is k = with_in_flight acks (c.relayed ++ flight ∷ []) c (each_append RelayedHasNoInjection c.relayed (flight ∷ []) k.in_flight_in (is, tt)) k

acknowledging_transition : (acks : List ReceivedAck) (config : CallConfigView) (x : OfferedAttempt) (key : TKey) (m : MessageView) (rack : Rack) (o : Option ℕ) (c : Call) (output : StepOutput) →
    ParsedMessageHasNoInjection m.parsed → OfferedHasNoInjection acks x → CallHasNoInjection acks c → PhaseHasNoInjection acks c.phase → OutputHasNoInjection acks output →
    StepHasNoInjection acks (on_named_prack config x key m rack o c output)
acknowledging_transition acks config x key m rack None c output is t k p had = prack_refused_no_injection acks config key m c output is k p had
acknowledging_transition acks config x key m rack (Some answer) c output is t k p had =
    let d : Dialogue = x.callee.leg.dialogue in
    let shown : List Line = copied_lines config c.opening c.diversions x.attempt.service Caller d.peer m in
    let passed : List Line = shown ++ rack_line answer x.attempt.invite.number in
    let lines : LinesHaveNoInjection passed =
    lines_joined shown (rack_line answer x.attempt.invite.number) (copied_to_no_injection config c.opening c.diversions x.attempt.service Caller d.peer m k.history_in is)
    (rack_no_injection answer x.attempt.invite.number) in
    record {
      kept = with_relayed_kept acks _ c is k;
      phase = asked_early_no_injection acks (codes "PRACK") x t;
      output = asked_for_no_injection acks config.sip (codes "PRACK") d passed m.parsed (with_settled config (Some rack.answer) c output) t.callee_in.0 refl lines
          (settled_no_injection acks config (Some rack.answer) c output had);
    }

rack_transition : (acks : List ReceivedAck) (config : CallConfigView) (x : OfferedAttempt) (key : TKey) (m : MessageView) (o : Option Rack) (c : Call) (output : StepOutput) →
    ParsedMessageHasNoInjection m.parsed → OfferedHasNoInjection acks x → CallHasNoInjection acks c → PhaseHasNoInjection acks c.phase → OutputHasNoInjection acks output →
    StepHasNoInjection acks (on_rack config x key m o c output)
rack_transition acks config x key m None c output is t k p had = prack_refused_no_injection acks config key m c output is k p had
rack_transition acks config x key m (Some rack) c output is t k p had = acknowledging_transition acks config x key m rack (named_rseq x c rack) c output is t k p had

prack_transition : (acks : List ReceivedAck) (side : Side) (config : CallConfigView) (x : OfferedAttempt) (key : TKey) (m : MessageView) (c : Call) (output : StepOutput) →
    ParsedMessageHasNoInjection m.parsed → OfferedHasNoInjection acks x → CallHasNoInjection acks c → PhaseHasNoInjection acks c.phase → OutputHasNoInjection acks output →
    StepHasNoInjection acks (on_prack_of side config x key m c output)
prack_transition acks Caller config x key m c output is t k p had = rack_transition acks config x key m (rack_in m) c output is t k p had
prack_transition acks Callee config x key m c output is t k p had = prack_refused_no_injection acks config key m c output is k p had

-- ---- an UPDATE

later_transition : (acks : List ReceivedAck) (config : CallConfigView) (key : TKey) (m : MessageView) (c : Call) (output : StepOutput) → ParsedMessageHasNoInjection m.parsed →
    CallHasNoInjection acks c → PhaseHasNoInjection acks c.phase → OutputHasNoInjection acks output →
    StepHasNoInjection acks (on_early_retry config key m c output)
later_transition acks config key m c output is k p had =
    onward_no_injection acks c (with_response_to config c key m 500 retry_after_lines output) k p (answered_to_no_injection acks config c key m 500 retry_after_lines output k is refl had)

pub crossing_transition : (acks : List ReceivedAck) (config : CallConfigView) (key : TKey) (m : MessageView) (c : Call) (output : StepOutput) → ParsedMessageHasNoInjection m.parsed →
    CallHasNoInjection acks c → PhaseHasNoInjection acks c.phase → OutputHasNoInjection acks output →
    StepHasNoInjection acks (on_glare config key m c output)
crossing_transition acks config key m c output is k p had = onward_no_injection acks c (with_status_to config c key m 491 output) k p (replied_to_no_injection acks config c key m 491 output k is had)

pub unless_transition : (acks : List ReceivedAck) (o : Option Side) (across : Call → StepOutput → StepResult) (config : CallConfigView) (side : Side) (key : TKey) (m : MessageView) (c : Call) (output : StepOutput) →
    ParsedMessageHasNoInjection m.parsed → CallHasNoInjection acks c → PhaseHasNoInjection acks c.phase → OutputHasNoInjection acks output → StepHasNoInjection acks (across c output) →
    StepHasNoInjection acks (unless_updating o across config side key m c output)
unless_transition acks None across config side key m c output is k p had goes = goes
unless_transition acks (Some other) across config side key m c output is k p had goes =
    if_step acks (is_same_side other side) (on_early_retry config key m c output) (on_glare config key m c output) (later_transition acks config key m c output is k p had)
    (crossing_transition acks config key m c output is k p had)

pub asked_on_no_injection : (acks : List ReceivedAck) (config : CallConfigView) (service : Option Service) (side : Side) (leg : Leg) (key : TKey) (m : MessageView) (c : Call) (output : StepOutput) →
    ParsedMessageHasNoInjection m.parsed → DialogueHasNoInjection leg.dialogue → CallHasNoInjection acks c → PhaseHasNoInjection acks c.phase → OutputHasNoInjection acks output →
    StepHasNoInjection acks (after_update_relay config service side leg key m c output)
asked_on_no_injection acks config service side leg key m c output is d k p had =
    let shown : List Line = copied_lines config c.opening c.diversions service side leg.dialogue.peer m in
    record {
      kept = with_relayed_kept acks _ c is k;
      phase = p;
      output = asked_for_no_injection acks config.sip (codes "UPDATE") leg.dialogue shown m.parsed output d refl
          (copied_to_no_injection config c.opening c.diversions service side leg.dialogue.peer m k.history_in is) had;
    }

leg_no_injection : (acks : List ReceivedAck) (side : Side) (x : OfferedAttempt) → OfferedHasNoInjection acks x → DialogueHasNoInjection (other_leg side x).dialogue
leg_no_injection acks Caller x t = t.callee_in.0
leg_no_injection acks Callee x t = t.caller_in.0

updated_no_injection : (acks : List ReceivedAck) (side : Side) (x : OfferedAttempt) → OfferedHasNoInjection acks x → OfferedHasNoInjection acks (attempt_after_update side x)
updated_no_injection acks Caller x t = asked_early_no_injection acks (codes "UPDATE") x t
updated_no_injection acks Callee x t = record { caller_in = t.caller_in; callee_in = t.callee_in; service_in = t.service_in; sent_in = t.sent_in }

update_transition : (acks : List ReceivedAck) (config : CallConfigView) (x : OfferedAttempt) (side : Side) (key : TKey) (m : MessageView) (c : Call) (output : StepOutput) →
    ParsedMessageHasNoInjection m.parsed → OfferedHasNoInjection acks x → CallHasNoInjection acks c → PhaseHasNoInjection acks c.phase → OutputHasNoInjection acks output →
    StepHasNoInjection acks (on_update config x side key m c output)
update_transition acks config x side key m c output is t k p had =
    let asked : Call = record c { phase = Offered (attempt_after_update side x) } in
    if_step acks (accepts_updates x) (unless_updating (updating_side c.relayed) (on_early_update config x side key m) config side key m c output) (on_early_retry config key m c output)
    (unless_transition acks (updating_side c.relayed) (on_early_update config x side key m) config side key m c output is k p had
    (asked_on_no_injection acks config x.attempt.service side (other_leg side x) key m asked output is (leg_no_injection acks side x t) k (updated_no_injection acks side x t) had))
    (later_transition acks config key m c output is k p had)

-- ---- PRACK and UPDATE of a call that is offered, and requests for which there is no transition

pub on_other_no_injection : (acks : List ReceivedAck) (config : CallConfigView) (x : OfferedAttempt) (side : Side) (key : TKey) (m : MessageView) (c : Call) (output : StepOutput) →
    ParsedMessageHasNoInjection m.parsed → OfferedHasNoInjection acks x → PhaseHasNoInjection acks c.phase → CallHasNoInjection acks c → OutputHasNoInjection acks output →
    StepHasNoInjection acks (on_other config x side key m c output)
on_other_no_injection acks config x side key m c output is t p k had =
    if_step acks (is_prack m) (on_prack_of side config x key m c output) (if is_update m then on_update config x side key m c output else step_result c (with_unlisted_response config c key m output))
    (prack_transition acks side config x key m c output is t k p had)
    (if_step acks (is_update m) (on_update config x side key m c output) (step_result c (with_unlisted_response config c key m output)) (update_transition acks config x side key m c output is t k p had)
    (onward_no_injection acks c (with_unlisted_response config c key m output) k p (unlisted_no_injection acks config c key m output k is had)))
