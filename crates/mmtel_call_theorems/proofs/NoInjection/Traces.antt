-- Every step of a trace keeps the call clean, and sends what is clean.
use Rattle.std.proofs.Common.{◌++◌, inl, inr, Bool, true, false, ℕ, List, [], ◌∷◌, drop, Option, Some, None, refl}
use Rattle.std.specs.Prelude.{IfSome, codes, if◌then◌else◌, is_ok}
use Rattle.mmtel_compose.specs.ReceivedMessages.{MessageView, status_of}
use Rattle.mmtel_output.specs.Outputs.{after_draw, token}
use Rattle.mmtel_output.specs.declared.outputs.StepOutput.{StepOutput}
use Rattle.mmtel_history.specs.HistoryInfo.{entries_result}
use Rattle.mmtel_leg.specs.Requests.{ack_of}
use Rattle.mmtel_leg.specs.Dialogues.{request_uri}
use Rattle.mmtel_leg.specs.Legs.{Leg}
use Rattle.mmtel_message.specs.Message.{line_texts}
use Rattle.mmtel_call_parties.specs.Routing.{begins_with_own_route, remaining_routes}
use Rattle.mmtel_precedence.specs.Calls.{SnapshotView}
use Rattle.mmtel_transaction.specs.declared.words.DueWord.{DueWord}
use Rattle.mmtel_transaction.specs.declared.words.TKey.{TKey}
use Rattle.mmtel_types.specs.declared.addrs.Addr.{Addr}
use Rattle.mmtel_types.specs.declared.causes.Cause.{Cause}
use Rattle.mmtel_types.specs.declared.sides.Side.{Side}
use Rattle.mmtel_output.specs.ResponseMatching.{awaited_request_branch, timed_out_branch}
use Rattle.mmtel_call_services.specs.Opening.{initial_target, no_target, opening_of, opening_refusal, received_history}
use Rattle.mmtel_call_services.specs.CallConfig.{CallConfigView}
use Rattle.mmtel_call_services.specs.declared.openings.Arrival.{Arrival}
use Rattle.mmtel_call_services.specs.declared.openings.Opening.{Opening}
use Rattle.mmtel_call.specs.declared.calls.Call.{Call}
use Rattle.mmtel_call.specs.declared.calls.Phase.TheVariants.{Detached, Established, Offered, Over}
use Rattle.mmtel_call.specs.declared.calls.Phase.{Phase}
use Rattle.mmtel_call.specs.RelayedTransactions.{output_after_dismissal, without_in_flight}
use Rattle.mmtel_call.specs.OtherRequests.{on_other_response, on_other_timeout}
use Rattle.mmtel_call.specs.Detaching.{call_finish, detached_at, detached_in, finish_of_phase, legs_with, removed_leg, removed_leg_at, removed_leg_in, target_meter_of, with_leg_restored}
use Rattle.mmtel_call.specs.Detaching as lending
use Rattle.mmtel_call.specs.declared.calls.DetachedLeg.{DetachedLeg}
use Rattle.mmtel_call.specs.declared.calls.EstablishedLegs.{EstablishedLegs}
use Rattle.mmtel_call.specs.declared.calls.Stage.{Stage}
use Rattle.mmtel_call.specs.declared.calls.Stage.TheVariants.{Answered, Departing, Reinviting, Stable}
use Rattle.mmtel_output.specs.Sending.{with_bye}
use Rattle.mmtel_leg.specs.Releases.{released_leg}
use Rattle.mmtel_leg.specs.declared.legs.Released.{Released}
use Rattle.mmtel_leg.specs.declared.legs.Released.TheVariants as released
use Rattle.mmtel_types.specs.declared.causes.Cause.TheVariants.{Ended}
use Rattle.mmtel_types.specs.declared.sides.Side.TheVariants.{Caller, Callee}
use Rattle.mmtel_call.specs.Opening.{call_after_opening, caller_of, new_call, opening_step, unless_refused}
use Rattle.mmtel_call.specs.Sending.{with_status_to, with_status_to_caller}
use Rattle.mmtel_call.specs.Table.{ack_in, cancel_in, due_in, is_current, leaves, on_response_to, on_timeout_of, request_in, response_in, step, timeout_in, transition}
use Rattle.mmtel_call.specs.declared.signals.Signal.{Signal}
use Rattle.mmtel_call.specs.declared.signals.Signal.TheVariants as signal
use Rattle.mmtel_call_theorems.specs.NoInjection.Acks.{ReceivedAck, received_acks_after, received_acks_by, received_acks_in}
use Rattle.mmtel_call_theorems.specs.CallTrace.{TraceStart, TraceStep, call_after, first_step, next_step}
use Rattle.mmtel_message.specs.Message.{Message}
use Rattle.mmtel_message.specs.declared.messages.Start.{Start as StartLine}
use Rattle.mmtel_transaction.specs.declared.words.Emit.{Emit}
use Rattle.mmtel_transaction.specs.declared.words.Emit.TheVariants as emit
use Rattle.mmtel_call_theorems.specs.NoInjection.Messages.{HasNoInjection, HasOwnFields, HaveNoInjection, MessageHasNoInjection}
use Rattle.mmtel_call_theorems.specs.NoInjection.Emits.{Each, EmitHasNoInjection, OutputHasNoInjection}
use Rattle.mmtel_call_theorems.specs.NoInjection.Inputs.{ParsedHasNoInjection}
use Rattle.mmtel_call_theorems.specs.NoInjection.CallState.{EntriesHaveNoInjection, LegHasNoInjection}
use Rattle.mmtel_call_theorems.specs.NoInjection.Traces as traces
use Rattle.mmtel_call_theorems.specs.NoInjection.Traces.{AreAmong, EmitsHaveNoInjection, EmitsHaveOwnFields, FinishEmitsHaveNoInjection, SendsOwnFields, SignalHasNoInjection, TraceStartHasNoInjection, output_after}
use Rattle.mmtel_call_theorems.proofs.NoInjection.Bytes.{all_drop}
use Rattle.mmtel_call_theorems.proofs.NoInjection.Deciding.{first_target_no_injection}
use Rattle.mmtel_call_theorems.proofs.NoInjection.RelayedRequests.{dismissed_kept, dismissing_no_injection}
use Rattle.mmtel_call_theorems.proofs.NoInjection.Diversions.{IsGood, reach_no_injection, refused_no_injection}
use Rattle.mmtel_call_theorems.proofs.NoInjection.ReceivedMessages.{ParsedMessageHasNoInjection, parsed_no_injection}
use Rattle.mmtel_call_theorems.proofs.NoInjection.CallState.{CallHasNoInjection, EstablishedHasNoInjection, LegDialogHasNoInjection, LegsHaveNoInjection, OpeningHasNoInjection, PhaseHasNoInjection}
use Rattle.mmtel_call_theorems.proofs.NoInjection.CallState.{StepHasNoInjection, if_step, onward_no_injection, over_no_injection, replied_to_no_injection, status_to_caller_no_injection}
use Rattle.mmtel_call_theorems.proofs.NoInjection.AbandonedInvites.{key_transition, other_transition, timed_out_transition}
use Rattle.mmtel_call_theorems.proofs.NoInjection.Ringing as ringing
use Rattle.mmtel_call_theorems.proofs.NoInjection.Sending.{bye_no_injection, each_back, each_front, opened_no_injection, token_no_injection}
use Rattle.mmtel_call_theorems.proofs.NoInjection.Splitting.{cleans, splits}
use Rattle.mmtel_call_theorems.proofs.NoInjection.Established as talking
use Rattle.mmtel_message.specs.Headers.{is_value_byte}
use Rattle.mmtel_trust.specs.Members.{IsIn}
use Rattle.std.specs.List.{list_all}

-- ---- ACKs that were received, among others

pub front_among : (acks some more : List ReceivedAck) → AreAmong (some ++ more) acks → AreAmong some acks
front_among acks some more among = each_front (λ (acked : ReceivedAck). IsIn acked acks) some more among

pub back_among : (acks some more : List ReceivedAck) → AreAmong (some ++ more) acks → AreAmong more acks
back_among acks some more among = each_back (λ (acked : ReceivedAck). IsIn acked acks) some more among

one_more : (acked : ReceivedAck) (some acks : List ReceivedAck) → AreAmong some acks → AreAmong some (acked ∷ acks)
one_more acked [] acks among = tt
one_more acked (x ∷ some) acks among = (inr among.0, one_more acked some acks among.1)

pub own_among : (acks : List ReceivedAck) → AreAmong acks acks
own_among [] = tt
own_among (acked ∷ acks) = (inl refl, one_more acked acks acks (own_among acks))

-- ---- the table, by phase

abbrev at_phase : Phase → Call → Call
at_phase phase c = record c { phase = phase }

response_no_injection : (acks : List ReceivedAck) (phase : Phase) (config : CallConfigView) (now : SnapshotView) (key : TKey) (m : MessageView) (c : Call) (output : StepOutput) →
    IsGood config now → ParsedMessageHasNoInjection m.parsed → PhaseHasNoInjection acks phase → CallHasNoInjection acks c → OutputHasNoInjection acks output →
    StepHasNoInjection acks (response_in phase config now key m (at_phase phase c) output)
response_no_injection acks (Offered x) config now key m c output good received p k had =
    ringing.response_transition acks config now x key m (status_of m.parsed.start) (at_phase (Offered x) c) output good received p k had
response_no_injection acks (Established x stage) config now key m c output good received p k had = talking.response_transition acks stage config now.at x key m c output received p.legs_in p.stage_in k had
response_no_injection acks (Detached detached) config now key m c output good received p k had = onward_no_injection acks (at_phase (Detached detached) c) output k p had
response_no_injection acks (Over cause) config now key m c output good received p k had = onward_no_injection acks (at_phase (Over cause) c) output k p had

timeout_no_injection : (acks : List ReceivedAck) (phase : Phase) (config : CallConfigView) (now : SnapshotView) (c : Call) (output : StepOutput) → IsGood config now → PhaseHasNoInjection acks phase →
    CallHasNoInjection acks c → OutputHasNoInjection acks output → StepHasNoInjection acks (timeout_in phase config now (at_phase phase c) output)
timeout_no_injection acks (Offered x) config now c output good p k had = ringing.timeout_transition acks config now x c output good p k had
timeout_no_injection acks (Established x stage) config now c output good p k had = talking.timeout_transition acks stage config now.at x c output p.legs_in p.stage_in k had
timeout_no_injection acks (Detached detached) config now c output good p k had = onward_no_injection acks (at_phase (Detached detached) c) output k p had
timeout_no_injection acks (Over cause) config now c output good p k had = onward_no_injection acks (at_phase (Over cause) c) output k p had

request_no_injection : (acks : List ReceivedAck) (phase : Phase) (config : CallConfigView) (at : ℕ) (side : Side) (key : TKey) (m : MessageView) (c : Call) (output : StepOutput) →
    ParsedMessageHasNoInjection m.parsed → PhaseHasNoInjection acks phase → CallHasNoInjection acks c → OutputHasNoInjection acks output →
    StepHasNoInjection acks (request_in phase config at side key m (at_phase phase c) output)
request_no_injection acks (Offered x) config at side key m c output received p k had = ringing.request_transition acks config at x side key m c output received p k had
request_no_injection acks (Established x stage) config at side key m c output received p k had = talking.request_transition acks stage config at x side key m c output received p.legs_in p.stage_in k had
request_no_injection acks (Detached detached) config at side key m c output received p k had = onward_no_injection acks (at_phase (Detached detached) c) output k p had
request_no_injection acks (Over cause) config at side key m c output received p k had = onward_no_injection acks (at_phase (Over cause) c) output k p had

ack_no_injection : (acks : List ReceivedAck) (phase : Phase) (config : CallConfigView) (at : ℕ) (side : Side) (m : MessageView) (c : Call) (output : StepOutput) →
    AreAmong (received_acks_in config phase c side m) acks → ParsedMessageHasNoInjection m.parsed → PhaseHasNoInjection acks phase → CallHasNoInjection acks c → OutputHasNoInjection acks output →
    StepHasNoInjection acks (ack_in phase config at side m (at_phase phase c) output)
ack_no_injection acks (Offered x) config at side m c output among received p k had = onward_no_injection acks (at_phase (Offered x) c) output k p had
ack_no_injection acks (Established x stage) config at side m c output among received p k had = talking.ack_transition acks stage config at x side m c output among received p.legs_in p.stage_in k had
ack_no_injection acks (Detached detached) config at side m c output among received p k had = onward_no_injection acks (at_phase (Detached detached) c) output k p had
ack_no_injection acks (Over cause) config at side m c output among received p k had = onward_no_injection acks (at_phase (Over cause) c) output k p had

cancel_no_injection : (acks : List ReceivedAck) (phase : Phase) (config : CallConfigView) (at : ℕ) (key : TKey) (m : MessageView) (invite : TKey) (c : Call) (output : StepOutput) →
    ParsedMessageHasNoInjection m.parsed → PhaseHasNoInjection acks phase → CallHasNoInjection acks c → OutputHasNoInjection acks output →
    StepHasNoInjection acks (cancel_in phase config at key m invite (at_phase phase c) output)
cancel_no_injection acks (Offered x) config at key m invite c output received p k had = ringing.cancel_transition acks config at x key m invite c output received p k had
cancel_no_injection acks (Established x stage) config at key m invite c output received p k had =
    talking.cancel_transition acks stage config x invite c (with_status_to config (at_phase (Established x stage) c) key m 200 output) p.legs_in p.stage_in k
    (replied_to_no_injection acks config (at_phase (Established x stage) c) key m 200 output k received had)
cancel_no_injection acks (Detached detached) config at key m invite c output received p k had = onward_no_injection acks (at_phase (Detached detached) c) output k p had
cancel_no_injection acks (Over cause) config at key m invite c output received p k had = onward_no_injection acks (at_phase (Over cause) c) output k p had

due_no_injection : (acks : List ReceivedAck) (phase : Phase) (config : CallConfigView) (now : SnapshotView) (what : DueWord) (c : Call) (output : StepOutput) → IsGood config now →
    PhaseHasNoInjection acks phase → CallHasNoInjection acks c → OutputHasNoInjection acks output → StepHasNoInjection acks (due_in phase config now what (at_phase phase c) output)
due_no_injection acks (Offered x) config now what c output good p k had = ringing.due_transition acks config now x what c output good p k had
due_no_injection acks (Established x stage) config now what c output good p k had = talking.due_transition acks stage config now.at x what c output p.legs_in p.stage_in k had
due_no_injection acks (Detached detached) config now what c output good p k had = onward_no_injection acks (at_phase (Detached detached) c) output k p had
due_no_injection acks (Over cause) config now what c output good p k had = onward_no_injection acks (at_phase (Over cause) c) output k p had

-- ---- the table

answer_no_injection : (acks : List ReceivedAck) (branch : Option (List ℕ)) (config : CallConfigView) (now : SnapshotView) (key : TKey) (m : MessageView) (c : Call) (output : StepOutput) →
    IsGood config now → ParsedMessageHasNoInjection m.parsed → PhaseHasNoInjection acks c.phase → CallHasNoInjection acks c → OutputHasNoInjection acks output →
    StepHasNoInjection acks (on_response_to branch config now key m c output)
answer_no_injection acks None config now key m c output good received p k had = onward_no_injection acks c output k p had
answer_no_injection acks (Some branch) config now key m c output good received p k had =
    if_step acks (is_current branch c) (response_in c.phase config now key m c output) (on_other_response config now.at key m branch c output)
    (response_no_injection acks c.phase config now key m c output good received p k had) (other_transition acks config now.at key m branch c output received k p had)

timeout_of_no_injection : (acks : List ReceivedAck) (branch : Option (List ℕ)) (config : CallConfigView) (now : SnapshotView) (c : Call) (output : StepOutput) → IsGood config now →
    PhaseHasNoInjection acks c.phase → CallHasNoInjection acks c → OutputHasNoInjection acks output → StepHasNoInjection acks (on_timeout_of branch config now c output)
timeout_of_no_injection acks None config now c output good p k had = onward_no_injection acks c output k p had
timeout_of_no_injection acks (Some branch) config now c output good p k had =
    if_step acks (is_current branch c) (timeout_in c.phase config now c output) (on_other_timeout config branch c output)
    (timeout_no_injection acks c.phase config now c output good p k had) (timed_out_transition acks config branch c output k p had)

transition_no_injection : (acks : List ReceivedAck) (config : CallConfigView) (now : SnapshotView) (received : Signal) (c : Call) (output : StepOutput) → IsGood config now →
    SignalHasNoInjection received → AreAmong (received_acks_by config received c) acks →
    PhaseHasNoInjection acks c.phase → CallHasNoInjection acks c → OutputHasNoInjection acks output → StepHasNoInjection acks (transition config now received c output)
unfolding transition
transition_no_injection acks config now (signal.Request side key request) c output good is among p k had =
    request_no_injection acks c.phase config now.at side key request c output (parsed_no_injection request.parsed is) p k had
transition_no_injection acks config now (signal.Ack side ack) c output good is among p k had = ack_no_injection acks c.phase config now.at side ack c output among (parsed_no_injection ack.parsed is) p k had
transition_no_injection acks config now (signal.Cancel key cancel invite) c output good is among p k had =
    cancel_no_injection acks c.phase config now.at key cancel invite c output (parsed_no_injection cancel.parsed is) p k had
transition_no_injection acks config now (signal.Answer key response) c output good is among p k had =
    answer_no_injection acks (awaited_request_branch response) config now key response c output good (parsed_no_injection response.parsed is) p k had
transition_no_injection acks config now (signal.Silent branch method) c output good is among p k had = timeout_of_no_injection acks (timed_out_branch branch method) config now c output good p k had
transition_no_injection acks config now (signal.Due what) c output good is among p k had = due_no_injection acks c.phase config now what c output good p k had
transition_no_injection acks config now (signal.Ended key) c output good is among p k had = key_transition acks key c output k p had

-- the ACKs that are received are the same without the requests in flight
same_in : (acks : List ReceivedAck) (config : CallConfigView) (phase : Phase) (c : Call) (side : Side) (ack : MessageView) → AreAmong (received_acks_in config phase c side ack) acks →
    AreAmong (received_acks_in config phase (without_in_flight c) side ack) acks
same_in acks config (Offered x) c side ack among = among
same_in acks config (Established x stage) c side ack among = among
same_in acks config (Detached detached) c side ack among = among
same_in acks config (Over cause) c side ack among = among

same_by : (acks : List ReceivedAck) (config : CallConfigView) (received : Signal) (c : Call) → AreAmong (received_acks_by config received c) acks → AreAmong (received_acks_by config received (without_in_flight c)) acks
same_by acks config (signal.Request side key request) c among = among
same_by acks config (signal.Ack side ack) c among = same_in acks config c.phase c side ack among
same_by acks config (signal.Cancel key cancel invite) c among = among
same_by acks config (signal.Answer key response) c among = among
same_by acks config (signal.Silent branch method) c among = among
same_by acks config (signal.Due what) c among = among
same_by acks config (signal.Ended key) c among = among

pub step_no_injection : (acks : List ReceivedAck) (config : CallConfigView) (now : SnapshotView) (received : Signal) (c : Call) (output : StepOutput) → IsGood config now →
    SignalHasNoInjection received → AreAmong (received_acks_by config received c) acks → PhaseHasNoInjection acks c.phase → CallHasNoInjection acks c → OutputHasNoInjection acks output →
    StepHasNoInjection acks (step config now received c output)
unfolding step
step_no_injection acks config now received c output good is among p k had =
    if_step acks (leaves received c) (transition config now received (without_in_flight c) (output_after_dismissal config c output)) (transition config now received c output)
    (transition_no_injection acks config now received (without_in_flight c) (output_after_dismissal config c output) good is (same_by acks config received c among) p (dismissed_kept acks c k)
    (dismissing_no_injection acks config c output k had))
    (transition_no_injection acks config now received c output good is among p k had)

-- ---- as it opens

kept_routes_no_injection : (sip : Addr) (values : List (List ℕ)) → HaveNoInjection values → HaveNoInjection (remaining_routes sip values)
kept_routes_no_injection sip values e = by (begins_with_own_route sip values)
  where
    by : (t : Bool) → HaveNoInjection (if t then drop 1 values else values)
    by true = all_drop (list_all is_value_byte) 1 values e
    by false = e

received_no_injection : (m : MessageView) → ParsedMessageHasNoInjection m.parsed → EntriesHaveNoInjection (received_history m)
received_no_injection m is = by (is_ok (entries_result (line_texts (codes "History-Info") m.parsed.lines)))
  where
    by : (t : Bool) → EntriesHaveNoInjection (if t then m.parsed.history else [])
    by true = is.history_in
    by false = refl

opening_no_injection : (config : CallConfigView) (now : SnapshotView) (tag : List ℕ) (a : Arrival) → ParsedMessageHasNoInjection a.invite.parsed → HasNoInjection (request_uri a.invite.parsed.start) →
    HasNoInjection tag → OpeningHasNoInjection (opening_of config now tag a)
opening_no_injection config now tag a is uri e = record { invite_in = is; uri_in = uri; tag_in = e; routes_in = kept_routes_no_injection config.sip a.invite.parsed.routes is.routes_in }

new_kept : (acks : List ReceivedAck) (config : CallConfigView) (o : Opening) → OpeningHasNoInjection o → CallHasNoInjection acks (new_call config o)
new_kept acks config o is = record { opening_in = is; history_in = received_no_injection o.invite is.invite_in; abandoned_in = tt; answered_in = tt; in_flight_in = tt }

unless_refused_no_injection : (acks : List ReceivedAck) (cause : Option Cause) (config : CallConfigView) (now : SnapshotView) (caller : Leg) (c : Call) (output : StepOutput) →
    IsGood config now → LegDialogHasNoInjection caller.dialogue → CallHasNoInjection acks c → OutputHasNoInjection acks output → StepHasNoInjection acks (unless_refused cause config now caller c output)
unless_refused_no_injection acks None config now caller c output good first k had =
    reach_no_injection acks config now caller None (initial_target c.opening) c output good (first_target_no_injection (request_uri c.opening.invite.parsed.start) no_target refl) first k had
unless_refused_no_injection acks (Some cause) config now caller c output good first k had = refused_no_injection acks config now.at caller cause c output k had

begins_no_injection : (acks : List ReceivedAck) (config : CallConfigView) (now : SnapshotView) (c : Call) (output : StepOutput) → IsGood config now → CallHasNoInjection acks c →
    OutputHasNoInjection acks output → StepHasNoInjection acks (opening_step config now c output)
begins_no_injection acks config now c output good k had =
    unless_refused_no_injection acks (opening_refusal config now.at c.opening) config now (caller_of now.at c) c (with_status_to_caller config c 100 output) good
    (opened_no_injection c.opening.invite.peer c.opening.invite.parsed.lines c.opening.tag k.opening_in.invite_in.lines_in k.opening_in.tag_in, k.opening_in.tag_in) k
    (status_to_caller_no_injection acks config c 100 output k had)

pub opened_step_no_injection : (acks : List ReceivedAck) (config : CallConfigView) (now : SnapshotView) (a : Arrival) (output : StepOutput) → IsGood config now → ParsedHasNoInjection a.invite.parsed →
    HasNoInjection (request_uri a.invite.parsed.start) → OutputHasNoInjection acks output → StepHasNoInjection acks (call_after_opening config now a output)
unfolding call_after_opening
opened_step_no_injection acks config now a output good is uri had =
    let o : Opening = opening_of config now (token output) a in
    begins_no_injection acks config now (new_call config o) (after_draw output) good
    (new_kept acks config o (opening_no_injection config now (token output) a (parsed_no_injection a.invite.parsed is) uri (token_no_injection acks output had))) had

-- ---- a leg is detached, and the call ends without it

pub record SoFarHasNoInjection (acks : List ReceivedAck) (c : Call) : Type 0 where
  pub kept : CallHasNoInjection acks c
  pub phase : PhaseHasNoInjection acks c.phase

detached_at_no_injection : (acks : List ReceivedAck) (stage : Stage) (side : Side) (x : EstablishedLegs) (c : Call) → EstablishedHasNoInjection acks x stage → CallHasNoInjection acks c →
    SoFarHasNoInjection acks (detached_at stage side x (at_phase (Established x stage) c))
detached_at_no_injection acks (Answered waiting success) side x c p k = record { kept = k; phase = p }
detached_at_no_injection acks (Departing waiting success) side x c p k = record { kept = k; phase = p }
detached_at_no_injection acks Stable Caller x c p k = record { kept = k; phase = p.legs_in.callee_in }
detached_at_no_injection acks Stable Callee x c p k = record { kept = k; phase = p.legs_in.caller_in }
detached_at_no_injection acks (Reinviting asking q) side x c p k = record { kept = k; phase = p }

pub detached_no_injection : (acks : List ReceivedAck) (phase : Phase) (side : Side) (c : Call) → PhaseHasNoInjection acks phase → CallHasNoInjection acks c →
    SoFarHasNoInjection acks (detached_in phase side (at_phase phase c))
detached_no_injection acks (Offered x) side c p k = record { kept = k; phase = p }
detached_no_injection acks (Established x stage) side c p k = detached_at_no_injection acks stage side x c p k
detached_no_injection acks (Detached detached) side c p k = record { kept = k; phase = p }
detached_no_injection acks (Over cause) side c p k = record { kept = k; phase = p }

-- the leg that is detached
removed_side_no_injection : (side : Side) (x : EstablishedLegs) → LegsHaveNoInjection x → LegHasNoInjection (removed_leg side x)
removed_side_no_injection Caller x is = record { dialog = is.caller_in.0; tag = is.caller_in.1 }
removed_side_no_injection Callee x is = record { dialog = is.callee_in.0; tag = is.callee_in.1 }

removed_at_no_injection : (stage : Stage) (side : Side) (x : EstablishedLegs) → LegsHaveNoInjection x → IfSome (removed_leg_at stage side x) LegHasNoInjection
removed_at_no_injection (Answered waiting success) side x is = tt
removed_at_no_injection (Departing waiting success) side x is = tt
removed_at_no_injection Stable side x is = removed_side_no_injection side x is
removed_at_no_injection (Reinviting asking q) side x is = tt

pub removed_leg_no_injection : (acks : List ReceivedAck) (phase : Phase) (side : Side) → PhaseHasNoInjection acks phase → IfSome (removed_leg_in phase side) LegHasNoInjection
removed_leg_no_injection acks (Offered x) side p = tt
removed_leg_no_injection acks (Established x stage) side p = removed_at_no_injection stage side x p.legs_in
removed_leg_no_injection acks (Detached detached) side p = tt
removed_leg_no_injection acks (Over cause) side p = tt

-- the leg that is put back
restored_legs_no_injection : (away : Released) (detached : DetachedLeg) → LegHasNoInjection away → LegDialogHasNoInjection (released_leg detached.remaining).dialogue → LegsHaveNoInjection (legs_with away detached)
restored_legs_no_injection (released.Caller leg) detached is p = record { caller_in = (is.dialog, is.tag); callee_in = p }
restored_legs_no_injection (released.Callee leg) detached is p = record { caller_in = p; callee_in = (is.dialog, is.tag) }

pub restored_no_injection : (acks : List ReceivedAck) (phase : Phase) (away : Released) (c : Call) → LegHasNoInjection away → PhaseHasNoInjection acks phase → CallHasNoInjection acks c →
    SoFarHasNoInjection acks (with_leg_restored phase away (at_phase phase c))
restored_no_injection acks (Offered x) away c is p k = record { kept = k; phase = p }
restored_no_injection acks (Established x stage) away c is p k = record { kept = k; phase = p }
restored_no_injection acks (Detached detached) away c is p k = record { kept = k; phase = record { legs_in = restored_legs_no_injection away detached is p; stage_in = tt } }
restored_no_injection acks (Over cause) away c is p k = record { kept = k; phase = p }

finished_in_no_injection : (acks : List ReceivedAck) (phase : Phase) (config : CallConfigView) (at : ℕ) (c : Call) (output : StepOutput) → PhaseHasNoInjection acks phase → CallHasNoInjection acks c →
    OutputHasNoInjection acks output → StepHasNoInjection acks (finish_of_phase phase config at (at_phase phase c) output)
finished_in_no_injection acks (Offered x) config at c output p k had = onward_no_injection acks (at_phase (Offered x) c) output k p had
finished_in_no_injection acks (Established x stage) config at c output p k had = onward_no_injection acks (at_phase (Established x stage) c) output k p had
finished_in_no_injection acks (Detached detached) config at c output p k had =
    let left : Call = at_phase (Detached detached) c in
    let told : StepOutput = output_after_dismissal config left output in
    over_no_injection acks at Ended (lending.caller_meter_of detached.remaining detached.meter) (target_meter_of detached.remaining detached.meter) (without_in_flight left)
    (with_bye config.sip (released_leg detached.remaining).dialogue told) (dismissed_kept acks left k)
    (bye_no_injection acks config.sip (released_leg detached.remaining).dialogue told p.0 (dismissing_no_injection acks config left output k had))
finished_in_no_injection acks (Over cause) config at c output p k had = onward_no_injection acks (at_phase (Over cause) c) output k p had

pub finished_no_injection : (acks : List ReceivedAck) (config : CallConfigView) (at : ℕ) (c : Call) (output : StepOutput) → SoFarHasNoInjection acks c → OutputHasNoInjection acks output →
    StepHasNoInjection acks (call_finish config at c output)
unfolding call_finish
finished_no_injection acks config at c output is had = finished_in_no_injection acks c.phase config at c output is.phase is.kept had

-- ---- traces

pub first_no_injection : (acks : List ReceivedAck) (s : TraceStart) → TraceStartHasNoInjection acks s → StepHasNoInjection acks (first_step s)
first_no_injection acks s is = opened_step_no_injection acks s.config s.now s.arrival s.output (record { home_in = is.home; sheets_in = is.sheets }) is.invite is.uri is.output

next_no_injection : (acks : List ReceivedAck) (s : TraceStart) (x : TraceStep) (c : Call) → TraceStartHasNoInjection acks s → traces.TraceStepHasNoInjection acks x →
    AreAmong (received_acks_by s.config x.signal c) acks → SoFarHasNoInjection acks c →
    StepHasNoInjection acks (next_step s x c)
next_no_injection acks s x c is had among so_far =
    step_no_injection acks s.config x.now x.signal c x.output (record { home_in = is.home; sheets_in = had.sheets }) had.signal among so_far.phase so_far.kept had.output

call_no_injection : (acks : List ReceivedAck) (s : TraceStart) (received : List TraceStep) → TraceStartHasNoInjection acks s → Each (traces.TraceStepHasNoInjection acks) received →
    AreAmong (received_acks_after s received) acks →
    SoFarHasNoInjection acks (call_after s received)
unfolding call_after
call_no_injection acks s [] is each among = let one = first_no_injection acks s is in record { kept = one.kept; phase = one.phase }
call_no_injection acks s (x ∷ earlier) is each among =
    let one = next_no_injection acks s x (call_after s earlier) is each.0 (front_among acks (received_acks_by s.config x.signal (call_after s earlier)) (received_acks_after s earlier) among)
    (call_no_injection acks s earlier is each.1 (back_among acks (received_acks_by s.config x.signal (call_after s earlier)) (received_acks_after s earlier) among)) in
    record { kept = one.kept; phase = one.phase }

pub emits_have_no_injection : EmitsHaveNoInjection
emits_have_no_injection acks s [] is each among = (first_no_injection acks s is).output.out_in
emits_have_no_injection acks s (x ∷ earlier) is each among =
    (next_no_injection acks s x (call_after s earlier) is each.0 (front_among acks (received_acks_by s.config x.signal (call_after s earlier)) (received_acks_after s earlier) among)
    (call_no_injection acks s earlier is each.1 (back_among acks (received_acks_by s.config x.signal (call_after s earlier)) (received_acks_after s earlier) among))).output.out_in

pub finish_emits_have_no_injection : FinishEmitsHaveNoInjection
finish_emits_have_no_injection acks s received side at output is each among had =
    let c : Call = call_after s received in
    let so_far = call_no_injection acks s received is each among in
    (finished_no_injection acks s.config at (detached_in c.phase side c) output (detached_no_injection acks c.phase side c so_far.phase so_far.kept) had).output.out_in

-- ---- their texts

own_fields : (m : Message StartLine) → MessageHasNoInjection m → HasOwnFields m
own_fields m is = record { parted = splits m is; no_injection = cleans m is }

emit_lines : (acks : List ReceivedAck) (e : Emit) → EmitHasNoInjection acks e → SendsOwnFields acks e
emit_lines acks (emit.Ask peer m) is = own_fields m is
emit_lines acks (emit.Reply key m) is = own_fields m is
emit_lines acks (emit.Plain peer text) is = (is.dialogue, is.parts, is.passes, is.is, own_fields (ack_of is.dialogue is.parts) is.no_injection)
emit_lines acks (emit.Ack key m) is = own_fields m is
emit_lines acks (emit.Settled key own) is = tt
emit_lines acks (emit.Arm call what at) is = tt
emit_lines acks (emit.ArmSeat room seat what at) is = tt

pub each_lines : (acks : List ReceivedAck) (out : List Emit) → Each (EmitHasNoInjection acks) out → Each (SendsOwnFields acks) out
each_lines acks [] each = tt
each_lines acks (e ∷ out) each = (emit_lines acks e each.0, each_lines acks out each.1)

pub emits_have_own_fields : EmitsHaveOwnFields
emits_have_own_fields acks s received is each among = each_lines acks (output_after s received).out (emits_have_no_injection acks s received is each among)
