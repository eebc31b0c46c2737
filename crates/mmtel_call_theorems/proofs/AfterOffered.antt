-- A call that is not offered any more sends no INVITE to a target, and no final response to the INVITE that opened it.
use Rattle.std.proofs.Common.{◌≡◌, ℕ, zero, suc, ◌==◌, Bool, true, false, not, List, [], ◌∷◌, ◌++◌, length, drop, refl, ap, sym, subst, ◌∙◌, append_assoc}
use Rattle.std.proofs.lemmas.List.{append-nil, drop_at}
use Rattle.std.specs.List.{filter}
use Rattle.std.specs.Prelude.{IfSome, codes, Option, Some, None, if◌then◌else◌, nat_lt, position, slice_get, Result, Ok, Err}
use Rattle.mmtel_compose.specs.Responses.{allow_lines}
use Rattle.mmtel_compose.specs.ReceivedMessages.{MessageView, status_of}
use Rattle.mmtel_output.specs.Outputs.{after_draw, with_emit}
use Rattle.mmtel_output.specs.SentInvites.{is_cancellable, with_key, with_provisional}
use Rattle.mmtel_output.specs.ResponseMatching.{awaited_request_branch, timed_out_branch}
use Rattle.mmtel_output.specs.AbandonedInvites as abandoned_invites
use Rattle.mmtel_output.specs.AbandonedInvites.{after_provisional, ended_dialog, is_of_branch, on_response, on_success_in, with_invite}
use Rattle.mmtel_output.specs.Sending.{with_ack, with_bye, with_cancel, with_due_cancel, with_final_ack}
use Rattle.mmtel_output.specs.declared.outputs.StepOutput.{StepOutput}
use Rattle.mmtel_output.specs.declared.sent_invites.SentInvite.{SentInvite}
use Rattle.mmtel_output.specs.declared.sent_invites.AbandonedInvite.{AbandonedInvite}
use Rattle.mmtel_leg.specs.Legs.{Leg}
use Rattle.mmtel_leg.specs.Releases.{released_leg}
use Rattle.mmtel_leg.specs.Remotes.{remote_of}
use Rattle.mmtel_leg.specs.declared.dialogues.Dialogue.{Dialogue}
use Rattle.mmtel_leg.specs.declared.dialogues.DialogueFault.{DialogueFault}
use Rattle.mmtel_leg.specs.declared.dialogues.DialogueFault.TheVariants.{OldCSeq, Pending, Unfinished}
use Rattle.mmtel_leg.specs.declared.remotes.Remote.{Remote}
use Rattle.mmtel_message.specs.Faults.{is_method}
use Rattle.mmtel_message.specs.Message.{Message}
use Rattle.mmtel_message.specs.declared.messages.Start.{Start as StartLine}
use Rattle.mmtel_precedence.specs.Attempts as statuses
use Rattle.mmtel_precedence.specs.Calls.{AttemptEndView, SnapshotView}
use Rattle.mmtel_precedence.specs.Services.{DueDiversionView}
use Rattle.mmtel_precedence.specs.NextSteps.{EndAnswered, EndDivert, EndRefuse, NextStepView, StepAfterAttemptView, StepDivert, StepOffer, StepRefuse}
use Rattle.mmtel_precedence.specs.Verdicts.{too_many}
use Rattle.mmtel_reliable.specs.declared.racks.Rack.{Rack}
use Rattle.mmtel_served_user.specs.declared.targets.Target.{Target}
use Rattle.mmtel_transaction.specs.declared.words.Emit.{Emit}
use Rattle.mmtel_transaction.specs.declared.words.Emit.TheVariants as emit
use Rattle.mmtel_transaction.specs.declared.words.TKey.{TKey}
use Rattle.mmtel_trust.specs.ParsedMessage.{ParsedMessage}
use Rattle.mmtel_types.specs.Sides.{other_side}
use Rattle.mmtel_types.specs.declared.addrs.Addr.{Addr}
use Rattle.mmtel_types.specs.declared.causes.Cause.{Cause}
use Rattle.mmtel_types.specs.declared.sides.Side.{Side}
use Rattle.mmtel_types.specs.declared.sides.Side.TheVariants.{Caller, Callee}
use Rattle.mmtel_call_services.specs.Decisions.{decision_after, decision_at, diversion_target, is_status, peer_for, relayed_status, service_at}
use Rattle.mmtel_call_services.specs.Opening.{initial_target, opening_refusal}
use Rattle.mmtel_call_services.specs.Requests.{is_same_side}
use Rattle.mmtel_call_services.specs.CallConfig.{CallConfigView, further_methods}
use Rattle.mmtel_call_services.specs.declared.openings.Service.{Service}
use Rattle.mmtel_call.specs.Answered.{acknowledges, at_stage, leg_of, with_ack_and_bye, with_bye_to, with_leg}
use Rattle.mmtel_call.specs.Closing.{StepResult, call_end, established_call_end, step_result, with_past}
use Rattle.mmtel_call.specs.Diverting.{at_target, call_after_diversion, call_refusal, diversion_refusal, diversion_step, diversion_unless_refused}
use Rattle.mmtel_call.specs.Diverting.{divert, is_diverted, on_end, on_next_step, relayed_refusal, with_notification_of, with_unoffered_meter}
use Rattle.mmtel_call.specs.RelayedTransactions as in_flight
use Rattle.mmtel_call.specs.OtherRequests.{as_abandoned, is_answered_invite, is_fork, is_stable, is_success, on_other_response, on_other_response_at, on_other_timeout}
use Rattle.mmtel_call.specs.OtherRequests.{on_other_timeout_at, on_response_abandoned, on_response_answered, on_response_answered_at, with_retransmitted_ack}
use Rattle.mmtel_call.specs.Detaching.{call_finish, finish_of_phase}
use Rattle.mmtel_call.specs.Opening.{call_after_opening, caller_of, new_call, unless_refused}
use Rattle.mmtel_call.specs.Reinvites.{abandoned_across, ends_dialog, on_accepted_reinvite, on_provisional_across, with_byes, with_refusal_back, with_relayed_back}
use Rattle.mmtel_call.specs.Reliable.{named_rseq, on_named_prack, on_rack, on_refused_prack, rack_in}
use Rattle.mmtel_call.specs.Requests.{is_bye, is_invite, is_prack, is_update, leg_after_receiving, request_check, with_refused_request, with_response_to, with_unlisted_response}
use Rattle.mmtel_call.specs.Ringing.{with_attempt_cancel, attempt_after_request, call_without_attempt, on_valid_request, on_other}
use Rattle.mmtel_call.specs.Ringing.{on_prack_of, on_request_if, offered_request_check, with_abandoned, with_ack_timer, expiry_in}
use Rattle.mmtel_call.specs.Sending.{with_relay_to_caller, with_status_to, with_status_to_caller}
use Rattle.mmtel_call.specs.Stages.{after_bye_at, after_timer_at, busy_in, has_departed, is_due_at, on_ack_at, on_bye, on_cancel_at, on_invite, on_request_at_if, on_response_at, on_timeout_at}
use Rattle.mmtel_call.specs.Table.{current_invite_at, is_branch, leaves, on_response_to, on_timeout_of, step, transition}
use Rattle.mmtel_call.specs.Updates.{accepts_updates, on_early_update, on_stable_update, on_update, on_update_at, unless_updating}
use Rattle.mmtel_call.specs.declared.calls.Call.{Call}
use Rattle.mmtel_call.specs.declared.calls.RelayedTransaction.{RelayedTransaction}
use Rattle.mmtel_call.specs.declared.calls.RelayedKind.{RelayedKind}
use Rattle.mmtel_call.specs.declared.calls.RelayedKind.TheVariants.{Prack, Update}
use Rattle.mmtel_call.specs.declared.calls.DetachedLeg.{DetachedLeg}
use Rattle.mmtel_call.specs.declared.calls.EstablishedLegs.{EstablishedLegs}
use Rattle.mmtel_call.specs.declared.calls.Phase.{Phase}
use Rattle.mmtel_call.specs.declared.calls.Phase.TheVariants.{Detached, Established, Offered, Over}
use Rattle.mmtel_call.specs.declared.calls.Reinvite.{Reinvite}
use Rattle.mmtel_call.specs.declared.calls.Stage.{Stage}
use Rattle.mmtel_call.specs.declared.calls.Stage.TheVariants.{Answered, Departing, Reinviting, Stable}
use Rattle.mmtel_call.specs.declared.calls.AnsweredInvite.{AnsweredInvite}
use Rattle.mmtel_call.specs.declared.calls.OfferedAttempt.{OfferedAttempt}
use Rattle.mmtel_call.specs.declared.signals.Signal.{Signal}
use Rattle.mmtel_call.specs.declared.signals.Signal.TheVariants as signal
use Rattle.mmtel_call_theorems.specs.Endings.{end_in}
use Rattle.mmtel_call_theorems.specs.Theorems.{ShowsNothingLater}
use Rattle.mmtel_call_theorems.specs.Labels.{Accepted, HasOtherKey, InFlightHasOtherKeys, Invited, Label, PhaseHasOtherKey, Refused, StageHasOtherKey}
use Rattle.mmtel_call_theorems.specs.Labels.{final_label, is_offered, is_reinvite, label_of, labels_of, labels_of_step, without_relayed_invite}
use Rattle.mmtel_call_theorems.specs.CallTrace.{TraceStart, first_step, items_added, opening_in}
use Rattle.mmtel_call_theorems.proofs.AttemptOutcomes as faring
use Rattle.mmtel_call_theorems.proofs.Continuation as answering
use Rattle.mmtel_call_theorems.proofs.Dismissal.{nothing_in_flight}
use Rattle.mmtel_call_theorems.proofs.RelayedOfOthers.{flies}
use Rattle.mmtel_call_theorems.proofs.Each.{each_filter, each_get}
use Rattle.mmtel_call_theorems.proofs.DiversionBoundSteps as lowering
use Rattle.mmtel_call_theorems.proofs.Labels.{labels-append}
use Rattle.mmtel_call_theorems.proofs.UnchangedCalls.{other-untouched, timed-out-untouched}
use Rattle.mmtel_session.specs.Intervals.{expiry_interval_of}

-- ---- what a step adds, as it is observed

record Adds (key : TKey) (before after : StepOutput) (signs : List Label) : Type 0 where
  new : List Emit
  out : after.out ≡ before.out ++ new
  seen : labels_of key new ≡ signs

-- nothing that is observed
abbrev IsUnseen : TKey → StepOutput → StepOutput → Type 0
IsUnseen key before after = Adds key before after []

nothing : (key : TKey) (output : StepOutput) → IsUnseen key output output
nothing key output = record { new = []; out = sym (append-nil output.out); seen = refl }

adds-then : (key : TKey) (one two three : StepOutput) (xs ys : List Label) → Adds key one two xs → Adds key two three ys → Adds key one three (xs ++ ys)
adds-then key one two three xs ys p q = record {
  new = p.new ++ q.new;
  out = q.out ∙ ap (λ l. l ++ q.new) p.out ∙ append_assoc one.out p.new q.new;
  seen = labels-append key p.new q.new ∙ ap (λ l. l ++ labels_of key q.new) p.seen ∙ ap (λ l. xs ++ l) q.seen;
}

adds-emit : (key : TKey) (output : StepOutput) (e : Emit) (signs : List Label) → label_of key e ≡ signs → Adds key output (with_emit e output) signs
adds-emit key output e signs f = record { new = e ∷ []; out = refl; seen = append-nil (label_of key e) ∙ f }

unseen-drew : (key : TKey) (output : StepOutput) → IsUnseen key output (after_draw output)
unseen-drew key output = record { new = []; out = sym (append-nil output.out); seen = refl }

adds-if : (key : TKey) (before : StepOutput) (b : Bool) (one two : StepOutput) (signs : List Label) → Adds key before one signs → Adds key before two signs → Adds key before (if b then one else two) signs
adds-if key before true one two signs p q = p
adds-if key before false one two signs p q = q

step-if : (key : TKey) (before : StepOutput) (b : Bool) (one two : StepResult) → IsUnseen key before one.output → IsUnseen key before two.output → IsUnseen key before (if b then one else two).output
step-if key before true one two e f = e
step-if key before false one two e f = f

-- ---- what is sent

if-other : (b : Bool) (signs : List Label) → b ≡ false → (if b then signs else []) ≡ []
if-other true signs e = absurd (let f : true ≡ false = e in cc)
if-other false signs e = refl

-- a reply to another request
unseen-reply : (key asked : TKey) (m : Message StartLine) (output : StepOutput) → (asked.0 == key.0) ≡ false → IsUnseen key output (with_emit (emit.Reply asked m) output)
unseen-reply key asked m output e = adds-emit key output (emit.Reply asked m) [] (if-other (asked.0 == key.0) (final_label (status_of m.start)) e)

unseen-cancelled : (key : TKey) (sip : Addr) (i : SentInvite) (output : StepOutput) → IsUnseen key output (with_due_cancel sip i output)
unseen-cancelled key sip i output = adds-if key output (is_cancellable i) (with_cancel sip i output) output [] (adds-emit key output _ [] refl) (nothing key output)

unseen-acked : (key : TKey) (sip : Addr) (d : Dialogue) (output : StepOutput) → IsUnseen key output (with_ack sip d output)
unseen-acked key sip d output = adds-then key output (after_draw output) (with_ack sip d output) [] [] (unseen-drew key output) (adds-emit key (after_draw output) _ [] refl)

unseen-bye : (key : TKey) (sip : Addr) (d : Dialogue) (output : StepOutput) → IsUnseen key output (with_bye sip d output)
unseen-bye key sip d output = adds-then key output (after_draw output) (with_bye sip d output) [] [] (unseen-drew key output) (adds-emit key (after_draw output) _ [] refl)

unseen-final-acked : (key asked : TKey) (sip : Addr) (i : SentInvite) (m : ParsedMessage) (output : StepOutput) → IsUnseen key output (with_final_ack sip asked i m output)
unseen-final-acked key asked sip i m output = adds-emit key output _ [] refl

unseen-refused_request : (key : TKey) (config : CallConfigView) (c : Call) (asked : TKey) (m : MessageView) (fault : DialogueFault) (output : StepOutput) → (asked.0 == key.0) ≡ false →
    IsUnseen key output (with_refused_request config c asked m fault output)
unseen-refused_request key config c asked m (OldCSeq last) output e = unseen-reply key asked _ output e
unseen-refused_request key config c asked m Pending output e = unseen-reply key asked _ output e
unseen-refused_request key config c asked m Unfinished output e = unseen-reply key asked _ output e

unseen-unlisted : (key : TKey) (config : CallConfigView) (c : Call) (asked : TKey) (m : MessageView) (output : StepOutput) → (asked.0 == key.0) ≡ false →
    IsUnseen key output (with_unlisted_response config c asked m output)
unseen-unlisted key config c asked m output e =
    adds-if key output (is_method (codes "OPTIONS") m.parsed.start) (with_response_to config c asked m 200 (allow_lines (further_methods config)) output)
    (if is_method (codes "REFER") m.parsed.start then with_status_to config c asked m 403 output else with_status_to config c asked m 481 output) [] (unseen-reply key asked _ output e)
    (adds-if key output (is_method (codes "REFER") m.parsed.start) (with_status_to config c asked m 403 output) (with_status_to config c asked m 481 output) [] (unseen-reply key asked _ output e)
    (unseen-reply key asked _ output e))

-- ---- an INVITE for which the call does not wait

success-unseen : (key : TKey) (sip : Addr) (l : AbandonedInvite) (remote : Remote) (d : Option Dialogue) (output : StepOutput) → IsUnseen key output (on_success_in sip l remote d output).output
success-unseen key sip l remote None output =
    let d = abandoned_invites.dialogue_of_success l.in_dialog l.invite.early l.invite.early_cseq l.invite.dialogue remote in
    adds-then key output (with_ack sip d output) (with_bye sip d (with_ack sip d output)) [] [] (unseen-acked key sip d output) (unseen-bye key sip d (with_ack sip d output))
success-unseen key sip l remote (Some d) output = unseen-acked key sip d output

rest-if : (key : TKey) (before : StepOutput) (b : Bool) (one two : abandoned_invites.AfterResponse) → IsUnseen key before one.output → IsUnseen key before two.output → IsUnseen key before (if b then one else two).output
rest-if key before true one two e f = e
rest-if key before false one two e f = f

rest-unseen : (key : TKey) (sip : Addr) (asked : TKey) (m : ParsedMessage) (l : AbandonedInvite) (output : StepOutput) → IsUnseen key output (on_response sip asked m l output).output
rest-unseen key sip asked m l output =
    let taken = with_invite l (with_key asked l.invite) in
    let said = after_provisional asked m l in
    let remote = remote_of Callee m.lines in
    rest-if key output (nat_lt (status_of m.start) 200) _ _
    (rest-if key output said.invite.cancelled _ _ (nothing key output) (adds-emit key output _ [] refl))
    (rest-if key output (nat_lt (status_of m.start) 300) _ _ (success-unseen key sip taken remote (ended_dialog taken remote.tag) output) (unseen-final-acked key asked sip l.invite m output))

again-unseen : (key : TKey) (t : AnsweredInvite) (text : Option (List ℕ)) (output : StepOutput) → IsUnseen key output (with_retransmitted_ack t text output)
again-unseen key t None output = nothing key output
again-unseen key t (Some text) output = adds-emit key output _ [] refl

abandoned-unseen : (key : TKey) (config : CallConfigView) (asked : TKey) (m : MessageView) (at : ℕ) (l : Option AbandonedInvite) (c : Call) (output : StepOutput) →
    IsUnseen key output (on_response_abandoned config asked m at l c output).output
abandoned-unseen key config asked m at None c output = nothing key output
abandoned-unseen key config asked m at (Some l) c output = rest-unseen key config.sip asked m.parsed l output

answered-unseen : (key : TKey) (config : CallConfigView) (asked : TKey) (m : MessageView) (at : ℕ) (t : Option AnsweredInvite) (c : Call) (output : StepOutput) →
    IsUnseen key output (on_response_answered config asked m at t c output).output
answered-unseen key config asked m at None c output = nothing key output
answered-unseen key config asked m at (Some t) c output =
    step-if key output (not (is_success (status_of m.parsed.start))) _ _ (nothing key output)
    (step-if key output (is_fork t m) _ _ (rest-unseen key config.sip asked m.parsed (as_abandoned t) output)
    (adds-if key output (is_stable c.phase) (with_retransmitted_ack t t.invite.ack output) output [] (again-unseen key t t.invite.ack output) (nothing key output)))

-- ---- requests in flight

-- the deadline for the session of a 2xx
expiry-shows : (key : TKey) (timer : Bool) (time : Option ℕ) (at : ℕ) (c : Call) → labels_of key (if timer then expiry_in time at c else []) ≡ []
expiry-shows key true None at c = refl
expiry-shows key true (Some time) at c = refl
expiry-shows key false time at c = refl

expiry-unseen : (key : TKey) (timer : Bool) (time : Option ℕ) (at : ℕ) (c : Call) (output : StepOutput) → IsUnseen key output (record output { out = output.out ++ (if timer then expiry_in time at c else []) })
expiry-unseen key timer time at c output = record { new = if timer then expiry_in time at c else []; out = refl; seen = expiry-shows key timer time at c }

-- of another request than the one of this server transaction
abbrev IsOther : TKey → RelayedTransaction → Type 0
IsOther key flight = (flight.exchange.key.0 == key.0) ≡ false

agreed-unseen : (key : TKey) (kind : RelayedKind) (config : CallConfigView) (at : ℕ) (side : Side) (request response : MessageView) (c : Call) (output : StepOutput) →
    IsUnseen key output (in_flight.on_accepted_in_flight kind config at side request response c output).output
agreed-unseen key Prack config at side request response c output = nothing key output
agreed-unseen key Update config at side request response c output = expiry-unseen key config.timer (expiry_interval_of response.parsed.session) at c output

relayed-unseen : (key : TKey) (config : CallConfigView) (at : ℕ) (m : MessageView) (code place : ℕ) (o : Option RelayedTransaction) (c : Call) (output : StepOutput) → IfSome o (IsOther key) →
    IsUnseen key output (in_flight.on_response_relayed config at m code place o c output).output
relayed-unseen key config at m code place None c output other = nothing key output
relayed-unseen key config at m code place (Some flight) c output other =
    let gone : Call = in_flight.without_transaction place c in
    let back : StepOutput = in_flight.with_response_back config flight m gone output in
    let passed : IsUnseen key output back = unseen-reply key flight.exchange.key _ output other in
    step-if key output (nat_lt code 200) (step_result c output) (in_flight.on_final_relayed config at flight m code gone output) (nothing key output)
    (step-if key output (statuses.is_success code) (in_flight.on_accepted_in_flight flight.kind config at flight.side flight.exchange.request m gone back) (step_result gone back)
    (adds-then key output back _ [] [] passed (agreed-unseen key flight.kind config at flight.side flight.exchange.request m gone back)) passed)

in-flight-unseen : (key : TKey) (config : CallConfigView) (at : ℕ) (m : MessageView) (o : Option ℕ) (c : Call) (output : StepOutput) → InFlightHasOtherKeys key c.relayed →
    IsUnseen key output (in_flight.on_response_in_flight config at m o c output).output
in-flight-unseen key config at m None c output fly = nothing key output
in-flight-unseen key config at m (Some place) c output fly = relayed-unseen key config at m (status_of m.parsed.start) place (slice_get c.relayed place) c output (each_get (IsOther key) c.relayed place fly)

timed-out_relayed-unseen : (key : TKey) (config : CallConfigView) (place : ℕ) (o : Option RelayedTransaction) (c : Call) (output : StepOutput) → IfSome o (IsOther key) →
    IsUnseen key output (in_flight.on_timeout_relayed config place o c output).output
timed-out_relayed-unseen key config place None c output other = nothing key output
timed-out_relayed-unseen key config place (Some flight) c output other = unseen-reply key flight.exchange.key _ output other

timed-out_in-flight-unseen : (key : TKey) (config : CallConfigView) (o : Option ℕ) (c : Call) (output : StepOutput) → InFlightHasOtherKeys key c.relayed →
    IsUnseen key output (in_flight.on_timeout_in_flight config o c output).output
timed-out_in-flight-unseen key config None c output fly = nothing key output
timed-out_in-flight-unseen key config (Some place) c output fly = timed-out_relayed-unseen key config place (slice_get c.relayed place) c output (each_get (IsOther key) c.relayed place fly)

timed-out_at-unseen : (key : TKey) (config : CallConfigView) (branch : List ℕ) (o : Option ℕ) (c : Call) (output : StepOutput) → InFlightHasOtherKeys key c.relayed →
    IsUnseen key output (on_other_timeout_at config branch o c output).output
timed-out_at-unseen key config branch None c output fly = timed-out_in-flight-unseen key config (position (in_flight.is_in_flight branch) c.relayed) c output fly
timed-out_at-unseen key config branch (Some place) c output fly = nothing key output

timed-out-unseen : (key : TKey) (config : CallConfigView) (branch : List ℕ) (c : Call) (output : StepOutput) → InFlightHasOtherKeys key c.relayed → IsUnseen key output (on_other_timeout config branch c output).output
timed-out-unseen key config branch c output fly = timed-out_at-unseen key config branch (position (is_of_branch branch) c.abandoned) c output fly

-- they are dismissed

settled-unseen : (key : TKey) (config : CallConfigView) (own : Option ℕ) (c : Call) (output : StepOutput) → IsUnseen key output (in_flight.with_settled config own c output)
settled-unseen key config own c output = adds-if key output config.reliable (with_emit (emit.Settled c.opening.key own) output) output [] (adds-emit key output _ [] refl) (nothing key output)

settled_in-unseen : (key : TKey) (phase : Phase) (config : CallConfigView) (c : Call) (output : StepOutput) → IsUnseen key output (in_flight.with_settled_in phase config c output)
settled_in-unseen key (Offered x) config c output = settled-unseen key config None c output
settled_in-unseen key (Established x stage) config c output = nothing key output
settled_in-unseen key (Detached detached) config c output = nothing key output
settled_in-unseen key (Over cause) config c output = nothing key output

each-unseen : (key : TKey) (config : CallConfigView) (c : Call) (flights : List RelayedTransaction) (output : StepOutput) → InFlightHasOtherKeys key flights →
    IsUnseen key output (in_flight.with_dismissals config c flights output)
each-unseen key config c [] output fly = nothing key output
each-unseen key config c (flight ∷ flights) output fly =
    let next : StepOutput = in_flight.with_dismissal config c flight output in
    adds-then key output next (in_flight.with_dismissals config c flights next) [] [] (unseen-reply key flight.exchange.key _ output fly.0) (each-unseen key config c flights next fly.1)

dismissing-unseen : (key : TKey) (config : CallConfigView) (c : Call) (output : StepOutput) → InFlightHasOtherKeys key c.relayed → IsUnseen key output (in_flight.output_after_dismissal config c output)
dismissing-unseen key config c output fly =
    let first : StepOutput = in_flight.with_dismissals config c (filter (λ flight. not (in_flight.is_updating flight)) c.relayed) output in
    let all : StepOutput = in_flight.with_all_dismissals config c output in
    adds-then key output all (in_flight.output_after_dismissal config c output) [] []
    (adds-then key output first all [] []
    (each-unseen key config c (filter (λ flight. not (in_flight.is_updating flight)) c.relayed) output (each_filter (IsOther key) (λ flight. not (in_flight.is_updating flight)) c.relayed fly))
    (each-unseen key config c (filter in_flight.is_updating c.relayed) first (each_filter (IsOther key) in_flight.is_updating c.relayed fly)))
    (settled_in-unseen key c.phase config c all)

-- ---- by the branch

answered_at-unseen : (key : TKey) (config : CallConfigView) (at : ℕ) (asked : TKey) (m : MessageView) (branch : List ℕ) (o : Option ℕ) (c : Call) (output : StepOutput) → InFlightHasOtherKeys key c.relayed →
    IsUnseen key output (on_response_answered_at config at asked m branch o c output).output
answered_at-unseen key config at asked m branch None c output fly = in-flight-unseen key config at m (position (in_flight.is_in_flight branch) c.relayed) c output fly
answered_at-unseen key config at asked m branch (Some place) c output fly = answered-unseen key config asked m place (slice_get c.answered_invites place) c output

at-unseen : (key : TKey) (config : CallConfigView) (at : ℕ) (asked : TKey) (m : MessageView) (branch : List ℕ) (o : Option ℕ) (c : Call) (output : StepOutput) → InFlightHasOtherKeys key c.relayed →
    IsUnseen key output (on_other_response_at config at asked m branch o c output).output
at-unseen key config at asked m branch None c output fly = answered_at-unseen key config at asked m branch (position (is_answered_invite branch) c.answered_invites) c output fly
at-unseen key config at asked m branch (Some place) c output fly = abandoned-unseen key config asked m place (slice_get c.abandoned place) c output

other-unseen : (key : TKey) (config : CallConfigView) (at : ℕ) (asked : TKey) (m : MessageView) (branch : List ℕ) (c : Call) (output : StepOutput) → InFlightHasOtherKeys key c.relayed →
    IsUnseen key output (on_other_response config at asked m branch c output).output
unfolding on_other_response
other-unseen key config at asked m branch c output fly = at-unseen key config at asked m branch (position (is_of_branch branch) c.abandoned) c output fly

-- ---- both sides

bye-to-unseen : (key : TKey) (config : CallConfigView) (x : EstablishedLegs) (side : Side) (output : StepOutput) → IsUnseen key output (with_bye_to config x side output)
bye-to-unseen key config x side output = unseen-bye key config.sip (leg_of side x).dialogue output

left-unseen : (key : TKey) (config : CallConfigView) (x : EstablishedLegs) (side : Side) (output : StepOutput) → IsUnseen key output (with_ack_and_bye config x side output)
left-unseen key config x side output =
    let acknowledged = with_ack config.sip (leg_of side x).dialogue output in
    adds-then key output acknowledged _ [] [] (unseen-acked key config.sip (leg_of side x).dialogue output) (bye-to-unseen key config x side acknowledged)

both-unseen : (key : TKey) (config : CallConfigView) (x : EstablishedLegs) (output : StepOutput) → IsUnseen key output (with_byes config x output)
both-unseen key config x output = adds-then key output (with_bye_to config x Caller output) _ [] [] (bye-to-unseen key config x Caller output) (bye-to-unseen key config x Callee (with_bye_to config x Caller output))

over-unseen : (key : TKey) (at : ℕ) (x : EstablishedLegs) (c : Call) (before output : StepOutput) → IsUnseen key before output → IsUnseen key before (established_call_end at x c output).output
over-unseen key at x c before output a = record { new = a.new; out = a.out; seen = a.seen }

-- ---- the request for which an established call waits remains another one

-- on what it receives while it is established
record Stays (key : TKey) (before : StepOutput) (s : StepResult) : Type 0 where
  unseen : IsUnseen key before s.output
  asks : PhaseHasOtherKey key s.call.phase

stays-if : (key : TKey) (before : StepOutput) (b : Bool) (one two : StepResult) → Stays key before one → Stays key before two → Stays key before (if b then one else two)
stays-if key before true one two e f = e
stays-if key before false one two e f = f

-- the phase is unchanged
as-it-was : (key : TKey) (before : StepOutput) (c : Call) (output : StepOutput) → PhaseHasOtherKey key c.phase → IsUnseen key before output → Stays key before (step_result c output)
as-it-was key before c output a u = record { unseen = u; asks = a }

ends-so : (key : TKey) (at : ℕ) (x : EstablishedLegs) (c : Call) (before output : StepOutput) → IsUnseen key before output → Stays key before (established_call_end at x c output)
ends-so key at x c before output u = record { unseen = over-unseen key at x c before output u; asks = tt }

module _ (key : TKey) (config : CallConfigView) (at : ℕ) where
  -- ---- requests, except INVITE

  left-by-stays : (stage : Stage) (x : EstablishedLegs) (side : Side) (m : MessageView) (c : Call) (output : StepOutput) → StageHasOtherKey key stage → Stays key output (after_bye_at stage config at x side m c output)
  left-by-stays (Answered waiting success) x side m c output a =
      stays-if key output (is_same_side waiting side) _ _ (ends-so key at x c output _ (left-unseen key config x (other_side side) output)) (record { unseen = nothing key output; asks = tt })
  left-by-stays (Departing waiting success) x side m c output a = ends-so key at x c output output (nothing key output)
  left-by-stays Stable x side m c output a =
      ends-so key at x c output _ (adds-then key output (after_draw output) _ [] [] (unseen-drew key output) (adds-emit key (after_draw output) _ [] refl))
  left-by-stays (Reinviting asking q) x side m c output a =
      let refused = with_status_to config c q.key q.request 487 output in
      ends-so key at x (with_abandoned (abandoned_across x asking side q) c) output _
      (adds-then key output refused (with_bye_to config x (other_side side) refused) [] [] (unseen-reply key q.key _ output a) (bye-to-unseen key config x (other_side side) refused))

  then-stays : (before output : StepOutput) (s : StepResult) → IsUnseen key before output → Stays key output s → Stays key before s
  then-stays before output s u r = record { unseen = adds-then key before output s.output [] [] u r.unseen; asks = r.asks }

  bye-stays : (stage : Stage) (x : EstablishedLegs) (side : Side) (asked : TKey) (m : MessageView) (c : Call) (output : StepOutput) → (asked.0 == key.0) ≡ false → StageHasOtherKey key stage →
      PhaseHasOtherKey key c.phase →
      Stays key output (on_bye stage config at x side asked m c output)
  bye-stays stage x side asked m c output other a now =
      let answered = with_status_to config c asked m 200 output in
      stays-if key output (has_departed stage side) _ _ (as-it-was key output c _ now (unseen-reply key asked _ output other))
      (then-stays output answered _ (unseen-reply key asked _ output other) (left-by-stays stage x side m c answered a))

  -- UPDATE of a side

  unless-stays : (flying : Option Side) (across : Call → StepOutput → StepResult) (side : Side) (asked : TKey) (m : MessageView) (c : Call) (output : StepOutput) → (asked.0 == key.0) ≡ false →
      PhaseHasOtherKey key c.phase → Stays key output (across c output) →
      Stays key output (unless_updating flying across config side asked m c output)
  unless-stays None across side asked m c output other now passes = passes
  unless-stays (Some flying) across side asked m c output other now passes =
      stays-if key output (is_same_side flying side) _ _ (as-it-was key output c _ now (unseen-reply key asked _ output other)) (as-it-was key output c _ now (unseen-reply key asked _ output other))

  update-stays : (stage : Stage) (x : EstablishedLegs) (side : Side) (asked : TKey) (m : MessageView) (c : Call) (output : StepOutput) → (asked.0 == key.0) ≡ false → PhaseHasOtherKey key c.phase →
      Stays key output (on_update_at stage config x side asked m c output)
  update-stays (Answered waiting success) x side asked m c output other now = as-it-was key output c _ now (unseen-reply key asked _ output other)
  update-stays (Departing waiting success) x side asked m c output other now = as-it-was key output c _ now (unseen-reply key asked _ output other)
  update-stays Stable x side asked m c output other now =
      unless-stays (in_flight.updating_side c.relayed) (on_stable_update config x side asked m) side asked m c output other now
      (record { unseen = adds-then key output (after_draw output) _ [] [] (unseen-drew key output) (adds-emit key (after_draw output) _ [] refl); asks = tt })
  update-stays (Reinviting asking q) x side asked m c output other now = as-it-was key output c _ now (unseen-reply key asked _ output other)

  rest-stays : (stage : Stage) (x : EstablishedLegs) (side : Side) (asked : TKey) (m : MessageView) (c : Call) (output : StepOutput) → (asked.0 == key.0) ≡ false → StageHasOtherKey key stage →
      PhaseHasOtherKey key c.phase →
      Stays key output
      (if is_bye m then on_bye stage config at x side asked m c output
      else if is_update m then on_update_at stage config x side asked m c output
      else if is_prack m then on_refused_prack config asked m c output
      else step_result c (with_unlisted_response config c asked m output))
  rest-stays stage x side asked m c output other a now =
      stays-if key output (is_bye m) _ _ (bye-stays stage x side asked m c output other a now)
      (stays-if key output (is_update m) _ _ (update-stays stage x side asked m c output other now)
      (stays-if key output (is_prack m) _ _ (as-it-was key output c _ now (unseen-reply key asked _ output other)) (as-it-was key output c _ now (unseen-unlisted key config c asked m output other))))

  -- ---- an INVITE within the call is relayed

  -- what is observed of a step on a request that may be an INVITE
  record Receives (within : Bool) (before : StepOutput) (s : StepResult) : Type 0 where
    labels : List Label
    adds : Adds key before s.output labels
    none : (if within then without_relayed_invite labels else labels) ≡ []
    asks : PhaseHasOtherKey key s.call.phase

  none-within : (within : Bool) → (if within then without_relayed_invite [] else []) ≡ []
  none-within true = refl
  none-within false = refl

  receives : (within : Bool) (before : StepOutput) (s : StepResult) → Stays key before s → Receives within before s
  receives within before s r = record { labels = []; adds = r.unseen; none = none-within within; asks = r.asks }

  invite-receives : (stage : Stage) (x : EstablishedLegs) (side : Side) (asked : TKey) (m : MessageView) (c : Call) (output : StepOutput) → (asked.0 == key.0) ≡ false → StageHasOtherKey key stage →
      c.phase ≡ Established x stage →
      Receives true output (on_invite stage config x side asked m c output)
  invite-receives (Answered waiting success) x side asked m c output other a is = receives true output _ (as-it-was key output c output (subst (PhaseHasOtherKey key) (sym is) tt) (nothing key output))
  invite-receives (Departing waiting success) x side asked m c output other a is = receives true output _ (as-it-was key output c output (subst (PhaseHasOtherKey key) (sym is) tt) (nothing key output))
  invite-receives Stable x side asked m c output other a is =
      let replied = with_status_to config c asked m 100 output in
      let to = (leg_of (other_side side) x).dialogue in
      record {
        labels = Invited to.target ∷ [];
        adds =
            adds-then key output replied _ [] (Invited to.target ∷ []) (unseen-reply key asked _ output other)
            (adds-then key replied (after_draw replied) _ [] (Invited to.target ∷ []) (unseen-drew key replied) (adds-emit key (after_draw replied) _ (Invited to.target ∷ []) refl));
        none = refl;
        asks = other;
      }
  invite-receives (Reinviting asking q) x side asked m c output other a is = receives true output _ (as-it-was key output c output (subst (PhaseHasOtherKey key) (sym is) a) (nothing key output))

  received-receives : (b : Bool) (stage : Stage) (x : EstablishedLegs) (side : Side) (asked : TKey) (m : MessageView) (c : Call) (output : StepOutput) → (asked.0 == key.0) ≡ false →
      StageHasOtherKey key stage → c.phase ≡ Established x stage →
      Receives b output
      (if b then on_invite stage config x side asked m c output
      else if is_bye m then on_bye stage config at x side asked m c output
      else if is_update m then on_update_at stage config x side asked m c output
      else if is_prack m then on_refused_prack config asked m c output
      else step_result c (with_unlisted_response config c asked m output))
  received-receives true stage x side asked m c output other a is = invite-receives stage x side asked m c output other a is
  received-receives false stage x side asked m c output other a is = receives false output _ (rest-stays stage x side asked m c output other a (subst (PhaseHasOtherKey key) (sym is) a))

  said-receives : (said : Result (Unit {0}) DialogueFault) (stage : Stage) (x : EstablishedLegs) (side : Side) (asked : TKey) (m : MessageView) (c : Call) (output : StepOutput) →
      (asked.0 == key.0) ≡ false → StageHasOtherKey key stage →
      Receives (is_invite m) output (on_request_at_if said stage config at x side asked m (at_stage x stage c) output)
  said-receives (Ok received) stage x side asked m c output other a =
      let y = with_leg side (leg_after_receiving (leg_of side x) m) x in received-receives (is_invite m) stage y side asked m (at_stage y stage c) output other a refl
  said-receives (Err fault) stage x side asked m c output other a =
      receives (is_invite m) output _ (as-it-was key output (at_stage x stage c) _ a (unseen-refused_request key config (at_stage x stage c) asked m fault output other))

  -- ---- ACK, CANCEL, deadlines, timeouts

  ack-stays : (stage : Stage) (x : EstablishedLegs) (side : Side) (m : MessageView) (c : Call) (output : StepOutput) → StageHasOtherKey key stage → PhaseHasOtherKey key c.phase →
      Stays key output (on_ack_at stage config at x side m c output)
  ack-stays (Answered waiting success) x side m c output a now =
      stays-if key output (acknowledges waiting success side m) _ _
      (record { unseen = adds-then key output (after_draw output) _ [] [] (unseen-drew key output) (adds-emit key (after_draw output) _ [] refl); asks = tt }) (as-it-was key output c output now (nothing key output))
  ack-stays (Departing waiting success) x side m c output a now =
      stays-if key output (acknowledges waiting success side m) _ _ (ends-so key at x c output _ (bye-to-unseen key config x side output)) (as-it-was key output c output now (nothing key output))
  ack-stays Stable x side m c output a now = as-it-was key output c output now (nothing key output)
  ack-stays (Reinviting asking q) x side m c output a now = as-it-was key output c output now (nothing key output)

  cancel-stays : (stage : Stage) (x : EstablishedLegs) (invite : TKey) (c : Call) (output : StepOutput) → StageHasOtherKey key stage → PhaseHasOtherKey key c.phase →
      Stays key output (on_cancel_at stage config x invite c output)
  cancel-stays (Answered waiting success) x invite c output a now = as-it-was key output c output now (nothing key output)
  cancel-stays (Departing waiting success) x invite c output a now = as-it-was key output c output now (nothing key output)
  cancel-stays Stable x invite c output a now = as-it-was key output c output now (nothing key output)
  cancel-stays (Reinviting asking q) x invite c output a now =
      stays-if key output (invite.0 == q.key.0) _ _ (record { unseen = unseen-cancelled key config.sip q.invite output; asks = a }) (as-it-was key output c output now (nothing key output))

  rung-stays : (stage : Stage) (x : EstablishedLegs) (c : Call) (output : StepOutput) → StageHasOtherKey key stage → Stays key output (after_timer_at stage config at x c output)
  rung-stays (Answered waiting success) x c output a =
      let left = with_ack_and_bye config x (other_side waiting) output in
      ends-so key at x c output _ (adds-then key output left (with_bye_to config x waiting left) [] [] (left-unseen key config x (other_side waiting) output) (bye-to-unseen key config x waiting left))
  rung-stays (Departing waiting success) x c output a = ends-so key at x c output _ (bye-to-unseen key config x waiting output)
  rung-stays Stable x c output a = ends-so key at x c output _ (both-unseen key config x output)
  rung-stays (Reinviting asking q) x c output a =
      let refused = with_status_to config c q.key q.request 487 output in
      ends-so key at x (with_abandoned (abandoned_across x asking asking q) c) output _
      (adds-then key output refused (with_byes config x refused) [] [] (unseen-reply key q.key _ output a) (both-unseen key config x refused))

  quiet-stays : (stage : Stage) (x : EstablishedLegs) (c : Call) (output : StepOutput) → StageHasOtherKey key stage → PhaseHasOtherKey key c.phase → Stays key output (on_timeout_at stage config at x c output)
  quiet-stays (Answered waiting success) x c output a now = as-it-was key output c output now (nothing key output)
  quiet-stays (Departing waiting success) x c output a now = as-it-was key output c output now (nothing key output)
  quiet-stays Stable x c output a now = as-it-was key output c output now (nothing key output)
  quiet-stays (Reinviting asking q) x c output a now =
      let refused = with_status_to config c q.key q.request 408 output in
      ends-so key at x c output _ (adds-then key output refused (with_byes config x refused) [] [] (unseen-reply key q.key _ output a) (both-unseen key config x refused))

  -- ---- responses

  refused-unseen : (x : EstablishedLegs) (side : Side) (q : Reinvite) (asked : TKey) (m : MessageView) (c : Call) (output : StepOutput) → (q.key.0 == key.0) ≡ false →
      IsUnseen key output (with_refusal_back config x side q asked m c output)
  refused-unseen x side q asked m c output a =
      let acknowledged = with_final_ack config.sip asked q.invite m.parsed output in
      adds-then key output acknowledged _ [] [] (unseen-final-acked key asked config.sip q.invite m.parsed output) (unseen-reply key q.key _ acknowledged a)

  across-stays : (x : EstablishedLegs) (side : Side) (q : Reinvite) (asked : TKey) (m : MessageView) (c : Call) (output : StepOutput) (provisional success ends : Bool) → (q.key.0 == key.0) ≡ false →
      Stays key output (
      if provisional then on_provisional_across config x side q asked c output
      else if success then on_accepted_reinvite config at x side q asked m c output
      else if ends then established_call_end at x c (with_byes config x (with_refusal_back config x side q asked m c output))
      else step_result (at_stage x Stable c) (with_refusal_back config x side q asked m c output))
  across-stays x side q asked m c output true success ends a =
      record {
        unseen = adds-if key output q.cancel_due (with_due_cancel config.sip (with_provisional asked q.invite) output) output []
            (unseen-cancelled key config.sip (with_provisional asked q.invite) output) (nothing key output);
        asks = a;
      }
  across-stays x side q asked m c output false true ends a =
      let back = with_relayed_back config x side q m c output in
      let waits = with_ack_timer at c back in
      record {
        unseen = adds-then key output waits _ [] [] (adds-then key output back waits [] [] (unseen-reply key q.key _ output a) (adds-emit key back _ [] refl))
            (expiry-unseen key config.timer (expiry_interval_of m.parsed.session) at c waits);
        asks = tt;
      }
  across-stays x side q asked m c output false false true a =
      let refused = with_refusal_back config x side q asked m c output in
      ends-so key at x c output _ (adds-then key output refused (with_byes config x refused) [] [] (refused-unseen x side q asked m c output a) (both-unseen key config x refused))
  across-stays x side q asked m c output false false false a = record { unseen = refused-unseen x side q asked m c output a; asks = tt }

  response-stays : (stage : Stage) (x : EstablishedLegs) (asked : TKey) (m : MessageView) (c : Call) (output : StepOutput) → StageHasOtherKey key stage → PhaseHasOtherKey key c.phase →
      Stays key output (on_response_at stage config at x asked m c output)
  response-stays (Answered waiting success) x asked m c output a now = as-it-was key output c output now (nothing key output)
  response-stays (Departing waiting success) x asked m c output a now = as-it-was key output c output now (nothing key output)
  response-stays Stable x asked m c output a now = as-it-was key output c output now (nothing key output)
  response-stays (Reinviting asking q) x asked m c output a now =
      let code = status_of m.parsed.start in across-stays x asking q asked m c output (nat_lt code 200) (nat_lt code 300) (ends_dialog code) a

-- ---- a request for which the call does not wait does not change its phase

other-stays : (key : TKey) (config : CallConfigView) (at : ℕ) (asked : TKey) (m : MessageView) (branch : List ℕ) (c : Call) (output : StepOutput) → PhaseHasOtherKey key c.phase →
    InFlightHasOtherKeys key c.relayed → Stays key output (on_other_response config at asked m branch c output)
other-stays key config at asked m branch c output now fly =
    record { unseen = other-unseen key config at asked m branch c output fly; asks = subst (PhaseHasOtherKey key) (sym (other-untouched config at asked m branch c output).phase) now }

timed-out-stays : (key : TKey) (config : CallConfigView) (branch : List ℕ) (c : Call) (output : StepOutput) → PhaseHasOtherKey key c.phase → InFlightHasOtherKeys key c.relayed →
    Stays key output (on_other_timeout config branch c output)
timed-out-stays key config branch c output now fly = record { unseen = timed-out-unseen key config branch c output fly; asks = subst (PhaseHasOtherKey key) (sym (timed-out-untouched config branch c output).phase) now }

-- ---- an established call, on any signal

answer-stays :
    (key : TKey) (branch : Option (List ℕ)) (stage : Stage) (config : CallConfigView) (now : SnapshotView) (x : EstablishedLegs) (asked : TKey) (m : MessageView) (c : Call) (output : StepOutput) →
    StageHasOtherKey key stage → InFlightHasOtherKeys key c.relayed →
    Stays key output (on_response_to branch config now asked m (at_stage x stage c) output)
answer-stays key None stage config now x asked m c output a fly = as-it-was key output (at_stage x stage c) output a (nothing key output)
answer-stays key (Some branch) stage config now x asked m c output a fly =
    stays-if key output (is_branch branch (current_invite_at stage)) _ _ (response-stays key config now.at stage x asked m (at_stage x stage c) output a a)
    (other-stays key config now.at asked m branch (at_stage x stage c) output a fly)

timeout-stays : (key : TKey) (branch : Option (List ℕ)) (stage : Stage) (config : CallConfigView) (now : SnapshotView) (x : EstablishedLegs) (c : Call) (output : StepOutput) →
    StageHasOtherKey key stage → InFlightHasOtherKeys key c.relayed →
    Stays key output (on_timeout_of branch config now (at_stage x stage c) output)
timeout-stays key None stage config now x c output a fly = as-it-was key output (at_stage x stage c) output a (nothing key output)
timeout-stays key (Some branch) stage config now x c output a fly =
    stays-if key output (is_branch branch (current_invite_at stage)) _ _ (quiet-stays key config now.at stage x (at_stage x stage c) output a a) (timed-out-stays key config branch (at_stage x stage c) output a fly)

transition-receives : (key : TKey) (config : CallConfigView) (now : SnapshotView) (x : EstablishedLegs) (stage : Stage) (received : Signal) (c : Call) (output : StepOutput) →
    StageHasOtherKey key stage → InFlightHasOtherKeys key c.relayed → HasOtherKey key received →
    Receives key config now.at (is_reinvite received) output (transition config now received (at_stage x stage c) output)
unfolding transition
transition-receives key config now x stage (signal.Request side asked request) c output a fly other =
    said-receives key config now.at (request_check (leg_of side x) request (busy_in stage side)) stage x side asked request c output other a
transition-receives key config now x stage (signal.Ack side ack) c output a fly other = receives key config now.at false output _ (ack-stays key config now.at stage x side ack (at_stage x stage c) output a a)
transition-receives key config now x stage (signal.Cancel asked cancel invite) c output a fly other =
    let answered = with_status_to config (at_stage x stage c) asked cancel 200 output in
    receives key config now.at false output _ (then-stays key config now.at output answered _ (unseen-reply key asked _ output other) (cancel-stays key config now.at stage x invite (at_stage x stage c) answered a a))
transition-receives key config now x stage (signal.Answer asked response) c output a fly other =
    receives key config now.at false output _ (answer-stays key (awaited_request_branch response) stage config now x asked response c output a fly)
transition-receives key config now x stage (signal.Silent branch method) c output a fly other =
    receives key config now.at false output _ (timeout-stays key (timed_out_branch branch method) stage config now x c output a fly)
transition-receives key config now x stage (signal.Due what) c output a fly other =
    receives key config now.at false output _
    (stays-if key output (is_due_at stage c.successes what) _ _ (rung-stays key config now.at stage x (at_stage x stage c) output a) (as-it-was key output (at_stage x stage c) output a (nothing key output)))
transition-receives key config now x stage (signal.Ended asked) c output a fly other = receives key config now.at false output _ (record { unseen = nothing key output; asks = a })

-- the requests in flight were dismissed before
receives-after : (key : TKey) (config : CallConfigView) (at : ℕ) (within : Bool) (output before : StepOutput) (s : StepResult) → IsUnseen key output before → Receives key config at within before s →
    Receives key config at within output s
receives-after key config at within output before s u h = record { labels = h.labels; adds = adds-then key output before s.output [] h.labels u h.adds; none = h.none; asks = h.asks }

receives-if : (key : TKey) (config : CallConfigView) (at : ℕ) (within : Bool) (output : StepOutput) (b : Bool) (one two : StepResult) → Receives key config at within output one →
    Receives key config at within output two → Receives key config at within output (if b then one else two)
receives-if key config at within output true one two f g = f
receives-if key config at within output false one two f g = g

established-receives : (key : TKey) (config : CallConfigView) (now : SnapshotView) (x : EstablishedLegs) (stage : Stage) (received : Signal) (c : Call) (output : StepOutput) →
    StageHasOtherKey key stage → InFlightHasOtherKeys key c.relayed → HasOtherKey key received →
    Receives key config now.at (is_reinvite received) output (step config now received (at_stage x stage c) output)
unfolding step
established-receives key config now x stage received c output a fly other =
    let d : Call = at_stage x stage c in
    let before : StepOutput = in_flight.output_after_dismissal config d output in
    receives-if key config now.at (is_reinvite received) output (leaves received d) _ _
    (receives-after key config now.at (is_reinvite received) output before _ (dismissing-unseen key config d output fly)
    (transition-receives key config now x stage received (in_flight.without_in_flight c) before a tt other))
    (transition-receives key config now x stage received c output a fly other)

-- ---- one that is over, and one whose leg is detached

-- a signal only affects requests for which it does not wait
abbrev ReceivesNone : Phase → Type 0
ReceivesNone phase = (key : TKey) (config : CallConfigView) (now : SnapshotView) (received : Signal) (c : Call) (output : StepOutput) → InFlightHasOtherKeys key c.relayed →
    IsUnseen key output (transition config now received (record c { phase = phase }) output).output

none-answered : (phase : Phase) → (key : TKey) (branch : Option (List ℕ)) (config : CallConfigView) (now : SnapshotView) (asked : TKey) (m : MessageView) (c : Call) (output : StepOutput) →
    InFlightHasOtherKeys key c.relayed →
    ((branch : List ℕ) → Rattle.mmtel_call.specs.Table.is_current branch (record c { phase = phase }) ≡ false) → IsUnseen key output (on_response_to branch config now asked m (record c { phase = phase }) output).output
none-answered phase key None config now asked m c output fly none = nothing key output
none-answered phase key (Some branch) config now asked m c output fly none =
    subst (λ b. IsUnseen key output (if b then Rattle.mmtel_call.specs.Table.response_in phase config now asked m (record c { phase = phase }) output
    else on_other_response config now.at asked m branch (record c { phase = phase }) output).output)
    (sym (none branch)) (other-unseen key config now.at asked m branch (record c { phase = phase }) output fly)

quiet-gone : (phase : Phase) → (key : TKey) (branch : Option (List ℕ)) (config : CallConfigView) (now : SnapshotView) (c : Call) (output : StepOutput) → InFlightHasOtherKeys key c.relayed →
    ((branch : List ℕ) → Rattle.mmtel_call.specs.Table.is_current branch (record c { phase = phase }) ≡ false) → IsUnseen key output (on_timeout_of branch config now (record c { phase = phase }) output).output
quiet-gone phase key None config now c output fly none = nothing key output
quiet-gone phase key (Some branch) config now c output fly none =
    subst
    (λ b. IsUnseen key output (if b then Rattle.mmtel_call.specs.Table.timeout_in phase config now (record c { phase = phase }) output else on_other_timeout config branch (record c { phase = phase }) output).output)
    (sym (none branch)) (timed-out-unseen key config branch (record c { phase = phase }) output fly)

detached-none : (detached : DetachedLeg) → ReceivesNone (Detached detached)
unfolding transition
detached-none detached key config now (signal.Request side asked request) c output fly = nothing key output
detached-none detached key config now (signal.Ack side ack) c output fly = nothing key output
detached-none detached key config now (signal.Cancel asked cancel invite) c output fly = nothing key output
detached-none detached key config now (signal.Answer asked response) c output fly = none-answered (Detached detached) key (awaited_request_branch response) config now asked response c output fly (λ branch. refl)
detached-none detached key config now (signal.Silent branch method) c output fly = quiet-gone (Detached detached) key (timed_out_branch branch method) config now c output fly (λ branch. refl)
detached-none detached key config now (signal.Due what) c output fly = nothing key output
detached-none detached key config now (signal.Ended asked) c output fly = nothing key output

over-none : (cause : Cause) → ReceivesNone (Over cause)
unfolding transition
over-none cause key config now (signal.Request side asked request) c output fly = nothing key output
over-none cause key config now (signal.Ack side ack) c output fly = nothing key output
over-none cause key config now (signal.Cancel asked cancel invite) c output fly = nothing key output
over-none cause key config now (signal.Answer asked response) c output fly = none-answered (Over cause) key (awaited_request_branch response) config now asked response c output fly (λ branch. refl)
over-none cause key config now (signal.Silent branch method) c output fly = quiet-gone (Over cause) key (timed_out_branch branch method) config now c output fly (λ branch. refl)
over-none cause key config now (signal.Due what) c output fly = nothing key output
over-none cause key config now (signal.Ended asked) c output fly = nothing key output

-- on a signal that ends neither an attempt of it nor the call
step-none : (phase : Phase) (key : TKey) (config : CallConfigView) (now : SnapshotView) (received : Signal) (c : Call) (output : StepOutput) → leaves received (record c { phase = phase }) ≡ false →
    IsUnseen key output (transition config now received (record c { phase = phase }) output).output →
    IsUnseen key output (step config now received (record c { phase = phase }) output).output
unfolding step
step-none phase key config now received c output stays u =
    let d : Call = record c { phase = phase } in
    subst (λ b. IsUnseen key output (if b then transition config now received (in_flight.without_in_flight d) (in_flight.output_after_dismissal config d output) else transition config now received d output).output)
    (sym stays) u

-- ---- what was added

labels-added : (key : TKey) (before after : StepOutput) (signs : List Label) → Adds key before after signs → labels_of key (items_added before.out after.out) ≡ signs
labels-added key before after signs a =
    ap (λ (out : List Emit). labels_of key (drop (length before.out) out)) a.out ∙ ap (labels_of key) (drop_at before.out a.new (length before.out) refl) ∙ a.seen

shows-none : (key : TKey) (received : Signal) (config : CallConfigView) (at : ℕ) (output : StepOutput) (s : StepResult) → Receives key config at (is_reinvite received) output s →
    labels_of_step key received (items_added output.out s.output.out) ≡ []
shows-none key received config at output s h = ap (λ signs. if is_reinvite received then without_relayed_invite signs else signs) (labels-added key output s.output h.labels h.adds) ∙ h.none

unseen-none : (key : TKey) (received : Signal) (output : StepOutput) (s : StepResult) → IsUnseen key output s.output → labels_of_step key received (items_added output.out s.output.out) ≡ []
unseen-none key received output s u = ap (λ signs. if is_reinvite received then without_relayed_invite signs else signs) (labels-added key output s.output [] u) ∙ none (is_reinvite received)
  where
    none : (b : Bool) → (if b then without_relayed_invite [] else []) ≡ []
    none true = refl
    none false = refl

later-none : (phase : Phase) (config : CallConfigView) (now : SnapshotView) (received : Signal) (c : Call) (output : StepOutput) (key : TKey) → is_offered phase ≡ false → PhaseHasOtherKey key phase →
    InFlightHasOtherKeys key c.relayed → HasOtherKey key received →
    labels_of_step key received (items_added output.out (step config now received (record c { phase = phase }) output).output.out) ≡ []
later-none (Offered x) config now received c output key h a fly other = absurd (let e : true ≡ false = h in cc)
later-none (Established x stage) config now received c output key h a fly other = shows-none key received config now.at output _ (established-receives key config now x stage received c output a fly other)
later-none (Detached detached) config now received c output key h a fly other =
    unseen-none key received output (step config now received (record c { phase = Detached detached }) output)
    (step-none (Detached detached) key config now received c output (lowering.no-leaving detached received c) (detached-none detached key config now received c output fly))
later-none (Over cause) config now received c output key h a fly other =
    unseen-none key received output (step config now received (record c { phase = Over cause }) output)
    (step-none (Over cause) key config now received c output (answering.no-leaving cause received c) (over-none cause key config now received c output fly))

ends-none : (phase : Phase) (config : CallConfigView) (at : ℕ) (c : Call) (output : StepOutput) (key : TKey) → InFlightHasOtherKeys key c.relayed →
    IsUnseen key output (finish_of_phase phase config at (record c { phase = phase }) output).output
ends-none (Offered x) config at c output key fly = nothing key output
ends-none (Established x stage) config at c output key fly = nothing key output
ends-none (Detached detached) config at c output key fly =
    let before : StepOutput = in_flight.output_after_dismissal config (record c { phase = Detached detached }) output in
    let left = adds-then key output before _ [] [] (dismissing-unseen key config (record c { phase = Detached detached }) output fly) (unseen-bye key config.sip (released_leg detached.remaining).dialogue before) in
    record { new = left.new; out = left.out; seen = left.seen }
ends-none (Over cause) config at c output key fly = nothing key output

finished-none : (config : CallConfigView) (at : ℕ) (c : Call) (output : StepOutput) (key : TKey) → InFlightHasOtherKeys key c.relayed →
    labels_of key (items_added output.out (call_finish config at c output).output.out) ≡ []
unfolding call_finish
finished-none config at c output key fly = labels-added key output (finish_of_phase c.phase config at c output).output [] (ends-none c.phase config at c output key fly)

-- ---- while it is offered

-- final responses alone
abbrev AreFinals : List Label → Type 0
AreFinals [] = Unit {0}
AreFinals (Invited uri ∷ later) = ⊥
AreFinals (Accepted ∷ later) = AreFinals later
AreFinals (Refused code ∷ later) = AreFinals later

all-count : (signs : List Label) → AreFinals signs → without_relayed_invite signs ≡ signs
all-count [] h = refl
all-count (Invited uri ∷ later) h = absurd h
all-count (Accepted ∷ later) h = ap (λ l. Accepted ∷ l) (all-count later h)
all-count (Refused code ∷ later) h = ap (λ l. Refused code ∷ l) (all-count later h)

finals-append : (xs ys : List Label) → AreFinals xs → AreFinals ys → AreFinals (xs ++ ys)
finals-append [] ys h g = g
finals-append (Invited uri ∷ later) ys h g = absurd h
finals-append (Accepted ∷ later) ys h g = finals-append later ys h g
finals-append (Refused code ∷ later) ys h g = finals-append later ys h g

record Answers (key : TKey) (before after : StepOutput) : Type 0 where
  new : List Emit
  out : after.out ≡ before.out ++ new
  finals : AreFinals (labels_of key new)

answers-then : (key : TKey) (one two three : StepOutput) → Answers key one two → Answers key two three → Answers key one three
answers-then key one two three p q = record {
  new = p.new ++ q.new;
  out = q.out ∙ ap (λ l. l ++ q.new) p.out ∙ append_assoc one.out p.new q.new;
  finals = subst AreFinals (sym (labels-append key p.new q.new)) (finals-append (labels_of key p.new) (labels_of key q.new) p.finals q.finals);
}

answers-if : (key : TKey) (before : StepOutput) (b : Bool) (one two : StepOutput) → Answers key before one → Answers key before two → Answers key before (if b then one else two)
answers-if key before true one two p q = p
answers-if key before false one two p q = q

final-is : (b low success : Bool) (code : ℕ) → AreFinals ((if b then (if low then [] else if success then Accepted ∷ [] else Refused code ∷ []) else []) ++ [])
final-is true true success code = tt
final-is true false true code = tt
final-is true false false code = tt
final-is false low success code = tt

a-reply : (key asked : TKey) (m : Message StartLine) (output : StepOutput) → Answers key output (with_emit (emit.Reply asked m) output)
a-reply key asked m output =
    let code = status_of m.start in record { new = emit.Reply asked m ∷ []; out = refl; finals = final-is (asked.0 == key.0) (nat_lt code 200) (nat_lt code 300) code }

no-answer : (key : TKey) (before after : StepOutput) → IsUnseen key before after → Answers key before after
no-answer key before after u = record { new = u.new; out = u.out; finals = subst AreFinals (sym u.seen) tt }

refused_request-answers : (key : TKey) (config : CallConfigView) (c : Call) (asked : TKey) (m : MessageView) (fault : DialogueFault) (output : StepOutput) →
    Answers key output (with_refused_request config c asked m fault output)
refused_request-answers key config c asked m (OldCSeq last) output = a-reply key asked _ output
refused_request-answers key config c asked m Pending output = a-reply key asked _ output
refused_request-answers key config c asked m Unfinished output = a-reply key asked _ output

unlisted-answers : (key : TKey) (config : CallConfigView) (c : Call) (asked : TKey) (m : MessageView) (output : StepOutput) → Answers key output (with_unlisted_response config c asked m output)
unlisted-answers key config c asked m output =
    answers-if key output (is_method (codes "OPTIONS") m.parsed.start) (with_response_to config c asked m 200 (allow_lines (further_methods config)) output)
    (if is_method (codes "REFER") m.parsed.start then with_status_to config c asked m 403 output else with_status_to config c asked m 481 output) (a-reply key asked _ output)
    (answers-if key output (is_method (codes "REFER") m.parsed.start) (with_status_to config c asked m 403 output) (with_status_to config c asked m 481 output) (a-reply key asked _ output) (a-reply key asked _ output))

gives-up-answers : (key : TKey) (config : CallConfigView) (at : ℕ) (x : OfferedAttempt) (asked : TKey) (m : MessageView) (c : Call) (output : StepOutput) →
    Answers key output (Rattle.mmtel_call.specs.Ringing.on_caller_cancel config at x c (with_status_to config c asked m 200 output)).output
gives-up-answers key config at x asked m c output =
    let replied = with_status_to config c asked m 200 output in
    let told = with_status_to_caller config c 487 replied in
    let all = answers-then key output replied (with_attempt_cancel config x told) (a-reply key asked _ output)
    (answers-then key replied told (with_attempt_cancel config x told) (a-reply key c.opening.key _ replied) (no-answer key told _ (unseen-cancelled key config.sip x.attempt.invite told))) in
    record { new = all.new; out = all.out; finals = all.finals }

drawn-answers : (key : TKey) (output : StepOutput) (e : Emit) → label_of key e ≡ [] → Answers key output (with_emit e (after_draw output))
drawn-answers key output e none = no-answer key output _ (adds-then key output (after_draw output) _ [] [] (unseen-drew key output) (adds-emit key (after_draw output) e [] none))

acknowledging-answers : (key : TKey) (config : CallConfigView) (x : OfferedAttempt) (asked : TKey) (m : MessageView) (rack : Rack) (answer : Option ℕ) (c : Call) (output : StepOutput) →
    Answers key output (on_named_prack config x asked m rack answer c output).output
acknowledging-answers key config x asked m rack None c output = a-reply key asked _ output
acknowledging-answers key config x asked m rack (Some answer) c output =
    let before : StepOutput = in_flight.with_settled config (Some rack.answer) c output in
    answers-then key output before _ (no-answer key output before (settled-unseen key config (Some rack.answer) c output)) (drawn-answers key before _ refl)

rack-answers : (key : TKey) (config : CallConfigView) (x : OfferedAttempt) (asked : TKey) (m : MessageView) (rack : Option Rack) (c : Call) (output : StepOutput) →
    Answers key output (on_rack config x asked m rack c output).output
rack-answers key config x asked m None c output = a-reply key asked _ output
rack-answers key config x asked m (Some rack) c output = acknowledging-answers key config x asked m rack (named_rseq x c rack) c output

prack-answers : (key : TKey) (side : Side) (config : CallConfigView) (x : OfferedAttempt) (asked : TKey) (m : MessageView) (c : Call) (output : StepOutput) →
    Answers key output (on_prack_of side config x asked m c output).output
prack-answers key Caller config x asked m c output = rack-answers key config x asked m (rack_in m) c output
prack-answers key Callee config x asked m c output = a-reply key asked _ output

step-answers : (key : TKey) (before : StepOutput) (b : Bool) (one two : StepResult) → Answers key before one.output → Answers key before two.output → Answers key before (if b then one else two).output
step-answers key before true one two p q = p
step-answers key before false one two p q = q

unless-answers : (key : TKey) (flying : Option Side) (config : CallConfigView) (x : OfferedAttempt) (side : Side) (asked : TKey) (m : MessageView) (c : Call) (output : StepOutput) →
    Answers key output (unless_updating flying (on_early_update config x side asked m) config side asked m c output).output
unless-answers key None config x side asked m c output = drawn-answers key output _ refl
unless-answers key (Some flying) config x side asked m c output = step-answers key output (is_same_side flying side) _ _ (a-reply key asked _ output) (a-reply key asked _ output)

update-answers : (key : TKey) (config : CallConfigView) (x : OfferedAttempt) (side : Side) (asked : TKey) (m : MessageView) (c : Call) (output : StepOutput) →
    Answers key output (on_update config x side asked m c output).output
update-answers key config x side asked m c output =
    step-answers key output (accepts_updates x) _ _ (unless-answers key (in_flight.updating_side c.relayed) config x side asked m c output) (a-reply key asked _ output)

other-answers : (key : TKey) (config : CallConfigView) (x : OfferedAttempt) (side : Side) (asked : TKey) (m : MessageView) (c : Call) (output : StepOutput) →
    Answers key output (on_other config x side asked m c output).output
other-answers key config x side asked m c output =
    step-answers key output (is_prack m) _ _ (prack-answers key side config x asked m c output)
    (step-answers key output (is_update m) _ _ (update-answers key config x side asked m c output) (unlisted-answers key config c asked m output))

received-answers : (key : TKey) (config : CallConfigView) (at : ℕ) (x : OfferedAttempt) (side : Side) (asked : TKey) (m : MessageView) (c : Call) (output : StepOutput) →
    Answers key output (on_valid_request config at x side asked m c output).output
received-answers key config at x Caller asked m c output =
    step-answers key output (is_bye m) _ _ (gives-up-answers key config at x asked m c output) (other-answers key config x Caller asked m c output)
received-answers key config at x Callee asked m c output = other-answers key config x Callee asked m c output

-- the requests in flight are dismissed
each-answers : (key : TKey) (config : CallConfigView) (c : Call) (flights : List RelayedTransaction) (output : StepOutput) → Answers key output (in_flight.with_dismissals config c flights output)
each-answers key config c [] output = no-answer key output output (nothing key output)
each-answers key config c (flight ∷ flights) output =
    let next : StepOutput = in_flight.with_dismissal config c flight output in
    answers-then key output next (in_flight.with_dismissals config c flights next) (a-reply key flight.exchange.key _ output) (each-answers key config c flights next)

dismissing-answers : (key : TKey) (config : CallConfigView) (c : Call) (output : StepOutput) → Answers key output (in_flight.output_after_dismissal config c output)
dismissing-answers key config c output =
    let first : StepOutput = in_flight.with_dismissals config c (filter (λ flight. not (in_flight.is_updating flight)) c.relayed) output in
    let all : StepOutput = in_flight.with_all_dismissals config c output in
    answers-then key output all (in_flight.output_after_dismissal config c output)
    (answers-then key output first all (each-answers key config c (filter (λ flight. not (in_flight.is_updating flight)) c.relayed) output) (each-answers key config c (filter in_flight.is_updating c.relayed) first))
    (no-answer key all _ (settled_in-unseen key c.phase config c all))

request-answers : (key : TKey) (said : Result (Unit {0}) DialogueFault) (config : CallConfigView) (at : ℕ) (x : OfferedAttempt) (side : Side) (asked : TKey) (m : MessageView) (c : Call) (output : StepOutput) →
    Answers key output (on_request_if said config at x side asked m c output).output
request-answers key (Ok received) config at x side asked m c output = received-answers key config at (attempt_after_request side m x) side asked m (record c { phase = Offered (attempt_after_request side m x) }) output
request-answers key (Err fault) config at x side asked m c output = refused_request-answers key config c asked m fault output

finals-all : (key : TKey) (b : Bool) (before after : StepOutput) → Answers key before after →
    (if b then without_relayed_invite (labels_of key (items_added before.out after.out)) else labels_of key (items_added before.out after.out)) ≡ labels_of key (items_added before.out after.out)
finals-all key false before after a = refl
finals-all key true before after a =
    let new : items_added before.out after.out ≡ a.new = ap (λ (out : List Emit). drop (length before.out) out) a.out ∙ drop_at before.out a.new (length before.out) refl in
    all-count (labels_of key (items_added before.out after.out)) (subst (λ out. AreFinals (labels_of key out)) (sym new) a.finals)

transition-answers : (key : TKey) (config : CallConfigView) (now : SnapshotView) (x : OfferedAttempt) (side : Side) (asked : TKey) (request : MessageView) (c : Call) (output : StepOutput) →
    Answers key output (transition config now (signal.Request side asked request) (record c { phase = Offered x }) output).output
unfolding transition
transition-answers key config now x side asked request c output = request-answers key (offered_request_check x side request) config now.at x side asked request (record c { phase = Offered x }) output

offered-answers : (key : TKey) (config : CallConfigView) (now : SnapshotView) (x : OfferedAttempt) (side : Side) (asked : TKey) (request : MessageView) (c : Call) (output : StepOutput) →
    Answers key output (step config now (signal.Request side asked request) (record c { phase = Offered x }) output).output
unfolding step
offered-answers key config now x side asked request c output =
    let d : Call = record c { phase = Offered x } in
    let before : StepOutput = in_flight.output_after_dismissal config d output in
    step-answers key output (leaves (signal.Request side asked request) d) _ _
    (answers-then key output before _ (dismissing-answers key config d output) (transition-answers key config now x side asked request (in_flight.without_in_flight c) before))
    (transition-answers key config now x side asked request c output)

offered-all : (phase : Phase) (config : CallConfigView) (now : SnapshotView) (received : Signal) (c : Call) (output : StepOutput) (key : TKey) → is_offered phase ≡ true →
    labels_of_step key received (items_added output.out (step config now received (record c { phase = phase }) output).output.out)
    ≡ labels_of key (items_added output.out (step config now received (record c { phase = phase }) output).output.out)
offered-all (Offered x) config now (signal.Request side asked request) c output key h = finals-all key (is_invite request) output _ (offered-answers key config now x side asked request c output)
offered-all (Offered x) config now (signal.Ack side ack) c output key h = refl
offered-all (Offered x) config now (signal.Cancel asked cancel invite) c output key h = refl
offered-all (Offered x) config now (signal.Answer asked response) c output key h = refl
offered-all (Offered x) config now (signal.Silent branch method) c output key h = refl
offered-all (Offered x) config now (signal.Due what) c output key h = refl
offered-all (Offered x) config now (signal.Ended asked) c output key h = refl
offered-all (Established x stage) config now received c output key h = absurd (let e : false ≡ true = h in cc)
offered-all (Detached detached) config now received c output key h = absurd (let e : false ≡ true = h in cc)
offered-all (Over cause) config now received c output key h = absurd (let e : false ≡ true = h in cc)

-- ---- a call that continues from target to target is offered to one, or over

abbrev Asks : TKey → StepResult → Type 0
Asks key s = PhaseHasOtherKey key s.call.phase

abbrev DivertAsks : TKey → ℕ → CallConfigView → SnapshotView → Leg → Type 0
DivertAsks key left config now caller = (service : Option Service) (due : DueDiversionView) (c : Call) (output : StepOutput) → Asks key (divert left config now caller service due c output)

next-step-asks : (key : TKey) (left : ℕ) (config : CallConfigView) (now : SnapshotView) (caller : Leg) → DivertAsks key left config now caller →
    (service : Option Service) (cause : Option ℕ) (target : Target) (turn : NextStepView) (c : Call) (output : StepOutput) →
    Asks key (on_next_step (divert left config now caller) config now.at caller service cause target turn c output)
next-step-asks key left config now caller later service cause target (StepOffer peer waiting) c output = tt
next-step-asks key left config now caller later service cause target (StepDivert due) c output = later service due (with_unoffered_meter now.at service c) output
next-step-asks key left config now caller later service cause target (StepRefuse why) c output = tt

unless-asks : (key : TKey) (refusal : Option Cause) (go : Call → StepOutput → StepResult) (config : CallConfigView) (at : ℕ) (caller : Leg) (c : Call) (output : StepOutput) → Asks key (go c output) →
    Asks key (diversion_unless_refused refusal go config at caller c output)
unless-asks key (Some why) go config at caller c output a = tt
unless-asks key None go config at caller c output a = a

target-asks : (key : TKey) (left : ℕ) (config : CallConfigView) (now : SnapshotView) (caller : Leg) → DivertAsks key left config now caller → (cause : Option ℕ) (target : Target) (c : Call) (output : StepOutput) →
    Asks key (at_target (divert left config now caller) config now caller cause target c output)
target-asks key left config now caller later cause target c output =
    next-step-asks key left config now caller later (service_at config now c.opening cause target) cause target
    (decision_at config now c.opening (is_diverted c) cause target (service_at config now c.opening cause target) (peer_for config c.opening target)) c output

divert-asks : (key : TKey) (left : ℕ) (config : CallConfigView) (now : SnapshotView) (caller : Leg) → DivertAsks key left config now caller
unfolding divert
divert-asks key zero config now caller service due c output = unless-asks key (diversion_refusal 0 config now.at service due c) (call_refusal config now.at caller (too_many due.cause)) config now.at caller c output tt
divert-asks key (suc left) config now caller service due c output =
    let target = diversion_target config due in
    let next = call_after_diversion target now.at left service due c in
    let onward = diversion_step (at_target (divert left config now caller) config now caller (Some due.cause) target) config target now.at left service due in
    unless-asks key (diversion_refusal (suc left) config now.at service due c) onward config now.at caller c output
    (target-asks key left config now caller (divert-asks key left config now caller) (Some due.cause) target next (with_notification_of config due next output))

refused-asks : (key : TKey) (config : CallConfigView) (at : ℕ) (caller : Leg) (service : Option Service) (m : Option MessageView) (cause : Cause) (c : Call) (output : StepOutput) →
    Asks key (relayed_refusal config at caller service m cause c output)
refused-asks key config at caller service None cause c output = tt
refused-asks key config at caller service (Some m) cause c output = go (is_status (status_of m.parsed.start) (relayed_status cause))
  where
    go : (b : Bool) → Asks key (if b then call_end at cause caller.meter None c (with_relay_to_caller config c service m output) else call_refusal config at caller cause c output)
    go true = tt
    go false = tt

after-asks :
    (key : TKey) (config : CallConfigView) (now : SnapshotView) (caller : Leg) (service : Option Service) (m : Option MessageView) (after : StepAfterAttemptView) (c : Call) (output : StepOutput) →
    Asks key (on_end config now caller service m after c output)
after-asks key config now caller service m EndAnswered c output = tt
after-asks key config now caller service m (EndDivert due) c output = divert-asks key c.diversions.remaining config now caller service due c output
after-asks key config now caller service m (EndRefuse cause) c output = refused-asks key config now.at caller service m cause c output

attempt-step-asks : (key : TKey) (P : Type 0) (config : CallConfigView) (now : SnapshotView) (x : OfferedAttempt) (c : Call) (before : StepOutput) (end : Option AttemptEndView) (s : StepResult) →
    faring.AttemptStep P config now x c before end s → Asks key s
attempt-step-asks key P config now x c before end s (faring.Rings e y r) = subst (PhaseHasOtherKey key) (sym r.phase) tt
attempt-step-asks key P config now x c before end s (faring.Answers e y stage r) = subst (PhaseHasOtherKey key) (sym r.phase) (r.awaits key)
attempt-step-asks key P config now x c before end s (faring.GivesUp by_caller e y d output r) = subst (Asks key) (sym r.is) tt
attempt-step-asks key P config now x c before end s (faring.GoesOn how e m d output r) =
    subst (Asks key) (sym r.is) (after-asks key config now x.caller x.attempt.service m (decision_after d.opening now.at (is_diverted d) x.attempt.service how) (with_past x.callee.leg.meter d) output)

opens-asks : (key : TKey) (refusal : Option Cause) (config : CallConfigView) (now : SnapshotView) (caller : Leg) (c : Call) (output : StepOutput) → Asks key (unless_refused refusal config now caller c output)
opens-asks key None config now caller c output = target-asks key c.diversions.remaining config now caller (divert-asks key c.diversions.remaining config now caller) None (initial_target c.opening) c output
opens-asks key (Some cause) config now caller c output = tt

first-asks : (s : TraceStart) (key : TKey) → Asks key (first_step s)
unfolding call_after_opening
first-asks s key =
    let c = new_call s.config (opening_in s) in opens-asks key (opening_refusal s.config s.now.at (opening_in s)) s.config s.now (caller_of s.now.at c) c (with_status_to_caller s.config c 100 (after_draw s.output))

step-asks : (phase : Phase) (config : CallConfigView) (now : SnapshotView) (received : Signal) (c : Call) (output : StepOutput) (key : TKey) → PhaseHasOtherKey key phase →
    InFlightHasOtherKeys key c.relayed → HasOtherKey key received →
    Asks key (step config now received (record c { phase = phase }) output)
step-asks (Offered x) config now received c output key a fly other =
    attempt-step-asks key (faring.IsOwn c received) config now x (faring.offered x c) output (end_in (Offered x) (faring.offered x c) received) _ (faring.attempt-step config now x received c output)
step-asks (Established x stage) config now received c output key a fly other = (established-receives key config now x stage received c output a fly other).asks
step-asks (Detached detached) config now received c output key a fly other = subst (PhaseHasOtherKey key) (sym (lowering.stays-detached config now detached received c output).phase) tt
step-asks (Over cause) config now received c output key a fly other = subst (PhaseHasOtherKey key) (sym (answering.stays-over config now cause received c output).phase) tt

pub shows_nothing_later : ShowsNothingLater
shows_nothing_later = record {
  opens = λ s key. (first-asks s key, subst (InFlightHasOtherKeys key) (sym (nothing_in_flight.first s)) tt);
  steps = λ config now received c output key w other. (step-asks c.phase config now received c output key w.0 w.1 other, flies config now received c output key w.1 other);
  all = λ config now received c output key h. offered-all c.phase config now received c output key h;
  none = λ config now received c output key h w other. later-none c.phase config now received c output key h w.0 w.1 other;
  ends = finished-none;
}
