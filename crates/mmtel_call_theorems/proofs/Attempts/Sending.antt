-- What a call sends while it is offered, except INVITEs and deadlines, is no mark.
use Rattle.std.proofs.Common.{◌≡◌, ◌+◌, ◌==◌, ℕ, Bool, true, false, not, List, [], ◌∷◌, ◌++◌, append-nil, refl, codes, nat_lt}
use Rattle.std.specs.List.{filter}
use Rattle.std.specs.Prelude.{Option, Some, None, if◌then◌else◌, position, slice_get}
use Rattle.mmtel_compose.specs.Responses.{allow_lines}
use Rattle.mmtel_compose.specs.ReceivedMessages.{MessageView, status_of}
use Rattle.mmtel_output.specs.Outputs.{after_draw}
use Rattle.mmtel_output.specs.SentInvites.{is_cancellable, with_key}
use Rattle.mmtel_output.specs.AbandonedInvites as left_ones
use Rattle.mmtel_output.specs.AbandonedInvites.{after_provisional, ended_dialog, is_of_branch, on_response, on_success_in, with_invite}
use Rattle.mmtel_output.specs.Sending.{with_ack, with_bye, with_cancel, with_due_cancel, with_final_ack}
use Rattle.mmtel_output.specs.declared.outputs.StepOutput.{StepOutput}
use Rattle.mmtel_output.specs.declared.sent_invites.SentInvite.{SentInvite}
use Rattle.mmtel_output.specs.declared.sent_invites.AbandonedInvite.{AbandonedInvite}
use Rattle.mmtel_leg.specs.Remotes.{remote_of}
use Rattle.mmtel_leg.specs.declared.dialogues.Dialogue.{Dialogue}
use Rattle.mmtel_leg.specs.declared.dialogues.DialogueFault.{DialogueFault}
use Rattle.mmtel_leg.specs.declared.dialogues.DialogueFault.TheVariants.{OldCSeq, Pending, Unfinished}
use Rattle.mmtel_leg.specs.declared.remotes.Remote.{Remote}
use Rattle.mmtel_message.specs.Faults.{is_method}
use Rattle.mmtel_precedence.specs.Attempts as statuses
use Rattle.mmtel_session.specs.Intervals.{expiry_interval_of}
use Rattle.mmtel_transaction.specs.declared.words.DueWord.TheVariants as due
use Rattle.mmtel_transaction.specs.declared.words.Emit.TheVariants as emit
use Rattle.mmtel_transaction.specs.declared.words.TKey.{TKey}
use Rattle.mmtel_trust.specs.ParsedMessage.{ParsedMessage}
use Rattle.mmtel_types.specs.declared.numbers.CallNo.{CallNo}
use Rattle.mmtel_types.specs.declared.sides.Side.{Side}
use Rattle.mmtel_types.specs.declared.sides.Side.TheVariants.{Callee}
use Rattle.mmtel_call_services.specs.CallConfig.{CallConfigView, further_methods}
use Rattle.mmtel_call_services.specs.declared.openings.Service.{Service}
use Rattle.mmtel_call.specs.Awaiting.{expiry_in, next_success}
use Rattle.mmtel_call.specs.Closing.{StepResult}
use Rattle.mmtel_call.specs.RelayedTransactions.{is_in_flight, is_updating, on_accepted_in_flight, on_response_in_flight, on_response_relayed, on_timeout_in_flight, on_timeout_relayed}
use Rattle.mmtel_call.specs.RelayedTransactions.{output_after_dismissal, with_all_dismissals, with_dismissal, with_dismissals, with_response_back, with_settled, with_settled_in, without_transaction}
use Rattle.mmtel_call.specs.OtherRequests.{as_abandoned, is_answered_invite, is_fork, is_stable, is_success, on_other_response, on_other_response_at, on_other_timeout}
use Rattle.mmtel_call.specs.OtherRequests.{on_other_timeout_at, on_response_abandoned, on_response_answered, on_response_answered_at, with_retransmitted_ack}
use Rattle.mmtel_call.specs.Requests.{with_refused_request, with_response_to, with_unlisted_response}
use Rattle.mmtel_call.specs.Sending.{with_diversion_notification, with_relay_to_caller, with_status_to, with_status_to_caller}
use Rattle.mmtel_call.specs.declared.calls.Call.{Call}
use Rattle.mmtel_call.specs.declared.calls.RelayedTransaction.{RelayedTransaction}
use Rattle.mmtel_call.specs.declared.calls.RelayedKind.{RelayedKind}
use Rattle.mmtel_call.specs.declared.calls.RelayedKind.TheVariants.{Prack, Update}
use Rattle.mmtel_call.specs.declared.calls.Phase.{Phase}
use Rattle.mmtel_call.specs.declared.calls.Phase.TheVariants.{Detached, Established, Offered, Over}
use Rattle.mmtel_call.specs.declared.calls.AnsweredInvite.{AnsweredInvite}
use Rattle.mmtel_call_theorems.specs.Attempts.Observed.{event_of, event_of_deadline}
use Rattle.mmtel_call_theorems.proofs.Attempts.Reading.{Adds, adds_quiet}

module _ (config : CallConfigView) (own : CallNo) (before : StepOutput) where
  -- so far nothing is observed
  abbrev pub Unseen : StepOutput → Type 0
  Unseen output = Adds config.sip own before output []

  if_unseen : (b : Bool) (one two : StepOutput) → Unseen one → Unseen two → Unseen (if b then one else two)
  if_unseen true one two p q = p
  if_unseen false one two p q = q

  drew_unseen : (output : StepOutput) → Unseen output → Unseen (after_draw output)
  drew_unseen output had = record { new = had.new; out = had.out; seen = had.seen }

  -- ---- responses

  pub replied_unseen : (c : Call) (key : TKey) (m : MessageView) (code : ℕ) (output : StepOutput) → Unseen output → Unseen (with_status_to config c key m code output)
  replied_unseen c key m code output had = adds_quiet config.sip own before output _ [] refl had

  pub notified_unseen : (c : Call) (code : ℕ) (output : StepOutput) → Unseen output → Unseen (with_status_to_caller config c code output)
  notified_unseen c code output had = adds_quiet config.sip own before output _ [] refl had

  pub notified_diversion_unseen : (c : Call) (output : StepOutput) → Unseen output → Unseen (with_diversion_notification config c output)
  notified_diversion_unseen c output had = adds_quiet config.sip own before output _ [] refl had

  pub relayed_unseen : (c : Call) (service : Option Service) (m : MessageView) (output : StepOutput) → Unseen output → Unseen (with_relay_to_caller config c service m output)
  relayed_unseen c service m output had = adds_quiet config.sip own before output _ [] refl had

  pub refused_request_unseen : (c : Call) (key : TKey) (m : MessageView) (fault : DialogueFault) (output : StepOutput) → Unseen output → Unseen (with_refused_request config c key m fault output)
  refused_request_unseen c key m (OldCSeq last) output had = adds_quiet config.sip own before output _ [] refl had
  refused_request_unseen c key m Pending output had = adds_quiet config.sip own before output _ [] refl had
  refused_request_unseen c key m Unfinished output had = adds_quiet config.sip own before output _ [] refl had

  pub unlisted_unseen : (c : Call) (key : TKey) (m : MessageView) (output : StepOutput) → Unseen output → Unseen (with_unlisted_response config c key m output)
  unlisted_unseen c key m output had =
      if_unseen (is_method (codes "OPTIONS") m.parsed.start) (with_response_to config c key m 200 (allow_lines (further_methods config)) output)
      (if is_method (codes "REFER") m.parsed.start then with_status_to config c key m 403 output else with_status_to config c key m 481 output)
      (adds_quiet config.sip own before output _ [] refl had)
      (if_unseen (is_method (codes "REFER") m.parsed.start) (with_status_to config c key m 403 output) (with_status_to config c key m 481 output) (replied_unseen c key m 403 output had)
      (replied_unseen c key m 481 output had))

  -- ---- requests

  pub cancelled_unseen : (i : SentInvite) (output : StepOutput) → Unseen output → Unseen (with_due_cancel config.sip i output)
  cancelled_unseen i output had = if_unseen (is_cancellable i) (with_cancel config.sip i output) output (adds_quiet config.sip own before output _ [] refl had) had

  acked_unseen : (d : Dialogue) (output : StepOutput) → Unseen output → Unseen (with_ack config.sip d output)
  acked_unseen d output had = adds_quiet config.sip own before (after_draw output) _ [] refl (drew_unseen output had)

  bye_unseen : (d : Dialogue) (output : StepOutput) → Unseen output → Unseen (with_bye config.sip d output)
  bye_unseen d output had = adds_quiet config.sip own before (after_draw output) _ [] refl (drew_unseen output had)

  pub final_acked_unseen : (key : TKey) (i : SentInvite) (m : ParsedMessage) (output : StepOutput) → Unseen output → Unseen (with_final_ack config.sip key i m output)
  final_acked_unseen key i m output had = adds_quiet config.sip own before output _ [] refl had

  -- ---- requests in flight

  expiry_unseen : (timer : Bool) (time : Option ℕ) (at : ℕ) (c : Call) (output : StepOutput) → Unseen output → Unseen (record output { out = output.out ++ (if timer then expiry_in time at c else []) })
  expiry_unseen true None at c output had = simp append-nil had
  expiry_unseen true (Some time) at c output had = adds_quiet config.sip own before output _ [] (no_expiry c.opening.number (next_success c) (at + time)) had
    where
      no_expiry : (call : CallNo) (number at : ℕ) → event_of config.sip own (emit.Arm call (due.Expired number) at) ≡ []
      no_expiry call number at = by (call.0 == own.0)
        where
          by : (b : Bool) → (if b then event_of_deadline (due.Expired number) at else []) ≡ []
          by true = refl
          by false = refl
  expiry_unseen false time at c output had = simp append-nil had

  pub settled_unseen : (number : Option ℕ) (c : Call) (output : StepOutput) → Unseen output → Unseen (with_settled config number c output)
  settled_unseen number c output had = if_unseen config.reliable _ _ (adds_quiet config.sip own before output _ [] refl had) had

  settled_in_unseen : (phase : Phase) (c : Call) (output : StepOutput) → Unseen output → Unseen (with_settled_in phase config c output)
  settled_in_unseen (Offered x) c output had = settled_unseen None c output had
  settled_in_unseen (Established x stage) c output had = had
  settled_in_unseen (Detached detached) c output had = had
  settled_in_unseen (Over cause) c output had = had

  each_unseen : (c : Call) (flights : List RelayedTransaction) (output : StepOutput) → Unseen output → Unseen (with_dismissals config c flights output)
  each_unseen c [] output had = had
  each_unseen c (flight ∷ flights) output had = each_unseen c flights (with_dismissal config c flight output) (adds_quiet config.sip own before output _ [] refl had)

  pub dismissing_unseen : (c : Call) (output : StepOutput) → Unseen output → Unseen (output_after_dismissal config c output)
  dismissing_unseen c output had =
      settled_in_unseen c.phase c (with_all_dismissals config c output)
      (each_unseen c (filter is_updating c.relayed) _ (each_unseen c (filter (λ flight. not (is_updating flight)) c.relayed) output had))

  -- ---- a request for which the call does not wait

  success_unseen : (l : AbandonedInvite) (remote : Remote) (d : Option Dialogue) (output : StepOutput) → Unseen output → Unseen (on_success_in config.sip l remote d output).output
  success_unseen l remote None output had =
      let d = left_ones.dialogue_of_success l.in_dialog l.invite.early l.invite.early_cseq l.invite.dialogue remote in
      bye_unseen d (with_ack config.sip d output) (acked_unseen d output had)
  success_unseen l remote (Some d) output had = acked_unseen d output had

  rest_if : (b : Bool) (one two : left_ones.AfterResponse) → Unseen one.output → Unseen two.output → Unseen (if b then one else two).output
  rest_if true one two p q = p
  rest_if false one two p q = q

  rest_unseen : (key : TKey) (m : ParsedMessage) (l : AbandonedInvite) (output : StepOutput) → Unseen output → Unseen (on_response config.sip key m l output).output
  rest_unseen key m l output had =
      let taken = with_invite l (with_key key l.invite) in
      let said = after_provisional key m l in
      let remote = remote_of Callee m.lines in
      rest_if (nat_lt (status_of m.start) 200) _ _
      (rest_if said.invite.cancelled _ _ had (adds_quiet config.sip own before output _ [] refl had))
      (rest_if (nat_lt (status_of m.start) 300) _ _ (success_unseen taken remote (ended_dialog taken remote.tag) output had) (final_acked_unseen key l.invite m output had))

  -- the call waits as before, and nothing is observed
  pub record GoesOnWaiting (c : Call) (s : StepResult) : Type 0 where
    pub phase : s.call.phase ≡ c.phase
    pub attempts : s.call.attempts ≡ c.attempts
    pub remaining : s.call.diversions.remaining ≡ c.diversions.remaining
    pub acks : s.call.acks ≡ c.acks
    pub unseen : Unseen s.output

  waits_if : (c : Call) (b : Bool) (one two : StepResult) → GoesOnWaiting c one → GoesOnWaiting c two → GoesOnWaiting c (if b then one else two)
  waits_if c true one two p q = p
  waits_if c false one two p q = q

  again_unseen : (t : AnsweredInvite) (text : Option (List ℕ)) (output : StepOutput) → Unseen output → Unseen (with_retransmitted_ack t text output)
  again_unseen t None output had = had
  again_unseen t (Some text) output had = adds_quiet config.sip own before output _ [] refl had

  abandoned_waits : (key : TKey) (m : MessageView) (at : ℕ) (l : Option AbandonedInvite) (c : Call) (output : StepOutput) → Unseen output → GoesOnWaiting c (on_response_abandoned config key m at l c output)
  abandoned_waits key m at None c output had = record { phase = refl; attempts = refl; remaining = refl; acks = refl; unseen = had }
  abandoned_waits key m at (Some l) c output had = record { phase = refl; attempts = refl; remaining = refl; acks = refl; unseen = rest_unseen key m.parsed l output had }

  answered_waits : (key : TKey) (m : MessageView) (at : ℕ) (t : Option AnsweredInvite) (c : Call) (output : StepOutput) → Unseen output → GoesOnWaiting c (on_response_answered config key m at t c output)
  answered_waits key m at None c output had = record { phase = refl; attempts = refl; remaining = refl; acks = refl; unseen = had }
  answered_waits key m at (Some t) c output had =
      waits_if c (not (is_success (status_of m.parsed.start))) _ _ (record { phase = refl; attempts = refl; remaining = refl; acks = refl; unseen = had })
      (waits_if c (is_fork t m) _ _ (record { phase = refl; attempts = refl; remaining = refl; acks = refl; unseen = rest_unseen key m.parsed (as_abandoned t) output had })
      (record { phase = refl; attempts = refl; remaining = refl; acks = refl; unseen = if_unseen (is_stable c.phase) (with_retransmitted_ack t t.invite.ack output) output (again_unseen t t.invite.ack output had) had }))

  agreed_waits : (kind : RelayedKind) (at : ℕ) (side : Side) (request response : MessageView) (c : Call) (output : StepOutput) → Unseen output →
      GoesOnWaiting c (on_accepted_in_flight kind config at side request response c output)
  agreed_waits Prack at side request response c output had = record { phase = refl; attempts = refl; remaining = refl; acks = refl; unseen = had }
  agreed_waits Update at side request response c output had =
      record { phase = refl; attempts = refl; remaining = refl; acks = refl; unseen = expiry_unseen config.timer (expiry_interval_of response.parsed.session) at c output had }

  relayed_waits : (at : ℕ) (m : MessageView) (code place : ℕ) (o : Option RelayedTransaction) (c : Call) (output : StepOutput) → Unseen output → GoesOnWaiting c (on_response_relayed config at m code place o c output)
  relayed_waits at m code place None c output had = record { phase = refl; attempts = refl; remaining = refl; acks = refl; unseen = had }
  relayed_waits at m code place (Some flight) c output had =
      let gone : Call = without_transaction place c in
      let back : StepOutput = with_response_back config flight m gone output in
      let passed : Unseen back = adds_quiet config.sip own before output _ [] refl had in
      let agreed_so = agreed_waits flight.kind at flight.side flight.exchange.request m gone back passed in
      waits_if c (nat_lt code 200) _ _ (record { phase = refl; attempts = refl; remaining = refl; acks = refl; unseen = had })
      (waits_if c (statuses.is_success code) _ _ (record { phase = agreed_so.phase; attempts = agreed_so.attempts; remaining = agreed_so.remaining; acks = agreed_so.acks; unseen = agreed_so.unseen })
      (record { phase = refl; attempts = refl; remaining = refl; acks = refl; unseen = passed }))

  in_flight_waits : (at : ℕ) (m : MessageView) (o : Option ℕ) (c : Call) (output : StepOutput) → Unseen output → GoesOnWaiting c (on_response_in_flight config at m o c output)
  in_flight_waits at m None c output had = record { phase = refl; attempts = refl; remaining = refl; acks = refl; unseen = had }
  in_flight_waits at m (Some place) c output had = relayed_waits at m (status_of m.parsed.start) place (slice_get c.relayed place) c output had

  timed_out_relayed_waits : (place : ℕ) (o : Option RelayedTransaction) (c : Call) (output : StepOutput) → Unseen output → GoesOnWaiting c (on_timeout_relayed config place o c output)
  timed_out_relayed_waits place None c output had = record { phase = refl; attempts = refl; remaining = refl; acks = refl; unseen = had }
  timed_out_relayed_waits place (Some flight) c output had = record { phase = refl; attempts = refl; remaining = refl; acks = refl; unseen = adds_quiet config.sip own before output _ [] refl had }

  timed_out_in_flight_waits : (o : Option ℕ) (c : Call) (output : StepOutput) → Unseen output → GoesOnWaiting c (on_timeout_in_flight config o c output)
  timed_out_in_flight_waits None c output had = record { phase = refl; attempts = refl; remaining = refl; acks = refl; unseen = had }
  timed_out_in_flight_waits (Some place) c output had = timed_out_relayed_waits place (slice_get c.relayed place) c output had

  answered_at_waits : (at : ℕ) (key : TKey) (m : MessageView) (branch : List ℕ) (o : Option ℕ) (c : Call) (output : StepOutput) → Unseen output →
      GoesOnWaiting c (on_response_answered_at config at key m branch o c output)
  answered_at_waits at key m branch None c output had = in_flight_waits at m (position (is_in_flight branch) c.relayed) c output had
  answered_at_waits at key m branch (Some place) c output had = answered_waits key m place (slice_get c.answered_invites place) c output had

  at_waits : (at : ℕ) (key : TKey) (m : MessageView) (branch : List ℕ) (o : Option ℕ) (c : Call) (output : StepOutput) → Unseen output → GoesOnWaiting c (on_other_response_at config at key m branch o c output)
  at_waits at key m branch None c output had = answered_at_waits at key m branch (position (is_answered_invite branch) c.answered_invites) c output had
  at_waits at key m branch (Some place) c output had = abandoned_waits key m place (slice_get c.abandoned place) c output had

  pub other_waits : (at : ℕ) (key : TKey) (m : MessageView) (branch : List ℕ) (c : Call) (output : StepOutput) → Unseen output → GoesOnWaiting c (on_other_response config at key m branch c output)
  unfolding on_other_response
  other_waits at key m branch c output had = at_waits at key m branch (position (is_of_branch branch) c.abandoned) c output had

  timed_out_at_waits : (branch : List ℕ) (o : Option ℕ) (c : Call) (output : StepOutput) → Unseen output → GoesOnWaiting c (on_other_timeout_at config branch o c output)
  timed_out_at_waits branch None c output had = timed_out_in_flight_waits (position (is_in_flight branch) c.relayed) c output had
  timed_out_at_waits branch (Some place) c output had = record { phase = refl; attempts = refl; remaining = refl; acks = refl; unseen = had }

  pub timed_out_waits : (branch : List ℕ) (c : Call) (output : StepOutput) → Unseen output → GoesOnWaiting c (on_other_timeout config branch c output)
  timed_out_waits branch c output had = timed_out_at_waits branch (position (is_of_branch branch) c.abandoned) c output had
