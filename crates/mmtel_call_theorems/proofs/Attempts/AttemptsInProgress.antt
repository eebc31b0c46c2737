-- How a call continues: it reaches one target after another until an INVITE is sent to one, or it is over; what is observed of it is that INVITE and its deadline.
use Rattle.std.proofs.Common.{◌≡◌, ◌<◌, ◌≤◌, ◌+◌, ℕ, zero, suc, Bool, true, false, List, [], ◌∷◌, ◌++◌, Option, Some, None, refl, ap, codes, arith}
use Rattle.std.specs.Prelude.{if◌then◌else◌}
use Rattle.mmtel_compose.specs.Attempts.{alert_lines, invite_of}
use Rattle.mmtel_compose.specs.Requests.{relayed_parts}
use Rattle.mmtel_compose.specs.ReceivedMessages.{MessageView, status_of as status_in}
use Rattle.mmtel_compose.specs.declared.attempts.Destination.{Destination}
use Rattle.mmtel_charging.specs.Meters.{MeterView}
use Rattle.mmtel_output.specs.Outputs.{after_draw, token, with_emit}
use Rattle.mmtel_output.specs.declared.outputs.StepOutput.{StepOutput}
use Rattle.mmtel_leg.specs.Legs.{Leg}
use Rattle.mmtel_leg.specs.declared.dialogues.Dialogue.{Dialogue}
use Rattle.mmtel_message.specs.Message.{Line, Message}
use Rattle.mmtel_message.specs.declared.messages.Start.{Start}
use Rattle.mmtel_precedence.specs.Calls.{AttemptEndView, SnapshotView}
use Rattle.mmtel_precedence.specs.Services.{DueDiversionView}
use Rattle.mmtel_precedence.specs.NextSteps.{EndAnswered, EndDivert, EndRefuse, NextStepView, StepAfterAttemptView, StepDivert, StepOffer, StepRefuse}
use Rattle.mmtel_precedence.specs.Verdicts.{too_many}
use Rattle.mmtel_reliable.specs.Acks as Acks
use Rattle.mmtel_reliable.specs.Acks.{AcksView}
use Rattle.mmtel_base.specs.Numbers.{next_number}
use Rattle.mmtel_served_user.specs.declared.targets.Target.{Target}
use Rattle.mmtel_transaction.specs.declared.words.DueWord.TheVariants as due_word
use Rattle.mmtel_transaction.specs.declared.words.Emit.TheVariants as emit
use Rattle.mmtel_types.specs.Causes.{status_of}
use Rattle.mmtel_types.specs.declared.causes.Cause.{Cause}
use Rattle.mmtel_types.specs.declared.causes.Cause.TheVariants as causes
use Rattle.mmtel_types.specs.declared.numbers.CallNo.{CallNo}
use Rattle.mmtel_types.specs.declared.sides.Side.TheVariants.{Callee}
use Rattle.mmtel_call_services.specs.Decisions.{decision_after, decision_at, destination_of, diversion_target, is_status, peer_for, relayed_status, service_at}
use Rattle.mmtel_call_services.specs.Opening.{initial_target}
use Rattle.mmtel_call_services.specs.CopiedHeaders.{attempt_lines}
use Rattle.mmtel_call_services.specs.CallConfig.{CallConfigView}
use Rattle.mmtel_call_services.specs.declared.openings.Service.{Service}
use Rattle.mmtel_call.specs.Closing.{StepResult, call_end, with_past}
use Rattle.mmtel_call.specs.Diverting.{after_attempt, at_target, call_after_diversion, call_refusal, diversion_refusal, diversion_step, diversion_unless_refused}
use Rattle.mmtel_call.specs.Diverting.{divert, is_diverted, on_end, on_next_step, reach, relayed_refusal, with_notification_of, with_unoffered_meter}
use Rattle.mmtel_call.specs.AttemptStarts.{attempt_dialog_of, attempt_start, max_attempt_time, next_attempt}
use Rattle.mmtel_call.specs.Opening.{caller_of, unless_refused}
use Rattle.mmtel_call.specs.Sending.{with_diversion_notification, with_relay_to_caller, with_status_to_caller}
use Rattle.mmtel_call.specs.declared.calls.Call.{Call}
use Rattle.mmtel_call.specs.declared.calls.Phase.{Phase}
use Rattle.mmtel_call.specs.declared.calls.Phase.TheVariants.{Detached, Established, Offered, Over}
use Rattle.mmtel_call.specs.declared.calls.OfferedAttempt.{OfferedAttempt}
use Rattle.mmtel_call_theorems.specs.Attempts.Theorems.{early_tag, longest}
use Rattle.mmtel_call_theorems.specs.Attempts.Observed.{Armed, AttemptEvent, Invited, branch_of, event_of}
use Rattle.mmtel_call_theorems.proofs.Attempts.Reading.{Adds, adds_emit, branch_read, own_deadline}
use Rattle.mmtel_call_theorems.proofs.Attempts.Sending.{Unseen, notified_diversion_unseen, notified_unseen, relayed_unseen}

-- ---- the result

-- an INVITE was sent, of the next attempt after this many, with its deadline; this was the last CSeq number of the caller; and this many attempts and diversions are still possible
pub record HasReached (at : ℕ) (y : OfferedAttempt) (attempts : ℕ) (acks : AcksView) (last : Option ℕ) (room : ℕ) (c : Call) (marks : List AttemptEvent) : Type 0 where
  pub observed : marks ≡ Invited y.attempt.invite.dialogue.peer y.attempt.invite.dialogue.target y.attempt.invite.branch ∷ Armed (due_word.Cap y.attempt.number) (at + longest) ∷ []
  pub leg : y.callee.leg.dialogue.peer ≡ y.attempt.invite.dialogue.peer
  pub rang : y.attempt.rang ≡ false
  pub number : y.attempt.number ≡ next_number attempts
  pub now_attempts : c.attempts ≡ next_number attempts
  pub latest : y.caller.dialogue.remote_cseq ≡ last
  pub side : y.callee.leg.dialogue.side ≡ Callee
  pub early : early_tag y.callee ≡ None
  pub now_acks : c.acks ≡ Acks.next_attempt acks
  pub few : c.attempts + c.diversions.remaining ≤ room

abbrev pub Came : (at : ℕ) → Phase → (attempts : ℕ) → AcksView → (last : Option ℕ) → (room : ℕ) → Call → List AttemptEvent → Type 0
Came at (Offered y) attempts acks last room c marks = HasReached at y attempts acks last room c marks
Came at (Established x stage) attempts acks last room c marks = marks ≡ []
Came at (Detached detached) attempts acks last room c marks = marks ≡ []
Came at (Over cause) attempts acks last room c marks = marks ≡ []

next_few : (attempts left room : ℕ) → attempts + left < room → next_number attempts + left ≤ room
next_few attempts left room less = omega (arith, less)

module _ (config : CallConfigView) (before : StepOutput) where
  pub record Moves (at : ℕ) (own : CallNo) (attempts : ℕ) (acks : AcksView) (last : Option ℕ) (room : ℕ) (s : StepResult) : Type 0 where
    pub marks : List AttemptEvent
    pub adds : Adds config.sip own before s.output marks
    pub came : Came at s.call.phase attempts acks last room s.call marks

  abbrev So : Call → StepOutput → Type 0
  So c output = Unseen config c.opening.number before output

  -- from a call with this caller
  abbrev Goes : (at : ℕ) → Call → Leg → (room : ℕ) → StepResult → Type 0
  Goes at c caller room s = Moves at c.opening.number c.attempts c.acks caller.dialogue.remote_cseq room s

  moves_if : (at : ℕ) (own : CallNo) (attempts : ℕ) (acks : AcksView) (last : Option ℕ) (room : ℕ) (b : Bool) (one two : StepResult) → Moves at own attempts acks last room one → Moves at own attempts acks last room two →
      Moves at own attempts acks last room (if b then one else two)
  moves_if at own attempts acks last room true one two p q = p
  moves_if at own attempts acks last room false one two p q = q

  pub over_moves : (own : CallNo) (at : ℕ) (cause : Cause) (first meter : Option MeterView) (attempts : ℕ) (acks : AcksView) (last : Option ℕ) (room : ℕ) (c : Call) (output : StepOutput) →
      Unseen config own before output →
      Moves at own attempts acks last room (call_end at cause first meter c output)
  over_moves own at cause first meter attempts acks last room c output had = record { marks = []; adds = record { new = had.new; out = had.out; seen = had.seen }; came = refl }

  refused_moves : (at : ℕ) (caller : Leg) (cause : Cause) (room : ℕ) (c : Call) (output : StepOutput) → So c output → Goes at c caller room (call_refusal config at caller cause c output)
  refused_moves at caller cause room c output had =
      over_moves c.opening.number at cause caller.meter None c.attempts c.acks caller.dialogue.remote_cseq room c (with_status_to_caller config c (status_of cause) output)
      (notified_unseen config c.opening.number before c (status_of cause) output had)

  refused_by_moves : (at : ℕ) (caller : Leg) (service : Option Service) (m : Option MessageView) (cause : Cause) (room : ℕ) (c : Call) (output : StepOutput) → So c output →
      Goes at c caller room (relayed_refusal config at caller service m cause c output)
  refused_by_moves at caller service None cause room c output had = refused_moves at caller cause room c output had
  refused_by_moves at caller service (Some m) cause room c output had =
      moves_if at c.opening.number c.attempts c.acks caller.dialogue.remote_cseq room (is_status (status_in m.parsed.start) (relayed_status cause))
      (call_end at cause caller.meter None c (with_relay_to_caller config c service m output)) (call_refusal config at caller cause c output)
      (over_moves c.opening.number at cause caller.meter None c.attempts c.acks caller.dialogue.remote_cseq room c (with_relay_to_caller config c service m output)
      (relayed_unseen config c.opening.number before c service m output had))
      (refused_moves at caller cause room c output had)

  -- ---- an offer

  offer_moves : (at : ℕ) (caller : Leg) (service : Option Service) (waiting : Bool) (destination : Destination) (room : ℕ) (c : Call) (output : StepOutput) → c.attempts + c.diversions.remaining < room → So c output →
      Goes at c caller room (attempt_start config at caller service waiting destination c output)
  offer_moves at caller service waiting destination room c output less had =
      let o = c.opening in
      let shown : List Line = attempt_lines config o c.diversions service destination.peer in
      let d : Dialogue = attempt_dialog_of o destination output in
      let third : StepOutput = after_draw (after_draw output) in
      let m : Message Start = invite_of d config.sip (token third) shown waiting o.invite.parsed in
      let read : branch_of config.sip m ≡ token third = branch_read d 1 (codes "INVITE") (relayed_parts config.sip (token third) (shown ++ alert_lines waiting) o.invite.parsed) in
      let marked : event_of config.sip o.number (emit.Ask destination.peer m) ≡ Invited destination.peer destination.uri (token third) ∷ [] = ap (λ branch. Invited destination.peer destination.uri branch ∷ []) read in
      let drawn : So c (after_draw third) = record { new = had.new; out = had.out; seen = had.seen } in
      let asked : StepOutput = with_emit (emit.Ask destination.peer m) (after_draw third) in
      let cap = due_word.Cap (next_attempt c) in
      record {
        marks = Invited destination.peer destination.uri (token third) ∷ Armed cap (at + max_attempt_time) ∷ [];
        adds = adds_emit config.sip o.number before asked (emit.Arm o.number cap (at + max_attempt_time)) (Invited destination.peer destination.uri (token third) ∷ [])
            (Armed cap (at + max_attempt_time) ∷ []) (own_deadline config.sip o.number cap (at + max_attempt_time))
            (adds_emit config.sip o.number before (after_draw third) (emit.Ask destination.peer m) [] (Invited destination.peer destination.uri (token third) ∷ []) marked drawn);
        came =
            record { observed = refl; leg = refl; rang = refl; number = refl; now_attempts = refl; latest = refl; side = refl; early = refl; now_acks = refl; few = next_few c.attempts c.diversions.remaining room less };
      }

  -- ---- at a target

  -- a diversion that is due, where this many are left
  abbrev Diverts : ℕ → SnapshotView → Leg → Type 0
  Diverts left now caller = (service : Option Service) (due : DueDiversionView) (room : ℕ) (c : Call) (output : StepOutput) → c.attempts + left ≤ room → So c output →
      Goes now.at c caller room (divert left config now caller service due c output)

  next_step_moves : (left : ℕ) (now : SnapshotView) (caller : Leg) → Diverts left now caller →
      (service : Option Service) (cause : Option ℕ) (target : Target) (turn : NextStepView) (room : ℕ) (c : Call) (output : StepOutput) →
      c.attempts + c.diversions.remaining < room → c.attempts + left ≤ room → So c output → Goes now.at c caller room (on_next_step (divert left config now caller) config now.at caller service cause target turn c output)
  next_step_moves left now caller later service cause target (StepOffer peer waiting) room c output less most had =
      offer_moves now.at caller service waiting (destination_of c.opening peer cause target) room c output less had
  next_step_moves left now caller later service cause target (StepDivert due) room c output less most had = later service due room (with_unoffered_meter now.at service c) output most had
  next_step_moves left now caller later service cause target (StepRefuse why) room c output less most had = refused_moves now.at caller why room (with_unoffered_meter now.at service c) output had

  target_moves : (left : ℕ) (now : SnapshotView) (caller : Leg) → Diverts left now caller → (cause : Option ℕ) (target : Target) (room : ℕ) (c : Call) (output : StepOutput) →
      c.attempts + c.diversions.remaining < room → c.attempts + left ≤ room → So c output → Goes now.at c caller room (at_target (divert left config now caller) config now caller cause target c output)
  target_moves left now caller later cause target room c output less most had =
      let service = service_at config now c.opening cause target in
      let peer = peer_for config c.opening target in
      next_step_moves left now caller later service cause target (decision_at config now c.opening (is_diverted c) cause target service peer) room c output less most had

  -- ---- a diversion

  notified_of_unseen : (due : DueDiversionView) (c : Call) (output : StepOutput) → So c output → So c (with_notification_of config due c output)
  notified_of_unseen due c output had = by due.forward.notify_caller
    where
      by : (b : Bool) → So c (if b then with_diversion_notification config c output else output)
      by true = notified_diversion_unseen config c.opening.number before c output had
      by false = had

  unless_moves : (refusal : Option Cause) (go : Call → StepOutput → StepResult) (at : ℕ) (caller : Leg) (room : ℕ) (c : Call) (output : StepOutput) → So c output → Goes at c caller room (go c output) →
      Goes at c caller room (diversion_unless_refused refusal go config at caller c output)
  unless_moves (Some why) go at caller room c output had is = refused_moves at caller why room c output had
  unless_moves None go at caller room c output had is = is

  one_less : (attempts left room : ℕ) → attempts + suc left ≤ room → attempts + left < room
  one_less attempts left room most = omega (arith, most)

  still_most : (attempts left room : ℕ) → attempts + suc left ≤ room → attempts + left ≤ room
  still_most attempts left room most = omega (arith, most)

  divert_moves : (left : ℕ) (now : SnapshotView) (caller : Leg) → Diverts left now caller
  unfolding divert
  divert_moves zero now caller service due room c output most had =
      unless_moves (diversion_refusal 0 config now.at service due c) (call_refusal config now.at caller (too_many due.cause)) now.at caller room c output had
      (refused_moves now.at caller (too_many due.cause) room c output had)
  divert_moves (suc left) now caller service due room c output most had =
      let target : Target = diversion_target config due in
      let next : Call = call_after_diversion target now.at left service due c in
      let onward = diversion_step (at_target (divert left config now caller) config now caller (Some due.cause) target) config target now.at left service due in
      unless_moves (diversion_refusal (suc left) config now.at service due c) onward now.at caller room c output had
      (target_moves left now caller (divert_moves left now caller) (Some due.cause) target room next (with_notification_of config due next output) (one_less c.attempts left room most)
      (still_most c.attempts left room most) (notified_of_unseen due next output had))

  less_most : (n room : ℕ) → n < room → n ≤ room
  less_most n room less = omega (arith, less)

  reach_moves : (now : SnapshotView) (caller : Leg) (cause : Option ℕ) (target : Target) (room : ℕ) (c : Call) (output : StepOutput) → c.attempts + c.diversions.remaining < room → So c output →
      Goes now.at c caller room (reach config now caller cause target c output)
  reach_moves now caller cause target room c output less had =
      target_moves c.diversions.remaining now caller (divert_moves c.diversions.remaining now caller) cause target room c output less (less_most (c.attempts + c.diversions.remaining) room less) had

  -- ---- after an attempt, and as the call opens

  end_moves : (now : SnapshotView) (caller : Leg) (service : Option Service) (m : Option MessageView) (after : StepAfterAttemptView) (room : ℕ) (c : Call) (output : StepOutput) →
      c.attempts + c.diversions.remaining ≤ room → So c output → Goes now.at c caller room (on_end config now caller service m after c output)
  end_moves now caller service m EndAnswered room c output most had = over_moves c.opening.number now.at causes.Ended caller.meter None c.attempts c.acks caller.dialogue.remote_cseq room c output had
  end_moves now caller service m (EndDivert due) room c output most had = divert_moves c.diversions.remaining now caller service due room c output most had
  end_moves now caller service m (EndRefuse cause) room c output most had = refused_by_moves now.at caller service m cause room c output had

  pub goes_on_moves : (now : SnapshotView) (x : OfferedAttempt) (how : AttemptEndView) (m : Option MessageView) (room : ℕ) (c : Call) (output : StepOutput) →
      c.attempts + c.diversions.remaining ≤ room → So c output → Goes now.at c x.caller room (after_attempt config now x how m c output)
  goes_on_moves now x how m room c output most had =
      end_moves now x.caller x.attempt.service m (decision_after c.opening now.at (is_diverted c) x.attempt.service how) room (with_past x.callee.leg.meter c) output most had

  pub begins_moves : (refusal : Option Cause) (now : SnapshotView) (room : ℕ) (c : Call) (output : StepOutput) → c.attempts + c.diversions.remaining < room → So c output →
      Goes now.at c (caller_of now.at c) room (unless_refused refusal config now (caller_of now.at c) c output)
  begins_moves None now room c output less had = reach_moves now (caller_of now.at c) None (initial_target c.opening) room c output less had
  begins_moves (Some cause) now room c output less had = refused_moves now.at (caller_of now.at c) cause room c output had
