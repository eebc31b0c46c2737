-- An answered call: a 2xx waits for its ACK, the call is stable, or a side leaves (RFC 3261 §13.3.1.4, §14, §15).
use Rattle.std.specs.Prelude.{ℕ, ◌==◌, ◌&&◌, Bool, false, if◌then◌else◌, Some, List, map, codes}
use Rattle.std.specs.Str.{bytes_eq}
use Rattle.mmtel_compose.specs.ReceivedMessages.{MessageView}
use Rattle.mmtel_output.specs.Outputs.{token}
use Rattle.mmtel_output.specs.Sending.{relayed_ack_text, with_ack, with_bye, with_relayed_ack, with_relayed_request}
use Rattle.mmtel_output.specs.declared.outputs.StepOutput.{StepOutput}
use Rattle.mmtel_leg.specs.Legs.{Leg}
use Rattle.mmtel_message.specs.Message.{Line}
use Rattle.mmtel_transaction.specs.declared.words.DueWord.{DueWord}
use Rattle.mmtel_transaction.specs.declared.words.DueWord.TheVariants as due
use Rattle.mmtel_types.specs.Sides.{other_side}
use Rattle.mmtel_types.specs.declared.sides.Side.{Side}
use Rattle.mmtel_types.specs.declared.sides.Side.TheVariants.{Caller, Callee}
use Rattle.mmtel_call_services.specs.Requests.{is_ack_of, is_same_side, number_of}
use Rattle.mmtel_call_services.specs.CopiedHeaders.{copied_lines}
use Rattle.mmtel_call_services.specs.CallConfig.{CallConfigView}
use Rattle.mmtel_call.specs.Calls.{AnsweredInvite, Call, Departing, Established, EstablishedLegs, Stable, Stage, Success}
use Rattle.mmtel_call.specs.Closing.{StepResult, established_call_end, step_result}

-- ---- both sides

abbrev pub leg_of : Side → EstablishedLegs → Leg
leg_of Caller x = x.caller
leg_of Callee x = x.callee

abbrev pub with_leg : Side → Leg → EstablishedLegs → EstablishedLegs
with_leg Caller leg x = record x { caller = leg }
with_leg Callee leg x = record x { callee = leg }

-- the call at this stage
abbrev pub at_stage : EstablishedLegs → Stage → Call → Call
at_stage x stage c = record c { phase = Established x stage }

-- the header fields of a side's message that are copied to the other side
abbrev pub copied_across : CallConfigView → Call → EstablishedLegs → Side → MessageView → List Line
copied_across config c x side m = copied_lines config c.opening c.diversions x.service side (leg_of (other_side side) x).dialogue.peer m

-- BYE to a side
abbrev pub with_bye_to : CallConfigView → EstablishedLegs → Side → StepOutput → StepOutput
with_bye_to config x side output = with_bye config.sip (leg_of side x).dialogue output

-- an ACK of the server's own for the 2xx of a side, then BYE to it
abbrev pub with_ack_and_bye : CallConfigView → EstablishedLegs → Side → StepOutput → StepOutput
with_ack_and_bye config x side output = with_bye_to config x side (with_ack config.sip (leg_of side x).dialogue output)

-- ---- the ACK of a 2xx

-- whether this is the ACK of that side with the CSeq number of its INVITE (§13.2.2.4)
abbrev pub acknowledges : Side → Success → Side → MessageView → Bool
acknowledges waiting success side m = is_ack_of waiting success.cseq side (number_of m)

-- the text of the ACK for the INVITE of this branch is kept, because it is sent again for each retransmission of the 2xx
abbrev pub with_kept_ack : (branch text : List ℕ) → AnsweredInvite → AnsweredInvite
with_kept_ack branch text t = if bytes_eq t.invite.branch branch then record t { invite = record t.invite { ack = Some text } } else t

abbrev pub call_with_kept_ack : (branch text : List ℕ) → Call → Call
call_with_kept_ack branch text c = record c { answered_invites = map (with_kept_ack branch text) c.answered_invites }

-- ACK to the other side, with its body; the call is stable afterwards
abbrev pub after_ack_across : CallConfigView → EstablishedLegs → Side → Success → MessageView → Call → StepOutput → StepResult
after_ack_across config x side success m c output = record {
  call = call_with_kept_ack success.branch
      (relayed_ack_text config.sip (leg_of (other_side side) x).dialogue (token output) (copied_across config c x side m) m.parsed)
      (at_stage x Stable c);
  output = with_relayed_ack config.sip (leg_of (other_side side) x).dialogue (copied_across config c x side m) m.parsed output;
}

-- the ACK of the side for which a departing call waits: BYE to it
abbrev pub after_departure : CallConfigView → (at : ℕ) → EstablishedLegs → Side → Call → StepOutput → StepResult
after_departure config at x side c output = established_call_end at x c (with_bye_to config x side output)

-- ---- the ACK did not arrive

-- ACK without body and BYE to the other side; BYE to this one
abbrev pub after_ack_timeout : CallConfigView → (at : ℕ) → EstablishedLegs → Side → Call → StepOutput → StepResult
after_ack_timeout config at x side c output = established_call_end at x c (with_bye_to config x side (with_ack_and_bye config x (other_side side) output))

-- whether the deadline is that of this 2xx
abbrev pub is_due : Success → DueWord → Bool
is_due success (due.NoReply number) = false
is_due success (due.NoPrack number) = false
is_due success (due.Cap number) = false
is_due success (due.NoAck number) = number == success.number
is_due success (due.Expired number) = false

-- ---- BYE

-- from a side whose ACK is due: 200; ACK without body and BYE to the other side. From the other side: 200, and it has left
abbrev pub after_bye_before_ack : CallConfigView → (at : ℕ) → EstablishedLegs → Side → Success → Side → Call → StepOutput → StepResult
after_bye_before_ack config at x waiting success side c output =
    if is_same_side waiting side then established_call_end at x c (with_ack_and_bye config x (other_side side) output)
    else step_result (at_stage x (Departing waiting success) c) output

-- from a side of a stable call: 200, and the BYE is relayed to the other side
abbrev pub after_bye_across : CallConfigView → (at : ℕ) → EstablishedLegs → Side → MessageView → Call → StepOutput → StepResult
after_bye_across config at x side m c output = established_call_end at x c
    (with_relayed_request config.sip (codes "BYE") (leg_of (other_side side) x).dialogue (copied_across config c x side m) m.parsed output)
