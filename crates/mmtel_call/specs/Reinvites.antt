-- An INVITE within an answered call: it is relayed to the other side, and the response of that side is relayed back (RFC 3261 §14, TS 24.610 §4.5.2.1).
use Rattle.std.specs.Prelude.{ℕ, ◌==◌, ◌||◌, not, nat_lt, Bool, true, false, if◌then◌else◌, List, [], ◌∷◌, ◌++◌, codes}
use Rattle.mmtel_compose.specs.ReceivedMessages.{MessageView}
use Rattle.mmtel_output.specs.SentInvites.{invite_after_cancel, with_provisional}
use Rattle.mmtel_output.specs.Sending.{with_due_cancel, with_final_ack, with_relayed_request, with_relayed_response}
use Rattle.mmtel_output.specs.declared.outputs.StepOutput.{StepOutput}
use Rattle.mmtel_output.specs.declared.sent_invites.AbandonedInvite.{AbandonedInvite}
use Rattle.mmtel_leg.specs.Dialogues.{after_request}
pub use Rattle.mmtel_leg.specs.Legs.{leg_after_invite}
use Rattle.mmtel_leg.specs.declared.dialogues.Dialogue.{Dialogue}
use Rattle.mmtel_sdp.specs.Offers.{direction_in_body}
use Rattle.mmtel_transaction.specs.declared.words.TKey.{TKey}
use Rattle.mmtel_types.specs.Sides.{other_side}
use Rattle.mmtel_types.specs.declared.sides.Side.{Side}
use Rattle.mmtel_types.specs.declared.sides.Side.TheVariants.{Caller, Callee}
use Rattle.mmtel_call_services.specs.Requests.{is_same_side}
use Rattle.mmtel_call_services.specs.CopiedHeaders.{copied_lines}
use Rattle.mmtel_call_services.specs.CallConfig.{CallConfigView}
use Rattle.mmtel_call.specs.Answered.{at_stage, copied_across, leg_of, with_bye_to, with_leg}
use Rattle.mmtel_call.specs.Calls.{Answered, Call, Established, EstablishedLegs, Reinvite, Reinviting, Stable}
use Rattle.mmtel_call.specs.Closing.{StepResult, established_call_end, step_result}
pub use Rattle.mmtel_call.specs.RelayedTransactions.{hold_after, invite_sent_in, reinvite_of}
use Rattle.mmtel_call.specs.Ringing.{new_answered_invite, next_success, success_of, with_abandoned, with_ack_timer, with_expiry_timer}
use Rattle.mmtel_call.specs.Sending.{with_status_to}

-- ---- it is relayed to the other side

-- 100 to the side that sent it; the INVITE to the other one, with the call's History-Info
abbrev pub after_invite_across : CallConfigView → EstablishedLegs → Side → TKey → MessageView → Call → StepOutput → StepResult
after_invite_across config x side key m c output = record {
  call = at_stage (with_leg (other_side side) (leg_after_invite (leg_of (other_side side) x)) x)
      (Reinviting side (reinvite_of key m (leg_after_invite (leg_of (other_side side) x)) output)) c;
  output = with_relayed_request config.sip (codes "INVITE") (leg_of (other_side side) x).dialogue (copied_across config c x side m) m.parsed output;
}

abbrev pub on_reinvite : CallConfigView → EstablishedLegs → Side → TKey → MessageView → Call → StepOutput → StepResult
on_reinvite config x side key m c output = after_invite_across config x side key m c (with_status_to config c key m 100 output)

-- ---- responses of the other side

-- a response is relayed to the side that sent the INVITE
abbrev pub with_relayed_back : CallConfigView → EstablishedLegs → Side → Reinvite → MessageView → Call → StepOutput → StepOutput
with_relayed_back config x side q m c output = with_relayed_response config.sip q.key q.request c.opening.tag
    (copied_lines config c.opening c.diversions x.service (other_side side) q.request.peer m) m output

-- 1xx: nothing, except for a CANCEL that waits for it
abbrev pub reinvite_after_provisional : TKey → Reinvite → Reinvite
reinvite_after_provisional key q =
    record q { cancel_due = false; invite = if q.cancel_due then invite_after_cancel (with_provisional key q.invite) else with_provisional key q.invite }

abbrev pub with_cancel_if_due : CallConfigView → TKey → Reinvite → StepOutput → StepOutput
with_cancel_if_due config key q output = if q.cancel_due then with_due_cancel config.sip (with_provisional key q.invite) output else output

abbrev pub on_provisional_across : CallConfigView → EstablishedLegs → Side → Reinvite → TKey → Call → StepOutput → StepResult
on_provisional_across config x side q key c output = step_result (at_stage x (Reinviting side (reinvite_after_provisional key q)) c) (with_cancel_if_due config key q output)

-- 2xx: it is relayed back, and the ACK of the side that sent the INVITE is due; the hold state is that of its offer
abbrev pub on_accepted_reinvite : CallConfigView → (at : ℕ) → EstablishedLegs → Side → Reinvite → TKey → MessageView → Call → StepOutput → StepResult
on_accepted_reinvite config at x side q key m c output = record {
  call = record c {
    successes = next_success c;
    hold = hold_after side (direction_in_body q.request.parsed.body) c.hold;
    answered_invites = c.answered_invites ++ new_answered_invite key m true q.invite ∷ [];
    phase = Established x (Answered side (success_of c q.request q.invite));
  };
  output = with_expiry_timer config at m c (with_ack_timer at c (with_relayed_back config x side q m c output));
}

-- ACK, and the response is relayed back
abbrev pub with_refusal_back : CallConfigView → EstablishedLegs → Side → Reinvite → TKey → MessageView → Call → StepOutput → StepOutput
with_refusal_back config x side q key m c output = with_relayed_back config x side q m c (with_final_ack config.sip key q.invite m.parsed output)

abbrev pub with_byes : CallConfigView → EstablishedLegs → StepOutput → StepOutput
with_byes config x output = with_bye_to config x Callee (with_bye_to config x Caller output)

-- 408 and 481 end the call (§12.2.1.2, RFC 5057 §5.1)
abbrev pub ends_dialog : ℕ → Bool
ends_dialog code = code == 408 || code == 481

abbrev pub on_response_across : CallConfigView → (at : ℕ) → EstablishedLegs → Side → Reinvite → TKey → MessageView → ℕ → Call → StepOutput → StepResult
on_response_across config at x side q key m code c output =
    if nat_lt code 200 then on_provisional_across config x side q key c output
    else if nat_lt code 300 then on_accepted_reinvite config at x side q key m c output
    else if ends_dialog code then established_call_end at x c (with_byes config x (with_refusal_back config x side q key m c output))
    else step_result (at_stage x Stable c) (with_refusal_back config x side q key m c output)

-- a timeout has the same effect as a 408, which here is the server's own
abbrev pub on_timeout_across : CallConfigView → (at : ℕ) → EstablishedLegs → Reinvite → Call → StepOutput → StepResult
on_timeout_across config at x q c output = established_call_end at x c (with_byes config x (with_status_to config c q.key q.request 408 output))

-- ---- the side that sent the INVITE cancels it, or a side leaves

-- CANCEL to the other side if a provisional response was received, otherwise once one is received (§9.1)
abbrev pub reinvite_after_cancel : Reinvite → Reinvite
reinvite_after_cancel q = record q { cancel_due = not q.invite.provisional; invite = invite_after_cancel q.invite }

abbrev pub on_cancel_across : CallConfigView → EstablishedLegs → Side → Reinvite → Call → StepOutput → StepResult
on_cancel_across config x side q c output = step_result (at_stage x (Reinviting side (reinvite_after_cancel q)) c) (with_due_cancel config.sip q.invite output)

-- the INVITE is abandoned; where the other side has got a BYE, its dialog is ended, and a late 2xx needs no other
abbrev pub ended_dialogs : EstablishedLegs → (asking leaving : Side) → List Dialogue
ended_dialogs x asking leaving = if is_same_side asking leaving then after_request (leg_of (other_side asking) x).dialogue (codes "BYE") ∷ [] else []

abbrev pub abandoned_across : EstablishedLegs → (asking leaving : Side) → Reinvite → AbandonedInvite
abandoned_across x asking leaving q = record { invite = record q.invite { forks = ended_dialogs x asking leaving }; in_dialog = true }

-- 487 to the INVITE that is pending; BYE to the side that did not leave
abbrev pub on_bye_reinviting : CallConfigView → (at : ℕ) → EstablishedLegs → (asking : Side) → Reinvite → (leaving : Side) → Call → StepOutput → StepResult
on_bye_reinviting config at x asking q leaving c output =
    established_call_end at x (with_abandoned (abandoned_across x asking leaving q) c)
    (with_bye_to config x (other_side leaving) (with_status_to config c q.key q.request 487 output))
