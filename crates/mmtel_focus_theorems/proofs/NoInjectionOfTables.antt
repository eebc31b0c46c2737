-- Each operation keeps the table clean, and sends what is clean.
use Rattle.std.proofs.Common.{◌+◌, Bool, true, false, ℕ, List, [], ◌∷◌, take, drop, Option, Some, None, Result, Ok, Err}
use Rattle.std.specs.Prelude.{IfSome, if◌then◌else◌, option_to_list, position, slice_get, slice_set}
use Rattle.std.specs.List.{remove}
use Rattle.mmtel_compose.specs.ReceivedMessages.{MessageView}
use Rattle.mmtel_output.specs.AbandonedInvites.{AfterResponse, is_of_branch, on_response}
use Rattle.mmtel_output.specs.declared.sent_invites.AbandonedInvite.{AbandonedInvite}
use Rattle.mmtel_leg.specs.Releases.{released_leg}
use Rattle.mmtel_leg.specs.declared.legs.Released.{Released}
use Rattle.mmtel_transaction.specs.Tokens.{TokensView}
use Rattle.mmtel_transaction.specs.declared.words.TKey.{TKey}
use Rattle.mmtel_types.specs.declared.addrs.Addr.{Addr}
use Rattle.mmtel_focus.specs.Operations.{Adoption, JoinRequest, TableOp, Opens, Joins, Adopts, Notifies, Receives, Leaves, Closes, Drops, step_on_adopt, effects_after}
use Rattle.mmtel_focus.specs.Operations.{table_after_op, effects_of, step_on_receive, step_on_join, step_on_notify, step_on_open, table_after, with_conference_step}
use Rattle.mmtel_focus.specs.Joining.{after_adoption, after_join, new_conference}
use Rattle.mmtel_focus.specs.Conferences.{Conference, StepResult, no_effects}
use Rattle.mmtel_focus.specs.ParticipantSignals as of_seat
use Rattle.mmtel_focus.specs.ParticipantSignals.{ParticipantSignal}
use Rattle.mmtel_focus.specs.Participants as seats
use Rattle.mmtel_focus.specs.Participants.{after_notify_to, has_seat_number, is_connected}
use Rattle.mmtel_focus.specs.ConferenceConfig.{ConferenceConfigView}
use Rattle.mmtel_focus.specs.Table as table
use Rattle.mmtel_focus.specs.Table.{ConferenceStep, Table, TableStep, access, conference_has_branch, conference_without_at, conference_without_in, conference_without_seat, conferences_after_close}
use Rattle.mmtel_focus.specs.Table.{conferences_after_leave, conferences_with, conferences_without, conferences_without_seat, conferences_without_seat_at, is_abandoned_key, is_provisional}
use Rattle.mmtel_focus.specs.Table.{next_room_number, open_result_at, open_result_by, open_result_in, participant_has_branch, place_of, step_by_branch, step_by_number, step_if_access}
use Rattle.mmtel_focus.specs.Table.{step_of_abandoned_response, step_of_adoption, step_of_join, step_of_notify, step_of_opening, step_of_participant, step_of_response, step_of_response_at}
use Rattle.mmtel_focus.specs.Table.{step_of_signal, step_of_timeout, step_of_timeout_at, step_result_at, step_result_by, step_result_in, unchanged_step, without, without_at}
use Rattle.mmtel_output.specs.ResponseMatching.{awaited_request_branch, timed_out_branch}
use Rattle.mmtel_focus.specs.Texts.{own_status}
use Rattle.mmtel_focus.specs.declared.faults.RoomFault.{RoomFault}
use Rattle.mmtel_participants.specs.declared.effects.Effects.{Effects}
use Rattle.mmtel_participants.specs.declared.participants.ParticipantState.{ParticipantState}
use Rattle.mmtel_focus.specs.declared.signals.RoomSignal.{RoomSignal}
use Rattle.mmtel_focus.specs.declared.signals.RoomSignal.TheVariants as signal
use Rattle.mmtel_call_theorems.specs.NoInjection.Messages.{HasNoInjection}
use Rattle.mmtel_call_theorems.specs.NoInjection.Emits.{Each, EmitHasNoInjection}
use Rattle.mmtel_call_theorems.specs.NoInjection.Inputs.{ParsedHasNoInjection}
use Rattle.mmtel_call_theorems.specs.NoInjection.CallState.{LegHasNoInjection}
use Rattle.mmtel_call_theorems.proofs.NoInjection.ReceivedMessages.{parsed_no_injection}
use Rattle.mmtel_call_theorems.proofs.NoInjection.CallState.{AbandonedHasNoInjection}
use Rattle.mmtel_call_theorems.proofs.NoInjection.AbandonedInvites.{late_response_no_injection}
use Rattle.mmtel_call_theorems.proofs.NoInjection.Sending.{each_append, each_drop, each_get, each_option, each_take}
use Rattle.mmtel_call_theorems.proofs.NoInjection.Traces.{each_lines}
use Rattle.mmtel_focus_theorems.specs.NoInjection.{AdoptionHasNoInjection, EmitsHaveNoInjection, EmitsHaveOwnFields, JoinRequestHasNoInjection, OpHasNoInjection, SignalHasNoInjection}
use Rattle.mmtel_focus_theorems.proofs.NoInjectionOfTransitions.{ack_row, after_adoption_no_injection, after_join_no_injection, answer_row, due_row, request_row, silence_row}
use Rattle.mmtel_focus_theorems.proofs.NoInjectionOfSteps.{ConferenceHasNoInjection, EffectsHaveNoInjection, IsFreeOfInjection, KeepsNoInjection, ParticipantHasNoInjection}
use Rattle.mmtel_focus_theorems.proofs.NoInjectionOfSteps.{StepHasNoInjection, after_notify_to_no_injection, at_place_no_injection, each_removed, each_set}

-- ---- a step of the conferences

record ConferenceStepHasNoInjection (s : ConferenceStep) : Type 0 where
  pub live_in : Each ConferenceHasNoInjection s.live
  pub effects_in : EffectsHaveNoInjection s.effects

-- a transition of conferences
abbrev KeepsTableNoInjection : (row : StepResult → StepResult) → Type 0
KeepsTableNoInjection row = (s : StepResult) → StepHasNoInjection s → StepHasNoInjection (row s)

conferences_with_no_injection : (place : ℕ) (b : Bool) (room : Conference) (live : List Conference) → ConferenceHasNoInjection room → Each ConferenceHasNoInjection live →
    Each ConferenceHasNoInjection (conferences_with place b room live)
conferences_with_no_injection place true room live e is = each_removed ConferenceHasNoInjection place (slice_set live place room) (each_set ConferenceHasNoInjection live place room is e)
conferences_with_no_injection place false room live e is = each_set ConferenceHasNoInjection live place room is e

by_no_injection : (place : ℕ) (s : StepResult) (live : List Conference) → Each ConferenceHasNoInjection live → StepHasNoInjection s → ConferenceStepHasNoInjection (step_result_by place s live)
by_no_injection place s live is e =
    record { live_in = conferences_with_no_injection place s.effects.closes s.conference live e.conference_in is; effects_in = record { abandoned_in = e.abandoned_in; output_in = e.output_in } }

room_no_injection : (row : StepResult → StepResult) (place : ℕ) (o : Option Conference) (live : List Conference) (effects : Effects) → KeepsTableNoInjection row → IfSome o ConferenceHasNoInjection →
    Each ConferenceHasNoInjection live → EffectsHaveNoInjection effects → ConferenceStepHasNoInjection (step_result_at row place o live effects)
room_no_injection row place None live effects k e is had = record { live_in = is; effects_in = had }
room_no_injection row place (Some room) live effects k e is had =
    by_no_injection place (row (record { conference = room; effects = effects })) live is
    (k (record { conference = room; effects = effects }) (record { conference_in = e; abandoned_in = had.abandoned_in; output_in = had.output_in }))

at_no_injection : (row : StepResult → StepResult) (place : ℕ) (live : List Conference) (effects : Effects) → KeepsTableNoInjection row → Each ConferenceHasNoInjection live →
    EffectsHaveNoInjection effects → ConferenceStepHasNoInjection (step_result_at row place (slice_get live place) live effects)
at_no_injection row place live effects k is had = room_no_injection row place (slice_get live place) live effects k (each_get ConferenceHasNoInjection live place is) is had

-- a step in which no conference closes
open_result_by_no_injection : (place : ℕ) (s : StepResult) (live : List Conference) → Each ConferenceHasNoInjection live → StepHasNoInjection s → ConferenceStepHasNoInjection (open_result_by place s live)
open_result_by_no_injection place s live is e =
    record { live_in = each_set ConferenceHasNoInjection live place s.conference is e.conference_in; effects_in = record { abandoned_in = e.abandoned_in; output_in = e.output_in } }

stays_room_no_injection : (row : StepResult → StepResult) (place : ℕ) (o : Option Conference) (live : List Conference) (effects : Effects) → KeepsTableNoInjection row →
    IfSome o ConferenceHasNoInjection → Each ConferenceHasNoInjection live → EffectsHaveNoInjection effects → ConferenceStepHasNoInjection (open_result_at row place o live effects)
stays_room_no_injection row place None live effects k e is had = record { live_in = is; effects_in = had }
stays_room_no_injection row place (Some room) live effects k e is had =
    open_result_by_no_injection place (row (record { conference = room; effects = effects })) live is
    (k (record { conference = room; effects = effects }) (record { conference_in = e; abandoned_in = had.abandoned_in; output_in = had.output_in }))

open_result_at_no_injection : (row : StepResult → StepResult) (place : ℕ) (live : List Conference) (effects : Effects) → KeepsTableNoInjection row → Each ConferenceHasNoInjection live →
    EffectsHaveNoInjection effects → ConferenceStepHasNoInjection (open_result_at row place (slice_get live place) live effects)
open_result_at_no_injection row place live effects k is had = stays_room_no_injection row place (slice_get live place) live effects k (each_get ConferenceHasNoInjection live place is) is had

open_result_in_no_injection : (row : StepResult → StepResult) (o : Option ℕ) (live : List Conference) (effects : Effects) → KeepsTableNoInjection row → Each ConferenceHasNoInjection live →
    EffectsHaveNoInjection effects → ConferenceStepHasNoInjection (open_result_in row o live effects)
open_result_in_no_injection row None live effects k is had = record { live_in = is; effects_in = had }
open_result_in_no_injection row (Some place) live effects k is had = open_result_at_no_injection row place live effects k is had

in_no_injection : (row : StepResult → StepResult) (o : Option ℕ) (live : List Conference) (effects : Effects) → KeepsTableNoInjection row → Each ConferenceHasNoInjection live →
    EffectsHaveNoInjection effects → ConferenceStepHasNoInjection (step_result_in row o live effects)
in_no_injection row None live effects k is had = record { live_in = is; effects_in = had }
in_no_injection row (Some place) live effects k is had = at_no_injection row place live effects k is had

-- ---- what a participant receives

abbrev ParticipantSignalNoInjection : ParticipantSignal → Type 0
ParticipantSignalNoInjection (of_seat.Request key request) = ParsedHasNoInjection request.parsed
ParticipantSignalNoInjection (of_seat.Ack ack) = ParsedHasNoInjection ack.parsed
ParticipantSignalNoInjection (of_seat.Answer key response) = ParsedHasNoInjection response.parsed
ParticipantSignalNoInjection of_seat.Silent = Unit {0}
ParticipantSignalNoInjection (of_seat.Due what) = Unit {0}

step_of_participant_no_injection : (config : ConferenceConfigView) (at : ℕ) (received : ParticipantSignal) → ParticipantSignalNoInjection received → KeepsNoInjection (step_of_participant config at received)
unfolding step_of_participant
step_of_participant_no_injection config at (of_seat.Request key request) h place seat s e is = request_row config at key request (parsed_no_injection request.parsed h) place seat s e is
step_of_participant_no_injection config at (of_seat.Ack ack) h place seat s e is = ack_row ack place seat s e is
step_of_participant_no_injection config at (of_seat.Answer key response) h place seat s e is = answer_row config at key response (parsed_no_injection response.parsed h) place seat s e is
step_of_participant_no_injection config at of_seat.Silent h place seat s e is = silence_row config at place seat s e is
step_of_participant_no_injection config at (of_seat.Due what) h place seat s e is = due_row config at what place seat s e is

step_on_receive_no_injection : (config : ConferenceConfigView) (at : ℕ) (whose : ParticipantState → Bool) (received : ParticipantSignal) → ParticipantSignalNoInjection received →
    KeepsTableNoInjection (table.step_of_first config at whose received)
step_on_receive_no_injection config at whose received h s is =
    at_place_no_injection (step_of_participant config at received) (step_of_participant_no_injection config at received h) (position whose s.conference.participants) s is

step_by_number_no_injection : (config : ConferenceConfigView) (at : ℕ) (room seat : ℕ) (received : ParticipantSignal) (live : List Conference) (effects : Effects) →
    ParticipantSignalNoInjection received → Each ConferenceHasNoInjection live → EffectsHaveNoInjection effects →
    ConferenceStepHasNoInjection (step_by_number config at room seat received live effects)
step_by_number_no_injection config at room seat received live effects h is had =
    in_no_injection (table.step_of_first config at (has_seat_number seat) received) (place_of room live) live effects (step_on_receive_no_injection config at (has_seat_number seat) received h) is had

step_by_branch_no_injection : (config : ConferenceConfigView) (at : ℕ) (branch : List ℕ) (received : ParticipantSignal) (live : List Conference) (effects : Effects) →
    ParticipantSignalNoInjection received → Each ConferenceHasNoInjection live → EffectsHaveNoInjection effects → ConferenceStepHasNoInjection (step_by_branch config at branch received live effects)
step_by_branch_no_injection config at branch received live effects h is had = in_no_injection (table.step_of_first config at (participant_has_branch branch) received)
    (position (conference_has_branch branch) live) live effects (step_on_receive_no_injection config at (participant_has_branch branch) received h) is had

-- ---- abandoned INVITEs

record TableStepHasNoInjection (moved : TableStep) : Type 0 where
  pub live_in : Each ConferenceHasNoInjection moved.live
  pub abandoned_in : Each (AbandonedHasNoInjection []) moved.abandoned
  pub effects_in : EffectsHaveNoInjection moved.effects

beside_no_injection : (abandoned : List AbandonedInvite) (s : ConferenceStep) → Each (AbandonedHasNoInjection []) abandoned → ConferenceStepHasNoInjection s → TableStepHasNoInjection (table.with_abandoned abandoned s)
beside_no_injection abandoned s e is = record { live_in = is.live_in; abandoned_in = e; effects_in = is.effects_in }

without_at_no_injection : (place : ℕ) (abandoned : List AbandonedInvite) → Each (AbandonedHasNoInjection []) abandoned → Each (AbandonedHasNoInjection []) (without_at place abandoned)
without_at_no_injection place abandoned e = each_append (AbandonedHasNoInjection []) (take place abandoned) (drop (place + 1) abandoned) (each_take (AbandonedHasNoInjection []) place abandoned e)
    (each_drop (AbandonedHasNoInjection []) (place + 1) abandoned e)

without_no_injection : (o : Option ℕ) (abandoned : List AbandonedInvite) → Each (AbandonedHasNoInjection []) abandoned → Each (AbandonedHasNoInjection []) (without o abandoned)
without_no_injection None abandoned e = e
without_no_injection (Some place) abandoned e = without_at_no_injection place abandoned e

unchanged_step_no_injection : (live : List Conference) (abandoned : List AbandonedInvite) (effects : Effects) → Each ConferenceHasNoInjection live → Each (AbandonedHasNoInjection []) abandoned →
    EffectsHaveNoInjection effects → TableStepHasNoInjection (table.with_abandoned abandoned (unchanged_step live effects))
unchanged_step_no_injection live abandoned effects is e had = record { live_in = is; abandoned_in = e; effects_in = had }

abandoned_row : (sip : Addr) (key : TKey) (m : MessageView) (place : ℕ) (o : Option AbandonedInvite) (live : List Conference) (abandoned : List AbandonedInvite) (effects : Effects) →
    ParsedHasNoInjection m.parsed → IfSome o (AbandonedHasNoInjection []) → Each ConferenceHasNoInjection live → Each (AbandonedHasNoInjection []) abandoned → EffectsHaveNoInjection effects →
    TableStepHasNoInjection (step_of_abandoned_response sip key m place o live abandoned effects)
abandoned_row sip key m place None live abandoned effects h f is e had = unchanged_step_no_injection live abandoned effects is e had
abandoned_row sip key m place (Some l) live abandoned effects h f is e had =
    let rest : AfterResponse = on_response sip key m.parsed l effects.output in
    let is_rest = late_response_no_injection [] sip key m.parsed l effects.output (parsed_no_injection m.parsed h) f had.output_in in
    record {
      live_in = is;
      abandoned_in = each_append (AbandonedHasNoInjection []) (without_at place abandoned) (option_to_list rest.remaining) (without_at_no_injection place abandoned e)
          (each_option (AbandonedHasNoInjection []) rest.remaining is_rest.remaining_in);
      effects_in = record { abandoned_in = had.abandoned_in; output_in = is_rest.output_in };
    }

-- ---- signals

step_of_response_at_no_injection :
    (config : ConferenceConfigView) (at : ℕ) (key : TKey) (m : MessageView) (branch : List ℕ) (o : Option ℕ) (live : List Conference) (abandoned : List AbandonedInvite) (effects : Effects) →
    ParsedHasNoInjection m.parsed → Each ConferenceHasNoInjection live → Each (AbandonedHasNoInjection []) abandoned → EffectsHaveNoInjection effects →
    TableStepHasNoInjection (step_of_response_at config at key m branch o live abandoned effects)
step_of_response_at_no_injection config at key m branch None live abandoned effects h is e had =
    beside_no_injection abandoned (step_by_branch config at branch (of_seat.Answer key m) live effects) e (step_by_branch_no_injection config at branch (of_seat.Answer key m) live effects h is had)
step_of_response_at_no_injection config at key m branch (Some place) live abandoned effects h is e had =
    abandoned_row config.sip key m place (slice_get abandoned place) live abandoned effects h (each_get (AbandonedHasNoInjection []) abandoned place e) is e had

step_of_response_no_injection :
    (config : ConferenceConfigView) (at : ℕ) (key : TKey) (m : MessageView) (o : Option (List ℕ)) (live : List Conference) (abandoned : List AbandonedInvite) (effects : Effects) →
    ParsedHasNoInjection m.parsed → Each ConferenceHasNoInjection live → Each (AbandonedHasNoInjection []) abandoned → EffectsHaveNoInjection effects →
    TableStepHasNoInjection (step_of_response config at key m o live abandoned effects)
step_of_response_no_injection config at key m None live abandoned effects h is e had = unchanged_step_no_injection live abandoned effects is e had
step_of_response_no_injection config at key m (Some branch) live abandoned effects h is e had =
    step_of_response_at_no_injection config at key m branch (position (is_of_branch branch) abandoned) live abandoned effects h is e had

step_of_timeout_at_no_injection : (config : ConferenceConfigView) (at : ℕ) (branch : List ℕ) (o : Option ℕ) (live : List Conference) (abandoned : List AbandonedInvite) (effects : Effects) →
    Each ConferenceHasNoInjection live → Each (AbandonedHasNoInjection []) abandoned → EffectsHaveNoInjection effects →
    TableStepHasNoInjection (step_of_timeout_at config at branch o live abandoned effects)
step_of_timeout_at_no_injection config at branch None live abandoned effects is e had =
    beside_no_injection abandoned (step_by_branch config at branch of_seat.Silent live effects) e (step_by_branch_no_injection config at branch of_seat.Silent live effects tt is had)
step_of_timeout_at_no_injection config at branch (Some place) live abandoned effects is e had = unchanged_step_no_injection live (without_at place abandoned) effects is (without_at_no_injection place abandoned e) had

step_of_timeout_no_injection : (config : ConferenceConfigView) (at : ℕ) (o : Option (List ℕ)) (live : List Conference) (abandoned : List AbandonedInvite) (effects : Effects) →
    Each ConferenceHasNoInjection live → Each (AbandonedHasNoInjection []) abandoned → EffectsHaveNoInjection effects →
    TableStepHasNoInjection (step_of_timeout config at o live abandoned effects)
step_of_timeout_no_injection config at None live abandoned effects is e had = unchanged_step_no_injection live abandoned effects is e had
step_of_timeout_no_injection config at (Some branch) live abandoned effects is e had = step_of_timeout_at_no_injection config at branch (position (is_of_branch branch) abandoned) live abandoned effects is e had

signal_no_injection : (config : ConferenceConfigView) (at : ℕ) (x : RoomSignal) (live : List Conference) (abandoned : List AbandonedInvite) (effects : Effects) → SignalHasNoInjection x →
    Each ConferenceHasNoInjection live → Each (AbandonedHasNoInjection []) abandoned → EffectsHaveNoInjection effects → TableStepHasNoInjection (step_of_signal config at x live abandoned effects)
unfolding step_of_signal
signal_no_injection config at (signal.Request room seat key request) live abandoned effects h is e had =
    beside_no_injection abandoned (step_by_number config at room.0 seat (of_seat.Request key request) live effects) e
    (step_by_number_no_injection config at room.0 seat (of_seat.Request key request) live effects h is had)
signal_no_injection config at (signal.Ack room seat ack) live abandoned effects h is e had =
    beside_no_injection abandoned (step_by_number config at room.0 seat (of_seat.Ack ack) live effects) e (step_by_number_no_injection config at room.0 seat (of_seat.Ack ack) live effects h is had)
signal_no_injection config at (signal.Answer key response) live abandoned effects h is e had = step_of_response_no_injection config at key response (awaited_request_branch response) live abandoned effects h is e had
signal_no_injection config at (signal.Silent branch method) live abandoned effects h is e had = step_of_timeout_no_injection config at (timed_out_branch branch method) live abandoned effects is e had
signal_no_injection config at (signal.Due room seat what) live abandoned effects h is e had =
    beside_no_injection abandoned (step_by_number config at room.0 seat (of_seat.Due what) live effects) e (step_by_number_no_injection config at room.0 seat (of_seat.Due what) live effects tt is had)
signal_no_injection config at (signal.Over key) live abandoned effects h is e had =
    unchanged_step_no_injection live (without (position (is_abandoned_key key) abandoned) abandoned) effects is (without_no_injection (position (is_abandoned_key key) abandoned) abandoned e) had

-- ---- participants are added

no_effects_no_injection : (tokens : TokensView) → HasNoInjection tokens.token → EffectsHaveNoInjection (no_effects tokens)
no_effects_no_injection tokens e = record { abandoned_in = tt; output_in = record { token_in = e; out_in = tt } }

here : (leg : Released) → LegHasNoInjection leg → IsFreeOfInjection (released_leg leg).dialogue
here leg is = (is.dialog, is.tag)

step_if_access_no_injection : (row : StepResult → StepResult) (r : Result ℕ RoomFault) (live : List Conference) (effects : Effects) → KeepsTableNoInjection row → Each ConferenceHasNoInjection live →
    EffectsHaveNoInjection effects → ConferenceStepHasNoInjection (step_if_access row r live effects)
step_if_access_no_injection row (Ok place) live effects k is had = open_result_at_no_injection row place live effects k is had
step_if_access_no_injection row (Err fault) live effects k is had = record { live_in = is; effects_in = had }

step_of_opening_no_injection : (config : ConferenceConfigView) (c : JoinRequest) (t : Table) → JoinRequestHasNoInjection c → StepHasNoInjection (step_on_open config c t)
step_of_opening_no_injection config c t is =
    after_join_no_injection config c.at c.leg c.account c.key c.invite (record { conference = new_conference (next_room_number t); effects = no_effects c.tokens }) (here c.leg is.leg)
    (parsed_no_injection c.invite.parsed is.invite)
    (record { conference_in = tt; abandoned_in = tt; output_in = record { token_in = is.token; out_in = tt } })

step_of_join_no_injection : (config : ConferenceConfigView) (room : ℕ) (c : JoinRequest) (t : Table) → JoinRequestHasNoInjection c → Each ConferenceHasNoInjection t.live →
    ConferenceStepHasNoInjection (step_on_join config room c t)
unfolding step_of_join
step_of_join_no_injection config room c t is live =
    step_if_access_no_injection (after_join config c.at c.leg c.account c.key c.invite) (access room t.live) t.live (no_effects c.tokens)
    (λ s e. after_join_no_injection config c.at c.leg c.account c.key c.invite s (here c.leg is.leg) (parsed_no_injection c.invite.parsed is.invite) e) live (no_effects_no_injection c.tokens is.token)

adoption_no_injection : (config : ConferenceConfigView) (room : ℕ) (a : Adoption) (t : Table) → AdoptionHasNoInjection a → Each ConferenceHasNoInjection t.live →
    ConferenceStepHasNoInjection (step_on_adopt config room a t)
unfolding step_of_adoption
adoption_no_injection config room a t is live =
    step_if_access_no_injection (after_adoption config a.at a.leg a.account a.by) (access room t.live) t.live (no_effects a.tokens)
    (λ s e. after_adoption_no_injection config a.at a.leg a.account a.by s (here a.leg is.leg) e) live (no_effects_no_injection a.tokens is.token)

step_of_notify_no_injection : (config : ConferenceConfigView) (room seat code : ℕ) (tokens : TokensView) (t : Table) → HasNoInjection tokens.token → Each ConferenceHasNoInjection t.live →
    ConferenceStepHasNoInjection (step_on_notify config room seat code tokens t)
unfolding step_of_notify
step_of_notify_no_injection config room seat code tokens t is live =
    open_result_in_no_injection (after_notify_to config (is_provisional code) (own_status code) seat) (place_of room t.live) t.live (no_effects tokens)
    (λ s e. after_notify_to_no_injection config (is_provisional code) (own_status code) seat s e) live (no_effects_no_injection tokens is)

-- ---- a participant leaves, and a conference is closed, without a signal

left_at_clean : (place : ℕ) (o : Option ParticipantState) (room : Conference) → ConferenceHasNoInjection room → ConferenceHasNoInjection (conference_without_at place o room)
left_at_clean place None room is = is
left_at_clean place (Some seat) room is = by (is_connected seat)
  where
    by : (b : Bool) → ConferenceHasNoInjection (if b then record room { participants = remove room.participants place } else room)
    by true = each_removed ParticipantHasNoInjection place room.participants is
    by false = is

left_in_clean : (o : Option ℕ) (room : Conference) → ConferenceHasNoInjection room → ConferenceHasNoInjection (conference_without_in o room)
left_in_clean None room is = is
left_in_clean (Some place) room is = left_at_clean place (slice_get room.participants place) room is

room_left_clean : (seat place : ℕ) (o : Option Conference) (live : List Conference) → IfSome o ConferenceHasNoInjection → Each ConferenceHasNoInjection live →
    Each ConferenceHasNoInjection (conferences_without_seat seat place o live)
room_left_clean seat place None live e is = is
room_left_clean seat place (Some room) live e is = each_set ConferenceHasNoInjection live place (conference_without_seat seat room) is (left_in_clean (seats.place_of seat room.participants) room e)

room_left_at_clean : (seat : ℕ) (o : Option ℕ) (live : List Conference) → Each ConferenceHasNoInjection live → Each ConferenceHasNoInjection (conferences_without_seat_at seat o live)
room_left_at_clean seat None live is = is
room_left_at_clean seat (Some place) live is = room_left_clean seat place (slice_get live place) live (each_get ConferenceHasNoInjection live place is) is

left_clean : (room seat : ℕ) (live : List Conference) → Each ConferenceHasNoInjection live → Each ConferenceHasNoInjection (conferences_after_leave room seat live)
unfolding conferences_after_leave
left_clean room seat live is = room_left_at_clean seat (place_of room live) live is

conferences_without_no_injection : (o : Option ℕ) (live : List Conference) → Each ConferenceHasNoInjection live → Each ConferenceHasNoInjection (conferences_without o live)
conferences_without_no_injection None live is = is
conferences_without_no_injection (Some place) live is = each_removed ConferenceHasNoInjection place live is

closed_clean : (room : ℕ) (live : List Conference) → Each ConferenceHasNoInjection live → Each ConferenceHasNoInjection (conferences_after_close room live)
unfolding conferences_after_close
closed_clean room live is = conferences_without_no_injection (place_of room live) live is

-- ---- each operation

record TableHasNoInjection (t : Table) : Type 0 where
  pub live_in : Each ConferenceHasNoInjection t.live
  pub abandoned_in : Each (AbandonedHasNoInjection []) t.abandoned

-- the table after it, and its output
record Did (config : ConferenceConfigView) (op : TableOp) (t : Table) : Type 0 where
  pub table_in : TableHasNoInjection (table_after_op config op t)
  pub out_in : Each (EmitHasNoInjection []) (effects_of config op t).output.out

stepped_did : (t : Table) (s : ConferenceStep) → TableHasNoInjection t → ConferenceStepHasNoInjection s → TableHasNoInjection (with_conference_step s t)
stepped_did t s is e = record { live_in = e.live_in; abandoned_in = each_append (AbandonedHasNoInjection []) t.abandoned s.effects.abandoned is.abandoned_in e.effects_in.abandoned_in }

table_after_op_no_injection : (config : ConferenceConfigView) (op : TableOp) (t : Table) → OpHasNoInjection op → TableHasNoInjection t → Did config op t
table_after_op_no_injection config (Opens c) t e is =
    let one = step_of_opening_no_injection config c t e in
    record {
      table_in = record { live_in = each_append ConferenceHasNoInjection t.live ((step_on_open config c t).conference ∷ []) is.live_in (one.conference_in, tt); abandoned_in = is.abandoned_in };
      out_in = one.output_in.out_in;
    }
table_after_op_no_injection config (Joins room c) t e is =
    let one = step_of_join_no_injection config room c t e is.live_in in record { table_in = stepped_did t (step_on_join config room c t) is one; out_in = one.effects_in.output_in.out_in }
table_after_op_no_injection config (Adopts room a) t e is =
    let one = adoption_no_injection config room a t e is.live_in in record { table_in = stepped_did t (step_on_adopt config room a t) is one; out_in = one.effects_in.output_in.out_in }
table_after_op_no_injection config (Notifies room seat code tokens) t e is =
    let one = step_of_notify_no_injection config room seat code tokens t e is.live_in in
    record { table_in = stepped_did t (step_on_notify config room seat code tokens t) is one; out_in = one.effects_in.output_in.out_in }
table_after_op_no_injection config (Receives x) t e is =
    let moved : TableStep = step_on_receive config x t in
    let one = signal_no_injection config x.at x.signal t.live t.abandoned (no_effects x.tokens) e.signal is.live_in is.abandoned_in (no_effects_no_injection x.tokens e.token) in
    record {
      table_in = record { live_in = one.live_in; abandoned_in = each_append (AbandonedHasNoInjection []) moved.abandoned moved.effects.abandoned one.abandoned_in one.effects_in.abandoned_in };
      out_in = one.effects_in.output_in.out_in;
    }
table_after_op_no_injection config (Leaves room seat) t e is = record { table_in = record { live_in = left_clean room seat t.live is.live_in; abandoned_in = is.abandoned_in }; out_in = tt }
table_after_op_no_injection config (Closes room) t e is = record { table_in = record { live_in = closed_clean room t.live is.live_in; abandoned_in = is.abandoned_in }; out_in = tt }
table_after_op_no_injection config (Drops count) t e is = record { table_in = record { live_in = is.live_in; abandoned_in = is.abandoned_in }; out_in = tt }

-- ---- whatever was done before

table_no_injection : (config : ConferenceConfigView) (ops : List TableOp) → Each OpHasNoInjection ops → TableHasNoInjection (table_after config ops)
table_no_injection config [] each = record { live_in = tt; abandoned_in = tt }
table_no_injection config (op ∷ ops) each = (table_after_op_no_injection config op (table_after config ops) each.0 (table_no_injection config ops each.1)).table_in

pub emits_no_injection : EmitsHaveNoInjection
emits_no_injection config ops op each = (table_after_op_no_injection config op (table_after config ops) each.0 (table_no_injection config ops each.1)).out_in

pub emits_have_lines : EmitsHaveOwnFields
emits_have_lines config ops op each = each_lines [] (effects_after config ops op).output.out (emits_no_injection config ops op each)
