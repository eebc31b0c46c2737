-- What private functions alone cite: a leg that is handed back to the caller of the function, a conference for a leg, a request that the participant at a place receives, and the
-- result of a REFER.
use Rattle.std.specs.Prelude.{ℕ, Option, Some, None, Result, Ok, slice_set}
use Rattle.mmtel_compose.specs.ReceivedMessages.{MessageView}
use Rattle.mmtel_leg.specs.Legs.{Leg}
use Rattle.mmtel_leg.specs.declared.dialogues.DialogueFault.{DialogueFault}
use Rattle.mmtel_leg.specs.declared.legs.Released.{Released}
use Rattle.mmtel_leg.specs.declared.legs.Released.TheVariants as released
use Rattle.mmtel_transaction.specs.declared.words.TKey.{TKey}
use Rattle.mmtel_types.specs.declared.numbers.Account.{Account}
use Rattle.mmtel_focus.specs.Operations.{Opens, RoomsView, TableOp, effects_of, no_tokens, table_after_op}
use Rattle.mmtel_focus.specs.Requests.{invite_in_flight, participant_after_request, request_check}
use Rattle.mmtel_focus.specs.Joining.{after_failure_notify, with_new_participant}
use Rattle.mmtel_focus.specs.Conferences.{Conference, Effects, ParticipantState, StepResult, with_output}
use Rattle.mmtel_focus.specs.Participants.{leg_of}
use Rattle.mmtel_focus.specs.ConferenceConfig.{ConferenceConfigView}
use Rattle.mmtel_participants.specs.Inviting.{ReferStep}
use Rattle.mmtel_participants.specs.declared.inviting.ReferResult.{ReferResult}
use Rattle.mmtel_participants.specs.declared.inviting.ReferResult.TheVariants.{Refused, Started}

-- the leg of a caller
abbrev pub caller_in : Released → Option Leg
caller_in (released.Caller leg) = Some leg
caller_in (released.Callee leg) = None

-- whether the participant accepts it
abbrev pub request_check_at : MessageView → Option ParticipantState → Result (Unit {0}) DialogueFault
request_check_at m None = Ok tt
request_check_at m (Some seat) = request_check (leg_of seat.party) m (invite_in_flight seat)

-- the conference after the participant has accepted it
abbrev pub conference_after_request : MessageView → (place : ℕ) → Option ParticipantState → Conference → Conference
conference_after_request m place None room = room
conference_after_request m place (Some seat) room = record room { participants = slice_set room.participants place (participant_after_request m seat) }

-- the invited party is a participant, or else the participant that sent the REFER is notified
abbrev pub after_refer_result : ConferenceConfigView → (by : ℕ) → ReferResult → StepResult → StepResult
after_refer_result config by (Started seat) s = record s { conference = with_new_participant seat s.conference }
after_refer_result config by (Refused code) s = after_failure_notify config by code s

abbrev pub after_refer_step : ConferenceConfigView → (by : ℕ) → ReferStep → StepResult → StepResult
after_refer_step config by b s = after_refer_result config by b.result (with_output b.output s)

-- a leg for which a conference is opened, and for which no token is drawn
abbrev pub opening_op : (at : ℕ) → Released → Option Account → TKey → MessageView → TableOp
opening_op at leg account key m = Opens (record { at = at; tokens = no_tokens; leg = leg; account = account; key = key; invite = m })

-- the conferences after an operation in a step of this configuration, and its effects
abbrev pub view_after_op : ConferenceConfigView → TableOp → RoomsView → RoomsView
view_after_op config op rooms = record rooms { table = table_after_op config op rooms.table }

abbrev pub view_effects_of_op : ConferenceConfigView → TableOp → RoomsView → Effects
view_effects_of_op config op rooms = effects_of config op rooms.table
