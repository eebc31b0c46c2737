-- A conference, its focus and its participants (RFC 4579 §3), as the program keeps them; and a step of a conference.
use Rattle.std.specs.Prelude.{ℕ, List}
use Rattle.mmtel_output.specs.declared.outputs.StepOutput.{StepOutput}
use Rattle.mmtel_types.specs.declared.numbers.RoomNo.{RoomNo}
use Rattle.mmtel_participants.specs.declared.participants.ParticipantState as kept
use Rattle.mmtel_participants.specs.declared.effects.Effects as kept_effects
pub use Rattle.mmtel_participants.specs.Participants.{max_participants, no_effects}
pub use Rattle.mmtel_participants.specs.declared.participants.PendingAck.{PendingAck}
pub use Rattle.mmtel_participants.specs.declared.participants.Invite.{Invite}
pub use Rattle.mmtel_participants.specs.declared.participants.Invite.TheVariants.{Accepted, Outstanding}
pub use Rattle.mmtel_participants.specs.declared.participants.Party.{Party}
pub use Rattle.mmtel_participants.specs.declared.participants.Party.TheVariants.{DialedIn, DialedOut, Invited}
pub use Rattle.mmtel_participants.specs.declared.participants.ParticipantState.{ParticipantState}
pub use Rattle.mmtel_participants.specs.declared.effects.Effects.{Effects}

pub record Conference : Type 0 where
  pub number : RoomNo
  -- the number of the participant that came last, and that of the last invitation or 2xx, counted within this conference
  pub last_seat : ℕ
  pub last_number : ℕ
  -- those present, in the order in which they came
  pub participants : List kept.ParticipantState

-- a conference after a step, and the effects of the step
pub record StepResult : Type 0 where
  pub conference : Conference
  pub effects : kept_effects.Effects

-- this conference, in a step that has had these effects so far
abbrev pub in_step : Conference → kept_effects.Effects → StepResult
in_step room effects = record { conference = room; effects = effects }

abbrev pub with_output : StepOutput → StepResult → StepResult
with_output output s = record s { effects = record s.effects { output = output } }
