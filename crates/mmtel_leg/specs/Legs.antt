-- The value of a leg in contracts, of either side and in any state: its dialog, and its meter where it has one.
use Rattle.std.specs.Prelude.{Option, codes}
use Rattle.mmtel_charging.specs.Meters.{MeterView}
use Rattle.mmtel_leg.specs.Dialogues.{after_request}
use Rattle.mmtel_leg.specs.declared.dialogues.Dialogue.{Dialogue}

pub record Leg : Type 0 where
  pub dialogue : Dialogue
  pub meter : Option MeterView

abbrev pub with_dialogue : Leg → Dialogue → Leg
with_dialogue leg d = record leg { dialogue = d }

-- the leg, once the server sent an INVITE in its dialog
abbrev pub leg_after_invite : Leg → Leg
leg_after_invite leg = with_dialogue leg (after_request leg.dialogue (codes "INVITE"))
