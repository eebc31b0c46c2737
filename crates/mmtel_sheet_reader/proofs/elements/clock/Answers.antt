use Rattle.mmtel_sheet_reader.proofs.Sounds.{text_sound}
use Rattle.mmtel_sheet_reader.proofs.elements.clock.Goals as goal

pub returns-in-Some-clause-sound : goal.returns-in-Some-clause-sound
returns-in-Some-clause-sound c = text_sound c.args.value.now c.in-String.text c.in-String.is
