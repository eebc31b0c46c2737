use Rattle.mmtel_sheet_reader.proofs.Sounds.{text_sound}
use Rattle.mmtel_sheet_reader.proofs.elements.text.Goals as goal

pub returns-in-String-clause-sound : goal.returns-in-String-clause-sound
returns-in-String-clause-sound c = text_sound c.args.value.now c.in-String.field-0 c.in-String.is
