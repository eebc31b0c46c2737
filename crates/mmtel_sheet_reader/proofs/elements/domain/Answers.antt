use Rattle.mmtel_sheet_reader.proofs.Sounds.{text_sound}
use Rattle.mmtel_sheet_reader.proofs.elements.domain.Goals as goal

pub returns-clause-sound : goal.returns-clause-sound
returns-clause-sound c = text_sound c.args.value.now c.in-String.text c.in-String.is
