use Rattle.std.proofs.Common.{refl}
use Rattle.mmtel_sheet_reader.proofs.rules.empty_draft.Goals as goal

pub returns : goal.returns
returns c = rw c.new.ensures refl
