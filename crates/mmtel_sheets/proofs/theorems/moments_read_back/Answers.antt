use Rattle.mmtel_sheets.proofs.ReadTimes.{moment_back}
use Rattle.mmtel_sheets.proofs.theorems.moments_read_back.Goals as goal

pub returns : goal.returns
returns c = moment_back
