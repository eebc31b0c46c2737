use Rattle.std.proofs.Common.{arith}
use Rattle.std.proofs.lemmas.Grind.{common_steps}
use Rattle.mmtel_sheet_reader.proofs.Members.{count-is}
use Rattle.mmtel_sheet_reader.proofs.rules.is_too_long.Goals as goal

pub returns : goal.returns
returns c = rw (count-is c.args.items.now.items) (grind (arith, common_steps))
