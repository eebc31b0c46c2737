use Rattle.std.proofs.Common.{sym}
use Rattle.mmtel_script.proofs.HexTheorems.{first_byte, no_byte, shorter}
use Rattle.mmtel_script.proofs.script_lines.next_byte.Goals as goal

pub returns-in-Some-clause-bytes : goal.returns-in-Some-clause-bytes
returns-in-Some-clause-bytes c = first_byte c.args.digits.now _ (sym c.in-Some.ensures)

pub returns-in-Some-clause-shorter : goal.returns-in-Some-clause-shorter
returns-in-Some-clause-shorter c = shorter c.args.digits.now _ (sym c.in-Some.ensures)

pub returns-in-None-clause-bytes : goal.returns-in-None-clause-bytes
returns-in-None-clause-bytes c = no_byte c.args.digits.now c.requires (sym c.in-None.ensures)
