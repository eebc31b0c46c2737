use Rattle.std.proofs.Common.{sym}
use Rattle.mmtel_message.proofs.HeaderTheorems.{bad_byte, good_bytes}
use Rattle.mmtel_message.proofs.headers.is_value.Goals as goal

pub returns-in-None : goal.returns-in-None
returns-in-None c = sym (good_bytes c.args.value.now c.in-None.ensures)

pub returns-in-Some : goal.returns-in-Some
returns-in-Some c = sym (bad_byte c.args.value.now _ c.in-Some.ensures.0.high c.in-Some.ensures.1)
