use Rattle.std.proofs.Common.{sym}
use Rattle.mmtel_message.specs.Faults.{is_readable}
use Rattle.mmtel_message.proofs.FieldTheorems.{more_parts}
use Rattle.mmtel_message.proofs.faults.is_one_readable.Goals as goal

pub returns-in-Some : goal.returns-in-Some
returns-in-Some c = sym (more_parts (λ v. is_readable v) c.args.value.now c.next_part.result.0.now c.in-Some.field-0.now (rw c.in-Some.is at c.next_part.ensures.parts))
