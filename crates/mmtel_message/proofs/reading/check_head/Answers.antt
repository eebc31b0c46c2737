use Rattle.std.proofs.Common.{append-nil, ◌∙◌}
use Rattle.mmtel_message.specs.Held.{held_lines}
use Rattle.mmtel_message.proofs.IdentifierTheorems.{said_of_read}
use Rattle.mmtel_message.proofs.reading.check_head.Goals as goal

pub returns-in_ok-boxed_identifiers-in-None-first_fault-clause-identifiers :
    goal.returns-in_ok-boxed_identifiers-in-None-first_fault-clause-identifiers
returns-in_ok-boxed_identifiers-in-None-first_fault-clause-identifiers c =
    let hs = held_lines c.args.bytes.now c.args.lines.now in
    said_of_read c.args.start.now c.in-Some.five _ c.of-whole.result.values hs c.in_ok-boxed_identifiers-in-None-first_fault.field-0.value (c.of-whole.ensures.values ∙ append-nil hs)
    c.in-Some.ensures.exact c.in-None-first_fault.ensures (c.in_ok-boxed_identifiers-in-None-first_fault.ensures ∙ c.in_ok-identifiers-in-None-first_fault.ensures)
