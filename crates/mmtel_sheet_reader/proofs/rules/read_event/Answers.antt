use Rattle.std.proofs.Common.{refl}
use Rattle.mmtel_sheet_reader.proofs.Items.{refused_still}
use Rattle.mmtel_sheet_reader.proofs.rules.read_event.Goals as goal

pub returns-in-Some : goal.returns-in-Some
returns-in-Some c = rw (c.if-not-is_set.false, c.in-Some.is) (refused_still c.args.at.now c.wrong.result _ c.wrong.ensures.refused c.wrong.ensures.fault)

pub returns-in-None : goal.returns-in-None
returns-in-None c = rw (c.if-not-is_set.false, c.in-None.is) refl
