use Rattle.std.proofs.Common.{arith}
use Rattle.mmtel_output.proofs.Ascending.{all_lower}
use Rattle.mmtel_b2bua.proofs.Keeping.{below_boxes, length_boxes, number_in}
use Rattle.mmtel_b2bua.proofs.call_table.lower_bound.Goals as goal

pub returns-clause-within : goal.returns-clause-within
returns-clause-within c = let h = length_boxes c.args.entries.now in omega (arith, h, c.first_from.ensures.within)

pub returns-clause-lower : goal.returns-clause-lower
returns-clause-lower c =
    let n = c.args.number in
    let bs = c.args.entries.now in
    let i = c.first_from.result in
    below_boxes n i bs (all_lower number_in n i bs c.requires c.first_from.ensures.parted)
