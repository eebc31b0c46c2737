use Rattle.std.proofs.Common.{◌-◌, ◌≤◌, ◌<◌, length, arith, rules}
use Rattle.mmtel_output.proofs.Ascending.{parted_at}
use Rattle.mmtel_b2bua.proofs.Keeping.{number_in}
use Rattle.mmtel_b2bua.proofs.call_table.first_near_end.Goals as goal

pub returns-then-number-deref-clause-parted : goal.returns-then-number-deref-clause-parted
returns-then-number-deref-clause-parted c =
    let n = c.args.number in
    let bs = c.args.entries.now in
    let i = length bs - 1 - c.in-Ok.behind in
    let before = c.index-entries-place in
    let at = c.index-entries-place-then-deref-number in
    let some : 1 ≤ i = omega (arith, c.if-place-eq0.false) in
    let inside : i < length bs = omega (arith, c.if-entries-behind.false) in
    let lower : number_in before.result < n = search rules in
    let higher : n ≤ number_in at.result = search rules in
    parted_at number_in n i bs before.result at.result c.requires some inside before.is at.is lower higher
