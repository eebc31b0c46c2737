use Rattle.std.proofs.Common.{◌≡◌, ◌+◌, ◌<◌, ◌≤◌, length, refl, ap, Some, arith}
use Rattle.std.specs.Prelude.{slice_get}
use Rattle.std.proofs.lemmas.Option.{slice_get_read}
use Rattle.mmtel_timers.proofs.Parted.{before_all, before_step}
use Rattle.mmtel_timers.proofs.parted_shelves.locate.Goals as goal

pub loop-part-preserved : goal.loop-part-preserved
loop-part-preserved g c =
    let parts = c.args.parts.now in
    let part = c.loop-part.part in
    let xs = c.index-parts-part.result in
    let inside : part < length parts = c.loop-part-test.true in
    let there : slice_get parts part ≡ Some xs = slice_get_read parts (length parts) part xs refl inside c.index-parts-part.is in
    let next = before_step parts part (part + 1) xs refl there in
    omega (arith, c.loop-part.invariant, c.len-len.ensures, c.if-own-len.false, next)

pub returns : goal.returns
returns g c =
    let parts = c.args.parts.now in
    let over : length parts ≤ c.loop-part.part = c.loop-part-test.false in
    let all = ap length (before_all parts c.loop-part.part over) in
    omega (arith, c.loop-part.invariant, all)
