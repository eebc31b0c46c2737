use Rattle.std.proofs.Common.{◌≡◌, ◌+◌, ◌<◌, length, refl, Some, arith}
use Rattle.std.specs.Prelude.{slice_get}
use Rattle.std.proofs.lemmas.Option.{slice_get_read}
use Rattle.mmtel_timers.proofs.Parted.{before_own, before_step}
use Rattle.mmtel_timers.proofs.parted_shelves.start_of.Goals as goal

pub overflow_add-start : goal.overflow_add-start
overflow_add-start g c =
    let parts = c.args.parts.now in
    let i = c.loop-i.i in
    let xs = c.index-parts-i.result in
    let inside : i < length parts = omega (arith, c.loop-i-test.true, c.requires.within) in
    let there : slice_get parts i ≡ Some xs = slice_get_read parts (length parts) i xs refl inside c.index-parts-i.is in
    let up = before_own parts i xs there in
    omega (arith, c.loop-i.invariant, c.len-start.ensures, up, c.requires.fits)

pub loop-i-preserved : goal.loop-i-preserved
loop-i-preserved g c =
    let parts = c.args.parts.now in
    let i = c.loop-i.i in
    let xs = c.index-parts-i.result in
    let inside : i < length parts = omega (arith, c.loop-i-test.true, c.requires.within) in
    let there : slice_get parts i ≡ Some xs = slice_get_read parts (length parts) i xs refl inside c.index-parts-i.is in
    let next = before_step parts i (i + 1) xs refl there in
    omega (arith, c.loop-i.invariant, c.len-start.ensures, next)
