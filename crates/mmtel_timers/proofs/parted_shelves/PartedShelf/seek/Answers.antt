use Rattle.std.proofs.Common.{◌≡◌, ◌+◌, ◌-◌, ◌*◌, ◌^◌, ◌≤◌, ◌<◌, true, false, length, refl, sym, ap, subst, ◌∙◌, Some, arith}
use Rattle.std.specs.Prelude.{slice_get}
use Rattle.std.specs.List.Sorted.{IsPartitionedBy, IsPartitionPoint}
use Rattle.std.proofs.lemmas.Option.{slice_get_read}
use Rattle.mmtel_timers.specs.Parts.{items_before, joined, part_of}
use Rattle.mmtel_timers.proofs.Parted.{before_own, parted_in_part, point_found, point_past}
use Rattle.mmtel_timers.proofs.parted_shelves.PartedShelf.seek.Goals as goal

pub start_of-start-requires-clause-fits : goal.start_of-start-requires-clause-fits
start_of-start-requires-clause-fits g c = omega (arith, c.self.invariant.count, ap (λ ps. length (joined ps)) c.deref.ensures.value)

pub seek-requires : goal.seek-requires
seek-requires g c =
    let before = g.M.SearchKey.before c.args.key.now in
    let parts = c.self.inside.parts.items in
    let part = c.part_of-part.result in
    let xs = c.index.result.now in
    let inside : part < length parts = omega (arith, c.if-part-len.true, c.len.ensures, c.self.inside.parts.ok.0) in
    let there : slice_get parts part ≡ Some xs = slice_get_read parts (length parts) part xs refl inside c.index.ensures in
    parted_in_part parts part xs there before (subst (IsPartitionedBy before) (sym c.self.view_is) c.requires)

pub overflow_add-result : goal.overflow_add-result
overflow_add-result g c =
    let parts = c.self.inside.parts.items in
    let part = c.part_of-part.result in
    let xs = c.index.result.now in
    let inside : part < length parts = omega (arith, c.if-part-len.true, c.len.ensures, c.self.inside.parts.ok.0) in
    let there : slice_get parts part ≡ Some xs = slice_get_read parts (length parts) part xs refl inside c.index.ensures in
    let start = c.start_of-start.result in
    let starts : start ≡ length (items_before part parts) = c.start_of-start.ensures ∙ ap (λ ps. length (items_before part ps)) c.deref.ensures.value in
    let up = before_own parts part xs there in
    omega (arith, up, starts, c.seek.ensures.within, c.self.invariant.count)

pub returns-then-part-len-clause-within : goal.returns-then-part-len-clause-within
returns-then-part-len-clause-within g c =
    let parts = c.self.inside.parts.items in
    let part = c.part_of-part.result in
    let xs = c.index.result.now in
    let inside : part < length parts = omega (arith, c.if-part-len.true, c.len.ensures, c.self.inside.parts.ok.0) in
    let there : slice_get parts part ≡ Some xs = slice_get_read parts (length parts) part xs refl inside c.index.ensures in
    let start = c.start_of-start.result in
    let starts : start ≡ length (items_before part parts) = c.start_of-start.ensures ∙ ap (λ ps. length (items_before part ps)) c.deref.ensures.value in
    let up = before_own parts part xs there in
    omega (arith, up, starts, c.seek.ensures.within, ap length c.self.view_is)

pub returns-then-part-len-clause-parted : goal.returns-then-part-len-clause-parted
returns-then-part-len-clause-parted g c =
    let before = g.M.SearchKey.before c.args.key.now in
    let parts = c.self.inside.parts.items in
    let part = c.part_of-part.result in
    let rank = g.T.Ranked.rank in
    let r = c.key_rank.result in
    let key = c.key_rank.ensures in
    let are = c.self.invariant.parted in
    let of_key : part_of r ≡ part = sym c.part_of-part.ensures in
    let xs = c.index.result.now in
    let inside : part < length parts = omega (arith, c.if-part-len.true, c.len.ensures, c.self.inside.parts.ok.0) in
    let there : slice_get parts part ≡ Some xs = slice_get_read parts (length parts) part xs refl inside c.index.ensures in
    let start = c.start_of-start.result in
    let starts : start ≡ length (items_before part parts) = c.start_of-start.ensures ∙ ap (λ ps. length (items_before part ps)) c.deref.ensures.value in
    let own = c.seek.result.position in
    let found = point_found rank parts are before r part of_key key.lower key.higher xs own there c.seek.ensures.within c.seek.ensures.parted in
    subst (λ ys. IsPartitionPoint (λ x. before x ≡ true) (λ x. before x ≡ false) ys (start + own)) c.self.view_is
    (subst (λ n. IsPartitionPoint (λ x. before x ≡ true) (λ x. before x ≡ false) (joined parts) (n + own)) (sym starts) found)

pub returns-then-part-len-clause-cost : goal.returns-then-part-len-clause-cost
returns-then-part-len-clause-cost g c =
    let parts = c.self.inside.parts.items in
    let part = c.part_of-part.result in
    let xs = c.index.result.now in
    let inside : part < length parts = omega (arith, c.if-part-len.true, c.len.ensures, c.self.inside.parts.ok.0) in
    let there : slice_get parts part ≡ Some xs = slice_get_read parts (length parts) part xs refl inside c.index.ensures in
    let up = before_own parts part xs there in
    let cost : 2 ^ (c.seek.new.steps - c.args.steps.now) ≤ 2 * length xs + 1 = c.seek.ensures.cost in
    omega (arith, up, cost, ap length c.self.view_is)

pub returns-else-part-len-clause-parted : goal.returns-else-part-len-clause-parted
returns-else-part-len-clause-parted g c =
    let before = g.M.SearchKey.before c.args.key.now in
    let parts = c.self.inside.parts.items in
    let part = c.part_of-part.result in
    let rank = g.T.Ranked.rank in
    let r = c.key_rank.result in
    let key = c.key_rank.ensures in
    let are = c.self.invariant.parted in
    let of_key : part_of r ≡ part = sym c.part_of-part.ensures in
    let past : length parts ≤ part = omega (arith, c.if-part-len.false, c.len.ensures, c.self.inside.parts.ok.0) in
    let found = point_past rank parts are before r part of_key key.lower key.higher past in
    subst (λ ys. IsPartitionPoint (λ x. before x ≡ true) (λ x. before x ≡ false) ys c.self.inside.len) c.self.view_is
    (subst (λ n. IsPartitionPoint (λ x. before x ≡ true) (λ x. before x ≡ false) (joined parts) n) (sym c.self.invariant.count) found)
