use Rattle.std.proofs.Common.{◌≡◌, ◌+◌, ◌-◌, ◌*◌, ◌^◌, ◌≤◌, ◌<◌, length, refl, sym, ap, subst, Some, None, arith}
use Rattle.std.specs.Prelude.{option_copied, slice_get}
use Rattle.std.specs.List.Sorted.{IsPartitionedBy}
use Rattle.std.proofs.lemmas.Option.{slice_get_read}
use Rattle.mmtel_timers.specs.Parts.{part_of}
use Rattle.mmtel_timers.specs.Shelves.{IsFirstOfRank}
use Rattle.mmtel_timers.proofs.Parted.{before_own, item_found, item_past, parted_in_part}
use Rattle.mmtel_timers.proofs.parted_shelves.PartedShelf.find.Goals as goal

pub seek-requires : goal.seek-requires
seek-requires g c =
    let before = g.M.SearchKey.before c.args.key.now in
    let parts = c.self.inside.parts.items in
    let part = c.part_of-part.result in
    let xs = c.index.result.now in
    let inside : part < length parts = omega (arith, c.if-part-len.true, c.len.ensures, c.self.inside.parts.ok.0) in
    let there : slice_get parts part ≡ Some xs = slice_get_read parts (length parts) part xs refl inside c.index.ensures in
    parted_in_part parts part xs there before (subst (IsPartitionedBy before) (sym c.self.view_is) c.requires)

pub returns-then-part-len-clause-found : goal.returns-then-part-len-clause-found
returns-then-part-len-clause-found g c =
    let before = g.M.SearchKey.before c.args.key.now in
    let parts = c.self.inside.parts.items in
    let part = c.part_of-part.result in
    let rank = g.T.Ranked.rank in
    let r = c.key_rank.result in
    let key = c.key_rank.ensures in
    let are = c.self.invariant.parted in
    let of_key : part_of r ≡ part = sym c.part_of-part.ensures in
    let xs = c.index.result.now in
    let inside : part < length parts = omega (arith, c.if-part-len.true, c.len.ensures, c.self.inside.parts.ok.0) in
    let there : slice_get parts part ≡ Some xs = slice_get_read parts (length parts) part xs refl inside c.index.ensures in
    let item = option_copied c.seek.result.item in
    let at = c.seek.ensures in
    let found = item_found rank parts are before r part of_key key.lower key.higher xs c.seek.result.position item there at.within at.parted at.item in
    subst (λ n. IsFirstOfRank rank n before c.args.self.now item) key.rank (subst (λ ys. IsFirstOfRank rank r before ys item) c.self.view_is found)

pub returns-then-part-len-clause-cost : goal.returns-then-part-len-clause-cost
returns-then-part-len-clause-cost g c =
    let parts = c.self.inside.parts.items in
    let part = c.part_of-part.result in
    let xs = c.index.result.now in
    let inside : part < length parts = omega (arith, c.if-part-len.true, c.len.ensures, c.self.inside.parts.ok.0) in
    let there : slice_get parts part ≡ Some xs = slice_get_read parts (length parts) part xs refl inside c.index.ensures in
    let up = before_own parts part xs there in
    let cost : 2 ^ (c.seek.new.steps - c.args.steps.now) ≤ 2 * length xs + 1 = c.seek.ensures.cost in
    omega (arith, up, cost, ap length c.self.view_is)

pub returns-else-part-len-clause-found : goal.returns-else-part-len-clause-found
returns-else-part-len-clause-found g c =
    let before = g.M.SearchKey.before c.args.key.now in
    let parts = c.self.inside.parts.items in
    let part = c.part_of-part.result in
    let rank = g.T.Ranked.rank in
    let r = c.key_rank.result in
    let key = c.key_rank.ensures in
    let are = c.self.invariant.parted in
    let of_key : part_of r ≡ part = sym c.part_of-part.ensures in
    let past : length parts ≤ part = omega (arith, c.if-part-len.false, c.len.ensures, c.self.inside.parts.ok.0) in
    let found = item_past rank parts are before r part of_key key.lower key.higher None refl past in
    subst (λ n. IsFirstOfRank rank n before c.args.self.now None) key.rank (subst (λ ys. IsFirstOfRank rank r before ys None) c.self.view_is found)
