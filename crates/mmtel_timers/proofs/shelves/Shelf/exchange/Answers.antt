use Rattle.std.proofs.Common.{◌≡◌, ◌<◌, ◌∙◌, length, refl, sym, ap, subst, true, false, remove}
use Rattle.std.specs.List.Sorted.{IsPartitionedBy, IsPartitionPoint}
use Rattle.std.specs.List.{AllByRecursion}
use Rattle.std.proofs.lemmas.Option.{slice_get_read}
use Rattle.mmtel_timers.specs.declared.shelves.Slot.{Slot}
use Rattle.mmtel_timers.specs.Ranks.{item_of, IsRanked}
use Rattle.mmtel_timers.proofs.Mapped.{put_in, queue_without, read_mapped}
use Rattle.mmtel_timers.proofs.Ordered.{all_in, all_out}
use Rattle.mmtel_timers.proofs.shelves.Shelf.exchange.Goals as goal

pub seek-place-requires : goal.seek-place-requires
seek-place-requires g c =
    let left = queue_without item_of c.self.inside.items.items c.remove.new.self.items c.args.from c.args.self.now c.self.view_is c.in-Some.ensures.items in
    subst (IsPartitionedBy (g.M.SearchKey.before c.args.key.now)) (sym left) c.requires.parted

pub invariant_of-self-2 : goal.invariant_of-self-2
invariant_of-self-2 g c =
    let ranked = IsRanked g.T.Ranked.rank in
    let left = subst (AllByRecursion ranked) (sym c.in-Some.ensures.items) (all_out ranked c.args.from c.self.inside.items.items c.self.invariant) in
    let slot : Slot g.row.T.Denot = record { rank = c.rank-rank.result; block = c.replace-taken.new.b } in
    subst (AllByRecursion ranked) (sym c.in-Ok.ensures.items) (all_in ranked c.seek-place.result.position slot c.remove.new.self.items left (c.rank-rank.ensures ∙ ap g.T.Ranked.rank (sym c.replace-taken.ensures.after)))

pub returns-clause-removed : goal.returns-clause-removed
returns-clause-removed g c =
    let slots = c.self.inside.items.items in
    let es = c.args.self.now in
    let is = c.replace-taken.ensures.value ∙ ap (λ b. b.value) c.into_block-block.ensures in
    let read = read_mapped item_of slots c.args.from c.in-Some.slot c.replace-taken.result es (subst (λ n. c.args.from < n) (sym (ap length c.self.view_is)) c.requires.from) c.in-Some.ensures.value is c.self.view_is in
    slice_get_read es (length es) c.args.from c.replace-taken.result refl c.requires.from read

pub returns-clause-place : goal.returns-clause-place
returns-clause-place g c =
    let before = g.M.SearchKey.before c.args.key.now in
    let left = queue_without item_of c.self.inside.items.items c.remove.new.self.items c.args.from c.args.self.now c.self.view_is c.in-Some.ensures.items in
    subst (λ ys. IsPartitionPoint (λ x. before x ≡ true) (λ x. before x ≡ false) ys c.seek-place.result.position) left c.seek-place.ensures.parted

pub returns-clause-rest : goal.returns-clause-rest
returns-clause-rest g c =
    let left = queue_without item_of c.self.inside.items.items c.remove.new.self.items c.args.from c.args.self.now c.self.view_is c.in-Some.ensures.items in
    let slot : Slot g.row.T.Denot = record { rank = c.rank-rank.result; block = c.replace-taken.new.b } in
    put_in item_of c.remove.new.self.items c.insert.new.self.items c.seek-place.result.position slot c.args.item (remove c.args.self.now c.args.from) left c.replace-taken.ensures.after c.in-Ok.ensures.items
