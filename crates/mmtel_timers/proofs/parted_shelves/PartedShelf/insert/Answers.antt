use Rattle.std.proofs.Common.{◌≡◌, ◌+◌, ◌≤◌, length, insert, refl, sym, ap, subst, ◌∙◌, Some}
use Rattle.std.specs.Prelude.{slice_get}
use Rattle.std.specs.List.Sorted.{IsPartitionPoint}
use Rattle.std.proofs.lemmas.Option.{slice_get_read}
use Rattle.mmtel_timers.specs.Parts.{ArePartsFrom, items_before, joined, part_of}
use Rattle.mmtel_timers.proofs.Parted.{end_over, put_joined, put_state, start_under}
use Rattle.mmtel_timers.proofs.parted_shelves.PartedShelf.insert.Goals as goal

pub overflow_sub-place : goal.overflow_sub-place
overflow_sub-place g c =
    let rank = g.T.Ranked.rank in
    let r = rank c.args.item in
    let parts = c.add_parts.new.parts.items in
    let place = c.args.place in
    let part = c.part_of-part.result in
    let xs = c.index_mut.result.now in
    let same : joined parts ≡ c.args.self.now = c.add_parts.ensures.same ∙ c.self.view_is in
    let are : ArePartsFrom rank 0 parts = c.add_parts.ensures.parted c.self.invariant.parted in
    let of_item : part_of r ≡ part = sym (c.part_of-part.ensures ∙ ap part_of c.rank.ensures) in
    let there : slice_get parts part ≡ Some xs = slice_get_read parts (length parts) part xs refl c.in_default.ensures.ok c.index_mut.ensures.value in
    let starts : c.start_of-start.result ≡ length (items_before part parts) = c.start_of-start.ensures ∙ ap (λ ps. length (items_before part ps)) c.deref.ensures.value in
    let at : IsPartitionPoint (λ x. rank x ≤ r) (λ x. r ≤ rank x) (joined parts) place =
    subst (λ ys. IsPartitionPoint (λ x. rank x ≤ r) (λ x. r ≤ rank x) ys place) (sym same) c.requires.ranked in
    let within : place ≤ length (joined parts) = subst (λ ys. place ≤ length ys) (sym same) c.requires.within in
    start_under rank parts are r part xs of_item there place c.start_of-start.result starts at within

pub insert-requires : goal.insert-requires
insert-requires g c =
    let rank = g.T.Ranked.rank in
    let r = rank c.args.item in
    let parts = c.add_parts.new.parts.items in
    let place = c.args.place in
    let part = c.part_of-part.result in
    let xs = c.index_mut.result.now in
    let same : joined parts ≡ c.args.self.now = c.add_parts.ensures.same ∙ c.self.view_is in
    let are : ArePartsFrom rank 0 parts = c.add_parts.ensures.parted c.self.invariant.parted in
    let of_item : part_of r ≡ part = sym (c.part_of-part.ensures ∙ ap part_of c.rank.ensures) in
    let there : slice_get parts part ≡ Some xs = slice_get_read parts (length parts) part xs refl c.in_default.ensures.ok c.index_mut.ensures.value in
    let starts : c.start_of-start.result ≡ length (items_before part parts) = c.start_of-start.ensures ∙ ap (λ ps. length (items_before part ps)) c.deref.ensures.value in
    let at : IsPartitionPoint (λ x. rank x ≤ r) (λ x. r ≤ rank x) (joined parts) place =
    subst (λ ys. IsPartitionPoint (λ x. rank x ≤ r) (λ x. r ≤ rank x) ys place) (sym same) c.requires.ranked in
    let within : place ≤ length (joined parts) = subst (λ ys. place ≤ length ys) (sym same) c.requires.within in
    end_over rank parts are r part xs of_item there place c.start_of-start.result starts at within

pub invariant_of-self-in-Ok : goal.invariant_of-self-in-Ok
invariant_of-self-in-Ok g c =
    let rank = g.T.Ranked.rank in
    let r = rank c.args.item in
    let parts = c.add_parts.new.parts.items in
    let place = c.args.place in
    let part = c.part_of-part.result in
    let xs = c.index_mut.result.now in
    let same : joined parts ≡ c.args.self.now = c.add_parts.ensures.same ∙ c.self.view_is in
    let are : ArePartsFrom rank 0 parts = c.add_parts.ensures.parted c.self.invariant.parted in
    let of_item : part_of r ≡ part = sym (c.part_of-part.ensures ∙ ap part_of c.rank.ensures) in
    let there : slice_get parts part ≡ Some xs = slice_get_read parts (length parts) part xs refl c.in_default.ensures.ok c.index_mut.ensures.value in
    let starts : c.start_of-start.result ≡ length (items_before part parts) = c.start_of-start.ensures ∙ ap (λ ps. length (items_before part ps)) c.deref.ensures.value in
    let at : IsPartitionPoint (λ x. rank x ≤ r) (λ x. r ≤ rank x) (joined parts) place =
    subst (λ ys. IsPartitionPoint (λ x. rank x ≤ r) (λ x. r ≤ rank x) ys place) (sym same) c.requires.ranked in
    let within : place ≤ length (joined parts) = subst (λ ys. place ≤ length ys) (sym same) c.requires.within in
    let count : c.in-Some.len ≡ length (joined parts) + 1 = c.in-Some.ensures.1 ∙ ap (λ n. n + 1) (c.self.invariant.count ∙ ap length (sym c.add_parts.ensures.same)) in
    put_state rank parts are r part xs of_item there place c.start_of-start.result starts at within c.args.item c.insert.new.self c.in-Some.len refl c.in-Ok.ensures.ok count

pub returns-in-Ok-clause-ok : goal.returns-in-Ok-clause-ok
returns-in-Ok-clause-ok g c =
    let rank = g.T.Ranked.rank in
    let r = rank c.args.item in
    let parts = c.add_parts.new.parts.items in
    let place = c.args.place in
    let part = c.part_of-part.result in
    let xs = c.index_mut.result.now in
    let same : joined parts ≡ c.args.self.now = c.add_parts.ensures.same ∙ c.self.view_is in
    let are : ArePartsFrom rank 0 parts = c.add_parts.ensures.parted c.self.invariant.parted in
    let of_item : part_of r ≡ part = sym (c.part_of-part.ensures ∙ ap part_of c.rank.ensures) in
    let there : slice_get parts part ≡ Some xs = slice_get_read parts (length parts) part xs refl c.in_default.ensures.ok c.index_mut.ensures.value in
    let starts : c.start_of-start.result ≡ length (items_before part parts) = c.start_of-start.ensures ∙ ap (λ ps. length (items_before part ps)) c.deref.ensures.value in
    let at : IsPartitionPoint (λ x. rank x ≤ r) (λ x. r ≤ rank x) (joined parts) place =
    subst (λ ys. IsPartitionPoint (λ x. rank x ≤ r) (λ x. r ≤ rank x) ys place) (sym same) c.requires.ranked in
    let within : place ≤ length (joined parts) = subst (λ ys. place ≤ length ys) (sym same) c.requires.within in
    put_joined rank parts are r part xs of_item there place c.start_of-start.result starts at within c.args.item c.insert.new.self c.in-Ok.ensures.ok ∙ ap (λ ys. insert ys place c.args.item) same
