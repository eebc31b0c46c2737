use Rattle.std.proofs.Common.{◌<◌, length, arith, sym, ap, ◌∙◌}
use Rattle.mmtel_output.proofs.Ascending.{place_gone, place_here, place_past}
use Rattle.mmtel_b2bua.specs.Entries.{is_numbered}
use Rattle.mmtel_b2bua.specs.declared.entries.Entry.{Entry}
use Rattle.mmtel_b2bua.proofs.Counting.{numbered}
use Rattle.mmtel_b2bua.proofs.Keeping.{number_in, numbered_boxes}
use Rattle.mmtel_b2bua.proofs.call_table.place_in.Goals as goal

pub returns-then-place-entries : goal.returns-then-place-entries
returns-then-place-entries c =
    let n = c.args.number.0 in
    let bs = c.args.entries.now in
    let i = c.first_from-place.result in
    place_past number_in n i bs c.requires c.first_from-place.ensures.parted (omega (arith, c.if-place-entries.true)) ∙ numbered_boxes n bs

pub returns-then-is_numbered : goal.returns-then-is_numbered
returns-then-is_numbered c =
    let n = c.args.number.0 in
    let bs = c.args.entries.now in
    let i = c.first_from-place.result in
    let b = c.index-entries-place.result in
    let less : i < length bs = omega (arith, c.if-place-entries.false, c.first_from-place.ensures.within) in
    let same = sym (numbered n b.value) ∙ (ap (λ (e : Entry). is_numbered n e) (sym c.deref.ensures) ∙ (sym c.is_numbered.ensures ∙ c.if-is_numbered.true)) in
    place_here number_in n i bs c.requires c.first_from-place.ensures.parted b less c.index-entries-place.is same ∙ numbered_boxes n bs

pub returns-else-is_numbered : goal.returns-else-is_numbered
returns-else-is_numbered c =
    let n = c.args.number.0 in
    let bs = c.args.entries.now in
    let i = c.first_from-place.result in
    let b = c.index-entries-place.result in
    let less : i < length bs = omega (arith, c.if-place-entries.false, c.first_from-place.ensures.within) in
    let same = sym (numbered n b.value) ∙ (ap (λ (e : Entry). is_numbered n e) (sym c.deref.ensures) ∙ (sym c.is_numbered.ensures ∙ c.if-is_numbered.false)) in
    place_gone number_in n i bs c.requires c.first_from-place.ensures.parted b less c.index-entries-place.is same ∙ numbered_boxes n bs
