use Rattle.std.proofs.Common.{◌<◌, length, refl, sym, subst, ◌∙◌, arith}
use Rattle.std.proofs.lemmas.Option.{slice_get_past, slice_get_read}
use Rattle.mmtel_trust.specs.HashIndex.{Covers, IsNext}
use Rattle.mmtel_trust.proofs.Lookups.{ended, found, goes_on, nowhere}
use Rattle.mmtel_trust.proofs.hash_index.first_item.Goals as goal

pub returns-in-None : goal.returns-in-None
returns-in-None g c =
    let p = g.K.LookupKey.is_key_of c.args.key.now in
    let covers = subst (λ n. Covers p n c.args.items.now c.args.index.now) (sym c.hash-hash.ensures) c.requires in
    ended p c.hash-hash.result c.args.items.now c.args.index.now c.index.from c.in-Some.place covers c.index.invariant.0 c.in-Some.ensures
    (slice_get_past c.args.items.now c.in-Some.place c.in-None.ensures.lookup.3)

pub returns-then-is_key_of : goal.returns-then-is_key_of
returns-then-is_key_of g c =
    let p = g.K.LookupKey.is_key_of c.args.key.now in
    let covers = subst (λ n. Covers p n c.args.items.now c.args.index.now) (sym c.hash-hash.ensures) c.requires in
    let item = slice_get_read c.args.items.now (length c.args.items.now) c.in-Some.place c.in-Some-get.item.now refl c.in-Some-get.ensures.lookup.3.0 c.in-Some-get.ensures.lookup.1 in
    found p c.hash-hash.result c.args.items.now c.args.index.now c.index.from c.in-Some.place c.in-Some-get.item.now covers c.index.invariant.0 c.in-Some.ensures item
    (sym c.is_key_of.ensures ∙ c.if-is_key_of.true)

pub index-preserved : goal.index-preserved
index-preserved g c =
    let p = g.K.LookupKey.is_key_of c.args.key.now in
    let covers = subst (λ n. Covers p n c.args.items.now c.args.index.now) (sym c.hash-hash.ensures) c.requires in
    let inside : c.in-Some.place < length c.args.items.now = c.in-Some-get.ensures.lookup.3.0 in
    let item = slice_get_read c.args.items.now (length c.args.items.now) c.in-Some.place c.in-Some-get.item.now refl c.in-Some-get.ensures.lookup.3.0 c.in-Some-get.ensures.lookup.1 in (
      goes_on p c.hash-hash.result c.args.items.now c.args.index.now c.index.from c.in-Some.place c.in-Some-get.item.now covers c.index.invariant.0 c.in-Some.ensures item
          (sym c.is_key_of.ensures ∙ c.if-is_key_of.false),
      omega (arith, inside),
    )

pub returns : goal.returns
returns g c =
    let p = g.K.LookupKey.is_key_of c.args.key.now in
    let covers = subst (λ n. Covers p n c.args.items.now c.args.index.now) (sym c.hash-hash.ensures) c.requires in
    nowhere p c.hash-hash.result c.args.items.now c.args.index.now c.index.from covers c.index.invariant.0
    (subst (λ o. IsNext c.args.index.now c.hash-hash.result c.index.from o) c.in_default.is c.next.ensures)
