use Rattle.std.proofs.Common.{◌≡◌, ◌≤◌, Some, None, length, arith, sym, ◌∙◌, subst, add-one}
use Rattle.std.specs.Prelude.{slice_get}
use Rattle.mmtel_timers.specs.Shelves.{lookup_result}
use Rattle.mmtel_transaction.specs.declared.match_keys.MatchKey.{MatchKey}
use Rattle.mmtel_transaction.specs.Results.{is_merged_entry}
use Rattle.mmtel_transaction.specs.Indexes.{is_same_match, IsPlaceOf, merged_match}
use Rattle.mmtel_transaction.proofs.CallKeys.{ends_here, key_there, none_has, none_past, not_itself, StandFrom, stand_first, stand_next, twin_so, twin_there}
use Rattle.mmtel_transaction.proofs.tables.has_other.Goals as goal

pub loop-place-init : goal.loop-place-init
loop-place-init g c e es q k i at =
    let ts = c.args.calls.now in
    stand_first e.head.call_id e.head.from_tag e.head.method e.head.number ts c.args.from (subst (λ x. IsPlaceOf x ts c.args.from) q at) (is_merged_entry e) (twin_so e) es i

pub loop-place-preserved : goal.loop-place-preserved
loop-place-preserved g c e es q k i at =
    let ts = c.args.calls.now in
    let place = c.loop-place.place in
    let said = subst (λ n. Some c.in-Some.other ≡ lookup_result (is_same_match n) (λ (x : MatchKey). x.key) (slice_get ts place)) q c.in-Some.ensures in
    let there = key_there (merged_match e) c.in-Some.other (slice_get ts place) said in
    let st = c.loop-place.invariant e es q k i at in
    subst (StandFrom (is_merged_entry e) es ts) (sym (add-one place)) (stand_next (is_merged_entry e) es ts place there.0 there.1 (λ x h t s. not_itself e x t (s ∙ (there.3 ∙ (c.if-other-key.false ∙ k)))) st)

pub returns-in-None : goal.returns-in-None
returns-in-None g c e es q k i at =
    let ts = c.args.calls.now in
    let place = c.loop-place.place in
    let lower : c.args.from ≤ place = omega arith in
    let said = subst (λ n. None ≡ lookup_result (is_same_match n) (λ (x : MatchKey). x.key) (slice_get ts place)) q c.in-None.ensures in
    none_has e (is_merged_entry e) es (ends_here e.head.call_id e.head.from_tag e.head.method e.head.number ts c.args.from (subst (λ x. IsPlaceOf x ts c.args.from) q at) (is_merged_entry e)
    (twin_so e) es place i.ascends lower said (c.loop-place.invariant e es q k i at))

pub returns-then-other-key : goal.returns-then-other-key
returns-then-other-key g c e es q k i at =
    let ts = c.args.calls.now in
    let place = c.loop-place.place in
    let said = subst (λ n. Some c.in-Some.other ≡ lookup_result (is_same_match n) (λ (x : MatchKey). x.key) (slice_get ts place)) q c.in-Some.ensures in
    let there = key_there (merged_match e) c.in-Some.other (slice_get ts place) said in
    twin_there e es ts place there.0 i there.1 there.2 (λ s. c.if-other-key.true (sym there.3 ∙ (s ∙ sym k)))

pub returns : goal.returns
returns g c e es q k i at =
    let end : length c.args.calls.now ≤ c.loop-place.place = omega (arith, c.len-place-end.ensures) in
    none_has e (is_merged_entry e) es (none_past (is_merged_entry e) es c.args.calls.now c.loop-place.place end (c.loop-place.invariant e es q k i at))
