use Rattle.std.proofs.Common.{◌≡◌, ◌≤◌, length, arith, Some, None, map, suc, refl, sym, ap, ◌∙◌, subst, add-one}
use Rattle.std.specs.Prelude.{slice_get}
use Rattle.mmtel_timers.specs.Shelves.{lookup_result, Rises, unboxed_items}
use Rattle.mmtel_transaction.specs.declared.entries.Entry.{Entry}
use Rattle.mmtel_transaction.specs.declared.match_keys.MatchKey.{MatchKey}
use Rattle.mmtel_transaction.specs.Heads.{invite}
use Rattle.mmtel_transaction.specs.Changes.{after_ack_2xx, change_of_key}
use Rattle.mmtel_transaction.specs.Indexes.{ack_match, is_same_match}
use Rattle.mmtel_transaction.proofs.CallKeys.{acked_so, all_acked, ends_here, is_of_ack, key_there, map_again, none_past, StandFrom, stand_acked, stand_first}
use Rattle.mmtel_transaction.proofs.Changing.{rises_mapped}
use Rattle.mmtel_transaction.proofs.Lists.{keeps_acked_2xx, keeps_hit}
use Rattle.mmtel_transaction.proofs.tables.ack_from.Goals as goal

pub loop-place-init : goal.loop-place-init
loop-place-init g c =
    let m = c.args.head.now in
    record {
      rises = c.requires.rises;
      due = c.requires.due;
      same = refl;
      stand = stand_first m.call_id m.from_tag invite m.number c.args.calls.now c.args.from c.requires.place (is_of_ack m) (acked_so m) (unboxed_items c.args.entries.now.items) c.requires.calls;
    }

pub loop-place-preserved : goal.loop-place-preserved
loop-place-preserved g c =
    let m = c.args.head.now in
    let step = c.args.step in
    let ts = c.args.calls.now in
    let place = c.loop-place.place in
    let key = c.in-Some.key in
    let i = c.loop-place.invariant in
    let es = unboxed_items c.loop-place.entries.items in
    let said = subst (λ n. Some key ≡ lookup_result (is_same_match n) (λ (x : MatchKey). x.key) (slice_get ts place)) c.ack_search_key-mark.ensures c.in-Some.ensures in
    let there = key_there (ack_match m) key (slice_get ts place) said in
    let now = c.ack_key.ensures.entries in
    record {
      rises = subst (Rises (λ (e : Entry). e.key)) (sym now) (rises_mapped (change_of_key key (after_ack_2xx step m)) (λ e. keeps_hit key (after_ack_2xx step m) e (keeps_acked_2xx step m e)) es i.rises);
      due = c.ack_key.ensures.due;
      same = ap (map (after_ack_2xx step m)) now ∙ (map_again m step key es ∙ i.same);
      stand = subst (StandFrom (is_of_ack m) (unboxed_items c.ack_key.new.entries.items) ts) (sym (add-one place))
          (subst (λ xs. StandFrom (is_of_ack m) xs ts (suc place)) (sym (now ∙ ap (λ k. map (change_of_key k (after_ack_2xx step m)) es) (sym there.3))) (stand_acked m step es ts place there.0 there.1 i.stand));
    }

pub returns-in-None-clause-entries : goal.returns-in-None-clause-entries
returns-in-None-clause-entries g c =
    let m = c.args.head.now in
    let ts = c.args.calls.now in
    let place = c.loop-place.place in
    let lower : c.args.from ≤ place = omega arith in
    let i = c.loop-place.invariant in
    let es = unboxed_items c.loop-place.entries.items in
    let said = subst (λ n. None ≡ lookup_result (is_same_match n) (λ (x : MatchKey). x.key) (slice_get ts place)) c.ack_search_key-mark.ensures c.in-None.ensures in
    sym (all_acked m c.args.step es (ends_here m.call_id m.from_tag invite m.number ts c.args.from c.requires.place (is_of_ack m) (acked_so m) es place c.requires.calls.ascends lower said i.stand)) ∙ i.same

pub returns-clause-entries : goal.returns-clause-entries
returns-clause-entries g c =
    let m = c.args.head.now in
    let i = c.loop-place.invariant in
    let es = unboxed_items c.loop-place.entries.items in
    let end : length c.args.calls.now ≤ c.loop-place.place = omega (arith, c.len-place-end.ensures) in
    sym (all_acked m c.args.step es (none_past (is_of_ack m) es c.args.calls.now c.loop-place.place end i.stand)) ∙ i.same
