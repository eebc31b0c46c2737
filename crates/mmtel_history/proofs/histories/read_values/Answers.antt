use Rattle.std.proofs.Common.{◌≡◌, ◌∙◌, ap, sym, subst, List, ℕ, [], get_or, Ok, Err, None, arith}
use Rattle.mmtel_history.specs.HistoryInfo.{entries_result, entry_of, AreReadable}
use Rattle.mmtel_history.specs.declared.entries.Entry.{Entry}
use Rattle.mmtel_history.proofs.ReadableTheorems.{entries_readable}
use Rattle.mmtel_history.proofs.ValuesLoop.{stops, too_many, all_read, any_default}
use Rattle.mmtel_history.proofs.histories.read_values.Goals as goal

pub returns-then-i-ge-MOST_VALUES : goal.returns-then-i-ge-MOST_VALUES
returns-then-i-ge-MOST_VALUES c = record {
  exact = subst (λ (vs : List (List ℕ)). entries_result vs ≡ Err 32) c.items-value-items.ensures
      (too_many c.items-value-items.result.now c.loop-i.i c.loop-i.entries.items c.loop-i-test.true c.if-i-ge-MOST_VALUES.true c.loop-i.invariant);
  few = tt;
  readable = tt;
}

pub returns-in-Err-Malformed : goal.returns-in-Err-Malformed
returns-in-Err-Malformed c =
    let value : c.bytes.result.now ≡ get_or c.items-value-items.result.now c.loop-i.i [] =
    c.bytes.ensures ∙ c.value-item.is ∙ any_default c.items-value-items.result.now c.loop-i.i c.value-item.result [] c.loop-i-test.true in
    let read : entry_of c.bytes.result.now ≡ None = rw c.in-Err-Malformed.field-0-is at c.in-Err-Malformed.ensures in
    let unread : entry_of (get_or c.items-value-items.result.now c.loop-i.i []) ≡ None = ap (λ (v : List ℕ). entry_of v) (sym value) ∙ read in
    record {
      exact = subst (λ (vs : List (List ℕ)). entries_result vs ≡ Err c.loop-i.i) c.items-value-items.ensures
          (stops c.items-value-items.result.now c.loop-i.i c.loop-i.entries.items c.loop-i-test.true c.if-i-ge-MOST_VALUES.false unread c.loop-i.invariant);
      few = tt;
      readable = tt;
    }

pub returns : goal.returns
returns c = record {
  exact = subst (λ (vs : List (List ℕ)). entries_result vs ≡ Ok c.loop-i.entries.items) c.items-value-items.ensures
      (all_read c.items-value-items.result.now c.loop-i.i c.loop-i.entries.items c.loop-i-test.false c.loop-i.invariant);
  few = omega (arith, c.loop-i.invariant.few, c.loop-i.invariant.count);
  readable = subst (λ (h : List Entry). AreReadable h) (sym c.loop-i.invariant.are) (entries_readable _);
}
