use Rattle.std.proofs.Common.{◌≡◌, List}
use Rattle.mmtel_timers.specs.Shelves.{IsIndex}
use Rattle.mmtel_transaction.specs.declared.entries.Entry.{Entry}
use Rattle.mmtel_transaction.specs.Results.{is_merged_entry}
use Rattle.mmtel_transaction.specs.Indexes.{indexed_call, IsPlaceOf, searched_key, match_cmp, merged_match}
use Rattle.mmtel_transaction.proofs.CallKeys.{StandFrom}
use Rattle.mmtel_transaction.proofs.tables.has_other.Given as goal

abbrev pub invariant-loop-place : goal.invariant-loop-place
invariant-loop-place g l = (e : Entry) (es : List Entry) → searched_key l.mark ≡ merged_match e → l.key ≡ e.key → IsIndex indexed_call match_cmp es l.calls →
    IsPlaceOf (searched_key l.mark) l.calls l.from → StandFrom (is_merged_entry e) es l.calls l.place
