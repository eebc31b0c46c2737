use Rattle.std.proofs.Common.{◌≡◌, map}
use Rattle.mmtel_timers.specs.Shelves.{IsIndex, Rises, unboxed_items}
use Rattle.mmtel_transaction.specs.declared.entries.Entry.{Entry}
use Rattle.mmtel_transaction.specs.Changes.{after_ack_2xx}
use Rattle.mmtel_transaction.specs.Indexes.{deadline_cmp, indexed_deadline}
use Rattle.mmtel_transaction.proofs.CallKeys.{is_of_ack, StandFrom}
use Rattle.mmtel_transaction.proofs.tables.ack_from.Given as goal

abbrev pub invariant-loop-place : goal.invariant-loop-place
invariant-loop-place g l = record {
  rises : Rises (λ (e : Entry). e.key) (unboxed_items l.entries.items);
  due : IsIndex indexed_deadline deadline_cmp (unboxed_items l.entries.items) l.due;
  same : map (after_ack_2xx l.step l.head) (unboxed_items l.entries.items) ≡ map (after_ack_2xx l.step l.head) (unboxed_items l.initial.entries.items);
  stand : StandFrom (is_of_ack l.head) (unboxed_items l.entries.items) l.calls l.place;
}
