use Rattle.std.proofs.Common.{sym, subst}
use Rattle.mmtel_timers.specs.Shelves.{IsIndex, unboxed_items}
use Rattle.mmtel_transaction.specs.Changes.{after_ack_2xx}
use Rattle.mmtel_transaction.specs.Indexes.{AreTables, deadline_cmp, indexed_deadline, searched_key}
use Rattle.mmtel_transaction.proofs.Changing.{tables_mapped}
use Rattle.mmtel_transaction.proofs.Lists.{keeps_acked_2xx}
use Rattle.mmtel_transaction.proofs.Reaching.{matches_parted}
use Rattle.mmtel_transaction.proofs.tables.Tables.ack_2xx.Goals as goal

pub seek-from-requires : goal.seek-from-requires
seek-from-requires g c = matches_parted (searched_key c.ack_search_key.result) c.self.inside.calls c.self.invariant.calls.ascends

pub invariant_of-self : goal.invariant_of-self
invariant_of-self g c =
    let f = after_ack_2xx c.args.step c.args.head.now in
    let t = c.self.inside in
    let due = subst (λ xs. IsIndex indexed_deadline deadline_cmp xs c.ack_from.new.due) c.ack_from.ensures.entries c.ack_from.ensures.due in
    subst (λ xs. AreTables xs t.servers t.clients t.calls c.ack_from.new.due) (sym c.ack_from.ensures.entries)
    (tables_mapped f (keeps_acked_2xx c.args.step c.args.head.now) (unboxed_items t.entries.items) t.servers t.clients t.calls t.due c.ack_from.new.due c.self.invariant due)
