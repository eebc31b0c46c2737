use Rattle.std.proofs.Common.{ap, refl, ◌∙◌}
use Rattle.std.specs.List.{list_any}
use Rattle.mmtel_timers.specs.Shelves.{unboxed_items}
use Rattle.mmtel_transaction.specs.Results.{is_merged_entry}
use Rattle.mmtel_transaction.specs.Indexes.{searched_key}
use Rattle.mmtel_transaction.proofs.Reaching.{matches_parted}
use Rattle.mmtel_transaction.proofs.tables.Tables.has_merged.Goals as goal

pub seek-from-requires : goal.seek-from-requires
seek-from-requires g c = matches_parted (searched_key c.merged_search_key-mark.result) c.self.inside.calls c.self.invariant.calls.ascends

pub returns : goal.returns
returns g c =
    c.has_other.ensures c.args.entry.now (unboxed_items c.self.inside.entries.items) c.merged_search_key-mark.ensures refl c.self.invariant.calls c.seek-from.ensures.parted
    ∙ ap (list_any (is_merged_entry c.args.entry.now)) c.self.view_is
