use Rattle.std.proofs.Common.{◌≡◌}
use Rattle.toml.specs.View.{members_view}
use Rattle.mmtel_mwi.specs.Counting.{counts_from, no_messages}
use Rattle.mmtel_mwi.proofs.reading.counts.Given as goal

abbrev pub invariant-members : goal.invariant-members
invariant-members l =
    (goal.iterator-members).can_next l.key-iterator ×
    (goal.iterator-members).is_finite l.key-iterator ×
    (counts_from l.counts (members_view l.key-iterator) ≡ counts_from no_messages (members_view l.table.entries))
