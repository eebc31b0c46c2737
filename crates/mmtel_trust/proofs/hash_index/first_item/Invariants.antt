use Rattle.std.proofs.Common.{◌≡◌, ◌≤◌, ◌-◌, length, drop}
use Rattle.std.specs.Prelude.{find}
use Rattle.mmtel_trust.proofs.hash_index.first_item.Given as goal

abbrev pub invariant-index : goal.invariant-index
invariant-index g l = (find (g.K.LookupKey.is_key_of l.key) l.items ≡ find (g.K.LookupKey.is_key_of l.key) (drop l.from l.items)) × (l.from ≤ length l.items)

abbrev pub decreases-index : goal.decreases-index
decreases-index g l = length l.items - l.from
