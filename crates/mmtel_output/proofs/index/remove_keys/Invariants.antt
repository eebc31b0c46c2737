use Rattle.std.proofs.Common.{◌≡◌, true, false, vec_len}
use Rattle.std.specs.BTreeSet.{contains}
use Rattle.std.specs.List.{list_any}
use Rattle.mmtel_output.specs.Marks.{is_same, key_cmp}
use Rattle.mmtel_output.specs.declared.marks.Key.{Key}
use Rattle.mmtel_output.proofs.index.remove_keys.Given as goal

abbrev pub invariant-pending : goal.invariant-pending
invariant-pending l = (k : Key) → contains key_cmp l.fn.keys k ≡ true → list_any (is_same k) l.fn.pending.items ≡ false → (contains key_cmp l.keys k ≡ true) × (list_any (is_same k) l.pending.items ≡ false)

abbrev pub decreases-pending : goal.decreases-pending
decreases-pending l = vec_len l.pending
