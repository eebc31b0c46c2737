-- Two tables of calls that are equal but for private places: what the calls contribute to two related states of a run.
use Rattle.std.specs.Prelude.{◌≡◌, Bool, List, [], ◌∷◌}
use Rattle.mmtel_sheet_values.specs.declared.values.Sheet.{Sheet}
use Rattle.mmtel_types.specs.declared.numbers.Peer.{Peer}
use Rattle.mmtel_call_theorems.specs.Noninterference.EquivalentCalls.{EquivalentCalls}
use Rattle.mmtel_call_theorems.specs.Noninterference.Invariant.{CallInvariant}
use Rattle.mmtel_call_theorems.specs.Noninterference.Observations.{Trust}
use Rattle.mmtel_b2bua.specs.Tables.{Table}
use Rattle.mmtel_b2bua.specs.declared.entries.Entry.{Entry}

-- the calls are indistinguishable, and their sides sent the same INVITEs
pub record EquivalentEntry (records : List Sheet) (known : Peer → Bool) (one other : Entry) : Type 0 where
  pub calls : EquivalentCalls records known one.call other.call
  pub invites : one.invites ≡ other.invites

-- so are the calls at each index, and there are as many
abbrev pub EquivalentEntries : (records : List Sheet) → (known : Peer → Bool) → (es fs : List Entry) → Type 0
EquivalentEntries records known [] [] = Unit {0}
EquivalentEntries records known [] (f ∷ fs) = ⊥
EquivalentEntries records known (e ∷ es) [] = ⊥
EquivalentEntries records known (e ∷ es) (f ∷ fs) = EquivalentEntry records known e f × EquivalentEntries records known es fs

pub record EquivalentTables (records : List Sheet) (known : Peer → Bool) (one other : Table) : Type 0 where
  pub entries : EquivalentEntries records known one.entries other.entries
  pub opened : one.opened ≡ other.opened
  pub rows : one.rows ≡ other.rows

-- ---- the invariant of each call of a table: what it keeps was sent by its own peers, and its records are among these
abbrev pub CallsInvariant : (records : List Sheet) → Trust → List Entry → Type 0
CallsInvariant records t [] = Unit {0}
CallsInvariant records t (e ∷ es) = CallInvariant records t e.call × CallsInvariant records t es
