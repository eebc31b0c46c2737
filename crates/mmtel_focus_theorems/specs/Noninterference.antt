-- Two tables of conferences, each under its configuration, and two histories of them, side by side: the tables stay equal but for private places, and the same is seen of each
-- operation.
use Rattle.std.specs.Prelude.{◌≡◌, Bool, List, [], ◌∷◌, map}
use Rattle.mmtel_transaction.specs.declared.words.TKey.{TKey}
use Rattle.mmtel_types.specs.declared.numbers.Peer.{Peer}
use Rattle.mmtel_focus.specs.Operations.{effects_after, effects_of, table_after, table_after_op}
use Rattle.mmtel_focus.specs.ConferenceConfig.{ConferenceConfigView}
use Rattle.mmtel_focus.specs.Table.{Table}
use Rattle.mmtel_focus_theorems.specs.Configurations.{EqualButForAccounts, OpLooksUpEqually}
use Rattle.mmtel_focus_theorems.specs.Inputs.{AreEquivalentOps, OpPair, one_op, other_op}
use Rattle.mmtel_focus_theorems.specs.PublicParts.{EquivalentEffects, public_table, trust_of, trusts}

-- two tables with the same public part
abbrev pub EquivalentConferences : (known : Peer → Bool) → (one other : Table) → Type 0
EquivalentConferences known one other = public_table known one ≡ public_table known other

-- the same is done on these tables but for private places, and account lookups have the same results
pub record AreEquivalentIn (config far : ConferenceConfigView) (keys : TKey → Bool) (ops : OpPair) (one other : Table) : Type 0 where
  pub done : AreEquivalentOps (trust_of config keys) ops one other
  pub lookups : OpLooksUpEqually config far (other_op ops)

-- ---- histories

-- the tables after these operations, the newest first
abbrev pub one_after : ConferenceConfigView → List OpPair → Table
one_after config all = table_after config (map one_op all)

abbrev pub other_after : ConferenceConfigView → List OpPair → Table
other_after far all = table_after far (map other_op all)

-- all that is done on both
abbrev pub AllAreEquivalent : (config far : ConferenceConfigView) → (keys : TKey → Bool) → List OpPair → Type 0
AllAreEquivalent config far keys [] = Unit {0}
AllAreEquivalent config far keys (ops ∷ earlier) =
    AreEquivalentIn config far keys ops (one_after config earlier) (other_after far earlier) × AllAreEquivalent config far keys earlier

-- ---- the theorems, under two configurations that are equal but for the URIs of accounts

pub record TablesStayEquivalent : Type 0 where
  -- each operation keeps tables equal but for private places
  pub operations : (config far : ConferenceConfigView) (keys : TKey → Bool) (ops : OpPair) (one other : Table) →
      EqualButForAccounts config far → EquivalentConferences (trusts config) one other →
      AreEquivalentIn config far keys ops one other → EquivalentConferences (trusts config) (table_after_op config (one_op ops) one) (table_after_op far (other_op ops) other)
  -- so do two lists of operations, of any length, from the empty table on
  pub traces : (config far : ConferenceConfigView) (keys : TKey → Bool) (all : List OpPair) → EqualButForAccounts config far → AllAreEquivalent config far keys all →
      EquivalentConferences (trusts config) (one_after config all) (other_after far all)

pub record OperationsAreSeenEqually : Type 0 where
  -- of each operation on tables that are equal but for private places the same is seen
  pub operations : (config far : ConferenceConfigView) (keys : TKey → Bool) (ops : OpPair) (one other : Table) →
      EqualButForAccounts config far → EquivalentConferences (trusts config) one other →
      AreEquivalentIn config far keys ops one other → EquivalentEffects (trust_of config keys) (effects_of config (one_op ops) one) (effects_of far (other_op ops) other)
  -- and of each one after two lists of them
  pub traces : (config far : ConferenceConfigView) (keys : TKey → Bool) (ops : OpPair) (earlier : List OpPair) →
      EqualButForAccounts config far → AllAreEquivalent config far keys (ops ∷ earlier) →
      EquivalentEffects (trust_of config keys) (effects_after config (map one_op earlier) (one_op ops)) (effects_after far (map other_op earlier) (other_op ops))
