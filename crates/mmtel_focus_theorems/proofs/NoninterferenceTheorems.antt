-- Under two configurations that are equal but for the URIs of accounts, tables of conferences that are equal but for private places stay so, and the same is seen of each operation.
use Rattle.std.proofs.Common.{Bool, List, [], ◌∷◌, refl, subst}
use Rattle.mmtel_transaction.specs.declared.words.TKey.{TKey}
use Rattle.mmtel_focus.specs.Operations.{effects_of, table_after_op}
use Rattle.mmtel_focus.specs.ConferenceConfig.{ConferenceConfigView}
use Rattle.mmtel_focus.specs.Table.{Table}
use Rattle.mmtel_participants.specs.declared.effects.Effects.{Effects}
use Rattle.mmtel_call_theorems.proofs.Noninterference.Sent.{Heads}
use Rattle.mmtel_focus_theorems.specs.Configurations.{EqualButForAccounts}
use Rattle.mmtel_focus_theorems.specs.Inputs.{OpPair, one_op, other_op}
use Rattle.mmtel_focus_theorems.specs.Noninterference.{AllAreEquivalent, AreEquivalentIn, EquivalentConferences, OperationsAreSeenEqually, TablesStayEquivalent, one_after, other_after}
use Rattle.mmtel_focus_theorems.specs.PublicParts.{EquivalentEffects, trust_of, trusts}
use Rattle.mmtel_focus_theorems.proofs.Lookups.{ops_see_look_ups_alone}
use Rattle.mmtel_focus_theorems.proofs.EquivalentTables.{op-equivalent}

module _ (heads : Heads) (config far : ConferenceConfigView) (keys : TKey → Bool) (equal : EqualButForAccounts config far) where
  table-equivalent : (d : OpPair) (x y : Table) → EquivalentConferences (trusts config) x y → AreEquivalentIn config far keys d x y →
      EquivalentConferences (trusts config) (table_after_op config (one_op d) x) (table_after_op far (other_op d) y)
  table-equivalent d x y a h =
      subst (λ (t : Table). EquivalentConferences (trusts config) (table_after_op config (one_op d) x) t) (ops_see_look_ups_alone.tables config far (other_op d) y equal h.lookups)
      (op-equivalent heads config keys d x y h.done a).1

  effects-equivalent : (d : OpPair) (x y : Table) → EquivalentConferences (trusts config) x y → AreEquivalentIn config far keys d x y →
      EquivalentEffects (trust_of config keys) (effects_of config (one_op d) x) (effects_of far (other_op d) y)
  effects-equivalent d x y a h =
      subst (λ (e : Effects). EquivalentEffects (trust_of config keys) (effects_of config (one_op d) x) e) (ops_see_look_ups_alone.effects config far (other_op d) y equal h.lookups)
      (op-equivalent heads config keys d x y h.done a).0

  -- ---- histories

  tables-equivalent : (all : List OpPair) → AllAreEquivalent config far keys all → EquivalentConferences (trusts config) (one_after config all) (other_after far all)
  tables-equivalent [] h = refl
  tables-equivalent (d ∷ all) h = table-equivalent d (one_after config all) (other_after far all) (tables-equivalent all h.1) h.0

pub tables_stay_equivalent : Heads → TablesStayEquivalent
tables_stay_equivalent heads = record {
  operations = λ config far keys d x y equal a h. table-equivalent heads config far keys equal d x y a h;
  traces = λ config far keys all equal h. tables-equivalent heads config far keys equal all h;
}

pub operations_are_seen_equally : Heads → OperationsAreSeenEqually
operations_are_seen_equally heads = record {
  operations = λ config far keys d x y equal a h. effects-equivalent heads config far keys equal d x y a h;
  traces = λ config far keys d all equal h. effects-equivalent heads config far keys equal d (one_after config all) (other_after far all) (tables-equivalent heads config far keys equal all h.1) h.0;
}
