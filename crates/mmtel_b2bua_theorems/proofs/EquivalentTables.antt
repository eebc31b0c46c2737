-- Any operation on indistinguishable tables leaves them indistinguishable.
use Rattle.std.proofs.Common.{ℕ, Bool, List, [], ◌∷◌, refl, ap, drop, subst}
use Rattle.mmtel_charging.specs.declared.rows.Row.{Row}
use Rattle.mmtel_sheet_values.specs.declared.values.Sheet.{Sheet}
use Rattle.mmtel_transaction.specs.declared.words.TKey.{TKey}
use Rattle.mmtel_types.specs.declared.numbers.Peer.{Peer}
use Rattle.mmtel_call_services.specs.CallConfig.{CallConfigView, trusts}
use Rattle.mmtel_b2bua.specs.Operations.{step_on_finish, table_after_op}
use Rattle.mmtel_b2bua.specs.Tables.{Table, snapshot_at}
use Rattle.mmtel_sheet_values.specs.View.{SheetsInForce}
use Rattle.mmtel_types.specs.declared.numbers.Account.{Account}
use Rattle.mmtel_call_theorems.specs.Noninterference.Premises.{RecordsCoverSnapshot}
use Rattle.mmtel_call_theorems.specs.Noninterference.Observations.{trust_of}
use Rattle.mmtel_b2bua_theorems.specs.EquivalentTables.{EquivalentTables}
use Rattle.mmtel_b2bua_theorems.specs.Noninterference.{AllEquivalent, AreEquivalent, BothDrop, BothFinish, BothReceive, BothRelease, BothRestore, ConfigsAgree, OpIsFromOwnPeer, OpPair}
use Rattle.mmtel_b2bua_theorems.specs.Noninterference.{ReceiveEquivalent, ReceivedWithRole, RecordsCoverSignal, TablesCorrespond, TablesStayEquivalent, one_after, one_of, other_after, other_of}
use Rattle.mmtel_b2bua_theorems.proofs.Invariants.{did-kept}
use Rattle.mmtel_b2bua_theorems.proofs.ReleasedLegs.{finishing-equivalent, legs-equivalent, released-equivalent, restored-equivalent}
use Rattle.mmtel_b2bua_theorems.proofs.EquivalentSignals.{OfCalls, receiving-alike, signals-alike, with-alike}

module _ (laws : OfCalls) (records : List Sheet) (config far : CallConfigView) (keys : TKey → Bool) (configured : ConfigsAgree records config far) where
  abbrev known : Peer → Bool
  known = λ peer. trusts config peer

  op-equivalent : (both : OpPair) (t u : Table) → TablesCorrespond records config keys t u → AreEquivalent records config far keys both t u →
      EquivalentTables records known (table_after_op config (one_of both) t) (table_after_op far (other_of both) u)
  op-equivalent (BothReceive one other) t u a alike = receiving-alike laws records config far keys configured one other t u a alike
  op-equivalent (BothRelease number side) t u a alike =
      record { entries = released-equivalent laws records known number side t.entries u.entries a.equivalent.entries; opened = a.equivalent.opened; rows = a.equivalent.rows }
  op-equivalent (BothRestore number one other) t u a alike =
      record { entries = restored-equivalent laws records known number one other alike t.entries u.entries a.equivalent.entries; opened = a.equivalent.opened; rows = a.equivalent.rows }
  op-equivalent (BothFinish number at tokens) t u a alike =
      with-alike laws records config far keys configured (step_on_finish config number at tokens t) (step_on_finish far number at tokens u) t.opened u.opened t u a.equivalent.opened
      (finishing-equivalent laws records config far keys configured number at tokens t u a) a.equivalent
  op-equivalent (BothDrop count) t u a alike = record { entries = a.equivalent.entries; opened = a.equivalent.opened; rows = ap (λ (l : List Row). drop count l) a.equivalent.rows }

  -- ---- the invariant of each call remains

  one_well : (both : OpPair) (t u : Table) → AreEquivalent records config far keys both t u → OpIsFromOwnPeer records (trust_of config keys) (one_of both)
  one_well (BothReceive one other) t u alike = (alike.covered, alike.first_peer)
  one_well (BothRelease number side) t u alike = tt
  one_well (BothRestore number one other) t u alike = tt
  one_well (BothFinish number at tokens) t u alike = tt
  one_well (BothDrop count) t u alike = tt

  corresponds_too : (one other : ReceivedWithRole) (t u : Table) → ReceiveEquivalent records config far keys one other t u → RecordsCoverSignal records other.received
  corresponds_too one other t u alike =
      subst (λ (v : SheetsInForce). (busy : List Account) → RecordsCoverSnapshot records (snapshot_at other.received.at v busy)) alike.view
      (subst (λ (n : ℕ). (busy : List Account) → RecordsCoverSnapshot records (snapshot_at n one.received.view busy)) alike.at alike.covered)

  other_well : (both : OpPair) (t u : Table) → AreEquivalent records config far keys both t u → OpIsFromOwnPeer records (trust_of config keys) (other_of both)
  other_well (BothReceive one other) t u alike = (corresponds_too one other t u alike, alike.second_peer)
  other_well (BothRelease number side) t u alike = tt
  other_well (BothRestore number one other) t u alike = tt
  other_well (BothFinish number at tokens) t u alike = tt
  other_well (BothDrop count) t u alike = tt

  tables-correspond : (both : OpPair) (t u : Table) → TablesCorrespond records config keys t u → AreEquivalent records config far keys both t u →
      TablesCorrespond records config keys (table_after_op config (one_of both) t) (table_after_op far (other_of both) u)
  tables-correspond both t u a alike = record {
    equivalent = op-equivalent both t u a alike;
    one = did-kept laws.keep records (trust_of config keys) config (one_of both) t (one_well both t u alike) a.one;
    other = did-kept laws.keep records (trust_of config keys) far (other_of both) u (other_well both t u alike) a.other;
  }

  all-equivalent : (both : List OpPair) → AllEquivalent records config far keys both → TablesCorrespond records config keys (one_after config both) (other_after far both)
  all-equivalent [] alike = record { equivalent = record { entries = tt; opened = refl; rows = refl }; one = tt; other = tt }
  all-equivalent (both ∷ earlier) alike = tables-correspond both (one_after config earlier) (other_after far earlier) (all-equivalent earlier alike.1) alike.0

pub tables_stay_equivalent : OfCalls → TablesStayEquivalent
tables_stay_equivalent laws = record {
  operations = λ records config far keys both t u configured a alike. tables-correspond laws records config far keys configured both t u a alike;
  traces = λ records config far keys both configured alike. all-equivalent laws records config far keys configured both alike;
  signals = λ records config far keys one other t u configured a receive. (signals-alike laws records config far keys configured one other t u a receive).output;
  ends = λ records config far keys number at tokens t u configured a. (finishing-equivalent laws records config far keys configured number at tokens t u a).output;
  legs = λ records known number side t u a. legs-equivalent laws records known number side t u a;
}
