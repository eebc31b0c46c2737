-- Any operation on two tables of calls, the same but for private places, leaves them indistinguishable, and the observable part of its output is the same.
use Rattle.std.specs.Prelude.{◌≡◌, ℕ, Bool, List, [], ◌∷◌, map}
use Rattle.std.specs.Option.{option_map}
use Rattle.mmtel_leg.specs.declared.legs.Released.{Released}
use Rattle.mmtel_sheet_values.specs.declared.values.Sheet.{Sheet}
use Rattle.mmtel_transaction.specs.Tokens.{TokensView}
use Rattle.mmtel_transaction.specs.declared.words.TKey.{TKey}
use Rattle.mmtel_types.specs.declared.numbers.Account.{Account}
use Rattle.mmtel_types.specs.declared.numbers.Peer.{Peer}
use Rattle.mmtel_types.specs.declared.sides.Side.{Side}
use Rattle.mmtel_call_services.specs.CallConfig.{CallConfigView, trusts}
use Rattle.mmtel_call_theorems.specs.Noninterference.Configurations.{EqualButForAccounts, RecordsDivertEqually}
use Rattle.mmtel_call_theorems.specs.Noninterference.PublicCall.{public_released}
use Rattle.mmtel_call_theorems.specs.Noninterference.Premises.{RecordsCoverSnapshot}
use Rattle.mmtel_call_theorems.specs.Noninterference.Roles.{Role}
use Rattle.mmtel_call_theorems.specs.Noninterference.Observations.{EquivalentOutputs, Trust, trust_of}
use Rattle.mmtel_b2bua.specs.Operations.{Drops, Finishes, ReceivedSignal, Receives, Releases, Restores, TableOp, step_on_finish, step_on_receive, table_after, table_after_op}
use Rattle.mmtel_b2bua.specs.Detaching.{released_leg_of}
use Rattle.mmtel_b2bua.specs.Tables.{Table, snapshot_at}
use Rattle.mmtel_b2bua_theorems.specs.EquivalentTables.{CallsInvariant, EquivalentTables}
use Rattle.mmtel_b2bua_theorems.specs.Signals.{CallersDecidedEqually, SignalIsFromOwnPeer, SignalLooksUpEqually, TableMayReceive, public_signal}

-- ---- two signals side by side

-- the records in force are among these
abbrev pub RecordsCoverSignal : (records : List Sheet) → ReceivedSignal → Type 0
RecordsCoverSignal records received = (busy : List Account) → RecordsCoverSnapshot records (snapshot_at received.at received.view busy)

-- what one table receives, and the role of that message
pub record ReceivedWithRole : Type 0 where
  pub received : ReceivedSignal
  pub role : Role

-- they are received at one moment, with the same records and registrations and as many tokens drawn, and are the same but for private places; the same is decided on the callers,
-- and account look-ups have the same results
pub record ReceiveEquivalent (records : List Sheet) (config far : CallConfigView) (keys : TKey → Bool) (one other : ReceivedWithRole) (t u : Table) : Type 0 where
  pub at : one.received.at ≡ other.received.at
  pub view : one.received.view ≡ other.received.view
  pub tokens : one.received.tokens ≡ other.received.tokens
  pub signals : public_signal one.role one.received.signal ≡ public_signal other.role other.received.signal
  pub callers : CallersDecidedEqually records one.received.signal other.received.signal
  pub lookups : SignalLooksUpEqually config far other.role other.received.signal
  -- the records in force are among those whose rules are evaluated on the callers
  pub covered : RecordsCoverSignal records one.received
  -- and each fulfils the premises of the table that receives it
  pub first : TableMayReceive (trust_of config keys) (snapshot_at one.received.at one.received.view []) one.role one.received.signal t.entries
  pub second : TableMayReceive (trust_of config keys) (snapshot_at other.received.at other.received.view []) other.role other.received.signal u.entries
  pub first_peer : SignalIsFromOwnPeer (trust_of config keys) one.received.signal
  pub second_peer : SignalIsFromOwnPeer (trust_of config keys) other.received.signal

-- ---- two operations side by side

pub data OpPair : Type 0 where
  -- signals are received
  BothReceive : (one other : ReceivedWithRole) → OpPair
  -- a leg of the call of this number is detached, or put back
  BothRelease : (number : ℕ) → (side : Side) → OpPair
  BothRestore : (number : ℕ) → (one other : Released) → OpPair
  -- that call ends without the leg
  BothFinish : (number at : ℕ) → (tokens : TokensView) → OpPair
  -- this many CDRs are handed over
  BothDrop : (count : ℕ) → OpPair

abbrev pub one_of : OpPair → TableOp
one_of (BothReceive one other) = Receives one.received
one_of (BothRelease number side) = Releases number side
one_of (BothRestore number one other) = Restores number one
one_of (BothFinish number at tokens) = Finishes number at tokens
one_of (BothDrop count) = Drops count

abbrev pub other_of : OpPair → TableOp
other_of (BothReceive one other) = Receives other.received
other_of (BothRelease number side) = Releases number side
other_of (BothRestore number one other) = Restores number other
other_of (BothFinish number at tokens) = Finishes number at tokens
other_of (BothDrop count) = Drops count

-- they are indistinguishable: so are the signals, and the legs that are put back have the same public part
abbrev pub AreEquivalent : (records : List Sheet) → (config far : CallConfigView) → (keys : TKey → Bool) → OpPair → (t u : Table) → Type 0
AreEquivalent records config far keys (BothReceive one other) t u = ReceiveEquivalent records config far keys one other t u
AreEquivalent records config far keys (BothRelease number side) t u = Unit {0}
AreEquivalent records config far keys (BothRestore number one other) t u = public_released (trusts config) one ≡ public_released (trusts config) other
AreEquivalent records config far keys (BothFinish number at tokens) t u = Unit {0}
AreEquivalent records config far keys (BothDrop count) t u = Unit {0}

-- ---- the tables after all that: the last operation is first in the list

abbrev pub one_after : CallConfigView → List OpPair → Table
one_after config both = table_after config (map one_of both)

abbrev pub other_after : CallConfigView → List OpPair → Table
other_after far both = table_after far (map other_of both)

abbrev pub AllEquivalent : (records : List Sheet) → (config far : CallConfigView) → (keys : TKey → Bool) → List OpPair → Type 0
AllEquivalent records config far keys [] = Unit {0}
AllEquivalent records config far keys (both ∷ earlier) =
    AreEquivalent records config far keys both (one_after config earlier) (other_after far earlier)
    × AllEquivalent records config far keys earlier

-- ---- the theorems

-- two configurations that are equal but for the URIs of accounts, where look-ups of the accounts to which records divert calls have the same results
pub record ConfigsAgree (records : List Sheet) (one other : CallConfigView) : Type 0 where
  pub equal : EqualButForAccounts one other
  pub lead : RecordsDivertEqually records one other

-- the premises on an operation under which the table keeps the invariant of each call
abbrev pub OpIsFromOwnPeer : (records : List Sheet) → Trust → TableOp → Type 0
OpIsFromOwnPeer records t (Receives received) = RecordsCoverSignal records received × SignalIsFromOwnPeer t received.signal
OpIsFromOwnPeer records t (Releases number side) = Unit {0}
OpIsFromOwnPeer records t (Restores number away) = Unit {0}
OpIsFromOwnPeer records t (Finishes number at tokens) = Unit {0}
OpIsFromOwnPeer records t (Drops count) = Unit {0}

-- a table keeps the invariant of each of its calls, whatever the operation
abbrev pub TablesKeepTheirInvariant : Type 0
TablesKeepTheirInvariant = (records : List Sheet) (t : Trust) (config : CallConfigView) (op : TableOp) (table : Table) →
    OpIsFromOwnPeer records t op → CallsInvariant records t table.entries →
    CallsInvariant records t (table_after_op config op table).entries

-- two indistinguishable tables for which the invariant holds
pub record TablesCorrespond (records : List Sheet) (config : CallConfigView) (keys : TKey → Bool) (t u : Table) : Type 0 where
  pub equivalent : EquivalentTables records (trusts config) t u
  pub one : CallsInvariant records (trust_of config keys) t.entries
  pub other : CallsInvariant records (trust_of config keys) u.entries

pub record TablesStayEquivalent : Type 0 where
  -- each operation leaves indistinguishable tables indistinguishable
  pub operations : (records : List Sheet) (config far : CallConfigView) (keys : TKey → Bool) (both : OpPair) (t u : Table) →
      ConfigsAgree records config far → TablesCorrespond records config keys t u →
      AreEquivalent records config far keys both t u → TablesCorrespond records config keys (table_after_op config (one_of both) t) (table_after_op far (other_of both) u)
  -- so do two lists of operations, of any length
  pub traces : (records : List Sheet) (config far : CallConfigView) (keys : TKey → Bool) (both : List OpPair) →
      ConfigsAgree records config far → AllEquivalent records config far keys both →
      TablesCorrespond records config keys (one_after config both) (other_after far both)
  -- the observable output on a signal is the same: untrusted peers see theirs whole, of what is sent to trusted ones the heads, and tokens, CDRs and deadlines are the same
  pub signals : (records : List Sheet) (config far : CallConfigView) (keys : TKey → Bool) (one other : ReceivedWithRole) (t u : Table) →
      ConfigsAgree records config far → TablesCorrespond records config keys t u →
      ReceiveEquivalent records config far keys one other t u →
      EquivalentOutputs (trust_of config keys) (step_on_receive config one.received t).output (step_on_receive far other.received u).output
  -- and so is that at the end of a call without its leg
  pub ends : (records : List Sheet) (config far : CallConfigView) (keys : TKey → Bool) (number at : ℕ) (tokens : TokensView) (t u : Table) → ConfigsAgree records config far →
      TablesCorrespond records config keys t u →
      EquivalentOutputs (trust_of config keys) (step_on_finish config number at tokens t).output (step_on_finish far number at tokens u).output
  -- the leg that is detached is the same but for private places
  pub legs : (records : List Sheet) (known : Peer → Bool) (number : ℕ) (side : Side) (t u : Table) → EquivalentTables records known t u →
      option_map (public_released known) (released_leg_of number side t.entries) ≡ option_map (public_released known) (released_leg_of number side u.entries)
