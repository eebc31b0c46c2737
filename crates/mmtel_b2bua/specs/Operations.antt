-- A table of calls and all operations on it. The table after some operations is determined by the list of these operations alone.
use Rattle.std.specs.Prelude.{ℕ, ◌≡◌, Bool, false, List, [], ◌∷◌, Option, drop}
use Rattle.mmtel_call_services.specs.CallConfig.{CallConfigView}
use Rattle.mmtel_output.specs.Outputs.{empty_output}
use Rattle.mmtel_output.specs.declared.outputs.StepOutput.{StepOutput}
use Rattle.mmtel_leg.specs.declared.legs.Released.{Released}
use Rattle.mmtel_sheet_values.specs.View.{SheetsInForce}
use Rattle.mmtel_transaction.specs.Tokens.{TokensView}
use Rattle.mmtel_trust.specs.Peers.{Peers}
use Rattle.mmtel_trust.specs.declared.accounts.AccountIdentity.{AccountIdentity}
use Rattle.mmtel_types.specs.declared.addrs.Addr.{Addr}
use Rattle.mmtel_types.specs.declared.sides.Side.{Side}
use Rattle.mmtel_b2bua.specs.Detaching.{entries_after_release, entries_after_restore, step_of_finish}
use Rattle.mmtel_b2bua.specs.Tables.{Table, TableStep, no_calls, opened_after, step_of_signal, with_step}
use Rattle.mmtel_base.specs.Numbers.{next_number}
use Rattle.mmtel_b2bua.specs.declared.signals.Signal.{Signal}

-- what was received: the moment, the records in force and the registrations, the tokens that were drawn before, and the signal
pub record ReceivedSignal : Type 0 where
  pub at : ℕ
  pub view : SheetsInForce
  pub tokens : TokensView
  pub signal : Signal

-- an operation on a table of calls
pub data TableOp : Type 0 where
  -- a signal was received
  Receives : (received : ReceivedSignal) → TableOp
  -- a leg of the call of this number was detached, or put back
  Releases : (number : ℕ) → (side : Side) → TableOp
  Restores : (number : ℕ) → (away : Released) → TableOp
  -- that call was ended without the leg
  Finishes : (number at : ℕ) → (tokens : TokensView) → TableOp
  -- this many CDRs were handed over
  Drops : (count : ℕ) → TableOp

-- the table and the output after a signal
abbrev pub step_on_receive : CallConfigView → ReceivedSignal → Table → TableStep
step_on_receive config x table = step_of_signal config x.at x.view (next_number table.opened) x.signal table.entries (empty_output x.tokens)

-- the table and the output after the end of a call without its leg
abbrev pub step_on_finish : CallConfigView → (number at : ℕ) → TokensView → Table → TableStep
step_on_finish config number at tokens table = step_of_finish config at number table.entries (empty_output tokens)

abbrev pub table_after_op : CallConfigView → TableOp → Table → Table
table_after_op config (Receives received) table = with_step (step_on_receive config received table) (opened_after received.signal table.opened) table
table_after_op config (Releases number side) table = record table { entries = entries_after_release number side table.entries }
table_after_op config (Restores number away) table = record table { entries = entries_after_restore number away table.entries }
table_after_op config (Finishes number at tokens) table = with_step (step_on_finish config number at tokens table) table.opened table
table_after_op config (Drops count) table = record table { rows = drop count table.rows }

-- the table after these operations, the newest first
abbrev pub table_after : CallConfigView → List TableOp → Table
table_after config [] = no_calls
table_after config (op ∷ ops) = table_after_op config op (table_after config ops)

-- ---- a value of calls

pub record CallsView : Type 0 where
  pub sip : Addr
  pub home : List ℕ
  pub bound : ℕ
  pub country : Option (List ℕ)
  pub reliable : Bool
  pub timer : Bool
  pub mwi : Bool
  pub table : Table
  -- whether memory ran out in a step
  pub has_failed : Bool

-- its configuration, with the peers and the accounts that are the input of each call on it
abbrev pub config_of : CallsView → Peers → List AccountIdentity → CallConfigView
config_of calls peers accounts = record {
  sip = calls.sip;
  home = calls.home;
  bound = calls.bound;
  country = calls.country;
  reliable = calls.reliable;
  timer = calls.timer;
  mwi = calls.mwi;
  peers = peers;
  accounts = accounts;
}

-- the value represents the table after these operations
pub record Represents (peers : Peers) (accounts : List AccountIdentity) (calls : CallsView) (ops : List TableOp) : Type 0 where
  pub table : calls.table ≡ table_after (config_of calls peers accounts) ops
  pub works : calls.has_failed ≡ false

-- the table and the output after a signal, where these operations were done before
abbrev pub step_on_receive_after : CallConfigView → List TableOp → ReceivedSignal → TableStep
step_on_receive_after config ops x = step_on_receive config x (table_after config ops)

-- the calls after a signal, and the output of that step
abbrev pub calls_after_receive : Peers → List AccountIdentity → ReceivedSignal → CallsView → CallsView
calls_after_receive peers accounts x calls =
    record calls { table = with_step (step_on_receive (config_of calls peers accounts) x calls.table) (opened_after x.signal calls.table.opened) calls.table }

abbrev pub output_of_receive : Peers → List AccountIdentity → ReceivedSignal → CallsView → StepOutput
output_of_receive peers accounts x calls = (step_on_receive (config_of calls peers accounts) x calls.table).output

-- the calls after the end of a call without its leg
abbrev pub calls_after_finish : Peers → List AccountIdentity → (number at : ℕ) → TokensView → CallsView → CallsView
calls_after_finish peers accounts number at tokens calls =
    record calls { table = with_step (step_on_finish (config_of calls peers accounts) number at tokens calls.table) calls.table.opened calls.table }
