-- The input of each step of a call: the server's configuration, and the current state.
use Rattle.std.specs.Prelude.{ℕ, ◌==◌, ◌-◌, ◌^◌, min, Bool, List, Option, count_by}
use Rattle.mmtel_compose.specs.declared.responses.FurtherMethods.{FurtherMethods}
use Rattle.mmtel_precedence.specs.Calls.{SnapshotView}
use Rattle.mmtel_sheet_values.specs.View.{registration_end_in, sheet_in}
use Rattle.mmtel_trust.specs.Peers.{Peers, is_trusted}
use Rattle.mmtel_trust.specs.declared.accounts.AccountIdentity.{AccountIdentity}
use Rattle.mmtel_types.specs.declared.addrs.Addr.{Addr}
use Rattle.mmtel_types.specs.declared.numbers.Account.{Account}
use Rattle.mmtel_types.specs.declared.numbers.Peer.{Peer}
use Rattle.mmtel_call_services.specs.Busy.{live_of}
use Rattle.mmtel_call_services.specs.declared.call_config.Snapshot.{Snapshot}

pub record CallConfigView : Type 0 where
  -- the server's address, its home domain, the bound on diversions, and the digits of the home country, if configured
  pub sip : Addr
  pub home : List ℕ
  pub bound : ℕ
  pub country : Option (List ℕ)
  -- whether provisional responses are relayed reliably (RFC 3262, RFC 3311), and whether sessions have timers (RFC 4028)
  pub reliable : Bool
  pub timer : Bool
  -- whether the server notifies subscribers of waiting messages (RFC 3842)
  pub mwi : Bool
  -- the peers with which it exchanges messages, and the accounts that it serves
  pub peers : Peers
  pub accounts : List AccountIdentity

-- the methods that it supports beside those that it always supports
abbrev pub further_methods : CallConfigView → FurtherMethods
further_methods config = record { reliable = config.reliable; mwi = config.mwi }

abbrev pub trusts : CallConfigView → Peer → Bool
trusts config peer = is_trusted peer config.peers.known

-- how many of these accounts, one for each call that keeps one busy, are the account of this number, limited to 32 bits
abbrev pub is_account : ℕ → Account → Bool
is_account number account = account.0 == number

abbrev pub calls_among : List Account → ℕ → ℕ
calls_among busy number = min (count_by (is_account number) busy) (2 ^ 32 - 1)

-- the current state
abbrev pub snapshot_of : Snapshot → SnapshotView
snapshot_of present = record { at = present.at; sheets = sheet_in present.sheets.now; registration_ends = registration_end_in present.sheets.now; live = live_of present.busy.now }
