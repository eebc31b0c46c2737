-- To which call a message belongs, from whichever peer it comes, and what the calls get with it (RFC 3261 §9.2, §12.2.2, §17.1.3; RFC 5502 §6).
use Rattle.std.specs.Prelude.{ℕ, nat_le, Bool, List, Option, Some, None, count_by}
use Rattle.mmtel_compose.specs.ReceivedMessages.{MessageView}
use Rattle.mmtel_b2bua.specs.Entries.{is_live}
use Rattle.mmtel_b2bua.specs.Operations.{TableOp, table_after}
use Rattle.mmtel_b2bua.specs.Queries.{first_side, side_by_dialog, side_by_invite_key}
use Rattle.mmtel_b2bua.specs.Tables.{Table, most_calls}
use Rattle.mmtel_b2bua.specs.declared.entries.Entry.{Entry}
use Rattle.mmtel_b2bua.specs.declared.signals.Signal.{Signal}
use Rattle.mmtel_b2bua.specs.declared.signals.Signal.TheVariants as signal
use Rattle.mmtel_call_services.specs.CallConfig.{CallConfigView}
use Rattle.mmtel_directory.specs.declared.directories.Directory.{Directory}
pub use Rattle.mmtel_leg.specs.Names.{DialogName}
use Rattle.mmtel_call_parties.specs.Parties.{parties_of, served_accounts}
use Rattle.mmtel_call_parties.specs.declared.parties.Parties.{Parties}
use Rattle.mmtel_rules.specs.declared.values.Identities2.{Identities2}
use Rattle.mmtel_transaction.specs.declared.words.TKey.{TKey}
use Rattle.mmtel_trust.specs.Asserted.{asserted}
use Rattle.mmtel_trust.specs.ParsedMessage.{ParsedMessage}
use Rattle.mmtel_trust.specs.declared.accounts.AccountIdentity.{AccountIdentity}
use Rattle.mmtel_trust.specs.declared.identities.Identities.{Identities}
use Rattle.mmtel_types.specs.declared.numbers.CallNo.{CallNo}
use Rattle.mmtel_types.specs.declared.sides.Side.{Side}

-- the configuration, as calls need it
abbrev pub call_config : Directory → CallConfigView
call_config directory = record {
  sip = directory.sip;
  home = directory.home;
  bound = directory.bound;
  country = directory.country;
  reliable = directory.reliable;
  timer = directory.timer;
  mwi = directory.names.mwi;
  peers = directory.peers;
  accounts = directory.names.accounts;
}

-- the calls, after these operations on them
abbrev pub calls_after : Directory → List TableOp → Table
calls_after directory ops = table_after (call_config directory) ops

-- ---- to which call a message belongs

-- the name of a dialog (§12), from its Call-ID, the server's tag and the remote tag
abbrev pub name_by : Option (List ℕ) → Option (List ℕ) → Option (List ℕ) → Option DialogName
name_by None local remote = None
name_by (Some call_id) None remote = None
name_by (Some call_id) (Some local) None = None
name_by (Some call_id) (Some local) (Some remote) = Some (record { call_id = call_id; local = local; remote = remote })

-- the dialog that a message of a peer names: its To has the server's tag
abbrev pub dialog_name : ParsedMessage → Option DialogName
dialog_name message = name_by message.call_id message.to_tag message.from_tag

-- the live call and the side whose dialog has this name
abbrev pub find_dialog : Option DialogName → List Entry → Option (CallNo × Side)
find_dialog None entries = None
find_dialog (Some name) entries = first_side (side_by_dialog name.call_id name.local name.remote) entries

-- the live call and the side whose dialog a message names
abbrev pub named_by : ParsedMessage → List Entry → Option (CallNo × Side)
named_by message entries = find_dialog (dialog_name message) entries

-- the live call and the side whose INVITE opened a server transaction
abbrev pub call_of_invite : TKey → List Entry → Option (CallNo × Side)
call_of_invite invite entries = first_side (side_by_invite_key invite) entries

-- ---- an INVITE that opens a call

-- as many calls live as may, so that no more is opened
abbrev pub are_full : List Entry → Bool
are_full entries = nat_le most_calls (count_by is_live entries)

-- the identities of the caller, where the sender is trusted
abbrev pub identities_of : Identities → Identities2
identities_of identities = record { sip = identities.sip; tel = identities.tel }

abbrev pub caller_of : ParsedMessage → Identities2
caller_of message = identities_of (asserted message.trusted message.lines)

abbrev pub arrival_signal_by : Parties → TKey → MessageView → Signal
arrival_signal_by parties key message = signal.Arrived key message (served_accounts parties) parties.registration (caller_of message.parsed)

-- the signal of an INVITE that opens a call, with what is read of its parties
abbrev pub arrival_signal : List AccountIdentity → TKey → MessageView → Signal
arrival_signal accounts key message = arrival_signal_by (parties_of accounts message.parsed) key message
