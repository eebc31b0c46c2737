-- A run without its private places, event by event, by what was done before each: the value by which two runs are compared
-- (RFC 3323 §4.1, RFC 3325 §7, RFC 7044 §10.1, TS 24.607 §4.5.2, TS 24.608 §4.5.2).
use Rattle.std.specs.Prelude.{ℕ, Bool, ◌&&◌, if◌then◌else◌, Option, Some, None, List, [], ◌∷◌, ◌++◌, map}
use Rattle.std.specs.List.{flat_map}
use Rattle.mmtel_compose.specs.ReceivedMessages.{MessageView}
use Rattle.mmtel_barring.specs.Barring.{rules_of}
use Rattle.mmtel_call_theorems.specs.Noninterference.Roles.{Role, hides, without_private}
use Rattle.mmtel_directory.specs.declared.directories.Directory.{Directory}
use Rattle.mmtel_records_in_force.specs.Texts.{Texts}
use Rattle.mmtel_message.specs.Message.{Message}
use Rattle.mmtel_message.specs.declared.messages.Start.{Start}
use Rattle.mmtel_mwi.specs.declared.counts.Counts.{Counts}
use Rattle.mmtel_precedence.specs.Theorems.{diversion_rules}
use Rattle.mmtel_rules.specs.IdentityParts.{identity_parts}
use Rattle.mmtel_rules.specs.Identities.{has_identity, identity_holds}
use Rattle.mmtel_sheet_grammar.specs.Texts.{stored_sheet}
use Rattle.mmtel_sheet_values.specs.Sheets.{empty_sheet}
use Rattle.mmtel_sheet_values.specs.declared.values.Sheet.{Sheet}
use Rattle.mmtel_sheet_values.specs.declared.values.Who.{Who}
use Rattle.mmtel_trust.specs.ParsedMessage.{ParsedMessage, caller_account}
use Rattle.mmtel_trust.specs.declared.accounts.AccountIdentity.{AccountIdentity}
use Rattle.mmtel_types.specs.declared.addrs.Addr.{Addr}
use Rattle.mmtel_types.specs.declared.numbers.Account.{Account}
use Rattle.mmtel_types.specs.declared.numbers.Peer.{Peer}
use Rattle.mmtel_web.specs.Uploads.{counts_put_in, stored_upload, upload_in}
use Rattle.mmtel_run_definitions.specs.Calls.{caller_of}
use Rattle.mmtel_run_definitions.specs.Events as Events
use Rattle.mmtel_run_definitions.specs.Events.{EventRecord, ParsedEvent, TimedEvent, timed_events}
use Rattle.mmtel_run_definitions.specs.InForce.{uploads_of}
use Rattle.mmtel_run_definitions.specs.Run.{after_due_deadlines, after_event_in_order, clock_at}
use Rattle.mmtel_run_definitions.specs.Transitions.{RunState, initial_state, with_next_step}
use Rattle.mmtel_run_theorems.specs.Roles.{is_opening, role_of}

-- ---- the tests of callers in a run

-- the records of these texts, and that of an account without a text
abbrev pub records_of : Texts → List Sheet
records_of texts = empty_sheet ∷ map (λ text. stored_sheet text.1) texts

-- all records of a run: those that were loaded, and those that were stored
abbrev pub records_in : Directory → (loaded : Texts) → List EventRecord → List Sheet
records_in directory loaded recorded = records_of (loaded ++ uploads_of directory.names recorded)

-- the identity parts of the rules by which a record decides about a caller
abbrev pub parts_of : Sheet → List Who
parts_of sheet = identity_parts (diversion_rules sheet.diversion) ++ identity_parts (rules_of sheet.incoming)

abbrev pub identities_tested_by : List Sheet → List Who
identities_tested_by records = flat_map parts_of records

-- ---- the tests of an INVITE that opens a call or a conference, or asks to join one, where it hides its caller

pub record Tests : Type 0 where
  -- the account of the caller
  pub caller : Option Account
  -- the caller has an identity
  pub somebody : Bool
  -- whether each of those parts is true of the caller
  pub matches : List Bool

abbrev pub tests_of : List AccountIdentity → List Who → ParsedMessage → Tests
tests_of accounts tested message = record {
  caller = caller_account accounts message;
  somebody = has_identity (caller_of message);
  matches = map (identity_holds (caller_of message)) tested;
}

-- where the caller is not hidden, the message itself shows all of this
abbrev pub tests_beside : List AccountIdentity → List Who → Role → ParsedMessage → Option Tests
tests_beside accounts tested role message = if is_opening message && hides role then Some (tests_of accounts tested message) else None

-- ---- what is compared

pub data MaskedEvent : Type 0 where
  Nothing : MaskedEvent
  Refused : (peer : Peer) → (source : Addr) → (reply : Message Start) → MaskedEvent
  -- a message without its private places, and the results of the tests
  Received : (left : MessageView) → (tests : Option Tests) → MaskedEvent
  -- the record that a web request put in force, and the mailbox whose counts it set, where that was accepted: each NOTIFY of that draws a number, which untrusted peers
  -- see in what is drawn afterwards. No other web request or reply affects what a peer sees
  WebRequested : (put : Option (Account × List ℕ)) → (waits : Option (Account × Counts)) → MaskedEvent

-- in the state in which the event comes, with these tests of callers
abbrev pub mask_event : Directory → (tested : List Who) → RunState → ParsedEvent → MaskedEvent
mask_event directory tested state Events.Nothing = Nothing
mask_event directory tested state (Events.Refused peer source reply) = Refused peer source reply
mask_event directory tested state (Events.Received message) =
    Received (without_private (role_of directory state message) message) (tests_beside directory.names.accounts tested (role_of directory state message) message.parsed)
mask_event directory tested state (Events.WebRequested request kept rows) =
    WebRequested (stored_upload kept (upload_in directory.names request)) (counts_put_in directory.names request kept)

-- the state in which an event comes: after the timers that are due by then, in a step of its own
abbrev pub state_at_event : Directory → (token : List ℕ) → (fuel : ℕ) → TimedEvent → RunState → RunState
state_at_event directory token fuel notice state =
    record (with_next_step (after_due_deadlines directory token fuel (clock_at state notice.at) state)) { clock = clock_at state notice.at }

abbrev pub mask_all : Directory → (token : List ℕ) → (fuel : ℕ) → (tested : List Who) → List TimedEvent → RunState → List (ℕ × MaskedEvent)
mask_all directory token fuel tested [] state = []
mask_all directory token fuel tested (notice ∷ others) state =
    (notice.at, mask_event directory tested (state_at_event directory token fuel notice state) notice.parsed) ∷
    mask_all directory token fuel tested others (after_event_in_order directory token fuel notice state)

-- the value by which two runs are compared: the tests of callers in the run, and its events, each with its moment
pub record Mask : Type 0 where
  pub tested : List Who
  pub events : List (ℕ × MaskedEvent)

abbrev pub mask : Directory → (token : List ℕ) → (loaded : Texts) → (fuel : ℕ) → List EventRecord → Mask
mask directory token loaded fuel recorded = record {
  tested = identities_tested_by (records_in directory loaded recorded);
  events = mask_all directory token fuel (identities_tested_by (records_in directory loaded recorded)) (timed_events directory recorded) (initial_state loaded);
}
