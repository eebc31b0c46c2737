-- What is decided of a message, and which response it gets, without its private places. It is stated of two messages under two configurations.
use Rattle.std.specs.Prelude.{◌≡◌, ℕ, Bool, false, List, Option}
use Rattle.mmtel_compose.specs.ReceivedMessages.{MessageView}
use Rattle.mmtel_b2bua.specs.declared.entries.Entry.{Entry}
use Rattle.mmtel_directory.specs.declared.directories.Directory.{Directory}
use Rattle.mmtel_focus.specs.Conferences.{Conference}
use Rattle.mmtel_mwi.specs.Boxes.{Table}
use Rattle.mmtel_transaction.specs.Heads.{head_of}
use Rattle.mmtel_trust.specs.ParsedMessage.{ParsedMessage}
use Rattle.mmtel_trust.specs.Peers.{is_trusted}
use Rattle.mmtel_types.specs.declared.addrs.Addr.{Addr}
use Rattle.mmtel_types.specs.declared.numbers.Peer.{Peer}
use Rattle.mmtel_run_definitions.specs.OwnResponses.{StatusResponse, response_to}
use Rattle.mmtel_run_definitions.specs.Calls.{named_by}
use Rattle.mmtel_run_definitions.specs.Events.{message_in}
use Rattle.mmtel_run_definitions.specs.Mask.{masked_message}
use Rattle.mmtel_run_definitions.specs.Refusals.{disposition, registrant}
use Rattle.mmtel_run_definitions.specs.Ownership.{DialogOwner, participant_named_by, subscription_named_by}

-- ---- configurations

-- equal but for the URIs of accounts: the fields that are not listed here are those of the URIs
pub record EqualButForAccounts (one other : Directory) : Type 0 where
  pub sip : one.sip ≡ other.sip
  pub home : one.home ≡ other.home
  pub factory : one.factory ≡ other.factory
  pub reliable : one.reliable ≡ other.reliable
  pub timer : one.timer ≡ other.timer
  pub mwi : one.names.mwi ≡ other.names.mwi
  -- it is sent to the participants of conferences
  pub mixer : one.mixer ≡ other.mixer
  pub peers : one.peers ≡ other.peers

abbrev pub trusts : Directory → Peer → Bool
trusts directory peer = is_trusted peer directory.peers.known

-- ---- messages

-- a message that this peer sent from this address
abbrev pub message_from : Peer → Addr → ParsedMessage → MessageView
message_from peer source message = record { peer = peer; source = source; parsed = message }

-- what a run reads and builds from two messages of a peer is the same, but for texts that go to trusted peers, and of these the heads are the same
pub record EquivalentMessages (one other : Directory) (peer : Peer) (source : Addr) (message second : ParsedMessage) : Type 0 where
  pub start : message.start ≡ second.start
  pub head : head_of (message_in message) ≡ head_of (message_in second)
  pub to_tag : message.to_tag ≡ second.to_tag
  -- to which dialog they belong, and what is done with them
  pub named : (entries : List Entry) → named_by message entries ≡ named_by second entries
  pub participant_named : (live : List Conference) → participant_named_by message live ≡ participant_named_by second live
  pub subscription_named : (table : Table) → subscription_named_by message table ≡ subscription_named_by second table
  pub decided : (merged full : Bool) (named : Option DialogOwner) → disposition one merged full named message ≡ disposition other merged full named second
  -- the responses to them
  pub response_head : (tag : List ℕ) (answer : StatusResponse) →
      head_of (response_to one.sip tag (message_from peer source message) answer) ≡ head_of (response_to other.sip tag (message_from peer source second) answer)
  pub response : trusts one peer ≡ false → (tag : List ℕ) (answer : StatusResponse) →
      response_to one.sip tag (message_from peer source message) answer ≡ response_to other.sip tag (message_from peer source second) answer

-- messages that are equal without their private places are related so, where they register the same account, if any
abbrev pub EqualMasksAreEquivalent : Type 0
EqualMasksAreEquivalent = (one other : Directory) (peer : Peer) (source : Addr) (message second : ParsedMessage) → EqualButForAccounts one other →
    masked_message (trusts one peer) message ≡ masked_message (trusts one peer) second → registrant one.names.accounts message ≡ registrant other.names.accounts second →
    EquivalentMessages one other peer source message second

-- under one configuration they do register the same account: it is read from what is never private
abbrev pub MasksNameTheRegistrant : Type 0
MasksNameTheRegistrant = (directory : Directory) (trusted : Bool) (message second : ParsedMessage) →
    masked_message trusted message ≡ masked_message trusted second → registrant directory.names.accounts message ≡ registrant directory.names.accounts second
