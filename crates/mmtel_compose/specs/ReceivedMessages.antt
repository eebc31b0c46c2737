-- A received message: what was read of it, the peer from which it came, and the address of that peer. Whatever reads no lines of it, no entry of its History-Info and not the
-- target to which it redirects sees nothing of what is private.
use Rattle.std.specs.Prelude.{ℕ, Bool, List, [], Option}
use Rattle.std.specs.Option.{unwrap_or}
use Rattle.mmtel_base.specs.Chain.{◌>>=◌}
use Rattle.mmtel_leg.specs.Dialogues.{number_at}
use Rattle.mmtel_message.specs.Message.{Message}
use Rattle.mmtel_message.specs.declared.messages.Start.{Start}
use Rattle.mmtel_message.specs.declared.messages.Start.TheVariants.{Request, Status}
use Rattle.mmtel_trust.specs.ParsedMessage.{ParsedMessage, parsed_message}
use Rattle.mmtel_types.specs.declared.addrs.Addr.{Addr}
use Rattle.mmtel_types.specs.declared.numbers.Peer.{Peer}

pub record MessageView : Type 0 where
  -- the peer from which it was received, and the address of that peer
  pub peer : Peer
  pub source : Addr
  -- what was read of it
  pub parsed : ParsedMessage

-- what a peer sent, which is trusted or not
abbrev pub message_view : Peer → Addr → Bool → Message Start → MessageView
message_view peer source trusted m = record { peer = peer; source = source; parsed = parsed_message trusted m }

-- the status of a response (RFC 3261 §7.2); 0 of a request
abbrev pub status_of : Start → ℕ
status_of (Request method uri) = 0
status_of (Status code phrase) = code

-- its phrase; no bytes of a request
abbrev pub phrase_in : Start → List ℕ
phrase_in (Request method uri) = []
phrase_in (Status code phrase) = phrase

-- the number of its CSeq, where that can be read (§20.16)
abbrev pub number_of : MessageView → Option ℕ
number_of m = m.parsed.cseq >>= number_at

-- the tag of its To, which a response has; no bytes where there is none (§19.3)
abbrev pub to_tag_of : MessageView → List ℕ
to_tag_of m = unwrap_or m.parsed.to_tag []
