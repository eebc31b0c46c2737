-- What theorems state of the messages that the server makes: what a CANCEL or an ACK copies from its INVITE (RFC 3261 §9.1, §17.1.1.3), and what a tag is read from.
use Rattle.std.specs.Prelude.{◌≡◌, codes}
use Rattle.mmtel_leg.specs.Operations.{HaveOneNumber}
use Rattle.mmtel_leg.specs.Dialogues.{request_uri}
use Rattle.mmtel_message.specs.Message.{Message, first_value, line_texts}
use Rattle.mmtel_message.specs.declared.messages.Start.{Start}

-- the second has the first one's Request-URI, Via with its branch, Route values, From, Call-ID and number
pub record CopiesInvite (invite other : Message Start) : Type 0 where
  pub uri : request_uri other.start ≡ request_uri invite.start
  pub via : first_value (codes "Via") other.lines ≡ first_value (codes "Via") invite.lines
  pub routes : line_texts (codes "Route") other.lines ≡ line_texts (codes "Route") invite.lines
  pub from : first_value (codes "From") other.lines ≡ first_value (codes "From") invite.lines
  pub call_id : first_value (codes "Call-ID") other.lines ≡ first_value (codes "Call-ID") invite.lines
  pub number : HaveOneNumber invite other
