-- What transactions read of a message without its private places (RFC 3261 §17.1.3, §17.2.3): whichever places are private, it is what they read of the message.
use Rattle.std.specs.Prelude.{◌≡◌, ℕ, List}
use Rattle.mmtel_message.specs.Message.{Line, Message}
use Rattle.mmtel_message.specs.declared.messages.Start.{Start}
use Rattle.mmtel_transaction.specs.Heads.{head_of}
use Rattle.mmtel_trust.specs.ParsedMessage.{ParsedMessage}
use Rattle.mmtel_trust.specs.PrivateFields.{PrivateFields, masked_lines, masked_message}
use Rattle.mmtel_trust.specs.MaskedMessages.{hide}

-- the masked message has the head of the message
abbrev pub MessagesKeepTheirHead : Type 0
MessagesKeepTheirHead = (p : PrivateFields) (m : Message Start) → head_of (masked_message p m) ≡ head_of m

-- a message of these lines
abbrev pub message_of_lines : Start → List Line → List ℕ → Message Start
message_of_lines start ls body = record { start = start; lines = ls; body = body }

-- so have lines that are masked by any places, such as those of a response in a request, and with any body
abbrev pub LinesKeepTheirHead : Type 0
LinesKeepTheirHead = (p : PrivateFields) (start : Start) (ls : List Line) (body other : List ℕ) →
    head_of (message_of_lines start (masked_lines p ls) body) ≡ head_of (message_of_lines start ls other)

-- two messages that are equal when masked, each by its own places, have the same head
abbrev pub EquivalentMessagesHaveOneHead : Type 0
EquivalentMessagesHaveOneHead = (p q : PrivateFields) (m n : Message Start) → masked_message p m ≡ masked_message q n → head_of m ≡ head_of n

-- the message that was received
abbrev pub message_of : ParsedMessage → Message Start
message_of m = message_of_lines m.start m.lines m.body

-- and so have two whose parsed forms are equal when masked
abbrev pub EquivalentParsedHaveOneHead : Type 0
EquivalentParsedHaveOneHead = (p q : PrivateFields) (m n : ParsedMessage) → hide p m ≡ hide q n → head_of (message_of m) ≡ head_of (message_of n)
