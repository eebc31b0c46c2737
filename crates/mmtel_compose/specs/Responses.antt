-- The responses of the server to what it received: those of its own (RFC 3261 §8.2.6), and those that it relays from the other side of a call (§16.7). The first Via has the
-- source of the request (§18.2.1).
use Rattle.std.specs.Prelude.{ℕ, Bool, true, false, Some, List, [], ◌∷◌, codes}
use Rattle.mmtel_message.specs.Message.{Line, Message}
use Rattle.mmtel_message.specs.Phrases.{phrase_of}
use Rattle.mmtel_message.specs.Responses.{Reply, response}
use Rattle.mmtel_message.specs.declared.messages.Start.{Start}
use Rattle.mmtel_trust.specs.ParsedMessage.{ParsedMessage}
use Rattle.mmtel_types.specs.declared.addrs.Addr.{Addr}
use Rattle.mmtel_compose.specs.ReceivedMessages.{MessageView, phrase_in, status_of}
use Rattle.mmtel_compose.specs.declared.responses.FurtherMethods.{FurtherMethods}

-- the content of a response of the server's own, with this Contact where one is due: its tag in the dialog, the lines of History-Info that a 181 passes, the lines that are added
-- for the status, and the body
abbrev pub own_reply : (contact : List ℕ) → Addr → (tag : List ℕ) → (code : ℕ) → (passed named : List Line) → (body : List ℕ) → Reply
own_reply contact source tag code passed named body =
    record { code = code; phrase = phrase_of code; tag = tag; source = Some source; contact = contact; passed = passed; named = named; body = body }

-- the content of a relayed response: status, phrase and body of the received one, and these lines of it
abbrev pub relayed_reply : (contact : List ℕ) → Addr → (tag : List ℕ) → (passed : List Line) → ParsedMessage → Reply
relayed_reply contact source tag passed m =
    record { code = status_of m.start; phrase = phrase_in m.start; tag = tag; source = Some source; contact = contact; passed = passed; named = []; body = m.body }

-- the response to a received request
abbrev pub response_to : MessageView → Reply → Message Start
response_to m r = response m.parsed.start m.parsed.lines r

abbrev pub own_response : (contact : List ℕ) → MessageView → (tag : List ℕ) → (code : ℕ) → (passed named : List Line) → (body : List ℕ) → Message Start
own_response contact m tag code passed named body = response_to m (own_reply contact m.source tag code passed named body)

abbrev pub relayed_response : (contact : List ℕ) → MessageView → (tag : List ℕ) → (passed : List Line) → MessageView → Message Start
relayed_response contact m tag passed r = response_to m (relayed_reply contact m.source tag passed r.parsed)

-- ---- added lines

-- when a request may be sent again, in seconds (§14.2, §20.33)
abbrev pub retry_after_lines : List Line
retry_after_lines = (codes "Retry-After", codes "5") ∷ []

-- none beside the methods that the server always supports
abbrev pub no_further_methods : FurtherMethods
no_further_methods = record { reliable = false; mwi = false }

-- the methods that the server supports (§20.5)
abbrev pub method_names : (reliable mwi : Bool) → List ℕ
method_names false false = codes "INVITE, ACK, CANCEL, BYE, OPTIONS, REGISTER, REFER"
method_names true false = codes "INVITE, ACK, CANCEL, BYE, OPTIONS, REGISTER, REFER, PRACK, UPDATE"
method_names false true = codes "INVITE, ACK, CANCEL, BYE, OPTIONS, REGISTER, REFER, SUBSCRIBE"
method_names true true = codes "INVITE, ACK, CANCEL, BYE, OPTIONS, REGISTER, REFER, PRACK, UPDATE, SUBSCRIBE"

abbrev pub allow_lines : FurtherMethods → List Line
allow_lines methods = (codes "Allow", method_names methods.reliable methods.mwi) ∷ []
