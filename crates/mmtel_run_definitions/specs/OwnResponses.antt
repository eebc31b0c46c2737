-- The responses that the server makes of its own (RFC 3261 §8.2, §8.2.6, §20.5, §20.40).
use Rattle.std.specs.Prelude.{ℕ, ◌+◌, Bool, not, ◌&&◌, ◌||◌, if◌then◌else◌, List, [], ◌∷◌, map, filter, codes, Option, Some, is_none}
use Rattle.std.specs.Str.{bytes_eq}
use Rattle.mmtel_compose.specs.Responses.{allow_lines, own_response}
use Rattle.mmtel_compose.specs.ReceivedMessages.{MessageView, phrase_in, status_of}
use Rattle.mmtel_compose.specs.declared.responses.FurtherMethods.{FurtherMethods}
use Rattle.mmtel_directory.specs.declared.directories.Directory.{Directory}
use Rattle.mmtel_message.specs.Addresses.{contact_text}
use Rattle.mmtel_message.specs.Message.{Line, Message, first_value}
use Rattle.mmtel_message.specs.Responses.{response}
use Rattle.mmtel_message.specs.declared.messages.Start.{Start}
use Rattle.mmtel_base.specs.Numbers.{token_text}
use Rattle.mmtel_trust.specs.ParsedMessage.{ParsedMessage, tag_of}
use Rattle.mmtel_types.specs.declared.addrs.Addr.{Addr}

-- ---- status and header fields

-- a status, and the header fields that this response has of its own
pub record StatusResponse : Type 0 where
  pub code : ℕ
  pub lines : List Line

abbrev pub plain_response : ℕ → StatusResponse
plain_response code = record { code = code; lines = [] }

-- the methods that the server knows in addition to those that it always knows
abbrev pub further_methods : Directory → FurtherMethods
further_methods directory = record { reliable = directory.reliable; mwi = directory.names.mwi }

-- with the methods that the server knows, in Allow (§20.5)
abbrev pub response_with_allow : Directory → ℕ → StatusResponse
response_with_allow directory code = record { code = code; lines = allow_lines (further_methods directory) }

-- the options that a request requires and the server does not support, in received order (§8.2.2.3); it supports `histinfo` of RFC 7044, and where they are switched on `100rel`
-- of RFC 3262 and `timer` of RFC 4028
abbrev pub is_supported : Directory → List ℕ → Bool
is_supported directory option =
    bytes_eq option (codes "histinfo") || ((directory.reliable && bytes_eq option (codes "100rel")) || (directory.timer && bytes_eq option (codes "timer")))

abbrev pub is_unsupported : Directory → List ℕ → Bool
is_unsupported directory option = not (is_supported directory option)

abbrev pub unsupported_options : Directory → ParsedMessage → List (List ℕ)
unsupported_options directory message = filter (λ option. is_unsupported directory option) message.required

abbrev pub unsupported_line : List ℕ → Line
unsupported_line option = (codes "Unsupported", option)

-- 420, with an Unsupported header field for each of them (§20.40)
abbrev pub bad_extension : Directory → ParsedMessage → StatusResponse
bad_extension directory message = record { code = 420; lines = map unsupported_line (unsupported_options directory message) }

-- 422, with the minimum session interval (RFC 4028 §6)
abbrev pub interval_too_small : StatusResponse
interval_too_small = record { code = 422; lines = (codes "Min-SE", codes "90") ∷ [] }

-- ---- the tag

-- how many numbers a response to a request draws: one for the tag of a To that has none (§8.2.6.2)
abbrev pub tags_due : Option (List ℕ) → ℕ
tags_due to_tag = if is_none to_tag then 1 else 0

-- that tag, where so many numbers were drawn before; no bytes where none is due
abbrev pub tag_for : (token : List ℕ) → (drawn : ℕ) → Option (List ℕ) → List ℕ
tag_for token drawn to_tag = if is_none to_tag then token_text token (drawn + 1) else []

-- ---- the response

-- to a received request
abbrev pub response_to : (sip : Addr) → (tag : List ℕ) → MessageView → StatusResponse → Message Start
response_to sip tag message answer = own_response (contact_text sip) message tag answer.code [] answer.lines []

-- the tag of To in these header fields
abbrev pub to_tag_in : List Line → Option (List ℕ)
to_tag_in lines = tag_of (first_value (codes "To") lines)

-- the reply to bytes that were refused as they were read, completed for the peer that they came from (§8.2.6.2, §18.2.1)
abbrev pub completed_reply : (tag : List ℕ) → (source : Addr) → Message Start → Message Start
completed_reply tag source reply = response reply.start reply.lines (record {
  code = status_of reply.start;
  phrase = phrase_in reply.start;
  tag = tag;
  source = Some source;
  contact = [];
  passed = [];
  named = [];
  body = [];
})
