-- The reply to a request that is refused when it is read (RFC 3261 §8.2.6): its Via lines, From, To, Call-ID and CSeq as received.
use Rattle.std.specs.Prelude.{Option, Some, None, if◌then◌else◌, ℕ, Bool, false, List, [], codes}
use Rattle.mmtel_message.specs.Message.{Line, Message}
use Rattle.mmtel_message.specs.Expansion.{expanded_lines}
use Rattle.mmtel_message.specs.Faults.{is_method, is_request}
use Rattle.mmtel_message.specs.Responses.{Reply, response}
use Rattle.mmtel_message.specs.declared.messages.Start.{Start}
use Rattle.mmtel_message.specs.declared.messages.Start.TheVariants.{Status}

-- a status and its reason phrase, and nothing else
abbrev pub bare_reply : ℕ → List ℕ → Reply
bare_reply code phrase = record { code = code; phrase = phrase; tag = []; source = None; contact = []; passed = []; named = []; body = [] }

-- the response of this status to lines alone, which creates no dialog
unfoldable pub reply_with : ℕ → List ℕ → List Line → Message Start
reply_with code phrase ls = response (Status code phrase) ls (bare_reply code phrase)

-- a request other than ACK has a reply
abbrev pub is_answerable : Start → Bool
is_answerable start = if is_method (codes "ACK") start then false else is_request start

unfoldable pub reply_to : Start → ℕ → List ℕ → List Line → Option (Message Start)
reply_to start code phrase hs = if is_answerable start then Some (reply_with code phrase (expanded_lines hs)) else None
