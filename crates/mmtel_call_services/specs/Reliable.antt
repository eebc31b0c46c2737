-- Which provisional responses of a target are reliable ones, and the header fields that a message has for them (RFC 3262 §3, §7).
use Rattle.std.specs.Prelude.{ℕ, ◌&&◌, ◌||◌, not, nat_le, nat_lt, ◌==◌, Bool, if◌then◌else◌, Option, None, List, [], ◌∷◌, ◌++◌, codes, decimal, length}
use Rattle.std.specs.List.{list_any}
use Rattle.std.specs.Str.{bytes_eq}
use Rattle.mmtel_base.specs.Chain.{◌>>=◌}
use Rattle.mmtel_base.specs.Numbers.{number_of}
use Rattle.mmtel_trust.specs.ParsedMessage.{unless_zero}
use Rattle.mmtel_compose.specs.ReceivedMessages.{MessageView, status_of, to_tag_of}
use Rattle.mmtel_message.specs.Message.{Line}
use Rattle.mmtel_call_services.specs.CallConfig.{CallConfigView}
use Rattle.mmtel_call_services.specs.declared.openings.Opening.{Opening}

-- the option tag 100rel is among these
abbrev pub has_100rel : List (List ℕ) → Bool
has_100rel = list_any (λ value. bytes_eq value (codes "100rel"))

-- the caller accepts reliable responses: its INVITE has 100rel in Supported or Require (§3)
abbrev pub supports_reliable : Opening → Bool
supports_reliable o = has_100rel o.invite.parsed.supported || has_100rel o.invite.parsed.required

-- a 101 to 199 that requires a PRACK, in a dialog: a response without a tag belongs to no dialog in which the PRACK could be sent (§4)
abbrev pub requires_prack : MessageView → Bool
requires_prack m =
    nat_le 101 (status_of m.parsed.start) && nat_lt (status_of m.parsed.start) 200 && has_100rel m.parsed.required && not (length (to_tag_of m) == 0)

-- the RSeq number of a reliable response; none for any other response, which is relayed without a number
abbrev pub reliable_number : CallConfigView → Opening → MessageView → Option ℕ
reliable_number config o m = if config.reliable && supports_reliable o && requires_prack m then m.parsed.rseq else None

-- ---- header fields by name, and a value

-- the number in the value of an RSeq, if it is one from 1 to 2147483647 (§7.1)
abbrev pub rseq_in : List ℕ → Option ℕ
rseq_in value = number_of 2147483647 value >>= unless_zero

-- of a response that is relayed under this number (§7.1)
abbrev pub reliable_lines : (own : ℕ) → List Line
reliable_lines own = (codes "Require", codes "100rel") ∷ (codes "RSeq", decimal own) ∷ []

-- of a PRACK for the response of this number to the INVITE with this CSeq number (§7.2)
abbrev pub rack_line : (answer cseq : ℕ) → List Line
rack_line answer cseq = (codes "RAck", decimal answer ++ 32 ∷ (decimal cseq ++ 32 ∷ codes "INVITE")) ∷ []
