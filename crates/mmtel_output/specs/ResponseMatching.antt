-- Which request of the server a response answers, by the branch after its cookie (RFC 3261 §8.1.1.7, §17.1.3): among those whose response is waited for, above all its INVITEs.
use Rattle.std.specs.Prelude.{ℕ, Bool, false, ◌||◌, if◌then◌else◌, Option, Some, None, List, [], ◌∷◌, codes}
use Rattle.std.specs.Str.{bytes_eq}
use Rattle.mmtel_base.specs.Chain.{◌>>=◌}
use Rattle.mmtel_base.specs.Scanning.{after_text}
use Rattle.mmtel_compose.specs.ReceivedMessages.{MessageView}
use Rattle.mmtel_lex.specs.Params.{param_value}
use Rattle.mmtel_message.specs.Fields.{cseq_at, via_at}
use Rattle.mmtel_message.specs.declared.fields.CSeq.{CSeq}
use Rattle.mmtel_message.specs.declared.fields.Via.{Via}

-- what follows the cookie of a branch (§8.1.1.7)
abbrev pub behind_cookie : List ℕ → Option (List ℕ)
behind_cookie branch = after_text (codes "z9hG4bK") branch

abbrev pub first_via : List (List ℕ) → Option Via
first_via [] = None
first_via (value ∷ values) = via_at value

abbrev pub via_branch : Via → Option (List ℕ)
via_branch via = param_value (codes "branch") via.params

-- a call waits for the response to an INVITE (§13), and for that to a PRACK (RFC 3262 §4) or an UPDATE (RFC 3311 §5.1) that it relays
abbrev pub is_awaited_method : List ℕ → Bool
is_awaited_method method = (bytes_eq method (codes "INVITE") || bytes_eq method (codes "PRACK")) || bytes_eq method (codes "UPDATE")

abbrev pub is_awaited_cseq : Option CSeq → Bool
is_awaited_cseq None = false
is_awaited_cseq (Some cseq) = is_awaited_method cseq.method

abbrev pub behind : Option (List ℕ) → Option (List ℕ)
behind branch = branch >>= behind_cookie

-- of the first Via, whole and after its cookie, and of a CSeq
abbrev pub first_branch_in : List (List ℕ) → Option (List ℕ)
first_branch_in vias = first_via vias >>= via_branch

abbrev pub branch_in : List (List ℕ) → Option (List ℕ)
branch_in vias = behind (first_branch_in vias)

abbrev pub is_awaited_response : Option (List ℕ) → Bool
is_awaited_response cseq = is_awaited_cseq (cseq >>= cseq_at)

-- the branch of the INVITE, PRACK or UPDATE that it answers; none where it answers another request
unfoldable pub awaited_request_branch : MessageView → Option (List ℕ)
awaited_request_branch m = if is_awaited_response m.parsed.cseq then branch_in m.parsed.vias else None

-- that of the one that timed out
abbrev pub timed_out_branch : (branch method : List ℕ) → Option (List ℕ)
timed_out_branch branch method = if is_awaited_method method then behind_cookie branch else None
