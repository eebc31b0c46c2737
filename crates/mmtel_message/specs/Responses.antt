-- The responses that the server makes to requests (RFC 3261 §8.2.6, §12.1.1 and §18.2.1): which of the request's lines a response has, and what is added to them.
use Rattle.std.specs.Prelude.{◌≡◌, ◌⊎◌, ◌==◌, ◌&&◌, ◌||◌, nat_le, Bool, false, ℕ, Option, Some, None, is_some, if◌then◌else◌, List, [], ◌∷◌, ◌++◌, length, map, codes, decimal}
use Rattle.std.specs.List.{list_any}
use Rattle.std.specs.Str.{str_eq_ignore_ascii_case}
use Rattle.mmtel_lex.specs.Grammar.{IsToken}
use Rattle.mmtel_lex.specs.Params.{param_value}
use Rattle.mmtel_lex.specs.Reading.{name_addr_of}
use Rattle.mmtel_lex.specs.declared.values.NameAddr.{NameAddr}
use Rattle.mmtel_lex.specs.declared.values.Param.{Param}
use Rattle.mmtel_types.specs.declared.addrs.Addr.{Addr}
use Rattle.mmtel_message.specs.Faults.{is_method}
use Rattle.mmtel_message.specs.Fields.{five_at, via_at}
use Rattle.mmtel_message.specs.Message.{Line, Message, line, has_line, first_value, lines_named}
use Rattle.mmtel_message.specs.Vias.{IsSource, completed_value, completed_via}
use Rattle.mmtel_message.specs.declared.fields.Five.{Five}
use Rattle.mmtel_message.specs.declared.fields.Via.{Via}
use Rattle.mmtel_message.specs.declared.messages.Start.{Start}
use Rattle.mmtel_message.specs.declared.messages.Start.TheVariants.{Status}

-- the parts of a response that its request does not determine
pub record Reply : Type 0 where
  pub code : ℕ
  pub phrase : List ℕ
  -- the server's tag, or no bytes
  pub tag : List ℕ
  -- the source address of the request, where it is to be written into the first Via
  pub source : Option Addr
  -- the value of Contact
  pub contact : List ℕ
  -- lines that are copied from another message, and lines that are specific to this response
  pub passed : List Line
  pub named : List Line
  pub body : List ℕ

-- ---- Via: as received, the first completed where the source is given (§18.2.1)

abbrev pub completed_line : Addr → Line → Line
completed_line source l = (l.0, completed_value source l.1)

abbrev pub completed_lines : Option Addr → List Line → List Line
completed_lines None vias = vias
completed_lines (Some source) [] = []
completed_lines (Some source) (via ∷ vias) = completed_line source via ∷ vias

unfoldable pub via_lines : Option Addr → List Line → List Line
via_lines source ls = completed_lines source (lines_named (codes "Via") ls)

-- ---- From, To, Call-ID and CSeq: as received, To with the server's tag where it has none (§8.2.6.2)

abbrev pub has_tag : Option NameAddr → Bool
has_tag None = false
has_tag (Some n) = is_some (param_value (codes "tag") n.params)

-- a From or To value with a tag after it
abbrev pub tagged_value : List ℕ → List ℕ → List ℕ
tagged_value value tag = value ++ (codes ";tag=" ++ tag)

abbrev pub to_value : List ℕ → List ℕ → List ℕ
to_value [] value = value
to_value (b ∷ tag) value = if has_tag (name_addr_of value) then value else tagged_value value (b ∷ tag)

abbrev pub to_line : List ℕ → Line → Line
to_line tag l = (l.0, to_value tag l.1)

-- a 100 has no tag of the server
abbrev pub tag_of_response : ℕ → List ℕ → List ℕ
tag_of_response code tag = if code == 100 then [] else tag

unfoldable pub party_lines : List ℕ → List Line → List Line
party_lines tag ls = lines_named (codes "From") ls ++ map (to_line tag) (lines_named (codes "To") ls)

unfoldable pub call_lines : List Line → List Line
call_lines ls = lines_named (codes "Call-ID") ls ++ lines_named (codes "CSeq") ls

-- ---- Record-Route as received, and Contact

-- a response creates a dialog: from 101 to 299 to an INVITE (§12.1.1), and the 200 of a SUBSCRIBE (RFC 6665 §4.2.1)
abbrev pub makes_dialog : ℕ → Start → Bool
makes_dialog code start = ((nat_le 101 code && nat_le code 299) && is_method (codes "INVITE") start) || (code == 200 && is_method (codes "SUBSCRIBE") start)

-- it refreshes the remote target of its dialog: the 202 of a REFER (RFC 3515 §2.2), and the success of an UPDATE (RFC 3311 §5.2)
abbrev pub refreshes_target : ℕ → Start → Bool
refreshes_target code start = (code == 202 && is_method (codes "REFER") start) || ((nat_le 200 code && nat_le code 299) && is_method (codes "UPDATE") start)

-- a response that has a Contact, which says where the server is reached
abbrev pub names_contact : ℕ → Start → Bool
names_contact code start = makes_dialog code start || refreshes_target code start

-- it has no Contact of the server
abbrev pub HasNoContact : ℕ → Start → Type 0
HasNoContact code start = names_contact code start ≡ false

unfoldable pub route_lines : ℕ → Start → List Line → List Line
route_lines code start ls = if makes_dialog code start then lines_named (codes "Record-Route") ls else []

unfoldable pub contact_lines : ℕ → Start → List ℕ → List Line
contact_lines code start contact = if names_contact code start then line (codes "Contact") contact else []

-- ---- the lines of the response's own that follow

unfoldable pub own_fields : List Line → List Line → List ℕ → List Line
own_fields passed named body = passed ++ (named ++ line (codes "Content-Length") (decimal (length body)))

-- ---- the response

-- the lines of the request, as received but for the first Via and the tag of To
unfoldable pub copied_lines : Option Addr → List ℕ → List Line → List Line
copied_lines source tag ls = via_lines source ls ++ (party_lines tag ls ++ call_lines ls)

-- what the server adds
unfoldable pub added_lines : ℕ → Start → List Line → List ℕ → List Line → List Line → List ℕ → List Line
added_lines code start ls contact passed named body = route_lines code start ls ++ (contact_lines code start contact ++ own_fields passed named body)

-- the response to a request with this start line and these lines
unfoldable pub response : Start → List Line → Reply → Message Start
response start ls r = record {
  start = Status r.code r.phrase;
  lines = copied_lines r.source (tag_of_response r.code r.tag) ls ++ added_lines r.code start ls r.contact r.passed r.named r.body;
  body = r.body;
}

-- ---- what is read of a response

-- lines none of which is From, To, Call-ID or CSeq, of which a message has one each (§8.1.1)
pub record AreOthers (ls : List Line) : Type 0 where
  pub from : has_line (codes "From") ls ≡ false
  pub to : has_line (codes "To") ls ≡ false
  pub call_id : has_line (codes "Call-ID") ls ≡ false
  pub cseq : has_line (codes "CSeq") ls ≡ false

-- no line of the name is copied from another message, and none is specific to the response
abbrev pub AddsNo : List ℕ → Reply → Type 0
AddsNo name r = (has_line name r.passed ≡ false) × (has_line name r.named ≡ false)

-- none of the lines that a response has from its request is added a second time
pub record AddsNone (r : Reply) : Type 0 where
  pub via : AddsNo (codes "Via") r
  pub passed : AreOthers r.passed
  pub named : AreOthers r.named

-- the source, where one is given, is an address that can be written
abbrev pub CanBeSent : Option Addr → Type 0
CanBeSent None = Unit {0}
CanBeSent (Some source) = IsSource source

-- a response that can be sent: its source an address, its tag a token or none, and no line of its own among those from its request
pub record IsSendable (r : Reply) : Type 0 where
  pub none : AddsNone r
  pub source : CanBeSent r.source
  pub tag : (r.tag ≡ []) ⊎ IsToken r.tag

-- lines with these five fields, of which the first Via value is the text of the first Via line, as in each message that was read
pub record AreLinesWith (five : Five) (ls : List Line) : Type 0 where
  pub five_in : five_at ls ≡ Some five
  pub via : List ℕ
  pub via_in : first_value (codes "Via") ls ≡ Some via
  pub via_read : via_at via ≡ Some five.via

abbrev pub via_of_response : Option Addr → Via → Via
via_of_response None via = via
via_of_response (Some source) via = completed_via source via

abbrev pub to_of_response : List ℕ → NameAddr → NameAddr
to_of_response [] n = n
to_of_response (b ∷ tag) n = if has_tag (Some n) then n else record n { params = n.params ++ record { name = codes "tag"; value = Some (b ∷ tag) } ∷ [] }

abbrev pub is_tag : Param → Bool
is_tag p = str_eq_ignore_ascii_case p.name (codes "tag")

-- no parameter has the name tag, with a value or without
abbrev pub IsUntagged : NameAddr → Type 0
IsUntagged n = list_any is_tag n.params ≡ false

-- the five fields of the response to a request with these
abbrev pub five_of_response : Reply → Five → Five
five_of_response r five = record five { via = via_of_response r.source five.via; to = to_of_response (tag_of_response r.code r.tag) five.to }
