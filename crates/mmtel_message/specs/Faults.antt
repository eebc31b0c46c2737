-- What is wrong with a message whose five fields can be read, line by line (RFC 3261 §8.1.1, §8.2 and §20; RFC 3323 Privacy, RFC 3325 P-Asserted-Identity, RFC 3515
-- Refer-To, RFC 5502 P-Served-User, RFC 7044 History-Info).
use Rattle.std.specs.Prelude.{Option, Some, None, is_none, is_some, ◌==◌, ◌&&◌, ◌||◌, not, if◌then◌else◌, ℕ, ◌+◌, ◌-◌, Bool, true, false, List, [], ◌∷◌, ◌++◌, length, codes}
use Rattle.std.specs.Prelude.{nat_lt, Result, Ok, Err}
use Rattle.std.specs.List.{list_all}
use Rattle.std.specs.Str.{bytes_eq}
use Rattle.mmtel_base.specs.Classes.{in_class}
use Rattle.mmtel_base.specs.Numbers.{number_of}
use Rattle.mmtel_base.specs.Scanning.{after_text}
use Rattle.mmtel_base.specs.declared.classes.Class.TheVariants.{Token}
use Rattle.mmtel_lex.specs.Reading.{name_addr_of, uri_of, Refusal, malformed, foreign}
use Rattle.mmtel_lex.specs.declared.values.Uri.{Uri}
use Rattle.mmtel_lex.specs.declared.values.NameAddr.{NameAddr}
use Rattle.mmtel_message.specs.Message.{is_line, has_line, values_named}
use Rattle.mmtel_message.specs.Values.{values_of, values_in}
use Rattle.mmtel_lex.specs.Params.{param_value}
use Rattle.mmtel_message.specs.Entries.{are_entries}
use Rattle.mmtel_message.specs.declared.values.Mode.TheVariants.{Plain, Words}
use Rattle.mmtel_message.specs.declared.fields.Five.{Five}
use Rattle.mmtel_message.specs.declared.messages.Start.{Start}
use Rattle.mmtel_message.specs.declared.messages.Start.TheVariants.{Request, Status}

-- a request of this method
abbrev pub is_method : List ℕ → Start → Bool
is_method name (Request method uri) = bytes_eq method name
is_method name (Status code phrase) = false

abbrev pub is_request : Start → Bool
is_request (Request method uri) = true
is_request (Status code phrase) = false

abbrev pub is_malformed : Result Uri Refusal → Bool
is_malformed (Ok u) = false
is_malformed (Err malformed) = true
is_malformed (Err foreign) = false

-- the Request-URI is malformed
abbrev pub start_fault : Start → Bool
start_fault (Request method uri) = is_malformed (uri_of uri)
start_fault (Status code phrase) = false

-- the value can be read as a name-addr
abbrev pub is_readable : List ℕ → Bool
is_readable v = is_some (name_addr_of v)

abbrev pub are_readable : List (List ℕ) → Bool
are_readable vs = list_all is_readable vs

-- one value, which can be read
abbrev pub is_one_readable : List (List ℕ) → Bool
is_one_readable vs = length vs == 1 && are_readable vs

-- the branch of a request that follows RFC 3261 (§8.1.1.7)
abbrev pub has_cookie : Option (List ℕ) → Bool
has_cookie None = false
has_cookie (Some v) = is_some (after_text (codes "z9hG4bK") v)

abbrev pub is_case : Option (List ℕ) → Bool
is_case None = false
is_case (Some v) = bytes_eq v (codes "orig") || bytes_eq v (codes "term")

-- a session case that is originating or terminating
abbrev pub has_case : Option NameAddr → Bool
has_case None = false
has_case (Some n) = is_case (param_value (codes "sescase") n.params)

-- how many more a limit allows after these; None where these exceed it
abbrev pub remaining_after : ℕ → ℕ → Option ℕ
remaining_after room n = if nat_lt room n then None else Some (room - n)

-- a word of Privacy is a token
abbrev pub is_word : List ℕ → Bool
is_word v = not (length v == 0) && list_all (in_class Token) v

abbrev pub are_words : List (List ℕ) → Bool
are_words vs = list_all is_word vs

-- ---- the table: a row has a name, and whether a line of that name and this value has a fault after the lines before it; the room is the number of bytes after the head

abbrev pub FaultTable : Type 0
FaultTable = List (List ℕ × Bool)

-- fields of RFC 3261
abbrev pub message_fault_table : Start → Five → ℕ → List (List ℕ × List ℕ) → List ℕ → FaultTable
message_fault_table start five room before value =
    (codes "CSeq", is_request start && not (is_method five.cseq.method start)) ∷
    (codes "Max-Forwards", is_request start && (has_line (codes "Max-Forwards") before || is_none (number_of 255 value))) ∷
    (codes "Content-Length", has_line (codes "Content-Length") before || is_none (number_of room value)) ∷
    (codes "From", is_request start && is_none (param_value (codes "tag") five.from.params)) ∷
    (codes "Via", is_request start && not (has_line (codes "Via") before) && not (has_cookie (param_value (codes "branch") five.via.params))) ∷
    (codes "Contact", is_method (codes "INVITE") start && (has_line (codes "Contact") before || not (is_one_readable (values_of value)))) ∷
    (codes "Route", not (are_readable (values_of value))) ∷
    (codes "Record-Route", not (are_readable (values_of value))) ∷ []

-- fields of the extensions; of History-Info there are at most 32 values, including those before
abbrev pub extension_fault_table : List (List ℕ × List ℕ) → List ℕ → FaultTable
extension_fault_table before value =
    (codes "P-Asserted-Identity", not (are_readable (values_of value))) ∷
    (codes "P-Served-User", not (has_case (name_addr_of value))) ∷
    (codes "History-Info", not (are_entries (values_of value)) || nat_lt 32 (length (values_named Plain (codes "History-Info") before) + length (values_of value))) ∷
    (codes "Refer-To", not (is_readable value)) ∷
    (codes "Privacy", not (are_words (values_in Words value))) ∷ []

-- what the row of its name says of a line; a line of a name that has no row has no fault
abbrev pub is_fault_by_name : FaultTable → List ℕ × List ℕ → Bool
is_fault_by_name [] h = false
is_fault_by_name (row ∷ rows) h = if is_line row.0 h then row.1 else is_fault_by_name rows h

-- a line that follows those before it has a fault: it has no name, or its row says so
abbrev pub line_fault : Start → Five → ℕ → List (List ℕ × List ℕ) → List ℕ × List ℕ → Bool
line_fault start five room before h =
    if length h.0 == 0 then true else is_fault_by_name (message_fault_table start five room before h.1 ++ extension_fault_table before h.1) h

-- ---- the place of the first fault: 0 for the start line, header lines from 1, and the empty line for an absent field

-- the place of the first line with a fault, after those before
unfoldable pub fault_from : Start → Five → ℕ → List (List ℕ × List ℕ) → List (List ℕ × List ℕ) → Option ℕ
fault_from start five room before [] = None
fault_from start five room before (h ∷ hs) = if line_fault start five room before h then Some (length before + 1) else fault_from start five room (before ++ h ∷ []) hs

-- an INVITE without Contact
abbrev pub or_absent : Start → List (List ℕ × List ℕ) → Option ℕ → Option ℕ
or_absent start hs (Some at) = Some at
or_absent start hs None = if is_method (codes "INVITE") start && not (has_line (codes "Contact") hs) then Some (length hs + 1) else None

abbrev pub first_fault : Start → Five → ℕ → List (List ℕ × List ℕ) → Option ℕ
first_fault start five room hs = if start_fault start then Some 0 else or_absent start hs (fault_from start five room [] hs)
