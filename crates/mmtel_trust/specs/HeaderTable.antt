-- The lines of a message that are passed on where it is relayed: the header table of the server (RFC 3325 §5 and §7, RFC 3323 §5.1, RFC 7044 §7, RFC 3262 §3, RFC 4028
-- §4 and §5), and the From of a message that the server makes of it (RFC 3323 §4.1.1.3).
use Rattle.std.specs.Prelude.{Option, Some, None, ℕ, Bool, true, false, not, List, [], ◌∷◌, ◌++◌, codes, if◌then◌else◌, ◌&&◌, ◌||◌, ◌==◌, filter, map}
use Rattle.std.specs.Str.{bytes_eq}
use Rattle.mmtel_identity.specs.TrustDomain.{shows_identity, unless_restricted}
use Rattle.mmtel_lex.specs.Grammar.{name_addr_text}
use Rattle.mmtel_lex.specs.Reading.{name_addr_of}
use Rattle.mmtel_lex.specs.declared.values.NameAddr.{NameAddr}
use Rattle.mmtel_message.specs.Message.{Line, first_value, lines_named}
use Rattle.mmtel_message.specs.declared.messages.Start.{Start}
use Rattle.mmtel_message.specs.declared.messages.Start.TheVariants.{Request, Status}
use Rattle.mmtel_history.specs.HistoryInfo.{anonymous, entry_text, masked_list}
use Rattle.mmtel_history.specs.declared.entries.Entry.{Entry}
use Rattle.mmtel_trust.specs.Kinds.{kind_of}
use Rattle.mmtel_trust.specs.Privacy.{restricted_text}
use Rattle.mmtel_trust.specs.declared.header_table.Facing.{Facing}
use Rattle.mmtel_trust.specs.declared.kinds.HeaderKind.{HeaderKind}
use Rattle.mmtel_trust.specs.declared.kinds.HeaderKind.TheVariants.{From, To, Contact, Asserted, Served, Privacy, History, Options, Session, Passed, Personal, Trusted, Other}

-- the identities that a trusted peer asserts, to whom they may be shown
abbrev pub asserted_lines : Facing → Bool → List Line → List Line
asserted_lines f to_trusted ls = if shows_identity f.from_trusted f.present to_trusted f.restricted then lines_named (codes "P-Asserted-Identity") ls else []

-- Privacy, for trusted peers
abbrev pub privacy_lines : Facing → Bool → List Line → List Line
privacy_lines f to_trusted ls = if not to_trusted then [] else if f.restricted then (codes "Privacy", restricted_text ls) ∷ [] else lines_named (codes "Privacy") ls

-- an option that is passed where it is supported or required: History-Info always, reliable provisional responses and session timers where these are served
abbrev pub passes_option : Facing → List ℕ → Bool
passes_option f v = bytes_eq v (codes "histinfo") || (f.reliable && bytes_eq v (codes "100rel")) || (f.timer && bytes_eq v (codes "timer"))

-- whether a line of the kind, with this value, is among the other lines that are passed
abbrev pub passes : Facing → Bool → HeaderKind → List ℕ → Bool
passes f to_trusted From v = false
passes f to_trusted To v = false
passes f to_trusted Contact v = false
passes f to_trusted Asserted v = false
passes f to_trusted Served v = false
passes f to_trusted Privacy v = false
passes f to_trusted History v = false
passes f to_trusted Options v = passes_option f v
passes f to_trusted Session v = f.timer
passes f to_trusted Passed v = true
passes f to_trusted Personal v = not f.restricted
passes f to_trusted Trusted v = f.from_trusted && to_trusted
passes f to_trusted Other v = false

unfoldable pub is_shown : Facing → Bool → Line → Bool
is_shown f to_trusted l = passes f to_trusted (kind_of l.0) l.1

abbrev pub other_lines : Facing → Bool → List Line → List Line
other_lines f to_trusted ls = filter (is_shown f to_trusted) ls

-- the passed lines, where these are the lines of the call's History-Info: the asserted identities, Privacy, History-Info, and then the others in received order
abbrev pub passed_lines : Facing → Bool → List Line → List Line → List Line
passed_lines f to_trusted history ls = asserted_lines f to_trusted ls ++ (privacy_lines f to_trusted ls ++ (history ++ other_lines f to_trusted ls))

-- ---- History-Info

-- a line of History-Info, with an entry as it is written (RFC 7044 §5)
abbrev pub history_line : Entry → Line
history_line e = (codes "History-Info", entry_text e)

-- the lines of a call's list: towards a trusted peer as it is, and masked towards any other, the hidden entries or all (RFC 7044 §10.1)
abbrev pub history_lines : Bool → Bool → List Entry → List Line
history_lines mask_all to_trusted h = map history_line (if to_trusted then h else masked_list mask_all h)

-- the messages that carry the list: INVITE and 181, and no other
abbrev pub carries_history : Start → Bool
carries_history (Request method uri) = bytes_eq method (codes "INVITE")
carries_history (Status code phrase) = code == 181

abbrev pub carried_history : Facing → Bool → List Entry → Start → List Line
carried_history f to_trusted h start = if carries_history start then history_lines f.mask_all to_trusted h else []

-- the passed lines of a message of a call with this list: by its start line, and of its lines
abbrev pub shown_lines : Facing → Bool → List Entry → Start → List Line → List Line
shown_lines f to_trusted h start ls = passed_lines f to_trusted (carried_history f to_trusted h start) ls

-- ---- From

-- the anonymous party: display name and URI (RFC 3323 §4.1.1.3)
abbrev pub anonymous_party : NameAddr
anonymous_party = record { display = codes "\"Anonymous\""; uri = anonymous; params = [] }

-- the display name and the URI of a name-addr, without the parameters after them
abbrev pub display_and_uri : NameAddr → List ℕ
display_and_uri n = name_addr_text (record n { params = [] })

-- the display name and the URI of a name-addr, or of the anonymous party
abbrev pub named_text : Option NameAddr → List ℕ
named_text None = name_addr_text anonymous_party
named_text (Some n) = display_and_uri n

abbrev pub name_addr_in : Option (List ℕ) → Option NameAddr
name_addr_in None = None
name_addr_in (Some v) = name_addr_of v

-- From of an attempt: anonymous where the call is restricted, else the display name and the URI as received; and the tag
abbrev pub attempt_from : Bool → List ℕ → List Line → List ℕ
attempt_from restricted tag ls = named_text (unless_restricted restricted (name_addr_in (first_value (codes "From") ls))) ++ (codes ";tag=" ++ tag)
