-- A message with all kinds of lines: what remains of it without its private places, and what it shows to a trusted and to an untrusted peer.
use Rattle.std.proofs.Common.{◌≡◌, ◌==◌, ℕ, List, [], ◌∷◌, refl, Bool, true, false, ◌||◌, codes, Option, Some, None}
use Rattle.std.specs.Fmt as Fmt
use Rattle.mmtel_base.specs.Classes as Classes
use Rattle.mmtel_base.specs.Numbers as Numbers
use Rattle.mmtel_base.specs.Scanning as Scanning
use Rattle.mmtel_lex.specs.Reading as Reading
use Rattle.mmtel_lex.specs.SameIdentity as SameIdentity
use Rattle.mmtel_lex.specs.declared.values.Uri.TheVariants.{Sip}
use Rattle.mmtel_message.specs.Message.{Line, Message}
use Rattle.mmtel_message.specs.Entries as Entries
use Rattle.mmtel_message.specs.Values as Values
use Rattle.mmtel_message.specs.declared.messages.Start.{Start}
use Rattle.mmtel_message.specs.declared.messages.Start.TheVariants.{Request, Status}
use Rattle.mmtel_lex.specs.UriParts as UriPlaces
use Rattle.mmtel_history.specs.EntryUri as EntryUri
use Rattle.mmtel_history.specs.HistoryInfo as History
use Rattle.mmtel_history.specs.declared.entries.Entry.{Entry}
use Rattle.mmtel_history.specs.MaskedValues.{is_marked_value, masked_value_text}
use Rattle.mmtel_types.specs.declared.numbers.Account.{Account}
use Rattle.mmtel_types.specs.declared.privacy.PrivacySet.{PrivacySet}
use Rattle.mmtel_trust.specs.ParsedMessage.{NoCase, Originating, ParsedMessage, ServedUser, Terminating, parsed_message}
use Rattle.mmtel_trust.specs.MaskedMessages.{CallerFacts, Restriction, hide, mask}
use Rattle.mmtel_trust.specs.declared.accounts.AccountIdentity.{AccountIdentity}
use Rattle.mmtel_trust.specs.Kinds.{kind_of}
use Rattle.mmtel_trust.specs.HeaderTable.{passed_lines, is_shown}
use Rattle.mmtel_trust.specs.declared.header_table.Facing.{Facing}
use Rattle.mmtel_trust.specs.PrivateFields.{MarkedEntries, PrivateFields, private_in_callee_responses, private_in_caller_responses, only_entries}
use Rattle.mmtel_trust.specs.PrivateFields.{private_in_opening, masked_lines, masked_line, hidden_name_addr, hidden_value, served_value}

abbrev lines : List Line
lines =
    (codes "Via", codes "SIP/2.0/UDP 10.0.0.1;branch=z9hG4bK1") ∷
    (codes "From", codes "\"Bob\" <sip:bob@home>;tag=7") ∷
    (codes "To", codes "<sip:alice@home>") ∷
    (codes "P-Asserted-Identity", codes "<sip:bob@home>") ∷
    (codes "Privacy", codes "none;user") ∷
    (codes "subject", codes "me") ∷
    (codes "Supported", codes "histinfo") ∷
    (codes "Supported", codes "timer") ∷
    (codes "Accept", codes "application/sdp") ∷
    (codes "P-Early-Media", codes "supported") ∷
    (codes "X-Other", codes "1") ∷ []

worked_mask : masked_lines private_in_opening lines ≡
    (codes "Via", codes "SIP/2.0/UDP 10.0.0.1;branch=z9hG4bK1") ∷
    (codes "From", codes "<sip:anonymous@anonymous.invalid>;tag=7") ∷
    (codes "To", codes "<sip:alice@home>") ∷
    (codes "Privacy", codes "none;user") ∷
    (codes "Supported", codes "histinfo") ∷
    (codes "Supported", codes "timer") ∷
    (codes "Accept", codes "application/sdp") ∷
    (codes "P-Early-Media", codes "supported") ∷
    (codes "X-Other", codes "1") ∷ []
unfolding Scanning.closing_quote_from masked_line kind_of hidden_name_addr hidden_value served_value Reading.name_addr_of Reading.words_of Reading.quoted_of Reading.angle_of
    Reading.bare_of Reading.all_params_at Reading.params_at Reading.param_at Reading.token_at Reading.value_at Reading.text_at Classes.in_class Scanning.leading_run Scanning.after_run
    Scanning.without_trailing Scanning.split_once_at
worked_mask = refl

worked_untrusted : passed_lines (record { from_trusted = true; restricted = true; present = true; mask_all = false; reliable = false; timer = false }) false [] lines ≡
    (codes "Supported", codes "histinfo") ∷
    (codes "Accept", codes "application/sdp") ∷ []
unfolding is_shown kind_of
worked_untrusted = refl

worked_trusted : passed_lines (record { from_trusted = true; restricted = true; present = true; mask_all = false; reliable = false; timer = false }) true [] lines ≡
    (codes "P-Asserted-Identity", codes "<sip:bob@home>") ∷
    (codes "Privacy", codes "user;id") ∷
    (codes "Supported", codes "histinfo") ∷
    (codes "Accept", codes "application/sdp") ∷
    (codes "P-Early-Media", codes "supported") ∷ []
unfolding is_shown kind_of Values.parts Scanning.without_trailing Scanning.after_run Classes.in_class
worked_trusted = refl

-- an unrestricted message of a peer that is not trusted shows no identity that it asserts
worked_disbelieved : passed_lines (record { from_trusted = false; restricted = false; present = true; mask_all = false; reliable = false; timer = false }) true [] lines ≡
    (codes "Privacy", codes "none;user") ∷
    (codes "subject", codes "me") ∷
    (codes "Supported", codes "histinfo") ∷
    (codes "Accept", codes "application/sdp") ∷ []
unfolding is_shown kind_of
worked_disbelieved = refl

-- what belongs to reliable provisional responses and to session timers: passed where these are served
abbrev of_extensions : List Line
of_extensions =
    (codes "Require", codes "100rel") ∷
    (codes "Supported", codes "timer") ∷
    (codes "Supported", codes "precondition") ∷
    (codes "Session-Expires", codes "90") ∷
    (codes "min-se", codes "90") ∷ []

abbrev served : Bool → Bool → Facing
served reliable timer = record { from_trusted = true; restricted = false; present = true; mask_all = false; reliable = reliable; timer = timer }

record OfPassedOptions : Type 0 where
  neither : passed_lines (served false false) true [] of_extensions ≡ []
  reliable : passed_lines (served true false) false [] of_extensions ≡ (codes "Require", codes "100rel") ∷ []
  timer : passed_lines (served false true) false [] of_extensions ≡
      (codes "Supported", codes "timer") ∷
      (codes "Session-Expires", codes "90") ∷
      (codes "min-se", codes "90") ∷ []

worked_options : OfPassedOptions
unfolding is_shown kind_of
worked_options = record { neither = refl; reliable = refl; timer = refl }

-- ---- whose record restricts, and entries of History-Info

-- an account whose record restricts it permanently, and the restriction by it or by a word of Privacy
abbrev alice : Account
alice = record { 0 = 1 }

abbrev accounts : List AccountIdentity
accounts = record { account = alice; uri = Sip (Some (codes "a")) (codes "h") None [] [] } ∷ []

abbrev is_permanent : Option Account → Bool
is_permanent None = false
is_permanent (Some a) = a.0 == 1

abbrev restricts : Restriction
restricts wants account = wants.id || is_permanent account

-- an INVITE of hers to Bob, with these additional lines
abbrev invite : List Line → Message Start
invite more = record {
  start = Request (codes "INVITE") (codes "sip:bob@far.example");
  lines =
      (codes "From", codes "\"Alice\" <sip:a@h>;tag=7") ∷
      (codes "To", codes "<sip:bob@far.example>") ∷
      (codes "P-Asserted-Identity", codes "<sip:a@h>") ∷
      (codes "Subject", codes "me") ∷ more;
  body = [];
}

abbrev by_id : Restriction
by_id wants account = wants.id

-- the lines of the message without its private places, where it comes from a trusted peer or not
abbrev left : Bool → List Line → List Line
left trusted more = (mask restricts accounts (parsed_message trusted (invite more))).message.lines

-- without a P-Served-User, and with one of the originating case, her record restricts
worked_permanent : left true [] ≡
    (codes "From", codes "<sip:anonymous@anonymous.invalid>;tag=7") ∷
    (codes "To", codes "<sip:bob@far.example>") ∷ []
unfolding Fmt.digits SameIdentity.is_same_identity Scanning.closing_quote_from masked_line kind_of hidden_name_addr hidden_value served_value masked_value_text is_marked_value History.entry_of
    Entries.is_dotted History.written_uri History.entry_text UriPlaces.user_part UriPlaces.host_part EntryUri.cause_number EntryUri.cause_of EntryUri.hides EntryUri.is_marked EntryUri.with_cause
    Numbers.number_of Numbers.value_up_to Values.parts Values.next_separator Reading.name_addr_of Reading.words_of Reading.quoted_of Reading.angle_of Reading.bare_of Reading.all_params_at
    Reading.params_at Reading.param_at Reading.token_at Reading.value_at Reading.text_at Reading.user_at Reading.host_at Reading.port_number Reading.port_at Reading.headers_of Reading.headers_at
    Reading.sip_of Reading.scheme_of Reading.number_at Reading.tel_of Reading.uri_of Classes.in_class Scanning.leading_run Scanning.after_run Scanning.without_trailing Scanning.split_once_at
worked_permanent = refl

worked_served : left true ((codes "P-Served-User", codes "<sip:a@h>;sescase=orig") ∷ []) ≡
    (codes "From", codes "<sip:anonymous@anonymous.invalid>;tag=7") ∷
    (codes "To", codes "<sip:bob@far.example>") ∷
    (codes "P-Served-User", codes "<sip:anonymous@anonymous.invalid>;sescase=orig") ∷ []
unfolding Fmt.digits SameIdentity.is_same_identity Scanning.closing_quote_from masked_line kind_of hidden_name_addr hidden_value served_value masked_value_text is_marked_value History.entry_of
    Entries.is_dotted History.written_uri History.entry_text UriPlaces.user_part UriPlaces.host_part EntryUri.cause_number EntryUri.cause_of EntryUri.hides EntryUri.is_marked EntryUri.with_cause
    Numbers.number_of Numbers.value_up_to Values.parts Values.next_separator Reading.name_addr_of Reading.words_of Reading.quoted_of Reading.angle_of Reading.bare_of Reading.all_params_at
    Reading.params_at Reading.param_at Reading.token_at Reading.value_at Reading.text_at Reading.user_at Reading.host_at Reading.port_number Reading.port_at Reading.headers_of Reading.headers_at
    Reading.sip_of Reading.scheme_of Reading.number_at Reading.tel_of Reading.uri_of Classes.in_class Scanning.leading_run Scanning.after_run Scanning.without_trailing Scanning.split_once_at
worked_served = refl

-- where the terminating user is served, her record does not count; of two lines the first counts, and of two parameters
worked_terminating : left true ((codes "P-Served-User", codes "<sip:bob@home.example>;sescase=term;sescase=orig") ∷ (codes "P-Served-User", codes "<sip:a@h>;sescase=orig") ∷ []) ≡
    (invite ((codes "P-Served-User", codes "<sip:bob@home.example>;sescase=term;sescase=orig") ∷ (codes "P-Served-User", codes "<sip:a@h>;sescase=orig") ∷ [])).lines
unfolding Fmt.digits SameIdentity.is_same_identity Scanning.closing_quote_from masked_line kind_of hidden_name_addr hidden_value served_value masked_value_text is_marked_value History.entry_of
    Entries.is_dotted History.written_uri History.entry_text UriPlaces.user_part UriPlaces.host_part EntryUri.cause_number EntryUri.cause_of EntryUri.hides EntryUri.is_marked EntryUri.with_cause
    Numbers.number_of Numbers.value_up_to Values.parts Values.next_separator Reading.name_addr_of Reading.words_of Reading.quoted_of Reading.angle_of Reading.bare_of Reading.all_params_at
    Reading.params_at Reading.param_at Reading.token_at Reading.value_at Reading.text_at Reading.user_at Reading.host_at Reading.port_number Reading.port_at Reading.headers_of Reading.headers_at
    Reading.sip_of Reading.scheme_of Reading.number_at Reading.tel_of Reading.uri_of Classes.in_class Scanning.leading_run Scanning.after_run Scanning.without_trailing Scanning.split_once_at
worked_terminating = refl

-- but a word of Privacy still restricts her, and the account beside the message is hers
abbrev requested_of_alice : Option CallerFacts
requested_of_alice = Some (record { account = Some alice; is_identified = true })

worked_requested : (mask restricts accounts (parsed_message true (invite ((codes "P-Served-User", codes "<sip:bob@home.example>;sescase=term") ∷ (codes "Privacy", codes "id") ∷ [])))).caller ≡ requested_of_alice
unfolding Fmt.digits SameIdentity.is_same_identity Scanning.closing_quote_from masked_line kind_of hidden_name_addr hidden_value served_value masked_value_text is_marked_value History.entry_of
    Entries.is_dotted History.written_uri History.entry_text UriPlaces.user_part UriPlaces.host_part EntryUri.cause_number EntryUri.cause_of EntryUri.hides EntryUri.is_marked EntryUri.with_cause
    Numbers.number_of Numbers.value_up_to Values.parts Values.next_separator Reading.name_addr_of Reading.words_of Reading.quoted_of Reading.angle_of Reading.bare_of Reading.all_params_at
    Reading.params_at Reading.param_at Reading.token_at Reading.value_at Reading.text_at Reading.user_at Reading.host_at Reading.port_number Reading.port_at Reading.headers_of Reading.headers_at
    Reading.sip_of Reading.scheme_of Reading.number_at Reading.tel_of Reading.uri_of Classes.in_class Scanning.leading_run Scanning.after_run Scanning.without_trailing Scanning.split_once_at
worked_requested = refl

-- of a peer that is not trusted nothing is believed, and nothing is private
worked_stranger : left false ((codes "Privacy", codes "id;history") ∷ (codes "History-Info", codes "<sip:carol@home.example;cause=486>;index=1") ∷ []) ≡
    (invite ((codes "Privacy", codes "id;history") ∷ (codes "History-Info", codes "<sip:carol@home.example;cause=486>;index=1") ∷ [])).lines
unfolding Fmt.digits SameIdentity.is_same_identity Scanning.closing_quote_from masked_line kind_of hidden_name_addr hidden_value served_value masked_value_text is_marked_value History.entry_of
    Entries.is_dotted History.written_uri History.entry_text UriPlaces.user_part UriPlaces.host_part EntryUri.cause_number EntryUri.cause_of EntryUri.hides EntryUri.is_marked EntryUri.with_cause
    Numbers.number_of Numbers.value_up_to Values.parts Values.next_separator Reading.name_addr_of Reading.words_of Reading.quoted_of Reading.angle_of Reading.bare_of Reading.all_params_at
    Reading.params_at Reading.param_at Reading.token_at Reading.value_at Reading.text_at Reading.user_at Reading.host_at Reading.port_number Reading.port_at Reading.headers_of Reading.headers_at
    Reading.sip_of Reading.scheme_of Reading.number_at Reading.tel_of Reading.uri_of Classes.in_class Scanning.leading_run Scanning.after_run Scanning.without_trailing Scanning.split_once_at
worked_stranger = refl

-- an unrestricted INVITE that requests that its history be hidden: the entries are private, and nothing else
worked_history : (mask by_id [] (parsed_message true (invite ((codes "Privacy", codes "history") ∷ (codes "History-Info", codes "\"Carol\" <sip:carol@home.example;cause=486>;index=1.1;np=1") ∷ [])))).message.lines ≡
    (invite ((codes "Privacy", codes "history") ∷ (codes "History-Info", codes "<sip:anonymous@anonymous.invalid;cause=486>;index=1.1;np=1") ∷ [])).lines
unfolding Fmt.digits SameIdentity.is_same_identity Scanning.closing_quote_from masked_line kind_of hidden_name_addr hidden_value served_value masked_value_text is_marked_value History.entry_of
    Entries.is_dotted History.written_uri History.entry_text UriPlaces.user_part UriPlaces.host_part EntryUri.cause_number EntryUri.cause_of EntryUri.hides EntryUri.is_marked EntryUri.with_cause
    Numbers.number_of Numbers.value_up_to Values.parts Values.next_separator Reading.name_addr_of Reading.words_of Reading.quoted_of Reading.angle_of Reading.bare_of Reading.all_params_at
    Reading.params_at Reading.param_at Reading.token_at Reading.value_at Reading.text_at Reading.user_at Reading.host_at Reading.port_number Reading.port_at Reading.headers_of Reading.headers_at
    Reading.sip_of Reading.scheme_of Reading.number_at Reading.tel_of Reading.uri_of Classes.in_class Scanning.leading_run Scanning.after_run Scanning.without_trailing Scanning.split_once_at
worked_history = refl

-- without that word only the marked one of two entries is; in a restricted opening too
worked_marked : left true ((codes "History-Info", codes "<sip:carol@home.example?Privacy=history>;index=1") ∷ (codes "History-Info", codes "<sip:dave@home.example;cause=302>;index=1.1") ∷ []) ≡
    (codes "From", codes "<sip:anonymous@anonymous.invalid>;tag=7") ∷
    (codes "To", codes "<sip:bob@far.example>") ∷
    (codes "History-Info", codes "<sip:anonymous@anonymous.invalid>;index=1") ∷
    (codes "History-Info", codes "<sip:dave@home.example;cause=302>;index=1.1") ∷ []
unfolding Fmt.digits SameIdentity.is_same_identity Scanning.closing_quote_from masked_line kind_of hidden_name_addr hidden_value served_value masked_value_text is_marked_value History.entry_of
    Entries.is_dotted History.written_uri History.entry_text UriPlaces.user_part UriPlaces.host_part EntryUri.cause_number EntryUri.cause_of EntryUri.hides EntryUri.is_marked EntryUri.with_cause
    Numbers.number_of Numbers.value_up_to Values.parts Values.next_separator Reading.name_addr_of Reading.words_of Reading.quoted_of Reading.angle_of Reading.bare_of Reading.all_params_at
    Reading.params_at Reading.param_at Reading.token_at Reading.value_at Reading.text_at Reading.user_at Reading.host_at Reading.port_number Reading.port_at Reading.headers_of Reading.headers_at
    Reading.sip_of Reading.scheme_of Reading.number_at Reading.tel_of Reading.uri_of Classes.in_class Scanning.leading_run Scanning.after_run Scanning.without_trailing Scanning.split_once_at
worked_marked = refl

-- ---- each part of a received message

-- a request with these lines alone
abbrev of_lines : List Line → ParsedMessage
of_lines ls = parsed_message true (record { start = Request (codes "REGISTER") (codes "sip:home.example"); lines = ls; body = codes "v=0" })

abbrev a_user : ServedUser
a_user = record { session_case = Terminating; regstate = Some (codes "reg"); user = Some (codes "sip:bob@home.example") }

abbrev by_id_alone : PrivacySet
by_id_alone = record { header = false; session = false; user = false; none = false; critical = false; id = true; history = false }

abbrev dave : Entry
dave = record { uri = codes "sip:dave@home.example;cause=486"; index = codes "1.1"; cause = Some 486; hidden = false; rest = [] }

-- the whole, and the values that are taken as written
record OfWhole : Type 0 where
  trusted : (of_lines []).trusted ≡ true
  start : (of_lines []).start ≡ Request (codes "REGISTER") (codes "sip:home.example")
  body : (of_lines []).body ≡ codes "v=0"
  lines : (of_lines ((codes "Subject", codes "me") ∷ [])).lines ≡ (codes "Subject", codes "me") ∷ []
  call_id : (of_lines ((codes "Call-ID", codes "c1") ∷ [])).call_id ≡ Some (codes "c1")
  cseq : (of_lines ((codes "CSeq", codes "7 REGISTER") ∷ [])).cseq ≡ Some (codes "7 REGISTER")
  to : (of_lines ((codes "To", codes "<sip:b@h>") ∷ [])).to ≡ Some (codes "<sip:b@h>")
  refer_to : (of_lines ((codes "Refer-To", codes "<sip:c@h>") ∷ [])).refer_to ≡ codes "<sip:c@h>" ∷ []
  event : (of_lines ((codes "Event", codes "refer") ∷ [])).event ≡ Some (codes "refer")

worked_whole : OfWhole
worked_whole = record { trusted = refl; start = refl; body = refl; lines = refl; call_id = refl; cseq = refl; to = refl; refer_to = refl; event = refl }

-- tags
record OfTags : Type 0 where
  from_tag : (of_lines ((codes "From", codes "\"A\" <sip:a@h>;tag=a") ∷ [])).from_tag ≡ Some (codes "a")
  to_tag : (of_lines ((codes "To", codes "<sip:b@h>;tag=b") ∷ [])).to_tag ≡ Some (codes "b")
  untagged : (of_lines ((codes "To", codes "<sip:b@h>") ∷ [])).to_tag ≡ None

worked_tags : OfTags
unfolding Reading.name_addr_of Reading.words_of Reading.quoted_of Reading.angle_of Reading.bare_of Reading.all_params_at Reading.params_at Reading.param_at Reading.token_at Reading.value_at
    Reading.text_at Classes.in_class Scanning.closing_quote_from Scanning.leading_run Scanning.after_run Scanning.without_trailing Scanning.split_once_at
worked_tags = record { from_tag = refl; to_tag = refl; untagged = refl }

-- the route of a message
record OfRoute : Type 0 where
  vias : (of_lines ((codes "Via", codes "SIP/2.0/UDP a;branch=z9hG4bK1") ∷ (codes "Via", codes "SIP/2.0/UDP b;branch=z9hG4bK2") ∷ [])).vias
      ≡ codes "SIP/2.0/UDP a;branch=z9hG4bK1" ∷ codes "SIP/2.0/UDP b;branch=z9hG4bK2" ∷ []
  routes : (of_lines ((codes "Route", codes "<sip:a;lr>") ∷ (codes "Record-Route", codes "<sip:b;lr>") ∷ [])).routes ≡ codes "<sip:a;lr>" ∷ []
  ways : (of_lines ((codes "Route", codes "<sip:a;lr>") ∷ (codes "Record-Route", codes "<sip:b;lr>") ∷ [])).record_routes ≡ codes "<sip:b;lr>" ∷ []

worked_route : OfRoute
worked_route = record { vias = refl; routes = refl; ways = refl }

-- extensions, and the words of Privacy
record OfExtensions : Type 0 where
  required : (of_lines ((codes "Require", codes "histinfo") ∷ (codes "Supported", codes "timer") ∷ [])).required ≡ codes "histinfo" ∷ []
  supported : (of_lines ((codes "Require", codes "histinfo") ∷ (codes "Supported", codes "timer") ∷ [])).supported ≡ codes "timer" ∷ []
  wants : (of_lines ((codes "Privacy", codes "id") ∷ [])).wants ≡ by_id_alone

worked_extensions : OfExtensions
unfolding Values.parts Scanning.without_trailing Scanning.after_run Classes.in_class
worked_extensions = record { required = refl; supported = refl; wants = refl }

-- the terminating user
record OfUser : Type 0 where
  served : (of_lines ((codes "P-Served-User", codes "<sip:bob@home.example>;sescase=term;regstate=reg") ∷ [])).served ≡ a_user

worked_user : OfUser
unfolding Reading.name_addr_of Reading.words_of Reading.quoted_of Reading.angle_of Reading.bare_of Reading.all_params_at Reading.params_at Reading.param_at Reading.token_at Reading.value_at
    Reading.text_at Classes.in_class Scanning.closing_quote_from Scanning.leading_run Scanning.after_run Scanning.without_trailing Scanning.split_once_at
worked_user = record { served = refl }

worked_history_read : (of_lines ((codes "History-Info", codes "<sip:dave@home.example;cause=486>;index=1.1") ∷ [])).history ≡ dave ∷ []
unfolding Fmt.digits SameIdentity.is_same_identity Scanning.closing_quote_from masked_line kind_of hidden_name_addr hidden_value served_value masked_value_text is_marked_value History.entry_of
    Entries.is_dotted History.written_uri History.entry_text UriPlaces.user_part UriPlaces.host_part EntryUri.cause_number EntryUri.cause_of EntryUri.hides EntryUri.is_marked EntryUri.with_cause
    Numbers.number_of Numbers.value_up_to Values.parts Values.next_separator Reading.name_addr_of Reading.words_of Reading.quoted_of Reading.angle_of Reading.bare_of Reading.all_params_at
    Reading.params_at Reading.param_at Reading.token_at Reading.value_at Reading.text_at Reading.user_at Reading.host_at Reading.port_number Reading.port_at Reading.headers_of Reading.headers_at
    Reading.sip_of Reading.scheme_of Reading.number_at Reading.tel_of Reading.uri_of Classes.in_class Scanning.leading_run Scanning.after_run Scanning.without_trailing Scanning.split_once_at
worked_history_read = refl

-- numbers that are too great are none; a number may have leading zeros
record OfNumbers : Type 0 where
  most : (of_lines ((codes "Max-Forwards", codes "255") ∷ [])).hops ≡ Some 255
  hops : (of_lines ((codes "Max-Forwards", codes "256") ∷ [])).hops ≡ None
  expires : (of_lines ((codes "Expires", codes "4294967295") ∷ [])).expires ≡ Some 4294967295
  later : (of_lines ((codes "Expires", codes "4294967296") ∷ [])).expires ≡ None
  padded : (of_lines ((codes "Expires", codes "0060") ∷ [])).expires ≡ Some 60
  no_number : (of_lines ((codes "Expires", codes "soon") ∷ [])).expires ≡ None

worked_numbers : OfNumbers
unfolding Numbers.number_of Numbers.value_up_to Classes.in_class
worked_numbers = record { most = refl; hops = refl; expires = refl; later = refl; padded = refl; no_number = refl }

-- the number of a reliable response is one from 1 on, and of several lines the first counts
record OfReliable : Type 0 where
  rseq : (of_lines ((codes "RSeq", codes "0900") ∷ [])).rseq ≡ Some 900
  most : (of_lines ((codes "RSeq", codes "2147483647") ∷ [])).rseq ≡ Some 2147483647
  more : (of_lines ((codes "RSeq", codes "2147483648") ∷ [])).rseq ≡ None
  zero : (of_lines ((codes "RSeq", codes "0") ∷ (codes "RSeq", codes "1") ∷ [])).rseq ≡ None
  none : (of_lines []).rseq ≡ None
  rack : (of_lines ((codes "RAck", codes "900 1 INVITE") ∷ [])).rack ≡ Some (codes "900 1 INVITE")

worked_reliable : OfReliable
unfolding Numbers.number_of Numbers.value_up_to Classes.in_class
worked_reliable = record { rseq = refl; most = refl; more = refl; zero = refl; none = refl; rack = refl }

-- how long a session lasts; and whether there is one Contact that parses
record OfSession : Type 0 where
  session : (of_lines ((codes "Session-Expires", codes "90;refresher=uac") ∷ (codes "Min-SE", codes "90") ∷ [])).session ≡ codes "90;refresher=uac" ∷ []
  one : (of_lines ((codes "Contact", codes "<sip:a@h>") ∷ [])).one_contact ≡ true
  two : (of_lines ((codes "Contact", codes "<sip:a@h>") ∷ (codes "Contact", codes "<sip:b@h>") ∷ [])).one_contact ≡ false
  unreadable : (of_lines ((codes "Contact", codes "<sip:a@h") ∷ [])).one_contact ≡ false
  none : (of_lines []).one_contact ≡ false

worked_session : OfSession
unfolding Reading.name_addr_of Reading.words_of Reading.quoted_of Reading.angle_of Reading.bare_of Reading.all_params_at Reading.params_at Reading.param_at Reading.token_at Reading.value_at
    Reading.text_at Classes.in_class Scanning.closing_quote_from Scanning.leading_run Scanning.after_run Scanning.without_trailing Scanning.split_once_at
worked_session = record { session = refl; one = refl; two = refl; unreadable = refl; none = refl }

-- the originating user is absent from what is never private, and of two users the first counts
abbrev origin_served : ParsedMessage
origin_served = of_lines ((codes "P-Served-User", codes "<sip:alice@home.example>;sescase=orig;regstate=unreg") ∷ (codes "P-Served-User", codes "<sip:bob@home.example>;sescase=term") ∷ [])

record OfServed : Type 0 where
  origin : origin_served.served.session_case ≡ Originating
  state : origin_served.served.regstate ≡ Some (codes "unreg")
  user : origin_served.served.user ≡ None
  nobody : (of_lines []).served.session_case ≡ NoCase

worked_served_user : OfServed
unfolding Reading.name_addr_of Reading.words_of Reading.quoted_of Reading.angle_of Reading.bare_of Reading.all_params_at Reading.params_at Reading.param_at Reading.token_at Reading.value_at
    Reading.text_at Classes.in_class Scanning.closing_quote_from Scanning.leading_run Scanning.after_run Scanning.without_trailing Scanning.split_once_at
worked_served_user = record { origin = refl; state = refl; user = refl; nobody = refl }

-- ---- a response that redirects

-- of a callee, or of the caller where it answers a later INVITE
abbrev answer : ℕ → Message Start
answer code = record {
  start = Status code (codes "Moved Temporarily");
  lines =
      (codes "From", codes "<sip:bob@far.example>;tag=b") ∷
      (codes "To", codes "\"Alice\" <sip:a@h>;tag=7") ∷
      (codes "Contact", codes "<sip:phone@h>") ∷ [];
  body = [];
}

abbrev redirected : PrivateFields → ℕ → ParsedMessage
redirected p code = hide p (parsed_message true (answer code))

-- the target to which it redirects is private on the caller's side, and not private on the callee's; a 200 does not redirect
record OfRedirects : Type 0 where
  heard_of : (parsed_message true (answer 302)).redirect ≡ Some (codes "sip:phone@h")
  of_caller : (redirected private_in_caller_responses 302).redirect ≡ Some (codes "sip:anonymous@anonymous.invalid")
  line_of_caller : (redirected private_in_caller_responses 302).lines ≡
      (codes "From", codes "<sip:bob@far.example>;tag=b") ∷
      (codes "To", codes "<sip:anonymous@anonymous.invalid>;tag=7") ∷
      (codes "Contact", codes "<sip:anonymous@anonymous.invalid>") ∷ []
  of_callee : (redirected private_in_callee_responses 302).redirect ≡ Some (codes "sip:phone@h")
  line_of_callee : (redirected private_in_callee_responses 302).lines ≡ (answer 302).lines
  accepted : (parsed_message true (answer 200)).redirect ≡ None
  accepted_line : (redirected private_in_callee_responses 200).lines ≡
      (codes "From", codes "<sip:bob@far.example>;tag=b") ∷
      (codes "To", codes "\"Alice\" <sip:a@h>;tag=7") ∷
      (codes "Contact", codes "<sip:anonymous@anonymous.invalid>") ∷ []

worked_redirects : OfRedirects
unfolding Fmt.digits SameIdentity.is_same_identity Scanning.closing_quote_from masked_line kind_of hidden_name_addr hidden_value served_value masked_value_text is_marked_value History.entry_of
    Entries.is_dotted History.written_uri History.entry_text UriPlaces.user_part UriPlaces.host_part EntryUri.cause_number EntryUri.cause_of EntryUri.hides EntryUri.is_marked EntryUri.with_cause
    Numbers.number_of Numbers.value_up_to Values.parts Values.next_separator Reading.name_addr_of Reading.words_of Reading.quoted_of Reading.angle_of Reading.bare_of Reading.all_params_at
    Reading.params_at Reading.param_at Reading.token_at Reading.value_at Reading.text_at Reading.user_at Reading.host_at Reading.port_number Reading.port_at Reading.headers_of Reading.headers_at
    Reading.sip_of Reading.scheme_of Reading.number_at Reading.tel_of Reading.uri_of Classes.in_class Scanning.leading_run Scanning.after_run Scanning.without_trailing Scanning.split_once_at
worked_redirects = record { heard_of = refl; of_caller = refl; line_of_caller = refl; of_callee = refl; line_of_callee = refl; accepted = refl; accepted_line = refl }

-- ---- entries that are hidden as they are read

worked_entries : (hide (only_entries MarkedEntries) (of_lines ((codes "History-Info", codes "<sip:carol@h?Privacy=history>;index=1") ∷ (codes "History-Info", codes "<sip:dave@h;cause=302>;index=1.1") ∷ []))).history ≡
    record { uri = codes "sip:anonymous@anonymous.invalid"; index = codes "1"; cause = None; hidden = false; rest = [] } ∷
    record { uri = codes "sip:dave@h;cause=302"; index = codes "1.1"; cause = Some 302; hidden = false; rest = [] } ∷ []
unfolding Fmt.digits SameIdentity.is_same_identity Scanning.closing_quote_from masked_line kind_of hidden_name_addr hidden_value served_value masked_value_text is_marked_value History.entry_of
    Entries.is_dotted History.written_uri History.entry_text UriPlaces.user_part UriPlaces.host_part EntryUri.cause_number EntryUri.cause_of EntryUri.hides EntryUri.is_marked EntryUri.with_cause
    Numbers.number_of Numbers.value_up_to Values.parts Values.next_separator Reading.name_addr_of Reading.words_of Reading.quoted_of Reading.angle_of Reading.bare_of Reading.all_params_at
    Reading.params_at Reading.param_at Reading.token_at Reading.value_at Reading.text_at Reading.user_at Reading.host_at Reading.port_number Reading.port_at Reading.headers_of Reading.headers_at
    Reading.sip_of Reading.scheme_of Reading.number_at Reading.tel_of Reading.uri_of Classes.in_class Scanning.leading_run Scanning.after_run Scanning.without_trailing Scanning.split_once_at
worked_entries = refl
