-- What of a message is private, and the message without it (RFC 3323 §4.1, RFC 3325 §7, RFC 7044 §10.1). In a private place the anonymous URI replaces whoever would be named
-- there; a masked message is compared, and never sent to a peer.
use Rattle.std.specs.Prelude.{ℕ, nat_le, Bool, true, false, not, ◌&&◌, ◌||◌, Option, Some, None, List, [], ◌∷◌, codes, if◌then◌else◌}
use Rattle.std.specs.List.{flat_map}
use Rattle.std.specs.Option.{option_map}
use Rattle.std.specs.Str.{bytes_eq}
use Rattle.mmtel_lex.specs.Grammar.{name_addr_text}
use Rattle.mmtel_lex.specs.Reading.{name_addr_of}
use Rattle.mmtel_lex.specs.declared.values.Param.{Param}
use Rattle.mmtel_lex.specs.declared.values.NameAddr.{NameAddr}
use Rattle.mmtel_lex.specs.Params.{param_value}
use Rattle.mmtel_message.specs.Faults.{is_request}
use Rattle.mmtel_message.specs.Message.{Line, Message}
use Rattle.mmtel_message.specs.declared.messages.Start.{Start}
use Rattle.mmtel_message.specs.declared.messages.Start.TheVariants.{Request, Status}
use Rattle.mmtel_history.specs.HistoryInfo.{anonymous, masked_list}
use Rattle.mmtel_history.specs.MaskedValues.{is_marked_value, masked_value_text}
use Rattle.mmtel_history.specs.declared.entries.Entry.{Entry}
use Rattle.mmtel_types.specs.declared.privacy.PrivacySet.{PrivacySet}
use Rattle.mmtel_trust.specs.Kinds.{kind_of}
use Rattle.mmtel_trust.specs.declared.kinds.HeaderKind.{HeaderKind}
use Rattle.mmtel_trust.specs.declared.kinds.HeaderKind.TheVariants.{From, To, Contact, Asserted, Served, Privacy, History, Options, Session, Passed, Personal, Trusted, Other}

-- ---- values

-- the anonymous URI (RFC 3323 §4.1.1.3), with these parameters
unfoldable pub hidden_name_addr : List Param → List ℕ
hidden_name_addr ps = name_addr_text (record { display = []; uri = anonymous; params = ps })

abbrev pub hidden_from : List ℕ → Option NameAddr → List ℕ
hidden_from v None = v
hidden_from v (Some n) = hidden_name_addr n.params

-- the value with the anonymous URI in the place of display name and URI; one that does not parse stays
unfoldable pub hidden_value : List ℕ → List ℕ
hidden_value v = hidden_from v (name_addr_of v)

abbrev pub is_value : List ℕ → Option (List ℕ) → Bool
is_value word None = false
is_value word (Some v) = bytes_eq v word

-- of this session case (RFC 5502 §4): the first parameter `sescase` decides
abbrev pub is_session : List ℕ → List Param → Bool
is_session word ps = is_value word (param_value (codes "sescase") ps)

-- of the originating case
abbrev pub is_orig : List Param → Bool
is_orig ps = is_session (codes "orig") ps

abbrev pub served_from : List ℕ → Option NameAddr → List ℕ
served_from v None = v
served_from v (Some n) = if is_orig n.params then hidden_name_addr n.params else v

-- a P-Served-User value: the served user is the caller in the originating case alone
unfoldable pub served_value : List ℕ → List ℕ
served_value v = served_from v (name_addr_of v)

-- ---- private places

-- which entries of History-Info are private
pub data Entries : Type 0 where
  NoEntries : Entries
  MarkedEntries : Entries
  AllEntries : Entries

-- which places of a message are private
pub record PrivateFields : Type 0 where
  -- display name and URI of From, and of To where the message is a response
  pub from : Bool
  pub to : Bool
  -- those of Contact, where the message does not redirect, and where it does: there Contact is the target of the redirection
  pub contact : Bool
  pub redirect : Bool
  -- those of a P-Served-User of the originating case
  pub served : Bool
  -- the P-Asserted-Identity lines, which are removed
  pub asserted : Bool
  -- the lines that identify a party, which are removed
  pub personal : Bool
  -- display name and URI of these entries
  pub history : Entries

-- these entries and no other place
abbrev pub only_entries : Entries → PrivateFields
only_entries private = record { from = false; to = false; contact = false; redirect = false; served = false; asserted = false; personal = false; history = private }

-- of an INVITE that opens a restricted call
abbrev pub private_in_opening : PrivateFields
private_in_opening = record (only_entries NoEntries) { from = true; contact = true; served = true; asserted = true; personal = true }

-- of a later request of the restricted caller, and of a response
abbrev pub private_in_caller_requests : PrivateFields
private_in_caller_requests = record (only_entries NoEntries) { from = true; contact = true; asserted = true; personal = true }

abbrev pub private_in_caller_responses : PrivateFields
private_in_caller_responses = record (only_entries NoEntries) { to = true; contact = true; redirect = true; asserted = true; personal = true }

-- of a request of a restricted callee, and of a response: the target to which it redirects is not private
abbrev pub private_in_callee_requests : PrivateFields
private_in_callee_requests = record (only_entries NoEntries) { from = true; contact = true; asserted = true; personal = true }

abbrev pub private_in_callee_responses : PrivateFields
private_in_callee_responses = record (only_entries NoEntries) { contact = true; asserted = true; personal = true }

-- of any request, by the words of its Privacy: each entry where one of them is `history`, else the marked ones
abbrev pub entries_of : PrivacySet → Entries
entries_of wants = if wants.history then AllEntries else MarkedEntries

abbrev pub history_of : PrivacySet → PrivateFields
history_of wants = only_entries (entries_of wants)

-- the entries of either
abbrev pub joined_entries : Entries → Entries → Entries
joined_entries NoEntries other = other
joined_entries MarkedEntries NoEntries = MarkedEntries
joined_entries MarkedEntries MarkedEntries = MarkedEntries
joined_entries MarkedEntries AllEntries = AllEntries
joined_entries AllEntries other = AllEntries

-- the places of either
abbrev pub joined_fields : PrivateFields → PrivateFields → PrivateFields
joined_fields p q = record {
  from = p.from || q.from;
  to = p.to || q.to;
  contact = p.contact || q.contact;
  redirect = p.redirect || q.redirect;
  served = p.served || q.served;
  asserted = p.asserted || q.asserted;
  personal = p.personal || q.personal;
  history = joined_entries p.history q.history;
}

-- ---- lines

abbrev pub hide_if : Bool → List ℕ → List ℕ
hide_if b v = if b then hidden_value v else v

abbrev pub serve_if : Bool → List ℕ → List ℕ
serve_if b v = if b then served_value v else v

abbrev pub unless_removed : Bool → List ℕ → Option (List ℕ)
unless_removed b v = if b then None else Some v

-- an entry, where such entries are private
abbrev pub masked_entries : Entries → List ℕ → List ℕ
masked_entries NoEntries v = v
masked_entries MarkedEntries v = if is_marked_value v then masked_value_text v else v
masked_entries AllEntries v = masked_value_text v

-- what remains of a value of the kind; None where the line is removed
abbrev pub masked_value : PrivateFields → HeaderKind → List ℕ → Option (List ℕ)
masked_value p From v = Some (hide_if p.from v)
masked_value p To v = Some (hide_if p.to v)
masked_value p Contact v = Some (hide_if p.contact v)
masked_value p Asserted v = unless_removed p.asserted v
masked_value p Served v = Some (serve_if p.served v)
masked_value p Privacy v = Some v
masked_value p History v = Some (masked_entries p.history v)
masked_value p Options v = Some v
masked_value p Session v = Some v
masked_value p Passed v = Some v
masked_value p Personal v = unless_removed p.personal v
masked_value p Trusted v = Some v
masked_value p Other v = Some v

abbrev pub with_name : List ℕ → Option (List ℕ) → List Line
with_name name None = []
with_name name (Some v) = (name, v) ∷ []

-- what remains of a line
unfoldable pub masked_line : PrivateFields → Line → List Line
masked_line p l = with_name l.0 (masked_value p (kind_of l.0) l.1)

abbrev pub masked_lines : PrivateFields → List Line → List Line
masked_lines p ls = flat_map (masked_line p) ls

-- ---- messages

-- a response that redirects (RFC 3261 §21.3)
abbrev pub redirects : Start → Bool
redirects (Request method uri) = false
redirects (Status code phrase) = nat_le 300 code && nat_le code 399

-- the private places of the lines of a message with this start line
abbrev pub private_fields_in : Start → PrivateFields → PrivateFields
private_fields_in start p = record p { to = if is_request start then false else p.to; contact = if redirects start then p.redirect else p.contact }

-- the message without its private places
abbrev pub masked_message : PrivateFields → Message Start → Message Start
masked_message p m = record m { lines = masked_lines (private_fields_in m.start p) m.lines }

-- ---- what is read of private places

-- entries as they are read from masked lines
abbrev pub hidden_entries : Entries → List Entry → List Entry
hidden_entries NoEntries h = h
hidden_entries MarkedEntries h = masked_list false h
hidden_entries AllEntries h = masked_list true h

-- a URI as it is read from a hidden value
abbrev pub hidden_uri : Bool → Option (List ℕ) → Option (List ℕ)
hidden_uri b u = if b then option_map (λ v. anonymous) u else u

-- ---- what masking does not change

-- the line with another value
abbrev pub with_value : (List ℕ → List ℕ) → Line → Line
with_value f l = (l.0, f l.1)

-- lines of the kind stay, though perhaps with another value
abbrev pub keeps_lines : PrivateFields → HeaderKind → Bool
keeps_lines p From = true
keeps_lines p To = true
keeps_lines p Contact = true
keeps_lines p Asserted = not p.asserted
keeps_lines p Served = true
keeps_lines p Privacy = true
keeps_lines p History = true
keeps_lines p Options = true
keeps_lines p Session = true
keeps_lines p Passed = true
keeps_lines p Personal = not p.personal
keeps_lines p Trusted = true
keeps_lines p Other = true

abbrev pub are_public : Entries → Bool
are_public NoEntries = true
are_public MarkedEntries = false
are_public AllEntries = false

-- lines of the kind stay unchanged
abbrev pub keeps_values : PrivateFields → HeaderKind → Bool
keeps_values p From = not p.from
keeps_values p To = not p.to
keeps_values p Contact = not p.contact
keeps_values p Asserted = not p.asserted
keeps_values p Served = not p.served
keeps_values p Privacy = true
keeps_values p History = are_public p.history
keeps_values p Options = true
keeps_values p Session = true
keeps_values p Passed = true
keeps_values p Personal = not p.personal
keeps_values p Trusted = true
keeps_values p Other = true
