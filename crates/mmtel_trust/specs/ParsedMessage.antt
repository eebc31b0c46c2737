-- What is read of a received message: a field for each part that rules read and that is never private; and after these what masking changes by the role of the message: the
-- entries of its History-Info, the target to which it redirects, and its lines, which contain everything that may be private. Whatever reads the other fields sees no difference
-- between a message and the masked one. Each line of a listed name has one value, as the reader leaves them (RFC 3261 §7.3.1).
--
-- What is decided by a private place is determined here too: the account of the caller, and whether the caller has an identity.
use Rattle.std.specs.Prelude.{ℕ, Bool, true, false, ◌==◌, ◌&&◌, ◌||◌, Option, Some, None, is_some, List, codes, if◌then◌else◌}
use Rattle.std.specs.Option.{option_map}
use Rattle.mmtel_base.specs.Chain.{◌>>=◌}
use Rattle.mmtel_base.specs.Numbers.{number_of}
use Rattle.mmtel_lex.specs.Reading.{name_addr_of, uri_of}
use Rattle.mmtel_lex.specs.declared.values.NameAddr.{NameAddr}
use Rattle.mmtel_lex.specs.declared.values.Param.{Param}
use Rattle.mmtel_lex.specs.Params.{param_value}
use Rattle.mmtel_history.specs.HistoryInfo as History
use Rattle.mmtel_history.specs.declared.entries.Entry.{Entry}
use Rattle.mmtel_message.specs.Faults.{is_one_readable, is_request}
use Rattle.mmtel_message.specs.Message.{Line, Message, first_value, line_texts}
use Rattle.mmtel_message.specs.declared.messages.Start.{Start}
use Rattle.mmtel_types.specs.declared.numbers.Account.{Account}
use Rattle.mmtel_types.specs.declared.privacy.PrivacySet.{PrivacySet}
use Rattle.mmtel_trust.specs.Accounts.{account_of}
use Rattle.mmtel_trust.specs.Asserted.{asserted, or_no_uri}
use Rattle.mmtel_trust.specs.PrivateFields.{is_orig, is_session, redirects}
use Rattle.mmtel_trust.specs.Privacy.{wants}
use Rattle.mmtel_trust.specs.declared.accounts.AccountIdentity.{AccountIdentity}
use Rattle.mmtel_trust.specs.declared.identities.Identities.{Identities}

-- ---- who is served (RFC 5502 §4)

-- the session case: in which role a user is served
pub data SessionCase : Type 0 where
  NoCase : SessionCase
  Originating : SessionCase
  Terminating : SessionCase

-- what a P-Served-User has that is not private
pub record ServedUser : Type 0 where
  pub session_case : SessionCase
  -- the value of `regstate`
  pub regstate : Option (List ℕ)
  -- the URI of the terminating user. The originating one is the caller
  pub user : Option (List ℕ)

abbrev pub case_of : List Param → SessionCase
case_of ps = if is_orig ps then Originating else if is_session (codes "term") ps then Terminating else NoCase

abbrev pub user_if : SessionCase → List ℕ → Option (List ℕ)
user_if NoCase uri = None
user_if Originating uri = None
user_if Terminating uri = Some uri

abbrev pub served_in : Option NameAddr → ServedUser
served_in None = record { session_case = NoCase; regstate = None; user = None }
served_in (Some n) = record { session_case = case_of n.params; regstate = param_value (codes "regstate") n.params; user = user_if (case_of n.params) n.uri }

-- what a P-Served-User value has, if there is one
abbrev pub served_by : Option (List ℕ) → ServedUser
served_by v = served_in (v >>= name_addr_of)

abbrev pub is_terminating : SessionCase → Bool
is_terminating NoCase = false
is_terminating Originating = false
is_terminating Terminating = true

-- ---- what is read of a received message

pub record ParsedMessage : Type 0 where
  -- from a trusted peer
  pub trusted : Bool
  pub start : Start
  -- the Via values, and the tags of From and To (RFC 3261 §20.42, §19.3)
  pub vias : List (List ℕ)
  pub from_tag : Option (List ℕ)
  pub to_tag : Option (List ℕ)
  pub call_id : Option (List ℕ)
  pub cseq : Option (List ℕ)
  -- Max-Forwards, where it is a number up to 255 (§20.22)
  pub hops : Option ℕ
  -- To of a request
  pub to : Option (List ℕ)
  -- the Route and the Record-Route values (§20.34, §20.30)
  pub routes : List (List ℕ)
  pub record_routes : List (List ℕ)
  -- the values of Require and of Supported (§20.32, §20.37)
  pub required : List (List ℕ)
  pub supported : List (List ℕ)
  -- Expires, where it is a number up to 4294967295 (§20.19)
  pub expires : Option ℕ
  -- the first P-Served-User
  pub served : ServedUser
  -- the Refer-To values (RFC 3515 §2.1), and Event (RFC 6665 §8.2.1)
  pub refer_to : List (List ℕ)
  pub event : Option (List ℕ)
  -- the first RSeq, where it is a number from 1 to 2147483647, and the first RAck (RFC 3262 §7.1, §7.2)
  pub rseq : Option ℕ
  pub rack : Option (List ℕ)
  -- the Session-Expires values (RFC 4028 §4)
  pub session : List (List ℕ)
  -- there is one Contact value, and it can be read (RFC 3261 §8.1.1.8)
  pub one_contact : Bool
  -- the words of Privacy
  pub wants : PrivacySet
  pub body : List ℕ
  -- what masking changes by the role of the message: the entries of History-Info (RFC 7044 §5)
  pub history : List Entry
  -- of a 3xx: the URI of its first Contact, where that can be read
  pub redirect : Option (List ℕ)
  -- all lines, as received
  pub lines : List Line

-- the tag of a From or To value (RFC 3261 §19.3)
abbrev pub tag_of : Option (List ℕ) → Option (List ℕ)
tag_of v = v >>= λ s. name_addr_of s >>= λ n. param_value (codes "tag") n.params

abbrev pub if_request : Start → Option (List ℕ) → Option (List ℕ)
if_request start v = if is_request start then v else None

-- the URI of a name-addr value, if there is one
abbrev pub uri_bytes : Option (List ℕ) → Option (List ℕ)
uri_bytes v = option_map (λ n. n.uri) (v >>= name_addr_of)

abbrev pub if_redirect : Start → Option (List ℕ) → Option (List ℕ)
if_redirect start v = if redirects start then v else None

-- the entries of History-Info, a line each
abbrev pub history_in : List Line → List Entry
history_in ls = History.entries_of (line_texts (codes "History-Info") ls)

-- a number from 1 on
abbrev pub unless_zero : ℕ → Option ℕ
unless_zero n = if n == 0 then None else Some n

-- what is read of a message, which comes from a trusted peer or not
abbrev pub parsed_message : Bool → Message Start → ParsedMessage
parsed_message trusted m = record {
  trusted = trusted;
  start = m.start;
  vias = line_texts (codes "Via") m.lines;
  from_tag = tag_of (first_value (codes "From") m.lines);
  to_tag = tag_of (first_value (codes "To") m.lines);
  call_id = first_value (codes "Call-ID") m.lines;
  cseq = first_value (codes "CSeq") m.lines;
  hops = first_value (codes "Max-Forwards") m.lines >>= number_of 255;
  to = if_request m.start (first_value (codes "To") m.lines);
  routes = line_texts (codes "Route") m.lines;
  record_routes = line_texts (codes "Record-Route") m.lines;
  required = line_texts (codes "Require") m.lines;
  supported = line_texts (codes "Supported") m.lines;
  expires = first_value (codes "Expires") m.lines >>= number_of 4294967295;
  served = served_by (first_value (codes "P-Served-User") m.lines);
  refer_to = line_texts (codes "Refer-To") m.lines;
  event = first_value (codes "Event") m.lines;
  rseq = first_value (codes "RSeq") m.lines >>= number_of 2147483647 >>= unless_zero;
  rack = first_value (codes "RAck") m.lines;
  session = line_texts (codes "Session-Expires") m.lines;
  one_contact = is_one_readable (line_texts (codes "Contact") m.lines);
  wants = wants m.lines;
  body = m.body;
  history = history_in m.lines;
  redirect = if_redirect m.start (uri_bytes (first_value (codes "Contact") m.lines));
  lines = m.lines;
}

-- the terminating user is served: no user is served as the caller
abbrev pub terminates : ParsedMessage → Bool
terminates m = is_terminating m.served.session_case

-- ---- the caller

-- a P-Served-User of the originating case: the first one counts (RFC 5502 §4)
abbrev pub served_origin : List Line → Option NameAddr
served_origin ls = first_value (codes "P-Served-User") ls >>= λ v. name_addr_of v >>= λ n. if is_orig n.params then Some n else None

abbrev pub or_other : Option Account → Option Account → Option Account
or_other (Some a) other = Some a
or_other None other = other

-- the account of the user who is served, or else of the sip identity, or else of the tel identity
abbrev pub account_from : List AccountIdentity → Identities → Option NameAddr → Option Account
account_from accounts i None = or_other (i.sip >>= account_of accounts) (i.tel >>= account_of accounts)
account_from accounts i (Some n) = or_no_uri (uri_of n.uri) >>= account_of accounts

abbrev pub origin_account : List AccountIdentity → Bool → List Line → Option Account
origin_account accounts trusted ls = account_from accounts (asserted trusted ls) (if trusted then served_origin ls else None)

abbrev pub has_any_identity : Identities → Bool
has_any_identity i = is_some i.sip || is_some i.tel

-- the account of the caller
abbrev pub caller_account : List AccountIdentity → ParsedMessage → Option Account
caller_account accounts m = origin_account accounts m.trusted m.lines

-- the account whose record restricts the caller: that of the caller, and none where a trusted peer asserts that the terminating user is served (RFC 5502 §4)
abbrev pub served_account : List AccountIdentity → ParsedMessage → Option Account
served_account accounts m = if m.trusted && terminates m then None else caller_account accounts m

-- the caller has an identity
abbrev pub is_caller_identified : ParsedMessage → Bool
is_caller_identified m = has_any_identity (asserted m.trusted m.lines)
