-- What is done with a request that opens a transaction: the first refusal that applies (RFC 3261 §8.2), or else what its dialog or method requires. It reads public parts alone.
use Rattle.std.specs.Prelude.{◌++◌, ℕ, Bool, true, false, not, ◌&&◌, ◌||◌, ◌==◌, if◌then◌else◌, List, [], ◌∷◌, length, codes, Option, Some, None, is_none, is_some, Ok, Err}
use Rattle.std.specs.List.{list_all, list_any}
use Rattle.std.specs.Option.{unwrap_or}
use Rattle.std.specs.declared.result.Result.{Result}
use Rattle.mmtel_directory.specs.declared.directories.Directory.{Directory}
use Rattle.mmtel_focus.specs.Texts.{conference_in}
use Rattle.mmtel_leg.specs.Dialogues.{request_uri}
use Rattle.mmtel_lex.specs.Reading.{uri_of, Refusal, foreign, malformed}
use Rattle.mmtel_lex.specs.SameIdentity.{is_same_identity}
use Rattle.mmtel_lex.specs.declared.values.Uri.{Uri}
use Rattle.mmtel_lex.specs.declared.values.Uri.TheVariants.{Sip, Tel}
use Rattle.mmtel_message.specs.Faults.{is_method}
use Rattle.mmtel_message.specs.declared.messages.Start.{Start}
use Rattle.mmtel_call_parties.specs.Routing.{names_server}
use Rattle.mmtel_base.specs.Chain.{◌>>=◌}
use Rattle.mmtel_base.specs.Classes.{in_class}
use Rattle.mmtel_base.specs.Numbers.{has_leading_zero}
use Rattle.mmtel_base.specs.Scanning.{after_text}
use Rattle.mmtel_base.specs.declared.classes.Class.TheVariants.{Digit}
use Rattle.mmtel_sdp.specs.Offers.{offers_audio}
use Rattle.mmtel_session.specs.Intervals.{check}
use Rattle.mmtel_session.specs.declared.intervals.SessionFault.{SessionFault}
use Rattle.mmtel_session.specs.declared.intervals.SessionFault.TheVariants as session
use Rattle.mmtel_trust.specs.ParsedMessage.{ParsedMessage}
use Rattle.mmtel_trust.specs.MaskedMessages.{public_part}
use Rattle.mmtel_trust.specs.Accounts.{account_of}
use Rattle.mmtel_trust.specs.Asserted.{uri_in}
use Rattle.mmtel_trust.specs.declared.accounts.AccountIdentity.{AccountIdentity}
use Rattle.mmtel_types.specs.declared.addrs.Addr.{Addr}
use Rattle.mmtel_types.specs.declared.numbers.Account.{Account}
use Rattle.mmtel_types.specs.declared.numbers.CallNo.{CallNo}
use Rattle.mmtel_types.specs.declared.numbers.RoomNo.{RoomNo}
use Rattle.mmtel_types.specs.declared.numbers.SubNo.{SubNo}
use Rattle.mmtel_types.specs.declared.sides.Side.{Side}
use Rattle.mmtel_run_definitions.specs.OwnResponses.{StatusResponse, bad_extension, interval_too_small, plain_response, response_with_allow, unsupported_options}
use Rattle.mmtel_run_definitions.specs.Ownership.{DialogOwner, InCall, InConference, InSubscription}

-- ---- the dispositions of a request

pub data Disposition : Type 0 where
  -- it gets this response
  Respond : (answer : StatusResponse) → Disposition
  -- it is received in the dialog of this side of a call
  Enter : (call : CallNo) → (side : Side) → Disposition
  -- it is received in the dialog of this participant of a conference
  EnterConference : (room : RoomNo) → (seat : ℕ) → Disposition
  -- it opens a call
  OpenCall : Disposition
  -- it opens a conference (RFC 4579 §5.4)
  OpenConference : Disposition
  -- it asks to join a conference (RFC 4579 §5.1)
  JoinConference : (room : RoomNo) → Disposition
  -- it registers an account for so many seconds
  Register : (account : Account) → (seconds : ℕ) → Disposition
  -- it subscribes to a mailbox (RFC 6665 §4.2.1)
  Subscribe : Disposition
  -- it is received in the dialog of this subscription
  EnterSubscription : (sub : SubNo) → Disposition

-- ---- the refusals

-- the methods that the server knows (§20.5): these always,
abbrev pub always_known : List (List ℕ)
always_known = codes "INVITE" ∷ codes "ACK" ∷ codes "CANCEL" ∷ codes "BYE" ∷ codes "OPTIONS" ∷ codes "REGISTER" ∷ codes "REFER" ∷ []

-- and these where they are switched on: those of reliable provisional responses (RFC 3262, RFC 3311), and of message waiting (RFC 3842)
abbrev pub known_if_reliable : Bool → List (List ℕ)
known_if_reliable false = []
known_if_reliable true = codes "PRACK" ∷ codes "UPDATE" ∷ []

abbrev pub known_if_waiting : Bool → List (List ℕ)
known_if_waiting false = []
known_if_waiting true = codes "SUBSCRIBE" ∷ []

abbrev pub known_methods : Directory → List (List ℕ)
known_methods directory = always_known ++ (known_if_reliable directory.reliable ++ known_if_waiting directory.names.mwi)

abbrev pub is_known_method : Directory → Start → Bool
is_known_method directory start = list_any (λ name. is_method name start) (known_methods directory)

abbrev pub is_foreign_uri : Result Uri Refusal → Bool
is_foreign_uri (Ok uri) = false
is_foreign_uri (Err malformed) = false
is_foreign_uri (Err foreign) = true

-- a Request-URI of a scheme other than sip and tel (§8.2.2.1)
unfoldable pub is_foreign : Start → Bool
is_foreign start = is_foreign_uri (uri_of (request_uri start))

abbrev pub is_last_hop : Option ℕ → Bool
is_last_hop None = false
is_last_hop (Some hops) = hops == 0

-- a request that may ask for a session timer, where session timers are switched on (RFC 4028 §3, §7.1)
abbrev pub is_timed : Directory → Start → Bool
is_timed directory start = directory.timer && (is_method (codes "INVITE") start || is_method (codes "UPDATE") start)

-- the session interval that is requested cannot be read, or is too short (RFC 4028 §6)
abbrev pub is_unreadable_session : Result (Option ℕ) SessionFault → Bool
is_unreadable_session (Ok interval) = false
is_unreadable_session (Err session.Malformed) = true
is_unreadable_session (Err (session.Small interval)) = false

abbrev pub is_short_session : Result (Option ℕ) SessionFault → Bool
is_short_session (Ok interval) = false
is_short_session (Err session.Malformed) = false
is_short_session (Err (session.Small interval)) = true

-- the refusals because of the session timer, in their order
abbrev pub session_refusals : Directory → ParsedMessage → List (Bool × StatusResponse)
session_refusals directory message =
    (is_timed directory message.start && is_unreadable_session (check message.session), plain_response 400) ∷
    (is_timed directory message.start && is_short_session (check message.session), interval_too_small) ∷ []

-- each refusal with its condition, in their order. `merged`: another live transaction has the From tag, Call-ID and CSeq of the request (§8.2.2.2); `named`: its dialog is
-- that of a call, of a participant or of a subscription (§12.2.2)
abbrev pub refusals : Directory → (merged named : Bool) → ParsedMessage → List (Bool × StatusResponse)
refusals directory merged named message =
    (not (is_known_method directory message.start), response_with_allow directory 405) ∷
    (is_foreign message.start, plain_response 416) ∷
    (is_last_hop message.hops, plain_response 483) ∷
    (is_some message.to_tag && not named, plain_response 481) ∷
    (is_none message.to_tag && merged, plain_response 482) ∷
    (not (length (unsupported_options directory message) == 0), bad_extension directory message) ∷ session_refusals directory message

abbrev pub first_that_applies : List (Bool × StatusResponse) → Option StatusResponse
first_that_applies [] = None
first_that_applies (refusal ∷ others) = if refusal.0 then Some refusal.1 else first_that_applies others

-- ---- INVITE

-- the number of a conference, without leading zeros
abbrev pub is_conference_number : Option (List ℕ) → Bool
is_conference_number None = false
is_conference_number (Some digits) = not (has_leading_zero digits) && (not (length digits == 0) && list_all (in_class Digit) digits)

abbrev pub is_conference_user : Option (List ℕ) → Bool
is_conference_user None = false
is_conference_user (Some user) = is_conference_number (after_text (codes "room-") user)

abbrev pub is_conference : (sip : Addr) → Uri → Bool
is_conference sip (Sip user host port params headers) = names_server sip (Sip user host port params headers) && is_conference_user user
is_conference sip (Tel number params) = false

-- the URI is the conference factory URI
abbrev pub is_factory : (factory : Option Uri) → Uri → Bool
is_factory None target = false
is_factory (Some uri) target = is_same_identity uri target

-- the number of the conference that a URI names; 0, which no conference has, where the number is too great
abbrev pub conference_number : (sip : Addr) → Uri → RoomNo
conference_number sip target = record { 0 = unwrap_or (conference_in sip target) 0 }

-- an INVITE to a conference is refused unless it offers audio: the mixer takes nothing else (RFC 3264 §6)
abbrev pub audio_or_refusal : ParsedMessage → Disposition → Disposition
audio_or_refusal message decided = if offers_audio message.body then decided else Respond (plain_response 488)

-- it opens a call, unless as many live as may (`full`)
abbrev pub call_opening : (full : Bool) → Disposition
call_opening full = if full then Respond (plain_response 503) else OpenCall

-- to the conference factory, to a conference of the server, whether it is live or not, or to anybody else
abbrev pub invite_disposition_to : Directory → (full : Bool) → ParsedMessage → Uri → Disposition
invite_disposition_to directory full message target =
    if is_factory directory.factory target then audio_or_refusal message OpenConference
    else if is_conference directory.sip target then audio_or_refusal message (JoinConference (conference_number directory.sip target))
    else call_opening full

-- an INVITE whose Request-URI cannot be read is to no conference
abbrev pub invite_disposition_at : Directory → (full : Bool) → ParsedMessage → Result Uri Refusal → Disposition
invite_disposition_at directory full message (Ok target) = invite_disposition_to directory full message target
invite_disposition_at directory full message (Err refusal) = call_opening full

abbrev pub invite_disposition : Directory → (full : Bool) → ParsedMessage → Disposition
invite_disposition directory full message = invite_disposition_at directory full message (uri_of (request_uri message.start))

-- ---- REGISTER (§10.3), by which the core reports a registration (3GPP TS 24.229 §5.4.1.7, §5.7.1.1)

abbrev pub is_register : ParsedMessage → Bool
is_register message = is_method (codes "REGISTER") message.start

-- the account that a name-addr names
abbrev pub account_in : List AccountIdentity → List ℕ → Option Account
account_in accounts value = uri_in value >>= account_of accounts

-- the account that To names
abbrev pub to_account : List AccountIdentity → ParsedMessage → Option Account
to_account accounts message = message.to >>= account_in accounts

-- an hour without Expires, or where it is no number
abbrev pub seconds_of : Option ℕ → ℕ
seconds_of None = 3600
seconds_of (Some seconds) = seconds

abbrev pub registration_disposition_of : Option Account → ParsedMessage → Disposition
registration_disposition_of None message = Respond (plain_response 404)
registration_disposition_of (Some account) message = Register account (seconds_of message.expires)

-- the registration is accepted from a trusted peer alone
abbrev pub registration_disposition : List AccountIdentity → ParsedMessage → Disposition
registration_disposition accounts message = if message.trusted then registration_disposition_of (to_account accounts message) message else Respond (plain_response 403)

-- the account that is to be registered, where there is one: of a REGISTER of a trusted peer
abbrev pub registrant : List AccountIdentity → ParsedMessage → Option Account
registrant accounts message = if message.trusted && is_register message then to_account accounts message else None

-- ---- SUBSCRIBE

abbrev pub is_subscribe : ParsedMessage → Bool
is_subscribe message = is_method (codes "SUBSCRIBE") message.start

-- ---- requests that are not refused

-- by its method: OPTIONS gets 200; REFER, BYE and any other would need a dialog
abbrev pub disposition_by_method : Directory → (full : Bool) → ParsedMessage → Disposition
disposition_by_method directory full message =
    if is_method (codes "OPTIONS") message.start then Respond (response_with_allow directory 200)
    else if is_method (codes "REFER") message.start then Respond (plain_response 403)
    else if is_method (codes "INVITE") message.start then invite_disposition directory full message
    else if is_register message then registration_disposition directory.names.accounts message
    else if is_subscribe message then Subscribe
    else Respond (plain_response 481)

-- in the dialog of its owner
abbrev pub entry_into : DialogOwner → Disposition
entry_into (InCall call side) = Enter call side
entry_into (InConference room seat) = EnterConference room seat
entry_into (InSubscription sub) = EnterSubscription sub

-- its dialog is not that of a subscription
abbrev pub is_of_no_subscription : DialogOwner → Bool
is_of_no_subscription (InCall call side) = true
is_of_no_subscription (InConference room seat) = true
is_of_no_subscription (InSubscription sub) = false

-- a SUBSCRIBE in the dialog of a call or of a participant belongs to no subscription: neither receives it (RFC 6665 §4.2.1.2)
abbrev pub in_dialog_disposition : DialogOwner → ParsedMessage → Disposition
in_dialog_disposition owner message = if is_subscribe message && is_of_no_subscription owner then Respond (plain_response 481) else entry_into owner

-- in its dialog, where it names one
abbrev pub disposition_in : Directory → (full : Bool) → (named : Option DialogOwner) → ParsedMessage → Disposition
disposition_in directory full None message = disposition_by_method directory full message
disposition_in directory full (Some owner) message = in_dialog_disposition owner message

abbrev pub disposition_by : Directory → (full : Bool) → (named : Option DialogOwner) → ParsedMessage → Option StatusResponse → Disposition
disposition_by directory full named message None = disposition_in directory full named message
disposition_by directory full named message (Some answer) = Respond answer

-- the first refusal that applies decides, and without one the dialog or the method of the request
abbrev pub disposition_of : Directory → (merged full : Bool) → (named : Option DialogOwner) → ParsedMessage → Disposition
disposition_of directory merged full named message = disposition_by directory full named message (first_that_applies (refusals directory merged (is_some named) message))

-- the disposition by the public part of the request
unfoldable pub disposition : Directory → (merged full : Bool) → (named : Option DialogOwner) → ParsedMessage → Disposition
disposition directory merged full named message = disposition_of directory merged full named (public_part message)
