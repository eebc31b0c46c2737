-- The texts of a conference are clean, and so is the URI to which a REFER asks for an INVITE.
use Rattle.std.proofs.Common.{◌≡◌, Bool, true, false, ℕ, List, [], ◌∷◌, ◌++◌, Option, Some, None, refl}
use Rattle.std.specs.Prelude.{IfSome, codes, decimal, filter, if◌then◌else◌}
use Rattle.mmtel_base.specs.Chain.{◌>>=◌}
use Rattle.mmtel_lex.specs.Grammar.{headers_text, param_text, params_text, port_text, user_text}
use Rattle.mmtel_lex.specs.Reading.{name_addr_of, uri_of}
use Rattle.mmtel_lex.specs.declared.values.NameAddr.{NameAddr}
use Rattle.mmtel_lex.specs.declared.values.Param.{Param}
use Rattle.mmtel_lex.specs.declared.values.Uri.{Uri}
use Rattle.mmtel_lex.specs.declared.values.Uri.TheVariants.{Sip, Tel}
use Rattle.mmtel_message.specs.Addresses.{addr_text}
use Rattle.mmtel_message.specs.Headers.{is_value_byte}
use Rattle.mmtel_message.specs.Message.{Line}
use Rattle.mmtel_trust.specs.Asserted.{or_no_uri, uri_in}
use Rattle.mmtel_types.specs.declared.addrs.Addr.{Addr}
use Rattle.mmtel_types.specs.declared.numbers.RoomNo.{RoomNo}
use Rattle.mmtel_focus.specs.Referrals.{asks_invite, is_no_method, referral_in, referral_to, replace_or_invite, replaces_by, target_of}
use Rattle.mmtel_participants.specs.Texts.{conference_from, conference_uri, contact_and_sdp_lines, contact_line, contact_value, notify_lines, sdp_lines, subscription_state}
use Rattle.mmtel_focus.specs.declared.referrals.Referral.{Referral}
use Rattle.mmtel_focus.specs.declared.referrals.Referral.TheVariants as referral
use Rattle.mmtel_focus.specs.declared.referrals.Replaces.{Replaces}
use Rattle.mmtel_call_theorems.specs.NoInjection.Messages.{HasNoInjection, LinesHaveNoInjection, line_has_no_injection}
use Rattle.mmtel_call_theorems.specs.NoInjection.Inputs.{UriHasNoInjection}
use Rattle.mmtel_call_theorems.proofs.NoInjection.Building.{addr_no_injection}
use Rattle.mmtel_call_theorems.proofs.NoInjection.Bytes.{all_cons, decimal_no_injection, joined, line_no_injection, parted}
use Rattle.mmtel_call_theorems.proofs.NoInjection.ReceivedMessages.{read_uri_no_injection}

-- ---- how a conference names itself

pub room_no_injection : (sip : Addr) (room : RoomNo) → HasNoInjection (conference_uri sip room)
unfolding conference_uri
room_no_injection sip room =
    joined (codes "sip:room-") (decimal room.0 ++ 64 ∷ addr_text sip) refl
    (joined (decimal room.0) (64 ∷ addr_text sip) (decimal_no_injection room.0) (all_cons is_value_byte 64 (addr_text sip) refl (addr_no_injection sip)))

pub from_no_injection : (sip : Addr) (room : RoomNo) (tag : List ℕ) → HasNoInjection tag → HasNoInjection (conference_from sip room tag)
unfolding conference_from
from_no_injection sip room tag e =
    all_cons is_value_byte 60 (conference_uri sip room ++ (codes ">;tag=" ++ tag)) refl
    (joined (conference_uri sip room) (codes ">;tag=" ++ tag) (room_no_injection sip room) (joined (codes ">;tag=") tag refl e))

pub contact_no_injection : (sip : Addr) (room : RoomNo) → HasNoInjection (contact_value sip room)
unfolding contact_value
contact_no_injection sip room =
    all_cons is_value_byte 60 (conference_uri sip room ++ codes ">;isfocus") refl (joined (conference_uri sip room) (codes ">;isfocus") (room_no_injection sip room) refl)

contact_line_no_injection : (sip : Addr) (room : RoomNo) → line_has_no_injection (contact_line sip room) ≡ true
contact_line_no_injection sip room = line_no_injection (codes "Contact") (contact_value sip room) refl (contact_no_injection sip room)

pub sdp_no_injection : LinesHaveNoInjection sdp_lines
sdp_no_injection = refl

pub described_clean : (sip : Addr) (room : RoomNo) → LinesHaveNoInjection (contact_and_sdp_lines sip room)
described_clean sip room = all_cons line_has_no_injection (contact_line sip room) sdp_lines (contact_line_no_injection sip room) sdp_no_injection

subscription_state_no_injection : (on : Bool) → HasNoInjection (subscription_state on)
subscription_state_no_injection true = refl
subscription_state_no_injection false = refl

pub notify_no_injection : (sip : Addr) (room : RoomNo) (on : Bool) → LinesHaveNoInjection (notify_lines sip room on)
unfolding notify_lines
notify_no_injection sip room on =
    let type_line : Line = (codes "Content-Type", codes "message/sipfrag;version=2.0") in
    let state_line : Line = (codes "Subscription-State", subscription_state on) in
    let event_line : Line = (codes "Event", codes "refer") in
    all_cons line_has_no_injection (contact_line sip room) (event_line ∷ state_line ∷ type_line ∷ []) (contact_line_no_injection sip room)
    (all_cons line_has_no_injection event_line (state_line ∷ type_line ∷ []) refl
    (all_cons line_has_no_injection state_line (type_line ∷ []) (line_no_injection (codes "Subscription-State") (subscription_state on) refl (subscription_state_no_injection on)) refl))

-- ---- the target of a REFER

filtered_no_injection : (keeps : Param → Bool) (ps : List Param) → HasNoInjection (params_text ps) → HasNoInjection (params_text (filter keeps ps))
filtered_no_injection keeps [] e = refl
filtered_no_injection keeps (p ∷ ps) e =
    let halves = parted (param_text p) (params_text ps) e in
    by (keeps p) halves.0 (filtered_no_injection keeps ps halves.1)
  where
    by : (t : Bool) → HasNoInjection (param_text p) → HasNoInjection (params_text (filter keeps ps)) → HasNoInjection (params_text (if t then p ∷ filter keeps ps else filter keeps ps))
    by true f g = joined (param_text p) (params_text (filter keeps ps)) f g
    by false f g = g

pub target_no_injection : (u : Uri) → UriHasNoInjection u → UriHasNoInjection (target_of u)
target_no_injection (Sip user host port params headers) e =
    let kept : List Param = filter is_no_method params in
    let one = parted (codes "sip:") (user_text user ++ (host ++ (port_text port ++ (params_text params ++ headers_text headers)))) e in
    let two = parted (user_text user) (host ++ (port_text port ++ (params_text params ++ headers_text headers))) one.1 in
    let three = parted host (port_text port ++ (params_text params ++ headers_text headers)) two.1 in
    let four = parted (port_text port) (params_text params ++ headers_text headers) three.1 in
    let five = parted (params_text params) (headers_text headers) four.1 in
    joined (codes "sip:") (user_text user ++ (host ++ (port_text port ++ (params_text kept ++ headers_text [])))) refl
    (joined (user_text user) (host ++ (port_text port ++ (params_text kept ++ headers_text []))) two.0
    (joined host (port_text port ++ (params_text kept ++ headers_text [])) three.0
    (joined (port_text port) (params_text kept ++ headers_text []) four.0
    (joined (params_text kept) (headers_text []) (filtered_no_injection is_no_method params five.0) refl))))
target_no_injection (Tel number params) e =
    let kept : List Param = filter is_no_method params in
    let one = parted (codes "tel:") (number ++ params_text params) e in
    let two = parted number (params_text params) one.1 in
    joined (codes "tel:") (number ++ params_text kept) refl (joined number (params_text kept) two.0 (filtered_no_injection is_no_method params two.1))

-- the URI of the request that is asked for is clean, whatever was received
abbrev pub ReferralHasNoInjection : Referral → Type 0
ReferralHasNoInjection referral.Missing = Unit {0}
ReferralHasNoInjection referral.OtherMethod = Unit {0}
ReferralHasNoInjection (referral.Invite u) = IfSome u UriHasNoInjection
ReferralHasNoInjection (referral.Replace r) = Unit {0}

value_uri_no_injection : (value : List ℕ) → IfSome (uri_in value) UriHasNoInjection
value_uri_no_injection value = by (name_addr_of value)
  where
    by : (o : Option NameAddr) → IfSome (o >>= λ n. or_no_uri (uri_of n.uri)) UriHasNoInjection
    by None = tt
    by (Some n) = read_uri_no_injection n.uri

instead_no_injection : (u : Uri) (o : Option Replaces) → UriHasNoInjection u → ReferralHasNoInjection (replace_or_invite u o)
instead_no_injection u None e = e
instead_no_injection u (Some r) e = tt

to_no_injection : (o : Option Uri) → IfSome o UriHasNoInjection → ReferralHasNoInjection (referral_to o)
to_no_injection None e = tt
to_no_injection (Some u) e = by (asks_invite u)
  where
    by : (t : Bool) → ReferralHasNoInjection (if t then replace_or_invite u (replaces_by u) else referral.OtherMethod)
    by true = instead_no_injection u (replaces_by u) e
    by false = tt

pub referral_no_injection : (values : List (List ℕ)) → ReferralHasNoInjection (referral_in values)
unfolding referral_in
referral_no_injection [] = tt
referral_no_injection (value ∷ more) = to_no_injection (uri_in value) (value_uri_no_injection value)
