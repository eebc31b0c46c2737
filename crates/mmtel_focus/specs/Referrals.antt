-- What a REFER asks for: Refer-To (RFC 3515 §2.1), the method in its URI (RFC 3261 §19.1.1), and a Replaces in the header part of that URI (RFC 3891 §3, §6.1).
use Rattle.std.specs.Prelude.{ℕ, Bool, true, if◌then◌else◌, Option, Some, None, List, [], ◌∷◌, codes, find}
use Rattle.std.specs.Option.{option_map, unwrap_or}
use Rattle.std.specs.Str.{bytes_eq}
use Rattle.mmtel_lex.specs.Percent.{percent_decoded_text}
use Rattle.mmtel_lex.specs.UriParts.{is_named, parts, text_after}
use Rattle.mmtel_lex.specs.declared.values.Param.{Param}
use Rattle.mmtel_lex.specs.declared.values.Uri.{Uri}
use Rattle.mmtel_lex.specs.declared.values.Uri.TheVariants.{Sip, Tel}
use Rattle.mmtel_trust.specs.Asserted.{uri_in}
pub use Rattle.mmtel_participants.specs.Targets.{is_method, is_no_method, target_of}
use Rattle.mmtel_focus.specs.declared.referrals.Referral.{Referral}
use Rattle.mmtel_focus.specs.declared.referrals.Referral.TheVariants.{Invite, Missing, OtherMethod, Replace}
use Rattle.mmtel_focus.specs.declared.referrals.Replaces.{Replaces}

-- ---- Replaces

-- the text after the `=` of the first of these that has the name
abbrev pub value_named : (name : List ℕ) → List (List ℕ) → Option (List ℕ)
value_named name words = option_map (text_after 61) (find (is_named name) words)

-- the Call-ID, and after it the parameters, each after a `;`
abbrev pub replaces_in : List (List ℕ) → Replaces
replaces_in [] = record { call_id = []; to_tag = None; from_tag = None }
replaces_in (call_id ∷ params) = record { call_id = call_id; to_tag = value_named (codes "to-tag") params; from_tag = value_named (codes "from-tag") params }

-- a value whose escapes cannot be decoded names no dialog
abbrev pub replaces_at : (value : List ℕ) → Replaces
replaces_at value = replaces_in (parts 59 (unwrap_or (percent_decoded_text value) []))

-- the first Replaces in the header part of a URI
unfoldable pub replaces_of : (headers : List ℕ) → Option Replaces
replaces_of headers = option_map replaces_at (value_named (codes "Replaces") (parts 38 headers))

-- ---- the URI

-- INVITE is asked for, by name or because no method is named
abbrev pub is_invite : Option Param → Bool
is_invite None = true
is_invite (Some p) = bytes_eq (unwrap_or p.value []) (codes "INVITE")

abbrev pub asks_invite : Uri → Bool
asks_invite (Sip user host port params headers) = is_invite (find is_method params)
asks_invite (Tel number params) = is_invite (find is_method params)

abbrev pub replaces_by : Uri → Option Replaces
replaces_by (Sip user host port params headers) = replaces_of headers
replaces_by (Tel number params) = None

-- ---- the request

abbrev pub replace_or_invite : Uri → Option Replaces → Referral
replace_or_invite u None = Invite (Some u)
replace_or_invite u (Some r) = Replace r

-- a URI of a scheme that the server does not support has no route
abbrev pub referral_to : Option Uri → Referral
referral_to None = Invite None
referral_to (Some u) = if asks_invite u then replace_or_invite u (replaces_by u) else OtherMethod

-- what the first Refer-To asks for
unfoldable pub referral_in : (values : List (List ℕ)) → Referral
referral_in [] = Missing
referral_in (value ∷ more) = referral_to (uri_in value)
