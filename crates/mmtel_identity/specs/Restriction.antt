-- Whether an identity is restricted: the restriction of the originating identity (OIR, TS 24.607 §4.5.2) and of the terminating identity (TIR, TS 24.608 §4.5.2), by the
-- words of Privacy (RFC 3323 §4.2; `id` is RFC 3325 §9.3) and by the record of the account. And whether it is presented (OIP and TIP, the same sections).
use Rattle.std.specs.Prelude.{Bool, true, not, ◌&&◌, ◌||◌, Option, Some, None}
use Rattle.mmtel_types.specs.declared.privacy.PrivacySet.{PrivacySet}
use Rattle.mmtel_types.specs.declared.sides.Side.{Side}
use Rattle.mmtel_types.specs.declared.sides.Side.TheVariants.{Caller, Callee}
use Rattle.mmtel_sheet_values.specs.declared.values.Restriction.{Restriction}
use Rattle.mmtel_sheet_values.specs.declared.values.Sheet.{Sheet}

-- a word requests that the identity is hidden
abbrev pub asks_for_privacy : PrivacySet → Bool
asks_for_privacy words = words.id || words.user || words.header

-- the service restricts: always in its permanent mode, and in its temporary mode where it restricts by default and Privacy does not have the word `none`
abbrev pub service_restricts : PrivacySet → Restriction → Bool
service_restricts words service = service.active && (service.permanent || (service.by_default && not words.none))

-- the words or the service restrict
abbrev pub is_restricted : PrivacySet → Restriction → Bool
is_restricted words service = asks_for_privacy words || service_restricts words service

-- the caller is restricted, by the sheet of the account that is served as the caller, if one is
abbrev pub is_caller_restricted : PrivacySet → Option Sheet → Bool
is_caller_restricted words None = asks_for_privacy words
is_caller_restricted words (Some sheet) = is_restricted words sheet.oir

-- a message of the called party is restricted, by the sheet of the account that is served as the called party, if one is
abbrev pub is_callee_restricted : PrivacySet → Option Sheet → Bool
is_callee_restricted words None = asks_for_privacy words
is_callee_restricted words (Some sheet) = is_restricted words sheet.tir

-- the identity of the other side is presented to the party of the sheet, which is on this side of the call
abbrev pub is_presented : Option Sheet → Side → Bool
is_presented None side = true
is_presented (Some sheet) Callee = sheet.oip
is_presented (Some sheet) Caller = sheet.tip
