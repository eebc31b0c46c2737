-- Why a call is refused at its opening (RFC 3323 §4.2, RFC 5502 §4, TS 24.611 §4.5.2).
use Rattle.std.specs.Prelude.{Bool, false, ◌&&◌, if◌then◌else◌, Option, Some, None}
use Rattle.std.specs.Option.{option_map_or}
use Rattle.mmtel_types.specs.declared.causes.Cause.{Cause}
use Rattle.mmtel_types.specs.declared.causes.Cause.TheVariants as causes
use Rattle.mmtel_types.specs.declared.privacy.PrivacySet.{PrivacySet}
use Rattle.mmtel_sheet_values.specs.declared.values.Sheet.{Sheet}
use Rattle.mmtel_rules.specs.Facts.{FactsView}
use Rattle.mmtel_served_user.specs.ServedUser.{is_of_no_account}
use Rattle.mmtel_served_user.specs.declared.served_user.Served.{Served}
use Rattle.mmtel_precedence.specs.Services.{bars_outgoing}
use Rattle.mmtel_precedence.specs.Calls.{CallInputs, origin_sheet}
use Rattle.mmtel_precedence.specs.Targets.{target_facts}

-- it requests session privacy, which the server cannot provide, and is to fail without it
abbrev pub requires_privacy : PrivacySet → Bool
requires_privacy words = words.session && words.critical

-- by the words of its Privacy, by the user for whom it is served, and by the record of the account that is served as the caller, whose own barring is evaluated for the target; in
-- this order
abbrev pub refusal_on_opening : PrivacySet → Served → Option Sheet → FactsView → Option Cause
refusal_on_opening words served sheet c =
    if requires_privacy words then Some causes.Critical
    else if is_of_no_account served then Some causes.NoAccount
    else if option_map_or (bars_outgoing c) sheet false then Some causes.OutgoingBarred
    else None

-- why the call is refused
abbrev pub refusal_at_opening : CallInputs → Option Cause
refusal_at_opening call = refusal_on_opening call.privacy call.served (origin_sheet call) (target_facts call call.opening_snapshot.at call.first_target)
