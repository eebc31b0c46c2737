-- What is known of a call as it opens (RFC 3261 §12.1.1, RFC 3323 §4.2, RFC 5502 §4, TS 24.611 §4.5.2): it is read from the INVITE and from the record of the account that is
-- served as the caller.
use Rattle.std.specs.Prelude.{ℕ, ◌-◌, false, if◌then◌else◌, Option, List, [], codes, is_ok}
use Rattle.std.specs.Option.{option_map, unwrap_or}
use Rattle.mmtel_compose.specs.ReceivedMessages.{MessageView}
use Rattle.mmtel_history.specs.HistoryInfo.{diversions_in, entries_result}
use Rattle.mmtel_history.specs.declared.entries.Entry.{Entry}
use Rattle.mmtel_identity.specs.Restriction.{is_caller_restricted}
use Rattle.mmtel_leg.specs.Dialogues.{request_uri}
use Rattle.mmtel_lex.specs.declared.values.Uri.TheVariants.{Tel}
use Rattle.mmtel_message.specs.Message.{line_texts}
use Rattle.mmtel_call_parties.specs.Routing.{remaining_routes}
use Rattle.mmtel_precedence.specs.Calls.{SnapshotView, sheet_at}
use Rattle.mmtel_precedence.specs.Opening.{refusal_on_opening}
use Rattle.mmtel_sdp.specs.Offers.{kinds_of}
use Rattle.mmtel_sheet_values.specs.declared.values.Sheet.{Sheet}
use Rattle.mmtel_served_user.specs.Targets.{first_target}
use Rattle.mmtel_served_user.specs.declared.served_user.Served.{Served}
use Rattle.mmtel_served_user.specs.declared.targets.Target.{Target}
use Rattle.mmtel_types.specs.declared.causes.Cause.{Cause}
use Rattle.mmtel_call_services.specs.Decisions.{target_facts}
use Rattle.mmtel_call_services.specs.Diversions.{DiversionsView}
use Rattle.mmtel_call_services.specs.CallConfig.{CallConfigView}
use Rattle.mmtel_call_services.specs.declared.openings.Arrival.{Arrival}
use Rattle.mmtel_call_services.specs.declared.openings.Opening.{Opening}

-- the record of the account that is served as the caller
abbrev pub origin_sheet : SnapshotView → Served → Option Sheet
origin_sheet now served = option_map (sheet_at now) served.origin

-- what is known of the call, where the server's tag in the caller's dialog is this one
abbrev pub opening_of : CallConfigView → SnapshotView → (tag : List ℕ) → Arrival → Opening
opening_of config now tag a = record {
  number = a.number;
  key = a.key;
  invite = a.invite;
  tag = tag;
  served = a.served;
  registration = a.registration;
  sheet = origin_sheet now a.served;
  restricted = is_caller_restricted a.invite.parsed.wants (origin_sheet now a.served);
  identities = a.identities;
  media = kinds_of a.invite.parsed.body;
  routes = remaining_routes config.sip a.invite.parsed.routes;
}

-- its History-Info; values that cannot be parsed are not kept, but no message that was read has such values
abbrev pub received_history : MessageView → List Entry
received_history m = if is_ok (entries_result (line_texts (codes "History-Info") m.parsed.lines)) then m.parsed.history else []

-- before any diversion is made: the bound counts the earlier diversions that this History-Info contains
abbrev pub initial_diversions : (bound : ℕ) → List Entry → DiversionsView
initial_diversions bound history = record {
  remaining = bound - diversions_in history;
  count = diversions_in history;
  history = history;
  hides_diverting = false;
  hides_target = false;
}

-- ---- its first target

-- if a Request-URI names no target, the call cannot be sent anywhere: its target is a tel URI without digits
abbrev pub no_target : Target
no_target = record { uri = Tel [] []; of_number = false }

abbrev pub initial_target : Opening → Target
initial_target o = unwrap_or (first_target (request_uri o.invite.parsed.start)) no_target

-- the cause that refuses the call, if any
abbrev pub opening_refusal : CallConfigView → (at : ℕ) → Opening → Option Cause
opening_refusal config at o = refusal_on_opening o.invite.parsed.wants o.served o.sheet (target_facts config o at (initial_target o).uri)
