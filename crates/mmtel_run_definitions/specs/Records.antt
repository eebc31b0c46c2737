-- The effect of registrations, each of which is valid until a moment (RFC 3261 §10.3); and what the calls get of records and registrations.
use Rattle.std.specs.Prelude.{ℕ, ◌+◌, ◌*◌, min, [], ◌∷◌, Some}
use Rattle.mmtel_records_in_force.specs.Texts.{Registrations, Texts}
use Rattle.mmtel_sheet_grammar.specs.Texts.{stored_sheet}
use Rattle.mmtel_sheet_values.specs.View.{SheetsInForce, no_sheets, with_registration_end, with_sheet}
use Rattle.mmtel_types.specs.Moments.{last_moment}

-- the moment so many seconds from now, or the last one that there is, in milliseconds since 1970-01-01T00:00:00Z
abbrev pub until_of : (now seconds : ℕ) → ℕ
until_of now seconds = min (now + seconds * 1000) last_moment

-- ---- what the calls get (`specs/InForce` states that it is what is in force)

-- the record that each text is, for its account; of several texts of an account the first one counts
abbrev pub with_records : Texts → SheetsInForce → SheetsInForce
with_records [] view = view
with_records (text ∷ others) view = with_sheet (with_records others view) text.0.0 (stored_sheet text.1)

-- until when each account is registered, by the first one of its registrations
abbrev pub with_ends : Registrations → SheetsInForce → SheetsInForce
with_ends [] view = view
with_ends (one ∷ others) view = with_registration_end (with_ends others view) one.0.0 (Some one.1)

abbrev pub in_force : Texts → Registrations → SheetsInForce
in_force texts registrations = with_ends registrations (with_records texts no_sheets)
