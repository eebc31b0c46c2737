-- The sheet of an account without a record (3GPP TS 24.604, 24.607, 24.608, 24.611, 24.615).
use Rattle.std.specs.Prelude.{true, false, None}
use Rattle.mmtel_sheet_values.specs.declared.values.Restriction.{Restriction}
use Rattle.mmtel_sheet_values.specs.declared.values.Sheet.{Sheet}

-- a restriction that is absent
abbrev pub not_restricted : Restriction
not_restricted = record { active = false; permanent = false; by_default = false }

-- by default: both presentations are active, and nothing else is
abbrev pub empty_sheet : Sheet
empty_sheet = record { diversion = None; incoming = None; outgoing = None; oip = true; oir = not_restricted; tip = true; tir = not_restricted; waiting = None }
