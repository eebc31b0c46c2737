-- A URI, where it has a given scheme.
use Rattle.std.specs.Prelude.{Option, Some, None, if◌then◌else◌}
use Rattle.mmtel_lex.specs.declared.values.Uri.{Uri}
use Rattle.mmtel_trust.specs.Asserted.{is_of_scheme}
use Rattle.mmtel_trust.specs.declared.identities.Scheme.{Scheme}

abbrev pub of_scheme : Scheme → Option Uri → Option Uri
of_scheme s None = None
of_scheme s (Some u) = if is_of_scheme s u then Some u else None
