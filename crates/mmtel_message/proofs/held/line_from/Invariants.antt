use Rattle.std.proofs.Common.{◌≡◌, drop, filter}
use Rattle.std.specs.Str.{str_eq_ignore_ascii_case}
use Rattle.mmtel_message.proofs.held.line_from.Given as goal

abbrev pub invariant-loop-i : goal.invariant-loop-i
invariant-loop-i g l =
    filter (λ x. str_eq_ignore_ascii_case x.0 l.name) (drop l.from l.lines) ≡ filter (λ x. str_eq_ignore_ascii_case x.0 l.name) (drop l.i l.lines)
