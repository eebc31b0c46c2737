use Rattle.std.proofs.Common.{◌≡◌, ◌++◌, ◌+◌, ◌-◌, ◌≤◌, length, map, IfSome}
use Rattle.std.specs.Option.{option_map_or}
use Rattle.mmtel_message.specs.Held.{held_lines}
use Rattle.mmtel_message.specs.Values.{values_of, values_from}
use Rattle.mmtel_message.specs.declared.values.Mode.TheVariants.{Plain}
use Rattle.mmtel_message.proofs.expansion.add_values.Given as goal

abbrev pub invariant-values : goal.invariant-values
invariant-values l =
    IfSome l.next (λ n. n ≤ length l.text) ×
    (held_lines l.bytes l.fn.out ++ map (λ v. (l.name, v)) (values_of l.text) ≡ held_lines l.bytes l.out ++ map (λ v. (l.name, v)) (values_from Plain l.text l.next))

abbrev pub decreases-values : goal.decreases-values
decreases-values l = option_map_or (λ n. length l.text - n + 1) l.next 0
