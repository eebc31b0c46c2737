use Rattle.std.proofs.Common.{◌≡◌, arith, Some, false, ap, pos, ◌*ℤ◌, ◌∙◌}
use Rattle.std.proofs.lemmas.Int.{ints}
use Rattle.jiff_fmt.specs.Printer.{options}
use Rattle.mmtel_sheets.proofs.PrintedMoments.{printed, text_of}
use Rattle.mmtel_sheets.proofs.moments.print_moment.Goals as goal

pub returns : goal.returns
returns c =
    let is : c.to_plain.result.nanosecond ≡ c.args.moment *ℤ pos 1_000_000 = grind (arith, ints, c.to_plain.ensures, c.in-Ok.ensures.value) in
    let setup : options c.precision.result ≡ (false, 84, Some 3) = c.precision.ensures ∙ ap (λ o. (o.0, o.1, Some 3)) c.new.ensures in
    let h = c.timestamp_text.ensures in
    text_of c.precision.result h.0 c.timestamp_text.result.bytes setup h.2 ∙ printed c.args.moment h.0 c.requires (h.1 ∙ is)
