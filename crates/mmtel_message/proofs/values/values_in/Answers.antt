use Rattle.std.specs.Option.{option_copied}
use Rattle.mmtel_message.specs.Values.{values_in}
use Rattle.mmtel_message.proofs.CommaTheorems.{goes_on}
use Rattle.mmtel_message.proofs.values.values_in.Goals as goal

pub parts-preserved : goal.parts-preserved
parts-preserved c = rw (c.in_ok-push.ensures.ok, c.in_ok-value.ensures, c.trim.ensures) (goes_on c.args.mode (values_in c.args.mode c.args.bytes.now) c.parts.values c.next_part.result.0.now
    c.in-Some.more.now (option_copied c.next_part.result.1) (rw c.requires at c.next_part.ensures.parts) (rw c.in-Some.is at c.parts.invariant))
