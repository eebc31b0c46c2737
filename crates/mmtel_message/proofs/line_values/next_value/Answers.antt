use Rattle.std.proofs.Common.{List, ap, map}
use Rattle.mmtel_message.specs.Message.{Line}
use Rattle.mmtel_message.proofs.line_values.next_value.Goals as goal

pub returns-in-None : goal.returns-in-None
returns-in-None c = ap (λ (ks : List Line). map (λ k. k.1) ks) c.in-None.ensures.line

pub returns-in-Some : goal.returns-in-Some
returns-in-Some c = ap (λ (ks : List Line). map (λ k. k.1) ks) c.in-Some.ensures.line
