use Rattle.std.proofs.Common.{◌∙◌, ap, arith, take}
use Rattle.mmtel_message.specs.Held.{Lines}
use Rattle.mmtel_message.proofs.HeldTheorems.{front_beyond, front_within}
use Rattle.mmtel_message.proofs.held.Lines.before.Goals as goal

pub returns-then-index-self : goal.returns-then-index-self
returns-then-index-self c =
    front_within c.self.inside.received.now c.self.inside.held.now c.self.inside.added.now c.args.index (omega arith)
    ∙ ap (λ (l : Lines). take c.args.index l.values) c.self.view_is

pub returns : goal.returns
returns c =
    front_beyond c.self.inside.received.now c.self.inside.held.now c.self.inside.added.now c.args.index (omega arith)
    ∙ ap (λ (l : Lines). take c.args.index l.values) c.self.view_is
