use Rattle.std.proofs.Common.{ap, drop, ◌∙◌}
use Rattle.mmtel_focus.specs.Marks.{LiveConferencesView}
use Rattle.mmtel_focus.proofs.TableInvariant.{take_rest}
use Rattle.mmtel_focus.proofs.live.LiveConferences.conferences_from.Goals as goal

pub returns : goal.returns
returns c =
    take_rest c.deref-rooms.result.now c.args.from
    ∙ (ap (λ l. drop c.args.from l) c.deref-rooms.ensures.value ∙ ap (λ (t : LiveConferencesView). drop c.args.from t.items) c.self.view_is)
