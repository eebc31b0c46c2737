use Rattle.std.proofs.Common.{subst, sym}
use Rattle.mmtel_output.proofs.Ascending.{ascends}
use Rattle.mmtel_output.specs.Marks.{Ascend}
use Rattle.mmtel_focus.specs.Marks.{number_of}
use Rattle.mmtel_focus.proofs.live.LiveConferences.place_of.Goals as goal

pub place_in-requires : goal.place_in-requires
place_in-requires c = ascends number_of 0 c.self.inside.opened c.deref.result.now (subst (λ l. Ascend number_of 0 l c.self.inside.opened) (sym c.deref.ensures.value) c.self.invariant.ascend)
