use Rattle.std.proofs.Common.{refl}
use Rattle.mmtel_output.proofs.Marking.{index_after_removal}
use Rattle.mmtel_output.proofs.index.Index.remove_others.Goals as goal

pub returns-then-last-owner : goal.returns-then-last-owner
returns-then-last-owner c k held = index_after_removal c.args.self.now _ k refl c.remove_keys.ensures.gone c.remove_keys.ensures.others held
