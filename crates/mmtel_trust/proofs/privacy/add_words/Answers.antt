use Rattle.std.proofs.Common.{refl}
use Rattle.mmtel_trust.proofs.FoundWordTheorems.{words_are}
use Rattle.mmtel_trust.proofs.privacy.add_words.Goals as goal

pub loop-value-init : goal.loop-value-init
loop-value-init c = rw (c.into_iter-value-iterator.ensures.into_iter_gives, c.values_in-value-items.ensures, words_are c.args.message.now.lines) (tt, tt, refl)
