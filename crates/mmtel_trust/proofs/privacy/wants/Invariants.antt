use Rattle.std.proofs.Common.{◌≡◌}
use Rattle.mmtel_trust.specs.FoundWords.{with_words}
use Rattle.mmtel_trust.specs.Privacy.{wants}
use Rattle.mmtel_trust.proofs.FoundWordTheorems.{words_of}
use Rattle.mmtel_trust.proofs.privacy.wants.Given as goal

abbrev pub invariant-loop-value : goal.invariant-loop-value
invariant-loop-value l =
    (goal.iterator-loop-value).can_next l.value-iterator ×
    (goal.iterator-loop-value).is_finite l.value-iterator ×
    (with_words l.found (words_of l.value-iterator) ≡ wants l.message.lines)
