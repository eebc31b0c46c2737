use Rattle.std.proofs.Common.{◌≡◌, ◌++◌}
use Rattle.std.specs.List.{flat_map}
use Rattle.mmtel_trust.specs.Privacy.{words}
use Rattle.mmtel_trust.specs.WrittenWords.{separated_word}
use Rattle.mmtel_trust.proofs.FoundWordTheorems.{words_of}
use Rattle.mmtel_trust.proofs.privacy.add_words.Given as goal

abbrev pub invariant-loop-value : goal.invariant-loop-value
invariant-loop-value l =
    (goal.iterator-loop-value).can_next l.value-iterator ×
    (goal.iterator-loop-value).is_finite l.value-iterator ×
    (l.out ++ flat_map separated_word (words_of l.value-iterator) ≡ l.fn.out ++ flat_map separated_word (words l.message.lines))
