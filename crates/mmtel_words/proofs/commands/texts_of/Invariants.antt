use Rattle.std.proofs.Common.{◌≡◌, map, take}
use Rattle.mmtel_words.specs.CommandLine.{EachText}
use Rattle.mmtel_words.proofs.commands.texts_of.Given as goal

abbrev pub invariant-loop-word : goal.invariant-loop-word
invariant-loop-word l = (map (λ w. w.now) l.texts.items ≡ take l.word-index l.words) × EachText (take l.word-index l.words)
