use Rattle.std.proofs.Common.{◌≡◌, ◌++◌, ◌+◌, length, option_copied}
use Rattle.std.specs.Option.{option_map, option_map_or}
use Rattle.mmtel_directory.specs.Directory.{uris_of}
use Rattle.mmtel_directory.specs.Lines.{words_of, words_after}
use Rattle.mmtel_directory.proofs.config_lines.read_uris.Given as goal

abbrev pub invariant-words : goal.invariant-words
invariant-words l = option_map (λ more. l.uris ++ more) (uris_of (words_after (option_copied l.rest))) ≡ uris_of (words_of l.words)

abbrev pub decreases-words : goal.decreases-words
decreases-words l = option_map_or (λ more. length more.now + 1) l.rest 0
