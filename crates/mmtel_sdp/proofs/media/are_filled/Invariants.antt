use Rattle.std.proofs.Common.{◌≡◌, length}
use Rattle.std.specs.List.{list_all}
use Rattle.mmtel_sdp.specs.Sdp.{words, is_filled}
use Rattle.mmtel_sdp.proofs.media.are_filled.Given as goal

abbrev pub invariant-words : goal.invariant-words
invariant-words l = list_all is_filled (words l.fn.text) ≡ list_all is_filled (words l.rest)

abbrev pub decreases-words : goal.decreases-words
decreases-words l = length l.rest
