use Rattle.mmtel_trust.proofs.PrefixTheorems.{found_matches, found_there, found_longest, found_none}
use Rattle.mmtel_trust.proofs.theorems.longest_prefix_is_chosen.Goals as goal

pub returns : goal.returns
returns c = record { leads = found_matches; there = found_there; longest = found_longest; none = found_none }
