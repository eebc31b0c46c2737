use Rattle.std.proofs.Common.{sym}
use Rattle.mmtel_sdp.proofs.Parts.{cut_more, cut_one, part_shorter}
use Rattle.mmtel_directory.specs.Lines.{words_of}
use Rattle.mmtel_directory.proofs.lines.first_word.Goals as goal

pub returns-in-Some-clause-words : goal.returns-in-Some-clause-words
unfolding words_of
returns-in-Some-clause-words c = cut_more 32 c.args.bytes.now _ (sym c.in-Some.ensures)

pub returns-in-Some-clause-shorter : goal.returns-in-Some-clause-shorter
returns-in-Some-clause-shorter c = part_shorter 32 c.args.bytes.now _ (sym c.in-Some.ensures)

pub returns-in-None-clause-words : goal.returns-in-None-clause-words
unfolding words_of
returns-in-None-clause-words c = cut_one 32 c.args.bytes.now (sym c.in-None.ensures)
