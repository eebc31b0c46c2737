use Rattle.mmtel_message.proofs.ReadTheorems.{split_lines}
use Rattle.mmtel_message.proofs.SpellingTheorems.{split_whole}
use Rattle.mmtel_message.proofs.theorems.lines_are_the_whole.Goals as goal

pub returns : goal.returns
returns c = record {
  whole = split_whole;
  apart = split_lines;
}
