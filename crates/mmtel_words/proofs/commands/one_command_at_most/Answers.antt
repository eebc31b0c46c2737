use Rattle.mmtel_words.proofs.Lines.{only_one}
use Rattle.mmtel_words.proofs.commands.one_command_at_most.Goals as goal

pub returns : goal.returns
returns c = record { alone = only_one }
