use Rattle.std.proofs.Common.{Some, ap}
use Rattle.mmtel_words.specs.Commands.{command_in}
use Rattle.mmtel_words.proofs.Lines.{only_one}
use Rattle.mmtel_words.proofs.commands.command.Goals as goal

pub returns-in-Ok-clause-only : goal.returns-in-Ok-clause-only
returns-in-Ok-clause-only c = λ wanted spells. ap (λ w. Some w) (only_one (command_in c.in-Ok.read_command) wanted c.args.words.now c.in-Ok.ensures spells)
