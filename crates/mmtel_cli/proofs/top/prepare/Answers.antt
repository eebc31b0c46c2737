use Rattle.mmtel_cli.proofs.Commands.{prepares_none, prepares_one}
use Rattle.mmtel_cli.proofs.top.prepare.Goals as goal

pub returns-in-Ok-Some-clause-prepares : goal.returns-in-Ok-Some-clause-prepares
returns-in-Ok-Some-clause-prepares g c =
    prepares_one _ _ _ _ _ _ _ (rw c.in-Ok-Some.field-0-is at c.in-Ok-Some.ensures.spelled) (rw c.in-Ok-Some.field-0-is at c.in-Ok-Some.ensures.only)
    c.over_command.ensures.gives c.over_command.ensures.calls c.over_command.ensures.not_usage c.over_command.ensures.spared c.over_command.ensures.unbound
    c.over_command.ensures.arrival_faults

pub returns-in-Ok-None-clause-prepares : goal.returns-in-Ok-None-clause-prepares
returns-in-Ok-None-clause-prepares g c = prepares_none _ _ _ (rw c.in-Ok-None.field-0-is at c.in-Ok-None.ensures.only)
