use Rattle.mmtel_cli.proofs.ServeRuns.{served_broken, served_closed, served_stopped}
use Rattle.mmtel_cli.proofs.serving.over_server.Goals as goal

pub returns-in-Ok-clause-served : goal.returns-in-Ok-clause-served
returns-in-Ok-clause-served g c =
    served_closed _ _ _ _ c.in-Ok.ensures.served (c.in-Ok.ensures.bound, (c.in-Ok.ensures.lost, c.in-Ok.ensures.delivery_faults)) c.in-Ok.ensures.cause c.in-Ok.ensures.number

pub returns-in-Err-LinkFault-clause-served : goal.returns-in-Err-LinkFault-clause-served
returns-in-Err-LinkFault-clause-served g c =
    served_broken _ _ _ _ c.in-Err-LinkFault.field-0-is c.in-Err-LinkFault.ensures.served
    (c.in-Err-LinkFault.ensures.bound, (c.in-Err-LinkFault.ensures.lost, c.in-Err-LinkFault.ensures.delivery_faults))
    c.in-Err-LinkFault.ensures.cause c.in-Err-LinkFault.ensures.number

pub returns-in-Err-NoMemory-clause-served : goal.returns-in-Err-NoMemory-clause-served
returns-in-Err-NoMemory-clause-served g c =
    served_stopped _ _ _ _ c.in-Err-NoMemory.field-0-is c.in-Err-NoMemory.ensures.served
    (c.in-Err-NoMemory.ensures.bound, (c.in-Err-NoMemory.ensures.lost, c.in-Err-NoMemory.ensures.delivery_faults)) c.in-Err-NoMemory.ensures.cause
