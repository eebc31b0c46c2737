use Rattle.mmtel_delivery.proofs.Deliveries.{delivered_more, delivered_none}
use Rattle.mmtel_delivery.proofs.theorems.parts_are_delivered.Goals as goal

pub returns-clause-none : goal.returns-clause-none
returns-clause-none c = delivered_none

pub returns-clause-both : goal.returns-clause-both
returns-clause-both c = delivered_more
