use Rattle.mmtel_reliable.proofs.ResponseTheorems.{all_awaited, numbers_rise}
use Rattle.mmtel_reliable.proofs.theorems.responses_acknowledged_in_order.Goals as goal

pub returns-clause-once : goal.returns-clause-once
returns-clause-once c = numbers_rise

pub returns-clause-awaited : goal.returns-clause-awaited
returns-clause-awaited c = all_awaited
