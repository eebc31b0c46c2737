use Rattle.mmtel_message.proofs.PartTheorems.{listed_of_12}
use Rattle.mmtel_message.proofs.expansion.is_listed.Goals as goal

pub returns-in-12 : goal.returns-in-12
returns-in-12 c = rw c.is_either-in-12.ensures (listed_of_12 c.args.name.now c.in-12.is)
