use Rattle.mmtel_message.proofs.HeldTheorems.{first_from, last_to}
use Rattle.mmtel_message.proofs.held.Lines.at.Goals as goal

pub returns-clause-first : goal.returns-clause-first
returns-clause-first c = first_from c.args.self.now.values c.args.index (c.item.result.0.now, c.item.result.1.now) c.item.ensures

pub returns-clause-last : goal.returns-clause-last
returns-clause-last c = last_to c.args.self.now.values c.args.index (c.item.result.0.now, c.item.result.1.now) c.item.ensures
