use Rattle.mmtel_transaction.proofs.Texts.{texts_decide_nothing}
use Rattle.mmtel_transaction.proofs.theorems.texts_decide_nothing.Goals as goal

pub returns : goal.returns
returns c = record { equivalent = texts_decide_nothing }
