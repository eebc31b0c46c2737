use Rattle.mmtel_sqlite.proofs.CauseList.{missed_by}
use Rattle.mmtel_sqlite.proofs.values.cause_of.Goals as goal

pub returns-clause-none : goal.returns-clause-none
returns-clause-none c = missed_by c.args.word.now c.args.status c.first_with_word_and_status.result c.first_with_word_and_status.ensures.none
