use Rattle.mmtel_reliable.proofs.ResponseTheorems.{numbers_counted, numbers_follow}
use Rattle.mmtel_reliable.proofs.theorems.own_numbers_count_up.Goals as goal

pub returns-clause-counted : goal.returns-clause-counted
returns-clause-counted c = numbers_counted

pub returns-clause-followed : goal.returns-clause-followed
returns-clause-followed c = numbers_follow
