use Rattle.mmtel_http.proofs.HeadTheorems.{head_sound, head_complete}
use Rattle.mmtel_http.proofs.theorems.heads_are_of_the_grammar.Goals as goal

pub returns-clause-sound : goal.returns-clause-sound
returns-clause-sound c = λ bytes h e. (head_sound bytes h e).0

pub returns-clause-small : goal.returns-clause-small
returns-clause-small c = λ bytes h e. (head_sound bytes h e).1

pub returns-clause-complete : goal.returns-clause-complete
returns-clause-complete c = head_complete
