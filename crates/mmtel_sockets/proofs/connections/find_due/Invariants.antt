use Rattle.mmtel_sockets.proofs.Rounds.{Round}
use Rattle.mmtel_sockets.proofs.connections.find_due.Given as goal

abbrev pub invariant-loop-turn : goal.invariant-loop-turn
invariant-loop-turn l = Round l.now l.initial.waiting l._turn l.waiting
