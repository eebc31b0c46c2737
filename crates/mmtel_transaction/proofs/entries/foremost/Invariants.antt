use Rattle.std.proofs.Common.{◌≡◌, drop}
use Rattle.mmtel_transaction.specs.Deadlines.{foremost, foremost_from, sooner_of}
use Rattle.mmtel_transaction.proofs.entries.foremost.Given as goal

abbrev pub invariant-loop-place : goal.invariant-loop-place
invariant-loop-place l = sooner_of l.first (foremost_from l.place (drop l.place l.responses)) ≡ foremost l.responses
