use Rattle.std.proofs.Common.{◌≡◌, ◌+◌, length}
use Rattle.mmtel_http.proofs.LineTheorems.{Counted}
use Rattle.mmtel_http.proofs.ends.head_end.Given as goal

abbrev pub invariant-lines : goal.invariant-lines
invariant-lines l = record {
  all : l.size + length l.rest ≡ length l.bytes;
  counted : Counted l.bytes l.size l.seen l.rest;
}

abbrev pub decreases-lines : goal.decreases-lines
decreases-lines l = length l.rest
