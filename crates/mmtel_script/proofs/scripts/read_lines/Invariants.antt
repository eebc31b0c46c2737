use Rattle.std.proofs.Common.{◌≡◌, ◌≤◌, ◌+◌, length}
use Rattle.mmtel_directory.specs.Lines.{lines_of}
use Rattle.mmtel_script.specs.EventDrafts.{events_of_lines}
use Rattle.mmtel_script.proofs.scripts.read_lines.Given as goal

abbrev pub invariant-lines : goal.invariant-lines
invariant-lines l = record {
  same : events_of_lines l.peers.known 1 l.fn.draft (lines_of l.fn.bytes) ≡ events_of_lines l.peers.known l.number l.draft (lines_of l.rest);
  few : l.number + length l.rest ≤ length l.bytes + 1;
}

abbrev pub decreases-lines : goal.decreases-lines
decreases-lines l = length l.rest
