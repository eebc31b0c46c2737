use Rattle.std.proofs.Common.{◌≡◌, ◌≤◌, [], length, Option}
use Rattle.mmtel_link.specs.LinkStates.{LinkInput}
use Rattle.mmtel_server.specs.DriveEffects.{IsCalledTimes, IsNeeded}
use Rattle.mmtel_server.specs.Turns.{IsReading}
use Rattle.mmtel_server.proofs.driving.read_request.Given as goal

-- each read returned a byte or more
abbrev pub invariant-loop-read : goal.invariant-loop-read
invariant-loop-read g l = record {
  reading : (input : Option LinkInput) → IsReading input (g.N.Link.input l.fn.link) [] → IsReading input (g.N.Link.input l.link) l.bytes;
  long : l._read ≤ length l.bytes;
  needed : IsNeeded (length l.bytes) l.bytes;
  delivery_faults : g.N.Link.delivery_faults l.link ≡ g.N.Link.delivery_faults l.fn.link;
  output : g.N.Link.output l.link ≡ g.N.Link.output l.fn.link;
  calls : IsCalledTimes (g.N.Link.calls l.fn.link) (g.N.Link.calls l.link) l._read;
  arrival_faults : g.N.Link.arrival_faults l.link ≡ g.N.Link.arrival_faults l.fn.link;
}
