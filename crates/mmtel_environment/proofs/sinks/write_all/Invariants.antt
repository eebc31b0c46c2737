use Rattle.std.proofs.Common.{length, ◌-◌, ◌≡◌, ◌≤◌, take}
use Rattle.std.specs.Io.KnownBytes.{Appends}
use Rattle.mmtel_environment.proofs.sinks.write_all.Given as goal

abbrev pub invariant-loop-at : goal.invariant-loop-at
invariant-loop-at g l =
    let written = g.S.Sink.written in
    let faults = g.S.Sink.faults in
    record {
      in_range : l.at ≤ length l.text;
      taken : Appends (written l.fn.out) (written l.out) (take l.at l.text);
      no_fault : faults l.out ≡ faults l.fn.out;
    }

abbrev pub decreases-loop-at : goal.decreases-loop-at
decreases-loop-at g l = length l.text - l.at
