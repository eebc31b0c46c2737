use Rattle.std.proofs.Common.{take}
use Rattle.std.specs.Prelude.{flat_map}
use Rattle.mmtel_b2bua.specs.Marks.{relayed_marks}
use Rattle.mmtel_output.specs.Marks.{MarkUpdate}
use Rattle.mmtel_b2bua.proofs.marks.put_in_flight.Given as goal

abbrev pub invariant-loop-relayed : goal.invariant-loop-relayed
invariant-loop-relayed l = MarkUpdate l.stays l.call.0 (flat_map relayed_marks (take l.relayed-index l.in_flight)) l.fn.index l.index
