use Rattle.std.proofs.Common.{sym}
use Rattle.mmtel_reliable.proofs.RackTheorems.{rack_found, rack_only}
use Rattle.mmtel_reliable.proofs.racks.read_rack.Goals as goal

pub returns-in-Some-clause-found : goal.returns-in-Some-clause-found
returns-in-Some-clause-found c = rack_found c.args.bytes.now c.in-Some.rack (sym c.in-Some.ensures)

pub returns-in-Some-clause-only : goal.returns-in-Some-clause-only
returns-in-Some-clause-only c rack is = let h = rack_only c.args.bytes.now rack is in let was = c.in-Some.ensures in cc (h, was)

pub returns-in-None-clause-only : goal.returns-in-None-clause-only
returns-in-None-clause-only c rack is = let h = rack_only c.args.bytes.now rack is in let was = c.in-None.ensures in absurd (cc (h, was))
