use Rattle.std.proofs.Common.{arith}
use Rattle.mmtel_cli.proofs.Scripted.{offers_all_of}
use Rattle.mmtel_cli.proofs.OutOfMemory.{stops_all_of}
use Rattle.mmtel_cli.proofs.runs.drive_over.Goals as goal

pub returns-in-Ok : goal.returns-in-Ok
returns-in-Ok g c = record {
  stopped = tt;
  run = λ directory. λ token. λ loaded. λ went.
      offers_all_of c.connections_are_read_out.ensures.unfailed c.connections_are_read_out.ensures.all c.runs_keep_noninterference.ensures.offers directory token loaded
      _ _ _ _ _ _ c.in-Ok.ensures.driven went c.args.events (c.requires.unfailing c.args.link.now).1 (c.requires.unfailing c.drive.new.link).1 c.requires.no_arrivals (omega arith);
}

pub returns-in-Err-NoMemory : goal.returns-in-Err-NoMemory
returns-in-Err-NoMemory g c = record {
  run = tt;
  stopped = λ directory. λ token. λ loaded. λ went.
      stops_all_of c.connections_are_read_out.ensures.unfailed directory token loaded _ _ _ _ _ (rw c.in-Err-NoMemory.field-0-is at c.in-Err-NoMemory.ensures.driven) went
      c.args.events (c.requires.unfailing c.args.link.now).1 (c.requires.unfailing c.drive.new.link).1 c.requires.no_arrivals;
}
