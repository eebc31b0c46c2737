use Rattle.std.proofs.Common.{refl, sym, ap, append-nil}
use Rattle.mmtel_server_timers.specs.PendingTimers.{queue_of}
use Rattle.mmtel_server.proofs.servers.Server.new.Goals as goal

pub returns-clause-begins : goal.returns-clause-begins
returns-clause-begins c before = record {
  fuel = 0;
  enough = tt;
  represents = record {
    represents = record {
      same_directory = refl;
      tokens = c.new.ensures;
      transactions = c.new-2.ensures.represents;
      clock = c.first_moment.ensures;
      steps = refl;
      texts = c.in-Ok.ensures.texts;
      registered = c.in-Ok.ensures.registered;
      calls = c.in-Ok-empty_tables.ensures.calls;
      rooms = c.in-Ok-empty_tables.ensures.conferences;
      boxes = rw c.addr.ensures at c.new-boxes.ensures.nothing;
      waiting = c.new-4.ensures;
      no_call_rows = refl;
      no_conference_rows = refl;
      pending_timers = ap queue_of c.new-3.ensures;
      unfailed = refl;
    };
    offers = sym (append-nil before);
  };
}
