use Rattle.std.proofs.Common.{◌∷◌, ℕ, arith, refl, subst}
use Rattle.mmtel_transaction.specs.Operations.{DidBegin}
use Rattle.mmtel_transaction.specs.Represents as table
use Rattle.mmtel_server.proofs.servers.Server.begin_step.Goals as goal

pub returns : goal.returns
returns c = record {
  done = λ out d token before w did short. record {
    represents = record {
      same_directory = did.represents.same_directory;
      tokens = did.represents.tokens;
      transactions = subst (λ (n : ℕ). table.Represents c.begin.new.self (DidBegin n ∷ w.actions)) did.represents.steps (c.begin.ensures.done w.actions did.represents.transactions);
      clock = did.represents.clock;
      steps = omega (arith, did.represents.steps, short.steps);
      texts = did.represents.texts;
      registered = did.represents.registered;
      calls = did.represents.calls;
      rooms = did.represents.rooms;
      boxes = did.represents.boxes;
      pending_timers = did.represents.pending_timers;
      waiting = did.represents.waiting;
      no_call_rows = did.represents.no_call_rows;
      no_conference_rows = did.represents.no_conference_rows;
      unfailed = did.represents.unfailed;
    };
    offers = did.offers;
  };
  directory = refl;
  armed = refl;
}
