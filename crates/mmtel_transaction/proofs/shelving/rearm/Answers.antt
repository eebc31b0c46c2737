use Rattle.mmtel_transaction.proofs.Reaching.{deadlines_found, deadlines_left, deadlines_parted, deadlines_within}
use Rattle.mmtel_transaction.proofs.shelving.rearm.Goals as goal

pub seek-from-requires : goal.seek-from-requires
seek-from-requires g c = deadlines_parted c.args.old.now c.args.due.now c.requires.ascends

pub exchange-requires-clause-from : goal.exchange-requires-clause-from
exchange-requires-clause-from g c = deadlines_within c.seek-from.result.position c.args.old.now c.args.due.now c.requires.ascends c.seek-from.ensures.within c.seek-from.ensures.parted c.requires.there

pub exchange-requires-clause-parted : goal.exchange-requires-clause-parted
exchange-requires-clause-parted g c = deadlines_left c.args.new c.args.due.now c.seek-from.result.position c.requires.ascends

pub returns : goal.returns
returns g c = record {
  moved = record {
    from = c.seek-from.result.position;
    to = c.exchange.result.1;
    at = deadlines_found c.seek-from.result.position c.args.old.now c.args.due.now c.requires.ascends c.seek-from.ensures.within c.seek-from.ensures.parted c.requires.there;
    within = c.exchange.ensures.within;
    parted = c.exchange.ensures.place;
    moved = c.exchange.ensures.rest;
  };
}
