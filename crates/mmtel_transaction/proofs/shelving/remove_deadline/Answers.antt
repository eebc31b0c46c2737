use Rattle.mmtel_transaction.proofs.Reaching.{deadlines_found, deadlines_parted}
use Rattle.mmtel_transaction.proofs.shelving.remove_deadline.Goals as goal

pub seek-from-requires : goal.seek-from-requires
seek-from-requires g c = deadlines_parted c.args.old.now c.args.due.now c.requires.ascends

pub returns : goal.returns
returns g c = record {
  removed = record {
    from = c.seek-from.result.position;
    at = deadlines_found c.seek-from.result.position c.args.old.now c.args.due.now c.requires.ascends c.seek-from.ensures.within c.seek-from.ensures.parted c.requires.there;
    removed = c.remove.ensures.rest;
  };
}
