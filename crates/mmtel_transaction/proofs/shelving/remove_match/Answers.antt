use Rattle.mmtel_transaction.specs.Indexes.{searched_key}
use Rattle.mmtel_transaction.proofs.Reaching.{matches_parted, name_found}
use Rattle.mmtel_transaction.proofs.shelving.remove_match.Goals as goal

pub seek-from-requires : goal.seek-from-requires
seek-from-requires g c = matches_parted (searched_key c.args.old.now) c.args.names.now c.requires.ascends

pub returns : goal.returns
returns g c = record {
  removed = record {
    from = c.seek-from.result;
    at = name_found c.seek-from.result (searched_key c.args.old.now) c.args.names.now c.requires.ascends c.seek-from.ensures.within c.seek-from.ensures.parted c.requires.there;
    removed = c.remove.ensures.rest;
  };
}
