use Rattle.std.proofs.Common.{◌≤◌, subst}
use Rattle.std.specs.List.Sorted.{IsPartitionPoint}
use Rattle.mmtel_transaction.specs.declared.match_keys.MatchKey.{MatchKey}
use Rattle.mmtel_transaction.specs.Indexes.{searched_key}
use Rattle.mmtel_transaction.proofs.Naming.{place_by_hash}
use Rattle.mmtel_transaction.proofs.Reaching.{matches_parted}
use Rattle.mmtel_transaction.proofs.shelving.insert_match.Goals as goal

pub seek-to-requires : goal.seek-to-requires
seek-to-requires g c = matches_parted (searched_key c.search_key.result) c.args.names.now c.requires.ascends

pub insert-requires-clause-ranked : goal.insert-requires-clause-ranked
insert-requires-clause-ranked g c =
    subst (λ (n : MatchKey). IsPartitionPoint (λ x. x.hash ≤ n.hash) (λ x. n.hash ≤ x.hash) c.args.names.now c.seek-to.result) c.search_key.ensures
    (place_by_hash (searched_key c.search_key.result) c.args.names.now c.seek-to.result c.seek-to.ensures.parted)
