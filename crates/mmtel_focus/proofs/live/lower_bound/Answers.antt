use Rattle.std.proofs.Common.{rules}
use Rattle.std.specs.Prelude.{nat_lt}
use Rattle.std.proofs.lemmas.List.Sorted.{IsPartitionPoint-from_clause, IsPartitionedBy-ltb}
use Rattle.mmtel_output.proofs.Ascending.{all_lower}
use Rattle.mmtel_focus.specs.Marks.{number_of}
use Rattle.mmtel_focus.specs.Conferences.{Conference}
use Rattle.mmtel_focus.proofs.live.lower_bound.Goals as goal

pub returns-clause-lower : goal.returns-clause-lower
returns-clause-lower c =
    let n = c.args.number in
    let rooms = c.args.conferences.now in
    let i = c.partition_point.result in
    let parts = IsPartitionPoint-from_clause (λ (x : Conference). nat_lt (number_of x) n) rooms i c.partition_point.ensures.partitioned (IsPartitionedBy-ltb number_of rooms n c.requires) (λ a r f called. search rules) in
    all_lower number_of n i rooms c.requires parts
