use Rattle.std.proofs.Common.{Box, Global, rules}
use Rattle.std.specs.Prelude.{nat_lt}
use Rattle.std.proofs.lemmas.List.Sorted.{IsPartitionPoint-from_clause, IsPartitionedBy-ltb}
use Rattle.mmtel_b2bua.specs.declared.entries.Entry.{Entry}
use Rattle.mmtel_b2bua.proofs.Keeping.{number_in}
use Rattle.mmtel_b2bua.proofs.call_table.first_from.Goals as goal

pub returns-in-None-clause-parted : goal.returns-in-None-clause-parted
returns-in-None-clause-parted c =
    let n = c.args.number in
    let bs = c.args.entries.now in
    IsPartitionPoint-from_clause (λ (b : Box Entry Global). nat_lt (number_in b) n) bs c.partition_point.result c.partition_point.ensures.partitioned (IsPartitionedBy-ltb number_in bs n c.requires)
    (λ a r f called. search rules)
