use Rattle.std.proofs.Common.{◌≡◌, ◌<◌, ap, arith, length, rules, sym, ◌∙◌}
use Rattle.std.specs.Prelude.{nat_lt}
use Rattle.std.proofs.lemmas.List.Sorted.{IsPartitionPoint-from_clause, IsPartitionedBy-ltb}
use Rattle.mmtel_output.proofs.Ascending.{place_gone, place_here, place_past}
use Rattle.mmtel_focus.specs.Marks.{number_of}
use Rattle.mmtel_focus.specs.Conferences.{Conference}
use Rattle.mmtel_focus.proofs.TableInvariant.{alike, differ}
use Rattle.mmtel_focus.proofs.live.place_in.Goals as goal

pub returns-then-place-conferences : goal.returns-then-place-conferences
returns-then-place-conferences c =
    let n = c.args.number.0 in
    let rooms = c.args.conferences.now in
    let i = c.partition_point-place.result in
    let parts = IsPartitionPoint-from_clause (λ (x : Conference). nat_lt (number_of x) n) rooms i c.partition_point-place.ensures.partitioned
    (IsPartitionedBy-ltb number_of rooms n c.requires) (λ a r f called. search rules) in
    place_past number_of n i rooms c.requires parts (omega (arith, c.if-place-conferences.true))

pub returns-then-found-number : goal.returns-then-found-number
returns-then-found-number c =
    let n = c.args.number.0 in
    let rooms = c.args.conferences.now in
    let i = c.partition_point-place.result in
    let x = c.index-conferences-place.result in
    let parts = IsPartitionPoint-from_clause (λ (x : Conference). nat_lt (number_of x) n) rooms i c.partition_point-place.ensures.partitioned
    (IsPartitionedBy-ltb number_of rooms n c.requires) (λ a r f called. search rules) in
    let less : i < length rooms = omega (arith, c.if-place-conferences.false, c.partition_point-place.ensures.bound) in
    let seen : c.found.inside.number.0 ≡ number_of x = ap number_of c.found.view_is in
    place_here number_of n i rooms c.requires parts x less c.index-conferences-place.is (alike (number_of x) n (sym seen ∙ c.if-found-number.true))

pub returns-else-found-number : goal.returns-else-found-number
returns-else-found-number c =
    let n = c.args.number.0 in
    let rooms = c.args.conferences.now in
    let i = c.partition_point-place.result in
    let x = c.index-conferences-place.result in
    let parts = IsPartitionPoint-from_clause (λ (x : Conference). nat_lt (number_of x) n) rooms i c.partition_point-place.ensures.partitioned
    (IsPartitionedBy-ltb number_of rooms n c.requires) (λ a r f called. search rules) in
    let less : i < length rooms = omega (arith, c.if-place-conferences.false, c.partition_point-place.ensures.bound) in
    let seen : c.found.inside.number.0 ≡ number_of x = ap number_of c.found.view_is in
    place_gone number_of n i rooms c.requires parts x less c.index-conferences-place.is (differ (number_of x) n (λ same. c.if-found-number.false (seen ∙ same)))
