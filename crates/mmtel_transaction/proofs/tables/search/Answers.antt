use Rattle.std.proofs.Common.{rules, subst}
use Rattle.std.specs.List.Sorted.{IsSearchInRange}
use Rattle.std.proofs.lemmas.List.Sorted.{answers_always}
use Rattle.mmtel_transaction.proofs.Placing.{searched_boxes}
use Rattle.mmtel_transaction.proofs.tables.search.Goals as goal

pub returns-in-None : goal.returns-in-None
returns-in-None c =
    let facts = c.binary_search_by_key.ensures in
    let q = c.args.entries.now in
    let by_key = facts.position (λ b. b.value.key) (answers_always _ _ _ (λ f a r g called. search rules)) in
    let said = searched_boxes c.args.key q.items _ c.requires.rises (subst (IsSearchInRange c.binary_search_by_key.result) q.ok.0 facts.bound) by_key in
    record { found = said.found; absent = said.absent }
