use Rattle.std.proofs.Common.{ap, ◌∙◌, subst, option_map}
use Rattle.std.specs.List.{find}
use Rattle.std.specs.Prelude.{option_copied, slice_get}
use Rattle.mmtel_timers.specs.Shelves.{comes_before, lookup_result, unboxed_items}
use Rattle.mmtel_timers.proofs.Lookups.{looked_of_rank}
use Rattle.mmtel_transaction.specs.declared.entries.Entry.{Entry}
use Rattle.mmtel_transaction.specs.declared.match_keys.MatchKey.{MatchKey}
use Rattle.mmtel_transaction.specs.Results.{is_client_with}
use Rattle.mmtel_transaction.specs.Indexes.{is_same_match, IsPlaceOf, match_cmp, searched_key}
use Rattle.mmtel_transaction.proofs.Naming.{same_hash, client_looked}
use Rattle.mmtel_transaction.proofs.Reaching.{matches_parted}
use Rattle.mmtel_transaction.proofs.tables.Tables.client_key.Goals as goal

pub find-requires : goal.find-requires
find-requires g c = matches_parted (searched_key c.of-mark.result) c.self.inside.clients c.self.invariant.clients.ascends

pub returns-clause-found : goal.returns-clause-found
returns-clause-found g c =
    let b = c.args.branch.now in
    let m = c.args.method.now in
    let names = c.self.inside.clients in
    let mark = searched_key c.of-mark.result in
    let found = c.find.ensures.found in
    let place = found.place in
    c.key_if.ensures
    ∙ (looked_of_rank (λ (x : MatchKey). x.hash) mark.hash (comes_before match_cmp mark) (is_same_match mark) (λ (x : MatchKey). x.key) (same_hash mark) names (option_copied c.find.result) found
    ∙ (ap (λ (n : MatchKey). lookup_result (is_same_match n) (λ (x : MatchKey). x.key) (slice_get names place)) c.of-mark.ensures
    ∙ (client_looked b m (unboxed_items c.self.inside.entries.items) names place c.self.invariant.clients c.self.invariant.rises (subst (λ (n : MatchKey). IsPlaceOf n names place) c.of-mark.ensures found.parted)
    ∙ ap (λ es. option_map (λ (e : Entry). e.key) (find (is_client_with b m) es)) c.self.view_is)))
