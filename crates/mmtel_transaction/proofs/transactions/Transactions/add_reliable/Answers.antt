use Rattle.std.proofs.Common.{◌≡◌, map, ap, subst, sym}
use Rattle.mmtel_transaction.specs.Changes.{change_of_key, with_reliable_if}
use Rattle.mmtel_transaction.proofs.Changing.{hit_none}
use Rattle.mmtel_transaction.proofs.transactions.Transactions.add_reliable.Goals as goal

pub returns-in-None-clause-ok : goal.returns-in-None-clause-ok
returns-in-None-clause-ok g c =
    let old = c.args.self.now in
    subst (λ answer. old ≡ record old { entries = map (change_of_key c.args.key (with_reliable_if answer)) old.entries }) (sym c.in-None.is) (ap (λ es. record old { entries = es }) (hit_none c.args.key old.entries))
