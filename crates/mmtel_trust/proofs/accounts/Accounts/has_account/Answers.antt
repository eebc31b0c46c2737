use Rattle.std.proofs.Common.{List, sym, subst}
use Rattle.mmtel_trust.specs.Indexes.{is_of_account}
use Rattle.mmtel_trust.specs.HashIndex.{Covers}
use Rattle.mmtel_trust.specs.declared.accounts.AccountIdentity.{AccountIdentity}
use Rattle.mmtel_trust.proofs.Indexing.{covers_account}
use Rattle.mmtel_trust.proofs.accounts.Accounts.has_account.Goals as goal

pub has_item-requires : goal.has_item-requires
has_item-requires c =
    subst (λ (es : List AccountIdentity). Covers (is_of_account c.args.account) c.args.account.0 es c.self.inside.by_account) (sym c.items.ensures)
    (covers_account c.self.inside.identities c.self.inside.by_uri c.self.inside.by_account c.args.account c.self.invariant)
