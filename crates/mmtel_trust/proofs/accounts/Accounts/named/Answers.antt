use Rattle.std.proofs.Common.{List, sym, subst}
use Rattle.mmtel_trust.specs.Accounts.{is_of}
use Rattle.mmtel_trust.specs.Hashes.{uri_hash}
use Rattle.mmtel_trust.specs.HashIndex.{Covers}
use Rattle.mmtel_trust.specs.declared.accounts.AccountIdentity.{AccountIdentity}
use Rattle.mmtel_trust.proofs.Indexing.{covers_uri}
use Rattle.mmtel_trust.proofs.accounts.Accounts.named.Goals as goal

pub first_item-requires : goal.first_item-requires
first_item-requires c =
    subst (λ (es : List AccountIdentity). Covers (is_of c.args.uri.now) (uri_hash c.args.uri.now) es c.self.inside.by_uri) (sym c.items.ensures)
    (covers_uri c.self.inside.identities c.self.inside.by_uri c.self.inside.by_account c.args.uri.now c.self.invariant)
