use Rattle.std.proofs.Common.{ap, ◌∙◌}
use Rattle.std.specs.Prelude.{is_some}
use Rattle.mmtel_trust.proofs.Lookups.{copied_some, found_any}
use Rattle.mmtel_trust.proofs.hash_index.has_item.Goals as goal

pub returns : goal.returns
returns g c =
    c.is_some.ensures ∙ (copied_some c.first_item.result ∙ (ap is_some c.first_item.ensures ∙ found_any (g.K.LookupKey.is_key_of c.args.key.now) c.args.items.now))
