use Rattle.std.proofs.Common.{◌≡◌, subst}
use Rattle.mmtel_trust.specs.HashIndex.{HasAlso}
use Rattle.mmtel_trust.proofs.Pairs.{put}
use Rattle.mmtel_trust.proofs.hash_index.HashIndex.add.Goals as goal

pub returns-in_ok-insert-in-Some-clause-ok : goal.returns-in_ok-insert-in-Some-clause-ok
returns-in_ok-insert-in-Some-clause-ok c =
    let before : c.in-Some.kept.keys ≡ c.args.self.now = rw c.in-Some.is at c.self.view_is in
    subst (λ ks. HasAlso c.args.hash c.args.position ks c.insert.new.self.keys) before (put c.in-Some.kept c.insert.new.self c.args.hash c.args.position c.in_ok-insert-in-Some.ensures.updates)
