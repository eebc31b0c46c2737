use Rattle.mmtel_lex.specs.SameIdentity.{is_same_identity}
use Rattle.mmtel_lex.proofs.SameIdentityTheorems.{identity_is, is_identity, same_test}
use Rattle.mmtel_lex.proofs.identity.same_identity.Goals as goal

pub returns-clause-tested : goal.returns-clause-tested
returns-clause-tested c = same_test c.are_same.result (is_same_identity c.args.a.now c.args.b.now)
    (λ e. is_identity c.args.a.now c.args.b.now (c.are_same.ensures.0 e))
    (λ e. c.are_same.ensures.1 (identity_is c.args.a.now c.args.b.now e))
