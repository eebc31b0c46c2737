use Rattle.std.proofs.Common.{◌≡◌, Some, false, IfSome, sym, ap, subst, ◌∙◌}
use Rattle.mmtel_trust.specs.Accounts.{has_identity, account_of}
use Rattle.mmtel_trust.proofs.AccountTheorems.{added_found, others_found}
use Rattle.mmtel_trust.proofs.accounts.Accounts.add.Goals as goal

pub returns-clause-found : goal.returns-clause-found
returns-clause-found c =
    let none : has_identity c.args.uri c.self.inside.identities ≡ false = sym (c.has_identity.ensures ∙ ap (λ es. has_identity c.args.uri es) (sym c.self.view_is)) ∙ c.if-has_identity.false in
    ap (λ es. account_of es c.args.uri) c.in_ok-push.ensures.ok ∙ added_found c.self.inside.identities c.args.account c.args.uri none

pub returns-clause-first : goal.returns-clause-first
returns-clause-first c v =
    subst (λ es. IfSome (account_of es v) (λ b. account_of c.push.new.self v ≡ Some b)) c.self.view_is
    (subst (λ es. IfSome (account_of c.self.inside.identities v) (λ b. account_of es v ≡ Some b)) (sym c.in_ok-push.ensures.ok) (others_found c.self.inside.identities c.args.account c.args.uri v))
