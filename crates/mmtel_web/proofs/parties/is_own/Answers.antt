use Rattle.std.proofs.Common.{sym}
use Rattle.mmtel_web.proofs.OwnIdentities.{firsts, nobodys}
use Rattle.mmtel_web.proofs.parties.is_own.Goals as goal

pub returns-in-None : goal.returns-in-None
returns-in-None c = sym (nobodys c.args.account c.args.uri.now c.args.accounts.now (sym c.in-None.ensures.exact))

pub returns-then-first-account : goal.returns-then-first-account
returns-then-first-account c = sym (firsts c.args.account c.args.uri.now c.args.accounts.now c.in-Some.first (sym c.in-Some.ensures.exact) c.if-first-account.true)
