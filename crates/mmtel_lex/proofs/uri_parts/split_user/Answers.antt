use Rattle.std.proofs.Common.{◌≡◌, ◌∙◌, ◌-◌, ◌==◌, not, false, get_or, arith}
use Rattle.std.proofs.lemmas.Grind.{common_steps}
use Rattle.mmtel_lex.proofs.UriPartTheorems.{Splits, splits_at}
use Rattle.mmtel_lex.proofs.uri_parts.split_user.Goals as goal
use Rattle.mmtel_lex.proofs.uri_parts.split_user.Goals.{else-back-test, then-back-test+then-uri-at-eq64, After-split_at}

splits : (c : After-split_at) → Splits c.args.uri.now c.back.at
splits c =
    elim c.back-test.branch [
      | else-back-test w ↦ splits_at c.args.uri.now c.back.at c.back.invariant.1 c.back.invariant.0 (λ pos. absurd (omega arith))
      | then-back-test+then-uri-at-eq64 w ↦
          let test : not (get_or c.args.uri.now (c.back.at - 1) 0 == 64) ≡ false = grind (arith, common_steps) in
          splits_at c.args.uri.now c.back.at c.back.invariant.1 c.back.invariant.0 (λ pos. test)
    ]

pub returns-clause-user : goal.returns-clause-user
returns-clause-user c = c.split_at.ensures.front ∙ (splits c).user

pub returns-clause-host : goal.returns-clause-host
returns-clause-host c = c.split_at.ensures.back ∙ (splits c).host
