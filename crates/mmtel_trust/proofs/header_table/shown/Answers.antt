use Rattle.std.proofs.Common.{◌≡◌, ◌∙◌, List, ap, codes}
use Rattle.std.proofs.lemmas.Result.{IfOk-weaker}
use Rattle.mmtel_message.specs.Message.{Line, lines_named}
use Rattle.mmtel_trust.proofs.TableTheorems.{history_shown}
use Rattle.mmtel_trust.proofs.header_table.shown.Goals as goal

pub returns-clause-history : goal.returns-clause-history
returns-clause-history c =
    IfOk-weaker c.shown_lines.result _ _ (λ ls same. ap (λ (x : List Line). lines_named (codes "History-Info") x) same
    ∙ history_shown c.args.facing.now c.args.to_trusted c.args.history.now c.args.message.now.start c.args.message.now.lines) c.shown_lines.ensures
