use Rattle.std.proofs.Common.{◌∙◌, ap₂, codes}
use Rattle.std.proofs.lemmas.Result.{IfOk-weaker}
use Rattle.clap.specs.Words.{rule_of, with_rule}
use Rattle.std.proofs.Common.{◌≡◌, rules}
use Rattle.mmtel_words.specs.Rules.{position_arg}
use Rattle.mmtel_words.proofs.commands.file_command.Goals as goal

pub returns : goal.returns
returns c =
    let rule : rule_of c.positional.result ≡ position_arg (codes "file") = search rules in
    IfOk-weaker c.arg.result _ _ (λ r h. h.shape c.positional.ensures.local ∙ ap₂ with_rule c.bare_command.ensures rule) c.arg.ensures
