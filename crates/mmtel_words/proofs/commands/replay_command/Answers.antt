use Rattle.std.proofs.Common.{◌≡◌, ◌∙◌, rules, ap₂, codes}
use Rattle.std.proofs.lemmas.Result.{IfOk-weaker}
use Rattle.clap.specs.Words.{app_of, rule_of, with_rule}
use Rattle.mmtel_words.specs.Rules.{bare_command, option_arg, position_arg}
use Rattle.mmtel_words.proofs.commands.replay_command.Goals as goal

pub returns : goal.returns
returns c =
    let start : app_of c.bare_command.result ≡ bare_command (codes "replay") = search rules in
    let rule0 : rule_of c.option.result ≡ option_arg (codes "token") = search rules in
    let rule1 : rule_of c.positional.result ≡ position_arg (codes "config") = search rules in
    let rule2 : rule_of c.positional-2.result ≡ position_arg (codes "script") = search rules in
    let app0 : app_of c.in_ok-arg.field-0 ≡ with_rule (bare_command (codes "replay")) (option_arg (codes "token")) = c.in_ok-arg.ensures.shape c.option.ensures.local ∙ ap₂ with_rule start rule0 in
    let app1 : app_of c.in_ok-arg-2.field-0 ≡ with_rule (with_rule (bare_command (codes "replay")) (option_arg (codes "token"))) (position_arg (codes "config")) =
    c.in_ok-arg-2.ensures.shape c.positional.ensures.local ∙ ap₂ with_rule app0 rule1 in
    IfOk-weaker c.arg-3.result _ _ (λ r h. h.shape c.positional-2.ensures.local ∙ ap₂ with_rule app1 rule2) c.arg-3.ensures
