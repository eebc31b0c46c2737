use Rattle.std.proofs.Common.{◌∙◌, ap}
use Rattle.toml.specs.Data.{string}
use Rattle.toml.specs.declared.value.Value.{String as StringValue}
use Rattle.toml.proofs.Views.{view-String}
use Rattle.mmtel_sheets.proofs.Items.{word_pushed}
use Rattle.mmtel_sheets.proofs.values.push_word.Goals as goal

pub returns : goal.returns
returns c =
    word_pushed c.args.word.now c.args.array.items c.push.new.self.items (StringValue c.in_ok-day.day) (view-String c.in_ok-day.day ∙ ap string c.in_ok-day.ensures.ok)
    c.in_ok-push.ensures.items
