use Rattle.std.proofs.Common.{◌≡◌, ◌∙◌, ◌∷◌, ◌++◌, [], subst, rules}
use Rattle.std.specs.Prelude.{IsUtf8}
use Rattle.mmtel_words.proofs.Texts.{next_text, no_text}
use Rattle.mmtel_words.proofs.commands.texts_of.Goals as goal

pub returns-in_default : goal.returns-in_default
returns-in_default c = no_text c.args.words.now c.loop-word.word-index c.word-item.result c.bytes.result.now c.loop-word-test.true c.word-item.is c.bytes.ensures c.in_default.ensures.cases.0

pub loop-word-preserved : goal.loop-word-preserved
loop-word-preserved c =
    let pushed : c.push.new.self.items ≡ c.loop-word.texts.items ++ c.in-Ok.text ∷ [] = search rules in
    next_text c.args.words.now c.loop-word.word-index c.word-item.result c.loop-word.texts.items c.push.new.self.items c.in-Ok.text c.loop-word-test.true c.word-item.is (c.in-Ok.ensures.cases.0 ∙ c.bytes.ensures)
    (subst IsUtf8 c.bytes.ensures c.in-Ok.ensures.cases.1) pushed c.loop-word.invariant
