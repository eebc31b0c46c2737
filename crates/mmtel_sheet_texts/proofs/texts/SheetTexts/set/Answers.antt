use Rattle.std.proofs.Common.{◌≡◌, ◌∙◌, ◌-◌, ap, List, ℕ}
use Rattle.mmtel_types.specs.declared.numbers.Account.{Account}
use Rattle.mmtel_sheet_texts.specs.Texts.{SheetTextsView, set_text}
use Rattle.mmtel_sheet_texts.proofs.Puts.{set_there}
use Rattle.mmtel_sheet_texts.proofs.texts.SheetTexts.set.Goals as goal

pub returns : goal.returns
returns c =
    let before : record { texts = c.in-Some.kept.items; space = c.in-Some.kept.cap - c.in-Some.kept.len } ≡ c.args.self.now = rw c.in-Some.is at c.self.view_is in
    record {
      set =
          ap (λ (texts : List (Account × List ℕ)). record { texts = texts; space = c.in-Some.kept.cap - c.in-Some.kept.len }) (set_there c.in-Some.kept.items c.args.at c.args.text c.index_mut.result.now c.index_mut.ensures.value)
          ∙ ap (λ (table : SheetTextsView). record table { texts = set_text table.texts c.args.at c.args.text }) before;
    }
