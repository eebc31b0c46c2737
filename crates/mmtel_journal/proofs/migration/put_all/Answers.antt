use Rattle.std.proofs.Common.{◌≡◌, ◌∙◌, ◌<◌, ◌++◌, ◌∷◌, [], ap, sym, subst, length, List, ℕ}
use Rattle.std.proofs.lemmas.List.Elements.{All-pop}
use Rattle.mmtel_sheet_texts.specs.Texts.{SheetTextsView}
use Rattle.mmtel_types.specs.declared.numbers.Account.{Account}
use Rattle.mmtel_journal.specs.Migrating.{AreInRange, set_all}
use Rattle.mmtel_journal.proofs.Migrating.{length-set_text, put_last}
use Rattle.mmtel_journal.proofs.migration.put_all.Goals as goal

pub new_texts-preserved : goal.new_texts-preserved
new_texts-preserved c =
    let taken : c.new_texts.new_texts ≡ c.pop.new.self ++ (c.in-Some.at, (c.in-Some._account, c.in-Some.text)) ∷ [] = c.in-Some.ensures.items in
    let same : length c.set.new.self.texts ≡ length c.new_texts.sheets.texts =
    ap (λ (t : SheetTextsView). length t.texts) c.set.ensures.set ∙ length-set_text c.new_texts.sheets.texts c.in-Some.at c.in-Some.text in
    record {
      later =
          ap (λ (t : SheetTextsView). set_all c.pop.new.self t.texts) c.set.ensures.set
          ∙ sym (put_last c.pop.new.self (c.in-Some.at, (c.in-Some._account, c.in-Some.text)) c.new_texts.sheets.texts)
          ∙ ap (λ (l : List (ℕ × (Account × List ℕ))). set_all l c.new_texts.sheets.texts) (sym taken)
          ∙ c.new_texts.invariant.later;
      within =
          subst (λ (n : ℕ). AreInRange n c.pop.new.self) (sym same)
          (All-pop (λ (new : ℕ ×
          (Account × List ℕ)). new.0 < length c.new_texts.sheets.texts) c.new_texts.new_texts c.pop.new.self c.pop.result c.pop.ensures.items c.new_texts.invariant.within).0;
    }
