use Rattle.std.proofs.Common.{ap, sym, ◌∙◌}
use Rattle.std.specs.Option.{option_map}
use Rattle.mmtel_sheet_grammar.specs.Texts.{stored_sheet}
use Rattle.mmtel_sheet_texts.specs.Texts.{text_at}
use Rattle.mmtel_sheet_values.specs.View.{SheetsInForce, sheet_in}
use Rattle.mmtel_records_in_force.proofs.Puts.{agree_on}
use Rattle.mmtel_records_in_force.specs.Texts.{Texts}
use Rattle.mmtel_records_in_force.proofs.records.Records.replace.Goals as goal

pub invariant_of-self : goal.invariant_of-self
invariant_of-self c = λ account.
    let a = c.args.account in
    let v = c.self.inside.view in
    let s = c.self.inside.texts.texts in
    ap (λ (x : SheetsInForce). sheet_in x account.0) c.replace-before.ensures.put
    ∙ (agree_on c.puts_change_one_account.ensures.its c.puts_change_one_account.ensures.others a c.args.text s v c.args.sheet
    (λ b apart. c.putting_changes_one_account.ensures.others v a.0 b c.args.sheet apart) (c.putting_changes_one_account.ensures.its v a.0 c.args.sheet)
    c.requires.its c.self.invariant account
    ∙ ap (λ (t : Texts). option_map stored_sheet (text_at t account)) (sym c.replace.ensures.put))
