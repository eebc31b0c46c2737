use Rattle.std.proofs.Common.{ap, sym, ◌∙◌}
use Rattle.std.specs.Option.{option_map}
use Rattle.mmtel_sheet_grammar.specs.Texts.{stored_sheet}
use Rattle.mmtel_sheet_texts.specs.Texts.{SheetTextsView, text_at}
use Rattle.mmtel_sheet_values.specs.View.{SheetsInForce, sheet_in}
use Rattle.mmtel_records_in_force.proofs.Puts.{no_sheet}
use Rattle.mmtel_records_in_force.proofs.records.Records.new.Goals as goal

pub invariant_of-result : goal.invariant_of-result
invariant_of-result c = λ account.
    ap (λ (v : SheetsInForce). sheet_in v account.0) c.new-2.ensures.empty ∙ (no_sheet account ∙ ap (λ (t : SheetTextsView). option_map stored_sheet (text_at t.texts account)) (sym c.new.ensures.empty))
