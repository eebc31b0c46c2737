use Rattle.mmtel_sheet_reader.proofs.DayItems.{AreNamedTo}
use Rattle.mmtel_sheet_reader.proofs.elements.each_day.Given as goal

abbrev pub invariant-items : goal.invariant-items
invariant-items l = AreNamedTo l.at l.item-items l.item-index l.days
