use Rattle.std.proofs.Common.{◌≡◌, length}
use Rattle.mmtel_journal.specs.Migrating.{AreInRange, set_all}
use Rattle.mmtel_journal.proofs.migration.put_all.Given as goal

abbrev pub invariant-new_texts : goal.invariant-new_texts
invariant-new_texts l = record {
  later : set_all l.new_texts l.sheets.texts ≡ set_all l.fn.new_texts l.fn.sheets.texts;
  within : AreInRange (length l.sheets.texts) l.new_texts;
}

abbrev pub decreases-new_texts : goal.decreases-new_texts
decreases-new_texts l = length l.new_texts
