-- The end of a run: the text that it writes and its status.
use Rattle.std.specs.Prelude.{◌≡◌, ℕ, ◌⊎◌, List, [], ◌∷◌, ◌++◌, codes, decimal}
use Rattle.std.specs.Io.KnownBytes.{Appends}
use Rattle.std.specs.declared.option.Option.{Option}
use Rattle.mmtel_environment.specs.Counts.{Rose}
use Rattle.mmtel_environment.specs.Written.{AppendsPart}
use Rattle.mmtel_environment.specs.declared.sinks.Sink.{Ghosts as Sink}
use Rattle.mmtel_reports.specs.declared.reports.Report.{Report}
use Rattle.mmtel_reports.specs.declared.reports.Report.TheVariants.{Usage, BadLine, Link, File, Keeper, Memory, Listing, ValidRecord, Served, InvalidRecord}

-- what a command wrote to the sink, and its status: the text before and after, where it is known, and the counts of the sink's faults
pub record WriteEffect : Type 0 where
  pub status : ℕ
  pub old_text : Option (List ℕ)
  pub new_text : Option (List ℕ)
  pub old_faults : ℕ
  pub new_faults : ℕ

abbrev pub write_effect : {S : Type 0} → Sink S → (status : ℕ) → (old new : S) → WriteEffect
write_effect told status old new = record {
  status = status;
  old_text = told.written old;
  new_text = told.written new;
  old_faults = told.faults old;
  new_faults = told.faults new;
}

-- `line N`
abbrev pub line_text : ℕ → List ℕ
line_text number = codes "line " ++ decimal number ++ 10 ∷ []

-- the whole text was written and no fault counted; or a proper prefix, and the count rose
abbrev pub Wrote : List ℕ → WriteEffect → Type 0
Wrote text written =
    (Appends written.old_text written.new_text text × (written.new_faults ≡ written.old_faults))
    ⊎ (AppendsPart written.old_text written.new_text text × Rose written.old_faults written.new_faults)

-- a listing, or other output of a command that is done: status 0 where the whole was written and no fault counted, and 7 where a proper prefix was, and the count rose
abbrev pub WroteListing : List ℕ → WriteEffect → Type 0
WroteListing text written =
    ((written.status ≡ 0) × Appends written.old_text written.new_text text × (written.new_faults ≡ written.old_faults))
    ⊎ ((written.status ≡ 7) × AppendsPart written.old_text written.new_text text × Rose written.old_faults written.new_faults)

-- nothing was written, and no fault counted: status 0
abbrev pub WroteNothing : WriteEffect → Type 0
WroteNothing written = (written.status ≡ 0) × (written.new_text ≡ written.old_text) × (written.new_faults ≡ written.old_faults)

-- this text, with this status
abbrev pub ReportsText : List ℕ → (status : ℕ) → WriteEffect → Type 0
ReportsText text status written = (written.status ≡ status) × Wrote text written

-- each with its status; a status from 1 to 6, or 8, is the same where writing its text meets a fault
abbrev pub WritesReport : Report → WriteEffect → Type 0
WritesReport Usage written = ReportsText (codes "usage\n") 1 written
WritesReport (BadLine number) written = ReportsText (line_text number) 2 written
WritesReport Link written = ReportsText (codes "link\n") 4 written
WritesReport File written = ReportsText (codes "file\n") 5 written
WritesReport Keeper written = ReportsText (codes "keeper\n") 6 written
WritesReport Memory written = ReportsText (codes "memory\n") 8 written
WritesReport (Listing text) written = WroteListing text written
WritesReport ValidRecord written = WroteListing (codes "ok\n") written
WritesReport Served written = WroteNothing written
WritesReport (InvalidRecord line) written = ReportsText line 3 written
