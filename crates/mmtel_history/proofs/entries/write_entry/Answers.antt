use Rattle.std.proofs.Common.{◌≡◌, ◌∙◌, ap, Some, List, ℕ}
use Rattle.mmtel_history.specs.HistoryInfo.{entry_of, entry_text, written_entry}
use Rattle.mmtel_history.proofs.EntryTheorems.{entry_again}
use Rattle.mmtel_history.proofs.ReadableTheorems.{if_ok_by}
use Rattle.mmtel_history.proofs.entries.write_entry.Goals as goal

pub returns-clause-reads_back : goal.returns-clause-reads_back
returns-clause-reads_back c =
    λ is. if_ok_by {P = λ t. t ≡ entry_text c.args.entry.now} {Q = λ t. entry_of t ≡ Some (written_entry c.args.entry.now)} c.value_of.result c.value_of.ensures
    (λ t same. ap (λ (v : List ℕ). entry_of v) same ∙ entry_again c.args.entry.now is)
