use Rattle.std.specs.Prelude.{is_some}
use Rattle.std.proofs.lemmas.List.Sums.{count_by-le-length}
use Rattle.std.proofs.Common.{◌≡◌, arith, ◌∙◌, ap, List}
use Rattle.mmtel_history.specs.HistoryInfo.{diversions_in}
use Rattle.mmtel_history.specs.declared.entries.Entry.{Entry}
use Rattle.mmtel_history.proofs.ListTheorems.{after_counts}
use Rattle.mmtel_history.proofs.histories.History.diversions.Goals as goal

pub returns-clause-each : goal.returns-clause-each
returns-clause-each c =
    λ h from ds own is.
    c.count_causes.ensures ∙ ap (λ (l : List Entry). diversions_in l) (c.as_slice.ensures.value ∙ c.self.view_is ∙ is) ∙ after_counts h from ds own

pub returns-clause-most : goal.returns-clause-most
returns-clause-most c =
    let is : c.count_causes.result ≡ diversions_in c.args.self.now = c.count_causes.ensures ∙ ap (λ (l : List Entry). diversions_in l) (c.as_slice.ensures.value ∙ c.self.view_is) in
    omega (arith, is, count_by-le-length (λ e. is_some e.cause) c.args.self.now)
