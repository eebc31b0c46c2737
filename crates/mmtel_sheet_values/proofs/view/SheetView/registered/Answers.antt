use Rattle.std.proofs.Common.{nat_lt, ap, sym, ◌∙◌}
use Rattle.mmtel_sheet_values.specs.View.{is_registered, registration_end_in}
use Rattle.mmtel_sheet_values.proofs.Entries.{get-entries}
use Rattle.mmtel_sheet_values.proofs.view.SheetView.registered.Goals as goal

pub returns-in-None : goal.returns-in-None
returns-in-None c = record {
  exact = ap (λ until. is_registered until c.args.now)
      (c.in-None.ensures.value ∙ sym (get-entries c.self.inside.registration_ends.entries c.args.account.0) ∙ ap (λ v. registration_end_in v c.args.account.0) c.self.view_is);
}

pub returns-in-Some : goal.returns-in-Some
returns-in-Some c = record {
  exact = ap (λ now. nat_lt now c.ms.result) c.ms-in-Some.ensures.number
      ∙ ap (λ until. nat_lt c.args.now until) c.ms.ensures.number
      ∙ ap (λ until. is_registered until c.args.now)
      (c.in-Some.ensures.value ∙ sym (get-entries c.self.inside.registration_ends.entries c.args.account.0) ∙ ap (λ v. registration_end_in v c.args.account.0) c.self.view_is);
}
