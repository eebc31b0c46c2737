use Rattle.std.proofs.Common.{◌≡◌, ◌∷◌, subst, sym}
use Rattle.std.proofs.lemmas.Result.{on_ok_weaker}
use Rattle.mmtel_sheet_values.specs.View.{SheetsInForce, registration_end_in}
use Rattle.mmtel_types.specs.declared.numbers.Account.{Account}
use Rattle.mmtel_records_in_force.proofs.Puts.{ends_on}
use Rattle.mmtel_records_in_force.specs.Records.{RecordsView}
use Rattle.mmtel_records_in_force.specs.Texts.{registration_end_at}
use Rattle.mmtel_records_in_force.proofs.records.Records.register.Goals as goal

pub returns-clause-registered : goal.returns-clause-registered
returns-clause-registered c = on_ok_weaker c.set_registered.result (λ is. λ registrations. λ same. λ b.
    let Q : RecordsView → Type 0 = λ h. (b' : Account) → registration_end_in h.view b'.0 ≡ registration_end_at registrations b' in
    let P : SheetsInForce → Type 0 = λ v. registration_end_in v b.0 ≡ registration_end_at ((c.args.account, c.args.until) ∷ registrations) b in
    subst P (sym is) (ends_on c.self.inside.view c.args.account c.args.until registrations (subst Q (sym c.self.view_is) same) b))
    c.set_registered.ensures.ok
