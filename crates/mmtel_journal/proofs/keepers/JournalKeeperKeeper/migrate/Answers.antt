use Rattle.std.proofs.Common.{List, ℕ, ◌<◌, ◌^◌, ◌∙◌, Some, refl, ap, subst, arith, length}
use Rattle.std.specs.Prelude.{All}
use Rattle.mmtel_types.specs.declared.numbers.Account.{Account}
use Rattle.mmtel_journal.specs.Logs.{body_bytes}
use Rattle.mmtel_journal.specs.Migrating.{AreReplacements, sheets_in}
use Rattle.mmtel_journal.specs.Payloads.{IsSheet, payload_of_sheets}
use Rattle.mmtel_journal.proofs.KeeperCalls.{untouched_some, tried_some, sheets_given, sheets_form}
use Rattle.mmtel_journal.proofs.Records.{body_long}
use Rattle.mmtel_journal.proofs.keepers.JournalKeeperKeeper.migrate.Goals as goal

pub returns-in_err-found-clause-refused : goal.returns-in_err-found-clause-refused
returns-in_err-found-clause-refused g c = untouched_some g.D.Disk.honest g.D.Disk.may_leave g.D.Disk.clock g.D.Disk.left_since _ _ g.met.D.Disk.only_now refl refl refl _

pub returns-in_err-body-clause-refused : goal.returns-in_err-body-clause-refused
returns-in_err-body-clause-refused g c = untouched_some g.D.Disk.honest g.D.Disk.may_leave g.D.Disk.clock g.D.Disk.left_since _ _ g.met.D.Disk.only_now refl refl refl _

pub add-requires : goal.add-requires
add-requires g c = omega (arith, ap length (c.as_slice.ensures.value ∙ c.in_ok-body.ensures.body), body_long (payload_of_sheets (sheets_in c.items-2.result.now)))

pub returns-in_err-add-clause-refused : goal.returns-in_err-add-clause-refused
returns-in_err-add-clause-refused g c =
    let found = c.items-2.result.now in
    let payload = payload_of_sheets (sheets_in found) in
    tried_some g.D.Disk.honest g.D.Disk.may_leave g.D.Disk.clock g.D.Disk.left_since _ _ payload (sheets_form found (omega arith) c.in_ok-body.ensures.fits)
    (c.in_err-add.ensures.refused payload (c.as_slice.ensures.value ∙ c.in_ok-body.ensures.body)) refl refl _

pub returns-clause-done : goal.returns-clause-done
returns-clause-done g c =
    let found = c.in_ok-found.found in
    let payload = payload_of_sheets (sheets_in found) in
    let many : length found < 2 ^ 64 = omega (arith, ap length c.items-2.ensures) in
    let fits : All IsSheet (sheets_in found) = subst (λ (l : List (ℕ × (Account × List ℕ))). All IsSheet (sheets_in l)) c.items-2.ensures c.in_ok-body.ensures.fits in (
      Some payload,
      record {
        log = c.in_ok-add.ensures.done payload
            (c.as_slice.ensures.value ∙ c.in_ok-body.ensures.body ∙ ap (λ (l : List (ℕ × (Account × List ℕ))). body_bytes (payload_of_sheets (sheets_in l))) c.items-2.ensures);
        form = sheets_form found many fits;
        contents = λ once. sheets_given _ _ found
            (subst (λ (l : List (Account × List ℕ)). AreReplacements l found) c.items.ensures.all c.in_ok-found.ensures.replaced) many fits c.put_all.ensures.put refl once;
      },
    )
