use Rattle.std.proofs.Common.{List, ◌++◌, ◌∙◌, refl, ap, arith, length}
use Rattle.mmtel_charging.specs.declared.rows.Row.{Row}
use Rattle.mmtel_journal.specs.Payloads.{payload_of_rows}
use Rattle.mmtel_journal.proofs.KeeperCalls.{untouched_trying, tried_kept, rows_added, rows_form}
use Rattle.mmtel_journal.proofs.Records.{body_long}
use Rattle.mmtel_journal.proofs.keepers.JournalKeeperKeeper.add_rows.Goals as goal

pub returns-in_err-body-clause-refused : goal.returns-in_err-body-clause-refused
returns-in_err-body-clause-refused g c =
    untouched_trying g.D.Disk.honest g.D.Disk.may_leave g.D.Disk.clock g.D.Disk.left_since _ _ g.met.D.Disk.only_now
    (payload_of_rows c.args.rows.now) refl refl c.grow_rows.ensures.same _

pub add-requires : goal.add-requires
add-requires g c = omega (arith, ap length (c.as_slice.ensures.value ∙ c.in_ok-body.ensures.body), body_long (payload_of_rows c.args.rows.now))

pub returns-in_err-add-clause-refused : goal.returns-in_err-add-clause-refused
returns-in_err-add-clause-refused g c =
    let payload = payload_of_rows c.args.rows.now in
    tried_kept g.D.Disk.honest g.D.Disk.may_leave g.D.Disk.clock g.D.Disk.left_since _ _ payload (rows_form c.args.rows.now (omega arith) c.in_ok-body.ensures.fits)
    (c.in_err-add.ensures.refused payload (c.as_slice.ensures.value ∙ c.in_ok-body.ensures.body)) refl c.grow_rows.ensures.same _

pub returns-clause-done : goal.returns-clause-done
returns-clause-done g c = record {
  log = c.in_ok-add.ensures.done (payload_of_rows c.args.rows.now) (c.as_slice.ensures.value ∙ c.in_ok-body.ensures.body);
  form = rows_form c.args.rows.now (omega arith) c.in_ok-body.ensures.fits;
  contents = λ once. rows_added _ _ c.args.rows.now (omega arith) c.in_ok-body.ensures.fits refl
      (c.add_reserved.ensures.added ∙ ap (λ (l : List Row). l ++ c.args.rows.now) c.grow_rows.ensures.same);
}
