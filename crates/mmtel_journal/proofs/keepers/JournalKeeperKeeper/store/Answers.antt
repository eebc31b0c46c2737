use Rattle.std.proofs.Common.{List, ℕ, [], ◌∷◌, ◌∙◌, refl, ap, arith, length}
use Rattle.mmtel_sheet_texts.specs.Texts.{put}
use Rattle.mmtel_journal.specs.Payloads.{payload_of_sheets}
use Rattle.mmtel_journal.proofs.KeeperCalls.{untouched_trying, tried_kept, sheet_put, sheet_form}
use Rattle.mmtel_journal.proofs.Records.{body_long}
use Rattle.mmtel_journal.proofs.keepers.JournalKeeperKeeper.store.Goals as goal

pub returns-in_err-kept-clause-refused : goal.returns-in_err-kept-clause-refused
returns-in_err-kept-clause-refused g c =
    untouched_trying g.D.Disk.honest g.D.Disk.may_leave g.D.Disk.clock g.D.Disk.left_since _ _ g.met.D.Disk.only_now
    (payload_of_sheets ((c.args.account, c.args.text.now) ∷ [])) refl c.grow_sheets.ensures.same refl _

pub add-requires : goal.add-requires
add-requires g c = omega (arith, ap length (c.as_slice.ensures.value ∙ c.in_ok-kept.ensures.body), body_long (payload_of_sheets ((c.args.account, c.args.text.now) ∷ [])))

pub returns-in_err-add-clause-refused : goal.returns-in_err-add-clause-refused
returns-in_err-add-clause-refused g c =
    let payload = payload_of_sheets ((c.args.account, c.args.text.now) ∷ []) in
    tried_kept g.D.Disk.honest g.D.Disk.may_leave g.D.Disk.clock g.D.Disk.left_since _ _ payload (sheet_form c.args.account c.args.text.now c.in_ok-kept.ensures.fits)
    (c.in_err-add.ensures.refused payload (c.as_slice.ensures.value ∙ c.in_ok-kept.ensures.body)) c.grow_sheets.ensures.same refl _

pub returns-clause-done : goal.returns-clause-done
returns-clause-done g c = record {
  log = c.in_ok-add.ensures.done (payload_of_sheets ((c.args.account, c.args.text.now) ∷ [])) (c.as_slice.ensures.value ∙ c.in_ok-kept.ensures.body);
  form = sheet_form c.args.account c.args.text.now c.in_ok-kept.ensures.fits;
  contents = λ once. sheet_put _ _ c.args.account c.args.text.now c.in_ok-kept.ensures.fits
      (c.replace.ensures.put ∙ ap (λ (text : List ℕ). put c.args.account text c.grow_sheets.new.sheets.texts) c.in_ok-kept.ensures.text
      ∙ ap (put c.args.account c.args.text.now) c.grow_sheets.ensures.same) refl;
}
