use Rattle.std.proofs.Common.{List, [], ℕ, ap, ◌∙◌}
use Rattle.mmtel_sheet_texts.specs.Texts.{put}
use Rattle.mmtel_sheet_values.specs.View.{registration_end_in}
use Rattle.mmtel_records_in_force.proofs.Puts.{loads_one, no_end}
use Rattle.mmtel_records_in_force.specs.Records.{RecordsView}
use Rattle.mmtel_records_in_force.proofs.records.Records.load.Goals as goal

pub loop-account-init : goal.loop-account-init
loop-account-init c = record {
  texts = ap (λ (h : RecordsView). h.texts.texts) c.new-records.ensures.nothing;
  registered = λ account. ap (λ (h : RecordsView). registration_end_in h.view account.0) c.new-records.ensures.nothing ∙ no_end account;
}

pub loop-account-preserved : goal.loop-account-preserved
loop-account-preserved c = record {
  texts = c.in_ok-put.ensures.texts
      ∙ (ap (λ (t : List ℕ). put c.loop-account-item.result.0 t c.loop-account.records.texts.texts) c.in_ok-text.ensures.copy
      ∙ loads_one c.args.loaded.now c.loop-account.account-index c.loop-account-item.result c.loop-account.records.texts.texts c.loop-account-test.true c.loop-account-item.is c.loop-account.invariant.texts);
  registered = c.in_ok-put.ensures.registered [] c.loop-account.invariant.registered;
}
