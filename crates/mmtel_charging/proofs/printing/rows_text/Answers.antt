use Rattle.std.proofs.Common.{◌∙◌, ap}
use Rattle.std.proofs.lemmas.Result.{IfOk-weaker}
use Rattle.mmtel_charging.specs.Rows.{records_of}
use Rattle.mmtel_charging.proofs.Roundtrip.{reads-back}
use Rattle.mmtel_charging.proofs.printing.rows_text.Goals as goal

pub returns-clause-reads_back : goal.returns-clause-reads_back
returns-clause-reads_back c =
    IfOk-weaker c.of.result _ _ (λ text same. ap records_of (same ∙ c.as_slice.ensures.value ∙ c.in_ok-written.ensures.records) ∙ reads-back c.args.rows.now) c.of.ensures
