use Rattle.std.proofs.lemmas.Result.{IfOk-weaker}
use Rattle.mmtel_lex.proofs.PercentTheorems.{broken_by}
use Rattle.mmtel_lex.proofs.percent.percent_decoded_text.Goals as goal

pub returns-clause-broken : goal.returns-clause-broken
returns-clause-broken c = IfOk-weaker c.decoded_text.result _ _ (λ t same. broken_by c.args.bytes.now t same) c.decoded_text.ensures
