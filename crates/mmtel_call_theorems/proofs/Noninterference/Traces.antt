-- Indistinguishable calls remain so through their traces.
use Rattle.std.proofs.Common.{Bool, List, [], ◌∷◌}
use Rattle.mmtel_precedence.specs.Theorems.{VerdictsDependOnMatches}
use Rattle.mmtel_sheet_values.specs.declared.values.Sheet.{Sheet}
use Rattle.mmtel_transaction.specs.declared.words.TKey.{TKey}
use Rattle.mmtel_call_services.specs.CallConfig.{CallConfigView, trusts}
use Rattle.mmtel_call.specs.declared.calls.Call.{Call}
use Rattle.mmtel_call_theorems.specs.Noninterference.EquivalentCalls.{EquivalentCalls}
use Rattle.mmtel_call_theorems.specs.Noninterference.Observations.{EquivalentSteps, trust_of}
use Rattle.mmtel_call_theorems.specs.Noninterference.Traces.{AllReceiveEquivalent, StepPair, TracesStayEquivalent, next, one_after, other_after}
use Rattle.mmtel_call_theorems.proofs.Noninterference.EquivalentCalls.{calls_stay_equivalent, steps_keep_equivalence}
use Rattle.mmtel_call_theorems.proofs.Noninterference.Sent.{Heads}

module _ (heads : Heads) (law : VerdictsDependOnMatches) (records : List Sheet) (config : CallConfigView) (keys : TKey → Bool) (c d : Call) (alike : EquivalentCalls records (trusts config) c d) where
  calls : (trace : List StepPair) → AllReceiveEquivalent records config keys c d trace → EquivalentCalls records (trusts config) (one_after config c trace) (other_after config d trace)
  calls [] receive = alike
  calls (both ∷ earlier) receive =
      calls_stay_equivalent heads law records config keys both.now both.one.signal both.other.signal both.one.role both.other.role (one_after config c earlier)
      (other_after config d earlier) both.one.output both.other.output
      receive.0.covered (calls earlier receive.1) receive.0.signals receive.0.one receive.0.other receive.0.outputs

  steps : (both : StepPair) (earlier : List StepPair) → AllReceiveEquivalent records config keys c d (both ∷ earlier) →
      EquivalentSteps (trust_of config keys) (next config both.now both.one (one_after config c earlier)) (next config both.now both.other (other_after config d earlier))
  steps both earlier receive =
      steps_keep_equivalence heads law records config keys both.now both.one.signal both.other.signal both.one.role both.other.role (one_after config c earlier)
      (other_after config d earlier) both.one.output both.other.output
      receive.0.covered (calls earlier receive.1) receive.0.signals receive.0.one receive.0.other receive.0.outputs

pub traces_stay_equivalent : Heads → VerdictsDependOnMatches → TracesStayEquivalent
traces_stay_equivalent heads law = record {
  calls = λ records config keys c d trace alike receive. calls heads law records config keys c d alike trace receive;
  steps = λ records config keys c d both earlier alike receive. steps heads law records config keys c d alike both earlier receive;
}
