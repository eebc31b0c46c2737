-- Two indistinguishable calls continue indistinguishably: each continues as its public part does.
use Rattle.std.proofs.Common.{◌≡◌, Bool, ap, sym, subst}
use Rattle.mmtel_precedence.specs.Theorems.{VerdictsDependOnMatches}
use Rattle.mmtel_rules.specs.declared.values.Identities2.{Identities2}
use Rattle.mmtel_types.specs.declared.numbers.Peer.{Peer}
use Rattle.mmtel_call_services.specs.CallConfig.{trusts}
use Rattle.mmtel_call_services.specs.declared.openings.Opening.{Opening}
use Rattle.mmtel_call.specs.declared.calls.Call.{Call}
use Rattle.mmtel_call.specs.Closing.{StepResult}
use Rattle.mmtel_call.specs.Table.{step}
use Rattle.mmtel_call.specs.declared.signals.Signal.{Signal}
use Rattle.mmtel_call_theorems.specs.Noninterference.EquivalentCalls.{CallsStayEquivalent, StepsKeepEquivalence}
use Rattle.mmtel_call_theorems.specs.Noninterference.PublicCall.{public_call, public_part}
use Rattle.mmtel_call_theorems.specs.Noninterference.Premises.{AreDecidedEqually}
use Rattle.mmtel_call_theorems.specs.Noninterference.Observations.{EquivalentSteps, Trust, trust_of}
use Rattle.mmtel_call_theorems.specs.Noninterference.StepTable.{public_signal}
use Rattle.mmtel_call_theorems.proofs.Noninterference.Diverting.{self-equivalent, steps-back, steps-then}
use Rattle.mmtel_call_theorems.proofs.Noninterference.Sent.{Heads, same_output}
use Rattle.mmtel_call_theorems.proofs.Noninterference.FixedOpenings.{openings_stay}
use Rattle.mmtel_call_theorems.proofs.Noninterference.Stepping.{steps_see_public_parts}

same_with : (known : Peer → Bool) (who : Identities2) (c d : Call) → public_part known c ≡ public_part known d → public_call known who c ≡ public_call known who d
same_with known who c d e = ap (λ (z : Call). record z { opening = record z.opening { identities = who } }) e

pub steps_keep_equivalence : Heads → VerdictsDependOnMatches → StepsKeepEquivalence
steps_keep_equivalence heads law records config keys now x y role second c d one other stand alike said first then a =
    let T : Trust = trust_of config keys in
    let who : Identities2 = c.opening.identities in
    let p : StepResult = step config now (public_signal role x) (public_call (trusts config) who c) one in
    let q : StepResult = step config now (public_signal second y) (public_call (trusts config) who d) one in
    let left : EquivalentSteps T p (step config now x c one) =
    steps_see_public_parts heads law records config keys now who x role c one one
    (record { opening = first.opening; caller = self-equivalent records who; covered = stand }) first.kept first.served first.may_receive (same_output T one) in
    let right : EquivalentSteps T q (step config now y d other) =
    steps_see_public_parts heads law records config keys now who y second d one other (record { opening = then.opening; caller = alike.callers; covered = stand }) then.kept then.served then.may_receive a in
    let moved : EquivalentSteps T q (step config now x c one) =
    subst (λ (s : Signal). EquivalentSteps T (step config now s (public_call (trusts config) who d) one) (step config now x c one)) said
    (subst (λ (z : Call). EquivalentSteps T (step config now (public_signal role x) z one) (step config now x c one)) (same_with (trusts config) who c d alike.same) left) in
    steps-then T (step config now x c one) q (step config now y d other) (steps-back T q (step config now x c one) moved) right

pub calls_stay_equivalent : Heads → VerdictsDependOnMatches → CallsStayEquivalent
calls_stay_equivalent heads law records config keys now x y role second c d one other stand alike said first then a = record {
  same = (steps_keep_equivalence heads law records config keys now x y role second c d one other stand alike said first then a).call;
  callers =
      subst (λ (o : Opening). AreDecidedEqually records o.identities (step config now y d other).call.opening.identities) (sym (openings_stay config now x c one))
      (subst (λ (o : Opening). AreDecidedEqually records c.opening.identities o.identities) (sym (openings_stay config now y d other)) alike.callers);
}
