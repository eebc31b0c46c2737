-- Indistinguishable calls remain so when a leg is detached from them, put back, or when they end without it.
use Rattle.std.proofs.Common.{◌≡◌, ℕ, Bool, List, [], refl, ap, sym, ◌∙◌, subst, codes, Option}
use Rattle.std.specs.Option.{option_map}
use Rattle.mmtel_charging.specs.Meters.{MeterView}
use Rattle.mmtel_output.specs.Sending.{with_bye}
use Rattle.mmtel_output.specs.declared.outputs.StepOutput.{StepOutput}
use Rattle.mmtel_leg.specs.Releases.{released_leg}
use Rattle.mmtel_leg.specs.Legs.{Leg}
use Rattle.mmtel_leg.specs.declared.legs.Released.{Released}
use Rattle.mmtel_leg.specs.declared.legs.Released.TheVariants as released
use Rattle.mmtel_rules.specs.declared.values.Identities2.{Identities2}
use Rattle.mmtel_sheet_values.specs.declared.values.Sheet.{Sheet}
use Rattle.mmtel_transaction.specs.declared.words.TKey.{TKey}
use Rattle.mmtel_types.specs.declared.causes.Cause.TheVariants.{Ended}
use Rattle.mmtel_types.specs.declared.numbers.Peer.{Peer}
use Rattle.mmtel_types.specs.declared.sides.Side.{Side}
use Rattle.mmtel_types.specs.declared.sides.Side.TheVariants.{Caller, Callee}
use Rattle.mmtel_call_services.specs.CallConfig.{CallConfigView, trusts}
use Rattle.mmtel_call_services.specs.declared.openings.Opening.{Opening}
use Rattle.mmtel_call.specs.declared.calls.Call.{Call}
use Rattle.mmtel_call.specs.declared.calls.DetachedLeg.{DetachedLeg}
use Rattle.mmtel_call.specs.declared.calls.Phase.{Phase}
use Rattle.mmtel_call.specs.declared.calls.Phase.TheVariants.{Detached, Established, Offered, Over}
use Rattle.mmtel_call.specs.declared.calls.Stage.TheVariants.{Answered, Departing, Reinviting, Stable}
use Rattle.mmtel_call.specs.Answered.{at_stage}
use Rattle.mmtel_call.specs.Closing.{StepResult, call_end}
use Rattle.mmtel_call.specs.RelayedTransactions.{output_after_dismissal, without_in_flight}
use Rattle.mmtel_call.specs.Detaching.{call_finish, caller_meter_of, detached_in, finish_of_phase, removed_leg_in, target_meter_of, with_leg_restored, with_meter}
use Rattle.mmtel_call_theorems.specs.Noninterference.EquivalentCalls.{EquivalentCalls}
use Rattle.mmtel_call_theorems.specs.Noninterference.Detaching.{DetachingKeepsEquivalence}
use Rattle.mmtel_call_theorems.specs.Noninterference.PublicCall.{nobody, public_call, public_detached, public_leg, public_part, public_phase, public_released}
use Rattle.mmtel_call_theorems.specs.Noninterference.Premises.{AreDecidedEqually, in_flight_is_from_own_peers}
use Rattle.mmtel_call_theorems.specs.Noninterference.Observations.{EquivalentOutputs, EquivalentSteps, Trust, trust_of}
use Rattle.mmtel_call_theorems.proofs.Noninterference.Diverting.{steps-back, steps-then}
use Rattle.mmtel_call_theorems.proofs.Noninterference.Dismissals.{dismissals}
use Rattle.mmtel_call_theorems.proofs.Noninterference.Idempotence.{call_once}
use Rattle.mmtel_call_theorems.proofs.Noninterference.Transitions.{on-equivalent, over-equivalent}
use Rattle.mmtel_call_theorems.proofs.Noninterference.Sent.{Heads, asked-equivalent, same_output}

-- ---- what is known of calls as they opened does not change

pub detached_stays : (p : Phase) (side : Side) (c : Call) → (detached_in p side c).opening ≡ c.opening
detached_stays (Offered x) side c = refl
detached_stays (Established x (Answered waiting success)) side c = refl
detached_stays (Established x (Departing waiting success)) side c = refl
detached_stays (Established x Stable) side c = refl
detached_stays (Established x (Reinviting asking q)) side c = refl
detached_stays (Detached detached) side c = refl
detached_stays (Over cause) side c = refl

pub put_stays : (p : Phase) (leg : Released) (c : Call) → (with_leg_restored p leg c).opening ≡ c.opening
put_stays (Offered x) leg c = refl
put_stays (Established x stage) leg c = refl
put_stays (Detached detached) leg c = refl
put_stays (Over cause) leg c = refl

finish_stays : (p : Phase) (config : CallConfigView) (at : ℕ) (c : Call) (output : StepOutput) → (finish_of_phase p config at c output).call.opening ≡ c.opening
finish_stays (Offered x) config at c output = refl
finish_stays (Established x stage) config at c output = refl
finish_stays (Detached detached) config at c output = refl
finish_stays (Over cause) config at c output = refl

pub finished_stays : (config : CallConfigView) (at : ℕ) (c : Call) (output : StepOutput) → (call_finish config at c output).call.opening ≡ c.opening
unfolding call_finish
finished_stays config at c output = finish_stays c.phase config at c output

-- ---- the leg, and the calls

module _ (known : Peer → Bool) where
  leg_out : (p : Phase) (side : Side) → removed_leg_in (public_phase known p) side ≡ option_map (public_released known) (removed_leg_in p side)
  leg_out (Offered x) side = refl
  leg_out (Established x (Answered waiting success)) side = refl
  leg_out (Established x (Departing waiting success)) side = refl
  leg_out (Established x Stable) Caller = refl
  leg_out (Established x Stable) Callee = refl
  leg_out (Established x (Reinviting asking q)) side = refl
  leg_out (Detached detached) side = refl
  leg_out (Over cause) side = refl

  detached_public : (p : Phase) (side : Side) (who : Identities2) (c : Call) → detached_in (public_phase known p) side (public_call known who c) ≡ public_call known who (detached_in p side c)
  detached_public (Offered x) side who c = refl
  detached_public (Established x (Answered waiting success)) side who c = refl
  detached_public (Established x (Departing waiting success)) side who c = refl
  detached_public (Established x Stable) Caller who c = refl
  detached_public (Established x Stable) Callee who c = refl
  detached_public (Established x (Reinviting asking q)) side who c = refl
  detached_public (Detached detached) side who c = refl
  detached_public (Over cause) side who c = refl

  left_leg : (left : Released) → released_leg (public_released known left) ≡ public_leg known (released_leg left)
  left_leg (released.Caller leg) = refl
  left_leg (released.Callee leg) = refl

  -- the two legs of a call of which the remaining one is this
  abbrev with_left : Released → Leg → DetachedLeg → Call → Call
  with_left (released.Caller leg) left detached c = at_stage (record { caller = with_meter detached.meter leg; callee = left; service = detached.service }) Stable c
  with_left (released.Callee leg) left detached c = at_stage (record { caller = left; callee = with_meter detached.meter leg; service = detached.service }) Stable c

  put_public : (p : Phase) (leg : Released) (who : Identities2) (c : Call) →
      with_leg_restored (public_phase known p) (public_released known leg) (public_call known who c) ≡ public_call known who (with_leg_restored p leg c)
  put_public (Offered x) leg who c = refl
  put_public (Established x stage) leg who c = refl
  put_public (Detached detached) (released.Caller leg) who c =
      ap (λ (l : Leg). with_left (released.Caller (public_leg known leg)) l (public_detached known detached) (public_call known who c)) (left_leg detached.remaining)
  put_public (Detached detached) (released.Callee leg) who c =
      ap (λ (l : Leg). with_left (released.Callee (public_leg known leg)) l (public_detached known detached) (public_call known who c)) (left_leg detached.remaining)
  put_public (Over cause) leg who c = refl

  callers_stay : (records : List Sheet) (c d x y : Call) → x.opening ≡ c.opening → y.opening ≡ d.opening → AreDecidedEqually records c.opening.identities d.opening.identities →
      AreDecidedEqually records x.opening.identities y.opening.identities
  callers_stay records c d x y e f a =
      subst (λ (o : Opening). AreDecidedEqually records o.identities y.opening.identities) (sym e)
      (subst (λ (o : Opening). AreDecidedEqually records c.opening.identities o.identities) (sym f) a)

  legs_equivalent : (records : List Sheet) (side : Side) (c d : Call) → EquivalentCalls records known c d →
      option_map (public_released known) (removed_leg_in c.phase side) ≡ option_map (public_released known) (removed_leg_in d.phase side)
  legs_equivalent records side c d alike =
      sym (leg_out c.phase side) ∙ (ap (λ (z : Call). removed_leg_in z.phase side) alike.same ∙ leg_out d.phase side)

  out_equivalent : (records : List Sheet) (side : Side) (c d : Call) → EquivalentCalls records known c d → EquivalentCalls records known (detached_in c.phase side c) (detached_in d.phase side d)
  out_equivalent records side c d alike = record {
    same = sym (detached_public c.phase side nobody c) ∙ (ap (λ (z : Call). detached_in z.phase side z) alike.same ∙ detached_public d.phase side nobody d);
    callers = callers_stay records c d (detached_in c.phase side c) (detached_in d.phase side d) (detached_stays c.phase side c) (detached_stays d.phase side d) alike.callers;
  }

  back_equivalent : (records : List Sheet) (leg other : Released) (c d : Call) → public_released known leg ≡ public_released known other → EquivalentCalls records known c d →
      EquivalentCalls records known (with_leg_restored c.phase leg c) (with_leg_restored d.phase other d)
  back_equivalent records leg other c d e alike = record {
    same =
        sym (put_public c.phase leg nobody c)
        ∙ (ap (λ (z : Call). with_leg_restored z.phase (public_released known leg) z) alike.same
        ∙ (ap (λ (l : Released). with_leg_restored (public_part known d).phase l (public_part known d)) e
        ∙ put_public d.phase other nobody d));
    callers = callers_stay records c d (with_leg_restored c.phase leg c) (with_leg_restored d.phase other d) (put_stays c.phase leg c) (put_stays d.phase other d) alike.callers;
  }

-- ---- the end

module _ (heads : Heads) (config : CallConfigView) (keys : TKey → Bool) where
  abbrev T : Trust
  T = trust_of config keys

  abbrev known2 : Peer → Bool
  known2 = λ peer. trusts config peer

  -- without this leg
  without-equivalent : (left : Released) (meter : Option MeterView) (who : Identities2) (at : ℕ) (c : Call) (one other : StepOutput) → EquivalentOutputs T one other →
      EquivalentSteps T (call_end at Ended (caller_meter_of (public_released known2 left) meter) (target_meter_of (public_released known2 left) meter) (public_call known2 who c)
      (with_bye config.sip (released_leg (public_released known2 left)).dialogue one))
      (call_end at Ended (caller_meter_of left meter) (target_meter_of left meter) c (with_bye config.sip (released_leg left).dialogue other))
  without-equivalent (released.Caller leg) meter who at c one other a =
      over-equivalent heads config keys who at Ended leg.meter meter c (with_bye config.sip (public_leg known2 leg).dialogue one) (with_bye config.sip leg.dialogue other)
      (asked-equivalent heads T config.sip (codes "BYE") leg.dialogue [] [] one other a)
  without-equivalent (released.Callee leg) meter who at c one other a =
      over-equivalent heads config keys who at Ended meter leg.meter c (with_bye config.sip (public_leg known2 leg).dialogue one) (with_bye config.sip leg.dialogue other)
      (asked-equivalent heads T config.sip (codes "BYE") leg.dialogue [] [] one other a)

  ends-equivalent : (p : Phase) (who : Identities2) (at : ℕ) (c : Call) (one other : StepOutput) → in_flight_is_from_own_peers T c.relayed → EquivalentOutputs T one other →
      EquivalentSteps T (finish_of_phase (public_phase known2 p) config at (public_call known2 who c) one) (finish_of_phase p config at c other)
  ends-equivalent (Offered x) who at c one other asked a = on-equivalent heads config keys who c one other a
  ends-equivalent (Established x stage) who at c one other asked a = on-equivalent heads config keys who c one other a
  ends-equivalent (Detached detached) who at c one other asked a =
      without-equivalent detached.remaining detached.meter who at (without_in_flight c) (output_after_dismissal config (public_call known2 who c) one) (output_after_dismissal config c other)
      (dismissals heads config keys who c one other asked a)
  ends-equivalent (Over cause) who at c one other asked a = on-equivalent heads config keys who c one other a

  finishes-equivalent : (who : Identities2) (at : ℕ) (c : Call) (one other : StepOutput) → in_flight_is_from_own_peers T c.relayed → EquivalentOutputs T one other →
      EquivalentSteps T (call_finish config at (public_call known2 who c) one) (call_finish config at c other)
  unfolding call_finish
  finishes-equivalent who at c one other asked a = ends-equivalent c.phase who at c one other asked a

  -- the remaining call does not depend on what was sent
  end_same : (p : Phase) (who : Identities2) (at : ℕ) (c : Call) (one other : StepOutput) →
      public_part known2 (finish_of_phase (public_phase known2 p) config at (public_call known2 who c) one).call ≡ public_part known2 (finish_of_phase p config at c other).call
  end_same (Offered x) who at c one other = call_once known2 nobody who c
  end_same (Established x stage) who at c one other = call_once known2 nobody who c
  end_same (Detached detached) who at c one other = call_once known2 nobody who (finish_of_phase (Detached detached) config at c other).call
  end_same (Over cause) who at c one other = call_once known2 nobody who c

  finish_same : (who : Identities2) (at : ℕ) (c : Call) (one other : StepOutput) → public_part known2 (call_finish config at (public_call known2 who c) one).call ≡ public_part known2 (call_finish config at c other).call
  unfolding call_finish
  finish_same who at c one other = end_same c.phase who at c one other

  both-end : (records : List Sheet) (at : ℕ) (c d : Call) (one other : StepOutput) → EquivalentCalls records known2 c d → in_flight_is_from_own_peers T c.relayed →
      in_flight_is_from_own_peers T d.relayed → EquivalentOutputs T one other →
      EquivalentSteps T (call_finish config at c one) (call_finish config at d other)
  both-end records at c d one other alike first then a =
      let q : StepResult = call_finish config at (public_part known2 d) one in
      let moved : EquivalentSteps T q (call_finish config at c one) =
      subst (λ (z : Call). EquivalentSteps T (call_finish config at z one) (call_finish config at c one)) alike.same (finishes-equivalent nobody at c one one first (same_output T one)) in
      steps-then T (call_finish config at c one) q (call_finish config at d other) (steps-back T q (call_finish config at c one) moved) (finishes-equivalent nobody at d one other then a)

  both-ended : (records : List Sheet) (at : ℕ) (c d : Call) (one other : StepOutput) → EquivalentCalls records known2 c d →
      EquivalentCalls records known2 (call_finish config at c one).call (call_finish config at d other).call
  both-ended records at c d one other alike = record {
    same = sym (finish_same nobody at c one one) ∙ (ap (λ (z : Call). public_part known2 (call_finish config at z one).call) alike.same ∙ finish_same nobody at d one other);
    callers = callers_stay known2 records c d (call_finish config at c one).call (call_finish config at d other).call (finished_stays config at c one) (finished_stays config at d other) alike.callers;
  }

pub detaching_keeps_equivalence : Heads → DetachingKeepsEquivalence
detaching_keeps_equivalence heads = record {
  legs = λ records known side c d alike. legs_equivalent known records side c d alike;
  out = λ records known side c d alike. out_equivalent known records side c d alike;
  back = λ records known leg other c d e alike. back_equivalent known records leg other c d e alike;
  ends = λ records config keys at c d one other alike first then a. both-end heads config keys records at c d one other alike first then a;
  ended = λ records config keys at c d one other alike a. both-ended heads config keys records at c d one other alike;
}
