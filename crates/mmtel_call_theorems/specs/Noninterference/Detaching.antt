-- Two indistinguishable calls of which a leg is detached, put back, or which end without it (RFC 4579 §5.6, RFC 3891 §3).
use Rattle.std.specs.Prelude.{◌≡◌, ℕ, Bool, List}
use Rattle.std.specs.Option.{option_map}
use Rattle.mmtel_output.specs.declared.outputs.StepOutput.{StepOutput}
use Rattle.mmtel_leg.specs.declared.legs.Released.{Released}
use Rattle.mmtel_sheet_values.specs.declared.values.Sheet.{Sheet}
use Rattle.mmtel_transaction.specs.declared.words.TKey.{TKey}
use Rattle.mmtel_types.specs.declared.numbers.Peer.{Peer}
use Rattle.mmtel_types.specs.declared.sides.Side.{Side}
use Rattle.mmtel_call_services.specs.CallConfig.{CallConfigView, trusts}
use Rattle.mmtel_call.specs.declared.calls.Call.{Call}
use Rattle.mmtel_call.specs.Detaching.{call_finish, detached_in, removed_leg_in, with_leg_restored}
use Rattle.mmtel_call_theorems.specs.Noninterference.EquivalentCalls.{EquivalentCalls}
use Rattle.mmtel_call_theorems.specs.Noninterference.PublicCall.{public_released}
use Rattle.mmtel_call_theorems.specs.Noninterference.Premises.{in_flight_is_from_own_peers}
use Rattle.mmtel_call_theorems.specs.Noninterference.Observations.{EquivalentOutputs, EquivalentSteps, trust_of}

pub record DetachingKeepsEquivalence : Type 0 where
  -- a leg is detached: both calls have it or neither, its public part is the same, and what remains of the calls is indistinguishable
  pub legs : (records : List Sheet) (known : Peer → Bool) (side : Side) (c d : Call) → EquivalentCalls records known c d →
      option_map (public_released known) (removed_leg_in c.phase side) ≡ option_map (public_released known) (removed_leg_in d.phase side)
  pub out : (records : List Sheet) (known : Peer → Bool) (side : Side) (c d : Call) → EquivalentCalls records known c d →
      EquivalentCalls records known (detached_in c.phase side c) (detached_in d.phase side d)
  -- two legs with the same public part are put back
  pub back : (records : List Sheet) (known : Peer → Bool) (leg other : Released) (c d : Call) → public_released known leg ≡ public_released known other →
      EquivalentCalls records known c d →
      EquivalentCalls records known (with_leg_restored c.phase leg c) (with_leg_restored d.phase other d)
  -- the calls end without it; requests in flight get their final responses
  pub ends : (records : List Sheet) (config : CallConfigView) (keys : TKey → Bool) (at : ℕ) (c d : Call) (one other : StepOutput) → EquivalentCalls records (trusts config) c d →
      in_flight_is_from_own_peers (trust_of config keys) c.relayed → in_flight_is_from_own_peers (trust_of config keys) d.relayed →
      EquivalentOutputs (trust_of config keys) one other →
      EquivalentSteps (trust_of config keys) (call_finish config at c one) (call_finish config at d other)
  pub ended : (records : List Sheet) (config : CallConfigView) (keys : TKey → Bool) (at : ℕ) (c d : Call) (one other : StepOutput) → EquivalentCalls records (trusts config) c d →
      EquivalentOutputs (trust_of config keys) one other →
      EquivalentCalls records (trusts config) (call_finish config at c one).call (call_finish config at d other).call
