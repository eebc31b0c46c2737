-- The leg of an attempt that has no final response: what is known of it, and whether a response established an early dialog (RFC 3261 §12.1).
use Rattle.std.specs.Prelude.{Bool, true, false}
use Rattle.mmtel_leg.specs.Legs.{Leg}
use Rattle.mmtel_call.specs.declared.calls.AttemptLegState.{AttemptLegState}
use Rattle.mmtel_call.specs.declared.calls.AttemptLegState.TheVariants.{Asked, Early}

pub record AttemptLegView : Type 0 where
  pub leg : Leg
  pub is_early : Bool

abbrev pub attempt_leg_view : AttemptLegState → AttemptLegView
attempt_leg_view (Asked leg) = record { leg = leg; is_early = false }
attempt_leg_view (Early leg) = record { leg = leg; is_early = true }
