-- Which sides of a call hold it, by the directions of their offers (RFC 3264 §8.4, TS 24.610 §4.5.2.1), and how often a side began to.
use Rattle.std.specs.Prelude.{◌≡◌, ℕ, ◌+◌, ◌-◌, ◌^◌, min, Bool, true, false, not, ◌&&◌, if◌then◌else◌, List, [], ◌∷◌}
use Rattle.mmtel_types.specs.declared.sides.Side.{Side}
use Rattle.mmtel_types.specs.declared.sides.Side.TheVariants.{Caller, Callee}
use Rattle.mmtel_sdp.specs.declared.values.Direction.{Direction}
use Rattle.mmtel_sdp.specs.declared.values.Direction.TheVariants.{SendRecv, SendOnly, RecvOnly, Inactive}
use Rattle.mmtel_waiting.specs.declared.hold.HoldState.{HoldState}

-- a side holds where it does not receive media from the other one
abbrev pub is_hold : Direction → Bool
is_hold SendOnly = true
is_hold Inactive = true
is_hold SendRecv = false
is_hold RecvOnly = false

-- whether the side holds
abbrev pub holds_of : HoldState → Side → Bool
holds_of state Caller = state.caller
holds_of state Callee = state.callee

-- the state after the side begins or ceases to hold
abbrev pub with_side : HoldState → Side → Bool → HoldState
with_side state Caller holds = record state { caller = holds }
with_side state Callee holds = record state { callee = holds }

-- the greatest count
abbrev pub max_holds : ℕ
max_holds = 2 ^ 32 - 1

-- one more, where a side begins to hold: it did not before, and does now
abbrev pub count_after : ℕ → Bool → Bool → ℕ
count_after count before now = if now && not before then min (count + 1) max_holds else count

-- the state after a side offered a direction
abbrev pub state_after_note : HoldState → Side → Direction → HoldState
state_after_note state side direction = record (with_side state side (is_hold direction)) { holds = count_after state.holds (holds_of state side) (is_hold direction) }

-- a side that made an offer, and the direction
abbrev pub DirectionRequest : Type 0
DirectionRequest = Side × Direction

-- no side holds
abbrev pub no_hold : HoldState
no_hold = record { caller = false; callee = false; holds = 0 }

-- the state after these, noted one by one; the last one is first in the list
abbrev pub state_after : List DirectionRequest → HoldState
state_after [] = no_hold
state_after (last ∷ earlier) = state_after_note (state_after earlier) last.0 last.1

-- the sides are the same
abbrev pub is_side : Side → Side → Bool
is_side Caller Caller = true
is_side Caller Callee = false
is_side Callee Caller = false
is_side Callee Callee = true

-- the last direction that this side offered is a hold; the last one is first in the list
abbrev pub holds_by_last : Side → List DirectionRequest → Bool
holds_by_last side [] = false
holds_by_last side (last ∷ earlier) = if is_side last.0 side then is_hold last.1 else holds_by_last side earlier

-- how often a hold came from a side whose last direction before was none; the last one is first in the list
abbrev pub holds_begun : List DirectionRequest → ℕ
holds_begun [] = 0
holds_begun (last ∷ earlier) = if is_hold last.1 && not (holds_by_last last.0 earlier) then holds_begun earlier + 1 else holds_begun earlier

-- the state after any directions is determined by the last ones of each side, and by how often a hold began
pub record DependsOnLastDirections : Type 0 where
  pub sides : (asks : List DirectionRequest) (side : Side) → holds_of (state_after asks) side ≡ holds_by_last side asks
  pub count : (asks : List DirectionRequest) → (state_after asks).holds ≡ min (holds_begun asks) max_holds
