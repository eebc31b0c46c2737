-- After directions that were noted one by one: which side holds, and how often a hold began.
use Rattle.std.proofs.Common.{◌≡◌, ℕ, ◌+◌, Bool, true, false, List, [], ◌∷◌, refl, ap, ◌∙◌, arith}
use Rattle.std.specs.Prelude.{min, not, ◌&&◌, if◌then◌else◌}
use Rattle.mmtel_types.specs.declared.sides.Side.{Side}
use Rattle.mmtel_types.specs.declared.sides.Side.TheVariants.{Caller, Callee}
use Rattle.mmtel_waiting.specs.Hold.{is_hold, holds_of, DirectionRequest, state_after, holds_by_last, holds_begun, count_after, max_holds}

-- a side holds exactly where its last direction is a hold
pub holds_of-state_after : (asks : List DirectionRequest) (side : Side) → holds_of (state_after asks) side ≡ holds_by_last side asks
holds_of-state_after [] Caller = refl
holds_of-state_after [] Callee = refl
holds_of-state_after ((Caller, d) ∷ earlier) Caller = refl
holds_of-state_after ((Caller, d) ∷ earlier) Callee = holds_of-state_after earlier Callee
holds_of-state_after ((Callee, d) ∷ earlier) Caller = holds_of-state_after earlier Caller
holds_of-state_after ((Callee, d) ∷ earlier) Callee = refl

-- one more, up to the maximum
min-one_more : (n most : ℕ) → min (min n most + 1) most ≡ min (n + 1) most
min-one_more n most = omega arith

-- the count increases with the number of times
count_after-times : (n : ℕ) (now before : Bool) → count_after (min n max_holds) before now ≡ min (if now && not before then n + 1 else n) max_holds
count_after-times n true true = refl
count_after-times n true false = min-one_more n max_holds
count_after-times n false before = refl

-- the count after one more direction
count-step : (last : DirectionRequest) (earlier : List DirectionRequest) → (state_after (last ∷ earlier)).holds ≡ count_after (state_after earlier).holds (holds_of (state_after earlier) last.0) (is_hold last.1)
count-step (Caller, d) earlier = refl
count-step (Callee, d) earlier = refl

-- the count is how often a hold began, up to the maximum
pub holds-state_after : (asks : List DirectionRequest) → (state_after asks).holds ≡ min (holds_begun asks) max_holds
holds-state_after [] = refl
holds-state_after (last ∷ earlier) =
    count-step last earlier
    ∙ ap (λ n. count_after n (holds_of (state_after earlier) last.0) (is_hold last.1)) (holds-state_after earlier)
    ∙ ap (λ before. count_after (min (holds_begun earlier) max_holds) before (is_hold last.1)) (holds_of-state_after earlier last.0)
    ∙ count_after-times (holds_begun earlier) (is_hold last.1) (holds_by_last last.0 earlier)
