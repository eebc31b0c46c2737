-- The effect of the calls of a disk on its bytes, and which bytes a stop of the machine may leave.
use Rattle.std.specs.Prelude.{◌<◌, ◌≡◌, ◌⊎◌, ℕ, ◌+◌, ◌≤◌, List, ◌++◌, length, take, drop, get_or}

-- new is old with these bytes at this position
abbrev pub Holds : List ℕ → ℕ → List ℕ → List ℕ → Type 0
Holds old at bytes new = new ≡ take at old ++ bytes ++ drop (at + length bytes) old

-- what a stop may leave of old where n bytes at a position are being written: these and all past the old end may have any value, the others are unchanged
pub record Torn (at n : ℕ) (old new : List ℕ) : Type 0 where
  pub no_shorter : length old ≤ length new
  pub stays : (i : ℕ) → i < length old → (i < at) ⊎ (at + n ≤ i) → get_or new i 0 ≡ get_or old i 0

-- each image after the step is the result of the step on an image before
abbrev pub Follows : (List ℕ → List ℕ → Type 0) → (List ℕ → Type 0) → (List ℕ → Type 0) → Type 0
Follows step before after = (c : List ℕ) → after c → (d : List ℕ) × before d × step d c

-- each image has P
abbrev pub Leaves : (List ℕ → Type 0) → (List ℕ → Type 0) → Type 0
Leaves may_leave P = (c : List ℕ) → may_leave c → P c

-- a stop leaves this and nothing else
abbrev pub Only : List ℕ → (List ℕ → Type 0) → Type 0
Only bytes may_leave = Leaves may_leave (λ c. c ≡ bytes)

-- from one clock value to a later one: a stop since t might have left what it might have left before, or what it may leave now
pub record Elapses (before now : ℕ) (past since : ℕ → List ℕ → Type 0) (may_leave : List ℕ → Type 0) : Type 0 where
  pub later : before ≤ now
  pub nothing_else : (t : ℕ) (c : List ℕ) → t ≤ before → since t c → past t c ⊎ may_leave c
  pub keeps : (t : ℕ) (c : List ℕ) → t ≤ before → past t c → since t c

-- a stop at any moment since old leaves what has P
pub record LeavesOnly {D : Type 0} (clock : D → ℕ) (left_since : D → ℕ → List ℕ → Type 0) (old new : D) (P : List ℕ → Type 0) : Type 0 where
  pub later : clock old ≤ clock new
  pub each : (c : List ℕ) → left_since new (clock old) c → P c
  -- of the time before that
  pub before : (t : ℕ) (c : List ℕ) → t ≤ clock old → left_since new t c → left_since old t c ⊎ P c
