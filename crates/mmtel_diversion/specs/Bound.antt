-- The bound on the diversions of a call (TS 24.604 §4.5.2.6), over whole numbers.
use Rattle.std.specs.Prelude.{ℕ, ◌+◌, Bool, nat_lt}

-- the diversions that the call was received with, and those that were made here, are together below the bound
abbrev pub is_within : (received : ℕ) → (done : ℕ) → (bound : ℕ) → Bool
is_within received done bound = nat_lt (received + done) bound
