-- The count of a keeper's faults after a call, by the result of the call.
use Rattle.std.specs.Prelude.{ℕ}
use Rattle.std.specs.declared.result.Result.{Result}
use Rattle.mmtel_environment.specs.Counts.{HasFaultCause}
use Rattle.mmtel_keeper.specs.declared.keepers.KeepFault.{KeepFault}
use Rattle.mmtel_keeper.specs.declared.keepers.KeepFault.TheVariants.{Failed, NoMemory}

-- the count rose at `Failed`, and is as before at every other result
abbrev pub HasKeepCause : {T : Type 0} → ℕ → ℕ → Result T KeepFault → Type 0
HasKeepCause before now result = HasFaultCause Failed NoMemory before now result
