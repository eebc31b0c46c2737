-- The counts of a link's faults after a call, by the result of the call.
use Rattle.std.specs.Prelude.{ℕ}
use Rattle.std.specs.declared.result.Result.{Result}
use Rattle.mmtel_environment.specs.Counts.{HasFaultCause}
use Rattle.mmtel_link.specs.declared.links.SendFault.{SendFault}
use Rattle.mmtel_link.specs.declared.links.SendFault.TheVariants.{Failed, NoMemory}

-- the count rose at `Failed`, and is as before at every other result
abbrev pub HasSendCause : {T : Type 0} → ℕ → ℕ → Result T SendFault → Type 0
HasSendCause before now result = HasFaultCause Failed NoMemory before now result
