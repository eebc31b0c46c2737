-- A word of the contracts: the result of a reader.
use Rattle.std.specs.Prelude.{◌≡◌, Option, Some, None, Result, Ok, Err}
use Rattle.mmtel_sdp.specs.declared.faults.SdpFault.{SdpFault}
use Rattle.mmtel_sdp.specs.declared.faults.SdpFault.TheVariants.{NotSdp, NoMemory}

-- the value that reading gives, and NotSdp where it gives none, unless memory ran out
abbrev pub IsResult : {V : Type 0} → Result V SdpFault → Option V → Type 0
IsResult (Ok v) read = read ≡ Some v
IsResult (Err NotSdp) read = read ≡ None
IsResult (Err NoMemory) read = Unit {0}
