-- Results of adding to tables.
use Rattle.std.specs.Prelude.{◌≡◌, Result, Ok, Err, Option, Some, None}
use Rattle.mmtel_trust.specs.declared.faults.TableFault.{TableFault}
use Rattle.mmtel_trust.specs.declared.faults.TableFault.TheVariants.{Taken, NoPeer, NoMemory}

-- an entry is refused with the fault, where there is one; otherwise it is added, or memory ran out
abbrev pub Refuses : TableFault → Option TableFault → Type 0
Refuses Taken fault = fault ≡ Some Taken
Refuses NoPeer fault = fault ≡ Some NoPeer
Refuses NoMemory fault = fault ≡ None

abbrev pub IsTableResult : {A : Type 0} → Result A TableFault → Option TableFault → Type 0
IsTableResult (Ok done) fault = fault ≡ None
IsTableResult (Err e) fault = Refuses e fault
