-- The part of a reading that is kept: the value, or that it was refused, unless memory ran out.
use Rattle.std.specs.Prelude.{◌≡◌, Option, Some, None, Result, Ok, Err}
use Rattle.mmtel_base.specs.declared.memory.NoMemory.{NoMemory}
use Rattle.mmtel_sheet_grammar.specs.ReadResults.{Read}
use Rattle.mmtel_sheet_grammar.specs.declared.faults.SheetFault.TheVariants as fault

module _ {A : Type 0} where
  abbrev pub IsReadOrNone : Read A → Result (Option A) NoMemory → Type 0
  IsReadOrNone (Ok a) result = result ≡ Ok (Some a)
  IsReadOrNone (Err fault.NoMemory) (Ok o) = ⊥
  IsReadOrNone (Err fault.NoMemory) (Err e) = Unit {0}
  IsReadOrNone (Err fault.NotToml) result = result ≡ Ok None
  IsReadOrNone (Err (fault.Unknown k)) result = result ≡ Ok None
  IsReadOrNone (Err (fault.Wrong k)) result = result ≡ Ok None
  IsReadOrNone (Err (fault.Many k n)) result = result ≡ Ok None
