-- The result of reading a part of a record: the value of the definition, or its fault, unless memory ran out.
use Rattle.std.specs.Prelude.{◌≡◌, ℕ, List, Result, Ok, Err, Option, Some, None}
use Rattle.mmtel_sheet_grammar.specs.declared.faults.SheetFault.{SheetFault}
use Rattle.mmtel_sheet_grammar.specs.declared.faults.SheetFault.TheVariants.{NotToml, Unknown, Wrong, Many, NoMemory}

-- what is read, or the first fault
abbrev pub Read : Type 0 → Type 0
Read A = Result A SheetFault

module _ {A B : Type 0} where
  -- the first, and then the second on what the first returned
  abbrev pub then_read : Read A → (A → Read B) → Read B
  then_read (Ok a) next = next a
  then_read (Err e) next = Err e

module _ {A : Type 0} where
  -- the value at this key is of the wrong kind where there is none
  abbrev pub or_wrong : List ℕ → Option A → Read A
  or_wrong at None = Err (Wrong at)
  or_wrong at (Some a) = Ok a

  abbrev pub IsReadFault : Read A → SheetFault → Type 0
  IsReadFault wanted NotToml = ⊥
  IsReadFault wanted (Unknown key) = wanted ≡ Err (Unknown key)
  IsReadFault wanted (Wrong key) = wanted ≡ Err (Wrong key)
  IsReadFault wanted (Many key limit) = wanted ≡ Err (Many key limit)
  IsReadFault wanted NoMemory = Unit {0}

  abbrev pub IsReadResult : Read A → Read A → Type 0
  IsReadResult wanted (Ok a) = wanted ≡ Ok a
  IsReadResult wanted (Err e) = IsReadFault wanted e
