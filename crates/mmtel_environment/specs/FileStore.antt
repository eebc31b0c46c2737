-- Files whose contents are known: named texts, whose reads fail by name or by number.
use Rattle.std.specs.Prelude.{◌≡◌, ℕ, List, [], ◌∷◌, if◌then◌else◌, IfOk, IsErrOf, ◌↔◌, Some, None}
use Rattle.std.specs.Str.{bytes_eq}
use Rattle.std.specs.declared.option.Option.{Option}
use Rattle.std.specs.declared.result.Result.{Result}
use Rattle.mmtel_base.specs.Numbers.{next_number}
use Rattle.mmtel_environment.specs.Counts.{fails_by_number, HasFaultCause}
use Rattle.mmtel_environment.specs.declared.files.FileFault.{FileFault}
use Rattle.mmtel_environment.specs.declared.files.FileFault.TheVariants.{Failed, NoMemory}

-- the names with their texts, the numbers of the calls that fail, and how many calls were made
pub record FileStore : Type 0 where
  pub texts : List (List ℕ × List ℕ)
  pub failing : List ℕ
  pub calls : ℕ

-- the text of the first file of that name
abbrev pub text_at : List (List ℕ × List ℕ) → List ℕ → Option (List ℕ)
text_at [] name = None
text_at (file ∷ files) name = if bytes_eq file.0 name then Some file.1 else text_at files name

-- the result of the next call for that name: its text, or nothing where it fails
abbrev pub next_read : FileStore → List ℕ → Option (List ℕ)
next_read shelf name = if fails_by_number shelf.failing shelf.calls then None else text_at shelf.texts name

-- the files after a call, whatever it returned
abbrev pub with_next_call : FileStore → FileStore
with_next_call shelf = record shelf { calls = next_number shelf.calls }

-- a read returns what the model gives: it fails exactly where the model has no text, and else returns that text or runs out of memory
pub record Reads (shelf : FileStore) (name : List ℕ) (result : Result (List ℕ) FileFault) : Type 0 where
  pub ok : IfOk result (λ text. next_read shelf name ≡ Some text)
  pub failed : IsErrOf result Failed ↔ (next_read shelf name ≡ None)

-- the same where the contents are known, and they are known afterwards; where nothing is known, nothing is known afterwards
abbrev pub ReadsIfExposed : Option FileStore → Option FileStore → List ℕ → Result (List ℕ) FileFault → Type 0
ReadsIfExposed None after name result = after ≡ None
ReadsIfExposed (Some shelf) after name result = (after ≡ Some (with_next_call shelf)) × Reads shelf name result

-- the count of faults after a read: it rose at `Failed`, and is as before at every other result
abbrev pub HasFileCause : {T : Type 0} → ℕ → ℕ → Result T FileFault → Type 0
HasFileCause before now result = HasFaultCause Failed NoMemory before now result
