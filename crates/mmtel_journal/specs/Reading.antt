-- Reading a journal from left to right.
use Rattle.std.specs.Prelude.{◌≡◌, ◌≢◌, ◌⊎◌, ◌<◌, ◌^◌, ℕ, Bool, true, false, List, [], ◌∷◌, ◌++◌, length, Option, Some, None}
use Rattle.std.specs.Int.{w64, to_be_bytes}
use Rattle.mmtel_types.specs.declared.numbers.Account.{Account}
use Rattle.mmtel_charging.specs.declared.rows.Row.{Row}
use Rattle.mmtel_keeper.specs.Contents.{KeeperContents}
use Rattle.mmtel_journal.specs.Journal.{encoded_records}
use Rattle.mmtel_journal.specs.Keepers.{no_contents}
use Rattle.mmtel_journal.specs.Payloads.{AreSheets, AreRows, IsPayload, Adds, AddsAll, put_sheets}

-- the gate that ends a journal is at this position, after the records of payloads that give these contents
abbrev pub EndsAt : List ℕ → ℕ → KeeperContents → Type 0
EndsAt bytes at held =
    (payloads : List (List ℕ)) × (gate : ℕ) × (rest : List ℕ) × (gate ≢ 1) × (bytes ≡ encoded_records payloads ++ gate ∷ rest) ×
    (at ≡ length (encoded_records payloads)) × AddsAll payloads no_contents held

-- no record begins so
abbrev pub IsNoRecord : List ℕ → Type 0
IsNoRecord tail = (payload rest : List ℕ) → length payload < 2 ^ 64 → IsPayload payload → tail ≡ to_be_bytes w64 (length payload) ++ payload ++ rest → ⊥

-- after the records of some payloads there is nothing at this position, or an open gate without a record after it
abbrev pub IsBrokenAt : List ℕ → ℕ → Type 0
IsBrokenAt bytes at =
    (payloads : List (List ℕ)) × (rest : List ℕ) × (held : KeeperContents) × AddsAll payloads no_contents held
    × (bytes ≡ encoded_records payloads ++ rest) × (at ≡ length (encoded_records payloads))
    × ((rest ≡ []) ⊎ ((tail : List ℕ) × (rest ≡ 1 ∷ tail) × IsNoRecord tail))

-- used between the functions of this crate only

-- a result, mapped by view, is that of reading
abbrev pub IsReadValue : {X Y : Type 0} → (X → Y) → Option X → Option Y → Type 0
IsReadValue view (Some x) read = read ≡ Some (view x)
IsReadValue view None read = read ≡ None

-- the payload of a record after its open gate, whatever its content, and the bytes after it
abbrev pub IsFramed : List ℕ → List ℕ → List ℕ → Type 0
IsFramed tail payload rest = (length payload < 2 ^ 64) × (tail ≡ to_be_bytes w64 (length payload) ++ payload ++ rest)

abbrev pub IsUnframed : List ℕ → Type 0
IsUnframed tail = (payload rest : List ℕ) → IsFramed tail payload rest → ⊥

-- the result of reading the sheets or the rows of a payload: whether they are of the format, and the sheets or rows with them added
abbrev pub ReadsSheets : List ℕ → List (Account × List ℕ) → List (Account × List ℕ) → Bool → Type 0
ReadsSheets payload before after true = (sheets : List (Account × List ℕ)) × AreSheets payload sheets × (after ≡ put_sheets sheets before)
ReadsSheets payload before after false = (sheets : List (Account × List ℕ)) → AreSheets payload sheets → ⊥

abbrev pub ReadsRows : List ℕ → List Row → List Row → Bool → Type 0
ReadsRows payload before after true = (rows : List Row) × AreRows payload rows × (after ≡ before ++ rows)
ReadsRows payload before after false = (rows : List Row) → AreRows payload rows → ⊥

abbrev pub ReadsPayload : List ℕ → KeeperContents → KeeperContents → Bool → Type 0
ReadsPayload payload before after true = Adds payload before after
ReadsPayload payload before after false = IsPayload payload → ⊥
