-- What the turns of `drive` so far received from a link and did with it.
use Rattle.std.specs.Prelude.{◌≡◌, ◌⊎◌, ◌+◌, ◌<◌, ◌≤◌, ℕ, Bool, true, false, List, [], ◌∷◌, ◌++◌, length, take, Option, Some, None, Result, Ok, Err}
use Rattle.mmtel_http.specs.Requests.{ParsedRequestView, unfinished, bad, large, parsed}
use Rattle.mmtel_link.specs.LinkStates.{LinkInput, next_arrival, web_bytes}
use Rattle.mmtel_environment.specs.Counts.{Rose}
use Rattle.mmtel_environment.specs.declared.events.Offer.{Offer}
use Rattle.mmtel_run_definitions.specs.Events.{EventRecord, events_in}
use Rattle.mmtel_base.specs.declared.memory.NoMemory.{NoMemory}
use Rattle.mmtel_server.specs.DriveEffects.{ContinuesRunBy, ContinuesServingBy, CountsEachFault, HoldsUploads, IsReadOut, KeeperResultsOfRun, ReadEach, ReceivesMore, most_read}
use Rattle.mmtel_server.specs.States.{ServingState}

-- ---- one connection

-- whether more bytes can complete it to a request
abbrev pub is_unfinished : ParsedRequestView → Bool
is_unfinished unfinished = true
is_unfinished bad = false
is_unfinished large = false
is_unfinished (parsed a) = false

-- the connection came after the link's earlier input, and so many of its bytes were read; reading has ended before their end, or not
abbrev pub read_to : LinkInput → ℕ → Bool → LinkInput
read_to input count over = record input { reads = input.reads ++ count ∷ []; ended = over }

-- these of its bytes were read so far
abbrev pub IsReading : Option LinkInput → Option LinkInput → List ℕ → Type 0
IsReading None later bytes = later ≡ None
IsReading (Some input) later bytes = (later ≡ Some (read_to input (length bytes) false)) × (take (length bytes) (web_bytes (next_arrival input)) ≡ bytes)

-- these of its bytes were read, to their end or until a read failed; or memory ran out in between
abbrev pub ReadsRequest : Option LinkInput → Option LinkInput → (giving gave : ℕ) → Result (List ℕ) NoMemory → Type 0
ReadsRequest None later giving gave result = later ≡ None
ReadsRequest (Some input) later giving gave (Ok bytes) =
    (over : Bool) × (later ≡ Some (read_to input (length bytes) over)) × (take (length bytes) (web_bytes (next_arrival input)) ≡ bytes)
    × ((IsReadOut (length bytes) (web_bytes (next_arrival input)) × (gave ≡ giving)) ⊎ Rose giving gave)
ReadsRequest (Some input) later giving gave (Err e) = (over : Bool) × (count : ℕ) × (later ≡ Some (read_to input count over))

-- what a read adds: at least one byte and at most its maximum, or none
abbrev pub Grows : List ℕ → List ℕ → Bool → Type 0
Grows bytes more true = (length bytes < length more) × (length more ≤ length bytes + most_read) × (take (length bytes) more ≡ bytes)
Grows bytes more false = more ≡ bytes

-- after one more read
abbrev pub ReadsMore : Option LinkInput → Option LinkInput → (giving gave : ℕ) → List ℕ → Result Bool NoMemory → Type 0
ReadsMore input later giving gave bytes (Ok true) = IsReading input later bytes
ReadsMore input later giving gave bytes (Ok false) = ReadsRequest input later giving gave (Ok bytes)
ReadsMore input later giving gave bytes (Err e) = ReadsRequest input later giving gave (Err e)

-- ---- all turns

-- so many events came, and were processed: their effect, but for the outputs
pub record EffectSoFar (recorded : List EventRecord) (turns : ℕ) (old new : ServingState) : Type 0 where
  pub receives : ReceivesMore old.link.input new.link.input (events_in recorded)
  pub each : length recorded ≡ turns
  pub serves : ContinuesServingBy recorded old.server new.server
  pub results : KeeperResultsOfRun recorded old.server old.keeper new.keeper
  pub holds : HoldsUploads recorded old.server old.keeper.contents new.keeper.contents
  pub counts : CountsEachFault recorded old.keeper.faults new.keeper.faults

-- and the outputs, for `drive`
pub record DriveEffectSoFar (turns : ℕ) (old new : ServingState) (out now : List Offer) : Type 0 where
  pub recorded : List EventRecord
  pub effect : EffectSoFar recorded turns old new
  pub read : ReadEach old.link.input new.link.input old.link.delivery_faults new.link.delivery_faults
  pub runs : ContinuesRunBy recorded old.server out new.server now
