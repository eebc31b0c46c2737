-- The state of the end of a journal on a disk.
use Rattle.std.specs.Prelude.{◌≡◌, ℕ, true, false, List, [], ◌∷◌, ◌++◌, length}
use Rattle.std.specs.Int.{w64, to_be_bytes}
use Rattle.mmtel_journal.specs.Disks.{Leaves}
use Rattle.mmtel_journal.specs.Journal.{encoded_records, IsJournal, IsAmong}
use Rattle.mmtel_journal.specs.Gates.{Staged}
use Rattle.mmtel_journal.specs.declared.logs.Log.{Log}

-- what is written after a gate: the length, the payload and the next gate
unfoldable pub body_bytes : List ℕ → List ℕ
body_bytes payload = to_be_bytes w64 (length payload) ++ payload ++ 0 ∷ []

-- a journal of these payloads, of which a stop may leave one more, of the others
pub record LogRepresents {D : Type 0} (may_leave : D → List ℕ → Type 0) (payloads others : List (List ℕ)) (log : Log D) : Type 0 where
  pub gate : log.gate ≡ length (encoded_records payloads)
  pub closed : log.pending ≡ false → Leaves (may_leave log.disk) (IsJournal payloads)
  pub pending : log.pending ≡ true → (more : List ℕ) × IsAmong others more × Leaves (may_leave log.disk) (Staged (encoded_records payloads) (body_bytes more))
