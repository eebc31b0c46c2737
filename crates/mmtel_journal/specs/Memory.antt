-- A disk in memory, which records its calls: what a read returns after them, and what a stop may leave.
use Rattle.std.specs.Prelude.{◌≡◌, ℕ, ◌+◌, ◌≤◌, List, [], ◌∷◌, ◌++◌, length, take, drop}
use Rattle.mmtel_journal.specs.Disks.{Torn}
use Rattle.mmtel_journal.specs.declared.memory.MemoryDisk.{MemoryDisk}
use Rattle.mmtel_journal.specs.declared.memory.DiskOp.{DiskOp}
use Rattle.mmtel_journal.specs.declared.memory.DiskOp.TheVariants.{Wrote, Tore, Synced, Unchanged}

-- these bytes at this position
abbrev pub with_write : List ℕ → ℕ → List ℕ → List ℕ
with_write bytes at new = take at bytes ++ new ++ drop (at + length new) bytes

-- what a read returns after these calls
abbrev pub bytes_after_ops : List ℕ → List DiskOp → List ℕ
bytes_after_ops bytes [] = bytes
bytes_after_ops bytes (Wrote at new ∷ calls) = bytes_after_ops (with_write bytes at new.items) calls
bytes_after_ops bytes (Tore at new ∷ calls) = bytes_after_ops bytes calls
bytes_after_ops bytes (Synced ∷ calls) = bytes_after_ops bytes calls
bytes_after_ops bytes (Unchanged ∷ calls) = bytes_after_ops bytes calls

-- what a stop may leave while these bytes are being written
abbrev pub AfterWrite : ℕ → List ℕ → (List ℕ → Type 0) → List ℕ → Type 0
AfterWrite at new P c = (d : List ℕ) × P d × Torn at (length new) d c

-- what a stop may leave after these calls, of a disk of these bytes of which it may leave what has P
abbrev pub crash_images_after : List ℕ → (List ℕ → Type 0) → List DiskOp → List ℕ → Type 0
crash_images_after bytes P [] c = P c
crash_images_after bytes P (Wrote at new ∷ calls) c = crash_images_after (with_write bytes at new.items) (AfterWrite at new.items P) calls c
crash_images_after bytes P (Tore at new ∷ calls) c = crash_images_after bytes (AfterWrite at new.items P) calls c
crash_images_after bytes P (Synced ∷ calls) c = crash_images_after bytes (λ d. d ≡ bytes) calls c
crash_images_after bytes P (Unchanged ∷ calls) c = crash_images_after bytes P calls c

abbrev pub crash_image_of : List ℕ → List DiskOp → List ℕ → Type 0
crash_image_of first calls c = crash_images_after first (λ d. d ≡ first) calls c

-- what a stop after some call from this one on might have left
abbrev pub CrashImageSince : List ℕ → List DiskOp → ℕ → List ℕ → Type 0
CrashImageSince first calls t c = (k : ℕ) × (t ≤ k) × (k ≤ length calls) × crash_image_of first (take k calls) c

-- a disk of these bytes of which no call was made, with the numbers of those that fail
pub record IsFresh (disk : MemoryDisk) (bytes numbers : List ℕ) : Type 0 where
  pub first : disk.first.items ≡ bytes
  pub calls : disk.calls.items ≡ []
  pub failing : disk.failing ≡ numbers
  pub faults : disk.faults ≡ 0
