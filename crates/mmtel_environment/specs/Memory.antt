-- The files and the sink in memory, as contracts see them.
use Rattle.std.specs.Prelude.{◌≡◌, ℕ, ◌-◌, ◌==◌, min, take, length, List, ◌++◌, if◌then◌else◌, Some, None, OnOk, MatchResult}
use Rattle.std.specs.declared.option.Option.{Option}
use Rattle.std.specs.declared.result.Result.{Result}
use Rattle.mmtel_base.specs.Numbers.{next_number}
use Rattle.mmtel_environment.specs.Counts.{fails_by_number}
use Rattle.mmtel_environment.specs.FileStore.{FileStore}

-- files in memory: their contents, and the count of their faults
pub record MemoryFilesView : Type 0 where
  pub store : FileStore
  pub faults : ℕ

-- a sink in memory: what was written to it, the remaining space, the maximum of one write, the numbers of the writes that fail, how many writes were made, and the count of faults
pub record MemorySinkView : Type 0 where
  pub written : List ℕ
  pub capacity : ℕ
  pub most : ℕ
  pub failing : List ℕ
  pub calls : ℕ
  pub faults : ℕ

-- how many of the bytes the next write accepts, where it does not fail by its number
abbrev pub fits : MemorySinkView → List ℕ → ℕ
fits basin bytes = min (min (length bytes) basin.most) basin.capacity

-- the result of the next write: how many bytes it accepts, or nothing where it fails, by its number or since it would accept none of bytes that are not empty
abbrev pub next_write : MemorySinkView → List ℕ → Option ℕ
next_write basin bytes =
    if length bytes == 0 then Some 0
    else if fails_by_number basin.failing basin.calls then None
    else if fits basin bytes == 0 then None
    else Some (fits basin bytes)

-- the sink after a write of bytes that are not empty, by the result of the write
abbrev pub sink_after_write : MemorySinkView → List ℕ → Option ℕ → MemorySinkView
sink_after_write basin bytes None = record basin { calls = next_number basin.calls; faults = next_number basin.faults }
sink_after_write basin bytes (Some count) =
    record basin { calls = next_number basin.calls; written = basin.written ++ take count bytes; capacity = basin.capacity - count }

-- the sink after a write: one of no bytes changes nothing and has no number
abbrev pub sink_after : MemorySinkView → List ℕ → MemorySinkView
sink_after basin bytes = if length bytes == 0 then basin else sink_after_write basin bytes (next_write basin bytes)

-- the result of a write is the one of the sink's model
abbrev pub WritesAs : {E : Type 0} → Option ℕ → Result ℕ E → Type 0
WritesAs None result = OnOk result ⊥
WritesAs (Some count) result = MatchResult result (λ n. n ≡ count) (λ _. ⊥)
