-- The link in memory, as contracts see it.
use Rattle.std.specs.Prelude.{◌≡◌, ℕ, Bool}
use Rattle.mmtel_link.specs.LinkStates.{LinkCalls, LinkInput, LinkOutput, fails_next, with_next_call}

-- its inputs and outputs, its calls, and the counts of its arrival and delivery faults
pub record MemoryLinkView : Type 0 where
  pub input : LinkInput
  pub output : LinkOutput
  pub calls : LinkCalls
  pub arrival_faults : ℕ
  pub delivery_faults : ℕ

-- a call at its start: it is counted; whether it fails by its number
abbrev pub BeginsCall : MemoryLinkView → MemoryLinkView → Bool → Type 0
BeginsCall before after fails = (fails ≡ fails_next before.calls) × (after ≡ record before { calls = with_next_call before.calls })
