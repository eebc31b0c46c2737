-- Calls on a journal, one after the other, each acknowledged or refused; and what a stop leaves of the journal then.
use Rattle.std.specs.Prelude.{◌≡◌, ℕ, Bool, List, [], ◌∷◌, ◌++◌, if◌then◌else◌, Option, option_to_list}
use Rattle.mmtel_journal.specs.Disks.{LeavesOnly}
use Rattle.mmtel_journal.specs.Journal.{IsJournalOrMore}
use Rattle.mmtel_journal.specs.Logs.{LogRepresents}
use Rattle.mmtel_journal.specs.declared.logs.Log.{Log}

-- a call that ended: the payload that it was to append, if any, and whether it returned Ok
pub record JournalCall : Type 0 where
  pub payload : Option (List ℕ)
  pub ok : Bool

-- the payloads of a journal after a call
abbrev pub payloads_after_call : List (List ℕ) → JournalCall → List (List ℕ)
payloads_after_call payloads call = if call.ok then payloads ++ option_to_list call.payload else payloads

-- what a call may add: what was refused since the last call that was acknowledged, and its own payload
abbrev pub possible_additions : List (List ℕ) → JournalCall → List (List ℕ)
possible_additions refused call = refused ++ option_to_list call.payload

-- what was refused since the last call that was acknowledged, after a call
abbrev pub refused_after_call : List (List ℕ) → JournalCall → List (List ℕ)
refused_after_call refused call = if call.ok then [] else possible_additions refused call

-- the same over all calls, in order
abbrev pub payloads_after_calls : List (List ℕ) → List JournalCall → List (List ℕ)
payloads_after_calls payloads [] = payloads
payloads_after_calls payloads (call ∷ calls) = payloads_after_calls (payloads_after_call payloads call) calls

abbrev pub refused_after_calls : List (List ℕ) → List JournalCall → List (List ℕ)
refused_after_calls refused [] = refused
refused_after_calls refused (call ∷ calls) = refused_after_calls (refused_after_call refused call) calls

module _ {D : Type 0} (honest : D → Type 0) (may_leave : D → List ℕ → Type 0) (clock : D → ℕ) (left_since : D → ℕ → List ℕ → Type 0) where
  -- the effect of each call: where the journal was in this state, it is in it with what was stored; and a stop at any moment of the call leaves that, or one more of what was tried
  pub record IsJournalCall (old : Log D) (call : JournalCall) (new : Log D) : Type 0 where
    pub stays_honest : honest old.disk → honest new.disk
    pub represents : (payloads refused : List (List ℕ)) → honest old.disk → LogRepresents may_leave payloads refused old
        → LogRepresents may_leave (payloads_after_call payloads call) (refused_after_call refused call) new
    pub any_moment : (payloads refused : List (List ℕ)) → honest old.disk → LogRepresents may_leave payloads refused old
        → LeavesOnly clock left_since old.disk new.disk (IsJournalOrMore payloads (possible_additions refused call))

  -- calls in order
  abbrev pub AreJournalCalls : Log D → List JournalCall → Log D → Type 0
  AreJournalCalls old [] new = new ≡ old
  AreJournalCalls old (call ∷ calls) new = (mid : Log D) × IsJournalCall old call mid × AreJournalCalls mid calls new
