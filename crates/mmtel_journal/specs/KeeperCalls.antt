-- Calls on a keeper over a journal, one after the other.
use Rattle.std.specs.Prelude.{◌≡◌, ℕ, Bool, true, false, List, [], ◌∷◌, Option, Some, None}
use Rattle.mmtel_keeper.specs.Contents.{KeeperContents}
use Rattle.mmtel_journal.specs.JournalCalls.{IsJournalCall, JournalCall}
use Rattle.mmtel_journal.specs.Payloads.{Adds, EachOnce, IsPayload}
use Rattle.mmtel_journal.specs.Keepers.{contents_of}
use Rattle.mmtel_journal.specs.declared.keepers.JournalKeeper.{JournalKeeper}

-- the contents after a call: what its payload adds, where it returned Ok, and else unchanged
abbrev pub ChangesContents : Option (List ℕ) → Bool → KeeperContents → KeeperContents → Type 0
ChangesContents (Some payload) true before after = Adds payload before after
ChangesContents (Some payload) false before after = after ≡ before
ChangesContents None ok before after = after ≡ before

-- it is of the format, where there is one
abbrev pub HasPayloadFormat : Option (List ℕ) → Type 0
HasPayloadFormat None = Unit {0}
HasPayloadFormat (Some payload) = IsPayload payload

-- none, or this one
abbrev pub IsNoneOr : List ℕ → Option (List ℕ) → Type 0
IsNoneOr payload None = Unit {0}
IsNoneOr payload (Some other) = other ≡ payload

module _ {D : Type 0} (honest : D → Type 0) (may_leave : D → List ℕ → Type 0) (clock : D → ℕ) (left_since : D → ℕ → List ℕ → Type 0) where
  -- the effect of a call on the journal and on the contents
  pub record IsKeeperCall (old : JournalKeeper D) (call : JournalCall) (new : JournalKeeper D) : Type 0 where
    pub log : IsJournalCall honest may_leave clock left_since old.log call new.log
    pub form : HasPayloadFormat call.payload
    pub contents : EachOnce (contents_of old).sheets → ChangesContents call.payload call.ok (contents_of old) (contents_of new)

  -- calls in order
  abbrev pub AreKeeperCalls : JournalKeeper D → List JournalCall → JournalKeeper D → Type 0
  AreKeeperCalls old [] new = new ≡ old
  AreKeeperCalls old (call ∷ calls) new = (mid : JournalKeeper D) × IsKeeperCall old call mid × AreKeeperCalls mid calls new
