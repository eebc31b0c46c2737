-- The marks by which a conference is found without a search of all: hashes of the branches of the INVITEs to its participants and of the server's tags of their dialogs; and
-- the live conferences, as they are kept.
use Rattle.std.specs.Prelude.{ℕ, Option, Some, None, List, [], ◌∷◌, flat_map}
use Rattle.mmtel_output.specs.Marks.{AreMarked, Ascend}
use Rattle.mmtel_transaction.specs.Hashes.{hash_of}
use Rattle.mmtel_output.specs.declared.index.Index.{Index}
use Rattle.mmtel_output.specs.declared.marks.Mark.{Mark}
use Rattle.mmtel_output.specs.declared.marks.Mark.TheVariants.{Branch, LocalTag}
use Rattle.mmtel_focus.specs.Conferences.{Accepted, Conference, Invite, Outstanding, ParticipantState}
use Rattle.mmtel_focus.specs.Participants.{tag_of}

-- ---- the marks of a conference

abbrev pub branch_of : Invite → List ℕ
branch_of (Outstanding number i) = i.branch
branch_of (Accepted branch tag ack) = branch

-- those of the server's INVITE to a participant
abbrev pub sent_invite_marks : Option Invite → List Mark
sent_invite_marks None = []
sent_invite_marks (Some invite) = Branch (hash_of (branch_of invite)) ∷ []

abbrev pub participant_marks : ParticipantState → List Mark
participant_marks seat = LocalTag (hash_of (tag_of seat)) ∷ sent_invite_marks seat.invite

abbrev pub marks_of : Conference → List Mark
marks_of room = flat_map participant_marks room.participants

-- ---- the live conferences

pub record LiveConferencesView : Type 0 where
  -- in the order in which they were opened
  pub items : List Conference
  -- the number of the conference that was opened last
  pub opened : ℕ

abbrev pub number_of : Conference → ℕ
number_of room = room.number.0

-- their numbers ascend, and the index holds the marks of each
pub record TableInvariant (rooms : List Conference) (opened : ℕ) (index : Index) : Type 0 where
  pub ascend : Ascend number_of 0 rooms opened
  pub marked : AreMarked number_of marks_of index rooms
