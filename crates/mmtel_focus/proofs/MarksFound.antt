-- A conference to which a response or a request belongs has the mark by which it is looked up.
use Rattle.std.proofs.Common.{◌≡◌, ℕ, Bool, true, false, List, Option, Some, None, refl, sym, ap, inl, inr}
use Rattle.std.proofs.lemmas.Slice.Eq.{bytes_eq-Decides}
use Rattle.std.specs.Prelude.{◌&&◌, is_some, position}
use Rattle.std.specs.Str.{bytes_eq}
use Rattle.mmtel_output.proofs.Marking.{any_passes, passes}
use Rattle.mmtel_output.specs.Marks.{Has}
use Rattle.mmtel_transaction.specs.Hashes.{hash_of}
use Rattle.mmtel_output.specs.declared.marks.Mark.TheVariants.{Branch, LocalTag}
use Rattle.mmtel_focus.specs.Marks.{marks_of, participant_marks, sent_invite_marks}
use Rattle.mmtel_focus.specs.Queries.{has_dialog, has_name, is_named, number_at}
use Rattle.mmtel_focus.specs.Conferences.{Accepted, Conference, Invite, Outstanding, ParticipantState}
use Rattle.mmtel_focus.specs.Participants.{dialogue_of, is_connected}
use Rattle.mmtel_focus.specs.Table.{conference_has_branch, invite_has_branch, participant_has_branch}

both_first : (a b : Bool) → (a && b) ≡ true → a ≡ true
both_first true b e = refl
both_first false b e = e

both_second : (a b : Bool) → (a && b) ≡ true → b ≡ true
both_second true b e = e
both_second false b e = absurd (let f : false ≡ true = e in cc)

-- ---- an INVITE of this branch

module _ (branch : List ℕ) where
  told_equivalent : (other : List ℕ) → bytes_eq other branch ≡ true → Branch (hash_of branch) ≡ Branch (hash_of other)
  told_equivalent other e = ap (λ (l : List ℕ). Branch (hash_of l)) (sym ((bytes_eq-Decides other branch).0 e))

  sent_marked : (o : Option Invite) → invite_has_branch branch o ≡ true → Has (Branch (hash_of branch)) (sent_invite_marks o)
  sent_marked None e = absurd (let f : false ≡ true = e in cc)
  sent_marked (Some (Outstanding number i)) e = inl (told_equivalent i.branch e)
  sent_marked (Some (Accepted other tag ack)) e = inl (told_equivalent other e)

  pub asking_marked : (room : Conference) → conference_has_branch branch room ≡ true → Has (Branch (hash_of branch)) (marks_of room)
  asking_marked room e = any_passes participant_marks (participant_has_branch branch) (Branch (hash_of branch)) (λ seat s. inr (sent_marked seat.invite s)) room.participants e

-- ---- a dialog of this name

module _ (call_id local remote : List ℕ) where
  named_marked : (seat : ParticipantState) → is_named call_id local remote seat ≡ true → Has (LocalTag (hash_of local)) (participant_marks seat)
  named_marked seat e =
      let d = dialogue_of seat in
      let a = both_second (is_connected seat) (has_name call_id local remote d) e in
      let b = both_second (bytes_eq d.call_id call_id) (bytes_eq d.local_tag local && bytes_eq d.remote_tag remote) a in
      let t = both_first (bytes_eq d.local_tag local) (bytes_eq d.remote_tag remote) b in
      inl (ap (λ (l : List ℕ). LocalTag (hash_of l)) (sym ((bytes_eq-Decides d.local_tag local).0 t)))

  placed : (o : Option ℕ) (seats : List ParticipantState) → is_some (number_at o seats) ≡ true → is_some o ≡ true
  placed None seats e = e
  placed (Some place) seats e = refl

  pub having_marked : (room : Conference) → has_dialog call_id local remote room ≡ true → Has (LocalTag (hash_of local)) (marks_of room)
  having_marked room e =
      passes participant_marks (is_named call_id local remote) (LocalTag (hash_of local)) named_marked room.participants (placed (position (is_named call_id local remote) room.participants) room.participants e)
