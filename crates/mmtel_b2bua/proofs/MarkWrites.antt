-- The index of the calls by their marks: all marks of a call are inserted, or removed, kind after kind. What holds for all owners of marks is in `mmtel_output`.
use Rattle.std.proofs.Common.{ℕ, Bool}
use Rattle.std.specs.Prelude.{flat_map}
use Rattle.mmtel_call.specs.Table.{current_invite}
use Rattle.mmtel_output.proofs.Marking.{joined}
use Rattle.mmtel_output.specs.Marks.{MarkUpdate}
use Rattle.mmtel_output.specs.declared.index.Index.{Index}
use Rattle.mmtel_b2bua.specs.Entries.{is_live}
use Rattle.mmtel_b2bua.specs.Marks.{abandoned_marks, answered_marks, dialog_marks, live_invite_marks, marks_of, relayed_marks, waiting_marks}
use Rattle.mmtel_b2bua.specs.declared.entries.Entry.{Entry}

module _ (s : Bool) (n : ℕ) (e : Entry) (a b c d f g h : Index) where
  pub all_written : MarkUpdate s n (waiting_marks (current_invite e.call.phase)) a b → MarkUpdate s n (flat_map abandoned_marks e.call.abandoned) b c → MarkUpdate s n (flat_map answered_marks e.call.answered_invites) c d
      → MarkUpdate s n (flat_map relayed_marks e.call.relayed) d f → MarkUpdate s n (live_invite_marks (is_live e) e.invites) f g → MarkUpdate s n (dialog_marks e.call.phase) g h
      → MarkUpdate s n (marks_of e) a h
  unfolding marks_of
  all_written p q r t u v =
      joined s n (waiting_marks (current_invite e.call.phase)) _ a b h p
      (joined s n (flat_map abandoned_marks e.call.abandoned) _ b c h q
      (joined s n (flat_map answered_marks e.call.answered_invites) _ c d h r
      (joined s n (flat_map relayed_marks e.call.relayed) _ d f h t (joined s n (live_invite_marks (is_live e) e.invites) (dialog_marks e.call.phase) f g h u v))))
