-- The state after any list of calls.
use Rattle.std.proofs.Common.{ℕ, List, [], ◌∷◌, sym, subst}
use Rattle.mmtel_journal.specs.Disks.{Leaves, LeavesOnly}
use Rattle.mmtel_journal.specs.Journal.{IsJournalOrMore}
use Rattle.mmtel_journal.specs.Logs.{LogRepresents}
use Rattle.mmtel_journal.specs.JournalCalls.{JournalCall, payloads_after_call, payloads_after_calls, possible_additions, refused_after_call, refused_after_calls, IsJournalCall, AreJournalCalls}
use Rattle.mmtel_journal.specs.declared.logs.Log.{Log}
use Rattle.mmtel_journal.proofs.Records.{log_leaves}

module _ {D : Type 0} (honest : D → Type 0) (may_leave : D → List ℕ → Type 0) (clock : D → ℕ) (left_since : D → ℕ → List ℕ → Type 0) where
  pub holds : (calls : List JournalCall) (old new : Log D) (payloads refused : List (List ℕ)) → honest old.disk → LogRepresents may_leave payloads refused old
      → AreJournalCalls honest may_leave clock left_since old calls new → honest new.disk × LogRepresents may_leave (payloads_after_calls payloads calls) (refused_after_calls refused calls) new
  holds [] old new payloads refused h stands same = subst (λ (l : Log D). honest l.disk × LogRepresents may_leave payloads refused l) (sym same) (h, stands)
  holds (call ∷ calls) old new payloads refused h stands run =
      holds calls run.0 new (payloads_after_call payloads call) (refused_after_call refused call) (run.1.stays_honest h) (run.1.represents payloads refused h stands) run.2

  pub between : (calls : List JournalCall) (old new : Log D) (payloads refused : List (List ℕ)) → honest old.disk → LogRepresents may_leave payloads refused old
      → AreJournalCalls honest may_leave clock left_since old calls new → Leaves (may_leave new.disk) (IsJournalOrMore (payloads_after_calls payloads calls) (refused_after_calls refused calls))
  between calls old new payloads refused h stands run = log_leaves may_leave (payloads_after_calls payloads calls) (refused_after_calls refused calls) new
      (holds calls old new payloads refused h stands run).1

  pub within : (calls : List JournalCall) (old mid : Log D) (call : JournalCall) (new : Log D) (payloads refused : List (List ℕ)) → honest old.disk → LogRepresents may_leave payloads refused old
      → AreJournalCalls honest may_leave clock left_since old calls mid → IsJournalCall honest may_leave clock left_since mid call new
      → LeavesOnly clock left_since mid.disk new.disk (IsJournalOrMore (payloads_after_calls payloads calls) (possible_additions (refused_after_calls refused calls) call))
  within calls old mid call new payloads refused h stands run one =
      let at = holds calls old mid payloads refused h stands run in
      one.any_moment (payloads_after_calls payloads calls) (refused_after_calls refused calls) at.0 at.1
