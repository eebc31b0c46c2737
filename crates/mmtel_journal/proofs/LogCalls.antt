-- The calls on the end of a journal, as calls of a history.
use Rattle.std.proofs.Common.{ℕ, true, false, List, [], ◌∷◌, ◌++◌, sym, subst}
use Rattle.std.specs.Prelude.{Result, Ok, Err, OnOk, OnErr, Some, None, Option, option_to_list}
use Rattle.std.proofs.lemmas.List.{append-nil}
use Rattle.mmtel_journal.specs.Disks.{LeavesOnly}
use Rattle.mmtel_journal.specs.Journal.{IsJournalOrMore}
use Rattle.mmtel_journal.specs.Logs.{LogRepresents}
use Rattle.mmtel_journal.specs.JournalCalls.{IsJournalCall}
use Rattle.mmtel_journal.specs.declared.logs.Log.{Log}
use Rattle.mmtel_journal.proofs.Moments.{started}
use Rattle.mmtel_journal.proofs.Records.{log_left, log_leaves, more_left}

module _ {D : Type 0} (honest : D → Type 0) (may_leave : D → List ℕ → Type 0) (clock : D → ℕ) (left_since : D → ℕ → List ℕ → Type 0) (old new : Log D) where
  none_moment : ((payloads refused : List (List ℕ)) → honest old.disk → LogRepresents may_leave payloads refused old
      → LeavesOnly clock left_since old.disk new.disk (IsJournalOrMore payloads refused))
      → (payloads refused : List (List ℕ)) → honest old.disk → LogRepresents may_leave payloads refused old
      → LeavesOnly clock left_since old.disk new.disk (IsJournalOrMore payloads (refused ++ []))
  none_moment moment payloads refused h stands = subst (λ (l : List (List ℕ)). LeavesOnly clock left_since old.disk new.disk (IsJournalOrMore payloads l))
      (sym (append-nil refused)) (moment payloads refused h stands)

module _ {D T E : Type 0} (honest : D → Type 0) (may_leave : D → List ℕ → Type 0) (clock : D → ℕ) (left_since : D → ℕ → List ℕ → Type 0) (old new : Log D)
    (stays : honest old.disk → honest new.disk) where
  pub add_done : (more : List ℕ) (r : Result T E)
      → ((payloads refused : List (List ℕ)) → honest old.disk → LogRepresents may_leave payloads refused old → OnOk r (LogRepresents may_leave (payloads ++ more ∷ []) [] new))
      → ((payloads refused : List (List ℕ)) → honest old.disk → LogRepresents may_leave payloads refused old
      → LeavesOnly clock left_since old.disk new.disk (IsJournalOrMore payloads (refused ++ more ∷ [])))
      → OnOk r (IsJournalCall honest may_leave clock left_since old (record { payload = Some more; ok = true }) new)
  add_done more (Ok x) ok moment = record { stays_honest = stays; represents = ok; any_moment = moment }
  add_done more (Err e) ok moment = tt

  pub add_refused : (more : List ℕ) (r : Result T E)
      → ((payloads refused : List (List ℕ)) → honest old.disk → LogRepresents may_leave payloads refused old → OnErr r (LogRepresents may_leave payloads (refused ++ more ∷ []) new))
      → ((payloads refused : List (List ℕ)) → honest old.disk → LogRepresents may_leave payloads refused old
      → LeavesOnly clock left_since old.disk new.disk (IsJournalOrMore payloads (refused ++ more ∷ [])))
      → OnErr r (IsJournalCall honest may_leave clock left_since old (record { payload = Some more; ok = false }) new)
  add_refused more (Ok x) err moment = tt
  add_refused more (Err e) err moment = record { stays_honest = stays; represents = err; any_moment = moment }

  pub rest_done : (r : Result T E)
      → ((payloads refused : List (List ℕ)) → honest old.disk → LogRepresents may_leave payloads refused old → OnOk r (LogRepresents may_leave payloads [] new))
      → ((payloads refused : List (List ℕ)) → honest old.disk → LogRepresents may_leave payloads refused old
      → LeavesOnly clock left_since old.disk new.disk (IsJournalOrMore payloads refused))
      → OnOk r (IsJournalCall honest may_leave clock left_since old (record { payload = None; ok = true }) new)
  rest_done (Ok x) ok moment = record {
    stays_honest = stays;
    represents = λ payloads refused h stands. subst (λ (l : List (List ℕ)). LogRepresents may_leave l [] new) (sym (append-nil payloads)) (ok payloads refused h stands);
    any_moment = none_moment honest may_leave clock left_since old new moment;
  }
  rest_done (Err e) ok moment = tt

  pub rest_refused : (r : Result T E)
      → ((payloads refused : List (List ℕ)) → honest old.disk → LogRepresents may_leave payloads refused old → OnErr r (LogRepresents may_leave payloads refused new))
      → ((payloads refused : List (List ℕ)) → honest old.disk → LogRepresents may_leave payloads refused old
      → LeavesOnly clock left_since old.disk new.disk (IsJournalOrMore payloads refused))
      → OnErr r (IsJournalCall honest may_leave clock left_since old (record { payload = None; ok = false }) new)
  rest_refused (Ok x) err moment = tt
  rest_refused (Err e) err moment = record {
    stays_honest = stays;
    represents = λ payloads refused h stands. subst (λ (l : List (List ℕ)). LogRepresents may_leave payloads l new) (sym (append-nil refused)) (err payloads refused h stands);
    any_moment = none_moment honest may_leave clock left_since old new moment;
  }

-- a call that was refused before it reached the disk
module _ {D : Type 0} (honest : D → Type 0) (may_leave : D → List ℕ → Type 0) (clock : D → ℕ) (left_since : D → ℕ → List ℕ → Type 0)
    (only_now : (d : D) (c : List ℕ) → honest d → left_since d (clock d) c → may_leave d c) (log : Log D) where
  pub untouched : (payload : Option (List ℕ)) → IsJournalCall honest may_leave clock left_since log (record { payload = payload; ok = false }) log
  untouched payload = record {
    stays_honest = λ h. h;
    represents = λ payloads refused h stands. log_left may_leave payloads refused (option_to_list payload) log stands;
    any_moment = λ payloads refused h stands.
        started clock left_since log.disk (IsJournalOrMore payloads (refused ++ option_to_list payload))
        (λ c left. more_left payloads refused (option_to_list payload) c (log_leaves may_leave payloads refused log stands c (only_now log.disk c h left)));
  }
