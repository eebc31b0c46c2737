-- Each cause is found by its word and its status among those that can have the status.
use Rattle.std.proofs.Common.{◌≡◌, ◌==◌, ℕ, Option, Some, None, IfNone, arith, true, false, sym, List, [], ◌∷◌, refl}
use Rattle.std.specs.List.{list_any}
use Rattle.std.specs.Str.{bytes_eq}
use Rattle.std.proofs.lemmas.Bool.{both_ways, eqb-true}
use Rattle.std.proofs.lemmas.Slice.Eq.{bytes_eq-Decides}
use Rattle.mmtel_base.proofs.Runs.{and_true}
use Rattle.mmtel_sqlite.specs.Columns.{has_word_and_status}
use Rattle.mmtel_types.specs.Causes.{status_of, word_of}
use Rattle.mmtel_types.specs.declared.causes.Cause.{Cause}
use Rattle.mmtel_types.specs.declared.causes.Cause.TheVariants.{OutgoingBarred, IncomingBarred, AnonymousRejected, NotRegistered, NetworkBusy, NoReply, TooManyDiversions, Unreachable}
use Rattle.mmtel_types.specs.declared.causes.Cause.TheVariants.{Relayed, Cancelled, NoAccount, NoRoute, BadScheme, Hops, Extension, Critical, Merged, Full, Ended, Unacknowledged}

abbrev pub with_status : ℕ → List Cause
with_status status =
    OutgoingBarred ∷ IncomingBarred ∷ AnonymousRejected ∷ NotRegistered ∷ NetworkBusy ∷ NoReply ∷ TooManyDiversions true ∷ TooManyDiversions false
    ∷ Unreachable status ∷ Relayed status ∷ Cancelled ∷ NoAccount ∷ NoRoute ∷ BadScheme ∷ Hops ∷ Extension ∷ Critical ∷ Merged ∷ Full ∷ Ended
    ∷ Unacknowledged ∷ []

same : (n : ℕ) → (n == n) ≡ true
same n = grind arith

pub cause_is_listed : (cause : Cause) → list_any (has_word_and_status (word_of cause) (status_of cause)) (with_status (status_of cause)) ≡ true
unfolding has_word_and_status
cause_is_listed OutgoingBarred = refl
cause_is_listed IncomingBarred = refl
cause_is_listed AnonymousRejected = refl
cause_is_listed NotRegistered = refl
cause_is_listed NetworkBusy = refl
cause_is_listed NoReply = refl
cause_is_listed (TooManyDiversions true) = refl
cause_is_listed (TooManyDiversions false) = refl
cause_is_listed (Unreachable code) = rw (same code) refl
cause_is_listed (Relayed code) = rw (same code) refl
cause_is_listed Cancelled = refl
cause_is_listed NoAccount = refl
cause_is_listed NoRoute = refl
cause_is_listed BadScheme = refl
cause_is_listed Hops = refl
cause_is_listed Extension = refl
cause_is_listed Critical = refl
cause_is_listed Merged = refl
cause_is_listed Full = refl
cause_is_listed Ended = refl
cause_is_listed Unacknowledged = refl

pub word_is_same : (word : List ℕ) (status : ℕ) (cause : Cause) → has_word_and_status word status cause ≡ true → word ≡ word_of cause
unfolding has_word_and_status
word_is_same word status cause e = sym ((bytes_eq-Decides (word_of cause) word).0 (and_true (bytes_eq (word_of cause) word) (status_of cause == status) e).0)

pub status_is_same : (word : List ℕ) (status : ℕ) (cause : Cause) → has_word_and_status word status cause ≡ true → status ≡ status_of cause
unfolding has_word_and_status
status_is_same word status cause e = sym (eqb-true _ _ (and_true (bytes_eq (word_of cause) word) (status_of cause == status) e).1)

-- where none of them has the word and the status, no cause has
pub missed : (word : List ℕ) (status : ℕ) → list_any (has_word_and_status word status) (with_status status) ≡ false → (cause : Cause) → word ≡ word_of cause → status ≡ status_of cause → ⊥
missed word status none cause words statuses = both_ways _ (rw (words, statuses) at none) (cause_is_listed cause)

pub missed_by : (word : List ℕ) (status : ℕ) (found : Option Cause) → IfNone found (list_any (has_word_and_status word status) (with_status status) ≡ false) →
    IfNone found ((cause : Cause) → word ≡ word_of cause → status ≡ status_of cause → ⊥)
missed_by word status None none = missed word status none
missed_by word status (Some cause) none = none
