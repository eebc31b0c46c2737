-- The table of causes: the word that CDRs have for each, and the status of the response that the refused side receives (RFC 3261 §21; 433 is RFC 5079).
use Rattle.std.specs.Prelude.{◌≡◌, ℕ, List, codes, if◌then◌else◌}
use Rattle.mmtel_types.specs.declared.causes.Cause.{Cause}
use Rattle.mmtel_types.specs.declared.causes.Cause.TheVariants.{OutgoingBarred, IncomingBarred, AnonymousRejected, NotRegistered, NetworkBusy, NoReply, TooManyDiversions}
use Rattle.mmtel_types.specs.declared.causes.Cause.TheVariants.{Unreachable, Relayed, Cancelled, NoAccount, NoRoute, BadScheme, Hops, Extension, Critical, Merged, Full}
use Rattle.mmtel_types.specs.declared.causes.Cause.TheVariants.{Ended, Unacknowledged}

-- a row of the table
pub record CauseEntry : Type 0 where
  pub word : List ℕ
  pub status : ℕ

abbrev pub cause_entry : List ℕ → ℕ → CauseEntry
cause_entry word status = record { word = word; status = status }

-- the table
abbrev pub cause_entry_of : Cause → CauseEntry
cause_entry_of OutgoingBarred = cause_entry (codes "outgoing-barred") 603
cause_entry_of IncomingBarred = cause_entry (codes "incoming-barred") 603
cause_entry_of AnonymousRejected = cause_entry (codes "anonymous") 433
cause_entry_of NotRegistered = cause_entry (codes "not-registered") 480
cause_entry_of NetworkBusy = cause_entry (codes "network-busy") 486
cause_entry_of NoReply = cause_entry (codes "no-reply") 480
cause_entry_of (TooManyDiversions busy) = cause_entry (codes "too-many-diversions") (if busy then 486 else 480)
cause_entry_of (Unreachable code) = cause_entry (codes "unreachable") code
cause_entry_of (Relayed code) = cause_entry (codes "relayed") code
cause_entry_of Cancelled = cause_entry (codes "cancelled") 487
cause_entry_of NoAccount = cause_entry (codes "no-account") 404
cause_entry_of NoRoute = cause_entry (codes "no-route") 404
cause_entry_of BadScheme = cause_entry (codes "bad-scheme") 416
cause_entry_of Hops = cause_entry (codes "hops") 483
cause_entry_of Extension = cause_entry (codes "extension") 420
cause_entry_of Critical = cause_entry (codes "critical") 500
cause_entry_of Merged = cause_entry (codes "merged") 482
cause_entry_of Full = cause_entry (codes "full") 503
cause_entry_of Ended = cause_entry (codes "ended") 0
cause_entry_of Unacknowledged = cause_entry (codes "unacknowledged") 500

-- a cause's status and its word
abbrev pub status_of : Cause → ℕ
status_of cause = (cause_entry_of cause).status

abbrev pub word_of : Cause → List ℕ
word_of cause = (cause_entry_of cause).word

-- the word and the status together determine the cause
abbrev pub AreDistinguished : Type 0
AreDistinguished = (a b : Cause) → word_of a ≡ word_of b → status_of a ≡ status_of b → a ≡ b
