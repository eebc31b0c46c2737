-- The table of causes in reverse: from a word and a status to the cause.
use Rattle.std.specs.Prelude.{◌≡◌, ◌==◌, if◌then◌else◌, ℕ, List, true, false, codes, refl}
use Rattle.std.specs.Str.{bytes_eq}
use Rattle.std.proofs.Common.{sym, ◌∙◌, ap}
use Rattle.mmtel_types.specs.Causes.{AreDistinguished, status_of, word_of}
use Rattle.mmtel_types.specs.declared.causes.Cause.{Cause}
use Rattle.mmtel_types.specs.declared.causes.Cause.TheVariants.{OutgoingBarred, IncomingBarred, AnonymousRejected, NotRegistered, NetworkBusy, NoReply, TooManyDiversions, Unreachable}
use Rattle.mmtel_types.specs.declared.causes.Cause.TheVariants.{Relayed, Cancelled, NoAccount, NoRoute, BadScheme, Hops, Extension, Critical, Merged, Full, Ended, Unacknowledged}

unfoldable cause_of : List ℕ → ℕ → Cause
cause_of word status =
    if bytes_eq word (codes "outgoing-barred") then OutgoingBarred else
    if bytes_eq word (codes "incoming-barred") then IncomingBarred else
    if bytes_eq word (codes "anonymous") then AnonymousRejected else
    if bytes_eq word (codes "not-registered") then NotRegistered else
    if bytes_eq word (codes "network-busy") then NetworkBusy else
    if bytes_eq word (codes "no-reply") then NoReply else
    if bytes_eq word (codes "too-many-diversions") then TooManyDiversions (status == 486) else
    if bytes_eq word (codes "unreachable") then Unreachable status else
    if bytes_eq word (codes "relayed") then Relayed status else
    if bytes_eq word (codes "cancelled") then Cancelled else
    if bytes_eq word (codes "no-account") then NoAccount else
    if bytes_eq word (codes "no-route") then NoRoute else
    if bytes_eq word (codes "bad-scheme") then BadScheme else
    if bytes_eq word (codes "hops") then Hops else
    if bytes_eq word (codes "extension") then Extension else
    if bytes_eq word (codes "critical") then Critical else
    if bytes_eq word (codes "merged") then Merged else
    if bytes_eq word (codes "full") then Full else
    if bytes_eq word (codes "unacknowledged") then Unacknowledged else
    Ended

cause_of-row : (c : Cause) → cause_of (word_of c) (status_of c) ≡ c
unfolding cause_of
cause_of-row OutgoingBarred = refl
cause_of-row IncomingBarred = refl
cause_of-row AnonymousRejected = refl
cause_of-row NotRegistered = refl
cause_of-row NetworkBusy = refl
cause_of-row NoReply = refl
cause_of-row (TooManyDiversions true) = refl
cause_of-row (TooManyDiversions false) = refl
cause_of-row (Unreachable code) = refl
cause_of-row (Relayed code) = refl
cause_of-row Cancelled = refl
cause_of-row NoAccount = refl
cause_of-row NoRoute = refl
cause_of-row BadScheme = refl
cause_of-row Hops = refl
cause_of-row Extension = refl
cause_of-row Critical = refl
cause_of-row Merged = refl
cause_of-row Full = refl
cause_of-row Ended = refl
cause_of-row Unacknowledged = refl

pub distinguished : AreDistinguished
distinguished a b words statuses =
    sym (cause_of-row a)
    ∙ ap (λ word. cause_of word (status_of a)) words
    ∙ ap (λ status. cause_of (word_of b) status) statuses
    ∙ cause_of-row b
