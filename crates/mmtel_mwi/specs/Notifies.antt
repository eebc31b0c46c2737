-- The NOTIFY of a subscription (RFC 6665 §4.2.2, §4.1.3; RFC 3842 §3): a request in its dialog that gives for how long the subscription is active, and what waits in the mailbox.
use Rattle.std.specs.Prelude.{ℕ, ◌-◌, ◌/◌, Bool, true, false, List, [], ◌∷◌, ◌++◌, codes, decimal}
use Rattle.mmtel_compose.specs.Requests.{own_parts}
use Rattle.mmtel_leg.specs.Requests.{request_of}
use Rattle.mmtel_leg.specs.declared.dialogues.Dialogue.{Dialogue}
use Rattle.mmtel_message.specs.Message.{Line, Message}
use Rattle.mmtel_message.specs.declared.messages.Start.{Start}
use Rattle.mmtel_types.specs.declared.addrs.Addr.{Addr}
use Rattle.mmtel_mwi.specs.Summaries.{summary}
use Rattle.mmtel_mwi.specs.declared.counts.Counts.{Counts}

-- the whole seconds from now until a moment, 0 where it is not later than now
abbrev pub remaining_seconds : (until now : ℕ) → ℕ
remaining_seconds until now = (until - now) / 1000

-- for how long the subscription is active, or that it has timed out
abbrev pub subscription_state : (last : Bool) → (seconds : ℕ) → List ℕ
subscription_state false seconds = codes "active;expires=" ++ decimal seconds
subscription_state true seconds = codes "terminated;reason=timeout"

unfoldable pub notify_lines : (last : Bool) → (seconds : ℕ) → List Line
notify_lines last seconds =
    (codes "Event", codes "message-summary")
    ∷ (codes "Subscription-State", subscription_state last seconds)
    ∷ (codes "Content-Type", codes "application/simple-message-summary")
    ∷ []

-- the request in this dialog, with this branch
abbrev pub notify_request_in : Addr → Dialogue → (branch : List ℕ) → (last : Bool) → (seconds : ℕ) → Counts → Message Start
notify_request_in sip dialogue branch last seconds counts =
    request_of dialogue (codes "NOTIFY") (own_parts sip branch (notify_lines last seconds) (summary counts))
