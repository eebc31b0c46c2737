-- When a SUBSCRIBE is refused, and else for how long the subscription is active (RFC 6665 §4.2.1, RFC 3842 §3, 3GPP TS 24.606).
use Rattle.std.specs.Prelude.{ℕ, ◌==◌, min, Bool, false, not, ◌||◌, List, Option, Some, None, if◌then◌else◌, codes}
use Rattle.std.specs.Option.{unwrap_or}
use Rattle.std.specs.Str.{bytes_eq}
use Rattle.mmtel_types.specs.declared.numbers.Account.{Account}

-- what the decision depends on: it came from a trusted peer; it is within the dialog of a subscription; the account of the identity that is asserted of its sender, and the one
-- whose mailbox its Request-URI names; the first Event; and that it has one Contact, which can be read
pub record SubscribeRequestView : Type 0 where
  pub trusted : Bool
  pub in_dialog : Bool
  pub sender : Option Account
  pub mailbox : Option Account
  pub event : Option (List ℕ)
  pub has_contact : Bool

-- both are the same account
abbrev pub is_same_account : (one other : Option Account) → Bool
is_same_account None other = false
is_same_account (Some a) None = false
is_same_account (Some a) (Some b) = a.0 == b.0

-- everybody may subscribe to their own mailbox; within the dialog of a subscription that is not checked again
abbrev pub is_authorized : SubscribeRequestView → Bool
is_authorized asking = asking.in_dialog || is_same_account asking.sender asking.mailbox

-- the one event that is supported (RFC 3842 §3.1), without parameters
abbrev pub is_summary : Option (List ℕ) → Bool
is_summary None = false
is_summary (Some event) = bytes_eq event (codes "message-summary")

-- the status of the first refusal that applies
abbrev pub refusal : SubscribeRequestView → Option ℕ
refusal asking =
    if not asking.trusted then Some 403
    else if not (is_authorized asking) then Some 403
    else if not (is_summary asking.event) then Some 489
    else if not asking.has_contact then Some 400
    else None

-- for how many seconds it is active: an hour without Expires, or where that is no number (RFC 3842 §3.4), and a day at most
abbrev pub granted_seconds : (expires : Option ℕ) → ℕ
granted_seconds expires = min (unwrap_or expires 3600) 86400
