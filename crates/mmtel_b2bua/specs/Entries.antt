-- A call in the table of calls: whether it stays there, to which call a signal belongs, and which accounts a call keeps busy.
use Rattle.std.specs.Prelude.{ℕ, ◌==◌, not, Bool, false, if◌then◌else◌, Option, Some, None, List, [], ◌∷◌, ◌++◌, flat_map, option_to_list}
use Rattle.std.specs.Option.{option_map}
use Rattle.mmtel_call.specs.declared.calls.Phase.TheVariants.{Detached, Established, Offered, Over}
use Rattle.mmtel_call.specs.declared.calls.Phase.{Phase}
use Rattle.mmtel_call.specs.Closing.{account_in}
use Rattle.mmtel_call.specs.Settled.{has_received, has_sent, is_over_in, is_settled}
use Rattle.mmtel_transaction.specs.declared.words.TKey.{TKey}
use Rattle.mmtel_types.specs.declared.numbers.Account.{Account}
use Rattle.mmtel_b2bua.specs.declared.entries.Entry.{Entry}

-- ---- which calls are live, and which stay

-- whether it is not over
unfoldable pub is_live : Entry → Bool
is_live e = not (is_over_in e.call.phase)

-- what stays of it: a call that is over stays as long as something may still be received for an INVITE of it
abbrev pub kept_entry : Entry → List Entry
kept_entry e = if is_settled e.call then [] else e ∷ []

-- ---- to which call a signal belongs

-- whether the call has this number
unfoldable pub is_numbered : ℕ → Entry → Bool
is_numbered number e = e.call.opening.number.0 == number

-- whether a request of it to which a response may still be received has this branch: an INVITE, or a PRACK or UPDATE that is in flight
unfoldable pub has_sent_branch : (branch : Option (List ℕ)) → Entry → Bool
has_sent_branch None e = false
has_sent_branch (Some branch) e = has_sent branch e.call

-- whether an INVITE of it received its response in this client transaction
unfoldable pub has_received_key : TKey → Entry → Bool
has_received_key key e = has_received key e.call

-- ---- the accounts that it keeps busy, as long as it is not over: the account that is served as its caller, and that of its current attempt

abbrev pub origin_in : Phase → (origin : Option Account) → Option Account
origin_in (Offered x) origin = origin
origin_in (Established x stage) origin = origin
origin_in (Detached detached) origin = origin
origin_in (Over cause) origin = None

abbrev pub served_in : Phase → Option Account
served_in (Offered x) = option_map account_in x.attempt.service
served_in (Established x stage) = option_map account_in x.service
served_in (Detached detached) = option_map account_in detached.service
served_in (Over cause) = None

unfoldable pub origin_of : Entry → Option Account
origin_of e = origin_in e.call.phase e.call.opening.served.origin

unfoldable pub served_of : Entry → Option Account
served_of e = served_in e.call.phase

unfoldable pub accounts_of : Entry → List Account
accounts_of e = option_to_list (origin_of e) ++ option_to_list (served_of e)

-- the same, as a step of the call of this number sees it: of that call the caller's account alone
unfoldable pub beside : ℕ → Entry → List Account
beside number e = if is_numbered number e then option_to_list (origin_of e) else accounts_of e

abbrev pub busy_beside : ℕ → List Entry → List Account
busy_beside number es = flat_map (beside number) es
