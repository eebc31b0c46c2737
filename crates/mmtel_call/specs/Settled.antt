-- Whether a call is live, whether anything may still be received for it, and which requests belong to it.
use Rattle.std.specs.Prelude.{ℕ, ◌==◌, ◌&&◌, ◌||◌, Bool, true, false, List, is_some, length, position}
use Rattle.mmtel_output.specs.AbandonedInvites.{is_of_branch}
use Rattle.mmtel_transaction.specs.declared.words.TKey.{TKey}
use Rattle.mmtel_call.specs.Calls.{Call, Detached, Established, Offered, Over, Phase}
use Rattle.mmtel_call.specs.RelayedTransactions.{is_in_flight}
use Rattle.mmtel_call.specs.OtherRequests.{is_abandoned_key, is_answered_invite, is_answered_key}
use Rattle.mmtel_call.specs.Table.{is_current}

abbrev pub is_over_in : Phase → Bool
is_over_in (Offered x) = false
is_over_in (Established x stage) = false
is_over_in (Detached detached) = false
is_over_in (Over cause) = true

-- it is over, and nothing more may be received for any INVITE of it
unfoldable pub is_settled : Call → Bool
is_settled c = is_over_in c.phase && (length c.abandoned == 0 && length c.answered_invites == 0)

-- a request of it to which a response may still be received has this branch: the INVITE for which it waits, an abandoned INVITE, one that had a 2xx, or a request that is in flight
unfoldable pub has_sent : (branch : List ℕ) → Call → Bool
has_sent branch c = is_current branch c || (is_some (position (is_of_branch branch) c.abandoned)
    || (is_some (position (is_answered_invite branch) c.answered_invites) || is_some (position (is_in_flight branch) c.relayed)))

-- whether this is the client transaction of an abandoned INVITE of it, or of one that had a 2xx, as far as that is known from a response
unfoldable pub has_received : TKey → Call → Bool
has_received key c = is_some (position (is_abandoned_key key) c.abandoned) || is_some (position (is_answered_key key) c.answered_invites)
