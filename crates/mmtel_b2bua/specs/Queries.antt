-- Queries on the table of calls: to which dialog a request belongs (RFC 3261 §12.2.2), of which call an INVITE opened a server transaction (§9.2), the peer and the account of a
-- side, and how many calls an account has.
use Rattle.std.specs.Prelude.{ℕ, ◌==◌, ◌&&◌, Bool, if◌then◌else◌, Option, Some, None, List, flat_map, is_some, position, slice_get}
use Rattle.std.specs.Option.{option_map}
use Rattle.mmtel_call_services.specs.CallConfig.{calls_among}
use Rattle.mmtel_call.specs.declared.calls.EstablishedLegs.{EstablishedLegs}
use Rattle.mmtel_call.specs.declared.calls.Phase.TheVariants.{Detached, Established, Offered, Over}
use Rattle.mmtel_call.specs.declared.calls.Phase.{Phase}
use Rattle.mmtel_call.specs.declared.calls.OfferedAttempt.{OfferedAttempt}
use Rattle.mmtel_call.specs.Closing.{account_in}
pub use Rattle.mmtel_leg.specs.Names.{has_name}
use Rattle.mmtel_leg.specs.declared.legs.Released.{Released}
use Rattle.mmtel_leg.specs.declared.legs.Released.TheVariants as released
use Rattle.mmtel_transaction.specs.declared.words.TKey.{TKey}
use Rattle.mmtel_types.specs.declared.numbers.Account.{Account}
use Rattle.mmtel_types.specs.declared.numbers.CallNo.{CallNo}
use Rattle.mmtel_types.specs.declared.numbers.Peer.{Peer}
use Rattle.mmtel_types.specs.declared.sides.Side.{Side}
use Rattle.mmtel_types.specs.declared.sides.Side.TheVariants.{Caller, Callee}
use Rattle.mmtel_b2bua.specs.Entries.{accounts_of, is_live}
use Rattle.mmtel_b2bua.specs.Detaching.{entry_at, entry_of}
use Rattle.mmtel_b2bua.specs.declared.entries.Entry.{Entry}
use Rattle.mmtel_b2bua.specs.declared.entries.InviteKey.{InviteKey}

-- the call and the side
abbrev pub call_and_side : Entry → Side → CallNo × Side
call_and_side e side = (e.call.opening.number, side)

-- ---- the first call that has such a side

abbrev pub has_side : (side_in : Entry → Option Side) → Entry → Bool
has_side side_in e = is_some (side_in e)

abbrev pub side_of : (side_in : Entry → Option Side) → Option Entry → Option (CallNo × Side)
side_of side_in None = None
side_of side_in (Some e) = option_map (call_and_side e) (side_in e)

abbrev pub first_side : (side_in : Entry → Option Side) → List Entry → Option (CallNo × Side)
first_side side_in es = side_of side_in (entry_at (position (has_side side_in) es) es)

-- ---- dialogs, by Call-ID, the server's tag and the other side's tag

abbrev pub matching_side : (caller callee : Bool) → Option Side
matching_side caller callee = if caller then Some Caller else if callee then Some Callee else None

-- the caller's dialog is confirmed from the opening on, that of a target exists from its first response with a tag
abbrev pub side_in_offered : (call_id local remote : List ℕ) → OfferedAttempt → Option Side
side_in_offered call_id local remote x = matching_side (has_name call_id local remote x.caller.dialogue) (x.callee.is_early && has_name call_id local remote x.callee.leg.dialogue)

abbrev pub side_in_established : (call_id local remote : List ℕ) → EstablishedLegs → Option Side
side_in_established call_id local remote x = matching_side (has_name call_id local remote x.caller.dialogue) (has_name call_id local remote x.callee.dialogue)

-- a detached leg has no dialog here
abbrev pub side_in_remaining : (call_id local remote : List ℕ) → Released → Option Side
side_in_remaining call_id local remote (released.Caller leg) = if has_name call_id local remote leg.dialogue then Some Caller else None
side_in_remaining call_id local remote (released.Callee leg) = if has_name call_id local remote leg.dialogue then Some Callee else None

abbrev pub side_in_phase : (call_id local remote : List ℕ) → Phase → Option Side
side_in_phase call_id local remote (Offered x) = side_in_offered call_id local remote x
side_in_phase call_id local remote (Established x stage) = side_in_established call_id local remote x
side_in_phase call_id local remote (Detached detached) = side_in_remaining call_id local remote detached.remaining
side_in_phase call_id local remote (Over cause) = None

unfoldable pub side_by_dialog : (call_id local remote : List ℕ) → Entry → Option Side
side_by_dialog call_id local remote e = side_in_phase call_id local remote e.call.phase

-- ---- INVITEs

unfoldable pub is_key : TKey → InviteKey → Bool
is_key key invite = invite.key.0 == key.0

abbrev pub side_of_invite : Option InviteKey → Option Side
side_of_invite None = None
side_of_invite (Some invite) = Some invite.side

abbrev pub side_at : Option ℕ → List InviteKey → Option Side
side_at None invites = None
side_at (Some place) invites = side_of_invite (slice_get invites place)

abbrev pub inviting_side : TKey → List InviteKey → Option Side
inviting_side key invites = side_at (position (is_key key) invites) invites

-- of a live call
unfoldable pub side_by_invite_key : TKey → Entry → Option Side
side_by_invite_key key e = if is_live e then inviting_side key e.invites else None

-- ---- a side

abbrev pub party_in_offered : (origin : Option Account) → Side → OfferedAttempt → Peer × Option Account
party_in_offered origin Caller x = (x.caller.dialogue.peer, origin)
party_in_offered origin Callee x = (x.callee.leg.dialogue.peer, option_map account_in x.attempt.service)

abbrev pub party_in_established : (origin : Option Account) → Side → EstablishedLegs → Peer × Option Account
party_in_established origin Caller x = (x.caller.dialogue.peer, origin)
party_in_established origin Callee x = (x.callee.dialogue.peer, option_map account_in x.service)

abbrev pub party_in_remaining : (origin served : Option Account) → Side → Released → Option (Peer × Option Account)
party_in_remaining origin served Caller (released.Caller leg) = Some (leg.dialogue.peer, origin)
party_in_remaining origin served Caller (released.Callee leg) = None
party_in_remaining origin served Callee (released.Caller leg) = None
party_in_remaining origin served Callee (released.Callee leg) = Some (leg.dialogue.peer, served)

-- the peer of its leg, and the account that is served there
abbrev pub party_in_phase : (origin : Option Account) → Side → Phase → Option (Peer × Option Account)
party_in_phase origin side (Offered x) = Some (party_in_offered origin side x)
party_in_phase origin side (Established x stage) = Some (party_in_established origin side x)
party_in_phase origin side (Detached detached) = party_in_remaining origin (option_map account_in detached.service) side detached.remaining
party_in_phase origin side (Over cause) = None

abbrev pub party_of : Side → Option Entry → Option (Peer × Option Account)
party_of side None = None
party_of side (Some e) = party_in_phase e.call.opening.served.origin side e.call.phase

abbrev pub party : ℕ → Side → List Entry → Option (Peer × Option Account)
party number side es = party_of side (entry_of number es)

-- ---- how many calls an account has: one for each that it makes, and one for each that is offered to it or that it answered

abbrev pub live : ℕ → List Entry → ℕ
live account es = calls_among (flat_map accounts_of es) account
