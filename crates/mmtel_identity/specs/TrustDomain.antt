-- Which peers are trusted (RFC 3324 §2.3, RFC 5502 §7.2), and which identities are passed on to which peers (RFC 3325 §5 and §7, RFC 3323 §4.1).
use Rattle.std.specs.Prelude.{◌==◌, ◌&&◌, ◌||◌, not, Bool, if◌then◌else◌, Option, None}
use Rattle.mmtel_types.specs.declared.numbers.Peer.{Peer}

-- a peer of the configuration is this one, and is trusted
abbrev pub is_in_trust_domain : Peer → (trusted : Bool) → Peer → Bool
is_in_trust_domain known trusted peer = known.0 == peer.0 && trusted

-- what a peer asserts of a user is accepted from a trusted peer alone
abbrev pub if_trusted : {A : Type 0} → (trusted : Bool) → Option A → Option A
if_trusted trusted said = if trusted then said else None

-- asserted identities are accepted from a trusted peer, and passed on where they are presented and, of a restricted sender, to trusted peers alone
abbrev pub shows_identity : (from_trusted present to_trusted restricted : Bool) → Bool
shows_identity from_trusted present to_trusted restricted = from_trusted && present && (to_trusted || not restricted)

-- nothing that identifies a user who is restricted
abbrev pub unless_restricted : {A : Type 0} → (restricted : Bool) → Option A → Option A
unless_restricted restricted name = if restricted then None else name
