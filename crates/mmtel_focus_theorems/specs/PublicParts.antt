-- The public part of conferences: what of them depends on no private place. Of the dialog of a participant it leaves out what is left out of the dialogs of calls: what is due to
-- a trusted peer, and is shown to no other.
use Rattle.std.specs.Prelude.{◌≡◌, Bool, Option, Some, None, map}
use Rattle.mmtel_call_theorems.specs.Noninterference.PublicCall.{public_abandoned, public_leg, public_sent_invite}
use Rattle.mmtel_call_theorems.specs.Noninterference.Observations.{EquivalentOutputs, Trust}
use Rattle.mmtel_output.specs.declared.sent_invites.SentInvite.{SentInvite}
use Rattle.mmtel_transaction.specs.Equivalence.{blank_if}
use Rattle.mmtel_transaction.specs.declared.words.TKey.{TKey}
use Rattle.mmtel_trust.specs.Peers.{is_trusted}
use Rattle.mmtel_types.specs.declared.numbers.Peer.{Peer}
use Rattle.mmtel_focus.specs.Conferences.{Conference}
use Rattle.mmtel_participants.specs.declared.effects.Effects.{Effects}
use Rattle.mmtel_participants.specs.declared.participants.Invite.{Invite}
use Rattle.mmtel_participants.specs.declared.participants.Invite.TheVariants.{Accepted, Outstanding}
use Rattle.mmtel_participants.specs.declared.participants.Party.{Party}
use Rattle.mmtel_participants.specs.declared.participants.Party.TheVariants.{DialedIn, DialedOut, Invited}
use Rattle.mmtel_participants.specs.declared.participants.ParticipantState.{ParticipantState}
use Rattle.mmtel_focus.specs.Participants.{dialogue_of}
use Rattle.mmtel_focus.specs.ConferenceConfig.{ConferenceConfigView}
use Rattle.mmtel_focus.specs.Table.{Table}

abbrev pub trusts : ConferenceConfigView → Peer → Bool
trusts config peer = is_trusted peer config.peers.known

-- by the configuration: its peers, and these transactions
abbrev pub trust_of : ConferenceConfigView → (TKey → Bool) → Trust
trust_of config key = record { peer = trusts config; key = key }

-- ---- participants

abbrev pub public_party : (Peer → Bool) → Party → Party
public_party trusts (Invited leg) = Invited (public_leg trusts leg)
public_party trusts (DialedIn leg) = DialedIn (public_leg trusts leg)
public_party trusts (DialedOut leg) = DialedOut (public_leg trusts leg)

-- an INVITE of the server's without a final response has no ACK and no early dialog, so nothing of these is left out
abbrev pub public_outstanding : (Peer → Bool) → SentInvite → SentInvite
public_outstanding trusts i = record (public_sent_invite trusts i) { ack = i.ack; early = i.early }

-- the server's INVITE to a participant that is trusted or not
abbrev pub public_invite : (Peer → Bool) → (trusted : Bool) → Option Invite → Option Invite
public_invite trusts trusted None = None
public_invite trusts trusted (Some (Outstanding number i)) = Some (Outstanding number (public_outstanding trusts i))
public_invite trusts trusted (Some (Accepted branch tag ack)) = Some (Accepted branch tag (blank_if trusted ack))

abbrev pub public_participant : (Peer → Bool) → ParticipantState → ParticipantState
public_participant trusts seat = record seat { party = public_party trusts seat.party; invite = public_invite trusts (trusts (dialogue_of seat).peer) seat.invite }

-- ---- conferences, and a table of them

abbrev pub public_conference : (Peer → Bool) → Conference → Conference
public_conference trusts room = record room { participants = map (public_participant trusts) room.participants }

abbrev pub public_table : (Peer → Bool) → Table → Table
public_table trusts table = record table { live = map (public_conference trusts) table.live; abandoned = map (public_abandoned trusts) table.abandoned }

-- ---- the effects of a step

-- the INVITEs that are abandoned have the same public part, and the same is seen of the output
pub record EquivalentEffects (t : Trust) (one other : Effects) : Type 0 where
  pub closes : one.closes ≡ other.closes
  pub abandoned : map (public_abandoned t.peer) one.abandoned ≡ map (public_abandoned t.peer) other.abandoned
  pub output : EquivalentOutputs t one.output other.output
