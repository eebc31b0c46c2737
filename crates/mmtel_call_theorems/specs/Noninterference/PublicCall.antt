-- The public part of a call: what of it depends on no private place. Everything that may be private has a place of its own in the structs of a call, and in the public part these
-- places are blank.
-- Of what is sent to a trusted peer, or received from one, it omits the texts: nobody else gets these, and they decide nothing. The identity of the caller is treated separately,
-- because decisions use it.
use Rattle.std.specs.Option.{option_map}
use Rattle.std.specs.Prelude.{ℕ, Bool, true, List, None, map}
use Rattle.mmtel_compose.specs.ReceivedMessages.{MessageView}
use Rattle.mmtel_output.specs.declared.sent_invites.SentInvite.{SentInvite}
use Rattle.mmtel_output.specs.declared.sent_invites.AbandonedInvite.{AbandonedInvite}
use Rattle.mmtel_history.specs.HistoryInfo.{masked_list}
use Rattle.mmtel_leg.specs.Legs.{Leg, with_dialogue}
use Rattle.mmtel_leg.specs.declared.dialogues.Dialogue.{Dialogue}
use Rattle.mmtel_leg.specs.declared.legs.Released.{Released}
use Rattle.mmtel_leg.specs.declared.remotes.Remote.{Remote}
use Rattle.mmtel_leg.specs.declared.legs.Released.TheVariants as released
use Rattle.mmtel_rules.specs.declared.values.Identities2.{Identities2}
use Rattle.mmtel_transaction.specs.Equivalence.{blank_if, blank_maybe}
use Rattle.mmtel_trust.specs.PrivateFields.{AllEntries, PrivateFields, hide_if}
use Rattle.mmtel_types.specs.declared.numbers.Peer.{Peer}
use Rattle.mmtel_types.specs.declared.sides.Side.{Side}
use Rattle.mmtel_types.specs.declared.sides.Side.TheVariants.{Caller, Callee}
use Rattle.mmtel_call_services.specs.Diversions.{DiversionsView}
use Rattle.mmtel_call_services.specs.CopiedHeaders.{masks_all}
use Rattle.mmtel_call_services.specs.declared.openings.Opening.{Opening}
use Rattle.mmtel_call.specs.AttemptLeg.{AttemptLegView}
use Rattle.mmtel_call.specs.declared.calls.Attempt.{Attempt}
use Rattle.mmtel_call.specs.declared.calls.Call.{Call}
use Rattle.mmtel_call.specs.declared.calls.RelayedTransaction.{RelayedTransaction}
use Rattle.mmtel_call.specs.declared.calls.DetachedLeg.{DetachedLeg}
use Rattle.mmtel_call.specs.declared.calls.EstablishedLegs.{EstablishedLegs}
use Rattle.mmtel_call.specs.declared.calls.Phase.{Phase}
use Rattle.mmtel_call.specs.declared.calls.Reinvite.{Reinvite}
use Rattle.mmtel_call.specs.declared.calls.Stage.{Stage}
use Rattle.mmtel_call.specs.declared.calls.AnsweredInvite.{AnsweredInvite}
use Rattle.mmtel_call.specs.declared.calls.OfferedAttempt.{OfferedAttempt}
use Rattle.mmtel_call.specs.declared.calls.Phase.TheVariants.{Detached, Established, Offered, Over}
use Rattle.mmtel_call.specs.declared.calls.Stage.TheVariants.{Answered, Departing, Reinviting, Stable}
use Rattle.mmtel_call_theorems.specs.Noninterference.Roles.{hidden_by, opening_role, without_private}

-- ---- a dialog

-- its other side is in the To of requests to a caller, as the caller named itself; a callee is named by the URI that was called
abbrev pub public_remote : (trusted : Bool) → Side → List ℕ → List ℕ
public_remote trusted Caller name = hide_if trusted name
public_remote trusted Callee name = name

abbrev pub public_dialog_by : (trusted : Bool) → Dialogue → Dialogue
public_dialog_by trusted d = record d { remote = public_remote trusted d.side d.remote; target = blank_if trusted d.target }

-- by whether its peer is trusted
abbrev pub public_dialog : (Peer → Bool) → Dialogue → Dialogue
public_dialog trusts d = public_dialog_by (trusts d.peer) d

abbrev pub public_leg : (Peer → Bool) → Leg → Leg
public_leg trusts leg = with_dialogue leg (public_dialog trusts leg.dialogue)

abbrev pub public_released : (Peer → Bool) → Released → Released
public_released trusts (released.Caller leg) = released.Caller (public_leg trusts leg)
public_released trusts (released.Callee leg) = released.Callee (public_leg trusts leg)

-- ---- INVITEs that were sent

-- the remote side of an early dialog
abbrev pub public_remote_side : (trusted : Bool) → Remote → Remote
public_remote_side trusted r = record r { target = blank_if trusted r.target }

abbrev pub public_sent_invite : (Peer → Bool) → SentInvite → SentInvite
public_sent_invite trusts i = record i {
  dialogue = public_dialog trusts i.dialogue;
  ack = blank_maybe (trusts i.dialogue.peer) i.ack;
  forks = map (public_dialog trusts) i.forks;
  early = option_map (public_remote_side (trusts i.dialogue.peer)) i.early;
}

abbrev pub public_abandoned : (Peer → Bool) → AbandonedInvite → AbandonedInvite
public_abandoned trusts l = record l { invite = public_sent_invite trusts l.invite }

abbrev pub public_answered : (Peer → Bool) → AnsweredInvite → AnsweredInvite
public_answered trusts t = record t { invite = public_sent_invite trusts t.invite }

-- ---- a request that awaits its response

-- it is kept only to be responded to
abbrev pub all_fields : PrivateFields
all_fields = record { from = true; to = true; contact = true; redirect = true; served = true; asserted = true; personal = true; history = AllEntries }

abbrev pub public_request : MessageView → MessageView
public_request m = record m { parsed = hidden_by m.parsed.trusted all_fields m.parsed }

abbrev pub public_reinvite : (Peer → Bool) → Reinvite → Reinvite
public_reinvite trusts q = record q { request = public_request q.request; invite = public_sent_invite trusts q.invite }

-- one that is in flight
abbrev pub public_relayed : (Peer → Bool) → RelayedTransaction → RelayedTransaction
public_relayed trusts flight = record flight { exchange = public_reinvite trusts flight.exchange }

-- ---- the phases

abbrev pub public_callee : (Peer → Bool) → AttemptLegView → AttemptLegView
public_callee trusts callee = record callee { leg = public_leg trusts callee.leg }

abbrev pub public_attempt : (Peer → Bool) → Attempt → Attempt
public_attempt trusts attempt = record attempt { invite = public_sent_invite trusts attempt.invite }

abbrev pub public_offered : (Peer → Bool) → OfferedAttempt → OfferedAttempt
public_offered trusts x = record { caller = public_leg trusts x.caller; callee = public_callee trusts x.callee; attempt = public_attempt trusts x.attempt }

abbrev pub public_established : (Peer → Bool) → EstablishedLegs → EstablishedLegs
public_established trusts x = record x { caller = public_leg trusts x.caller; callee = public_leg trusts x.callee }

abbrev pub public_stage : (Peer → Bool) → Stage → Stage
public_stage trusts (Answered side success) = Answered side success
public_stage trusts (Departing side success) = Departing side success
public_stage trusts Stable = Stable
public_stage trusts (Reinviting side q) = Reinviting side (public_reinvite trusts q)

abbrev pub public_detached : (Peer → Bool) → DetachedLeg → DetachedLeg
public_detached trusts detached = record detached { remaining = public_released trusts detached.remaining }

abbrev pub public_phase : (Peer → Bool) → Phase → Phase
public_phase trusts (Offered x) = Offered (public_offered trusts x)
public_phase trusts (Established x stage) = Established (public_established trusts x) (public_stage trusts stage)
public_phase trusts (Detached detached) = Detached (public_detached trusts detached)
public_phase trusts (Over cause) = Over cause

-- ---- the call

-- with these identities in the place of the caller's
abbrev pub public_opening : Identities2 → Opening → Opening
public_opening who o = record o { invite = without_private (opening_role o.restricted) o.invite; identities = who }

-- its History-Info as untrusted peers see it
abbrev pub public_diverted : (all : Bool) → DiversionsView → DiversionsView
public_diverted all d = record d { history = masked_list all d.history }

abbrev pub public_call : (Peer → Bool) → Identities2 → Call → Call
public_call trusts who c = record c {
  opening = public_opening who c.opening;
  diversions = public_diverted (masks_all c.opening) c.diversions;
  relayed = map (public_relayed trusts) c.relayed;
  abandoned = map (public_abandoned trusts) c.abandoned;
  answered_invites = map (public_answered trusts) c.answered_invites;
  phase = public_phase trusts c.phase;
}

-- no identity at all
abbrev pub nobody : Identities2
nobody = record { sip = None; tel = None }

-- with that in the place of the caller's identities: the public part
abbrev pub public_part : (Peer → Bool) → Call → Call
public_part trusts c = public_call trusts nobody c
