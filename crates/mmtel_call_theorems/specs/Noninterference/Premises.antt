-- Conditions on messages and on a call under which their public parts determine all that others may see: to which peer a transaction belongs, and that a message hides its sender
-- only if the call knows that side as restricted.
use Rattle.std.specs.Prelude.{ℕ, position, slice_get, ◌≡◌, Bool, true, false, Option, Some, None, List}
use Rattle.mmtel_compose.specs.ReceivedMessages.{MessageView}
use Rattle.mmtel_output.specs.AbandonedInvites.{is_of_branch}
use Rattle.mmtel_output.specs.declared.sent_invites.AbandonedInvite.{AbandonedInvite}
use Rattle.mmtel_message.specs.Faults.{is_request}
use Rattle.mmtel_precedence.specs.Calls.{SnapshotView, sheet_at}
use Rattle.mmtel_precedence.specs.Theorems.{MatchRulesEqually}
use Rattle.mmtel_rules.specs.Identities.{has_identity, identity_holds}
use Rattle.mmtel_rules.specs.declared.values.Identities2.{Identities2}
use Rattle.mmtel_sheet_values.specs.Sheets.{empty_sheet}
use Rattle.mmtel_sheet_values.specs.declared.values.Sheet.{Sheet}
use Rattle.mmtel_transaction.specs.declared.words.TKey.{TKey}
use Rattle.mmtel_trust.specs.Members.{IsIn}
use Rattle.mmtel_types.specs.declared.numbers.Account.{Account}
use Rattle.mmtel_types.specs.declared.numbers.Peer.{Peer}
use Rattle.mmtel_types.specs.declared.sides.Side.{Side}
use Rattle.mmtel_types.specs.declared.sides.Side.TheVariants.{Caller, Callee}
use Rattle.mmtel_call_services.specs.Decisions.{service_sheet}
use Rattle.mmtel_call_services.specs.CopiedHeaders.{facing}
use Rattle.mmtel_call_services.specs.declared.openings.Opening.{Opening}
use Rattle.mmtel_call_services.specs.declared.openings.Service.{Service}
use Rattle.mmtel_call.specs.declared.calls.OfferedAttempt.{OfferedAttempt}
use Rattle.mmtel_call.specs.declared.calls.Call.{Call}
use Rattle.mmtel_call.specs.declared.calls.RelayedTransaction.{RelayedTransaction}
use Rattle.mmtel_call.specs.declared.calls.Phase.{Phase}
use Rattle.mmtel_call.specs.declared.calls.Stage.{Stage}
use Rattle.mmtel_call.specs.declared.calls.Phase.TheVariants.{Detached, Established, Offered, Over}
use Rattle.mmtel_call.specs.declared.calls.Stage.TheVariants.{Answered, Departing, Reinviting, Stable}
use Rattle.mmtel_types.specs.Sides.{other_side}
use Rattle.mmtel_call.specs.Answered.{acknowledges, leg_of}
use Rattle.mmtel_call.specs.declared.calls.EstablishedLegs.{EstablishedLegs}
use Rattle.mmtel_call.specs.declared.calls.Success.{Success}
use Rattle.mmtel_call.specs.RelayedTransactions.{is_in_flight, service_in}
use Rattle.mmtel_call.specs.OtherRequests.{is_answered_invite}
use Rattle.mmtel_call.specs.declared.calls.AnsweredInvite.{AnsweredInvite}
use Rattle.mmtel_call_theorems.specs.NoInjection.Emits.{Each}
use Rattle.mmtel_call_theorems.specs.Noninterference.Roles.{Role, hides, private_fields, without_private}
pub use Rattle.mmtel_call_theorems.specs.Noninterference.Roles.{goes_across}
use Rattle.mmtel_call_theorems.specs.Noninterference.Observations.{Trust}

-- the request of a server transaction: its peer is the one that sent it
pub record IsFromOwnPeer (t : Trust) (key : TKey) (m : MessageView) : Type 0 where
  pub request : is_request m.parsed.start ≡ true
  pub trusted : m.parsed.trusted ≡ t.peer m.peer
  pub known : t.key key ≡ t.peer m.peer

-- it hides its sender only on a restricted side
abbrev pub Fits : Opening → Option Service → Side → MessageView → Role → Type 0
Fits o service side m role = hides role ≡ true → (facing o service side m).restricted ≡ true

-- one that is not relayed may hide anything
abbrev pub FitsOffered : Opening → Option Service → Side → MessageView → Role → Type 0
FitsOffered o service side m role = goes_across side m ≡ true → Fits o service side m role

-- ---- the requests that a call keeps

abbrev pub stage_is_from_own_peer : Trust → Stage → Type 0
stage_is_from_own_peer t (Answered side success) = Unit {0}
stage_is_from_own_peer t (Departing side success) = Unit {0}
stage_is_from_own_peer t Stable = Unit {0}
stage_is_from_own_peer t (Reinviting side q) = IsFromOwnPeer t q.key q.request

abbrev pub phase_is_from_own_peer : Trust → Phase → Type 0
phase_is_from_own_peer t (Offered x) = Unit {0}
phase_is_from_own_peer t (Established x stage) = stage_is_from_own_peer t stage
phase_is_from_own_peer t (Detached detached) = Unit {0}
phase_is_from_own_peer t (Over cause) = Unit {0}

-- those in flight
abbrev pub in_flight_is_from_own_peers : Trust → List RelayedTransaction → Type 0
in_flight_is_from_own_peers t flights = Each (λ (flight : RelayedTransaction). IsFromOwnPeer t flight.exchange.key flight.exchange.request) flights

abbrev pub requests_are_from_own_peers : Trust → Call → Type 0
requests_are_from_own_peers t c = phase_is_from_own_peer t c.phase × in_flight_is_from_own_peers t c.relayed

-- ---- responses

-- nothing in it is private
abbrev pub HasNothingPrivate : Role → MessageView → Type 0
HasNothingPrivate role m = without_private role m ≡ m

-- the response that was received in a client transaction, which belongs to the peer to which the request was sent. If that peer is not trusted nothing in the response is private:
-- neither what that peer sends, nor what another one sends that is not of a side of the call
pub record IsResponseOf (t : Trust) (key : TKey) (asked : Peer) (role : Role) (m : MessageView) : Type 0 where
  pub nothing_private : t.peer asked ≡ false → HasNothingPrivate role m
  pub known : t.key key ≡ t.peer asked

-- ---- the identity of the caller

-- one of these records
abbrev pub IsAmong : (records : List Sheet) → Sheet → Type 0
IsAmong records sheet = IsIn sheet records

-- two callers on whom the same is decided: both have an identity or neither, and the conditions of these records on the caller have the same results for both
pub record AreDecidedEqually (records : List Sheet) (one other : Identities2) : Type 0 where
  pub somebody : has_identity one ≡ has_identity other
  pub matches : (sheet : Sheet) → IsAmong records sheet → MatchRulesEqually sheet (identity_holds one) (identity_holds other)

-- all records are among these: each current one, and the empty one
pub record RecordsCoverSnapshot (records : List Sheet) (now : SnapshotView) : Type 0 where
  pub each : (account : Account) → IsAmong records (sheet_at now account)
  pub none : IsAmong records empty_sheet

-- and that of the account that is served at a target, if there is one
abbrev pub RecordsCoverService : (records : List Sheet) → Option Service → Type 0
RecordsCoverService records service = (sheet : Sheet) → service_sheet service ≡ Some sheet → IsAmong records sheet

-- the conditions under which a call continues: its opening INVITE was sent by its own peer, and on the identity in the caller's place the same is decided
pub record CanContinue (records : List Sheet) (t : Trust) (now : SnapshotView) (who : Identities2) (c : Call) : Type 0 where
  pub opening : IsFromOwnPeer t c.opening.key c.opening.invite
  pub caller : AreDecidedEqually records who c.opening.identities
  pub covered : RecordsCoverSnapshot records now

-- the target's response to an attempt: it hides the target only if the target is restricted and trusted, and never the URI to which it redirects
pub record IsTargets (t : Trust) (key : TKey) (x : OfferedAttempt) (role : Role) (m : MessageView) (o : Opening) : Type 0 where
  pub response : IsResponseOf t key x.attempt.invite.dialogue.peer role m
  pub leg : t.peer x.callee.leg.dialogue.peer ≡ false → HasNothingPrivate role m
  pub fits : Fits o x.attempt.service Callee m role
  pub redirect : (private_fields role m.parsed).redirect ≡ false

-- ---- a request for which the call does not wait

-- a response to an INVITE, or to a request in flight: the latter is sent by the side other than the one that sent the request
pub record MayReceiveOther (t : Trust) (key : TKey) (branch : List ℕ) (role : Role) (m : MessageView) (c : Call) : Type 0 where
  pub abandoned : (at : ℕ) (l : AbandonedInvite) → position (is_of_branch branch) c.abandoned ≡ Some at →
      slice_get c.abandoned at ≡ Some l → IsResponseOf t key l.invite.dialogue.peer role m
  pub answered : (at : ℕ) (x : AnsweredInvite) → position (is_answered_invite branch) c.answered_invites ≡ Some at →
      slice_get c.answered_invites at ≡ Some x → IsResponseOf t key x.invite.dialogue.peer role m
  pub in_flight : position (is_of_branch branch) c.abandoned ≡ None → position (is_answered_invite branch) c.answered_invites ≡ None → (at : ℕ) (flight : RelayedTransaction) →
      position (is_in_flight branch) c.relayed ≡ Some at → slice_get c.relayed at ≡ Some flight → Fits c.opening (service_in c.phase) (other_side flight.side) m role

-- the INVITE whose 2xx waits for its ACK was sent to a peer that is trusted if and only if that of the other leg is
abbrev pub SentAcross : Trust → Call → EstablishedLegs → Side → Success → Type 0
SentAcross t c x side success = (taken : AnsweredInvite) → IsIn taken c.answered_invites → is_answered_invite success.branch taken ≡ true →
    t.peer taken.invite.dialogue.peer ≡ t.peer (leg_of (other_side side) x).dialogue.peer

-- this holds at this stage, if this ACK of the side is the one that is awaited
abbrev pub stage_is_sent : Trust → Call → EstablishedLegs → Side → MessageView → Stage → Type 0
stage_is_sent t c x side m (Answered waiting success) = acknowledges waiting success side m ≡ true → SentAcross t c x side success
stage_is_sent t c x side m (Departing waiting success) = Unit {0}
stage_is_sent t c x side m Stable = Unit {0}
stage_is_sent t c x side m (Reinviting asking q) = Unit {0}
