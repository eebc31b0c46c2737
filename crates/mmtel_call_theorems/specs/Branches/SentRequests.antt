-- Which requests whose response is awaited were sent, and to whom; and that the INVITEs of a call, and its PRACKs and UPDATEs that are in flight, are among these (RFC 3261
-- §8.1.1.7, §13.2.1, §17.1.3).
use Rattle.std.specs.Prelude.{◌≡◌, ◌<◌, ◌≤◌, ◌⊎◌, ℕ, true, false, List, [], ◌∷◌, Option, codes}
use Rattle.mmtel_call.specs.Answered.{leg_of}
use Rattle.mmtel_call.specs.declared.calls.Call.{Call}
use Rattle.mmtel_call.specs.declared.calls.RelayedTransaction.{RelayedTransaction}
use Rattle.mmtel_call.specs.declared.calls.RelayedKind.{RelayedKind}
use Rattle.mmtel_call.specs.declared.calls.RelayedKind.TheVariants.{Prack, Update}
use Rattle.mmtel_call.specs.declared.calls.EstablishedLegs.{EstablishedLegs}
use Rattle.mmtel_call.specs.declared.calls.Phase.{Phase}
use Rattle.mmtel_call.specs.declared.calls.Phase.TheVariants.{Detached, Established, Offered, Over}
use Rattle.mmtel_call.specs.declared.calls.Stage.{Stage}
use Rattle.mmtel_call.specs.declared.calls.Stage.TheVariants.{Answered, Departing, Reinviting, Stable}
use Rattle.mmtel_call.specs.declared.calls.AnsweredInvite.{AnsweredInvite}
use Rattle.mmtel_output.specs.ResponseMatching.{is_awaited_method}
use Rattle.mmtel_output.specs.declared.sent_invites.SentInvite.{SentInvite}
use Rattle.mmtel_output.specs.declared.sent_invites.AbandonedInvite.{AbandonedInvite}
use Rattle.mmtel_leg.specs.Requests.{RequestPartsView, request_numbered}
use Rattle.mmtel_leg.specs.declared.dialogues.Dialogue.{Dialogue}
use Rattle.mmtel_message.specs.Message.{Message}
use Rattle.mmtel_message.specs.declared.fields.Five.{Five}
use Rattle.mmtel_message.specs.declared.messages.Start.{Start}
use Rattle.mmtel_base.specs.Numbers.{token_text}
use Rattle.mmtel_transaction.specs.Heads.{head_with}
use Rattle.mmtel_transaction.specs.declared.words.Emit.{Emit}
use Rattle.mmtel_transaction.specs.declared.words.Emit.TheVariants as emit
use Rattle.mmtel_types.specs.Sides.{other_side}
use Rattle.mmtel_types.specs.declared.addrs.Addr.{Addr}
use Rattle.mmtel_types.specs.declared.numbers.Peer.{Peer}
pub use Rattle.mmtel_call_theorems.specs.NoInjection.Emits.{Each}

-- ---- which requests are sent

-- a request of the server with this method and this branch, in a dialog
pub record IsRequest (method : List ℕ) (sip : Addr) (branch : List ℕ) (m : Message Start) : Type 0 where
  pub dialogue : Dialogue
  pub number : ℕ
  pub parts : RequestPartsView
  pub is : m ≡ request_numbered dialogue number method parts
  pub from_there : parts.sip ≡ sip
  pub has_it : parts.branch ≡ branch

-- an INVITE of the server with this branch
abbrev pub IsInvite : Addr → (branch : List ℕ) → Message Start → Type 0
IsInvite sip branch m = IsRequest (codes "INVITE") sip branch m

-- an INVITE, PRACK or UPDATE of the server with this branch
pub record IsAwaited (sip : Addr) (branch : List ℕ) (m : Message Start) : Type 0 where
  pub method : List ℕ
  pub awaited : is_awaited_method method ≡ true
  pub request : IsRequest method sip branch m

-- it is no such request, and no response to one
abbrev pub IsNotAwaited : Message Start → Type 0
IsNotAwaited m = (five : Option Five) → is_awaited_method (head_with m.start five).method ≡ false

-- the requests to peers, of everything that is sent
abbrev pub requests_in : List Emit → List (Peer × Message Start)
requests_in [] = []
requests_in (emit.Ask peer m ∷ out) = (peer, m) ∷ requests_in out
requests_in (emit.Reply key m ∷ out) = requests_in out
requests_in (emit.Plain peer text ∷ out) = requests_in out
requests_in (emit.Ack key m ∷ out) = requests_in out
requests_in (emit.Settled key own ∷ out) = requests_in out
requests_in (emit.Arm call what at ∷ out) = requests_in out
requests_in (emit.ArmSeat room seat what at ∷ out) = requests_in out

-- among the requests that were sent is one with this method and this branch, sent to this peer
abbrev pub RequestWasSent : Addr → List (Peer × Message Start) → (method branch : List ℕ) → Peer → Type 0
RequestWasSent sip [] method branch peer = ⊥
RequestWasSent sip (ask ∷ asks) method branch peer = ((ask.0 ≡ peer) × IsRequest method sip branch ask.1) ⊎ RequestWasSent sip asks method branch peer

-- the same for an INVITE
abbrev pub SomeInviteWasSent : Addr → List (Peer × Message Start) → (branch : List ℕ) → Peer → Type 0
SomeInviteWasSent sip asks branch peer = RequestWasSent sip asks (codes "INVITE") branch peer

-- ---- the INVITEs of a call, where the first parameter is which were sent

abbrev pub SentInviteWasSent : (List ℕ → Peer → Type 0) → SentInvite → Type 0
SentInviteWasSent sent i = sent i.branch i.dialogue.peer

abbrev pub AbandonedWasSent : (List ℕ → Peer → Type 0) → AbandonedInvite → Type 0
AbandonedWasSent sent l = SentInviteWasSent sent l.invite

abbrev pub AnsweredWasSent : (List ℕ → Peer → Type 0) → AnsweredInvite → Type 0
AnsweredWasSent sent t = SentInviteWasSent sent t.invite

-- the INVITE whose 2xx waits for an ACK was sent to the peer of the other leg; so was the one that was relayed
abbrev pub StageWasSent : (List ℕ → Peer → Type 0) → EstablishedLegs → Stage → Type 0
StageWasSent sent x (Answered waiting success) = sent success.branch (leg_of (other_side waiting) x).dialogue.peer
StageWasSent sent x (Departing waiting success) = Unit {0}
StageWasSent sent x Stable = Unit {0}
StageWasSent sent x (Reinviting asking q) = SentInviteWasSent sent q.invite × sent q.invite.branch (leg_of (other_side asking) x).dialogue.peer

-- the INVITE of an attempt was sent to the peer of its leg
abbrev pub PhaseWasSent : (List ℕ → Peer → Type 0) → Phase → Type 0
PhaseWasSent sent (Offered x) = SentInviteWasSent sent x.attempt.invite × sent x.attempt.invite.branch x.callee.leg.dialogue.peer
PhaseWasSent sent (Established x stage) = StageWasSent sent x stage
PhaseWasSent sent (Detached detached) = Unit {0}
PhaseWasSent sent (Over cause) = Unit {0}

-- ---- and the requests in flight, where the parameter is which were sent with each method

abbrev pub method_of : RelayedKind → List ℕ
method_of Prack = codes "PRACK"
method_of Update = codes "UPDATE"

abbrev pub RelayedWasSent : ((method branch : List ℕ) → Peer → Type 0) → RelayedTransaction → Type 0
RelayedWasSent asked flight = SentInviteWasSent (asked (method_of flight.kind)) flight.exchange.invite

-- those for which the call does not wait
pub record OthersWereSent (asked : (method branch : List ℕ) → Peer → Type 0) (abandoned : List AbandonedInvite)
    (taken : List AnsweredInvite) (flights : List RelayedTransaction) : Type 0 where
  pub abandoned_in : Each (AbandonedWasSent (asked (codes "INVITE"))) abandoned
  pub answered_in : Each (AnsweredWasSent (asked (codes "INVITE"))) taken
  pub in_flight_in : Each (RelayedWasSent asked) flights

pub record CallWasSent (asked : (method branch : List ℕ) → Peer → Type 0) (c : Call) : Type 0 where
  pub phase_in : PhaseWasSent (asked (codes "INVITE")) c.phase
  pub others_in : OthersWereSent asked c.abandoned c.answered_invites c.relayed

-- ---- each that is sent has a number of its own

-- between these numbers: a request whose response is awaited has the token of the greater one; for everything else they are equal
abbrev pub IsNumbered : Addr → (token : List ℕ) → (low next : ℕ) → Emit → Type 0
IsNumbered sip token low next (emit.Ask peer m) = ((low ≡ next) × IsNotAwaited m) ⊎ ((low < next) × IsAwaited sip (token_text token next) m)
IsNumbered sip token low next (emit.Reply key m) = low ≡ next
IsNumbered sip token low next (emit.Plain peer text) = low ≡ next
IsNumbered sip token low next (emit.Ack key m) = low ≡ next
IsNumbered sip token low next (emit.Settled key own) = low ≡ next
IsNumbered sip token low next (emit.Arm call what at) = low ≡ next
IsNumbered sip token low next (emit.ArmSeat room seat what at) = low ≡ next

-- the numbers of these requests rise, starting above the lower of these numbers, up to the greater one
abbrev pub AreNumbered : Addr → (token : List ℕ) → (low high : ℕ) → List Emit → Type 0
AreNumbered sip token low high [] = low ≤ high
AreNumbered sip token low high (e ∷ out) = (next : ℕ) × IsNumbered sip token low next e × AreNumbered sip token next high out
