-- What is private in the signals of a table of calls, and the premises on them: to whom a message belongs, and which role it has, is determined by the layer above.
use Rattle.std.specs.Prelude.{◌≡◌, ℕ, Bool, Option, Some, None, List, position, slice_get}
use Rattle.mmtel_identity.specs.Restriction.{is_caller_restricted}
use Rattle.mmtel_precedence.specs.Calls.{SnapshotView}
use Rattle.mmtel_rules.specs.declared.values.Identities2.{Identities2}
use Rattle.mmtel_sheet_values.specs.declared.values.Sheet.{Sheet}
use Rattle.mmtel_output.specs.ResponseMatching.{awaited_request_branch, timed_out_branch}
use Rattle.mmtel_call_services.specs.Opening.{origin_sheet}
use Rattle.mmtel_call_services.specs.CallConfig.{CallConfigView}
use Rattle.mmtel_call.specs.declared.signals.Signal as calls
use Rattle.mmtel_call.specs.declared.signals.Signal.TheVariants as of_call
use Rattle.mmtel_call_theorems.specs.Noninterference.Configurations.{LooksUpEqually, RedirectsEqually, requested_target}
use Rattle.mmtel_call_theorems.specs.Noninterference.PublicCall.{nobody}
use Rattle.mmtel_call_theorems.specs.Noninterference.Premises.{AreDecidedEqually, IsFromOwnPeer}
use Rattle.mmtel_call_theorems.specs.Noninterference.Roles.{Role, opening_role, without_private}
use Rattle.mmtel_call_theorems.specs.Noninterference.Observations.{Trust}
use Rattle.mmtel_call_theorems.specs.Noninterference.StepTable.{MayReceive}
use Rattle.mmtel_b2bua.specs.Entries.{has_received_key, has_sent_branch, is_numbered}
use Rattle.mmtel_b2bua.specs.declared.entries.Entry.{Entry}
use Rattle.mmtel_b2bua.specs.declared.signals.Signal.{Signal}
use Rattle.mmtel_b2bua.specs.declared.signals.Signal.TheVariants as signal

-- a signal without the private places of its message, which has this role, and without the identity of the caller
abbrev pub public_signal : Role → Signal → Signal
public_signal role (signal.Arrived key invite served registration identities) = signal.Arrived key (without_private role invite) served registration nobody
public_signal role (signal.Request call side key request) = signal.Request call side key (without_private role request)
public_signal role (signal.Ack call side ack) = signal.Ack call side (without_private role ack)
public_signal role (signal.Cancel call key cancel invite) = signal.Cancel call key (without_private role cancel) invite
public_signal role (signal.Answer key response) = signal.Answer key (without_private role response)
public_signal role (signal.Silent branch method) = signal.Silent branch method
public_signal role (signal.Due call what) = signal.Due call what
public_signal role (signal.Over key) = signal.Over key

-- ---- the identity of the caller is treated separately

abbrev pub caller_in : Signal → Option Identities2
caller_in (signal.Arrived key invite served registration identities) = Some identities
caller_in (signal.Request call side key request) = None
caller_in (signal.Ack call side ack) = None
caller_in (signal.Cancel call key cancel invite) = None
caller_in (signal.Answer key response) = None
caller_in (signal.Silent branch method) = None
caller_in (signal.Due call what) = None
caller_in (signal.Over key) = None

-- on two callers the same is decided
abbrev pub CallersDecidedEqually : (records : List Sheet) → (one other : Signal) → Type 0
CallersDecidedEqually records one other = (who second : Identities2) → caller_in one ≡ Some who → caller_in other ≡ Some second → AreDecidedEqually records who second

-- ---- the accounts that are looked up on a signal: that of a Request-URI, and that of a target to which a response redirects if that is not private in this role

abbrev pub SignalLooksUpEqually : (one other : CallConfigView) → Role → Signal → Type 0
SignalLooksUpEqually one other role (signal.Arrived key invite served registration identities) = LooksUpEqually one other (requested_target invite).uri
SignalLooksUpEqually one other role (signal.Request call side key request) = Unit {0}
SignalLooksUpEqually one other role (signal.Ack call side ack) = Unit {0}
SignalLooksUpEqually one other role (signal.Cancel call key cancel invite) = Unit {0}
SignalLooksUpEqually one other role (signal.Answer key response) = RedirectsEqually one other (without_private role response)
SignalLooksUpEqually one other role (signal.Silent branch method) = Unit {0}
SignalLooksUpEqually one other role (signal.Due call what) = Unit {0}
SignalLooksUpEqually one other role (signal.Over key) = Unit {0}

-- ---- the premises on a signal

-- the server transaction of a request belongs to the request's own peer
abbrev pub SignalIsFromOwnPeer : Trust → Signal → Type 0
SignalIsFromOwnPeer t (signal.Arrived key invite served registration identities) = IsFromOwnPeer t key invite
SignalIsFromOwnPeer t (signal.Request call side key request) = IsFromOwnPeer t key request
SignalIsFromOwnPeer t (signal.Ack call side ack) = Unit {0}
SignalIsFromOwnPeer t (signal.Cancel call key cancel invite) = Unit {0}
SignalIsFromOwnPeer t (signal.Answer key response) = Unit {0}
SignalIsFromOwnPeer t (signal.Silent branch method) = Unit {0}
SignalIsFromOwnPeer t (signal.Due call what) = Unit {0}
SignalIsFromOwnPeer t (signal.Over key) = Unit {0}

-- for the first call that satisfies the predicate, if there is one, the premises of the step table on its messages hold: a message hides no more than the call knows
abbrev pub CallMayReceive : Trust → (whose : Entry → Bool) → calls.Signal → Role → List Entry → Type 0
CallMayReceive t whose x role es = (place : ℕ) (e : Entry) → position whose es ≡ Some place → slice_get es place ≡ Some e → MayReceive x t role e.call

-- by the signal, with the state then: an INVITE that opens a call has the role of an opening
abbrev pub TableMayReceive : Trust → SnapshotView → Role → Signal → List Entry → Type 0
TableMayReceive t now role (signal.Arrived key invite served registration identities) es = role ≡ opening_role (is_caller_restricted invite.parsed.wants (origin_sheet now served))
TableMayReceive t now role (signal.Request call side key request) es = CallMayReceive t (is_numbered call.0) (of_call.Request side key request) role es
TableMayReceive t now role (signal.Ack call side ack) es = CallMayReceive t (is_numbered call.0) (of_call.Ack side ack) role es
TableMayReceive t now role (signal.Cancel call key cancel invite) es = CallMayReceive t (is_numbered call.0) (of_call.Cancel key cancel invite) role es
TableMayReceive t now role (signal.Answer key response) es = CallMayReceive t (has_sent_branch (awaited_request_branch response)) (of_call.Answer key response) role es
TableMayReceive t now role (signal.Silent branch method) es = CallMayReceive t (has_sent_branch (timed_out_branch branch method)) (of_call.Silent branch method) role es
TableMayReceive t now role (signal.Due call what) es = CallMayReceive t (is_numbered call.0) (of_call.Due what) role es
TableMayReceive t now role (signal.Over key) es = CallMayReceive t (has_received_key key) (of_call.Ended key) role es
