-- Two configurations that are equal but for the URIs of accounts. Of these URIs a call sees only the results of its account look-ups: at its Request-URI, at the targets to which
-- records divert it, and at those to which responses redirect it (TS 24.604 §4.5.2.6, RFC 3261 §21.3).
use Rattle.std.specs.Prelude.{◌≡◌, ℕ, Bool, true, Option, Some, None, List, [], ◌∷◌, slice_get}
use Rattle.std.specs.Option.{unwrap_or}
use Rattle.mmtel_compose.specs.ReceivedMessages.{MessageView}
use Rattle.mmtel_output.specs.ResponseMatching.{awaited_request_branch}
use Rattle.mmtel_output.specs.declared.outputs.StepOutput.{StepOutput}
use Rattle.mmtel_diversion.specs.Diversion.{forward_of}
use Rattle.mmtel_leg.specs.Dialogues.{request_uri}
use Rattle.mmtel_lex.specs.declared.values.Uri.{Uri}
use Rattle.mmtel_precedence.specs.Calls.{SnapshotView}
use Rattle.mmtel_precedence.specs.Theorems.{diversion_rules}
use Rattle.mmtel_sheet_values.specs.declared.values.Forward.{Forward}
use Rattle.mmtel_sheet_values.specs.declared.values.Rule.{Rule}
use Rattle.mmtel_sheet_values.specs.declared.values.Sheet.{Sheet}
use Rattle.mmtel_served_user.specs.Targets.{first_target, new_target}
use Rattle.mmtel_served_user.specs.declared.targets.Target.{Target}
use Rattle.mmtel_transaction.specs.declared.words.TKey.{TKey}
use Rattle.mmtel_trust.specs.Accounts.{account_of}
use Rattle.mmtel_call_services.specs.Decisions.{redirect_of}
use Rattle.mmtel_call_services.specs.Opening.{no_target}
use Rattle.mmtel_call_services.specs.CallConfig.{CallConfigView, trusts}
use Rattle.mmtel_call_services.specs.declared.openings.Arrival.{Arrival}
use Rattle.mmtel_call.specs.declared.calls.Call.{Call}
use Rattle.mmtel_call.specs.declared.calls.Phase.{Phase}
use Rattle.mmtel_call.specs.declared.calls.Phase.TheVariants.{Detached, Established, Offered, Over}
use Rattle.mmtel_call.specs.Detaching.{call_finish}
use Rattle.mmtel_call.specs.Opening.{call_after_opening}
use Rattle.mmtel_call.specs.Table.{is_current, step}
use Rattle.mmtel_call.specs.declared.signals.Signal.{Signal}
use Rattle.mmtel_call.specs.declared.signals.Signal.TheVariants as signal
use Rattle.mmtel_call_theorems.specs.Noninterference.EquivalentCalls.{EquivalentCalls, IsReceived}
use Rattle.mmtel_call_theorems.specs.Noninterference.Opening.{public_arrival}
use Rattle.mmtel_call_theorems.specs.Noninterference.PublicCall.{nobody}
use Rattle.mmtel_call_theorems.specs.Noninterference.Premises.{AreDecidedEqually, IsAmong, IsFromOwnPeer, RecordsCoverSnapshot}
use Rattle.mmtel_call_theorems.specs.Noninterference.Roles.{Role, without_private}
use Rattle.mmtel_call_theorems.specs.Noninterference.Observations.{EquivalentOutputs, EquivalentSteps, trust_of}
use Rattle.mmtel_call_theorems.specs.Noninterference.Traces.{ReceiveEquivalent, StepPair, next, one_after, other_after}
use Rattle.mmtel_call_theorems.specs.Noninterference.StepTable.{ServedIn, public_signal}

pub record EqualButForAccounts (one other : CallConfigView) : Type 0 where
  pub sip : one.sip ≡ other.sip
  pub home : one.home ≡ other.home
  pub bound : one.bound ≡ other.bound
  pub country : one.country ≡ other.country
  pub reliable : one.reliable ≡ other.reliable
  pub timer : one.timer ≡ other.timer
  pub mwi : one.mwi ≡ other.mwi
  pub peers : one.peers ≡ other.peers

-- ---- look-ups

-- this URI belongs to the same account in both, or to none
abbrev pub LooksUpEqually : (one other : CallConfigView) → Uri → Type 0
LooksUpEqually one other uri = account_of one.accounts uri ≡ account_of other.accounts uri

-- the same for the target of a call that is diverted to it
abbrev pub DivertsEqually : (one other : CallConfigView) → Uri → Type 0
DivertsEqually one other uri = LooksUpEqually one other (new_target one.home uri)

-- a rule of the record has this forward
pub record Forwards (sheet : Sheet) (forward : Forward) : Type 0 where
  pub place : ℕ
  pub rule : Rule
  pub found : slice_get (diversion_rules sheet.diversion) place ≡ Some rule
  pub does : forward_of rule.action ≡ Some forward

-- the targets to which these records divert calls have the same look-up results
abbrev pub RecordsDivertEqually : (records : List Sheet) → (one other : CallConfigView) → Type 0
RecordsDivertEqually records one other = (sheet : Sheet) → IsAmong records sheet → (forward : Forward) → Forwards sheet forward → DivertsEqually one other forward.target

-- and those to which a response redirects
abbrev pub RedirectsEqually : (one other : CallConfigView) → MessageView → Type 0
RedirectsEqually one other m = (uri : Uri) → redirect_of m ≡ Some uri → DivertsEqually one other uri

-- what is private in a response is never looked up: for one with this role, the target to which it redirects without its private places
abbrev pub SignalRedirectsEqually : (one other : CallConfigView) → Role → Signal → Type 0
SignalRedirectsEqually one other role (signal.Request side key request) = Unit {0}
SignalRedirectsEqually one other role (signal.Ack side ack) = Unit {0}
SignalRedirectsEqually one other role (signal.Cancel key cancel invite) = Unit {0}
SignalRedirectsEqually one other role (signal.Answer key response) = RedirectsEqually one other (without_private role response)
SignalRedirectsEqually one other role (signal.Silent branch method) = Unit {0}
SignalRedirectsEqually one other role (signal.Due what) = Unit {0}
SignalRedirectsEqually one other role (signal.Ended key) = Unit {0}

-- by the call: only while it is offered does a response to the INVITE for which it waits redirect it
abbrev pub PhaseRedirectsEqually : Phase → (one other : CallConfigView) → MessageView → Type 0
PhaseRedirectsEqually (Offered x) one other m = RedirectsEqually one other m
PhaseRedirectsEqually (Established x stage) one other m = Unit {0}
PhaseRedirectsEqually (Detached detached) one other m = Unit {0}
PhaseRedirectsEqually (Over cause) one other m = Unit {0}

abbrev pub ResponseRedirectsEqually : Option (List ℕ) → (one other : CallConfigView) → MessageView → Call → Type 0
ResponseRedirectsEqually None one other m c = Unit {0}
ResponseRedirectsEqually (Some branch) one other m c = is_current branch c ≡ true → PhaseRedirectsEqually c.phase one other m

abbrev pub StepRedirectsEqually : (one other : CallConfigView) → Signal → Call → Type 0
StepRedirectsEqually one other (signal.Request side key request) c = Unit {0}
StepRedirectsEqually one other (signal.Ack side ack) c = Unit {0}
StepRedirectsEqually one other (signal.Cancel key cancel invite) c = Unit {0}
StepRedirectsEqually one other (signal.Answer key response) c = ResponseRedirectsEqually (awaited_request_branch response) one other response c
StepRedirectsEqually one other (signal.Silent branch method) c = Unit {0}
StepRedirectsEqually one other (signal.Due what) c = Unit {0}
StepRedirectsEqually one other (signal.Ended key) c = Unit {0}

-- and with the Request-URI of an INVITE that opens a call
abbrev pub requested_target : MessageView → Target
requested_target invite = unwrap_or (first_target (request_uri invite.parsed.start)) no_target

abbrev pub ArrivalLooksUpEqually : (one other : CallConfigView) → Arrival → Type 0
ArrivalLooksUpEqually one other a = LooksUpEqually one other (requested_target a.invite).uri

-- all this holds for one configuration and itself
pub record OneIsEquivalent : Type 0 where
  pub equal : (config : CallConfigView) → EqualButForAccounts config config
  pub lead : (records : List Sheet) (config : CallConfigView) → RecordsDivertEqually records config config
  pub signals : (config : CallConfigView) (role : Role) (x : Signal) → SignalRedirectsEqually config config role x
  pub arrives : (config : CallConfigView) (a : Arrival) → ArrivalLooksUpEqually config config a

-- ---- of the URIs of accounts a call sees the results of its look-ups alone

abbrev pub StepsSeeLookupsAlone : Type 0
StepsSeeLookupsAlone = (records : List Sheet) (one other : CallConfigView) (now : SnapshotView) (x : Signal) (c : Call) (output : StepOutput) →
    EqualButForAccounts one other → RecordsDivertEqually records one other → RecordsCoverSnapshot records now → ServedIn c.phase records → StepRedirectsEqually one other x c →
    step one now x c output ≡ step other now x c output

abbrev pub OpeningsSeeLookupsAlone : Type 0
OpeningsSeeLookupsAlone = (records : List Sheet) (one other : CallConfigView) (now : SnapshotView) (a : Arrival) (output : StepOutput) →
    EqualButForAccounts one other → RecordsDivertEqually records one other → RecordsCoverSnapshot records now → ArrivalLooksUpEqually one other a →
    call_after_opening one now a output ≡ call_after_opening other now a output

-- the end of a call of which a leg is detached looks up none
abbrev pub EndsLookUpNone : Type 0
EndsLookUpNone = (one other : CallConfigView) (at : ℕ) (c : Call) (output : StepOutput) → EqualButForAccounts one other →
    call_finish one at c output ≡ call_finish other at c output

-- ---- so two indistinguishable calls continue indistinguishably, each under its configuration

abbrev pub StepsKeepEquivalenceInBoth : Type 0
StepsKeepEquivalenceInBoth = (records : List Sheet) (config far : CallConfigView) (keys : TKey → Bool) (now : SnapshotView) (x y : Signal)
    (role second : Role) (c d : Call) (one other : StepOutput) →
    EqualButForAccounts config far → RecordsDivertEqually records config far → SignalRedirectsEqually config far second y →
    RecordsCoverSnapshot records now → EquivalentCalls records (trusts config) c d → public_signal role x ≡ public_signal second y →
    IsReceived records (trust_of config keys) x role c → IsReceived records (trust_of config keys) y second d → EquivalentOutputs (trust_of config keys) one other →
    EquivalentSteps (trust_of config keys) (step config now x c one) (step far now y d other)

-- and remain indistinguishable
abbrev pub CallsStayEquivalentInBoth : Type 0
CallsStayEquivalentInBoth = (records : List Sheet) (config far : CallConfigView) (keys : TKey → Bool) (now : SnapshotView) (x y : Signal)
    (role second : Role) (c d : Call) (one other : StepOutput) →
    EqualButForAccounts config far → RecordsDivertEqually records config far → SignalRedirectsEqually config far second y →
    RecordsCoverSnapshot records now → EquivalentCalls records (trusts config) c d → public_signal role x ≡ public_signal second y →
    IsReceived records (trust_of config keys) x role c → IsReceived records (trust_of config keys) y second d → EquivalentOutputs (trust_of config keys) one other →
    EquivalentCalls records (trusts config) (step config now x c one).call (step far now y d other).call

-- two INVITEs that are the same but for private places open indistinguishable calls, with the same observable output
abbrev pub OpeningsAreEquivalentInBoth : Type 0
OpeningsAreEquivalentInBoth = (records : List Sheet) (config far : CallConfigView) (keys : TKey → Bool) (now : SnapshotView) (a b : Arrival) (one other : StepOutput) →
    EqualButForAccounts config far → RecordsDivertEqually records config far → ArrivalLooksUpEqually config far b →
    IsFromOwnPeer (trust_of config keys) a.key a.invite → IsFromOwnPeer (trust_of config keys) b.key b.invite →
    RecordsCoverSnapshot records now → AreDecidedEqually records a.identities b.identities →
    public_arrival now nobody a ≡ public_arrival now nobody b → EquivalentOutputs (trust_of config keys) one other →
    EquivalentSteps (trust_of config keys) (call_after_opening config now a one) (call_after_opening far now b other)
    × EquivalentCalls records (trusts config) (call_after_opening config now a one).call (call_after_opening far now b other).call

-- through every two traces, each under its configuration, indistinguishable calls remain so, and each step has the same observable output
abbrev pub ReceiveEquivalentInBoth : (records : List Sheet) → (config far : CallConfigView) → (keys : TKey → Bool) → StepPair → Call → Call → Type 0
ReceiveEquivalentInBoth records config far keys both c d = ReceiveEquivalent records config keys both c d × SignalRedirectsEqually config far both.other.role both.other.signal

abbrev pub AllReceiveEquivalentInBoth : (records : List Sheet) → (config far : CallConfigView) → (keys : TKey → Bool) → Call → Call → List StepPair → Type 0
AllReceiveEquivalentInBoth records config far keys c d [] = Unit {0}
AllReceiveEquivalentInBoth records config far keys c d (both ∷ earlier) =
    ReceiveEquivalentInBoth records config far keys both (one_after config c earlier) (other_after far d earlier) × AllReceiveEquivalentInBoth records config far keys c d earlier

pub record TracesStayEquivalentInBoth : Type 0 where
  pub calls : (records : List Sheet) (config far : CallConfigView) (keys : TKey → Bool) (c d : Call) (trace : List StepPair) → EqualButForAccounts config far →
      RecordsDivertEqually records config far → EquivalentCalls records (trusts config) c d →
      AllReceiveEquivalentInBoth records config far keys c d trace → EquivalentCalls records (trusts config) (one_after config c trace) (other_after far d trace)
  pub steps : (records : List Sheet) (config far : CallConfigView) (keys : TKey → Bool) (c d : Call) (both : StepPair) (earlier : List StepPair) → EqualButForAccounts config far →
      RecordsDivertEqually records config far → EquivalentCalls records (trusts config) c d →
      AllReceiveEquivalentInBoth records config far keys c d (both ∷ earlier) →
      EquivalentSteps (trust_of config keys) (next config both.now both.one (one_after config c earlier)) (next far both.now both.other (other_after far d earlier))
