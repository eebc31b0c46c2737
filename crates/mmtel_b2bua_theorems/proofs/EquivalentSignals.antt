-- A signal leaves indistinguishable tables indistinguishable, and the observable part of its output is the same.
use Rattle.std.proofs.Common.{◌≡◌, ℕ, Bool, true, false, List, [], ◌∷◌, ◌++◌, refl, ap, sym, ◌∙◌, cond, subst, Option, Some, None}
use Rattle.std.specs.Prelude.{option_to_list, position, remove, slice_get, slice_set}
use Rattle.mmtel_compose.specs.ReceivedMessages.{MessageView}
use Rattle.mmtel_charging.specs.declared.rows.Row.{Row}
use Rattle.mmtel_output.specs.Outputs.{empty_output}
use Rattle.mmtel_output.specs.declared.outputs.StepOutput.{StepOutput}
use Rattle.mmtel_identity.specs.Restriction.{is_caller_restricted}
use Rattle.mmtel_precedence.specs.Calls.{SnapshotView}
use Rattle.mmtel_rules.specs.declared.values.Identities2.{Identities2}
use Rattle.mmtel_base.specs.Numbers.{next_number}
use Rattle.mmtel_sheet_values.specs.View.{SheetsInForce}
use Rattle.mmtel_sheet_values.specs.declared.values.Sheet.{Sheet}
use Rattle.mmtel_served_user.specs.declared.served_user.RegistrationState.{RegistrationState}
use Rattle.mmtel_served_user.specs.declared.served_user.Served.{Served}
use Rattle.mmtel_transaction.specs.Tokens.{TokensView}
use Rattle.mmtel_transaction.specs.declared.words.TKey.{TKey}
use Rattle.mmtel_types.specs.declared.numbers.Account.{Account}
use Rattle.mmtel_types.specs.declared.numbers.Peer.{Peer}
use Rattle.mmtel_types.specs.declared.sides.Side.TheVariants.{Caller}
use Rattle.mmtel_output.specs.ResponseMatching.{awaited_request_branch, timed_out_branch}
use Rattle.mmtel_call_services.specs.Opening.{origin_sheet}
use Rattle.mmtel_call_services.specs.CallConfig.{CallConfigView, trusts}
use Rattle.mmtel_call_services.specs.declared.openings.Arrival.{Arrival}
use Rattle.mmtel_call.specs.Closing.{StepResult}
use Rattle.mmtel_call.specs.Opening.{call_after_opening}
use Rattle.mmtel_call.specs.Settled.{is_settled}
use Rattle.mmtel_call.specs.declared.signals.Signal as calls
use Rattle.mmtel_call.specs.declared.signals.Signal.TheVariants as of_call
use Rattle.mmtel_call_theorems.specs.Noninterference.EquivalentCalls.{EquivalentCalls, IsReceived}
use Rattle.mmtel_call_theorems.specs.Noninterference.PublicParts.{PublicPartsDetermineQueries}
use Rattle.mmtel_call_theorems.specs.Noninterference.Configurations.{CallsStayEquivalentInBoth, EndsLookUpNone, LooksUpEqually, OpeningsAreEquivalentInBoth}
use Rattle.mmtel_call_theorems.specs.Noninterference.Configurations.{SignalRedirectsEqually, StepsKeepEquivalenceInBoth, requested_target}
use Rattle.mmtel_call_theorems.specs.Noninterference.Invariant.{CallInvariant, CallsKeepTheirInvariant}
use Rattle.mmtel_call_theorems.specs.Noninterference.Detaching.{DetachingKeepsEquivalence}
use Rattle.mmtel_call_theorems.specs.Noninterference.Opening.{public_arrival}
use Rattle.mmtel_call_theorems.specs.Noninterference.PublicCall.{nobody}
use Rattle.mmtel_call_theorems.specs.Noninterference.Premises.{AreDecidedEqually, IsFromOwnPeer, RecordsCoverSnapshot}
use Rattle.mmtel_call_theorems.specs.Noninterference.Roles.{Role, opening_role, without_private}
use Rattle.mmtel_call_theorems.specs.Noninterference.Observations.{EquivalentOutputs, EquivalentSteps, Trust, trust_of}
use Rattle.mmtel_call_theorems.specs.Noninterference.StepTable.{public_signal as public_received}
use Rattle.mmtel_b2bua.specs.Entries.{busy_beside, has_received_key as has_received_it, has_sent_branch, is_numbered, kept_entry}
use Rattle.mmtel_b2bua.specs.Operations.{ReceivedSignal, step_on_receive}
use Rattle.mmtel_b2bua.specs.Tables.{Table, TableStep, busy_with, call_step, entry_after, entry_for, invites_by, is_opening, opened_after, opening_step, put_at}
use Rattle.mmtel_b2bua.specs.Tables.{snapshot_at, step_in, step_of_arrival, step_of_entry, step_of_entry_at, step_of_opened, step_of_receiver, step_of_signal, with_step}
use Rattle.mmtel_b2bua.specs.declared.entries.Entry.{Entry}
use Rattle.mmtel_b2bua.specs.declared.entries.InviteKey.{InviteKey}
use Rattle.mmtel_b2bua.specs.declared.signals.Signal.{Signal}
use Rattle.mmtel_b2bua.specs.declared.signals.Signal.TheVariants as signal
use Rattle.mmtel_b2bua_theorems.specs.EquivalentTables.{CallsInvariant, EquivalentEntries, EquivalentEntry, EquivalentTables}
use Rattle.mmtel_b2bua_theorems.specs.Noninterference.{ConfigsAgree, ReceiveEquivalent, ReceivedWithRole, TablesCorrespond}
use Rattle.mmtel_b2bua_theorems.specs.Signals.{CallMayReceive, CallersDecidedEqually, SignalIsFromOwnPeer, SignalLooksUpEqually, TableMayReceive, caller_in, public_signal}
use Rattle.mmtel_b2bua_theorems.proofs.Places.{EquivalentAt, append-equivalent, get-kept, get-equivalent, position-same, remove-equivalent, set-equivalent}
use Rattle.mmtel_b2bua_theorems.proofs.EquivalentEntries.{busy-same, kept-equivalent, number-same, numbered-same, received-same, sent-same, settled-same}

-- what is proved of one call, under both configurations
pub record OfCalls : Type 0 where
  pub determine : PublicPartsDetermineQueries
  pub steps : StepsKeepEquivalenceInBoth
  pub stay : CallsStayEquivalentInBoth
  pub openings : OpeningsAreEquivalentInBoth
  pub lending : DetachingKeepsEquivalence
  pub ends : EndsLookUpNone
  pub keep : CallsKeepTheirInvariant

-- ---- a signal of a call, and one that opens a call

-- which call receives it
data Owner : Type 0 where
  Numbered : (number : ℕ) → Owner
  Sent : (branch : Option (List ℕ)) → Owner
  Asked : (key : TKey) → Owner

abbrev is_owner : Owner → Entry → Bool
is_owner (Numbered number) e = is_numbered number e
is_owner (Sent branch) e = has_sent_branch branch e
is_owner (Asked key) e = has_received_it key e

data Kind : Type 0 where
  Opens : (key : TKey) → (invite : MessageView) → (served : Served) → (registration : Option RegistrationState) → (identities : Identities2) → Kind
  OfCall : (whose : Owner) → (x : calls.Signal) → (invites : List InviteKey) → Kind

abbrev kind_of : Signal → Kind
kind_of (signal.Arrived key invite served registration identities) = Opens key invite served registration identities
kind_of (signal.Request call side key request) = OfCall (Numbered call.0) (of_call.Request side key request) (invites_by side key request)
kind_of (signal.Ack call side ack) = OfCall (Numbered call.0) (of_call.Ack side ack) []
kind_of (signal.Cancel call key cancel invite) = OfCall (Numbered call.0) (of_call.Cancel key cancel invite) []
kind_of (signal.Answer key response) = OfCall (Sent (awaited_request_branch response)) (of_call.Answer key response) []
kind_of (signal.Silent branch method) = OfCall (Sent (timed_out_branch branch method)) (of_call.Silent branch method) []
kind_of (signal.Due call what) = OfCall (Numbered call.0) (of_call.Due what) []
kind_of (signal.Over key) = OfCall (Asked key) (of_call.Ended key) []

abbrev public_kind : Role → Kind → Kind
public_kind role (Opens key invite served registration identities) = Opens key (without_private role invite) served registration nobody
public_kind role (OfCall whose x invites) = OfCall whose (public_received role x) invites

kind_public : (role : Role) (x : Signal) → kind_of (public_signal role x) ≡ public_kind role (kind_of x)
unfolding awaited_request_branch
kind_public role (signal.Arrived key invite served registration identities) = refl
kind_public role (signal.Request call side key request) = refl
kind_public role (signal.Ack call side ack) = refl
kind_public role (signal.Cancel call key cancel invite) = refl
kind_public role (signal.Answer key response) = refl
kind_public role (signal.Silent branch method) = refl
kind_public role (signal.Due call what) = refl
kind_public role (signal.Over key) = refl

abbrev owner_in : Kind → Owner
owner_in (Opens key invite served registration identities) = Numbered 0
owner_in (OfCall whose x invites) = whose

abbrev received_in : calls.Signal → Kind → calls.Signal
received_in other (Opens key invite served registration identities) = other
received_in other (OfCall whose x invites) = x

abbrev invites_in : Kind → List InviteKey
invites_in (Opens key invite served registration identities) = []
invites_in (OfCall whose x invites) = invites

abbrev opens_kind : Kind → Bool
opens_kind (Opens key invite served registration identities) = true
opens_kind (OfCall whose x invites) = false

abbrev arrival_in : Arrival → Kind → Arrival
arrival_in other (Opens key invite served registration identities) = record other { key = key; invite = invite; served = served; registration = registration; identities = identities }
arrival_in other (OfCall whose x invites) = other

-- the table after it
abbrev step_kind : Kind → CallConfigView → (at : ℕ) → SheetsInForce → (number : ℕ) → List Entry → StepOutput → TableStep
step_kind (Opens key invite served registration identities) config at view number es output =
    step_of_arrival config at view (record { number = record { 0 = number }; key = key; invite = invite; served = served; registration = registration; identities = identities }) es output
step_kind (OfCall whose x invites) config at view number es output = step_of_receiver config at view (is_owner whose) x invites es output

step_as : (x : Signal) (config : CallConfigView) (at : ℕ) (view : SheetsInForce) (number : ℕ) (es : List Entry) (output : StepOutput) →
    step_of_signal config at view number x es output ≡ step_kind (kind_of x) config at view number es output
unfolding step_of_signal
step_as (signal.Arrived key invite served registration identities) config at view number es output = refl
step_as (signal.Request call side key request) config at view number es output = refl
step_as (signal.Ack call side ack) config at view number es output = refl
step_as (signal.Cancel call key cancel invite) config at view number es output = refl
step_as (signal.Answer key response) config at view number es output = refl
step_as (signal.Silent branch method) config at view number es output = refl
step_as (signal.Due call what) config at view number es output = refl
step_as (signal.Over key) config at view number es output = refl

-- ---- the premises on it

-- an INVITE was sent by its own peer, and has the role of an opening
record IsOpening (t : Trust) (now : SnapshotView) (key : TKey) (invite : MessageView) (served : Served) (role : Role) : Type 0 where
  pub from_own_peer : IsFromOwnPeer t key invite
  pub role_is : role ≡ opening_role (is_caller_restricted invite.parsed.wants (origin_sheet now served))

abbrev IsReceivedBy : (records : List Sheet) → Trust → (whose : Entry → Bool) → calls.Signal → Role → List Entry → Type 0
IsReceivedBy records t whose x role es = (place : ℕ) (e : Entry) → position whose es ≡ Some place → slice_get es place ≡ Some e → IsReceived records t x role e.call

abbrev KindReceives : (records : List Sheet) → Trust → SnapshotView → Role → Kind → List Entry → Type 0
KindReceives records t now role (Opens key invite served registration identities) es = IsOpening t now key invite served role
KindReceives records t now role (OfCall whose x invites) es = IsReceivedBy records t (is_owner whose) x role es

call_receives : (records : List Sheet) (t : Trust) (whose : Entry → Bool) (x : calls.Signal) (role : Role) (es : List Entry) → CallsInvariant records t es → CallMayReceive t whose x role es →
    IsReceivedBy records t whose x role es
call_receives records t whose x role es kept h = λ place e is got.
    let k : CallInvariant records t e.call = get-kept records t es kept place e got in
    record { opening = k.opening; kept = k.kept; served = k.served; may_receive = h place e is got }

kind_receives : (records : List Sheet) (t : Trust) (now : SnapshotView) (role : Role) (x : Signal) (es : List Entry) → CallsInvariant records t es → SignalIsFromOwnPeer t x →
    TableMayReceive t now role x es → KindReceives records t now role (kind_of x) es
kind_receives records t now role (signal.Arrived key invite served registration identities) es kept asks h = record { from_own_peer = asks; role_is = h }
kind_receives records t now role (signal.Request call side key request) es kept asks h = call_receives records t (is_numbered call.0) (of_call.Request side key request) role es kept h
kind_receives records t now role (signal.Ack call side ack) es kept asks h = call_receives records t (is_numbered call.0) (of_call.Ack side ack) role es kept h
kind_receives records t now role (signal.Cancel call key cancel invite) es kept asks h = call_receives records t (is_numbered call.0) (of_call.Cancel key cancel invite) role es kept h
kind_receives records t now role (signal.Answer key response) es kept asks h = call_receives records t (has_sent_branch (awaited_request_branch response)) (of_call.Answer key response) role es kept h
kind_receives records t now role (signal.Silent branch method) es kept asks h = call_receives records t (has_sent_branch (timed_out_branch branch method)) (of_call.Silent branch method) role es kept h
kind_receives records t now role (signal.Due call what) es kept asks h = call_receives records t (is_numbered call.0) (of_call.Due what) role es kept h
kind_receives records t now role (signal.Over key) es kept asks h = call_receives records t (has_received_it key) (of_call.Ended key) role es kept h

abbrev KindLooks : (one other : CallConfigView) → Role → Kind → Type 0
KindLooks one other role (Opens key invite served registration identities) = LooksUpEqually one other (requested_target invite).uri
KindLooks one other role (OfCall whose x invites) = SignalRedirectsEqually one other role x

kind_lookups : (one other : CallConfigView) (role : Role) (x : Signal) → SignalLooksUpEqually one other role x → KindLooks one other role (kind_of x)
kind_lookups one other role (signal.Arrived key invite served registration identities) l = l
kind_lookups one other role (signal.Request call side key request) l = tt
kind_lookups one other role (signal.Ack call side ack) l = tt
kind_lookups one other role (signal.Cancel call key cancel invite) l = tt
kind_lookups one other role (signal.Answer key response) l = l
kind_lookups one other role (signal.Silent branch method) l = tt
kind_lookups one other role (signal.Due call what) l = tt
kind_lookups one other role (signal.Over key) l = tt

abbrev caller_kind : Kind → Option Identities2
caller_kind (Opens key invite served registration identities) = Some identities
caller_kind (OfCall whose x invites) = None

caller_equal : (x : Signal) → caller_kind (kind_of x) ≡ caller_in x
caller_equal (signal.Arrived key invite served registration identities) = refl
caller_equal (signal.Request call side key request) = refl
caller_equal (signal.Ack call side ack) = refl
caller_equal (signal.Cancel call key cancel invite) = refl
caller_equal (signal.Answer key response) = refl
caller_equal (signal.Silent branch method) = refl
caller_equal (signal.Due call what) = refl
caller_equal (signal.Over key) = refl

abbrev KindCallers : (records : List Sheet) → (j k : Kind) → Type 0
KindCallers records j k = (who second : Identities2) → caller_kind j ≡ Some who → caller_kind k ≡ Some second → AreDecidedEqually records who second

opens_equal : (x : Signal) → opens_kind (kind_of x) ≡ is_opening x
opens_equal (signal.Arrived key invite served registration identities) = refl
opens_equal (signal.Request call side key request) = refl
opens_equal (signal.Ack call side ack) = refl
opens_equal (signal.Cancel call key cancel invite) = refl
opens_equal (signal.Answer key response) = refl
opens_equal (signal.Silent branch method) = refl
opens_equal (signal.Due call what) = refl
opens_equal (signal.Over key) = refl

opens_public : (role : Role) (k : Kind) → opens_kind (public_kind role k) ≡ opens_kind k
opens_public role (Opens key invite served registration identities) = refl
opens_public role (OfCall whose x invites) = refl

kinds_same : (role second : Role) (x y : Signal) → public_signal role x ≡ public_signal second y → public_kind role (kind_of x) ≡ public_kind second (kind_of y)
kinds_same role second x y e = sym (kind_public role x) ∙ (ap kind_of e ∙ kind_public second y)

-- one that opens a call is indistinguishable from one that does
pub opening-same : (role second : Role) (x y : Signal) → public_signal role x ≡ public_signal second y → is_opening x ≡ is_opening y
opening-same role second x y e =
    sym (opens_equal x) ∙ (sym (opens_public role (kind_of x)) ∙ (ap opens_kind (kinds_same role second x y e) ∙ (opens_public second (kind_of y) ∙ opens_equal y)))

-- ---- two tables

module _ (laws : OfCalls) (records : List Sheet) (config far : CallConfigView) (keys : TKey → Bool) (configured : ConfigsAgree records config far) where
  abbrev T : Trust
  T = trust_of config keys

  abbrev known : Peer → Bool
  known = λ peer. trusts config peer

  pub record EquivalentMoves (one other : TableStep) : Type 0 where
    pub entries : EquivalentEntries records known one.entries other.entries
    pub output : EquivalentOutputs T one.output other.output

  owner-same : (w : Owner) (e f : Entry) → EquivalentEntry records known e f → is_owner w e ≡ is_owner w f
  owner-same (Numbered number) e f a = numbered-same laws.determine records known number e f a
  owner-same (Sent branch) e f a = sent-same laws.determine records known branch e f a
  owner-same (Asked key) e f a = received-same laws.determine records known key e f a

  -- the call at an index is replaced by this one, or leaves the table
  put_if : (b c : Bool) (at : ℕ) (es fs : List Entry) → b ≡ c → EquivalentEntries records known es fs → EquivalentEntries records known (cond b (remove es at) es) (cond c (remove fs at) fs)
  put_if true true at es fs same a = remove-equivalent records known es fs a at
  put_if true false at es fs same a = absurd cc
  put_if false true at es fs same a = absurd cc
  put_if false false at es fs same a = a

  put-equivalent : (at : ℕ) (x y : Entry) (es fs : List Entry) → EquivalentEntry records known x y → EquivalentEntries records known es fs → EquivalentEntries records known (put_at at x es) (put_at at y fs)
  put-equivalent at x y es fs b a =
      put_if (is_settled x.call) (is_settled y.call) at (slice_set es at x) (slice_set fs at y) (settled-same laws.determine records known x y b) (set-equivalent records known es fs a at x y b)

  pub step-equivalent : (at : ℕ) (invites : List InviteKey) (e f : Entry) (p q : StepResult) (es fs : List Entry) → EquivalentEntry records known e f → EquivalentEntries records known es fs →
      EquivalentSteps T p q → EquivalentCalls records known p.call q.call → EquivalentMoves (step_of_entry at invites e p es) (step_of_entry at invites f q fs)
  step-equivalent at invites e f p q es fs b a s c = record {
    entries = put-equivalent at (entry_after invites p e) (entry_after invites q f) es fs (record { calls = c; invites = ap (λ (l : List InviteKey). l ++ invites) b.invites }) a;
    output = s.output;
  }

  -- ---- a signal of a call

  module _ (at : ℕ) (view : SheetsInForce) (stand : (busy : List Account) → RecordsCoverSnapshot records (snapshot_at at view busy)) (role second : Role) where
    steps-equivalent : (busy : List Account) (x y : calls.Signal) (e f : Entry) (one other : StepOutput) → public_received role x ≡ public_received second y → SignalRedirectsEqually config far second y →
        EquivalentEntry records known e f → IsReceived records T x role e.call → IsReceived records T y second f.call → EquivalentOutputs T one other →
        EquivalentSteps T (call_step config at view busy x one e) (call_step far at view busy y other f)
        × EquivalentCalls records known (call_step config at view busy x one e).call (call_step far at view busy y other f).call
    unfolding call_step
    steps-equivalent busy x y e f one other said looks b first then d =
        let now : SnapshotView = snapshot_at at view busy in (
          laws.steps records config far keys now x y role second e.call f.call one other configured.equal configured.lead looks (stand busy) b.calls said first then d,
          laws.stay records config far keys now x y role second e.call f.call one other configured.equal configured.lead looks (stand busy) b.calls said first then d,
        )

    at-equivalent : (x y : calls.Signal) (invites : List InviteKey) (place : ℕ) (g h : Option Entry) (es fs : List Entry) (one other : StepOutput) → public_received role x ≡ public_received second y →
        SignalRedirectsEqually config far second y →
        EquivalentAt records known g h → EquivalentEntries records known es fs → ((e : Entry) → g ≡ Some e → IsReceived records T x role e.call) →
        ((f : Entry) → h ≡ Some f → IsReceived records T y second f.call) → EquivalentOutputs T one other →
        EquivalentMoves (step_of_entry_at config at view x invites place g es one) (step_of_entry_at far at view y invites place h fs other)
    at-equivalent x y invites place None None es fs one other said looks b a first then d = record { entries = a; output = d }
    at-equivalent x y invites place None (Some f) es fs one other said looks b a first then d = absurd b
    at-equivalent x y invites place (Some e) None es fs one other said looks b a first then d = absurd b
    at-equivalent x y invites place (Some e) (Some f) es fs one other said looks b a first then d =
        let busy : List Account = busy_beside e.call.opening.number.0 es in
        let same : busy ≡ busy_beside f.call.opening.number.0 fs =
        busy-same laws.determine records known e.call.opening.number.0 es fs a ∙ ap (λ (n : ℕ). busy_beside n fs) (number-same laws.determine records known e f b) in
        let both = steps-equivalent busy x y e f one other said looks b (first e refl) (then f refl) d in
        subst (λ (l : List Account). EquivalentMoves (step_of_entry place invites e (call_step config at view busy x one e) es) (step_of_entry place invites f (call_step far at view l y other f) fs)) same
        (step-equivalent place invites e f (call_step config at view busy x one e) (call_step far at view busy y other f) es fs b a both.0 both.1)

    in-equivalent : (x y : calls.Signal) (invites : List InviteKey) (o : Option ℕ) (es fs : List Entry) (one other : StepOutput) → public_received role x ≡ public_received second y →
        SignalRedirectsEqually config far second y → EquivalentEntries records known es fs →
        ((place : ℕ) (e : Entry) → o ≡ Some place → slice_get es place ≡ Some e → IsReceived records T x role e.call) →
        ((place : ℕ) (f : Entry) → o ≡ Some place → slice_get fs place ≡ Some f → IsReceived records T y second f.call) → EquivalentOutputs T one other →
        EquivalentMoves (step_in config at view x invites o es one) (step_in far at view y invites o fs other)
    in-equivalent x y invites None es fs one other said looks a first then d = record { entries = a; output = d }
    in-equivalent x y invites (Some place) es fs one other said looks a first then d =
        at-equivalent x y invites place (slice_get es place) (slice_get fs place) es fs one other said looks (get-equivalent records known es fs a place) a (λ e is. first place e refl is) (λ f is. then place f refl is) d

    received-equivalent : (w : Owner) (x y : calls.Signal) (invites : List InviteKey) (es fs : List Entry) (one other : StepOutput) → public_received role x ≡ public_received second y →
        SignalRedirectsEqually config far second y → EquivalentEntries records known es fs →
        IsReceivedBy records T (is_owner w) x role es → IsReceivedBy records T (is_owner w) y second fs → EquivalentOutputs T one other →
        EquivalentMoves (step_of_receiver config at view (is_owner w) x invites es one) (step_of_receiver far at view (is_owner w) y invites fs other)
    received-equivalent w x y invites es fs one other said looks a first then d =
        let same : position (is_owner w) es ≡ position (is_owner w) fs = position-same records known (is_owner w) (is_owner w) (λ e f b. owner-same w e f b) es fs a in
        subst (λ (o : Option ℕ). EquivalentMoves (step_in config at view x invites (position (is_owner w) es) es one) (step_in far at view y invites o fs other)) same
        (in-equivalent x y invites (position (is_owner w) es) es fs one other said looks a first (λ place f is got. then place f (sym same ∙ is) got) d)

    -- ---- one that opens a call

    arrives-equivalent : (a b : Arrival) (es fs : List Entry) (one other : StepOutput) → a.number ≡ b.number → a.key ≡ b.key → a.served ≡ b.served →
        public_arrival (snapshot_at at view []) nobody a ≡ public_arrival (snapshot_at at view []) nobody b → IsFromOwnPeer T a.key a.invite → IsFromOwnPeer T b.key b.invite →
        AreDecidedEqually records a.identities b.identities → LooksUpEqually config far (requested_target b.invite).uri → EquivalentEntries records known es fs → EquivalentOutputs T one other →
        EquivalentMoves (step_of_arrival config at view a es one) (step_of_arrival far at view b fs other)
    unfolding opening_step
    arrives-equivalent a b es fs one other number key served same first then callers looks es_alike d =
        let busy : List Account = busy_with a es in
        let with : busy ≡ busy_with b fs =
        ap (λ (l : List Account). option_to_list a.served.origin ++ l) (busy-same laws.determine records known a.number.0 es fs es_alike)
        ∙ ap (λ (z : Arrival). option_to_list z.served.origin ++ busy_beside z.number.0 fs) same in
        let both = laws.openings records config far keys (snapshot_at at view busy) a b one other configured.equal configured.lead looks first then (stand busy) callers same d in
        let p : StepResult = call_after_opening config (snapshot_at at view busy) a one in
        let q : StepResult = call_after_opening far (snapshot_at at view busy) b other in
        let entry : EquivalentEntry records known (entry_for a.key p) (entry_for b.key q) = record { calls = both.1; invites = ap (λ (k : TKey). record { key = k; side = Caller } ∷ []) key } in
        let moved : EquivalentMoves (step_of_opened a.key p es) (step_of_opened b.key q fs) =
        record {
          entries = append-equivalent records known es fs (kept_entry (entry_for a.key p)) (kept_entry (entry_for b.key q)) es_alike
              (kept-equivalent laws.determine records known (entry_for a.key p) (entry_for b.key q) entry);
          output = (both.0).output;
        } in
        subst (λ (l : List Account). EquivalentMoves (step_of_opened a.key p es) (step_of_opened b.key (call_after_opening far (snapshot_at at view l) b other) fs)) with moved

    -- ---- any signal

    kinds-equivalent : (j k : Kind) (number : ℕ) (es fs : List Entry) (one other : StepOutput) → public_kind role j ≡ public_kind second k → KindCallers records j k → KindLooks config far second k →
        EquivalentEntries records known es fs →
        KindReceives records T (snapshot_at at view []) role j es → KindReceives records T (snapshot_at at view []) second k fs → EquivalentOutputs T one other →
        EquivalentMoves (step_kind j config at view number es one) (step_kind k far at view number fs other)
    kinds-equivalent (Opens key invite served registration identities) (Opens key2 invite2 served2 registration2 identities2) number es fs one other same callers looks a first then d =
        let x : Arrival = record { number = record { 0 = number }; key = key; invite = invite; served = served; registration = registration; identities = identities } in
        let y : Arrival = record { number = record { 0 = number }; key = key2; invite = invite2; served = served2; registration = registration2; identities = identities2 } in
        let arrivals : record x { invite = without_private role invite; identities = nobody } ≡ record y { invite = without_private second invite2; identities = nobody } = ap (arrival_in x) same in
        let public : public_arrival (snapshot_at at view []) nobody x ≡ public_arrival (snapshot_at at view []) nobody y =
        ap (λ (r : Role). record x { invite = without_private r invite; identities = nobody }) (sym first.role_is)
        ∙ (arrivals ∙ ap (λ (r : Role). record y { invite = without_private r invite2; identities = nobody }) then.role_is) in
        arrives-equivalent x y es fs one other refl (ap (λ (z : Arrival). z.key) arrivals) (ap (λ (z : Arrival). z.served) arrivals) public first.from_own_peer
        then.from_own_peer (callers identities identities2 refl refl) looks a d
    kinds-equivalent (Opens key invite served registration identities) (OfCall w y invites) number es fs one other same callers looks a first then d = absurd cc
    kinds-equivalent (OfCall w x invites) (Opens key invite served registration identities) number es fs one other same callers looks a first then d = absurd cc
    kinds-equivalent (OfCall v x invites) (OfCall w y invites2) number es fs one other same callers looks a first then d =
        let whose : v ≡ w = ap owner_in same in
        let added : invites ≡ invites2 = ap invites_in same in
        let said : public_received role x ≡ public_received second y = ap (received_in (public_received role x)) same in
        subst (λ (z : Owner). EquivalentMoves (step_of_receiver config at view (is_owner v) x invites es one) (step_of_receiver far at view (is_owner z) y invites2 fs other)) whose
        (subst (λ (l : List InviteKey). EquivalentMoves (step_of_receiver config at view (is_owner v) x invites es one) (step_of_receiver far at view (is_owner v) y l fs other)) added
        (received-equivalent v x y invites es fs one other said looks a first (subst (λ (z : Owner). IsReceivedBy records T (is_owner z) y second fs) (sym whose) then) d))

    signal-equivalent : (x y : Signal) (number : ℕ) (es fs : List Entry) (one other : StepOutput) → public_signal role x ≡ public_signal second y → CallersDecidedEqually records x y →
        SignalLooksUpEqually config far second y → EquivalentEntries records known es fs →
        KindReceives records T (snapshot_at at view []) role (kind_of x) es → KindReceives records T (snapshot_at at view []) second (kind_of y) fs → EquivalentOutputs T one other →
        EquivalentMoves (step_of_signal config at view number x es one) (step_of_signal far at view number y fs other)
    signal-equivalent x y number es fs one other said callers looks a first then d =
        subst (λ (m : TableStep). EquivalentMoves m (step_of_signal far at view number y fs other)) (sym (step_as x config at view number es one))
        (subst (λ (m : TableStep). EquivalentMoves (step_kind (kind_of x) config at view number es one) m) (sym (step_as y far at view number fs other))
        (kinds-equivalent (kind_of x) (kind_of y) number es fs one other (kinds_same role second x y said)
        (λ who whose e f. callers who whose (sym (caller_equal x) ∙ e) (sym (caller_equal y) ∙ f)) (kind_lookups config far second y looks) a first then d))

  pub same_output : (output : StepOutput) → EquivalentOutputs T output output
  same_output output = record { tokens = refl; rows = refl; out = refl }

  -- the other signal, as if it were received at the moment of the first
  abbrev beside : ReceivedWithRole → ReceivedWithRole → ReceivedSignal
  beside one other = record other.received { at = one.received.at; view = one.received.view; tokens = one.received.tokens }

  beside_same : (one other : ReceivedWithRole) → one.received.at ≡ other.received.at → one.received.view ≡ other.received.view → one.received.tokens ≡ other.received.tokens → beside one other ≡ other.received
  beside_same one other at view tokens =
      ap (λ (n : ℕ). record other.received { at = n; view = one.received.view; tokens = one.received.tokens }) at
      ∙ (ap (λ (v : SheetsInForce). record other.received { view = v; tokens = one.received.tokens }) view
      ∙ ap (λ (d : TokensView). record other.received { tokens = d }) tokens)

  pub signals-alike : (one other : ReceivedWithRole) (t u : Table) → TablesCorrespond records config keys t u → ReceiveEquivalent records config far keys one other t u →
      EquivalentMoves (step_on_receive config one.received t) (step_on_receive far other.received u)
  signals-alike one other t u a receive =
      let x : ReceivedSignal = one.received in
      let same : beside one other ≡ other.received = beside_same one other receive.at receive.view receive.tokens in
      let second : TableMayReceive T (snapshot_at x.at x.view []) other.role other.received.signal u.entries =
      subst (λ (h : ReceivedSignal). TableMayReceive T (snapshot_at h.at h.view []) other.role other.received.signal u.entries) (sym same) receive.second in
      let first : KindReceives records T (snapshot_at x.at x.view []) one.role (kind_of x.signal) t.entries =
      kind_receives records T (snapshot_at x.at x.view []) one.role x.signal t.entries a.one receive.first_peer receive.first in
      let then : KindReceives records T (snapshot_at x.at x.view []) other.role (kind_of other.received.signal) u.entries =
      kind_receives records T (snapshot_at x.at x.view []) other.role other.received.signal u.entries a.other receive.second_peer second in
      subst (λ (h : ReceivedSignal). EquivalentMoves (step_on_receive config x t) (step_on_receive far h u)) same
      (subst (λ (n : ℕ). EquivalentMoves (step_on_receive config x t) (step_of_signal far x.at x.view (next_number n) other.received.signal u.entries (empty_output x.tokens))) a.equivalent.opened
      (signal-equivalent x.at x.view receive.covered one.role other.role x.signal other.received.signal (next_number t.opened) t.entries u.entries (empty_output x.tokens) (empty_output x.tokens)
      receive.signals receive.callers receive.lookups a.equivalent.entries first then (same_output (empty_output x.tokens))))

  -- ---- the table after a step of its calls

  pub with-alike : (p q : TableStep) (n m : ℕ) (t u : Table) → n ≡ m → EquivalentMoves p q → EquivalentTables records known t u → EquivalentTables records known (with_step p n t) (with_step q m u)
  with-alike p q n m t u same moves a = record {
    entries = moves.entries;
    opened = same;
    rows = ap (λ (l : List Row). l ++ p.output.rows) a.rows ∙ ap (λ (l : List Row). u.rows ++ l) moves.output.rows;
  }

  opened_same : (one other : ReceivedWithRole) (t u : Table) → public_signal one.role one.received.signal ≡ public_signal other.role other.received.signal → t.opened ≡ u.opened →
      opened_after one.received.signal t.opened ≡ opened_after other.received.signal u.opened
  opened_same one other t u said e =
      ap (λ (b : Bool). cond b (next_number t.opened) t.opened) (opening-same one.role other.role one.received.signal other.received.signal said)
      ∙ ap (λ (n : ℕ). cond (is_opening other.received.signal) (next_number n) n) e

  pub receiving-alike : (one other : ReceivedWithRole) (t u : Table) → TablesCorrespond records config keys t u → ReceiveEquivalent records config far keys one other t u →
      EquivalentTables records known (with_step (step_on_receive config one.received t) (opened_after one.received.signal t.opened) t)
      (with_step (step_on_receive far other.received u) (opened_after other.received.signal u.opened) u)
  receiving-alike one other t u a receive =
      with-alike (step_on_receive config one.received t) (step_on_receive far other.received u) (opened_after one.received.signal t.opened) (opened_after other.received.signal u.opened) t u
      (opened_same one other t u receive.signals a.equivalent.opened) (signals-alike one other t u a receive) a.equivalent
