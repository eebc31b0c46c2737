-- What the opening of a call uses of the INVITE: its public part.
use Rattle.std.specs.Prelude.{◌≡◌, Bool, List}
use Rattle.mmtel_output.specs.declared.outputs.StepOutput.{StepOutput}
use Rattle.mmtel_identity.specs.Restriction.{is_caller_restricted}
use Rattle.mmtel_precedence.specs.Calls.{SnapshotView}
use Rattle.mmtel_rules.specs.declared.values.Identities2.{Identities2}
use Rattle.mmtel_sheet_values.specs.declared.values.Sheet.{Sheet}
use Rattle.mmtel_transaction.specs.declared.words.TKey.{TKey}
use Rattle.mmtel_call_services.specs.Opening.{origin_sheet}
use Rattle.mmtel_call_services.specs.CallConfig.{CallConfigView, trusts}
use Rattle.mmtel_call_services.specs.declared.openings.Arrival.{Arrival}
use Rattle.mmtel_call.specs.Opening.{call_after_opening}
use Rattle.mmtel_call_theorems.specs.Noninterference.EquivalentCalls.{EquivalentCalls}
use Rattle.mmtel_call_theorems.specs.Noninterference.PublicCall.{nobody}
use Rattle.mmtel_call_theorems.specs.Noninterference.Premises.{AreDecidedEqually, IsFromOwnPeer, RecordsCoverSnapshot}
use Rattle.mmtel_call_theorems.specs.Noninterference.Roles.{opening_role, without_private}
use Rattle.mmtel_call_theorems.specs.Noninterference.Observations.{EquivalentOutputs, EquivalentSteps, trust_of}

-- ---- the opening (RFC 3261 §12.1.1, RFC 3323 §4.2, RFC 5502 §4)

-- the INVITE that arrives without its private places, with these identities in the place of the caller's
abbrev pub public_arrival : SnapshotView → Identities2 → Arrival → Arrival
public_arrival now who a = record a { invite = without_private (opening_role (is_caller_restricted a.invite.parsed.wants (origin_sheet now a.served))) a.invite; identities = who }

-- the 100, the 181s, the offer or the refusal, and the call that opens
abbrev pub OpeningsSeePublicParts : Type 0
OpeningsSeePublicParts = (records : List Sheet) (config : CallConfigView) (keys : TKey → Bool) (now : SnapshotView) (who : Identities2) (a : Arrival) (one other : StepOutput) →
    IsFromOwnPeer (trust_of config keys) a.key a.invite → AreDecidedEqually records who a.identities → RecordsCoverSnapshot records now →
    EquivalentOutputs (trust_of config keys) one other →
    EquivalentSteps (trust_of config keys) (call_after_opening config now (public_arrival now who a) one) (call_after_opening config now a other)

-- two INVITEs that are the same but for private places, of callers on whom the same is decided, open indistinguishable calls
abbrev pub OpeningsAreEquivalent : Type 0
OpeningsAreEquivalent = (records : List Sheet) (config : CallConfigView) (keys : TKey → Bool) (now : SnapshotView) (a b : Arrival) (one other : StepOutput) →
    IsFromOwnPeer (trust_of config keys) a.key a.invite → IsFromOwnPeer (trust_of config keys) b.key b.invite →
    RecordsCoverSnapshot records now → AreDecidedEqually records a.identities b.identities →
    public_arrival now nobody a ≡ public_arrival now nobody b → EquivalentOutputs (trust_of config keys) one other →
    EquivalentSteps (trust_of config keys) (call_after_opening config now a one) (call_after_opening config now b other)

-- they are indistinguishable: on the callers that are recorded in them the same is decided
abbrev pub OpeningsGiveEquivalentCalls : Type 0
OpeningsGiveEquivalentCalls = (records : List Sheet) (config : CallConfigView) (keys : TKey → Bool) (now : SnapshotView) (a b : Arrival) (one other : StepOutput) →
    IsFromOwnPeer (trust_of config keys) a.key a.invite → IsFromOwnPeer (trust_of config keys) b.key b.invite →
    RecordsCoverSnapshot records now → AreDecidedEqually records a.identities b.identities →
    public_arrival now nobody a ≡ public_arrival now nobody b → EquivalentOutputs (trust_of config keys) one other →
    EquivalentCalls records (trusts config) (call_after_opening config now a one).call (call_after_opening config now b other).call
