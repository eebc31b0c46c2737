-- Parts of one more target.
use Rattle.std.proofs.Common.{◌≡◌, ℕ, suc, ◌+◌, List, [], ◌∷◌, ◌++◌, length, map, refl, ap, sym, ◌∙◌, append_assoc, arith}
use Rattle.std.proofs.lemmas.List.{append-nil, map-append}
use Rattle.std.specs.Prelude.{Option, Some, None, option_to_list}
use Rattle.mmtel_charging.specs.Meters.{MeterView, row_of_meter}
use Rattle.mmtel_charging.specs.declared.rows.Kind.TheVariants.{Origin, Terminating, Diversion, Participant}
use Rattle.mmtel_charging.specs.declared.rows.Kind.{Kind}
use Rattle.mmtel_precedence.specs.Calls as precedence
use Rattle.mmtel_precedence.specs.Calls.{OutcomeTarget}
use Rattle.mmtel_precedence.specs.Targets.{reached_target_after, served_at}
use Rattle.mmtel_precedence.specs.NextSteps.{sheet_of}
use Rattle.mmtel_types.specs.declared.numbers.Account.{Account}
use Rattle.mmtel_types.specs.declared.numbers.CallNo.{CallNo}
use Rattle.mmtel_call_services.specs.ChargingRecords.{charging_records, last_charging_record, past_answer, past_charging_record, with_answer}
use Rattle.mmtel_call_services.specs.declared.charging_records.Ending.{Ending}
use Rattle.mmtel_call_theorems.specs.Charging.{diverting_part, last_part, past_parts, served_part}
use Rattle.mmtel_call_theorems.specs.Outcomes.{last_record}

-- the account that is served at the last target, or else this one
abbrev pub last_served : precedence.CallInputs → (before : Option Account) → List OutcomeTarget → Option Account
last_served call before [] = before
last_served call before (target ∷ later) = last_served call (served_at call target.diversion target.uri) later

-- the part of the account that diverts to the target which is reached after m diversions
abbrev pub diverting : precedence.CallInputs → CallNo → (m : ℕ) → Option Account → List MeterView
diverting call number m account = option_to_list (diverting_part call number m account)

-- all parts
abbrev pub all_parts : precedence.CallInputs → CallNo → (k : ℕ) → Option Account → List OutcomeTarget → List MeterView
all_parts call number k before targets = past_parts call number k before targets ++ option_to_list (last_part call number k targets)

-- one more target: what began before is past, and the account that was served last diverts
pub past_parts-more : (call : precedence.CallInputs) (number : CallNo) (k m : ℕ) (before : Option Account) (targets : List OutcomeTarget) (target : OutcomeTarget) → m ≡ k + length targets →
    past_parts call number k before (targets ++ target ∷ []) ≡ all_parts call number k before targets ++ diverting call number m (last_served call before targets)
past_parts-more call number k m before [] target e =
    let same : m ≡ k = omega arith in ap (λ i. diverting call number i before) (sym same)
past_parts-more call number k m before (one ∷ []) target e =
    let same : m ≡ suc k = omega arith in
    ap (λ i. diverting call number k before ++ option_to_list (served_part call number k one) ++ diverting call number i (served_at call one.diversion one.uri)) (sym same)
past_parts-more call number k m before (one ∷ two ∷ later) target e =
    let same : m ≡ suc k + length (two ∷ later) = omega arith in
    let served = served_at call one.diversion one.uri in
    ap (λ l. diverting call number k before ++ option_to_list (served_part call number k one) ++ l) (past_parts-more call number (suc k) m served (two ∷ later) target same)
    ∙ simp append_assoc

pub last_part-more : (call : precedence.CallInputs) (number : CallNo) (k m : ℕ) (targets : List OutcomeTarget) (target : OutcomeTarget) → m ≡ k + length targets →
    last_part call number k (targets ++ target ∷ []) ≡ served_part call number m target
last_part-more call number k m [] target e =
    let same : m ≡ k = omega arith in ap (λ i. served_part call number i target) (sym same)
last_part-more call number k m (one ∷ []) target e =
    let same : m ≡ suc k = omega arith in ap (λ i. served_part call number i target) (sym same)
last_part-more call number k m (one ∷ two ∷ later) target e =
    let same : m ≡ suc k + length (two ∷ later) = omega arith in
    last_part-more call number (suc k) m (two ∷ later) target same

pub last_record-more : (call : precedence.CallInputs) (k m : ℕ) (targets : List OutcomeTarget) (target : OutcomeTarget) → m ≡ k + length targets →
    last_record call k (targets ++ target ∷ []) ≡ sheet_of (reached_target_after call m target.uri target.diversion)
last_record-more call k m [] target e =
    let same : m ≡ k = omega arith in ap (λ i. sheet_of (reached_target_after call i target.uri target.diversion)) (sym same)
last_record-more call k m (one ∷ []) target e =
    let same : m ≡ suc k = omega arith in ap (λ i. sheet_of (reached_target_after call i target.uri target.diversion)) (sym same)
last_record-more call k m (one ∷ two ∷ later) target e =
    let same : m ≡ suc k + length (two ∷ later) = omega arith in
    last_record-more call (suc k) m (two ∷ later) target same

pub last_served-more : (call : precedence.CallInputs) (before : Option Account) (targets : List OutcomeTarget) (target : OutcomeTarget) →
    last_served call before (targets ++ target ∷ []) ≡ served_at call target.diversion target.uri
last_served-more call before [] target = refl
last_served-more call before (one ∷ later) target = last_served-more call (served_at call one.diversion one.uri) later target

-- ---- CDRs of a call that was not answered: each part has a CDR of the same kind

-- without an answer there is no moment of the answer
unanswered : (kind : Kind) → past_answer kind None ≡ None
unanswered Origin = refl
unanswered Terminating = refl
unanswered Diversion = refl
unanswered Participant = refl

row-same : (end : Ending) (meter : MeterView) → end.answered ≡ None → last_charging_record end meter ≡ past_charging_record end meter
unfolding last_charging_record past_charging_record
row-same end meter e =
    ap (λ a. row_of_meter (with_answer a meter) end.at end.holds end.cause) (e ∙ sym (unanswered meter.kind) ∙ ap (past_answer meter.kind) (sym e))

rows-last : (end : Ending) (last : Option MeterView) → end.answered ≡ None → map (last_charging_record end) (option_to_list last) ≡ map (past_charging_record end) (option_to_list last)
rows-last end None e = refl
rows-last end (Some meter) e = ap (λ row. row ∷ []) (row-same end meter e)

-- so the last one may be among the others
pub rows-unanswered : (end : Ending) (past : List MeterView) (first last : Option MeterView) → end.answered ≡ None →
    charging_records end (past ++ option_to_list last) first None ≡ charging_records end past first last
rows-unanswered end past first last e =
    let front = map (past_charging_record end) (option_to_list first) in
    append-nil (front ++ map (past_charging_record end) (past ++ option_to_list last))
    ∙ ap (λ l. front ++ l) (map-append (past_charging_record end) past (option_to_list last))
    ∙ sym (append_assoc front (map (past_charging_record end) past) (map (past_charging_record end) (option_to_list last)))
    ∙ ap (λ l. front ++ map (past_charging_record end) past ++ l) (sym (rows-last end last e))
