-- A call that reaches a target, or that is diverted, makes the moves of the precedence of services.
use Rattle.std.proofs.Common.{◌==◌, append_assoc, ◌≡◌, ℕ, zero, suc, ◌+◌, ◌-◌, ◌≤◌, ◌<◌, Bool, true, List, [], ◌∷◌, ◌++◌, length, refl, ap, sym, subst, ◌∙◌, arith}
use Rattle.std.proofs.lemmas.Bool.Decides.{nat_tests}
use Rattle.std.proofs.lemmas.List.{append-nil, length-append}
use Rattle.std.proofs.lemmas.List.Sums.{sum_by_push}
use Rattle.std.specs.Prelude.{Option, Some, None, count_by, nat_lt, option_to_list}
use Rattle.std.specs.Option.{option_map}
use Rattle.mmtel_charging.specs.declared.rows.Row.{Row}
use Rattle.mmtel_charging.specs.declared.rows.Kind.TheVariants.{Diversion, Terminating}
use Rattle.mmtel_output.specs.declared.outputs.StepOutput.{StepOutput}
use Rattle.mmtel_leg.specs.Legs.{Leg}
use Rattle.mmtel_lex.specs.declared.values.Uri.{Uri}
use Rattle.mmtel_precedence.specs.Calls as precedence
use Rattle.mmtel_precedence.specs.Calls.{Final, NotOffered, OfferState, Offered, ReachedTargetView, SnapshotView, snapshot_after}
use Rattle.mmtel_precedence.specs.Theorems.{is_diverted_to}
use Rattle.mmtel_precedence.specs.Moves as moves
use Rattle.mmtel_precedence.specs.Moves.{CallState, Reaching, account_at, move_in, state_on_reaching, state_unless_refused, with_phase, with_target}
use Rattle.mmtel_precedence.specs.Services.{DueDiversionView}
use Rattle.mmtel_precedence.specs.Targets as targets
use Rattle.mmtel_precedence.specs.Targets.{is_by_number, reached_target_after}
use Rattle.mmtel_precedence.specs.NextSteps as turns
use Rattle.mmtel_precedence.specs.NextSteps.{NextStepView, NextStepsAreMoves, StepDivert, StepOffer, StepRefuse, next_step_at, state_after_step}
use Rattle.mmtel_precedence.specs.Verdicts.{too_many}
use Rattle.mmtel_rules.specs.Facts.{FactsView}
use Rattle.mmtel_served_user.specs.declared.targets.Target.{Target}
use Rattle.mmtel_types.specs.declared.causes.Cause.{Cause}
use Rattle.mmtel_types.specs.declared.numbers.Peer.{Peer}
use Rattle.mmtel_call_services.specs.Decisions as decisions
use Rattle.mmtel_call_services.specs.Decisions.{decision_at, destination_of, diversion_target, peer_for, reached_target, service_at, service_sheet}
use Rattle.mmtel_call_services.specs.ChargingRecords.{cause_by, charging_records}
use Rattle.mmtel_call_services.specs.CopiedHeaders.{attempt_lines, copied_lines}
use Rattle.mmtel_call_services.specs.CallConfig.{CallConfigView}
use Rattle.mmtel_call_services.specs.declared.openings.Opening.{Opening}
use Rattle.mmtel_call_services.specs.declared.openings.Service.{Service}
use Rattle.mmtel_call_services.specs.declared.charging_records.Ending.{Ending}
use Rattle.mmtel_call.specs.Closing.{StepResult, account_in, call_end, meter_for, new_meter}
use Rattle.mmtel_call.specs.Diverting.{at_target, divert, call_after_diversion, is_diverted, diversion_step, on_next_step}
use Rattle.mmtel_call.specs.Diverting.{diversion_unless_refused, with_unoffered_meter, diversion_refusal, call_refusal, with_notification_of}
use Rattle.mmtel_call.specs.Sending.{with_diversion_notification, with_relay_to_caller, with_status_to_caller}
use Rattle.mmtel_types.specs.Causes.{status_of}
use Rattle.mmtel_call.specs.declared.calls.Call.{Call}
use Rattle.mmtel_call_theorems.specs.Charging.{charging_records_of_parts, last_part, origin_part, past_parts}
use Rattle.mmtel_call_theorems.specs.Labels.{Invited, Label, final_label, label_if, label_of_result, labels_of, labels_of_targets, request_uri_at}
use Rattle.mmtel_call_theorems.proofs.Labels.{Quiet, labels-more, quiet, quiet-if, quiet-provisional, shows-reply}
use Rattle.mmtel_compose.specs.Attempts.{invite_of}
use Rattle.mmtel_output.specs.Outputs.{after_draw, token}
use Rattle.mmtel_output.specs.Sending.{attempt_dialog}
use Rattle.mmtel_transaction.specs.declared.words.DueWord.TheVariants as due
use Rattle.mmtel_transaction.specs.declared.words.Emit.{Emit}
use Rattle.mmtel_transaction.specs.declared.words.Emit.TheVariants as emit
use Rattle.mmtel_types.specs.declared.sides.Side.TheVariants.{Callee}
use Rattle.mmtel_compose.specs.Responses.{relayed_reply}
use Rattle.mmtel_compose.specs.ReceivedMessages.{MessageView, status_of as status_in}
use Rattle.mmtel_message.specs.Addresses.{contact_text}
use Rattle.mmtel_call.specs.AttemptStarts.{max_attempt_time, next_attempt, with_attempt}
use Rattle.mmtel_call_theorems.specs.Outcomes.{call_inputs_of, last_record, received_diversions, result_if_answered}
use Rattle.mmtel_call_theorems.proofs.OutcomeAgreement.{Comes, Ends, IsReady, Rings, by-answer, total}
use Rattle.mmtel_call_theorems.proofs.DiversionBound.{divert-leaves, target-leaves}
use Rattle.mmtel_call_theorems.proofs.CallInputs.{IsKnown, cause_of, none-left, of_caller-known, reach_of-known, refusal-known, served-known, sheet-known, target_uri}
use Rattle.mmtel_call_theorems.proofs.Parts.{all_parts, last_part-more, last_record-more, last_served, last_served-more, past_parts-more, rows-unanswered}

-- ---- what is observed

pub same-number : (n : ℕ) → (n == n) ≡ true
same-number n = grind (arith, nat_tests)

-- a final response of the server's own
pub status-labels : (config : CallConfigView) (c : Call) (code : ℕ) (output : StepOutput) →
    labels_of c.opening.key (with_status_to_caller config c code output).out ≡ labels_of c.opening.key output.out ++ final_label code
status-labels config c code output = shows-reply c.opening.key _ _ _ output (same-number c.opening.key.0)

-- one that was received
pub relayed-shown : (config : CallConfigView) (c : Call) (service : Option Service) (m : MessageView) (output : StepOutput) →
    labels_of c.opening.key (with_relay_to_caller config c service m output).out ≡ labels_of c.opening.key output.out ++ final_label (status_in m.parsed.start)
relayed-shown config c service m output =
    shows-reply c.opening.key c.opening.invite.parsed.start c.opening.invite.parsed.lines
    (relayed_reply (contact_text config.sip) c.opening.invite.source c.opening.tag (copied_lines config c.opening c.diversions service Callee c.opening.invite.peer m) m.parsed) output (same-number c.opening.key.0)

destination-uri : (o : Opening) (peer : Peer) (by : Option DueDiversionView) (target : Target) → (destination_of o peer (cause_of by) target).uri ≡ request_uri_at o by target.uri
destination-uri o peer None target = refl
destination-uri o peer (Some due) target = refl

-- the INVITE of an attempt
offer-labels : (config : CallConfigView) (at : ℕ) (service : Option Service) (waiting : Bool) (peer : Peer) (by : Option DueDiversionView) (target : Target) (c : Call) (output : StepOutput) →
    labels_of c.opening.key (with_attempt config at service waiting (destination_of c.opening peer (cause_of by) target) c output).out
    ≡ labels_of c.opening.key output.out ++ Invited (request_uri_at c.opening by target.uri) ∷ []
offer-labels config at service waiting peer by target c output =
    let destination = destination_of c.opening peer (cause_of by) target in
    let ask : Emit = emit.Ask destination.peer (invite_of (attempt_dialog destination c.opening.invite.parsed c.opening.restricted output) config.sip (token (after_draw (after_draw output)))
    (attempt_lines config c.opening c.diversions service destination.peer) waiting c.opening.invite.parsed) in
    let arm : Emit = emit.Arm c.opening.number (due.Cap (next_attempt c)) (at + max_attempt_time) in
    labels-more c.opening.key (output.out ++ ask ∷ []) arm
    ∙ append-nil (labels_of c.opening.key (output.out ++ ask ∷ []))
    ∙ labels-more c.opening.key output.out ask
    ∙ ap (λ uri. labels_of c.opening.key output.out ++ Invited uri ∷ []) (destination-uri c.opening peer by target)

-- a target that was reached, and to which the call was not offered
reached-before : (config : CallConfigView) (first : SnapshotView) (o : Opening) (later : ℕ → SnapshotView) (P : Type 0) (before : List precedence.OutcomeTarget) (target : precedence.OutcomeTarget)
    (kept : CallState) (rows : List Row) (old : List Label) (s : StepResult) (at : ℕ) → target.offer ≡ NotOffered →
    Comes config first o later P (before ++ target ∷ []) kept rows old s at → Comes config first o later P before kept rows old s at
reached-before config first o later P before target kept rows old s at none (n, filed, same, agrees, (new, targets, shown)) = (
  n,
  filed,
  same,
  agrees,
  (
    target ∷ new,
    targets ∙ append_assoc before (target ∷ []) new,
    λ p. shown p ∙ ap (λ offer. old
        ++ (label_if offer (request_uri_at o target.diversion target.uri) ++ labels_of_targets o new ++ label_of_result (moves.result_in (moves.moves n (call_inputs_of config first o later) kept).phase))) (sym none),
  ),
)

-- ---- a call that is refused

pub unanswered : (answered : Option ℕ) (cause : Cause) → answered ≡ None → result_if_answered answered (Final (cause_by answered cause)) ≡ Final cause
unanswered None cause e = refl
unanswered (Some at) cause e = absurd cc

-- with this cause, where nothing was filed before in this output
pub refused-comes : (config : CallConfigView) (first : SnapshotView) (later : ℕ → SnapshotView) (at : ℕ) (caller : Leg) (cause : Cause) (c : Call) (output : StepOutput) (rows : List Row) (P : Type 0)
    (old : List Label) (kept : CallState) →
    IsReady config first later caller c kept → output.rows ≡ rows → (P → labels_of c.opening.key output.out ≡ old ++ final_label (status_of cause)) →
    Comes config first c.opening later P kept.targets (with_phase kept (moves.Over (Final cause))) rows old (call_end at cause caller.meter None c output) at
unfolding moves.moves
refused-comes config first later at caller cause c output rows P old kept ready same shown =
    let call = call_inputs_of config first c.opening later in
    let number = c.opening.number in
    let end : Ending = record { answered = c.answered; at = at; holds = c.hold.holds; cause = cause_by c.answered cause } in
    let past = past_parts call number 0 None kept.targets in
    let last = last_part call number 0 kept.targets in
    let filed : charging_records end c.past caller.meter None ≡ charging_records_of_parts end call number kept.targets =
    ap (λ p. charging_records end p caller.meter None) ready.past ∙ ap (λ f. charging_records end (past ++ option_to_list last) f None) ready.origin
    ∙ rows-unanswered end past (origin_part call number) last ready.answered in (
      0,
      charging_records_of_parts end call number kept.targets,
      ap (λ l. l ++ charging_records end c.past caller.meter None) same ∙ ap (λ l. rows ++ l) filed,
      record {
        opening = refl;
        remaining = ready.remaining;
        count = ready.count;
        made = ready.made;
        empty = ready.empty;
        place = Ends (cause_by c.answered cause) (record {
          phase = refl;
          over = ap moves.Over (sym (unanswered c.answered cause ready.answered));
          why = by-answer c.answered cause;
          past = refl;
          rows = refl;
        });
      },
      ([], sym (append-nil kept.targets), shown),
    )

-- ---- a diversion that is due

-- the states at the targets that are reached from here on, as far as this step goes
abbrev pub SnapshotsFrom : CallConfigView → SnapshotView → Opening → (ℕ → SnapshotView) → CallState → StepResult → Type 0
SnapshotsFrom config now o later kept s = (j : ℕ) → kept.done ≤ j → j < total config o - s.call.diversions.remaining → later j ≡ now

-- the account that diverts
pub record IsDiverting (config : CallConfigView) (first : SnapshotView) (later : ℕ → SnapshotView) (c : Call) (kept : CallState) (service : Option Service) (reach : ReachedTargetView) : Type 0 where
  pub sheet : turns.sheet_of reach ≡ service_sheet service
  pub served : last_served (call_inputs_of config first c.opening later) None kept.targets ≡ option_map account_in service
  pub reached : length kept.targets ≡ suc kept.done

-- the result of a diversion that is due where this many are left
abbrev pub DivertComes : ℕ → CallConfigView → SnapshotView → SnapshotView → (ℕ → SnapshotView) → Leg → Type 0 → Type 0
DivertComes left config now first later caller P =
    (service : Option Service) (reach : ReachedTargetView) (due : DueDiversionView) (c : Call) (output : StepOutput) (rows : List Row) (old : List Label) (kept : CallState) →
    IsKnown first c.opening → IsReady config first later caller c kept → IsDiverting config first later c kept service reach → c.diversions.remaining ≡ left → output.rows ≡ rows →
    (P → labels_of c.opening.key output.out ≡ old) →
    SnapshotsFrom config now c.opening later kept (divert left config now caller service due c output) →
    Comes config first c.opening later P kept.targets (moves.state_after_diversion (call_inputs_of config first c.opening later) kept (account_at reach) now.at due) rows old
    (divert left config now caller service due c output) now.at

-- ---- at a target

abbrev pub target_as : Uri → Option DueDiversionView → OfferState → precedence.OutcomeTarget
target_as uri by offer = record { uri = uri; diversion = by; offer = offer }

pub record IsComing (config : CallConfigView) (now first : SnapshotView) (later : ℕ → SnapshotView) (caller : Leg) (c : Call) (kept : CallState) (by : Option DueDiversionView) (target : Target) : Type 0 where
  pub answered : c.answered ≡ None
  pub remaining : c.diversions.remaining + kept.done ≡ total config c.opening
  pub count : c.diversions.count ≡ received_diversions c.opening + kept.done
  pub made : (offer : OfferState) → count_by is_diverted_to (kept.targets ++ target_as target.uri by offer ∷ []) ≡ kept.done
  pub reached : length kept.targets ≡ kept.done
  pub empty : kept.endings ≡ []
  pub origin : caller.meter ≡ origin_part (call_inputs_of config first c.opening later) c.opening.number
  pub past : (offer : OfferState) → c.past ≡ past_parts (call_inputs_of config first c.opening later) c.opening.number 0 None (kept.targets ++ target_as target.uri by offer ∷ [])
  pub snapshots : snapshot_after (call_inputs_of config first c.opening later) kept.done ≡ now
  pub number : target.of_number ≡ is_by_number by

-- the meter of the account that is served there is its part
served-part : (config : CallConfigView) (now first : SnapshotView) (later : ℕ → SnapshotView) (caller : Leg) (c : Call) (kept : CallState) (by : Option DueDiversionView) (target : Target) (offer : OfferState) →
    IsComing config now first later caller c kept by target →
    meter_for Terminating c now.at (service_at config now c.opening (cause_of by) target) ≡ last_part (call_inputs_of config first c.opening later) c.opening.number 0 (kept.targets ++ target_as target.uri by offer ∷ [])
served-part config now first later caller c kept by target offer coming =
    let call = call_inputs_of config first c.opening later in
    let place : kept.done ≡ 0 + length kept.targets = let e = coming.reached in omega arith in
    ap (option_map (new_meter Terminating c.opening.number now.at)) (served-known config now first c.opening later by target)
    ∙ ap (λ (standing : SnapshotView). option_map (new_meter Terminating c.opening.number standing.at) (targets.served_at call by target.uri)) (sym coming.snapshots)
    ∙ sym (last_part-more call c.opening.number 0 kept.done kept.targets (target_as target.uri by offer) place)

-- after it was reached, and is not offered the call
passed-ready : (config : CallConfigView) (now first : SnapshotView) (later : ℕ → SnapshotView) (caller : Leg) (c : Call) (kept : CallState) (by : Option DueDiversionView) (target : Target) →
    IsComing config now first later caller c kept by target →
    IsReady config first later caller (with_unoffered_meter now.at (service_at config now c.opening (cause_of by) target) c) (with_target kept target.uri by NotOffered)
passed-ready config now first later caller c kept by target coming = record {
  answered = coming.answered;
  remaining = coming.remaining;
  count = coming.count;
  made = coming.made NotOffered;
  empty = coming.empty;
  origin = coming.origin;
  past =
      ap (λ past. past ++ option_to_list (meter_for Terminating c now.at (service_at config now c.opening (cause_of by) target))) (coming.past NotOffered)
      ∙ ap (λ last. past_parts (call_inputs_of config first c.opening later) c.opening.number 0 None (kept.targets ++ target_as target.uri by NotOffered ∷ []) ++ option_to_list last)
      (served-part config now first later caller c kept by target NotOffered coming);
}

more-length : {A : Type 0} (items : List A) (item : A) (n : ℕ) → length items ≡ n → length (items ++ item ∷ []) ≡ suc n
more-length items item n e = omega (arith, length-append items (item ∷ []))

served-last : (config : CallConfigView) (now first : SnapshotView) (later : ℕ → SnapshotView) (c : Call) (kept : CallState) (by : Option DueDiversionView) (target : Target) (offer : OfferState) →
    last_served (call_inputs_of config first c.opening later) None (kept.targets ++ target_as target.uri by offer ∷ []) ≡ option_map account_in (service_at config now c.opening (cause_of by) target)
served-last config now first later c kept by target offer =
    last_served-more (call_inputs_of config first c.opening later) None kept.targets (target_as target.uri by offer) ∙ sym (served-known config now first c.opening later by target)

-- the record of the account that is served there
record-last : (config : CallConfigView) (now first : SnapshotView) (later : ℕ → SnapshotView) (caller : Leg) (c : Call) (kept : CallState) (by : Option DueDiversionView) (target : Target) (offer : OfferState) →
    IsComing config now first later caller c kept by target →
    service_sheet (service_at config now c.opening (cause_of by) target) ≡ last_record (call_inputs_of config first c.opening later) 0 (kept.targets ++ target_as target.uri by offer ∷ [])
record-last config now first later caller c kept by target offer coming =
    let call = call_inputs_of config first c.opening later in
    let service = service_at config now c.opening (cause_of by) target in
    let place : kept.done ≡ 0 + length kept.targets = let e = coming.reached in omega arith in
    sym (sheet-known config now c.opening (cause_of by) target service (peer_for config c.opening target))
    ∙ ap turns.sheet_of (sym (reach_of-known config now first c.opening later kept.done by target coming.number coming.snapshots))
    ∙ sym (last_record-more call 0 kept.done kept.targets (target_as target.uri by offer) place)

-- by what is done there
next-step-comes : (left : ℕ) (config : CallConfigView) (now first : SnapshotView) (later : ℕ → SnapshotView) (caller : Leg) → (P : Type 0) → DivertComes left config now first later caller P →
    (reach : ReachedTargetView) (by : Option DueDiversionView) (target : Target) (turn : NextStepView) (c : Call) (output : StepOutput) (rows : List Row) (old : List Label) (kept : CallState) →
    IsKnown first c.opening → IsComing config now first later caller c kept by target → turns.sheet_of reach ≡ service_sheet (service_at config now c.opening (cause_of by) target) →
    c.diversions.remaining ≡ left → output.rows ≡ rows → (P → labels_of c.opening.key output.out ≡ old) →
    SnapshotsFrom config now c.opening later kept (on_next_step (divert left config now caller) config now.at caller (service_at config now c.opening (cause_of by) target) (cause_of by) target turn c output) →
    Comes config first c.opening later P kept.targets (state_after_step (call_inputs_of config first c.opening later) (account_at reach) now.at kept target.uri by turn) rows old
    (on_next_step (divert left config now caller) config now.at caller (service_at config now c.opening (cause_of by) target) (cause_of by) target turn c output) now.at
unfolding moves.moves
next-step-comes left config now first later caller P goes reach by target (StepOffer peer waiting) c output rows old kept known coming sheet few same shown stands =
    let service = service_at config now c.opening (cause_of by) target in (
      0,
      [],
      same ∙ sym (append-nil rows),
      record {
        opening = refl;
        remaining = coming.remaining;
        count = coming.count;
        made = coming.made (Offered waiting);
        empty = coming.empty;
        place = Rings _ reach (record {
          phase = refl;
          rings = refl;
          sheet = sheet;
          record_of = record-last config now first later caller c kept by target (Offered waiting) coming;
          answered = coming.answered;
          origin = coming.origin;
          past = coming.past (Offered waiting);
          last = served-part config now first later caller c kept by target (Offered waiting) coming;
          served = served-last config now first later c kept by target (Offered waiting);
          reached = more-length kept.targets (target_as target.uri by (Offered waiting)) kept.done coming.reached;
          none = refl;
        });
      },
      (target_as target.uri by (Offered waiting) ∷ [], refl, λ p. offer-labels config now.at service waiting peer by target c output ∙ ap (λ l. l ++ Invited (request_uri_at c.opening by target.uri) ∷ []) (shown p)),
    )
next-step-comes left config now first later caller P goes reach by target (StepDivert due) c output rows old kept known coming sheet few same shown stands =
    let service = service_at config now c.opening (cause_of by) target in
    reached-before config first c.opening later P kept.targets (target_as target.uri by NotOffered) _ rows old (divert left config now caller service due (with_unoffered_meter now.at service c) output) now.at refl
    (goes service reach due (with_unoffered_meter now.at service c) output rows old (with_target kept target.uri by NotOffered) known (passed-ready config now first later caller c kept by target coming)
    (record {
      sheet = sheet;
      served = served-last config now first later c kept by target NotOffered;
      reached = more-length kept.targets (target_as target.uri by NotOffered) kept.done coming.reached;
    })
    few same shown stands)
next-step-comes left config now first later caller P goes reach by target (StepRefuse why) c output rows old kept known coming sheet few same shown stands =
    let passed = with_unoffered_meter now.at (service_at config now c.opening (cause_of by) target) c in
    reached-before config first c.opening later P kept.targets (target_as target.uri by NotOffered) _ rows old
    (call_end now.at why caller.meter None passed (with_status_to_caller config passed (status_of why) output)) now.at refl
    (refused-comes config first later now.at caller why passed (with_status_to_caller config passed (status_of why) output) rows P old (with_target kept target.uri by NotOffered)
    (passed-ready config now first later caller c kept by target coming) same (λ p. status-labels config passed (status_of why) output ∙ ap (λ l. l ++ final_label (status_of why)) (shown p)))

-- one move, and then those
pub came-after : (config : CallConfigView) (first : SnapshotView) (o : Opening) (later : ℕ → SnapshotView) (P : Type 0) (before : List precedence.OutcomeTarget) (kept : CallState) (rows : List Row)
    (old : List Label) (s : StepResult) (at : ℕ) →
    Comes config first o later P before (move_in kept.phase (call_inputs_of config first o later) kept) rows old s at → Comes config first o later P before kept rows old s at
unfolding moves.moves
came-after config first o later P before kept rows old s at (n, filed, same, agrees, shown) = (suc n, filed, same, agrees, shown)

-- the move at the target is what is done there
pub move-known : (law : NextStepsAreMoves) (config : CallConfigView) (now first : SnapshotView) (o : Opening) (later : ℕ → SnapshotView) (by : Option DueDiversionView) (target : Target) (kept : CallState) (count : ℕ) →
    IsKnown first o → count ≡ received_diversions o + kept.done → target.of_number ≡ is_by_number by → snapshot_after (call_inputs_of config first o later) kept.done ≡ now →
    let reach = reached_target config now o (cause_of by) target (service_at config now o (cause_of by) target) (peer_for config o target) in
    state_on_reaching (call_inputs_of config first o later) (reached_target_after (call_inputs_of config first o later) kept.done target.uri by) target.uri by kept
    ≡ state_after_step (call_inputs_of config first o later) (account_at reach) now.at kept target.uri by
    (decision_at config now o (nat_lt 0 count) (cause_of by) target (service_at config now o (cause_of by) target) (peer_for config o target))
move-known law config now first o later by target kept count known counted number stands =
    let call = call_inputs_of config first o later in
    let reach = reached_target config now o (cause_of by) target (service_at config now o (cause_of by) target) (peer_for config o target) in
    law call (reached_target_after call kept.done target.uri by) kept target.uri by
    ∙ ap (λ (r : ReachedTargetView). state_after_step call (account_at r) r.at kept target.uri by (next_step_at (targets.caller_facts call kept.done r.at) r))
    (reach_of-known config now first o later kept.done by target number stands)
    ∙ ap (λ (k : FactsView). state_after_step call (account_at reach) now.at kept target.uri by (next_step_at k reach)) (sym (of_caller-known config first o later kept.done count now.at known counted))

pub target-comes : (law : NextStepsAreMoves) (left : ℕ) (config : CallConfigView) (now first : SnapshotView) (later : ℕ → SnapshotView) (caller : Leg) → (P : Type 0) → DivertComes left config now first later caller P →
    (by : Option DueDiversionView) (target : Target) (c : Call) (output : StepOutput) (rows : List Row) (old : List Label) (kept : CallState) →
    IsKnown first c.opening → IsComing config now first later caller c kept by target → c.diversions.remaining ≡ left → output.rows ≡ rows → (P → labels_of c.opening.key output.out ≡ old) →
    SnapshotsFrom config now c.opening later kept (at_target (divert left config now caller) config now caller (cause_of by) target c output) →
    Comes config first c.opening later P kept.targets (with_phase kept (Reaching target.uri by)) rows old (at_target (divert left config now caller) config now caller (cause_of by) target c output) now.at
target-comes law left config now first later caller P goes by target c output rows old kept known coming few same shown stands =
    let o = c.opening in
    let service = service_at config now o (cause_of by) target in
    let peer = peer_for config o target in
    let reach = reached_target config now o (cause_of by) target service peer in
    let s = at_target (divert left config now caller) config now caller (cause_of by) target c output in
    came-after config first o later P kept.targets (with_phase kept (Reaching target.uri by)) rows old s now.at
    (subst (λ (k : CallState). Comes config first o later P kept.targets k rows old s now.at)
    (sym (move-known law config now first o later by target (with_phase kept (Reaching target.uri by)) c.diversions.count known coming.count coming.number coming.snapshots))
    (next-step-comes left config now first later caller P goes reach by target (decision_at config now o (is_diverted c) (cause_of by) target service peer) c output rows old
    (with_phase kept (Reaching target.uri by)) known
    (record {
      answered = coming.answered;
      remaining = coming.remaining;
      count = coming.count;
      made = coming.made;
      reached = coming.reached;
      empty = coming.empty;
      origin = coming.origin;
      past = coming.past;
      snapshots = coming.snapshots;
      number = coming.number;
    })
    (sheet-known config now o (cause_of by) target service peer) few same shown stands))

-- ---- a diversion

-- what is checked before a diversion refuses it, or the diversion proceeds
unless-comes : (config : CallConfigView) (now first : SnapshotView) (later : ℕ → SnapshotView) (caller : Leg) (refusal : Option Cause) (onward : Call → StepOutput → StepResult) (uri : Uri) (due : DueDiversionView)
    (c : Call) (output : StepOutput) (rows : List Row) (P : Type 0) (old : List Label) (kept : CallState) →
    IsReady config first later caller c kept → output.rows ≡ rows → (P → labels_of c.opening.key output.out ≡ old) →
    SnapshotsFrom config now c.opening later kept (diversion_unless_refused refusal onward config now.at caller c output) →
    (refusal ≡ None → SnapshotsFrom config now c.opening later kept (onward c output) → Comes config first c.opening later P kept.targets (state_unless_refused None kept uri due) rows old (onward c output) now.at) →
    Comes config first c.opening later P kept.targets (state_unless_refused refusal kept uri due) rows old (diversion_unless_refused refusal onward config now.at caller c output) now.at
unless-comes config now first later caller (Some why) onward uri due c output rows P old kept ready same shown stands comes =
    refused-comes config first later now.at caller why c (with_status_to_caller config c (status_of why) output) rows P old kept ready same
    (λ p. status-labels config c (status_of why) output ∙ ap (λ l. l ++ final_label (status_of why)) (shown p))
unless-comes config now first later caller None onward uri due c output rows P old kept ready same shown stands comes = comes refl stands

notification-quiet : (config : CallConfigView) (due : DueDiversionView) (c : Call) (output : StepOutput) → Quiet c.opening.key output (with_notification_of config due c output)
notification-quiet config due c output =
    quiet-if c.opening.key output due.forward.notify_caller (with_diversion_notification config c output) output (quiet-provisional c.opening.key c.opening.key _ _ _ output refl) (quiet c.opening.key output)

-- the part of the account that diverts
diverting-part : (config : CallConfigView) (now first : SnapshotView) (later : ℕ → SnapshotView) (caller : Leg) (c : Call) (kept : CallState) (service : Option Service) (reach : ReachedTargetView)
    (target : precedence.OutcomeTarget) →
    IsReady config first later caller c kept → IsDiverting config first later c kept service reach → snapshot_after (call_inputs_of config first c.opening later) (suc kept.done) ≡ now →
    c.past ++ option_to_list (meter_for Diversion c now.at service) ≡ past_parts (call_inputs_of config first c.opening later) c.opening.number 0 None (kept.targets ++ target ∷ [])
diverting-part config now first later caller c kept service reach target ready diverts stands =
    let call = call_inputs_of config first c.opening later in
    let number = c.opening.number in
    let parts = all_parts call number 0 None kept.targets in
    let place : suc kept.done ≡ 0 + length kept.targets = let e = diverts.reached in omega arith in
    ap (λ past. past ++ option_to_list (meter_for Diversion c now.at service)) ready.past
    ∙ ap (λ account. parts ++ option_to_list (option_map (new_meter Diversion number now.at) account)) (sym diverts.served)
    ∙ ap (λ (standing : SnapshotView). parts ++ option_to_list (option_map (new_meter Diversion number standing.at) (last_served call None kept.targets))) (sym stands)
    ∙ sym (past_parts-more call number 0 (suc kept.done) None kept.targets target place)

-- one more was made
abbrev pub more : CallState → CallState
more kept = record kept { done = kept.done + 1 }

coming-by : (left : ℕ) (config : CallConfigView) (now first : SnapshotView) (later : ℕ → SnapshotView) (caller : Leg) (c : Call) (kept : CallState) (service : Option Service)
    (reach : ReachedTargetView) (due : DueDiversionView) →
    IsReady config first later caller c kept → IsDiverting config first later c kept service reach → c.diversions.remaining ≡ suc left → later kept.done ≡ now →
    IsComing config now first later caller (call_after_diversion (diversion_target config due) now.at left service due c) (more kept) (Some due) (diversion_target config due)
coming-by left config now first later caller c kept service reach due ready diverts few stands =
    let call = call_inputs_of config first c.opening later in
    let next : kept.done + 1 ≡ suc kept.done = omega arith in
    let e = ready.remaining in
    let f = diverts.reached in
    record {
      answered = ready.answered;
      remaining = omega arith;
      count = let g = ready.count in omega arith;
      made = λ offer. sum_by_push _ kept.targets (target_as (diversion_target config due).uri (Some due) offer) ∙ ap (λ n. n + 1) ready.made;
      reached = omega arith;
      empty = ready.empty;
      origin = ready.origin;
      past = λ offer. diverting-part config now first later caller c kept service reach (target_as (diversion_target config due).uri (Some due) offer) ready diverts stands;
      snapshots = ap (snapshot_after call) next ∙ stands;
      number = refl;
    }

-- where the diversion is made, the state then is the present one
pub snapshots-next : (left : ℕ) (config : CallConfigView) (now : SnapshotView) (later : ℕ → SnapshotView) (c : Call) (kept : CallState) (s : StepResult) →
    c.diversions.remaining + kept.done ≡ total config c.opening → c.diversions.remaining ≡ suc left →
    s.call.diversions.remaining ≤ left → SnapshotsFrom config now c.opening later kept s → later kept.done ≡ now
snapshots-next left config now later c kept s e few leaves stands = stands kept.done (omega arith) (omega arith)

pub snapshots-on : (config : CallConfigView) (now : SnapshotView) (later : ℕ → SnapshotView) (c : Call) (kept : CallState) (s : StepResult) → SnapshotsFrom config now c.opening later kept s →
    SnapshotsFrom config now c.opening later (more kept) s
snapshots-on config now later c kept s stands j least most = stands j (omega arith) most

pub divert-comes : (law : NextStepsAreMoves) (left : ℕ) (config : CallConfigView) (now first : SnapshotView) (later : ℕ → SnapshotView) (caller : Leg) (P : Type 0) → DivertComes left config now first later caller P
unfolding divert
divert-comes law zero config now first later caller P service reach due c output rows old kept known ready diverts few same shown stands =
    let o = c.opening in
    let onward = call_refusal config now.at caller (too_many due.cause) in
    let s = diversion_unless_refused (diversion_refusal 0 config now.at service due c) onward config now.at caller c output in
    let e = ready.remaining in
    let none : 0 + kept.done ≡ config.bound - received_diversions o = omega arith in
    subst (λ (refusal : Option Cause). Comes config first o later P kept.targets (state_unless_refused refusal kept (target_uri config due) due) rows old s now.at)
    (refusal-known config first o later now.at kept.done 0 c.diversions.count reach service due known diverts.sheet none ready.count)
    (unless-comes config now first later caller (diversion_refusal 0 config now.at service due c) onward (target_uri config due) due c output rows P old kept ready same shown stands
    (λ lets after. absurd (none-left (decisions.target_facts config o now.at (target_uri config due)) (service_sheet service) c.diversions.count due lets)))
divert-comes law (suc left) config now first later caller P service reach due c output rows old kept known ready diverts few same shown stands =
    let o = c.opening in
    let target = diversion_target config due in
    let next = call_after_diversion target now.at left service due c in
    let inner = at_target (divert left config now caller) config now caller (Some due.cause) target next (with_notification_of config due next output) in
    let onward = diversion_step (at_target (divert left config now caller) config now caller (Some due.cause) target) config target now.at left service due in
    let s = diversion_unless_refused (diversion_refusal (suc left) config now.at service due c) onward config now.at caller c output in
    let e = ready.remaining in
    let some : suc left + kept.done ≡ config.bound - received_diversions o = omega arith in
    let leaves : inner.call.diversions.remaining ≤ left = target-leaves left config now caller (divert-leaves left config now caller) (Some due.cause) target next (with_notification_of config due next output) refl in
    subst (λ (refusal : Option Cause). Comes config first o later P kept.targets (state_unless_refused refusal kept (target_uri config due) due) rows old s now.at)
    (refusal-known config first o later now.at kept.done (suc left) c.diversions.count reach service due known diverts.sheet some ready.count)
    (unless-comes config now first later caller (diversion_refusal (suc left) config now.at service due c) onward (target_uri config due) due c output rows P old kept ready same shown stands
    (λ lets after. target-comes law left config now first later caller P (divert-comes law left config now first later caller P) (Some due) target next
    (with_notification_of config due next output) rows old (more kept) known
    (coming-by left config now first later caller c kept service reach due ready diverts few (snapshots-next left config now later c kept inner ready.remaining few leaves after))
    refl ((notification-quiet config due next output).rows ∙ same) (λ p. (notification-quiet config due next output).labels ∙ shown p) (snapshots-on config now later c kept inner after)))
