-- The opening of a call uses public parts alone.
use Rattle.std.proofs.Common.{◌≡◌, ℕ, ◌-◌, Bool, true, false, ◌&&◌, List, [], ◌∷◌, refl, ap, sym, ◌∙◌, map, cond, codes, subst, Option, Some, None}
use Rattle.std.specs.Prelude.{Result, Ok, Err, is_ok}
use Rattle.mmtel_compose.specs.ReceivedMessages.{MessageView}
use Rattle.mmtel_output.specs.Outputs.{after_draw, token}
use Rattle.mmtel_output.specs.declared.outputs.StepOutput.{StepOutput}
use Rattle.mmtel_history.proofs.ListTheorems.{masked_counts, masked_once}
use Rattle.mmtel_history.proofs.MaskedValueTheorems.{seen_read, seen_refused}
use Rattle.mmtel_history.specs.HistoryInfo.{diversions_in, entries_result, masked_list}
use Rattle.mmtel_history.specs.MaskedValues.{seen_value}
use Rattle.mmtel_history.specs.declared.entries.Entry.{Entry}
use Rattle.mmtel_leg.specs.Dialogues.{caller_dialogue_with_remote as opened_dialog, with_remote}
use Rattle.mmtel_leg.specs.Legs.{Leg, with_dialogue}
use Rattle.mmtel_leg.specs.Remotes.{field, remote_of}
use Rattle.mmtel_leg.specs.declared.dialogues.Dialogue.{Dialogue}
use Rattle.mmtel_masked_messages.proofs.DialogTheorems.{dialogs, routes, tags}
use Rattle.mmtel_masked_messages.proofs.ResponseTheorems.{request_to}
use Rattle.mmtel_message.specs.Faults.{is_request}
use Rattle.mmtel_message.specs.Message.{Line, line_texts}
use Rattle.mmtel_precedence.specs.Calls.{SnapshotView}
use Rattle.mmtel_precedence.specs.Theorems.{VerdictsDependOnMatches}
use Rattle.mmtel_rules.specs.declared.values.Identities2.{Identities2}
use Rattle.mmtel_sheet_values.specs.declared.values.Sheet.{Sheet}
use Rattle.mmtel_transaction.specs.declared.words.TKey.{TKey}
use Rattle.mmtel_trust.proofs.ByName.{texts-changed}
use Rattle.mmtel_trust.specs.ParsedMessage.{ParsedMessage}
use Rattle.mmtel_trust.specs.Kinds.{kind_of}
use Rattle.mmtel_trust.specs.PrivateFields.{AllEntries, Entries, MarkedEntries, NoEntries, PrivateFields, hidden_entries, masked_entries, masked_lines, masked_value, private_fields_in}
use Rattle.mmtel_types.specs.declared.causes.Cause.{Cause}
use Rattle.mmtel_types.specs.declared.numbers.Peer.{Peer}
use Rattle.mmtel_types.specs.declared.sides.Side.TheVariants.{Caller}
use Rattle.mmtel_call_services.specs.Opening.{initial_target, opening_of, opening_refusal, received_history}
use Rattle.mmtel_call_services.specs.CopiedHeaders.{masks_all}
use Rattle.mmtel_call_services.specs.CallConfig.{CallConfigView, trusts}
use Rattle.mmtel_call_services.specs.declared.openings.Arrival.{Arrival}
use Rattle.mmtel_call_services.specs.declared.openings.Opening.{Opening}
use Rattle.mmtel_call.specs.declared.calls.Call.{Call}
use Rattle.mmtel_call.specs.Closing.{StepResult}
use Rattle.mmtel_call.specs.Diverting.{divert}
use Rattle.mmtel_call.specs.Opening.{call_after_opening, caller_of, new_call, opening_step, unless_refused}
use Rattle.mmtel_call.specs.Sending.{with_status_to_caller}
use Rattle.mmtel_call_theorems.specs.Noninterference.Opening.{OpeningsAreEquivalent, OpeningsGiveEquivalentCalls, OpeningsSeePublicParts, public_arrival}
use Rattle.mmtel_call_theorems.specs.Noninterference.PublicCall.{public_call, public_dialog_by, public_leg, public_opening}
use Rattle.mmtel_call_theorems.specs.Noninterference.Premises.{AreDecidedEqually, IsFromOwnPeer, RecordsCoverSnapshot}
use Rattle.mmtel_call_theorems.specs.Noninterference.Roles.{hidden_by, opening_role, private_fields, without_private}
use Rattle.mmtel_call_theorems.specs.Noninterference.Observations.{EquivalentOutputs, EquivalentSteps, Trust, trust_of, with_out}
use Rattle.mmtel_call_theorems.proofs.Noninterference.Masks.{hide_absorbs}
use Rattle.mmtel_call_theorems.proofs.Noninterference.Diverting.{divert-alike, refuses-equivalent, self-equivalent, steps-back, steps-then, target-equivalent}
use Rattle.mmtel_call_theorems.proofs.Noninterference.Offering.{step-brings}
use Rattle.mmtel_call_theorems.proofs.Noninterference.Idempotence.{call_once}
use Rattle.mmtel_call_theorems.proofs.Noninterference.Transitions.{status-equivalent}
use Rattle.mmtel_call_theorems.proofs.Noninterference.Sent.{Heads, same_output}
use Rattle.mmtel_call_theorems.proofs.Noninterference.FixedOpenings.{opened-keeps}

-- ---- the list that came with it

history_value : (p : PrivateFields) (v : List ℕ) → masked_value p (kind_of (codes "History-Info")) v ≡ Some (masked_entries p.history v)
unfolding kind_of
history_value p v = refl

map_none : (vs : List (List ℕ)) → map (masked_entries NoEntries) vs ≡ vs
map_none [] = refl
map_none (v ∷ vs) = ap (λ (l : List (List ℕ)). v ∷ l) (map_none vs)

read_by : (all : Bool) (vs : List (List ℕ)) (r : Result (List Entry) ℕ) → entries_result vs ≡ r → is_ok (entries_result (map (seen_value all) vs)) ≡ is_ok (entries_result vs)
read_by all vs (Ok h) e = ap (λ (x : Result (List Entry) ℕ). is_ok x) (seen_read all vs h e) ∙ ap (λ (x : Result (List Entry) ℕ). is_ok x) (sym e)
read_by all vs (Err at) e = ap (λ (x : Result (List Entry) ℕ). is_ok x) (seen_refused all vs at e) ∙ ap (λ (x : Result (List Entry) ℕ). is_ok x) (sym e)

is_read : (es : Entries) (vs : List (List ℕ)) → is_ok (entries_result (map (masked_entries es) vs)) ≡ is_ok (entries_result vs)
is_read NoEntries vs = ap (λ (l : List (List ℕ)). is_ok (entries_result l)) (map_none vs)
is_read MarkedEntries vs = read_by false vs (entries_result vs) refl
is_read AllEntries vs = read_by true vs (entries_result vs) refl

read_same : (b : Bool) (p : PrivateFields) (h : ParsedMessage) → is_ok (entries_result (line_texts (codes "History-Info") (hidden_by b p h).lines)) ≡ is_ok (entries_result (line_texts (codes "History-Info") h.lines))
read_same true p h =
    ap (λ (vs : List (List ℕ)). is_ok (entries_result vs)) (texts-changed (private_fields_in h.start p) (codes "History-Info") (masked_entries p.history) (history_value (private_fields_in h.start p)) h.lines)
    ∙ is_read p.history (line_texts (codes "History-Info") h.lines)
read_same false p h = refl

entries_by : (w : Bool) (h : List Entry) → hidden_entries (cond w AllEntries MarkedEntries) h ≡ masked_list w h
entries_by true h = refl
entries_by false h = refl

-- from a trusted peer or not, in a request or not
entries_if : (b q w : Bool) (h : List Entry) → masked_list w (cond b (hidden_entries (cond (b && q) (cond w AllEntries MarkedEntries) NoEntries) h) h) ≡ masked_list w h
entries_if false q w h = refl
entries_if true false w h = refl
entries_if true true w h = ap (masked_list w) (entries_by w h) ∙ masked_once w h

counts_if : (b q w : Bool) (h : List Entry) → diversions_in (cond b (hidden_entries (cond (b && q) (cond w AllEntries MarkedEntries) NoEntries) h) h) ≡ diversions_in h
counts_if b q w h = sym (masked_counts w (cond b (hidden_entries (cond (b && q) (cond w AllEntries MarkedEntries) NoEntries) h) h)) ∙ (ap diversions_in (entries_if b q w h) ∙ masked_counts w h)

listed_if : (ok : Bool) (w : Bool) (h k : List Entry) → masked_list w h ≡ masked_list w k → masked_list w (cond ok h []) ≡ masked_list w (cond ok k [])
listed_if true w h k e = e
listed_if false w h k e = refl

history_of : (restricted : Bool) (m : MessageView) → masked_list m.parsed.wants.history (without_private (opening_role restricted) m).parsed.history ≡ masked_list m.parsed.wants.history m.parsed.history
history_of true m = entries_if m.parsed.trusted (is_request m.parsed.start) m.parsed.wants.history m.parsed.history
history_of false m = entries_if m.parsed.trusted (is_request m.parsed.start) m.parsed.wants.history m.parsed.history

received_same : (restricted : Bool) (m : MessageView) → masked_list m.parsed.wants.history (received_history (without_private (opening_role restricted) m)) ≡ masked_list m.parsed.wants.history (received_history m)
received_same restricted m =
    ap (λ (ok : Bool). masked_list m.parsed.wants.history (cond ok (without_private (opening_role restricted) m).parsed.history []))
    (read_same m.parsed.trusted (private_fields (opening_role restricted) m.parsed) m.parsed)
    ∙ listed_if (is_ok (entries_result (line_texts (codes "History-Info") m.parsed.lines))) m.parsed.wants.history (without_private (opening_role restricted) m).parsed.history m.parsed.history (history_of restricted m)

received_counts : (restricted : Bool) (m : MessageView) → diversions_in (received_history (without_private (opening_role restricted) m)) ≡ diversions_in (received_history m)
received_counts restricted m =
    sym (masked_counts m.parsed.wants.history (received_history (without_private (opening_role restricted) m)))
    ∙ (ap diversions_in (received_same restricted m) ∙ masked_counts m.parsed.wants.history (received_history m))

-- ---- the caller's dialog

opened_hidden : (p : PrivateFields) (peer : Peer) (ls : List Line) (tag : List ℕ) → p.to ≡ false → public_dialog_by true (opened_dialog peer (masked_lines p ls) tag) ≡ public_dialog_by true (opened_dialog peer ls tag)
opened_hidden p peer ls tag e =
    ap (λ (d : Dialogue). public_dialog_by true (with_remote d (remote_of Caller (masked_lines p ls)))) (dialogs p peer ls tag e)
    ∙ rw (tags p Caller ls, routes p Caller ls) (ap (λ (v : List ℕ). record (public_dialog_by true (opened_dialog peer ls tag)) { remote = v }) (hide_absorbs p.from (field (codes "From") ls)))

opened_by : (b : Bool) (p : PrivateFields) (peer : Peer) (h : ParsedMessage) (tag : List ℕ) → is_request h.start ≡ true →
    public_dialog_by b (opened_dialog peer (hidden_by b p h).lines tag) ≡ public_dialog_by b (opened_dialog peer h.lines tag)
opened_by true p peer h tag asked = opened_hidden (private_fields_in h.start p) peer h.lines tag (request_to p h.start asked)
opened_by false p peer h tag asked = refl

module _ (heads : Heads) (law : VerdictsDependOnMatches) (records : List Sheet) (config : CallConfigView) (keys : TKey → Bool) (now : SnapshotView) (stand : RecordsCoverSnapshot records now) where
  abbrev T : Trust
  T = trust_of config keys

  abbrev known : Peer → Bool
  known = λ peer. trusts config peer

  -- what is done with the caller's leg
  abbrev starts : Leg → Call → StepOutput → StepResult
  starts caller c output = unless_refused (opening_refusal config now.at c.opening) config now caller c (with_status_to_caller config c 100 output)

  refusal-equivalent : (refusal : Option Cause) (caller : Leg) (who : Identities2) (c : Call) (one other : StepOutput) → IsFromOwnPeer T c.opening.key c.opening.invite →
      AreDecidedEqually records who c.opening.identities → EquivalentOutputs T one other →
      EquivalentSteps T (unless_refused refusal config now (public_leg known caller) (public_call known who c) one) (unless_refused refusal config now caller c other)
  refusal-equivalent None caller who c one other asked alike a =
      target-equivalent heads law records config keys now stand (divert c.diversions.remaining config now (public_leg known caller)) (divert c.diversions.remaining config now caller)
      (divert-alike heads law records config keys now stand c.diversions.remaining caller) who caller None (initial_target c.opening) c one other asked alike a
  refusal-equivalent (Some cause) caller who c one other asked alike a = refuses-equivalent heads law records config keys now stand who now.at caller cause c one other asked a

  starts-equivalent : (caller : Leg) (who : Identities2) (c : Call) (one other : StepOutput) → IsFromOwnPeer T c.opening.key c.opening.invite → AreDecidedEqually records who c.opening.identities →
      EquivalentOutputs T one other →
      EquivalentSteps T (starts (public_leg known caller) (public_call known who c) one) (starts caller c other)
  starts-equivalent caller who c one other asked alike a =
      refusal-equivalent (opening_refusal config now.at c.opening) caller who c (with_status_to_caller config (public_call known who c) 100 one) (with_status_to_caller config c 100 other) asked alike
      (status-equivalent heads config keys who c 100 one other asked a)

  module _ (who : Identities2) (o : Opening) (asked : IsFromOwnPeer T o.key o.invite) where
    abbrev hidden_call : Call
    hidden_call = new_call config (public_opening who o)

    abbrev whole_call : Call
    whole_call = new_call config o

    new_same : public_call known who hidden_call ≡ public_call known who whole_call
    new_same =
        ap (λ (h : List Entry). record (public_call known who hidden_call) { diversions = record (public_call known who hidden_call).diversions { history = h } })
        (received_same o.restricted o.invite ∙ sym (masked_once (masks_all o) (received_history o.invite)))
        ∙ (ap (λ (n : ℕ). record (public_call known who (public_call known who whole_call)) {
          diversions = record (public_call known who (public_call known who whole_call)).diversions { remaining = config.bound - n; count = n };
        }) (received_counts o.restricted o.invite)
        ∙ call_once known who who whole_call)

    leg_same : public_leg known (caller_of now.at hidden_call) ≡ public_leg known (caller_of now.at whole_call)
    leg_same =
        ap (λ (d : Dialogue). with_dialogue (caller_of now.at whole_call) d) (
        ap (λ (b : Bool). public_dialog_by (known o.invite.peer) (opened_dialog o.invite.peer (hidden_by b (private_fields (opening_role o.restricted) o.invite.parsed) o.invite.parsed).lines o.tag)) asked.trusted
        ∙ opened_by (known o.invite.peer) (private_fields (opening_role o.restricted) o.invite.parsed) o.invite.peer o.invite.parsed o.tag asked.request)

    begins-equivalent : AreDecidedEqually records who o.identities → (one other : StepOutput) → EquivalentOutputs T one other →
        EquivalentSteps T (opening_step config now hidden_call one) (opening_step config now whole_call other)
    begins-equivalent alike one other a =
        let k : Leg = caller_of now.at hidden_call in
        let l : Leg = caller_of now.at whole_call in
        let first : EquivalentSteps T (starts (public_leg known k) (public_call known who hidden_call) one) (starts k hidden_call one) =
        starts-equivalent k who hidden_call one one (record { request = asked.request; trusted = asked.trusted; known = asked.known }) (self-equivalent records who) (same_output T one) in
        let moved : EquivalentSteps T (starts (public_leg known l) (public_call known who whole_call) one) (starts k hidden_call one) =
        subst (λ (z : Call). EquivalentSteps T (starts (public_leg known l) z one) (starts k hidden_call one)) new_same
        (subst (λ (z : Leg). EquivalentSteps T (starts z (public_call known who hidden_call) one) (starts k hidden_call one)) leg_same first) in
        steps-then T (starts k hidden_call one) (starts (public_leg known l) (public_call known who whole_call) one) (starts l whole_call other)
        (steps-back T (starts (public_leg known l) (public_call known who whole_call) one) (starts k hidden_call one) moved)
        (starts-equivalent l who whole_call one other asked alike a)

  opened-alike : (who : Identities2) (a : Arrival) (one other : StepOutput) → IsFromOwnPeer T a.key a.invite → AreDecidedEqually records who a.identities → EquivalentOutputs T one other →
      EquivalentSteps T (call_after_opening config now (public_arrival now who a) one) (call_after_opening config now a other)
  unfolding call_after_opening
  opened-alike who a one other asked alike d =
      step-brings heads config keys (λ (y : StepOutput). opening_step config now (new_call config (public_opening who (opening_of config now (token y) a))) (after_draw y))
      (λ (y : StepOutput). opening_step config now (new_call config (opening_of config now (token y) a)) (after_draw y))
      (λ out y s. begins-equivalent who (opening_of config now (token y) a) (record { request = asked.request; trusted = asked.trusted; known = asked.known }) alike (with_out out (after_draw y))
      (after_draw y) (record { tokens = refl; rows = refl; out = s })) one other d

pub openings_see_public_parts : Heads → VerdictsDependOnMatches → OpeningsSeePublicParts
openings_see_public_parts heads law records config keys now who a one other asked alike stand d = opened-alike heads law records config keys now stand who a one other asked alike d

pub openings_are_equivalent : Heads → VerdictsDependOnMatches → OpeningsAreEquivalent
openings_are_equivalent heads law records config keys now a b one other first then stand alike same d =
    let T : Trust = trust_of config keys in
    let who : Identities2 = a.identities in
    let p : StepResult = call_after_opening config now (public_arrival now who a) one in
    let q : StepResult = call_after_opening config now (public_arrival now who b) one in
    let left : EquivalentSteps T p (call_after_opening config now a one) = openings_see_public_parts heads law records config keys now who a one one first (self-equivalent records who) stand (same_output T one) in
    let right : EquivalentSteps T q (call_after_opening config now b other) = openings_see_public_parts heads law records config keys now who b one other then alike stand d in
    let e : public_arrival now who a ≡ public_arrival now who b = ap (λ (x : Arrival). record x { identities = who }) same in
    let moved : EquivalentSteps T q (call_after_opening config now a one) = subst (λ (x : Arrival). EquivalentSteps T (call_after_opening config now x one) (call_after_opening config now a one)) e left in
    steps-then T (call_after_opening config now a one) q (call_after_opening config now b other) (steps-back T q (call_after_opening config now a one) moved) right

pub openings_give_equivalent_calls : Heads → VerdictsDependOnMatches → OpeningsGiveEquivalentCalls
openings_give_equivalent_calls heads law records config keys now a b one other first then stand alike same d = record {
  same = (openings_are_equivalent heads law records config keys now a b one other first then stand alike same d).call;
  callers =
      subst (λ (o : Opening). AreDecidedEqually records o.identities (call_after_opening config now b other).call.opening.identities) (sym (opened-keeps config now a one))
      (subst (λ (o : Opening). AreDecidedEqually records a.identities o.identities) (sym (opened-keeps config now b other)) alike);
}
