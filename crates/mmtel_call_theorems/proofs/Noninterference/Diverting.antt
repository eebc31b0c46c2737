-- How a call continues uses public parts alone: at a target, by diversions, and after an attempt.
use Rattle.std.proofs.Common.{◌≡◌, ℕ, zero, suc, Bool, true, false, not, List, [], ◌∷◌, refl, ap, sym, ◌∙◌, subst, Option, Some, None}
use Rattle.std.specs.Option.{option_map}
use Rattle.mmtel_compose.specs.ReceivedMessages.{MessageView, status_of as status_in}
use Rattle.mmtel_output.specs.declared.outputs.StepOutput.{StepOutput}
use Rattle.mmtel_history.proofs.ListTheorems.{appended_masked, masked_once}
use Rattle.mmtel_history.proofs.CallerHistoryTheorems.{for_caller_equal}
use Rattle.mmtel_history.specs.HistoryInfo.{masked_list}
use Rattle.mmtel_history.specs.declared.entries.Entry.{Entry}
use Rattle.mmtel_leg.specs.Dialogues.{request_uri}
use Rattle.mmtel_leg.specs.Legs.{Leg}
use Rattle.mmtel_lex.specs.Grammar.{uri_text}
use Rattle.mmtel_precedence.specs.Calls.{AttemptEndView, SnapshotView}
use Rattle.mmtel_precedence.specs.Theorems.{VerdictsDependOnMatches}
use Rattle.mmtel_precedence.specs.Moves.{account_at}
use Rattle.mmtel_precedence.specs.Services.{DueDiversionView}
use Rattle.mmtel_precedence.specs.NextSteps.{EndAnswered, EndDivert, EndRefuse, NextStepView, StepAfterAttemptView, StepDivert, StepOffer, StepRefuse, next_step_at}
use Rattle.mmtel_precedence.specs.Verdicts.{too_many}
use Rattle.mmtel_rules.specs.IdentityParts.{MatchEqually}
use Rattle.mmtel_rules.specs.Identities.{identity_holds}
use Rattle.mmtel_rules.specs.declared.values.Identities2.{Identities2}
use Rattle.mmtel_sheet_values.specs.declared.values.Sheet.{Sheet}
use Rattle.mmtel_sheet_values.specs.declared.values.Who.{Who}
use Rattle.mmtel_served_user.specs.declared.targets.Target.{Target}
use Rattle.mmtel_transaction.specs.declared.words.TKey.{TKey}
use Rattle.mmtel_trust.proofs.TableTheorems.{entries_equal, own_history}
use Rattle.mmtel_trust.specs.HeaderTable.{history_lines}
use Rattle.mmtel_types.specs.Causes.{status_of}
use Rattle.mmtel_types.specs.declared.causes.Cause.{Cause}
use Rattle.mmtel_types.specs.declared.causes.Cause.TheVariants as causes
use Rattle.mmtel_types.specs.declared.numbers.Account.{Account}
use Rattle.mmtel_types.specs.declared.numbers.Peer.{Peer}
use Rattle.mmtel_types.specs.declared.sides.Side.TheVariants.{Callee}
use Rattle.mmtel_call_services.specs.Decisions.{call_facts, decision_after, decision_at, destination_of, diversion_target, is_status, peer_for, reached_target, relayed_status, served_at, service_of, service_sheet}
use Rattle.mmtel_call_services.specs.CopiedHeaders.{masks_all, notified_history}
use Rattle.mmtel_call_services.specs.CallConfig.{CallConfigView, trusts}
use Rattle.mmtel_call_services.specs.declared.openings.Opening.{Opening}
use Rattle.mmtel_call_services.specs.declared.openings.Service.{Service}
use Rattle.mmtel_call.specs.declared.calls.Call.{Call}
use Rattle.mmtel_call.specs.declared.calls.OfferedAttempt.{OfferedAttempt}
use Rattle.mmtel_call.specs.Closing.{StepResult, call_end, with_past}
use Rattle.mmtel_call.specs.Diverting.{after_attempt, at_target, call_after_diversion, call_refusal, diversion_refusal, diversion_step, diversion_unless_refused}
use Rattle.mmtel_call.specs.Diverting.{divert, is_diverted, on_end, on_next_step, relayed_refusal, with_notification_of, with_unoffered_meter}
use Rattle.mmtel_call.specs.Sending.{with_diversion_notification, with_relay_to_caller, with_status_to_caller}
use Rattle.mmtel_call.specs.AttemptStarts.{attempt_start}
use Rattle.mmtel_call_theorems.specs.Noninterference.PublicCall.{public_call, public_leg, public_offered}
use Rattle.mmtel_call_theorems.specs.Noninterference.Premises.{AreDecidedEqually, Fits, IsAmong, IsFromOwnPeer, RecordsCoverService, RecordsCoverSnapshot}
use Rattle.mmtel_call_theorems.specs.Noninterference.Roles.{Role, opening_role, private_fields, without_private}
use Rattle.mmtel_call_theorems.specs.Noninterference.Transitions.{EndsOfAttempts}
use Rattle.mmtel_call_theorems.specs.Noninterference.Observations.{EquivalentOutputs, EquivalentSteps, Trust, trust_of}
use Rattle.mmtel_call_theorems.proofs.Noninterference.Deciding.{next_step_on_same, next_step_same}
use Rattle.mmtel_call_theorems.proofs.Noninterference.Numbers.{history_none}
use Rattle.mmtel_call_theorems.proofs.Noninterference.Offering.{offer-alike}
use Rattle.mmtel_call_theorems.proofs.Noninterference.Idempotence.{call_once, leg_again}
use Rattle.mmtel_call_theorems.proofs.Noninterference.Ringing.{to_caller-equivalent}
use Rattle.mmtel_call_theorems.proofs.Noninterference.Transitions.{over-equivalent, status-equivalent, step-if}
use Rattle.mmtel_call_theorems.proofs.Noninterference.CopiedLines.{true_false}
use Rattle.mmtel_call_theorems.proofs.Noninterference.Sent.{Heads, answered-equivalent, if-equivalent, same_output}

-- ---- indistinguishable steps one after another

pub steps-back : (t : Trust) (p q : StepResult) → EquivalentSteps t p q → EquivalentSteps t q p
steps-back t p q a = record { call = sym a.call; output = record { tokens = sym a.output.tokens; rows = sym a.output.rows; out = sym a.output.out } }

pub steps-then : (t : Trust) (p q r : StepResult) → EquivalentSteps t p q → EquivalentSteps t q r → EquivalentSteps t p r
steps-then t p q r a b = record { call = a.call ∙ b.call; output = record { tokens = a.output.tokens ∙ b.output.tokens; rows = a.output.rows ∙ b.output.rows; out = a.output.out ∙ b.output.out } }

-- ---- the same is decided on a caller and itself

same_answers : (asks : Who → Bool) (parts : List Who) → MatchEqually asks asks parts
same_answers asks [] = tt
same_answers asks (who ∷ parts) = (refl, same_answers asks parts)

pub self-equivalent : (records : List Sheet) (who : Identities2) → AreDecidedEqually records who who
self-equivalent records who = record { somebody = refl; matches = λ sheet is. record { diversion = same_answers (identity_holds who) _; incoming = same_answers (identity_holds who) _ } }

module _ (heads : Heads) (law : VerdictsDependOnMatches) (records : List Sheet) (config : CallConfigView) (keys : TKey → Bool) (now : SnapshotView) (all_asked : RecordsCoverSnapshot records now) where
  abbrev T : Trust
  T = trust_of config keys

  abbrev known : Peer → Bool
  known = λ peer. trusts config peer

  pub refuses-equivalent : (who : Identities2) (at : ℕ) (caller : Leg) (cause : Cause) (c : Call) (one other : StepOutput) → IsFromOwnPeer T c.opening.key c.opening.invite → EquivalentOutputs T one other →
      EquivalentSteps T (call_refusal config at (public_leg known caller) cause (public_call known who c) one) (call_refusal config at caller cause c other)
  refuses-equivalent who at caller cause c one other asked a =
      over-equivalent heads config keys who at cause caller.meter None c (with_status_to_caller config (public_call known who c) (status_of cause) one)
      (with_status_to_caller config c (status_of cause) other) (status-equivalent heads config keys who c (status_of cause) one other asked a)

  -- ---- at a target

  -- the result of a diversion
  abbrev DivertsEquivalent : (f g : Option Service → DueDiversionView → Call → StepOutput → StepResult) → Type 0
  DivertsEquivalent f g = (who : Identities2) (service : Option Service) (due : DueDiversionView) (c : Call) (one other : StepOutput) → IsFromOwnPeer T c.opening.key c.opening.invite →
      AreDecidedEqually records who c.opening.identities → EquivalentOutputs T one other →
      EquivalentSteps T (f service due (public_call known who c) one) (g service due c other)

  offers-equivalent : (peer : Peer) (who : Identities2) (caller : Leg) (service : Option Service) (waiting : Bool) (cause : Option ℕ) (target : Target) (c : Call) (one other : StepOutput) →
      IsFromOwnPeer T c.opening.key c.opening.invite → EquivalentOutputs T one other →
      EquivalentSteps T (attempt_start config now.at (public_leg known caller) service waiting (destination_of (public_call known who c).opening peer cause target) (public_call known who c) one)
      (attempt_start config now.at caller service waiting (destination_of c.opening peer cause target) c other)
  offers-equivalent peer who caller service waiting None target c one other asked a = offer-alike heads config keys who now.at caller service waiting (destination_of c.opening peer None target) c one other a
  offers-equivalent peer who caller service waiting (Some cause) target c one other asked a =
      offer-alike heads config keys who now.at caller service waiting (destination_of c.opening peer (Some cause) target) c one other a

  module _ (f g : Option Service → DueDiversionView → Call → StepOutput → StepResult) (diverts : DivertsEquivalent f g) where
    next-step-equivalent : (turn : NextStepView) (who : Identities2) (caller : Leg) (service : Option Service) (cause : Option ℕ) (target : Target) (c : Call) (one other : StepOutput) →
        IsFromOwnPeer T c.opening.key c.opening.invite → AreDecidedEqually records who c.opening.identities → EquivalentOutputs T one other →
        EquivalentSteps T (on_next_step f config now.at (public_leg known caller) service cause target turn (public_call known who c) one) (on_next_step g config now.at caller service cause target turn c other)
    next-step-equivalent (StepOffer peer waiting) who caller service cause target c one other asked alike a = offers-equivalent peer who caller service waiting cause target c one other asked a
    next-step-equivalent (StepDivert due) who caller service cause target c one other asked alike a = diverts who service due (with_unoffered_meter now.at service c) one other asked alike a
    next-step-equivalent (StepRefuse why) who caller service cause target c one other asked alike a = refuses-equivalent who now.at caller why (with_unoffered_meter now.at service c) one other asked a

    reach_asked : (served : Option Account) (peer : Option Peer) (cause : Option ℕ) (target : Target) (o : Opening) →
        IsAmong records (account_at (reached_target config now o cause target (option_map (service_of now) served) peer)).sheet
    reach_asked None peer cause target o = all_asked.none
    reach_asked (Some account) peer cause target o = all_asked.each account

    served-equivalent : (served : Option Account) (who : Identities2) (caller : Leg) (peer : Option Peer) (cause : Option ℕ) (target : Target) (c : Call) (one other : StepOutput) →
        IsFromOwnPeer T c.opening.key c.opening.invite → AreDecidedEqually records who c.opening.identities → EquivalentOutputs T one other →
        (turn : NextStepView) → turn ≡ decision_at config now c.opening (is_diverted c) cause target (option_map (service_of now) served) peer →
        EquivalentSteps T (on_next_step f config now.at (public_leg known caller) (option_map (service_of now) served) cause target turn (public_call known who c) one)
        (on_next_step g config now.at caller (option_map (service_of now) served) cause target (decision_at config now c.opening (is_diverted c) cause target (option_map (service_of now) served) peer) c other)
    served-equivalent served who caller peer cause target c one other asked alike a turn e =
        let service : Option Service = option_map (service_of now) served in
        subst (λ (t : NextStepView). EquivalentSteps T (on_next_step f config now.at (public_leg known caller) service cause target t (public_call known who c) one)
        (on_next_step g config now.at caller service cause target (decision_at config now c.opening (is_diverted c) cause target service peer) c other)) (sym e)
        (next-step-equivalent (decision_at config now c.opening (is_diverted c) cause target service peer) who caller service cause target c one other asked alike a)

    decides : (who : Identities2) (diverted : Bool) (served : Option Account) (peer : Option Peer) (cause : Option ℕ) (target : Target) (o : Opening) → AreDecidedEqually records who o.identities →
        next_step_at (call_facts who o now.at diverted false) (reached_target config now o cause target (option_map (service_of now) served) peer)
        ≡ decision_at config now o diverted cause target (option_map (service_of now) served) peer
    decides who diverted served peer cause target o alike =
        next_step_same law records who o.identities alike o now.at diverted (reached_target config now o cause target (option_map (service_of now) served) peer) (reach_asked served peer cause target o)

    pub target-equivalent : (who : Identities2) (caller : Leg) (cause : Option ℕ) (target : Target) (c : Call) (one other : StepOutput) → IsFromOwnPeer T c.opening.key c.opening.invite →
        AreDecidedEqually records who c.opening.identities → EquivalentOutputs T one other →
        EquivalentSteps T (at_target f config now (public_leg known caller) cause target (public_call known who c) one) (at_target g config now caller cause target c other)
    target-equivalent who caller None target c one other asked alike a =
        served-equivalent (served_at config c.opening None target) who caller (peer_for config c.opening target) None target c one other asked alike a _
        (decides who (is_diverted c) (served_at config c.opening None target) (peer_for config c.opening target) None target c.opening alike)
    target-equivalent who caller (Some cause) target c one other asked alike a =
        served-equivalent (served_at config c.opening (Some cause) target) who caller (peer_for config c.opening target) (Some cause) target c one other asked alike a _
        (decides who (is_diverted c) (served_at config c.opening (Some cause) target) (peer_for config c.opening target) (Some cause) target c.opening alike)

  -- ---- a diversion

  module _ (who : Identities2) (target : Target) (left : ℕ) (service : Option Service) (due : DueDiversionView) (c : Call) where
    abbrev all : Bool
    all = masks_all c.opening

    -- for the public part, and for the call
    abbrev masked_made : Call
    masked_made = call_after_diversion target now.at left service due (public_call known who c)

    abbrev whole_made : Call
    whole_made = call_after_diversion target now.at left service due c

    lists_same : masked_list all masked_made.diversions.history ≡ masked_list all whole_made.diversions.history
    lists_same = sym (appended_masked all c.diversions.history (request_uri c.opening.invite.parsed.start) (uri_text target.uri) due.cause (not due.forward.reveal_to_target))

    made_same : public_call known who masked_made ≡ public_call known who whole_made
    made_same =
        ap (λ (h : List Entry). record (public_call known who (public_call known who whole_made)) { diversions = record whole_made.diversions { history = h } })
        (lists_same ∙ sym (masked_once all whole_made.diversions.history))
        ∙ call_once known who who whole_made

    lines_if : (b : Bool) → b ≡ false → history_lines all b (notified_history masked_made.diversions) ≡ history_lines all b (notified_history whole_made.diversions)
    lines_if true e = absurd (true_false e)
    lines_if false e = entries_equal all (notified_history masked_made.diversions) (notified_history whole_made.diversions)
        (for_caller_equal all whole_made.diversions.hides_diverting whole_made.diversions.hides_target masked_made.diversions.history whole_made.diversions.history lists_same)

    notification-equivalent : (one other : StepOutput) → IsFromOwnPeer T c.opening.key c.opening.invite → EquivalentOutputs T one other →
        EquivalentOutputs T (with_notification_of config due masked_made one) (with_notification_of config due whole_made other)
    notification-equivalent one other asked a =
        let i : MessageView = c.opening.invite in
        if-equivalent T due.forward.notify_caller (with_diversion_notification config masked_made one) one (with_diversion_notification config whole_made other) other
        (answered-equivalent heads T config.sip c.opening.key i.parsed.trusted (private_fields (opening_role c.opening.restricted) i.parsed) i c.opening.tag 181
        (history_lines all (known i.peer) (notified_history masked_made.diversions)) (history_lines all (known i.peer) (notified_history whole_made.diversions)) [] [] one other
        asked.request (asked.trusted ∙ sym asked.known)
        (λ name own. own_history name all (known i.peer) (notified_history masked_made.diversions) own) (λ name own. own_history name all (known i.peer) (notified_history whole_made.diversions) own)
        (history_none all (known i.peer) (notified_history masked_made.diversions) ∙ sym (history_none all (known i.peer) (notified_history whole_made.diversions)))
        (λ strange. lines_if (known i.peer) (sym asked.known ∙ strange)) a)
        a

  still_asked : (who : Identities2) (c : Call) → IsFromOwnPeer T c.opening.key c.opening.invite → IsFromOwnPeer T c.opening.key (public_call known who c).opening.invite
  still_asked who c asked = record { request = asked.request; trusted = asked.trusted; known = asked.known }

  -- the step at the target of a diversion that was made
  abbrev at_next : ℕ → DueDiversionView → Leg → Call → StepOutput → StepResult
  at_next left due l z output = at_target (divert left config now l) config now l (Some due.cause) (diversion_target config due) z output

  made-alike : (left : ℕ) → ((l : Leg) → DivertsEquivalent (divert left config now (public_leg known l)) (divert left config now l)) →
      (caller : Leg) (who : Identities2) (service : Option Service) (due : DueDiversionView) (c : Call) (one other : StepOutput) → IsFromOwnPeer T c.opening.key c.opening.invite →
      AreDecidedEqually records who c.opening.identities → EquivalentOutputs T one other →
      EquivalentSteps T (diversion_step (at_next left due (public_leg known caller)) config (diversion_target config due) now.at left service due (public_call known who c) one)
      (diversion_step (at_next left due caller) config (diversion_target config due) now.at left service due c other)
  made-alike left diverts caller who service due c one other asked alike a =
      let tg : Target = diversion_target config due in
      let pl : Leg = public_leg known caller in
      let x : Call = masked_made who tg left service due c in
      let y : Call = whole_made who tg left service due c in
      let d : StepOutput = with_notification_of config due x one in
      let e : StepOutput = with_notification_of config due y other in
      let first : EquivalentSteps T (at_next left due (public_leg known pl) (public_call known who x) d) (at_next left due pl x d) =
      target-equivalent (divert left config now (public_leg known pl)) (divert left config now pl) (diverts pl) who pl (Some due.cause) tg x d d (still_asked who c asked)
      (self-equivalent records who) (same_output T d) in
      let second : EquivalentSteps T (at_next left due pl (public_call known who y) d) (at_next left due caller y e) =
      target-equivalent (divert left config now pl) (divert left config now caller) (diverts caller) who caller (Some due.cause) tg y d e asked alike
      (notification-equivalent who tg left service due c one other asked a) in
      let moved : EquivalentSteps T (at_next left due pl (public_call known who y) d) (at_next left due pl x d) =
      subst (λ (z : Call). EquivalentSteps T (at_next left due pl z d) (at_next left due pl x d)) (made_same who tg left service due c)
      (subst (λ (l : Leg). EquivalentSteps T (at_next left due l (public_call known who x) d) (at_next left due pl x d)) (leg_again known caller) first) in
      steps-then T (at_next left due pl x d) (at_next left due pl (public_call known who y) d) (at_next left due caller y e)
      (steps-back T (at_next left due pl (public_call known who y) d) (at_next left due pl x d) moved) second

  -- what is checked before a diversion refuses it in both, or in neither
  unless-alike : (refusal : Option Cause) (f g : Call → StepOutput → StepResult) (who : Identities2) (caller : Leg) (c : Call) (one other : StepOutput) →
      IsFromOwnPeer T c.opening.key c.opening.invite → EquivalentOutputs T one other →
      EquivalentSteps T (f (public_call known who c) one) (g c other) →
      EquivalentSteps T (diversion_unless_refused refusal f config now.at (public_leg known caller) (public_call known who c) one) (diversion_unless_refused refusal g config now.at caller c other)
  unless-alike None f g who caller c one other asked a goes = goes
  unless-alike (Some cause) f g who caller c one other asked a goes = refuses-equivalent who now.at caller cause c one other asked a

  pub divert-alike : (left : ℕ) (caller : Leg) → DivertsEquivalent (divert left config now (public_leg known caller)) (divert left config now caller)
  unfolding divert
  divert-alike zero caller who service due c one other asked alike a =
      let pl : Leg = public_leg known caller in
      unless-alike (diversion_refusal 0 config now.at service due c) (call_refusal config now.at pl (too_many due.cause)) (call_refusal config now.at caller (too_many due.cause)) who caller c one other asked a
      (refuses-equivalent who now.at caller (too_many due.cause) c one other asked a)
  divert-alike (suc left) caller who service due c one other asked alike a =
      let pl : Leg = public_leg known caller in
      let tg : Target = diversion_target config due in
      unless-alike (diversion_refusal (suc left) config now.at service due c) (diversion_step (at_next left due pl) config tg now.at left service due)
      (diversion_step (at_next left due caller) config tg now.at left service due)
      who caller c one other asked a
      (made-alike left (λ l. divert-alike left l) caller who service due c one other asked alike a)

  -- ---- after an attempt

  abbrev FitsIf : Call → Option Service → Role → Option MessageView → Type 0
  FitsIf c service role m = (n : MessageView) → m ≡ Some n → Fits c.opening service Callee n role

  refuses_by-alike : (who : Identities2) (caller : Leg) (service : Option Service) (role : Role) (m : Option MessageView) (cause : Cause) (c : Call) (one other : StepOutput) →
      IsFromOwnPeer T c.opening.key c.opening.invite → FitsIf c service role m → EquivalentOutputs T one other →
      EquivalentSteps T (relayed_refusal config now.at (public_leg known caller) service (option_map (without_private role) m) cause (public_call known who c) one)
      (relayed_refusal config now.at caller service m cause c other)
  refuses_by-alike who caller service role None cause c one other asked fits a = refuses-equivalent who now.at caller cause c one other asked a
  refuses_by-alike who caller service role (Some m) cause c one other asked fits a =
      let d : Call = public_call known who c in
      let n : MessageView = without_private role m in
      step-if T (is_status (status_in m.parsed.start) (relayed_status cause))
      (call_end now.at cause caller.meter None d (with_relay_to_caller config d service n one)) (call_refusal config now.at (public_leg known caller) cause d one)
      (call_end now.at cause caller.meter None c (with_relay_to_caller config c service m other)) (call_refusal config now.at caller cause c other)
      (over-equivalent heads config keys who now.at cause caller.meter None c (with_relay_to_caller config d service n one) (with_relay_to_caller config c service m other)
      (to_caller-equivalent heads config keys who service role m c one other asked (fits m refl) a))
      (refuses-equivalent who now.at caller cause c one other asked a)

  end-alike : (after : StepAfterAttemptView) (who : Identities2) (caller : Leg) (service : Option Service) (role : Role) (m : Option MessageView) (c : Call) (one other : StepOutput) →
      IsFromOwnPeer T c.opening.key c.opening.invite → AreDecidedEqually records who c.opening.identities → FitsIf c service role m → EquivalentOutputs T one other →
      EquivalentSteps T (on_end config now (public_leg known caller) service (option_map (without_private role) m) after (public_call known who c) one) (on_end config now caller service m after c other)
  end-alike EndAnswered who caller service role m c one other asked alike fits a = over-equivalent heads config keys who now.at causes.Ended caller.meter None c one other a
  end-alike (EndDivert due) who caller service role m c one other asked alike fits a = divert-alike c.diversions.remaining caller who service due c one other asked alike a
  end-alike (EndRefuse cause) who caller service role m c one other asked alike fits a = refuses_by-alike who caller service role m cause c one other asked fits a

  pub goes_on-alike : (who : Identities2) (x : OfferedAttempt) (how : AttemptEndView) (role : Role) (m : Option MessageView) (c : Call) (one other : StepOutput) →
      IsFromOwnPeer T c.opening.key c.opening.invite → AreDecidedEqually records who c.opening.identities → RecordsCoverService records x.attempt.service → FitsIf c x.attempt.service role m →
      EquivalentOutputs T one other →
      EquivalentSteps T (after_attempt config now (public_offered known x) how (option_map (without_private role) m) (public_call known who c) one) (after_attempt config now x how m c other)
  goes_on-alike who x how role m c one other asked alike its fits a =
      let after : StepAfterAttemptView = decision_after c.opening now.at (is_diverted c) x.attempt.service how in
      let past : Call = with_past x.callee.leg.meter c in
      subst (λ (e : StepAfterAttemptView). EquivalentSteps T (on_end config now (public_leg known x.caller) x.attempt.service (option_map (without_private role) m) e (public_call known who past) one)
      (on_end config now x.caller x.attempt.service m after past other))
      (sym (next_step_on_same law records who c.opening.identities alike c.opening now.at (is_diverted c) (service_sheet x.attempt.service) how its))
      (end-alike after who x.caller x.attempt.service role m past one other asked alike fits a)

pub ends_of_attempts : Heads → VerdictsDependOnMatches → EndsOfAttempts
ends_of_attempts heads law records config keys now who x how role m c one other asked alike all its fits a = goes_on-alike heads law records config keys now all who x how role m c one other asked alike its fits a
