-- Under two configurations that are equal but for the URIs of accounts indistinguishable calls continue indistinguishably.
use Rattle.std.proofs.Common.{◌≡◌, ℕ, Bool, true, false, ◌&&◌, List, [], ◌∷◌, Option, Some, None, refl, ap, ◌∙◌, subst}
use Rattle.mmtel_compose.specs.ReceivedMessages.{MessageView}
use Rattle.mmtel_output.specs.ResponseMatching.{awaited_request_branch}
use Rattle.mmtel_lex.specs.Reading.{uri_of}
use Rattle.mmtel_precedence.specs.Theorems.{VerdictsDependOnMatches}
use Rattle.mmtel_base.specs.Chain.{◌>>=◌}
use Rattle.mmtel_transaction.specs.declared.words.TKey.{TKey}
use Rattle.mmtel_trust.specs.Asserted.{or_no_uri}
use Rattle.mmtel_trust.specs.PrivateFields.{hidden_uri}
use Rattle.mmtel_call_services.specs.CallConfig.{CallConfigView, trusts}
use Rattle.mmtel_call.specs.Closing.{StepResult}
use Rattle.mmtel_call.specs.Opening.{call_after_opening}
use Rattle.mmtel_call.specs.Table.{step}
use Rattle.mmtel_call_theorems.specs.Noninterference.EquivalentCalls.{EquivalentCalls}
use Rattle.mmtel_call.specs.declared.calls.Call.{Call}
use Rattle.mmtel_call.specs.declared.calls.Phase.{Phase}
use Rattle.mmtel_call.specs.declared.calls.Phase.TheVariants.{Detached, Established, Offered, Over}
use Rattle.mmtel_call.specs.declared.signals.Signal.{Signal}
use Rattle.mmtel_call.specs.declared.signals.Signal.TheVariants as signal
use Rattle.mmtel_sheet_values.specs.declared.values.Sheet.{Sheet}
use Rattle.mmtel_call_theorems.specs.Noninterference.Configurations.{AllReceiveEquivalentInBoth, CallsStayEquivalentInBoth, EqualButForAccounts, OneIsEquivalent}
use Rattle.mmtel_call_theorems.specs.Noninterference.Configurations.{OpeningsAreEquivalentInBoth, PhaseRedirectsEqually, RecordsDivertEqually, RedirectsEqually, ResponseRedirectsEqually}
use Rattle.mmtel_call_theorems.specs.Noninterference.Configurations.{SignalRedirectsEqually, StepRedirectsEqually, StepsKeepEquivalenceInBoth, TracesStayEquivalentInBoth}
use Rattle.mmtel_call_theorems.specs.Noninterference.Traces.{StepPair, next, one_after, other_after}
use Rattle.mmtel_call_theorems.specs.Noninterference.Roles.{Role, private_fields, without_private}
use Rattle.mmtel_call_theorems.specs.Noninterference.Observations.{EquivalentSteps, Trust, trust_of}
use Rattle.mmtel_call_theorems.specs.Noninterference.StepTable.{MayReceive, RespondsIn, RespondsToOne}
use Rattle.mmtel_call_theorems.proofs.Noninterference.Openings.{openings_are_equivalent, openings_give_equivalent_calls}
use Rattle.mmtel_call_theorems.proofs.Noninterference.EquivalentCalls.{calls_stay_equivalent, steps_keep_equivalence}
use Rattle.mmtel_call_theorems.proofs.Noninterference.Lookups.{openings_see_lookups_alone, steps_see_lookups_alone}
use Rattle.mmtel_call_theorems.proofs.Noninterference.Sent.{Heads}

-- ---- the URI to which a call is redirected is never private

redirect_left : (b : Bool) (u : Option (List ℕ)) → hidden_uri (b && false) u ≡ u
redirect_left true u = refl
redirect_left false u = refl

-- so nothing of it is hidden in the response that redirects
redirects_as : (one other : CallConfigView) (role : Role) (m : MessageView) → (private_fields role m.parsed).redirect ≡ false → RedirectsEqually one other (without_private role m) → RedirectsEqually one other m
redirects_as one other role m shown looks uri is =
    looks uri (
    ap (λ (b : Bool). hidden_uri (m.parsed.trusted && b) m.parsed.redirect >>= λ x. or_no_uri (uri_of x)) shown
    ∙ (ap (λ (u : Option (List ℕ)). u >>= λ x. or_no_uri (uri_of x)) (redirect_left m.parsed.trusted m.parsed.redirect) ∙ is))

phase_leads : (p : Phase) (one other : CallConfigView) (t : Trust) (key : TKey) (role : Role) (m : MessageView) (c : Call) → RespondsIn p t key role m c → RedirectsEqually one other (without_private role m) →
    PhaseRedirectsEqually p one other m
phase_leads (Offered x) one other t key role m c receives looks = redirects_as one other role m receives.redirect looks
phase_leads (Established x stage) one other t key role m c receives looks = tt
phase_leads (Detached detached) one other t key role m c receives looks = tt
phase_leads (Over cause) one other t key role m c receives looks = tt

answer_leads : (o : Option (List ℕ)) (one other : CallConfigView) (t : Trust) (key : TKey) (role : Role) (m : MessageView) (c : Call) → RespondsToOne o t key role m c →
    RedirectsEqually one other (without_private role m) → ResponseRedirectsEqually o one other m c
answer_leads None one other t key role m c receives looks = tt
answer_leads (Some branch) one other t key role m c receives looks = λ current. phase_leads c.phase one other t key role m c (receives.0 current) looks

step_leads : (one other : CallConfigView) (t : Trust) (role : Role) (x : Signal) (c : Call) → MayReceive x t role c → SignalRedirectsEqually one other role x → StepRedirectsEqually one other x c
step_leads one other t role (signal.Request side key request) c receives looks = tt
step_leads one other t role (signal.Ack side ack) c receives looks = tt
step_leads one other t role (signal.Cancel key cancel invite) c receives looks = tt
step_leads one other t role (signal.Answer key response) c receives looks = answer_leads (awaited_request_branch response) one other t key role response c receives looks
step_leads one other t role (signal.Silent branch method) c receives looks = tt
step_leads one other t role (signal.Due what) c receives looks = tt
step_leads one other t role (signal.Ended key) c receives looks = tt

-- ---- a step

pub steps_in_both : Heads → VerdictsDependOnMatches → StepsKeepEquivalenceInBoth
steps_in_both heads law records config far keys now x y role second c d one other equal lead looks stand alike said first then a =
    subst (λ (s : StepResult). EquivalentSteps (trust_of config keys) (step config now x c one) s)
    (steps_see_lookups_alone records config far now y d other equal lead stand then.served (step_leads config far (trust_of config keys) second y d then.may_receive looks))
    (steps_keep_equivalence heads law records config keys now x y role second c d one other stand alike said first then a)

pub calls_in_both : Heads → VerdictsDependOnMatches → CallsStayEquivalentInBoth
calls_in_both heads law records config far keys now x y role second c d one other equal lead looks stand alike said first then a =
    subst (λ (s : StepResult). EquivalentCalls records (trusts config) (step config now x c one).call s.call)
    (steps_see_lookups_alone records config far now y d other equal lead stand then.served (step_leads config far (trust_of config keys) second y d then.may_receive looks))
    (calls_stay_equivalent heads law records config keys now x y role second c d one other stand alike said first then a)

pub openings_in_both : Heads → VerdictsDependOnMatches → OpeningsAreEquivalentInBoth
openings_in_both heads law records config far keys now a b one other equal lead looks first then stand alike same d =
    subst (λ (s : StepResult). EquivalentSteps (trust_of config keys) (call_after_opening config now a one) s × EquivalentCalls records (trusts config) (call_after_opening config now a one).call s.call)
    (openings_see_lookups_alone records config far now b other equal lead stand looks)
    (openings_are_equivalent heads law records config keys now a b one other first then stand alike same d, openings_give_equivalent_calls heads law records config keys now a b one other first then stand alike same d)

-- ---- traces

module _ (heads : Heads) (law : VerdictsDependOnMatches) (records : List Sheet) (config far : CallConfigView) (keys : TKey → Bool) (c d : Call) (equal : EqualButForAccounts config far)
    (lead : RecordsDivertEqually records config far) (alike : EquivalentCalls records (trusts config) c d) where
  calls : (trace : List StepPair) → AllReceiveEquivalentInBoth records config far keys c d trace → EquivalentCalls records (trusts config) (one_after config c trace) (other_after far d trace)
  calls [] receive = alike
  calls (both ∷ earlier) receive =
      let first = receive.0.0 in
      calls_in_both heads law records config far keys both.now both.one.signal both.other.signal both.one.role both.other.role (one_after config c earlier) (other_after far d earlier) both.one.output both.other.output
      equal lead receive.0.1 first.covered (calls earlier receive.1) first.signals first.one first.other first.outputs

  steps : (both : StepPair) (earlier : List StepPair) → AllReceiveEquivalentInBoth records config far keys c d (both ∷ earlier) →
      EquivalentSteps (trust_of config keys) (next config both.now both.one (one_after config c earlier)) (next far both.now both.other (other_after far d earlier))
  steps both earlier receive =
      let first = receive.0.0 in
      steps_in_both heads law records config far keys both.now both.one.signal both.other.signal both.one.role both.other.role (one_after config c earlier) (other_after far d earlier) both.one.output both.other.output
      equal lead receive.0.1 first.covered (calls earlier receive.1) first.signals first.one first.other first.outputs

pub traces_in_both : Heads → VerdictsDependOnMatches → TracesStayEquivalentInBoth
traces_in_both heads law = record {
  calls = λ records config far keys c d trace equal lead alike receive. calls heads law records config far keys c d equal lead alike trace receive;
  steps = λ records config far keys c d both earlier equal lead alike receive. steps heads law records config far keys c d equal lead alike both earlier receive;
}

-- ---- one configuration

signals_redirect_equally : (config : CallConfigView) (role : Role) (x : Signal) → SignalRedirectsEqually config config role x
signals_redirect_equally config role (signal.Request side key request) = tt
signals_redirect_equally config role (signal.Ack side ack) = tt
signals_redirect_equally config role (signal.Cancel key cancel invite) = tt
signals_redirect_equally config role (signal.Answer key response) = λ uri e. refl
signals_redirect_equally config role (signal.Silent branch method) = tt
signals_redirect_equally config role (signal.Due what) = tt
signals_redirect_equally config role (signal.Ended key) = tt

pub one_is_equivalent : OneIsEquivalent
one_is_equivalent = record {
  equal = λ config. record { sip = refl; home = refl; bound = refl; country = refl; reliable = refl; timer = refl; mwi = refl; peers = refl };
  lead = λ records config sheet is forward does. refl;
  signals = λ config role x. signals_redirect_equally config role x;
  arrives = λ config a. refl;
}
