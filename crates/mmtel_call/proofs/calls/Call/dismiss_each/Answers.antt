-- one more of the remaining requests gets its final response
use Rattle.std.proofs.Common.{◌≡◌, ◌+◌, ◌<◌, ◌∙◌, ℕ, Bool, true, false, not, if◌then◌else◌, List, ◌∷◌, length, drop, get_or, refl, sym, ap, drop-cons, add-one}
use Rattle.std.specs.List.{filter}
use Rattle.mmtel_output.specs.declared.outputs.StepOutput.{StepOutput}
use Rattle.mmtel_call_services.specs.CallConfig.{CallConfigView}
use Rattle.mmtel_call.specs.Calls.{Call, RelayedTransaction}
use Rattle.mmtel_call.specs.RelayedTransactions.{is_updating, with_dismissal, with_dismissals}
use Rattle.mmtel_call.proofs.calls.Call.dismiss_each.Goals as goal

answered_first : (due : Bool) (config : CallConfigView) (c : Call) (f : RelayedTransaction) (fs : List RelayedTransaction) (output : StepOutput) →
    with_dismissals config c (if due then f ∷ fs else fs) output ≡ with_dismissals config c fs (if due then with_dismissal config c f output else output)
answered_first true config c f fs output = refl
answered_first false config c f fs output = refl

one_more : (is_due : RelayedTransaction → Bool) (config : CallConfigView) (c : Call) (fs : List RelayedTransaction) (i : ℕ) (f : RelayedTransaction) (output whole : StepOutput) → i < length fs → f ≡ get_or fs i f →
    with_dismissals config c (filter is_due (drop i fs)) output ≡ whole →
    with_dismissals config c (filter is_due (drop (i + 1) fs)) (if is_due f then with_dismissal config c f output else output) ≡ whole
one_more is_due config c fs i f output whole lt at_i so_far =
    let one : drop i fs ≡ f ∷ drop (i + 1) fs = rw (add-one, drop-cons fs i f lt, sym at_i) refl in
    sym (answered_first (is_due f) config c f (filter is_due (drop (i + 1) fs)) output)
    ∙ (ap (λ (xs : List RelayedTransaction). with_dismissals config c (filter is_due xs) output) (sym one) ∙ so_far)

pub loop-flight-preserved : goal.loop-flight-preserved
loop-flight-preserved c =
    let whole : StepOutput =
    with_dismissals c.args.config.now c.args.self.now (filter (λ (f : RelayedTransaction). if c.args.updates then is_updating f else not (is_updating f)) c.args.transactions.now) c.args.output.now in
    rw c.in_ok-dismiss_one.ensures
    (one_more (λ (f : RelayedTransaction). if c.args.updates then is_updating f else not (is_updating f)) c.args.config.now c.args.self.now c.args.transactions.now c.loop-flight.flight-index c.flight-item.result
    c.loop-flight.output whole c.loop-flight-test.true c.flight-item.is c.loop-flight.invariant)
