-- The requests in flight were received after the INVITE that opened the call: so their server transactions are other ones than that of this INVITE, if those of all later requests are.
use Rattle.std.proofs.Common.{[], ◌∷◌, ◌≡◌, ◌==◌, ◌⊎◌, List, false, inl, inr, sym, subst}
use Rattle.mmtel_output.specs.declared.outputs.StepOutput.{StepOutput}
use Rattle.mmtel_precedence.specs.Calls.{SnapshotView}
use Rattle.mmtel_transaction.specs.declared.words.TKey.{TKey}
use Rattle.mmtel_call_services.specs.CallConfig.{CallConfigView}
use Rattle.mmtel_call.specs.Table.{step}
use Rattle.mmtel_call.specs.declared.calls.Call.{Call}
use Rattle.mmtel_call.specs.declared.calls.RelayedTransaction.{RelayedTransaction}
use Rattle.mmtel_call.specs.declared.signals.Signal.{Signal}
use Rattle.mmtel_call_theorems.specs.Dismissal as dismissal
use Rattle.mmtel_call_theorems.specs.Dismissal.{AreDismissed, InFlightContinues, ReceivedIsOf}
use Rattle.mmtel_call_theorems.specs.Labels.{HasOtherKey, HaveEmptyOutputs, InFlightHasOtherKeys}
use Rattle.mmtel_call_theorems.specs.CallTrace.{TraceStart, TraceStep, call_after}
use Rattle.mmtel_call_theorems.proofs.Dismissal.{nothing_in_flight, steps_go_on}
use Rattle.mmtel_call_theorems.proofs.Each.{each_append, each_without}

abbrev IsOther : TKey → RelayedTransaction → Type 0
IsOther key flight = (flight.exchange.key.0 == key.0) ≡ false

-- on whatever it receives
pub flies : (config : CallConfigView) (now : SnapshotView) (received : Signal) (c : Call) (output : StepOutput) (key : TKey) → InFlightHasOtherKeys key c.relayed → HasOtherKey key received →
    InFlightHasOtherKeys key (step config now received c output).call.relayed
flies config now received c output key fly other = by (steps_go_on config now received c output)
  where
    by : InFlightContinues received c output (step config now received c output) ⊎ AreDismissed config (ReceivedIsOf received) c output (step config now received c output) →
        InFlightHasOtherKeys key (step config now received c output).call.relayed
    by (inl (dismissal.Same f)) = subst (InFlightHasOtherKeys key) (sym f) fly
    by (inl (dismissal.OneRelayed flight is f)) = subst (InFlightHasOtherKeys key) (sym f) (each_append (IsOther key) c.relayed (flight ∷ []) fly (subst (HasOtherKey key) is.received other, tt))
    by (inl (dismissal.OneAnswered place flight is)) = subst (InFlightHasOtherKeys key) (sym is.gone) (each_without (IsOther key) place c.relayed fly)
    by (inr d) = subst (InFlightHasOtherKeys key) (sym d.none) tt

-- and so in every trace
pub own_fly : (s : TraceStart) (received : List TraceStep) → HaveEmptyOutputs s received → InFlightHasOtherKeys s.arrival.key (call_after s received).relayed
unfolding call_after
own_fly s [] own = subst (InFlightHasOtherKeys s.arrival.key) (sym (nothing_in_flight.first s)) tt
own_fly s (x ∷ earlier) own = flies s.config x.now x.signal (call_after s earlier) x.output s.arrival.key (own_fly s earlier own.2) own.1
