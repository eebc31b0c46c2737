-- A call that opens has the number that was passed to it.
use Rattle.std.proofs.Common.{◌≡◌, [], ap}
use Rattle.mmtel_output.specs.declared.outputs.StepOutput.{StepOutput}
use Rattle.mmtel_precedence.specs.Calls.{SnapshotView}
use Rattle.mmtel_call_services.specs.CallConfig.{CallConfigView}
use Rattle.mmtel_call_services.specs.declared.openings.Arrival.{Arrival}
use Rattle.mmtel_call_services.specs.declared.openings.Opening.{Opening}
use Rattle.mmtel_call.specs.Opening.{call_after_opening}
use Rattle.mmtel_call_theorems.specs.Continuation.{CallsContinue}
use Rattle.mmtel_call_theorems.specs.CallTrace.{call_after}

pub opened_number : CallsContinue → (config : CallConfigView) (now : SnapshotView) (a : Arrival) (output : StepOutput) → (call_after_opening config now a output).call.opening.number ≡ a.number
unfolding call_after
opened_number law config now a output = ap (λ (o : Opening). o.number) (law.opening (record { config = config; now = now; arrival = a; output = output }) [])
