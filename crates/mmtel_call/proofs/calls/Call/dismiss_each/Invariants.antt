-- the remaining requests get their final responses after the current output
use Rattle.std.proofs.Common.{◌≡◌, drop, if◌then◌else◌, not}
use Rattle.std.specs.List.{filter}
use Rattle.mmtel_call.specs.Calls.{RelayedTransaction}
use Rattle.mmtel_call.specs.RelayedTransactions.{is_updating, with_dismissals}
use Rattle.mmtel_call.proofs.calls.Call.dismiss_each.Given as goal

abbrev pub invariant-loop-flight : goal.invariant-loop-flight
invariant-loop-flight l =
    with_dismissals l.config l.self (filter (λ (flight : RelayedTransaction). if l.updates then is_updating flight else not (is_updating flight)) (drop l.flight-index l.transactions)) l.output
    ≡ with_dismissals l.config l.self (filter (λ (flight : RelayedTransaction). if l.updates then is_updating flight else not (is_updating flight)) l.transactions) l.fn.output
