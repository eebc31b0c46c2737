use Rattle.std.proofs.Common.{◌≡◌, ℕ, subst}
use Rattle.std.specs.Option.{option_map}
use Rattle.mmtel_run_definitions.specs.Deadlines.{first_due_timer}
use Rattle.mmtel_transaction.specs.Results.{next_due}
use Rattle.mmtel_transaction.specs.Operations.{live}
use Rattle.mmtel_server.proofs.servers.Server.next_deadline.Goals as goal
use Rattle.mmtel_server_timers.specs.PendingTimers.{first_in, pending_in, queue_of}

pub returns : goal.returns
returns g c h stands =
    let queue = queue_of c.args.self.now.pending_timers in
    let first = subst (λ (n : ℕ). option_map (λ a. pending_in a) c.first_due.result ≡ first_in (first_due_timer n queue)) c.ms.ensures.number c.first_due.ensures in
    c.first_deadline.ensures (next_due c.args.now (live h)) (first_due_timer c.args.now queue) (c.upcoming.ensures.next h stands) first
