use Rattle.std.proofs.Common.{List, ℕ, Option, sym, subst}
use Rattle.std.specs.Prelude.{OnOk}
use Rattle.mmtel_run_definitions.specs.Transitions.{with_emit, with_retransmission}
use Rattle.mmtel_transaction.specs.declared.words.Emit.TheVariants as emit
use Rattle.mmtel_types.specs.declared.numbers.Peer.{Peer}
use Rattle.mmtel_server.proofs.servers.Server.retransmit.Goals as goal
use Rattle.mmtel_server.specs.Follows.{Follows}

pub returns-in-Some-clause-done : goal.returns-in-Some-clause-done
returns-in-Some-clause-done c =
    subst (λ (x : Option (Peer × List ℕ)). OnOk c.send_text.result (Follows c.args.self.now c.args.out.now c.send_text.new.self c.send_text.new.out (λ d token. with_retransmission c.args.context.now.at x)))
    (sym c.in-Some.is)
    (subst (λ (t : List ℕ). OnOk c.send_text.result
    (Follows c.args.self.now c.args.out.now c.send_text.new.self c.send_text.new.out (λ d token. with_emit c.args.context.now.at (emit.Plain c.in-Some.peer t)))) c.bytes.ensures c.send_text.ensures.done)
