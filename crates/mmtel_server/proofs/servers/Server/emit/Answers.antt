use Rattle.std.proofs.Common.{List, ℕ, sym, subst}
use Rattle.std.specs.Prelude.{OnOk}
use Rattle.std.proofs.lemmas.Result.{on_ok_weaker}
use Rattle.mmtel_run_definitions.specs.Transitions.{with_emit}
use Rattle.mmtel_transaction.specs.declared.words.Emit.{Emit}
use Rattle.mmtel_transaction.specs.declared.words.Emit.TheVariants as emit
use Rattle.mmtel_server.proofs.servers.Server.emit.Goals as goal
use Rattle.mmtel_server.specs.Follows.{Follows}

pub returns-in-Ask-clause-done : goal.returns-in-Ask-clause-done
returns-in-Ask-clause-done g c = subst (λ (x : Emit). OnOk c.send_request.result (Follows c.args.self.now c.args.out.now c.send_request.new.self c.send_request.new.out (λ d token. with_emit c.args.context.now.at x)))
    (sym c.in-Ask.is) c.send_request.ensures.done

pub returns-in-Reply-clause-done : goal.returns-in-Reply-clause-done
returns-in-Reply-clause-done g c =
    subst (λ (x : Emit). OnOk c.send_response.result (Follows c.args.self.now c.args.out.now c.send_response.new.self c.send_response.new.out (λ d token. with_emit c.args.context.now.at x)))
    (sym c.in-Reply.is) c.send_response.ensures.done

pub returns-in-Plain-clause-done : goal.returns-in-Plain-clause-done
returns-in-Plain-clause-done g c =
    subst (λ (x : Emit). OnOk c.send_text.result (Follows c.args.self.now c.args.out.now c.send_text.new.self c.send_text.new.out (λ d token. with_emit c.args.context.now.at x))) (sym c.in-Plain.is)
    (subst (λ (t : List ℕ). OnOk c.send_text.result
    (Follows c.args.self.now c.args.out.now c.send_text.new.self c.send_text.new.out (λ d token. with_emit c.args.context.now.at (emit.Plain c.in-Plain.peer t)))) c.bytes.ensures c.send_text.ensures.done)

pub returns-in-Ack-clause-done : goal.returns-in-Ack-clause-done
returns-in-Ack-clause-done g c = subst (λ (x : Emit). OnOk c.send_ack.result
    (Follows c.args.self.now c.args.out.now c.send_ack.new.self c.send_ack.new.out (λ d token. with_emit c.args.context.now.at x))) (sym c.in-Ack.is) c.send_ack.ensures.done

pub returns-in-Settled-clause-done : goal.returns-in-Settled-clause-done
returns-in-Settled-clause-done g c = on_ok_weaker c.settle_responses.result (λ follows.
    subst (λ (x : Emit). Follows c.args.self.now c.args.out.now c.settle_responses.new.self c.args.out.now (λ d token. with_emit c.args.context.now.at x)) (sym c.in-Settled.is) (follows c.args.out.now))
    c.settle_responses.ensures.done

pub returns-in-Arm-clause-done : goal.returns-in-Arm-clause-done
returns-in-Arm-clause-done g c = on_ok_weaker c.arm_timer.result (λ follows.
    subst (λ (x : Emit). Follows c.args.self.now c.args.out.now c.arm_timer.new.self c.args.out.now (λ d token. with_emit c.args.context.now.at x)) (sym c.in-Arm.is) (follows c.args.out.now))
    c.arm_timer.ensures.done

pub returns-in-ArmSeat-clause-done : goal.returns-in-ArmSeat-clause-done
returns-in-ArmSeat-clause-done g c = on_ok_weaker c.arm_timer-in-ArmSeat.result (λ follows.
    subst (λ (x : Emit). Follows c.args.self.now c.args.out.now c.arm_timer-in-ArmSeat.new.self c.args.out.now (λ d token. with_emit c.args.context.now.at x)) (sym c.in-ArmSeat.is) (follows c.args.out.now))
    c.arm_timer-in-ArmSeat.ensures.done
