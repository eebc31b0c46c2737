use Rattle.std.proofs.Common.{◌≡◌, ◌∙◌, ◌+◌, ◌<◌, ◌++◌, Bool, false, List, Result, Ok, Err, OnOk, is_err, ap, ◌∷◌, [], drop, length, sym, subst}
use Rattle.mmtel_sockets.specs.Reading.{IsRemovedFrom, streams}
use Rattle.mmtel_sockets.specs.declared.connections.Connection.{Connection}
use Rattle.mmtel_sockets.proofs.Rounds.{Round, kept_waiting, removed_due}
use Rattle.mmtel_sockets.proofs.connections.find_due.Goals as goal

was_done : {T E : Type 0} (r : Result T E) (P : Type 0) → OnOk r P → is_err r ≡ false → P
was_done (Ok x) P p is = p
was_done (Err e) P p is = absurd cc

pub returns-in-Due : goal.returns-in-Due
returns-in-Due c =
    let before = c.args.waiting.now in
    let turn : c.loop-turn._turn < length before = rw c.items-turn-end.ensures at c.loop-turn-test.true in
    subst (λ (rest : List Connection). IsRemovedFrom (streams before) (streams rest) c.step.new.self.stream) (sym c.remove-connection.ensures.rest)
    (removed_due c.args.now before c.loop-turn._turn c.loop-turn.waiting c.remove-connection.result c.step.new.self c.loop-turn.invariant turn
    c.remove-connection.ensures.handed_out c.step.ensures.stays)

pub loop-turn-preserved : goal.loop-turn-preserved
loop-turn-preserved c =
    let before = c.args.waiting.now in
    let turn : c.loop-turn._turn < length before = rw c.items-turn-end.ensures at c.loop-turn-test.true in
    let pushed : c.push.new.self ≡ drop 1 c.loop-turn.waiting ++ c.step.new.self ∷ [] =
    was_done c.push.result _ c.push.ensures.ok (sym c.is_err.ensures.value ∙ c.if-is_err.false) ∙ ap (λ (rest : List Connection). rest ++ c.step.new.self ∷ []) c.remove-connection.ensures.rest in
    subst (Round c.args.now before (c.loop-turn._turn + 1)) (sym pushed)
    (kept_waiting c.args.now before c.loop-turn._turn c.loop-turn.waiting c.remove-connection.result c.step.new.self c.loop-turn.invariant turn
    c.remove-connection.ensures.handed_out c.step.ensures.stays c.in-Waits.ensures.needed.0)
