use Rattle.std.proofs.Common.{◌≡◌, ◌+◌, ◌++◌, List, None, sym, ap, ◌∙◌, subst, arith}
use Rattle.mmtel_run_definitions.specs.Deadlines.{PendingTimer, first_deadline, first_due_timer}
use Rattle.mmtel_run_definitions.specs.Run.{after_due_deadlines, first_due_deadline}
use Rattle.mmtel_run_definitions.specs.ShortRuns.{IsShort}
use Rattle.mmtel_run_definitions.specs.Transitions.{RunState, after_deadline}
use Rattle.mmtel_transaction.specs.Results.{next_due}
use Rattle.mmtel_transaction.specs.Operations.{live}
use Rattle.mmtel_server_timers.proofs.PendingTimers.{unkind}
use Rattle.mmtel_server_timers.specs.PendingTimers.{queue_of}
use Rattle.mmtel_server.proofs.Timers.{first_fires}
use Rattle.mmtel_server.proofs.Grows.{kept_of, on_err, prefix_of, prefix_on, short_of}
use Rattle.mmtel_server.proofs.Settling.{enough_same, fired_steps, never_longer, settled_last, settles}
use Rattle.mmtel_server.proofs.servers.Server.fire_all_due.Goals as goal
use Rattle.mmtel_server.specs.Representation.{RepresentsWithOffers}

pub returns-in-None-clause-done : goal.returns-in-None-clause-done
returns-in-None-clause-done g c fuel d token before w did e s =
    let so_far = c.loop-i.invariant fuel d token before w did e s in
    let v : RunState = after_due_deadlines d token c.loop-i.i c.args.now w in
    let stands = so_far.0.represents in
    let found = c.in-None.ensures v.actions stands.transactions in
    let none : first_due_deadline c.args.now v ≡ None = sym (ap (λ (q : List PendingTimer). first_deadline (next_due c.args.now (live v.actions)) (first_due_timer c.args.now q)) stands.pending_timers)
    ∙ unkind (first_deadline (next_due c.args.now (live v.actions)) (first_due_timer c.args.now (queue_of c.loop-i.self.pending_timers))) found in
    subst (λ (x : RunState). RepresentsWithOffers d token before c.loop-i.self c.loop-i.out x) (enough_same d token c.loop-i.i fuel c.args.now w none e) so_far.0

pub loop-i-preserved : goal.loop-i-preserved
loop-i-preserved g c fuel d token before w did e s =
    let law = c.numbers_never_fall.ensures in
    let now = c.args.now in
    let i = c.loop-i.i in
    let so_far = c.loop-i.invariant fuel d token before w did e s in
    let v : RunState = after_due_deadlines d token i now w in
    let stands = so_far.0.represents in
    let one = first_fires d token now v c.loop-i.self.pending_timers c.in-Some.deadline stands.pending_timers (c.in-Some.ensures v.actions stands.transactions) in
    let last : after_due_deadlines d token (i + 1) now w ≡ after_deadline d token now one.0 v = settled_last d token i now w ∙ one.3 in
    let few : IsShort (after_deadline d token now one.0 v) =
    subst IsShort last (short_of (after_due_deadlines d token (i + 1) now w) (after_due_deadlines d token fuel now w) (never_longer d token law (i + 1) fuel now w e) s) in
    let steps : (after_due_deadlines d token (i + 1) now w).steps ≡ v.steps + 1 = ap (λ (x : RunState). x.steps) last ∙ fired_steps d token now one.0 v in (
      subst (λ (x : RunState). RepresentsWithOffers d token before c.fire_first.new.self c.fire_first.new.out x) (sym last) (c.in_ok-fire_first-in-Some.ensures.done one.0 one.1 one.2 d token before v so_far.0 few),
      omega (arith, steps, so_far.1),
    )

pub returns-in_err-fire_first-in-Some-clause-err : goal.returns-in_err-fire_first-in-Some-clause-err
returns-in_err-fire_first-in-Some-clause-err g c = on_err c.from_residual.result _ (λ fuel d token before w did e s.
    let law = c.numbers_never_fall.ensures in
    let now = c.args.now in
    let i = c.loop-i.i in
    let so_far = c.loop-i.invariant fuel d token before w did e s in
    let v : RunState = after_due_deadlines d token i now w in
    let all : RunState = after_due_deadlines d token fuel now w in
    let stands = so_far.0.represents in
    let one = first_fires d token now v c.loop-i.self.pending_timers c.in-Some.deadline stands.pending_timers (c.in-Some.ensures v.actions stands.transactions) in
    let next : RunState = after_deadline d token now one.0 v in
    let last : after_due_deadlines d token (i + 1) now w ≡ next = settled_last d token i now w ∙ one.3 in
    let longer = never_longer d token law (i + 1) fuel now w e in
    let cut = c.in_err-fire_first-in-Some.ensures.err one.0 one.1 one.2 d token before v so_far.0 (subst IsShort last (short_of (after_due_deadlines d token (i + 1) now w) all longer s)) in (
      prefix_on c.args.out.now c.loop-i.out c.fire_first.new.out (kept_of before c.args.out.now c.loop-i.out w v (settles d token law i now w) did.offers so_far.0.offers) cut.0,
      prefix_on c.fire_first.new.out (before ++ next.offers) (before ++ all.offers) cut.1
          (prefix_of before (before ++ next.offers) (after_due_deadlines d token (i + 1) now w) all longer (ap (λ (x : RunState). before ++ x.offers) (sym last))),
    ))

pub returns-clause-done : goal.returns-clause-done
returns-clause-done g c fuel d token before w did e s =
    let so_far = c.loop-i.invariant fuel d token before w did e s in
    absurd (omega (arith, c.loop-i-test.false, so_far.1, s.steps, (never_longer d token c.numbers_never_fall.ensures c.loop-i.i fuel c.args.now w e).steps))
