use Rattle.mmtel_journal.specs.Gates.{Closed}
use Rattle.mmtel_journal.proofs.Moments.{started, goes_on, on_err, still_leaves}
use Rattle.mmtel_journal.proofs.Torn.{stage_stop, stage_done}
use Rattle.mmtel_journal.proofs.appends.stage.Goals as goal

pub returns-in_err-write_at-clause-err : goal.returns-in_err-write_at-clause-err
returns-in_err-write_at-clause-err g c = λ front honest is closed. on_err _ _ (stage_stop front c.args.gate _ _ _ is closed (c.write_at.ensures.stop honest))

pub returns-in_err-write_at-clause-any_moment : goal.returns-in_err-write_at-clause-any_moment
returns-in_err-write_at-clause-any_moment g c = λ front honest is closed.
    let old = c.args.disk.now in
    let start = started g.D.Disk.clock g.D.Disk.left_since old (Closed front) (λ f left. closed f (g.met.D.Disk.only_now old f honest left)) in
    goes_on g.D.Disk.clock g.D.Disk.left_since old old c.write_at.new.self (Closed front) _ start (c.write_at.ensures.time honest)
    (stage_stop front c.args.gate _ _ _ is closed (c.write_at.ensures.stop honest))

pub returns-in_err-sync-clause-err : goal.returns-in_err-sync-clause-err
returns-in_err-sync-clause-err g c = λ front honest is closed.
    let still = c.write_at.ensures.honest.0 honest in
    let first = stage_stop front c.args.gate _ _ _ is closed (c.write_at.ensures.stop honest) in
    on_err _ _ (still_leaves _ _ _ first (c.sync.ensures.stop still))

pub returns-in_err-sync-clause-any_moment : goal.returns-in_err-sync-clause-any_moment
returns-in_err-sync-clause-any_moment g c = λ front honest is closed.
    let old = c.args.disk.now in
    let still = c.write_at.ensures.honest.0 honest in
    let first = stage_stop front c.args.gate _ _ _ is closed (c.write_at.ensures.stop honest) in
    let start = started g.D.Disk.clock g.D.Disk.left_since old (Closed front) (λ f left. closed f (g.met.D.Disk.only_now old f honest left)) in
    let written = goes_on g.D.Disk.clock g.D.Disk.left_since old old c.write_at.new.self (Closed front) _ start (c.write_at.ensures.time honest) first in
    goes_on g.D.Disk.clock g.D.Disk.left_since old c.write_at.new.self c.sync.new.self (Closed front) _ written (c.sync.ensures.time still)
    (λ f left. first f (c.sync.ensures.stop still f left))

pub returns-clause-any_moment : goal.returns-clause-any_moment
returns-clause-any_moment g c = λ front honest is closed.
    let old = c.args.disk.now in
    let still = c.write_at.ensures.honest.0 honest in
    let first = stage_stop front c.args.gate _ _ _ is closed (c.write_at.ensures.stop honest) in
    let start = started g.D.Disk.clock g.D.Disk.left_since old (Closed front) (λ f left. closed f (g.met.D.Disk.only_now old f honest left)) in
    let written = goes_on g.D.Disk.clock g.D.Disk.left_since old old c.write_at.new.self (Closed front) _ start (c.write_at.ensures.time honest) first in
    goes_on g.D.Disk.clock g.D.Disk.left_since old c.write_at.new.self c.sync.new.self (Closed front) _ written (c.sync.ensures.time still)
    (λ f left. first f (c.sync.ensures.stop still f left))

pub returns-clause-ok : goal.returns-clause-ok
returns-clause-ok g c = λ front honest is closed.
    let old = c.args.disk.now in
    let still = c.write_at.ensures.honest.0 honest in
    let was = closed (g.D.Disk.contents old) (g.met.D.Disk.among old honest) in
    stage_done front c.args.gate c.args.body.now (g.D.Disk.contents old) (g.D.Disk.contents c.write_at.new.self) _ is was (c.in_ok-write_at.ensures.written honest)
    (c.in_ok-sync.ensures.durable still)
