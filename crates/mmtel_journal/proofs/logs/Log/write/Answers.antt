use Rattle.std.proofs.Common.{◌++◌, ◌∷◌, []}
use Rattle.mmtel_journal.specs.Journal.{IsJournalOrMore}
use Rattle.mmtel_journal.proofs.Moments.{weaker, then_more, on_err}
use Rattle.mmtel_journal.proofs.Records.{log_left, log_right, more_left, more_right}
use Rattle.mmtel_journal.proofs.logs.Log.write.Goals as goal

pub returns-in_err-settle-clause-err : goal.returns-in_err-settle-clause-err
returns-in_err-settle-clause-err g c = λ payloads others more honest is stands.
    on_err _ _ (log_left g.D.Disk.may_leave payloads others (more ∷ []) c.settle.new.self (c.in_err-settle.ensures.err payloads others honest stands))

pub returns-in_err-settle-clause-any_moment : goal.returns-in_err-settle-clause-any_moment
returns-in_err-settle-clause-any_moment g c = λ payloads others more honest is stands.
    weaker g.D.Disk.clock g.D.Disk.left_since c.args.self.now.disk c.settle.new.self.disk (IsJournalOrMore payloads others) (IsJournalOrMore payloads (others ++ more ∷ []))
    (c.settle.ensures.any_moment payloads others honest stands) (λ f left. more_left payloads others (more ∷ []) f left)

pub returns-in_err-append-clause-err : goal.returns-in_err-append-clause-err
returns-in_err-append-clause-err g c = λ payloads others more honest is stands.
    let still = c.settle.ensures.honest.0 honest in
    let settled = c.in_ok-settle.ensures.ok payloads others honest stands in
    on_err _ _ (log_right g.D.Disk.may_leave payloads others (more ∷ []) c.append.new.self
    (c.in_err-append.ensures.err payloads more still c.in_ok-settle.ensures.closed is settled))

pub returns-in_err-append-clause-any_moment : goal.returns-in_err-append-clause-any_moment
returns-in_err-append-clause-any_moment g c = λ payloads others more honest is stands.
    let still = c.settle.ensures.honest.0 honest in
    let settled = c.in_ok-settle.ensures.ok payloads others honest stands in
    then_more g.D.Disk.clock g.D.Disk.left_since c.args.self.now.disk c.settle.new.self.disk c.append.new.self.disk (IsJournalOrMore payloads others)
    (IsJournalOrMore payloads (more ∷ [])) (IsJournalOrMore payloads (others ++ more ∷ []))
    (c.settle.ensures.any_moment payloads others honest stands) (c.append.ensures.any_moment payloads more still c.in_ok-settle.ensures.closed is settled)
    (λ f left. more_left payloads others (more ∷ []) f left) (λ f left. more_right payloads others (more ∷ []) f left)

pub returns-clause-any_moment : goal.returns-clause-any_moment
returns-clause-any_moment g c = λ payloads others more honest is stands.
    let still = c.settle.ensures.honest.0 honest in
    let settled = c.in_ok-settle.ensures.ok payloads others honest stands in
    then_more g.D.Disk.clock g.D.Disk.left_since c.args.self.now.disk c.settle.new.self.disk c.append.new.self.disk (IsJournalOrMore payloads others)
    (IsJournalOrMore payloads (more ∷ [])) (IsJournalOrMore payloads (others ++ more ∷ []))
    (c.settle.ensures.any_moment payloads others honest stands) (c.append.ensures.any_moment payloads more still c.in_ok-settle.ensures.closed is settled)
    (λ f left. more_left payloads others (more ∷ []) f left) (λ f left. more_right payloads others (more ∷ []) f left)

pub returns-clause-ok : goal.returns-clause-ok
returns-clause-ok g c = λ payloads others more honest is stands.
    let still = c.settle.ensures.honest.0 honest in
    let settled = c.in_ok-settle.ensures.ok payloads others honest stands in
    c.in_ok-append.ensures.ok payloads more still c.in_ok-settle.ensures.closed is settled
