use Rattle.std.proofs.Common.{◌+◌, ◌++◌, ◌∷◌, [], inl, refl, ap, subst, arith, length}
use Rattle.mmtel_journal.specs.Disks.{Leaves}
use Rattle.mmtel_journal.specs.Gates.{Closed, Staged}
use Rattle.mmtel_journal.specs.Journal.{encoded_records, IsJournalOrMore}
use Rattle.mmtel_journal.specs.Logs.{body_bytes}
use Rattle.mmtel_journal.proofs.Moments.{then_more, on_err}
use Rattle.mmtel_journal.proofs.Records.{staged_is, gated_open, size_push, log_open, log_closed}
use Rattle.mmtel_journal.proofs.logs.Log.append.Goals as goal

pub returns-in_err-set_gate-clause-err : goal.returns-in_err-set_gate-clause-err
returns-in_err-set_gate-clause-err g c = λ payloads more honest shut is stands.
    let still = c.stage.ensures.honest.0 honest in
    let staged = subst (λ b. Leaves (g.D.Disk.may_leave c.stage.new.disk) (Staged (encoded_records payloads) b)) is
    (c.in_ok-stage.ensures.ok (encoded_records payloads) honest stands.gate (stands.closed shut)) in
    let left = c.in_err-set_gate.ensures.err (encoded_records payloads) (body_bytes more) still stands.gate staged in
    on_err _ _ (log_open g.D.Disk.may_leave payloads (more ∷ []) more (record { disk = c.set_gate.new.disk; gate = c.args.self.now.gate; pending = _ }) refl stands.gate
    (inl refl) left)

pub returns-in_err-set_gate-clause-any_moment : goal.returns-in_err-set_gate-clause-any_moment
returns-in_err-set_gate-clause-any_moment g c = λ payloads more honest shut is stands.
    let still = c.stage.ensures.honest.0 honest in
    let staged = subst (λ b. Leaves (g.D.Disk.may_leave c.stage.new.disk) (Staged (encoded_records payloads) b)) is
    (c.in_ok-stage.ensures.ok (encoded_records payloads) honest stands.gate (stands.closed shut)) in
    then_more g.D.Disk.clock g.D.Disk.left_since c.args.self.now.disk c.stage.new.disk c.set_gate.new.disk (Closed (encoded_records payloads)) (Staged (encoded_records payloads) (body_bytes more))
    (IsJournalOrMore payloads (more ∷ []))
    (c.stage.ensures.any_moment (encoded_records payloads) honest stands.gate (stands.closed shut))
    (c.set_gate.ensures.any_moment (encoded_records payloads) (body_bytes more) still stands.gate staged)
    (λ f closed. inl closed) (λ f left. staged_is payloads (more ∷ []) more f (inl refl) left)

pub returns-clause-any_moment : goal.returns-clause-any_moment
returns-clause-any_moment g c = λ payloads more honest shut is stands.
    let still = c.stage.ensures.honest.0 honest in
    let staged = subst (λ b. Leaves (g.D.Disk.may_leave c.stage.new.disk) (Staged (encoded_records payloads) b)) is
    (c.in_ok-stage.ensures.ok (encoded_records payloads) honest stands.gate (stands.closed shut)) in
    then_more g.D.Disk.clock g.D.Disk.left_since c.args.self.now.disk c.stage.new.disk c.set_gate.new.disk (Closed (encoded_records payloads)) (Staged (encoded_records payloads) (body_bytes more))
    (IsJournalOrMore payloads (more ∷ []))
    (c.stage.ensures.any_moment (encoded_records payloads) honest stands.gate (stands.closed shut))
    (c.set_gate.ensures.any_moment (encoded_records payloads) (body_bytes more) still stands.gate staged)
    (λ f closed. inl closed) (λ f left. staged_is payloads (more ∷ []) more f (inl refl) left)

pub returns-clause-ok : goal.returns-clause-ok
returns-clause-ok g c = λ payloads more honest shut is stands.
    let still = c.stage.ensures.honest.0 honest in
    let staged = subst (λ b. Leaves (g.D.Disk.may_leave c.stage.new.disk) (Staged (encoded_records payloads) b)) is
    (c.in_ok-stage.ensures.ok (encoded_records payloads) honest stands.gate (stands.closed shut)) in
    let gated = c.in_ok-set_gate.ensures.ok (encoded_records payloads) (body_bytes more) still stands.gate staged in
    log_closed g.D.Disk.may_leave (payloads ++ more ∷ []) [] (record { disk = c.set_gate.new.disk; gate = c.args.self.now.gate + length c.args.body.now; pending = _ }) refl
    (omega (arith, size_push payloads more, ap length is, stands.gate)) (λ f left. gated_open payloads more f (gated f left))
