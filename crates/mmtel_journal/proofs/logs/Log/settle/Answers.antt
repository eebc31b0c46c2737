use Rattle.std.proofs.Common.{[], refl, arith}
use Rattle.mmtel_journal.specs.Gates.{Staged}
use Rattle.mmtel_journal.specs.Journal.{encoded_records, IsJournalOrMore}
use Rattle.mmtel_journal.specs.Logs.{body_bytes}
use Rattle.mmtel_journal.proofs.Moments.{weaker, on_err}
use Rattle.mmtel_journal.proofs.Records.{staged_is, gated_shut, log_open, log_closed}
use Rattle.mmtel_journal.proofs.logs.Log.settle.Goals as goal

pub returns-in_err-set_gate-clause-err : goal.returns-in_err-set_gate-clause-err
returns-in_err-set_gate-clause-err g c = λ payloads others honest stands.
    let up = c.if-self.true in
    let one = stands.pending up in
    let left = c.in_err-set_gate.ensures.err (encoded_records payloads) (body_bytes one.0) honest stands.gate one.2 in
    on_err _ _ (log_open g.D.Disk.may_leave payloads others one.0
    (record { disk = c.set_gate.new.disk; gate = c.args.self.now.gate; pending = c.args.self.now.pending }) up stands.gate one.1 left)

pub returns-in_err-set_gate-clause-any_moment : goal.returns-in_err-set_gate-clause-any_moment
returns-in_err-set_gate-clause-any_moment g c = λ payloads others honest stands.
    let one = stands.pending c.if-self.true in
    weaker g.D.Disk.clock g.D.Disk.left_since c.args.self.now.disk c.set_gate.new.disk (Staged (encoded_records payloads) (body_bytes one.0)) (IsJournalOrMore payloads others)
    (c.set_gate.ensures.any_moment (encoded_records payloads) (body_bytes one.0) honest stands.gate one.2) (λ f is. staged_is payloads others one.0 f one.1 is)

pub returns-then-self-clause-any_moment : goal.returns-then-self-clause-any_moment
returns-then-self-clause-any_moment g c = λ payloads others honest stands.
    let one = stands.pending c.if-self.true in
    weaker g.D.Disk.clock g.D.Disk.left_since c.args.self.now.disk c.set_gate.new.disk (Staged (encoded_records payloads) (body_bytes one.0)) (IsJournalOrMore payloads others)
    (c.set_gate.ensures.any_moment (encoded_records payloads) (body_bytes one.0) honest stands.gate one.2) (λ f is. staged_is payloads others one.0 f one.1 is)

pub returns-then-self-clause-ok : goal.returns-then-self-clause-ok
returns-then-self-clause-ok g c = λ payloads others honest stands.
    let one = stands.pending c.if-self.true in
    let gated = c.in_ok-set_gate.ensures.ok (encoded_records payloads) (body_bytes one.0) honest stands.gate one.2 in
    log_closed g.D.Disk.may_leave payloads [] (record { disk = c.set_gate.new.disk; gate = c.args.self.now.gate; pending = _ }) refl stands.gate
    (λ f left. gated_shut payloads 0 (body_bytes one.0) f (λ e. absurd (omega (arith, e))) (gated f left))
