use Rattle.std.proofs.Common.{◌≡◌, ◌+◌, ◌∷◌, [], drop, length, subst}
use Rattle.mmtel_message.specs.Held.{Lines, value_of}
use Rattle.mmtel_message.specs.Message.{lines_named}
use Rattle.mmtel_message.proofs.HeldTheorems.{next_added, next_nowhere, next_received}
use Rattle.mmtel_message.proofs.held.Lines.next_named.Goals as goal

pub returns-in-Some-clause-line : goal.returns-in-Some-clause-line
returns-in-Some-clause-line c =
    let s = c.self.inside.received.now in
    let name = c.args.name.now in
    let line = c.in-Some.line.now in
    let after = c.in-Some.after in
    rw (c.bytes.ensures, c.value_of.ensures) (
    subst (λ (l : Lines). lines_named name (drop c.args.from l.values) ≡ (line.0, value_of s line.1) ∷ lines_named name (drop after l.values)) c.self.view_is
    (next_received s name c.self.inside.held.now c.self.inside.added.now c.args.from line after c.in-Some.ensures.later.0 c.in-Some.ensures.later.1 c.in-Some.ensures.line)
    )

pub returns-in-None-line_from-clause-line : goal.returns-in-None-line_from-clause-line
returns-in-None-line_from-clause-line c =
    let name = c.args.name.now in
    let behind = rw c.saturating_sub.ensures at c.in-None-line_from.ensures.line in
    subst (λ (l : Lines). lines_named name (drop c.args.from l.values) ≡ []) c.self.view_is
    (next_nowhere c.self.inside.received.now name c.self.inside.held.now c.self.inside.added.now c.args.from c.in-None.ensures.line behind)

pub returns-in-Some-line_from-clause-line : goal.returns-in-Some-line_from-clause-line
returns-in-Some-line_from-clause-line c =
    let name = c.args.name.now in
    let line = c.in-Some-line_from.line.now in
    let after = c.in-Some-line_from.after in
    let behind = rw c.saturating_sub.ensures at c.in-Some-line_from.ensures.line in
    rw (c.bytes-in-Some-line_from.ensures, c.bytes-in-Some-line_from-2.ensures) (
    subst (λ (l : Lines). lines_named name (drop c.args.from l.values) ≡ (line.0, line.1) ∷ lines_named name (drop (length c.self.inside.held.now + after) l.values)) c.self.view_is
    (next_added c.self.inside.received.now name c.self.inside.held.now c.self.inside.added.now c.args.from line after c.in-None.ensures.line behind)
    )
