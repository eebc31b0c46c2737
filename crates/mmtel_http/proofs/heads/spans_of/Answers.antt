use Rattle.std.proofs.Common.{◌∙◌}
use Rattle.mmtel_http.proofs.RequestTheorems.{head_found, no_head}
use Rattle.mmtel_http.proofs.heads.spans_of.Goals as goal

pub returns-then-parts-head-clause-exact : goal.returns-then-parts-head-clause-exact
returns-then-parts-head-clause-exact c =
    head_found c.args.head.now c.parse_request.new.headers c.in-Ok-Complete.parts (c.parse_request.auto.headers ∙ c.told-spans) c.if-parts-head.true
    (rw c.in-Ok-Complete.field-0-is at c.in-Ok-Complete.ensures.complete)

pub returns-else-parts-head-clause-exact : goal.returns-else-parts-head-clause-exact
returns-else-parts-head-clause-exact c =
    no_head c.args.head.now _ c.parse_request.new.headers c.parse_request.result c.told-spans c.parse_request.ensures.found
    (rw (c.in-Ok-Complete.is, c.in-Ok-Complete.field-0-is) c.if-parts-head.false)

pub returns-in-Ok-Partial-clause-exact : goal.returns-in-Ok-Partial-clause-exact
returns-in-Ok-Partial-clause-exact c =
    no_head c.args.head.now _ c.parse_request.new.headers c.parse_request.result c.told-spans c.parse_request.ensures.found
    (rw (c.in-Ok-Partial.is, c.in-Ok-Partial.field-0-is) (λ x. x))

pub returns-in-Err-clause-exact : goal.returns-in-Err-clause-exact
returns-in-Err-clause-exact c =
    no_head c.args.head.now _ c.parse_request.new.headers c.parse_request.result c.told-spans c.parse_request.ensures.found (rw c.in-Err.is (λ x. x))
