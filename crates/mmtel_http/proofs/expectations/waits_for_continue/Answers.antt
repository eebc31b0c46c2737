use Rattle.std.proofs.Common.{◌∙◌}
use Rattle.mmtel_http.proofs.RequestTheorems.{waits_at_end, waits_not, waits_not_behind}
use Rattle.mmtel_http.proofs.expectations.waits_for_continue.Goals as goal

pub returns-then-len-bytes : goal.returns-then-len-bytes
returns-then-len-bytes c = record { exact = c.expects_continue.ensures ∙ waits_at_end c.args.bytes.now c.in-Some.len c.in-Some.ensures.value c.if-len-bytes.true }

pub returns-else-len-bytes : goal.returns-else-len-bytes
returns-else-len-bytes c = record { exact = waits_not_behind c.args.bytes.now c.in-Some.len c.in-Some.ensures.value c.if-len-bytes.false }

pub returns-in-None : goal.returns-in-None
returns-in-None c = record { exact = waits_not c.args.bytes.now c.in-None.ensures.value }
