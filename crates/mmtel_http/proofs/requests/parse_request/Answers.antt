use Rattle.std.proofs.Common.{◌∙◌, sym}
use Rattle.mmtel_http.proofs.RequestTheorems.{too_long, not_long, ended}
use Rattle.mmtel_http.proofs.requests.parse_request.Goals as goal

pub returns-then-bytes-gt-WEB_HEAD_BYTES : goal.returns-then-bytes-gt-WEB_HEAD_BYTES
returns-then-bytes-gt-WEB_HEAD_BYTES c = record { exact = too_long c.args.bytes.now (sym c.end.ensures.value ∙ c.in-None.is) c.if-bytes-gt-WEB_HEAD_BYTES.true }

pub returns-else-bytes-gt-WEB_HEAD_BYTES : goal.returns-else-bytes-gt-WEB_HEAD_BYTES
returns-else-bytes-gt-WEB_HEAD_BYTES c = record { exact = not_long c.args.bytes.now (sym c.end.ensures.value ∙ c.in-None.is) c.if-bytes-gt-WEB_HEAD_BYTES.false }

pub returns-in-Some : goal.returns-in-Some
returns-in-Some c =
    record { exact = ended c.args.bytes.now c.in-Some.len _ (sym c.end.ensures.value ∙ c.in-Some.is) c.in-Some.ensures.within (rw (c.split_at.ensures.front, c.split_at.ensures.back) at c.request_by_head.ensures) }
