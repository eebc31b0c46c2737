use Rattle.std.proofs.Common.{◌≤◌, arith, sym, length, length-take}
use Rattle.std.proofs.lemmas.List.{length-take-le, take_all}
use Rattle.mmtel_http.proofs.heads.head_window.Goals as goal

pub slice_bounds-result-end : goal.slice_bounds-result-end
slice_bounds-result-end c = let h : 8192 ≤ length c.args.bytes.now = omega arith in sym (length-take-le 8192 c.args.bytes.now h)

pub returns-else-bytes-gt-WEB_HEAD_BYTES-clause-front : goal.returns-else-bytes-gt-WEB_HEAD_BYTES-clause-front
returns-else-bytes-gt-WEB_HEAD_BYTES-clause-front c = sym (take_all 8192 c.args.bytes.now c.if-bytes-gt-WEB_HEAD_BYTES.false)

pub returns-then-bytes-gt-WEB_HEAD_BYTES-clause-within :
    goal.returns-then-bytes-gt-WEB_HEAD_BYTES-clause-within
returns-then-bytes-gt-WEB_HEAD_BYTES-clause-within c = omega (arith, length-take 8192 c.args.bytes.now)
