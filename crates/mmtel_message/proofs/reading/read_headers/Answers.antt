use Rattle.std.proofs.Common.{◌≡◌, ◌+◌, ◌∙◌, ℕ, List, Some, ap, drop, map, subst, sym}
use Rattle.mmtel_message.specs.Headers.{header_line}
use Rattle.mmtel_message.specs.Held.{held_lines, value_of}
use Rattle.mmtel_message.specs.Reads.{IsReadResult, after_head, message_head}
use Rattle.mmtel_message.proofs.reading.read_headers.Goals as goal

pub returns : goal.returns
returns c =
    let same : held_lines c.args.bytes c.in_ok-headers.headers ≡ map header_line (map (value_of c.args.bytes) c.args.lines.now) =
    rw (c.bytes-2.ensures) at c.in_ok-headers.ensures in
    subst (λ (ls : List (List ℕ × List ℕ)). IsReadResult c.after_head.result (after_head (message_head (Some c.args.start) ls) (drop (c.args.end + 4) c.args.bytes))) same c.after_head.ensures
