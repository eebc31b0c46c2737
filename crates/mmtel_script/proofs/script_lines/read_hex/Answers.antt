use Rattle.mmtel_script.proofs.HexTheorems.{next_pair}
use Rattle.mmtel_script.proofs.script_lines.read_hex.Goals as goal

pub pairs-preserved : goal.pairs-preserved
pairs-preserved c = next_pair c.pairs.bytes c.push.new.self c.pairs.rest.now c.in-Some.byte c.in-Some.more.now _ c.in_ok-push-in-Some.ensures.ok c.in-Some.ensures.bytes c.pairs.invariant
