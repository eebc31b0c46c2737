use Rattle.std.proofs.Common.{◌≡◌, ◌==◌, ◌&&◌, true, get_or, arith}
use Rattle.std.proofs.lemmas.Bool.Decides.{nat_tests}
use Rattle.std.proofs.lemmas.Grind.{common_steps}
use Rattle.mmtel_script.proofs.Pieces.{first_of, stops_at, runs_out}
use Rattle.mmtel_script.proofs.listings.first_piece_len.Goals as goal

pub returns-then-byte-eq10-clause-first : goal.returns-then-byte-eq10-clause-first
returns-then-byte-eq10-clause-first c =
    let ends : (c.loop-i.after_cr && get_or c.args.bytes.now c.loop-i.i 0 == 10) ≡ true = grind (arith, common_steps, nat_tests) in
    first_of c.args.bytes.now _ c.requires (stops_at _ c.loop-i.i c.loop-i.after_cr c.args.bytes.now (omega arith) ends c.loop-i.invariant)

pub returns-clause-first : goal.returns-clause-first
returns-clause-first c =
    first_of c.args.bytes.now _ c.requires (runs_out _ c.loop-i.i c.loop-i.after_cr c.args.bytes.now (omega arith) c.loop-i.invariant)
