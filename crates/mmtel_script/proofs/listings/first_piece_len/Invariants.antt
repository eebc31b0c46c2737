use Rattle.std.proofs.Common.{false}
use Rattle.mmtel_script.proofs.Pieces.{Goes, piece_len}
use Rattle.mmtel_script.proofs.listings.first_piece_len.Given as goal

abbrev pub invariant-loop-i : goal.invariant-loop-i
invariant-loop-i l = Goes (piece_len false l.bytes) l.i l.after_cr l.bytes
