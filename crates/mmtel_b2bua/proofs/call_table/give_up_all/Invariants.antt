use Rattle.std.proofs.Common.{vec_len}
use Rattle.mmtel_b2bua.proofs.call_table.give_up_all.Given as goal

abbrev pub decreases-entries : goal.decreases-entries
decreases-entries l = vec_len l.entries
