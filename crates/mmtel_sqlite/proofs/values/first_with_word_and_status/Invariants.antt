use Rattle.std.proofs.Common.{◌≡◌, drop}
use Rattle.std.specs.List.{list_any}
use Rattle.mmtel_sqlite.specs.Columns.{has_word_and_status}
use Rattle.mmtel_sqlite.proofs.values.first_with_word_and_status.Given as goal

abbrev pub invariant-loop-cause : goal.invariant-loop-cause
invariant-loop-cause l = list_any (has_word_and_status l.word l.status) l.causes ≡ list_any (has_word_and_status l.word l.status) (drop l.cause-index l.causes)
