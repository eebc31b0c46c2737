use Rattle.std.proofs.Common.{◌≡◌, drop}
use Rattle.mmtel_environment.specs.FileStore.{text_at}
use Rattle.mmtel_environment.proofs.memory_files.find.Given as goal

abbrev pub invariant-loop-given : goal.invariant-loop-given
invariant-loop-given l = text_at (drop l.given-index l.files) l.name ≡ text_at l.files l.name
