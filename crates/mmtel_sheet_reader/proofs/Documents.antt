-- The sheet of a document is that of the bytes that it was read from.
use Rattle.std.proofs.Common.{◌≡◌, ℕ, List, Some, Ok, Err}
use Rattle.std.specs.Prelude.{IsUtf8}
use Rattle.toml.specs.Parse.{parse_document}
use Rattle.toml.specs.Data.{Members}
use Rattle.mmtel_sheet_grammar.specs.ReadResults.{Read, IsReadResult}
use Rattle.mmtel_sheet_grammar.specs.Walk.{sheet_of, IsRead}
use Rattle.mmtel_sheet_grammar.specs.declared.faults.SheetFault.TheVariants.{NotToml, Unknown, Wrong, Many, NoMemory}
use Rattle.mmtel_sheet_values.specs.declared.values.Sheet.{Sheet}

pub documented : (bytes : List ℕ) (ms : Members) (r : Read Sheet) → IsUtf8 bytes → parse_document bytes ≡ Some ms → IsReadResult (sheet_of ms) r → IsRead bytes r
documented bytes ms (Ok s) u p a = (u, ms, p, a)
documented bytes ms (Err NotToml) u p a = elim a [ ]
documented bytes ms (Err (Unknown k)) u p a = (u, ms, p, a)
documented bytes ms (Err (Wrong k)) u p a = (u, ms, p, a)
documented bytes ms (Err (Many k n)) u p a = (u, ms, p, a)
documented bytes ms (Err NoMemory) u p a = tt
