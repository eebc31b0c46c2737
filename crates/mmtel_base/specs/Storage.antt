-- Where the bytes of a text are stored. No public clause cites this module.
use Rattle.std.specs.Prelude.{ℕ, List, take}
use Rattle.mmtel_base.specs.declared.texts.InlineBytes.{InlineBytes}
use Rattle.mmtel_base.specs.declared.texts.Storage.{Storage}
use Rattle.mmtel_base.specs.declared.texts.Storage.TheVariants.{Heap, Inline}

-- the bytes of a text that is stored in an array
abbrev pub inline_bytes : InlineBytes → List ℕ
inline_bytes s = take s.len s.array

abbrev pub stored_bytes : Storage → List ℕ
stored_bytes (Inline s) = inline_bytes s
stored_bytes (Heap v) = v.items
