use Rattle.std.proofs.Common.{◌≡◌, ℕ, List, Ok, String, Global, string_bytes, refl}
use Rattle.toml.specs.View.{view}
use Rattle.toml.specs.declared.value.Value.{Value, String as StringValue}
use Rattle.toml.proofs.Views.{view-String}
use Rattle.mmtel_lex.specs.Reading.{uri_of}
use Rattle.mmtel_lex.specs.declared.values.Uri.{Uri}
use Rattle.mmtel_sheet_grammar.specs.Elements.{uri_at}
use Rattle.mmtel_sheet_reader.proofs.Sounds.{text_sound}
use Rattle.mmtel_sheet_reader.proofs.elements.uri.Goals as goal

uri_is_read : (v : Value) (s : String Global) (at bytes : List ℕ) (u : Uri) → v ≡ StringValue s → bytes ≡ string_bytes s → uri_of bytes ≡ Ok u → uri_at at (view v) ≡ Ok u
uri_is_read v s at bytes u e b was = rw (e, view-String s, ← b, was) refl

pub returns-in-Ok-clause-exact : goal.returns-in-Ok-clause-exact
returns-in-Ok-clause-exact c = uri_is_read c.args.value.now c.in-String.text c.args.at.now c.as_bytes.result.now c.in-Ok.uri c.in-String.is c.as_bytes.ensures.value c.in-Ok.ensures.exact

pub returns-in-Ok-clause-sound : goal.returns-in-Ok-clause-sound
returns-in-Ok-clause-sound c = text_sound c.args.value.now c.in-String.text c.in-String.is
