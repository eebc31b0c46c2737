-- What was written to a sink after a text was written in part.
use Rattle.std.specs.Prelude.{◌≡◌, ℕ, ◌<◌, List, ◌++◌, length, take, ⊤, Some, None}
use Rattle.std.specs.declared.option.Option.{Option}

-- where what was written to the sink is known: a proper prefix of the text was added
abbrev pub AppendsPart : Option (List ℕ) → Option (List ℕ) → List ℕ → Type 0
AppendsPart None after text = ⊤
AppendsPart (Some before) None text = ⊥
AppendsPart (Some before) (Some after) text = (n : ℕ) × (n < length text) × (after ≡ before ++ take n text)
