-- The output of a step of a call or of a conference: tokens are drawn, messages are sent, rows are closed. Every definition takes the output and gives the one after it, so that
-- a step reads as what it does, one after another.
use Rattle.std.specs.Prelude.{ℕ, ◌++◌, List, [], ◌∷◌}
use Rattle.mmtel_charging.specs.declared.rows.Row.{Row}
use Rattle.mmtel_base.specs.Numbers.{next_number, token_text}
use Rattle.mmtel_transaction.specs.Tokens.{TokensView}
use Rattle.mmtel_transaction.specs.declared.words.Emit.{Emit}
use Rattle.mmtel_output.specs.declared.outputs.StepOutput.{StepOutput}

-- the token that is drawn next, and the output once it was drawn
abbrev pub token : StepOutput → List ℕ
token output = token_text output.tokens.token (next_number output.tokens.drawn)

abbrev pub after_draw : StepOutput → StepOutput
after_draw output = record output { tokens = record output.tokens { drawn = next_number output.tokens.drawn } }

abbrev pub with_emit : Emit → StepOutput → StepOutput
with_emit e output = record output { out = output.out ++ e ∷ [] }

abbrev pub with_row : Row → StepOutput → StepOutput
with_row row output = record output { rows = output.rows ++ row ∷ [] }

-- the output at the beginning of a step, before which these tokens were drawn
abbrev pub empty_output : TokensView → StepOutput
empty_output tokens = record { tokens = tokens; out = []; rows = [] }
