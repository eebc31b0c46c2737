use Rattle.std.proofs.Common.{refl}
use Rattle.mmtel_message.specs.Responses.{response}
use Rattle.mmtel_transaction.specs.Heads.{head_of}
use Rattle.mmtel_output.proofs.theorems.responses_have_heads.Goals as goal

pub returns : goal.returns
unfolding head_of response
returns c = record { head = λ start ls r five can lines. rw (c.responses_have_the_fields.ensures.five start ls r five can lines) refl }
