use Rattle.std.proofs.Common.{refl}
use Rattle.mmtel_message.specs.Responses.{response}
use Rattle.mmtel_message.proofs.responses.response.Goals as goal

pub returns : goal.returns
unfolding response
returns c = record {
  message = rw (c.of-3.ensures, c.in_ok-add_added.ensures, c.in_ok-add_copied.ensures, c.in_ok-out.ensures.empty, c.tag_of_response.ensures, c.in_ok-phrase.ensures, c.in_ok-body.ensures, ← c.reply.view_is) refl;
}
