use Rattle.mmtel_masked_messages.proofs.HeadTheorems.{alike, heard_alike, lines_keep, messages_keep}
use Rattle.mmtel_masked_messages.proofs.theorems.heads_see_no_private_field.Goals as goal

pub returns : goal.returns
returns c =
    let fields = c.heads_rest_on_five_names.ensures.fields in
    record { messages = messages_keep fields; lines = lines_keep fields; equivalent = alike fields; received = heard_alike fields }
