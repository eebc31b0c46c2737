use Rattle.mmtel_message.proofs.TagTheorems.{tagged_reads}
use Rattle.mmtel_leg.proofs.TagTheorems as tags
use Rattle.mmtel_leg.proofs.theorems.tags_read_back.Goals as goal

pub returns : goal.returns
returns c = record { caller_from = tags.caller_from; caller_to = tags.caller_to; callee_from = tags.callee_from; callee_to = tags.callee_to; tagged = tagged_reads; values = tags.values }
