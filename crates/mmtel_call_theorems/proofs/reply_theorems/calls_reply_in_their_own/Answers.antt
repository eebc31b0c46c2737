use Rattle.mmtel_call_theorems.proofs.Replies.{detached_keep_their_own, ends_reply_in_their_own, openings_reply_in_their_own, restored_keep_their_own, steps_reply_in_their_own}
use Rattle.mmtel_call_theorems.proofs.reply_theorems.calls_reply_in_their_own.Goals as goal

pub returns : goal.returns
returns c = record { step = steps_reply_in_their_own; opening = openings_reply_in_their_own; end = ends_reply_in_their_own; detached = detached_keep_their_own; restored = restored_keep_their_own }
