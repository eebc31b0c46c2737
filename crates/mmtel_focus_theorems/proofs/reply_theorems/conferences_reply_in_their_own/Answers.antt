use Rattle.mmtel_focus_theorems.proofs.Replies.{conferences_reply_in_their_own}
use Rattle.mmtel_focus_theorems.proofs.reply_theorems.conferences_reply_in_their_own.Goals as goal

pub returns : goal.returns
returns c = record { law = conferences_reply_in_their_own }
