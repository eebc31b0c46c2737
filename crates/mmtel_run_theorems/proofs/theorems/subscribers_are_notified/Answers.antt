use Rattle.mmtel_run_theorems.proofs.Mailboxes.{subscribers_are_notified}
use Rattle.mmtel_run_theorems.proofs.theorems.subscribers_are_notified.Goals as goal

pub returns : goal.returns
returns c = record { law = subscribers_are_notified c.the_last_upload_counts.ensures.counts }
