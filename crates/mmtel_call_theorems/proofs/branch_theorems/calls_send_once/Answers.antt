use Rattle.mmtel_call_theorems.proofs.Branches.Sending.{detached_were_sent, ends_send_once, openings_send_once, restored_were_sent, steps_send_once}
use Rattle.mmtel_call_theorems.proofs.branch_theorems.calls_send_once.Goals as goal

pub returns : goal.returns
returns c = record { step = steps_send_once; opening = openings_send_once; end = ends_send_once; detached = detached_were_sent; restored = restored_were_sent }
