use Rattle.mmtel_leg.proofs.LineTheorems as lines
use Rattle.mmtel_leg.proofs.theorems.requests_name_their_dialog.Goals as goal

pub returns : goal.returns
returns c = record { cseq = lines.cseq; call_id = lines.call_id; from = lines.from; to = lines.to }
