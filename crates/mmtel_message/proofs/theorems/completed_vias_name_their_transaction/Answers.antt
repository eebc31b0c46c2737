use Rattle.mmtel_message.proofs.ViaTheorems.{completed_reads, completed_is_one, same_branch, same_sent_by}
use Rattle.mmtel_message.proofs.theorems.completed_vias_name_their_transaction.Goals as goal

pub returns : goal.returns
returns c = record {
  read = completed_reads;
  one = completed_is_one;
  branch = same_branch;
  sent_by = same_sent_by;
}
