use Rattle.mmtel_script.proofs.ReadBackTheorems as laws
use Rattle.mmtel_script.proofs.theorems.listed_bytes_read_back.Goals as goal

pub returns-clause-reads_back : goal.returns-clause-reads_back
returns-clause-reads_back c = laws.reads_back

pub returns-clause-distinguished : goal.returns-clause-distinguished
returns-clause-distinguished c = laws.marks_differ
