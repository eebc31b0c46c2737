use Rattle.mmtel_lex.proofs.PrintTheorems.{name_addr_reads_back}
use Rattle.mmtel_lex.proofs.printing.print_name_addr.Goals as goal

pub returns-clause-reads_back : goal.returns-clause-reads_back
returns-clause-reads_back c = name_addr_reads_back c.name_addr_text.result c.args.name_addr.now c.name_addr_text.ensures
