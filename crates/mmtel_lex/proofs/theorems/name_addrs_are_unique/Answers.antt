use Rattle.mmtel_lex.specs.Reading.{name_addr_of}
use Rattle.mmtel_lex.proofs.Exact.{one_of}
use Rattle.mmtel_lex.proofs.NameAddrTheorems.{name_addr_again}
use Rattle.mmtel_lex.proofs.theorems.name_addrs_are_unique.Goals as goal

pub returns : goal.returns
returns c = record { one = λ s n m is also. one_of (name_addr_of s) n m (name_addr_again s n is) (name_addr_again s m also) }
