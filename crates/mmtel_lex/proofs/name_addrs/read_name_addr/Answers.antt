use Rattle.mmtel_lex.specs.Grammar.{IsNameAddr}
use Rattle.mmtel_lex.specs.Reading.{name_addr_of}
use Rattle.mmtel_lex.specs.declared.values.NameAddr.{NameAddr}
use Rattle.mmtel_lex.proofs.Exact.{found_of, only_of, malformed_of, refused_of}
use Rattle.mmtel_lex.proofs.NameAddrTheorems.{name_addr_takes, name_addr_again}
use Rattle.mmtel_lex.proofs.name_addrs.read_name_addr.Goals as goal

pub returns : goal.returns
returns c = record {
  exact = c.name_addr.ensures;
  found = found_of (λ (n : NameAddr). IsNameAddr c.args.bytes.now n) (name_addr_of c.args.bytes.now) (λ n e. name_addr_takes c.args.bytes.now n e) c.name_addr.result c.name_addr.ensures;
  only = λ n is. only_of (name_addr_of c.args.bytes.now) n (name_addr_again c.args.bytes.now n is) c.name_addr.result c.name_addr.ensures;
  malformed = λ e. malformed_of (λ (n : NameAddr). IsNameAddr c.args.bytes.now n) (name_addr_of c.args.bytes.now) (λ n is. name_addr_again c.args.bytes.now n is) c.name_addr.result c.name_addr.ensures e;
  refused = λ none. refused_of (λ (n : NameAddr). IsNameAddr c.args.bytes.now n) (name_addr_of c.args.bytes.now) (λ n e. name_addr_takes c.args.bytes.now n e) c.name_addr.result c.name_addr.ensures none;
}
