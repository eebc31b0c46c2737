use Rattle.mmtel_session.proofs.Grammar as grammar
use Rattle.mmtel_session.proofs.values.read_session.Goals as goal

pub returns : goal.returns
returns c = record {
  exact = c.session.ensures;
  found = grammar.found c.args.bytes.now c.session.result c.session.ensures;
  only = grammar.only c.args.bytes.now c.session.result c.session.ensures;
  malformed = grammar.malformed c.args.bytes.now c.session.result c.session.ensures;
}
