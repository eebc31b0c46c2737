use Rattle.mmtel_lex.proofs.UriContract.{found_by, only_by, scheme_by, foreign_by, malformed_by, refused_by}
use Rattle.mmtel_lex.proofs.uris.read_uri.Goals as goal

pub returns : goal.returns
returns c = record {
  exact = c.uri.ensures;
  found = found_by c.args.bytes.now c.uri.result c.uri.ensures;
  only = λ u is. only_by c.args.bytes.now c.uri.result u c.uri.ensures is;
  scheme = λ e. scheme_by c.args.bytes.now c.uri.result c.uri.ensures e;
  foreign = λ is. foreign_by c.args.bytes.now c.uri.result c.uri.ensures is;
  malformed = λ e. malformed_by c.args.bytes.now c.uri.result c.uri.ensures e;
  refused = λ none. refused_by c.args.bytes.now c.uri.result c.uri.ensures none;
}
