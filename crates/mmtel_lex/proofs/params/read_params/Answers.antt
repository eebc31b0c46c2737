use Rattle.std.proofs.Common.{List}
use Rattle.mmtel_lex.specs.Grammar.{IsParams}
use Rattle.mmtel_lex.specs.Reading.{params_of}
use Rattle.mmtel_lex.specs.declared.values.Param.{Param}
use Rattle.mmtel_lex.proofs.Exact.{found_of, only_of, malformed_of, refused_of}
use Rattle.mmtel_lex.proofs.ParamTheorems.{whole_params_takes, whole_params_again}
use Rattle.mmtel_lex.proofs.params.read_params.Goals as goal

pub returns : goal.returns
returns c = record {
  exact = c.all_params.ensures.exact;
  found = found_of (λ (n : List Param). IsParams c.args.bytes.now n) (params_of c.args.bytes.now) (λ n e. whole_params_takes c.args.bytes.now n e) c.all_params.result c.all_params.ensures.exact;
  only = λ n is. only_of (params_of c.args.bytes.now) n (whole_params_again c.args.bytes.now n is) c.all_params.result c.all_params.ensures.exact;
  malformed = λ e. malformed_of (λ (n : List Param). IsParams c.args.bytes.now n) (params_of c.args.bytes.now) (λ n is. whole_params_again c.args.bytes.now n is) c.all_params.result c.all_params.ensures.exact e;
  refused = λ none. refused_of (λ (n : List Param). IsParams c.args.bytes.now n) (params_of c.args.bytes.now) (λ n e. whole_params_takes c.args.bytes.now n e) c.all_params.result c.all_params.ensures.exact none;
}
