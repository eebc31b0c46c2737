use Rattle.std.proofs.Common.{map, subst}
use Rattle.std.specs.Prelude.{Ok, Err}
use Rattle.std.proofs.lemmas.Result.{err_from_is_err_and}
use Rattle.mmtel_words.specs.Reads.{MatchesIn}
use Rattle.mmtel_words.proofs.ReadTheorems.{file_unfound, file_is}
use Rattle.mmtel_words.proofs.commands.read_file.Goals as goal

pub returns-in_err-matches : goal.returns-in_err-matches
returns-in_err-matches c =
    let p = err_from_is_err_and c.from_residual.result c.from_residual.ensures.1 in
    let f = subst (λ a. MatchesIn a (map (λ w. w.now) c.args.words.now) (Err c.in_err-matches.field-0.0)) c.in-Ok.ensures c.in_err-matches.ensures in
    rw (p.1, p.2) (file_unfound c.args.name.now (map (λ w. w.now) c.args.words.now) c.requires c.in_err-matches.field-0.0 f)

pub returns : goal.returns
returns c =
    let f = subst (λ a. MatchesIn a (map (λ w. w.now) c.args.words.now) (Ok c.in_ok-matches.matches)) c.in-Ok.ensures c.in_ok-matches.ensures in
    file_is c.args.name.now (map (λ w. w.now) c.args.words.now) c.requires c.in_ok-matches.matches f c.text.result c.text.ensures
