use Rattle.std.proofs.Common.{map, subst}
use Rattle.std.specs.Prelude.{Ok, Err}
use Rattle.std.proofs.lemmas.Result.{err_from_is_err_and}
use Rattle.mmtel_words.specs.Reads.{MatchesIn}
use Rattle.mmtel_words.proofs.ReadTheorems.{serve_unfound, serve_no_token, serve_no_turns, serve_no_config, serve_read_as}
use Rattle.mmtel_words.proofs.commands.read_serve.Goals as goal

pub returns-in_err-matches : goal.returns-in_err-matches
returns-in_err-matches c =
    let p = err_from_is_err_and c.from_residual.result c.from_residual.ensures.1 in
    let f = subst (λ a. MatchesIn a (map (λ w. w.now) c.args.words.now) (Err c.in_err-matches.field-0.0)) c.in-Ok.ensures c.in_err-matches.ensures in
    rw (p.1, p.2) (serve_unfound (map (λ w. w.now) c.args.words.now) c.requires c.in_err-matches.field-0.0 f)

pub returns-in_err-token : goal.returns-in_err-token
returns-in_err-token c =
    let p = err_from_is_err_and c.from_residual-in_err-token.result c.from_residual-in_err-token.ensures.1 in
    let f = subst (λ a. MatchesIn a (map (λ w. w.now) c.args.words.now) (Ok c.in_ok-matches.matches)) c.in-Ok.ensures c.in_ok-matches.ensures in
    rw (p.1, p.2) (serve_no_token (map (λ w. w.now) c.args.words.now) c.requires c.in_ok-matches.matches f c.in_err-token.field-0.0 c.in_err-token.ensures)

pub returns-in_err-turns : goal.returns-in_err-turns
returns-in_err-turns c =
    let p = err_from_is_err_and c.from_residual-in_err-turns.result c.from_residual-in_err-turns.ensures.1 in
    let f = subst (λ a. MatchesIn a (map (λ w. w.now) c.args.words.now) (Ok c.in_ok-matches.matches)) c.in-Ok.ensures c.in_ok-matches.ensures in
    rw (p.1, p.2) (serve_no_turns (map (λ w. w.now) c.args.words.now) c.requires c.in_ok-matches.matches f c.in_err-turns.field-0.0 c.in_err-turns.ensures)

pub returns-in_err-config : goal.returns-in_err-config
returns-in_err-config c =
    let p = err_from_is_err_and c.from_residual-in_err-config.result c.from_residual-in_err-config.ensures.1 in
    let f = subst (λ a. MatchesIn a (map (λ w. w.now) c.args.words.now) (Ok c.in_ok-matches.matches)) c.in-Ok.ensures c.in_ok-matches.ensures in
    rw (p.1, p.2) (serve_no_config (map (λ w. w.now) c.args.words.now) c.requires c.in_ok-matches.matches f c.in_err-config.field-0.0 c.in_err-config.ensures)

pub returns : goal.returns
returns c =
    let f = subst (λ a. MatchesIn a (map (λ w. w.now) c.args.words.now) (Ok c.in_ok-matches.matches)) c.in-Ok.ensures c.in_ok-matches.ensures in
    serve_read_as (map (λ w. w.now) c.args.words.now) c.requires c.in_ok-matches.matches f c.in_ok-config.config c.in_ok-token.token c.in_ok-turns.turns c.in_ok-token.ensures c.in_ok-turns.ensures c.in_ok-config.ensures
