use Rattle.std.proofs.Common.{map, subst}
use Rattle.std.specs.Prelude.{Ok, Err}
use Rattle.std.proofs.lemmas.Result.{err_from_is_err_and}
use Rattle.mmtel_words.specs.Reads.{MatchesIn}
use Rattle.mmtel_words.proofs.ReadTheorems.{replay_unfound, replay_no_token, replay_no_config, replay_no_script, replay_read_as}
use Rattle.mmtel_words.proofs.commands.read_replay.Goals as goal

pub returns-in_err-matches : goal.returns-in_err-matches
returns-in_err-matches c =
    let p = err_from_is_err_and c.from_residual.result c.from_residual.ensures.1 in
    let f = subst (λ a. MatchesIn a (map (λ w. w.now) c.args.words.now) (Err c.in_err-matches.field-0.0)) c.in-Ok.ensures c.in_err-matches.ensures in
    rw (p.1, p.2) (replay_unfound (map (λ w. w.now) c.args.words.now) c.requires c.in_err-matches.field-0.0 f)

pub returns-in_err-token : goal.returns-in_err-token
returns-in_err-token c =
    let p = err_from_is_err_and c.from_residual-in_err-token.result c.from_residual-in_err-token.ensures.1 in
    let f = subst (λ a. MatchesIn a (map (λ w. w.now) c.args.words.now) (Ok c.in_ok-matches.matches)) c.in-Ok.ensures c.in_ok-matches.ensures in
    rw (p.1, p.2) (replay_no_token (map (λ w. w.now) c.args.words.now) c.requires c.in_ok-matches.matches f c.in_err-token.field-0.0 c.in_err-token.ensures)

pub returns-in_err-config : goal.returns-in_err-config
returns-in_err-config c =
    let p = err_from_is_err_and c.from_residual-in_err-config.result c.from_residual-in_err-config.ensures.1 in
    let f = subst (λ a. MatchesIn a (map (λ w. w.now) c.args.words.now) (Ok c.in_ok-matches.matches)) c.in-Ok.ensures c.in_ok-matches.ensures in
    rw (p.1, p.2) (replay_no_config (map (λ w. w.now) c.args.words.now) c.requires c.in_ok-matches.matches f c.in_err-config.field-0.0 c.in_err-config.ensures)

pub returns-in_err-script : goal.returns-in_err-script
returns-in_err-script c =
    let p = err_from_is_err_and c.from_residual-in_err-script.result c.from_residual-in_err-script.ensures.1 in
    let f = subst (λ a. MatchesIn a (map (λ w. w.now) c.args.words.now) (Ok c.in_ok-matches.matches)) c.in-Ok.ensures c.in_ok-matches.ensures in
    rw (p.1, p.2) (replay_no_script (map (λ w. w.now) c.args.words.now) c.requires c.in_ok-matches.matches f c.in_err-script.field-0.0 c.in_err-script.ensures)

pub returns : goal.returns
returns c =
    let f = subst (λ a. MatchesIn a (map (λ w. w.now) c.args.words.now) (Ok c.in_ok-matches.matches)) c.in-Ok.ensures c.in_ok-matches.ensures in
    replay_read_as (map (λ w. w.now) c.args.words.now) c.requires c.in_ok-matches.matches f c.in_ok-config.config c.in_ok-script.script c.in_ok-token.token c.in_ok-token.ensures
    c.in_ok-config.ensures c.in_ok-script.ensures
