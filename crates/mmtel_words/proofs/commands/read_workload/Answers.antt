use Rattle.std.proofs.Common.{map, subst}
use Rattle.std.specs.Prelude.{Ok, Err}
use Rattle.std.proofs.lemmas.Result.{err_from_is_err_and}
use Rattle.mmtel_words.specs.Reads.{MatchesIn}
use Rattle.mmtel_words.proofs.ReadTheorems.{workload_unfound, workload_no_calls, workload_no_salt, workload_read_as}
use Rattle.mmtel_words.proofs.commands.read_workload.Goals as goal

pub returns-in_err-matches : goal.returns-in_err-matches
returns-in_err-matches c =
    let p = err_from_is_err_and c.from_residual.result c.from_residual.ensures.1 in
    let f = subst (λ a. MatchesIn a (map (λ w. w.now) c.args.words.now) (Err c.in_err-matches.field-0.0)) c.in-Ok.ensures c.in_err-matches.ensures in
    rw (p.1, p.2) (workload_unfound (map (λ w. w.now) c.args.words.now) c.requires c.in_err-matches.field-0.0 f)

pub returns-in_err-calls : goal.returns-in_err-calls
returns-in_err-calls c =
    let p = err_from_is_err_and c.from_residual-in_err-calls.result c.from_residual-in_err-calls.ensures.1 in
    let f = subst (λ a. MatchesIn a (map (λ w. w.now) c.args.words.now) (Ok c.in_ok-matches.matches)) c.in-Ok.ensures c.in_ok-matches.ensures in
    rw (p.1, p.2) (workload_no_calls (map (λ w. w.now) c.args.words.now) c.requires c.in_ok-matches.matches f c.in_err-calls.field-0.0 c.in_err-calls.ensures)

pub returns-in_err-salt : goal.returns-in_err-salt
returns-in_err-salt c =
    let p = err_from_is_err_and c.from_residual-in_err-salt.result c.from_residual-in_err-salt.ensures.1 in
    let f = subst (λ a. MatchesIn a (map (λ w. w.now) c.args.words.now) (Ok c.in_ok-matches.matches)) c.in-Ok.ensures c.in_ok-matches.ensures in
    rw (p.1, p.2) (workload_no_salt (map (λ w. w.now) c.args.words.now) c.requires c.in_ok-matches.matches f c.in_err-salt.field-0.0 c.in_err-salt.ensures)

pub returns : goal.returns
returns c =
    let f = subst (λ a. MatchesIn a (map (λ w. w.now) c.args.words.now) (Ok c.in_ok-matches.matches)) c.in-Ok.ensures c.in_ok-matches.ensures in
    workload_read_as (map (λ w. w.now) c.args.words.now) c.requires c.in_ok-matches.matches f c.in_ok-calls.calls c.in_ok-salt.salt c.in_ok-calls.ensures c.in_ok-salt.ensures
