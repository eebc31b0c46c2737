use Rattle.std.proofs.Common.{List, ℕ, Option, ap, ◌∙◌, sym, subst}
use Rattle.std.proofs.lemmas.Result.{on_err_weaker, on_ok_weaker}
use Rattle.mmtel_output.specs.ResponseMatching.{behind_cookie, timed_out_branch}
use Rattle.mmtel_run_definitions.specs.Ownership.{owner_of_branch}
use Rattle.mmtel_run_definitions.specs.Transitions.{after_request_timeout, calls_in, subscriptions_in}
use Rattle.mmtel_run_definitions.specs.Subscriptions.{after_notify_response}
use Rattle.mmtel_server_timers.specs.Ownership.{owner_in}
use Rattle.mmtel_server_timers.specs.declared.ownership.Owner as declared
use Rattle.mmtel_server.proofs.Owners.{breaks_so, follows_so, sent_of}
use Rattle.mmtel_server.proofs.servers.Server.time_out_request.Goals as goal
use Rattle.mmtel_server.specs.Follows.{AddsOfferPrefix, Follows}

pub returns-in-Calls-clause-done : goal.returns-in-Calls-clause-done
returns-in-Calls-clause-done g c = on_ok_weaker c.signal_calls.result (λ holds.
    follows_so (owner_in c.owner_of_branch-whose.result) (λ d w. owner_of_branch (timed_out_branch c.args.branch c.args.method) (behind_cookie c.args.branch) (calls_in d w).entries (subscriptions_in w))
    (λ whose d token w. after_request_timeout d token c.args.context.now.at c.args.branch c.args.method whose w) c.args.self.now c.args.out.now
    (sent_of c.args.self.now (owner_in c.owner_of_branch-whose.result) _ _ _ _ (c.timed_out_branch.ensures ∙ (ap (λ (l : List ℕ). timed_out_branch l c.bytes-2.result.now) c.bytes.ensures ∙ ap (λ
    (l : List ℕ). timed_out_branch c.args.branch l) c.bytes-2.ensures))
    (c.behind_cookie.ensures.behind ∙ ap behind_cookie c.bytes-3.ensures) c.owner_of_branch-whose.ensures) c.signal_calls.new.self c.signal_calls.new.out
    (subst (λ (x : declared.Owner). Follows c.args.self.now c.args.out.now c.signal_calls.new.self c.signal_calls.new.out (λ d token w. after_request_timeout d token c.args.context.now.at c.args.branch c.args.method
    (owner_in x) w)) (sym c.in-Calls.is) holds))
    c.signal_calls.ensures.done

pub returns-in-Calls-clause-err : goal.returns-in-Calls-clause-err
returns-in-Calls-clause-err g c = on_err_weaker c.signal_calls.result (λ holds.
    breaks_so (owner_in c.owner_of_branch-whose.result) (λ d w. owner_of_branch (timed_out_branch c.args.branch c.args.method) (behind_cookie c.args.branch) (calls_in d w).entries (subscriptions_in w))
    (λ whose d token w. after_request_timeout d token c.args.context.now.at c.args.branch c.args.method whose w) c.args.self.now c.args.out.now
    (sent_of c.args.self.now (owner_in c.owner_of_branch-whose.result) _ _ _ _ (c.timed_out_branch.ensures ∙ (ap (λ (l : List ℕ). timed_out_branch l c.bytes-2.result.now) c.bytes.ensures ∙ ap (λ
    (l : List ℕ). timed_out_branch c.args.branch l) c.bytes-2.ensures))
    (c.behind_cookie.ensures.behind ∙ ap behind_cookie c.bytes-3.ensures) c.owner_of_branch-whose.ensures) c.signal_calls.new.out
    (subst (λ (x : declared.Owner). AddsOfferPrefix c.args.self.now c.args.out.now c.signal_calls.new.out (λ d token w. after_request_timeout d token c.args.context.now.at c.args.branch c.args.method (owner_in x) w))
    (sym c.in-Calls.is) holds))
    c.signal_calls.ensures.err

pub returns-in-Conferences-clause-done : goal.returns-in-Conferences-clause-done
returns-in-Conferences-clause-done g c = on_ok_weaker c.signal_conferences.result (λ holds.
    follows_so (owner_in c.owner_of_branch-whose.result) (λ d w. owner_of_branch (timed_out_branch c.args.branch c.args.method) (behind_cookie c.args.branch) (calls_in d w).entries (subscriptions_in w))
    (λ whose d token w. after_request_timeout d token c.args.context.now.at c.args.branch c.args.method whose w) c.args.self.now c.args.out.now
    (sent_of c.args.self.now (owner_in c.owner_of_branch-whose.result) _ _ _ _ (c.timed_out_branch.ensures ∙ (ap (λ (l : List ℕ). timed_out_branch l c.bytes-2.result.now) c.bytes.ensures ∙ ap (λ
    (l : List ℕ). timed_out_branch c.args.branch l) c.bytes-2.ensures))
    (c.behind_cookie.ensures.behind ∙ ap behind_cookie c.bytes-3.ensures) c.owner_of_branch-whose.ensures) c.signal_conferences.new.self c.signal_conferences.new.out
    (subst (λ (x : declared.Owner). Follows c.args.self.now c.args.out.now c.signal_conferences.new.self c.signal_conferences.new.out
    (λ d token w. after_request_timeout d token c.args.context.now.at c.args.branch c.args.method
    (owner_in x) w)) (sym c.in-Conferences.is) holds))
    c.signal_conferences.ensures.done

pub returns-in-Conferences-clause-err : goal.returns-in-Conferences-clause-err
returns-in-Conferences-clause-err g c = on_err_weaker c.signal_conferences.result (λ holds.
    breaks_so (owner_in c.owner_of_branch-whose.result) (λ d w. owner_of_branch (timed_out_branch c.args.branch c.args.method) (behind_cookie c.args.branch) (calls_in d w).entries (subscriptions_in w))
    (λ whose d token w. after_request_timeout d token c.args.context.now.at c.args.branch c.args.method whose w) c.args.self.now c.args.out.now
    (sent_of c.args.self.now (owner_in c.owner_of_branch-whose.result) _ _ _ _ (c.timed_out_branch.ensures ∙ (ap (λ (l : List ℕ). timed_out_branch l c.bytes-2.result.now) c.bytes.ensures ∙ ap (λ
    (l : List ℕ). timed_out_branch c.args.branch l) c.bytes-2.ensures))
    (c.behind_cookie.ensures.behind ∙ ap behind_cookie c.bytes-3.ensures) c.owner_of_branch-whose.ensures) c.signal_conferences.new.out
    (subst (λ (x : declared.Owner). AddsOfferPrefix c.args.self.now c.args.out.now c.signal_conferences.new.out
    (λ d token w. after_request_timeout d token c.args.context.now.at c.args.branch c.args.method (owner_in x) w)) (sym
    c.in-Conferences.is) holds))
    c.signal_conferences.ensures.err

pub returns-in-Subscriptions-clause-done : goal.returns-in-Subscriptions-clause-done
returns-in-Subscriptions-clause-done g c =
    follows_so (owner_in c.owner_of_branch-whose.result) (λ d w. owner_of_branch (timed_out_branch c.args.branch c.args.method) (behind_cookie c.args.branch) (calls_in d w).entries (subscriptions_in w))
    (λ whose d token w. after_request_timeout d token c.args.context.now.at c.args.branch c.args.method whose w) c.args.self.now c.args.out.now
    (sent_of c.args.self.now (owner_in c.owner_of_branch-whose.result) _ _ _ _ (c.timed_out_branch.ensures ∙ (ap (λ (l : List ℕ). timed_out_branch l c.bytes-2.result.now) c.bytes.ensures ∙ ap (λ
    (l : List ℕ). timed_out_branch c.args.branch l) c.bytes-2.ensures))
    (c.behind_cookie.ensures.behind ∙ ap behind_cookie c.bytes-3.ensures) c.owner_of_branch-whose.ensures) c.receive_notify_response.new.self c.args.out.now
    (subst (λ (x : declared.Owner). Follows c.args.self.now c.args.out.now c.receive_notify_response.new.self c.args.out.now (λ d token w. after_request_timeout d token c.args.context.now.at c.args.branch c.args.method
    (owner_in x) w)) (sym c.in-Subscriptions.is)
    (subst (λ (o : Option (List ℕ)). Follows c.args.self.now c.args.out.now c.receive_notify_response.new.self c.args.out.now (λ d token. after_notify_response o 408)) (c.behind_cookie-in-Subscriptions.ensures.behind
    ∙ ap behind_cookie c.bytes-in-Subscriptions.ensures)
    (c.receive_notify_response.ensures c.args.out.now)))
