use Rattle.std.proofs.Common.{List, ℕ, Option, ap, ◌∙◌, refl, sym, subst}
use Rattle.std.proofs.lemmas.Result.{on_err_weaker, on_ok_weaker}
use Rattle.std.specs.Option.{option_copied}
use Rattle.mmtel_compose.specs.ReceivedMessages.{MessageView, status_of}
use Rattle.mmtel_output.specs.ResponseMatching.{awaited_request_branch, branch_in}
use Rattle.mmtel_run_definitions.specs.Ownership.{owner_of_branch}
use Rattle.mmtel_run_definitions.specs.Transitions.{after_response, after_response_to, calls_in, subscriptions_in}
use Rattle.mmtel_run_definitions.specs.Subscriptions.{after_notify_response}
use Rattle.mmtel_server_timers.specs.Ownership.{owner_in}
use Rattle.mmtel_server_timers.specs.declared.ownership.Owner as declared
use Rattle.mmtel_server.proofs.Owners.{breaks_so, follows_so, sent_of}
use Rattle.mmtel_server.proofs.Grows.{responds, stops}
use Rattle.mmtel_server.proofs.servers.Server.receive_response.Goals as goal
use Rattle.mmtel_server.specs.Follows.{AddsOfferPrefix, Follows}

pub returns-in-Err-clause-err : goal.returns-in-Err-clause-err
returns-in-Err-clause-err g c = stops (λ d token. after_response d token c.args.context.now.at c.args.key c.args.response) c.args.self.now c.args.out.now c.args.out.now
    (λ d token w. responds c.numbers_never_fall.ensures d token c.args.context.now.at c.args.key c.args.response w) refl

pub returns-in-Calls-clause-done : goal.returns-in-Calls-clause-done
returns-in-Calls-clause-done g c = on_ok_weaker c.signal_calls.result (λ holds.
    follows_so (owner_in c.owner_of_branch-whose.result) (λ d w. owner_of_branch (awaited_request_branch c.args.response) (branch_in c.args.response.parsed.vias) (calls_in d w).entries (subscriptions_in w))
    (λ whose d token w. after_response_to d token c.args.context.now.at c.args.key c.args.response whose w) c.args.self.now c.args.out.now
    (sent_of c.args.self.now (owner_in c.owner_of_branch-whose.result) _ _ _ _ (c.bytes_of.ensures ∙ c.in-Ok.ensures) c.branch_of.ensures.branch c.owner_of_branch-whose.ensures)
    c.signal_calls.new.self c.signal_calls.new.out
    (subst (λ (x : declared.Owner). Follows c.args.self.now c.args.out.now c.signal_calls.new.self c.signal_calls.new.out (λ d token w. after_response_to d token c.args.context.now.at c.args.key c.args.response
    (owner_in x) w)) (sym c.in-Calls.is) holds))
    c.signal_calls.ensures.done

pub returns-in-Calls-clause-err : goal.returns-in-Calls-clause-err
returns-in-Calls-clause-err g c = on_err_weaker c.signal_calls.result (λ holds.
    breaks_so (owner_in c.owner_of_branch-whose.result) (λ d w. owner_of_branch (awaited_request_branch c.args.response) (branch_in c.args.response.parsed.vias) (calls_in d w).entries (subscriptions_in w))
    (λ whose d token w. after_response_to d token c.args.context.now.at c.args.key c.args.response whose w) c.args.self.now c.args.out.now
    (sent_of c.args.self.now (owner_in c.owner_of_branch-whose.result) _ _ _ _ (c.bytes_of.ensures ∙ c.in-Ok.ensures) c.branch_of.ensures.branch c.owner_of_branch-whose.ensures) c.signal_calls.new.out
    (subst (λ (x : declared.Owner). AddsOfferPrefix c.args.self.now c.args.out.now c.signal_calls.new.out (λ d token w. after_response_to d token c.args.context.now.at c.args.key c.args.response (owner_in x) w))
    (sym c.in-Calls.is) holds))
    c.signal_calls.ensures.err

pub returns-in-Conferences-clause-done : goal.returns-in-Conferences-clause-done
returns-in-Conferences-clause-done g c = on_ok_weaker c.signal_conferences.result (λ holds.
    follows_so (owner_in c.owner_of_branch-whose.result) (λ d w. owner_of_branch (awaited_request_branch c.args.response) (branch_in c.args.response.parsed.vias) (calls_in d w).entries (subscriptions_in w))
    (λ whose d token w. after_response_to d token c.args.context.now.at c.args.key c.args.response whose w) c.args.self.now c.args.out.now
    (sent_of c.args.self.now (owner_in c.owner_of_branch-whose.result) _ _ _ _ (c.bytes_of.ensures ∙ c.in-Ok.ensures) c.branch_of.ensures.branch c.owner_of_branch-whose.ensures)
    c.signal_conferences.new.self c.signal_conferences.new.out
    (subst (λ (x : declared.Owner). Follows c.args.self.now c.args.out.now c.signal_conferences.new.self c.signal_conferences.new.out (λ d token w. after_response_to d token c.args.context.now.at c.args.key
    c.args.response (owner_in x) w)) (sym c.in-Conferences.is) holds))
    c.signal_conferences.ensures.done

pub returns-in-Conferences-clause-err : goal.returns-in-Conferences-clause-err
returns-in-Conferences-clause-err g c = on_err_weaker c.signal_conferences.result (λ holds.
    breaks_so (owner_in c.owner_of_branch-whose.result) (λ d w. owner_of_branch (awaited_request_branch c.args.response) (branch_in c.args.response.parsed.vias) (calls_in d w).entries (subscriptions_in w))
    (λ whose d token w. after_response_to d token c.args.context.now.at c.args.key c.args.response whose w) c.args.self.now c.args.out.now
    (sent_of c.args.self.now (owner_in c.owner_of_branch-whose.result) _ _ _ _ (c.bytes_of.ensures ∙ c.in-Ok.ensures) c.branch_of.ensures.branch c.owner_of_branch-whose.ensures) c.signal_conferences.new.out
    (subst (λ (x : declared.Owner). AddsOfferPrefix c.args.self.now c.args.out.now c.signal_conferences.new.out (λ d token w. after_response_to d token c.args.context.now.at c.args.key c.args.response (owner_in x) w))
    (sym c.in-Conferences.is) holds))
    c.signal_conferences.ensures.err

pub returns-in-Subscriptions-clause-done : goal.returns-in-Subscriptions-clause-done
returns-in-Subscriptions-clause-done g c =
    follows_so (owner_in c.owner_of_branch-whose.result) (λ d w. owner_of_branch (awaited_request_branch c.args.response) (branch_in c.args.response.parsed.vias) (calls_in d w).entries (subscriptions_in w))
    (λ whose d token w. after_response_to d token c.args.context.now.at c.args.key c.args.response whose w) c.args.self.now c.args.out.now
    (sent_of c.args.self.now (owner_in c.owner_of_branch-whose.result) _ _ _ _ (c.bytes_of.ensures ∙ c.in-Ok.ensures) c.branch_of.ensures.branch c.owner_of_branch-whose.ensures)
    c.receive_notify_response.new.self c.args.out.now
    (subst (λ (x : declared.Owner). Follows c.args.self.now c.args.out.now c.receive_notify_response.new.self c.args.out.now (λ d token w. after_response_to d token c.args.context.now.at c.args.key c.args.response
    (owner_in x) w)) (sym c.in-Subscriptions.is)
    (subst (λ (o : Option (List ℕ)). Follows c.args.self.now c.args.out.now c.receive_notify_response.new.self c.args.out.now (λ d token. after_notify_response o (status_of c.args.response.parsed.start)))
    c.branch_of-in-Subscriptions.ensures.branch
    (subst (λ (code : ℕ). Follows c.args.self.now c.args.out.now c.receive_notify_response.new.self c.args.out.now (λ d token. after_notify_response (option_copied c.branch_of-in-Subscriptions.result) code))
    (c.status_of.ensures ∙
    (ap status_of c.start.ensures ∙ ap (λ (x : MessageView). status_of x.parsed.start) c.response.view_is)) (c.receive_notify_response.ensures c.args.out.now))))
