use Rattle.std.proofs.Common.{[], ◌∷◌, ℕ, sym, subst}
use Rattle.std.proofs.lemmas.Result.{on_err_weaker, on_ok_weaker}
use Rattle.mmtel_output.specs.ResponseMatching.{behind_cookie, timed_out_branch}
use Rattle.mmtel_environment.specs.declared.events.Offer.TheVariants as offer
use Rattle.mmtel_run_definitions.specs.Ownership.{owner_of_branch, owner_of_key}
use Rattle.mmtel_run_definitions.specs.Transitions.{after_due, after_request_timeout, after_transaction_end, calls_in, subscriptions_in}
use Rattle.mmtel_transaction.specs.declared.words.Due.{Due}
use Rattle.mmtel_server.proofs.Timers.{offers}
use Rattle.mmtel_server.proofs.Grows.{stops}
use Rattle.mmtel_server.proofs.Settling.{rings}
use Rattle.mmtel_server.proofs.servers.Server.perform_due.Goals as goal
use Rattle.mmtel_server.specs.Follows.{AddsOfferPrefix, Follows, IsDueBy}

pub returns-in-Again-clause-done : goal.returns-in-Again-clause-done
returns-in-Again-clause-done g c = on_ok_weaker c.offer_to.result (λ is by.
    subst (λ (x : Due). Follows c.args.self.now c.args.out.now c.args.self.now c.offer_to.new.out (λ d token. after_due d token x)) (sym c.in-Again.is)
    (offers c.args.self.now c.args.out.now c.offer_to.new.out (offer.To c.in-Again.peer c.in-Again.at c.in-Again.text ∷ []) is)) c.offer_to.ensures.done

pub returns-in-Again-clause-err : goal.returns-in-Again-clause-err
returns-in-Again-clause-err g c = on_err_weaker c.offer_to.result (λ is by.
    stops (λ d token. after_due d token c.args.due) c.args.self.now c.args.out.now c.offer_to.new.out (λ d token w. rings d token c.numbers_never_fall.ensures c.args.due w) is) c.offer_to.ensures.err

pub returns-in-Silent-clause-done : goal.returns-in-Silent-clause-done
returns-in-Silent-clause-done g c = on_ok_weaker c.time_out_request.result (λ holds by.
    subst (λ (x : Due). Follows c.args.self.now c.args.out.now c.time_out_request.new.self c.time_out_request.new.out (λ d token. after_due d token x)) (sym c.in-Silent.is)
    (subst (λ (n : ℕ). Follows c.args.self.now c.args.out.now c.time_out_request.new.self c.time_out_request.new.out
    (λ d token w. after_request_timeout d token n c.in-Silent.branch c.in-Silent.method (owner_of_branch (timed_out_branch
    c.in-Silent.branch c.in-Silent.method) (behind_cookie c.in-Silent.branch) (calls_in d w).entries (subscriptions_in w)) w))
    (c.moment_by-at.ensures (subst (IsDueBy c.args.now) c.in-Silent.is by)) holds)) c.time_out_request.ensures.done

pub returns-in-Silent-clause-err : goal.returns-in-Silent-clause-err
returns-in-Silent-clause-err g c = on_err_weaker c.time_out_request.result (λ holds by.
    subst (λ (x : Due). AddsOfferPrefix c.args.self.now c.args.out.now c.time_out_request.new.out (λ d token. after_due d token x)) (sym c.in-Silent.is)
    (subst (λ (n : ℕ). AddsOfferPrefix c.args.self.now c.args.out.now c.time_out_request.new.out
    (λ d token w. after_request_timeout d token n c.in-Silent.branch c.in-Silent.method (owner_of_branch (timed_out_branch c.in-Silent.branch
    c.in-Silent.method) (behind_cookie c.in-Silent.branch) (calls_in d w).entries (subscriptions_in w)) w))
    (c.moment_by-at.ensures (subst (IsDueBy c.args.now) c.in-Silent.is by)) holds)) c.time_out_request.ensures.err

pub returns-in-Over-clause-done : goal.returns-in-Over-clause-done
returns-in-Over-clause-done g c = on_ok_weaker c.end_transaction.result (λ holds by.
    subst (λ (x : Due). Follows c.args.self.now c.args.out.now c.end_transaction.new.self c.end_transaction.new.out (λ d token. after_due d token x)) (sym c.in-Over.is)
    (subst (λ (n : ℕ). Follows c.args.self.now c.args.out.now c.end_transaction.new.self c.end_transaction.new.out
    (λ d token w. after_transaction_end d token n c.in-Over.key (owner_of_key c.in-Over.key (calls_in d w).entries) w))
    (c.moment_by-at-in-Over.ensures (subst (IsDueBy c.args.now) c.in-Over.is by)) holds)) c.end_transaction.ensures.done

pub returns-in-Over-clause-err : goal.returns-in-Over-clause-err
returns-in-Over-clause-err g c = on_err_weaker c.end_transaction.result (λ holds by.
    subst (λ (x : Due). AddsOfferPrefix c.args.self.now c.args.out.now c.end_transaction.new.out (λ d token. after_due d token x)) (sym c.in-Over.is)
    (subst (λ (n : ℕ). AddsOfferPrefix c.args.self.now c.args.out.now c.end_transaction.new.out (λ d token w. after_transaction_end d token n c.in-Over.key (owner_of_key c.in-Over.key (calls_in d w).entries) w))
    (c.moment_by-at-in-Over.ensures (subst (IsDueBy c.args.now) c.in-Over.is by)) holds)) c.end_transaction.ensures.err

pub returns-in-Nothing-clause-done : goal.returns-in-Nothing-clause-done
returns-in-Nothing-clause-done g c = λ by.
    subst (λ (x : Due). Follows c.args.self.now c.args.out.now c.args.self.now c.args.out.now (λ d token. after_due d token x)) (sym c.in-Nothing.is) (λ d token before w did short. did)
