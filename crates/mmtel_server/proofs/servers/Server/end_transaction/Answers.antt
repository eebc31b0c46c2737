use Rattle.std.proofs.Common.{sym, subst}
use Rattle.std.proofs.lemmas.Result.{on_err_weaker, on_ok_weaker}
use Rattle.mmtel_run_definitions.specs.Ownership.{owner_of_key}
use Rattle.mmtel_run_definitions.specs.Transitions.{after_transaction_end, calls_in}
use Rattle.mmtel_server_timers.specs.Ownership.{owner_in}
use Rattle.mmtel_server_timers.specs.declared.ownership.Owner as declared
use Rattle.mmtel_server.proofs.Owners.{breaks_so, follows_so, key_of, rests}
use Rattle.mmtel_server.proofs.servers.Server.end_transaction.Goals as goal
use Rattle.mmtel_server.specs.Follows.{AddsOfferPrefix, Follows}

pub returns-in-Calls-clause-done : goal.returns-in-Calls-clause-done
returns-in-Calls-clause-done g c = on_ok_weaker c.signal_calls.result (λ holds.
    follows_so (owner_in c.owner_of_key-whose.result) (λ d w. owner_of_key c.args.key (calls_in d w).entries)
    (λ whose d token w. after_transaction_end d token c.args.context.now.at c.args.key whose w) c.args.self.now c.args.out.now
    (key_of c.args.self.now (owner_in c.owner_of_key-whose.result) c.args.key c.owner_of_key-whose.ensures) c.signal_calls.new.self c.signal_calls.new.out
    (subst (λ (x : declared.Owner). Follows c.args.self.now c.args.out.now c.signal_calls.new.self c.signal_calls.new.out (λ d token w. after_transaction_end d token c.args.context.now.at c.args.key (owner_in x) w))
    (sym c.in-Calls.is) holds))
    c.signal_calls.ensures.done

pub returns-in-Calls-clause-err : goal.returns-in-Calls-clause-err
returns-in-Calls-clause-err g c = on_err_weaker c.signal_calls.result (λ holds.
    breaks_so (owner_in c.owner_of_key-whose.result) (λ d w. owner_of_key c.args.key (calls_in d w).entries)
    (λ whose d token w. after_transaction_end d token c.args.context.now.at c.args.key whose w) c.args.self.now c.args.out.now
    (key_of c.args.self.now (owner_in c.owner_of_key-whose.result) c.args.key c.owner_of_key-whose.ensures) c.signal_calls.new.out
    (subst (λ (x : declared.Owner). AddsOfferPrefix c.args.self.now c.args.out.now c.signal_calls.new.out (λ d token w. after_transaction_end d token c.args.context.now.at c.args.key (owner_in x) w))
    (sym c.in-Calls.is) holds))
    c.signal_calls.ensures.err

pub returns-in-Conferences-clause-done : goal.returns-in-Conferences-clause-done
returns-in-Conferences-clause-done g c = on_ok_weaker c.signal_conferences.result (λ holds.
    follows_so (owner_in c.owner_of_key-whose.result) (λ d w. owner_of_key c.args.key (calls_in d w).entries)
    (λ whose d token w. after_transaction_end d token c.args.context.now.at c.args.key whose w) c.args.self.now c.args.out.now
    (key_of c.args.self.now (owner_in c.owner_of_key-whose.result) c.args.key c.owner_of_key-whose.ensures) c.signal_conferences.new.self c.signal_conferences.new.out
    (subst (λ (x : declared.Owner). Follows c.args.self.now c.args.out.now c.signal_conferences.new.self c.signal_conferences.new.out
    (λ d token w. after_transaction_end d token c.args.context.now.at c.args.key (owner_in x) w)) (sym c.in-Conferences.is) holds))
    c.signal_conferences.ensures.done

pub returns-in-Conferences-clause-err : goal.returns-in-Conferences-clause-err
returns-in-Conferences-clause-err g c = on_err_weaker c.signal_conferences.result (λ holds.
    breaks_so (owner_in c.owner_of_key-whose.result) (λ d w. owner_of_key c.args.key (calls_in d w).entries)
    (λ whose d token w. after_transaction_end d token c.args.context.now.at c.args.key whose w) c.args.self.now c.args.out.now
    (key_of c.args.self.now (owner_in c.owner_of_key-whose.result) c.args.key c.owner_of_key-whose.ensures) c.signal_conferences.new.out
    (subst (λ (x : declared.Owner). AddsOfferPrefix c.args.self.now c.args.out.now c.signal_conferences.new.out (λ d token w. after_transaction_end d token c.args.context.now.at c.args.key (owner_in x) w))
    (sym c.in-Conferences.is) holds))
    c.signal_conferences.ensures.err

pub returns-in-Subscriptions-clause-done : goal.returns-in-Subscriptions-clause-done
returns-in-Subscriptions-clause-done g c =
    follows_so (owner_in c.owner_of_key-whose.result) (λ d w. owner_of_key c.args.key (calls_in d w).entries)
    (λ whose d token w. after_transaction_end d token c.args.context.now.at c.args.key whose w) c.args.self.now c.args.out.now
    (key_of c.args.self.now (owner_in c.owner_of_key-whose.result) c.args.key c.owner_of_key-whose.ensures) c.args.self.now c.args.out.now
    (subst (λ (x : declared.Owner). Follows c.args.self.now c.args.out.now c.args.self.now c.args.out.now (λ d token w. after_transaction_end d token c.args.context.now.at c.args.key (owner_in x) w))
    (sym c.in-Subscriptions.is)
    (rests c.args.self.now c.args.out.now))
