use Rattle.std.proofs.Common.{Option, refl, sym, subst, ◌∙◌}
use Rattle.std.proofs.lemmas.Result.{on_err_weaker, on_ok_weaker}
use Rattle.mmtel_mwi.specs.declared.counts.Counts.{Counts}
use Rattle.mmtel_run_definitions.specs.Subscriptions.{after_mailbox_upload}
use Rattle.mmtel_types.specs.declared.numbers.Account.{Account}
use Rattle.mmtel_server.proofs.Owners.{rests}
use Rattle.mmtel_server.proofs.Subscriptions.{puts_breaks, puts_follows, puts_grows}
use Rattle.mmtel_server.proofs.Grows.{on_err, stops}
use Rattle.mmtel_server.proofs.servers.Server.put_counts.Goals as goal
use Rattle.mmtel_server.specs.Follows.{AddsOfferPrefix, Follows}

pub returns-in_default-clause-done : goal.returns-in_default-clause-done
returns-in_default-clause-done g c =
    subst (λ (o : Option (Account × Counts)). Follows c.args.self.now c.args.out.now c.args.self.now c.args.out.now (λ d token. after_mailbox_upload d token c.args.context.now.at o)) (sym c.in_default.is)
    (rests c.args.self.now c.args.out.now)

pub returns-in_err-put-clause-err : goal.returns-in_err-put-clause-err
returns-in_err-put-clause-err g c = on_err c.from_residual.result _
    (stops (λ d token. after_mailbox_upload d token c.args.context.now.at c.args.put) c.args.self.now c.args.out.now c.args.out.now (λ d token w. puts_grows d token c.args.context.now.at c.args.put w) refl)

pub returns-in_err-subs-clause-err : goal.returns-in_err-subs-clause-err
returns-in_err-subs-clause-err g c = on_err c.from_residual-in_err-subs.result _
    (stops (λ d token. after_mailbox_upload d token c.args.context.now.at c.args.put) c.args.self.now c.args.out.now c.args.out.now (λ d token w. puts_grows d token c.args.context.now.at c.args.put w) refl)

pub returns-clause-done : goal.returns-clause-done
returns-clause-done g c = on_ok_weaker c.notify_each-done.result (λ follows.
    subst (λ (o : Option (Account × Counts)). Follows c.args.self.now c.args.out.now c.notify_each-done.new.self c.notify_each-done.new.out (λ d token. after_mailbox_upload d token c.args.context.now.at o))
    (sym c.in-Some.is)
    (puts_follows c.args.context.now.at c.in-Some.account c.in-Some.counts c.args.self.now c.args.out.now c.put.new.self c.in_ok-put.ensures.put c.items.result.now (c.items.ensures ∙ c.in_ok-subs.ensures.subscribers)
    c.notify_each-done.new.self c.notify_each-done.new.out follows)) c.notify_each-done.ensures.done

pub returns-clause-err : goal.returns-clause-err
returns-clause-err g c = on_err_weaker c.notify_each-done.result (λ breaks.
    subst (λ (o : Option (Account × Counts)). AddsOfferPrefix c.args.self.now c.args.out.now c.notify_each-done.new.out (λ d token. after_mailbox_upload d token c.args.context.now.at o)) (sym c.in-Some.is)
    (puts_breaks c.args.context.now.at c.in-Some.account c.in-Some.counts c.args.self.now c.args.out.now c.put.new.self c.in_ok-put.ensures.put c.items.result.now (c.items.ensures ∙ c.in_ok-subs.ensures.subscribers)
    c.notify_each-done.new.out breaks)) c.notify_each-done.ensures.err
