use Rattle.std.proofs.Common.{Option, sym, subst}
use Rattle.std.specs.Prelude.{OnErr, OnOk}
use Rattle.mmtel_focus.specs.declared.referrals.Replaces.{Replaces}
use Rattle.mmtel_run_definitions.specs.Transitions.{after_replaces}
use Rattle.mmtel_server.proofs.Owners.{rests}
use Rattle.mmtel_server.proofs.servers.Server.replace_if_requested.Goals as goal
use Rattle.mmtel_server.specs.Follows.{AddsOfferPrefix, Follows}

pub returns-in-None-clause-done : goal.returns-in-None-clause-done
returns-in-None-clause-done g c =
    subst (λ (o : Option Replaces). Follows c.args.self.now c.args.out.now c.args.self.now c.args.out.now
    (λ d token. after_replaces d token c.args.context.now.at c.args.peer c.args.participant.room c.args.participant.number o)) (sym c.in-None.is)
    (rests c.args.self.now c.args.out.now)

pub returns-in-Some-clause-done : goal.returns-in-Some-clause-done
returns-in-Some-clause-done g c =
    subst (λ (o : Option Replaces). OnOk c.replace_by-done.result
    (Follows c.args.self.now c.args.out.now c.replace_by-done.new.self c.replace_by-done.new.out (λ d token. after_replaces d token c.args.context.now.at c.args.peer c.args.participant.room c.args.participant.number o)))
    (sym c.in-Some.is) c.replace_by-done.ensures.done

pub returns-in-Some-clause-err : goal.returns-in-Some-clause-err
returns-in-Some-clause-err g c =
    subst (λ (o : Option Replaces). OnErr c.replace_by-done.result
    (AddsOfferPrefix c.args.self.now c.args.out.now c.replace_by-done.new.out (λ d token. after_replaces d token c.args.context.now.at c.args.peer c.args.participant.room c.args.participant.number o)))
    (sym c.in-Some.is) c.replace_by-done.ensures.err
