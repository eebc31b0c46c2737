use Rattle.std.proofs.Common.{Option, sym, subst}
use Rattle.std.proofs.lemmas.Result.{on_err_weaker, on_ok_weaker}
use Rattle.mmtel_run_definitions.specs.Transitions.{after_replacing_named}
use Rattle.mmtel_types.specs.declared.numbers.CallNo.{CallNo}
use Rattle.mmtel_types.specs.declared.sides.Side.{Side}
use Rattle.mmtel_server.proofs.Participants.{breaks_reads, dialog_so, follows_reads}
use Rattle.mmtel_server.proofs.servers.Server.replace_dialog.Goals as goal
use Rattle.mmtel_server.specs.Follows.{AddsOfferPrefix, Follows}

pub returns-in-None-clause-done : goal.returns-in-None-clause-done
returns-in-None-clause-done g c = on_ok_weaker c.send_refer_notify.result (λ follows.
    let P = Follows c.args.self.now c.args.out.now c.send_refer_notify.new.self c.send_refer_notify.new.out in
    dialog_so c.args.self.now P (follows_reads c.args.self.now c.args.out.now c.send_refer_notify.new.self c.send_refer_notify.new.out) c.args.context.now.at c.args.participant.room
    c.args.participant.number c.args.peer c.args.replaces.now c.replaced_side.result c.replaced_side.ensures
    (subst (λ (o : Option (CallNo × Side)). P (λ d token. after_replacing_named d token c.args.context.now.at c.args.peer c.args.participant.room c.args.participant.number o)) (sym c.in-None.is) follows))
    c.send_refer_notify.ensures.done

pub returns-in-None-clause-err : goal.returns-in-None-clause-err
returns-in-None-clause-err g c = on_err_weaker c.send_refer_notify.result (λ breaks.
    let P = AddsOfferPrefix c.args.self.now c.args.out.now c.send_refer_notify.new.out in
    dialog_so c.args.self.now P (breaks_reads c.args.self.now c.args.out.now c.send_refer_notify.new.out) c.args.context.now.at c.args.participant.room c.args.participant.number c.args.peer
    c.args.replaces.now c.replaced_side.result c.replaced_side.ensures
    (subst (λ (o : Option (CallNo × Side)). P (λ d token. after_replacing_named d token c.args.context.now.at c.args.peer c.args.participant.room c.args.participant.number o)) (sym c.in-None.is) breaks))
    c.send_refer_notify.ensures.err

pub returns-in-Some-clause-done : goal.returns-in-Some-clause-done
returns-in-Some-clause-done g c = on_ok_weaker c.replace_side.result (λ follows.
    let P = Follows c.args.self.now c.args.out.now c.replace_side.new.self c.replace_side.new.out in
    dialog_so c.args.self.now P (follows_reads c.args.self.now c.args.out.now c.replace_side.new.self c.replace_side.new.out) c.args.context.now.at c.args.participant.room c.args.participant.number
    c.args.peer c.args.replaces.now c.replaced_side.result c.replaced_side.ensures
    (subst (λ (o : Option (CallNo × Side)). P (λ d token. after_replacing_named d token c.args.context.now.at c.args.peer c.args.participant.room c.args.participant.number o)) (sym c.in-Some.is) follows))
    c.replace_side.ensures.done

pub returns-in-Some-clause-err : goal.returns-in-Some-clause-err
returns-in-Some-clause-err g c = on_err_weaker c.replace_side.result (λ breaks.
    let P = AddsOfferPrefix c.args.self.now c.args.out.now c.replace_side.new.out in
    dialog_so c.args.self.now P (breaks_reads c.args.self.now c.args.out.now c.replace_side.new.out) c.args.context.now.at c.args.participant.room c.args.participant.number c.args.peer
    c.args.replaces.now c.replaced_side.result c.replaced_side.ensures
    (subst (λ (o : Option (CallNo × Side)). P (λ d token. after_replacing_named d token c.args.context.now.at c.args.peer c.args.participant.room c.args.participant.number o)) (sym c.in-Some.is) breaks))
    c.replace_side.ensures.err
