use Rattle.std.proofs.Common.{Some, None, refl}
use Rattle.std.proofs.lemmas.Result.{on_err_weaker, on_ok_weaker}
use Rattle.mmtel_b2bua.specs.Operations.{Releases}
use Rattle.mmtel_b2bua.specs.Queries.{party}
use Rattle.mmtel_focus.specs.Table.{access}
use Rattle.mmtel_run_definitions.specs.Transitions.{after_adoption_if, after_refer_notify, conferences_in}
use Rattle.mmtel_server.proofs.Owners.{of_calls}
use Rattle.mmtel_server.proofs.Detaching.{breaks_detached, breaks_unlent, follows_detached, follows_unlent}
use Rattle.mmtel_server.proofs.Participants.{breaks_reads, follows_reads, taken_so}
use Rattle.mmtel_server.proofs.servers.Server.detach_and_adopt.Goals as goal
use Rattle.mmtel_server.specs.Follows.{AddsOfferPrefix, Follows}

pub returns-in-Ok-clause-done : goal.returns-in-Ok-clause-done
returns-in-Ok-clause-done g c = on_ok_weaker c.adopt.result (λ follows.
    taken_so c.args.self.now (Follows c.args.self.now c.args.out.now c.adopt.new.self c.adopt.new.out)
    (follows_reads c.args.self.now c.args.out.now c.adopt.new.self c.adopt.new.out) c.args.context.now.at c.args.participant.room c.args.participant.number c.args.call c.args.side
    c.party.result c.account_at-account.result (Some c.in-Ok.leg) c.account_at-account.ensures (of_calls c.args.self.now c.party.result (party c.args.call.0 c.args.side) c.party.ensures) c.in-Ok.ensures.leg
    (follows_detached (Releases c.args.call.0 c.args.side) (λ config table. refl) c.args.self.now c.release.new.self c.release.ensures.done c.release.ensures.config
    (λ d token w. after_adoption_if d token c.args.context.now.at c.args.participant.room c.args.participant.number c.args.call c.in-Ok.leg c.account_at-account.result
    (access c.args.participant.room.0 (conferences_in d w).live) w)
    c.adopt.new.self c.args.out.now c.adopt.new.out follows))
    c.adopt.ensures.done

pub returns-in-Ok-clause-err : goal.returns-in-Ok-clause-err
returns-in-Ok-clause-err g c = on_err_weaker c.adopt.result (λ breaks.
    taken_so c.args.self.now (AddsOfferPrefix c.args.self.now c.args.out.now c.adopt.new.out)
    (breaks_reads c.args.self.now c.args.out.now c.adopt.new.out) c.args.context.now.at c.args.participant.room c.args.participant.number c.args.call c.args.side
    c.party.result c.account_at-account.result (Some c.in-Ok.leg) c.account_at-account.ensures (of_calls c.args.self.now c.party.result (party c.args.call.0 c.args.side) c.party.ensures) c.in-Ok.ensures.leg
    (breaks_detached (Releases c.args.call.0 c.args.side) (λ config table. refl) c.args.self.now c.release.new.self c.release.ensures.done c.release.ensures.config
    (λ d token w. after_adoption_if d token c.args.context.now.at c.args.participant.room c.args.participant.number c.args.call c.in-Ok.leg c.account_at-account.result
    (access c.args.participant.room.0 (conferences_in d w).live) w)
    c.args.out.now c.adopt.new.out breaks))
    c.adopt.ensures.err

pub returns-in-Err-clause-done : goal.returns-in-Err-clause-done
returns-in-Err-clause-done g c = on_ok_weaker c.send_refer_notify.result (λ follows.
    taken_so c.args.self.now (Follows c.args.self.now c.args.out.now c.send_refer_notify.new.self c.send_refer_notify.new.out)
    (follows_reads c.args.self.now c.args.out.now c.send_refer_notify.new.self c.send_refer_notify.new.out) c.args.context.now.at c.args.participant.room c.args.participant.number c.args.call c.args.side
    c.party.result c.account_at-account.result None c.account_at-account.ensures (of_calls c.args.self.now c.party.result (party c.args.call.0 c.args.side) c.party.ensures) c.in-Err.ensures.leg
    (follows_unlent c.args.call.0 c.args.side c.args.self.now c.release.new.self c.in-Err.ensures.leg c.release.ensures.done c.release.ensures.config
    (λ d token. after_refer_notify d token c.args.context.now.at c.args.participant.room c.args.participant.number 491) c.send_refer_notify.new.self c.args.out.now c.send_refer_notify.new.out follows))
    c.send_refer_notify.ensures.done

pub returns-in-Err-clause-err : goal.returns-in-Err-clause-err
returns-in-Err-clause-err g c = on_err_weaker c.send_refer_notify.result (λ breaks.
    taken_so c.args.self.now (AddsOfferPrefix c.args.self.now c.args.out.now c.send_refer_notify.new.out)
    (breaks_reads c.args.self.now c.args.out.now c.send_refer_notify.new.out) c.args.context.now.at c.args.participant.room c.args.participant.number c.args.call c.args.side
    c.party.result c.account_at-account.result None c.account_at-account.ensures (of_calls c.args.self.now c.party.result (party c.args.call.0 c.args.side) c.party.ensures) c.in-Err.ensures.leg
    (breaks_unlent c.args.call.0 c.args.side c.args.self.now c.release.new.self c.in-Err.ensures.leg c.release.ensures.done c.release.ensures.config
    (λ d token. after_refer_notify d token c.args.context.now.at c.args.participant.room c.args.participant.number 491) c.args.out.now c.send_refer_notify.new.out breaks))
    c.send_refer_notify.ensures.err
