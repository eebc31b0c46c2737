use Rattle.std.proofs.Common.{◌≡◌, Err, true, refl, sym, subst}
use Rattle.std.specs.Prelude.{IsOk}
use Rattle.std.proofs.lemmas.Result.{on_err_weaker, on_ok_weaker}
use Rattle.mmtel_b2bua.specs.Operations.{Restores}
use Rattle.mmtel_b2bua.specs.Detaching.{can_restore, entry_of}
use Rattle.mmtel_focus.specs.Table.{access}
use Rattle.mmtel_leg.specs.declared.legs.Released.{Released}
use Rattle.mmtel_run_definitions.specs.Transitions.{adoption_op, after_adoption_if, after_call_end, after_conference_op, after_refer_notify, conferences_in, with_call_op}
use Rattle.mmtel_server.proofs.Known.{err_of, ok_of, on_err_of}
use Rattle.mmtel_server.proofs.Grows.{followed, grows_on_call_end, grows_with_conference_op, offer_prefix_added, on_err, stops}
use Rattle.mmtel_server.proofs.Detaching.{breaks_detached, follows_detached}
use Rattle.mmtel_server.proofs.Participants.{adopted_so, adopts_grows, breaks_reads, broke_first, follows_reads, housed_breaks, housed_follows, unadopted_so}
use Rattle.mmtel_server.proofs.servers.Server.adopt.Goals as goal
use Rattle.mmtel_server.specs.Follows.{AddsOfferPrefix, ConferencesPerform, Follows}
use Rattle.mmtel_server.specs.declared.servers.Server.{Server}

pub returns-in_err-joined-clause-err : goal.returns-in_err-joined-clause-err
returns-in_err-joined-clause-err g c = on_err c.from_residual.result _
    (stops (λ d token w. after_adoption_if d token c.args.context.now.at c.args.participant.room c.args.participant.number c.args.call c.args.leg c.args.account
    (access c.args.participant.room.0 (conferences_in d w).live) w) c.args.self.now c.args.out.now c.args.out.now
    (λ d token w. adopts_grows c.numbers_never_fall.ensures d token c.args.context.now.at c.args.participant.room c.args.participant.number c.args.call c.args.leg c.args.account
    (access c.args.participant.room.0 (conferences_in d w).live) w) refl)

pub returns-in_err-emitted-in-Ok-clause-err : goal.returns-in_err-emitted-in-Ok-clause-err
returns-in_err-emitted-in-Ok-clause-err g c = on_err c.from_residual-in_err-emitted-in-Ok.result _
    (adopted_so c.args.self.now (AddsOfferPrefix c.args.self.now c.args.out.now c.emit_all-emitted.new.out)
    (breaks_reads c.args.self.now c.args.out.now c.emit_all-emitted.new.out) c.args.context.now.at c.args.participant.room c.args.participant.number c.args.call c.args.leg c.args.account
    (ok_of (λ emits. IsOk (access c.args.participant.room.0 c.args.self.now.rooms.table.live)) c.in_ok-joined.joined c.in-Ok.emits c.in-Ok.is c.in_ok-joined.ensures.free)
    (broke_first (λ d token w. after_conference_op d c.args.context.now.at (adoption_op token c.args.context.now.at c.args.participant.room c.args.participant.number c.args.leg c.args.account w) w)
    (λ d token w. after_call_end d token c.args.context.now.at c.args.call
    (after_conference_op d c.args.context.now.at (adoption_op token c.args.context.now.at c.args.participant.room c.args.participant.number c.args.leg c.args.account w) w))
    c.args.self.now c.args.out.now c.emit_all-emitted.new.out
    (λ d token w. grows_on_call_end c.numbers_never_fall.ensures d token c.args.context.now.at c.args.call
    (after_conference_op d c.args.context.now.at (adoption_op token c.args.context.now.at c.args.participant.room c.args.participant.number c.args.leg c.args.account w) w))
    (housed_breaks (λ d token w. adoption_op token c.args.context.now.at c.args.participant.room c.args.participant.number c.args.leg c.args.account w) c.args.self.now c.add_participant.new.self
    c.in-Ok.emits c.items.result.now c.args.context.now.at c.args.out.now c.emit_all-emitted.new.out
    c.items.ensures (ok_of (ConferencesPerform c.args.self.now c.add_participant.new.self (λ d token w. adoption_op token c.args.context.now.at c.args.participant.room c.args.participant.number
    c.args.leg c.args.account w)) c.in_ok-joined.joined c.in-Ok.emits c.in-Ok.is c.in_ok-joined.ensures.seated) c.in_err-emitted-in-Ok.ensures.err)))

pub returns-in_ok-emitted-in-Ok-clause-done : goal.returns-in_ok-emitted-in-Ok-clause-done
returns-in_ok-emitted-in-Ok-clause-done g c = on_ok_weaker c.finish_call.result (λ follows.
    adopted_so c.args.self.now (Follows c.args.self.now c.args.out.now c.finish_call.new.self c.finish_call.new.out)
    (follows_reads c.args.self.now c.args.out.now c.finish_call.new.self c.finish_call.new.out) c.args.context.now.at c.args.participant.room c.args.participant.number c.args.call c.args.leg
    c.args.account (ok_of (λ emits. IsOk (access c.args.participant.room.0 c.args.self.now.rooms.table.live)) c.in_ok-joined.joined c.in-Ok.emits c.in-Ok.is c.in_ok-joined.ensures.free)
    (followed (λ d token w. after_conference_op d c.args.context.now.at (adoption_op token c.args.context.now.at c.args.participant.room c.args.participant.number c.args.leg c.args.account w) w)
    (λ d token. after_call_end d token c.args.context.now.at c.args.call)
    c.args.self.now c.emit_all-emitted.new.self c.finish_call.new.self c.args.out.now c.emit_all-emitted.new.out c.finish_call.new.out
    (λ d token w. grows_on_call_end c.numbers_never_fall.ensures d token c.args.context.now.at c.args.call w)
    (housed_follows (λ d token w. adoption_op token c.args.context.now.at c.args.participant.room c.args.participant.number c.args.leg c.args.account w) c.args.self.now c.add_participant.new.self
    c.in-Ok.emits c.items.result.now c.args.context.now.at c.args.out.now c.emit_all-emitted.new.out
    c.items.ensures (ok_of (ConferencesPerform c.args.self.now c.add_participant.new.self (λ d token w. adoption_op token c.args.context.now.at c.args.participant.room c.args.participant.number
    c.args.leg c.args.account w)) c.in_ok-joined.joined c.in-Ok.emits c.in-Ok.is c.in_ok-joined.ensures.seated) c.emit_all-emitted.new.self c.in_ok-emitted-in-Ok.ensures.done)
    follows))
    c.finish_call.ensures.done

pub returns-in_ok-emitted-in-Ok-clause-err : goal.returns-in_ok-emitted-in-Ok-clause-err
returns-in_ok-emitted-in-Ok-clause-err g c = on_err_weaker c.finish_call.result (λ breaks.
    adopted_so c.args.self.now (AddsOfferPrefix c.args.self.now c.args.out.now c.finish_call.new.out)
    (breaks_reads c.args.self.now c.args.out.now c.finish_call.new.out) c.args.context.now.at c.args.participant.room c.args.participant.number c.args.call c.args.leg c.args.account
    (ok_of (λ emits. IsOk (access c.args.participant.room.0 c.args.self.now.rooms.table.live)) c.in_ok-joined.joined c.in-Ok.emits c.in-Ok.is c.in_ok-joined.ensures.free)
    (offer_prefix_added (λ d token w. after_conference_op d c.args.context.now.at (adoption_op token c.args.context.now.at c.args.participant.room c.args.participant.number c.args.leg c.args.account w) w)
    (λ d token. after_call_end d token c.args.context.now.at c.args.call)
    c.args.self.now c.emit_all-emitted.new.self c.args.out.now c.emit_all-emitted.new.out c.finish_call.new.out
    (λ d token w. grows_with_conference_op c.numbers_never_fall.ensures d c.args.context.now.at
    (adoption_op token c.args.context.now.at c.args.participant.room c.args.participant.number c.args.leg c.args.account w) w refl)
    (λ d token w. grows_on_call_end c.numbers_never_fall.ensures d token c.args.context.now.at c.args.call w)
    (housed_follows (λ d token w. adoption_op token c.args.context.now.at c.args.participant.room c.args.participant.number c.args.leg c.args.account w) c.args.self.now c.add_participant.new.self
    c.in-Ok.emits c.items.result.now c.args.context.now.at c.args.out.now c.emit_all-emitted.new.out
    c.items.ensures (ok_of (ConferencesPerform c.args.self.now c.add_participant.new.self (λ d token w. adoption_op token c.args.context.now.at c.args.participant.room c.args.participant.number
    c.args.leg c.args.account w)) c.in_ok-joined.joined c.in-Ok.emits c.in-Ok.is c.in_ok-joined.ensures.seated) c.emit_all-emitted.new.self c.in_ok-emitted-in-Ok.ensures.done)
    breaks))
    c.finish_call.ensures.err

pub restore-requires-clause-fits : goal.restore-requires-clause-fits
restore-requires-clause-fits g c = subst (λ (t : Server). can_restore c.in-Err.leg (entry_of c.args.call.0 t.calls.table.entries) ≡ true)
    (sym (on_err_of (c.add_participant.new.self ≡ c.args.self.now) c.in_ok-joined.joined (c.in-Err.leg, c.in-Err.field-0-1) c.in-Err.is c.in_ok-joined.ensures.same))
    (subst (λ (l : Released). can_restore l (entry_of c.args.call.0 c.args.self.now.calls.table.entries) ≡ true) (sym (err_of (λ e. (e.0 ≡ c.args.leg)
    × (access c.args.participant.room.0 c.args.self.now.rooms.table.live ≡ Err e.1)) c.in_ok-joined.joined (c.in-Err.leg, c.in-Err.field-0-1) c.in-Err.is c.in_ok-joined.ensures.refused).0) c.requires.fits)

pub returns-in-Err-clause-done : goal.returns-in-Err-clause-done
returns-in-Err-clause-done g c = on_ok_weaker c.send_refer_notify.result (λ follows.
    unadopted_so c.args.self.now (Follows c.args.self.now c.args.out.now c.send_refer_notify.new.self c.send_refer_notify.new.out)
    (follows_reads c.args.self.now c.args.out.now c.send_refer_notify.new.self c.send_refer_notify.new.out) c.args.context.now.at
    c.args.participant.room c.args.participant.number c.args.call c.args.leg c.args.account c.in-Err.field-0-1
    (err_of (λ e. (e.0 ≡ c.args.leg) × (access c.args.participant.room.0 c.args.self.now.rooms.table.live ≡ Err e.1)) c.in_ok-joined.joined (c.in-Err.leg, c.in-Err.field-0-1) c.in-Err.is c.in_ok-joined.ensures.refused).1
    (subst (λ (t : Server). Follows t c.args.out.now c.send_refer_notify.new.self c.send_refer_notify.new.out
    (λ d token w. after_refer_notify d token c.args.context.now.at c.args.participant.room c.args.participant.number 503 (with_call_op (Restores c.args.call.0 c.args.leg) w)))
    (on_err_of (c.add_participant.new.self ≡ c.args.self.now) c.in_ok-joined.joined (c.in-Err.leg, c.in-Err.field-0-1) c.in-Err.is c.in_ok-joined.ensures.same)
    (subst (λ (l : Released). Follows c.add_participant.new.self c.args.out.now c.send_refer_notify.new.self c.send_refer_notify.new.out
    (λ d token w. after_refer_notify d token c.args.context.now.at c.args.participant.room c.args.participant.number 503 (with_call_op (Restores c.args.call.0 l) w)))
    (err_of (λ e. (e.0 ≡ c.args.leg) × (access c.args.participant.room.0 c.args.self.now.rooms.table.live ≡ Err e.1)) c.in_ok-joined.joined (c.in-Err.leg, c.in-Err.field-0-1) c.in-Err.is c.in_ok-joined.ensures.refused).0
    (follows_detached (Restores c.args.call.0 c.in-Err.leg) (λ config table. refl) c.add_participant.new.self c.restore.new.self c.restore.ensures.done c.restore.ensures.config
    (λ d token. after_refer_notify d token c.args.context.now.at c.args.participant.room c.args.participant.number 503) c.send_refer_notify.new.self c.args.out.now c.send_refer_notify.new.out follows))))
    c.send_refer_notify.ensures.done

pub returns-in-Err-clause-err : goal.returns-in-Err-clause-err
returns-in-Err-clause-err g c = on_err_weaker c.send_refer_notify.result (λ breaks.
    unadopted_so c.args.self.now (AddsOfferPrefix c.args.self.now c.args.out.now c.send_refer_notify.new.out) (breaks_reads c.args.self.now c.args.out.now c.send_refer_notify.new.out) c.args.context.now.at
    c.args.participant.room c.args.participant.number c.args.call c.args.leg c.args.account c.in-Err.field-0-1
    (err_of (λ e. (e.0 ≡ c.args.leg) × (access c.args.participant.room.0 c.args.self.now.rooms.table.live ≡ Err e.1)) c.in_ok-joined.joined (c.in-Err.leg, c.in-Err.field-0-1) c.in-Err.is c.in_ok-joined.ensures.refused).1
    (subst (λ (t : Server). AddsOfferPrefix t c.args.out.now c.send_refer_notify.new.out (λ d token w. after_refer_notify d token c.args.context.now.at c.args.participant.room c.args.participant.number 503
    (with_call_op (Restores c.args.call.0 c.args.leg) w))) (on_err_of (c.add_participant.new.self ≡ c.args.self.now) c.in_ok-joined.joined (c.in-Err.leg, c.in-Err.field-0-1) c.in-Err.is c.in_ok-joined.ensures.same)
    (subst (λ (l : Released). AddsOfferPrefix c.add_participant.new.self c.args.out.now c.send_refer_notify.new.out
    (λ d token w. after_refer_notify d token c.args.context.now.at c.args.participant.room c.args.participant.number 503 (with_call_op (Restores c.args.call.0 l) w)))
    (err_of (λ e. (e.0 ≡ c.args.leg) × (access c.args.participant.room.0 c.args.self.now.rooms.table.live ≡ Err e.1)) c.in_ok-joined.joined (c.in-Err.leg, c.in-Err.field-0-1) c.in-Err.is c.in_ok-joined.ensures.refused).0
    (breaks_detached (Restores c.args.call.0 c.in-Err.leg) (λ config table. refl) c.add_participant.new.self c.restore.new.self c.restore.ensures.done c.restore.ensures.config
    (λ d token. after_refer_notify d token c.args.context.now.at c.args.participant.room c.args.participant.number 503) c.args.out.now c.send_refer_notify.new.out breaks))))
    c.send_refer_notify.ensures.err
