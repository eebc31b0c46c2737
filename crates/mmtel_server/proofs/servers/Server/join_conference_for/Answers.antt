use Rattle.std.proofs.Common.{◌≡◌, ◌∙◌, List, ℕ, Err, refl, ap, subst}
use Rattle.std.specs.Prelude.{IsOk}
use Rattle.std.proofs.lemmas.Result.{on_err_weaker, on_ok_weaker}
use Rattle.mmtel_focus.specs.Operations.{Joins}
use Rattle.mmtel_focus.specs.Table.{access}
use Rattle.mmtel_leg.specs.declared.legs.Released.TheVariants as released
use Rattle.mmtel_run_definitions.specs.Ownership.{leg_by}
use Rattle.mmtel_run_definitions.specs.Transitions.{after_join_if, after_newcomer_refusal, conferences_in, tokens_now}
use Rattle.mmtel_server.proofs.Known.{err_of, ok_of, on_err_of}
use Rattle.mmtel_server.proofs.Grows.{on_err, stops}
use Rattle.mmtel_server.proofs.Participants.{breaks_reads, follows_reads, housed_breaks, housed_follows, joined_so, room_joins_grows, unjoined_so}
use Rattle.mmtel_server.proofs.servers.Server.join_conference_for.Goals as goal
use Rattle.mmtel_server.specs.Follows.{AddsOfferPrefix, ConferencesPerform, Follows}
use Rattle.mmtel_server.specs.declared.servers.Server.{Server}

pub returns-in_err-account-clause-err : goal.returns-in_err-account-clause-err
returns-in_err-account-clause-err g c = on_err c.from_residual.result _
    (stops (λ d token w. after_join_if d token c.args.context.now.at c.args.newcomer.now.key c.args.newcomer.now.invite.now c.args.room c.args.newcomer.now.tag.now (access c.args.room.0 (conferences_in d w).live) w)
    c.args.self.now c.args.out.now c.args.out.now
    (λ d token w. room_joins_grows c.numbers_never_fall.ensures d token c.args.context.now.at c.args.newcomer.now.key c.args.newcomer.now.invite.now c.args.room c.args.newcomer.now.tag.now
    (access c.args.room.0 (conferences_in d w).live) w) refl)

pub returns-in_err-copied-clause-err : goal.returns-in_err-copied-clause-err
returns-in_err-copied-clause-err g c = on_err c.from_residual-in_err-copied.result _
    (stops (λ d token w. after_join_if d token c.args.context.now.at c.args.newcomer.now.key c.args.newcomer.now.invite.now c.args.room c.args.newcomer.now.tag.now (access c.args.room.0 (conferences_in d w).live) w)
    c.args.self.now c.args.out.now c.args.out.now
    (λ d token w. room_joins_grows c.numbers_never_fall.ensures d token c.args.context.now.at c.args.newcomer.now.key c.args.newcomer.now.invite.now c.args.room c.args.newcomer.now.tag.now
    (access c.args.room.0 (conferences_in d w).live) w) refl)

pub returns-in_err-leg-clause-err : goal.returns-in_err-leg-clause-err
returns-in_err-leg-clause-err g c = on_err c.from_residual-in_err-leg.result _
    (stops (λ d token w. after_join_if d token c.args.context.now.at c.args.newcomer.now.key c.args.newcomer.now.invite.now c.args.room c.args.newcomer.now.tag.now (access c.args.room.0 (conferences_in d w).live) w)
    c.args.self.now c.args.out.now c.args.out.now
    (λ d token w. room_joins_grows c.numbers_never_fall.ensures d token c.args.context.now.at c.args.newcomer.now.key c.args.newcomer.now.invite.now c.args.room c.args.newcomer.now.tag.now
    (access c.args.room.0 (conferences_in d w).live) w) refl)

pub returns-in_err-joined-clause-err : goal.returns-in_err-joined-clause-err
returns-in_err-joined-clause-err g c = on_err c.from_residual-in_err-joined.result _
    (stops (λ d token w. after_join_if d token c.args.context.now.at c.args.newcomer.now.key c.args.newcomer.now.invite.now c.args.room c.args.newcomer.now.tag.now (access c.args.room.0 (conferences_in d w).live) w)
    c.args.self.now c.args.out.now c.args.out.now
    (λ d token w. room_joins_grows c.numbers_never_fall.ensures d token c.args.context.now.at c.args.newcomer.now.key c.args.newcomer.now.invite.now c.args.room c.args.newcomer.now.tag.now
    (access c.args.room.0 (conferences_in d w).live) w) refl)

pub returns-in-Ok-clause-done : goal.returns-in-Ok-clause-done
returns-in-Ok-clause-done g c = on_ok_weaker c.emit_all-done.result (λ follows.
    joined_so c.args.self.now (Follows c.args.self.now c.args.out.now c.emit_all-done.new.self c.emit_all-done.new.out)
    (follows_reads c.args.self.now c.args.out.now c.emit_all-done.new.self c.emit_all-done.new.out) c.args.context.now.at
    c.args.room c.args.newcomer.now.key c.args.newcomer.now.invite.now c.args.newcomer.now.tag.now c.in_ok-leg.leg c.in_ok-account.account
    (c.in_ok-leg.ensures ∙ ap (λ (t : List ℕ). leg_by t c.args.newcomer.now.invite.now) c.in_ok-copied.ensures.copy) c.in_ok-account.ensures.account
    (ok_of (λ emits. IsOk (access c.args.room.0 c.args.self.now.rooms.table.live)) c.in_ok-joined.joined c.in-Ok.emits c.in-Ok.is c.in_ok-joined.ensures.free)
    (housed_follows (λ d token w. Joins c.args.room.0
    (record { at = c.args.context.now.at; tokens = tokens_now token w; leg = released.Caller c.in_ok-leg.leg; account = c.in_ok-account.account; key = c.args.newcomer.now.key; invite = c.args.newcomer.now.invite.now }))
    c.args.self.now c.add_participant.new.self c.in-Ok.emits c.items.result.now c.args.context.now.at c.args.out.now c.emit_all-done.new.out c.items.ensures
    (ok_of (ConferencesPerform c.args.self.now c.add_participant.new.self (λ d token w. Joins c.args.room.0 (record {
      at = c.args.context.now.at;
      tokens = tokens_now token w;
      leg = released.Caller c.in_ok-leg.leg;
      account = c.in_ok-account.account;
      key = c.args.newcomer.now.key;
      invite = c.args.newcomer.now.invite.now;
    }))) c.in_ok-joined.joined c.in-Ok.emits c.in-Ok.is c.in_ok-joined.ensures.seated) c.emit_all-done.new.self follows))
    c.emit_all-done.ensures.done

pub returns-in-Ok-clause-err : goal.returns-in-Ok-clause-err
returns-in-Ok-clause-err g c = on_err_weaker c.emit_all-done.result (λ breaks.
    joined_so c.args.self.now (AddsOfferPrefix c.args.self.now c.args.out.now c.emit_all-done.new.out) (breaks_reads c.args.self.now c.args.out.now c.emit_all-done.new.out) c.args.context.now.at
    c.args.room c.args.newcomer.now.key c.args.newcomer.now.invite.now c.args.newcomer.now.tag.now c.in_ok-leg.leg c.in_ok-account.account
    (c.in_ok-leg.ensures ∙ ap (λ (t : List ℕ). leg_by t c.args.newcomer.now.invite.now) c.in_ok-copied.ensures.copy) c.in_ok-account.ensures.account
    (ok_of (λ emits. IsOk (access c.args.room.0 c.args.self.now.rooms.table.live)) c.in_ok-joined.joined c.in-Ok.emits c.in-Ok.is c.in_ok-joined.ensures.free)
    (housed_breaks (λ d token w. Joins c.args.room.0
    (record { at = c.args.context.now.at; tokens = tokens_now token w; leg = released.Caller c.in_ok-leg.leg; account = c.in_ok-account.account; key = c.args.newcomer.now.key; invite = c.args.newcomer.now.invite.now }))
    c.args.self.now c.add_participant.new.self c.in-Ok.emits c.items.result.now c.args.context.now.at c.args.out.now c.emit_all-done.new.out c.items.ensures
    (ok_of (ConferencesPerform c.args.self.now c.add_participant.new.self (λ d token w. Joins c.args.room.0 (record {
      at = c.args.context.now.at;
      tokens = tokens_now token w;
      leg = released.Caller c.in_ok-leg.leg;
      account = c.in_ok-account.account;
      key = c.args.newcomer.now.key;
      invite = c.args.newcomer.now.invite.now;
    }))) c.in_ok-joined.joined c.in-Ok.emits c.in-Ok.is c.in_ok-joined.ensures.seated) breaks))
    c.emit_all-done.ensures.err

pub returns-in-Err-clause-done : goal.returns-in-Err-clause-done
returns-in-Err-clause-done g c = on_ok_weaker c.refuse_newcomer.result (λ follows.
    unjoined_so c.args.self.now (Follows c.args.self.now c.args.out.now c.refuse_newcomer.new.self c.refuse_newcomer.new.out)
    (follows_reads c.args.self.now c.args.out.now c.refuse_newcomer.new.self c.refuse_newcomer.new.out) c.args.context.now.at c.args.room c.args.newcomer.now.key c.args.newcomer.now.invite.now
    c.args.newcomer.now.tag.now c.in-Err.fault (err_of (λ e. (e.0 ≡ released.Caller c.in_ok-leg.leg) × (access c.args.room.0 c.args.self.now.rooms.table.live ≡ Err e.1)) c.in_ok-joined.joined
    (c.in-Err.leg, c.in-Err.fault) c.in-Err.is c.in_ok-joined.ensures.refused).1
    (subst (λ (n : ℕ). Follows c.args.self.now c.args.out.now c.refuse_newcomer.new.self c.refuse_newcomer.new.out
    (λ d token. after_newcomer_refusal d c.args.context.now.at c.args.newcomer.now.key c.args.newcomer.now.invite.now c.args.newcomer.now.tag.now n)) c.status_of_fault.ensures
    (subst (λ (s : Server). Follows s c.args.out.now c.refuse_newcomer.new.self c.refuse_newcomer.new.out
    (λ d token. after_newcomer_refusal d c.args.context.now.at c.args.newcomer.now.key c.args.newcomer.now.invite.now c.args.newcomer.now.tag.now c.status_of_fault.result))
    (on_err_of (c.add_participant.new.self ≡ c.args.self.now) c.in_ok-joined.joined (c.in-Err.leg, c.in-Err.fault) c.in-Err.is c.in_ok-joined.ensures.same) follows)))
    c.refuse_newcomer.ensures.done

pub returns-in-Err-clause-err : goal.returns-in-Err-clause-err
returns-in-Err-clause-err g c = on_err_weaker c.refuse_newcomer.result (λ same.
    stops (λ d token w. after_join_if d token c.args.context.now.at c.args.newcomer.now.key c.args.newcomer.now.invite.now c.args.room c.args.newcomer.now.tag.now (access c.args.room.0 (conferences_in d w).live) w)
    c.args.self.now c.args.out.now c.refuse_newcomer.new.out
    (λ d token w. room_joins_grows c.numbers_never_fall.ensures d token c.args.context.now.at c.args.newcomer.now.key c.args.newcomer.now.invite.now c.args.room c.args.newcomer.now.tag.now
    (access c.args.room.0 (conferences_in d w).live) w) same) c.refuse_newcomer.ensures.err
