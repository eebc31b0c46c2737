use Rattle.std.proofs.Common.{◌≡◌, ◌∙◌, false, List, ℕ, refl, ap, subst}
use Rattle.std.proofs.lemmas.Result.{on_err_weaker, on_ok_weaker}
use Rattle.mmtel_focus.specs.Operations.{Opens, join_request}
use Rattle.mmtel_focus.specs.Table.{is_table_full}
use Rattle.mmtel_run_definitions.specs.Ownership.{leg_by}
use Rattle.mmtel_run_definitions.specs.Transitions.{after_newcomer_refusal, after_opening_if, conferences_in}
use Rattle.mmtel_server.proofs.Known.{some_of}
use Rattle.mmtel_server.proofs.Grows.{on_err, stops}
use Rattle.mmtel_server.proofs.Participants.{breaks_reads, follows_reads, lodged_breaks, lodged_follows, opened_so, room_opens_grows, unopened_so}
use Rattle.mmtel_server.proofs.servers.Server.open_conference_for.Goals as goal
use Rattle.mmtel_server.specs.Follows.{AddsOfferPrefix, ConferencesOpen, Follows}
use Rattle.mmtel_server.specs.declared.servers.Server.{Server}

pub returns-in_err-account-clause-err : goal.returns-in_err-account-clause-err
returns-in_err-account-clause-err g c = on_err c.from_residual.result _
    (stops (λ d token w. after_opening_if d c.args.context.now.at c.args.newcomer.now.key c.args.newcomer.now.invite.now c.args.newcomer.now.tag.now (is_table_full (conferences_in d w).live) w)
    c.args.self.now c.args.out.now c.args.out.now
    (λ d token w. room_opens_grows c.numbers_never_fall.ensures d token c.args.context.now.at c.args.newcomer.now.key c.args.newcomer.now.invite.now c.args.newcomer.now.tag.now
    (is_table_full (conferences_in d w).live) w) refl)

pub returns-in_err-copied-clause-err : goal.returns-in_err-copied-clause-err
returns-in_err-copied-clause-err g c = on_err c.from_residual-in_err-copied.result _
    (stops (λ d token w. after_opening_if d c.args.context.now.at c.args.newcomer.now.key c.args.newcomer.now.invite.now c.args.newcomer.now.tag.now (is_table_full (conferences_in d w).live) w)
    c.args.self.now c.args.out.now c.args.out.now
    (λ d token w. room_opens_grows c.numbers_never_fall.ensures d token c.args.context.now.at c.args.newcomer.now.key c.args.newcomer.now.invite.now c.args.newcomer.now.tag.now
    (is_table_full (conferences_in d w).live) w) refl)

pub returns-in_err-leg-clause-err : goal.returns-in_err-leg-clause-err
returns-in_err-leg-clause-err g c = on_err c.from_residual-in_err-leg.result _
    (stops (λ d token w. after_opening_if d c.args.context.now.at c.args.newcomer.now.key c.args.newcomer.now.invite.now c.args.newcomer.now.tag.now (is_table_full (conferences_in d w).live) w)
    c.args.self.now c.args.out.now c.args.out.now
    (λ d token w. room_opens_grows c.numbers_never_fall.ensures d token c.args.context.now.at c.args.newcomer.now.key c.args.newcomer.now.invite.now c.args.newcomer.now.tag.now
    (is_table_full (conferences_in d w).live) w) refl)

pub returns-in_err-made-clause-err : goal.returns-in_err-made-clause-err
returns-in_err-made-clause-err g c = on_err c.from_residual-in_err-made.result _
    (stops (λ d token w. after_opening_if d c.args.context.now.at c.args.newcomer.now.key c.args.newcomer.now.invite.now c.args.newcomer.now.tag.now (is_table_full (conferences_in d w).live) w)
    c.args.self.now c.args.out.now c.args.out.now
    (λ d token w. room_opens_grows c.numbers_never_fall.ensures d token c.args.context.now.at c.args.newcomer.now.key c.args.newcomer.now.invite.now c.args.newcomer.now.tag.now
    (is_table_full (conferences_in d w).live) w) refl)

pub returns-in-Some-clause-done : goal.returns-in-Some-clause-done
returns-in-Some-clause-done g c = on_ok_weaker c.emit_all-done.result (λ follows.
    opened_so c.args.self.now (Follows c.args.self.now c.args.out.now c.emit_all-done.new.self c.emit_all-done.new.out)
    (follows_reads c.args.self.now c.args.out.now c.emit_all-done.new.self c.emit_all-done.new.out) c.args.context.now.at
    c.args.newcomer.now.key c.args.newcomer.now.invite.now c.args.newcomer.now.tag.now c.in_ok-leg.leg c.in_ok-account.account
    (c.in_ok-leg.ensures ∙ ap (λ (t : List ℕ). leg_by t c.args.newcomer.now.invite.now) c.in_ok-copied.ensures.copy) c.in_ok-account.ensures.account
    (some_of (λ emits. is_table_full c.args.self.now.rooms.table.live ≡ false) c.in_ok-made.made c.in-Some.emits c.in-Some.is c.in_ok-made.ensures.free)
    (lodged_follows (λ d token w. Opens (join_request c.args.context.now.at c.in_ok-leg.leg c.in_ok-account.account c.args.newcomer.now.key c.args.newcomer.now.invite.now)) c.args.self.now
    c.create_conference.new.self c.in-Some.emits c.items.result.now c.args.context.now.at
    c.args.out.now c.emit_all-done.new.out c.items.ensures (some_of (ConferencesOpen c.args.self.now c.create_conference.new.self (λ d token w. Opens (join_request c.args.context.now.at c.in_ok-leg.leg
    c.in_ok-account.account c.args.newcomer.now.key c.args.newcomer.now.invite.now))) c.in_ok-made.made c.in-Some.emits c.in-Some.is c.in_ok-made.ensures.opened) c.emit_all-done.new.self follows))
    c.emit_all-done.ensures.done

pub returns-in-Some-clause-err : goal.returns-in-Some-clause-err
returns-in-Some-clause-err g c = on_err_weaker c.emit_all-done.result (λ breaks.
    opened_so c.args.self.now (AddsOfferPrefix c.args.self.now c.args.out.now c.emit_all-done.new.out) (breaks_reads c.args.self.now c.args.out.now c.emit_all-done.new.out) c.args.context.now.at
    c.args.newcomer.now.key c.args.newcomer.now.invite.now c.args.newcomer.now.tag.now c.in_ok-leg.leg c.in_ok-account.account
    (c.in_ok-leg.ensures ∙ ap (λ (t : List ℕ). leg_by t c.args.newcomer.now.invite.now) c.in_ok-copied.ensures.copy) c.in_ok-account.ensures.account
    (some_of (λ emits. is_table_full c.args.self.now.rooms.table.live ≡ false) c.in_ok-made.made c.in-Some.emits c.in-Some.is c.in_ok-made.ensures.free)
    (lodged_breaks (λ d token w. Opens (join_request c.args.context.now.at c.in_ok-leg.leg c.in_ok-account.account c.args.newcomer.now.key c.args.newcomer.now.invite.now)) c.args.self.now
    c.create_conference.new.self c.in-Some.emits c.items.result.now c.args.context.now.at
    c.args.out.now c.emit_all-done.new.out c.items.ensures (some_of (ConferencesOpen c.args.self.now c.create_conference.new.self (λ d token w. Opens (join_request c.args.context.now.at
    c.in_ok-leg.leg c.in_ok-account.account c.args.newcomer.now.key c.args.newcomer.now.invite.now))) c.in_ok-made.made c.in-Some.emits c.in-Some.is c.in_ok-made.ensures.opened) breaks))
    c.emit_all-done.ensures.err

pub returns-in-None-clause-done : goal.returns-in-None-clause-done
returns-in-None-clause-done g c = on_ok_weaker c.refuse_newcomer.result (λ follows.
    unopened_so c.args.self.now (Follows c.args.self.now c.args.out.now c.refuse_newcomer.new.self c.refuse_newcomer.new.out)
    (follows_reads c.args.self.now c.args.out.now c.refuse_newcomer.new.self c.refuse_newcomer.new.out) c.args.context.now.at c.args.newcomer.now.key c.args.newcomer.now.invite.now
    c.args.newcomer.now.tag.now (c.in_ok-made.ensures.full c.in-None.is).1
    (subst (λ (s : Server). Follows s c.args.out.now c.refuse_newcomer.new.self c.refuse_newcomer.new.out
    (λ d token. after_newcomer_refusal d c.args.context.now.at c.args.newcomer.now.key c.args.newcomer.now.invite.now c.args.newcomer.now.tag.now 503)) (c.in_ok-made.ensures.full c.in-None.is).0 follows))
    c.refuse_newcomer.ensures.done

pub returns-in-None-clause-err : goal.returns-in-None-clause-err
returns-in-None-clause-err g c = on_err_weaker c.refuse_newcomer.result (λ same.
    stops (λ d token w. after_opening_if d c.args.context.now.at c.args.newcomer.now.key c.args.newcomer.now.invite.now c.args.newcomer.now.tag.now (is_table_full (conferences_in d w).live) w)
    c.args.self.now c.args.out.now c.refuse_newcomer.new.out
    (λ d token w. room_opens_grows c.numbers_never_fall.ensures d token c.args.context.now.at c.args.newcomer.now.key c.args.newcomer.now.invite.now c.args.newcomer.now.tag.now
    (is_table_full (conferences_in d w).live) w) same) c.refuse_newcomer.ensures.err
