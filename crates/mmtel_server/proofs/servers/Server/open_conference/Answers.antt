use Rattle.std.proofs.Common.{refl}
use Rattle.std.proofs.lemmas.Result.{on_err_weaker, on_ok_weaker}
use Rattle.mmtel_focus.specs.Table.{is_table_full}
use Rattle.mmtel_run_definitions.specs.Transitions.{after_factory_invite, after_opening_if, conferences_in}
use Rattle.mmtel_server.proofs.Grows.{on_err, opens_room, stops}
use Rattle.mmtel_server.proofs.Participants.{breaks_tagged, follows_tagged, room_opens_grows}
use Rattle.mmtel_server.proofs.servers.Server.open_conference.Goals as goal

pub returns-in_err-tag-clause-err : goal.returns-in_err-tag-clause-err
returns-in_err-tag-clause-err g c = on_err c.from_residual.result _
    (stops (λ d token. after_factory_invite d token c.args.context.now.at c.args.key c.args.invite.now) c.args.self.now c.args.out.now c.args.out.now
    (λ d token w. opens_room c.numbers_never_fall.ensures d token c.args.context.now.at c.args.key c.args.invite.now w) refl)

pub returns-clause-done : goal.returns-clause-done
returns-clause-done g c = on_ok_weaker c.open_conference_for.result (λ follows.
    follows_tagged c.args.self.now c.draw_next_tag.new.tokens c.in_ok-tag.tag c.args.out.now c.in_ok-tag.ensures.drawn c.in_ok-tag.ensures.tag
    (λ tag d token w. after_opening_if d c.args.context.now.at c.args.key c.args.invite.now tag (is_table_full (conferences_in d w).live) w)
    (λ tag d token w. room_opens_grows c.numbers_never_fall.ensures d token c.args.context.now.at c.args.key c.args.invite.now tag (is_table_full (conferences_in d w).live) w)
    c.open_conference_for.new.self c.open_conference_for.new.out follows) c.open_conference_for.ensures.done

pub returns-clause-err : goal.returns-clause-err
returns-clause-err g c = on_err_weaker c.open_conference_for.result (λ breaks.
    breaks_tagged c.args.self.now c.draw_next_tag.new.tokens c.in_ok-tag.tag c.args.out.now c.in_ok-tag.ensures.drawn c.in_ok-tag.ensures.tag
    (λ tag d token w. after_opening_if d c.args.context.now.at c.args.key c.args.invite.now tag (is_table_full (conferences_in d w).live) w)
    (λ tag d token w. room_opens_grows c.numbers_never_fall.ensures d token c.args.context.now.at c.args.key c.args.invite.now tag (is_table_full (conferences_in d w).live) w)
    c.open_conference_for.new.out breaks) c.open_conference_for.ensures.err
