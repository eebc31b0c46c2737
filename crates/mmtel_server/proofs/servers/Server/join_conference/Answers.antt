use Rattle.std.proofs.Common.{refl}
use Rattle.std.proofs.lemmas.Result.{on_err_weaker, on_ok_weaker}
use Rattle.mmtel_focus.specs.Table.{access}
use Rattle.mmtel_run_definitions.specs.Transitions.{after_conference_invite, after_join_if, conferences_in}
use Rattle.mmtel_server.proofs.Grows.{joins_room, on_err, stops}
use Rattle.mmtel_server.proofs.Participants.{breaks_tagged, follows_tagged, room_joins_grows}
use Rattle.mmtel_server.proofs.servers.Server.join_conference.Goals as goal

pub returns-in_err-tag-clause-err : goal.returns-in_err-tag-clause-err
returns-in_err-tag-clause-err g c = on_err c.from_residual.result _
    (stops (λ d token. after_conference_invite d token c.args.context.now.at c.args.key c.args.invite.now c.args.room) c.args.self.now c.args.out.now c.args.out.now
    (λ d token w. joins_room c.numbers_never_fall.ensures d token c.args.context.now.at c.args.key c.args.invite.now c.args.room w) refl)

pub returns-clause-done : goal.returns-clause-done
returns-clause-done g c = on_ok_weaker c.join_conference_for.result (λ follows.
    follows_tagged c.args.self.now c.draw_next_tag.new.tokens c.in_ok-tag.tag c.args.out.now c.in_ok-tag.ensures.drawn c.in_ok-tag.ensures.tag
    (λ tag d token w. after_join_if d token c.args.context.now.at c.args.key c.args.invite.now c.args.room tag (access c.args.room.0 (conferences_in d w).live) w)
    (λ tag d token w. room_joins_grows c.numbers_never_fall.ensures d token c.args.context.now.at c.args.key c.args.invite.now c.args.room tag (access c.args.room.0 (conferences_in d w).live) w)
    c.join_conference_for.new.self c.join_conference_for.new.out follows) c.join_conference_for.ensures.done

pub returns-clause-err : goal.returns-clause-err
returns-clause-err g c = on_err_weaker c.join_conference_for.result (λ breaks.
    breaks_tagged c.args.self.now c.draw_next_tag.new.tokens c.in_ok-tag.tag c.args.out.now c.in_ok-tag.ensures.drawn c.in_ok-tag.ensures.tag
    (λ tag d token w. after_join_if d token c.args.context.now.at c.args.key c.args.invite.now c.args.room tag (access c.args.room.0 (conferences_in d w).live) w)
    (λ tag d token w. room_joins_grows c.numbers_never_fall.ensures d token c.args.context.now.at c.args.key c.args.invite.now c.args.room tag (access c.args.room.0 (conferences_in d w).live) w)
    c.join_conference_for.new.out breaks) c.join_conference_for.ensures.err
