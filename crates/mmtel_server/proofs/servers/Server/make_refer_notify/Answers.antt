use Rattle.std.proofs.Common.{refl}
use Rattle.mmtel_focus.specs.Operations.{Notifies}
use Rattle.mmtel_server.proofs.ConferenceOperations.{does}
use Rattle.mmtel_server.proofs.servers.Server.make_refer_notify.Goals as goal

pub returns : goal.returns
returns c =
    does (λ t. Notifies c.args.participant.room.0 c.args.participant.number c.args.code t) c.args.self.now c.notify.new.self c.collect_rows_of_conferences.new.rooms c.collect_rows_of_conferences.new.waiting
    c.in_ok-emits.ensures.done c.in_ok-emits.ensures.config
    (record { waiting = c.in_ok-collect_rows_of_conferences.ensures.waiting; done = c.in_ok-collect_rows_of_conferences.ensures.done; site = c.in_ok-collect_rows_of_conferences.ensures.config })
    c.in_ok-emits.emits c.in_ok-emits.ensures.emits c.numbers_never_fall.ensures.conferences (λ t config table. refl) (λ t. refl) c.notify.new.tokens c.in_ok-emits.ensures.tokens
