use Rattle.mmtel_focus.specs.Operations.{entry_op}
use Rattle.mmtel_server.proofs.ConferenceOperations.{does}
use Rattle.mmtel_server.proofs.Participants.{enters_closes, enters_own}
use Rattle.mmtel_server.proofs.servers.Server.add_participant.Goals as goal

pub returns-in_ok-collect_rows_of_conferences-in-Ok-clause-seated : goal.returns-in_ok-collect_rows_of_conferences-in-Ok-clause-seated
returns-in_ok-collect_rows_of_conferences-in-Ok-clause-seated c =
    does (λ t. entry_op c.args.room.0 c.args.context.now.at t c.args.leg c.args.account c.args.joining) c.args.self.now c.adopt.new.self c.collect_rows_of_conferences.new.rooms c.collect_rows_of_conferences.new.waiting
    c.in-Ok.ensures.done c.in-Ok.ensures.config
    (record { waiting = c.in_ok-collect_rows_of_conferences-in-Ok.ensures.waiting; done = c.in_ok-collect_rows_of_conferences-in-Ok.ensures.done; site = c.in_ok-collect_rows_of_conferences-in-Ok.ensures.config })
    c.in-Ok.emits c.in-Ok.ensures.emits c.numbers_never_fall.ensures.conferences
    (enters_closes c.args.room.0 c.args.context.now.at c.args.leg c.args.account c.args.joining)
    (enters_own c.args.room.0 c.args.context.now.at c.args.leg c.args.account c.args.joining) c.adopt.new.tokens c.in-Ok.ensures.tokens
