use Rattle.std.proofs.Common.{refl}
use Rattle.mmtel_focus.specs.Operations.{Opens, join_request}
use Rattle.mmtel_server.proofs.ConferenceOperations.{opens}
use Rattle.mmtel_server.proofs.Participants.{opens_closes}
use Rattle.mmtel_server.proofs.servers.Server.create_conference.Goals as goal

pub returns-in_ok-collect_rows_of_conferences-in-Ok-clause-opened : goal.returns-in_ok-collect_rows_of_conferences-in-Ok-clause-opened
returns-in_ok-collect_rows_of_conferences-in-Ok-clause-opened c =
    let op = Opens (join_request c.args.context.now.at c.args.leg c.args.account c.args.key c.args.invite.now) in
    opens (λ t. op) c.args.self.now c.create.new.self c.collect_rows_of_conferences.new.rooms c.collect_rows_of_conferences.new.waiting
    c.in-Ok.ensures.done c.in-Ok.ensures.config
    (record { waiting = c.in_ok-collect_rows_of_conferences-in-Ok.ensures.waiting; done = c.in_ok-collect_rows_of_conferences-in-Ok.ensures.done; site = c.in_ok-collect_rows_of_conferences-in-Ok.ensures.config })
    c.in-Ok.emits c.in-Ok.ensures.emits op (λ t. refl) (opens_closes (join_request c.args.context.now.at c.args.leg c.args.account c.args.key c.args.invite.now))
