use Rattle.std.proofs.Common.{refl}
use Rattle.mmtel_focus.specs.Operations.{Receives}
use Rattle.mmtel_server.proofs.ConferenceOperations.{does}
use Rattle.mmtel_server.proofs.servers.Server.step_conferences.Goals as goal

pub returns : goal.returns
returns c =
    does (λ t. Receives (record { at = c.args.context.now.at; tokens = t; signal = c.args.signal })) c.args.self.now c.signal.new.self c.collect_rows_of_conferences.new.rooms c.collect_rows_of_conferences.new.waiting
    c.in_ok-emits.ensures.done c.in_ok-emits.ensures.config
    (record { waiting = c.in_ok-collect_rows_of_conferences.ensures.waiting; done = c.in_ok-collect_rows_of_conferences.ensures.done; site = c.in_ok-collect_rows_of_conferences.ensures.config })
    c.in_ok-emits.emits c.in_ok-emits.ensures.emits c.numbers_never_fall.ensures.conferences (λ t config table. refl) (λ t. refl) c.signal.new.tokens c.in_ok-emits.ensures.tokens
