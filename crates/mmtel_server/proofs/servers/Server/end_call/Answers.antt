use Rattle.mmtel_server.proofs.Calls.{end}
use Rattle.mmtel_server.proofs.servers.Server.end_call.Goals as goal

pub returns : goal.returns
returns c = λ directory token before out state did.
    end c.numbers_never_fall.ensures directory token before out c.args.self.now state did c.args.context.now.at c.args.call
    c.finish.new.self c.collect_rows_of_calls.new.calls c.finish.new.tokens c.in_ok-emits.emits c.collect_rows_of_calls.new.waiting
    c.in_ok-emits.ensures.done c.in_ok-emits.ensures.emits c.in_ok-emits.ensures.tokens c.in_ok-emits.ensures.config
    c.in_ok-collect_rows_of_calls.ensures.waiting c.in_ok-collect_rows_of_calls.ensures.done c.in_ok-collect_rows_of_calls.ensures.config
