use Rattle.std.proofs.Common.{refl}
use Rattle.std.proofs.lemmas.Result.{on_err_weaker, on_ok_weaker}
use Rattle.mmtel_admission.specs.ParsedDatagrams.{parsed_event_in}
use Rattle.mmtel_run_definitions.specs.Events.{parsed_datagram}
use Rattle.mmtel_run_definitions.specs.Transitions.{after_parsed_event}
use Rattle.mmtel_server.proofs.Grows.{met_grows, on_err, stops}
use Rattle.mmtel_server.proofs.Runs.{told_breaks, told_follows}
use Rattle.mmtel_server.proofs.servers.Server.receive_datagram.Goals as goal

pub returns-in_err-parsed-clause-err : goal.returns-in_err-parsed-clause-err
returns-in_err-parsed-clause-err g c = on_err c.from_residual.result _
    (stops (λ d token. after_parsed_event d token c.args.at (parsed_datagram d c.args.from c.args.bytes.now)) c.args.self.now c.args.out.now c.args.out.now
    (λ d token w. met_grows c.numbers_never_fall.ensures d token c.args.at (parsed_datagram d c.args.from c.args.bytes.now) w) refl)

pub returns-clause-done : goal.returns-clause-done
returns-clause-done g c = on_ok_weaker c.receive_parsed.result
    (told_follows c.args.self.now (parsed_event_in c.in_ok-parsed.parsed)
    (λ d. parsed_datagram d c.args.from c.args.bytes.now) c.in_ok-parsed.ensures.reported c.args.out.now c.receive_parsed.new.self c.receive_parsed.new.out c.args.at)
    c.receive_parsed.ensures.done

pub returns-clause-err : goal.returns-clause-err
returns-clause-err g c = on_err_weaker c.receive_parsed.result
    (told_breaks c.args.self.now (parsed_event_in c.in_ok-parsed.parsed) (λ d. parsed_datagram d c.args.from c.args.bytes.now) c.in_ok-parsed.ensures.reported c.args.out.now c.receive_parsed.new.out c.args.at)
    c.receive_parsed.ensures.err
