use Rattle.std.proofs.Common.{sym, subst}
use Rattle.std.specs.Prelude.{OnErr, OnOk}
use Rattle.mmtel_admission.specs.ParsedDatagrams.{parsed_event_in}
use Rattle.mmtel_admission.specs.declared.parsing.ParsedDatagram.{ParsedDatagram}
use Rattle.mmtel_run_definitions.specs.Transitions.{after_parsed_event}
use Rattle.mmtel_server.proofs.Grows.{met_grows, stops_on}
use Rattle.mmtel_server.proofs.servers.Server.receive_parsed.Goals as goal
use Rattle.mmtel_server.specs.Follows.{AddsOfferPrefix, Follows}

pub returns-in-Refused-clause-done : goal.returns-in-Refused-clause-done
returns-in-Refused-clause-done g c = subst (λ (x : ParsedDatagram). OnOk c.respond_to_unreadable-done.result
    (Follows c.args.self.now c.args.out.now c.respond_to_unreadable-done.new.self c.respond_to_unreadable-done.new.out (λ d token. after_parsed_event d token c.args.at (parsed_event_in x))))
    (sym c.in-Refused.is) c.respond_to_unreadable-done.ensures.done

pub returns-in-Refused-clause-err : goal.returns-in-Refused-clause-err
returns-in-Refused-clause-err g c =
    stops_on c.respond_to_unreadable-done.result (λ d token. after_parsed_event d token c.args.at (parsed_event_in c.args.parsed)) c.args.self.now c.args.out.now c.respond_to_unreadable-done.new.out
    (λ d token w. met_grows c.numbers_never_fall.ensures d token c.args.at (parsed_event_in c.args.parsed) w) c.respond_to_unreadable-done.ensures.err

pub returns-in-Received-clause-done : goal.returns-in-Received-clause-done
returns-in-Received-clause-done g c = subst (λ (x : ParsedDatagram). OnOk c.receive_message.result
    (Follows c.args.self.now c.args.out.now c.receive_message.new.self c.receive_message.new.out (λ d token. after_parsed_event d token c.args.at (parsed_event_in x))))
    (sym c.in-Received.is) c.receive_message.ensures.done

pub returns-in-Received-clause-err : goal.returns-in-Received-clause-err
returns-in-Received-clause-err g c =
    subst (λ (x : ParsedDatagram). OnErr c.receive_message.result (AddsOfferPrefix c.args.self.now c.args.out.now c.receive_message.new.out (λ d token. after_parsed_event d token c.args.at (parsed_event_in x))))
    (sym c.in-Received.is) c.receive_message.ensures.err
