use Rattle.std.proofs.Common.{[], List, ℕ, inl, refl, sym, subst}
use Rattle.std.proofs.lemmas.Result.{on_err_weaker}
use Rattle.std.specs.Prelude.{IfOk}
use Rattle.mmtel_http.specs.Requests.{request_of}
use Rattle.mmtel_environment.specs.declared.events.Event.{Event}
use Rattle.mmtel_run_definitions.specs.Events.{WebRequested, parsed_datagram, parsed_event}
use Rattle.mmtel_run_definitions.specs.Transitions.{after_parsed_event}
use Rattle.mmtel_web_service.specs.KeeperCalls.{IsKeeperResult, keeper_call_in}
use Rattle.mmtel_web_service.specs.KeeperOutcomes.{keeper_outcome_view}
use Rattle.mmtel_web.specs.Handling.{no_memory}
use Rattle.mmtel_server.proofs.Grows.{on_err}
use Rattle.mmtel_server.proofs.Records.{result_if_not_called}
use Rattle.mmtel_server.proofs.servers.Server.perform_event.Goals as goal
use Rattle.mmtel_server.specs.Follows.{AddsOfferPrefix, Follows}
use Rattle.mmtel_server.specs.States.{keeper_state}
use Rattle.mmtel_server.specs.StepEffects.{call_of}

pub returns-in_ok-receive_datagram-in-Datagram-clause-done : goal.returns-in_ok-receive_datagram-in-Datagram-clause-done
returns-in_ok-receive_datagram-in-Datagram-clause-done g c =
    subst (λ (e : Event). Follows c.args.self.now c.args.out.now c.receive_datagram.new.self c.receive_datagram.new.out
    (λ d token. after_parsed_event d token c.args.at (parsed_event d e (keeper_outcome_view c.no_keeper_call.result.outcome) c.no_keeper_call.result.rows))) (sym c.in-Datagram.is)
    (subst (λ (bytes : List ℕ). Follows c.args.self.now c.args.out.now c.receive_datagram.new.self c.receive_datagram.new.out
    (λ d token. after_parsed_event d token c.args.at (parsed_datagram d c.in-Datagram.from bytes))) c.bytes.ensures c.in_ok-receive_datagram-in-Datagram.ensures.done)

pub returns-in-Web-clause-done : goal.returns-in-Web-clause-done
returns-in-Web-clause-done g c =
    subst (λ (e : Event). IfOk c.serve_web.result (λ a. Follows c.args.self.now c.args.out.now c.serve_web.new.self c.serve_web.new.out
    (λ d token. after_parsed_event d token c.args.at (parsed_event d e (keeper_outcome_view a.outcome) a.rows)))) (sym c.in-Web.is)
    (subst (λ (bytes : List ℕ). IfOk c.serve_web.result (λ a. Follows c.args.self.now c.args.out.now c.serve_web.new.self c.serve_web.new.out
    (λ d token. after_parsed_event d token c.args.at (WebRequested (request_of bytes) (keeper_outcome_view a.outcome) a.rows)))) c.bytes-in-Web.ensures c.serve_web.ensures.done)

pub returns-in-Web-clause-aborted : goal.returns-in-Web-clause-aborted
returns-in-Web-clause-aborted g c = on_err_weaker c.serve_web.result (λ m. record {
  outcome = m.outcome;
  rows = m.rows;
  broke = subst (λ (e : Event). AddsOfferPrefix c.args.self.now c.args.out.now c.serve_web.new.out (λ d token. after_parsed_event d token c.args.at (parsed_event d e m.outcome m.rows))) (sym c.in-Web.is)
      (subst (λ (bytes : List ℕ). AddsOfferPrefix c.args.self.now c.args.out.now c.serve_web.new.out (λ d token. after_parsed_event d token c.args.at (WebRequested (request_of bytes) m.outcome m.rows)))
      c.bytes-in-Web.ensures m.broke);
  between = m.between;
  asks = subst (λ (e : Event). IsKeeperResult (call_of c.args.self.now.directory.names e) m.outcome m.rows (g.K.Keeper.contents c.args.keeper.now) m.between.contents
      (g.K.Keeper.calls c.args.keeper.now) m.between.calls) (sym c.in-Web.is)
      (subst (λ (bytes : List ℕ). IsKeeperResult (keeper_call_in c.args.self.now.directory.names (request_of bytes)) m.outcome m.rows (g.K.Keeper.contents c.args.keeper.now) m.between.contents (g.K.Keeper.calls
      c.args.keeper.now) m.between.calls)
      c.bytes-in-Web.ensures m.asks);
  counts = m.counts;
  handover_aborted = m.handover_aborted;
})
    c.serve_web.ensures.aborted

pub returns-in_err-receive_datagram-in-Datagram-clause-aborted : goal.returns-in_err-receive_datagram-in-Datagram-clause-aborted
returns-in_err-receive_datagram-in-Datagram-clause-aborted g c = on_err c.from_residual.result _ (record {
  outcome = no_memory;
  rows = [];
  broke = subst (λ (e : Event). AddsOfferPrefix c.args.self.now c.args.out.now c.receive_datagram.new.out (λ d token. after_parsed_event d token c.args.at (parsed_event d e no_memory []))) (sym c.in-Datagram.is)
      (subst (λ (bytes : List ℕ). AddsOfferPrefix c.args.self.now c.args.out.now c.receive_datagram.new.out (λ d token. after_parsed_event d token c.args.at (parsed_datagram d c.in-Datagram.from bytes))) c.bytes.ensures
      c.in_err-receive_datagram-in-Datagram.ensures.err);
  between = keeper_state g.K.Keeper c.args.keeper.now;
  asks = result_if_not_called (call_of c.args.self.now.directory.names c.args.event.now) (g.K.Keeper.contents c.args.keeper.now) (g.K.Keeper.calls c.args.keeper.now);
  counts = refl;
  handover_aborted = (refl, (inl refl, refl));
})
