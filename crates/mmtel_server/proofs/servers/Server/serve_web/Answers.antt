use Rattle.std.proofs.Common.{inl, refl}
use Rattle.mmtel_http.specs.Requests.{request_of}
use Rattle.mmtel_run_definitions.specs.Transitions.{after_web_request}
use Rattle.mmtel_web_service.specs.KeeperOutcomes.{keeper_outcome_view}
use Rattle.mmtel_server.proofs.Subscriptions.{serves_breaks, serves_follows}
use Rattle.mmtel_server.proofs.Grows.{on_err, serves_whole, stops}
use Rattle.mmtel_server.proofs.servers.Server.serve_web.Goals as goal
use Rattle.mmtel_server.specs.States.{keeper_state}

pub returns-in_err-answered-clause-aborted : goal.returns-in_err-answered-clause-aborted
returns-in_err-answered-clause-aborted g c =
    let m = c.in_err-answered.ensures.aborted in
    on_err c.from_residual.result _ (record {
      outcome = m.outcome;
      rows = m.rows;
      broke = stops (λ d token. after_web_request d token c.args.at (request_of c.args.bytes.now) m.outcome m.rows) c.args.self.now c.args.out.now c.respond_to_web.new.out
          (λ d token w. serves_whole c.numbers_never_fall.ensures d token c.args.at (request_of c.args.bytes.now) m.outcome m.rows w) c.in_err-answered.ensures.err;
      between = keeper_state g.K.Keeper c.respond_to_web.new.keeper;
      asks = m.keeper_result;
      counts = m.counted;
      handover_aborted = (refl, (inl refl, refl));
    })

pub returns-in-Ok-clause-done : goal.returns-in-Ok-clause-done
returns-in-Ok-clause-done g c =
    serves_follows c.numbers_never_fall.ensures c.args.self.now c.respond_to_web.new.self c.args.out.now c.respond_to_web.new.out c.args.at (request_of c.args.bytes.now) (keeper_outcome_view
    c.in_ok-answered.answered.outcome) c.in_ok-answered.answered.rows c.in_ok-answered.put
    c.in_ok-answered.ensures.done c.in_ok-answered.ensures.put c.put_counts.new.self c.put_counts.new.out c.in-Ok.ensures.done

pub returns-in-Err-clause-aborted : goal.returns-in-Err-clause-aborted
returns-in-Err-clause-aborted g c =
    record {
      outcome = keeper_outcome_view c.in_ok-answered.answered.outcome;
      rows = c.in_ok-answered.answered.rows;
      broke = serves_breaks c.numbers_never_fall.ensures c.args.self.now c.respond_to_web.new.self c.args.out.now c.respond_to_web.new.out c.args.at (request_of c.args.bytes.now) (keeper_outcome_view
          c.in_ok-answered.answered.outcome) c.in_ok-answered.answered.rows c.in_ok-answered.put
          c.in_ok-answered.ensures.done c.in_ok-answered.ensures.put c.put_counts.new.out c.in-Err.ensures.err;
      between = keeper_state g.K.Keeper c.respond_to_web.new.keeper;
      asks = c.in_ok-answered.ensures.keeper_result;
      counts = c.in_ok-answered.ensures.counted;
      handover_aborted = (refl, (inl refl, refl));
    }
