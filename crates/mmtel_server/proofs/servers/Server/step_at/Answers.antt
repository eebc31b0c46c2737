use Rattle.std.proofs.Common.{◌++◌, ◌∙◌, List, ap, subst}
use Rattle.mmtel_charging.specs.declared.rows.Row.{Row}
use Rattle.mmtel_directory.specs.declared.directories.Directory.{Directory}
use Rattle.mmtel_run_definitions.specs.Events.{parsed_event}
use Rattle.mmtel_run_definitions.specs.Transitions.{RunState, after_event, after_parsed_event, with_next_step}
use Rattle.mmtel_web_service.specs.KeeperCalls.{IsKeeperResult}
use Rattle.mmtel_web_service.specs.KeeperOutcomes.{keeper_outcome_view}
use Rattle.mmtel_server.proofs.Filing.{ended_is, met_none}
use Rattle.mmtel_server.proofs.Newcomers.{broke_handing, broke_meeting}
use Rattle.mmtel_server.proofs.Grows.{ends, on_err, short_of}
use Rattle.mmtel_server.proofs.Runs.{clocked_did, event_after_step_begun}
use Rattle.mmtel_server.proofs.servers.Server.step_at.Goals as goal
use Rattle.mmtel_server_timers.specs.Handover.{accepted_rows}
use Rattle.mmtel_server.specs.States.{keeper_state}
use Rattle.mmtel_server.specs.StepEffects.{call_of}

pub returns-clause-done : goal.returns-clause-done
returns-clause-done g c =
    let law = c.numbers_never_fall.ensures in
    let a = c.in_ok-answered.answered in
    let took = c.in_ok-took.took in
    record {
      follows = λ d token before w did short.
          let x = parsed_event d c.args.event.now (keeper_outcome_view a.outcome) a.rows in
          let few = short_of (with_next_step w) (after_event d token c.args.at x took w) (event_after_step_begun law d token c.args.at x took w) short in
          let there : RunState = record (with_next_step w) { clock = c.args.at } in
          let done : RunState = after_parsed_event d token c.args.at x there in
          let clocked = clocked_did d token before c.args.out.now c.begin_step.new.self c.args.at (with_next_step w) (c.begin_step.ensures.done c.args.out.now d token before w did few) in
          let between = short_of done (after_event d token c.args.at x took w) (ends law d token c.args.at took done) short in
          c.in_ok-took.ensures.done c.perform_event.new.out d token before done (c.in_ok-answered.ensures.done d token before there clocked between) short;
      waiting = c.perform_event.new.self.waiting;
      between = keeper_state g.K.Keeper c.perform_event.new.keeper;
      asks = subst (λ (x : Directory). IsKeeperResult (call_of x.names c.args.event.now) (keeper_outcome_view a.outcome) a.rows (g.K.Keeper.contents c.args.keeper.now) (g.K.Keeper.contents c.perform_event.new.keeper)
          (g.K.Keeper.calls c.args.keeper.now) (g.K.Keeper.calls c.perform_event.new.keeper)) c.begin_step.ensures.directory c.in_ok-answered.ensures.keeper_result;
      counts = c.in_ok-answered.ensures.counted;
      rows_wait = λ d token before w did short.
          let x = parsed_event d c.args.event.now (keeper_outcome_view a.outcome) a.rows in
          let few = short_of (with_next_step w) (after_event d token c.args.at x took w) (event_after_step_begun law d token c.args.at x took w) short in
          let there : RunState = record (with_next_step w) { clock = c.args.at } in
          let done : RunState = after_parsed_event d token c.args.at x there in
          let clocked = clocked_did d token before c.args.out.now c.begin_step.new.self c.args.at (with_next_step w) (c.begin_step.ensures.done c.args.out.now d token before w did few) in
          let between = short_of done (after_event d token c.args.at x took w) (ends law d token c.args.at took done) short in
          let rows = c.perform_event.new.self.waiting in
          let met_did = c.in_ok-answered.ensures.done d token before there clocked between in
          let filed = ended_is took rows done met_did.represents.waiting in
          (filed.0 ∙ ap (λ (l : List Row). l ++ accepted_rows took rows) (met_none d token c.args.at x there), filed.1);
      hands_over = c.in_ok-took.ensures.handed;
      handover_faults = c.in_ok-took.ensures.counted;
    }

pub returns-in_err-answered-clause-aborted : goal.returns-in_err-answered-clause-aborted
returns-in_err-answered-clause-aborted g c =
    let m = c.in_err-answered.ensures.aborted in
    on_err c.from_residual.result _ (record {
      outcome = m.outcome;
      rows = m.rows;
      broke = λ took. broke_meeting c.numbers_never_fall.ensures c.args.self.now c.begin_step.new.self c.args.out.now c.args.at (c.begin_step.ensures.done c.args.out.now)
          (λ d. parsed_event d c.args.event.now m.outcome m.rows) took c.perform_event.new.out m.broke;
      between = m.between;
      asks = subst (λ (x : Directory). IsKeeperResult (call_of x.names c.args.event.now) m.outcome m.rows (g.K.Keeper.contents c.args.keeper.now) m.between.contents
          (g.K.Keeper.calls c.args.keeper.now) m.between.calls) c.begin_step.ensures.directory m.asks;
      counts = m.counts;
      handover_aborted = m.handover_aborted;
    })

pub returns-in_err-took-clause-aborted : goal.returns-in_err-took-clause-aborted
returns-in_err-took-clause-aborted g c =
    let a = c.in_ok-answered.answered in
    on_err c.from_residual-in_err-took.result _ (record {
      outcome = keeper_outcome_view a.outcome;
      rows = a.rows;
      broke = λ took. broke_handing c.numbers_never_fall.ensures c.args.self.now c.begin_step.new.self c.args.out.now c.args.at (c.begin_step.ensures.done c.args.out.now)
          (λ d. parsed_event d c.args.event.now (keeper_outcome_view a.outcome) a.rows) took c.perform_event.new.self c.perform_event.new.out c.in_ok-answered.ensures.done;
      between = keeper_state g.K.Keeper c.perform_event.new.keeper;
      asks = subst (λ (x : Directory). IsKeeperResult (call_of x.names c.args.event.now) (keeper_outcome_view a.outcome) a.rows (g.K.Keeper.contents c.args.keeper.now) (g.K.Keeper.contents c.perform_event.new.keeper)
          (g.K.Keeper.calls c.args.keeper.now) (g.K.Keeper.calls c.perform_event.new.keeper)) c.begin_step.ensures.directory c.in_ok-answered.ensures.keeper_result;
      counts = c.in_ok-answered.ensures.counted;
      handover_aborted = c.in_err-took.ensures.aborted;
    })
