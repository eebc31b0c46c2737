use Rattle.std.proofs.Common.{[], refl, inl, subst}
use Rattle.std.proofs.lemmas.Result.{IfOk-weaker, on_err_weaker}
use Rattle.mmtel_directory.specs.declared.directories.Directory.{Directory}
use Rattle.mmtel_web_service.specs.KeeperCalls.{IsKeeperResult}
use Rattle.mmtel_web_service.specs.KeeperOutcomes.{keeper_outcome_view}
use Rattle.mmtel_web.specs.Handling.{no_memory}
use Rattle.mmtel_server.proofs.Grows.{on_err}
use Rattle.mmtel_server.proofs.Records.{result_if_not_called}
use Rattle.mmtel_server.proofs.Runs.{clock_is, cut_before, cut_within, directory_there, waited_there, went_all}
use Rattle.mmtel_server.proofs.servers.Server.step_unfailed.Goals as goal
use Rattle.mmtel_server.specs.States.{keeper_state}
use Rattle.mmtel_server.specs.StepEffects.{call_of, event_record}

pub returns-clause-done : goal.returns-clause-done
returns-clause-done g c = IfOk-weaker c.step_at.result _ _ (λ a came.
    let one = event_record c.args.event.now (keeper_outcome_view a.0.outcome) a.0.rows a.1 in
    went_all c.numbers_never_fall.ensures c.args.self.now c.fire_all_due.new.self c.args.out.now c.fire_all_due.new.out one c.later_moment-clock.result
    (clock_is c.later_moment-clock.result c.args.self.now.clock c.moment.result one c.later_moment-clock.ensures c.moment.ensures.moment)
    c.in_ok-fire_all_due.ensures.done c.step_at.new.self c.step_at.new.out came.follows)
    c.step_at.ensures.done

pub returns-clause-keeper : goal.returns-clause-keeper
returns-clause-keeper g c = IfOk-weaker c.step_at.result _ _ (λ a came.
    let one = event_record c.args.event.now (keeper_outcome_view a.0.outcome) a.0.rows a.1 in
    let clock = clock_is c.later_moment-clock.result c.args.self.now.clock c.moment.result one c.later_moment-clock.ensures c.moment.ensures.moment in
    record {
      waiting = came.waiting;
      between = came.between;
      asks = λ d token before w fuel did ready short.
          subst (λ (x : Directory). IsKeeperResult (call_of x.names c.args.event.now) (keeper_outcome_view a.0.outcome) a.0.rows (g.K.Keeper.contents c.args.keeper.now) came.between.contents
          (g.K.Keeper.calls c.args.keeper.now) came.between.calls)
          (directory_there c.numbers_never_fall.ensures c.args.self.now c.fire_all_due.new.self c.args.out.now c.fire_all_due.new.out one c.later_moment-clock.result clock
          c.in_ok-fire_all_due.ensures.done fuel d token before w did ready short) came.asks;
      counts = came.counts;
      rows_wait = waited_there c.numbers_never_fall.ensures c.args.self.now c.fire_all_due.new.self c.args.out.now c.fire_all_due.new.out one c.later_moment-clock.result clock
          c.in_ok-fire_all_due.ensures.done came.waiting came.rows_wait;
      hands_over = came.hands_over;
      handover_faults = came.handover_faults;
    })
    c.step_at.ensures.done

pub returns-in_err-fire_all_due-clause-aborted : goal.returns-in_err-fire_all_due-clause-aborted
returns-in_err-fire_all_due-clause-aborted g c = on_err c.from_residual.result _ (record {
  outcome = no_memory;
  rows = [];
  broke = λ took. cut_before c.numbers_never_fall.ensures c.args.self.now c.fire_all_due.new.self c.args.out.now c.fire_all_due.new.out (event_record c.args.event.now no_memory [] took) c.later_moment-clock.result
      (clock_is c.later_moment-clock.result c.args.self.now.clock c.moment.result (event_record c.args.event.now no_memory [] took) c.later_moment-clock.ensures c.moment.ensures.moment)
      c.in_err-fire_all_due.ensures.err;
  between = keeper_state g.K.Keeper c.args.keeper.now;
  asks = λ took d token before w fuel did ready short. result_if_not_called (call_of d.names c.args.event.now) (g.K.Keeper.contents c.args.keeper.now) (g.K.Keeper.calls c.args.keeper.now);
  counts = refl;
  handover_aborted = (refl, (inl refl, refl));
})

pub returns-clause-aborted : goal.returns-clause-aborted
returns-clause-aborted g c = on_err_weaker c.step_at.result (λ m.
    record {
      outcome = m.outcome;
      rows = m.rows;
      broke = λ took.
          let one = event_record c.args.event.now m.outcome m.rows took in
          cut_within c.numbers_never_fall.ensures c.args.self.now c.fire_all_due.new.self c.args.out.now c.fire_all_due.new.out one c.later_moment-clock.result
          (clock_is c.later_moment-clock.result c.args.self.now.clock c.moment.result one c.later_moment-clock.ensures c.moment.ensures.moment)
          c.in_ok-fire_all_due.ensures.done c.step_at.new.self c.step_at.new.out (m.broke took);
      between = m.between;
      asks = λ took d token before w fuel did ready short.
          let one = event_record c.args.event.now m.outcome m.rows took in
          subst (λ (x : Directory). IsKeeperResult (call_of x.names c.args.event.now) m.outcome m.rows (g.K.Keeper.contents c.args.keeper.now) m.between.contents (g.K.Keeper.calls c.args.keeper.now) m.between.calls)
          (directory_there c.numbers_never_fall.ensures c.args.self.now c.fire_all_due.new.self c.args.out.now c.fire_all_due.new.out one c.later_moment-clock.result
          (clock_is c.later_moment-clock.result c.args.self.now.clock c.moment.result one c.later_moment-clock.ensures c.moment.ensures.moment)
          c.in_ok-fire_all_due.ensures.done fuel d token before w did ready short) m.asks;
      counts = m.counts;
      handover_aborted = m.handover_aborted;
    })
    c.step_at.ensures.aborted
