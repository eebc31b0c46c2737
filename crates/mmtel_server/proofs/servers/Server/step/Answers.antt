use Rattle.std.proofs.Common.{◌≡◌, ◌∷◌, [], Bool, false, ap, sym, ◌∙◌, subst}
use Rattle.std.proofs.lemmas.Result.{IfErr-at_err, IfOk-at_ok}
use Rattle.std.specs.Result.{is_err}
use Rattle.mmtel_directory.specs.declared.directories.Directory.{Directory}
use Rattle.mmtel_web_service.specs.KeeperCalls.{IsKeeperResult}
use Rattle.mmtel_web_service.specs.KeeperOutcomes.{keeper_outcome_view}
use Rattle.mmtel_server.proofs.Charging.{charged}
use Rattle.mmtel_server.proofs.Records.{aborted_if_not_called}
use Rattle.mmtel_server.proofs.Runs.{adds_front, adds_on, asked_then, breaks_off, goes_on, waited_in}
use Rattle.mmtel_server.proofs.servers.Server.step.Goals as goal
use Rattle.mmtel_server.specs.States.{step_state}
use Rattle.mmtel_server.specs.Representation.{ContinuesRun, ContinuesServing}
use Rattle.mmtel_server.specs.StepEffects.{call_of, event_record}

pub returns-then-self-clause-aborted : goal.returns-then-self-clause-aborted
returns-then-self-clause-aborted g c =
    aborted_if_not_called (step_state c.args.self.now c.args.out.now g.K.Keeper c.args.keeper.now) c.args.event.now c.if-self.true

pub returns-in-Ok-clause-done : goal.returns-in-Ok-clause-done
returns-in-Ok-clause-done g c =
    let s = c.args.self.now in
    let a = c.in-Ok.field-0 in
    let one = event_record c.args.event.now (keeper_outcome_view a.0.outcome) a.0.rows a.1 in
    let went = IfOk-at_ok _ c.in-Ok.is c.step_unfailed-done.ensures.keeper in
    let whole : c.is_err-self.result ≡ false = c.is_err-self.ensures.value ∙ ap is_err c.in-Ok.is in
    record {
      outcome = keeper_outcome_view a.0.outcome;
      rows = a.0.rows;
      waiting = went.waiting;
      rows_accepted = a.1;
      continues = subst (λ (b : Bool). ContinuesRun s c.args.out.now (record (c.step_unfailed-done.new.self) { failed = b }) c.step_unfailed-done.new.out one) (sym whole)
          (goes_on s c.step_unfailed-done.new.self c.args.out.now c.step_unfailed-done.new.out one c.enough_firings_exist.ensures.always (IfOk-at_ok _ c.in-Ok.is c.step_unfailed-done.ensures.done));
      adds = subst (λ (b : Bool). ContinuesServing s c.args.out.now (record (c.step_unfailed-done.new.self) { failed = b }) c.step_unfailed-done.new.out one) (sym whole)
          (adds_on c.offers_are_added.ensures.events c.offers_are_added.ensures.deadlines s c.step_unfailed-done.new.self c.args.out.now c.step_unfailed-done.new.out one
          c.enough_firings_exist.ensures.always (IfOk-at_ok _ c.in-Ok.is c.step_unfailed-done.ensures.done));
      between = went.between;
      asks = asked_then c.offers_are_added.ensures.events c.offers_are_added.ensures.deadlines s c.args.out.now one
          (λ (x : Directory). IsKeeperResult (call_of x.names c.args.event.now) (keeper_outcome_view a.0.outcome) a.0.rows (g.K.Keeper.contents c.args.keeper.now) went.between.contents
          (g.K.Keeper.calls c.args.keeper.now) went.between.calls)
          c.enough_firings_exist.ensures.always went.asks;
      counts = went.counts;
      rows_wait = waited_in c.offers_are_added.ensures.events c.offers_are_added.ensures.deadlines s c.args.out.now one went.waiting went.rows_wait;
      hands_over = went.hands_over;
      handover_faults = went.handover_faults;
      charges = charged c.rows_are_filed.ensures.all c.rows_are_filed.ensures.none (one ∷ []) s;
    }

pub returns-clause-aborted : goal.returns-clause-aborted
returns-clause-aborted g c =
    let m = IfErr-at_err _ c.in-Err.is c.step_unfailed-done.ensures.aborted in
    record {
      outcome = m.outcome;
      rows = m.rows;
      broke = λ took. (
        breaks_off c.args.self.now c.args.out.now c.step_unfailed-done.new.out (event_record c.args.event.now m.outcome m.rows took) (m.broke took),
        adds_front c.offers_are_added.ensures.events c.offers_are_added.ensures.deadlines c.args.self.now c.args.out.now c.step_unfailed-done.new.out (event_record c.args.event.now m.outcome m.rows took) (m.broke took),
      );
      between = m.between;
      asks = λ took. asked_then c.offers_are_added.ensures.events c.offers_are_added.ensures.deadlines c.args.self.now c.args.out.now (event_record c.args.event.now m.outcome m.rows took)
          (λ (x : Directory). IsKeeperResult (call_of x.names c.args.event.now) m.outcome m.rows (g.K.Keeper.contents c.args.keeper.now) m.between.contents (g.K.Keeper.calls c.args.keeper.now) m.between.calls)
          c.enough_firings_exist.ensures.always (m.asks took);
      counts = m.counts;
      handover_aborted = m.handover_aborted;
    }
