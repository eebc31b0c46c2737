use Rattle.mmtel_run_definitions.proofs.EnoughFirings.{always, more_changes_nothing, once}
use Rattle.mmtel_run_definitions.proofs.theorems.enough_firings_exist.Goals as goal

pub returns : goal.returns
returns c = record {
  always = always c.deadlines_end.ensures.use_up c.deadlines_end_between_sends.ensures.begun;
  more = more_changes_nothing;
  once = once;
}
