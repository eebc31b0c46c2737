use Rattle.mmtel_rules.proofs.RuleTheorems.{outside_window, window_passed, window_to_come}
use Rattle.mmtel_rules.proofs.theorems.window_is_kept.Goals as goal

pub returns : goal.returns
returns c = record {
  passed = λ k when c w e h. outside_window k when c (window_passed k.now c.window w e h);
  to_come = λ k when c w e h. outside_window k when c (window_to_come k.now c.window w e h);
}
