use Rattle.std.proofs.Common.{true, refl, sym}
use Rattle.mmtel_history.proofs.ListTheorems.{appended_masked, hides_same, masked_counts, masked_keeps, masked_once}
use Rattle.mmtel_history.proofs.CallerHistoryTheorems.{for_caller_masked}
use Rattle.mmtel_history.specs.HistoryInfo.{masked_list}
use Rattle.mmtel_history.proofs.theorems.masks_are_once.Goals as goal

pub returns : goal.returns
returns c = record {
  once = masked_once;
  appended = λ all h from target cause hide. sym (appended_masked all h from target cause hide);
  marked = λ all h place. hides_same all true place (masked_list all h) h (masked_once all h);
  reported = for_caller_masked;
  causes = λ all h. masked_keeps (λ e. e.cause) (λ e uri. refl) all h;
  indices = λ all h. masked_keeps (λ e. e.index) (λ e uri. refl) all h;
  counts = masked_counts;
}
