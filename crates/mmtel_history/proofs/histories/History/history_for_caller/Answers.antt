use Rattle.std.proofs.Common.{◌≡◌, ◌∙◌, ap, subst, sym, List, length, arith}
use Rattle.std.specs.Prelude.{map}
use Rattle.mmtel_history.specs.HistoryInfo.{history_for_caller, diversions_in, masked_list, unmarked_entry, AreReadable}
use Rattle.mmtel_history.specs.declared.entries.Entry.{Entry}
use Rattle.mmtel_history.proofs.CallerHistoryTheorems.{length-for_caller, for_caller_positions, for_caller_counts, for_caller_keeps, for_caller_readable, for_caller_equal}
use Rattle.mmtel_history.proofs.histories.History.history_for_caller.Goals as goal
use Rattle.mmtel_history.proofs.histories.History.history_for_caller.Goals.{After-hide_for_caller}

told : (c : After-hide_for_caller) → c.hide_for_caller.new.entries.items ≡ history_for_caller c.args.hide_diverting c.args.hide_target c.args.self.now
told c =
    c.hide_for_caller.ensures ∙ ap (λ (h : List Entry). history_for_caller c.args.hide_diverting c.args.hide_target h) (c.in_ok-entries.ensures ∙ (c.as_slice.ensures.value ∙ c.self.view_is))

pub invariant_of-result : goal.invariant_of-result
invariant_of-result c =
    omega (arith, ap (λ (h : List Entry). length h) (told c), length-for_caller c.args.hide_diverting c.args.hide_target c.args.self.now, ap (λ (h : List Entry). length h) c.self.view_is)

pub returns : goal.returns
returns c = record {
  reported = told c;
  places = λ front diverting target is. told c ∙ ap (λ (h : List Entry). history_for_caller c.args.hide_diverting c.args.hide_target h) is
      ∙ for_caller_positions c.args.hide_diverting c.args.hide_target front diverting target;
  keeps = ap (λ (h : List Entry). map unmarked_entry h) (told c) ∙ for_caller_keeps c.args.hide_diverting c.args.hide_target c.args.self.now;
  counts = ap (λ (h : List Entry). diversions_in h) (told c) ∙ for_caller_counts c.args.hide_diverting c.args.hide_target c.args.self.now;
  readable = λ are. subst (λ (h : List Entry). AreReadable h) (sym (told c)) (for_caller_readable c.args.hide_diverting c.args.hide_target c.args.self.now are);
  masks_alike = λ all other same. ap (λ (h : List Entry). masked_list all h) (told c) ∙ for_caller_equal all c.args.hide_diverting c.args.hide_target c.args.self.now other (sym same);
}
