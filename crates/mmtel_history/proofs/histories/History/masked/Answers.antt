use Rattle.std.proofs.Common.{◌≡◌, ◌∙◌, ap, subst, sym, List, length, refl}
use Rattle.std.specs.Prelude.{map}
use Rattle.mmtel_history.specs.HistoryInfo.{diversions_in, masked_list, AreReadable}
use Rattle.mmtel_history.specs.declared.entries.Entry.{Entry}
use Rattle.mmtel_history.proofs.ListTheorems.{length-masked, masked_counts, masked_equal, masked_keeps, masked_once}
use Rattle.mmtel_history.proofs.ReadableTheorems.{masked_readable}
use Rattle.mmtel_history.proofs.histories.History.masked.Goals as goal
use Rattle.mmtel_history.proofs.histories.History.masked.Goals.{In_ok-entries}

are : (c : In_ok-entries) → c.in_ok-entries.entries.items ≡ masked_list c.args.all c.args.self.now
are c = c.in_ok-entries.ensures ∙ ap (λ (h : List Entry). masked_list c.args.all h) (c.as_slice.ensures.value ∙ c.self.view_is)

pub returns-clause-equivalent : goal.returns-clause-equivalent
returns-clause-equivalent c = λ other same. are c ∙ masked_equal c.args.all c.args.self.now other same

pub returns-clause-causes : goal.returns-clause-causes
returns-clause-causes c = ap (λ (h : List Entry). map (λ e. e.cause) h) (are c) ∙ masked_keeps (λ e. e.cause) (λ e uri. refl) c.args.all c.args.self.now

pub returns-clause-indices : goal.returns-clause-indices
returns-clause-indices c = ap (λ (h : List Entry). map (λ e. e.index) h) (are c) ∙ masked_keeps (λ e. e.index) (λ e uri. refl) c.args.all c.args.self.now

pub returns-clause-once : goal.returns-clause-once
returns-clause-once c = ap (λ (h : List Entry). masked_list c.args.all h) (are c) ∙ masked_once c.args.all c.args.self.now ∙ sym (are c)

pub returns-clause-readable : goal.returns-clause-readable
returns-clause-readable c = λ readable. subst (λ (h : List Entry). AreReadable h) (sym (are c)) (masked_readable c.args.all c.args.self.now readable)

pub returns-clause-len : goal.returns-clause-len
returns-clause-len c = ap (λ (h : List Entry). length h) (are c) ∙ length-masked c.args.all c.args.self.now

pub returns-clause-counts : goal.returns-clause-counts
returns-clause-counts c = ap (λ (h : List Entry). diversions_in h) (are c) ∙ masked_counts c.args.all c.args.self.now
