use Rattle.std.proofs.Common.{◌≡◌, true, ap, subst, sym, ◌∙◌, ◌<◌, List, length}
use Rattle.std.specs.Prelude.{map}
use Rattle.std.proofs.Math.ListN.{set}
use Rattle.mmtel_history.specs.HistoryInfo.{hidden_entry, list_marked_at, diversions_in, masked_list, unmarked_entry, AreReadable}
use Rattle.mmtel_history.specs.declared.entries.Entry.{Entry}
use Rattle.mmtel_history.proofs.ListTheorems.{hides_same, marked_alone, marked_counts, marked_keeps, marked_once}
use Rattle.mmtel_history.proofs.ReadableTheorems.{marked_readable}
use Rattle.mmtel_history.proofs.Marks.{set_marks, length-marked}
use Rattle.mmtel_history.proofs.histories.History.mark.Goals as goal

pub returns : goal.returns
returns c =
    let within : c.args.index < length c.self.inside.entries.items = subst (λ (h : List Entry). c.args.index < length h) (sym c.self.view_is) c.requires in
    let marked : set c.self.inside.entries.items c.args.index (hidden_entry c.index_mut.result.now) ≡ list_marked_at c.args.index c.args.self.now =
    set_marks c.self.inside.entries.items c.args.index c.index_mut.result.now within c.index_mut.ensures.value ∙ ap (λ (h : List Entry). list_marked_at c.args.index h) c.self.view_is in
    record {
      marked = marked;
      len = ap (λ (h : List Entry). length h) marked ∙ length-marked c.args.self.now c.args.index;
      alone = ap (λ (h : List Entry). map (λ e. e.hidden) h) marked ∙ marked_alone c.args.self.now c.args.index;
      keeps = ap (λ (h : List Entry). map unmarked_entry h) marked ∙ marked_keeps c.args.self.now c.args.index;
      once = ap (λ (h : List Entry). list_marked_at c.args.index h) marked ∙ marked_once c.args.self.now c.args.index ∙ sym marked;
      counts = ap (λ (h : List Entry). diversions_in h) marked ∙ marked_counts c.args.self.now c.args.index;
      masks_alike = λ all other same. ap (λ (h : List Entry). masked_list all h) marked ∙ hides_same all true c.args.index c.args.self.now other (sym same);
      readable = λ are. subst (λ (h : List Entry). AreReadable h) (sym marked) (marked_readable c.args.self.now c.args.index are);
    }
