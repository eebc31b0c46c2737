use Rattle.std.proofs.Common.{◌≡◌, ◌∙◌, ap, subst, sym, List, ℕ, length}
use Rattle.std.specs.Prelude.{OnOk}
use Rattle.mmtel_history.specs.HistoryInfo.{list_after_diversion, diversions_in, masked_list, AreReadable}
use Rattle.mmtel_history.specs.declared.entries.Entry.{Entry}
use Rattle.mmtel_history.proofs.ListTheorems.{appended_counts, appended_equal, appended_len}
use Rattle.mmtel_history.proofs.ReadableTheorems.{appended_readable}
use Rattle.mmtel_history.proofs.Marks.{on_ok_by, on_err_by}
use Rattle.mmtel_history.proofs.histories.History.append.Goals as goal
use Rattle.mmtel_history.proofs.histories.History.append.Goals.{After-extend}

extended : (c : After-extend) → OnOk c.extend.result (c.extend.new.entries.items ≡ list_after_diversion c.args.self.now c.args.from.now c.args.target.now c.args.cause c.args.hide_last)
extended c =
    on_ok_by c.extend.result c.extend.ensures.ok
    (λ is.
    is ∙ ap (λ (h : List Entry). list_after_diversion h c.bytes.result.now c.bytes-2.result.now c.args.cause c.args.hide_last) c.self.view_is
    ∙ ap (λ (t : List ℕ). list_after_diversion c.args.self.now t c.bytes-2.result.now c.args.cause c.args.hide_last) c.bytes.ensures
    ∙ ap (λ (t : List ℕ). list_after_diversion c.args.self.now c.args.from.now t c.args.cause c.args.hide_last) c.bytes-2.ensures)

pub returns : goal.returns
returns c = record {
  ok = extended c;
  err = on_err_by c.extend.result c.extend.ensures.err (λ is. is ∙ c.self.view_is);
  len = on_ok_by c.extend.result (extended c) (λ is. ap (λ (h : List Entry). length h) is ∙ appended_len c.args.self.now c.args.from.now c.args.target.now c.args.cause c.args.hide_last);
  counts = λ own. on_ok_by c.extend.result (extended c) (λ is. ap (λ (h : List Entry). diversions_in h) is ∙ appended_counts c.args.self.now c.args.from.now c.args.target.now c.args.cause c.args.hide_last own);
  readable = λ are first is. on_ok_by c.extend.result (extended c)
      (λ same. subst (λ (h : List Entry). AreReadable h) (sym same) (appended_readable c.args.self.now c.args.from.now c.args.target.now c.args.cause c.args.hide_last are first is));
  masks_alike = λ all other same. on_ok_by c.extend.result (extended c)
      (λ is. ap (λ (h : List Entry). masked_list all h) is ∙ appended_equal all c.args.self.now other c.args.from.now c.args.target.now c.args.cause c.args.hide_last same);
}
