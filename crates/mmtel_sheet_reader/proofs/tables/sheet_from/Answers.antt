use Rattle.std.proofs.Common.{List, sym, ap, subst, refl, ◌∙◌}
use Rattle.std.proofs.lemmas.Result.{err_from_is_err_and}
use Rattle.toml.specs.View.{members_view}
use Rattle.toml.proofs.Views.{Entry}
use Rattle.mmtel_sheet_grammar.specs.Walk.{name_read, sheet_from}
use Rattle.mmtel_sheet_values.specs.Sheets.{empty_sheet}
use Rattle.mmtel_sheet_reader.proofs.Sounds.{IsLeft, members_begin, members_step, members_end}
use Rattle.mmtel_sheet_reader.proofs.Walks.{member_read, member_refused}
use Rattle.mmtel_sheet_reader.proofs.tables.sheet_from.Goals as goal

pub members-init : goal.members-init
members-init c = rw (c.empty-sheet.ensures.its, c.into_iter-key-iterator.ensures.into_iter_gives, c.iter-key-items.ensures.rest) (tt, tt, refl, members_begin c.args.table.now.entries c.iter-key-items.ensures.ordered)

pub members-preserved : goal.members-preserved
members-preserved c =
    let (can, finite, same, left) = c.members.invariant in
    let e : Entry = (c.in-Some.key.now, c.in-Some.value.now) in
    let first = c.in-Some.ensures.steps in (
      tt,
      tt,
      member_read (sheet_from c.args.version) (λ s k v. name_read c.args.version k s v) (λ s k v ms. refl) empty_sheet c.args.table.now.entries c.members.key-iterator c.next.new.self e c.members.sheet
          c.read_name.new.sheet first (rw c.as_str.ensures.value at c.in_ok-read_name.ensures.exact) same,
      members_step c.args.table.now.entries c.members.key-iterator e c.next.new.self first left c.in_ok-read_name.ensures.sound,
    )

pub returns-in_err-read_name : goal.returns-in_err-read_name
returns-in_err-read_name c =
    let (can, finite, same, left) = c.members.invariant in
    let e : Entry = (c.in-Some.key.now, c.in-Some.value.now) in
    let p = err_from_is_err_and c.from_residual.result c.from_residual.ensures.1 in
    record {
      exact = rw (p.1, p.2) (member_refused (sheet_from c.args.version) (λ s k v. name_read c.args.version k s v) (λ s k v ms. refl) empty_sheet c.args.table.now.entries c.members.key-iterator
          c.next.new.self e c.members.sheet c.in_err-read_name.field-0.0 c.in-Some.ensures.steps (rw c.as_str.ensures.value at c.in_err-read_name.ensures.exact) same);
      sound = rw p.1 tt;
    }

pub returns : goal.returns
returns c =
    let (can, finite, same, left) = c.members.invariant in
    record {
      exact = sym same ∙ ap (λ (es : List Entry). sheet_from c.args.version c.members.sheet (members_view es)) c.in-None.ensures.steps.0;
      sound = members_end c.args.table.now.entries (subst (λ (es : List Entry). IsLeft c.args.table.now.entries es) c.in-None.ensures.steps.0 left);
    }
