use Rattle.std.proofs.Common.{List, sym, ap, subst, refl, ◌∙◌}
use Rattle.toml.specs.View.{members_view}
use Rattle.toml.proofs.Views.{Entry}
use Rattle.mmtel_sheet_grammar.specs.Keys.{dotted_path}
use Rattle.mmtel_sheet_grammar.specs.Rules.{keys_from, rule_key_read, empty_draft}
use Rattle.mmtel_sheet_reader.proofs.Sounds.{IsLeft, members_begin, members_step, members_end}
use Rattle.mmtel_sheet_reader.proofs.Walks.{member_read, member_refused}
use Rattle.mmtel_sheet_reader.proofs.rules.keys_of_rule.Goals as goal

pub members-init : goal.members-init
members-init c = rw (c.empty_draft-draft.ensures, c.into_iter-key-iterator.ensures.into_iter_gives, c.iter-key-items.ensures.rest) (tt, tt, refl, members_begin c.args.table.now.entries c.iter-key-items.ensures.ordered)

pub members-preserved : goal.members-preserved
members-preserved c =
    let (can, finite, same, left) = c.members.invariant in
    let e : Entry = (c.in-Some.key.now, c.in-Some.value.now) in
    let first = c.in-Some.ensures.steps in (
      tt,
      tt,
      member_read (keys_from c.args.schema (members_view c.args.table.now.entries) c.args.path.now)
          (λ d k v. rule_key_read c.args.schema (members_view c.args.table.now.entries) (dotted_path c.args.path.now k) d k v) (λ d k v ms. refl) empty_draft c.args.table.now.entries
          c.members.key-iterator c.next.new.self e c.members.draft c.read_name.new.draft first (rw c.as_str.ensures.value at c.in-Ok.ensures.exact) same,
      members_step c.args.table.now.entries c.members.key-iterator e c.next.new.self first left c.in-Ok.ensures.sound,
    )

pub returns-in-Err : goal.returns-in-Err
returns-in-Err c =
    let (can, finite, same, left) = c.members.invariant in
    let e : Entry = (c.in-Some.key.now, c.in-Some.value.now) in
    record {
      exact = member_refused (keys_from c.args.schema (members_view c.args.table.now.entries) c.args.path.now)
          (λ d k v. rule_key_read c.args.schema (members_view c.args.table.now.entries) (dotted_path c.args.path.now k) d k v) (λ d k v ms. refl) empty_draft c.args.table.now.entries
          c.members.key-iterator c.next.new.self e c.members.draft c.in-Err.fault c.in-Some.ensures.steps (rw c.as_str.ensures.value at c.in-Err.ensures.exact) same;
      sound = tt;
    }

pub returns : goal.returns
returns c =
    let (can, finite, same, left) = c.members.invariant in
    record {
      exact = sym same ∙ ap (λ (es : List Entry). keys_from c.args.schema (members_view c.args.table.now.entries) c.args.path.now c.members.draft (members_view es)) c.in-None.ensures.steps.0;
      sound = members_end c.args.table.now.entries (subst (λ (es : List Entry). IsLeft c.args.table.now.entries es) c.in-None.ensures.steps.0 left);
    }
