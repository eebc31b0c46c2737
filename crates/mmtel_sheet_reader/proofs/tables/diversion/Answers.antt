use Rattle.std.proofs.Common.{List, Ok, sym, ap, subst, refl, ◌∙◌}
use Rattle.std.proofs.lemmas.Result.{err_from_is_err_and}
use Rattle.toml.specs.View.{members_view}
use Rattle.toml.proofs.Views.{Entry}
use Rattle.mmtel_sheet_grammar.specs.Keys.{dotted_path}
use Rattle.mmtel_sheet_grammar.specs.Rules.{members_from}
use Rattle.mmtel_sheet_grammar.specs.Walk.{diversion_key, diversion_part, no_diversion_keys}
use Rattle.mmtel_sheet_reader.proofs.Items.{refuses_both}
use Rattle.mmtel_sheet_reader.proofs.Sounds.{IsLeft, members_begin, members_step, members_end}
use Rattle.mmtel_sheet_reader.proofs.Walks.{member_read, member_refused}
use Rattle.mmtel_sheet_reader.proofs.tables.diversion.Goals as goal

pub members-init : goal.members-init
members-init c = rw (c.new.ensures, c.into_iter-key-iterator.ensures.into_iter_gives, c.iter-key-items.ensures.rest) (tt, tt, refl, members_begin c.args.table.now.entries c.iter-key-items.ensures.ordered)

pub members-preserved : goal.members-preserved
members-preserved c =
    let (can, finite, same, left) = c.members.invariant in
    let e : Entry = (c.in-Some.key.now, c.in-Some.value.now) in
    let first = c.in-Some.ensures.steps in (
      tt,
      tt,
      member_read (members_from c.args.path.now (λ at r k d. diversion_key c.args.version at r k d)) (λ d k v. diversion_key c.args.version (dotted_path c.args.path.now k) d k v)
          (λ d k v ms. refl) no_diversion_keys c.args.table.now.entries c.members.key-iterator c.next.new.self e c.members.draft c.read_diversion_key.new.draft first
          (rw (c.bytes.ensures, c.in_ok-at.ensures, c.as_bytes.ensures.value, c.as_str.ensures.value) at c.in_ok-read_diversion_key.ensures.exact) same,
      members_step c.args.table.now.entries c.members.key-iterator e c.next.new.self first left c.in_ok-read_diversion_key.ensures.sound,
    )

pub returns-in_err-at : goal.returns-in_err-at
returns-in_err-at c =
    let p = err_from_is_err_and c.from_residual.result c.from_residual.ensures.1 in
    record { exact = rw (p.1, p.2) tt; sound = rw p.1 tt }

pub returns-in_err-read_diversion_key : goal.returns-in_err-read_diversion_key
returns-in_err-read_diversion_key c =
    let (can, finite, same, left) = c.members.invariant in
    let e : Entry = (c.in-Some.key.now, c.in-Some.value.now) in
    let p = err_from_is_err_and c.from_residual-in_err-read_diversion_key.result c.from_residual-in_err-read_diversion_key.ensures.1 in
    record {
      exact = rw (p.1, p.2) (refuses_both ((members_from c.args.path.now (λ at r k d. diversion_key c.args.version at r k d)) no_diversion_keys (members_view c.args.table.now.entries))
          (λ d. Ok (diversion_part d)) c.in_err-read_diversion_key.field-0.0 (member_refused (members_from c.args.path.now (λ at r k d. diversion_key c.args.version at r k d))
          (λ d k v. diversion_key c.args.version (dotted_path c.args.path.now k) d k v) (λ d k v ms. refl) no_diversion_keys c.args.table.now.entries c.members.key-iterator c.next.new.self e c.members.draft
          c.in_err-read_diversion_key.field-0.0 c.in-Some.ensures.steps (rw (c.bytes.ensures, c.in_ok-at.ensures, c.as_bytes.ensures.value, c.as_str.ensures.value) at c.in_err-read_diversion_key.ensures.exact) same));
      sound = rw p.1 tt;
    }

pub returns : goal.returns
returns c =
    let (can, finite, same, left) = c.members.invariant in
    record {
      exact = rw (
        sym same ∙ ap (λ (es : List Entry). members_from c.args.path.now (λ at r k d. diversion_key c.args.version at r k d) c.members.draft (members_view es)) c.in-None.ensures.steps.0,
        c.diversion_part.ensures,
      ) refl;
      sound = members_end c.args.table.now.entries (subst (λ (es : List Entry). IsLeft c.args.table.now.entries es) c.in-None.ensures.steps.0 left);
    }
