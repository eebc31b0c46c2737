use Rattle.std.proofs.Common.{List, refl, sym, ap, ◌∙◌}
use Rattle.std.proofs.lemmas.Result.{err_from_is_err_and}
use Rattle.toml.specs.View.{members_view}
use Rattle.toml.proofs.Views.{Entry}
use Rattle.mmtel_mwi.specs.Counting.{counts_from}
use Rattle.mmtel_mwi.proofs.Keys.{key_read, key_refused}
use Rattle.mmtel_mwi.proofs.reading.counts.Goals as goal

pub members-init : goal.members-init
members-init c = rw (c.none-counts.ensures.none, c.into_iter-key-iterator.ensures.into_iter_gives, c.iter-key-items.ensures.rest) (tt, tt, refl)

pub members-preserved : goal.members-preserved
members-preserved c =
    let (can, finite, same) = c.members.invariant in
    let e : Entry = (c.in-Some.key.now, c.in-Some.value.now) in (
      tt,
      tt,
      key_read c.members.key-iterator c.next.new.self c.args.table.now.entries e c.members.counts _ c.in-Some.ensures.steps (rw c.as_str.ensures.value at c.in_ok-counts.ensures.exact) same,
    )

pub returns-in_err-counts : goal.returns-in_err-counts
returns-in_err-counts c =
    let (can, finite, same) = c.members.invariant in
    let e : Entry = (c.in-Some.key.now, c.in-Some.value.now) in
    let p = err_from_is_err_and c.from_residual.result c.from_residual.ensures.1 in
    record {
      exact = rw (p.1, p.2)
          (key_refused c.members.key-iterator c.next.new.self c.args.table.now.entries e c.members.counts
          c.in_err-counts.field-0.0 c.in-Some.ensures.steps (rw c.as_str.ensures.value at c.in_err-counts.ensures.exact) same);
    }

pub returns : goal.returns
returns c =
    let (can, finite, same) = c.members.invariant in
    record { exact = sym same ∙ ap (λ (es : List Entry). counts_from c.members.counts (members_view es)) c.in-None.ensures.steps.0 }
