use Rattle.std.proofs.Common.{List, ℕ, [], ◌∷◌, ◌++◌, ◌∙◌, sym, ap, arith}
use Rattle.mmtel_types.specs.declared.numbers.Account.{Account}
use Rattle.mmtel_sheet_texts.specs.Texts.{put}
use Rattle.mmtel_journal.specs.Fields.{sheet_at}
use Rattle.mmtel_journal.proofs.CountedLists.{stopped, stepped, ended}
use Rattle.mmtel_journal.proofs.ReadPayloads.{no_sheets, ends_sheets, puts_push}
use Rattle.mmtel_journal.proofs.payloads.read_sheets.Goals as goal

pub returns-in_default-sheet_at : goal.returns-in_default-sheet_at
returns-in_default-sheet_at c =
    let inv = c.loop-left.invariant in
    no_sheets c.args.tail.now [] []
    (stopped sheet_at c.args.tail.now inv.0 c.loop-left.left c.loop-left.rest.now (omega (arith, c.loop-left-test.true)) c.in_default-sheet_at.ensures inv.1)

pub loop-left-preserved : goal.loop-left-preserved
loop-left-preserved c =
    let inv = c.loop-left.invariant in
    let new : Account × List ℕ = (c.in-Some-sheet_at.sheet.0, c.in-Some-sheet_at.sheet.1.now) in (
      inv.0 ++ new ∷ [],
      stepped sheet_at c.args.tail.now inv.0 c.loop-left.left c.loop-left.rest.now c.in-Some-sheet_at.further.now new
          (omega (arith, c.loop-left-test.true)) c.in-Some-sheet_at.ensures inv.1,
      c.in_ok-put.ensures.ok ∙ ap (λ (text : List ℕ). put new.0 text c.loop-left.sheets.texts) c.in_ok-text.ensures ∙ ap (put new.0 new.1) inv.2
          ∙ sym (puts_push inv.0 new c.args.sheets.now.texts),
    )

pub returns : goal.returns
returns c =
    let inv = c.loop-left.invariant in
    ends_sheets c.args.tail.now c.args.sheets.now.texts c.loop-left.sheets.texts inv.0 c.loop-left.rest.now c.is_empty.result
    (λ i. omega (arith, c.type_inv.tail i)) c.is_empty.ensures
    (ended sheet_at c.args.tail.now inv.0 c.loop-left.left c.loop-left.rest.now (omega (arith, c.loop-left-test.false)) inv.1) inv.2
