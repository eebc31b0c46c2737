use Rattle.std.proofs.Common.{◌≡◌, ◌∙◌, ◌++◌, ◌∷◌, [], ap, sym, subst, refl, arith, length, List, ℕ, ◌+◌, true, false}
use Rattle.std.specs.Prelude.{is_some}
use Rattle.mmtel_sheet_grammar.specs.Texts.{old_sheet}
use Rattle.mmtel_keeper.specs.Migration.{IsMigrated}
use Rattle.mmtel_types.specs.declared.numbers.Account.{Account}
use Rattle.mmtel_journal.proofs.Migrating.{AreFound, begun, passed, added, ended}
use Rattle.mmtel_journal.proofs.migration.replacements.Goals as goal
use Rattle.mmtel_journal.proofs.migration.replacements.Goals.{in-Some+in_ok-push, in_default}

pub loop-sheet-init : goal.loop-sheet-init
loop-sheet-init c =
    record { place = refl; found = subst (λ (found : List (ℕ × (Account × List ℕ))). AreFound 0 c.args.sheets.now found) (sym c.new-found.ensures) (begun c.args.sheets.now) }

pub loop-sheet-preserved : goal.loop-sheet-preserved
loop-sheet-preserved c =
    let before = c.loop-sheet.invariant in
    let text : c.bytes.result.now ≡ c.sheet-item.result.1 = c.bytes.ensures in
    record {
      place = omega (arith, before.place);
      found =
          elim c.match-branch-2.branch [
            | in-Some+in_ok-push w ↦
                let told : true ≡ is_some (old_sheet c.bytes.result.now) = rw w.in-Some.is at c.in_ok-text.ensures.old in
                let is : IsMigrated c.bytes.result.now w.in-Some.text = rw w.in-Some.is at c.in_ok-text.ensures.replaced in
                let new : Account × List ℕ = (c.sheet-item.result.0, w.in-Some.text) in
                let found : c.match-branch-2.found ≡ c.loop-sheet.found ++ (c.loop-sheet.sheet-index, new) ∷ [] =
                w.found-is ∙ w.in_ok-push.ensures.ok ∙ ap (λ (n : ℕ). c.loop-sheet.found ++ (n, new) ∷ []) before.place in
                subst (λ (l : List (ℕ × (Account × List ℕ))). AreFound (c.loop-sheet.sheet-index + 1) c.args.sheets.now l) (sym found)
                (added c.args.sheets.now c.loop-sheet.found c.loop-sheet.sheet-index c.sheet-item.result w.in-Some.text c.loop-sheet-test.true c.sheet-item.is
                (ap (λ (b : List ℕ). is_some (old_sheet b)) (sym text) ∙ sym told) (subst (λ (b : List ℕ). IsMigrated b w.in-Some.text) text is) before.found)
            | in_default w ↦
                let told : false ≡ is_some (old_sheet c.bytes.result.now) = rw w.in_default.is at c.in_ok-text.ensures.old in
                subst (λ (l : List (ℕ × (Account × List ℕ))). AreFound (c.loop-sheet.sheet-index + 1) c.args.sheets.now l) (sym w.found-is)
                (passed c.args.sheets.now c.loop-sheet.found c.loop-sheet.sheet-index c.sheet-item.result c.loop-sheet-test.true c.sheet-item.is
                (ap (λ (b : List ℕ). is_some (old_sheet b)) (sym text) ∙ sym told) before.found)
          ];
    }

pub returns : goal.returns
returns c =
    let whole : c.loop-sheet.sheet-index ≡ length c.args.sheets.now = omega (arith, c.loop-sheet-test.false, c.loop-sheet.auto.sheet-index-end) in
    record { replaced = ended c.args.sheets.now c.loop-sheet.found (subst (λ (k : ℕ). AreFound k c.args.sheets.now c.loop-sheet.found) whole c.loop-sheet.invariant.found) }
