-- The result of reading the sheets or the rows of a payload.
use Rattle.std.proofs.Common.{◌≡◌, ◌≢◌, inl, inr, ℕ, Bool, true, false, List, [], ◌∷◌, ◌++◌, length, get_or, drop, ◌==◌, Some, None, refl, sym, ap, subst, ◌∙◌, arith}
use Rattle.std.proofs.lemmas.Bool.{eqb-true, eq-eqb}
use Rattle.mmtel_types.specs.declared.numbers.Account.{Account}
use Rattle.mmtel_charging.specs.declared.rows.Row.{Row}
use Rattle.mmtel_keeper.specs.Contents.{KeeperContents, with_rows}
use Rattle.mmtel_journal.specs.Payloads.{IsSheet, IsRow, IsPayload, AreSheets, AreRows, Adds, put_sheets, with_sheets, sheet_bytes, row_bytes}
use Rattle.mmtel_journal.specs.Fields.{row_at, sheet_at, counted_at}
use Rattle.mmtel_journal.specs.Reading.{ReadsSheets, ReadsRows, ReadsPayload}
use Rattle.mmtel_journal.proofs.ReadRecords.{IsBytes}
use Rattle.mmtel_journal.proofs.FieldsRead.{row_reads, sheet_reads, all_rows, all_sheets}
use Rattle.mmtel_journal.proofs.CountedLists.{AreCounted, is_counted, none_counted, more_behind, same_counted}

tail_same : (a : ℕ) (x y : List ℕ) → a ∷ x ≡ a ∷ y → x ≡ y
tail_same a x y e = ap (λ (l : List ℕ). drop 1 l) e

pub counted_rows : (tail : List ℕ) (rows : List Row) → AreRows (2 ∷ tail) rows → AreCounted IsRow row_bytes row_at row_reads tail rows
counted_rows tail rows are = record { many = are.many; each = are.each; encoded = rw (all_rows rows) (tail_same 2 tail _ are.encoded) }

pub rows_counted : (tail : List ℕ) (rows : List Row) → AreCounted IsRow row_bytes row_at row_reads tail rows → AreRows (2 ∷ tail) rows
rows_counted tail rows are = record { many = are.many; each = are.each; encoded = ap (λ (l : List ℕ). 2 ∷ l) (rw (all_rows rows) at are.encoded) }

pub counted_sheets : (tail : List ℕ) (sheets : List (Account × List ℕ)) → AreSheets (1 ∷ tail) sheets → AreCounted IsSheet sheet_bytes sheet_at sheet_reads tail sheets
counted_sheets tail sheets are = record { many = are.many; each = are.each; encoded = rw (all_sheets sheets) (tail_same 1 tail _ are.encoded) }

pub sheets_counted : (tail : List ℕ) (sheets : List (Account × List ℕ)) → AreCounted IsSheet sheet_bytes sheet_at sheet_reads tail sheets → AreSheets (1 ∷ tail) sheets
sheets_counted tail sheets are = record { many = are.many; each = are.each; encoded = ap (λ (l : List ℕ). 1 ∷ l) (rw (all_sheets sheets) at are.encoded) }

pub no_rows : (tail : List ℕ) (before after : List Row) → counted_at row_at tail ≡ None → ReadsRows (2 ∷ tail) before after false
no_rows tail before after none rows are = none_counted IsRow row_bytes row_at row_reads tail rows none (counted_rows tail rows are)

pub no_sheets : (tail : List ℕ) (before after : List (Account × List ℕ)) → counted_at sheet_at tail ≡ None → ReadsSheets (1 ∷ tail) before after false
no_sheets tail before after none sheets are = none_counted IsSheet sheet_bytes sheet_at sheet_reads tail sheets none (counted_sheets tail sheets are)

is_empty : (rest : List ℕ) → (length rest == 0) ≡ true → rest ≡ []
is_empty [] e = refl
is_empty (b ∷ rest) e = absurd (omega (arith, eqb-true (length (b ∷ rest)) 0 e))

not_empty : (rest : List ℕ) → (length rest == 0) ≡ false → rest ≡ [] → ⊥
not_empty rest e none = absurd (cc (sym e ∙ eq-eqb (length rest) 0 (ap length none)))

pub ends_rows : (tail : List ℕ) (before after done : List Row) (rest : List ℕ) (ends : Bool) → IsBytes tail → ends ≡ (length rest == 0)
    → counted_at row_at tail ≡ Some (done, rest) → after ≡ before ++ done → ReadsRows (2 ∷ tail) before after ends
ends_rows tail before after done rest true small empty e is =
    (done, rows_counted tail done (is_counted IsRow row_bytes row_at row_reads tail done rest small (is_empty rest (sym empty)) e), is)
ends_rows tail before after done rest false small empty e is = λ rows are.
    not_empty rest (sym empty) (more_behind IsRow row_bytes row_at row_reads tail done rows rest e (counted_rows tail rows are))

pub ends_sheets : (tail : List ℕ) (before after done : List (Account × List ℕ)) (rest : List ℕ) (ends : Bool) → IsBytes tail → ends ≡ (length rest == 0)
    → counted_at sheet_at tail ≡ Some (done, rest) → after ≡ put_sheets done before → ReadsSheets (1 ∷ tail) before after ends
ends_sheets tail before after done rest true small empty e is =
    (done, sheets_counted tail done (is_counted IsSheet sheet_bytes sheet_at sheet_reads tail done rest small (is_empty rest (sym empty)) e), is)
ends_sheets tail before after done rest false small empty e is = λ sheets are.
    not_empty rest (sym empty) (more_behind IsSheet sheet_bytes sheet_at sheet_reads tail done sheets rest e (counted_sheets tail sheets are))

pub puts_push : (done : List (Account × List ℕ)) (sheet : Account × List ℕ) (before : List (Account × List ℕ))
    → put_sheets (done ++ sheet ∷ []) before ≡ Rattle.mmtel_sheet_texts.specs.Texts.put sheet.0 sheet.1 (put_sheets done before)
puts_push [] sheet before = refl
puts_push (first ∷ done) sheet before = puts_push done sheet (Rattle.mmtel_sheet_texts.specs.Texts.put first.0 first.1 before)

other_form : (a b : ℕ) (x y : List ℕ) → a ≢ b → a ∷ x ≡ b ∷ y → ⊥
other_form a b x y apart e = apart (ap (λ (l : List ℕ). get_or l 0 0) e)

-- ---- a payload has one content

pub adds_same : (payload : List ℕ) (before a b : KeeperContents) → Adds payload before a → Adds payload before b → a ≡ b
adds_same payload before a b (inl x) (inl y) =
    let at : payload ≡ 1 ∷ drop 1 payload = x.1.encoded ∙ ap (λ (l : List ℕ). 1 ∷ drop 1 l) (sym x.1.encoded) in
    let tail = drop 1 payload in
    let same : x.0 ≡ y.0 = same_counted IsSheet sheet_bytes sheet_at sheet_reads tail x.0 y.0 (counted_sheets tail x.0 (subst (λ (p : List ℕ). AreSheets p x.0) at x.1))
    (counted_sheets tail y.0 (subst (λ (p : List ℕ). AreSheets p y.0) at y.1)) in
    x.2 ∙ ap (λ s. with_sheets s before) same ∙ sym y.2
adds_same payload before a b (inr x) (inr y) =
    let at : payload ≡ 2 ∷ drop 1 payload = x.1.encoded ∙ ap (λ (l : List ℕ). 2 ∷ drop 1 l) (sym x.1.encoded) in
    let tail = drop 1 payload in
    let same : x.0 ≡ y.0 = same_counted IsRow row_bytes row_at row_reads tail x.0 y.0 (counted_rows tail x.0 (subst (λ (p : List ℕ). AreRows p x.0) at x.1))
    (counted_rows tail y.0 (subst (λ (p : List ℕ). AreRows p y.0) at y.1)) in
    x.2 ∙ ap (λ s. with_rows s before) same ∙ sym y.2
adds_same payload before a b (inl x) (inr y) = absurd (other_form 1 2 _ _ (λ e. absurd (omega (arith, e))) (sym x.1.encoded ∙ y.1.encoded))
adds_same payload before a b (inr x) (inl y) = absurd (other_form 2 1 _ _ (λ e. absurd (omega (arith, e))) (sym x.1.encoded ∙ y.1.encoded))

-- ---- by the result of reading it

pub took_whole : (payload : List ℕ) (before after : KeeperContents) (whole : Bool) → whole ≡ true → ReadsPayload payload before after whole → Adds payload before after
took_whole payload before after true is took = took
took_whole payload before after false is took = absurd cc

pub took_none : (payload : List ℕ) (before after : KeeperContents) (whole : Bool) → whole ≡ false → ReadsPayload payload before after whole → IsPayload payload → ⊥
took_none payload before after true is took = absurd cc
took_none payload before after false is took = took
