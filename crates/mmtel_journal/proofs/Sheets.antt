-- What is written of sheets, after one more sheet.
use Rattle.std.proofs.Common.{◌≡◌, ◌<◌, ℕ, suc, ◌+◌, List, [], ◌∷◌, ◌++◌, length, get_or, take, refl, sym, ◌∙◌, ap, subst, append_assoc}
use Rattle.std.specs.Prelude.{All}
use Rattle.std.proofs.lemmas.List.Elements.{All-push}
use Rattle.std.proofs.lemmas.List.{append-nil, take_more}
use Rattle.mmtel_types.specs.declared.numbers.Account.{Account}
use Rattle.mmtel_journal.specs.Migrating.{sheets_in}
use Rattle.mmtel_journal.specs.Payloads.{IsSheet, sheet_bytes, sheets_bytes}

sheets_push : (found : List (ℕ × (Account × List ℕ))) (new : ℕ × (Account × List ℕ)) → sheets_bytes (sheets_in (found ++ new ∷ [])) ≡ sheets_bytes (sheets_in found) ++ sheet_bytes new.1
sheets_push [] new = append-nil (sheet_bytes new.1)
sheets_push (first ∷ found) new =
    ap (λ (l : List ℕ). sheet_bytes first.1 ++ l) (sheets_push found new) ∙ sym (append_assoc (sheet_bytes first.1) (sheets_bytes (sheets_in found)) (sheet_bytes new.1))

pub sheets_more : (found : List (ℕ × (Account × List ℕ))) (i : ℕ) (new : ℕ × (Account × List ℕ)) → i < length found → new ≡ get_or found i new
    → sheets_bytes (sheets_in (take (i + 1) found)) ≡ sheets_bytes (sheets_in (take i found)) ++ sheet_bytes new.1
sheets_more found i new lt is =
    ap (λ (l : List (ℕ × (Account × List ℕ))). sheets_bytes (sheets_in l)) (take_more found i new lt) ∙ sheets_push (take i found) (get_or found i new)
    ∙ ap (λ (n : ℕ × (Account × List ℕ)). sheets_bytes (sheets_in (take i found)) ++ sheet_bytes n.1) (sym is)

-- the sheets of so many, and one more
in_push : (found : List (ℕ × (Account × List ℕ))) (new : ℕ × (Account × List ℕ)) → sheets_in (found ++ new ∷ []) ≡ sheets_in found ++ new.1 ∷ []
in_push [] new = refl
in_push (first ∷ found) new = ap (λ (l : List (Account × List ℕ)). first.1 ∷ l) (in_push found new)

pub fits_more : (found : List (ℕ × (Account × List ℕ))) (i : ℕ) (new : ℕ × (Account × List ℕ)) → i < length found → new ≡ get_or found i new
    → IsSheet new.1 → All IsSheet (sheets_in (take i found)) → All IsSheet (sheets_in (take (i + 1) found))
fits_more found i new lt is fits all =
    let whole : sheets_in (take (i + 1) found) ≡ sheets_in (take i found) ++ (get_or found i new).1 ∷ [] =
    ap sheets_in (take_more found i new lt) ∙ in_push (take i found) (get_or found i new) in
    subst (All IsSheet) (sym whole) (All-push IsSheet (sheets_in (take i found)) (get_or found i new).1 all (subst (λ (n : ℕ × (Account × List ℕ)). IsSheet n.1) is fits))

pub length-in : (found : List (ℕ × (Account × List ℕ))) → length (sheets_in found) ≡ length found
length-in [] = refl
length-in (new ∷ found) = ap (λ (n : ℕ). suc n) (length-in found)
