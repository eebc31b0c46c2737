-- Lists from whose front items are removed.
use Rattle.std.proofs.Common.{◌≡◌, ◌+◌, ℕ, List, drop, ap, arith, ◌∙◌}
use Rattle.std.proofs.lemmas.List.{drop-drop}

-- what is removed one by one
pub removal_step : {A : Type 0} (k : ℕ) (xs : List A) → drop 1 (drop k xs) ≡ drop (k + 1) xs
removal_step k xs = drop-drop 1 k xs ∙ ap (λ n. drop n xs) (omega arith)
