-- The texts of service records by account: each account once, in the order in which the accounts first had a text.
use Rattle.std.specs.Prelude.{ℕ, zero, suc, ◌==◌, List, [], ◌∷◌, if◌then◌else◌, Some, None}
use Rattle.std.specs.declared.option.Option.{Option}
use Rattle.mmtel_types.specs.declared.numbers.Account.{Account}

-- the texts with this text as the account's, in place of its previous one, or after the others
abbrev pub put : Account → List ℕ → List (Account × List ℕ) → List (Account × List ℕ)
put account text [] = (account, text) ∷ []
put account text (entry ∷ texts) =
    if entry.0.0 == account.0 then (account, text) ∷ texts else entry ∷ put account text texts

-- the texts with this text in place of the one at this index
abbrev pub set_text : List (Account × List ℕ) → ℕ → List ℕ → List (Account × List ℕ)
set_text [] at text = []
set_text (entry ∷ texts) zero text = (entry.0, text) ∷ texts
set_text (entry ∷ texts) (suc at) text = entry ∷ set_text texts at text

-- the text of the account
abbrev pub text_at : List (Account × List ℕ) → Account → Option (List ℕ)
text_at [] account = None
text_at (entry ∷ texts) account = if entry.0.0 == account.0 then Some entry.1 else text_at texts account

-- the texts, and how many further accounts can have one without allocation
pub record SheetTextsView : Type 0 where
  pub texts : List (Account × List ℕ)
  pub space : ℕ
