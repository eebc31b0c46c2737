-- The records in force by tables of these entries, after an entry was inserted or removed.
use Rattle.std.proofs.Common.{◌≡◌, ℕ, List, refl, ap, sym, ◌∙◌}
use Rattle.std.proofs.lemmas.Bool.{false≢true}
use Rattle.std.specs.Prelude.{Option, Some, None, true, false, cond, is_some, IfSome, IsTrue}
use Rattle.std.specs.Option.{option_flatten}
use Rattle.std.specs.Ordering.{nat_cmp, is_eq}
use Rattle.std.specs.FinMap.{from_entries}
use Rattle.std.specs.FinSet as set
use Rattle.mmtel_sheet_values.specs.declared.values.Sheet.{Sheet}
use Rattle.mmtel_sheet_values.specs.Slots.{sheets_of, accounts_of}
use Rattle.mmtel_sheet_values.specs.View.{SheetsInForce, sheet_in, has_space, with_sheet, with_space, with_registration_end}
use Rattle.mmtel_sheet_values.proofs.Entries.{looked_up, Puts, get-sheets, placed, none_removed, contains-accounts, counted, one_inserted, inserted, removed}

-- a property of any value
pub IfSome-from : {X P : Type 0} (o : Option X) → P → IfSome o (λ _. P)
IfSome-from None p = tt
IfSome-from (Some x) p = p

-- the records in force by two tables of these entries
abbrev pub of_entries : List (ℕ × Option Sheet) → List (ℕ × ℕ) → SheetsInForce
of_entries places ends = record { sheets = sheets_of places; space = accounts_of places; registration_ends = from_entries ends }

pub put_in : (old new : List (ℕ × Option Sheet)) (ends : List (ℕ × ℕ)) (a : ℕ) (s : Sheet) → Puts old new a (Some s) → of_entries new ends ≡ with_sheet (of_entries old ends) a s
put_in old new ends a s h = λ i. record { sheets = placed old new a (Some s) h i; space = counted old new a (Some s) h i; registration_ends = from_entries ends }

-- nothing is in force without entries
nothing_in : (place : Option (Option Sheet)) → is_some place ≡ false → option_flatten place ≡ None
nothing_in None e = refl
nothing_in (Some s) e = absurd (false≢true (sym e))

pub room_made : (old new : List (ℕ × Option Sheet)) (ends : List (ℕ × ℕ)) (a : ℕ) → is_some (looked_up old a) ≡ false → Puts old new a None → of_entries new ends ≡ with_space (of_entries old ends) a
room_made old new ends a none h =
    let same : sheets_of new ≡ sheets_of old = placed old new a None h ∙ none_removed (sheets_of old) a (get-sheets old a ∙ nothing_in (looked_up old a) none) in
    λ i. record { sheets = same i; space = counted old new a None h i; registration_ends = from_entries ends }

pub room_there : (places : List (ℕ × Option Sheet)) (ends : List (ℕ × ℕ)) (a : ℕ) → is_some (looked_up places a) ≡ true → of_entries places ends ≡ with_space (of_entries places ends) a
room_there places ends a there =
    let same : accounts_of places ≡ set.insert (accounts_of places) a = sym (one_inserted (accounts_of places) a (contains-accounts places a ∙ there)) in
    λ i. record { sheets = sheets_of places; space = same i; registration_ends = from_entries ends }

pub end_set : (places : List (ℕ × Option Sheet)) (old new : List (ℕ × ℕ)) (a until : ℕ) → Puts old new a until → of_entries places new ≡ with_registration_end (of_entries places old) a (Some until)
end_set places old new a until h = λ i. record { sheets = sheets_of places; space = accounts_of places; registration_ends = inserted old new a until h i }

pub end_taken : (places : List (ℕ × Option Sheet)) (old new : List (ℕ × ℕ)) (a : ℕ) → ((q : ℕ) → looked_up new q ≡ cond (is_eq (nat_cmp a q)) None (looked_up old q)) →
    of_entries places new ≡ with_registration_end (of_entries places old) a None
end_taken places old new a h = λ i. record { sheets = sheets_of places; space = accounts_of places; registration_ends = removed old new a h i }

-- there is space for a sheet of an account exactly where it has an entry
pub has_place : (places : List (ℕ × Option Sheet)) (ends : List (ℕ × ℕ)) (a : ℕ) → is_some (looked_up places a) ≡ true → IsTrue (has_space (of_entries places ends) a)
has_place places ends a there = contains-accounts places a ∙ there

pub has_no_place : (places : List (ℕ × Option Sheet)) (ends : List (ℕ × ℕ)) (a : ℕ) → looked_up places a ≡ None → IsTrue (has_space (of_entries places ends) a) → ⊥
has_no_place places ends a none room = false≢true (sym (ap is_some none) ∙ sym (contains-accounts places a) ∙ room)

-- the sheet in the account's entry
pub in_force : (places : List (ℕ × Option Sheet)) (ends : List (ℕ × ℕ)) (a : ℕ) (place : Option (Option Sheet)) → place ≡ looked_up places a → option_flatten place ≡ sheet_in (of_entries places ends) a
in_force places ends a place e = ap option_flatten e ∙ sym (get-sheets places a)
