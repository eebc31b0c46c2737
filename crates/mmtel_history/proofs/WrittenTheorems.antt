-- What is written of a list is read again.
use Rattle.std.proofs.Common.{◌≡◌, Bool, true, false, ℕ, ◌≤◌, List, [], ◌∷◌, ◌++◌, length, Option, Ok, refl, sym, subst, ap, ◌∙◌, inl, inr}
use Rattle.std.specs.Prelude.{is_some, map, option_to_list}
use Rattle.std.proofs.lemmas.Bool.{cases_Bool}
use Rattle.std.proofs.lemmas.List.{length-map}
use Rattle.mmtel_message.specs.Entries.{is_entry, are_entries}
use Rattle.mmtel_history.specs.HistoryInfo.{entry_of, entry_text, entries_of, entries_result, masked_entry, masked_list, written_entry, written_uri, AreReadable}
use Rattle.mmtel_history.specs.declared.entries.Entry.{Entry}
use Rattle.mmtel_history.proofs.EntryTheorems.{entry_again}
use Rattle.mmtel_history.proofs.ReadableTheorems.{masked_readable}
use Rattle.mmtel_history.proofs.ValueTheorems.{same_entry, entries_read}

pub entries_again : (h : List Entry) → AreReadable h → entries_of (map entry_text h) ≡ map written_entry h
entries_again [] are = refl
entries_again (e ∷ h) are =
    ap (λ (o : Option Entry). option_to_list o ++ entries_of (map entry_text h)) (entry_again e are.0) ∙ ap (λ (l : List Entry). written_entry e ∷ l) (entries_again h are.1)

texts_are_entries : (h : List Entry) → AreReadable h → are_entries (map entry_text h) ≡ true
texts_are_entries [] are = refl
texts_are_entries (e ∷ h) are =
    let first : is_entry (entry_text e) ≡ true = sym (same_entry (entry_text e)) ∙ ap (λ (o : Option Entry). is_some o) (entry_again e are.0) in
    rw (first, texts_are_entries h are.1) refl

pub reading_again : (h : List Entry) → AreReadable h → length h ≤ 32 → entries_result (map entry_text h) ≡ Ok (map written_entry h)
reading_again h are few =
    let fits : length (map entry_text h) ≤ 32 = subst (λ (n : ℕ). n ≤ 32) (sym (length-map h entry_text)) few in
    entries_read (map entry_text h) (texts_are_entries h are) fits ∙ ap (λ (l : List Entry). Ok l) (entries_again h are)

-- what is not hidden is written as it is
mask_written : (all : Bool) (e : Entry) → written_entry (masked_entry all e) ≡ masked_entry all e
unfolding written_uri
mask_written true e = refl
mask_written false e =
    elim (cases_Bool e.hidden) [
      | inl y ↦ rw y refl
      | inr n ↦ rw n refl
    ]

masks_written : (all : Bool) (h : List Entry) → map written_entry (masked_list all h) ≡ masked_list all h
masks_written all [] = refl
masks_written all (e ∷ h) = ap (λ (x : Entry). x ∷ map written_entry (masked_list all h)) (mask_written all e) ∙ ap (λ (l : List Entry). masked_entry all e ∷ l) (masks_written all h)

pub masked_again : (all : Bool) (h : List Entry) → AreReadable h → entries_of (map entry_text (masked_list all h)) ≡ masked_list all h
masked_again all h are = entries_again (masked_list all h) (masked_readable all h are) ∙ masks_written all h

written_masked : (all : Bool) (e : Entry) → masked_entry all (written_entry e) ≡ masked_entry all e
unfolding written_uri
written_masked true e = refl
written_masked false e =
    elim (cases_Bool e.hidden) [
      | inl y ↦ rw y refl
      | inr n ↦ rw n refl
    ]

pub writing_masked : (all : Bool) (h : List Entry) → masked_list all (map written_entry h) ≡ masked_list all h
writing_masked all [] = refl
writing_masked all (e ∷ h) = ap (λ (x : Entry). x ∷ masked_list all (map written_entry h)) (written_masked all e) ∙ ap (λ (l : List Entry). masked_entry all e ∷ l) (writing_masked all h)
