-- What a 181 shows: the marks of one diversion.
use Rattle.std.proofs.Common.{◌≡◌, Bool, true, false, ℕ, ◌+◌, ◌-◌, List, [], ◌∷◌, ◌++◌, length, refl, sym, ap, ◌∙◌, arith}
use Rattle.std.specs.Prelude.{map}
use Rattle.std.proofs.lemmas.List.{append_assoc, length-append}
use Rattle.mmtel_history.specs.HistoryInfo.{hidden_entry, list_marked_at, list_hidden_if, history_for_caller, diversions_in, masked_list, unmarked_entry, hidden_entry_if, AreReadable}
use Rattle.mmtel_history.specs.declared.entries.Entry.{Entry}
use Rattle.mmtel_history.proofs.ListTheorems.{hidden_counts, hides_same, length-masked, marked_keeps, masked_once}
use Rattle.mmtel_history.proofs.Marks.{length-hidden}
use Rattle.mmtel_history.proofs.ReadableTheorems.{hidden_if_readable}

marked_here : (h : List Entry) (e : Entry) (more : List Entry) → list_marked_at (length h) (h ++ e ∷ more) ≡ h ++ hidden_entry e ∷ more
marked_here [] e more = refl
marked_here (x ∷ h) e more = ap (λ (l : List Entry). x ∷ l) (marked_here h e more)

hidden_here : (hide : Bool) (h : List Entry) (e : Entry) (more : List Entry) → list_hidden_if hide (length h) (h ++ e ∷ more) ≡ h ++ hidden_entry_if hide e ∷ more
hidden_here true h e more = marked_here h e more
hidden_here false h e more = refl

pub for_caller_positions : (served target : Bool) (h : List Entry) (d t : Entry) → history_for_caller served target (h ++ d ∷ t ∷ []) ≡ h ++ hidden_entry_if served d ∷ hidden_entry_if target t ∷ []
for_caller_positions served target h d t =
    let both : length (h ++ d ∷ t ∷ []) ≡ length h + 2 = length-append h (d ∷ t ∷ []) in
    let front : length (h ++ hidden_entry_if served d ∷ []) ≡ length h + 1 = length-append h (hidden_entry_if served d ∷ []) in
    let first : length (h ++ d ∷ t ∷ []) - 2 ≡ length h = omega arith in
    let last : length (h ++ d ∷ t ∷ []) - 1 ≡ length (h ++ hidden_entry_if served d ∷ []) = omega arith in
    ap (λ (n : ℕ). list_hidden_if target (length (h ++ d ∷ t ∷ []) - 1) (list_hidden_if served n (h ++ d ∷ t ∷ []))) first
    ∙ ap (λ (l : List Entry). list_hidden_if target (length (h ++ d ∷ t ∷ []) - 1) l) (hidden_here served h d (t ∷ []))
    ∙ ap (λ (n : ℕ). list_hidden_if target n (h ++ hidden_entry_if served d ∷ t ∷ [])) last
    ∙ ap (λ (l : List Entry). list_hidden_if target (length (h ++ hidden_entry_if served d ∷ [])) l) (sym (append_assoc h (hidden_entry_if served d ∷ []) (t ∷ [])))
    ∙ hidden_here target (h ++ hidden_entry_if served d ∷ []) t []
    ∙ append_assoc h (hidden_entry_if served d ∷ []) (hidden_entry_if target t ∷ [])

pub length-for_caller : (served target : Bool) (h : List Entry) → length (history_for_caller served target h) ≡ length h
length-for_caller served target h = length-hidden target (length h - 1) (list_hidden_if served (length h - 2) h) ∙ length-hidden served (length h - 2) h

pub for_caller_counts : (served target : Bool) (h : List Entry) → diversions_in (history_for_caller served target h) ≡ diversions_in h
for_caller_counts served target h = hidden_counts target (list_hidden_if served (length h - 2) h) (length h - 1) ∙ hidden_counts served h (length h - 2)

hides_keep : (hide : Bool) (h : List Entry) (n : ℕ) → map unmarked_entry (list_hidden_if hide n h) ≡ map unmarked_entry h
hides_keep true h n = marked_keeps h n
hides_keep false h n = refl

pub for_caller_keeps : (served target : Bool) (h : List Entry) → map unmarked_entry (history_for_caller served target h) ≡ map unmarked_entry h
for_caller_keeps served target h = hides_keep target (list_hidden_if served (length h - 2) h) (length h - 1) ∙ hides_keep served h (length h - 2)

pub for_caller_readable : (served target : Bool) (h : List Entry) → AreReadable h → AreReadable (history_for_caller served target h)
for_caller_readable served target h are = hidden_if_readable target (list_hidden_if served (length h - 2) h) (length h - 1) (hidden_if_readable served h (length h - 2) are)

pub for_caller_equal : (all served target : Bool) (h g : List Entry) → masked_list all h ≡ masked_list all g → masked_list all (history_for_caller served target h) ≡ masked_list all (history_for_caller served target g)
for_caller_equal all served target h g same =
    let lengths : length h ≡ length g = sym (length-masked all h) ∙ ap (λ (l : List Entry). length l) same ∙ length-masked all g in
    hides_same all target (length h - 1) (list_hidden_if served (length h - 2) h) (list_hidden_if served (length h - 2) g) (hides_same all served (length h - 2) h g same)
    ∙ ap (λ (n : ℕ). masked_list all (list_hidden_if target (n - 1) (list_hidden_if served (n - 2) g))) lengths

pub for_caller_masked : (all served target : Bool) (h : List Entry) → masked_list all (history_for_caller served target (masked_list all h)) ≡ masked_list all (history_for_caller served target h)
for_caller_masked all served target h = for_caller_equal all served target (masked_list all h) h (masked_once all h)
