-- The masked form of a received value.
use Rattle.std.proofs.Common.{◌≡◌, Bool, true, false, ℕ, List, [], ◌∷◌, ◌++◌, length, take, Option, Some, None, Result, Ok, Err, refl, ap, ◌∙◌, nat_lt, inl, inr}
use Rattle.std.specs.Prelude.{if◌then◌else◌, is_none, map, option_to_list, position}
use Rattle.std.specs.Option.{option_map}
use Rattle.std.proofs.lemmas.Bool.{cases_Bool}
use Rattle.std.proofs.lemmas.List.{length-map, take-map}
use Rattle.mmtel_history.specs.HistoryInfo.{entry_of, entries_of, is_unreadable, entries_result, entries_result_from, written_uri, masked_entry, masked_list, written_entry, IsReadable}
use Rattle.mmtel_history.specs.MaskedValues.{masked_from, masked_value_text, is_hidden, is_marked_value, seen_value}
use Rattle.mmtel_history.specs.declared.entries.Entry.{Entry}
use Rattle.mmtel_history.proofs.EntryTheorems.{entry_again}
use Rattle.mmtel_history.proofs.Finding.{position-map}
use Rattle.mmtel_history.proofs.ReadableTheorems.{read_readable, masked_readable}

-- what is not hidden is written as it is
written_masked : (e : Entry) → written_entry (masked_entry true e) ≡ masked_entry true e
unfolding written_uri
written_masked e = refl

masked_by : (v : List ℕ) (o : Option Entry) → entry_of v ≡ o → entry_of (masked_from v o) ≡ option_map (masked_entry true) o
masked_by v None read = read
masked_by v (Some e) read =
    let is : IsReadable (masked_entry true e) = (masked_readable true (e ∷ []) (read_readable v e read, tt)).0 in
    entry_again (masked_entry true e) is ∙ ap (λ (x : Entry). Some x) (written_masked e)

pub masked_entry_of : (v : List ℕ) → entry_of (masked_value_text v) ≡ option_map (masked_entry true) (entry_of v)
unfolding masked_value_text
masked_entry_of v = masked_by v (entry_of v) refl

-- masking a second time changes nothing
once_by : (v : List ℕ) (o : Option Entry) → masked_from (masked_from v o) (option_map (masked_entry true) o) ≡ masked_from v o
once_by v None = refl
once_by v (Some e) = refl

pub masked_value_once : (v : List ℕ) → masked_value_text (masked_value_text v) ≡ masked_value_text v
unfolding masked_value_text
masked_value_once v = ap (λ (o : Option Entry). masked_from (masked_from v (entry_of v)) o) (masked_by v (entry_of v) refl) ∙ once_by v (entry_of v)

index_by : (o : Option Entry) → option_map (λ e. e.index) (option_map (masked_entry true) o) ≡ option_map (λ e. e.index) o
index_by None = refl
index_by (Some e) = refl

pub masked_value_index : (v : List ℕ) → option_map (λ e. e.index) (entry_of (masked_value_text v)) ≡ option_map (λ e. e.index) (entry_of v)
masked_value_index v = ap (λ (o : Option Entry). option_map (λ e. e.index) o) (masked_entry_of v) ∙ index_by (entry_of v)

cause_by : (o : Option Entry) → option_map (λ e. e.cause) (option_map (masked_entry true) o) ≡ option_map (λ e. e.cause) o
cause_by None = refl
cause_by (Some e) = refl

pub masked_value_cause : (v : List ℕ) → option_map (λ e. e.cause) (entry_of (masked_value_text v)) ≡ option_map (λ e. e.cause) (entry_of v)
masked_value_cause v = ap (λ (o : Option Entry). option_map (λ e. e.cause) o) (masked_entry_of v) ∙ cause_by (entry_of v)

shown_by : (o : Option Entry) → is_hidden (option_map (masked_entry true) o) ≡ false
shown_by None = refl
shown_by (Some e) = refl

pub masked_value_shown : (v : List ℕ) → is_marked_value (masked_value_text v) ≡ false
unfolding is_marked_value
masked_value_shown v = ap is_hidden (masked_entry_of v) ∙ shown_by (entry_of v)

-- ---- values as they may be shown

all_or_hidden : (o : Option Entry) → is_hidden o ≡ true → option_map (masked_entry true) o ≡ option_map (masked_entry false) o
all_or_hidden None e = refl
all_or_hidden (Some x) e = rw e refl

none_hidden : (o : Option Entry) → is_hidden o ≡ false → o ≡ option_map (masked_entry false) o
none_hidden None e = refl
none_hidden (Some x) e = rw e refl

pub seen_entry_of : (all : Bool) (v : List ℕ) → entry_of (seen_value all v) ≡ option_map (masked_entry all) (entry_of v)
unfolding is_marked_value
seen_entry_of true v = masked_entry_of v
seen_entry_of false v =
    elim (cases_Bool (is_hidden (entry_of v))) [
      | inl y ↦ rw y (masked_entry_of v ∙ all_or_hidden (entry_of v) y)
      | inr n ↦ rw n (none_hidden (entry_of v) n)
    ]

masked_front : (all : Bool) (o : Option Entry) (h : List Entry) → option_to_list (option_map (masked_entry all) o) ++ masked_list all h ≡ masked_list all (option_to_list o ++ h)
masked_front all None h = refl
masked_front all (Some e) h = refl

pub seen_entries : (all : Bool) (vs : List (List ℕ)) → entries_of (map (seen_value all) vs) ≡ masked_list all (entries_of vs)
seen_entries all [] = refl
seen_entries all (v ∷ vs) =
    ap (λ (o : Option Entry). option_to_list o ++ entries_of (map (seen_value all) vs)) (seen_entry_of all v)
    ∙ ap (λ (h : List Entry). option_to_list (option_map (masked_entry all) (entry_of v)) ++ h) (seen_entries all vs)
    ∙ masked_front all (entry_of v) (entries_of vs)

none_by : (all : Bool) (o : Option Entry) → is_none (option_map (masked_entry all) o) ≡ is_none o
none_by all None = refl
none_by all (Some e) = refl

seen_unreadable : (all : Bool) (v : List ℕ) → is_unreadable (seen_value all v) ≡ is_unreadable v
seen_unreadable all v = ap (λ (o : Option Entry). is_none o) (seen_entry_of all v) ∙ none_by all (entry_of v)

seen_position : (all : Bool) (vs : List (List ℕ)) → position is_unreadable (take 32 (map (seen_value all) vs)) ≡ position is_unreadable (take 32 vs)
seen_position all vs =
    ap (λ (l : List (List ℕ)). position is_unreadable l) (take-map (seen_value all) 32 vs) ∙ position-map is_unreadable (seen_value all) (seen_unreadable all) (take 32 vs)

-- what reading gives, where there are too many or not
abbrev unless_many : Bool → List Entry → Result (List Entry) ℕ
unless_many many h = if many then Err 32 else Ok h

read_if : (all many : Bool) (h g es : List Entry) → g ≡ masked_list all h → unless_many many h ≡ Ok es → unless_many many g ≡ Ok (masked_list all es)
read_if all true h g es same e = absurd cc
read_if all false h g es same e = let is : h ≡ es = cc in ap (λ (l : List Entry). Ok l) (same ∙ ap (λ (l : List Entry). masked_list all l) is)

refused_if : (many : Bool) (h g : List Entry) (at : ℕ) → unless_many many h ≡ Err at → unless_many many g ≡ Err at
refused_if true h g at e = e
refused_if false h g at e = absurd cc

read_from : (all : Bool) (o : Option ℕ) (vs : List (List ℕ)) (es : List Entry) → entries_result_from o vs ≡ Ok es → entries_result_from o (map (seen_value all) vs) ≡ Ok (masked_list all es)
read_from all (Some place) vs es e = absurd cc
read_from all None vs es e = rw (length-map vs (seen_value all)) (read_if all (nat_lt 32 (length vs)) (entries_of vs) (entries_of (map (seen_value all) vs)) es (seen_entries all vs) e)

pub seen_read : (all : Bool) (vs : List (List ℕ)) (es : List Entry) → entries_result vs ≡ Ok es → entries_result (map (seen_value all) vs) ≡ Ok (masked_list all es)
unfolding entries_result
seen_read all vs es e = rw (seen_position all vs) (read_from all (position is_unreadable (take 32 vs)) vs es e)

refused_from : (all : Bool) (o : Option ℕ) (vs : List (List ℕ)) (at : ℕ) → entries_result_from o vs ≡ Err at → entries_result_from o (map (seen_value all) vs) ≡ Err at
refused_from all (Some place) vs at e = e
refused_from all None vs at e = rw (length-map vs (seen_value all)) (refused_if (nat_lt 32 (length vs)) (entries_of vs) (entries_of (map (seen_value all) vs)) at e)

pub seen_refused : (all : Bool) (vs : List (List ℕ)) (at : ℕ) → entries_result vs ≡ Err at → entries_result (map (seen_value all) vs) ≡ Err at
unfolding entries_result
seen_refused all vs at e = rw (seen_position all vs) (refused_from all (position is_unreadable (take 32 vs)) vs at e)
