-- What marks, diversions and masking preserve.
use Rattle.std.proofs.Common.{◌≡◌, Bool, true, false, cond, ◌||◌, ℕ, zero, suc, ◌+◌, ◌-◌, ◌≤◌, List, [], ◌∷◌, ◌++◌, length, Option, Some, None, refl, sym, ap, ◌∙◌, inl, inr, arith}
use Rattle.std.specs.Prelude.{map, is_some, slice_get}
use Rattle.std.specs.Option.{option_map, option_map_or}
use Rattle.std.proofs.Math.Bool.{or-true}
use Rattle.std.proofs.lemmas.Option.{slice_get-map}
use Rattle.std.proofs.Math.ListN.{set}
use Rattle.std.proofs.lemmas.List.{map-append}
use Rattle.std.proofs.lemmas.List.Sums.{sum_by-append, sum_by-cons}
use Rattle.std.proofs.lemmas.Bool.{cases_Bool}
use Rattle.mmtel_history.specs.EntryUri.{cause_of}
use Rattle.mmtel_history.specs.HistoryInfo.{hidden_entry, list_marked_at, list_hidden_if, last_index, target_entry, with_target, with_first_entry, list_after_diversion}
use Rattle.mmtel_history.specs.HistoryInfo.{list_after_diversions, Diversion, diversions_in, is_empty, masked_uri, masked_entry, masked_list, seen_entry, unmarked_entry}
use Rattle.mmtel_history.specs.declared.entries.Entry.{Entry}
use Rattle.mmtel_history.proofs.Marks.{length-with_target}

-- ---- marks

pub marked_alone : (h : List Entry) (n : ℕ) → map (λ e. e.hidden) (list_marked_at n h) ≡ set (map (λ e. e.hidden) h) n true
marked_alone [] n = refl
marked_alone (e ∷ h) zero = refl
marked_alone (e ∷ h) (suc n) = ap (λ (l : List Bool). e.hidden ∷ l) (marked_alone h n)

pub marked_keeps : (h : List Entry) (n : ℕ) → map unmarked_entry (list_marked_at n h) ≡ map unmarked_entry h
marked_keeps [] n = refl
marked_keeps (e ∷ h) zero = refl
marked_keeps (e ∷ h) (suc n) = ap (λ (l : List Entry). unmarked_entry e ∷ l) (marked_keeps h n)

pub marked_once : (h : List Entry) (n : ℕ) → list_marked_at n (list_marked_at n h) ≡ list_marked_at n h
marked_once [] n = refl
marked_once (e ∷ h) zero = refl
marked_once (e ∷ h) (suc n) = ap (λ (l : List Entry). e ∷ l) (marked_once h n)

-- ---- counts

abbrev shows : Entry → Bool
shows e = is_some e.cause

counted_cons : (e : Entry) (h : List Entry) → diversions_in (e ∷ h) ≡ cond (shows e) 1 0 + diversions_in h
counted_cons e h = sum_by-cons (λ x. cond (shows x) 1 0) e h

pub marked_counts : (h : List Entry) (n : ℕ) → diversions_in (list_marked_at n h) ≡ diversions_in h
marked_counts [] n = refl
marked_counts (e ∷ h) zero = counted_cons (hidden_entry e) h ∙ sym (counted_cons e h)
marked_counts (e ∷ h) (suc n) = counted_cons e (list_marked_at n h) ∙ ap (λ (m : ℕ). cond (shows e) 1 0 + m) (marked_counts h n) ∙ sym (counted_cons e h)

pub hidden_counts : (hide : Bool) (h : List Entry) (n : ℕ) → diversions_in (list_hidden_if hide n h) ≡ diversions_in h
hidden_counts true h n = marked_counts h n
hidden_counts false h n = refl

target_counts : (h : List Entry) (target : List ℕ) (cause : ℕ) (hide : Bool) → diversions_in (with_target h target cause hide) ≡ diversions_in h + 1
target_counts h target cause hide =
    let new : Entry = target_entry (last_index h) target cause in
    let both : diversions_in (with_target h target cause hide) ≡ diversions_in (list_hidden_if hide (length h - 1) h) + diversions_in (target_entry (last_index h) target cause ∷ []) =
    sum_by-append (λ x. cond (shows x) 1 0) (list_hidden_if hide (length h - 1) h) (target_entry (last_index h) target cause ∷ []) in
    let one : diversions_in (target_entry (last_index h) target cause ∷ []) ≡ 1 = refl in
    omega (arith, both, one, hidden_counts hide h (length h - 1))

started_counts : (h : List Entry) (from : List ℕ) → (is_empty h ≡ true → cause_of from ≡ None) → diversions_in (with_first_entry from h) ≡ diversions_in h
started_counts [] from is = let none : cause_of from ≡ None = is refl in rw none refl
started_counts (e ∷ h) from is = refl

pub appended_counts : (h : List Entry) (from target : List ℕ) (cause : ℕ) (hide : Bool) → (is_empty h ≡ true → cause_of from ≡ None) → diversions_in (list_after_diversion h from target cause hide) ≡ diversions_in h + 1
unfolding list_after_diversion
appended_counts h from target cause hide is = target_counts (with_first_entry from h) target cause hide ∙ ap (λ (n : ℕ). n + 1) (started_counts h from is)

is_empty_not : (h : List Entry) (e : Entry) → is_empty (h ++ e ∷ []) ≡ false
is_empty_not [] e = refl
is_empty_not (x ∷ h) e = refl

appended_filled : (h : List Entry) (from target : List ℕ) (cause : ℕ) (hide : Bool) → is_empty (list_after_diversion h from target cause hide) ≡ false
unfolding list_after_diversion
appended_filled h from target cause hide = is_empty_not (list_hidden_if hide (length (with_first_entry from h) - 1) (with_first_entry from h)) (target_entry (last_index (with_first_entry from h)) target cause)

not_both : {A : Type 0} (b : Bool) → b ≡ false → b ≡ true → A
not_both b f t = absurd cc

pub after_counts : (h : List Entry) (from : List ℕ) (ds : List Diversion) → (is_empty h ≡ true → cause_of from ≡ None) → diversions_in (list_after_diversions h from ds) ≡ diversions_in h + length ds
after_counts h from [] is = omega arith
after_counts h from (d ∷ ds) is =
    let more = after_counts (list_after_diversion h from d.target d.cause d.hide_last) from ds (λ t. not_both _ (appended_filled h from d.target d.cause d.hide_last) t) in
    omega (arith, more, appended_counts h from d.target d.cause d.hide_last is)

first_counts : (from : List ℕ) (d : Diversion) → diversions_in (list_after_diversion [] from d.target d.cause d.hide_last) ≡ diversions_in (with_first_entry from []) + 1
unfolding list_after_diversion
first_counts from d = target_counts (with_first_entry from []) d.target d.cause d.hide_last

-- the diversions that the list shows are never fewer than those that are counted
pub after_most : (h : List Entry) (from : List ℕ) (ds : List Diversion) → diversions_in h + length ds ≤ diversions_in (list_after_diversions h from ds)
after_most [] from [] = omega arith
after_most [] from (d ∷ ds) =
    let first : diversions_in (list_after_diversion [] from d.target d.cause d.hide_last) ≡ diversions_in (with_first_entry from []) + 1 = first_counts from d in
    let more = after_counts (list_after_diversion [] from d.target d.cause d.hide_last) from ds (λ t. not_both _ (appended_filled [] from d.target d.cause d.hide_last) t) in
    let none : diversions_in [] ≡ 0 = refl in
    omega (arith, first, more, none)
after_most (e ∷ h) from ds = omega (arith, after_counts (e ∷ h) from ds (λ t. not_both false refl t))

-- ---- masks

seen_masks : (all : Bool) (e : Entry) → masked_entry all e ≡ masked_entry all (seen_entry all e)
seen_masks all e =
    elim (cases_Bool (all || e.hidden)) [
      | inl y ↦ let or : (all || true) ≡ true = or-true all in rw (y, or) refl
      | inr n ↦ rw (n, n) refl
    ]

seen_list : (all : Bool) (h : List Entry) → masked_list all h ≡ masked_list all (map (seen_entry all) h)
seen_list all [] = refl
seen_list all (e ∷ h) = ap (λ (x : Entry). x ∷ masked_list all h) (seen_masks all e) ∙ ap (λ (l : List Entry). masked_entry all (seen_entry all e) ∷ l) (seen_list all h)

pub masked_equal : (all : Bool) (h other : List Entry) → map (seen_entry all) other ≡ map (seen_entry all) h → masked_list all h ≡ masked_list all other
masked_equal all h other same = seen_list all h ∙ ap (λ (l : List Entry). masked_list all l) (sym same) ∙ sym (seen_list all other)

-- what masking keeps of each entry
pub masked_keeps : {B : Type 0} (f : Entry → B) → ((e : Entry) (uri : List ℕ) → f (record e { uri = uri; hidden = false }) ≡ f e) → (all : Bool) (h : List Entry) → map f (masked_list all h) ≡ map f h
masked_keeps f same all [] = refl
masked_keeps f same all (e ∷ h) =
    elim (cases_Bool (all || e.hidden)) [
      | inl y ↦ rw (y, same e (masked_uri e.cause), masked_keeps f same all h) refl
      | inr n ↦ rw (n, masked_keeps f same all h) refl
    ]

-- the entry with the anonymous URI
abbrev nobody : Entry → Entry
nobody e = record e { uri = masked_uri e.cause; hidden = false }

once_entry : (all : Bool) (e : Entry) → masked_entry all (masked_entry all e) ≡ masked_entry all e
once_entry true e = refl
once_entry false e =
    elim (cases_Bool e.hidden) [
      | inl y ↦ rw y refl
      | inr n ↦ rw n refl
    ]

pub masked_once : (all : Bool) (h : List Entry) → masked_list all (masked_list all h) ≡ masked_list all h
masked_once all [] = refl
masked_once all (e ∷ h) = ap (λ (x : Entry). x ∷ masked_list all (masked_list all h)) (once_entry all e) ∙ ap (λ (l : List Entry). masked_entry all e ∷ l) (masked_once all h)

hidden_masked : (all : Bool) (e : Entry) → masked_entry all (hidden_entry e) ≡ nobody e
hidden_masked true e = refl
hidden_masked false e = refl

nobody_masked : (all : Bool) (e : Entry) → nobody (masked_entry all e) ≡ nobody e
nobody_masked all e =
    elim (cases_Bool (all || e.hidden)) [
      | inl y ↦ rw y refl
      | inr n ↦ rw n refl
    ]

-- a marked entry, masked, depends only on the masked form of the entry
marks_equal : (all : Bool) (h : List Entry) (n : ℕ) → masked_list all (list_marked_at n h) ≡ masked_list all (list_marked_at n (masked_list all h))
marks_equal all [] n = refl
marks_equal all (e ∷ h) zero =
    ap (λ (x : Entry). x ∷ masked_list all h) (hidden_masked all e ∙ sym (nobody_masked all e) ∙ sym (hidden_masked all (masked_entry all e)))
    ∙ ap (λ (l : List Entry). masked_entry all (hidden_entry (masked_entry all e)) ∷ l) (sym (masked_once all h))
marks_equal all (e ∷ h) (suc n) =
    ap (λ (x : Entry). x ∷ masked_list all (list_marked_at n h)) (sym (once_entry all e)) ∙ ap (λ (l : List Entry). masked_entry all (masked_entry all e) ∷ l) (marks_equal all h n)

hides_equal : (all hide : Bool) (h : List Entry) (n : ℕ) → masked_list all (list_hidden_if hide n h) ≡ masked_list all (list_hidden_if hide n (masked_list all h))
hides_equal all true h n = marks_equal all h n
hides_equal all false h n = sym (masked_once all h)

-- lists with equal masked forms have equal masked forms after a mark
pub hides_same : (all hide : Bool) (n : ℕ) (h g : List Entry) → masked_list all h ≡ masked_list all g → masked_list all (list_hidden_if hide n h) ≡ masked_list all (list_hidden_if hide n g)
hides_same all hide n h g same = hides_equal all hide h n ∙ ap (λ (l : List Entry). masked_list all (list_hidden_if hide n l)) same ∙ sym (hides_equal all hide g n)

pub length-masked : (all : Bool) (h : List Entry) → length (masked_list all h) ≡ length h
length-masked all [] = refl
length-masked all (e ∷ h) = ap (λ (n : ℕ). suc n) (length-masked all h)

index_entry : (all : Bool) (e : Entry) → (masked_entry all e).index ≡ e.index
index_entry all e =
    elim (cases_Bool (all || e.hidden)) [
      | inl y ↦ rw y refl
      | inr n ↦ rw n refl
    ]

cause_entry : (all : Bool) (e : Entry) → (masked_entry all e).cause ≡ e.cause
cause_entry all e =
    elim (cases_Bool (all || e.hidden)) [
      | inl y ↦ rw y refl
      | inr n ↦ rw n refl
    ]

pub masked_counts : (all : Bool) (h : List Entry) → diversions_in (masked_list all h) ≡ diversions_in h
masked_counts all [] = refl
masked_counts all (e ∷ h) =
    counted_cons (masked_entry all e) (masked_list all h)
    ∙ ap (λ (c : Option ℕ). cond (is_some c) 1 0 + diversions_in (masked_list all h)) (cause_entry all e)
    ∙ ap (λ (m : ℕ). cond (shows e) 1 0 + m) (masked_counts all h)
    ∙ sym (counted_cons e h)

index_by : (all : Bool) (o : Option Entry) → option_map_or (λ e. e.index) (option_map (masked_entry all) o) [] ≡ option_map_or (λ e. e.index) o []
index_by all None = refl
index_by all (Some e) = index_entry all e

index_masked : (all : Bool) (h : List Entry) → last_index (masked_list all h) ≡ last_index h
index_masked all h =
    rw (length-masked all h, slice_get-map (masked_entry all) h (length h - 1)) (index_by all (slice_get h (length h - 1)))

target_equal : (all : Bool) (h : List Entry) (target : List ℕ) (cause : ℕ) (hide : Bool) → masked_list all (with_target h target cause hide) ≡ masked_list all (with_target (masked_list all h) target cause hide)
target_equal all h target cause hide =
    let parts : (g : List Entry) (n : ℕ) (i : List ℕ) →
    masked_list all (list_hidden_if hide n g ++ target_entry i target cause ∷ []) ≡ masked_list all (list_hidden_if hide n g) ++ masked_list all (target_entry i target cause ∷ []) =
    λ g n i. map-append (masked_entry all) (list_hidden_if hide n g) (target_entry i target cause ∷ []) in
    parts h (length h - 1) (last_index h)
    ∙ ap (λ (l : List Entry). l ++ masked_list all (target_entry (last_index h) target cause ∷ [])) (hides_equal all hide h (length h - 1))
    ∙ sym (parts (masked_list all h) (length h - 1) (last_index h))
    ∙ ap (λ (n : ℕ). masked_list all (list_hidden_if hide (n - 1) (masked_list all h) ++ target_entry (last_index h) target cause ∷ [])) (sym (length-masked all h))
    ∙ ap (λ (i : List ℕ). masked_list all (list_hidden_if hide (length (masked_list all h) - 1) (masked_list all h) ++ target_entry i target cause ∷ [])) (sym (index_masked all h))

abbrev appended_from : List ℕ → List ℕ → ℕ → Bool → List Entry → List Entry
appended_from from target cause hide h = list_after_diversion h from target cause hide

pub appended_masked : (all : Bool) (h : List Entry) (from target : List ℕ) (cause : ℕ) (hide : Bool) →
    masked_list all (list_after_diversion h from target cause hide) ≡ masked_list all (list_after_diversion (masked_list all h) from target cause hide)
unfolding list_after_diversion
appended_masked all [] from target cause hide = refl
appended_masked all (e ∷ h) from target cause hide = target_equal all (e ∷ h) target cause hide

pub appended_equal : (all : Bool) (h other : List Entry) (from target : List ℕ) (cause : ℕ) (hide : Bool) → masked_list all other ≡ masked_list all h →
    masked_list all (list_after_diversion h from target cause hide) ≡ masked_list all (list_after_diversion other from target cause hide)
appended_equal all h other from target cause hide same =
    appended_masked all h from target cause hide ∙ ap (λ (l : List Entry). masked_list all (list_after_diversion l from target cause hide)) (sym same) ∙ sym (appended_masked all other from target cause hide)

pub appended_len : (h : List Entry) (from target : List ℕ) (cause : ℕ) (hide : Bool) → length (list_after_diversion h from target cause hide) ≡ cond (is_empty h) 2 (length h + 1)
unfolding list_after_diversion
appended_len [] from target cause hide = length-with_target (with_first_entry from []) target cause hide
appended_len (e ∷ h) from target cause hide = length-with_target (e ∷ h) target cause hide
