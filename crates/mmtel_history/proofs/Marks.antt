-- One entry hidden.
use Rattle.std.proofs.Common.{◌≡◌, Bool, true, false, ℕ, zero, suc, ◌+◌, ◌-◌, ◌<◌, List, [], ◌∷◌, ◌++◌, length, Result, Ok, Err, get_or, refl, ap, arith}
use Rattle.std.specs.Prelude.{OnOk, OnErr}
use Rattle.std.proofs.lemmas.List.{length-append}
use Rattle.std.proofs.Math.ListN.{set}
use Rattle.mmtel_history.specs.HistoryInfo.{hidden_entry, list_marked_at, list_hidden_if, last_index, target_entry, with_target, list_after_diversion}
use Rattle.mmtel_history.specs.declared.entries.Entry.{Entry}

pub set_marks : (h : List Entry) (n : ℕ) (e : Entry) → n < length h → e ≡ get_or h n e → set h n (hidden_entry e) ≡ list_marked_at n h
set_marks [] n e lt is = absurd (omega arith)
set_marks (x ∷ h) zero e lt is = ap (λ (y : Entry). hidden_entry y ∷ h) is
set_marks (x ∷ h) (suc n) e lt is = ap (λ (l : List Entry). x ∷ l) (set_marks h n e (omega arith) is)

pub marked_front : (h more : List Entry) (n : ℕ) → n < length h → list_marked_at n (h ++ more) ≡ list_marked_at n h ++ more
marked_front [] more n lt = absurd (omega arith)
marked_front (x ∷ h) more zero lt = refl
marked_front (x ∷ h) more (suc n) lt = ap (λ (l : List Entry). x ∷ l) (marked_front h more n (omega arith))

pub hidden_front : (hide : Bool) (h more : List Entry) (n : ℕ) → n < length h → list_hidden_if hide n (h ++ more) ≡ list_hidden_if hide n h ++ more
hidden_front true h more n lt = marked_front h more n lt
hidden_front false h more n lt = refl

pub length-marked : (h : List Entry) (n : ℕ) → length (list_marked_at n h) ≡ length h
length-marked [] n = refl
length-marked (x ∷ h) zero = refl
length-marked (x ∷ h) (suc n) = ap (λ (l : ℕ). suc l) (length-marked h n)

pub length-hidden : (hide : Bool) (n : ℕ) (h : List Entry) → length (list_hidden_if hide n h) ≡ length h
length-hidden true n h = length-marked h n
length-hidden false n h = refl

pub length-with_target : (h : List Entry) (target : List ℕ) (cause : ℕ) (hide : Bool) → length (with_target h target cause hide) ≡ length h + 1
length-with_target h target cause hide =
    omega (arith, length-append (list_hidden_if hide (length h - 1) h) (target_entry (last_index h) target cause ∷ []), length-hidden hide (length h - 1) h)

pub target_added : (hide : Bool) (h : List Entry) (n : ℕ) (e f : Entry) → n ≡ length h - 1 → 0 < length h → e ≡ f → list_hidden_if hide n (h ++ e ∷ []) ≡ list_hidden_if hide (length h - 1) h ++ f ∷ []
target_added hide h n e f place filled same =
    let within : length h - 1 < length h = omega arith in
    rw (place, same) (hidden_front hide h (f ∷ []) (length h - 1) within)

pub started_is : (h : List Entry) (from target : List ℕ) (cause : ℕ) (hide : Bool) → 0 < length h → list_after_diversion h from target cause hide ≡ with_target h target cause hide
unfolding list_after_diversion
started_is [] from target cause hide filled = absurd (omega arith)
started_is (e ∷ h) from target cause hide filled = refl

pub on_ok_by : {X E : Type 0} {A B : Type 0} (r : Result X E) → OnOk r A → (A → B) → OnOk r B
on_ok_by (Ok x) h f = f h
on_ok_by (Err e) h f = tt

pub on_err_by : {X E : Type 0} {A B : Type 0} (r : Result X E) → OnErr r A → (A → B) → OnErr r B
on_err_by (Ok x) h f = tt
on_err_by (Err e) h f = f h
