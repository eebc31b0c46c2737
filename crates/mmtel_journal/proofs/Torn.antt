-- What a torn write after a gate, or of a gate, may leave; and the bytes there once it is done.
use Rattle.std.proofs.Common.{◌≡◌, inl, inr, ℕ, suc, ◌+◌, ◌<◌, ◌≤◌, List, [], ◌∷◌, ◌++◌, length, get_or, take, drop, refl, sym, ◌∙◌, ap, subst, arith, append_assoc}
use Rattle.std.proofs.Common.{length-append, length-drop}
use Rattle.std.proofs.lemmas.List.{take_at, drop_at, drop_more, get_or-drop, get_or-take}
use Rattle.mmtel_journal.specs.Disks.{Holds, Torn, Follows, Leaves, Only}
use Rattle.mmtel_journal.specs.Journal.{IsJournal}
use Rattle.mmtel_journal.specs.Gates.{Closed, Gated, Staged}

-- what agrees with xs for the length of xs begins with them
pub begins : (xs c : List ℕ) → length xs ≤ length c → ((i : ℕ) → i < length xs → get_or c i 0 ≡ get_or xs i 0) → c ≡ xs ++ drop (length xs) c
begins [] c long same = refl
begins (x ∷ xs) [] long same = absurd (omega (arith, long))
begins (x ∷ xs) (y ∷ c) long same =
    let first : y ≡ x = same 0 (omega arith) in
    let others : c ≡ xs ++ drop (length xs) c = begins xs c (omega (arith, long)) (λ i lt. same (suc i) (omega (arith, lt))) in
    λ i. first i ∷ others i

-- a write after the first bytes leaves them
pub front_stays : (front rest c : List ℕ) (at n : ℕ) → length front ≤ at → Torn at n (front ++ rest) c → c ≡ front ++ drop (length front) c
front_stays front rest c at n le torn =
    let size = length-append front rest in
    begins front c (omega (arith, size, torn.no_shorter)) (λ i lt.
    let here : get_or front i 0 ≡ get_or (front ++ rest) i 0 = ap (λ (l : List ℕ). get_or l i 0) (sym (take_at front rest (length front) refl))
    ∙ get_or-take (length front) (front ++ rest) i 0 lt in
    torn.stays i (omega (arith, size, lt)) (inl (omega (arith, lt, le))) ∙ sym here)

-- a write after a gate leaves the gate
pub behind : (front : List ℕ) (gate : ℕ) (rest c : List ℕ) (n : ℕ) → Torn (length front + 1) n (front ++ gate ∷ rest) c → (more : List ℕ) × (c ≡ front ++ gate ∷ more)
behind front gate rest c n torn =
    let xs : List ℕ = front ++ gate ∷ [] in
    let size : length xs ≡ length front + 1 = omega (arith, length-append front (gate ∷ [])) in
    let whole : front ++ gate ∷ rest ≡ xs ++ rest = sym (append_assoc front (gate ∷ []) rest) in
    let split = front_stays xs rest c (length front + 1) n (omega (arith, size)) (subst (λ (l : List ℕ). Torn (length front + 1) n l c) whole torn) in
    (drop (length xs) c, split ∙ append_assoc front (gate ∷ []) (drop (length xs) c))

-- a write of a gate leaves what is around it, and perhaps more at the end
pub around : (front : List ℕ) (gate : ℕ) (rest c : List ℕ) → Torn (length front) 1 (front ++ gate ∷ rest) c → (g : ℕ) × (more : List ℕ) × (c ≡ front ++ g ∷ (rest ++ more))
around front gate rest c torn =
    let n = length front in
    let size : length (front ++ gate ∷ rest) ≡ n + (1 + length rest) = omega (arith, length-append front (gate ∷ rest)) in
    let g = get_or c n 0 in
    let r : List ℕ = drop (n + 1) c in
    let old_rest : drop (n + 1) (front ++ gate ∷ rest) ≡ rest = ap (λ (l : List ℕ). drop (n + 1) l) (sym (append_assoc front (gate ∷ []) rest))
    ∙ drop_at (front ++ gate ∷ []) rest (n + 1) (omega (arith, length-append front (gate ∷ []))) in
    let long : length rest ≤ length r = omega (arith, length-drop (n + 1) c, size, torn.no_shorter) in
    let ends : r ≡ rest ++ drop (length rest) r = begins rest r long (λ i lt.
    let mine : get_or r i 0 ≡ get_or c (n + 1 + i) 0 = get_or-drop (n + 1) c i 0 in
    let its : get_or (front ++ gate ∷ rest) (n + 1 + i) 0 ≡ get_or rest i 0 = sym (get_or-drop (n + 1) (front ++ gate ∷ rest) i 0) ∙ ap (λ (l : List ℕ). get_or l i 0) old_rest in
    mine ∙ torn.stays (n + 1 + i) (omega (arith, size, lt)) (inr (omega arith)) ∙ its) in
    let split : c ≡ front ++ drop n c = front_stays front (gate ∷ rest) c n 1 (omega arith) torn in
    let cell : drop n c ≡ g ∷ r = drop_more c n 0 (omega (arith, size, torn.no_shorter)) in
    (g, drop (length rest) r, split ∙ ap (λ (l : List ℕ). front ++ l) (cell ∙ ap (λ (l : List ℕ). g ∷ l) ends))

-- the bytes after a gate after a write there that was done
pub written_behind : (front : List ℕ) (gate : ℕ) (rest bytes c : List ℕ) → Holds (front ++ gate ∷ rest) (length front + 1) bytes c → Gated front gate bytes c
written_behind front gate rest bytes c holds =
    let n = length front + 1 in
    let before : take n (front ++ gate ∷ rest) ≡ front ++ gate ∷ [] = ap (λ (l : List ℕ). take n l) (sym (append_assoc front (gate ∷ []) rest))
    ∙ take_at (front ++ gate ∷ []) rest n (omega (arith, length-append front (gate ∷ []))) in
    let tail : List ℕ = drop (n + length bytes) (front ++ gate ∷ rest) in
    (tail, holds ∙ ap (λ (l : List ℕ). l ++ bytes ++ tail) before ∙ append_assoc (front ++ gate ∷ []) bytes tail ∙ append_assoc front (gate ∷ []) (bytes ++ tail))

-- the gate after a write of it that was done
pub written_gate : (front : List ℕ) (gate value : ℕ) (rest c : List ℕ) → Holds (front ++ gate ∷ rest) (length front) (value ∷ []) c → c ≡ front ++ value ∷ rest
written_gate front gate value rest c holds =
    let n = length front in
    let before : take n (front ++ gate ∷ rest) ≡ front = take_at front (gate ∷ rest) n refl in
    let after : drop (n + 1) (front ++ gate ∷ rest) ≡ rest = ap (λ (l : List ℕ). drop (n + 1) l) (sym (append_assoc front (gate ∷ []) rest))
    ∙ drop_at (front ++ gate ∷ []) rest (n + 1) (omega (arith, length-append front (gate ∷ []))) in
    holds ∙ ap (λ (l : List ℕ). l ++ (value ∷ []) ++ drop (n + 1) (front ++ gate ∷ rest)) before ∙ ap (λ (l : List ℕ). front ++ (value ∷ []) ++ l) after
    ∙ append_assoc front (value ∷ []) rest

-- ---- the images

pub stage_stop : (front : List ℕ) (gate n : ℕ) (old new : List ℕ → Type 0) → gate ≡ length front → Leaves old (Closed front) → Follows (Torn (gate + 1) n) old new
    → Leaves new (Closed front)
stage_stop front gate n old new is closed follows c left =
    let from = follows c left in
    let was = closed from.0 from.1 in
    let torn : Torn (length front + 1) n (front ++ was.0 ∷ was.1) c = subst (λ k. Torn (k + 1) n (front ++ was.0 ∷ was.1) c) is
    (subst (λ (d : List ℕ). Torn (gate + 1) n d c) was.3 from.2) in
    let now = behind front was.0 was.1 c n torn in
    (was.0, now.0, was.2, now.1)

pub stage_done : (front : List ℕ) (gate : ℕ) (bytes shown after : List ℕ) (new : List ℕ → Type 0) → gate ≡ length front → Closed front shown
    → (gate + 1 ≤ length shown → Holds shown (gate + 1) bytes after) → Only after new → Leaves new (Staged front bytes)
stage_done front gate bytes shown after new is was holds only c left =
    let size : length shown ≡ length front + (1 + length was.1) = omega (arith, ap length was.3, length-append front (was.0 ∷ was.1)) in
    let held : Holds (front ++ was.0 ∷ was.1) (length front + 1) bytes after = subst (λ k. Holds (front ++ was.0 ∷ was.1) (k + 1) bytes after) is
    (subst (λ (d : List ℕ). Holds d (gate + 1) bytes after) was.3 (holds (omega (arith, is, size)))) in
    subst (Staged front bytes) (sym (only c left)) (was.0, written_behind front was.0 was.1 bytes after held)

pub gate_stop : (front body : List ℕ) (gate : ℕ) (old new : List ℕ → Type 0) → gate ≡ length front → Leaves old (Staged front body) → Follows (Torn gate 1) old new
    → Leaves new (Staged front body)
gate_stop front body gate old new is staged follows c left =
    let from = follows c left in
    let was = staged from.0 from.1 in
    let torn : Torn (length front) 1 (front ++ was.0 ∷ (body ++ was.1.0)) c = subst (λ k. Torn k 1 (front ++ was.0 ∷ (body ++ was.1.0)) c) is
    (subst (λ (d : List ℕ). Torn gate 1 d c) was.1.1 from.2) in
    let now = around front was.0 (body ++ was.1.0) c torn in
    (now.0, (was.1.0 ++ now.1, now.2 ∙ ap (λ (l : List ℕ). front ++ now.0 ∷ l) (append_assoc body was.1.0 now.1)))

pub gate_done : (front body : List ℕ) (gate value : ℕ) (shown after : List ℕ) (new : List ℕ → Type 0) → gate ≡ length front → Staged front body shown
    → (gate ≤ length shown → Holds shown gate (value ∷ []) after) → Only after new → Leaves new (Gated front value body)
gate_done front body gate value shown after new is was holds only c left =
    let size : length shown ≡ length front + (1 + length (body ++ was.1.0)) = omega (arith, ap length was.1.1, length-append front (was.0 ∷ (body ++ was.1.0))) in
    let held : Holds (front ++ was.0 ∷ (body ++ was.1.0)) (length front) (value ∷ []) after = subst (λ k. Holds (front ++ was.0 ∷ (body ++ was.1.0)) k (value ∷ []) after) is
    (subst (λ (d : List ℕ). Holds d gate (value ∷ []) after) was.1.1 (holds (omega (arith, is, size)))) in
    (was.1.0, only c left ∙ written_gate front was.0 value (body ++ was.1.0) after held)

-- one closed gate on an empty disk
pub started_empty : (shown after : List ℕ) (new : List ℕ → Type 0) → shown ≡ [] → (0 ≤ length shown → Holds shown 0 (0 ∷ []) after) → Only after new → Leaves new (IsJournal [])
started_empty shown after new none holds only c left =
    let held : Holds [] 0 (0 ∷ []) after = subst (λ (d : List ℕ). Holds d 0 (0 ∷ []) after) none (holds (omega arith)) in
    (0, [], (λ e. absurd (omega (arith, e))), only c left ∙ held)
