-- Tables as lists of calls with rising numbers: the first that satisfies a predicate changes, and is found by its number.
use Rattle.std.proofs.Common.{◌≡◌, ◌≢◌, ℕ, zero, suc, ◌+◌, ◌<◌, ◌≤◌, Bool, true, false, List, [], ◌∷◌}
use Rattle.std.proofs.Common.{◌++◌, Some, None, inl, inr, not, length, refl, ap, sym, cond, subst, ◌∙◌, arith}
use Rattle.std.proofs.lemmas.Bool.Decides.{nat_tests}
use Rattle.std.proofs.lemmas.List.Folds.{find_at}
use Rattle.std.proofs.lemmas.Option.{none-some, slice_get_cases}
use Rattle.std.specs.Prelude.{if◌then◌else◌, find, nat_lt, position, remove, slice_get, slice_set}
use Rattle.std.specs.List.{position_or_len}
use Rattle.mmtel_b2bua.specs.Entries.{is_numbered}
use Rattle.mmtel_b2bua.specs.declared.entries.Entry.{Entry}
use Rattle.mmtel_b2bua_theorems.specs.TracesOfTables.{number_of}

-- ---- the first that satisfies it, by its index

pub data Finds (p : Entry → Bool) (es : List Entry) : Type 0 where
  Found : (place : ℕ) → (e : Entry) → position p es ≡ Some place → position_or_len p es ≡ place → slice_get es place ≡ Some e → find p es ≡ Some e → Finds p es
  Lost : position p es ≡ None → find p es ≡ None → Finds p es

within : (n m : ℕ) → n < m → nat_lt n m ≡ true
within n m e = grind (arith, nat_tests)

past : (n m : ℕ) → m ≤ n → nat_lt n m ≡ false
past n m e = grind (arith, nat_tests)

pub finds : (p : Entry → Bool) (es : List Entry) → Finds p es
finds p es =
    let k = position_or_len p es in
    elim ((slice_get_cases es k).1) [
      | inl found ↦ Found k found.0 (ap (λ b. cond b (Some k) None) (within k (length es) found.1)) refl found.2 (find_at p es ∙ found.2)
      | inr lost ↦ Lost (ap (λ b. cond b (Some k) None) (past k (length es) lost.0)) (find_at p es ∙ lost.1)
    ]

-- ---- the first that satisfies it changes

-- what remains of a call that is now this one
abbrev pub left : (gone : Entry → Bool) → Entry → List Entry
left gone e = if gone e then [] else e ∷ []

abbrev pub changed : (p : Entry → Bool) (f : Entry → List Entry) → List Entry → List Entry
changed p f [] = []
changed p f (e ∷ es) = cond (p e) (f e ++ es) (e ∷ changed p f es)

-- the call at this index is replaced by this one, and is removed if it is gone
abbrev pub put : (gone : Entry → Bool) → (place : ℕ) → Entry → List Entry → List Entry
put gone place e es = if gone e then remove (slice_set es place e) place else slice_set es place e

put-now : (b : Bool) (x z : Entry) (es : List Entry) → (if b then remove (slice_set (x ∷ es) 0 z) 0 else slice_set (x ∷ es) 0 z) ≡ (if b then [] else z ∷ []) ++ es
put-now true x z es = refl
put-now false x z es = refl

put-later : (b : Bool) (k : ℕ) (x z : Entry) (es : List Entry) →
    (if b then remove (slice_set (x ∷ es) (suc k) z) (suc k) else slice_set (x ∷ es) (suc k) z) ≡ x ∷ (if b then remove (slice_set es k z) k else slice_set es k z)
put-later true k x z es = refl
put-later false k x z es = refl

pub put-is : (gone : Entry → Bool) (p : Entry → Bool) (y : Entry → Entry) (es : List Entry) (k : ℕ) (e : Entry) → position_or_len p es ≡ k → slice_get es k ≡ Some e →
    put gone k (y e) es ≡ changed p (λ x. left gone (y x)) es
put-is gone p y [] k e at is = absurd (none-some e is)
put-is gone p y (x ∷ es) k e at is = go (λ k at is. put-is gone p y es k e at is) (p x) k at is
  where
    go : ((k : ℕ) → position_or_len p es ≡ k → slice_get es k ≡ Some e → put gone k (y e) es ≡ changed p (λ x. left gone (y x)) es) → (b : Bool) (k : ℕ) →
        cond (not b) (1 + position_or_len p es) 0 ≡ k → slice_get (x ∷ es) k ≡ Some e →
        put gone k (y e) (x ∷ es) ≡ cond b (left gone (y x) ++ es) (x ∷ changed p (λ x. left gone (y x)) es)
    go later true zero at is =
        let same : x ≡ e = cc in
        subst (λ z. put gone 0 (y z) (x ∷ es) ≡ left gone (y x) ++ es) same (put-now (gone (y x)) x (y x) es)
    go later true (suc k) at is = absurd (let e : 0 ≡ suc k = at in cc)
    go later false zero at is = absurd (let e : 1 + position_or_len p es ≡ 0 = at in omega arith)
    go later false (suc k) at is =
        let place : position_or_len p es ≡ k = omega arith in
        put-later (gone (y e)) k x (y e) es ∙ ap (λ l. x ∷ l) (later k place is)

-- ---- rising numbers

abbrev pub Rising : (low : ℕ) → List Entry → (high : ℕ) → Type 0
Rising low [] high = low ≤ high
Rising low (e ∷ es) high = (low < number_of e) × Rising (number_of e) es high

lowered : (low lower high : ℕ) (es : List Entry) → lower ≤ low → Rising low es high → Rising lower es high
lowered low lower high [] e r = omega arith
lowered low lower high (x ∷ es) e r = (let h = r.0 in omega arith, r.1)

pub has-number : (n : ℕ) (e : Entry) → number_of e ≡ n → is_numbered n e ≡ true
unfolding is_numbered
has-number n e h = grind (arith, nat_tests)

pub has-other : (n : ℕ) (e : Entry) → number_of e ≢ n → is_numbered n e ≡ false
unfolding is_numbered
has-other n e h = grind (arith, nat_tests)

-- none has the number of one before it
none-below : (low high n : ℕ) (es : List Entry) → n ≤ low → Rising low es high → find (is_numbered n) es ≡ None
none-below low high n [] e r = refl
none-below low high n (x ∷ es) e r =
    let h = r.0 in
    ap (λ b. cond b (Some x) (find (is_numbered n) es)) (has-other n x (omega arith)) ∙ none-below (number_of x) high n es (omega arith) r.1

bounded : (low high : ℕ) (es : List Entry) → Rising low es high → low ≤ high
bounded low high [] r = r
bounded low high (x ∷ es) r = let h = r.0 in let g = bounded (number_of x) high es r.1 in omega arith

-- nor a number greater than all
pub none-above : (low high n : ℕ) (es : List Entry) → high < n → Rising low es high → find (is_numbered n) es ≡ None
none-above low high n [] e r = refl
none-above low high n (x ∷ es) e r =
    let h = bounded (number_of x) high es r.1 in
    ap (λ b. cond b (Some x) (find (is_numbered n) es)) (has-other n x (omega arith)) ∙ none-above (number_of x) high n es e r.1

-- one that is found has a number above the lower bound
above : (p : Entry → Bool) (low high : ℕ) (es : List Entry) (e : Entry) → Rising low es high → find p es ≡ Some e → low < number_of e
above p low high [] e r h = absurd (none-some e h)
above p low high (x ∷ es) e r h = go (λ h. above p (number_of x) high es e r.1 h) (p x) h
  where
    go : (find p es ≡ Some e → number_of x < number_of e) → (b : Bool) → cond b (Some x) (find p es) ≡ Some e → low < number_of e
    go later true h = let same : x ≡ e = cc in subst (λ z. low < number_of z) same r.0
    go later false h = let g = later h in let l = r.0 in omega arith

-- it is found by its number too
pub found-by-number : (p : Entry → Bool) (low high : ℕ) (es : List Entry) (e : Entry) → Rising low es high → find p es ≡ Some e → find (is_numbered (number_of e)) es ≡ Some e
found-by-number p low high [] e r h = absurd (none-some e h)
found-by-number p low high (x ∷ es) e r h = go (λ h. found-by-number p (number_of x) high es e r.1 h) (p x) h
  where
    go : (find p es ≡ Some e → find (is_numbered (number_of e)) es ≡ Some e) → (b : Bool) → cond b (Some x) (find p es) ≡ Some e →
        find (is_numbered (number_of e)) (x ∷ es) ≡ Some e
    go later true h =
        let same : x ≡ e = cc in
        ap (λ b. cond b (Some x) (find (is_numbered (number_of e)) es)) (has-number (number_of e) x (ap number_of same)) ∙ h
    go later false h =
        let g = above p (number_of x) high es e r.1 h in
        ap (λ b. cond b (Some x) (find (is_numbered (number_of e)) es)) (has-other (number_of e) x (omega arith)) ∙ later h

-- ---- what a change does

-- where none satisfies it nothing changes
pub changed-none : (p : Entry → Bool) (f : Entry → List Entry) (es : List Entry) → find p es ≡ None → changed p f es ≡ es
changed-none p f [] h = refl
changed-none p f (x ∷ es) h = go (changed-none p f es) (p x) h
  where
    go : (find p es ≡ None → changed p f es ≡ es) → (b : Bool) → cond b (Some x) (find p es) ≡ None → cond b (f x ++ es) (x ∷ changed p f es) ≡ x ∷ es
    go later true h = absurd (none-some x (sym h))
    go later false h = ap (λ l. x ∷ l) (later h)

-- numbers rise as before
still-rising : (gone : Entry → Bool) (x z : Entry) (low high : ℕ) (es : List Entry) → number_of z ≡ number_of x → Rising low (x ∷ es) high → Rising low (left gone z ++ es) high
still-rising gone x z low high es same r = go (gone z)
  where
    go : (b : Bool) → Rising low ((if b then [] else z ∷ []) ++ es) high
    go true = lowered (number_of x) low high es (let h = r.0 in omega arith) r.1
    go false = (let h = r.0 in omega arith, subst (λ n. Rising n es high) (sym same) r.1)

pub changed-rising : (gone p : Entry → Bool) (y : Entry → Entry) (low high : ℕ) (es : List Entry) (e : Entry) → find p es ≡ Some e → number_of (y e) ≡ number_of e →
    Rising low es high →
    Rising low (changed p (λ x. left gone (y x)) es) high
changed-rising gone p y low high [] e h same r = absurd (none-some e h)
changed-rising gone p y low high (x ∷ es) e h same r = go (λ h. changed-rising gone p y (number_of x) high es e h same r.1) (p x) h
  where
    go : (find p es ≡ Some e → Rising (number_of x) (changed p (λ x. left gone (y x)) es) high) → (b : Bool) → cond b (Some x) (find p es) ≡ Some e →
        Rising low (cond b (left gone (y x) ++ es) (x ∷ changed p (λ x. left gone (y x)) es)) high
    go later true h = let is : x ≡ e = cc in still-rising gone x (y x) low high es (subst (λ z. number_of (y z) ≡ number_of z) (sym is) same) r
    go later false h = (r.0, later h)

-- the call of the number that changed
pub changed-found : (gone p : Entry → Bool) (y : Entry → Entry) (low high : ℕ) (es : List Entry) (e : Entry) → find p es ≡ Some e → number_of (y e) ≡ number_of e →
    Rising low es high →
    find (is_numbered (number_of e)) (changed p (λ x. left gone (y x)) es) ≡ (if gone (y e) then None else Some (y e))
changed-found gone p y low high [] e h same r = absurd (none-some e h)
changed-found gone p y low high (x ∷ es) e h same r = go (λ h. changed-found gone p y (number_of x) high es e h same r.1) (p x) h
  where
    at : (b : Bool) (z : Entry) → number_of z ≡ number_of x → find (is_numbered (number_of x)) ((if b then [] else z ∷ []) ++ es) ≡ (if b then None else Some z)
    at true z is = none-below (number_of x) high (number_of x) es (omega arith) r.1
    at false z is = ap (λ b. cond b (Some z) (find (is_numbered (number_of x)) es)) (has-number (number_of x) z is)

    go : (find p es ≡ Some e → find (is_numbered (number_of e)) (changed p (λ x. left gone (y x)) es) ≡ (if gone (y e) then None else Some (y e))) → (b : Bool) →
        cond b (Some x) (find p es) ≡ Some e →
        find (is_numbered (number_of e)) (cond b (left gone (y x) ++ es) (x ∷ changed p (λ x. left gone (y x)) es)) ≡ (if gone (y e) then None else Some (y e))
    go later true h =
        let is : x ≡ e = cc in
        subst (λ z. find (is_numbered (number_of z)) (left gone (y x) ++ es) ≡ (if gone (y z) then None else Some (y z))) is
        (at (gone (y x)) (y x) (subst (λ z. number_of (y z) ≡ number_of z) (sym is) same))
    go later false h =
        let g = above p (number_of x) high es e r.1 h in
        ap (λ b. cond b (Some x) (find (is_numbered (number_of e)) (changed p (λ x. left gone (y x)) es))) (has-other (number_of e) x (omega arith))
        ∙ later h

-- the calls of other numbers
pub changed-others : (gone p : Entry → Bool) (y : Entry → Entry) (n : ℕ) (es : List Entry) (e : Entry) → find p es ≡ Some e → number_of (y e) ≡ number_of e → number_of e ≢ n →
    find (is_numbered n) (changed p (λ x. left gone (y x)) es) ≡ find (is_numbered n) es
changed-others gone p y n [] e h same other = refl
changed-others gone p y n (x ∷ es) e h same other = go (λ h. changed-others gone p y n es e h same other) (p x) h
  where
    at : (b : Bool) (z : Entry) → number_of z ≢ n → find (is_numbered n) ((if b then [] else z ∷ []) ++ es) ≡ find (is_numbered n) es
    at true z is = refl
    at false z is = ap (λ b. cond b (Some z) (find (is_numbered n) es)) (has-other n z is)

    go : (find p es ≡ Some e → find (is_numbered n) (changed p (λ x. left gone (y x)) es) ≡ find (is_numbered n) es) →
        (b : Bool) → cond b (Some x) (find p es) ≡ Some e → find (is_numbered n) (cond b (left gone (y x) ++ es) (x ∷ changed p (λ x. left gone (y x)) es))
        ≡ find (is_numbered n) (x ∷ es)
    go later true h =
        let is : x ≡ e = cc in
        at (gone (y x)) (y x) (subst (λ z. number_of (y z) ≢ n) (sym is) (subst (λ m. m ≢ n) (sym same) other))
        ∙ sym (ap (λ b. cond b (Some x) (find (is_numbered n) es)) (has-other n x (subst (λ z. number_of z ≢ n) (sym is) other)))
    go later false h = ap (λ l. cond (is_numbered n x) (Some x) l) (later h)

-- ---- one more

pub more-rising : (low high next : ℕ) (es more : List Entry) → Rising low es high → Rising high more next → Rising low (es ++ more) next
more-rising low high next [] more r m = lowered high low next more r m
more-rising low high next (x ∷ es) more r m = (r.0, more-rising (number_of x) high next es more r.1 m)

pub more-found : (n : ℕ) (es more : List Entry) → find (is_numbered n) es ≡ None → find (is_numbered n) (es ++ more) ≡ find (is_numbered n) more
more-found n [] more h = refl
more-found n (x ∷ es) more h = go (more-found n es more) (is_numbered n x) h
  where
    go : (find (is_numbered n) es ≡ None → find (is_numbered n) (es ++ more) ≡ find (is_numbered n) more) → (b : Bool) → cond b (Some x) (find (is_numbered n) es) ≡ None →
        cond b (Some x) (find (is_numbered n) (es ++ more)) ≡ find (is_numbered n) more
    go later true h = absurd (none-some x (sym h))
    go later false h = later h

pub more-others : (n : ℕ) (es more : List Entry) → find (is_numbered n) more ≡ None → find (is_numbered n) (es ++ more) ≡ find (is_numbered n) es
more-others n [] more h = h
more-others n (x ∷ es) more h = ap (λ l. cond (is_numbered n x) (Some x) l) (more-others n es more h)

-- the numbers of those that are found are not greater than all
pub found-bounded : (p : Entry → Bool) (low high : ℕ) (es : List Entry) (e : Entry) → Rising low es high → find p es ≡ Some e → number_of e ≤ high
found-bounded p low high [] e r h = absurd (none-some e h)
found-bounded p low high (x ∷ es) e r h = go (found-bounded p (number_of x) high es e r.1) (p x) h
  where
    go : (find p es ≡ Some e → number_of e ≤ high) → (b : Bool) → cond b (Some x) (find p es) ≡ Some e → number_of e ≤ high
    go later true h = let same : x ≡ e = cc in subst (λ z. number_of z ≤ high) same (bounded (number_of x) high es r.1)
    go later false h = later h

-- ---- one that may have left

pub left-rising : (gone : Entry → Bool) (low high : ℕ) (e : Entry) → low < number_of e → number_of e ≤ high → Rising low (left gone e) high
left-rising gone low high e l h = go (gone e)
  where
    go : (b : Bool) → Rising low (if b then [] else e ∷ []) high
    go true = omega arith
    go false = (l, h)

pub left-found : (gone : Entry → Bool) (n : ℕ) (e : Entry) → number_of e ≡ n → find (is_numbered n) (left gone e) ≡ (if gone e then None else Some e)
left-found gone n e h = go (gone e)
  where
    go : (b : Bool) → find (is_numbered n) (if b then [] else e ∷ []) ≡ (if b then None else Some e)
    go true = refl
    go false = ap (λ b. cond b (Some e) None) (has-number n e h)

pub left-others : (gone : Entry → Bool) (n : ℕ) (e : Entry) → number_of e ≢ n → find (is_numbered n) (left gone e) ≡ None
left-others gone n e h = go (gone e)
  where
    go : (b : Bool) → find (is_numbered n) (if b then [] else e ∷ []) ≡ None
    go true = refl
    go false = ap (λ b. cond b (Some e) None) (has-other n e h)
