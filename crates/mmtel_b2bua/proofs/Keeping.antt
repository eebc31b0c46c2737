-- The table of calls as it is kept, through each change: numbers ascend, and the live calls are counted.
use Rattle.std.proofs.Common.{◌≡◌, ℕ, zero, suc, ◌+◌, ◌<◌, ◌≤◌, ◌^◌, Bool, true, false, not, cond, List, [], ◌∷◌, ◌++◌, length, get_or}
use Rattle.std.proofs.Common.{set, Option, Some, None, refl, sym, ap, ◌∙◌, subst, arith, OnOk, IfOk, Result, Ok, Err, take, drop}
use Rattle.std.proofs.lemmas.List.{drop-map, length-map, length-set, map-set, take_rest}
use Rattle.std.proofs.lemmas.List.Sums.{count_by-le-length, sum_by-append, sum_by-cons, sum_by-set}
use Rattle.std.proofs.lemmas.Option.{get_or_from_slice_get, none-some, slice_get-map, slice_get_read, slice_get_within}
use Rattle.std.specs.Prelude.{Box, ◌==◌, ◌-◌, count_by, if◌then◌else◌, min, nat_lt, position, remove, slice_get, sum_by}
use Rattle.std.specs.List.{position_or_len}
use Rattle.std.specs.Option.{option_map}
use Rattle.std.specs.List.Sorted.{IsNonDecreasingBy}
use Rattle.mmtel_call.specs.Settled.{is_settled}
use Rattle.mmtel_call_services.specs.Busy.{BusyCountsView, calls_of}
use Rattle.mmtel_output.proofs.Ascending.{ascends}
use Rattle.mmtel_output.proofs.Marking.{pushed_ascends, pushed_marked, removed_ascends, removed_marked, same_marked, set_ascends, set_marked}
use Rattle.mmtel_output.specs.Marks.{AreBelow, AreMarked, Ascend, Holds, HoldsAll, MarkUpdate}
use Rattle.mmtel_output.specs.declared.index.Index.{Index}
use Rattle.mmtel_output.specs.declared.marks.Key.{Key}
use Rattle.mmtel_base.specs.Numbers.{next_number}
use Rattle.mmtel_base.specs.declared.memory.NoMemory.{NoMemory}
use Rattle.mmtel_b2bua.specs.Entries.{is_live, is_numbered}
use Rattle.mmtel_b2bua.specs.Invariant.{TableInvariant, box_values, busy_count, is_gone, lives_on, number_of, one_if}
use Rattle.mmtel_b2bua.specs.Marks.{marks_of}
use Rattle.mmtel_b2bua.specs.Tables.{Table, put_at}
use Rattle.mmtel_b2bua.specs.declared.entries.Entry.{Entry}
use Rattle.mmtel_b2bua.proofs.Counting.{left_counted, one_more}

-- ---- boxes

pub length_boxes : {X A : Type 0} (bs : List (Box X A)) → length (box_values bs) ≡ length bs
length_boxes bs = length-map bs (λ b. b.value)

-- the boxes from an index on
pub rest_boxes : {X A : Type 0} (bs : List (Box X A)) (k : ℕ) → box_values (take (length bs - k) (drop k bs)) ≡ drop k (box_values bs)
rest_boxes bs k = ap box_values (take_rest bs k) ∙ sym (drop-map (λ b. b.value) k bs)

pub removed_boxes : {X A : Type 0} (bs : List (Box X A)) (k : ℕ) → box_values (remove bs k) ≡ remove (box_values bs) k
removed_boxes [] zero = refl
removed_boxes [] (suc k) = refl
removed_boxes (b ∷ bs) zero = refl
removed_boxes (b ∷ bs) (suc k) = ap (λ xs. b.value ∷ xs) (removed_boxes bs k)

placed_boxes : {X A : Type 0} (p : X → Bool) (bs : List (Box X A)) → position_or_len (λ (b : Box X A). p b.value) bs ≡ position_or_len p (box_values bs)
placed_boxes p [] = refl
placed_boxes p (b ∷ bs) = ap (λ n. cond (not (p b.value)) (1 + n) 0) (placed_boxes p bs)

pub position_boxes : {X A : Type 0} (p : X → Bool) (bs : List (Box X A)) → position (λ (b : Box X A). p b.value) bs ≡ position p (box_values bs)
position_boxes p bs =
    ap (λ n. cond (nat_lt n (length bs)) (Some n) None) (placed_boxes p bs)
    ∙ ap (λ m. cond (nat_lt (position_or_len p (box_values bs)) m) (Some (position_or_len p (box_values bs))) None) (sym (length-map bs (λ b. b.value)))

-- ---- numbers that ascend: what holds for all owners of marks is in `mmtel_output`

raised : (low high higher : ℕ) (es : List Entry) → high ≤ higher → Ascend number_of low es high → Ascend number_of low es higher
raised low high higher [] e a = omega arith
raised low high higher (x ∷ es) e a = (a.0, raised (number_of x) high higher es e a.1)

-- where a call is changed before it is removed, the same others remain
set_away : (es : List Entry) (k : ℕ) (y : Entry) → remove es k ≡ remove (set es k y) k
set_away [] zero y = refl
set_away [] (suc k) y = refl
set_away (e ∷ es) zero y = refl
set_away (e ∷ es) (suc k) y = ap (λ (l : List Entry). e ∷ l) (set_away es k y)

module _ {A : Type 0} where
  abbrev pub number_in : Box Entry A → ℕ
  number_in b = number_of b.value

  ascend_in : (low high : ℕ) (bs : List (Box Entry A)) → Ascend number_of low (box_values bs) high → Ascend number_in low bs high
  ascend_in low high [] a = a
  ascend_in low high (b ∷ bs) a = (a.0, ascend_in (number_of b.value) high bs a.1)

  pub boxes_ascend : (low high : ℕ) (bs : List (Box Entry A)) → Ascend number_of low (box_values bs) high → IsNonDecreasingBy number_in bs
  boxes_ascend low high bs a = ascends number_in low high bs (ascend_in low high bs a)

  -- the box of this number is that of the call of this number
  pub numbered_boxes : (n : ℕ) (bs : List (Box Entry A)) → position (λ (b : Box Entry A). number_in b == n) bs ≡ position (is_numbered n) (box_values bs)
  unfolding is_numbered
  numbered_boxes n bs = position_boxes (is_numbered n) bs

  pub below_boxes : (n k : ℕ) (bs : List (Box Entry A)) → AreBelow number_in n (take k bs) → AreBelow number_of n (take k (box_values bs))
  below_boxes n zero [] all = tt
  below_boxes n (suc k) [] all = tt
  below_boxes n zero (b ∷ bs) all = tt
  below_boxes n (suc k) (b ∷ bs) all = (all.0, below_boxes n k bs all.1)

-- ---- the number of live calls

counted_cons : (x : Entry) (es : List Entry) → count_by is_live (x ∷ es) ≡ one_if (is_live x) + count_by is_live es
counted_cons x es = sum_by-cons (λ (z : Entry). one_if (is_live z)) x es

counted_set : (es : List Entry) (k : ℕ) (e y : Entry) → slice_get es k ≡ Some e → count_by is_live (set es k y) + one_if (is_live e) ≡ count_by is_live es + one_if (is_live y)
counted_set es k e y is =
    ap (λ (x : Entry). count_by is_live (set es k y) + one_if (is_live x)) (sym (get_or_from_slice_get es k e e is))
    ∙ sum_by-set (λ (x : Entry). one_if (is_live x)) es k y e (slice_get_within es k e is)

counted_removed : (es : List Entry) (k : ℕ) (e y : Entry) → slice_get es k ≡ Some e → count_by is_live (remove (set es k y) k) + one_if (is_live e) ≡ count_by is_live es
counted_removed [] k e y is = absurd (none-some e is)
counted_removed (x ∷ es) zero e y is =
    let h : x ≡ e = cc in
    ap (λ (z : Entry). count_by is_live es + one_if (is_live z)) (sym h)
    ∙ ((let s : count_by is_live es + one_if (is_live x) ≡ one_if (is_live x) + count_by is_live es = omega arith in s) ∙ sym (counted_cons x es))
counted_removed (x ∷ es) (suc k) e y is =
    let h = counted_removed es k e y is in
    ap (λ (n : ℕ). n + one_if (is_live e)) (counted_cons x (remove (set es k y) k))
    ∙ ((let g : (one_if (is_live x) + count_by is_live (remove (set es k y) k)) + one_if (is_live e) ≡ one_if (is_live x) + count_by is_live es = omega (arith, h) in g) ∙ sym (counted_cons x es))

-- a call is changed, and stays or leaves
abbrev pub left : (gone : Bool) → List Entry → ℕ → Entry → List Entry
left gone es k y = if gone then remove (set es k y) k else set es k y

module _ (es : List Entry) (opened alive : ℕ) (i : Index) (busy : BusyCountsView) (k : ℕ) (e y : Entry) (are : TableInvariant es opened alive i busy) (is : slice_get es k ≡ Some e) where
  counted_left : (gone : Bool) → count_by is_live (left gone es k y) + one_if (is_live e) ≡ alive + one_if (lives_on gone y)
  counted_left true = counted_removed es k e y is ∙ (sym are.live_count ∙ (let z : alive ≡ alive + 0 = omega arith in z))
  counted_left false = counted_set es k e y is ∙ ap (λ (n : ℕ). n + one_if (is_live y)) (sym are.live_count)

  ascends_left : (gone : Bool) → (gone ≡ false → number_of y ≡ number_of e) → Ascend number_of 0 (left gone es k y) opened
  ascends_left true same = subst (λ (l : List Entry). Ascend number_of 0 l opened) (set_away es k y) (removed_ascends number_of 0 opened es k are.ascend)
  ascends_left false same = set_ascends number_of 0 opened es k e y is (same refl) are.ascend

  -- it was counted
  pub was_counted : one_if (is_live e) ≤ alive
  was_counted =
      let h : count_by is_live (remove (set es k y) k) + one_if (is_live e) ≡ count_by is_live es = counted_removed es k e y is in
      omega (arith, h, are.live_count)

  length_left : (gone : Bool) → length (left gone es k y) ≤ length es
  length_left true = let a = length_removed (set es k y) k in let b = length-set es k y in omega (arith, a, b)
    where
      length_removed : (xs : List Entry) (k : ℕ) → length (remove xs k) ≤ length xs
      length_removed [] zero = omega arith
      length_removed [] (suc k) = omega arith
      length_removed (x ∷ xs) zero = omega arith
      length_removed (x ∷ xs) (suc k) = let h = length_removed xs k in omega (arith, h)
  length_left false = let b = length-set es k y in omega (arith, b)

  -- and the counter can hold it again
  pub has_room : (gone : Bool) → length es < 2 ^ 64 → alive + one_if (lives_on gone y) < 2 ^ 64 + one_if (is_live e)
  has_room gone l =
      let h = counted_left gone in
      let g = count_by-le-length is_live (left gone es k y) in
      let f = length_left gone in
      omega (arith, h, g, f, l)

  -- its marks and its accounts were removed, and added again if it stays
  pub left_kept : (gone : Bool) (after : ℕ) (mid j : Index) (now : BusyCountsView) → MarkUpdate false (number_of e) (marks_of e) i mid → MarkUpdate (not gone) (number_of e) (marks_of y) mid j
      → (gone ≡ false → number_of y ≡ number_of e) → after + one_if (is_live e) ≡ alive + one_if (lives_on gone y)
      → ((n : ℕ) → calls_of now n + busy_count n e ≡ sum_by (busy_count n) es + (if gone then 0 else busy_count n y)) → TableInvariant (left gone es k y) opened after j now
  left_kept gone after mid j now out into same counted again = record {
    ascend = ascends_left gone same;
    live_count = let h = counted_left gone in omega (arith, h, counted);
    marked = marked_left gone same (λ stays. into.noted (ap not stays));
    counts = λ n. left_counted n es k e y is gone (calls_of now n) (again n);
  }
    where
      pass : (q : Key) → (q.owner ≡ number_of e → ⊥) → Holds i q → Holds j q
      pass q other h = into.others q other (out.others q other h)

      marked_left : (b : Bool) → (b ≡ false → number_of y ≡ number_of e) → (b ≡ false → HoldsAll j (number_of e) (marks_of y)) → AreMarked number_of marks_of j (left b es k y)
      marked_left true s noted =
          subst (λ (l : List Entry). AreMarked number_of marks_of j l) (set_away es k y) (removed_marked number_of marks_of (number_of e) i j pass 0 opened es k e refl are.ascend is are.marked)
      marked_left false s noted =
          set_marked number_of marks_of (number_of e) i j pass 0 opened es k e y refl are.ascend is (subst (λ (n : ℕ). HoldsAll j n (marks_of y)) (sym (s refl)) (noted refl)) are.marked

-- ---- one more call

-- its marks are inserted first, and its accounts too, unless they are removed again
pub noted_kept : (es : List Entry) (opened alive : ℕ) (i j : Index) (busy now : BusyCountsView) (e : Entry) → TableInvariant es opened alive i busy → MarkUpdate true (number_of e) (marks_of e) i j
    → ((n : ℕ) → calls_of now n ≡ calls_of busy n) → TableInvariant es opened alive j now
noted_kept es opened alive i j busy now e are into same = record {
  ascend = are.ascend;
  live_count = are.live_count;
  marked = same_marked number_of marks_of i j es (into.kept refl) are.marked;
  counts = λ n. same n ∙ are.counts n;
}

-- it was not opened after all
pub same_kept : (es : List Entry) (opened alive : ℕ) (i : Index) (busy now : BusyCountsView) → TableInvariant es opened alive i busy → ((n : ℕ) → calls_of now n ≡ calls_of busy n) → TableInvariant es opened alive i now
same_kept es opened alive i busy now are same = record { ascend = are.ascend; live_count = are.live_count; marked = are.marked; counts = λ n. same n ∙ are.counts n }

module _ (es : List Entry) (opened alive : ℕ) (i : Index) (busy : BusyCountsView) (e : Entry) (are : TableInvariant es opened alive i busy) (number : number_of e ≡ next_number opened) (fits : opened < 2 ^ 64) where
  above : opened ≤ next_number opened
  above = let h : opened ≤ min (opened + 1) (2 ^ 64 - 1) = omega (arith, fits) in h

  pub added_none : TableInvariant es (next_number opened) alive i busy
  added_none = record { ascend = raised 0 opened (next_number opened) es above are.ascend; live_count = are.live_count; marked = are.marked; counts = are.counts }

  counted_more : count_by is_live (es ++ e ∷ []) ≡ alive + one_if (is_live e)
  counted_more =
      let h = are.live_count in
      let s : count_by is_live (es ++ e ∷ []) ≡ count_by is_live es + count_by is_live (e ∷ []) = sum_by-append (λ (x : Entry). one_if (is_live x)) es (e ∷ []) in
      let o : count_by is_live (e ∷ []) ≡ one_if (is_live e) + count_by is_live [] = counted_cons e [] in
      let z : count_by is_live [] ≡ 0 = refl in
      omega (arith, h, s, o, z)

  pub added_one : (after : ℕ) (j : Index) (now : BusyCountsView) → MarkUpdate true (number_of e) (marks_of e) i j → opened < 2 ^ 64 - 1 → after ≡ alive + one_if (is_live e)
      → ((n : ℕ) → calls_of now n ≡ calls_of busy n + busy_count n e) → TableInvariant (es ++ e ∷ []) (next_number opened) after j now
  added_one after j now into below counted more = record {
    ascend =
        let h : opened < min (opened + 1) (2 ^ 64 - 1) = omega (arith, below) in
        pushed_ascends number_of 0 opened (next_number opened) es e (omega (arith, h, number)) (omega (arith, number)) are.ascend;
    live_count = counted ∙ sym counted_more;
    marked = pushed_marked number_of marks_of i j es e (into.kept refl) (into.noted refl) are.marked;
    counts = λ n. one_more n es e (calls_of busy n) (calls_of now n) (are.counts n) (more n);
  }

-- ---- the box at an index

module _ {A : Type 0} (bs : List (Box Entry A)) (k : ℕ) where
  pub stands_at : (b : Box Entry A) (e : Entry) → k < length (box_values bs) → b ≡ get_or bs k b → e ≡ b.value → slice_get (box_values bs) k ≡ Some e
  stands_at b e within at is =
      slice_get-map (λ (x : Box Entry A). x.value) bs k
      ∙ (ap (option_map (λ (x : Box Entry A). x.value)) (slice_get_read bs (length bs) k b refl (let h = length-map bs (λ (x : Box Entry A). x.value) in omega (arith, within, h)) at) ∙ ap Some (sym is))

  pub left_boxes : (gone : Bool) (b : Box Entry A) → box_values (if gone then remove (set bs k b) k else set bs k b) ≡ left gone (box_values bs) k b.value
  left_boxes true b = removed_boxes (set bs k b) k ∙ ap (λ (xs : List Entry). remove xs k) (map-set (λ (x : Box Entry A). x.value) bs k b)
  left_boxes false b = map-set (λ (x : Box Entry A). x.value) bs k b

  pub set_boxes : (b : Box Entry A) → box_values (set bs k b) ≡ set (box_values bs) k b.value
  set_boxes b = map-set (λ (x : Box Entry A). x.value) bs k b

-- ---- the effect of a step

pub not_gone : (received : Result Bool NoMemory) (P : Type 0) → OnOk received P → is_gone received ≡ false → P
not_gone (Ok settled) P p e = p
not_gone (Err fault) P p e = absurd (let f : true ≡ false = e in cc)

pub recount : (r alive : ℕ) (b a p q : Bool) → b ≡ p → a ≡ q → r + one_if b ≡ alive + one_if a → r + one_if p ≡ alive + one_if q
recount r alive b a p q e f h = sym (ap (λ (x : Bool). r + one_if x) e) ∙ (h ∙ ap (λ (x : Bool). alive + one_if x) f)

-- what held of the step still holds after the accounts were counted again
pub still_on : (P : Type 0) (received counted : Result Bool NoMemory) → IfOk counted (λ settled. received ≡ Ok settled) → OnOk received P → OnOk counted P
still_on P received (Ok settled) e p = subst (λ (r : Result Bool NoMemory). OnOk r P) e p
still_on P received (Err fault) e p = tt

pub still_if : (P : Bool → Type 0) (received counted : Result Bool NoMemory) → IfOk counted (λ settled. received ≡ Ok settled) → IfOk received P → IfOk counted P
still_if P received (Ok settled) e p = subst (λ (r : Result Bool NoMemory). IfOk r P) e p
still_if P received (Err fault) e p = tt

-- a call leaves where it is settled
pub left_put : (received : Result Bool NoMemory) (gone : Bool) → gone ≡ is_gone received → (es : List Entry) (k : ℕ) (y z : Entry) → OnOk received (y ≡ z) → IfOk received (λ settled. settled ≡ is_settled z.call)
    → OnOk received (left gone es k y ≡ put_at k z es)
left_put (Ok settled) gone g es k y z same is = ap (λ (b : Bool). left b es k y) (g ∙ is) ∙ ap (λ (x : Entry). left (is_settled z.call) es k x) same
left_put (Err fault) gone g es k y z same is = tt

-- the table after its calls are these, as they result from the call at an index
pub table_after : (t now : Table) → t ≡ now → (k : ℕ) (e : Entry) → slice_get t.entries k ≡ Some e → (G : Option Entry → List Entry → List Entry) (es : List Entry) → es ≡ G (Some e) t.entries
    → (let n : Table = record t { entries = es } in n) ≡ (let n : Table = record now { entries = G (slice_get now.entries k) now.entries } in n)
table_after t now same k e is G es made =
    ap (λ (x : Table). let n : Table = record x { entries = es } in n) same
    ∙ ap (λ (xs : List Entry). let n : Table = record now { entries = xs } in n)
    (made ∙ (ap (λ (o : Option Entry). G o t.entries) (sym is) ∙ ap (λ (x : Table). G (slice_get x.entries k) x.entries) same))

-- the same of a claim on both
pub said_after : {D : Type 0} (t now : Table) → t ≡ now → (k : ℕ) (e : Entry) → slice_get t.entries k ≡ Some e → (G : Option Entry → List Entry → D) → G (Some e) t.entries ≡ G (slice_get now.entries k) now.entries
said_after t now same k e is G = ap (λ (o : Option Entry). G o t.entries) (sym is) ∙ ap (λ (x : Table). G (slice_get x.entries k) x.entries) same

pub in_ok : {X Y E : Type 0} (h : Result X E) (x : X) (m : Result Y E) (y : Y) (P : Type 0) → h ≡ Ok x → m ≡ Ok y → OnOk h P → OnOk m P
in_ok h x m y P e f p = subst (λ (r : Result _ _). OnOk r P) (sym f) (subst (λ (r : Result _ _). OnOk r P) e p)

pub in_err : {Y E : Type 0} (m : Result Y E) (e : E) (P : Type 0) → m ≡ Err e → OnOk m P
in_err m e P f = subst (λ (r : Result _ _). OnOk r P) (sym f) tt
