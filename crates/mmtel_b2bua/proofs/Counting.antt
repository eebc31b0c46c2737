-- For each account the number of calls that keep it busy, through each change of the table; and the state for a call according to these counts.
use Rattle.std.proofs.Common.{◌≡◌, ℕ, zero, suc, ◌+◌, ◌<◌, ◌≤◌, ◌^◌, Bool, true, false, cond, List, [], ◌∷◌, ◌++◌, get_or, set, Option, Some, None, refl, sym, ap, ◌∙◌, subst, arith}
use Rattle.std.proofs.Math.Seq.{lt-length-set}
use Rattle.std.proofs.lemmas.Bool.Decides.{nat_tests}
use Rattle.std.proofs.lemmas.List.{get_or-set_same}
use Rattle.std.proofs.lemmas.List.Sums.{get_or-le-sum_by, sum_by-append, sum_by-cons, sum_by-remove, sum_by-set, sum_by_push}
use Rattle.std.proofs.lemmas.Option.{get_or_from_slice_get, none-some, slice_get_within}
use Rattle.std.specs.Prelude.{◌==◌, ◌-◌, count_by, flat_map, if◌then◌else◌, min, option_to_list, remove, slice_get, sum_by}
use Rattle.std.specs.List.{AllByRecursion}
use Rattle.mmtel_call.specs.Opening.{call_after_opening}
use Rattle.mmtel_call.specs.Table.{step}
use Rattle.mmtel_call.specs.declared.signals.Signal as calls
use Rattle.mmtel_call_services.specs.Busy.{BusyCountsView, calls_of, live_of}
use Rattle.mmtel_call_services.specs.CallConfig.{CallConfigView, calls_among, is_account}
use Rattle.mmtel_call_services.specs.declared.openings.Arrival.{Arrival}
use Rattle.mmtel_output.specs.Marks.{Ascend}
use Rattle.mmtel_output.specs.declared.outputs.StepOutput.{StepOutput}
use Rattle.mmtel_output.proofs.Marking.{below_at}
use Rattle.mmtel_precedence.specs.Calls.{SnapshotView}
use Rattle.mmtel_sheet_values.specs.View.{SheetsInForce, registration_end_in, sheet_in}
use Rattle.mmtel_types.specs.declared.numbers.Account.{Account}
use Rattle.mmtel_b2bua.specs.Entries.{accounts_of, beside, busy_beside, is_numbered, origin_of, served_of}
use Rattle.mmtel_b2bua.specs.Invariant.{account_count, busy_count, number_of}
use Rattle.mmtel_b2bua.specs.Queries.{live}
use Rattle.mmtel_b2bua.specs.Tables.{busy_with, call_step, opening_step, snapshot_at}
use Rattle.mmtel_b2bua.specs.declared.entries.Entry.{Entry}

-- ---- the accounts of one call

module _ (n : ℕ) where
  abbrev one : Account → ℕ
  one account = cond (is_account n account) 1 0

  listed : (o : Option Account) → count_by (is_account n) (option_to_list o) ≡ account_count o n
  listed None = refl
  listed (Some account) = sum_by-cons one account [] ∙ (let z : one account + 0 ≡ one account = omega arith in z)

  accounts : (e : Entry) → count_by (is_account n) (accounts_of e) ≡ busy_count n e
  unfolding accounts_of
  accounts e =
      sum_by-append one (option_to_list (origin_of e)) (option_to_list (served_of e))
      ∙ ap (λ (m : ℕ). m + count_by (is_account n) (option_to_list (served_of e))) (listed (origin_of e))
      ∙ ap (λ (m : ℕ). account_count (origin_of e) n + m) (listed (served_of e))

  beside_own : (number : ℕ) (e : Entry) → is_numbered number e ≡ true → count_by (is_account n) (beside number e) ≡ account_count (origin_of e) n
  unfolding beside
  beside_own number e is = ap (λ (b : Bool). count_by (is_account n) (if b then option_to_list (origin_of e) else accounts_of e)) is ∙ listed (origin_of e)

  beside_other : (number : ℕ) (e : Entry) → is_numbered number e ≡ false → count_by (is_account n) (beside number e) ≡ busy_count n e
  unfolding beside
  beside_other number e is = ap (λ (b : Bool). count_by (is_account n) (if b then option_to_list (origin_of e) else accounts_of e)) is ∙ accounts e

  -- ---- the accounts of all calls

  flat_cons : (f : Entry → List Account) (e : Entry) (es : List Entry) → count_by (is_account n) (flat_map f (e ∷ es)) ≡ count_by (is_account n) (f e) + count_by (is_account n) (flat_map f es)
  flat_cons f e es = sum_by-append one (f e) (flat_map f es)

  all_counted : (es : List Entry) → count_by (is_account n) (flat_map accounts_of es) ≡ sum_by (busy_count n) es
  all_counted [] = refl
  all_counted (e ∷ es) =
      flat_cons accounts_of e es
      ∙ ap (λ (m : ℕ). m + count_by (is_account n) (flat_map accounts_of es)) (accounts e)
      ∙ ap (λ (m : ℕ). busy_count n e + m) (all_counted es)
      ∙ sym (sum_by-cons (busy_count n) e es)

  others_counted : (number : ℕ) (es : List Entry) → AllByRecursion (λ e. is_numbered number e ≡ false) es → count_by (is_account n) (busy_beside number es) ≡ sum_by (busy_count n) es
  others_counted number [] other = refl
  others_counted number (e ∷ es) other =
      flat_cons (beside number) e es
      ∙ ap (λ (m : ℕ). m + count_by (is_account n) (busy_beside number es)) (beside_other number e other.0)
      ∙ ap (λ (m : ℕ). busy_count n e + m) (others_counted number es other.1)
      ∙ sym (sum_by-cons (busy_count n) e es)

-- ---- other numbers

pub numbered : (number : ℕ) (e : Entry) → is_numbered number e ≡ (number_of e == number)
unfolding is_numbered
numbered number e = refl

lower_not : (number : ℕ) (e : Entry) → number_of e < number → is_numbered number e ≡ false
lower_not number e l = numbered number e ∙ (let u : (number_of e == number) ≡ false = grind (arith, nat_tests) in u)

higher_not : (number : ℕ) (e : Entry) → number < number_of e → is_numbered number e ≡ false
higher_not number e l = numbered number e ∙ (let u : (number_of e == number) ≡ false = grind (arith, nat_tests) in u)

own_is : (number : ℕ) (e : Entry) → number ≡ number_of e → is_numbered number e ≡ true
own_is number e same = numbered number e ∙ (let u : (number_of e == number) ≡ true = grind (arith, nat_tests) in u)

all_above : (number low high : ℕ) (es : List Entry) → number ≤ low → Ascend number_of low es high → AllByRecursion (λ e. is_numbered number e ≡ false) es
all_above number low high [] l a = tt
all_above number low high (x ∷ es) l a = let h = a.0 in (higher_not number x (omega (arith, l, h)), all_above number (number_of x) high es (omega (arith, l, h)) a.1)

least : (low high : ℕ) (es : List Entry) → Ascend number_of low es high → low ≤ high
least low high [] a = a
least low high (x ∷ es) a = let h = a.0 in let g = least (number_of x) high es a.1 in omega (arith, h, g)

all_below : (number low high : ℕ) (es : List Entry) → high < number → Ascend number_of low es high → AllByRecursion (λ e. is_numbered number e ≡ false) es
all_below number low high [] l a = tt
all_below number low high (x ∷ es) l a = let g = least (number_of x) high es a.1 in (lower_not number x (omega (arith, l, g)), all_below number (number_of x) high es l a.1)

-- ---- as the step of a call sees them

own_counted : (n number low high : ℕ) (es : List Entry) (k : ℕ) (e : Entry) → Ascend number_of low es high → slice_get es k ≡ Some e → number ≡ number_of e
    → count_by (is_account n) (busy_beside number es) + account_count (served_of e) n ≡ sum_by (busy_count n) es
own_counted n number low high [] k e a is same = absurd (none-some e is)
own_counted n number low high (x ∷ es) zero e a is same =
    let h : x ≡ e = cc in
    let mine : number ≡ number_of x = same ∙ ap number_of (sym h) in
    let whole = flat_cons n (beside number) x es in
    let own = beside_own n number x (own_is number x mine) in
    let rest = others_counted n number es (all_above number (number_of x) high es (omega (arith, mine)) a.1) in
    let all = sum_by-cons (busy_count n) x es in
    subst (λ (z : Entry). count_by (is_account n) (busy_beside number (x ∷ es)) + account_count (served_of z) n ≡ sum_by (busy_count n) (x ∷ es)) h (omega (arith, whole, own, rest, all))
own_counted n number low high (x ∷ es) (suc k) e a is same =
    let above = below_at number_of (number_of x) high es k e a.1 is in
    let whole = flat_cons n (beside number) x es in
    let other = beside_other n number x (lower_not number x (omega (arith, above, same))) in
    let rest = own_counted n number (number_of x) high es k e a.1 is same in
    let all = sum_by-cons (busy_count n) x es in
    omega (arith, whole, other, rest, all)

-- ---- a call is changed, and stays or leaves

module _ (n : ℕ) (es : List Entry) (k : ℕ) (e y : Entry) (is : slice_get es k ≡ Some e) where
  at : get_or es k e ≡ e
  at = get_or_from_slice_get es k e e is

  -- it was counted
  few : busy_count n e ≤ sum_by (busy_count n) es
  few = subst (λ (z : Entry). busy_count n z ≤ sum_by (busy_count n) es) at (get_or-le-sum_by (busy_count n) es k e (slice_get_within es k e is))

  put : sum_by (busy_count n) (set es k y) + busy_count n e ≡ sum_by (busy_count n) es + busy_count n y
  put = subst (λ (z : Entry). sum_by (busy_count n) (set es k y) + busy_count n z ≡ sum_by (busy_count n) es + busy_count n y) at (sum_by-set (busy_count n) es k y e (slice_get_within es k e is))

  gone_from : sum_by (busy_count n) (remove (set es k y) k) + busy_count n y ≡ sum_by (busy_count n) (set es k y)
  gone_from =
      subst (λ (z : Entry). sum_by (busy_count n) (remove (set es k y) k) + busy_count n z ≡ sum_by (busy_count n) (set es k y)) (get_or-set_same es k y y (slice_get_within es k e is))
      (sum_by-remove (busy_count n) (set es k y) k y (lt-length-set es k y (slice_get_within es k e is)))

  pub left_counted : (gone : Bool) (now : ℕ) → now + busy_count n e ≡ sum_by (busy_count n) es + (if gone then 0 else busy_count n y)
      → now ≡ sum_by (busy_count n) (if gone then remove (set es k y) k else set es k y)
  left_counted true now is_now = let a = put in let b = gone_from in omega (arith, a, b, is_now)
  left_counted false now is_now = let a = put in omega (arith, a, is_now)

-- its accounts were removed, and added again if it stays
module _ (es : List Entry) (k : ℕ) (e y : Entry) (is : slice_get es k ≡ Some e) (gone : Bool) (before after : BusyCountsView) (counted : (n : ℕ) → calls_of before n ≡ sum_by (busy_count n) es) where
  -- that of its attempt before the step, and that of its caller after it
  pub parted : (mid next : BusyCountsView) (served origin : Option Account) → served ≡ served_of e → origin ≡ origin_of e → ((n : ℕ) → calls_of mid n ≡ calls_of before n - account_count served n)
      → ((n : ℕ) → calls_of next n ≡ calls_of mid n + (if gone then 0 else busy_count n y)) → ((n : ℕ) → calls_of after n ≡ calls_of next n - account_count origin n)
      → (n : ℕ) → calls_of after n + busy_count n e ≡ sum_by (busy_count n) es + (if gone then 0 else busy_count n y)
  parted mid next served origin its_served its_origin out into last n =
      let f = few n es k e y is in
      let h = counted n in
      let a = out n ∙ ap (λ (o : Option Account). calls_of before n - account_count o n) its_served in
      let b = into n in
      let c = last n ∙ ap (λ (o : Option Account). calls_of next n - account_count o n) its_origin in
      omega (arith, f, h, a, b, c)

  -- both before it
  pub recounted : (mid : BusyCountsView) → ((n : ℕ) → calls_of mid n ≡ calls_of before n - busy_count n e) → ((n : ℕ) → calls_of after n ≡ calls_of mid n + (if gone then 0 else busy_count n y))
      → (n : ℕ) → calls_of after n + busy_count n e ≡ sum_by (busy_count n) es + (if gone then 0 else busy_count n y)
  recounted mid out into n =
      let f = few n es k e y is in
      let h = counted n in
      let a = out n in
      let b = into n in
      omega (arith, f, h, a, b)

-- ---- one more call

pub one_more : (n : ℕ) (es : List Entry) (e : Entry) (before after : ℕ) → before ≡ sum_by (busy_count n) es → after ≡ before + busy_count n e → after ≡ sum_by (busy_count n) (es ++ e ∷ [])
one_more n es e before after counted more = more ∙ ap (λ (m : ℕ). m + busy_count n e) counted ∙ sym (sum_by_push (busy_count n) es e)

-- ---- how many calls an account has

pub live_counted : (es : List Entry) (counts : BusyCountsView) (n : ℕ) → calls_of counts n ≡ sum_by (busy_count n) es → live_of counts n ≡ live n es
live_counted es counts n counted = ap (λ (m : ℕ). min m (2 ^ 32 - 1)) (counted ∙ sym (all_counted n es))

-- ---- the state according to these counts

-- functions that are equal everywhere are equal
lives : (counts : BusyCountsView) (busy : List Account) → ((n : ℕ) → calls_of counts n ≡ count_by (is_account n) busy) → live_of counts ≡ calls_among busy
lives counts busy same = λ i n. min (same n i) (2 ^ 32 - 1)

module _ (config : CallConfigView) (at : ℕ) (view : SheetsInForce) (counts : BusyCountsView) where
  abbrev pub by_counts : SnapshotView
  by_counts = record { at = at; sheets = sheet_in view; registration_ends = registration_end_in view; live = live_of counts }

  snapshot_same : (busy : List Account) → ((n : ℕ) → calls_of counts n ≡ count_by (is_account n) busy) → by_counts ≡ snapshot_at at view busy
  snapshot_same busy same = ap (λ (f : ℕ → ℕ). let s : SnapshotView = record { at = at; sheets = sheet_in view; registration_ends = registration_end_in view; live = f } in s) (lives counts busy same)

  -- for the call at this index, where the account of its attempt was removed
  pub stepped : (es : List Entry) (high k : ℕ) (e : Entry) (before : BusyCountsView) (served : Option Account) → Ascend number_of 0 es high → slice_get es k ≡ Some e →
      ((n : ℕ) → calls_of before n ≡ sum_by (busy_count n) es)
      → served ≡ served_of e → ((n : ℕ) → calls_of counts n ≡ calls_of before n - account_count served n) → (received : calls.Signal) (output : StepOutput)
      → step config by_counts received e.call output ≡ call_step config at view (busy_beside (number_of e) es) received output e
  unfolding call_step
  stepped es high k e before served a is counted its out received output =
      ap (λ (now : SnapshotView). step config now received e.call output) (snapshot_same (busy_beside (number_of e) es) (λ n.
      let own = own_counted n (number_of e) 0 high es k e a is refl in
      let h = counted n in
      let b = out n ∙ ap (λ (o : Option Account). calls_of before n - account_count o n) its in
      omega (arith, own, h, b)))

  -- for a call that is opened, where that of its caller was added
  pub begun : (es : List Entry) (high : ℕ) (arrival : Arrival) (before : BusyCountsView) → Ascend number_of 0 es high → high < arrival.number.0 → ((n : ℕ) → calls_of before n ≡ sum_by (busy_count n) es)
      → ((n : ℕ) → calls_of counts n ≡ calls_of before n + account_count arrival.served.origin n) → (output : StepOutput) →
      call_after_opening config by_counts arrival output ≡ opening_step config at view (busy_with arrival es) arrival output
  unfolding opening_step
  begun es high arrival before a above counted into output =
      ap (λ (now : SnapshotView). call_after_opening config now arrival output) (snapshot_same (busy_with arrival es) (λ n.
      let both = sum_by-append (one n) (option_to_list arrival.served.origin) (busy_beside arrival.number.0 es) in
      let mine = listed n arrival.served.origin in
      let others = others_counted n arrival.number.0 es (all_below arrival.number.0 0 high es above a) in
      let h = counted n in
      let b = into n in
      omega (arith, both, mine, others, h, b)))
