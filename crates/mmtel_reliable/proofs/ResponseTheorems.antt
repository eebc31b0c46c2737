-- The theorems about all lists of operations.
use Rattle.std.proofs.Common.{◌≡◌, Bool, true, false, not, ℕ, ◌+◌, ◌<◌, List, [], ◌∷◌, ◌++◌, length, Option, Some, None, IfSome, refl, sym, ap, ◌∙◌, arith, add-one}
use Rattle.std.proofs.lemmas.List.{map-append}
use Rattle.std.proofs.lemmas.Bool.Decides.{nat_tests}
use Rattle.std.proofs.lemmas.Map.Keys.{IsStrictlyIncreasing-from_sorted}
use Rattle.std.specs.List.{AllByRecursion, filter}
use Rattle.std.specs.List.Sorted.{IsStrictlyIncreasing, IsStrictlySortedBy}
use Rattle.std.specs.Ordering.{nat_cmp}
use Rattle.std.specs.declared.cmp.Ordering.TheVariants.{Less}
use Rattle.mmtel_reliable.specs.Acks.{comes_next}
use Rattle.mmtel_reliable.specs.Traces.{acknowledged_responses, AreAwaited, numbers_up_to, AcksOperation, Event, events_of, AreConsecutive, is_acknowledged}
use Rattle.mmtel_reliable.specs.Traces.{IsAwaited, last_number, responses_of_attempt, own_numbers, relayed_responses, unacknowledged_responses}
use Rattle.mmtel_reliable.specs.Traces.{Relayed}
use Rattle.mmtel_reliable.specs.declared.acks.ReliableResponse.{ReliableResponse}
use Rattle.mmtel_reliable.proofs.EventTheorems.{AllAbove, kept, of_deeds, one_more, Rise}

-- ---- own numbers

abbrev AreCounted : List Event → Type 0
AreCounted events = own_numbers (relayed_responses events) ≡ numbers_up_to (length (relayed_responses events))

counted_more : (events : List Event) (answer : ReliableResponse) → answer.own ≡ length (relayed_responses events) + 1 → AreCounted events → AreCounted (Relayed answer ∷ events)
counted_more events answer next so =
    map-append (λ (a : ReliableResponse). a.own) (relayed_responses events) (answer ∷ [])
    ∙ ap (λ (l : List ℕ). l ++ answer.own ∷ []) so
    ∙ ap (λ (n : ℕ). numbers_up_to (length (relayed_responses events)) ++ n ∷ []) next
    ∙ sym (ap numbers_up_to (one_more events answer ∙ add-one (length (relayed_responses events))))

pub numbers_counted : (cseq : ℕ) (ops : List AcksOperation) → AreCounted (events_of cseq ops)
numbers_counted cseq ops =
    (of_deeds AreCounted cseq refl (λ events answer next after kept so. counted_more events answer next so) (λ events answer rest first kept so. so) (λ events so. so) ops).1

-- ---- the callee's numbers

follows : (rseq : ℕ) (last : Option ℕ) → comes_next rseq last ≡ true → IfSome last (λ n. rseq ≡ n + 1)
follows rseq None e = tt
follows rseq (Some n) e = grind (arith, nat_tests, e)

pub numbers_follow : (cseq : ℕ) (ops : List AcksOperation) → AreConsecutive (events_of cseq ops)
numbers_follow cseq ops =
    (of_deeds AreConsecutive cseq tt (λ events answer next after kept so. (follows answer.callee (last_number events) after, so)) (λ events answer rest first kept so. so) (λ events so. so) ops).1

-- ---- acknowledgements

less : (n m : ℕ) → n < m → nat_cmp n m ≡ Less
less n m lt = grind (arith, nat_tests)

all_less : (n : ℕ) (answers : List ReliableResponse) → AllAbove n answers → AllByRecursion (λ m. nat_cmp n m ≡ Less) (own_numbers answers)
all_less n [] all = tt
all_less n (answer ∷ answers) all = (less n answer.own all.0, all_less n answers all.1)

sorted : (answers : List ReliableResponse) → Rise answers → IsStrictlySortedBy nat_cmp (own_numbers answers)
unfolding IsStrictlySortedBy
sorted [] rise = tt
sorted (answer ∷ answers) rise = (all_less answer.own answers rise.0, sorted answers rise.1)

pub numbers_rise : (cseq : ℕ) (ops : List AcksOperation) → IsStrictlyIncreasing (own_numbers (acknowledged_responses (events_of cseq ops)))
numbers_rise cseq ops = IsStrictlyIncreasing-from_sorted (own_numbers (acknowledged_responses (events_of cseq ops))) (sorted (acknowledged_responses (events_of cseq ops)) (kept cseq ops).others_rise)

pub record IsFirst (test : ReliableResponse → Bool) (answers : List ReliableResponse) (answer : ReliableResponse) : Type 0 where
  pub earlier : List ReliableResponse
  pub later : List ReliableResponse
  pub whole : answers ≡ earlier ++ answer ∷ later
  pub passes : test answer ≡ false
  pub others : AllByRecursion (λ other. test other ≡ true) earlier

module _ (test : ReliableResponse → Bool) (answer : ReliableResponse) (rest : List ReliableResponse) where
  found : (answers : List ReliableResponse) → filter (λ other. not (test other)) answers ≡ answer ∷ rest → IsFirst test answers answer
  found [] e = absurd cc
  found (other ∷ answers) e = by_test (test other) refl (found answers)
    where
      by_test : (b : Bool) → test other ≡ b → (filter (λ x. not (test x)) answers ≡ answer ∷ rest → IsFirst test answers answer) → IsFirst test (other ∷ answers) answer
      by_test true is more =
          let first = more (rw is at e) in
          record { earlier = other ∷ first.earlier; later = first.later; whole = ap (λ (l : List ReliableResponse). other ∷ l) first.whole; passes = first.passes; others = (is, first.others) }
      by_test false is more =
          let whole : other ∷ filter (λ x. not (test x)) answers ≡ answer ∷ rest = rw is at e in
          let same : other ≡ answer = cc in
          record { earlier = []; later = answers; whole = ap (λ (x : ReliableResponse). x ∷ answers) same; passes = ap test (sym same) ∙ is; others = tt }

awaited : (events : List Event) (answer : ReliableResponse) (rest : List ReliableResponse) → unacknowledged_responses events ≡ answer ∷ rest → IsAwaited events answer
awaited events answer rest e =
    let first = found (is_acknowledged events) answer rest (responses_of_attempt events) e in
    record { earlier = first.earlier; later = first.later; relayed = first.whole; waits = first.passes; others = first.others }

pub all_awaited : (cseq : ℕ) (ops : List AcksOperation) → AreAwaited (events_of cseq ops)
all_awaited cseq ops =
    (of_deeds AreAwaited cseq tt (λ events answer next after kept so. so) (λ events answer rest first kept so. (awaited events answer rest first, so)) (λ events so. so) ops).1
