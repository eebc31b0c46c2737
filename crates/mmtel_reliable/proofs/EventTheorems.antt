-- What events say after one more, and what is true of those of every list of operations.
use Rattle.std.proofs.Common.{◌≡◌, ◌==◌, ◌||◌, ◌&&◌, nat_lt, Bool, true, false, not, cond, ℕ, ◌+◌, ◌<◌, ◌≤◌, List, [], ◌∷◌, ◌++◌, length, Option, Some, None, refl, sym, ap, subst, ◌∙◌, arith}
use Rattle.std.proofs.lemmas.List.{length-append}
use Rattle.std.proofs.lemmas.List.Elements.{filter-append}
use Rattle.std.proofs.lemmas.Bool.Decides.{nat_tests}
use Rattle.std.specs.List.{AllByRecursion, filter}
use Rattle.mmtel_base.proofs.ChainTheorems.{guard_some}
use Rattle.mmtel_base.proofs.Runs.{and_true}
use Rattle.mmtel_reliable.specs.Acks.{AcksView, comes_next, has_own, is_acknowledged_by, most_waiting, own_number, response_acknowledged_by}
use Rattle.mmtel_reliable.specs.Racks.{greatest_number}
use Rattle.mmtel_reliable.specs.Traces.{acknowledged_responses, events_with_ack, AcksOperation, Event, events_of, is_acknowledged, last_number, acks_after}
use Rattle.mmtel_reliable.specs.Traces.{responses_of_attempt, relayed_responses, events_with_relay, unacknowledged_responses, events_with_operation}
use Rattle.mmtel_reliable.specs.Traces.{Relays, Acknowledges, LeavesAttempt}
use Rattle.mmtel_reliable.specs.Traces.{Relayed, Acknowledged, AttemptLeft}
use Rattle.mmtel_reliable.specs.declared.racks.Rack.{Rack}
use Rattle.mmtel_reliable.specs.declared.acks.ReliableResponse.{ReliableResponse}

-- ---- responses below and above a number

abbrev pub AllBelow : ℕ → List ReliableResponse → Type 0
AllBelow n = AllByRecursion (λ answer. answer.own < n)

abbrev pub AllAbove : ℕ → List ReliableResponse → Type 0
AllAbove n = AllByRecursion (λ answer. n < answer.own)

-- the own numbers rise
abbrev pub Rise : List ReliableResponse → Type 0
Rise [] = Unit {0}
Rise (answer ∷ answers) = AllAbove answer.own answers × Rise answers

module _ (P : ReliableResponse → Type 0) where
  all_end : (answers : List ReliableResponse) (last : ReliableResponse) → AllByRecursion P answers → P last → AllByRecursion P (answers ++ last ∷ [])
  all_end [] last all here = (here, tt)
  all_end (answer ∷ answers) last all here = (all.0, all_end answers last all.1 here)

all_lower : (n m : ℕ) (answers : List ReliableResponse) → n ≤ m → AllBelow n answers → AllBelow m answers
all_lower n m [] le all = tt
all_lower n m (answer ∷ answers) le all = (let here = all.0 in omega arith, all_lower n m answers le all.1)

below_none : (own : ℕ) (answers : List ReliableResponse) → AllBelow own answers → has_own own answers ≡ false
below_none own [] all = refl
below_none own (answer ∷ answers) all =
    let here = all.0 in
    let other : (answer.own == own) ≡ false = grind (arith, nat_tests) in
    rw other (below_none own answers all.1)

filtered_below : (n : ℕ) (test : ReliableResponse → Bool) (answers : List ReliableResponse) → AllBelow n answers → AllBelow n (filter test answers)
filtered_below n test [] all = tt
filtered_below n test (other ∷ answers) all = by_test (test other) (filtered_below n test answers all.1)
  where
    by_test : (b : Bool) → AllBelow n (filter test answers) → AllBelow n (cond b (other ∷ filter test answers) (filter test answers))
    by_test true rest = (all.0, rest)
    by_test false rest = rest

-- what passes a test first is one of them
first_below : (n : ℕ) (test : ReliableResponse → Bool) (answers : List ReliableResponse) (first : ReliableResponse) (rest : List ReliableResponse) → AllBelow n answers → filter test answers ≡ first ∷ rest → first.own < n
first_below n test answers first rest all e = (subst (AllBelow n) e (filtered_below n test answers all)).0

rise_end : (answers : List ReliableResponse) (last : ReliableResponse) → Rise answers → AllBelow last.own answers → Rise (answers ++ last ∷ [])
rise_end [] last rise below = (tt, tt)
rise_end (answer ∷ answers) last rise below =
    (all_end (λ (other : ReliableResponse). answer.own < other.own) answers last rise.0 below.0, rise_end answers last rise.1 below.1)

-- ---- responses that were acknowledged are removed

abbrev left_out : (ReliableResponse → Bool) → List ReliableResponse → List ReliableResponse
left_out test = filter (λ answer. not (test answer))

module _ (p q : ReliableResponse → Bool) where
  left_out_both : (answers : List ReliableResponse) → left_out (λ answer. p answer || (q answer || false)) answers ≡ left_out q (left_out p answers)
  left_out_both [] = refl
  left_out_both (answer ∷ answers) = by_tests (p answer) (q answer) refl refl (left_out_both answers)
    where
      by_tests : (b c : Bool) → p answer ≡ b → q answer ≡ c → left_out (λ answer. p answer || (q answer || false)) answers ≡ left_out q (left_out p answers)
          → cond (not (b || (c || false))) (answer ∷ left_out (λ answer. p answer || (q answer || false)) answers) (left_out (λ answer. p answer || (q answer || false)) answers)
          ≡ left_out q (cond (not b) (answer ∷ left_out p answers) (left_out p answers))
      by_tests true c first second more = more
      by_tests false true first second more = rw second more
      by_tests false false first second more = rw second (ap (λ (l : List ReliableResponse). answer ∷ l) more)

module _ (p q : ReliableResponse → Bool) (same : (answer : ReliableResponse) → p answer ≡ q answer) where
  left_out_same : (answers : List ReliableResponse) → left_out p answers ≡ left_out q answers
  left_out_same [] = refl
  left_out_same (answer ∷ answers) = rw (same answer, left_out_same answers) refl

any_end : (own : ℕ) (answers : List ReliableResponse) (last : ReliableResponse) → has_own own (answers ++ last ∷ []) ≡ (has_own own answers || (last.own == own || false))
any_end own [] last = refl
any_end own (answer ∷ answers) last = by_test (answer.own == own) (any_end own answers last)
  where
    by_test : (b : Bool) → has_own own (answers ++ last ∷ []) ≡ (has_own own answers || (last.own == own || false))
        → (b || has_own own (answers ++ last ∷ [])) ≡ ((b || has_own own answers) || (last.own == own || false))
    by_test true more = refl
    by_test false more = more

kept_above : (own : ℕ) (answers : List ReliableResponse) → AllAbove own answers → left_out (λ answer. own == answer.own) answers ≡ answers
kept_above own [] all = refl
kept_above own (answer ∷ answers) all =
    let here = all.0 in
    let other : (own == answer.own) ≡ false = grind (arith, nat_tests) in
    rw other (ap (λ (l : List ReliableResponse). answer ∷ l) (kept_above own answers all.1))

first_left_out : (first : ReliableResponse) (rest : List ReliableResponse) → AllAbove first.own rest → left_out (λ answer. first.own == answer.own) (first ∷ rest) ≡ rest
first_left_out first rest all =
    let itself : (first.own == first.own) ≡ true = grind (arith, nat_tests) in
    rw itself (kept_above first.own rest all)

-- ---- what each event preserves

pub record IsKept (events : List Event) : Type 0 where
  -- own numbers that were used are at most that many
  pub attempt_below : AllBelow (length (relayed_responses events) + 1) (responses_of_attempt events)
  pub others_below : AllBelow (length (relayed_responses events) + 1) (acknowledged_responses events)
  -- what is not acknowledged has higher ones than what is
  pub waiting_rise : Rise (unacknowledged_responses events)
  pub others_rise : Rise (acknowledged_responses events)
  pub above : AllByRecursion (λ answer. AllBelow answer.own (acknowledged_responses events)) (unacknowledged_responses events)

pub one_more : (events : List Event) (answer : ReliableResponse) → length (relayed_responses (Relayed answer ∷ events)) ≡ length (relayed_responses events) + 1
one_more events answer = length-append (relayed_responses events) (answer ∷ [])

module _ (events : List Event) (answer : ReliableResponse) (kept : IsKept events) (next : answer.own ≡ length (relayed_responses events) + 1) where
  new_open : is_acknowledged events answer ≡ false
  new_open = below_none answer.own (acknowledged_responses events) (subst (λ (n : ℕ). AllBelow n (acknowledged_responses events)) (sym next) kept.others_below)

  pub unacknowledged_relayed : unacknowledged_responses (Relayed answer ∷ events) ≡ unacknowledged_responses events ++ answer ∷ []
  unacknowledged_relayed =
      filter-append (λ (other : ReliableResponse). not (is_acknowledged events other)) (responses_of_attempt events) (answer ∷ [])
      ∙ ap (λ (b : Bool). unacknowledged_responses events ++ cond (not b) (answer ∷ []) []) new_open

  pub kept_relayed : IsKept (Relayed answer ∷ events)
  kept_relayed =
      let more : length (relayed_responses events) + 1 ≤ length (relayed_responses (Relayed answer ∷ events)) + 1 = omega (arith, one_more events answer) in
      let within : answer.own < length (relayed_responses (Relayed answer ∷ events)) + 1 = omega (arith, one_more events answer) in
      let highest : (answers : List ReliableResponse) → AllBelow (length (relayed_responses events) + 1) answers → AllBelow answer.own answers = λ answers all. subst (λ (n : ℕ). AllBelow n answers) (sym next) all in
      let waiting_below : AllBelow answer.own (unacknowledged_responses events) =
      highest (unacknowledged_responses events) (filtered_below _ (λ (other : ReliableResponse). not (is_acknowledged events other)) (responses_of_attempt events) kept.attempt_below) in
      record {
        attempt_below = all_end (λ (other : ReliableResponse). other.own < length (relayed_responses (Relayed answer ∷ events)) + 1) (responses_of_attempt events) answer
            (all_lower _ _ (responses_of_attempt events) more kept.attempt_below) within;
        others_below = all_lower _ _ (acknowledged_responses events) more kept.others_below;
        waiting_rise = rw unacknowledged_relayed (rise_end (unacknowledged_responses events) answer kept.waiting_rise waiting_below);
        others_rise = kept.others_rise;
        above = rw unacknowledged_relayed (all_end (λ (other : ReliableResponse). AllBelow other.own (acknowledged_responses events)) (unacknowledged_responses events) answer kept.above
            (highest (acknowledged_responses events) kept.others_below));
      }

module _ (events : List Event) (answer : ReliableResponse) (rest : List ReliableResponse) (kept : IsKept events) (first : unacknowledged_responses events ≡ answer ∷ rest) where
  rises : AllAbove answer.own rest × Rise rest
  rises = subst Rise first kept.waiting_rise

  aboves : AllBelow answer.own (acknowledged_responses events) × AllByRecursion (λ other. AllBelow other.own (acknowledged_responses events)) rest
  aboves = subst (AllByRecursion (λ other. AllBelow other.own (acknowledged_responses events))) first kept.above

  pub unacknowledged_acknowledged : unacknowledged_responses (Acknowledged answer ∷ events) ≡ rest
  unacknowledged_acknowledged =
      left_out_same (is_acknowledged (Acknowledged answer ∷ events)) (λ other. is_acknowledged events other || (answer.own == other.own || false))
      (λ other. any_end other.own (acknowledged_responses events) answer) (responses_of_attempt events)
      ∙ left_out_both (is_acknowledged events) (λ other. answer.own == other.own) (responses_of_attempt events)
      ∙ ap (left_out (λ other. answer.own == other.own)) first
      ∙ first_left_out answer rest rises.0

  both_below : (answers : List ReliableResponse) → AllAbove answer.own answers → AllByRecursion (λ other. AllBelow other.own (acknowledged_responses events)) answers
      → AllByRecursion (λ other. AllBelow other.own (acknowledged_responses (Acknowledged answer ∷ events))) answers
  both_below [] high all = tt
  both_below (other ∷ answers) high all = (all_end (λ (x : ReliableResponse). x.own < other.own) (acknowledged_responses events) answer all.0 high.0, both_below answers high.1 all.1)

  pub kept_acknowledged : IsKept (Acknowledged answer ∷ events)
  kept_acknowledged = record {
    attempt_below = kept.attempt_below;
    others_below = all_end (λ (other : ReliableResponse). other.own < length (relayed_responses events) + 1) (acknowledged_responses events) answer kept.others_below
        (first_below _ (λ (other : ReliableResponse). not (is_acknowledged events other)) (responses_of_attempt events) answer rest kept.attempt_below first);
    waiting_rise = rw unacknowledged_acknowledged rises.1;
    others_rise = rise_end (acknowledged_responses events) answer kept.others_rise aboves.0;
    above = rw unacknowledged_acknowledged (both_below rest rises.0 aboves.1);
  }

-- ---- one operation

-- the own number is the next one
pub assigned_next : (rseq own : ℕ) (acks : AcksView) → own_number rseq acks ≡ Some own → own ≡ acks.assigned + 1
assigned_next rseq own acks e = sym (guard_some _ (acks.assigned + 1) own e).1

-- the callee's number is the next one
pub assigned_after : (rseq own : ℕ) (acks : AcksView) → own_number rseq acks ≡ Some own → comes_next rseq acks.last_relayed ≡ true
assigned_after rseq own acks e =
    let tests = guard_some _ (acks.assigned + 1) own e in
    let fits = and_true (comes_next rseq acks.last_relayed && nat_lt (length acks.waiting) most_waiting) (nat_lt acks.assigned greatest_number) tests.0 in
    (and_true (comes_next rseq acks.last_relayed) (nat_lt (length acks.waiting) most_waiting) fits.0).0

-- what the PRACK names is the first
pub named_first : (rack : Rack) (cseq : ℕ) (answers : List ReliableResponse) (answer : ReliableResponse) → response_acknowledged_by rack cseq answers ≡ Some answer →
    (rest : List ReliableResponse) × (answers ≡ answer ∷ rest)
named_first rack cseq [] answer e = absurd cc
named_first rack cseq (first ∷ rest) answer e = (rest, ap (λ (x : ReliableResponse). x ∷ rest) (guard_some (is_acknowledged_by rack cseq first) first answer e).1)

module _ (P : List Event → Type 0) (cseq : ℕ) where
  -- what is true of no events, and is preserved by each result of an operation, is true of those of every list of operations
  pub of_deeds : P []
      → ((events : List Event) (answer : ReliableResponse) → answer.own ≡ length (relayed_responses events) + 1 → comes_next answer.callee (last_number events) ≡ true → IsKept events → P events →
      P (Relayed answer ∷ events))
      → ((events : List Event) (answer : ReliableResponse) (rest : List ReliableResponse) → unacknowledged_responses events ≡ answer ∷ rest → IsKept events → P events → P (Acknowledged answer ∷ events))
      → ((events : List Event) → P events → P (AttemptLeft ∷ events))
      → (ops : List AcksOperation) → IsKept (events_of cseq ops) × P (events_of cseq ops)
  of_deeds none relays acks leaves [] = (record { attempt_below = tt; others_below = tt; waiting_rise = tt; others_rise = tt; above = tt }, none)
  of_deeds none relays acks leaves (op ∷ ops) = by_deed op (of_deeds none relays acks leaves ops)
    where
      by_deed : (op : AcksOperation) → IsKept (events_of cseq ops) × P (events_of cseq ops) → IsKept (events_with_operation cseq op (events_of cseq ops)) × P (events_with_operation cseq op (events_of cseq ops))
      by_deed (Relays rseq) before = by_number (own_number rseq (acks_after cseq (events_of cseq ops))) refl
        where
          by_number : (o : Option ℕ) → own_number rseq (acks_after cseq (events_of cseq ops)) ≡ o → IsKept (events_with_relay rseq o (events_of cseq ops)) × P (events_with_relay rseq o (events_of cseq ops))
          by_number None e = before
          by_number (Some own) e =
              let next : own ≡ length (relayed_responses (events_of cseq ops)) + 1 = assigned_next rseq own (acks_after cseq (events_of cseq ops)) e in
              let answer : ReliableResponse = record { own = own; callee = rseq } in (
                kept_relayed (events_of cseq ops) answer before.0 next,
                relays (events_of cseq ops) answer next (assigned_after rseq own (acks_after cseq (events_of cseq ops)) e) before.0 before.1,
              )
      by_deed (Acknowledges rack) before = by_name (response_acknowledged_by rack cseq (unacknowledged_responses (events_of cseq ops))) refl
        where
          by_name : (o : Option ReliableResponse) → response_acknowledged_by rack cseq (unacknowledged_responses (events_of cseq ops)) ≡ o →
              IsKept (events_with_ack o (events_of cseq ops)) × P (events_with_ack o (events_of cseq ops))
          by_name None e = before
          by_name (Some answer) e =
              let first = named_first rack cseq (unacknowledged_responses (events_of cseq ops)) answer e in
              (kept_acknowledged (events_of cseq ops) answer first.0 before.0 first.1, acks (events_of cseq ops) answer first.0 first.1 before.0 before.1)
      by_deed LeavesAttempt before =
          (record { attempt_below = tt; others_below = before.0.others_below; waiting_rise = tt; others_rise = before.0.others_rise; above = tt }, leaves (events_of cseq ops) before.1)

abbrev nothing : List Event → Type 0
nothing events = Unit {0}

pub kept : (cseq : ℕ) (ops : List AcksOperation) → IsKept (events_of cseq ops)
kept cseq ops = (of_deeds nothing cseq tt (λ events answer next after kept so. tt) (λ events answer rest first kept so. tt) (λ events so. tt) ops).0
