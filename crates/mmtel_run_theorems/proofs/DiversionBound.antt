-- A call reaches at most one target more than the bound on diversions, and so it has no more INVITEs.
use Rattle.std.proofs.Common.{◌≡◌, ℕ, ◌+◌, ◌≤◌, Bool, true, false, List, [], ◌∷◌, ◌++◌, length, refl, ap, arith, le_refl}
use Rattle.std.specs.Prelude.{max, cond, count_by, IsSome, if◌then◌else◌, nat_lt}
use Rattle.std.specs.List.{AllByRecursion}
use Rattle.std.proofs.lemmas.List.Sums.{sum_by-append, sum_by-cons}
use Rattle.mmtel_call_services.specs.declared.openings.Opening.{Opening}
use Rattle.mmtel_call_theorems.specs.Labels.{Accepted, Refused, Label, final_label, label_if, request_uri_at, label_of_result, labels_of_targets}
use Rattle.mmtel_precedence.specs.Calls.{Answered, CallResult, Final, NotOffered, OfferState, Offered, Outcome, OutcomeTarget, Pending}
use Rattle.mmtel_precedence.specs.Theorems.{is_diverted_to, targets_after_first}
use Rattle.mmtel_types.specs.Causes.{status_of}
use Rattle.mmtel_run_theorems.specs.Outcome.{is_invited}

-- ---- targets

count-more : (p : OutcomeTarget → Bool) (x : OutcomeTarget) (xs : List OutcomeTarget) → count_by p xs ≤ count_by p (x ∷ xs)
count-more p x xs = omega (arith, sum_by-cons (λ (t : OutcomeTarget). cond (p t) 1 0) x xs)

diverted : (xs : List OutcomeTarget) → AllByRecursion (λ (target : OutcomeTarget). IsSome target.diversion) xs → length xs ≤ count_by is_diverted_to xs
diverted [] h = le_refl 0
diverted (x ∷ xs) h =
    let one : ◌≡◌ {A = ℕ} (cond (is_diverted_to x) 1 0) 1 = ap (λ (b : Bool). cond b 1 0) h.0 in
    omega (arith, sum_by-cons (λ (t : OutcomeTarget). cond (is_diverted_to t) 1 0) x xs, one, diverted xs h.1)

pub targets_few : (xs : List OutcomeTarget) → AllByRecursion (λ (target : OutcomeTarget). IsSome target.diversion) (targets_after_first xs) → length xs ≤ count_by is_diverted_to xs + 1
targets_few [] h = omega arith
targets_few (x ∷ xs) h = omega (arith, diverted xs h, count-more is_diverted_to x xs)

-- ---- INVITEs

count-append : (xs ys : List Label) → count_by is_invited (xs ++ ys) ≡ count_by is_invited xs + count_by is_invited ys
count-append xs ys = sum_by-append (λ (x : Label). cond (is_invited x) 1 0) xs ys

one-sign : (offer : OfferState) (uri : List ℕ) → count_by is_invited (label_if offer uri) ≤ 1
one-sign NotOffered uri = omega arith
one-sign (Offered waiting) uri = omega arith

no-final : (code : ℕ) → count_by is_invited (final_label code) ≡ 0
no-final code = go (nat_lt code 200) (nat_lt code 300)
  where
    go : (a b : Bool) → count_by is_invited (if a then [] else if b then Accepted ∷ [] else Refused code ∷ []) ≡ 0
    go true b = refl
    go false true = refl
    go false false = refl

no-invite : (r : CallResult) → count_by is_invited (label_of_result r) ≡ 0
no-invite Pending = refl
no-invite Answered = refl
no-invite (Final cause) = no-final (status_of cause)

target-signs : (o : Opening) (xs : List OutcomeTarget) → count_by is_invited (labels_of_targets o xs) ≤ length xs
target-signs o [] = le_refl 0
target-signs o (x ∷ xs) =
    omega (arith, count-append (label_if x.offer (request_uri_at o x.diversion x.uri)) (labels_of_targets o xs), one-sign x.offer (request_uri_at o x.diversion x.uri), target-signs o xs)

pub invites_few : (o : Opening) (x : Outcome) → count_by is_invited (labels_of_targets o x.targets ++ label_of_result x.result) ≤ length x.targets
invites_few o x = omega (arith, count-append (labels_of_targets o x.targets) (label_of_result x.result), no-invite x.result, target-signs o x.targets)

-- ---- the bound

pub within : (received made bound targets : ℕ) → received + made ≤ max bound received → targets ≤ made + 1 → targets ≤ bound + 1
within received made bound targets h g = omega (arith, h, g)
