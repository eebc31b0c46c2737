-- What follows a whole request changes nothing of it.
use Rattle.std.proofs.Common.{◌≡◌, ◌≤◌, ◌<◌, ◌-◌, ◌+◌, ◌==◌, ◌∙◌, Bool, true, false, ℕ, zero, suc, List, [], ◌∷◌, ◌++◌, length}
use Rattle.std.proofs.Common.{take, drop, Option, Some, None, refl, sym, ap, subst, nat_lt, arith, inl, inr, append-nil, codes, map}
use Rattle.std.proofs.lemmas.Bool.{cases_Bool, lt-ltb}
use Rattle.std.proofs.lemmas.Bool.Decides.{nat_tests}
use Rattle.std.proofs.lemmas.List.{take-append-drop, take-append-le, take_all, drop-append-le, length-append, length-take}
use Rattle.std.specs.Prelude.{nat_le}
use Rattle.std.specs.Option.{option_map, option_map_or}
use Rattle.httparse.specs.Grammar.{RequestHead}
use Rattle.httparse.specs.Spans.{name_and_value}
use Rattle.mmtel_http.specs.Heads.{head_of}
use Rattle.mmtel_http.specs.Requests.{HttpRequestView, unfinished, bad, max_body, request_by_codings, request_by_end, request_by_head, request_by_lengths, head_end}
use Rattle.mmtel_http.specs.Requests.{head_size, is_decimal_number, lines_of, request_of, sole_value, seen_after, values_named, head_window, with_body, with_first, with_size}
use Rattle.mmtel_http.specs.Completeness.{CompleteRequestsAreFinal, UnfinishedIsShort}
use Rattle.mmtel_base.proofs.NumberTheorems.{number_takes}
use Rattle.mmtel_base.specs.Numbers.{number_of}

-- ---- lines

-- lines, of which the last has no end yet, and what follows it
abbrev joined : List (List ℕ) → List (List ℕ) → List (List ℕ)
joined [] others = others
joined (line ∷ []) [] = line ∷ []
joined (line ∷ []) (first ∷ others) = (line ++ first) ∷ others
joined (line ∷ next ∷ lines) others = line ∷ joined (next ∷ lines) others

joined_first : (b : ℕ) (ls ms : List (List ℕ)) → joined (with_first b ls) ms ≡ with_first b (joined ls ms)
joined_first b [] [] = refl
joined_first b [] (m ∷ ms) = refl
joined_first b (l ∷ []) [] = refl
joined_first b (l ∷ []) (m ∷ ms) = refl
joined_first b (l ∷ k ∷ ls) ms = refl

-- the bytes after a line's end begin a line
joined_end : (ls ms : List (List ℕ)) → (first : List ℕ) (others : List (List ℕ)) → ls ≡ first ∷ others → joined ([] ∷ ls) ms ≡ [] ∷ joined ls ms
joined_end ls ms first others is = rw is refl

some_line : (s : List ℕ) → (first : List ℕ) × (others : List (List ℕ)) × (lines_of s ≡ first ∷ others)
some_line [] = ([], [], refl)
some_line (b ∷ s) = elim (cases_Bool (b == 10)) [
  | inl y ↦ ([], lines_of s, rw y refl)
  | inr n ↦ let rest = some_line s in (b ∷ rest.0, rest.1, rw (n, rest.2) refl)
]

joined_none : (ms : List (List ℕ)) (first : List ℕ) (others : List (List ℕ)) → ms ≡ first ∷ others → joined ([] ∷ []) ms ≡ ms
joined_none ms first others is = rw is refl

lines_append : (s t : List ℕ) → lines_of (s ++ t) ≡ joined (lines_of s) (lines_of t)
lines_append [] t = let some = some_line t in sym (joined_none (lines_of t) some.0 some.1 some.2)
lines_append (b ∷ s) t = elim (cases_Bool (b == 10)) [
  | inl y ↦
      let some = some_line s in
      rw y (ap (λ (ls : List (List ℕ)). [] ∷ ls) (lines_append s t) ∙ sym (joined_end (lines_of s) (lines_of t) some.0 some.1 some.2))
  | inr n ↦ rw n (ap (with_first b) (lines_append s t) ∙ sym (joined_first b (lines_of s) (lines_of t)))
]

-- ---- the end of a head

joined_some : (l : List ℕ) (ls ms : List (List ℕ)) → (first : List ℕ) × (others : List (List ℕ)) × (joined (l ∷ ls) ms ≡ first ∷ others)
joined_some l [] [] = (l, [], refl)
joined_some l [] (m ∷ ms) = (l ++ m, ms, refl)
joined_some l (k ∷ ls) ms = (l, joined (k ∷ ls) ms, refl)

-- the size of a head by its first line
abbrev size_by : Option Bool → List ℕ → List (List ℕ) → Option ℕ
size_by seen line lines = option_map_or (λ s. option_map (λ n. length line + 1 + n) (head_size s lines)) seen (Some (length line + 1))

mapped : (f : ℕ → ℕ) (o p : Option ℕ) (n : ℕ) → ((m : ℕ) → o ≡ Some m → p ≡ Some m) → option_map f o ≡ Some n → option_map f p ≡ Some n
mapped f None p n same e = absurd cc
mapped f (Some m) p n same e = rw (same m refl) e

size_same : (seen : Option Bool) (line : List ℕ) (lines others : List (List ℕ)) (n : ℕ)
    → ((s : Bool) (m : ℕ) → head_size s lines ≡ Some m → head_size s others ≡ Some m) → size_by seen line lines ≡ Some n → size_by seen line others ≡ Some n
size_same None line lines others n same e = e
size_same (Some s) line lines others n same e = mapped (λ k. length line + 1 + k) (head_size s lines) (head_size s others) n (same s) e

size_joined : (ls ms : List (List ℕ)) (seen : Bool) (n : ℕ) → head_size seen ls ≡ Some n → head_size seen (joined ls ms) ≡ Some n
size_joined [] ms seen n e = absurd cc
size_joined (line ∷ []) ms seen n e = absurd cc
size_joined (line ∷ next ∷ more) ms seen n e =
    let some = joined_some next more ms in
    let there : size_by (seen_after seen line) line (joined (next ∷ more) ms) ≡ Some n =
    size_same (seen_after seen line) line (next ∷ more) (joined (next ∷ more) ms) n (λ s m. size_joined (next ∷ more) ms s m) e in
    let P : List (List ℕ) → Type 0 = λ l. head_size seen (line ∷ l) ≡ Some n in
    subst P (sym some.2) (subst (λ (l : List (List ℕ)). size_by (seen_after seen line) line l ≡ Some n) some.2 there)

pub end_is_final : (s t : List ℕ) (n : ℕ) → head_end s ≡ Some n → head_end (s ++ t) ≡ Some n
end_is_final s t n e = ap (head_size false) (lines_append s t) ∙ size_joined (lines_of s) (lines_of t) false n e

-- and it is within them: the lines but the last have an end each
abbrev total : List (List ℕ) → ℕ
total [] = 0
total (line ∷ []) = length line
total (line ∷ next ∷ more) = length line + 1 + total (next ∷ more)

total_first : (b : ℕ) (l : List ℕ) (ls : List (List ℕ)) → total (with_first b (l ∷ ls)) ≡ 1 + total (l ∷ ls)
total_first b l [] = omega arith
total_first b l (k ∷ ls) = omega arith

total_lines : (s : List ℕ) → total (lines_of s) ≡ length s
total_lines [] = refl
total_lines (b ∷ s) =
    let some = some_line s in
    let rest = total_lines s in
    elim (cases_Bool (b == 10)) [
      | inl y ↦
          let there : total ([] ∷ lines_of s) ≡ 1 + total (lines_of s) = rw some.2 refl in
          rw y (omega (arith, there, rest))
      | inr n ↦
          let there : total (with_first b (lines_of s)) ≡ 1 + total (lines_of s) = rw some.2 (total_first b some.0 some.1) in
          rw n (omega (arith, there, rest))
    ]

mapped_some : (k n : ℕ) (o : Option ℕ) → option_map (λ m. k + m) o ≡ Some n → (m : ℕ) × (o ≡ Some m) × (k + m ≡ n)
mapped_some k n None e = absurd cc
mapped_some k n (Some m) e = (m, refl, let same : Some (k + m) ≡ Some n = e in cc)

same_number : (m n : ℕ) → Some m ≡ Some n → m ≡ n
same_number m n e = cc

size_by_within : (seen : Option Bool) (line next : List ℕ) (more : List (List ℕ)) (n : ℕ)
    → ((s : Bool) (m : ℕ) → head_size s (next ∷ more) ≡ Some m → m ≤ total (next ∷ more)) → size_by seen line (next ∷ more) ≡ Some n → n ≤ length line + 1 + total (next ∷ more)
size_by_within None line next more n rest e = let same : length line + 1 ≡ n = same_number _ n e in omega (arith, same)
size_by_within (Some s) line next more n rest e =
    let one = mapped_some (length line + 1) n (head_size s (next ∷ more)) e in
    let less = rest s one.0 one.1 in
    let is = one.2 in
    omega (arith, less, is)

size_within : (ls : List (List ℕ)) (seen : Bool) (n : ℕ) → head_size seen ls ≡ Some n → n ≤ total ls
size_within [] seen n e = absurd cc
size_within (line ∷ []) seen n e = absurd cc
size_within (line ∷ next ∷ more) seen n e = size_by_within (seen_after seen line) line next more n (λ s m. size_within (next ∷ more) s m) e

pub end_within : (s : List ℕ) (n : ℕ) → head_end s ≡ Some n → n ≤ length s
end_within s n e = let less = size_within (lines_of s) false n e in let all = total_lines s in omega (arith, less, all)

-- ---- the request

abbrev fields_of : RequestHead → List (List ℕ × List ℕ)
fields_of h = map name_and_value h.fields

abbrev request_view_of : RequestHead → ℕ → List ℕ → HttpRequestView
request_view_of h len rest = record {
  method = h.method;
  target = h.target;
  identity = sole_value (values_named (codes "x-3gpp-asserted-identity") (fields_of h));
  kind = sole_value (values_named (codes "content-type") (fields_of h));
  body = rest;
  len = len;
}

module _ (more : List ℕ) where
  body_is_final : (a : HttpRequestView) (size : ℕ) → (with_body a size ≡ unfinished → ⊥) → with_body (record a { body = a.body ++ more }) size ≡ with_body a size
  body_is_final a size whole = elim (cases_Bool (nat_le size (length a.body))) [
    | inl y ↦
        let less : size ≤ length a.body = grind (arith, nat_tests, y) in
        let long : nat_le size (length (a.body ++ more)) ≡ true = grind (arith, nat_tests, less, length-append a.body more) in
        rw (y, long, take-append-le size a.body more less) refl
    | inr n ↦ absurd (whole (rw n refl))
  ]

  size_is_final : (a : HttpRequestView) (o : Option ℕ) → (with_size a o ≡ unfinished → ⊥) → with_size (record a { body = a.body ++ more }) o ≡ with_size a o
  size_is_final a None whole = refl
  size_is_final a (Some size) whole = body_is_final a size whole

  lengths_are_final : (a : HttpRequestView) (vs : List (List ℕ)) → (request_by_lengths a vs ≡ unfinished → ⊥) → request_by_lengths (record a { body = a.body ++ more }) vs ≡ request_by_lengths a vs
  lengths_are_final a [] whole = body_is_final a 0 whole
  lengths_are_final a (v ∷ []) whole = elim (cases_Bool (is_decimal_number v)) [
    | inl y ↦ rw y (size_is_final a _ (λ e. whole (rw y e)))
    | inr n ↦ rw n refl
  ]
  lengths_are_final a (v ∷ w ∷ vs) whole = refl

  codings_are_final : (a : HttpRequestView) (cs vs : List (List ℕ)) → (request_by_codings a cs vs ≡ unfinished → ⊥) → request_by_codings (record a { body = a.body ++ more }) cs vs ≡ request_by_codings a cs vs
  codings_are_final a [] vs whole = lengths_are_final a vs whole
  codings_are_final a (c ∷ cs) vs whole = refl

  head_is_final : (h : Option RequestHead) (len : ℕ) (rest : List ℕ) → (request_by_head h len rest ≡ unfinished → ⊥) → request_by_head h len (rest ++ more) ≡ request_by_head h len rest
  head_is_final None len rest whole = refl
  head_is_final (Some h) len rest whole = codings_are_final (request_view_of h len rest) (values_named (codes "transfer-encoding") (fields_of h)) (values_named (codes "content-length") (fields_of h)) whole

-- ---- the whole

take_past : (n : ℕ) (xs ys : List ℕ) → length xs ≤ n → take n (xs ++ ys) ≡ xs ++ take (n - length xs) ys
take_past n [] ys less = let same : n ≡ n - 0 = omega arith in ap (λ (k : ℕ). take k ys) same
take_past zero (x ∷ xs) ys less = absurd (omega (arith, less))
take_past (suc n) (x ∷ xs) ys less =
    let same : n - length xs ≡ suc n - length (x ∷ xs) = omega arith in
    ap (λ (l : List ℕ). x ∷ l) (take_past n xs ys (omega (arith, less)) ∙ ap (λ (k : ℕ). xs ++ take k ys) same)

-- the window of more bytes begins with the window of fewer
window_more : (front more : List ℕ) → (rest : List ℕ) × (take head_window (front ++ more) ≡ take head_window front ++ rest)
window_more front more = elim (cases_Bool (nat_lt (length front) head_window)) [
  | inl y ↦
      let short : length front < head_window = grind (arith, nat_tests, y) in
      let less : length front ≤ head_window = omega (arith, short) in
      (take (head_window - length front) more, take_past head_window front more less ∙ ap (λ (l : List ℕ). l ++ take (head_window - length front) more) (sym (take_all head_window front less)))
  | inr n ↦
      let long : head_window ≤ length front = grind (arith, nat_tests, n) in
      ([], take-append-le head_window front more long ∙ sym (append-nil (take head_window front)))
]

module _ (front more : List ℕ) where
  -- no head ended in the window, and it is full
  full_is_final : (head_window < length front) → head_end (take head_window front) ≡ None → request_by_end (front ++ more) (head_end (take head_window (front ++ more))) ≡ bad
  full_is_final long e =
      let less : head_window ≤ length front = omega (arith, long) in
      let longer : nat_lt head_window (length (front ++ more)) ≡ true = lt-ltb head_window (length (front ++ more)) (omega (arith, long, length-append front more)) in
      rw (take-append-le head_window front more less, e, longer) refl

  none_is_final : head_end (take head_window front) ≡ None → (request_by_end front None ≡ unfinished → ⊥) → request_by_end (front ++ more) (head_end (take head_window (front ++ more))) ≡ request_by_end front None
  none_is_final e whole = elim (cases_Bool (nat_lt head_window (length front))) [
    | inl y ↦ let long : head_window < length front = grind (arith, nat_tests, y) in rw y (full_is_final long e)
    | inr n ↦ absurd (whole (rw n refl))
  ]

  -- one did
  some_is_final : (n : ℕ) → head_end (take head_window front) ≡ Some n → (request_by_end front (Some n) ≡ unfinished → ⊥) →
      request_by_end (front ++ more) (head_end (take head_window (front ++ more))) ≡ request_by_end front (Some n)
  some_is_final n e whole =
      let window_is = window_more front more in
      let there : head_end (take head_window (front ++ more)) ≡ Some n = ap head_end window_is.1 ∙ end_is_final (take head_window front) window_is.0 n e in
      let within : n ≤ length (take head_window front) = end_within (take head_window front) n e in
      let cut : length (take head_window front) ≤ length front = let l = length-take head_window front in omega (arith, l) in
      let less : n ≤ length front = omega (arith, within, cut) in
      ap (request_by_end (front ++ more)) there
      ∙ (ap (λ (h : List ℕ). request_by_head (head_of h) n (drop n (front ++ more))) (take-append-le n front more less)
      ∙ (ap (request_by_head (head_of (take n front)) n) (drop-append-le n front more less)
      ∙ head_is_final more (head_of (take n front)) n (drop n front) whole))

  by_end_is_final : (o : Option ℕ) → head_end (take head_window front) ≡ o → (request_by_end front o ≡ unfinished → ⊥) →
      request_by_end (front ++ more) (head_end (take head_window (front ++ more))) ≡ request_by_end front o
  by_end_is_final None e whole = none_is_final e whole
  by_end_is_final (Some n) e whole = some_is_final n e whole

pub complete_requests_are_final : CompleteRequestsAreFinal
unfolding request_of
complete_requests_are_final front more whole = by_end_is_final front more (head_end (take head_window front)) refl whole

-- ---- what is not yet whole is short

size_short : (a : HttpRequestView) (size : ℕ) → with_body a size ≡ unfinished → length a.body < size
size_short a size e = elim (cases_Bool (nat_le size (length a.body))) [
  | inl y ↦ absurd (let wrong = rw y at e in cc)
  | inr n ↦ grind (arith, nat_tests, n)
]

number_short : (a : HttpRequestView) (o : Option ℕ) → ((n : ℕ) → o ≡ Some n → n ≤ max_body) → with_size a o ≡ unfinished → length a.body < max_body
number_short a None less e = absurd cc
number_short a (Some size) less e = let here = size_short a size e in let most = less size refl in omega (arith, here, most)

lengths_short : (a : HttpRequestView) (vs : List (List ℕ)) → request_by_lengths a vs ≡ unfinished → length a.body < max_body
lengths_short a [] e = let here = size_short a 0 e in absurd (omega (arith, here))
lengths_short a (v ∷ []) e = elim (cases_Bool (is_decimal_number v)) [
  | inl y ↦ number_short a (number_of max_body v) (λ n is. (number_takes max_body v n is).1) (rw y at e)
  | inr n ↦ absurd (let wrong = rw n at e in cc)
]
lengths_short a (v ∷ w ∷ vs) e = absurd cc

codings_short : (a : HttpRequestView) (cs vs : List (List ℕ)) → request_by_codings a cs vs ≡ unfinished → length a.body < max_body
codings_short a [] vs e = lengths_short a vs e
codings_short a (c ∷ cs) vs e = absurd cc

head_short : (h : Option RequestHead) (len : ℕ) (rest : List ℕ) → request_by_head h len rest ≡ unfinished → length rest < max_body
head_short None len rest e = absurd cc
head_short (Some h) len rest e = codings_short (request_view_of h len rest) (values_named (codes "transfer-encoding") (fields_of h)) (values_named (codes "content-length") (fields_of h)) e

end_short : (bytes : List ℕ) (o : Option ℕ) → head_end (take head_window bytes) ≡ o → request_by_end bytes o ≡ unfinished → length bytes < head_window + max_body + 1
end_short bytes None is e = elim (cases_Bool (nat_lt head_window (length bytes))) [
  | inl y ↦ absurd (let wrong = rw y at e in cc)
  | inr n ↦ let less : length bytes ≤ head_window = grind (arith, nat_tests, n) in omega (arith, less)
]
end_short bytes (Some n) is e =
    let within = end_within (take head_window bytes) n is in
    let cut = length-take head_window bytes in
    let rest = head_short (head_of (take n bytes)) n (drop n bytes) e in
    let whole : length bytes ≡ length (take n bytes) + length (drop n bytes) = ap (λ (l : List ℕ). length l) (sym (take-append-drop n bytes)) ∙ length-append (take n bytes) (drop n bytes) in
    let front = length-take n bytes in
    omega (arith, within, cut, rest, whole, front)

pub unfinished_is_short : UnfinishedIsShort
unfolding request_of
unfinished_is_short bytes e = end_short bytes (head_end (take head_window bytes)) refl e
