-- A cause that is put into a URI is read there, as the only one; and nothing else changes.
use Rattle.std.proofs.Common.{◌≡◌, ◌==◌, true, false, not, ℕ, zero, suc, ◌^◌, ◌≤◌, ◌<◌, List, [], ◌∷◌, ◌++◌, length, drop, Option, Some, None, refl, sym, ap, ◌∙◌, arith, inl, inr, nat_lt, ◌+◌, cond}
use Rattle.std.specs.Prelude.{codes, decimal, filter, count_by}
use Rattle.std.specs.List.{list_all, list_any, find}
use Rattle.std.specs.Option.{option_or}
use Rattle.std.specs.Str.Parse.{digits_value, AllDigits}
use Rattle.std.specs.Char.{digit_value}
use Rattle.std.proofs.lemmas.Bool.{cases_Bool}
use Rattle.std.proofs.lemmas.Bool.Decides.{nat_tests}
use Rattle.std.proofs.lemmas.Fmt.{decimal_is_IsNumeral, length-decimal-le}
use Rattle.std.proofs.lemmas.Int.Digits.{digits_value-lt}
use Rattle.std.proofs.lemmas.List.{append-nil}
use Rattle.std.proofs.lemmas.List.Folds.{list_all-append, find-append}
use Rattle.std.proofs.lemmas.List.Sums.{sum_by-append, sum_by-cons}
use Rattle.mmtel_base.specs.Classes.{in_class, IsAll}
use Rattle.mmtel_base.specs.Numbers.{Writes}
use Rattle.mmtel_base.specs.declared.classes.Class.TheVariants.{Digit}
use Rattle.mmtel_base.specs.Scanning.{split_once_at, IsFree}
use Rattle.mmtel_base.proofs.NumberTheorems.{number_again}
use Rattle.mmtel_base.proofs.Numerals.{decimal_writes}
use Rattle.mmtel_base.proofs.Runs.{and_true, class_free, split_again, split_free, split_front, split_none, split_takes}
use Rattle.mmtel_lex.proofs.UriPartTheorems.{whole_uri, host_free, new_host, new_user, free_parts, parts_filled, parts_more, drop_one}
use Rattle.mmtel_lex.specs.UriParts.{parts, prefix_or_all, rest_or_none, text_after, user_part, host_part, host_and_params, uri_params, header_parts}
use Rattle.mmtel_history.specs.EntryUri.{is_cause, cause_in, cause_number, cause_of, causes_in, has_cause, is_marked, headers_from, host_part_without_causes, with_host_part, cause_text, without_cause, with_cause}
use Rattle.mmtel_history.proofs.HostPartTheorems.{none_left, plain_all, plain_params, plain_none}
use Rattle.mmtel_history.proofs.UriTheorems.{same_mark}

-- ---- digits

pub decimal_digits : (n : ℕ) → n < 65536 → IsAll Digit (decimal n)
decimal_digits n lt = (decimal_writes n (omega arith)).digits.each

three : (l n : ℕ) → n < 10 ^ l → 100 ≤ n → l ≤ 3 → l ≡ 3
three zero n lt low le = absurd (omega arith)
three (suc zero) n lt low le = absurd (omega arith)
three (suc (suc zero)) n lt low le = absurd (omega arith)
three (suc (suc (suc l))) n lt low le = omega arith

not_under : (n m : ℕ) → m ≤ n → nat_lt n m ≡ false
not_under n m le = grind (arith, nat_tests)

pub number_theorem : (n : ℕ) → 100 ≤ n → n ≤ 699 → cause_number (decimal n) ≡ Some n
unfolding cause_number
number_theorem n low high =
    let numeral = decimal_is_IsNumeral n (omega arith) in
    let short : length (decimal n) ≤ 3 = length-decimal-le 3 n (omega arith) (omega arith) (omega arith) in
    let bound : digits_value 10 (decimal n) < 10 ^ length (decimal n) = digits_value-lt 10 (decimal n) numeral.0.1 in
    let within : n < 10 ^ length (decimal n) = rw numeral.1 at bound in
    let len : length (decimal n) ≡ 3 = three (length (decimal n)) n within low short in
    let writes = decimal_writes n (omega arith) in
    rw (len, number_again 699 (decimal n) n writes high, not_under n 100 low) refl

-- ---- the place of the cause

free_both : (b : ℕ) (s t : List ℕ) → IsFree b s → IsFree b t → IsFree b (s ++ t)
free_both b s t x y = rw (list_all-append, x, y) refl

free_split : (b : ℕ) (s t : List ℕ) → IsFree b (s ++ t) → IsFree b s × IsFree b t
free_split b s t free = and_true (list_all (λ x. not (x == b)) s) (list_all (λ x. not (x == b)) t) (rw list_all-append at free)

question : in_class Digit 63 ≡ false
unfolding in_class
question = refl

at_sign : in_class Digit 64 ≡ false
unfolding in_class
at_sign = refl

semicolon : in_class Digit 59 ≡ false
unfolding in_class
semicolon = refl

-- ---- another host and other parameters

front_free : (h : List ℕ) (o : Option (List ℕ × List ℕ)) → split_once_at 63 h ≡ o → IsFree 63 (prefix_or_all h o)
front_free h None e = split_none 63 h e
front_free h (Some x) e = split_front 63 h x e

front_clear : (h : List ℕ) (o : Option (List ℕ × List ℕ)) → split_once_at 63 h ≡ o → IsFree 64 h → IsFree 64 (prefix_or_all h o)
front_clear h None e clear = clear
front_clear h (Some x) e clear = (free_split 64 x.0 (63 ∷ x.1) (rw (split_takes 63 h x e) at clear)).0

headers_clear : (h : List ℕ) (o : Option (List ℕ × List ℕ)) → split_once_at 63 h ≡ o → IsFree 64 h → IsFree 64 (headers_from o)
headers_clear h None e clear = refl
headers_clear h (Some x) e clear = (free_split 64 x.0 (63 ∷ x.1) (rw (split_takes 63 h x e) at clear)).1

abbrev new_parts : List ℕ → Option (List ℕ × List ℕ) → Option (List ℕ × List ℕ)
new_parts f None = None
new_parts f (Some x) = Some (f, x.1)

split_new : (f : List ℕ) (o : Option (List ℕ × List ℕ)) → IsFree 63 f → split_once_at 63 (f ++ headers_from o) ≡ new_parts f o
split_new f None free = ap (λ (l : List ℕ). split_once_at 63 l) (append-nil f) ∙ split_free 63 f free
split_new f (Some x) free = split_again 63 f x.1 free

front_new : (f : List ℕ) (o : Option (List ℕ × List ℕ)) → prefix_or_all (f ++ headers_from o) (new_parts f o) ≡ f
front_new f None = append-nil f
front_new f (Some x) = refl

back_new : (f : List ℕ) (o : Option (List ℕ × List ℕ)) → rest_or_none (new_parts f o) ≡ rest_or_none o
back_new f None = refl
back_new f (Some x) = refl

headers_new : (f : List ℕ) (o : Option (List ℕ × List ℕ)) → headers_from (new_parts f o) ≡ headers_from o
headers_new f None = refl
headers_new f (Some x) = refl

-- what is between the last '@' and the '?' is this, and nothing else changed
record Rebuilt (f u : List ℕ) : Type 0 where
  user : user_part (with_host_part f u) ≡ user_part u
  front : host_and_params (with_host_part f u) ≡ f
  back : text_after 63 (host_part (with_host_part f u)) ≡ text_after 63 (host_part u)
  headers : headers_from (split_once_at 63 (host_part (with_host_part f u))) ≡ headers_from (split_once_at 63 (host_part u))

rebuilt : (f u : List ℕ) → IsFree 63 f → IsFree 64 f → Rebuilt f u
rebuilt f u free clear =
    let tail : List ℕ = f ++ headers_from (split_once_at 63 (host_part u)) in
    let tail_clear : IsFree 64 (f ++ headers_from (split_once_at 63 (host_part u))) =
    free_both 64 f (headers_from (split_once_at 63 (host_part u))) clear (headers_clear (host_part u) (split_once_at 63 (host_part u)) refl (host_free u)) in
    let host : host_part (with_host_part f u) ≡ f ++ headers_from (split_once_at 63 (host_part u)) = new_host u (f ++ headers_from (split_once_at 63 (host_part u))) tail_clear in
    let at : split_once_at 63 (host_part (with_host_part f u)) ≡ new_parts f (split_once_at 63 (host_part u)) = ap (λ (l : List ℕ). split_once_at 63 l) host ∙ split_new f (split_once_at 63 (host_part u)) free in
    record {
      user = new_user u (f ++ headers_from (split_once_at 63 (host_part u))) tail_clear;
      front = ap (λ (l : List ℕ). prefix_or_all l (split_once_at 63 l)) host ∙ ap (λ (o : Option (List ℕ × List ℕ)). prefix_or_all (f ++ headers_from (split_once_at 63 (host_part u))) o)
          (split_new f (split_once_at 63 (host_part u)) free) ∙ front_new f (split_once_at 63 (host_part u));
      back = ap (λ (o : Option (List ℕ × List ℕ)). rest_or_none o) at ∙ back_new f (split_once_at 63 (host_part u));
      headers = ap (λ (o : Option (List ℕ × List ℕ)). headers_from o) at ∙ headers_new f (split_once_at 63 (host_part u));
    }

same_front : (f u v : List ℕ) → user_part v ≡ user_part u → headers_from (split_once_at 63 (host_part v)) ≡ headers_from (split_once_at 63 (host_part u)) → with_host_part f v ≡ with_host_part f u
same_front f u v user headers = rw (user, headers) refl

front_back : (h : List ℕ) (o : Option (List ℕ × List ℕ)) → split_once_at 63 h ≡ o → h ≡ prefix_or_all h o ++ headers_from o
front_back h None e = sym (append-nil h)
front_back h (Some x) e = split_takes 63 h x e

-- its own host and parameters give the URI again
own_front : (u : List ℕ) → with_host_part (host_and_params u) u ≡ u
own_front u = sym (whole_uri u ∙ ap (λ (l : List ℕ). user_part u ++ l) (front_back (host_part u) (split_once_at 63 (host_part u)) refl))

plain_free : (u : List ℕ) → IsFree 63 (host_part_without_causes (host_and_params u))
plain_free u = plain_all (λ x. not (x == 63)) (host_and_params u) refl (front_free (host_part u) (split_once_at 63 (host_part u)) refl)

plain_clear : (u : List ℕ) → IsFree 64 (host_part_without_causes (host_and_params u))
plain_clear u = plain_all (λ x. not (x == 64)) (host_and_params u) refl (front_clear (host_part u) (split_once_at 63 (host_part u)) refl (host_free u))

-- ---- a URI without its causes

plain_rebuilt : (u : List ℕ) → Rebuilt (host_part_without_causes (host_and_params u)) u
plain_rebuilt u = rebuilt (host_part_without_causes (host_and_params u)) u (plain_free u) (plain_clear u)

pub without_params : (u : List ℕ) → uri_params (without_cause u) ≡ filter (λ p. not (is_cause p)) (uri_params u)
unfolding without_cause
without_params u = ap (λ (f : List ℕ). drop 1 (parts 59 f)) (plain_rebuilt u).front ∙ plain_params (host_and_params u)

pub without_none : (u : List ℕ) → has_cause (without_cause u) ≡ false
without_none u = ap (λ (l : List (List ℕ)). list_any is_cause l) (without_params u) ∙ none_left is_cause (uri_params u)

pub without_user : (u : List ℕ) → user_part (without_cause u) ≡ user_part u
unfolding without_cause
without_user u = (plain_rebuilt u).user

pub without_headers : (u : List ℕ) → header_parts (without_cause u) ≡ header_parts u
unfolding without_cause
without_headers u = ap (λ (l : List ℕ). parts 38 l) (plain_rebuilt u).back

pub without_mark : (u : List ℕ) → is_marked (without_cause u) ≡ is_marked u
unfolding without_cause
without_mark u = same_mark (without_cause u) u (plain_rebuilt u).back

pub without_plain : (u : List ℕ) → has_cause u ≡ false → without_cause u ≡ u
unfolding without_cause
without_plain u none = ap (λ (f : List ℕ). with_host_part f u) (plain_none (host_and_params u) none) ∙ own_front u

pub without_once : (u : List ℕ) → without_cause (without_cause u) ≡ without_cause u
without_once u = without_plain (without_cause u) (without_none u)

-- ---- a URI with a cause

abbrev uri_with_cause : ℕ → List ℕ → List ℕ
uri_with_cause n u = host_part_without_causes (host_and_params u) ++ cause_text (Some n)

cause_free : (n : ℕ) → n < 65536 → IsFree 63 (cause_text (Some n))
cause_free n lt = free_both 63 (codes ";cause=") (decimal n) refl (class_free Digit 63 question (decimal n) (decimal_digits n lt))

cause_clear : (n : ℕ) → n < 65536 → IsFree 64 (cause_text (Some n))
cause_clear n lt = free_both 64 (codes ";cause=") (decimal n) refl (class_free Digit 64 at_sign (decimal n) (decimal_digits n lt))

cause_rebuilt : (n : ℕ) (u : List ℕ) → n < 65536 → Rebuilt (uri_with_cause n u) u
cause_rebuilt n u lt =
    rebuilt (uri_with_cause n u) u (free_both 63 (host_part_without_causes (host_and_params u)) (cause_text (Some n)) (plain_free u) (cause_free n lt))
    (free_both 64 (host_part_without_causes (host_and_params u)) (cause_text (Some n)) (plain_clear u) (cause_clear n lt))

-- the mark is as it was
pub cause_keeps_mark : (n : ℕ) (u : List ℕ) → n < 65536 → is_marked (with_cause n u) ≡ is_marked u
unfolding with_cause
cause_keeps_mark n u lt = same_mark (with_cause n u) u (cause_rebuilt n u lt).back

-- ---- the cause is read again

abbrev param : List ℕ → List ℕ
param d = codes "cause=" ++ d

named : (d : List ℕ) → is_cause (param d) ≡ true
named d = let at : split_once_at 61 (param d) ≡ Some (codes "cause", d) = split_again 61 (codes "cause") d refl in rw at refl

value : (d : List ℕ) → text_after 61 (param d) ≡ d
value d = let at : split_once_at 61 (param d) ≡ Some (codes "cause", d) = split_again 61 (codes "cause") d refl in rw at refl

find_none : (ps : List (List ℕ)) → list_any is_cause ps ≡ false → find is_cause ps ≡ None
find_none [] e = refl
find_none (p ∷ ps) e =
    elim (cases_Bool (is_cause p)) [
      | inl y ↦ absurd (let f = rw y at e in cc)
      | inr n ↦ rw n (find_none ps (rw n at e))
    ]

found : (ps : List (List ℕ)) (d : List ℕ) → list_any is_cause ps ≡ false → find is_cause (ps ++ param d ∷ []) ≡ Some (param d)
found ps d none =
    let last : find is_cause (param d ∷ []) ≡ Some (param d) = rw (named d) refl in
    find-append is_cause ps (param d ∷ []) ∙ ap (λ (o : Option (List ℕ)). option_or o (find is_cause (param d ∷ []))) (find_none ps none) ∙ last

params_with : (a d : List ℕ) → IsAll Digit d → drop 1 (parts 59 (a ++ (codes ";cause=" ++ d))) ≡ drop 1 (parts 59 a) ++ param d ∷ []
params_with a d each =
    let one : parts 59 (param d) ≡ param d ∷ [] = free_parts 59 (param d) (free_both 59 (codes "cause=") d refl (class_free Digit 59 semicolon d each)) in
    ap (λ (l : List (List ℕ)). drop 1 l) (parts_more 59 a (param d)) ∙ drop_one (parts 59 a) (parts 59 (param d)) (parts_filled 59 a) ∙ ap (λ (l : List (List ℕ)). drop 1 (parts 59 a) ++ l) one

-- the parameters except the causes, and then the cause
params_by : (n : ℕ) (u : List ℕ) → n < 65536 → uri_params (with_cause n u) ≡ filter (λ p. not (is_cause p)) (uri_params u) ++ param (decimal n) ∷ []
unfolding with_cause
params_by n u lt =
    ap (λ (f : List ℕ). drop 1 (parts 59 f)) (cause_rebuilt n u lt).front ∙ params_with (host_part_without_causes (host_and_params u)) (decimal n) (decimal_digits n lt)
    ∙ ap (λ (l : List (List ℕ)). l ++ param (decimal n) ∷ []) (plain_params (host_and_params u))

pub cause_theorem : (n : ℕ) (u : List ℕ) → 100 ≤ n → n ≤ 699 → cause_of (with_cause n u) ≡ Some n
unfolding cause_of
cause_theorem n u low high =
    let lt : n < 65536 = omega arith in
    ap (λ (l : List (List ℕ)). cause_in (find is_cause l)) (params_by n u lt) ∙ ap (λ (o : Option (List ℕ)). cause_in o)
    (found (filter (λ p. not (is_cause p)) (uri_params u)) (decimal n) (none_left is_cause (uri_params u))) ∙ ap (λ (d : List ℕ). cause_number d) (value (decimal n)) ∙ number_theorem n low high

none_counted : (ps : List (List ℕ)) → list_any is_cause ps ≡ false → count_by is_cause ps ≡ 0
none_counted [] none = refl
none_counted (p ∷ ps) none =
    elim (cases_Bool (is_cause p)) [
      | inl y ↦ absurd (let f = rw y at none in cc)
      | inr n ↦
          let more : count_by is_cause ps ≡ 0 = none_counted ps (rw n at none) in
          let unit : ℕ = cond (is_cause p) 1 0 in
          let one : count_by is_cause (p ∷ ps) ≡ unit + count_by is_cause ps = sum_by-cons (λ x. cond (is_cause x) 1 0) p ps in
          let here : unit ≡ 0 = rw n refl in
          omega (arith, one, here, more)
    ]

-- the cause is the only one
pub cause_alone : (n : ℕ) (u : List ℕ) → n < 65536 → causes_in (with_cause n u) ≡ 1
cause_alone n u lt =
    let rest : List (List ℕ) = filter (λ p. not (is_cause p)) (uri_params u) in
    let all : causes_in (with_cause n u) ≡ count_by is_cause (filter (λ p. not (is_cause p)) (uri_params u) ++ param (decimal n) ∷ []) = ap (λ (l : List (List ℕ)). count_by is_cause l) (params_by n u lt) in
    let both : count_by is_cause (filter (λ p. not (is_cause p)) (uri_params u) ++ param (decimal n) ∷ []) ≡ count_by is_cause (filter (λ p. not (is_cause p)) (uri_params u))
    + count_by is_cause (param (decimal n) ∷ []) = sum_by-append (λ x. cond (is_cause x) 1 0) (filter (λ p. not (is_cause p)) (uri_params u)) (param (decimal n) ∷ []) in
    let none : count_by is_cause (filter (λ p. not (is_cause p)) (uri_params u)) ≡ 0 = none_counted (filter (λ p. not (is_cause p)) (uri_params u)) (none_left is_cause (uri_params u)) in
    let last : count_by is_cause (param (decimal n) ∷ []) ≡ 1 = rw (named (decimal n)) refl in
    omega (arith, all, both, none, last)
