-- What is read is spelled so, and what is spelled so is read: URIs.
use Rattle.std.proofs.Common.{◌≡◌, ◌≢◌, ◌⊎◌, inl, inr, ◌==◌, Bool, true, false, ℕ, List, [], ◌∷◌, ◌++◌, Option, Some, None, Result, Ok, Err, refl, ap, subst, ◌∙◌, arith}
use Rattle.std.specs.Prelude.{codes}
use Rattle.std.specs.List.{list_all, list_any}
use Rattle.std.specs.Str.{str_eq_ignore_ascii_case, str_to_ascii_lowercase}
use Rattle.std.proofs.lemmas.Slice.Eq.{bytes_eq-Decides}
use Rattle.std.proofs.lemmas.List.{append-nil}
use Rattle.std.proofs.lemmas.Bool.{cases_Bool, false_from_ne_true}
use Rattle.std.proofs.lemmas.Bool.Decides.{nat_tests}
use Rattle.mmtel_base.specs.Classes.{in_class, is_letter, is_digit}
use Rattle.mmtel_base.specs.Scanning.{leading_run, after_run, after_byte}
use Rattle.mmtel_base.specs.Classes.{IsAll, Stops}
use Rattle.mmtel_lex.specs.Grammar.{params_text, IsTel, IsNumber, IsSchemeName, BeginsWith, IsNamed, IsRest, IsUri, IsForeign}
use Rattle.mmtel_base.specs.Chain.{◌>>=◌}
use Rattle.mmtel_lex.specs.Reading.{all_params_at, sip_of, scheme_of, scheme_from, sign_of, sign_from, number_at, tel_parts, tel_of, at_end, Refusal, foreign, or_malformed, uri_from, uri_of, begins_with_letter}
use Rattle.mmtel_base.specs.declared.classes.Class.TheVariants.{Letter, Digit, Phone, SchemeRest, UriByte}
use Rattle.mmtel_lex.specs.declared.values.Param.{Param}
use Rattle.mmtel_lex.specs.declared.values.Uri.{Uri}
use Rattle.mmtel_lex.specs.declared.values.Uri.TheVariants.{Sip, Tel}
use Rattle.mmtel_base.proofs.Runs.{and_true, run_cons, run_again, after_run_again, run_whole, run_each}
use Rattle.mmtel_base.proofs.ChainTheorems.{guard_some, where_some}
use Rattle.mmtel_base.proofs.ChainTheorems.{bind_some, some_is, after_byte_whole}
use Rattle.mmtel_lex.proofs.ParamTheorems.{end_by, all_params_takes, all_params_alone}
use Rattle.mmtel_lex.proofs.SipTheorems.{sip_takes, sip_again}

-- ---- schemes

letter_is : (b : ℕ) → in_class Letter b ≡ true → (in_class SchemeRest b ≡ true) × (is_letter b ≡ true)
unfolding in_class
letter_is b e = (rw e refl, e)

name_by : (s : List ℕ) → begins_with_letter s ≡ true → IsSchemeName (leading_run SchemeRest s)
name_by [] e = absurd cc
name_by (b ∷ s) e =
    let is = letter_is b e in
    rw (run_cons SchemeRest b s is.0) (is.1, run_each SchemeRest s)

scheme_by : (s : List ℕ) (o : Option (List ℕ)) (x : List ℕ × List ℕ) → begins_with_letter s ≡ true → after_byte 58 (after_run SchemeRest s) ≡ o → scheme_from (leading_run SchemeRest s) o ≡ Some x → BeginsWith s x.0 x.1
scheme_by s None x letter e h = absurd cc
scheme_by s (Some t) x letter e h =
    subst (λ (y : List ℕ × List ℕ). BeginsWith s y.0 y.1) (some_is (leading_run SchemeRest s, t) x h)
    (record { whole = run_whole SchemeRest s ∙ ap (λ (l : List ℕ). leading_run SchemeRest s ++ l) (after_byte_whole 58 (after_run SchemeRest s) t e); name_in = name_by s letter })

pub scheme_takes : (s : List ℕ) (x : List ℕ × List ℕ) → scheme_of s ≡ Some x → BeginsWith s x.0 x.1
unfolding scheme_of
scheme_takes s x e =
    let g = where_some (begins_with_letter s) (scheme_from (leading_run SchemeRest s) (after_byte 58 (after_run SchemeRest s))) x e in
    scheme_by s (after_byte 58 (after_run SchemeRest s)) x g.0 refl g.1

pub name_all : (name : List ℕ) → IsSchemeName name → IsAll SchemeRest name
unfolding in_class
name_all [] is = absurd is
name_all (b ∷ s) is = rw (is.0, is.1) refl

letter_first : (name rest : List ℕ) → IsSchemeName name → begins_with_letter (name ++ 58 ∷ rest) ≡ true
unfolding in_class
letter_first [] rest is = absurd is
letter_first (b ∷ s) rest is = is.0

colon_stops : in_class SchemeRest 58 ≡ false
unfolding in_class
colon_stops = refl

pub scheme_again : (s name rest : List ℕ) → BeginsWith s name rest → scheme_of s ≡ Some (name, rest)
unfolding scheme_of
scheme_again s name rest is =
    let letter : begins_with_letter (name ++ 58 ∷ rest) ≡ true = letter_first name rest is.name_in in
    let all : IsAll SchemeRest name = name_all name is.name_in in
    rw (is.whole, letter, run_again SchemeRest name (58 ∷ rest) all colon_stops, after_run_again SchemeRest name (58 ∷ rest) all colon_stops) refl

-- ---- tel

abbrev TakesNumber : List ℕ → List ℕ × List ℕ → Type 0
TakesNumber s x = (s ≡ x.0 ++ x.1) × IsNumber x.0

number_by : (s : List ℕ) (o : Option (List ℕ)) (x : List ℕ × List ℕ) → after_byte 43 s ≡ o → list_any (in_class Digit) (leading_run Phone (sign_from o s).1) ≡ true
    → TakesNumber s ((sign_from o s).0 ++ leading_run Phone (sign_from o s).1, after_run Phone (sign_from o s).1)
unfolding in_class
number_by s None x e any = (run_whole Phone s, record { sign = []; phone_digits = leading_run Phone s; whole = refl; sign_in = inl refl; phone_digits_in = run_each Phone s; digit_in = any })
number_by s (Some t) x e any = (
  after_byte_whole 43 s t e ∙ ap (λ (l : List ℕ). 43 ∷ l) (run_whole Phone t),
  record { sign = 43 ∷ []; phone_digits = leading_run Phone t; whole = refl; sign_in = inr refl; phone_digits_in = run_each Phone t; digit_in = any },
)

number_takes : (s : List ℕ) (x : List ℕ × List ℕ) → number_at s ≡ Some x → TakesNumber s x
unfolding number_at
number_takes s x e =
    let g = guard_some (list_any (in_class Digit) (leading_run Phone (sign_of s).1)) ((sign_of s).0 ++ leading_run Phone (sign_of s).1, after_run Phone (sign_of s).1) x e in
    subst (λ (y : List ℕ × List ℕ). TakesNumber s y) g.1 (number_by s (after_byte 43 s) x refl g.0)

-- no plus sign comes first where a visual separator or nothing does
phone_not_plus : (b : ℕ) → in_class Phone b ≡ true → (b == 43) ≡ false
unfolding in_class
phone_not_plus b e = grind (arith, nat_tests)

no_plus : (marks r : List ℕ) → IsAll Phone marks → list_any is_digit marks ≡ true → after_byte 43 (marks ++ r) ≡ None
no_plus [] r all any = absurd cc
no_plus (b ∷ marks) r all any = rw (phone_not_plus b (and_true (in_class Phone b) (list_all (in_class Phone) marks) all).0) refl

number_again_by : (sign marks r : List ℕ) → (sign ≡ []) ⊎ (sign ≡ 43 ∷ []) → IsAll Phone marks → list_any is_digit marks ≡ true → Stops Phone r → number_at ((sign ++ marks) ++ r) ≡ Some (sign ++ marks, r)
unfolding number_at in_class
number_again_by sign marks r (inl e) all any stops =
    rw (e, no_plus marks r all any, run_again Phone marks r all stops, after_run_again Phone marks r all stops, any) refl
number_again_by sign marks r (inr e) all any stops =
    rw (e, run_again Phone marks r all stops, after_run_again Phone marks r all stops, any) refl

number_again : (n r : List ℕ) → IsNumber n → Stops Phone r → number_at (n ++ r) ≡ Some (n, r)
number_again n r is stops = rw is.whole (number_again_by is.sign is.phone_digits r is.sign_in is.phone_digits_in is.digit_in stops)

abbrev TakesTel : List ℕ → Uri → Type 0
TakesTel s u = IsRest s u × ((name : List ℕ) → str_to_ascii_lowercase name ≡ codes "tel" → IsNamed name u)

pub tel_takes : (s : List ℕ) (u : Uri) → tel_of s ≡ Some u → IsRest s u × ((name : List ℕ) → str_to_ascii_lowercase name ≡ codes "tel" → IsNamed name u)
unfolding tel_of
tel_takes s u e =
    let within = where_some (list_all (in_class UriByte) s) (tel_parts s) u e in
    let b = bind_some (number_at s) (λ n. all_params_at n.1 >>= λ ps. at_end (Tel n.0 ps.0) ps.1) u within.1 in
    let n : List ℕ × List ℕ = b.0 in
    let d = bind_some (all_params_at n.1) (λ ps. at_end (Tel n.0 ps.0) ps.1) u b.2 in
    let ps : List Param × List ℕ = d.0 in
    let done = end_by (Tel n.0 ps.0) ps.1 u d.2 in
    let has_number = number_takes s n b.1 in
    let has_params = all_params_takes n.1 ps d.1 in
    let rest : n.1 ≡ params_text ps.0 = has_params.0 ∙ ap (λ (l : List ℕ). params_text ps.0 ++ l) done.0 ∙ append-nil (params_text ps.0) in
    let is : IsTel s n.0 ps.0 = record { bytes_in = within.0; whole = has_number.0 ∙ ap (λ (l : List ℕ). n.0 ++ l) rest; number_in = has_number.1; params_in = has_params.1 } in
    subst (λ (v : Uri). TakesTel s v) done.1 (is, λ name n. n)

phone_stops : (ps : List Param) → Stops Phone (params_text ps)
unfolding in_class
phone_stops [] = tt
phone_stops (p ∷ ps) = refl

pub tel_again : (s number : List ℕ) (params : List Param) → IsTel s number params → tel_of s ≡ Some (Tel number params)
unfolding tel_of
tel_again s number params is =
    let one : number_at (number ++ params_text params) ≡ Some (number, params_text params) = number_again number (params_text params) is.number_in (phone_stops params) in
    let three : all_params_at (params_text params) ≡ Some (params, []) = all_params_alone params is.params_in in
    rw (is.bytes_in, is.whole, one, three) refl

-- ---- the whole

abbrev lower : List ℕ → List ℕ
lower s = str_to_ascii_lowercase s

test_true : (name wanted : List ℕ) → str_eq_ignore_ascii_case name wanted ≡ true → lower name ≡ lower wanted
test_true name wanted e = (bytes_eq-Decides (lower name) (lower wanted)).0 e

test_by : (name wanted : List ℕ) → lower name ≡ lower wanted → str_eq_ignore_ascii_case name wanted ≡ true
test_by name wanted e = (bytes_eq-Decides (lower name) (lower wanted)).1 e

true_not_false : (b : Bool) → b ≡ true → b ≡ false → ⊥
true_not_false b t f = cc

test_false : (name wanted : List ℕ) → str_eq_ignore_ascii_case name wanted ≡ false → lower name ≢ lower wanted
test_false name wanted e h = true_not_false _ ((bytes_eq-Decides (lower name) (lower wanted)).1 h) e

test_not : (name wanted : List ℕ) → lower name ≢ lower wanted → str_eq_ignore_ascii_case name wanted ≡ false
test_not name wanted e = false_from_ne_true _ (λ t. e (test_true name wanted t))

abbrev or_else : Refusal → Result Uri Refusal
or_else f = Err f

or_ok : (o : Option Uri) (u : Uri) → or_malformed o ≡ Ok u → o ≡ Some u
or_ok None u e = absurd cc
or_ok (Some v) u e = cc

err_not_ok : (f : Refusal) (u : Uri) → or_else f ≡ Ok u → ⊥
err_not_ok f u e = cc

or_not_foreign : (o : Option Uri) → or_malformed o ≡ Err foreign → ⊥
or_not_foreign None e = cc
or_not_foreign (Some v) e = cc

uri_by : (s : List ℕ) (o : Option (List ℕ × List ℕ)) (u : Uri) → scheme_of s ≡ o → uri_from o ≡ Ok u → IsUri s u
uri_by s None u e h = absurd cc
uri_by s (Some x) u e h =
    elim (cases_Bool (str_eq_ignore_ascii_case x.0 (codes "sip"))) [
      | inl y ↦
          let got : sip_of x.1 ≡ Some u = or_ok (sip_of x.1) u (rw y at h) in
          let is = sip_takes x.1 u got in
          record { name = x.0; rest = x.1; begins = scheme_takes s x e; named = is.1 x.0 (test_true x.0 (codes "sip") y); rest_in = is.0 }
      | inr n ↦ elim (cases_Bool (str_eq_ignore_ascii_case x.0 (codes "tel"))) [
        | inl y ↦
            let got : tel_of x.1 ≡ Some u = or_ok (tel_of x.1) u (rw (n, y) at h) in
            let is = tel_takes x.1 u got in
            record { name = x.0; rest = x.1; begins = scheme_takes s x e; named = is.1 x.0 (test_true x.0 (codes "tel") y); rest_in = is.0 }
        | inr m ↦ absurd (err_not_ok foreign u (rw (n, m) at h))
      ]
    ]

pub uri_takes : (s : List ℕ) (u : Uri) → uri_of s ≡ Ok u → IsUri s u
unfolding uri_of
uri_takes s u e = uri_by s (scheme_of s) u refl e

pub uri_again : (s : List ℕ) (u : Uri) → IsUri s u → uri_of s ≡ Ok u
unfolding uri_of
uri_again s (Sip user host port params headers) is =
    rw (scheme_again s is.name is.rest is.begins, test_by is.name (codes "sip") is.named, sip_again is.rest user host port params headers is.rest_in) refl
uri_again s (Tel number params) is =
    let not_sip : str_eq_ignore_ascii_case is.name (codes "sip") ≡ false = rw is.named refl in
    rw (scheme_again s is.name is.rest is.begins, not_sip, test_by is.name (codes "tel") is.named, tel_again is.rest number params is.rest_in) refl

pub foreign_again : (s : List ℕ) → IsForeign s → uri_of s ≡ Err foreign
unfolding uri_of
foreign_again s is =
    rw (scheme_again s is.name is.rest is.begins, test_not is.name (codes "sip") is.not_sip, test_not is.name (codes "tel") is.not_tel) refl

foreign_by : (s : List ℕ) (o : Option (List ℕ × List ℕ)) → scheme_of s ≡ o → uri_from o ≡ Err foreign → IsForeign s
foreign_by s None e h = absurd cc
foreign_by s (Some x) e h =
    elim (cases_Bool (str_eq_ignore_ascii_case x.0 (codes "sip"))) [
      | inl y ↦ absurd (or_not_foreign (sip_of x.1) (rw y at h))
      | inr n ↦ elim (cases_Bool (str_eq_ignore_ascii_case x.0 (codes "tel"))) [
        | inl y ↦ absurd (or_not_foreign (tel_of x.1) (rw (n, y) at h))
        | inr m ↦ record { name = x.0; rest = x.1; begins = scheme_takes s x e; not_sip = test_false x.0 (codes "sip") n; not_tel = test_false x.0 (codes "tel") m }
      ]
    ]

pub foreign_takes : (s : List ℕ) → uri_of s ≡ Err foreign → IsForeign s
unfolding uri_of
foreign_takes s e = foreign_by s (scheme_of s) refl e
