-- What is read is spelled so, and what is spelled so is read: parameters.
use Rattle.std.proofs.Common.{◌≡◌, ◌==◌, true, false, ℕ, zero, suc, ◌+◌, ◌≤◌, List, [], ◌∷◌, ◌++◌, length, Option, Some, None, refl, sym, ap, subst, ◌∙◌, append_assoc, arith, inl, inr, take, drop, add-one}
use Rattle.std.specs.Prelude.{IfSome}
use Rattle.std.proofs.lemmas.List.{append-nil, length-append, take_at, drop_at}
use Rattle.std.specs.List.{list_all}
use Rattle.std.proofs.lemmas.Bool.Decides.{nat_tests}
use Rattle.mmtel_base.specs.Classes.{in_class}
use Rattle.mmtel_base.specs.Scanning.{leading_run, after_run, after_byte, is_quoted_content, closing_quote_from}
use Rattle.mmtel_base.specs.Classes.{Stops}
use Rattle.mmtel_lex.specs.Grammar.{IsToken, IsValue, value_text, IsParam, params_text, AreParams, IsParams}
use Rattle.mmtel_base.specs.Chain.{◌>>=◌}
use Rattle.mmtel_lex.specs.Reading.{token_at, text_from, text_at, value_from, value_at, param_at, params_at, next_params, at_end, params_of, all_params_at}
use Rattle.mmtel_base.specs.declared.classes.Class.TheVariants.{Token}
use Rattle.mmtel_lex.specs.declared.values.Param.{Param}
use Rattle.mmtel_base.proofs.Runs.{and_true, run_again, after_run_again, run_whole, run_each}
use Rattle.mmtel_base.proofs.Quotes.{closing_takes, closing_again}
use Rattle.mmtel_base.proofs.ChainTheorems.{bind_some, unless_some, some_is, after_byte_whole, filled_by, filled_test}

-- ---- tokens

pub token_takes : (s : List ℕ) (x : List ℕ × List ℕ) → token_at s ≡ Some x → (s ≡ x.0 ++ x.1) × IsToken x.0
unfolding token_at
token_takes s x e =
    let g = unless_some (length (leading_run Token s) == 0) (Some (leading_run Token s, after_run Token s)) x e in
    subst (λ (y : List ℕ × List ℕ). (s ≡ y.0 ++ y.1) × IsToken y.0) (some_is (leading_run Token s, after_run Token s) x g.1)
    (run_whole Token s, record { filled = filled_by _ g.0; each = run_each Token s })

pub token_again : (t r : List ℕ) → IsToken t → Stops Token r → token_at (t ++ r) ≡ Some (t, r)
unfolding token_at
token_again t r is stops = rw (run_again Token t r is.each stops, after_run_again Token t r is.each stops, filled_test (length t) is.filled) refl

-- ---- quoted strings

text_by : (s : List ℕ) (o : Option (List ℕ)) (x : List ℕ × List ℕ) → after_byte 34 s ≡ o → text_from o s ≡ Some x → (s ≡ x.0 ++ x.1) × IsValue x.0
text_by s None x e h = let tok = token_takes s x h in (tok.0, inl tok.1)
text_by s (Some t) x e h =
    let b = bind_some (closing_quote_from false t) (λ n. Some (34 ∷ (take n t ++ 34 ∷ []), drop (n + 1) t)) x h in
    let n : ℕ = b.0 in
    let at = closing_takes false t n b.1 in
    let tail : t ≡ (take n t ++ 34 ∷ []) ++ drop (n + 1) t = rw add-one (at.0 ∙ sym (append_assoc (take n t) (34 ∷ []) (drop (suc n) t))) in
    let whole : s ≡ (34 ∷ (take n t ++ 34 ∷ [])) ++ drop (n + 1) t = after_byte_whole 34 s t e ∙ ap (λ (l : List ℕ). 34 ∷ l) tail in
    subst (λ (y : List ℕ × List ℕ). (s ≡ y.0 ++ y.1) × IsValue y.0) (some_is (34 ∷ (take n t ++ 34 ∷ []), drop (n + 1) t) x b.2)
    (whole, inr (record { inner = take n t; whole = refl; inner_in = at.1 }))

pub text_takes : (s : List ℕ) (x : List ℕ × List ℕ) → text_at s ≡ Some x → (s ≡ x.0 ++ x.1) × IsValue x.0
unfolding text_at
text_takes s x e = text_by s (after_byte 34 s) x refl e

token_not_quote : (b : ℕ) → in_class Token b ≡ true → (b == 34) ≡ false
unfolding in_class
token_not_quote b e = grind (arith, nat_tests)

pub no_quote : (t r : List ℕ) → IsToken t → after_byte 34 (t ++ r) ≡ None
no_quote [] r is = absurd (omega (arith, is.filled))
no_quote (b ∷ t) r is = rw (token_not_quote b (and_true (in_class Token b) (list_all (in_class Token) t) is.each).0) refl

quoted_again : (inner r : List ℕ) → is_quoted_content false inner ≡ true → text_at ((34 ∷ (inner ++ 34 ∷ [])) ++ r) ≡ Some (34 ∷ (inner ++ 34 ∷ []), r)
unfolding text_at
quoted_again inner r is =
    let at : closing_quote_from false ((inner ++ 34 ∷ []) ++ r) ≡ Some (length inner) = rw (append_assoc inner (34 ∷ []) r) (closing_again false inner r is) in
    let front : take (length inner) ((inner ++ 34 ∷ []) ++ r) ≡ inner = rw (append_assoc inner (34 ∷ []) r) (take_at inner (34 ∷ r) (length inner) refl) in
    let rest : drop (length inner + 1) ((inner ++ 34 ∷ []) ++ r) ≡ r = drop_at (inner ++ 34 ∷ []) r (length inner + 1) (omega (arith, length-append inner (34 ∷ []))) in
    rw (at, front, rest) refl

token_text : (v r : List ℕ) → IsToken v → Stops Token r → text_at (v ++ r) ≡ Some (v, r)
unfolding text_at
token_text v r is stops = rw (no_quote v r is, token_again v r is stops) refl

pub text_again : (v r : List ℕ) → IsValue v → Stops Token r → text_at (v ++ r) ≡ Some (v, r)
text_again v r (inl is) stops = token_text v r is stops
text_again v r (inr is) stops = rw is.whole (quoted_again is.inner r is.inner_in)

-- ---- values

value_by : (s : List ℕ) (o : Option (List ℕ)) (x : Option (List ℕ) × List ℕ) → after_byte 61 s ≡ o → value_from o s ≡ Some x → (s ≡ value_text x.0 ++ x.1) × IfSome x.0 IsValue
value_by s None x e h = subst (λ (y : Option (List ℕ) × List ℕ). (s ≡ value_text y.0 ++ y.1) × IfSome y.0 IsValue) (some_is (None, s) x h) (refl, tt)
value_by s (Some t) x e h =
    let b = bind_some (text_at t) (λ v. Some (Some v.0, v.1)) x h in
    let v : List ℕ × List ℕ = b.0 in
    let tok = text_takes t v b.1 in
    let whole : s ≡ 61 ∷ (v.0 ++ v.1) = after_byte_whole 61 s t e ∙ ap (λ (l : List ℕ). 61 ∷ l) tok.0 in
    subst (λ (y : Option (List ℕ) × List ℕ). (s ≡ value_text y.0 ++ y.1) × IfSome y.0 IsValue) (some_is (Some v.0, v.1) x b.2) (whole, tok.1)

pub value_takes : (s : List ℕ) (x : Option (List ℕ) × List ℕ) → value_at s ≡ Some x → (s ≡ value_text x.0 ++ x.1) × IfSome x.0 IsValue
unfolding value_at
value_takes s x e = value_by s (after_byte 61 s) x refl e

-- what may follow a parameter
pub record EndsParam (r : List ℕ) : Type 0 where
  pub token : Stops Token r
  pub equals : after_byte 61 r ≡ None

pub value_again : (v : Option (List ℕ)) (r : List ℕ) → IfSome v IsValue → EndsParam r → value_at (value_text v ++ r) ≡ Some (v, r)
unfolding value_at
value_again None r is ends = rw ends.equals refl
value_again (Some v) r is ends = rw (text_again v r is ends.token) refl

-- ---- a parameter

pub param_takes : (s : List ℕ) (x : Param × List ℕ) → param_at s ≡ Some x → (s ≡ (x.0.name ++ value_text x.0.value) ++ x.1) × IsParam x.0
unfolding param_at
param_takes s x e =
    let b = bind_some (token_at s) (λ n. value_at n.1 >>= λ v. Some (record { name = n.0; value = v.0 }, v.1)) x e in
    let n : List ℕ × List ℕ = b.0 in
    let d = bind_some (value_at n.1) (λ v. Some (record { name = n.0; value = v.0 }, v.1)) x b.2 in
    let v : Option (List ℕ) × List ℕ = d.0 in
    let tok = token_takes s n b.1 in
    let val = value_takes n.1 v d.1 in
    let whole : s ≡ (n.0 ++ value_text v.0) ++ v.1 = tok.0 ∙ ap (λ (l : List ℕ). n.0 ++ l) val.0 ∙ sym (append_assoc n.0 (value_text v.0) v.1) in
    let p : Param = record { name = n.0; value = v.0 } in
    subst (λ (y : Param × List ℕ). (s ≡ (y.0.name ++ value_text y.0.value) ++ y.1) × IsParam y.0) (some_is (p, v.1) x d.2) (whole, record { name = tok.1; value = val.1 })

stops_value : (v : Option (List ℕ)) (r : List ℕ) → EndsParam r → Stops Token (value_text v ++ r)
unfolding in_class
stops_value None r ends = ends.token
stops_value (Some v) r ends = refl

pub param_again : (p : Param) (r : List ℕ) → IsParam p → EndsParam r → param_at ((p.name ++ value_text p.value) ++ r) ≡ Some (p, r)
unfolding param_at
param_again p r is ends =
    rw (append_assoc p.name (value_text p.value) r, token_again p.name (value_text p.value ++ r) is.name (stops_value p.value r ends), value_again p.value r is.value ends) refl

-- ---- parameters

abbrev TakesParams : List ℕ → List Param × List ℕ → Type 0
TakesParams s x = (s ≡ params_text x.0 ++ x.1) × AreParams x.0

params_by : (n : ℕ) (s : List ℕ) (o : Option (List ℕ)) (x : List Param × List ℕ) → ((t : List ℕ) (y : List Param × List ℕ) → params_at n t ≡ Some y → TakesParams t y)
    → after_byte 59 s ≡ o → next_params (λ r. params_at n r) o s ≡ Some x → TakesParams s x
params_by n s None x others e h = subst (λ (y : List Param × List ℕ). TakesParams s y) (some_is ([], s) x h) (refl, tt)
params_by n s (Some t) x others e h =
    let b = bind_some (param_at t) (λ first. params_at n first.1 >>= λ more. Some (first.0 ∷ more.0, more.1)) x h in
    let f : Param × List ℕ = b.0 in
    let d = bind_some (params_at n f.1) (λ more. Some (f.0 ∷ more.0, more.1)) x b.2 in
    let o : List Param × List ℕ = d.0 in
    let one = param_takes t f b.1 in
    let more = others f.1 o d.1 in
    let text : List ℕ = f.0.name ++ value_text f.0.value in
    let behind : t ≡ (text ++ params_text o.0) ++ o.1 = one.0 ∙ ap (λ (l : List ℕ). text ++ l) more.0 ∙ sym (append_assoc text (params_text o.0) o.1) in
    let whole : s ≡ params_text (f.0 ∷ o.0) ++ o.1 = after_byte_whole 59 s t e ∙ ap (λ (l : List ℕ). 59 ∷ l) behind in
    subst (λ (y : List Param × List ℕ). TakesParams s y) (some_is (f.0 ∷ o.0, o.1) x d.2) (whole, (one.1, more.1))

pub params_takes : (n : ℕ) (s : List ℕ) (x : List Param × List ℕ) → params_at n s ≡ Some x → (s ≡ params_text x.0 ++ x.1) × AreParams x.0
unfolding params_at
params_takes zero s x e = subst (λ (y : List Param × List ℕ). TakesParams s y) (some_is ([], s) x e) (refl, tt)
params_takes (suc n) s x e = params_by n s (after_byte 59 s) x (λ t y h. params_takes n t y h) refl e

ends_params : (ps : List Param) (r : List ℕ) → EndsParam r → EndsParam (params_text ps ++ r)
unfolding in_class
ends_params [] r ends = ends
ends_params (p ∷ ps) r ends = record { token = refl; equals = refl }

pub params_again : (n : ℕ) (ps : List Param) (r : List ℕ) → AreParams ps → EndsParam r → after_byte 59 r ≡ None → length (params_text ps ++ r) ≤ n → params_at n (params_text ps ++ r) ≡ Some (ps, r)
unfolding params_at
params_again zero [] r are ends stop le = refl
params_again (suc n) [] r are ends stop le = rw stop refl
params_again zero (p ∷ ps) r are ends stop le = absurd (omega arith)
params_again (suc n) (p ∷ ps) r are ends stop le =
    let text : List ℕ = p.name ++ value_text p.value in
    let short : length (params_text ps ++ r) ≤ n = omega (arith, length-append (text ++ params_text ps) r, length-append text (params_text ps), length-append (params_text ps) r) in
    rw (append_assoc text (params_text ps) r, param_again p (params_text ps ++ r) are.0 (ends_params ps r ends), params_again n ps r are.1 ends stop short) refl

pub all_params_takes : (s : List ℕ) (x : List Param × List ℕ) → all_params_at s ≡ Some x → (s ≡ params_text x.0 ++ x.1) × AreParams x.0
unfolding all_params_at
all_params_takes s x e = params_takes (length s) s x e

pub all_params_again : (ps : List Param) (r : List ℕ) → AreParams ps → EndsParam r → after_byte 59 r ≡ None → all_params_at (params_text ps ++ r) ≡ Some (ps, r)
unfolding all_params_at
all_params_again ps r are ends stop = params_again _ ps r are ends stop (omega arith)

-- ---- the whole

pub end_by : {A : Type 0} (x : A) (s : List ℕ) (y : A) → at_end x s ≡ Some y → (s ≡ []) × (x ≡ y)
end_by x [] y e = (refl, some_is x y e)
end_by x (b ∷ s) y e = absurd cc

-- parameters and nothing after them
pub all_params_alone : (ps : List Param) → AreParams ps → all_params_at (params_text ps) ≡ Some (ps, [])
all_params_alone ps are = subst (λ (l : List ℕ). all_params_at l ≡ Some (ps, [])) (append-nil (params_text ps)) (all_params_again ps [] are (record { token = tt; equals = refl }) refl)

pub whole_params_takes : (s : List ℕ) (ps : List Param) → params_of s ≡ Some ps → IsParams s ps
unfolding params_of
whole_params_takes s ps e =
    let b = bind_some (all_params_at s) (λ x. at_end x.0 x.1) ps e in
    let x : List Param × List ℕ = b.0 in
    let done = end_by x.0 x.1 ps b.2 in
    let has = all_params_takes s x b.1 in
    let whole : s ≡ params_text x.0 = has.0 ∙ ap (λ (l : List ℕ). params_text x.0 ++ l) done.0 ∙ append-nil (params_text x.0) in
    subst (λ (qs : List Param). IsParams s qs) done.1 (record { whole = whole; params_in = has.1 })

pub whole_params_again : (s : List ℕ) (ps : List Param) → IsParams s ps → params_of s ≡ Some ps
unfolding params_of
whole_params_again s ps is =
    rw (is.whole, all_params_alone ps is.params_in) refl
