-- What is read is spelled so, and what is spelled so is read: name-addrs.
use Rattle.std.proofs.Common.{◌≡◌, inl, inr, ◌==◌, true, false, ℕ, suc, List, [], ◌∷◌, ◌++◌, length, Option, Some, None, refl, sym, ap, subst, ◌∙◌, append_assoc, arith}
use Rattle.std.specs.List.{list_all}
use Rattle.std.proofs.lemmas.List.{append-nil}
use Rattle.std.proofs.lemmas.Bool.{cases_Bool}
use Rattle.std.proofs.lemmas.Bool.Decides.{nat_tests}
use Rattle.mmtel_base.specs.Classes.{in_class}
use Rattle.mmtel_base.specs.Scanning.{leading_run, after_run, after_byte, without_trailing}
use Rattle.mmtel_base.specs.Classes.{IsAll, IsOneOrMore, Stops}
use Rattle.mmtel_lex.specs.Grammar.{IsQuoted, IsValue, params_text, AreParams, IsNameAddr, IsBare, IsWords}
use Rattle.mmtel_base.specs.Chain.{◌>>=◌}
use Rattle.mmtel_lex.specs.Reading.{text_at, all_params_at, at_end, angle_of, bare_of, words_from, words_of, quoted_of, name_addr_from, name_addr_of}
use Rattle.mmtel_base.specs.declared.classes.Class.{Class}
use Rattle.mmtel_base.specs.declared.classes.Class.TheVariants.{Token, Blank, Display, UriByte, BareByte}
use Rattle.mmtel_lex.specs.declared.values.Param.{Param}
use Rattle.mmtel_lex.specs.declared.values.NameAddr.{NameAddr}
use Rattle.mmtel_base.proofs.Trims.{all_append, trimmed_again, trimmed_takes}
use Rattle.mmtel_base.proofs.Runs.{wider, all_front, run_cons, after_run_cons, after_run_here, after_run_nil, and_true, run_again, after_run_again, run_whole, run_each}
use Rattle.mmtel_base.proofs.ChainTheorems.{bind_some, unless_some, where_some, after_byte_whole, filled_by, filled_test, zero_by}
use Rattle.mmtel_lex.proofs.ParamTheorems.{no_quote, text_takes, text_again, end_by, all_params_takes, all_params_alone}

-- a '<', the URI, a '>' and parameters
pub angle_again : (d uri : List ℕ) (ps : List Param) → IsOneOrMore UriByte uri → AreParams ps → angle_of d (uri ++ 62 ∷ params_text ps) ≡ Some (record { display = d; uri = uri; params = ps })
unfolding angle_of in_class
angle_again d uri ps is are =
    let three : all_params_at (params_text ps) ≡ Some (ps, []) = all_params_alone ps are in
    rw (run_again UriByte uri (62 ∷ params_text ps) is.each refl, after_run_again UriByte uri (62 ∷ params_text ps) is.each refl, filled_test (length uri) is.filled, three) refl

abbrev TakesAngle : List ℕ → List ℕ → NameAddr → Type 0
TakesAngle d s n = (n.display ≡ d) × (s ≡ n.uri ++ 62 ∷ params_text n.params) × IsOneOrMore UriByte n.uri × AreParams n.params

pub angle_takes : (d s : List ℕ) (n : NameAddr) → angle_of d s ≡ Some n → TakesAngle d s n
unfolding angle_of
angle_takes d s n e =
    let g =
    unless_some (length (leading_run UriByte s) == 0) (after_byte 62 (after_run UriByte s) >>= λ r. all_params_at r >>= λ ps. at_end (record { display = d; uri = leading_run UriByte s; params = ps.0 }) ps.1) n e in
    let b = bind_some (after_byte 62 (after_run UriByte s)) (λ r. all_params_at r >>= λ ps. at_end (record { display = d; uri = leading_run UriByte s; params = ps.0 }) ps.1) n g.1 in
    let r : List ℕ = b.0 in
    let f = bind_some (all_params_at r) (λ ps. at_end (record { display = d; uri = leading_run UriByte s; params = ps.0 }) ps.1) n b.2 in
    let ps : List Param × List ℕ = f.0 in
    let made : NameAddr = record { display = d; uri = leading_run UriByte s; params = ps.0 } in
    let done = end_by made ps.1 n f.2 in
    let has_params = all_params_takes r ps f.1 in
    let tail : r ≡ params_text ps.0 = has_params.0 ∙ ap (λ (l : List ℕ). params_text ps.0 ++ l) done.0 ∙ append-nil (params_text ps.0) in
    let behind : after_run UriByte s ≡ 62 ∷ params_text ps.0 = after_byte_whole 62 (after_run UriByte s) r b.1 ∙ ap (λ (l : List ℕ). 62 ∷ l) tail in
    let whole : s ≡ leading_run UriByte s ++ 62 ∷ params_text ps.0 = run_whole UriByte s ∙ ap (λ (l : List ℕ). leading_run UriByte s ++ l) behind in
    subst (λ (m : NameAddr). TakesAngle d s m) done.1 (refl, whole, record { filled = filled_by _ g.0; each = run_each UriByte s }, has_params.1)

-- ---- a bare URI

pub bare_takes : (s : List ℕ) (n : NameAddr) → bare_of s ≡ Some n → IsBare s n
unfolding bare_of
bare_takes s n e =
    let g = unless_some (length (leading_run BareByte s) == 0) (all_params_at (after_run BareByte s) >>= λ ps. at_end (record { display = []; uri = leading_run BareByte s; params = ps.0 }) ps.1) n e in
    let f = bind_some (all_params_at (after_run BareByte s)) (λ ps. at_end (record { display = []; uri = leading_run BareByte s; params = ps.0 }) ps.1) n g.1 in
    let ps : List Param × List ℕ = f.0 in
    let made : NameAddr = record { display = []; uri = leading_run BareByte s; params = ps.0 } in
    let done = end_by made ps.1 n f.2 in
    let has_params = all_params_takes (after_run BareByte s) ps f.1 in
    let tail : after_run BareByte s ≡ params_text ps.0 = has_params.0 ∙ ap (λ (l : List ℕ). params_text ps.0 ++ l) done.0 ∙ append-nil (params_text ps.0) in
    let whole : s ≡ leading_run BareByte s ++ params_text ps.0 = run_whole BareByte s ∙ ap (λ (l : List ℕ). leading_run BareByte s ++ l) tail in
    let is : IsBare s made = record { whole = whole; no_display = refl; uri_in = record { filled = filled_by _ g.0; each = run_each BareByte s }; params_in = has_params.1 } in
    subst (λ (m : NameAddr). IsBare s m) done.1 is

params_stop : (k : Class) (ps : List Param) → in_class k 59 ≡ false → Stops k (params_text ps)
params_stop k [] e = tt
params_stop k (p ∷ ps) e = e

semicolon_bare : in_class BareByte 59 ≡ false
unfolding in_class
semicolon_bare = refl

pub bare_again : (uri : List ℕ) (ps : List Param) → IsOneOrMore BareByte uri → AreParams ps → bare_of (uri ++ params_text ps) ≡ Some (record { display = []; uri = uri; params = ps })
unfolding bare_of
bare_again uri ps is are =
    let three : all_params_at (params_text ps) ≡ Some (ps, []) = all_params_alone ps are in
    let stops : Stops BareByte (params_text ps) = params_stop BareByte ps semicolon_bare in
    rw (run_again BareByte uri (params_text ps) is.each stops, after_run_again BareByte uri (params_text ps) is.each stops, filled_test (length uri) is.filled, three) refl

-- ---- both forms

not_angle : (b : ℕ) → in_class BareByte b ≡ true → (b == 60) ≡ false
unfolding in_class
not_angle b e = grind (arith, nat_tests)

bare_not_quote : (b : ℕ) → in_class BareByte b ≡ true → (b == 34) ≡ false
unfolding in_class
bare_not_quote b e = grind (arith, nat_tests)

semicolon_display : in_class Display 59 ≡ false
unfolding in_class
semicolon_display = refl

no_angle : (u : List ℕ) (ps : List Param) → IsAll BareByte u → after_byte 60 (after_run Display (u ++ params_text ps)) ≡ None
no_angle [] [] each = rw (after_run_nil Display) refl
no_angle [] (p ∷ ps) each = rw (after_run_here Display 59 _ semicolon_display) refl
no_angle (b ∷ u) ps each =
    let both = and_true (in_class BareByte b) (list_all (in_class BareByte) u) each in
    elim (cases_Bool (in_class Display b)) [
      | inl y ↦ rw (after_run_cons Display b (u ++ params_text ps) y) (no_angle u ps both.1)
      | inr n ↦ rw (after_run_here Display b (u ++ params_text ps) n, not_angle b both.0) refl
    ]

no_quote_bare : (u r : List ℕ) → IsOneOrMore BareByte u → after_byte 34 (u ++ r) ≡ None
no_quote_bare [] r is = absurd (omega (arith, is.filled))
no_quote_bare (b ∷ u) r is = rw (bare_not_quote b (and_true (in_class BareByte b) (list_all (in_class BareByte) u) is.each).0) refl

bare_whole : (uri : List ℕ) (ps : List Param) → IsOneOrMore BareByte uri → AreParams ps → name_addr_of (uri ++ params_text ps) ≡ Some (record { display = []; uri = uri; params = ps })
unfolding name_addr_of words_of
bare_whole uri ps is are = rw (no_quote_bare uri (params_text ps) is, no_angle uri ps is.each) (bare_again uri ps is are)

blank_display : (b : ℕ) → in_class Blank b ≡ true → in_class Display b ≡ true
unfolding in_class
blank_display b e = grind (arith, nat_tests)

display_not_quote : (b : ℕ) → in_class Display b ≡ true → (b == 34) ≡ false
unfolding in_class
display_not_quote b e = grind (arith, nat_tests)

blank_not_token : (b : ℕ) → in_class Blank b ≡ true → in_class Token b ≡ false
unfolding in_class
blank_not_token b e = grind (arith, nat_tests)

no_quote_display : (l tail : List ℕ) → IsAll Display l → after_byte 34 (l ++ 60 ∷ tail) ≡ None
no_quote_display [] tail each = refl
no_quote_display (b ∷ l) tail each = rw (display_not_quote b (and_true (in_class Display b) (list_all (in_class Display) l) each).0) refl

angle_stops_display : in_class Display 60 ≡ false
unfolding in_class
angle_stops_display = refl

angle_stops_blank : in_class Blank 60 ≡ false
unfolding in_class
angle_stops_blank = refl

angle_stops_token : in_class Token 60 ≡ false
unfolding in_class
angle_stops_token = refl

no_run : (k : Class) (s : List ℕ) → Stops k s → length (leading_run k s) ≡ 0
no_run k s stops = ap (λ (l : List ℕ). length l) (run_again k [] s refl stops)

quote_stops_blank : in_class Blank 34 ≡ false
unfolding in_class
quote_stops_blank = refl

true_false : (n : ℕ) → (suc n == 0) ≡ true → ⊥
true_false n e = absurd (omega (arith, zero_by (suc n) e))

words_whole : (d gap tail : List ℕ) → IsWords d → IsAll Blank gap → Stops Blank (d ++ (gap ++ 60 ∷ tail)) → name_addr_of (d ++ (gap ++ 60 ∷ tail)) ≡ angle_of d tail
unfolding name_addr_of words_of
words_whole d gap tail is gap_in starts =
    let all : IsAll Display (d ++ gap) = all_append Display d gap is.each (wider Blank Display blank_display gap gap_in) in
    let grouped : d ++ (gap ++ 60 ∷ tail) ≡ (d ++ gap) ++ 60 ∷ tail = sym (append_assoc d gap (60 ∷ tail)) in
    let none : length (leading_run Blank ((d ++ gap) ++ 60 ∷ tail)) ≡ 0 = rw grouped at (no_run Blank (d ++ (gap ++ 60 ∷ tail)) starts) in
    rw (
      grouped,
      no_quote_display (d ++ gap) tail all,
      after_run_again Display (d ++ gap) (60 ∷ tail) all angle_stops_display,
      none,
      run_again Display (d ++ gap) (60 ∷ tail) all angle_stops_display,
      trimmed_again Blank d gap gap_in is.ends,
    ) refl

opens : (d r : List ℕ) → IsQuoted d → (t : List ℕ) × (after_byte 34 (d ++ r) ≡ Some t)
opens d r is = ((is.inner ++ 34 ∷ []) ++ r, rw is.whole refl)

gap_stops : (gap tail : List ℕ) → IsAll Blank gap → Stops Token (gap ++ 60 ∷ tail)
gap_stops [] tail each = angle_stops_token
gap_stops (b ∷ gap) tail each = blank_not_token b (and_true (in_class Blank b) (list_all (in_class Blank) gap) each).0

quoted_whole : (d gap tail : List ℕ) → IsQuoted d → IsAll Blank gap → name_addr_of (d ++ (gap ++ 60 ∷ tail)) ≡ angle_of d tail
unfolding name_addr_of quoted_of
quoted_whole d gap tail is gap_in =
    rw ((opens d (gap ++ 60 ∷ tail) is).1, text_again d (gap ++ 60 ∷ tail) (inr is) (gap_stops gap tail gap_in), after_run_again Blank gap (60 ∷ tail) gap_in angle_stops_blank) refl

pub name_addr_again : (s : List ℕ) (n : NameAddr) → IsNameAddr s n → name_addr_of s ≡ Some n
name_addr_again s n (inl is) =
    let tail : List ℕ = n.uri ++ 62 ∷ params_text n.params in
    elim is.display_in [
      | inl words ↦ ap name_addr_of is.whole ∙ words_whole n.display is.gap tail words is.gap_in (rw is.whole at is.starts) ∙ angle_again n.display n.uri n.params is.uri_in is.params_in
      | inr quoted ↦ ap name_addr_of is.whole ∙ quoted_whole n.display is.gap tail quoted is.gap_in ∙ angle_again n.display n.uri n.params is.uri_in is.params_in
    ]
name_addr_again s n (inr is) =
    let at : List ℕ → NameAddr = λ d. record { display = d; uri = n.uri; params = n.params } in
    ap name_addr_of is.whole ∙ bare_whole n.uri n.params is.uri_in is.params_in ∙ ap (λ (d : List ℕ). Some (at d)) (sym is.no_display)

-- nothing of the class comes first where its run is empty, and the other way round
stops_by_run : (k : Class) (s : List ℕ) → (length (leading_run k s) == 0) ≡ true → Stops k s
stops_by_run k [] e = tt
stops_by_run k (b ∷ s) e = elim (cases_Bool (in_class k b)) [
  | inl y ↦ absurd (true_false _ (rw (run_cons k b s y) at e))
  | inr n ↦ n
]

quote_first : (s t : List ℕ) → after_byte 34 s ≡ Some t → Stops Blank s
quote_first s t e = rw (after_byte_whole 34 s t e) quote_stops_blank

words_by : (s : List ℕ) (o : Option (List ℕ)) (n : NameAddr) → after_byte 60 (after_run Display s) ≡ o → words_from s o ≡ Some n → IsNameAddr s n
words_by s None n e h = inr (bare_takes s n h)
words_by s (Some u) n e h =
    let g = where_some (length (leading_run Blank s) == 0) (angle_of (without_trailing Blank (leading_run Display s)) u) n h in
    let is = angle_takes (without_trailing Blank (leading_run Display s)) u n g.1 in
    let tr = trimmed_takes Blank (leading_run Display s) in
    let tail : after_run Display s ≡ 60 ∷ (n.uri ++ 62 ∷ params_text n.params) = after_byte_whole 60 (after_run Display s) u e ∙ ap (λ (l : List ℕ). 60 ∷ l) is.1 in
    let front : s ≡ (without_trailing Blank (leading_run Display s) ++ tr.back) ++ after_run Display s = run_whole Display s ∙ ap (λ (l : List ℕ). l ++ after_run Display s) tr.whole in
    let whole : s ≡ without_trailing Blank (leading_run Display s) ++ (tr.back ++ (60 ∷ (n.uri ++ 62 ∷ params_text n.params))) =
    front ∙ append_assoc (without_trailing Blank (leading_run Display s)) tr.back (after_run Display s) ∙ ap (λ (l : List ℕ). without_trailing Blank (leading_run Display s) ++ (tr.back ++ l)) tail in
    let each : IsAll Display (without_trailing Blank (leading_run Display s)) = all_front Display (without_trailing Blank (leading_run Display s)) tr.back (rw tr.whole at (run_each Display s)) in
    let words : IsWords (without_trailing Blank (leading_run Display s)) = record { each = each; ends = tr.ends } in
    inl (record { gap = tr.back; whole = rw is.0 whole; starts = stops_by_run Blank s g.0; display_in = inl (rw is.0 words); gap_in = tr.back_in; uri_in = is.2; params_in = is.3 })

none_some : {A : Type 0} (x : A) (o : Option A) → o ≡ None → o ≡ Some x → ⊥
none_some x o e f = cc

must_quote : (s t d r : List ℕ) → after_byte 34 s ≡ Some t → s ≡ d ++ r → IsValue d → IsQuoted d
must_quote s t d r e whole (inr is) = is
must_quote s t d r e whole (inl is) = absurd (none_some t (after_byte 34 s) (ap (λ (l : List ℕ). after_byte 34 l) whole ∙ no_quote d r is) e)

name_by : (s : List ℕ) (o : Option (List ℕ)) (n : NameAddr) → after_byte 34 s ≡ o → name_addr_from s o ≡ Some n → IsNameAddr s n
unfolding words_of quoted_of
name_by s None n e h = words_by s (after_byte 60 (after_run Display s)) n refl h
name_by s (Some t) n e h =
    let b = bind_some (text_at s) (λ d. after_byte 60 (after_run Blank d.1) >>= λ u. angle_of d.0 u) n h in
    let d : List ℕ × List ℕ = b.0 in
    let f = bind_some (after_byte 60 (after_run Blank d.1)) (λ u. angle_of d.0 u) n b.2 in
    let u : List ℕ = f.0 in
    let txt = text_takes s d b.1 in
    let is = angle_takes d.0 u n f.2 in
    let quoted : IsQuoted d.0 = must_quote s t d.0 d.1 e txt.0 txt.1 in
    let tail : after_run Blank d.1 ≡ 60 ∷ (n.uri ++ 62 ∷ params_text n.params) = after_byte_whole 60 (after_run Blank d.1) u f.1 ∙ ap (λ (l : List ℕ). 60 ∷ l) is.1 in
    let behind : d.1 ≡ leading_run Blank d.1 ++ (60 ∷ (n.uri ++ 62 ∷ params_text n.params)) = run_whole Blank d.1 ∙ ap (λ (l : List ℕ). leading_run Blank d.1 ++ l) tail in
    let whole : s ≡ d.0 ++ (leading_run Blank d.1 ++ (60 ∷ (n.uri ++ 62 ∷ params_text n.params))) = txt.0 ∙ ap (λ (l : List ℕ). d.0 ++ l) behind in
    let shown : s ≡ n.display ++ (leading_run Blank d.1 ++ (60 ∷ (n.uri ++ 62 ∷ params_text n.params))) =
    whole ∙ ap (λ (l : List ℕ). l ++ (leading_run Blank d.1 ++ (60 ∷ (n.uri ++ 62 ∷ params_text n.params)))) (sym is.0) in
    let held : IsQuoted n.display = subst (λ (l : List ℕ). IsQuoted l) (sym is.0) quoted in
    inl (record { gap = leading_run Blank d.1; whole = shown; starts = quote_first s t e; display_in = inr held; gap_in = run_each Blank d.1; uri_in = is.2; params_in = is.3 })

pub name_addr_takes : (s : List ℕ) (n : NameAddr) → name_addr_of s ≡ Some n → IsNameAddr s n
unfolding name_addr_of
name_addr_takes s n e = name_by s (after_byte 34 s) n refl e
