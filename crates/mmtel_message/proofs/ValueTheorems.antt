-- Values that were split are split no further, and are the same values again after they are joined and split.
use Rattle.std.proofs.Common.{◌≡◌, ◌==◌, ◌&&◌, Bool, true, false, ℕ, List, [], ◌∷◌, ◌++◌, None, refl, sym, ap, subst, ◌∙◌, inl, inr, map, arith, append-nil, append_assoc}
use Rattle.std.proofs.lemmas.List.Folds.{list_all-append}
use Rattle.std.proofs.lemmas.Bool.{cases_Bool}
use Rattle.std.proofs.lemmas.Bool.Decides.{nat_tests}
use Rattle.std.specs.List.{list_all, flat_map}
use Rattle.mmtel_base.specs.Classes.{in_class, IsAll, Stops}
use Rattle.mmtel_base.specs.Scanning.{leading_run, after_run, without_trailing}
use Rattle.mmtel_base.specs.declared.classes.Class.TheVariants.{Blank}
use Rattle.mmtel_base.proofs.Runs.{and_true, run_whole, run_each, after_run_again, after_run_stops, after_run_cons, after_run_nil}
use Rattle.mmtel_base.proofs.Trims.{trimmed_takes, trimmed_again}
use Rattle.mmtel_message.specs.Headers.{trim}
use Rattle.mmtel_message.specs.Values.{mode_after, is_separator, base, next_separator, put_byte, parts, values_in, joined_by}
use Rattle.mmtel_message.specs.Expansion.{merged_text}
use Rattle.mmtel_message.specs.declared.values.Mode.{Mode}
use Rattle.mmtel_message.specs.declared.values.Mode.TheVariants.{Plain, Quoted, Escaped, Angle, Words}
use Rattle.mmtel_message.proofs.LineTheorems.{unmapped}
use Rattle.mmtel_message.proofs.CommaTheorems.{base_after, parts_none}

-- ---- blanks

and_is : (a b : Bool) → a ≡ true → b ≡ true → (a && b) ≡ true
and_is a b e f = rw (e, f) refl

all_blank : (a b : List ℕ) → IsAll Blank a → IsAll Blank b → IsAll Blank (a ++ b)
all_blank a b e f = rw (list_all-append (in_class Blank) a b, e, f) refl

blank_is : (b : ℕ) → in_class Blank b ≡ true → ((b == 34) ≡ false) × ((b == 60) ≡ false) × ((b == 62) ≡ false) × ((b == 92) ≡ false) × ((b == 44) ≡ false) × ((b == 59) ≡ false)
unfolding in_class
blank_is b e = (grind (arith, nat_tests, e), grind (arith, nat_tests, e), grind (arith, nat_tests, e), grind (arith, nat_tests, e), grind (arith, nat_tests, e), grind (arith, nat_tests, e))

not_separator : (m : Mode) (b : ℕ) → in_class Blank b ≡ true → is_separator m b ≡ false
not_separator Plain b e = (blank_is b e).4
not_separator Quoted b e = refl
not_separator Escaped b e = refl
not_separator Angle b e = refl
not_separator Words b e = (blank_is b e).5

-- a blank keeps the mode between values
stays : (k : Mode) (b : ℕ) → base k ≡ k → in_class Blank b ≡ true → mode_after k b ≡ k
stays Plain b is e = let x = blank_is b e in rw (x.0, x.1) refl
stays Quoted b is e = absurd cc
stays Escaped b is e = absurd cc
stays Angle b is e = absurd cc
stays Words b is e = refl

-- and does not lead to it from another mode
came : (m k : Mode) (b : ℕ) → base k ≡ k → in_class Blank b ≡ true → mode_after m b ≡ k → m ≡ k
came Plain k b is e f = let x = blank_is b e in rw (x.0, x.1) at f
came Quoted k b is e f = let x = blank_is b e in rw (x.0, x.3) at f
came Escaped k b is e f = let g = subst (λ (z : Mode). base z ≡ z) (sym f) is in absurd cc
came Angle k b is e f = let x = blank_is b e in rw x.2 at f
came Words k b is e f = f

-- ---- the blanks around a text

abbrev IsRest : List ℕ → List ℕ → Type 0
IsRest p q = p ≡ leading_run Blank p ++ q

rest_of_blanks : (r back : List ℕ) → IsAll Blank r → after_run Blank (r ++ back) ≡ after_run Blank back
rest_of_blanks [] back each = refl
rest_of_blanks (b ∷ r) back each =
    let both = and_true (in_class Blank b) (list_all (in_class Blank) r) each in
    after_run_cons Blank b (r ++ back) both.0 ∙ rest_of_blanks r back both.1

all_gone : (s : List ℕ) → IsAll Blank s → after_run Blank s ≡ []
all_gone s each = ap (λ (x : List ℕ). after_run Blank x) (sym (append-nil s)) ∙ (rest_of_blanks s [] each ∙ after_run_nil Blank)

begun : (q back : List ℕ) → Stops Blank q → IsAll Blank back → without_trailing Blank (after_run Blank (q ++ back)) ≡ without_trailing Blank q
begun [] back stops each = ap (λ (x : List ℕ). without_trailing Blank x) (all_gone back each)
begun (b ∷ t) back stops each =
    let q : List ℕ = b ∷ t in
    let stays_so : after_run Blank (q ++ back) ≡ q ++ back = after_run_again Blank [] (q ++ back) refl stops in
    let tt = trimmed_takes Blank q in
    let whole : q ++ back ≡ without_trailing Blank q ++ (tt.back ++ back) = ap (λ (x : List ℕ). x ++ back) tt.whole ∙ append_assoc (without_trailing Blank q) tt.back back in
    rw (stays_so, whole) (trimmed_again Blank (without_trailing Blank q) (tt.back ++ back) (all_blank tt.back back tt.back_in each) tt.ends)

-- further blanks after a text are trimmed away
pub trim_more : (p back : List ℕ) → IsAll Blank back → trim (p ++ back) ≡ trim p
trim_more p back each =
    let r : List ℕ = leading_run Blank p in
    let q : List ℕ = after_run Blank p in
    let whole : p ++ back ≡ r ++ (q ++ back) = ap (λ (x : List ℕ). x ++ back) (run_whole Blank p) ∙ append_assoc r q back in
    let led : after_run Blank (p ++ back) ≡ after_run Blank (q ++ back) = ap (λ (x : List ℕ). after_run Blank x) whole ∙ rest_of_blanks r (q ++ back) (run_each Blank p) in
    rw led (begun q back (after_run_stops Blank p) each)

-- so are further ones before it
pub trim_led : (b : ℕ) (p : List ℕ) → in_class Blank b ≡ true → trim (b ∷ p) ≡ trim p
trim_led b p e = ap (λ (x : List ℕ). without_trailing Blank x) (after_run_cons Blank b p e)

stops_front : (a x : List ℕ) → Stops Blank (a ++ x) → Stops Blank a
stops_front [] x e = tt
stops_front (b ∷ a) x e = e

pub trim_again : (p : List ℕ) → trim (trim p) ≡ trim p
trim_again p =
    let q : List ℕ = after_run Blank p in
    let f : List ℕ = without_trailing Blank q in
    let t = trimmed_takes Blank q in
    let stops : Stops Blank f = stops_front f t.back (subst (λ (s : List ℕ). Stops Blank s) t.whole (after_run_stops Blank p)) in
    let front : after_run Blank f ≡ f = after_run_again Blank [] f refl stops in
    let ended : without_trailing Blank f ≡ f = (ap (λ (s : List ℕ). without_trailing Blank s) (sym (append-nil f)) ∙ trimmed_again Blank f [] refl t.ends) in
    rw front ended

-- a text is its trimmed text with blanks around it
pub record Around (p : List ℕ) : Type 0 where
  pub front : List ℕ
  pub back : List ℕ
  pub whole : p ≡ front ++ (trim p ++ back)
  pub front_in : IsAll Blank front
  pub back_in : IsAll Blank back

pub around : (p : List ℕ) → Around p
around p =
    let t = trimmed_takes Blank (after_run Blank p) in
    record {
      front = leading_run Blank p;
      back = t.back;
      whole = run_whole Blank p ∙ ap (λ (x : List ℕ). leading_run Blank p ++ x) t.whole;
      front_in = run_each Blank p;
      back_in = t.back_in;
    }

-- ---- the mode after a text

abbrev pub ends : Mode → List ℕ → Mode
ends m [] = m
ends m (b ∷ s) = ends (mode_after m b) s

pub ends_more : (m : Mode) (a b : List ℕ) → ends m (a ++ b) ≡ ends (ends m a) b
ends_more m [] b = refl
ends_more m (x ∷ a) b = ends_more (mode_after m x) a b

ends_blank : (k : Mode) (a : List ℕ) → base k ≡ k → IsAll Blank a → ends k a ≡ k
ends_blank k [] is each = refl
ends_blank k (b ∷ a) is each =
    let both = and_true (in_class Blank b) (list_all (in_class Blank) a) each in
    ap (λ (m : Mode). ends m a) (stays k b is both.0) ∙ ends_blank k a is both.1

ends_came : (m k : Mode) (a : List ℕ) → base k ≡ k → IsAll Blank a → ends m a ≡ k → m ≡ k
ends_came m k [] is each e = e
ends_came m k (b ∷ a) is each e =
    let both = and_true (in_class Blank b) (list_all (in_class Blank) a) each in
    came m k b is both.0 (ends_came (mode_after m b) k a is both.1 e)

-- ---- nothing within a part separates

-- a prefix of a text in which nothing separates
front_whole : (m : Mode) (a x : List ℕ) → next_separator m (a ++ x) ≡ None → next_separator m a ≡ None
unfolding next_separator
front_whole m [] x e = refl
front_whole m (b ∷ a) x e =
    elim (cases_Bool (is_separator m b)) [
      | inl y ↦ let f = rw y at e in absurd cc
      | inr other ↦ rw (other, front_whole (mode_after m b) a x (unmapped (next_separator (mode_after m b) (a ++ x)) (rw other at e))) refl
    ]

-- what follows blanks
rest_whole : (k : Mode) (a x : List ℕ) → base k ≡ k → IsAll Blank a → next_separator k (a ++ x) ≡ None → next_separator k x ≡ None
unfolding next_separator
rest_whole k [] x is each e = e
rest_whole k (b ∷ a) x is each e =
    let both = and_true (in_class Blank b) (list_all (in_class Blank) a) each in
    rest_whole k a x is both.1 (unmapped (next_separator k (a ++ x)) (rw (not_separator k b both.0, stays k b is both.0) at e))

pub trim_whole : (k : Mode) (p : List ℕ) → base k ≡ k → next_separator k p ≡ None → next_separator k (trim p) ≡ None
trim_whole k p is e =
    let a = around p in
    let rest : next_separator k (trim p ++ a.back) ≡ None = rest_whole k a.front (trim p ++ a.back) is a.front_in (subst (λ (s : List ℕ). next_separator k s ≡ None) a.whole e) in
    front_whole k (trim p) a.back rest

trim_ends : (k : Mode) (p : List ℕ) → base k ≡ k → ends k p ≡ k → ends k (trim p) ≡ k
trim_ends k p is e =
    let a = around p in
    let all : ends k (a.front ++ (trim p ++ a.back)) ≡ k = subst (λ (s : List ℕ). ends k s ≡ k) a.whole e in
    let inner : ends (ends k a.front) (trim p ++ a.back) ≡ k = sym (ends_more k a.front (trim p ++ a.back)) ∙ all in
    let after : ends k (trim p ++ a.back) ≡ k = rw (ends_blank k a.front is a.front_in) at inner in
    ends_came (ends k (trim p)) k a.back is a.back_in (sym (ends_more k (trim p) a.back) ∙ after)

pub value_again : (k : Mode) (p : List ℕ) → base k ≡ k → next_separator k p ≡ None → values_in k (trim p) ≡ trim p ∷ []
value_again k p is e = rw (parts_none k (trim p) (trim_whole k p is e), trim_again p) refl

-- ---- the parts of a text: nothing within one separates, and each but the last ends where a value ends

abbrev pub ClosedBefore : Mode → List ℕ → List (List ℕ) → Type 0
ClosedBefore m p [] = Unit {0}
ClosedBefore m p (q ∷ ps) = ends m p ≡ base m

abbrev pub AreClosed : Mode → List (List ℕ) → Type 0
AreClosed m [] = Unit {0}
AreClosed m (p ∷ ps) = (next_separator m p ≡ None) × ClosedBefore m p ps × AreClosed (base m) ps

separator_base : (m : Mode) (b : ℕ) → is_separator m b ≡ true → m ≡ base m
separator_base Plain b e = refl
separator_base Quoted b e = absurd cc
separator_base Escaped b e = absurd cc
separator_base Angle b e = absurd cc
separator_base Words b e = refl

closed_empty : (m : Mode) (ps : List (List ℕ)) → m ≡ base m → ClosedBefore m [] ps
closed_empty m [] e = tt
closed_empty m (p ∷ ps) e = e

closed_longer : (m : Mode) (b : ℕ) (p : List ℕ) (ps : List (List ℕ)) → ClosedBefore (mode_after m b) p ps → ClosedBefore m (b ∷ p) ps
closed_longer m b p [] e = tt
closed_longer m b p (q ∷ ps) e = e ∙ base_after m b

closed_put : (m : Mode) (b : ℕ) (ps : List (List ℕ)) → is_separator m b ≡ false → AreClosed (mode_after m b) ps → AreClosed m (put_byte b ps)
unfolding next_separator
closed_put m b [] other e = (rw other refl, tt, tt)
closed_put m b (p ∷ ps) other e = (rw (other, e.0) refl, closed_longer m b p ps e.1, rw (base_after m b) at e.2)

pub parts_closed : (m : Mode) (s : List ℕ) → AreClosed m (parts m s)
unfolding parts next_separator
parts_closed m [] = (refl, tt, tt)
parts_closed m (b ∷ s) =
    elim (cases_Bool (is_separator m b)) [
      | inl y ↦ rw y (refl, closed_empty m (parts (base m) s) (separator_base m b y), parts_closed (base m) s)
      | inr other ↦ rw other (closed_put m b (parts (mode_after m b) s) other (parts_closed (mode_after m b) s))
    ]

-- trimmed values, closed as the parts were
abbrev pub AreValues : Mode → List (List ℕ) → Type 0
AreValues k [] = Unit {0}
AreValues k (v ∷ vs) = (next_separator k v ≡ None) × ClosedBefore k v vs × (trim v ≡ v) × AreValues k vs

closed_trim : (k : Mode) (p : List ℕ) (ps : List (List ℕ)) → base k ≡ k → ClosedBefore k p ps → ClosedBefore k (trim p) (map trim ps)
closed_trim k p [] is e = tt
closed_trim k p (q ∷ ps) is e = trim_ends k p is (e ∙ is) ∙ sym is

values_by : (k : Mode) (ps : List (List ℕ)) → base k ≡ k → AreClosed k ps → AreValues k (map trim ps)
values_by k [] is e = tt
values_by k (p ∷ ps) is e = (trim_whole k p is e.0, closed_trim k p ps is e.1, trim_again p, values_by k ps is (rw is at e.2))

pub are_values : (k : Mode) (s : List ℕ) → base k ≡ k → AreValues k (values_in k s)
are_values k s is = values_by k (parts k s) is (parts_closed k s)

-- ---- there is a first part

put_is_cons : (b : ℕ) (ps : List (List ℕ)) → (q : List ℕ) × (qs : List (List ℕ)) × (put_byte b ps ≡ q ∷ qs)
put_is_cons b [] = (b ∷ [], [], refl)
put_is_cons b (p ∷ ps) = (b ∷ p, ps, refl)

pub parts_is_cons : (m : Mode) (s : List ℕ) → (p : List ℕ) × (ps : List (List ℕ)) × (parts m s ≡ p ∷ ps)
unfolding parts
parts_is_cons m [] = ([], [], refl)
parts_is_cons m (b ∷ s) =
    elim (cases_Bool (is_separator m b)) [
      | inl y ↦ ([], parts (base m) s, rw y refl)
      | inr other ↦ let c = put_is_cons b (parts (mode_after m b) s) in (c.0, c.1, rw other c.2)
    ]

-- ---- blanks around a text with values

led_blank : (k : Mode) (b : ℕ) (s : List ℕ) → base k ≡ k → in_class Blank b ≡ true → values_in k (b ∷ s) ≡ values_in k s
unfolding parts
led_blank k b s is e =
    let c = parts_is_cons k s in
    rw (not_separator k b e, stays k b is e, c.2, trim_led b c.0 e) refl

values_led : (k : Mode) (a s : List ℕ) → base k ≡ k → IsAll Blank a → values_in k (a ++ s) ≡ values_in k s
values_led k [] s is each = refl
values_led k (b ∷ a) s is each =
    let both = and_true (in_class Blank b) (list_all (in_class Blank) a) each in
    led_blank k b (a ++ s) is both.0 ∙ values_led k a s is both.1

-- the parts before the last, and the last, to which the text that follows is added
record LastLonger (m : Mode) (s back : List ℕ) : Type 0 where
  begin : List (List ℕ)
  last : List ℕ
  is : parts m s ≡ begin ++ last ∷ []
  longer : parts m (s ++ back) ≡ begin ++ (last ++ back) ∷ []

put_last : (b : ℕ) (begin : List (List ℕ)) (last back : List ℕ) →
    (more : List (List ℕ)) × (end : List ℕ) × (put_byte b (begin ++ last ∷ []) ≡ more ++ end ∷ []) × (put_byte b (begin ++ (last ++ back) ∷ []) ≡ more ++ (end ++ back) ∷ [])
put_last b [] last back = ([], b ∷ last, refl, refl)
put_last b (p ∷ ps) last back = ((b ∷ p) ∷ ps, last, refl, refl)

blanks_whole : (m : Mode) (back : List ℕ) → IsAll Blank back → next_separator m back ≡ None
unfolding next_separator
blanks_whole m [] each = refl
blanks_whole m (b ∷ back) each =
    let both = and_true (in_class Blank b) (list_all (in_class Blank) back) each in
    rw (not_separator m b both.0, blanks_whole (mode_after m b) back both.1) refl

last_longer : (m : Mode) (s back : List ℕ) → IsAll Blank back → LastLonger m s back
unfolding parts
last_longer m [] back each = record { begin = []; last = []; is = refl; longer = parts_none m back (blanks_whole m back each) }
last_longer m (b ∷ s) back each =
    elim (cases_Bool (is_separator m b)) [
      | inl y ↦
          let l = last_longer (base m) s back each in
          record { begin = [] ∷ l.begin; last = l.last; is = rw (y, l.is) refl; longer = rw (y, l.longer) refl }
      | inr other ↦
          let l = last_longer (mode_after m b) s back each in
          let q = put_last b l.begin l.last back in
          record { begin = q.0; last = q.1; is = rw (other, l.is) q.2; longer = rw (other, l.longer) q.3 }
    ]

map_last : (begin : List (List ℕ)) (x y : List ℕ) → trim x ≡ trim y → map trim (begin ++ x ∷ []) ≡ map trim (begin ++ y ∷ [])
map_last [] x y e = rw e refl
map_last (p ∷ ps) x y e = rw (map_last ps x y e) refl

values_ended : (m : Mode) (s back : List ℕ) → IsAll Blank back → values_in m (s ++ back) ≡ values_in m s
values_ended m s back each =
    let l = last_longer m s back each in
    rw (l.longer, l.is) (map_last l.begin (l.last ++ back) l.last (trim_more l.last back each))

-- blanks around a text with values do not matter
pub values_trim : (k : Mode) (s : List ℕ) → base k ≡ k → values_in k (trim s) ≡ values_in k s
values_trim k s is =
    let a = around s in
    sym (ap (λ (x : List ℕ). values_in k x) a.whole ∙ (values_led k a.front (trim s ++ a.back) is a.front_in ∙ values_ended k (trim s) a.back a.back_in))

-- ---- joined values

parts_over : (m : Mode) (v : List ℕ) (c : ℕ) (x : List ℕ) → next_separator m v ≡ None → is_separator (ends m v) c ≡ true → parts m (v ++ c ∷ x) ≡ v ∷ parts (base m) x
unfolding parts next_separator
parts_over m [] c x e f = rw f refl
parts_over m (b ∷ v) c x e f =
    elim (cases_Bool (is_separator m b)) [
      | inl y ↦ let g = rw y at e in absurd cc
      | inr other ↦ rw (other, parts_over (mode_after m b) v c x (unmapped (next_separator (mode_after m b) v) (rw other at e)) f, base_after m b) refl
    ]

abbrev tail_of : List ℕ → List (List ℕ) → List ℕ
tail_of between vs = flat_map (λ w. between ++ w) vs

joined_from : (k : Mode) (c : ℕ) (blanks v : List ℕ) (vs : List (List ℕ)) → base k ≡ k → is_separator k c ≡ true → IsAll Blank blanks → AreValues k (v ∷ vs) → values_in k (v ++ tail_of (c ∷ blanks) vs) ≡ v ∷ vs
joined_from k c blanks v [] is f each e = rw (append-nil v, parts_none k v e.0, e.2) refl
joined_from k c blanks v (w ∷ vs) is f each e =
    let rest : List ℕ = (blanks ++ w) ++ tail_of (c ∷ blanks) vs in
    let closed : ends k v ≡ k = e.1 ∙ is in
    let one : parts k (v ++ c ∷ rest) ≡ v ∷ parts k rest = rw is at (parts_over k v c rest e.0 (rw (closed, f) refl)) in
    let more : values_in k rest ≡ w ∷ vs = rw (append_assoc blanks w (tail_of (c ∷ blanks) vs)) (values_led k blanks (w ++ tail_of (c ∷ blanks) vs) is each ∙ joined_from k c blanks w vs is f each e.3) in
    rw (one, e.2) (ap (λ (l : List (List ℕ)). v ∷ l) more)

pub values_joined : (k : Mode) (c : ℕ) (blanks v : List ℕ) (vs : List (List ℕ)) → base k ≡ k → is_separator k c ≡ true → IsAll Blank blanks → AreValues k (v ∷ vs) → values_in k (joined_by (c ∷ blanks) (v ∷ vs)) ≡ v ∷ vs
values_joined k c blanks v vs is f each e = joined_from k c blanks v vs is f each e

by_cons : (k : Mode) (c : ℕ) (blanks : List ℕ) (v : List ℕ) (vs ps : List (List ℕ)) → base k ≡ k → is_separator k c ≡ true → IsAll Blank blanks → AreValues k ps → ps ≡ v ∷ vs →
    values_in k (joined_by (c ∷ blanks) ps) ≡ ps
by_cons k c blanks v vs ps is f each e same =
    let e' : AreValues k (v ∷ vs) = subst (λ (x : List (List ℕ)). AreValues k x) same e in
    rw same (values_joined k c blanks v vs is f each e')

-- the values of a text, joined and trimmed, are the values of the text
pub merged_values : (k : Mode) (c d : ℕ) (blanks : List ℕ) (texts : List (List ℕ)) → base k ≡ k → is_separator k c ≡ true → IsAll Blank blanks →
    values_in k (merged_text k (d ∷ []) (c ∷ blanks) texts) ≡ values_in k (joined_by (d ∷ []) texts)
merged_values k c d blanks texts is f each =
    let whole : List ℕ = joined_by (d ∷ []) texts in
    let p = parts_is_cons k whole in
    values_trim k (joined_by (c ∷ blanks) (values_in k whole)) is ∙ by_cons k c blanks (trim p.0) (map trim p.1) (values_in k whole) is f each (are_values k whole is) (rw p.2 refl)

-- a merged text is not changed by merging
pub merged_again : (k : Mode) (c d : ℕ) (blanks : List ℕ) (texts : List (List ℕ)) → base k ≡ k → is_separator k c ≡ true → IsAll Blank blanks →
    merged_text k (d ∷ []) (c ∷ blanks) (merged_text k (d ∷ []) (c ∷ blanks) texts ∷ []) ≡ merged_text k (d ∷ []) (c ∷ blanks) texts
merged_again k c d blanks texts is f each =
    rw (append-nil (merged_text k (d ∷ []) (c ∷ blanks) texts), merged_values k c d blanks texts is f each) refl
