-- A message in which nothing is wrong is expanded to one in which nothing is wrong, and which expansion does not change.
use Rattle.std.proofs.Common.{◌≡◌, ◌==◌, ◌&&◌, ◌||◌, not, ◌⊎◌, Bool, true, false, ℕ, ◌+◌, List, [], ◌∷◌, ◌++◌, length, None, refl, sym, ap, subst, ◌∙◌, inl, inr, map, arith, append-nil, append_assoc, codes, nat_lt}
use Rattle.std.proofs.lemmas.Bool.{cases_Bool}
use Rattle.std.proofs.lemmas.Bool.Decides.{nat_tests}
use Rattle.std.proofs.lemmas.Grind.{flat_map-append}
use Rattle.std.proofs.lemmas.List.{length-append}
use Rattle.std.proofs.lemmas.List.Folds.{list_any-append}
use Rattle.std.proofs.lemmas.Slice.Eq.{bytes_eq-Decides}
use Rattle.std.specs.List.{list_any}
use Rattle.std.specs.Str.{bytes_eq, str_to_ascii_lowercase}
use Rattle.mmtel_base.proofs.Runs.{and_true}
use Rattle.mmtel_message.specs.Headers.{trim}
use Rattle.mmtel_message.specs.Message.{is_line, has_line, line_values, values_named}
use Rattle.mmtel_message.specs.Values.{values_in, values_of}
use Rattle.mmtel_message.specs.Faults.{is_method, is_request, is_readable, are_readable, are_words, has_cookie, line_fault, fault_from}
use Rattle.mmtel_message.specs.Entries.{is_entry, are_entries}
use Rattle.mmtel_lex.specs.Params.{param_value}
use Rattle.mmtel_message.specs.Expansion.{is_listed, lines_for, expanded_from}
use Rattle.mmtel_message.specs.declared.values.Mode.TheVariants.{Plain, Words}
use Rattle.mmtel_message.specs.declared.fields.Five.{Five}
use Rattle.mmtel_message.specs.declared.messages.Start.{Start}
use Rattle.mmtel_message.proofs.CommaTheorems.{parts_none}
use Rattle.mmtel_message.proofs.ValueTheorems.{AreValues, are_values, parts_is_cons}

abbrev pub Line : Type 0
Line = List ℕ × List ℕ

-- ---- truth values

or_false : (b : Bool) → b ≡ (b || false)
or_false true = refl
or_false false = refl

pub not_false : (b : Bool) → not b ≡ false → b ≡ true
not_false true e = refl
not_false false e = absurd cc

pub or_left : (a b : Bool) → (a || b) ≡ false → (a ≡ false) × (b ≡ false)
or_left true b e = absurd cc
or_left false b e = (refl, e)

-- ---- names without case

-- a line's name is the name up to case
pub line_named : (name : List ℕ) (h : Line) → is_line name h ≡ true → str_to_ascii_lowercase h.0 ≡ str_to_ascii_lowercase name
line_named name h e = (bytes_eq-Decides (str_to_ascii_lowercase h.0) (str_to_ascii_lowercase name)).0 e

has_named : (X P : List ℕ) (B : List Line) → str_to_ascii_lowercase X ≡ str_to_ascii_lowercase P → has_line X B ≡ has_line P B
has_named X P B e = ap (λ (n : List ℕ). list_any (λ (l : Line). bytes_eq (str_to_ascii_lowercase l.0) n) B) e

pub has_more : (X : List ℕ) (B : List Line) (x : Line) → has_line X (B ++ x ∷ []) ≡ (has_line X B || is_line X x)
has_more X B x = list_any-append (λ (l : Line). is_line X l) B (x ∷ []) ∙ ap (λ (b : Bool). has_line X B || b) (sym (or_false (is_line X x)))

-- ---- lines in which nothing is wrong

abbrev pub Clean : Start → Five → ℕ → List Line → List Line → Type 0
Clean start five room B [] = Unit {0}
Clean start five room B (h ∷ hs) = (line_fault start five room B h ≡ false) × Clean start five room (B ++ h ∷ []) hs

pub clean_from : (start : Start) (five : Five) (room : ℕ) (B hs : List Line) → fault_from start five room B hs ≡ None → Clean start five room B hs
unfolding fault_from
clean_from start five room B [] e = tt
clean_from start five room B (h ∷ hs) e =
    elim (cases_Bool (line_fault start five room B h)) [
      | inl y ↦ let f = rw y at e in absurd cc
      | inr n ↦ (n, clean_from start five room (B ++ h ∷ []) hs (rw n at e))
    ]

pub clean_to : (start : Start) (five : Five) (room : ℕ) (B hs : List Line) → Clean start five room B hs → fault_from start five room B hs ≡ None
unfolding fault_from
clean_to start five room B [] e = refl
clean_to start five room B (h ∷ hs) e = rw (e.0, clean_to start five room (B ++ h ∷ []) hs e.1) refl

clean_append : (start : Start) (five : Five) (room : ℕ) (B N R : List Line) → Clean start five room B N → Clean start five room (B ++ N) R → Clean start five room B (N ++ R)
clean_append start five room B [] R e f = subst (λ (x : List Line). Clean start five room x R) (append-nil B) f
clean_append start five room B (x ∷ N) R e f =
    (e.0, clean_append start five room (B ++ x ∷ []) N R e.1 (subst (λ (y : List Line). Clean start five room y R) (sym (append_assoc B (x ∷ []) N)) f))

pub from_append : (p a : List ℕ) (B N R : List Line) → expanded_from p a B (N ++ R) ≡ expanded_from p a B N ++ expanded_from p a (B ++ N) R
unfolding expanded_from
from_append p a B [] R = ap (λ (x : List Line). expanded_from p a x R) (sym (append-nil B))
from_append p a B (x ∷ N) R =
    let more : expanded_from p a (B ++ x ∷ []) (N ++ R) ≡ expanded_from p a (B ++ x ∷ []) N ++ expanded_from p a ((B ++ x ∷ []) ++ N) R = from_append p a (B ++ x ∷ []) N R in
    let same : (B ++ x ∷ []) ++ N ≡ B ++ x ∷ N = append_assoc B (x ∷ []) N in
    rw (more, same) (sym (append_assoc (lines_for p a B x) (expanded_from p a (B ++ x ∷ []) N) (expanded_from p a (B ++ x ∷ N) R)))

-- ---- lines that have the same effect on the lines that follow

pub record Rel (B B' : List Line) : Type 0 where
  pub has : (X : List ℕ) → has_line X B' ≡ has_line X B
  pub hist : values_named Plain (codes "History-Info") B' ≡ values_named Plain (codes "History-Info") B

line_same : (start : Start) (five : Five) (room : ℕ) (B B' : List Line) (h : Line) → Rel B B' → line_fault start five room B' h ≡ line_fault start five room B h
line_same start five room B B' h rel = rw (rel.has (codes "Max-Forwards"), rel.has (codes "Content-Length"), rel.has (codes "Contact"), rel.has (codes "Via"), rel.hist) refl

pub hist_more : (B N : List Line) → values_named Plain (codes "History-Info") (B ++ N) ≡ values_named Plain (codes "History-Info") B ++ values_named Plain (codes "History-Info") N
hist_more B N = flat_map-append (λ (l : Line). line_values Plain (codes "History-Info") l) B N

pub hist_none : (B : List Line) (h : Line) → is_line (codes "History-Info") h ≡ false → values_named Plain (codes "History-Info") (B ++ h ∷ []) ≡ values_named Plain (codes "History-Info") B
hist_none B h n = hist_more B (h ∷ []) ∙ rw n (append-nil (values_named Plain (codes "History-Info") B))

has_other : (X : List ℕ) (B : List Line) (h : Line) → is_line X h ≡ false → has_line X B ≡ has_line X (B ++ h ∷ [])
has_other X B h n = or_false (has_line X B) ∙ sym (has_more X B h ∙ ap (λ (b : Bool). has_line X B || b) n)

-- a line of a name that already occurs
dropped_has : (X P : List ℕ) (B : List Line) (h : Line) → is_line P h ≡ true → has_line P B ≡ true → has_line X B ≡ has_line X (B ++ h ∷ [])
dropped_has X P B h e f =
    elim (cases_Bool (is_line X h)) [
      | inl y ↦
          let there : has_line X B ≡ true = has_named X P B (sym (line_named X h y) ∙ line_named P h e) ∙ f in
          rw (has_more X B h, there) refl
      | inr n ↦ has_other X B h n
    ]

-- a line of the same name
renamed_has : (X : List ℕ) (B B' : List Line) (h : Line) (text : List ℕ) → Rel B B' → has_line X (B' ++ (h.0, text) ∷ []) ≡ has_line X (B ++ h ∷ [])
renamed_has X B B' h text rel = has_more X B' (h.0, text) ∙ (ap (λ (b : Bool). b || is_line X h) (rel.has X) ∙ sym (has_more X B h))

-- ---- a line and those that replace it

pub record Kept (start : Start) (five : Five) (room : ℕ) (p a : List ℕ) (B B' : List Line) (h : Line) : Type 0 where
  pub clean : Clean start five room B' (lines_for p a B h)
  pub same : expanded_from p a B' (lines_for p a B h) ≡ lines_for p a B h
  pub rel : Rel (B ++ h ∷ []) (B' ++ lines_for p a B h)

abbrev KeptAs : Start → Five → ℕ → List ℕ → List ℕ → List Line → List Line → Line → List Line → Type 0
KeptAs start five room p a B B' h N = Clean start five room B' N × (expanded_from p a B' N ≡ N) × Rel (B ++ h ∷ []) (B' ++ N)

kept_as : (start : Start) (five : Five) (room : ℕ) (p a : List ℕ) (B B' : List Line) (h : Line) (N : List Line) → lines_for p a B h ≡ N → KeptAs start five room p a B B' h N → Kept start five room p a B B' h
kept_as start five room p a B B' h N e k =
    let k' : KeptAs start five room p a B B' h (lines_for p a B h) = subst (λ (x : List Line). KeptAs start five room p a B B' h x) (sym e) k in
    record { clean = k'.0; same = k'.1; rel = k'.2 }

-- a line of Privacy or Allow after the first is replaced by nothing
kept_none : (start : Start) (five : Five) (room : ℕ) (p a : List ℕ) (B B' : List Line) (h : Line) (P : List ℕ) → Rel B B' → is_line P h ≡ true → has_line P B ≡ true →
    is_line (codes "History-Info") h ≡ false → KeptAs start five room p a B B' h []
unfolding expanded_from
kept_none start five room p a B B' h P rel e f n =
    let nil : B' ++ [] ≡ B' = append-nil B' in (
      tt,
      refl,
      record {
        has = λ X. rw nil (rel.has X ∙ dropped_has X P B h e f);
        hist = rw nil (rel.hist ∙ sym (hist_none B h n));
      },
    )

-- a line is replaced by one line of the same name
kept_one : (start : Start) (five : Five) (room : ℕ) (p a : List ℕ) (B B' : List Line) (h : Line) (text : List ℕ) → Rel B B' → line_fault start five room B' (h.0, text) ≡ false →
    lines_for p a B' (h.0, text) ≡ (h.0, text) ∷ [] → is_line (codes "History-Info") h ≡ false → KeptAs start five room p a B B' h ((h.0, text) ∷ [])
unfolding expanded_from
kept_one start five room p a B B' h text rel clean same n = (
  (clean, tt),
  rw same refl,
  record {
    has = λ X. renamed_has X B B' h text rel;
    hist = hist_none B' (h.0, text) n ∙ (rel.hist ∙ sym (hist_none B h n));
  },
)

abbrev IsPrivacy : Line → Type 0
IsPrivacy h = str_to_ascii_lowercase h.0 ≡ codes "privacy"

abbrev IsAllow : Line → Type 0
IsAllow h = str_to_ascii_lowercase h.0 ≡ codes "allow"

privacy_clean : (start : Start) (five : Five) (room : ℕ) (B : List Line) (n text : List ℕ) → (length n == 0) ≡ false → str_to_ascii_lowercase n ≡ codes "privacy" →
    are_words (values_in Words text) ≡ true → line_fault start five room B (n, text) ≡ false
privacy_clean start five room B n text named q words = rw (named, q, words) refl

allow_clean : (start : Start) (five : Five) (room : ℕ) (B : List Line) (n text : List ℕ) → (length n == 0) ≡ false → str_to_ascii_lowercase n ≡ codes "allow" → line_fault start five room B (n, text) ≡ false
allow_clean start five room B n text named q = rw (named, q) refl

kept_privacy : (start : Start) (five : Five) (room : ℕ) (p a : List ℕ) (B B' : List Line) (h : Line) → Rel B B' → (length h.0 == 0) ≡ false → is_line (codes "Privacy") h ≡ true →
    are_words (values_in Words p) ≡ true → Kept start five room p a B B' h
kept_privacy start five room p a B B' h rel named e words =
    let q : IsPrivacy h = line_named (codes "Privacy") h e in
    let n : is_line (codes "History-Info") h ≡ false = rw q refl in
    elim (cases_Bool (has_line (codes "Privacy") B)) [
      | inl y ↦ kept_as start five room p a B B' h [] (rw (named, e, y) refl) (kept_none start five room p a B B' h (codes "Privacy") rel e y n)
      | inr fresh ↦
          let fresh' : has_line (codes "Privacy") B' ≡ false = rel.has (codes "Privacy") ∙ fresh in
          kept_as start five room p a B B' h ((h.0, p) ∷ []) (rw (named, e, fresh) refl)
          (kept_one start five room p a B B' h p rel (privacy_clean start five room B' h.0 p named q words) (rw (named, e, fresh') refl) n)
    ]

kept_allow : (start : Start) (five : Five) (room : ℕ) (p a : List ℕ) (B B' : List Line) (h : Line) → Rel B B' → (length h.0 == 0) ≡ false → is_line (codes "Privacy") h ≡ false →
    is_line (codes "Allow") h ≡ true → Kept start five room p a B B' h
kept_allow start five room p a B B' h rel named other e =
    let q : IsAllow h = line_named (codes "Allow") h e in
    let n : is_line (codes "History-Info") h ≡ false = rw q refl in
    elim (cases_Bool (has_line (codes "Allow") B)) [
      | inl y ↦ kept_as start five room p a B B' h [] (rw (named, other, e, y) refl) (kept_none start five room p a B B' h (codes "Allow") rel e y n)
      | inr fresh ↦
          let fresh' : has_line (codes "Allow") B' ≡ false = rel.has (codes "Allow") ∙ fresh in
          kept_as start five room p a B B' h ((h.0, a) ∷ []) (rw (named, other, e, fresh) refl)
          (kept_one start five room p a B B' h a rel (allow_clean start five room B' h.0 a named q) (rw (named, other, e, fresh') refl) n)
    ]

-- ---- the values of a listed name, one per line

abbrev pub AllOf : (List ℕ → Type 0) → List (List ℕ) → Type 0
AllOf P [] = Unit {0}
AllOf P (v ∷ vs) = P v × AllOf P vs

abbrev pub IsSingle : List ℕ → Type 0
IsSingle v = values_in Plain v ≡ v ∷ []

singles_by : (vs : List (List ℕ)) → AreValues Plain vs → AllOf IsSingle vs
singles_by [] e = tt
singles_by (v ∷ vs) e = (rw (parts_none Plain v e.0, e.2) refl, singles_by vs e.3)

pub singles : (s : List ℕ) → AllOf IsSingle (values_of s)
singles s = singles_by (values_of s) (are_values Plain s refl)

abbrev lines_of : List ℕ → List (List ℕ) → List Line
lines_of n vs = map (λ (v : List ℕ). (n, v)) vs

has_none : (X n : List ℕ) (vs : List (List ℕ)) → is_line X (n, []) ≡ false → has_line X (lines_of n vs) ≡ false
has_none X n [] e = refl
has_none X n (v ∷ vs) e = rw e (has_none X n vs e)

has_lines : (X n v : List ℕ) (vs : List (List ℕ)) → has_line X (lines_of n (v ∷ vs)) ≡ is_line X (n, [])
has_lines X n v vs =
    elim (cases_Bool (is_line X (n, []))) [
      | inl y ↦ rw y refl
      | inr e ↦ rw e (has_none X n vs e)
    ]

hist_lines : (n : List ℕ) (vs : List (List ℕ)) → is_line (codes "History-Info") (n, []) ≡ true → AllOf IsSingle vs → values_named Plain (codes "History-Info") (lines_of n vs) ≡ vs
hist_lines n [] e each = refl
hist_lines n (v ∷ vs) e each = rw (e, each.0, hist_lines n vs e each.1) refl

hist_not : (n : List ℕ) (vs : List (List ℕ)) → is_line (codes "History-Info") (n, []) ≡ false → values_named Plain (codes "History-Info") (lines_of n vs) ≡ []
hist_not n [] e = refl
hist_not n (v ∷ vs) e = rw e (hist_not n vs e)

listed_hist : (B B' : List Line) (h : Line) → Rel B B' → values_named Plain (codes "History-Info") (B' ++ lines_of h.0 (values_of h.1)) ≡ values_named Plain (codes "History-Info") (B ++ h ∷ [])
listed_hist B B' h rel =
    elim (cases_Bool (is_line (codes "History-Info") h)) [
      | inl y ↦
          let mine : values_named Plain (codes "History-Info") (h ∷ []) ≡ values_of h.1 = rw y (append-nil (values_of h.1)) in
          hist_more B' (lines_of h.0 (values_of h.1)) ∙ rw (rel.hist, hist_lines h.0 (values_of h.1) y (singles h.1), hist_more B (h ∷ []), mine) refl
      | inr n ↦
          hist_more B' (lines_of h.0 (values_of h.1)) ∙ rw (rel.hist, hist_not h.0 (values_of h.1) n, hist_none B h n) (append-nil (values_named Plain (codes "History-Info") B))
    ]

listed_has : (X : List ℕ) (B B' : List Line) (h : Line) → Rel B B' → has_line X (B' ++ lines_of h.0 (values_of h.1)) ≡ has_line X (B ++ h ∷ [])
listed_has X B B' h rel =
    let c = parts_is_cons Plain h.1 in
    let mine : has_line X (lines_of h.0 (values_of h.1)) ≡ is_line X h = rw c.2 (has_lines X h.0 (trim c.0) (map trim c.1)) in
    list_any-append (λ (l : Line). is_line X l) B' (lines_of h.0 (values_of h.1)) ∙ rw (mine, rel.has X, has_more X B h) refl

-- a listed name whose values are checked one by one
run_clean : (start : Start) (five : Five) (room : ℕ) (n : List ℕ) (P : List ℕ → Type 0) → ((B : List Line) (v : List ℕ) → P v → line_fault start five room B (n, v) ≡ false) → (vs : List (List ℕ)) →
    AllOf P vs → (B : List Line) → Clean start five room B (lines_of n vs)
run_clean start five room n P one [] each B = tt
run_clean start five room n P one (v ∷ vs) each B = (one B v each.0, run_clean start five room n P one vs each.1 (B ++ (n, v) ∷ []))

anything : (vs : List (List ℕ)) → AllOf (λ v. Unit {0}) vs
anything [] = tt
anything (v ∷ vs) = (tt, anything vs)

abbrev IsReadableOne : List ℕ → Type 0
IsReadableOne v = IsSingle v × (is_readable v ≡ true)

readable_each : (vs : List (List ℕ)) → AllOf IsSingle vs → are_readable vs ≡ true → AllOf IsReadableOne vs
readable_each [] each e = tt
readable_each (v ∷ vs) each e =
    let both = and_true (is_readable v) (are_readable vs) e in
    ((each.0, both.0), readable_each vs each.1 both.1)

-- Via: only the first of all values is checked
via_behind : (start : Start) (five : Five) (room : ℕ) (n : List ℕ) (vs : List (List ℕ)) (B : List Line) → (length n == 0) ≡ false → str_to_ascii_lowercase n ≡ codes "via" →
    has_line (codes "Via") B ≡ true → Clean start five room B (lines_of n vs)
via_behind start five room n [] B named q has = tt
via_behind start five room n (v ∷ vs) B named q has =
    let more : has_line (codes "Via") (B ++ (n, v) ∷ []) ≡ true = has_more (codes "Via") B (n, v) ∙ rw has refl in
    let none : (is_request start && false) ≡ false = (elim (cases_Bool (is_request start)) [ inl y ↦ rw y refl | inr z ↦ rw z refl ]) in
    (rw (named, q, has, none) refl, via_behind start five room n vs (B ++ (n, v) ∷ []) named q more)

-- History-Info: the values before are counted too
entries_clean : (start : Start) (five : Five) (room : ℕ) (n : List ℕ) (vs : List (List ℕ)) (B : List Line) → (length n == 0) ≡ false → str_to_ascii_lowercase n ≡ codes "history-info" →
    AllOf IsSingle vs → are_entries vs ≡ true → nat_lt 32 (length (values_named Plain (codes "History-Info") B) + length vs) ≡ false → Clean start five room B (lines_of n vs)
entries_clean start five room n [] B named q each e few = tt
entries_clean start five room n (v ∷ vs) B named q each e few =
    let both = and_true (is_entry v) (are_entries vs) e in
    let k : ℕ = length (values_named Plain (codes "History-Info") B) in
    let here : nat_lt 32 (k + 1) ≡ false = grind (arith, nat_tests, few) in
    let is : is_line (codes "History-Info") (n, v) ≡ true = rw q refl in
    let one : values_named Plain (codes "History-Info") (B ++ (n, v) ∷ []) ≡ values_named Plain (codes "History-Info") B ++ v ∷ [] = hist_more B ((n, v) ∷ []) ∙ rw (is, each.0) refl in
    let len : length (values_named Plain (codes "History-Info") (B ++ (n, v) ∷ [])) ≡ k + 1 = rw one (length-append (values_named Plain (codes "History-Info") B) (v ∷ [])) in
    let rest : nat_lt 32 (length (values_named Plain (codes "History-Info") (B ++ (n, v) ∷ [])) + length vs) ≡ false = grind (arith, nat_tests, few, len) in
    (rw (named, q, each.0, both.0, here) refl, entries_clean start five room n vs (B ++ (n, v) ∷ []) named q each.1 both.1 rest)

contact_parts : (invite has one : Bool) → (invite && (has || not one)) ≡ false → (invite ≡ false) ⊎ ((has ≡ false) × (one ≡ true))
contact_parts false has one e = inl refl
contact_parts true true one e = absurd cc
contact_parts true false true e = inr (refl, refl)
contact_parts true false false e = absurd cc

no_invite : (start : Start) (five : Five) (room : ℕ) (B : List Line) (n v : List ℕ) → (length n == 0) ≡ false → str_to_ascii_lowercase n ≡ codes "contact" → is_method (codes "INVITE") start ≡ false →
    line_fault start five room B (n, v) ≡ false
no_invite start five room B n v named q e = rw (named, q, e) refl

one_contact : (start : Start) (five : Five) (room : ℕ) (n : List ℕ) (vs : List (List ℕ)) (B : List Line) → (length n == 0) ≡ false → str_to_ascii_lowercase n ≡ codes "contact" → AllOf IsSingle vs →
    (length vs == 1 && are_readable vs) ≡ true → has_line (codes "Contact") B ≡ false → Clean start five room B (lines_of n vs)
one_contact start five room n [] B named q each e has = tt
one_contact start five room n (v ∷ []) B named q each e has =
    let none : (is_method (codes "INVITE") start && false) ≡ false = (elim (cases_Bool (is_method (codes "INVITE") start)) [ inl y ↦ rw y refl | inr z ↦ rw z refl ]) in
    (rw (named, q, has, each.0, e, none) refl, tt)
one_contact start five room n (v ∷ w ∷ vs) B named q each e has =
    let two : (length (v ∷ w ∷ vs) == 1) ≡ false = grind (arith, nat_tests) in
    let f : false ≡ true = rw two at e in
    absurd cc

-- Contact: there is one value, or the message is no INVITE
contact_clean : (start : Start) (five : Five) (room : ℕ) (n : List ℕ) (vs : List (List ℕ)) (B : List Line) → (length n == 0) ≡ false → str_to_ascii_lowercase n ≡ codes "contact" → AllOf IsSingle vs →
    (is_method (codes "INVITE") start && (has_line (codes "Contact") B || not (length vs == 1 && are_readable vs))) ≡ false → Clean start five room B (lines_of n vs)
contact_clean start five room n vs B named q each e =
    elim (contact_parts (is_method (codes "INVITE") start) (has_line (codes "Contact") B) (length vs == 1 && are_readable vs) e) [
      | inl other ↦ run_clean start five room n (λ v. Unit {0}) (λ C v t. no_invite start five room C n v named q other) vs (anything vs) B
      | inr only ↦ one_contact start five room n vs B named q each only.1 only.0
    ]

via_parts : (request has cookie : Bool) → (request && not has && not cookie) ≡ false → (has ≡ true) ⊎ ((request && not cookie) ≡ false)
via_parts request true cookie e = inl refl
via_parts true false true e = inr refl
via_parts true false false e = absurd cc
via_parts false false cookie e = inr refl

via_one : (start : Start) (five : Five) (room : ℕ) (B : List Line) (n v : List ℕ) → (length n == 0) ≡ false → str_to_ascii_lowercase n ≡ codes "via" →
    (is_request start && not (has_line (codes "Via") B) && not (has_cookie (param_value (codes "branch") five.via.params))) ≡ false → line_fault start five room B (n, v) ≡ false
via_one start five room B n v named q e = rw (named, q, e) refl

-- Via: the first value of all is checked
via_clean : (start : Start) (five : Five) (room : ℕ) (n : List ℕ) (vs : List (List ℕ)) (B : List Line) → (length n == 0) ≡ false → str_to_ascii_lowercase n ≡ codes "via" →
    (is_request start && not (has_line (codes "Via") B) && not (has_cookie (param_value (codes "branch") five.via.params))) ≡ false → Clean start five room B (lines_of n vs)
via_clean start five room n [] B named q e = tt
via_clean start five room n (v ∷ vs) B named q e =
    let is : is_line (codes "Via") (n, v) ≡ true = rw q refl in
    let or_true : (has_line (codes "Via") B || true) ≡ true = (elim (cases_Bool (has_line (codes "Via") B)) [ inl y ↦ rw y refl | inr z ↦ rw z refl ]) in
    let has : has_line (codes "Via") (B ++ (n, v) ∷ []) ≡ true = has_more (codes "Via") B (n, v) ∙ rw is or_true in
    (via_one start five room B n v named q e, via_behind start five room n vs (B ++ (n, v) ∷ []) named q has)

readable_one : (start : Start) (five : Five) (room : ℕ) (B : List Line) (n v : List ℕ) → (length n == 0) ≡ false → (str_to_ascii_lowercase n ≡ codes "route")
    ⊎ ((str_to_ascii_lowercase n ≡ codes "record-route") ⊎ (str_to_ascii_lowercase n ≡ codes "p-asserted-identity")) → IsReadableOne v → line_fault start five room B (n, v) ≡ false
readable_one start five room B n v named (inl q) each = rw (named, q, each.0, each.1) refl
readable_one start five room B n v named (inr (inl q)) each = rw (named, q, each.0, each.1) refl
readable_one start five room B n v named (inr (inr q)) each = rw (named, q, each.0, each.1) refl

option_one : (start : Start) (five : Five) (room : ℕ) (B : List Line) (n v : List ℕ) → (length n == 0) ≡ false →
    (str_to_ascii_lowercase n ≡ codes "supported") ⊎ (str_to_ascii_lowercase n ≡ codes "require") → line_fault start five room B (n, v) ≡ false
option_one start five room B n v named (inl q) = rw (named, q) refl
option_one start five room B n v named (inr q) = rw (named, q) refl

-- the names whose values are written one per line
data ListedName (h : Line) : Type 0 where
  via : str_to_ascii_lowercase h.0 ≡ codes "via" → ListedName h
  route : str_to_ascii_lowercase h.0 ≡ codes "route" → ListedName h
  record_route : str_to_ascii_lowercase h.0 ≡ codes "record-route" → ListedName h
  contact : str_to_ascii_lowercase h.0 ≡ codes "contact" → ListedName h
  asserted : str_to_ascii_lowercase h.0 ≡ codes "p-asserted-identity" → ListedName h
  history : str_to_ascii_lowercase h.0 ≡ codes "history-info" → ListedName h
  supported : str_to_ascii_lowercase h.0 ≡ codes "supported" → ListedName h
  require : str_to_ascii_lowercase h.0 ≡ codes "require" → ListedName h

listed_name : (h : Line) → is_listed h ≡ true → ListedName h
listed_name h e =
    elim (cases_Bool (is_line (codes "Via") h)) [
      | inl y ↦ via (line_named (codes "Via") h y)
      | inr n1 ↦ elim (cases_Bool (is_line (codes "Route") h)) [
        | inl y ↦ route (line_named (codes "Route") h y)
        | inr n2 ↦ elim (cases_Bool (is_line (codes "Record-Route") h)) [
          | inl y ↦ record_route (line_named (codes "Record-Route") h y)
          | inr n3 ↦ elim (cases_Bool (is_line (codes "Contact") h)) [
            | inl y ↦ contact (line_named (codes "Contact") h y)
            | inr n4 ↦ elim (cases_Bool (is_line (codes "P-Asserted-Identity") h)) [
              | inl y ↦ asserted (line_named (codes "P-Asserted-Identity") h y)
              | inr n5 ↦ elim (cases_Bool (is_line (codes "History-Info") h)) [
                | inl y ↦ history (line_named (codes "History-Info") h y)
                | inr n6 ↦ elim (cases_Bool (is_line (codes "Supported") h)) [
                  | inl y ↦ supported (line_named (codes "Supported") h y)
                  | inr n7 ↦ require (line_named (codes "Require") h (or_false (is_line (codes "Require") h) ∙ (rw (n1, n2, n3, n4, n5, n6, n7) at e)))
                ]
              ]
            ]
          ]
        ]
      ]
    ]

pub history_parts : (entries many : Bool) → (not entries || many) ≡ false → (entries ≡ true) × (many ≡ false)
history_parts true many e = (refl, e)
history_parts false many e = absurd cc

-- the values of a line in which nothing is wrong
listed_clean : (start : Start) (five : Five) (room : ℕ) (B : List Line) (h : Line) → (length h.0 == 0) ≡ false → line_fault start five room B h ≡ false → ListedName h →
    Clean start five room B (lines_of h.0 (values_of h.1))
listed_clean start five room B h named e (via q) = via_clean start five room h.0 (values_of h.1) B named q (rw (named, q) at e)
listed_clean start five room B h named e (route q) =
    run_clean start five room h.0 IsReadableOne (λ C v r. readable_one start five room C h.0 v named (inl q) r) (values_of h.1)
    (readable_each (values_of h.1) (singles h.1) (not_false (are_readable (values_of h.1)) (rw (named, q) at e))) B
listed_clean start five room B h named e (record_route q) =
    run_clean start five room h.0 IsReadableOne (λ C v r. readable_one start five room C h.0 v named (inr (inl q)) r) (values_of h.1)
    (readable_each (values_of h.1) (singles h.1) (not_false (are_readable (values_of h.1)) (rw (named, q) at e))) B
listed_clean start five room B h named e (contact q) = contact_clean start five room h.0 (values_of h.1) B named q (singles h.1) (rw (named, q) at e)
listed_clean start five room B h named e (asserted q) =
    run_clean start five room h.0 IsReadableOne (λ C v r. readable_one start five room C h.0 v named (inr (inr q)) r) (values_of h.1)
    (readable_each (values_of h.1) (singles h.1) (not_false (are_readable (values_of h.1)) (rw (named, q) at e))) B
listed_clean start five room B h named e (history q) =
    let both = history_parts (are_entries (values_of h.1)) (nat_lt 32 (length (values_named Plain (codes "History-Info") B) + length (values_of h.1))) (rw (named, q) at e) in
    entries_clean start five room h.0 (values_of h.1) B named q (singles h.1) both.0 both.1
listed_clean start five room B h named e (supported q) = run_clean start five room h.0 (λ v. Unit {0}) (λ C v t. option_one start five room C h.0 v named (inl q)) (values_of h.1) (anything (values_of h.1)) B
listed_clean start five room B h named e (require q) = run_clean start five room h.0 (λ v. Unit {0}) (λ C v t. option_one start five room C h.0 v named (inr q)) (values_of h.1) (anything (values_of h.1)) B

lines_same : (p a n : List ℕ) (vs : List (List ℕ)) (B : List Line) → (length n == 0) ≡ false → is_line (codes "Privacy") (n, []) ≡ false → is_line (codes "Allow") (n, []) ≡ false →
    is_listed (n, []) ≡ true → AllOf IsSingle vs → expanded_from p a B (lines_of n vs) ≡ lines_of n vs
unfolding expanded_from
lines_same p a n [] B named x y l each = refl
lines_same p a n (v ∷ vs) B named x y l each = rw (named, x, y, l, each.0, lines_same p a n vs (B ++ (n, v) ∷ []) named x y l each.1) refl

kept_listed : (start : Start) (five : Five) (room : ℕ) (p a : List ℕ) (B B' : List Line) (h : Line) → Rel B B' → (length h.0 == 0) ≡ false → line_fault start five room B h ≡ false →
    is_line (codes "Privacy") h ≡ false → is_line (codes "Allow") h ≡ false → is_listed h ≡ true → Kept start five room p a B B' h
kept_listed start five room p a B B' h rel named e x y l =
    kept_as start five room p a B B' h (lines_of h.0 (values_of h.1)) (rw (named, x, y, l) refl) (
      listed_clean start five room B' h named (line_same start five room B B' h rel ∙ e) (listed_name h l),
      lines_same p a h.0 (values_of h.1) B' named x y l (singles h.1),
      record { has = λ X. listed_has X B B' h rel; hist = listed_hist B B' h rel },
    )

kept_other : (start : Start) (five : Five) (room : ℕ) (p a : List ℕ) (B B' : List Line) (h : Line) → Rel B B' → (length h.0 == 0) ≡ false → line_fault start five room B h ≡ false →
    is_line (codes "Privacy") h ≡ false → is_line (codes "Allow") h ≡ false → is_listed h ≡ false → Kept start five room p a B B' h
unfolding expanded_from
kept_other start five room p a B B' h rel named e x y l =
    kept_as start five room p a B B' h (h ∷ []) (rw (named, x, y, l) refl) (
      (line_same start five room B B' h rel ∙ e, tt),
      rw (named, x, y, l) refl,
      record { has = λ X. renamed_has X B B' h h.1 rel; hist = hist_more B' (h ∷ []) ∙ (rw rel.hist refl ∙ sym (hist_more B (h ∷ []))) },
    )

pub named_by : (start : Start) (five : Five) (room : ℕ) (B : List Line) (h : Line) → line_fault start five room B h ≡ false → (length h.0 == 0) ≡ false
named_by start five room B h e =
    elim (cases_Bool (length h.0 == 0)) [
      | inl y ↦ let f = rw y at e in absurd cc
      | inr n ↦ n
    ]

kept : (start : Start) (five : Five) (room : ℕ) (p a : List ℕ) (B B' : List Line) (h : Line) → Rel B B' → line_fault start five room B h ≡ false →
    (is_line (codes "Privacy") h ≡ true → are_words (values_in Words p) ≡ true) → Kept start five room p a B B' h
kept start five room p a B B' h rel e words =
    let named = named_by start five room B h e in
    elim (cases_Bool (is_line (codes "Privacy") h)) [
      | inl y ↦ kept_privacy start five room p a B B' h rel named y (words y)
      | inr x ↦ elim (cases_Bool (is_line (codes "Allow") h)) [
        | inl y ↦ kept_allow start five room p a B B' h rel named x y
        | inr y ↦ elim (cases_Bool (is_listed h)) [
          | inl l ↦ kept_listed start five room p a B B' h rel named e x y l
          | inr l ↦ kept_other start five room p a B B' h rel named e x y l
        ]
      ]
    ]

-- ---- all lines

pub record AllKept (start : Start) (five : Five) (room : ℕ) (p a : List ℕ) (B B' hs : List Line) : Type 0 where
  pub clean : Clean start five room B' (expanded_from p a B hs)
  pub same : expanded_from p a B' (expanded_from p a B hs) ≡ expanded_from p a B hs
  pub rel : Rel (B ++ hs) (B' ++ expanded_from p a B hs)

abbrev pub NeedsWords : List ℕ → List Line → Type 0
NeedsWords p hs = has_line (codes "Privacy") hs ≡ true → are_words (values_in Words p) ≡ true

words_rest : (p : List ℕ) (h : Line) (hs : List Line) → NeedsWords p (h ∷ hs) → NeedsWords p hs
words_rest p h hs words there =
    words (elim (cases_Bool (is_line (codes "Privacy") h)) [ inl y ↦ rw y refl | inr n ↦ rw (n, there) refl ])

words_here : (p : List ℕ) (h : Line) (hs : List Line) → NeedsWords p (h ∷ hs) → is_line (codes "Privacy") h ≡ true → are_words (values_in Words p) ≡ true
words_here p h hs words y = words (rw y refl)

pub all_kept : (start : Start) (five : Five) (room : ℕ) (p a : List ℕ) (B B' hs : List Line) → Rel B B' → Clean start five room B hs → NeedsWords p hs → AllKept start five room p a B B' hs
unfolding expanded_from
all_kept start five room p a B B' [] rel e words =
    record { clean = tt; same = refl; rel = rw (append-nil B, append-nil B') rel }
all_kept start five room p a B B' (h ∷ hs) rel e words =
    let N : List Line = lines_for p a B h in
    let k = kept start five room p a B B' h rel e.0 (words_here p h hs words) in
    let more = all_kept start five room p a (B ++ h ∷ []) (B' ++ N) hs k.rel e.1 (words_rest p h hs words) in
    let R : List Line = expanded_from p a (B ++ h ∷ []) hs in
    let left : (B ++ h ∷ []) ++ hs ≡ B ++ h ∷ hs = append_assoc B (h ∷ []) hs in
    let right : (B' ++ N) ++ R ≡ B' ++ (N ++ R) = append_assoc B' N R in
    record {
      clean = clean_append start five room B' N R k.clean more.clean;
      same = from_append p a B' N R ∙ rw (k.same, more.same) refl;
      rel = subst (λ (x : List Line). Rel (B ++ h ∷ hs) x) right (subst (λ (x : List Line). Rel x ((B' ++ N) ++ R)) left more.rel);
    }
