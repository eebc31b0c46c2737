-- The total function accepts what the grammar generates.
use Rattle.std.proofs.Common.{◌≡◌, ◌<◌, ◌≤◌, ◌+◌, ◌==◌, ◌&&◌, Bool, true, false, ℕ, zero, suc, List, [], ◌∷◌, ◌++◌, length, length-append}
use Rattle.std.proofs.Common.{Option, Some, None, refl, sym, ap, subst, ◌∙◌, nat_lt, nat_le, arith, inl, inr, codes, append_assoc, cond}
use Rattle.std.proofs.lemmas.Bool.{cases_Bool, eqb-true, and_parts, ltb-true, leb-true, lt-ltb, le-leb, eq-eqb, or_parts}
use Rattle.std.proofs.lemmas.List.Elements.{All-nil, All-cons, All-head, All-tail}
use Rattle.std.proofs.lemmas.Str.{IsUtf8-from_is_utf8, is_utf8-from_IsUtf8}
use Rattle.std.specs.Str.{is_utf8}
use Rattle.mmtel_base.specs.Chain.{◌>>=◌}
use Rattle.httparse.specs.Grammar.{LineEnd, crlf, lf, Field, IsField, RequestHead, ReadsRequest, AllPass, print_blank, print_end, print_version, print_field, is_token_byte, is_uri_byte, is_value_byte}
use Rattle.httparse.specs.Pieces.{Piece, Then, Stops, is_newline, Newline, Blank, Word, Target, Version, Text, FieldLine, Section, RequestStart}
use Rattle.std.specs.List.{flat_map}
use Rattle.httparse.proofs.PieceLemmas.{space_ends_token, colon_ends_token, print_field-append, Stops-FieldLine}
use Rattle.httparse.proofs.GrammarLemmas.{request_pieces, request_from_pieces}
use Rattle.mmtel_http.specs.Heads.{Reader, read_then, rest_after, line_feed_at, newline_at, blanks_at, run_at, word_at, target_at, minor_at}
use Rattle.mmtel_http.specs.Heads.{version_at, text_at, field_at, or_else, lines_at, section_at, Parts, parts_at, head_from, head_of_parts, head_of}

-- the reader returns the element where there is one
pub record Reads {A : Type 0} (G : Piece A) (read : Reader A) : Type 0 where
  pub sound : (s : List ℕ) (x : A × List ℕ) → read s ≡ Some x → G x.0 s x.1
  pub complete : (a : A) (s r : List ℕ) → G a s r → read s ≡ Some (a, r)

bind_some : {A B : Type 0} (o : Option A) (f : A → Option B) (y : B) → (o >>= f) ≡ Some y → (x : A) × (o ≡ Some x) × (f x ≡ Some y)
bind_some None f y e = absurd cc
bind_some (Some x) f y e = (x, refl, e)

same_some : {A : Type 0} (a b : A) → Some a ≡ Some b → a ≡ b
same_some a b e = cc

-- a test that was passed on the way to a result
passed : {A : Type 0} (b : Bool) (o : Option A) (y : A) → cond b o None ≡ Some y → (b ≡ true) × (o ≡ Some y)
passed true o y e = (refl, e)
passed false o y e = absurd cc

pub Then_reads : {A B : Type 0} {G : Piece A} {H : Piece B} {f : Reader A} {g : Reader B} → Reads G f → Reads H g → Reads (Then G H) (read_then f g)
Then_reads {A} {B} {G} {H} {f} {g} p q = record {
  sound = λ s z e.
      let x = bind_some (f s) (λ x. g x.1 >>= λ y. Some ((x.0, y.0), y.1)) z e in
      let y = bind_some (g x.0.1) (λ y. Some ((x.0.0, y.0), y.1)) z x.2 in
      subst (λ (w : (A × B) × List ℕ). Then G H w.0 s w.1) (same_some _ _ y.2) (x.0.1, p.sound s x.0 x.1, q.sound x.0.1 y.0 y.1);
  complete = λ a s r t. rw (p.complete a.0 s t.0 t.1, q.complete a.1 t.0 r t.2) refl;
}

-- ---- line ends

newline_sound : (s : List ℕ) (x : LineEnd × List ℕ) → newline_at s ≡ Some x → Newline x.0 s x.1
newline_sound [] x e = absurd cc
newline_sound (b ∷ s) x e =
    elim (cases_Bool (b == 10)) [
      | inl y ↦
          let z : (lf, s) ≡ x = same_some _ _ (rw y at e) in
          let v : b ≡ 10 = eqb-true b 10 y in
          subst (λ (w : LineEnd × List ℕ). b ∷ s ≡ print_end w.0 ++ w.1) z (ap (λ (k : ℕ). k ∷ s) v)
      | inr no_lf ↦
          let f = rw no_lf at e in
          let p = passed (b == 13) (line_feed_at s) x f in
          cr_sound b s x (eqb-true b 13 p.0) p.1
    ]
  where
    cr_sound : (b : ℕ) (s : List ℕ) (x : LineEnd × List ℕ) → b ≡ 13 → line_feed_at s ≡ Some x → b ∷ s ≡ print_end x.0 ++ x.1
    cr_sound b [] x v e = absurd cc
    cr_sound b (c ∷ s) x v e =
        let p = passed (c == 10) (Some (crlf, s)) x e in
        let w : c ≡ 10 = eqb-true c 10 p.0 in
        subst (λ (w : LineEnd × List ℕ). b ∷ c ∷ s ≡ print_end w.0 ++ w.1) (same_some _ _ p.1) (rw (v, w) refl)

newline_complete : (end : LineEnd) (s r : List ℕ) → Newline end s r → newline_at s ≡ Some (end, r)
newline_complete crlf s r e = rw e refl
newline_complete lf s r e = rw e refl

pub Newline_reads : Reads Newline newline_at
Newline_reads = record { sound = newline_sound; complete = newline_complete }

-- ---- words

run_sound : (test : ℕ → Bool) (stop : ℕ) (s : List ℕ) (x : List ℕ × List ℕ) → run_at test stop s ≡ Some x → AllPass test x.0 × (s ≡ x.0 ++ stop ∷ x.1)
run_sound test stop [] x e = absurd cc
run_sound test stop (b ∷ s) x e =
    elim (cases_Bool (test b)) [
      | inl passes ↦
          let y = bind_some (run_at test stop s) (λ y. Some (b ∷ y.0, y.1)) x (rw passes at e) in
          let inner = run_sound test stop s y.0 y.1 in
          subst (λ (w : List ℕ × List ℕ). AllPass test w.0 × (b ∷ s ≡ w.0 ++ stop ∷ w.1)) (same_some _ _ y.2)
          (All-cons (λ v. test v ≡ true) b y.0.0 passes inner.0, ap (λ (l : List ℕ). b ∷ l) inner.1)
      | inr fails ↦
          let p = passed (b == stop) (Some ([], s)) x (rw fails at e) in
          let v : b ≡ stop = eqb-true b stop p.0 in
          subst (λ (w : List ℕ × List ℕ). AllPass test w.0 × (b ∷ s ≡ w.0 ++ stop ∷ w.1)) (same_some _ _ p.1)
          (All-nil (λ v. test v ≡ true), ap (λ (k : ℕ). k ∷ s) v)
    ]

run_complete : (test : ℕ → Bool) (stop : ℕ) (w s r : List ℕ) → test stop ≡ false → AllPass test w → s ≡ w ++ stop ∷ r → run_at test stop s ≡ Some (w, r)
run_complete test stop [] s r fails all e =
    let same : (stop == stop) ≡ true = eq-eqb stop stop refl in
    rw (e, fails, same) refl
run_complete test stop (b ∷ w) s r fails all e =
    let here : test b ≡ true = All-head (λ v. test v ≡ true) b w all in
    let more = run_complete test stop w (w ++ stop ∷ r) r fails (All-tail (λ v. test v ≡ true) b w all) refl in
    rw (e, here, more) refl

pub Word_reads : (test : ℕ → Bool) (stop : ℕ) → test stop ≡ false → Reads (Word test stop) (word_at test stop)
Word_reads test stop fails = record {
  sound = λ s x e.
      let y = bind_some (run_at test stop s) (λ x. cond (nat_lt 0 (length x.0)) (Some x) None) x e in
      let p = passed (nat_lt 0 (length y.0.0)) (Some y.0) x y.2 in
      let inner = run_sound test stop s y.0 y.1 in
      subst (λ (w : List ℕ × List ℕ). Word test stop w.0 s w.1) (same_some _ _ p.1) (ltb-true 0 (length y.0.0) p.0, inner.0, inner.1);
  complete = λ a s r t. rw (run_complete test stop a s r fails t.1 t.2, lt-ltb 0 (length a) t.0) refl;
}

pub Target_reads : Reads Target target_at
Target_reads =
    let word = Word_reads is_uri_byte 32 refl in
    record {
      sound = λ s x e.
          let y = bind_some (word_at is_uri_byte 32 s) (λ x. cond (is_utf8 x.0) (Some x) None) x e in
          let p = passed (is_utf8 y.0.0) (Some y.0) x y.2 in
          subst (λ (w : List ℕ × List ℕ). Target w.0 s w.1) (same_some _ _ p.1) (word.sound s y.0 y.1, IsUtf8-from_is_utf8 y.0.0 p.0);
      complete = λ a s r t. rw (word.complete a s r t.0, is_utf8-from_IsUtf8 a t.1) refl;
    }

-- ---- the version

after_sound : (front s r : List ℕ) → rest_after front s ≡ Some r → s ≡ front ++ r
after_sound [] s r e = same_some s r e
after_sound (p ∷ ps) [] r e = absurd cc
after_sound (p ∷ ps) (b ∷ s) r e =
    let q = passed (b == p) (rest_after ps s) r e in
    let v : b ≡ p = eqb-true b p q.0 in
    rw (v, after_sound ps s r q.1) refl

minor_sound : (s : List ℕ) (x : ℕ × List ℕ) → minor_at s ≡ Some x → (x.0 ≤ 1) × (s ≡ (48 + x.0) ∷ x.1)
minor_sound [] x e = absurd cc
minor_sound (b ∷ s) x e =
    elim (cases_Bool (b == 48)) [
      | inl y ↦
          subst (λ (w : ℕ × List ℕ). (w.0 ≤ 1) × (b ∷ s ≡ (48 + w.0) ∷ w.1)) (same_some _ _ (rw y at e))
          (omega arith, ap (λ (k : ℕ). k ∷ s) (eqb-true b 48 y))
      | inr other ↦
          let p = passed (b == 49) (Some (1, s)) x (rw other at e) in
          subst (λ (w : ℕ × List ℕ). (w.0 ≤ 1) × (b ∷ s ≡ (48 + w.0) ∷ w.1)) (same_some _ _ p.1)
          (omega arith, ap (λ (k : ℕ). k ∷ s) (eqb-true b 49 p.0))
    ]

minor_complete : (minor : ℕ) (r : List ℕ) → minor ≤ 1 → minor_at ((48 + minor) ∷ r) ≡ Some (minor, r)
minor_complete zero r le = refl
minor_complete (suc zero) r le = refl
minor_complete (suc (suc n)) r le = absurd (omega (arith, le))

version_append : (minor : ℕ) (r : List ℕ) → print_version minor ++ r ≡ codes "HTTP/1." ++ (48 + minor) ∷ r
version_append minor r = simp append_assoc

pub Version_reads : Reads Version version_at
Version_reads = record {
  sound = λ s x e.
      let y = bind_some (rest_after (codes "HTTP/1.") s) minor_at x e in
      let inner = minor_sound y.0 x y.2 in
      (inner.0, after_sound (codes "HTTP/1.") s y.0 y.1 ∙ ap (λ (l : List ℕ). codes "HTTP/1." ++ l) inner.1 ∙ sym (version_append x.0 x.1));
  complete = λ a s r t.
      rw t.1 (minor_complete a r t.0);
}

-- ---- fields

text_sound : (s : List ℕ) (x : (List ℕ × LineEnd) × List ℕ) → text_at s ≡ Some x → Text x.0 s x.1
text_sound [] x e = absurd cc
text_sound (b ∷ s) x e =
    elim (cases_Bool (is_value_byte b)) [
      | inl passes ↦
          let y = bind_some (text_at s) (λ y. Some ((b ∷ y.0.0, y.0.1), y.1)) x (rw passes at e) in
          let inner = text_sound s y.0 y.1 in
          subst (λ (w : (List ℕ × LineEnd) × List ℕ). Text w.0 (b ∷ s) w.1) (same_some _ _ y.2)
          (All-cons (λ v. is_value_byte v ≡ true) b y.0.0.0 passes inner.0, ap (λ (l : List ℕ). b ∷ l) inner.1)
      | inr fails ↦
          let y = bind_some (newline_at (b ∷ s)) (λ y. Some (([], y.0), y.1)) x (rw fails at e) in
          let inner = Newline_reads.sound (b ∷ s) y.0 y.1 in
          subst (λ (w : (List ℕ × LineEnd) × List ℕ). Text w.0 (b ∷ s) w.1) (same_some _ _ y.2)
          (All-nil (λ v. is_value_byte v ≡ true), inner)
    ]

text_complete : (w : List ℕ) (end : LineEnd) (s r : List ℕ) → AllPass is_value_byte w → s ≡ w ++ (print_end end ++ r) → text_at s ≡ Some ((w, end), r)
text_complete [] crlf s r all e = rw e refl
text_complete [] lf s r all e = rw e refl
text_complete (b ∷ w) end s r all e =
    let here : is_value_byte b ≡ true = All-head (λ v. is_value_byte v ≡ true) b w all in
    let more = text_complete w end (w ++ (print_end end ++ r)) r (All-tail (λ v. is_value_byte v ≡ true) b w all) refl in
    rw (e, here, more) refl

pub Text_reads : Reads Text text_at
Text_reads = record {
  sound = λ s x e. text_sound s x e;
  complete = λ a s r t. text_complete a.0 a.1 s r t.0 t.1;
}

-- ---- empty lines

is_10 : (b : ℕ) → (b == 10) ≡ true → b ≡ 10
is_10 b e = eqb-true b 10 e

blank_line : (end : LineEnd) (s t : List ℕ) (x : List LineEnd × List ℕ) → s ≡ print_end end ++ t → (t ≡ print_blank x.0 ++ x.1) → s ≡ print_blank (end ∷ x.0) ++ x.1
blank_line crlf s t x e f = rw (e, f) refl
blank_line lf s t x e f = rw (e, f) refl

-- with a CR before it where one came directly before
abbrev behind : Bool → List ℕ → List ℕ
behind true s = 13 ∷ s
behind false s = s

blanks_sound : (after_cr : Bool) (s : List ℕ) (x : List LineEnd × List ℕ) → blanks_at after_cr s ≡ Some x → Blank x.0 (behind after_cr s) x.1
blanks_sound true [] x e = absurd cc
blanks_sound false [] x e = absurd cc
blanks_sound true (b ∷ s) x e =
    let p = passed (b == 10) (blanks_at false s >>= λ y. Some (crlf ∷ y.0, y.1)) x e in
    let y = bind_some (blanks_at false s) (λ y. Some (crlf ∷ y.0, y.1)) x p.1 in
    let inner = blanks_sound false s y.0 y.1 in
    let v : b ≡ 10 = is_10 b p.0 in
    subst (λ (w : List LineEnd × List ℕ). Blank w.0 (13 ∷ b ∷ s) w.1) (same_some _ _ y.2)
    (blank_line crlf (13 ∷ b ∷ s) s y.0 (rw v refl) inner.0, inner.1)
blanks_sound false (b ∷ s) x e =
    elim (cases_Bool (b == 10)) [
      | inl is_lf ↦
          let y = bind_some (blanks_at false s) (λ y. Some (lf ∷ y.0, y.1)) x (rw is_lf at e) in
          let inner = blanks_sound false s y.0 y.1 in
          let v : b ≡ 10 = is_10 b is_lf in
          subst (λ (w : List LineEnd × List ℕ). Blank w.0 (b ∷ s) w.1) (same_some _ _ y.2)
          (blank_line lf (b ∷ s) s y.0 (rw v refl) inner.0, inner.1)
      | inr no_lf ↦
          elim (cases_Bool (b == 13)) [
            | inl is_cr ↦
                let inner = blanks_sound true s x (rw (no_lf, is_cr) at e) in
                let v : b ≡ 13 = eqb-true b 13 is_cr in
                rw v inner
            | inr no_cr ↦
                let z : ([], b ∷ s) ≡ x = same_some _ _ (rw (no_lf, no_cr) at e) in
                subst (λ (w : List LineEnd × List ℕ). Blank w.0 (b ∷ s) w.1) z (refl, rw (no_lf, no_cr) refl)
          ]
    ]

blanks_complete : (ends : List LineEnd) (s r : List ℕ) → s ≡ print_blank ends ++ r → Stops is_newline r → blanks_at false s ≡ Some (ends, r)
blanks_complete [] s [] e stops = absurd stops
blanks_complete [] s (b ∷ r) e stops =
    let p = or_parts (b == 13) (b == 10) stops in
    rw (e, p.1, p.0) refl
blanks_complete (crlf ∷ ends) s r e stops = rw (e, blanks_complete ends (print_blank ends ++ r) r refl stops) refl
blanks_complete (lf ∷ ends) s r e stops = rw (e, blanks_complete ends (print_blank ends ++ r) r refl stops) refl

pub Blank_reads : Reads Blank (blanks_at false)
Blank_reads = record {
  sound = λ s x e. blanks_sound false s x e;
  complete = λ a s r t. blanks_complete a s r t.0 t.1;
}

-- ---- sections

abbrev field_of : List ℕ → List ℕ × LineEnd → Field
field_of name text = record { name = name; raw = text.0; end = text.1 }

field_sound : (s : List ℕ) (x : Field × List ℕ) → field_at s ≡ Some x → FieldLine x.0 s x.1
field_sound s x e =
    let name = bind_some (word_at is_token_byte 58 s) (λ name. text_at name.1 >>= λ text. Some (field_of name.0 text.0, text.1)) x e in
    let text = bind_some (text_at name.0.1) (λ text. Some (field_of name.0.0 text.0, text.1)) x name.2 in
    let word = (Word_reads is_token_byte 58 colon_ends_token).sound s name.0 name.1 in
    let value = Text_reads.sound name.0.1 text.0 text.1 in
    subst (λ (w : Field × List ℕ). FieldLine w.0 s w.1) (same_some _ _ text.2) (
      record { name = (word.0, word.1); raw = value.0 },
      word.2 ∙ ap (λ (l : List ℕ). name.0.0 ++ 58 ∷ l) value.1 ∙ sym (print_field-append (field_of name.0.0 text.0.0) text.0.1),
    )

field_complete : (f : Field) (s r : List ℕ) → FieldLine f s r → field_at s ≡ Some (f, r)
field_complete f s r x =
    let word = (Word_reads is_token_byte 58 colon_ends_token).complete f.name s (f.raw ++ (print_end f.end ++ r))
    (x.0.name.0, x.0.name.1, x.1 ∙ print_field-append f r) in
    let value = Text_reads.complete (f.raw, f.end) (f.raw ++ (print_end f.end ++ r)) r (x.0.raw, refl) in
    rw (word, value) refl

pub FieldLine_reads : Reads FieldLine field_at
FieldLine_reads = record { sound = field_sound; complete = field_complete }

section_more : (f : Field) (s middle r : List ℕ) (t : List Field × LineEnd) → FieldLine f s middle → Section t middle r → Section (f ∷ t.0, t.1) s r
section_more f s middle r t x y = (
  All-cons IsField f t.0 x.0 y.0,
  x.1 ∙ ap (λ (l : List ℕ). print_field f ++ l) y.1 ∙ sym (append_assoc (print_field f) (flat_map print_field t.0 ++ print_end t.1) r)
      ∙ ap (λ (l : List ℕ). l ++ r) (sym (append_assoc (print_field f) (flat_map print_field t.0) (print_end t.1))),
)

lines_sound : (n : ℕ) (s : List ℕ) (x : (List Field × LineEnd) × List ℕ) → lines_at n s ≡ Some x → Section x.0 s x.1
lines_sound zero s x e = absurd cc
lines_sound (suc n) s x e = by (newline_at s) refl (λ t y. lines_sound n t y) e
  where
    by : (o : Option (LineEnd × List ℕ)) → newline_at s ≡ o
        → ((t : List ℕ) (y : (List Field × LineEnd) × List ℕ) → lines_at n t ≡ Some y → Section y.0 t y.1)
        → or_else (o >>= λ x. Some (([], x.0), x.1)) (field_at s >>= λ f. lines_at n f.1 >>= λ x. Some ((f.0 ∷ x.0.0, x.0.1), x.1)) ≡ Some x
        → Section x.0 s x.1
    by (Some y) is_end rest e =
        subst (λ (w : (List Field × LineEnd) × List ℕ). Section w.0 s w.1) (same_some (([], y.0), y.1) x e)
        (All-nil IsField, newline_sound s y is_end)
    by None no_end rest e =
        let f = bind_some (field_at s) (λ f. lines_at n f.1 >>= λ x. Some ((f.0 ∷ x.0.0, x.0.1), x.1)) x e in
        let more = bind_some (lines_at n f.0.1) (λ x. Some ((f.0.0 ∷ x.0.0, x.0.1), x.1)) x f.2 in
        subst (λ (w : (List Field × LineEnd) × List ℕ). Section w.0 s w.1) (same_some _ _ more.2)
        (section_more f.0.0 s f.0.1 more.0.1 more.0.0 (field_sound s f.0 f.1) (rest f.0.1 more.0 more.1))

no_newline : (s : List ℕ) → Stops is_newline s → newline_at s ≡ None
no_newline [] stops = refl
no_newline (b ∷ s) stops = let p = or_parts (b == 13) (b == 10) stops in rw (p.1, p.0) refl

section_head : (g : Field) (gs : List Field) (last : LineEnd) (text rest : List ℕ) → Section (g ∷ gs, last) text rest → FieldLine g text ((flat_map print_field gs ++ print_end last) ++ rest)
section_head g gs last text rest x = (
  All-head IsField g gs x.0,
  x.1 ∙ ap (λ (t : List ℕ). t ++ rest) (append_assoc (print_field g) (flat_map print_field gs) (print_end last))
      ∙ append_assoc (print_field g) (flat_map print_field gs ++ print_end last) rest,
)

lines_complete : (n : ℕ) (fs : List Field) (end : LineEnd) (s r : List ℕ) → length fs < n → Section (fs, end) s r → lines_at n s ≡ Some ((fs, end), r)
lines_complete zero fs end s r lt x = absurd (omega (arith, lt))
lines_complete (suc n) [] end s r lt x = rw (newline_complete end s r x.1) refl
lines_complete (suc n) (f ∷ fs) end s r lt x =
    let line = section_head f fs end s r x in
    let more = lines_complete n fs end ((flat_map print_field fs ++ print_end end) ++ r) r (omega (arith, lt)) (All-tail IsField f fs x.0, refl) in
    rw (no_newline s (Stops-FieldLine f s _ line), field_complete f s _ line, more) refl

section_length : (fs : List Field) (end : LineEnd) (s r : List ℕ) → Section (fs, end) s r → length fs < length s
section_length [] crlf s r x = rw x.1 (omega arith)
section_length [] lf s r x = rw x.1 (omega arith)
section_length (f ∷ fs) end s r x =
    let line = section_head f fs end s r x in
    let more = section_length fs end ((flat_map print_field fs ++ print_end end) ++ r) r (All-tail IsField f fs x.0, refl) in
    let longer = field_length f s _ line in
    omega (arith, more, longer)
  where
    field_length : (f : Field) (s r : List ℕ) → FieldLine f s r → length r < length s
    field_length f s r x = rw (x.1, print_field-append f r) (omega (arith, length-append f.name (58 ∷ (f.raw ++ (print_end f.end ++ r))), length-append f.raw (print_end f.end ++ r), length-append (print_end f.end) r))

pub Section_reads : Reads Section section_at
Section_reads = record {
  sound = λ s x e. lines_sound (length s) s x e;
  complete = λ a s r t. lines_complete (length s) a.0 a.1 s r (section_length a.0 a.1 s r t) t;
}

-- ---- heads

pub Parts_reads : Reads (Then RequestStart Section) parts_at
Parts_reads =
    Then_reads (Then_reads Blank_reads (Then_reads (Word_reads is_token_byte 32 space_ends_token)
    (Then_reads Target_reads (Then_reads Version_reads Newline_reads)))) Section_reads

both : (x : Parts × List ℕ) (h : RequestHead) → head_of_parts x ≡ Some h → (x.1 ≡ []) × (length x.0.1.0 ≤ 64) × (head_from x.0 ≡ h)
both x h e =
    let p = passed (length x.1 == 0 && nat_le (length x.0.1.0) 64) (Some (head_from x.0)) h e in
    let q = and_parts (length x.1 == 0) (nat_le (length x.0.1.0) 64) p.0 in
    (no_more x.1 (eqb-true (length x.1) 0 q.0), leb-true (length x.0.1.0) 64 q.1, same_some _ _ p.1)
  where
    no_more : (s : List ℕ) → length s ≡ 0 → s ≡ []
    no_more [] e = refl
    no_more (b ∷ s) e = absurd (omega (arith, e))

pub head_sound : (bytes : List ℕ) (h : RequestHead) → head_of bytes ≡ Some h → ReadsRequest bytes h [] × (length h.fields ≤ 64)
unfolding head_of
head_sound bytes h e =
    let x = bind_some (parts_at bytes) head_of_parts h e in
    let b = both x.0 h x.2 in
    let reads = request_from_pieces bytes x.0.0 x.0.1 (Parts_reads.sound bytes x.0 x.1) in
    subst (λ (k : RequestHead). ReadsRequest bytes k [] × (length k.fields ≤ 64)) b.2
    (subst (λ (l : List ℕ). ReadsRequest bytes (head_from x.0.0) l) b.0 reads, b.1)

pub head_complete : (bytes : List ℕ) (h : RequestHead) → ReadsRequest bytes h [] → length h.fields ≤ 64 → head_of bytes ≡ Some h
unfolding head_of
head_complete bytes h reads le =
    let small : nat_le (length h.fields) 64 ≡ true = le-leb (length h.fields) 64 le in
    rw (Parts_reads.complete _ bytes [] (request_pieces bytes h [] reads), small) refl
