-- The listing of bytes reads back as the bytes.
use Rattle.std.proofs.Common.{◌≡◌, ◌==◌, ◌&&◌, Bool, true, false, not, nat_lt, map, ℕ, ◌+◌, ◌-◌, ◌*◌, ◌/◌, ◌%◌, ◌≤◌, ◌<◌, List, []}
use Rattle.std.proofs.Common.{◌∷◌, ◌++◌, length, take, drop, Option, Some, None, refl, ap, sym, ◌∙◌, arith, append_assoc, inl, inr}
use Rattle.std.specs.Prelude.{codes, nat_le}
use Rattle.std.specs.Str.{bytes_eq}
use Rattle.std.specs.List.{list_all, flat_map, onto_first}
use Rattle.std.proofs.lemmas.List.{take-append-drop}
use Rattle.std.proofs.lemmas.Bool.{cases_Bool}
use Rattle.std.proofs.lemmas.Bool.Decides.{nat_tests}
use Rattle.std.proofs.lemmas.Slice.Eq.{bytes_eq-Decides}
use Rattle.mmtel_base.specs.Scanning.{IsFree}
use Rattle.mmtel_base.proofs.ChainTheorems.{guard_some}
use Rattle.mmtel_base.proofs.Runs.{and_true}
use Rattle.mmtel_trust.specs.declared.known_peers.KnownPeer.{KnownPeer}
use Rattle.mmtel_directory.specs.Lines.{lines_of}
use Rattle.mmtel_script.specs.Listing.{cut, pieces_of, before_crlf, is_plain, hex_digit, hex_pair, hex_line, line_before, piece_line, data_lines}
use Rattle.mmtel_script.specs.Script.{hex_value, hex_bytes, line_of}
use Rattle.mmtel_script.specs.declared.script_lines.ScriptLine.{ScriptLine}
use Rattle.mmtel_script.specs.declared.script_lines.ScriptLine.TheVariants.{Data}
use Rattle.mmtel_script.specs.ReadBack.{AreBytes, ReadsBack}
use Rattle.mmtel_directory.proofs.LineTheorems.{lines_at}

-- ---- the pieces of bytes

abbrev is_byte : ℕ → Bool
is_byte b = nat_lt b 256

joined_onto : (b : ℕ) (ps : List (List ℕ)) → flat_map (λ p. p) (onto_first b ps) ≡ b ∷ flat_map (λ p. p) ps
joined_onto b [] = refl
joined_onto b (p ∷ ps) = refl

joined : (after_cr : Bool) (s : List ℕ) → flat_map (λ p. p) (cut after_cr s) ≡ s
joined after_cr [] = refl
joined after_cr (b ∷ s) =
    elim (cases_Bool (after_cr && b == 10)) [
      | inl y ↦ rw y (ap (λ (l : List ℕ). b ∷ l) (joined false s))
      | inr n ↦ rw n (joined_onto b (cut (b == 13) s) ∙ ap (λ (l : List ℕ). b ∷ l) (joined (b == 13) s))
    ]

abbrev AreAllBytes : List (List ℕ) → Type 0
AreAllBytes ps = list_all (λ p. list_all is_byte p) ps ≡ true

bytes_onto : (b : ℕ) (ps : List (List ℕ)) → is_byte b ≡ true → AreAllBytes ps → AreAllBytes (onto_first b ps)
bytes_onto b [] low all = rw low refl
bytes_onto b (p ∷ ps) low all =
    let both = and_true (list_all is_byte p) (list_all (λ q. list_all is_byte q) ps) all in
    rw (low, both.0, both.1) refl

pieces_bytes : (after_cr : Bool) (s : List ℕ) → AreBytes s → AreAllBytes (cut after_cr s)
pieces_bytes after_cr [] all = refl
pieces_bytes after_cr (b ∷ s) all =
    let both = and_true (is_byte b) (list_all is_byte s) all in
    elim (cases_Bool (after_cr && b == 10)) [
      | inl y ↦ rw (y, both.0, pieces_bytes false s both.1) refl
      | inr n ↦ rw n (bytes_onto b (cut (b == 13) s) both.0 (pieces_bytes (b == 13) s both.1))
    ]

-- ---- digits

digit_low : (n : ℕ) → 48 ≤ hex_digit n
digit_low n =
    elim (cases_Bool (nat_lt n 10)) [
      | inl y ↦ rw y (omega arith)
      | inr m ↦ rw m (omega arith)
    ]

value_low : (n : ℕ) → n < 10 → hex_value (48 + n) ≡ Some n
value_low n lt =
    let a : nat_le 48 (48 + n) ≡ true = grind (arith, nat_tests) in
    let b : nat_le (48 + n) 57 ≡ true = grind (arith, nat_tests) in
    let c : 48 + n - 48 ≡ n = omega arith in
    rw (a, b, c) refl

value_high : (n : ℕ) → 10 ≤ n → n < 16 → hex_value (87 + n) ≡ Some n
value_high n ge lt =
    let a : nat_le 48 (87 + n) ≡ true = grind (arith, nat_tests) in
    let b : nat_le (87 + n) 57 ≡ false = grind (arith, nat_tests) in
    let c : nat_le 97 (87 + n) ≡ true = grind (arith, nat_tests) in
    let d : nat_le (87 + n) 102 ≡ true = grind (arith, nat_tests) in
    let e : 87 + n - 87 ≡ n = omega arith in
    rw (a, b, c, d, e) refl

value_of_digit : (n : ℕ) → n < 16 → hex_value (hex_digit n) ≡ Some n
value_of_digit n lt =
    elim (cases_Bool (nat_lt n 10)) [
      | inl y ↦
          let low : n < 10 = grind (arith, nat_tests, y) in
          rw y (value_low n low)
      | inr m ↦
          let high : 10 ≤ n = grind (arith, nat_tests, m) in
          rw m (value_high n high lt)
    ]

decoded : (p : List ℕ) → AreBytes p → hex_bytes (flat_map hex_pair p) ≡ Some p
decoded [] all = refl
decoded (b ∷ p) all =
    let both = and_true (is_byte b) (list_all is_byte p) all in
    let lt : b < 256 = grind (arith, nat_tests, both.0) in
    let high : hex_value (hex_digit (b / 16)) ≡ Some (b / 16) = value_of_digit (b / 16) (omega arith) in
    let low : hex_value (hex_digit (b % 16)) ≡ Some (b % 16) = value_of_digit (b % 16) (omega arith) in
    let whole : b / 16 * 16 + b % 16 ≡ b = omega arith in
    rw (high, low, decoded p both.1, whole) refl

-- ---- no LF within a line

other_digit : (n : ℕ) → not (hex_digit n == 10) ≡ true
other_digit n = let low : 48 ≤ hex_digit n = digit_low n in grind (arith, nat_tests)

digits_free : (p : List ℕ) → IsFree 10 (flat_map hex_pair p)
digits_free [] = refl
digits_free (b ∷ p) = rw (other_digit (b / 16), other_digit (b % 16), digits_free p) refl

plain_free : (s : List ℕ) → list_all is_plain s ≡ true → IsFree 10 s
plain_free [] all = refl
plain_free (b ∷ s) all =
    let both = and_true (is_plain b) (list_all is_plain s) all in
    let bounds = and_true (nat_le 32 b) (nat_le b 126) both.0 in
    let low : 32 ≤ b = grind (arith, nat_tests, bounds.0) in
    let other : not (b == 10) ≡ true = grind (arith, nat_tests) in
    rw (other, plain_free s both.1) refl

-- ---- the line of a piece

record Lists (known : List KnownPeer) (p text : List ℕ) : Type 0 where
  line : List ℕ
  whole : text ≡ line ++ 10 ∷ []
  free : IsFree 10 line
  form : line_of known line ≡ Some (Data p)

by_digits : (known : List KnownPeer) (p : List ℕ) → AreBytes p → Lists known p (hex_line p)
unfolding line_of
by_digits known p all = record {
  line = 120 ∷ flat_map hex_pair p;
  whole = refl;
  free = digits_free p;
  form = rw (decoded p all) refl;
}

ended : (known : List KnownPeer) (p bytes : List ℕ) → list_all is_plain bytes ≡ true → bytes ++ codes "\r\n" ≡ p → Lists known p (codes "|" ++ bytes ++ codes "\n")
unfolding line_of
ended known p bytes plain e = record {
  line = 124 ∷ bytes;
  whole = refl;
  free = plain_free bytes plain;
  form = ap (λ (q : List ℕ). Some (Data q)) e;
}

open_ended : (known : List KnownPeer) (p : List ℕ) → list_all is_plain p ≡ true → Lists known p (codes "+" ++ p ++ codes "\n")
unfolding line_of
open_ended known p plain = record {
  line = 43 ∷ p;
  whole = refl;
  free = plain_free p plain;
  form = refl;
}

before_whole : (p bytes : List ℕ) → before_crlf p ≡ Some bytes → bytes ++ codes "\r\n" ≡ p
before_whole p bytes e =
    let found = guard_some (nat_le 2 (length p) && bytes_eq (drop (length p - 2) p) (codes "\r\n")) (take (length p - 2) p) bytes e in
    let both = and_true (nat_le 2 (length p)) (bytes_eq (drop (length p - 2) p) (codes "\r\n")) found.0 in
    let end : drop (length p - 2) p ≡ codes "\r\n" = (bytes_eq-Decides (drop (length p - 2) p) (codes "\r\n")).0 both.1 in
    rw (← found.1, ← end) (take-append-drop (length p - 2) p)

lists_by : (known : List KnownPeer) (p : List ℕ) (front : Option (List ℕ)) → AreBytes p → before_crlf p ≡ front → Lists known p (line_before front p)
lists_by known p (Some bytes) all e =
    elim (cases_Bool (list_all is_plain bytes)) [
      | inl y ↦ rw y (ended known p bytes y (before_whole p bytes e))
      | inr n ↦ rw n (by_digits known p all)
    ]
lists_by known p None all e =
    elim (cases_Bool (list_all is_plain p)) [
      | inl y ↦ rw y (open_ended known p y)
      | inr n ↦ rw n (by_digits known p all)
    ]

-- ---- all pieces

abbrev forms_of : List KnownPeer → List (List ℕ) → List (Option ScriptLine)
forms_of known lines = map (λ line. line_of known line) lines

listed : (known : List KnownPeer) (ps : List (List ℕ)) → AreAllBytes ps → forms_of known (lines_of (flat_map piece_line ps)) ≡ map (λ p. Some (Data p)) ps
listed known [] all = refl
listed known (p ∷ ps) all =
    let both = and_true (list_all is_byte p) (list_all (λ q. list_all is_byte q) ps) all in
    let first = lists_by known p (before_crlf p) both.0 refl in
    let rest : List ℕ = flat_map piece_line ps in
    let lines : lines_of (piece_line p ++ rest) ≡ first.line ∷ lines_of rest =
    ap (λ (t : List ℕ). lines_of (t ++ rest)) first.whole ∙ ap lines_of (append_assoc first.line (10 ∷ []) rest) ∙ lines_at first.line rest first.free in
    ap (forms_of known) lines ∙ ap (λ (f : Option ScriptLine). f ∷ forms_of known (lines_of rest)) first.form ∙
    ap (λ (fs : List (Option ScriptLine)). Some (Data p) ∷ fs) (listed known ps both.1)

pub reads_back : (known : List KnownPeer) (bytes : List ℕ) → AreBytes bytes → ReadsBack known bytes
reads_back known bytes all = record {
  pieces = pieces_of bytes;
  lines = listed known (pieces_of bytes) (pieces_bytes false bytes all);
  same = joined false bytes;
}

-- ---- and so different bytes have different listings

same_pieces : (ps qs : List (List ℕ)) → map (λ p. Some (Data p)) ps ≡ map (λ p. Some (Data p)) qs → ps ≡ qs
same_pieces [] [] e = refl
same_pieces [] (q ∷ qs) e = absurd cc
same_pieces (p ∷ ps) [] e = absurd cc
same_pieces (p ∷ ps) (q ∷ qs) e =
    let tails : map (λ r. Some (Data r)) ps ≡ map (λ r. Some (Data r)) qs = cc in
    let more : ps ≡ qs = same_pieces ps qs tails in
    cc

pub marks_differ : (a b : List ℕ) → AreBytes a → AreBytes b → data_lines a ≡ data_lines b → a ≡ b
marks_differ a b all others e =
    let forms : map (λ p. Some (Data p)) (pieces_of a) ≡ map (λ p. Some (Data p)) (pieces_of b) =
    sym (listed [] (pieces_of a) (pieces_bytes false a all)) ∙ ap (λ (t : List ℕ). forms_of [] (lines_of t)) e ∙ listed [] (pieces_of b) (pieces_bytes false b others) in
    sym (joined false a) ∙ ap (λ (ps : List (List ℕ)). flat_map (λ p. p) ps) (same_pieces (pieces_of a) (pieces_of b) forms) ∙ joined false b
