-- Readers that are exact: what they read is what is written there, and what is written is read back.
use Rattle.std.proofs.Common.{◌≡◌, ℕ, zero, suc, ◌+◌, ◌-◌, ◌<◌, ◌≤◌, false, ltb, List, [], ◌∷◌, ◌++◌, length, get_or, take, drop, Option, Some, None, refl, sym, ap, subst, ◌∙◌}
use Rattle.std.proofs.Common.{append_assoc, length-append, arith}
use Rattle.std.specs.Prelude.{All}
use Rattle.std.proofs.lemmas.Bool.{ltb-false, le-ltb}
use Rattle.std.proofs.lemmas.List.{take_at, drop_at, take-append-drop, length-take, get_or-append_right}
use Rattle.std.proofs.lemmas.List.Elements.{All-nil, All-cons, All-head, All-tail}
use Rattle.mmtel_journal.specs.Fields.{then_read, pair_at, parsed_value, text_at, many_at}
use Rattle.mmtel_journal.proofs.ReadRecords.{IsBytes, guard_some}

pub record Reads {X : Type 0} (P : X → Type 0) (spell : X → List ℕ) (read : List ℕ → Option (X × List ℕ)) : Type 0 where
  pub takes : (bytes : List ℕ) (found : X × List ℕ) → IsBytes bytes → read bytes ≡ Some found → P found.0 × (bytes ≡ spell found.0 ++ found.1)
  pub again : (x : X) (rest : List ℕ) → P x → read (spell x ++ rest) ≡ Some (x, rest)

-- what a reading of two steps consists of
pub record Then {X Y : Type 0} (first : Option (X × List ℕ)) (next : X → List ℕ → Option (Y × List ℕ)) (found : Y × List ℕ) : Type 0 where
  pub read : X × List ℕ
  pub is : first ≡ Some read
  pub then : next read.0 read.1 ≡ Some found

pub then_is : {X Y : Type 0} (first : Option (X × List ℕ)) (next : X → List ℕ → Option (Y × List ℕ)) (found : Y × List ℕ) → then_read first next ≡ Some found
    → Then first next found
then_is None next found e = absurd cc
then_is (Some x) next found e = record { read = x; is = refl; then = e }

pub some_same : {X : Type 0} (x y : X) → Some x ≡ Some y → x ≡ y
some_same x y e = cc

pub made_is : {Y : Type 0} (made : Option Y) (rest : List ℕ) (found : Y × List ℕ) → parsed_value made rest ≡ Some found → (made ≡ Some found.0) × (rest ≡ found.1)
made_is None rest found e = absurd cc
made_is (Some y) rest found e =
    let same = some_same (y, rest) found e in
    (ap (λ p. Some p.0) same, ap (λ p. p.1) same)

bytes_behind : (front rest : List ℕ) → IsBytes (front ++ rest) → IsBytes rest
bytes_behind front rest small i =
    let at : get_or (front ++ rest) (length front + i) 0 ≡ get_or rest (length front + i - length front) 0 = get_or-append_right front rest (length front)
    (length front + i) 0 refl (omega arith) in
    let back : length front + i - length front ≡ i = omega arith in
    subst (λ n. n < 256) (at ∙ ap (λ k. get_or rest k 0) back) (small (length front + i))

pub rest_bytes : (bytes front rest : List ℕ) → bytes ≡ front ++ rest → IsBytes bytes → IsBytes rest
rest_bytes bytes front rest is small = bytes_behind front rest (subst IsBytes is small)

pub pair_reads : {X Y : Type 0} (P : X → Type 0) (Q : Y → Type 0) (spell_x : X → List ℕ) (spell_y : Y → List ℕ)
    (first : List ℕ → Option (X × List ℕ)) (second : List ℕ → Option (Y × List ℕ)) → Reads P spell_x first → Reads Q spell_y second
    → Reads (λ z. P z.0 × Q z.1) (λ z. spell_x z.0 ++ spell_y z.1) (pair_at first second)
pair_reads P Q spell_x spell_y first second reads_x reads_y = record {
  takes = λ bytes found small e.
      let a = then_is (first bytes) _ found e in
      let x = a.read in
      let front = reads_x.takes bytes x small a.is in
      let b = then_is (second x.1) _ found a.then in
      let y = b.read in
      let back = reads_y.takes x.1 y (rest_bytes bytes (spell_x x.0) x.1 front.1 small) b.is in
      let whole : bytes ≡ (spell_x x.0 ++ spell_y y.0) ++ y.1 = front.1 ∙ ap (λ l. spell_x x.0 ++ l) back.1 ∙ sym (append_assoc (spell_x x.0) (spell_y y.0) y.1) in
      let same : ((x.0, y.0), y.1) ≡ found = some_same ((x.0, y.0), y.1) found b.then in
      subst (λ f. (P f.0.0 × Q f.0.1) × (bytes ≡ (spell_x f.0.0 ++ spell_y f.0.1) ++ f.1)) same ((front.0, back.0), whole);
  again = λ z rest p.
      ap (pair_at first second) (append_assoc (spell_x z.0) (spell_y z.1) rest)
      ∙ ap (λ r. then_read r (λ x behind. then_read (second behind) (λ y more. Some ((x, y), more)))) (reads_x.again z.0 (spell_y z.1 ++ rest) p.0)
      ∙ ap (λ r. then_read r (λ y more. Some ((z.0, y), more))) (reads_y.again z.1 rest p.1);
}

-- a value that is made of what was read, where there is one
pub made_reads : {X Y : Type 0} (P : X → Type 0) (Q : Y → Type 0) (spell : X → List ℕ) (read : List ℕ → Option (X × List ℕ)) (make : X → Option Y) (back : Y → X)
    → ((x : X) (y : Y) → P x → make x ≡ Some y → Q y × (x ≡ back y)) → ((y : Y) → Q y → P (back y) × (make (back y) ≡ Some y))
    → Reads P spell read → Reads Q (λ y. spell (back y)) (λ bytes. then_read (read bytes) (λ x rest. parsed_value (make x) rest))
made_reads P Q spell read make back made given reads = record {
  takes = λ bytes found small e.
      let a = then_is (read bytes) _ found e in
      let x = a.read in
      let front = reads.takes bytes x small a.is in
      let b = made_is (make x.0) x.1 found a.then in
      let y = made x.0 found.0 front.0 b.0 in
      (y.0, front.1 ∙ ap (λ l. spell x.0 ++ l) b.1 ∙ ap (λ z. spell z ++ found.1) y.1);
  again = λ y rest q.
      let g = given y q in
      ap (λ r. then_read r (λ x more. parsed_value (make x) more)) (reads.again (back y) rest g.0)
      ∙ ap (λ o. parsed_value o rest) g.1;
}

-- a value that can always be built of what was read
pub turned_reads : {X Y : Type 0} (P : X → Type 0) (Q : Y → Type 0) (spell : X → List ℕ) (read : List ℕ → Option (X × List ℕ)) (make : X → Y) (back : Y → X)
    → ((x : X) → P x → Q (make x) × (x ≡ back (make x))) → ((y : Y) → Q y → P (back y) × (make (back y) ≡ y))
    → Reads P spell read → Reads Q (λ y. spell (back y)) (λ bytes. then_read (read bytes) (λ x rest. Some (make x, rest)))
turned_reads P Q spell read make back made given reads = record {
  takes = λ bytes found small e.
      let a = then_is (read bytes) _ found e in
      let x = a.read in
      let front = reads.takes bytes x small a.is in
      let same : (make x.0, x.1) ≡ found = some_same (make x.0, x.1) found a.then in
      let y = made x.0 front.0 in
      subst (λ f. Q f.0 × (bytes ≡ spell (back f.0) ++ f.1)) same (y.0, front.1 ∙ ap (λ z. spell z ++ x.1) y.1);
  again = λ y rest q.
      let g = given y q in
      ap (λ r. then_read r (λ x more. Some (make x, more))) (reads.again (back y) rest g.0)
      ∙ ap (λ z. Some (z, rest)) g.1;
}

-- the same reader, by another spelling and another condition
pub other_reads : {X : Type 0} (P Q : X → Type 0) (spell other : X → List ℕ) (read : List ℕ → Option (X × List ℕ))
    → ((x : X) → P x → Q x) → ((x : X) → Q x → P x) → ((x : X) → spell x ≡ other x) → Reads P spell read → Reads Q other read
other_reads P Q spell other read to from same reads = record {
  takes = λ bytes found small e.
      let front = reads.takes bytes found small e in
      (to found.0 front.0, front.1 ∙ ap (λ l. l ++ found.1) (same found.0));
  again = λ x rest q. ap (λ l. read (l ++ rest)) (sym (same x)) ∙ reads.again x rest (from x q);
}

-- so many bytes
pub text_reads : (size : ℕ) → Reads (λ (text : List ℕ). length text ≡ size) (λ text. text) (text_at size)
text_reads size = record {
  takes = λ bytes found small e.
      let g = guard_some (ltb (length bytes) size) (take size bytes, drop size bytes) found e in
      let long : size ≤ length bytes = ltb-false _ _ g.0 in
      let len : length (take size bytes) ≡ size = omega (arith, length-take size bytes, long) in
      subst (λ (f : List ℕ × List ℕ). (length f.0 ≡ size) × (bytes ≡ f.0 ++ f.1)) g.1 (len, sym (take-append-drop size bytes));
  again = λ text rest is.
      let long : ltb (length (text ++ rest)) size ≡ false = le-ltb _ _ (omega (arith, is, length-append text rest)) in
      rw (long, take_at text rest size is, drop_at text rest size is) refl;
}

-- so many, one after the other
abbrev pub spelled_all : {X : Type 0} → (X → List ℕ) → List X → List ℕ
spelled_all spell [] = []
spelled_all spell (x ∷ xs) = spell x ++ spelled_all spell xs

module _ {X : Type 0} (P : X → Type 0) (spell : X → List ℕ) (read : List ℕ → Option (X × List ℕ)) (reads : Reads P spell read) where
  pub record Many (count : ℕ) (bytes : List ℕ) (found : List X × List ℕ) : Type 0 where
    pub many : length found.0 ≡ count
    pub each : All P found.0
    pub encoded : bytes ≡ spelled_all spell found.0 ++ found.1

  pub many_takes : (count : ℕ) (bytes : List ℕ) (found : List X × List ℕ) → IsBytes bytes → many_at read count bytes ≡ Some found → Many count bytes found
  many_takes zero bytes found small e =
      let same : ([], bytes) ≡ found = some_same ([], bytes) found e in
      subst (Many 0 bytes) same (record { many = refl; each = All-nil P; encoded = refl })
  many_takes (suc count) bytes found small e =
      let a = then_is (read bytes) _ found e in
      let x = a.read in
      let front = reads.takes bytes x small a.is in
      let b = then_is (many_at read count x.1) _ found a.then in
      let xs = b.read in
      let back = many_takes count x.1 xs (rest_bytes bytes (spell x.0) x.1 front.1 small) b.is in
      let same : (x.0 ∷ xs.0, xs.1) ≡ found = some_same (x.0 ∷ xs.0, xs.1) found b.then in
      subst (Many (suc count) bytes) same (record {
        many = ap (λ (n : ℕ). suc n) back.many;
        each = All-cons P x.0 xs.0 front.0 back.each;
        encoded = front.1 ∙ ap (λ l. spell x.0 ++ l) back.encoded ∙ sym (append_assoc (spell x.0) (spelled_all spell xs.0) xs.1);
      })

  pub many_again : (xs : List X) (rest : List ℕ) → All P xs → many_at read (length xs) (spelled_all spell xs ++ rest) ≡ Some (xs, rest)
  many_again [] rest each = refl
  many_again (x ∷ xs) rest each =
      ap (many_at read (length (x ∷ xs))) (append_assoc (spell x) (spelled_all spell xs) rest)
      ∙ ap (λ r. then_read r (λ y behind. then_read (many_at read (length xs) behind) (λ ys more. Some (y ∷ ys, more))))
      (reads.again x (spelled_all spell xs ++ rest) (All-head P x xs each))
      ∙ ap (λ r. then_read r (λ ys more. Some (x ∷ ys, more))) (many_again xs rest (All-tail P x xs each))
