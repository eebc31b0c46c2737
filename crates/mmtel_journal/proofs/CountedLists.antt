-- So many sheets or rows, read one after the other.
use Rattle.std.proofs.Common.{◌≡◌, ℕ, zero, suc, ◌-◌, ◌<◌, ◌^◌, List, [], ◌∷◌, ◌++◌, length, Option, Some, None, refl, sym, ap, subst, ◌∙◌, append_assoc, arith}
use Rattle.std.specs.Prelude.{All}
use Rattle.std.specs.Int.{w64, to_be_bytes}
use Rattle.std.proofs.lemmas.List.{append-nil}
use Rattle.mmtel_journal.specs.Fields.{then_read, sized_at, many_at, counted_at}
use Rattle.mmtel_journal.proofs.ReadRecords.{IsBytes}
use Rattle.mmtel_journal.proofs.Readers.{Reads, then_is, some_same, rest_bytes, spelled_all, many_takes, many_again}
use Rattle.mmtel_journal.proofs.FieldsRead.{reads_64}

module _ {X : Type 0} (read : List ℕ → Option (X × List ℕ)) where
  -- what was read so far, and what is to follow
  abbrev pub Progress : List ℕ → List X → ℕ → List ℕ → Type 0
  Progress tail done left rest = counted_at read tail ≡ then_read (many_at read left rest) (λ xs more. Some (done ++ xs, more))

  nil_front : (o : Option (List X × List ℕ)) → o ≡ then_read o (λ xs more. Some ([] ++ xs, more))
  nil_front None = refl
  nil_front (Some x) = refl

  pub begun : (tail : List ℕ) (count : ℕ) (behind : List ℕ) → sized_at w64 8 tail ≡ Some (count, behind) → Progress tail [] count behind
  begun tail count behind e = ap (λ r. then_read r (many_at read)) e ∙ nil_front (many_at read count behind)

  shifted : (done : List X) (x : X) (o : Option (List X × List ℕ))
      → then_read (then_read o (λ xs rest. Some (x ∷ xs, rest))) (λ xs more. Some (done ++ xs, more)) ≡ then_read o (λ xs more. Some ((done ++ x ∷ []) ++ xs, more))
  shifted done x None = refl
  shifted done x (Some y) = ap (λ l. Some (l, y.1)) (sym (append_assoc done (x ∷ []) y.0))

  pred : (m : ℕ) → m ≡ suc m - 1
  pred m = omega arith

  pub stepped : (tail : List ℕ) (done : List X) (left : ℕ) (rest further : List ℕ) (x : X) → 0 < left → read rest ≡ Some (x, further) → Progress tail done left rest
      → Progress tail (done ++ x ∷ []) (left - 1) further
  stepped tail done zero rest further x some is so_far = absurd (omega (arith, some))
  stepped tail done (suc m) rest further x some is so_far =
      let next = λ (y : X) (behind : List ℕ). then_read (many_at read m behind) (λ xs more. Some (y ∷ xs, more)) in
      let one : counted_at read tail ≡ then_read (many_at read m further) (λ xs more. Some ((done ++ x ∷ []) ++ xs, more)) =
      so_far ∙ ap (λ r. then_read (then_read r (λ y behind. then_read (many_at read m behind) (λ xs more. Some (y ∷ xs, more)))) (λ xs more. Some (done ++ xs, more))) is
      ∙ shifted done x (many_at read m further) in
      subst (λ (n : ℕ). Progress tail (done ++ x ∷ []) n further) (pred m) one

  pub stopped : (tail : List ℕ) (done : List X) (left : ℕ) (rest : List ℕ) → 0 < left → read rest ≡ None → Progress tail done left rest → counted_at read tail ≡ None
  stopped tail done zero rest some is so_far = absurd (omega (arith, some))
  stopped tail done (suc m) rest some is so_far =
      so_far ∙ ap (λ r. then_read (then_read r (λ y behind. then_read (many_at read m behind) (λ xs more. Some (y ∷ xs, more)))) (λ xs more. Some (done ++ xs, more))) is

  pub ended : (tail : List ℕ) (done : List X) (left : ℕ) (rest : List ℕ) → left ≡ 0 → Progress tail done left rest → counted_at read tail ≡ Some (done, rest)
  ended tail done zero rest none so_far = so_far ∙ ap (λ l. Some (l, rest)) (append-nil done)
  ended tail done (suc m) rest none so_far = absurd (omega (arith, none))

module _ {X : Type 0} (P : X → Type 0) (spell : X → List ℕ) (read : List ℕ → Option (X × List ℕ)) (reads : Reads P spell read) where
  abbrev pub counted : List X → List ℕ
  counted xs = to_be_bytes w64 (length xs) ++ spelled_all spell xs

  pub record AreCounted (tail : List ℕ) (xs : List X) : Type 0 where
    pub many : length xs < 2 ^ 64
    pub each : All P xs
    pub encoded : tail ≡ counted xs

  pub counted_again : (xs : List X) → length xs < 2 ^ 64 → All P xs → counted_at read (counted xs) ≡ Some (xs, [])
  counted_again xs lt each =
      ap (λ r. then_read r (many_at read)) (reads_64.again (length xs) (spelled_all spell xs) lt)
      ∙ ap (many_at read (length xs)) (sym (append-nil (spelled_all spell xs)))
      ∙ many_again P spell read reads xs [] each

  pub is_counted : (tail : List ℕ) (xs : List X) (rest : List ℕ) → IsBytes tail → rest ≡ [] → counted_at read tail ≡ Some (xs, rest) → AreCounted tail xs
  is_counted tail xs rest small none e =
      let a = then_is (sized_at w64 8 tail) (many_at read) (xs, rest) e in
      let n = a.read in
      let front = reads_64.takes tail n small a.is in
      let back = many_takes P spell read reads n.0 n.1 (xs, rest) (rest_bytes tail (to_be_bytes w64 n.0) n.1 front.1 small) a.then in
      let all : n.1 ≡ spelled_all spell xs = back.encoded ∙ ap (λ (l : List ℕ). spelled_all spell xs ++ l) none ∙ append-nil (spelled_all spell xs) in
      record {
        many = omega (arith, back.many, front.0);
        each = back.each;
        encoded = front.1 ∙ ap (λ (l : List ℕ). to_be_bytes w64 n.0 ++ l) all ∙ ap (λ (k : ℕ). to_be_bytes w64 k ++ spelled_all spell xs) (sym back.many);
      }

  pub again_counted : (tail : List ℕ) (xs : List X) → AreCounted tail xs → counted_at read tail ≡ Some (xs, [])
  again_counted tail xs are = ap (counted_at read) are.encoded ∙ counted_again xs are.many are.each

  pub none_counted : (tail : List ℕ) (xs : List X) → counted_at read tail ≡ None → AreCounted tail xs → ⊥
  none_counted tail xs none are = absurd (cc (sym none ∙ again_counted tail xs are))

  pub more_behind : (tail : List ℕ) (done xs : List X) (rest : List ℕ) → counted_at read tail ≡ Some (done, rest) → AreCounted tail xs → rest ≡ []
  more_behind tail done xs rest e are = ap (λ z. z.1) (some_same (done, rest) (xs, []) (sym e ∙ again_counted tail xs are))

  pub same_counted : (tail : List ℕ) (xs ys : List X) → AreCounted tail xs → AreCounted tail ys → xs ≡ ys
  same_counted tail xs ys a b = ap (λ z. z.0) (some_same (xs, []) (ys, []) (sym (again_counted tail xs a) ∙ again_counted tail ys b))
