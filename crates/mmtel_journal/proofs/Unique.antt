-- Bytes are a journal of one list of payloads and no other, these give one content, and then they are not broken.
use Rattle.std.proofs.Common.{◌≡◌, ◌≢◌, ◌⊎◌, inl, inr, ℕ, ◌+◌, ◌^◌, ◌<◌, List, [], ◌∷◌, ◌++◌, length, get_or, drop, Result, Ok, Err, refl, sym, ◌∙◌, ap, subst, arith}
use Rattle.std.proofs.Common.{append_assoc, length-append}
use Rattle.std.specs.Prelude.{IfOk, IfErr, MatchResult}
use Rattle.std.specs.Int.{w64, to_be_bytes}
use Rattle.mmtel_keeper.specs.Contents.{KeeperContents}
use Rattle.mmtel_journal.specs.Journal.{record_bytes, encoded_records, IsJournal}
use Rattle.mmtel_journal.specs.Keepers.{no_contents}
use Rattle.mmtel_journal.specs.Payloads.{IsPayload, Adds, AddsAll}
use Rattle.mmtel_journal.specs.Reading.{EndsAt, IsBrokenAt, IsNoRecord}
use Rattle.mmtel_journal.specs.ReadLogs.{read_log_contents, OnBroken, IsReadLogOf}
use Rattle.mmtel_journal.specs.declared.reading.ReadLog.{ReadLog}
use Rattle.mmtel_journal.specs.declared.reading.LogReadFault.{LogReadFault}
use Rattle.mmtel_journal.specs.declared.reading.LogReadFault.TheVariants.{Broken, NoMemory}
use Rattle.mmtel_journal.proofs.Frames.{same_framed}
use Rattle.mmtel_journal.proofs.ReadPayloads.{adds_same}

abbrev num : List ℕ → List ℕ
num p = to_be_bytes w64 (length p)

cons_is : (p : List ℕ) (ps : List (List ℕ)) (x : List ℕ) → encoded_records (p ∷ ps) ++ x ≡ 1 ∷ (num p ++ p ++ (encoded_records ps ++ x))
unfolding record_bytes
cons_is p ps x = append_assoc (record_bytes p) (encoded_records ps) x

-- each is of the format
abbrev AreForms : List (List ℕ) → Type 0
AreForms [] = Unit {0}
AreForms (p ∷ ps) = IsPayload p × AreForms ps

adds_form : (p : List ℕ) (a b : KeeperContents) → Adds p a b → IsPayload p
adds_form p a b (inl one) = inl (one.0, one.1)
adds_form p a b (inr one) = inr (one.0, one.1)

adds_forms : (ps : List (List ℕ)) (a b : KeeperContents) → AddsAll ps a b → AreForms ps
adds_forms [] a b all = tt
adds_forms (p ∷ ps) a b all = (adds_form p a all.0 all.1, adds_forms ps all.0 b all.2)

-- they give one content
all_same : (ps : List (List ℕ)) (before a b : KeeperContents) → AddsAll ps before a → AddsAll ps before b → a ≡ b
all_same [] before a b x y = x ∙ sym y
all_same (p ∷ ps) before a b x y =
    let same : x.0 ≡ y.0 = adds_same p before x.0 y.0 x.1 y.1 in
    all_same ps y.0 a b (subst (λ (h : KeeperContents). AddsAll ps h a) same x.2) y.2

-- no record begins so
abbrev EndsHere : List ℕ → Type 0
EndsHere rest = (p after : List ℕ) → length p < 2 ^ 64 → IsPayload p → rest ≡ 1 ∷ (num p ++ p ++ after) → ⊥

size_is : (p : List ℕ) (ps : List (List ℕ)) (x : List ℕ) → length (encoded_records (p ∷ ps) ++ x) ≡ 9 + length p + length (encoded_records ps ++ x)
size_is p ps x = omega (arith, ap length (cons_is p ps x), length-append (num p ++ p) (encoded_records ps ++ x), length-append (num p) p)

one_reading : (ps qs : List (List ℕ)) (rest other : List ℕ) → length (encoded_records ps ++ rest) < 2 ^ 64 → length (encoded_records qs ++ other) < 2 ^ 64 → AreForms ps → AreForms qs
    → EndsHere rest → EndsHere other → encoded_records ps ++ rest ≡ encoded_records qs ++ other → (ps ≡ qs) × (rest ≡ other)
one_reading [] [] rest other a b f g here there e = (refl, e)
one_reading [] (q ∷ qs) rest other a b f g here there e = absurd (here q (encoded_records qs ++ other) (omega (arith, size_is q qs other, b)) g.0 (e ∙ cons_is q qs other))
one_reading (p ∷ ps) [] rest other a b f g here there e = absurd (there p (encoded_records ps ++ rest) (omega (arith, size_is p ps rest, a)) f.0 (sym e ∙ cons_is p ps rest))
one_reading (p ∷ ps) (q ∷ qs) rest other a b f g here there e =
    let tails = ap (λ (l : List ℕ). drop 1 l) (sym (cons_is p ps rest) ∙ e ∙ cons_is q qs other) in
    let same = same_framed p q (encoded_records ps ++ rest) (encoded_records qs ++ other) (omega (arith, size_is p ps rest, a)) (omega (arith, size_is q qs other, b)) tails in
    let others = one_reading ps qs rest other (omega (arith, size_is p ps rest, a)) (omega (arith, size_is q qs other, b)) f.1 g.1 here there same.1 in
    ((λ i. same.0 i ∷ others.0 i), others.1)

shut_ends : (gate : ℕ) (rest : List ℕ) → gate ≢ 1 → EndsHere (gate ∷ rest)
shut_ends gate rest shut p after lt form e = absurd (shut (ap (λ (l : List ℕ). get_or l 0 0) e))

broken_ends : (rest : List ℕ) → (rest ≡ []) ⊎ ((tail : List ℕ) × (rest ≡ 1 ∷ tail) × IsNoRecord tail) → EndsHere rest
broken_ends rest (inl none) p after lt form e = absurd (cc (none, e))
broken_ends rest (inr one) p after lt form e = absurd (one.2 p after lt form (ap (λ (l : List ℕ). drop 1 l) (sym one.1 ∙ e)))

closed_is : (rest : List ℕ) (gate : ℕ) (tail : List ℕ) → gate ≢ 1 → rest ≡ gate ∷ tail → (rest ≡ []) ⊎ ((t : List ℕ) × (rest ≡ 1 ∷ t) × IsNoRecord t) → ⊥
closed_is rest gate tail shut same (inl none) = absurd (cc (none, same))
closed_is rest gate tail shut same (inr one) = absurd (shut (ap (λ (l : List ℕ). get_or l 0 0) (sym same ∙ one.1)))

pub only_found : (bytes : List ℕ) (r : Result ReadLog LogReadFault) → length bytes < 2 ^ 64 → IfOk r (λ f. EndsAt bytes f.gate (read_log_contents f)) → IfErr r (OnBroken (IsBrokenAt bytes))
    → (payloads : List (List ℕ)) (held : KeeperContents) → IsJournal payloads bytes → AddsAll payloads no_contents held
    → MatchResult r (λ f. IsReadLogOf f (length (encoded_records payloads)) held) (OnBroken (λ _. ⊥))
only_found bytes (Ok f) lt found broken payloads held is all =
    let same = one_reading found.0 payloads (found.1 ∷ found.2) (is.0 ∷ is.1) (omega (arith, lt, ap length found.4)) (omega (arith, lt, ap length is.3))
    (adds_forms found.0 no_contents (read_log_contents f) found.6) (adds_forms payloads no_contents held all)
    (shut_ends found.1 found.2 found.3) (shut_ends is.0 is.1 is.2) (sym found.4 ∙ is.3) in (
      found.5 ∙ ap (λ (l : List (List ℕ)). length (encoded_records l)) same.0,
      all_same payloads no_contents (read_log_contents f) held
          (subst (λ (l : List (List ℕ)). AddsAll l no_contents (read_log_contents f)) same.0 found.6) all,
    )
only_found bytes (Err (Broken at)) lt found broken payloads held is all =
    let same = one_reading broken.0 payloads broken.1 (is.0 ∷ is.1) (omega (arith, lt, ap length broken.4)) (omega (arith, lt, ap length is.3))
    (adds_forms broken.0 no_contents broken.2 broken.3) (adds_forms payloads no_contents held all)
    (broken_ends broken.1 broken.6) (shut_ends is.0 is.1 is.2) (sym broken.4 ∙ is.3) in
    absurd (closed_is broken.1 is.0 is.1 is.2 same.1 broken.6)
only_found bytes (Err NoMemory) lt found broken payloads held is all = tt
