-- Bytes after a body whose length is given do not matter.
use Rattle.std.proofs.Common.{◌≡◌, false, ℕ, zero, suc, ◌+◌, ◌≤◌, List, [], ◌∷◌, ◌++◌, length, take, drop, Option, Some, None, Ok, refl, sym, ap, subst, ◌∙◌, inl, inr, map, arith, codes, nat_lt}
use Rattle.std.specs.Prelude.{is_none}
use Rattle.std.proofs.lemmas.Bool.{cases_Bool}
use Rattle.std.proofs.lemmas.Bool.Decides.{nat_tests}
use Rattle.std.proofs.lemmas.List.{length-append}
use Rattle.mmtel_base.specs.Numbers.{number_of}
use Rattle.mmtel_base.proofs.NumberTheorems.{number_takes}
use Rattle.mmtel_message.specs.Lines.{begins_with_break, first_break, logical_lines, split}
use Rattle.mmtel_message.specs.Headers.{header_line}
use Rattle.mmtel_message.specs.Message.{Message, first_value}
use Rattle.mmtel_message.specs.Starts.{start_at}
use Rattle.mmtel_message.specs.Fields.{five_at}
use Rattle.mmtel_message.specs.Faults.{fault_from, first_fault}
use Rattle.mmtel_message.specs.Expansion.{expanded_lines, privacy_text, allow_text}
use Rattle.mmtel_message.specs.Reads.{cut_body, body_of, message_of, head_in_lines, after_faults, after_head, after_start, read_split_at, limit, most_lines, read_result}
use Rattle.mmtel_message.specs.declared.lines.Break.TheVariants.{Head}
use Rattle.mmtel_message.specs.declared.fields.Five.{Five}
use Rattle.mmtel_message.specs.declared.messages.Start.{Start}
use Rattle.mmtel_message.proofs.LineTheorems.{mapped, same_some, begins_width}
use Rattle.mmtel_message.proofs.ExpansionTheorems.{Line, clean_from, clean_to}
use Rattle.mmtel_message.proofs.CanonicalTheorems.{length_kept, capacity_fits, first_length, number_same, Fits}
use Rattle.mmtel_message.proofs.ReadTheorems.{fault_parts, absent_parts, ok_is, with_five}

-- ---- the end of the head

begins_more : (s x : List ℕ) → 4 ≤ length s → begins_with_break Head (s ++ x) ≡ begins_with_break Head s
begins_more [] x le = absurd (omega arith)
begins_more (a ∷ []) x le = absurd (omega arith)
begins_more (a ∷ b ∷ []) x le = absurd (omega arith)
begins_more (a ∷ b ∷ c ∷ []) x le = absurd (omega arith)
begins_more (a ∷ b ∷ c ∷ d ∷ s) x le = refl

break_fits : (s : List ℕ) (n : ℕ) → first_break Head s ≡ Some n → n + 4 ≤ length s
unfolding first_break
break_fits [] n e = absurd cc
break_fits (b ∷ s) n e =
    elim (cases_Bool (begins_with_break Head (b ∷ s))) [
      | inl y ↦ let zero_is = same_some 0 n (rw y at e) in let four = begins_width Head (b ∷ s) y in omega arith
      | inr other ↦
          let p = mapped (first_break Head s) n (rw other at e) in
          let more = break_fits s p.0 p.1 in
          let same = p.2 in
          omega arith
    ]

break_more : (s x : List ℕ) (n : ℕ) → first_break Head s ≡ Some n → first_break Head (s ++ x) ≡ Some n
unfolding first_break
break_more [] x n e = absurd cc
break_more (b ∷ s) x n e =
    let four : 4 ≤ length (b ∷ s) = (let fits = break_fits (b ∷ s) n e in omega arith) in
    elim (cases_Bool (begins_with_break Head (b ∷ s))) [
      | inl y ↦ rw (begins_more (b ∷ s) x four, y) (rw y at e)
      | inr other ↦
          let p = mapped (first_break Head s) n (rw other at e) in
          rw (begins_more (b ∷ s) x four, other, break_more s x p.0 p.1) (ap (λ (k : ℕ). Some k) (let same = p.2 in omega arith))
    ]

take_more : (n : ℕ) (s x : List ℕ) → n ≤ length s → take n (s ++ x) ≡ take n s
take_more zero s x le = refl
take_more (suc n) [] x le = absurd (omega arith)
take_more (suc n) (b ∷ s) x le = rw (take_more n s x (omega arith)) refl

drop_more : (n : ℕ) (s x : List ℕ) → n ≤ length s → drop n (s ++ x) ≡ drop n s ++ x
drop_more zero s x le = refl
drop_more (suc n) [] x le = absurd (omega arith)
drop_more (suc n) (b ∷ s) x le = drop_more n s x (omega arith)

-- ---- the body

body_more : (rest x v : List ℕ) (o : Option ℕ) → number_of (length rest) v ≡ o → is_none o ≡ false → cut_body (rest ++ x) (number_of (length (rest ++ x)) v) ≡ cut_body rest o
body_more rest x v None e f = absurd cc
body_more rest x v (Some n) e f =
    let le : n ≤ length rest = (number_takes (length rest) v n e).1 in
    let again : number_of (length (rest ++ x)) v ≡ Some n = number_same (length (rest ++ x)) (length rest) v n e (omega (arith, length-append rest x)) in
    rw again (take_more n rest x le)

fits_more : (rest x v : List ℕ) (o : Option ℕ) → number_of (length rest) v ≡ o → is_none o ≡ false → is_none (number_of (length (rest ++ x)) v) ≡ false
fits_more rest x v None e f = absurd cc
fits_more rest x v (Some n) e f =
    let le : n ≤ length rest = (number_takes (length rest) v n e).1 in
    rw (number_same (length (rest ++ x)) (length rest) v n e (omega (arith, length-append rest x))) refl

-- ---- the message

more_message : (start : Start) (five : Five) (hs : List Line) (rest x v : List ℕ) → first_value (codes "Content-Length") hs ≡ Some v → first_fault start five (length rest) hs ≡ None →
    after_faults start hs (rest ++ x) (first_fault start five (length (rest ++ x)) hs) ≡ Ok (message_of start hs rest)
more_message start five hs rest x v there e =
    let f = fault_parts start five (length rest) hs e in
    let o = absent_parts start hs (fault_from start five (length rest) [] hs) f.1 in
    let clean = clean_from start five (length rest) [] hs o.0 in
    let fits : is_none (number_of (length rest) v) ≡ false = rw there at (first_length start five (length rest) [] hs refl clean) in
    let more : Fits (length (rest ++ x)) (first_value (codes "Content-Length") hs) = rw there (fits_more rest x v (number_of (length rest) v) refl fits) in
    let clean' = capacity_fits start five (length rest) (length (rest ++ x)) [] hs more clean in
    let here : fault_from start five (length (rest ++ x)) [] hs ≡ None = clean_to start five (length (rest ++ x)) [] hs clean' in
    let body : body_of hs (rest ++ x) ≡ body_of hs rest = rw there (body_more rest x v (number_of (length rest) v) refl fits) in
    rw (f.0, here, o.1, body) refl

said : (hs : List Line) (start : Start) (five : Five) (rest v : List ℕ) → first_fault start five (length rest) hs ≡ None → first_value (codes "Content-Length") (expanded_lines hs) ≡ Some v →
    first_value (codes "Content-Length") hs ≡ Some v
said hs start five rest v e there =
    let f = fault_parts start five (length rest) hs e in
    let o = absent_parts start hs (fault_from start five (length rest) [] hs) f.1 in
    let clean = clean_from start five (length rest) [] hs o.0 in
    sym (length_kept (privacy_text hs) (allow_text hs) start five (length rest) hs clean) ∙ there

by_faults : (start : Start) (five : Five) (hs : List Line) (rest x v : List ℕ) (m : Message Start) (o : Option ℕ) → first_fault start five (length rest) hs ≡ o → after_faults start hs rest o ≡ Ok m →
    first_value (codes "Content-Length") m.lines ≡ Some v → after_faults start hs (rest ++ x) (first_fault start five (length (rest ++ x)) hs) ≡ Ok m
by_faults start five hs rest x v m (Some n) is e there = absurd cc
by_faults start five hs rest x v m None is e there =
    let same : message_of start hs rest ≡ m = ok_is (message_of start hs rest) m e in
    let in_hs : first_value (codes "Content-Length") (expanded_lines hs) ≡ Some v = subst (λ (k : Message Start). first_value (codes "Content-Length") k.lines ≡ Some v) (sym same) there in
    more_message start five hs rest x v (said hs start five rest v is in_hs) is ∙ e

by_five : (start : Start) (hs : List Line) (rest x v : List ℕ) (m : Message Start) (o : Option Five) → after_head (with_five start hs o) rest ≡ Ok m →
    first_value (codes "Content-Length") m.lines ≡ Some v → after_head (with_five start hs o) (rest ++ x) ≡ Ok m
by_five start hs rest x v m None e there = absurd cc
by_five start hs rest x v m (Some five) e there =
    elim (cases_Bool (nat_lt most_lines (length hs))) [
      | inl y ↦ let f = rw y at e in absurd cc
      | inr n ↦ rw n (by_faults start five hs rest x v m (first_fault start five (length rest) hs) refl (rw n at e) there)
    ]

by_start : (hs : List Line) (rest x v : List ℕ) (m : Message Start) (o : Option Start) → after_start hs rest o ≡ Ok m → first_value (codes "Content-Length") m.lines ≡ Some v → after_start hs (rest ++ x) o ≡ Ok m
by_start hs rest x v m None e there = absurd cc
by_start hs rest x v m (Some start) e there = by_five start hs rest x v m (five_at hs) e there

by_lines : (ls : List (List ℕ)) (rest x v : List ℕ) (m : Message Start) → after_head (head_in_lines ls) rest ≡ Ok m → first_value (codes "Content-Length") m.lines ≡ Some v →
    after_head (head_in_lines ls) (rest ++ x) ≡ Ok m
by_lines [] rest x v m e there = absurd cc
by_lines (l ∷ ls) rest x v m e there = by_start (map header_line ls) rest x v m (start_at l) e there

by_head : (s x v : List ℕ) (m : Message Start) (o : Option ℕ) → first_break Head s ≡ o → read_split_at s o ≡ Ok m → first_value (codes "Content-Length") m.lines ≡ Some v →
    read_split_at (s ++ x) (first_break Head (s ++ x)) ≡ Ok m
by_head s x v m None is e there = absurd cc
by_head s x v m (Some n) is e there =
    let fits = break_fits s n is in
    rw (break_more s x n is, take_more n s x (omega arith), drop_more (n + 4) s x (omega arith)) (by_lines (logical_lines (split (take n s))) (drop (n + 4) s) x v m e there)

-- bytes after the body
pub more_bytes : (s x v : List ℕ) (m : Message Start) → read_result s ≡ Ok m → first_value (codes "Content-Length") m.lines ≡ Some v → length (s ++ x) ≤ 16384 → read_result (s ++ x) ≡ Ok m
more_bytes s x v m e there le =
    let small : nat_lt limit (length s) ≡ false = grind (arith, nat_tests, le, length-append s x) in
    let large : nat_lt limit (length (s ++ x)) ≡ false = grind (arith, nat_tests, le) in
    rw large (by_head s x v m (first_break Head s) refl (rw small at e) there)
