-- Texts in the front of arrays.
use Rattle.std.proofs.Common.{◌≡◌, ℕ, ◌+◌, ◌-◌, List, ◌++◌, length, take, drop, refl, sym, ap, ◌∙◌, arith, append_assoc, replicate}
use Rattle.std.proofs.lemmas.List.{length-append, take_at, drop_at, drop-replicate}
use borrow.Rule.Slice.PartMut.{put_mid}
use Rattle.mmtel_message.specs.Addresses.{HasFront, padded}

-- bytes written after the text that is in front are in front with it
pub written_after : (n : ℕ) (text bytes array : List ℕ) → array ≡ padded n text → put_mid (length text) (length bytes) array bytes ≡ padded n (text ++ bytes)
written_after n text bytes array whole =
    let zeros : List ℕ = replicate (n - length text) 0 in
    let front : take (length text) array ≡ text = ap (take (length text)) whole ∙ take_at text zeros (length text) refl in
    let rest : drop (length bytes) (drop (length text) array) ≡ replicate ((n - length text) - length bytes) 0 =
    ap (λ (l : List ℕ). drop (length bytes) (drop (length text) l)) whole
    ∙ (ap (drop (length bytes)) (drop_at text zeros (length text) refl) ∙ drop-replicate (length bytes) (n - length text) 0) in
    let count : (n - length text) - length bytes ≡ n - length (text ++ bytes) = let sum = length-append text bytes in omega arith in
    rw front (rw rest (rw count (sym (append_assoc text bytes (replicate (n - length (text ++ bytes)) 0)))))

-- seven texts, one after the other
pub seven_appended : (a b c d e f g : List ℕ) → (((((a ++ b) ++ c) ++ d) ++ e) ++ f) ++ g ≡ a ++ (b ++ (c ++ (d ++ (e ++ (f ++ g)))))
seven_appended a b c d e f g =
    append_assoc (((((a ++ b) ++ c) ++ d) ++ e)) f g
    ∙ (append_assoc ((((a ++ b) ++ c) ++ d)) e (f ++ g)
    ∙ (append_assoc ((a ++ b) ++ c) d (e ++ (f ++ g))
    ∙ (append_assoc (a ++ b) c (d ++ (e ++ (f ++ g))) ∙ append_assoc a b (c ++ (d ++ (e ++ (f ++ g)))))))

-- up to the position where it ends it is the text
pub front_of : (n at : ℕ) (array text : List ℕ) → HasFront n array at text → take at array ≡ text
front_of n at array text front = ap (take at) front.1 ∙ take_at text (replicate (n - length text) 0) at (sym front.0)
