-- Writes of a text in pieces.
use Rattle.std.proofs.Common.{◌≡◌, ℕ, ◌+◌, ◌-◌, ◌≤◌, List, ◌++◌, length, take, drop, sym, arith, append_assoc, Option, Some, None, length-drop, length-take, length-append, ◌∙◌}
use Rattle.std.proofs.lemmas.Grind.{common_steps}
use Rattle.std.proofs.lemmas.List.{take_all, take-append-le}
use Rattle.std.proofs.Math.Seq.{take-add, take-append-add}
use Rattle.std.specs.Io.KnownBytes.{Appends}
use Rattle.std.proofs.Common.{Result, Ok, Err, OnErr}
use Rattle.mmtel_environment.specs.Written.{AppendsPart}

-- two pieces make one
pub Appends-both : (a b c : Option (List ℕ)) (xs ys : List ℕ) → Appends a b xs → Appends b c ys → Appends a c (xs ++ ys)
Appends-both None b c xs ys h k = tt
Appends-both (Some a) None c xs ys h k = absurd h
Appends-both (Some a) (Some b) None xs ys h k = absurd k
Appends-both (Some a) (Some b) (Some c) xs ys h k = grind (arith, common_steps, h, k)

-- the next n of what remains
pub take-next : (text : List ℕ) (at n : ℕ) → at ≤ length text → n ≤ length (take (length text - at) (drop at text)) → take at text ++ take n (take (length text - at) (drop at text)) ≡ take (at + n) text
take-next text at n h k =
    let e : take (length text - at) (drop at text) ≡ drop at text = take_all (length text - at) (drop at text) (simp length-drop (omega arith)) in
    rw e (sym (take-add at n text))

-- and stays within the text
pub next-le : (text : List ℕ) (at n : ℕ) → at ≤ length text → n ≤ length (take (length text - at) (drop at text)) → at + n ≤ length text
next-le text at n h k = omega (arith, length-take (length text - at) (drop at text), length-drop at text)

-- a prefix of the first of two pieces
pub part-front : (a b : Option (List ℕ)) (xs ys : List ℕ) → AppendsPart a b xs → AppendsPart a b (xs ++ ys)
part-front None b xs ys h = tt
part-front (Some a) None xs ys h = absurd h
part-front (Some a) (Some b) xs ys (n, short, is) =
    let whole : n ≤ length xs = omega arith in
    (n, omega (arith, length-append xs ys), rw (take-append-le n xs ys whole) is)

-- the first of two pieces, and a prefix of the second
pub part-behind : (a b c : Option (List ℕ)) (xs ys : List ℕ) → Appends a b xs → AppendsPart b c ys → AppendsPart a c (xs ++ ys)
part-behind None b c xs ys h k = tt
part-behind (Some a) None c xs ys h k = absurd h
part-behind (Some a) (Some b) None xs ys h k = absurd k
part-behind (Some a) (Some b) (Some c) xs ys h (n, short, is) =
    (length xs + n, omega (arith, length-append xs ys), rw (take-append-add xs ys n) (rw h at is ∙ append_assoc a xs (take n ys)))

pub OnErr-from : {T E : Type 0} (r : Result T E) {P : Type 0} → P → OnErr r P
OnErr-from (Ok x) p = tt
OnErr-from (Err e) p = p
