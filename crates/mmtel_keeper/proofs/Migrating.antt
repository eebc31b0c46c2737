-- Sheets of which those before an index are replaced, and the texts that are put over them.
use Rattle.std.proofs.Common.{◌≡◌, ◌∙◌, ℕ, zero, suc, ◌+◌, ◌<◌, List, [], ◌∷◌, ◌++◌, length, get_or, take, Option, Some, None, true, false, refl, sym, ap, subst, arith, rules}
use Rattle.std.specs.Prelude.{count_by, is_some}
use Rattle.std.proofs.lemmas.List.{length-append, take_all}
use Rattle.std.proofs.lemmas.List.Elements.{All-head, All-tail, All-push, All-weaker}
use Rattle.std.proofs.lemmas.List.Sums.{count_by_more_no, count_by_more_yes}
use Rattle.mmtel_types.specs.declared.numbers.Account.{Account}
use Rattle.mmtel_sheet_grammar.specs.Texts.{old_sheet}
use Rattle.mmtel_sheet_values.specs.declared.values.Sheet.{Sheet}
use Rattle.mmtel_sheet_texts.specs.Texts.{set_text}
use Rattle.mmtel_keeper.specs.Memory.{set_all, AreReplacements, AreInRange}
use Rattle.mmtel_keeper.specs.Migration.{AreMigrated, IsMigrated, first_version_count, is_first_version}

abbrev Sheets : Type 0
Sheets = List (Account × List ℕ)

-- the sheets before the index are replaced, the others are as they were
abbrev pub GivenWay : ℕ → Sheets → Sheets → Type 0
GivenWay k [] [] = Unit {0}
GivenWay k [] (y ∷ ys) = ⊥
GivenWay k (x ∷ xs) [] = ⊥
GivenWay zero (x ∷ xs) (y ∷ ys) = (y ≡ x) × GivenWay zero xs ys
GivenWay (suc k) (x ∷ xs) (y ∷ ys) = (y.0 ≡ x.0) × IsMigrated x.1 y.1 × GivenWay k xs ys

-- the texts found so far, each with its index
pub record AreFound (k : ℕ) (sheets : Sheets) (found : List (ℕ × List ℕ)) : Type 0 where
  pub given : GivenWay k sheets (set_all found sheets)
  pub many : length found ≡ count_by is_first_version (take k sheets)
  pub within : AreInRange k found

none_given : (sheets : Sheets) → GivenWay zero sheets sheets
none_given [] = tt
none_given (x ∷ xs) = (refl, none_given xs)

all_given : (before after : Sheets) → GivenWay (length before) before after → AreMigrated before after
all_given [] [] given = tt
all_given [] (y ∷ ys) given = given
all_given (x ∷ xs) [] given = given
all_given (x ∷ xs) (y ∷ ys) given = (given.0, given.1, all_given xs ys given.2)

stays : (x y : Account × List ℕ) → y ≡ x → old_sheet x.1 ≡ None → IsMigrated x.1 y.1
stays x y same none = rw none (ap (λ (z : Account × List ℕ). z.1) same)

-- the sheet at the index is no record of the first version
kept : (k : ℕ) (before after : Sheets) (d : Account × List ℕ) → k < length before → old_sheet (get_or before k d).1 ≡ None → GivenWay k before after → GivenWay (suc k) before after
kept k [] after d within none given = absurd (omega arith)
kept zero (x ∷ xs) [] d within none given = given
kept zero (x ∷ xs) (y ∷ ys) d within none given = (ap (λ (z : Account × List ℕ). z.0) given.0, stays x y given.0 none, given.1)
kept (suc k) (x ∷ xs) [] d within none given = given
kept (suc k) (x ∷ xs) (y ∷ ys) d within none given = (given.0, given.1, kept k xs ys d (omega arith) none given.2)

-- a text is put over the sheet at the index
put_over : (k : ℕ) (before after : Sheets) (d : Account × List ℕ) (text : List ℕ)
    → k < length before → IsMigrated (get_or before k d).1 text → GivenWay k before after → GivenWay (suc k) before (set_text after k text)
put_over k [] after d text within is given = absurd (omega arith)
put_over zero (x ∷ xs) [] d text within is given = given
put_over zero (x ∷ xs) (y ∷ ys) d text within is given = (ap (λ (z : Account × List ℕ). z.0) given.0, is, given.1)
put_over (suc k) (x ∷ xs) [] d text within is given = given
put_over (suc k) (x ∷ xs) (y ∷ ys) d text within is given = (given.0, given.1, put_over k xs ys d text (omega arith) is given.2)

pub length-set_text : (sheets : Sheets) (k : ℕ) (text : List ℕ) → length (set_text sheets k text) ≡ length sheets
length-set_text [] k text = refl
length-set_text (x ∷ xs) zero text = refl
length-set_text (x ∷ xs) (suc k) text = ap (λ (n : ℕ). suc n) (length-set_text xs k text)

apart : (sheets : Sheets) (i k : ℕ) (first second : List ℕ) → i < k → set_text (set_text sheets k second) i first ≡ set_text (set_text sheets i first) k second
apart [] i k first second lt = refl
apart (x ∷ xs) i zero first second lt = absurd (omega arith)
apart (x ∷ xs) zero (suc k) first second lt = refl
apart (x ∷ xs) (suc i) (suc k) first second lt = ap (λ (l : Sheets). x ∷ l) (apart xs i k first second (omega arith))

-- the last of the texts is put first
pub put_last : (found : List (ℕ × List ℕ)) (k : ℕ) (text : List ℕ) (sheets : Sheets) → set_all (found ++ (k, text) ∷ []) sheets ≡ set_all found (set_text sheets k text)
put_last [] k text sheets = refl
put_last (new ∷ found) k text sheets = ap (λ (l : Sheets). set_text l new.0 new.1) (put_last found k text sheets)

put_behind : (found : List (ℕ × List ℕ)) (k : ℕ) (text : List ℕ) (sheets : Sheets)
    → AreInRange k found → set_all found (set_text sheets k text) ≡ set_text (set_all found sheets) k text
put_behind [] k text sheets within = refl
put_behind (new ∷ found) k text sheets within =
    ap (λ (l : Sheets). set_text l new.0 new.1) (put_behind found k text sheets (All-tail (λ (n : ℕ × List ℕ). n.0 < k) new found within))
    ∙ apart (set_all found sheets) new.0 k new.1 text (All-head (λ (n : ℕ × List ℕ). n.0 < k) new found within)

further : (k : ℕ) (found : List (ℕ × List ℕ)) → AreInRange k found → AreInRange (k + 1) found
further k found within = All-weaker (λ (n : ℕ × List ℕ). n.0 < k) (λ (n : ℕ × List ℕ). n.0 < k + 1) (λ n lt. omega arith) found within

pub begun : (sheets : Sheets) → AreFound 0 sheets []
begun sheets = record { given = none_given sheets; many = refl; within = search rules }

pub ended : (sheets : Sheets) (found : List (ℕ × List ℕ)) → AreFound (length sheets) sheets found → AreReplacements sheets found
ended sheets found are = record {
  migrated = all_given sheets (set_all found sheets) are.given;
  many = are.many ∙ ap (λ (l : Sheets). first_version_count l) (take_all (length sheets) sheets (omega arith));
  within = are.within;
}

not_old : (text : List ℕ) → is_some (old_sheet text) ≡ false → old_sheet text ≡ None
not_old text none = go (old_sheet text) none
  where
    go : (o : Option Sheet) → is_some o ≡ false → o ≡ None
    go None none = refl
    go (Some s) none = absurd cc

next : (k : ℕ) → suc k ≡ k + 1
next k = omega arith

-- no record of the first version at the index
pub passed : (sheets : Sheets) (found : List (ℕ × List ℕ)) (k : ℕ) (x : Account × List ℕ)
    → k < length sheets → x ≡ get_or sheets k x → is_some (old_sheet x.1) ≡ false → AreFound k sheets found → AreFound (k + 1) sheets found
passed sheets found k x within at none are =
    let there : is_some (old_sheet (get_or sheets k x).1) ≡ false = ap (λ (z : Account × List ℕ). is_some (old_sheet z.1)) (sym at) ∙ none in
    record {
      given = subst (λ (n : ℕ). GivenWay n sheets (set_all found sheets)) (next k) (kept k sheets (set_all found sheets) x within (not_old (get_or sheets k x).1 there) are.given);
      many = are.many ∙ sym (count_by_more_no is_first_version sheets k x within there);
      within = further k found are.within;
    }

-- one, and the text that replaces it
pub added : (sheets : Sheets) (found : List (ℕ × List ℕ)) (k : ℕ) (x : Account × List ℕ) (text : List ℕ)
    → k < length sheets → x ≡ get_or sheets k x → is_some (old_sheet x.1) ≡ true → IsMigrated x.1 text → AreFound k sheets found → AreFound (k + 1) sheets (found ++ (k, text) ∷ [])
added sheets found k x text within at some is are =
    let there : is_some (old_sheet (get_or sheets k x).1) ≡ true = ap (λ (z : Account × List ℕ). is_some (old_sheet z.1)) (sym at) ∙ some in
    let is_there : IsMigrated (get_or sheets k x).1 text = subst (λ (z : Account × List ℕ). IsMigrated z.1 text) at is in
    let put : GivenWay (k + 1) sheets (set_text (set_all found sheets) k text) =
    subst (λ (n : ℕ). GivenWay n sheets (set_text (set_all found sheets) k text)) (next k) (put_over k sheets (set_all found sheets) x text within is_there are.given) in
    record {
      given = subst (λ (l : Sheets). GivenWay (k + 1) sheets l) (sym (put_last found k text sheets ∙ put_behind found k text sheets are.within)) put;
      many = omega (arith, length-append found ((k, text) ∷ []), are.many, count_by_more_yes is_first_version sheets k x within there);
      within = All-push (λ (n : ℕ × List ℕ). n.0 < k + 1) found (k, text) (further k found are.within) (omega arith);
    }
