-- Sheets of which those before an index are replaced, and the records that are put over them.
use Rattle.std.proofs.Common.{◌≡◌, ◌≢◌, ◌∙◌, ℕ, zero, suc, ◌+◌, ◌<◌, List, [], ◌∷◌, ◌++◌, length, get_or, take, ◌==◌, Option, Some, None, true, false, inl, inr, refl, sym, ap}
use Rattle.std.proofs.Common.{subst, arith, rules}
use Rattle.std.specs.Prelude.{count_by, is_some}
use Rattle.std.proofs.lemmas.List.{length-append, take_all}
use Rattle.std.proofs.lemmas.List.Elements.{All-head, All-tail, All-push, All-weaker}
use Rattle.std.proofs.lemmas.List.Sums.{count_by_more_no, count_by_more_yes}
use Rattle.std.proofs.lemmas.Bool.{cases_eq, eq-eqb, ne_eqb}
use Rattle.mmtel_types.specs.declared.numbers.Account.{Account}
use Rattle.mmtel_sheet_grammar.specs.Texts.{old_sheet}
use Rattle.mmtel_sheet_values.specs.declared.values.Sheet.{Sheet}
use Rattle.mmtel_sheet_texts.specs.Texts.{put, set_text}
use Rattle.mmtel_keeper.specs.Migration.{AreMigrated, IsMigrated, first_version_count, is_first_version}
use Rattle.mmtel_journal.specs.Migrating.{set_all, sheets_in, AreReplacements, AreInRange}
use Rattle.mmtel_journal.specs.Payloads.{put_sheets, NoneOf, EachOnce}

abbrev Sheet_ : Type 0
Sheet_ = Account × List ℕ

abbrev Sheets : Type 0
Sheets = List (Account × List ℕ)

abbrev New : Type 0
New = ℕ × (Account × List ℕ)

-- the sheets before the index are replaced, the others are as they were
abbrev pub GivenWay : ℕ → Sheets → Sheets → Type 0
GivenWay k [] [] = Unit {0}
GivenWay k [] (y ∷ ys) = ⊥
GivenWay k (x ∷ xs) [] = ⊥
GivenWay zero (x ∷ xs) (y ∷ ys) = (y ≡ x) × GivenWay zero xs ys
GivenWay (suc k) (x ∷ xs) (y ∷ ys) = (y.0 ≡ x.0) × IsMigrated x.1 y.1 × GivenWay k xs ys

-- the records found so far, each with its index
pub record AreFound (k : ℕ) (sheets : Sheets) (found : List New) : Type 0 where
  pub given : GivenWay k sheets (set_all found sheets)
  pub many : length found ≡ count_by is_first_version (take k sheets)
  pub within : AreInRange k found
  pub puts : EachOnce sheets → put_sheets (sheets_in found) sheets ≡ set_all found sheets

none_given : (sheets : Sheets) → GivenWay zero sheets sheets
none_given [] = tt
none_given (x ∷ xs) = (refl, none_given xs)

all_given : (before after : Sheets) → GivenWay (length before) before after → AreMigrated before after
all_given [] [] given = tt
all_given [] (y ∷ ys) given = given
all_given (x ∷ xs) [] given = given
all_given (x ∷ xs) (y ∷ ys) given = (given.0, given.1, all_given xs ys given.2)

stays : (x y : Sheet_) → y ≡ x → old_sheet x.1 ≡ None → IsMigrated x.1 y.1
stays x y same none = rw none (ap (λ (z : Sheet_). z.1) same)

-- the sheet at the index is no record of the first version
kept : (k : ℕ) (before after : Sheets) (d : Sheet_) → k < length before → old_sheet (get_or before k d).1 ≡ None → GivenWay k before after → GivenWay (suc k) before after
kept k [] after d within none given = absurd (omega arith)
kept zero (x ∷ xs) [] d within none given = given
kept zero (x ∷ xs) (y ∷ ys) d within none given = (ap (λ (z : Sheet_). z.0) given.0, stays x y given.0 none, given.1)
kept (suc k) (x ∷ xs) [] d within none given = given
kept (suc k) (x ∷ xs) (y ∷ ys) d within none given = (given.0, given.1, kept k xs ys d (omega arith) none given.2)

-- a record is put over the sheet at the index
put_over : (k : ℕ) (before after : Sheets) (d : Sheet_) (text : List ℕ)
    → k < length before → IsMigrated (get_or before k d).1 text → GivenWay k before after → GivenWay (suc k) before (set_text after k text)
put_over k [] after d text within is given = absurd (omega arith)
put_over zero (x ∷ xs) [] d text within is given = given
put_over zero (x ∷ xs) (y ∷ ys) d text within is given = (ap (λ (z : Sheet_). z.0) given.0, is, given.1)
put_over (suc k) (x ∷ xs) [] d text within is given = given
put_over (suc k) (x ∷ xs) (y ∷ ys) d text within is given = (given.0, given.1, put_over k xs ys d text (omega arith) is given.2)

pub length-set_text : (sheets : Sheets) (k : ℕ) (text : List ℕ) → length (set_text sheets k text) ≡ length sheets
length-set_text [] k text = refl
length-set_text (x ∷ xs) zero text = refl
length-set_text (x ∷ xs) (suc k) text = ap (λ (n : ℕ). suc n) (length-set_text xs k text)

apart : (sheets : Sheets) (i k : ℕ) (first second : List ℕ) → i < k → set_text (set_text sheets k second) i first ≡ set_text (set_text sheets i first) k second
apart [] i k first second lt = refl
apart (x ∷ xs) i zero first second lt = absurd (omega arith)
apart (x ∷ xs) zero (suc k) first second lt = refl
apart (x ∷ xs) (suc i) (suc k) first second lt = ap (λ (l : Sheets). x ∷ l) (apart xs i k first second (omega arith))

-- the last of the records is put first
pub put_last : (found : List New) (new : New) (sheets : Sheets) → set_all (found ++ new ∷ []) sheets ≡ set_all found (set_text sheets new.0 new.1.1)
put_last [] new sheets = refl
put_last (first ∷ found) new sheets = ap (λ (l : Sheets). set_text l first.0 first.1.1) (put_last found new sheets)

put_behind : (found : List New) (k : ℕ) (text : List ℕ) (sheets : Sheets)
    → AreInRange k found → set_all found (set_text sheets k text) ≡ set_text (set_all found sheets) k text
put_behind [] k text sheets within = refl
put_behind (new ∷ found) k text sheets within =
    ap (λ (l : Sheets). set_text l new.0 new.1.1) (put_behind found k text sheets (All-tail (λ (n : New). n.0 < k) new found within))
    ∙ apart (set_all found sheets) new.0 k new.1.1 text (All-head (λ (n : New). n.0 < k) new found within)

further : (k : ℕ) (found : List New) → AreInRange k found → AreInRange (k + 1) found
further k found within = All-weaker (λ (n : New). n.0 < k) (λ (n : New). n.0 < k + 1) (λ n lt. omega arith) found within

-- ---- by account, instead of by index

-- the accounts of sheets, each once, are the same whatever text is set
others_set : (xs : Sheets) (a : ℕ) (k : ℕ) (text : List ℕ) → NoneOf a xs → NoneOf a (set_text xs k text)
others_set [] a k text all = all
others_set (x ∷ xs) a zero text all = (all.0, all.1)
others_set (x ∷ xs) a (suc k) text all = (all.0, others_set xs a k text all.1)

once_set : (xs : Sheets) (k : ℕ) (text : List ℕ) → EachOnce xs → EachOnce (set_text xs k text)
once_set [] k text once = once
once_set (x ∷ xs) zero text once = once
once_set (x ∷ xs) (suc k) text once = (others_set xs x.0.0 k text once.0, once_set xs k text once.1)

once_all : (found : List New) (xs : Sheets) → EachOnce xs → EachOnce (set_all found xs)
once_all [] xs once = once
once_all (new ∷ found) xs once = once_set (set_all found xs) new.0 new.1.1 (once_all found xs once)

account_of : (k : ℕ) (before after : Sheets) (d : Sheet_) → k < length before → GivenWay k before after → (get_or after k d).0 ≡ (get_or before k d).0
account_of k [] after d within given = absurd (omega arith)
account_of zero (x ∷ xs) [] d within given = absurd given
account_of zero (x ∷ xs) (y ∷ ys) d within given = ap (λ (z : Sheet_). z.0) given.0
account_of (suc k) (x ∷ xs) [] d within given = absurd given
account_of (suc k) (x ∷ xs) (y ∷ ys) d within given = account_of k xs ys d (omega arith) given.2

length_given : (k : ℕ) (before after : Sheets) → GivenWay k before after → length after ≡ length before
length_given k [] [] given = refl
length_given k [] (y ∷ ys) given = absurd given
length_given k (x ∷ xs) [] given = absurd given
length_given zero (x ∷ xs) (y ∷ ys) given = ap (λ (n : ℕ). suc n) (length_given zero xs ys given.1)
length_given (suc k) (x ∷ xs) (y ∷ ys) given = ap (λ (n : ℕ). suc n) (length_given k xs ys given.2)

account_behind : (xs : Sheets) (k : ℕ) (a : Account) (d : Sheet_) (b : ℕ) → k < length xs → (get_or xs k d).0 ≡ a → NoneOf b xs → b ≢ a.0
account_behind [] k a d b within is all = absurd (omega arith)
account_behind (x ∷ xs) zero a d b within is all = λ e. all.0 (ap (λ (z : Account). z.0) is ∙ sym e)
account_behind (x ∷ xs) (suc k) a d b within is all = account_behind xs k a d b (omega arith) is all.1

-- where each account occurs once, a sheet is put at the index of its account
put_is_set : (xs : Sheets) (k : ℕ) (a : Account) (text : List ℕ) (d : Sheet_) → k < length xs → (get_or xs k d).0 ≡ a → EachOnce xs → put a text xs ≡ set_text xs k text
put_is_set [] k a text d within is once = absurd (omega arith)
put_is_set (x ∷ xs) zero a text d within is once = rw (is, eq-eqb a.0 a.0 refl) refl
put_is_set (x ∷ xs) (suc k) a text d within is once =
    rw (ne_eqb x.0.0 a.0 (account_behind xs k a d x.0.0 (omega arith) is once.0)) (ap (λ (l : Sheets). x ∷ l) (put_is_set xs k a text d (omega arith) is once.1))

sheets_push : (found : List New) (new : New) (xs : Sheets) → put_sheets (sheets_in (found ++ new ∷ [])) xs ≡ put new.1.0 new.1.1 (put_sheets (sheets_in found) xs)
sheets_push [] new xs = refl
sheets_push (first ∷ found) new xs = sheets_push found new (put first.1.0 first.1.1 xs)

-- ---- the loop

pub begun : (sheets : Sheets) → AreFound 0 sheets []
begun sheets = record { given = none_given sheets; many = refl; within = search rules; puts = λ once. refl }

pub ended : (sheets : Sheets) (found : List New) → AreFound (length sheets) sheets found → AreReplacements sheets found
ended sheets found are = record {
  migrated = all_given sheets (set_all found sheets) are.given;
  many = are.many ∙ ap (λ (l : Sheets). first_version_count l) (take_all (length sheets) sheets (omega arith));
  within = are.within;
  puts = are.puts;
}

not_old : (text : List ℕ) → is_some (old_sheet text) ≡ false → old_sheet text ≡ None
not_old text none = go (old_sheet text) none
  where
    go : (o : Option Sheet) → is_some o ≡ false → o ≡ None
    go None none = refl
    go (Some s) none = absurd cc

next : (k : ℕ) → suc k ≡ k + 1
next k = omega arith

-- no record of the first version at the index
pub passed : (sheets : Sheets) (found : List New) (k : ℕ) (x : Sheet_)
    → k < length sheets → x ≡ get_or sheets k x → is_some (old_sheet x.1) ≡ false → AreFound k sheets found → AreFound (k + 1) sheets found
passed sheets found k x within at none are =
    let there : is_some (old_sheet (get_or sheets k x).1) ≡ false = ap (λ (z : Sheet_). is_some (old_sheet z.1)) (sym at) ∙ none in
    record {
      given = subst (λ (n : ℕ). GivenWay n sheets (set_all found sheets)) (next k)
          (kept k sheets (set_all found sheets) x within (not_old (get_or sheets k x).1 there) are.given);
      many = are.many ∙ sym (count_by_more_no is_first_version sheets k x within there);
      within = further k found are.within;
      puts = are.puts;
    }

-- one, and the record that replaces it
pub added : (sheets : Sheets) (found : List New) (k : ℕ) (x : Sheet_) (text : List ℕ)
    → k < length sheets → x ≡ get_or sheets k x → is_some (old_sheet x.1) ≡ true → IsMigrated x.1 text → AreFound k sheets found
    → AreFound (k + 1) sheets (found ++ (k, (x.0, text)) ∷ [])
added sheets found k x text within at some is are =
    let new : New = (k, (x.0, text)) in
    let there : is_some (old_sheet (get_or sheets k x).1) ≡ true = ap (λ (z : Sheet_). is_some (old_sheet z.1)) (sym at) ∙ some in
    let is_there : IsMigrated (get_or sheets k x).1 text = subst (λ (z : Sheet_). IsMigrated z.1 text) at is in
    let put_there : GivenWay (k + 1) sheets (set_text (set_all found sheets) k text) =
    subst (λ (n : ℕ). GivenWay n sheets (set_text (set_all found sheets) k text)) (next k) (put_over k sheets (set_all found sheets) x text within is_there are.given) in
    let whole : set_all (found ++ new ∷ []) sheets ≡ set_text (set_all found sheets) k text = put_last found new sheets ∙ put_behind found k text sheets are.within in
    let its : (get_or (set_all found sheets) k x).0 ≡ x.0 = account_of k sheets (set_all found sheets) x within are.given ∙ ap (λ (z : Sheet_). z.0) (sym at) in
    let long : k < length (set_all found sheets) = omega (arith, within, length_given k sheets (set_all found sheets) are.given) in
    record {
      given = subst (λ (l : Sheets). GivenWay (k + 1) sheets l) (sym whole) put_there;
      many = omega (arith, length-append found (new ∷ []), are.many, count_by_more_yes is_first_version sheets k x within there);
      within = All-push (λ (n : New). n.0 < k + 1) found new (further k found are.within) (omega arith);
      puts = λ once. sheets_push found new sheets ∙ ap (put x.0 text) (are.puts once)
          ∙ put_is_set (set_all found sheets) k x.0 text x long its (once_all found sheets once) ∙ sym whole;
    }

-- sheets that are put keep each account once
others_put : (xs : Sheets) (a : Account) (text : List ℕ) (b : ℕ) → b ≢ a.0 → NoneOf b xs → NoneOf b (put a text xs)
others_put [] a text b apart all = (λ e. apart (sym e), tt)
others_put (x ∷ xs) a text b apart all = elim (cases_eq x.0.0 a.0) [
  | inl same ↦ rw (ap (λ (n : ℕ). n == a.0) same ∙ eq-eqb a.0 a.0 refl) (λ e. apart (sym e), all.1)
  | inr other ↦ rw (ne_eqb x.0.0 a.0 other) (all.0, others_put xs a text b apart all.1)
]

pub once_put : (xs : Sheets) (a : Account) (text : List ℕ) → EachOnce xs → EachOnce (put a text xs)
once_put [] a text once = (tt, tt)
once_put (x ∷ xs) a text once = elim (cases_eq x.0.0 a.0) [
  | inl same ↦ rw (ap (λ (n : ℕ). n == a.0) same ∙ eq-eqb a.0 a.0 refl) (subst (λ (n : ℕ). NoneOf n xs) same once.0, once.1)
  | inr other ↦ rw (ne_eqb x.0.0 a.0 other) (others_put xs a text x.0.0 other once.0, once_put xs a text once.1)
]

pub once_puts : (news xs : Sheets) → EachOnce xs → EachOnce (put_sheets news xs)
once_puts [] xs once = once
once_puts (new ∷ news) xs once = once_puts news (put new.0 new.1 xs) (once_put xs new.0 new.1 once)
