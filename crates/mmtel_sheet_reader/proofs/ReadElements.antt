-- What is read at a key can be printed.
use Rattle.std.proofs.Common.{◌≡◌, ℕ, ℤ, ◌+◌, ◌*◌, ◌==◌, ◌≤◌, Bool, true, false, cond, ◌&&◌, nat_le, ◌∙◌, List, [], ◌∷◌, ◌++◌, length, Option, Some, None, Ok, Err, Result, IsUtf8, refl, arith}
use Rattle.std.proofs.lemmas.Bool.Decides.{nat_tests}
use Rattle.std.proofs.lemmas.Bool.{and_parts}
use Rattle.std.proofs.lemmas.List.{length-set}
use Rattle.std.specs.Prelude.{IfOk, IfSome, slice_index_or, slice_set}
use Rattle.std.specs.List.{AllByRecursion}
use Rattle.toml.specs.Data.{Data, string, integer, float, boolean, datetime, array, table, Items, no_items, item}
use Rattle.mmtel_lex.specs.Reading.{uri_of, Refusal}
use Rattle.mmtel_lex.specs.declared.values.Uri.{Uri}
use Rattle.mmtel_sheet_grammar.specs.ReadResults.{Read, or_wrong}
use Rattle.mmtel_sheet_grammar.specs.Elements.{uri_read, uri_at, is_target, target_or_wrong, target_at, is_domain, domain_at, is_token_text, token_at, time_at, items_from, uris_at, tokens_at}
use Rattle.mmtel_sheet_grammar.specs.Elements.{day_of, no_days, with_day, day_read, days_from, has_day, days_or_wrong, days_at, minutes_by, clock_of, clock_at, is_offset, offset_at, text_at}
use Rattle.mmtel_sheet_grammar.specs.Moments.{moment_of_text}
use Rattle.mmtel_sheet_grammar.specs.declared.faults.SheetFault.TheVariants.{Wrong}
use Rattle.mmtel_sheet_grammar.specs.Printable.{IsUriOfText, IsTarget, IsMoment}
use Rattle.mmtel_sheet_grammar.specs.Sound.{IsSound, IsSoundArray}
use Rattle.mmtel_sheet_reader.proofs.ReadValues.{then_all, then_any, where_ok, or_all}
use Rattle.mmtel_sheet_reader.proofs.ReadMoments.{moment_printable}
use Rattle.mmtel_sheet_reader.proofs.UriTexts.{uri_printable, target_printable}

uri_of_text : (s : List ℕ) (r : Result Uri Refusal) → uri_of s ≡ r → IfSome (uri_read r) (λ u. uri_of s ≡ Ok u)
uri_of_text s (Ok u) e = e
uri_of_text s (Err f) e = tt

uri_some : (s : List ℕ) (r : Result Uri Refusal) → uri_of s ≡ r → IsUtf8 s → IfSome (uri_read r) IsUriOfText
uri_some s (Ok u) e text = uri_printable s u e
uri_some s (Err f) e text = tt

pub uri_ok : (at : List ℕ) (d : Data) → IsSound d → IfOk (uri_at at d) IsUriOfText
uri_ok at (string s) text = or_all at (uri_read (uri_of s)) IsUriOfText (uri_some s (uri_of s) refl text)
uri_ok at (integer z) text = tt
uri_ok at (float x) text = tt
uri_ok at (boolean b) text = tt
uri_ok at (datetime dt) text = tt
uri_ok at (array ds) text = tt
uri_ok at (table ms) text = tt

target_some : (at s : List ℕ) (u : Uri) → IsUtf8 s → uri_of s ≡ Ok u → IfOk (target_or_wrong at s u) IsTarget
target_some at s u text read = where_ok (is_target u && nat_le (length s) 256) (Ok u) (Wrong at) IsTarget (λ e.
    let both = and_parts (is_target u) (nat_le (length s) 256) e in
    let test = both.1 in
    let short : length s ≤ 256 = grind (arith, nat_tests) in
    target_printable s u read both.0 short)

pub target_ok : (at : List ℕ) (d : Data) → IsSound d → IfOk (target_at at d) IsTarget
target_ok at (string s) text = then_all _ (λ u. target_or_wrong at s u) (λ u. uri_of s ≡ Ok u) IsTarget (or_all at (uri_read (uri_of s)) (λ u. uri_of s ≡ Ok u) (uri_of_text s (uri_of s) refl))
    (λ u read. target_some at s u text read)
target_ok at (integer z) text = tt
target_ok at (float x) text = tt
target_ok at (boolean b) text = tt
target_ok at (datetime dt) text = tt
target_ok at (array ds) text = tt
target_ok at (table ms) text = tt

pub domain_ok : (at : List ℕ) (d : Data) → IfOk (domain_at at d) (λ s. is_domain s ≡ true)
domain_ok at (string s) = where_ok (is_domain s) (Ok s) (Wrong at) (λ x. is_domain x ≡ true) (λ e. e)
domain_ok at (integer z) = tt
domain_ok at (float x) = tt
domain_ok at (boolean b) = tt
domain_ok at (datetime dt) = tt
domain_ok at (array ds) = tt
domain_ok at (table ms) = tt

token_ok : (at : List ℕ) (d : Data) → IfOk (token_at at d) (λ s. is_token_text s ≡ true)
token_ok at (string s) = where_ok (is_token_text s) (Ok s) (Wrong at) (λ x. is_token_text x ≡ true) (λ e. e)
token_ok at (integer z) = tt
token_ok at (float x) = tt
token_ok at (boolean b) = tt
token_ok at (datetime dt) = tt
token_ok at (array ds) = tt
token_ok at (table ms) = tt

moment_some : (s : List ℕ) (o : Option ℤ) → moment_of_text s ≡ o → IfSome o IsMoment
moment_some s None e = tt
moment_some s (Some m) e = moment_printable s m e

pub time_ok : (at : List ℕ) (d : Data) → IfOk (time_at at d) IsMoment
time_ok at (string s) = or_all at (moment_of_text s) IsMoment (moment_some s (moment_of_text s) refl)
time_ok at (integer z) = tt
time_ok at (float x) = tt
time_ok at (boolean b) = tt
time_ok at (datetime dt) = tt
time_ok at (array ds) = tt
time_ok at (table ms) = tt

module _ {A : Type 0} where
  pub all_last : (P : A → Type 0) (xs : List A) (x : A) → AllByRecursion P xs → P x → AllByRecursion P (xs ++ x ∷ [])
  all_last P [] x all p = (p, tt)
  all_last P (y ∷ xs) x all p = (all.0, all_last P xs x all.1 p)

  items_ok : (read : Data → Read A) (P : A → Type 0) → ((d : Data) → IsSound d → IfOk (read d) P) → (done : List A) (ds : Items) → AllByRecursion P done → IsSoundArray ds →
      IfOk (items_from read done ds) (AllByRecursion P)
  items_ok read P each done no_items all texts = all
  items_ok read P each done (item d ds) all texts =
      then_all (read d) (λ a. items_from read (done ++ a ∷ []) ds) P (AllByRecursion P) (each d texts.0) (λ a p. items_ok read P each (done ++ a ∷ []) ds (all_last P done a all p) texts.1)

pub uris_ok : (at : List ℕ) (d : Data) → IsSound d → IfOk (uris_at at d) (AllByRecursion IsUriOfText)
uris_ok at (string s) text = tt
uris_ok at (integer z) text = tt
uris_ok at (float x) text = tt
uris_ok at (boolean b) text = tt
uris_ok at (datetime dt) text = tt
uris_ok at (array ds) text = items_ok (uri_at at) IsUriOfText (uri_ok at) [] ds tt text
uris_ok at (table ms) text = tt

pub tokens_ok : (at : List ℕ) (d : Data) → IsSound d → IfOk (tokens_at at d) (AllByRecursion (λ t. is_token_text t ≡ true))
tokens_ok at (string s) text = tt
tokens_ok at (integer z) text = tt
tokens_ok at (float x) text = tt
tokens_ok at (boolean b) text = tt
tokens_ok at (datetime dt) text = tt
tokens_ok at (array ds) text = items_ok (token_at at) (λ t. is_token_text t ≡ true) (λ v t. token_ok at v) [] ds tt text
tokens_ok at (table ms) text = tt

-- ---- hours of the week

-- which days of the week are present, and that one is
pub record IsDays (days : List Bool) : Type 0 where
  pub whole : length days ≡ 7
  pub some : has_day days ≡ true

set_whole : (b : Bool) (days : List Bool) (n : ℕ) → length days ≡ 7 → IfSome (cond b None (Some (slice_set days n true))) (λ more. length more ≡ 7)
set_whole true days n whole = tt
set_whole false days n whole = length-set days n true ∙ whole

day_whole : (at : List ℕ) (days : List Bool) (d : Data) → length days ≡ 7 → IfOk (day_read at days d) (λ more. length more ≡ 7)
day_whole at days d whole =
    then_any (text_at at d) _ (λ more. length more ≡ 7) (λ s.
    then_any (or_wrong at (day_of s)) _ (λ more. length more ≡ 7) (λ n.
    or_all at (with_day days n) (λ more. length more ≡ 7) (set_whole (slice_index_or days n false) days n whole)))

days_whole : (at : List ℕ) (days : List Bool) (ds : Items) → length days ≡ 7 → IfOk (days_from at days ds) (λ more. length more ≡ 7)
days_whole at days no_items whole = whole
days_whole at days (item d ds) whole =
    then_all (day_read at days d) (λ more. days_from at more ds) (λ more. length more ≡ 7) (λ more. length more ≡ 7) (day_whole at days d whole) (λ more w. days_whole at more ds w)

pub days_ok : (at : List ℕ) (d : Data) → IfOk (days_at at d) IsDays
days_ok at (string s) = tt
days_ok at (integer z) = tt
days_ok at (float x) = tt
days_ok at (boolean b) = tt
days_ok at (datetime dt) = tt
days_ok at (array ds) =
    then_all (days_from at no_days ds) (λ days. days_or_wrong at days) (λ more. length more ≡ 7) IsDays (days_whole at no_days ds refl)
    (λ days whole. where_ok (has_day days) (Ok days) (Wrong at) IsDays (λ some. record { whole = whole; some = some }))
days_ok at (table ms) = tt

within_some : (most n : ℕ) (b : Bool) → nat_le n most ≡ b → IfSome (cond b (Some n) None) (λ m. m ≤ most)
within_some most n true e = grind (arith, nat_tests)
within_some most n false e = tt

minutes_some : (most : ℕ) (hours minutes : Option ℕ) → IfSome (minutes_by most hours minutes) (λ n. n ≤ most)
minutes_some most None minutes = tt
minutes_some most (Some hours) None = tt
minutes_some most (Some hours) (Some minutes) = within_some most (hours * 60 + minutes) (nat_le (hours * 60 + minutes) most) refl

where_some : (most : ℕ) (b : Bool) (o : Option ℕ) → IfSome o (λ n. n ≤ most) → IfSome (cond b o None) (λ n. n ≤ most)
where_some most true o is = is
where_some most false o is = tt

clock_some : (most : ℕ) (s : List ℕ) → IfSome (clock_of most s) (λ n. n ≤ most)
clock_some most [] = tt
clock_some most (a ∷ []) = tt
clock_some most (a ∷ b ∷ []) = tt
clock_some most (a ∷ b ∷ colon ∷ []) = tt
clock_some most (a ∷ b ∷ colon ∷ c ∷ []) = tt
clock_some most (a ∷ b ∷ colon ∷ c ∷ d ∷ []) = where_some most (colon == 58) _ (minutes_some most _ _)
clock_some most (a ∷ b ∷ colon ∷ c ∷ d ∷ e ∷ s) = tt

pub clock_ok : (most : ℕ) (at : List ℕ) (d : Data) → IfOk (clock_at most at d) (λ n. n ≤ most)
clock_ok most at (string s) = or_all at (clock_of most s) (λ n. n ≤ most) (clock_some most s)
clock_ok most at (integer z) = tt
clock_ok most at (float x) = tt
clock_ok most at (boolean b) = tt
clock_ok most at (datetime dt) = tt
clock_ok most at (array ds) = tt
clock_ok most at (table ms) = tt

pub offset_ok : (at : List ℕ) (d : Data) → IfOk (offset_at at d) (λ z. is_offset z ≡ true)
offset_ok at (string s) = tt
offset_ok at (integer z) = where_ok (is_offset z) (Ok z) (Wrong at) (λ x. is_offset x ≡ true) (λ e. e)
offset_ok at (float x) = tt
offset_ok at (boolean b) = tt
offset_ok at (datetime dt) = tt
offset_ok at (array ds) = tt
offset_ok at (table ms) = tt
