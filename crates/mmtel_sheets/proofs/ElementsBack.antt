-- What is printed at a key reads back.
use Rattle.std.proofs.Common.{◌≡◌, ℕ, ℤ, pos, ◌+◌, ◌*◌, ◌/◌, ◌%◌, ◌<◌, ◌≤◌, Bool, true, false, ◌&&◌, nat_le, nat_lt, suc, refl, Some, Err, List, [], ◌∷◌, ◌++◌, length, Ok, sym, ap, ◌∙◌, append_assoc, append-nil, arith}
use Rattle.std.proofs.lemmas.Bool.Decides.{nat_tests}
use Rattle.std.specs.Char.{digit_value}
use Rattle.std.specs.List.{AllByRecursion}
use Rattle.std.specs.Prelude.{codes}
use Rattle.jiff_fmt.specs.Text.{pad2}
use Rattle.toml.specs.Data.{Data, string, integer, array, Items, no_items, item, push_item}
use Rattle.mmtel_base.specs.Classes.{in_class}
use Rattle.mmtel_base.specs.Numbers.{number_of, value_up_to}
use Rattle.mmtel_base.specs.declared.classes.Class.TheVariants.{Digit}
use Rattle.mmtel_lex.specs.Grammar.{uri_text}
use Rattle.mmtel_lex.specs.declared.values.Uri.{Uri}
use Rattle.mmtel_sheet_grammar.specs.ReadResults.{Read, then_read}
use Rattle.mmtel_sheet_grammar.specs.Elements.{number_at, uri_at, target_at, is_domain, domain_at, is_token_text, token_at, time_at, items_from, uris_at}
use Rattle.mmtel_sheet_grammar.specs.Elements.{tokens_at, day_of, no_days, day_read, days_from, has_day, days_at, clock_at, is_offset, offset_at}
use Rattle.mmtel_sheet_grammar.specs.Printable.{IsUriOfText, IsTarget, IsMoment}
use Rattle.mmtel_sheets.specs.Printing.{each_item, uri_data, uris_data, hour_text, with_word, day_words}
use Rattle.mmtel_sheets.specs.Times.{moment_text}
use Rattle.mmtel_sheets.proofs.DayWords.{to_monday, to_tuesday, to_wednesday, to_thursday, to_friday, to_saturday}
use Rattle.mmtel_sheets.proofs.ReadTimes.{moment_back}

pub uri_back : (at : List ℕ) (u : Uri) → IsUriOfText u → uri_at at (uri_data u) ≡ Ok u
uri_back at u is = rw is.reads_back

pub target_back : (at : List ℕ) (u : Uri) → IsTarget u → target_at at (uri_data u) ≡ Ok u
target_back at u is =
    let short : nat_le (length (uri_text u)) 256 ≡ true = grind (arith, nat_tests, is.short) in
    rw (is.uri.reads_back, is.kind, short)

pub token_back : (at t : List ℕ) → is_token_text t ≡ true → token_at at (string t) ≡ Ok t
token_back at t e = rw e

pub domain_back : (at s : List ℕ) → is_domain s ≡ true → domain_at at (string s) ≡ Ok s
domain_back at s e = rw e

pub time_back : (at : List ℕ) (m : ℤ) → IsMoment m → time_at at (string (moment_text m)) ≡ Ok m
time_back at m is = rw (moment_back m is)

pub number_back : (least most : ℕ) (at : List ℕ) (n : ℕ) → least ≤ n → n ≤ most → number_at least most at (integer (pos n)) ≡ Ok n
number_back least most at n low high =
    let inside : (nat_le least n && nat_le n most) ≡ true = grind (arith, nat_tests) in
    rw inside

module _ {A : Type 0} where
  pub items_back : (read : Data → Read A) (f : A → Data) (P : A → Type 0) → ((x : A) → P x → read (f x) ≡ Ok x) → (done xs : List A) → AllByRecursion P xs → items_from read done
      (each_item f xs) ≡ Ok (done ++ xs)
  items_back read f P back done [] all = ap Ok (sym (append-nil done))
  items_back read f P back done (x ∷ xs) all = rw (back x all.0) (items_back read f P back (done ++ x ∷ []) xs all.1 ∙ ap Ok (append_assoc done (x ∷ []) xs))

pub uris_back : (at : List ℕ) (us : List Uri) → AllByRecursion IsUriOfText us → uris_at at (uris_data us) ≡ Ok us
uris_back at us all = items_back (uri_at at) uri_data IsUriOfText (uri_back at) [] us all

pub tokens_back : (at : List ℕ) (ts : List (List ℕ)) → AllByRecursion (λ t. is_token_text t ≡ true) ts → tokens_at at (array (each_item string ts)) ≡ Ok ts
tokens_back at ts all = items_back (token_at at) string (λ t. is_token_text t ≡ true) (token_back at) [] ts all

-- ---- hours of the week

digit_class : (k : ℕ) → k < 10 → in_class Digit (48 + k) ≡ true
unfolding in_class
digit_class k h =
    let low : nat_le 48 (48 + k) ≡ true = grind (arith, nat_tests) in
    let high : nat_le (48 + k) 57 ≡ true = grind (arith, nat_tests) in
    rw (low, high) refl

digit_worth : (k : ℕ) → k < 10 → digit_value (48 + k) ≡ k
digit_worth k h = grind (arith, nat_tests)

-- two digits
two_back : (limit n : ℕ) → n ≤ limit → n < 100 → number_of limit (pad2 n) ≡ Some n
unfolding number_of value_up_to
two_back limit n h low =
    let tens = digit_class (n / 10) (omega arith) in
    let ones = digit_class (n % 10) (omega arith) in
    let first = digit_worth (n / 10) (omega arith) in
    let second = digit_worth (n % 10) (omega arith) in
    let value : (0 * 10 + n / 10) * 10 + n % 10 ≡ n = omega arith in
    let inside : nat_lt limit n ≡ false = grind (arith, nat_tests) in
    rw (tens, ones, first, second, value, inside) refl

pub clock_back : (most : ℕ) (at : List ℕ) (n : ℕ) → n ≤ most → most ≤ 1_440 → clock_at most at (string (hour_text n)) ≡ Ok n
clock_back most at n h low =
    let hours = two_back 24 (n / 60) (omega arith) (omega arith) in
    let minutes = two_back 59 (n % 60) (omega arith) (omega arith) in
    let whole : n / 60 * 60 + n % 60 ≡ n = omega arith in
    let inside : nat_le n most ≡ true = grind (arith, nat_tests) in
    rw (hours, minutes, whole, inside) refl

pub offset_back : (at : List ℕ) (z : ℤ) → is_offset z ≡ true → offset_at at (integer z) ≡ Ok z
offset_back at z e = rw e refl

module _ {A : Type 0} where
  then_nothing : (r : Read A) → then_read r (λ a. Ok a) ≡ r
  then_nothing (Ok a) = refl
  then_nothing (Err e) = refl

module _ {A B C : Type 0} where
  after_one : (r : Read A) (f : A → Read C) (g : A → Read B) (h : B → Read C) → ((a : A) → f a ≡ then_read (g a) h) → then_read r f ≡ then_read (then_read r g) h
  after_one (Ok a) f g h e = e a
  after_one (Err x) f g h e = refl

-- one more day after others
days_push : (at : List ℕ) (days : List Bool) (ds : Items) (d : Data) → days_from at days (push_item ds d) ≡ then_read (days_from at days ds) (λ more. day_read at more d)
days_push at days no_items d = then_nothing (day_read at days d)
days_push at days (item e ds) d =
    after_one (day_read at days e) (λ more. days_from at more (push_item ds d)) (λ more. days_from at more ds) (λ more. day_read at more d)
    (λ more. days_push at more ds d)

word_there : (at : List ℕ) (ds : Items) (word : List ℕ) (before after : List Bool) → days_from at no_days ds ≡ Ok before → day_read at before (string word) ≡ Ok after
    → days_from at no_days (push_item ds (string word)) ≡ Ok after
word_there at ds word before after had read = days_push at no_days ds (string word) ∙ rw had read

mon_word : (at : List ℕ) (ds : Items) (a : Bool) → days_from at no_days ds ≡ Ok (false ∷ false ∷ false ∷ false ∷ false ∷ false ∷ false ∷ [])
    → days_from at no_days (with_word ds a (codes "mon")) ≡ Ok (a ∷ false ∷ false ∷ false ∷ false ∷ false ∷ false ∷ [])
unfolding day_of
mon_word at ds true had = word_there at ds (codes "mon") (false ∷ false ∷ false ∷ false ∷ false ∷ false ∷ false ∷ []) (true ∷ false ∷ false ∷ false ∷ false ∷ false ∷ false ∷ [])
    had refl
mon_word at ds false had = had

tue_word : (at : List ℕ) (ds : Items) (a b : Bool) → days_from at no_days ds ≡ Ok (a ∷ false ∷ false ∷ false ∷ false ∷ false ∷ false ∷ [])
    → days_from at no_days (with_word ds b (codes "tue")) ≡ Ok (a ∷ b ∷ false ∷ false ∷ false ∷ false ∷ false ∷ [])
unfolding day_of
tue_word at ds a true had = word_there at ds (codes "tue") (a ∷ false ∷ false ∷ false ∷ false ∷ false ∷ false ∷ []) (a ∷ true ∷ false ∷ false ∷ false ∷ false ∷ false ∷ []) had refl
tue_word at ds a false had = had

wed_word : (at : List ℕ) (ds : Items) (a b c : Bool) → days_from at no_days ds ≡ Ok (a ∷ b ∷ false ∷ false ∷ false ∷ false ∷ false ∷ [])
    → days_from at no_days (with_word ds c (codes "wed")) ≡ Ok (a ∷ b ∷ c ∷ false ∷ false ∷ false ∷ false ∷ [])
unfolding day_of
wed_word at ds a b true had = word_there at ds (codes "wed") (a ∷ b ∷ false ∷ false ∷ false ∷ false ∷ false ∷ []) (a ∷ b ∷ true ∷ false ∷ false ∷ false ∷ false ∷ []) had refl
wed_word at ds a b false had = had

thu_word : (at : List ℕ) (ds : Items) (a b c d : Bool) → days_from at no_days ds ≡ Ok (a ∷ b ∷ c ∷ false ∷ false ∷ false ∷ false ∷ [])
    → days_from at no_days (with_word ds d (codes "thu")) ≡ Ok (a ∷ b ∷ c ∷ d ∷ false ∷ false ∷ false ∷ [])
unfolding day_of
thu_word at ds a b c true had = word_there at ds (codes "thu") (a ∷ b ∷ c ∷ false ∷ false ∷ false ∷ false ∷ []) (a ∷ b ∷ c ∷ true ∷ false ∷ false ∷ false ∷ []) had refl
thu_word at ds a b c false had = had

fri_word : (at : List ℕ) (ds : Items) (a b c d e : Bool) → days_from at no_days ds ≡ Ok (a ∷ b ∷ c ∷ d ∷ false ∷ false ∷ false ∷ [])
    → days_from at no_days (with_word ds e (codes "fri")) ≡ Ok (a ∷ b ∷ c ∷ d ∷ e ∷ false ∷ false ∷ [])
unfolding day_of
fri_word at ds a b c d true had = word_there at ds (codes "fri") (a ∷ b ∷ c ∷ d ∷ false ∷ false ∷ false ∷ []) (a ∷ b ∷ c ∷ d ∷ true ∷ false ∷ false ∷ []) had refl
fri_word at ds a b c d false had = had

sat_word : (at : List ℕ) (ds : Items) (a b c d e f : Bool) → days_from at no_days ds ≡ Ok (a ∷ b ∷ c ∷ d ∷ e ∷ false ∷ false ∷ [])
    → days_from at no_days (with_word ds f (codes "sat")) ≡ Ok (a ∷ b ∷ c ∷ d ∷ e ∷ f ∷ false ∷ [])
unfolding day_of
sat_word at ds a b c d e true had = word_there at ds (codes "sat") (a ∷ b ∷ c ∷ d ∷ e ∷ false ∷ false ∷ []) (a ∷ b ∷ c ∷ d ∷ e ∷ true ∷ false ∷ []) had refl
sat_word at ds a b c d e false had = had

sun_word : (at : List ℕ) (ds : Items) (a b c d e f g : Bool) → days_from at no_days ds ≡ Ok (a ∷ b ∷ c ∷ d ∷ e ∷ f ∷ false ∷ [])
    → days_from at no_days (with_word ds g (codes "sun")) ≡ Ok (a ∷ b ∷ c ∷ d ∷ e ∷ f ∷ g ∷ [])
unfolding day_of
sun_word at ds a b c d e f true had = word_there at ds (codes "sun") (a ∷ b ∷ c ∷ d ∷ e ∷ f ∷ false ∷ []) (a ∷ b ∷ c ∷ d ∷ e ∷ f ∷ true ∷ []) had refl
sun_word at ds a b c d e f false had = had

seven_back : (at : List ℕ) (a b c d e f g : Bool) → days_from at no_days (day_words (a ∷ b ∷ c ∷ d ∷ e ∷ f ∷ g ∷ [])) ≡ Ok (a ∷ b ∷ c ∷ d ∷ e ∷ f ∷ g ∷ [])
seven_back at a b c d e f g =
    let days : List Bool = a ∷ b ∷ c ∷ d ∷ e ∷ f ∷ g ∷ [] in
    sun_word at (to_saturday days) a b c d e f g
    (sat_word at (to_friday days) a b c d e f
    (fri_word at (to_thursday days) a b c d e
    (thu_word at (to_wednesday days) a b c d
    (wed_word at (to_tuesday days) a b c
    (tue_word at (to_monday days) a b (mon_word at no_items a refl))))))

week_back : (at : List ℕ) (days : List Bool) → length days ≡ 7 → days_from at no_days (day_words days) ≡ Ok days
week_back at (a ∷ b ∷ c ∷ d ∷ e ∷ f ∷ g ∷ []) whole = seven_back at a b c d e f g
week_back at [] whole = absurd cc
week_back at (a ∷ []) whole = absurd cc
week_back at (a ∷ b ∷ []) whole = absurd cc
week_back at (a ∷ b ∷ c ∷ []) whole = absurd cc
week_back at (a ∷ b ∷ c ∷ d ∷ []) whole = absurd cc
week_back at (a ∷ b ∷ c ∷ d ∷ e ∷ []) whole = absurd cc
week_back at (a ∷ b ∷ c ∷ d ∷ e ∷ f ∷ []) whole = absurd cc
week_back at (a ∷ b ∷ c ∷ d ∷ e ∷ f ∷ g ∷ h ∷ days) whole = absurd (let more : suc (suc (suc (suc (suc (suc (suc (suc (length days)))))))) ≡ 7 = whole in omega (arith, more))

pub days_back : (at : List ℕ) (days : List Bool) → length days ≡ 7 → has_day days ≡ true → days_at at (array (day_words days)) ≡ Ok days
days_back at days whole some = rw (week_back at days whole, some) refl
