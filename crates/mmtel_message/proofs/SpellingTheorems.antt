-- Which datagrams are read with the same result.
use Rattle.std.proofs.Common.{◌≡◌, ◌≢◌, ◌==◌, cond, ◌⊎◌, true, false, ℕ, ◌<◌, ◌≤◌, List, [], ◌∷◌, ◌++◌, length, Option, Some, None, refl, sym, ap, subst, ◌∙◌, inl, inr, map, arith, append-nil, codes}
use Rattle.std.proofs.lemmas.List.{map-append}
use Rattle.std.proofs.lemmas.Bool.{cases_Bool}
use Rattle.std.proofs.lemmas.Bool.Decides.{nat_tests}
use Rattle.std.specs.List.{list_all, flat_map}
use Rattle.std.specs.Str.{str_to_ascii_lowercase}
use Rattle.mmtel_base.specs.Classes.{in_class, IsAll, Stops}
use Rattle.mmtel_base.specs.Scanning.{leading_run, after_run, without_trailing}
use Rattle.mmtel_base.specs.declared.classes.Class.TheVariants.{Blank, Token}
use Rattle.mmtel_base.proofs.ChainTheorems.{filled_test}
use Rattle.mmtel_base.proofs.Runs.{and_true, run_again, after_run_again, after_run_cons}
use Rattle.mmtel_lex.specs.Grammar.{IsToken}
use Rattle.mmtel_message.specs.Lines.{crlf, put, split, starts_blank, continued_line, logical_lines_from}
use Rattle.mmtel_message.specs.Names.{of_forms, of_names, or_else, compact_forms, more_compact_forms, routing_names, content_names, caller_names, network_names, long_name}
use Rattle.mmtel_message.specs.Headers.{trim, is_value_byte, header_at, header_line, or_unnamed}
use Rattle.mmtel_message.specs.Message.{is_line, lines_named, lines_with, lines_without, values_named}
use Rattle.mmtel_message.specs.Values.{values_in}
use Rattle.mmtel_message.specs.Starts.{start_at}
use Rattle.mmtel_message.specs.Datagram.{tail_text, text_of, datagram, IsWhole, AreWhole, AreUnfolded}
use Rattle.mmtel_message.specs.Reads.{read_result, after_start}
use Rattle.mmtel_message.specs.declared.values.Mode.{Mode}
use Rattle.std.proofs.lemmas.Slice.Eq.{bytes_eq-Decides}
use Rattle.mmtel_message.specs.Fields.{five_at, parties_in, call_in}
use Rattle.mmtel_message.proofs.LineTheorems.{and_false}
use Rattle.mmtel_message.proofs.CanonicalTheorems.{first_kept, only_kept}
use Rattle.mmtel_message.proofs.RoundTrip.{reads_folded, reads_lines, after_lines}
use Rattle.mmtel_message.proofs.ValueTheorems.{trim_more, trim_led}

-- ---- names

same_forms : (forms : List (List ℕ × List ℕ)) (n m : List ℕ) → str_to_ascii_lowercase n ≡ str_to_ascii_lowercase m → of_forms forms n ≡ of_forms forms m
same_forms [] n m e = refl
same_forms (x ∷ forms) n m e = rw (e, same_forms forms n m e) refl

same_names : (names : List (List ℕ)) (n m : List ℕ) → str_to_ascii_lowercase n ≡ str_to_ascii_lowercase m → of_names names n ≡ of_names names m
same_names [] n m e = refl
same_names (x ∷ names) n m e = rw (e, same_names names n m e) refl

or_same : (o : Option (List ℕ)) (x y m : List ℕ) → (x ≡ y) ⊎ (y ≡ m) → (or_else o x ≡ or_else o y) ⊎ (or_else o y ≡ m)
or_same None x y m e = e
or_same (Some z) x y m e = inl refl

-- names that differ in case alone have the same spelling, unless this server does not know them
pub same_spelling : (n m : List ℕ) → str_to_ascii_lowercase n ≡ str_to_ascii_lowercase m → (long_name n ≡ long_name m) ⊎ (long_name m ≡ m)
same_spelling n m e =
    rw (same_forms compact_forms n m e, same_forms more_compact_forms n m e, same_names routing_names n m e, same_names content_names n m e, same_names caller_names n m e, same_names network_names n m e)
    (or_same (of_forms compact_forms m) _ _ m (or_same (of_forms more_compact_forms m) _ _ m
    (or_same (of_names routing_names m) _ _ m (or_same (of_names content_names m) _ _ m (or_same (of_names caller_names m) _ _ m (or_same (of_names network_names m) n m m (inr refl)))))))

-- ---- one header line

no_token : (b : ℕ) → in_class Blank b ≡ true → in_class Token b ≡ false
unfolding in_class
no_token b e =
    elim (cases_Bool (b == 32)) [
      | inl y ↦ let is : 32 ≡ b = grind (arith, nat_tests, y) in subst (λ (x : ℕ). in_class Token x ≡ false) is refl
      | inr n ↦ let is : 9 ≡ b = grind (arith, nat_tests, n, e) in subst (λ (x : ℕ). in_class Token x ≡ false) is refl
    ]

gap_stops : (a s : List ℕ) → IsAll Blank a → Stops Token (a ++ 58 ∷ s)
unfolding in_class
gap_stops [] s each = refl
gap_stops (b ∷ a) s each = no_token b (and_true (in_class Blank b) (list_all (in_class Blank) a) each).0

colon_stops : (s : List ℕ) → Stops Blank (58 ∷ s)
unfolding in_class
colon_stops s = refl

trim_front : (b s : List ℕ) → IsAll Blank b → trim (b ++ s) ≡ trim s
trim_front [] s each = refl
trim_front (x ∷ b) s each =
    let both = and_true (in_class Blank x) (list_all (in_class Blank) b) each in
    trim_led x (b ++ s) both.0 ∙ trim_front b s both.1

abbrev line_with : List ℕ → List ℕ → List ℕ × List ℕ
line_with name value = or_unnamed (cond (list_all is_value_byte value) (Some (name, value)) None)

-- what a line says, whatever blanks are around its colon and its value
line_says : (n a b v c : List ℕ) → IsToken n → IsAll Blank a → IsAll Blank b → IsAll Blank c → header_line (n ++ (a ++ (58 ∷ (b ++ (v ++ c))))) ≡ line_with (long_name n) (trim v)
unfolding header_at
line_says n a b v c token ea eb ec =
    let value : List ℕ = b ++ (v ++ c) in
    let stops = gap_stops a value ea in
    let name : leading_run Token (n ++ (a ++ 58 ∷ value)) ≡ n = run_again Token n (a ++ 58 ∷ value) token.each stops in
    let rest : after_run Token (n ++ (a ++ 58 ∷ value)) ≡ a ++ 58 ∷ value = after_run_again Token n (a ++ 58 ∷ value) token.each stops in
    let blanks : after_run Blank (a ++ 58 ∷ value) ≡ 58 ∷ value = after_run_again Blank a (58 ∷ value) ea (colon_stops value) in
    let bare : trim value ≡ trim v = trim_front b (v ++ c) eb ∙ trim_more v c ec in
    rw (rest, name, blanks, filled_test (length n) token.filled, bare) refl

-- a name in another spelling, and blanks around colon and value
pub same_line : (n m a b c v : List ℕ) → IsToken n → IsToken m → long_name n ≡ long_name m → IsAll Blank a → IsAll Blank b → IsAll Blank c → header_line (n ++ (a ++ (58 ∷ (b ++ (v ++ c))))) ≡ header_line (m ++ (58 ∷ v))
same_line n m a b c v tn tm e ea eb ec =
    let other : header_line (m ++ ([] ++ (58 ∷ ([] ++ (v ++ []))))) ≡ line_with (long_name m) (trim v) = line_says m [] [] v [] tm refl refl refl in
    let nil : v ++ [] ≡ v = append-nil v in
    line_says n a b v c tn ea eb ec ∙ (ap (λ (x : List ℕ). line_with x (trim v)) e ∙ sym (rw nil at other))

-- ---- datagrams

-- datagrams that differ in one line, which says the same in both, are read with the same result
pub same_reading : (first : List ℕ) (xs ys : List (List ℕ)) (r q body : List ℕ) → header_line r ≡ header_line q → IsWhole first → AreWhole (xs ++ r ∷ ys) → AreUnfolded (xs ++ r ∷ ys) →
    AreWhole (xs ++ q ∷ ys) → AreUnfolded (xs ++ q ∷ ys) → length (datagram first (xs ++ r ∷ ys) body) ≤ 16384 → length (datagram first (xs ++ q ∷ ys) body) ≤ 16384 →
    read_result (datagram first (xs ++ r ∷ ys) body) ≡ read_result (datagram first (xs ++ q ∷ ys) body)
same_reading first xs ys r q body e whole rw_ ru qw qu rl ql =
    let lines : map header_line (xs ++ r ∷ ys) ≡ map header_line (xs ++ q ∷ ys) =
    map-append header_line xs (r ∷ ys) ∙ (ap (λ (l : List ℕ × List ℕ). map header_line xs ++ l ∷ map header_line ys) e ∙ sym (map-append header_line xs (q ∷ ys))) in
    reads_lines first (xs ++ r ∷ ys) body whole rw_ ru rl ∙ (ap (λ (hs : List (List ℕ × List ℕ)). after_start hs body (start_at first)) lines ∙ sym (reads_lines first (xs ++ q ∷ ys) body whole qw qu ql))

blank_space : in_class Blank 32 ≡ true
unfolding in_class
blank_space = refl

unled : (y : List ℕ) → starts_blank y ≡ false → after_run Blank y ≡ y
unled [] e = after_run_again Blank [] [] refl tt
unled (b ∷ y) e = after_run_again Blank [] (b ∷ y) refl e

fold_is : (x y : List ℕ) → without_trailing Blank x ≡ x → starts_blank y ≡ false → continued_line x (32 ∷ y) ≡ x ++ 32 ∷ y
fold_is x y e f = rw (e, after_run_cons Blank 32 y blank_space, unled y f) refl

led_more : (x z : List ℕ) → 0 < length x → starts_blank (x ++ z) ≡ starts_blank x
led_more [] z filled = absurd (omega arith)
led_more (b ∷ x) z filled = refl

fold_lines : (l : List ℕ) (xs ys : List (List ℕ)) (x y : List ℕ) → 0 < length x → starts_blank x ≡ false → without_trailing Blank x ≡ x → starts_blank y ≡ false →
    logical_lines_from l (xs ++ x ∷ (32 ∷ y) ∷ ys) ≡ logical_lines_from l (xs ++ (x ++ 32 ∷ y) ∷ ys)
unfolding logical_lines_from
fold_lines l [] ys x y filled plain e f = rw (plain, blank_space, fold_is x y e f, led_more x (32 ∷ y) filled, plain) refl
fold_lines l (z ∷ xs) ys x y filled plain e f =
    elim (cases_Bool (starts_blank z)) [
      | inl b ↦ rw b (fold_lines (continued_line l z) xs ys x y filled plain e f)
      | inr n ↦ rw n (ap (λ (ls : List (List ℕ)). l ∷ ls) (fold_lines z xs ys x y filled plain e f))
    ]

-- a fold in place of one SP within a line
pub same_folded : (first : List ℕ) (xs ys : List (List ℕ)) (x y body : List ℕ) → 0 < length x → starts_blank x ≡ false → without_trailing Blank x ≡ x → starts_blank y ≡ false →
    IsWhole first → AreWhole (xs ++ x ∷ (32 ∷ y) ∷ ys) → AreWhole (xs ++ (x ++ 32 ∷ y) ∷ ys) → length (datagram first (xs ++ x ∷ (32 ∷ y) ∷ ys) body) ≤ 16384 →
    length (datagram first (xs ++ (x ++ 32 ∷ y) ∷ ys) body) ≤ 16384 → read_result (datagram first (xs ++ x ∷ (32 ∷ y) ∷ ys) body) ≡ read_result (datagram first (xs ++ (x ++ 32 ∷ y) ∷ ys) body)
same_folded first xs ys x y body filled plain e f whole aw bw al bl =
    reads_folded first (xs ++ x ∷ (32 ∷ y) ∷ ys) body whole aw al
    ∙ (ap (λ (ls : List (List ℕ)). after_lines body ls) (fold_lines first xs ys x y filled plain e f) ∙ sym (reads_folded first (xs ++ (x ++ 32 ∷ y) ∷ ys) body whole bw bl))

-- ---- what is read of a name

pub values_of_name : (m : Mode) (X : List ℕ) (ls : List (List ℕ × List ℕ)) → values_named m X ls ≡ flat_map (λ l. values_in m l.1) (lines_named X ls)
values_of_name m X [] = refl
values_of_name m X (l ∷ ls) =
    elim (cases_Bool (is_line X l)) [
      | inl y ↦ rw (y, values_of_name m X ls) refl
      | inr n ↦ rw (n, values_of_name m X ls) refl
    ]

pub same_values : (m : Mode) (X : List ℕ) (ls ks : List (List ℕ × List ℕ)) → lines_named X ls ≡ lines_named X ks → values_named m X ls ≡ values_named m X ks
same_values m X ls ks e = values_of_name m X ls ∙ (ap (λ (x : List (List ℕ × List ℕ)). flat_map (λ l. values_in m l.1) x) e ∙ sym (values_of_name m X ks))

-- ---- edits

line_is : (X : List ℕ) (l : List ℕ × List ℕ) → is_line X l ≡ true → str_to_ascii_lowercase l.0 ≡ str_to_ascii_lowercase X
line_is X l e = (bytes_eq-Decides (str_to_ascii_lowercase l.0) (str_to_ascii_lowercase X)).0 e

not_both : (X Y : List ℕ) (l : List ℕ × List ℕ) → str_to_ascii_lowercase X ≢ str_to_ascii_lowercase Y → is_line X l ≡ true → is_line Y l ≡ false
not_both X Y l differ e =
    elim (cases_Bool (is_line Y l)) [
      | inl y ↦ absurd (differ (sym (line_is X l e) ∙ line_is Y l y))
      | inr n ↦ n
    ]

pub dropped_others : (X Y : List ℕ) (ls : List (List ℕ × List ℕ)) → str_to_ascii_lowercase X ≢ str_to_ascii_lowercase Y → lines_named Y (lines_without X ls) ≡ lines_named Y ls
dropped_others X Y [] differ = refl
dropped_others X Y (l ∷ ls) differ =
    elim (cases_Bool (is_line X l)) [
      | inl y ↦ rw (y, not_both X Y l differ y) (dropped_others X Y ls differ)
      | inr n ↦ elim (cases_Bool (is_line Y l)) [
        | inl y ↦ rw (n, y, dropped_others X Y ls differ) refl
        | inr z ↦ rw (n, z) (dropped_others X Y ls differ)
      ]
    ]

set_is_not : (X Y v : List ℕ) → str_to_ascii_lowercase X ≢ str_to_ascii_lowercase Y → is_line Y (X, v) ≡ false
set_is_not X Y v differ =
    elim (cases_Bool (is_line Y (X, v))) [
      | inl y ↦ absurd (differ (line_is Y (X, v) y))
      | inr n ↦ n
    ]

pub replaced_others : (X v Y : List ℕ) (ls : List (List ℕ × List ℕ)) → str_to_ascii_lowercase X ≢ str_to_ascii_lowercase Y → lines_named Y (lines_with X v ls) ≡ lines_named Y ls
replaced_others X v Y [] differ = rw (set_is_not X Y v differ) refl
replaced_others X v Y (l ∷ ls) differ =
    elim (cases_Bool (is_line X l)) [
      | inl y ↦ rw (y, set_is_not X Y v differ, not_both X Y l differ y) (dropped_others X Y ls differ)
      | inr n ↦ elim (cases_Bool (is_line Y l)) [
        | inl y ↦ rw (n, y, replaced_others X v Y ls differ) refl
        | inr z ↦ rw (n, z) (replaced_others X v Y ls differ)
      ]
    ]

-- ---- the lines are the whole

put_text : (b : ℕ) (ls : List (List ℕ)) → text_of (put b ls) ≡ b ∷ text_of ls
put_text b [] = refl
put_text b ([] ∷ ls) = rw (and_false (b == 13)) refl
put_text b ((c ∷ l) ∷ ls) =
    elim (cases_Bool (crlf (b ∷ c ∷ l))) [
      | inl y ↦
          let both = and_true (b == 13) (c == 10) y in
          let cr : 13 ≡ b = grind (arith, nat_tests, both.0) in
          let lf : 10 ≡ c = grind (arith, nat_tests, both.1) in
          rw (both.0, both.1) (ap (λ (x : ℕ). x ∷ 10 ∷ (l ++ tail_text ls)) cr ∙ ap (λ (x : ℕ). b ∷ x ∷ (l ++ tail_text ls)) lf)
      | inr other ↦ rw other refl
    ]

-- the lines with line ends between them are the whole
pub split_whole : (s : List ℕ) → text_of (split s) ≡ s
unfolding split
split_whole [] = refl
split_whole (b ∷ s) = put_text b (split s) ∙ ap (λ (t : List ℕ). b ∷ t) (split_whole s)

-- ---- the five fields

pub same_five : (ls ks : List (List ℕ × List ℕ)) → lines_named (codes "Via") ls ≡ lines_named (codes "Via") ks → lines_named (codes "From") ls ≡ lines_named (codes "From") ks →
    lines_named (codes "To") ls ≡ lines_named (codes "To") ks → lines_named (codes "Call-ID") ls ≡ lines_named (codes "Call-ID") ks →
    lines_named (codes "CSeq") ls ≡ lines_named (codes "CSeq") ks → five_at ls ≡ five_at ks
unfolding five_at parties_in call_in
same_five ls ks v f t i c =
    rw (first_kept (codes "Via") ls ks v, only_kept (codes "From") ls ks f, only_kept (codes "To") ls ks t, only_kept (codes "Call-ID") ls ks i, only_kept (codes "CSeq") ls ks c) refl
