-- The words of a command, as the grammar spells them, are exactly those that the reader accepts.
use Rattle.std.proofs.Common.{◌≡◌, ◌∙◌, ◌≤◌, ◌&&◌, ◌||◌, cond, not, true, false, nat_eq, refl, sym, ap, subst, codes, List, [], ◌∷◌, ◌++◌, Bool, Some, None, Option, length, arith}
use Rattle.std.specs.List.{flat_map, list_all, starts_with}
use Rattle.std.specs.Str.{bytes_eq}
use Rattle.clap.specs.Words.{Text, Row, first_of}
use Rattle.clap.specs.Walk.{has_row}
use Rattle.mmtel_words.specs.CommandLine.{Piece, Word, Apart, Joined, EachMayAppear, EachOnce, EachText, Spells, spelling, is_among, is_positional, names_of, word_in, value_in, mark_words, words_after_mark}
use Rattle.mmtel_words.proofs.Reader.{Entry, reading, read}
use Rattle.mmtel_words.proofs.Auto.{rows, puts, good}
use Rattle.mmtel_words.proofs.Forms.{equal, equal_self, same_both, is_name}
use Rattle.mmtel_words.proofs.Spelling.{placed, entries_of, EachMayAppearSpelled, words_of, spelled, read_again}
use Rattle.mmtel_words.proofs.Once.{entries, filled, has_is, first_is, once_is, puts_all}

-- ---- the values of options and of places

no_place : (k : Text) (ws left : List Text) → is_among left k ≡ false → entries k (placed ws left) ≡ []
no_place k [] left off = refl
no_place k (w ∷ ws) [] off = refl
no_place k (w ∷ ws) (id ∷ left) off = by (bytes_eq id k) off (no_place k ws left)
  where
    by : (b : Bool) → (b || is_among left k) ≡ false → (is_among left k ≡ false → entries k (placed ws left) ≡ []) → cond b (w ∷ entries k (placed ws left)) (entries k (placed ws left)) ≡ []
    by true off h = absurd cc
    by false off h = h off

value_first : (k name v : Text) (vs : List Text) → cond (bytes_eq name k) (v ∷ vs) vs ≡ cond (bytes_eq k name) (v ∷ []) [] ++ vs
value_first k name v vs = ap (λ b. cond b (v ∷ vs) vs) (same_both name k) ∙ by (bytes_eq k name)
  where
    by : (b : Bool) → cond b (v ∷ vs) vs ≡ cond b (v ∷ []) [] ++ vs
    by true = refl
    by false = refl

option_values : (k : Text) (pieces : List Piece) (left ws : List Text) → is_among left k ≡ false → entries k (entries_of pieces left ws) ≡ flat_map (value_in k) pieces
option_values k [] left ws off = no_place k ws left off
option_values k (Word w ∷ pieces) [] ws off = option_values k pieces [] ws off
option_values k (Word w ∷ pieces) (id ∷ left) ws off = by (bytes_eq id k) off (option_values k pieces left ws)
  where
    by : (b : Bool) → (b || is_among left k) ≡ false → (is_among left k ≡ false → entries k (entries_of pieces left ws) ≡ flat_map (value_in k) pieces)
        → cond b (w ∷ entries k (entries_of pieces left ws)) (entries k (entries_of pieces left ws)) ≡ flat_map (value_in k) pieces
    by true off h = absurd cc
    by false off h = h off
option_values k (Apart name v ∷ pieces) left ws off =
    ap (λ vs. cond (bytes_eq name k) (v ∷ vs) vs) (option_values k pieces left ws off) ∙ value_first k name v (flat_map (value_in k) pieces)
option_values k (Joined name v ∷ pieces) left ws off =
    ap (λ vs. cond (bytes_eq name k) (v ∷ vs) vs) (option_values k pieces left ws off) ∙ value_first k name v (flat_map (value_in k) pieces)

-- no option is of a name that is not among them
other_name : (names : List Text) (name k : Text) → is_among names name ≡ true → is_among names k ≡ false → bytes_eq name k ≡ false
other_name names name k among off = by (bytes_eq name k) refl
  where
    by : (b : Bool) → bytes_eq name k ≡ b → b ≡ false
    by true e = sym among ∙ ap (is_among names) (equal name k e) ∙ off
    by false e = refl

no_left : (ws : List Text) → placed ws [] ≡ []
no_left [] = refl
no_left (w ∷ ws) = refl

place_values : (names : List Text) (k : Text) (pieces : List Piece) (left ws : List Text) → is_among names k ≡ false → EachMayAppearSpelled names pieces →
    entries k (entries_of pieces left ws) ≡ entries k (placed (flat_map word_in pieces ++ ws) left)
place_values names k [] left ws off stand = refl
place_values names k (Word w ∷ pieces) [] ws off stand = place_values names k pieces [] ws off stand.1 ∙ ap (entries k) (no_left (flat_map word_in pieces ++ ws))
place_values names k (Word w ∷ pieces) (id ∷ left) ws off stand = ap (λ vs. cond (bytes_eq id k) (w ∷ vs) vs) (place_values names k pieces left ws off stand.1)
place_values names k (Apart name v ∷ pieces) left ws off stand =
    ap (λ b. cond b (v ∷ entries k (entries_of pieces left ws)) (entries k (entries_of pieces left ws))) (other_name names name k stand.0.0 off) ∙ place_values names k pieces left ws off stand.1
place_values names k (Joined name v ∷ pieces) left ws off stand =
    ap (λ b. cond b (v ∷ entries k (entries_of pieces left ws)) (entries k (entries_of pieces left ws))) (other_name names name k stand.0 off) ∙ place_values names k pieces left ws off stand.1

-- ---- a separate value does not begin with `-`

abbrev pub is_plain : Text → Bool
is_plain v = not (starts_with nat_eq v (codes "-"))

not-true : (b : Bool) → not b ≡ true → b ≡ false
not-true true e = sym e
not-true false e = refl

all-append : (p : Text → Bool) (xs ys : List Text) → list_all p (xs ++ ys) ≡ true → (list_all p xs ≡ true) × (list_all p ys ≡ true)
all-append p [] ys e = (refl, e)
all-append p (x ∷ xs) ys e = by (p x) e (all-append p xs ys)
  where
    by : (b : Bool) → (b && list_all p (xs ++ ys)) ≡ true → (list_all p (xs ++ ys) ≡ true → (list_all p xs ≡ true) × (list_all p ys ≡ true)) → ((b && list_all p xs) ≡ true) × (list_all p ys ≡ true)
    by true e h = h e
    by false e h = absurd cc

all_may_appear : (names : List Text) (pieces : List Piece) → EachMayAppearSpelled names pieces → ((k : Text) → is_among names k ≡ true → list_all is_plain (flat_map (value_in k) pieces) ≡ true) →
    EachMayAppear names pieces
all_may_appear names [] stand h = tt
all_may_appear names (Word w ∷ pieces) stand h = (stand.0, all_may_appear names pieces stand.1 h)
all_may_appear names (Apart name v ∷ pieces) stand h =
    let more = λ (k : Text) (among : is_among names k ≡ true). (all-append is_plain (value_in k (Apart name v)) (flat_map (value_in k) pieces) (h k among)).1 in
    let here = (all-append is_plain (value_in name (Apart name v)) (flat_map (value_in name) pieces) (h name stand.0.0)).0 in
    ((stand.0.0, by (bytes_eq name name) (equal_self name) here), all_may_appear names pieces stand.1 more)
  where
    by : (b : Bool) → b ≡ true → list_all is_plain (cond b (v ∷ []) []) ≡ true → starts_with nat_eq v (codes "-") ≡ false
    by true e p = not-true (starts_with nat_eq v (codes "-")) (one (is_plain v) p)
      where
        one : (b : Bool) → (b && true) ≡ true → b ≡ true
        one true e = refl
        one false e = e
    by false e p = absurd cc
all_may_appear names (Joined name v ∷ pieces) stand h =
    (stand.0, all_may_appear names pieces stand.1 (λ (k : Text) (among : is_among names k ≡ true). (all-append is_plain (value_in k (Joined name v)) (flat_map (value_in k) pieces) (h k among)).1))

plain_place : (v : Text) → starts_with nat_eq v (codes "-") ≡ false → is_positional v ≡ true
plain_place v e = rw e (or-true (bytes_eq v (codes "-")))
  where
    or-true : (b : Bool) → (b || true) ≡ true
    or-true true = refl
    or-true false = refl

each_may_appear : (names : List Text) (pieces : List Piece) → EachMayAppear names pieces → EachMayAppearSpelled names pieces
each_may_appear names [] may = tt
each_may_appear names (Word w ∷ pieces) may = (may.0, each_may_appear names pieces may.1)
each_may_appear names (Apart name v ∷ pieces) may = ((may.0.0, plain_place v may.0.1), each_may_appear names pieces may.1)
each_may_appear names (Joined name v ∷ pieces) may = (may.0, each_may_appear names pieces may.1)

-- ---- the options and places of a command

-- the first value of each option, and of each place
abbrev pub EachFirst : List (Text × Text) → List Row → Type 0
EachFirst [] R = Unit {0}
EachFirst (o ∷ options) R = (first_of o.0 R ≡ Some o.1) × EachFirst options R

abbrev pub Firsts : List Text → List Text → List Row → Type 0
Firsts [] [] R = Unit {0}
Firsts [] (p ∷ pos) R = ⊥
Firsts (id ∷ ids) [] R = ⊥
Firsts (id ∷ ids) (p ∷ pos) R = (first_of id R ≡ Some p) × Firsts ids pos R

-- the values of the places are these words
abbrev pub At : List Text → List Text → List Text → List Text → Type 0
At ids0 ws [] [] = Unit {0}
At ids0 ws [] (p ∷ pos) = ⊥
At ids0 ws (id ∷ ids) [] = ⊥
At ids0 ws (id ∷ ids) (p ∷ pos) = (entries id (placed ws ids0) ≡ p ∷ []) × At ids0 ws ids pos

abbrev EachOff : List Text → List (Text × Text) → Type 0
EachOff ids [] = Unit {0}
EachOff ids (o ∷ options) = (is_among ids o.0 ≡ false) × EachOff ids options

abbrev NoneAmong : List Text → List Text → Type 0
NoneAmong names [] = Unit {0}
NoneAmong names (id ∷ ids) = (is_among names id ≡ false) × NoneAmong names ids

-- options and places of different names; the entry of a place determines the word
pub record Names (options : List (Text × Text)) (ids pos : List Text) : Type 0 where
  pub fine : list_all is_name (names_of options) ≡ true
  pub off : EachOff ids options
  pub other : NoneAmong (names_of options) ids
  pub lone : (k : Text) (ws : List Text) → length (entries k (placed ws ids)) ≤ 1
  pub tells : (ws : List Text) → length ws ≤ length ids → At ids ws ids pos → ws ≡ pos
  pub told : At ids pos ids pos
  pub many : length pos ≤ length ids

abbrev pub EachPlain : List (Text × Text) → Type 0
EachPlain [] = Unit {0}
EachPlain (o ∷ options) = (starts_with nat_eq o.1 (codes "-") ≡ false) × EachPlain options

-- ---- what is read is spelled

each_once : (keys ids : List Text) (es : List Entry) (R : List Row) (pieces : List Piece) (ws : List Text) → puts keys [] es ≡ Some R → es ≡ entries_of pieces ids ws → (options : List (Text × Text)) →
    EachOff ids options → EachFirst options R → EachOnce options pieces
each_once keys ids es R pieces ws put are [] off firsts = tt
each_once keys ids es R pieces ws put are (o ∷ options) off firsts =
    (sym (option_values o.0 pieces ids ws off.0) ∙ ap (entries o.0) (sym are) ∙ once_is keys es R put o.0 o.1 firsts.0, each_once keys ids es R pieces ws put are options off.1 firsts.1)

each_plain : (options : List (Text × Text)) (pieces : List Piece) → EachOnce options pieces → EachPlain options → (k : Text) → is_among (names_of options) k ≡ true →
    list_all is_plain (flat_map (value_in k) pieces) ≡ true
each_plain [] pieces once plain k among = absurd cc
each_plain (o ∷ options) pieces once plain k among = by (bytes_eq o.0 k) refl among (each_plain options pieces once.1 plain.1 k)
  where
    by : (b : Bool) → bytes_eq o.0 k ≡ b → (b || is_among (names_of options) k) ≡ true → (is_among (names_of options) k ≡ true → list_all is_plain (flat_map (value_in k) pieces) ≡ true) →
        list_all is_plain (flat_map (value_in k) pieces) ≡ true
    by true e a h = ap (λ i. list_all is_plain (flat_map (value_in i) pieces)) (sym (equal o.0 k e)) ∙ ap (list_all is_plain) once.0 ∙ ap (λ b. not b && true) plain.0
    by false e a h = h a

each_place : (keys names ids0 : List Text) (es : List Entry) (R : List Row) (pieces : List Piece) (ws : List Text) → puts keys [] es ≡ Some R → es ≡ entries_of pieces ids0 ws →
    EachMayAppearSpelled names pieces → (ids pos : List Text) → NoneAmong names ids → Firsts ids pos R
    → At ids0 (flat_map word_in pieces ++ ws) ids pos
each_place keys names ids0 es R pieces ws put are stand [] [] other firsts = tt
each_place keys names ids0 es R pieces ws put are stand [] (p ∷ pos) other firsts = absurd firsts
each_place keys names ids0 es R pieces ws put are stand (id ∷ ids) [] other firsts = absurd firsts
each_place keys names ids0 es R pieces ws put are stand (id ∷ ids) (p ∷ pos) other firsts =
    (sym (place_values names id pieces ids0 ws other.0 stand) ∙ ap (entries id) (sym are) ∙ once_is keys es R put id p firsts.0, each_place keys names ids0 es R pieces ws put are stand ids pos other.1 firsts.1)

pub is_spelled : (command : Text) (options : List (Text × Text)) (ids pos ws : List Text) (R : List Row) → Names options ids pos → EachText (command ∷ ws)
    → good (names_of options ++ ids) [] (read (names_of options) ws ids reading) ≡ Some R → EachFirst options R → Firsts ids pos R → EachPlain options → Spells command pos options (command ∷ ws)
is_spelled command options ids pos ws R n texts is firsts places plain = by (read (names_of options) ws ids reading) refl is
  where
    by : (r : Option (List Entry)) → read (names_of options) ws ids reading ≡ r → good (names_of options ++ ids) [] r ≡ Some R → Spells command pos options (command ∷ ws)
    by None e is = absurd cc
    by (Some es) e is =
        let s = spelled (names_of options) ws ids es e in
        let once = each_once (names_of options ++ ids) ids es R s.pieces (words_after_mark s.marked) is s.are options n.off firsts in
        record {
          texts = texts;
          pieces = s.pieces;
          marked = s.marked;
          whole = ap (λ l. command ∷ l) s.whole;
          may_appear = all_may_appear (names_of options) s.pieces s.stand (each_plain options s.pieces once plain);
          positionals = n.tells (words_of s.pieces s.marked) s.few (each_place (names_of options ++ ids) (names_of options) ids es R s.pieces (words_after_mark s.marked) is s.are s.stand ids pos n.other places);
          each_once = once;
        }

-- ---- what is spelled is read

one_value : (k v : Text) (es : List Entry) → entries k es ≡ v ∷ [] → (first_of k (rows es) ≡ Some v) × (has_row k (rows es) ≡ true)
one_value k v es e = (first_is k es ∙ rw e refl, has_is k es ∙ ap filled e)

both-true : (a b : Bool) → a ≡ true → b ≡ true → (a && b) ≡ true
both-true a b e f = ap (λ q. q && b) e ∙ f

all-both : (p : Text → Bool) (xs ys : List Text) → list_all p xs ≡ true → list_all p ys ≡ true → list_all p (xs ++ ys) ≡ true
all-both p [] ys e f = f
all-both p (x ∷ xs) ys e f = by (p x) e (λ g. all-both p xs ys g f)
  where
    by : (b : Bool) → (b && list_all p xs) ≡ true → (list_all p xs ≡ true → list_all p (xs ++ ys) ≡ true) → (b && list_all p (xs ++ ys)) ≡ true
    by true e h = h e
    by false e h = absurd cc

options_are : (ids ws : List Text) (pieces : List Piece) (options : List (Text × Text)) → EachOff ids options → EachOnce options pieces
    → EachFirst options (rows (entries_of pieces ids ws)) × (list_all (λ k. has_row k (rows (entries_of pieces ids ws))) (names_of options) ≡ true)
options_are ids ws pieces [] off once = (tt, refl)
options_are ids ws pieces (o ∷ options) off once =
    let here = one_value o.0 o.1 (entries_of pieces ids ws) (option_values o.0 pieces ids ws off.0 ∙ once.0) in
    let more = options_are ids ws pieces options off.1 once.1 in
    ((here.0, more.0), both-true (has_row o.0 (rows (entries_of pieces ids ws))) (list_all (λ k. has_row k (rows (entries_of pieces ids ws))) (names_of options)) here.1 more.1)

places_are : (names ids0 ws words : List Text) (pieces : List Piece) → EachMayAppearSpelled names pieces → flat_map word_in pieces ++ ws ≡ words → (ids pos : List Text) → NoneAmong names ids → At ids0 words ids pos
    → Firsts ids pos (rows (entries_of pieces ids0 ws)) × (list_all (λ k. has_row k (rows (entries_of pieces ids0 ws))) ids ≡ true)
places_are names ids0 ws words pieces stand are [] [] other told = (tt, refl)
places_are names ids0 ws words pieces stand are [] (p ∷ pos) other told = absurd told
places_are names ids0 ws words pieces stand are (id ∷ ids) [] other told = absurd told
places_are names ids0 ws words pieces stand are (id ∷ ids) (p ∷ pos) other told =
    let here = one_value id p (entries_of pieces ids0 ws) (place_values names id pieces ids0 ws other.0 stand ∙ ap (λ l. entries id (placed l ids0)) are ∙ told.0) in
    let more = places_are names ids0 ws words pieces stand are ids pos other.1 told.1 in
    ((here.0, more.0), both-true (has_row id (rows (entries_of pieces ids0 ws))) (list_all (λ k. has_row k (rows (entries_of pieces ids0 ws))) ids) here.1 more.1)

at_most_one : (ids ws : List Text) (pieces : List Piece) (options : List (Text × Text)) → EachOff ids options → EachOnce options pieces → (k : Text) → is_among (names_of options) k ≡ true →
    length (entries k (entries_of pieces ids ws)) ≤ 1
at_most_one ids ws pieces [] off once k among = absurd cc
at_most_one ids ws pieces (o ∷ options) off once k among = by (bytes_eq o.0 k) refl among (at_most_one ids ws pieces options off.1 once.1 k)
  where
    by : (b : Bool) → bytes_eq o.0 k ≡ b → (b || is_among (names_of options) k) ≡ true → (is_among (names_of options) k ≡ true → length (entries k (entries_of pieces ids ws)) ≤ 1) →
        length (entries k (entries_of pieces ids ws)) ≤ 1
    by true e a h =
        let n : length (entries k (entries_of pieces ids ws)) ≡ 1 = ap (λ i. length (entries i (entries_of pieces ids ws))) (sym (equal o.0 k e)) ∙ ap length (option_values o.0 pieces ids ws off.0 ∙ once.0) in
        omega arith
    by false e a h = h a

pub record ReadAs (options : List (Text × Text)) (ids pos ws : List Text) : Type 0 where
  pub R : List Row
  pub is : good (names_of options ++ ids) [] (read (names_of options) ws ids reading) ≡ Some R
  pub firsts : EachFirst options R
  pub places : Firsts ids pos R

pub is_read_as : (command : Text) (options : List (Text × Text)) (ids pos ws : List Text) → Names options ids pos → Spells command pos options (command ∷ ws) → ReadAs options ids pos ws
is_read_as command options ids pos ws n s =
    let names = names_of options in
    let behind = words_after_mark s.marked in
    let es = entries_of s.pieces ids behind in
    let stand = each_may_appear names s.pieces s.may_appear in
    let whole : ws ≡ flat_map spelling s.pieces ++ mark_words s.marked = let w = s.whole in cc in
    let count : length (words_of s.pieces s.marked) ≡ length pos = ap length s.positionals in
    let most : length pos ≤ length ids = n.many in
    let few : length (words_of s.pieces s.marked) ≤ length ids = omega arith in
    let options_in = options_are ids behind s.pieces options n.off s.each_once in
    let places_in = places_are names ids behind pos s.pieces stand s.positionals ids pos n.other n.told in
    record {
      R = rows es;
      is = ap (λ l. good (names ++ ids) [] (read names l ids reading)) whole
          ∙ ap (good (names ++ ids) []) (read_again names n.fine s.marked s.pieces ids stand few)
          ∙ puts_all (names ++ ids) es [] (λ k. lone k (is_among names k) refl) (all-both (λ k. has_row k (rows es)) names ids options_in.1 places_in.1);
      firsts = options_in.0;
      places = places_in.0;
    }
  where
    lone : (k : Text) (b : Bool) → is_among (names_of options) k ≡ b → length (entries k (entries_of s.pieces ids (words_after_mark s.marked))) ≤ 1
    lone k true among = at_most_one ids (words_after_mark s.marked) s.pieces options n.off s.each_once k among
    lone k false off = subst (λ l. length l ≤ 1) (sym (place_values (names_of options) k s.pieces ids (words_after_mark s.marked) off (each_may_appear (names_of options) s.pieces s.may_appear)))
        (n.lone k (words_of s.pieces s.marked))
