-- The words that the reader accepts are those that elements spell.
use Rattle.std.proofs.Common.{◌≡◌, ◌∙◌, ◌≤◌, cond, true, false, refl, sym, ap, subst, codes, List, [], ◌∷◌, ◌++◌, Bool, Some, None, Option, length, arith}
use Rattle.std.specs.List.{flat_map, list_all}
use Rattle.std.specs.Str.{bytes_eq}
use Rattle.clap.specs.Words.{Text}
use Rattle.clap.specs.Lexer.{long_of, short_of}
use Rattle.mmtel_words.specs.CommandLine.{Piece, Word, Apart, Joined, spelling, is_among, is_positional, word_in, mark_words, words_after_mark}
use Rattle.mmtel_words.proofs.Reader.{Form, mark, joined, apart, bad, Mode, reading, wanting, trailing, by_long, Entry, and_entry, at_place, by_form, read}
use Rattle.mmtel_words.proofs.Forms.{equal, joined_is, apart_is, place_is, joined_form, apart_form, place_form, is_name, among_all}

-- the positional words, each at its place
abbrev pub placed : List Text → List Text → List Entry
placed [] left = []
placed (w ∷ ws) [] = []
placed (w ∷ ws) (id ∷ left) = (id, w) ∷ placed ws left

-- the result of elements, and of positional words after them
abbrev pub entries_of : List Piece → List Text → List Text → List Entry
entries_of [] left ws = placed ws left
entries_of (Word w ∷ pieces) [] ws = entries_of pieces [] ws
entries_of (Word w ∷ pieces) (id ∷ left) ws = (id, w) ∷ entries_of pieces left ws
entries_of (Apart k v ∷ pieces) left ws = (k, v) ∷ entries_of pieces left ws
entries_of (Joined k v ∷ pieces) left ws = (k, v) ∷ entries_of pieces left ws

-- as `MayAppear`, but `-` may be a separate value
abbrev pub MayAppearSpelled : List Text → Piece → Type 0
MayAppearSpelled names (Word w) = is_positional w ≡ true
MayAppearSpelled names (Apart k v) = (is_among names k ≡ true) × (is_positional v ≡ true)
MayAppearSpelled names (Joined k v) = is_among names k ≡ true

abbrev pub EachMayAppearSpelled : List Text → List Piece → Type 0
EachMayAppearSpelled names [] = Unit {0}
EachMayAppearSpelled names (piece ∷ pieces) = MayAppearSpelled names piece × EachMayAppearSpelled names pieces

abbrev pub words_of : List Piece → Option (List Text) → List Text
words_of pieces marked = flat_map word_in pieces ++ words_after_mark marked

-- words that elements spell
pub record Spelled (names left ws : List Text) (es : List Entry) : Type 0 where
  pub pieces : List Piece
  pub marked : Option (List Text)
  pub whole : ws ≡ flat_map spelling pieces ++ mark_words marked
  pub stand : EachMayAppearSpelled names pieces
  pub are : es ≡ entries_of pieces left (words_after_mark marked)
  pub few : length (words_of pieces marked) ≤ length left

-- the words after an option that waits for its value
record Valued (names left ws : List Text) (k : Text) (es : List Entry) : Type 0 where
  value : Text
  rest : List Text
  more : List Entry
  whole : ws ≡ value ∷ rest
  plain : is_positional value ≡ true
  are : es ≡ (k, value) ∷ more
  behind : Spelled names left rest more

record Tail (left ws : List Text) (es : List Entry) : Type 0 where
  are : es ≡ placed ws left
  few : length ws ≤ length left

and_inv : (e : Entry) (r : Option (List Entry)) (es : List Entry) → and_entry e r ≡ Some es → (fs : List Entry) × (r ≡ Some fs) × (es ≡ e ∷ fs)
and_inv e None es h = absurd cc
and_inv e (Some fs) es h = (fs, refl, cc)

tail_of : (names ws left : List Text) (es : List Entry) → read names ws left trailing ≡ Some es → Tail left ws es
tail_of names [] left es e = record { are = cc; few = omega arith }
tail_of names (w ∷ ws) [] es e = absurd cc
tail_of names (w ∷ ws) (id ∷ left) es e =
    let q = and_inv (id, w) (read names ws left trailing) es e in
    let t = tail_of names ws left q.0 q.1 in
    record { are = q.2 ∙ ap (λ l. (id, w) ∷ l) t.are; few = omega (arith, t.few) }

abbrev SpelledAt : List Text → Mode → List Text → List Text → List Entry → Type 0
SpelledAt names reading ws left es = Spelled names left ws es
SpelledAt names (wanting k) ws left es = Valued names left ws k es
SpelledAt names trailing ws left es = Tail left ws es

with_mark : (names left xs : List Text) (es : List Entry) → Tail left xs es → Spelled names left (codes "--" ∷ xs) es
with_mark names left xs es t = record { pieces = []; marked = Some xs; whole = refl; stand = tt; are = t.are; few = t.few }

with_joined : (names left xs : List Text) (k v : Text) (fs : List Entry) → is_among names k ≡ true → Spelled names left xs fs → Spelled names left ((codes "--" ++ (k ++ 61 ∷ v)) ∷ xs) ((k, v) ∷ fs)
with_joined names left xs k v fs among r = record {
  pieces = Joined k v ∷ r.pieces;
  marked = r.marked;
  whole = ap (λ l. (codes "--" ++ (k ++ 61 ∷ v)) ∷ l) r.whole;
  stand = (among, r.stand);
  are = ap (λ l. (k, v) ∷ l) r.are;
  few = r.few;
}

with_apart : (names left xs : List Text) (k : Text) (es : List Entry) → is_among names k ≡ true → Valued names left xs k es → Spelled names left ((codes "--" ++ k) ∷ xs) es
with_apart names left xs k es among q = record {
  pieces = Apart k q.value ∷ q.behind.pieces;
  marked = q.behind.marked;
  whole = ap (λ l. (codes "--" ++ k) ∷ l) (q.whole ∙ ap (λ l. q.value ∷ l) q.behind.whole);
  stand = ((among, q.plain), q.behind.stand);
  are = q.are ∙ ap (λ l. (k, q.value) ∷ l) q.behind.are;
  few = q.behind.few;
}

with_word : (names left xs : List Text) (id w : Text) (fs : List Entry) → is_positional w ≡ true → Spelled names left xs fs → Spelled names (id ∷ left) (w ∷ xs) ((id, w) ∷ fs)
with_word names left xs id w fs p r = record {
  pieces = Word w ∷ r.pieces;
  marked = r.marked;
  whole = ap (λ l. w ∷ l) r.whole;
  stand = (p, r.stand);
  are = ap (λ l. (id, w) ∷ l) r.are;
  few = omega (arith, r.few);
}

-- a word that is read in three ways, with what is claimed of the words after it
module _ (names : List Text) (x : Text) (xs : List Text) (ih : (m : Mode) (left : List Text) (es : List Entry) → read names xs left m ≡ Some es → SpelledAt names m xs left es) where
  abbrev on_reading : List Text → Form → Option (List Entry)
  on_reading left f = by_form f (read names xs left trailing) (λ n v. and_entry (n, v) (read names xs left reading)) (λ n. read names xs left (wanting n)) (at_place left x (λ l. read names xs l reading))

  abbrev on_wanting : List Text → Text → Form → Option (List Entry)
  on_wanting left k f = by_form f None (λ _ _. None) (λ _. None) (and_entry (k, x) (read names xs left reading))

  joined_word : (left : List Text) (es : List Entry) (k v : Text) → long_of x ≡ Some (k, Some v) → (b : Bool) → is_among names k ≡ b → on_reading left (cond b (joined k v) bad) ≡ Some es → Spelled names left (x ∷ xs) es
  joined_word left es k v l false among e = absurd cc
  joined_word left es k v l true among e =
      let q = and_inv (k, v) (read names xs left reading) es e in
      let P : Text → Type 0 = λ w. Spelled names left (w ∷ xs) es in
      let Q : List Entry → Type 0 = λ f. Spelled names left ((codes "--" ++ (k ++ 61 ∷ v)) ∷ xs) f in
      subst P (sym (joined_is x k v l)) (subst Q (sym q.2) (with_joined names left xs k v q.0 among (ih reading left q.0 q.1)))

  apart_word : (left : List Text) (es : List Entry) (k : Text) → long_of x ≡ Some (k, None) → (b : Bool) → is_among names k ≡ b → on_reading left (cond b (apart k) bad) ≡ Some es → Spelled names left (x ∷ xs) es
  apart_word left es k l false among e = absurd cc
  apart_word left es k l true among e =
      let P : Text → Type 0 = λ w. Spelled names left (w ∷ xs) es in
      subst P (sym (apart_is x k l)) (with_apart names left xs k es among (ih (wanting k) left es e))

  place_word : (left : List Text) (es : List Entry) → is_positional x ≡ true → at_place left x (λ l. read names xs l reading) ≡ Some es → Spelled names left (x ∷ xs) es
  place_word [] es p e = absurd cc
  place_word (id ∷ left) es p e =
      let q = and_inv (id, x) (read names xs left reading) es e in
      let Q : List Entry → Type 0 = λ f. Spelled names (id ∷ left) (x ∷ xs) f in
      subst Q (sym q.2) (with_word names left xs id x q.0 p (ih reading left q.0 q.1))

  any_word : (left : List Text) (es : List Entry) (d : Bool) (l : Option (Text × Option Text)) (sh : Option Text) → bytes_eq x (45 ∷ 45 ∷ []) ≡ d → long_of x ≡ l → short_of x ≡ sh
      → on_reading left (cond d mark (by_long names l sh)) ≡ Some es → Spelled names left (x ∷ xs) es
  any_word left es true l sh d le she e =
      let P : Text → Type 0 = λ w. Spelled names left (w ∷ xs) es in
      subst P (sym (equal x (45 ∷ 45 ∷ []) d)) (with_mark names left xs es (ih trailing left es e))
  any_word left es false (Some (k, Some v)) sh d le she e = joined_word left es k v le (is_among names k) refl e
  any_word left es false (Some (k, None)) sh d le she e = apart_word left es k le (is_among names k) refl e
  any_word left es false None (Some flags) d le she e = absurd cc
  any_word left es false None None d le she e = place_word left es (place_is x d le she) e

  bad_value : (left : List Text) (es : List Entry) (k name : Text) (v : Option Text) (sh : Option Text) → on_wanting left k (by_long names (Some (name, v)) sh) ≡ Some es → ⊥
  bad_value left es k name (Some v) sh e = by (is_among names name) e
    where
      by : (b : Bool) → on_wanting left k (cond b (joined name v) bad) ≡ Some es → ⊥
      by true e = cc
      by false e = cc
  bad_value left es k name None sh e = by (is_among names name) e
    where
      by : (b : Bool) → on_wanting left k (cond b (apart name) bad) ≡ Some es → ⊥
      by true e = cc
      by false e = cc

  value_word : (left : List Text) (es : List Entry) (k : Text) (d : Bool) (l : Option (Text × Option Text)) (sh : Option Text) → bytes_eq x (45 ∷ 45 ∷ []) ≡ d → long_of x ≡ l → short_of x ≡ sh
      → on_wanting left k (cond d mark (by_long names l sh)) ≡ Some es → Valued names left (x ∷ xs) k es
  value_word left es k true l sh d le she e = absurd cc
  value_word left es k false (Some (name, v)) sh d le she e = absurd (bad_value left es k name v sh e)
  value_word left es k false None (Some flags) d le she e = absurd cc
  value_word left es k false None None d le she e =
      let q = and_inv (k, x) (read names xs left reading) es e in
      record { value = x; rest = xs; more = q.0; whole = refl; plain = place_is x d le she; are = q.2; behind = ih reading left q.0 q.1 }

spelled_at : (names ws : List Text) (m : Mode) (left : List Text) (es : List Entry) → read names ws left m ≡ Some es → SpelledAt names m ws left es
spelled_at names [] reading left es e = record { pieces = []; marked = None; whole = refl; stand = tt; are = cc; few = omega arith }
spelled_at names [] (wanting k) left es e = absurd cc
spelled_at names [] trailing left es e = record { are = cc; few = omega arith }
spelled_at names (x ∷ xs) trailing left es e = tail_of names (x ∷ xs) left es e
spelled_at names (x ∷ xs) reading left es e = any_word names x xs (spelled_at names xs) left es (bytes_eq x (45 ∷ 45 ∷ [])) (long_of x) (short_of x) refl refl refl e
spelled_at names (x ∷ xs) (wanting k) left es e = value_word names x xs (spelled_at names xs) left es k (bytes_eq x (45 ∷ 45 ∷ [])) (long_of x) (short_of x) refl refl refl e

pub spelled : (names ws left : List Text) (es : List Entry) → read names ws left reading ≡ Some es → Spelled names left ws es
spelled names ws left es e = spelled_at names ws reading left es e

-- ---- and back

plain_again : (names ws left : List Text) → length ws ≤ length left → read names ws left trailing ≡ Some (placed ws left)
plain_again names [] left few = refl
plain_again names (w ∷ ws) [] few = absurd (omega arith)
plain_again names (w ∷ ws) (id ∷ left) few = ap (and_entry (id, w)) (plain_again names ws left (omega arith))

pub read_again : (names : List Text) → list_all is_name names ≡ true → (marked : Option (List Text)) (pieces : List Piece) (left : List Text) → EachMayAppearSpelled names pieces →
    length (words_of pieces marked) ≤ length left
    → read names (flat_map spelling pieces ++ mark_words marked) left reading ≡ Some (entries_of pieces left (words_after_mark marked))
read_again names fine None [] left stand few = refl
read_again names fine (Some ws) [] left stand few = plain_again names ws left few
read_again names fine marked (Word w ∷ pieces) [] stand few = absurd (omega arith)
read_again names fine marked (Word w ∷ pieces) (id ∷ left) stand few =
    let rest = flat_map spelling pieces ++ mark_words marked in
    ap (on_reading names w rest (spelled_at names rest) (id ∷ left)) (place_form names w stand.0)
    ∙ ap (and_entry (id, w)) (read_again names fine marked pieces left stand.1 (omega arith))
read_again names fine marked (Apart k v ∷ pieces) left stand few =
    let rest = flat_map spelling pieces ++ mark_words marked in
    ap (on_reading names (codes "--" ++ k) (v ∷ rest) (spelled_at names (v ∷ rest)) left) (apart_form names k (among_all is_name names k fine stand.0.0) stand.0.0)
    ∙ ap (on_wanting names v rest (spelled_at names rest) left k) (place_form names v stand.0.1)
    ∙ ap (and_entry (k, v)) (read_again names fine marked pieces left stand.1 few)
read_again names fine marked (Joined k v ∷ pieces) left stand few =
    let rest = flat_map spelling pieces ++ mark_words marked in
    ap (on_reading names (codes "--" ++ (k ++ 61 ∷ v)) rest (spelled_at names rest) left) (joined_form names k v (among_all is_name names k fine stand.0) stand.0)
    ∙ ap (and_entry (k, v)) (read_again names fine marked pieces left stand.1 few)
