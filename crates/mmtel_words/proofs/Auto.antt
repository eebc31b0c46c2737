-- A command of options and places (positional arguments), each with one required value: the result of `clap` for any words is that of the reader.
use Rattle.std.proofs.Common.{◌≡◌, ◌∙◌, ℕ, ◌+◌, ◌&&◌, ◌||◌, cond, min, true, false, not, refl, sym, ap, List, [], ◌∷◌, ◌++◌, Bool, Some, None, Option, slice_get, find}
use Rattle.std.specs.List.{list_all}
use Rattle.std.specs.Option.{option_map_or}
use Rattle.std.specs.Str.{bytes_eq, chars}
use Rattle.clap.specs.Words.{Text, Row, Rule, Shape}
use Rattle.clap.specs.Lexer.{long_of, short_of}
use Rattle.clap.specs.Facts.{explicit_source}
use Rattle.clap.specs.Kinds.{or_else}
use Rattle.clap.specs.Takes.{is_given}
use Rattle.clap.specs.Values.{reading_of}
use Rattle.clap.specs.Walk.{Held, Walk, Waiting, idle, option, has_row, used, settled, settled_rows, walked, finished, arg_by_id, arg_by_index, arg_by_long, arg_by_short}
use Rattle.clap.specs.Faults.{settle_fault, turn_fault, defaults_fault, check_fault}
use Rattle.clap.specs.declared.builder.value_parser.ValueParser.TheVariants as vp
use Rattle.clap.specs.declared.parser.matches.ValueSource.TheVariants.{CommandLine}
use Rattle.mmtel_words.specs.CommandLine.{is_among}
use Rattle.mmtel_words.proofs.Reader.{Form, mark, joined, apart, place, bad, reading, wanting, trailing, by_long, Entry, and_entry, at_place, by_form, read}
use Rattle.mmtel_words.proofs.Walked.{none, none-or, Single, use-one, used-one, row_by, cond-none, at, goes, place-turn, place-next, stray-turn, dashes-turn, dashes-next, dashes-turn-w, dashes-next-w, unknown-turn}
use Rattle.mmtel_words.proofs.Walked.{valued-turn, valued-next, wanting-turn, wanting-next, word-turn, word-next, value-turn, value-next, short-turn, waiting-turn, unknown-turn-w, short-turn-w, word-stray-turn, use-none}
use Rattle.std.proofs.lemmas.Slice.Eq.{bytes_eq-Decides}

-- what the library keeps of an entry
abbrev pub row : Entry → Row
row e = record { id = e.0; values = e.1 ∷ []; count = None; source = Some CommandLine; reading = reading_of vp.String }

abbrev pub rows : List Entry → List Row
rows [] = []
rows (e ∷ es) = row e ∷ rows es

pub rows-more : (es : List Entry) (e : Entry) → rows (es ++ e ∷ []) ≡ rows es ++ row e ∷ []
rows-more [] e = refl
rows-more (d ∷ es) e = ap (λ t. row d ∷ t) (rows-more es e)

-- one entry more, where its name is new
abbrev pub settle : List Entry → Option Entry → (List Entry → Option (List Row)) → Option (List Row)
settle E None f = f E
settle E (Some e) f = cond (has_row e.0 (rows E)) None (f (E ++ e ∷ []))

-- these entries more, each of a new name, and all required names are there
abbrev pub puts : List Text → List Entry → List Entry → Option (List Row)
puts keys E [] = cond (list_all (λ k. has_row k (rows E)) keys) (Some (rows E)) None
puts keys E (e ∷ es) = settle E (Some e) (λ F. puts keys F es)

abbrev pub good : List Text → List Entry → Option (List Entry) → Option (List Row)
good keys E None = None
good keys E (Some es) = puts keys E es

pub settle-none : (E : List Entry) (p : Option Entry) (f : List Entry → Option (List Row)) → ((F : List Entry) → f F ≡ None) → settle E p f ≡ None
settle-none E None f h = h E
settle-none E (Some e) f h = by (has_row e.0 (rows E))
  where
    by : (b : Bool) → cond b None (f (E ++ e ∷ [])) ≡ None
    by true = refl
    by false = h (E ++ e ∷ [])

pub and-good : (keys : List Text) (E : List Entry) (e : Entry) (r : Option (List Entry)) → good keys E (and_entry e r) ≡ settle E (Some e) (λ F. good keys F r)
and-good keys E e None = sym (settle-none E (Some e) (λ F. None) (λ F. refl))
and-good keys E e (Some es) = refl

-- a rule of that name
pub record Keyed (s : Shape) (k : Text) : Type 0 where
  pub a : Rule
  pub single : Single a
  pub named : a.id ≡ k
  pub by_id : arg_by_id s.rules k ≡ Some a

pub record Optional (s : Shape) (k : Text) : Type 0 where
  pub key : Keyed s k
  pub long : arg_by_long s.rules k ≡ Some key.a

pub record Placed (s : Shape) (n : ℕ) (k : Text) : Type 0 where
  pub key : Keyed s k
  pub index : arg_by_index s.rules n ≡ Some key.a
  pub fits : min (n + 1) 18446744073709551615 ≡ n + 1

-- the places from the n-th on
abbrev pub Places : Shape → ℕ → List Text → Type 0
Places s n [] = arg_by_index s.rules n ≡ None
Places s n (k ∷ left) = Placed s n k × Places s (n + 1) left

pub record Setup (s : Shape) (names keys : List Text) : Type 0 where
  pub known : (k : Text) → is_among names k ≡ true → Optional s k
  pub lost : (k : Text) → is_among names k ≡ false → arg_by_long s.rules k ≡ None
  pub short : (x : ℕ) → arg_by_short s.rules x ≡ None
  pub leaf : s.is_leaf ≡ true
  pub again : s.args_override_self ≡ false
  pub ends : (h : Held) → none (or_else (defaults_fault (settled s.rules h).rows s.rules) (check_fault s (finished s.rules h) false)) ≡ list_all (λ k. is_given k (settled s.rules h).rows) keys

-- the first byte of a flag word is a character
abbrev pub Readable : Text → Type 0
Readable x = (flags : Text) → short_of x ≡ Some flags → (y : ℕ) × (ys : Text) × (c : ℕ) × (flags ≡ y ∷ ys) × (slice_get (chars (y ∷ ys)) 0 ≡ Some c)

abbrev pub AllReadable : List Text → Type 0
AllReadable [] = Unit {0}
AllReadable (x ∷ xs) = Readable x × AllReadable xs

-- what was added by the words is present
given-is : (k : Text) (E : List Entry) → is_given k (rows E) ≡ has_row k (rows E)
given-is k [] = refl
given-is k (e ∷ es) = by (bytes_eq e.0 k) (given-is k es)
  where
    by : (b : Bool) → is_given k (rows es) ≡ has_row k (rows es) →
        option_map_or (λ (q : Row). explicit_source q.source) (cond b (Some (row e)) (find (λ (q : Row). bytes_eq q.id k) (rows es))) false ≡ (b || has_row k (rows es))
    by true h = refl
    by false h = h

all-given : (E : List Entry) (keys : List Text) → list_all (λ k. is_given k (rows E)) keys ≡ list_all (λ k. has_row k (rows E)) keys
all-given E [] = refl
all-given E (k ∷ keys) = ap (λ b. b && list_all (λ j. is_given j (rows E)) keys) (given-is k E) ∙ ap (λ b. has_row k (rows E) && b) (all-given E keys)

abbrev pub held : Option Entry → Option (Text × List Text)
held None = None
held (Some e) = Some (e.0, e.1 ∷ [])

abbrev pub Ready : Shape → Option Entry → Type 0
Ready s None = Unit {0}
Ready s (Some e) = Keyed s e.0

abbrev open_at : Shape → List Entry → Option (Text × List Text) → Bool
open_at s E p = none (settle_fault s.rules false (record { rows = rows E; pending = p; skip = 0 }))

settle_here : (s : Shape) (E : List Entry) (e : Entry) → Keyed s e.0 → open_at s E (Some (e.0, e.1 ∷ [])) ≡ not (has_row e.0 (rows E))
settle_here s E e key = rw key.by_id (ap none (use-one key.a e.1 (rows E) key.single) ∙ cond-none (has_row key.a.id (rows E)) ∙ ap (λ i. not (has_row i (rows E))) key.named)

row-named : (s : Shape) (e : Entry) (key : Keyed s e.0) → row_by key.a e.1 ≡ row e
row-named s e key = rw (key.single.parser, key.named) refl

used_here : (s : Shape) (E : List Entry) (e : Entry) (key : Keyed s e.0) → has_row e.0 (rows E) ≡ false → used key.a (e.1 ∷ []) (rows E) ≡ rows (E ++ e ∷ [])
used_here s E e key new =
    used-one key.a e.1 (rows E) key.single (ap (λ i. has_row i (rows E)) key.named ∙ new) ∙ ap (λ r. rows E ++ r ∷ []) (row-named s e key) ∙ sym (rows-more E e)

settled_here : (s : Shape) (E : List Entry) (e : Entry) → Keyed s e.0 → has_row e.0 (rows E) ≡ false → settled_rows s.rules (Some (e.0, e.1 ∷ [])) (rows E) ≡ rows (E ++ e ∷ [])
settled_here s E e key new = rw key.by_id (used_here s E e key new)

-- a word at which the pending entry is completed
settling : (s : Shape) (E : List Entry) (p : Option Entry) → Ready s p → (g : Option (List Row)) (C : List Row → Option (List Row)) (f : List Entry → Option (List Row))
    → g ≡ cond (open_at s E (held p)) (C (settled_rows s.rules (held p) (rows E))) None → ((F : List Entry) → C (rows F) ≡ f F) → g ≡ settle E p f
settling s E None r g C f step rest = step ∙ rest E
settling s E (Some e) r g C f step rest =
    step ∙ ap (λ b. cond b (C (settled_rows s.rules (Some (e.0, e.1 ∷ [])) (rows E))) None) (settle_here s E e r) ∙ by (has_row e.0 (rows E)) refl
  where
    by : (b : Bool) → has_row e.0 (rows E) ≡ b → cond (not b) (C (settled_rows s.rules (Some (e.0, e.1 ∷ [])) (rows E))) None ≡ cond b None (f (E ++ e ∷ []))
    by true h = refl
    by false h = ap C (settled_here s E e r h) ∙ rest (E ++ e ∷ [])

stepped : (s : Shape) (w v : Walk) (x : Text) (xs : List Text) (b : Bool) → none (turn_fault s [] w x) ≡ b → walked s.rules [] w x ≡ v → goes s w (x ∷ xs) ≡ cond b (goes s v xs) None
stepped s w v x xs b turn next = ap (λ t. cond t (goes s (walked s.rules [] w x) xs) None) turn ∙ ap (λ q. cond b (goes s q xs) None) next

failing : (s : Shape) (w : Walk) (x : Text) (xs : List Text) → none (turn_fault s [] w x) ≡ false → goes s w (x ∷ xs) ≡ None
failing s w x xs turn = ap (λ t. cond t (goes s (walked s.rules [] w x) xs) None) turn

-- one use of an option, with its value
using_here : (s : Shape) (E : List Entry) (e : Entry) (key : Keyed s e.0) (N : List Row → Walk) (xs : List Text) (f : List Entry → Option (List Row)) → ((F : List Entry) → goes s (N (rows F)) xs ≡ f F)
    → cond (not (has_row e.0 (rows E))) (goes s (N (used key.a (e.1 ∷ []) (rows E))) xs) None ≡ settle E (Some e) f
using_here s E e key N xs f rest = by (has_row e.0 (rows E)) refl
  where
    by : (b : Bool) → has_row e.0 (rows E) ≡ b → cond (not b) (goes s (N (used key.a (e.1 ∷ []) (rows E))) xs) None ≡ cond b None (f (E ++ e ∷ []))
    by true h = refl
    by false h = ap (λ r. goes s (N r) xs) (used_here s E e key h) ∙ rest (E ++ e ∷ [])

cond-and : (a b : Bool) (g : Option (List Row)) → cond (a && b) g None ≡ cond a (cond b g None) None
cond-and true b g = refl
cond-and false b g = refl

same-text : (a b : Text) → a ≡ b → bytes_eq b a ≡ true
same-text a b e = (bytes_eq-Decides b a).1 (sym e)

module _ (s : Shape) (names keys : List Text) (u : Setup s names keys) where
  abbrev st : List Entry → Option Entry → Waiting → Bool → ℕ → Walk
  st E p wt tr n = at (rows E) (held p) wt tr n

  abbrev waits : List Entry → Text → ℕ → Walk
  waits E k n = at (rows E) (Some (k, [])) (option k) false n

  -- what is claimed of the remaining words, in each of three states
  record Claim (ws : List Text) : Type 0 where
    tr : (E : List Entry) (p : Option Entry) (wt : Waiting) (n : ℕ) (left : List Text) → Places s n left → Ready s p → goes s (st E p wt true n) ws ≡ settle E p (λ F. good keys F (read names ws left trailing))
    rd : (E : List Entry) (p : Option Entry) (n : ℕ) (left : List Text) → Places s n left → Ready s p → goes s (st E p idle false n) ws ≡ settle E p (λ F. good keys F (read names ws left reading))
    wt : (E : List Entry) (k : Text) (n : ℕ) (left : List Text) → Places s n left → is_among names k ≡ true → goes s (waits E k n) ws ≡ good keys E (read names ws left (wanting k))

  -- at the end
  ending : (E : List Entry) (p : Option Entry) (wt : Waiting) (tr : Bool) (n : ℕ) → Ready s p → goes s (st E p wt tr n) [] ≡ settle E p (λ F. puts keys F [])
  ending E p wt tr n r =
      let h : Held = record { rows = rows E; pending = held p; skip = 0 } in
      let D = list_all (λ k. is_given k (settled s.rules h).rows) keys in
      settling s E p r (goes s (st E p wt tr n) []) (λ R. cond (list_all (λ k. is_given k R) keys) (Some R) None) (λ F. puts keys F [])
      (ap (λ b. cond b (Some (settled s.rules h).rows) None) (none-or (settle_fault s.rules false h) _ ∙ ap (λ b. none (settle_fault s.rules false h) && b) (u.ends h))
      ∙ cond-and (open_at s E (held p)) D (Some (settled s.rules h).rows))
      (λ F. ap (λ b. cond b (Some (rows F)) None) (all-given F keys))

  -- an option with no value after it
  shut : (E : List Entry) (k : Text) → Keyed s k → open_at s E (Some (k, [])) ≡ false
  shut E k key = rw key.by_id (use-none key.a (rows E) key.single)

  doomed-end : (E : List Entry) (k : Text) (wt : Waiting) (tr : Bool) (n : ℕ) → Keyed s k → goes s (at (rows E) (Some (k, [])) wt tr n) [] ≡ None
  doomed-end E k wt tr n key =
      let h : Held = record { rows = rows E; pending = Some (k, []); skip = 0 } in
      ap (λ b. cond b (Some (settled s.rules h).rows) None)
      (none-or (settle_fault s.rules false h) _ ∙ ap (λ b. b && none (or_else (defaults_fault (settled s.rules h).rows s.rules) (check_fault s (finished s.rules h) false))) (shut E k key))

  doomed : (E : List Entry) (k : Text) (wt : Waiting) (n : ℕ) (left ws : List Text) → Places s n left → Keyed s k → goes s (at (rows E) (Some (k, [])) wt true n) ws ≡ None
  doomed E k wt n left [] pl key = doomed-end E k wt true n key
  doomed E k wt n [] (x ∷ xs) pl key = failing s (at (rows E) (Some (k, [])) wt true n) x xs (ap none (stray-turn s (rows E) (Some (k, [])) wt n x pl u.leaf))
  doomed E k wt n (id ∷ left) (x ∷ xs) pl key =
      let here = pl.0.key in
      failing s (at (rows E) (Some (k, [])) wt true n) x xs (ap none (place-turn s here.a (rows E) (Some (k, [])) wt n x here.single pl.0.index u.again) ∙ shut E k key)

  claim-end : Claim []
  claim-end = record {
    tr = λ E p wt n left pl r. ending E p wt true n r;
    rd = λ E p n left pl r. ending E p idle false n r;
    wt = λ E k n left pl among. doomed-end E k (option k) false n (u.known k among).key;
  }

  tr-step : (x : Text) (xs : List Text) → Claim xs → (E : List Entry) (p : Option Entry) (wt : Waiting) (n : ℕ) (left : List Text) → Places s n left → Ready s p
      → goes s (st E p wt true n) (x ∷ xs) ≡ settle E p (λ F. good keys F (at_place left x (λ l. read names xs l trailing)))
  tr-step x xs ih E p wt n [] pl r =
      failing s (st E p wt true n) x xs (ap none (stray-turn s (rows E) (held p) wt n x pl u.leaf)) ∙ sym (settle-none E p (λ F. None) (λ F. refl))
  tr-step x xs ih E p wt n (id ∷ left) pl r =
      let here = pl.0.key in
      let N : List Row → Walk = λ R. at R (Some (id, x ∷ [])) idle true (n + 1) in
      let R = settled_rows s.rules (held p) (rows E) in
      settling s E p r (goes s (st E p wt true n) (x ∷ xs)) (λ R. goes s (N R) xs) (λ F. good keys F (and_entry (id, x) (read names xs left trailing)))
      (stepped s (st E p wt true n) (N R) x xs (open_at s E (held p))
      (ap none (place-turn s here.a (rows E) (held p) wt n x here.single pl.0.index u.again))
      (place-next s here.a (rows E) (held p) wt n x here.single pl.0.index pl.0.fits ∙ ap (λ i. at R (Some (i, x ∷ [])) idle true (n + 1)) here.named))
      (λ F. ih.tr F (Some (id, x)) idle (n + 1) left pl.1 here ∙ sym (and-good keys F (id, x) (read names xs left trailing)))

  -- a word that is read according to the grammar, by its form
  abbrev Reads : Text → List Text → List Entry → Option Entry → ℕ → List Text → Form → Type 0
  Reads x xs E p n left f = goes s (st E p idle false n) (x ∷ xs)
      ≡ settle E p
      (λ F. good keys F (by_form f (read names xs left trailing) (λ k v. and_entry (k, v) (read names xs left reading)) (λ k. read names xs left (wanting k)) (at_place left x (λ l. read names xs l reading))))

  place-step : (x : Text) (xs : List Text) → Claim xs → (E : List Entry) (p : Option Entry) (n : ℕ) (left : List Text) → Places s n left → Ready s p
      → bytes_eq x (45 ∷ 45 ∷ []) ≡ false → long_of x ≡ None → short_of x ≡ None → Reads x xs E p n left place
  place-step x xs ih E p n [] pl r d l sh =
      failing s (st E p idle false n) x xs (ap none (word-stray-turn s (rows E) (held p) n x d l sh pl u.leaf)) ∙ sym (settle-none E p (λ F. None) (λ F. refl))
  place-step x xs ih E p n (id ∷ left) pl r d l sh =
      let here = pl.0.key in
      let N : List Row → Walk = λ R. at R (Some (id, x ∷ [])) idle false (n + 1) in
      let R = settled_rows s.rules (held p) (rows E) in
      settling s E p r (goes s (st E p idle false n) (x ∷ xs)) (λ R. goes s (N R) xs) (λ F. good keys F (and_entry (id, x) (read names xs left reading)))
      (stepped s (st E p idle false n) (N R) x xs (open_at s E (held p))
      (ap none (word-turn s here.a (rows E) (held p) n x here.single d l sh pl.0.index u.again))
      (word-next s here.a (rows E) (held p) n x here.single d l sh pl.0.index pl.0.fits ∙ ap (λ i. at R (Some (i, x ∷ [])) idle false (n + 1)) here.named))
      (λ F. ih.rd F (Some (id, x)) (n + 1) left pl.1 here ∙ sym (and-good keys F (id, x) (read names xs left reading)))

  joined-step : (x : Text) (xs : List Text) → Claim xs → (E : List Entry) (p : Option Entry) (n : ℕ) (left : List Text) → Places s n left → Ready s p
      → bytes_eq x (45 ∷ 45 ∷ []) ≡ false → (k v : Text) → long_of x ≡ Some (k, Some v) → (b : Bool) → is_among names k ≡ b → Reads x xs E p n left (cond b (joined k v) bad)
  joined-step x xs ih E p n left pl r d k v l false among =
      failing s (st E p idle false n) x xs (ap none (unknown-turn s (rows E) (held p) n x k (Some v) d l (u.lost k among))) ∙ sym (settle-none E p (λ F. None) (λ F. refl))
  joined-step x xs ih E p n left pl r d k v l true among =
      let o = u.known k among in
      let here = o.key in
      let N : List Row → Walk = λ R. at R None idle false n in
      let R = settled_rows s.rules (held p) (rows E) in
      let f : List Entry → Option (List Row) = λ F. good keys F (read names xs left reading) in
      settling s E p r (goes s (st E p idle false n) (x ∷ xs)) (λ R. cond (not (has_row k R)) (goes s (N (used here.a (v ∷ []) R)) xs) None) (λ F. good keys F (and_entry (k, v) (read names xs left reading)))
      (stepped s (st E p idle false n) (N (used here.a (v ∷ []) R)) x xs (open_at s E (held p) && not (has_row k R))
      (valued-turn s here.a (rows E) (held p) n x k v here.single d l o.long u.again ∙ ap (λ i. open_at s E (held p) && not (has_row i R)) here.named)
      (valued-next s here.a (rows E) (held p) n x k v here.single d l o.long)
      ∙ cond-and (open_at s E (held p)) (not (has_row k R)) (goes s (N (used here.a (v ∷ []) R)) xs))
      (λ F. using_here s F (k, v) here N xs f (λ G. ih.rd G None n left pl tt) ∙ sym (and-good keys F (k, v) (read names xs left reading)))

  apart-step : (x : Text) (xs : List Text) → Claim xs → (E : List Entry) (p : Option Entry) (n : ℕ) (left : List Text) → Places s n left → Ready s p
      → bytes_eq x (45 ∷ 45 ∷ []) ≡ false → (k : Text) → long_of x ≡ Some (k, None) → (b : Bool) → is_among names k ≡ b → Reads x xs E p n left (cond b (apart k) bad)
  apart-step x xs ih E p n left pl r d k l false among =
      failing s (st E p idle false n) x xs (ap none (unknown-turn s (rows E) (held p) n x k None d l (u.lost k among))) ∙ sym (settle-none E p (λ F. None) (λ F. refl))
  apart-step x xs ih E p n left pl r d k l true among =
      let o = u.known k among in
      let here = o.key in
      let N : List Row → Walk = λ R. at R (Some (k, [])) (option k) false n in
      let R = settled_rows s.rules (held p) (rows E) in
      settling s E p r (goes s (st E p idle false n) (x ∷ xs)) (λ R. goes s (N R) xs) (λ F. good keys F (read names xs left (wanting k)))
      (stepped s (st E p idle false n) (N R) x xs (open_at s E (held p))
      (wanting-turn s here.a (rows E) (held p) n x k here.single d l o.long u.again)
      (wanting-next s here.a (rows E) (held p) n x k here.single d l o.long ∙ ap (λ i. at R (Some (i, [])) (option i) false n) here.named))
      (λ F. ih.wt F k n left pl among)

  rd-case : (x : Text) (xs : List Text) → Readable x → Claim xs → (E : List Entry) (p : Option Entry) (n : ℕ) (left : List Text) → Places s n left → Ready s p
      → (d : Bool) (l : Option (Text × Option Text)) (sh : Option Text) → bytes_eq x (45 ∷ 45 ∷ []) ≡ d → long_of x ≡ l → short_of x ≡ sh
      → Reads x xs E p n left (cond d mark (by_long names l sh))
  rd-case x xs ok ih E p n left pl r true l sh d le she =
      stepped s (st E p idle false n) (st E p idle true n) x xs true (ap none (dashes-turn s (rows E) (held p) n x d)) (dashes-next s (rows E) (held p) n x d) ∙ ih.tr E p idle n left pl r
  rd-case x xs ok ih E p n left pl r false (Some (k, Some v)) sh d le she = joined-step x xs ih E p n left pl r d k v le (is_among names k) refl
  rd-case x xs ok ih E p n left pl r false (Some (k, None)) sh d le she = apart-step x xs ih E p n left pl r d k le (is_among names k) refl
  rd-case x xs ok ih E p n left pl r false None (Some flags) d le she =
      let q = ok flags she in
      failing s (st E p idle false n) x xs (ap none (short-turn s (rows E) (held p) n q.2 q.0 x q.1 d le (she ∙ ap (λ t. Some t) q.3) q.4 (u.short q.2))) ∙ sym (settle-none E p (λ F. None) (λ F. refl))
  rd-case x xs ok ih E p n left pl r false None None d le she = place-step x xs ih E p n left pl r d le she

  -- a word after an option that waits for its value
  abbrev Waits : Text → List Text → List Entry → Text → ℕ → List Text → Form → Type 0
  Waits x xs E k n left f = goes s (waits E k n) (x ∷ xs) ≡ good keys E (by_form f None (λ _ _. None) (λ _. None) (and_entry (k, x) (read names xs left reading)))

  other-step : (x : Text) (xs : List Text) (E : List Entry) (k : Text) (n : ℕ) → Keyed s k → bytes_eq x (45 ∷ 45 ∷ []) ≡ false → (name : Text) (v : Option Text) → long_of x ≡ Some (name, v)
      → (b : Bool) → is_among names name ≡ b → goes s (waits E k n) (x ∷ xs) ≡ None
  other-step x xs E k n key d name v l true among =
      let o = u.known name among in
      failing s (waits E k n) x xs (waiting-turn s key.a o.key.a k (rows E) n x name v key.single o.key.single d l o.long key.by_id u.again)
  other-step x xs E k n key d name v l false among = failing s (waits E k n) x xs (ap none (unknown-turn-w s (rows E) (Some (k, [])) k n x name v d l (u.lost name among)))

  no-value : (b : Bool) (k v : Text) (r : Option (List Entry)) → by_form (cond b (joined k v) bad) None (λ _ _. None) (λ _. None) r ≡ None
  no-value true k v r = refl
  no-value false k v r = refl

  no-value-apart : (b : Bool) (k : Text) (r : Option (List Entry)) → by_form (cond b (apart k) bad) None (λ _ _. None) (λ _. None) r ≡ None
  no-value-apart true k r = refl
  no-value-apart false k r = refl

  wt-case : (x : Text) (xs : List Text) → Readable x → Claim xs → (E : List Entry) (k : Text) (n : ℕ) (left : List Text) → Places s n left → is_among names k ≡ true
      → (d : Bool) (l : Option (Text × Option Text)) (sh : Option Text) → bytes_eq x (45 ∷ 45 ∷ []) ≡ d → long_of x ≡ l → short_of x ≡ sh
      → Waits x xs E k n left (cond d mark (by_long names l sh))
  wt-case x xs ok ih E k n left pl among true l sh d le she =
      let key = (u.known k among).key in
      stepped s (waits E k n) (at (rows E) (Some (k, [])) (option k) true n) x xs true (ap none (dashes-turn-w s (rows E) (Some (k, [])) k n x d)) (dashes-next-w s (rows E) (Some (k, [])) k n x d)
      ∙ doomed E k (option k) n left xs pl key
  wt-case x xs ok ih E k n left pl among false (Some (name, Some v)) sh d le she =
      other-step x xs E k n (u.known k among).key d name (Some v) le (is_among names name) refl ∙ sym (ap (good keys E) (no-value (is_among names name) name v (and_entry (k, x) (read names xs left reading))))
  wt-case x xs ok ih E k n left pl among false (Some (name, None)) sh d le she =
      other-step x xs E k n (u.known k among).key d name None le (is_among names name) refl ∙ sym (ap (good keys E) (no-value-apart (is_among names name) name (and_entry (k, x) (read names xs left reading))))
  wt-case x xs ok ih E k n left pl among false None (Some flags) d le she =
      let q = ok flags she in
      failing s (waits E k n) x xs (ap none (short-turn-w s (rows E) (Some (k, [])) k n q.2 q.0 x q.1 d le (she ∙ ap (λ t. Some t) q.3) q.4 (u.short q.2)))
  wt-case x xs ok ih E k n left pl among false None None d le she =
      let key = (u.known k among).key in
      stepped s (waits E k n) (st E (Some (k, x)) idle false n) x xs true (ap none (value-turn s (rows E) (Some (k, [])) k n x d le she))
      (value-next s key.a k (rows E) n x key.single d le she key.by_id (same-text key.a.id k key.named))
      ∙ ih.rd E (Some (k, x)) n left pl key ∙ sym (and-good keys E (k, x) (read names xs left reading))

  claim : (ws : List Text) → AllReadable ws → Claim ws
  claim [] ok = claim-end
  claim (x ∷ xs) ok =
      let ih = claim xs ok.1 in
      record {
        tr = λ E p wt n left pl r. tr-step x xs ih E p wt n left pl r;
        rd = λ E p n left pl r. rd-case x xs ok.0 ih E p n left pl r (bytes_eq x (45 ∷ 45 ∷ [])) (long_of x) (short_of x) refl refl refl;
        wt = λ E k n left pl among. wt-case x xs ok.0 ih E k n left pl among (bytes_eq x (45 ∷ 45 ∷ [])) (long_of x) (short_of x) refl refl refl;
      }

  -- from an empty state, the walk is that of the reader
  pub reads_exactly : (left ws : List Text) → Places s 1 left → AllReadable ws → goes s (at [] None idle false 1) ws ≡ good keys [] (read names ws left reading)
  reads_exactly left ws pl ok = (claim ws ok).rd [] None 1 left pl tt
