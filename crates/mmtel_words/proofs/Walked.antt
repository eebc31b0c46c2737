-- The walk of clap over any words, as an automaton.
use Rattle.std.proofs.Common.{◌≡◌, ◌∙◌, ℕ, ◌+◌, ◌&&◌, ◌||◌, cond, min, true, false, not, refl, sym, ap, List, [], ◌∷◌, ◌++◌, Bool, Some, None, Option, slice_get, fold}
use Rattle.std.specs.Str.{bytes_eq, chars}
use Rattle.clap.specs.Words.{Text, Row, Rule, Shape}
use Rattle.clap.specs.Lexer.{long_of, short_of}
use Rattle.clap.specs.Facts.{parser_of_value, unwrap_or_range}
use Rattle.clap.specs.Kinds.{Kinds, or_else}
use Rattle.clap.specs.Walk.{Held, Walk, Waiting, idle, option, at_row, has_row, used, settled, settled_rows, walked, finished, takes_values, takes_several}
use Rattle.clap.specs.Walk.{action_of, most_values, is_multiple, reading_by, without, arg_by_id, arg_by_index, arg_by_long, arg_by_short, more_values}
use Rattle.clap.specs.Faults.{settle_fault, walk_fault, turn_fault, use_fault, defaults_fault, check_fault, flags_fault}
use Rattle.clap.specs.declared.builder.action.ArgAction.TheVariants.{Set}
use Rattle.clap.specs.declared.builder.value_parser.ValueParser.TheVariants as vp
use Rattle.clap.specs.declared.parser.matches.ValueSource.TheVariants.{CommandLine}
use Rattle.clap.specs.declared.error.kind.ErrorKind.TheVariants as kind

abbrev pub none : Kinds → Bool
none [] = true
none (k ∷ ks) = false

pub none-or : (a b : Kinds) → none (or_else a b) ≡ (none a && none b)
none-or [] b = refl
none-or (k ∷ ks) b = refl

pub or-assoc : (a b c : Kinds) → or_else (or_else a b) c ≡ or_else a (or_else b c)
or-assoc [] b c = refl
or-assoc (k ∷ ks) b c = refl

pub and-false : (b : Bool) → (b && false) ≡ false
and-false true = refl
and-false false = refl

and-true : (b : Bool) → (b && true) ≡ b
and-true true = refl
and-true false = refl

-- an argument with one value for each use, and no other property
pub record Single (a : Rule) : Type 0 where
  pub values : takes_values a ≡ true
  pub several : takes_several a ≡ false
  pub act : action_of a ≡ Set
  pub least : (unwrap_or_range a.range).start_inclusive ≡ 1
  pub most : most_values a ≡ 1
  pub parser : parser_of_value a.parser ≡ vp.String
  pub multiple : is_multiple a ≡ false
  pub trailing : a.trailing_var_arg ≡ false

pub or-nil : (a : Kinds) → or_else a [] ≡ a
or-nil [] = refl
or-nil (k ∷ ks) = refl

two : (a b : Kinds) → none (or_else (or_else a b) []) ≡ (none a && none b)
two [] [] = refl
two [] (k ∷ ks) = refl
two (k ∷ ks) b = refl

pub cond-none : (b : Bool) → none (cond b (kind.ArgumentConflict ∷ []) []) ≡ not b
cond-none true = refl
cond-none false = refl

-- one use with one value fails exactly where there was one before
pub use-one : (a : Rule) (v : Text) (rows : List Row) → Single a → use_fault false a (v ∷ []) rows ≡ cond (has_row a.id rows) (kind.ArgumentConflict ∷ []) []
use-one a v rows p = rw (p.least, p.most, p.act, p.parser, and-true (has_row a.id rows))
    (elim (has_row a.id rows) as (λ b. or_else (cond b (kind.ArgumentConflict ∷ []) []) [] ≡ cond b (kind.ArgumentConflict ∷ []) []) [ true ↦ refl | false ↦ refl ])

-- one use with no value fails
pub use-none : (a : Rule) (rows : List Row) → Single a → none (use_fault false a [] rows) ≡ false
use-none a rows p = rw p.least refl

-- a row of a name that is not present yet is appended
at-new : (id : Text) (change : Row → List Row) (missing rows : List Row) → has_row id rows ≡ false → at_row id change missing rows ≡ rows ++ missing
at-new id change missing [] h = refl
at-new id change missing (r ∷ rs) h = by (bytes_eq r.id id) h (λ e. at-new id change missing rs e)
  where
    by : (b : Bool) → (b || has_row id rs) ≡ false → (has_row id rs ≡ false → at_row id change missing rs ≡ rs ++ missing)
        → cond b (change r ++ rs) (r ∷ at_row id change missing rs) ≡ r ∷ (rs ++ missing)
    by true e go = cc
    by false e go = ap (λ t. r ∷ t) (go e)

abbrev pub row_by : Rule → Text → Row
row_by a v = record { id = a.id; values = v ∷ []; count = None; source = Some CommandLine; reading = reading_by a }

nil-right : (rows : List Row) → rows ++ [] ≡ rows
nil-right [] = refl
nil-right (r ∷ rs) = ap (λ t. r ∷ t) (nil-right rs)

pub used-one : (a : Rule) (v : Text) (rows : List Row) → Single a → has_row a.id rows ≡ false → used a (v ∷ []) rows ≡ rows ++ row_by a v ∷ []
used-one a v rows p new =
    let gone : without a.id rows ≡ rows = at-new a.id (λ _. []) [] rows new ∙ nil-right rows in
    rw (p.act, gone) (at-new a.id (more_values CommandLine (v ∷ [])) (row_by a v ∷ []) rows new)

-- what can still fail after the walk
abbrev pub end_kinds : Shape → Held → Kinds
end_kinds s h = or_else (settle_fault s.rules false h) (or_else (defaults_fault (settled s.rules h).rows s.rules) (check_fault s (finished s.rules h) false))

abbrev pub run : Shape → Walk → List Text → Kinds
run s w ws = or_else (walk_fault s [] w ws) (end_kinds s (fold (walked s.rules []) w ws).held)

pub run-step : (s : Shape) (w : Walk) (x : Text) (xs : List Text) → run s w (x ∷ xs) ≡ or_else (turn_fault s [] w x) (run s (walked s.rules [] w x) xs)
unfolding walk_fault
run-step s w x xs = or-assoc (turn_fault s [] w x) (walk_fault s [] (walked s.rules [] w x) xs) (end_kinds s (fold (walked s.rules []) (walked s.rules [] w x) xs).held)

-- a walk that reads flags or only positionals, and has read n - 1 positionals
abbrev pub at : List Row → Option (Text × List Text) → Waiting → Bool → ℕ → Walk
at rows p waiting tr n = record { held = record { rows = rows; pending = p; skip = 0 }; waiting = waiting; position = n; is_trailing = tr; stopped = None }

-- a positional word after `--`
pub place-turn : (s : Shape) (a : Rule) (rows : List Row) (p : Option (Text × List Text)) (waiting : Waiting) (n : ℕ) (x : Text) → Single a → arg_by_index s.rules n ≡ Some a → s.args_override_self ≡ false
    → turn_fault s [] (at rows p waiting true n) x ≡ settle_fault s.rules false (record { rows = rows; pending = p; skip = 0 })
place-turn s a rows p waiting n x single found again = rw (found, again, single.several, and-false _) refl

pub place-next : (s : Shape) (a : Rule) (rows : List Row) (p : Option (Text × List Text)) (waiting : Waiting) (n : ℕ) (x : Text) → Single a → arg_by_index s.rules n ≡ Some a → min (n + 1) 18446744073709551615 ≡ n + 1
    → walked s.rules [] (at rows p waiting true n) x ≡ at (settled_rows s.rules p rows) (Some (a.id, x ∷ [])) idle true (n + 1)
unfolding walked
place-next s a rows p waiting n x single found fits = rw (found, single.several, and-false _, single.act, fits) refl

pub stray-turn : (s : Shape) (rows : List Row) (p : Option (Text × List Text)) (waiting : Waiting) (n : ℕ) (x : Text) → arg_by_index s.rules n ≡ None → s.is_leaf ≡ true
    → turn_fault s [] (at rows p waiting true n) x ≡ kind.UnknownArgument ∷ []
stray-turn s rows p waiting n x lost leaf = rw (lost, leaf) refl

-- `--`, before any option waits for its value or while one does
pub dashes-turn : (s : Shape) (rows : List Row) (p : Option (Text × List Text)) (n : ℕ) (x : Text) → bytes_eq x (45 ∷ 45 ∷ []) ≡ true → turn_fault s [] (at rows p idle false n) x ≡ []
dashes-turn s rows p n x e = rw e refl

pub dashes-next : (s : Shape) (rows : List Row) (p : Option (Text × List Text)) (n : ℕ) (x : Text) → bytes_eq x (45 ∷ 45 ∷ []) ≡ true → walked s.rules [] (at rows p idle false n) x ≡ at rows p idle true n
unfolding walked
dashes-next s rows p n x e = rw e refl

pub dashes-turn-w : (s : Shape) (rows : List Row) (p : Option (Text × List Text)) (id : Text) (n : ℕ) (x : Text) → bytes_eq x (45 ∷ 45 ∷ []) ≡ true → turn_fault s [] (at rows p (option id) false n) x ≡ []
dashes-turn-w s rows p id n x e = rw e refl

pub dashes-next-w : (s : Shape) (rows : List Row) (p : Option (Text × List Text)) (id : Text) (n : ℕ) (x : Text) → bytes_eq x (45 ∷ 45 ∷ []) ≡ true →
    walked s.rules [] (at rows p (option id) false n) x ≡ at rows p (option id) true n
unfolding walked
dashes-next-w s rows p id n x e = rw e refl

-- an option that the command does not have
pub unknown-turn : (s : Shape) (rows : List Row) (p : Option (Text × List Text)) (n : ℕ) (x name : Text) (v : Option Text) → bytes_eq x (45 ∷ 45 ∷ []) ≡ false → long_of x ≡ Some (name, v) →
    arg_by_long s.rules name ≡ None
    → turn_fault s [] (at rows p idle false n) x ≡ kind.UnknownArgument ∷ []
unknown-turn s rows p n x name v e long lost = rw (e, long, lost) refl

-- `--token=value`
pub valued-turn : (s : Shape) (a : Rule) (rows : List Row) (p : Option (Text × List Text)) (n : ℕ) (x name v : Text) → Single a → bytes_eq x (45 ∷ 45 ∷ []) ≡ false → long_of x ≡ Some (name, Some v) →
    arg_by_long s.rules name ≡ Some a
    → s.args_override_self ≡ false
    → none (turn_fault s [] (at rows p idle false n) x) ≡ (none (settle_fault s.rules false (record { rows = rows; pending = p; skip = 0 })) && not (has_row a.id (settled_rows s.rules p rows)))
valued-turn s a rows p n x name v single e long found again =
    let A = settle_fault s.rules false (record { rows = rows; pending = p; skip = 0 }) in
    let E = settled_rows s.rules p rows in
    rw (e, long, found, single.values, again) (two A (use_fault false a (v ∷ []) E) ∙ ap (λ b. none A && none b) (use-one a v E single) ∙ ap (λ b. none A && b) (cond-none (has_row a.id E)))

pub valued-next : (s : Shape) (a : Rule) (rows : List Row) (p : Option (Text × List Text)) (n : ℕ) (x name v : Text) → Single a → bytes_eq x (45 ∷ 45 ∷ []) ≡ false → long_of x ≡ Some (name, Some v) →
    arg_by_long s.rules name ≡ Some a
    → walked s.rules [] (at rows p idle false n) x ≡ at (used a (v ∷ []) (settled_rows s.rules p rows)) None idle false n
unfolding walked
valued-next s a rows p n x name v single e long found = rw (e, long, found, single.values) refl

-- `--token`, whose value is the next word
pub wanting-turn : (s : Shape) (a : Rule) (rows : List Row) (p : Option (Text × List Text)) (n : ℕ) (x name : Text) → Single a → bytes_eq x (45 ∷ 45 ∷ []) ≡ false → long_of x ≡ Some (name, None) →
    arg_by_long s.rules name ≡ Some a
    → s.args_override_self ≡ false
    → none (turn_fault s [] (at rows p idle false n) x) ≡ none (settle_fault s.rules false (record { rows = rows; pending = p; skip = 0 }))
wanting-turn s a rows p n x name single e long found again =
    rw (e, long, found, single.values, again) (ap none (or-nil (settle_fault s.rules false (record { rows = rows; pending = p; skip = 0 }))))

pub wanting-next : (s : Shape) (a : Rule) (rows : List Row) (p : Option (Text × List Text)) (n : ℕ) (x name : Text) → Single a → bytes_eq x (45 ∷ 45 ∷ []) ≡ false → long_of x ≡ Some (name, None) →
    arg_by_long s.rules name ≡ Some a
    → walked s.rules [] (at rows p idle false n) x ≡ at (settled_rows s.rules p rows) (Some (a.id, [])) (option a.id) false n
unfolding walked
wanting-next s a rows p n x name single e long found = rw (e, long, found, single.values) refl

-- a word that is no option is a positional
pub word-turn : (s : Shape) (a : Rule) (rows : List Row) (p : Option (Text × List Text)) (n : ℕ) (x : Text) → Single a → bytes_eq x (45 ∷ 45 ∷ []) ≡ false → long_of x ≡ None → short_of x ≡ None →
    arg_by_index s.rules n ≡ Some a → s.args_override_self ≡ false
    → turn_fault s [] (at rows p idle false n) x ≡ settle_fault s.rules false (record { rows = rows; pending = p; skip = 0 })
word-turn s a rows p n x single e long short found again = rw (e, long, short, found, again, single.several, and-false _) refl

pub word-next : (s : Shape) (a : Rule) (rows : List Row) (p : Option (Text × List Text)) (n : ℕ) (x : Text) → Single a → bytes_eq x (45 ∷ 45 ∷ []) ≡ false → long_of x ≡ None → short_of x ≡ None →
    arg_by_index s.rules n ≡ Some a → min (n + 1) 18446744073709551615 ≡ n + 1
    → walked s.rules [] (at rows p idle false n) x ≡ at (settled_rows s.rules p rows) (Some (a.id, x ∷ [])) idle false (n + 1)
unfolding walked
word-next s a rows p n x single e long short found fits = rw (e, long, short, found, single.several, and-false _, single.act, single.trailing, fits) refl

-- the value of a waiting option
pub value-turn : (s : Shape) (rows : List Row) (p : Option (Text × List Text)) (id : Text) (n : ℕ) (x : Text) → bytes_eq x (45 ∷ 45 ∷ []) ≡ false → long_of x ≡ None → short_of x ≡ None
    → turn_fault s [] (at rows p (option id) false n) x ≡ []
value-turn s rows p id n x e long short = rw (e, long, short) refl

pub value-next : (s : Shape) (a : Rule) (k : Text) (rows : List Row) (n : ℕ) (x : Text) → Single a → bytes_eq x (45 ∷ 45 ∷ []) ≡ false → long_of x ≡ None → short_of x ≡ None →
    arg_by_id s.rules k ≡ Some a → bytes_eq k a.id ≡ true
    → walked s.rules [] (at rows (Some (k, [])) (option k) false n) x ≡ at rows (Some (k, x ∷ [])) idle false n
unfolding walked
value-next s a k rows n x single e long short by same = rw (e, long, short, by, same, single.most) refl

-- a flag of one letter
pub short-turn : (s : Shape) (rows : List Row) (p : Option (Text × List Text)) (n c y : ℕ) (x ys : Text) → bytes_eq x (45 ∷ 45 ∷ []) ≡ false → long_of x ≡ None → short_of x ≡ Some (y ∷ ys)
    → slice_get (chars (y ∷ ys)) 0 ≡ Some c → arg_by_short s.rules c ≡ None → turn_fault s [] (at rows p idle false n) x ≡ kind.UnknownArgument ∷ []
unfolding flags_fault
short-turn s rows p n c y x ys e long short first lost = rw (e, long, short, first, lost) refl

-- options that come while one waits for its value
pub waiting-turn : (s : Shape) (a o : Rule) (k : Text) (rows : List Row) (n : ℕ) (x name : Text) (v : Option Text) → Single a → Single o → bytes_eq x (45 ∷ 45 ∷ []) ≡ false →
    long_of x ≡ Some (name, v) → arg_by_long s.rules name ≡ Some o
    → arg_by_id s.rules k ≡ Some a → s.args_override_self ≡ false
    → none (turn_fault s [] (at rows (Some (k, [])) (option k) false n) x) ≡ false
waiting-turn s a o k rows n x name (Some v) single other e long found by again = rw (e, long, found, other.values, again, by, single.least) refl
waiting-turn s a o k rows n x name None single other e long found by again = rw (e, long, found, other.values, again, by, single.least) refl

pub unknown-turn-w : (s : Shape) (rows : List Row) (p : Option (Text × List Text)) (id : Text) (n : ℕ) (x name : Text) (v : Option Text) → bytes_eq x (45 ∷ 45 ∷ []) ≡ false →
    long_of x ≡ Some (name, v) → arg_by_long s.rules name ≡ None
    → turn_fault s [] (at rows p (option id) false n) x ≡ kind.UnknownArgument ∷ []
unknown-turn-w s rows p id n x name v e long lost = rw (e, long, lost) refl

pub short-turn-w : (s : Shape) (rows : List Row) (p : Option (Text × List Text)) (id : Text) (n c y : ℕ) (x ys : Text) → bytes_eq x (45 ∷ 45 ∷ []) ≡ false → long_of x ≡ None → short_of x ≡ Some (y ∷ ys)
    → slice_get (chars (y ∷ ys)) 0 ≡ Some c → arg_by_short s.rules c ≡ None → turn_fault s [] (at rows p (option id) false n) x ≡ kind.UnknownArgument ∷ []
unfolding flags_fault
short-turn-w s rows p id n c y x ys e long short first lost = rw (e, long, short, first, lost) refl

pub word-stray-turn : (s : Shape) (rows : List Row) (p : Option (Text × List Text)) (n : ℕ) (x : Text) → bytes_eq x (45 ∷ 45 ∷ []) ≡ false → long_of x ≡ None → short_of x ≡ None →
    arg_by_index s.rules n ≡ None → s.is_leaf ≡ true
    → turn_fault s [] (at rows p idle false n) x ≡ kind.UnknownArgument ∷ []
word-stray-turn s rows p n x e long short lost leaf = rw (e, long, short, lost, leaf) refl

-- the rows that a walk over the words ends with, where nothing fails
abbrev pub goes : Shape → Walk → List Text → Option (List Row)
goes s w [] = cond (none (end_kinds s w.held)) (Some (settled s.rules w.held).rows) None
goes s w (x ∷ xs) = cond (none (turn_fault s [] w x)) (goes s (walked s.rules [] w x) xs) None

pub goes-is : (s : Shape) (ws : List Text) (w : Walk) → goes s w ws ≡ cond (none (run s w ws)) (Some (settled s.rules (fold (walked s.rules []) w ws).held).rows) None
unfolding walk_fault
goes-is s [] w = refl
goes-is s (x ∷ xs) w =
    let rest = goes-is s xs (walked s.rules [] w x) in
    by (none (turn_fault s [] w x)) (goes s (walked s.rules [] w x) xs) rest
    ∙ sym (ap (λ b. cond b (Some (settled s.rules (fold (walked s.rules []) w (x ∷ xs)).held).rows) None) (ap none (run-step s w x xs) ∙ none-or (turn_fault s [] w x) (run s (walked s.rules [] w x) xs)))
  where
    by : (b : Bool) (g : Option (List Row)) → g ≡ cond (none (run s (walked s.rules [] w x) xs)) (Some (settled s.rules (fold (walked s.rules []) (walked s.rules [] w x) xs).held).rows) None
        → cond b g None ≡ cond (b && none (run s (walked s.rules [] w x) xs)) (Some (settled s.rules (fold (walked s.rules []) (walked s.rules [] w x) xs).held).rows) None
    by true g e = e
    by false g e = refl
