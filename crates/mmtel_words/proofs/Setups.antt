-- The commands of this crate are of options and places.
use Rattle.std.proofs.Common.{◌≡◌, ◌∙◌, ℕ, ◌+◌, ◌&&◌, ◌||◌, cond, true, false, not, refl, sym, ap, codes, List, [], ◌∷◌, ◌++◌, Bool, Some, None, min, fold}
use Rattle.std.specs.List.{list_all, list_any}
use Rattle.std.specs.Str.{bytes_eq}
use Rattle.std.proofs.lemmas.Slice.Eq.{bytes_eq-Decides}
use Rattle.clap.specs.Words.{App, Text, Row, Rule, Shape, fault_of, matches_of}
use Rattle.clap.specs.Simple.{built, filled, with_index}
use Rattle.clap.specs.Kinds.{or_else, check_kinds}
use Rattle.clap.specs.Takes.{is_given}
use Rattle.clap.specs.Walk.{Held, has_row, settled, finished, with_default, nothing_held, walk_from, walked, arg_by_id, arg_by_index, arg_by_long, arg_by_short}
use Rattle.clap.specs.Faults.{defaults_fault, check_fault}
use Rattle.clap.proofs.FaultLemmas.{leaf_fault}
use Rattle.mmtel_words.specs.CommandLine.{EachText, is_among}
use Rattle.mmtel_words.specs.Rules.{option_arg, position_arg, serve_app, replay_app, file_app, workload_app}
use Rattle.mmtel_words.proofs.Reader.{reading, read}
use Rattle.mmtel_words.proofs.Walked.{none, Single, run, goes-is}
use Rattle.mmtel_words.proofs.Auto.{Optional, Placed, Places, Setup, good, reads_exactly}
use Rattle.mmtel_words.proofs.Readable.{all-readable}

abbrev option_rule : Text → Rule
option_rule name = with_index 1 (filled (option_arg name))

abbrev place_rule : ℕ → Text → Rule
place_rule n name = with_index n (filled (position_arg name))

single_option : (name : Text) → Single (option_rule name)
single_option name = record { values = refl; several = refl; act = refl; least = refl; most = refl; parser = refl; multiple = refl; trailing = refl }

single_place : (n : ℕ) (name : Text) → Single (place_rule n name)
single_place n name = record { values = refl; several = refl; act = refl; least = refl; most = refl; parser = refl; multiple = refl; trailing = refl }

-- the rules of a command
abbrev place_rules : ℕ → List Text → List Rule
place_rules n [] = []
place_rules n (id ∷ ids) = place_rule n id ∷ place_rules (n + 1) ids

abbrev rules_from : List Text → List Text → List Rule
rules_from [] ids = place_rules 1 ids
rules_from (name ∷ names) ids = option_rule name ∷ rules_from names ids

-- found by its name
long_in_places : (n : ℕ) (ids : List Text) (k : Text) → arg_by_long (place_rules n ids) k ≡ None
long_in_places n [] k = refl
long_in_places n (id ∷ ids) k = long_in_places (n + 1) ids k

long_in : (names ids : List Text) (k : Text) → arg_by_long (rules_from names ids) k ≡ cond (is_among names k) (Some (option_rule k)) None
long_in [] ids k = long_in_places 1 ids k
long_in (name ∷ names) ids k = by (bytes_eq name k) refl (long_in names ids k)
  where
    by : (b : Bool) → bytes_eq name k ≡ b → arg_by_long (rules_from names ids) k ≡ cond (is_among names k) (Some (option_rule k)) None
        → cond (b || false) (Some (option_rule name)) (arg_by_long (rules_from names ids) k) ≡ cond (b || is_among names k) (Some (option_rule k)) None
    by true e h = ap (λ n. Some (option_rule n)) ((bytes_eq-Decides name k).0 e)
    by false e h = h

short_in_places : (n : ℕ) (ids : List Text) (x : ℕ) → arg_by_short (place_rules n ids) x ≡ None
short_in_places n [] x = refl
short_in_places n (id ∷ ids) x = short_in_places (n + 1) ids x

short_in : (names ids : List Text) (x : ℕ) → arg_by_short (rules_from names ids) x ≡ None
short_in [] ids x = short_in_places 1 ids x
short_in (name ∷ names) ids x = short_in names ids x

id_in : (names ids : List Text) (k : Text) → is_among names k ≡ true → arg_by_id (rules_from names ids) k ≡ Some (option_rule k)
id_in [] ids k among = absurd cc
id_in (name ∷ names) ids k among = by (bytes_eq name k) refl among (id_in names ids k)
  where
    by : (b : Bool) → bytes_eq name k ≡ b → (b || is_among names k) ≡ true → (is_among names k ≡ true → arg_by_id (rules_from names ids) k ≡ Some (option_rule k))
        → cond b (Some (option_rule name)) (arg_by_id (rules_from names ids) k) ≡ Some (option_rule k)
    by true e a h = ap (λ n. Some (option_rule n)) ((bytes_eq-Decides name k).0 e)
    by false e a h = h a

known_in : (s : Shape) (names ids : List Text) → s.rules ≡ rules_from names ids → (k : Text) → is_among names k ≡ true → Optional s k
known_in s names ids are k among = record {
  key = record { a = option_rule k; single = single_option k; named = refl; by_id = ap (λ r. arg_by_id r k) are ∙ id_in names ids k among };
  long = ap (λ r. arg_by_long r k) are ∙ long_in names ids k ∙ ap (λ b. cond b (Some (option_rule k)) None) among;
}

-- after the walk each rule requires its value, and nothing else
abbrev AllPlain : List Rule → Type 0
AllPlain [] = Unit {0}
AllPlain (a ∷ rules) = (a.defaults ≡ []) × (a.required ≡ true) × AllPlain rules

or-true : (b : Bool) → (b || true) ≡ true
or-true true = refl
or-true false = refl

same-rows : (b : Bool) (rows : List Row) → cond b rows rows ≡ rows
same-rows true rows = refl
same-rows false rows = refl

plain_row : (a : Rule) (rows : List Row) → a.defaults ≡ [] → with_default rows a ≡ rows
plain_row a rows e = rw e (same-rows (has_row a.id rows) rows)

no_defaults : (rules : List Rule) (rows : List Row) → AllPlain rules → defaults_fault rows rules ≡ []
unfolding defaults_fault
no_defaults [] rows h = refl
no_defaults (a ∷ rules) rows h = rw (h.0, or-true (has_row a.id rows), same-rows (has_row a.id rows) rows) (no_defaults rules rows h.2)

kept : (rules : List Rule) (rows : List Row) → AllPlain rules → fold with_default rows rules ≡ rows
kept [] rows h = refl
kept (a ∷ rules) rows h = ap (λ r. fold with_default r rules) (plain_row a rows h.0) ∙ kept rules rows h.2

abbrev keys_of : List Rule → List Text
keys_of [] = []
keys_of (a ∷ rules) = a.id ∷ keys_of rules

not-and : (a b : Bool) → (not a || not b) ≡ not (a && b)
not-and true b = refl
not-and false b = refl

wants : (rules : List Rule) (rows : List Row) → AllPlain rules → list_any (λ a. a.required && not (is_given a.id rows)) rules ≡ not (list_all (λ k. is_given k rows) (keys_of rules))
wants [] rows h = refl
wants (a ∷ rules) rows h =
    ap (λ b. (b && not (is_given a.id rows)) || list_any (λ q. q.required && not (is_given q.id rows)) rules) h.1
    ∙ ap (λ b. not (is_given a.id rows) || b) (wants rules rows h.2)
    ∙ not-and (is_given a.id rows) (list_all (λ k. is_given k rows) (keys_of rules))

none-check : (b : Bool) → none (check_kinds false false (not b)) ≡ b
none-check true = refl
none-check false = refl

-- a command that is configured as in this crate
record IsCommandSetup (s : Shape) (names ids : List Text) : Type 0 where
  rules : s.rules ≡ rules_from names ids
  plain : AllPlain s.rules
  keys : keys_of s.rules ≡ names ++ ids
  leaf : s.is_leaf ≡ true
  again : s.args_override_self ≡ false
  else_help : s.arg_required_else_help ≡ false
  sub : s.subcommand_required ≡ false
  negates : s.subcommand_negates_reqs ≡ false

ends_of : (s : Shape) (names ids : List Text) → IsCommandSetup s names ids → (h : Held) →
    none (or_else (defaults_fault (settled s.rules h).rows s.rules) (check_fault s (finished s.rules h) false)) ≡ list_all (λ k. is_given k (settled s.rules h).rows) (names ++ ids)
ends_of s names ids t h =
    let E = (settled s.rules h).rows in
    let D = list_all (λ k. is_given k E) (keys_of s.rules) in
    let last : none (check_fault s E false) ≡ D = rw (t.else_help, t.sub, t.negates) (ap (λ b. none (check_kinds false false b)) (wants s.rules E t.plain) ∙ none-check D) in
    ap (λ f. none (or_else f (check_fault s (finished s.rules h) false))) (no_defaults s.rules E t.plain)
    ∙ ap (λ r. none (check_fault s r false)) (kept s.rules E t.plain)
    ∙ last
    ∙ ap (λ l. list_all (λ k. is_given k E) l) t.keys

setup_of : (s : Shape) (names ids : List Text) → IsCommandSetup s names ids → Setup s names (names ++ ids)
setup_of s names ids t = record {
  known = known_in s names ids t.rules;
  lost = λ k e. ap (λ r. arg_by_long r k) t.rules ∙ long_in names ids k ∙ ap (λ b. cond b (Some (option_rule k)) None) e;
  short = λ x. ap (λ r. arg_by_short r x) t.rules ∙ short_in names ids x;
  leaf = t.leaf;
  again = t.again;
  ends = ends_of s names ids t;
}

-- the result of the command for the words
abbrev pub IsRead : App → List Text → List Text → List Text → Type 0
IsRead a names ids ws = good (names ++ ids) [] (read names ws ids reading) ≡ cond (none (fault_of a ws)) (Some (matches_of a ws)) None

abbrev walked_to : Shape → List Text → Held
walked_to s ws = (fold (walked s.rules []) (walk_from nothing_held) ws).held

is_read : (a : App) (names ids ws : List Text) → IsCommandSetup (built a).top names ids → Places (built a).top 1 ids → EachText ws
    → fault_of a ws ≡ run (built a).top (walk_from nothing_held) ws → matches_of a ws ≡ finished (built a).top.rules (walked_to (built a).top ws) → IsRead a names ids ws
is_read a names ids ws t places texts fault found =
    let s = (built a).top in
    sym (reads_exactly s names (names ++ ids) (setup_of s names ids t) ids ws places (all-readable ws texts))
    ∙ goes-is s ws (walk_from nothing_held)
    ∙ ap (λ f. cond (none f) (Some (settled s.rules (walked_to s ws)).rows) None) (sym fault)
    ∙ ap (λ r. cond (none (fault_of a ws)) (Some r) None) (sym (found ∙ kept s.rules (settled s.rules (walked_to s ws)).rows t.plain))

place_here : (s : Shape) (n : ℕ) (id : Text) → arg_by_index s.rules n ≡ Some (place_rule n id) → arg_by_id s.rules id ≡ Some (place_rule n id) → min (n + 1) 18446744073709551615 ≡ n + 1 → Placed s n id
place_here s n id at by fits = record { key = record { a = place_rule n id; single = single_place n id; named = refl; by_id = by }; index = at; fits = fits }

pub serve_read : (ws : List Text) → EachText ws → IsRead serve_app (codes "token" ∷ codes "turns" ∷ []) (codes "config" ∷ []) ws
serve_read ws texts = is_read serve_app (codes "token" ∷ codes "turns" ∷ []) (codes "config" ∷ []) ws
    (record { rules = refl; plain = (refl, refl, (refl, refl, (refl, refl, tt))); keys = refl; leaf = refl; again = refl; else_help = refl; sub = refl; negates = refl })
    (place_here (built serve_app).top 1 (codes "config") refl refl refl, refl) texts (leaf_fault (built serve_app) nothing_held ws refl) refl

pub replay_read : (ws : List Text) → EachText ws → IsRead replay_app (codes "token" ∷ []) (codes "config" ∷ codes "script" ∷ []) ws
replay_read ws texts = is_read replay_app (codes "token" ∷ []) (codes "config" ∷ codes "script" ∷ []) ws
    (record { rules = refl; plain = (refl, refl, (refl, refl, (refl, refl, tt))); keys = refl; leaf = refl; again = refl; else_help = refl; sub = refl; negates = refl })
    (place_here (built replay_app).top 1 (codes "config") refl refl refl, (place_here (built replay_app).top 2 (codes "script") refl refl refl, refl)) texts (leaf_fault (built replay_app) nothing_held ws refl) refl

pub file_read : (name : Text) (ws : List Text) → EachText ws → IsRead (file_app name) [] (codes "file" ∷ []) ws
file_read name ws texts = is_read (file_app name) [] (codes "file" ∷ []) ws
    (record { rules = refl; plain = (refl, refl, tt); keys = refl; leaf = refl; again = refl; else_help = refl; sub = refl; negates = refl })
    (place_here (built (file_app name)).top 1 (codes "file") refl refl refl, refl) texts (leaf_fault (built (file_app name)) nothing_held ws refl) refl

pub workload_read : (ws : List Text) → EachText ws → IsRead workload_app (codes "calls" ∷ codes "salt" ∷ []) [] ws
workload_read ws texts = is_read workload_app (codes "calls" ∷ codes "salt" ∷ []) [] ws
    (record { rules = refl; plain = (refl, refl, (refl, refl, tt)); keys = refl; leaf = refl; again = refl; else_help = refl; sub = refl; negates = refl })
    refl texts (leaf_fault (built workload_app) nothing_held ws refl) refl
