-- The words of each command: what is read of them, and that they spell at most one command.
use Rattle.std.proofs.Common.{◌≡◌, ◌≢◌, ◌∙◌, ℕ, ◌≤◌, ◌<◌, ◌^◌, cond, true, false, nat_eq, refl, sym, ap, subst, codes, List, [], ◌∷◌, ◌++◌, Bool, Some, None, Option, length, arith, inl, inr}
use Rattle.std.specs.Prelude.{decimal}
use Rattle.std.proofs.lemmas.Bool.{cases_Bool, false≢true, eqb-true}
use Rattle.std.proofs.lemmas.Fmt.{decimal_injective}
use Rattle.std.specs.List.{list_all, starts_with}
use Rattle.std.specs.Str.{bytes_eq}
use Rattle.clap.specs.Words.{App, Text, Row, fault_of, matches_of}
use Rattle.clap.specs.Kinds.{Kinds}
use Rattle.mmtel_base.specs.Classes.{in_class, IsAll}
use Rattle.mmtel_base.specs.declared.classes.Class.TheVariants.{Digit}
use Rattle.mmtel_base.proofs.Numerals.{decimal_writes}
use Rattle.mmtel_base.proofs.Runs.{and_true}
use Rattle.mmtel_words.specs.CommandLine.{Command, Serve, Replay, Check, Charges, Workload, EachText, IsCommand, Spells, is_hex, is_token, names_of}
use Rattle.mmtel_words.specs.Reads.{SpellsNone}
use Rattle.mmtel_words.specs.Rules.{serve_app, replay_app, file_app, workload_app}
use Rattle.mmtel_words.proofs.Reader.{reading, read}
use Rattle.mmtel_words.proofs.Walked.{none}
use Rattle.mmtel_words.proofs.Auto.{good}
use Rattle.mmtel_words.proofs.Forms.{equal, equal_self}
use Rattle.mmtel_words.proofs.Spelling.{placed}
use Rattle.mmtel_words.proofs.Once.{entries}
use Rattle.mmtel_words.proofs.Setups.{IsRead, serve_read, replay_read, file_read, workload_read}
use Rattle.mmtel_words.proofs.Whole.{At, EachFirst, Firsts, EachPlain, Names, ReadAs, is_spelled, is_read_as}

-- ---- values that do not begin with `-`

pub token_plain : (t : Text) → is_token t ≡ true → starts_with nat_eq t (codes "-") ≡ false
token_plain [] e = refl
token_plain (b ∷ t) e =
    let both = and_true _ (list_all is_hex (b ∷ t)) e in
    let hex = (and_true (is_hex b) (list_all is_hex t) both.1).0 in
    elim (cases_Bool (nat_eq 45 b)) [
      | inl y ↦ absurd (let same : 45 ≡ b = eqb-true 45 b y in let P : ℕ → Type 0 = λ x. is_hex x ≡ true in let wrong = subst P (sym same) hex in cc)
      | inr n ↦ rw n refl
    ]

no_minus : (t : Text) → ((rest : Text) → t ≢ 45 ∷ rest) → starts_with nat_eq t (codes "-") ≡ false
no_minus [] h = refl
no_minus (b ∷ t) h = elim (cases_Bool (nat_eq 45 b)) [
  | inl y ↦ absurd (h t (ap (λ n. n ∷ t) (sym (eqb-true 45 b y))))
  | inr n ↦ rw n refl
]

no_digit : (rest : Text) → IsAll Digit (45 ∷ rest) → ⊥
unfolding in_class
no_digit rest e = false≢true e

pub number_plain : (n : ℕ) → n < 2 ^ 64 → starts_with nat_eq (decimal n) (codes "-") ≡ false
number_plain n fits = no_minus (decimal n) (λ rest e. no_digit rest (subst (IsAll Digit) e (decimal_writes n fits).digits.each))

-- ---- the options and places of the commands

one_alone : (i k : Text) (ws : List Text) → length (entries k (placed ws (i ∷ []))) ≤ 1
one_alone i k [] = omega arith
one_alone i k (w ∷ []) = by (bytes_eq i k)
  where
    by : (b : Bool) → length (cond b (w ∷ []) []) ≤ 1
    by true = omega arith
    by false = omega arith
one_alone i k (w ∷ x ∷ ws) = by (bytes_eq i k)
  where
    by : (b : Bool) → length (cond b (w ∷ []) []) ≤ 1
    by true = omega arith
    by false = omega arith

one_determines : (i p : Text) (ws : List Text) → length ws ≤ 1 → At (i ∷ []) ws (i ∷ []) (p ∷ []) → ws ≡ p ∷ []
one_determines i p [] few told = absurd (let wrong : [] ≡ p ∷ [] = told.0 in cc)
one_determines i p (w ∷ []) few told = sym (ap (λ b. cond b (w ∷ []) []) (equal_self i)) ∙ told.0
one_determines i p (w ∷ x ∷ ws) few told = absurd (omega arith)

two_alone : (k : Text) (ws : List Text) → length (entries k (placed ws (codes "config" ∷ codes "script" ∷ []))) ≤ 1
two_alone k [] = omega arith
two_alone k (w ∷ []) = by (bytes_eq (codes "config") k)
  where
    by : (b : Bool) → length (cond b (w ∷ []) []) ≤ 1
    by true = omega arith
    by false = omega arith
two_alone k (w ∷ x ∷ ws) = by (bytes_eq (codes "config") k) (bytes_eq (codes "script") k) refl refl (entries k (placed ws [])) (none_left ws)
  where
    none_left : (ws : List Text) → entries k (placed ws []) ≡ []
    none_left [] = refl
    none_left (w ∷ ws) = refl

    by : (a b : Bool) → bytes_eq (codes "config") k ≡ a → bytes_eq (codes "script") k ≡ b → (vs : List Text) → vs ≡ [] → length (cond a (w ∷ cond b (x ∷ vs) vs) (cond b (x ∷ vs) vs)) ≤ 1
    by true true e f vs none =
        let same : codes "config" ≡ codes "script" = equal (codes "config") k e ∙ sym (equal (codes "script") k f) in
        absurd (false≢true (ap (bytes_eq (codes "config")) (sym same)))
    by true false e f vs none = rw none (omega arith)
    by false true e f vs none = rw none (omega arith)
    by false false e f vs none = rw none (omega arith)

two_determines : (p q : Text) (ws : List Text) → length ws ≤ 2 → At (codes "config" ∷ codes "script" ∷ []) ws (codes "config" ∷ codes "script" ∷ []) (p ∷ q ∷ []) → ws ≡ p ∷ q ∷ []
two_determines p q [] few told = absurd (let wrong : [] ≡ p ∷ [] = told.0 in cc)
two_determines p q (w ∷ []) few told = absurd (let wrong : [] ≡ q ∷ [] = told.1.0 in cc)
two_determines p q (w ∷ x ∷ []) few told = let one : w ∷ [] ≡ p ∷ [] = told.0 in let two : x ∷ [] ≡ q ∷ [] = told.1.0 in cc
two_determines p q (w ∷ x ∷ y ∷ ws) few told = absurd (omega arith)

none_determines : (ws : List Text) → length ws ≤ 0 → ws ≡ []
none_determines [] few = refl
none_determines (w ∷ ws) few = absurd (omega arith)

none_alone : (k : Text) (ws : List Text) → length (entries k (placed ws [])) ≤ 1
none_alone k [] = omega arith
none_alone k (w ∷ ws) = omega arith

abbrev pub serve_options : Text → Text → List (Text × Text)
serve_options token turns = (codes "token", token) ∷ (codes "turns", turns) ∷ []

abbrev pub replay_options : Text → List (Text × Text)
replay_options token = (codes "token", token) ∷ []

abbrev pub workload_options : Text → Text → List (Text × Text)
workload_options calls salt = (codes "calls", calls) ∷ (codes "salt", salt) ∷ []

serve_names : (config token turns : Text) → Names (serve_options token turns) (codes "config" ∷ []) (config ∷ [])
serve_names config token turns =
    record { fine = refl; off = (refl, (refl, tt)); other = (refl, tt); lone = one_alone (codes "config"); tells = one_determines (codes "config") config; told = (refl, tt); many = omega arith }

replay_names : (config script token : Text) → Names (replay_options token) (codes "config" ∷ codes "script" ∷ []) (config ∷ script ∷ [])
replay_names config script token = record { fine = refl; off = (refl, tt); other = (refl, (refl, tt)); lone = two_alone; tells = two_determines config script; told = (refl, (refl, tt)); many = omega arith }

file_names : (file : Text) → Names [] (codes "file" ∷ []) (file ∷ [])
file_names file = record { fine = refl; off = tt; other = (refl, tt); lone = one_alone (codes "file"); tells = one_determines (codes "file") file; told = (refl, tt); many = omega arith }

workload_names : (calls salt : Text) → Names (workload_options calls salt) [] []
workload_names calls salt = record { fine = refl; off = (refl, (refl, tt)); other = tt; lone = none_alone; tells = λ ws few told. none_determines ws few; told = tt; many = omega arith }

-- ---- what `clap` finds

pub matches_are_read : (a : App) (names ids ws : List Text) → IsRead a names ids ws → fault_of a ws ≡ [] → good (names ++ ids) [] (read names ws ids reading) ≡ Some (matches_of a ws)
matches_are_read a names ids ws is e = is ∙ ap (λ f. cond (none f) (Some (matches_of a ws)) None) e

-- what a command finds in the words that spell it
pub record Line (a : App) (options : List (Text × Text)) (ids pos ws : List Text) : Type 0 where
  pub fault : fault_of a ws ≡ []
  pub firsts : EachFirst options (matches_of a ws)
  pub places : Firsts ids pos (matches_of a ws)

line_of : (a : App) (options : List (Text × Text)) (ids pos ws : List Text) → IsRead a (names_of options) ids ws → ReadAs options ids pos ws → Line a options ids pos ws
line_of a options ids pos ws is r = by (fault_of a ws) refl (sym is ∙ r.is)
  where
    by : (f : Kinds) → fault_of a ws ≡ f → cond (none f) (Some (matches_of a ws)) None ≡ Some r.R → Line a options ids pos ws
    by (k ∷ ks) e h = absurd cc
    by [] e h =
        let same : r.R ≡ matches_of a ws = cc in
        let P : List Row → Type 0 = λ R. EachFirst options R × Firsts ids pos R in
        let both = subst P same (r.firsts, r.places) in
        record { fault = e; firsts = both.0; places = both.1 }

pub serve_line : (config token turns : Text) (ws : List Text) → EachText ws → Spells (codes "serve") (config ∷ []) (serve_options token turns) (codes "serve" ∷ ws) →
    Line serve_app (serve_options token turns) (codes "config" ∷ []) (config ∷ []) ws
serve_line config token turns ws texts s =
    line_of serve_app (serve_options token turns) (codes "config" ∷ []) (config ∷ []) ws (serve_read ws texts)
    (is_read_as (codes "serve") (serve_options token turns) (codes "config" ∷ []) (config ∷ []) ws (serve_names config token turns) s)

pub replay_line : (config script token : Text) (ws : List Text) → EachText ws → Spells (codes "replay") (config ∷ script ∷ []) (replay_options token) (codes "replay" ∷ ws)
    → Line replay_app (replay_options token) (codes "config" ∷ codes "script" ∷ []) (config ∷ script ∷ []) ws
replay_line config script token ws texts s =
    line_of replay_app (replay_options token) (codes "config" ∷ codes "script" ∷ []) (config ∷ script ∷ []) ws (replay_read ws texts)
    (is_read_as (codes "replay") (replay_options token) (codes "config" ∷ codes "script" ∷ []) (config ∷ script ∷ []) ws (replay_names config script token) s)

pub file_line : (command file : Text) (ws : List Text) → EachText ws → Spells command (file ∷ []) [] (command ∷ ws) → Line (file_app command) [] (codes "file" ∷ []) (file ∷ []) ws
file_line command file ws texts s = line_of (file_app command) [] (codes "file" ∷ []) (file ∷ []) ws (file_read command ws texts) (is_read_as command [] (codes "file" ∷ []) (file ∷ []) ws (file_names file) s)

pub workload_line : (calls salt : Text) (ws : List Text) → EachText ws → Spells (codes "workload") [] (workload_options calls salt) (codes "workload" ∷ ws) → Line workload_app (workload_options calls salt) [] [] ws
workload_line calls salt ws texts s =
    line_of workload_app (workload_options calls salt) [] [] ws (workload_read ws texts) (is_read_as (codes "workload") (workload_options calls salt) [] [] ws (workload_names calls salt) s)

-- and the words are those that spell it
pub serve_spelled : (config token turns : Text) (ws : List Text) → EachText (codes "serve" ∷ ws) → Line serve_app (serve_options token turns) (codes "config" ∷ []) (config ∷ []) ws → EachPlain (serve_options token turns)
    → Spells (codes "serve") (config ∷ []) (serve_options token turns) (codes "serve" ∷ ws)
serve_spelled config token turns ws texts l plain =
    is_spelled (codes "serve") (serve_options token turns) (codes "config" ∷ []) (config ∷ []) ws (matches_of serve_app ws) (serve_names config token turns) texts
    (matches_are_read serve_app (codes "token" ∷ codes "turns" ∷ []) (codes "config" ∷ []) ws (serve_read ws texts.1) l.fault) l.firsts l.places plain

pub replay_spelled : (config script token : Text) (ws : List Text) → EachText (codes "replay" ∷ ws) →
    Line replay_app (replay_options token) (codes "config" ∷ codes "script" ∷ []) (config ∷ script ∷ []) ws → EachPlain (replay_options token)
    → Spells (codes "replay") (config ∷ script ∷ []) (replay_options token) (codes "replay" ∷ ws)
replay_spelled config script token ws texts l plain =
    is_spelled (codes "replay") (replay_options token) (codes "config" ∷ codes "script" ∷ []) (config ∷ script ∷ []) ws (matches_of replay_app ws) (replay_names config script token) texts
    (matches_are_read replay_app (codes "token" ∷ []) (codes "config" ∷ codes "script" ∷ []) ws (replay_read ws texts.1) l.fault) l.firsts l.places plain

pub file_spelled : (command file : Text) (ws : List Text) → EachText (command ∷ ws) → Line (file_app command) [] (codes "file" ∷ []) (file ∷ []) ws → Spells command (file ∷ []) [] (command ∷ ws)
file_spelled command file ws texts l =
    is_spelled command [] (codes "file" ∷ []) (file ∷ []) ws (matches_of (file_app command) ws) (file_names file) texts
    (matches_are_read (file_app command) [] (codes "file" ∷ []) ws (file_read command ws texts.1) l.fault) l.firsts l.places tt

pub workload_spelled : (calls salt : Text) (ws : List Text) → EachText (codes "workload" ∷ ws) → Line workload_app (workload_options calls salt) [] [] ws → EachPlain (workload_options calls salt)
    → Spells (codes "workload") [] (workload_options calls salt) (codes "workload" ∷ ws)
workload_spelled calls salt ws texts l plain =
    is_spelled (codes "workload") (workload_options calls salt) [] [] ws (matches_of workload_app ws) (workload_names calls salt) texts
    (matches_are_read workload_app (codes "calls" ∷ codes "salt" ∷ []) [] ws (workload_read ws texts.1) l.fault) l.firsts l.places plain

-- ---- one command at most

-- words that begin otherwise
pub clash : (a b : Text) (xs ys : List Text) → a ∷ xs ≡ b ∷ ys → bytes_eq a b ≡ false → ⊥
clash a b xs ys e off = let same : a ≡ b = cc in false≢true (sym off ∙ ap (bytes_eq a) (sym same) ∙ equal_self a)

-- the name of a command
abbrev pub name_of : Command → Text
name_of (Serve config token turns) = codes "serve"
name_of (Replay asked) = codes "replay"
name_of (Check records) = codes "check"
name_of (Charges config) = codes "charges"
name_of (Workload calls salt) = codes "workload"

pub record Begins (name : Text) (words : List Text) : Type 0 where
  pub rest : List Text
  pub whole : words ≡ name ∷ rest
  pub texts : EachText rest

begins_with : (name : Text) (pos : List Text) (options : List (Text × Text)) (words : List Text) → Spells name pos options words → Begins name words
begins_with name pos options words s = record { rest = _; whole = s.whole; texts = (subst EachText s.whole s.texts).1 }

pub begins : (c : Command) (words : List Text) → IsCommand c words → Begins (name_of c) words
begins (Serve config token turns) words s = begins_with _ _ _ words s.3
begins (Replay asked) words s = begins_with _ _ _ words s.1
begins (Check records) words s = begins_with _ _ _ words s
begins (Charges config) words s = begins_with _ _ _ words s
begins (Workload calls salt) words s = begins_with _ _ _ words s.3

same_first : (o : Option Text) (a b : Text) → o ≡ Some a → o ≡ Some b → a ≡ b
same_first o a b e f = let h : Some a ≡ Some b = sym e ∙ f in cc

same_serve : (c c' t t' : Text) (n n' : ℕ) → c ≡ c' → t ≡ t' → n ≡ n' → Serve c t n ≡ Serve c' t' n'
same_serve c c' t t' n n' e f g = cc

same_replay : (c c' z z' t t' : Text) → c ≡ c' → z ≡ z' → t ≡ t' → Replay (record { config = c; script = z; token = t }) ≡ Replay (record { config = c'; script = z'; token = t' })
same_replay c c' z z' t t' e f g = rw (e, f, g) refl

same_workload : (c c' s s' : ℕ) → c ≡ c' → s ≡ s' → Workload c s ≡ Workload c' s'
same_workload c c' s s' e f = cc

-- two commands that the same words after a name spell
same_command : (one other : Command) (ws : List Text) → EachText ws → IsCommand one (name_of one ∷ ws) → IsCommand other (name_of one ∷ ws) → one ≡ other
same_command (Serve c t n) (Serve c' t' n') ws texts a b =
    let p = serve_line c t (decimal n) ws texts a.3 in
    let q = serve_line c' t' (decimal n') ws texts b.3 in
    let most : n ≤ 1000000000 = a.2 in
    let also : n' ≤ 1000000000 = b.2 in
    same_serve c c' t t' n n' (same_first _ c c' p.places.0 q.places.0) (same_first _ t t' p.firsts.0 q.firsts.0)
    (decimal_injective n n' (omega arith) (omega arith) (same_first _ (decimal n) (decimal n') p.firsts.1.0 q.firsts.1.0))
same_command (Replay x) (Replay y) ws texts a b =
    let p = replay_line x.config x.script x.token ws texts a.1 in
    let q = replay_line y.config y.script y.token ws texts b.1 in
    same_replay x.config y.config x.script y.script x.token y.token (same_first _ x.config y.config p.places.0 q.places.0) (same_first _ x.script y.script p.places.1.0 q.places.1.0)
    (same_first _ x.token y.token p.firsts.0 q.firsts.0)
same_command (Check r) (Check r') ws texts a b =
    let p = file_line (codes "check") r ws texts a in
    let q = file_line (codes "check") r' ws texts b in
    ap Check (same_first _ r r' p.places.0 q.places.0)
same_command (Charges r) (Charges r') ws texts a b =
    let p = file_line (codes "charges") r ws texts a in
    let q = file_line (codes "charges") r' ws texts b in
    ap Charges (same_first _ r r' p.places.0 q.places.0)
same_command (Workload c s) (Workload c' s') ws texts a b =
    let p = workload_line (decimal c) (decimal s) ws texts a.3 in
    let q = workload_line (decimal c') (decimal s') ws texts b.3 in
    let m1 : c ≤ 10000 = a.1 in
    let m2 : c' ≤ 10000 = b.1 in
    let m3 : s ≤ 4294967295 = a.2 in
    let m4 : s' ≤ 4294967295 = b.2 in
    same_workload c c' s s' (decimal_injective c c' (omega arith) (omega arith) (same_first _ (decimal c) (decimal c') p.firsts.0 q.firsts.0))
    (decimal_injective s s' (omega arith) (omega arith) (same_first _ (decimal s) (decimal s') p.firsts.1.0 q.firsts.1.0))
same_command (Serve c t n) (Replay y) ws texts a b = absurd (let s = begins (Replay y) _ b in clash _ _ _ _ s.whole refl)
same_command (Serve c t n) (Check r) ws texts a b = absurd (let s = begins (Check r) _ b in clash _ _ _ _ s.whole refl)
same_command (Serve c t n) (Charges r) ws texts a b = absurd (let s = begins (Charges r) _ b in clash _ _ _ _ s.whole refl)
same_command (Serve c t n) (Workload k s) ws texts a b = absurd (let s = begins (Workload k s) _ b in clash _ _ _ _ s.whole refl)
same_command (Replay x) (Serve c t n) ws texts a b = absurd (let s = begins (Serve c t n) _ b in clash _ _ _ _ s.whole refl)
same_command (Replay x) (Check r) ws texts a b = absurd (let s = begins (Check r) _ b in clash _ _ _ _ s.whole refl)
same_command (Replay x) (Charges r) ws texts a b = absurd (let s = begins (Charges r) _ b in clash _ _ _ _ s.whole refl)
same_command (Replay x) (Workload k s) ws texts a b = absurd (let s = begins (Workload k s) _ b in clash _ _ _ _ s.whole refl)
same_command (Check r) (Serve c t n) ws texts a b = absurd (let s = begins (Serve c t n) _ b in clash _ _ _ _ s.whole refl)
same_command (Check r) (Replay y) ws texts a b = absurd (let s = begins (Replay y) _ b in clash _ _ _ _ s.whole refl)
same_command (Check r) (Charges r') ws texts a b = absurd (let s = begins (Charges r') _ b in clash _ _ _ _ s.whole refl)
same_command (Check r) (Workload k s) ws texts a b = absurd (let s = begins (Workload k s) _ b in clash _ _ _ _ s.whole refl)
same_command (Charges r) (Serve c t n) ws texts a b = absurd (let s = begins (Serve c t n) _ b in clash _ _ _ _ s.whole refl)
same_command (Charges r) (Replay y) ws texts a b = absurd (let s = begins (Replay y) _ b in clash _ _ _ _ s.whole refl)
same_command (Charges r) (Check r') ws texts a b = absurd (let s = begins (Check r') _ b in clash _ _ _ _ s.whole refl)
same_command (Charges r) (Workload k s) ws texts a b = absurd (let s = begins (Workload k s) _ b in clash _ _ _ _ s.whole refl)
same_command (Workload k s) (Serve c t n) ws texts a b = absurd (let s = begins (Serve c t n) _ b in clash _ _ _ _ s.whole refl)
same_command (Workload k s) (Replay y) ws texts a b = absurd (let s = begins (Replay y) _ b in clash _ _ _ _ s.whole refl)
same_command (Workload k s) (Check r) ws texts a b = absurd (let s = begins (Check r) _ b in clash _ _ _ _ s.whole refl)
same_command (Workload k s) (Charges r) ws texts a b = absurd (let s = begins (Charges r) _ b in clash _ _ _ _ s.whole refl)

pub only_one : (one other : Command) (words : List Text) → IsCommand one words → IsCommand other words → one ≡ other
only_one one other words a b =
    let s = begins one words a in
    same_command one other s.rest s.texts (subst (IsCommand one) s.whole a) (subst (IsCommand other) s.whole b)

-- words after a name spell a command of that name, or none
pub none_else : (name : Text) (ws : List Text) → ((c : Command) → bytes_eq name (name_of c) ≡ true → IsCommand c (name ∷ ws) → ⊥) → SpellsNone (name ∷ ws)
none_else name ws h = λ c. λ s. by (bytes_eq name (name_of c)) c refl s
  where
    by : (t : Bool) (c : Command) → bytes_eq name (name_of c) ≡ t → IsCommand c (name ∷ ws) → ⊥
    by true c e s = h c e s
    by false c e s = clash name (name_of c) ws _ (begins c (name ∷ ws) s).whole e
