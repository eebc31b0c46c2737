-- The grammar of the whole command line, by its spelling: a format of this project's own.
use Rattle.std.specs.Prelude.{◌≡◌, ℕ, ◌≤◌, ◌==◌, ◌&&◌, ◌||◌, not, nat_le, nat_eq, List, [], ◌∷◌, ◌++◌, length, Bool, true, false, if◌then◌else◌, Some, None, codes, decimal}
use Rattle.std.specs.Prelude.{⊤, IsUtf8}
use Rattle.std.specs.List.{list_all, list_any, flat_map, starts_with}
use Rattle.std.specs.Str.{bytes_eq}
use Rattle.std.specs.declared.option.Option.{Option}

-- a digit of a token: 0 to 9 or a to f
abbrev pub is_hex : ℕ → Bool
is_hex byte = (nat_le 48 byte && nat_le byte 57) || (nat_le 97 byte && nat_le byte 102)

-- a token: 16 lower-case hexadecimal digits
abbrev pub is_token : List ℕ → Bool
is_token word = (length word == 16) && list_all is_hex word

-- a positional word where options are allowed: `-`, or one that does not begin with `-`
abbrev pub is_positional : List ℕ → Bool
is_positional word = bytes_eq word (codes "-") || not (starts_with nat_eq word (codes "-"))

-- the arguments of `replay`: the names of its two files, and the token
pub record ReplayArgs : Type 0 where
  pub config : List ℕ
  pub script : List ℕ
  pub token : List ℕ

-- an element of the words before the mark `--`: a positional word, or an option with its value, which is separate or joined by `=`
pub data Piece : Type 0 where
  Word : (word : List ℕ) → Piece
  Apart : (name value : List ℕ) → Piece
  Joined : (name value : List ℕ) → Piece

-- the words that spell it
abbrev pub spelling : Piece → List (List ℕ)
spelling (Word word) = word ∷ []
spelling (Apart name value) = (codes "--" ++ name) ∷ value ∷ []
spelling (Joined name value) = (codes "--" ++ name ++ 61 ∷ value) ∷ []

-- whether an option is the command's own, by the names of the command's options
abbrev pub is_among : List (List ℕ) → List ℕ → Bool
is_among names name = list_any (λ n. bytes_eq n name) names

-- a positional word is `-` or does not begin with `-`; an option is the command's own, and a separate value does not begin with `-`
abbrev pub MayAppear : List (List ℕ) → Piece → Type 0
MayAppear names (Word word) = is_positional word ≡ true
MayAppear names (Apart name value) = (is_among names name ≡ true) × (starts_with nat_eq value (codes "-") ≡ false)
MayAppear names (Joined name value) = is_among names name ≡ true

abbrev pub EachMayAppear : List (List ℕ) → List Piece → Type 0
EachMayAppear names [] = ⊤
EachMayAppear names (piece ∷ pieces) = MayAppear names piece × EachMayAppear names pieces

-- the positional word of an element, if it is one
abbrev pub word_in : Piece → List (List ℕ)
word_in (Word word) = word ∷ []
word_in (Apart name value) = []
word_in (Joined name value) = []

-- the value that an element gives the option of that name, if it does
abbrev pub value_in : List ℕ → Piece → List (List ℕ)
value_in option (Word word) = []
value_in option (Apart name value) = if bytes_eq option name then value ∷ [] else []
value_in option (Joined name value) = if bytes_eq option name then value ∷ [] else []

-- each of these options has exactly this value, and occurs once
abbrev pub EachOnce : List (List ℕ × List ℕ) → List Piece → Type 0
EachOnce [] pieces = ⊤
EachOnce (option ∷ options) pieces = (flat_map (value_in option.0) pieces ≡ option.1 ∷ []) × EachOnce options pieces

-- the names of options
abbrev pub names_of : List (List ℕ × List ℕ) → List (List ℕ)
names_of [] = []
names_of (option ∷ options) = option.0 ∷ names_of options

-- the words after the elements: none, or the mark and then positional words only
abbrev pub mark_words : Option (List (List ℕ)) → List (List ℕ)
mark_words None = []
mark_words (Some words) = codes "--" ∷ words

abbrev pub words_after_mark : Option (List (List ℕ)) → List (List ℕ)
words_after_mark None = []
words_after_mark (Some words) = words

-- each word is UTF-8 (RFC 3629)
abbrev pub EachText : List (List ℕ) → Type 0
EachText [] = ⊤
EachText (word ∷ words) = IsUtf8 word × EachText words

-- the words spell this command with exactly these positional words, in their order, and exactly these options with their values, each once
pub record Spells (command : List ℕ) (positional : List (List ℕ)) (options : List (List ℕ × List ℕ)) (words : List (List ℕ)) : Type 0 where
  pub texts : EachText words
  pub pieces : List Piece
  pub marked : Option (List (List ℕ))
  pub whole : words ≡ command ∷ (flat_map spelling pieces ++ mark_words marked)
  pub may_appear : EachMayAppear (names_of options) pieces
  pub positionals : flat_map word_in pieces ++ words_after_mark marked ≡ positional
  pub each_once : EachOnce options pieces

-- the commands
pub data Command : Type 0 where
  Serve : (config token : List ℕ) → (turns : ℕ) → Command
  Replay : (asked : ReplayArgs) → Command
  Check : (records : List ℕ) → Command
  Charges : (config : List ℕ) → Command
  Workload : (calls salt : ℕ) → Command

-- the words of each command
abbrev pub IsCommand : Command → List (List ℕ) → Type 0
IsCommand (Serve config token turns) words =
    (is_token token ≡ true) × (1 ≤ turns) × (turns ≤ 1000000000) × Spells (codes "serve") (config ∷ []) ((codes "token", token) ∷ (codes "turns", decimal turns) ∷ []) words
IsCommand (Replay asked) words =
    (is_token asked.token ≡ true) × Spells (codes "replay") (asked.config ∷ asked.script ∷ []) ((codes "token", asked.token) ∷ []) words
IsCommand (Check records) words = Spells (codes "check") (records ∷ []) [] words
IsCommand (Charges config) words = Spells (codes "charges") (config ∷ []) [] words
IsCommand (Workload calls salt) words =
    (1 ≤ calls) × (calls ≤ 10000) × (salt ≤ 4294967295) × Spells (codes "workload") [] ((codes "calls", decimal calls) ∷ (codes "salt", decimal salt) ∷ []) words
