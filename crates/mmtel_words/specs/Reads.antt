-- The results of the functions that read the words of one command.
use Rattle.std.specs.Prelude.{◌≡◌, ◌≢◌, ℕ, ◌≤◌, List, [], ◌∷◌, map, true, false, Option, Some, None, Result, Ok, Err, ⊤, decimal, Vec}
use Rattle.std.specs.Borrow.{Bor}
use Rattle.std.specs.declared.alloc.Global.{Global}
use Rattle.clap.specs.Words.{App, Text, fault_of, first_of, matches_of, rows_of, found_of}
use Rattle.clap.specs.declared.parser.matches.ArgMatches.{ArgMatches}
use Rattle.mmtel_words.specs.CommandLine.{Command, EachText, IsCommand, Spells, is_token}
use Rattle.mmtel_words.specs.Commands.{command_in}
use Rattle.mmtel_words.specs.declared.wanted_commands.WantedCommand.{WantedCommand}
use Rattle.mmtel_words.specs.declared.faults.WordsFault.{WordsFault}
use Rattle.mmtel_words.specs.declared.faults.WordsFault.TheVariants.{Words, NoMemory}

-- the words spell no command
abbrev pub SpellsNone : List Text → Type 0
SpellsNone words = (command : Command) → IsCommand command words → ⊥

-- a command that the words spell; or they spell none; or memory ran out
abbrev pub ReadsCommand : List Text → Result WantedCommand WordsFault → Type 0
ReadsCommand words (Ok wanted) = IsCommand (command_in wanted) words
ReadsCommand words (Err Words) = SpellsNone words
ReadsCommand words (Err NoMemory) = ⊤

-- the one positional word of this command, which has no option
abbrev pub IsOneFile : Text → List Text → Result Text WordsFault → Type 0
IsOneFile command words (Ok text) = Spells command (text ∷ []) [] (command ∷ words)
IsOneFile command words (Err Words) = (text : Text) → Spells command (text ∷ []) [] (command ∷ words) → ⊥
IsOneFile command words (Err NoMemory) = ⊤

-- the same words, as texts of characters; or one is none
abbrev pub AreTexts : List Text → Result (Vec (Bor Text) Global) WordsFault → Type 0
AreTexts words (Ok texts) = (map (λ w. w.now) texts.items ≡ words) × EachText words
AreTexts words (Err Words) = EachText words → ⊥
AreTexts words (Err NoMemory) = ⊤

-- what `clap` finds in the words after a command
abbrev pub MatchesIn : App → List Text → Result ArgMatches WordsFault → Type 0
MatchesIn app words (Ok m) = (fault_of app words ≡ []) × (rows_of (found_of m) ≡ matches_of app words)
MatchesIn app words (Err Words) = fault_of app words ≢ []
MatchesIn app words (Err NoMemory) = ⊤

-- the value of that name that was found
abbrev pub value_of : ArgMatches → Text → Option Text
value_of m name = first_of name (rows_of (found_of m))

-- that value
abbrev pub IsText : Option Text → Result Text WordsFault → Type 0
IsText value (Ok text) = value ≡ Some text
IsText value (Err Words) = value ≡ None
IsText value (Err NoMemory) = ⊤

-- that value, where it is a token
abbrev pub IsToken : Option Text → Result Text WordsFault → Type 0
IsToken value (Ok text) = (value ≡ Some text) × (is_token text ≡ true)
IsToken value (Err Words) = (text : Text) → value ≡ Some text → is_token text ≡ false
IsToken value (Err NoMemory) = ⊤

-- the number that is that value, within these limits
abbrev pub IsNumber : Option Text → ℕ → ℕ → Result ℕ WordsFault → Type 0
IsNumber value least most (Ok number) = (value ≡ Some (decimal number)) × (least ≤ number) × (number ≤ most)
IsNumber value least most (Err Words) = (number : ℕ) → least ≤ number → number ≤ most → value ≢ Some (decimal number)
IsNumber value least most (Err NoMemory) = ⊤
