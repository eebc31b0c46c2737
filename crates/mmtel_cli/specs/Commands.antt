-- Which command the arguments are.
use Rattle.std.specs.Prelude.{◌≡◌, ℕ, List, Some, None, Option}
use Rattle.mmtel_words.specs.CommandLine.{ReplayArgs, Command, Serve, Replay, Check, Charges, Workload, IsCommand}
use Rattle.mmtel_words.specs.declared.wanted_commands.Replay.{Replay as Wish}

-- the arguments of a `serve` with this configuration, with this token, in so many turns
abbrev pub IsServe : (config token : List ℕ) → (turns : ℕ) → List (List ℕ) → Type 0
IsServe config token turns words = IsCommand (Serve config token turns) words

-- the parameters of `replay`, by their texts
abbrev pub replay_args_of : Wish → ReplayArgs
replay_args_of replay = record { config = replay.config; script = replay.script; token = replay.token }

-- the arguments of a `replay` with these parameters
abbrev pub IsReplay : ReplayArgs → List (List ℕ) → Type 0
IsReplay args words = IsCommand (Replay args) words

-- the arguments of a `check` of this file
abbrev pub IsCheck : List ℕ → List (List ℕ) → Type 0
IsCheck records words = IsCommand (Check records) words

-- the arguments of a `charges` of this configuration's store
abbrev pub IsCharges : List ℕ → List (List ℕ) → Type 0
IsCharges config words = IsCommand (Charges config) words

-- the arguments of a `workload` of so many calls by this salt
abbrev pub IsWorkload : (calls salt : ℕ) → List (List ℕ) → Type 0
IsWorkload calls salt words = IsCommand (Workload calls salt) words

-- the arguments are this command, and no other
pub record IsOnly (command : Command) (words : List (List ℕ)) : Type 0 where
  pub spelled : IsCommand command words
  pub alone : (other : Command) → IsCommand other words → other ≡ command

-- the arguments are no command
abbrev pub SpellsNone : List (List ℕ) → Type 0
SpellsNone words = (command : Command) → IsCommand command words → ⊥

-- the arguments are this command and no other, or none
abbrev pub AsksFor : List (List ℕ) → Option Command → Type 0
AsksFor words None = SpellsNone words
AsksFor words (Some command) = IsOnly command words
