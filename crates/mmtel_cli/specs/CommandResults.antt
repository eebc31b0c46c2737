-- The results of reading the files, whether these expose their contents or not.
use Rattle.std.specs.Prelude.{◌≡◌, ◌↔◌, ◌⊎◌, ℕ, List, IfSome, Some, None, Ok, Err}
use Rattle.std.specs.declared.option.Option.{Option}
use Rattle.std.specs.declared.result.Result.{Result}
use Rattle.mmtel_words.specs.CommandLine.{ReplayArgs, Command, Serve, Replay, Check, Charges, Workload}
use Rattle.mmtel_cli.specs.Commands.{AsksFor}
use Rattle.mmtel_cli.specs.Due as due
use Rattle.mmtel_cli.specs.Due.{due_of_charges, due_of_config, due_of_directory, due_of_records, files_after, files_after_first}
use Rattle.mmtel_cli.specs.ReportsDue.{CountsLinkFaultsBy, HasReadFiles, IsDue, IsServedBy, SparedBy, UnboundBy}
use Rattle.mmtel_cli.specs.Environment.{Environment}
use Rattle.mmtel_environment.specs.FileStore.{FileStore, next_read, with_next_call}
use Rattle.mmtel_cli.specs.Workloads.{work_config}
use Rattle.mmtel_directory.specs.Directory.{directory_of}
use Rattle.mmtel_directory.specs.declared.directories.Directory.{Directory}
use Rattle.mmtel_server.specs.States.{KeeperState}
use Rattle.mmtel_reports.specs.declared.reports.Report.{Report}
use Rattle.mmtel_reports.specs.declared.reports.Report.TheVariants.{Memory, Usage}

-- there is a result for the script, the exposed one where the files expose it, with which this report was made
pub record ResultOfScript (exposed : Option FileStore) (old new : KeeperState) (args : ReplayArgs) (directory : Result Directory ℕ) (outcome : Report) : Type 0 where
  pub script : Option (List ℕ)
  pub exposed_script : IfSome exposed (λ store. script ≡ next_read store args.script)
  pub is_due : IsDue old new outcome (due_of_directory directory args.token script)

-- there are results for both, the exposed ones where the files expose them, with which this report was made
pub record ResultOfReplay (exposed : Option FileStore) (old new : KeeperState) (args : ReplayArgs) (outcome : Report) : Type 0 where
  pub config : Option (List ℕ)
  pub script : Option (List ℕ)
  pub exposed_config : IfSome exposed (λ store. config ≡ next_read store args.config)
  pub exposed_script : IfSome exposed (λ store. script ≡ next_read (with_next_call store) args.script)
  pub is_due : IsDue old new outcome (due_of_config config args.token script)

-- there is a result for the file that is to be checked, the exposed one where the files expose it, with which this report was made, whatever the keeper is
pub record ResultOfCheck (exposed : Option FileStore) (records : List ℕ) (outcome : Report) : Type 0 where
  pub text : Option (List ℕ)
  pub exposed_text : IfSome exposed (λ store. text ≡ next_read store records)
  pub is_due : (keeper : KeeperState) → IsDue keeper keeper outcome (due_of_records text)

-- the same for the configuration of `charges`; whatever the report, the keeper holds what it held
pub record ResultOfCharges (exposed : Option FileStore) (old new : KeeperState) (config : List ℕ) (outcome : Report) : Type 0 where
  pub text : Option (List ℕ)
  pub exposed_text : IfSome exposed (λ store. text ≡ next_read store config)
  pub is_due : IsDue old new outcome (due_of_charges text)
  pub held : new.contents ≡ old.contents

-- the configuration of a workload is of the grammar, and with it this report was made, whatever the keeper is
pub record ResultOfWorkload (calls salt : ℕ) (outcome : Report) : Type 0 where
  pub directory : Directory
  pub reads : directory_of work_config ≡ Ok directory
  pub is_due : (keeper : KeeperState) → IsDue keeper keeper outcome (due.Work calls salt directory)

-- the report of `serve` once the configuration was parsed
abbrev pub ServesDirectory : Result Directory ℕ → (token : List ℕ) → (turns : ℕ) → (old new : Environment) → Report → Type 0
ServesDirectory (Ok directory) token turns old new outcome = IsServedBy directory token turns old new outcome
ServesDirectory (Err line) token turns old new outcome = IsDue old.keeper new.keeper outcome (due.BadLine line) × (new.link ≡ old.link)

-- and once it was read, or could not be
abbrev pub ServesConfig : Option (List ℕ) → (token : List ℕ) → (turns : ℕ) → (old new : Environment) → Report → Type 0
ServesConfig None token turns old new outcome = IsDue old.keeper new.keeper outcome due.File × (new.link ≡ old.link)
ServesConfig (Some config) token turns old new outcome = ServesDirectory (directory_of config) token turns old new outcome

-- there is a result for the configuration of `serve`, the exposed one where the files expose it, with which this report was made
pub record ResultOfServe (exposed : Option FileStore) (old new : Environment) (config token : List ℕ) (turns : ℕ) (outcome : Report) : Type 0 where
  pub text : Option (List ℕ)
  pub exposed_text : IfSome exposed (λ store. text ≡ next_read store config)
  pub is_due : ServesConfig text token turns old new outcome

-- the same for each command
abbrev pub ResultOfCommand : Option FileStore → (old new : Environment) → Command → Report → Type 0
ResultOfCommand exposed old new (Serve config token turns) outcome = ResultOfServe exposed old new config token turns outcome
ResultOfCommand exposed old new (Replay args) outcome = ResultOfReplay exposed old.keeper new.keeper args outcome
ResultOfCommand exposed old new (Check records) outcome = ResultOfCheck exposed records outcome
ResultOfCommand exposed old new (Charges config) outcome = ResultOfCharges exposed old.keeper new.keeper config outcome
ResultOfCommand exposed old new (Workload calls salt) outcome = ResultOfWorkload calls salt outcome

abbrev pub ResultOfRun : Option FileStore → (old new : Environment) → Option Command → Report → Type 0
ResultOfRun exposed old new None outcome = outcome ≡ Usage
ResultOfRun exposed old new (Some command) outcome = ResultOfCommand exposed old new command outcome

-- the files as they expose themselves, and the link and the keeper themselves
pub record Ports (L K : Type 0) : Type 0 where
  pub files : Option FileStore
  pub link : L
  pub keeper : K

abbrev pub ports : {L K : Type 0} → Option FileStore → L → K → Ports L K
ports files link keeper = record { files = files; link = link; keeper = keeper }

-- the arguments are this command, with this report and these calls of the files, and the keeper and the link are unchanged for a command that does not use them
pub record PrepareEffect {L K : Type 0} (words : List (List ℕ)) (old new : Environment) (before now : Ports L K) (outcome : Report) : Type 0 where
  pub command : Option Command
  pub command_read : AsksFor words command
  pub result : ResultOfRun before.files old new command outcome
  pub file_calls : IfSome before.files (λ store. HasReadFiles outcome now.files (files_after_first store command) (files_after store command))
  pub usage : (outcome ≡ Usage) ↔ (command ≡ None)
  pub spared : SparedBy command before.keeper now.keeper
  pub unbound : UnboundBy command outcome before.link now.link
  pub arrival_faults : CountsLinkFaultsBy command outcome old.link.arrival_faults new.link.arrival_faults

-- memory ran out in parsing the arguments, and neither the files, the keeper nor the link was called
pub record RanOutOfMemory {L K : Type 0} (old new : Environment) (before now : Ports L K) (outcome : Report) : Type 0 where
  pub memory : outcome ≡ Memory
  pub calls : now.files ≡ before.files
  pub spared : now.keeper ≡ before.keeper
  pub same_keeper : new.keeper ≡ old.keeper
  pub unbound : now.link ≡ before.link
  pub same_link : new.link ≡ old.link

abbrev pub Prepares : {L K : Type 0} → List (List ℕ) → (old new : Environment) → (before now : Ports L K) → Report → Type 0
Prepares words old new before now outcome = PrepareEffect words old new before now outcome ⊎ RanOutOfMemory old new before now outcome
