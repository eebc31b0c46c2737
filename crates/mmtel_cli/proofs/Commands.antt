-- The report that was prepared, by the command of the arguments.
use Rattle.std.proofs.Common.{◌≡◌, ℕ, List, Option, Some, None, refl, sym, inl, IfSome}
use Rattle.mmtel_environment.specs.FileStore.{FileStore}
use Rattle.mmtel_base.proofs.ChainTheorems.{some_is}
use Rattle.mmtel_words.specs.CommandLine.{Command, IsCommand}
use Rattle.mmtel_cli.specs.Commands.{IsOnly}
use Rattle.mmtel_cli.specs.Due.{files_after_command, files_after_first_read}
use Rattle.mmtel_cli.specs.ReportsDue.{CountsLinkFaultsBy, HasReadFiles, SparedBy, UnboundBy}
use Rattle.mmtel_cli.specs.CommandResults.{Ports, Prepares, ResultOfCommand}
use Rattle.mmtel_cli.specs.Environment.{Environment}
use Rattle.mmtel_reports.specs.declared.reports.Report.{Report}
use Rattle.mmtel_reports.specs.declared.reports.Report.TheVariants.{Usage}

-- each command of the arguments is this one
abbrev IsAll : Option Command → List (List ℕ) → Type 0
IsAll given words = (other : Command) → IsCommand other words → given ≡ Some other

only_this : (command : Command) (words : List (List ℕ)) → IsCommand command words → IsAll (Some command) words → IsOnly command words
only_this command words spelled all = record { spelled = spelled; alone = λ other. λ is. sym (some_is command other (all other is)) }

-- one command
pub prepares_one : {L K : Type 0} (words : List (List ℕ)) (old new : Environment) (before now : Ports L K) (outcome : Report) (command : Command)
    → IsCommand command words → IsAll (Some command) words → ResultOfCommand before.files old new command outcome
    → IfSome before.files (λ files. HasReadFiles outcome now.files (files_after_first_read files command) (files_after_command files command)) → (outcome ≡ Usage → ⊥)
    → SparedBy (Some command) before.keeper now.keeper → UnboundBy (Some command) outcome before.link now.link → CountsLinkFaultsBy (Some command) outcome old.link.arrival_faults new.link.arrival_faults
    → Prepares words old new before now outcome
prepares_one words old new before now outcome command spelled all gives calls asked spared unbound taking = inl (record {
  command = Some command;
  command_read = only_this command words spelled all;
  result = gives;
  file_calls = calls;
  usage = (λ e. absurd (asked e), λ e. absurd cc);
  spared = spared;
  unbound = unbound;
  arrival_faults = taking;
})

-- where the arguments are no command
no_file_called : (exposed : Option FileStore) → IfSome exposed (λ files. exposed ≡ Some files)
no_file_called None = tt
no_file_called (Some files) = refl

pub prepares_none : {L K : Type 0} (words : List (List ℕ)) (seen : Environment) (before : Ports L K) → IsAll None words → Prepares words seen seen before before Usage
prepares_none words seen before all = inl (record {
  command = None;
  command_read = λ other. λ is. let wrong = all other is in cc;
  result = refl;
  file_calls = no_file_called before.files;
  usage = (λ e. refl, λ e. refl);
  spared = refl;
  unbound = refl;
  arrival_faults = refl;
})
