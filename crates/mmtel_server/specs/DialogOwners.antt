-- Relations between the calls and the conferences and the functions of this crate.
use Rattle.std.specs.Prelude.{◌≡◌, ℕ, List, Option}
use Rattle.std.specs.Option.{option_map}
use Rattle.mmtel_compose.specs.ReceivedMessages.{MessageView}
use Rattle.mmtel_directory.specs.declared.directories.Directory.{Directory}
use Rattle.mmtel_admission.specs.Dispositions.{dialog_owner_in as owner_of}
use Rattle.mmtel_admission.specs.declared.status_responses.DialogOwner.{DialogOwner}
use Rattle.mmtel_run_definitions.specs.Transitions.{RunState, dialog_owner_in}
use Rattle.mmtel_server.specs.Representation.{Represents}
use Rattle.mmtel_server.specs.declared.servers.Server.{Server}

-- whichever state the server represents, this is the owner of the dialog that a message names
abbrev pub NamesOwner : Server → MessageView → Option DialogOwner → Type 0
NamesOwner server message named =
    (directory : Directory) (token : List ℕ) (state : RunState) → Represents directory token server state →
    option_map owner_of named ≡ dialog_owner_in directory message.parsed state
