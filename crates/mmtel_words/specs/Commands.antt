-- The result of reading the words, by its texts.
use Rattle.std.specs.Prelude.{Option, Some, None}
use Rattle.mmtel_words.specs.CommandLine.{Command, Serve, Replay, Check, Charges, Workload}
use Rattle.mmtel_words.specs.declared.wanted_commands.WantedCommand.{WantedCommand}
use Rattle.mmtel_words.specs.declared.wanted_commands.WantedCommand.TheVariants as wanted

-- the requested command
abbrev pub command_in : WantedCommand → Command
command_in (wanted.Serve serve) = Serve serve.config serve.token serve.turns
command_in (wanted.Replay replay) = Replay (record { config = replay.config; script = replay.script; token = replay.token })
command_in (wanted.Check records) = Check records
command_in (wanted.Charges config) = Charges config
command_in (wanted.Workload calls salt) = Workload calls salt

abbrev pub command_if_any : Option WantedCommand → Option Command
command_if_any None = None
command_if_any (Some wanted) = Some (command_in wanted)
