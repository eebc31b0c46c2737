-- The commands as the library `clap` is configured.
use Rattle.std.specs.Prelude.{Some, true, codes}
use Rattle.clap.specs.Words.{App, Rule, Text, new_app, new_rule, with_rule}
use Rattle.clap.specs.Simple.{on_top}

-- a required option, with a value
abbrev pub option_arg : Text → Rule
option_arg name = record (new_rule name) { long = Some name; required = true }

-- a required positional word
abbrev pub position_arg : Text → Rule
position_arg name = record (new_rule name) { required = true }

-- a command whose words do not begin with the program's name, and that has no help option
abbrev pub bare_command : Text → App
bare_command name = on_top (λ s. record s { no_binary_name = true; disable_help_flag = true }) (new_app name)

abbrev pub serve_app : App
serve_app = with_rule (with_rule (with_rule (bare_command (codes "serve")) (option_arg (codes "token"))) (option_arg (codes "turns"))) (position_arg (codes "config"))

abbrev pub replay_app : App
replay_app = with_rule (with_rule (with_rule (bare_command (codes "replay")) (option_arg (codes "token"))) (position_arg (codes "config"))) (position_arg (codes "script"))

-- `check` and `charges`
abbrev pub file_app : Text → App
file_app name = with_rule (bare_command name) (position_arg (codes "file"))

abbrev pub workload_app : App
workload_app = with_rule (with_rule (bare_command (codes "workload")) (option_arg (codes "calls"))) (option_arg (codes "salt"))
