-- The report that is due, by the contents of the files: for `replay` the configuration comes first, then the script, then the listing of the server's outputs; for `check` the
-- file is a service record or is none; for `charges` the CDRs that the keeper holds; for `workload` the numbers for its calls. `serve` reports only that
-- its configuration does not exist or is not valid; its other effects are stated of the link and the keeper (`Serving`).
use Rattle.std.specs.Prelude.{ℕ, List, Some, None, Ok, Err}
use Rattle.std.specs.declared.option.Option.{Option}
use Rattle.std.specs.declared.result.Result.{Result}
use Rattle.mmtel_directory.specs.Directory.{directory_of}
use Rattle.mmtel_script.specs.Script.{events_of}
use Rattle.mmtel_environment.specs.FileStore.{FileStore, next_read, with_next_call}
use Rattle.mmtel_words.specs.CommandLine.{Command, Serve, Replay, Check, Charges, Workload}
use Rattle.mmtel_directory.specs.declared.directories.Directory.{Directory}
use Rattle.mmtel_environment.specs.declared.events.Event.{Event}
use Rattle.mmtel_sheet_reader.specs.Uploads.{upload_of}
use Rattle.mmtel_sheet_reader.specs.declared.uploads.Upload.{Upload}
use Rattle.mmtel_sheet_reader.specs.declared.uploads.Upload.TheVariants.{Accepted, Refused}

pub data Due : Type 0 where
  -- the arguments are no command
  Usage : Due
  -- that line is the first that is not of the grammar of its file
  BadLine : (number : ℕ) → Due
  -- a file cannot be read
  File : Due
  -- the listing of the server's outputs in the run of these events
  Run : (directory : Directory) → (token : List ℕ) → (events : List Event) → Due
  -- the CDRs that the keeper of this store holds
  Rows : (store : List ℕ) → Due
  -- the numbers of a server of this configuration for so many calls by the salt
  Work : (calls salt : ℕ) → (directory : Directory) → Due
  -- the file is a service record
  ValidRecord : Due
  -- the file is none, and this is the line of its first fault
  InvalidRecord : (line : List ℕ) → Due

-- the report once the script was parsed: the listing of the run of its events, or its first bad line
abbrev pub due_of_events : Directory → List ℕ → Result (List Event) ℕ → Due
due_of_events directory token (Ok events) = Run directory token events
due_of_events directory token (Err line) = BadLine line

-- the report once the script was read, or could not be
abbrev pub due_of_script : Directory → List ℕ → Option (List ℕ) → Due
due_of_script directory token None = File
due_of_script directory token (Some script) = due_of_events directory token (events_of directory.peers.known script)

-- the report once the configuration was parsed; the last argument is the result of reading the script
abbrev pub due_of_directory : Result Directory ℕ → List ℕ → Option (List ℕ) → Due
due_of_directory (Ok directory) token script = due_of_script directory token script
due_of_directory (Err line) token script = BadLine line

-- the report once the configuration was read, or could not be
abbrev pub due_of_config : Option (List ℕ) → List ℕ → Option (List ℕ) → Due
due_of_config None token script = File
due_of_config (Some config) token script = due_of_directory (directory_of config) token script

-- the report for a text that is to be checked
abbrev pub due_of_upload : Upload → Due
due_of_upload (Accepted sheet) = ValidRecord
due_of_upload (Refused line) = InvalidRecord line

-- the report once the file that is to be checked was read, or could not be
abbrev pub due_of_records : Option (List ℕ) → Due
due_of_records None = File
due_of_records (Some text) = due_of_upload (upload_of text)

-- the report of `charges` once the configuration was parsed
abbrev pub due_of_store : Result Directory ℕ → Due
due_of_store (Ok directory) = Rows directory.store
due_of_store (Err line) = BadLine line

-- and once it was read, or could not be
abbrev pub due_of_charges : Option (List ℕ) → Due
due_of_charges None = File
due_of_charges (Some config) = due_of_store (directory_of config)

-- the files after the calls that are due: for `replay` the first call is for CONFIG, and the second for SCRIPT, if CONFIG exists and is valid; for `serve`, `check` and `charges`
-- there is one call, and for `workload` and without a command none
abbrev pub files_after_directory : FileStore → Result Directory ℕ → FileStore
files_after_directory files (Ok directory) = with_next_call files
files_after_directory files (Err line) = files

abbrev pub files_after_config : FileStore → Option (List ℕ) → FileStore
files_after_config files None = files
files_after_config files (Some config) = files_after_directory files (directory_of config)

-- after the first of them, if there is one
abbrev pub files_after_first_read : FileStore → Command → FileStore
files_after_first_read files (Serve config token turns) = with_next_call files
files_after_first_read files (Replay args) = with_next_call files
files_after_first_read files (Check records) = with_next_call files
files_after_first_read files (Charges config) = with_next_call files
files_after_first_read files (Workload calls salt) = files

abbrev pub files_after_command : FileStore → Command → FileStore
files_after_command files (Serve config token turns) = with_next_call files
files_after_command files (Replay args) = files_after_config (with_next_call files) (next_read files args.config)
files_after_command files (Check records) = with_next_call files
files_after_command files (Charges config) = with_next_call files
files_after_command files (Workload calls salt) = files

abbrev pub files_after_first : FileStore → Option Command → FileStore
files_after_first files None = files
files_after_first files (Some command) = files_after_first_read files command

abbrev pub files_after : FileStore → Option Command → FileStore
files_after files None = files
files_after files (Some command) = files_after_command files command
