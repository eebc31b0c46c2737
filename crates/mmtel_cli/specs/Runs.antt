-- A whole run of the program: its text, its status and its calls of the files, the keeper and the link, by the arguments and the grammar of the command line.
use Rattle.std.specs.Prelude.{◌≡◌, ◌≢◌, ℕ, ◌⊎◌, Bool, List, codes, IfSome, Some, None, Ok, Err}
use Rattle.std.specs.declared.option.Option.{Option}
use Rattle.std.specs.declared.result.Result.{Result}
use Rattle.mmtel_charging.specs.Rows.{text_of}
use Rattle.mmtel_charging.specs.declared.rows.Row.{Row}
use Rattle.mmtel_directory.specs.Directory.{directory_of}
use Rattle.mmtel_directory.specs.declared.directories.Directory.{Directory}
use Rattle.mmtel_records_in_force.specs.Texts.{Texts}
use Rattle.mmtel_environment.specs.Counts.{Rose}
use Rattle.mmtel_environment.specs.FileStore.{FileStore, next_read, with_next_call}
use Rattle.mmtel_environment.specs.declared.events.Event.{Event}
use Rattle.mmtel_environment.specs.declared.events.Offer.{Offer}
use Rattle.mmtel_run_definitions.specs.ShortRuns.{IsShortRun}
use Rattle.mmtel_run_theorems.specs.NoInjection.{SendsNoInjection}
use Rattle.mmtel_run_theorems.specs.Outcome.{AllCallsReachOutcome}
use Rattle.mmtel_run_theorems.specs.ChargingRecords.{ParticipantsChargedOnce}
use Rattle.mmtel_run_theorems.specs.Noninterference.{BranchesAreRead}
use Rattle.mmtel_script.specs.Listing.{listing_of}
use Rattle.mmtel_script.specs.Script.{events_of}
use Rattle.mmtel_server.specs.States.{KeeperState}
use Rattle.mmtel_sheet_reader.specs.Uploads.{upload_of}
use Rattle.mmtel_sheet_reader.specs.declared.uploads.Upload.{Upload}
use Rattle.mmtel_sheet_reader.specs.declared.uploads.Upload.TheVariants as upload
use Rattle.mmtel_words.specs.CommandLine.{ReplayArgs, Serve, Replay, Check, Charges, Workload}
use Rattle.mmtel_cli.specs.Commands.{IsServe, IsReplay, IsCheck, IsCharges, IsWorkload, IsOnly, SpellsNone}
use Rattle.mmtel_cli.specs.Due.{due_of_charges, due_of_config, files_after_config}
use Rattle.mmtel_reports.specs.WriteEffects.{ReportsText, WroteListing, WroteNothing, WriteEffect, line_text}
use Rattle.mmtel_cli.specs.KeeperUse.{IsLoaded, IsNotLoaded, ReadsNoRows, ReadsRows}
use Rattle.mmtel_cli.specs.Listings.{OffersOfRun}
use Rattle.mmtel_cli.specs.Environment.{Environment}
use Rattle.mmtel_cli.specs.Serving.{LinkFailsInServe, ServesConfigured}
use Rattle.mmtel_cli.specs.OutOfMemory.{Aborts, AbortsOfServe}
use Rattle.mmtel_cli.specs.Workloads.{Counts, work_config}

-- ---- what was written, and the status

-- out of memory: status 8, and `memory`
abbrev pub WroteMemory : WriteEffect → Type 0
WroteMemory written = ReportsText (codes "memory\n") 8 written

-- arguments that are no command: status 1, and `usage`
abbrev pub WroteUsage : WriteEffect → Type 0
WroteUsage written = ReportsText (codes "usage\n") 1 written

-- the first line that is not of a grammar: status 2, and its number
abbrev pub WroteLine : ℕ → WriteEffect → Type 0
WroteLine line written = ReportsText (line_text line) 2 written

-- a file that could not be read: status 5, and `file`
abbrev pub WroteFile : WriteEffect → Type 0
WroteFile written = ReportsText (codes "file\n") 5 written

-- a keeper that could not be bound, migrated, loaded or read: status 6, and `keeper`
abbrev pub WroteKeeper : WriteEffect → Type 0
WroteKeeper written = ReportsText (codes "keeper\n") 6 written

-- a link that could not be bound, or failed to receive the next event: status 4, and `link`
abbrev pub WroteLink : WriteEffect → Type 0
WroteLink written = ReportsText (codes "link\n") 4 written

-- a file that is no service record: status 3, and the line of its first fault
abbrev pub WroteFault : List ℕ → WriteEffect → Type 0
WroteFault line written = ReportsText line 3 written

-- ---- the outputs

-- the run of these events was listed
pub record ListsReplay (directory : Directory) (token : List ℕ) (events : List Event) (old new : KeeperState) (written : WriteEffect) : Type 0 where
  -- the keeper was bound to the store of the configuration, migrated, and returned these texts,
  pub loaded : Texts
  pub opening : KeeperState
  pub opened : IsLoaded directory.store loaded old opening
  -- these are the outputs of the server over them,
  pub offers : List Offer
  pub run : OffersOfRun directory token loaded events opening new offers
  -- the branches that the server draws are read as they are written, which noninterference requires;
  pub branches : BranchesAreRead directory token
  -- where the run is short, each of its calls has the outcome that the precedence of services determines from how its attempts ended and from the states in which it reached each
  -- target, within the bound on diversions, and is charged so,
  pub outcome : IsShortRun directory token loaded run.recorded → AllCallsReachOutcome directory token loaded run.recorded
  -- each participant of a conference that has joined has a meter of its account, and each that has left is charged once; all CDRs are in the order of the steps,
  pub participants : IsShortRun directory token loaded run.recorded → ParticipantsChargedOnce directory token loaded run.recorded
  -- each message that was built has no injected header fields, and the texts that were sent to peers are those of these,
  pub no_injection : IsShortRun directory token loaded run.recorded → SendsNoInjection directory token loaded run.recorded
  -- and its listing was written: whole with status 0, and else a prefix of it with status 7
  pub wrote : WroteListing (listing_of offers) written

-- ---- how a run ends, by the contents of the files

-- once the script was parsed: the run was listed, or the keeper could not be bound to the store of the configuration, migrated or loaded
abbrev pub EndsOfEvents : Directory → List ℕ → Result (List Event) ℕ → (old new : KeeperState) → WriteEffect → Type 0
EndsOfEvents directory token (Ok events) old new written =
    ListsReplay directory token events old new written ⊎ (IsNotLoaded directory.store old new × WroteKeeper written)
EndsOfEvents directory token (Err line) old new written = WroteLine line written

-- once the script was read, or could not be
abbrev pub EndsOfScript : Directory → List ℕ → Option (List ℕ) → (old new : KeeperState) → WriteEffect → Type 0
EndsOfScript directory token None old new written = WroteFile written
EndsOfScript directory token (Some script) old new written = EndsOfEvents directory token (events_of directory.peers.known script) old new written

-- once the configuration was parsed; `script` is the result of reading the script
abbrev pub EndsOfDirectory : Result Directory ℕ → List ℕ → Option (List ℕ) → (old new : KeeperState) → WriteEffect → Type 0
EndsOfDirectory (Ok directory) token script old new written = EndsOfScript directory token script old new written
EndsOfDirectory (Err line) token script old new written = WroteLine line written

-- once the configuration was read, or could not be
abbrev pub EndsOfConfig : Option (List ℕ) → List ℕ → Option (List ℕ) → (old new : KeeperState) → WriteEffect → Type 0
EndsOfConfig None token script old new written = WroteFile written
EndsOfConfig (Some config) token script old new written = EndsOfDirectory (directory_of config) token script old new written

-- ---- how a check ends

-- of a text that is a service record, or is none (3GPP TS 24.623 §5)
abbrev pub EndsOfUpload : Upload → WriteEffect → Type 0
EndsOfUpload (upload.Accepted sheet) written = WroteListing (codes "ok\n") written
EndsOfUpload (upload.Refused line) written = WroteFault line written

-- once the file was read, or could not be
abbrev pub EndsOfRecords : Option (List ℕ) → WriteEffect → Type 0
EndsOfRecords None written = WroteFile written
EndsOfRecords (Some text) written = EndsOfUpload (upload_of text) written

-- ---- how the writing of a keeper's CDRs ends

-- the keeper was bound to the store and returned these CDRs, and their text was written: whole with status 0, and else a prefix of it with status 7 (RFC 4180, 3GPP TS 32.260 §5)
pub record WritesRows (store : List ℕ) (old new : KeeperState) (written : WriteEffect) : Type 0 where
  pub rows : List Row
  pub read : ReadsRows store rows old new
  pub wrote : WroteListing (text_of rows) written

-- once the configuration was parsed: its store's CDRs were written, or the keeper could not be bound to it or read
abbrev pub EndsOfStore : Result Directory ℕ → (old new : KeeperState) → WriteEffect → Type 0
EndsOfStore (Ok directory) old new written =
    WritesRows directory.store old new written ⊎ (ReadsNoRows directory.store old new × WroteKeeper written)
EndsOfStore (Err line) old new written = WroteLine line written

-- once the configuration was read, or could not be
abbrev pub EndsOfCharges : Option (List ℕ) → (old new : KeeperState) → WriteEffect → Type 0
EndsOfCharges None old new written = WroteFile written
EndsOfCharges (Some config) old new written = EndsOfStore (directory_of config) old new written

-- ---- how a workload ends

-- the text has the numbers of a server of its configuration for so many calls by the salt, and was written: whole with status 0, and else a prefix of it with status 7
pub record WritesCounts (directory : Directory) (calls salt : ℕ) (written : WriteEffect) : Type 0 where
  pub text : List ℕ
  pub counts : Counts directory calls salt text
  pub wrote : WroteListing text written

-- ---- how serving ends

-- the turns were done, or the link was closed: the link was served over what the keeper returned, as the definitions of the run determine (`ServesRun`), and nothing was written
pub record ServesAndWrites (directory : Directory) (token : List ℕ) (turns : ℕ) (old new : Environment) (written : WriteEffect) : Type 0 where
  pub closed : Bool
  pub serves : ServesConfigured directory token turns old new (Ok closed)
  pub wrote : WroteNothing written

-- or the link could not be bound or failed to receive; or the keeper could not be bound to the store of the configuration, migrated or loaded
pub data EndsServing (directory : Directory) (token : List ℕ) (turns : ℕ) (old new : Environment) (written : WriteEffect) : Type 0 where
  EndsServed : ServesAndWrites directory token turns old new written → EndsServing directory token turns old new written
  EndsLinkFailed : LinkFailsInServe directory token turns old new → WroteLink written → EndsServing directory token turns old new written
  EndsKeeperFailed : IsNotLoaded directory.store old.keeper new.keeper → WroteKeeper written → EndsServing directory token turns old new written

-- once the configuration was parsed
abbrev pub EndsOfServing : Result Directory ℕ → (token : List ℕ) → (turns : ℕ) → (old new : Environment) → WriteEffect → Type 0
EndsOfServing (Ok directory) token turns old new written = EndsServing directory token turns old new written
EndsOfServing (Err line) token turns old new written = WroteLine line written

-- once it was read, or could not be
abbrev pub EndsOfServe : Option (List ℕ) → (token : List ℕ) → (turns : ℕ) → (old new : Environment) → WriteEffect → Type 0
EndsOfServe None token turns old new written = WroteFile written
EndsOfServe (Some config) token turns old new written = EndsOfServing (directory_of config) token turns old new written

-- ---- a run

-- the results of reading CONFIG and SCRIPT: None where the read failed; where the files expose their contents, those of the first call and of the second
pub record FilesRead (exposed : Option FileStore) (args : ReplayArgs) : Type 0 where
  pub config : Option (List ℕ)
  pub script : Option (List ℕ)
  pub exposed_config : IfSome exposed (λ store. config ≡ next_read store args.config)
  pub exposed_script : IfSome exposed (λ store. script ≡ next_read (with_next_call store) args.script)

-- the arguments are a `replay`, and it ended as the contents of the files and of the keeper determine; or memory ran out, after these calls of the keeper (`Aborts`)
pub record ReplayRun (exposed : Option FileStore) (old new : KeeperState) (words : List (List ℕ)) (written : WriteEffect) : Type 0 where
  pub args : ReplayArgs
  pub spelled : IsOnly (Replay args) words
  pub files : FilesRead exposed args
  pub ends : EndsOfConfig files.config args.token files.script old new written ⊎ WroteMemory written
  pub out_of_memory : written.status ≡ 8 → Aborts old new (due_of_config files.config args.token files.script)

-- the arguments are a `check`, and it ended as the result of reading RECORDS determines, which is that of the first call where the files expose it; or memory ran out
pub record CheckRun (exposed : Option FileStore) (words : List (List ℕ)) (written : WriteEffect) : Type 0 where
  pub records : List ℕ
  pub spelled : IsOnly (Check records) words
  pub text : Option (List ℕ)
  pub exposed_text : IfSome exposed (λ store. text ≡ next_read store records)
  pub ends : EndsOfRecords text written ⊎ WroteMemory written

-- the arguments are a `charges`, and it ended as the result of reading CONFIG, which is that of the first call where the files expose it, and the keeper's determine; or memory ran
-- out, after these calls of the keeper; whatever the status, the keeper holds what it held
pub record ChargesRun (exposed : Option FileStore) (old new : KeeperState) (words : List (List ℕ)) (written : WriteEffect) : Type 0 where
  pub config : List ℕ
  pub spelled : IsOnly (Charges config) words
  pub text : Option (List ℕ)
  pub exposed_text : IfSome exposed (λ store. text ≡ next_read store config)
  pub ends : EndsOfCharges text old new written ⊎ WroteMemory written
  pub out_of_memory : written.status ≡ 8 → Aborts old new (due_of_charges text)
  pub held : new.contents ≡ old.contents

-- the arguments are a `workload`; its configuration is of the grammar, so no line of it is reported, and it ended so; or memory ran out
pub record WorkloadRun (words : List (List ℕ)) (written : WriteEffect) : Type 0 where
  pub calls : ℕ
  pub salt : ℕ
  pub spelled : IsOnly (Workload calls salt) words
  pub directory : Directory
  pub reads : directory_of work_config ≡ Ok directory
  pub ends : WritesCounts directory calls salt written ⊎ WroteMemory written

-- the arguments are a `serve`, and it ended as the result of reading CONFIG, which is that of the first call where the files expose it, and the keeper's and the link's determine;
-- or memory ran out, with so much done before
pub record ServeRun (exposed : Option FileStore) (old new : Environment) (words : List (List ℕ)) (written : WriteEffect) : Type 0 where
  pub config : List ℕ
  pub token : List ℕ
  pub turns : ℕ
  pub spelled : IsOnly (Serve config token turns) words
  pub text : Option (List ℕ)
  pub exposed_text : IfSome exposed (λ store. text ≡ next_read store config)
  pub ends : EndsOfServe text token turns old new written ⊎ WroteMemory written
  pub out_of_memory : written.status ≡ 8 → AbortsOfServe text token turns old new

-- the arguments are no command
pub record UnparsedRun (words : List (List ℕ)) (written : WriteEffect) : Type 0 where
  pub none : SpellsNone words
  pub usage : WroteUsage written

-- one of these; or memory ran out in parsing the arguments, and neither the keeper nor the link was called
pub data ProgramRun (exposed : Option FileStore) (old new : Environment) (words : List (List ℕ)) (written : WriteEffect) : Type 0 where
  RanServe : ServeRun exposed old new words written → ProgramRun exposed old new words written
  RanReplay : ReplayRun exposed old.keeper new.keeper words written → ProgramRun exposed old new words written
  RanCheck : CheckRun exposed words written → ProgramRun exposed old new words written
  RanCharges : ChargesRun exposed old.keeper new.keeper words written → ProgramRun exposed old new words written
  RanWork : WorkloadRun words written → ProgramRun exposed old new words written
  RanNone : UnparsedRun words written → ProgramRun exposed old new words written
  RanOutOfMemoryFirst : WroteMemory written → new.keeper ≡ old.keeper → new.link ≡ old.link → ProgramRun exposed old new words written

-- ---- the calls of the files

-- at every status but 8 the calls that are due were made; at 8 none, the first of them, or all
pub record HasCalledFiles (status : ℕ) (after : Option FileStore) (none first last : FileStore) : Type 0 where
  pub all : status ≢ 8 → after ≡ Some last
  pub some : status ≡ 8 → (after ≡ Some none) ⊎ ((after ≡ Some first) ⊎ (after ≡ Some last))

-- for `replay` CONFIG and then SCRIPT, each once and no other name, SCRIPT only where CONFIG exists and is valid; for `check` RECORDS, and for `serve` and `charges` CONFIG, once
-- and no other name; none for `workload` and without a command
pub record CallsFilesFor (store : FileStore) (words : List (List ℕ)) (status : ℕ) (after : Option FileStore) : Type 0 where
  pub unparsed : SpellsNone words → after ≡ Some store
  pub serve : (config token : List ℕ) (turns : ℕ) → IsServe config token turns words → HasCalledFiles status after store (with_next_call store) (with_next_call store)
  pub replay : (args : ReplayArgs) → IsReplay args words →
      HasCalledFiles status after store (with_next_call store) (files_after_config (with_next_call store) (next_read store args.config))
  pub check : (records : List ℕ) → IsCheck records words → HasCalledFiles status after store (with_next_call store) (with_next_call store)
  pub charges : (config : List ℕ) → IsCharges config words → HasCalledFiles status after store (with_next_call store) (with_next_call store)
  pub workload : (calls salt : ℕ) → IsWorkload calls salt words → after ≡ Some store

-- ---- counts of faults

-- the count of the files' faults rose at status 5, and is unchanged at every other
pub record CountsAtStatus5 (status before now : ℕ) : Type 0 where
  pub rose : status ≡ 5 → Rose before now
  pub kept : status ≢ 5 → now ≡ before

-- and so the count of the link's arrival faults at status 4
pub record CountsAtStatus4 (status before now : ℕ) : Type 0 where
  pub rose : status ≡ 4 → Rose before now
  pub kept : status ≢ 4 → now ≡ before
