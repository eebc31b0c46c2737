-- What the one statement on a whole run implies for each status, and where the files, the keeper and the link expose their contents.
use Rattle.std.specs.Prelude.{◌≡◌, ◌==◌, ℕ, true, false, ◌⊎◌, List, [], ◌∷◌, codes, Some, Ok}
use Rattle.std.specs.List.{list_any}
use Rattle.std.specs.declared.option.Option.{Option}
use Rattle.mmtel_directory.specs.Directory.{directory_of}
use Rattle.mmtel_directory.specs.declared.directories.Directory.{Directory}
use Rattle.mmtel_keeper.specs.Contents.{KeeperCalls}
use Rattle.mmtel_link.specs.LinkStates.{LinkCalls, fails_next}
use Rattle.mmtel_environment.specs.Counts.{Rose}
use Rattle.mmtel_environment.specs.FileStore.{FileStore, next_read, with_next_call}
use Rattle.mmtel_environment.specs.declared.events.Event.{Event}
use Rattle.mmtel_script.specs.Script.{events_of}
use Rattle.mmtel_sheet_reader.specs.Uploads.{upload_of}
use Rattle.mmtel_sheet_reader.specs.declared.uploads.Upload.TheVariants.{Accepted, Refused}
use Rattle.mmtel_sheet_values.specs.declared.values.Sheet.{Sheet}
use Rattle.mmtel_words.specs.CommandLine.{ReplayArgs}
use Rattle.mmtel_cli.specs.Commands.{IsServe, IsReplay, IsCheck, IsCharges, IsWorkload, SpellsNone}
use Rattle.mmtel_reports.specs.WriteEffects.{WroteListing, WriteEffect}
use Rattle.mmtel_server.specs.States.{KeeperState}
use Rattle.mmtel_cli.specs.KeeperUse.{fails_first_three, fails_opening}
use Rattle.mmtel_cli.specs.Environment.{Environment}
use Rattle.mmtel_cli.specs.Runs.{CountsAtStatus5, EndsOfUpload, ListsReplay, ProgramRun, ServesAndWrites, WritesCounts, WritesRows}
use Rattle.mmtel_cli.specs.Due.{due_of_charges, due_of_config}
use Rattle.mmtel_cli.specs.OutOfMemory.{Aborts, AbortsOfServe}

-- the arguments are a `replay` whose files exist and are of their grammars
pub record IsReplayable (files : FileStore) (words : List (List ℕ)) (args : ReplayArgs) (directory : Directory) (events : List Event) : Type 0 where
  pub spelled : IsReplay args words
  pub config : List ℕ
  pub config_there : next_read files args.config ≡ Some config
  pub config_read : directory_of config ≡ Ok directory
  pub script : List ℕ
  pub script_there : next_read (with_next_call files) args.script ≡ Some script
  pub script_read : events_of directory.peers.known script ≡ Ok events

-- the keeper can be bound, migrated and loaded: it exposes so, or its count of faults did not rise
abbrev pub KeeperDoesNotFail : (old new : KeeperState) → Type 0
KeeperDoesNotFail old new = ((calls : KeeperCalls) × (old.calls ≡ Some calls) × (fails_opening calls ≡ false)) ⊎ ¬ (Rose old.faults new.faults)

-- and so it can be bound and its CDRs be read
abbrev pub KeeperReadsRows : (old new : KeeperState) → Type 0
KeeperReadsRows old new = ((calls : KeeperCalls) × (old.calls ≡ Some calls) × (fails_first_three calls ≡ false)) ⊎ ¬ (Rose old.faults new.faults)

-- for these, the run was listed: exactly the outputs of the definitions, and noninterference holds; or memory ran out
abbrev pub ReplaysAreListed : Type 0
ReplaysAreListed =
    (files : FileStore) (old new : Environment) (words : List (List ℕ)) (args : ReplayArgs) (directory : Directory) (events : List Event) (written : WriteEffect) →
    IsReplayable files words args directory events → KeeperDoesNotFail old.keeper new.keeper → ProgramRun (Some files) old new words written →
    ListsReplay directory args.token events old.keeper new.keeper written ⊎ (written.status ≡ 8)

-- and where the sink did not fail, the status is 0, or 8
abbrev pub ReplaysSucceed : Type 0
ReplaysSucceed =
    (files : FileStore) (old new : Environment) (words : List (List ℕ)) (args : ReplayArgs) (directory : Directory) (events : List Event) (written : WriteEffect) →
    IsReplayable files words args directory events → KeeperDoesNotFail old.keeper new.keeper → ProgramRun (Some files) old new words written →
    ¬ (Rose written.old_faults written.new_faults) → (written.status ≡ 0) ⊎ (written.status ≡ 8)

-- and where the keeper exposes that it cannot be bound, migrated or loaded, the status is 6, or 8
abbrev pub ReplaysNeedAKeeper : Type 0
ReplaysNeedAKeeper =
    (files : FileStore) (old new : Environment) (calls : KeeperCalls) (words : List (List ℕ)) (args : ReplayArgs) (directory : Directory)
    (events : List Event) (written : WriteEffect) →
    IsReplayable files words args directory events → old.keeper.calls ≡ Some calls → fails_opening calls ≡ true → ProgramRun (Some files) old new words written →
    (written.status ≡ 6) ⊎ (written.status ≡ 8)

-- the arguments are a `check` whose file exists, with this text
pub record IsCheckable (files : FileStore) (words : List (List ℕ)) (text : List ℕ) : Type 0 where
  pub records : List ℕ
  pub spelled : IsCheck records words
  pub there : next_read files records ≡ Some text

-- for these, the result of the check was written: `ok` where it is a service record, and else the line of its first fault with status 3; or memory ran out
abbrev pub ChecksAreWritten : Type 0
ChecksAreWritten =
    (files : FileStore) (old new : Environment) (words : List (List ℕ)) (text : List ℕ) (written : WriteEffect) →
    IsCheckable files words text → ProgramRun (Some files) old new words written →
    EndsOfUpload (upload_of text) written ⊎ (written.status ≡ 8)

-- the arguments are a `charges` whose configuration exists and is of its grammar
pub record IsChargeable (files : FileStore) (words : List (List ℕ)) (directory : Directory) : Type 0 where
  pub config : List ℕ
  pub spelled : IsCharges config words
  pub text : List ℕ
  pub there : next_read files config ≡ Some text
  pub read : directory_of text ≡ Ok directory

-- for these, the CDRs that the keeper holds were written; or memory ran out
abbrev pub RowsAreListed : Type 0
RowsAreListed =
    (files : FileStore) (old new : Environment) (words : List (List ℕ)) (directory : Directory) (written : WriteEffect) →
    IsChargeable files words directory → KeeperReadsRows old.keeper new.keeper → ProgramRun (Some files) old new words written →
    WritesRows directory.store old.keeper new.keeper written ⊎ (written.status ≡ 8)

-- and where the keeper exposes that it cannot be bound or read, the status is 6, or 8
abbrev pub RowsNeedAKeeper : Type 0
RowsNeedAKeeper =
    (files : FileStore) (old new : Environment) (calls : KeeperCalls) (words : List (List ℕ)) (directory : Directory) (written : WriteEffect) →
    IsChargeable files words directory → old.keeper.calls ≡ Some calls → fails_first_three calls ≡ true → ProgramRun (Some files) old new words written →
    (written.status ≡ 6) ⊎ (written.status ≡ 8)

-- the arguments are a `serve` whose configuration exists and is of its grammar
pub record IsServable (files : FileStore) (words : List (List ℕ)) (directory : Directory) (token : List ℕ) (turns : ℕ) : Type 0 where
  pub config : List ℕ
  pub spelled : IsServe config token turns words
  pub text : List ℕ
  pub there : next_read files config ≡ Some text
  pub read : directory_of text ≡ Ok directory

-- for these, a link whose count of arrival faults did not rise was served; or memory ran out
abbrev pub ServesAreServed : Type 0
ServesAreServed =
    (files : FileStore) (old new : Environment) (words : List (List ℕ)) (directory : Directory) (token : List ℕ) (turns : ℕ) (written : WriteEffect) →
    IsServable files words directory token turns → KeeperDoesNotFail old.keeper new.keeper → ¬ (Rose old.link.arrival_faults new.link.arrival_faults) →
    ProgramRun (Some files) old new words written →
    ServesAndWrites directory token turns old new written ⊎ (written.status ≡ 8)

-- where the keeper exposes that it cannot be bound, migrated or loaded, the status is 6, or 8
abbrev pub ServingNeedsAKeeper : Type 0
ServingNeedsAKeeper =
    (files : FileStore) (old new : Environment) (calls : KeeperCalls) (words : List (List ℕ)) (directory : Directory) (token : List ℕ) (turns : ℕ) (written : WriteEffect) →
    IsServable files words directory token turns → old.keeper.calls ≡ Some calls → fails_opening calls ≡ true →
    ProgramRun (Some files) old new words written → (written.status ≡ 6) ⊎ (written.status ≡ 8)

-- and where the keeper can, and the link exposes that it cannot be bound, it is 4, or 8
abbrev pub ServingNeedsALink : Type 0
ServingNeedsALink =
    (files : FileStore) (old new : Environment) (calls : LinkCalls) (words : List (List ℕ)) (directory : Directory) (token : List ℕ) (turns : ℕ) (written : WriteEffect) →
    IsServable files words directory token turns → KeeperDoesNotFail old.keeper new.keeper → old.link.calls ≡ Some calls → fails_next calls ≡ true →
    ProgramRun (Some files) old new words written → (written.status ≡ 4) ⊎ (written.status ≡ 8)

-- a run that was listed, whether or not the files expose their contents
pub record ListsOne (old new : KeeperState) (words : List (List ℕ)) (written : WriteEffect) : Type 0 where
  pub args : ReplayArgs
  pub spelled : IsReplay args words
  pub directory : Directory
  pub events : List Event
  pub listed : ListsReplay directory args.token events old new written

-- a statement on each run
abbrev pub OfEachRun : ((old new : Environment) → List (List ℕ) → WriteEffect → Type 0) → Type 0
OfEachRun P =
    (exposed : Option FileStore) (old new : Environment) (words : List (List ℕ)) (written : WriteEffect) →
    ProgramRun exposed old new words written → P old new words written

-- a check of a service record, and `ok` was written, whether or not the files expose their contents
pub record ChecksOne (words : List (List ℕ)) (written : WriteEffect) : Type 0 where
  pub records : List ℕ
  pub spelled : IsCheck records words
  pub text : List ℕ
  pub sheet : Sheet
  pub valid : upload_of text ≡ Accepted sheet
  pub wrote : WroteListing (codes "ok\n") written

-- CDRs of a keeper that were written, whether or not the files expose their contents
pub record ChargesOne (old new : KeeperState) (words : List (List ℕ)) (written : WriteEffect) : Type 0 where
  pub config : List ℕ
  pub spelled : IsCharges config words
  pub directory : Directory
  pub listed : WritesRows directory.store old new written

-- a workload whose numbers were written
pub record WorksOne (words : List (List ℕ)) (written : WriteEffect) : Type 0 where
  pub calls : ℕ
  pub salt : ℕ
  pub spelled : IsWorkload calls salt words
  pub directory : Directory
  pub counted : WritesCounts directory calls salt written

-- a link that was served, whether or not the files expose their contents
pub record ServesOne (old new : Environment) (words : List (List ℕ)) (written : WriteEffect) : Type 0 where
  pub config : List ℕ
  pub token : List ℕ
  pub turns : ℕ
  pub spelled : IsServe config token turns words
  pub directory : Directory
  pub served : ServesAndWrites directory token turns old new written

-- what was done where the status is 0
pub data DoneAtZero (old new : Environment) (words : List (List ℕ)) (written : WriteEffect) : Type 0 where
  DoneServe : ServesOne old new words written → DoneAtZero old new words written
  DoneReplay : ListsOne old.keeper new.keeper words written → DoneAtZero old new words written
  DoneCheck : ChecksOne words written → DoneAtZero old new words written
  DoneCharges : ChargesOne old.keeper new.keeper words written → DoneAtZero old new words written
  DoneWork : WorksOne words written → DoneAtZero old new words written

-- at status 0 a link was served, or there is a listing, or a service record was checked, or the CDRs of a keeper were written, or the numbers of a workload
abbrev pub ZeroIsListed : Type 0
ZeroIsListed = OfEachRun (λ old new words written. written.status ≡ 0 → DoneAtZero old new words written)

-- status 1 occurs exactly where the arguments are no command, unless memory ran out
abbrev pub OneIsUsage : Type 0
OneIsUsage = OfEachRun (λ old new words written.
    (written.status ≡ 1 → SpellsNone words) × (SpellsNone words → (written.status ≡ 1) ⊎ (written.status ≡ 8)))

-- a text that is no service record was checked
pub record RefusesOne (words : List (List ℕ)) : Type 0 where
  pub records : List ℕ
  pub spelled : IsCheck records words
  pub text : List ℕ
  pub line : List ℕ
  pub invalid : upload_of text ≡ Refused line

-- at status 3 one was
abbrev pub ThreeIsRefused : Type 0
ThreeIsRefused = OfEachRun (λ old new words written. written.status ≡ 3 → RefusesOne words)

-- at status 4 the count of the link's arrival faults rose
abbrev pub FourRose : Type 0
FourRose = OfEachRun (λ old new words written. written.status ≡ 4 → Rose old.link.arrival_faults new.link.arrival_faults)

-- at status 6 the count of the keeper's faults rose
abbrev pub SixRose : Type 0
SixRose = OfEachRun (λ old new words written. written.status ≡ 6 → Rose old.keeper.faults new.keeper.faults)

-- at status 7 the count of the sink's faults rose, and at 0 it is unchanged
abbrev pub SevenRose : Type 0
SevenRose = OfEachRun (λ old new words written. written.status ≡ 7 → Rose written.old_faults written.new_faults)

abbrev pub ZeroKept : Type 0
ZeroKept = OfEachRun (λ old new words written. written.status ≡ 0 → written.new_faults ≡ written.old_faults)

-- ---- where memory ran out

-- a `serve`, a `replay` and a `charges`, by the contents of the files, where no more had been done
pub record ServeOutOfMemory (old new : Environment) (words : List (List ℕ)) : Type 0 where
  pub config : List ℕ
  pub token : List ℕ
  pub turns : ℕ
  pub spelled : IsServe config token turns words
  pub text : Option (List ℕ)
  pub out_of_memory : AbortsOfServe text token turns old new

pub record ReplayOutOfMemory (old new : KeeperState) (words : List (List ℕ)) : Type 0 where
  pub args : ReplayArgs
  pub spelled : IsReplay args words
  pub config : Option (List ℕ)
  pub script : Option (List ℕ)
  pub out_of_memory : Aborts old new (due_of_config config args.token script)

pub record ChargesOutOfMemory (old new : KeeperState) (words : List (List ℕ)) : Type 0 where
  pub config : List ℕ
  pub spelled : IsCharges config words
  pub text : Option (List ℕ)
  pub out_of_memory : Aborts old new (due_of_charges text)

-- how far each command had come; `check` and `workload` call neither the keeper nor the link
pub data DoneAtEight (old new : Environment) (words : List (List ℕ)) : Type 0 where
  MemoryServe : ServeOutOfMemory old new words → DoneAtEight old new words
  MemoryReplay : ReplayOutOfMemory old.keeper new.keeper words → DoneAtEight old new words
  MemoryCheck : (records : List ℕ) → IsCheck records words → DoneAtEight old new words
  MemoryCharges : ChargesOutOfMemory old.keeper new.keeper words → DoneAtEight old new words
  MemoryWorkload : (calls salt : ℕ) → IsWorkload calls salt words → DoneAtEight old new words
  MemoryWords : new.keeper ≡ old.keeper → new.link ≡ old.link → DoneAtEight old new words

-- at status 8 no more had been done,
abbrev pub EightIsOutOfMemory : Type 0
EightIsOutOfMemory = OfEachRun (λ old new words written. written.status ≡ 8 → DoneAtEight old new words)

-- and for `charges` the keeper holds what it held, whatever the status
abbrev pub ChargesKeep : Type 0
ChargesKeep = OfEachRun (λ old new words written. (config : List ℕ) → IsCharges config words → new.keeper.contents ≡ old.keeper.contents)

-- no other status occurs
abbrev pub StatusesAreThese : Type 0
StatusesAreThese = OfEachRun (λ old new words written. list_any (λ known. known == written.status) (0 ∷ 1 ∷ 2 ∷ 3 ∷ 4 ∷ 5 ∷ 6 ∷ 7 ∷ 8 ∷ []) ≡ true)

-- and where none of the counts of the files' faults, of the link's arrival faults, of the keeper's and of the sink's rose, it is 0, 1, 2, 3 or 8
abbrev pub NoFaultNoFailure : Type 0
NoFaultNoFailure = OfEachRun (λ old new words written.
    (earlier since : ℕ) → CountsAtStatus5 written.status earlier since → ¬ (Rose earlier since) → ¬ (Rose old.link.arrival_faults new.link.arrival_faults) →
    ¬ (Rose old.keeper.faults new.keeper.faults) → ¬ (Rose written.old_faults written.new_faults) →
    list_any (λ known. known == written.status) (0 ∷ 1 ∷ 2 ∷ 3 ∷ 8 ∷ []) ≡ true)
