-- The report that the program made, compared with the one that is due.
use Rattle.std.specs.Prelude.{◌≡◌, ℕ, ◌⊎◌, Bool, true, List, Some, None, Ok, ⊤}
use Rattle.std.specs.declared.option.Option.{Option}
use Rattle.mmtel_call_theorems.specs.NoInjection.Messages.{HasNoInjection}
use Rattle.mmtel_directory.specs.declared.directories.Directory.{Directory}
use Rattle.mmtel_environment.specs.Counts.{Rose}
use Rattle.mmtel_environment.specs.FileStore.{FileStore}
use Rattle.mmtel_run_theorems.specs.Noninterference.{BranchesAreRead}
use Rattle.mmtel_server.specs.States.{KeeperState}
use Rattle.mmtel_trust.specs.Peers.{are_apart}
use Rattle.mmtel_words.specs.CommandLine.{Command, Serve, Replay, Check, Charges, Workload}
use Rattle.mmtel_cli.specs.Due as due
use Rattle.mmtel_cli.specs.Due.{Due}
use Rattle.mmtel_cli.specs.KeeperUse.{IsNotLoaded, ReadsNoRows}
use Rattle.mmtel_cli.specs.Listings.{Lists, ListsRows}
use Rattle.mmtel_cli.specs.Environment.{Environment}
use Rattle.mmtel_cli.specs.Serving.{LinkFailsInServe, ServesConfigured}
use Rattle.mmtel_cli.specs.OutOfMemory.{AbortedServe, Aborts}
use Rattle.mmtel_cli.specs.Workloads.{Counts}
use Rattle.mmtel_reports.specs.declared.reports.Report.{Report}
use Rattle.mmtel_reports.specs.declared.reports.Report.TheVariants.{Usage, BadLine, Link, File, Keeper, Memory, Listing, ValidRecord, Served, InvalidRecord}

-- the text lists the run or the CDRs that are to be listed, or has the numbers of a workload
abbrev pub IsListing : (old new : KeeperState) → List ℕ → Due → Type 0
IsListing old new text due.Usage = ⊥
IsListing old new text (due.BadLine number) = ⊥
IsListing old new text due.File = ⊥
IsListing old new text (due.Run directory token events) = Lists directory token events old new text
IsListing old new text (due.Rows store) = ListsRows store old new text
IsListing old new text (due.Work calls salt directory) = Counts directory calls salt text
IsListing old new text due.ValidRecord = ⊥
IsListing old new text (due.InvalidRecord line) = ⊥

-- a run or CDRs are to be listed, and the keeper could not be bound to the store, or failed
abbrev pub IsKeeperFailure : (old new : KeeperState) → Due → Type 0
IsKeeperFailure old new due.Usage = ⊥
IsKeeperFailure old new (due.BadLine number) = ⊥
IsKeeperFailure old new due.File = ⊥
IsKeeperFailure old new (due.Run directory token events) = IsNotLoaded directory.store old new
IsKeeperFailure old new (due.Rows store) = ReadsNoRows store old new
IsKeeperFailure old new (due.Work calls salt directory) = ⊥
IsKeeperFailure old new due.ValidRecord = ⊥
IsKeeperFailure old new (due.InvalidRecord line) = ⊥

-- the report is the one that is due, unless the keeper failed or memory ran out, after these calls of the keeper
abbrev pub IsDue : (old new : KeeperState) → Report → Due → Type 0
IsDue old new Memory wanted = Aborts old new wanted
IsDue old new Usage wanted = wanted ≡ due.Usage
IsDue old new (BadLine line) wanted = wanted ≡ due.BadLine line
IsDue old new Link wanted = ⊥
IsDue old new File wanted = wanted ≡ due.File
IsDue old new Keeper wanted = IsKeeperFailure old new wanted
IsDue old new (Listing text) wanted = IsListing old new text wanted
IsDue old new ValidRecord wanted = wanted ≡ due.ValidRecord
IsDue old new Served wanted = ⊥
IsDue old new (InvalidRecord line) wanted = wanted ≡ due.InvalidRecord line

-- the calls that are due were made; or memory ran out, at the first of them or after the last
abbrev pub HasReadFiles : Report → Option FileStore → FileStore → FileStore → Type 0
HasReadFiles Memory after first last = (after ≡ Some first) ⊎ (after ≡ Some last)
HasReadFiles Usage after first last = after ≡ Some last
HasReadFiles (BadLine line) after first last = after ≡ Some last
HasReadFiles Link after first last = after ≡ Some last
HasReadFiles File after first last = after ≡ Some last
HasReadFiles Keeper after first last = after ≡ Some last
HasReadFiles (Listing text) after first last = after ≡ Some last
HasReadFiles ValidRecord after first last = after ≡ Some last
HasReadFiles Served after first last = after ≡ Some last
HasReadFiles (InvalidRecord line) after first last = after ≡ Some last

-- the count of the files' faults rose where a file could not be read, and is unchanged otherwise
abbrev pub CountsFileFaults : Report → ℕ → ℕ → Type 0
CountsFileFaults File before now = Rose before now
CountsFileFaults Usage before now = now ≡ before
CountsFileFaults (BadLine line) before now = now ≡ before
CountsFileFaults Link before now = now ≡ before
CountsFileFaults Keeper before now = now ≡ before
CountsFileFaults Memory before now = now ≡ before
CountsFileFaults (Listing text) before now = now ≡ before
CountsFileFaults ValidRecord before now = now ≡ before
CountsFileFaults Served before now = now ≡ before
CountsFileFaults (InvalidRecord line) before now = now ≡ before

-- the file was read: the report is neither of the arguments nor of a file that could not be read
abbrev pub IsRead : Report → Type 0
IsRead File = ⊥
IsRead Usage = ⊥
IsRead (BadLine line) = ⊤
IsRead Link = ⊤
IsRead Keeper = ⊤
IsRead Memory = ⊤
IsRead (Listing text) = ⊤
IsRead ValidRecord = ⊤
IsRead Served = ⊤
IsRead (InvalidRecord line) = ⊤

-- the keeper is unchanged where it was called neither for a run, nor for serving, nor for `charges`
abbrev pub Spares : {K : Type 0} → Report → (before after : K) → Type 0
Spares Usage before after = after ≡ before
Spares (BadLine line) before after = after ≡ before
Spares Link before after = ⊤
Spares File before after = after ≡ before
Spares Keeper before after = ⊤
Spares Memory before after = ⊤
Spares (Listing text) before after = ⊤
Spares ValidRecord before after = after ≡ before
Spares Served before after = ⊤
Spares (InvalidRecord line) before after = after ≡ before

-- for `check` and `workload`, and without a command, it always is
abbrev pub SparedBy : {K : Type 0} → Option Command → (before after : K) → Type 0
SparedBy None before after = after ≡ before
SparedBy (Some (Serve config token turns)) before after = ⊤
SparedBy (Some (Replay args)) before after = ⊤
SparedBy (Some (Check records)) before after = after ≡ before
SparedBy (Some (Charges config)) before after = ⊤
SparedBy (Some (Workload calls salt)) before after = after ≡ before

-- ---- for `serve`

-- what serving requires of a configuration that was read and of a token: the home domain and the token are of one line each, each peer has a number and an address of its own, and
-- the branches that the server draws are read as they are written
pub record IsWellFormed (directory : Directory) (token : List ℕ) : Type 0 where
  pub home : HasNoInjection directory.home
  pub no_injection : HasNoInjection token
  pub distinct_peers : are_apart directory.peers.known ≡ true
  pub branches : BranchesAreRead directory token

-- a configuration that was read is to be served, and this was the result: the link was served; or the keeper could not be loaded, or the link not be bound or not receive the
-- next event; or memory ran out, with so much done before
abbrev pub IsServedBy : Directory → (token : List ℕ) → (turns : ℕ) → (old new : Environment) → Report → Type 0
IsServedBy directory token turns old new Memory = IsWellFormed directory token → AbortedServe directory token turns old new
IsServedBy directory token turns old new Usage = ⊥
IsServedBy directory token turns old new (BadLine line) = ⊥
IsServedBy directory token turns old new Link = IsWellFormed directory token → LinkFailsInServe directory token turns old new
IsServedBy directory token turns old new File = ⊥
IsServedBy directory token turns old new Keeper = IsNotLoaded directory.store old.keeper new.keeper
IsServedBy directory token turns old new (Listing text) = ⊥
IsServedBy directory token turns old new ValidRecord = ⊥
IsServedBy directory token turns old new Served =
    IsWellFormed directory token → (closed : Bool) × ServesConfigured directory token turns old new (Ok closed)
IsServedBy directory token turns old new (InvalidRecord line) = ⊥

-- the keeper had been loaded before
abbrev pub IsServing : Report → Type 0
IsServing Memory = ⊤
IsServing Usage = ⊥
IsServing (BadLine line) = ⊥
IsServing Link = ⊤
IsServing File = ⊥
IsServing Keeper = ⊥
IsServing (Listing text) = ⊥
IsServing ValidRecord = ⊥
IsServing Served = ⊤
IsServing (InvalidRecord line) = ⊥

-- the link is unchanged where serving did not reach it
abbrev pub SparesLink : {L : Type 0} → Report → (before after : L) → Type 0
SparesLink Usage before after = after ≡ before
SparesLink (BadLine line) before after = after ≡ before
SparesLink Link before after = ⊤
SparesLink File before after = after ≡ before
SparesLink Keeper before after = after ≡ before
SparesLink Memory before after = ⊤
SparesLink (Listing text) before after = after ≡ before
SparesLink ValidRecord before after = after ≡ before
SparesLink Served before after = ⊤
SparesLink (InvalidRecord line) before after = after ≡ before

-- for every other command it always is
abbrev pub UnboundBy : {L : Type 0} → Option Command → Report → (before after : L) → Type 0
UnboundBy None outcome before after = after ≡ before
UnboundBy (Some (Serve config token turns)) outcome before after = SparesLink outcome before after
UnboundBy (Some (Replay args)) outcome before after = after ≡ before
UnboundBy (Some (Check records)) outcome before after = after ≡ before
UnboundBy (Some (Charges config)) outcome before after = after ≡ before
UnboundBy (Some (Workload calls salt)) outcome before after = after ≡ before

-- the count of the link's arrival faults rose where it could not be bound or failed to receive, and is unchanged otherwise
abbrev pub CountsLinkFaults : Report → ℕ → ℕ → Type 0
CountsLinkFaults Link before now = Rose before now
CountsLinkFaults Usage before now = now ≡ before
CountsLinkFaults (BadLine line) before now = now ≡ before
CountsLinkFaults File before now = now ≡ before
CountsLinkFaults Keeper before now = now ≡ before
CountsLinkFaults Memory before now = now ≡ before
CountsLinkFaults (Listing text) before now = now ≡ before
CountsLinkFaults ValidRecord before now = now ≡ before
CountsLinkFaults Served before now = now ≡ before
CountsLinkFaults (InvalidRecord line) before now = now ≡ before

-- for every other command it is unchanged
abbrev pub CountsLinkFaultsBy : Option Command → Report → ℕ → ℕ → Type 0
CountsLinkFaultsBy None outcome before now = now ≡ before
CountsLinkFaultsBy (Some (Serve config token turns)) outcome before now = CountsLinkFaults outcome before now
CountsLinkFaultsBy (Some (Replay args)) outcome before now = now ≡ before
CountsLinkFaultsBy (Some (Check records)) outcome before now = now ≡ before
CountsLinkFaultsBy (Some (Charges config)) outcome before now = now ≡ before
CountsLinkFaultsBy (Some (Workload calls salt)) outcome before now = now ≡ before
