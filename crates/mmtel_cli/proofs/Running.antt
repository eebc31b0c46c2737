-- A run, by the results of the files, the keeper and the link.
use Rattle.std.proofs.Common.{◌≡◌, true, ◌↔◌, ◌⊎◌, ◌∙◌, ℕ, List, refl, subst, sym, inl, inr, nat_eq, codes, Option, Some, None, Result, Ok, Err, IfSome}
use Rattle.std.proofs.lemmas.Bool.{cases_Bool, eqb-true, eqb-false}
use Rattle.std.specs.Prelude.{IfOk}
use Rattle.mmtel_directory.specs.Directory.{directory_of}
use Rattle.mmtel_directory.specs.declared.directories.Directory.{Directory}
use Rattle.mmtel_environment.specs.FileStore.{FileStore, with_next_call}
use Rattle.mmtel_environment.specs.declared.events.Event.{Event}
use Rattle.mmtel_run_theorems.specs.NoInjection.{HomesHaveNoInjection, RunsSendNoInjection}
use Rattle.mmtel_run_theorems.specs.Outcome.{CallsOfRunsReachOutcome}
use Rattle.mmtel_run_theorems.specs.ChargingRecords.{RunParticipantsChargedOnce}
use Rattle.mmtel_run_theorems.specs.SentBytes.{PeersAreApart}
use Rattle.mmtel_run_theorems.specs.Noninterference.{ConfigurationsAreRead}
use Rattle.mmtel_server.specs.States.{KeeperState}
use Rattle.mmtel_script.specs.Script.{events_of}
use Rattle.mmtel_sheet_reader.specs.Uploads.{upload_of}
use Rattle.mmtel_sheet_reader.specs.declared.uploads.Upload.{Upload}
use Rattle.mmtel_sheet_reader.specs.declared.uploads.Upload.TheVariants as upload
use Rattle.mmtel_cli.proofs.NoInjection.{Suits, directory_suits, token_has_no_injection, well_formed}
use Rattle.mmtel_words.specs.CommandLine.{ReplayArgs, Command, Serve, Replay, Check, Charges, Workload, IsCommand, is_token}
use Rattle.mmtel_cli.specs.Commands.{AsksFor, IsOnly, SpellsNone}
use Rattle.mmtel_cli.specs.Due as due
use Rattle.mmtel_cli.specs.Due.{due_of_events, due_of_script, due_of_directory, due_of_config, due_of_store, due_of_charges, due_of_upload, due_of_records}
use Rattle.mmtel_cli.specs.Due.{Due, files_after_first, files_after_command, files_after_first_read, files_after}
use Rattle.mmtel_reports.specs.WriteEffects.{WritesReport, WroteListing, WriteEffect}
use Rattle.mmtel_cli.specs.ReportsDue.{HasReadFiles, IsDue, IsServedBy, SparedBy, Spares}
use Rattle.mmtel_cli.specs.CommandResults.{Ports, Prepares, ResultOfCharges, ResultOfCheck, ResultOfReplay, ResultOfRun, ResultOfServe, ResultOfWorkload, ServesConfig, ServesDirectory}
use Rattle.mmtel_cli.specs.KeeperUse.{IsNotLoaded, IsSpared, ReadsNoRows}
use Rattle.mmtel_cli.specs.Listings.{Lists, ListsRows}
use Rattle.mmtel_cli.specs.Environment.{Environment}
use Rattle.mmtel_cli.specs.OutOfMemory.{Aborts, AbortsOfServe, AbortsServing}
use Rattle.mmtel_cli.specs.Runs.{WroteMemory, WroteLine, WroteFile, WroteKeeper, WroteFault, WritesCounts, ListsReplay, WritesRows, ReplayRun, CheckRun, ChargesRun, ServeRun, WorkloadRun}
use Rattle.mmtel_cli.specs.Runs.{ProgramRun, RanServe, RanReplay, RanCheck, RanCharges, RanWork, RanNone, RanOutOfMemoryFirst, HasCalledFiles, CallsFilesFor}
use Rattle.mmtel_cli.specs.Runs.{EndsOfEvents, EndsOfScript, EndsOfDirectory, EndsOfConfig, EndsOfStore, EndsOfCharges, EndsOfUpload, EndsOfRecords}
use Rattle.mmtel_cli.specs.Runs.{EndsKeeperFailed, EndsLinkFailed, EndsOfServe, EndsOfServing, EndsServed, EndsServing}
use Rattle.mmtel_reports.specs.declared.reports.Report.{Report}
use Rattle.mmtel_reports.specs.declared.reports.Report.TheVariants.{Usage, BadLine, Link, File, Keeper, Memory, Listing, ValidRecord, Served, InvalidRecord}

-- ---- a run, where the report that is due is known

module _ (outcomes : CallsOfRunsReachOutcome) (charged : RunParticipantsChargedOnce) (sends : RunsSendNoInjection) (homes : HomesHaveNoInjection)
    (reads : ConfigurationsAreRead) (apart : PeersAreApart) (old new : Environment) (written : WriteEffect) where
  abbrev EndsSo : Report → Type 0
  EndsSo outcome = WritesReport outcome written

  abbrev OutOfMemory : Type 0
  OutOfMemory = WroteMemory written

  -- ---- where memory ran out

  -- status 8 means that alone
  memory_at_eight : (outcome : Report) → EndsSo outcome → written.status ≡ 8 → outcome ≡ Memory
  memory_at_eight Usage ends eight = absurd (let wrong : 1 ≡ 8 = sym ends.0 ∙ eight in cc)
  memory_at_eight (BadLine n) ends eight = absurd (let wrong : 2 ≡ 8 = sym ends.0 ∙ eight in cc)
  memory_at_eight Link ends eight = absurd (let wrong : 4 ≡ 8 = sym ends.0 ∙ eight in cc)
  memory_at_eight File ends eight = absurd (let wrong : 5 ≡ 8 = sym ends.0 ∙ eight in cc)
  memory_at_eight Keeper ends eight = absurd (let wrong : 6 ≡ 8 = sym ends.0 ∙ eight in cc)
  memory_at_eight Memory ends eight = refl
  memory_at_eight (Listing text) ends eight = elim ends [
    | inl whole ↦ absurd (let wrong : 0 ≡ 8 = sym whole.0 ∙ eight in cc)
    | inr part ↦ absurd (let wrong : 7 ≡ 8 = sym part.0 ∙ eight in cc)
  ]
  memory_at_eight ValidRecord ends eight = elim ends [
    | inl whole ↦ absurd (let wrong : 0 ≡ 8 = sym whole.0 ∙ eight in cc)
    | inr part ↦ absurd (let wrong : 7 ≡ 8 = sym part.0 ∙ eight in cc)
  ]
  memory_at_eight Served ends eight = absurd (let wrong : 0 ≡ 8 = sym ends.0 ∙ eight in cc)
  memory_at_eight (InvalidRecord line) ends eight = absurd (let wrong : 3 ≡ 8 = sym ends.0 ∙ eight in cc)

  stopped_due : (wanted : Due) (outcome : Report) → IsDue old.keeper new.keeper outcome wanted → EndsSo outcome → written.status ≡ 8 → Aborts old.keeper new.keeper wanted
  stopped_due wanted outcome is ends eight = subst (λ (r : Report). IsDue old.keeper new.keeper r wanted) (memory_at_eight outcome ends eight) is

  stops_in_serving : (directory : Result Directory ℕ) (token : List ℕ) (turns : ℕ) → IfOk directory Suits → is_token token ≡ true
      → ServesDirectory directory token turns old new Memory → AbortsServing directory token turns old new
  stops_in_serving (Ok directory) token turns suits right is = is (well_formed directory token suits right)
  stops_in_serving (Err line) token turns suits right is = is

  stops_in_serve : (config : Option (List ℕ)) (token : List ℕ) (turns : ℕ) → is_token token ≡ true
      → ServesConfig config token turns old new Memory → AbortsOfServe config token turns old new
  stops_in_serve None token turns right is = is
  stops_in_serve (Some config) token turns right is = stops_in_serving (directory_of config) token turns (directory_suits homes apart reads config) right is

  stops_of_serve : (config : Option (List ℕ)) (token : List ℕ) (turns : ℕ) (outcome : Report) → is_token token ≡ true
      → ServesConfig config token turns old new outcome → EndsSo outcome → written.status ≡ 8 → AbortsOfServe config token turns old new
  stops_of_serve config token turns outcome right is ends eight =
      stops_in_serve config token turns right
      (subst (λ (r : Report). ServesConfig config token turns old new r) (memory_at_eight outcome ends eight) is)

  -- ---- what was written

  written_line : (outcome : Report) (line : ℕ) → IsDue old.keeper new.keeper outcome (due.BadLine line) → EndsSo outcome → WroteLine line written ⊎ OutOfMemory
  written_line Usage line is ends = absurd (let wrong : due.BadLine line ≡ due.Usage = is in cc)
  written_line (BadLine n) line is ends =
      let equal : due.BadLine line ≡ due.BadLine n = is in
      let same : n ≡ line = cc in
      let P : ℕ → Type 0 = λ l. WroteLine l written in
      inl (subst P same ends)
  written_line File line is ends = absurd (let wrong : due.BadLine line ≡ due.File = is in cc)
  written_line Link line is ends = absurd is
  written_line Keeper line is ends = absurd is
  written_line Memory line is ends = inr ends
  written_line (Listing text) line is ends = absurd is
  written_line ValidRecord line is ends = absurd (let wrong : due.BadLine line ≡ due.ValidRecord = is in cc)
  written_line Served line is ends = absurd is
  written_line (InvalidRecord other) line is ends = absurd (let wrong : due.BadLine line ≡ due.InvalidRecord other = is in cc)

  written_file : (kept left : KeeperState) (outcome : Report) → IsDue kept left outcome due.File → EndsSo outcome → WroteFile written ⊎ OutOfMemory
  written_file kept left Usage is ends = absurd (let wrong : due.File ≡ due.Usage = is in cc)
  written_file kept left (BadLine n) is ends = absurd (let wrong : due.File ≡ due.BadLine n = is in cc)
  written_file kept left File is ends = inl ends
  written_file kept left Link is ends = absurd is
  written_file kept left Keeper is ends = absurd is
  written_file kept left Memory is ends = inr ends
  written_file kept left (Listing text) is ends = absurd is
  written_file kept left ValidRecord is ends = absurd (let wrong : due.File ≡ due.ValidRecord = is in cc)
  written_file kept left Served is ends = absurd is
  written_file kept left (InvalidRecord other) is ends = absurd (let wrong : due.File ≡ due.InvalidRecord other = is in cc)

  written_sound : (kept left : KeeperState) (outcome : Report) → IsDue kept left outcome due.ValidRecord → EndsSo outcome → WroteListing (codes "ok\n") written ⊎ OutOfMemory
  written_sound kept left Usage is ends = absurd (let wrong : due.ValidRecord ≡ due.Usage = is in cc)
  written_sound kept left (BadLine n) is ends = absurd (let wrong : due.ValidRecord ≡ due.BadLine n = is in cc)
  written_sound kept left File is ends = absurd (let wrong : due.ValidRecord ≡ due.File = is in cc)
  written_sound kept left Link is ends = absurd is
  written_sound kept left Keeper is ends = absurd is
  written_sound kept left Memory is ends = inr ends
  written_sound kept left (Listing text) is ends = absurd is
  written_sound kept left ValidRecord is ends = inl ends
  written_sound kept left Served is ends = absurd is
  written_sound kept left (InvalidRecord other) is ends = absurd (let wrong : due.ValidRecord ≡ due.InvalidRecord other = is in cc)

  written_fault : (kept left : KeeperState) (outcome : Report) (line : List ℕ) → IsDue kept left outcome (due.InvalidRecord line) → EndsSo outcome → WroteFault line written ⊎ OutOfMemory
  written_fault kept left Usage line is ends = absurd (let wrong : due.InvalidRecord line ≡ due.Usage = is in cc)
  written_fault kept left (BadLine n) line is ends = absurd (let wrong : due.InvalidRecord line ≡ due.BadLine n = is in cc)
  written_fault kept left File line is ends = absurd (let wrong : due.InvalidRecord line ≡ due.File = is in cc)
  written_fault kept left Link line is ends = absurd is
  written_fault kept left Keeper line is ends = absurd is
  written_fault kept left Memory line is ends = inr ends
  written_fault kept left (Listing text) line is ends = absurd is
  written_fault kept left ValidRecord line is ends = absurd (let wrong : due.InvalidRecord line ≡ due.ValidRecord = is in cc)
  written_fault kept left Served line is ends = absurd is
  written_fault kept left (InvalidRecord other) line is ends =
      let equal : due.InvalidRecord line ≡ due.InvalidRecord other = is in
      let same : other ≡ line = cc in
      let P : List ℕ → Type 0 = λ l. WroteFault l written in
      inl (subst P same ends)

  listed_by : (directory : Directory) (token : List ℕ) (events : List Event) (text : List ℕ) → Suits directory → is_token token ≡ true
      → Lists directory token events old.keeper new.keeper text → WroteListing text written
      → ListsReplay directory token events old.keeper new.keeper written
  listed_by directory token events text suits right lists wrote = record {
    loaded = lists.loaded;
    opening = lists.opening;
    opened = lists.opened;
    offers = lists.lists.offers;
    run = lists.lists.run;
    outcome = λ short. outcomes directory token lists.loaded lists.lists.run.recorded short;
    participants = λ short. charged directory token lists.loaded lists.lists.run.recorded short;
    no_injection = λ short. sends directory token lists.loaded lists.lists.run.recorded suits.home (token_has_no_injection token right) short;
    branches = suits.branches token right;
    wrote = let P : List ℕ → Type 0 = λ t. WroteListing t written in subst P lists.lists.listing wrote;
  }

  written_listing : (directory : Directory) (token : List ℕ) (events : List Event) (outcome : Report) → Suits directory → is_token token ≡ true →
      IsDue old.keeper new.keeper outcome (due.Run directory token events) → EndsSo outcome
      → (ListsReplay directory token events old.keeper new.keeper written
      ⊎ (IsNotLoaded directory.store old.keeper new.keeper × WroteKeeper written)) ⊎ OutOfMemory
  written_listing directory token events Usage suits right is ends = absurd (let wrong : due.Run directory token events ≡ due.Usage = is in cc)
  written_listing directory token events (BadLine n) suits right is ends = absurd (let wrong : due.Run directory token events ≡ due.BadLine n = is in cc)
  written_listing directory token events File suits right is ends = absurd (let wrong : due.Run directory token events ≡ due.File = is in cc)
  written_listing directory token events Link suits right is ends = absurd is
  written_listing directory token events Keeper suits right is ends = inl (inr (is, ends))
  written_listing directory token events Memory suits right is ends = inr ends
  written_listing directory token events (Listing text) suits right is ends = inl (inl (listed_by directory token events text suits right is ends))
  written_listing directory token events ValidRecord suits right is ends = absurd (let wrong : due.Run directory token events ≡ due.ValidRecord = is in cc)
  written_listing directory token events Served suits right is ends = absurd is
  written_listing directory token events (InvalidRecord other) suits right is ends = absurd (let wrong : due.Run directory token events ≡ due.InvalidRecord other = is in cc)

  listed_rows : (store text : List ℕ) → ListsRows store old.keeper new.keeper text → WroteListing text written
      → WritesRows store old.keeper new.keeper written
  listed_rows store text lists wrote = record {
    rows = lists.rows;
    read = lists.read;
    wrote = let P : List ℕ → Type 0 = λ t. WroteListing t written in subst P lists.listing wrote;
  }

  written_rows : (store : List ℕ) (outcome : Report) → IsDue old.keeper new.keeper outcome (due.Rows store) → EndsSo outcome
      → (WritesRows store old.keeper new.keeper written
      ⊎ (ReadsNoRows store old.keeper new.keeper × WroteKeeper written)) ⊎ OutOfMemory
  written_rows store Usage is ends = absurd (let wrong : due.Rows store ≡ due.Usage = is in cc)
  written_rows store (BadLine n) is ends = absurd (let wrong : due.Rows store ≡ due.BadLine n = is in cc)
  written_rows store File is ends = absurd (let wrong : due.Rows store ≡ due.File = is in cc)
  written_rows store Link is ends = absurd is
  written_rows store Keeper is ends = inl (inr (is, ends))
  written_rows store Memory is ends = inr ends
  written_rows store (Listing text) is ends = inl (inl (listed_rows store text is ends))
  written_rows store ValidRecord is ends = absurd (let wrong : due.Rows store ≡ due.ValidRecord = is in cc)
  written_rows store Served is ends = absurd is
  written_rows store (InvalidRecord other) is ends = absurd (let wrong : due.Rows store ≡ due.InvalidRecord other = is in cc)

  written_work : (kept left : KeeperState) (calls salt : ℕ) (directory : Directory) (outcome : Report) → IsDue kept left outcome (due.Work calls salt directory) → EndsSo outcome
      → WritesCounts directory calls salt written ⊎ OutOfMemory
  written_work kept left calls salt directory Usage is ends = absurd (let wrong : due.Work calls salt directory ≡ due.Usage = is in cc)
  written_work kept left calls salt directory (BadLine n) is ends = absurd (let wrong : due.Work calls salt directory ≡ due.BadLine n = is in cc)
  written_work kept left calls salt directory File is ends = absurd (let wrong : due.Work calls salt directory ≡ due.File = is in cc)
  written_work kept left calls salt directory Link is ends = absurd is
  written_work kept left calls salt directory Keeper is ends = absurd is
  written_work kept left calls salt directory Memory is ends = inr ends
  written_work kept left calls salt directory (Listing text) is ends = inl (record { text = text; counts = is; wrote = ends })
  written_work kept left calls salt directory ValidRecord is ends = absurd (let wrong : due.Work calls salt directory ≡ due.ValidRecord = is in cc)
  written_work kept left calls salt directory Served is ends = absurd is
  written_work kept left calls salt directory (InvalidRecord other) is ends = absurd (let wrong : due.Work calls salt directory ≡ due.InvalidRecord other = is in cc)

  -- ---- stage by stage

  ends_of_events : (directory : Directory) (token : List ℕ) (events : Result (List Event) ℕ) (outcome : Report) → Suits directory → is_token token ≡ true →
      IsDue old.keeper new.keeper outcome (due_of_events directory token events)
      → EndsSo outcome
      → EndsOfEvents directory token events old.keeper new.keeper written ⊎ OutOfMemory
  ends_of_events directory token (Ok events) outcome suits right due ends = written_listing directory token events outcome suits right due ends
  ends_of_events directory token (Err line) outcome suits right due ends = written_line outcome line due ends

  ends_of_script : (directory : Directory) (token : List ℕ) (script : Option (List ℕ)) (outcome : Report) → Suits directory → is_token token ≡ true →
      IsDue old.keeper new.keeper outcome (due_of_script directory token script)
      → EndsSo outcome
      → EndsOfScript directory token script old.keeper new.keeper written ⊎ OutOfMemory
  ends_of_script directory token None outcome suits right due ends = written_file old.keeper new.keeper outcome due ends
  ends_of_script directory token (Some script) outcome suits right due ends = ends_of_events directory token (events_of directory.peers.known script) outcome suits right due ends

  ends_of_directory : (directory : Result Directory ℕ) (token : List ℕ) (script : Option (List ℕ)) (outcome : Report) → IfOk directory Suits → is_token token ≡ true
      → IsDue old.keeper new.keeper outcome (due_of_directory directory token script) → EndsSo outcome
      → EndsOfDirectory directory token script old.keeper new.keeper written ⊎ OutOfMemory
  ends_of_directory (Ok directory) token script outcome suits right due ends = ends_of_script directory token script outcome suits right due ends
  ends_of_directory (Err line) token script outcome suits right due ends = written_line outcome line due ends

  ends_of_config : (config : Option (List ℕ)) (token : List ℕ) (script : Option (List ℕ)) (outcome : Report) → is_token token ≡ true →
      IsDue old.keeper new.keeper outcome (due_of_config config token script)
      → EndsSo outcome
      → EndsOfConfig config token script old.keeper new.keeper written ⊎ OutOfMemory
  ends_of_config None token script outcome right due ends = written_file old.keeper new.keeper outcome due ends
  ends_of_config (Some config) token script outcome right due ends =
      ends_of_directory (directory_of config) token script outcome (directory_suits homes apart reads config) right due ends

  -- ---- a check

  ends_of_upload : (kept left : KeeperState) (said : Upload) (outcome : Report) → IsDue kept left outcome (due_of_upload said) → EndsSo outcome
      → EndsOfUpload said written ⊎ OutOfMemory
  ends_of_upload kept left (upload.Accepted sheet) outcome due ends = written_sound kept left outcome due ends
  ends_of_upload kept left (upload.Refused line) outcome due ends = written_fault kept left outcome line due ends

  ends_of_records : (kept left : KeeperState) (text : Option (List ℕ)) (outcome : Report) → IsDue kept left outcome (due_of_records text) → EndsSo outcome
      → EndsOfRecords text written ⊎ OutOfMemory
  ends_of_records kept left None outcome due ends = written_file kept left outcome due ends
  ends_of_records kept left (Some text) outcome due ends = ends_of_upload kept left (upload_of text) outcome due ends

  checked : (exposed : Option FileStore) (words : List (List ℕ)) (records : List ℕ) (outcome : Report)
      → IsOnly (Check records) words → ResultOfCheck exposed records outcome → EndsSo outcome → CheckRun exposed words written
  checked exposed words records outcome spelled gives ends = record {
    records = records;
    spelled = spelled;
    text = gives.text;
    exposed_text = gives.exposed_text;
    ends = ends_of_records old.keeper old.keeper gives.text outcome (gives.is_due old.keeper) ends;
  }

  -- ---- the CDRs of a keeper

  ends_of_store : (directory : Result Directory ℕ) (outcome : Report) → IsDue old.keeper new.keeper outcome (due_of_store directory) → EndsSo outcome
      → EndsOfStore directory old.keeper new.keeper written ⊎ OutOfMemory
  ends_of_store (Ok directory) outcome due ends = written_rows directory.store outcome due ends
  ends_of_store (Err line) outcome due ends = written_line outcome line due ends

  ends_of_charges : (config : Option (List ℕ)) (outcome : Report) → IsDue old.keeper new.keeper outcome (due_of_charges config) → EndsSo outcome
      → EndsOfCharges config old.keeper new.keeper written ⊎ OutOfMemory
  ends_of_charges None outcome due ends = written_file old.keeper new.keeper outcome due ends
  ends_of_charges (Some config) outcome due ends = ends_of_store (directory_of config) outcome due ends

  charged_by : (exposed : Option FileStore) (words : List (List ℕ)) (config : List ℕ) (outcome : Report)
      → IsOnly (Charges config) words → ResultOfCharges exposed old.keeper new.keeper config outcome → EndsSo outcome → ChargesRun exposed old.keeper new.keeper words written
  charged_by exposed words config outcome spelled gives ends = record {
    config = config;
    spelled = spelled;
    text = gives.text;
    exposed_text = gives.exposed_text;
    ends = ends_of_charges gives.text outcome gives.is_due ends;
    out_of_memory = stopped_due (due_of_charges gives.text) outcome gives.is_due ends;
    held = gives.held;
  }

  -- ---- a workload

  run_workload : (words : List (List ℕ)) (calls salt : ℕ) (outcome : Report)
      → IsOnly (Workload calls salt) words → ResultOfWorkload calls salt outcome → EndsSo outcome → WorkloadRun words written
  run_workload words calls salt outcome spelled gives ends = record {
    calls = calls;
    salt = salt;
    spelled = spelled;
    directory = gives.directory;
    reads = gives.reads;
    ends = written_work old.keeper old.keeper calls salt gives.directory outcome (gives.is_due old.keeper) ends;
  }

  -- ---- serving

  written_serving : (directory : Directory) (token : List ℕ) (turns : ℕ) (outcome : Report) → Suits directory → is_token token ≡ true
      → IsServedBy directory token turns old new outcome → EndsSo outcome
      → EndsServing directory token turns old new written ⊎ OutOfMemory
  written_serving directory token turns Usage suits right is ends = absurd is
  written_serving directory token turns (BadLine n) suits right is ends = absurd is
  written_serving directory token turns Link suits right is ends = inl (EndsLinkFailed (is (well_formed directory token suits right)) ends)
  written_serving directory token turns File suits right is ends = absurd is
  written_serving directory token turns Keeper suits right is ends = inl (EndsKeeperFailed is ends)
  written_serving directory token turns Memory suits right is ends = inr ends
  written_serving directory token turns (Listing text) suits right is ends = absurd is
  written_serving directory token turns ValidRecord suits right is ends = absurd is
  written_serving directory token turns Served suits right is ends =
      let done = is (well_formed directory token suits right) in
      inl (EndsServed (record { closed = done.0; serves = done.1; wrote = ends }))
  written_serving directory token turns (InvalidRecord other) suits right is ends = absurd is

  ends_of_serving : (directory : Result Directory ℕ) (token : List ℕ) (turns : ℕ) (outcome : Report) → IfOk directory Suits → is_token token ≡ true
      → ServesDirectory directory token turns old new outcome → EndsSo outcome
      → EndsOfServing directory token turns old new written ⊎ OutOfMemory
  ends_of_serving (Ok directory) token turns outcome suits right due ends = written_serving directory token turns outcome suits right due ends
  ends_of_serving (Err line) token turns outcome suits right due ends = written_line outcome line due.0 ends

  ends_of_serve : (config : Option (List ℕ)) (token : List ℕ) (turns : ℕ) (outcome : Report) → is_token token ≡ true
      → ServesConfig config token turns old new outcome → EndsSo outcome
      → EndsOfServe config token turns old new written ⊎ OutOfMemory
  ends_of_serve None token turns outcome right due ends = written_file old.keeper new.keeper outcome due.0 ends
  ends_of_serve (Some config) token turns outcome right due ends =
      ends_of_serving (directory_of config) token turns outcome (directory_suits homes apart reads config) right due ends

  served : (exposed : Option FileStore) (words : List (List ℕ)) (config token : List ℕ) (turns : ℕ) (outcome : Report)
      → IsOnly (Serve config token turns) words → ResultOfServe exposed old new config token turns outcome → EndsSo outcome
      → ServeRun exposed old new words written
  served exposed words config token turns outcome spelled gives ends = record {
    config = config;
    token = token;
    turns = turns;
    spelled = spelled;
    text = gives.text;
    exposed_text = gives.exposed_text;
    ends = ends_of_serve gives.text token turns outcome spelled.spelled.0 gives.is_due ends;
    out_of_memory = stops_of_serve gives.text token turns outcome spelled.spelled.0 gives.is_due ends;
  }

  -- ---- a whole run

  replayed : (exposed : Option FileStore) (words : List (List ℕ)) (asked : ReplayArgs) (outcome : Report)
      → IsOnly (Replay asked) words → ResultOfReplay exposed old.keeper new.keeper asked outcome → EndsSo outcome → ReplayRun exposed old.keeper new.keeper words written
  replayed exposed words asked outcome spelled gives ends = record {
    args = asked;
    spelled = spelled;
    files = record { config = gives.config; script = gives.script; exposed_config = gives.exposed_config; exposed_script = gives.exposed_script };
    ends = ends_of_config gives.config asked.token gives.script outcome spelled.spelled.0 gives.is_due ends;
    out_of_memory = stopped_due (due_of_config gives.config asked.token gives.script) outcome gives.is_due ends;
  }

  ran_none : (words : List (List ℕ)) (outcome : Report) (exposed : Option FileStore) → SpellsNone words → outcome ≡ Usage → EndsSo outcome →
      ProgramRun exposed old new words written
  ran_none words outcome exposed none gives ends =
      let P : Report → Type 0 = λ r. EndsSo r in
      RanNone (record { none = none; usage = subst P gives ends })

  ran_command : (exposed : Option FileStore) (words : List (List ℕ)) (command : Option Command) (outcome : Report)
      → AsksFor words command → ResultOfRun exposed old new command outcome → EndsSo outcome → ProgramRun exposed old new words written
  ran_command exposed words None outcome asks gives ends = ran_none words outcome exposed asks gives ends
  ran_command exposed words (Some (Serve config token turns)) outcome asks gives ends = RanServe (served exposed words config token turns outcome asks gives ends)
  ran_command exposed words (Some (Replay asked)) outcome asks gives ends = RanReplay (replayed exposed words asked outcome asks gives ends)
  ran_command exposed words (Some (Check records)) outcome asks gives ends = RanCheck (checked exposed words records outcome asks gives ends)
  ran_command exposed words (Some (Charges config)) outcome asks gives ends = RanCharges (charged_by exposed words config outcome asks gives ends)
  ran_command exposed words (Some (Workload calls salt)) outcome asks gives ends =
      RanWork (run_workload words calls salt outcome asks gives ends)

  pub ran : {L K : Type 0} (before now : Ports L K) (words : List (List ℕ)) (outcome : Report)
      → Prepares words old new before now outcome → EndsSo outcome → ProgramRun before.files old new words written
  ran before now words outcome (inl p) ends = ran_command before.files words p.command outcome p.command_read p.result ends
  ran before now words outcome (inr out) ends =
      let P : Report → Type 0 = λ r. EndsSo r in
      RanOutOfMemoryFirst (subst P out.memory ends) out.same_keeper out.same_link

-- ---- the calls of the files

where_exposed : (exposed : Option FileStore) (P : FileStore → Type 0) → ((shelf : FileStore) → exposed ≡ Some shelf → P shelf) → IfSome exposed P
where_exposed None P each = tt
where_exposed (Some shelf) P each = each shelf refl

called_last : (status : ℕ) (after : Option FileStore) (none first last : FileStore) → (status ≡ 1) → HasCalledFiles status after none first last → after ≡ Some last
called_last status after none first last one called = called.all (λ e. let wrong : 1 ≡ 8 = sym one ∙ e in cc)

module _ (shelf : FileStore) (words : List (List ℕ)) (status : ℕ) (after : Option FileStore) where
  abbrev CalledBy : Command → Type 0
  CalledBy command = HasCalledFiles status after shelf (files_after_first_read shelf command) (files_after_command shelf command)

  called_by : (command other : Command) → IsOnly command words → other ≡ command → CalledBy command → CalledBy other
  called_by command other only same calls = subst CalledBy (sym same) calls

  -- where no call is due none was made
  whichever : (after ≡ Some shelf) ⊎ ((after ≡ Some shelf) ⊎ (after ≡ Some shelf)) → after ≡ Some shelf
  whichever (inl e) = e
  whichever (inr (inl e)) = e
  whichever (inr (inr e)) = e

  called_never : HasCalledFiles status after shelf shelf shelf → after ≡ Some shelf
  called_never called =
      elim (cases_Bool (nat_eq status 8)) [
        | inl y ↦ whichever (called.some (eqb-true status 8 y))
        | inr n ↦ called.all (eqb-false status 8 n)
      ]

  called_for : (command : Option Command) → AsksFor words command → (status ≡ 1) ↔ (command ≡ None) →
      HasCalledFiles status after shelf (files_after_first shelf command) (files_after shelf command)
      → CallsFilesFor shelf words status after
  called_for None asks usage calls = record {
    unparsed = λ no_one. called_last status after shelf shelf shelf (usage.1 refl) calls;
    serve = λ config. λ token. λ turns. λ spelled. absurd (asks (Serve config token turns) spelled);
    replay = λ asked. λ spelled. absurd (asks (Replay asked) spelled);
    check = λ records. λ spelled. absurd (asks (Check records) spelled);
    charges = λ config. λ spelled. absurd (asks (Charges config) spelled);
    workload = λ calls. λ salt. λ spelled. absurd (asks (Workload calls salt) spelled);
  }
  called_for (Some command) asks usage calls = record {
    unparsed = λ no_one. absurd (no_one command asks.spelled);
    serve = λ config. λ token. λ turns. λ spelled. called_by command (Serve config token turns) asks (asks.alone (Serve config token turns) spelled) calls;
    replay = λ asked. λ spelled. called_by command (Replay asked) asks (asks.alone (Replay asked) spelled) calls;
    check = λ records. λ spelled. called_by command (Check records) asks (asks.alone (Check records) spelled) calls;
    charges = λ config. λ spelled. called_by command (Charges config) asks (asks.alone (Charges config) spelled) calls;
    workload = λ count. λ salt. λ spelled. called_never (called_by command (Workload count salt) asks (asks.alone (Workload count salt) spelled) calls);
  }

  -- for memory that runs out in parsing the arguments
  called_none : (last : FileStore) → after ≡ Some shelf → status ≡ 8 → HasCalledFiles status after shelf (with_next_call shelf) last
  called_none last same eight = record { all = λ other. absurd (other eight); some = λ e. inl same }

  called_short : after ≡ Some shelf → status ≡ 8 → CallsFilesFor shelf words status after
  called_short same eight = record {
    unparsed = λ no_one. same;
    serve = λ config. λ token. λ turns. λ spelled. called_none _ same eight;
    replay = λ asked. λ spelled. called_none _ same eight;
    check = λ records. λ spelled. called_none _ same eight;
    charges = λ config. λ spelled. called_none _ same eight;
    workload = λ calls. λ salt. λ spelled. same;
  }

not_eight : (n status : ℕ) → status ≡ n → (n ≡ 8 → ⊥) → status ≡ 8 → ⊥
not_eight n status is other eight = other (sym is ∙ eight)

-- status 1 occurs exactly where no command was found
other_status : (P : Type 0) (n status : ℕ) (outcome : Report) → status ≡ n → (n ≡ 1 → ⊥) → (outcome ≡ Usage → ⊥) → (outcome ≡ Usage) ↔ P → (status ≡ 1) ↔ P
other_status P n status outcome is other asked usage = (λ one. absurd (other (sym is ∙ one)), λ p. absurd (asked (usage.1 p)))

done_status : (P : Type 0) (text : List ℕ) (outcome : Report) (written : WriteEffect)
    → WroteListing text written → (outcome ≡ Usage → ⊥) → (outcome ≡ Usage) ↔ P → (written.status ≡ 1) ↔ P
done_status P text outcome written (inl whole) asked usage = other_status P 0 written.status outcome whole.0 (λ w. cc) asked usage
done_status P text outcome written (inr part) asked usage = other_status P 7 written.status outcome part.0 (λ w. cc) asked usage

status_one : (P : Type 0) (outcome : Report) (written : WriteEffect)
    → (outcome ≡ Usage) ↔ P → WritesReport outcome written → (written.status ≡ 1) ↔ P
status_one P Usage written usage ends = (λ one. usage.0 refl, λ p. ends.0)
status_one P (BadLine n) written usage ends = other_status P 2 written.status (BadLine n) ends.0 (λ w. cc) (λ w. cc) usage
status_one P Link written usage ends = other_status P 4 written.status Link ends.0 (λ w. cc) (λ w. cc) usage
status_one P File written usage ends = other_status P 5 written.status File ends.0 (λ w. cc) (λ w. cc) usage
status_one P Keeper written usage ends = other_status P 6 written.status Keeper ends.0 (λ w. cc) (λ w. cc) usage
status_one P Memory written usage ends = other_status P 8 written.status Memory ends.0 (λ w. cc) (λ w. cc) usage
status_one P (Listing text) written usage ends = done_status P text (Listing text) written ends (λ w. cc) usage
status_one P ValidRecord written usage ends = done_status P (codes "ok\n") ValidRecord written ends (λ w. cc) usage
status_one P Served written usage ends = other_status P 0 written.status Served ends.0 (λ w. cc) (λ w. cc) usage
status_one P (InvalidRecord line) written usage ends = other_status P 3 written.status (InvalidRecord line) ends.0 (λ w. cc) (λ w. cc) usage

-- by the report
called_all : (n status : ℕ) (exposed : Option FileStore) (none first last : FileStore) → status ≡ n → (n ≡ 8 → ⊥) → exposed ≡ Some last → HasCalledFiles status exposed none first last
called_all n status exposed none first last is other called = record { all = λ e. called; some = λ e. absurd (not_eight n status is other e) }

called_done : (text : List ℕ) (exposed : Option FileStore) (none first last : FileStore) (written : WriteEffect)
    → exposed ≡ Some last → WroteListing text written → HasCalledFiles written.status exposed none first last
called_done text exposed none first last written called (inl whole) = called_all 0 written.status exposed none first last whole.0 (λ w. cc) called
called_done text exposed none first last written called (inr part) = called_all 7 written.status exposed none first last part.0 (λ w. cc) called

has_called : (outcome : Report) (exposed : Option FileStore) (none first last : FileStore) (written : WriteEffect)
    → HasReadFiles outcome exposed first last → WritesReport outcome written → HasCalledFiles written.status exposed none first last
has_called Usage exposed none first last written called ends = called_all 1 written.status exposed none first last ends.0 (λ w. cc) called
has_called (BadLine line) exposed none first last written called ends = called_all 2 written.status exposed none first last ends.0 (λ w. cc) called
has_called Link exposed none first last written called ends = called_all 4 written.status exposed none first last ends.0 (λ w. cc) called
has_called File exposed none first last written called ends = called_all 5 written.status exposed none first last ends.0 (λ w. cc) called
has_called Keeper exposed none first last written called ends = called_all 6 written.status exposed none first last ends.0 (λ w. cc) called
has_called Memory exposed none first last written called ends = record { all = λ e. absurd (e ends.0); some = λ e. inr called }
has_called (Listing text) exposed none first last written called ends = called_done text exposed none first last written called ends
has_called ValidRecord exposed none first last written called ends = called_done (codes "ok\n") exposed none first last written called ends
has_called Served exposed none first last written called ends = called_all 0 written.status exposed none first last ends.0 (λ w. cc) called
has_called (InvalidRecord line) exposed none first last written called ends = called_all 3 written.status exposed none first last ends.0 (λ w. cc) called

module _ {L K : Type 0} (words : List (List ℕ)) (old new : Environment) (before now : Ports L K) (outcome : Report) (written : WriteEffect)
    (prepares : Prepares words old new before now outcome) (ends : WritesReport outcome written) where
  calls_of : (shelf : FileStore) → before.files ≡ Some shelf → CallsFilesFor shelf words written.status now.files
  calls_of shelf exposed =
      elim prepares [
        | inl p ↦
            let calls = subst (λ (files : Option FileStore). IfSome files (λ s. HasReadFiles outcome now.files (files_after_first s p.command) (files_after s p.command))) exposed p.file_calls in
            called_for shelf words written.status now.files p.command p.command_read (status_one (p.command ≡ None) outcome written p.usage ends)
            (has_called outcome now.files shelf (files_after_first shelf p.command) (files_after shelf p.command) written calls ends)
        | inr out ↦
            let P : Report → Type 0 = λ r. WritesReport r written in
            called_short shelf words written.status now.files (out.calls ∙ exposed) (subst P out.memory ends).0
      ]

  pub calls_exposed : IfSome before.files (λ shelf. CallsFilesFor shelf words written.status now.files)
  calls_exposed = where_exposed before.files (λ shelf. CallsFilesFor shelf words written.status now.files) calls_of

-- ---- the keeper, where no run calls it

early_spared : {K : Type 0} (outcome : Report) (keeper later : K) (written : WriteEffect) → Spares outcome keeper later
    → WritesReport outcome written
    → (written.status ≡ 0 → ⊥) → (written.status ≡ 4 → ⊥) → (written.status ≡ 6 → ⊥) → (written.status ≡ 7 → ⊥) → (written.status ≡ 8 → ⊥) → later ≡ keeper
early_spared Usage keeper later written spares ends zero four six seven eight = spares
early_spared (BadLine line) keeper later written spares ends zero four six seven eight = spares
early_spared Link keeper later written spares ends zero four six seven eight = absurd (four ends.0)
early_spared File keeper later written spares ends zero four six seven eight = spares
early_spared Keeper keeper later written spares ends zero four six seven eight = absurd (six ends.0)
early_spared Memory keeper later written spares ends zero four six seven eight = absurd (eight ends.0)
early_spared (Listing text) keeper later written spares ends zero four six seven eight =
    elim ends [
      | inl whole ↦ absurd (zero whole.0)
      | inr part ↦ absurd (seven part.0)
    ]
early_spared ValidRecord keeper later written spares ends zero four six seven eight = spares
early_spared Served keeper later written spares ends zero four six seven eight = absurd (zero ends.0)
early_spared (InvalidRecord line) keeper later written spares ends zero four six seven eight = spares

none_spared : {K : Type 0} (words : List (List ℕ)) (command : Option Command) (keeper later : K) → AsksFor words command → SparedBy command keeper later →
    SpellsNone words → later ≡ keeper
none_spared words None keeper later asks spared no_one = spared
none_spared words (Some command) keeper later asks spared no_one = absurd (no_one command asks.spelled)

check_spared : {K : Type 0} (words : List (List ℕ)) (command : Option Command) (keeper later : K) → AsksFor words command → SparedBy command keeper later
    → (records : List ℕ) → IsCommand (Check records) words → later ≡ keeper
check_spared words None keeper later asks spared records spelled = absurd (asks (Check records) spelled)
check_spared words (Some command) keeper later asks spared records spelled =
    let P : Command → Type 0 = λ c. SparedBy (Some c) keeper later in
    subst P (sym (asks.alone (Check records) spelled)) spared

work_spared : {K : Type 0} (words : List (List ℕ)) (command : Option Command) (keeper later : K) → AsksFor words command → SparedBy command keeper later
    → (calls salt : ℕ) → IsCommand (Workload calls salt) words → later ≡ keeper
work_spared words None keeper later asks spared calls salt spelled = absurd (asks (Workload calls salt) spelled)
work_spared words (Some command) keeper later asks spared calls salt spelled =
    let P : Command → Type 0 = λ c. SparedBy (Some c) keeper later in
    subst P (sym (asks.alone (Workload calls salt) spelled)) spared

pub is_unchanged_keeper : {L K : Type 0} (old new : Environment) (words : List (List ℕ)) (outcome : Report) (before now : Ports L K) (written : WriteEffect)
    → Prepares words old new before now outcome → Spares outcome before.keeper now.keeper → WritesReport outcome written → IsSpared words written.status before.keeper now.keeper
is_unchanged_keeper old new words outcome before now written (inl p) spares ends = record {
  unparsed = none_spared words p.command before.keeper now.keeper p.command_read p.spared;
  check = check_spared words p.command before.keeper now.keeper p.command_read p.spared;
  workload = work_spared words p.command before.keeper now.keeper p.command_read p.spared;
  early = early_spared outcome before.keeper now.keeper written spares ends;
}
is_unchanged_keeper old new words outcome before now written (inr out) spares ends = record {
  unparsed = λ no_one. out.spared;
  check = λ records. λ spelled. out.spared;
  workload = λ calls. λ salt. λ spelled. out.spared;
  early = early_spared outcome before.keeper now.keeper written spares ends;
}
