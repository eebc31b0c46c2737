-- The results of reading the files, stage by stage.
use Rattle.std.proofs.Common.{◌≡◌, ℕ, List, refl, sym, subst, Option, Some, None, Result, Ok, Err, IfSome}
use Rattle.mmtel_directory.specs.Directory.{directory_of}
use Rattle.mmtel_cli.proofs.OutOfMemory.{aborted_untouched}
use Rattle.mmtel_cli.specs.Due.{due_of_charges, due_of_config, due_of_directory, due_of_records, due_of_script, files_after_config, files_after_directory}
use Rattle.mmtel_cli.specs.ReportsDue.{HasReadFiles, IsDue}
use Rattle.mmtel_cli.specs.CommandResults.{ResultOfScript, ResultOfReplay, ResultOfCheck, ResultOfCharges, ResultOfServe, ServesConfig, ServesDirectory}
use Rattle.mmtel_cli.specs.Environment.{Environment}
use Rattle.mmtel_cli.specs.OutOfMemory.{AbortedServeReading}
use Rattle.mmtel_environment.specs.FileStore.{FileStore, next_read, with_next_call, ReadsIfExposed}
use Rattle.mmtel_server.specs.States.{KeeperState}
use Rattle.mmtel_words.specs.CommandLine.{ReplayArgs}
use Rattle.mmtel_directory.specs.declared.directories.Directory.{Directory}
use Rattle.mmtel_reports.specs.declared.reports.Report.{Report}
use Rattle.mmtel_reports.specs.declared.reports.Report.TheVariants.{BadLine, File, Memory}
use Rattle.mmtel_environment.specs.declared.files.FileFault.TheVariants.{Failed}

-- the exposed result, or none where nothing is exposed
abbrev pub exposed_read : Option FileStore → List ℕ → Option (List ℕ)
exposed_read None name = None
exposed_read (Some shelf) name = next_read shelf name

pub exposed_answer-is : (exposed : Option FileStore) (name : List ℕ) → IfSome exposed (λ shelf. exposed_read exposed name ≡ next_read shelf name)
exposed_answer-is None name = tt
exposed_answer-is (Some shelf) name = refl

-- the same of the call after the next
abbrev pub exposed_next_read : Option FileStore → List ℕ → Option (List ℕ)
exposed_next_read None name = None
exposed_next_read (Some shelf) name = next_read (with_next_call shelf) name

pub exposed_next-is : (exposed : Option FileStore) (name : List ℕ) → IfSome exposed (λ shelf. exposed_next_read exposed name ≡ next_read (with_next_call shelf) name)
exposed_next-is None name = tt
exposed_next-is (Some shelf) name = refl

-- a read that failed, and one that returned a text, are the exposed results
pub none-is : (exposed after : Option FileStore) (name : List ℕ) → ReadsIfExposed exposed after name (Err Failed) → IfSome exposed (λ shelf. None ≡ next_read shelf name)
none-is None after name h = tt
none-is (Some shelf) after name h = sym (h.1.failed.0 refl)

pub some-is : (exposed after : Option FileStore) (name text : List ℕ) → ReadsIfExposed exposed after name (Ok text) → IfSome exposed (λ shelf. Some text ≡ next_read shelf name)
some-is None after name text h = tt
some-is (Some shelf) after name text h = sym h.1.ok

-- what the files exposed for the next name they expose for it after a call
pub next-is : (exposed after : Option FileStore) (name text : List ℕ) (script : Option (List ℕ)) (other : List ℕ) → ReadsIfExposed exposed after name (Ok text)
    → IfSome after (λ shelf. script ≡ next_read shelf other) → IfSome exposed (λ shelf. script ≡ next_read (with_next_call shelf) other)
next-is None after name text script other h k = tt
next-is (Some shelf) after name text script other h k =
    let P : Option FileStore → Type 0 = λ a. IfSome a (λ s. script ≡ next_read s other) in
    subst P h.0 k

module _ (old new : KeeperState) where
  pub gives_script : (exposed after : Option FileStore) (asked : ReplayArgs) (directory : Directory) (script : List ℕ) (outcome : Report)
      → ReadsIfExposed exposed after asked.script (Ok script)
      → IsDue old new outcome (due_of_script directory asked.token (Some script)) → ResultOfScript exposed old new asked (Ok directory) outcome
  gives_script exposed after asked directory script outcome h d = record {
    script = Some script;
    exposed_script = some-is exposed after asked.script script h;
    is_due = d;
  }

  pub gives_no_script : (exposed after : Option FileStore) (asked : ReplayArgs) (directory : Directory) → ReadsIfExposed exposed after asked.script (Err Failed)
      → ResultOfScript exposed old new asked (Ok directory) File
  gives_no_script exposed after asked directory h = record {
    script = None;
    exposed_script = none-is exposed after asked.script h;
    is_due = refl;
  }

  pub gives_line : (exposed : Option FileStore) (asked : ReplayArgs) (config : List ℕ) (line : ℕ) → directory_of config ≡ Err line
      → ResultOfScript exposed old new asked (directory_of config) (BadLine line)
  gives_line exposed asked config line e = record {
    script = exposed_read exposed asked.script;
    exposed_script = exposed_answer-is exposed asked.script;
    is_due = rw e refl;
  }

  pub gives_config : (exposed after : Option FileStore) (asked : ReplayArgs) (config : List ℕ) (outcome : Report)
      → ReadsIfExposed exposed after asked.config (Ok config) → ResultOfScript after old new asked (directory_of config) outcome → ResultOfReplay exposed old new asked outcome
  gives_config exposed after asked config outcome h k = record {
    config = Some config;
    script = k.script;
    exposed_config = some-is exposed after asked.config config h;
    exposed_script = next-is exposed after asked.config config k.script asked.script h k.exposed_script;
    is_due = k.is_due;
  }

  pub gives_no_config : (exposed after : Option FileStore) (asked : ReplayArgs) → ReadsIfExposed exposed after asked.config (Err Failed) → ResultOfReplay exposed old new asked File
  gives_no_config exposed after asked h = record {
    config = None;
    script = exposed_next_read exposed asked.script;
    exposed_config = none-is exposed after asked.config h;
    exposed_script = exposed_next-is exposed asked.script;
    is_due = refl;
  }

-- the calls that were made once the configuration's text was read
pub config_after_call : (exposed mid after : Option FileStore) (name config : List ℕ) (outcome : Report) → ReadsIfExposed exposed mid name (Ok config)
    → IfSome mid (λ shelf. HasReadFiles outcome after shelf (files_after_directory shelf (directory_of config)))
    → IfSome exposed (λ shelf. HasReadFiles outcome after (with_next_call shelf) (files_after_config (with_next_call shelf) (next_read shelf name)))
config_after_call None mid after name config outcome h k = tt
config_after_call (Some shelf) mid after name config outcome h k =
    let P : Option FileStore → Type 0 = λ m. IfSome m (λ s. HasReadFiles outcome after s (files_after_directory s (directory_of config))) in
    let there = subst P h.0 k in
    rw h.1.ok there

-- ---- of `check`

pub result_of_text : (exposed after : Option FileStore) (records text : List ℕ) (outcome : Report)
    → ReadsIfExposed exposed after records (Ok text) → ((keeper : KeeperState) → IsDue keeper keeper outcome (due_of_records (Some text))) → ResultOfCheck exposed records outcome
result_of_text exposed after records text outcome h d = record { text = Some text; exposed_text = some-is exposed after records text h; is_due = d }

pub result_of_no_text : (exposed after : Option FileStore) (records : List ℕ) → ReadsIfExposed exposed after records (Err Failed) → ResultOfCheck exposed records File
result_of_no_text exposed after records h = record { text = None; exposed_text = none-is exposed after records h; is_due = λ keeper. refl }

pub result_of_unread : (exposed : Option FileStore) (records : List ℕ) → ResultOfCheck exposed records Memory
result_of_unread exposed records =
    record { text = exposed_read exposed records; exposed_text = exposed_answer-is exposed records; is_due = λ keeper. aborted_untouched keeper (due_of_records (exposed_read exposed records)) }

-- ---- of `charges`

module _ (old new : KeeperState) where
  pub gives_charges : (exposed after : Option FileStore) (name config : List ℕ) (outcome : Report)
      → ReadsIfExposed exposed after name (Ok config) → IsDue old new outcome (due_of_charges (Some config)) → new.contents ≡ old.contents
      → ResultOfCharges exposed old new name outcome
  gives_charges exposed after name config outcome h d same = record { text = Some config; exposed_text = some-is exposed after name config h; is_due = d; held = same }

-- ---- of `serve`

module _ (old new : Environment) where
  pub gives_serve : (exposed after : Option FileStore) (name config token : List ℕ) (turns : ℕ) (outcome : Report)
      → ReadsIfExposed exposed after name (Ok config) → ServesConfig (Some config) token turns old new outcome →
      ResultOfServe exposed old new name token turns outcome
  gives_serve exposed after name config token turns outcome h d = record { text = Some config; exposed_text = some-is exposed after name config h; is_due = d }

-- ---- where memory ran out, or a file could not be read, and neither the keeper nor the link was called

module _ (keeper : KeeperState) where
  pub gives_memory : (exposed : Option FileStore) (asked : ReplayArgs) (directory : Result Directory ℕ) → ResultOfScript exposed keeper keeper asked directory Memory
  gives_memory exposed asked directory = record {
    script = exposed_read exposed asked.script;
    exposed_script = exposed_answer-is exposed asked.script;
    is_due = aborted_untouched keeper (due_of_directory directory asked.token (exposed_read exposed asked.script));
  }

  pub gives_no_memory : (exposed : Option FileStore) (asked : ReplayArgs) → ResultOfReplay exposed keeper keeper asked Memory
  gives_no_memory exposed asked = record {
    config = exposed_read exposed asked.config;
    script = exposed_next_read exposed asked.script;
    exposed_config = exposed_answer-is exposed asked.config;
    exposed_script = exposed_next-is exposed asked.script;
    is_due = aborted_untouched keeper (due_of_config (exposed_read exposed asked.config) asked.token (exposed_next_read exposed asked.script));
  }

  pub gives_no_charges : (exposed after : Option FileStore) (name : List ℕ) → ReadsIfExposed exposed after name (Err Failed) → ResultOfCharges exposed keeper keeper name File
  gives_no_charges exposed after name h = record { text = None; exposed_text = none-is exposed after name h; is_due = refl; held = refl }

  pub gives_unread_charges : (exposed : Option FileStore) (name : List ℕ) → ResultOfCharges exposed keeper keeper name Memory
  gives_unread_charges exposed name = record {
    text = exposed_read exposed name;
    exposed_text = exposed_answer-is exposed name;
    is_due = aborted_untouched keeper (due_of_charges (exposed_read exposed name));
    held = refl;
  }

module _ (seen : Environment) where
  pub gives_no_serve : (exposed after : Option FileStore) (name token : List ℕ) (turns : ℕ) → ReadsIfExposed exposed after name (Err Failed)
      → ResultOfServe exposed seen seen name token turns File
  gives_no_serve exposed after name token turns h = record { text = None; exposed_text = none-is exposed after name h; is_due = (refl, refl) }

  -- where memory runs out nothing is stated of the configuration, and neither the keeper nor the link was called
  pub serves_short : (directory : Result Directory ℕ) (token : List ℕ) (turns : ℕ) → ServesDirectory directory token turns seen seen Memory
  serves_short (Ok directory) token turns = λ suited. AbortedServeReading refl refl
  serves_short (Err line) token turns = (refl, refl)

  unread_config : (config : Option (List ℕ)) (token : List ℕ) (turns : ℕ) → ServesConfig config token turns seen seen Memory
  unread_config None token turns = (refl, refl)
  unread_config (Some config) token turns = serves_short (directory_of config) token turns

  pub gives_unread_serve : (exposed : Option FileStore) (name token : List ℕ) (turns : ℕ) → ResultOfServe exposed seen seen name token turns Memory
  gives_unread_serve exposed name token turns = record {
    text = exposed_read exposed name;
    exposed_text = exposed_answer-is exposed name;
    is_due = unread_config (exposed_read exposed name) token turns;
  }

  -- a line of the configuration is bad
  pub serves_line : (config : List ℕ) (line : ℕ) (token : List ℕ) (turns : ℕ) → directory_of config ≡ Err line → ServesConfig (Some config) token turns seen seen (BadLine line)
  serves_line config line token turns e = rw e (refl, refl)
