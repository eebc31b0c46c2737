-- What the statement on a whole run implies for each status.
use Rattle.std.proofs.Common.{◌≡◌, ◌⊎◌, ◌==◌, Bool, true, false, ℕ, List, [], ◌∷◌, refl, subst, sym, ap, ◌∙◌, inl, inr, nat_eq, codes, Option, Some, None, Result, Ok, Err}
use Rattle.std.proofs.lemmas.Bool.{eqb-false}
use Rattle.std.specs.List.{list_any}
use Rattle.mmtel_charging.specs.Rows.{text_of}
use Rattle.mmtel_directory.specs.Directory.{directory_of}
use Rattle.mmtel_directory.specs.declared.directories.Directory.{Directory}
use Rattle.mmtel_records_in_force.specs.Texts.{Texts}
use Rattle.mmtel_keeper.specs.Contents.{KeeperCalls}
use Rattle.mmtel_link.specs.LinkStates.{LinkCalls, fails_next}
use Rattle.mmtel_environment.specs.Counts.{Rose}
use Rattle.mmtel_environment.specs.FileStore.{FileStore, next_read, with_next_call}
use Rattle.mmtel_environment.specs.declared.events.Event.{Event}
use Rattle.mmtel_script.specs.Listing.{listing_of}
use Rattle.mmtel_script.specs.Script.{events_of}
use Rattle.mmtel_base.proofs.ChainTheorems.{some_is}
use Rattle.mmtel_sheet_reader.specs.Uploads.{upload_of}
use Rattle.mmtel_sheet_reader.specs.declared.uploads.Upload.{Upload}
use Rattle.mmtel_sheet_reader.specs.declared.uploads.Upload.TheVariants as upload
use Rattle.mmtel_words.specs.CommandLine.{ReplayArgs, Command, Serve, Replay, Check, Charges, Workload, IsCommand}
use Rattle.mmtel_cli.specs.Commands.{IsServe, IsReplay, IsCheck, IsCharges, IsWorkload, IsOnly, SpellsNone}
use Rattle.mmtel_reports.specs.WriteEffects.{WroteListing, WroteNothing, WriteEffect}
use Rattle.mmtel_cli.specs.KeeperUse.{IsLoaded, IsNotLoaded, IsOpening, IsRowsCall, ReadsNoRows, fails_first_three, fails_opening}
use Rattle.mmtel_cli.specs.Environment.{Environment}
use Rattle.mmtel_cli.specs.Serving.{IsBindCall, IsLinked, LinkFailsInServe}
use Rattle.mmtel_server.specs.States.{KeeperState, LinkState}
use Rattle.mmtel_cli.specs.Runs.{WritesCounts, ServeRun, ListsReplay, WritesRows, WroteMemory, ReplayRun, CheckRun, ChargesRun, WorkloadRun, UnparsedRun, ServesAndWrites, ProgramRun, RanServe, RanReplay}
use Rattle.mmtel_cli.specs.Runs.{RanCheck, RanCharges, RanWork, RanNone, RanOutOfMemoryFirst}
use Rattle.mmtel_cli.specs.Runs.{EndsOfEvents, EndsOfScript, EndsOfDirectory, EndsOfConfig, EndsOfStore, EndsOfCharges, EndsOfUpload, EndsOfRecords}
use Rattle.mmtel_cli.specs.Runs.{EndsKeeperFailed, EndsLinkFailed, EndsOfServe, EndsOfServing, EndsServed, EndsServing}
use Rattle.mmtel_cli.specs.StatusTheorems.{IsReplayable, IsChargeable, KeeperDoesNotFail, KeeperReadsRows, IsServable, ReplaysAreListed, ServesAreServed, ReplaysSucceed, ReplaysNeedAKeeper}
use Rattle.mmtel_cli.specs.StatusTheorems.{RowsAreListed, RowsNeedAKeeper, ServingNeedsAKeeper, ServingNeedsALink}
use Rattle.mmtel_cli.specs.StatusTheorems.{ChecksAreWritten, ChecksOne, ChargesOne, WorksOne, ServesOne, DoneAtZero, DoneServe, DoneReplay, DoneCheck, DoneCharges, DoneWork}
use Rattle.mmtel_cli.specs.StatusTheorems.{ChargesKeep, EightIsOutOfMemory, MemoryCharges, MemoryCheck, MemoryReplay, MemoryServe, MemoryWords, MemoryWorkload}
use Rattle.mmtel_cli.specs.StatusTheorems.{RefusesOne, ZeroIsListed, OneIsUsage, ThreeIsRefused, FourRose, SixRose, SevenRose, ZeroKept, StatusesAreThese, NoFaultNoFailure}

-- ---- the arguments are one command at most

same_args : (a b : ReplayArgs) (words : List (List ℕ)) → IsOnly (Replay a) words → IsReplay b words → a ≡ b
same_args a b words one other = let same : Replay b ≡ Replay a = one.alone (Replay b) other in cc

same_records : (a b : List ℕ) (words : List (List ℕ)) → IsOnly (Check a) words → IsCheck b words → a ≡ b
same_records a b words one other = let same : Check b ≡ Check a = one.alone (Check b) other in cc

same_config : (a b : List ℕ) (words : List (List ℕ)) → IsOnly (Charges a) words → IsCharges b words → a ≡ b
same_config a b words one other = let same : Charges b ≡ Charges a = one.alone (Charges b) other in cc

same_serve : (a b token other : List ℕ) (turns count : ℕ) (words : List (List ℕ)) → IsOnly (Serve a token turns) words → IsServe b other count words
    → (a ≡ b) × (token ≡ other) × (turns ≡ count)
same_serve a b token other turns count words one is =
    let same : Serve b other count ≡ Serve a token turns = one.alone (Serve b other count) is in
    (cc, cc, cc)

-- what distinguishes the commands
abbrev name_of : Command → ℕ
name_of (Serve config token turns) = 0
name_of (Replay asked) = 1
name_of (Check records) = 2
name_of (Charges config) = 3
name_of (Workload calls salt) = 4

-- so arguments of one command are of no command of another name
no_other : (one other : Command) (words : List (List ℕ)) → IsOnly one words → IsCommand other words → nat_eq (name_of other) (name_of one) ≡ false → ⊥
no_other one other words only spelled apart = eqb-false (name_of other) (name_of one) apart (ap name_of (only.alone other spelled))

-- ---- files that exist and are valid

module _ (shelf : FileStore) (old new : Environment) (words : List (List ℕ)) (asked : ReplayArgs) (directory : Directory) (events : List Event)
    (written : WriteEffect) where
  -- how such a run ends
  abbrev EndsWell : Type 0
  EndsWell = EndsOfEvents directory asked.token (Ok events) old.keeper new.keeper written

  good_ends : (config_text script_text : List ℕ) (config script : Option (List ℕ))
      → config ≡ Some config_text → directory_of config_text ≡ Ok directory → script ≡ Some script_text → events_of directory.peers.known script_text ≡ Ok events
      → EndsOfConfig config asked.token script old.keeper new.keeper written ⊎ WroteMemory written
      → EndsWell ⊎ WroteMemory written
  good_ends config_text script_text config script config_is directory_is script_is events_is ends =
      rw (config_is, script_is, directory_is, events_is) at ends

  good_replay : IsReplayable shelf words asked directory events → (r : ReplayRun (Some shelf) old.keeper new.keeper words written)
      → EndsWell ⊎ WroteMemory written
  good_replay good r =
      let same : r.args ≡ asked = same_args r.args asked words r.spelled good.spelled in
      let P : ReplayArgs
      → Type 0 = λ a. EndsOfConfig r.files.config a.token r.files.script old.keeper new.keeper written ⊎ WroteMemory written in
      good_ends good.config good.script r.files.config r.files.script
      (r.files.exposed_config ∙ ap (λ (a : ReplayArgs). next_read shelf a.config) same ∙ good.config_there) good.config_read
      (r.files.exposed_script ∙ ap (λ (a : ReplayArgs). next_read (with_next_call shelf) a.script) same ∙ good.script_there) good.script_read
      (subst P same r.ends)

  good_run : IsReplayable shelf words asked directory events → ProgramRun (Some shelf) old new words written → EndsWell ⊎ (written.status ≡ 8)
  good_run good (RanReplay r) =
      elim (good_replay good r) [
        | inl ends ↦ inl ends
        | inr memory ↦ inr memory.0
      ]
  good_run good (RanServe v) = absurd (no_other (Serve v.config v.token v.turns) (Replay asked) words v.spelled good.spelled refl)
  good_run good (RanCheck c) = absurd (no_other (Check c.records) (Replay asked) words c.spelled good.spelled refl)
  good_run good (RanCharges c) = absurd (no_other (Charges c.config) (Replay asked) words c.spelled good.spelled refl)
  good_run good (RanWork w) = absurd (no_other (Workload w.calls w.salt) (Replay asked) words w.spelled good.spelled refl)
  good_run good (RanNone refused) = absurd (refused.none (Replay asked) good.spelled)
  good_run good (RanOutOfMemoryFirst memory spared no_arrivals) = inr memory.0

-- a keeper that can be bound, migrated and loaded is one that did not fail
opens : (path : List ℕ) (calls since : Option KeeperCalls) (exposed : KeeperCalls) (refused : Bool) → IsOpening path calls since refused → calls ≡ Some exposed → fails_opening exposed ≡ refused
opens path None since exposed refused opened is = absurd cc
opens path (Some calls) since exposed refused opened is = let same : calls ≡ exposed = some_is calls exposed is in ap fails_opening (sym same) ∙ opened.1

-- and so is one that can be bound and whose CDRs can be read
asks : (path : List ℕ) (calls since : Option KeeperCalls) (exposed : KeeperCalls) (refused : Bool) → IsRowsCall path calls since refused → calls ≡ Some exposed
    → fails_first_three exposed ≡ refused
asks path None since exposed refused asked is = absurd cc
asks path (Some calls) since exposed refused asked is = let same : calls ≡ exposed = some_is calls exposed is in ap fails_first_three (sym same) ∙ asked.1

never_failing : (store : List ℕ) (old new : KeeperState) → KeeperDoesNotFail old new → IsNotLoaded store old new → ⊥
never_failing store old new (inl willing) not =
    let wrong : false ≡ true = sym willing.2 ∙ opens store old.calls new.calls willing.0 true not.calls willing.1 in
    cc
never_failing store old new (inr willing) not = willing not.rose

never_failing_rows : (store : List ℕ) (old new : KeeperState) → KeeperReadsRows old new → ReadsNoRows store old new → ⊥
never_failing_rows store old new (inl willing) not =
    let wrong : false ≡ true = sym willing.2 ∙ asks store old.calls new.calls willing.0 true not.calls willing.1 in
    cc
never_failing_rows store old new (inr willing) not = willing not.rose

pub replays_are_listed : ReplaysAreListed
replays_are_listed shelf old new words asked directory events written good willing ran =
    elim (good_run shelf old new words asked directory events written good ran) [
      | inl ends ↦ elim ends [
        | inl listed ↦ inl listed
        | inr not ↦ absurd (never_failing directory.store old.keeper new.keeper willing not.0)
      ]
      | inr memory ↦ inr memory
    ]

pub replays_succeed : ReplaysSucceed
replays_succeed shelf old new words asked directory events written good willing ran kept =
    elim (replays_are_listed shelf old new words asked directory events written good willing ran) [
      | inl listed ↦ elim listed.wrote [
        | inl whole ↦ inl whole.0
        | inr part ↦ absurd (kept part.2)
      ]
      | inr memory ↦ inr memory
    ]

pub replays_need_a_keeper : ReplaysNeedAKeeper
replays_need_a_keeper shelf old new calls words asked directory events written good is unwilling ran =
    elim (good_run shelf old new words asked directory events written good ran) [
      | inl ends ↦ elim ends [
        | inl listed ↦ absurd (let wrong : true ≡ false = sym unwilling ∙ opens directory.store old.keeper.calls listed.opening.calls calls false listed.opened.calls is in cc)
        | inr not ↦ inl not.1.0
      ]
      | inr memory ↦ inr memory
    ]

-- ---- a file that is checked

exposed_ends : (text : Option (List ℕ)) (there : List ℕ) (written : WriteEffect) → text ≡ Some there
    → EndsOfRecords text written ⊎ WroteMemory written → EndsOfUpload (upload_of there) written ⊎ (written.status ≡ 8)
exposed_ends text there written is (inl ends) =
    let P : Option (List ℕ) → Type 0 = λ t. EndsOfRecords t written in
    inl (subst P is ends)
exposed_ends text there written is (inr memory) = inr memory.0

pub checks_are_written : ChecksAreWritten
checks_are_written shelf old new words text written there (RanServe v) =
    absurd (no_other (Serve v.config v.token v.turns) (Check there.records) words v.spelled there.spelled refl)
checks_are_written shelf old new words text written there (RanReplay r) =
    absurd (no_other (Replay r.args) (Check there.records) words r.spelled there.spelled refl)
checks_are_written shelf old new words text written there (RanCheck c) =
    exposed_ends c.text text written
    (c.exposed_text ∙ (ap (next_read shelf) (same_records c.records there.records words c.spelled there.spelled) ∙ there.there)) c.ends
checks_are_written shelf old new words text written there (RanCharges c) =
    absurd (no_other (Charges c.config) (Check there.records) words c.spelled there.spelled refl)
checks_are_written shelf old new words text written there (RanWork w) =
    absurd (no_other (Workload w.calls w.salt) (Check there.records) words w.spelled there.spelled refl)
checks_are_written shelf old new words text written there (RanNone refused) = absurd (refused.none (Check there.records) there.spelled)
checks_are_written shelf old new words text written there (RanOutOfMemoryFirst memory spared no_arrivals) = inr memory.0

-- ---- a store whose CDRs are read

kept_ends : (text : Option (List ℕ)) (there : List ℕ) (directory : Directory) (old new : KeeperState) (written : WriteEffect)
    → text ≡ Some there → directory_of there ≡ Ok directory
    → EndsOfCharges text old new written ⊎ WroteMemory written
    → EndsOfStore (Ok directory) old new written ⊎ WroteMemory written
kept_ends text there directory old new written is read ends = rw (is, read) at ends

kept_run : (shelf : FileStore) (old new : Environment) (words : List (List ℕ)) (directory : Directory) (written : WriteEffect)
    → IsChargeable shelf words directory → ProgramRun (Some shelf) old new words written
    → EndsOfStore (Ok directory) old.keeper new.keeper written ⊎ WroteMemory written
kept_run shelf old new words directory written kept (RanServe v) =
    absurd (no_other (Serve v.config v.token v.turns) (Charges kept.config) words v.spelled kept.spelled refl)
kept_run shelf old new words directory written kept (RanReplay r) =
    absurd (no_other (Replay r.args) (Charges kept.config) words r.spelled kept.spelled refl)
kept_run shelf old new words directory written kept (RanCheck c) =
    absurd (no_other (Check c.records) (Charges kept.config) words c.spelled kept.spelled refl)
kept_run shelf old new words directory written kept (RanCharges c) =
    kept_ends c.text kept.text directory old.keeper new.keeper written
    (c.exposed_text ∙ (ap (next_read shelf) (same_config c.config kept.config words c.spelled kept.spelled) ∙ kept.there)) kept.read c.ends
kept_run shelf old new words directory written kept (RanWork w) =
    absurd (no_other (Workload w.calls w.salt) (Charges kept.config) words w.spelled kept.spelled refl)
kept_run shelf old new words directory written kept (RanNone refused) = absurd (refused.none (Charges kept.config) kept.spelled)
kept_run shelf old new words directory written kept (RanOutOfMemoryFirst memory spared no_arrivals) = inr memory

pub rows_are_listed : RowsAreListed
rows_are_listed shelf old new words directory written kept willing ran =
    elim (kept_run shelf old new words directory written kept ran) [
      | inl ends ↦ elim ends [
        | inl listed ↦ inl listed
        | inr not ↦ absurd (never_failing_rows directory.store old.keeper new.keeper willing not.0)
      ]
      | inr memory ↦ inr memory.0
    ]

pub rows_need_a_keeper : RowsNeedAKeeper
rows_need_a_keeper shelf old new calls words directory written kept is unwilling ran =
    elim (kept_run shelf old new words directory written kept ran) [
      | inl ends ↦ elim ends [
        | inl listed ↦ absurd (let wrong : true ≡ false = sym unwilling ∙ asks directory.store old.keeper.calls new.keeper.calls calls false listed.read.calls is in cc)
        | inr not ↦ inl not.1.0
      ]
      | inr memory ↦ inr memory.0
    ]

-- ---- a link that is served

-- a link whose call fails by its number is not bound
binds : (directory : Directory) (calls since : Option LinkCalls) (exposed : LinkCalls) → IsBindCall directory calls since false → calls ≡ Some exposed → fails_next exposed ≡ false
binds directory None since exposed bound is = absurd cc
binds directory (Some calls) since exposed bound is = let same : calls ≡ exposed = some_is calls exposed is in ap fails_next (sym same) ∙ bound.1

module _ (old new : Environment) (directory : Directory) (token : List ℕ) (turns : ℕ)
    (written : WriteEffect) where
  -- how such a run ends
  abbrev EndsThere : Type 0
  EndsThere = EndsServing directory token turns old new written ⊎ (written.status ≡ 8)

  there_ends : (text : Option (List ℕ)) (there : List ℕ) → text ≡ Some there → directory_of there ≡ Ok directory
      → EndsOfServe text token turns old new written ⊎ WroteMemory written
      → EndsServing directory token turns old new written ⊎ WroteMemory written
  there_ends text there is read ends = rw (is, read) at ends

  there_or_eight : EndsServing directory token turns old new written ⊎ WroteMemory written → EndsThere
  there_or_eight (inl ends) = inl ends
  there_or_eight (inr memory) = inr memory.0

  -- where the link could not be bound or failed to receive, its count of arrival faults rose
  failed_rose : LinkFailsInServe directory token turns old new → Rose old.link.arrival_faults new.link.arrival_faults
  failed_rose (inl un) = un.unlinked.rose
  failed_rose (inr served) = subst (λ (n : ℕ). Rose n new.link.arrival_faults) served.linked.arrival_faults served.run.cause

  served_unless : KeeperDoesNotFail old.keeper new.keeper → (Rose old.link.arrival_faults new.link.arrival_faults → ⊥) → EndsThere
      → ServesAndWrites directory token turns old new written ⊎ (written.status ≡ 8)
  served_unless willing stood (inl (EndsServed served)) = inl served
  served_unless willing stood (inl (EndsLinkFailed failed wrote)) = absurd (stood (failed_rose failed))
  served_unless willing stood (inl (EndsKeeperFailed not wrote)) = absurd (never_failing directory.store old.keeper new.keeper willing not)
  served_unless willing stood (inr eight) = inr eight

  -- a keeper that fails is not loaded, and a link that fails is not bound
  never_loaded : (calls : KeeperCalls) (loaded : Texts) (opening : KeeperState) → old.keeper.calls ≡ Some calls → fails_opening calls ≡ true →
      IsLoaded directory.store loaded old.keeper opening → ⊥
  never_loaded calls loaded opening is unwilling opened =
      let wrong : true ≡ false = sym unwilling ∙ opens directory.store old.keeper.calls opening.calls calls false opened.calls is in
      cc

  unkept_unless : (calls : KeeperCalls) → old.keeper.calls ≡ Some calls → fails_opening calls ≡ true → EndsThere → (written.status ≡ 6) ⊎ (written.status ≡ 8)
  unkept_unless calls is unwilling (inl (EndsServed served)) = absurd (never_loaded calls served.serves.loaded served.serves.ready.keeper is unwilling served.serves.opened)
  unkept_unless calls is unwilling (inl (EndsLinkFailed (inl un) wrote)) = absurd (never_loaded calls un.loaded new.keeper is unwilling un.opened)
  unkept_unless calls is unwilling (inl (EndsLinkFailed (inr served) wrote)) = absurd (never_loaded calls served.loaded served.ready.keeper is unwilling served.opened)
  unkept_unless calls is unwilling (inl (EndsKeeperFailed not wrote)) = inl wrote.0
  unkept_unless calls is unwilling (inr eight) = inr eight

  never_linked : (calls : LinkCalls) (listening : LinkState) → old.link.calls ≡ Some calls → fails_next calls ≡ true → IsLinked directory old.link listening → ⊥
  never_linked calls listening is fails linked =
      let wrong : true ≡ false = sym fails ∙ binds directory old.link.calls listening.calls calls linked.calls is in
      cc

  unlinked_unless : (calls : LinkCalls) → KeeperDoesNotFail old.keeper new.keeper → old.link.calls ≡ Some calls → fails_next calls ≡ true → EndsThere → (written.status ≡ 4) ⊎ (written.status ≡ 8)
  unlinked_unless calls willing is fails (inl (EndsServed served)) = absurd (never_linked calls served.serves.ready.link is fails served.serves.linked)
  unlinked_unless calls willing is fails (inl (EndsLinkFailed failed wrote)) = inl wrote.0
  unlinked_unless calls willing is fails (inl (EndsKeeperFailed not wrote)) = absurd (never_failing directory.store old.keeper new.keeper willing not)
  unlinked_unless calls willing is fails (inr eight) = inr eight

  module _ (shelf : FileStore) (words : List (List ℕ)) where
    there_run : IsServable shelf words directory token turns → ProgramRun (Some shelf) old new words written → EndsThere
    there_run good (RanServe v) =
        let same = same_serve v.config good.config v.token token v.turns turns words v.spelled good.spelled in
        let P : List ℕ → Type 0 = λ t. EndsOfServe v.text t v.turns old new written ⊎ WroteMemory written in
        let Q : ℕ → Type 0 = λ n. EndsOfServe v.text token n old new written ⊎ WroteMemory written in
        there_or_eight (there_ends v.text good.text (v.exposed_text ∙ (ap (next_read shelf) same.0 ∙ good.there)) good.read (subst Q same.2 (subst P same.1 v.ends)))
    there_run good (RanReplay r) = absurd (no_other (Replay r.args) (Serve good.config token turns) words r.spelled good.spelled refl)
    there_run good (RanCheck c) = absurd (no_other (Check c.records) (Serve good.config token turns) words c.spelled good.spelled refl)
    there_run good (RanCharges c) = absurd (no_other (Charges c.config) (Serve good.config token turns) words c.spelled good.spelled refl)
    there_run good (RanWork w) = absurd (no_other (Workload w.calls w.salt) (Serve good.config token turns) words w.spelled good.spelled refl)
    there_run good (RanNone refused) = absurd (refused.none (Serve good.config token turns) good.spelled)
    there_run good (RanOutOfMemoryFirst memory spared no_arrivals) = inr memory.0

pub serves_are_served : ServesAreServed
serves_are_served shelf old new words directory token turns written good willing stood ran =
    served_unless old new directory token turns written willing stood
    (there_run old new directory token turns written shelf words good ran)

pub serving_needs_a_keeper : ServingNeedsAKeeper
serving_needs_a_keeper shelf old new calls words directory token turns written good is unwilling ran =
    unkept_unless old new directory token turns written calls is unwilling
    (there_run old new directory token turns written shelf words good ran)

pub serving_needs_a_link : ServingNeedsALink
serving_needs_a_link shelf old new calls words directory token turns written good willing is fails ran =
    unlinked_unless old new directory token turns written calls willing is fails
    (there_run old new directory token turns written shelf words good ran)

-- ---- each status

-- what a run's end implies for the status, for its meaning at 0, at 3, at 4 and at 6, and for the sink
record Ending (Zero Three Four Six : Type 0) (status : ℕ) (faults now : ℕ) : Type 0 where
  known : list_any (λ known. known == status) (0 ∷ 1 ∷ 2 ∷ 3 ∷ 4 ∷ 5 ∷ 6 ∷ 7 ∷ 8 ∷ []) ≡ true
  other : status ≡ 1 → ⊥
  zero : status ≡ 0 → Zero
  three : status ≡ 3 → Three
  four : status ≡ 4 → Four
  six : status ≡ 6 → Six
  rose : status ≡ 7 → Rose faults now
  kept : status ≡ 0 → now ≡ faults
  fine : (status ≡ 4 → ⊥) → (status ≡ 5 → ⊥) → (status ≡ 6 → ⊥) → (status ≡ 7 → ⊥) → list_any (λ known. known == status) (0 ∷ 1 ∷ 2 ∷ 3 ∷ 8 ∷ []) ≡ true

module _ (Zero Three Four Six : Type 0) (written : WriteEffect) where
  abbrev EndingAt : ℕ → Type 0
  EndingAt s = Ending Zero Three Four Six s written.old_faults written.new_faults

  ending_line : written.status ≡ 2 → EndingAt written.status
  ending_line e = subst EndingAt (sym e) (record {
    known = refl;
    other = λ x. absurd cc;
    zero = λ x. absurd cc;
    three = λ x. absurd cc;
    four = λ x. absurd cc;
    six = λ x. absurd cc;
    rose = λ x. absurd cc;
    kept = λ x. absurd cc;
    fine = λ four. λ five. λ six. λ seven. refl;
  })

  ending_refused : Three → written.status ≡ 3 → EndingAt written.status
  ending_refused three e = subst EndingAt (sym e) (record {
    known = refl;
    other = λ x. absurd cc;
    zero = λ x. absurd cc;
    three = λ x. three;
    four = λ x. absurd cc;
    six = λ x. absurd cc;
    rose = λ x. absurd cc;
    kept = λ x. absurd cc;
    fine = λ four. λ five. λ six. λ seven. refl;
  })

  ending_link : Four → written.status ≡ 4 → EndingAt written.status
  ending_link four e = subst EndingAt (sym e) (record {
    known = refl;
    other = λ x. absurd cc;
    zero = λ x. absurd cc;
    three = λ x. absurd cc;
    four = λ x. four;
    six = λ x. absurd cc;
    rose = λ x. absurd cc;
    kept = λ x. absurd cc;
    fine = λ not. λ five. λ six. λ seven. absurd (not refl);
  })

  ending_file : written.status ≡ 5 → EndingAt written.status
  ending_file e = subst EndingAt (sym e) (record {
    known = refl;
    other = λ x. absurd cc;
    zero = λ x. absurd cc;
    three = λ x. absurd cc;
    four = λ x. absurd cc;
    six = λ x. absurd cc;
    rose = λ x. absurd cc;
    kept = λ x. absurd cc;
    fine = λ four. λ five. λ six. λ seven. absurd (five refl);
  })

  ending_keeper : Six → written.status ≡ 6 → EndingAt written.status
  ending_keeper rose e = subst EndingAt (sym e) (record {
    known = refl;
    other = λ x. absurd cc;
    zero = λ x. absurd cc;
    three = λ x. absurd cc;
    four = λ x. absurd cc;
    six = λ x. rose;
    rose = λ x. absurd cc;
    kept = λ x. absurd cc;
    fine = λ four. λ five. λ six. λ seven. absurd (six refl);
  })

  ending_memory : written.status ≡ 8 → EndingAt written.status
  ending_memory e = subst EndingAt (sym e) (record {
    known = refl;
    other = λ x. absurd cc;
    zero = λ x. absurd cc;
    three = λ x. absurd cc;
    four = λ x. absurd cc;
    six = λ x. absurd cc;
    rose = λ x. absurd cc;
    kept = λ x. absurd cc;
    fine = λ four. λ five. λ six. λ seven. refl;
  })

  -- a text that is due for a command that is done
  ending_written : (text : List ℕ) → Zero → WroteListing text written → EndingAt written.status
  ending_written text zero (inl w) = subst EndingAt (sym w.0) (record {
    known = refl;
    other = λ x. absurd cc;
    zero = λ x. zero;
    three = λ x. absurd cc;
    four = λ x. absurd cc;
    six = λ x. absurd cc;
    rose = λ x. absurd cc;
    kept = λ x. w.2;
    fine = λ four. λ five. λ six. λ seven. refl;
  })
  ending_written text zero (inr w) = subst EndingAt (sym w.0) (record {
    known = refl;
    other = λ x. absurd cc;
    zero = λ x. absurd cc;
    three = λ x. absurd cc;
    four = λ x. absurd cc;
    six = λ x. absurd cc;
    rose = λ x. w.2;
    kept = λ x. absurd cc;
    fine = λ four. λ five. λ six. λ seven. absurd (seven refl);
  })

  -- where nothing is written
  ending_nothing : Zero → WroteNothing written → EndingAt written.status
  ending_nothing zero w = subst EndingAt (sym w.0) (record {
    known = refl;
    other = λ x. absurd cc;
    zero = λ x. zero;
    three = λ x. absurd cc;
    four = λ x. absurd cc;
    six = λ x. absurd cc;
    rose = λ x. absurd cc;
    kept = λ x. w.2;
    fine = λ four. λ five. λ six. λ seven. refl;
  })

-- ---- of `replay`

-- at 0 a run was listed; never 3; at 6 the keeper's count rose
abbrev ListsAtZero : ReplayArgs → (old new : KeeperState) → WriteEffect → Type 0
ListsAtZero asked old new written =
    (directory : Directory) × (events : List Event) × ListsReplay directory asked.token events old new written

module _ (asked : ReplayArgs) (old new : KeeperState) (written : WriteEffect) where
  abbrev AtZero : Type 0
  AtZero = ListsAtZero asked old new written

  abbrev AtSix : Type 0
  AtSix = Rose old.faults new.faults

  abbrev EndsReplay : Type 0
  EndsReplay = Ending AtZero ⊥ ⊥ AtSix written.status written.old_faults written.new_faults

  ending_listed : (directory : Directory) (events : List Event) → ListsReplay directory asked.token events old new written → EndsReplay
  ending_listed directory events l =
      ending_written AtZero ⊥ ⊥ AtSix written (listing_of l.offers) (directory, events, l) l.wrote

  ending_events : (directory : Directory) (events : Result (List Event) ℕ) → EndsOfEvents directory asked.token events old new written → EndsReplay
  ending_events directory (Ok events) (inl e) = ending_listed directory events e
  ending_events directory (Ok events) (inr e) = ending_keeper AtZero ⊥ ⊥ AtSix written e.0.rose e.1.0
  ending_events directory (Err line) e = ending_line AtZero ⊥ ⊥ AtSix written e.0

  ending_script : (directory : Directory) (script : Option (List ℕ)) → EndsOfScript directory asked.token script old new written → EndsReplay
  ending_script directory None e = ending_file AtZero ⊥ ⊥ AtSix written e.0
  ending_script directory (Some script) e = ending_events directory (events_of directory.peers.known script) e

  ending_directory : (directory : Result Directory ℕ) (script : Option (List ℕ)) → EndsOfDirectory directory asked.token script old new written
      → EndsReplay
  ending_directory (Ok directory) script e = ending_script directory script e
  ending_directory (Err line) script e = ending_line AtZero ⊥ ⊥ AtSix written e.0

  ending_config : (config script : Option (List ℕ))
      → EndsOfConfig config asked.token script old new written ⊎ WroteMemory written → EndsReplay
  ending_config None script (inl e) = ending_file AtZero ⊥ ⊥ AtSix written e.0
  ending_config (Some config) script (inl e) = ending_directory (directory_of config) script e
  ending_config config script (inr memory) = ending_memory AtZero ⊥ ⊥ AtSix written memory.0

-- ---- of `check`

module _ (words : List (List ℕ)) (records : List ℕ) (spelled : IsCheck records words) (written : WriteEffect) where
  abbrev EndsCheck : Type 0
  EndsCheck = Ending (ChecksOne words written) (RefusesOne words) ⊥ ⊥ written.status written.old_faults written.new_faults

  ending_upload : (text : List ℕ) (said : Upload) → upload_of text ≡ said → EndsOfUpload said written → EndsCheck
  ending_upload text (upload.Accepted sheet) is e =
      ending_written (ChecksOne words written) (RefusesOne words) ⊥ ⊥ written (codes "ok\n")
      (record { records = records; spelled = spelled; text = text; sheet = sheet; valid = is; wrote = e }) e
  ending_upload text (upload.Refused line) is e =
      ending_refused (ChecksOne words written) (RefusesOne words) ⊥ ⊥ written
      (record { records = records; spelled = spelled; text = text; line = line; invalid = is }) e.0

  ending_records : (text : Option (List ℕ)) → EndsOfRecords text written ⊎ WroteMemory written → EndsCheck
  ending_records None (inl e) = ending_file (ChecksOne words written) (RefusesOne words) ⊥ ⊥ written e.0
  ending_records (Some text) (inl e) = ending_upload text (upload_of text) refl e
  ending_records text (inr memory) = ending_memory (ChecksOne words written) (RefusesOne words) ⊥ ⊥ written memory.0

-- ---- of `charges`

module _ (words : List (List ℕ)) (config : List ℕ) (spelled : IsCharges config words) (old new : KeeperState) (written : WriteEffect) where
  abbrev EndsCharges : Type 0
  EndsCharges = Ending (ChargesOne old new words written) ⊥ ⊥ (Rose old.faults new.faults) written.status written.old_faults written.new_faults

  ending_rows : (directory : Directory) → WritesRows directory.store old new written → EndsCharges
  ending_rows directory l =
      ending_written (ChargesOne old new words written) ⊥ ⊥ (Rose old.faults new.faults) written (text_of l.rows)
      (record { config = config; spelled = spelled; directory = directory; listed = l }) l.wrote

  ending_store : (directory : Result Directory ℕ) → EndsOfStore directory old new written → EndsCharges
  ending_store (Ok directory) (inl e) = ending_rows directory e
  ending_store (Ok directory) (inr e) =
      ending_keeper (ChargesOne old new words written) ⊥ ⊥ (Rose old.faults new.faults) written e.0.rose e.1.0
  ending_store (Err line) e = ending_line (ChargesOne old new words written) ⊥ ⊥ (Rose old.faults new.faults) written e.0

  ending_charges : (text : Option (List ℕ)) → EndsOfCharges text old new written ⊎ WroteMemory written → EndsCharges
  ending_charges None (inl e) = ending_file (ChargesOne old new words written) ⊥ ⊥ (Rose old.faults new.faults) written e.0
  ending_charges (Some config) (inl e) = ending_store (directory_of config) e
  ending_charges text (inr memory) = ending_memory (ChargesOne old new words written) ⊥ ⊥ (Rose old.faults new.faults) written memory.0

-- ---- of `workload`

module _ (words : List (List ℕ)) (calls salt : ℕ) (spelled : IsWorkload calls salt words) (written : WriteEffect) where
  abbrev EndsWork : Type 0
  EndsWork = Ending (WorksOne words written) ⊥ ⊥ ⊥ written.status written.old_faults written.new_faults

  ending_counted : (directory : Directory) → WritesCounts directory calls salt written → EndsWork
  ending_counted directory l =
      ending_written (WorksOne words written) ⊥ ⊥ ⊥ written l.text
      (record { calls = calls; salt = salt; spelled = spelled; directory = directory; counted = l }) l.wrote

  ending_work : (directory : Directory) → WritesCounts directory calls salt written ⊎ WroteMemory written → EndsWork
  ending_work directory (inl e) = ending_counted directory e
  ending_work directory (inr memory) = ending_memory (WorksOne words written) ⊥ ⊥ ⊥ written memory.0

-- ---- of `serve`

module _ (words : List (List ℕ)) (config token : List ℕ) (turns : ℕ) (spelled : IsServe config token turns words) (old new : Environment) (written : WriteEffect) where
  abbrev ServesAtZero : Type 0
  ServesAtZero = ServesOne old new words written

  abbrev AtFour : Type 0
  AtFour = Rose old.link.arrival_faults new.link.arrival_faults

  abbrev AtSixToo : Type 0
  AtSixToo = Rose old.keeper.faults new.keeper.faults

  abbrev EndsServe : Type 0
  EndsServe = Ending ServesAtZero ⊥ AtFour AtSixToo written.status written.old_faults written.new_faults

  ending_there : (directory : Directory) → EndsServing directory token turns old new written → EndsServe
  ending_there directory (EndsServed served) =
      ending_nothing ServesAtZero ⊥ AtFour AtSixToo written
      (record { config = config; token = token; turns = turns; spelled = spelled; directory = directory; served = served }) served.wrote
  ending_there directory (EndsLinkFailed failed wrote) =
      ending_link ServesAtZero ⊥ AtFour AtSixToo written (failed_rose old new directory token turns written failed) wrote.0
  ending_there directory (EndsKeeperFailed not wrote) = ending_keeper ServesAtZero ⊥ AtFour AtSixToo written not.rose wrote.0

  ending_serving : (directory : Result Directory ℕ) → EndsOfServing directory token turns old new written → EndsServe
  ending_serving (Ok directory) e = ending_there directory e
  ending_serving (Err line) e = ending_line ServesAtZero ⊥ AtFour AtSixToo written e.0

  ending_serve : (text : Option (List ℕ)) → EndsOfServe text token turns old new written ⊎ WroteMemory written
      → EndsServe
  ending_serve None (inl e) = ending_file ServesAtZero ⊥ AtFour AtSixToo written e.0
  ending_serve (Some config) (inl e) = ending_serving (directory_of config) e
  ending_serve text (inr memory) = ending_memory ServesAtZero ⊥ AtFour AtSixToo written memory.0

-- ---- of each command

-- its meaning at 0, at 3, at 4 and at 6 may be weakened
weaker : (Zero Zero' Three Three' Four Four' Six Six' : Type 0) (written : WriteEffect) → (Zero → Zero') → (Three → Three') → (Four → Four') → (Six → Six')
    → Ending Zero Three Four Six written.status written.old_faults written.new_faults → Ending Zero' Three' Four' Six' written.status written.old_faults written.new_faults
weaker Zero Zero' Three Three' Four Four' Six Six' written z t f s e = record {
  known = e.known;
  other = e.other;
  zero = λ is. z (e.zero is);
  three = λ is. t (e.three is);
  four = λ is. f (e.four is);
  six = λ is. s (e.six is);
  rose = e.rose;
  kept = e.kept;
  fine = e.fine;
}

module _ (exposed : Option FileStore) (old new : Environment) (words : List (List ℕ)) (written : WriteEffect) where
  abbrev DoneSo : Type 0
  DoneSo = DoneAtZero old new words written

  abbrev TakingRose : Type 0
  TakingRose = Rose old.link.arrival_faults new.link.arrival_faults

  abbrev KeeperRose : Type 0
  KeeperRose = Rose old.keeper.faults new.keeper.faults

  abbrev EndsAny : Type 0
  EndsAny = Ending DoneSo (RefusesOne words) TakingRose KeeperRose written.status written.old_faults written.new_faults

  -- the arguments are a command, or memory ran out in parsing them, and it ended so
  record EndsSome : Type 0 where
    some : SpellsNone words → written.status ≡ 8
    end : EndsAny

  of_serve : ServeRun exposed old new words written → EndsSome
  of_serve v = record {
    some = λ no_one. absurd (no_one (Serve v.config v.token v.turns) v.spelled.spelled);
    end = weaker (ServesOne old new words written) DoneSo ⊥ (RefusesOne words) TakingRose TakingRose KeeperRose KeeperRose written
        (λ one. DoneServe one) (λ never. absurd never) (λ rose. rose) (λ rose. rose)
        (ending_serve words v.config v.token v.turns v.spelled.spelled old new written v.text v.ends);
  }

  of_replay : ReplayRun exposed old.keeper new.keeper words written → EndsSome
  of_replay r = record {
    some = λ no_one. absurd (no_one (Replay r.args) r.spelled.spelled);
    end = weaker (ListsAtZero r.args old.keeper new.keeper written) DoneSo ⊥ (RefusesOne words) ⊥ TakingRose KeeperRose KeeperRose written
        (λ one. DoneReplay (record { args = r.args; spelled = r.spelled.spelled; directory = one.0; events = one.1; listed = one.2 }))
        (λ never. absurd never) (λ never. absurd never) (λ rose. rose)
        (ending_config r.args old.keeper new.keeper written r.files.config r.files.script r.ends);
  }

  of_check : CheckRun exposed words written → EndsSome
  of_check c = record {
    some = λ no_one. absurd (no_one (Check c.records) c.spelled.spelled);
    end = weaker (ChecksOne words written) DoneSo (RefusesOne words) (RefusesOne words) ⊥ TakingRose ⊥ KeeperRose written
        (λ one. DoneCheck one) (λ one. one) (λ never. absurd never) (λ never. absurd never)
        (ending_records words c.records c.spelled.spelled written c.text c.ends);
  }

  of_charges : ChargesRun exposed old.keeper new.keeper words written → EndsSome
  of_charges c = record {
    some = λ no_one. absurd (no_one (Charges c.config) c.spelled.spelled);
    end = weaker (ChargesOne old.keeper new.keeper words written) DoneSo ⊥ (RefusesOne words) ⊥ TakingRose KeeperRose KeeperRose written
        (λ one. DoneCharges one) (λ never. absurd never) (λ never. absurd never) (λ rose. rose)
        (ending_charges words c.config c.spelled.spelled old.keeper new.keeper written c.text c.ends);
  }

  of_work : WorkloadRun words written → EndsSome
  of_work w = record {
    some = λ no_one. absurd (no_one (Workload w.calls w.salt) w.spelled.spelled);
    end = weaker (WorksOne words written) DoneSo ⊥ (RefusesOne words) ⊥ TakingRose ⊥ KeeperRose written
        (λ one. DoneWork one) (λ never. absurd never) (λ never. absurd never) (λ never. absurd never)
        (ending_work words w.calls w.salt w.spelled.spelled written w.directory w.ends);
  }

  of_short : WroteMemory written → EndsSome
  of_short memory = record {
    some = λ no_one. memory.0;
    end = ending_memory DoneSo (RefusesOne words) TakingRose KeeperRose written memory.0;
  }

  -- or they are none
  ends_so : ProgramRun exposed old new words written → EndsSome ⊎ UnparsedRun words written
  ends_so (RanServe v) = inl (of_serve v)
  ends_so (RanReplay r) = inl (of_replay r)
  ends_so (RanCheck c) = inl (of_check c)
  ends_so (RanCharges c) = inl (of_charges c)
  ends_so (RanWork w) = inl (of_work w)
  ends_so (RanNone refused) = inr refused
  ends_so (RanOutOfMemoryFirst memory spared no_arrivals) = inl (of_short memory)

-- ---- the statements about each status

-- another status than that of `usage`
not_usage : (n status : ℕ) → status ≡ 1 → (n ≡ 1 → ⊥) → status ≡ n → ⊥
not_usage n status one other is = other (sym is ∙ one)

pub zero_is_listed : ZeroIsListed
zero_is_listed exposed old new words written ran zero =
    elim (ends_so exposed old new words written ran) [
      | inl some ↦ some.end.zero zero
      | inr refused ↦ absurd (not_usage 0 written.status refused.usage.0 (λ w. cc) zero)
    ]

pub one_is_usage : OneIsUsage
one_is_usage exposed old new words written ran =
    elim (ends_so exposed old new words written ran) [
      | inl some ↦ (λ one. absurd (some.end.other one), λ no_one. inr (some.some no_one))
      | inr refused ↦ (λ one. refused.none, λ no_one. inl refused.usage.0)
    ]

pub three_is_refused : ThreeIsRefused
three_is_refused exposed old new words written ran three =
    elim (ends_so exposed old new words written ran) [
      | inl some ↦ some.end.three three
      | inr refused ↦ absurd (not_usage 3 written.status refused.usage.0 (λ w. cc) three)
    ]

pub four_rose : FourRose
four_rose exposed old new words written ran four =
    elim (ends_so exposed old new words written ran) [
      | inl some ↦ some.end.four four
      | inr refused ↦ absurd (not_usage 4 written.status refused.usage.0 (λ w. cc) four)
    ]

pub six_rose : SixRose
six_rose exposed old new words written ran six =
    elim (ends_so exposed old new words written ran) [
      | inl some ↦ some.end.six six
      | inr refused ↦ absurd (not_usage 6 written.status refused.usage.0 (λ w. cc) six)
    ]

pub seven_rose : SevenRose
seven_rose exposed old new words written ran seven =
    elim (ends_so exposed old new words written ran) [
      | inl some ↦ some.end.rose seven
      | inr refused ↦ absurd (not_usage 7 written.status refused.usage.0 (λ w. cc) seven)
    ]

pub zero_kept : ZeroKept
zero_kept exposed old new words written ran zero =
    elim (ends_so exposed old new words written ran) [
      | inl some ↦ some.end.kept zero
      | inr refused ↦ absurd (not_usage 0 written.status refused.usage.0 (λ w. cc) zero)
    ]

pub statuses_are_these : StatusesAreThese
statuses_are_these exposed old new words written ran =
    elim (ends_so exposed old new words written ran) [
      | inl some ↦ some.end.known
      | inr refused ↦ rw (refused.usage.0) refl
    ]

pub no_fault_no_failure : NoFaultNoFailure
no_fault_no_failure exposed old new words written ran earlier since counts files stood kept sink =
    elim (ends_so exposed old new words written ran) [
      | inl some ↦ some.end.fine (λ four. stood (some.end.four four)) (λ five. files (counts.rose five)) (λ six. kept (some.end.six six)) (λ seven. sink (some.end.rose seven))
      | inr refused ↦ rw (refused.usage.0) refl
    ]

-- ---- where memory ran out

pub eight_is_out_of_memory : EightIsOutOfMemory
eight_is_out_of_memory exposed old new words written (RanServe v) eight =
    MemoryServe (record { config = v.config; token = v.token; turns = v.turns; spelled = v.spelled.spelled; text = v.text; out_of_memory = v.out_of_memory eight })
eight_is_out_of_memory exposed old new words written (RanReplay r) eight =
    MemoryReplay (record { args = r.args; spelled = r.spelled.spelled; config = r.files.config; script = r.files.script; out_of_memory = r.out_of_memory eight })
eight_is_out_of_memory exposed old new words written (RanCheck c) eight = MemoryCheck c.records c.spelled.spelled
eight_is_out_of_memory exposed old new words written (RanCharges c) eight =
    MemoryCharges (record { config = c.config; spelled = c.spelled.spelled; text = c.text; out_of_memory = c.out_of_memory eight })
eight_is_out_of_memory exposed old new words written (RanWork w) eight = MemoryWorkload w.calls w.salt w.spelled.spelled
eight_is_out_of_memory exposed old new words written (RanNone refused) eight =
    absurd (not_usage 8 written.status refused.usage.0 (λ w. cc) eight)
eight_is_out_of_memory exposed old new words written (RanOutOfMemoryFirst memory spared no_arrivals) eight = MemoryWords spared no_arrivals

pub charges_keep : ChargesKeep
charges_keep exposed old new words written (RanServe v) config spelled =
    absurd (no_other (Serve v.config v.token v.turns) (Charges config) words v.spelled spelled refl)
charges_keep exposed old new words written (RanReplay r) config spelled =
    absurd (no_other (Replay r.args) (Charges config) words r.spelled spelled refl)
charges_keep exposed old new words written (RanCheck c) config spelled =
    absurd (no_other (Check c.records) (Charges config) words c.spelled spelled refl)
charges_keep exposed old new words written (RanCharges c) config spelled = c.held
charges_keep exposed old new words written (RanWork w) config spelled =
    absurd (no_other (Workload w.calls w.salt) (Charges config) words w.spelled spelled refl)
charges_keep exposed old new words written (RanNone refused) config spelled = absurd (refused.none (Charges config) spelled)
charges_keep exposed old new words written (RanOutOfMemoryFirst memory spared no_arrivals) config spelled = ap (λ (k : KeeperState). k.contents) spared
