-- The effect of the run of a script's events, and the text of the CDRs of a keeper.
use Rattle.std.specs.Prelude.{◌≡◌, ℕ, List, [], Option}
use Rattle.std.specs.Option.{option_map}
use Rattle.mmtel_charging.specs.Rows.{text_of}
use Rattle.mmtel_charging.specs.declared.rows.Row.{Row}
use Rattle.mmtel_directory.specs.declared.directories.Directory.{Directory}
use Rattle.mmtel_records_in_force.specs.Texts.{Texts}
use Rattle.mmtel_keeper.specs.Contents.{KeeperContents}
use Rattle.mmtel_environment.specs.Counts.{Rose}
use Rattle.mmtel_environment.specs.declared.events.Event.{Event}
use Rattle.mmtel_environment.specs.declared.events.Offer.{Offer}
use Rattle.mmtel_run_definitions.specs.Events.{EventRecord, events_in}
use Rattle.mmtel_run_definitions.specs.TopTheorem.{Gives}
use Rattle.mmtel_run_definitions.specs.InForce.{uploads_of}
use Rattle.mmtel_run_definitions.specs.Run.{IsEnough, state_after}
use Rattle.mmtel_run_definitions.specs.ShortRuns.{IsShortRun}
use Rattle.mmtel_run_definitions.specs.Transitions.{RunState}
use Rattle.mmtel_run_theorems.specs.Noninterference.{IsIndistinguishable}
use Rattle.mmtel_script.specs.Listing.{listing_of}
use Rattle.mmtel_server.specs.DriveEffects.{CountsEachFault, EachKeeperResult, with_uploads_and_rows}
use Rattle.mmtel_server.specs.Charged.{ChargesRows}
use Rattle.mmtel_server.specs.States.{KeeperState}
use Rattle.mmtel_cli.specs.KeeperUse.{IsBoundStill, IsLoaded, ReadsRows}

-- the contents of a keeper after the run with these events, where it exposes them: those before, with each upload that was stored put over them, in their order, and with the
-- CDRs that it accepted after its own
abbrev pub HoldsAll : Directory → (token : List ℕ) → (loaded : Texts) → List EventRecord → (old new : Option KeeperContents) → Type 0
HoldsAll directory token loaded recorded old new =
    (fuel : ℕ) → IsEnough directory token loaded fuel recorded →
    new ≡ option_map (with_uploads_and_rows (uploads_of directory.names recorded) (state_after directory token loaded fuel recorded).filed) old

-- the CDRs in the state after these events (3GPP TS 32.260 §5)
pub record ChargesExactly (directory : Directory) (state : RunState) (recorded : List EventRecord) (old new : ℕ) : Type 0 where
  -- those that the keeper accepted, and then those that wait, are all that the calls closed and all of the participants that left, each in the order in which
  -- they were closed; and none waits after an event at whose end it accepted what was handed to it
  pub rows : ChargesRows directory state recorded
  -- so none waits where its count of faults did not rise
  pub all_accepted : (Rose old new → ⊥) → state.waiting ≡ []

-- this holds after the run with these events
abbrev pub ChargesAll : Directory → (token : List ℕ) → (loaded : Texts) → List EventRecord → (old new : ℕ) → Type 0
ChargesAll directory token loaded recorded old new =
    (fuel : ℕ) → IsEnough directory token loaded fuel recorded → ChargesExactly directory (state_after directory token loaded fuel recorded) recorded old new

-- the outputs of the server in the run of these events, over the texts that were loaded and a keeper
pub record OffersOfRun (directory : Directory) (token : List ℕ) (loaded : Texts) (events : List Event) (old new : KeeperState) (offers : List Offer) : Type 0 where
  -- these events were processed, each with the keeper's results in it, and whether it accepted the CDRs that waited at its end; its count of faults rose in
  -- those in which its call failed or it did not accept them, and is unchanged in every other.
  pub recorded : List EventRecord
  pub received : events_in recorded ≡ events
  pub counts : CountsEachFault recorded old.faults new.faults
  -- Where the run is short, the outputs are exactly those of the definitions of the run,
  pub exact : IsShortRun directory token loaded recorded → Gives directory token loaded recorded offers
  -- noninterference holds for restricted callers (RFC 3323, RFC 3325 §7),
  pub noninterference : IsShortRun directory token loaded recorded → IsIndistinguishable directory token loaded recorded offers
  -- the keeper was called as each event asks, and for the CDRs that waited at its end, and not otherwise, with these results,
  pub asks : IsShortRun directory token loaded recorded → EachKeeperResult directory.names recorded old new
  -- it is bound to the same path,
  pub bound : IsShortRun directory token loaded recorded → IsBoundStill old.calls new.calls
  -- it holds what it held before with the uploads that were stored and the CDRs that it accepted,
  pub held : IsShortRun directory token loaded recorded → HoldsAll directory token loaded recorded old.contents new.contents
  -- and the calls and the participants of the run are charged exactly
  pub charges : IsShortRun directory token loaded recorded → ChargesAll directory token loaded recorded old.faults new.faults

-- the text lists these outputs
pub record ListsOver (directory : Directory) (token : List ℕ) (loaded : Texts) (events : List Event) (old new : KeeperState) (text : List ℕ) : Type 0 where
  pub offers : List Offer
  pub run : OffersOfRun directory token loaded events old new offers
  pub listing : text ≡ listing_of offers

-- the same of a server over a keeper that was bound to the store of the configuration, migrated and loaded first
pub record Lists (directory : Directory) (token : List ℕ) (events : List Event) (old new : KeeperState) (text : List ℕ) : Type 0 where
  pub loaded : Texts
  pub opening : KeeperState
  pub opened : IsLoaded directory.store loaded old opening
  pub lists : ListsOver directory token loaded events opening new text

-- the text has the CDRs that a keeper holds, which was bound to the store first (RFC 4180, 3GPP TS 32.260 §5)
pub record ListsRows (store : List ℕ) (old new : KeeperState) (text : List ℕ) : Type 0 where
  pub rows : List Row
  pub read : ReadsRows store rows old new
  pub listing : text ≡ text_of rows
