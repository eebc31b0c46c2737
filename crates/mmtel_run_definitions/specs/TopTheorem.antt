-- What is claimed of a run: what the server outputs. The files beside this one define each word of it.
use Rattle.std.specs.Prelude.{◌≡◌, ◌+◌, ℕ, List}
use Rattle.mmtel_directory.specs.declared.directories.Directory.{Directory}
use Rattle.mmtel_environment.specs.declared.events.Offer.{Offer}
use Rattle.mmtel_records_in_force.specs.Texts.{Texts}
use Rattle.mmtel_run_definitions.specs.Events.{EventRecord}
use Rattle.mmtel_run_definitions.specs.Run.{IsEnough, offers_of_run}

-- in the run with these events, over the texts that were loaded, the server outputs exactly this: every timer that is due before an event has fired, however many these are
pub record Gives (directory : Directory) (token : List ℕ) (loaded : Texts) (recorded : List EventRecord) (offers : List Offer) : Type 0 where
  pub fuel : ℕ
  pub enough : IsEnough directory token loaded fuel recorded
  pub exact : offers ≡ offers_of_run directory token loaded fuel recorded

-- there is such a list for each run,
abbrev pub GivesAlways : Type 0
GivesAlways = (directory : Directory) (token : List ℕ) (loaded : Texts) (recorded : List EventRecord) → (fuel : ℕ) × IsEnough directory token loaded fuel recorded

-- and only one: more firings than are enough change nothing
abbrev pub MoreChangesNothing : Type 0
MoreChangesNothing = (directory : Directory) (token : List ℕ) (loaded : Texts) (recorded : List EventRecord) (fuel more : ℕ) → IsEnough directory token loaded fuel recorded →
    offers_of_run directory token loaded (fuel + more) recorded ≡ offers_of_run directory token loaded fuel recorded

abbrev pub GivesOnce : Type 0
GivesOnce = (directory : Directory) (token : List ℕ) (loaded : Texts) (recorded : List EventRecord) (offers others : List Offer) →
    Gives directory token loaded recorded offers → Gives directory token loaded recorded others → offers ≡ others
