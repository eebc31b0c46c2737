-- A text that lists the outputs of a run.
use Rattle.std.proofs.Common.{◌≡◌, ℕ, List, Result, Ok, Err, IfOk}
use Rattle.mmtel_directory.specs.declared.directories.Directory.{Directory}
use Rattle.mmtel_records_in_force.specs.Texts.{Texts}
use Rattle.mmtel_script.specs.Listing.{listing_of}
use Rattle.mmtel_environment.specs.declared.events.Event.{Event}
use Rattle.mmtel_environment.specs.declared.events.Offer.{Offer}
use Rattle.mmtel_server.specs.States.{KeeperState}
use Rattle.mmtel_cli.specs.Listings.{ListsOver, OffersOfRun}

pub listed_if : {E : Type 0} (result : Result (List ℕ) E) (directory : Directory) (token : List ℕ) (loaded : Texts) (events : List Event) (old new : KeeperState)
    (offers : List Offer) → OffersOfRun directory token loaded events old new offers → IfOk result (λ text. text ≡ listing_of offers) →
    IfOk result (ListsOver directory token loaded events old new)
listed_if (Ok text) directory token loaded events old new offers run is = record { offers = offers; run = run; listing = is }
listed_if (Err e) directory token loaded events old new offers run is = tt
