-- A link whose events are known beforehand, as those of a script and of a workload are: none of its calls fails, and all of its events are received.
use Rattle.std.specs.Prelude.{◌≡◌, ◌≤◌, ℕ, List, length, Option, Some, None}
use Rattle.mmtel_directory.specs.declared.directories.Directory.{Directory}
use Rattle.mmtel_records_in_force.specs.Texts.{Texts}
use Rattle.mmtel_link.specs.LinkStates.{LinkInput}
use Rattle.mmtel_environment.specs.declared.events.Offer.{Offer}
use Rattle.mmtel_script.specs.Script.{initial_input}
use Rattle.mmtel_server.specs.States.{KeeperState}
use Rattle.mmtel_cli.specs.Listings.{OffersOfRun}
use Rattle.mmtel_cli.specs.OutOfMemory.{AbortedRun}

-- whatever state a link of this kind represents, its two counts of faults are 0
abbrev pub NeverFails : {L : Type 0} → (taking giving : L → ℕ) → Type 0
NeverFails {L} taking giving = (link : L) → (taking link ≡ 0) × (giving link ≡ 0)

-- it exposes its events, which are so many at most, and none of them was received yet
abbrev pub HasNoArrivals : (events : ℕ) → Option LinkInput → Type 0
HasNoArrivals events None = ⊥
HasNoArrivals events (Some input) = (input ≡ initial_input input.events) × (length input.events ≤ events)

-- the outputs of the server in the run of all of its events
abbrev pub OffersOfAllEvents : Option LinkInput → Directory → (token : List ℕ) → (loaded : Texts) → (old new : KeeperState) → List Offer → Type 0
OffersOfAllEvents None directory token loaded old new offers = ⊥
OffersOfAllEvents (Some input) directory token loaded old new offers = OffersOfRun directory token loaded input.events old new offers

-- or memory ran out in that run
abbrev pub AbortsAllOf : Option LinkInput → Directory → (token : List ℕ) → (loaded : Texts) → (old new : KeeperState) → Type 0
AbortsAllOf None directory token loaded old new = ⊥
AbortsAllOf (Some input) directory token loaded old new = AbortedRun directory token loaded input.events old new
