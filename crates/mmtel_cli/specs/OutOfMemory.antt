-- What had been done where memory ran out (status 8): nothing; or the keeper was bound, migrated and called for what it holds, and no more; or the link was bound, and no more;
-- or events were received, and the outputs, calls, contents and counts are those of the events before the last one, and a prefix of those of the last one.
use Rattle.std.specs.Prelude.{◌≡◌, ◌≤◌, ◌⊎◌, ℕ, List, ◌++◌, length, Option, Some, None, Result, Ok, Err}
use Rattle.mmtel_directory.specs.Directory.{directory_of}
use Rattle.mmtel_directory.specs.declared.directories.Directory.{Directory}
use Rattle.mmtel_delivery.specs.Delivery.{Delivered, LostNoMore, IsBoundStill as ListensStill}
use Rattle.mmtel_records_in_force.specs.Texts.{Texts}
use Rattle.mmtel_link.specs.LinkStates.{LinkOutput, read_events}
use Rattle.mmtel_environment.specs.Counts.{Rose}
use Rattle.mmtel_environment.specs.declared.events.Event.{Event}
use Rattle.mmtel_environment.specs.declared.events.Offer.{Offer}
use Rattle.mmtel_run_definitions.specs.Events.{EventRecord, events_in}
use Rattle.mmtel_run_definitions.specs.Run.{IsEnough, offers_of_run, state_after}
use Rattle.mmtel_run_definitions.specs.ShortRuns.{IsShortRun}
use Rattle.mmtel_run_theorems.specs.NoInjection.{SendsNoInjection}
use Rattle.mmtel_run_theorems.specs.Outcome.{AllCallsReachOutcome}
use Rattle.mmtel_run_theorems.specs.ChargingRecords.{ParticipantsChargedOnce}
use Rattle.mmtel_run_theorems.specs.SentBytes.{texts_seen}
use Rattle.mmtel_run_theorems.specs.Noninterference.{BranchesAreRead, IsIndistinguishable}
use Rattle.mmtel_serve.specs.ServeEffects.{ReadsButLast, SentTo}
use Rattle.mmtel_server.specs.Charged.{ChargesRows}
use Rattle.mmtel_server.specs.DriveEffects.{CountsFaultsButLast, EachKeeperResultButLast, ReceivesMore, StaysOrRises}
use Rattle.mmtel_server.specs.Theorems.{EachReadOut}
use Rattle.mmtel_server.specs.States.{KeeperState}
use Rattle.mmtel_server.specs.Representation.{IsPrefixBetween}
use Rattle.mmtel_trust.specs.Peers.{addr_of}
use Rattle.mmtel_types.specs.declared.addrs.Addr.{Addr}
use Rattle.mmtel_types.specs.declared.numbers.Peer.{Peer}
use Rattle.mmtel_cli.specs.Due as due
use Rattle.mmtel_cli.specs.Due.{Due}
use Rattle.mmtel_cli.specs.KeeperUse.{IsBoundStill, IsLoaded, OnlyOpened, OnlyReadRows}
use Rattle.mmtel_cli.specs.Listings.{HoldsAll, OffersOfRun}
use Rattle.mmtel_cli.specs.Environment.{Environment}
use Rattle.mmtel_cli.specs.Serving.{IsLinked}

-- ---- the keeper

-- where memory ran out in the last of these events, or after it
pub record KeeperUpToLast (directory : Directory) (token : List ℕ) (loaded : Texts) (recorded : List EventRecord) (old new : KeeperState) : Type 0 where
  -- the keeper was called as each event before the last asks, and for the CDRs that waited at its end, with these results; for the last one it was called for no more
  -- than that, and accepted none of its CDRs;
  pub asks : IsShortRun directory token loaded recorded → EachKeeperResultButLast directory.names recorded old new
  pub counts : CountsFaultsButLast recorded old.faults new.faults
  -- it is bound to the same path, and holds what it held with the uploads that were stored and the CDRs that it accepted;
  pub bound : IsShortRun directory token loaded recorded → IsBoundStill old.calls new.calls
  pub held : IsShortRun directory token loaded recorded → HoldsAll directory token loaded recorded old.contents new.contents
  -- these, and those that wait, are all that the calls and the participants of the run closed
  pub charges : IsShortRun directory token loaded recorded → (fuel : ℕ) → IsEnough directory token loaded fuel recorded →
      ChargesRows directory (state_after directory token loaded fuel recorded) recorded

-- ---- for `replay`

-- in the run of a script's events, of which so many came, those of web connections with the bytes that were read: each was read to its end but the last, if memory ran out in that
pub record AbortedRun (directory : Directory) (token : List ℕ) (loaded : Texts) (events : List Event) (old new : KeeperState) : Type 0 where
  pub recorded : List EventRecord
  pub reads : List ℕ
  pub last : List ℕ
  pub received : events_in recorded ≡ read_events events (reads ++ last)
  pub one : length last ≤ 1
  pub read : EachReadOut events reads
  pub keeper : KeeperUpToLast directory token loaded recorded old new

-- over a keeper that was loaded: before the first event, in the run, or after it, in listing the outputs
pub data AbortedListing (directory : Directory) (token : List ℕ) (loaded : Texts) (events : List Event) (old new : KeeperState) : Type 0 where
  AbortedBeforeRun : new ≡ old → AbortedListing directory token loaded events old new
  AbortedInRun : AbortedRun directory token loaded events old new → AbortedListing directory token loaded events old new
  AbortedAfterRun : (offers : List Offer) → OffersOfRun directory token loaded events old new offers → AbortedListing directory token loaded events old new

-- the keeper was bound to the store of the configuration, migrated, and returned these texts
pub record AbortedLoaded (directory : Directory) (token : List ℕ) (events : List Event) (old new : KeeperState) : Type 0 where
  pub loaded : Texts
  pub opening : KeeperState
  pub opened : IsLoaded directory.store loaded old opening
  pub over : AbortedListing directory token loaded events opening new

-- before the keeper was called, in opening it, or after that
pub data AbortedReplay (directory : Directory) (token : List ℕ) (events : List Event) (old new : KeeperState) : Type 0 where
  AbortedReading : new ≡ old → AbortedReplay directory token events old new
  AbortedOpening : OnlyOpened directory.store old new → AbortedReplay directory token events old new
  AbortedRunning : AbortedLoaded directory token events old new → AbortedReplay directory token events old new

-- ---- for `charges`

-- before the keeper was called; or it was bound and called for its CDRs, and no more
abbrev pub AbortedRows : (store : List ℕ) → (old new : KeeperState) → Type 0
AbortedRows store old new = (new ≡ old) ⊎ OnlyReadRows store old new

-- ---- by the report that is due, where the link is not called

abbrev pub Aborts : (old new : KeeperState) → Due → Type 0
Aborts old new due.Usage = new ≡ old
Aborts old new (due.BadLine number) = new ≡ old
Aborts old new due.File = new ≡ old
Aborts old new (due.Run directory token events) = AbortedReplay directory token events old new
Aborts old new (due.Rows store) = AbortedRows store old new
Aborts old new (due.Work calls salt directory) = new ≡ old
Aborts old new due.ValidRecord = new ≡ old
Aborts old new (due.InvalidRecord line) = new ≡ old

-- ---- for `serve`

-- of the outputs of the run with these events the link got all up to the last event, and a prefix of what the last one adds, where it exposes that
pub record DeliveredUpToLast (directory : Directory) (token : List ℕ) (loaded : Texts) (recorded : List EventRecord) (fuel : ℕ) (old new : Option LinkOutput) : Type 0 where
  pub done : List EventRecord
  pub last : List EventRecord
  pub parts : recorded ≡ done ++ last
  pub one : length last ≤ 1
  pub offers : List Offer
  pub front : IsPrefixBetween (offers_of_run directory token loaded fuel done) offers (offers_of_run directory token loaded fuel recorded)
  pub delivered : Delivered directory.peers.known offers old new

-- in receiving the next event, in processing an event, or in passing its outputs
pub record AbortedServing (directory : Directory) (token : List ℕ) (loaded : Texts) (turns : ℕ) (old new : Environment) : Type 0 where
  -- these events came, one a turn; those of web connections with the bytes that were read,
  pub recorded : List EventRecord
  pub receives : ReceivesMore old.link.input new.link.input (events_in recorded)
  pub read : ReadsButLast old.link.input new.link.input old.link.output new.link.output old.link.delivery_faults new.link.delivery_faults
  pub ends : length recorded ≤ turns
  -- the link is bound to the same addresses, its count of arrival faults is unchanged, and something was lost only where that of delivery faults rose;
  pub listens : ListensStill old.link.calls new.link.calls
  pub arrival_faults : new.link.arrival_faults ≡ old.link.arrival_faults
  pub lost : LostNoMore old.link.output new.link.output ⊎ Rose old.link.delivery_faults new.link.delivery_faults
  pub delivery_faults : StaysOrRises old.link.delivery_faults new.link.delivery_faults
  -- it got what is due but for the end, so what was sent to the address of an untrusted peer is a prefix of that for which noninterference holds,
  pub delivered : IsShortRun directory token loaded recorded → (fuel : ℕ) → IsEnough directory token loaded fuel recorded →
      DeliveredUpToLast directory token loaded recorded fuel old.link.output new.link.output
  pub noninterference : IsShortRun directory token loaded recorded → (offers : List Offer) × IsIndistinguishable directory token loaded recorded offers
      × ((seer : Peer) (addr : Addr) → addr_of seer directory.peers.known ≡ Some addr →
      (front : List (List ℕ)) × (rest : List (List ℕ)) × (front ++ rest ≡ texts_seen seer offers) × SentTo addr old.link.output new.link.output front)
  -- the same for the keeper; and each call has its outcome, each participant that left was charged once, and what was sent has no injected header fields
  pub keeper : KeeperUpToLast directory token loaded recorded old.keeper new.keeper
  pub outcome : IsShortRun directory token loaded recorded → AllCallsReachOutcome directory token loaded recorded
  pub participants : IsShortRun directory token loaded recorded → ParticipantsChargedOnce directory token loaded recorded
  pub no_injection : IsShortRun directory token loaded recorded → SendsNoInjection directory token loaded recorded

-- the keeper was bound to the store of the configuration, migrated, and returned these texts, and then the link was bound to its addresses
pub record AbortedLinked (directory : Directory) (token : List ℕ) (turns : ℕ) (old new : Environment) : Type 0 where
  pub loaded : Texts
  pub ready : Environment
  pub opened : IsLoaded directory.store loaded old.keeper ready.keeper
  pub linked : IsLinked directory old.link ready.link
  pub serving : AbortedServing directory token loaded turns ready new
  pub branches : BranchesAreRead directory token

-- before the keeper and the link were called; in opening the keeper; after binding the link; or in serving it
pub data AbortedServe (directory : Directory) (token : List ℕ) (turns : ℕ) (old new : Environment) : Type 0 where
  AbortedServeReading : new.keeper ≡ old.keeper → new.link ≡ old.link → AbortedServe directory token turns old new
  AbortedServeOpening : OnlyOpened directory.store old.keeper new.keeper → new.link ≡ old.link → AbortedServe directory token turns old new
  AbortedServeListening : (loaded : Texts) → IsLoaded directory.store loaded old.keeper new.keeper → IsLinked directory old.link new.link →
      AbortedServe directory token turns old new
  AbortedServeServing : AbortedLinked directory token turns old new → AbortedServe directory token turns old new

-- once the configuration was parsed
abbrev pub AbortsServing : Result Directory ℕ → (token : List ℕ) → (turns : ℕ) → (old new : Environment) → Type 0
AbortsServing (Ok directory) token turns old new = AbortedServe directory token turns old new
AbortsServing (Err line) token turns old new = (new.keeper ≡ old.keeper) × (new.link ≡ old.link)

-- once it was read, or could not be
abbrev pub AbortsOfServe : Option (List ℕ) → (token : List ℕ) → (turns : ℕ) → (old new : Environment) → Type 0
AbortsOfServe None token turns old new = (new.keeper ≡ old.keeper) × (new.link ≡ old.link)
AbortsOfServe (Some config) token turns old new = AbortsServing (directory_of config) token turns old new
