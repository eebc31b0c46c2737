-- The effect of serving a link: what the program receives from it, and what is passed to it (RFC 3261 §18, RFC 9112).
use Rattle.std.specs.Prelude.{◌≡◌, ◌≢◌, ◌⊎◌, ℕ, Bool, true, false, List, length, Option, Some, None, Result, Err}
use Rattle.mmtel_directory.specs.declared.directories.Directory.{Directory}
use Rattle.mmtel_delivery.specs.Delivery.{Delivered, LostNoMore, IsBoundStill as ListensStill}
use Rattle.mmtel_records_in_force.specs.Texts.{Texts}
use Rattle.mmtel_link.specs.LinkStates.{LinkCalls, fails_next, with_next_call}
use Rattle.mmtel_environment.specs.Counts.{Rose}
use Rattle.mmtel_environment.specs.declared.events.Offer.{Offer}
use Rattle.mmtel_run_definitions.specs.Events.{EventRecord, events_in}
use Rattle.mmtel_run_definitions.specs.Run.{IsEnough, offers_of_run}
use Rattle.mmtel_run_definitions.specs.ShortRuns.{IsShortRun}
use Rattle.mmtel_run_theorems.specs.NoInjection.{SendsNoInjection}
use Rattle.mmtel_run_theorems.specs.Outcome.{AllCallsReachOutcome}
use Rattle.mmtel_run_theorems.specs.ChargingRecords.{ParticipantsChargedOnce}
use Rattle.mmtel_run_theorems.specs.SentBytes.{texts_seen}
use Rattle.mmtel_run_theorems.specs.Noninterference.{BranchesAreRead, IsIndistinguishable}
use Rattle.mmtel_serve.specs.ServeEffects.{ReadsAll, SentTo}
use Rattle.mmtel_server.specs.DriveEffects.{CountsEachFault, EachKeeperResult, EndsAfter, HasDriveCause, HasFailedByNumber, ReceivesMore, StaysOrRises}
use Rattle.mmtel_server.specs.States.{LinkState}
use Rattle.mmtel_server.specs.declared.driving.DriveFault.{DriveFault}
use Rattle.mmtel_server.specs.declared.driving.DriveFault.TheVariants.{LinkFault}
use Rattle.mmtel_trust.specs.Peers.{addr_of}
use Rattle.mmtel_types.specs.declared.addrs.Addr.{Addr}
use Rattle.mmtel_types.specs.declared.numbers.Peer.{Peer}
use Rattle.mmtel_cli.specs.Commands.{IsServe}
use Rattle.mmtel_cli.specs.KeeperUse.{IsBoundStill, IsLoaded}
use Rattle.mmtel_cli.specs.Listings.{ChargesAll, HoldsAll}
use Rattle.mmtel_cli.specs.Environment.{Environment}

-- ---- binding

-- the next call, where it exposes its calls, was to bind the addresses of the configuration, and failed or not, as the call's number determines
abbrev pub IsBindCall : Directory → Option LinkCalls → Option LinkCalls → (failed : Bool) → Type 0
IsBindCall directory None after failed = after ≡ None
IsBindCall directory (Some calls) after false =
    (after ≡ Some (record (with_next_call calls) { bound = Some (directory.sip, directory.web) })) × (fails_next calls ≡ false)
IsBindCall directory (Some calls) after true = (after ≡ Some (with_next_call calls)) × (fails_next calls ≡ true)

-- it was bound to the addresses of the configuration, for datagrams and for web connections; nothing came meanwhile, and nothing was passed to it
pub record IsLinked (directory : Directory) (old new : LinkState) : Type 0 where
  pub calls : IsBindCall directory old.calls new.calls false
  pub same_input : new.input ≡ old.input
  pub same_output : new.output ≡ old.output
  pub arrival_faults : new.arrival_faults ≡ old.arrival_faults
  pub delivery_faults : new.delivery_faults ≡ old.delivery_faults

-- it could not be bound to them: its count of arrival faults rose, and else it is unchanged
pub record IsNotLinked (directory : Directory) (old new : LinkState) : Type 0 where
  pub calls : IsBindCall directory old.calls new.calls true
  pub same_input : new.input ≡ old.input
  pub same_output : new.output ≡ old.output
  pub rose : Rose old.arrival_faults new.arrival_faults
  pub delivery_faults : new.delivery_faults ≡ old.delivery_faults

-- ---- serving

-- what was received from a link in so many turns at most, done with it over the texts that were loaded and a keeper, and passed to it
pub record ServesRun (directory : Directory) (token : List ℕ) (loaded : Texts) (turns : ℕ) (old new : Environment)
    (result : Result Bool DriveFault) : Type 0 where
  -- these are the events: where the link exposes its input it received exactly these further ones, one a turn, those of web connections with the bytes that were read;
  pub recorded : List EventRecord
  pub receives : ReceivesMore old.link.input new.link.input (events_in recorded)
  pub read : ReadsAll old.link new.link result
  pub ends : EndsAfter turns new.link.input (length recorded) result
  -- it is bound to the same addresses; its count of arrival faults rose at a fault alone, which, where it exposes its calls, is determined by the number of the last one; and an
  -- output was lost only where its count of delivery faults rose;
  pub listens : ListensStill old.link.calls new.link.calls
  pub cause : HasDriveCause old.link.arrival_faults new.link.arrival_faults result
  pub number : HasFailedByNumber new.link.calls result
  pub lost : LostNoMore old.link.output new.link.output ⊎ Rose old.link.delivery_faults new.link.delivery_faults
  pub delivery_faults : StaysOrRises old.link.delivery_faults new.link.delivery_faults
  pub counts : CountsEachFault recorded old.keeper.faults new.keeper.faults
  -- where the run is short exactly the outputs of the definitions of the run were passed to the link, each datagram for its peer's address and each reply for a web connection, in
  -- their order,
  pub exact : IsShortRun directory token loaded recorded → (fuel : ℕ) → IsEnough directory token loaded fuel recorded →
      Delivered directory.peers.known (offers_of_run directory token loaded fuel recorded) old.link.output new.link.output
  -- for what was sent to the address of an untrusted peer noninterference holds, for restricted callers (RFC 3323, RFC 3325 §7),
  pub noninterference : IsShortRun directory token loaded recorded → (offers : List Offer) × IsIndistinguishable directory token loaded recorded offers
      × ((seer : Peer) (addr : Addr) → addr_of seer directory.peers.known ≡ Some addr → SentTo addr old.link.output new.link.output (texts_seen seer offers))
  -- the keeper was called as each event asks, and for the CDRs that waited at its end, and not otherwise, with these results; it is bound to the same path, and holds
  -- what it held with the uploads that were stored and the CDRs that it accepted; and the calls and the participants of the run are charged exactly,
  pub asks : IsShortRun directory token loaded recorded → EachKeeperResult directory.names recorded old.keeper new.keeper
  pub bound : IsShortRun directory token loaded recorded → IsBoundStill old.keeper.calls new.keeper.calls
  pub held : IsShortRun directory token loaded recorded → HoldsAll directory token loaded recorded old.keeper.contents new.keeper.contents
  pub charges : IsShortRun directory token loaded recorded → ChargesAll directory token loaded recorded old.keeper.faults new.keeper.faults
  -- and each call has its outcome, each participant that left was charged once, on its account and in the order of the steps, and the messages have no injected header fields
  pub outcome : IsShortRun directory token loaded recorded → AllCallsReachOutcome directory token loaded recorded
  pub participants : IsShortRun directory token loaded recorded → ParticipantsChargedOnce directory token loaded recorded
  pub no_injection : IsShortRun directory token loaded recorded → SendsNoInjection directory token loaded recorded

-- the keeper was bound to the store of the configuration, migrated, and returned these texts, then the link was bound to its addresses, each once, and this is the effect of
-- serving it
pub record ServesConfigured (directory : Directory) (token : List ℕ) (turns : ℕ) (old new : Environment) (result : Result Bool DriveFault) : Type 0 where
  pub loaded : Texts
  pub ready : Environment
  pub opened : IsLoaded directory.store loaded old.keeper ready.keeper
  pub linked : IsLinked directory old.link ready.link
  pub run : ServesRun directory token loaded turns ready new result
  -- the branches that the server draws are read as they are written, which noninterference requires
  pub branches : BranchesAreRead directory token

-- the keeper was loaded, and the link could not be bound
pub record BindFails (directory : Directory) (old new : Environment) : Type 0 where
  pub loaded : Texts
  pub opened : IsLoaded directory.store loaded old.keeper new.keeper
  pub unlinked : IsNotLinked directory old.link new.link

-- the link could not be bound, or failed to receive the next event: what was passed to it before is as at every other end
abbrev pub LinkFailsInServe : Directory → (token : List ℕ) → (turns : ℕ) → (old new : Environment) → Type 0
LinkFailsInServe directory token turns old new = BindFails directory old new ⊎ ServesConfigured directory token turns old new (Err LinkFault)

-- ---- where it is not called

-- it is unchanged unless the arguments are a `serve`, and where the status is due to the arguments, the configuration or the keeper
pub record IsUnbound {L : Type 0} (words : List (List ℕ)) (status : ℕ) (before after : L) : Type 0 where
  pub other_command : ((config token : List ℕ) (turns : ℕ) → IsServe config token turns words → ⊥) → after ≡ before
  pub early : status ≢ 0 → status ≢ 4 → status ≢ 8 → after ≡ before
