-- The effect of serving a link, for a server that was just made.
use Rattle.std.proofs.Common.{◌≡◌, ◌⊎◌, ℕ, Bool, true, false, List, [], ◌++◌, length, sym, subst, inr, Option, Some, None, Result, Ok, Err}
use Rattle.std.specs.Prelude.{OnOk, OnErr}
use Rattle.mmtel_directory.specs.declared.directories.Directory.{Directory}
use Rattle.mmtel_delivery.specs.Delivery.{Delivered, LostNoMore, IsBoundStill as ListensStill}
use Rattle.mmtel_records_in_force.specs.Texts.{Texts}
use Rattle.mmtel_link.specs.LinkStates.{IsCountedBind, LinkCalls}
use Rattle.mmtel_environment.specs.Counts.{HasCause, Rose}
use Rattle.mmtel_environment.specs.declared.events.Offer.{Offer}
use Rattle.mmtel_run_definitions.specs.Events.{EventRecord, events_in}
use Rattle.mmtel_run_definitions.specs.Run.{IsEnough, offers_of_run}
use Rattle.mmtel_run_definitions.specs.ShortRuns.{IsShortRun}
use Rattle.mmtel_serve.specs.ServeEffects as serve
use Rattle.mmtel_serve.specs.ServeEffects.{DeliveredOn, DeliveryAborted, KeepsNoninterference, ReadsAll}
use Rattle.mmtel_server.specs.Charged.{ChargesRun}
use Rattle.mmtel_server.specs.DriveEffects.{CallsReachOutcome, ChargesParticipants, CountsEachFault, EndsAfter, HasDriveCause, HasFailedByNumber, HoldsUploads, KeeperResultsOfRun, ReceivesMore, SendsNoInjectionInRun}
use Rattle.mmtel_server.specs.DriveEffects.{StaysOrRises}
use Rattle.mmtel_server.specs.States.{LinkState, ServingState}
use Rattle.mmtel_server.specs.Representation.{IsPrefixBetween, RanFromStart, RepresentsRun}
use Rattle.mmtel_server.specs.declared.driving.DriveFault.{DriveFault}
use Rattle.mmtel_server.specs.declared.driving.DriveFault.TheVariants.{LinkFault, NoMemory}
use Rattle.mmtel_server.specs.declared.servers.Server.{Server}
use Rattle.mmtel_types.specs.declared.numbers.Failed.{Failed}
use Rattle.mmtel_cli.proofs.Scripted.{bound_still, none_waits}
use Rattle.mmtel_cli.proofs.OutOfMemory.{holds_all, keeper_up_to_last}
use Rattle.mmtel_cli.specs.ReportsDue.{CountsLinkFaults, IsServedBy, IsWellFormed}
use Rattle.mmtel_cli.specs.KeeperUse.{IsLoaded}
use Rattle.mmtel_cli.specs.Environment.{Environment}
use Rattle.mmtel_cli.specs.Serving.{IsBindCall, IsLinked, IsNotLinked, ServesConfigured, ServesRun}
use Rattle.mmtel_cli.specs.OutOfMemory.{AbortedServeServing, AbortedServing, DeliveredUpToLast}
use Rattle.mmtel_reports.specs.declared.reports.Report.{Report}
use Rattle.mmtel_reports.specs.declared.reports.Report.TheVariants.{Link, Memory, Served}

-- ---- binding

bind_call : {T : Type 0} (directory : Directory) (calls after : Option LinkCalls) (x : T) → IsCountedBind {T = T} calls after directory.sip directory.web (Ok x) →
    IsBindCall directory calls after false
bind_call directory None after x is = is
bind_call directory (Some calls) after x is = (is.0, is.3)

no_bind_call : (T : Type 0) (directory : Directory) (calls after : Option LinkCalls) (e : Failed) → IsCountedBind {T = T} calls after directory.sip directory.web (Err e) →
    IsBindCall directory calls after true
no_bind_call T directory None after e is = is
no_bind_call T directory (Some calls) after e is = (is.1, is.2)

module _ (directory : Directory) (old new : LinkState) where
  pub linked : {T : Type 0} (result : Result T Failed) → new.input ≡ old.input → new.output ≡ old.output → new.delivery_faults ≡ old.delivery_faults
      → IsCountedBind old.calls new.calls directory.sip directory.web result → HasCause old.arrival_faults new.arrival_faults result → OnOk result (IsLinked directory old new)
  linked (Ok x) received given giving bind cause = record {
    calls = bind_call directory old.calls new.calls x bind;
    same_input = received;
    same_output = given;
    arrival_faults = cause.kept;
    delivery_faults = giving;
  }
  linked (Err e) received given giving bind cause = tt

  pub not_linked : {T : Type 0} (result : Result T Failed) → new.input ≡ old.input → new.output ≡ old.output → new.delivery_faults ≡ old.delivery_faults
      → IsCountedBind old.calls new.calls directory.sip directory.web result → HasCause old.arrival_faults new.arrival_faults result → OnErr result (IsNotLinked directory old new)
  not_linked (Ok x) received given giving bind cause = tt
  not_linked (Err e) received given giving bind cause = record {
    calls = no_bind_call _ directory old.calls new.calls e bind;
    same_input = received;
    same_output = given;
    rose = cause.failed;
    delivery_faults = giving;
  }

-- ---- the run

-- what is observed beside the server
abbrev beside : ServingState → Environment
beside state = record { link = state.link; keeper = state.keeper }

module _ (directory : Directory) (token : List ℕ) (loaded : Texts) (turns : ℕ) (old new : ServingState) (serves : RepresentsRun directory token loaded [] old.server)
    (suited : IsWellFormed directory token) (listens : ListensStill old.link.calls new.link.calls) (lost : LostNoMore old.link.output new.link.output ⊎ Rose old.link.delivery_faults new.link.delivery_faults)
    (stands : StaysOrRises old.link.delivery_faults new.link.delivery_faults) where
  serves_run : (result : Result Bool DriveFault) (recorded : List EventRecord)
      → ReceivesMore old.link.input new.link.input (events_in recorded) → ReadsAll old.link new.link result → EndsAfter turns new.link.input (length recorded) result
      → HasDriveCause old.link.arrival_faults new.link.arrival_faults result → HasFailedByNumber new.link.calls result → CountsEachFault recorded old.keeper.faults new.keeper.faults
      → DeliveredOn recorded old.server old.link.output new.link.output → KeepsNoninterference recorded old.server old.link.output new.link.output
      → KeeperResultsOfRun recorded old.server old.keeper new.keeper → HoldsUploads recorded old.server old.keeper.contents new.keeper.contents
      → ChargesRun recorded old.server → CallsReachOutcome recorded old.server → ChargesParticipants recorded old.server → SendsNoInjectionInRun recorded old.server
      → ServesRun directory token loaded turns (beside old) (beside new) result
  serves_run result recorded received read ends cause number counted gave_on kept answers sheets charged outcome seats clean = record {
    recorded = recorded;
    receives = received;
    read = read;
    ends = ends;
    listens = listens;
    cause = cause;
    number = number;
    lost = lost;
    delivery_faults = stands;
    counts = counted;
    exact = λ short. λ fuel. λ enough.
        let here = gave_on directory token loaded [] fuel serves short enough in
        let same : offers_of_run directory token loaded fuel recorded ≡ here.0 = here.1 in
        subst (λ (offers : List Offer). Delivered directory.peers.known offers old.link.output new.link.output) (sym same) here.2;
    noninterference = λ short.
        let secret = kept directory token loaded serves short in
        (secret.0, secret.1, λ seer. λ addr. λ at. secret.2 seer addr suited.distinct_peers at);
    asks = λ short. answers directory token loaded [] serves short;
    bound = λ short. bound_still directory.names recorded old.keeper new.keeper (answers directory token loaded [] serves short);
    held = λ short. λ fuel. λ enough.
        holds_all directory token loaded recorded old.keeper.contents new.keeper.contents fuel (sheets directory token loaded [] fuel enough serves short);
    charges = λ short. λ fuel. λ enough.
        let rows = charged directory token loaded [] fuel serves short enough in
        record { rows = rows; all_accepted = none_waits directory token loaded fuel recorded old.keeper.faults new.keeper.faults counted rows };
    outcome = λ short. outcome directory token loaded [] serves short;
    participants = λ short. seats directory token loaded [] serves short;
    no_injection = λ short. clean directory token loaded [] serves short suited.home suited.no_injection;
  }

  -- for a run from its first event on, what was passed where memory ran out
  gave_up_to : (recorded : List EventRecord) → DeliveryAborted recorded old.server old.link.output new.link.output → IsShortRun directory token loaded recorded → (fuel : ℕ)
      → IsEnough directory token loaded fuel recorded → DeliveredUpToLast directory token loaded recorded fuel old.link.output new.link.output
  gave_up_to recorded s short fuel enough =
      let few = subst (λ (l : List EventRecord). IsShortRun directory token loaded l) s.parts short in
      let so_far = subst (λ (l : List EventRecord). IsEnough directory token loaded fuel l) s.parts enough in
      let here = s.delivered directory token loaded [] fuel serves few so_far in
      let front : IsPrefixBetween (offers_of_run directory token loaded fuel s.done) here.0 (offers_of_run directory token loaded fuel (s.done ++ s.last)) = here.1 in
      record {
        done = s.done;
        last = s.last;
        parts = s.parts;
        one = s.one;
        offers = here.0;
        front = subst (λ (l : List EventRecord). IsPrefixBetween (offers_of_run directory token loaded fuel s.done) here.0 (offers_of_run directory token loaded fuel l)) (sym s.parts) front;
        delivered = here.2;
      }

  run_closed : (closed : Bool) → serve.ServeEffect turns old new (Ok closed) → HasDriveCause {T = Bool} old.link.arrival_faults new.link.arrival_faults (Ok closed)
      → HasFailedByNumber {T = Bool} new.link.calls (Ok closed) → ServesRun directory token loaded turns (beside old) (beside new) (Ok closed)
  run_closed closed s cause number =
      serves_run (Ok closed) s.recorded s.effect.receives s.read s.effect.ends cause number s.effect.keeper.counts s.delivered_all.1 s.noninterference s.effect.keeper.results
      s.effect.keeper.holds s.effect.charges s.effect.outcome s.effect.participants s.effect.no_injection

  run_broken : serve.ServeEffect turns old new (Err LinkFault) → HasDriveCause {T = Bool} old.link.arrival_faults new.link.arrival_faults (Err LinkFault)
      → HasFailedByNumber {T = Bool} new.link.calls (Err LinkFault) → ServesRun directory token loaded turns (beside old) (beside new) (Err LinkFault)
  run_broken s cause number =
      serves_run (Err LinkFault) s.recorded s.effect.receives s.read s.effect.ends cause number s.effect.keeper.counts s.delivered_all.1 s.noninterference s.effect.keeper.results
      s.effect.keeper.holds s.effect.charges s.effect.outcome s.effect.participants s.effect.no_injection

  -- memory ran out
  run_stopped : serve.ServeEffect turns old new (Err NoMemory) → HasDriveCause {T = Bool} old.link.arrival_faults new.link.arrival_faults (Err NoMemory)
      → AbortedServing directory token loaded turns (beside old) (beside new)
  run_stopped s cause = record {
    recorded = s.recorded;
    receives = s.effect.receives;
    read = s.read;
    ends = s.effect.ends;
    listens = listens;
    arrival_faults = cause;
    lost = lost;
    delivery_faults = stands;
    delivered = λ short. λ fuel. λ enough. gave_up_to s.recorded s.delivered_all short fuel enough;
    noninterference = λ short.
        let secret = s.noninterference directory token loaded serves short in
        (secret.0, secret.1, λ seer. λ addr. λ at. secret.2 seer addr suited.distinct_peers at);
    keeper = keeper_up_to_last directory token loaded s.recorded old.server serves old.keeper new.keeper s.effect.keeper s.effect.charges;
    outcome = λ short. s.effect.outcome directory token loaded [] serves short;
    participants = λ short. s.effect.participants directory token loaded [] serves short;
    no_injection = λ short. s.effect.no_injection directory token loaded [] serves short suited.home suited.no_injection;
  }

-- ---- with the keeper and the link before it

-- what holds for a server of this configuration over a link that was bound and a keeper that was loaded
serves_link : (directory : Directory) (token : List ℕ) (loaded : Texts) (turns : ℕ) (start ready new : Environment) (result : Result Bool DriveFault)
    → IsWellFormed directory token → IsLinked directory start.link ready.link → IsLoaded directory.store loaded start.keeper ready.keeper
    → ServesRun directory token loaded turns ready new result → ServesConfigured directory token turns start new result
serves_link directory token loaded turns start ready new result suited linked opened run = record {
  loaded = loaded;
  ready = ready;
  opened = opened;
  linked = linked;
  run = run;
  branches = suited.branches;
}

module _ (turns : ℕ) (old new : ServingState) where
  -- what else holds for its link
  abbrev Beside : Type 0
  Beside = ListensStill old.link.calls new.link.calls
      × ((LostNoMore old.link.output new.link.output ⊎ Rose old.link.delivery_faults new.link.delivery_faults) × StaysOrRises old.link.delivery_faults new.link.delivery_faults)

  -- whatever server it was made of
  abbrev ServedAs : Report → Type 0
  ServedAs outcome =
      (directory : Directory) (token : List ℕ) (loaded : Texts) (start : Environment) → RepresentsRun directory token loaded [] old.server
      → IsLinked directory start.link old.link → IsLoaded directory.store loaded start.keeper old.keeper → IsServedBy directory token turns start (beside new) outcome

  pub served_closed : (closed : Bool) → serve.ServeEffect turns old new (Ok closed) → Beside → HasDriveCause {T = Bool} old.link.arrival_faults new.link.arrival_faults (Ok closed)
      → HasFailedByNumber {T = Bool} new.link.calls (Ok closed) → ServedAs Served
  served_closed closed s more cause number = λ directory. λ token. λ loaded. λ start. λ serves. λ linked. λ opened. λ suited. (
    closed,
    serves_link directory token loaded turns start (beside old) (beside new) (Ok closed) suited linked opened
        (run_closed directory token loaded turns old new serves suited more.0 more.1.0 more.1.1 closed s cause number),
  )

  pub served_broken : (e : DriveFault) → e ≡ LinkFault → serve.ServeEffect turns old new (Err e) → Beside → HasDriveCause {T = Bool} old.link.arrival_faults new.link.arrival_faults (Err e)
      → HasFailedByNumber {T = Bool} new.link.calls (Err e) → ServedAs Link
  served_broken e is served more cause number = λ directory. λ token. λ loaded. λ start. λ serves. λ linked. λ opened. λ suited.
      let s = subst (λ (f : DriveFault). serve.ServeEffect turns old new (Err f)) is served in
      let last = subst (λ (f : DriveFault). HasFailedByNumber {T = Bool} new.link.calls (Err f)) is number in
      let by = subst (λ (f : DriveFault). HasDriveCause {T = Bool} old.link.arrival_faults new.link.arrival_faults (Err f)) is cause in
      inr (serves_link directory token loaded turns start (beside old) (beside new) (Err LinkFault) suited linked opened
      (run_broken directory token loaded turns old new serves suited more.0 more.1.0 more.1.1 s by last))

  pub served_stopped : (e : DriveFault) → e ≡ NoMemory → serve.ServeEffect turns old new (Err e) → Beside → HasDriveCause {T = Bool} old.link.arrival_faults new.link.arrival_faults (Err e) → ServedAs Memory
  served_stopped e is served more cause = λ directory. λ token. λ loaded. λ start. λ serves. λ linked. λ opened. λ suited.
      let s = subst (λ (f : DriveFault). serve.ServeEffect turns old new (Err f)) is served in
      let by = subst (λ (f : DriveFault). HasDriveCause {T = Bool} old.link.arrival_faults new.link.arrival_faults (Err f)) is cause in
      AbortedServeServing (record {
        loaded = loaded;
        ready = beside old;
        opened = opened;
        linked = linked;
        serving = run_stopped directory token loaded turns old new serves suited more.0 more.1.0 more.1.1 s by;
        branches = suited.branches;
      })

-- a server that was just made serves in a run of nothing
pub just_made : (directory : Directory) (token : List ℕ) (loaded : Texts) (server : Server) → ((before : List Offer) → RanFromStart directory token loaded [] before server before)
    → RepresentsRun directory token loaded [] server
just_made directory token loaded server begins =
    let went = begins [] in
    record { fuel = went.fuel; enough = went.enough; represents = went.represents.represents }

-- the count of arrival faults, where it was unchanged before
pub counts_on : (outcome : Report) (before between now : ℕ) → between ≡ before → CountsLinkFaults outcome between now → CountsLinkFaults outcome before now
counts_on outcome before between now same counts = subst (λ (n : ℕ). CountsLinkFaults outcome n now) same counts
