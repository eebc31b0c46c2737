-- What had been done where memory ran out.
use Rattle.std.proofs.Common.{◌≡◌, ◌∙◌, ℕ, List, [], ◌++◌, drop, length, refl, sym, subst, ap, inl, inr, Option, Some, None, Result, Ok, Err, arith}
use Rattle.std.specs.Prelude.{OnErr}
use Rattle.std.specs.Option.{option_map}
use Rattle.mmtel_charging.specs.declared.rows.Row.{Row}
use Rattle.mmtel_directory.specs.declared.directories.Directory.{Directory}
use Rattle.mmtel_records_in_force.specs.Texts.{Texts}
use Rattle.mmtel_keeper.specs.Contents.{KeeperContents}
use Rattle.mmtel_link.specs.LinkStates.{LinkInput, read_events}
use Rattle.mmtel_environment.specs.Counts.{Rose}
use Rattle.mmtel_environment.specs.declared.events.Event.{Event}
use Rattle.mmtel_environment.specs.declared.events.Offer.{Offer}
use Rattle.mmtel_run_definitions.specs.Events.{EventRecord, events_in}
use Rattle.mmtel_run_definitions.specs.InForce.{uploads_of}
use Rattle.mmtel_run_definitions.specs.Run.{state_after}
use Rattle.mmtel_script.specs.Script.{initial_input}
use Rattle.mmtel_server.specs.Charged.{ChargesRun}
use Rattle.mmtel_server.specs.DriveEffects.{DriveEffect, EachRead, KeeperRunEffect, ReadButLast, ReceivesMore, StaysOrRises, with_uploads_and_rows}
use Rattle.mmtel_server.specs.Theorems.{EachReadOut, UnfailedAreReadOut}
use Rattle.mmtel_server.specs.States.{KeeperState, ServingState}
use Rattle.mmtel_server.specs.Representation.{RanFromStart, RepresentsRun}
use Rattle.mmtel_server.specs.declared.driving.DriveFault.TheVariants.{NoMemory}
use Rattle.mmtel_server.specs.declared.servers.Server.{Server}
use Rattle.mmtel_cli.proofs.Scripted.{both_zero, bound_but_last, came_of}
use Rattle.mmtel_cli.specs.Due as due
use Rattle.mmtel_cli.specs.Due.{Due}
use Rattle.mmtel_cli.specs.KnownEvents.{AbortsAllOf, HasNoArrivals}
use Rattle.mmtel_cli.specs.Listings.{OffersOfRun}
use Rattle.mmtel_cli.specs.OutOfMemory.{AbortedAfterRun, AbortedListing, AbortedReading, AbortedRun, Aborts, KeeperUpToLast}

-- ---- before any call

pub aborted_untouched : (keeper : KeeperState) (wanted : Due) → Aborts keeper keeper wanted
aborted_untouched keeper due.Usage = refl
aborted_untouched keeper (due.BadLine number) = refl
aborted_untouched keeper due.File = refl
aborted_untouched keeper (due.Run directory token events) = AbortedReading refl
aborted_untouched keeper (due.Rows store) = inl refl
aborted_untouched keeper (due.Work calls salt directory) = refl
aborted_untouched keeper due.ValidRecord = refl
aborted_untouched keeper (due.InvalidRecord line) = refl

-- ---- in a run

-- what the keeper holds after the beginning of a run
pub holds_all : (d : Directory) (token : List ℕ) (loaded : Texts) (recorded : List EventRecord) (held left : Option KeeperContents) (fuel : ℕ)
    → ((rows : List Row) × ((state_after d token loaded fuel recorded).filed ≡ rows) × (left ≡ option_map (with_uploads_and_rows (uploads_of d.names recorded) rows) held))
    → left ≡ option_map (with_uploads_and_rows (uploads_of d.names recorded) (state_after d token loaded fuel recorded).filed) held
holds_all d token loaded recorded held left fuel h = h.2 ∙ ap (λ (rows : List Row). option_map (with_uploads_and_rows (uploads_of d.names recorded) rows) held) (sym h.1)

pub keeper_up_to_last : (d : Directory) (token : List ℕ) (loaded : Texts) (recorded : List EventRecord) (server : Server) → RepresentsRun d token loaded [] server
    → (old new : KeeperState) → KeeperRunEffect recorded server old new (Err NoMemory) → ChargesRun recorded server → KeeperUpToLast d token loaded recorded old new
keeper_up_to_last d token loaded recorded server serves old new went charged = record {
  asks = λ short. went.results d token loaded [] serves short;
  counts = went.counts;
  bound = λ short. bound_but_last d.names recorded old new (went.results d token loaded [] serves short);
  held = λ short. λ fuel. λ enough. holds_all d token loaded recorded old.contents new.contents fuel (went.holds d token loaded [] fuel enough serves short);
  charges = λ short. λ fuel. λ enough. charged d token loaded [] fuel serves short enough;
}

-- a count that was unchanged or rose, and is 0 now, was 0 before
stayed_at_zero : (before : ℕ) → StaysOrRises before 0 → before ≡ 0
stayed_at_zero before (inl same) = sym same
stayed_at_zero before (inr rose) = absurd (omega (arith, rose))

never_rose : Rose 0 0 → ⊥
never_rose rose = omega (arith, rose)

-- no read of a script fails, so each of its connections was read to the end of its request
read_out_but : UnfailedAreReadOut → (before : ℕ) (events : List Event) (reads : List ℕ) → EachRead 0 before events reads → StaysOrRises before 0 → EachReadOut events reads
read_out_but unfailed before events reads each stands =
    unfailed 0 0 events reads (subst (λ (n : ℕ). EachRead 0 n events reads) (stayed_at_zero before stands) each) never_rose

module _ (unfailed : UnfailedAreReadOut) (d : Directory) (token : List ℕ) (loaded : Texts) (turns : ℕ) (old new : ServingState) (out now : List Offer)
    (driven : DriveEffect turns old new out now (Err NoMemory)) (went : RanFromStart d token loaded [] [] old.server out) where
  stopped_run : (input : LinkInput) (later : Option LinkInput) → ReceivesMore (Some input) later (events_in driven.recorded) → ReadButLast (Some input) later 0 0 → input ≡ initial_input input.events
      → AbortedRun d token loaded input.events old.keeper new.keeper
  stopped_run input None exposed read begins = absurd exposed
  stopped_run input (Some later) exposed read begins =
      let serves : RepresentsRun d token loaded [] old.server = record { fuel = went.fuel; enough = went.enough; represents = went.represents.represents } in
      let unread : input.reads ≡ [] = ap (λ (e : LinkInput). e.reads) begins in
      let came = came_of input later (events_in driven.recorded) unread exposed in
      let these : later.reads ≡ read.reads ++ read.last = read.parts ∙ ap (λ (l : List ℕ). l ++ (read.reads ++ read.last)) unread in
      record {
        recorded = driven.recorded;
        reads = read.reads;
        last = read.last;
        received = came ∙ ap (read_events input.events) these;
        one = read.one;
        read = read_out_but unfailed read.between input.events read.reads
            (subst (λ (l : List ℕ). EachRead 0 read.between (drop (length l) input.events) read.reads) unread read.each) read.rose;
        keeper = keeper_up_to_last d token loaded driven.recorded old.server serves old.keeper new.keeper driven.effect.keeper driven.effect.charges;
      }

  -- the same for a link of which it is known that its two counts are 0 and that none of its events was received
  stopped_known : (input later : Option LinkInput) (giving gave events : ℕ) → ReceivesMore input later (events_in driven.recorded) → ReadButLast input later giving gave
      → giving ≡ 0 → gave ≡ 0 → HasNoArrivals events input → AbortsAllOf input d token loaded old.keeper new.keeper
  stopped_known None later giving gave events exposed read stood stands fresh = absurd fresh
  stopped_known (Some input) later giving gave events exposed read stood stands fresh =
      stopped_run input later exposed (both_zero (λ m n. ReadButLast (Some input) later m n) giving gave stood stands read) fresh.0

  pub stops_all_of : (events : ℕ) → old.link.delivery_faults ≡ 0 → new.link.delivery_faults ≡ 0 → HasNoArrivals events old.link.input → AbortsAllOf old.link.input d token loaded old.keeper new.keeper
  stops_all_of events stood stands fresh =
      stopped_known old.link.input new.link.input old.link.delivery_faults new.link.delivery_faults events driven.effect.receives driven.read stood stands fresh

-- or it ran out in listing the outputs
pub aborted_after_run : {T E : Type 0} (result : Result T E) (directory : Directory) (token : List ℕ) (loaded : Texts) (events : List Event) (old new : KeeperState)
    (offers : List Offer) → OffersOfRun directory token loaded events old new offers → OnErr result (AbortedListing directory token loaded events old new)
aborted_after_run (Ok x) directory token loaded events old new offers run = tt
aborted_after_run (Err e) directory token loaded events old new offers run = AbortedAfterRun offers run
