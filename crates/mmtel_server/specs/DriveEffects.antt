-- The contract of `drive`: what it received from a link and did with it.
use Rattle.std.specs.Prelude.{◌≡◌, ◌≢◌, ◌⊎◌, ◌+◌, ◌<◌, ◌≤◌, ℕ, zero, suc, Bool, true, false, ⊤, List, [], ◌∷◌, ◌++◌, drop, length, take, Option, Some, None, Result, Ok, Err}
use Rattle.std.specs.Option.{option_map}
use Rattle.mmtel_charging.specs.declared.rows.Row.{Row}
use Rattle.mmtel_directory.specs.declared.directories.Directory.{Directory}
use Rattle.mmtel_directory.specs.declared.directories.WebDirectory.{WebDirectory}
use Rattle.mmtel_http.specs.Requests.{head_window, max_body, request_of, whole_of}
use Rattle.mmtel_http.specs.declared.wholes.Whole.TheVariants.{More}
use Rattle.mmtel_records_in_force.specs.Texts.{Texts, put_each}
use Rattle.mmtel_keeper.specs.Contents.{KeeperCalls, KeeperContents}
use Rattle.mmtel_link.specs.LinkStates.{LinkCalls, LinkInput, fails_next, next_arrival, received_events, with_next_call}
use Rattle.mmtel_environment.specs.Counts.{Rose}
use Rattle.mmtel_environment.specs.declared.events.Event.{Event}
use Rattle.mmtel_environment.specs.declared.events.Event.TheVariants as event
use Rattle.mmtel_environment.specs.declared.events.Offer.{Offer}
use Rattle.mmtel_run_definitions.specs.Events.{EventRecord, events_in}
use Rattle.mmtel_run_definitions.specs.InForce.{uploads_of}
use Rattle.mmtel_run_definitions.specs.Run.{IsEnough, offers_of_run, state_after}
use Rattle.mmtel_run_definitions.specs.ShortRuns.{IsShortRun}
use Rattle.mmtel_call_theorems.specs.NoInjection.Messages.{HasNoInjection}
use Rattle.mmtel_run_theorems.specs.NoInjection.{SendsNoInjection}
use Rattle.mmtel_run_theorems.specs.Outcome.{AllCallsReachOutcome}
use Rattle.mmtel_run_theorems.specs.ChargingRecords.{ParticipantsChargedOnce}
use Rattle.mmtel_run_theorems.specs.Noninterference.{IsIndistinguishable}
use Rattle.mmtel_web_service.specs.KeeperCalls.{CountsFaults, IsKeeperResult, MayBeCalled}
use Rattle.mmtel_server.specs.Representation.{IsPrefixBetween, RanFromStart, RepresentsRun}
use Rattle.mmtel_server.specs.Charged.{ChargesRun}
use Rattle.mmtel_server_timers.specs.Handover.{HandoverFaults, HandsOver}
use Rattle.mmtel_server.specs.States.{KeeperState, LinkState, ServingState}
use Rattle.mmtel_server.specs.StepEffects.{call_of}
use Rattle.mmtel_server.specs.declared.driving.DriveFault.{DriveFault}
use Rattle.mmtel_server.specs.declared.driving.DriveFault.TheVariants.{LinkFault, NoMemory}
use Rattle.mmtel_server.specs.declared.servers.Server.{Server}

-- ---- what was received

-- where the link exposes its input, it received these further events, in this order, and no other, those of web connections with the bytes that were read
abbrev pub ReceivesMore : Option LinkInput → Option LinkInput → List Event → Type 0
ReceivesMore None None events = ⊤
ReceivesMore None (Some later) events = ⊥
ReceivesMore (Some input) None events = ⊥
ReceivesMore (Some input) (Some later) events = (later.events ≡ input.events) × (received_events later ≡ received_events input ++ events)

-- where the link exposes its input, no event is left to come
abbrev pub IsAtEnd : Option LinkInput → Type 0
IsAtEnd None = ⊤
IsAtEnd (Some input) = next_arrival input ≡ None

-- how many events came in so many turns, each of which receives one: true at the end of the link, before the turns were over; false where each turn received one;
-- a link's fault comes in place of an event, and memory may run out there, in reading the last or in processing it
abbrev pub EndsAfter : (turns : ℕ) → Option LinkInput → (count : ℕ) → Result Bool DriveFault → Type 0
EndsAfter turns input count (Ok true) = (count < turns) × IsAtEnd input
EndsAfter turns input count (Ok false) = count ≡ turns
EndsAfter turns input count (Err LinkFault) = count < turns
EndsAfter turns input count (Err NoMemory) = count ≤ turns

-- ---- the reads of web connections

-- a connection of which so many bytes were read was read to the end of its request: they are a request, or cannot become one, or there are no more of them (RFC 9112 §2.2, §6.3)
abbrev pub IsReadOut : ℕ → List ℕ → Type 0
IsReadOut count bytes = (whole_of (request_of (take count bytes)) ≢ More) ⊎ (take count bytes ≡ bytes)

-- the maximum number of bytes of one read
abbrev pub most_read : ℕ
most_read = 4096

-- no read was made that was not needed: the bytes before the last read are a request that is not complete yet
abbrev pub IsNeeded : ℕ → List ℕ → Type 0
IsNeeded count bytes = (count ≡ 0) ⊎ ((before : ℕ) × (before < count) × (count ≤ before + most_read) × (whole_of (request_of (take before bytes)) ≡ More))

-- how an event was read, of which so many bytes were, and the change of the count of delivery faults: a web connection was read to the end of its request and no further, but where
-- a read failed, at which the count rose
abbrev pub IsRead : (giving gave : ℕ) → ℕ → Event → Type 0
IsRead giving gave count (event.Datagram from at bytes) = gave ≡ giving
IsRead giving gave count (event.Web at bytes) = IsNeeded count bytes × ((IsReadOut count bytes × (gave ≡ giving)) ⊎ Rose giving gave)
IsRead giving gave count (event.Quiet at) = gave ≡ giving

-- the same for each of these events, in order
abbrev pub EachRead : (giving gave : ℕ) → List Event → (reads : List ℕ) → Type 0
EachRead giving gave events [] = gave ≡ giving
EachRead giving gave [] (count ∷ reads) = ⊥
EachRead giving gave (e ∷ events) (count ∷ reads) = (between : ℕ) × IsRead giving between count e × EachRead between gave events reads

-- the events that were still to come on a link
abbrev pub events_to_come : LinkInput → List Event
events_to_come input = drop (length input.reads) input.events

-- where the link exposes its input, each event that came was read so
abbrev pub ReadEach : Option LinkInput → Option LinkInput → (giving gave : ℕ) → Type 0
ReadEach None later giving gave = ⊤
ReadEach (Some input) None giving gave = ⊥
ReadEach (Some input) (Some later) giving gave = (reads : List ℕ) × (later.reads ≡ input.reads ++ reads) × EachRead giving gave (events_to_come input) reads

-- a count is unchanged, or it rose
abbrev pub StaysOrRises : ℕ → ℕ → Type 0
StaysOrRises before now = (now ≡ before) ⊎ Rose before now

-- each but the last, if that was not read to the end
pub record InputReadButLast (input later : LinkInput) (giving gave : ℕ) : Type 0 where
  pub reads : List ℕ
  pub last : List ℕ
  pub parts : later.reads ≡ input.reads ++ (reads ++ last)
  pub one : length last ≤ 1
  pub between : ℕ
  pub each : EachRead giving between (events_to_come input) reads
  pub rose : StaysOrRises between gave

abbrev pub ReadButLast : Option LinkInput → Option LinkInput → (giving gave : ℕ) → Type 0
ReadButLast None later giving gave = ⊤
ReadButLast (Some input) None giving gave = ⊥
ReadButLast (Some input) (Some later) giving gave = InputReadButLast input later giving gave

-- memory may have run out in reading the last
abbrev pub ReadAll : (old new : LinkState) → Result Bool DriveFault → Type 0
ReadAll old new (Ok closed) = ReadEach old.input new.input old.delivery_faults new.delivery_faults
ReadAll old new (Err LinkFault) = ReadEach old.input new.input old.delivery_faults new.delivery_faults
ReadAll old new (Err NoMemory) = ReadButLast old.input new.input old.delivery_faults new.delivery_faults

-- ---- one turn

-- at most one further event came
abbrev pub AddsOne : Option LinkInput → Option LinkInput → Type 0
AddsOne None later = ⊤
AddsOne (Some input) None = ⊥
AddsOne (Some input) (Some later) = (last : List ℕ) × (length last ≤ 1) × (later.reads ≡ input.reads ++ last)

-- the event that came, or none at the end
abbrev pub ReceivesEvent : Option LinkInput → Option LinkInput → (giving gave : ℕ) → Result (Option Event) DriveFault → Type 0
ReceivesEvent input later giving gave (Ok (Some event)) = ReceivesMore input later (event ∷ []) × ReadEach input later giving gave
ReceivesEvent input later giving gave (Ok None) = ReceivesMore input later [] × (ReadEach input later giving gave × IsAtEnd later)
ReceivesEvent input later giving gave (Err LinkFault) = ReceivesMore input later [] × ReadEach input later giving gave
ReceivesEvent input later giving gave (Err NoMemory) = (events : List Event) × (length events ≤ 1) × (ReceivesMore input later events × AddsOne input later)

-- ---- the calls of the link

-- so many further calls
abbrev pub after_calls : ℕ → LinkCalls → LinkCalls
after_calls zero calls = calls
after_calls (suc count) calls = with_next_call (after_calls count calls)

-- so many were made, where the link exposes its calls
abbrev pub IsCalledTimes : Option LinkCalls → Option LinkCalls → ℕ → Type 0
IsCalledTimes None later count = later ≡ None
IsCalledTimes (Some calls) later count = later ≡ Some (after_calls count calls)

-- at most so many
abbrev pub IsCalledWithin : Option LinkCalls → Option LinkCalls → (most : ℕ) → Type 0
IsCalledWithin calls later most = (count : ℕ) × (count ≤ most) × IsCalledTimes calls later count

-- the maximum number of reads of one connection: each read but the last returns a byte of a request that is not complete yet
abbrev pub most_reads_a_turn : ℕ
most_reads_a_turn = head_window + max_body + 1

-- and the number of calls of one turn, with that of `next`
abbrev pub most_calls_a_turn : ℕ
most_calls_a_turn = most_reads_a_turn + 1

-- ---- the effect on the server

-- whatever run the server went through, it has gone through that run continued by these events, with all outputs that are due in it
abbrev pub ContinuesRunBy : List EventRecord → Server → List Offer → Server → List Offer → Type 0
ContinuesRunBy recorded old out new now =
    (directory : Directory) (token : List ℕ) (loaded : Texts) (earlier : List EventRecord) (before : List Offer) →
    RanFromStart directory token loaded earlier before old out → IsShortRun directory token loaded (earlier ++ recorded) →
    RanFromStart directory token loaded (earlier ++ recorded) before new now

-- whatever run it serves in, it serves in that run continued by these events
abbrev pub ContinuesServingBy : List EventRecord → Server → Server → Type 0
ContinuesServingBy recorded old new =
    (directory : Directory) (token : List ℕ) (loaded : Texts) (earlier : List EventRecord) →
    RepresentsRun directory token loaded earlier old → IsShortRun directory token loaded (earlier ++ recorded) →
    RepresentsRun directory token loaded (earlier ++ recorded) new

-- nothing of what is due in the run without the last of these is missing, and nothing comes after what is due in the whole
abbrev pub OffersUpTo : (done last : List EventRecord) → Server → List Offer → List Offer → Type 0
OffersUpTo done last old out now =
    (directory : Directory) (token : List ℕ) (loaded : Texts) (earlier : List EventRecord) (before : List Offer) (fuel : ℕ) →
    RanFromStart directory token loaded earlier before old out → IsShortRun directory token loaded (earlier ++ (done ++ last)) →
    IsEnough directory token loaded fuel (earlier ++ (done ++ last)) →
    IsPrefixBetween (before ++ offers_of_run directory token loaded fuel (earlier ++ done)) now (before ++ offers_of_run directory token loaded fuel (earlier ++ (done ++ last)))

-- all of these were processed but for the last, if memory ran out in it: a prefix of its outputs was added
pub record StopsInLast (recorded : List EventRecord) (old : Server) (out now : List Offer) : Type 0 where
  pub done : List EventRecord
  pub last : List EventRecord
  pub parts : recorded ≡ done ++ last
  pub one : length last ≤ 1
  pub offered : OffersUpTo done last old out now

-- the server and the outputs are as after all of these, unless memory ran out
abbrev pub RunsAll : List EventRecord → Server → List Offer → Server → List Offer → Result Bool DriveFault → Type 0
RunsAll recorded old out new now (Ok closed) = ContinuesRunBy recorded old out new now
RunsAll recorded old out new now (Err LinkFault) = ContinuesRunBy recorded old out new now
RunsAll recorded old out new now (Err NoMemory) = StopsInLast recorded old out now

-- of the outputs of a run from its first event on, an untrusted peer observes what it would observe of any other run that is equal without its private places
abbrev pub KeepsNoninterference : List EventRecord → Server → List Offer → List Offer → Type 0
KeepsNoninterference recorded old out now =
    (directory : Directory) (token : List ℕ) (loaded : Texts) (earlier : List EventRecord) →
    RanFromStart directory token loaded earlier [] old out → IsShortRun directory token loaded (earlier ++ recorded) →
    IsIndistinguishable directory token loaded (earlier ++ recorded) now

abbrev pub KeepsAllUnlessAborted : List EventRecord → Server → List Offer → List Offer → Result Bool DriveFault → Type 0
KeepsAllUnlessAborted recorded old out now (Ok closed) = KeepsNoninterference recorded old out now
KeepsAllUnlessAborted recorded old out now (Err LinkFault) = KeepsNoninterference recorded old out now
KeepsAllUnlessAborted recorded old out now (Err NoMemory) = ⊤

-- whatever run the server serves in, each call of that run continued by these events has the outcome that the precedence of services determines from how its attempts ended, and
-- from the states in which it reached each target, within the bound on diversions and with its CDRs
abbrev pub CallsReachOutcome : List EventRecord → Server → Type 0
CallsReachOutcome recorded old =
    (directory : Directory) (token : List ℕ) (loaded : Texts) (earlier : List EventRecord) →
    RepresentsRun directory token loaded earlier old → IsShortRun directory token loaded (earlier ++ recorded) → AllCallsReachOutcome directory token loaded (earlier ++ recorded)

-- each participant of its conferences that left was charged once, to the account of the operation that added it; and all CDRs are in the order of the steps
abbrev pub ChargesParticipants : List EventRecord → Server → Type 0
ChargesParticipants recorded old =
    (directory : Directory) (token : List ℕ) (loaded : Texts) (earlier : List EventRecord) →
    RepresentsRun directory token loaded earlier old → IsShortRun directory token loaded (earlier ++ recorded) →
    ParticipantsChargedOnce directory token loaded (earlier ++ recorded)

-- and each message that is built in it has no injected header fields, and each text that is sent to a peer is that of one, under a home domain and a token of one line
-- each
abbrev pub SendsNoInjectionInRun : List EventRecord → Server → Type 0
SendsNoInjectionInRun recorded old =
    (directory : Directory) (token : List ℕ) (loaded : Texts) (earlier : List EventRecord) →
    RepresentsRun directory token loaded earlier old → IsShortRun directory token loaded (earlier ++ recorded) →
    HasNoInjection directory.home → HasNoInjection token → SendsNoInjection directory token loaded (earlier ++ recorded)

-- ---- the effect on the keeper

-- the keeper's results in one event are those of the call that the event asks for; then the CDRs that waited were handed to it, where there were any; and it was not called
-- otherwise
pub record KeeperResultOfEvent (names : WebDirectory) (one : EventRecord) (old new : KeeperState) : Type 0 where
  pub between : KeeperState
  pub result : IsKeeperResult (call_of names one.event) one.outcome one.rows old.contents between.contents old.calls between.calls
  pub waiting : List Row
  pub hands_over : HandsOver one.accepted waiting between.contents new.contents between.calls new.calls

-- the same for each event, in order; the count of its faults is defined below
abbrev pub EachKeeperResult : WebDirectory → List EventRecord → (old new : KeeperState) → Type 0
EachKeeperResult names [] old new = (new.contents ≡ old.contents) × (new.calls ≡ old.calls)
EachKeeperResult names (one ∷ recorded) old new = (between : KeeperState) × KeeperResultOfEvent names one old between × EachKeeperResult names recorded between new

abbrev pub KeeperResultsOfRun : List EventRecord → Server → (old new : KeeperState) → Type 0
KeeperResultsOfRun recorded server old new =
    (directory : Directory) (token : List ℕ) (loaded : Texts) (earlier : List EventRecord) →
    RepresentsRun directory token loaded earlier server → IsShortRun directory token loaded (earlier ++ recorded) →
    EachKeeperResult directory.names recorded old new

-- with these uploads put over the sheets, and these CDRs after the others
abbrev pub with_uploads_and_rows : Texts → List Row → KeeperContents → KeeperContents
with_uploads_and_rows uploads rows held = record { sheets = put_each uploads held.sheets; rows = held.rows ++ rows }

-- where the keeper exposes its contents, each upload that was stored was put over them, in their order, the CDRs that were filed in these events come after those that it
-- held, and nothing else changed
abbrev pub HoldsUploads : List EventRecord → Server → (old new : Option KeeperContents) → Type 0
HoldsUploads recorded server old new =
    (directory : Directory) (token : List ℕ) (loaded : Texts) (earlier : List EventRecord) →
    (fuel : ℕ) → IsEnough directory token loaded fuel (earlier ++ recorded) →
    RepresentsRun directory token loaded earlier server → IsShortRun directory token loaded (earlier ++ recorded) →
    (rows : List Row) × ((state_after directory token loaded fuel (earlier ++ recorded)).filed ≡ (state_after directory token loaded fuel earlier).filed ++ rows)
    × (new ≡ option_map (with_uploads_and_rows (uploads_of directory.names recorded) rows) old)

-- its count of faults rose in an event in which its call failed, and where it did not accept the CDRs at the end, and is unchanged otherwise
pub record CountsFaultsOfEvent (one : EventRecord) (old new : ℕ) : Type 0 where
  pub between : ℕ
  pub counted : CountsFaults one.outcome old between
  pub handover_faults : HandoverFaults one.accepted between new

abbrev pub CountsEachFault : List EventRecord → (old new : ℕ) → Type 0
CountsEachFault [] old new = new ≡ old
CountsEachFault (one ∷ recorded) old new = (between : ℕ) × CountsFaultsOfEvent one old between × CountsEachFault recorded between new

-- ---- the same where memory ran out, in the last of these events or after it

-- for the last one, if memory ran out in it: the keeper's results are those of the call that the event asks for; the CDRs that waited then may have been handed to
-- it, and it accepted none of them
abbrev pub LastKeeperResult : WebDirectory → List EventRecord → (old new : KeeperState) → Type 0
LastKeeperResult names [] old new = (new.contents ≡ old.contents) × (new.calls ≡ old.calls)
LastKeeperResult names (one ∷ []) old new =
    (asked : Option KeeperCalls) × (one.accepted ≡ false)
    × (IsKeeperResult (call_of names one.event) one.outcome one.rows old.contents new.contents old.calls asked × MayBeCalled asked new.calls)
LastKeeperResult names (one ∷ other ∷ recorded) old new = ⊥

-- and for all before it as above
pub record EachKeeperResultButLast (names : WebDirectory) (recorded : List EventRecord) (old new : KeeperState) : Type 0 where
  pub done : List EventRecord
  pub last : List EventRecord
  pub parts : recorded ≡ done ++ last
  pub between : KeeperState
  pub each : EachKeeperResult names done old between
  pub rest : LastKeeperResult names last between new

abbrev pub KeeperResultsButLast : List EventRecord → Server → (old new : KeeperState) → Type 0
KeeperResultsButLast recorded server old new =
    (directory : Directory) (token : List ℕ) (loaded : Texts) (earlier : List EventRecord) →
    RepresentsRun directory token loaded earlier server → IsShortRun directory token loaded (earlier ++ recorded) →
    EachKeeperResultButLast directory.names recorded old new

-- the count of faults rose in it where its call failed, and is unchanged otherwise
abbrev pub CountsLastFault : List EventRecord → (old new : ℕ) → Type 0
CountsLastFault [] old new = new ≡ old
CountsLastFault (one ∷ []) old new = CountsFaults one.outcome old new
CountsLastFault (one ∷ other ∷ recorded) old new = ⊥

pub record CountsFaultsButLast (recorded : List EventRecord) (old new : ℕ) : Type 0 where
  pub done : List EventRecord
  pub last : List EventRecord
  pub parts : recorded ≡ done ++ last
  pub between : ℕ
  pub each : CountsEachFault done old between
  pub rest : CountsLastFault last between new

-- ---- by the result of `drive`

abbrev pub KeeperResultsUnlessAborted : List EventRecord → Server → (old new : KeeperState) → Result Bool DriveFault → Type 0
KeeperResultsUnlessAborted recorded server old new (Ok closed) = KeeperResultsOfRun recorded server old new
KeeperResultsUnlessAborted recorded server old new (Err LinkFault) = KeeperResultsOfRun recorded server old new
KeeperResultsUnlessAborted recorded server old new (Err NoMemory) = KeeperResultsButLast recorded server old new

abbrev pub CountsAllFaults : List EventRecord → (old new : ℕ) → Result Bool DriveFault → Type 0
CountsAllFaults recorded old new (Ok closed) = CountsEachFault recorded old new
CountsAllFaults recorded old new (Err LinkFault) = CountsEachFault recorded old new
CountsAllFaults recorded old new (Err NoMemory) = CountsFaultsButLast recorded old new

-- what the keeper exposes and counts
pub record KeeperRunEffect (recorded : List EventRecord) (server : Server) (old new : KeeperState) (result : Result Bool DriveFault) : Type 0 where
  pub results : KeeperResultsUnlessAborted recorded server old new result
  pub holds : HoldsUploads recorded server old.contents new.contents
  pub counts : CountsAllFaults recorded old.faults new.faults result

-- ---- the whole

-- the effect of these events in so many turns, but for the outputs
pub record RunEffect (recorded : List EventRecord) (turns : ℕ) (old new : ServingState) (result : Result Bool DriveFault) : Type 0 where
  -- they are those that the link received, where it exposes its input,
  pub receives : ReceivesMore old.link.input new.link.input (events_in recorded)
  -- one per turn,
  pub ends : EndsAfter turns new.link.input (length recorded) result
  -- the keeper was called as they ask, and stores what they contain,
  pub keeper : KeeperRunEffect recorded old.server old.keeper new.keeper result
  -- the CDRs that it accepted in the whole run, and then those that wait, are all that were closed in it, in their order,
  pub charges : ChargesRun recorded old.server
  -- each call has its outcome, each participant that left was charged once, and what is sent has no injected header fields
  pub outcome : CallsReachOutcome recorded old.server
  pub participants : ChargesParticipants recorded old.server
  pub no_injection : SendsNoInjectionInRun recorded old.server

-- the effect on a link and on a keeper in so many turns, with the outputs before and now
pub record DriveEffect (turns : ℕ) (old new : ServingState) (out now : List Offer) (result : Result Bool DriveFault) : Type 0 where
  -- there are events that came, each with the keeper's results in it,
  pub recorded : List EventRecord
  pub effect : RunEffect recorded turns old new result
  -- the web connections among them were read to the end,
  pub read : ReadAll old.link new.link result
  -- the server processed them all,
  pub runs : RunsAll recorded old.server out new.server now result
  -- and noninterference holds
  pub noninterference : KeepsAllUnlessAborted recorded old.server out now result

-- the count of arrival faults rose at a link's fault, and is unchanged at every other result
abbrev pub HasDriveCause : {T : Type 0} → ℕ → ℕ → Result T DriveFault → Type 0
HasDriveCause before now (Ok x) = now ≡ before
HasDriveCause before now (Err LinkFault) = Rose before now
HasDriveCause before now (Err NoMemory) = now ≡ before

-- where the link exposes its calls, the last of them has the number of one that fails
abbrev pub LastFailed : Option LinkCalls → Type 0
LastFailed None = ⊤
LastFailed (Some calls) = (before : LinkCalls) × (calls ≡ with_next_call before) × (fails_next before ≡ true)

-- this holds at a link's fault
abbrev pub HasFailedByNumber : {T : Type 0} → Option LinkCalls → Result T DriveFault → Type 0
HasFailedByNumber calls (Ok x) = ⊤
HasFailedByNumber calls (Err LinkFault) = LastFailed calls
HasFailedByNumber calls (Err NoMemory) = ⊤
