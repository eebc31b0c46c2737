-- The contract of `serve`: what it received from a link, did with it, and passed to it.
use Rattle.std.specs.Prelude.{◌≡◌, ◌≤◌, ◌⊎◌, ◌+◌, ℕ, Bool, ⊤, List, [], ◌∷◌, ◌++◌, length, map, true, Option, Some, None, Result, Ok, Err}
use Rattle.mmtel_directory.specs.declared.directories.Directory.{Directory}
use Rattle.mmtel_delivery.specs.Delivery.{Delivered, RoseBy, bytes_to, new_losses, send_of}
use Rattle.mmtel_records_in_force.specs.Texts.{Texts}
use Rattle.mmtel_link.specs.LinkStates.{LinkInput, LinkOutput}
use Rattle.mmtel_environment.specs.declared.events.Event.{Event}
use Rattle.mmtel_environment.specs.declared.events.Event.TheVariants as event
use Rattle.mmtel_environment.specs.declared.events.Offer.{Offer}
use Rattle.mmtel_run_definitions.specs.Events.{EventRecord}
use Rattle.mmtel_run_definitions.specs.Run.{IsEnough, offers_of_run}
use Rattle.mmtel_run_definitions.specs.ShortRuns.{IsShortRun}
use Rattle.mmtel_run_theorems.specs.SentBytes.{texts_seen}
use Rattle.mmtel_run_theorems.specs.Noninterference.{IsIndistinguishable}
use Rattle.mmtel_server.specs.DriveEffects.{ContinuesServingBy, IsNeeded, IsReadOut, RunEffect, events_to_come}
use Rattle.mmtel_server.specs.States.{LinkState, ServingState}
use Rattle.mmtel_server.specs.Representation.{IsPrefixBetween, RepresentsRun}
use Rattle.mmtel_server.specs.declared.driving.DriveFault.{DriveFault}
use Rattle.mmtel_server.specs.declared.driving.DriveFault.TheVariants.{LinkFault, NoMemory}
use Rattle.mmtel_server.specs.declared.servers.Server.{Server}
use Rattle.mmtel_trust.specs.Peers.{addr_of, are_apart}
use Rattle.mmtel_types.specs.declared.addrs.Addr.{Addr}
use Rattle.mmtel_types.specs.declared.numbers.Peer.{Peer}

-- ---- the reads of web connections

-- so many bytes were read of an event: no read was made of a web connection that was not needed, and it was read to the end of its request; or it was not, and is counted
abbrev pub IsReadBut : (unread : ℕ) → ℕ → Event → Type 0
IsReadBut unread count (event.Datagram from at bytes) = unread ≡ 0
IsReadBut unread count (event.Web at bytes) = IsNeeded count bytes × ((IsReadOut count bytes × (unread ≡ 0)) ⊎ (unread ≡ 1))
IsReadBut unread count (event.Quiet at) = unread ≡ 0

-- the same for each of these events, in order: all of their web connections but so many were read to the end of their request
abbrev pub EachReadBut : (unread : ℕ) → List Event → (reads : List ℕ) → Type 0
EachReadBut unread events [] = unread ≡ 0
EachReadBut unread [] (count ∷ reads) = ⊥
EachReadBut unread (e ∷ events) (count ∷ reads) = (one : ℕ) × (others : ℕ) × (unread ≡ one + others) × (IsReadBut one count e × EachReadBut others events reads)

-- so many bytes were read of each event that came: the count of delivery faults rose once for each connection that was not read to the end, and once for each output that was lost
pub record InputReads (input later : LinkInput) (lost giving gave : ℕ) : Type 0 where
  pub reads : List ℕ
  pub unread : ℕ
  pub parts : later.reads ≡ input.reads ++ reads
  pub each : EachReadBut unread (events_to_come input) reads
  pub rose : RoseBy (unread + lost) giving gave

-- this holds where the link exposes its input, for what was lost where it exposes that
abbrev pub ReadsBetween : Option LinkInput → Option LinkInput → (given now : Option LinkOutput) → (giving gave : ℕ) → Type 0
ReadsBetween None later given now giving gave = ⊤
ReadsBetween (Some input) None given now giving gave = ⊥
ReadsBetween (Some input) (Some later) given now giving gave = InputReads input later (new_losses given now) giving gave

-- for each but the last, if that was not read to the end
pub record InputReadsButLast (input later : LinkInput) (lost giving gave : ℕ) : Type 0 where
  pub reads : List ℕ
  pub last : List ℕ
  pub unread : ℕ
  pub parts : later.reads ≡ input.reads ++ (reads ++ last)
  pub one : length last ≤ 1
  pub each : EachReadBut unread (events_to_come input) reads
  pub rose : RoseBy (unread + lost) giving gave

abbrev pub ReadsButLast : Option LinkInput → Option LinkInput → (given now : Option LinkOutput) → (giving gave : ℕ) → Type 0
ReadsButLast None later given now giving gave = ⊤
ReadsButLast (Some input) None given now giving gave = ⊥
ReadsButLast (Some input) (Some later) given now giving gave = InputReadsButLast input later (new_losses given now) giving gave

-- memory may have run out in reading the last
abbrev pub ReadsAll : (old new : LinkState) → Result Bool DriveFault → Type 0
ReadsAll old new (Ok closed) = ReadsBetween old.input new.input old.output new.output old.delivery_faults new.delivery_faults
ReadsAll old new (Err LinkFault) = ReadsBetween old.input new.input old.output new.output old.delivery_faults new.delivery_faults
ReadsAll old new (Err NoMemory) = ReadsButLast old.input new.input old.output new.output old.delivery_faults new.delivery_faults

-- ---- what was passed to the link

-- whatever run the server serves in, these are the outputs that these events add to those of the run, and exactly they were passed, with the addresses of its configuration
abbrev pub DeliveredOn : List EventRecord → Server → Option LinkOutput → Option LinkOutput → Type 0
DeliveredOn recorded old given now =
    (directory : Directory) (token : List ℕ) (loaded : Texts) (earlier : List EventRecord) (fuel : ℕ) →
    RepresentsRun directory token loaded earlier old → IsShortRun directory token loaded (earlier ++ recorded) → IsEnough directory token loaded fuel (earlier ++ recorded) →
    (added : List Offer) × (offers_of_run directory token loaded fuel (earlier ++ recorded) ≡ offers_of_run directory token loaded fuel earlier ++ added) ×
    Delivered directory.peers.known added given now

-- nothing of what is due in the run without the last of these is missing, and nothing was passed that is not due in the whole
abbrev pub DeliveredUpTo : (done last : List EventRecord) → Server → Option LinkOutput → Option LinkOutput → Type 0
DeliveredUpTo done last old given now =
    (directory : Directory) (token : List ℕ) (loaded : Texts) (earlier : List EventRecord) (fuel : ℕ) →
    RepresentsRun directory token loaded earlier old → IsShortRun directory token loaded (earlier ++ (done ++ last)) →
    IsEnough directory token loaded fuel (earlier ++ (done ++ last)) →
    (added : List Offer)
    × IsPrefixBetween (offers_of_run directory token loaded fuel (earlier ++ done)) (offers_of_run directory token loaded fuel earlier ++ added)
    (offers_of_run directory token loaded fuel (earlier ++ (done ++ last)))
    × Delivered directory.peers.known added given now

-- all of these were processed and their outputs passed, but for the last, if memory ran out in it: a prefix of its outputs was passed
pub record DeliveryAborted (recorded : List EventRecord) (old : Server) (given now : Option LinkOutput) : Type 0 where
  pub done : List EventRecord
  pub last : List EventRecord
  pub parts : recorded ≡ done ++ last
  pub one : length last ≤ 1
  pub delivered : DeliveredUpTo done last old given now

-- the server processed all of these and the outputs that are due were passed to the link, unless memory ran out
abbrev pub DeliveredAllOf : List EventRecord → (old new : ServingState) → Result Bool DriveFault → Type 0
DeliveredAllOf recorded old new (Ok closed) = ContinuesServingBy recorded old.server new.server × DeliveredOn recorded old.server old.link.output new.link.output
DeliveredAllOf recorded old new (Err LinkFault) = ContinuesServingBy recorded old.server new.server × DeliveredOn recorded old.server old.link.output new.link.output
DeliveredAllOf recorded old new (Err NoMemory) = DeliveryAborted recorded old.server old.link.output new.link.output

-- ---- what was sent, by address

-- these further texts were sent to an address, in order, where the link exposes what was passed to it
abbrev pub SentTo : Addr → Option LinkOutput → Option LinkOutput → List (List ℕ) → Type 0
SentTo addr None now texts = ⊤
SentTo addr (Some given) None texts = ⊥
SentTo addr (Some given) (Some now) texts = bytes_to addr (map send_of now.offers) ≡ bytes_to addr (map send_of given.offers) ++ texts

-- in a run that the server serves in from its first event on there are outputs of which an untrusted peer observes what it would observe of any other run that is equal without its
-- private places, and what it observes of them was sent to its address, in order, and nothing else, where each peer has a number and an address of its own
abbrev pub KeepsNoninterference : List EventRecord → Server → Option LinkOutput → Option LinkOutput → Type 0
KeepsNoninterference recorded old given now =
    (directory : Directory) (token : List ℕ) (loaded : Texts) → RepresentsRun directory token loaded [] old → IsShortRun directory token loaded recorded →
    (offers : List Offer) × IsIndistinguishable directory token loaded recorded offers
    × ((seer : Peer) (addr : Addr) → are_apart directory.peers.known ≡ true → addr_of seer directory.peers.known ≡ Some addr → SentTo addr given now (texts_seen seer offers))

-- the same where memory ran out: what was sent to its address is a prefix of what it observes of them
abbrev pub KeepsNoninterferenceSoFar : List EventRecord → Server → Option LinkOutput → Option LinkOutput → Type 0
KeepsNoninterferenceSoFar recorded old given now =
    (directory : Directory) (token : List ℕ) (loaded : Texts) → RepresentsRun directory token loaded [] old → IsShortRun directory token loaded recorded →
    (offers : List Offer) × IsIndistinguishable directory token loaded recorded offers
    × ((seer : Peer) (addr : Addr) → are_apart directory.peers.known ≡ true → addr_of seer directory.peers.known ≡ Some addr →
    (front : List (List ℕ)) × (rest : List (List ℕ)) × (front ++ rest ≡ texts_seen seer offers) × SentTo addr given now front)

abbrev pub KeepsNoninterferenceOf : List EventRecord → Server → Option LinkOutput → Option LinkOutput → Result Bool DriveFault → Type 0
KeepsNoninterferenceOf recorded old given now (Ok closed) = KeepsNoninterference recorded old given now
KeepsNoninterferenceOf recorded old given now (Err LinkFault) = KeepsNoninterference recorded old given now
KeepsNoninterferenceOf recorded old given now (Err NoMemory) = KeepsNoninterferenceSoFar recorded old given now

-- ---- the whole

-- the effect on a link and on a keeper in so many turns, the server before and after, and the result
pub record ServeEffect (turns : ℕ) (old new : ServingState) (result : Result Bool DriveFault) : Type 0 where
  -- there are events that came, each with the keeper's results in it,
  pub recorded : List EventRecord
  pub effect : RunEffect recorded turns old new result
  -- the web connections among them were read to the end,
  pub read : ReadsAll old.link new.link result
  -- the server processed them all, and its outputs were passed to the link,
  pub delivered_all : DeliveredAllOf recorded old new result
  -- and noninterference holds
  pub noninterference : KeepsNoninterferenceOf recorded old.server old.link.output new.link.output result
