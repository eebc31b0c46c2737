-- What is received from a link, turn after turn, and how often it is called.
use Rattle.std.proofs.Common.{◌≡◌, ◌+◌, ◌≤◌, ℕ, zero, suc, Bool, false, List, [], ◌∷◌, ◌++◌, drop, length, slice_get, take, refl, sym, ap}
use Rattle.std.proofs.Common.{◌∙◌, subst, append-nil, append_assoc, length-append, Option, Some, None, Result, Ok, Err, arith, inl, inr}
use Rattle.std.specs.Prelude.{◌⊎◌}
use Rattle.std.proofs.lemmas.List.{take-take}
use Rattle.std.specs.Result.{IsErrAnd}
use Rattle.mmtel_http.specs.Requests.{request_of, whole_of}
use Rattle.mmtel_http.specs.declared.wholes.Whole.TheVariants.{More}
use Rattle.mmtel_link.specs.LinkStates.{IsCountedCall, LinkCalls, LinkInput, NextIfExposed, next_arrival, read_events, read_part, received_events, web_bytes}
use Rattle.mmtel_link.specs.declared.links.Arrival.TheVariants as arrival
use Rattle.mmtel_environment.specs.Counts.{Rose}
use Rattle.mmtel_environment.specs.declared.events.Event.{Event}
use Rattle.mmtel_environment.specs.declared.events.Event.TheVariants as event
use Rattle.mmtel_base.specs.declared.memory.NoMemory.{NoMemory}
use Rattle.mmtel_types.specs.declared.addrs.Addr.{Addr}
use Rattle.mmtel_types.specs.declared.numbers.Failed.{Failed}
use Rattle.mmtel_server.specs.DriveEffects.{AddsOne, EachRead, HasFailedByNumber, IsCalledTimes, IsCalledWithin, IsNeeded, IsRead, IsReadOut}
use Rattle.mmtel_server.specs.DriveEffects.{LastFailed, ReadButLast, ReadEach, ReceivesEvent, ReceivesMore, StaysOrRises, after_calls, events_to_come}
use Rattle.mmtel_server.specs.Turns.{IsReading, ReadsRequest, read_to}
use Rattle.mmtel_server.specs.declared.driving.DriveFault.{DriveFault}
use Rattle.mmtel_server.specs.declared.driving.DriveFault.TheVariants as fault

-- ---- one event

nothing_received : (es : List Event) → read_events es [] ≡ []
nothing_received [] = refl
nothing_received (e ∷ es) = refl

received_next : (es : List Event) (reads : List ℕ) (count : ℕ) (e : Event) → slice_get es (length reads) ≡ Some e → read_events es (reads ++ count ∷ []) ≡ read_events es reads ++ read_part count e ∷ []
received_next [] reads count e next = absurd cc
received_next (x ∷ es) [] count e next =
    let same : x ≡ e = cc in
    ap (λ (l : List Event). read_part count x ∷ l) (nothing_received es) ∙ ap (λ (z : Event). read_part count z ∷ []) same
received_next (x ∷ es) (n ∷ reads) count e next = ap (λ (l : List Event). read_part n x ∷ l) (received_next es reads count e next)

drop_next : (es : List Event) (n : ℕ) (e : Event) → slice_get es n ≡ Some e → drop n es ≡ e ∷ drop (suc n) es
drop_next [] n e next = absurd cc
drop_next (x ∷ es) zero e next = let same : x ≡ e = cc in ap (λ (y : Event). y ∷ es) same
drop_next (x ∷ es) (suc n) e next = drop_next es n e next

-- no further event
each_none : (giving gave : ℕ) (es : List Event) → gave ≡ giving → EachRead giving gave es []
each_none giving gave [] stands = stands
each_none giving gave (e ∷ es) stands = stands

module _ (input : LinkInput) (count : ℕ) (over : Bool) (e : Event) (next : next_arrival input ≡ Some e) where
  -- one more, of which so many bytes are read
  received_one : (later : Option LinkInput) → later ≡ Some (read_to input count over) → ReceivesMore (Some input) later (read_part count e ∷ [])
  received_one later is = subst (λ (l : Option LinkInput). ReceivesMore (Some input) l (read_part count e ∷ [])) (sym is) (refl, received_next input.events input.reads count e next)

  read_one : (later : Option LinkInput) (giving gave : ℕ) → later ≡ Some (read_to input count over) → IsRead giving gave count e → ReadEach (Some input) later giving gave
  read_one later giving gave is read =
      let each : EachRead giving gave (e ∷ drop (suc (length input.reads)) input.events) (count ∷ []) = (gave, read, each_none gave gave (drop (suc (length input.reads)) input.events) refl) in
      let there : EachRead giving gave (events_to_come input) (count ∷ []) =
      subst (λ (es : List Event). EachRead giving gave es (count ∷ [])) (sym (drop_next input.events (length input.reads) e next)) each in
      subst (λ (l : Option LinkInput). ReadEach (Some input) l giving gave) (sym is) (count ∷ [], refl, there)

pub receives_nothing : (input : Option LinkInput) → ReceivesMore input input []
receives_nothing None = tt
receives_nothing (Some input) = (refl, sym (append-nil (received_events input)))

pub read_nothing : (input : Option LinkInput) (giving gave : ℕ) → gave ≡ giving → ReadEach input input giving gave
read_nothing None giving gave stands = tt
read_nothing (Some input) giving gave stands = ([], sym (append-nil input.reads), each_none giving gave (events_to_come input) stands)

receives_unexposed : (later : Option LinkInput) (es : List Event) → later ≡ None → ReceivesMore None later es
receives_unexposed later es e = subst (λ (l : Option LinkInput). ReceivesMore None l es) (sym e) tt

pub came_datagram : (input later : Option LinkInput) (giving : ℕ) (from : Addr) (at : ℕ) (bytes : List ℕ) → NextIfExposed input later (Ok (arrival.Datagram from at bytes))
    → ReceivesMore input later (event.Datagram from at bytes ∷ []) × ReadEach input later giving giving
came_datagram None later giving from at bytes h = (receives_unexposed later (event.Datagram from at bytes ∷ []) h, tt)
came_datagram (Some input) later giving from at bytes h = (
  received_one input 0 false (event.Datagram from at bytes) h.0 later h.1,
  read_one input 0 false (event.Datagram from at bytes) h.0 later giving giving h.1 refl,
)

pub came_quiet : (input later : Option LinkInput) (giving at : ℕ) → NextIfExposed input later (Ok (arrival.Quiet at)) → ReceivesMore input later (event.Quiet at ∷ []) × ReadEach input later giving giving
came_quiet None later giving at h = (receives_unexposed later (event.Quiet at ∷ []) h, tt)
came_quiet (Some input) later giving at h = (
  received_one input 0 false (event.Quiet at) h.0 later h.1,
  read_one input 0 false (event.Quiet at) h.0 later giving giving h.1 refl,
)

-- what was needed for the bytes that were read was needed for all
needed_of : (whole bytes : List ℕ) → take (length bytes) whole ≡ bytes → IsNeeded (length bytes) bytes → IsNeeded (length bytes) whole
needed_of whole bytes these (inl none) = inl none
needed_of whole bytes these (inr last) =
    let same : take last.0 bytes ≡ take last.0 whole =
    ap (λ (l : List ℕ). take last.0 l) (sym these) ∙ take-take last.0 (length bytes) whole (omega (arith, last.1)) in
    inr (last.0, last.1, last.2, subst (λ (l : List ℕ). whole_of (request_of l) ≡ More) same last.3)

-- a web connection came, of which these bytes were read
web_read : (input : LinkInput) (later : Option LinkInput) (giving gave at : ℕ) (whole bytes : List ℕ) → next_arrival input ≡ Some (event.Web at whole) → ReadsRequest (Some input) later giving gave (Ok bytes)
    → IsNeeded (length bytes) bytes → ReceivesMore (Some input) later (event.Web at bytes ∷ []) × ReadEach (Some input) later giving gave
web_read input later giving gave at whole bytes next read needed =
    let all : web_bytes (next_arrival input) ≡ whole = ap web_bytes next in
    let these : take (length bytes) whole ≡ bytes = subst (λ (l : List ℕ). take (length bytes) l ≡ bytes) all read.2 in
    let out = subst (λ (l : List ℕ). (IsReadOut (length bytes) l × (gave ≡ giving)) ⊎ Rose giving gave) all read.3 in (
      subst (λ (l : List ℕ). ReceivesMore (Some input) later (event.Web at l ∷ [])) these (received_one input (length bytes) read.0 (event.Web at whole) next later read.1),
      read_one input (length bytes) read.0 (event.Web at whole) next later giving gave read.1 (needed_of whole bytes these needed, out),
    )

pub came_web : (input mid later : Option LinkInput) (giving gave at : ℕ) (bytes : List ℕ) → NextIfExposed input mid (Ok (arrival.Web at)) → (IsReading input mid [] → ReadsRequest input later giving gave (Ok bytes))
    → IsNeeded (length bytes) bytes → ReceivesMore input later (event.Web at bytes ∷ []) × ReadEach input later giving gave
came_web None mid later giving gave at bytes h read needed = (receives_unexposed later (event.Web at bytes ∷ []) (read h), tt)
came_web (Some input) mid later giving gave at bytes h read needed = web_read input later giving gave at h.0.0 bytes h.0.1 (read (h.1, refl)) needed

-- memory ran out in reading it
one_lost : (input : LinkInput) (later : Option LinkInput) (e : Event) → next_arrival input ≡ Some e → (over : Bool) × (count : ℕ) × (later ≡ Some (read_to input count over))
    → (events : List Event) × (length events ≤ 1) × (ReceivesMore (Some input) later events × AddsOne (Some input) later)
one_lost input later e next read =
    let one : length (read.1 ∷ []) ≤ 1 = omega arith in
    let adds : AddsOne (Some input) later = subst (λ (l : Option LinkInput). AddsOne (Some input) l) (sym read.2) (read.1 ∷ [], one, refl) in
    (read_part read.1 e ∷ [], omega arith, (received_one input read.1 read.0 e next later read.2, adds))

pub lost_web : (input mid later : Option LinkInput) (giving gave at : ℕ) (e : NoMemory) → NextIfExposed input mid (Ok (arrival.Web at)) → (IsReading input mid [] → ReadsRequest input later giving gave (Err e))
    → (events : List Event) × (length events ≤ 1) × (ReceivesMore input later events × AddsOne input later)
lost_web None mid later giving gave at e h read = ([], omega arith, (receives_unexposed later [] (read h), tt))
lost_web (Some input) mid later giving gave at e h read = one_lost input later (event.Web at h.0.0) h.0.1 (read (h.1, refl))

pub lost_receives : (input later : Option LinkInput) (giving gave : ℕ) (r : Result (Option Event) DriveFault) → IsErrAnd r (λ e. e ≡ fault.NoMemory)
    → (events : List Event) × (length events ≤ 1) × (ReceivesMore input later events × AddsOne input later) → ReceivesEvent input later giving gave r
lost_receives input later giving gave (Ok x) is lost = absurd is
lost_receives input later giving gave (Err fault.LinkFault) is lost = absurd cc
lost_receives input later giving gave (Err fault.NoMemory) is lost = lost

-- ---- one turn after another

pub receives_then : (input mid later : Option LinkInput) (xs ys : List Event) → ReceivesMore input mid xs → ReceivesMore mid later ys → ReceivesMore input later (xs ++ ys)
receives_then None None None xs ys h k = tt
receives_then None None (Some later) xs ys h k = absurd k
receives_then None (Some mid) later xs ys h k = absurd h
receives_then (Some input) None later xs ys h k = absurd h
receives_then (Some input) (Some mid) None xs ys h k = absurd k
receives_then (Some input) (Some mid) (Some later) xs ys h k = (
  k.0 ∙ h.0,
  k.1 ∙ (ap (λ (l : List Event). l ++ ys) h.1 ∙ append_assoc (received_events input) xs ys),
)

pub receives_still : (input mid later : Option LinkInput) (xs : List Event) → ReceivesMore input mid xs → ReceivesMore mid later [] → ReceivesMore input later xs
receives_still input mid later xs h k = subst (λ (l : List Event). ReceivesMore input later l) (append-nil xs) (receives_then input mid later xs [] h k)

each_then : (a b c : ℕ) (es : List Event) (reads more : List ℕ) → EachRead a b es reads → EachRead b c (drop (length reads) es) more → EachRead a c es (reads ++ more)
each_then a b c [] [] more first second = subst (λ (n : ℕ). EachRead n c [] more) first second
each_then a b c [] (n ∷ reads) more first second = absurd first
each_then a b c (e ∷ es) [] more first second = subst (λ (n : ℕ). EachRead n c (e ∷ es) more) first second
each_then a b c (e ∷ es) (n ∷ reads) more first second = (first.0, first.1, each_then first.0 b c es reads more first.2 second)

drop_none : (n : ℕ) → let none : List Event = [] in drop n none ≡ none
drop_none zero = refl
drop_none (suc n) = refl

drop_both : (es : List Event) (n m : ℕ) → drop m (drop n es) ≡ drop (n + m) es
drop_both es zero m = let same : m ≡ zero + m = omega arith in ap (λ (k : ℕ). drop k es) same
drop_both [] (suc n) m = drop_none m ∙ sym (drop_none (suc n + m))
drop_both (e ∷ es) (suc n) m = let same : suc (n + m) ≡ suc n + m = omega arith in drop_both es n m ∙ ap (λ (k : ℕ). drop k (e ∷ es)) same

-- what is still to come after so many events more
pub to_come_then : (input mid : LinkInput) (reads : List ℕ) → mid.events ≡ input.events → mid.reads ≡ input.reads ++ reads → events_to_come mid ≡ drop (length reads) (events_to_come input)
to_come_then input mid reads same more =
    let long : length mid.reads ≡ length input.reads + length reads = ap (λ (l : List ℕ). length l) more ∙ length-append input.reads reads in
    ap (λ (es : List Event). drop (length mid.reads) es) same
    ∙ (ap (λ (n : ℕ). drop n input.events) long
    ∙ sym (drop_both input.events (length input.reads) (length reads)))

pub read_then : (input mid later : Option LinkInput) (a b c : ℕ) (xs : List Event) → ReceivesMore input mid xs → ReadEach input mid a b → ReadEach mid later b c → ReadEach input later a c
read_then None mid later a b c xs h first second = tt
read_then (Some input) None later a b c xs h first second = absurd first
read_then (Some input) (Some mid) None a b c xs h first second = absurd second
read_then (Some input) (Some mid) (Some later) a b c xs h first second =
    let there : EachRead b c (drop (length first.0) (events_to_come input)) second.0 =
    subst (λ (es : List Event). EachRead b c es second.0) (to_come_then input mid first.0 h.0 first.1) second.2 in (
      first.0 ++ second.0,
      second.1 ∙ (ap (λ (l : List ℕ). l ++ second.0) first.1 ∙ append_assoc input.reads first.0 second.0),
      each_then a b c (events_to_come input) first.0 second.0 first.2 there,
    )

-- the last of them was not read to its end
pub read_lost_last : (input mid later : Option LinkInput) (a b c : ℕ) → ReadEach input mid a b → AddsOne mid later → StaysOrRises b c → ReadButLast input later a c
read_lost_last None mid later a b c first second stands = tt
read_lost_last (Some input) None later a b c first second stands = absurd first
read_lost_last (Some input) (Some mid) None a b c first second stands = absurd second
read_lost_last (Some input) (Some mid) (Some later) a b c first second stands = record {
  reads = first.0;
  last = second.0;
  parts = second.2 ∙ (ap (λ (l : List ℕ). l ++ second.0) first.1 ∙ append_assoc input.reads first.0 second.0);
  one = second.1;
  between = b;
  each = first.2;
  rose = stands;
}

pub read_all_last : (input later : Option LinkInput) (a b : ℕ) → ReadEach input later a b → ReadButLast input later a b
read_all_last None later a b first = tt
read_all_last (Some input) None a b first = absurd first
read_all_last (Some input) (Some later) a b first = record {
  reads = first.0;
  last = [];
  parts = first.1 ∙ ap (λ (l : List ℕ). input.reads ++ l) (sym (append-nil first.0));
  one = omega arith;
  between = b;
  each = first.2;
  rose = inl refl;
}

-- ---- counts

pub rise_then : (a b c : ℕ) → StaysOrRises a b → StaysOrRises b c → StaysOrRises a c
rise_then a b c (inl e) (inl f) = inl (f ∙ e)
rise_then a b c (inl e) (inr f) = inr (subst (λ (n : ℕ). Rose n c) e f)
rise_then a b c (inr e) (inl f) = inr (subst (λ (n : ℕ). Rose a n) (sym f) e)
rise_then a b c (inr e) (inr f) = inr (omega (arith, e, f))

-- ---- the calls of the link

pub no_call : (calls : Option LinkCalls) → IsCalledTimes calls calls 0
no_call None = refl
no_call (Some calls) = refl

pub one_call : {T : Type 0} (calls later : Option LinkCalls) (result : Result T Failed) → IsCountedCall calls later result → IsCalledTimes calls later 1
one_call None later result made = made
one_call (Some calls) later result made = made.0

called_both : (n m : ℕ) (calls : LinkCalls) → after_calls m (after_calls n calls) ≡ after_calls (n + m) calls
called_both n zero calls = let same : n ≡ n + zero = omega arith in ap (λ (k : ℕ). after_calls k calls) same
called_both n (suc m) calls =
    let same : suc (n + m) ≡ n + suc m = omega arith in
    ap (λ (c : LinkCalls). after_calls 1 c) (called_both n m calls) ∙ ap (λ (k : ℕ). after_calls k calls) same

pub calls_then : (calls mid later : Option LinkCalls) (n m : ℕ) → IsCalledTimes calls mid n → IsCalledTimes mid later m → IsCalledTimes calls later (n + m)
calls_then None mid later n m first second = subst (λ (o : Option LinkCalls). IsCalledTimes o later m) first second
calls_then (Some calls) mid later n m first second =
    subst (λ (o : Option LinkCalls). IsCalledTimes o later m) first second ∙ ap (λ (c : LinkCalls). Some c) (called_both n m calls)

-- at most so many, and then at most so many
pub within_then : (calls mid later : Option LinkCalls) (n m : ℕ) → IsCalledWithin calls mid n → IsCalledWithin mid later m → IsCalledWithin calls later (n + m)
within_then calls mid later n m first second =
    let less = first.1 in let few = second.1 in
    (first.0 + second.0, omega (arith, less, few), calls_then calls mid later first.0 second.0 first.2 second.2)

pub within_more : (calls later : Option LinkCalls) (n m : ℕ) → n ≤ m → IsCalledWithin calls later n → IsCalledWithin calls later m
within_more calls later n m less few = let here = few.1 in (few.0, omega (arith, less, here), few.2)

pub one_within : {T : Type 0} (calls later : Option LinkCalls) (result : Result T Failed) → IsCountedCall calls later result → IsCalledWithin calls later 1
one_within calls later result made = (1, omega arith, one_call calls later result made)

pub none_within : (calls : Option LinkCalls) (n : ℕ) → IsCalledWithin calls calls n
none_within calls n = (0, omega arith, no_call calls)

-- the last call failed by its number
pub last_failed : (T : Type 0) (calls later : Option LinkCalls) (e : Failed) → let failed : Result T Failed = Err e in IsCountedCall calls later failed → LastFailed later
last_failed T None later e made = subst LastFailed (sym made) tt
last_failed T (Some calls) later e made = subst LastFailed (sym made.0) (calls, refl, made.1)

-- nothing is stated of it where memory runs out
pub none_failed : {T : Type 0} (calls : Option LinkCalls) (r : Result T DriveFault) → IsErrAnd r (λ e. e ≡ fault.NoMemory) → HasFailedByNumber calls r
none_failed calls (Ok x) is = tt
none_failed calls (Err fault.LinkFault) is = absurd cc
none_failed calls (Err fault.NoMemory) is = tt
