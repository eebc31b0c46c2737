-- A run over a script: all of its events are received, and what was read of a web connection is the same request as all of it.
use Rattle.std.proofs.Common.{◌≡◌, ◌≤◌, ◌-◌, ◌^◌, min, ℕ, Bool, true, false, List, [], ◌∷◌, ◌++◌, length, slice_get, drop, refl, sym, ap, ◌∙◌, subst, inl, inr, Option}
use Rattle.std.proofs.Common.{Some, None, Ok, arith}
use Rattle.std.specs.Option.{option_map, option_to_list}
use Rattle.mmtel_charging.specs.declared.rows.Row.{Row}
use Rattle.mmtel_directory.specs.declared.directories.Directory.{Directory}
use Rattle.mmtel_directory.specs.declared.directories.WebDirectory.{WebDirectory}
use Rattle.mmtel_http.specs.Requests as http
use Rattle.mmtel_http.specs.Requests.{ParsedRequestView}
use Rattle.mmtel_records_in_force.specs.Texts.{Texts}
use Rattle.mmtel_keeper.specs.Contents.{KeeperCalls, KeeperContents}
use Rattle.mmtel_link.specs.LinkStates.{LinkInput, read_events, read_part}
use Rattle.mmtel_environment.specs.Counts.{Rose}
use Rattle.mmtel_environment.specs.declared.events.Event.{Event}
use Rattle.mmtel_environment.specs.declared.events.Event.TheVariants as event
use Rattle.mmtel_environment.specs.declared.events.Offer.{Offer}
use Rattle.mmtel_run_definitions.specs.Events.{EventRecord, Nothing, ParsedEvent, Received, Refused, TimedEvent, WebRequested, events_in, moment_of, parsed_event, parsed_record, timed_event_of, timed_events}
use Rattle.mmtel_run_definitions.specs.TopTheorem.{Gives}
use Rattle.mmtel_run_definitions.specs.InForce.{upload_at, uploads_of}
use Rattle.mmtel_run_definitions.specs.Run.{IsEnough, IsEnoughAfter, after_events, state_after}
use Rattle.mmtel_run_definitions.specs.ShortRuns.{IsShort, IsShortRun}
use Rattle.mmtel_run_definitions.specs.Transitions.{RunState, initial_state}
use Rattle.mmtel_run_theorems.specs.Noninterference.{OffersKeepNoninterference}
use Rattle.mmtel_script.specs.Script.{initial_input}
use Rattle.mmtel_server.specs.DriveEffects.{CountsEachFault, DriveEffect, EachKeeperResult, EachKeeperResultButLast, EachRead, EndsAfter, LastKeeperResult, ReadEach, ReceivesMore, events_to_come, with_uploads_and_rows}
use Rattle.mmtel_server.specs.Charged.{ChargesRows, accepted_last}
use Rattle.mmtel_server_timers.specs.Handover.{HandoverFaults, HandsOver}
use Rattle.mmtel_server.specs.Theorems.{EachReadOut, IsEventReadOut, ReadOutHasAllBytes, UnfailedAreReadOut}
use Rattle.mmtel_server.specs.States.{KeeperState, ServingState}
use Rattle.mmtel_server.specs.Representation.{RanFromStart, RepresentsRun}
use Rattle.mmtel_server.specs.StepEffects.{call_of}
use Rattle.mmtel_server.specs.declared.servers.Server.{Server}
use Rattle.mmtel_web_service.specs.KeeperCalls.{CountsFaults, IsKeeperResult, KeeperCall, MayBeCalled, WasCalled, loads, none, stores}
use Rattle.mmtel_types.specs.declared.numbers.Account.{Account}
use Rattle.mmtel_web.specs.Handling.{KeeperOutcomeView, failed, made, no_memory}
use Rattle.mmtel_cli.specs.KeeperUse.{IsBoundStill}
use Rattle.mmtel_cli.specs.KnownEvents.{HasNoArrivals, OffersOfAllEvents}
use Rattle.mmtel_cli.specs.Listings.{OffersOfRun}

-- ---- events of which only so many bytes were read

abbrev request_in : ParsedEvent → ParsedRequestView
request_in Nothing = http.unfinished
request_in (Refused peer source reply) = http.unfinished
request_in (Received said) = http.unfinished
request_in (WebRequested request kept rows) = request

moment_cut : (n : ℕ) (e : Event) → moment_of (read_part n e) ≡ moment_of e
moment_cut n (event.Datagram from at bytes) = refl
moment_cut n (event.Web at bytes) = refl
moment_cut n (event.Quiet at) = refl

module _ (all : ReadOutHasAllBytes) (d : Directory) where
  parsed_cut : (n : ℕ) (e : Event) (kept : KeeperOutcomeView) (rows : List Row) → IsEventReadOut n e → parsed_event d (read_part n e) kept rows ≡ parsed_event d e kept rows
  parsed_cut n e kept rows read = all d n e kept rows read

  upload_cut : (n : ℕ) (e : Event) (kept : KeeperOutcomeView) → IsEventReadOut n e → upload_at d.names (read_part n e) kept ≡ upload_at d.names e kept
  upload_cut n (event.Datagram from at bytes) kept read = refl
  upload_cut n (event.Web at bytes) kept read =
      let same = ap request_in (all d n (event.Web at bytes) kept [] read) in
      rw same refl
  upload_cut n (event.Quiet at) kept read = refl

  call_cut : (n : ℕ) (e : Event) → IsEventReadOut n e → call_of d.names (read_part n e) ≡ call_of d.names e
  call_cut n (event.Datagram from at bytes) read = refl
  call_cut n (event.Web at bytes) read =
      let same = ap request_in (all d n (event.Web at bytes) made [] read) in
      rw same refl
  call_cut n (event.Quiet at) read = refl

-- ---- the records of events, with whole events

-- with these whole events a run reads and stores the same
record WholeOf (d : Directory) (events : List Event) (recorded : List EventRecord) : Type 0 where
  whole : List EventRecord
  received : events_in whole ≡ events
  read : timed_events d whole ≡ timed_events d recorded
  uploads : uploads_of d.names whole ≡ uploads_of d.names recorded
  counted : (faults count : ℕ) → CountsEachFault recorded faults count → CountsEachFault whole faults count
  asked : (old new : KeeperState) → EachKeeperResult d.names recorded old new → EachKeeperResult d.names whole old new

whole_none : (d : Directory) → WholeOf d [] []
whole_none d = record { whole = []; received = refl; read = refl; uploads = refl; counted = λ faults. λ count. λ e. e; asked = λ old. λ new. λ e. e }

-- a notice of this moment and parsed event
abbrev timed_event_cut : (at : ℕ) → ParsedEvent → (took : Bool) → TimedEvent
timed_event_cut at said took = record { at = at; parsed = said; accepted = took }

module _ (all : ReadOutHasAllBytes) (d : Directory) where
  whole_more : (n : ℕ) (e : Event) (events : List Event) (one : EventRecord) (recorded : List EventRecord) → one.event ≡ read_part n e → IsEventReadOut n e → WholeOf d events recorded
      → WholeOf d (e ∷ events) (one ∷ recorded)
  whole_more n e events one recorded is read rest =
      let this : EventRecord = record { event = e; outcome = one.outcome; rows = one.rows; accepted = one.accepted } in
      let moment : moment_of e ≡ moment_of one.event = sym (moment_cut n e) ∙ ap moment_of (sym is) in
      let said : parsed_record d this ≡ parsed_record d one = sym (parsed_cut all d n e one.outcome one.rows read) ∙ ap (λ (x : Event). parsed_event d x one.outcome one.rows) (sym is) in
      let put : upload_at d.names e one.outcome ≡ upload_at d.names one.event one.outcome =
      sym (upload_cut all d n e one.outcome read) ∙ ap (λ (x : Event). upload_at d.names x one.outcome) (sym is) in
      let call : call_of d.names one.event ≡ call_of d.names e = ap (call_of d.names) is ∙ call_cut all d n e read in
      record {
        whole = this ∷ rest.whole;
        received = ap (λ (l : List Event). e ∷ l) rest.received;
        read =
            ap (λ (m : ℕ). timed_event_cut m (parsed_record d this) one.accepted ∷ timed_events d rest.whole) moment
            ∙ (ap (λ (x : ParsedEvent). timed_event_cut (moment_of one.event) x one.accepted ∷ timed_events d rest.whole) said ∙ ap (λ (l : List TimedEvent). timed_event_of d one ∷ l) rest.read);
        uploads =
            ap (λ (u : Option (Account × List ℕ)). option_to_list u ++ uploads_of d.names rest.whole) put
            ∙ ap (λ (l : Texts). option_to_list (upload_at d.names one.event one.outcome) ++ l) rest.uploads;
        counted = λ faults. λ count. λ e. (e.0, record { between = e.1.between; counted = e.1.counted; handover_faults = e.1.handover_faults }, rest.counted e.0 count e.2);
        asked = λ old. λ new. λ e. (
          e.0,
          record {
            between = e.1.between;
            result = subst (λ (c : KeeperCall). IsKeeperResult c one.outcome one.rows old.contents e.1.between.contents old.calls e.1.between.calls) call e.1.result;
            waiting = e.1.waiting;
            hands_over = e.1.hands_over;
          },
          rest.asked e.0 new e.2,
        );
      }

  -- all of these events came
  whole_of : (events : List Event) (reads : List ℕ) (recorded : List EventRecord) → events_in recorded ≡ read_events events reads → length events ≤ length (read_events events reads)
      → EachReadOut events reads → WholeOf d events recorded
  whole_of [] reads [] is long read = whole_none d
  whole_of [] reads (one ∷ recorded) is long read = absurd cc
  whole_of (e ∷ events) [] recorded is long read = absurd (omega (arith, long))
  whole_of (e ∷ events) (n ∷ reads) [] is long read = absurd cc
  whole_of (e ∷ events) (n ∷ reads) (one ∷ recorded) is long read =
      let first : one.event ≡ read_part n e = cc in
      let rest : events_in recorded ≡ read_events events reads = cc in
      whole_more n e events one recorded first read.0 (whole_of events reads recorded rest (omega (arith, long)) read.1)

-- ---- runs that read the same of their events

-- what holds for a run by what it reads of its events alone
abbrev IsShortBy : Directory → List ℕ → Texts → List TimedEvent → Type 0
IsShortBy d token loaded xs = (fuel : ℕ) → IsEnoughAfter d token fuel xs (initial_state loaded) → IsShort (after_events d token fuel xs (initial_state loaded))

abbrev accepted_in_events : List TimedEvent → Bool
accepted_in_events [] = false
accepted_in_events (one ∷ []) = one.accepted
accepted_in_events (one ∷ other ∷ xs) = accepted_in_events (other ∷ xs)

accepted_last_in_events : (d : Directory) (recorded : List EventRecord) → accepted_last recorded ≡ accepted_in_events (timed_events d recorded)
accepted_last_in_events d [] = refl
accepted_last_in_events d (one ∷ []) = refl
accepted_last_in_events d (one ∷ other ∷ recorded) = accepted_last_in_events d (other ∷ recorded)

module _ (d : Directory) (token : List ℕ) (loaded : Texts) (es xs : List EventRecord) (same : timed_events d es ≡ timed_events d xs) where
  enough_same : (fuel : ℕ) → IsEnough d token loaded fuel xs → IsEnough d token loaded fuel es
  enough_same fuel enough = subst (λ (l : List TimedEvent). IsEnoughAfter d token fuel l (initial_state loaded)) (sym same) enough

  world_same : (fuel : ℕ) → state_after d token loaded fuel es ≡ state_after d token loaded fuel xs
  world_same fuel = ap (λ (l : List TimedEvent). after_events d token fuel l (initial_state loaded)) same

  short_same : IsShortRun d token loaded xs → IsShortRun d token loaded es
  short_same short = subst (λ (l : List TimedEvent). IsShortBy d token loaded l) (sym same) short

  gives_same : (out : List Offer) → Gives d token loaded es out → Gives d token loaded xs out
  gives_same out given = record {
    fuel = given.fuel;
    enough = subst (λ (l : List TimedEvent). IsEnoughAfter d token given.fuel l (initial_state loaded)) same given.enough;
    exact = given.exact ∙ ap (λ (w : RunState). w.offers) (world_same given.fuel);
  }

  charged_same : (fuel : ℕ) → ChargesRows d (state_after d token loaded fuel es) es → ChargesRows d (state_after d token loaded fuel xs) xs
  charged_same fuel charged =
      let took : accepted_last xs ≡ accepted_last es = accepted_last_in_events d xs ∙ (ap accepted_in_events (sym same) ∙ sym (accepted_last_in_events d es)) in
      let here : ChargesRows d (state_after d token loaded fuel es) xs = record { all = charged.all; none = λ taken. charged.none (sym took ∙ taken) } in
      subst (λ (w : RunState). ChargesRows d w xs) (world_same fuel) here

-- ---- the count of the keeper's faults

-- it does not fall below what a count can hold
abbrev IsAtLeastCount : ℕ → ℕ → Type 0
IsAtLeastCount before now = min before (2 ^ 64 - 1) ≤ now

at_least_then : (one other last : ℕ) → IsAtLeastCount one other → IsAtLeastCount other last → IsAtLeastCount one last
at_least_then one other last a b = omega (arith, a, b)

at_least_after_call : (kept : KeeperOutcomeView) (before now : ℕ) → CountsFaults kept before now → IsAtLeastCount before now
at_least_after_call made before now is = omega (arith, is)
at_least_after_call failed before now rose = omega (arith, rose)
at_least_after_call no_memory before now is = omega (arith, is)

at_least_after_handover : (took : Bool) (before now : ℕ) → HandoverFaults took before now → IsAtLeastCount before now
at_least_after_handover true before now is = omega (arith, is)
at_least_after_handover false before now rose = omega (arith, rose)

at_least_after_events : (recorded : List EventRecord) (faults count : ℕ) → CountsEachFault recorded faults count → IsAtLeastCount faults count
at_least_after_events [] faults count e = omega (arith, e)
at_least_after_events (one ∷ recorded) faults count e =
    at_least_then faults e.1.between count (at_least_after_call one.outcome faults e.1.between e.1.counted)
    (at_least_then e.1.between e.0 count (at_least_after_handover one.accepted e.1.between e.0 e.1.handover_faults) (at_least_after_events recorded e.0 count e.2))

-- what rose in between rose
rose_between : (faults asked between count : ℕ) → IsAtLeastCount faults asked → Rose asked between → IsAtLeastCount between count → Rose faults count
rose_between faults asked between count a rose b = omega (arith, a, rose, b)

rose_behind : (faults between count : ℕ) → IsAtLeastCount faults between → Rose between count → Rose faults count
rose_behind faults between count a rose = omega (arith, a, rose)

-- where it did not rise, the CDRs were accepted
accepted_unless : (took : Bool) (faults asked between count : ℕ) → IsAtLeastCount faults asked → HandoverFaults took asked between → IsAtLeastCount between count →
    (Rose faults count → ⊥) → took ≡ true
accepted_unless true faults asked between count a handed b kept = refl
accepted_unless false faults asked between count a rose b kept = absurd (kept (rose_between faults asked between count a rose b))

accepted_where_kept : (one : EventRecord) (recorded : List EventRecord) (faults count : ℕ) → CountsEachFault (one ∷ recorded) faults count → (Rose faults count → ⊥) →
    accepted_last (one ∷ recorded) ≡ true
accepted_where_kept one [] faults count e kept =
    accepted_unless one.accepted faults e.1.between e.0 count (at_least_after_call one.outcome faults e.1.between e.1.counted) e.1.handover_faults (at_least_after_events [] e.0 count e.2) kept
accepted_where_kept one (other ∷ recorded) faults count e kept =
    let before = at_least_then faults e.1.between e.0 (at_least_after_call one.outcome faults e.1.between e.1.counted) (at_least_after_handover one.accepted e.1.between e.0 e.1.handover_faults) in
    accepted_where_kept other recorded e.0 count e.2 (λ (rose : Rose e.0 count). kept (rose_behind faults e.0 count before rose))

-- none waits then
pub none_waits : (d : Directory) (token : List ℕ) (loaded : Texts) (fuel : ℕ) (recorded : List EventRecord) (faults count : ℕ) → CountsEachFault recorded faults count
    → ChargesRows d (state_after d token loaded fuel recorded) recorded → (Rose faults count → ⊥) → (state_after d token loaded fuel recorded).waiting ≡ []
none_waits d token loaded fuel [] faults count e charged kept = refl
none_waits d token loaded fuel (one ∷ recorded) faults count e charged kept = charged.none (accepted_where_kept one recorded faults count e kept)

-- ---- the path of the keeper

bound_still_after_call : (fails : Bool) (calls since : Option KeeperCalls) → WasCalled fails calls since → IsBoundStill calls since
bound_still_after_call fails None since was = rw was refl
bound_still_after_call fails (Some calls) since was = rw was.0 refl

maybe_still : (calls since : Option KeeperCalls) → MayBeCalled calls since → IsBoundStill calls since
maybe_still calls since (inl same) = rw same refl
maybe_still calls since (inr was) = bound_still_after_call false calls since was

bound_still_after_result : (call : KeeperCall) (kept : KeeperOutcomeView) (rows : List Row) (held left : Option KeeperContents) (calls since : Option KeeperCalls) → IsKeeperResult call kept rows held left calls since
    → IsBoundStill calls since
bound_still_after_result none kept rows held left calls since a = rw a.1.1 refl
bound_still_after_result (stores account text) made rows held left calls since a = bound_still_after_call false calls since a.1
bound_still_after_result (stores account text) failed rows held left calls since a = bound_still_after_call true calls since a.1
bound_still_after_result (stores account text) no_memory rows held left calls since a = maybe_still calls since a.1
bound_still_after_result loads made rows held left calls since a = bound_still_after_call false calls since a.1.1
bound_still_after_result loads failed rows held left calls since a = bound_still_after_call true calls since a.1
bound_still_after_result loads no_memory rows held left calls since a = maybe_still calls since a.1

bound_still_after_handover : (took : Bool) (waiting : List Row) (held left : Option KeeperContents) (calls since : Option KeeperCalls) → HandsOver took waiting held left calls since →
    IsBoundStill calls since
bound_still_after_handover took [] held left calls since h = rw h.1.1 refl
bound_still_after_handover true (row ∷ rows) held left calls since h = bound_still_after_call false calls since h.1
bound_still_after_handover false (row ∷ rows) held left calls since h = bound_still_after_call true calls since h.1

-- the same calls are bound to the same
same_still : (calls since : Option KeeperCalls) → since ≡ calls → IsBoundStill calls since
same_still calls since same = ap (λ (exposed : Option KeeperCalls). option_map (λ (c : KeeperCalls). c.path) exposed) same

pub bound_still : (names : WebDirectory) (recorded : List EventRecord) (old new : KeeperState) → EachKeeperResult names recorded old new → IsBoundStill old.calls new.calls
bound_still names [] old new e = same_still old.calls new.calls e.1
bound_still names (one ∷ recorded) old new e =
    let this = e.1 in
    bound_still names recorded e.0 new e.2
    ∙ (bound_still_after_handover one.accepted this.waiting this.between.contents e.0.contents this.between.calls e.0.calls this.hands_over
    ∙ bound_still_after_result (call_of names one.event) one.outcome one.rows old.contents this.between.contents old.calls this.between.calls this.result)

last_still : (names : WebDirectory) (last : List EventRecord) (old new : KeeperState) → LastKeeperResult names last old new → IsBoundStill old.calls new.calls
last_still names [] old new e = same_still old.calls new.calls e.1
last_still names (one ∷ []) old new e =
    maybe_still e.0 new.calls e.2.1 ∙ bound_still_after_result (call_of names one.event) one.outcome one.rows old.contents new.contents old.calls e.0 e.2.0
last_still names (one ∷ other ∷ recorded) old new e = absurd e

pub bound_but_last : (names : WebDirectory) (recorded : List EventRecord) (old new : KeeperState) → EachKeeperResultButLast names recorded old new → IsBoundStill old.calls new.calls
bound_but_last names recorded old new e = last_still names e.last e.between new e.rest ∙ bound_still names e.done old e.between e.each

-- ---- the run of a script

nothing_received : (es : List Event) → read_events es [] ≡ []
nothing_received [] = refl
nothing_received (e ∷ es) = refl

-- nothing is left to come: all came
all_came : (es : List Event) (reads : List ℕ) → slice_get es (length reads) ≡ None → length es ≤ length (read_events es reads)
all_came [] reads end = omega arith
all_came (e ∷ es) [] end = absurd cc
all_came (e ∷ es) (n ∷ reads) end = let rest = all_came es reads end in omega (arith, rest)

-- what came is what was received of the script's events
pub came_of : (input later : LinkInput) (es : List Event) → input.reads ≡ [] → ReceivesMore (Some input) (Some later) es → es ≡ read_events input.events later.reads
came_of input later es unread exposed =
    let nothing : read_events input.events input.reads ≡ [] = ap (read_events input.events) unread ∙ nothing_received input.events in
    sym (ap (λ (l : List Event). l ++ es) nothing) ∙ (sym exposed.1 ∙ ap (λ (l : List Event). read_events l later.reads) exposed.0)

-- a turn for each of them is enough for all to come
long_enough : (input later : LinkInput) (turns count : ℕ) (closed : Bool) (es : List Event)
    → length input.events ≤ turns → input.reads ≡ [] → ReceivesMore (Some input) (Some later) es → count ≡ length es → EndsAfter turns (Some later) count (Ok closed)
    → length input.events ≤ length (read_events input.events later.reads)
long_enough input later turns count true es enough unread exposed counted ends =
    all_came input.events later.reads (ap (λ (l : List Event). slice_get l (length later.reads)) (sym exposed.0) ∙ ends.1)
long_enough input later turns count false es enough unread exposed counted ends =
    let all : length es ≡ length (read_events input.events later.reads) = ap length (came_of input later es unread exposed) in
    omega (arith, enough, ends, counted, all)

-- no read of a script fails, so each of its connections was read to the end of its request
read_out : UnfailedAreReadOut → (input later : LinkInput) (reads : List ℕ) → input.reads ≡ [] → later.reads ≡ input.reads ++ reads → EachRead 0 0 (events_to_come input) reads
    → EachReadOut input.events later.reads
read_out unfailed input later reads unread is read =
    let P : List ℕ → Type 0 = λ l. EachRead 0 0 (drop (length l) input.events) reads in
    let here : EachRead 0 0 input.events reads = subst P unread read in
    let these : later.reads ≡ reads = is ∙ ap (λ (l : List ℕ). l ++ reads) unread in
    subst (EachReadOut input.events) (sym these) (unfailed 0 0 input.events reads here (λ (rose : Rose 0 0). absurd (omega (arith, rose))))

count_events : (recorded : List EventRecord) → length recorded ≡ length (events_in recorded)
count_events [] = refl
count_events (one ∷ recorded) = let rest = count_events recorded in omega (arith, rest)

offers_by_run : (d : Directory) (token : List ℕ) (loaded : Texts) (recorded : List EventRecord) (server : Server) (out : List Offer)
    → RanFromStart d token loaded recorded [] server out → Gives d token loaded recorded out
offers_by_run d token loaded recorded server out went = record { fuel = went.fuel; enough = went.enough; exact = went.represents.offers }

-- what the keeper holds after the beginning of a run
abbrev Holds : Directory → List ℕ → Texts → ℕ → List EventRecord → (held left : Option KeeperContents) → Type 0
Holds d token loaded fuel recorded held left =
    (rows : List Row) × ((state_after d token loaded fuel recorded).filed ≡ rows) × (left ≡ option_map (with_uploads_and_rows (uploads_of d.names recorded) rows) held)

holds_whole : (d : Directory) (token : List ℕ) (loaded : Texts) (fuel : ℕ) (es xs : List EventRecord) → timed_events d es ≡ timed_events d xs → uploads_of d.names es ≡ uploads_of d.names xs
    → (held left : Option KeeperContents) → Holds d token loaded fuel es held left
    → left ≡ option_map (with_uploads_and_rows (uploads_of d.names xs) (state_after d token loaded fuel xs).filed) held
holds_whole d token loaded fuel es xs same uploads held left h =
    let filed : h.0 ≡ (state_after d token loaded fuel xs).filed = sym h.1 ∙ ap (λ (w : RunState). w.filed) (world_same d token loaded es xs same fuel) in
    h.2
    ∙ (ap (λ (u : Texts). option_map (with_uploads_and_rows u h.0) held) uploads ∙ ap (λ (rows : List Row). option_map (with_uploads_and_rows (uploads_of d.names xs) rows) held) filed)

pub both_zero : (p : ℕ → ℕ → Type 0) (m n : ℕ) → m ≡ 0 → n ≡ 0 → p m n → p 0 0
both_zero p m n first second x = subst (λ k. p k 0) first (subst (λ k. p m k) second x)

no_more : (a b c : ℕ) → a ≤ b → b ≤ c → a ≤ c
no_more a b c x y = omega (arith, x, y)

module _ (unfailed : UnfailedAreReadOut) (all : ReadOutHasAllBytes) (keeps : OffersKeepNoninterference) (d : Directory) (token : List ℕ) (loaded : Texts) (turns : ℕ) (old new : ServingState)
    (out now : List Offer) (closed : Bool) (driven : DriveEffect turns old new out now (Ok closed)) (went : RanFromStart d token loaded [] [] old.server out) where
  offers_run : (input : LinkInput) (later : Option LinkInput) → ReceivesMore (Some input) later (events_in driven.recorded) → EndsAfter turns later (length driven.recorded) (Ok closed)
      → ReadEach (Some input) later 0 0 → input ≡ initial_input input.events → length input.events ≤ turns → OffersOfRun d token loaded input.events old.keeper new.keeper now
  offers_run input None exposed ends each begins enough = absurd exposed
  offers_run input (Some later) exposed ends each begins enough =
      let serves : RepresentsRun d token loaded [] old.server = record { fuel = went.fuel; enough = went.enough; represents = went.represents.represents } in
      let unread : input.reads ≡ [] = ap (λ (e : LinkInput). e.reads) begins in
      let came = came_of input later (events_in driven.recorded) unread exposed in
      let long = long_enough input later turns (length driven.recorded) closed (events_in driven.recorded) enough unread exposed (count_events driven.recorded) ends in
      let read = read_out unfailed input later each.0 unread each.1 each.2 in
      let w = whole_of all d input.events later.reads driven.recorded came long read in
      let few : IsShortRun d token loaded w.whole → IsShortRun d token loaded driven.recorded = short_same d token loaded driven.recorded w.whole (sym w.read) in
      let answers : IsShortRun d token loaded w.whole
      → EachKeeperResult d.names w.whole old.keeper new.keeper = λ short. w.asked old.keeper new.keeper (driven.effect.keeper.results d token loaded [] serves (few short)) in
      let exact : IsShortRun d token loaded w.whole → Gives d token loaded w.whole now = λ short.
      gives_same d token loaded driven.recorded w.whole (sym w.read) now
      (offers_by_run d token loaded driven.recorded new.server now (driven.runs d token loaded [] [] went (few short))) in
      let count_whole : CountsEachFault w.whole old.keeper.faults new.keeper.faults = w.counted old.keeper.faults new.keeper.faults driven.effect.keeper.counts in
      record {
        recorded = w.whole;
        received = w.received;
        counts = count_whole;
        exact = exact;
        noninterference = λ short. keeps d token loaded w.whole now (exact short);
        asks = answers;
        bound = λ short. bound_still d.names w.whole old.keeper new.keeper (answers short);
        held = λ short. λ fuel. λ enough.
            holds_whole d token loaded fuel driven.recorded w.whole (sym w.read) (sym w.uploads) old.keeper.contents new.keeper.contents
            (driven.effect.keeper.holds d token loaded [] fuel (enough_same d token loaded driven.recorded w.whole (sym w.read) fuel enough) serves (few short));
        charges = λ short. λ fuel. λ enough.
            let charged = charged_same d token loaded driven.recorded w.whole (sym w.read) fuel
            (driven.effect.charges d token loaded [] fuel serves (few short) (enough_same d token loaded driven.recorded w.whole (sym w.read) fuel enough)) in
            record { rows = charged; all_accepted = none_waits d token loaded fuel w.whole old.keeper.faults new.keeper.faults count_whole charged };
      }

  -- the same of a link of which it is known that it has two counts of 0, and so many events
  offers_known : (input later : Option LinkInput) (giving gave events : ℕ) → ReceivesMore input later (events_in driven.recorded) → EndsAfter turns later (length driven.recorded) (Ok closed)
      → ReadEach input later giving gave → giving ≡ 0 → gave ≡ 0 → HasNoArrivals events input → events ≤ turns → OffersOfAllEvents input d token loaded old.keeper new.keeper now
  offers_known None later giving gave events exposed ends each stood stands fresh enough = absurd fresh
  offers_known (Some input) later giving gave events exposed ends each stood stands fresh enough =
      offers_run input later exposed ends (both_zero (λ m n. ReadEach (Some input) later m n) giving gave stood stands each) fresh.0
      (no_more (length input.events) events turns fresh.1 enough)

  pub offers_all_of : (events : ℕ) → old.link.delivery_faults ≡ 0 → new.link.delivery_faults ≡ 0 → HasNoArrivals events old.link.input → events ≤ turns
      → OffersOfAllEvents old.link.input d token loaded old.keeper new.keeper now
  offers_all_of events stood stands fresh enough =
      offers_known old.link.input new.link.input old.link.delivery_faults new.link.delivery_faults events driven.effect.receives driven.effect.ends driven.read stood stands fresh enough
