-- A run with one more event: how many firings are enough for it, and that a server which went through the shorter one has gone through it.
use Rattle.std.proofs.Common.{◌≡◌, ℕ, max, Bool, List, [], ◌∷◌, ◌++◌, false, refl, sym, ap, ◌∙◌, subst, append-nil, None}
use Rattle.mmtel_directory.specs.declared.directories.Directory.{Directory}
use Rattle.mmtel_charging.specs.declared.rows.Row.{Row}
use Rattle.mmtel_records_in_force.specs.Texts.{Texts}
use Rattle.mmtel_environment.specs.declared.events.Offer.{Offer}
use Rattle.mmtel_run_definitions.specs.Events.{EventRecord, ParsedEvent, TimedEvent, moment_of, parsed_record, timed_event_of, timed_events}
use Rattle.mmtel_run_definitions.specs.TopTheorem.{GivesAlways}
use Rattle.mmtel_run_definitions.specs.Run.{IsEnough, IsEnoughAfter, IsSettled, after_due_deadlines, after_event_in_order, after_events, clock_at, first_due_deadline}
use Rattle.mmtel_run_definitions.specs.ShortRuns.{IsShort, IsShortRun}
use Rattle.mmtel_run_definitions.specs.Transitions.{RunState, after_event, after_event_end, after_parsed_event, initial_state, with_next_step}
use Rattle.mmtel_server.specs.Follows.{AddsOfferPrefix, AddsOfferPrefixWhere, Follows, FollowsWhere, IsSettledBefore, IsSettledBy, NumbersNeverFall, state_after_event}
use Rattle.mmtel_server_timers.specs.Handover.{accepted_rows, remaining_rows}
use Rattle.mmtel_run_theorems.specs.Additions.{DeadlinesAdd, EventsAdd, with_earlier_offers, without_offers}
use Rattle.mmtel_server.specs.Representation.{AddsPrefixInRun, AddsPrefixWhileServing, AddsToOffers, ContinuesRun, ContinuesServing, IsPrefixBetween, RanFromStart, Represents, RepresentsRun, RepresentsWithOffers}
use Rattle.mmtel_server.specs.StepEffects.{RowsWaitAfter, RowsWaitInRun}
use Rattle.mmtel_server.specs.declared.servers.Server.{Server}
use Rattle.mmtel_server.proofs.Filing.{settled_none}
use Rattle.mmtel_server.proofs.Grows.{Grows, came_grows, cut_of, ends, grows_on, kept_of, met_grows, prefix_of, prefix_on, same, short_of}
use Rattle.mmtel_server.proofs.Settling.{enough_same, settles}

module _ (d : Directory) (token : List ℕ) where
  -- the whole run is the shorter one and this event
  pub after_last : (fuel : ℕ) (events : List EventRecord) (event : EventRecord) (w : RunState)
      → after_events d token fuel (timed_events d (events ++ event ∷ [])) w ≡ state_after_event fuel event d token (after_events d token fuel (timed_events d events) w)
  after_last fuel [] event w = refl
  after_last fuel (x ∷ events) event w = after_last fuel events event (after_event_in_order d token fuel (timed_event_of d x) w)

  -- what is enough for it is enough for the shorter one,
  pub enough_front : (fuel : ℕ) (events : List EventRecord) (event : EventRecord) (w : RunState) → IsEnoughAfter d token fuel (timed_events d (events ++ event ∷ [])) w
      → IsEnoughAfter d token fuel (timed_events d events) w
  enough_front fuel [] event w e = tt
  enough_front fuel (x ∷ events) event w e = (e.0, enough_front fuel events event (after_event_in_order d token fuel (timed_event_of d x) w) e.1)

  -- and before this event
  pub enough_last : (fuel : ℕ) (events : List EventRecord) (event : EventRecord) (w : RunState) → IsEnoughAfter d token fuel (timed_events d (events ++ event ∷ [])) w
      → IsSettledBefore fuel event d token (after_events d token fuel (timed_events d events) w)
  enough_last fuel [] event w e = e.0
  enough_last fuel (x ∷ events) event w e = enough_last fuel events event (after_event_in_order d token fuel (timed_event_of d x) w) e.1

  -- two counts that are enough lead to the same state
  pub run_same : (n m : ℕ) (xs : List TimedEvent) (w : RunState) → IsEnoughAfter d token n xs w → IsEnoughAfter d token m xs w → after_events d token n xs w ≡ after_events d token m xs w
  run_same n m [] w e f = refl
  run_same n m (x ∷ xs) w e f =
      let one : after_event_in_order d token n x w ≡ after_event_in_order d token m x w = ap (after_event d token (clock_at w x.at) x.parsed x.accepted) (enough_same d token n m (clock_at w x.at) w e.0 f.0) in
      ap (after_events d token n xs) one ∙ run_same n m xs (after_event_in_order d token m x w) (subst (λ (u : RunState). IsEnoughAfter d token n xs u) one e.1) f.1

  -- a server that went through a run represents its state for any count that is enough
  pub stands_by : (loaded : Texts) (events : List EventRecord) (before out : List Offer) (s : Server) (fuel : ℕ) → RanFromStart d token loaded events before s out → IsEnough d token loaded fuel events
      → RepresentsWithOffers d token before s out (after_events d token fuel (timed_events d events) (initial_state loaded))
  stands_by loaded events before out s fuel went enough =
      subst (λ (u : RunState). RepresentsWithOffers d token before s out u) (run_same went.fuel fuel (timed_events d events) (initial_state loaded) went.enough enough) went.represents

-- ---- one event

-- from the beginning of the step on it only adds
pub event_after_step_begun : NumbersNeverFall → (d : Directory) (token : List ℕ) (at : ℕ) (x : ParsedEvent) (took : Bool) (w : RunState) → Grows (with_next_step w) (after_event d token at x took w)
event_after_step_begun law d token at x took w =
    let there : RunState = record (with_next_step w) { clock = at } in
    let done : RunState = after_parsed_event d token at x there in
    let still = same (with_next_step w) in
    grows_on (with_next_step w) there (after_event d token at x took w) (record { acts = still.acts; steps = still.steps; drawn = still.drawn; front = still.front })
    (grows_on there done (after_event_end took done) (met_grows law d token at x there) (ends law d token at took done))

-- the clock is set
pub clocked_did : (d : Directory) (token : List ℕ) (before out : List Offer) (s : Server) (at : ℕ) (w : RunState) → RepresentsWithOffers d token before s out w
    → RepresentsWithOffers d token before (record s { clock = at }) out (record w { clock = at })
clocked_did d token before out s at w did = record {
  represents = record {
    same_directory = did.represents.same_directory;
    tokens = did.represents.tokens;
    transactions = did.represents.transactions;
    clock = refl;
    steps = did.represents.steps;
    texts = did.represents.texts;
    registered = did.represents.registered;
    calls = did.represents.calls;
    rooms = did.represents.rooms;
    boxes = did.represents.boxes;
    pending_timers = did.represents.pending_timers;
    waiting = did.represents.waiting;
    no_call_rows = did.represents.no_call_rows;
    no_conference_rows = did.represents.no_conference_rows;
    unfailed = did.represents.unfailed;
  };
  offers = did.offers;
}

-- the clock of the code is that of the state
pub clock_is : (now clock moment : ℕ) (event : EventRecord) → now ≡ max clock moment → moment ≡ moment_of event.event → (w : RunState) → clock ≡ w.clock → now ≡ clock_at w (moment_of event.event)
clock_is now clock moment event is at w same = is ∙ (ap (λ (k : ℕ). max k moment) same ∙ ap (λ (k : ℕ). max w.clock k) at)

-- an event at that clock
pub record AtClock (d : Directory) (token : List ℕ) (fuel now : ℕ) (event : EventRecord) (w : RunState) : Type 0 where
  pub ready : IsSettled d token fuel now w
  pub whole : state_after_event fuel event d token w ≡ after_event d token now (parsed_record d event) event.accepted (after_due_deadlines d token fuel now w)
  pub short : IsShort (after_event d token now (parsed_record d event) event.accepted (after_due_deadlines d token fuel now w))
  pub between : IsShort (after_due_deadlines d token fuel now w)

at_clock : NumbersNeverFall → (d : Directory) (token : List ℕ) (fuel now : ℕ) (event : EventRecord) (w : RunState) → now ≡ clock_at w (moment_of event.event) → IsSettledBefore fuel event d token w
    → IsShort (state_after_event fuel event d token w) → AtClock d token fuel now event w
at_clock law d token fuel now event w at ready few =
    let whole : state_after_event fuel event d token w ≡ after_event d token now (parsed_record d event) event.accepted (after_due_deadlines d token fuel now w) =
    ap (λ (k : ℕ). after_event d token k (parsed_record d event) event.accepted (after_due_deadlines d token fuel k w)) (sym at) in
    let short = subst IsShort whole few in
    record {
      ready = subst (λ (k : ℕ). IsSettled d token fuel k w) (sym at) ready;
      whole = whole;
      short = short;
      between = short_of (after_due_deadlines d token fuel now w) (after_event d token now (parsed_record d event) event.accepted (after_due_deadlines d token fuel now w))
          (came_grows law d token now (parsed_record d event) event.accepted (after_due_deadlines d token fuel now w)) short;
    }

-- of the CDRs that waited, these were filed, and those still wait
abbrev pub WaitsBy : RunState → RunState → Bool → List Row → Type 0
WaitsBy w later took waiting = (later.filed ≡ w.filed ++ accepted_rows took waiting) × (later.waiting ≡ remaining_rows took waiting)

-- the timers fire, and then the event comes
module _ (law : NumbersNeverFall) (old mid : Server) (out between : List Offer) (event : EventRecord) (now : ℕ) (clock : (w : RunState) → old.clock ≡ w.clock → now ≡ clock_at w (moment_of event.event)) where
  -- the timers alone
  pub cut_before : ((fuel : ℕ) → AddsOfferPrefixWhere old out between (IsSettledBy fuel now) (λ d token. after_due_deadlines d token fuel now)) → (fuel : ℕ) →
      AddsOfferPrefixWhere old out between (IsSettledBefore fuel event) (state_after_event fuel event)
  cut_before breaks fuel d token before w did ready few =
      let here = at_clock law d token fuel now event w (clock w did.represents.clock) ready few in
      let cut = breaks fuel d token before w did here.ready here.between in
      let v = after_due_deadlines d token fuel now w in
      let more = came_grows law d token now (parsed_record d event) event.accepted v in
      subst (λ (u : RunState). IsPrefixBetween out between (before ++ u.offers)) (sym here.whole) (
        cut.0,
        prefix_on between (before ++ v.offers) (before ++ (after_event d token now (parsed_record d event) event.accepted v).offers) cut.1
            (prefix_of before (before ++ v.offers) v (after_event d token now (parsed_record d event) event.accepted v) more refl),
      )

  module _ (settles_all : (fuel : ℕ) → FollowsWhere old out mid between (IsSettledBy fuel now) (λ d token. after_due_deadlines d token fuel now)) where
    -- and nothing of the event
    pub cut_between : (fuel : ℕ) → AddsOfferPrefixWhere old out between (IsSettledBefore fuel event) (state_after_event fuel event)
    cut_between fuel d token before w did ready few =
        let here = at_clock law d token fuel now event w (clock w did.represents.clock) ready few in
        let v = after_due_deadlines d token fuel now w in
        let there = settles_all fuel d token before w did here.ready here.between in
        subst (λ (u : RunState). IsPrefixBetween out between (before ++ u.offers)) (sym here.whole)
        (cut_of before out between w v (after_event d token now (parsed_record d event) event.accepted v) (settles d token law fuel now w)
        (came_grows law d token now (parsed_record d event) event.accepted v) did.offers there.offers)

    module _ (new : Server) (after_all : List Offer) where
      -- and the event then
      pub went_all : Follows mid between new after_all (λ d token. after_event d token now (parsed_record d event) event.accepted) → (fuel : ℕ) →
          FollowsWhere old out new after_all (IsSettledBefore fuel event) (state_after_event fuel event)
      went_all comes fuel d token before w did ready few =
          let here = at_clock law d token fuel now event w (clock w did.represents.clock) ready few in
          let v = after_due_deadlines d token fuel now w in
          let there = settles_all fuel d token before w did here.ready here.between in
          subst (λ (u : RunState). RepresentsWithOffers d token before new after_all u) (sym here.whole) (comes d token before v there here.short)

      pub cut_within : AddsOfferPrefix mid between after_all (λ d token. after_event d token now (parsed_record d event) event.accepted) → (fuel : ℕ) →
          AddsOfferPrefixWhere old out after_all (IsSettledBefore fuel event) (state_after_event fuel event)
      cut_within breaks fuel d token before w did ready few =
          let here = at_clock law d token fuel now event w (clock w did.represents.clock) ready few in
          let v = after_due_deadlines d token fuel now w in
          let there = settles_all fuel d token before w did here.ready here.between in
          let cut = breaks d token before v there here.short in
          subst (λ (u : RunState). IsPrefixBetween out after_all (before ++ u.offers)) (sym here.whole)
          (prefix_on out between after_all (kept_of before out between w v (settles d token law fuel now w) did.offers there.offers) cut.0, cut.1)

    -- the timers file no CDR
    pub waited_there : (waiting : List Row)
        → ((d : Directory) (token : List ℕ) (before : List Offer) (w : RunState) → RepresentsWithOffers d token before mid between w → IsShort (after_event d token now (parsed_record d event) event.accepted w)
        → WaitsBy w (after_event d token now (parsed_record d event) event.accepted w) event.accepted waiting)
        → RowsWaitAfter old out event waiting
    waited_there waiting waits d token before w fuel did ready few =
        let here = at_clock law d token fuel now event w (clock w did.represents.clock) ready few in
        let v = after_due_deadlines d token fuel now w in
        let there = settles_all fuel d token before w did here.ready here.between in
        let left = waits d token before v there here.short in
        let filed = left.0 ∙ ap (λ (rows : List Row). rows ++ accepted_rows event.accepted waiting) (settled_none d token fuel now w) in
        subst (λ (u : RunState). WaitsBy w u event.accepted waiting) (sym here.whole) (filed, left.1)

    -- the configuration is still that of the run
    pub directory_there : (fuel : ℕ) (d : Directory) (token : List ℕ) (before : List Offer) (w : RunState) → RepresentsWithOffers d token before old out w → IsSettledBefore fuel event d token w →
        IsShort (state_after_event fuel event d token w) → mid.directory ≡ d
    directory_there fuel d token before w did ready few =
        let here = at_clock law d token fuel now event w (clock w did.represents.clock) ready few in
        (settles_all fuel d token before w did here.ready here.between).represents.same_directory

-- ---- an event that is parsed under the server's configuration

module _ (s : Server) (x : ParsedEvent) (f : Directory → ParsedEvent) (told : x ≡ f s.directory) where
  told_in : (d : Directory) → s.directory ≡ d → x ≡ f d
  told_in d same = told ∙ ap f same

  pub told_follows : (out : List Offer) (new : Server) (now : List Offer) (at : ℕ) → Follows s out new now (λ d token. after_parsed_event d token at x) →
      Follows s out new now (λ d token. after_parsed_event d token at (f d))
  told_follows out new now at follows d token before w did short =
      let is = told_in d did.represents.same_directory in
      subst (λ (y : ParsedEvent). RepresentsWithOffers d token before new now (after_parsed_event d token at y w)) is
      (follows d token before w did (subst (λ (y : ParsedEvent). IsShort (after_parsed_event d token at y w)) (sym is) short))

  pub told_breaks : (out now : List Offer) (at : ℕ) → AddsOfferPrefix s out now (λ d token. after_parsed_event d token at x) → AddsOfferPrefix s out now (λ d token. after_parsed_event d token at (f d))
  told_breaks out now at breaks d token before w did short =
      let is = told_in d did.represents.same_directory in
      subst (λ (y : ParsedEvent). IsPrefixBetween out now (before ++ (after_parsed_event d token at y w).offers)) is
      (breaks d token before w did (subst (λ (y : ParsedEvent). IsShort (after_parsed_event d token at y w)) (sym is) short))

-- ---- a step

-- it is noted that no step failed
pub whole_again : (d : Directory) (token : List ℕ) (before out : List Offer) (s : Server) (w : RunState) → RepresentsWithOffers d token before s out w →
    RepresentsWithOffers d token before (record s { failed = false }) out w
whole_again d token before out s w did = record {
  represents = record {
    same_directory = did.represents.same_directory;
    tokens = did.represents.tokens;
    transactions = did.represents.transactions;
    clock = did.represents.clock;
    steps = did.represents.steps;
    texts = did.represents.texts;
    registered = did.represents.registered;
    calls = did.represents.calls;
    rooms = did.represents.rooms;
    boxes = did.represents.boxes;
    pending_timers = did.represents.pending_timers;
    waiting = did.represents.waiting;
    no_call_rows = did.represents.no_call_rows;
    no_conference_rows = did.represents.no_conference_rows;
    unfailed = refl;
  };
  offers = did.offers;
}

-- what a step does to whatever state the server represented it does to whatever run it went through
pub goes_on : (old new : Server) (out now : List Offer) (event : EventRecord) → GivesAlways
    → ((fuel : ℕ) → FollowsWhere old out new now (IsSettledBefore fuel event) (state_after_event fuel event)) → ContinuesRun old out (record new { failed = false }) now event
goes_on old new out now event always follows d token loaded events before went short =
    let enough = always d token loaded (events ++ event ∷ []) in
    let fuel : ℕ = enough.0 in
    let last = after_last d token fuel events event (initial_state loaded) in
    let shorter = after_events d token fuel (timed_events d events) (initial_state loaded) in
    let did = follows fuel d token before shorter
    (stands_by d token loaded events before out old fuel went (enough_front d token fuel events event (initial_state loaded) enough.1))
    (enough_last d token fuel events event (initial_state loaded) enough.1)
    (subst IsShort last (short fuel enough.1)) in
    record {
      fuel = fuel;
      enough = enough.1;
      represents = whole_again d token before now new (after_events d token fuel (timed_events d (events ++ event ∷ [])) (initial_state loaded))
          (subst (λ (u : RunState). RepresentsWithOffers d token before new now u) (sym last) did);
    }

pub breaks_off : (old : Server) (out now : List Offer) (event : EventRecord)
    → ((fuel : ℕ) → AddsOfferPrefixWhere old out now (IsSettledBefore fuel event) (state_after_event fuel event)) → AddsPrefixInRun old out now event
breaks_off old out now event breaks d token loaded events before fuel went short enough =
    let last = after_last d token fuel events event (initial_state loaded) in
    let shorter = after_events d token fuel (timed_events d events) (initial_state loaded) in
    let cut = breaks fuel d token before shorter
    (stands_by d token loaded events before out old fuel went (enough_front d token fuel events event (initial_state loaded) enough))
    (enough_last d token fuel events event (initial_state loaded) enough)
    (subst IsShort last (short fuel enough)) in
    subst (λ (u : RunState). IsPrefixBetween out now (before ++ u.offers)) (sym last) cut

-- ---- a run that the server serves in, wherever its outputs went

-- it represents the state of that run for any count that is enough
serves_by : (d : Directory) (token : List ℕ) (loaded : Texts) (events : List EventRecord) (s : Server) (fuel : ℕ) → RepresentsRun d token loaded events s → IsEnough d token loaded fuel events
    → Represents d token s (after_events d token fuel (timed_events d events) (initial_state loaded))
serves_by d token loaded events s fuel serves enough =
    subst (λ (u : RunState). Represents d token s u) (run_same d token serves.fuel fuel (timed_events d events) (initial_state loaded) serves.enough enough) serves.represents

-- the state that it represents depends neither on the outputs nor on its note that no step failed
represents_whatever_offers : (d : Directory) (token : List ℕ) (s : Server) (os : List Offer) (w : RunState) → Represents d token s w → Represents d token (record s { failed = false }) (record w { offers = os })
represents_whatever_offers d token s os w stands = record {
  same_directory = stands.same_directory;
  tokens = stands.tokens;
  transactions = stands.transactions;
  clock = stands.clock;
  steps = stands.steps;
  texts = stands.texts;
  registered = stands.registered;
  calls = stands.calls;
  rooms = stands.rooms;
  boxes = stands.boxes;
  pending_timers = stands.pending_timers;
  waiting = stands.waiting;
  no_call_rows = stands.no_call_rows;
  no_conference_rows = stands.no_conference_rows;
  unfailed = refl;
}

represents_without_offers : (d : Directory) (token : List ℕ) (s : Server) (out : List Offer) (w : RunState) → Represents d token s w → RepresentsWithOffers d token out s out (without_offers w)
represents_without_offers d token s out w stands = record {
  represents = record {
    same_directory = stands.same_directory;
    tokens = stands.tokens;
    transactions = stands.transactions;
    clock = stands.clock;
    steps = stands.steps;
    texts = stands.texts;
    registered = stands.registered;
    calls = stands.calls;
    rooms = stands.rooms;
    boxes = stands.boxes;
    pending_timers = stands.pending_timers;
    waiting = stands.waiting;
    no_call_rows = stands.no_call_rows;
    no_conference_rows = stands.no_conference_rows;
    unfailed = stands.unfailed;
  };
  offers = sym (append-nil out);
}

-- an event does in a state what it does in the same one without outputs, and adds these
module _ (adds : EventsAdd) (deadlines : DeadlinesAdd) (d : Directory) (token : List ℕ) (fuel : ℕ) (one : EventRecord) (w : RunState) where
  restored : with_earlier_offers w.offers (without_offers w) ≡ w
  restored = ap (λ (os : List Offer). record w { offers = os }) (append-nil w.offers)

  going_adds : state_after_event fuel one d token w ≡ with_earlier_offers w.offers (state_after_event fuel one d token (without_offers w))
  going_adds = ap (state_after_event fuel one d token) (sym restored) ∙ adds d token fuel (timed_event_of d one) w.offers (without_offers w)

  ready_unsaid : IsSettledBefore fuel one d token w → IsSettledBefore fuel one d token (without_offers w)
  ready_unsaid ready =
      let at : ℕ = clock_at w (moment_of one.event) in
      let same : after_due_deadlines d token fuel at w ≡ with_earlier_offers w.offers (after_due_deadlines d token fuel at (without_offers w)) =
      ap (after_due_deadlines d token fuel at) (sym restored) ∙ deadlines d token fuel at w.offers (without_offers w) in
      subst (λ (u : RunState). first_due_deadline at u ≡ None) same ready

  short_unsaid : IsShort (state_after_event fuel one d token w) → IsShort (state_after_event fuel one d token (without_offers w))
  short_unsaid few = let short = subst IsShort going_adds few in record { actions = short.actions; steps = short.steps; drawn = short.drawn }

-- before the last event of a run, by so many firings, the server represents a state without outputs
pub record BeforeLast (d : Directory) (token : List ℕ) (loaded : Texts) (events : List EventRecord) (event : EventRecord) (fuel : ℕ) (old : Server) (out : List Offer) (state : RunState) : Type 0 where
  pub did : RepresentsWithOffers d token out old out (without_offers state)
  pub ready : IsSettledBefore fuel event d token (without_offers state)
  pub short : IsShort (state_after_event fuel event d token (without_offers state))
  pub last : after_events d token fuel (timed_events d (events ++ event ∷ [])) (initial_state loaded) ≡ with_earlier_offers state.offers (state_after_event fuel event d token (without_offers state))

module _ (adds : EventsAdd) (deadlines : DeadlinesAdd) where
  before_last : (d : Directory) (token : List ℕ) (loaded : Texts) (events : List EventRecord) (event : EventRecord) (fuel : ℕ) (old : Server) (out : List Offer)
      → RepresentsRun d token loaded events old → IsShortRun d token loaded (events ++ event ∷ []) → IsEnough d token loaded fuel (events ++ event ∷ [])
      → BeforeLast d token loaded events event fuel old out (after_events d token fuel (timed_events d events) (initial_state loaded))
  before_last d token loaded events event fuel old out serves short enough =
      let w : RunState = after_events d token fuel (timed_events d events) (initial_state loaded) in
      let last = after_last d token fuel events event (initial_state loaded) in
      record {
        did = represents_without_offers d token old out w (serves_by d token loaded events old fuel serves (enough_front d token fuel events event (initial_state loaded) enough));
        ready = ready_unsaid adds deadlines d token fuel event w (enough_last d token fuel events event (initial_state loaded) enough);
        short = short_unsaid adds deadlines d token fuel event w (subst IsShort last (short fuel enough));
        last = last ∙ going_adds adds deadlines d token fuel event w;
      }

  -- what holds for the configuration under whatever state the server represented holds under whatever run it serves in
  pub asked_then : (old : Server) (out : List Offer) (event : EventRecord) (P : Directory → Type 0) → GivesAlways
      → ((d : Directory) (token : List ℕ) (before : List Offer) (w : RunState) (fuel : ℕ) → RepresentsWithOffers d token before old out w → IsSettledBefore fuel event d token w →
      IsShort (state_after_event fuel event d token w) → P d)
      → (d : Directory) (token : List ℕ) (loaded : Texts) (events : List EventRecord) → RepresentsRun d token loaded events old → IsShortRun d token loaded (events ++ event ∷ []) → P d
  asked_then old out event P always is_so d token loaded events serves short =
      let enough = always d token loaded (events ++ event ∷ []) in
      let here = before_last d token loaded events event enough.0 old out serves short enough.1 in
      is_so d token out (without_offers (after_events d token enough.0 (timed_events d events) (initial_state loaded))) enough.0 here.did here.ready here.short

  pub waited_in : (old : Server) (out : List Offer) (event : EventRecord) (waiting : List Row) → RowsWaitAfter old out event waiting → RowsWaitInRun old event waiting
  waited_in old out event waiting waits d token loaded events fuel serves short enough =
      let w : RunState = after_events d token fuel (timed_events d events) (initial_state loaded) in
      let here = before_last d token loaded events event fuel old out serves short enough in
      let there = waits d token out (without_offers w) fuel here.did here.ready here.short in
      let left : WaitsBy w (with_earlier_offers w.offers (state_after_event fuel event d token (without_offers w))) event.accepted waiting = (there.0, there.1) in
      subst (λ (u : RunState). WaitsBy w u event.accepted waiting) (sym here.last) left

  -- a prefix of what it adds was added
  pub adds_front : (old : Server) (out now : List Offer) (event : EventRecord) → ((fuel : ℕ) → AddsOfferPrefixWhere old out now (IsSettledBefore fuel event) (state_after_event fuel event)) →
      AddsPrefixWhileServing old out now event
  adds_front old out now event breaks d token loaded events fuel serves short enough =
      let w : RunState = after_events d token fuel (timed_events d events) (initial_state loaded) in
      let here = before_last d token loaded events event fuel old out serves short enough in
      let cut = breaks fuel d token out (without_offers w) here.did here.ready here.short in
      ((state_after_event fuel event d token (without_offers w)).offers, cut, ap (λ (v : RunState). v.offers) here.last)

  -- it serves in the run with one more event, and what this adds was added
  pub adds_on : (old new : Server) (out now : List Offer) (event : EventRecord) → GivesAlways
      → ((fuel : ℕ) → FollowsWhere old out new now (IsSettledBefore fuel event) (state_after_event fuel event)) → ContinuesServing old out (record new { failed = false }) now event
  adds_on old new out now event always follows d token loaded events serves short =
      let gone : (fuel : ℕ) → IsEnough d token loaded fuel (events ++ event ∷ []) →
      RepresentsWithOffers d token out new now (state_after_event fuel event d token (without_offers (after_events d token fuel (timed_events d events) (initial_state loaded)))) = λ fuel enough.
      let here = before_last d token loaded events event fuel old out serves short enough in
      follows fuel d token out (without_offers (after_events d token fuel (timed_events d events) (initial_state loaded))) here.did here.ready here.short in
      let enough = always d token loaded (events ++ event ∷ []) in
      let fuel : ℕ = enough.0 in
      let w : RunState = after_events d token fuel (timed_events d events) (initial_state loaded) in
      let u : RunState = state_after_event fuel event d token (without_offers w) in
      let here = before_last d token loaded events event fuel old out serves short enough.1 in
      let on : RepresentsRun d token loaded (events ++ event ∷ []) (record new { failed = false }) = record {
        fuel = fuel;
        enough = enough.1;
        represents = subst (λ (v : RunState). Represents d token (record new { failed = false }) v) (sym here.last) (represents_whatever_offers d token new (w.offers ++ u.offers) u (gone fuel enough.1).represents);
      } in
      let added : AddsToOffers d token loaded events event out now = λ fuel enough.
      let w : RunState = after_events d token fuel (timed_events d events) (initial_state loaded) in
      let here = before_last d token loaded events event fuel old out serves short enough in
      ((state_after_event fuel event d token (without_offers w)).offers, (gone fuel enough).offers, ap (λ (v : RunState). v.offers) here.last) in
      (on, added)
