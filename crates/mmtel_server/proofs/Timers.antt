-- The effect of a timer, once it is removed from the timers that are armed.
use Rattle.std.proofs.Common.{◌≡◌, ◌≤◌, ℕ, List, [], ◌∷◌, ◌++◌, Option, Some, None, IfSome, append_assoc, refl, sym, ap, ◌∙◌, subst}
use Rattle.std.specs.Prelude.{Bool, true, false, nat_le, if◌then◌else◌, is_some}
use Rattle.std.specs.Option.{option_map}
use Rattle.std.proofs.lemmas.Bool.{leb-true}
use Rattle.mmtel_directory.specs.declared.directories.Directory.{Directory}
use Rattle.mmtel_environment.specs.declared.events.Offer.{Offer}
use Rattle.mmtel_run_definitions.specs.Deadlines as run
use Rattle.mmtel_run_definitions.specs.Deadlines.{Deadline, first_deadline, first_due_timer}
use Rattle.mmtel_run_definitions.specs.Run.{after_deadline_if, after_one_deadline, first_due_deadline}
use Rattle.mmtel_run_definitions.specs.ShortRuns.{IsShort}
use Rattle.mmtel_run_definitions.specs.Transitions.{RunState, after_deadline, after_due, after_transaction_timer, with_offers}
use Rattle.mmtel_transaction.specs.Results.{DueEntryView, after_firing, due_one, due_result, is_before, next_due, retransmitted_text, sooner, tkey}
use Rattle.mmtel_transaction.specs.Operations.{TransactionOp, live}
use Rattle.mmtel_transaction.specs.Deadlines.{deadline, is_ending, retransmission_at}
use Rattle.mmtel_transaction.specs.Represents as table
use Rattle.mmtel_transaction.specs.declared.entries.Entry.{Entry}
use Rattle.mmtel_transaction.specs.declared.transactions.Transactions.{Transactions}
use Rattle.mmtel_transaction.specs.declared.words.Due.{Due}
use Rattle.mmtel_transaction.specs.declared.words.Due.TheVariants as due
use Rattle.mmtel_server_timers.proofs.PendingTimers.{is_chosen, kind_is}
use Rattle.mmtel_server_timers.specs.PendingTimers.{IsFirstTimer, kind_of, queue_of}
use Rattle.mmtel_server.specs.Follows.{AddsOfferPrefix, Follows, IsDueBy}
use Rattle.mmtel_server.specs.Representation.{IsPrefixBetween, RepresentsWithOffers}
use Rattle.mmtel_server_timers.specs.declared.pending_timers.PendingTimer.{PendingTimer}
use Rattle.mmtel_server.specs.declared.servers.Server.{Server}
use Rattle.mmtel_server_timers.specs.declared.deadlines.Deadline as deadlines

-- ---- what is due of the transactions by a moment is not after it

-- the timer of a transaction
one_by : (now : ℕ) (e : Entry) (o : Option ℕ) → IfSome (due_one now e o) (λ n. n.at ≤ now)
one_by now e None = tt
one_by now e (Some at) = test (nat_le at now) refl
  where
    test : (b : Bool) → nat_le at now ≡ b → IfSome (if b then Some (let n : DueEntryView = record { at = at; entry = e } in n) else None) (λ n. n.at ≤ now)
    test true t = leb-true at now t
    test false t = tt

sooner_by : (now : ℕ) (x y : Option DueEntryView) → IfSome x (λ n. n.at ≤ now) → IfSome y (λ n. n.at ≤ now) → IfSome (sooner x y) (λ n. n.at ≤ now)
sooner_by now None y a b = b
sooner_by now (Some x) None a b = a
sooner_by now (Some x) (Some y) a b = test (is_before y.at y.entry x.at x.entry)
  where
    test : (t : Bool) → (if t then y else x).at ≤ now
    test true = b
    test false = a

next_by : (now : ℕ) (es : List Entry) → IfSome (next_due now es) (λ n. n.at ≤ now)
next_by now [] = tt
next_by now (e ∷ es) = sooner_by now (due_one now e (deadline e)) (next_due now es) (one_by now e (deadline e)) (next_by now es)

says_by : (now : ℕ) (o : Option DueEntryView) → IfSome o (λ n. n.at ≤ now) → IsDueBy now (due_result o)
says_by now None by = tt
says_by now (Some n) by = test (is_some (retransmission_at n.entry)) (is_ending n.entry.state)
  where
    test : (b c : Bool) → IsDueBy now (if b then due.Again n.entry.peer n.at (retransmitted_text n.entry)
        else if c then due.Over (tkey n.entry.key) n.at else due.Silent (tkey n.entry.key) n.entry.head.branch n.entry.head.method n.at)
    test true c = tt
    test false true = by
    test false false = by

-- ---- elementary operations

pub offers : (s : Server) (out now os : List Offer) → now ≡ out ++ os → Follows s out s now (λ d token. with_offers os)
offers s out now os e d token before w did short = record {
  represents = record {
    same_directory = did.represents.same_directory;
    tokens = did.represents.tokens;
    transactions = did.represents.transactions;
    clock = did.represents.clock;
    steps = did.represents.steps;
    texts = did.represents.texts;
    registered = did.represents.registered;
    calls = did.represents.calls;
    rooms = did.represents.rooms;
    boxes = did.represents.boxes;
    pending_timers = did.represents.pending_timers;
    waiting = did.represents.waiting;
    no_call_rows = did.represents.no_call_rows;
    no_conference_rows = did.represents.no_conference_rows;
    unfailed = did.represents.unfailed;
  };
  offers = e ∙ (ap (λ (x : List Offer). x ++ os) did.offers ∙ append_assoc before w.offers os);
}

-- these are the operations on the transactions
with_action_done : (d : Directory) (token : List ℕ) (before out : List Offer) (s : Server) (t : Transactions) (w : RunState) (acts : List TransactionOp) →
    RepresentsWithOffers d token before s out w → table.Represents t acts
    → RepresentsWithOffers d token before (record s { transactions = t }) out (record w { actions = acts })
with_action_done d token before out s t w acts did stands = record {
  represents = record {
    same_directory = did.represents.same_directory;
    tokens = did.represents.tokens;
    transactions = stands;
    clock = did.represents.clock;
    steps = did.represents.steps;
    texts = did.represents.texts;
    registered = did.represents.registered;
    calls = did.represents.calls;
    rooms = did.represents.rooms;
    boxes = did.represents.boxes;
    pending_timers = did.represents.pending_timers;
    waiting = did.represents.waiting;
    no_call_rows = did.represents.no_call_rows;
    no_conference_rows = did.represents.no_conference_rows;
    unfailed = did.represents.unfailed;
  };
  offers = did.offers;
}

-- these are the timers of calls
remaining_timers : (d : Directory) (token : List ℕ) (before out : List Offer) (s : Server) (rest : List PendingTimer) (w : RunState) → RepresentsWithOffers d token before s out w
    → RepresentsWithOffers d token before (record s { pending_timers = rest }) out (record w { pending_timers = queue_of rest })
remaining_timers d token before out s rest w did = record {
  represents = record {
    same_directory = did.represents.same_directory;
    tokens = did.represents.tokens;
    transactions = did.represents.transactions;
    clock = did.represents.clock;
    steps = did.represents.steps;
    texts = did.represents.texts;
    registered = did.represents.registered;
    calls = did.represents.calls;
    rooms = did.represents.rooms;
    boxes = did.represents.boxes;
    pending_timers = refl;
    waiting = did.represents.waiting;
    no_call_rows = did.represents.no_call_rows;
    no_conference_rows = did.represents.no_conference_rows;
    unfailed = did.represents.unfailed;
  };
  offers = did.offers;
}

-- ---- a timer fires

-- one of a transaction
module _ (now : ℕ) (s : Server) (t : Transactions) (said : Due)
    (says : table.Does s.transactions t (λ h. after_firing h (next_due now (live h))) (λ h. said ≡ due_result (next_due now (live h)))) (out given : List Offer) where
  said_by : (h : List TransactionOp) → said ≡ due_result (next_due now (live h)) → IsDueBy now said
  said_by h e = subst (IsDueBy now) (sym e) (says_by now (next_due now (live h)) (next_by now (live h)))

  pub on_fired : (new : Server)
      → (IsDueBy now said → Follows (record s { transactions = t }) out new given (λ d token. after_due d token said)) → Follows s out new given (λ d token. after_transaction_timer d token now)
  on_fired new rings d token before w did short =
      let done = says w.actions did.represents.transactions in
      let fewer : RunState = record w { actions = after_firing w.actions (next_due now (live w.actions)) } in
      subst (λ (x : Due). RepresentsWithOffers d token before new given (after_due d token x fewer)) done.1
      (rings (said_by w.actions done.1) d token before fewer (with_action_done d token before out s t w (after_firing w.actions (next_due now (live w.actions))) did done.0)
      (subst (λ (x : Due). IsShort (after_due d token x fewer)) (sym done.1) short))

  pub breaks_fired : (IsDueBy now said → AddsOfferPrefix (record s { transactions = t }) out given (λ d token. after_due d token said)) → AddsOfferPrefix s out given (λ d token. after_transaction_timer d token now)
  breaks_fired rings d token before w did short =
      let done = says w.actions did.represents.transactions in
      let fewer : RunState = record w { actions = after_firing w.actions (next_due now (live w.actions)) } in
      subst (λ (x : Due). IsPrefixBetween out given (before ++ (after_due d token x fewer).offers)) done.1
      (rings (said_by w.actions done.1) d token before fewer (with_action_done d token before out s t w (after_firing w.actions (next_due now (live w.actions))) did done.0)
      (subst (λ (x : Due). IsShort (after_due d token x fewer)) (sym done.1) short))

-- one of a call: these remain
module _ (op : Directory → List ℕ → RunState → RunState) (s : Server) (rest : List PendingTimer) (out now : List Offer) where
  pub on_left : (new : Server) → Follows (record s { pending_timers = rest }) out new now op → Follows s out new now (λ d token w. op d token (record w { pending_timers = queue_of rest }))
  on_left new follows d token before w did short = follows d token before (record w { pending_timers = queue_of rest }) (remaining_timers d token before out s rest w did) short

  pub breaks_left : AddsOfferPrefix (record s { pending_timers = rest }) out now op → AddsOfferPrefix s out now (λ d token w. op d token (record w { pending_timers = queue_of rest }))
  breaks_left breaks d token before w did short = breaks d token before (record w { pending_timers = queue_of rest }) (remaining_timers d token before out s rest w did) short

-- the first of all, which the code found
module _ (d : Directory) (token : List ℕ) (now : ℕ) (w : RunState) (armed : List PendingTimer) (x : deadlines.Deadline) (same : queue_of armed ≡ w.pending_timers)
    (found : Some x ≡ option_map kind_of (first_deadline (next_due now (live w.actions)) (first_due_timer now (queue_of armed)))) where
  pub first_fires : (first : Deadline) × (kind_of first ≡ x) × IsFirstTimer (first_due_timer now (queue_of armed)) first × (after_one_deadline d token now w ≡ after_deadline d token now first w)
  first_fires =
      let next = next_due now (live w.actions) in
      let one = kind_is (first_deadline next (first_due_timer now (queue_of armed))) x found in
      let is : first_due_deadline now w ≡ Some one.0 = sym (ap (λ (q : List run.PendingTimer). first_deadline next (first_due_timer now q)) same) ∙ one.1 in
      let chosen : IfSome (Some one.0) (IsFirstTimer (first_due_timer now (queue_of armed))) =
      subst (λ (o : Option Deadline). IfSome o (IsFirstTimer (first_due_timer now (queue_of armed)))) one.1 (is_chosen next (first_due_timer now (queue_of armed))) in
      (one.0, one.2, chosen, ap (λ (o : Option Deadline). after_deadline_if d token now o w) is)
