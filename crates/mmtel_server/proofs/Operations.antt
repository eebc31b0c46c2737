-- The outputs once numbers were drawn, and one after another.
use Rattle.std.proofs.Common.{Option, append_assoc, ◌++◌, ◌≡◌, ℕ, ◌+◌, ◌-◌, ◌≤◌, ◌<◌, ◌^◌, List, [], ◌∷◌, length, refl, sym, ap, ◌∙◌, subst, arith, drop, get_or, add-one, drop-cons}
use Rattle.std.proofs.lemmas.List.{drop_all, map-append}
use Rattle.mmtel_output.specs.declared.outputs.StepOutput.{StepOutput}
use Rattle.mmtel_directory.specs.declared.directories.Directory.{Directory}
use Rattle.mmtel_message.specs.Message.{Message}
use Rattle.mmtel_message.specs.Texts.{message_text}
use Rattle.mmtel_message.specs.declared.messages.Start.{Start}
use Rattle.mmtel_mwi.specs.Boxes.{BoxesView, with_table}
use Rattle.mmtel_mwi.specs.Operations as boxes
use Rattle.mmtel_environment.specs.declared.events.Offer.{Offer}
use Rattle.mmtel_environment.specs.declared.events.Offer.TheVariants as offer
use Rattle.mmtel_run_definitions.specs.OwnResponses.{tag_for, tags_due}
use Rattle.mmtel_run_definitions.specs.ShortRuns.{IsShort}
use Rattle.mmtel_run_definitions.specs.Deadlines as deadlines
use Rattle.mmtel_run_definitions.specs.Subscriptions.{with_mailbox_op}
use Rattle.mmtel_run_definitions.specs.Transitions.{RunState, to_peer, with_action, with_draws, with_emit, with_emits, with_offers, with_timer}
use Rattle.mmtel_transaction.specs.Results.{peer_of}
use Rattle.mmtel_transaction.specs.Operations.{TransactionOp, DidAsk, live}
use Rattle.mmtel_transaction.specs.Theorems.{FewAreOpened}
use Rattle.mmtel_transaction.specs.Represents.{MayOpen}
use Rattle.mmtel_transaction.specs.Represents as kept
use Rattle.mmtel_transaction.specs.Tokens.{TokensView}
use Rattle.mmtel_transaction.specs.declared.transactions.Transactions.{Transactions}
use Rattle.mmtel_transaction.specs.declared.words.Emit.{Emit}
use Rattle.mmtel_transaction.specs.declared.words.Emit.TheVariants as emit
use Rattle.mmtel_types.specs.declared.numbers.Peer.{Peer}
use Rattle.mmtel_server.proofs.Counts.{has_capacity}
use Rattle.mmtel_server.proofs.Grows.{draws_emits, short_of}
use Rattle.mmtel_server_timers.specs.PendingTimers.{pending_in, queue_of, timer_in}
use Rattle.mmtel_server.specs.Follows.{AddsOfferPrefix, Follows, Performs}
use Rattle.mmtel_server.specs.Representation.{IsPrefixBetween, RepresentsWithOffers}
use Rattle.mmtel_server_timers.specs.declared.pending_timers.PendingTimer.{PendingTimer}
use Rattle.mmtel_server.specs.declared.servers.Server.{Server}

-- so many numbers were drawn
pub drew : (d : Directory) (token : List ℕ) (before : List Offer) (s : Server) (t : TokensView) (out : List Offer) (w : RunState) (n : ℕ) → RepresentsWithOffers d token before s out w
    → t ≡ record { token = s.tokens.token; drawn = s.tokens.drawn + n } → RepresentsWithOffers d token before (record s { tokens = t }) out (with_draws n w)
drew d token before s t out w n did e = record {
  represents = record {
    same_directory = did.represents.same_directory;
    tokens = e ∙ ap (λ (x : TokensView). let r : TokensView = record { token = x.token; drawn = x.drawn + n } in r) did.represents.tokens;
    transactions = did.represents.transactions;
    clock = did.represents.clock;
    steps = did.represents.steps;
    texts = did.represents.texts;
    registered = did.represents.registered;
    calls = did.represents.calls;
    rooms = did.represents.rooms;
    boxes = did.represents.boxes;
    pending_timers = did.represents.pending_timers;
    waiting = did.represents.waiting;
    no_call_rows = did.represents.no_call_rows;
    no_conference_rows = did.represents.no_conference_rows;
    unfailed = did.represents.unfailed;
  };
  offers = did.offers;
}

-- few were drawn before
pub draw_is_small : (d : Directory) (token : List ℕ) (before : List Offer) (s : Server) (out : List Offer) (w : RunState) → RepresentsWithOffers d token before s out w → IsShort w → s.tokens.drawn < 2 ^ 60
draw_is_small d token before s out w did few = let n : s.tokens.drawn ≡ w.drawn = ap (λ (x : TokensView). x.drawn) did.represents.tokens in omega (arith, n, few.drawn)

-- numbers are drawn, and then one command is executed that names them
pub draws_one : (f : Directory → List ℕ → ℕ → Emit) (n at : ℕ) (s : Server) (t : TokensView) (s2 : Server) (out out2 : List Offer) (e : Emit)
    → (s.tokens.drawn < 2 ^ 60 → t ≡ record { token = s.tokens.token; drawn = s.tokens.drawn + n }) → (s.tokens.drawn < 2 ^ 60 → e ≡ f s.directory s.tokens.token s.tokens.drawn)
    → Follows (record s { tokens = t }) out s2 out2 (λ d token. with_emit at e)
    → Follows s out s2 out2 (λ d token w. with_emits at (f d token w.drawn ∷ []) (with_draws n w))
draws_one f n at s t s2 out out2 e drawn wants follows d token before w did short =
    let few = short_of w (with_emits at (f d token w.drawn ∷ []) (with_draws n w)) (draws_emits n at (f d token w.drawn ∷ []) w) short in
    let small = draw_is_small d token before s out w did few in
    let is : e ≡ f d token w.drawn = wants small
    ∙ (ap (λ (x : Directory). f x s.tokens.token s.tokens.drawn) did.represents.same_directory ∙ ap (λ (x : TokensView). f d x.token x.drawn) did.represents.tokens) in
    subst (λ (x : Emit). RepresentsWithOffers d token before s2 out2 (with_emit at x (with_draws n w))) is
    (follows d token before (with_draws n w) (drew d token before s t out w n did (drawn small)) (subst (λ (x : Emit). IsShort (with_emit at x (with_draws n w))) (sym is) short))

-- the same of one tag, where To has none
pub tags_one : (f : Directory → List ℕ → Emit) (o p : Option (List ℕ)) (at : ℕ) (s : Server) (t : TokensView) (s2 : Server) (out out2 : List Offer) (tag : List ℕ) (e : Emit)
    → o ≡ p → (s.tokens.drawn < 2 ^ 60 → t ≡ record { token = s.tokens.token; drawn = s.tokens.drawn + tags_due o })
    → (s.tokens.drawn < 2 ^ 60 → tag ≡ tag_for s.tokens.token s.tokens.drawn o) → e ≡ f s.directory tag
    → Follows (record s { tokens = t }) out s2 out2 (λ d token. with_emit at e)
    → Follows s out s2 out2 (λ d token w. with_emits at (f d (tag_for token w.drawn p) ∷ []) (with_draws (tags_due p) w))
tags_one f o p at s t s2 out out2 tag e same drawn tags is follows =
    draws_one (λ d token n. f d (tag_for token n p)) (tags_due p) at s t s2 out out2 e
    (λ less. subst (λ (x : Option (List ℕ)). t ≡ record { token = s.tokens.token; drawn = s.tokens.drawn + tags_due x }) same (drawn less))
    (λ less. is ∙ ap (λ (x : List ℕ). f s.directory x) (tags less ∙ ap (λ (x : Option (List ℕ)). tag_for s.tokens.token s.tokens.drawn x) same))
    follows

-- a request is sent in a client transaction of its own
pub request_sent : FewAreOpened → (s : Server) (t : Transactions) (out out2 : List Offer) (peer : Peer) (m : Message Start) (at : ℕ) (text : List ℕ) (P : List TransactionOp → Type 0)
    → MayOpen s.transactions t (λ h. DidAsk peer m at ∷ h) P → text ≡ message_text m → out2 ≡ out ++ offer.To peer at text ∷ []
    → Follows s out (record s { transactions = t }) out2 (λ d token. with_emit at (emit.Ask peer m))
request_sent few s t out out2 peer m at text P opens is offered d token before w did short = record {
  represents = record {
    same_directory = did.represents.same_directory;
    tokens = did.represents.tokens;
    transactions = (opens w.actions did.represents.transactions (has_capacity few w.actions (omega (arith, short.actions)))).0;
    clock = did.represents.clock;
    steps = did.represents.steps;
    texts = did.represents.texts;
    registered = did.represents.registered;
    calls = did.represents.calls;
    rooms = did.represents.rooms;
    boxes = did.represents.boxes;
    pending_timers = did.represents.pending_timers;
    waiting = did.represents.waiting;
    no_call_rows = did.represents.no_call_rows;
    no_conference_rows = did.represents.no_conference_rows;
    unfailed = did.represents.unfailed;
  };
  offers = offered ∙ (ap (λ (os : List Offer). os ++ offer.To peer at text ∷ []) did.offers
      ∙ (append_assoc before w.offers (offer.To peer at text ∷ []) ∙ ap (λ (x : List ℕ). before ++ (w.offers ++ offer.To peer at x ∷ [])) is));
}

-- what is passed to a transaction goes to its peer, if it is live
pub sent_to : (op : TransactionOp) (s : Server) (t : Transactions) (out out2 : List Offer) (key at : ℕ) (text said : List ℕ) (peer : Option Peer)
    → ((h : List TransactionOp) → kept.Represents s.transactions h → kept.Represents t (op ∷ h)) → ((h : List TransactionOp) → kept.Represents s.transactions h → peer ≡ peer_of key (live h))
    → text ≡ said → out2 ≡ out ++ to_peer at text peer
    → (d : Directory) (token : List ℕ) (before : List Offer) (w : RunState) → RepresentsWithOffers d token before s out w
    → RepresentsWithOffers d token before (record s { transactions = t }) out2 (with_offers (to_peer at said (peer_of key (live w.actions))) (with_action op w))
sent_to op s t out out2 key at text said peer told same is offered d token before w did = record {
  represents = record {
    same_directory = did.represents.same_directory;
    tokens = did.represents.tokens;
    transactions = told w.actions did.represents.transactions;
    clock = did.represents.clock;
    steps = did.represents.steps;
    texts = did.represents.texts;
    registered = did.represents.registered;
    calls = did.represents.calls;
    rooms = did.represents.rooms;
    boxes = did.represents.boxes;
    pending_timers = did.represents.pending_timers;
    waiting = did.represents.waiting;
    no_call_rows = did.represents.no_call_rows;
    no_conference_rows = did.represents.no_conference_rows;
    unfailed = did.represents.unfailed;
  };
  offers = offered ∙ (ap (λ (os : List Offer). os ++ to_peer at text peer) did.offers
      ∙ (append_assoc before w.offers (to_peer at text peer) ∙ (ap (λ (x : List ℕ). before ++ (w.offers ++ to_peer at x peer)) is
      ∙ ap (λ (p : Option Peer). before ++ (w.offers ++ to_peer at said p)) (same w.actions did.represents.transactions))));
}

-- ---- one after another

pub next_emit : (at i : ℕ) (es : List Emit) (e : Emit) (w : RunState) → i < length es → e ≡ get_or es i e → with_emits at (drop i es) w ≡ with_emits at (drop (i + 1) es) (with_emit at e w)
next_emit at i es e w less is =
    let here : drop i es ≡ get_or es i e ∷ drop (i + 1) es = rw (add-one, drop-cons es i e) refl in
    ap (λ (l : List Emit). with_emits at l w) (here ∙ ap (λ (x : Emit). x ∷ drop (i + 1) es) (sym is))

pub no_emit : (at i : ℕ) (es : List Emit) (w : RunState) → length es ≤ i → with_emits at (drop i es) w ≡ w
no_emit at i es w less = ap (λ (l : List Emit). with_emits at l w) (drop_all i es less)

-- ---- an operation on the calls or the conferences, and then its commands

module _ (old mid : Server) (output : Directory → List ℕ → RunState → StepOutput) (there : Directory → List ℕ → RunState → RunState) (emits given : List Emit) (at : ℕ) (out now : List Offer)
    (done : Performs old mid output there emits) (same : given ≡ emits) where
  pub done_follows : (new : Server) → Follows mid out new now (λ d token. with_emits at given) → Follows old out new now (λ d token w. with_emits at (output d token w).out (there d token w))
  done_follows new follows d token before w did short =
      let first = done d token before out w did in
      let all = same ∙ first.0 in
      subst (λ (l : List Emit). RepresentsWithOffers d token before new now (with_emits at l (there d token w))) all
      (follows d token before (there d token w) first.1 (subst (λ (l : List Emit). IsShort (with_emits at l (there d token w))) (sym all) short))

  -- where the operation outputs nothing by itself
  pub done_breaks : AddsOfferPrefix mid out now (λ d token. with_emits at given) → AddsOfferPrefix old out now (λ d token w. with_emits at (output d token w).out (there d token w))
  done_breaks breaks d token before w did short =
      let first = done d token before out w did in
      let all = same ∙ first.0 in
      subst (λ (l : List Emit). IsPrefixBetween out now (before ++ (with_emits at l (there d token w)).offers)) all
      (breaks d token before (there d token w) first.1 (subst (λ (l : List Emit). IsShort (with_emits at l (there d token w))) (sym all) short))

-- an operation on a transaction outputs nothing
pub action_alone : (op : TransactionOp) (s : Server) (t : Transactions) (out : List Offer) → ((h : List TransactionOp) → kept.Represents s.transactions h → kept.Represents t (op ∷ h))
    → Follows s out (record s { transactions = t }) out (λ d token. with_action op)
action_alone op s t out told d token before w did short = record {
  represents = record {
    same_directory = did.represents.same_directory;
    tokens = did.represents.tokens;
    transactions = told w.actions did.represents.transactions;
    clock = did.represents.clock;
    steps = did.represents.steps;
    texts = did.represents.texts;
    registered = did.represents.registered;
    calls = did.represents.calls;
    rooms = did.represents.rooms;
    boxes = did.represents.boxes;
    pending_timers = did.represents.pending_timers;
    waiting = did.represents.waiting;
    no_call_rows = did.represents.no_call_rows;
    no_conference_rows = did.represents.no_conference_rows;
    unfailed = did.represents.unfailed;
  };
  offers = did.offers;
}

-- an operation on mailboxes outputs nothing by itself
pub notes_action : (op : boxes.TableOp) (s : Server) (new : BoxesView) (out : List Offer) → new ≡ with_table s.boxes (boxes.table_after_op op s.boxes.table)
    → Follows s out (record s { boxes = new }) out (λ d token. with_mailbox_op op)
notes_action op s new out is d token before w did short = record {
  represents = record {
    same_directory = did.represents.same_directory;
    tokens = did.represents.tokens;
    transactions = did.represents.transactions;
    clock = did.represents.clock;
    steps = did.represents.steps;
    texts = did.represents.texts;
    registered = did.represents.registered;
    calls = did.represents.calls;
    rooms = did.represents.rooms;
    boxes = is ∙ ap (λ (b : BoxesView). with_table b (boxes.table_after_op op b.table)) did.represents.boxes;
    pending_timers = did.represents.pending_timers;
    waiting = did.represents.waiting;
    no_call_rows = did.represents.no_call_rows;
    no_conference_rows = did.represents.no_conference_rows;
    unfailed = did.represents.unfailed;
  };
  offers = did.offers;
}

-- a timer is armed, in the step under way
pub armed_more : (s : Server) (a : PendingTimer) (rest : List PendingTimer) (out : List Offer) → rest ≡ s.pending_timers ++ a ∷ [] → a.step ≡ s.steps - 1
    → Follows s out (record s { pending_timers = rest }) out (λ d token w. with_timer (record { timer = timer_in a.timer; at = a.at; step = w.steps - 1 }) w)
armed_more s a rest out more step d token before w did short = record {
  represents = record {
    same_directory = did.represents.same_directory;
    tokens = did.represents.tokens;
    transactions = did.represents.transactions;
    clock = did.represents.clock;
    steps = did.represents.steps;
    texts = did.represents.texts;
    registered = did.represents.registered;
    calls = did.represents.calls;
    rooms = did.represents.rooms;
    boxes = did.represents.boxes;
    pending_timers =
        ap queue_of more
        ∙ (map-append (λ b. pending_in b) s.pending_timers (a ∷ [])
        ∙ (ap (λ (l : List deadlines.PendingTimer). l ++ pending_in a ∷ []) did.represents.pending_timers
        ∙ ap (λ (n : ℕ). w.pending_timers ++ (let r : deadlines.PendingTimer = record { timer = timer_in a.timer; at = a.at; step = n } in r) ∷ []) (step ∙ ap (λ (n : ℕ). n - 1) did.represents.steps)));
    waiting = did.represents.waiting;
    no_call_rows = did.represents.no_call_rows;
    no_conference_rows = did.represents.no_conference_rows;
    unfailed = did.represents.unfailed;
  };
  offers = did.offers;
}
