-- The commands of a layer leave states indistinguishable, where untrusted peers observe the same of them and the transactions read the same of the rest.
use Rattle.std.proofs.Common.{◌≡◌, ℕ, ◌+◌, ◌-◌, Bool, true, false, ◌&&◌, List, [], ◌∷◌, ◌++◌, refl, sym, ap, ◌∙◌, Option, Some, None, inl, inr, arith, subst}
use Rattle.std.specs.Prelude.{◌==◌}
use Rattle.std.specs.List.{list_any}
use Rattle.std.proofs.lemmas.Bool.{cases_Bool}
use Rattle.std.proofs.lemmas.Bool.Decides.{nat_tests}
use Rattle.mmtel_b2bua_theorems.specs.EquivalentTables.{CallsInvariant}
use Rattle.mmtel_call_theorems.specs.Noninterference.Observations.{AckSent, Armed, Observation, RequestSent, ResponseSent, Settled, TextSent, Trust, observation, observations, trust_of}
use Rattle.mmtel_directory.specs.declared.directories.Directory.{Directory}
use Rattle.mmtel_message.specs.Message.{Message}
use Rattle.mmtel_message.specs.Texts.{message_text}
use Rattle.mmtel_message.specs.declared.messages.Start.{Start}
use Rattle.mmtel_environment.specs.declared.events.Offer.{Offer}
use Rattle.mmtel_environment.specs.declared.events.Offer.TheVariants as offer
use Rattle.mmtel_sheet_values.specs.declared.values.Sheet.{Sheet}
use Rattle.mmtel_transaction.specs.Equivalence.{Equivalent, TextsDecideNothing, blank_if}
use Rattle.mmtel_transaction.specs.Results.{peer_of, tkey}
use Rattle.mmtel_transaction.specs.Operations.{TransactionOp, live}
use Rattle.mmtel_transaction.specs.Heads.{head_of, reliable_number}
use Rattle.mmtel_transaction.specs.declared.heads.Head.{Head}
use Rattle.mmtel_transaction.specs.declared.words.Emit.{Emit}
use Rattle.mmtel_transaction.specs.declared.words.Emit.TheVariants as emit
use Rattle.mmtel_transaction.specs.declared.words.TKey.{TKey}
use Rattle.mmtel_trust.specs.Peers.{is_trusted}
use Rattle.mmtel_trust.specs.declared.known_peers.KnownPeer.{KnownPeer}
use Rattle.mmtel_types.specs.declared.numbers.Peer.{Peer}
use Rattle.mmtel_run_definitions.specs.Equivalence.{trusts}
use Rattle.mmtel_run_definitions.specs.Calls.{call_config}
use Rattle.mmtel_run_definitions.specs.Deadlines.{OfCall, OfParticipant, PendingTimer as Waiting, ServiceTimer}
use Rattle.mmtel_run_definitions.specs.View.{view}
use Rattle.mmtel_run_definitions.specs.Transitions.{RunState, calls_in, to_peer, with_draws, with_emit, with_emits, with_offers, with_timer}
use Rattle.mmtel_run_theorems.specs.EquivalentStates.{AreAmong, EquivalentStates}
use Rattle.mmtel_run_theorems.proofs.RoleBounds.{true_false}
use Rattle.mmtel_run_theorems.proofs.ActionPrefixes.{emit_before, with_emits_before}

-- ---- views

view-append : (p : Peer) (xs ys : List Offer) → view p (xs ++ ys) ≡ view p xs ++ view p ys
view-append p [] ys = refl
view-append p (offer.To peer at text ∷ xs) ys = elim (cases_Bool (peer.0 == p.0)) [
  | inl y ↦ rw y (ap (λ (l : List (ℕ × List ℕ)). (at, text) ∷ l) (view-append p xs ys))
  | inr n ↦ rw n (view-append p xs ys)
]
view-append p (offer.Web at text ∷ xs) ys = view-append p xs ys

trusted_equivalent : (p q : Peer) (ks : List KnownPeer) → (q.0 == p.0) ≡ true → is_trusted q ks ≡ is_trusted p ks
trusted_equivalent p q ks e =
    let same : q.0 ≡ p.0 = grind (arith, nat_tests, e) in
    ap (λ (n : ℕ). list_any (λ (k : KnownPeer). k.peer.0 == n && k.trusted) ks) same

-- an output whose text is equal, unless it goes to a trusted peer
pub one_offer : (d : Directory) (p q : Peer) (at : ℕ) (s t : List ℕ) → trusts d p ≡ false → (trusts d q ≡ false → s ≡ t) → view p (offer.To q at s ∷ []) ≡ view p (offer.To q at t ∷ [])
one_offer d p q at s t strange e = elim (cases_Bool (q.0 == p.0)) [
  | inl y ↦ ap (λ (x : List ℕ). view p (offer.To q at x ∷ [])) (e (trusted_equivalent p q d.peers.known y ∙ strange))
  | inr n ↦ rw n refl
]

peer_offer : (d : Directory) (p : Peer) (at : ℕ) (s t : List ℕ) (o : Option Peer) → trusts d p ≡ false → ((q : Peer) → o ≡ Some q → trusts d q ≡ false → s ≡ t) → view p (to_peer at s o) ≡ view p (to_peer at t o)
peer_offer d p at s t None strange e = refl
peer_offer d p at s t (Some q) strange e = one_offer d p q at s t strange (e q refl)

observation_more : (p : Peer) (xs ys os ps : List Offer) → view p xs ≡ view p ys → view p os ≡ view p ps → view p (xs ++ os) ≡ view p (ys ++ ps)
observation_more p xs ys os ps e f = view-append p xs os ∙ (ap (λ (l : List (ℕ × List ℕ)). l ++ view p os) e ∙ (ap (λ (l : List (ℕ × List ℕ)). view p ys ++ l) f ∙ sym (view-append p ys ps)))

text_of : (b : Bool) (x y : List ℕ) → blank_if b x ≡ blank_if b y → b ≡ false → x ≡ y
text_of true x y e f = absurd (true_false f)
text_of false x y e f = e

-- ---- what is observed, classification by classification

abbrev some_peer : Peer
some_peer = record { 0 = 0 }

abbrev observation_peer : Observation → Peer
observation_peer (RequestSent p h x) = p
observation_peer (ResponseSent key h number x) = some_peer
observation_peer (TextSent p x) = p
observation_peer (AckSent key x) = some_peer
observation_peer (Settled key own) = some_peer
observation_peer (Armed x) = some_peer

abbrev no_head : Head
no_head = record { is_request = false; status = 0; method = []; branch = []; sent_by = []; from_tag = []; to_tag = []; call_id = []; number = 0 }

abbrev observation_head : Observation → Head
observation_head (RequestSent p h x) = h
observation_head (ResponseSent key h number x) = h
observation_head (TextSent p x) = no_head
observation_head (AckSent key x) = no_head
observation_head (Settled key own) = no_head
observation_head (Armed x) = no_head

-- the number of a reliable response, and of those that are settled
abbrev observation_number : Observation → Option ℕ
observation_number (RequestSent p h x) = None
observation_number (ResponseSent key h number x) = number
observation_number (TextSent p x) = None
observation_number (AckSent key x) = None
observation_number (Settled key own) = own
observation_number (Armed x) = None

abbrev observation_text : Observation → List ℕ
observation_text (RequestSent p h x) = x
observation_text (ResponseSent key h number x) = x
observation_text (TextSent p x) = x
observation_text (AckSent key x) = x
observation_text (Settled key own) = []
observation_text (Armed x) = []

abbrev observation_key : Observation → TKey
observation_key (RequestSent p h x) = tkey 0
observation_key (ResponseSent key h number x) = key
observation_key (TextSent p x) = tkey 0
observation_key (AckSent key x) = key
observation_key (Settled key own) = key
observation_key (Armed x) = tkey 0

abbrev observation_emit : Observation → Emit
observation_emit (RequestSent p h x) = emit.Plain p []
observation_emit (ResponseSent key h number x) = emit.Plain some_peer []
observation_emit (TextSent p x) = emit.Plain p []
observation_emit (AckSent key x) = emit.Plain some_peer []
observation_emit (Settled key own) = emit.Plain some_peer []
observation_emit (Armed x) = x

abbrev first_seen : Observation → List Observation → Observation
first_seen other [] = other
first_seen other (x ∷ xs) = x

abbrev rest_seen : List Observation → List Observation
rest_seen [] = []
rest_seen (x ∷ xs) = xs

-- these keys are those of the transactions with trusted peers, where those are live
abbrev pub Knows : Directory → (keys : TKey → Bool) → List TransactionOp → Type 0
Knows d keys h = (key : ℕ) (q : Peer) → peer_of key (live h) ≡ Some q → keys (tkey key) ≡ trusts d q

module _ (records : List Sheet) (d e : Directory) (keys : TKey → Bool) where
  abbrev pub T : Trust
  T = trust_of (call_config d) keys

  -- two states that are indistinguishable; what each call stores was requested by its own peers, and the records in force are among these
  pub record Pair (v w : RunState) : Type 0 where
    pub equivalent : EquivalentStates records d e v w
    pub one : CallsInvariant records T (calls_in d v).entries
    pub other : CallsInvariant records T (calls_in e w).entries
    pub among : AreAmong records w.texts

module _ (law : TextsDecideNothing) (records : List Sheet) (d e : Directory) (keys : TKey → Bool)
    (K : List TransactionOp → Type 0) (older : (x : TransactionOp) (h : List TransactionOp) → K (x ∷ h) → K h) (knows : (h : List TransactionOp) → K h → Knows d keys h) where
  abbrev S : Trust
  S = trust_of (call_config d) keys

  abbrev Two : RunState → RunState → Type 0
  Two v w = Pair records d e keys v w

  -- ---- elementary operations

  pub with_offers-equivalent : (os ps : List Offer) (v w : RunState) → ((p : Peer) → trusts d p ≡ false → view p os ≡ view p ps) → Two v w → Two (with_offers os v) (with_offers ps w)
  with_offers-equivalent os ps v w s a = record {
    equivalent = record {
      clock = a.equivalent.clock;
      steps = a.equivalent.steps;
      actions = a.equivalent.actions;
      drawn = a.equivalent.drawn;
      calls = a.equivalent.calls;
      opened = a.equivalent.opened;
      conferences = a.equivalent.conferences;
      subscriptions = a.equivalent.subscriptions;
      pending_timers = a.equivalent.pending_timers;
      texts = a.equivalent.texts;
      registrations = a.equivalent.registrations;
      seen = λ p strange. observation_more p v.offers w.offers os ps (a.equivalent.seen p strange) (s p strange);
    };
    one = a.one;
    other = a.other;
    among = a.among;
  }

  pub acting-equivalent : (x y : List TransactionOp) (v w : RunState) → Equivalent (trusts d) x y → Two v w → Two (record v { actions = x }) (record w { actions = y })
  acting-equivalent x y v w s a = record {
    equivalent = record {
      clock = a.equivalent.clock;
      steps = a.equivalent.steps;
      actions = s;
      drawn = a.equivalent.drawn;
      calls = a.equivalent.calls;
      opened = a.equivalent.opened;
      conferences = a.equivalent.conferences;
      subscriptions = a.equivalent.subscriptions;
      pending_timers = a.equivalent.pending_timers;
      texts = a.equivalent.texts;
      registrations = a.equivalent.registrations;
      seen = a.equivalent.seen;
    };
    one = a.one;
    other = a.other;
    among = a.among;
  }

  pub with_draws-equivalent : (i j : ℕ) (v w : RunState) → i ≡ j → Two v w → Two (with_draws i v) (with_draws j w)
  with_draws-equivalent i j v w same a = record {
    equivalent = record {
      clock = a.equivalent.clock;
      steps = a.equivalent.steps;
      actions = a.equivalent.actions;
      drawn = ap (λ (k : ℕ). k + i) a.equivalent.drawn ∙ ap (λ (k : ℕ). w.drawn + k) same;
      calls = a.equivalent.calls;
      opened = a.equivalent.opened;
      conferences = a.equivalent.conferences;
      subscriptions = a.equivalent.subscriptions;
      pending_timers = a.equivalent.pending_timers;
      texts = a.equivalent.texts;
      registrations = a.equivalent.registrations;
      seen = a.equivalent.seen;
    };
    one = a.one;
    other = a.other;
    among = a.among;
  }

  -- ---- commands where two messages differ in what only a trusted peer is sent

  pub reply-equivalent : (at : ℕ) (key : TKey) (m n : Message Start) (v w : RunState) → head_of m ≡ head_of n → reliable_number m ≡ reliable_number n
      → ((q : Peer) → peer_of key.0 (live w.actions) ≡ Some q → trusts d q ≡ false → message_text m ≡ message_text n) → Two v w → Two (with_emit at (emit.Reply key m) v) (with_emit at (emit.Reply key n) w)
  reply-equivalent at key m n v w head number text a =
      let peers = ((law (trusts d) v.actions w.actions a.equivalent.actions).0).peer key.0 in
      with_offers-equivalent (to_peer at (message_text m) (peer_of key.0 (live v.actions))) (to_peer at (message_text n) (peer_of key.0 (live w.actions))) _ _
      (λ p strange. ap (λ (o : Option Peer). view p (to_peer at (message_text m) o)) peers ∙ peer_offer d p at (message_text m) (message_text n) (peer_of key.0 (live w.actions)) strange text)
      (acting-equivalent _ _ v w (((law (trusts d) v.actions w.actions a.equivalent.actions).1).replies key.0 m n at head number text) a)

  pub ask-equivalent : (at : ℕ) (peer : Peer) (m n : Message Start) (v w : RunState) → head_of m ≡ head_of n → (trusts d peer ≡ false → message_text m ≡ message_text n) → Two v w →
      Two (with_emit at (emit.Ask peer m) v) (with_emit at (emit.Ask peer n) w)
  ask-equivalent at peer m n v w head text a =
      with_offers-equivalent (offer.To peer at (message_text m) ∷ []) (offer.To peer at (message_text n) ∷ []) _ _
      (λ p strange. one_offer d p peer at (message_text m) (message_text n) strange text)
      (acting-equivalent _ _ v w (((law (trusts d) v.actions w.actions a.equivalent.actions).1).asks peer m n at head text) a)

  pub plain-equivalent : (at : ℕ) (peer : Peer) (s t : List ℕ) (v w : RunState) → (trusts d peer ≡ false → s ≡ t) → Two v w → Two (with_emit at (emit.Plain peer s) v) (with_emit at (emit.Plain peer t) w)
  plain-equivalent at peer s t v w text a = with_offers-equivalent (offer.To peer at s ∷ []) (offer.To peer at t ∷ []) v w (λ p strange. one_offer d p peer at s t strange text) a

  ack-equivalent : (at : ℕ) (key : TKey) (m n : Message Start) (v w : RunState) → ((q : Peer) → peer_of key.0 (live w.actions) ≡ Some q → trusts d q ≡ false → message_text m ≡ message_text n) →
      Two v w → Two (with_emit at (emit.Ack key m) v) (with_emit at (emit.Ack key n) w)
  ack-equivalent at key m n v w text a =
      let peers = ((law (trusts d) v.actions w.actions a.equivalent.actions).0).peer key.0 in
      with_offers-equivalent (to_peer at (message_text m) (peer_of key.0 (live v.actions))) (to_peer at (message_text n) (peer_of key.0 (live w.actions))) _ _
      (λ p strange. ap (λ (o : Option Peer). view p (to_peer at (message_text m) o)) peers ∙ peer_offer d p at (message_text m) (message_text n) (peer_of key.0 (live w.actions)) strange text)
      (acting-equivalent _ _ v w (((law (trusts d) v.actions w.actions a.equivalent.actions).1).acks key.0 m n text) a)

  settle-equivalent : (at : ℕ) (key : TKey) (own : Option ℕ) (v w : RunState) → Two v w → Two (with_emit at (emit.Settled key own) v) (with_emit at (emit.Settled key own) w)
  settle-equivalent at key own v w a = acting-equivalent _ _ v w (((law (trusts d) v.actions w.actions a.equivalent.actions).1).settles key.0 own) a

  pub arm-equivalent : (x : ServiceTimer) (when : ℕ) (v w : RunState) → Two v w
      → Two (with_timer (record { timer = x; at = when; step = v.steps - 1 }) v) (with_timer (record { timer = x; at = when; step = w.steps - 1 }) w)
  arm-equivalent x when v w a = record {
    equivalent = record {
      clock = a.equivalent.clock;
      steps = a.equivalent.steps;
      actions = a.equivalent.actions;
      drawn = a.equivalent.drawn;
      calls = a.equivalent.calls;
      opened = a.equivalent.opened;
      conferences = a.equivalent.conferences;
      subscriptions = a.equivalent.subscriptions;
      pending_timers = ap (λ (l : List Waiting). l ++ record { timer = x; at = when; step = v.steps - 1 } ∷ []) a.equivalent.pending_timers
          ∙ ap (λ (n : ℕ). w.pending_timers ++ record { timer = x; at = when; step = n - 1 } ∷ []) a.equivalent.steps;
      texts = a.equivalent.texts;
      registrations = a.equivalent.registrations;
      seen = a.equivalent.seen;
    };
    one = a.one;
    other = a.other;
    among = a.among;
  }

  -- ---- commands

  emit-equivalent : (at : ℕ) (x y : Emit) (v w : RunState) → K w.actions → observation S x ≡ observation S y → Two v w → Two (with_emit at x v) (with_emit at y w)
  emit-equivalent at (emit.Ask p m) (emit.Ask q n) v w k e a =
      subst (λ (x : Peer). Two (with_emit at (emit.Ask x m) v) (with_emit at (emit.Ask q n) w)) (sym (ap observation_peer e))
      (ask-equivalent at q m n v w (ap observation_head e)
      (λ strange. text_of (trusts d q) (message_text m) (message_text n)
      (subst (λ (x : Peer). blank_if (trusts d x) (message_text m) ≡ blank_if (trusts d q) (message_text n)) (ap observation_peer e) (ap observation_text e)) strange) a)
  emit-equivalent at (emit.Ask p m) (emit.Reply other n) v w k e a = absurd cc
  emit-equivalent at (emit.Ask p m) (emit.Plain q y) v w k e a = absurd cc
  emit-equivalent at (emit.Ask p m) (emit.Ack other n) v w k e a = absurd cc
  emit-equivalent at (emit.Ask p m) (emit.Settled key own) v w k e a = absurd cc
  emit-equivalent at (emit.Ask p m) (emit.Arm call2 what2 when2) v w k e a = absurd cc
  emit-equivalent at (emit.Ask p m) (emit.ArmSeat room2 seat2 what2 when2) v w k e a = absurd cc
  emit-equivalent at (emit.Reply key m) (emit.Ask q n) v w k e a = absurd cc
  emit-equivalent at (emit.Reply key m) (emit.Reply other n) v w k e a =
      subst (λ (x : TKey). Two (with_emit at (emit.Reply x m) v) (with_emit at (emit.Reply other n) w)) (sym (ap observation_key e))
      (reply-equivalent at other m n v w (ap observation_head e) (ap observation_number e)
      (λ p of strange. text_of (keys other) (message_text m) (message_text n)
      (subst (λ (x : TKey). blank_if (keys x) (message_text m) ≡ blank_if (keys other) (message_text n)) (ap observation_key e) (ap observation_text e))
      (knows w.actions k other.0 p of ∙ strange)) a)
  emit-equivalent at (emit.Reply key m) (emit.Plain q y) v w k e a = absurd cc
  emit-equivalent at (emit.Reply key m) (emit.Ack other n) v w k e a = absurd cc
  emit-equivalent at (emit.Reply key m) (emit.Settled answered own) v w k e a = absurd cc
  emit-equivalent at (emit.Reply key m) (emit.Arm call2 what2 when2) v w k e a = absurd cc
  emit-equivalent at (emit.Reply key m) (emit.ArmSeat room2 seat2 what2 when2) v w k e a = absurd cc
  emit-equivalent at (emit.Plain p x) (emit.Ask q n) v w k e a = absurd cc
  emit-equivalent at (emit.Plain p x) (emit.Reply other n) v w k e a = absurd cc
  emit-equivalent at (emit.Plain p x) (emit.Plain q y) v w k e a =
      subst (λ (z : Peer). Two (with_emit at (emit.Plain z x) v) (with_emit at (emit.Plain q y) w)) (sym (ap observation_peer e))
      (plain-equivalent at q x y v w (λ strange. text_of (trusts d q) x y (subst (λ (z : Peer). blank_if (trusts d z) x ≡ blank_if (trusts d q) y) (ap observation_peer e) (ap observation_text e)) strange) a)
  emit-equivalent at (emit.Plain p x) (emit.Ack other n) v w k e a = absurd cc
  emit-equivalent at (emit.Plain p x) (emit.Settled key own) v w k e a = absurd cc
  emit-equivalent at (emit.Plain p x) (emit.Arm call2 what2 when2) v w k e a = absurd cc
  emit-equivalent at (emit.Plain p x) (emit.ArmSeat room2 seat2 what2 when2) v w k e a = absurd cc
  emit-equivalent at (emit.Ack key m) (emit.Ask q n) v w k e a = absurd cc
  emit-equivalent at (emit.Ack key m) (emit.Reply other n) v w k e a = absurd cc
  emit-equivalent at (emit.Ack key m) (emit.Plain q y) v w k e a = absurd cc
  emit-equivalent at (emit.Ack key m) (emit.Ack other n) v w k e a =
      subst (λ (x : TKey). Two (with_emit at (emit.Ack x m) v) (with_emit at (emit.Ack other n) w)) (sym (ap observation_key e))
      (ack-equivalent at other m n v w
      (λ p of strange. text_of (keys other) (message_text m) (message_text n)
      (subst (λ (x : TKey). blank_if (keys x) (message_text m) ≡ blank_if (keys other) (message_text n)) (ap observation_key e) (ap observation_text e))
      (knows w.actions k other.0 p of ∙ strange)) a)
  emit-equivalent at (emit.Ack key m) (emit.Settled answered own) v w k e a = absurd cc
  emit-equivalent at (emit.Ack key m) (emit.Arm call2 what2 when2) v w k e a = absurd cc
  emit-equivalent at (emit.Ack key m) (emit.ArmSeat room2 seat2 what2 when2) v w k e a = absurd cc
  emit-equivalent at (emit.Settled key own) (emit.Ask q n) v w k e a = absurd cc
  emit-equivalent at (emit.Settled key own) (emit.Reply other n) v w k e a = absurd cc
  emit-equivalent at (emit.Settled key own) (emit.Plain q y) v w k e a = absurd cc
  emit-equivalent at (emit.Settled key own) (emit.Ack other n) v w k e a = absurd cc
  emit-equivalent at (emit.Settled key own) (emit.Settled other owned) v w k e a =
      subst (λ (x : TKey). Two (with_emit at (emit.Settled x own) v) (with_emit at (emit.Settled other owned) w)) (sym (ap observation_key e))
      (subst (λ (o : Option ℕ). Two (with_emit at (emit.Settled other o) v) (with_emit at (emit.Settled other owned) w)) (sym (ap observation_number e)) (settle-equivalent at other owned v w a))
  emit-equivalent at (emit.Settled key own) (emit.Arm call2 what2 when2) v w k e a = absurd cc
  emit-equivalent at (emit.Settled key own) (emit.ArmSeat room2 seat2 what2 when2) v w k e a = absurd cc
  emit-equivalent at (emit.Arm call what when) (emit.Ask q n) v w k e a = absurd cc
  emit-equivalent at (emit.Arm call what when) (emit.Reply other n) v w k e a = absurd cc
  emit-equivalent at (emit.Arm call what when) (emit.Plain q y) v w k e a = absurd cc
  emit-equivalent at (emit.Arm call what when) (emit.Ack other n) v w k e a = absurd cc
  emit-equivalent at (emit.Arm call what when) (emit.Settled key own) v w k e a = absurd cc
  emit-equivalent at (emit.Arm call what when) (emit.Arm call2 what2 when2) v w k e a =
      subst (λ (z : Emit). Two (with_emit at z v) (with_emit at (emit.Arm call2 what2 when2) w)) (sym (ap observation_emit e)) (arm-equivalent (OfCall call2 what2) when2 v w a)
  emit-equivalent at (emit.Arm call what when) (emit.ArmSeat room2 seat2 what2 when2) v w k e a = absurd cc
  emit-equivalent at (emit.ArmSeat room seat what when) (emit.Ask q n) v w k e a = absurd cc
  emit-equivalent at (emit.ArmSeat room seat what when) (emit.Reply other n) v w k e a = absurd cc
  emit-equivalent at (emit.ArmSeat room seat what when) (emit.Plain q y) v w k e a = absurd cc
  emit-equivalent at (emit.ArmSeat room seat what when) (emit.Ack other n) v w k e a = absurd cc
  emit-equivalent at (emit.ArmSeat room seat what when) (emit.Settled key own) v w k e a = absurd cc
  emit-equivalent at (emit.ArmSeat room seat what when) (emit.Arm call2 what2 when2) v w k e a = absurd cc
  emit-equivalent at (emit.ArmSeat room seat what when) (emit.ArmSeat room2 seat2 what2 when2) v w k e a =
      subst (λ (z : Emit). Two (with_emit at z v) (with_emit at (emit.ArmSeat room2 seat2 what2 when2) w)) (sym (ap observation_emit e)) (arm-equivalent (OfParticipant room2 seat2 what2) when2 v w a)

  pub with_emits-equivalent : (at : ℕ) (xs ys : List Emit) (v w : RunState) → K (with_emits at ys w).actions → observations S xs ≡ observations S ys → Two v w → Two (with_emits at xs v) (with_emits at ys w)
  with_emits-equivalent at [] [] v w k e a = a
  with_emits-equivalent at [] (y ∷ ys) v w k e a = absurd cc
  with_emits-equivalent at (x ∷ xs) [] v w k e a = absurd cc
  with_emits-equivalent at (x ∷ xs) (y ∷ ys) v w k e a =
      let next : K (with_emit at y w).actions = with_emits_before K older at ys (with_emit at y w) k in
      with_emits-equivalent at xs ys (with_emit at x v) (with_emit at y w) k (ap rest_seen e)
      (emit-equivalent at x y v w (emit_before K older at y w next) (ap (first_seen (observation S x)) e) a)
