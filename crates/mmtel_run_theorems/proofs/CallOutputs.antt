-- The output of calls is sent.
use Rattle.std.proofs.Common.{◌≡◌, ℕ, zero, suc, List, [], ◌∷◌, ◌++◌, length, refl, sym, ap, ◌∙◌, subst, Option, Some, None, inl, inr, append_assoc, append-nil}
use Rattle.std.specs.Prelude.{if◌then◌else◌, Bool, true, false}
use Rattle.mmtel_b2bua.specs.Operations.{Drops, TableOp, table_after}
use Rattle.mmtel_b2bua_theorems.specs.TracesOfTables.{call_of, emits_of, is_number, out_by}
use Rattle.mmtel_call_theorems.proofs.NoInjection.Sending.{each_append}
use Rattle.mmtel_call_theorems.specs.NoInjection.Emits.{Each}
use Rattle.mmtel_output.specs.declared.outputs.StepOutput.{StepOutput}
use Rattle.mmtel_directory.specs.declared.directories.Directory.{Directory}
use Rattle.mmtel_focus.specs.Operations as rooms
use Rattle.mmtel_records_in_force.specs.Texts.{Texts}
use Rattle.mmtel_message.specs.Message.{Message}
use Rattle.mmtel_message.specs.Texts.{message_text}
use Rattle.mmtel_message.specs.declared.messages.Start.{Start}
use Rattle.mmtel_environment.specs.declared.events.Offer.{Offer}
use Rattle.mmtel_environment.specs.declared.events.Offer.TheVariants as offer
use Rattle.mmtel_transaction.specs.Results.{peer_of}
use Rattle.mmtel_transaction.specs.Operations.{TransactionOp, DidAck, DidAsk, DidBegin, DidFire, DidSettle, DidHear, DidReply, live}
use Rattle.mmtel_transaction.specs.Firings.{BeginsChangeNothing}
use Rattle.mmtel_transaction.specs.declared.words.Emit.{Emit}
use Rattle.mmtel_transaction.specs.declared.words.Emit.TheVariants as emit
use Rattle.mmtel_trust.specs.Members.{IsIn}
use Rattle.mmtel_types.specs.declared.numbers.Peer.{Peer}
use Rattle.mmtel_run_definitions.specs.Calls.{call_config}
use Rattle.mmtel_run_definitions.specs.Events.{EventRecord, TimedEvent, timed_events}
use Rattle.mmtel_run_definitions.specs.Run.{after_due_deadlines, after_event_in_order, after_events, after_one_deadline, clock_at, state_after}
use Rattle.mmtel_run_definitions.specs.Transitions.{RunState, calls_in, initial_state, to_peer, with_call_op, with_call_output, with_conference_output, with_emit, with_emits, with_offers}
use Rattle.mmtel_run_theorems.specs.CallOutputs.{GoesOut, IsHandedOver, IsOfferedTo}
use Rattle.mmtel_run_theorems.specs.StepMoments.{moment_due}
use Rattle.mmtel_run_theorems.proofs.Transitions.{FiresBy, IsUnsent, IsWalked, after_event_at, after_firing_at}

-- ---- outputs and operations on the transactions are only added

in-left : {A : Type 0} (x : A) (xs ys : List A) → IsIn x xs → IsIn x (xs ++ ys)
in-left x [] ys h = absurd h
in-left x (y ∷ xs) ys (inl h) = inl h
in-left x (y ∷ xs) ys (inr h) = inr (in-left x xs ys h)

in-right : {A : Type 0} (x : A) (xs ys : List A) → IsIn x ys → IsIn x (xs ++ ys)
in-right x [] ys h = h
in-right x (y ∷ xs) ys h = inr (in-right x xs ys h)

record Extends (w v : RunState) : Type 0 where
  actions : List TransactionOp
  on_actions : v.actions ≡ actions ++ w.actions
  offers : List Offer
  offered : v.offers ≡ w.offers ++ offers

extends_refl : (w v : RunState) → v.actions ≡ w.actions → v.offers ≡ w.offers → Extends w v
extends_refl w v acts offers = record { actions = []; on_actions = acts; offers = []; offered = offers ∙ sym (append-nil w.offers) }

extends_then : (u v w : RunState) → Extends u v → Extends v w → Extends u w
extends_then u v w s t = record {
  actions = t.actions ++ s.actions;
  on_actions = t.on_actions ∙ (ap (λ (acts : List TransactionOp). t.actions ++ acts) s.on_actions ∙ sym (append_assoc t.actions s.actions u.actions));
  offers = s.offers ++ t.offers;
  offered = t.offered ∙ (ap (λ (offers : List Offer). offers ++ t.offers) s.offered ∙ append_assoc u.offers s.offers t.offers);
}

emit_extends : (at : ℕ) (x : Emit) (w : RunState) → Extends w (with_emit at x w)
emit_extends at (emit.Ask peer message) w = record { actions = DidAsk peer message at ∷ []; on_actions = refl; offers = _; offered = refl }
emit_extends at (emit.Reply key message) w = record { actions = DidReply key.0 message at ∷ []; on_actions = refl; offers = _; offered = refl }
emit_extends at (emit.Plain peer text) w = record { actions = []; on_actions = refl; offers = _; offered = refl }
emit_extends at (emit.Ack key message) w = record { actions = DidAck key.0 message ∷ []; on_actions = refl; offers = _; offered = refl }
emit_extends at (emit.Settled key own) w = record { actions = DidSettle key.0 own ∷ []; on_actions = refl; offers = []; offered = sym (append-nil w.offers) }
emit_extends at (emit.Arm call what when) w = extends_refl w _ refl refl
emit_extends at (emit.ArmSeat room seat what when) w = extends_refl w _ refl refl

with_emits_extends : (at : ℕ) (xs : List Emit) (w : RunState) → Extends w (with_emits at xs w)
with_emits_extends at [] w = extends_refl w w refl refl
with_emits_extends at (x ∷ xs) w = extends_then w (with_emit at x w) (with_emits at xs (with_emit at x w)) (emit_extends at x w) (with_emits_extends at xs (with_emit at x w))

emit_ops : (at : ℕ) (x : Emit) (w : RunState) → (with_emit at x w).call_ops ≡ w.call_ops
emit_ops at (emit.Ask peer message) w = refl
emit_ops at (emit.Reply key message) w = refl
emit_ops at (emit.Plain peer text) w = refl
emit_ops at (emit.Ack key message) w = refl
emit_ops at (emit.Settled key own) w = refl
emit_ops at (emit.Arm call what when) w = refl
emit_ops at (emit.ArmSeat room seat what when) w = refl

with_emits_ops : (at : ℕ) (xs : List Emit) (w : RunState) → (with_emits at xs w).call_ops ≡ w.call_ops
with_emits_ops at [] w = refl
with_emits_ops at (x ∷ xs) w = with_emits_ops at xs (with_emit at x w) ∙ emit_ops at x w

-- ---- what was sent has been sent, whatever is added

offered_more : (w v : RunState) (peer : Peer) (text : List ℕ) → Extends w v → IsOfferedTo w peer text → IsOfferedTo v peer text
offered_more w v peer text e (at, is) = (at, subst (IsIn (offer.To peer at text)) (sym e.offered) (in-left (offer.To peer at text) w.offers e.offers is))

handed_more : (w v : RunState) (key : ℕ) (message : Message Start) (call : TransactionOp) → Extends w v → IsHandedOver w key message call → IsHandedOver v key message call
handed_more w v key message call e h = record {
  newer = e.actions ++ h.newer;
  older = h.older;
  done = e.on_actions ∙ (ap (λ (acts : List TransactionOp). e.actions ++ acts) h.done ∙ sym (append_assoc e.actions h.newer (call ∷ h.older)));
  offered = λ peer is. offered_more w v peer (message_text message) e (h.offered peer is);
}

goes_more : (w v : RunState) (x : Emit) → Extends w v → GoesOut w x → GoesOut v x
goes_more w v (emit.Ask peer message) e g = offered_more w v peer (message_text message) e g
goes_more w v (emit.Reply key message) e (at, g) = (at, handed_more w v key.0 message (DidReply key.0 message at) e g)
goes_more w v (emit.Plain peer text) e g = offered_more w v peer text e g
goes_more w v (emit.Ack key message) e g = handed_more w v key.0 message (DidAck key.0 message) e g
goes_more w v (emit.Settled key own) e g = subst (IsIn (DidSettle key.0 own)) (sym e.on_actions) (in-right (DidSettle key.0 own) e.actions w.actions g)
goes_more w v (emit.Arm call what at) e g = tt
goes_more w v (emit.ArmSeat room seat what at) e g = tt

all_more : (w v : RunState) (xs : List Emit) → Extends w v → Each (GoesOut w) xs → Each (GoesOut v) xs
all_more w v [] e g = tt
all_more w v (x ∷ xs) e g = (goes_more w v x e g.0, all_more w v xs e g.1)

-- ---- the commands are sent

to_peer_is : (at : ℕ) (text : List ℕ) (peer : Peer) (o : Option Peer) → o ≡ Some peer → IsIn (offer.To peer at text) (to_peer at text o)
to_peer_is at text peer o is = subst (λ o. IsIn (offer.To peer at text) (to_peer at text o)) (sym is) (inl refl)

emit_goes : (at : ℕ) (x : Emit) (w : RunState) → GoesOut (with_emit at x w) x
emit_goes at (emit.Ask peer message) w = (at, in-right _ w.offers _ (inl refl))
emit_goes at (emit.Reply key message) w = (
  at,
  record {
    newer = [];
    older = w.actions;
    done = refl;
    offered = λ peer is. (at, in-right _ w.offers _ (to_peer_is at (message_text message) peer (peer_of key.0 (live w.actions)) is));
  },
)
emit_goes at (emit.Plain peer text) w = (at, in-right _ w.offers _ (inl refl))
emit_goes at (emit.Ack key message) w = record {
  newer = [];
  older = w.actions;
  done = refl;
  offered = λ peer is. (at, in-right _ w.offers _ (to_peer_is at (message_text message) peer (peer_of key.0 (live w.actions)) is));
}
emit_goes at (emit.Settled key own) w = inl refl
emit_goes at (emit.Arm call what when) w = tt
emit_goes at (emit.ArmSeat room seat what when) w = tt

with_emits_go : (at : ℕ) (xs : List Emit) (w : RunState) → Each (GoesOut (with_emits at xs w)) xs
with_emits_go at [] w = tt
with_emits_go at (x ∷ xs) w = (
  goes_more (with_emit at x w) (with_emits at xs (with_emit at x w)) x (with_emits_extends at xs (with_emit at x w)) (emit_goes at x w),
  with_emits_go at xs (with_emit at x w),
)

-- ---- what was replied is sent, where the transaction was live then

abbrev pub IsHandedOverBy : RunState → TransactionOp → List TransactionOp → Type 0
IsHandedOverBy w (DidBegin step) older = Unit {0}
IsHandedOverBy w (DidHear peer message now taken) older = Unit {0}
IsHandedOverBy w (DidAsk peer message now) older = Unit {0}
IsHandedOverBy w (DidReply key message now) older = (peer : Peer) → peer_of key (live older) ≡ Some peer → IsOfferedTo w peer (message_text message)
IsHandedOverBy w (DidAck key message) older = Unit {0}
IsHandedOverBy w (DidFire key) older = Unit {0}
IsHandedOverBy w (DidSettle key own) older = Unit {0}

abbrev pub AreHandedOver : RunState → List TransactionOp → Type 0
AreHandedOver w [] = Unit {0}
AreHandedOver w (act ∷ older) = IsHandedOverBy w act older × AreHandedOver w older

said-by-more : (w v : RunState) (act : TransactionOp) (older : List TransactionOp) → Extends w v → IsHandedOverBy w act older → IsHandedOverBy v act older
said-by-more w v (DidBegin step) older e s = tt
said-by-more w v (DidHear peer message now taken) older e s = tt
said-by-more w v (DidAsk peer message now) older e s = tt
said-by-more w v (DidReply key message now) older e s = λ peer is. offered_more w v peer (message_text message) e (s peer is)
said-by-more w v (DidAck key message) older e s = tt
said-by-more w v (DidFire key) older e s = tt
said-by-more w v (DidSettle key own) older e s = tt

said_more : (w v : RunState) (acts : List TransactionOp) → Extends w v → AreHandedOver w acts → AreHandedOver v acts
said_more w v [] e s = tt
said_more w v (act ∷ older) e s = (said-by-more w v act older e s.0, said_more w v older e s.1)

unsent-said : (w : RunState) (act : TransactionOp) (older : List TransactionOp) → IsUnsent act → IsHandedOverBy w act older
unsent-said w (DidBegin step) older u = tt
unsent-said w (DidHear peer message now taken) older u = tt
unsent-said w (DidAsk peer message now) older u = absurd u
unsent-said w (DidReply key message now) older u = absurd u
unsent-said w (DidAck key message) older u = absurd u
unsent-said w (DidFire key) older u = tt
unsent-said w (DidSettle key own) older u = tt

abbrev HandsOverMore : RunState → RunState → Type 0
HandsOverMore w v = AreHandedOver w w.actions → AreHandedOver v v.actions

same_said : (w v : RunState) → v.actions ≡ w.actions → Extends w v → HandsOverMore w v
same_said w v acts e s = subst (AreHandedOver v) (sym acts) (said_more w v w.actions e s)

emit_said : (at : ℕ) (x : Emit) (w : RunState) → HandsOverMore w (with_emit at x w)
emit_said at (emit.Ask peer message) w s = (tt, said_more w _ w.actions (emit_extends at (emit.Ask peer message) w) s)
emit_said at (emit.Reply key message) w s = (
  (λ peer is. (at, in-right _ w.offers _ (to_peer_is at (message_text message) peer (peer_of key.0 (live w.actions)) is))),
  said_more w _ w.actions (emit_extends at (emit.Reply key message) w) s,
)
emit_said at (emit.Plain peer text) w s = said_more w _ w.actions (emit_extends at (emit.Plain peer text) w) s
emit_said at (emit.Ack key message) w s = (tt, said_more w _ w.actions (emit_extends at (emit.Ack key message) w) s)
emit_said at (emit.Settled key own) w s = (tt, said_more w _ w.actions (emit_extends at (emit.Settled key own) w) s)
emit_said at (emit.Arm call what when) w s = same_said w _ refl (emit_extends at (emit.Arm call what when) w) s
emit_said at (emit.ArmSeat room seat what when) w s = same_said w _ refl (emit_extends at (emit.ArmSeat room seat what when) w) s

with_emits_said : (at : ℕ) (xs : List Emit) (w : RunState) → HandsOverMore w (with_emits at xs w)
with_emits_said at [] w s = s
with_emits_said at (x ∷ xs) w s = with_emits_said at xs (with_emit at x w) (emit_said at x w s)

pub said_at : (w : RunState) (newer older : List TransactionOp) (act : TransactionOp) → AreHandedOver w (newer ++ act ∷ older) → IsHandedOverBy w act older
said_at w [] older act s = s.0
said_at w (one ∷ newer) older act s = said_at w newer older act s.1

-- ---- the output of the operations

module _ (d : Directory) where
  abbrev AllGone : RunState → List TableOp → Type 0
  AllGone w [] = Unit {0}
  AllGone w (op ∷ older) = Each (GoesOut w) (out_by (call_config d) op (table_after (call_config d) older)) × AllGone w older

  gone_more : (w v : RunState) (ops : List TableOp) → Extends w v → AllGone w ops → AllGone v ops
  gone_more w v [] e g = tt
  gone_more w v (op ∷ older) e g = (all_more w v (out_by (call_config d) op (table_after (call_config d) older)) e g.0, gone_more w v older e g.1)

  record SendsOn (at : ℕ) (w v : RunState) : Type 0 where
    extends : Extends w v
    gone : AllGone w w.call_ops → AllGone v v.call_ops
    handed_over : HandsOverMore w v

  -- no operation on calls
  alike : (at : ℕ) (w v : RunState) → v.call_ops ≡ w.call_ops → Extends w v → HandsOverMore w v → SendsOn at w v
  alike at w v ops e said = record { extends = e; gone = λ g. subst (AllGone v) (sym ops) (gone_more w v w.call_ops e g); handed_over = said }

  brings_on : (at : ℕ) (op : TableOp) (output : StepOutput) (w : RunState) → output.out ≡ out_by (call_config d) op (calls_in d w) → SendsOn at w (with_call_output at op output w)
  brings_on at op output w out =
      let u : RunState = record w { call_ops = Drops (length output.rows) ∷ op ∷ w.call_ops; drawn = output.tokens.drawn; waiting = w.waiting ++ output.rows } in
      let v : RunState = with_emits at output.out u in
      let e : Extends w v = extends_then w u v (extends_refl w u refl refl) (with_emits_extends at output.out u) in
      record {
        extends = e;
        gone = λ g. subst (AllGone v) (sym (with_emits_ops at output.out u)) (tt, (subst (Each (GoesOut v)) out (with_emits_go at output.out u), gone_more w v w.call_ops e g));
        handed_over = λ s. with_emits_said at output.out u (same_said w u refl (extends_refl w u refl refl) s);
      }

  lodges_on : (at : ℕ) (op : rooms.TableOp) (output : StepOutput) (w : RunState) → SendsOn at w (with_conference_output at op output w)
  lodges_on at op output w =
      let u : RunState = record w { conference_ops = rooms.Drops (length output.rows) ∷ op ∷ w.conference_ops; waiting = w.waiting ++ output.rows } in
      let v : RunState = with_emits at output.out u in
      alike at w v (with_emits_ops at output.out u) (extends_then w u v (extends_refl w u refl refl) (with_emits_extends at output.out u))
      (λ s. with_emits_said at output.out u (same_said w u refl (extends_refl w u refl refl) s))

  sent : IsWalked d SendsOn
  sent = record {
    quiet = λ at w v ops seats acts offers. let e : Extends w v = extends_refl w v acts offers in alike at w v ops e (same_said w v acts e);
    next = λ at u v w s t. record { extends = extends_then u v w s.extends t.extends; gone = λ g. t.gone (s.gone g); handed_over = λ x. t.handed_over (s.handed_over x) };
    acting = λ at x w v unsent ops seats acts offers.
        let e : Extends w v = record { actions = x ∷ []; on_actions = acts; offers = []; offered = offers ∙ sym (append-nil w.offers) } in
        alike at w v ops e (λ s. subst (AreHandedOver v) (sym acts) (unsent-said v x w.actions unsent, said_more w v w.actions e s));
    offers = λ at x w is.
        let e : Extends w (with_offers (x ∷ []) w) = record { actions = []; on_actions = refl; offers = x ∷ []; offered = refl } in
        alike at w (with_offers (x ∷ []) w) refl e (same_said w (with_offers (x ∷ []) w) refl e);
    emit = λ at x w. alike at w (with_emit at x w) (emit_ops at x w) (emit_extends at x w) (emit_said at x w);
    lends = λ at op w is none.
        let e : Extends w (with_call_op op w) = extends_refl w (with_call_op op w) refl refl in
        record {
          extends = e;
          gone = λ g. (subst (Each (GoesOut (with_call_op op w))) (sym none) tt, gone_more w (with_call_op op w) w.call_ops e g);
          handed_over = same_said w (with_call_op op w) refl e;
        };
    brings = λ at op output w is out. brings_on at op output w out;
    lodges = λ at op output w is. lodges_on at op output w;
  }

  module _ (token : List ℕ) (begins : BeginsChangeNothing) where
    record IsGoneIn (w : RunState) : Type 0 where
      gone : AllGone w w.call_ops
      handed_over : AreHandedOver w w.actions

    gone_on : (at : ℕ) (w v : RunState) → SendsOn at w v → IsGoneIn w → IsGoneIn v
    gone_on at w v s g = record { gone = s.gone g.gone; handed_over = s.handed_over g.handed_over }

    fired_by : (o : Option ℕ) (w v : RunState) → FiresBy d token SendsOn sent o w v → IsGoneIn w → IsGoneIn v
    fired_by None w v is g = subst IsGoneIn (sym is) g
    fired_by (Some at) w v is g = gone_on at w v is g

    settled_gone : (fuel now : ℕ) (w : RunState) → IsGoneIn w → IsGoneIn (after_due_deadlines d token fuel now w)
    settled_gone zero now w g = g
    settled_gone (suc fuel) now w g =
        settled_gone fuel now (after_one_deadline d token now w) (fired_by (moment_due now w) w (after_one_deadline d token now w) (after_firing_at d token SendsOn sent begins now w) g)

    after_gone : (fuel : ℕ) (xs : List TimedEvent) (w : RunState) → IsGoneIn w → IsGoneIn (after_events d token fuel xs w)
    after_gone fuel [] w g = g
    after_gone fuel (x ∷ xs) w g =
        after_gone fuel xs (after_event_in_order d token fuel x w)
        (gone_on (clock_at w x.at) (after_due_deadlines d token fuel (clock_at w x.at) w) (after_event_in_order d token fuel x w)
        (after_event_at d token SendsOn sent (clock_at w x.at) x.parsed x.accepted (after_due_deadlines d token fuel (clock_at w x.at) w)) (settled_gone fuel (clock_at w x.at) w g))

    -- those of one call
    of_call_gone : (w : RunState) (number : ℕ) (ops : List TableOp) → AllGone w ops → Each (GoesOut w) (emits_of (call_config d) number ops)
    unfolding emits_of
    of_call_gone w number [] g = tt
    of_call_gone w number (op ∷ older) g =
        each_append (GoesOut w) (emits_of (call_config d) number older) _ (of_call_gone w number older g.1) (go (is_number number (call_of (call_config d) op (table_after (call_config d) older))))
      where
        go : (b : Bool) → Each (GoesOut w) (if b then out_by (call_config d) op (table_after (call_config d) older) else [])
        go true = g.0
        go false = tt

    all_gone : (loaded : Texts) (fuel : ℕ) (recorded : List EventRecord) → IsGoneIn (state_after d token loaded fuel recorded)
    all_gone loaded fuel recorded = after_gone fuel (timed_events d recorded) (initial_state loaded) (record { gone = tt; handed_over = tt })

    pub calls_go_out : (loaded : Texts) (fuel : ℕ) (recorded : List EventRecord) (number : ℕ) →
        Each (GoesOut (state_after d token loaded fuel recorded)) (emits_of (call_config d) number (state_after d token loaded fuel recorded).call_ops)
    calls_go_out loaded fuel recorded number =
        let w : RunState = state_after d token loaded fuel recorded in of_call_gone w number w.call_ops (all_gone loaded fuel recorded).gone

    pub replies_said : (loaded : Texts) (fuel : ℕ) (recorded : List EventRecord) → AreHandedOver (state_after d token loaded fuel recorded) (state_after d token loaded fuel recorded).actions
    replies_said loaded fuel recorded = (all_gone loaded fuel recorded).handed_over
