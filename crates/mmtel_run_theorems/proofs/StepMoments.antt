-- Each step of a run has one moment.
use Rattle.std.proofs.Common.{◌≡◌, ℕ, zero, suc, List, [], ◌∷◌, ◌++◌, length, refl, sym, ap, ◌∙◌, Option, Some, None, append_assoc, append-nil}
use Rattle.mmtel_b2bua.specs.Operations.{Drops, TableOp}
use Rattle.mmtel_call_theorems.proofs.NoInjection.Sending.{each_append}
use Rattle.mmtel_call_theorems.specs.NoInjection.Emits.{Each}
use Rattle.mmtel_output.specs.declared.outputs.StepOutput.{StepOutput}
use Rattle.mmtel_directory.specs.declared.directories.Directory.{Directory}
use Rattle.mmtel_focus.specs.Operations as rooms
use Rattle.mmtel_message.specs.Texts.{message_text}
use Rattle.mmtel_environment.specs.declared.events.Offer.{Offer}
use Rattle.mmtel_transaction.specs.Results.{peer_of}
use Rattle.mmtel_transaction.specs.Operations.{live}
use Rattle.mmtel_transaction.specs.Firings.{BeginsChangeNothing}
use Rattle.mmtel_transaction.specs.declared.words.Emit.{Emit}
use Rattle.mmtel_transaction.specs.declared.words.Emit.TheVariants as emit
use Rattle.mmtel_types.specs.declared.numbers.Peer.{Peer}
use Rattle.mmtel_run_definitions.specs.Events.{TimedEvent}
use Rattle.mmtel_run_definitions.specs.Run.{after_due_deadlines, after_event_in_order, after_one_deadline, clock_at}
use Rattle.mmtel_run_definitions.specs.Transitions.{RunState, to_peer, with_call_op, with_call_output, with_conference_output, with_emit, with_emits, with_offers}
use Rattle.mmtel_run_theorems.specs.StepMoments.{AreFired, AreTimed, IsCallOpAt, IsConferenceOpAt, IsOfferAt, IsStepAt, IsStepIf, moment_due}
use Rattle.mmtel_run_theorems.proofs.Transitions.{FiresBy, IsWalked, after_event_at, after_firing_at}

-- what is done at this moment, in a state
abbrev Timed : ℕ → (RunState → RunState) → Type 0
Timed at f = (w : RunState) → IsStepAt at w (f w)

-- nothing of it has a moment
quiet : {at : ℕ} (w v : RunState) → v.call_ops ≡ w.call_ops → v.conference_ops ≡ w.conference_ops → v.offers ≡ w.offers → IsStepAt at w v
quiet w v ops seats offers = record {
  calls = [];
  on_calls = ops;
  calls_at = tt;
  conferences = [];
  on_conferences = seats;
  conferences_at = tt;
  offers = [];
  offered = offers ∙ sym (append-nil w.offers);
  offers_at = tt;
}

still : {at : ℕ} (w : RunState) → IsStepAt at w w
still w = quiet w w refl refl refl

-- one after another
after_it : {at : ℕ} (u v w : RunState) → IsStepAt at u v → IsStepAt at v w → IsStepAt at u w
after_it {at} u v w s t = record {
  calls = t.calls ++ s.calls;
  on_calls = t.on_calls ∙ (ap (λ (ops : List TableOp). t.calls ++ ops) s.on_calls ∙ sym (append_assoc t.calls s.calls u.call_ops));
  calls_at = each_append (IsCallOpAt at) t.calls s.calls t.calls_at s.calls_at;
  conferences = t.conferences ++ s.conferences;
  on_conferences = t.on_conferences ∙ (ap (λ (ops : List rooms.TableOp). t.conferences ++ ops) s.on_conferences ∙ sym (append_assoc t.conferences s.conferences u.conference_ops));
  conferences_at = each_append (IsConferenceOpAt at) t.conferences s.conferences t.conferences_at s.conferences_at;
  offers = s.offers ++ t.offers;
  offered = t.offered ∙ (ap (λ (offers : List Offer). offers ++ t.offers) s.offered ∙ append_assoc u.offers s.offers t.offers);
  offers_at = each_append (IsOfferAt at) s.offers t.offers s.offers_at t.offers_at;
}

-- these are the outputs
offered_at : {at : ℕ} (w v : RunState) (offers : List Offer) → v.call_ops ≡ w.call_ops → v.conference_ops ≡ w.conference_ops → v.offers ≡ w.offers ++ offers → Each (IsOfferAt at) offers → IsStepAt at w v
offered_at w v offers ops seats offered is = record {
  calls = [];
  on_calls = ops;
  calls_at = tt;
  conferences = [];
  on_conferences = seats;
  conferences_at = tt;
  offers = offers;
  offered = offered;
  offers_at = is;
}

module _ (at : ℕ) where
  to_peer_at : (text : List ℕ) (o : Option Peer) → Each (IsOfferAt at) (to_peer at text o)
  to_peer_at text None = tt
  to_peer_at text (Some peer) = (refl, tt)

  emit_at : (x : Emit) → Timed at (with_emit at x)
  emit_at (emit.Ask peer message) w = offered_at w _ _ refl refl refl (refl, tt)
  emit_at (emit.Reply key message) w = offered_at w _ _ refl refl refl (to_peer_at (message_text message) (peer_of key.0 (live w.actions)))
  emit_at (emit.Plain peer text) w = offered_at w _ _ refl refl refl (refl, tt)
  emit_at (emit.Ack key message) w = offered_at w _ _ refl refl refl (to_peer_at (message_text message) (peer_of key.0 (live w.actions)))
  emit_at (emit.Settled key own) w = quiet w _ refl refl refl
  emit_at (emit.Arm call what when) w = quiet w _ refl refl refl
  emit_at (emit.ArmSeat room seat what when) w = quiet w _ refl refl refl

  with_emits_at : (xs : List Emit) → Timed at (with_emits at xs)
  with_emits_at [] w = still w
  with_emits_at (x ∷ xs) w = after_it w (with_emit at x w) (with_emits at xs (with_emit at x w)) (emit_at x w) (with_emits_at xs (with_emit at x w))

  -- ---- operations on calls and conferences

  with_call_op_at : (op : TableOp) → IsCallOpAt at op → Timed at (with_call_op op)
  with_call_op_at op is w = record {
    calls = op ∷ [];
    on_calls = refl;
    calls_at = (is, tt);
    conferences = [];
    on_conferences = refl;
    conferences_at = tt;
    offers = [];
    offered = sym (append-nil w.offers);
    offers_at = tt;
  }

  with_call_output_at : (op : TableOp) (output : StepOutput) → IsCallOpAt at op → Timed at (with_call_output at op output)
  with_call_output_at op output is w =
      let v : RunState = record w { call_ops = Drops (length output.rows) ∷ op ∷ w.call_ops; drawn = output.tokens.drawn; waiting = w.waiting ++ output.rows } in
      let done : IsStepAt at w v = record {
        calls = Drops (length output.rows) ∷ op ∷ [];
        on_calls = refl;
        calls_at = (tt, (is, tt));
        conferences = [];
        on_conferences = refl;
        conferences_at = tt;
        offers = [];
        offered = sym (append-nil w.offers);
        offers_at = tt;
      } in
      after_it w v (with_emits at output.out v) done (with_emits_at output.out v)

  with_conference_output_at : (op : rooms.TableOp) (output : StepOutput) → IsConferenceOpAt at op → Timed at (with_conference_output at op output)
  with_conference_output_at op output is w =
      let v : RunState = record w { conference_ops = rooms.Drops (length output.rows) ∷ op ∷ w.conference_ops; waiting = w.waiting ++ output.rows } in
      let done : IsStepAt at w v = record {
        calls = [];
        on_calls = refl;
        calls_at = tt;
        conferences = rooms.Drops (length output.rows) ∷ op ∷ [];
        on_conferences = refl;
        conferences_at = (tt, (is, tt));
        offers = [];
        offered = sym (append-nil w.offers);
        offers_at = tt;
      } in
      after_it w v (with_emits at output.out v) done (with_emits_at output.out v)

-- ---- this holds for every definition

module _ (d : Directory) (token : List ℕ) (begins : BeginsChangeNothing) where
  timed : IsWalked d IsStepAt
  timed = record {
    quiet = λ at w v ops seats acts offers. quiet w v ops seats offers;
    next = λ at u v w s t. after_it u v w s t;
    acting = λ at x w v unsent ops seats acts offers. quiet w v ops seats offers;
    offers = λ at x w is. offered_at w (with_offers (x ∷ []) w) (x ∷ []) refl refl refl (is, tt);
    emit = λ at x w. emit_at at x w;
    lends = λ at op w is none. with_call_op_at at op is w;
    brings = λ at op output w is out. with_call_output_at at op output is w;
    lodges = λ at op output w is. with_conference_output_at at op output is w;
  }

  fired_by : (o : Option ℕ) (w v : RunState) → FiresBy d token IsStepAt timed o w v → IsStepIf o w v
  fired_by None w v is = is
  fired_by (Some at) w v is = is

  after_due_deadlines_at : (fuel now : ℕ) (w : RunState) → AreFired d token fuel now w
  after_due_deadlines_at zero now w = tt
  after_due_deadlines_at (suc fuel) now w = (
    fired_by (moment_due now w) w (after_one_deadline d token now w) (after_firing_at d token IsStepAt timed begins now w),
    after_due_deadlines_at fuel now (after_one_deadline d token now w),
  )

  pub all_timed : (fuel : ℕ) (xs : List TimedEvent) (w : RunState) → AreTimed d token fuel xs w
  all_timed fuel [] w = tt
  all_timed fuel (x ∷ xs) w = (
    after_due_deadlines_at fuel (clock_at w x.at) w,
    after_event_at d token IsStepAt timed (clock_at w x.at) x.parsed x.accepted (after_due_deadlines d token fuel (clock_at w x.at) w),
    all_timed fuel xs (after_event_in_order d token fuel x w),
  )
