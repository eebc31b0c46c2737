-- Calls reply in the server transactions of their own requests.
use Rattle.std.proofs.Common.{◌≡◌, true, ℕ, Bool, List, [], ◌++◌, sym, subst, append-nil}
use Rattle.mmtel_call.specs.Closing.{StepResult}
use Rattle.mmtel_call.specs.Detaching.{detached_at, detached_in, with_leg_restored}
use Rattle.mmtel_call.specs.declared.calls.Call.{Call}
use Rattle.mmtel_call.specs.declared.calls.EstablishedLegs.{EstablishedLegs}
use Rattle.mmtel_call.specs.declared.calls.Phase.{Phase}
use Rattle.mmtel_call.specs.declared.calls.Phase.TheVariants.{Detached, Established, Offered, Over}
use Rattle.mmtel_call.specs.declared.calls.Stage.{Stage}
use Rattle.mmtel_call.specs.declared.calls.Stage.TheVariants.{Answered, Departing, Reinviting, Stable}
use Rattle.mmtel_call_services.specs.CallConfig.{CallConfigView}
use Rattle.mmtel_leg.specs.declared.legs.Released.{Released}
use Rattle.mmtel_types.specs.declared.sides.Side.{Side}
use Rattle.mmtel_call_theorems.specs.NoInjection.Emits.{Each}
use Rattle.mmtel_call_theorems.specs.Replies.{CallIsOf, DetachedCallsKeepTheirOwn, EndsReplyInTheirOwn, InFlightIsOf, IsRepliedIn}
use Rattle.mmtel_call_theorems.specs.Replies.{OpeningsReplyInTheirOwn, PhaseIsOf, RepliesIn, RestoredCallsKeepTheirOwn, StageIsOf, StepsReplyInTheirOwn}
use Rattle.mmtel_call_theorems.proofs.NoInjection.Sending.{each_append}
use Rattle.mmtel_transaction.specs.declared.words.Emit.{Emit}
pub mod Transitions
use Rattle.mmtel_call_theorems.proofs.Replies.Transitions as rows

module _ (own : ℕ → Bool) (config : CallConfigView) (before : List Emit) where
  in_own : (s : StepResult) → Each (IsRepliedIn own) before → rows.Good own config before s → RepliesIn own s
  in_own s had is = record {
    call_in = is.call_in;
    out_in = subst (Each (IsRepliedIn own)) (sym is.output_in.is) (each_append (IsRepliedIn own) before is.output_in.more had is.output_in.each);
  }

  nothing : rows.Replies own config before before
  nothing = record { more = []; is = sym (append-nil before); each = tt }

pub steps_reply_in_their_own : StepsReplyInTheirOwn
steps_reply_in_their_own own config now received c output is a had =
    in_own own config output.out _ had (rows.step_good own config output.out now received c output a is.phase (is.opening, is.in_flight) (nothing own config output.out))

pub openings_reply_in_their_own : OpeningsReplyInTheirOwn
openings_reply_in_their_own own config now arrival output is had = in_own own config output.out _ had (rows.opened_good own config output.out now arrival output is (nothing own config output.out))

pub ends_reply_in_their_own : EndsReplyInTheirOwn
ends_reply_in_their_own own config at c output is had = in_own own config output.out _ had (rows.finished_good own config output.out at c output is.phase (is.opening, is.in_flight) (nothing own config output.out))

-- ---- a leg is detached, or put back

module _ (own : ℕ → Bool) where
  abbrev Opens : Call → Type 0
  Opens c = (own c.opening.key.0 ≡ true) × InFlightIsOf own c.relayed

  detached_at_own : (stage : Stage) (side : Side) (x : EstablishedLegs) (c : Call) → StageIsOf own stage → Opens c → CallIsOf own (detached_at stage side x (record c { phase = Established x stage }))
  detached_at_own (Answered waiting success) side x c p k = record { opening = k.0; in_flight = k.1; phase = p }
  detached_at_own (Departing waiting success) side x c p k = record { opening = k.0; in_flight = k.1; phase = p }
  detached_at_own Stable side x c p k = record { opening = k.0; in_flight = k.1; phase = tt }
  detached_at_own (Reinviting asking q) side x c p k = record { opening = k.0; in_flight = k.1; phase = p }

  detached_own : (p : Phase) (side : Side) (c : Call) → PhaseIsOf own p → Opens c → CallIsOf own (detached_in p side (record c { phase = p }))
  detached_own (Offered x) side c p k = record { opening = k.0; in_flight = k.1; phase = p }
  detached_own (Established x stage) side c p k = detached_at_own stage side x c p k
  detached_own (Detached detached) side c p k = record { opening = k.0; in_flight = k.1; phase = p }
  detached_own (Over cause) side c p k = record { opening = k.0; in_flight = k.1; phase = p }

  back_own : (p : Phase) (away : Released) (c : Call) → PhaseIsOf own p → Opens c → CallIsOf own (with_leg_restored p away (record c { phase = p }))
  back_own (Offered x) away c p k = record { opening = k.0; in_flight = k.1; phase = p }
  back_own (Established x stage) away c p k = record { opening = k.0; in_flight = k.1; phase = p }
  back_own (Detached detached) away c p k = record { opening = k.0; in_flight = k.1; phase = tt }
  back_own (Over cause) away c p k = record { opening = k.0; in_flight = k.1; phase = p }

pub detached_keep_their_own : DetachedCallsKeepTheirOwn
detached_keep_their_own own side c is = detached_own own c.phase side c is.phase (is.opening, is.in_flight)

pub restored_keep_their_own : RestoredCallsKeepTheirOwn
restored_keep_their_own own away c is = back_own own c.phase away c is.phase (is.opening, is.in_flight)
