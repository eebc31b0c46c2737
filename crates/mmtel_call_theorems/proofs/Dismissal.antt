-- The requests in flight of a call get their final responses.
use Rattle.std.proofs.Common.{◌≡◌, ◌∙◌, ◌⊎◌, inl, inr, ℕ, Bool, true, false, not, List, [], ◌∷◌, ◌++◌, map, Option, Some, None, refl, sym, subst, ap, append_assoc, append-nil}
use Rattle.std.proofs.lemmas.List.{map-append}
use Rattle.std.specs.Prelude.{codes, if◌then◌else◌, slice_get}
use Rattle.std.specs.List.{filter}
use Rattle.mmtel_compose.specs.Requests.{own_parts}
use Rattle.mmtel_compose.specs.ReceivedMessages.{MessageView}
use Rattle.mmtel_call_services.specs.CallConfig.{CallConfigView}
use Rattle.mmtel_call.specs.Closing.{StepResult}
use Rattle.mmtel_call.specs.Dismissal.{leaves_on_cancel, leaves_on_due}
use Rattle.mmtel_call.specs.RelayedTransactions.{is_updating, output_after_dismissal, with_all_dismissals, with_dismissal, with_dismissals, with_settled_in, without_in_flight}
use Rattle.mmtel_call.specs.Detaching.{call_finish, finish_of_phase, is_detached}
use Rattle.mmtel_call.specs.Table.{leaves, leaves_on_response, leaves_on_timeout_of, step, transition}
use Rattle.mmtel_call.specs.declared.calls.Call.{Call}
use Rattle.mmtel_call.specs.declared.calls.RelayedTransaction.{RelayedTransaction}
use Rattle.mmtel_call.specs.declared.calls.RelayedKind.{RelayedKind}
use Rattle.mmtel_call.specs.declared.calls.RelayedKind.TheVariants.{Prack, Update}
use Rattle.mmtel_call.specs.declared.calls.Phase.{Phase}
use Rattle.mmtel_call.specs.declared.calls.Phase.TheVariants.{Detached, Established, Offered, Over}
use Rattle.mmtel_call.specs.declared.calls.Stage.{Stage}
use Rattle.mmtel_call.specs.declared.calls.Stage.TheVariants.{Answered, Departing, Reinviting, Stable}
use Rattle.mmtel_call.specs.declared.signals.Signal.{Signal}
use Rattle.mmtel_call.specs.declared.signals.Signal.TheVariants as signal
use Rattle.mmtel_output.specs.Outputs.{token}
use Rattle.mmtel_output.specs.ResponseMatching.{awaited_request_branch, timed_out_branch}
use Rattle.mmtel_output.specs.declared.outputs.StepOutput.{StepOutput}
use Rattle.mmtel_leg.specs.Releases.{released_leg}
use Rattle.mmtel_leg.specs.Requests.{request_of}
use Rattle.mmtel_leg.specs.declared.dialogues.Dialogue.{Dialogue}
use Rattle.mmtel_precedence.specs.Calls.{SnapshotView}
use Rattle.mmtel_transaction.specs.declared.words.DueWord.{DueWord}
use Rattle.mmtel_transaction.specs.declared.words.DueWord.TheVariants as due
use Rattle.mmtel_transaction.specs.declared.words.Emit.{Emit}
use Rattle.mmtel_transaction.specs.declared.words.Emit.TheVariants as emit
use Rattle.mmtel_transaction.specs.declared.words.TKey.{TKey}
use Rattle.mmtel_types.specs.declared.sides.Side.{Side}
use Rattle.mmtel_call_theorems.specs.Dismissal as dismissal
use Rattle.mmtel_call_theorems.specs.Dismissal.{AreDismissed, AttemptHasEnded, EndsDismiss, InFlightContinues, NothingIsInFlight, ReceivedIsOf, StepsContinue, StepsDismiss, dismissal_order, final_of, other_dialogue}
use Rattle.mmtel_call_theorems.specs.NoInjection.Emits.{Each}
use Rattle.mmtel_call_theorems.specs.Replies.{CallIsOf, IsRepliedIn, PhaseIsOf, SignalIsOf, StageIsOf}
use Rattle.mmtel_call_theorems.proofs.NoInjection.Sending.{each_append}
use Rattle.mmtel_call_theorems.specs.CallTrace.{TraceStart, TraceStep, call_after, first_step, is_over}
use Rattle.mmtel_call_theorems.proofs.Replies.Transitions as replies
mod Transitions
use Rattle.mmtel_call_theorems.proofs.Dismissal.Transitions as rows

-- ---- the final responses

module _ (config : CallConfigView) (c : Call) where
  abbrev finals : List RelayedTransaction → List Emit
  finals flights = map (final_of config c) flights

  -- its status is 481, or 487
  one_out : (flight : RelayedTransaction) (output : StepOutput) → (with_dismissal config c flight output).out ≡ output.out ++ final_of config c flight ∷ []
  one_out flight output = by flight.kind
    where
      by : (kind : RelayedKind) → (with_dismissal config c (record flight { kind = kind }) output).out ≡ output.out ++ final_of config c (record flight { kind = kind }) ∷ []
      by Prack = refl
      by Update = refl

  each_out : (flights : List RelayedTransaction) (output : StepOutput) → (with_dismissals config c flights output).out ≡ output.out ++ finals flights
  each_out [] output = sym (append-nil output.out)
  each_out (flight ∷ flights) output =
      each_out flights (with_dismissal config c flight output) ∙ ap (λ (o : List Emit). o ++ finals flights) (one_out flight output) ∙ append_assoc output.out (final_of config c flight ∷ []) (finals flights)

  all_out : (output : StepOutput) → (with_all_dismissals config c output).out ≡ output.out ++ finals (dismissal_order c.relayed)
  all_out output =
      let pracks : List RelayedTransaction = filter (λ flight. not (is_updating flight)) c.relayed in
      let updates : List RelayedTransaction = filter is_updating c.relayed in
      each_out updates (with_dismissals config c pracks output) ∙ ap (λ (o : List Emit). o ++ finals updates) (each_out pracks output) ∙ append_assoc output.out (finals pracks) (finals updates)
      ∙ ap (λ (o : List Emit). output.out ++ o) (sym (map-append (final_of config c) pracks updates))

  -- what is settled after them
  pub record Follows (before : List Emit) (out : List Emit) : Type 0 where
    pub more : List Emit
    pub is : out ≡ before ++ more
    pub quiet : (own : ℕ → Bool) → Each (IsRepliedIn own) more

  none_follows : (out : List Emit) → Follows out out
  none_follows out = record { more = []; is = sym (append-nil out); quiet = λ own. tt }

  settled_follows : (phase : Phase) (output : StepOutput) → Follows output.out (with_settled_in phase config c output).out
  settled_follows (Offered x) output = by config.reliable
    where
      by : (b : Bool) → Follows output.out (if b then record output { out = output.out ++ emit.Settled c.opening.key None ∷ [] } else output).out
      by true = record { more = emit.Settled c.opening.key None ∷ []; is = refl; quiet = λ own. (tt, tt) }
      by false = none_follows output.out
  settled_follows (Established x stage) output = none_follows output.out
  settled_follows (Detached detached) output = none_follows output.out
  settled_follows (Over cause) output = none_follows output.out

  pub dismissing_follows : (output : StepOutput) → Follows (output.out ++ finals (dismissal_order c.relayed)) (output_after_dismissal config c output).out
  dismissing_follows output = subst (λ (o : List Emit). Follows o (output_after_dismissal config c output).out) (all_out output) (settled_follows c.phase (with_all_dismissals config c output))

-- ---- what follows them replies to other requests

tail_same : {A : Type 0} (x : A) (ys zs : List A) → x ∷ ys ≡ x ∷ zs → ys ≡ zs
tail_same x ys zs e = cc

same_behind : {A : Type 0} (xs ys zs : List A) → xs ++ ys ≡ xs ++ zs → ys ≡ zs
same_behind [] ys zs e = e
same_behind (x ∷ xs) ys zs e = same_behind xs ys zs (tail_same x (xs ++ ys) (xs ++ zs) e)

-- each transaction is among these
abbrev all : ℕ → Bool
all k = true

stage_of_all : (stage : Stage) → StageIsOf all stage
stage_of_all (Answered waiting success) = tt
stage_of_all (Departing waiting success) = tt
stage_of_all Stable = tt
stage_of_all (Reinviting asking q) = refl

phase_of_all : (phase : Phase) → PhaseIsOf all phase
phase_of_all (Offered x) = tt
phase_of_all (Established x stage) = stage_of_all stage
phase_of_all (Detached detached) = tt
phase_of_all (Over cause) = tt

signal_of_all : (received : Signal) → SignalIsOf all received
signal_of_all (signal.Request side key request) = refl
signal_of_all (signal.Ack side ack) = tt
signal_of_all (signal.Cancel key cancel invite) = refl
signal_of_all (signal.Answer key response) = tt
signal_of_all (signal.Silent branch method) = tt
signal_of_all (signal.Due what) = tt
signal_of_all (signal.Ended key) = tt

-- whether the attempt ends without a 2xx is the same without the requests in flight
leaves_in : (phase : Phase) (invite : TKey) (what : DueWord) (c : Call) →
    (leaves_on_cancel phase invite (without_in_flight c) ≡ leaves_on_cancel phase invite c) × (leaves_on_due phase what (without_in_flight c) ≡ leaves_on_due phase what c)
leaves_in (Offered x) invite (due.NoReply number) c = (refl, refl)
leaves_in (Offered x) invite (due.NoPrack own) c = (refl, refl)
leaves_in (Offered x) invite (due.Cap number) c = (refl, refl)
leaves_in (Offered x) invite (due.NoAck number) c = (refl, refl)
leaves_in (Offered x) invite (due.Expired number) c = (refl, refl)
leaves_in (Established x stage) invite what c = (refl, refl)
leaves_in (Detached detached) invite what c = (refl, refl)
leaves_in (Over cause) invite what c = (refl, refl)

response_leaves : (branch : Option (List ℕ)) (m : MessageView) (c : Call) → leaves_on_response branch m (without_in_flight c) ≡ leaves_on_response branch m c
response_leaves None m c = refl
response_leaves (Some branch) m c = refl

timeout_leaves : (branch : Option (List ℕ)) (c : Call) → leaves_on_timeout_of branch (without_in_flight c) ≡ leaves_on_timeout_of branch c
timeout_leaves None c = refl
timeout_leaves (Some branch) c = refl

same_leaves : (received : Signal) (c : Call) → leaves received (without_in_flight c) ≡ leaves received c
same_leaves (signal.Request side key request) c = refl
same_leaves (signal.Ack side ack) c = refl
same_leaves (signal.Cancel key cancel invite) c = (leaves_in c.phase invite (due.NoAck 0) c).0
same_leaves (signal.Answer key response) c = response_leaves (awaited_request_branch response) response c
same_leaves (signal.Silent branch method) c = timeout_leaves (timed_out_branch branch method) c
same_leaves (signal.Due what) c = (leaves_in c.phase c.opening.key what c).1
same_leaves (signal.Ended key) c = refl

none_left : (c : Call) (s : StepResult) → rows.Leaves (without_in_flight c) s → s.call.relayed ≡ []
none_left c s (inl e) = e
none_left c s (inr e) = e

-- a step that ends the attempt without a 2xx, or the call
module _ (config : CallConfigView) (now : SnapshotView) (received : Signal) (c : Call) (output : StepOutput) where
  abbrev notified : StepOutput
  notified = output_after_dismissal config c output

  abbrev left : StepResult
  left = transition config now received (without_in_flight c) notified

  replied : (own : ℕ → Bool) → CallIsOf own (without_in_flight c) → SignalIsOf own received → replies.Good own config notified.out left
  replied own is a = replies.transition_good own config notified.out now received (without_in_flight c) notified a is.phase (is.opening, tt) (record { more = []; is = sym (append-nil notified.out); each = tt })

  abbrev behind : List Emit
  behind = (replied all (record { opening = refl; phase = phase_of_all c.phase; in_flight = tt }) (signal_of_all received)).output_in.more

  behind_is : left.output.out ≡ notified.out ++ behind
  behind_is = (replied all (record { opening = refl; phase = phase_of_all c.phase; in_flight = tt }) (signal_of_all received)).output_in.is

  are_dismissed : leaves received c ≡ true → AreDismissed config (ReceivedIsOf received) c output left
  are_dismissed e =
      let front : List Emit = map (final_of config c) (dismissal_order c.relayed) in
      let f = dismissing_follows config c output in
      record {
        none = none_left c left (subst (λ (b : Bool). rows.StepKind received b (without_in_flight c) notified left) (same_leaves received c ∙ e) (rows.row_goes config now received (without_in_flight c) notified));
        more = f.more ++ behind;
        out =
            behind_is ∙ ap (λ (o : List Emit). o ++ behind) f.is ∙ append_assoc (output.out ++ front) f.more behind ∙ append_assoc output.out front (f.more ++ behind);
        once = λ own is a.
            let r = replied own is a in
            let same : r.output_in.more ≡ behind = same_behind notified.out r.output_in.more behind (sym r.output_in.is ∙ behind_is) in
            each_append (IsRepliedIn own) f.more behind (f.quiet own) (subst (Each (IsRepliedIn own)) same r.output_in.each);
      }

  stays : leaves received c ≡ false → rows.Stays received c output (transition config now received c output)
  stays e = subst (λ (b : Bool). rows.StepKind received b c output (transition config now received c output)) e (rows.row_goes config now received c output)

  abbrev after : Bool → StepResult
  after b = if b then left else transition config now received c output

  goes_on : (b : Bool) → leaves received c ≡ b → InFlightContinues received c output (after b) ⊎ AreDismissed config (ReceivedIsOf received) c output (after b)
  goes_on true e = inr (are_dismissed e)
  goes_on false e = inl (stays e).flies

  is_left : (b : Bool) → leaves received c ≡ b → AttemptHasEnded c (after b).call → AreDismissed config (ReceivedIsOf received) c output (after b)
  is_left true e l = are_dismissed e
  is_left false e (inl other) = absurd (other (stays e).attempts)
  is_left false e (inr over) = absurd (let f : true ≡ false = sym over.1 ∙ (stays e).over ∙ over.0 in cc)

  -- nothing is in flight of a call that is over
  none_after : (b : Bool) → leaves received c ≡ b → (is_over c.phase ≡ true → c.relayed ≡ []) → is_over (after b).call.phase ≡ true → (after b).call.relayed ≡ []
  none_after true e none over = (are_dismissed e).none
  none_after false e none over =
      let was : is_over c.phase ≡ true = sym (stays e).over ∙ over in by (none was) was (stays e).flies
    where
      no_other : (phase : Phase) (side : Side) (d : Dialogue) → is_over phase ≡ true → other_dialogue phase side ≡ Some d → ⊥
      no_other (Offered x) side d f g = absurd cc
      no_other (Established x stage) side d f g = absurd cc
      no_other (Detached detached) side d f g = absurd cc
      no_other (Over cause) side d f g = absurd cc

      none_there : (flights : List RelayedTransaction) (place : ℕ) (flight : RelayedTransaction) → flights ≡ [] → slice_get flights place ≡ Some flight → ⊥
      none_there [] place flight f g = absurd cc
      none_there (x ∷ xs) place flight f g = absurd cc

      by : c.relayed ≡ [] → is_over c.phase ≡ true → InFlightContinues received c output (transition config now received c output) → (transition config now received c output).call.relayed ≡ []
      by empty was (dismissal.Same f) = f ∙ empty
      by empty was (dismissal.OneRelayed flight is f) = absurd (no_other c.phase flight.side is.dialogue was is.other)
      by empty was (dismissal.OneAnswered place flight is) = absurd (none_there c.relayed place flight empty is.there)

pub steps_dismiss : StepsDismiss
unfolding step
steps_dismiss config now received c output l = is_left config now received c output (leaves received c) refl l

pub steps_go_on : StepsContinue
unfolding step
steps_go_on config now received c output = goes_on config now received c output (leaves received c) refl

step_none : (config : CallConfigView) (now : SnapshotView) (received : Signal) (c : Call) (output : StepOutput) → (is_over c.phase ≡ true → c.relayed ≡ []) →
    is_over (step config now received c output).call.phase ≡ true → (step config now received c output).call.relayed ≡ []
unfolding step
step_none config now received c output none over = none_after config now received c output (leaves received c) refl none over

first_none : (s : TraceStart) → (first_step s).call.relayed ≡ []
first_none s = rows.opened_none s.config s.now s.arrival s.output

pub last_none : (s : TraceStart) (received : List TraceStep) → is_over (call_after s received).phase ≡ true → (call_after s received).relayed ≡ []
unfolding call_after
last_none s [] over = first_none s
last_none s (x ∷ earlier) over = step_none s.config x.now x.signal (call_after s earlier) x.output (last_none s earlier) over

pub nothing_in_flight : NothingIsInFlight
nothing_in_flight = record { first = first_none; last = last_none }

-- ---- without a detached leg

ends_in : (phase : Phase) (config : CallConfigView) (at : ℕ) (c : Call) (output : StepOutput) → is_detached phase ≡ true →
    AreDismissed config (λ own. Unit {0}) (record c { phase = phase }) output (finish_of_phase phase config at (record c { phase = phase }) output)
ends_in (Offered x) config at c output e = absurd cc
ends_in (Established x stage) config at c output e = absurd cc
ends_in (Detached detached) config at c output e =
    let detached_call : Call = record c { phase = Detached detached } in
    let front : List Emit = map (final_of config detached_call) (dismissal_order c.relayed) in
    let f = dismissing_follows config detached_call output in
    let d : Dialogue = (released_leg detached.remaining).dialogue in
    let ask : Emit = emit.Ask d.peer (request_of d (codes "BYE") (own_parts config.sip (token (output_after_dismissal config detached_call output)) [] [])) in
    record {
      none = refl;
      more = f.more ++ ask ∷ [];
      out = ap (λ (o : List Emit). o ++ ask ∷ []) f.is ∙ append_assoc (output.out ++ front) f.more (ask ∷ []) ∙ append_assoc output.out front (f.more ++ ask ∷ []);
      once = λ own is a. each_append (IsRepliedIn own) f.more (ask ∷ []) (f.quiet own) (tt, tt);
    }
ends_in (Over cause) config at c output e = absurd cc

pub ends_dismiss : EndsDismiss
unfolding call_finish
ends_dismiss config at c output e = ends_in c.phase config at c output e
