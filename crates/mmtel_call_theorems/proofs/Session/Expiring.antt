-- A stable or reinviting call is over by the deadline of its session, and by no other deadline of a session.
use Rattle.std.proofs.Common.{◌≡◌, ◌<◌, ◌==◌, ◌||◌, ℕ, Bool, true, false, List, [], ◌∷◌, ◌++◌, length, drop, Option, Some, None, refl, ap, sym, subst, ◌∙◌, append_assoc, arith}
use Rattle.std.proofs.lemmas.Bool.{eq-eqb, eqb-true}
use Rattle.std.proofs.lemmas.List.{drop_at}
use Rattle.std.proofs.lemmas.List.{append-nil}
use Rattle.std.specs.List.{filter}
use Rattle.std.specs.Prelude.{if◌then◌else◌, not}
use Rattle.mmtel_compose.specs.Responses.{own_response}
use Rattle.mmtel_compose.specs.ReceivedMessages.{status_of}
use Rattle.mmtel_call.specs.Closing.{StepResult, step_result}
use Rattle.mmtel_call.specs.Dismissal.{leaves_on_due}
use Rattle.mmtel_call.specs.Expiring.{after_expiry, after_expiry_reinviting, is_expiry}
use Rattle.mmtel_call.specs.RelayedTransactions.{is_updating, output_after_dismissal, with_all_dismissals, with_dismissal, with_dismissals, with_settled_in, without_in_flight}
use Rattle.mmtel_call.specs.Stages.{after_timer_at, is_due_at, on_due_at}
use Rattle.mmtel_call.specs.Table.{due_in, leaves, step, transition}
use Rattle.mmtel_call.specs.declared.calls.Call.{Call}
use Rattle.mmtel_call.specs.declared.calls.RelayedTransaction.{RelayedTransaction}
use Rattle.mmtel_call.specs.declared.calls.EstablishedLegs.{EstablishedLegs}
use Rattle.mmtel_call.specs.declared.calls.Phase.{Phase}
use Rattle.mmtel_call.specs.declared.calls.Phase.TheVariants.{Detached, Established, Offered, Over}
use Rattle.mmtel_call.specs.declared.calls.Reinvite.{Reinvite}
use Rattle.mmtel_call.specs.declared.calls.Stage.{Stage}
use Rattle.mmtel_call.specs.declared.calls.Stage.TheVariants.{Answered, Departing, Reinviting, Stable}
use Rattle.mmtel_call.specs.declared.signals.Signal.{Signal}
use Rattle.mmtel_call.specs.declared.signals.Signal.TheVariants as signal
use Rattle.mmtel_call_services.specs.ChargingRecords.{cause_by}
use Rattle.mmtel_call_services.specs.CallConfig.{CallConfigView}
use Rattle.mmtel_output.specs.declared.outputs.StepOutput.{StepOutput}
use Rattle.mmtel_message.specs.Addresses.{contact_text}
use Rattle.mmtel_message.specs.Message.{Message}
use Rattle.mmtel_message.specs.Responses.{response}
use Rattle.mmtel_message.specs.declared.messages.Start.{Start as StartLine}
use Rattle.mmtel_precedence.specs.Calls.{SnapshotView}
use Rattle.mmtel_session.specs.Intervals.{expiry_interval_of}
use Rattle.mmtel_transaction.specs.declared.words.DueWord.{DueWord}
use Rattle.mmtel_transaction.specs.declared.words.DueWord.TheVariants as due
use Rattle.mmtel_transaction.specs.declared.words.Emit.{Emit}
use Rattle.mmtel_transaction.specs.declared.words.Emit.TheVariants as emit
use Rattle.mmtel_transaction.specs.declared.words.TKey.{TKey}
use Rattle.mmtel_types.specs.declared.causes.Cause.TheVariants as causes
use Rattle.mmtel_types.specs.declared.sides.Side.{Side}
use Rattle.mmtel_call_theorems.specs.NoInjection.Emits.{Each}
use Rattle.mmtel_call_theorems.specs.Dismissal.{final_of, status_of as status_by}
use Rattle.mmtel_call_theorems.specs.Session.Theorems.{HasExpired, IsRefusedIn, SessionsExpire, SessionsExpireAsObserved, bye_in, expiry_at, expiry_due, is_refreshable, is_refreshable_at, number_in}
use Rattle.mmtel_call_theorems.specs.Session.Observed.{RelayedSuccess, bye_of, byes_of, is_expiry_numbered, is_numbered_among}
use Rattle.mmtel_call_theorems.specs.Labels.{InFlightHasOtherKeys, Refused, final_label, label_of, labels_of}
use Rattle.mmtel_call_theorems.proofs.Each.{each_filter}
use Rattle.mmtel_call_theorems.proofs.Labels.{labels-append}
use Rattle.mmtel_call_theorems.specs.CallTrace.{items_added}
use Rattle.mmtel_call_theorems.specs.Attempts.Theorems.{number_of_deadline}
use Rattle.mmtel_call_theorems.specs.Attempts.Observed.{Deadline}

-- ---- the deadline ends it

ended_so : (answered : Option ℕ) → cause_by answered causes.Ended ≡ causes.Ended
ended_so None = refl
ended_so (Some at) = refl

added_new : (before new out : List Emit) → out ≡ before ++ new → items_added before out ≡ new
added_new before new out is = ap (drop (length before)) is ∙ drop_at before new (length before) refl

-- three that were sent one after the other
three_out : (before : List Emit) (a b c : Emit) → ((before ++ a ∷ []) ++ b ∷ []) ++ c ∷ [] ≡ before ++ (a ∷ b ∷ c ∷ [])
three_out before a b c = ap (λ l. l ++ c ∷ []) (append_assoc before (a ∷ []) (b ∷ [])) ∙ append_assoc before (a ∷ b ∷ []) (c ∷ [])

-- of another request than the one of this server transaction
abbrev IsOther : TKey → RelayedTransaction → Type 0
IsOther key flight = (flight.exchange.key.0 == key.0) ≡ false

other_label : (key asked : TKey) (m : Message StartLine) → (asked.0 == key.0) ≡ false → label_of key (emit.Reply asked m) ≡ []
other_label key asked m e = ap (λ b. if b then final_label (status_of m.start) else []) e

-- what is dismissed before contains no BYE to a side, and nothing that is observed for the server transaction of another request
dismissed_none : (config : CallConfigView) (c : Call) (flights : List RelayedTransaction) → (new : List Emit)
    × ((output : StepOutput) → (with_dismissals config c flights output).out ≡ output.out ++ new) × (byes_of new ≡ []) × ((key : TKey) → InFlightHasOtherKeys key flights → labels_of key new ≡ [])
dismissed_none config c [] = ([], λ output. sym (append-nil output.out), refl, λ key fly. refl)
dismissed_none config c (flight ∷ flights) =
    let (new, out, byes, signs) = dismissed_none config c flights in
    let e : Emit = final_of config c flight in (
      e ∷ new,
      λ output. out (with_dismissal config c flight output) ∙ append_assoc output.out (e ∷ []) new,
      byes,
      λ key fly. ap (λ l. l ++ labels_of key new)
          (other_label key flight.exchange.key (own_response (contact_text config.sip) flight.exchange.request c.opening.tag (status_by flight.kind) [] [] []) fly.0) ∙ signs key fly.1,
    )

-- all that is in flight
record Dismissed (config : CallConfigView) (c : Call) (output before : StepOutput) : Type 0 where
  new : List Emit
  out : before.out ≡ output.out ++ new
  byes : byes_of new ≡ []
  labels : (key : TKey) → InFlightHasOtherKeys key c.relayed → labels_of key new ≡ []

byes_append : (xs ys : List Emit) → byes_of (xs ++ ys) ≡ byes_of xs ++ byes_of ys
byes_append [] ys = refl
byes_append (e ∷ xs) ys = ap (λ l. bye_of e ++ l) (byes_append xs ys) ∙ sym (append_assoc (bye_of e) (byes_of xs) (byes_of ys))

all_dismissed : (config : CallConfigView) (c : Call) (output : StepOutput) → Dismissed config c output (with_all_dismissals config c output)
all_dismissed config c output =
    let first : List RelayedTransaction = filter (λ flight. not (is_updating flight)) c.relayed in
    let second : List RelayedTransaction = filter is_updating c.relayed in
    let (one, out_one, byes_one, signs_one) = dismissed_none config c first in
    let (two, out_two, byes_two, signs_two) = dismissed_none config c second in
    record {
      new = one ++ two;
      out = out_two (with_dismissals config c first output) ∙ ap (λ l. l ++ two) (out_one output) ∙ append_assoc output.out one two;
      byes = byes_append one two ∙ ap (λ l. l ++ byes_of two) byes_one ∙ byes_two;
      labels = λ key fly.
          labels-append key one two ∙ ap (λ l. l ++ labels_of key two) (signs_one key (each_filter (IsOther key) (λ flight. not (is_updating flight)) c.relayed fly))
          ∙ signs_two key (each_filter (IsOther key) is_updating c.relayed fly);
    }

-- in an established call no reliable response waits
established_dismissed : (config : CallConfigView) (x : EstablishedLegs) (stage : Stage) (c : Call) (output : StepOutput) → c.phase ≡ Established x stage →
    Dismissed config c output (output_after_dismissal config c output)
established_dismissed config x stage c output is = subst (λ phase. Dismissed config c output (with_settled_in phase config c (with_all_dismissals config c output))) (sym is) (all_dismissed config c output)

-- an INVITE of a side that has no final response is refused
abbrev IsRefused : Stage → List Emit → Type 0
IsRefused (Answered waiting success) new = Unit {0}
IsRefused (Departing waiting success) new = Unit {0}
IsRefused Stable new = Unit {0}
IsRefused (Reinviting asking q) new = labels_of q.key new ≡ Refused 487 ∷ []

-- what a stable or reinviting call does then
record Leaves (x : EstablishedLegs) (stage : Stage) (before : StepOutput) (s : StepResult) : Type 0 where
  over : s.call.phase ≡ Over causes.Ended
  new : List Emit
  out : s.output.out ≡ before.out ++ new
  byes : byes_of new ≡ bye_in x.caller ∷ bye_in x.callee ∷ []
  refused : IsRefused stage new

talks_expired : (config : CallConfigView) (at : ℕ) (x : EstablishedLegs) (c : Call) (output : StepOutput) → Leaves x Stable output (after_expiry config at x c output)
talks_expired config at x c output = record { over = ap Over (ended_so c.answered); new = _; out = append_assoc output.out (_ ∷ []) (_ ∷ []); byes = refl; refused = tt }

asks_expired : (config : CallConfigView) (at : ℕ) (x : EstablishedLegs) (asking : Side) (q : Reinvite) (c : Call) (output : StepOutput) →
    Leaves x (Reinviting asking q) output (after_expiry_reinviting config at x asking q c output)
unfolding response
asks_expired config at x asking q c output = record {
  over = ap Over (ended_so c.answered);
  new = _;
  out = three_out output.out _ _ _;
  byes = refl;
  refused = ap (λ b. (if b then Refused 487 ∷ [] else []) ++ []) (eq-eqb q.key.0 q.key.0 refl);
}

by_stage : (config : CallConfigView) (at : ℕ) (x : EstablishedLegs) (stage : Stage) (c : Call) (output : StepOutput) → is_refreshable_at stage ≡ true → Leaves x stage output (after_timer_at stage config at x c output)
by_stage config at x (Answered waiting success) c output refreshable = absurd (let e : false ≡ true = refreshable in cc)
by_stage config at x (Departing waiting success) c output refreshable = absurd (let e : false ≡ true = refreshable in cc)
by_stage config at x Stable c output refreshable = talks_expired config at x c output
by_stage config at x (Reinviting asking q) c output refreshable = asks_expired config at x asking q c output

-- what an established call does on a deadline
hit : (config : CallConfigView) (at : ℕ) (x : EstablishedLegs) (stage : Stage) (c : Call) (output : StepOutput) → is_refreshable_at stage ≡ true →
    Leaves x stage output (on_due_at stage config at x (due.Expired c.successes) c output)
hit config at x (Answered waiting success) c output refreshable = absurd (let e : false ≡ true = refreshable in cc)
hit config at x (Departing waiting success) c output refreshable = absurd (let e : false ≡ true = refreshable in cc)
hit config at x Stable c output refreshable =
    subst (λ b. Leaves x Stable output (if b then after_expiry config at x c output else step_result c output)) (sym (eq-eqb c.successes c.successes refl)) (by_stage config at x Stable c output refreshable)
hit config at x (Reinviting asking q) c output refreshable =
    subst (λ b. Leaves x (Reinviting asking q) output (if b then after_expiry_reinviting config at x asking q c output else step_result c output)) (sym (eq-eqb c.successes c.successes refl))
    (by_stage config at x (Reinviting asking q) c output refreshable)

due_hit : (config : CallConfigView) (now : SnapshotView) (phase : Phase) (x : EstablishedLegs) (stage : Stage) (c : Call) (output : StepOutput) → phase ≡ Established x stage → is_refreshable_at stage ≡ true →
    Leaves x stage output (due_in phase config now (due.Expired c.successes) c output)
due_hit config now phase x stage c output is refreshable =
    subst (λ p. Leaves x stage output (due_in p config now (due.Expired c.successes) c output)) (sym is) (hit config now.at x stage c output refreshable)

-- so it ends, and all requests in flight get their final responses before
its_deadline : (stage : Stage) (count : ℕ) → is_refreshable_at stage ≡ true → is_due_at stage count (due.Expired count) ≡ true
its_deadline (Answered waiting success) count refreshable = absurd (let e : false ≡ true = refreshable in cc)
its_deadline (Departing waiting success) count refreshable = absurd (let e : false ≡ true = refreshable in cc)
its_deadline Stable count refreshable = eq-eqb count count refl
its_deadline (Reinviting asking q) count refreshable = eq-eqb count count refl

refused_then : (stage : Stage) (flights : List RelayedTransaction) (one two : List Emit) (before : StepOutput) (s : StepResult) → items_added before.out s.output.out ≡ one ++ two →
    ((key : TKey) → InFlightHasOtherKeys key flights → labels_of key one ≡ []) → IsRefused stage two →
    IsRefusedIn stage flights before s
refused_then (Answered waiting success) flights one two before s is signs r = tt
refused_then (Departing waiting success) flights one two before s is signs r = tt
refused_then Stable flights one two before s is signs r = tt
refused_then (Reinviting asking q) flights one two before s is signs r = λ fly. ap (labels_of q.key) is ∙ labels-append q.key one two ∙ ap (λ l. l ++ labels_of q.key two) (signs q.key fly) ∙ r

left_so : (config : CallConfigView) (x : EstablishedLegs) (stage : Stage) (c : Call) (output before : StepOutput) (s : StepResult) → Dismissed config c output before → Leaves x stage before s →
    HasExpired x stage c.relayed output s
left_so config x stage c output before s d l =
    let out : items_added output.out s.output.out ≡ d.new ++ l.new = added_new output.out (d.new ++ l.new) s.output.out (l.out ∙ ap (λ o. o ++ l.new) d.out ∙ append_assoc output.out d.new l.new) in
    record {
      over = l.over;
      byes = ap byes_of out ∙ byes_append d.new l.new ∙ ap (λ b. b ++ byes_of l.new) d.byes ∙ l.byes;
      refused = refused_then stage c.relayed d.new l.new output s out d.labels l.refused;
    }

leaving : (c : Call) (x : EstablishedLegs) (stage : Stage) → c.phase ≡ Established x stage → is_refreshable_at stage ≡ true → leaves (signal.Due (due.Expired c.successes)) c ≡ true
leaving c x stage is refreshable = ap (λ phase. leaves_on_due phase (due.Expired c.successes) c) is ∙ its_deadline stage c.successes refreshable

transition_expires : (config : CallConfigView) (now : SnapshotView) (x : EstablishedLegs) (stage : Stage) (c : Call) (output : StepOutput) → c.phase ≡ Established x stage →
    is_refreshable_at stage ≡ true → Leaves x stage output (transition config now (signal.Due (due.Expired c.successes)) c output)
unfolding transition
transition_expires config now x stage c output is refreshable = due_hit config now c.phase x stage c output is refreshable

expires : (config : CallConfigView) (now : SnapshotView) (x : EstablishedLegs) (stage : Stage) (c : Call) (output : StepOutput) → c.phase ≡ Established x stage → is_refreshable_at stage ≡ true →
    HasExpired x stage c.relayed output (step config now (signal.Due (due.Expired c.successes)) c output)
unfolding step
expires config now x stage c output is refreshable =
    let received : Signal = signal.Due (due.Expired c.successes) in
    let before : StepOutput = output_after_dismissal config c output in
    subst (λ b. HasExpired x stage c.relayed output (if b then transition config now received (without_in_flight c) before else transition config now received c output)) (sym (leaving c x stage is refreshable))
    (left_so config x stage c output before (transition config now received (without_in_flight c) before) (established_dismissed config x stage c output is)
    (transition_expires config now x stage (without_in_flight c) before is refreshable))

-- ---- and no other deadline

-- a deadline with another number is not that of the session
not_expiry : (successes : ℕ) (what : DueWord) → (what ≡ due.Expired successes → ⊥) → is_expiry successes what ≡ false
not_expiry successes (due.NoReply number) other = refl
not_expiry successes (due.NoPrack number) other = refl
not_expiry successes (due.Cap number) other = refl
not_expiry successes (due.NoAck number) other = refl
not_expiry successes (due.Expired number) other = by (number == successes) refl
  where
    by : (b : Bool) → (number == successes) ≡ b → (number == successes) ≡ false
    by true is = absurd (other (ap due.Expired (eqb-true number successes is)))
    by false is = is

missed_at : (config : CallConfigView) (at : ℕ) (x : EstablishedLegs) (stage : Stage) (what : DueWord) (c : Call) (output : StepOutput) → is_refreshable_at stage ≡ true → is_expiry c.successes what ≡ false →
    on_due_at stage config at x what c output ≡ step_result c output
missed_at config at x (Answered waiting success) what c output refreshable other = absurd (let e : false ≡ true = refreshable in cc)
missed_at config at x (Departing waiting success) what c output refreshable other = absurd (let e : false ≡ true = refreshable in cc)
missed_at config at x Stable what c output refreshable other = ap (λ b. if b then after_expiry config at x c output else step_result c output) other
missed_at config at x (Reinviting asking q) what c output refreshable other = ap (λ b. if b then after_expiry_reinviting config at x asking q c output else step_result c output) other

missed : (config : CallConfigView) (now : SnapshotView) (phase : Phase) (what : DueWord) (c : Call) (output : StepOutput) → is_refreshable phase ≡ true → is_expiry c.successes what ≡ false →
    due_in phase config now what c output ≡ step_result c output
missed config now (Offered x) what c output refreshable other = absurd (let e : false ≡ true = refreshable in cc)
missed config now (Established x stage) what c output refreshable other = missed_at config now.at x stage what c output refreshable other
missed config now (Detached detached) what c output refreshable other = absurd (let e : false ≡ true = refreshable in cc)
missed config now (Over cause) what c output refreshable other = absurd (let e : false ≡ true = refreshable in cc)

-- and the call does not end
stays_at : (stage : Stage) (what : DueWord) (count : ℕ) → is_refreshable_at stage ≡ true → is_expiry count what ≡ false → is_due_at stage count what ≡ false
stays_at (Answered waiting success) what count refreshable other = absurd (let e : false ≡ true = refreshable in cc)
stays_at (Departing waiting success) what count refreshable other = absurd (let e : false ≡ true = refreshable in cc)
stays_at Stable what count refreshable other = other
stays_at (Reinviting asking q) what count refreshable other = other

stays_in : (phase : Phase) (what : DueWord) (c : Call) → is_refreshable phase ≡ true → is_expiry c.successes what ≡ false → leaves_on_due phase what c ≡ false
stays_in (Offered x) what c refreshable other = absurd (let e : false ≡ true = refreshable in cc)
stays_in (Established x stage) what c refreshable other = stays_at stage what c.successes refreshable other
stays_in (Detached detached) what c refreshable other = absurd (let e : false ≡ true = refreshable in cc)
stays_in (Over cause) what c refreshable other = absurd (let e : false ≡ true = refreshable in cc)

transition_missed : (config : CallConfigView) (now : SnapshotView) (what : DueWord) (c : Call) (output : StepOutput) → is_refreshable c.phase ≡ true → is_expiry c.successes what ≡ false →
    transition config now (signal.Due what) c output ≡ step_result c output
unfolding transition
transition_missed config now what c output refreshable other = missed config now c.phase what c output refreshable other

no_other : (config : CallConfigView) (now : SnapshotView) (what : DueWord) (c : Call) (output : StepOutput) → is_refreshable c.phase ≡ true → (what ≡ due.Expired c.successes → ⊥) →
    step config now (signal.Due what) c output ≡ step_result c output
unfolding step
no_other config now what c output refreshable other =
    let miss = not_expiry c.successes what other in
    ap (λ b. if b then transition config now (signal.Due what) (without_in_flight c) (output_after_dismissal config c output) else transition config now (signal.Due what) c output)
    (stays_in c.phase what c refreshable miss) ∙ transition_missed config now what c output refreshable miss

passed : (config : CallConfigView) (now : SnapshotView) (phase : Phase) (number : ℕ) (c : Call) (output : StepOutput) → is_refreshable phase ≡ false →
    due_in phase config now (due.Expired number) c output ≡ step_result c output
passed config now (Offered x) number c output closed = refl
passed config now (Established x (Answered waiting success)) number c output closed = refl
passed config now (Established x (Departing waiting success)) number c output closed = refl
passed config now (Established x Stable) number c output closed = absurd (let e : true ≡ false = closed in cc)
passed config now (Established x (Reinviting asking q)) number c output closed = absurd (let e : true ≡ false = closed in cc)
passed config now (Detached detached) number c output closed = refl
passed config now (Over cause) number c output closed = refl

closed_stays : (phase : Phase) (number : ℕ) (c : Call) → is_refreshable phase ≡ false → leaves_on_due phase (due.Expired number) c ≡ false
closed_stays (Offered x) number c closed = refl
closed_stays (Established x (Answered waiting success)) number c closed = refl
closed_stays (Established x (Departing waiting success)) number c closed = refl
closed_stays (Established x Stable) number c closed = absurd (let e : true ≡ false = closed in cc)
closed_stays (Established x (Reinviting asking q)) number c closed = absurd (let e : true ≡ false = closed in cc)
closed_stays (Detached detached) number c closed = refl
closed_stays (Over cause) number c closed = refl

transition_passed : (config : CallConfigView) (now : SnapshotView) (number : ℕ) (c : Call) (output : StepOutput) → is_refreshable c.phase ≡ false →
    transition config now (signal.Due (due.Expired number)) c output ≡ step_result c output
unfolding transition
transition_passed config now number c output closed = passed config now c.phase number c output closed

elsewhere : (config : CallConfigView) (now : SnapshotView) (number : ℕ) (c : Call) (output : StepOutput) → is_refreshable c.phase ≡ false →
    step config now (signal.Due (due.Expired number)) c output ≡ step_result c output
unfolding step
elsewhere config now number c output closed =
    let received : Signal = signal.Due (due.Expired number) in
    ap (λ b. if b then transition config now received (without_in_flight c) (output_after_dismissal config c output) else transition config now received c output)
    (closed_stays c.phase number c closed) ∙ transition_passed config now number c output closed

pub sessions_expire : SessionsExpire
sessions_expire = record { expires = expires; no_other = no_other; elsewhere = elsewhere }

-- ---- by what is observed

-- the deadline that is due has the number of the last 2xx
among_due : (timer : Bool) (number count : ℕ) (last : Option RelayedSuccess) → is_numbered_among number (expiry_due timer count last) ≡ true → number ≡ count
among_due timer number count None is = absurd (let e : false ≡ true = is in cc)
among_due true number count (Some last) is = by (expiry_interval_of last.message.parsed.session) is
  where
    or_false : (b : Bool) → (b || false) ≡ true → b ≡ true
    or_false true e = refl
    or_false false e = e

    by : (time : Option ℕ) → is_numbered_among number (expiry_at count last.at time) ≡ true → number ≡ count
    by None e = absurd (let f : false ≡ true = e in cc)
    by (Some time) e = eqb-true number count (or_false (number == count) e)
among_due false number count (Some last) is = absurd (let e : false ≡ true = is in cc)

-- one that is among these has a lower number
carries_number : (number : ℕ) (what : DueWord) → is_expiry_numbered number what ≡ true → what ≡ due.Expired number
carries_number number (due.NoReply other) is = absurd (let e : false ≡ true = is in cc)
carries_number number (due.NoPrack other) is = absurd (let e : false ≡ true = is in cc)
carries_number number (due.Cap other) is = absurd (let e : false ≡ true = is in cc)
carries_number number (due.NoAck other) is = absurd (let e : false ≡ true = is in cc)
carries_number number (due.Expired other) is = ap due.Expired (sym (eqb-true number other is))

among_below : (number count : ℕ) (deadlines : List Deadline) → Each (λ deadline. number_in deadline < count) deadlines → is_numbered_among number deadlines ≡ true → number < count
among_below number count [] each is = absurd (let e : false ≡ true = is in cc)
among_below number count (deadline ∷ later) each is =
    either (is_expiry_numbered number deadline.what) refl (λ e. subst (λ what. number_of_deadline what < count) (carries_number number deadline.what e) each.0)
    (λ f. among_below number count later each.1 f) is
  where
    either : (b : Bool) → is_expiry_numbered number deadline.what ≡ b → (is_expiry_numbered number deadline.what ≡ true → number < count) → (is_numbered_among number later ≡ true → number < count) →
        (b || is_numbered_among number later) ≡ true → number < count
    either true e first later_on f = first e
    either false e first later_on f = later_on f

lower_other : (number count : ℕ) → number < count → (due.Expired number ≡ due.Expired count → ⊥)
lower_other number count less is = let same : number ≡ count = cc in let low : count < count = subst (λ n. n < count) same less in omega (arith, low)

pub sessions_expire_as_observed : SessionsExpireAsObserved
sessions_expire_as_observed config now number c w output seen = record {
  counts = λ x stage among is refreshable.
      let same : number ≡ c.successes = among_due config.timer number w.count w.last (ap (is_numbered_among number) (sym seen.armed) ∙ among) ∙ sym seen.number in
      subst (λ n. HasExpired x stage c.relayed output (step config now (signal.Due (due.Expired n)) c output)) (sym same) (expires config now x stage c output is refreshable);
  superseded = λ among few.
      let less : number < c.successes = subst (λ n. number < n) (sym seen.number) (among_below number w.count w.earlier (seen.lower few) among) in
      by (is_refreshable c.phase) refl less;
}
  where
    by : (b : Bool) → is_refreshable c.phase ≡ b → number < c.successes → step config now (signal.Due (due.Expired number)) c output ≡ step_result c output
    by true refreshable less = no_other config now (due.Expired number) c output refreshable (lower_other number c.successes less)
    by false closed less = elsewhere config now number c output closed
