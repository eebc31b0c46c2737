-- Every trace: what the call keeps of its attempt is what is observed of it.
use Rattle.std.proofs.Common.{◌≡◌, ◌<◌, ◌≤◌, ◌+◌, ◌^◌, ◌-◌, ◌==◌, ◌||◌, ℕ, Bool, true, false, List, [], ◌∷◌, ◌++◌, length, drop, Option, Some, None, refl, ap, sym, subst, ◌∙◌, arith}
use Rattle.std.proofs.lemmas.List.{drop_at}
use Rattle.std.specs.Option.{option_map}
use Rattle.std.specs.Prelude.{◌&&◌, if◌then◌else◌, is_ok, is_some, not, option_to_list}
use Rattle.mmtel_charging.specs.declared.rows.Row.{Row}
use Rattle.mmtel_output.specs.Outputs.{after_draw}
use Rattle.mmtel_output.specs.declared.outputs.StepOutput.{StepOutput}
use Rattle.mmtel_precedence.specs.Calls.{AttemptEndView}
use Rattle.mmtel_reliable.specs.Acks as Acks
use Rattle.mmtel_reliable.specs.Acks.{AcksView, has_own}
use Rattle.mmtel_base.specs.Numbers.{next_number}
use Rattle.mmtel_transaction.specs.declared.words.DueWord.{DueWord}
use Rattle.mmtel_transaction.specs.declared.words.DueWord.TheVariants as due
use Rattle.mmtel_transaction.specs.declared.words.TKey.{TKey}
use Rattle.mmtel_types.specs.declared.sides.Side.{Side}
use Rattle.mmtel_types.specs.declared.sides.Side.TheVariants.{Caller, Callee}
use Rattle.mmtel_compose.specs.ReceivedMessages.{MessageView, number_of, status_of}
use Rattle.mmtel_output.specs.ResponseMatching.{awaited_request_branch, timed_out_branch}
use Rattle.mmtel_call_services.specs.Opening.{opening_refusal, received_history}
use Rattle.mmtel_call_services.specs.CallConfig.{CallConfigView}
use Rattle.mmtel_call_services.specs.declared.openings.Opening.{Opening}
use Rattle.mmtel_call.specs.Closing.{StepResult}
use Rattle.mmtel_call.specs.Opening.{call_after_opening, new_call}
use Rattle.mmtel_call.specs.Sending.{with_status_to_caller}
use Rattle.mmtel_call.specs.declared.calls.Call.{Call}
use Rattle.mmtel_call.specs.declared.calls.Phase.{Phase}
use Rattle.mmtel_call.specs.declared.calls.Phase.TheVariants.{Detached, Established, Offered, Over}
use Rattle.mmtel_call.specs.declared.calls.OfferedAttempt.{OfferedAttempt}
use Rattle.mmtel_call.specs.declared.signals.Signal.{Signal}
use Rattle.mmtel_call.specs.declared.signals.Signal.TheVariants as signal
use Rattle.mmtel_call_theorems.specs.Endings.{end_in, end_of_attempt, end_on_deadline, ending_at, ending_by, endings_after}
use Rattle.mmtel_call_theorems.specs.Continuation as going
use Rattle.mmtel_call_theorems.specs.Continuation.{CallsContinue, is_established_in}
use Rattle.mmtel_call_theorems.specs.CallTrace.{TraceStart, TraceStep, call_after, first_step, is_over, items_added, next_step, opening_in}
use Rattle.mmtel_call_theorems.specs.Attempts.Theorems.{AttemptsAreObserved, Each, EndingsAreObserved, PhaseIsObserved, deadlines_of, no_reply_after}
use Rattle.mmtel_call_theorems.specs.Attempts.Observed.{AttemptEvent, AttemptInProgress, Deadline, ObservedAttempts, after_events, armed_in, end_at_step, end_observed, endings_observed}
use Rattle.mmtel_call_theorems.specs.Attempts.Observed.{events_at_start, events_of, first_last, first_ringing, is_armed, last_after_all, last_by, nothing_observed, observed_after}
use Rattle.mmtel_call_theorems.specs.Attempts.Observed.{observed_after_signal, observed_end, observed_end_in, observed_end_on_deadline, observed_step, observed_step_from}
use Rattle.mmtel_call_theorems.proofs.Attempts.AttemptsInProgress.{Came, Moves, begins_moves}
use Rattle.mmtel_call_theorems.proofs.Attempts.ReceivedSignals.{AttemptUpdate, Leaves, Passes, StillWaits, Waits, attempt_update, events_rung, in_progress_of, its_time, offered, passes}
use Rattle.mmtel_call_theorems.proofs.Attempts.Reading.{Adds, adds_nothing}
use Rattle.mmtel_call_theorems.proofs.Attempts.Sending.{notified_unseen}
use Rattle.mmtel_call_theorems.specs.Endings.{end_on_request, end_on_response, end_on_timeout, is_branch_of_attempt}
use Rattle.mmtel_call_theorems.specs.Labels.{is_offered}
use Rattle.mmtel_call_theorems.specs.Attempts.Theorems.{number_of_deadline}
use Rattle.mmtel_call_theorems.specs.Attempts.Observed.{observed_end_on_request, observed_end_on_response, observed_end_on_timeout}
use Rattle.mmtel_history.specs.HistoryInfo.{diversions_in}
use Rattle.mmtel_leg.specs.declared.dialogues.Dialogue.{Dialogue}
use Rattle.mmtel_leg.specs.declared.dialogues.InFlight.TheVariants as in_flight
use Rattle.mmtel_precedence.specs.Attempts.{end_by, end_by_response}
use Rattle.mmtel_precedence.specs.Attempts as events
use Rattle.mmtel_types.specs.declared.addrs.Addr.{Addr}
use Rattle.mmtel_types.specs.declared.numbers.CallNo.{CallNo}
use Rattle.mmtel_types.specs.declared.numbers.Peer.{Peer}
use Rattle.mmtel_call_services.specs.Decisions.{no_reply_time_of, redirect_of, service_sheet}
use Rattle.mmtel_call.specs.Requests.{is_bye, request_check}

-- ---- each of a list

each_append : {A : Type 0} (P : A → Type 0) (xs ys : List A) → Each P xs → Each P ys → Each P (xs ++ ys)
each_append P [] ys e f = f
each_append P (x ∷ xs) ys e f = (e.0, each_append P xs ys e.1 f)

each_more : {A : Type 0} (P Q : A → Type 0) → ((x : A) → P x → Q x) → (xs : List A) → Each P xs → Each Q xs
each_more P Q more [] e = tt
each_more P Q more (x ∷ xs) e = (more x e.0, each_more P Q more xs e.1)

-- ---- numbers

abbrev greatest : ℕ
greatest = 2 ^ 64 - 1

next_most : (n : ℕ) → next_number n ≤ greatest
next_most n = omega arith

next_least : (m n : ℕ) → n ≤ greatest → m ≤ n → m ≤ next_number n
next_least m n most e = omega (arith, most, e)

next_above : (m n : ℕ) → next_number n < greatest → m ≤ n → m < next_number n
next_above m n less e = omega (arith, less, e)

abbrev AtMost : ℕ → Deadline → Type 0
AtMost n deadline = number_of_deadline deadline.what ≤ n

abbrev IsBelow : ℕ → Deadline → Type 0
IsBelow n deadline = number_of_deadline deadline.what < n

-- ---- the call beside what is observed

pub record IsTied (bound : ℕ) (x : OfferedAttempt) (c : Call) (last : Option ℕ) (w : ObservedAttempts) : Type 0 where
  pub since : ℕ
  pub rung : Option ℕ
  pub in_progress : w.in_progress ≡ Some (in_progress_of x since rung)
  pub rang : x.attempt.rang ≡ is_some rung
  pub leg : x.callee.leg.dialogue.peer ≡ x.attempt.invite.dialogue.peer
  pub side : x.callee.leg.dialogue.side ≡ Callee
  pub latest : x.caller.dialogue.remote_cseq ≡ last
  pub acks : c.acks ≡ w.acks
  pub number : x.attempt.number ≡ c.attempts
  pub few : c.attempts + c.diversions.remaining ≤ bound + 1
  pub most : c.attempts ≤ greatest
  pub least : Each (AtMost c.attempts) w.earlier
  pub lower : c.attempts < greatest → Each (IsBelow c.attempts) w.earlier

abbrev Ties : (bound : ℕ) → Phase → Call → (last : Option ℕ) → ObservedAttempts → Type 0
Ties bound (Offered x) c last w = IsTied bound x c last w
Ties bound (Established x stage) c last w = w.in_progress ≡ None
Ties bound (Detached detached) c last w = w.in_progress ≡ None
Ties bound (Over cause) c last w = w.in_progress ≡ None

-- ---- marks

-- where the INVITE was sent then, and it rang as observed before, what is observed after a step in which a response means that it rings, or not
rung_next : (number since now : ℕ) (time : Option ℕ) (rung : Option ℕ) (rings : Bool) (w : ObservedAttempts) (peer : Peer) (uri branch : List ℕ) (early : Option (List ℕ)) →
    let seen : Option ℕ → AttemptInProgress = λ (after : Option ℕ).
    record { peer = peer; uri = uri; branch = branch; since = since; armed = deadlines_of number time since rung; rang_at = after; early = early } in
    let after : Option ℕ = first_ringing now rung rings in
    after_events now (record w { in_progress = Some (seen after) }) (events_rung number now time (rings && not (is_some rung)))
    ≡ record w { in_progress = Some (record (seen after) { armed = deadlines_of number time since after }) }
rung_next number since now time None false w peer uri branch early = refl
rung_next number since now None None true w peer uri branch early = refl
rung_next number since now (Some time) None true w peer uri branch early = refl
rung_next number since now time (Some first) false w peer uri branch early = refl
rung_next number since now time (Some first) true w peer uri branch early = refl

rang_next : (now : ℕ) (rung : Option ℕ) (rings : Bool) → (is_some rung || rings) ≡ is_some (first_ringing now rung rings)
rang_next now None false = refl
rang_next now None true = refl
rang_next now (Some first) rings = refl

-- where the call continued to, after attempts of which these deadlines were armed
came_ties : (now bound room : ℕ) (p : Phase) (attempts : ℕ) (acks : AcksView) (last : Option ℕ) (c : Call) (w : ObservedAttempts) (marks : List AttemptEvent) →
    Came now p attempts acks last room c marks → room ≤ bound + 1 → acks ≡ w.acks → w.in_progress ≡ None → Each (AtMost attempts) w.earlier → attempts ≤ greatest →
    Ties bound p c last (after_events now w marks)
came_ties now bound room (Offered y) attempts acks last c w marks came enough same none earlier most =
    let old : List Deadline = w.earlier ++ armed_in w.in_progress in
    let had : Each (AtMost attempts) old = subst (λ o. Each (AtMost attempts) (w.earlier ++ armed_in o)) (sym none) (each_append (AtMost attempts) w.earlier [] earlier tt) in
    let few = came.few in
    subst (λ ms. IsTied bound y c last (after_events now w ms)) (sym came.observed) (record {
      since = now;
      rung = None;
      in_progress = λ i. Some (record (in_progress_of y now None) { early = sym came.early i });
      rang = came.rang;
      leg = came.leg;
      side = came.side;
      latest = came.latest;
      acks = came.now_acks ∙ ap Acks.next_attempt same;
      number = came.number ∙ sym came.now_attempts;
      few = omega (arith, few, enough);
      most = subst (λ n. n ≤ greatest) (sym came.now_attempts) (next_most attempts);
      least = subst (λ n. Each (AtMost n) old) (sym came.now_attempts) (each_more (AtMost attempts) (AtMost (next_number attempts)) (λ deadline e. next_least (number_of_deadline deadline.what) attempts most e) old had);
      lower = subst (λ n. n < greatest → Each (IsBelow n) old) (sym came.now_attempts)
          (λ less. each_more (AtMost attempts) (IsBelow (next_number attempts)) (λ deadline e. next_above (number_of_deadline deadline.what) attempts less e) old had);
    })
came_ties now bound room (Established x stage) attempts acks last c w marks came enough same none earlier most = subst (λ ms. (after_events now w ms).in_progress ≡ None) (sym came) none
came_ties now bound room (Detached detached) attempts acks last c w marks came enough same none earlier most = subst (λ ms. (after_events now w ms).in_progress ≡ None) (sym came) none
came_ties now bound room (Over cause) attempts acks last c w marks came enough same none earlier most = subst (λ ms. (after_events now w ms).in_progress ≡ None) (sym came) none

-- what was added
observed_added : (sip : Addr) (own : CallNo) (before after : StepOutput) (marks : List AttemptEvent) → Adds sip own before after marks → events_of sip own (items_added before.out after.out) ≡ marks
observed_added sip own before after marks a = ap (λ out. events_of sip own (drop (length before.out) out)) a.out ∙ ap (events_of sip own) (drop_at before.out a.new (length before.out) refl) ∙ a.seen

-- ---- what ends an attempt

-- a deadline with the number of an attempt is of no other
any_same : (number own since : ℕ) (time rung : Option ℕ) → is_armed number (deadlines_of own time since rung) ≡ (number == own)
any_same number own since time None = by (number == own)
  where
    by : (b : Bool) → (b || false) ≡ b
    by true = refl
    by false = refl
any_same number own since None (Some first) = by (number == own)
  where
    by : (b : Bool) → (b || false) ≡ b
    by true = refl
    by false = refl
any_same number own since (Some time) (Some first) = by (number == own)
  where
    by : (b : Bool) → (b || (b || false)) ≡ b
    by true = refl
    by false = refl

module _ (x : OfferedAttempt) (since : ℕ) (rung : Option ℕ) (same : x.attempt.rang ≡ is_some rung) (acks : AcksView) where
  abbrev observed : AttemptInProgress
  observed = in_progress_of x since rung

  deadline_ends : (what : DueWord) → observed_end_on_deadline observed acks what ≡ end_on_deadline x acks what
  deadline_ends (due.NoReply number) =
      (λ i. if any_same number x.attempt.number since (its_time x) rung i then end_by events.NoReplyTime (sym same i) else None)
  deadline_ends (due.NoPrack own) = λ i. if has_own own acks.waiting then end_by events.PrackTime (sym same i) else None
  deadline_ends (due.Cap number) =
      (λ i. if any_same number x.attempt.number since (its_time x) rung i then end_by events.LongestTime (sym same i) else None)
  deadline_ends (due.NoAck number) = refl
  deadline_ends (due.Expired number) = refl

  answer_ends : (m : MessageView) (branch : Option (List ℕ)) → observed_end_on_response observed m branch ≡ end_on_response x m branch
  answer_ends m None = refl
  answer_ends m (Some branch) = λ i. if is_branch_of_attempt x branch then end_by_response (status_of m.parsed.start) (redirect_of m) (sym same i) else None

  timeout_ends : (branch : Option (List ℕ)) → observed_end_on_timeout observed branch ≡ end_on_timeout x branch
  timeout_ends None = refl
  timeout_ends (Some branch) = λ i. if is_branch_of_attempt x branch && not (sym same i) then end_by events.TransactionTimeout (sym same i) else None

  request_ends : (side : Side) (m : MessageView) → observed_end_on_request x.caller.dialogue.remote_cseq observed side m ≡ end_on_request x side m
  request_ends Caller m = λ i. if is_ok (request_check x.caller m in_flight.Theirs) && is_bye m then end_by events.CallerGaveUp (sym same i) else None
  request_ends Callee m = refl

  same_end : (c : Call) (incoming : Signal) → c.acks ≡ acks → observed_end c.opening.key x.caller.dialogue.remote_cseq observed acks incoming ≡ end_of_attempt x c incoming
  same_end c (signal.Request side key request) e = request_ends side request
  same_end c (signal.Ack side ack) e = refl
  same_end c (signal.Cancel key cancel invite) e = λ i. if invite.0 == c.opening.key.0 then end_by events.CallerGaveUp (sym same i) else None
  same_end c (signal.Answer key response) e = answer_ends response (awaited_request_branch response)
  same_end c (signal.Silent branch method) e = timeout_ends (timed_out_branch branch method)
  same_end c (signal.Due what) e = deadline_ends what ∙ ap (λ acks. end_on_deadline x acks what) (sym e)
  same_end c (signal.Ended key) e = refl

-- by what is observed
tied_end : (bound : ℕ) (x : OfferedAttempt) (c d : Call) (key : TKey) (last : Option ℕ) (w : ObservedAttempts) (incoming : Signal) → c.opening.key ≡ key → c.acks ≡ d.acks → (t : IsTied bound x d last w) →
    observed_end key last (in_progress_of x t.since t.rung) w.acks incoming ≡ end_of_attempt x c incoming
tied_end bound x c d key last w incoming own acks t =
    let g = in_progress_of x t.since t.rung in
    ap (λ k. observed_end k last g w.acks incoming) (sym own) ∙ ap (λ l. observed_end c.opening.key l g w.acks incoming) (sym t.latest) ∙ same_end x t.since t.rung t.rang w.acks c incoming (acks ∙ t.acks)

-- ---- one step

-- what is observed next, where this is current and this is its end
next_observed :
    (config : CallConfigView) (o : Opening) (now : ℕ) (w : ObservedAttempts) (g : AttemptInProgress) (last : Option ℕ) (incoming : Signal) (end : Option AttemptEndView) (marks : List AttemptEvent) →
    w.in_progress ≡ Some g → observed_end o.key last g w.acks incoming ≡ end →
    observed_step config o now w last incoming marks ≡ after_events now (observed_after_signal config o now w last g incoming end) marks
next_observed config o now w g last incoming end marks e f =
    ap (λ going. observed_step_from config o now w going last incoming marks) e ∙ ap (λ end. after_events now (observed_after_signal config o now w last g incoming end) marks) f

-- what is observed of a step
abbrev events_by : CallConfigView → CallNo → (before : StepOutput) → StepResult → List AttemptEvent
events_by config own before s = events_of config.sip own (items_added before.out s.output.out)

waits_tied : (now bound : ℕ) (config : CallConfigView) (o : Opening) (x y : OfferedAttempt) (c : Call) (before : StepOutput) (last : Option ℕ) (w : ObservedAttempts) (incoming : Signal)
    (s : StepResult) (t : IsTied bound x c last w) →
    observed_end o.key last (in_progress_of x t.since t.rung) w.acks incoming ≡ None →
    StillWaits now config x c before (last_by x.caller.dialogue.remote_cseq incoming) (attempt_update config o x.caller.dialogue.remote_cseq (in_progress_of x t.since t.rung) c.acks incoming) s y →
    IsTied bound y s.call (last_by last incoming) (observed_step config o now w last incoming (events_by config c.opening.number before s))
waits_tied now bound config o x y c before last w incoming s t none p =
    let g : AttemptInProgress = in_progress_of x t.since t.rung in
    let told : AttemptUpdate = attempt_update config o x.caller.dialogue.remote_cseq g c.acks incoming in
    let here : AttemptUpdate = attempt_update config o last g w.acks incoming in
    let same : told ≡ here = λ i. attempt_update config o (t.latest i) g (t.acks i) incoming in
    let after : Option ℕ = first_ringing now t.rung here.rings in
    let marks : List AttemptEvent = events_rung x.attempt.number now (its_time x) (told.rings && not x.attempt.rang) in
    let w1 : ObservedAttempts = record w { acks = here.acks } in
    let w2 : ObservedAttempts = record w1 { in_progress = Some (record g { rang_at = after; early = here.early }) } in
    let w3 : ObservedAttempts = record w1 { in_progress = Some (record (in_progress_of x t.since after) { early = here.early }) } in
    let next : observed_step config o now w last incoming (events_by config c.opening.number before s) ≡ w3 =
    ap (observed_step config o now w last incoming) (observed_added config.sip c.opening.number before s.output marks p.adds) ∙ next_observed config o now w g last incoming None marks t.in_progress none
    ∙ ap (λ (a : AttemptUpdate). after_events now w2 (events_rung x.attempt.number now (its_time x) (a.rings && not x.attempt.rang))) same
    ∙ ap (λ b. after_events now w2 (events_rung x.attempt.number now (its_time x) (here.rings && not b))) t.rang
    ∙ rung_next x.attempt.number t.since now (its_time x) t.rung here.rings w1 g.peer g.uri g.branch here.early in
    subst (λ after. IsTied bound y s.call (last_by last incoming) after) (sym next) (record {
      since = t.since;
      rung = after;
      in_progress = λ i. Some (record {
        peer = (sym p.dialogue i).peer;
        uri = (sym p.dialogue i).target;
        branch = sym p.branch i;
        since = t.since;
        armed = deadlines_of (sym p.number i) (no_reply_time_of (service_sheet (sym p.service i))) t.since after;
        rang_at = after;
        early = sym (p.early ∙ ap (λ (a : AttemptUpdate). a.early) same) i;
      });
      rang = p.rang ∙ ap (λ b. b || told.rings) t.rang ∙ ap (λ (a : AttemptUpdate). is_some t.rung || a.rings) same ∙ rang_next now t.rung here.rings;
      leg = p.leg ∙ t.leg ∙ ap (λ (d : Dialogue). d.peer) (sym p.dialogue);
      side = p.side ∙ t.side;
      latest = p.latest ∙ ap (λ l. last_by l incoming) t.latest;
      acks = p.acks ∙ ap (λ (a : AttemptUpdate). a.acks) same;
      number = p.number ∙ t.number ∙ sym p.attempts;
      few = subst (λ n. n + s.call.diversions.remaining ≤ bound + 1) (sym p.attempts) (subst (λ left. c.attempts + left ≤ bound + 1) (sym p.remaining) t.few);
      most = subst (λ n. n ≤ greatest) (sym p.attempts) t.most;
      least = subst (λ n. Each (AtMost n) w.earlier) (sym p.attempts) t.least;
      lower = subst (λ n. n < greatest → Each (IsBelow n) w.earlier) (sym p.attempts) t.lower;
    })

own_most : (number attempts : ℕ) → number ≡ attempts → number ≤ attempts
own_most number attempts e = omega (arith, e)

all_most : (number attempts since : ℕ) (time rung : Option ℕ) → number ≡ attempts → Each (AtMost attempts) (deadlines_of number time since rung)
all_most number attempts since time None e = (own_most number attempts e, tt)
all_most number attempts since None (Some first) e = (own_most number attempts e, tt)
all_most number attempts since (Some time) (Some first) e = (own_most number attempts e, (own_most number attempts e, tt))

leaves_tied : (now bound : ℕ) (config : CallConfigView) (o : Opening) (x : OfferedAttempt) (c : Call) (before : StepOutput) (last : Option ℕ) (w : ObservedAttempts) (incoming : Signal)
    (how : AttemptEndView) (s : StepResult) (t : IsTied bound x c last w) →
    observed_end o.key last (in_progress_of x t.since t.rung) w.acks incoming ≡ Some how →
    Moves config before now c.opening.number c.attempts c.acks (last_by x.caller.dialogue.remote_cseq incoming) (c.attempts + c.diversions.remaining) s →
    Ties bound s.call.phase s.call (last_by last incoming) (observed_step config o now w last incoming (events_by config c.opening.number before s))
leaves_tied now bound config o x c before last w incoming how s t ends p =
    let g : AttemptInProgress = in_progress_of x t.since t.rung in
    let w2 : ObservedAttempts = record w { earlier = w.earlier ++ g.armed; in_progress = None } in
    let next : observed_step config o now w last incoming (events_by config c.opening.number before s) ≡ after_events now w2 p.marks =
    ap (observed_step config o now w last incoming) (observed_added config.sip c.opening.number before s.output p.marks p.adds) ∙ next_observed config o now w g last incoming (Some how) p.marks t.in_progress ends in
    let armed : Each (AtMost c.attempts) g.armed = all_most x.attempt.number c.attempts t.since (its_time x) t.rung t.number in
    let earlier : Each (AtMost c.attempts) w2.earlier = each_append (AtMost c.attempts) w.earlier g.armed t.least armed in
    subst (λ after. Ties bound s.call.phase s.call (last_by last incoming) after) (sym next)
    (subst (λ l. Ties bound s.call.phase s.call (last_by l incoming) (after_events now w2 p.marks)) t.latest
    (came_ties now bound (c.attempts + c.diversions.remaining) s.call.phase c.attempts c.acks (last_by x.caller.dialogue.remote_cseq incoming) s.call w2 p.marks p.came t.few t.acks refl earlier t.most))

passes_tied : (s : TraceStart) (o : Opening) (x : TraceStep) (trial : OfferedAttempt) (c : Call) (last : Option ℕ) (w : ObservedAttempts) (end : Option AttemptEndView) (new : StepResult)
    (t : IsTied s.config.bound trial c last w) → observed_end o.key last (in_progress_of trial t.since t.rung) w.acks x.signal ≡ end →
    Passes x.now.at s.config trial c x.output (last_by trial.caller.dialogue.remote_cseq x.signal)
    (attempt_update s.config o trial.caller.dialogue.remote_cseq (in_progress_of trial t.since t.rung) c.acks x.signal) end new →
    Ties s.config.bound new.call.phase new.call (last_by last x.signal) (observed_step s.config o x.now.at w last x.signal (events_by s.config c.opening.number x.output new))
passes_tied s o x trial c last w end new t e (Waits none y p) =
    subst (λ phase. Ties s.config.bound phase new.call (last_by last x.signal) (observed_step s.config o x.now.at w last x.signal (events_by s.config c.opening.number x.output new))) (sym p.phase)
    (waits_tied x.now.at s.config.bound s.config o trial y c x.output last w x.signal new t (e ∙ none) p)
passes_tied s o x trial c last w end new t e (Leaves how ends p) = leaves_tied x.now.at s.config.bound s.config o trial c x.output last w x.signal how new t (e ∙ ends) p

-- once it is not offered it is never again
untied : (bound : ℕ) (p : Phase) (c : Call) (last : Option ℕ) (w : ObservedAttempts) → is_offered p ≡ false → w.in_progress ≡ None → Ties bound p c last w
untied bound (Offered x) c last w unoffered e = absurd cc
untied bound (Established x stage) c last w unoffered e = e
untied bound (Detached detached) c last w unoffered e = e
untied bound (Over cause) c last w unoffered e = e

established_unoffered : (p : Phase) → is_established_in p ≡ true → is_offered p ≡ false
established_unoffered (Offered x) e = absurd cc
established_unoffered (Established x stage) e = refl
established_unoffered (Detached detached) e = refl
established_unoffered (Over cause) e = refl

goes_unoffered : (at : ℕ) (c : Call) (rows : List Row) (s : StepResult) → going.ContinuesOrEnds at c rows s → is_offered s.call.phase ≡ false
goes_unoffered at c rows s (going.Continues r) = established_unoffered s.call.phase r.established
goes_unoffered at c rows s (going.Ends r) = ap is_offered r.over

none_next : (now bound : ℕ) (config : CallConfigView) (o : Opening) (incoming : Signal) (w : ObservedAttempts) (last : Option ℕ) (new : Call) (marks : List AttemptEvent) →
    is_offered new.phase ≡ false → w.in_progress ≡ None →
    Ties bound new.phase new (last_by last incoming) (observed_step config o now w last incoming marks)
none_next now bound config o incoming w last new marks unoffered none =
    let same : observed_step config o now w last incoming marks ≡ w = ap (λ going. observed_step_from config o now w going last incoming marks) none in
    untied bound new.phase new (last_by last incoming) (observed_step config o now w last incoming marks) unoffered (ap (λ (w : ObservedAttempts). w.in_progress) same ∙ none)

next_tied : (law : CallsContinue) (p : Phase) (s : TraceStart) (x : TraceStep) (c : Call) (last : Option ℕ) (w : ObservedAttempts) → c.opening ≡ opening_in s → (is_over p ≡ true → c.relayed ≡ []) →
    Ties s.config.bound p c last w →
    let new = next_step s x (record c { phase = p }) in
    Ties s.config.bound new.call.phase new.call (last_by last x.signal) (observed_step s.config (opening_in s) x.now.at w last x.signal (events_by s.config s.arrival.number x.output new))
next_tied law (Offered trial) s x c last w own flown t =
    let new = next_step s x (offered trial c) in
    subst (λ (o : Opening). Ties s.config.bound new.call.phase new.call (last_by last x.signal) (observed_step s.config o x.now.at w last x.signal (events_by s.config o.number x.output new))) own
    (passes_tied s c.opening x trial c last w (end_of_attempt trial (offered trial c) x.signal) new t (tied_end s.config.bound trial (offered trial c) c c.opening.key last w x.signal refl refl t)
    (passes s.config x.now trial x.signal c t.since t.rung x.output t.side))
next_tied law (Established pair stage) s x c last w own flown t =
    let d = record c { phase = Established pair stage } in
    let new = next_step s x d in
    none_next x.now.at s.config.bound s.config (opening_in s) x.signal w last new.call (events_by s.config s.arrival.number x.output new)
    (goes_unoffered x.now.at d x.output.rows new (law.established s.config x.now x.signal d x.output refl)) t
next_tied law (Detached detached) s x c last w own flown t =
    let d = record c { phase = Detached detached } in
    let new = next_step s x d in
    none_next x.now.at s.config.bound s.config (opening_in s) x.signal w last new.call (events_by s.config s.arrival.number x.output new)
    (goes_unoffered x.now.at d x.output.rows new (law.established s.config x.now x.signal d x.output refl)) t
next_tied law (Over cause) s x c last w own flown t =
    let d = record c { phase = Over cause } in
    let new = next_step s x d in
    none_next x.now.at s.config.bound s.config (opening_in s) x.signal w last new.call (events_by s.config s.arrival.number x.output new)
    (ap is_offered (law.ended s.config x.now x.signal d x.output refl (flown refl)).phase) t

-- ---- every trace

first_room : (bound received : ℕ) → 0 + (bound - received) < bound + 1
first_room bound received = omega arith

one_room : (n : ℕ) → n ≤ n
one_room n = omega arith

-- as the INVITE arrived
abbrev nothing_so : TraceStart → ObservedAttempts
nothing_so s = nothing_observed (number_of s.arrival.invite)

opens_moves : (s : TraceStart) → Moves s.config s.output s.now.at s.arrival.number 0 (nothing_so s).acks (first_last s) (s.config.bound + 1) (first_step s)
unfolding call_after_opening
opens_moves s =
    let o = opening_in s in
    let c = new_call s.config o in
    let a = adds_nothing s.config.sip s.arrival.number s.output in
    begins_moves s.config s.output (opening_refusal s.config s.now.at o) s.now (s.config.bound + 1) c (with_status_to_caller s.config c 100 (after_draw s.output))
    (first_room s.config.bound (diversions_in (received_history o.invite)))
    (notified_unseen s.config s.arrival.number s.output c 100 (after_draw s.output) (record { new = a.new; out = a.out; seen = a.seen }))

tied_first : (s : TraceStart) → Ties s.config.bound (first_step s).call.phase (first_step s).call (first_last s) (after_events s.now.at (nothing_so s) (events_at_start s))
tied_first s =
    let p = opens_moves s in
    subst (λ marks. Ties s.config.bound (first_step s).call.phase (first_step s).call (first_last s) (after_events s.now.at (nothing_so s) marks))
    (sym (observed_added s.config.sip s.arrival.number s.output (first_step s).output p.marks p.adds))
    (came_ties s.now.at s.config.bound (s.config.bound + 1) (first_step s).call.phase 0 (nothing_so s).acks (first_last s) (first_step s).call (nothing_so s) p.marks p.came
    (one_room (s.config.bound + 1)) refl refl tt (omega arith))

tied : CallsContinue → (s : TraceStart) (incoming : List TraceStep) → Ties s.config.bound (call_after s incoming).phase (call_after s incoming) (last_after_all s incoming) (observed_after s incoming)
unfolding call_after last_after_all observed_after
tied law s [] = tied_first s
tied law s (x ∷ earlier) =
    let c = call_after s earlier in
    next_tied law c.phase s x c (last_after_all s earlier) (observed_after s earlier) (law.opening s earlier) (law.dismissed s earlier) (tied law s earlier)

few_alone : (attempts left bound : ℕ) → attempts + left ≤ bound + 1 → attempts ≤ bound + 1
few_alone attempts left bound most = omega (arith, most)

enough_numbers : (attempts bound : ℕ) → attempts ≤ bound + 1 → bound < 2 ^ 64 - 2 → attempts < greatest
enough_numbers attempts bound most less = omega (arith, most, less)

is_observed : (bound : ℕ) (time : Option ℕ) (p : Phase) (c : Call) (last : Option ℕ) (w : ObservedAttempts) → ((x : OfferedAttempt) → p ≡ Offered x → its_time x ≡ time) → Ties bound p c last w →
    PhaseIsObserved bound time c.acks p w
is_observed bound time (Offered x) c last w its t =
    let few : c.attempts ≤ bound + 1 = few_alone c.attempts c.diversions.remaining bound t.few in
    record {
      observed = in_progress_of x t.since t.rung;
      in_progress = t.in_progress;
      peer = refl;
      leg = t.leg;
      uri = refl;
      branch = refl;
      armed = ap (λ time. deadlines_of x.attempt.number time t.since t.rung) (its x refl);
      few = subst (λ n. n ≤ bound + 1) (sym t.number) few;
      lower = λ less. subst (λ n. Each (IsBelow n) w.earlier) (sym t.number) (t.lower (enough_numbers c.attempts bound few less));
      rang = t.rang;
      early = refl;
      acks = t.acks;
    }
is_observed bound time (Established x stage) c last w its t = t
is_observed bound time (Detached detached) c last w its t = t
is_observed bound time (Over cause) c last w its t = t

pub attempts_are_observed : CallsContinue → AttemptsAreObserved
attempts_are_observed law s incoming =
    is_observed s.config.bound (no_reply_after s incoming) (call_after s incoming).phase (call_after s incoming) (last_after_all s incoming) (observed_after s incoming)
    (λ x offered. ap no_reply_time_of (law.sheet_of s incoming x offered)) (tied law s incoming)

-- ---- the endings

same_ending : (bound : ℕ) (p : Phase) (c : Call) (key : TKey) (last : Option ℕ) (w : ObservedAttempts) (incoming : Signal) → c.opening.key ≡ key → Ties bound p c last w →
    end_in p c incoming ≡ end_observed key last w incoming
same_ending bound (Offered x) c key last w incoming own t = sym (tied_end bound x c c key last w incoming own refl t) ∙ ap (λ o. observed_end_in key last o w.acks incoming) (sym t.in_progress)
same_ending bound (Established x stage) c key last w incoming own t = ap (λ o. observed_end_in key last o w.acks incoming) (sym t)
same_ending bound (Detached detached) c key last w incoming own t = ap (λ o. observed_end_in key last o w.acks incoming) (sym t)
same_ending bound (Over cause) c key last w incoming own t = ap (λ o. observed_end_in key last o w.acks incoming) (sym t)

pub endings_are_observed : CallsContinue → EndingsAreObserved
unfolding endings_after endings_observed
endings_are_observed law s [] = refl
endings_are_observed law s (x ∷ earlier) =
    let c = call_after s earlier in
    let end : end_in c.phase c x.signal ≡ end_at_step s x earlier =
    same_ending s.config.bound c.phase c s.arrival.key (last_after_all s earlier) (observed_after s earlier) x.signal (ap (λ (o : Opening). o.key) (law.opening s earlier)) (tied law s earlier) in
    ap (λ l. l ++ ending_by x c) (endings_are_observed law s earlier) ∙ ap (λ o. endings_observed s earlier ++ option_to_list (option_map (ending_at x.now.at) o)) end
