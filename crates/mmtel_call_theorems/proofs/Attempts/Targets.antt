-- The Request-URI of the attempt is that of the last INVITE that is observed, and so that of the last target to which the call is offered according to Outcome.
use Rattle.std.proofs.Common.{◌≡◌, ◌==◌, ℕ, Bool, true, false, List, [], ◌∷◌, ◌++◌, Option, Some, None, refl, ap, sym, subst, ◌∙◌, append_assoc, codes, nat_lt}
use Rattle.std.proofs.lemmas.List.{append-nil}
use Rattle.std.specs.Option.{option_map}
use Rattle.std.specs.Prelude.{if◌then◌else◌}
use Rattle.mmtel_compose.specs.ReceivedMessages.{number_of, status_of}
use Rattle.mmtel_leg.specs.Dialogues.{request_uri}
use Rattle.mmtel_message.specs.Faults.{is_method}
use Rattle.mmtel_precedence.specs.Calls as precedence
use Rattle.mmtel_precedence.specs.Calls.{AttemptEndView}
use Rattle.mmtel_reliable.specs.Acks.{AcksView}
use Rattle.mmtel_transaction.specs.declared.words.DueWord.{DueWord}
use Rattle.mmtel_transaction.specs.declared.words.DueWord.TheVariants as due
use Rattle.mmtel_transaction.specs.declared.words.Emit.{Emit}
use Rattle.mmtel_transaction.specs.declared.words.Emit.TheVariants as emit
use Rattle.mmtel_transaction.specs.declared.words.TKey.{TKey}
use Rattle.mmtel_types.specs.declared.addrs.Addr.{Addr}
use Rattle.mmtel_types.specs.declared.numbers.CallNo.{CallNo}
use Rattle.mmtel_call_services.specs.CallConfig.{CallConfigView}
use Rattle.mmtel_call_services.specs.declared.openings.Opening.{Opening}
use Rattle.mmtel_call.specs.declared.calls.Phase.{Phase}
use Rattle.mmtel_call.specs.declared.calls.Phase.TheVariants.{Detached, Established, Offered, Over}
use Rattle.mmtel_call.specs.declared.signals.Signal.{Signal}
use Rattle.mmtel_call_theorems.specs.Outcomes.{outcome_after, result_in}
use Rattle.mmtel_call_theorems.specs.Theorems.{ReachesItsOutcome, ShowsItsOutcome}
use Rattle.mmtel_call_theorems.specs.Labels as shown
use Rattle.mmtel_call_theorems.specs.Labels.{Label, emits_while_offered, is_offered, label_of, label_of_result, labels_of, labels_of_targets}
use Rattle.mmtel_call_theorems.specs.CallTrace.{TraceStart, TraceStep, call_after, first_step, items_added, next_step, opening_in}
use Rattle.mmtel_call_theorems.specs.Attempts.Theorems.{AttemptsAreObserved, IsLastOf, PhaseIsObserved, TargetsAreObserved, last_in, no_reply_after, or_old, uri_in, uris_in}
use Rattle.mmtel_call_theorems.specs.Attempts.Observed.{Armed, AttemptEvent, AttemptInProgress, Deadline, Invited, ObservedAttempts, after_event, after_events, branch_of, event_of, event_of_deadline, events_at_start}
use Rattle.mmtel_call_theorems.specs.Attempts.Observed.{events_of, events_of_step, last_after_all, nothing_observed, observed_after, observed_after_signal, observed_end, observed_step, observed_step_from, with_armed}

-- ---- the observed signs and the marks have the same Request-URIs

abbrev uri_events : AttemptEvent → List (List ℕ)
uri_events (Invited peer uri branch) = uri ∷ []
uri_events (Armed what at) = []

abbrev uris_events : List AttemptEvent → List (List ℕ)
uris_events [] = []
uris_events (mark ∷ later) = uri_events mark ++ uris_events later

uris_append : (xs ys : List Label) → uris_in (xs ++ ys) ≡ uris_in xs ++ uris_in ys
uris_append [] ys = refl
uris_append (x ∷ xs) ys = ap (λ l. uri_in x ++ l) (uris_append xs ys) ∙ sym (append_assoc (uri_in x) (uris_in xs) (uris_in ys))

events_append : (xs ys : List AttemptEvent) → uris_events (xs ++ ys) ≡ uris_events xs ++ uris_events ys
events_append [] ys = refl
events_append (x ∷ xs) ys = ap (λ l. uri_events x ++ l) (events_append xs ys) ∙ sym (append_assoc (uri_events x) (uris_events xs) (uris_events ys))

deadline_events : (b : Bool) (what : DueWord) (at : ℕ) → [] ≡ uris_events (if b then event_of_deadline what at else [])
deadline_events true (due.NoReply number) at = refl
deadline_events true (due.NoPrack number) at = refl
deadline_events true (due.Cap number) at = refl
deadline_events true (due.NoAck number) at = refl
deadline_events true (due.Expired number) at = refl
deadline_events false what at = refl

final_shown : (its low success : Bool) (code : ℕ) → uris_in (if its then (if low then [] else if success then shown.Accepted ∷ [] else shown.Refused code ∷ []) else []) ≡ []
final_shown true true success code = refl
final_shown true false true code = refl
final_shown true false false code = refl
final_shown false low success code = refl

ask_shown : (b : Bool) (peer : Rattle.mmtel_types.specs.declared.numbers.Peer.Peer) (uri branch : List ℕ) →
    uris_in (if b then shown.Invited uri ∷ [] else []) ≡ uris_events (if b then Invited peer uri branch ∷ [] else [])
ask_shown true peer uri branch = refl
ask_shown false peer uri branch = refl

one_shown : (key : TKey) (sip : Addr) (own : CallNo) (e : Emit) → uris_in (label_of key e) ≡ uris_events (event_of sip own e)
one_shown key sip own (emit.Ask peer m) = ask_shown (is_method (codes "INVITE") m.start) peer (request_uri m.start) (branch_of sip m)
one_shown key sip own (emit.Reply asked m) = final_shown (asked.0 == key.0) (nat_lt (status_of m.start) 200) (nat_lt (status_of m.start) 300) (status_of m.start)
one_shown key sip own (emit.Plain peer text) = refl
one_shown key sip own (emit.Ack asked m) = refl
one_shown key sip own (emit.Settled asked settled) = refl
one_shown key sip own (emit.Arm call what at) = deadline_events (call.0 == own.0) what at
one_shown key sip own (emit.ArmSeat room seat what at) = refl

same_shown : (key : TKey) (sip : Addr) (own : CallNo) (out : List Emit) → uris_in (labels_of key out) ≡ uris_events (events_of sip own out)
same_shown key sip own [] = refl
same_shown key sip own (e ∷ out) =
    uris_append (label_of key e) (labels_of key out) ∙ ap (λ l. l ++ uris_in (labels_of key out)) (one_shown key sip own e) ∙ ap (λ l. uris_events (event_of sip own e) ++ l) (same_shown key sip own out)
    ∙ sym (events_append (event_of sip own e) (events_of sip own out))

labels_append : (key : TKey) (xs ys : List Emit) → labels_of key (xs ++ ys) ≡ labels_of key xs ++ labels_of key ys
labels_append key [] ys = refl
labels_append key (e ∷ xs) ys = ap (λ l. label_of key e ++ l) (labels_append key xs ys) ∙ sym (append_assoc (label_of key e) (labels_of key xs) (labels_of key ys))

-- ---- the last of them

-- that of a list, or, if it is empty, of the one before
last_append : (xs ys : List (List ℕ)) → last_in (xs ++ ys) ≡ or_old (last_in xs) (last_in ys)
last_append [] ys = by (last_in ys)
  where
    by : (o : Option (List ℕ)) → o ≡ or_old None o
    by None = refl
    by (Some uri) = refl
last_append (x ∷ xs) ys = ap (or_old (Some x)) (last_append xs ys) ∙ by (last_in xs) (last_in ys)
  where
    by : (o q : Option (List ℕ)) → or_old (Some x) (or_old o q) ≡ or_old (or_old (Some x) o) q
    by None None = refl
    by None (Some uri) = refl
    by (Some before) None = refl
    by (Some before) (Some uri) = refl

abbrev uri_in_progress : Option AttemptInProgress → Option (List ℕ)
uri_in_progress None = None
uri_in_progress (Some g) = Some g.uri

armed_uri : (deadline : Deadline) (o : Option AttemptInProgress) → uri_in_progress (option_map (with_armed deadline) o) ≡ uri_in_progress o
armed_uri deadline None = refl
armed_uri deadline (Some g) = refl

events_uri : (now : ℕ) (marks : List AttemptEvent) (w : ObservedAttempts) → uri_in_progress (after_events now w marks).in_progress ≡ or_old (uri_in_progress w.in_progress) (last_in (uris_events marks))
events_uri now [] w = refl
events_uri now (Invited peer uri branch ∷ marks) w = events_uri now marks (after_event now w (Invited peer uri branch)) ∙ by (last_in (uris_events marks))
  where
    by : (o : Option (List ℕ)) → or_old (Some uri) o ≡ or_old (uri_in_progress w.in_progress) (or_old (Some uri) o)
    by None = refl
    by (Some later) = refl
events_uri now (Armed what at ∷ marks) w =
    events_uri now marks (after_event now w (Armed what at)) ∙ ap (λ o. or_old o (last_in (uris_events marks))) (armed_uri (record { what = what; at = at }) w.in_progress)

-- ---- every trace

-- the Request-URIs that are observed so far
abbrev shown_so_far : TraceStart → List TraceStep → List (List ℕ)
shown_so_far s received = uris_in (labels_of s.arrival.key (emits_while_offered s received))

-- if there is a current attempt, it is the last one
abbrev IsLast : List (List ℕ) → Option AttemptInProgress → Type 0
IsLast uris o = (uri : List ℕ) → uri_in_progress o ≡ Some uri → last_in uris ≡ Some uri

first_shown : (s : TraceStart) → IsLast (shown_so_far s []) (observed_after s []).in_progress
unfolding emits_while_offered observed_after
first_shown s uri e =
    ap last_in (same_shown s.arrival.key s.config.sip s.arrival.number (items_added s.output.out (first_step s).output.out)) ∙ by (last_in (uris_events (events_at_start s)))
    ∙ sym (events_uri s.now.at (events_at_start s) (nothing_observed (number_of s.arrival.invite))) ∙ e
  where
    by : (o : Option (List ℕ)) → o ≡ or_old None o
    by None = refl
    by (Some later) = refl

-- after one more step in which these were marked
received_uri : (config : CallConfigView) (o : Opening) (now : ℕ) (uris : List (List ℕ)) (w : ObservedAttempts) (g : AttemptInProgress) (number : Option ℕ) (received : Signal)
    (end : Option AttemptEndView) (marks : List AttemptEvent) → last_in uris ≡ Some g.uri →
    IsLast (uris ++ uris_events marks) (after_events now (observed_after_signal config o now w number g received end) marks).in_progress
received_uri config o now uris w g number received None marks last uri e =
    last_append uris (uris_events marks) ∙ ap (λ o. or_old o (last_in (uris_events marks))) last ∙ sym (events_uri now marks (observed_after_signal config o now w number g received None)) ∙ e
received_uri config o now uris w g number received (Some how) marks last uri e =
    last_append uris (uris_events marks) ∙ ap (or_old (last_in uris)) (by (last_in (uris_events marks)) ∙ sym (events_uri now marks (observed_after_signal config o now w number g received (Some how))) ∙ e)
  where
    by : (o : Option (List ℕ)) → o ≡ or_old None o
    by None = refl
    by (Some later) = refl

next_uri : (config : CallConfigView) (opening : Opening) (now : ℕ) (uris : List (List ℕ)) (w : ObservedAttempts) (o : Option AttemptInProgress) (number : Option ℕ) (received : Signal)
    (marks : List AttemptEvent) (offered : Bool) → w.in_progress ≡ o → (offered ≡ false → o ≡ None) → IsLast uris o →
    IsLast (uris ++ (if offered then uris_events marks else [])) (observed_step_from config opening now w o number received marks).in_progress
next_uri config opening now uris w None number received marks offered none unless last uri e = absurd (let f : None ≡ Some uri = ap uri_in_progress (sym none) ∙ e in cc)
next_uri config opening now uris w (Some g) number received marks true is unless last uri e =
    received_uri config opening now uris w g number received (observed_end opening.key number g w.acks received) marks (last g.uri refl) uri e
next_uri config opening now uris w (Some g) number received marks false is unless last uri e = absurd (let f : Some g ≡ None = unless refl in cc)

unoffered : (bound : ℕ) (time : Option ℕ) (acks : AcksView) (p : Phase) (w : ObservedAttempts) → PhaseIsObserved bound time acks p w → is_offered p ≡ false → w.in_progress ≡ None
unoffered bound time acks (Offered x) w seen e = absurd cc
unoffered bound time acks (Established x stage) w seen e = seen
unoffered bound time acks (Detached detached) w seen e = seen
unoffered bound time acks (Over cause) w seen e = seen

one_more : (s : TraceStart) (x : TraceStep) (earlier : List TraceStep) →
    shown_so_far s (x ∷ earlier) ≡ shown_so_far s earlier ++ (if is_offered (call_after s earlier).phase then uris_events (events_of_step s x earlier) else [])
unfolding emits_while_offered
one_more s x earlier =
    let key = s.arrival.key in
    let out = items_added x.output.out (next_step s x (call_after s earlier)).output.out in
    ap uris_in (labels_append key (emits_while_offered s earlier) (if is_offered (call_after s earlier).phase then out else []))
    ∙ uris_append (labels_of key (emits_while_offered s earlier)) (labels_of key (if is_offered (call_after s earlier).phase then out else []))
    ∙ ap (λ l. shown_so_far s earlier ++ l) (by (is_offered (call_after s earlier).phase) out)
  where
    by : (b : Bool) (out : List Emit) → uris_in (labels_of s.arrival.key (if b then out else [])) ≡ (if b then uris_events (events_of s.config.sip s.arrival.number out) else [])
    by true out = same_shown s.arrival.key s.config.sip s.arrival.number out
    by false out = refl

last_shown : AttemptsAreObserved → (s : TraceStart) (received : List TraceStep) → IsLast (shown_so_far s received) (observed_after s received).in_progress
unfolding observed_after
last_shown law s [] = first_shown s
last_shown law s (x ∷ earlier) =
    let w = observed_after s earlier in
    let phase = (call_after s earlier).phase in
    subst (λ uris. IsLast uris (observed_step s.config (opening_in s) x.now.at w (last_after_all s earlier) x.signal (events_of_step s x earlier)).in_progress) (sym (one_more s x earlier))
    (next_uri s.config (opening_in s) x.now.at (shown_so_far s earlier) w w.in_progress (last_after_all s earlier) x.signal (events_of_step s x earlier) (is_offered phase) refl
    (unoffered s.config.bound (no_reply_after s earlier) (call_after s earlier).acks phase w (law s earlier)) (last_shown law s earlier))

-- ---- Outcome

-- while it is offered, its result is pending
pending : (p : Phase) (answered : Option ℕ) (result : precedence.CallResult) → result_in p answered ≡ result → is_offered p ≡ true → label_of_result result ≡ []
pending (Offered x) answered result e offered = ap label_of_result (sym e)
pending (Established x stage) answered result e offered = absurd cc
pending (Detached detached) answered result e offered = absurd cc
pending (Over cause) answered result e offered = absurd cc

is_last : (bound : ℕ) (time : Option ℕ) (acks : AcksView) (p : Phase) (w : ObservedAttempts) (signs : List Label) → PhaseIsObserved bound time acks p w →
    (is_offered p ≡ true → IsLast (uris_in signs) w.in_progress) → IsLastOf p signs
is_last bound time acks (Offered x) w signs seen last = last refl x.attempt.invite.dialogue.target (ap uri_in_progress seen.in_progress ∙ ap Some (sym seen.uri))
is_last bound time acks (Established x stage) w signs seen last = tt
is_last bound time acks (Detached detached) w signs seen last = tt
is_last bound time acks (Over cause) w signs seen last = tt

pub targets_are_observed : AttemptsAreObserved → ReachesItsOutcome → ShowsItsOutcome → TargetsAreObserved
targets_are_observed law comes shows s received own =
    let c = call_after s received in
    let o = outcome_after s received in
    let signs = labels_of_targets (opening_in s) o.targets in
    is_last s.config.bound (no_reply_after s received) c.acks c.phase (observed_after s received) signs (law s received) (λ offered.
    let same : labels_of s.arrival.key (emits_while_offered s received) ≡ signs =
    shows s received own ∙ ap (λ l. signs ++ l) (pending c.phase c.answered o.result (comes s received) offered) ∙ append-nil signs in
    subst (λ l. IsLast (uris_in l) (observed_after s received).in_progress) same (last_shown law s received))
