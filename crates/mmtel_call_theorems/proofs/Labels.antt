-- What files no CDR and of which nothing is observed.
use Rattle.std.proofs.Common.{◌≡◌, ℕ, ◌+◌, ◌==◌, Bool, true, false, List, [], ◌∷◌, ◌++◌, refl, ap, sym, ◌∙◌, append_assoc}
use Rattle.std.proofs.lemmas.List.{append-nil}
use Rattle.std.specs.List.{filter}
use Rattle.std.specs.Prelude.{IfSome, Option, Some, None, codes, if◌then◌else◌, nat_lt, position, slice_get, not}
use Rattle.std.specs.Str.{bytes_eq}
use Rattle.mmtel_compose.specs.ReceivedMessages.{MessageView, status_of}
use Rattle.mmtel_output.specs.Outputs.{after_draw, with_emit}
use Rattle.mmtel_output.specs.SentInvites.{is_cancellable, with_key}
use Rattle.mmtel_output.specs.AbandonedInvites as abandoned_invites
use Rattle.mmtel_output.specs.AbandonedInvites.{after_provisional, ended_dialog, is_of_branch, on_response, on_success_in, with_invite}
use Rattle.mmtel_output.specs.Sending.{with_ack, with_bye, with_cancel, with_due_cancel, with_final_ack, with_relayed_request}
use Rattle.mmtel_output.specs.declared.outputs.StepOutput.{StepOutput}
use Rattle.mmtel_output.specs.declared.sent_invites.SentInvite.{SentInvite}
use Rattle.mmtel_output.specs.declared.sent_invites.AbandonedInvite.{AbandonedInvite}
use Rattle.mmtel_leg.specs.Remotes.{remote_of}
use Rattle.mmtel_leg.specs.declared.dialogues.Dialogue.{Dialogue}
use Rattle.mmtel_leg.specs.declared.dialogues.DialogueFault.{DialogueFault}
use Rattle.mmtel_leg.specs.declared.dialogues.DialogueFault.TheVariants.{OldCSeq, Pending, Unfinished}
use Rattle.mmtel_leg.specs.declared.remotes.Remote.{Remote}
use Rattle.mmtel_message.specs.Faults.{is_method}
use Rattle.mmtel_message.specs.Message.{Line}
use Rattle.mmtel_message.specs.Responses.{Reply, response}
use Rattle.mmtel_message.specs.declared.messages.Start.{Start}
use Rattle.mmtel_reliable.specs.declared.racks.Rack.{Rack}
use Rattle.mmtel_session.specs.Intervals.{expiry_interval_of}
use Rattle.mmtel_transaction.specs.declared.words.DueWord.TheVariants as due
use Rattle.mmtel_transaction.specs.declared.words.Emit.{Emit}
use Rattle.mmtel_transaction.specs.declared.words.Emit.TheVariants as emit
use Rattle.mmtel_transaction.specs.declared.words.TKey.{TKey}
use Rattle.mmtel_trust.specs.ParsedMessage.{ParsedMessage}
use Rattle.mmtel_types.specs.declared.addrs.Addr.{Addr}
use Rattle.mmtel_types.specs.Sides.{other_side}
use Rattle.mmtel_types.specs.declared.sides.Side.{Side}
use Rattle.mmtel_types.specs.declared.sides.Side.TheVariants.{Caller, Callee}
use Rattle.mmtel_compose.specs.Responses.{allow_lines}
use Rattle.mmtel_call_services.specs.Requests.{is_same_side}
use Rattle.mmtel_call_services.specs.CopiedHeaders.{copied_lines}
use Rattle.mmtel_call_services.specs.CallConfig.{CallConfigView, further_methods}
use Rattle.mmtel_call.specs.Answered.{leg_of}
use Rattle.mmtel_call.specs.Awaiting.{expiry_in, next_success}
use Rattle.mmtel_call.specs.Closing.{StepResult, step_result}
use Rattle.mmtel_call.specs.RelayedTransactions.{is_in_flight, is_updating, on_accepted_in_flight, on_final_relayed, on_response_in_flight}
use Rattle.mmtel_call.specs.RelayedTransactions.{on_response_relayed, output_after_dismissal, with_all_dismissals, with_dismissal, with_dismissals}
use Rattle.mmtel_call.specs.RelayedTransactions.{on_timeout_in_flight, on_timeout_relayed, updating_side, with_response_back, with_settled, with_settled_in, without_transaction}
use Rattle.mmtel_call.specs.OtherRequests.{as_abandoned, is_answered_invite, is_fork, is_stable, is_success, on_other_response, on_other_response_at, on_other_timeout}
use Rattle.mmtel_call.specs.OtherRequests.{on_other_timeout_at, on_response_abandoned, on_response_answered, on_response_answered_at, with_retransmitted_ack}
use Rattle.mmtel_call.specs.Reliable.{named_rseq, on_named_prack, on_rack, rack_in}
use Rattle.mmtel_call.specs.Requests.{is_prack, is_update, with_refused_request, with_response_to, with_unlisted_response}
use Rattle.mmtel_call.specs.Ringing.{on_other, on_prack_of}
use Rattle.mmtel_call.specs.Sending.{with_status_to}
use Rattle.mmtel_call.specs.Updates.{accepts_updates, on_early_retry, on_early_update, on_glare, on_stable_update, on_update, on_update_at, other_leg, unless_updating}
use Rattle.mmtel_call.specs.declared.calls.Call.{Call}
use Rattle.mmtel_call.specs.declared.calls.RelayedTransaction.{RelayedTransaction}
use Rattle.mmtel_call.specs.declared.calls.RelayedKind.{RelayedKind}
use Rattle.mmtel_call.specs.declared.calls.RelayedKind.TheVariants.{Prack, Update}
use Rattle.mmtel_call.specs.declared.calls.EstablishedLegs.{EstablishedLegs}
use Rattle.mmtel_call.specs.declared.calls.Phase.{Phase}
use Rattle.mmtel_call.specs.declared.calls.Phase.TheVariants.{Detached, Established, Offered, Over}
use Rattle.mmtel_call.specs.declared.calls.Stage.{Stage}
use Rattle.mmtel_call.specs.declared.calls.Stage.TheVariants.{Answered, Departing, Reinviting, Stable}
use Rattle.mmtel_call.specs.declared.calls.AnsweredInvite.{AnsweredInvite}
use Rattle.mmtel_call.specs.declared.calls.OfferedAttempt.{OfferedAttempt}
use Rattle.mmtel_call_theorems.specs.Labels.{InFlightHasOtherKeys, Label, final_label, label_of, labels_of}
use Rattle.mmtel_call_theorems.proofs.Each.{each_filter, each_get}

-- nothing was filed and nothing observed
pub record Quiet (key : TKey) (before after : StepOutput) : Type 0 where
  pub rows : after.rows ≡ before.rows
  pub labels : labels_of key after.out ≡ labels_of key before.out

pub quiet : (key : TKey) (output : StepOutput) → Quiet key output output
quiet key output = record { rows = refl; labels = refl }

pub quiet-then : (key : TKey) (one two three : StepOutput) → Quiet key one two → Quiet key two three → Quiet key one three
quiet-then key one two three p q = record { rows = q.rows ∙ p.rows; labels = q.labels ∙ p.labels }

pub labels-append : (key : TKey) (xs ys : List Emit) → labels_of key (xs ++ ys) ≡ labels_of key xs ++ labels_of key ys
labels-append key [] ys = refl
labels-append key (e ∷ xs) ys = ap (λ l. label_of key e ++ l) (labels-append key xs ys) ∙ sym (append_assoc (label_of key e) (labels_of key xs) (labels_of key ys))

pub labels-more : (key : TKey) (out : List Emit) (e : Emit) → labels_of key (out ++ e ∷ []) ≡ labels_of key out ++ label_of key e
labels-more key out e = labels-append key out (e ∷ []) ∙ ap (λ l. labels_of key out ++ l) (append-nil (label_of key e))

pub quiet-emit : (key : TKey) (output : StepOutput) (e : Emit) → label_of key e ≡ [] → Quiet key output (with_emit e output)
quiet-emit key output e none = record { rows = refl; labels = labels-more key output.out e ∙ ap (λ l. labels_of key output.out ++ l) none ∙ append-nil (labels_of key output.out) }

pub quiet-if : (key : TKey) (before : StepOutput) (b : Bool) (one two : StepOutput) → Quiet key before one → Quiet key before two → Quiet key before (if b then one else two)
quiet-if key before true one two p q = p
quiet-if key before false one two p q = q

-- ---- responses

status-said : (start : Start) (lines : List Line) (r : Reply) → status_of (response start lines r).start ≡ r.code
unfolding response
status-said start lines r = refl

reply-label : (key asked : TKey) (start : Start) (lines : List Line) (r : Reply) → label_of key (emit.Reply asked (response start lines r)) ≡ (if asked.0 == key.0 then final_label r.code else [])
reply-label key asked start lines r = ap (λ code. if asked.0 == key.0 then final_label code else []) (status-said start lines r)

if-false : (b : Bool) (signs : List Label) → b ≡ false → (if b then signs else []) ≡ []
if-false true signs e = absurd cc
if-false false signs e = refl

if-true : (b : Bool) (signs : List Label) → b ≡ true → (if b then signs else []) ≡ signs
if-true true signs e = refl
if-true false signs e = absurd cc

if-none : (b : Bool) (signs : List Label) → signs ≡ [] → (if b then signs else []) ≡ []
if-none true signs e = e
if-none false signs e = refl

-- of another request
pub quiet-reply : (key asked : TKey) (start : Start) (lines : List Line) (r : Reply) (output : StepOutput) → (asked.0 == key.0) ≡ false → Quiet key output (with_emit (emit.Reply asked (response start lines r)) output)
quiet-reply key asked start lines r output e = quiet-emit key output _ (reply-label key asked start lines r ∙ if-false (asked.0 == key.0) (final_label r.code) e)

-- that is provisional
pub quiet-provisional : (key asked : TKey) (start : Start) (lines : List Line) (r : Reply) (output : StepOutput) → nat_lt r.code 200 ≡ true →
    Quiet key output (with_emit (emit.Reply asked (response start lines r)) output)
quiet-provisional key asked start lines r output e = quiet-emit key output _ (reply-label key asked start lines r ∙ if-none (asked.0 == key.0) (final_label r.code) (go (nat_lt r.code 200) e))
  where
    go : (b : Bool) → b ≡ true → (if b then [] else if nat_lt r.code 300 then Label.Accepted ∷ [] else Label.Refused r.code ∷ []) ≡ []
    go true f = refl
    go false f = absurd cc

-- to the INVITE that opened the call
pub shows-reply : (key : TKey) (start : Start) (lines : List Line) (r : Reply) (output : StepOutput) → (key.0 == key.0) ≡ true →
    labels_of key (with_emit (emit.Reply key (response start lines r)) output).out ≡ labels_of key output.out ++ final_label r.code
shows-reply key start lines r output e = labels-more key output.out _ ∙ ap (λ l. labels_of key output.out ++ l) (reply-label key key start lines r ∙ if-true (key.0 == key.0) (final_label r.code) e)

-- ---- requests

pub quiet-cancelled : (key : TKey) (sip : Addr) (i : SentInvite) (output : StepOutput) → Quiet key output (with_due_cancel sip i output)
quiet-cancelled key sip i output = quiet-if key output (is_cancellable i) (with_cancel sip i output) output (quiet-emit key output _ refl) (quiet key output)

quiet-drew : (key : TKey) (output : StepOutput) → Quiet key output (after_draw output)
quiet-drew key output = record { rows = refl; labels = refl }

quiet-acked : (key : TKey) (sip : Addr) (d : Dialogue) (output : StepOutput) → Quiet key output (with_ack sip d output)
quiet-acked key sip d output = quiet-then key output (after_draw output) (with_ack sip d output) (quiet-drew key output) (quiet-emit key (after_draw output) _ refl)

quiet-bye : (key : TKey) (sip : Addr) (d : Dialogue) (output : StepOutput) → Quiet key output (with_bye sip d output)
quiet-bye key sip d output = quiet-then key output (after_draw output) (with_bye sip d output) (quiet-drew key output) (quiet-emit key (after_draw output) _ refl)

pub quiet-final-acked : (key asked : TKey) (sip : Addr) (i : SentInvite) (m : ParsedMessage) (output : StepOutput) → Quiet key output (with_final_ack sip asked i m output)
quiet-final-acked key asked sip i m output = quiet-emit key output _ refl

-- ---- responses to requests

pub quiet-refused_request : (key : TKey) (config : CallConfigView) (c : Call) (asked : TKey) (m : MessageView) (fault : DialogueFault) (output : StepOutput) → (asked.0 == key.0) ≡ false →
    Quiet key output (with_refused_request config c asked m fault output)
quiet-refused_request key config c asked m (OldCSeq last) output e = quiet-reply key asked _ _ _ output e
quiet-refused_request key config c asked m Pending output e = quiet-reply key asked _ _ _ output e
quiet-refused_request key config c asked m Unfinished output e = quiet-reply key asked _ _ _ output e

pub quiet-unlisted : (key : TKey) (config : CallConfigView) (c : Call) (asked : TKey) (m : MessageView) (output : StepOutput) → (asked.0 == key.0) ≡ false →
    Quiet key output (with_unlisted_response config c asked m output)
quiet-unlisted key config c asked m output e =
    quiet-if key output (is_method (codes "OPTIONS") m.parsed.start) (with_response_to config c asked m 200 (allow_lines (further_methods config)) output)
    (if is_method (codes "REFER") m.parsed.start then with_status_to config c asked m 403 output else with_status_to config c asked m 481 output) (quiet-reply key asked _ _ _ output e)
    (quiet-if key output (is_method (codes "REFER") m.parsed.start) (with_status_to config c asked m 403 output) (with_status_to config c asked m 481 output) (quiet-reply key asked _ _ _ output e)
    (quiet-reply key asked _ _ _ output e))

-- ---- an INVITE for which the call does not wait

success-quiet : (key : TKey) (sip : Addr) (l : AbandonedInvite) (remote : Remote) (d : Option Dialogue) (output : StepOutput) → Quiet key output (on_success_in sip l remote d output).output
success-quiet key sip l remote None output =
    let d = abandoned_invites.dialogue_of_success l.in_dialog l.invite.early l.invite.early_cseq l.invite.dialogue remote in
    quiet-then key output (with_ack sip d output) (with_bye sip d (with_ack sip d output)) (quiet-acked key sip d output) (quiet-bye key sip d (with_ack sip d output))
success-quiet key sip l remote (Some d) output = quiet-acked key sip d output

rest-if : (key : TKey) (before : StepOutput) (b : Bool) (one two : abandoned_invites.AfterResponse) → Quiet key before one.output → Quiet key before two.output → Quiet key before (if b then one else two).output
rest-if key before true one two e f = e
rest-if key before false one two e f = f

rest-quiet : (key : TKey) (sip : Addr) (asked : TKey) (m : ParsedMessage) (l : AbandonedInvite) (output : StepOutput) → Quiet key output (on_response sip asked m l output).output
rest-quiet key sip asked m l output =
    let taken = with_invite l (with_key asked l.invite) in
    let said = after_provisional asked m l in
    let remote = remote_of Callee m.lines in
    rest-if key output (nat_lt (status_of m.start) 200) _ _
    (rest-if key output said.invite.cancelled _ _ (quiet key output) (quiet-emit key output _ refl))
    (rest-if key output (nat_lt (status_of m.start) 300) _ _ (success-quiet key sip taken remote (ended_dialog taken remote.tag) output) (quiet-final-acked key asked sip l.invite m output))

step-if : (key : TKey) (before : StepOutput) (b : Bool) (one two : StepResult) → Quiet key before one.output → Quiet key before two.output → Quiet key before (if b then one else two).output
step-if key before true one two e f = e
step-if key before false one two e f = f

again-quiet : (key : TKey) (t : AnsweredInvite) (text : Option (List ℕ)) (output : StepOutput) → Quiet key output (with_retransmitted_ack t text output)
again-quiet key t None output = quiet key output
again-quiet key t (Some text) output = quiet-emit key output _ refl

abandoned-quiet : (key : TKey) (config : CallConfigView) (asked : TKey) (m : MessageView) (at : ℕ) (l : Option AbandonedInvite) (c : Call) (output : StepOutput) →
    Quiet key output (on_response_abandoned config asked m at l c output).output
abandoned-quiet key config asked m at None c output = quiet key output
abandoned-quiet key config asked m at (Some l) c output = rest-quiet key config.sip asked m.parsed l output

answered-quiet : (key : TKey) (config : CallConfigView) (asked : TKey) (m : MessageView) (at : ℕ) (t : Option AnsweredInvite) (c : Call) (output : StepOutput) →
    Quiet key output (on_response_answered config asked m at t c output).output
answered-quiet key config asked m at None c output = quiet key output
answered-quiet key config asked m at (Some t) c output =
    step-if key output (not (is_success (status_of m.parsed.start))) _ _ (quiet key output)
    (step-if key output (is_fork t m) _ _ (rest-quiet key config.sip asked m.parsed (as_abandoned t) output)
    (quiet-if key output (is_stable c.phase) (with_retransmitted_ack t t.invite.ack output) output (again-quiet key t t.invite.ack output) (quiet key output)))

-- ---- requests in flight

-- the deadline for the session of a 2xx
pub quiet-expiry : (key : TKey) (timer : Bool) (time : Option ℕ) (at : ℕ) (c : Call) (output : StepOutput) → Quiet key output (record output { out = output.out ++ (if timer then expiry_in time at c else []) })
quiet-expiry key true None at c output = record { rows = refl; labels = ap (λ (es : List Emit). labels_of key es) (append-nil output.out) }
quiet-expiry key true (Some time) at c output = quiet-emit key output (emit.Arm c.opening.number (due.Expired (next_success c)) (at + time)) refl
quiet-expiry key false time at c output = record { rows = refl; labels = ap (λ (es : List Emit). labels_of key es) (append-nil output.out) }

agreed-quiet : (key : TKey) (kind : RelayedKind) (config : CallConfigView) (at : ℕ) (side : Side) (request m : MessageView) (c : Call) (output : StepOutput) →
    Quiet key output (on_accepted_in_flight kind config at side request m c output).output
agreed-quiet key Prack config at side request m c output = quiet key output
agreed-quiet key Update config at side request m c output = quiet-expiry key config.timer (expiry_interval_of m.parsed.session) at c output

-- a request that is none of the INVITE that opened the call
abbrev IsOther : TKey → RelayedTransaction → Type 0
IsOther key flight = (flight.exchange.key.0 == key.0) ≡ false

relayed-quiet : (key : TKey) (config : CallConfigView) (at : ℕ) (m : MessageView) (code place : ℕ) (o : Option RelayedTransaction) (c : Call) (output : StepOutput) → IfSome o (IsOther key) →
    Quiet key output (on_response_relayed config at m code place o c output).output
relayed-quiet key config at m code place None c output e = quiet key output
relayed-quiet key config at m code place (Some flight) c output e =
    let d : Call = without_transaction place c in
    let back : StepOutput = with_response_back config flight m d output in
    let came : Quiet key output back = quiet-reply key flight.exchange.key _ _ _ output e in
    step-if key output (nat_lt code 200) (step_result c output) (on_final_relayed config at flight m code d output) (quiet key output)
    (step-if key output (is_success code) (on_accepted_in_flight flight.kind config at flight.side flight.exchange.request m d back) (step_result d back)
    (quiet-then key output back _ came (agreed-quiet key flight.kind config at flight.side flight.exchange.request m d back)) came)

in-flight-quiet : (key : TKey) (config : CallConfigView) (at : ℕ) (m : MessageView) (o : Option ℕ) (c : Call) (output : StepOutput) → InFlightHasOtherKeys key c.relayed →
    Quiet key output (on_response_in_flight config at m o c output).output
in-flight-quiet key config at m None c output e = quiet key output
in-flight-quiet key config at m (Some place) c output e = relayed-quiet key config at m (status_of m.parsed.start) place (slice_get c.relayed place) c output (each_get (IsOther key) c.relayed place e)

timed-out-relayed-quiet : (key : TKey) (config : CallConfigView) (place : ℕ) (o : Option RelayedTransaction) (c : Call) (output : StepOutput) → IfSome o (IsOther key) →
    Quiet key output (on_timeout_relayed config place o c output).output
timed-out-relayed-quiet key config place None c output e = quiet key output
timed-out-relayed-quiet key config place (Some flight) c output e = quiet-reply key flight.exchange.key _ _ _ output e

timed-out-in-flight-quiet : (key : TKey) (config : CallConfigView) (o : Option ℕ) (c : Call) (output : StepOutput) → InFlightHasOtherKeys key c.relayed → Quiet key output (on_timeout_in_flight config o c output).output
timed-out-in-flight-quiet key config None c output e = quiet key output
timed-out-in-flight-quiet key config (Some place) c output e = timed-out-relayed-quiet key config place (slice_get c.relayed place) c output (each_get (IsOther key) c.relayed place e)

timed-out-at-quiet : (key : TKey) (config : CallConfigView) (branch : List ℕ) (o : Option ℕ) (c : Call) (output : StepOutput) → InFlightHasOtherKeys key c.relayed →
    Quiet key output (on_other_timeout_at config branch o c output).output
timed-out-at-quiet key config branch None c output e = timed-out-in-flight-quiet key config (position (is_in_flight branch) c.relayed) c output e
timed-out-at-quiet key config branch (Some at) c output e = quiet key output

pub timed-out-quiet : (key : TKey) (config : CallConfigView) (branch : List ℕ) (c : Call) (output : StepOutput) → InFlightHasOtherKeys key c.relayed → Quiet key output (on_other_timeout config branch c output).output
timed-out-quiet key config branch c output e = timed-out-at-quiet key config branch (position (is_of_branch branch) c.abandoned) c output e

pub quiet-settled : (key : TKey) (config : CallConfigView) (own : Option ℕ) (c : Call) (output : StepOutput) → Quiet key output (with_settled config own c output)
quiet-settled key config own c output = quiet-if key output config.reliable (with_emit (emit.Settled c.opening.key own) output) output (quiet-emit key output (emit.Settled c.opening.key own) refl) (quiet key output)

settled_in-quiet : (key : TKey) (phase : Phase) (config : CallConfigView) (c : Call) (output : StepOutput) → Quiet key output (with_settled_in phase config c output)
settled_in-quiet key (Offered x) config c output = quiet-settled key config None c output
settled_in-quiet key (Established x stage) config c output = quiet key output
settled_in-quiet key (Detached detached) config c output = quiet key output
settled_in-quiet key (Over cause) config c output = quiet key output

each-quiet : (key : TKey) (config : CallConfigView) (c : Call) (flights : List RelayedTransaction) (output : StepOutput) → InFlightHasOtherKeys key flights → Quiet key output (with_dismissals config c flights output)
each-quiet key config c [] output e = quiet key output
each-quiet key config c (flight ∷ flights) output e =
    let one : StepOutput = with_dismissal config c flight output in
    quiet-then key output one (with_dismissals config c flights one) (quiet-reply key flight.exchange.key _ _ _ output e.0) (each-quiet key config c flights one e.1)

pub dismissing-quiet : (key : TKey) (config : CallConfigView) (c : Call) (output : StepOutput) → InFlightHasOtherKeys key c.relayed → Quiet key output (output_after_dismissal config c output)
dismissing-quiet key config c output e =
    let acks : RelayedTransaction → Bool = λ (flight : RelayedTransaction). not (is_updating flight) in
    let first : StepOutput = with_dismissals config c (filter acks c.relayed) output in
    let all : StepOutput = with_all_dismissals config c output in
    quiet-then key output first (output_after_dismissal config c output) (each-quiet key config c (filter acks c.relayed) output (each_filter (IsOther key) acks c.relayed e))
    (quiet-then key first all (output_after_dismissal config c output) (each-quiet key config c (filter is_updating c.relayed) first (each_filter (IsOther key) is_updating c.relayed e))
    (settled_in-quiet key c.phase config c all))

-- ---- PRACK and UPDATE

pub asked-quiet : (key : TKey) (sip : Addr) (method : List ℕ) (d : Dialogue) (lines : List Line) (h : ParsedMessage) (output : StepOutput) → bytes_eq method (codes "INVITE") ≡ false →
    Quiet key output (with_relayed_request sip method d lines h output)
asked-quiet key sip method d lines h output other =
    quiet-then key output (after_draw output) (with_relayed_request sip method d lines h output) (quiet-drew key output) (quiet-emit key (after_draw output) _ (if-false (bytes_eq method (codes "INVITE")) _ other))

pub named-quiet : (key : TKey) (config : CallConfigView) (x : OfferedAttempt) (asked : TKey) (m : MessageView) (rack : Rack) (answer : Option ℕ) (c : Call) (output : StepOutput) → (asked.0 == key.0) ≡ false →
    Quiet key output (on_named_prack config x asked m rack answer c output).output
named-quiet key config x asked m rack None c output e = quiet-reply key asked _ _ _ output e
named-quiet key config x asked m rack (Some answer) c output e =
    let before : StepOutput = with_settled config (Some rack.answer) c output in
    quiet-then key output before _ (quiet-settled key config (Some rack.answer) c output) (asked-quiet key config.sip (codes "PRACK") x.callee.leg.dialogue _ m.parsed before refl)

rack-quiet : (key : TKey) (config : CallConfigView) (x : OfferedAttempt) (asked : TKey) (m : MessageView) (o : Option Rack) (c : Call) (output : StepOutput) → (asked.0 == key.0) ≡ false →
    Quiet key output (on_rack config x asked m o c output).output
rack-quiet key config x asked m None c output e = quiet-reply key asked _ _ _ output e
rack-quiet key config x asked m (Some rack) c output e = named-quiet key config x asked m rack (named_rseq x c rack) c output e

pub prack-quiet : (key : TKey) (side : Side) (config : CallConfigView) (x : OfferedAttempt) (asked : TKey) (m : MessageView) (c : Call) (output : StepOutput) → (asked.0 == key.0) ≡ false →
    Quiet key output (on_prack_of side config x asked m c output).output
prack-quiet key Caller config x asked m c output e = rack-quiet key config x asked m (rack_in m) c output e
prack-quiet key Callee config x asked m c output e = quiet-reply key asked _ _ _ output e

unless-quiet : (key : TKey) (flying : Option Side) (f : Call → StepOutput → StepResult) (config : CallConfigView) (side : Side) (asked : TKey) (m : MessageView) (c : Call) (output : StepOutput) →
    (asked.0 == key.0) ≡ false → Quiet key output (f c output).output →
    Quiet key output (unless_updating flying f config side asked m c output).output
unless-quiet key None f config side asked m c output e q = q
unless-quiet key (Some other) f config side asked m c output e q =
    step-if key output (is_same_side other side) (on_early_retry config asked m c output) (on_glare config asked m c output) (quiet-reply key asked _ _ _ output e) (quiet-reply key asked _ _ _ output e)

pub update-quiet : (key : TKey) (side : Side) (config : CallConfigView) (x : OfferedAttempt) (asked : TKey) (m : MessageView) (c : Call) (output : StepOutput) → (asked.0 == key.0) ≡ false →
    Quiet key output (on_update config x side asked m c output).output
update-quiet key side config x asked m c output e =
    step-if key output (accepts_updates x) (unless_updating (updating_side c.relayed) (on_early_update config x side asked m) config side asked m c output) (on_early_retry config asked m c output)
    (unless-quiet key (updating_side c.relayed) (on_early_update config x side asked m) config side asked m c output e (asked-quiet key config.sip (codes "UPDATE") (other_leg side x).dialogue
    (copied_lines config c.opening c.diversions x.attempt.service side (other_leg side x).dialogue.peer m) m.parsed output refl)) (quiet-reply key asked _ _ _ output e)

pub update_at-quiet : (key : TKey) (stage : Stage) (side : Side) (config : CallConfigView) (x : EstablishedLegs) (asked : TKey) (m : MessageView) (c : Call) (output : StepOutput) → (asked.0 == key.0) ≡ false →
    Quiet key output (on_update_at stage config x side asked m c output).output
update_at-quiet key (Answered waiting success) side config x asked m c output e = quiet-reply key asked _ _ _ output e
update_at-quiet key (Departing waiting success) side config x asked m c output e = quiet-reply key asked _ _ _ output e
update_at-quiet key Stable side config x asked m c output e =
    unless-quiet key (updating_side c.relayed) (on_stable_update config x side asked m) config side asked m c output e
    (asked-quiet key config.sip (codes "UPDATE") (leg_of (other_side side) x).dialogue (copied_lines config c.opening c.diversions x.service side (leg_of (other_side side) x).dialogue.peer m) m.parsed output refl)
update_at-quiet key (Reinviting asking q) side config x asked m c output e = quiet-reply key asked _ _ _ output e

-- requests of a side of an offered call, except BYE
pub quiet-received : (key : TKey) (side : Side) (config : CallConfigView) (x : OfferedAttempt) (asked : TKey) (m : MessageView) (c : Call) (output : StepOutput) → (asked.0 == key.0) ≡ false →
    Quiet key output (on_other config x side asked m c output).output
quiet-received key side config x asked m c output e =
    step-if key output (is_prack m) (on_prack_of side config x asked m c output) _ (prack-quiet key side config x asked m c output e)
    (step-if key output (is_update m) (on_update config x side asked m c output) (step_result c (with_unlisted_response config c asked m output)) (update-quiet key side config x asked m c output e)
    (quiet-unlisted key config c asked m output e))

-- ---- by the branch of a request

answered_at-quiet : (key : TKey) (config : CallConfigView) (at : ℕ) (asked : TKey) (m : MessageView) (branch : List ℕ) (o : Option ℕ) (c : Call) (output : StepOutput) → InFlightHasOtherKeys key c.relayed →
    Quiet key output (on_response_answered_at config at asked m branch o c output).output
answered_at-quiet key config at asked m branch None c output e = in-flight-quiet key config at m (position (is_in_flight branch) c.relayed) c output e
answered_at-quiet key config at asked m branch (Some place) c output e = answered-quiet key config asked m place (slice_get c.answered_invites place) c output

at-quiet : (key : TKey) (config : CallConfigView) (at : ℕ) (asked : TKey) (m : MessageView) (branch : List ℕ) (o : Option ℕ) (c : Call) (output : StepOutput) → InFlightHasOtherKeys key c.relayed →
    Quiet key output (on_other_response_at config at asked m branch o c output).output
at-quiet key config at asked m branch None c output e = answered_at-quiet key config at asked m branch (position (is_answered_invite branch) c.answered_invites) c output e
at-quiet key config at asked m branch (Some place) c output e = abandoned-quiet key config asked m place (slice_get c.abandoned place) c output

pub other-quiet : (key : TKey) (config : CallConfigView) (at : ℕ) (asked : TKey) (m : MessageView) (branch : List ℕ) (c : Call) (output : StepOutput) → InFlightHasOtherKeys key c.relayed →
    Quiet key output (on_other_response config at asked m branch c output).output
unfolding on_other_response
other-quiet key config at asked m branch c output e = at-quiet key config at asked m branch (position (is_of_branch branch) c.abandoned) c output e
