-- What a step adds to what is sent, and which 181s to the caller are in it.
use Rattle.std.proofs.Common.{◌≡◌, ℕ, ◌==◌, Bool, true, false, List, [], ◌∷◌, ◌++◌, refl, ap, sym, ◌∙◌, append_assoc}
use Rattle.std.proofs.lemmas.List.{append-nil}
use Rattle.std.specs.List.{filter}
use Rattle.std.specs.Prelude.{◌&&◌, Option, Some, None, codes, if◌then◌else◌, nat_lt, position, slice_get, not}
use Rattle.mmtel_compose.specs.Responses.{allow_lines}
use Rattle.mmtel_compose.specs.ReceivedMessages.{MessageView, status_of}
use Rattle.mmtel_output.specs.Outputs.{after_draw, with_emit}
use Rattle.mmtel_output.specs.SentInvites.{is_cancellable, with_key}
use Rattle.mmtel_output.specs.AbandonedInvites as abandoned_invites
use Rattle.mmtel_output.specs.AbandonedInvites.{after_provisional, ended_dialog, is_of_branch, on_response, on_success_in, with_invite}
use Rattle.mmtel_output.specs.Sending.{with_ack, with_bye, with_cancel, with_due_cancel, with_final_ack, with_relayed_request}
use Rattle.mmtel_output.specs.declared.outputs.StepOutput.{StepOutput}
use Rattle.mmtel_output.specs.declared.sent_invites.SentInvite.{SentInvite}
use Rattle.mmtel_output.specs.declared.sent_invites.AbandonedInvite.{AbandonedInvite}
use Rattle.mmtel_leg.specs.Remotes.{remote_of}
use Rattle.mmtel_leg.specs.declared.dialogues.Dialogue.{Dialogue}
use Rattle.mmtel_leg.specs.declared.dialogues.DialogueFault.{DialogueFault}
use Rattle.mmtel_leg.specs.declared.dialogues.DialogueFault.TheVariants.{OldCSeq, Pending, Unfinished}
use Rattle.mmtel_leg.specs.declared.remotes.Remote.{Remote}
use Rattle.mmtel_message.specs.Faults.{is_method}
use Rattle.mmtel_message.specs.Message.{Line, Message}
use Rattle.mmtel_message.specs.Responses.{Reply, response}
use Rattle.mmtel_message.specs.declared.messages.Start.{Start as StartLine}
use Rattle.mmtel_precedence.specs.Attempts as statuses
use Rattle.mmtel_reliable.specs.declared.racks.Rack.{Rack}
use Rattle.mmtel_session.specs.Intervals.{expiry_interval_of}
use Rattle.mmtel_transaction.specs.declared.words.Emit.{Emit}
use Rattle.mmtel_transaction.specs.declared.words.Emit.TheVariants as emit
use Rattle.mmtel_transaction.specs.declared.words.TKey.{TKey}
use Rattle.mmtel_trust.specs.ParsedMessage.{ParsedMessage}
use Rattle.mmtel_types.specs.declared.addrs.Addr.{Addr}
use Rattle.mmtel_types.specs.declared.sides.Side.{Side}
use Rattle.mmtel_types.specs.declared.sides.Side.TheVariants.{Caller, Callee}
use Rattle.mmtel_call_services.specs.Requests.{is_same_side}
use Rattle.mmtel_call_services.specs.CallConfig.{CallConfigView, further_methods}
use Rattle.mmtel_call.specs.Closing.{StepResult, step_result}
use Rattle.mmtel_call.specs.RelayedTransactions.{dismissal_of, is_in_flight, is_updating, on_accepted_in_flight, on_final_relayed, on_response_in_flight, on_response_relayed, on_timeout_in_flight, on_timeout_relayed}
use Rattle.mmtel_call.specs.RelayedTransactions.{output_after_dismissal, updating_side, with_all_dismissals, with_dismissal, with_dismissals, with_response_back, with_settled, with_settled_in, without_transaction}
use Rattle.mmtel_call.specs.OtherRequests.{as_abandoned, is_answered_invite, is_fork, is_stable, is_success, on_other_response, on_other_response_at, on_other_timeout}
use Rattle.mmtel_call.specs.OtherRequests.{on_other_timeout_at, on_response_abandoned, on_response_answered, on_response_answered_at, with_retransmitted_ack}
use Rattle.mmtel_call.specs.Reliable.{named_rseq, on_named_prack, on_rack, on_refused_prack, rack_in, status_of_refusal}
use Rattle.mmtel_call.specs.Requests.{is_prack, is_update, with_refused_request, with_response_to, with_unlisted_response}
use Rattle.mmtel_call.specs.Sending.{with_status_to}
use Rattle.mmtel_call.specs.Updates.{accepts_updates, on_early_retry, on_early_update, on_glare, on_update, unless_updating}
use Rattle.mmtel_call.specs.declared.calls.Call.{Call}
use Rattle.mmtel_call.specs.declared.calls.RelayedTransaction.{RelayedTransaction}
use Rattle.mmtel_call.specs.declared.calls.RelayedKind.{RelayedKind}
use Rattle.mmtel_call.specs.declared.calls.RelayedKind.TheVariants.{Prack, Update}
use Rattle.mmtel_call.specs.declared.calls.Phase.{Phase}
use Rattle.mmtel_call.specs.declared.calls.Phase.TheVariants.{Detached, Established, Offered, Over}
use Rattle.mmtel_call.specs.declared.calls.AnsweredInvite.{AnsweredInvite}
use Rattle.mmtel_call.specs.declared.calls.OfferedAttempt.{OfferedAttempt}
use Rattle.mmtel_call_theorems.specs.Notifications.DueNotifications.{notification_in, notifications_in, without_relayed_notification}
use Rattle.mmtel_call.specs.Ringing.{expiry_in, on_other, on_prack_of}
use Rattle.mmtel_call_theorems.proofs.Notifications.OwnNotifications.{IsNoNotification, final-notification}

-- what was added has these 181s
pub record Adds (key : TKey) (before after : StepOutput) (notices : List (Message StartLine)) : Type 0 where
  pub new : List Emit
  pub out : after.out ≡ before.out ++ new
  pub seen : notifications_in key new ≡ notices

-- none
abbrev pub IsUnnotified : TKey → StepOutput → StepOutput → Type 0
IsUnnotified key before after = Adds key before after []

notifications-append : (key : TKey) (xs ys : List Emit) → notifications_in key (xs ++ ys) ≡ notifications_in key xs ++ notifications_in key ys
notifications-append key [] ys = refl
notifications-append key (e ∷ xs) ys = ap (λ l. notification_in key e ++ l) (notifications-append key xs ys) ∙ sym (append_assoc (notification_in key e) (notifications_in key xs) (notifications_in key ys))

pub unnotified : (key : TKey) (output : StepOutput) → IsUnnotified key output output
unnotified key output = record { new = []; out = sym (append-nil output.out); seen = refl }

pub adds-then : (key : TKey) (one two three : StepOutput) (xs ys : List (Message StartLine)) → Adds key one two xs → Adds key two three ys → Adds key one three (xs ++ ys)
adds-then key one two three xs ys p q = record {
  new = p.new ++ q.new;
  out = q.out ∙ ap (λ l. l ++ q.new) p.out ∙ append_assoc one.out p.new q.new;
  seen = notifications-append key p.new q.new ∙ ap (λ l. l ++ notifications_in key q.new) p.seen ∙ ap (λ l. xs ++ l) q.seen;
}

pub adds-emit : (key : TKey) (output : StepOutput) (e : Emit) (notices : List (Message StartLine)) → notification_in key e ≡ notices → Adds key output (with_emit e output) notices
adds-emit key output e notices f = record { new = e ∷ []; out = refl; seen = append-nil (notification_in key e) ∙ f }

pub unnotified-drew : (key : TKey) (output : StepOutput) → IsUnnotified key output (after_draw output)
unnotified-drew key output = record { new = []; out = sym (append-nil output.out); seen = refl }

pub adds-if : (key : TKey) (before : StepOutput) (b : Bool) (one two : StepOutput) (notices : List (Message StartLine)) → Adds key before one notices → Adds key before two notices →
    Adds key before (if b then one else two) notices
adds-if key before true one two notices p q = p
adds-if key before false one two notices p q = q

-- ---- responses

status-said : (start : StartLine) (lines : List Line) (r : Reply) → status_of (response start lines r).start ≡ r.code
unfolding response
status-said start lines r = refl

-- a 181, or not
abbrev pub seen_if : (to_caller is_notice : Bool) → Message StartLine → List (Message StartLine)
seen_if to_caller is_notice m = if to_caller && is_notice then m ∷ [] else []

reply-seen : (key asked : TKey) (start : StartLine) (lines : List Line) (r : Reply) (b : Bool) → (r.code == 181) ≡ b →
    notification_in key (emit.Reply asked (response start lines r)) ≡ seen_if (asked.0 == key.0) b (response start lines r)
reply-seen key asked start lines r b e =
    ap (λ code. seen_if (asked.0 == key.0) (code == 181) (response start lines r)) (status-said start lines r) ∙ ap (λ b. seen_if (asked.0 == key.0) b (response start lines r)) e

pub adds-reply : (key asked : TKey) (start : StartLine) (lines : List Line) (r : Reply) (output : StepOutput) (b : Bool) → (r.code == 181) ≡ b →
    Adds key output (with_emit (emit.Reply asked (response start lines r)) output) (seen_if (asked.0 == key.0) b (response start lines r))
adds-reply key asked start lines r output b e = adds-emit key output _ _ (reply-seen key asked start lines r b e)

unseen : (b : Bool) (m : Message StartLine) → seen_if b false m ≡ []
unseen true m = refl
unseen false m = refl

-- of another status
pub unnotified-reply : (key asked : TKey) (start : StartLine) (lines : List Line) (r : Reply) (output : StepOutput) → (r.code == 181) ≡ false →
    IsUnnotified key output (with_emit (emit.Reply asked (response start lines r)) output)
unnotified-reply key asked start lines r output e = adds-emit key output _ [] (reply-seen key asked start lines r false e ∙ unseen (asked.0 == key.0) (response start lines r))

-- ---- the server's own 181s are none

pub record IsQuiet (passed : Bool) (key : TKey) (before after : StepOutput) : Type 0 where
  pub notices : List (Message StartLine)
  pub adds : Adds key before after notices
  pub none : without_relayed_notification passed notices ≡ []

pub none-passed : (passed : Bool) → without_relayed_notification passed [] ≡ []
none-passed true = refl
none-passed false = refl

pub quiet : (passed : Bool) (key : TKey) (before after : StepOutput) → IsUnnotified key before after → IsQuiet passed key before after
quiet passed key before after p = record { notices = []; adds = p; none = none-passed passed }

-- one that is relayed is not its own
pub one-passed : (b is_notice : Bool) (m : Message StartLine) → without_relayed_notification is_notice (seen_if b is_notice m) ≡ []
one-passed true true m = refl
one-passed true false m = refl
one-passed false true m = refl
one-passed false false m = refl

then-unnotified : (passed : Bool) (notices : List (Message StartLine)) → without_relayed_notification passed notices ≡ [] → without_relayed_notification passed (notices ++ []) ≡ []
then-unnotified passed notices e = ap (without_relayed_notification passed) (append-nil notices) ∙ e

pub quiet-then : (passed : Bool) (key : TKey) (one two three : StepOutput) → IsQuiet passed key one two → IsUnnotified key two three → IsQuiet passed key one three
quiet-then passed key one two three p q = record { notices = p.notices ++ []; adds = adds-then key one two three p.notices [] p.adds q; none = then-unnotified passed p.notices p.none }

-- ---- requests

pub unnotified-cancelled : (key : TKey) (sip : Addr) (i : SentInvite) (output : StepOutput) → IsUnnotified key output (with_due_cancel sip i output)
unnotified-cancelled key sip i output = adds-if key output (is_cancellable i) (with_cancel sip i output) output [] (adds-emit key output _ [] refl) (unnotified key output)

pub unnotified-acked : (key : TKey) (sip : Addr) (d : Dialogue) (output : StepOutput) → IsUnnotified key output (with_ack sip d output)
unnotified-acked key sip d output = adds-then key output (after_draw output) (with_ack sip d output) [] [] (unnotified-drew key output) (adds-emit key (after_draw output) _ [] refl)

pub unnotified-bye : (key : TKey) (sip : Addr) (d : Dialogue) (output : StepOutput) → IsUnnotified key output (with_bye sip d output)
unnotified-bye key sip d output = adds-then key output (after_draw output) (with_bye sip d output) [] [] (unnotified-drew key output) (adds-emit key (after_draw output) _ [] refl)

pub unnotified-final-acked : (key asked : TKey) (sip : Addr) (i : SentInvite) (m : ParsedMessage) (output : StepOutput) → IsUnnotified key output (with_final_ack sip asked i m output)
unnotified-final-acked key asked sip i m output = adds-emit key output _ [] refl

-- ---- responses to requests

pub unnotified-refused_request : (key : TKey) (config : CallConfigView) (c : Call) (asked : TKey) (m : MessageView) (fault : DialogueFault) (output : StepOutput) →
    IsUnnotified key output (with_refused_request config c asked m fault output)
unnotified-refused_request key config c asked m (OldCSeq last) output = unnotified-reply key asked _ _ _ output refl
unnotified-refused_request key config c asked m Pending output = unnotified-reply key asked _ _ _ output refl
unnotified-refused_request key config c asked m Unfinished output = unnotified-reply key asked _ _ _ output refl

pub unnotified-unlisted : (key : TKey) (config : CallConfigView) (c : Call) (asked : TKey) (m : MessageView) (output : StepOutput) → IsUnnotified key output (with_unlisted_response config c asked m output)
unnotified-unlisted key config c asked m output =
    adds-if key output (is_method (codes "OPTIONS") m.parsed.start) (with_response_to config c asked m 200 (allow_lines (further_methods config)) output)
    (if is_method (codes "REFER") m.parsed.start then with_status_to config c asked m 403 output else with_status_to config c asked m 481 output) [] (unnotified-reply key asked _ _ _ output refl)
    (adds-if key output (is_method (codes "REFER") m.parsed.start) (with_status_to config c asked m 403 output) (with_status_to config c asked m 481 output) []
    (unnotified-reply key asked _ _ _ output refl) (unnotified-reply key asked _ _ _ output refl))

-- ---- an INVITE for which the call does not wait

success-unnotified : (key : TKey) (sip : Addr) (l : AbandonedInvite) (remote : Remote) (d : Option Dialogue) (output : StepOutput) → IsUnnotified key output (on_success_in sip l remote d output).output
success-unnotified key sip l remote None output =
    let d = abandoned_invites.dialogue_of_success l.in_dialog l.invite.early l.invite.early_cseq l.invite.dialogue remote in
    adds-then key output (with_ack sip d output) (with_bye sip d (with_ack sip d output)) [] [] (unnotified-acked key sip d output) (unnotified-bye key sip d (with_ack sip d output))
success-unnotified key sip l remote (Some d) output = unnotified-acked key sip d output

rest-if : (key : TKey) (before : StepOutput) (b : Bool) (one two : abandoned_invites.AfterResponse) → IsUnnotified key before one.output → IsUnnotified key before two.output →
    IsUnnotified key before (if b then one else two).output
rest-if key before true one two e f = e
rest-if key before false one two e f = f

rest-unnotified : (key : TKey) (sip : Addr) (asked : TKey) (m : ParsedMessage) (l : AbandonedInvite) (output : StepOutput) → IsUnnotified key output (on_response sip asked m l output).output
rest-unnotified key sip asked m l output =
    let taken = with_invite l (with_key asked l.invite) in
    let said = after_provisional asked m l in
    let remote = remote_of Callee m.lines in
    rest-if key output (nat_lt (status_of m.start) 200) _ _
    (rest-if key output said.invite.cancelled _ _ (unnotified key output) (adds-emit key output _ [] refl))
    (rest-if key output (nat_lt (status_of m.start) 300) _ _ (success-unnotified key sip taken remote (ended_dialog taken remote.tag) output) (unnotified-final-acked key asked sip l.invite m output))

pub step-if : (key : TKey) (before : StepOutput) (b : Bool) (one two : StepResult) → IsUnnotified key before one.output → IsUnnotified key before two.output → IsUnnotified key before (if b then one else two).output
step-if key before true one two e f = e
step-if key before false one two e f = f

again-unnotified : (key : TKey) (t : AnsweredInvite) (text : Option (List ℕ)) (output : StepOutput) → IsUnnotified key output (with_retransmitted_ack t text output)
again-unnotified key t None output = unnotified key output
again-unnotified key t (Some text) output = adds-emit key output _ [] refl

abandoned-unnotified : (key : TKey) (config : CallConfigView) (asked : TKey) (m : MessageView) (at : ℕ) (l : Option AbandonedInvite) (c : Call) (output : StepOutput) →
    IsUnnotified key output (on_response_abandoned config asked m at l c output).output
abandoned-unnotified key config asked m at None c output = unnotified key output
abandoned-unnotified key config asked m at (Some l) c output = rest-unnotified key config.sip asked m.parsed l output

answered-unnotified : (key : TKey) (config : CallConfigView) (asked : TKey) (m : MessageView) (at : ℕ) (t : Option AnsweredInvite) (c : Call) (output : StepOutput) →
    IsUnnotified key output (on_response_answered config asked m at t c output).output
answered-unnotified key config asked m at None c output = unnotified key output
answered-unnotified key config asked m at (Some t) c output =
    step-if key output (not (is_success (status_of m.parsed.start))) _ _ (unnotified key output)
    (step-if key output (is_fork t m) _ _ (rest-unnotified key config.sip asked m.parsed (as_abandoned t) output)
    (adds-if key output (is_stable c.phase) (with_retransmitted_ack t t.invite.ack output) output [] (again-unnotified key t t.invite.ack output) (unnotified key output)))

-- ---- requests in flight

-- the deadline for the session of a 2xx notifies nobody
expiry-notifications : (key : TKey) (timer : Bool) (time : Option ℕ) (at : ℕ) (c : Call) → notifications_in key (if timer then expiry_in time at c else []) ≡ []
expiry-notifications key true None at c = refl
expiry-notifications key true (Some time) at c = refl
expiry-notifications key false time at c = refl

pub expiry-unnotified : (key : TKey) (timer : Bool) (time : Option ℕ) (at : ℕ) (c : Call) (output : StepOutput) →
    IsUnnotified key output (record output { out = output.out ++ (if timer then expiry_in time at c else []) })
expiry-unnotified key timer time at c output = record { new = if timer then expiry_in time at c else []; out = refl; seen = expiry-notifications key timer time at c }

agreed-unnotified : (key : TKey) (kind : RelayedKind) (config : CallConfigView) (at : ℕ) (side : Side) (request response : MessageView) (c : Call) (output : StepOutput) →
    IsUnnotified key output (on_accepted_in_flight kind config at side request response c output).output
agreed-unnotified key Prack config at side request response c output = unnotified key output
agreed-unnotified key Update config at side request response c output = expiry-unnotified key config.timer (expiry_interval_of response.parsed.session) at c output

-- by whether it is a final response
relayed-by : (key : TKey) (config : CallConfigView) (at : ℕ) (flight : RelayedTransaction) (m : MessageView) (provisional : Bool) (place : ℕ) (c : Call) (output : StepOutput) →
    (provisional ≡ false → IsNoNotification (status_of m.parsed.start)) →
    IsUnnotified key output (if provisional then step_result c output else on_final_relayed config at flight m (status_of m.parsed.start) (without_transaction place c) output).output
relayed-by key config at flight m true place c output e = unnotified key output
relayed-by key config at flight m false place c output e =
    let gone : Call = without_transaction place c in
    let back : StepOutput = with_response_back config flight m gone output in
    let passed : IsUnnotified key output back = unnotified-reply key flight.exchange.key _ _ _ output (e refl) in
    step-if key output (statuses.is_success (status_of m.parsed.start)) (on_accepted_in_flight flight.kind config at flight.side flight.exchange.request m gone back) (step_result gone back)
    (adds-then key output back _ [] [] passed (agreed-unnotified key flight.kind config at flight.side flight.exchange.request m gone back)) passed

relayed-unnotified : (key : TKey) (config : CallConfigView) (at : ℕ) (m : MessageView) (place : ℕ) (o : Option RelayedTransaction) (c : Call) (output : StepOutput) →
    IsUnnotified key output (on_response_relayed config at m (status_of m.parsed.start) place o c output).output
relayed-unnotified key config at m place None c output = unnotified key output
relayed-unnotified key config at m place (Some flight) c output = relayed-by key config at flight m (nat_lt (status_of m.parsed.start) 200) place c output (final-notification (status_of m.parsed.start))

in-flight-unnotified : (key : TKey) (config : CallConfigView) (at : ℕ) (m : MessageView) (o : Option ℕ) (c : Call) (output : StepOutput) → IsUnnotified key output (on_response_in_flight config at m o c output).output
in-flight-unnotified key config at m None c output = unnotified key output
in-flight-unnotified key config at m (Some place) c output = relayed-unnotified key config at m place (slice_get c.relayed place) c output

gone-relayed-unnotified : (key : TKey) (config : CallConfigView) (place : ℕ) (o : Option RelayedTransaction) (c : Call) (output : StepOutput) → IsUnnotified key output (on_timeout_relayed config place o c output).output
gone-relayed-unnotified key config place None c output = unnotified key output
gone-relayed-unnotified key config place (Some flight) c output = unnotified-reply key flight.exchange.key _ _ _ output refl

gone-in-flight-unnotified : (key : TKey) (config : CallConfigView) (o : Option ℕ) (c : Call) (output : StepOutput) → IsUnnotified key output (on_timeout_in_flight config o c output).output
gone-in-flight-unnotified key config None c output = unnotified key output
gone-in-flight-unnotified key config (Some place) c output = gone-relayed-unnotified key config place (slice_get c.relayed place) c output

gone-at-unnotified : (key : TKey) (config : CallConfigView) (branch : List ℕ) (o : Option ℕ) (c : Call) (output : StepOutput) → IsUnnotified key output (on_other_timeout_at config branch o c output).output
gone-at-unnotified key config branch None c output = gone-in-flight-unnotified key config (position (is_in_flight branch) c.relayed) c output
gone-at-unnotified key config branch (Some place) c output = unnotified key output

pub gone-unnotified : (key : TKey) (config : CallConfigView) (branch : List ℕ) (c : Call) (output : StepOutput) → IsUnnotified key output (on_other_timeout config branch c output).output
gone-unnotified key config branch c output = gone-at-unnotified key config branch (position (is_of_branch branch) c.abandoned) c output

-- they are dismissed

pub settled-unnotified : (key : TKey) (config : CallConfigView) (own : Option ℕ) (c : Call) (output : StepOutput) → IsUnnotified key output (with_settled config own c output)
settled-unnotified key config own c output = adds-if key output config.reliable (with_emit (emit.Settled c.opening.key own) output) output [] (adds-emit key output _ [] refl) (unnotified key output)

settled_in-unnotified : (key : TKey) (phase : Phase) (config : CallConfigView) (c : Call) (output : StepOutput) → IsUnnotified key output (with_settled_in phase config c output)
settled_in-unnotified key (Offered x) config c output = settled-unnotified key config None c output
settled_in-unnotified key (Established x stage) config c output = unnotified key output
settled_in-unnotified key (Detached detached) config c output = unnotified key output
settled_in-unnotified key (Over cause) config c output = unnotified key output

relayed-dismissed : (key : TKey) (config : CallConfigView) (c : Call) (flight : RelayedTransaction) (kind : RelayedKind) (output : StepOutput) →
    IsUnnotified key output (with_status_to config c flight.exchange.key flight.exchange.request (dismissal_of kind) output)
relayed-dismissed key config c flight Prack output = unnotified-reply key flight.exchange.key _ _ _ output refl
relayed-dismissed key config c flight Update output = unnotified-reply key flight.exchange.key _ _ _ output refl

each-unnotified : (key : TKey) (config : CallConfigView) (c : Call) (flights : List RelayedTransaction) (output : StepOutput) → IsUnnotified key output (with_dismissals config c flights output)
each-unnotified key config c [] output = unnotified key output
each-unnotified key config c (flight ∷ flights) output =
    let next : StepOutput = with_dismissal config c flight output in
    adds-then key output next (with_dismissals config c flights next) [] [] (relayed-dismissed key config c flight flight.kind output) (each-unnotified key config c flights next)

pub dismissing-unnotified : (key : TKey) (config : CallConfigView) (c : Call) (output : StepOutput) → IsUnnotified key output (output_after_dismissal config c output)
dismissing-unnotified key config c output =
    let first : StepOutput = with_dismissals config c (filter (λ flight. not (is_updating flight)) c.relayed) output in
    let all : StepOutput = with_all_dismissals config c output in
    adds-then key output all (output_after_dismissal config c output) [] []
    (adds-then key output first all [] [] (each-unnotified key config c (filter (λ flight. not (is_updating flight)) c.relayed) output) (each-unnotified key config c (filter is_updating c.relayed) first))
    (settled_in-unnotified key c.phase config c all)

-- ---- PRACK and UPDATE

pub asked-for-unnotified : (key : TKey) (sip : Addr) (method : List ℕ) (d : Dialogue) (passed : List Line) (m : ParsedMessage) (output : StepOutput) →
    IsUnnotified key output (with_relayed_request sip method d passed m output)
asked-for-unnotified key sip method d passed m output = adds-then key output (after_draw output) _ [] [] (unnotified-drew key output) (adds-emit key (after_draw output) _ [] refl)

refusal-unnotified : (key : TKey) (config : CallConfigView) (asked : TKey) (m : MessageView) (rack : Option Rack) (c : Call) (output : StepOutput) →
    IsUnnotified key output (with_status_to config c asked m (status_of_refusal rack) output)
refusal-unnotified key config asked m None c output = unnotified-reply key asked _ _ _ output refl
refusal-unnotified key config asked m (Some rack) c output = unnotified-reply key asked _ _ _ output refl

acknowledging-unnotified : (key : TKey) (config : CallConfigView) (x : OfferedAttempt) (asked : TKey) (m : MessageView) (rack : Rack) (answer : Option ℕ) (c : Call) (output : StepOutput) →
    IsUnnotified key output (on_named_prack config x asked m rack answer c output).output
acknowledging-unnotified key config x asked m rack None c output = refusal-unnotified key config asked m (rack_in m) c output
acknowledging-unnotified key config x asked m rack (Some answer) c output =
    let settled_output : StepOutput = with_settled config (Some rack.answer) c output in
    adds-then key output settled_output _ [] [] (settled-unnotified key config (Some rack.answer) c output)
    (adds-then key settled_output (after_draw settled_output) _ [] [] (unnotified-drew key settled_output) (adds-emit key (after_draw settled_output) _ [] refl))

rack-unnotified : (key : TKey) (config : CallConfigView) (x : OfferedAttempt) (asked : TKey) (m : MessageView) (rack : Option Rack) (c : Call) (output : StepOutput) →
    IsUnnotified key output (on_rack config x asked m rack c output).output
rack-unnotified key config x asked m None c output = refusal-unnotified key config asked m (rack_in m) c output
rack-unnotified key config x asked m (Some rack) c output = acknowledging-unnotified key config x asked m rack (named_rseq x c rack) c output

pub prack-unnotified : (key : TKey) (config : CallConfigView) (asked : TKey) (m : MessageView) (c : Call) (output : StepOutput) → IsUnnotified key output (on_refused_prack config asked m c output).output
prack-unnotified key config asked m c output = refusal-unnotified key config asked m (rack_in m) c output

prack-of-unnotified : (key : TKey) (side : Side) (config : CallConfigView) (x : OfferedAttempt) (asked : TKey) (m : MessageView) (c : Call) (output : StepOutput) →
    IsUnnotified key output (on_prack_of side config x asked m c output).output
prack-of-unnotified key Caller config x asked m c output = rack-unnotified key config x asked m (rack_in m) c output
prack-of-unnotified key Callee config x asked m c output = prack-unnotified key config asked m c output

pub unless-unnotified :
    (key : TKey) (flying : Option Side) (across : Call → StepOutput → StepResult) (config : CallConfigView) (side : Side) (asked : TKey) (m : MessageView) (c : Call) (output : StepOutput) →
    IsUnnotified key output (across c output).output →
    IsUnnotified key output (unless_updating flying across config side asked m c output).output
unless-unnotified key None across config side asked m c output passes = passes
unless-unnotified key (Some other) across config side asked m c output passes =
    step-if key output (is_same_side other side) (on_early_retry config asked m c output) (on_glare config asked m c output) (unnotified-reply key asked _ _ _ output refl) (unnotified-reply key asked _ _ _ output refl)

update-unnotified : (key : TKey) (config : CallConfigView) (x : OfferedAttempt) (side : Side) (asked : TKey) (m : MessageView) (c : Call) (output : StepOutput) →
    IsUnnotified key output (on_update config x side asked m c output).output
update-unnotified key config x side asked m c output =
    step-if key output (accepts_updates x) _ _
    (unless-unnotified key (updating_side c.relayed) (on_early_update config x side asked m) config side asked m c output
    (adds-then key output (after_draw output) _ [] [] (unnotified-drew key output) (adds-emit key (after_draw output) _ [] refl)))
    (unnotified-reply key asked _ _ _ output refl)

pub on-other-unnotified : (key : TKey) (config : CallConfigView) (x : OfferedAttempt) (side : Side) (asked : TKey) (m : MessageView) (c : Call) (output : StepOutput) →
    IsUnnotified key output (on_other config x side asked m c output).output
on-other-unnotified key config x side asked m c output =
    step-if key output (is_prack m) _ _ (prack-of-unnotified key side config x asked m c output)
    (step-if key output (is_update m) _ _ (update-unnotified key config x side asked m c output) (unnotified-unlisted key config c asked m output))

-- ---- a response to a request for which the call does not wait

answered_at-unnotified : (key : TKey) (config : CallConfigView) (at : ℕ) (asked : TKey) (m : MessageView) (branch : List ℕ) (o : Option ℕ) (c : Call) (output : StepOutput) →
    IsUnnotified key output (on_response_answered_at config at asked m branch o c output).output
answered_at-unnotified key config at asked m branch None c output = in-flight-unnotified key config at m (position (is_in_flight branch) c.relayed) c output
answered_at-unnotified key config at asked m branch (Some place) c output = answered-unnotified key config asked m place (slice_get c.answered_invites place) c output

at-unnotified : (key : TKey) (config : CallConfigView) (at : ℕ) (asked : TKey) (m : MessageView) (branch : List ℕ) (o : Option ℕ) (c : Call) (output : StepOutput) →
    IsUnnotified key output (on_other_response_at config at asked m branch o c output).output
at-unnotified key config at asked m branch None c output = answered_at-unnotified key config at asked m branch (position (is_answered_invite branch) c.answered_invites) c output
at-unnotified key config at asked m branch (Some place) c output = abandoned-unnotified key config asked m place (slice_get c.abandoned place) c output

pub other-unnotified : (key : TKey) (config : CallConfigView) (at : ℕ) (asked : TKey) (m : MessageView) (branch : List ℕ) (c : Call) (output : StepOutput) →
    IsUnnotified key output (on_other_response config at asked m branch c output).output
unfolding on_other_response
other-unnotified key config at asked m branch c output = at-unnotified key config at asked m branch (position (is_of_branch branch) c.abandoned) c output
