-- What files no CDR, and what does not change in a call on a signal of a request for which it does not wait.
use Rattle.std.proofs.Common.{◌≡◌, ◌∙◌, ℕ, zero, suc, ◌+◌, Bool, true, false, List, [], ◌∷◌, drop, refl, take}
use Rattle.std.specs.List.{filter}
use Rattle.std.specs.Prelude.{Option, Some, None, if◌then◌else◌, codes, nat_lt, position, slice_get, not}
use Rattle.mmtel_compose.specs.ReceivedMessages.{MessageView, status_of}
use Rattle.mmtel_charging.specs.declared.rows.Row.{Row}
use Rattle.mmtel_output.specs.SentInvites.{is_cancellable, with_key, without_at}
use Rattle.mmtel_output.specs.AbandonedInvites as abandoned_invites
use Rattle.mmtel_output.specs.AbandonedInvites.{after_provisional, ended_dialog, is_of_branch, on_response, on_success_in, with_invite}
use Rattle.mmtel_output.specs.Sending.{with_cancel, with_due_cancel}
use Rattle.mmtel_output.specs.declared.outputs.StepOutput.{StepOutput}
use Rattle.mmtel_output.specs.declared.sent_invites.SentInvite.{SentInvite}
use Rattle.mmtel_output.specs.declared.sent_invites.AbandonedInvite.{AbandonedInvite}
use Rattle.mmtel_leg.specs.Remotes.{remote_of}
use Rattle.mmtel_leg.specs.declared.dialogues.Dialogue.{Dialogue}
use Rattle.mmtel_leg.specs.declared.dialogues.DialogueFault.{DialogueFault}
use Rattle.mmtel_leg.specs.declared.dialogues.DialogueFault.TheVariants.{OldCSeq, Pending, Unfinished}
use Rattle.mmtel_leg.specs.declared.remotes.Remote.{Remote}
use Rattle.mmtel_transaction.specs.declared.words.TKey.{TKey}
use Rattle.mmtel_trust.specs.ParsedMessage.{ParsedMessage}
use Rattle.mmtel_types.specs.declared.addrs.Addr.{Addr}
use Rattle.mmtel_precedence.specs.Attempts as statuses
use Rattle.mmtel_types.specs.declared.sides.Side.{Side}
use Rattle.mmtel_types.specs.declared.sides.Side.TheVariants.{Callee}
use Rattle.mmtel_call_services.specs.CallConfig.{CallConfigView, further_methods}
use Rattle.mmtel_call.specs.Closing.{StepResult, step_result}
use Rattle.mmtel_call.specs.RelayedTransactions.{is_in_flight, is_updating, on_accepted_in_flight, on_final_relayed, on_response_in_flight, on_response_relayed, on_timeout_in_flight, on_timeout_relayed}
use Rattle.mmtel_call.specs.RelayedTransactions.{output_after_dismissal, with_all_dismissals, with_dismissal, with_dismissals, with_response_back, with_settled, with_settled_in, without_transaction}
use Rattle.mmtel_call.specs.OtherRequests.{as_abandoned, is_answered_invite, is_fork, is_stable, is_success, on_other_response, on_other_response_at, on_other_timeout}
use Rattle.mmtel_call.specs.OtherRequests.{on_other_timeout_at, on_response_abandoned, on_response_answered, on_response_answered_at, with_retransmitted_ack, without_key}
use Rattle.mmtel_call.specs.Requests.{with_refused_request, with_response_to, with_unlisted_response}
use Rattle.mmtel_call.specs.Sending.{with_status_to}
use Rattle.mmtel_message.specs.Faults.{is_method}
use Rattle.mmtel_compose.specs.Responses.{allow_lines}
use Rattle.mmtel_call.specs.declared.calls.Call.{Call}
use Rattle.mmtel_call.specs.declared.calls.RelayedTransaction.{RelayedTransaction}
use Rattle.mmtel_call.specs.declared.calls.RelayedKind.{RelayedKind}
use Rattle.mmtel_call.specs.declared.calls.RelayedKind.TheVariants.{Prack, Update}
use Rattle.mmtel_call.specs.declared.calls.Phase.{Phase}
use Rattle.mmtel_call.specs.declared.calls.Phase.TheVariants.{Detached, Established, Offered, Over}
use Rattle.mmtel_call.specs.declared.calls.AnsweredInvite.{AnsweredInvite}

-- what is the same of a call
pub record SameCall (c d : Call) : Type 0 where
  pub opening : d.opening ≡ c.opening
  pub diversions : d.diversions ≡ c.diversions
  pub answered : d.answered ≡ c.answered
  pub past : d.past ≡ c.past

pub same_call : (c : Call) → SameCall c c
same_call c = record { opening = refl; diversions = refl; answered = refl; past = refl }

-- ---- no CDRs

pub if-rows : (b : Bool) (one two : StepOutput) (rows : List Row) → one.rows ≡ rows → two.rows ≡ rows → (if b then one else two).rows ≡ rows
if-rows true one two rows e f = e
if-rows false one two rows e f = f

pub cancelled-rows : (sip : Addr) (i : SentInvite) (output : StepOutput) → (with_due_cancel sip i output).rows ≡ output.rows
cancelled-rows sip i output = if-rows (is_cancellable i) (with_cancel sip i output) output output.rows refl refl

pub refused_request-rows : (config : CallConfigView) (c : Call) (key : TKey) (m : MessageView) (fault : DialogueFault) (output : StepOutput) → (with_refused_request config c key m fault output).rows ≡ output.rows
refused_request-rows config c key m (OldCSeq last) output = refl
refused_request-rows config c key m Pending output = refl
refused_request-rows config c key m Unfinished output = refl

pub unlisted-rows : (config : CallConfigView) (c : Call) (key : TKey) (m : MessageView) (output : StepOutput) → (with_unlisted_response config c key m output).rows ≡ output.rows
unlisted-rows config c key m output =
    if-rows (is_method (codes "OPTIONS") m.parsed.start) (with_response_to config c key m 200 (allow_lines (further_methods config)) output)
    (if is_method (codes "REFER") m.parsed.start then with_status_to config c key m 403 output else with_status_to config c key m 481 output) output.rows refl
    (if-rows (is_method (codes "REFER") m.parsed.start) (with_status_to config c key m 403 output) (with_status_to config c key m 481 output) output.rows refl refl)

-- ---- requests in flight are dismissed

pub settled-rows : (config : CallConfigView) (own : Option ℕ) (c : Call) (output : StepOutput) → (with_settled config own c output).rows ≡ output.rows
settled-rows config own c output = if-rows config.reliable _ output output.rows refl refl

settled_in-rows : (phase : Phase) (config : CallConfigView) (c : Call) (output : StepOutput) → (with_settled_in phase config c output).rows ≡ output.rows
settled_in-rows (Offered x) config c output = settled-rows config None c output
settled_in-rows (Established x stage) config c output = refl
settled_in-rows (Detached detached) config c output = refl
settled_in-rows (Over cause) config c output = refl

each-rows : (config : CallConfigView) (c : Call) (flights : List RelayedTransaction) (output : StepOutput) → (with_dismissals config c flights output).rows ≡ output.rows
each-rows config c [] output = refl
each-rows config c (flight ∷ flights) output = each-rows config c flights (with_dismissal config c flight output)

pub dismissing-rows : (config : CallConfigView) (c : Call) (output : StepOutput) → (output_after_dismissal config c output).rows ≡ output.rows
dismissing-rows config c output =
    settled_in-rows c.phase config c (with_all_dismissals config c output) ∙ each-rows config c (filter is_updating c.relayed) _
    ∙ each-rows config c (filter (λ flight. not (is_updating flight)) c.relayed) output

-- ---- a request for which the call does not wait

-- the hold state only changes if an UPDATE was in flight
pub record Untouched (c : Call) (rows : List Row) (s : StepResult) : Type 0 where
  pub phase : s.call.phase ≡ c.phase
  pub same : SameCall c s.call
  pub hold : c.relayed ≡ [] → s.call.hold ≡ c.hold
  pub in_flight : c.relayed ≡ [] → s.call.relayed ≡ []
  pub none : s.output.rows ≡ rows

success-rows : (sip : Addr) (l : AbandonedInvite) (remote : Remote) (d : Option Dialogue) (output : StepOutput) → (on_success_in sip l remote d output).output.rows ≡ output.rows
success-rows sip l remote None output = refl
success-rows sip l remote (Some d) output = refl

rest-if : (b : Bool) (one two : abandoned_invites.AfterResponse) (rows : List Row) → one.output.rows ≡ rows → two.output.rows ≡ rows → (if b then one else two).output.rows ≡ rows
rest-if true one two rows e f = e
rest-if false one two rows e f = f

rest-rows : (sip : Addr) (key : TKey) (m : ParsedMessage) (l : AbandonedInvite) (output : StepOutput) → (on_response sip key m l output).output.rows ≡ output.rows
rest-rows sip key m l output =
    let provisional = after_provisional key m l in
    let taken = with_invite l (with_key key l.invite) in
    let remote = remote_of Callee m.lines in
    rest-if (nat_lt (status_of m.start) 200) _ _ output.rows
    (rest-if provisional.invite.cancelled _ _ output.rows refl refl)
    (rest-if (nat_lt (status_of m.start) 300) _ _ output.rows (success-rows sip taken remote (ended_dialog taken remote.tag) output) refl)

pub untouched : (c : Call) (output : StepOutput) → Untouched c output.rows (step_result c output)
untouched c output = record { phase = refl; same = same_call c; hold = λ e. refl; in_flight = λ e. e; none = refl }

abandoned-untouched : (config : CallConfigView) (key : TKey) (m : MessageView) (at : ℕ) (l : Option AbandonedInvite) (c : Call) (output : StepOutput) →
    Untouched c output.rows (on_response_abandoned config key m at l c output)
abandoned-untouched config key m at None c output = untouched c output
abandoned-untouched config key m at (Some l) c output =
    record { phase = refl; same = record { opening = refl; diversions = refl; answered = refl; past = refl }; hold = λ e. refl; in_flight = λ e. e; none = rest-rows config.sip key m.parsed l output }

acked-rows : (t : AnsweredInvite) (text : Option (List ℕ)) (output : StepOutput) → (with_retransmitted_ack t text output).rows ≡ output.rows
acked-rows t None output = refl
acked-rows t (Some text) output = refl

step-if : (c : Call) (b : Bool) (one two : StepResult) (rows : List Row) → Untouched c rows one → Untouched c rows two → Untouched c rows (if b then one else two)
step-if c true one two rows e f = e
step-if c false one two rows e f = f

answered-untouched : (config : CallConfigView) (key : TKey) (m : MessageView) (at : ℕ) (t : Option AnsweredInvite) (c : Call) (output : StepOutput) →
    Untouched c output.rows (on_response_answered config key m at t c output)
answered-untouched config key m at None c output = untouched c output
answered-untouched config key m at (Some t) c output =
    step-if c (not (is_success (status_of m.parsed.start))) _ _ output.rows (untouched c output)
    (step-if c (is_fork t m) _ _ output.rows
    (record { phase = refl; same = record { opening = refl; diversions = refl; answered = refl; past = refl }; hold = λ e. refl; in_flight = λ e. e; none = rest-rows config.sip key m.parsed (as_abandoned t) output })
    (record {
      phase = refl;
      same = record { opening = refl; diversions = refl; answered = refl; past = refl };
      hold = λ e. refl;
      in_flight = λ e. e;
      none = if-rows (is_stable c.phase) (with_retransmitted_ack t t.invite.ack output) output output.rows (acked-rows t t.invite.ack output) refl;
    }))

-- a request in flight gets its final response

take-none : {A : Type 0} (n : ℕ) (xs : List A) → xs ≡ [] → take n xs ≡ []
take-none zero xs e = refl
take-none (suc n) [] e = refl
take-none (suc n) (x ∷ xs) e = absurd cc

drop-none : {A : Type 0} (n : ℕ) (xs : List A) → xs ≡ [] → drop n xs ≡ []
drop-none zero xs e = e
drop-none (suc n) [] e = refl
drop-none (suc n) (x ∷ xs) e = absurd cc

gone-none : {A : Type 0} (place : ℕ) (xs : List A) → xs ≡ [] → without_at place xs ≡ []
gone-none place xs e = rw (take-none place xs e, drop-none (place + 1) xs e) refl

agreed-untouched : (kind : RelayedKind) (config : CallConfigView) (at : ℕ) (side : Side) (request response : MessageView) (place : ℕ) (c : Call) (output : StepOutput) → (c.relayed ≡ [] → ⊥) →
    Untouched c output.rows (on_accepted_in_flight kind config at side request response (without_transaction place c) output)
agreed-untouched Prack config at side request response place c output some =
    record { phase = refl; same = record { opening = refl; diversions = refl; answered = refl; past = refl }; hold = λ e. refl; in_flight = gone-none place c.relayed; none = refl }
agreed-untouched Update config at side request response place c output some =
    record { phase = refl; same = record { opening = refl; diversions = refl; answered = refl; past = refl }; hold = λ e. absurd (some e); in_flight = gone-none place c.relayed; none = refl }

relayed-untouched : (config : CallConfigView) (at : ℕ) (m : MessageView) (code place : ℕ) (o : Option RelayedTransaction) (c : Call) (output : StepOutput) → (c.relayed ≡ [] → o ≡ None) →
    Untouched c output.rows (on_response_relayed config at m code place o c output)
relayed-untouched config at m code place None c output none = untouched c output
relayed-untouched config at m code place (Some flight) c output none =
    let gone : Call = without_transaction place c in
    let back : StepOutput = with_response_back config flight m gone output in
    step-if c (nat_lt code 200) (step_result c output) (on_final_relayed config at flight m code gone output) output.rows (untouched c output)
    (step-if c (statuses.is_success code) (on_accepted_in_flight flight.kind config at flight.side flight.exchange.request m gone back) (step_result gone back) output.rows
    (agreed-untouched flight.kind config at flight.side flight.exchange.request m place c back (λ e. let is : Some flight ≡ None = none e in cc))
    (record { phase = refl; same = record { opening = refl; diversions = refl; answered = refl; past = refl }; hold = λ e. refl; in_flight = gone-none place c.relayed; none = refl }))

none-there : {A : Type 0} (xs : List A) (n : ℕ) → xs ≡ [] → slice_get xs n ≡ None
none-there [] n e = refl
none-there (x ∷ xs) n e = absurd cc

in-flight-untouched : (config : CallConfigView) (at : ℕ) (m : MessageView) (o : Option ℕ) (c : Call) (output : StepOutput) → Untouched c output.rows (on_response_in_flight config at m o c output)
in-flight-untouched config at m None c output = untouched c output
in-flight-untouched config at m (Some place) c output = relayed-untouched config at m (status_of m.parsed.start) place (slice_get c.relayed place) c output (none-there c.relayed place)

timed-out-relayed-untouched : (config : CallConfigView) (place : ℕ) (o : Option RelayedTransaction) (c : Call) (output : StepOutput) → Untouched c output.rows (on_timeout_relayed config place o c output)
timed-out-relayed-untouched config place None c output = untouched c output
timed-out-relayed-untouched config place (Some flight) c output =
    record { phase = refl; same = record { opening = refl; diversions = refl; answered = refl; past = refl }; hold = λ e. refl; in_flight = gone-none place c.relayed; none = refl }

timed-out-in-flight-untouched : (config : CallConfigView) (o : Option ℕ) (c : Call) (output : StepOutput) → Untouched c output.rows (on_timeout_in_flight config o c output)
timed-out-in-flight-untouched config None c output = untouched c output
timed-out-in-flight-untouched config (Some place) c output = timed-out-relayed-untouched config place (slice_get c.relayed place) c output

-- by the branch

answered_at-untouched : (config : CallConfigView) (at : ℕ) (key : TKey) (m : MessageView) (branch : List ℕ) (o : Option ℕ) (c : Call) (output : StepOutput) →
    Untouched c output.rows (on_response_answered_at config at key m branch o c output)
answered_at-untouched config at key m branch None c output = in-flight-untouched config at m (position (is_in_flight branch) c.relayed) c output
answered_at-untouched config at key m branch (Some place) c output = answered-untouched config key m place (slice_get c.answered_invites place) c output

at-untouched : (config : CallConfigView) (at : ℕ) (key : TKey) (m : MessageView) (branch : List ℕ) (o : Option ℕ) (c : Call) (output : StepOutput) →
    Untouched c output.rows (on_other_response_at config at key m branch o c output)
at-untouched config at key m branch None c output = answered_at-untouched config at key m branch (position (is_answered_invite branch) c.answered_invites) c output
at-untouched config at key m branch (Some place) c output = abandoned-untouched config key m place (slice_get c.abandoned place) c output

pub other-untouched : (config : CallConfigView) (at : ℕ) (key : TKey) (m : MessageView) (branch : List ℕ) (c : Call) (output : StepOutput) → Untouched c output.rows (on_other_response config at key m branch c output)
unfolding on_other_response
other-untouched config at key m branch c output = at-untouched config at key m branch (position (is_of_branch branch) c.abandoned) c output

timed-out_at-untouched : (config : CallConfigView) (branch : List ℕ) (o : Option ℕ) (c : Call) (output : StepOutput) → Untouched c output.rows (on_other_timeout_at config branch o c output)
timed-out_at-untouched config branch None c output = timed-out-in-flight-untouched config (position (is_in_flight branch) c.relayed) c output
timed-out_at-untouched config branch (Some place) c output = record { phase = refl; same = record { opening = refl; diversions = refl; answered = refl; past = refl }; hold = λ e. refl; in_flight = λ e. e; none = refl }

pub timed-out-untouched : (config : CallConfigView) (branch : List ℕ) (c : Call) (output : StepOutput) → Untouched c output.rows (on_other_timeout config branch c output)
timed-out-untouched config branch c output = timed-out_at-untouched config branch (position (is_of_branch branch) c.abandoned) c output

pub key-untouched : (key : TKey) (c : Call) (output : StepOutput) → Untouched c output.rows (step_result (without_key key c) output)
key-untouched key c output = record { phase = refl; same = record { opening = refl; diversions = refl; answered = refl; past = refl }; hold = λ e. refl; in_flight = λ e. e; none = refl }
