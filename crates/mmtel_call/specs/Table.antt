-- The step table of a call: its transition on each signal, by its phase (RFC 3261 §12 to §15, TS 24.604 §4.5.2.6). How a call opens is defined in Opening.
use Rattle.std.specs.Prelude.{ℕ, ◌&&◌, Bool, false, if◌then◌else◌, Option, Some, None, List}
use Rattle.std.specs.Str.{bytes_eq}
use Rattle.mmtel_compose.specs.ReceivedMessages.{MessageView, status_of}
use Rattle.mmtel_output.specs.declared.outputs.StepOutput.{StepOutput}
use Rattle.mmtel_output.specs.declared.sent_invites.SentInvite.{SentInvite}
use Rattle.mmtel_precedence.specs.Calls.{SnapshotView}
use Rattle.mmtel_transaction.specs.declared.words.DueWord.{DueWord}
use Rattle.mmtel_transaction.specs.declared.words.TKey.{TKey}
use Rattle.mmtel_types.specs.declared.sides.Side.{Side}
use Rattle.mmtel_output.specs.ResponseMatching.{awaited_request_branch, timed_out_branch}
use Rattle.mmtel_call_services.specs.CallConfig.{CallConfigView}
use Rattle.mmtel_call.specs.Calls.{Answered, Call, Departing, Detached, Established, Offered, Over, Phase, Reinviting, Stable, Stage}
use Rattle.mmtel_call.specs.Closing.{StepResult, step_result}
use Rattle.mmtel_call.specs.Dismissal.{leaves_on_ack, leaves_on_cancel, leaves_on_due, leaves_on_request, leaves_on_status, leaves_on_timeout}
use Rattle.mmtel_call.specs.RelayedTransactions.{output_after_dismissal, without_in_flight}
use Rattle.mmtel_call.specs.OtherRequests.{on_other_response, on_other_timeout, without_key}
use Rattle.mmtel_call.specs.Ringing.{on_cancel, on_due, on_request, on_response, on_timeout}
use Rattle.mmtel_call.specs.Sending.{with_status_to}
use Rattle.mmtel_call.specs.Stages.{on_ack_at, on_cancel_at, on_due_at, on_request_at, on_response_at, on_timeout_at}
use Rattle.mmtel_call.specs.declared.signals.Signal.{Signal}
use Rattle.mmtel_call.specs.declared.signals.Signal.TheVariants as signal

-- ---- the INVITE for which the call waits

abbrev pub current_invite_at : Stage → Option SentInvite
current_invite_at (Answered side success) = None
current_invite_at (Departing side success) = None
current_invite_at Stable = None
current_invite_at (Reinviting side q) = Some q.invite

abbrev pub current_invite : Phase → Option SentInvite
current_invite (Offered x) = Some x.attempt.invite
current_invite (Established x stage) = current_invite_at stage
current_invite (Detached detached) = None
current_invite (Over cause) = None

abbrev pub is_branch : List ℕ → Option SentInvite → Bool
is_branch branch None = false
is_branch branch (Some i) = bytes_eq i.branch branch

abbrev pub is_current : List ℕ → Call → Bool
is_current branch c = is_branch branch (current_invite c.phase)

-- ---- by phase; a call that is over sends no response, and one whose leg is detached processes no signal

abbrev pub response_in : Phase → CallConfigView → SnapshotView → TKey → MessageView → Call → StepOutput → StepResult
response_in (Offered x) config now key m c output = on_response config now x key m (status_of m.parsed.start) c output
response_in (Established x stage) config now key m c output = on_response_at stage config now.at x key m c output
response_in (Detached detached) config now key m c output = step_result c output
response_in (Over cause) config now key m c output = step_result c output

abbrev pub timeout_in : Phase → CallConfigView → SnapshotView → Call → StepOutput → StepResult
timeout_in (Offered x) config now c output = on_timeout config now x c output
timeout_in (Established x stage) config now c output = on_timeout_at stage config now.at x c output
timeout_in (Detached detached) config now c output = step_result c output
timeout_in (Over cause) config now c output = step_result c output

abbrev pub request_in : Phase → CallConfigView → (at : ℕ) → Side → TKey → MessageView → Call → StepOutput → StepResult
request_in (Offered x) config at side key m c output = on_request config at x side key m c output
request_in (Established x stage) config at side key m c output = on_request_at stage config at x side key m c output
request_in (Detached detached) config at side key m c output = step_result c output
request_in (Over cause) config at side key m c output = step_result c output

abbrev pub ack_in : Phase → CallConfigView → (at : ℕ) → Side → MessageView → Call → StepOutput → StepResult
ack_in (Offered x) config at side m c output = step_result c output
ack_in (Established x stage) config at side m c output = on_ack_at stage config at x side m c output
ack_in (Detached detached) config at side m c output = step_result c output
ack_in (Over cause) config at side m c output = step_result c output

abbrev pub cancel_in : Phase → CallConfigView → (at : ℕ) → TKey → MessageView → (invite : TKey) → Call → StepOutput → StepResult
cancel_in (Offered x) config at key m invite c output = on_cancel config at x key m invite c output
cancel_in (Established x stage) config at key m invite c output = on_cancel_at stage config x invite c (with_status_to config c key m 200 output)
cancel_in (Detached detached) config at key m invite c output = step_result c output
cancel_in (Over cause) config at key m invite c output = step_result c output

abbrev pub due_in : Phase → CallConfigView → SnapshotView → DueWord → Call → StepOutput → StepResult
due_in (Offered x) config now what c output = on_due config now x what c output
due_in (Established x stage) config now what c output = on_due_at stage config now.at x what c output
due_in (Detached detached) config now what c output = step_result c output
due_in (Over cause) config now what c output = step_result c output

-- ---- the table

-- a response: to the INVITE for which the call waits, or to another request
abbrev pub on_response_to : Option (List ℕ) → CallConfigView → SnapshotView → TKey → MessageView → Call → StepOutput → StepResult
on_response_to None config now key m c output = step_result c output
on_response_to (Some branch) config now key m c output =
    if is_current branch c then response_in c.phase config now key m c output else on_other_response config now.at key m branch c output

abbrev pub on_timeout_of : Option (List ℕ) → CallConfigView → SnapshotView → Call → StepOutput → StepResult
on_timeout_of None config now c output = step_result c output
on_timeout_of (Some branch) config now c output = if is_current branch c then timeout_in c.phase config now c output else on_other_timeout config branch c output

unfoldable pub transition : CallConfigView → SnapshotView → Signal → Call → StepOutput → StepResult
transition config now (signal.Request side key request) c output = request_in c.phase config now.at side key request c output
transition config now (signal.Ack side ack) c output = ack_in c.phase config now.at side ack c output
transition config now (signal.Cancel key cancel invite) c output = cancel_in c.phase config now.at key cancel invite c output
transition config now (signal.Answer key response) c output = on_response_to (awaited_request_branch response) config now key response c output
transition config now (signal.Silent branch method) c output = on_timeout_of (timed_out_branch branch method) config now c output
transition config now (signal.Due what) c output = due_in c.phase config now what c output
transition config now (signal.Ended key) c output = step_result (without_key key c) output

-- ---- in a step that ends the attempt without a 2xx, or ends the call, requests in flight get their final responses first

abbrev pub leaves_on_response : Option (List ℕ) → MessageView → Call → Bool
leaves_on_response None m c = false
leaves_on_response (Some branch) m c = is_current branch c && leaves_on_status (status_of m.parsed.start) c.phase

abbrev pub leaves_on_timeout_of : Option (List ℕ) → Call → Bool
leaves_on_timeout_of None c = false
leaves_on_timeout_of (Some branch) c = is_current branch c && leaves_on_timeout c.phase

abbrev pub leaves : Signal → Call → Bool
leaves (signal.Request side key request) c = leaves_on_request c.phase side request
leaves (signal.Ack side ack) c = leaves_on_ack c.phase side ack
leaves (signal.Cancel key cancel invite) c = leaves_on_cancel c.phase invite c
leaves (signal.Answer key response) c = leaves_on_response (awaited_request_branch response) response c
leaves (signal.Silent branch method) c = leaves_on_timeout_of (timed_out_branch branch method) c
leaves (signal.Due what) c = leaves_on_due c.phase what c
leaves (signal.Ended key) c = false

unfoldable pub step : CallConfigView → SnapshotView → Signal → Call → StepOutput → StepResult
step config now s c output = if leaves s c then transition config now s (without_in_flight c) (output_after_dismissal config c output) else transition config now s c output
