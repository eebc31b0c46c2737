-- What a call that is offered does on each signal: it continues to wait for its attempt, or the attempt ends and the call continues or is over.
use Rattle.std.proofs.Common.{◌≡◌, ◌≤◌, ◌+◌, ℕ, ◌==◌, Bool, true, false, not, List, [], ◌∷◌, Option, Some, None, refl, ap, sym}
use Rattle.std.proofs.Common.{subst, ◌∙◌, arith, nat_lt, ◌&&◌, ◌||◌, Result, Ok, Err, append-nil, ◌++◌, codes, drop, length}
use Rattle.std.proofs.lemmas.Bool.Decides.{nat_tests}
use Rattle.std.specs.Option.{option_map}
use Rattle.std.specs.Prelude.{if◌then◌else◌, is_ok, is_some}
use Rattle.std.specs.Str.{bytes_eq}
use Rattle.mmtel_compose.specs.Responses.{retry_after_lines}
use Rattle.mmtel_compose.specs.ReceivedMessages.{MessageView, status_of, to_tag_of}
use Rattle.mmtel_output.specs.Outputs.{after_draw}
use Rattle.mmtel_output.specs.Sending.{with_final_ack}
use Rattle.mmtel_output.specs.declared.outputs.StepOutput.{StepOutput}
use Rattle.mmtel_leg.specs.Dialogues.{names_itself}
use Rattle.mmtel_leg.specs.Legs.{Leg}
use Rattle.mmtel_leg.specs.Remotes.{remote_of, tag_in}
use Rattle.mmtel_leg.specs.declared.dialogues.DialogueFault.{DialogueFault}
use Rattle.mmtel_leg.specs.declared.dialogues.InFlight.TheVariants as in_flight
use Rattle.mmtel_leg.specs.declared.remotes.Remote.{Remote}
use Rattle.mmtel_precedence.specs.Attempts.{end_by_final, end_by_response, end_by_time, rings}
use Rattle.mmtel_message.specs.Message.{Line}
use Rattle.mmtel_precedence.specs.Calls.{AttemptEndView, Cancel, NoReply, NotReachable, SnapshotView, Unacknowledged}
use Rattle.mmtel_reliable.specs.Acks.{AcksView, after_ack, after_relay, callee_number, has_own, own_number, response_acknowledged_by}
use Rattle.mmtel_reliable.specs.declared.acks.ReliableResponse.{ReliableResponse}
use Rattle.mmtel_reliable.specs.declared.racks.Rack.{Rack}
use Rattle.mmtel_transaction.specs.declared.words.DueWord.{DueWord}
use Rattle.mmtel_transaction.specs.declared.words.DueWord.TheVariants as due
use Rattle.mmtel_transaction.specs.declared.words.TKey.{TKey}
use Rattle.mmtel_types.specs.Causes.{status_of as status_by}
use Rattle.mmtel_types.specs.declared.causes.Cause.{Cause}
use Rattle.mmtel_types.specs.declared.causes.Cause.TheVariants as causes
use Rattle.mmtel_types.specs.declared.sides.Side.{Side}
use Rattle.mmtel_types.specs.declared.sides.Side.TheVariants.{Caller, Callee}
use Rattle.mmtel_call_services.specs.Decisions.{no_reply_time_of, redirect_of, service_sheet}
use Rattle.mmtel_output.specs.ResponseMatching.{awaited_request_branch, timed_out_branch}
use Rattle.mmtel_call_services.specs.Reliable.{reliable_number}
use Rattle.mmtel_call_services.specs.Requests.{is_same_side}
use Rattle.mmtel_call_services.specs.CallConfig.{CallConfigView}
use Rattle.mmtel_call_services.specs.declared.openings.Opening.{Opening}
use Rattle.mmtel_call.specs.Closing.{StepResult, step_result}
use Rattle.mmtel_call.specs.Diverting.{after_attempt}
use Rattle.mmtel_call.specs.RelayedTransactions.{output_after_dismissal, updating_side, with_settled, without_in_flight}
use Rattle.mmtel_call.specs.OtherRequests.{on_other_timeout, without_key}
use Rattle.mmtel_call.specs.Reliable.{after_prack_across, attempt_after_early_request, named_rseq, on_named_prack, on_prack, on_rack, own_rseq_for, prack_time, rack_in, status_of_refusal, with_reliable_response}
use Rattle.mmtel_call.specs.Requests.{is_bye, is_prack, is_update, request_check, with_refused_request, with_response_to, with_unlisted_response}
use Rattle.mmtel_call.specs.Ringing.{ack_time, on_answer, with_no_reply_timer, with_no_reply_timer_in, with_attempt_cancel, early_remote_of, on_failure, end_before_answer}
use Rattle.mmtel_call.specs.Ringing.{attempt_after_request, call_without_attempt, leg_with_remote, next_success, on_due, on_other, on_request, on_request_if, on_response}
use Rattle.mmtel_call.specs.Ringing.{attempt_after_provisional, on_provisional, on_provisional_by, on_numbered_provisional, on_plain_provisional, on_attempt_timeout, on_trying, expiry_in}
use Rattle.mmtel_call.specs.Sending.{with_relay_to_caller, with_status_to, with_status_to_caller}
use Rattle.mmtel_call.specs.Table.{leaves, on_response_to, on_timeout_of, step, transition}
use Rattle.mmtel_call.specs.AttemptLeg.{AttemptLegView}
use Rattle.mmtel_call.specs.Updates.{accepts_updates, attempt_after_update, on_early_retry, on_early_update, on_update, unless_updating}
use Rattle.mmtel_call.specs.declared.calls.Call.{Call}
use Rattle.mmtel_call.specs.declared.calls.Phase.TheVariants.{Offered}
use Rattle.mmtel_call.specs.declared.calls.OfferedAttempt.{OfferedAttempt}
use Rattle.mmtel_call.specs.declared.signals.Signal.{Signal}
use Rattle.mmtel_call.specs.declared.signals.Signal.TheVariants as signal
use Rattle.mmtel_call_theorems.specs.Endings.{end_of_attempt, end_on_deadline, end_on_request, end_on_response, end_on_timeout, is_branch_of_attempt}
use Rattle.mmtel_call_theorems.specs.Attempts.Theorems.{deadlines_of, early_tag}
use Rattle.mmtel_call_theorems.specs.Attempts.Observed.{Armed, AttemptEvent, AttemptInProgress, acks_after, acks_after_ack, acks_after_request, acks_after_response, acks_relayed}
use Rattle.mmtel_call_theorems.specs.Attempts.Observed.{early_by, early_in, is_in_early, is_relayed, is_relayed_by, is_response_to, last_by, last_by_request, relayed_response, rings_by}
use Rattle.mmtel_call_theorems.proofs.Attempts.AttemptsInProgress.{Moves, goes_on_moves, over_moves}
use Rattle.mmtel_call_theorems.proofs.Attempts.Reading.{Adds, adds_emit, adds_nothing, adds_quiet, own_deadline}
use Rattle.mmtel_call_theorems.proofs.Attempts.Sending.{Unseen, cancelled_unseen, dismissing_unseen, final_acked_unseen, notified_unseen, other_waits}
use Rattle.mmtel_call_theorems.proofs.Attempts.Sending.{refused_request_unseen, relayed_unseen, replied_unseen, settled_unseen, timed_out_waits, unlisted_unseen}
use Rattle.mmtel_session.specs.Intervals.{expiry_interval_of}

-- the no-reply time of the record under which the call was offered
abbrev pub its_time : OfferedAttempt → Option ℕ
its_time x = no_reply_time_of (service_sheet x.attempt.service)

-- the attempt of a call as it would be observed, where its INVITE was sent at this moment, and it rang at this one
abbrev pub in_progress_of : OfferedAttempt → (since : ℕ) → (rung : Option ℕ) → AttemptInProgress
in_progress_of x since rung = record {
  peer = x.attempt.invite.dialogue.peer;
  uri = x.attempt.invite.dialogue.target;
  branch = x.attempt.invite.branch;
  since = since;
  armed = deadlines_of x.attempt.number (its_time x) since rung;
  rang_at = rung;
  early = early_tag x.callee;
}

-- what is observed of an attempt by what is received: whether it rings now, its early dialog, and which reliable responses wait for their PRACK
pub record AttemptUpdate : Type 0 where
  pub rings : Bool
  pub early : Option (List ℕ)
  pub acks : AcksView

-- of the call with this opening
abbrev pub attempt_update : CallConfigView → Opening → (last : Option ℕ) → AttemptInProgress → AcksView → Signal → AttemptUpdate
attempt_update config o last g acks received =
    record { rings = rings_by (relayed_response config o g acks received); early = early_by g.early (relayed_response config o g acks received); acks = acks_after config o last g acks received }

-- what a step arms at this moment, by whether it is the first in which the target rings: the no-reply time, if there is one
abbrev pub events_by : (number : ℕ) → (at : ℕ) → (time : Option ℕ) → List AttemptEvent
events_by number at None = []
events_by number at (Some time) = Armed (due.NoReply number) (at + time) ∷ []

abbrev pub events_rung : (number : ℕ) → (at : ℕ) → (time : Option ℕ) → (first : Bool) → List AttemptEvent
events_rung number at time first = if first then events_by number at time else []

-- the call as it is offered
abbrev pub offered : OfferedAttempt → Call → Call
offered x c = record c { phase = Offered x }

-- it continues to wait for the same attempt, after this
pub record StillWaits (at : ℕ) (config : CallConfigView) (x : OfferedAttempt) (c : Call) (before : StepOutput) (last : Option ℕ) (update : AttemptUpdate) (s : StepResult) (y : OfferedAttempt) : Type 0 where
  pub phase : s.call.phase ≡ Offered y
  pub attempts : s.call.attempts ≡ c.attempts
  pub remaining : s.call.diversions.remaining ≡ c.diversions.remaining
  pub latest : y.caller.dialogue.remote_cseq ≡ last
  pub number : y.attempt.number ≡ x.attempt.number
  pub dialogue : y.attempt.invite.dialogue ≡ x.attempt.invite.dialogue
  pub branch : y.attempt.invite.branch ≡ x.attempt.invite.branch
  pub leg : y.callee.leg.dialogue.peer ≡ x.callee.leg.dialogue.peer
  pub side : y.callee.leg.dialogue.side ≡ x.callee.leg.dialogue.side
  pub rang : y.attempt.rang ≡ (x.attempt.rang || update.rings)
  pub early : early_tag y.callee ≡ update.early
  pub acks : s.call.acks ≡ update.acks
  pub service : y.attempt.service ≡ x.attempt.service
  pub adds : Adds config.sip c.opening.number before s.output (events_rung x.attempt.number at (its_time x) (update.rings && not x.attempt.rang))

pub data Passes (at : ℕ) (config : CallConfigView) (x : OfferedAttempt) (c : Call) (before : StepOutput) (last : Option ℕ) (update : AttemptUpdate) (end : Option AttemptEndView) (s : StepResult) : Type 0 where
  Waits : end ≡ None → (y : OfferedAttempt) → StillWaits at config x c before last update s y → Passes at config x c before last update end s
  Leaves : (how : AttemptEndView) → end ≡ Some how → Moves config before at c.opening.number c.attempts c.acks last (c.attempts + c.diversions.remaining) s → Passes at config x c before last update end s

or_false : (b : Bool) → b ≡ (b || false)
or_false true = refl
or_false false = refl

module _ (config : CallConfigView) (now : SnapshotView) (x : OfferedAttempt) (c : Call) (before : StepOutput) where
  abbrev Last : Option ℕ
  Last = x.caller.dialogue.remote_cseq

  abbrev So : StepOutput → Type 0
  So output = Unseen config c.opening.number before output

  abbrev Does : (last : Option ℕ) → AttemptUpdate → Option AttemptEndView → StepResult → Type 0
  Does last update end s = Passes now.at config x c before last update end s

  -- nothing new is observed
  abbrev Same : AttemptUpdate
  Same = record { rings = false; early = early_tag x.callee; acks = c.acks }

  does_either : (last : Option ℕ) (update : AttemptUpdate) (b : Bool) (end end2 : Option AttemptEndView) (s s2 : StepResult) → Does last update end s → Does last update end2 s2 →
      Does last update (if b then end else end2) (if b then s else s2)
  does_either last update true end end2 s s2 f g = f
  does_either last update false end end2 s s2 f g = g

  does_one : (last : Option ℕ) (update : AttemptUpdate) (b : Bool) (end : Option AttemptEndView) (s s2 : StepResult) → Does last update end s → Does last update end s2 → Does last update end (if b then s else s2)
  does_one last update true end s s2 f g = f
  does_one last update false end s s2 f g = g

  -- nothing is observed, and it continues to wait as before
  waits : (s : StepResult) → s.call.phase ≡ Offered x → s.call.attempts ≡ c.attempts → s.call.diversions.remaining ≡ c.diversions.remaining → s.call.acks ≡ c.acks → So s.output → Does Last Same None s
  waits s e f g h had = Waits refl x (record {
    phase = e;
    attempts = f;
    remaining = g;
    latest = refl;
    number = refl;
    dialogue = refl;
    branch = refl;
    leg = refl;
    side = refl;
    rang = or_false x.attempt.rang;
    early = refl;
    acks = h;
    service = refl;
    adds = had;
  })

  -- a request of a side was accepted, or a request was sent to one
  waits_received : (y : OfferedAttempt) (last : Option ℕ) (update : AttemptUpdate) (s : StepResult) → s.call.phase ≡ Offered y → s.call.attempts ≡ c.attempts →
      s.call.diversions.remaining ≡ c.diversions.remaining → update.rings ≡ false →
      y.caller.dialogue.remote_cseq ≡ last → y.attempt.number ≡ x.attempt.number → y.attempt.invite.dialogue ≡ x.attempt.invite.dialogue → y.attempt.invite.branch ≡ x.attempt.invite.branch →
      y.callee.leg.dialogue.peer ≡ x.callee.leg.dialogue.peer → y.callee.leg.dialogue.side ≡ x.callee.leg.dialogue.side → y.attempt.rang ≡ x.attempt.rang → y.attempt.service ≡ x.attempt.service →
      early_tag y.callee ≡ update.early → s.call.acks ≡ update.acks → So s.output →
      Does last update None s
  waits_received y last update s phase attempts left silent latest number dialogue branch leg side rang service early acks had = Waits refl y (record {
    phase = phase;
    attempts = attempts;
    remaining = left;
    latest = latest;
    number = number;
    dialogue = dialogue;
    branch = branch;
    leg = leg;
    side = side;
    rang = rang ∙ or_false x.attempt.rang ∙ ap (λ b. x.attempt.rang || b) (sym silent);
    early = early;
    acks = acks;
    service = service;
    adds = subst (λ b. Adds config.sip c.opening.number before s.output (events_rung x.attempt.number now.at (its_time x) (b && not x.attempt.rang))) (sym silent) had;
  })

  -- ---- the call is abandoned

  gives_up_by : (cause : Cause) (how : AttemptEndView) (last : Option ℕ) (update : AttemptUpdate) (y : OfferedAttempt) (output : StepOutput) → So output →
      Does last update (Some how) (end_before_answer cause config now.at y (offered y c) output)
  gives_up_by cause how last update y output had =
      let said = with_status_to_caller config (offered y c) (status_by cause) output in
      Leaves how refl (over_moves config before c.opening.number now.at cause y.caller.meter y.callee.leg.meter c.attempts c.acks last (c.attempts + c.diversions.remaining)
      (call_without_attempt y (offered y c)) (with_attempt_cancel config y said)
      (cancelled_unseen config c.opening.number before y.attempt.invite said (notified_unseen config c.opening.number before (offered y c) (status_by cause) output had)))

  -- ---- requests

  -- what is observed where a request of a side was accepted, and the call is offered in this way
  module _ (y : OfferedAttempt) (last : Option ℕ) (key : TKey) (m : MessageView) (output : StepOutput) (had : So output) (latest : y.caller.dialogue.remote_cseq ≡ last) (number : y.attempt.number ≡ x.attempt.number)
      (dialogue : y.attempt.invite.dialogue ≡ x.attempt.invite.dialogue) (branch : y.attempt.invite.branch ≡ x.attempt.invite.branch) (leg : y.callee.leg.dialogue.peer ≡ x.callee.leg.dialogue.peer)
      (side_same : y.callee.leg.dialogue.side ≡ x.callee.leg.dialogue.side) (rang : y.attempt.rang ≡ x.attempt.rang) (service : y.attempt.service ≡ x.attempt.service)
      (early : early_tag y.callee ≡ early_tag x.callee) where
    -- nothing except a reply
    replies : (update : AttemptUpdate) (output2 : StepOutput) → update.rings ≡ false → early_tag x.callee ≡ update.early → c.acks ≡ update.acks → So output2 → Does last update None (step_result (offered y c) output2)
    replies update output2 silent e f had2 = waits_received y last update (step_result (offered y c) output2) refl refl refl silent latest number dialogue branch leg side_same rang service (early ∙ e) f had2

    refused_so : (update : AttemptUpdate) → update.rings ≡ false → early_tag x.callee ≡ update.early → c.acks ≡ update.acks → (code : ℕ) →
        Does last update None (step_result (offered y c) (with_status_to config (offered y c) key m code output))
    refused_so update silent e f code = replies update (with_status_to config (offered y c) key m code output) silent e f (replied_unseen config c.opening.number before (offered y c) key m code output had)

    -- UPDATE

    across : (side : Side) → Does last Same None (on_early_update config y side key m (offered y c) output)
    across Caller =
        waits_received (attempt_after_update Caller y) last Same (on_early_update config y Caller key m (offered y c) output) refl refl refl refl latest number dialogue branch leg side_same rang service early refl
        (adds_quiet config.sip c.opening.number before (after_draw output) _ [] refl (record { new = had.new; out = had.out; seen = had.seen }))
    across Callee =
        waits_received (attempt_after_update Callee y) last Same (on_early_update config y Callee key m (offered y c) output) refl refl refl refl latest number dialogue branch leg side_same rang service early refl
        (adds_quiet config.sip c.opening.number before (after_draw output) _ [] refl (record { new = had.new; out = had.out; seen = had.seen }))

    later_so : Does last Same None (on_early_retry config key m (offered y c) output)
    later_so = replies Same (with_response_to config (offered y c) key m 500 retry_after_lines output) refl refl refl (adds_quiet config.sip c.opening.number before output _ [] refl had)

    unless_so : (side : Side) (flying : Option Side) → Does last Same None (unless_updating flying (on_early_update config y side key m) config side key m (offered y c) output)
    unless_so side None = across side
    unless_so side (Some flying) = does_one last Same (is_same_side flying side) None _ _ later_so (refused_so Same refl refl refl 491)

    updates : (side : Side) → Does last Same None (on_update config y side key m (offered y c) output)
    updates side = does_one last Same (accepts_updates y) None _ _ (unless_so side (updating_side c.relayed)) later_so

    rest_so : (side : Side) → Does last Same None (if is_update m then on_update config y side key m (offered y c) output else step_result (offered y c) (with_unlisted_response config (offered y c) key m output))
    rest_so side =
        does_one last Same (is_update m) None _ _ (updates side)
        (replies Same (with_unlisted_response config (offered y c) key m output) refl refl refl (unlisted_unseen config c.opening.number before (offered y c) key m output had))

    -- PRACK

    abbrev Acked : AcksView → AttemptUpdate
    Acked acks = record { rings = false; early = early_tag x.callee; acks = acks }

    none_named : (rack : Rack) (o : Option ReliableResponse) → o ≡ response_acknowledged_by rack c.acks.cseq c.acks.waiting → o ≡ None → c.acks ≡ after_ack rack c.acks
    none_named rack o e f = ap (λ (o : Option ReliableResponse). if is_some o then record c.acks { waiting = drop 1 c.acks.waiting } else c.acks) (sym f ∙ e)

    acknowledges_so : (rack : Rack) (o : Option ReliableResponse) → o ≡ response_acknowledged_by rack c.acks.cseq c.acks.waiting →
        Does last (Acked (after_ack rack c.acks)) None (on_named_prack config y key m rack (option_map (λ (answer : ReliableResponse). answer.callee) o) (offered y c) output)
    acknowledges_so rack None e = refused_so (Acked (after_ack rack c.acks)) refl refl (none_named rack None e refl) (status_of_refusal (rack_in m))
    acknowledges_so rack (Some answer) e =
        let settled_output : StepOutput = with_settled config (Some rack.answer) (offered y c) output in
        let was = settled_unseen config c.opening.number before (Some rack.answer) (offered y c) output had in
        waits_received (attempt_after_early_request (codes "PRACK") y) last (Acked (after_ack rack c.acks))
        (after_prack_across config y key m rack answer.callee (offered y c) output) refl refl refl refl latest number dialogue branch leg side_same rang service early refl
        (adds_quiet config.sip c.opening.number before (after_draw settled_output) _ [] refl (record { new = was.new; out = was.out; seen = was.seen }))

    -- by whether there is an early dialog
    in_early : (is_early : Bool) (tag : List ℕ) (rack : Rack) → Does last (Acked (acks_after_ack (if is_early then Some tag else None) (Some rack) c.acks)) None
        (on_named_prack config y key m rack (if is_early then callee_number rack c.acks else None) (offered y c) output)
    in_early true tag rack = acknowledges_so rack (response_acknowledged_by rack c.acks.cseq c.acks.waiting) refl
    in_early false tag rack = refused_so (Acked c.acks) refl refl refl (status_of_refusal (rack_in m))

    no_rack : (early : Option (List ℕ)) → c.acks ≡ acks_after_ack early None c.acks
    no_rack None = refl
    no_rack (Some tag) = refl

    racks : (rack : Option Rack) → y.callee ≡ x.callee → Does last (Acked (acks_after_ack (early_tag x.callee) rack c.acks)) None (on_rack config y key m rack (offered y c) output)
    racks None same = refused_so (Acked (acks_after_ack (early_tag x.callee) None c.acks)) refl refl (no_rack (early_tag x.callee)) (status_of_refusal (rack_in m))
    racks (Some rack) same =
        subst (λ (callee : AttemptLegView). Does last (Acked (acks_after_ack (early_tag callee) (Some rack) c.acks)) None (on_named_prack config y key m rack (named_rseq y (offered y c) rack) (offered y c) output)) same
        (in_early y.callee.is_early y.callee.leg.dialogue.remote_tag rack)

    -- requests of the caller, except BYE
    asks : y.callee ≡ x.callee → (b : Bool) → Does last (Acked (if b then acks_after_ack (early_tag x.callee) (rack_in m) c.acks else c.acks)) None
        (if b then on_prack config y key m (offered y c) output else if is_update m then on_update config y Caller key m (offered y c) output
        else step_result (offered y c) (with_unlisted_response config (offered y c) key m output))
    asks same true = racks (rack_in m) same
    asks same false = rest_so Caller

    -- and the target
    is_asked : Does last Same None (on_other config y Callee key m (offered y c) output)
    is_asked = does_one last Same (is_prack m) None _ _ (refused_so Same refl refl refl (status_of_refusal (rack_in m))) (rest_so Callee)

  caller_received : (key : TKey) (m : MessageView) (said : Result (Unit {0}) DialogueFault) (output : StepOutput) → So output →
      Does (if is_ok said then Rattle.mmtel_leg.specs.Dialogues.last_after (Rattle.mmtel_call_services.specs.Requests.number_of m) Last else Last)
      (record { rings = false; early = early_tag x.callee; acks = if is_ok said && is_prack m then acks_after_ack (early_tag x.callee) (rack_in m) c.acks else c.acks })
      (if is_ok said && is_bye m then Some Cancel else None)
      (on_request_if said config now.at x Caller key m (offered x c) output)
  caller_received key m (Ok received) output had =
      let y = attempt_after_request Caller m x in
      does_either y.caller.dialogue.remote_cseq _ (is_bye m) (Some Cancel) None _ _
      (gives_up_by causes.Cancelled Cancel y.caller.dialogue.remote_cseq _ y (with_status_to config (offered y c) key m 200 output) (replied_unseen config c.opening.number before (offered y c) key m 200 output had))
      (asks y y.caller.dialogue.remote_cseq key m output had refl refl refl refl refl refl refl refl refl refl (is_prack m))
  caller_received key m (Err fault) output had = waits (step_result (offered x c) (with_refused_request config (offered x c) key m fault output)) refl refl refl refl
      (refused_request_unseen config c.opening.number before (offered x c) key m fault output had)

  callee_received : (key : TKey) (m : MessageView) (said : Result (Unit {0}) DialogueFault) (output : StepOutput) → So output → Does Last Same None (on_request_if said config now.at x Callee key m (offered x c) output)
  callee_received key m (Ok received) output had = is_asked (attempt_after_request Callee m x) Last key m output had refl refl refl refl refl refl refl refl refl
  callee_received key m (Err fault) output had = waits (step_result (offered x c) (with_refused_request config (offered x c) key m fault output)) refl refl refl refl
      (refused_request_unseen config c.opening.number before (offered x c) key m fault output had)

  abbrev Heard : AttemptInProgress → Side → MessageView → AttemptUpdate
  Heard g side m = record { rings = false; early = early_tag x.callee; acks = acks_after_request Last g c.acks side m }

  request_passes : (since : ℕ) (rung : Option ℕ) (side : Side) (key : TKey) (m : MessageView) (output : StepOutput) → So output →
      Does (last_by_request Last side m) (Heard (in_progress_of x since rung) side m) (end_on_request x side m) (on_request config now.at x side key m (offered x c) output)
  request_passes since rung Caller key m output had = caller_received key m (request_check x.caller m in_flight.Theirs) output had
  request_passes since rung Callee key m output had = callee_received key m (request_check x.callee.leg m in_flight.Own) output had

  -- ---- deadlines and timeouts

  stays : (output : StepOutput) → So output → Does Last Same None (step_result (offered x c) output)
  stays output had = waits (step_result (offered x c) output) refl refl refl refl had

  same_room : (n : ℕ) → n ≤ n
  same_room n = omega arith

  goes : (update : AttemptUpdate) (how : AttemptEndView) (m : Option MessageView) (output : StepOutput) → So output → Does Last update (Some how) (after_attempt config now x how m (offered x c) output)
  goes update how m output had = Leaves how refl (goes_on_moves config before now x how m (c.attempts + c.diversions.remaining) (offered x c) output (same_room (c.attempts + c.diversions.remaining)) had)

  timed : (how : AttemptEndView) (output : StepOutput) → So output → Does Last Same (Some how) (on_attempt_timeout config now x how (offered x c) output)
  timed how output had = Leaves how refl (goes_on_moves config before now x how None (c.attempts + c.diversions.remaining) (call_without_attempt x (offered x c)) (with_attempt_cancel config x output)
      (same_room (c.attempts + c.diversions.remaining)) (cancelled_unseen config c.opening.number before x.attempt.invite output had))

  due_passes : (what : DueWord) (output : StepOutput) → So output → Does Last Same (end_on_deadline x c.acks what) (on_due config now x what (offered x c) output)
  due_passes (due.NoReply number) output had = does_either Last Same (number == x.attempt.number) _ _ _ _ (timed NoReply output had) (stays output had)
  due_passes (due.NoPrack own) output had = does_either Last Same (has_own own c.acks.waiting) _ _ _ _ (gives_up_by causes.Unacknowledged Unacknowledged Last Same x output had) (stays output had)
  due_passes (due.Cap number) output had = does_either Last Same (number == x.attempt.number) _ _ _ _ (timed (end_by_time x.attempt.rang) output had) (stays output had)
  due_passes (due.NoAck number) output had = stays output had
  due_passes (due.Expired number) output had = stays output had

  gone_quiet : (its rang : Bool) (branch : List ℕ) (output : StepOutput) → So output →
      Does Last Same (if its && not rang then Some (NotReachable 408) else None)
      (if its then (if rang then step_result (offered x c) output else after_attempt config now x (NotReachable 408) None (offered x c) output) else on_other_timeout config branch (offered x c) output)
  gone_quiet true true branch output had = stays output had
  gone_quiet true false branch output had = goes Same (NotReachable 408) None output had
  gone_quiet false rang branch output had =
      let other = timed_out_waits config c.opening.number before branch (offered x c) output had in
      waits _ other.phase other.attempts other.remaining other.acks other.unseen

  silence_passes : (branch : Option (List ℕ)) (output : StepOutput) → So output → Does Last Same (end_on_timeout x branch) (on_timeout_of branch config now (offered x c) output)
  silence_passes None output had = stays output had
  silence_passes (Some branch) output had = gone_quiet (is_branch_of_attempt x branch) x.attempt.rang branch output had

  -- ---- responses

  met_side : (said : Option Remote) (callee : AttemptLegView) → (leg_with_remote said callee).leg.dialogue.side ≡ callee.leg.dialogue.side
  met_side None callee = refl
  met_side (Some remote) callee = refl

  met_peer : (said : Option Remote) (callee : AttemptLegView) → (leg_with_remote said callee).leg.dialogue.peer ≡ callee.leg.dialogue.peer
  met_peer None callee = refl
  met_peer (Some remote) callee = refl

  -- what the first one that rings arms
  armed_by : (b : Bool) (time : Option ℕ) (output : StepOutput) → So output →
      Adds config.sip c.opening.number before (if b then with_no_reply_timer_in time now.at x.attempt (offered x c) output else output) (events_rung x.attempt.number now.at time b)
  armed_by true None output had = had
  armed_by true (Some time) output had =
      let what = due.NoReply x.attempt.number in
      let mark = Armed what (now.at + time) ∷ [] in
      adds_emit config.sip c.opening.number before output _ [] mark (own_deadline config.sip c.opening.number what (now.at + time)) had
  armed_by false time output had = had

  -- what is observed of a response that is relayed
  abbrev Passed : Option MessageView → AttemptUpdate
  Passed passed = record { rings = rings_by passed; early = early_by (early_tag x.callee) passed; acks = acks_after_response config c.opening c.acks passed }

  met_early : (empty : Bool) (is_early : Bool) (leg : Leg) (lines : List Line) → leg.dialogue.side ≡ Callee →
      early_tag (leg_with_remote (if is_early || empty then None else Some (remote_of Callee lines)) (record { leg = leg; is_early = is_early }))
      ≡ early_in (if is_early then Some leg.dialogue.remote_tag else None) empty lines
  met_early true true leg lines own = refl
  met_early false true leg lines own = refl
  met_early true false leg lines own = refl
  met_early false false leg lines own = λ i. Some (if names_itself (own i) (tag_in (codes "To") lines) then tag_in (codes "To") lines else leg.dialogue.remote_tag)

  tried_so : (key : TKey) (output : StepOutput) → So output → Does Last Same None (on_trying key x (offered x c) output)
  tried_so key output had = waits_received (record x { attempt = Rattle.mmtel_call.specs.Ringing.attempt_with_provisional key x.attempt }) Last Same
      (on_trying key x (offered x c) output) refl refl refl refl refl refl refl refl refl refl refl refl refl refl had

  proceeds_so : x.callee.leg.dialogue.side ≡ Callee → (key : TKey) (m : MessageView) (code : ℕ) (acks : AcksView) (s : StepResult) → code ≡ status_of m.parsed.start →
      s.call.phase ≡ Offered (attempt_after_provisional x key m code) → s.call.attempts ≡ c.attempts → s.call.diversions.remaining ≡ c.diversions.remaining →
      s.call.acks ≡ acks → acks_after_response config c.opening c.acks (Some m) ≡ acks →
      Adds config.sip c.opening.number before s.output (events_rung x.attempt.number now.at (its_time x) (rings code && not x.attempt.rang)) → Does Last (Passed (Some m)) None s
  proceeds_so own key m code acks s is phase attempts left now_acks update adds = Waits refl (attempt_after_provisional x key m code) (record {
    phase = phase;
    attempts = attempts;
    remaining = left;
    latest = refl;
    number = refl;
    dialogue = refl;
    branch = refl;
    leg = met_peer (early_remote_of x.callee m) x.callee;
    side = met_side (early_remote_of x.callee m) x.callee;
    rang = ap (λ code. x.attempt.rang || rings code) is;
    early = met_early (length (to_tag_of m) == 0) x.callee.is_early x.callee.leg m.parsed.lines own;
    acks = now_acks ∙ sym update;
    service = refl;
    adds = subst (λ code. Adds config.sip c.opening.number before s.output (events_rung x.attempt.number now.at (its_time x) (rings code && not x.attempt.rang))) is adds;
  })

  -- a reliable response
  relays_if : x.callee.leg.dialogue.side ≡ Callee → (key : TKey) (m : MessageView) (code rseq : ℕ) (given : Option ℕ) (output : StepOutput) → code ≡ status_of m.parsed.start →
      reliable_number config c.opening m ≡ Some rseq → So output →
      Does Last (Passed (if is_some given then Some m else None)) None (on_numbered_provisional given rseq config now.at x key m code (offered x c) output)
  relays_if its key m code rseq None output is update had = tried_so key output had
  relays_if its key m code rseq (Some own) output is update had =
      let passed = with_reliable_response config (offered x c) x.attempt.service own m output in
      let adds = armed_by (rings code && not x.attempt.rang) (its_time x) passed (adds_quiet config.sip c.opening.number before output _ [] refl had) in
      let rung = with_no_reply_timer code now.at x.attempt (offered x c) passed in
      proceeds_so its key m code (after_relay rseq c.acks) (on_numbered_provisional (Some own) rseq config now.at x key m code (offered x c) output) is refl refl refl refl (ap (λ n. acks_relayed n c.acks) update)
      (adds_quiet config.sip c.opening.number before rung _ _ (own_deadline config.sip c.opening.number (due.NoPrack own) (now.at + prack_time)) adds)

  in_dialog : (is_early : Bool) (leg : Leg) (m : MessageView) → (not is_early || bytes_eq leg.dialogue.remote_tag (to_tag_of m)) ≡ is_in_early (if is_early then Some leg.dialogue.remote_tag else None) m
  in_dialog true leg m = refl
  in_dialog false leg m = refl

  proceeds : x.callee.leg.dialogue.side ≡ Callee → (key : TKey) (m : MessageView) (code : ℕ) (number : Option ℕ) (output : StepOutput) → code ≡ status_of m.parsed.start →
      reliable_number config c.opening m ≡ number → So output →
      Does Last (Passed (if is_relayed_by number (early_tag x.callee) c.acks m then Some m else None)) None (on_provisional_by number config now.at x key m code (offered x c) output)
  proceeds own key m code None output is update had =
      let passed = with_relay_to_caller config (offered x c) x.attempt.service m output in
      let adds = armed_by (rings code && not x.attempt.rang) (its_time x) passed (relayed_unseen config c.opening.number before (offered x c) x.attempt.service m output had) in
      proceeds_so own key m code c.acks (on_plain_provisional config now.at x key m code (offered x c) output) is refl refl refl refl (ap (λ n. acks_relayed n c.acks) update) adds
  proceeds own key m code (Some rseq) output is update had =
      subst (λ b. Does Last (Passed (if is_some (if b then own_number rseq c.acks else None) then Some m else None)) None
      (on_numbered_provisional (own_rseq_for rseq x m (offered x c)) rseq config now.at x key m code (offered x c) output))
      (in_dialog x.callee.is_early x.callee.leg m) (relays_if own key m code rseq (own_rseq_for rseq x m (offered x c)) output is update had)

  -- the deadline for the session of a 2xx is of no attempt
  expiries_quiet : (timer : Bool) (time : Option ℕ) (output : StepOutput) → Adds config.sip c.opening.number before output [] →
      Adds config.sip c.opening.number before (record output { out = output.out ++ (if timer then expiry_in time now.at (offered x c) else []) }) []
  expiries_quiet true None output had = simp append-nil had
  expiries_quiet true (Some time) output had = adds_quiet config.sip c.opening.number before output _ [] (own_deadline config.sip c.opening.number (due.Expired (next_success c)) (now.at + time)) had
  expiries_quiet false time output had = simp append-nil had

  answers : (update : AttemptUpdate) (key : TKey) (m : MessageView) (how : AttemptEndView) (output : StepOutput) → So output → Does Last update (Some how) (on_answer config now.at x key m (offered x c) output)
  answers update key m how output had =
      let relayed = with_relay_to_caller config (offered x c) x.attempt.service m output in
      let none = adds_quiet config.sip c.opening.number before relayed _ [] (own_deadline config.sip c.opening.number (due.NoAck (next_success c)) (now.at + ack_time))
      (relayed_unseen config c.opening.number before (offered x c) x.attempt.service m output had) in
      Leaves how refl (record { marks = []; adds = expiries_quiet config.timer (expiry_interval_of m.parsed.session) _ none; came = refl })

  -- by the class of its status
  class_passes : x.callee.leg.dialogue.side ≡ Callee → (key : TKey) (m : MessageView) (code : ℕ) (trying provisional success : Bool) (output : StepOutput) → code ≡ status_of m.parsed.start →
      (trying ≡ true → provisional ≡ true) → So output →
      Does Last (Passed (if (if trying then false else if provisional then is_relayed_by (reliable_number config c.opening m) (early_tag x.callee) c.acks m else false) then Some m else None))
      (if provisional then None else Some (end_by_final code (redirect_of m) x.attempt.rang))
      (if trying then on_trying key x (offered x c) output else if provisional then on_provisional config now.at x key m code (offered x c) output else if success
      then on_answer config now.at x key m (offered x c) output else on_failure config now x key m code (offered x c) output)
  class_passes own key m code true true success output is e had = tried_so key output had
  class_passes own key m code true false success output is e had = absurd (let h : false ≡ true = e refl in cc)
  class_passes own key m code false true success output is e had = proceeds own key m code (reliable_number config c.opening m) output is refl had
  class_passes own key m code false false true output is e had = answers Same key m (end_by_final code (redirect_of m) x.attempt.rang) output had
  class_passes own key m code false false false output is e had =
      goes Same (end_by_final code (redirect_of m) x.attempt.rang) (Some m) (with_final_ack config.sip key x.attempt.invite m.parsed output)
      (final_acked_unseen config c.opening.number before key x.attempt.invite m.parsed output had)

  trying_provisional : (code : ℕ) → nat_lt code 101 ≡ true → nat_lt code 200 ≡ true
  trying_provisional code e = grind (arith, nat_tests)

  response_passes : x.callee.leg.dialogue.side ≡ Callee → (key : TKey) (m : MessageView) (code : ℕ) (output : StepOutput) → code ≡ status_of m.parsed.start → So output →
      Does Last (Passed (if is_relayed config c.opening (early_tag x.callee) c.acks code m then Some m else None)) (end_by_response code (redirect_of m) x.attempt.rang)
      (on_response config now x key m code (offered x c) output)
  response_passes own key m code output is had = class_passes own key m code (nat_lt code 101) (nat_lt code 200) (nat_lt code 300) output is (trying_provisional code) had

  its_answer : x.callee.leg.dialogue.side ≡ Callee → (its : Bool) (key : TKey) (m : MessageView) (branch : List ℕ) (output : StepOutput) → So output →
      Does Last (Passed (if its && is_relayed config c.opening (early_tag x.callee) c.acks (status_of m.parsed.start) m then Some m else None))
      (if its then end_by_response (status_of m.parsed.start) (redirect_of m) x.attempt.rang else None)
      (if its then on_response config now x key m (status_of m.parsed.start) (offered x c) output else Rattle.mmtel_call.specs.OtherRequests.on_other_response config now.at key m branch (offered x c) output)
  its_answer own true key m branch output had = response_passes own key m (status_of m.parsed.start) output refl had
  its_answer own false key m branch output had =
      let other = other_waits config c.opening.number before now.at key m branch (offered x c) output had in
      waits _ other.phase other.attempts other.remaining other.acks other.unseen

  answer_passes : x.callee.leg.dialogue.side ≡ Callee → (since : ℕ) (rung : Option ℕ) (key : TKey) (m : MessageView) (branch : Option (List ℕ)) (output : StepOutput) → So output →
      Does Last (Passed (if is_response_to (in_progress_of x since rung) branch && is_relayed config c.opening (early_tag x.callee) c.acks (status_of m.parsed.start) m then Some m else None)) (end_on_response x m branch)
      (on_response_to branch config now key m (offered x c) output)
  answer_passes own since rung key m None output had = stays output had
  answer_passes own since rung key m (Some branch) output had = its_answer own (is_branch_of_attempt x branch) key m branch output had

-- ---- any signal

transition_passes : (config : CallConfigView) (now : SnapshotView) (x : OfferedAttempt) (received : Signal) (c : Call) (since : ℕ) (rung : Option ℕ) (before output : StepOutput) →
    x.callee.leg.dialogue.side ≡ Callee → Unseen config c.opening.number before output →
    Passes now.at config x c before (last_by x.caller.dialogue.remote_cseq received) (attempt_update config c.opening x.caller.dialogue.remote_cseq (in_progress_of x since rung) c.acks received)
    (end_of_attempt x (offered x c) received) (transition config now received (offered x c) output)
unfolding transition
transition_passes config now x (signal.Request side key request) c since rung before output own had = request_passes config now x c before since rung side key request output had
transition_passes config now x (signal.Ack side ack) c since rung before output own had = stays config now x c before output had
transition_passes config now x (signal.Cancel key cancel invite) c since rung before output own had =
    let replied = with_status_to config (offered x c) key cancel 200 output in
    let was = replied_unseen config c.opening.number before (offered x c) key cancel 200 output had in
    does_either config now x c before x.caller.dialogue.remote_cseq _ (invite.0 == c.opening.key.0) _ _ _ _
    (gives_up_by config now x c before causes.Cancelled Cancel x.caller.dialogue.remote_cseq _ x replied was) (stays config now x c before replied was)
transition_passes config now x (signal.Answer key response) c since rung before output own had = answer_passes config now x c before own since rung key response (awaited_request_branch response) output had
transition_passes config now x (signal.Silent branch method) c since rung before output own had = silence_passes config now x c before (timed_out_branch branch method) output had
transition_passes config now x (signal.Due what) c since rung before output own had = due_passes config now x c before what output had
transition_passes config now x (signal.Ended key) c since rung before output own had = waits config now x c before (step_result (without_key key (offered x c)) output) refl refl refl refl had

-- the requests in flight were dismissed before
dismissed_passes : (at : ℕ) (config : CallConfigView) (x : OfferedAttempt) (c : Call) (before : StepOutput) (last : Option ℕ) (update : AttemptUpdate) (end : Option AttemptEndView) (s : StepResult) →
    Passes at config x (without_in_flight c) before last update end s → Passes at config x c before last update end s
dismissed_passes at config x c before last update end s (Waits none y p) = Waits none y (record {
  phase = p.phase;
  attempts = p.attempts;
  remaining = p.remaining;
  latest = p.latest;
  number = p.number;
  dialogue = p.dialogue;
  branch = p.branch;
  leg = p.leg;
  side = p.side;
  rang = p.rang;
  early = p.early;
  acks = p.acks;
  service = p.service;
  adds = p.adds;
})
dismissed_passes at config x c before last update end s (Leaves how is p) = Leaves how is (record { marks = p.marks; adds = p.adds; came = p.came })

passes_if : (at : ℕ) (config : CallConfigView) (x : OfferedAttempt) (c : Call) (before : StepOutput) (last : Option ℕ) (update : AttemptUpdate) (end : Option AttemptEndView) (b : Bool) (one two : StepResult) →
    Passes at config x c before last update end one → Passes at config x c before last update end two →
    Passes at config x c before last update end (if b then one else two)
passes_if at config x c before last update end true one two f g = f
passes_if at config x c before last update end false one two f g = g

pub passes : (config : CallConfigView) (now : SnapshotView) (x : OfferedAttempt) (received : Signal) (c : Call) (since : ℕ) (rung : Option ℕ) (output : StepOutput) → x.callee.leg.dialogue.side ≡ Callee →
    Passes now.at config x c output (last_by x.caller.dialogue.remote_cseq received) (attempt_update config c.opening x.caller.dialogue.remote_cseq (in_progress_of x since rung) c.acks received)
    (end_of_attempt x (offered x c) received) (step config now received (offered x c) output)
unfolding step
passes config now x received c since rung output own =
    let none = adds_nothing config.sip c.opening.number output in
    let remaining_output : StepOutput = output_after_dismissal config (offered x c) output in
    passes_if now.at config x c output (last_by x.caller.dialogue.remote_cseq received) (attempt_update config c.opening x.caller.dialogue.remote_cseq (in_progress_of x since rung) c.acks received)
    (end_of_attempt x (offered x c) received) (leaves received (offered x c)) _ _
    (dismissed_passes now.at config x c output _ _ _ _
    (transition_passes config now x received (without_in_flight c) since rung output remaining_output own (dismissing_unseen config c.opening.number output (offered x c) output none)))
    (transition_passes config now x received c since rung output output own none)
