-- The 181s of a trace, whatever happens to the call: those that are due for its diversions.
use Rattle.std.proofs.Common.{◌≡◌, Bool, true, false, List, [], ◌∷◌, ◌++◌, length, drop, refl, sym, ap, ◌∙◌, append-nil}
use Rattle.mmtel_b2bua_theorems.specs.Outcomes.{outcome_after}
use Rattle.mmtel_b2bua_theorems.specs.TracesWithTransfers.{CallEvent, call_after}
use Rattle.mmtel_b2bua_theorems.proofs.TraceSteps.{Beside, matches_trace_beside, quiet}
use Rattle.mmtel_call_services.specs.Opening.{received_history}
use Rattle.mmtel_call.specs.Table.{step, transition}
use Rattle.mmtel_call.specs.declared.calls.Call.{Call}
use Rattle.mmtel_call_theorems.specs.Continuation.{CallsContinue}
use Rattle.mmtel_call_theorems.specs.Outcomes as trace_outcomes
use Rattle.mmtel_call_theorems.specs.Outcomes.{call_inputs_of}
use Rattle.mmtel_call_theorems.specs.Theorems.{ChargingIsExact}
use Rattle.mmtel_call_theorems.specs.CallTrace as traces
use Rattle.mmtel_call_theorems.specs.CallTrace.{TraceStart, TraceStep, items_added, next_step, opening_in}
use Rattle.mmtel_call_theorems.specs.Notifications.Theorems.{EndsWithoutNotification, NotifiesItsDiversions, NotifiesNothingLater}
use Rattle.mmtel_call_theorems.specs.Notifications.DueNotifications.{is_relayed_notification, notifications_after, notifications_due, notifications_in, own_notifications, without_relayed_notification}
use Rattle.mmtel_message.specs.Message.{Message}
use Rattle.mmtel_message.specs.declared.messages.Start.{Start as StartLine}
use Rattle.mmtel_precedence.specs.Outcome.{outcome}
use Rattle.mmtel_transaction.specs.declared.words.Emit.{Emit}
use Rattle.mmtel_run_theorems.specs.Outcome.{notifications_of}

-- ---- what has none

none-passed : (passed : Bool) → without_relayed_notification passed [] ≡ []
none-passed true = refl
none-passed false = refl

-- a step that sends none has none of its own
none-own : (s : TraceStart) (x : TraceStep) (out : List Emit) → notifications_in s.arrival.key out ≡ [] → own_notifications s x out ≡ []
none-own s x out e = ap (without_relayed_notification (is_relayed_notification x.signal)) e ∙ none-passed (is_relayed_notification x.signal)

drop-all : {A : Type 0} (xs : List A) → drop (length xs) xs ≡ []
drop-all [] = refl
drop-all (x ∷ xs) = drop-all xs

-- a signal that has no effect
quiet-none : (s : TraceStart) (x : TraceStep) (c : Call) → own_notifications s (quiet x) (items_added x.output.out (next_step s (quiet x) c).output.out) ≡ []
unfolding step transition
quiet-none s x c = none-own s (quiet x) (items_added x.output.out x.output.out) (ap (notifications_in s.arrival.key) (drop-all x.output.out))

no-more : (notices more : List (Message StartLine)) → more ≡ [] → notices ++ more ≡ notices
no-more notices more e = ap (λ l. notices ++ l) e ∙ append-nil notices

-- ---- the trace with transfers beside the plain trace

module _ (silent : NotifiesNothingLater) (ends : EndsWithoutNotification) (s : TraceStart) where
  -- both have the same 181s
  abbrev TellsAlike : List CallEvent → List TraceStep → Type 0
  TellsAlike events received = notifications_of s events ≡ notifications_after s received

  beside : Beside s TellsAlike
  unfolding notifications_of notifications_after
  beside = record {
    opens = refl;
    same = λ x earlier received is r i. r i ++ own_notifications s x (items_added x.output.out (next_step s x (is i)).output.out);
    later = λ x earlier received stands offered r.
        no-more (notifications_of s earlier) _
        (none-own s x (items_added x.output.out (step s.config x.now x.signal (call_after s earlier) x.output).output.out) (silent s.config x.now x.signal (call_after s earlier) x.output s.arrival.key offered))
        ∙ (r ∙ sym (no-more (notifications_after s received) _ (quiet-none s x (traces.call_after s received))));
    releases = λ side earlier received r. append-nil (notifications_of s earlier) ∙ r;
    restores = λ away earlier received r. append-nil (notifications_of s earlier) ∙ r;
    finishes = λ at output earlier received r. no-more (notifications_of s earlier) _ (ends s.config at (call_after s earlier) output s.arrival.key) ∙ r;
  }

-- the server's own 181s are those of the diversions that its Outcome contains
pub traces_notify : CallsContinue → ChargingIsExact → NotifiesItsDiversions → NotifiesNothingLater → EndsWithoutNotification → (s : TraceStart) (events : List CallEvent) →
    notifications_of s events ≡ notifications_due s.config (opening_in s) (received_history s.arrival.invite) (outcome_after s events).targets
traces_notify goes charged told silent ends s events =
    let (received, l, r) = matches_trace_beside goes charged s (TellsAlike silent ends s) (beside silent ends s) events in
    let same : outcome_after s events ≡ trace_outcomes.outcome_after s received = λ i. outcome (call_inputs_of s.config s.now (opening_in s) (λ k. l.snapshot k i)) (l.endings i) in
    r ∙ (told s received ∙ (λ i. notifications_due s.config (opening_in s) (received_history s.arrival.invite) (sym same i).targets))
