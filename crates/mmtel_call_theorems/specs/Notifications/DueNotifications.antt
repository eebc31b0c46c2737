-- The 181s that the caller gets: those observed in what is sent, and those due for the diversions that led to targets (TS 24.604 §4.5.2.6, RFC 7044 §7).
use Rattle.std.specs.Prelude.{◌==◌, ◌&&◌, not, Bool, false, if◌then◌else◌, List, [], ◌∷◌, ◌++◌, Option, Some, None, drop}
use Rattle.mmtel_compose.specs.Responses.{own_response}
use Rattle.mmtel_compose.specs.ReceivedMessages.{status_of}
use Rattle.mmtel_history.specs.HistoryInfo.{history_for_caller, list_after_diversion}
use Rattle.mmtel_history.specs.declared.entries.Entry.{Entry}
use Rattle.mmtel_leg.specs.Dialogues.{request_uri}
use Rattle.mmtel_lex.specs.Grammar.{uri_text}
use Rattle.mmtel_lex.specs.declared.values.Uri.{Uri}
use Rattle.mmtel_message.specs.Addresses.{contact_text}
use Rattle.mmtel_message.specs.Message.{Message}
use Rattle.mmtel_message.specs.declared.messages.Start.{Start as StartLine}
use Rattle.mmtel_precedence.specs.Calls.{OutcomeTarget}
use Rattle.mmtel_precedence.specs.Services.{DueDiversionView}
use Rattle.mmtel_transaction.specs.declared.words.Emit.{Emit}
use Rattle.mmtel_transaction.specs.declared.words.Emit.TheVariants as emit
use Rattle.mmtel_transaction.specs.declared.words.TKey.{TKey}
use Rattle.mmtel_trust.specs.HeaderTable.{history_lines}
use Rattle.mmtel_call_services.specs.CopiedHeaders.{masks_all}
use Rattle.mmtel_call_services.specs.CallConfig.{CallConfigView, trusts}
use Rattle.mmtel_call_services.specs.declared.openings.Opening.{Opening}
use Rattle.mmtel_call.specs.declared.signals.Signal.{Signal}
use Rattle.mmtel_call.specs.declared.signals.Signal.TheVariants as signal
use Rattle.mmtel_call_theorems.specs.CallTrace.{TraceStart, TraceStep, call_after, first_step, items_added, next_step}

-- ---- what is observed in what is sent

-- a 181 to the INVITE that opened the call, whose server transaction is this one
abbrev pub notification_in : (key : TKey) → Emit → List (Message StartLine)
notification_in key (emit.Ask peer m) = []
notification_in key (emit.Reply asked m) = if asked.0 == key.0 && status_of m.start == 181 then m ∷ [] else []
notification_in key (emit.Plain peer text) = []
notification_in key (emit.Ack asked m) = []
notification_in key (emit.Settled answered own) = []
notification_in key (emit.Arm call what at) = []
notification_in key (emit.ArmSeat room seat what at) = []

abbrev pub notifications_in : (key : TKey) → List Emit → List (Message StartLine)
notifications_in key [] = []
notifications_in key (e ∷ later) = notification_in key e ++ notifications_in key later

-- a 181 of a target, which is relayed to the caller too
abbrev pub is_relayed_notification : Signal → Bool
is_relayed_notification (signal.Request side key request) = false
is_relayed_notification (signal.Ack side ack) = false
is_relayed_notification (signal.Cancel key cancel invite) = false
is_relayed_notification (signal.Answer key response) = status_of response.parsed.start == 181
is_relayed_notification (signal.Silent branch method) = false
is_relayed_notification (signal.Due what) = false
is_relayed_notification (signal.Ended key) = false

-- the server's own: where a target's 181 was received, all but the first, which is that one
abbrev pub without_relayed_notification : (passed : Bool) → List (Message StartLine) → List (Message StartLine)
without_relayed_notification passed notices = if passed then drop 1 notices else notices

-- of a step in which this was received
abbrev pub own_notifications : TraceStart → TraceStep → List Emit → List (Message StartLine)
own_notifications s x out = without_relayed_notification (is_relayed_notification x.signal) (notifications_in s.arrival.key out)

-- the server's own as the call opened, and in each step, in order
unfoldable pub notifications_after : TraceStart → List TraceStep → List (Message StartLine)
notifications_after s [] = notifications_in s.arrival.key (items_added s.output.out (first_step s).output.out)
notifications_after s (x ∷ earlier) = notifications_after s earlier ++ own_notifications s x (items_added x.output.out (next_step s x (call_after s earlier)).output.out)

-- ---- what is due for the diversions that led to targets

-- History-Info after the call reached a target: a diversion that led there has its entry, and hides the one before it from the target if its forward requires that
abbrev pub history_at : Opening → List Entry → Option DueDiversionView → Uri → List Entry
history_at o history None uri = history
history_at o history (Some due) uri = list_after_diversion history (request_uri o.invite.parsed.start) (uri_text uri) due.cause (not due.forward.reveal_to_target)

-- after it reached all of them
abbrev pub history_after_targets : Opening → List Entry → List OutcomeTarget → List Entry
history_after_targets o history [] = history
history_after_targets o history (target ∷ later) = history_after_targets o (history_at o history target.diversion target.uri) later

-- a 181 to the caller with these entries
abbrev pub notification : CallConfigView → Opening → (told : List Entry) → Message StartLine
notification config o told = own_response (contact_text config.sip) o.invite o.tag 181 (history_lines (masks_all o) (trusts config o.invite.peer) told) [] []

-- that of a diversion after which History-Info is this: the caller is notified if the forward requires that, and the user that diverts and the target are hidden as the forward
-- says
abbrev pub notification_due : CallConfigView → Opening → List Entry → Option DueDiversionView → List (Message StartLine)
notification_due config o history None = []
notification_due config o history (Some due) =
    if due.forward.notify_caller then notification config o (history_for_caller (not due.forward.reveal_served_to_caller) (not due.forward.reveal_to_caller) history) ∷ [] else []

-- those of all targets, where History-Info was this before
abbrev pub notifications_due : CallConfigView → Opening → List Entry → List OutcomeTarget → List (Message StartLine)
notifications_due config o history [] = []
notifications_due config o history (target ∷ later) =
    notification_due config o (history_at o history target.diversion target.uri) target.diversion
    ++ notifications_due config o (history_at o history target.diversion target.uri) later
