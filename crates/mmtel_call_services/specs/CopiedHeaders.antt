-- Which header fields of a side's message are copied to the other side (RFC 3325 §5 and §7, RFC 3323 §5.1), and what a 181 contains of diversions (TS 24.604 §4.5.2.6).
use Rattle.std.specs.Prelude.{◌==◌, Bool, false, if◌then◌else◌, Option, Some, None, List}
use Rattle.mmtel_compose.specs.ReceivedMessages.{MessageView, status_of}
use Rattle.mmtel_history.specs.HistoryInfo.{history_for_caller}
use Rattle.mmtel_history.specs.declared.entries.Entry.{Entry}
use Rattle.mmtel_identity.specs.Restriction.{is_callee_restricted, is_presented}
use Rattle.mmtel_message.specs.Message.{Line}
use Rattle.mmtel_precedence.specs.Services.{DueDiversionView}
use Rattle.mmtel_trust.specs.HeaderTable.{history_lines, shown_lines}
use Rattle.mmtel_trust.specs.declared.header_table.Facing.{Facing}
use Rattle.mmtel_types.specs.declared.numbers.Peer.{Peer}
use Rattle.mmtel_types.specs.declared.sides.Side.{Side}
use Rattle.mmtel_types.specs.declared.sides.Side.TheVariants.{Caller, Callee}
use Rattle.mmtel_call_services.specs.Decisions.{service_sheet}
use Rattle.mmtel_call_services.specs.Diversions.{DiversionsView}
use Rattle.mmtel_call_services.specs.CallConfig.{CallConfigView, trusts}
use Rattle.mmtel_call_services.specs.declared.openings.Opening.{Opening}
use Rattle.mmtel_call_services.specs.declared.openings.Service.{Service}

-- every entry of History-Info is masked for untrusted peers (RFC 7044 §10.1)
abbrev pub masks_all : Opening → Bool
masks_all o = o.invite.parsed.wants.history

-- the facts that decide what of a side's message is copied to the other side: the caller is restricted for the whole call, the callee by its own message and by the record of its
-- attempt; the identity of a side is presented to the other side according to the record of the account that is served there
abbrev pub facing : Opening → Option Service → Side → MessageView → Facing
facing o service Caller m = record {
  from_trusted = m.parsed.trusted;
  restricted = o.restricted;
  present = is_presented (service_sheet service) Callee;
  mask_all = masks_all o;
  reliable = false;
  timer = false;
}
facing o service Callee m = record {
  from_trusted = m.parsed.trusted;
  restricted = is_callee_restricted m.parsed.wants (service_sheet service);
  present = is_presented o.sheet Caller;
  mask_all = masks_all o;
  reliable = false;
  timer = false;
}

-- the list as it is in the 181 for the last diversion
abbrev pub notified_history : DiversionsView → List Entry
notified_history d = history_for_caller d.hides_diverting d.hides_target d.history

-- the call's list as it is in the message that is sent
abbrev pub history_for : DiversionsView → MessageView → List Entry
history_for d m = if status_of m.parsed.start == 181 then notified_history d else d.history

-- the same, and whether the header fields of session timers are copied
abbrev pub facing_at : CallConfigView → Opening → Option Service → Side → MessageView → Facing
facing_at config o service side m = record (facing o service side m) { timer = config.timer }

-- the header fields of a side's message that are copied to a peer
unfoldable pub copied_lines : CallConfigView → Opening → DiversionsView → Option Service → Side → Peer → MessageView → List Line
copied_lines config o d service side peer m = shown_lines (facing_at config o service side m) (trusts config peer) (history_for d m) m.parsed.start m.parsed.lines

-- the header fields of the INVITE that opened the call which are copied to the target of an attempt: provisional responses to it may be reliable (RFC 3262 §3), whereas provisional
-- responses to an INVITE within the call are not relayed, and would wait for a PRACK in vain
abbrev pub attempt_facing : CallConfigView → Opening → Option Service → Facing
attempt_facing config o service = record (facing_at config o service Caller o.invite) { reliable = config.reliable }

unfoldable pub attempt_lines : CallConfigView → Opening → DiversionsView → Option Service → Peer → List Line
attempt_lines config o d service peer =
    shown_lines (attempt_facing config o service) (trusts config peer) (history_for d o.invite) o.invite.parsed.start o.invite.parsed.lines

-- the header fields by which a 181 notifies the caller of the last diversion, if the forward requires that notification
abbrev pub notification_lines : CallConfigView → Opening → DiversionsView → DueDiversionView → Option (List Line)
notification_lines config o d due = if due.forward.notify_caller then Some (history_lines (masks_all o) (trusts config o.invite.peer) (notified_history d)) else None
