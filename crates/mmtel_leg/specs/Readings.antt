-- What is parsed of what is built in a dialog: its five fields (RFC 3261 §8.1.1); and the dialogs that theorems are about, from their beginning on.
use Rattle.std.specs.Prelude.{ℕ, Option, Some, List, [], ◌∷◌, ◌++◌, codes}
use Rattle.mmtel_lex.specs.declared.values.NameAddr.{NameAddr}
use Rattle.mmtel_charging.specs.Meters.{MeterView}
use Rattle.mmtel_types.specs.declared.numbers.Peer.{Peer}
use Rattle.mmtel_message.specs.Message.{Message}
use Rattle.mmtel_message.specs.declared.messages.Start.{Start}
use Rattle.mmtel_message.specs.declared.fields.Five.{Five}
use Rattle.mmtel_message.specs.declared.fields.Via.{Via}
use Rattle.mmtel_types.specs.declared.addrs.Addr.{Addr}
use Rattle.mmtel_message.specs.Addresses.{addr_text, ip_text}
use Rattle.mmtel_leg.specs.Operations.{LegOperation, after_operations}
use Rattle.mmtel_leg.specs.Dialogues.{callee_dialogue, caller_dialogue}
use Rattle.mmtel_leg.specs.Requests.{RequestPartsView}
use Rattle.mmtel_leg.specs.declared.dialogues.Dialogue.{Dialogue}

-- the server's Via as it is parsed (§20.42)
abbrev pub via_of : Addr → List ℕ → Via
via_of sip branch = record {
  transport = codes "UDP";
  sent_by = addr_text sip;
  host = ip_text sip.ip;
  port = Some sip.port;
  params = record { name = codes "branch"; value = Some (codes "z9hG4bK" ++ branch) } ∷ [];
}

-- the five fields of what is built, where this is parsed of its From and To
abbrev pub five_of : Dialogue → ℕ → List ℕ → RequestPartsView → NameAddr → NameAddr → Five
five_of d number method given from to = record {
  via = via_of given.sip given.branch;
  from = from;
  to = to;
  call_id = d.call_id;
  cseq = record { number = number; method = method };
}

-- the dialog of a leg that `take` made, and of one that `start` made, after these operations
abbrev pub caller_after : Peer → Message Start → List ℕ → Option MeterView → List LegOperation → Dialogue
caller_after peer invite tag meter ops = (after_operations (record { dialogue = caller_dialogue peer invite.lines tag; meter = meter }) ops).dialogue

abbrev pub callee_after : Peer → Message Start → Option MeterView → List LegOperation → Dialogue
callee_after peer invite meter ops = (after_operations (record { dialogue = callee_dialogue peer invite; meter = meter }) ops).dialogue
