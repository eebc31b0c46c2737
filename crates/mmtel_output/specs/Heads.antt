-- The heads of what is sent, by which the transactions identify it (RFC 3261 §17.1.3, §17.2.3).
use Rattle.std.specs.Prelude.{◌≡◌, ◌<◌, ◌^◌, ℕ, true, Some, List, ◌++◌, length, codes}
use Rattle.mmtel_leg.specs.Requests.{RequestPartsView, to_text}
use Rattle.mmtel_leg.specs.declared.dialogues.Dialogue.{Dialogue}
use Rattle.mmtel_lex.specs.Grammar.{IsToken}
use Rattle.mmtel_lex.specs.Reading.{name_addr_of}
use Rattle.mmtel_lex.specs.declared.values.NameAddr.{NameAddr}
use Rattle.mmtel_message.specs.Addresses.{addr_text}
use Rattle.mmtel_message.specs.Responses.{AreOthers}
use Rattle.mmtel_message.specs.Vias.{IsSource}
use Rattle.mmtel_types.specs.declared.addrs.Addr.{Addr}
use Rattle.mmtel_transaction.specs.Heads.{param_text}
use Rattle.mmtel_transaction.specs.declared.heads.Head.{Head}

-- the head of a request of the method in a dialog, with this number and this branch after the cookie, where From and To parse as these values
abbrev pub request_head : Dialogue → (number : ℕ) → (method : List ℕ) → Addr → (branch : List ℕ) → (from to : NameAddr) → Head
request_head d number method sip branch from to = record {
  is_request = true;
  status = 0;
  method = method;
  branch = codes "z9hG4bK" ++ branch;
  sent_by = addr_text sip;
  from_tag = param_text (codes "tag") from.params;
  to_tag = param_text (codes "tag") to.params;
  call_id = d.call_id;
  number = number;
}

-- a dialog whose From and To parse as these values, and of which requests with this number and these parts can be sent
pub record CanBeSent (d : Dialogue) (number : ℕ) (given : RequestPartsView) (from to : NameAddr) : Type 0 where
  pub from_read : name_addr_of d.local ≡ Some from
  pub to_read : name_addr_of (to_text d.side d.remote d.remote_tag) ≡ Some to
  pub call_id : 0 < length d.call_id
  pub small : number < 2 ^ 31
  pub branch : IsToken given.branch
  pub sip : IsSource given.sip
  pub port : 0 < given.sip.port
  pub none : AreOthers given.shown
