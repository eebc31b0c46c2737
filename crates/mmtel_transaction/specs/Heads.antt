-- What the transactions read of a message: what identifies its transaction (RFC 3261 §17.1.3, §17.2.3), the identifiers and CSeq number of its dialog (§12, §13.2.2.4), and its
-- status (§7.2, §21).
use Rattle.std.specs.Prelude.{ℕ, Bool, ◌&&◌, ◌==◌, nat_le, nat_lt, if◌then◌else◌, List, [], codes, Option, Some, None}
use Rattle.std.specs.Str.{bytes_eq}
use Rattle.mmtel_base.specs.Chain.{◌>>=◌}
use Rattle.mmtel_base.specs.Numbers.{number_of}
use Rattle.mmtel_message.specs.Message.{Message, first_value}
pub use Rattle.mmtel_message.specs.Faults.{is_request}
pub use Rattle.mmtel_message.specs.Identifiers.{param_text}
use Rattle.mmtel_message.specs.Identifiers.{Identifiers}
use Rattle.mmtel_message.specs.Fields.{five_at}
use Rattle.mmtel_message.specs.declared.messages.Start.{Start}
use Rattle.mmtel_message.specs.declared.messages.Start.TheVariants.{Request, Status}
use Rattle.mmtel_message.specs.declared.fields.Five.{Five}
pub use Rattle.mmtel_sip_rules.specs.Statuses.{is_provisional, is_refusal, is_success}
use Rattle.mmtel_transaction.specs.declared.heads.Head.{Head}

-- the status; 0 of a request
abbrev pub code_of : Start → ℕ
code_of (Request method uri) = 0
code_of (Status code phrase) = code

-- the method of a request, or of the request that a response answers, which is that of its CSeq
abbrev pub method_of : Start → List ℕ → List ℕ
method_of (Request method uri) answered = method
method_of (Status code phrase) answered = answered

-- a message whose five fields cannot be read has empty ones; `read` returns no such message
abbrev pub head_with : Start → Option Five → Head
head_with start None = record {
  is_request = is_request start;
  status = code_of start;
  method = method_of start [];
  branch = [];
  sent_by = [];
  from_tag = [];
  to_tag = [];
  call_id = [];
  number = 0;
}
head_with start (Some five) = record {
  is_request = is_request start;
  status = code_of start;
  method = method_of start five.cseq.method;
  branch = param_text (codes "branch") five.via.params;
  sent_by = five.via.sent_by;
  from_tag = param_text (codes "tag") five.from.params;
  to_tag =
      param_text (codes "tag") five.to.params;
  call_id = five.call_id;
  number = five.cseq.number;
}

-- the same of its five fields, as they are kept with a message; private functions alone cite this
abbrev pub head_by : Start → Identifiers → Head
head_by start ids = record {
  is_request = is_request start;
  status = code_of start;
  method = method_of start ids.method;
  branch = ids.branch;
  sent_by = ids.sent_by;
  from_tag = ids.from_tag;
  to_tag = ids.to_tag;
  call_id = ids.call_id;
  number = ids.number;
}

-- what is read of a message
unfoldable pub head_of : Message Start → Head
head_of m = head_with m.start (five_at m.lines)

-- the To tag that a response leaves in its transaction: only a final one does
abbrev pub recorded_tag : Message Start → List ℕ
recorded_tag m = if is_provisional (head_of m).status then [] else (head_of m).to_tag

-- the number of a reliable provisional response, by its first RSeq line (RFC 3262 §7.1)
unfoldable pub reliable_number : Message Start → Option ℕ
reliable_number m = if nat_le 101 (code_of m.start) && nat_lt (code_of m.start) 200 then first_value (codes "RSeq") m.lines >>= number_of 2147483647 else None

abbrev pub invite : List ℕ
invite = codes "INVITE"

abbrev pub is_invite : Head → Bool
is_invite m = bytes_eq m.method invite

abbrev pub is_ack : Head → Bool
is_ack m = bytes_eq m.method (codes "ACK")

abbrev pub is_cancel : Head → Bool
is_cancel m = bytes_eq m.method (codes "CANCEL")

-- the same Call-ID, From tag and number of CSeq
abbrev pub is_same_call : Head → Head → Bool
is_same_call m n = bytes_eq m.call_id n.call_id && bytes_eq m.from_tag n.from_tag && (m.number == n.number)
