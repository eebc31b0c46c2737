-- What is read of the worked messages: the five fields once for each branch, and the heads by them.
use Rattle.std.proofs.Common.{◌≡◌, ◌∙◌, ◌++◌, ℕ, Bool, true, false, List, [], ◌∷◌, Option, Some, None, codes, refl, ap}
use Rattle.mmtel_base.specs.Classes as Classes
use Rattle.mmtel_base.specs.Numbers as Numbers
use Rattle.mmtel_base.specs.Scanning as Scanning
use Rattle.mmtel_lex.specs.Reading as Reading
use Rattle.mmtel_lex.specs.declared.values.NameAddr.{NameAddr}
use Rattle.mmtel_message.specs.Fields as Fields
use Rattle.mmtel_message.specs.Fields.{call_in, first_in, first_part, five_at, parties_in, via_at, via_in}
use Rattle.mmtel_message.specs.Headers.{trim}
use Rattle.mmtel_message.specs.Message.{Line, Message}
use Rattle.mmtel_message.specs.Values.{next_separator}
use Rattle.mmtel_message.specs.declared.fields.CSeq.{CSeq}
use Rattle.mmtel_message.specs.declared.fields.Five.{Five}
use Rattle.mmtel_message.specs.declared.fields.Via.{Via}
use Rattle.mmtel_message.specs.declared.messages.Start.{Start}
use Rattle.mmtel_message.specs.declared.messages.Start.TheVariants.{Status}
use Rattle.mmtel_message.specs.declared.values.Mode.TheVariants.{Plain}
use Rattle.mmtel_transaction.specs.Heads.{head_of, head_with, reliable_number}
use Rattle.mmtel_transaction.specs.declared.heads.Head.{Head}
use Rattle.mmtel_transaction_examples.specs.Sequences.{first_invite, message_with, request, response, second_invite}
use Rattle.mmtel_transaction_examples.proofs.HeadExamples.{one_part}

abbrev party : (uri tag : List ℕ) → NameAddr
party uri tag = record { display = []; uri = uri; params = record { name = codes "tag"; value = Some tag } ∷ [] }

abbrev via : List ℕ → Via
via branch = record { transport = codes "UDP"; sent_by = codes "a"; host = codes "a"; port = None; params = record { name = codes "branch"; value = Some branch } ∷ [] }

abbrev cseq : CSeq
cseq = record { number = 1; method = codes "INVITE" }

abbrev five : List ℕ → Five
five branch = record { via = via branch; from = party (codes "sip:a@h") (codes "a"); to = party (codes "sip:b@h") (codes "b"); call_id = codes "c"; cseq = cseq }

-- the five fields by each of them; the value of Via is not split
by_fields : (ls : List Line) (via : Via) (p : NameAddr × NameAddr) (d : List ℕ × CSeq) → via_in ls ≡ Some via → parties_in ls ≡ Some p → call_in ls ≡ Some d
    → five_at ls ≡ Some (record { via = via; from = p.0; to = p.1; call_id = d.0; cseq = d.1 })
unfolding five_at
by_fields ls via p d v q c = rw (v, q, c) refl

lone_via : (value : List ℕ) → next_separator Plain value ≡ None → via_at (first_part value) ≡ via_at (trim value)
lone_via value e = ap (λ (ps : List (List ℕ)). via_at (trim (first_in ps))) (one_part Plain value e)

abbrev via_value : List ℕ → List ℕ
via_value branch = codes "SIP/2.0/UDP a;branch=" ++ branch

via_a : via_at (trim (via_value (codes "a"))) ≡ Some (via (codes "a"))
unfolding Classes.in_class Numbers.value_up_to Numbers.number_of Scanning.leading_run Scanning.after_run Scanning.split_once_at Scanning.closing_quote_from Scanning.without_trailing Reading.token_at
    Reading.text_at Reading.value_at Reading.param_at Reading.params_at Reading.all_params_at Reading.host_at Reading.port_number Reading.port_at Fields.via_at
via_a = refl

via_b : via_at (trim (via_value (codes "b"))) ≡ Some (via (codes "b"))
unfolding Classes.in_class Numbers.value_up_to Numbers.number_of Scanning.leading_run Scanning.after_run Scanning.split_once_at Scanning.closing_quote_from Scanning.without_trailing Reading.token_at
    Reading.text_at Reading.value_at Reading.param_at Reading.params_at Reading.all_params_at Reading.host_at Reading.port_number Reading.port_at Fields.via_at
via_b = refl

none_a : next_separator Plain (via_value (codes "a")) ≡ None
unfolding next_separator
none_a = refl

none_b : next_separator Plain (via_value (codes "b")) ≡ None
unfolding next_separator
none_b = refl

parties : parties_in first_invite.lines ≡ Some (party (codes "sip:a@h") (codes "a"), party (codes "sip:b@h") (codes "b"))
unfolding Classes.in_class Numbers.value_up_to Numbers.number_of Scanning.leading_run Scanning.after_run Scanning.split_once_at Scanning.closing_quote_from Scanning.without_trailing Reading.token_at
    Reading.text_at Reading.value_at Reading.param_at Reading.params_at Reading.all_params_at Reading.angle_of Reading.bare_of Reading.words_of Reading.quoted_of Reading.name_addr_of Fields.parties_in
parties = refl

call : (branch : List ℕ) → call_in (message_with (Status 0 []) branch (codes "INVITE")).lines ≡ Some (codes "c", cseq)
unfolding Classes.in_class Numbers.value_up_to Numbers.number_of Scanning.leading_run Scanning.after_run Scanning.split_once_at Scanning.closing_quote_from Scanning.without_trailing Reading.token_at
    Fields.call_in Fields.cseq_at
call branch = refl

five_a : five_at first_invite.lines ≡ Some (five (codes "a"))
five_a = by_fields first_invite.lines (via (codes "a")) _ _ (lone_via (via_value (codes "a")) none_a ∙ via_a) parties (call (codes "a"))

parties_b : parties_in second_invite.lines ≡ parties_in first_invite.lines
unfolding Fields.parties_in
parties_b = refl

five_b : five_at second_invite.lines ≡ Some (five (codes "b"))
five_b = by_fields second_invite.lines (via (codes "b")) _ _ (lone_via (via_value (codes "b")) none_b ∙ via_b) (parties_b ∙ parties) (call (codes "b"))

-- the head of an INVITE of this branch, or of a response to it
abbrev pub known : Bool → ℕ → List ℕ → Head
known is_request status branch = record {
  is_request = is_request;
  status = status;
  method = codes "INVITE";
  branch = branch;
  sent_by = codes "a";
  from_tag = codes "a";
  to_tag = codes "b";
  call_id = codes "c";
  number = 1;
}

by_five : (m : Message Start) (five : Five) → five_at m.lines ≡ Some five → head_of m ≡ head_with m.start (Some five)
unfolding head_of
by_five m five e = ap (λ (o : Option Five). head_with m.start o) e

pub first_known : head_of first_invite ≡ known true 0 (codes "a")
first_known = by_five first_invite (five (codes "a")) five_a

pub second_known : head_of second_invite ≡ known true 0 (codes "b")
second_known = by_five second_invite (five (codes "b")) five_b

pub answer_a : (status : ℕ) → head_of (response status (codes "a")) ≡ known false status (codes "a")
answer_a status = by_five (response status (codes "a")) (five (codes "a")) five_a

pub plain_180 : reliable_number (response 180 (codes "a")) ≡ None
unfolding reliable_number
plain_180 = refl

-- messages of these heads, whatever else they contain; for some the heads do not matter
pub record Worked : Type 0 where
  pub first : Message Start
  pub of_first : head_of first ≡ known true 0 (codes "a")
  pub second : Message Start
  pub of_second : head_of second ≡ known true 0 (codes "b")
  pub trying : Message Start
  pub of_trying : head_of trying ≡ known false 100 (codes "a")
  pub rings : Message Start
  pub of_rings : head_of rings ≡ known false 180 (codes "a")
  pub plain_rings : reliable_number rings ≡ None
  pub busy : Message Start
  pub of_busy : head_of busy ≡ known false 486 (codes "a")
  pub peer_rings : Message Start
  pub peer_busy : Message Start
  pub ack : Message Start
  pub peer_ack : Message Start

abbrev pub worked : Worked
worked = record {
  first = first_invite;
  of_first = first_known;
  second = second_invite;
  of_second = second_known;
  trying = response 100 (codes "a");
  of_trying = answer_a 100;
  rings = response 180 (codes "a");
  of_rings = answer_a 180;
  plain_rings = plain_180;
  busy = response 486 (codes "a");
  of_busy = answer_a 486;
  peer_rings = response 180 (codes "b");
  peer_busy = response 486 (codes "b");
  ack = request (codes "ACK") (codes "a");
  peer_ack = request (codes "ACK") (codes "b");
}
