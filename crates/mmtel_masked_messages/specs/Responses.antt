-- The responses that the server makes to a request without its private places (RFC 3261 §8.2.6.2, §12.1.1). A response takes Via, From, To, Call-ID, CSeq and Record-Route from
-- its request, and of these From alone may be private in a request.
use Rattle.std.specs.Prelude.{◌≡◌, Bool, true, false, ℕ, List, [], codes}
use Rattle.mmtel_message.specs.Faults.{is_request}
use Rattle.mmtel_message.specs.Message.{Line, Message, lines_named}
use Rattle.mmtel_message.specs.Responses.{AddsNo, Reply, response}
use Rattle.mmtel_message.specs.declared.messages.Start.{Start}
use Rattle.mmtel_transaction.specs.Heads.{head_of}
use Rattle.mmtel_trust.specs.Kinds.{is_own_field}
use Rattle.mmtel_trust.specs.PrivateFields.{NoEntries, PrivateFields, masked_lines, masked_message, only_entries, private_fields_in}

-- From and no other place, or none at all
abbrev pub private_from : Bool → PrivateFields
private_from private = record (only_entries NoEntries) { from = private }

-- the response to a masked request is that to the request in which only From is masked
abbrev pub ResponsesSeeOnlyFrom : Type 0
ResponsesSeeOnlyFrom = (p : PrivateFields) (start : Start) (ls : List Line) (r : Reply) → is_request start ≡ true →
    response start (masked_lines (private_fields_in start p) ls) r ≡ response start (masked_lines (private_from p.from) ls) r

-- and that is the response to the request, masked itself, where the reply adds no From of its own
abbrev pub ResponsesAreMasked : Type 0
ResponsesAreMasked = (p : PrivateFields) (start : Start) (ls : List Line) (r : Reply) → is_request start ≡ true → AddsNo (codes "From") r →
    response start (masked_lines (private_fields_in start p) ls) r ≡ masked_message (private_from p.from) (response start ls r)

-- responses to requests that are equal when masked have the same head
abbrev pub EquivalentResponsesHaveOneHead : Type 0
EquivalentResponsesHaveOneHead = (p q : PrivateFields) (m n : Message Start) (r : Reply) → is_request m.start ≡ true → masked_message p m ≡ masked_message q n →
    head_of (response m.start m.lines r) ≡ head_of (response n.start n.lines r)

-- none of the lines has a name that the server writes itself: this holds of what the header table passes
abbrev pub AreNoOwnFields : List Line → Type 0
AreNoOwnFields ls = (name : List ℕ) → is_own_field name ≡ true → lines_named name ls ≡ []

-- the reply, where these lines are passed on
abbrev pub with_passed_lines : List Line → Reply → Reply
with_passed_lines ls r = record r { passed = ls }

-- so have those that pass on such lines of a response that the server received, whatever these are
abbrev pub RelayedHaveOneHead : Type 0
RelayedHaveOneHead = (p q : PrivateFields) (m n : Message Start) (r : Reply) (ls ks : List Line) → is_request m.start ≡ true →
    masked_message p m ≡ masked_message q n → AreNoOwnFields ls → AreNoOwnFields ks →
    head_of (response m.start m.lines (with_passed_lines ls r)) ≡ head_of (response n.start n.lines (with_passed_lines ks r))

-- and they are equal where From is not private
abbrev pub EquivalentResponsesAreEqual : Type 0
EquivalentResponsesAreEqual = (p q : PrivateFields) (m n : Message Start) (r : Reply) → is_request m.start ≡ true → p.from ≡ false →
    q.from ≡ false → masked_message p m ≡ masked_message q n →
    response m.start m.lines r ≡ response n.start n.lines r
