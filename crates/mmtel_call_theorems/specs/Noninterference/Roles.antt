-- What is private in a message of a call, by the role of the message in the call (RFC 3323 §4.1, RFC 3325 §7, RFC 7044 §10.1, TS 24.607 §4.5.2, TS 24.608 §4.5.2), and the message
-- without it.
use Rattle.std.specs.Prelude.{Bool, true, false, ◌&&◌, ◌||◌, if◌then◌else◌}
use Rattle.mmtel_compose.specs.ReceivedMessages.{MessageView}
use Rattle.mmtel_call.specs.Requests.{is_prack, is_update}
use Rattle.mmtel_message.specs.Faults.{is_request}
use Rattle.mmtel_trust.specs.ParsedMessage.{ParsedMessage}
use Rattle.mmtel_trust.specs.PrivateFields.{NoEntries, PrivateFields, hidden_entries, hidden_uri, joined_fields, masked_lines, only_entries, private_fields_in}
use Rattle.mmtel_trust.specs.PrivateFields.{private_in_callee_requests, private_in_callee_responses, private_in_caller_requests, private_in_caller_responses, private_in_opening}
use Rattle.mmtel_trust.specs.MaskedMessages.{private_entries}
use Rattle.mmtel_types.specs.declared.sides.Side.{Side}
use Rattle.mmtel_types.specs.declared.sides.Side.TheVariants.{Caller, Callee}

-- ---- the role of a message in a call

pub data Role : Type 0 where
  -- it opens a call of a restricted caller
  Opens : Role
  -- a restricted side sends it, in the call
  Sends : (side : Side) → Role
  -- neither
  Plain : Role

-- it hides its sender
abbrev pub hides : Role → Bool
hides Opens = true
hides (Sends side) = true
hides Plain = false

-- the INVITE that opens a call, whose caller is restricted or not
abbrev pub opening_role : (restricted : Bool) → Role
opening_role restricted = if restricted then Opens else Plain

-- a request of a side that is relayed to the other one while the call is offered
abbrev pub goes_across : Side → MessageView → Bool
goes_across Caller m = is_prack m || is_update m
goes_across Callee m = is_update m

-- ---- its private places

-- of a request or a response of a restricted side. The URI to which the callee redirects is not private
abbrev pub sent_fields : Side → (request : Bool) → PrivateFields
sent_fields Caller request = if request then private_in_caller_requests else private_in_caller_responses
sent_fields Callee request = if request then private_in_callee_requests else private_in_callee_responses

abbrev pub hidden_fields : Role → (request : Bool) → PrivateFields
hidden_fields Opens request = private_in_opening
hidden_fields (Sends side) request = sent_fields side request
hidden_fields Plain request = only_entries NoEntries

-- and the entries of History-Info that are private in any request
abbrev pub private_fields : Role → ParsedMessage → PrivateFields
private_fields role m = joined_fields (hidden_fields role (is_request m.start)) (only_entries (private_entries m))

-- ---- the message without them

-- if it comes from a trusted peer: what another one sends has no private place
abbrev pub hidden_by : (trusted : Bool) → PrivateFields → ParsedMessage → ParsedMessage
hidden_by trusted p m = record m {
  history = if trusted then hidden_entries p.history m.history else m.history;
  redirect = hidden_uri (trusted && p.redirect) m.redirect;
  lines = if trusted then masked_lines (private_fields_in m.start p) m.lines else m.lines;
}

abbrev pub without_private : Role → MessageView → MessageView
without_private role m = record m { parsed = hidden_by m.parsed.trusted (private_fields role m.parsed) m.parsed }
