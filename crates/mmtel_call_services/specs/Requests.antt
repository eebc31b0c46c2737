-- What is decided of a request of a side, and of a retransmitted 2xx: to which 2xx an ACK belongs (RFC 3261 §13.2.2.4), whether a 2xx is of another dialog (§13.2.2.4), the status
-- of the response to a request for which the step table has no transition (§11.2, §12.2.2), and why an UPDATE is not relayed (RFC 3311 §5.2).
use Rattle.std.specs.Prelude.{ℕ, if◌then◌else◌, Option, Some, None, codes}
pub use Rattle.mmtel_compose.specs.ReceivedMessages.{number_of}
pub use Rattle.mmtel_sip_rules.specs.Invites.{is_of_dialog}
pub use Rattle.mmtel_sip_rules.specs.Requests.{is_ack_of, is_same_number, is_same_side}
use Rattle.mmtel_leg.specs.declared.dialogues.DialogueFault.{DialogueFault}
use Rattle.mmtel_leg.specs.declared.dialogues.DialogueFault.TheVariants.{Pending, Unfinished}
use Rattle.mmtel_message.specs.Faults.{is_method}
use Rattle.mmtel_message.specs.declared.messages.Start.{Start}
use Rattle.mmtel_types.specs.declared.sides.Side.{Side}

-- OPTIONS, REFER, which only a conference accepts, and a request for which this is the wrong state
abbrev pub unlisted_status : Start → ℕ
unlisted_status start = if is_method (codes "OPTIONS") start then 200 else if is_method (codes "REFER") start then 403 else 481

-- an UPDATE of a side while one is in flight: the UPDATE of the same side has no final response yet, or this one crosses that of the other side
abbrev pub refusal_of_update : (updating : Option Side) → Side → Option DialogueFault
refusal_of_update None side = None
refusal_of_update (Some other) side = if is_same_side other side then Some Unfinished else Some Pending
