-- The parts of the requests that the server makes in a dialog, where they relay a request of the other side and where they relay none (RFC 3261 §12.2.1.1, §16.6); and what
-- copies fields of an INVITE: CANCEL (§9.1) and the ACK of a final from 300 (§17.1.1.3).
use Rattle.std.specs.Prelude.{ℕ, ◌-◌, Option, Some, None, List, [], codes}
use Rattle.mmtel_leg.specs.Requests.{RequestPartsView, request_numbered}
use Rattle.mmtel_leg.specs.declared.dialogues.Dialogue.{Dialogue}
use Rattle.mmtel_message.specs.Message.{Line, Message}
use Rattle.mmtel_message.specs.declared.messages.Start.{Start}
use Rattle.mmtel_trust.specs.ParsedMessage.{ParsedMessage}
use Rattle.mmtel_types.specs.declared.addrs.Addr.{Addr}
use Rattle.mmtel_types.specs.declared.sides.Side.TheVariants.{Callee}

-- one hop less; 70 where the sender gives no number (§16.6, §20.22), and none remains of none
abbrev pub remaining_hops : Option ℕ → ℕ
remaining_hops None = 69
remaining_hops (Some n) = n - 1

-- of a request that relays none, with these named lines and this body
abbrev pub own_parts : Addr → (branch : List ℕ) → (named : List Line) → (body : List ℕ) → RequestPartsView
own_parts sip branch named body = record { sip = sip; hops = 70; branch = branch; shown = named; body = body }

-- of one without lines of its own and without a body
abbrev pub bare_parts : Addr → (branch : List ℕ) → RequestPartsView
bare_parts sip branch = own_parts sip branch [] []

-- of a request that relays this one, with these lines of it
abbrev pub relayed_parts : Addr → (branch : List ℕ) → (passed : List Line) → ParsedMessage → RequestPartsView
relayed_parts sip branch passed m = record { sip = sip; hops = remaining_hops m.hops; branch = branch; shown = passed; body = m.body }

-- ---- what copies fields of an INVITE that was sent in this dialog with this number and this branch

-- CANCEL
abbrev pub cancel_of : Dialogue → (number : ℕ) → Addr → (branch : List ℕ) → Message Start
cancel_of d number sip branch = request_numbered d number (codes "CANCEL") (bare_parts sip branch)

-- the dialog with this To, otherwise unchanged
abbrev pub with_to : Dialogue → (to : List ℕ) → Dialogue
with_to d to = record d { side = Callee; remote = to; remote_tag = [] }

-- the ACK of a final from 300, with the To of that final
abbrev pub final_ack_of : Dialogue → (number : ℕ) → Addr → (branch to : List ℕ) → Message Start
final_ack_of d number sip branch to = request_numbered (with_to d to) number (codes "ACK") (bare_parts sip branch)
