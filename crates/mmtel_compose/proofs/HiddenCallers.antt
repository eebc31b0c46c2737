-- What an attempt towards an untrusted peer contains of the INVITE that opened the call.
use Rattle.std.proofs.Common.{◌≡◌, ◌∙◌, Bool, List, [], ap, cond, false, ℕ}
use Rattle.mmtel_history.specs.declared.entries.Entry.{Entry}
use Rattle.mmtel_leg.specs.declared.dialogues.Dialogue.{Dialogue}
use Rattle.mmtel_message.specs.Message.{Line}
use Rattle.mmtel_trust.specs.ParsedMessage.{ParsedMessage}
use Rattle.mmtel_trust.specs.MaskedMessages.{public_part}
use Rattle.mmtel_trust.specs.HeaderTable.{carried_history, carries_history, history_lines, passed_lines, shown_lines}
use Rattle.mmtel_trust.specs.declared.header_table.Facing.{Facing}
use Rattle.mmtel_types.specs.declared.addrs.Addr.{Addr}
use Rattle.mmtel_types.specs.declared.numbers.Peer.{Peer}
use Rattle.mmtel_compose.specs.Attempts.{first_destination, invite_of}

pub one_destination : (peer : Peer) (routes : List (List ℕ)) (m n : ParsedMessage) → public_part m ≡ public_part n → first_destination peer routes m ≡ first_destination peer routes n
one_destination peer routes m n public = ap (λ (x : ParsedMessage). first_destination peer routes x) public

pub one_showing : (f : Facing) (h k : List Entry) (m n : ParsedMessage) → public_part m ≡ public_part n
    → ((history : List Line) → passed_lines f false history m.lines ≡ passed_lines f false history n.lines) → history_lines f.mask_all false h ≡ history_lines f.mask_all false k
    → shown_lines f false h m.start m.lines ≡ shown_lines f false k n.start n.lines
one_showing f h k m n public shown entries =
    shown (carried_history f false h m.start)
    ∙ ap (λ (history : List Line). passed_lines f false history n.lines)
    (ap (λ (ls : List Line). cond (carries_history m.start) ls []) entries ∙ ap (λ (x : ParsedMessage). carried_history f false k x.start) public)

pub one_invite : (d : Dialogue) (sip : Addr) (branch : List ℕ) (waiting : Bool) (m n : ParsedMessage) (ls ms : List Line) → public_part m ≡ public_part n → ls ≡ ms →
    invite_of d sip branch ls waiting m ≡ invite_of d sip branch ms waiting n
one_invite d sip branch waiting m n ls ms public lines =
    ap (λ (x : ParsedMessage). invite_of d sip branch ls waiting x) public ∙ ap (λ (xs : List Line). invite_of d sip branch xs waiting n) lines
