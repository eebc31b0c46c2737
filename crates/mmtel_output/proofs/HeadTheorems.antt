-- Methods that the server sends are tokens, and an empty list of shown lines adds no line.
use Rattle.std.proofs.Common.{ℕ, arith, codes, refl}
use Rattle.mmtel_base.specs.Classes.{in_class}
use Rattle.mmtel_lex.specs.Grammar.{IsToken}
use Rattle.mmtel_lex.specs.declared.values.NameAddr.{NameAddr}
use Rattle.mmtel_leg.specs.Requests.{RequestPartsView}
use Rattle.mmtel_leg.specs.declared.dialogues.Dialogue.{Dialogue}
use Rattle.mmtel_compose.specs.Requests.{bare_parts}
use Rattle.mmtel_output.specs.Heads.{CanBeSent}

pub invite_token : IsToken (codes "INVITE")
unfolding in_class
invite_token = record { filled = omega arith; each = refl }

pub cancel_token : IsToken (codes "CANCEL")
unfolding in_class
cancel_token = record { filled = omega arith; each = refl }

-- a request without added lines can be sent where any can
pub bare_too : (d : Dialogue) (number : ℕ) (given : RequestPartsView) (from to : NameAddr) → CanBeSent d number given from to → CanBeSent d number (bare_parts given.sip given.branch) from to
bare_too d number given from to can = record {
  from_read = can.from_read;
  to_read = can.to_read;
  call_id = can.call_id;
  small = can.small;
  branch = can.branch;
  sip = can.sip;
  port = can.port;
  none = record { from = refl; to = refl; call_id = refl; cseq = refl };
}
