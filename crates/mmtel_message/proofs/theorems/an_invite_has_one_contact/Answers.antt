use Rattle.mmtel_message.proofs.GuaranteeTheorems.{read_contact, read_contact_line}
use Rattle.mmtel_message.proofs.theorems.an_invite_has_one_contact.Goals as goal

pub returns : goal.returns
returns c = record {
  one = read_contact;
  first = read_contact_line;
}
