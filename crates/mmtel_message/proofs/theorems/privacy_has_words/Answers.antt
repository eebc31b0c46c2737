use Rattle.mmtel_message.proofs.GuaranteeTheorems.{read_words}
use Rattle.mmtel_message.proofs.theorems.privacy_has_words.Goals as goal

pub returns : goal.returns
returns c = record {
  words = read_words;
}
