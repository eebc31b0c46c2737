use Rattle.mmtel_message.proofs.RoundTrip.{text_reads_back}
use Rattle.mmtel_message.proofs.messages.Msg.text.Goals as goal

pub returns-clause-reads_back : goal.returns-clause-reads_back
returns-clause-reads_back c = λ is within. text_reads_back c.args.self.now is within c.message_text.result c.message_text.ensures
