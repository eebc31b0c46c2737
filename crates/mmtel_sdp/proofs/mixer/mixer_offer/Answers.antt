use Rattle.mmtel_sdp.proofs.WrittenLines.{offer_is}
use Rattle.mmtel_sdp.proofs.AnswerTheorems.{offer_again, offer_ports}
use Rattle.mmtel_sdp.proofs.mixer.mixer_offer.Goals as goal

pub returns-clause-text : goal.returns-clause-text
returns-clause-text c = offer_is c.args.mixer c.in_ok-out.out c.add_media_line.new.out c.add_direction.new.out c.in_ok-out.ensures c.in_ok-add_media_line.ensures c.in_ok-add_direction.ensures

pub returns-clause-reads_back : goal.returns-clause-reads_back
returns-clause-reads_back c = rw (returns-clause-text c) (offer_again c.args.mixer)

pub returns-clause-ports : goal.returns-clause-ports
returns-clause-ports c = rw (returns-clause-text c) (offer_ports c.args.mixer)
