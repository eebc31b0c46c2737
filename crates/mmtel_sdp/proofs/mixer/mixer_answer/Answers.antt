use Rattle.std.proofs.Common.{◌≡◌, true, arith}
use Rattle.mmtel_sdp.specs.Mixer.{has_audio}
use Rattle.mmtel_sdp.proofs.WrittenLines.{answer_is}
use Rattle.mmtel_sdp.proofs.AnswerTheorems.{reads_back_by, ports_by}
use Rattle.mmtel_sdp.proofs.mixer.mixer_answer.Goals as goal

pub returns-clause-text : goal.returns-clause-text
returns-clause-text c = answer_is c.args.view.now c.args.mixer c.answer_direction.result c.items-media.result.now c.in_ok-out.out c.add_answer_media.new.out c.items-media.ensures
    c.answer_direction.ensures c.in_ok-out.ensures c.in_ok-add_answer_media.ensures

pub returns-clause-reads_back : goal.returns-clause-reads_back
returns-clause-reads_back c = λ body read.
    let found : c.has_audio.result ≡ true = grind arith in
    let has : has_audio c.args.view.now.media ≡ true = rw (c.has_audio.ensures, c.items-media.ensures) at found in
    reads_back_by c.args.view.now c.args.mixer c.add_answer_media.new.out body has (returns-clause-text c) read

pub returns-clause-ports : goal.returns-clause-ports
returns-clause-ports c = λ body read. ports_by c.args.view.now c.args.mixer c.add_answer_media.new.out body (returns-clause-text c) read
