use Rattle.std.proofs.Common.{◌≡◌, true, arith}
use Rattle.mmtel_sdp.proofs.Parts.{media_line_by}
use Rattle.mmtel_sdp.proofs.media.media_line.Goals as goal

pub returns : goal.returns
returns c =
    let filled : c.are_filled.result ≡ true = grind arith in
    let words = media_line_by c.args.head.now c.in_ok-kind.kind.now c.in_ok-kind.rest.now c.in_ok-port.port.now c.in_ok-port.rest.now c.in_ok-proto.proto.now c.in_ok-proto.formats.now
    (rw c.are_filled.ensures at filled) c.in_ok-kind.ensures.words c.in_ok-port.ensures.words c.in_ok-proto.ensures.words in
    rw c.first_word.ensures words
