use Rattle.mmtel_sdp.proofs.Parts.{words_by, shorter_by}
use Rattle.mmtel_sdp.proofs.media.next_word.Goals as goal

pub returns-clause-words : goal.returns-clause-words
returns-clause-words c = words_by c.split_once_at.result c.args.text.now c.split_once_at.ensures

pub returns-clause-shorter : goal.returns-clause-shorter
returns-clause-shorter c = shorter_by 32 c.split_once_at.result c.args.text.now c.split_once_at.ensures
