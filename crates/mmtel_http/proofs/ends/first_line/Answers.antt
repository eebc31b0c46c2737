use Rattle.mmtel_http.proofs.LineTheorems.{split_is_read}
use Rattle.mmtel_http.proofs.ends.first_line.Goals as goal

pub returns : goal.returns
returns c = split_is_read c.args.bytes.now c.split_once_at.result c.split_once_at.ensures
