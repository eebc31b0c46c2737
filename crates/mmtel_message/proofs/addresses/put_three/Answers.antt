use Rattle.std.proofs.Common.{[], append_assoc}
use Rattle.mmtel_message.proofs.addresses.put_three.Goals as goal

pub returns-clause-text : goal.returns-clause-text
returns-clause-text c n none =
    let one = c.put-at.ensures.text n [] none in
    let two = c.put-at-2.ensures.text n _ one in
    let three = c.put.ensures.text n _ two in
    rw (append_assoc c.args.first.now c.args.second.now c.args.third.now) at three
