use Rattle.std.proofs.Common.{◌∷◌, [], append_assoc}
use Rattle.std.specs.Fmt.{decimal}
use Rattle.mmtel_message.specs.Addresses.{ip_text}
use Rattle.mmtel_message.proofs.addresses.put_addr.Goals as goal

pub returns-clause-text : goal.returns-clause-text
returns-clause-text c n none =
    let one = c.put_ip-at.ensures.text n none in
    let two = c.put-at.ensures.text n _ one in
    let three = c.put_number.ensures.text n _ two in
    rw (append_assoc (ip_text c.args.addr.ip) (58 ∷ []) (decimal c.args.addr.port)) at three
