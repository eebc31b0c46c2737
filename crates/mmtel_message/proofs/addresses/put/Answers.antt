use Rattle.std.proofs.Common.{◌≡◌, ℕ, ◌+◌, ◌-◌, length, ◌++◌, sym, arith}
use Rattle.std.proofs.lemmas.List.{length-append}
use Rattle.mmtel_message.proofs.AddressTheorems.{written_after}
use Rattle.mmtel_message.proofs.addresses.put.Goals as goal

pub returns-clause-text : goal.returns-clause-text
returns-clause-text c n text front =
    let count : c.args.at + length c.args.bytes.now - c.args.at ≡ length c.args.bytes.now = omega arith in
    let sum = length-append text c.args.bytes.now in
    (rw front.0 (sym sum), rw count (rw c.copy_from_slice.ensures.after (rw front.0 (written_after n text c.args.bytes.now c.args.out.now front.1))))
