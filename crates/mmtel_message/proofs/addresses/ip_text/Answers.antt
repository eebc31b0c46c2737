use Rattle.std.proofs.Common.{◌≡◌, take, refl}
use Rattle.mmtel_message.specs.Addresses.{ip_text}
use Rattle.mmtel_message.proofs.AddressTheorems.{front_of}
use Rattle.mmtel_message.proofs.addresses.ip_text.Goals as goal

pub returns : goal.returns
returns c =
    let front : take c.put_ip-len.result c.put_ip-len.new.out ≡ ip_text c.args.ip = front_of 21 _ _ _ (c.put_ip-len.ensures.text 21 (refl, refl)) in
    record { text = rw front at c.of.ensures }
