use Rattle.std.proofs.Common.{◌≡◌, take, refl}
use Rattle.mmtel_message.specs.Addresses.{addr_text}
use Rattle.mmtel_message.proofs.AddressTheorems.{front_of}
use Rattle.mmtel_message.proofs.addresses.OwnAddress.of.Goals as goal

pub invariant_of-result : goal.invariant_of-result
invariant_of-result c =
    let text = c.put_addr-text_len.ensures.text 21 (refl, refl) in
    let front : take c.put_addr-text_len.result c.put_addr-text_len.new.out ≡ addr_text c.args.addr = front_of 21 _ _ _ text in
    let contact = c.put_three-contact_len.ensures.text 27 (refl, refl) in
    let via = c.put_three-via_len.ensures.text 48 (refl, refl) in
    (text, rw front at contact, rw front at via)
