use Rattle.std.proofs.Common.{ℕ, List, ◌∷◌, [], get_or}
use Rattle.std.specs.Fmt.{decimal}
use Rattle.mmtel_message.proofs.AddressTheorems.{seven_appended}
use Rattle.mmtel_message.proofs.addresses.put_ip.Goals as goal

pub returns-clause-text : goal.returns-clause-text
returns-clause-text c n none =
    let one = c.put_number-at.ensures.text n [] none in
    let two = c.put-at.ensures.text n _ one in
    let three = c.put_number-at-2.ensures.text n _ two in
    let four = c.put-at-2.ensures.text n _ three in
    let five = c.put_number-at-3.ensures.text n _ four in
    let six = c.put-at-3.ensures.text n _ five in
    let seven = c.put_number.ensures.text n _ six in
    let part : ℕ → List ℕ = λ i. decimal (get_or c.args.ip i 0) in
    rw (seven_appended (part 0) (46 ∷ []) (part 1) (46 ∷ []) (part 2) (46 ∷ []) (part 3)) at seven
