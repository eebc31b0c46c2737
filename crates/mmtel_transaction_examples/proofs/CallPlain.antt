-- The responses of a call that are not reliable provisional ones.
use Rattle.std.proofs.Common.{◌≡◌, None, codes, refl}
use Rattle.mmtel_transaction.specs.Heads.{reliable_number}
use Rattle.mmtel_transaction_examples.specs.CallMessages.{Messages, response}
use Rattle.mmtel_transaction_examples.proofs.Stages.{not_numbered}

pub plain_busy : (c : Messages) → reliable_number c.busy ≡ None
plain_busy c = not_numbered c.busy (response 486 (codes "INVITE") (codes "i")) c.of_busy refl

pub plain_success : (c : Messages) → reliable_number c.success ≡ None
plain_success c = not_numbered c.success (response 200 (codes "INVITE") (codes "i")) c.of_success refl
