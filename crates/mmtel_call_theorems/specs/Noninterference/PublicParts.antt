-- What the transitions of the step table have in common, over public parts.
use Rattle.std.specs.Prelude.{◌≡◌, ℕ, false, List}
use Rattle.mmtel_rules.specs.declared.values.Identities2.{Identities2}
use Rattle.mmtel_types.specs.declared.numbers.Peer.{Peer}
use Rattle.std.specs.Prelude.{Bool}
use Rattle.mmtel_call.specs.declared.calls.Call.{Call}
use Rattle.mmtel_call.specs.Settled.{has_received, has_sent, is_over_in, is_settled}
use Rattle.mmtel_transaction.specs.declared.words.TKey.{TKey}
use Rattle.mmtel_compose.specs.ReceivedMessages.{MessageView}
use Rattle.mmtel_message.specs.Faults.{is_request}
use Rattle.mmtel_call_theorems.specs.Noninterference.PublicCall.{public_call}
use Rattle.mmtel_call_theorems.specs.Noninterference.Premises.{HasNothingPrivate}
use Rattle.mmtel_call_theorems.specs.Noninterference.Roles.{Plain, Role}

-- the public part of a public part is that part, whatever identities were in it
abbrev pub PublicPartsAreIdempotent : Type 0
PublicPartsAreIdempotent = (trusts : Peer → Bool) (one other : Identities2) (c : Call) → public_call trusts one (public_call trusts other c) ≡ public_call trusts one c

-- it determines whether the call is over, whether anything may still be received for it, and which requests and client transactions belong to it
pub record PublicPartsDetermineQueries : Type 0 where
  pub over : (trusts : Peer → Bool) (who : Identities2) (c : Call) → is_over_in (public_call trusts who c).phase ≡ is_over_in c.phase
  pub settled : (trusts : Peer → Bool) (who : Identities2) (c : Call) → is_settled (public_call trusts who c) ≡ is_settled c
  pub sent : (trusts : Peer → Bool) (who : Identities2) (branch : List ℕ) (c : Call) → has_sent branch (public_call trusts who c) ≡ has_sent branch c
  pub received : (trusts : Peer → Bool) (who : Identities2) (key : TKey) (c : Call) → has_received key (public_call trusts who c) ≡ has_received key c

-- nothing is private in what an untrusted peer sends, nor in a response that is not of a restricted side
pub record MessagesHaveNothingPrivate : Type 0 where
  pub untrusted : (role : Role) (m : MessageView) → m.parsed.trusted ≡ false → HasNothingPrivate role m
  pub responses : (m : MessageView) → is_request m.parsed.start ≡ false → HasNothingPrivate Plain m
