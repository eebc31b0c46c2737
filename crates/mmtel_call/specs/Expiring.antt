-- The session of an answered call that nobody refreshes (RFC 4028 §10): the call ends, with a BYE to both sides.
use Rattle.std.specs.Prelude.{ℕ, ◌==◌, Bool, false}
use Rattle.mmtel_output.specs.declared.outputs.StepOutput.{StepOutput}
use Rattle.mmtel_transaction.specs.declared.words.DueWord.{DueWord}
use Rattle.mmtel_transaction.specs.declared.words.DueWord.TheVariants as due
use Rattle.mmtel_types.specs.declared.sides.Side.{Side}
use Rattle.mmtel_call_services.specs.CallConfig.{CallConfigView}
use Rattle.mmtel_call.specs.Calls.{Call, EstablishedLegs, Reinvite}
use Rattle.mmtel_call.specs.Closing.{StepResult, established_call_end}
use Rattle.mmtel_call.specs.Reinvites.{abandoned_across, with_byes}
use Rattle.mmtel_call.specs.Ringing.{with_abandoned}
use Rattle.mmtel_call.specs.Sending.{with_status_to}

-- whether the deadline is that of the session which the last 2xx set, by the number of 2xx that were relayed to a side: an earlier deadline is superseded, also where the last 2xx
-- sets none
abbrev pub is_expiry : (successes : ℕ) → DueWord → Bool
is_expiry successes (due.NoReply number) = false
is_expiry successes (due.NoPrack number) = false
is_expiry successes (due.Cap number) = false
is_expiry successes (due.NoAck number) = false
is_expiry successes (due.Expired number) = number == successes

-- of a stable call: BYE to both
abbrev pub after_expiry : CallConfigView → (at : ℕ) → EstablishedLegs → Call → StepOutput → StepResult
after_expiry config at x c output = established_call_end at x c (with_byes config x output)

-- while an INVITE has no final response: 487 to it, BYE to both. The INVITE is abandoned, and the other side has got its BYE, so a late 2xx needs no other
abbrev pub after_expiry_reinviting : CallConfigView → (at : ℕ) → EstablishedLegs → (asking : Side) → Reinvite → Call → StepOutput → StepResult
after_expiry_reinviting config at x asking q c output =
    established_call_end at x (with_abandoned (abandoned_across x asking asking q) c) (with_byes config x (with_status_to config c q.key q.request 487 output))
