-- Reliable provisional responses in an offered call, and their PRACKs (RFC 3262): such a response is relayed once, under a number of the server's own, and waits for the PRACK of
-- the caller, which is relayed to the target under the target's number.
use Rattle.std.specs.Prelude.{ℕ, ◌+◌, ◌||◌, not, Bool, if◌then◌else◌, Option, Some, None, List, ◌++◌, codes}
use Rattle.std.specs.Str.{bytes_eq}
use Rattle.mmtel_base.specs.Chain.{◌>>=◌}
use Rattle.mmtel_compose.specs.ReceivedMessages.{MessageView, to_tag_of}
use Rattle.mmtel_output.specs.Outputs.{with_emit}
use Rattle.mmtel_output.specs.SentInvites.{after_early_request}
use Rattle.mmtel_output.specs.Sending.{with_relayed_request, with_relayed_response}
use Rattle.mmtel_output.specs.declared.outputs.StepOutput.{StepOutput}
use Rattle.mmtel_reliable.specs.Acks.{after_ack, callee_number, own_number}
use Rattle.mmtel_reliable.specs.Racks.{rack_of}
use Rattle.mmtel_reliable.specs.declared.racks.Rack.{Rack}
use Rattle.mmtel_transaction.specs.declared.words.DueWord.TheVariants as due
use Rattle.mmtel_transaction.specs.declared.words.Emit.TheVariants as emit
use Rattle.mmtel_transaction.specs.declared.words.TKey.{TKey}
use Rattle.mmtel_types.specs.declared.sides.Side.TheVariants.{Caller, Callee}
use Rattle.mmtel_call_services.specs.Reliable.{rack_line, reliable_lines}
use Rattle.mmtel_call_services.specs.CopiedHeaders.{copied_lines}
use Rattle.mmtel_call_services.specs.CallConfig.{CallConfigView}
use Rattle.mmtel_call.specs.Calls.{AttemptLegView, Call, Offered, OfferedAttempt, Prack, Service}
use Rattle.mmtel_call.specs.Closing.{StepResult, step_result}
use Rattle.mmtel_call.specs.RelayedTransactions.{leg_after_request, relayed_transaction_of, with_settled, with_transaction}
use Rattle.mmtel_call.specs.Sending.{with_status_to}

-- ---- a reliable response

-- whether it is of the early dialog, if there is one: each dialog has RSeq numbers of its own (§4)
abbrev pub is_of_early : AttemptLegView → MessageView → Bool
is_of_early callee m = not callee.is_early || bytes_eq callee.leg.dialogue.remote_tag (to_tag_of m)

-- the own number under which the response of this number is relayed, if it is
abbrev pub own_rseq_for : ℕ → OfferedAttempt → MessageView → Call → Option ℕ
own_rseq_for rseq x m c = if is_of_early x.callee m then own_number rseq c.acks else None

-- how long such a response waits for its PRACK (§3: 64*T1), in milliseconds
abbrev pub prack_time : ℕ
prack_time = 32000

abbrev pub with_prack_timer : (own at : ℕ) → Call → StepOutput → StepOutput
with_prack_timer own at c output = with_emit (emit.Arm c.opening.number (due.NoPrack own) (at + prack_time)) output

-- to the caller, under the server's own number
abbrev pub with_reliable_response : CallConfigView → Call → Option Service → (own : ℕ) → MessageView → StepOutput → StepOutput
with_reliable_response config c service own m output =
    with_relayed_response config.sip c.opening.key c.opening.invite c.opening.tag
    (copied_lines config c.opening c.diversions service Callee c.opening.invite.peer m ++ reliable_lines own) m output

-- ---- a request within the early dialog

-- after its leg has sent it; the same is recorded with the INVITE, because a late 2xx of this dialog continues from there
abbrev pub attempt_after_early_request : List ℕ → OfferedAttempt → OfferedAttempt
attempt_after_early_request method x = record x {
  callee = record x.callee { leg = leg_after_request method x.callee.leg };
  attempt = record x.attempt { invite = after_early_request x.attempt.invite };
}

-- ---- a PRACK

-- what it acknowledges, if that can be parsed
abbrev pub rack_in : MessageView → Option Rack
rack_in m = m.parsed.rack >>= rack_of

-- the status for a PRACK that acknowledges no response that waits
abbrev pub status_of_refusal : Option Rack → ℕ
status_of_refusal None = 400
status_of_refusal (Some rack) = 481

abbrev pub on_refused_prack : CallConfigView → TKey → MessageView → Call → StepOutput → StepResult
on_refused_prack config key m c output = step_result c (with_status_to config c key m (status_of_refusal (rack_in m)) output)

-- the target's number of the response that it acknowledges
abbrev pub named_rseq : OfferedAttempt → Call → Rack → Option ℕ
named_rseq x c rack = if x.callee.is_early then callee_number rack c.acks else None

-- it is relayed to the target, with the target's number and the CSeq number of the INVITE of the attempt (§7.2)
abbrev pub after_prack_across : CallConfigView → OfferedAttempt → TKey → MessageView → Rack → (answer : ℕ) → Call → StepOutput → StepResult
after_prack_across config x key m rack answer c output = record {
  call = with_transaction (relayed_transaction_of Prack Caller key m (leg_after_request (codes "PRACK") x.callee.leg) output)
      (record c { acks = after_ack rack c.acks; phase = Offered (attempt_after_early_request (codes "PRACK") x) });
  output = with_relayed_request config.sip (codes "PRACK") x.callee.leg.dialogue
      (copied_lines config c.opening c.diversions x.attempt.service Caller x.callee.leg.dialogue.peer m ++ rack_line answer x.attempt.invite.number) m.parsed
      (with_settled config (Some rack.answer) c output);
}

abbrev pub on_named_prack : CallConfigView → OfferedAttempt → TKey → MessageView → Rack → Option ℕ → Call → StepOutput → StepResult
on_named_prack config x key m rack None c output = on_refused_prack config key m c output
on_named_prack config x key m rack (Some answer) c output = after_prack_across config x key m rack answer c output

abbrev pub on_rack : CallConfigView → OfferedAttempt → TKey → MessageView → Option Rack → Call → StepOutput → StepResult
on_rack config x key m None c output = on_refused_prack config key m c output
on_rack config x key m (Some rack) c output = on_named_prack config x key m rack (named_rseq x c rack) c output

-- a PRACK of the caller; the target has no reliable response to acknowledge
abbrev pub on_prack : CallConfigView → OfferedAttempt → TKey → MessageView → Call → StepOutput → StepResult
on_prack config x key m c output = on_rack config x key m (rack_in m) c output
